-- What calls keep of a pool's book.
use Rattle.std.specs.Prelude.{unwrap_or}
use Rattle.std.specs.Option.{option_map_or}
use Rattle.std.proofs.Common.{◌≡◌, ◌⊎◌, ℕ, ◌+◌, ◌*◌, ◌<◌, ◌≤◌, ◌==◌, ◌&&◌, not, Bool, true, false, if◌then◌else◌, List, [], slice_get, Option, Some, None, option_map, Result, refl, sym, ap, ap₂, subst, ◌∙◌, inl, inr, arith, eqb-true, lt-ltb}
use Rattle.std.proofs.lemmas.Bool.{and_parts, both_ways, cases_Bool, cases_eq}
use Rattle.arrayvec.specs.ArrayVec.{ArrayVec}
use Rattle.rack.specs.Seen.{RackView}
use Rattle.array_image.specs.Arrays.{place_with}
use Rattle.array_image.specs.States.{is_current}
use Rattle.array_model.specs.declared.Seat.{Seat}
use Rattle.array_model.specs.declared.Seat.TheVariants.{Whole, Missing, Rebuilding}
use Rattle.array_model.specs.View.{View as ArrayView, HasGeometry, has_gone, is_missing_seat, member_on, place_at, seat_reach, seat_unless, IsArray}
use Rattle.array_core.specs.Seats.{gone, names, seat_of}
use Rattle.sync_laws.specs.Steps.{reach_on, rebuilt, rebuilt_seat, resynced, rows_left}
use Rattle.raid_laws.proofs.RowsRebuilt.{other_seat, own, own_before, own_seat}
use Rattle.pool_state.specs.declared.contents.State.{State}
use Rattle.pool_state.specs.declared.contents.Work.{Work}
use Rattle.pool_state.specs.declared.contents.Work.TheVariants.{Resync, Rebuild, TakeOver, Begin, Reshape, Finish, Make, Zero, Ready, Extend, Close}
use Rattle.raid_laws.specs.Book.{OnlyMarksSince}
use Rattle.raid_laws.specs.Losing.{geometry_then, only_then}
use Rattle.raid_laws.specs.Moves.{IsHeeded, IsSeated, IsSet, KeepsArrays, OnlyFailures, noted_at}
use Rattle.raid_laws.specs.Raid.{Raid}
use Rattle.raid_laws.specs.Works.{Does, is_due, is_rebuilding_seat, is_whole_row, stepped}
use Rattle.raid_rack.proofs.Raises.{raises_more, raises_none}
use Rattle.raid_rack.proofs.Rebuilt.{row_left}
use Rattle.raid_laws.proofs.Seated.{gone_lost}
use Rattle.pool.specs.View.{View, book}
use Rattle.pool.specs.Keeping.{HasMarkedSeats, KeepsArray, KeepsBook, Raises, most_raised}

-- ---- an array

pub geometry_same : (u : ArrayView) → HasGeometry u.truth u.truth
geometry_same u = record { set = refl; level = refl; size = refl; disks = refl; roles = refl; features = refl; position = refl }

pub array_same : (s : State) (u : ArrayView) → KeepsArray s u u
array_same s u = record { geometry = geometry_same u; young = refl; rows = omega arith; members = λ k low current. omega arith }

-- the places of members go by the roles
pub same_place : (u w : ArrayView) (k : ℕ) → HasGeometry u.truth w.truth → place_at w k ≡ place_at u k
same_place u w k geometry = ap (λ (r : ArrayVec ℕ). unwrap_or (place_with r.items k) 16) geometry.roles

pub array_then : (s t : State) (u v w : ArrayView) → ((p : ℕ) → is_current t p ≡ true → is_current s p ≡ true)
    → KeepsArray s u v → KeepsArray t v w → KeepsArray t u w
array_then s t u v w fewer one two = record {
  geometry = geometry_then u.truth v.truth w.truth one.geometry two.geometry;
  young = two.young ∙ one.young;
  rows = let a = one.rows in let b = two.rows in omega (arith, a, b);
  members = λ k low current.
      let a = one.members k low (subst (λ p. is_current s p ≡ true) (same_place v w k two.geometry) (fewer (place_at w k) current)) in
      let b = two.members k (subst (λ n. k < n) (sym one.geometry.disks) low) current in
      omega (arith, a, b);
}

-- a member that isn't missing, where just those are that are marked or have gone
not_marked : (current gone : Bool) → gone ≡ false → Some true ≡ Some (not (current && not gone)) → current ≡ false
not_marked false gone none is = refl
not_marked true true none is = absurd (both_ways true none refl)
not_marked true false none is = absurd (let bad : Some true ≡ Some false = is in cc)

none_gone : (w : ArrayView) (p : ℕ) → w.went ≡ [] → has_gone w p ≡ false
none_gone w p heeded = ap (λ ps. names ps p) heeded

pub array_lost : (s : State) (n : ℕ) (u w : ArrayView) (y : RackView) → IsSeated s n w y → w.went ≡ [] → OnlyFailures u w → KeepsArray s u w
array_lost s n u w y seated heeded only = record {
  geometry = only.same.geometry;
  young = only.same.young;
  rows = let e = only.same.resync in omega (arith, e);
  members = λ k low current.
      elim (only.seats k) [
        | inl same ↦
            let e : (member_on w k).reach ≡ (member_on u k).reach =
            ap₂ (λ (size : ℕ) (o : Option Seat). option_map_or (seat_reach size) o 0) only.same.geometry.size same in
            omega (arith, e)
        | inr lost ↦
            absurd
            (both_ways (is_current s (place_at w k))
            (not_marked (is_current s (place_at w k)) (has_gone w (place_at w k)) (none_gone w (place_at w k) heeded)
            (sym (ap (option_map is_missing_seat) lost) ∙ seated.marks k (subst (λ m. k < m) (sym only.same.geometry.disks) low)))
            current)
      ];
}

array_resynced : (s : State) (u : ArrayView) (rows : ℕ) → KeepsArray s u (resynced u rows)
array_resynced s u rows = record {
  geometry = record { set = refl; level = refl; size = refl; disks = refl; roles = refl; features = refl; position = refl };
  young = refl;
  rows = omega arith;
  members = λ k low current. omega arith;
}

array_rebuilt : (s t : State) (n : ℕ) (u : ArrayView) (x : RackView) (place rows : ℕ) → IsSeated s n u x
    → option_map_or is_rebuilding_seat (seat_of u place) false ≡ true → rows ≤ rows_left u place → KeepsArray t u (rebuilt u place rows)
array_rebuilt s t n u x place rows seated rebuilds left =
    let has = row_left s n u x place seated rebuilds in
    let p = own u place rows seated.is_array has left in
    let reach : Option Seat → ℕ = λ o. option_map_or (seat_reach u.truth.size) o 0 in
    record {
      geometry = geometry_same u;
      young = refl;
      rows = omega arith;
      members = λ k low current.
          elim (cases_eq k p) [
            | inl same ↦
                let before = ap reach (own_before u place rows seated.is_array has left) in
                let after = ap reach (own_seat u place rows seated.is_array has left) ∙ reach_there u.truth.size (reach_on u place + 128 * rows) in
                let more : (member_on u p).reach ≤ (member_on (rebuilt u place rows) p).reach = omega (arith, before, after) in
                subst (λ j. (member_on u j).reach ≤ (member_on (rebuilt u place rows) j).reach) (sym same) more
            | inr other ↦
                let e = ap reach (other_seat u place rows seated.is_array has left k other) in
                omega (arith, e)
          ];
    }
  where
    reach_there : (size to : ℕ) → seat_reach size (rebuilt_seat size to) ≡ to
    reach_there size to =
        elim (cases_Bool (to == size)) [
          | inl all ↦ ap (λ (b : Bool). seat_reach size (if b then Whole else Rebuilding to)) all ∙ sym (eqb-true to size all)
          | inr less ↦ ap (λ (b : Bool). seat_reach size (if b then Whole else Rebuilding to)) less
        ]

-- ---- all arrays

pub book_same : (v : Raid) → KeepsBook v v
book_same v n low = array_same v.state (v.arrays n)

pub book_then : (v w z : Raid) → w.state.made ≡ v.state.made → OnlyMarksSince w.state z.state → KeepsBook v w → KeepsBook w z → KeepsBook v z
book_then v w z made after one two n low =
    array_then w.state z.state (v.arrays n) (w.arrays n) (z.arrays n) after.current (one n low) (two n (subst (λ k. n < k) (sym made) low))

-- calls that lose members alone
pub book_lost : (v w : Raid) (y : RackView) → IsSet w y → IsHeeded w → w.state.made ≡ v.state.made → KeepsArrays v w → KeepsBook v w
book_lost v w y set heeded made keeps n low =
    let there = subst (λ k. n < k) (sym made) low in
    array_lost w.state n (v.arrays n) (w.arrays n) y (set.arrays n there) (heeded n there) (keeps n low)

pub book_seated : (w : Raid) (y : RackView) → IsSet w y → IsHeeded w → HasMarkedSeats w
book_seated w y set heeded n k low inside =
    let u = w.arrays n in
    let p = place_at u k in
    (set.arrays n low).marks k inside
    ∙ ap (λ gone. Some (not (is_current w.state p && not gone))) (none_gone u p (heeded n low))
    ∙ ap (λ b. Some (not b)) (and_true (is_current w.state p))
  where
    and_true : (b : Bool) → (b && true) ≡ b
    and_true true = refl
    and_true false = refl

-- a loss that is noted, and mended then
seat_lost : (places : List ℕ) (place : ℕ) (o : Option Seat) → (option_map (seat_unless (names places) place) o ≡ o) ⊎ (option_map (seat_unless (names places) place) o ≡ Some Missing)
seat_lost places place None = inl refl
seat_lost places place (Some seat) = by (names places place)
  where
    by : (lost : Bool) → (Some (if lost then Missing else seat) ≡ Some seat) ⊎ (Some (if lost then Missing else seat) ≡ Some Missing)
    by true = inr refl
    by false = inl refl

gone_only : (u : ArrayView) (places : List ℕ) → IsArray u → OnlyFailures u (gone places u)
gone_only u places is_array = record {
  same = record { number = refl; geometry = geometry_same u; devices = refl; resync = refl; young = refl };
  seats = λ k.
      elim (seat_lost places (place_at u k) (slice_get u.seats k)) [
        | inl same ↦ inl (gone_lost u places is_array k ∙ same)
        | inr lost ↦ inr (gone_lost u places is_array k ∙ lost)
      ];
}

pub arrays_noted : (v w : Raid) (x : RackView) (places : List ℕ) → IsSet v x → KeepsArrays (noted_at places v) w → KeepsArrays v w
arrays_noted v w x places before keeps n low =
    only_then (v.arrays n) (gone places (v.arrays n)) (w.arrays n) (gone_only (v.arrays n) places (before.arrays n low).is_array)
    (subst (λ (u : ArrayView). OnlyFailures u (w.arrays n)) (ap (λ b. if b then gone places (v.arrays n) else v.arrays n) (lt-ltb n v.state.made low)) (keeps n low))

-- a step of array m
book_stepped : (v w : Raid) (y : RackView) (m : ℕ) (next : ArrayView) (is_done : Bool) → IsSet w y → IsHeeded w → w.state.made ≡ v.state.made
    → (m < v.state.made → KeepsArray w.state (v.arrays m) next)
    → ((n : ℕ) → n < v.state.made → OnlyFailures (stepped v m next is_done n) (w.arrays n)) → KeepsBook v w
book_stepped v w y m next is_done set heeded made step only n low =
    let there = subst (λ k. n < k) (sym made) low in
    let seated = set.arrays n there in
    elim (cases_Bool ((n == m) && is_done)) [
      | inl done ↦
          let same = eqb-true n m (and_parts (n == m) is_done done).0 in
          let last = subst (λ (u : ArrayView). OnlyFailures u (w.arrays n)) (ap (λ b. if b then next else v.arrays n) done) (only n low) in
          array_then w.state w.state (v.arrays n) next (w.arrays n) (λ p is. is)
          (subst (λ k. KeepsArray w.state (v.arrays k) next) (sym same) (step (subst (λ k. k < v.state.made) same low)))
          (array_lost w.state n next (w.arrays n) y seated (heeded n there) last)
      | inr idle ↦
          array_lost w.state n (v.arrays n) (w.arrays n) y seated (heeded n there)
          (subst (λ (u : ArrayView). OnlyFailures u (w.arrays n)) (ap (λ b. if b then next else v.arrays n) idle) (only n low))
    ]

pub book_worked : (work : Work) (most : ℕ) (v w : Raid) (x y : RackView) {E : Type 0} (r : Result ℕ E) → IsSet v x → IsSet w y → IsHeeded w → is_due v work ≡ true
    → Does work most v w x y r → KeepsBook v w
book_worked (Resync m) most v w x y r before set heeded due does =
    book_stepped v w y m (resynced (v.arrays m) does.rows.rows) does.rows.steps.is_done set heeded does.rows.steps.brings.book.same.made
    (λ low. array_resynced w.state (v.arrays m) does.rows.rows) does.rows.steps.arrays
book_worked (Rebuild m place) most v w x y r before set heeded due does =
    let u = v.arrays m in
    let rebuilds = option_map_or is_rebuilding_seat (seat_of u place) false in
    let parts = and_parts _ (rebuilds && is_whole_row u.truth.resync_offset) due in
    book_stepped v w y m (rebuilt u place does.rows.rows) does.rows.steps.is_done set heeded does.rows.steps.brings.book.same.made
    (λ low. array_rebuilt v.state w.state m u x place does.rows.rows (before.arrays m low) (and_parts rebuilds (is_whole_row u.truth.resync_offset) parts.1).0 does.rows.left)
    does.rows.steps.arrays
book_worked (TakeOver m) most v w x y r before set heeded due does = absurd does
book_worked (Begin m place) most v w x y r before set heeded due does = absurd does
book_worked (Reshape m) most v w x y r before set heeded due does = absurd does
book_worked (Finish m) most v w x y r before set heeded due does = absurd does
book_worked (Make m height) most v w x y r before set heeded due does = absurd does
book_worked (Zero m) most v w x y r before set heeded due does = absurd does
book_worked (Ready m) most v w x y r before set heeded due does = absurd does
book_worked Extend most v w x y r before set heeded due does = absurd does
book_worked Close most v w x y r before set heeded due does =
    book_lost v w y set heeded does.1.brings.book.same.made does.1.arrays

-- ---- numbers

pub raises_fewer : (least most : ℕ) (x y : View) → least ≤ most → Raises least x y → Raises most x y
raises_fewer least most x y fewer raises = raises_more (most_raised * least) (most_raised * most) (book x) (book y) (omega (arith, fewer)) raises

pub raises_still : (calls : ℕ) (x : View) → Raises calls x x
raises_still calls x = raises_more 0 (most_raised * calls) (book x) (book x) (omega arith) (raises_none (book x))
