-- The arrays of a pool that has taken a drive in.
use Rattle.std.specs.List.{list_any, range_with_len}
use Rattle.std.specs.Option.{option_map_or}
use Rattle.std.proofs.Common.{◌≡◌, ◌≢◌, ℕ, zero, suc, ◌+◌, ◌<◌, ◌≤◌, ◌==◌, ◌&&◌, ◌||◌, nat_lt, not, Bool, true, false, if◌then◌else◌, List, [], ◌∷◌, map, slice_get, Option, Some, None, option_map, refl, sym, ap, subst, ◌∙◌, inl, inr, arith, le-ltb}
use Rattle.std.proofs.lemmas.Bool.{both_ways, cases_Bool, cases_eq, ne_eqb}
use Rattle.rack.specs.Seen.{RackView}
use Rattle.shr_base.specs.declared.Id.{Id}
use Rattle.pool_state.specs.declared.contents.Plan.{Plan}
use Rattle.pool_state.specs.declared.contents.State.{State}
use Rattle.array_image.specs.Arrays.{Member, layout_at}
use Rattle.array_image.specs.Spent.{wanting}
use Rattle.array_image.specs.States.{current_places, is_current}
use Rattle.array_image.specs.Stripes.{sector_in}
use Rattle.array_core.specs.Seats.{names, renewed}
use Rattle.array_model.proofs.Spared.{two_spent}
use Rattle.array_model.proofs.Views.{shape_members}
use Rattle.array_model.specs.declared.Seat.{Seat}
use Rattle.array_model.specs.declared.Seat.TheVariants.{Missing, Rebuilding}
use Rattle.array_model.specs.View.{View as ArrayView, IsArray, has_gone, member_on, place_at, seat_reach, shape_of, spent_in}
use Rattle.raid_laws.specs.Enlisting.{next_drive, with_drive}
use Rattle.raid_laws.specs.Losses.{has_other}
use Rattle.raid_laws.specs.Moves.{IsHeeded, IsSeated, IsSet, KeepsArrays}
use Rattle.raid_laws.specs.Raid.{Raid}
use Rattle.raid_laws.proofs.Added.{names_current}
use Rattle.array_core.specs.Slots.{place_by}
use Rattle.raid_laws.proofs.Seated.{zip_seats}
use Rattle.pool.specs.Keeping.{KeepsArray, KeepsArrayBut, KeepsBook, KeepsBookBut}
use Rattle.commit_log.proofs.Deciding.{names_first}
use Rattle.pool.proofs.Booked.{array_lost, array_same, geometry_same, same_place}
use Rattle.raid_laws.specs.Losing.{geometry_then}
use Rattle.pool.proofs.Quiet.{is_missing}

-- ---- a member

-- that of a place that isn't current is missing
missing_seat : (s : State) (n k : ℕ) (u : ArrayView) (x : RackView) → IsSeated s n u x → k < u.truth.raid_disks → is_current s (place_at u k) ≡ false
    → slice_get u.seats k ≡ Some Missing
missing_seat s n k u x seated low gone =
    is_missing (slice_get u.seats k) (seated.marks k low ∙ ap (λ b. Some (not (b && not (has_gone u (place_at u k))))) gone)

reach_of : (u : ArrayView) (k : ℕ) (o : Option Seat) → slice_get u.seats k ≡ o → (member_on u k).reach ≡ option_map_or (seat_reach u.truth.size) o 0
reach_of u k o is = ap (λ seat. option_map_or (seat_reach u.truth.size) seat 0) is

-- that of the place is renewed
renewed_seat : (u : ArrayView) (place k : ℕ) (drive : Id) → IsArray u
    → slice_get (renewed place drive u).seats k ≡ option_map (λ seat. if names (place ∷ []) (place_at u k) then Rebuilding 0 else seat) (slice_get u.seats k)
renewed_seat u place k drive is =
    zip_seats (λ p seat. if names (place ∷ []) p then Rebuilding 0 else seat) (place_by u.truth) 0 u.truth.raid_disks u.seats u.devices k is.seats is.devices
    ∙ ap (λ p. option_map (λ seat. if names (place ∷ []) (place_by u.truth p) then Rebuilding 0 else seat) (slice_get u.seats k)) (let e : 0 + k ≡ k = omega arith in e)

named_one : (place p : ℕ) → names (place ∷ []) p ≡ true → p ≡ place
named_one place p named =
    elim (cases_eq place p) [
      | inl same ↦ sym same
      | inr other ↦ absurd (both_ways (names (place ∷ []) p) (ap (λ b. b || false) (ne_eqb place p other)) named)
    ]

other_seat : (o : Option Seat) (b : Bool) → b ≡ false → option_map (λ seat. if b then Rebuilding 0 else seat) o ≡ o
other_seat None b is = refl
other_seat (Some seat) b is = ap (λ t. Some (if t then Rebuilding 0 else seat)) is

-- an array whose member of the place is renewed counts as far as it did, but for that member
array_renewed : (t : State) (place : ℕ) (drive : Id) (u : ArrayView) → IsArray u → KeepsArrayBut place t u (renewed place drive u)
array_renewed t place drive u is_array = record {
  geometry = geometry_same u;
  young = refl;
  rows = omega arith;
  members = λ k low current away.
      elim (cases_Bool (names (place ∷ []) (place_at u k))) [
        | inl own ↦ absurd (away (named_one place (place_at u k) own))
        | inr other ↦
            let same = renewed_seat u place k drive is_array ∙ other_seat (slice_get u.seats k) (names (place ∷ []) (place_at u k)) other in
            let e : (member_on (renewed place drive u) k).reach ≡ (member_on u k).reach = ap (λ seat. option_map_or (seat_reach u.truth.size) seat 0) same in
            omega (arith, e)
      ];
}

-- a book that keeps all members keeps all others
pub array_but : (place : ℕ) (t : State) (u w : ArrayView) → KeepsArray t u w → KeepsArrayBut place t u w
array_but place t u w keeps = record { geometry = keeps.geometry; young = keeps.young; rows = keeps.rows; members = λ k low current away. keeps.members k low current }

pub book_but : (place : ℕ) (v w : Raid) → KeepsBook v w → KeepsBookBut place v w
book_but place v w keeps n low = array_but place w.state (v.arrays n) (w.arrays n) (keeps n low)

but_then : (place : ℕ) (t : State) (u v w : ArrayView) → KeepsArrayBut place t u v → KeepsArray t v w → KeepsArrayBut place t u w
but_then place t u v w one two = record {
  geometry = geometry_then u.truth v.truth w.truth one.geometry two.geometry;
  young = two.young ∙ one.young;
  rows = let a = one.rows in let b = two.rows in omega (arith, a, b);
  members = λ k low current away.
      let same = same_place v w k two.geometry in
      let a = one.members k low (subst (λ p. is_current t p ≡ true) same current) (λ here. away (same ∙ here)) in
      let b = two.members k (subst (λ n. k < n) (sym one.geometry.disks) low) current in
      omega (arith, a, b);
}

-- calls before that kept them
then_but : (place : ℕ) (s t : State) (u v w : ArrayView) → ((p : ℕ) → is_current t p ≡ true → p ≢ place → is_current s p ≡ true) → KeepsArray s u v → KeepsArrayBut place t v w
    → KeepsArrayBut place t u w
then_but place s t u v w fewer one two = record {
  geometry = geometry_then u.truth v.truth w.truth one.geometry two.geometry;
  young = two.young ∙ one.young;
  rows = let a = one.rows in let b = two.rows in omega (arith, a, b);
  members = λ k low current away.
      let same = same_place v w k two.geometry in
      let a = one.members k low (subst (λ p. is_current s p ≡ true) same (fewer (place_at w k) current away)) in
      let b = two.members k (subst (λ n. k < n) (sym one.geometry.disks) low) current away in
      omega (arith, a, b);
}

pub book_then_but : (place : ℕ) (v w z : Raid) → w.state.made ≡ v.state.made → ((p : ℕ) → is_current z.state p ≡ true → p ≢ place → is_current w.state p ≡ true) → KeepsBook v w → KeepsBookBut place w z
    → KeepsBookBut place v z
book_then_but place v w z made fewer one two n low =
    then_but place w.state z.state (v.arrays n) (w.arrays n) (z.arrays n) fewer (one n low) (two n (subst (λ k. n < k) (sym made) low))

-- ---- all arrays

module _ (place units : ℕ) (plan : Plan) (joining : ℕ → Bool) (v w : Raid) (x y : RackView) (before : IsSet v x) (after : IsSet w y) (heeded : IsHeeded w)
    (made : w.state.made ≡ v.state.made) (keeps : KeepsArrays (with_drive place units plan joining v) w) where
  abbrev mid : ℕ → ArrayView
  mid = (with_drive place units plan joining v).arrays

  low_then : (n : ℕ) → n < v.state.made → n < w.state.made
  low_then n low = subst (λ k. n < k) (sym made) low

  -- each keeps its members, but for that of the place
  pub book_enlisted : KeepsBookBut place v w
  book_enlisted n low =
      but_then place w.state (v.arrays n) (mid n) (w.arrays n) (first (joining n))
      (array_lost w.state n (mid n) (w.arrays n) y (after.arrays n (low_then n low)) (heeded n (low_then n low)) (keeps n low))
    where
      first : (b : Bool) → KeepsArrayBut place w.state (v.arrays n) (if b then renewed place (next_drive v.state) (v.arrays n) else v.arrays n)
      first true = array_renewed w.state place (next_drive v.state) (v.arrays n) (before.arrays n low).is_array
      first false = array_but place w.state (v.arrays n) (v.arrays n) (array_same w.state (v.arrays n))

  -- ---- no other drive is left

  any_other : (ps : List ℕ) (p : ℕ) → names ps p ≡ true → p ≢ place → list_any (λ q. not (q == place)) ps ≡ true
  any_other [] p named other = absurd (both_ways false refl named)
  any_other (q ∷ ps) p named other =
      elim (cases_eq q p) [
        | inl same ↦ ap (λ b. not b || list_any (λ r. not (r == place)) ps) (ne_eqb q place (λ e. other (sym same ∙ e)))
        | inr not_it ↦
            let rest = any_other ps p (sym (ap (λ b. b || names ps p) (ne_eqb q p not_it)) ∙ named) other in
            ap (λ b. not (q == place) || b) rest ∙ or_true (not (q == place))
      ]
    where
      or_true : (b : Bool) → (b || true) ≡ true
      or_true true = refl
      or_true false = refl

  module _ (reaches : (n k : ℕ) → n < v.state.made → k < (v.arrays n).truth.raid_disks → place_at (v.arrays n) k ≡ place → joining n ≡ true)
      (alone : has_other w.state place ≡ false) (n : ℕ) (low : n < v.state.made) where
    -- the member of the place has rebuilt nothing
    own_reach : (k : ℕ) → k < (v.arrays n).truth.raid_disks → place_at (v.arrays n) k ≡ place → (member_on (w.arrays n) k).reach ≡ 0
    own_reach k inside is =
        elim ((keeps n low).seats k) [
          | inl same ↦
              none_of (slice_get (w.arrays n).seats k) (slice_get (v.arrays n).seats k)
              (same ∙ ap (λ b. slice_get (if b then renewed place (next_drive v.state) (v.arrays n) else v.arrays n).seats k) (reaches n k low inside is)
              ∙ renewed_seat (v.arrays n) place k (next_drive v.state) (before.arrays n low).is_array
              ∙ ap (λ b. option_map (λ seat. if b then Rebuilding 0 else seat) (slice_get (v.arrays n).seats k)) (ap (names (place ∷ [])) is ∙ names_first place []))
          | inr lost ↦ reach_of (w.arrays n) k (Some Missing) lost
        ]
      where
        none_of : (o p : Option Seat) → o ≡ option_map (λ seat. Rebuilding 0) p → option_map_or (seat_reach (w.arrays n).truth.size) o 0 ≡ 0
        none_of o None is = ap (λ q. option_map_or (seat_reach (w.arrays n).truth.size) q 0) is
        none_of o (Some seat) is = ap (λ q. option_map_or (seat_reach (w.arrays n).truth.size) q 0) is

    same_truth : place_at (w.arrays n) ≡ place_at (v.arrays n)
    same_truth i k = (same_place (mid n) (w.arrays n) k (keeps n low).same.geometry ∙ middle (joining n) k) i
      where
        middle : (b : Bool) (k : ℕ) → place_at (if b then renewed place (next_drive v.state) (v.arrays n) else v.arrays n) k ≡ place_at (v.arrays n) k
        middle true k = refl
        middle false k = refl

    disks : (w.arrays n).truth.raid_disks ≡ (v.arrays n).truth.raid_disks
    disks = (keeps n low).same.geometry.disks ∙ middle (joining n)
      where
        middle : (b : Bool) → (if b then renewed place (next_drive v.state) (v.arrays n) else v.arrays n).truth.raid_disks ≡ (v.arrays n).truth.raid_disks
        middle true = refl
        middle false = refl

    no_reach : (k : ℕ) → k < (w.arrays n).truth.raid_disks → (member_on (w.arrays n) k).reach ≡ 0
    no_reach k inside =
        let p = place_at (w.arrays n) k in
        elim (cases_Bool (is_current w.state p)) [
          | inl current ↦
              elim (cases_eq p place) [
                | inl same ↦ own_reach k (subst (λ m. k < m) disks inside) (ap (λ f. f k) (sym same_truth) ∙ same)
                | inr other ↦ absurd (both_ways (has_other w.state place) alone (any_other (current_places w.state) p (names_current w.state p ∙ current) other))
              ]
          | inr gone ↦ reach_of (w.arrays n) k (Some Missing) (missing_seat w.state n k (w.arrays n) y (after.arrays n (low_then n low)) inside gone)
        ]

    all_wanting : (f : ℕ → Member) (sector a m : ℕ) → ((k : ℕ) → a ≤ k → k < a + m → (f k).reach ≡ 0) → wanting sector (map f (range_with_len a m)) ≡ m
    all_wanting f sector a zero none = refl
    all_wanting f sector a (suc m) none =
        let here : nat_lt sector (f a).reach ≡ false = ap (nat_lt sector) (none a (omega arith) (omega arith)) ∙ never_below sector in
        let rest = all_wanting f sector (a + 1) m (λ k least most. none k (omega (arith, least)) (omega (arith, most))) in
        ap (λ t. if t then wanting sector (map f (range_with_len (a + 1) m)) else suc (wanting sector (map f (range_with_len (a + 1) m)))) here ∙ ap suc rest
      where
        never_below : (k : ℕ) → nat_lt k 0 ≡ false
        never_below k = le-ltb k 0 (omega arith)

    -- every sector is spent
    pub all_spent : (k : ℕ) → spent_in (w.arrays n) k ≡ true
    all_spent k =
        let u = w.arrays n in
        let sector = sector_in (layout_at (shape_of u) k) k in
        let least = (after.arrays n (low_then n low)).is_array.least in
        let count = ap (wanting sector) (shape_members u) ∙ all_wanting (member_on u) sector 0 u.truth.raid_disks (λ j from inside. no_reach j (omega (arith, inside))) in
        two_spent (shape_of u) u.resync k (omega (arith, count, least))
