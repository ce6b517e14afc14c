-- Arrays and a state that nobody was lost of.
use Rattle.std.specs.List.{list_any}
use Rattle.std.proofs.Common.{◌≡◌, ℕ, suc, ◌<◌, ◌==◌, ◌&&◌, not, Bool, true, false, List, [], ◌∷◌, map, slice_get, Option, Some, None, option_map, unwrap_or, refl, sym, ap, ap₂, ◌∙◌, inl, inr, arith}
use Rattle.std.specs.Option.{option_map_or}
use Rattle.std.proofs.lemmas.Bool.{both_ways}
use Rattle.std.proofs.lemmas.Option.{slice_get_within}
use Rattle.arrayvec.specs.ArrayVec.{ArrayVec}
use Rattle.shr_base.specs.declared.Id.{Id}
use Rattle.rack.specs.Seen.{RackView}
use Rattle.pool_state.specs.declared.contents.Drive.{Drive}
use Rattle.pool_state.specs.declared.contents.State.{State}
use Rattle.array_image.specs.States.{is_current}
use Rattle.array_model.specs.declared.Seat.{Seat}
use Rattle.array_model.specs.declared.Seat.TheVariants.{Whole, Missing, Rebuilding}
use Rattle.array_image.specs.Arrays.{place_with}
use Rattle.array_model.specs.View.{View, is_missing_seat, place_at}
use Rattle.raid_laws.specs.Book.{IsSameBook, drive_of}
use Rattle.raid_laws.specs.Moves.{IsSeated, OnlyFailures}

-- ---- seats

-- lists with the same elements
same_list : {X : Type 0} (xs ys : List X) → ((k : ℕ) → slice_get xs k ≡ slice_get ys k) → xs ≡ ys
same_list [] [] each = refl
same_list [] (y ∷ ys) each = let here : None ≡ Some y = each 0 in cc
same_list (x ∷ xs) [] each = let here : Some x ≡ None = each 0 in cc
same_list {X} (x ∷ xs) (y ∷ ys) each =
    let here : Some x ≡ Some y = each 0 in
    let same : x ≡ y = cc here in
    ap₂ (λ (z : X) (zs : List X). z ∷ zs) same (same_list xs ys (λ k. each (suc k)))

-- a seat that is said to be missing is
pub is_missing : (o : Option Seat) → option_map is_missing_seat o ≡ Some true → o ≡ Some Missing
is_missing None is = cc
is_missing (Some Whole) is = let no : false ≡ true = cc is in absurd (both_ways false refl no)
is_missing (Some Missing) is = refl
is_missing (Some (Rebuilding to)) is = let no : false ≡ true = cc is in absurd (both_ways false refl no)

-- the marks of an array whose losses are heeded
marked_at : (s : State) (n k : ℕ) (v : View) (x : RackView) → IsSeated s n v x → v.went ≡ [] → k < v.truth.raid_disks
    → option_map is_missing_seat (slice_get v.seats k) ≡ Some (not (is_current s (place_at v k)))
marked_at s n k v x seated none low =
    seated.marks k low
    ∙ ap (λ (went : List ℕ). Some (not (is_current s (place_at v k) && not (list_any (λ p. p == place_at v k) went)))) none
    ∙ ap (λ b. Some (not b)) (and_true (is_current s (place_at v k)))
  where
    and_true : (b : Bool) → (b && true) ≡ b
    and_true true = refl
    and_true false = refl

-- Where no place comes to be marked, an array that may have lost members has lost none. `u` is the array once a step of it is done.
pub seats_same : (s t : State) (n : ℕ) (v u w : View) (a b : RackView) → IsSeated s n v a → IsSeated t n w b → v.went ≡ [] → w.went ≡ []
    → ((p : ℕ) → is_current t p ≡ is_current s p) → OnlyFailures u w → u.truth.roles ≡ v.truth.roles → u.truth.raid_disks ≡ v.truth.raid_disks
    → ((k : ℕ) → slice_get v.seats k ≡ Some Missing → slice_get u.seats k ≡ Some Missing) → w.seats ≡ u.seats
seats_same s t n v u w a b before after heeded none marks only roles disks still =
    same_list w.seats u.seats (λ k.
    elim (only.seats k) [
      | inl same ↦ same
      | inr lost ↦
          let inside = slice_get_within w.seats k Missing lost in
          let many = after.is_array.seats in
          let low : k < w.truth.raid_disks = omega (arith, inside, many) in
          let width = only.same.geometry.disks in
          let place : place_at w k ≡ place_at v k = ap (λ (r : ArrayVec ℕ). place_in r k) (only.same.geometry.roles ∙ roles) in
          let gone : Some true ≡ Some (not (is_current t (place_at w k))) = ap (option_map is_missing_seat) (sym lost) ∙ marked_at t n k w b after none low in
          let was : Some (not (is_current t (place_at w k))) ≡ Some (not (is_current s (place_at v k))) =
          ap (λ p. Some (not (is_current t p))) place ∙ ap (λ c. Some (not c)) (marks (place_at v k)) in
          lost ∙ sym (still k (is_missing (slice_get v.seats k)
          (marked_at s n k v a before heeded (omega (arith, low, width, disks)) ∙ sym was ∙ sym gone)))
    ])
  where
    place_in : ArrayVec ℕ → ℕ → ℕ
    place_in r k = unwrap_or (place_with r.items k) 16

-- ---- the state

drives_same : (xs ys : List Drive) → map drive_of xs ≡ map drive_of ys
    → ((k : ℕ) → option_map_or (λ drive. not drive.missing) (slice_get xs k) false ≡ option_map_or (λ drive. not drive.missing) (slice_get ys k) false) → xs ≡ ys
drives_same [] [] alike marks = refl
drives_same [] (y ∷ ys) alike marks = cc
drives_same (x ∷ xs) [] alike marks = cc
drives_same (x ∷ xs) (y ∷ ys) alike marks =
    let heads : drive_of x ≡ drive_of y = cc alike in
    let rest : map drive_of xs ≡ map drive_of ys = cc alike in
    let missing : x.missing ≡ y.missing = same_not x.missing y.missing (marks 0) in
    let make : List ℕ × ℕ → Bool → Drive = λ d gone. record { id = record { 0 = d.0 }; units = d.1; missing = gone } in
    ap₂ (λ (z : Drive) (zs : List Drive). z ∷ zs) (ap₂ make heads missing) (drives_same xs ys rest (λ k. marks (suc k)))
  where
    same_not : (b c : Bool) → not b ≡ not c → b ≡ c
    same_not true true same = refl
    same_not true false same = sym same
    same_not false true same = sym same
    same_not false false same = refl

-- Where no place comes to be marked, nothing of a state has changed but its epoch and its plan.
pub state_same : (p q : State) → IsSameBook p q → ((k : ℕ) → is_current q k ≡ is_current p k)
    → record q { epoch = p.epoch } ≡ record p { plan = q.plan }
state_same p q same marks =
    let drives = drives_same q.drives.items p.drives.items same.drives marks in
    let pool = same.pool in
    let extent = same.extent in
    let made = same.made in
    let joined = same.joined in
    let serial = same.serial in
    alike (λ (pool : Id) (extent : ℕ) (ds : List Drive) (made joined serial : ℕ). record {
      pool = pool;
      epoch = p.epoch;
      extent = extent;
      drives = record { items = ds };
      plan = q.plan;
      made = made;
      joined = joined;
      serial = serial;
    })
    pool extent drives made joined serial
  where
    alike : (f : Id → ℕ → List Drive → ℕ → ℕ → ℕ → State) {i j : Id} {a b : ℕ} {ds es : List Drive} {c d e g h k : ℕ}
        → i ≡ j → a ≡ b → ds ≡ es → c ≡ d → e ≡ g → h ≡ k → f i a ds c e h ≡ f j b es d g k
    alike f x1 x2 x3 x4 x5 x6 = cc
