-- A state with another drive at a place: who is current by it, and which place an id names.
use Rattle.std.proofs.Common.{◌≡◌, ◌≢◌, ℕ, zero, suc, ◌+◌, ◌<◌, not, nat_lt, bytes_eq, if◌then◌else◌, Bool, true, false, List, [], ◌∷◌, length, position, set, slice_get, Some, None, option_map, refl, sym, ap, ap₂, ◌∙◌, lt-ltb, ltb-true, inl, inr, arith}
use Rattle.std.specs.Option.{option_map_or}
use Rattle.std.specs.List.{position_or_len}
use Rattle.std.proofs.lemmas.Bool.{cases_Bool}
use Rattle.std.proofs.lemmas.Slice.Eq.{bytes_eq-Decides}
use Rattle.std.proofs.lemmas.Option.{none-some}
use Rattle.pool_state.specs.declared.contents.Drive.{Drive}
use Rattle.pool_state.specs.declared.contents.Plan.{Plan}
use Rattle.pool_state.specs.declared.contents.State.{State}
use Rattle.array_image.specs.States.{is_current, id_of}
use Rattle.raid_laws.specs.Enlisting.{enlisted, next_drive}

-- ---- lists

pub get_same : {X : Type 0} (xs : List X) (i : ℕ) (v : X) → i < length xs → slice_get (set xs i v) i ≡ Some v
get_same [] i v low = absurd (omega (arith, low))
get_same (x ∷ xs) zero v low = refl
get_same (x ∷ xs) (suc i) v low = get_same xs i v (omega (arith, low))

pub get_other : {X : Type 0} (xs : List X) (i n : ℕ) (v : X) → n ≢ i → slice_get (set xs i v) n ≡ slice_get xs n
get_other [] i n v other = refl
get_other (x ∷ xs) zero zero v other = absurd (other refl)
get_other (x ∷ xs) zero (suc n) v other = refl
get_other (x ∷ xs) (suc i) zero v other = refl
get_other (x ∷ xs) (suc i) (suc n) v other = get_other xs i n v (λ same. other (ap suc same))

pub set_length : {X : Type 0} (xs : List X) (i : ℕ) (v : X) → length (set xs i v) ≡ length xs
set_length [] i v = refl
set_length (x ∷ xs) zero v = refl
set_length (x ∷ xs) (suc i) v = ap suc (set_length xs i v)

module _ (q : Drive → Bool) (new : Drive) where
  -- one that doesn't pass in the place of another one
  first_other : (ds : List Drive) (i : ℕ) → q new ≡ false → position_or_len q ds ≢ i → position_or_len q (set ds i new) ≡ position_or_len q ds
  first_other [] i fails other = refl
  first_other (d ∷ ds) zero fails other = elim (cases_Bool (q d)) [
    | inl passes ↦ absurd (other (ap (λ (b : Bool). if not b then 1 + position_or_len q ds else 0) passes))
    | inr none ↦
        ap (λ (b : Bool). if not b then 1 + position_or_len q ds else 0) fails
        ∙ sym (ap (λ (b : Bool). if not b then 1 + position_or_len q ds else 0) none)
  ]
  first_other (d ∷ ds) (suc i) fails other = elim (cases_Bool (q d)) [
    | inl passes ↦
        ap (λ (b : Bool). if not b then 1 + position_or_len q (set ds i new) else 0) passes
        ∙ sym (ap (λ (b : Bool). if not b then 1 + position_or_len q ds else 0) passes)
    | inr none ↦
        ap (λ (b : Bool). if not b then 1 + position_or_len q (set ds i new) else 0) none
        ∙ ap (λ k. 1 + k) (first_other ds i fails (λ same. other (ap (λ (b : Bool). if not b then 1 + position_or_len q ds else 0) none ∙ (let e : 1 + position_or_len q ds ≡ suc i = omega (arith, same) in e))))
        ∙ sym (ap (λ (b : Bool). if not b then 1 + position_or_len q ds else 0) none)
  ]

  -- one that passes, before which none does
  first_here : (ds : List Drive) (i : ℕ) → q new ≡ true → i < length ds → ((k : ℕ) (d : Drive) → k < i → slice_get ds k ≡ Some d → q d ≡ false)
      → position_or_len q (set ds i new) ≡ i
  first_here [] i passes low none = absurd (omega (arith, low))
  first_here (d ∷ ds) zero passes low none = ap (λ (b : Bool). if not b then 1 + position_or_len q ds else 0) passes
  first_here (d ∷ ds) (suc i) passes low none =
      ap (λ (b : Bool). if not b then 1 + position_or_len q (set ds i new) else 0) (none 0 d (omega arith) refl)
      ∙ ap (λ k. 1 + k) (first_here ds i passes (omega (arith, low)) (λ k e less at. none (suc k) e (omega (arith, less)) at))
      ∙ (let e : 1 + i ≡ suc i = omega arith in e)

  -- by the position of one that passes
  by_position : (xs : List Drive) (p : ℕ) → position q xs ≡ Some p → (position_or_len q xs ≡ p) × (p < length xs)
  by_position xs p is = of (nat_lt (position_or_len q xs) (length xs)) refl is
    where
      some_same : {a b : ℕ} → Some a ≡ Some b → a ≡ b
      some_same e = cc

      of : (b : Bool) → nat_lt (position_or_len q xs) (length xs) ≡ b → (if b then Some (position_or_len q xs) else None) ≡ Some p → (position_or_len q xs ≡ p) × (p < length xs)
      of true low at = (let same = some_same at in (same, (let less = ltb-true (position_or_len q xs) (length xs) low in omega (arith, less, same))))
      of false past at = absurd (none-some p at)

  pub position_other : (ds : List Drive) (i p : ℕ) → q new ≡ false → p ≢ i → position q ds ≡ Some p → position q (set ds i new) ≡ Some p
  position_other ds i p fails other is =
      let at = by_position ds p is in
      ap₂ (λ (k n : ℕ). if nat_lt k n then Some k else None) (first_other ds i fails (λ same. other (sym at.0 ∙ same))) (set_length ds i new) ∙ is

  pub position_here : (ds : List Drive) (i : ℕ) → q new ≡ true → i < length ds → ((k : ℕ) (d : Drive) → k < i → slice_get ds k ≡ Some d → q d ≡ false)
      → position q (set ds i new) ≡ Some i
  position_here ds i passes low none =
      ap₂ (λ (k n : ℕ). if nat_lt k n then Some k else None) (first_here ds i passes low none) (set_length ds i new)
      ∙ ap (λ (b : Bool). if b then Some i else None) (lt-ltb i (length ds) low)

-- ---- the state

module _ (place units : ℕ) (plan : Plan) (s : State) (listed : place < length s.drives.items) where
  abbrev next : State
  next = enlisted place units plan s

  abbrev new : Drive
  new = record { id = next_drive s; units = units; missing = false }

  pub current_here : is_current next place ≡ true
  current_here = ap (λ o. option_map_or (λ (d : Drive). not d.missing) o false) (get_same s.drives.items place new listed)

  pub current_other : (p : ℕ) → p ≢ place → is_current next p ≡ is_current s p
  current_other p other = ap (λ o. option_map_or (λ (d : Drive). not d.missing) o false) (get_other s.drives.items place p new other)

  pub few_same : length next.drives.items ≡ length s.drives.items
  few_same = set_length s.drives.items place new

  pub id_here : id_of next place ≡ Some (next_drive s).0
  id_here = ap (option_map (λ (d : Drive). d.id.0)) (get_same s.drives.items place new listed)

  pub id_other : (p : ℕ) → p ≢ place → id_of next p ≡ id_of s p
  id_other p other = ap (option_map (λ (d : Drive). d.id.0)) (get_other s.drives.items place p new other)

  -- no other drive has the new one's id
  module _ (fresh : (p : ℕ) → p ≢ place → id_of s p ≢ Some (next_drive s).0) where
    differs : (a b : List ℕ) → (a ≡ b → ⊥) → bytes_eq a b ≡ false
    differs a b apart = elim (cases_Bool (bytes_eq a b)) [ inl same ↦ absurd (apart ((bytes_eq-Decides a b).0 same)) | inr other ↦ other ]

    pub names_here : position (λ (d : Drive). bytes_eq d.id.0 (next_drive s).0) next.drives.items ≡ Some place
    names_here =
        position_here (λ (d : Drive). bytes_eq d.id.0 (next_drive s).0) new s.drives.items place
        ((bytes_eq-Decides (next_drive s).0 (next_drive s).0).1 refl) listed
        (λ k d less at.
        differs d.id.0 (next_drive s).0
        (λ same. fresh k (λ here. omega (arith, less, here)) (ap (option_map (λ (e : Drive). e.id.0)) at ∙ ap Some same)))

    pub names_other : (p : ℕ) (id : List ℕ) → p ≢ place → id_of s p ≡ Some id → position (λ (d : Drive). bytes_eq d.id.0 id) s.drives.items ≡ Some p
        → position (λ (d : Drive). bytes_eq d.id.0 id) next.drives.items ≡ Some p
    names_other p id other is at =
        position_other (λ (d : Drive). bytes_eq d.id.0 id) new s.drives.items place p
        (differs (next_drive s).0 id (λ same. fresh p other (is ∙ ap Some (sym same)))) other at
