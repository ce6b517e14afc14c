-- The targets of superblocks that are added: they can be committed, and lie on members that aren't missing.
use Rattle.std.proofs.Common.{◌≡◌, ℕ, suc, ◌<◌, Bool, true, false, ◌==◌, ◌||◌, not, if◌then◌else◌, List, [], ◌∷◌, slice_get, Some, refl, sym, ap, arith}
use Rattle.std.specs.List.{list_all, list_any}
use Rattle.std.proofs.lemmas.Bool.{and_from, and_left, both_ways, eq-eqb, lt-ltb, ne_eqb, or_parts, or_from}
use Rattle.rack.specs.Targets.{Target}
use Rattle.md_super.specs.declared.superblock.Super.{Super}
use Rattle.array_image.specs.Places.{slice_of}
use Rattle.array_image.specs.Record.{is_target, are_apart}
use Rattle.rack.specs.Targets.{is_at}
use Rattle.array_model.specs.View.{is_missing_seat}
use Rattle.array_core.specs.declared.slots.Slot.{Slot}
use Rattle.array_core.specs.Staging.{IsSuperOn, AreSupersOn, present}

-- places below 16, of a list of members
abbrev pub AreLow : List Slot → Type 0
AreLow slots = (n : ℕ) (s : Slot) → slice_get slots n ≡ Some s → s.place < 16

-- no two members of a list have one place
abbrev pub AreApart : List Slot → Type 0
AreApart slots = (n m : ℕ) (s u : Slot) → slice_get slots n ≡ Some s → slice_get slots m ≡ Some u → s.place ≡ u.place → n ≡ m

later_low : (s : Slot) (slots : List Slot) → AreLow (s ∷ slots) → AreLow slots
later_low s slots low n u at = low (suc n) u at

later_apart : (s : Slot) (slots : List Slot) → AreApart (s ∷ slots) → AreApart slots
later_apart s slots apart n m x y one two same = (let e = apart (suc n) (suc m) x y one two same in omega (arith, e))

-- none of the later members has the place of the first
none_later : (s : Slot) (slots : List Slot) → AreApart (s ∷ slots) → list_any (λ u. u.place == s.place) slots ≡ false
none_later s slots apart = none slots (λ n u at same. (let e = apart 0 (suc n) s u refl at (sym same) in omega (arith, e)))
  where
    none : (us : List Slot) → ((n : ℕ) (u : Slot) → slice_get us n ≡ Some u → u.place ≡ s.place → ⊥) → list_any (λ u. u.place == s.place) us ≡ false
    none [] other = refl
    none (u ∷ us) other = or_from _ _ (ne_eqb u.place s.place (other 0 u refl)) (none us (λ n x at. other (suc n) x at))

module _ (number : ℕ) (t : Super) (few : number < 16) where
  one_valid : (s : Slot) (x : Target) → s.place < 16 → IsSuperOn number t s x → is_target x ≡ true
  one_valid s x low on =
      let disk = on.disk in
      let below : x.disk < 272 = omega (arith, disk, low, few) in
      let slice : slice_of x.disk ≡ 0 → ⊥ = λ none. omega (arith, disk, few, none) in
      and_from _ _ (lt-ltb x.disk 272 below) (ap (λ (b : Bool). not b || (x.sector == 0)) (ne_eqb (slice_of x.disk) 0 slice))

  -- each can be a record's
  pub targets_valid : (slots : List Slot) (xs : List Target) → AreLow slots → AreSupersOn number t (present slots) xs → list_all is_target xs ≡ true
  targets_valid [] [] low are = refl
  targets_valid [] (x ∷ xs) low are = absurd are
  targets_valid (s ∷ slots) xs low are =
      let rest = targets_valid slots in
      let Goal : Bool → Type 0 = λ b. AreSupersOn number t (if not b then s ∷ present slots else present slots) xs → list_all is_target xs ≡ true in
      let goal : Goal (is_missing_seat s.seat) = elim (is_missing_seat s.seat) as Goal [
        | true ↦ λ others. rest xs (later_low s slots low) others
        | false ↦ λ all. taken xs all rest
      ] in
      goal are
    where
      taken : (xs : List Target) → AreSupersOn number t (s ∷ present slots) xs
          → ((xs : List Target) → AreLow slots → AreSupersOn number t (present slots) xs → list_all is_target xs ≡ true)
          → list_all is_target xs ≡ true
      taken [] all rest = absurd all
      taken (x ∷ xs) all rest = and_from _ _ (one_valid s x (low 0 s refl) all.0) (rest xs (later_low s slots low) all.1)

  -- none is at the sector of a member whose place is another
  none_at : (s : Slot) (x : Target) → IsSuperOn number t s x → (slots : List Slot) (xs : List Target)
      → list_any (λ u. u.place == s.place) slots ≡ false → AreSupersOn number t (present slots) xs → list_any (is_at x.disk x.sector) xs ≡ false
  none_at s x on [] [] other are = refl
  none_at s x on [] (y ∷ ys) other are = absurd are
  none_at s x on (u ∷ slots) ys other are =
      let parts = or_parts (u.place == s.place) (list_any (λ u. u.place == s.place) slots) other in
      let rest = λ (zs : List Target). none_at s x on slots zs parts.1 in
      let Goal : Bool → Type 0 = λ b. AreSupersOn number t (if not b then u ∷ present slots else present slots) ys → list_any (is_at x.disk x.sector) ys ≡ false in
      let goal : Goal (is_missing_seat u.seat) = elim (is_missing_seat u.seat) as Goal [
        | true ↦ λ others. rest ys others
        | false ↦ λ all. taken s x on u slots ys all rest parts.0
      ] in
      goal are
    where
      taken : (s : Slot) (x : Target) → IsSuperOn number t s x → (u : Slot) (slots : List Slot) (ys : List Target) → AreSupersOn number t (u ∷ present slots) ys
          → ((ys : List Target) → AreSupersOn number t (present slots) ys → list_any (is_at x.disk x.sector) ys ≡ false)
          → (u.place == s.place) ≡ false → list_any (is_at x.disk x.sector) ys ≡ false
      taken s x on u slots [] all rest other = absurd all
      taken s x on u slots (y ∷ ys) all rest other =
          let mine = on.disk in
          let theirs = all.0.disk in
          let disks : y.disk ≡ x.disk → ⊥ = λ same. both_ways (u.place == s.place) other (eq-eqb u.place s.place (omega (arith, mine, theirs, same))) in
          or_from _ _ (and_left (y.disk == x.disk) (y.sector == x.sector) (ne_eqb y.disk x.disk disks)) (rest ys all.1)

  -- and no two are one sector
  pub targets_apart : (slots : List Slot) (xs : List Target) → AreApart slots → AreSupersOn number t (present slots) xs → are_apart xs ≡ true
  targets_apart [] [] apart are = refl
  targets_apart [] (x ∷ xs) apart are = absurd are
  targets_apart (s ∷ slots) xs apart are =
      let rest = λ (ys : List Target). targets_apart slots ys (later_apart s slots apart) in
      let Goal : Bool → Type 0 = λ b. AreSupersOn number t (if not b then s ∷ present slots else present slots) xs → are_apart xs ≡ true in
      let goal : Goal (is_missing_seat s.seat) = elim (is_missing_seat s.seat) as Goal [
        | true ↦ λ others. rest xs others
        | false ↦ λ all. taken xs all rest
      ] in
      goal are
    where
      taken : (xs : List Target) → AreSupersOn number t (s ∷ present slots) xs
          → ((ys : List Target) → AreSupersOn number t (present slots) ys → are_apart ys ≡ true) → are_apart xs ≡ true
      taken [] all rest = absurd all
      taken (x ∷ xs) all rest = and_from _ _ (ap not (none_at s x all.0 slots xs (none_later s slots apart) all.1)) (rest xs all.1)
