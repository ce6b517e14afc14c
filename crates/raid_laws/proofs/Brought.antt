-- Targets with copies of a later state bring that state.
use Rattle.std.proofs.Common.{◌≡◌, ◌⊎◌, ℕ, ◌<◌, ◌*◌, Bool, true, false, ◌==◌, ◌&&◌, ◌||◌, if◌then◌else◌, List, [], ◌∷◌, Ok, Result, Some, None, unwrap_or, refl, sym, ap, ap₂, subst, ◌∙◌, inl, inr, arith}
use Rattle.std.proofs.lemmas.Bool.{cases_eq, cases_Bool, both_ways, eq-eqb, ne_eqb}
use Rattle.std.proofs.lemmas.List.Folds.{list_any-append}
use Rattle.std.proofs.lemmas.Option.{none-some}
use Rattle.std.specs.Option.{option_or}
use Rattle.std.specs.List.{list_any}
use Rattle.rack.specs.Targets.{Target, look, is_at}
use Rattle.rack.proofs.Phases.{look-append}
use Rattle.pool_state.specs.declared.contents.Copied.{Copied}
use Rattle.pool_state.specs.declared.contents.State.{State}
use Rattle.pool_state.specs.declared.contents.StateFault.{StateFault}
use Rattle.pool_state.specs.Sector.{decoded}
use Rattle.array_image.specs.Places.{log_slice, place_of}
use Rattle.array_image.specs.States.{is_current, id_of}
use Rattle.log_laws.specs.View.{names}
use Rattle.log_laws.specs.Kept.{IsCopyOf, CarriesState}
use Rattle.log_laws.specs.Saying.{AreOwnCopies}
use Rattle.commit_log.proofs.Deciding.{names_first, names_later}
use Rattle.raid_laws.specs.Losses.{IsCopyOn, AreCopiesOn, AddsCopies}

module _ (t : State) where
  own_at : (q p : ℕ) (x : Target) → IsCopyOn t q x → q ≡ p → is_at (log_slice p) 0 x ≡ true
  own_at q p x on same =
      ap₂ (λ b c. b && c) (eq-eqb x.disk (log_slice p) (on.disk ∙ ap (λ n. 17 * n) same)) (eq-eqb x.sector 0 on.sector)

  other_at : (q p : ℕ) (x : Target) → IsCopyOn t q x → (q ≡ p → ⊥) → is_at (log_slice p) 0 x ≡ false
  other_at q p x on other =
      ap (λ b. b && (x.sector == 0))
      (ne_eqb x.disk (log_slice p) (λ same. other (let e : 17 * q ≡ 17 * p = sym on.disk ∙ same in omega (arith, e))))

  abbrev own_as : ℕ → Result Copied StateFault
  own_as q = Ok (record { state = t; own = q })

  -- the last of them for a place, or none
  pub record HasCopy (xs : List Target) (p : ℕ) : Type 0 where
    pub bytes : List ℕ
    pub is_found : look xs (log_slice p) 0 ≡ Some bytes
    pub is_copy : IsCopyOf t p bytes
    pub own : decoded bytes ≡ Ok (record { state = t; own = p })

  pub copies_look : (on : List ℕ) (xs : List Target) (p : ℕ) → AreCopiesOn t on xs
      → ((names on p ≡ true) × HasCopy xs p) ⊎ ((names on p ≡ false) × (look xs (log_slice p) 0 ≡ None))
  unfolding look
  copies_look [] [] p are = inr (refl, refl)
  copies_look [] (x ∷ xs) p are = absurd are
  copies_look (q ∷ on) [] p are = absurd are
  copies_look (q ∷ on) (x ∷ xs) p are =
      elim (copies_look on xs p are.1) [
        | inl had ↦ inl (
          names_later q on p had.0,
          record {
            bytes = had.1.bytes;
            is_found = ap (λ o. option_or o (if is_at (log_slice p) 0 x then Some x.bytes else None)) had.1.is_found;
            is_copy = had.1.is_copy;
            own = had.1.own;
          },
        )
        | inr none ↦ elim (cases_eq q p) [
          | inl same ↦ inl (
            subst (λ n. names (q ∷ on) n ≡ true) same (names_first q on),
            record {
              bytes = x.bytes;
              is_found =
                  ap (λ o. option_or o (if is_at (log_slice p) 0 x then Some x.bytes else None)) none.1
                  ∙ ap (λ (b : Bool). if b then Some x.bytes else None) (own_at q p x are.0 same);
              is_copy = record { own = q; copy = are.0.copy; drive = ap (id_of t) same };
              own = are.0.copy ∙ ap own_as same;
            },
          )
          | inr other ↦ inr (
            ap₂ (λ b c. b || c) (ne_eqb q p other) none.0,
            ap (λ o. option_or o (if is_at (log_slice p) 0 x then Some x.bytes else None)) none.1
                ∙ ap (λ (b : Bool). if b then Some x.bytes else None) (other_at q p x are.0 other),
          )
        ]
      ]

  -- they are on the places
  pub copies_inside : (on : List ℕ) (xs : List Target) (p : ℕ) → AreCopiesOn t on xs → list_any (λ x. place_of x.disk == p) xs ≡ true → names on p ≡ true
  copies_inside [] [] p are is = is
  copies_inside [] (x ∷ xs) p are is = absurd are
  copies_inside (q ∷ on) [] p are is = absurd are
  copies_inside (q ∷ on) (x ∷ xs) p are is =
      elim (cases_eq q p) [
        | inl same ↦ subst (λ n. names (q ∷ on) n ≡ true) same (names_first q on)
        | inr other ↦ names_later q on p (copies_inside on xs p are.1
            (sym (ap (λ b. b || list_any (λ y. place_of y.disk == p) xs)
            (ne_eqb (place_of x.disk) p (λ same. other (let disk = are.0.disk in omega (arith, disk, same))))) ∙ is))
      ]

  -- behind targets that have none, each is its place's own
  pub copies_own : (on : List ℕ) (before added : List Target) → AddsCopies t on before added → ((p : ℕ) → look before (log_slice p) 0 ≡ None) → AreOwnCopies t added
  copies_own on before added adds none p u is =
      let whole : look added (log_slice p) 0 ≡ option_or (look adds.targets (log_slice p) 0) (look before (log_slice p) 0) =
      ap (λ xs. look xs (log_slice p) 0) adds.appended ∙ look-append before adds.targets (log_slice p) 0 in
      elim (copies_look on adds.targets p adds.copies) [
        | inl had ↦
            let same : Some had.1.bytes ≡ Some u = sym (whole ∙ ap (λ o. option_or o (look before (log_slice p) 0)) had.1.is_found) ∙ is in
            ap (λ o. decoded (unwrap_or o [])) (sym same) ∙ had.1.own
        | inr lacking ↦ absurd (none-some u (sym (whole ∙ ap (λ o. option_or o (look before (log_slice p) 0)) lacking.1 ∙ none p) ∙ is))
      ]

  -- With copies of a later state on the places that it leaves, targets bring that state.
  pub copies_bring : (s : State) (on : List ℕ) (before added : List Target) → AddsCopies t on before added
      → s.epoch < t.epoch
      → ((p : ℕ) → is_current t p ≡ true → is_current s p ≡ true)
      → ((p : ℕ) → names on p ≡ is_current t p)
      → ((p : ℕ) → list_any (λ x. place_of x.disk == p) before ≡ true → names on p ≡ true)
      → ((p : ℕ) → look before (log_slice p) 0 ≡ None)
      → CarriesState s t added on
  copies_bring s on before added adds later current on_is inside none = record {
    current = current;
    left = λ p named. sym (on_is p) ∙ named;
    inside = λ p is. placed p (sym (ap (list_any (λ x. place_of x.disk == p)) adds.appended
        ∙ list_any-append (λ x. place_of x.disk == p) before adds.targets) ∙ is);
    either = inr (later, λ p is. on_is p ∙ is, λ p named. has p named (looked p), λ p unnamed. lacks p unnamed (looked p));
  }
    where
      looked : (p : ℕ) → ((names on p ≡ true) × HasCopy adds.targets p) ⊎ ((names on p ≡ false) × (look adds.targets (log_slice p) 0 ≡ None))
      looked p = copies_look on adds.targets p adds.copies

      whole : (p : ℕ) → look added (log_slice p) 0 ≡ option_or (look adds.targets (log_slice p) 0) (look before (log_slice p) 0)
      whole p = ap (λ xs. look xs (log_slice p) 0) adds.appended ∙ look-append before adds.targets (log_slice p) 0

      placed : (p : ℕ) → (list_any (λ x. place_of x.disk == p) before || list_any (λ x. place_of x.disk == p) adds.targets) ≡ true → names on p ≡ true
      placed p is = elim (cases_Bool (list_any (λ x. place_of x.disk == p) before)) [
        | inl here ↦ inside p here
        | inr not_here ↦ copies_inside on adds.targets p adds.copies (sym (ap (λ b. b || list_any (λ x. place_of x.disk == p) adds.targets) not_here) ∙ is)
      ]

      has : (p : ℕ) → names on p ≡ true → ((names on p ≡ true) × HasCopy adds.targets p) ⊎ ((names on p ≡ false) × (look adds.targets (log_slice p) 0 ≡ None))
          → (u : List ℕ) × (look added (log_slice p) 0 ≡ Some u) × IsCopyOf t p u
      has p named (inl had) = (had.1.bytes, whole p ∙ ap (λ o. option_or o (look before (log_slice p) 0)) had.1.is_found, had.1.is_copy)
      has p named (inr none) = absurd (both_ways (names on p) none.0 named)

      lacks : (p : ℕ) → names on p ≡ false → ((names on p ≡ true) × HasCopy adds.targets p) ⊎ ((names on p ≡ false) × (look adds.targets (log_slice p) 0 ≡ None))
          → look added (log_slice p) 0 ≡ None
      lacks p unnamed (inl had) = absurd (both_ways (names on p) unnamed had.0)
      lacks p unnamed (inr lacking) = whole p ∙ ap (λ o. option_or o (look before (log_slice p) 0)) lacking.1 ∙ none p
