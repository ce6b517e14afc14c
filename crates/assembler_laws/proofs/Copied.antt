-- Each seated drive of a pool in which a check found no fault has a copy of the state.
use Rattle.std.proofs.Common.{◌≡◌, ℕ, Bool, true, false, ◌||◌, not, if◌then◌else◌, is_none, is_some, find, List, [], ◌∷◌, Option, Some, None, option_map, inl, inr, refl, sym, ap, ◌∙◌}
use Rattle.std.specs.Option.{option_and_then, option_or}
use Rattle.std.proofs.lemmas.Bool.{both_ways, cases_eq, cases_lt, ne_eqb}
use Rattle.std.proofs.lemmas.Option.{none-some}
use Rattle.pool_state.specs.declared.contents.Copied.{Copied}
use Rattle.array_image.specs.States.{current_places, is_current}
use Rattle.log_laws.specs.View.{names}
use Rattle.pool_image.specs.Drives.{Found}
use Rattle.pool_image.specs.Meaning.{Part, Refusal, absent, absent_count, damaged, has_supers, has_table, in_log, in_state, in_superblock, in_table}
use Rattle.pool_check.specs.Refusing.{damage_by, damage_with, first_with, refused_arrays, refused_with}
use Rattle.pool_check.proofs.Ends.{absent_refused, present_refused}
use Rattle.raid_laws.proofs.Added.{names_current}

-- where the first of some places is none, no place has one
none_has : (D : ℕ → Option Part) (ps : List ℕ) (p : ℕ)
    → option_and_then (λ q. option_map (damaged q) (D q)) (find (λ q. is_some (D q)) ps) ≡ None → names ps p ≡ true → D p ≡ None
none_has D [] p none named = absurd (both_ways false refl named)
none_has D (q ∷ ps) p none named = by (D q) refl (λ rest other. none_has D ps p rest other)
  where
    by : (o : Option Part) → D q ≡ o
        → (option_and_then (λ j. option_map (damaged j) (D j)) (find (λ j. is_some (D j)) ps) ≡ None → names ps p ≡ true → D p ≡ None) → D p ≡ None
    by (Some part) is rest =
        absurd (none-some (damaged q part)
        (sym none ∙ ap (λ (o : Option Part). option_and_then (λ j. option_map (damaged j) (D j)) (if is_some o then Some q else find (λ j. is_some (D j)) ps)) is
        ∙ ap (option_map (damaged q)) is))
    by None is rest = elim (cases_eq q p) [
      | inl same ↦ ap D (sym same) ∙ is
      | inr other ↦
          rest (sym (ap (λ (o : Option Part). option_and_then (λ j. option_map (damaged j) (D j)) (if is_some o then Some q else find (λ j. is_some (D j)) ps)) is) ∙ none)
          (sym (ap (λ (b : Bool). b || names ps p) (ne_eqb q p other)) ∙ named)
    ]

some_none : {X Y : Type 0} (y : X) → Some y ≡ None → Y
some_none y is = cc

module _ (well : ℕ → Bool) (f : Found) (none : refused_with well None f ≡ None) where
  first_none : first_with well f ≡ None
  first_none = elim (cases_lt 1 (absent_count f)) [
    | inl many ↦ some_none (absent (absent_count f)) (sym (absent_refused well None f many) ∙ none)
    | inr few ↦ of (first_with well f) (sym (present_refused well None f few) ∙ none)
  ]
    where
      of : (o : Option Refusal) → option_or o (refused_arrays None f) ≡ None → o ≡ None
      of None is = refl
      of (Some r) is = is

  pub undamaged : (p : ℕ) → is_current f.state p ≡ true → damage_with well f p ≡ None
  undamaged p current = none_has (damage_with well f) (current_places f.state) p first_none (names_current f.state p ∙ current)

  pub has_copy : (p d : ℕ) → is_current f.state p ≡ true → f.seats p ≡ Some d → (copy : Copied) × ((f.identities d).copied ≡ Some copy)
  has_copy p d current seat =
      by (has_table f p d) (f.identities d).copied refl (sym (ap (option_and_then (damage_by well f p)) seat) ∙ undamaged p current)
    where
      by : (table : Bool) (o : Option Copied) → (f.identities d).copied ≡ o
          → (if not table then Some in_table
          else if is_none (f.identities d).copied then Some in_state
          else if not (well p) then Some in_log
          else if not (has_supers f p) then Some in_superblock
          else None) ≡ None
          → (copy : Copied) × ((f.identities d).copied ≡ Some copy)
      by table (Some copy) is sound = (copy, is)
      by false None is sound = absurd (some_none in_table sound)
      by true None is sound =
          absurd (some_none in_state (sym (ap (λ (o : Option Copied). if is_none o then Some in_state
          else if not (well p) then Some in_log
          else if not (has_supers f p) then Some in_superblock
          else None) is) ∙ sound))
