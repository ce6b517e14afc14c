-- What is added to a log for a mark: superblocks of members, and copies of the marked state.
use Rattle.std.proofs.Common.{◌≡◌, ℕ, suc, ◌+◌, ◌-◌, ◌<◌, ◌≤◌, ◌^◌, Bool, true, false, ◌==◌, ◌&&◌, ◌||◌, not, if◌then◌else◌, List, [], ◌∷◌, length, slice_get, Some, None, refl, sym, ap, ap₂, subst, ◌∙◌, inl, inr, arith}
use Rattle.std.proofs.lemmas.Bool.{cases_Bool, cases_lt, both_ways, and_parts, ne_eqb, eqb-true, lt-ltb}
use Rattle.std.proofs.lemmas.List.Folds.{list_any-append}
use Rattle.std.proofs.lemmas.Option.{slice_get_past}
use Rattle.std.proofs.lemmas.Map.Views.{any-filter_same}
use Rattle.std.specs.Option.{option_or, option_map_or}
use Rattle.std.specs.List.{list_any, range_with_len}
use Rattle.rack.specs.Targets.{Target, look, is_at}
use Rattle.rack.proofs.Phases.{look-append}
use Rattle.md_super.specs.declared.superblock.Super.{Super}
use Rattle.pool_state.specs.declared.contents.State.{State}
use Rattle.array_image.specs.Places.{log_slice, place_of}
use Rattle.array_image.specs.States.{is_current, current_places}
use Rattle.log_laws.specs.View.{names}
use Rattle.log_laws.specs.Kept.{CarriesState}
use Rattle.log_laws.proofs.Naming.{names_range}
use Rattle.array_core.specs.declared.slots.Slot.{Slot}
use Rattle.array_core.specs.Staging.{AreSupersOn, AddsSupers, present}
use Rattle.raid_laws.specs.Missing.{marked, raised}
use Rattle.raid_laws.specs.Losses.{AddsCopies}
use Rattle.raid_laws.proofs.Missing.{current_marked}
use Rattle.raid_laws.proofs.Brought.{copies_bring}

-- ---- superblocks

module _ (number : ℕ) (t : Super) where
  -- none of them is a copy of a state
  supers_look : (slots : List Slot) (xs : List Target) (p : ℕ) → number < 16 → AreSupersOn number t slots xs → look xs (log_slice p) 0 ≡ None
  unfolding look
  supers_look [] [] p few are = refl
  supers_look [] (x ∷ xs) p few are = absurd are
  supers_look (s ∷ slots) [] p few are = absurd are
  supers_look (s ∷ slots) (x ∷ xs) p few are =
      ap (λ o. option_or o (if is_at (log_slice p) 0 x then Some x.bytes else None)) (supers_look slots xs p few are.1)
      ∙ ap (λ (b : Bool). if b && (x.sector == 0) then Some x.bytes else None)
      (ne_eqb x.disk (log_slice p) (λ same. let disk = are.0.disk in omega (arith, disk, same, few)))

  -- they are on the members that aren't missing
  supers_inside : (slots : List Slot) (xs : List Target) (on : List ℕ) (p : ℕ) → number < 16 → AreSupersOn number t slots xs
      → ((s : Slot) (n : ℕ) → slice_get slots n ≡ Some s → names on s.place ≡ true)
      → list_any (λ x. place_of x.disk == p) xs ≡ true → names on p ≡ true
  supers_inside [] [] on p few are members is = absurd (both_ways false refl is)
  supers_inside [] (x ∷ xs) on p few are members is = absurd are
  supers_inside (s ∷ slots) [] on p few are members is = absurd are
  supers_inside (s ∷ slots) (x ∷ xs) on p few are members is =
      elim (cases_Bool (place_of x.disk == p)) [
        | inl here ↦
            subst (λ n. names on n ≡ true)
            (let same = eqb-true (place_of x.disk) p here in let disk = are.0.disk in let e : s.place ≡ p = omega (arith, disk, same, few) in e)
            (members s 0 refl)
        | inr other ↦
            supers_inside slots xs on p few are.1 (λ u n at. members u (n + 1) (ap (slice_get (s ∷ slots)) (let e : n + 1 ≡ suc n = omega arith in e) ∙ at))
            (sym (ap (λ b. b || list_any (λ y. place_of y.disk == p) xs) other) ∙ is)
      ]

  -- Added behind targets that have no copy of a state, they leave it so; and behind targets on some places, those on these.
  pub adds_calm : (slots : List Slot) (before added : List Target) → number < 16 → AddsSupers number t slots before added
      → ((p : ℕ) → look before (log_slice p) 0 ≡ None) → (p : ℕ) → look added (log_slice p) 0 ≡ None
  adds_calm slots before added few adds none p =
      ap (λ xs. look xs (log_slice p) 0) adds.appended ∙ look-append before adds.targets (log_slice p) 0
      ∙ ap₂ (λ o q. option_or o q) (supers_look (present slots) adds.targets p few adds.supers) (none p)

  pub adds_inside : (slots : List Slot) (before added : List Target) (on : List ℕ) → number < 16 → AddsSupers number t slots before added
      → ((s : Slot) (n : ℕ) → slice_get (present slots) n ≡ Some s → names on s.place ≡ true)
      → ((p : ℕ) → list_any (λ x. place_of x.disk == p) before ≡ true → names on p ≡ true)
      → (p : ℕ) → list_any (λ x. place_of x.disk == p) added ≡ true → names on p ≡ true
  adds_inside slots before added on few adds members inside p is =
      elim (cases_Bool (list_any (λ x. place_of x.disk == p) before)) [
        | inl here ↦ inside p here
        | inr other ↦
            supers_inside (present slots) adds.targets on p few adds.supers members
            (sym (ap (list_any (λ x. place_of x.disk == p)) adds.appended
            ∙ list_any-append (λ x. place_of x.disk == p) before adds.targets
            ∙ ap (λ b. b || list_any (λ x. place_of x.disk == p) adds.targets) other) ∙ is)
      ]

-- ---- copies of the marked state

-- the current places of a state are those that it has as current
pub names_current : (s : State) (p : ℕ) → names (current_places s) p ≡ is_current s p
unfolding current_places
names_current s p =
    any-filter_same (λ q. q == p) (is_current s) (is_current s p) (λ q is. ap (is_current s) (eqb-true q p is)) (range_with_len 0 (length s.drives.items))
    ∙ elim (cases_lt p (length s.drives.items)) [
      | inl below ↦ ap (λ b. is_current s p && b) (names_range 0 (length s.drives.items) p (omega arith) (omega arith)) ∙ and_true (is_current s p)
      | inr past ↦ ap (λ b. b && names (range_with_len 0 (length s.drives.items)) p) (nobody past) ∙ sym (nobody past)
    ]
  where
    and_true : (b : Bool) → (b && true) ≡ b
    and_true true = refl
    and_true false = refl

    nobody : length s.drives.items ≤ p → is_current s p ≡ false
    nobody past = ap (λ o. option_map_or (λ drive. not drive.missing) o false) (slice_get_past s.drives.items p past)

-- The copies of a state with marks on its current places, behind the superblocks, bring that state.
pub marks_bring : (s : State) (lost : List ℕ) (before added : List Target) → s.epoch < 2 ^ 63 - 1
    → AddsCopies (marked lost s) (current_places (marked lost s)) before added
    → ((p : ℕ) → list_any (λ x. place_of x.disk == p) before ≡ true → is_current (marked lost s) p ≡ true)
    → ((p : ℕ) → look before (log_slice p) 0 ≡ None)
    → CarriesState s (marked lost s) added (current_places (marked lost s))
marks_bring s lost before added room adds inside none =
    let t = marked lost s in
    copies_bring t s (current_places t) before added adds
    (let e : raised s.epoch ≡ s.epoch + 1 = ap (λ (b : Bool). if b then s.epoch + 1 else s.epoch) (lt-ltb s.epoch (2 ^ 63 - 1) room) in omega (arith, e))
    (λ p is. (and_parts (is_current s p) (not (names lost p)) (sym (current_marked lost s p) ∙ is)).0)
    (names_current t)
    (λ p is. names_current t p ∙ inside p is)
    none
