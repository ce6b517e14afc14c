-- Superblocks that are added one after the other.
use Rattle.std.proofs.Common.{◌≡◌, ℕ, zero, suc, ◌+◌, ◌<◌, take, get_or, ◌==◌, true, not, List, [], ◌∷◌, ◌++◌, map, length, slice_get, Some, option_map, unwrap_or, refl, sym, ap, subst, ◌∙◌, append_assoc, append-nil, arith}
use Rattle.std.specs.List.{range_with_len, zip}
use Rattle.std.proofs.lemmas.List.{take_more}
use Rattle.std.proofs.lemmas.List.Elements.{filter-append}
use Rattle.std.proofs.lemmas.Bool.{eqb-true}
use Rattle.std.proofs.lemmas.List.Quantifiers.{position-Some}
use Rattle.std.proofs.lemmas.Option.{slice_get_within}
use Rattle.rack.specs.Targets.{Target}
use Rattle.md_super.specs.declared.superblock.Super.{Super}
use Rattle.array_model.specs.View.{View, is_missing_seat}
use Rattle.array_core.specs.declared.slots.Slot.{Slot}
use Rattle.array_core.specs.declared.Change.{Change}
use Rattle.array_core.specs.Model.{is_truth}
use Rattle.array_core.specs.Slots.{slot_with, slots_of, place_by, places_by}
use Rattle.array_core.specs.Superblocks.{adopted, adopted_slot, adopted_slots}
use Rattle.array_core.specs.Staging.{AreSupersOn, AddsSupers, present}
use Rattle.array_core.proofs.Lists.{map_back}
use Rattle.array_core.proofs.Truths.{truth_facts}
use Rattle.array_core.proofs.Rules.{placed}
use Rattle.array_core.proofs.StagedTargets.{AreLow, AreApart}
use Rattle.array_core.proofs.Seating.{zipped}
use Rattle.array_core.proofs.Opened.{length_mapped, length_ranged}

module _ (number : ℕ) (t : Super) where
  supers_joined : (slots others : List Slot) (xs ys : List Target) → AreSupersOn number t slots xs → AreSupersOn number t others ys → AreSupersOn number t (slots ++ others) (xs ++ ys)
  supers_joined [] others [] ys one two = two
  supers_joined [] others (x ∷ xs) ys one two = absurd one
  supers_joined (s ∷ slots) others [] ys one two = absurd one
  supers_joined (s ∷ slots) others (x ∷ xs) ys one two = (one.0, supers_joined slots others xs ys one.1 two)

  -- those of some members, and then those of others
  pub adds_then : (slots others : List Slot) (a b c : List Target) → AddsSupers number t slots a b → AddsSupers number t others b c → AddsSupers number t (slots ++ others) a c
  adds_then slots others a b c one two = record {
    targets = one.targets ++ two.targets;
    appended = two.appended ∙ ap (λ (xs : List Target). xs ++ two.targets) one.appended ∙ append_assoc a one.targets two.targets;
    supers =
        subst (λ (ss : List Slot). AreSupersOn number t ss (one.targets ++ two.targets)) (sym (filter-append (λ s. not (is_missing_seat s.seat)) slots others))
        (supers_joined (present slots) (present others) one.targets two.targets one.supers two.supers);
  }

  -- none are of no member
  pub adds_none : (a : List Target) → AddsSupers number t [] a a
  adds_none a = record { targets = []; appended = sym (append-nil a); supers = tt }

  -- one more of a list of members
  pub adds_more : (slots : List Slot) (i : ℕ) (d : Slot) (a b c : List Target) → i < length slots
      → AddsSupers number t (take i slots) a b → AddsSupers number t (get_or slots i d ∷ []) b c → AddsSupers number t (take (i + 1) slots) a c
  adds_more slots i d a b c low one two =
      subst (λ (ss : List Slot). AddsSupers number t ss a c) (sym (take_more slots i d low)) (adds_then (take i slots) (get_or slots i d ∷ []) a b c one two)

-- ---- the members whose superblocks they are

get_mapped : {X Y : Type 0} (f : X → Y) (xs : List X) (k : ℕ) → slice_get (map f xs) k ≡ option_map f (slice_get xs k)
get_mapped f [] k = refl
get_mapped f (x ∷ xs) zero = refl
get_mapped f (x ∷ xs) (suc k) = get_mapped f xs k

get_ranged : (a m k : ℕ) → k < m → slice_get (range_with_len a m) k ≡ Some (a + k)
get_ranged a zero k low = absurd (omega (arith, low))
get_ranged a (suc m) zero low = ap Some (omega arith)
get_ranged a (suc m) (suc k) low = get_ranged (a + 1) m k (omega (arith, low)) ∙ ap Some (omega arith)

-- a member's place is that of its position
slot_place : (slots : List Slot) (t : Super) → map (λ s. s.place) slots ≡ places_by t → (n : ℕ) (s : Slot) → slice_get slots n ≡ Some s
    → (n < t.raid_disks) × (s.place ≡ place_by t n)
slot_place slots t places n s is =
    let count : length slots ≡ t.raid_disks =
    sym (length_mapped (λ s. s.place) slots) ∙ ap length places ∙ length_ranged (place_by t) 0 t.raid_disks in
    let within : n < length slots = slice_get_within slots n s is in
    let low : n < t.raid_disks = omega (arith, within, count) in
    let at : Some s.place ≡ Some (place_by t n) =
    sym (get_mapped (λ s. s.place) slots n ∙ ap (option_map (λ s. s.place)) is)
    ∙ ap (λ ps. slice_get ps n) places ∙ get_mapped (place_by t) (range_with_len 0 t.raid_disks) n
    ∙ ap (option_map (place_by t)) (get_ranged 0 t.raid_disks n low)
    ∙ ap (λ (k : ℕ). Some (place_by t k)) (omega arith) in
    (low, ap (λ o. unwrap_or o 16) at)

-- their places are places of drives
pub low_places : (slots : List Slot) (t : Super) → map (λ s. s.place) slots ≡ places_by t → is_truth t ≡ true → AreLow slots
low_places slots t places holds n s is =
    let at = slot_place slots t places n s is in
    let there = placed t n (truth_facts t holds).positions at.0 in
    let place : there.0 ≡ s.place = sym (at.1 ∙ ap (λ o. unwrap_or o 16) there.1) in
    subst (λ (p : ℕ). p < 16) place there.2

-- and no two are one
pub apart_places : (slots : List Slot) (t : Super) → map (λ s. s.place) slots ≡ places_by t → is_truth t ≡ true → AreApart slots
apart_places slots t places holds n m s u one two same =
    let at = slot_place slots t places n s one in
    let on = slot_place slots t places m u two in
    let here = placed t n (truth_facts t holds).positions at.0 in
    let there = placed t m (truth_facts t holds).positions on.0 in
    let place : here.0 ≡ there.0 =
    sym (at.1 ∙ ap (λ o. unwrap_or o 16) here.1) ∙ same ∙ (on.1 ∙ ap (λ o. unwrap_or o 16) there.1) in
    let first = position-Some (λ role. role == n) t.roles.items here.0 0 here.1 in
    let second = position-Some (λ role. role == m) t.roles.items there.0 0 there.1 in
    sym (eqb-true _ n first.1) ∙ ap (λ (p : ℕ). get_or t.roles.items p 0) place ∙ eqb-true _ m second.1

-- the members after a change
pub adopted_places : (c : Change) (v : View) → map (λ s. s.place) (adopted_slots v c) ≡ places_by c.truth
adopted_places c v = map_back (adopted_slot (slots_of v) c) (λ s. s.place) (λ place. refl) (places_by c.truth)

pub adopted_viewed : (c : Change) (v : View) → slots_of (adopted c v) ≡ adopted_slots v c
adopted_viewed c v =
    let slots = adopted_slots v c in
    ap (λ places. map slot_with (zip places (zip (map (λ s. s.seat) slots) (map (λ s. s.device) slots)))) (sym (adopted_places c v))
    ∙ zipped slots

-- as many as the change's roles name
pub adopted_counts : (c : Change) (v : View) → (length (adopted c v).seats ≡ c.truth.raid_disks) × (length (adopted c v).devices ≡ c.truth.raid_disks)
adopted_counts c v =
    let slots = adopted_slots v c in
    let count : length slots ≡ c.truth.raid_disks =
    length_mapped (adopted_slot (slots_of v) c) (places_by c.truth) ∙ length_ranged (place_by c.truth) 0 c.truth.raid_disks in
    (length_mapped (λ s. s.seat) slots ∙ count, length_mapped (λ s. s.device) slots ∙ count)
