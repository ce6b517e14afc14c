-- The superblocks that a step adds to the log: whose they are.
use Rattle.std.proofs.Common.{◌≡◌, ◌≢◌, ℕ, zero, suc, ◌+◌, ◌<◌, ◌≤◌, Bool, true, false, ◌==◌, not, if◌then◌else◌, List, [], ◌∷◌, map, length, slice_get, Some, None, unwrap_or, refl, sym, ap, subst, ◌∙◌, inl, inr, eqb-true, arith}
use Rattle.std.proofs.lemmas.Bool.{both_ways, and_parts}
use Rattle.std.specs.List.{range_with_len, zip}
use Rattle.shr_base.specs.declared.Id.{Id}
use Rattle.rack.specs.Targets.{Target}
use Rattle.rack.specs.Sequences.{IsPayload}
use Rattle.md_super.specs.declared.superblock.Super.{Super}
use Rattle.array_image.specs.Places.{member_slice, super_sector}
use Rattle.array_image.specs.Record.{are_apart}
use Rattle.array_model.specs.declared.Seat.{Seat}
use Rattle.array_model.specs.declared.Seat.TheVariants.{Missing}
use Rattle.array_model.specs.View.{View, IsArray, is_missing_seat, place_at}
use Rattle.array_model.specs.Members.{slice_on}
use Rattle.array_model.specs.Stages.{AmongTargets}
use Rattle.array_model.proofs.RowWrites.{places_apart}
use Rattle.array_core.specs.declared.slots.Slot.{Slot}
use Rattle.array_core.specs.Slots.{slot_with, slots_of, place_by}
use Rattle.array_core.specs.Staging.{AddsSupersOf, AreSupersOn, IsSuperOn, present}
use Rattle.array_core.proofs.Staged.{slot_on, slots_zipped}
use Rattle.array_core.proofs.StagedTargets.{targets_apart}

payload_target : (xs : List Target) (d t : ℕ) (u : List ℕ) → IsPayload xs d t u → (x : Target) × AmongTargets x xs × (x.disk ≡ d) × (x.sector ≡ t) × (u ≡ x.bytes)
payload_target [] d t u is = absurd is
payload_target (x ∷ xs) d t u (inl here) =
    let at = and_parts (x.disk == d) (x.sector == t) here.0 in
    (x, inl refl, eqb-true x.disk d at.0, eqb-true x.sector t at.1, here.1)
payload_target (x ∷ xs) d t u (inr later) =
    let rest = payload_target xs d t u later in
    (rest.0, inr rest.1, rest.2, rest.3, rest.4)

-- the member of a position
slot_at_position : (place : ℕ → ℕ) (a m : ℕ) (seats : List Seat) (devices : List Id) (k : ℕ) (s : Slot) → length seats ≡ m → length devices ≡ m
    → slice_get (map slot_with (zip (map place (range_with_len a m)) (zip seats devices))) k ≡ Some s
    → (k < m) × (s.place ≡ place (a + k)) × (slice_get seats k ≡ Some s.seat) × (slice_get devices k ≡ Some s.device)
slot_at_position place a zero seats devices k s one two is = absurd (let bad : None ≡ Some s = is in cc)
slot_at_position place a (suc m) [] devices k s one two is = absurd (omega (arith, one))
slot_at_position place a (suc m) (x ∷ seats) [] k s one two is = absurd (omega (arith, two))
slot_at_position place a (suc m) (x ∷ seats) (d ∷ devices) zero s one two is =
    let at : record { place = place a; seat = x; device = d } ≡ s = cc in
    (omega arith, ap (λ (t : Slot). t.place) (sym at) ∙ ap place (omega arith), ap (λ (t : Slot). Some t.seat) at, ap (λ (t : Slot). Some t.device) at)
slot_at_position place a (suc m) (x ∷ seats) (d ∷ devices) (suc k) s one two is =
    let rest = slot_at_position place (a + 1) m seats devices k s (omega (arith, one)) (omega (arith, two)) is in
    let low = rest.0 in
    (omega (arith, low), rest.1 ∙ ap place (omega arith), rest.2, rest.3)

pub slot_facts : (u : View) (k : ℕ) (s : Slot) → IsArray u → slice_get (slots_of u) k ≡ Some s
    → (k < u.truth.raid_disks) × (s.place ≡ place_at u k) × (slice_get u.seats k ≡ Some s.seat) × (slice_get u.devices k ≡ Some s.device)
slot_facts u k s is_array is =
    let at = slot_at_position (place_by u.truth) 0 u.truth.raid_disks u.seats u.devices k s is_array.seats is_array.devices is in
    (at.0, at.1 ∙ ap (place_by u.truth) (let e : 0 + k ≡ k = omega arith in e), at.2, at.3)

-- a superblock among those of members
record IsFrom (number : ℕ) (t : Super) (slots : List Slot) (x : Target) : Type 0 where
  index : ℕ
  slot : Slot
  at : slice_get slots index ≡ Some slot
  there : is_missing_seat slot.seat ≡ false
  on : IsSuperOn number t slot x

later_from : (number : ℕ) (t : Super) (s : Slot) (slots : List Slot) (x : Target) → IsFrom number t slots x → IsFrom number t (s ∷ slots) x
later_from number t s slots x from = record { index = suc from.index; slot = from.slot; at = from.at; there = from.there; on = from.on }

supers_from : (number : ℕ) (t : Super) (slots : List Slot) (xs : List Target) (x : Target) → AreSupersOn number t (present slots) xs → AmongTargets x xs → IsFrom number t slots x
supers_from number t [] [] x are among = absurd among
supers_from number t [] (y ∷ ys) x are among = absurd are
supers_from number t (s ∷ slots) xs x are among =
    let Goal : Bool → Type 0 = λ b. is_missing_seat s.seat ≡ b → AreSupersOn number t (if not b then s ∷ present slots else present slots) xs → IsFrom number t (s ∷ slots) x in
    let goal : Goal (is_missing_seat s.seat) = elim (is_missing_seat s.seat) as Goal [
      | true ↦ λ is others. later_from number t s slots x (supers_from number t slots xs x others among)
      | false ↦ λ is all. taken xs is all among (λ ys others there. supers_from number t slots ys x others there)
    ] in
    goal refl are
  where
    taken : (ys : List Target) → is_missing_seat s.seat ≡ false → AreSupersOn number t (s ∷ present slots) ys → AmongTargets x ys
        → ((zs : List Target) → AreSupersOn number t (present slots) zs → AmongTargets x zs → IsFrom number t slots x) → IsFrom number t (s ∷ slots) x
    taken [] is all there rest = absurd there
    taken (y ∷ ys) is all (inl here) rest = record { index = 0; slot = s; at = refl; there = is; on = subst (IsSuperOn number t s) (sym here) all.0 }
    taken (y ∷ ys) is all (inr later) rest = later_from number t s slots x (rest ys all.1 later)

supers_count : (number : ℕ) (t : Super) (slots : List Slot) (xs : List Target) → AreSupersOn number t (present slots) xs → length xs ≤ length slots
supers_count number t [] [] are = omega arith
supers_count number t [] (y ∷ ys) are = absurd are
supers_count number t (s ∷ slots) xs are =
    let Goal : Bool → Type 0 = λ b. AreSupersOn number t (if not b then s ∷ present slots else present slots) xs → length xs ≤ suc (length slots) in
    let goal : Goal (is_missing_seat s.seat) = elim (is_missing_seat s.seat) as Goal [
      | true ↦ λ others. let low = supers_count number t slots xs others in omega (arith, low)
      | false ↦ λ all. taken xs all (λ ys others. supers_count number t slots ys others)
    ] in
    goal are
  where
    taken : (ys : List Target) → AreSupersOn number t (s ∷ present slots) ys
        → ((zs : List Target) → AreSupersOn number t (present slots) zs → length zs ≤ length slots) → length ys ≤ suc (length slots)
    taken [] all rest = omega arith
    taken (y ∷ ys) all rest = let low = rest ys all.1 in omega (arith, low)

-- one that is there has a superblock
some_super : (number : ℕ) (t : Super) (slots : List Slot) (xs : List Target) (k : ℕ) (s : Slot) → AreSupersOn number t (present slots) xs → slice_get slots k ≡ Some s → is_missing_seat s.seat ≡ false → 0 < length xs
some_super number t slots (y ∷ ys) k s are at there = omega arith
some_super number t [] [] k s are at there = absurd (let bad : None ≡ Some s = at in cc)
some_super number t (s0 ∷ slots) [] k s are at there =
    let Goal : Bool → Type 0 = λ b. is_missing_seat s0.seat ≡ b → AreSupersOn number t (if not b then s0 ∷ present slots else present slots) [] → 0 < 0 in
    let goal : Goal (is_missing_seat s0.seat) = elim (is_missing_seat s0.seat) as Goal [
      | true ↦ λ is others. by k at is (λ j at_j. some_super number t slots [] j s others at_j there)
      | false ↦ λ is all. absurd all
    ] in
    goal refl are
  where
    by : (k : ℕ) → slice_get (s0 ∷ slots) k ≡ Some s → is_missing_seat s0.seat ≡ true → ((j : ℕ) → slice_get slots j ≡ Some s → 0 < 0) → 0 < 0
    by zero at is rest =
        let same : s0 ≡ s = ap (λ o. unwrap_or o s0) at in
        absurd (both_ways (is_missing_seat s.seat) there (ap (λ (x : Slot). is_missing_seat x.seat) (sym same) ∙ is))
    by (suc k) at is rest = rest k at

zipped_few : (place : ℕ → ℕ) (a m : ℕ) (seats : List Seat) (devices : List Id) → length (map slot_with (zip (map place (range_with_len a m)) (zip seats devices))) ≤ m
zipped_few place a zero seats devices = omega arith
zipped_few place a (suc m) [] devices = omega arith
zipped_few place a (suc m) (x ∷ seats) [] = omega arith
zipped_few place a (suc m) (x ∷ seats) (d ∷ devices) = let rest = zipped_few place (a + 1) m seats devices in omega (arith, rest)

-- a superblock is that of a member that isn't missing
pub record IsMemberSuper (u : View) (d t : ℕ) (w : List ℕ) : Type 0 where
  pub position : ℕ
  pub low : position < u.truth.raid_disks
  pub there : slice_get u.seats position ≢ Some Missing
  pub disk : d ≡ slice_on u position
  pub sector : t ≡ super_sector
  pub long : length w ≡ 512

module _ (u : View) (before added : List Target) (is_array : IsArray u) (adds : AddsSupersOf u before added) where
  pub supers_on : (d t : ℕ) (w : List ℕ) → IsPayload adds.targets d t w → IsMemberSuper u d t w
  supers_on d t w is =
      let x = payload_target adds.targets d t w is in
      let from = supers_from u.number u.truth (slots_of u) adds.targets x.0 adds.supers x.1 in
      let facts = slot_facts u from.index from.slot is_array from.at in
      record {
        position = from.index;
        low = facts.0;
        there = λ gone. both_ways (is_missing_seat from.slot.seat) from.there (missing from.slot.seat (sym facts.2 ∙ gone));
        disk = sym x.2 ∙ from.on.disk ∙ ap (λ p. member_slice p u.number) facts.1;
        sector = sym x.3 ∙ from.on.sector;
        long = ap length x.4 ∙ from.on.bytes.sized;
      }
    where
      missing : (seat : Seat) → Some seat ≡ Some Missing → is_missing_seat seat ≡ true
      missing seat same = let at : seat ≡ Missing = cc in ap is_missing_seat at

  pub supers_apart : are_apart adds.targets ≡ true
  supers_apart =
      targets_apart u.number u.truth is_array.few (slots_of u) adds.targets
      (λ n m s t one two same.
      let first = slot_facts u n s is_array one in
      let second = slot_facts u m t is_array two in
      places_apart u n m is_array first.0 second.0 (sym first.1 ∙ same ∙ second.1))
      adds.supers

  pub supers_some : (k : ℕ) → k < u.truth.raid_disks → is_missing_seat (slot_on u k).seat ≡ false → 0 < length adds.targets
  supers_some k low there =
      some_super u.number u.truth (slots_of u) adds.targets k _ adds.supers
      (slots_zipped (place_by u.truth) 0 u.truth.raid_disks u.seats u.devices is_array.seats is_array.devices k low) there

  pub supers_few : length adds.targets ≤ u.truth.raid_disks
  supers_few =
      let one = supers_count u.number u.truth (slots_of u) adds.targets adds.supers in
      let two = zipped_few (place_by u.truth) 0 u.truth.raid_disks u.seats u.devices in
      omega (arith, one, two)
