-- A commit that has an array's superblocks: those of the members that are left say its truth, durably.
use Rattle.std.proofs.Common.{◌≡◌, ◌≢◌, ℕ, ◌+◌, ◌<◌, Bool, true, false, List, [], length, slice_get, Option, Some, None, refl, sym, ap, subst, ◌∙◌, unwrap_or, option_map, if◌then◌else◌, arith}
use Rattle.rack.specs.Seen.{Image, RackView}
use Rattle.rack.specs.Targets.{Target, look}
use Rattle.md_super.specs.declared.superblock.Super.{Super}
use Rattle.array_image.specs.Places.{member_slice, place_of, super_sector}
use Rattle.log_laws.specs.Commits.{CommitCall}
use Rattle.log_laws.specs.View.{LogView, names}
use Rattle.array_model.specs.declared.Seat.{Seat}
use Rattle.array_model.specs.declared.Seat.TheVariants.{Whole, Missing, Rebuilding}
use Rattle.array_model.specs.Members.{slice_on}
use Rattle.array_model.specs.Stages.{AmongTargets, HasTargets}
use Rattle.array_model.specs.View.{View, IsArray, LosesPlaces, is_missing_seat, place_at, seat_unless}
use Rattle.array_core.specs.declared.slots.Slot.{Slot}
use Rattle.array_core.specs.Slots.{place_by, slots_of}
use Rattle.array_core.specs.Staging.{AddsSupersOf}
use Rattle.array_core.specs.Superblocks.{IsSectorOf, member_super}
use Rattle.array_core.specs.TruthHeld.{HasFewBits, HasTruth, HoldTruth, TellSupers}
use Rattle.array_core.proofs.OwnSupers.{has_sectors}
use Rattle.array_core.proofs.Staged.{got, no_device, slot_on, slots_zipped}
use Rattle.array_core.proofs.TruthHeld.{live_now, live_on, sector_says, slices_same}

slot_is : (u : View) (k : ℕ) → IsArray u → k < u.truth.raid_disks → slice_get (slots_of u) k ≡ Some (slot_on u k)
slot_is u k is_array low =
    slots_zipped (place_by u.truth) 0 u.truth.raid_disks u.seats u.devices is_array.seats is_array.devices k low
    ∙ ap (λ (j : ℕ). Some (record { place = place_by u.truth j; seat = unwrap_or (slice_get u.seats k) Missing; device = unwrap_or (slice_get u.devices k) no_device }))
    (let e : 0 + k ≡ k = omega arith in e)

seat_there : (u : View) (k : ℕ) → IsArray u → k < u.truth.raid_disks → slice_get u.seats k ≢ Some Missing → is_missing_seat (slot_on u k).seat ≡ false
seat_there u k is_array low there =
    let count = is_array.seats in
    by (slot_on u k).seat (λ gone. there (got u.seats k Missing (omega (arith, low, count)) ∙ ap Some gone))
  where
    by : (seat : Seat) → seat ≢ Missing → is_missing_seat seat ≡ false
    by Whole there = refl
    by Missing there = absurd (there refl)
    by (Rebuilding to) there = refl

module _ (u : View) (l : LogView) (before added : List Target) (adds : AddsSupersOf u before added) (is_array : IsArray u)
    (targets : (x : Target) → AmongTargets x adds.targets → look l.added x.disk x.sector ≡ Some x.bytes) where
  -- what the commit writes
  abbrev payloads : Image
  payloads d t = unwrap_or (look l.added d t) []

  -- the superblock of a member is among it
  record HasPayload (k : ℕ) : Type 0 where
    bytes : List ℕ
    found : look l.added (slice_on u k) super_sector ≡ Some bytes
    own : IsSectorOf (member_super u.truth (slot_on u k)) bytes

  payload_of : (k : ℕ) → k < u.truth.raid_disks → slice_get u.seats k ≢ Some Missing → HasPayload k
  payload_of k low there =
      let has : HasTargets adds.targets payloads = λ x among. ap (λ (o : Option (List ℕ)). unwrap_or o []) (targets x among) in
      by (look l.added (slice_on u k) super_sector) refl
      (has_sectors u.number u.truth payloads (slots_of u) adds.targets adds.supers has k (slot_on u k) (slot_is u k is_array low) (seat_there u k is_array low there))
    where
      by : (o : Option (List ℕ)) → look l.added (slice_on u k) super_sector ≡ o
          → IsSectorOf (member_super u.truth (slot_on u k)) (unwrap_or (look l.added (slice_on u k) super_sector) []) → HasPayload k
      by None none own = absurd (let size = own.sized in let empty : length (unwrap_or (look l.added (slice_on u k) super_sector) []) ≡ 0 = ap (λ o. length (unwrap_or o [])) none in omega (arith, size, empty))
      by (Some bytes) found own =
          record { bytes = bytes; found = found; own = subst (λ (o : Option (List ℕ)). IsSectorOf (member_super u.truth (slot_on u k)) (unwrap_or o [])) found own }

  -- who wasn't lost in it has it durably
  pub hold_committed : (w : View) (on lost : List ℕ) (a b : RackView) → a.lasting → HasFewBits u.truth → CommitCall l on lost a b → w.number ≡ u.number → w.truth ≡ u.truth
      → ((k : ℕ) → k < u.truth.raid_disks → slice_get w.seats k ≢ Some Missing → (slice_get u.seats k ≢ Some Missing) × (names lost (place_at u k) ≡ false))
      → TellSupers u a → HoldTruth w b
  hold_committed w on lost a b lasting bits commit number truth seats tells k low there =
      let inside : k < u.truth.raid_disks = subst (λ (t : Super). k < t.raid_disks) truth low in
      let was = seats k inside there in
      let told = tells k inside was.0 in
      let payload = payload_of k inside was.0 in
      let few = is_array.few in
      let place : place_of (slice_on u k) ≡ place_at u k = omega (arith, few) in
      subst (λ d. HasTruth w.truth b d) (sym (slices_same u w k number truth))
      (subst (λ (t : Super). HasTruth t b (slice_on u k)) (sym truth)
      (record {
        live = live_now a b (slice_on u k) super_sector lasting commit.stays told;
        says = λ sector leaves.
            sector_says u.truth (slot_on u k) (place_of (slice_on u k)) sector (sym place) bits
            (subst (IsSectorOf (member_super u.truth (slot_on u k)))
            (sym (commit.written (slice_on u k) super_sector payload.bytes sector (live_on a b (slice_on u k) super_sector lasting commit.stays told)
            (ap (names lost) place ∙ was.1) payload.found leaves))
            payload.own);
      }))

-- whoever is left of some that lost places wasn't lost
pub left_there : (v w : View) (lost : ℕ → Bool) (k : ℕ) → IsArray v → LosesPlaces v w lost → k < v.truth.raid_disks → slice_get w.seats k ≢ Some Missing → lost (place_at v k) ≡ false
left_there v w lost k is_array loses low there =
    let count = is_array.seats in
    by (lost (place_at v k)) refl (got v.seats k Missing (omega (arith, low, count)))
  where
    by : (b : Bool) → lost (place_at v k) ≡ b → slice_get v.seats k ≡ Some (slot_on v k).seat → lost (place_at v k) ≡ false
    by false is at = is
    by true is at =
        absurd (there
        (loses.seats k ∙ ap (option_map (seat_unless lost (place_at v k))) at ∙ ap (λ (b : Bool). Some (if b then Missing else (slot_on v k).seat)) is))
