-- The superblocks of a settled array agree once they are written.
use Rattle.std.proofs.Common.{◌≡◌, ℕ, ◌+◌, ◌<◌, Bool, true, false, ◌==◌, not, is_some, List, [], length, get_or, slice_get, Option, Some, None, option_map, unwrap_or, refl, sym, ap, subst, ◌∙◌, inl, inr, eqb-true, eq-eqb, arith}
use Rattle.std.proofs.lemmas.Bool.{cases_Bool, both_ways}
use Rattle.std.proofs.lemmas.List.{length-map}
use Rattle.std.proofs.lemmas.List.FromFn.{length-map-range_with_len}
use Rattle.std.proofs.lemmas.Option.{slice_get-get_or}
use Rattle.std.proofs.lemmas.Slice.Zip.{length-zip}
use Rattle.std.specs.List.{list_any, range_with_len, zip}
use Rattle.rack.specs.Seen.{Image, RackView}
use Rattle.rack.specs.Targets.{Target, put}
use Rattle.md_super.specs.declared.superblock.Super.{Super}
use Rattle.pool_state.specs.declared.contents.State.{State}
use Rattle.array_image.specs.Arrays.{place_with}
use Rattle.array_image.specs.SoundArray.{array_fields}
use Rattle.array_image.specs.States.{is_current}
use Rattle.array_image.specs.Supers.{super_in, truth_in}
use Rattle.array_image.proofs.Frames.{Agree, supers_same, truth_by_supers}
use Rattle.array_model.specs.declared.Seat.{Seat}
use Rattle.array_model.specs.declared.Seat.TheVariants.{Missing}
use Rattle.array_model.specs.View.{View, is_missing_seat, place_at}
use Rattle.array_model.specs.Says.{HasNoOthers}
use Rattle.array_core.specs.declared.slots.Slot.{Slot}
use Rattle.array_core.specs.Slots.{place_by, places_by, slot_with, slots_of}
use Rattle.array_core.specs.Superblocks.{member_super}
use Rattle.array_core.proofs.OwnSupers.{has_sectors, own_fields, own_there}
use Rattle.array_core.proofs.Staged.{alone_others, slot_on, truth_is}
use Rattle.raid_laws.specs.Agreeing.{SupersAgree}
use Rattle.raid_laws.proofs.Elements.{slot_at_position}
use Rattle.raid_laws.proofs.Ranges.{any_none, any_some}
use Rattle.raid_laws.proofs.Restated.{IsStaged, has_supers}

-- contents of the same slices have the same superblocks
pub agree_by : (t : State) (r e : Image) (n : ℕ) → Agree n r e → SupersAgree t e n → SupersAgree t r n
agree_by t r e n agree at = record {
  truth = at.truth;
  leads = truth_by_supers t r e n (supers_same t r e n agree) ∙ at.leads;
  same = λ p u current is. at.same p u current (sym (supers_same t r e n agree p) ∙ is);
  there = λ k p low role current. ap is_some (supers_same t r e n agree p) ∙ at.there k p low role current;
}

no_slot : Slot
no_slot = record { place = 0; seat = Missing; device = record { 0 = [] } }

-- there is one slot for each position
pub slots_count : (u : View) → length u.seats ≡ u.truth.raid_disks → length u.devices ≡ u.truth.raid_disks → length (slots_of u) ≡ u.truth.raid_disks
slots_count u seats devices =
    let all = length-map (zip (places_by u.truth) (zip u.seats u.devices)) slot_with in
    let outer = length-zip (places_by u.truth) (zip u.seats u.devices) in
    let inner = length-zip u.seats u.devices in
    let places = length-map-range_with_len (place_by u.truth) 0 u.truth.raid_disks in
    omega (arith, all, outer, inner, places, seats, devices)

not_not : (b : Bool) → not b ≡ true → b ≡ false
not_not true is = absurd (both_ways false refl is)
not_not false is = refl

-- a seat on a current place isn't missing
seat_there : (o : Option Seat) (seat : Seat) (current : Bool) → o ≡ Some seat → option_map (λ s. not (is_missing_seat s)) o ≡ Some current → current ≡ true
    → is_missing_seat seat ≡ false
seat_there o seat current is marks now =
    not_not (is_missing_seat seat)
    (ap (λ (x : Option Bool). unwrap_or x (not (is_missing_seat seat))) (sym (ap (option_map (λ s. not (is_missing_seat s))) is) ∙ marks) ∙ now)

module _ (s t : State) (gone : ℕ → Bool) (u : View) (xs : List Target) (a : RackView) (n : ℕ) (c : Image) (staged : IsStaged s t gone u xs a n)
    (alone : HasNoOthers u t (put a.sectors xs c)) where
  -- the superblock of the member of a position
  record HasOwn (k : ℕ) : Type 0 where
    slot : Slot
    is : super_in t (put a.sectors xs c) n (place_at u k) ≡ Some (member_super u.truth slot)

  own : (k : ℕ) → k < u.truth.raid_disks → is_current t (place_at u k) ≡ true → HasOwn k
  own k low current =
      let count = slots_count u staged.seats staged.devices in
      let slot = get_or (slots_of u) k no_slot in
      let is = slice_get-get_or (slots_of u) k no_slot (omega (arith, low, count)) in
      let at = slot_at_position (place_by u.truth) 0 u.truth.raid_disks u.seats u.devices k slot staged.seats staged.devices is in
      let place : slot.place ≡ place_at u k = at.1 ∙ ap (place_by u.truth) (let e : 0 + k ≡ k = omega arith in e) in
      let seats = staged.seats in
      let there = seat_there (slice_get u.seats k) slot.seat (is_current t (place_at u k)) at.2 (staged.state.marks k (omega (arith, low, seats))) current in
      let few = staged.placed k low in
      let sector = has_sectors u.number u.truth (put a.sectors xs c) (slots_of u) staged.adds.targets staged.adds.supers (has_supers s t gone u xs a n c staged) k slot is there in
      record {
        slot = slot;
        is = subst (λ m. super_in t (put a.sectors xs c) m (place_at u k) ≡ Some (member_super u.truth slot)) staged.number
            (subst (λ p. super_in t (put a.sectors xs c) u.number p ≡ Some (member_super u.truth slot)) place
            (own_there u t (put a.sectors xs c) slot staged.state (omega (arith, place, few)) sector));
      }

  -- a superblock on a current place is a member's
  on_place : (p : ℕ) (w : Super) → is_current t p ≡ true → super_in t (put a.sectors xs c) n p ≡ Some w → (slot : Slot) × (w ≡ member_super u.truth slot)
  on_place p w current is =
      let test : ℕ → Bool = λ k. place_at u k == p in
      elim (cases_Bool (list_any test (range_with_len 0 u.truth.raid_disks))) [
        | inl some ↦
            let at = any_some test 0 u.truth.raid_disks some in
            let high = at.2 in
            let here : place_at u at.0 ≡ p = eqb-true (place_at u at.0) p at.3 in
            let mine = own at.0 (omega (arith, high)) (ap (is_current t) here ∙ current) in
            (mine.slot, same_super (sym is ∙ ap (super_in t (put a.sectors xs c) n) (sym here) ∙ mine.is))
        | inr none ↦
            absurd (none_some (sym (subst (λ m. super_in t (put a.sectors xs c) m p ≡ None) staged.number
            (alone p current
            (λ k low here. both_ways (test k) (any_none test 0 u.truth.raid_disks k none (omega arith) (omega (arith, low))) (eq-eqb (place_at u k) p here))))
            ∙ is))
      ]
    where
      same_super : {x y : Super} → Some x ≡ Some y → x ≡ y
      same_super e = cc

      none_some : {x : Super} → None ≡ Some x → ⊥
      none_some e = cc

  pub staged_agrees : SupersAgree t (put a.sectors xs c) n
  staged_agrees =
      let e : Image = put a.sectors xs c in
      let has = has_supers s t gone u xs a n c staged in
      let found = truth_is u t e staged.seats staged.devices staged.placed staged.state staged.before staged.added staged.adds has
      staged.member staged.low staged.left (alone_others u t e staged.seats alone) in
      let lead = slot_on u found.1.position in
      record {
        truth = found.0;
        leads = subst (λ m. truth_in t e m ≡ Some found.0) staged.number found.1.truth;
        same = λ p w current is.
            let mine = on_place p w current is in
            ap array_fields mine.1 ∙ own_fields u.truth mine.0 lead ∙ ap array_fields (sym found.1.is);
        there = λ k p low role current.
            let small : k < u.truth.raid_disks = subst (λ (q : Super). k < q.raid_disks) found.1.is low in
            let here : place_at u k ≡ p = ap (λ (o : Option ℕ). unwrap_or o 16) (subst (λ (q : Super). place_with q.roles.items k ≡ Some p) found.1.is role) in
            let mine = own k small (ap (is_current t) here ∙ current) in
            ap is_some (ap (super_in t e n) (sym here) ∙ mine.is);
      }
