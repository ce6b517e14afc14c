-- An array that was opened has a member that is whole, on a place with a disk.
use Rattle.std.proofs.Common.{◌≡◌, ℕ, suc, ◌+◌, ◌<◌, ◌≤◌, Bool, true, false, ◌&&◌, not, nat_lt, if◌then◌else◌, List, [], ◌∷◌, length, slice_get, Option, Some, None, Ok, Err, option_map, unwrap_or, is_some, inl, inr, lt-ltb, refl, sym, ap, subst, ◌∙◌, arith}
use Rattle.std.specs.Option.{option_map_or}
use Rattle.std.specs.List.{range_with_len}
use Rattle.std.proofs.lemmas.Bool.{both_ways, cases_lt}
use Rattle.std.proofs.lemmas.List.{length-map}
use Rattle.std.proofs.lemmas.List.Sums.{sum_by-cons}
use Rattle.std.proofs.lemmas.List.FromFn.{length-map-range_with_len}
use Rattle.std.proofs.lemmas.Option.{none-some, slice_get_within}
use Rattle.md_super.specs.declared.superblock.Super.{Super}
use Rattle.pool_state.specs.declared.contents.State.{State}
use Rattle.array_image.specs.States.{is_current}
use Rattle.array_image.specs.Supers.{is_named, is_unclean, super_in}
use Rattle.array_model.specs.declared.Seat.TheVariants.{Missing}
use Rattle.array_model.specs.View.{View, IsArray, is_whole_seat}
use Rattle.array_core.specs.declared.slots.Slot.{Slot}
use Rattle.array_core.specs.declared.ArrayFault.TheVariants.{Foreign, TooFew, DirtyDegraded}
use Rattle.array_core.specs.declared.Found.{Found as FoundSuper}
use Rattle.array_core.specs.Opening.{lacking, opened, opened_by, seat_by, share_set, slot_by, slots_found, super_at, truth_of, view_found}
use Rattle.array_core.specs.Slots.{place_by, places_by}
use Rattle.array_core.proofs.Rules.{get_map, get_range, zero_more}
use Rattle.raid_laws.proofs.Founding.{position_named}
use Rattle.pool_image.specs.Disks.{Seats}
use Rattle.pool_check.specs.Founded.{IsFounded}

-- of some members of which none lacks, the first is whole
whole_first : (slots : List Slot) → 1 ≤ length slots → lacking slots ≤ 0 → (k : ℕ) × (slot : Slot) × (slice_get slots k ≡ Some slot) × (is_whole_seat slot.seat ≡ true)
whole_first [] many few = absurd (omega (arith, many))
whole_first (a ∷ rest) many few = at (is_whole_seat a.seat) refl
  where
    at : (b : Bool) → is_whole_seat a.seat ≡ b → (k : ℕ) × (slot : Slot) × (slice_get (a ∷ rest) k ≡ Some slot) × (is_whole_seat slot.seat ≡ true)
    at true is = (0, a, refl, is)
    at false is =
        let count : lacking (a ∷ rest) ≡ 1 + lacking rest =
        sum_by-cons (λ (s : Slot). if not (is_whole_seat s.seat) then 1 else 0) a rest ∙ ap (λ b. (if not b then 1 else 0) + lacking rest) is in
        absurd (omega (arith, few, count))

-- so of two or more of which one lacks at most, one is
whole_one : (slots : List Slot) → 2 ≤ length slots → lacking slots ≤ 1 → (k : ℕ) × (slot : Slot) × (slice_get slots k ≡ Some slot) × (is_whole_seat slot.seat ≡ true)
whole_one [] many few = absurd (omega (arith, many))
whole_one (a ∷ rest) many few = at (is_whole_seat a.seat) refl
  where
    at : (b : Bool) → is_whole_seat a.seat ≡ b → (k : ℕ) × (slot : Slot) × (slice_get (a ∷ rest) k ≡ Some slot) × (is_whole_seat slot.seat ≡ true)
    at true is = (0, a, refl, is)
    at false is =
        let count : lacking (a ∷ rest) ≡ 1 + lacking rest =
        sum_by-cons (λ (s : Slot). if not (is_whole_seat s.seat) then 1 else 0) a rest ∙ ap (λ b. (if not b then 1 else 0) + lacking rest) is in
        let next = whole_first rest (omega (arith, many)) (omega (arith, few, count)) in
        (suc next.0, next.1, next.2, next.3)

-- a member is whole only where its superblock was found
whole_found : (own : Option Super) → is_whole_seat (option_map_or seat_by own Missing) ≡ true → (t : Super) × (own ≡ Some t)
whole_found None is = absurd (both_ways false refl is)
whole_found (Some t) is = (t, refl)

-- the superblock of a current place is that of its slice
current_found : (current : Bool) (o : Option Super) (t : Super) → (if current then o else None) ≡ Some t → (current ≡ true) × (is_some o ≡ true)
current_found true o t is = (refl, ap is_some is)
current_found false o t is = absurd (none-some t is)

seat_there : (o : Option ℕ) → is_some o ≡ true → (d : ℕ) × (o ≡ Some d)
seat_there None is = absurd (both_ways false refl is)
seat_there (Some d) is = (d, refl)

pub few_lacking : (number : ℕ) (young : Bool) (found : List FoundSuper) (t : Super) (v : View) → truth_of found ≡ Some t → opened number young found ≡ Ok v
    → lacking (slots_found found t) ≤ 1
few_lacking number young found t v is made = elim (cases_lt 1 (lacking (slots_found found t))) [
  | inr few ↦ few
  | inl many ↦
      absurd (short (share_set found t.set_id) (nat_lt 0 (lacking (slots_found found t)) && (not young && is_unclean t)) (lt-ltb 1 (lacking (slots_found found t)) many)
      (sym (ap (λ (o : Option Super). option_map_or (opened_by number young found) o (Err Foreign)) is) ∙ made))
]
  where
    short : (share dirty : Bool) → nat_lt 1 (lacking (slots_found found t)) ≡ true
        → (if not share then Err Foreign else if nat_lt 1 (lacking (slots_found found t)) then Err TooFew else if dirty then Err DirtyDegraded else Ok (view_found number young found t)) ≡ Ok v → ⊥
    short share dirty many = subst (λ b. (if not share then Err Foreign else if b then Err TooFew else if dirty then Err DirtyDegraded else Ok (view_found number young found t)) ≡ Ok v → ⊥) (sym many) (bad share)
      where
        bad : (share : Bool) → (if not share then Err Foreign else Err TooFew) ≡ Ok v → ⊥
        bad true is = absurd (let no : Err TooFew ≡ Ok v = is in cc)
        bad false is = absurd (let no : Err Foreign ≡ Ok v = is in cc)

-- the position of a whole member
pub whole_position : (s : State) (seats : Seats) (n : ℕ) (v : View) (f : IsFounded s seats n v) → IsArray v
    → (k : ℕ) × (k < f.truth.raid_disks) × (is_whole_seat (option_map_or seat_by (super_at f.found (place_by f.truth k)) Missing) ≡ true)
whole_position s seats n v f is_array =
    let t = f.truth in
    let truth : v.truth ≡ t = ap (λ (w : View). w.truth) f.view in
    let least : 2 ≤ t.raid_disks = subst (λ (u : Super). 2 ≤ u.raid_disks) truth is_array.least in
    let count : length (slots_found f.found t) ≡ t.raid_disks =
    length-map (places_by t) (λ place. slot_by place (super_at f.found place)) ∙ length-map-range_with_len (place_by t) 0 t.raid_disks in
    let one = whole_one (slots_found f.found t) (omega (arith, least, count)) (few_lacking n (not (nat_lt n s.joined)) f.found t v f.leads f.opened) in
    let k = one.0 in
    let below = slice_get_within (slots_found f.found t) k one.1 one.2 in
    let low : k < t.raid_disks = omega (arith, below, count) in
    let p = place_by t k in
    let at : slice_get (slots_found f.found t) k ≡ Some (slot_by p (super_at f.found p)) =
    get_map (λ place. slot_by place (super_at f.found place)) (places_by t) k
    ∙ ap (option_map (λ place. slot_by place (super_at f.found place)))
    (get_map (place_by t) (range_with_len 0 t.raid_disks) k ∙ ap (option_map (place_by t)) (get_range 0 t.raid_disks k low)
    ∙ ap (λ (j : ℕ). Some (place_by t j)) (zero_more k)) in
    let slot : one.1 ≡ slot_by p (super_at f.found p) = ap (λ o. unwrap_or o one.1) (sym one.2 ∙ at) in
    (k, low, sym (ap (λ (x : Slot). is_whole_seat x.seat) slot) ∙ one.3)

pub whole_member : (s : State) (seats : Seats) (n : ℕ) (v : View) → IsFounded s seats n v → IsArray v
    → (place d : ℕ) × (is_named v.truth place ≡ true) × (seats place ≡ Some d)
whole_member s seats n v f is_array =
    let t = f.truth in
    let truth : v.truth ≡ t = ap (λ (w : View). w.truth) f.view in
    let one = whole_position s seats n v f is_array in
    let p = place_by t one.0 in
    let own = whole_found (super_at f.found p) one.2 in
    let named = position_named t one.0 f.usable one.1 in
    let here = current_found (is_current s p) (super_in s f.image n p) own.0 (sym (f.named p named) ∙ own.1) in
    let seat = seat_there (seats p) (sym (f.there p named here.0) ∙ here.1) in
    (p, seat.0, ap (λ (u : Super). is_named u p) truth ∙ named, seat.1)
