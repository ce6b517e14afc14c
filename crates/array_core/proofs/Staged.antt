-- Contents that have the superblocks of an array's members say that array.
use Rattle.std.proofs.Common.{◌≡◌, ◌⊎◌, ℕ, zero, suc, pos, ◌+◌, ◌-◌, ◌%◌, ◌<◌, ◌≤◌, Bool, true, false, ◌==◌, not, nat_le, if◌then◌else◌, List, [], ◌∷◌, map, length, slice_get, Option, Some, None, option_map, unwrap_or, refl, sym, ap, ap₂, subst, ◌∙◌, inl, inr, arith}
use Rattle.std.specs.List.{range_with_len, zip}
use Rattle.std.proofs.lemmas.Bool.{both_ways, cases_eq, eqb-true, leb-true, and_parts}
use Rattle.rack.specs.Seen.{Image}
use Rattle.rack.specs.Targets.{Target}
use Rattle.shr_base.specs.declared.Id.{Id}
use Rattle.md_super.specs.declared.superblock.Super.{Super}
use Rattle.pool_state.specs.declared.contents.State.{State}
use Rattle.array_image.specs.States.{is_current}
use Rattle.array_image.specs.Supers.{is_rebuilding, super_in, truth_in, named_places}
use Rattle.array_image.specs.Arrays.{Shape, member_by, member_in, shape_by, shape_in, final_layout}
use Rattle.array_image.specs.SoundArray.{IsWrittenSuper, IsSoundArray, array_fields, first_unsynced}
use Rattle.array_image.specs.Even.{AreEven}
use Rattle.array_model.specs.declared.Seat.{Seat}
use Rattle.array_model.specs.declared.Seat.TheVariants.{Whole, Missing, Rebuilding}
use Rattle.array_model.specs.View.{View, shape_of, member_on, place_at, is_missing_seat, member_by_seat}
use Rattle.array_model.specs.Stages.{IsStateOf, NoOthers, HasTargets}
use Rattle.array_core.specs.declared.slots.Slot.{Slot}
use Rattle.array_core.specs.Slots.{slot_with, slots_of, place_by}
use Rattle.array_core.specs.Superblocks.{member_super, rebuilt_to}
use Rattle.array_core.specs.Contents.{current_super}
use Rattle.array_core.specs.Staging.{AddsSupersOf, HasNoOthers, HasRowRebuilds}
use Rattle.md_super.specs.Profile.{rules}
use Rattle.array_image.specs.Stripes.{parity}
use Rattle.array_core.proofs.Truths.{rule_holds}
use Rattle.array_core.proofs.Leading.{none_leads, not_more}
use Rattle.array_core.proofs.Opened.{truth_ranged, truth_leads, current_is, current_below, map_ranged}
use Rattle.array_core.proofs.OwnSupers.{own_reshaping, own_whole, own_rebuilding, own_fields, own_array, own_there, has_sectors}

-- ---- the member of a position

abbrev pub no_device : Id
no_device = record { 0 = [] }

abbrev pub slot_on : View → ℕ → Slot
slot_on v n = record {
  place = place_at v n;
  seat = unwrap_or (slice_get v.seats n) Missing;
  device = unwrap_or (slice_get v.devices n) no_device;
}

pub slots_zipped : (place : ℕ → ℕ) (a m : ℕ) (seats : List Seat) (devices : List Id) → length seats ≡ m → length devices ≡ m → (n : ℕ) → n < m
    → slice_get (map slot_with (zip (map place (range_with_len a m)) (zip seats devices))) n
    ≡ Some (record { place = place (a + n); seat = unwrap_or (slice_get seats n) Missing; device = unwrap_or (slice_get devices n) no_device })
slots_zipped place a zero seats devices one two n low = absurd (omega (arith, low))
slots_zipped place a (suc m) [] devices one two n low = absurd (omega (arith, one))
slots_zipped place a (suc m) (s ∷ seats) [] one two n low = absurd (omega (arith, two))
slots_zipped place a (suc m) (s ∷ seats) (d ∷ devices) one two zero low =
    ap (λ (k : ℕ). Some (record { place = place k; seat = s; device = d })) (omega arith)
slots_zipped place a (suc m) (s ∷ seats) (d ∷ devices) one two (suc n) low =
    slots_zipped place (a + 1) m seats devices (omega (arith, one)) (omega (arith, two)) n (omega (arith, low))
    ∙ ap (λ (k : ℕ). Some (record { place = place k; seat = unwrap_or (slice_get seats n) Missing; device = unwrap_or (slice_get devices n) no_device })) (omega arith)

pub got : {X : Type 0} (xs : List X) (n : ℕ) (d : X) → n < length xs → slice_get xs n ≡ Some (unwrap_or (slice_get xs n) d)
got [] n d low = absurd (omega (arith, low))
got (x ∷ xs) zero d low = refl
got (x ∷ xs) (suc n) d low = got xs n d (omega (arith, low))

-- which of some places one is
find_place : (place : ℕ → ℕ) (m p : ℕ) → ((n : ℕ) × (n < m) × (place n ≡ p)) ⊎ ((n : ℕ) → n < m → place n ≡ p → ⊥)
find_place place zero p = inr (λ n low is. omega (arith, low))
find_place place (suc m) p =
    elim (find_place place m p) [
      | inl found ↦ inl (found.0, omega (arith, found.1), found.2)
      | inr none ↦ elim (cases_eq (place m) p) [
        | inl is ↦ inl (m, omega arith, is)
        | inr other ↦ inr (λ n low is. elim (cases_eq n m) [
          | inl last ↦ other (ap place (sym last) ∙ is)
          | inr early ↦ none n (omega (arith, low, early)) is
        ])
      ]
    ]

-- where nobody else has a superblock, nobody else has one of as many events
pub alone_others : (v : View) (t : State) (e : Image) → length v.seats ≡ v.truth.raid_disks → HasNoOthers v t e → NoOthers v t e
alone_others v t e seats alone place u is current apart =
    absurd (none_some (sym (alone place current (λ n low at. apart n (omega (arith, low, seats)) (sym at))) ∙ is))
  where
    none_some : {u : Super} → None ≡ Some u → ⊥
    none_some e = cc

module _ (v : View) (t : State) (e : Image)
    (seats : length v.seats ≡ v.truth.raid_disks) (devices : length v.devices ≡ v.truth.raid_disks)
    (placed : (n : ℕ) → n < v.truth.raid_disks → place_at v n < 16)
    (state : IsStateOf v t)
    (before added : List Target) (adds : AddsSupersOf v before added) (has : HasTargets adds.targets e) where
  slot_is : (n : ℕ) → n < v.truth.raid_disks → slice_get (slots_of v) n ≡ Some (slot_on v n)
  slot_is n low =
      slots_zipped (place_by v.truth) 0 v.truth.raid_disks v.seats v.devices seats devices n low
      ∙ ap (λ (k : ℕ). Some (record { place = place_by v.truth k; seat = unwrap_or (slice_get v.seats n) Missing; device = unwrap_or (slice_get v.devices n) no_device })) (omega arith)

  seat_is : (n : ℕ) → n < v.truth.raid_disks → slice_get v.seats n ≡ Some (slot_on v n).seat
  seat_is n low = got v.seats n Missing (omega (arith, low, seats))

  -- its place is current where it isn't missing
  marked : (n : ℕ) → n < v.truth.raid_disks → is_current t (place_at v n) ≡ not (is_missing_seat (slot_on v n).seat)
  marked n low = same (sym (ap (option_map (λ seat. not (is_missing_seat seat))) (seat_is n low)) ∙ state.marks n (omega (arith, low, seats)))
    where
      same : {a b : Bool} → Some a ≡ Some b → b ≡ a
      same e = cc

  -- and then has its superblock
  own : (n : ℕ) → n < v.truth.raid_disks → is_missing_seat (slot_on v n).seat ≡ false → super_in t e v.number (place_at v n) ≡ Some (member_super v.truth (slot_on v n))
  own n low there =
      own_there v t e (slot_on v n) state (placed n low)
      (has_sectors v.number v.truth e (slots_of v) adds.targets adds.supers has n (slot_on v n) (slot_is n low) there)

  own_current : (n : ℕ) → n < v.truth.raid_disks → is_missing_seat (slot_on v n).seat ≡ false → current_super t e v.number (place_at v n) ≡ Some (member_super v.truth (slot_on v n))
  own_current n low there =
      ap (λ (b : Bool). if b then super_in t e v.number (place_at v n) else None) (marked n low ∙ ap not there) ∙ own n low there

  -- the superblock of a current member
  member_own : (n : ℕ) (p : ℕ) (u : Super) → n < v.truth.raid_disks → place_at v n ≡ p → is_current t p ≡ true → super_in t e v.number p ≡ Some u
      → (is_missing_seat (slot_on v n).seat ≡ false) × (u ≡ member_super v.truth (slot_on v n))
  member_own n p u low at current is =
      let there : is_missing_seat (slot_on v n).seat ≡ false = not_not (sym (marked n low) ∙ ap (is_current t) at ∙ current) in
      (there, same (sym is ∙ ap (super_in t e v.number) (sym at) ∙ own n low there))
    where
      same : {a b : Super} → Some a ≡ Some b → a ≡ b
      same e = cc

      not_not : {b : Bool} → not b ≡ true → b ≡ false
      not_not {b} = elim b as (λ b. not b ≡ true → b ≡ false) [ true ↦ λ e. sym e | false ↦ λ e. refl ]

  module _ (some : ℕ) (some_low : some < v.truth.raid_disks) (some_there : is_missing_seat (slot_on v some).seat ≡ false) (others : NoOthers v t e) where
    -- a superblock is the truth, and that of a member
    pub record IsTruth (u : Super) : Type 0 where
      pub truth : truth_in t e v.number ≡ Some u
      pub position : ℕ
      pub low : position < v.truth.raid_disks
      pub is : u ≡ member_super v.truth (slot_on v position)

    -- what leads is a member's
    leader : (u : Super) → truth_in t e v.number ≡ Some u → IsTruth u
    leader u truth =
        let leads = truth_leads t e v.number u truth in
        let there = current_is t e v.number leads.at u leads.here in
        elim (find_place (place_at v) v.truth.raid_disks leads.at) [
          | inl found ↦ record {
            truth = truth;
            position = found.0;
            low = found.1;
            is = (member_own found.0 leads.at u found.1 found.2 there.0 there.1).1;
          }
          | inr none ↦
              let fewer = others leads.at u there.1 there.0 (λ n low at. none n (omega (arith, low, seats)) (sym at)) in
              let mine = own_current some some_low some_there in
              let below = current_below t (place_at v some) (current_is t e v.number (place_at v some) _ mine).0 in
              let more = not_more (λ x. x.events) (current_super t e v.number) 0 (length t.drives.items) u leads (place_at v some) (member_super v.truth (slot_on v some)) (omega arith) (omega (arith, below)) mine in
              absurd (omega (arith, fewer, more))
        ]

    pub truth_is : (u : Super) × IsTruth u
    truth_is =
        let Goal : Option Super → Type 0 = λ o. truth_in t e v.number ≡ o → (u : Super) × IsTruth u in
        let goal : Goal (truth_in t e v.number) = elim (truth_in t e v.number) as Goal [
          | Some u ↦ λ is. (u, leader u is)
          | None ↦ λ is.
              let mine = own_current some some_low some_there in
              let below = current_below t (place_at v some) (current_is t e v.number (place_at v some) _ mine).0 in
              let none = none_leads (λ x. x.events) (current_super t e v.number) 0 (length t.drives.items) (sym (truth_ranged t e v.number) ∙ is) (place_at v some) (omega arith) (omega (arith, below)) in
              absurd (none_some (sym none ∙ mine))
        ] in
        goal refl
      where
        none_some : {u : Super} → None ≡ Some u → ⊥
        none_some e = cc

    -- ---- the shape

    -- a member of the contents is that of the run
    member_same : (s : Slot) (n : ℕ) → n < v.truth.raid_disks → member_in t e v.number (member_super v.truth s) n ≡ member_on v n
    member_same s n low =
        let place = place_at v n in
        let Goal : Seat → Type 0 = λ seat. (slot_on v n).seat ≡ seat → member_by v.truth.size place (is_current t place) (super_in t e v.number place) ≡ member_by_seat v.truth.size place (Some seat) in
        let goal : Goal (slot_on v n).seat = elim (slot_on v n).seat as Goal [
          | Missing ↦ λ is. ap (λ (b : Bool). member_by v.truth.size place b (super_in t e v.number place)) (marked n low ∙ ap (λ seat. not (is_missing_seat seat)) is)
          | Whole ↦ λ is.
              ap₂ (member_by v.truth.size place) (marked n low ∙ ap (λ seat. not (is_missing_seat seat)) is) (own n low (ap is_missing_seat is))
              ∙ ap (λ (b : Bool). record { place = place; reach = if b then (member_super v.truth (slot_on v n)).recovery_offset else v.truth.size; is_there = true; is_whole = not b }) (own_whole v.truth (slot_on v n) is)
          | Rebuilding to ↦ λ is.
              ap₂ (member_by v.truth.size place) (marked n low ∙ ap (λ seat. not (is_missing_seat seat)) is) (own n low (ap is_missing_seat is))
              ∙ ap (λ (b : Bool). record { place = place; reach = if b then (member_super v.truth (slot_on v n)).recovery_offset else v.truth.size; is_there = true; is_whole = not b }) (own_rebuilding v.truth (slot_on v n) to is)
              ∙ ap (λ seat. record { place = place; reach = rebuilt_to seat; is_there = true; is_whole = false }) is
        ] in
        goal refl ∙ ap (member_by_seat v.truth.size place) (sym (seat_is n low))

    shape_same : (s : Slot) → shape_by t e v.number (member_super v.truth s) ≡ shape_of v
    unfolding shape_by shape_of
    shape_same s =
        let members = map_ranged (member_in t e v.number (member_super v.truth s)) (member_on v) 0 v.truth.raid_disks (λ n least low. member_same s n (omega (arith, low))) in
        let bit = own_reshaping v.truth s in
        λ i. record {
          members = members i;
          size = v.truth.size;
          moved = final_layout v.truth;
          layout = if bit i then parity (v.truth.raid_disks - 1) else final_layout v.truth;
          reached = if bit i then v.truth.reshape_position else 0;
        }

    -- the shape of the contents is that of the run
    pub staged_shape : shape_in t e v.number ≡ Some (shape_of v)
    staged_shape =
        let there = truth_is.1 in
        ap (option_map (shape_by t e v.number)) there.truth
        ∙ ap (λ u. Some (shape_by t e v.number u)) there.is
        ∙ ap Some (shape_same (slot_on v there.position))

    -- the truth of the contents has the array's fields of the run's
    pub staged_truth : (u : Super) → truth_in t e v.number ≡ Some u → array_fields u ≡ array_fields v.truth
    staged_truth u truth =
        let there = leader u truth in
        ap array_fields there.is
        ∙ own_array v.truth (slot_on v there.position) (eqb-true _ 0 (rule_holds 0 (rules v.truth t.extent) state.profile))

    -- ---- the superblocks agree

    module _ (alone : HasNoOthers v t e) (rows : HasRowRebuilds v) (written : IsWrittenSuper v.number v.truth)
        (even : AreEven (shape_of v) v.number v.resync e) (unsynced : first_unsynced v.truth ≤ v.resync) where
      -- a superblock on a current place is a member's
      record IsOwn (p : ℕ) (u : Super) : Type 0 where
        position : ℕ
        low : position < v.truth.raid_disks
        there : is_missing_seat (slot_on v position).seat ≡ false
        is : u ≡ member_super v.truth (slot_on v position)

      is_own : (p : ℕ) (u : Super) → is_current t p ≡ true → super_in t e v.number p ≡ Some u → IsOwn p u
      is_own p u current is =
          elim (find_place (place_at v) v.truth.raid_disks p) [
            | inl found ↦ (let member = member_own found.0 p u found.1 found.2 current is in
                record { position = found.0; low = found.1; there = member.0; is = member.1 })
            | inr none ↦ absurd (none_some (sym (alone p current none) ∙ is))
          ]
        where
          none_some : {u : Super} → None ≡ Some u → ⊥
          none_some e = cc

      own_written : (s : Slot) → IsWrittenSuper v.number (member_super v.truth s)
      own_written s =
          let bit = sym (own_reshaping v.truth s) in
          record {
            name = written.name;
            times = written.times;
            roles = written.roles;
            step = written.step ∙ ap (λ (b : Bool). pos (if b then 1 else 0)) bit;
            next_level = written.next_level ∙ ap (λ (b : Bool). pos (if b then 5 else 0)) bit;
            next_layout = written.next_layout ∙ ap (λ (b : Bool). if b then 2 else 0) bit;
            next_chunk = written.next_chunk ∙ ap (λ (b : Bool). if b then 128 else 0) bit;
            position = written.position;
            last_position = written.last_position;
            no_position = λ is. written.no_position (bit ∙ is);
            resync = written.resync;
          }

      own_rows : (n : ℕ) → n < v.truth.raid_disks → is_missing_seat (slot_on v n).seat ≡ false → is_rebuilding (member_super v.truth (slot_on v n)) ≡ true
          → ((member_super v.truth (slot_on v n)).recovery_offset % 128 ≡ 0) × ((member_super v.truth (slot_on v n)).recovery_offset < v.truth.size)
      own_rows n low there rebuilding =
          let Goal : Seat → Type 0 = λ seat. (slot_on v n).seat ≡ seat → (rebuilt_to seat % 128 ≡ 0) × (rebuilt_to seat < v.truth.size) in
          let goal : Goal (slot_on v n).seat = elim (slot_on v n).seat as Goal [
            | Missing ↦ λ is. absurd (both_ways (is_missing_seat (slot_on v n).seat) there (ap is_missing_seat is))
            | Whole ↦ λ is. absurd (both_ways (is_rebuilding (member_super v.truth (slot_on v n))) (own_whole v.truth (slot_on v n) is) rebuilding)
            | Rebuilding to ↦ λ is. rows n to (seat_is n low ∙ ap Some is)
          ] in
          goal refl

      pub staged_sound : (u : Super) → truth_in t e v.number ≡ Some u → IsSoundArray t e v.number u
      staged_sound u truth =
          let there = leader u truth in
          let disks = and_parts (nat_le 2 v.truth.raid_disks) _ (rule_holds 4 (rules v.truth t.extent) state.profile) in
          let least : 2 ≤ v.truth.raid_disks = leb-true 2 v.truth.raid_disks disks.0 in
          let count : length (named_places v.truth) ≡ v.truth.raid_disks = eqb-true (length (named_places v.truth)) v.truth.raid_disks (and_parts (length (named_places v.truth) == v.truth.raid_disks) _ state.roles).0 in
          subst (IsSoundArray t e v.number) (sym there.is) (record {
            two = subst (λ (n : ℕ). 2 ≤ n) (sym count) least;
            written = own_written (slot_on v there.position);
            same = λ p q x y here now at_p at_q events.
                let one = is_own p x here at_p in
                let two = is_own q y now at_q in
                ap array_fields one.is ∙ own_fields v.truth (slot_on v one.position) (slot_on v two.position) ∙ ap array_fields (sym two.is);
            rebuilt = λ p x here at rebuilding.
                let one = is_own p x here at in
                subst (λ (y : Super). (y.recovery_offset % 128 ≡ 0) × (y.recovery_offset < v.truth.size)) (sym one.is)
                (own_rows one.position one.low one.there (subst (λ (y : Super). is_rebuilding y ≡ true) one.is rebuilding));
            even = λ ready shape is. subst (λ (s : Shape). AreEven s v.number (first_unsynced v.truth) e) (same_shape (sym staged_shape ∙ is)) sooner;
          })
        where
          same_shape : {a b : Shape} → Some a ≡ Some b → a ≡ b
          same_shape e = cc

          sooner : AreEven (shape_of v) v.number (first_unsynced v.truth) e
          sooner = λ x inside row all. even x inside (omega (arith, row, unsynced)) all
