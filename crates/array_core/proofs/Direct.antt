-- Superblocks that are written directly, one by one: at each moment images say the array by the old truth or by the new one, and
-- its shape and values stay.
use Rattle.std.proofs.Common.{◌≡◌, ◌≢◌, ◌⊎◌, ℕ, ◌+◌, ◌-◌, ◌%◌, ◌<◌, ◌≤◌, ◌^◌, Bool, true, false, ◌==◌, ◌&&◌, not, nat_lt, List, [], map, length, slice_get, Option, Some, None, option_map, unwrap_or, refl, sym, ap, ap₂, subst, ◌∙◌, inl, inr, eq-eqb, eqb-true, lt-ltb, ltb-true, arith}
use Rattle.std.proofs.lemmas.Bool.{and_parts, and_from, both_ways}
use Rattle.std.specs.List.{range_with_len}
use Rattle.rack.specs.Values.{Values, MayLeave, Keeps}
use Rattle.rack.specs.Seen.{Image, RackView, IsLive, SameRack}
use Rattle.rack.specs.Sequences.{WritesOnly, IsMix}
use Rattle.rack.specs.Joins.{leaves_weaker}
use Rattle.md_super.specs.declared.superblock.Super.{Super}
use Rattle.md_super.specs.Profile.{rules, is_mirror}
use Rattle.pool_state.specs.declared.contents.State.{State}
use Rattle.array_image.specs.Places.{slice_of, place_of, log_slice, member_slice, super_sector, data_sector}
use Rattle.array_image.specs.Stripes.{there}
use Rattle.array_image.specs.States.{is_current}
use Rattle.array_image.specs.Supers.{is_rebuilding, is_reshaping, super_in, truth_in}
use Rattle.array_image.specs.SoundArray.{IsWrittenSuper, IsSoundArray, array_fields, first_unsynced}
use Rattle.array_image.specs.Arrays.{Member, Shape, member_by, member_in, place_with, shape_by, shape_in, replayed}
use Rattle.array_image.specs.Even.{AreEven}
use Rattle.array_image.specs.Held.{IsSynced}
use Rattle.array_image.specs.Left.{reading, IsInside, Picks, PicksLogs, IsLeft}
use Rattle.array_image.proofs.Frames.{super_of_sector, value_by_data}
use Rattle.array_image.proofs.Replays.{SameLogs, calm_same, inside_same, replayed_same, whole_same}
use Rattle.array_model.specs.declared.Seat.{Seat}
use Rattle.array_model.specs.declared.Seat.TheVariants.{Whole, Missing, Rebuilding}
use Rattle.array_model.specs.View.{View, IsArray, shape_of, place_at, member_on, may_vary, is_missing_seat, member_by_seat}
use Rattle.array_model.specs.Says.{ImageShowsArray, IsOpen, ArrayInvariant, IsEarlier, HasNoOthers}
use Rattle.array_model.specs.ArrayCalls.{ImageInCall}
use Rattle.array_model.specs.Stages.{IsStateOf}
use Rattle.array_model.specs.Members.{slice_on}
use Rattle.array_model.proofs.Keeping.{reading_live, reading_outside, inside_before, logs_of, live_on, live_after, open_after, logs_before, closed_after, bounded_after, KeepsData, same_value, held_kept, even_kept, settled_kept}
use Rattle.array_model.proofs.Moves.{CallRefines}
use Rattle.array_model.proofs.Renewed.{Renews, AreNewer, NewTruth, old, renewed, new_truth, shape_kept, sound_renewed, leads, in_current}
use Rattle.array_core.specs.declared.slots.Slot.{Slot}
use Rattle.array_core.specs.Superblocks.{member_super, rebuilt_to, IsSectorOf}
use Rattle.array_core.specs.Stands.{IsSlot}
use Rattle.array_core.specs.Staging.{HasRowRebuilds}
use Rattle.array_core.specs.Settling.{IsOwnSector, IsNewSuper}
use Rattle.array_core.specs.TruthLeft.{HasTruthOf}
use Rattle.array_core.proofs.Truths.{rule_holds}
use Rattle.array_core.proofs.Rules.{get_map, get_range, zero_more}
use Rattle.array_core.proofs.OwnSupers.{own_whole, own_array, own_there}
use Rattle.array_core.proofs.Stripped.{strip, strip_reshaping, strip_written, whole_written, own_member, some_same, even_data}

-- ---- superblocks with other events and other rows left to resync

abbrev pub restated : ℕ → ℕ → Bool → View → View
restated events offset marked v = record v { truth = record v.truth { events = events; resync_offset = offset }; marked = marked }

module _ (s : State) (v : View) (e o : ℕ) (m : Bool) (a b : RackView)
    (is_array : IsArray v) (state : IsStateOf v s) (rows : HasRowRebuilds v) (more : v.truth.events < e) (end : e < 2 ^ 63)
    (offset : (o ≡ 2 ^ 64 - 1) ⊎ (o % 128 ≡ 0)) (lasting : a.lasting)
    (supers : (place : ℕ) → place < 16 → super_sector < a.sectors (member_slice place v.number) → IsLive a a (member_slice place v.number) super_sector)
    (only : WritesOnly a b (IsNewSuper (restated e o m v))) where
  abbrev pub u : View
  u = restated e o m v

  few : v.number < 16
  few = is_array.few

  state_now : IsStateOf u s
  state_now = record {
    set = state.set;
    profile = state.profile;
    events = omega (arith, more);
    events_end = end;
    row = state.row;
    roles = state.roles;
    marks = state.marks;
  }

  -- a new superblock on a place
  pub record NewOn (p : ℕ) (t : Super) : Type 0 where
    pub position : ℕ
    pub low : position < v.truth.raid_disks
    pub slot : Slot
    pub is : IsSlot u position slot
    pub present : slot.seat ≢ Missing
    pub place : slot.place ≡ p
    pub truth : t ≡ member_super u.truth slot

  strip_new : (p : ℕ) (t : Super) → NewOn p t → strip t ≡ strip v.truth
  strip_new p t new =
      ap strip new.truth
      ∙ ap (λ (x : Super). record x { events = 0; resync_offset = 0 }) (own_array u.truth new.slot (eqb-true _ 0 (rule_holds 0 (rules v.truth s.extent) state.profile)))

  -- ---- contents of a moment, with the superblocks put back

  module _ (c : Image) (inside : IsInside a.sectors c) (mix : IsMix a b (IsNewSuper u) c) where
    pub record Chosen (d t : ℕ) : Type 0 where
      pub value : List ℕ
      pub either : (value ≡ c d t) ⊎ ((value ≡ reading a d t) × IsNewSuper u d t (c d t))
      pub live : IsLive a a d t → MayLeave (a.held d t) value
      pub nothing : a.sectors d ≤ t → value ≡ []

    abbrev is_super : ℕ → ℕ → Bool
    is_super d t = (slice_of d == v.number + 1) && ((t == super_sector) && (nat_lt super_sector (a.sectors d) && nat_lt (place_of d) 16))

    is_super_at : (d t : ℕ) (x : List ℕ) → IsNewSuper u d t x → IsLive a a d t → is_super d t ≡ true
    is_super_at d t x new live =
        let disk = new.disk in
        let low = few in
        let place = new.own.is.place in
        let small = new.own.is.few in
        and_from _ _ (eq-eqb (slice_of d) (v.number + 1) (omega (arith, disk, low)))
        (and_from _ _ (eq-eqb t super_sector new.sector)
        (and_from _ _ (lt-ltb super_sector (a.sectors d) (subst (λ k. k < a.sectors d) new.sector live.sector))
        (lt-ltb (place_of d) 16 (omega (arith, disk, low, place, small)))))

    kept : (d t : ℕ) → (IsLive a a d t → MayLeave (a.held d t) (c d t)) → Chosen d t
    kept d t live = record { value = c d t; either = inl refl; live = live; nothing = inside d t }

    pub choose : (d t : ℕ) → Chosen d t
    choose d t =
        let Goal : Bool → Type 0 = λ test. is_super d t ≡ test → Chosen d t in
        let goal : Goal (is_super d t) = elim (is_super d t) as Goal [
          | false ↦ λ no.
              kept d t (λ live. elim (mix d t (live_on lasting only.stays live)) [
                | inl held ↦ held
                | inr new ↦ absurd (both_ways (is_super d t) no (is_super_at d t (c d t) new live))
              ])
          | true ↦ λ is.
              let one = and_parts (slice_of d == v.number + 1) _ is in
              let two = and_parts (t == super_sector) _ one.1 in
              let three = and_parts (nat_lt super_sector (a.sectors d)) _ two.1 in
              let slice = eqb-true (slice_of d) (v.number + 1) one.0 in
              let sector = eqb-true t super_sector two.0 in
              let disk : d ≡ member_slice (place_of d) v.number = omega (arith, slice) in
              let live : IsLive a a d t =
              subst (λ k. IsLive a a d k) (sym sector)
              (subst (λ k. IsLive a a k super_sector) (sym disk)
              (supers (place_of d) (ltb-true (place_of d) 16 three.1) (subst (λ k. super_sector < a.sectors k) disk (ltb-true super_sector (a.sectors d) three.0)))) in
              elim (mix d t (live_on lasting only.stays live)) [
                | inl held ↦ kept d t (λ at. held)
                | inr new ↦ record { value = reading a d t; either = inr (refl, new); live = λ at. inl (reading_live a d t at); nothing = reading_outside a d t }
              ]
        ] in
        goal refl

    abbrev pub back : Image
    back d t = (choose d t).value

    picks_back : Picks a back
    picks_back = record { picks = λ d t live. (choose d t).live live; inside = λ d t out. (choose d t).nothing out }

    same_back : (d t : ℕ) → ((x : List ℕ) → IsNewSuper u d t x → ⊥) → c d t ≡ back d t
    same_back d t other = elim (choose d t).either [ inl same ↦ sym same | inr new ↦ absurd (other (c d t) new.1) ]

    logs_back : SameLogs c back
    logs_back place t = same_back (log_slice place) t (λ x new. let disk = new.disk in let low = few in absurd (omega (arith, disk, low)))

    data_back : (d t : ℕ) → c d (data_sector + t) ≡ back d (data_sector + t)
    data_back d t = same_back d (data_sector + t) (λ x new. let sector = new.sector in absurd (omega (arith, sector)))

    logs_mix : PicksLogs a c
    logs_mix = record {
      picks = λ place t live.
          elim (mix (log_slice place) t (live_on lasting only.stays live)) [
            | inl held ↦ held
            | inr new ↦ let disk = new.disk in let low = few in absurd (omega (arith, disk, low))
          ];
      inside = λ place t out. inside (log_slice place) t out;
    }

    abbrev pub r : Image
    r = replayed a.sectors c

    abbrev pub q : Image
    q = replayed a.sectors back

    pub left : IsLeft a q
    left = (back, picks_back, λ d t. refl)

    replayed_back : (d t : ℕ) → c d t ≡ back d t → r d t ≡ q d t
    replayed_back d t same = replayed_same a.sectors c back d t logs_back same

    module _ (vals : ℕ → Values) (spent : ℕ → Bool) (holds : ArrayInvariant s (shape_of v) v vals spent a) (fresh : v.went ≡ [])
        (even : AreEven (shape_of v) v.number (first_unsynced u.truth) r) where
      says : ImageShowsArray s v.number (shape_of v) vals spent q
      says = holds.shape.says q left

      record HasTruth : Type 0 where
        t : Super
        is : truth_in s q v.number ≡ Some t
        shape : shape_by s q v.number t ≡ shape_of v

      truth_there : HasTruth
      truth_there =
          let Goal : Option Super → Type 0 = λ o. truth_in s q v.number ≡ o → option_map (shape_by s q v.number) o ≡ Some (shape_of v) → HasTruth in
          let goal : Goal (truth_in s q v.number) = elim (truth_in s q v.number) as Goal [
            | None ↦ λ is none. cc
            | Some t ↦ λ is shape. record { t = t; is = is; shape = some_same _ _ shape }
          ] in
          goal refl says.shape_is

      abbrev t0 : Super
      t0 = truth_there.t

      earlier : IsEarlier t0 v.truth
      earlier = holds.truth q left t0 truth_there.is

      -- a member's new sector is its superblock
      pub own_new : (k : ℕ) → k < v.truth.raid_disks → slice_get v.seats k ≢ Some Missing → IsOwnSector u k (c (slice_on v k) super_sector)
          → (t : Super) × NewOn (place_at v k) t × (super_in s r v.number (place_at v k) ≡ Some t)
      own_new k low present own =
          let slot = own.slot in
          let place : slot.place ≡ place_at v k = own.is.place in
          let here : c (slice_on v k) super_sector ≡ r (member_slice slot.place v.number) super_sector =
          sym (holds.closed fresh c logs_mix (place_at v k) super_sector) ∙ ap (λ n. r (member_slice n v.number) super_sector) (sym place) in (
            member_super u.truth slot,
            record {
              position = k;
              low = low;
              slot = slot;
              is = own.is;
              present = λ missing. present (own.is.seat ∙ ap (λ (seat : Seat). Some seat) missing);
              place = place;
              truth = refl;
            },
            ap (super_in s r v.number) (sym place)
                ∙ own_there u s r slot state_now own.is.few (subst (λ (x : List ℕ). IsSectorOf (member_super u.truth slot) x) here own.bytes),
          )

      -- the superblock of a place is the one from before, or a new one
      super_or : (p : ℕ) → (super_in s r v.number p ≡ super_in s q v.number p) ⊎ ((t : Super) × NewOn p t × (super_in s r v.number p ≡ Some t))
      super_or p =
          elim (choose (member_slice p v.number) super_sector).either [
            | inl same ↦ inl (super_of_sector s r q v.number p (replayed_back (member_slice p v.number) super_sector (sym same)))
            | inr new ↦
                let at = new.1 in
                let disk = at.disk in
                let place : place_at v at.position ≡ p = omega (arith, disk) in
                inr (subst (λ k. (t : Super) × NewOn k t × (super_in s r v.number k ≡ Some t)) place
                (own_new at.position at.inside at.there (subst (λ d. IsOwnSector u at.position (c d super_sector)) disk at.own)))
          ]

      renews : Renews s v.number q r NewOn
      renews = record { either = λ p current. super_or p }

      -- the member of a place by its old superblock
      member_old : (p : ℕ) (t : Super) → is_current s p ≡ true → NewOn p t
          → member_by t0.size p true (Some t) ≡ member_by t0.size p true (super_in s q v.number p)
      unfolding shape_by shape_of
      member_old p t current new =
          let k = new.position in
          let disks : t0.raid_disks ≡ v.truth.raid_disks = ap (λ (x : Super). x.raid_disks) earlier.fields in
          let size : t0.size ≡ v.truth.size = ap (λ (x : Super). x.size) earlier.fields in
          let low : k < v.truth.raid_disks = new.low in
          let at : (f : ℕ → Member) (n : ℕ) → k < n → slice_get (map f (range_with_len 0 n)) k ≡ Some (f k) =
          λ f n inside. get_map f (range_with_len 0 n) k ∙ ap (option_map f) (get_range 0 n k inside) ∙ ap (λ (j : ℕ). Some (f j)) (zero_more k) in
          let same : member_in s q v.number t0 k ≡ member_on v k =
          some_same _ _
          (sym (at (member_in s q v.number t0) t0.raid_disks (omega (arith, low, disks)))
          ∙ ap (λ (shape : Shape). slice_get shape.members k) truth_there.shape
          ∙ at (member_on v) v.truth.raid_disks low) in
          let place : unwrap_or (place_with t0.roles.items k) 16 ≡ p =
          ap (λ (x : Super). unwrap_or (place_with x.roles.items k) 16) earlier.fields ∙ sym new.is.place ∙ new.place in
          ap (λ (x : Super). member_by t0.size p true (Some x)) new.truth
          ∙ own_member u.truth new.slot t0.size p new.present
          ∙ ap₂ (λ (n : ℕ) (o : Option Seat). member_by_seat n p o) size (sym new.is.seat)
          ∙ ap (λ (n : ℕ). member_by_seat v.truth.size n (slice_get v.seats k)) (sym new.place ∙ new.is.place)
          ∙ sym same
          ∙ ap (λ (n : ℕ). member_by t0.size n (is_current s n) (super_in s q v.number n)) place
          ∙ ap (λ (x : Bool). member_by t0.size p x (super_in s q v.number p)) current

      newer : AreNewer s v.number q t0 u.truth NewOn
      newer = record {
        later = let low = earlier.events in omega (arith, low, more);
        fields = λ p t new. ap array_fields new.truth ∙ own_array u.truth new.slot (eqb-true _ 0 (rule_holds 0 (rules v.truth s.extent) state.profile));
        layout = λ p t new.
            let same : strip t ≡ strip t0 = strip_new p t new ∙ sym earlier.fields in
            record {
              size = ap (λ (x : Super). x.size) same;
              disks = ap (λ (x : Super). x.raid_disks) same;
              level = ap is_mirror same;
              roles = ap (λ (x : Super). x.roles) same;
              reshaping = sym (strip_reshaping t) ∙ ap is_reshaping same ∙ strip_reshaping t0;
              position = ap (λ (x : Super). x.reshape_position) same;
            };
        member = member_old;
        rebuilt = λ p t new rebuilding. rebuilt_rows p t new rebuilding;
      }
        where
          rebuilt_rows : (p : ℕ) (t : Super) → NewOn p t → is_rebuilding t ≡ true → (t.recovery_offset % 128 ≡ 0) × (t.recovery_offset < t0.size)
          rebuilt_rows p t new rebuilding =
              let now : is_rebuilding (member_super u.truth new.slot) ≡ true = ap is_rebuilding (sym new.truth) ∙ rebuilding in
              let size : v.truth.size ≡ t0.size = sym (ap (λ (x : Super). x.size) earlier.fields) in
              let Goal : Seat → Type 0 = λ seat. new.slot.seat ≡ seat → (rebuilt_to seat % 128 ≡ 0) × (rebuilt_to seat < v.truth.size) in
              let goal : Goal new.slot.seat = elim new.slot.seat as Goal [
                | Missing ↦ λ is. absurd (new.present is)
                | Whole ↦ λ is. absurd (both_ways (is_rebuilding (member_super u.truth new.slot)) (own_whole u.truth new.slot is) now)
                | Rebuilding to ↦ λ is. rows new.position to (new.is.seat ∙ ap (λ (seat : Seat). Some seat) is)
              ] in
              subst (λ (x : Super). (x.recovery_offset % 128 ≡ 0) × (x.recovery_offset < t0.size)) (sym new.truth)
              (subst (λ k. (rebuilt_to new.slot.seat % 128 ≡ 0) × (rebuilt_to new.slot.seat < k)) size (goal refl))

      which : NewTruth s v.number q r t0 NewOn
      which = new_truth s v.number q r t0 u.truth NewOn truth_there.is newer renews

      shape_now : shape_in s r v.number ≡ Some (shape_of v)
      shape_now = shape_kept s v.number q r t0 u.truth NewOn truth_there.is newer renews ∙ says.shape_is

      written_old : IsWrittenSuper v.number t0
      written_old = (says.is_sound t0 truth_there.is).written

      sound_now : (t : Super) → truth_in s r v.number ≡ Some t → IsSoundArray s r v.number t
      sound_now t is =
          let sound = says.is_sound t0 truth_there.is in
          let joined : IsWrittenSuper v.number t → t.roles ≡ t0.roles → t.size ≡ t0.size
          → (v.number < s.joined → (shape : Shape) → shape_in s r v.number ≡ Some shape → AreEven shape v.number (first_unsynced t) r)
          → IsSoundArray s r v.number t =
          sound_renewed s v.number q r t0 u.truth NewOn t truth_there.is newer renews sound is in
          elim which [
            | old now same ↦
                let here : t0 ≡ t = some_same t0 t (sym now ∙ is) in
                joined (subst (λ (x : Super). IsWrittenSuper v.number x) here written_old) (ap (λ (x : Super). x.roles) (sym here)) (ap (λ (x : Super). x.size) (sym here))
                (λ ready shape at.
                even_data shape v.number (first_unsynced t) r q (λ k i. replayed_back (member_slice k.place v.number) (data_sector + i) (data_back (member_slice k.place v.number) i))
                (subst (λ (x : Super). AreEven shape v.number (first_unsynced x) q) here (sound.even ready shape (says.shape_is ∙ sym shape_now ∙ at))))
            | renewed x p now current new ↦
                let here : x ≡ t = some_same x t (sym now ∙ is) in
                let strips : strip t ≡ strip t0 = ap strip (sym here) ∙ strip_new p x new ∙ sym earlier.fields in
                let offset_of : t.resync_offset ≡ o = ap (λ (y : Super). y.resync_offset) (sym here) ∙ ap (λ (y : Super). y.resync_offset) new.truth in
                joined (whole_written v.number t (subst (λ k. (k ≡ 2 ^ 64 - 1) ⊎ (k % 128 ≡ 0)) (sym offset_of) offset) (subst (λ (y : Super). IsWrittenSuper v.number y) (sym strips) (strip_written v.number t0 written_old)))
                (ap (λ (y : Super). y.roles) strips) (ap (λ (y : Super). y.size) strips)
                (λ ready shape at.
                subst (λ (sh : Shape). AreEven sh v.number (first_unsynced t) r) (some_same _ _ (sym shape_now ∙ at))
                (subst (λ (y : Super). AreEven (shape_of v) v.number (first_unsynced y) r) (sym new.truth ∙ here) even))
          ]

      pub moment_says : ImageShowsArray s v.number (shape_of v) vals spent r
      moment_says = record {
        shape_is = shape_now;
        value = λ y alive.
            subst (MayLeave (vals y))
            (sym (value_by_data (shape_of v) r q v.number y (λ k among counts. replayed_back (member_slice k.place v.number) _ (data_back (member_slice k.place v.number) _))))
            (says.value y alive);
        is_sound = sound_now;
      }

      pub moment_alone : HasNoOthers u s r
      moment_alone place current other =
          elim (super_or place) [
            | inl same ↦ same ∙ holds.alone q left place current other
            | inr new ↦ absurd (other new.1.position new.1.low (sym new.1.is.place ∙ new.1.place))
          ]

      pub moment_truth : (t : Super) → truth_in s r v.number ≡ Some t → IsEarlier t u.truth
      moment_truth t is =
          elim which [
            | old now same ↦
                let here : t0 ≡ t = some_same t0 t (sym now ∙ is) in
                subst (λ (x : Super). IsEarlier x u.truth) here (record { fields = earlier.fields; events = let low = earlier.events in omega (arith, low, more) })
            | renewed x p now current new ↦
                let here : x ≡ t = some_same x t (sym now ∙ is) in
                subst (λ (y : Super). IsEarlier y u.truth) here
                (record { fields = strip_new p x new; events = let same : x.events ≡ e = ap (λ (y : Super). y.events) new.truth in omega (arith, same) })
          ]

      -- it is the one of before, or has the new array's fields
      pub moment_new : HasTruthOf s v.number a (λ t. array_fields t ≡ array_fields u.truth) r
      moment_new t is =
          elim which [
            | old now same ↦ inl (q, left, truth_there.is ∙ sym now ∙ is)
            | renewed x p now current new ↦ inr (ap array_fields (some_same t x (sym is ∙ now)) ∙ newer.fields p x new)
          ]

      -- where one current place has a new superblock, it is the truth
      pub moment_mark : (p : ℕ) (w : Super) → is_current s p ≡ true → super_in s r v.number p ≡ Some w → NewOn p w
          → (t : Super) → truth_in s r v.number ≡ Some t → t.resync_offset ≡ o
      unfolding truth_in
      moment_mark p w current there new t is =
          elim which [
            | renewed x k now at one ↦ ap (λ (y : Super). y.resync_offset) (some_same t x (sym is ∙ now)) ∙ ap (λ (y : Super). y.resync_offset) one.truth
            | old now same ↦
                let first = leads (super_in s r v.number) _ t0 now in
                let most = first.most p w (in_current s p current) there in
                let events : w.events ≡ e = ap (λ (y : Super). y.events) new.truth in
                let low = earlier.events in
                absurd (omega (arith, most, events, low, more))
          ]

  -- ---- the whole of them

  -- one member's superblock is durable
  pub record IsDurable (k : ℕ) : Type 0 where
    pub low : k < v.truth.raid_disks
    pub present : slice_get v.seats k ≢ Some Missing
    pub inside : super_sector < a.sectors (slice_on v k)
    pub written : IsLive a b (slice_on v k) super_sector → (x : List ℕ) → MayLeave (b.held (slice_on v k) super_sector) x → IsOwnSector u k x

  module _ (mark : Bool) (H : Type 0) (vals : ℕ → Values) (spent : ℕ → Bool) (fresh : v.went ≡ [])
      (begins : H → ArrayInvariant s (shape_of v) v vals spent a)
      (even : H → (c : Image) → IsInside a.sectors c → IsMix a b (IsNewSuper u) c → AreEven (shape_of v) v.number (first_unsynced u.truth) (replayed a.sectors c))
      (settles : H → may_vary (restated e o mark v) ≡ false → IsSynced (shape_of v) v.number a.held)
      (zero_offset : mark ≡ true → o ≡ 0)
      (durable : mark ≡ true → (k : ℕ) × IsDurable k) where
    n : ℕ
    n = v.number

    stays : SameRack a b
    stays = only.stays

    logs : (place t : ℕ) → IsLive a b (log_slice place) t → Keeps (a.held (log_slice place) t) (b.held (log_slice place) t)
    logs place t live = only.others (log_slice place) t live (λ x new. let disk = new.disk in let low = few in absurd (omega (arith, disk, low)))

    kept_data : IsOpen (shape_of v) v.number a → KeepsData (shape_of v) v.number a.held b.held
    kept_data opened k i among counts =
        only.others (member_slice k.place v.number) (data_sector + i) (live_on lasting only.stays (opened k i among counts))
        (λ x new. let sector = new.sector in absurd (omega (arith, sector)))

    mix_of : (c : Image) → Picks b c → IsMix a b (IsNewSuper u) c
    mix_of c picks d t live = only.within d t (c d t) live (picks.picks d t (live_after only.stays live))

    at_left : (P : Image → Type 0) (x : Image) (l : IsLeft b x) → P (replayed a.sectors l.0) → P x
    at_left P x l = subst P (λ i d t. sym (l.2 d t ∙ ap (λ (sectors : ℕ → ℕ). replayed sectors l.0 d t) (λ j k. only.stays.sectors k j)) i)

    holds_now : H → ArrayInvariant s (shape_of v) (restated e o mark v) vals spent b
    unfolding shape_of
    holds_now h =
        let holds = begins h in
        let g = holds.shape in
        let same = kept_data g.open_left in
        let inside : (c : Image) → Picks b c → IsInside a.sectors c = λ c picks. inside_before only.stays c picks.inside in
        let evens : (c : Image) (picks : Picks b c) → AreEven (shape_of v) v.number (first_unsynced u.truth) (replayed a.sectors c) =
        λ c picks. even h c (inside c picks) (mix_of c picks) in
        record {
          shape = record {
            open_slices = open_after lasting only.stays (shape_of v) v.number g.open_slices;
            open_left = open_after lasting only.stays (shape_of v) v.number g.open_left;
            says = λ x l. at_left (ImageShowsArray s v.number (shape_of v) vals spent) x l (moment_says l.0 (inside l.0 l.1) (mix_of l.0 l.1) vals spent holds fresh (evens l.0 l.1));
            still = λ c picks k i among counts. closed_after v.number lasting only.stays logs (holds.closed fresh) c (logs_of c picks) k.place (data_sector + i);
            within = λ y alive w held. g.within y alive w (held_kept a.held b.held (shape_of v) v.number y same w held);
            current = λ y alive. same_value a.held b.held (shape_of v) v.number y same ∙ g.current y alive;
            sized = λ k i among counts. ap length (same k i among counts).current ∙ g.sized k i among counts;
            even = even_kept a.held b.held (shape_of v) v.number v.resync same g.even;
            settled = λ steady. settled_kept a.held b.held (shape_of v) v.number same (settles h steady);
          };
          mark = λ is x l.
              let one = durable is in
              let at = one.1 in
              let slice = place_at v one.0 in
              let small : slice < 16 = placed_low one.0 at.low in
              let live_a : IsLive a a (slice_on v one.0) super_sector = supers slice small at.inside in
              let live = live_on lasting only.stays live_a in
              at_left (λ (g : Image). (t : Super) → truth_in s g v.number ≡ Some t → t.resync_offset ≡ 0) x l
              (λ t truth.
              let new = own_new l.0 (inside l.0 l.1) (mix_of l.0 l.1) vals spent holds fresh (evens l.0 l.1) one.0 at.low at.present
              (at.written live (l.0 (slice_on v one.0) super_sector) (l.1.picks (slice_on v one.0) super_sector (live_after only.stays live))) in
              moment_mark l.0 (inside l.0 l.1) (mix_of l.0 l.1) vals spent holds fresh (evens l.0 l.1) slice new.0 (present_current one.0 at.low at.present) new.2 new.1 t truth
              ∙ zero_offset is);
          alone = λ x l. at_left (HasNoOthers u s) x l (moment_alone l.0 (inside l.0 l.1) (mix_of l.0 l.1) vals spent holds fresh (evens l.0 l.1));
          closed = λ none. closed_after v.number lasting only.stays logs (holds.closed fresh);
          truth = λ x l.
              at_left (λ (g : Image). (t : Super) → truth_in s g v.number ≡ Some t → IsEarlier t u.truth) x l
              (moment_truth l.0 (inside l.0 l.1) (mix_of l.0 l.1) vals spent holds fresh (evens l.0 l.1));
        }
      where
        placed_low : (k : ℕ) → k < v.truth.raid_disks → place_at v k < 16
        placed_low k low =
            let there = is_array.placed k low in
            subst (λ (p : ℕ). p < 16) (sym (ap (λ o. unwrap_or o 16) there.1)) there.2

        present_current : (k : ℕ) → k < v.truth.raid_disks → slice_get v.seats k ≢ Some Missing → is_current s (place_at v k) ≡ true
        present_current k low present =
            by (slice_get v.seats k) (state.marks k (omega (arith, low, is_array.seats))) present
          where
            by : (o : Option Seat) → option_map (λ seat. not (is_missing_seat seat)) o ≡ Some (is_current s (place_at v k)) → o ≢ Some Missing → is_current s (place_at v k) ≡ true
            by None is other = cc
            by (Some Whole) is other = sym (some_same true (is_current s (place_at v k)) is)
            by (Some (Rebuilding to)) is other = sym (some_same true (is_current s (place_at v k)) is)
            by (Some Missing) is other = absurd (other refl)

    pub renew_moves : CallRefines v.number a b H (ImageShowsArray s v.number (shape_of v) vals spent) (ArrayInvariant s (shape_of v) (restated e o mark v) vals spent b)
    renew_moves = record {
      stays = only.stays;
      leaves = λ traced.
          leaves_weaker (IsMix a b (IsNewSuper u)) (λ c. IsInside a.sectors c → ImageInCall v.number a b (λ r. H → ImageShowsArray s v.number (shape_of v) vals spent r) c)
          (λ c mix inside. record {
            before = replayed a.sectors (back c inside mix);
            left = (back c inside mix, picks_back c inside mix, λ d t. refl);
            others = λ d t apart.
                replayed_same a.sectors c (back c inside mix) d t (logs_back c inside mix)
                (same_back c inside mix d t (λ x new. let disk = new.disk in let low = few in apart.0 (omega (arith, disk, low))));
            own = λ h. moment_says c inside mix vals spent (begins h) fresh (even h c inside mix);
            whole = whole_same c (back c inside mix) (logs_back c inside mix);
            calm = λ calm. calm_same v.number c (back c inside mix) (logs_back c inside mix) (calm (back c inside mix) (logs_of (back c inside mix) (picks_back c inside mix)));
            bounded = λ bounded. inside_same a.sectors c (back c inside mix) (logs_back c inside mix) (bounded (back c inside mix) (logs_of (back c inside mix) (picks_back c inside mix)));
          })
          (only.stops traced);
      holds = holds_now;
      apart = λ d t live apart. only.others d t live (λ x new. let disk = new.disk in let low = few in apart.0 (omega (arith, disk, low)));
      calm = λ calm c picks. calm c (logs_before lasting only.stays logs c picks);
      bounded = bounded_after lasting only.stays logs;
    }
