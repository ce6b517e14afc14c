-- An array that was opened by the superblocks of a pool's drives is one of the pool, with its absent places noted.
use Rattle.std.proofs.Common.{◌≡◌, ℕ, ◌/◌, ◌%◌, ◌<◌, ◌≤◌, ◌^◌, Bool, true, false, ◌==◌, ◌&&◌, not, nat_lt, is_ok, is_some, bytes_eq, if◌then◌else◌, List, [], map, length, slice_get, unwrap_or, Option, Some, None, option_map, refl, sym, ap, subst, ◌∙◌, inl, ltb-true, arith}
use Rattle.std.specs.Option.{option_map_or}
use Rattle.std.specs.List.{range_with_len}
use Rattle.std.proofs.lemmas.Bool.{and_parts, both_ways}
use Rattle.std.proofs.lemmas.Slice.Eq.{bytes_eq-Decides}
use Rattle.rack.specs.Seen.{Image, RackView}
use Rattle.md_super.specs.declared.superblock.Super.{Super}
use Rattle.md_super.specs.Profile.{profiled}
use Rattle.pool_state.specs.declared.contents.State.{State}
use Rattle.array_image.specs.Places.{array_id}
use Rattle.array_image.specs.States.{is_current}
use Rattle.array_image.specs.Supers.{is_named, is_rebuilding, has_roles, has_whole_row, super_in, truth_in}
use Rattle.array_model.specs.declared.Seat.TheVariants.{Whole, Missing, Rebuilding}
use Rattle.array_model.specs.View.{View, IsArray, is_missing_seat, place_at, seat_unless}
use Rattle.array_model.specs.Members.{HasSlices}
use Rattle.array_core.specs.declared.Found.{Found}
use Rattle.array_core.specs.Contents.{current_super}
use Rattle.array_core.specs.Model.{is_truth}
use Rattle.array_core.specs.Opening.{resync_by, super_at, slot_by, seat_by, slots_found, view_found}
use Rattle.array_core.specs.Slots.{place_by, places_by}
use Rattle.array_core.specs.Seats.{gone, names, restart, restarted}
use Rattle.array_core.proofs.Truths.{truth_facts, unsynced_left}
use Rattle.array_core.proofs.Rules.{get_map, get_range, placed, zero_more}
use Rattle.array_core.proofs.Restarting.{restarted_rows}
use Rattle.array_core.proofs.Opened.{named_place, super_passes, truth_leads, current_is}
use Rattle.raid_laws.specs.Moves.{IsOfPool, IsSeated}
use Rattle.raid_laws.proofs.Seated.{array_with, gone_lost, names_joined, rebuilding_before, seats_length}

-- the place of a position is one that the roles name
pub position_named : (t : Super) (k : ℕ) → is_truth t ≡ true → k < t.raid_disks → is_named t (place_by t k) ≡ true
position_named t k usable low =
    let at = placed t k (truth_facts t usable).positions low in
    let few = (truth_facts t usable).few in
    subst (λ q. is_named t q ≡ true) (ap (λ o. unwrap_or o 16) (sym at.1)) (named_place t k at.0 (omega (arith, low, few)) at.1)

-- The superblocks that were found for an array on the places that its truth names, by some contents; whoever is current and has
-- none is absent, and others may have gone too.
module _ (s : State) (c : Image) (n : ℕ) (young : Bool) (t : Super) (found : List Found) (absent : List ℕ)
    (truth_is : truth_in s c n ≡ Some t)
    (named : (place : ℕ) → is_named t place ≡ true → super_at found place ≡ current_super s c n place)
    (usable : is_truth t ≡ true)
    (some : 0 < t.size)
    (there : (place : ℕ) → is_named t place ≡ true → is_current s place ≡ true → names absent place ≡ false → is_some (super_in s c n place) ≡ true)
    (is_array : IsArray (restarted (view_found n young found t))) where
  abbrev u : View
  u = restarted (view_found n young found t)

  abbrev v : View
  v = gone absent u

  pub founded_named : (k : ℕ) → k < t.raid_disks → is_named t (place_at u k) ≡ true
  founded_named k low = position_named t k usable low

  -- the seat of a member, as it was found
  seat_found : (k : ℕ) → k < t.raid_disks → slice_get u.seats k ≡ Some (restart t.size (option_map_or seat_by (current_super s c n (place_at u k)) Missing))
  seat_found k low =
      let p = place_by t k in
      let at : slice_get (slots_found found t) k ≡ Some (slot_by p (super_at found p)) =
      get_map (λ place. slot_by place (super_at found place)) (places_by t) k
      ∙ ap (option_map (λ place. slot_by place (super_at found place)))
      (get_map (place_by t) (range_with_len 0 t.raid_disks) k ∙ ap (option_map (place_by t)) (get_range 0 t.raid_disks k low)
      ∙ ap (λ (j : ℕ). Some (place_by t j)) (zero_more k)) in
      get_map (restart t.size) (map (λ x. x.seat) (slots_found found t)) k
      ∙ ap (option_map (restart t.size)) (get_map (λ x. x.seat) (slots_found found t) k ∙ ap (option_map (λ x. x.seat)) at)
      ∙ ap (λ o. Some (restart t.size (option_map_or seat_by o Missing))) (named p (founded_named k low))

  pub founded_place : (k : ℕ) → k < t.raid_disks → place_at u k < 16
  founded_place k low =
      let at = placed t k (truth_facts t usable).positions low in
      subst (λ q. q < 16) (ap (λ o. unwrap_or o 16) (sym at.1)) at.2

  -- a member is missing where its drive isn't current, or is absent
  missing_found : (current gone_now : Bool) (o : Option Super) → (current ≡ true → gone_now ≡ false → is_some o ≡ true)
      → is_missing_seat (seat_unless (λ p. gone_now) 0 (restart t.size (option_map_or seat_by (if current then o else None) Missing))) ≡ not (current && not gone_now)
  missing_found current true o has = of current
    where
      of : (b : Bool) → true ≡ not (b && false)
      of true = refl
      of false = refl
  missing_found false false o has = refl
  missing_found true false None has = absurd (both_ways false refl (has refl refl))
  missing_found true false (Some x) has =
      let Goal : Bool → Type 0 = λ b. is_missing_seat (restart t.size (if b then Rebuilding x.recovery_offset else Whole)) ≡ false in
      let goal : Goal (is_rebuilding x) = elim (is_rebuilding x) as Goal [ true ↦ restarted_there x.recovery_offset | false ↦ refl ] in
      goal
    where
      restarted_there : (to : ℕ) → is_missing_seat (restart t.size (Rebuilding to)) ≡ false
      restarted_there to =
          let Goal : Bool → Type 0 = λ b. is_missing_seat (if b then Rebuilding to else Rebuilding 0) ≡ false in
          let goal : Goal ((to % 128 == 0) && nat_lt to t.size) = elim ((to % 128 == 0) && nat_lt to t.size) as Goal [ true ↦ refl | false ↦ refl ] in
          goal

  lost_seats : (k : ℕ) → slice_get v.seats k ≡ option_map (seat_unless (names absent) (place_at u k)) (slice_get u.seats k)
  lost_seats = gone_lost u absent is_array

  leads_at : (p : ℕ) × (super_in s c n p ≡ Some t)
  leads_at =
      let leads = truth_leads s c n t truth_is in
      (leads.at, (current_is s c n leads.at t leads.here).1)

  is_of_pool : IsOfPool s v
  is_of_pool =
      let one = and_parts (is_ok (profiled t s.extent)) _ (super_passes s c n leads_at.0 t leads_at.1) in
      let two = and_parts (bytes_eq t.set_id.0 (array_id s.pool.0 n)) _ one.1 in
      let three = and_parts (t.dev_number == leads_at.0) _ two.1 in
      let four = and_parts (nat_lt 0 t.events) _ three.1 in
      let five = and_parts (nat_lt t.events (2 ^ 63)) _ four.1 in
      let six = and_parts (has_whole_row t) (has_roles (length s.drives.items) t) five.1 in
      record {
        set = (bytes_eq-Decides t.set_id.0 (array_id s.pool.0 n)).0 two.0;
        profile = one.0;
        events = ltb-true 0 t.events four.0;
        events_end = ltb-true t.events (2 ^ 63) five.0;
        row = six.0;
        roles = six.1;
        unsynced = unsynced_left young t;
        synced = λ old part. inl (sym (ap (λ (b : Bool). resync_by b t) old));
        zeroed = λ is. subst (λ (b : Bool). t.size / 128 ≤ resync_by b t) (sym is) (omega arith);
        rows = λ k to is.
            restarted_rows (view_found n young found t) some k to
            (rebuilding_before (names absent (place_at u k)) (slice_get u.seats k) to (sym (lost_seats k) ∙ is));
      }

  -- a member is missing where its drive isn't current, or has gone
  pub founded_marks : (k : ℕ) → k < t.raid_disks
      → option_map is_missing_seat (slice_get v.seats k) ≡ Some (not (is_current s (place_at u k) && not (names absent (place_at u k))))
  founded_marks k low =
      let p = place_at u k in
      ap (option_map is_missing_seat) (lost_seats k ∙ ap (option_map (seat_unless (names absent) p)) (seat_found k low))
      ∙ ap Some (missing_found (is_current s p) (names absent p) (super_in s c n p) (there p (founded_named k low)))

  -- it is one of the pool, and whoever is absent has gone in it
  pub founded_seated : (x : RackView) → HasSlices v x → IsSeated s n v x
  founded_seated x slices =
      record {
        is_array = array_with u v.seats v.went (seats_length v.seats u.seats (λ k. seat_unless (names absent) (place_at u k)) lost_seats) is_array;
        number = refl;
        slices = slices;
        marks = λ k low.
            founded_marks k low
            ∙ ap (λ b. Some (not (is_current s (place_at u k) && not b))) (sym (names_joined [] absent (place_at u k) (founded_place k low)));
        is_of_pool = is_of_pool;
      }
