-- The young array that the superblocks of a new array's members make is one of the pool, over slices that its members have.
use Rattle.std.proofs.Common.{◌≡◌, ℕ, ◌<◌, ◌≤◌, ◌==◌, ◌&&◌, ◌||◌, not, Bool, true, false, List, [], ◌∷◌, find, map, length, slice_get, if◌then◌else◌, Option, Some, None, option_map, unwrap_or, refl, sym, ap, subst, ◌∙◌, eqb-true, arith}
use Rattle.std.specs.Option.{option_and_then}
use Rattle.std.specs.List.{range_with_len}
use Rattle.std.proofs.lemmas.Bool.{both_ways}
use Rattle.std.proofs.lemmas.Option.{slice_get_within}
use Rattle.rack.specs.Seen.{RackView}
use Rattle.md_super.specs.declared.superblock.Super.{Super}
use Rattle.pool_state.specs.declared.contents.State.{State}
use Rattle.array_image.specs.States.{is_current}
use Rattle.array_image.specs.Supers.{is_named}
use Rattle.array_model.specs.declared.Seat.{Seat}
use Rattle.array_model.specs.declared.Seat.TheVariants.{Missing, Rebuilding, Whole}
use Rattle.array_model.specs.Members.{HasSlices}
use Rattle.array_model.specs.View.{View, IsArray, is_missing_seat}
use Rattle.array_core.specs.declared.Found.{Found}
use Rattle.array_core.specs.declared.slots.Slot.{Slot}
use Rattle.array_core.specs.Opening.{slot_by, slots_found, super_at, view_found}
use Rattle.array_core.specs.Slots.{place_by, places_by}
use Rattle.array_core.proofs.Opened.{named_place}
use Rattle.array_core.proofs.Rules.{get_map, get_range, placed, zero_more}
use Rattle.array_core.proofs.Truths.{unsynced_left}
use Rattle.new_array.specs.Supers.{has}
use Rattle.new_array.proofs.Lists.{filtered}
use Rattle.new_array.proofs.Roles.{named_at}
use Rattle.new_array.proofs.Supers.{IsLayer, profile_ok, roles_ok}
use Rattle.raid_laws.specs.Moves.{IsSeated}
use Rattle.growth_laws.specs.NewArrays.{drive_id, found_for, super_for}
use Rattle.growth_laws.proofs.Made.{made_state}

-- ---- what is found

found_more : (f : ℕ → Option Super) (x : ℕ) (xs : List ℕ) (p : ℕ)
    → super_at (map (λ place. record { place = place; seen = f place }) xs) p ≡ (if has xs p then f p else None)
    → (b : Bool) → (x == p) ≡ b
    → option_and_then (λ (e : Found). e.seen) (if b then Some (record { place = x; seen = f x }) else find (λ (e : Found). e.place == p) (map (λ place. record { place = place; seen = f place }) xs))
    ≡ (if (b || has xs p) then f p else None)
found_more f x xs p rest true here = ap f (eqb-true x p here)
found_more f x xs p rest false other = rest

-- on a member's place what is found of it, and on no other place anything
pub found_at : (f : ℕ → Option Super) (members : List ℕ) (p : ℕ) → super_at (map (λ place. record { place = place; seen = f place }) members) p ≡ (if has members p then f p else None)
found_at f [] p = refl
found_at f (x ∷ xs) p = found_more f x xs p (found_at f xs p) (x == p) refl

-- ---- the array

module _ (s : State) (members : List ℕ) (size seconds : ℕ) (most : length s.drives.items ≤ 16) (layer : IsLayer s.extent (length s.drives.items) members size) (some : 0 < s.extent) where
  abbrev found : List Found
  found = found_for s members size seconds

  abbrev own : ℕ → Option Super
  own p = if is_current s p then Some (super_for s members size seconds p) else None

  pub seen_at : (p : ℕ) → super_at found p ≡ (if has members p then own p else None)
  seen_at p = found_at own members p

  pub member_listed : (p : ℕ) → has members p ≡ true → p < length s.drives.items
  member_listed p among = let low = (filtered layer.reaches 0 (length s.drives.items) p (subst (λ xs. has xs p ≡ true) layer.members_are among)).1 in omega (arith, low)

  -- by the superblock of one of its members
  module _ (q : ℕ) (among_q : has members q ≡ true) where
    abbrev t : Super
    t = super_for s members size seconds q

    abbrev v : View
    v = view_found s.made true found t

    low_q : q < 16
    low_q = let low = member_listed q among_q in omega (arith, low, most)

    roles : (all : ℕ) → length s.drives.items ≤ all → Rattle.array_image.specs.Supers.has_roles all t ≡ true
    roles = roles_ok s.pool (drive_id s q) members s.made q size 0 seconds s.extent (length s.drives.items) most layer low_q

    -- each position has a member
    pub position_member : (k : ℕ) → k < length members → has members (place_by t k) ≡ true
    position_member k low =
        let there = placed t k (roles 16 most) low in
        let few = layer.few in
        let named : is_named t there.0 ≡ true = named_place t k there.0 (omega (arith, low, few)) there.1 in
        subst (λ p. has members p ≡ true) (ap (λ o. unwrap_or o 16) (sym there.1))
        (sym (named_at t members refl few there.0 (let small = there.2 in omega (arith, small))) ∙ named)

    -- whoever isn't missing is whole
    pub seat_is : (k : ℕ) → k < length members → slice_get v.seats k ≡ Some (if is_current s (place_by t k) then Whole else Missing)
    seat_is k low =
        let h : ℕ → Slot = λ place. slot_by place (super_at found place) in
        let p = place_by t k in
        get_map (λ (e : Slot). e.seat) (slots_found found t) k
        ∙ ap (option_map (λ (e : Slot). e.seat))
        (get_map h (places_by t) k
        ∙ ap (option_map h) (get_map (place_by t) (range_with_len 0 (length members)) k ∙ ap (option_map (place_by t)) (get_range 0 (length members) k low)
        ∙ ap (λ (j : ℕ). Some (place_by t j)) (zero_more k)))
        ∙ ap (λ o. Some (slot_by p o).seat) (seen_at p)
        ∙ ap (λ b. Some (slot_by p (if b then own p else None)).seat) (position_member k low)
        ∙ of p (is_current s p)
      where
        of : (p : ℕ) (b : Bool) → ◌≡◌ {A = Option Seat} (Some (slot_by p (if b then Some (super_for s members size seconds p) else None)).seat) (Some (if b then Whole else Missing))
        of p true = refl
        of p false = refl

    not_rebuilding : (to : ℕ) (b : Bool) → ◌≡◌ {A = Option Seat} (Some (Rebuilding to)) (Some (if b then Whole else Missing)) → ⊥
    not_rebuilding to true same = cc
    not_rebuilding to false same = cc

    marked : (b : Bool) → ◌≡◌ {A = Option Bool} (Some (is_missing_seat (if b then Whole else Missing))) (Some (not (b && true)))
    marked true = refl
    marked false = refl

    -- IT IS ONE OF THE POOL, IN THE STATE WITH ONE ARRAY MORE
    pub new_seated : (x : RackView) → IsArray v → HasSlices v x → IsSeated (made_state s) s.made v x
    new_seated x is_array slices = record {
      is_array = is_array;
      number = refl;
      slices = slices;
      marks = λ k low. ap (option_map is_missing_seat) (seat_is k low) ∙ marked (is_current s (place_by t k));
      is_of_pool = record {
        set = refl;
        profile = profile_ok s.pool (drive_id s q) members s.made q size 0 seconds s.extent (length s.drives.items) most layer low_q s.extent 1 (omega arith) some;
        events = omega arith;
        events_end = omega arith;
        row = refl;
        roles = roles (length s.drives.items) (omega arith);
        unsynced = unsynced_left true t;
        synced = λ old. absurd (both_ways false refl (sym old));
        zeroed = λ young. omega arith;
        rows = λ k to rebuilds.
            let within = slice_get_within v.seats k (Rebuilding to) rebuilds in
            let count = is_array.seats in
            absurd (not_rebuilding to (is_current s (place_by t k)) (sym rebuilds ∙ seat_is k (omega (arith, within, count))));
      };
    }
