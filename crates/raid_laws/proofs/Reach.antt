-- How far members count by shapes that the run goes by.
use Rattle.std.proofs.Common.{◌≡◌, ℕ, zero, suc, ◌+◌, ◌<◌, Bool, true, false, ◌&&◌, not, slice_get, Option, Some, None, option_map, unwrap_or, refl, sym, ap, ap₂, subst, ◌∙◌, inl, inr, arith}
use Rattle.std.proofs.lemmas.Bool.{both_ways}
use Rattle.std.specs.List.{range_with_len}
use Rattle.std.specs.Option.{option_map_or}
use Rattle.arrayvec.specs.ArrayVec.{ArrayVec}
use Rattle.rack.specs.Seen.{RackView}
use Rattle.pool_state.specs.declared.contents.State.{State}
use Rattle.array_image.specs.Arrays.{Member, place_with}
use Rattle.array_image.specs.States.{is_current}
use Rattle.array_core.proofs.Rules.{get_map, zero_more}
use Rattle.array_model.specs.declared.Seat.{Seat}
use Rattle.array_model.specs.View.{View, has_gone, is_missing_seat, is_seated, is_whole_seat, member_on, place_at, seat_reach, shape_of}
use Rattle.raid_laws.specs.Frames.{Frame, frame_of}
use Rattle.raid_laws.specs.Moves.{IsSeated, OnlyFailures}
use Rattle.raid_laws.specs.Reach.{KeepsMember, KeepsReachOn}
use Rattle.raid_laws.proofs.Frames.{geometry_frame, view_frame}
use Rattle.raid_laws.proofs.Seated.{place_few}

range_there : (a n k j : ℕ) → slice_get (range_with_len a n) k ≡ Some j → (k < n) × (j ≡ a + k)
range_there a zero k j is = absurd (let bad : None ≡ Some j = is in cc)
range_there a (suc n) zero j is = let same : a ≡ j = ap (λ o. unwrap_or o j) is in (omega arith, omega (arith, same))
range_there a (suc n) (suc k) j is =
    let rest = range_there (a + 1) n k j is in
    let low = rest.0 in
    let same = rest.1 in
    (omega (arith, low), omega (arith, same))

mapped : (f : ℕ → Member) (o : Option ℕ) (m : Member) → option_map f o ≡ Some m → (j : ℕ) × (o ≡ Some j) × (m ≡ f j)
mapped f None m is = absurd (let bad : None ≡ Some m = is in cc)
mapped f (Some j) m is = (j, refl, sym (ap (λ o. unwrap_or o m) is))

-- a member of the shape that the run goes by
member_there : (u : View) (k : ℕ) (m : Member) → slice_get (shape_of u).members k ≡ Some m → (k < u.truth.raid_disks) × (m ≡ member_on u k)
unfolding shape_of
member_there u k m at =
    let found = mapped (member_on u) (slice_get (range_with_len 0 u.truth.raid_disks) k) m (sym (get_map (member_on u) (range_with_len 0 u.truth.raid_disks) k) ∙ at) in
    let there = range_there 0 u.truth.raid_disks k found.0 found.1 in
    (there.0, found.2 ∙ ap (member_on u) (there.1 ∙ zero_more k))

-- a member stands in an array as well as in another one before it
abbrev pub CountsOn : View → View → ℕ → Type 0
CountsOn u z k = KeepsMember (member_on u k) (member_on z k)

pub reach_by : (on : ℕ → Bool) (u z : View) → frame_of z.truth ≡ frame_of u.truth
    → ((k : ℕ) → k < z.truth.raid_disks → on (place_at u k) ≡ true → CountsOn u z k) → KeepsReachOn on (shape_of u) (shape_of z)
reach_by on u z framed counts = record {
  places = ap (λ (g : Frame). g.places) (view_frame z ∙ framed ∙ sym (view_frame u));
  reach = λ k m o at there is.
      let was = member_there u k m at in
      let now = member_there z k o there in
      subst (KeepsMember m) (sym now.1)
      (subst (λ (e : Member). KeepsMember e (member_on z k)) (sym was.1) (counts k now.0 (ap on (sym (ap (λ (e : Member). e.place) was.1)) ∙ is)));
}

-- a member whose seat is as it was
pub same_counts : (u z : View) (k : ℕ) → z.truth.size ≡ u.truth.size → slice_get z.seats k ≡ slice_get u.seats k → CountsOn u z k
same_counts u z k size same =
    let reach = ap₂ (λ (n : ℕ) (o : Option Seat). option_map_or (seat_reach n) o 0) size same in
    record {
      reach = omega (arith, reach);
      there = λ was. ap (λ (o : Option Seat). option_map_or is_seated o false) same ∙ was;
      whole = λ was. ap (λ (o : Option Seat). option_map_or is_whole_seat o false) same ∙ was;
    }

-- An array that has lost members counts those as before that it hasn't lost: they are those on current places that haven't gone.
pub lost_reach : (on : ℕ → Bool) (s : State) (n : ℕ) (u z : View) (x : RackView) → IsSeated s n z x → OnlyFailures u z
    → ((p : ℕ) → p < 16 → on p ≡ true → (is_current s p && not (has_gone z p)) ≡ true) → KeepsReachOn on (shape_of u) (shape_of z)
lost_reach on s n u z x seated only left =
    reach_by on u z (geometry_frame u.truth z.truth only.same.geometry)
    (λ k low is.
    elim (only.seats k) [
      | inl same ↦ same_counts u z k only.same.geometry.size same
      | inr missing ↦
          let place : place_at z k ≡ place_at u k = ap (λ (r : ArrayVec ℕ). unwrap_or (place_with r.items k) 16) only.same.geometry.roles in
          let there = left (place_at z k) (place_few z k seated.is_array low) (ap on place ∙ is) in
          let marked : true ≡ not (is_current s (place_at z k) && not (has_gone z (place_at z k))) =
          ap (λ o. unwrap_or o true) (sym (ap (option_map is_missing_seat) missing) ∙ seated.marks k low) in
          absurd (both_ways true (marked ∙ ap not there) refl)
    ])
