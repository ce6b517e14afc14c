-- Superblocks of one frame, which contents have as an array's truth, name the same places.
use Rattle.std.proofs.Common.{◌≡◌, ℕ, ◌+◌, ◌<◌, ◌≤◌, ◌^◌, Bool, true, false, ◌==◌, nat_le, nat_lt, is_ok, bytes_eq, if◌then◌else◌, List, [], ◌∷◌, length, slice_get, Option, Some, option_map, unwrap_or, refl, sym, ap, ◌∙◌, leb-true, lt-ltb, ltb-true, arith}
use Rattle.std.specs.List.{list_all, range_with_len}
use Rattle.std.proofs.lemmas.Bool.{and_from, and_parts, both_ways}
use Rattle.std.proofs.lemmas.List.FromFn.{length-map-range_with_len}
use Rattle.rack.specs.Seen.{Image}
use Rattle.md_super.specs.Profile.{is_mirror, profiled, rules}
use Rattle.md_super.specs.declared.superblock.Super.{Super}
use Rattle.pool_state.specs.declared.contents.State.{State}
use Rattle.array_image.specs.Arrays.{place_with}
use Rattle.array_image.specs.Places.{array_id}
use Rattle.array_image.specs.Supers.{has_roles, has_whole_row, is_named, named_places, truth_in}
use Rattle.array_core.proofs.Opened.{current_is, named_place, super_passes, truth_leads}
use Rattle.array_core.proofs.Rules.{get_map, get_range, placed}
use Rattle.array_core.proofs.Truths.{rule_holds}
use Rattle.array_core.proofs.Stripped.{some_same}
use Rattle.raid_laws.specs.Frames.{Frame, frame_of}
use Rattle.pool_model.proofs.Roles.{placed_position}

-- a superblock of up to 16 members, which lie on places below 16, each position on one
pub record IsPlaced (t : Super) : Type 0 where
  pub few : t.raid_disks ≤ 16
  pub roles : has_roles 16 t ≡ true

all_below : (few many : ℕ) → few ≤ many → (places : List ℕ) → list_all (λ p. nat_lt p few) places ≡ true → list_all (λ p. nat_lt p many) places ≡ true
all_below few many more [] all = refl
all_below few many more (p ∷ places) all =
    let parts = and_parts (nat_lt p few) (list_all (λ q. nat_lt q few) places) all in
    let low : p < few = ltb-true p few parts.0 in
    and_from _ _ (lt-ltb p many (omega (arith, low, more))) (all_below few many more places parts.1)

roles_more : (t : Super) (few many : ℕ) → few ≤ many → has_roles few t ≡ true → has_roles many t ≡ true
roles_more t few many more roles =
    let parts = and_parts (length (named_places t) == t.raid_disks) _ roles in
    let others = and_parts (list_all (λ place. nat_lt place few) (named_places t)) _ parts.1 in
    and_from _ _ parts.0 (and_from _ _ (all_below few many more (named_places t) others.0) others.1)

-- so the truth of contents is
pub truth_placed : (s : State) (c : Image) (n : ℕ) (t : Super) → length s.drives.items ≤ 16 → truth_in s c n ≡ Some t → IsPlaced t
truth_placed s c n t drives is =
    let leads = truth_leads s c n t is in
    let at = current_is s c n leads.at t leads.here in
    let one = and_parts (is_ok (profiled t s.extent)) _ (super_passes s c n leads.at t at.1) in
    let two = and_parts (bytes_eq t.set_id.0 (array_id s.pool.0 n)) _ one.1 in
    let three = and_parts (t.dev_number == leads.at) _ two.1 in
    let four = and_parts (nat_lt 0 t.events) _ three.1 in
    let five = and_parts (nat_lt t.events (2 ^ 63)) _ four.1 in
    let six = and_parts (has_whole_row t) (has_roles (length s.drives.items) t) five.1 in
    let disks = and_parts (nat_le 2 t.raid_disks) _ (rule_holds 4 (rules t s.extent) one.0) in
    record {
      few = most (is_mirror t) t.raid_disks (leb-true t.raid_disks _ disks.1);
      roles = roles_more t (length s.drives.items) 16 drives six.1;
    }
  where
    most : (mirror : Bool) (k : ℕ) → k ≤ (if mirror then 2 else 16) → k ≤ 16
    most true k few = omega (arith, few)
    most false k few = few

module _ (t u : Super) (has : IsPlaced t) (had : IsPlaced u) (same : frame_of t ≡ frame_of u) where
  -- they have as many members, at the same places
  disks_same : t.raid_disks ≡ u.raid_disks
  disks_same =
      sym (length-map-range_with_len (λ k. unwrap_or (place_with t.roles.items k) 16) 0 t.raid_disks)
      ∙ ap (λ (g : Frame). length g.places) same
      ∙ length-map-range_with_len (λ k. unwrap_or (place_with u.roles.items k) 16) 0 u.raid_disks

  place_at : (r : Super) (k : ℕ) → k < r.raid_disks → slice_get (frame_of r).places k ≡ Some (unwrap_or (place_with r.roles.items k) 16)
  place_at r k low =
      get_map (λ j. unwrap_or (place_with r.roles.items j) 16) (range_with_len 0 r.raid_disks) k
      ∙ ap (option_map (λ j. unwrap_or (place_with r.roles.items j) 16)) (get_range 0 r.raid_disks k low)
      ∙ (let here : 0 + k ≡ k = omega arith in ap (λ j. Some (unwrap_or (place_with r.roles.items j) 16)) here)

  place_same : (k : ℕ) → k < t.raid_disks → unwrap_or (place_with t.roles.items k) 16 ≡ unwrap_or (place_with u.roles.items k) 16
  place_same k low =
      some_same (unwrap_or (place_with t.roles.items k) 16) (unwrap_or (place_with u.roles.items k) 16)
      (sym (place_at t k low) ∙ ap (λ (g : Frame). slice_get g.places k) same ∙ place_at u k (let many = disks_same in omega (arith, low, many)))

  -- a place that one names has a position, and so the other names it
  named_there : (p : ℕ) → is_named t p ≡ true → is_named u p ≡ true
  named_there p named =
      let at = placed_position t p has.roles has.few named in
      let few = has.few in
      let many = disks_same in
      let below : at.0 < u.raid_disks = (let low = at.1 in omega (arith, low, many)) in
      let there = placed u at.0 had.roles below in
      let here : there.0 ≡ p =
      sym (ap (λ (o : Option ℕ). unwrap_or o 16) there.1) ∙ sym (place_same at.0 at.1) ∙ ap (λ (o : Option ℕ). unwrap_or o 16) at.2 in
      named_place u at.0 p (let low = at.1 in omega (arith, low, few)) (there.1 ∙ ap Some here)

pub named_same : (t u : Super) → IsPlaced t → IsPlaced u → frame_of t ≡ frame_of u → (p : ℕ) → is_named t p ≡ is_named u p
named_same t u has had same p = of (is_named t p) refl (is_named u p) refl
  where
    of : (a : Bool) → is_named t p ≡ a → (b : Bool) → is_named u p ≡ b → a ≡ b
    of true one true two = refl
    of false one false two = refl
    of true one false two = absurd (both_ways (is_named u p) two (named_there t u has had same p one))
    of false one true two = absurd (both_ways (is_named t p) one (named_there u t had has (sym same) p two))
