-- The volume group on arrays: it goes by the sectors before their first extents. Arrays whose members are all whole have each sector.
use Rattle.std.proofs.Common.{◌≡◌, ℕ, zero, suc, ◌+◌, ◌/◌, ◌<◌, ◌≤◌, Bool, false, nat_lt, if◌then◌else◌, List, map, slice_get, Some, refl, is_ok, ap, ◌∙◌, lt-ltb, ltb-true, arith}
use Rattle.std.proofs.lemmas.Bool.{and_parts}
use Rattle.std.specs.Option.{option_map_or}
use Rattle.std.specs.List.{range_with_len}
use Rattle.rack.specs.Seen.{Image, RackView}
use Rattle.rack.specs.Values.{MayLeave}
use Rattle.md_super.specs.declared.superblock.Super.{Super}
use Rattle.md_super.specs.Profile.{is_height_of, profiled, rules}
use Rattle.pool_state.specs.declared.contents.State.{State}
use Rattle.array_image.specs.Arrays.{Member, layout_at}
use Rattle.array_image.specs.Spent.{spent_with, wanting}
use Rattle.array_image.specs.Stripes.{sector_in}
use Rattle.array_image.specs.Supers.{truth_in}
use Rattle.array_core.proofs.Opened.{current_is, super_passes, truth_leads}
use Rattle.array_core.proofs.Truths.{rule_holds}
use Rattle.array_model.specs.declared.Seat.TheVariants.{Whole}
use Rattle.array_model.specs.View.{View, IsArray, member_on, seat_reach, sectors_of, shape_of, spent_in}
use Rattle.array_model.proofs.Layouts.{sector_inside}
use Rattle.array_model.proofs.Views.{shape_members}
use Rattle.lvm_group.specs.Group.{highest}
use Rattle.lvm_group.specs.Images.{HasOwnArea, MeansVolume}
use Rattle.lvm_group.specs.Parts.{part_of}
use Rattle.lvm_group.specs.Runs.{Linear, data_start}
use Rattle.lvm_group.proofs.SameParts.{area_below, part_below}
use Rattle.raid_laws.specs.Raid.{Raid, held_in}
use Rattle.pool_image.proofs.Groups.{map_below}
use Rattle.pool_image.proofs.Joined.{bad_by_parts}
use Rattle.pool_model.specs.Grouped.{HoldGroup}

-- A member's data is longer than the part of an array before its first extent.
pub truth_long : (s : State) (c : Image) (n : ℕ) (t : Super) → truth_in s c n ≡ Some t → 2048 < t.size
truth_long s c n t is =
    let leads = truth_leads s c n t is in
    let at = current_is s c n leads.at t leads.here in
    let one = and_parts (is_ok (profiled t s.extent)) _ (super_passes s c n leads.at t at.1) in
    let size = and_parts (is_height_of s.extent t.size) _ (rule_holds 5 (rules t s.extent) one.0) in
    ltb-true 2048 t.size (and_parts (nat_lt 2048 t.size) _ size.0).0

-- where all members count so far none is wanting
none_wanting : (t : ℕ) (h : ℕ → Member) (a m : ℕ) → ((k : ℕ) → k < a + m → t < (h k).reach) → wanting t (map h (range_with_len a m)) ≡ 0
none_wanting t h a zero each = refl
none_wanting t h a (suc m) each =
    ap (λ (b : Bool). if b then wanting t (map h (range_with_len (a + 1) m)) else suc (wanting t (map h (range_with_len (a + 1) m)))) (lt-ltb t (h a).reach (each a (omega arith)))
    ∙ none_wanting t h (a + 1) m (λ k low. each k (omega (arith, low)))

-- No sector of an array is spent whose members are all whole.
pub whole_unspent : (v : View) (x : ℕ) → IsArray v → ((k : ℕ) → k < v.truth.raid_disks → slice_get v.seats k ≡ Some Whole) → x < sectors_of v → spent_in v x ≡ false
whole_unspent v x is_array seats inside =
    let at = sector_in (layout_at (shape_of v) x) x in
    let low : at < v.truth.size = sector_inside v x is_array inside in
    ap (λ (ms : List Member). spent_with (wanting at ms) (nat_lt (at / 128) v.resync)) (shape_members v)
    ∙ ap (λ k. spent_with k (nat_lt (at / 128) v.resync))
    (none_wanting at (member_on v) 0 v.truth.raid_disks (λ k less.
    let reach : (member_on v k).reach ≡ v.truth.size = ap (λ o. option_map_or (seat_reach v.truth.size) o 0) (seats k (omega (arith, less))) in
    omega (arith, low, reach)))

-- Contents that before the first extents of the arrays agree with some that mean a volume mean it too.
pub means_below : (pool : List ℕ) (joined : ℕ) (sectors : ℕ → ℕ) (l : Linear) (seqno : ℕ) (m c : Image)
    → ((n : ℕ) → n < joined → HasOwnArea (m n)) → MeansVolume pool joined sectors l seqno m
    → ((n s : ℕ) → n < joined → s < data_start → c n s ≡ m n s) → MeansVolume pool joined sectors l seqno c
means_below pool joined sectors l seqno m c areas means same = record {
  group = means.group;
  found =
      ap (λ parts. highest (map (λ part. part.group) parts))
      (map_below (λ n. part_of (c n) (sectors n)) (λ n. part_of (m n) (sectors n)) 0 joined (λ n low. parts n (omega (arith, low))))
      ∙ means.found;
  own = means.own;
  sound = bad_by_parts pool l.extent joined sectors sectors (λ n low. refl) c m parts ∙ means.sound;
  volume = means.volume;
  numbered = means.numbered;
}
  where
    parts : (n : ℕ) → n < joined → part_of (c n) (sectors n) ≡ part_of (m n) (sectors n)
    parts n low = part_below (m n) (c n) (sectors n) (areas n low) (λ s first. same n s low first)

-- Arrays that before their first extents hold just what contents have there which mean a volume.
pub group_left : (v : Raid) (x : RackView) (l : Linear) (seqno : ℕ) (after : Image)
    → ((n : ℕ) → n < v.state.joined → data_start ≤ sectors_of (v.arrays n))
    → ((n : ℕ) → n < v.state.joined → HasOwnArea (after n))
    → ((n s : ℕ) (u : List ℕ) → n < v.state.joined → s < data_start → MayLeave (held_in v x n s) u → u ≡ after n s)
    → l.extent ≡ v.state.extent → l.arrays ≡ v.state.joined
    → MeansVolume v.state.pool.0 v.state.joined (λ n. sectors_of (v.arrays n)) l seqno after
    → HoldGroup v l x
group_left v x l seqno after room own only extent arrays means = record {
  extent = extent;
  arrays = arrays;
  says = λ c picks past.
      let same : (n s : ℕ) → n < v.state.joined → s < data_start → c n s ≡ after n s =
      λ n s low first. only n s (c n s) low first (picks n s low (let enough = room n low in omega (arith, enough, first)) first) in (
        seqno,
        record {
          areas = λ n low. area_below (after n) (c n) (sectors_of (v.arrays n)) (own n low) (λ s first. same n s low first);
          means = means_below v.state.pool.0 v.state.joined (λ n. sectors_of (v.arrays n)) l seqno after c own means same;
        },
      );
}
