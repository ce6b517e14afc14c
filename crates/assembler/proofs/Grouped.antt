-- Arrays on which a volume was opened hold its group, whatever they may be left with: their texts were brought up to it.
use Rattle.std.proofs.Common.{◌≡◌, ℕ, ◌<◌, ◌≤◌, Bool, if◌then◌else◌, List, [], Some, sym, ap, subst, ◌∙◌, lt-ltb, arith}
use Rattle.rack.specs.Values.{MayLeave}
use Rattle.rack.specs.Joins.{leaves_then, leaves_weaker}
use Rattle.rack.specs.Moments.{Leaves}
use Rattle.rack.specs.Seen.{Image, IsLive, IsPick, RackView}
use Rattle.lvm_group.specs.Brought.{IsEven}
use Rattle.lvm_group.specs.Group.{group_in}
use Rattle.lvm_group.specs.Images.{HoldOnly, IsSettled, IsVolume, MeansVolume, over}
use Rattle.lvm_group.specs.Opening.{AreNow, AreServed, Means, within_sectors}
use Rattle.lvm_group.specs.Runs.{Linear, data_start}
use Rattle.lvm_group.proofs.OwnGroup.{own_sized}
use Rattle.lvm_group.proofs.SameParts.{area_below}
use Rattle.array_model.specs.View.{sectors_of}
use Rattle.shr_base.specs.declared.Id.{Id}
use Rattle.pool_image.specs.Drives.{Found}
use Rattle.pool_image.specs.Meaning.{arrays_held}
use Rattle.raid_rack.specs.declared.arrays.RaidRack.{RaidRack}
use Rattle.raid_rack.specs.AllRuns.{AreCalls}
use Rattle.raid_laws.specs.Raid.{Raid, held_in}
use Rattle.raid_rack.specs.RaidRack.{raid_in, raid_seen, refused_in, slices_seen}
use Rattle.pool_model.specs.Grouped.{HaveOwnAreas, HoldGroup}
use Rattle.pool_model.proofs.Grouped.{group_left, means_below}
use Rattle.assembler_laws.specs.Holding.{HoldsArrays}
use Rattle.assembler.specs.Volume.{AllLive, OpensVolume}
use Rattle.assembler.proofs.Volumes.{live_before, now as now_held, served as served_by}

module _ {R : Type 0} (seen : R → RackView) (runs : R → R → Type 0) (f : Found) (a : RackView) (x y : RaidRack R)
    (holds : HoldsArrays f (raid_in x) a (slices_seen seen x)) (fresh : (n : ℕ) → refused_in x n ≡ 0)
    (l : Linear) (seqno : ℕ) (opens : OpensVolume seen runs x y l seqno) (alive : AllLive (raid_in y))
    (few : (raid_in x).state.joined ≤ 16) (all : (raid_in x).state.joined ≡ (raid_in x).state.made) (own : HaveOwnAreas f) where
  abbrev u : Raid
  u = raid_in x

  abbrev joined : ℕ
  joined = (raid_in x).state.joined

  abbrev p : RackView
  p = raid_seen seen x

  abbrev q : RackView
  q = raid_seen seen opens.mid

  -- the arrays' contents before
  abbrev before : Image
  before = within_sectors (raid_seen seen x) (arrays_held f)

  early : AreCalls seen runs x opens.mid
  early = (let calls = opens.early in (calls.0, calls.1, calls.2))

  alive_mid : AllLive (raid_in opens.mid)
  alive_mid = live_before seen runs opens.mid y opens.agrees.kept alive

  alive_first : AllLive u
  alive_first = live_before seen runs x opens.mid early alive_mid

  low_of : (n : ℕ) → n < joined → n < f.state.joined
  low_of n low = (let same = holds.after.same.joined in omega (arith, low, same))

  room : (n : ℕ) → n < joined → data_start ≤ sectors_of (u.arrays n)
  room n low = (let enough = holds.room n (low_of n low) in let same = holds.sectors n (low_of n low) in omega (arith, enough, same))

  reads : (n s : ℕ) → n < joined → s < data_start → before n s ≡ arrays_held f n s
  reads n s low first =
      ap (λ (b : Bool). if b then arrays_held f n s else [])
      (lt-ltb s (sectors_of (u.arrays n)) (let enough = room n low in omega (arith, first, enough)))

  told : (n s : ℕ) → n < joined → s < 2048 → IsLive p q n s
  told n s low first =
      let enough = room n low in
      let size = early.2.sectors n in
      record {
        disk = (let made = early.1.book.same.made in omega (arith, low, all, made));
        sector = omega (arith, first, enough, size);
        is_told = holds.told n (low_of n low);
        unspent = alive_mid n s (let same = early.1.book.same.joined in omega (arith, low, same)) (omega (arith, first, enough, size));
      }

  served : AreServed p q joined
  served n low = served_by seen runs f a x holds fresh opens.mid early alive_mid n (low_of n low)

  now : AreNow p joined (arrays_held f)
  now n low = now_held seen runs f a x holds fresh n (low_of n low)

  pub extent_is : u.state.extent ≡ l.extent
  extent_is =
      let is = opens.opens.means (arrays_held f) served now in
      sym (ap (λ (k : Linear). k.extent) is.volume ∙ own_sized u.state.pool.0 u.state.extent joined p.sectors is.group is.own)

  pub arrays_are : l.arrays ≡ joined
  arrays_are = ap (λ (k : Linear). k.arrays) (opens.opens.means (arrays_held f) served now).volume

  means : MeansVolume u.state.pool.0 joined p.sectors l seqno before
  means =
      let same : l ≡ over joined l = ap (λ (k : ℕ). record { extent = l.extent; arrays = k; runs = l.runs }) arrays_are in
      subst (λ (k : Linear). Means u.state.pool.0 l.extent joined p.sectors k seqno before) same
      (subst (λ k. Means u.state.pool.0 k joined p.sectors l seqno before) extent_is (opens.opens.means (arrays_held f) served now))

  settled : IsSettled u.state.pool.0 joined l seqno p q before
  settled = record {
    told = told;
    only = λ n s v low first left.
        let enough = room n low in
        holds.values n s v (low_of n low) (alive_first n s low (omega (arith, first, enough))) left ∙ sym (reads n s low first);
    areas = λ n low. area_below (arrays_held f n) (before n) (sectors_of (u.arrays n)) (own n (low_of n low)) (λ s first. reads n s low first);
    means = means;
  }

  -- the arrays' contents after it
  brought : (after : Image) × HoldOnly q joined after × IsEven u.state.pool.0 joined l seqno p.sectors after
  brought = opens.brings.even before settled (λ n low. served n (subst (λ k. n < k) (sym all) low)) few

  kept : AreCalls seen runs x y
  kept = opens.kept

  low_now : (n : ℕ) → n < (raid_in y).state.joined → n < joined
  low_now n low = (let same = kept.1.book.same.joined in omega (arith, low, same))

  room_now : (n : ℕ) → n < (raid_in y).state.joined → data_start ≤ sectors_of ((raid_in y).arrays n)
  room_now n low = (let enough = room n (low_now n low) in let same = kept.2.sectors n in omega (arith, enough, same))

  held_now : (n s : ℕ) (v : List ℕ) → n < (raid_in y).state.joined → s < data_start → MayLeave (held_in (raid_in y) (slices_seen seen y) n s) v → v ≡ brought.0 n s
  held_now n s v low first left =
      let less = low_now n low in
      let enough = room_now n low in
      let live : IsLive q (raid_seen seen y) n s = record {
        disk = (let made = kept.1.book.same.made in omega (arith, less, all, made));
        sector = omega (arith, first, enough);
        is_told = early.1.moments.told n (holds.told n (low_of n less));
        unspent = alive n s low (omega (arith, first, enough));
      } in
      brought.1 n s v less first ((opens.agrees.values.keeps.held n s live).within v left)

  -- they mean the volume by the book that is left
  after_means : MeansVolume (raid_in y).state.pool.0 (raid_in y).state.joined (λ n. sectors_of ((raid_in y).arrays n)) l seqno brought.0
  after_means =
      let same = kept.1.book.same in
      subst (λ (id : Id). MeansVolume id.0 (raid_in y).state.joined (λ n. sectors_of ((raid_in y).arrays n)) l seqno brought.0) (sym same.pool)
      (subst (λ k. MeansVolume u.state.pool.0 k (λ n. sectors_of ((raid_in y).arrays n)) l seqno brought.0) (sym same.joined)
      (subst (λ (k : ℕ → ℕ). MeansVolume u.state.pool.0 joined k l seqno brought.0) (λ j n. sym (kept.2.sectors n) j) brought.2.means))

  pub group_opened : HoldGroup (raid_in y) l (slices_seen seen y)
  group_opened =
      group_left (raid_in y) (slices_seen seen y) l seqno brought.0 room_now (λ n low. brought.2.areas n (low_now n low)) held_now
      (sym extent_is ∙ sym kept.1.book.same.extent) (arrays_are ∙ sym kept.1.book.same.joined) after_means

  -- ---- at each moment

  -- contents that have the pool's own sectors before the first extents mean the volume, by the arrays' sizes, and have the pool's metadata areas
  pub given_volume : (c : Image) → ((n s : ℕ) → n < joined → s < data_start → c n s ≡ arrays_held f n s) → IsVolume u.state.pool.0 joined l seqno p.sectors c
  given_volume c same = record {
    areas = λ n low. area_below (arrays_held f n) (c n) (sectors_of (u.arrays n)) (own n (low_of n low)) (λ s first. same n s low first);
    means = means_below u.state.pool.0 joined p.sectors l seqno before c settled.areas means (λ n s low first. same n s low first ∙ sym (reads n s low first));
  }

  -- texts are brought up to date
  mid_volume : p.traced → Leaves p q (IsVolume u.state.pool.0 joined l seqno p.sectors)
  mid_volume traced =
      let right = opens.brings.right before settled (λ n low. served n (subst (λ k. n < k) (sym all) low)) in
      leaves_weaker
      (λ c. (k : Image) → IsSettled u.state.pool.0 joined l seqno p q k → group_in k p.sectors joined ≡ Some opens.opens.runs.group → IsVolume u.state.pool.0 joined l seqno p.sectors c)
      (IsVolume u.state.pool.0 joined l seqno p.sectors) (λ c means. means before settled right) (opens.brings.images traced)

  -- and then superblocks are made to agree
  last_volume : q.traced → Leaves q (raid_seen seen y) (IsVolume u.state.pool.0 joined l seqno p.sectors)
  last_volume traced =
      leaves_weaker (IsPick q (raid_seen seen y) q.held) (IsVolume u.state.pool.0 joined l seqno p.sectors)
      (λ c pick.
      let same : (n s : ℕ) → n < joined → s < data_start → c n s ≡ brought.0 n s =
      λ n s low first.
      let enough = room n low in
      let size = kept.2.sectors n in
      brought.1 n s (c n s) low first (pick n s (record {
        disk = (let made = kept.1.book.same.made in omega (arith, low, all, made));
        sector = omega (arith, first, enough, size);
        is_told = early.1.moments.told n (holds.told n (low_of n low));
        unspent = alive n s (let same = kept.1.book.same.joined in omega (arith, low, same)) (omega (arith, first, enough, size));
      })) in
      record {
        areas = λ n low. area_below (brought.0 n) (c n) (sectors_of (u.arrays n)) (brought.2.areas n low) (λ s first. same n s low first);
        means = means_below u.state.pool.0 joined p.sectors l seqno brought.0 c brought.2.areas brought.2.means same;
      })
      (opens.agrees.values.keeps.stops traced)

  pub brought_volume : p.traced → Leaves p (raid_seen seen y) (IsVolume u.state.pool.0 joined l seqno p.sectors)
  brought_volume traced =
      leaves_then (IsVolume u.state.pool.0 joined l seqno p.sectors) (mid_volume traced) (last_volume (opens.brings.writes.stays.traced traced))
