-- What a stop inside an opening leaves means the volume: while gates, tables and marks alone are written, and while the arrays' texts are brought up to date.
use Rattle.std.proofs.Common.{◌≡◌, ℕ, ◌<◌, ◌≤◌, length, None, sym, ap, subst, ◌∙◌, arith}
use Rattle.rack.specs.Seen.{Image, RackView}
use Rattle.slice_rack.specs.Slices.{Slices, sectors_of}
use Rattle.slice_rack.specs.Sliced.{sliced}
use Rattle.shr_base.specs.declared.Id.{Id}
use Rattle.pool_state.specs.declared.contents.State.{State}
use Rattle.array_image.specs.Arrays.{arrays_in, replayed}
use Rattle.lvm_group.specs.Images.{HasOwnArea, IsVolume}
use Rattle.lvm_group.specs.Runs.{Linear, data_start}
use Rattle.pool_image.specs.Alike.{IsSamePool}
use Rattle.pool_image.specs.Drives.{Found}
use Rattle.pool_image.specs.Meaning.{array_sectors, arrays_held, refused_by}
use Rattle.pool_image.specs.Volumes.{Arrays}
use Rattle.pool_image.proofs.Founds.{joined_same}
use Rattle.raid_rack.specs.declared.arrays.RaidRack.{RaidRack}
use Rattle.raid_laws.specs.Raid.{Raid}
use Rattle.raid_rack.specs.RaidRack.{raid_in, raid_seen, refused_in, slices_seen}
use Rattle.pool_model.specs.Grouped.{HaveOwnAreas}
use Rattle.pool_model.specs.Openings.{HadOnePool, RecoversInOpening}
use Rattle.pool_model.specs.Reopening.{AreWholeSectors, HoldMeaning}
use Rattle.pool_model.proofs.OpenedMeaning.{opened_meaning}
use Rattle.pool_model.proofs.Openings.{opened_from}
use Rattle.assembler_laws.specs.Holding.{HoldsArrays}
use Rattle.assembler.specs.Volume.{AllLive, OpensVolume}
use Rattle.assembler.proofs.Bringing.{GivesOpened}
use Rattle.assembler.proofs.Grouped.{arrays_are, extent_is, given_volume}

module _ {R : Type 0} (seen : R → RackView) (runs : R → R → Type 0) (e f : Found) (pool : IsSamePool e f) (a : RackView) (raid last : RaidRack R)
    (holds : HoldsArrays f (raid_in raid) a (slices_seen seen raid)) (fresh : (n : ℕ) → refused_in raid n ≡ 0)
    (l : Linear) (seqno : ℕ) (opens : OpensVolume seen runs raid last l seqno) (alive : AllLive (raid_in last))
    (most : (raid_in raid).state.joined ≤ 16) (both : (raid_in raid).state.joined ≡ (raid_in raid).state.made)
    (all : e.state.joined ≡ e.state.made) (own : HaveOwnAreas e) (none : refused_by e ≡ None) (had : HadOnePool e) where
  abbrev u : Raid
  u = raid_in raid

  abbrev sizes : ℕ → ℕ
  sizes = (raid_seen seen raid).sectors

  -- ---- the pool is that at rest, by the arrays' book

  held_same : (n x : ℕ) → arrays_held e n x ≡ arrays_held f n x
  held_same n x = sym (ap (λ (k : Arrays). k.contents n x) (joined_same e f pool))

  pub own_rested : HaveOwnAreas f
  own_rested n low =
      subst (λ (h : Image). HasOwnArea (h n)) (sym (ap (λ (k : Arrays). k.contents) (joined_same e f pool))) (own n (subst (λ (s : State). n < s.joined) pool.state low))

  joined_is : u.state.joined ≡ e.state.joined
  joined_is = holds.after.same.joined ∙ ap (λ (s : State). s.joined) pool.state

  pool_is : u.state.pool.0 ≡ e.state.pool.0
  pool_is = ap (λ (id : Id). id.0) (holds.after.same.pool ∙ ap (λ (s : State). s.pool) pool.state)

  low_rested : (n : ℕ) → n < e.state.joined → n < f.state.joined
  low_rested n low = subst (λ (s : State). n < s.joined) (sym pool.state) low

  made : (n : ℕ) → n < e.state.joined → n < e.state.made
  made n low = omega (arith, low, all)

  sized : (n : ℕ) → n < e.state.joined → sizes n ≡ array_sectors e n
  sized n low = holds.sectors n (low_rested n low) ∙ ap (λ (k : Arrays). k.sectors n) (joined_same e f pool)

  room : (n : ℕ) → n < e.state.joined → data_start ≤ sizes n
  room n low = (let enough = holds.room n (low_rested n low) in let same = holds.sectors n (low_rested n low) in omega (arith, enough, same))

  whole : (n x : ℕ) → n < e.state.joined → length (arrays_held e n x) ≡ 512
  whole n x low = ap length (held_same n x) ∙ holds.whole n x (low_rested n low)

  extent : l.extent ≡ e.state.extent
  extent =
      sym (extent_is seen runs f a raid last holds fresh l seqno opens alive most both own_rested) ∙ holds.after.same.extent ∙ ap (λ (s : State). s.extent) pool.state

  arrays : l.arrays ≡ e.state.joined
  arrays = arrays_are seen runs f a raid last holds fresh l seqno opens alive most both own_rested ∙ joined_is

  of_pool : (c : Image) → IsVolume u.state.pool.0 u.state.joined l seqno sizes c → (n : ℕ) × IsVolume e.state.pool.0 e.state.joined l n sizes c
  of_pool c lies = (
    seqno,
    subst (λ k. IsVolume e.state.pool.0 k l seqno sizes c) joined_is (subst (λ id. IsVolume id u.state.joined l seqno sizes c) pool_is lies),
  )

  -- ---- contents

  -- whose arrays have all that they had
  pub still_meaning : (i : Image) → RecoversInOpening e 0 i → HoldMeaning e l i
  unfolding opened_from
  still_meaning i still =
      opened_meaning e l i (opened_from e 0 data_start i (omega arith) still) all sizes sized room whole extent arrays (arrays_held e)
      (of_pool (arrays_held e)
      (given_volume seen runs f a raid last holds fresh l seqno opens alive most both own_rested (arrays_held e) (λ n x low first. held_same n x)))
      (λ n x low first.
      still.values n x (made n low) (omega arith) (let enough = room n low in let size = sized n low in omega (arith, first, enough, size)))
      (λ n x low first. whole n x low) none had

  -- whose texts are brought up to date
  pub brought_meaning : (t : Slices) (i : Image) → GivesOpened e t data_start i
      → IsVolume u.state.pool.0 u.state.joined l seqno sizes (arrays_in (replayed (sectors_of t) (sliced t i))) → AreWholeSectors e.disks i → HoldMeaning e l i
  brought_meaning t i gives lies wholes =
      opened_meaning e l i gives.opened all sizes sized room whole extent arrays (arrays_in (replayed (sectors_of t) (sliced t i)))
      (of_pool (arrays_in (replayed (sectors_of t) (sliced t i))) lies) (λ n x low first. gives.gives n x (made n low))
      (λ n x low first. ap length (sym (gives.gives n x (made n low))) ∙ gives.whole wholes n x (made n low)) none had
