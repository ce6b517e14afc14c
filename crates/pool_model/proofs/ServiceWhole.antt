-- A pool in service that has ended whole, also once it took new drives in: any one of its drives may be absent.
use Rattle.std.proofs.Common.{◌≡◌, ℕ, ◌<◌, ◌^◌, false, not, length, sym, subst, ◌∙◌, arith}
use Rattle.rack.specs.Seen.{Image, IsPick, RackView}
use Rattle.rack.specs.Values.{MayLeave}
use Rattle.gpt_table.specs.Disk.{Contents}
use Rattle.slice_rack.specs.Slices.{Slices}
use Rattle.slice_rack.specs.Sliced.{IsInside, slices_of}
use Rattle.array_image.specs.Left.{IsLeft}
use Rattle.array_model.specs.View.{sectors_of}
use Rattle.lvm_group.specs.Runs.{Linear}
use Rattle.log_laws.proofs.Counting.{is_listed}
use Rattle.pool_image.specs.Disks.{Identities}
use Rattle.pool_image.specs.Drives.{Found}
use Rattle.raid_laws.specs.Agreeing.{AgreeLeaving}
use Rattle.raid_laws.specs.Raid.{Raid, IsTracked, is_failed, spent_of}
use Rattle.pool_model.specs.Absent.{EndsWhole, HoldAbsent, IsWholeRaid}
use Rattle.pool_model.specs.Alone.{NoImpostor, LeaveOut}
use Rattle.pool_model.specs.Grouped.{HoldGroup}
use Rattle.pool_model.specs.InService.{RunInvariant, IsSaid}
use Rattle.pool_model.specs.Left.{IsPickOutsideSlices, IsServed}
use Rattle.pool_model.proofs.Again.{left_known_by}
use Rattle.pool_model.proofs.Alike.{alone_said, served_said}
use Rattle.pool_model.proofs.Alone.{says_stands}
use Rattle.pool_model.proofs.Away.{all_there}
use Rattle.pool_model.proofs.EndedWhole.{known_absent}
use Rattle.pool_model.proofs.InService.{again_said, still_said}
use Rattle.pool_model.proofs.LeftOut.{alone_out, said_out, says_out, stays}
use Rattle.pool_model.proofs.Named.{same_length}

-- what disks say is no part of what it is to hold a pool
absent_said : (f : Found) (e : Identities) (t : Slices) (v : Raid) (i : Image) → HoldAbsent (record f { identities = e }) t v.state i → HoldAbsent f t v.state i
unfolding again_said still_said
absent_said f e t v i is = record {
  again = again_said f e t v.state i is.again;
  safe = is.safe;
}

-- Where its arrays are told and none is over, its book is whole, its superblocks agree, its arrays hold a volume's group and it stands alone on its disks, what
-- these may be left with, without disks that are left out, holds it again, and means without any one drive what it means with it.
pub service_absent : {l : Linear} (f : Found) (bound : ℕ) (Out : ℕ → Type 0) (t : Slices) (v : Raid) (x : RackView) → RunInvariant f t v x → NoImpostor f bound Out v.state t x → IsInside t x
    → ((n : ℕ) → n < f.state.made → IsTracked v (slices_of t x) n) → ((n : ℕ) → n < f.state.made → is_failed v n ≡ false)
    → IsWholeRaid f.state.made v
    → ((n : ℕ) (r : Image) → n < f.state.made → IsLeft (slices_of t x) r → AgreeLeaving (v.arrays n) v.state r n)
    → HoldGroup v l (slices_of t x)
    → ((n k : ℕ) → n < f.state.made → k < sectors_of (v.arrays n) → spent_of v n k ≡ false)
    → (i j : Image) → IsPick x x x.held i → LeaveOut f Out i j
    → ((d k : ℕ) → d < f.disks.count → k < f.disks.sectors d → length (j d k) ≡ 512)
    → ((d : ℕ) → d < f.disks.count → f.disks.sectors d < 2 ^ 48)
    → HoldAbsent f t v.state j
service_absent f bound Out t v x is alone inside told lasts whole agree group alive i j pick leave sectors small =
    let off : IsPickOutsideSlices t x i = λ d s live never. pick d s live in
    let said : IsSaid f j = said_out f Out i j leave (is.held.said i off) is.arranged in
    let e = said.identities in
    let few = is.arranged.made.1 in
    let has = is.arranged.truths in
    let served : IsServed f t v (slices_of t x) =
    record { slices = is.slices; after = is.after; joined = is.joined; told = told; lasts = lasts; geometry = is.geometry } in
    let here = served_said f e few has t v (slices_of t x) served in
    let known =
    left_known_by (record f { identities = e }) t x v here inside j said.outset is.disks said.elsewhere
    (alone_said f e few has v.state j (alone_out f Out i j leave v.state (is.held.alone i off)))
    (λ p d s seat live.
    subst (λ (c : Contents). MayLeave (x.held d s) (c s)) (sym (stays f Out i j leave p d (sym (is.slices.seats p) ∙ seat))) (pick d s live)) in
    let ends : EndsWhole (record f { identities = e }) v (slices_of t x) =
    record {
      alone =
          says_stands f bound v.state e j is.arranged
          (says_out f Out i j leave bound v.state
          (λ p d seat.
          let was = (is.arranged.seated p d seat).0 in
          all_there (λ drive. not drive.missing) v.state.drives.items p whole.drives
          (let low = is_listed f.state p was in let many = same_length v.state.drives.items f.state.drives.items is.after.same.drives in omega (arith, low, many)))
          (alone i off))
          said.elsewhere.tables said.elsewhere.others;
      book = whole;
      agree = agree;
    } in
    absent_said f e t v j (known_absent (record f { identities = e }) t v (slices_of t x) j known ends sectors small group alive)
