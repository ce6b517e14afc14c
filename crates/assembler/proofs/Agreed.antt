-- The superblocks of an array agree once a volume was opened.
use Rattle.std.proofs.Common.{◌≡◌, ℕ, ◌<◌, false, sym, subst, inl, inr}
use Rattle.rack.specs.Seen.{Image, RackView}
use Rattle.rack.specs.Joins.{rose_before, rose_since}
use Rattle.array_image.specs.Left.{IsLeft}
use Rattle.lvm_group.specs.Runs.{Linear}
use Rattle.raid_rack.specs.declared.arrays.RaidRack.{RaidRack}
use Rattle.raid_laws.specs.Agreeing.{SupersAgree}
use Rattle.raid_laws.specs.Cleaning.{NoneFails}
use Rattle.raid_laws.specs.Laws.{live_parts}
use Rattle.raid_laws.specs.Raid.{IsTracked, held_in, is_failed, spent_of}
use Rattle.raid_rack.specs.RaidRack.{IsFit, arrays_in, raid_in, slices_seen, written_in}
use Rattle.raid_rack.proofs.AgreeStill.{agree_spared}
use Rattle.raid_laws.proofs.Whole.{told_amid}
use Rattle.assembler.specs.Volume.{OpensVolume}

module _ {R : Type 0} (seen : R → RackView) (runs : R → R → Type 0) (x y : RaidRack R) (l : Linear) (seqno : ℕ) (opens : OpensVolume seen runs x y l seqno)
    (before : IsFit (arrays_in x) (slices_seen seen x)) (none : NoneFails (slices_seen seen x) (slices_seen seen y))
    (n : ℕ) (made : n < (raid_in x).state.made) (told : IsTracked (raid_in x) (slices_seen seen x) n) (goes : is_failed (raid_in y) n ≡ false) where
  abbrev mid : RaidRack R
  mid = opens.mid

  goes_on : is_failed (raid_in mid) n ≡ false
  goes_on = opens.agrees.kept.1.moments.still n goes

  -- what was agreed before the texts were brought up is so still, where nothing was written
  spared : ((k : ℕ) → written_in mid k ≡ false) → ((r : Image) → IsLeft (slices_seen seen x) r → SupersAgree (raid_in x).state r n)
      → (r : Image) → IsLeft (slices_seen seen mid) r → SupersAgree (raid_in mid).state r n
  spared unwritten =
      agree_spared (written_in x) (written_in mid) (raid_in x) (raid_in mid) (slices_seen seen x) (slices_seen seen mid) before.running.set before.heeded opens.fit.heeded
      opens.early.1 opens.early.3 (λ place fault. none place (fault.0, fault.1, rose_before (opens.agrees.kept.1.faults fault.0) fault.2)) n made (unwritten n) told goes_on

  pub agree_opened : ((r : Image) → IsLeft (slices_seen seen x) r → SupersAgree (raid_in x).state r n)
      → (r : Image) → IsLeft (slices_seen seen y) r → SupersAgree (raid_in y).state r n
  agree_opened was = elim opens.agrees.supers [
    | inl still ↦ subst (λ (k : RaidRack R). (r : Image) → IsLeft (slices_seen seen k) r → SupersAgree (raid_in k).state r n) (sym still.0) (spared still.1 was)
    | inr makes ↦
        let later = opens.early.1.moments.told n told in
        λ r left.
        (makes (λ place fault. none place (fault.0, fault.1, rose_since (opens.early.1.faults fault.0) fault.2)) n (held_in (raid_in mid) (slices_seen seen mid) n)
        (spent_of (raid_in y) n) later.joined (subst (λ k. n < k) (sym opens.early.1.book.same.made) made) goes
        (λ s alive. (live_parts (raid_in y) n s alive).1)
        (told_amid (raid_in mid) (slices_seen seen mid) n (spent_of (raid_in y) n) opens.fit.heeded later goes_on (λ s alive. opens.agrees.kept.2.spent n s alive))
        r left).agree
  ]
