-- The volume that is opened on arrays which hold what a pool's drives mean is the volume of the meaning.
use Rattle.std.proofs.Common.{◌≡◌, ◌⊎◌, ℕ, ◌<◌, ◌≤◌, Bool, true, false, nat_lt, if◌then◌else◌, List, [], Some, refl, sym, ap, inl, inr, subst, ◌∙◌, arith}
use Rattle.rack.specs.Values.{MayLeave}
use Rattle.rack.specs.Seen.{IsLive, Rose, RackView}
use Rattle.rack.specs.Sequences.{OnlyReads, WritesOnly}
use Rattle.rack.proofs.Writing.{only_quiet, only_then}
use Rattle.slice_rack.specs.SliceRack.{below_of, tables}
use Rattle.slice_rack.specs.Slices.{disk_of}
use Rattle.lvm_group.specs.Brought.{IsBefore}
use Rattle.lvm_group.specs.declared.volume.VolumeFault.{VolumeFault}
use Rattle.lvm_group.specs.declared.volume.VolumeFault.TheVariants as fault
use Rattle.lvm_group.specs.Opening.{AreNow, AreServed, IsBadVolume, IsUnopened, Opens, within_sectors}
use Rattle.lvm_group.specs.Laws.{array_below, sector_below, shows}
use Rattle.lvm_group.specs.Runs.{IsOrderly, Linear, array_of, sector_of, sectors_in}
use Rattle.lvm_group.specs.Shown.{IsInside, contents_of, volume_of}
use Rattle.pool_image.specs.Drives.{Found}
use Rattle.pool_image.specs.Meaning.{array_sectors, arrays_held, joined_arrays, volume_by}
use Rattle.pool_image.specs.Volumes.{linear_of}
use Rattle.pool_image.specs.Volumes as meant
use Rattle.pool_scan.specs.Scanning.{IsUnfaulted}
use Rattle.pool_image.proofs.Groups.{AreWholeArrays, bad_alike, group_alike}
use Rattle.pool_image.proofs.Joined.{bad_same, group_same}
use Rattle.pool_image.proofs.Parts.{held_in as shown_in}
use Rattle.shr_base.specs.declared.Id.{Id}
use Rattle.raid_rack.specs.declared.arrays.RaidRack.{RaidRack}
use Rattle.raid_rack.specs.AllRuns.{AreCalls, Spares}
use Rattle.raid_laws.specs.Book.{IsSameBook}
use Rattle.raid_laws.specs.Raid.{held_in, is_used_up}
use Rattle.raid_rack.proofs.Live.{runs_live, runs_unused}
use Rattle.raid_rack.specs.RaidRack.{IsFit, arrays_in, raid_in, raid_seen, refused_in, slices_in, slices_seen, written_in}
use Rattle.pool_model.specs.Grouped.{IsVolumeOf}
use Rattle.assembler.specs.declared.refusal.Refusal.{Refusal}
use Rattle.assembler.specs.declared.refusal.Refusal.TheVariants.{BadVolume, Memory}
use Rattle.assembler_laws.specs.Holding.{HoldsArrays}
use Rattle.assembler.specs.Refusing.{by_volume}
use Rattle.assembler.specs.Volume.{AreStill, IsShort, AllLive, HasBadVolume, HoldsVolume, OpensVolume}

-- ---- the volume of the meaning

-- what the arrays hold, as they were read and as the meaning has it
module _ (f : Found) (a b : RackView) (sizes : (n : ℕ) → n < f.state.joined → a.sectors n ≡ array_sectors f n)
    (whole : AreWholeArrays (joined_arrays f)) (served : AreServed a b f.state.joined) (now : AreNow a f.state.joined (arrays_held f)) where
  alike : (n : ℕ) → n < f.state.joined → within_sectors a (arrays_held f) n ≡ shown_in (joined_arrays f) n
  alike n low =
      let upto : ℕ → ℕ → List ℕ = λ k s. if nat_lt s k then arrays_held f n s else [] in
      ap upto (sizes n low)

  pub opened_means : (l : Linear) (seqno : ℕ) → Opens f.state.pool.0 f.state.extent f.state.joined a b l seqno → IsVolumeOf f l
  opened_means l seqno opens =
      let means = opens.means (arrays_held f) served now in
      record {
        group = means.group;
        group_is =
            sym (group_alike (joined_arrays f) whole)
            ∙ sym (group_same f.state.pool.0 f.state.extent f.state.joined a.sectors (array_sectors f) sizes (within_sectors a (arrays_held f)) (shown_in (joined_arrays f)) alike)
            ∙ means.found;
        sound =
            sym (bad_alike (joined_arrays f) whole)
            ∙ sym (bad_same f.state.pool.0 f.state.extent f.state.joined a.sectors (array_sectors f) sizes (within_sectors a (arrays_held f)) (shown_in (joined_arrays f)) alike)
            ∙ means.sound;
        linear = means.volume;
      }

  pub refused_means : (n : ℕ) → IsBadVolume f.state.pool.0 f.state.extent f.state.joined a b n → meant.first_bad (joined_arrays f) ≡ Some n
  refused_means n bad =
      sym (bad_alike (joined_arrays f) whole)
      ∙ sym (bad_same f.state.pool.0 f.state.extent f.state.joined a.sectors (array_sectors f) sizes (within_sectors a (arrays_held f)) (shown_in (joined_arrays f)) alike)
      ∙ bad.bad_in (arrays_held f) served now

-- each sector of the volume holds what the meaning's volume does
pub volume_holds : (f : Found) (a b : RackView) (l : Linear) (of : IsVolumeOf f l) → IsOrderly l → IsInside l b → WritesOnly a b (IsBefore f.state.joined)
    → ((n : ℕ) → n < f.state.joined → a.told n)
    → ((n s : ℕ) (u : List ℕ) → n < f.state.joined → a.spent n s ≡ false → MayLeave (a.held n s) u → u ≡ arrays_held f n s)
    → HoldsVolume (volume_of l b) (volume_by (linear_of (joined_arrays f) of.group) (arrays_held f))
volume_holds f a b l of orderly inside writes told values =
    record {
      sectors = ap sectors_in of.linear;
      contents = λ s u within alive left.
          let low : s < sectors_in l = subst (λ (m : Linear). s < sectors_in m) (sym of.linear) within in
          let n = array_of l s in
          let t = sector_of l s in
          let below = array_below l b s orderly inside low in
          let array : n < f.state.joined = subst (λ (m : Linear). n < m.arrays) of.linear below in
          let live : IsLive a b n t = record {
            disk = let most = inside.arrays in omega (arith, most, below);
            sector = sector_below l b s orderly inside low;
            is_told = told n array;
            unspent = alive;
          } in
          values n t u array (writes.stays.spent n t alive)
          ((writes.others n t live (λ v before. let early = before.1 in absurd (omega (arith, early)))).within u left)
          ∙ sym (shows l (arrays_held f) 0 s low)
          ∙ ap (λ (m : Linear). contents_of m (arrays_held f) 0 s) of.linear;
    }

-- ---- calls of a rack of arrays

-- what can be had after calls could be had before them
pub live_before : {R : Type 0} (seen : R → RackView) (runs : R → R → Type 0) (x y : RaidRack R) → AreCalls seen runs x y → AllLive (raid_in y) → AllLive (raid_in x)
live_before seen runs x y kept alive n s joined inside =
    kept.2.spent n s
    (alive n s (subst (λ k. n < k) (sym kept.1.book.same.joined) joined) (subst (λ k. s < k) (sym (kept.2.sectors n)) inside))

-- an opening writes texts alone to the arrays
pub opened_writes : {R : Type 0} (seen : R → RackView) (runs : R → R → Type 0) (x y : RaidRack R) (l : Linear) (seqno : ℕ) → OpensVolume seen runs x y l seqno
    → WritesOnly (raid_seen seen x) (raid_seen seen y) (IsBefore (raid_in x).state.joined)
opened_writes seen runs x y l seqno opens =
    let may = IsBefore (raid_in x).state.joined in
    only_then may opens.brings.writes (only_quiet may opens.agrees.values.stays opens.agrees.values.keeps)

-- ---- on the arrays that an opening has made

module _ {R : Type 0} (seen : R → RackView) (runs : R → R → Type 0) (f : Found) (a : RackView) (x : RaidRack R)
    (holds : HoldsArrays f (raid_in x) a (slices_seen seen x)) (fresh : (n : ℕ) → refused_in x n ≡ 0) where
  book : IsSameBook f.state (raid_in x).state
  book = holds.after.same

  sizes : (n : ℕ) → n < f.state.joined → (raid_seen seen x).sectors n ≡ array_sectors f n
  sizes n low = holds.sectors n low

  whole : AreWholeArrays (joined_arrays f)
  whole = record { whole = λ n low s inside. holds.whole n s low; room = λ n low. let room = holds.room n low in omega (arith, room) }

  -- nothing is refused where no sector is spent in the end
  pub served : (y : RaidRack R) → AreCalls seen runs x y → AllLive (raid_in y) → AreServed (raid_seen seen x) (raid_seen seen y) f.state.joined
  served y kept alive n low rose =
      let joined : (raid_in y).state.joined ≡ f.state.joined = kept.1.book.same.joined ∙ book.joined in
      let same : refused_in y n ≡ refused_in x n = kept.2.refused n (λ s inside. alive n s (subst (λ k. n < k) (sym joined) low) inside) in
      let none = fresh n in
      elim rose [
        | inl more ↦ omega (arith, more, same)
        | inr last ↦ omega (arith, last, same, none)
      ]

  pub now : AreNow (raid_seen seen x) f.state.joined (arrays_held f)
  now n low = record {
    told = holds.told n low;
    current = λ s inside alive. holds.values n s (held_in (raid_in x) (slices_seen seen x) n s).current low alive (inl refl);
  }

  pub volume_opened : (y : RaidRack R) (l : Linear) (seqno : ℕ) → OpensVolume seen runs x y l seqno → IsOrderly l → IsInside l (raid_seen seen y)
      → AllLive (raid_in y) → (of : IsVolumeOf f l) × HoldsVolume (volume_of l (raid_seen seen y)) (volume_by (linear_of (joined_arrays f) of.group) (arrays_held f))
  volume_opened y l seqno opens orderly inside alive =
      let p = raid_seen seen x in
      let q = raid_seen seen opens.mid in
      let found : Opens f.state.pool.0 f.state.extent f.state.joined p q l seqno =
      subst (λ k. Opens f.state.pool.0 f.state.extent k p q l seqno) book.joined
      (subst (λ k. Opens f.state.pool.0 k (raid_in x).state.joined p q l seqno) book.extent
      (subst (λ (k : Id). Opens k.0 (raid_in x).state.extent (raid_in x).state.joined p q l seqno) book.pool opens.opens)) in
      let early = opens.early in
      let of = opened_means f p q sizes whole (served opens.mid (early.0, early.1, early.2) (live_before seen runs opens.mid y opens.agrees.kept alive)) now l seqno found in (
        of,
        volume_holds f p (raid_seen seen y) l of orderly inside
            (subst (λ k. WritesOnly p (raid_seen seen y) (IsBefore k)) book.joined (opened_writes seen runs x y l seqno opens)) holds.told
            (λ n s u low live may. holds.values n s u low live may),
      )

  pub volume_refused : (y : RaidRack R) (n : ℕ) → IsBadVolume (raid_in x).state.pool.0 (raid_in x).state.extent (raid_in x).state.joined (raid_seen seen x) (raid_seen seen y) n
      → AreCalls seen runs x y → AllLive (raid_in y) → meant.first_bad (joined_arrays f) ≡ Some n
  volume_refused y n bad kept alive =
      let p = raid_seen seen x in
      let q = raid_seen seen y in
      refused_means f p q sizes whole (served y kept alive) now n
      (subst (λ k. IsBadVolume f.state.pool.0 f.state.extent k p q n) book.joined
      (subst (λ k. IsBadVolume f.state.pool.0 k (raid_in x).state.joined p q n) book.extent
      (subst (λ (k : Id). IsBadVolume k.0 (raid_in x).state.extent (raid_in x).state.joined p q n) book.pool bad)))

-- ---- sectors that are spent

-- where no disk refused a call and numbers aren't used up, no sector is spent
pub live_later : {R : Type 0} (seen : R → RackView) (runs : R → R → Type 0) (x y : RaidRack R) → AreCalls seen runs x y
    → IsFit (arrays_in x) (slices_seen seen x) → IsFit (arrays_in y) (slices_seen seen y) → IsUnfaulted (seen (below_of (slices_in x))) (seen (below_of (slices_in y)))
    → (raid_in x).state.joined ≤ (raid_in x).state.made → is_used_up (raid_in y) ≡ false → (is_used_up (raid_in x) ≡ false → AllLive (raid_in x)) → AllLive (raid_in y)
live_later seen runs x y kept before after quiet ready unused alive n s joined inside =
    let joined_is = kept.1.book.same.joined in
    let low : n < (raid_in x).state.joined = omega (arith, joined, joined_is) in
    runs_live seen runs x y kept before after
    (λ place fault. quiet (disk_of (tables (slices_in x)) fault.0)
    (subst (λ t. Rose ((seen (below_of (slices_in x))).faults (disk_of (tables (slices_in x)) fault.0)) ((seen (below_of (slices_in y))).faults (disk_of t fault.0))) kept.0.tables fault.2))
    unused n s (omega (arith, low, ready))
    (alive (runs_unused seen runs x y kept unused) n s low (subst (λ k. s < k) (kept.2.sectors n) inside))

-- ---- why none was opened

-- a bad array is named only where numbers aren't used up
pub unopened_cause : {R : Type 0} (seen : R → RackView) (x y : RaidRack R) (why : Refusal) (f : VolumeFault) → IsFit (arrays_in y) (slices_seen seen y)
    → why ≡ (if is_used_up (raid_in y) then Memory else by_volume f)
    → IsUnopened (raid_in x).state.pool.0 (raid_in x).state.extent (raid_in x).state.joined (raid_seen seen x) (raid_seen seen y) f
    → OnlyReads (raid_seen seen x) (raid_seen seen y) → ((n : ℕ) → written_in y n ≡ written_in x n) → Spares (written_in y) (slices_seen seen x) (slices_seen seen y)
    → ((why ≡ Memory) × IsShort seen x y) ⊎ ((array : ℕ) × (why ≡ BadVolume array) × HasBadVolume seen x y array)
unopened_cause seen x y why f fit is unopened reads unwritten spares = by (is_used_up (raid_in y)) refl
  where
    of : AreStill seen x y → (k : VolumeFault) → why ≡ by_volume k
        → IsUnopened (raid_in x).state.pool.0 (raid_in x).state.extent (raid_in x).state.joined (raid_seen seen x) (raid_seen seen y) k
        → ((why ≡ Memory) × IsShort seen x y) ⊎ ((array : ℕ) × (why ≡ BadVolume array) × HasBadVolume seen x y array)
    of still fault.Memory said cause = inl (said, inl still)
    of still (fault.BadVolume array) said cause = inr (array, said, record { still = still; bad = cause })

    by : (b : Bool) → is_used_up (raid_in y) ≡ b → ((why ≡ Memory) × IsShort seen x y) ⊎ ((array : ℕ) × (why ≡ BadVolume array) × HasBadVolume seen x y array)
    by true used = inl (is ∙ ap (λ b. if b then Memory else by_volume f) used, inr used)
    by false unused =
        of (record { reads = reads; fit = fit; unwritten = unwritten; spares = spares; unused = unused }) f (is ∙ ap (λ b. if b then Memory else by_volume f) unused) unopened
