-- Disks that a run has left whole: any one drive may be absent.
use Rattle.std.proofs.Common.{◌≡◌, ℕ, ◌+◌, ◌<◌, ◌^◌, false, List, length, Some, sym, ap, ap₂, subst, ◌∙◌, arith}
use Rattle.rack.specs.Seen.{Image, IsLive, IsPick, Rose, RackView}
use Rattle.rack.specs.Values.{MayLeave}
use Rattle.array_image.specs.Left.{IsLeft}
use Rattle.array_model.specs.View.{sectors_of}
use Rattle.lvm_group.specs.Runs.{data_start}
use Rattle.pool_image.specs.Disks.{Disks, disks_of}
use Rattle.pool_image.specs.Drives.{Found}
use Rattle.pool_model.specs.Absent.{AreOnly, HoldAbsent, IsWholeRaid, StandsAlone}
use Rattle.pool_model.specs.Grouped.{HaveOwnAreas, HoldGroup}
use Rattle.pool_model.specs.Left.{HoldRest, IsServed}
use Rattle.pool_model.specs.Pools.{AreSlicesOf}
use Rattle.pool_model.proofs.Again.{off_later}
use Rattle.pool_model.proofs.EndedWhole.{left_absent}
use Rattle.pool_model.proofs.Found.{found_is}
use Rattle.pool_model.proofs.Grouped.{whole_unspent}
use Rattle.shr_tool.proofs.GroupKept.{group_kept}
use Rattle.raid_laws.specs.Agreeing.{AgreeLeaving}
use Rattle.raid_laws.specs.Book.{after_then}
use Rattle.raid_laws.specs.Losing.{geometry_then}
use Rattle.raid_laws.specs.Raid.{IsTracked, held_in, is_failed, spent_of}
use Rattle.raid_laws.proofs.Over.{or_from}
use Rattle.pool.specs.Calls.{Ends, CallFrame}
use Rattle.pool.specs.Moment.{Moment, moment_of}
use Rattle.pool.specs.View.{View, arrays_shown, book, slices_shown}
use Rattle.pool.proofs.Keeping.{passes_then}
use Rattle.shr_tool.specs.Heads.{KeepsHeads}
use Rattle.shr_tool.specs.Outcome.{HasWholeSectors, IsRunOn}
use Rattle.shr_tool.proofs.Heads.{heads_passes}

-- the pool of a run stands alone on its disks where no second disk stands for the place of a drive
pub stands_first : (f : Found) (from : Moment) (x : RackView) → IsRunOn f from x → AreOnly f → StandsAlone f
stands_first f from x on only = record {
  tables = on.tables;
  others = λ d never low. record {
    stands = λ p e seat stands. never p (seat ∙ ap Some (sym (only p e d seat low stands)));
    pool = λ copy here. on.one_pool d copy low here;
  };
}

module _ (x y : View) (f : Found) (passes : CallFrame x y) (on : IsRunOn f (moment_of x) x.bay)
    (told_first : (n : ℕ) → n < x.linear.arrays → IsTracked (book x) (slices_shown x) n)
    (told_last : (n : ℕ) → n < x.linear.arrays → IsTracked (book y) (slices_shown y) n)
    (goes : (n : ℕ) → n < f.state.made → is_failed (book y) n ≡ false) where
  made : (n : ℕ) → n < f.state.made → n < (book y).state.made
  made n low = (let first = on.after.same.made in let last = passes.marks.same.made in omega (arith, low, first, last))

  -- the pool that is served at the end
  served : IsServed f y.slices (book y) (slices_shown y)
  served = record {
    slices = subst (AreSlicesOf f) (sym passes.slices) on.slices;
    after = after_then f.state (book x).state (book y).state on.after passes.marks;
    joined = on.joined;
    told = λ n low. told_last n (let arrays = on.arrays in let joined = on.joined in omega (arith, low, arrays, joined));
    lasts = goes;
    geometry = λ n t low truth.
        geometry_then t ((book x).arrays n).truth ((book y).arrays n).truth (on.geometry n t low truth)
        (passes.book n (let first = on.after.same.made in omega (arith, low, first))).geometry;
  }

  module _ (whole : IsWholeRaid f.state.made (book y)) where
    alive : (n k : ℕ) → n < f.state.made → k < sectors_of ((book y).arrays n) → spent_of (book y) n k ≡ false
    alive n k low inside =
        or_from (is_failed (book y) n) _ (goes n low)
        (whole_unspent ((book y).arrays n) k (passes.stays.fit.0.running.set.arrays n (made n low)).is_array (λ j less. whole.seats n j low less) inside)

    -- a sector before an array's first extent is none of the volume's, so it holds what it held
    kept : (n s : ℕ) (v : List ℕ) → n < (book y).state.joined → s < sectors_of ((book y).arrays n) → s < data_start
        → MayLeave (held_in (book y) (slices_shown y) n s) v → MayLeave (held_in (book x) (slices_shown x) n s) v
    kept n s v low inside first left =
        let joined_first = on.after.same.joined in
        let joined_last = passes.marks.same.joined in
        let all = on.joined in
        let arrays = on.arrays in
        let less : n < f.state.made = omega (arith, low, joined_first, joined_last, all) in
        let live : IsLive (arrays_shown x) (arrays_shown y) n s = record {
          disk = made n less;
          sector = inside;
          is_told = told_first n (omega (arith, low, joined_first, joined_last, arrays));
          unspent = alive n s less inside;
        } in
        (passes.arrays.others n s live (λ u shown. not_shown s _ _ first shown.3)).within v left
      where
        not_shown : (s extent rest : ℕ) → s < data_start → s ≡ data_start + extent + rest → ⊥
        not_shown s extent rest first is = absurd (omega (arith, first, is))

    group_last : HoldGroup (book x) x.linear (slices_shown x) → HoldGroup (book y) x.linear (slices_shown y)
    group_last =
        let same = passes.marks.same in
        group_kept (book x) (book y) x.linear (slices_shown x) (slices_shown y) same.pool same.extent same.joined (λ n. passes.arrays.stays.sectors n) kept

    -- the disks are those that the run began on, and outside the slices as the pool has them
    disks_last : disks_of x.bay ≡ disks_of y.bay
    disks_last = ap₂ (λ n (m : ℕ → ℕ). record { count = n; sectors = m }) (sym passes.apart.stays.disks) (λ j d. sym (passes.apart.stays.sectors d) j)

    rest_last : HoldRest f y.slices y.bay
    rest_last =
        subst (λ t. HoldRest f t y.bay) (sym passes.slices)
        (record {
          elsewhere = λ i off. on.rest.elsewhere i (off_later x.slices x.bay y.bay i on.lasting passes.apart off);
          alone = λ i off. on.rest.alone i (off_later x.slices x.bay y.bay i on.lasting passes.apart off);
        })

    -- Where superblocks agree in whatever a stop leaves, what the disks may be left with means the same without any one drive.
    absent_at : AreOnly f → HoldGroup (book x) x.linear (slices_shown x)
        → ((n : ℕ) (r : Image) → n < f.state.made → IsLeft (slices_shown y) r → AgreeLeaving ((book y).arrays n) (book y).state r n)
        → (i : Image) → IsPick y.bay y.bay y.bay.held i → HasWholeSectors y.bay i → HoldAbsent f y.slices (book y).state i
    absent_at only group agree i pick sized =
        let same : f.disks ≡ disks_of y.bay = (found_is (disks_of x.bay) on.before f on.found_is).1 ∙ disks_last in
        let inside = passes.stays.fit.0.running.set.fit.1 in
        left_absent f y.slices y.bay (book y) served inside (disks_of x.bay) on.before i on.found_is disks_last on.sound rest_last pick
        (record { alone = stands_first f (moment_of x) x.bay on only; book = whole; agree = agree })
        (subst (λ (k : Disks). (d s : ℕ) → d < k.count → s < k.sectors d → length (i d s) ≡ 512) (sym same) sized)
        (subst (λ (k : Disks). (d : ℕ) → d < k.count → k.sectors d < 2 ^ 48) (sym same) inside.small)
        (group_last group) alive

-- Superblocks that said their arrays' truths when the run began agree after its end, where no disk's faults rose in the end.
pub agreed_at :
    (x m y : View) (f : Found) → KeepsHeads (book x) (book m) (slices_shown x) (slices_shown m) → Ends m y
    → ((d : ℕ) → Rose (m.bay.faults d) (y.bay.faults d) → ⊥)
    → IsRunOn f (moment_of x) x.bay
    → ((n : ℕ) → n < x.linear.arrays → IsTracked (book y) (slices_shown y) n)
    → (n : ℕ) → n < f.state.made → is_failed (book y) n ≡ false
    → (r : Image) → IsLeft (slices_shown y) r → AgreeLeaving ((book y).arrays n) (book y).state r n
agreed_at x m y f heads ends quiet on told_last n low goes r left =
    let first = on.after.same.made in
    let mid = heads.made in
    ends.agree quiet n (let less : n < (book m).state.made = omega (arith, low, first, mid) in less)
    (heads.truths n (let less : n < (book x).state.made = omega (arith, low, first) in less) (on.truths n low))
    (told_last n (let arrays = on.arrays in let joined = on.joined in omega (arith, low, arrays, joined))) goes r left

-- After the end of such a pool, which is whole then.
pub safe_at :
    (x m y : View) (f : Found) → CallFrame x m → Ends m y → ((d : ℕ) → Rose (m.bay.faults d) (y.bay.faults d) → ⊥)
    → IsRunOn f (moment_of x) x.bay
    → ((n : ℕ) → n < x.linear.arrays → IsTracked (book x) (slices_shown x) n) → ((n : ℕ) → n < x.linear.arrays → IsTracked (book y) (slices_shown y) n)
    → AreOnly f → HaveOwnAreas f → IsWholeRaid f.state.made (book y) → ((n : ℕ) → n < f.state.made → is_failed (book y) n ≡ false)
    → (i : Image) → IsPick y.bay y.bay y.bay.held i → HasWholeSectors y.bay i → HoldAbsent f y.slices (book y).state i
safe_at x m y f ran ends quiet on told_first told_last only own whole goes =
    absent_at x y f (passes_then x m y ran ends.passes) on told_first told_last goes whole only (on.group own)
    (λ n r low left. agreed_at x m y f (heads_passes x m ran) ends quiet on told_last n low (goes n low) r left)
