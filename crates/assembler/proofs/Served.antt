-- Arrays that were made over the slices of a pool, and only read after that, serve it: they hold what the pool's do.
use Rattle.std.proofs.Common.{◌≡◌, ℕ, ◌<◌, ◌≤◌, true, false, ◌&&◌, is_some, length, Option, Some, sym, ap, subst, ◌∙◌, arith}
use Rattle.std.specs.Option.{option_map_or}
use Rattle.std.proofs.lemmas.Bool.{and_parts}
use Rattle.arrayvec.specs.ArrayVec.{ArrayVec}
use Rattle.rack.specs.Seen.{Image, IsLive, RackView}
use Rattle.rack.specs.Sequences.{OnlyReads}
use Rattle.slice_rack.specs.Slices.{Slices}
use Rattle.pool_state.specs.declared.contents.State.{State}
use Rattle.md_super.specs.declared.superblock.Super.{Super}
use Rattle.array_image.specs.Arrays.{place_with}
use Rattle.array_image.specs.Left.{IsLeft}
use Rattle.array_image.specs.States.{is_current}
use Rattle.array_image.specs.Supers.{is_named, is_unclean, super_in}
use Rattle.array_core.specs.Model.{is_truth}
use Rattle.array_core.proofs.Truths.{truth_facts}
use Rattle.array_model.specs.View.{sectors_of as sectors_in, shape_of}
use Rattle.pool_image.specs.Alike.{IsSamePool}
use Rattle.pool_image.specs.Drives.{Found}
use Rattle.pool_image.specs.Meaning.{array_sectors, arrays_held, shape_of as shape_found, truth_of}
use Rattle.pool_image.specs.Volumes.{Arrays}
use Rattle.pool_image.proofs.Founds.{joined_same, super_same, truths_same}
use Rattle.raid_rack.specs.declared.arrays.RaidRack.{RaidRack}
use Rattle.raid_laws.specs.Agreeing.{SupersAgree}
use Rattle.raid_rack.specs.AllRuns.{AreCalls}
use Rattle.raid_laws.specs.Book.{OnlyMarksSince, after_then}
use Rattle.raid_laws.specs.Cleaning.{NoneFails}
use Rattle.raid_laws.specs.Laws.{live_parts}
use Rattle.raid_laws.specs.Raid.{Raid, is_failed}
use Rattle.raid_rack.specs.RaidRack.{IsFit, arrays_in, raid_in, raid_seen, slices_seen, written_in}
use Rattle.raid_rack.proofs.AgreeStill.{agree_spared, truth_spared}
use Rattle.pool_model.specs.Left.{IsServed, LeavesClean}
use Rattle.pool_model.specs.Pools.{AreSlicesOf}
use Rattle.pool_model.proofs.Refused.{HoldSupers}
use Rattle.pool_model.proofs.Roles.{placed_position}
use Rattle.pool_model.proofs.Values.{HoldValues}
use Rattle.assembler_laws.specs.Holding.{HoldsArrays}
use Rattle.assembler.specs.Volume.{AllLive, AreStill}
use Rattle.assembler_laws.proofs.Clean.{earlier_told}
use Rattle.assembler_laws.proofs.Founded.{array_later, array_same}
use Rattle.assembler_laws.proofs.Shapes.{shape_heeded}

module _ {R : Type 0} (seen : R → RackView) (runs : R → R → Type 0) (e f : Found) (pool : IsSamePool e f) (a : RackView) (raid last : RaidRack R)
    (kept : AreCalls seen runs raid last) (holds : HoldsArrays f (raid_in raid) a (slices_seen seen raid)) (alive : AllLive (raid_in last))
    (ready : (raid_in raid).state.joined ≤ (raid_in raid).state.made) where
  abbrev v : Raid
  v = raid_in last

  abbrev y : RackView
  y = slices_seen seen last

  low_of : (n : ℕ) → n < e.state.joined → n < f.state.joined
  low_of n low = subst (λ (s : State). n < s.joined) (sym pool.state) low

  now_low : (n : ℕ) → n < f.state.joined → n < v.state.joined
  now_low n low = subst (λ k. n < k) (sym (kept.1.book.same.joined ∙ holds.after.same.joined)) low

  made_low : (n : ℕ) → n < f.state.joined → n < (raid_in raid).state.made
  made_low n low = (let joined = holds.after.same.joined in omega (arith, low, joined, ready))

  sizes : (n : ℕ) → n < f.state.joined → sectors_in (v.arrays n) ≡ array_sectors f n
  sizes n low = kept.2.sectors n ∙ holds.sectors n low

  lasts : (n : ℕ) → n < f.state.joined → is_failed v n ≡ false
  lasts n low =
      let some : 0 < sectors_in (v.arrays n) = (let room = holds.room n low in let is = sizes n low in omega (arith, room, is)) in
      (live_parts v n 0 (alive n 0 (now_low n low) some)).0

  pub later : OnlyMarksSince e.state v.state
  later = after_then e.state (raid_in raid).state v.state (subst (λ (s : State). OnlyMarksSince s (raid_in raid).state) pool.state holds.after) kept.1.book

  pub served : (t : Slices) → AreSlicesOf e t → e.state.joined ≡ e.state.made → IsServed e t v y
  served t lie all = record {
    slices = lie;
    after = later;
    joined = all;
    told = λ n low. kept.1.moments.told n (holds.told n (ready_low n low));
    lasts = λ n low. lasts n (ready_low n low);
    geometry = λ n u low truth.
        let less = ready_low n low in
        (array_later f n u ((raid_in raid).arrays n) (v.arrays n) (holds.arrays n u less (truths_same e f pool n ∙ truth)) (kept.2.arrays n (made_low n less))).geometry;
  }
    where
      ready_low : (n : ℕ) → n < e.state.made → n < f.state.joined
      ready_low n low = low_of n (subst (λ k. n < k) (sym all) low)

  -- where just the drives without a disk are marked they have the shapes of the pool's
  pub shapes_kept : (t : Slices) → AreSlicesOf e t → e.state.joined ≤ 16 → ((n : ℕ) → n < e.state.joined → (u : Super) × (truth_of e n ≡ Some u)) → IsFit (arrays_in last) y
      → ((p : ℕ) → is_current v.state p ≡ (is_current e.state p && is_some (e.seats p)))
      → (n : ℕ) → n < e.state.joined → shape_found e n ≡ Some (shape_of (v.arrays n))
  shapes_kept t lie few truths fit marks n low =
      let less = low_of n low in
      let made = made_low n less in
      let one = truths n low in
      let there : n < v.state.made = subst (λ k. n < k) (sym kept.1.book.same.made) made in
      shape_heeded e t lie n (omega (arith, low, few)) one.0 v y
      (array_same e f n one.0 (v.arrays n) (super_same e f pool n)
      (array_later f n one.0 ((raid_in raid).arrays n) (v.arrays n) (holds.arrays n one.0 less (truths_same e f pool n ∙ one.1)) (kept.2.arrays n made)))
      (fit.running.set.arrays n there) (fit.heeded n there) (λ p is. (and_parts (is_current e.state p) (is_some (e.seats p)) (sym (marks p) ∙ is)).0)
      (λ p is. sym (marks p) ∙ is) one.1

  -- and while they were only read they hold what they held
  pub values_kept : OnlyReads (raid_seen seen raid) (raid_seen seen last)
      → ((n : ℕ) → n < e.state.joined → shape_found e n ≡ Some (shape_of (v.arrays n))) → HoldValues e v y
  values_kept reads shapes = record {
    live = λ n x low inside. alive n x (now_low n (low_of n low)) inside;
    sectors = λ n low. sizes n (low_of n low) ∙ sectors_same n;
    values = λ n x u low inside live may.
        let less = low_of n low in
        let there : x < sectors_in (v.arrays n) = subst (λ k. x < k) (sym (sizes n less ∙ sectors_same n)) inside in
        let is_live : IsLive (raid_seen seen raid) (raid_seen seen last) n x = record {
          disk = (let made = kept.1.book.same.made in let most = made_low n less in omega (arith, made, most));
          sector = there;
          is_told = holds.told n less;
          unspent = live;
        } in
        holds.values n x u less (reads.stays.spent n x live) ((reads.keeps.held n x is_live).within u may) ∙ held_same n x;
    whole = λ n x low. subst (λ xs. length xs ≡ 512) (held_same n x) (holds.whole n x (low_of n low));
    room = λ n low. (let room = holds.room n (low_of n low) in let same = sectors_same n in omega (arith, room, same));
    shapes = shapes;
  }
    where
      sectors_same : (n : ℕ) → array_sectors f n ≡ array_sectors e n
      sectors_same n = ap (λ (k : Arrays). k.sectors n) (joined_same e f pool)

      held_same : (n x : ℕ) → arrays_held f n x ≡ arrays_held e n x
      held_same n x = ap (λ (k : Arrays). k.contents n x) (joined_same e f pool)

  -- nor are their superblocks others, where no drive refused a call
  module _ (before : IsFit (arrays_in raid) (slices_seen seen raid)) (still : AreStill seen raid last) (fresh : (n : ℕ) → written_in raid n ≡ false)
      (none : NoneFails (slices_seen seen raid) y) where
    module _ (n : ℕ) (low : n < f.state.joined) where
      goes : is_failed (raid_in raid) n ≡ false
      goes = kept.1.moments.still n (lasts n low)

      agree : (r : Image) → IsLeft y r → SupersAgree v.state r n
      agree =
          agree_spared (written_in raid) (written_in last) (raid_in raid) v (slices_seen seen raid) y before.running.set before.heeded still.fit.heeded kept.1 still.spares none
          n (made_low n low) (still.unwritten n ∙ fresh n) (holds.told n low) (lasts n low) (holds.agree n low goes)

      clean : (r : Image) → IsLeft y r → LeavesClean f v.state n r
      clean r left t u truth whole is =
          truth_spared (written_in raid) (written_in last) (raid_in raid) v (slices_seen seen raid) y before.running.set before.heeded still.fit.heeded kept.1 still.spares none
          n (made_low n low) (still.unwritten n ∙ fresh n) (holds.told n low) (lasts n low) (λ z. is_unclean z ≡ false)
          (λ i there z at. holds.clean n low goes i there t z truth whole at) r left u is

      there : (t : Super) → truth_of f n ≡ Some t → is_truth t ≡ true → (p : ℕ) (r : Image) → is_current v.state p ≡ true → is_named t p ≡ true → IsLeft y r
          → is_some (super_in v.state r n p) ≡ true
      there t truth usable p r current named left =
          let facts = truth_facts t usable in
          let at = placed_position t p facts.positions facts.few named in
          let agrees = agree r left in
          let earlier = earlier_told v y n (kept.1.moments.told n (holds.told n low)) (lasts n low) r left agrees.truth agrees.leads in
          let of = array_later f n t ((raid_in raid).arrays n) (v.arrays n) (holds.arrays n t low truth) (kept.2.arrays n (made_low n low)) in
          let disks : agrees.truth.raid_disks ≡ t.raid_disks = ap (λ (z : Super). z.raid_disks) earlier.fields ∙ of.geometry.disks in
          let roles : agrees.truth.roles ≡ t.roles = ap (λ (z : Super). z.roles) earlier.fields ∙ of.geometry.roles in
          agrees.there at.0 p (let below = at.1 in omega (arith, below, disks)) (ap (λ (k : ArrayVec ℕ). place_with k.items at.0) roles ∙ at.2) current

    pub supers_kept : ((n : ℕ) (t : Super) → n < f.state.joined → truth_of f n ≡ Some t → is_truth t ≡ true)
        → ((n : ℕ) → n < e.state.joined → (u : Super) × (truth_of e n ≡ Some u)) → HoldSupers e v y
    supers_kept usable truths = record {
      there = λ n p r low current member left.
          let less = low_of n low in
          let one = truths n low in
          let truth = truths_same e f pool n ∙ one.1 in
          there n less one.0 truth (usable n one.0 less truth) p r current (sym (ap (λ (o : Option Super). option_map_or (λ z. is_named z p) o false) one.1) ∙ member) left;
      clean = λ n r low left t u truth whole is. clean n (low_of n low) r left t u (truths_same e f pool n ∙ truth) whole is;
    }
