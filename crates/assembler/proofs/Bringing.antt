-- While a volume is opened on a pool's arrays, and their texts are brought up to date, what a stop leaves holds the pool.
use Rattle.std.proofs.Common.{◌≡◌, ℕ, ◌<◌, ◌≤◌, ◌&&◌, false, is_some, length, List, Some, inl, inr, refl, sym, ap, subst, ◌∙◌, arith, true}
use Rattle.std.proofs.lemmas.Bool.{both_ways, cases_Bool}
use Rattle.rack.specs.Joins.{leaves_weaker}
use Rattle.rack.specs.Moments.{Leaves}
use Rattle.rack.specs.Seen.{Image, IsLive, RackView}
use Rattle.rack.specs.Sequences.{WritesOnly}
use Rattle.slice_rack.specs.Runs.{IsSliced}
use Rattle.slice_rack.specs.Slices.{IsOrderly, Slices, sectors_of}
use Rattle.slice_rack.specs.Sliced.{IsInside, sliced, slices_of}
use Rattle.slice_rack.specs.SliceRack.{below_of, tables}
use Rattle.pool_state.specs.declared.contents.State.{State}
use Rattle.array_image.specs.Arrays.{Shape, arrays_in, replayed}
use Rattle.array_image.specs.States.{is_current}
use Rattle.array_core.proofs.Stripped.{some_same}
use Rattle.array_model.specs.View.{sectors_of as sectors_in, shape_of}
use Rattle.pool_image.specs.Alike.{IsSamePool}
use Rattle.pool_image.specs.Disks.{disks_of}
use Rattle.pool_image.specs.Drives.{Found, found, slices_of as slices_found}
use Rattle.pool_image.specs.Meaning.{array_sectors, arrays_held, shape_of as shape_found, truth_of, is_dirty_degraded}
use Rattle.pool_image.specs.Volumes.{Arrays}
use Rattle.pool_image.proofs.Founds.{joined_same, super_same, truths_same}
use Rattle.raid_rack.specs.declared.arrays.RaidRack.{RaidRack}
use Rattle.raid_rack.specs.AllRuns.{AreCalls}
use Rattle.raid_laws.specs.Book.{OnlyMarksSince}
use Rattle.raid_laws.specs.Laws.{live_parts}
use Rattle.raid_laws.specs.Moves.{IsHeeded, IsSet}
use Rattle.raid_laws.specs.Raid.{Raid, is_failed}
use Rattle.raid_rack.specs.RaidRack.{raid_in, raid_seen, slices_in, slices_seen as slices_shown}
use Rattle.raid_laws.specs.Reach.{KeepsReach}
use Rattle.raid_laws.specs.Runs.{CrashInvariant}
use Rattle.raid_laws.specs.Since.{AreSince}
use Rattle.raid_rack.proofs.TruthAgrees.{truth_said}
use Rattle.raid_laws.proofs.Whole.{own_rows}
use Rattle.pool_model.specs.Left.{NoStraySuperblock, NoStraySuperblockBy, AreElsewhere, IsPickOutsideSlices}
use Rattle.pool_model.specs.Openings.{HadOnePool, HaveOnePool, RecoversInOpening, IsUnsynced}
use Rattle.pool_model.specs.Pools.{AreSlicesOf, IsSoundPool}
use Rattle.pool_model.specs.Reopening.{AreWholeSectors}
use Rattle.pool_model.specs.Stopped.{HaveTables, RecoversInCall, RecoversBetween, LieByTables}
use Rattle.pool_model.proofs.Amid.{IsReady, inside_of, moments_since, nothing_past, off_amid, ready_amid, tables_amid, tables_lie}
use Rattle.pool_model.proofs.Current.{shape_truth}
use Rattle.pool_model.proofs.Found.{found_is}
use Rattle.pool_model.proofs.Openings.{CountFrom, amid_opened}
use Rattle.pool_model.proofs.LackingRows.{dirty_before, leaves_lacking}
use Rattle.pool_model.proofs.Outset.{outset_of}
use Rattle.pool_model.proofs.Sectors.{still_sized}
use Rattle.assembler_laws.specs.Holding.{HoldsArrays}
use Rattle.assembler.specs.Volume.{AllLive}
use Rattle.assembler_laws.proofs.Alone.{alone_stops}
use Rattle.assembler_laws.proofs.Founded.{array_same}
use Rattle.assembler_laws.proofs.Shapes.{shape_heeded}

-- Contents hold the pool so, with what its slices give once the pending record is written, and in whole sectors where the disks' are.
pub record GivesOpened (e : Found) (t : Slices) (from : ℕ) (i : Image) : Type 0 where
  pub opened : RecoversInOpening e from i
  pub gives : (n x : ℕ) → n < e.state.made → arrays_held opened.now n x ≡ arrays_in (replayed (sectors_of t) (sliced t i)) n x
  pub whole : AreWholeSectors e.disks i → (n x : ℕ) → n < e.state.made → length (arrays_held opened.now n x) ≡ 512

-- The arrays `raid` were made over the slices t of a pool e, which is f at rest, all of them ready for the volume; calls from then on write no sector of the
-- arrays but before `from`, and in the end just the places without a disk are marked.
module _ {R : Type 0} (seen : R → RackView) (runs : R → R → Type 0) (e f : Found) (pool : IsSamePool e f) (a : RackView) (raid last : RaidRack R)
    (holds : HoldsArrays f (raid_in raid) a (slices_shown seen raid)) (alive : AllLive (raid_in last)) (kept : AreCalls seen runs raid last)
    (from : ℕ) (may : ℕ → ℕ → List ℕ → Type 0) (writes : WritesOnly (raid_seen seen raid) (raid_seen seen last) may) (low_only : (n x : ℕ) (v : List ℕ) → may n x v → x < from)
    (ready : (raid_in raid).state.joined ≤ (raid_in raid).state.made) (all : e.state.joined ≡ e.state.made)
    (before : Image) (found_before : found (disks_of (seen (below_of (slices_in raid)))) before ≡ Some e) (sound : IsSoundPool e) (stays_one : HadOnePool e → HaveOnePool e)
    (slices : AreSlicesOf e (tables (slices_in raid))) (have : HaveTables e)
    (elsewhere : (i : Image) → IsPickOutsideSlices (tables (slices_in raid)) (seen (below_of (slices_in raid))) i → AreElsewhere e i)
    (alone : (i : Image) → IsPickOutsideSlices (tables (slices_in raid)) (seen (below_of (slices_in raid))) i → NoStraySuperblock e i)
    (marks : (p : ℕ) → is_current (raid_in last).state p ≡ (is_current e.state p && is_some (e.seats p)))
    (set : IsSet (raid_in raid) (slices_shown seen raid)) (heeded : IsHeeded (raid_in raid))
    (orderly : IsOrderly (tables (slices_in raid))) (inside : IsInside (tables (slices_in raid)) (seen (below_of (slices_in raid))))
    (lasting : (seen (below_of (slices_in raid))).lasting)
    (only : WritesOnly (seen (below_of (slices_in raid))) (seen (below_of (slices_in last))) (IsSliced (tables (slices_in raid))))
    (traced : (seen (below_of (slices_in raid))).traced) where
  abbrev t : Slices
  t = tables (slices_in raid)

  abbrev v : Raid
  v = raid_in raid

  abbrev w : Raid
  w = raid_in last

  abbrev z : RackView
  z = seen (below_of (slices_in raid))

  abbrev y : RackView
  y = seen (below_of (slices_in last))

  there : tables (slices_in last) ≡ t
  there = kept.0.tables

  joined_is : f.state.joined ≡ e.state.joined
  joined_is = ap (λ (s : State). s.joined) pool.state

  small : (n : ℕ) → n < e.state.made → n < f.state.joined
  small n low = omega (arith, low, all, joined_is)

  few : f.state.joined ≤ w.state.made
  few = (let one = holds.after.same.joined in let two = kept.1.book.same.made in omega (arith, one, two, ready))

  now_low : (n : ℕ) → n < f.state.joined → n < w.state.joined
  now_low n low = subst (λ k. n < k) (sym (kept.1.book.same.joined ∙ holds.after.same.joined)) low

  sizes : (n : ℕ) → n < f.state.joined → sectors_in (w.arrays n) ≡ array_sectors f n
  sizes n low = kept.2.sectors n ∙ holds.sectors n low

  size_same : (n : ℕ) → array_sectors f n ≡ array_sectors e n
  size_same n = ap (λ (k : Arrays). k.sectors n) (joined_same e f pool)

  lasts : (n : ℕ) → n < e.state.made → is_failed w n ≡ false
  lasts n low =
      let less = small n low in
      let some : 0 < sectors_in (w.arrays n) = (let room = holds.room n less in let is = sizes n less in omega (arith, room, is)) in
      (live_parts w n 0 (alive n 0 (now_low n less) some)).0

  begun : OnlyMarksSince e.state v.state
  begun = subst (λ (s : State). OnlyMarksSince s v.state) pool.state holds.after

  is_ready : IsReady e t v z
  is_ready =
      let at = found_is (disks_of z) before e found_before in
      record {
        disks = at.1;
        outset = outset_of e at.0 sound;
        slices = slices;
        after = begun;
        joined = all;
        geometry = λ n u low truth. (holds.arrays n u (small n low) (truths_same e f pool n ∙ truth)).geometry;
        elsewhere = elsewhere;
      }

  moments : CrashInvariant v w (slices_of t z) (slices_of t y)
  moments = subst (λ (u : Slices). CrashInvariant v w (slices_of t z) (slices_of u y)) there kept.1.moments

  -- a place that isn't current has no disk, or wasn't before
  lost : (p : ℕ) → is_current v.state p ≡ false → (is_current e.state p && is_some (e.seats p)) ≡ false
  lost p past =
      sym (marks p)
      ∙ elim (cases_Bool (is_current w.state p)) [
        | inl now ↦ absurd (both_ways (is_current v.state p) past (kept.1.book.current p now))
        | inr gone ↦ gone
      ]

  -- an array that was made has the shape that the pool gives it
  shape_made : (n : ℕ) (had : Shape) → n < e.state.made → shape_found e n ≡ Some had → had ≡ shape_of (v.arrays n)
  shape_made n had low was =
      let less = small n low in
      let by = shape_truth e.state (slices_found e) n (truth_of e n) had was in
      let most = is_ready.outset.made.1 in
      let there : n < v.state.made = (let made = begun.same.made in omega (arith, low, made)) in
      some_same had (shape_of (v.arrays n))
      (sym was
      ∙ shape_heeded e t slices n (omega (arith, low, most)) by.0 v (slices_shown seen raid)
      (array_same e f n by.0 (v.arrays n) (super_same e f pool n) (holds.arrays n by.0 less (truths_same e f pool n ∙ by.1)))
      (set.arrays n there) (heeded n there) begun.current lost by.1)

  amid : Leaves z y (λ i. LieByTables e t v.state i → NoStraySuperblockBy v.state e i → RecoversInCall e t v.state w.state i)
  amid = ready_amid e t v w z y is_ready orderly inside lasting only moments (λ n low. holds.told n (small n low)) lasts traced

  lie : Leaves z y (LieByTables e t v.state)
  lie = tables_amid e t v.state z y lasting only (tables_lie e t v.state z have slices elsewhere) traced

  lone : Leaves z y (NoStraySuperblock e)
  lone = alone_stops e t z y lasting only alone traced

  module _ (k : ℕ) (i : Image) (late : z.clock < k) (early : k ≤ y.clock) (stop : y.stops k i) where
    value_in : (u : Slices) → u ≡ tables (slices_in last) → (n x : ℕ) → n < e.state.made → from ≤ x → x < array_sectors e n
        → arrays_in (replayed (sectors_of u) (sliced u i)) n x ≡ arrays_held e n x
    value_in u is n x low behind within =
        let less = small n low in
        let here : x < sectors_in (w.arrays n) = (let one = sizes n less in let two = size_same n in omega (arith, one, two, within)) in
        let unspent = alive n x (now_low n less) here in
        let live : IsLive (raid_seen seen raid) (raid_seen seen last) n x = record {
          disk = (let most = few in omega (arith, most, less));
          sector = here;
          is_told = holds.told n less;
          unspent = unspent;
        } in
        ap (λ (s : Slices). arrays_in (replayed (sectors_of s) (sliced s i)) n x) is
        ∙ elim ((writes.stops traced).new k (arrays_in (replayed (sectors_of (tables (slices_in last))) (sliced (tables (slices_in last)) i))) late early
        (sliced (tables (slices_in last)) i, (i, stop, λ j v. refl), λ j v. refl) n x live) [
          | inl left ↦ holds.values n x (arrays_in (replayed (sectors_of (tables (slices_in last))) (sliced (tables (slices_in last)) i)) n x) less (writes.stays.spent n x unspent) left
          | inr before ↦ absurd (let early = low_only n x _ before in omega (arith, early, behind))
        ]
        ∙ ap (λ (k : Arrays). k.contents n x) (joined_same e f pool)

    counted : CountFrom e (replayed (sectors_of t) (sliced t i))
    counted n s had left low was is there =
        subst (λ (u : Shape). KeepsReach s u left) (sym (shape_made n had low was))
        ((moments.reach n (holds.told n (small n low)) (lasts n low) traced).new k (sliced t i) late early (i, stop, λ j u. refl) s left is there).0

    between : RecoversBetween e t v.state w.state i
    between = (amid.new k i late early stop (lie.new k i late early stop) (λ n p d first low counts. lone.new k i late early stop n p d first low)).between

    now_made : (n : ℕ) → n < e.state.made → n < between.still.now.state.made
    now_made n low =
        let same = ap (λ (s : State). s.made) between.still.state in
        let later = between.later.same.made in
        let made = begun.same.made in
        omega (arith, low, same, later, made)

    since : AreSince v.state (sectors_of t) (sliced t i)
    since =
        let first : 0 < e.state.made = (let least = is_ready.outset.made.0 in omega (arith, least)) in
        ((moments_since v w (slices_of t z) (slices_of t y) moments (holds.told 0 (small 0 first)) (lasts 0 first)).leaves traced).new k (sliced t i) late early
        (i, stop, λ j u. refl) (nothing_past t i)

    -- an array that lacks a member has no rows left to resync but those of its book, which the pool's truth leaves
    unsynced : (n : ℕ) → n < e.state.made → is_dirty_degraded between.still.now n ≡ true → IsUnsynced e n
    unsynced n low =
        let less = small n low in
        let joined = holds.after.same.joined in
        let here : n < v.state.made = omega (arith, less, joined, ready) in
        let one = is_ready.outset.truths n low in
        let of = holds.arrays n one.0 less (truths_same e f pool n ∙ one.1) in
        let told = holds.told n less in
        let goes = moments.still n (lasts n low) in
        let left =
        leaves_lacking v (slices_of t z) n told goes (λ r at. truth_said v (slices_of t z) n set heeded here told goes (holds.truths n less goes) r at)
        (own_rows v (slices_of t z) n set heeded here) of.young in
        dirty_before e t between.state i between.still v n low one.0 one.1 of.geometry.size of.rows of.young
        (record {
          is_array = (set.arrays n here).is_array;
          frame = (moments.frames n told (lasts n low) traced).new k (sliced t i) late early (i, stop, λ j u. refl);
          from = λ young. ((moments.lacking n told (lasts n low) left).leaves traced).new k (sliced t i) late early (i, stop, λ j u. refl) (nothing_past t i);
        })

    opened : GivesOpened e t from i
    opened =
        let one =
        amid_opened e t v.state w.state from i begun (kept.2.plan ∙ holds.plan ∙ ap (λ (s : State). s.plan) pool.state) marks (value_in t (sym there)) counted slices (inside_of e t z is_ready.disks inside)
        (elsewhere i (off_amid t z y lasting only traced k i late early stop)) since is_ready.outset stays_one between unsynced in
        record {
          opened = one.0;
          gives = λ n x low. ap (λ (h : Found). arrays_held h n x) one.1 ∙ between.still.values n x low;
          whole = λ sized n x low.
              ap (λ (h : Found). length (arrays_held h n x)) one.1
              ∙ still_sized e t between.state i between.still (inside_of e t z is_ready.disks inside) sized n (now_made n low) x;
        }

  pub bringing_gives : Leaves z y (GivesOpened e t from)
  bringing_gives = record { later = amid.later; kept = amid.kept; past = amid.past; new = opened }

  pub bringing_leaves : Leaves z y (RecoversInOpening e from)
  bringing_leaves = leaves_weaker (GivesOpened e t from) (RecoversInOpening e from) (λ i gives. gives.opened) bringing_gives
