-- While places without a disk are marked on a pool's arrays, what a stop leaves holds the pool.
use Rattle.std.proofs.Common.{◌≡◌, ℕ, ◌+◌, ◌-◌, ◌<◌, ◌≤◌, ◌^◌, ◌&&◌, Bool, false, true, if◌then◌else◌, List, [], is_some, Some, inl, refl, sym, ap, subst, ◌∙◌, le-ltb, arith}
use Rattle.rack.specs.Moments.{Leaves}
use Rattle.rack.specs.Seen.{Image, RackView}
use Rattle.rack.specs.Sequences.{WritesOnly}
use Rattle.rack.specs.Values.{MayLeave, Values}
use Rattle.slice_rack.specs.Runs.{IsSliced}
use Rattle.slice_rack.specs.Slices.{IsOrderly, Slices, disk_of, first_of, sectors_of}
use Rattle.slice_rack.specs.Sliced.{IsInside, sliced, slices_of}
use Rattle.md_super.specs.declared.superblock.Super.{Super}
use Rattle.pool_state.specs.declared.contents.State.{State}
use Rattle.array_image.specs.Arrays.{Shape, arrays_in, replayed, shape_in}
use Rattle.array_image.specs.States.{is_current}
use Rattle.array_core.proofs.Stripped.{some_same}
use Rattle.array_image.specs.SoundArray.{first_unsynced}
use Rattle.array_model.specs.View.{IsArray}
use Rattle.log_laws.specs.Saying.{HoldsCopies}
use Rattle.raid_laws.specs.Book.{OnlyMarksSince}
use Rattle.raid_laws.specs.Marking.{SaysBetween, TiedBetween}
use Rattle.raid_laws.specs.Moves.{IsTrackedInCall, SubCall}
use Rattle.raid_laws.specs.Raid.{Raid}
use Rattle.raid_laws.specs.Reach.{KeepsReach, reach_then}
use Rattle.raid_laws.specs.Since.{HoldsSince}
use Rattle.pool_image.specs.Drives.{Found}
use Rattle.pool_image.specs.Meaning.{array_sectors, arrays_held, shape_of, is_dirty_degraded, truth_of}
use Rattle.raid_laws.specs.Rows.{KeepsLacking}
use Rattle.pool_model.specs.Left.{NoStraySuperblock, NoStraySuperblockBy, IsPickOutsideSlices}
use Rattle.pool_model.specs.Openings.{HadOnePool, HaveOnePool, RecoversInOpening, IsUnsynced}
use Rattle.pool_model.specs.Stopped.{HaveTables, RecoversBetween, LieByTables, TellsStops}
use Rattle.pool_model.proofs.Amid.{IsReady, inside_of, nothing_past, off_amid, tables_amid, tables_lie}
use Rattle.pool_model.proofs.Found.{IsFound}
use Rattle.pool_model.proofs.LackingRows.{dirty_before}
use Rattle.pool_model.proofs.Marking.{marking_amid, parts_tell}
use Rattle.pool_model.proofs.Openings.{CountFrom, amid_opened}
use Rattle.assembler_laws.specs.Holding.{pool_values}
use Rattle.assembler_laws.proofs.Alone.{alone_stops}
use Rattle.assembler_laws.proofs.Amid.{says_only}
use Rattle.assembler.proofs.Moments.{says_values}

-- A part of an opening that moves no value, from the book v, whose state is the pool's, to w, by which just the places without a disk are marked. When it begins members count as far
-- as in the pool, and the arrays have the rows left to resync that the pool's truths leave; where a member is lacking the part leaves no others.
module _ (f : Found) (t : Slices) (v w : Raid) (x y : RackView) (spent : ℕ → ℕ → Bool) (vals : ℕ → ℕ → Values) (found : IsFound f) (stays_one : HadOnePool f → HaveOnePool f) (ready : IsReady f t v x) (same : v.state ≡ f.state)
    (have : HaveTables f) (alone : (i : Image) → IsPickOutsideSlices t x i → NoStraySuperblock f i) (orderly : IsOrderly t) (inside : IsInside t x) (lasting : x.lasting) (only : WritesOnly x y (IsSliced t))
    (parts : (n : ℕ) → n < f.state.made → SubCall v w (slices_of t x) (slices_of t y) n (vals n) (vals n) (spent n))
    (amid : (n : ℕ) → n < f.state.made → IsTrackedInCall v (slices_of t x) n (vals n) (spent n))
    (members : (n : ℕ) (before : Shape) (low : n < f.state.made) → shape_of f n ≡ Some before → KeepsReach v.state before (amid n low).durable)
    (means : (n s : ℕ) (u : List ℕ) → n < f.state.made → MayLeave (vals n s) u → u ≡ arrays_held f n s)
    (copies : HoldsCopies v.state (slices_of t x)) (since : HoldsSince v.state (slices_of t x)) (room : w.state.epoch < 2 ^ 63 - 1)
    (someone : (s : State) → OnlyMarksSince v.state s → OnlyMarksSince s w.state → (p d : ℕ) × (is_current s p ≡ true) × (f.seats p ≡ Some d))
    (live : (n s : ℕ) → n < f.state.made → s < array_sectors f n → spent n s ≡ false)
    (plan : w.state.plan ≡ f.state.plan) (marks : (p : ℕ) → is_current w.state p ≡ (is_current f.state p && is_some (f.seats p)))
    (arrays : (n : ℕ) (u : Super) → n < f.state.made → truth_of f n ≡ Some u → IsArray (v.arrays n) × ((v.arrays n).resync ≡ first_unsynced u) × ((v.arrays n).young ≡ false))
    (lacking : (n : ℕ) → n < f.state.made → KeepsLacking v w (slices_of t x) (slices_of t y) n) (traced : x.traced) where
  some : 0 < f.state.made
  some = (let made = ready.outset.made.0 in omega (arith, made))

  tells : TellsStops f.state.made v w (slices_of t x) (slices_of t y)
  tells = parts_tell f.state.made v w (slices_of t x) (slices_of t y) vals spent some parts amid copies since traced

  holds : Leaves x y (λ i. LieByTables f t v.state i → NoStraySuperblockBy v.state f i → RecoversBetween f t v.state w.state i)
  holds =
      marking_amid f t v w x y found ready same orderly inside lasting only
      (λ traced. parts_tell f.state.made v w (slices_of t x) (slices_of t y) vals spent some parts amid copies since traced) room someone traced

  lie : Leaves x y (LieByTables f t v.state)
  lie = tables_amid f t v.state x y lasting only (tables_lie f t v.state x have ready.slices ready.elsewhere) traced

  lone : Leaves x y (NoStraySuperblock f)
  lone = alone_stops f t x y lasting only alone traced

  module _ (k : ℕ) (i : Image) (late : x.clock < k) (early : k ≤ y.clock) (stop : y.stops k i) where
    abbrev r : Image
    r = replayed (sectors_of t) (sliced t i)

    -- by a state between the two contents say each array
    tied : (n : ℕ) (low : n < f.state.made) → TiedBetween v.state w.state (amid n low).durable ((parts n low).holds (amid n low)).durable n (vals n) (spent n) r
    tied n low =
        ((parts n low).leaves traced).new k (sliced t i) late early (i, stop, λ j u. refl)
        (λ j u past. ap (λ (b : Bool). if b then i (disk_of t j) (first_of t j + u) else []) (le-ltb u (sectors_of t j) past)) (amid n low)

    gives : (n s : ℕ) → n < f.state.made → 0 ≤ s → s < array_sectors f n → arrays_in r n s ≡ arrays_held f n s
    gives n s low least within =
        says_values f w.state n (spent n) r s
        (says_only f.state w.state n (vals n) (pool_values f n) (spent n) r (λ u value may. inl (means n u value low may))
        (subst (λ (z : State). SaysBetween z w.state n (vals n) (spent n) r) same (tied n low).says))
        (live n s low within)

    counted : CountFrom f r
    counted n s before left low was is there =
        let at = tied n low in
        let state : at.says.state ≡ s = some_same at.says.state s (sym at.says.is_state ∙ is) in
        let shape : at.says.shape ≡ left =
        some_same at.says.shape left (sym at.says.says.shape_is ∙ subst (λ (z : State). shape_in z r n ≡ Some left) (sym state) there) in
        subst (λ (z : State). KeepsReach z before left) state
        (reach_then (is_current v.state) (is_current at.says.state) before (amid n low).durable left at.says.later.current (members n before low was)
        (subst (KeepsReach at.says.state (amid n low).durable) shape at.from))

    between : RecoversBetween f t v.state w.state i
    between = holds.new k i late early stop (lie.new k i late early stop) (λ n p d first low counts. lone.new k i late early stop n p d first low)

    unsynced : (n : ℕ) → n < f.state.made → is_dirty_degraded between.still.now n ≡ true → IsUnsynced f n
    unsynced n low =
        let one = ready.outset.truths n low in
        let of = arrays n one.0 low one.1 in
        dirty_before f t between.state i between.still v n low one.0 one.1 (ready.geometry n one.0 low one.1).size of.1 of.2
        (record {
          is_array = of.0;
          frame = (tells.frames n low).new k (sliced t i) late early (i, stop, λ j u. refl) (nothing_past t i);
          from = λ young. ((lacking n low).leaves traced).new k (sliced t i) late early (i, stop, λ j u. refl) (nothing_past t i);
        })

    opened : RecoversInOpening f 0 i
    opened =
        (amid_opened f t v.state w.state 0 i ready.after plan marks gives counted ready.slices (inside_of f t x ready.disks inside)
        (ready.elsewhere i (off_amid t x y lasting only traced k i late early stop))
        (tells.since.new k (sliced t i) late early (i, stop, λ j u. refl) (nothing_past t i)) ready.outset stays_one between unsynced).0

  pub marking_leaves : Leaves x y (RecoversInOpening f 0)
  marking_leaves = record { later = holds.later; kept = holds.kept; past = holds.past; new = opened }
