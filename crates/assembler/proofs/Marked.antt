-- Places without a disk are marked on a pool's arrays, which stand since gates were closed, and tables were made to agree: what a stop leaves holds the pool.
use Rattle.std.proofs.Common.{◌≡◌, ℕ, ◌-◌, ◌<◌, ◌^◌, ◌&&◌, Bool, true, false, not, is_some, List, [], Option, Some, None, refl, sym, ap, ap₂, subst, ◌∙◌, inl, arith}
use Rattle.std.proofs.lemmas.Bool.{and_parts, both_ways}
use Rattle.rack.specs.Moments.{Leaves}
use Rattle.rack.specs.Seen.{Image, RackView}
use Rattle.rack.specs.Sequences.{OnlyReads, WritesOnly}
use Rattle.rack.specs.Values.{MayLeave, Values}
use Rattle.slice_rack.specs.Runs.{IsSliced}
use Rattle.slice_rack.specs.Slices.{IsOrderly, Slices, seat_of, sectors_of}
use Rattle.slice_rack.specs.Sliced.{IsInside, slices_of}
use Rattle.md_super.specs.declared.superblock.Super.{Super}
use Rattle.pool_state.specs.declared.contents.State.{State}
use Rattle.array_image.specs.Arrays.{Shape, replayed}
use Rattle.array_image.specs.Left.{IsLeft, reading}
use Rattle.array_image.specs.Places.{log_slice, place_of}
use Rattle.array_image.specs.Record.{pending}
use Rattle.array_image.specs.States.{is_current}
use Rattle.array_core.proofs.Stripped.{some_same}
use Rattle.array_model.proofs.Keeping.{live_after, live_on, reading_live, reading_outside}
use Rattle.array_model.proofs.Opening.{opens_holds}
use Rattle.array_model.specs.ArrayCalls.{IncludesSpent}
use Rattle.array_model.specs.View.{has_gone, sectors_of as sectors_in, shape_of}
use Rattle.log_laws.specs.Kept.{LogInvariant}
use Rattle.log_laws.specs.Saying.{HoldsCopies}
use Rattle.log_laws.specs.Standing.{LogsStand, deciding}
use Rattle.pool_image.specs.Alike.{IsSamePool}
use Rattle.pool_image.specs.Drives.{Found, slices_of as slices_found}
use Rattle.pool_image.specs.Meaning.{array_sectors, arrays_held, shape_of as shape_found, truth_of}
use Rattle.pool_image.specs.Volumes.{Arrays}
use Rattle.pool_image.proofs.Founds.{joined_same, super_same, truths_same}
use Rattle.raid_laws.specs.Book.{OnlyMarksSince}
use Rattle.raid_laws.specs.Laws.{live_parts}
use Rattle.raid_laws.specs.Moves.{IsTrackedInCall, IsSet, Mends, SubCall, ChangesNoData}
use Rattle.raid_laws.specs.Opening.{OpensRaid}
use Rattle.raid_laws.specs.Raid.{Raid, gone_in, held_in, is_failed, spent_of}
use Rattle.raid_laws.specs.Reach.{KeepsReach}
use Rattle.raid_laws.specs.Rows.{KeepsLacking}
use Rattle.raid_laws.specs.Since.{HoldsSince}
use Rattle.raid_laws.proofs.Noted.{current_few, gone_from}
use Rattle.raid_laws.proofs.Opening.{opened_amid}
use Rattle.raid_laws.proofs.Over.{number_room, someone_left}
use Rattle.pool_model.specs.Left.{NoStraySuperblock, IsPickOutsideSlices}
use Rattle.pool_model.specs.Openings.{HadOnePool, HaveOnePool, RecoversInOpening}
use Rattle.pool_model.specs.Stopped.{HaveTables}
use Rattle.pool_model.proofs.AbsentCopies.{absent_holds, absent_since}
use Rattle.pool_model.proofs.Amid.{IsReady}
use Rattle.pool_model.proofs.Current.{shape_truth}
use Rattle.pool_model.proofs.Found.{IsFound}
use Rattle.pool_model.proofs.LackingRows.{opened_lacking}
use Rattle.assembler_laws.specs.Holding.{HoldsArrays, IsArrayOf}
use Rattle.assembler.specs.Volume.{AllLive}
use Rattle.assembler.proofs.Absences.{marking_leaves}
use Rattle.assembler_laws.proofs.Closed.{StandOver}
use Rattle.assembler_laws.proofs.Founded.{array_same}
use Rattle.assembler.proofs.Mended.{reads_move}
use Rattle.assembler_laws.proofs.Shapes.{shape_left}

-- What slices read as now a stop may leave, so an array that was opened on them goes by its own shape.
left_now : (x : RackView) → IsLeft x (replayed x.sectors (reading x))
left_now x = (
  reading x,
  record { picks = λ d u live. inl (reading_live x d u live); inside = λ d u past. reading_outside x d u past },
  λ d u. refl,
)

durable_is : (v : Raid) (x : RackView) (n : ℕ) (vals : ℕ → Values) (spent : ℕ → Bool) → OpensRaid v x → n < v.state.joined → (amid : IsTrackedInCall v x n vals spent)
    → amid.durable ≡ shape_of (v.arrays n)
durable_is v x n vals spent opens joined amid =
    let r = replayed x.sectors (reading x) in
    some_same amid.durable (shape_of (v.arrays n))
    (sym (amid.stood.holds.shape.says r (left_now x)).shape_is
    ∙ ((opens_holds v.state (v.arrays n) x (opens.arrays n joined) spent).shape.says r (left_now x)).shape_is)

-- The arrays v of a pool e, which is f but for gates, stand over slices t as the disks b have them. Making tables agree has left the disks d since then, and the marks
-- that come now leave the disks z and the arrays w, of which no sector is spent.
module _ (e f : Found) (pool : IsSamePool f e) (t : Slices) (v w : Raid) (a : RackView) (b d z : RackView) (stand : StandOver f v (slices_of t b)) (set : IsSet v (slices_of t b))
    (reads : OnlyReads (slices_of t b) (slices_of t d)) (marks : Mends v w (slices_of t d) (slices_of t z)) (made : HoldsArrays f w a (slices_of t z)) (alive : AllLive w)
    (unseated : (p : ℕ) → gone_in v p ≡ true → seat_of t p ≡ None)
    (found : IsFound e) (stays_one : HadOnePool e → HaveOnePool e) (ready : IsReady e t v d) (same : v.state ≡ e.state) (have : HaveTables e)
    (alone : (i : Image) → IsPickOutsideSlices t d i → NoStraySuperblock e i) (orderly : IsOrderly t) (inside : IsInside t d) (lasting : d.lasting)
    (only : WritesOnly d z (IsSliced t)) (marks_are : (p : ℕ) → is_current w.state p ≡ (is_current e.state p && is_some (e.seats p))) (traced : d.traced) where
  abbrev before : RackView
  before = slices_of t b

  abbrev mid : RackView
  mid = slices_of t d

  abbrev after : RackView
  after = slices_of t z

  abbrev vals : ℕ → ℕ → Values
  vals n = held_in v before n

  -- ---- the arrays

  small : (n : ℕ) → n < e.state.made → n < f.state.joined
  small n low = (let all = ready.joined in let is = ap (λ (s : State). s.joined) pool.state in omega (arith, low, all, is))

  made_is : v.state.made ≡ e.state.made
  made_is = ap (λ (s : State). s.made) same

  joined_is : v.state.joined ≡ e.state.joined
  joined_is = ap (λ (s : State). s.joined) same

  low_made : (n : ℕ) → n < e.state.made → n < v.state.made
  low_made n low = (let is = made_is in omega (arith, low, is))

  low_joined : (n : ℕ) → n < e.state.made → n < v.state.joined
  low_joined n low = (let is = joined_is in let all = ready.joined in omega (arith, low, is, all))

  low_after : (n : ℕ) → n < e.state.made → n < w.state.joined
  low_after n low = (let is = marks.moves.book.same.joined in let less = low_joined n low in omega (arith, less, is))

  first : 0 < e.state.made
  first = (let least = ready.outset.made.0 in omega (arith, least))

  sizes : (n : ℕ) → n < e.state.made → sectors_in (w.arrays n) ≡ array_sectors e n
  sizes n low = made.sectors n (small n low) ∙ sym (ap (λ (k : Arrays). k.sectors n) (joined_same f e pool))

  goes : (n : ℕ) → n < e.state.made → is_failed w n ≡ false
  goes n low =
      let some : 0 < sectors_in (w.arrays n) = (let room = made.room n (small n low) in let is = made.sectors n (small n low) in omega (arith, room, is)) in
      (live_parts w n 0 (alive n 0 (low_after n low) some)).0

  covers : (n : ℕ) → IncludesSpent (w.arrays n) (spent_of w n)
  covers n y free = (live_parts w n y free).1

  part : (n : ℕ) → n < e.state.made → SubCall v w mid after n (vals n) (vals n) (spent_of w n)
  part n low = marks.moves.parts n (vals n) (spent_of w n) (low_joined n low) (low_made n low) (goes n low) (covers n)

  opened : (n : ℕ) → n < e.state.made → IsTrackedInCall v before n (vals n) (spent_of w n)
  opened n low = opened_amid v before n (spent_of w n) stand.opens (low_joined n low)

  still : (n : ℕ) → n < e.state.made → is_failed v n ≡ false
  still n low = marks.moves.still n (low_made n low) (goes n low)

  covers_still : (n : ℕ) → n < e.state.made → IncludesSpent (v.arrays n) (spent_of w n)
  covers_still n low y free = marks.moves.spent n y (low_made n low) (covers n y free)

  -- reads leave them as they stand
  read : ChangesNoData v v before mid
  read = reads_move v before mid set (low_made 0 first) reads

  part_read : (n : ℕ) → n < e.state.made → SubCall v v before mid n (vals n) (vals n) (spent_of w n)
  part_read n low = read.parts n (vals n) (spent_of w n) (low_joined n low) (low_made n low) (still n low) (covers_still n low)

  amid : (n : ℕ) → n < e.state.made → IsTrackedInCall v mid n (vals n) (spent_of w n)
  amid n low = (part_read n low).holds (opened n low)

  -- ---- members

  -- whoever has gone has no disk
  lost : (n : ℕ) → n < e.state.made → (p : ℕ) → (is_current v.state p && not (has_gone (v.arrays n) p)) ≡ false → (is_current e.state p && is_some (e.seats p)) ≡ false
  lost n low p is = of (is_current v.state p) (has_gone (v.arrays n) p) refl refl is
    where
      current : is_current e.state p ≡ is_current v.state p
      current = ap (λ (s : State). is_current s p) (sym same)

      of : (a b : Bool) → is_current v.state p ≡ a → has_gone (v.arrays n) p ≡ b → (a && not b) ≡ false → (is_current e.state p && is_some (e.seats p)) ≡ false
      of false b past gone none = ap (λ c. c && is_some (e.seats p)) (current ∙ past)
      of true false now still none = absurd (both_ways true none refl)
      of true true now gone none =
          let free : e.seats p ≡ None = sym (ready.slices.seats p) ∙ unseated p (gone_from v p n (current_few v.state p set.few now) (low_made n low) gone) in
          ap₂ (λ c o. c && is_some o) (current ∙ now) free

  shape_opened : (n : ℕ) (had : Shape) → n < e.state.made → shape_found e n ≡ Some had → had ≡ shape_of (v.arrays n)
  shape_opened n had low was =
      let by = shape_truth e.state (slices_found e) n (truth_of e n) had was in
      let most = ready.outset.made.1 in
      some_same had (shape_of (v.arrays n))
      (sym was
      ∙ shape_left e t ready.slices n (omega (arith, low, most)) by.0 v before
      (array_same e f n by.0 (v.arrays n) (λ p. sym (super_same f e pool n p)) (stand.arrays n by.0 (small n low) (sym (truths_same f e pool n) ∙ by.1)))
      (set.arrays n (low_made n low))
      (λ p is. ap (λ (s : State). is_current s p) (sym same) ∙ (and_parts (is_current v.state p) (not (has_gone (v.arrays n) p)) is).0)
      (lost n low) by.1)

  -- they count as far as in the pool
  members : (n : ℕ) (had : Shape) (low : n < e.state.made) → shape_found e n ≡ Some had → KeepsReach v.state had (amid n low).durable
  unfolding amid
  members n had low was =
      subst (λ (z : Shape). KeepsReach v.state z (amid n low).durable)
      (durable_is v before n (vals n) (spent_of w n) stand.opens (low_joined n low) (opened n low) ∙ sym (shape_opened n had low was)) ((part_read n low).reach (opened n low))

  -- with the rows left to resync that the pool's truths leave
  array_of : (n : ℕ) (u : Super) → n < e.state.made → truth_of e n ≡ Some u → IsArrayOf f n u (v.arrays n)
  array_of n u low truth = stand.arrays n u (small n low) (sym (truths_same f e pool n) ∙ truth)

  lacking : (n : ℕ) → n < e.state.made → KeepsLacking v w mid after n
  lacking n low =
      let one = ready.outset.truths n low in
      let left = opened_lacking v before n stand.opens (low_joined n low) (array_of n one.0 low one.1).young in
      marks.moves.lacking n (vals n) (spent_of w n) (low_joined n low) (low_made n low) (goes n low) (covers n) (amid n low)
      (read.lacking n (vals n) (spent_of w n) (low_joined n low) (low_made n low) (still n low) (covers_still n low) (opened n low) left).after

  -- ---- the log slices

  kept : LogInvariant v.state v.number (gone_in v) mid
  kept = (amid 0 first).stood.log

  none_gone : (p : ℕ) → gone_in v p ≡ true → sectors_of t (log_slice p) ≡ 0
  none_gone p gone =
      let at : place_of (log_slice p) ≡ p = omega arith in
      ready.slices.unseated (log_slice p) (ap e.seats at ∙ sym (ready.slices.seats p) ∙ unseated p gone)

  idle : (c : Image) → LogsStand mid c → pending (deciding c) c ≡ []
  idle c stands =
      stand.idle c (record {
        picks = λ p u live.
            let both = live_on set.lasting reads.stays live in
            (reads.keeps.held (log_slice p) u both).within (c (log_slice p) u) (stands.picks p u (live_after reads.stays both));
        inside = stands.inside;
      })

  copies : HoldsCopies v.state mid
  copies = absent_holds v.state v.number (gone_in v) mid kept none_gone idle

  since : HoldsSince v.state mid
  since = absent_since v.state v.number (gone_in v) mid kept none_gone idle

  -- ---- the pool

  means : (n y : ℕ) (u : List ℕ) → n < e.state.made → MayLeave (vals n y) u → u ≡ arrays_held e n y
  means n y u low may = stand.values n y u (small n low) may ∙ sym (ap (λ (k : Arrays). k.contents n y) (joined_same f e pool))

  live : (n y : ℕ) → n < e.state.made → y < array_sectors e n → spent_of w n y ≡ false
  live n y low within = alive n y (low_after n low) (subst (λ k. y < k) (sym (sizes n low)) within)

  room : w.state.epoch < 2 ^ 63 - 1
  room = (let most = (number_room w 0 (goes 0 first)).1 in omega (arith, most))

  someone : (s : State) → OnlyMarksSince v.state s → OnlyMarksSince s w.state → (p d : ℕ) × (is_current s p ≡ true) × (e.seats p ≡ Some d)
  someone s later sooner =
      let one = someone_left w 0 (goes 0 first) in
      let drive = some_drive (e.seats one.0) (and_parts (is_current e.state one.0) (is_some (e.seats one.0)) (sym (marks_are one.0) ∙ one.1)).1 in
      (one.0, drive.0, sooner.current one.0 one.1, drive.1)
    where
      some_drive : (o : Option ℕ) → is_some o ≡ true → (k : ℕ) × (o ≡ Some k)
      some_drive None is = absurd (both_ways false refl is)
      some_drive (Some k) is = (k, refl)

  pub marked_leaves : Leaves d z (RecoversInOpening e 0)
  marked_leaves =
      marking_leaves e t v w d z (spent_of w) vals found stays_one ready same have alone orderly inside lasting only part amid members means copies since room someone live
      (marks.moves.plan ∙ ap (λ (s : State). s.plan) same) marks_are
      (λ n u low truth. let of = array_of n u low truth in ((set.arrays n (low_made n low)).is_array, of.rows, of.young)) lacking traced
