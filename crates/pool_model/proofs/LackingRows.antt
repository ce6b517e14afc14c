-- Of an array that lacks a member what stops leave has no rows to resync but those that are left by the run's book: between calls, and inside them those that were left before.
use Rattle.std.proofs.Common.{◌≡◌, ℕ, ◌<◌, ◌≤◌, ◌/◌, ◌&&◌, Bool, true, false, nat_lt, if◌then◌else◌, Option, Some, None, refl, sym, ap, ap₂, subst, ◌∙◌, inl, inr, ltb-true, arith}
use Rattle.std.specs.Option.{option_map_or}
use Rattle.std.proofs.lemmas.Bool.{and_parts, both_ways, cases_Bool}
use Rattle.rack.specs.Seen.{Image, RackView}
use Rattle.rack.specs.Values.{Values}
use Rattle.slice_rack.specs.Slices.{Slices, sectors_of}
use Rattle.slice_rack.specs.Sliced.{sliced}
use Rattle.md_super.specs.declared.superblock.Super.{Super}
use Rattle.pool_state.specs.declared.contents.State.{State}
use Rattle.array_image.specs.Arrays.{Shape, replayed, shape_in}
use Rattle.array_image.specs.Left.{IsLeft}
use Rattle.array_image.specs.Places.{log_slice}
use Rattle.array_image.specs.SoundArray.{array_fields, first_unsynced}
use Rattle.array_image.specs.States.{state_in}
use Rattle.array_image.specs.Supers.{is_unclean, truth_in}
use Rattle.array_image.proofs.Frames.{state_same}
use Rattle.array_core.proofs.Stripped.{some_same}
use Rattle.array_model.specs.View.{IsArray, View, is_whole_array, rows_of, shape_of as shape_by_book}
use Rattle.array_model.proofs.Opening.{truth_now}
use Rattle.pool_image.specs.Alike.{IsSamePool}
use Rattle.pool_image.specs.Drives.{Found}
use Rattle.pool_image.specs.Meaning.{is_dirty_degraded, lacking_of, shape_of, truth_of}
use Rattle.pool_image.proofs.Founds.{shapes_same, truths_same}
use Rattle.raid_laws.specs.Agreeing.{HasOwnRows, SayTruth}
use Rattle.raid_laws.specs.Frames.{Frame, HasFrame, frame_of}
use Rattle.raid_laws.specs.Laws.{stood_left}
use Rattle.raid_laws.specs.Moves.{IsTrackedInCall}
use Rattle.raid_laws.specs.Opening.{OpensRaid}
use Rattle.raid_laws.specs.Raid.{IsTracked, Raid, InvariantInCall, gone_in, held_in, is_failed, spent_of}
use Rattle.raid_laws.specs.Rows.{LackingFrom, LeavesLacking}
use Rattle.raid_laws.proofs.LackingRows.{whole_lacks}
use Rattle.raid_laws.proofs.Opening.{opened_amid}
use Rattle.pool_model.specs.Left.{Recovers}
use Rattle.pool_model.specs.Openings.{IsUnsynced}

-- ---- by the book

-- Where an array lacks a member and isn't young, a superblock with the fields of its truth leaves just its rows to resync.
own_left : (v : View) (u : Super) → HasOwnRows v → array_fields u ≡ array_fields v.truth → 0 < lacking_of (shape_by_book v) → v.young ≡ false → first_unsynced u ≡ v.resync
own_left v u own fields lacks young = elim (cases_Bool (is_whole_array v)) [
  | inl whole ↦ (let none = whole_lacks v own.is_array whole in absurd (omega (arith, lacks, none)))
  | inr not_whole ↦ ap (λ (z : Super). first_unsynced z) fields ∙ own.rows young not_whole
]

-- An unclean superblock of the array's size that leaves no rows to resync but the array's: so there are such ones.
unclean_rows : (v : View) (u : Super) → IsArray v → u.size ≡ v.truth.size → is_unclean u ≡ true → v.resync ≤ first_unsynced u → v.resync < rows_of v
unclean_rows v u is_array size unclean from =
    let first : v.resync ≤ u.resync_offset / 128 = subst (λ (b : Bool). v.resync ≤ (if b then u.resync_offset / 128 else u.size / 128)) unclean from in
    let low = ltb-true u.resync_offset u.size unclean in
    let rows = is_array.whole_rows in
    omega (arith, first, low, rows, size)

-- An array that lacks a member and isn't young has rows left to resync, where a superblock with the fields of its truth is unclean.
pub lacks_rows : (v : View) (u : Super) → HasOwnRows v → array_fields u ≡ array_fields v.truth → is_unclean u ≡ true → 0 < lacking_of (shape_by_book v) → v.young ≡ false → v.resync < rows_of v
lacks_rows v u own fields unclean lacks young =
    let left = own_left v u own fields lacks young in
    unclean_rows v u own.is_array (ap (λ (z : Super). z.size) fields) unclean (omega (arith, left))

-- ---- between calls

-- what is left of slices on which an array stands has its state
left_state : (s : State) (durable : Shape) (vals : ℕ → Values) (spent gone : ℕ → Bool) (v : Raid) (x : RackView) (n : ℕ) → InvariantInCall s durable vals spent gone v x n
    → (r : Image) → IsLeft x r → state_in r ≡ Some s
left_state s durable vals spent gone v x n stood r left =
    state_same r (replayed x.sectors left.0) (λ place. left.2 (log_slice place) 0)
    ∙ (stood_left s durable vals spent gone v x n left.0 stood left.1).0

-- So it is with whatever is left of an array that is told, by superblocks that say its truth.
pub leaves_lacking : (v : Raid) (x : RackView) (n : ℕ) → IsTracked v x n → is_failed v n ≡ false → ((r : Image) → IsLeft x r → SayTruth (v.arrays n) v.state r n)
    → HasOwnRows (v.arrays n) → (v.arrays n).young ≡ false → LeavesLacking v x n
leaves_lacking v x n told goes truths own young = record { young = young; images = images }
  where
    book : Shape
    book = shape_by_book (v.arrays n)

    stood : InvariantInCall v.state (shape_by_book (v.arrays n)) (held_in v x n) (spent_of v n) (λ place. false) v x n
    stood = told.stood goes

    images : (r : Image) → IsLeft x r → LackingFrom (v.arrays n).resync n r
    images r left s shape t state is lacks truth =
        let same : s ≡ v.state = some_same s v.state (sym state ∙ left_state v.state book (held_in v x n) (spent_of v n) (λ place. false) v x n stood r left) in
        let is_book : shape_in v.state r n ≡ Some book = subst (λ k. shape_in v.state r k ≡ Some book) stood.number (stood.holds.shape.says r left).shape_is in
        let here : shape ≡ book = some_same shape book (sym (subst (λ (z : State). shape_in z r n ≡ Some shape) same is) ∙ is_book) in
        let fields = (truths r left).fields t (subst (λ (z : State). truth_in z r n ≡ Some t) same truth) in
        let rows = own_left (v.arrays n) t own fields (subst (λ (z : Shape). 0 < lacking_of z) here lacks) young in
        omega (arith, rows)

-- Also of arrays as they are opened on slices at rest.
pub opened_lacking : (v : Raid) (x : RackView) (n : ℕ) → OpensRaid v x → n < v.state.joined → (v.arrays n).young ≡ false → LeavesLacking v x n
opened_lacking v x n opens joined young = record { young = young; images = images }
  where
    amid : IsTrackedInCall v x n (held_in v x n) (λ y. true)
    amid = opened_amid v x n (λ y. true) opens joined

    images : (r : Image) → IsLeft x r → LackingFrom (v.arrays n).resync n r
    images r left s shape t state is lacks truth =
        let array = opens.arrays n joined in
        let same : s ≡ v.state = some_same s v.state (sym state ∙ left_state v.state amid.durable (held_in v x n) (λ y. true) (gone_in v) v x n amid.stood r left) in
        let own : truth_in v.state r n ≡ Some (v.arrays n).truth =
        subst (λ k. truth_in v.state r k ≡ Some (v.arrays n).truth) (opens.numbers n joined) (truth_now v.state (v.arrays n) x array r left) in
        let here : (v.arrays n).truth ≡ t = some_same (v.arrays n).truth t (sym own ∙ subst (λ (z : State). truth_in z r n ≡ Some t) same truth) in
        subst (λ (z : Super). (v.arrays n).resync ≤ first_unsynced z) here array.resync

-- ---- a pool that is found

-- an array that is dirty-degraded has rows left to resync
pub dirty_unsynced : (g : Found) (n : ℕ) → is_dirty_degraded g n ≡ true → IsUnsynced g n
dirty_unsynced g n dirty =
    (and_parts (option_map_or (λ shape. nat_lt 0 (lacking_of shape)) (shape_of g n) false) _ (and_parts (nat_lt n g.state.joined) _ dirty).1).1

-- so it is in the same pool, but for gates
pub dirty_same : (f g : Found) → IsSamePool f g → (n : ℕ) → is_dirty_degraded g n ≡ is_dirty_degraded f n
dirty_same f g same n =
    ap₂ (λ (o : Option Shape) (u : Option Super). nat_lt n g.state.joined && (option_map_or (λ shape. nat_lt 0 (lacking_of shape)) o false && option_map_or is_unclean u false))
    (shapes_same f g same n) (truths_same f g same n)
    ∙ ap (λ (s : State). nat_lt n s.joined && (option_map_or (λ shape. nat_lt 0 (lacking_of shape)) (shape_of f n) false && option_map_or is_unclean (truth_of f n) false)) same.state

-- Contents have the frame of array n of a book, and leave no rows of it to resync but those that are left in it, where a member is lacking and it isn't young.
pub record HasOwnLeft (v : Raid) (n : ℕ) (r : Image) : Type 0 where
  pub is_array : IsArray (v.arrays n)
  pub frame : HasFrame (frame_of (v.arrays n).truth) n r
  pub from : (v.arrays n).young ≡ false → LackingFrom (v.arrays n).resync n r

-- So where such contents hold a pool still, in which the array is dirty-degraded, there are rows left in it.
pub dirty_rows : (f : Found) (t : Slices) (s : State) (i : Image) (still : Recovers f t s i) (v : Raid) (n : ℕ) → n < f.state.made
    → HasOwnLeft v n (replayed (sectors_of t) (sliced t i)) → is_dirty_degraded still.now n ≡ true → (v.arrays n).young ≡ false → (v.arrays n).resync < rows_of (v.arrays n)
dirty_rows f t s i still v n low own dirty young =
    of (shape_in s r n) refl (truth_in s r n) refl
    (sym (ap (λ (o : Option Shape). option_map_or (λ shape. nat_lt 0 (lacking_of shape)) o false) (still.shapes n low)) ∙ parts.0)
    (sym (ap (λ (o : Option Super). option_map_or is_unclean o false) (still.truths n low)) ∙ parts.1)
  where
    r : Image
    r = replayed (sectors_of t) (sliced t i)

    parts : (option_map_or (λ shape. nat_lt 0 (lacking_of shape)) (shape_of still.now n) false ≡ true) × (option_map_or is_unclean (truth_of still.now n) false ≡ true)
    parts =
        and_parts (option_map_or (λ shape. nat_lt 0 (lacking_of shape)) (shape_of still.now n) false) (option_map_or is_unclean (truth_of still.now n) false)
        (and_parts (nat_lt n still.now.state.joined) _ dirty).1

    of : (o : Option Shape) → shape_in s r n ≡ o → (u : Option Super) → truth_in s r n ≡ u
        → option_map_or (λ shape. nat_lt 0 (lacking_of shape)) o false ≡ true → option_map_or is_unclean u false ≡ true → (v.arrays n).resync < rows_of (v.arrays n)
    of None shape_is u truth_is lacks unclean = absurd (both_ways false refl lacks)
    of (Some shape) shape_is None truth_is lacks unclean = absurd (both_ways false refl unclean)
    of (Some shape) shape_is (Some u) truth_is lacks unclean =
        unclean_rows (v.arrays n) u own.is_array (ap (λ (g : Frame). g.size) (own.frame s u still.is_state truth_is)) unclean
        (own.from young s shape u still.is_state shape_is (ltb-true 0 (lacking_of shape) lacks) truth_is)

-- Where the book's rows are those that the truth of the pool leaves, this leaves such ones.
pub dirty_before : (f : Found) (t : Slices) (s : State) (i : Image) (still : Recovers f t s i) (v : Raid) (n : ℕ) → n < f.state.made
    → (u : Super) → truth_of f n ≡ Some u → (v.arrays n).truth.size ≡ u.size → (v.arrays n).resync ≡ first_unsynced u → (v.arrays n).young ≡ false
    → HasOwnLeft v n (replayed (sectors_of t) (sliced t i)) → is_dirty_degraded still.now n ≡ true → IsUnsynced f n
dirty_before f t s i still v n low u truth size rows young own dirty = ap (λ (o : Option Super). option_map_or is_unclean o false) truth ∙ of (is_unclean u) refl
  where
    of : (b : Bool) → is_unclean u ≡ b → is_unclean u ≡ true
    of true is = is
    of false is =
        let all : (v.arrays n).resync ≡ u.size / 128 = rows ∙ ap (λ (b : Bool). if b then u.resync_offset / 128 else u.size / 128) is in
        let some = dirty_rows f t s i still v n low own dirty young in
        absurd (omega (arith, all, some, size))
