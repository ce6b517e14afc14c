-- The works of a growth of a pool: what each does to its book and to its volume, and works in a row.
use Rattle.std.specs.Prelude.{◌≡◌, ◌⊎◌, ℕ, zero, suc, ◌+◌, ◌*◌, ◌^◌, ◌<◌, ◌≤◌, ◌&&◌, nat_le, nat_lt, min, Bool, true, false, List, [], length, slice_get, slice_index, Some, Result, IfErr, IfOk, OnOk}
use Rattle.std.specs.List.{list_all, range_with_len}
use Rattle.rack.specs.Seen.{RackView}
use Rattle.array_core.specs.Pool.{Goes}
use Rattle.rack.specs.Shelf.{KeepsShelf}
use Rattle.slice_rack.specs.Slices.{Slices, seat_of}
use Rattle.array_image.specs.States.{is_current}
use Rattle.array_model.specs.View.{sectors_of}
use Rattle.growth_laws.specs.Losses.{LosesBook}
use Rattle.transition_laws.specs.Changes.{Change, changed, makes}
use Rattle.growth_laws.specs.Growing.{GetsLonger, Lacks, Turns, change_of, is_due as is_due_to_grow}
use Rattle.growth_laws.specs.NewArrays.{new_view}
use Rattle.growth_plan.specs.Target.{targets}
use Rattle.lvm_group.specs.Extending.{extended}
use Rattle.lvm_group.specs.Growth.{fits}
use Rattle.lvm_group.specs.Runs.{Linear, data_start, extents_of}
use Rattle.pool_state.specs.declared.contents.Work.{Work}
use Rattle.pool_state.specs.declared.contents.Work.TheVariants.{Resync, Rebuild, Begin, Make, Extend, Close}
use Rattle.raid_laws.specs.Book.{IsSameBook}
use Rattle.raid_laws.specs.Moves.{RaisesBy}
use Rattle.raid_laws.specs.Raid.{Raid, spent_of}
use Rattle.raid_laws.specs.Works.{array_of, is_due}
use Rattle.raid_rack.specs.Growing.{CannotLay, CannotMake}
use Rattle.raid_rack.specs.declared.works.Stuck.{Stuck}
use Rattle.pool.specs.Calls.{Marks}
use Rattle.pool.specs.Keeping.{KeepsWorks}
use Rattle.pool.specs.Moment.{Moment, moment_of}
use Rattle.pool.specs.View.{View, book, volume}
use Rattle.pool.specs.Works.{LacksRow, arrays_now, left_of, works_by, works_of}

-- ---- the volume's extension

-- what each array offers to the volume at the end of a book's plan
abbrev pub target_of : Raid → List ℕ
target_of v = targets v.state (arrays_now v)

-- array n has room for so many extents of so many sectors
abbrev pub holds_extents : Raid → (n extents extent : ℕ) → Bool
holds_extents v n extents extent = nat_lt extents (2 ^ 45) && nat_le (data_start + extents * extent) (sectors_of (v.arrays n))

-- for its number of them
abbrev pub holds_number : Raid → List ℕ → (extent n : ℕ) → Bool
holds_number v numbers extent n = holds_extents v n (slice_index numbers n) extent

-- A volume, which has an extent, can be extended to these numbers of extents of the first arrays: there are so many arrays, each has room, and the text has.
abbrev pub can_extend : Linear → Raid → List ℕ → Bool
can_extend l v numbers =
    (nat_lt 0 (extents_of l.runs) && (nat_lt 0 (length numbers) && nat_le (length numbers) v.state.made))
    && (list_all (holds_number v numbers l.extent) (range_with_len 0 (length numbers)) && fits l.runs numbers)

-- The volume isn't extended by the book v, w being that of the losses that were met: it can't be, which names array 0, and nothing was called; or an array, which is
-- named, has lost a sector.
abbrev pub CannotExtend : Linear → (v w : Raid) → (array : ℕ) → Type 0
CannotExtend l v w array =
    ((can_extend l v (target_of v) ≡ false) × (array ≡ 0) × (w ≡ v))
    ⊎ (LosesBook v w × (array < v.state.made) × ((s : ℕ) × (spent_of w array s ≡ true)))

-- ---- a work that is done

-- what it changes, by the time that superblocks of a new array have
abbrev pub change_in : ℕ → Work → Raid → Change
change_in seconds (Make n height) v = makes (new_view seconds v height)
change_in seconds work v = change_of work v

-- The book is changed by the work, between losses that were met before it and after it.
pub record IsDone (work : Work) (v w : Raid) : Type 0 where
  pub seconds : ℕ
  pub mid : Raid
  pub before : LosesBook v mid
  pub same : IsSameBook (changed (change_in seconds work mid) mid).state w.state
  pub current : (place : ℕ) → is_current w.state place ≡ true → is_current (changed (change_in seconds work mid) mid).state place ≡ true
  pub after : KeepsWorks (changed (change_in seconds work mid) mid) w

-- where the volume lies then
abbrev pub linear_after : Work → Linear → Raid → Linear
linear_after Extend l v = extended l (target_of v)
linear_after work l v = l

-- the first of the works that the book v has left is done: l and m are where the volume lay before it and where it lies then
pub record DoesWork (l m : Linear) (v w : Raid) : Type 0 where
  pub work : Work
  pub first : slice_get (works_by l v) 0 ≡ Some work
  pub done : IsDone work v w
  pub linear : m ≡ linear_after work l v

-- so many in a row, each the first that is left by the book after the one before it
pub data DoesWorks : ℕ → Linear → Raid → Linear → Raid → Type 0 where
  none : {l : Linear} {v : Raid} → DoesWorks zero l v l v
  more : {n : ℕ} {l m o : Linear} {v w z : Raid} → DoesWorks n l v m w → DoesWork m o w z → DoesWorks (suc n) l v o z

-- ---- a work that can't be done

-- It can't any more once the losses of the try are marked; or the slice of a member that joins can't be laid, or that of a member of a new array can't be entered or laid.
-- `t` and `r` are the slices and the bay before it.
abbrev pub LacksIn : {R : Type 0} → (R → RackView) → (R → R → Type 0) → Slices → R → Work → Raid → Raid → Type 0
LacksIn seen runs t r (Begin n place) mid w = Lacks (Begin n place) mid w ⊎ CannotLay t (seen r) mid place n
LacksIn seen runs t r (Make n height) mid w = Lacks (Make n height) mid w ⊎ CannotMake seen runs t r mid height
LacksIn seen runs t r work mid w = Lacks work mid w

-- a row, or the end of a plan: it isn't due, and nothing was called; or the row can't be had
abbrev pub IsRefusedRow : Work → (v w : Raid) → Type 0
IsRefusedRow work v w = ((is_due v work ≡ false) × (w ≡ v)) ⊎ LacksRow v w work

-- a work of a growth, so
abbrev pub IsRefusedGrowth : {R : Type 0} → (R → RackView) → (R → R → Type 0) → Slices → R → Work → (v w : Raid) → Type 0
IsRefusedGrowth seen runs t r work v w =
    ((is_due_to_grow v work ≡ false) × (w ≡ v)) ⊎ ((seconds : ℕ) × Turns (change_in seconds work) (LacksIn seen runs t r work) v w false)

-- why a work isn't done, which names this array
abbrev pub IsRefused : {R : Type 0} → (R → RackView) → (R → R → Type 0) → Slices → R → Linear → Work → (v w : Raid) → (array : ℕ) → Type 0
IsRefused seen runs t r l (Resync n) v w array = (array ≡ n) × IsRefusedRow (Resync n) v w
IsRefused seen runs t r l (Rebuild n place) v w array = (array ≡ n) × IsRefusedRow (Rebuild n place) v w
IsRefused seen runs t r l Close v w array = (array ≡ 0) × IsRefusedRow Close v w
IsRefused seen runs t r l Extend v w array = CannotExtend l v w array
IsRefused seen runs t r l work v w array = (array ≡ array_of work) × IsRefusedGrowth seen runs t r work v w

-- ---- calls

-- the most by which a work raises the log's number, the epoch, and each array's events: an extension calls the arrays often
abbrev pub most_grown : ℕ
most_grown = 2 ^ 20

-- What works keep, so many: arrays may come and get longer, the bay's disks are as many and as long as before and what stops left of them before is as it was, each place
-- has its disk, and drives come to be marked lost only where their faults rose.
pub record KeepsGrowing (works : ℕ) (x y : View) : Type 0 where
  pub fit : (volume y).fit
  pub longer : GetsLonger (book x) (book y)
  pub seats : (place : ℕ) → seat_of y.slices place ≡ seat_of x.slices place
  pub goes : Goes x.bay y.bay
  pub shelf : KeepsShelf x.shelf y.shelf
  pub marks : Marks x y
  pub raises : RaisesBy (most_grown * works) (book x) (book y)

-- A work is tried. `runs` are calls on the bay in a row, and `r` is the bay before them.
pub record TriesWork (work : Work) (x y : View) (runs : x.bays.one → x.bays.one → Type 0) (r : x.bays.one) (result : Result (Unit {0}) Stuck) : Type 0 where
  pub keeps : KeepsGrowing 1 x y
  pub done : OnOk result (IsDone work (book x) (book y) × (y.linear ≡ linear_after work x.linear (book x)))
  pub stuck : IfErr result (λ e. (y.linear ≡ x.linear) × IsRefused x.bays.seen runs x.slices r x.linear work (book x) (book y) e.array)

-- no work is left, and nothing is done
abbrev pub HasNone : View → View → Type 0
HasNone x y = (works_of x ≡ []) × (y.linear ≡ x.linear) × (book y ≡ book x)

-- a row to resync or to rebuild, of which one commit takes several
abbrev pub is_row : Work → Bool
is_row (Resync n) = true
is_row (Rebuild n place) = true
is_row work = false

-- So many works are done from one moment to another, each the first that was left after the one before it; or fewer where none is left then.
abbrev pub DoesMany : ℕ → Moment → Moment → Type 0
DoesMany count p q =
    DoesWorks count p.linear p.book q.linear q.book
    ⊎ ((n : ℕ) × (n ≤ count) × DoesWorks n p.linear p.book q.linear q.book × (works_by q.linear q.book ≡ []))

-- Fewer works than so many are done, and then the first that is left can't be, which is one of this array. It says why by the book, the slices and the bay of a moment between
-- the two. `seen` is what a bay shows, `runs` are calls on it in a row, and `Between` holds of the bays that may have been there.
pub record StopsBetween {R : Type 0} (seen : R → RackView) (runs : R → R → Type 0) (Between : R → Type 0) (count : ℕ) (p q : Moment) (array : ℕ) : Type 0 where
  pub works : ℕ
  pub few : works < count
  pub mid : Raid
  pub done : DoesWorks works p.linear p.book q.linear mid
  pub work : Work
  pub first : slice_get (works_by q.linear mid) 0 ≡ Some work
  pub slices : Slices
  pub seats : (place : ℕ) → seat_of slices place ≡ seat_of p.slices place
  pub bay : R
  pub between : Between bay
  pub stuck : IsRefused seen runs slices bay q.linear work mid q.book array

-- so it is in calls of a pool, where the bay's calls lead there and on from there
abbrev pub StopsGrowing : ℕ → (x y : View) → (x.bays.one → x.bays.one → Type 0) → (array : ℕ) → Type 0
StopsGrowing count x y runs array =
    StopsBetween x.bays.seen runs (λ bay. Goes x.bay (x.bays.seen bay) × Goes (x.bays.seen bay) y.bay) count (moment_of x) (moment_of y) array

-- Works are done in their order, so many or all that are left, and what is answered is left. Else the first that is left then can't be done. Of contents nothing is said.
-- `runs` are calls on the bay in a row.
pub record GrowsBy (count : ℕ) (x y : View) (runs : x.bays.one → x.bays.one → Type 0) (result : Result ℕ Stuck) : Type 0 where
  pub keeps : KeepsGrowing count x y
  pub left : IfOk result (λ left. left ≡ left_of y)
  pub done : OnOk result (DoesMany (min count (left_of x)) (moment_of x) (moment_of y))
  pub stuck : IfErr result (λ e. StopsGrowing count x y runs e.array)

-- The first of the works that are left is tried, where one is, with those after it, at most so many: as many are done as are answered, or none is left. Else one of them
-- can't be done.
pub record TriesFirst (most : ℕ) (x y : View) (runs : x.bays.one → x.bays.one → Type 0) (result : Result ℕ Stuck) : Type 0 where
  pub keeps : KeepsGrowing 1 x y
  pub some : IfOk result (λ count. (0 < count) × (count ≤ most))
  pub done : IfOk result (λ count. HasNone x y ⊎ DoesWorks count x.linear (book x) y.linear (book y))
  pub stuck : IfErr result (λ e. StopsGrowing most x y runs e.array)
