-- The serial of a pool never falls.
use Rattle.std.proofs.Common.{◌≡◌, ℕ, ◌<◌, ◌≤◌, true, false, List, length, refl, inl, inr, Ok, arith}
use Rattle.std.proofs.lemmas.Bool.{both_ways, cases_Bool, cases_lt}
use Rattle.pool.specs.declared.replacing.GrowFault.TheVariants.{Attach, Memory, NoSuchDrive, Twice}
use Rattle.pool.specs.Moment.{IsNamed, moment_of}
use Rattle.pool.specs.Replaced.{HasGrowCause, IsReplaced}
use Rattle.pool.specs.View.{View, book}
use Rattle.shr_tool.specs.Events.{Event, takes_disk}
use Rattle.shr_tool.specs.Events.Event.{answered, spent, lost, last, replaced, declined, stepped, stuck, shown}
use Rattle.shr_tool.specs.Timeline.{LineContract}
use Rattle.shr_tool.proofs.TakenIn.{ok_err}

-- the place of a drive that was replaced is in the list
pub listed_by : (x y : View) (place : ℕ) (name text : List ℕ) → LineContract x y (replaced place name) text → place < length (book x).state.drives.items
listed_by x y place name text performs = elim (cases_lt place (length (book x).state.drives.items)) [
  | inl low ↦ low
  | inr past ↦ absurd (ok_err NoSuchDrive (performs.cause.0.missing.1 past))
]

-- the disk that replaced a drive
pub replaced_by : (x y : View) (place : ℕ) (name text : List ℕ) → LineContract x y (replaced place name) text
    → (d : ℕ) × IsNamed (moment_of y) name d × IsReplaced (moment_of x) (moment_of y) place d
replaced_by x y place name text performs =
    let cause : HasGrowCause x.linear (moment_of x) (moment_of y) place name (Ok tt) = performs.cause.0 in
    let named =
    cause.named
    (record { listed = listed_by x y place name text performs; attached = λ same. ok_err Attach same; had = λ same. ok_err Memory same; other = λ same. ok_err Twice same }) in
    (named.0, named.1, performs.cause.1 named.0 named.1)

serial_taking : (x y : View) (event : Event) (text : List ℕ) → takes_disk event ≡ true → LineContract x y event text → (book x).state.serial ≤ (book y).state.serial
serial_taking x y (answered line) text takes does = absurd (both_ways false refl takes)
serial_taking x y (spent line sector) text takes does = absurd (both_ways false refl takes)
serial_taking x y (lost place) text takes does = absurd (both_ways false refl takes)
serial_taking x y (last place) text takes does = absurd (both_ways false refl takes)
serial_taking x y (replaced place name) text takes does = (let given = (replaced_by x y place name text does).2.marks.same.serial in omega (arith, given))
serial_taking x y (declined place name fault) text takes does = (let same = does.cause.1.marks.same.serial in omega (arith, same))
serial_taking x y (stepped count left) text takes does = absurd (both_ways false refl takes)
serial_taking x y (stuck count array) text takes does = absurd (both_ways false refl takes)
serial_taking x y (shown text') text takes does = absurd (both_ways false refl takes)

pub serial_performed : (x y : View) (event : Event) (text : List ℕ) → LineContract x y event text → (book x).state.serial ≤ (book y).state.serial
serial_performed x y event text performs = elim (cases_Bool (takes_disk event)) [
  | inl takes ↦ serial_taking x y event text takes performs
  | inr none ↦ (let same = (performs.passes none).marks.same.serial in omega (arith, same))
]
