-- A call of the pool answers a line as an event has it.
use Rattle.std.proofs.Common.{◌≡◌, ◌⊎◌, ℕ, ◌+◌, ◌-◌, ◌<◌, ◌≤◌, true, false, nat_le, nat_lt, List, [], Result, Ok, Err, codes, refl, sym, ◌∙◌, ap, subst, inl, inr, arith}
use Rattle.std.proofs.lemmas.Bool.{both_ways}
use Rattle.std.proofs.lemmas.Bool.Decides.{nat_tests}
use Rattle.rack.specs.Moments.{IsSound}
use Rattle.rack.specs.Seen.{Image}
use Rattle.shr_script.specs.Line.{Line}
use Rattle.shr_script.specs.declared.Command.TheVariants.{Read, Write, Fill, Flush, Lose}
use Rattle.shr_script.specs.Reply.{data_line, as_line, refused_line}
use Rattle.flat_array.specs.Array.{FlatArray, filled, flushed, fresh, written}
use Rattle.flat_array.specs.Reply.{reply, after, spent_line, uniform_sector}
use Rattle.pool.specs.declared.calls.SectorFault.{SectorFault}
use Rattle.pool.specs.declared.calls.SectorFault.TheVariants.{Range, Spent}
use Rattle.pool.specs.View.{View, book, volume}
use Rattle.pool.specs.Volume.{Refines, VolumeIs, Means, is_spent, size_of, unchanged}
use Rattle.pool.specs.Keeping.{KeepsWorks, Raises}
use Rattle.pool.specs.Calls.{Flushes, Marks, CallFrame, ReadsSector, WritesSector}
use Rattle.shr_tool.proofs.Filled.{works_same}
use Rattle.shr_tool.specs.declared.perform.SpentAt.{SpentAt}
use Rattle.shr_tool.specs.Events.{Event, IsOfArray, Touches, TouchesLast, becomes, calls_in, calls_none, line_of, takes_disk, text_of, works_on}
use Rattle.shr_tool.specs.Events.Event.{answered, spent, lost, last, replaced, declined, stepped, stuck, shown}
use Rattle.pool.specs.Moment.{moment_of}
use Rattle.shr_tool.proofs.Renewed.{keeps_in}
use Rattle.shr_tool.specs.Timeline.{HasCause, MarksFor, MeansBefore, LineContract}
use Rattle.shr_tool.specs.Filling.{Fills, FillsSome}
use Rattle.pool.proofs.Booked.{raises_still}
use Rattle.pool.proofs.Continuing.{continues_of}
use Rattle.pool.proofs.Doing.{does_none}
use Rattle.pool.proofs.Keeping.{marks_same, passes_same}

-- ---- any line

-- why an event was answered so on a pool
abbrev pub Cause : View → View → Event → Type 0
Cause x y event = HasCause (moment_of x) (moment_of y) event

-- the marks of a call that loses no drive itself
pub marks_for : (x y : View) (event : Event) → CallFrame x y → Marks x y → MarksFor (moment_of x) (moment_of y) event
marks_for x y event passes marks = record {
  after = passes.marks;
  cause = λ place was now. elim (marks place was now) [ inl rose ↦ inl rose | inr none ↦ absurd none ];
}

-- contents mean an array as before an event that takes no disk
means_before :
    (x y : View) (event : Event) (a : FlatArray) (i : Image) → takes_disk event ≡ false → Means y a i
    → MeansBefore (moment_of x) (moment_of y) event a i
means_before x y (answered line) a i none means = means
means_before x y (spent line sector) a i none means = means
means_before x y (lost place) a i none means = means
means_before x y (last place) a i none means = means
means_before x y (replaced place name) a i none means = absurd (both_ways true none refl)
means_before x y (declined place name fault) a i none means = inr means
means_before x y (stepped count left) a i none means = means
means_before x y (stuck count array) a i none means = means
means_before x y (shown text) a i none means = means

-- A call answers a line by what it does: stops inside it leave the array before the line or after it. Its reply is that of some array of the volume's size, and of each that the volume
-- holds.
performs_with :
    (x y : View) (event : Event) (text : List ℕ) (during now : FlatArray → FlatArray)
    → takes_disk event ≡ false
    → (calls_none event ≡ true → moment_of y ≡ moment_of x)
    → CallFrame x y
    → Raises (calls_in (line_of event)) x y
    → (works_on event ≡ false → KeepsWorks (book x) (book y))
    → Cause x y event
    → MarksFor (moment_of x) (moment_of y) event
    → (a : FlatArray) × (a.size ≡ size_of x) × (text ≡ text_of a event)
    → ((a : FlatArray) → VolumeIs x a → text ≡ text_of a event)
    → ((a : FlatArray) → VolumeIs x a → now a ≡ becomes a event)
    → ((a : FlatArray) → VolumeIs x a → (during a ≡ a) ⊎ (during a ≡ becomes a event))
    → Refines x y during now
    → LineContract x y event text
performs_with x y event text during now none still passes raises works cause marks reply text_is same one_of does = record {
  continues = continues_of x y passes;
  still = still;
  passes = λ _. passes;
  outside = λ takes. absurd (both_ways (takes_disk event) none takes);
  changes = λ takes. absurd (both_ways (takes_disk event) none takes);
  raises = raises;
  keeps = keeps_in event (book x) (book y) passes.book;
  works = works;
  cause = cause;
  marks = λ _. marks;
  text_is = text_is;
  reply = reply;
  holds = λ a holds. subst (λ b. VolumeIs y b) (same a holds) (does.becomes a holds);
  leaves = λ traced a holds k i since until stopped.
      let means = (does.leaves traced a holds).new k i since until stopped in
      elim (one_of a holds) [
        | inl before ↦ inl (means_before x y event a i none (subst (λ b. Means y b i) before means))
        | inr after ↦ inr (subst (λ b. Means y b i) after means)
      ];
  ends = λ traced a holds i stopped. subst (λ b. Means y b i) (same a holds) (does.ends traced a holds i stopped);
}

-- the reply to an event that every array of so many sectors is answered so
pub reply_sized :
    (x : View) (event : Event) (text : List ℕ) → ((a : FlatArray) → a.size ≡ size_of x → text ≡ text_of a event)
    → (a : FlatArray) × (a.size ≡ size_of x) × (text ≡ text_of a event)
reply_sized x event text is = let a = fresh (size_of x) (λ s. []) in (a, refl, is a refl)

-- a call whose reply no value decides
pub performs_by :
    (x y : View) (event : Event) (text : List ℕ) (during now : FlatArray → FlatArray)
    → takes_disk event ≡ false
    → (calls_none event ≡ true → moment_of y ≡ moment_of x)
    → CallFrame x y
    → Raises (calls_in (line_of event)) x y
    → (works_on event ≡ false → KeepsWorks (book x) (book y))
    → Cause x y event
    → MarksFor (moment_of x) (moment_of y) event
    → ((a : FlatArray) → a.size ≡ size_of x → text ≡ text_of a event)
    → ((a : FlatArray) → VolumeIs x a → now a ≡ becomes a event)
    → ((a : FlatArray) → VolumeIs x a → (during a ≡ a) ⊎ (during a ≡ becomes a event))
    → Refines x y during now
    → LineContract x y event text
performs_by x y event text during now none still passes raises works cause marks is same one_of does =
    performs_with x y event text during now none still passes raises works cause marks (reply_sized x event text is) (λ a holds. is a holds.size) same one_of does

-- a line that touches no sector and loses no drive
touches_none :
    (x y : View) (line : Line)
    → ((s : ℕ) → Touches (size_of x) line s → ⊥)
    → ((s : ℕ) → TouchesLast (size_of x) line s → ⊥)
    → ((place : ℕ) → line ≡ Ok (Lose place) → ⊥)
    → IsOfArray line
    → Cause x y (answered line)
touches_none x y line none never other apart =
    (λ s touches. absurd (none s touches), λ s touches. absurd (never s touches), λ place is. absurd (other place is), apart)

-- a line that touches one sector, which isn't spent when it returns
touches_one :
    (x y : View) (line : Line) (sector : ℕ)
    → CallFrame x y
    → is_spent y sector ≡ false
    → ((s : ℕ) → Touches (size_of x) line s → s ≡ sector)
    → ((s : ℕ) → TouchesLast (size_of x) line s → s ≡ sector)
    → ((place : ℕ) → line ≡ Ok (Lose place) → ⊥)
    → IsOfArray line
    → Cause x y (answered line)
touches_one x y line sector passes alive one same other apart = (
  λ s touches. subst (λ t. is_spent x t ≡ false) (sym (one s touches)) (passes.stays.spent 0 sector alive),
  λ s touches. subst (λ t. is_spent y t ≡ false) (sym (same s touches)) alive,
  λ place is. absurd (other place is),
  apart,
)

-- a line that calls nothing
pub still_done :
    (x : View) (line : Line) (text : List ℕ)
    → (volume x).fit
    → (x.bay.traced → IsSound (volume x))
    → ((s : ℕ) → Touches (size_of x) line s → ⊥)
    → ((s : ℕ) → TouchesLast (size_of x) line s → ⊥)
    → ((place : ℕ) → line ≡ Ok (Lose place) → ⊥)
    → IsOfArray line
    → ((a : FlatArray) → VolumeIs x a → a ≡ after a line)
    → ((a : FlatArray) → a.size ≡ size_of x → text ≡ reply a line)
    → LineContract x x (answered line) text
still_done x line text fit sound none never other apart same is =
    performs_by x x (answered line) text unchanged unchanged refl (λ none. refl) (passes_same x fit) (raises_still (calls_in line) x) (λ none. works_same x) (touches_none x x line none never other apart)
    (marks_for x x (answered line) (passes_same x fit) (marks_same x (λ place. ⊥)))
    is same (λ a holds. inl refl) (does_none x (passes_same x fit) sound)

-- ---- the tests of a flat array

below_test : (s n : ℕ) → s < n → nat_lt s n ≡ true
below_test s n below = grind (arith, nat_tests)

past_test : (s n : ℕ) → n ≤ s → nat_lt s n ≡ false
past_test s n past = grind (arith, nat_tests)

within_test : (s n : ℕ) → s ≤ n → nat_le s n ≡ true
within_test s n within = grind (arith, nat_tests)

beyond_test : (s n : ℕ) → n < s → nat_le s n ≡ false
beyond_test s n beyond = grind (arith, nat_tests)

-- a sector of the volume is one of the array
inside_array : (x : View) (a : FlatArray) (sector : ℕ) → a.size ≡ size_of x → sector < size_of x → nat_lt sector a.size ≡ true
inside_array x a sector sized inside = below_test sector a.size (subst (λ n. sector < n) (sym sized) inside)

outside_array : (x : View) (a : FlatArray) (sector : ℕ) → a.size ≡ size_of x → size_of x ≤ sector → nat_lt sector a.size ≡ false
outside_array x a sector sized past = past_test sector a.size (subst (λ n. n ≤ sector) (sym sized) past)

-- ---- a read

pub read_done :
    (x y : View) (sector : ℕ) (into text : List ℕ) (r : Result (Unit {0}) SectorFault)
    → r ≡ Ok tt
    → text ≡ data_line into
    → ReadsSector x y sector into r
    → LineContract x y (answered (Ok (Read sector))) text
read_done x y sector into text r is_ok is reads_r =
    let reads : ReadsSector x y sector into {X = Unit {0}} (Ok tt) = subst (λ q. ReadsSector x y sector into q) is_ok reads_r in
    let served = reads.fault.served in
    let some = fresh (size_of x) (λ s. into) in
    performs_with x y (answered (Ok (Read sector))) text unchanged unchanged refl (λ none. absurd (both_ways false refl none)) reads.passes reads.raises (λ none. reads.works)
    (touches_one x y (Ok (Read sector)) sector reads.passes served.1 (λ s touches. touches.0) (λ s touches. touches.0) (λ place loses. cc) tt)
    (marks_for x y _ reads.passes reads.marks)
    (some, refl, rw (inside_array x some sector refl served.0) is)
    (λ a holds. rw (inside_array x a sector holds.size served.0) (is ∙ ap data_line (reads.value a holds)))
    (λ a holds. refl)
    (λ a holds. inl refl)
    reads.does

pub read_outside :
    (x y : View) (sector : ℕ) (into text : List ℕ) (r : Result (Unit {0}) SectorFault)
    → r ≡ Err Range
    → text ≡ refused_line (codes "range")
    → ReadsSector x y sector into r
    → LineContract x y (answered (Ok (Read sector))) text
read_outside x y sector into text r refused is reads =
    let past = reads.fault.range.0 refused in
    performs_by x y (answered (Ok (Read sector))) text unchanged unchanged refl (λ none. absurd (both_ways false refl none)) reads.passes reads.raises (λ none. reads.works)
    (touches_none x y (Ok (Read sector)) (λ s touches. let inside = touches.1 in omega arith)
    (λ s touches. let inside = touches.1 in omega arith) (λ place loses. cc) tt)
    (marks_for x y _ reads.passes reads.marks)
    (λ a sized. rw (outside_array x a sector sized past) is)
    (λ a holds. refl)
    (λ a holds. inl refl)
    reads.does

pub read_spent :
    (x y : View) (sector : ℕ) (into text : List ℕ) (r : Result (Unit {0}) SectorFault)
    → r ≡ Err Spent
    → text ≡ spent_line sector
    → ReadsSector x y sector into r
    → LineContract x y (spent (Ok (Read sector)) sector) text
read_spent x y sector into text r refused is reads =
    let gone = reads.fault.refused refused in
    performs_by x y (spent (Ok (Read sector)) sector) text unchanged unchanged refl (λ none. absurd (both_ways false refl none)) reads.passes reads.raises (λ none. reads.works) (
      (refl, gone.0),
      gone.1,
      λ s touches before. absurd (let same = touches.0 in omega arith),
    )
    (marks_for x y _ reads.passes reads.marks)
    (λ a sized. is)
    (λ a holds. refl)
    (λ a holds. inl refl)
    reads.does

-- ---- a write

pub write_done :
    (x y : View) (sector : ℕ) (v text : List ℕ) (r : Result (Unit {0}) SectorFault)
    → r ≡ Ok tt
    → text ≡ as_line (codes "ok")
    → WritesSector x y sector v r
    → LineContract x y (answered (Ok (Write sector v))) text
write_done x y sector v text r is_ok is writes_r =
    let writes : WritesSector x y sector v {X = Unit {0}} (Ok tt) = subst (λ q. WritesSector x y sector v q) is_ok writes_r in
    let served = writes.fault.served in
    let same : (a : FlatArray) → VolumeIs x a → written a sector v ≡ after a (Ok (Write sector v)) =
    λ a holds. rw (inside_array x a sector holds.size served.0) refl in
    performs_by x y (answered (Ok (Write sector v))) text (λ a. written a sector v) (λ a. written a sector v) refl (λ none. absurd (both_ways false refl none)) writes.passes writes.raises (λ none. writes.works)
    (touches_one x y (Ok (Write sector v)) sector writes.passes served.1 (λ s touches. touches.0) (λ s touches. touches.0) (λ place loses. cc) tt)
    (marks_for x y _ writes.passes writes.marks)
    (λ a sized. rw (inside_array x a sector sized served.0) is)
    same
    (λ a holds. inr (same a holds))
    writes.written

pub write_outside :
    (x y : View) (sector : ℕ) (v text : List ℕ) (r : Result (Unit {0}) SectorFault)
    → r ≡ Err Range
    → text ≡ refused_line (codes "range")
    → WritesSector x y sector v r
    → LineContract x y (answered (Ok (Write sector v))) text
write_outside x y sector v text r refused is writes_r =
    let writes : WritesSector x y sector v {X = Unit {0}} (Err Range) = subst (λ q. WritesSector x y sector v q) refused writes_r in
    let past = writes.fault.range.0 refl in
    performs_by x y (answered (Ok (Write sector v))) text unchanged unchanged refl (λ none. absurd (both_ways false refl none)) writes.passes writes.raises (λ none. writes.works)
    (touches_none x y (Ok (Write sector v)) (λ s touches. let inside = touches.1 in omega arith)
    (λ s touches. let inside = touches.1 in omega arith) (λ place loses. cc) tt)
    (marks_for x y _ writes.passes writes.marks)
    (λ a sized. rw (outside_array x a sector sized past) is)
    (λ a holds. rw (outside_array x a sector holds.size past) refl)
    (λ a holds. inl refl)
    writes.kept

pub write_spent :
    (x y : View) (sector : ℕ) (v text : List ℕ) (r : Result (Unit {0}) SectorFault)
    → r ≡ Err Spent
    → text ≡ spent_line sector
    → WritesSector x y sector v r
    → LineContract x y (spent (Ok (Write sector v)) sector) text
write_spent x y sector v text r refused is writes_r =
    let writes : WritesSector x y sector v {X = Unit {0}} (Err Spent) = subst (λ q. WritesSector x y sector v q) refused writes_r in
    let gone = writes.fault.refused refl in
    performs_by x y (spent (Ok (Write sector v)) sector) text unchanged unchanged refl (λ none. absurd (both_ways false refl none)) writes.passes writes.raises (λ none. writes.works) (
      (refl, gone.0),
      gone.1,
      λ s touches before. absurd (let same = touches.0 in omega arith),
    )
    (marks_for x y _ writes.passes writes.marks)
    (λ a sized. is)
    (λ a holds. refl)
    (λ a holds. inl refl)
    writes.kept

-- ---- a fill

-- sectors of the volume are sectors of the array
all_inside : (x : View) (a : FlatArray) (end : ℕ) → a.size ≡ size_of x → end ≤ size_of x → nat_le end a.size ≡ true
all_inside x a end sized inside = within_test end a.size (subst (λ n. end ≤ n) (sym sized) inside)

pub fill_done :
    (x y : View) (sector count byte : ℕ) (text : List ℕ) (r : Result (Unit {0}) SpentAt)
    → sector + count ≤ size_of x
    → r ≡ Ok tt
    → text ≡ as_line (codes "ok")
    → Fills x y sector count (uniform_sector byte) r
    → LineContract x y (answered (Ok (Fill sector count byte))) text
fill_done x y sector count byte text r inside is_ok is fills_r =
    let fills : Fills x y sector count (uniform_sector byte) (Ok tt) =
    subst (λ q. Fills x y sector count (uniform_sector byte) q) is_ok fills_r in
    let same : (a : FlatArray) → VolumeIs x a → filled a sector count (uniform_sector byte) ≡ after a (Ok (Fill sector count byte)) =
    λ a holds. rw (all_inside x a (sector + count) holds.size inside) refl in
    performs_by x y (answered (Ok (Fill sector count byte))) text (λ a. filled a sector count (uniform_sector byte))
    (λ a. filled a sector count (uniform_sector byte))
    refl (λ none. absurd (both_ways false refl none)) fills.passes fills.raises (λ none. fills.works) (
      λ s touches. fills.done.0.unspent s touches.0 touches.1,
      λ s touches. fills.done.1 s touches.0 touches.1,
      λ place loses. absurd (let other : ⊥ = cc in other),
      tt,
    )
    (marks_for x y _ fills.passes fills.marks)
    (λ a sized. rw (all_inside x a (sector + count) sized inside) is)
    same
    (λ a holds. inr (same a holds))
    fills.done.0.does

pub fill_spent :
    (x y : View) (sector count byte : ℕ) (text : List ℕ) (r : Result (Unit {0}) SpentAt) (at : SpentAt)
    → sector + count ≤ size_of x
    → r ≡ Err at
    → text ≡ spent_line at.sector
    → Fills x y sector count (uniform_sector byte) r
    → LineContract x y (spent (Ok (Fill sector count byte)) at.sector) text
fill_spent x y sector count byte text r at inside refused is fills_r =
    let fills : Fills x y sector count (uniform_sector byte) (Err at) =
    subst (λ q. Fills x y sector count (uniform_sector byte) q) refused fills_r in
    let from = fills.refused.0 in
    let before = fills.refused.1 in
    let some : FillsSome x y sector (at.sector - sector) (uniform_sector byte) = fills.refused.3 in
    performs_by x y (spent (Ok (Fill sector count byte)) at.sector) text
    (λ a. filled a sector (at.sector - sector) (uniform_sector byte))
    (λ a. filled a sector (at.sector - sector) (uniform_sector byte))
    refl (λ none. absurd (both_ways false refl none)) fills.passes fills.raises (λ none. fills.works) (
      (from, before, inside),
      fills.refused.2,
      λ s touches early. some.unspent s touches.0 (omega arith),
    )
    (marks_for x y _ fills.passes fills.marks)
    (λ a sized. is)
    (λ a holds. refl)
    (λ a holds. inr refl)
    some.does

pub fill_outside :
    (x : View) (sector count byte : ℕ) (text : List ℕ)
    → (volume x).fit
    → (x.bay.traced → IsSound (volume x))
    → size_of x < sector + count
    → text ≡ refused_line (codes "range")
    → LineContract x x (answered (Ok (Fill sector count byte))) text
fill_outside x sector count byte text fit sound past is =
    let test : (a : FlatArray) → a.size ≡ size_of x → nat_le (sector + count) a.size ≡ false =
    λ a sized. beyond_test (sector + count) a.size (subst (λ n. n < sector + count) (sym sized) past) in
    still_done x (Ok (Fill sector count byte)) text fit sound
    (λ s touches. let inside = touches.2 in omega arith)
    (λ s touches. let inside = touches.2 in omega arith)
    (λ place loses. cc) tt
    (λ a holds. rw (test a holds.size) refl)
    (λ a sized. rw (test a sized) is)

-- ---- a flush

pub flush_done :
    (x y : View) (text : List ℕ) → text ≡ as_line (codes "ok") → Flushes x y → LineContract x y (answered (Ok Flush)) text
flush_done x y text is flushes =
    performs_by x y (answered (Ok Flush)) text unchanged flushed refl (λ none. absurd (both_ways false refl none)) flushes.passes flushes.raises (λ none. flushes.works)
    (touches_none x y (Ok Flush) (λ s touches. touches) (λ s touches. touches) (λ place loses. cc) tt)
    (marks_for x y _ flushes.passes flushes.marks)
    (λ a sized. is)
    (λ a holds. refl)
    (λ a holds. inl refl)
    flushes.does
