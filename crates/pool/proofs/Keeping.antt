-- What a call of a pool keeps, by what the calls of its parts say.
use Rattle.std.specs.Prelude.{unwrap_or}
use Rattle.std.proofs.Common.{◌≡◌, ℕ, ◌+◌, ◌*◌, ◌<◌, not, false, refl, sym, ap, subst, ◌∙◌, inl, inr, arith}
use Rattle.std.proofs.lemmas.Bool.{both_ways, and_left, cases_Bool}
use Rattle.rack.specs.Seen.{IsLive, Rose, SameRack}
use Rattle.rack.specs.Joins.{keeps_same, keeps_then, rose_before, rose_since, stays_same, stays_then}
use Rattle.rack.specs.Sequences.{WritesOnly}
use Rattle.rack.specs.Shelf.{KeepsShelf, keeps_shelf_same, keeps_shelf_then}
use Rattle.rack.proofs.Writing.{only_none, only_then}
use Rattle.slice_rack.specs.Slices.{Slices, disk_of, first_of, place_of, seat_of, sectors_of}
use Rattle.slice_rack.specs.Runs.{IsSliced, Runs}
use Rattle.array_image.specs.Places.{log_slice}
use Rattle.array_image.specs.States.{is_current}
use Rattle.log_laws.proofs.Kept.{place_of_log}
use Rattle.array_model.specs.View.{HasFault as HasDriveFault}
use Rattle.lvm_group.specs.Framed.{IsShown}
use Rattle.lvm_group.specs.Runs.{Linear}
use Rattle.raid_laws.specs.Book.{OnlyMarksSince, after_same, after_then}
use Rattle.raid_laws.specs.Moves.{AreCaused, KeepsMarked}
use Rattle.raid_laws.specs.Raid.{Raid, gone_in, is_left}
use Rattle.raid_laws.specs.Runs.{CrashInvariant, moments_same, moments_then}
use Rattle.raid_laws.specs.Truths.{KeepsTruths}
use Rattle.raid_laws.proofs.Moving.{marked_later}
use Rattle.raid_rack.proofs.Truths.{truths_then}
use Rattle.raid_laws.proofs.Whole.{heeded_left}
use Rattle.pool.specs.Moment.{MarksBut, moment_of}
use Rattle.pool.specs.View.{View, arrays_shown, book, slices_shown, volume}
use Rattle.pool.proofs.Booked.{book_same, book_then}
use Rattle.raid_rack.proofs.Raises.{raises_more, raises_then}
use Rattle.pool.specs.Keeping.{KeepsBook, Raises, most_raised}
use Rattle.pool.specs.Calls.{DriveWent, Marks, CallFrame}

-- A drive that is marked missing isn't written again in two calls either.
unwritten_then : (x y z : View) → y.slices ≡ x.slices → z.slices ≡ y.slices → SameRack x.bay y.bay → SameRack y.bay z.bay → OnlyMarksSince (book x).state (book y).state
    → KeepsMarked (book x) (slices_shown x) (slices_shown y) → KeepsMarked (book y) (slices_shown y) (slices_shown z) → KeepsMarked (book x) (slices_shown x) (slices_shown z)
unwritten_then x y z same later first second marks one two d t live gone =
    keeps_then ((slices_shown x).held d t) ((slices_shown y).held d t) ((slices_shown z).held d t) (one d t before gone)
    (two d t after (marked_later (book x).state (book y).state (place_of d) marks gone))
  where
    before : IsLive (slices_shown x) (slices_shown y) d t
    before = record {
      disk = live.disk;
      sector = subst (λ (k : Slices). t < sectors_of k d) later live.sector;
      is_told = live.is_told;
      unspent =
          second.spent (disk_of y.slices d) (first_of y.slices d + t)
          (subst (λ (k : Slices). z.bay.spent (disk_of k d) (first_of k d + t) ≡ false) later live.unspent);
    }

    after : IsLive (slices_shown y) (slices_shown z) d t
    after = record {
      disk = live.disk;
      sector = live.sector;
      is_told = subst (λ (k : Slices). y.bay.told (disk_of k d)) (sym same) (first.told (disk_of x.slices d) live.is_told);
      unspent = live.unspent;
    }

-- no call
pub passes_same : (x : View) → (volume x).fit → CallFrame x x
passes_same x fit = record {
  stays = stays_same (volume x) fit;
  linear = refl;
  slices = refl;
  marks = after_same (book x).state;
  book = book_same (book x);
  truths = λ n low held. held;
  moments = moments_same (book x) (slices_shown x);
  unwritten = λ d t live gone. keeps_same ((slices_shown x).held d t);
  arrays = only_none (arrays_shown x) (IsShown x.linear) fit.0;
  apart = only_none x.bay (IsSliced x.slices) fit.0.running.set.fit.0;
  shelf = keeps_shelf_same x.shelf;
}

pub marks_same : (x : View) (lost : ℕ → Type 0) → MarksBut lost (moment_of x) (moment_of x)
marks_same x lost place was now = absurd (both_ways (is_current (book x).state place) now was)

-- the volume stays, and calls in a row of its slices run below it
pub passes_of : {own : Type 0} (x y : View) → (volume x).fit → SameRack (volume x) (volume y) → y.linear ≡ x.linear
    → Runs x.slices y.slices x.bay y.bay own → OnlyMarksSince (book x).state (book y).state → KeepsBook (book x) (book y)
    → KeepsTruths (book x) (book y) (slices_shown x) (slices_shown y) → CrashInvariant (book x) (book y) (slices_shown x) (slices_shown y)
    → KeepsMarked (book x) (slices_shown x) (slices_shown y) → WritesOnly (arrays_shown x) (arrays_shown y) (IsShown x.linear) → KeepsShelf x.shelf y.shelf → CallFrame x y
passes_of x y fit stays same runs marks keeps truths moments unwritten arrays shelf = record {
  stays = stays;
  linear = same;
  slices = runs.tables;
  marks = marks;
  book = keeps;
  truths = truths;
  moments = moments;
  unwritten = unwritten;
  arrays = arrays;
  apart = runs.apart fit.0.running.set.fit.0 fit.0.running.set.fit.1;
  shelf = shelf;
}

-- a fault of a place's slices is one of its drive
pub went : (x y : View) (place : ℕ) → y.slices ≡ x.slices → HasDriveFault (slices_shown x) (slices_shown y) place → DriveWent x y place
went x y place same fault =
    subst (λ (d : ℕ). Rose (x.bay.faults d) (y.bay.faults d))
    (ap (λ p. disk_at x.slices p) (fault.1 ∙ sym (place_of_log place)))
    (subst (λ (t : Slices). Rose (x.bay.faults (disk_of x.slices fault.0)) (y.bay.faults (disk_of t fault.0))) same fault.2)
  where
    disk_at : Slices → ℕ → ℕ
    disk_at t p = unwrap_or (seat_of t p) 0

-- a place that is marked missing isn't left
pub not_left : (v : Raid) (place : ℕ) → is_current v.state place ≡ false → is_left v place ≡ false
not_left v place missing = and_left (is_current v.state place) (not (gone_in v place)) missing

-- between calls each current place is left, so that whoever is marked has a fault
pub marks_of : (x y : View) → (volume x).fit → y.slices ≡ x.slices → AreCaused (book x) (book y) (slices_shown x) (slices_shown y) → Marks x y
marks_of x y fit same caused place was now =
    inl (went x y place same (caused.cause place (heeded_left (book x) place fit.0.heeded was) (not_left (book y) place now)))

-- ---- calls in a row

pub passes_then : (x y z : View) → CallFrame x y → CallFrame y z → CallFrame x z
passes_then x y z one two = record {
  stays = stays_then one.stays two.stays;
  linear = two.linear ∙ one.linear;
  slices = two.slices ∙ one.slices;
  marks = after_then (book x).state (book y).state (book z).state one.marks two.marks;
  book = book_then (book x) (book y) (book z) one.marks.same.made two.marks one.book two.book;
  truths = truths_then (book x) (book y) (book z) (slices_shown x) (slices_shown y) (slices_shown z) one.marks.same.made one.truths two.truths;
  moments =
      moments_then (book x) (book y) (book z) (slices_shown x) (slices_shown y) (slices_shown z) one.moments two.moments one.marks two.marks
      (λ d. ap (λ (t : Slices). sectors_of t d) one.slices) one.apart.stays.traced;
  unwritten = unwritten_then x y z one.slices two.slices one.apart.stays two.apart.stays one.marks one.unwritten two.unwritten;
  arrays = only_then (IsShown x.linear) one.arrays (subst (λ (l : Linear). WritesOnly (arrays_shown y) (arrays_shown z) (IsShown l)) one.linear two.arrays);
  apart = only_then (IsSliced x.slices) one.apart (subst (λ (t : Slices). WritesOnly y.bay z.bay (IsSliced t)) one.slices two.apart);
  shelf = keeps_shelf_then x.shelf y.shelf z.shelf one.shelf two.shelf;
}

pub marks_then : (x y z : View) → CallFrame x y → CallFrame y z → Marks x y → Marks y z → Marks x z
marks_then x y z one two first second place was now =
    elim (cases_Bool (is_current (book y).state place)) [
      | inl then ↦ elim (second place then now) [ inl rose ↦ inl (later rose) | inr none ↦ absurd none ]
      | inr gone ↦ elim (first place was gone) [ inl rose ↦ inl (rose_before (two.apart.stays.faults _) rose) | inr none ↦ absurd none ]
    ]
  where
    later : DriveWent y z place → DriveWent x z place
    later rose =
        rose_since (one.apart.stays.faults _)
        (subst (λ (t : Slices). Rose (y.bay.faults (disk_of t (log_slice place))) (z.bay.faults (disk_of t (log_slice place)))) one.slices rose)

-- one call more
pub raises_next : (calls : ℕ) (x y z : View) → CallFrame x y → Raises calls x y → Raises 1 y z → Raises (calls + 1) x z
raises_next calls x y z passes one two =
    raises_more (most_raised * calls + most_raised) (most_raised * (calls + 1)) (book x) (book z) (omega arith)
    (raises_then (most_raised * calls) most_raised (book x) (book y) (book z) passes.marks.same.made one two)
