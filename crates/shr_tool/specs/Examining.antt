-- How `examine` comes out, over the bay at entry.
use Rattle.std.specs.Prelude.{◌≡◌, ℕ, ◌<◌, ◌≤◌, List, length, ◌++◌, codes}
use Rattle.std.specs.List.{concat}
use Rattle.rack.specs.Values.{Keeps, only}
use Rattle.rack.specs.Seen.{Image, RackView, Rose}
use Rattle.rack.specs.Shelf.{Shelf}
use Rattle.io_ends.specs.Sink.{AddsPrefix}
use Rattle.shr_script.specs.Reply.{refused_line}
use Rattle.image_text.specs.Lines.{image_lines}
use Rattle.image_text.specs.Putting.{AddsLines}
use Rattle.shr_tool.specs.declared.status.Status.{Status}
use Rattle.shr_tool.specs.declared.status.Status.TheVariants.{Done, Words, Limit, Source, Sink, Refused, Memory, Spent}
use Rattle.shr_tool.specs.Entry.{waiting_at, sectors_in, contents_in, IsEntryImage}
use Rattle.shr_tool.specs.Run.{NameRefused}
use Rattle.shr_tool.specs.Saying.{Says}

-- the lines of an image were put, or whole lines of them and why no more came, or the sink refused one
pub data ShowsImage (lines : List (List ℕ)) (out out' : List ℕ) (status : Status) : Type 0 where
  shown : status ≡ Done → out' ≡ out ++ concat lines → ShowsImage lines out out' status
  cut : status ≡ Sink → AddsPrefix out out' (concat lines) → ShowsImage lines out out' status
  gone : (between : List ℕ) → AddsLines out between lines → Says Refused (refused_line (codes "drive-gone 0")) between out' status → ShowsImage lines out out' status
  no_memory : (between : List ℕ) → AddsLines out between lines → Says Memory (refused_line (codes "memory")) between out' status → ShowsImage lines out out' status

-- an image was shown, or the sink refused a line of it, its disk a call, or memory was wanting
abbrev pub IsShown : Status → Type 0
IsShown Done = Unit {0}
IsShown Words = ⊥
IsShown Limit = ⊥
IsShown Source = ⊥
IsShown Sink = Unit {0}
IsShown Refused = Unit {0}
IsShown Memory = Unit {0}
IsShown Spent = ⊥

-- the text of the image that waited was put, and nothing was written to a disk
pub record Examined (x : RackView) (s : Shelf) (y : RackView) (names : List (List ℕ)) (out out' : List ℕ) (status : Status) : Type 0 where
  pub shows : s.told
      → ShowsImage (image_lines (sectors_in (waiting_at s.ready names 0)) (contents_in (waiting_at s.ready names 0))) out out' status
  -- so the run ended, whatever the image tells
  pub ends : IsShown status
  -- the disk is refused only where its faults rose
  pub cause : status ≡ Refused → Rose 0 (y.faults 0)
  -- each sector has the value that waited, and no other
  pub held : s.told → (d k : ℕ) → d < length names → k < sectors_in (waiting_at s.ready names d)
      → Keeps (only (contents_in (waiting_at s.ready names d) k)) (y.held d k)
  -- and each stop leaves it
  pub leaves : s.told → x.traced → (k : ℕ) (i : Image) → k ≤ y.clock → y.stops k i → IsEntryImage s.ready names i

-- how `examine` came out
pub data ExamineOutcome (x : RackView) (s : Shelf) (y : RackView) (t : Shelf) (names : List (List ℕ)) (out out' : List ℕ) (status : Status) : Type 0 where
  name_refused : NameRefused x y s t names out out' status → ExamineOutcome x s y t names out out' status
  no_memory : Says Memory (refused_line (codes "memory")) out out' status → ExamineOutcome x s y t names out out' status
  examined : Examined x s y names out out' status → ExamineOutcome x s y t names out out' status
