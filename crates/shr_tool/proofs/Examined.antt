-- An image that was attached and examined.
use Rattle.std.proofs.Common.{◌≡◌, ℕ, ◌<◌, ◌≤◌, false, List, length, Result, sym, ◌∙◌, ap, subst, inl, inr}
use Rattle.std.proofs.lemmas.Bool.{cases_lt}
use Rattle.rack.specs.Values.{Values, MayLeave, Keeps, only}
use Rattle.rack.specs.Seen.{Image, RackView, Rose, IsLive}
use Rattle.rack.specs.Shelf.{Shelf}
use Rattle.rack.specs.Sequences.{OnlyReads}
use Rattle.image_text.specs.declared.Stop.{Stop}
use Rattle.image_text.specs.Contents.{IsImage}
use Rattle.image_text.specs.Lines.{image_lines}
use Rattle.image_text.specs.Putting.{Puts, Shows}
use Rattle.shr_tool.specs.declared.status.Status.{Status}
use Rattle.shr_tool.specs.declared.status.Status.TheVariants.{Refused, Memory, Sink}
use Rattle.shr_tool.specs.Entry.{waiting_at, sectors_in, contents_in, IsEntryImage}
use Rattle.shr_tool.specs.Attaching.{AreAttached}
use Rattle.shr_tool.specs.Saying.{Says}
use Rattle.shr_tool.specs.Examining.{ShowsImage, Examined, IsShown}

-- a disk that was attached is live after reads
live_after :
    (x m y : RackView) (s t : Shelf) (names : List (List ℕ))
    → AreAttached x m s t names
    → OnlyReads m y
    → ((d k : ℕ) → y.spent d k ≡ false)
    → s.told
    → (d k : ℕ)
    → d < length names
    → k < sectors_in (waiting_at s.ready names d)
    → IsLive m y d k
live_after x m y s t names at reads unspent told d k below inside =
    let w = at.waited told d below in
    record {
      disk = subst (λ (n : ℕ). d < n) (sym (reads.stays.disks ∙ at.disks)) below;
      sector = subst (λ (n : ℕ). k < n) (sym (reads.stays.sectors d ∙ w.sectors)) inside;
      is_told = w.told;
      unspent = unspent d k;
    }

-- one value alone
pub one_value : (v w : List ℕ) → MayLeave (only v) w → w ≡ v
one_value v w (inl now) = now
one_value v w (inr before) = absurd before

-- the disk holds the image that waited
holds_image :
    (x m : RackView) (s t : Shelf) (names : List (List ℕ))
    → AreAttached x m s t names
    → s.told
    → 0 < length names
    → IsImage m 0 (contents_in (waiting_at s.ready names 0))
holds_image x m s t names at told some =
    let w = at.waited told 0 some in
    record {
      told = w.told;
      same = λ k below. ap (λ (h : Values). h.current) (w.held k (subst (λ (n : ℕ). k < n) w.sectors below));
    }

pub examined_held :
    (x m y : RackView) (s t : Shelf) (names : List (List ℕ))
    → AreAttached x m s t names
    → OnlyReads m y
    → ((d k : ℕ) → y.spent d k ≡ false)
    → s.told
    → (d k : ℕ)
    → d < length names
    → k < sectors_in (waiting_at s.ready names d)
    → Keeps (only (contents_in (waiting_at s.ready names d) k)) (y.held d k)
examined_held x m y s t names at reads unspent told d k below inside =
    subst (λ (h : Values). Keeps h (y.held d k)) ((at.waited told d below).held k inside)
    (reads.keeps.held d k (live_after x m y s t names at reads unspent told d k below inside))

examined_leaves :
    (x m y : RackView) (s t : Shelf) (names : List (List ℕ))
    → AreAttached x m s t names
    → OnlyReads m y
    → ((d k : ℕ) → y.spent d k ≡ false)
    → s.told
    → x.traced
    → (k : ℕ) (i : Image)
    → k ≤ y.clock
    → y.stops k i
    → IsEntryImage s.ready names i
examined_leaves x m y s t names at reads unspent told traced k i until stops =
    let leaves = reads.keeps.stops (at.traced traced told) in
    elim (cases_lt m.clock k) [
      | inl after ↦
          λ d u below inside.
          one_value (contents_in (waiting_at s.ready names d) u) (i d u)
          (subst (λ (h : Values). MayLeave h (i d u)) ((at.waited told d below).held u inside)
          (leaves.new k i after until stops d u (live_after x m y s t names at reads unspent told d u below inside)))
      | inr before ↦ at.past told traced k i (subst (λ (n : ℕ). k ≤ n) at.clock before) (leaves.past k i before stops)
    ]

-- what was put of the image that waited, and what was said then
pub examined_by :
    {f f' : ℕ} {T T' : Type 0} (x m y : RackView) (s t : Shelf) (names : List (List ℕ)) (out between out' : List ℕ) (result : Result (Unit {0}) Stop) (status : Status)
    → AreAttached x m s t names
    → 0 < length names
    → ((d k : ℕ) → y.spent d k ≡ false)
    → T
    → Shows m y 0 f f' T T' out between (image_lines (m.sectors 0)) result
    → ((lines : List (List ℕ)) → Puts result out between lines → ShowsImage lines out out' status)
    → IsShown status
    → (status ≡ Refused → Rose (m.faults 0) (y.faults 0))
    → Examined x s y names out out' status
examined_by x m y s t names out between out' result status at some unspent sink shows how ends cause = record {
  shows = λ told.
      let image = contents_in (waiting_at s.ready names 0) in
      subst (λ (n : ℕ). ShowsImage (image_lines n image) out out' status) (at.waited told 0 some).sectors
      (how (image_lines (m.sectors 0) image) (shows.puts sink image (holds_image x m s t names at told some)));
  ends = ends;
  cause = λ e. subst (λ (n : ℕ). Rose n (y.faults 0)) (at.unfaulted 0 some) (cause e);
  held = examined_held x m y s t names at shows.only unspent;
  leaves = examined_leaves x m y s t names at shows.only unspent;
}

memory_no_refused : Memory ≡ Refused → ⊥
memory_no_refused same = cc

sink_no_refused : Sink ≡ Refused → ⊥
sink_no_refused same = cc

-- want of memory is another status than a drive's refusal
pub memory_said : (line out out' : List ℕ) (status : Status) → Says Memory line out out' status → status ≡ Refused → ⊥
memory_said line out out' status says same =
    elim says.said [
      | inl said ↦ memory_no_refused (sym said.0 ∙ same)
      | inr unsaid ↦ sink_no_refused (sym unsaid.0 ∙ same)
    ]

-- where a line was put that ends a run so, it ended so, or the sink refused it
pub said_shown : (wanted status : Status) (line out out' : List ℕ) → IsShown wanted → Says wanted line out out' status → IsShown status
said_shown wanted status line out out' shown says = elim says.said [
  | inl said ↦ subst (λ (s : Status). IsShown s) (sym said.0) shown
  | inr unsaid ↦ subst (λ (s : Status). IsShown s) (sym unsaid.0) tt
]
