-- What the pieces that were written in a row to a pool give, and how that ended.
use Rattle.std.proofs.Common.{◌≡◌, ℕ, ◌+◌, ◌-◌, ◌*◌, ◌<◌, ◌≤◌, min, List, [], ◌∷◌, ◌++◌, length, take, drop, length-append, length-drop, length-take, append_assoc, Result, Ok, Err, codes, sym, ◌∙◌, ap, subst, refl, arith}
use Rattle.std.proofs.lemmas.List.{drop-drop, nil_from_length, take-append-drop}
use Rattle.std.proofs.lemmas.List.FromFn.{map-range_with_len_more}
use Rattle.io_ends.specs.Source.{TakesFirst}
use Rattle.shr_script.specs.declared.Command.TheVariants.{Write}
use Rattle.shr_script.specs.Reply.{as_line}
use Rattle.flat_array.specs.Array.{FlatArray}
use Rattle.flat_array.specs.Reply.{spent_line}
use Rattle.pool.specs.declared.calls.SectorFault.{SectorFault}
use Rattle.pool.specs.declared.calls.SectorFault.TheVariants.{Spent as IsSpent}
use Rattle.pool.specs.View.{View}
use Rattle.pool.specs.Volume.{size_of}
use Rattle.pool.specs.Calls.{Ends, WritesSector}
use Rattle.shr_tool.specs.declared.status.Status.{Status}
use Rattle.shr_tool.specs.declared.importing.ImportFault.{ImportFault}
use Rattle.shr_tool.specs.declared.importing.ImportFault.TheVariants.{Source, Long, Spent as AtSpent}
use Rattle.shr_tool.specs.Events.Event.{spent}
use Rattle.shr_tool.specs.Importing.{ImportOutcome, Imports, SaysWritten, TakesSector, filled_up, piece_of, write_of, writes_of}
use Rattle.shr_tool.specs.Serving.{IsServing, Ran}
use Rattle.pool.specs.Moment.{moment_of}
use Rattle.shr_tool.proofs.Finishing.{lasts_of}
use Rattle.shr_tool.proofs.History.{IsLawful, ran_more}
use Rattle.shr_tool.proofs.Performing.{write_done, write_spent}

-- The pieces for the first so many sectors of a text were written, and this is left of it.
pub record HasWritten (x y : View) (text rest : List ℕ) (sectors : ℕ) : Type 0 where
  pub ran : Ran x y (writes_of text sectors)
  pub rest_is : rest ≡ drop (512 * sectors) text
  pub some : 512 * sectors ≤ length text

-- The bytes of one piece more were taken.
pub record HasTaken (text rest piece : List ℕ) (sector count : ℕ) : Type 0 where
  pub piece_is : piece ≡ piece_of text sector
  pub count_is : count ≡ min 512 (length text - 512 * sector)
  pub rest_is : rest ≡ drop (512 * (sector + 1)) text

pub has_taken :
    {E : Type 0} (r : Result ℕ E) (text before rest piece : List ℕ) (sector count : ℕ)
    → r ≡ Ok count
    → before ≡ drop (512 * sector) text
    → TakesSector r before rest piece
    → HasTaken text rest piece sector count
has_taken {E} r text before rest piece sector count is at takes_r =
    let takes : TakesSector {E = E} (Ok count) before rest piece = subst (λ q. TakesSector q before rest piece) is takes_r in
    record {
      piece_is = takes.1 ∙ ap (λ xs. filled_up (take 512 xs)) at;
      count_is =
          takes.0
          ∙ (length-take 512 before
          ∙ (ap (λ xs. min 512 (length xs)) at
          ∙ ap (min 512) (length-drop (512 * sector) text)));
      rest_is =
          takes.2
          ∙ (ap (drop 512) at
          ∙ (drop-drop 512 (512 * sector) text
          ∙ ap (λ n. drop n text) (let same : 512 * sector + 512 ≡ 512 * (sector + 1) = omega arith in same)));
    }

-- how many bytes are left
left_count : (text rest : List ℕ) (n : ℕ) → rest ≡ drop n text → length rest ≡ length text - n
left_count text rest n is = ap length is ∙ length-drop n text

-- one write more
writes_more : (text : List ℕ) (sector : ℕ) → writes_of text (sector + 1) ≡ writes_of text sector ++ write_of text sector ∷ []
writes_more text sector = map-range_with_len_more (write_of text) 0 sector sector (omega arith)

ran_write :
    (x y z : View) (text piece : List ℕ) (sector : ℕ) (r : Result (Unit {0}) SectorFault)
    → r ≡ Ok tt
    → IsLawful z
    → piece ≡ piece_of text sector
    → Ran x y (writes_of text sector)
    → WritesSector y z sector piece r
    → Ran x z (writes_of text (sector + 1))
ran_write x y z text piece sector r is laws same ran writes =
    subst (λ events. Ran x z events) (sym (writes_more text sector))
    (ran_more x y z (writes_of text sector) (write_of text sector) (as_line (codes "ok")) laws ran
    (write_done y z sector (piece_of text sector) (as_line (codes "ok")) r is refl
    (subst (λ v. WritesSector y z sector v r) same writes)))

-- the piece was written too
pub written_more :
    (x y z : View) (text before rest piece : List ℕ) (sector count : ℕ) (r : Result (Unit {0}) SectorFault)
    → r ≡ Ok tt
    → IsLawful z
    → HasWritten x y text before sector
    → HasTaken text rest piece sector count
    → 512 ≤ count
    → WritesSector y z sector piece r
    → HasWritten x z text rest (sector + 1)
written_more x y z text before rest piece sector count r is laws has took full writes = record {
  ran = ran_write x y z text piece sector r is laws took.piece_is has.ran writes;
  rest_is = took.rest_is;
  some = let some = has.some in let counted = took.count_is in omega arith;
}

-- ---- the ends

-- all sectors that were filled by the input were written
all_written :
    (x y : View) (text rest : List ℕ) (sectors bytes : ℕ)
    → Ran x y (writes_of text sectors)
    → rest ≡ []
    → bytes ≡ length text
    → length text ≤ 512 * sectors
    → 512 * sectors < length text + 512
    → sectors ≤ size_of x
    → Imports x y text rest (Ok bytes)
all_written x y text rest sectors bytes ran none is enough fewest inside = record {
  events = writes_of text sectors;
  writes = record {
    all = none;
    bytes_are = is;
    fits = omega arith;
    sectors = sectors;
    filled = record { enough = enough; fewest = fewest };
    events_are = refl;
  };
  most = omega arith;
  ran = ran;
}

-- the input ends before a sector
pub ended_before :
    (x y : View) (text before rest piece : List ℕ) (sector count bytes : ℕ)
    → HasWritten x y text before sector
    → HasTaken text rest piece sector count
    → sector < size_of x
    → count ≡ 0
    → bytes ≡ sector * 512
    → Imports x y text rest (Ok bytes)
ended_before x y text before rest piece sector count bytes has took inside none is =
    let some = has.some in
    let counted = took.count_is in
    let left = left_count text rest (512 * (sector + 1)) took.rest_is in
    all_written x y text rest sector bytes has.ran (nil_from_length rest (omega arith)) (omega arith) (omega arith) (omega arith) (omega arith)

-- the input ends in a sector
pub ended_in :
    (x y z : View) (text before rest piece : List ℕ) (sector count bytes : ℕ) (r : Result (Unit {0}) SectorFault)
    → r ≡ Ok tt
    → IsLawful z
    → HasWritten x y text before sector
    → HasTaken text rest piece sector count
    → sector < size_of x
    → 0 < count
    → count < 512
    → WritesSector y z sector piece r
    → bytes ≡ sector * 512 + count
    → Imports x z text rest (Ok bytes)
ended_in x y z text before rest piece sector count bytes r done laws has took inside some_count few writes is =
    let some = has.some in
    let counted = took.count_is in
    let left = left_count text rest (512 * (sector + 1)) took.rest_is in
    all_written x z text rest (sector + 1) bytes (ran_write x y z text piece sector r done laws took.piece_is has.ran writes)
    (nil_from_length rest (omega arith)) (omega arith) (omega arith) (omega arith) (omega arith)

-- the input ends with the volume
pub ended_with :
    (x y : View) (text before rest buffer : List ℕ) (sectors count bytes : ℕ)
    → HasWritten x y text before sectors
    → sectors ≡ size_of x
    → TakesFirst count before rest buffer
    → count ≡ 0
    → bytes ≡ sectors * 512
    → Imports x y text rest (Ok bytes)
ended_with x y text before rest buffer sectors count bytes has whole takes_count zero is =
    let some = has.some in
    let takes : TakesFirst 0 before rest buffer = subst (λ n. TakesFirst n before rest buffer) zero takes_count in
    let none : before ≡ [] = takes.end.0 refl in
    let empty : length before ≡ 0 = ap length none in
    let left = left_count text before (512 * sectors) has.rest_is in
    all_written x y text rest sectors bytes has.ran (sym takes.bytes ∙ none) (omega arith) (omega arith) (omega arith) (omega arith)

-- more bytes come behind the volume
pub goes_on :
    (x y : View) (text before rest buffer : List ℕ) (sectors count : ℕ)
    → HasWritten x y text before sectors
    → sectors ≡ size_of x
    → TakesFirst count before rest buffer
    → length buffer ≡ 512
    → 0 < count
    → count ≤ length buffer
    → Imports x y text rest (Err Long)
goes_on x y text before rest buffer sectors count has whole takes size some_count within =
    let some = has.some in
    let left = left_count text before (512 * sectors) has.rest_is in
    let lengths : length before ≡ count + length rest =
    ap length takes.bytes ∙ (length-append (take count buffer) rest ∙ ap (λ n. n + length rest) (length-take count buffer ∙ omega arith)) in
    record {
      events = writes_of text sectors;
      writes = record { longer = omega arith; events_are = ap (writes_of text) whole };
      most = omega arith;
      ran = has.ran;
    }

-- the source failed after a part of a sector, or none
failed_at :
    (x y : View) (text before rest part : List ℕ) (sectors : ℕ)
    → HasWritten x y text before sectors
    → 512 * sectors + length part ≤ 512 * size_of x
    → before ≡ part ++ rest
    → length part < 512
    → Imports x y text rest (Err Source)
failed_at x y text before rest part sectors has inside parts few =
    let front = take (512 * sectors) text in
    let some = has.some in
    let counted : length front ≡ 512 * sectors = length-take (512 * sectors) text ∙ omega arith in
    let taken : length (front ++ part) ≡ 512 * sectors + length part = length-append front part ∙ ap (λ n. n + length part) counted in
    let text_is : text ≡ (front ++ part) ++ rest =
    sym (take-append-drop (512 * sectors) text)
    ∙ (ap (λ xs. front ++ xs) (sym has.rest_is ∙ parts)
    ∙ sym (append_assoc front part rest)) in
    let lengths : length text ≡ length (front ++ part) + length rest = ap length text_is ∙ length-append (front ++ part) rest in
    record {
      events = writes_of text sectors;
      writes = record {
        taken = front ++ part;
        text_is = text_is;
        fits = omega arith;
        sectors = sectors;
        whole = omega arith;
        part = omega arith;
        events_are = refl;
      };
      most = omega arith;
      ran = has.ran;
    }

-- it failed in a sector of the volume
pub failed_in :
    (x y : View) (text before rest part : List ℕ) (sector : ℕ)
    → HasWritten x y text before sector
    → sector < size_of x
    → before ≡ part ++ rest
    → length part < 512
    → Imports x y text rest (Err Source)
failed_in x y text before rest part sector has inside parts few =
    failed_at x y text before rest part sector has (omega arith) parts few

-- or behind the volume
pub failed_behind :
    (x y : View) (text before rest : List ℕ) (sectors : ℕ)
    → HasWritten x y text before sectors
    → sectors ≡ size_of x
    → rest ≡ before
    → Imports x y text rest (Err Source)
failed_behind x y text before rest sectors has whole same =
    failed_at x y text before rest [] sectors has (omega arith) (sym same) (omega arith)

-- a sector is spent
pub spent_at :
    (x y z : View) (text before rest piece : List ℕ) (sector count : ℕ) (r : Result (Unit {0}) SectorFault)
    → r ≡ Err IsSpent
    → IsLawful z
    → HasWritten x y text before sector
    → HasTaken text rest piece sector count
    → sector < size_of x
    → 0 < count
    → WritesSector y z sector piece r
    → Imports x z text rest (Err (AtSpent sector))
spent_at x y z text before rest piece sector count r is laws has took inside some_count writes =
    let some = has.some in
    let counted = took.count_is in
    let left = left_count text rest (512 * (sector + 1)) took.rest_is in
    let refused = spent (Ok (Write sector (piece_of text sector))) sector in
    record {
      events = writes_of text sector ++ refused ∷ [];
      writes = record { inside = inside; some = omega arith; events_are = refl };
      most = omega arith;
      ran =
          ran_more x y z (writes_of text sector) refused (spent_line sector) laws has.ran
          (write_spent y z sector (piece_of text sector) (spent_line sector) r is refl
          (subst (λ v. WritesSector y z sector v r) took.piece_is writes));
    }

-- an import, once the pool was ended
pub import_outcome :
    (x m y : View) (a : FlatArray) (text rest out out' : List ℕ) (result : Result ℕ ImportFault) (status : Status)
    → IsLawful y
    → Imports x m text rest result
    → Ends m y
    → SaysWritten result out out' status
    → ImportOutcome status (IsServing x a) x.bay.traced x.bay y.bay (moment_of x) a text rest out out'
import_outcome x m y a text rest out out' result status laws imports ends says = record {
  result = result;
  events = imports.events;
  writes = imports.writes;
  most = imports.most;
  lasts = lasts_of x m y a imports.events laws imports.ran ends;
  says = says;
}
