-- What the sectors of a pool that were put in a row give.
use Rattle.std.proofs.Common.{◌≡◌, ℕ, zero, suc, ◌+◌, List, [], ◌∷◌, ◌++◌, map, Result, Ok, Err, append_assoc, sym, ◌∙◌, ap, subst, refl, arith}
use Rattle.std.specs.List.{range_with_len, concat}
use Rattle.std.proofs.lemmas.List.{append-nil}
use Rattle.std.proofs.lemmas.List.Folds.{concat-append}
use Rattle.std.proofs.lemmas.List.FromFn.{map-range_with_len_more}
use Rattle.io_ends.specs.Sink.{AddsPrefix}
use Rattle.shr_script.specs.declared.Command.TheVariants.{Read}
use Rattle.shr_script.specs.Reply.{data_line}
use Rattle.flat_array.specs.Array.{FlatArray}
use Rattle.flat_array.specs.Reply.{spent_line}
use Rattle.pool.specs.declared.calls.SectorFault.{SectorFault}
use Rattle.pool.specs.declared.calls.SectorFault.TheVariants.{Spent as IsSpent}
use Rattle.pool.specs.View.{View}
use Rattle.pool.specs.Volume.{VolumeIs}
use Rattle.pool.specs.Calls.{Ends, ReadsSector}
use Rattle.shr_tool.specs.declared.status.Status.{Status}
use Rattle.shr_tool.specs.declared.exporting.ExportFault.{ExportFault}
use Rattle.shr_tool.specs.declared.exporting.ExportFault.TheVariants.{Spent as AtSpent, Sink as AtSink}
use Rattle.shr_tool.specs.Events.{array_by}
use Rattle.shr_tool.specs.Events.Event.{spent}
use Rattle.shr_tool.specs.Exporting.{ExportOutcome, Puts, bytes_at, bytes_of, export_status, read_of, reads_of}
use Rattle.shr_tool.specs.Serving.{IsServing, Ran}
use Rattle.pool.specs.Moment.{moment_of}
use Rattle.shr_tool.proofs.Finishing.{lasts_of}
use Rattle.shr_tool.proofs.History.{IsLawful, ran_more}
use Rattle.shr_tool.proofs.Performing.{read_done, read_spent}

-- reads change nothing
array_by-reads : (a : FlatArray) (from count : ℕ) → array_by a (map read_of (range_with_len from count)) ≡ a
array_by-reads a from zero = refl
array_by-reads a from (suc count) = array_by-reads a (from + 1) count

-- one read more
reads_more : (sector : ℕ) → reads_of (sector + 1) ≡ reads_of sector ++ read_of sector ∷ []
reads_more sector = map-range_with_len_more read_of 0 sector sector (omega arith)

-- the bytes of one sector more
bytes_more : (a : FlatArray) (sector : ℕ) → bytes_of a (sector + 1) ≡ bytes_of a sector ++ bytes_at a sector
bytes_more a sector =
    ap concat (map-range_with_len_more (bytes_at a) 0 sector sector (omega arith))
    ∙ (concat-append (map (bytes_at a) (range_with_len 0 sector)) (bytes_at a sector ∷ [])
    ∙ ap (λ xs. bytes_of a sector ++ xs) (append-nil (bytes_at a sector)))

-- a sector more was read
pub ran_read :
    (x y z : View) (sector : ℕ) (into : List ℕ) (r : Result (Unit {0}) SectorFault)
    → r ≡ Ok tt
    → IsLawful z
    → Ran x y (reads_of sector)
    → ReadsSector y z sector into r
    → Ran x z (reads_of (sector + 1))
ran_read x y z sector into r is laws ran reads =
    subst (λ events. Ran x z events) (sym (reads_more sector))
    (ran_more x y z (reads_of sector) (read_of sector) (data_line into) laws ran (read_done y z sector into (data_line into) r is refl reads))

-- and gave its current bytes
pub value_read :
    (x y z : View) (sector : ℕ) (into : List ℕ) (r : Result (Unit {0}) SectorFault) (a : FlatArray)
    → r ≡ Ok tt
    → Ran x y (reads_of sector)
    → ReadsSector y z sector into r
    → VolumeIs x a
    → into ≡ bytes_at a sector
value_read x y z sector into r a is ran reads_r holds =
    let reads : ReadsSector y z sector into {X = Unit {0}} (Ok tt) = subst (λ q. ReadsSector y z sector into q) is reads_r in
    reads.value (array_by a (reads_of sector)) (ran.holds a holds)
    ∙ ap (λ b. bytes_at b sector) (array_by-reads a 0 sector)

-- which were put
pub put_more :
    (a : FlatArray) (sector : ℕ) (into out out' out'' : List ℕ)
    → into ≡ bytes_at a sector
    → out' ≡ out ++ bytes_of a sector
    → out'' ≡ out' ++ into
    → out'' ≡ out ++ bytes_of a (sector + 1)
put_more a sector into out out' out'' value before now =
    now
    ∙ (ap (λ xs. xs ++ into) before
    ∙ (append_assoc out (bytes_of a sector) into
    ∙ (ap (λ xs. out ++ (bytes_of a sector ++ xs)) value
    ∙ ap (λ xs. out ++ xs) (sym (bytes_more a sector)))))

-- or of which the sink took a prefix
pub prefix_more :
    (a : FlatArray) (sector : ℕ) (into out out' out'' : List ℕ)
    → into ≡ bytes_at a sector
    → out' ≡ out ++ bytes_of a sector
    → AddsPrefix out' out'' into
    → AddsPrefix (out ++ bytes_of a sector) out'' (bytes_at a sector)
prefix_more a sector into out out' out'' value before adds =
    subst (λ bytes. AddsPrefix bytes out'' (bytes_at a sector)) before
    (subst (λ bytes. AddsPrefix out' out'' bytes) value adds)

-- the next sector is spent
pub ran_spent :
    (x y z : View) (sector : ℕ) (into : List ℕ) (r : Result (Unit {0}) SectorFault)
    → r ≡ Err IsSpent
    → IsLawful z
    → Ran x y (reads_of sector)
    → ReadsSector y z sector into r
    → Ran x z (reads_of sector ++ spent (Ok (Read sector)) sector ∷ [])
ran_spent x y z sector into r is laws ran reads =
    ran_more x y z (reads_of sector) (spent (Ok (Read sector)) sector) (spent_line sector) laws ran
    (read_spent y z sector into (spent_line sector) r is refl reads)

-- an export, once the pool was ended
export_of :
    {X : Type 0} (r : Result X ExportFault) (x m y : View) (a : FlatArray) (out out' : List ℕ)
    → IsLawful y
    → Puts x m r out out'
    → Ends m y
    → ExportOutcome (export_status r) (IsServing x a) x.bay.traced x.bay y.bay (moment_of x) a out out'
export_of {X} (Ok done) x m y a out out' laws puts ends = record { put = λ serving. puts.1 a serving.0; lasts = lasts_of x m y a _ laws puts.0 ends }
export_of {X} (Err AtSpent) x m y a out out' laws puts ends = record {
  sector = puts.0;
  inside = puts.1;
  put = λ serving. puts.3 a serving.0;
  lasts = lasts_of x m y a _ laws puts.2 ends;
}
export_of {X} (Err AtSink) x m y a out out' laws puts ends = record {
  sector = puts.0;
  inside = puts.1;
  put = λ serving. puts.3 a serving.0;
  lasts = lasts_of x m y a _ laws puts.2 ends;
}

pub export_outcome :
    {X : Type 0} (r : Result X ExportFault) (status : Status) (x m y : View) (a : FlatArray) (out out' : List ℕ)
    → status ≡ export_status r
    → IsLawful y
    → Puts x m r out out'
    → Ends m y
    → ExportOutcome status (IsServing x a) x.bay.traced x.bay y.bay (moment_of x) a out out'
export_outcome {X} r status x m y a out out' is laws puts ends =
    subst (λ s. ExportOutcome s (IsServing x a) x.bay.traced x.bay y.bay (moment_of x) a out out') (sym is)
    (export_of r x m y a out out' laws puts ends)
