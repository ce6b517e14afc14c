use Rattle.std.proofs.Common.{◌≡◌, ◌⊎◌, ◌<◌, ℕ, true, false, [], Some, inl, inr, slice_get, option_map, sym, ap, subst, ◌∙◌, arith}
use Rattle.std.specs.List.{list_any}
use Rattle.std.proofs.lemmas.Bool.{cases_Bool}
use Rattle.std.proofs.lemmas.Option.{get_or_from_slice_get, slice_get_within}
use Rattle.rack.specs.Sequences.{OnlyReads}
use Rattle.arrayvec.specs.ArrayVec.{with_items}
use Rattle.rack.specs.Seen.{RackView, Rose}
use Rattle.slice_rack.specs.Slices.{Slices, disk_of, seat_of}
use Rattle.slice_rack.specs.SliceRack.{tables, below_of}
use Rattle.slice_rack.specs.Sliced.{slices_of}
use Rattle.slice_rack.specs.Runs.{inside_still}
use Rattle.pool_state.specs.declared.contents.State.{State}
use Rattle.array_image.specs.States.{current_places}
use Rattle.pool_scan.proofs.Valid.{valid_arrays}
use Rattle.array_model.specs.View.{View, HasFault, IsArray, sectors_of}
use Rattle.array_core.specs.Seats.{gone, restarted}
use Rattle.log_laws.specs.Opening.{ReplayCall}
use Rattle.log_laws.specs.View.{names}
use Rattle.raid_rack.specs.RaidRack.{IsRunning, SliceRuns, arrays_in, no_array, raid_in, slices_in, slices_seen}
use Rattle.raid_laws.specs.Agreeing.{MakesAgree}
use Rattle.raid_laws.specs.Book.{OnlyMarksSince}
use Rattle.raid_laws.specs.Cleaning.{NoneFails}
use Rattle.raid_laws.specs.Moves.{AreMarked, IsSet, Mends}
use Rattle.raid_laws.specs.Truths.{KeepsTruths, MakesTruths}
use Rattle.raid_rack.proofs.Mended.{each_items}
use Rattle.assembler_laws.specs.Holding.{HoldsArrays}
use Rattle.assembler.proofs.Causes.{made_array}
use Rattle.assembler_laws.proofs.Holding.{rack_closed, rack_still}
use Rattle.assembler.proofs.Live.{opened_live}
use Rattle.assembler.proofs.Making.{by_list, keeps, marked as making_marked, marked_so, mended as making_mended, parts as making_parts, replayed, same as making_same, settled}
use Rattle.assembler.proofs.Mended.{absent_still, closed_members, marking_so, mended_members, mended_reads, mended_so, rack_writes, reads_agree, reads_makes, reads_mend, reads_move}
use Rattle.assembler.proofs.Entry.{quiet_last}
use Rattle.assembler_laws.proofs.Marks.{all_marked, marked_for, some_unmarked}
use Rattle.assembler.proofs.Raised.{raises_made}
use Rattle.assembler.proofs.Running.{array_now, current_logs, rack_running, twice}
use Rattle.assembler_laws.proofs.Sizes.{total_small}
use Rattle.assembler.proofs.Stopping.{making_leaves}
use Rattle.assembler_laws.proofs.Whole.{whole_member}
use Rattle.assembler.proofs.raid.make_rack.Goals as goal

pub close_gates-gone-requires-clause-logs : goal.close_gates-gone-requires-clause-logs
close_gates-gone-requires-clause-logs g c =
    let m = c.args.members in
    current_logs m.state (tables m.slices) (g.R.Rack.seen (below_of m.slices)) m.checked m.absent.items c.requires.members
    (λ n v is. c.rules.ensures n v (ap (λ xs. slice_get xs n) c.as_slice.ensures.value ∙ is))

pub mend_tables-left_out-requires-clause-fit : goal.mend_tables-left_out-requires-clause-fit
mend_tables-left_out-requires-clause-fit g c =
    let closed = c.close_gates-gone.new.slices in
    let runs = c.close_gates-gone.ensures.runs in
    let fit = c.requires.members.fit in
    let stays = (runs.apart fit.0 fit.1).stays in
    subst (λ u. (slices_of u (g.R.Rack.seen (below_of closed))).fit) (sym runs.tables) (stays.fit, inside_still stays fit.1)

pub mend_tables-left_out-requires-clause-seats : goal.mend_tables-left_out-requires-clause-seats
mend_tables-left_out-requires-clause-seats g c p = c.requires.seats p ∙ ap (λ u. seat_of u p) (sym c.close_gates-gone.ensures.runs.tables)

pub mark_gone-requires : goal.mark_gone-requires
mark_gone-requires g c =
    let m = c.args.members in
    let seen = g.R.Rack.seen in
    let t : Slices = tables m.slices in
    let y : RackView = seen (below_of m.slices) in
    let closed = c.close_gates-gone.new.slices in
    let mended = c.mend_tables-left_out.new.slices in
    let b : RackView = seen (below_of closed) in
    let d : RackView = seen (below_of mended) in
    let went = c.close_gates-gone.result.items in
    let places = c.mend_tables-left_out.result.items in
    let members = c.requires.members in
    let is = mended_so m.state t (tables closed) y b d m.checked.agreed went places (g.R.Rack.runs (below_of m.slices) (below_of closed)) members.fit c.close_gates-gone.ensures.runs c.mend_tables-left_out.ensures.mends in
    let first = (each_items m.checked.arrays c.as_mut_slice.result.now c.restart_rebuilds.new.arrays restarted c.as_mut_slice.ensures.value c.restart_rebuilds.ensures).0 in
    let second = (each_items (with_items m.checked.arrays c.restart_rebuilds.new.arrays) c.as_mut_slice-2.result.now c.note_gone.new.arrays (gone places) c.as_mut_slice-2.ensures.value c.note_gone.ensures).0 in
    record {
      running =
          subst (λ k. IsRunning (arrays_in c.new-raid.result) (slices_of (tables k) (seen (below_of k)))) (sym c.new-raid.ensures.slices)
          (subst (λ u. IsRunning (arrays_in c.new-raid.result) (slices_of u d)) (sym (c.mend_tables-left_out.ensures.tables ∙ c.close_gates-gone.ensures.runs.tables))
          (rack_running m.state t d m.checked m.absent.items (mended_members m.state t y b d went places m.checked m.absent.items m.slices.orderly members is)
          (λ n v at. c.rules.ensures n v (ap (λ xs. slice_get xs n) c.as_slice.ensures.value ∙ at))
          places (absent_still m.state t y m.checked m.absent.items m.slices.orderly members b d went places is.mends)
          (arrays_in c.new-raid.result) c.new-raid.ensures.state
          (λ n.
          ap (λ xs. slice_get xs n) c.new-raid.ensures.arrays ∙ second n
          ∙ ap (option_map (gone places)) (first n) ∙ twice places (slice_get m.checked.arrays.items n))));
    }

pub returns-clause-tables : goal.returns-clause-tables
returns-clause-tables g c =
    let runs = subst (λ k. SliceRuns g.R.Rack.seen g.R.Rack.runs k (slices_in c.mark_gone.new.raid)) c.new-raid.ensures.slices c.mark_gone.ensures.runs in
    runs.tables ∙ c.mend_tables-left_out.ensures.tables ∙ c.close_gates-gone.ensures.runs.tables

pub returns-clause-runs : goal.returns-clause-runs
returns-clause-runs g c =
    let runs = subst (λ k. SliceRuns g.R.Rack.seen g.R.Rack.runs k (slices_in c.mark_gone.new.raid)) c.new-raid.ensures.slices c.mark_gone.ensures.runs in
    g.met.R.Rack.runs_then _ _ _ c.close_gates-gone.ensures.runs.below (g.met.R.Rack.runs_then _ _ _ c.mend_tables-left_out.ensures.runs runs.below)

pub returns-clause-only : goal.returns-clause-only
returns-clause-only g c =
    let m = c.args.members in
    let seen = g.R.Rack.seen in
    let t : Slices = tables m.slices in
    let y : RackView = seen (below_of m.slices) in
    let closed = c.close_gates-gone.new.slices in
    let mended = c.mend_tables-left_out.new.slices in
    let last = slices_in c.mark_gone.new.raid in
    let b : RackView = seen (below_of closed) in
    let d : RackView = seen (below_of mended) in
    let z : RackView = seen (below_of last) in
    let went = c.close_gates-gone.result.items in
    let places = c.mend_tables-left_out.result.items in
    let members = c.requires.members in
    let is = mended_so m.state t (tables closed) y b d m.checked.agreed went places (g.R.Rack.runs (below_of m.slices) (below_of closed)) members.fit c.close_gates-gone.ensures.runs c.mend_tables-left_out.ensures.mends in
    rack_writes m.state t y b d went places m.checked m.absent.items m.slices.orderly members is z
    (marking_so m.state t y b d went places m.checked m.absent.items m.slices.orderly members is (tables mended) (tables last) z (g.R.Rack.runs (below_of mended) (below_of last))
    (c.mend_tables-left_out.ensures.tables ∙ c.close_gates-gone.ensures.runs.tables)
    (subst (λ k. SliceRuns seen g.R.Rack.runs k last) c.new-raid.ensures.slices c.mark_gone.ensures.runs))

pub returns-clause-made : goal.returns-clause-made
returns-clause-made g c = c.mark_gone.ensures.mends.moves.book.same.made ∙ ap (λ s. s.made) c.new-raid.ensures.state

pub returns-clause-joined : goal.returns-clause-joined
returns-clause-joined g c = c.mark_gone.ensures.mends.moves.book.same.joined ∙ ap (λ s. s.joined) c.new-raid.ensures.state

pub returns-clause-extent : goal.returns-clause-extent
returns-clause-extent g c = c.mark_gone.ensures.mends.moves.book.same.extent ∙ ap (λ s. s.extent) c.new-raid.ensures.state

pub returns-clause-small : goal.returns-clause-small
returns-clause-small g c =
    let m = c.args.members in
    let seen = g.R.Rack.seen in
    let members = c.requires.members in
    let x : RackView = seen (below_of m.slices) in
    let t : Slices = tables m.slices in
    let rules : (n : ℕ) (v : View) → slice_get m.checked.arrays.items n ≡ Some v → IsArray v =
    λ n v is. c.rules.ensures n v (ap (λ xs. slice_get xs n) c.as_slice.ensures.value ∙ is) in
    let closed = c.close_gates-gone.new.slices in
    let mended = c.mend_tables-left_out.new.slices in
    let places = c.mend_tables-left_out.result.items in
    let is = mended_so m.state t (tables closed) x (seen (below_of closed)) (seen (below_of mended)) m.checked.agreed c.close_gates-gone.result.items places (g.R.Rack.runs (below_of m.slices) (below_of closed))
    members.fit c.close_gates-gone.ensures.runs c.mend_tables-left_out.ensures.mends in
    let first = (each_items m.checked.arrays c.as_mut_slice.result.now c.restart_rebuilds.new.arrays restarted c.as_mut_slice.ensures.value c.restart_rebuilds.ensures).0 in
    let second = (each_items (with_items m.checked.arrays c.restart_rebuilds.new.arrays) c.as_mut_slice-2.result.now c.note_gone.new.arrays (gone places) c.as_mut_slice-2.ensures.value c.note_gone.ensures).0 in
    let items = c.new-raid.result.arrays.all.items in
    let are : (n : ℕ) → slice_get items n ≡ option_map (λ v. gone places (restarted v)) (slice_get m.checked.arrays.items n) =
    λ n.
    ap (λ xs. slice_get xs n) c.new-raid.ensures.arrays ∙ second n
    ∙ ap (option_map (gone places)) (first n) ∙ twice places (slice_get m.checked.arrays.items n) in
    total_small x.sectors (seat_of t) m.checked.arrays.items m.checked.extents.items members.slots
    (λ p d seat. members.fit.1.small d (members.fit.1.seats p d seat))
    rules
    (λ n v at. whole_member m.state (seat_of t) n v (members.founded.each n v at) (rules n v at))
    (λ n. sectors_of ((raid_in c.mark_gone.new.raid).arrays n))
    (λ n v at.
    c.mark_gone.ensures.mends.moves.sectors n
    ∙ ap sectors_of (get_or_from_slice_get items n (gone places (restarted v)) no_array
    (array_now m.state t x m.checked m.absent.items members rules places
    (absent_still m.state t x m.checked m.absent.items m.slices.orderly members (seen (below_of closed)) (seen (below_of mended)) c.close_gates-gone.result.items places is.mends)
    items are n v at)))
    m.state.made members.founded.count

pub returns-clause-fresh : goal.returns-clause-fresh
returns-clause-fresh g c n = c.mark_gone.ensures.refused n ∙ c.new-raid.ensures.refused n

pub returns-clause-unwritten : goal.returns-clause-unwritten
returns-clause-unwritten g c n = c.mark_gone.ensures.written n ∙ c.new-raid.ensures.written n

pub returns-clause-mended : goal.returns-clause-mended
returns-clause-mended g c quiet p disk seat says =
    let m = c.args.members in
    let seen = g.R.Rack.seen in
    let runs = g.R.Rack.runs in
    let t : Slices = tables m.slices in
    let y : RackView = seen (below_of m.slices) in
    let closed = c.close_gates-gone.new.slices in
    let mended = c.mend_tables-left_out.new.slices in
    let last = slices_in c.mark_gone.new.raid in
    let b : RackView = seen (below_of closed) in
    let d : RackView = seen (below_of mended) in
    let z : RackView = seen (below_of last) in
    let went = c.close_gates-gone.result.items in
    let places = c.mend_tables-left_out.result.items in
    let members = c.requires.members in
    let marking = subst (λ k. SliceRuns seen runs k last) c.new-raid.ensures.slices c.mark_gone.ensures.runs in
    settled m.state t (tables closed) (tables mended) (tables last) y b d z went places m.checked m.absent.items m.slices.orderly members m.log
    (runs (below_of m.slices) (below_of closed)) (runs (below_of mended) (below_of last)) c.close_gates-gone.ensures.runs c.close_gates-gone.ensures.closes
    c.close_gates-gone.ensures.same c.mend_tables-left_out.ensures.mends c.mend_tables-left_out.ensures.tables marking quiet p disk seat says

pub returns-clause-keeps : goal.returns-clause-keeps
returns-clause-keeps g c p disk seat =
    let m = c.args.members in
    let seen = g.R.Rack.seen in
    let runs = g.R.Rack.runs in
    let t : Slices = tables m.slices in
    let y : RackView = seen (below_of m.slices) in
    let closed = c.close_gates-gone.new.slices in
    let mended = c.mend_tables-left_out.new.slices in
    let last = slices_in c.mark_gone.new.raid in
    let b : RackView = seen (below_of closed) in
    let d : RackView = seen (below_of mended) in
    let z : RackView = seen (below_of last) in
    let went = c.close_gates-gone.result.items in
    let places = c.mend_tables-left_out.result.items in
    let members = c.requires.members in
    let marking = subst (λ k. SliceRuns seen runs k last) c.new-raid.ensures.slices c.mark_gone.ensures.runs in
    keeps m.state t (tables closed) (tables mended) (tables last) y b d z went places m.checked m.absent.items m.slices.orderly members m.log
    (runs (below_of m.slices) (below_of closed)) (runs (below_of mended) (below_of last)) c.close_gates-gone.ensures.runs c.close_gates-gone.ensures.closes
    c.close_gates-gone.ensures.same c.mend_tables-left_out.ensures.mends c.mend_tables-left_out.ensures.tables marking p disk seat

pub returns-clause-holds : goal.returns-clause-holds
returns-clause-holds g c f holds found quiet =
    let m = c.args.members in
    let seen = g.R.Rack.seen in
    let runs = g.R.Rack.runs in
    let t : Slices = tables m.slices in
    let y : RackView = seen (below_of m.slices) in
    let closed = c.close_gates-gone.new.slices in
    let mended = c.mend_tables-left_out.new.slices in
    let last = slices_in c.mark_gone.new.raid in
    let b : RackView = seen (below_of closed) in
    let d : RackView = seen (below_of mended) in
    let z : RackView = seen (below_of last) in
    let went = c.close_gates-gone.result.items in
    let places = c.mend_tables-left_out.result.items in
    let members = c.requires.members in
    let marking = subst (λ k. SliceRuns seen runs k last) c.new-raid.ensures.slices c.mark_gone.ensures.runs in
    let first = (each_items m.checked.arrays c.as_mut_slice.result.now c.restart_rebuilds.new.arrays restarted c.as_mut_slice.ensures.value c.restart_rebuilds.ensures).0 in
    let second = (each_items (with_items m.checked.arrays c.restart_rebuilds.new.arrays) c.as_mut_slice-2.result.now c.note_gone.new.arrays (gone places) c.as_mut_slice-2.ensures.value c.note_gone.ensures).0 in
    let items = c.new-raid.result.arrays.all.items in
    let all : (n : ℕ) → slice_get items n ≡ option_map (λ v. gone places (restarted v)) (slice_get m.checked.arrays.items n) = λ n.
    ap (λ xs. slice_get xs n) c.new-raid.ensures.arrays ∙ second n
    ∙ ap (option_map (gone places)) (first n) ∙ twice places (slice_get m.checked.arrays.items n) in
    let are : (n : ℕ) (u : View) → slice_get m.checked.arrays.items n ≡ Some u → (raid_in c.new-raid.result).arrays n ≡ gone places (restarted u) =
    λ n u at. get_or_from_slice_get items n (gone places (restarted u)) no_array (all n ∙ ap (option_map (λ v. gone places (restarted v))) at) in
    let rules : (n : ℕ) (v : View) → slice_get m.checked.arrays.items n ≡ Some v → IsArray v =
    λ n v at. c.rules.ensures n v (ap (λ xs. slice_get xs n) c.as_slice.ensures.value ∙ at) in
    let is = making_mended m.state t (tables closed) (tables mended) (tables last) y b d z went places m.checked m.absent.items m.slices.orderly members m.log
    (runs (below_of m.slices) (below_of closed)) (runs (below_of mended) (below_of last)) c.close_gates-gone.ensures.runs c.close_gates-gone.ensures.closes
    c.close_gates-gone.ensures.same c.mend_tables-left_out.ensures.mends c.mend_tables-left_out.ensures.tables marking in
    let same : places ≡ m.absent.items = making_same m.state t (tables closed) (tables mended) (tables last) y b d z went places m.checked m.absent.items m.slices.orderly members m.log
    (runs (below_of m.slices) (below_of closed)) (runs (below_of mended) (below_of last)) c.close_gates-gone.ensures.runs c.close_gates-gone.ensures.closes
    c.close_gates-gone.ensures.same c.mend_tables-left_out.ensures.mends c.mend_tables-left_out.ensures.tables marking quiet in
    let raid = raid_in c.new-raid.result in
    let w = raid_in c.mark_gone.new.raid in
    let after : RackView = slices_seen seen c.mark_gone.new.raid in
    let more = absent_still m.state t y m.checked m.absent.items m.slices.orderly members b d went places is.mends in
    let closed_is = closed_members m.state t y b d went places m.checked m.absent.items m.slices.orderly members is in
    let running : IsRunning (arrays_in c.new-raid.result) (slices_of t b) =
    rack_running m.state t b m.checked m.absent.items closed_is rules places more (arrays_in c.new-raid.result) c.new-raid.ensures.state all in
    let some : 0 < raid.state.made =
    (let least = (valid_arrays m.state 0 members.valid).0 in subst (λ (s : State). 0 < s.made) (sym c.new-raid.ensures.state) (omega (arith, least))) in
    let to_t : tables mended ≡ t = c.mend_tables-left_out.ensures.tables ∙ c.close_gates-gone.ensures.runs.tables in
    let reads : OnlyReads (slices_of t b) (slices_of t d) = mended_reads m.state t y b d went places m.checked m.absent.items m.slices.orderly members is in
    let marks : Mends raid w (slices_of t d) after =
    subst (λ u. Mends raid w (slices_of u d) after) to_t
    (subst (λ k. Mends raid w (slices_of (tables k) (seen (below_of k))) after) c.new-raid.ensures.slices c.mark_gone.ensures.mends) in
    let mends : Mends raid w (slices_of t b) after = reads_mend raid w (slices_of t b) (slices_of t d) after running.set some reads marks in
    let number = c.new-raid.ensures.number ∙ c.close_gates-gone.ensures.number in
    let unfaulted : NoneFails (slices_of t b) after = λ place fault.
    quiet_last y b z is.closing.stays quiet (disk_of t fault.0)
    (subst (λ u. Rose (b.faults (disk_of t fault.0)) (z.faults (disk_of u fault.0))) (marking.tables ∙ to_t) fault.2) in
    let flag = c.has_stale.result in
    let agrees : (flag ≡ true) ⊎ (AreMarked raid → ⊥) → MakesAgree raid w (slices_of t b) after = λ why.
    reads_agree raid w (slices_of t b) (slices_of t d) after running.set some reads marks.moves
    (subst (λ u. MakesAgree raid w (slices_of u d) after) to_t
    (subst (λ k. MakesAgree raid w (slices_of (tables k) (seen (below_of k))) after) c.new-raid.ensures.slices (c.mark_gone.ensures.supers why))) in
    let makes : (flag ≡ true) ⊎ (AreMarked raid → ⊥) → MakesTruths raid w (slices_of t b) after = λ why.
    reads_makes raid w (slices_of t b) (slices_of t d) after running.set some reads
    (subst (λ u. MakesTruths raid w (slices_of u d) after) to_t
    (subst (λ k. MakesTruths raid w (slices_of (tables k) (seen (below_of k))) after) c.new-raid.ensures.slices (c.mark_gone.ensures.makes why))) in
    let as_listed : (p : ℕ) → names places p ≡ names m.absent.items p = λ p. ap (λ ps. names ps p) same in
    let still : m.absent.items ≡ [] → flag ≡ false → OnlyReads (slices_of t b) after × (w.state ≡ raid.state) × (list_any (λ b. b) m.checked.stale.items ≡ false)
    × IsSet raid after × KeepsTruths raid w after after =
    λ none clear.
    let all_are = all_marked m.state t y m.checked m.absent.items places members raid c.new-raid.ensures.state are as_listed w (slices_of t b) after mends none in
    let idle = c.mark_gone.ensures.idle clear all_are in
    let stayed : after ≡ slices_of t d = ap (λ k. slices_of (tables k) (seen (below_of k))) (idle.0 ∙ c.new-raid.ensures.slices) ∙ ap (λ u. slices_of u d) to_t in
    let only : OnlyReads (slices_of t b) after = subst (OnlyReads (slices_of t b)) (sym stayed) reads in (
      only,
      idle.1,
      sym (c.has_stale.ensures ∙ ap (list_any (λ b. b)) c.as_slice-2.ensures.value) ∙ clear,
      (reads_move raid (slices_of t b) after running.set some only).set,
      subst (λ k. KeepsTruths raid w k after) (sym stayed)
          (subst (λ u. KeepsTruths raid w (slices_of u d) after) to_t
          (subst (λ k. KeepsTruths raid w (slices_of (tables k) (seen (below_of k))) after) c.new-raid.ensures.slices (c.mark_gone.ensures.truths clear))),
    ) in
    by_list m.absent.items
    (λ none.
    rack_closed f m.state t y m.checked m.absent.items places m.slices.orderly m.log holds found members rules raid c.new-raid.ensures.state number are none (same ∙ none)
    (slices_of t b) (replayed m.state t (tables closed) (tables mended) (tables last) y b d z went places m.checked m.absent.items m.slices.orderly members m.log
    (runs (below_of m.slices) (below_of closed)) (runs (below_of mended) (below_of last)) c.close_gates-gone.ensures.runs c.close_gates-gone.ensures.closes
    c.close_gates-gone.ensures.same c.mend_tables-left_out.ensures.mends c.mend_tables-left_out.ensures.tables marking quiet none) w after mends running.set
    (elim (cases_Bool flag) [ inl stale ↦ inl (agrees (inl stale), unfaulted, makes (inl stale)) | inr clear ↦ inr (still none clear) ]))
    (λ absent.
    rack_still f m.state t y m.checked m.absent.items places m.slices.orderly m.log holds found members rules raid c.new-raid.ensures.state number are absent same w after
    (subst (λ k. Mends raid w (slices_of t (seen (below_of k))) after) (c.close_gates-gone.ensures.still absent) mends)
    (subst (λ k. MakesAgree raid w (slices_of t (seen (below_of k))) after) (c.close_gates-gone.ensures.still absent)
    (agrees
    (inr (some_unmarked m.state t y m.checked m.absent.items places members raid c.new-raid.ensures.state are as_listed w (slices_of t b) after mends absent))))
    (subst (λ k. NoneFails (slices_of t (seen (below_of k))) after) (c.close_gates-gone.ensures.still absent) unfaulted)
    (subst (λ k. IsSet raid (slices_of t (seen (below_of k)))) (c.close_gates-gone.ensures.still absent) running.set)
    (subst (λ k. MakesTruths raid w (slices_of t (seen (below_of k))) after) (c.close_gates-gone.ensures.still absent)
    (makes
    (inr (some_unmarked m.state t y m.checked m.absent.items places members raid c.new-raid.ensures.state are as_listed w (slices_of t b) after mends absent)))))

pub returns-clause-marks : goal.returns-clause-marks
returns-clause-marks g c quiet =
    let m = c.args.members in
    let seen = g.R.Rack.seen in
    let runs = g.R.Rack.runs in
    let t : Slices = tables m.slices in
    let y : RackView = seen (below_of m.slices) in
    let closed = c.close_gates-gone.new.slices in
    let mended = c.mend_tables-left_out.new.slices in
    let last = slices_in c.mark_gone.new.raid in
    let b : RackView = seen (below_of closed) in
    let d : RackView = seen (below_of mended) in
    let z : RackView = seen (below_of last) in
    let went = c.close_gates-gone.result.items in
    let places = c.mend_tables-left_out.result.items in
    let members = c.requires.members in
    let marking = subst (λ k. SliceRuns seen runs k last) c.new-raid.ensures.slices c.mark_gone.ensures.runs in
    let first = (each_items m.checked.arrays c.as_mut_slice.result.now c.restart_rebuilds.new.arrays restarted c.as_mut_slice.ensures.value c.restart_rebuilds.ensures).0 in
    let second = (each_items (with_items m.checked.arrays c.restart_rebuilds.new.arrays) c.as_mut_slice-2.result.now c.note_gone.new.arrays (gone places) c.as_mut_slice-2.ensures.value c.note_gone.ensures).0 in
    let items = c.new-raid.result.arrays.all.items in
    let all : (n : ℕ) → slice_get items n ≡ option_map (λ v. gone places (restarted v)) (slice_get m.checked.arrays.items n) = λ n.
    ap (λ xs. slice_get xs n) c.new-raid.ensures.arrays ∙ second n
    ∙ ap (option_map (gone places)) (first n) ∙ twice places (slice_get m.checked.arrays.items n) in
    let are : (n : ℕ) (u : View) → slice_get m.checked.arrays.items n ≡ Some u → (raid_in c.new-raid.result).arrays n ≡ gone places (restarted u) =
    λ n u at. get_or_from_slice_get items n (gone places (restarted u)) no_array (all n ∙ ap (option_map (λ v. gone places (restarted v))) at) in
    let rules : (n : ℕ) (v : View) → slice_get m.checked.arrays.items n ≡ Some v → IsArray v =
    λ n v at. c.rules.ensures n v (ap (λ xs. slice_get xs n) c.as_slice.ensures.value ∙ at) in
    let is = making_mended m.state t (tables closed) (tables mended) (tables last) y b d z went places m.checked m.absent.items m.slices.orderly members m.log
    (runs (below_of m.slices) (below_of closed)) (runs (below_of mended) (below_of last)) c.close_gates-gone.ensures.runs c.close_gates-gone.ensures.closes
    c.close_gates-gone.ensures.same c.mend_tables-left_out.ensures.mends c.mend_tables-left_out.ensures.tables marking in
    let parts = making_parts m.state t (tables closed) (tables mended) (tables last) y b d z went places m.checked m.absent.items m.slices.orderly members m.log
    (runs (below_of m.slices) (below_of closed)) (runs (below_of mended) (below_of last)) c.close_gates-gone.ensures.runs c.close_gates-gone.ensures.closes
    c.close_gates-gone.ensures.same c.mend_tables-left_out.ensures.mends c.mend_tables-left_out.ensures.tables marking quiet in
    let same : places ≡ m.absent.items = making_same m.state t (tables closed) (tables mended) (tables last) y b d z went places m.checked m.absent.items m.slices.orderly members m.log
    (runs (below_of m.slices) (below_of closed)) (runs (below_of mended) (below_of last)) c.close_gates-gone.ensures.runs c.close_gates-gone.ensures.closes
    c.close_gates-gone.ensures.same c.mend_tables-left_out.ensures.mends c.mend_tables-left_out.ensures.tables marking quiet in
    let before : RackView = slices_of (tables mended) d in
    let after : RackView = slices_seen seen c.mark_gone.new.raid in
    let unfaulted : (place : ℕ) → HasFault before after place → ⊥ = λ place fault.
    parts.marking (disk_of (tables mended) fault.0)
    (subst (λ u. Rose (d.faults (disk_of (tables mended) fault.0)) (z.faults (disk_of u fault.0))) marking.tables fault.2) in
    let running : IsRunning (arrays_in c.new-raid.result) (slices_seen seen c.new-raid.result) =
    subst (λ k. IsRunning (arrays_in c.new-raid.result) (slices_of (tables k) (seen (below_of k)))) (sym c.new-raid.ensures.slices)
    (subst (λ u. IsRunning (arrays_in c.new-raid.result) (slices_of u d)) (sym (c.mend_tables-left_out.ensures.tables ∙ c.close_gates-gone.ensures.runs.tables))
    (rack_running m.state t d m.checked m.absent.items (mended_members m.state t y b d went places m.checked m.absent.items m.slices.orderly members is) rules
    places (absent_still m.state t y m.checked m.absent.items m.slices.orderly members b d went places is.mends)
    (arrays_in c.new-raid.result) c.new-raid.ensures.state all)) in
    opened_live m.state t y m.checked m.absent.items places members (raid_in c.new-raid.result) c.new-raid.ensures.state are (λ q. ap (λ ps. names ps q) same)
    (raid_in c.mark_gone.new.raid) (slices_seen seen c.new-raid.result) after c.mark_gone.ensures.mends
    rules running.set
    (subst (λ k. (place : ℕ) → HasFault (slices_of (tables k) (seen (below_of k))) after place → ⊥) (sym c.new-raid.ensures.slices) unfaulted)

pub returns-clause-book : goal.returns-clause-book
returns-clause-book g c =
    subst (λ (s : State). OnlyMarksSince s (raid_in c.mark_gone.new.raid).state) c.new-raid.ensures.state c.mark_gone.ensures.mends.moves.book

pub returns-clause-arrays : goal.returns-clause-arrays
returns-clause-arrays g c n u at =
    let m = c.args.members in
    let places = c.mend_tables-left_out.result.items in
    let raid = raid_in c.new-raid.result in
    let first = (each_items m.checked.arrays c.as_mut_slice.result.now c.restart_rebuilds.new.arrays restarted c.as_mut_slice.ensures.value c.restart_rebuilds.ensures).0 in
    let second = (each_items (with_items m.checked.arrays c.restart_rebuilds.new.arrays) c.as_mut_slice-2.result.now c.note_gone.new.arrays (gone places) c.as_mut_slice-2.ensures.value c.note_gone.ensures).0 in
    let items = c.new-raid.result.arrays.all.items in
    let is : raid.arrays n ≡ gone places (restarted u) =
    get_or_from_slice_get items n (gone places (restarted u)) no_array
    (ap (λ xs. slice_get xs n) c.new-raid.ensures.arrays ∙ second n
    ∙ ap (option_map (gone places)) (first n) ∙ twice places (slice_get m.checked.arrays.items n)
    ∙ ap (option_map (λ v. gone places (restarted v))) at) in
    let low : n < raid.state.made =
    (let below = slice_get_within m.checked.arrays.items n u at in
    let count = c.requires.members.founded.count in
    let made = ap (λ (s : State). s.made) c.new-raid.ensures.state in omega (arith, below, count, made)) in
    made_array places u (raid.arrays n) ((raid_in c.mark_gone.new.raid).arrays n) is (c.mark_gone.ensures.mends.moves.arrays n low)

pub returns-clause-raises : goal.returns-clause-raises
returns-clause-raises g c =
    let m = c.args.members in
    let places = c.mend_tables-left_out.result.items in
    let first = (each_items m.checked.arrays c.as_mut_slice.result.now c.restart_rebuilds.new.arrays restarted c.as_mut_slice.ensures.value c.restart_rebuilds.ensures).0 in
    let second = (each_items (with_items m.checked.arrays c.restart_rebuilds.new.arrays) c.as_mut_slice-2.result.now c.note_gone.new.arrays (gone places) c.as_mut_slice-2.ensures.value c.note_gone.ensures).0 in
    raises_made 35 m.state m.log.number m.checked.arrays.items places (raid_in c.new-raid.result) (raid_in c.mark_gone.new.raid) c.new-raid.ensures.state
    (c.new-raid.ensures.number ∙ c.close_gates-gone.ensures.number) c.requires.members.founded.count
    (λ n u at.
    get_or_from_slice_get c.new-raid.result.arrays.all.items n (gone places (restarted u)) no_array
    (ap (λ xs. slice_get xs n) c.new-raid.ensures.arrays ∙ second n ∙ ap (option_map (gone places)) (first n)
    ∙ twice places (slice_get m.checked.arrays.items n) ∙ ap (option_map (λ v. gone places (restarted v))) at))
    c.mark_gone.ensures.raises

pub returns-clause-caused : goal.returns-clause-caused
returns-clause-caused g c =
    let m = c.args.members in
    let seen = g.R.Rack.seen in
    let runs = g.R.Rack.runs in
    let t : Slices = tables m.slices in
    let y : RackView = seen (below_of m.slices) in
    let closed = c.close_gates-gone.new.slices in
    let mended = c.mend_tables-left_out.new.slices in
    let last = slices_in c.mark_gone.new.raid in
    let b : RackView = seen (below_of closed) in
    let d : RackView = seen (below_of mended) in
    let z : RackView = seen (below_of last) in
    let went = c.close_gates-gone.result.items in
    let places = c.mend_tables-left_out.result.items in
    let members = c.requires.members in
    let marking = subst (λ k. SliceRuns seen runs k last) c.new-raid.ensures.slices c.mark_gone.ensures.runs in
    let first = (each_items m.checked.arrays c.as_mut_slice.result.now c.restart_rebuilds.new.arrays restarted c.as_mut_slice.ensures.value c.restart_rebuilds.ensures).0 in
    let second = (each_items (with_items m.checked.arrays c.restart_rebuilds.new.arrays) c.as_mut_slice-2.result.now c.note_gone.new.arrays (gone places) c.as_mut_slice-2.ensures.value c.note_gone.ensures).0 in
    let items = c.new-raid.result.arrays.all.items in
    let are : (n : ℕ) (u : View) → slice_get m.checked.arrays.items n ≡ Some u → (raid_in c.new-raid.result).arrays n ≡ gone places (restarted u) =
    λ n u at. get_or_from_slice_get items n (gone places (restarted u)) no_array
    (ap (λ xs. slice_get xs n) c.new-raid.ensures.arrays ∙ second n ∙ ap (option_map (gone places)) (first n)
    ∙ twice places (slice_get m.checked.arrays.items n) ∙ ap (option_map (λ v. gone places (restarted v))) at) in
    marked_so m.state t (tables closed) (tables mended) (tables last) y b d z went places m.checked m.absent.items m.slices.orderly members m.log
    (runs (below_of m.slices) (below_of closed)) (runs (below_of mended) (below_of last)) c.close_gates-gone.ensures.runs c.close_gates-gone.ensures.closes
    c.close_gates-gone.ensures.same c.mend_tables-left_out.ensures.mends c.mend_tables-left_out.ensures.tables marking (raid_in c.mark_gone.new.raid).state
    (marked_for m.state t y m.checked m.absent.items places members (raid_in c.new-raid.result) c.new-raid.ensures.state are
    (raid_in c.mark_gone.new.raid) (slices_of (tables mended) d) (slices_seen seen c.mark_gone.new.raid)
    (subst (λ k. Mends (raid_in c.new-raid.result) (raid_in c.mark_gone.new.raid) (slices_of (tables k) (seen (below_of k))) (slices_seen seen c.mark_gone.new.raid))
    c.new-raid.ensures.slices c.mark_gone.ensures.mends))

pub returns-clause-moments : goal.returns-clause-moments
returns-clause-moments g c f e holds found rest quiet alive traced =
    let m = c.args.members in
    let seen = g.R.Rack.seen in
    let runs = g.R.Rack.runs in
    let t : Slices = tables m.slices in
    let y : RackView = seen (below_of m.slices) in
    let closed = c.close_gates-gone.new.slices in
    let mended = c.mend_tables-left_out.new.slices in
    let last = slices_in c.mark_gone.new.raid in
    let b : RackView = seen (below_of closed) in
    let d : RackView = seen (below_of mended) in
    let z : RackView = seen (below_of last) in
    let went = c.close_gates-gone.result.items in
    let places = c.mend_tables-left_out.result.items in
    let members = c.requires.members in
    let marking = subst (λ k. SliceRuns seen runs k last) c.new-raid.ensures.slices c.mark_gone.ensures.runs in
    let first = (each_items m.checked.arrays c.as_mut_slice.result.now c.restart_rebuilds.new.arrays restarted c.as_mut_slice.ensures.value c.restart_rebuilds.ensures).0 in
    let second = (each_items (with_items m.checked.arrays c.restart_rebuilds.new.arrays) c.as_mut_slice-2.result.now c.note_gone.new.arrays (gone places) c.as_mut_slice-2.ensures.value c.note_gone.ensures).0 in
    let items = c.new-raid.result.arrays.all.items in
    let all : (n : ℕ) → slice_get items n ≡ option_map (λ v. gone places (restarted v)) (slice_get m.checked.arrays.items n) = λ n.
    ap (λ xs. slice_get xs n) c.new-raid.ensures.arrays ∙ second n
    ∙ ap (option_map (gone places)) (first n) ∙ twice places (slice_get m.checked.arrays.items n) in
    let are : (n : ℕ) (u : View) → slice_get m.checked.arrays.items n ≡ Some u → (raid_in c.new-raid.result).arrays n ≡ gone places (restarted u) =
    λ n u at. get_or_from_slice_get items n (gone places (restarted u)) no_array (all n ∙ ap (option_map (λ v. gone places (restarted v))) at) in
    let rules : (n : ℕ) (v : View) → slice_get m.checked.arrays.items n ≡ Some v → IsArray v =
    λ n v at. c.rules.ensures n v (ap (λ xs. slice_get xs n) c.as_slice.ensures.value ∙ at) in
    let is = making_mended m.state t (tables closed) (tables mended) (tables last) y b d z went places m.checked m.absent.items m.slices.orderly members m.log
    (runs (below_of m.slices) (below_of closed)) (runs (below_of mended) (below_of last)) c.close_gates-gone.ensures.runs c.close_gates-gone.ensures.closes
    c.close_gates-gone.ensures.same c.mend_tables-left_out.ensures.mends c.mend_tables-left_out.ensures.tables marking in
    let same : places ≡ m.absent.items = making_same m.state t (tables closed) (tables mended) (tables last) y b d z went places m.checked m.absent.items m.slices.orderly members m.log
    (runs (below_of m.slices) (below_of closed)) (runs (below_of mended) (below_of last)) c.close_gates-gone.ensures.runs c.close_gates-gone.ensures.closes
    c.close_gates-gone.ensures.same c.mend_tables-left_out.ensures.mends c.mend_tables-left_out.ensures.tables marking quiet in
    let raid = raid_in c.new-raid.result in
    let w = raid_in c.mark_gone.new.raid in
    let to_t : tables mended ≡ t = c.mend_tables-left_out.ensures.tables ∙ c.close_gates-gone.ensures.runs.tables in
    let running : IsRunning (arrays_in c.new-raid.result) (slices_of t b) =
    rack_running m.state t b m.checked m.absent.items (closed_members m.state t y b d went places m.checked m.absent.items m.slices.orderly members is) rules places
    (absent_still m.state t y m.checked m.absent.items m.slices.orderly members b d went places is.mends) (arrays_in c.new-raid.result) c.new-raid.ensures.state all in
    making_leaves f e m.state t y b d z went places m.checked m.absent.items m.slices.orderly m.log holds found members rest rules raid w c.new-raid.ensures.state
    (c.new-raid.ensures.number ∙ c.close_gates-gone.ensures.number) are same is
    (λ none.
    subst (λ lost. ReplayCall m.log (current_places m.state) lost (slices_of t y) (slices_of t b)) (same ∙ none)
    (replayed m.state t (tables closed) (tables mended) (tables last) y b d z went places m.checked m.absent.items m.slices.orderly members m.log
    (runs (below_of m.slices) (below_of closed)) (runs (below_of mended) (below_of last)) c.close_gates-gone.ensures.runs c.close_gates-gone.ensures.closes
    c.close_gates-gone.ensures.same c.mend_tables-left_out.ensures.mends c.mend_tables-left_out.ensures.tables marking quiet none))
    (λ some. ap (λ k. seen (below_of k)) (c.close_gates-gone.ensures.still some))
    (λ h sound idle good apart seats alone told.
    c.mend_tables-left_out.ensures.moments h sound idle good apart (λ p. ap (λ u. seat_of u p) c.close_gates-gone.ensures.runs.tables ∙ seats p) alone told)
    (making_marked m.state t (tables closed) (tables mended) (tables last) y b d z went places m.checked m.absent.items m.slices.orderly members m.log
    (runs (below_of m.slices) (below_of closed)) (runs (below_of mended) (below_of last)) c.close_gates-gone.ensures.runs c.close_gates-gone.ensures.closes
    c.close_gates-gone.ensures.same c.mend_tables-left_out.ensures.mends c.mend_tables-left_out.ensures.tables marking)
    running.set
    (subst (λ u. Mends raid w (slices_of t d) (slices_of u z)) (marking.tables ∙ to_t)
    (subst (λ u. Mends raid w (slices_of u d) (slices_of (tables last) z)) to_t
    (subst (λ k. Mends raid w (slices_of (tables k) (seen (below_of k))) (slices_of (tables last) z)) c.new-raid.ensures.slices c.mark_gone.ensures.mends)))
    (subst (λ u. HoldsArrays f w (slices_of t y) (slices_of u z)) (marking.tables ∙ to_t) (returns-clause-holds g c f holds found quiet))
    alive (returns-clause-marks g c quiet).marks traced
