use Rattle.std.proofs.Common.{ℕ, ◌*◌, List, ◌++◌, ◌≤◌, Ok, Err, subst, sym, arith}
use Rattle.rack.specs.Targets.{Target}
use Rattle.lvm_group.specs.declared.starts.TextStart.{TextStart}
use Rattle.lvm_group.specs.Writing.{first_targets, header_target, targets_to}
use Rattle.rack.proofs.Calling.{several_fewer}
use Rattle.lvm_group.proofs.Calls.{several_join}
use Rattle.lvm_group.proofs.Putting.{puts_cut, puts_quiet, puts_then, single_later, single_then}
use Rattle.lvm_group.proofs.Turns.{turn_cut, turn_then}
use Rattle.lvm_group.proofs.writing.put_new.Goals as goal

abbrev firsts : List ℕ → (ℕ → ℕ) → List TextStart → List ℕ → ℕ → List Target
firsts pool sectors starts text arrays = targets_to (first_targets pool sectors starts text) arrays

abbrev headers : List TextStart → List ℕ → ℕ → List Target
headers starts text arrays = targets_to (header_target starts text) arrays

pub returns-in-Err-clause-puts : goal.returns-in-Err-clause-puts
returns-in-Err-clause-puts g c =
    puts_cut (firsts c.args.pool.now.0 (g.R.Rack.seen c.args.rack.now).sectors c.args.starts.now c.args.text.now c.args.arrays) (headers c.args.starts.now c.args.text.now c.args.arrays) c.in-Err.gone c.in-Err.ensures.puts

pub returns-in-Err-sync_first-clause-puts : goal.returns-in-Err-sync_first-clause-puts
returns-in-Err-sync_first-clause-puts g c =
    let first = firsts c.args.pool.now.0 (g.R.Rack.seen c.args.rack.now).sectors c.args.starts.now c.args.text.now c.args.arrays in
    puts_cut first (headers c.args.starts.now c.args.text.now c.args.arrays) c.in-Err-sync_first.gone
    (puts_quiet first c.args.arrays (Err c.in-Err-sync_first.gone) c.requires.arrays c.in_default.ensures.puts c.in-Err-sync_first.ensures.syncs)

pub returns-in-Err-put_headers-clause-puts : goal.returns-in-Err-put_headers-clause-puts
returns-in-Err-put_headers-clause-puts g c =
    let first = firsts c.args.pool.now.0 (g.R.Rack.seen c.args.rack.now).sectors c.args.starts.now c.args.text.now c.args.arrays in
    puts_then first (headers c.args.starts.now c.args.text.now c.args.arrays) (Err c.in-Err-put_headers.gone)
    (puts_quiet first c.args.arrays (Ok tt) c.requires.arrays c.in_default.ensures.puts c.in_default-sync_first.ensures.syncs) c.in-Err-put_headers.ensures.puts

pub returns-clause-puts : goal.returns-clause-puts
returns-clause-puts g c =
    let first = firsts c.args.pool.now.0 (g.R.Rack.seen c.args.rack.now).sectors c.args.starts.now c.args.text.now c.args.arrays in
    puts_quiet (first ++ headers c.args.starts.now c.args.text.now c.args.arrays) c.args.arrays c.sync_first-2.result c.requires.arrays
    (puts_then first (headers c.args.starts.now c.args.text.now c.args.arrays) (Ok tt)
    (puts_quiet first c.args.arrays (Ok tt) c.requires.arrays c.in_default.ensures.puts c.in_default-sync_first.ensures.syncs) c.in_default-put_headers.ensures.puts)
    c.sync_first-2.ensures.syncs

pub returns-clause-single : goal.returns-clause-single
returns-clause-single g c =
    let first = firsts c.args.pool.now.0 (g.R.Rack.seen c.args.rack.now).sectors c.args.starts.now c.args.text.now c.args.arrays in
    let puts = puts_then first (headers c.args.starts.now c.args.text.now c.args.arrays) (Ok tt)
    (puts_quiet first c.args.arrays (Ok tt) c.requires.arrays c.in_default.ensures.puts c.in_default-sync_first.ensures.syncs) c.in_default-put_headers.ensures.puts in
    single_then (g.R.Rack.seen c.args.rack.now) (g.R.Rack.seen c.put_headers.new.rack) (g.R.Rack.seen c.sync_first-2.new.rack) c.args.arrays c.sync_first-2.result puts.only.stays c.sync_first-2.ensures.syncs.done

pub returns-in-Err-sync_first-clause-stops : goal.returns-in-Err-sync_first-clause-stops
returns-in-Err-sync_first-clause-stops g c =
    let first = firsts c.args.pool.now.0 (g.R.Rack.seen c.args.rack.now).sectors c.args.starts.now c.args.text.now c.args.arrays in
    turn_cut first (headers c.args.starts.now c.args.text.now c.args.arrays) c.args.arrays (Err c.in-Err-sync_first.gone)
    (puts_quiet first c.args.arrays (Err c.in-Err-sync_first.gone) c.requires.arrays c.in_default.ensures.puts c.in-Err-sync_first.ensures.syncs)

pub returns-in-Err-put_headers-clause-stops : goal.returns-in-Err-put_headers-clause-stops
returns-in-Err-put_headers-clause-stops g c =
    let first = firsts c.args.pool.now.0 (g.R.Rack.seen c.args.rack.now).sectors c.args.starts.now c.args.text.now c.args.arrays in
    turn_then {m = g.R.Rack.seen c.sync_first.new.rack} first (headers c.args.starts.now c.args.text.now c.args.arrays) c.args.arrays (Err c.in-Err-put_headers.gone)
    (puts_quiet first c.args.arrays (Ok tt) c.requires.arrays c.in_default.ensures.puts c.in_default-sync_first.ensures.syncs)
    (single_later (g.R.Rack.seen c.args.rack.now) (g.R.Rack.seen c.put_firsts.new.rack) (g.R.Rack.seen c.sync_first.new.rack) c.args.arrays c.in_default.ensures.puts.only.stays c.in_default-sync_first.ensures.syncs.done)
    c.in-Err-put_headers.ensures.puts

pub returns-clause-stops : goal.returns-clause-stops
returns-clause-stops g c =
    let first = firsts c.args.pool.now.0 (g.R.Rack.seen c.args.rack.now).sectors c.args.starts.now c.args.text.now c.args.arrays in
    let puts = puts_quiet first c.args.arrays (Ok tt) c.requires.arrays c.in_default.ensures.puts c.in_default-sync_first.ensures.syncs in
    let stays = puts.only.stays in
    turn_then {m = g.R.Rack.seen c.sync_first.new.rack} first (headers c.args.starts.now c.args.text.now c.args.arrays) c.args.arrays c.sync_first-2.result puts
    (single_later (g.R.Rack.seen c.args.rack.now) (g.R.Rack.seen c.put_firsts.new.rack) (g.R.Rack.seen c.sync_first.new.rack) c.args.arrays c.in_default.ensures.puts.only.stays c.in_default-sync_first.ensures.syncs.done)
    (puts_quiet (headers c.args.starts.now c.args.text.now c.args.arrays) c.args.arrays c.sync_first-2.result (subst (λ n. c.args.arrays ≤ n) (sym stays.disks) c.requires.arrays) c.in_default-put_headers.ensures.puts c.sync_first-2.ensures.syncs)

pub returns-in-Err-clause-several : goal.returns-in-Err-clause-several
returns-in-Err-clause-several g c =
    several_fewer g.R.Rack.once (514 * c.args.arrays) (517 * c.args.arrays) _ _ (omega arith) c.in-Err.ensures.several

pub returns-in-Err-sync_first-clause-several : goal.returns-in-Err-sync_first-clause-several
returns-in-Err-sync_first-clause-several g c =
    several_join g.R.Rack.once (514 * c.args.arrays) c.args.arrays (517 * c.args.arrays) _ _ _ (omega arith) c.in_default.ensures.several c.in-Err-sync_first.ensures.several

pub returns-in-Err-put_headers-clause-several : goal.returns-in-Err-put_headers-clause-several
returns-in-Err-put_headers-clause-several g c =
    several_join g.R.Rack.once (515 * c.args.arrays) c.args.arrays (517 * c.args.arrays) _ _ _ (omega arith)
    (several_join g.R.Rack.once (514 * c.args.arrays) c.args.arrays (515 * c.args.arrays) _ _ _ (omega arith) c.in_default.ensures.several c.in_default-sync_first.ensures.several) c.in-Err-put_headers.ensures.several

pub returns-clause-several : goal.returns-clause-several
returns-clause-several g c =
    several_join g.R.Rack.once (516 * c.args.arrays) c.args.arrays (517 * c.args.arrays) _ _ _ (omega arith)
    (several_join g.R.Rack.once (515 * c.args.arrays) c.args.arrays (516 * c.args.arrays) _ _ _ (omega arith)
    (several_join g.R.Rack.once (514 * c.args.arrays) c.args.arrays (515 * c.args.arrays) _ _ _ (omega arith) c.in_default.ensures.several c.in_default-sync_first.ensures.several) c.in_default-put_headers.ensures.several) c.sync_first-2.ensures.several
