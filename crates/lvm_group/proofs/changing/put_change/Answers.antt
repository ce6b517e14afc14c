use Rattle.std.proofs.Common.{◌≡◌, ℕ, ◌*◌, ◌<◌, List, [], Ok, Err, true, sym, subst, arith}
use Rattle.rack.specs.declared.Gone.{Gone}
use Rattle.rack.specs.Targets.{Target, look}
use Rattle.rack.specs.Seen.{RackView, Rose}
use Rattle.rack.specs.Moments.{Leaves}
use Rattle.rack.specs.Sequences.{IsPayload, OnlyReads}
use Rattle.rack.proofs.Writing.{only_quiet}
use Rattle.lvm_group.specs.declared.starts.TextStart.{TextStart}
use Rattle.lvm_group.specs.Writing.{AreStarts, Puts, first_targets, header_target, new_targets, targets_to}
use Rattle.lvm_group.specs.Changing.{AreBehind, IsInTurn}
use Rattle.rack.proofs.Calling.{several_fewer}
use Rattle.lvm_group.proofs.Calls.{several_join}
use Rattle.lvm_group.proofs.Putting.{puts_cut, puts_then, single_then}
use Rattle.lvm_group.proofs.Turns.{turn_behind, turn_cut}
use Rattle.lvm_group.proofs.TextStarts.{starts_behind, starts_in, starts_inside}
use Rattle.lvm_group.proofs.changing.put_change.Goals as goal

-- reads write nothing
reads_none : {a b : RackView} → OnlyReads a b → Puts a b [] {X = Unit {0}} (Ok tt)
unfolding look
reads_none looks = record { only = only_quiet (IsPayload []) looks.stays looks.keeps; gone = tt; spent = λ steady. tt; done = λ d s w live at. cc }

reads_gone : {a b : RackView} (gone : Gone) → OnlyReads a b → (gone.disk < a.disks) × Rose (a.faults gone.disk) (b.faults gone.disk) → (a.steady → b.spent gone.disk 8 ≡ true) → Puts a b [] {X = Unit {0}} (Err gone)
reads_gone gone looks cause spent = record { only = only_quiet (IsPayload []) looks.stays looks.keeps; gone = cause; spent = λ steady. (8, spent steady); done = tt }

pub returns-in-Err-clause-changes : goal.returns-in-Err-clause-changes
returns-in-Err-clause-changes g c =
    let a = g.R.Rack.seen c.args.rack.now in
    let n = c.args.arrays in
    let starts = starts_in a n in
    let puts = λ (xs : List Target). puts_cut [] xs c.in-Err.gone (reads_gone c.in-Err.gone c.in-Err.ensures.looks c.in-Err.ensures.gone c.in-Err.ensures.spent) in
    let first = targets_to (first_targets c.args.pool.now.0 a.sectors starts c.args.text.now) n in
    record {
      starts = starts;
      inside = starts_inside a n;
      behind = starts_behind a n;
      puts = puts (new_targets c.args.pool.now.0 a.sectors starts c.args.text.now n);
      stops = turn_cut first (targets_to (header_target starts c.args.text.now) n) n (Err c.in-Err.gone) (puts first);
      single = tt;
    }

pub returns-clause-changes : goal.returns-clause-changes
returns-clause-changes g c =
    let a = g.R.Rack.seen c.args.rack.now in
    let x = g.R.Rack.seen c.read_starts.new.rack in
    let b = g.R.Rack.seen c.put_new.new.rack in
    let n = c.args.arrays in
    let starts = c.as_slice.result.now in
    let looks = c.in-Ok.ensures.looks in
    let sectors : x.sectors ≡ a.sectors = λ i d. looks.stays.sectors d i in
    let puts = puts_then [] (new_targets c.args.pool.now.0 x.sectors starts c.args.text.now n) c.put_new.result (reads_none looks) c.put_new.ensures.puts in
    record {
      starts = starts;
      inside = subst AreStarts (sym c.as_slice.ensures.value) c.in-Ok.ensures.inside;
      behind = subst (λ (starts : List TextStart). AreBehind a n starts) (sym c.as_slice.ensures.value) c.in-Ok.ensures.behind;
      puts = subst (λ (f : ℕ → ℕ). Puts a b (new_targets c.args.pool.now.0 f starts c.args.text.now n) c.put_new.result) sectors puts;
      stops = subst (λ (f : ℕ → ℕ). a.traced → Leaves a b (IsInTurn a b (targets_to (first_targets c.args.pool.now.0 f starts c.args.text.now) n) (targets_to (header_target starts c.args.text.now) n) n)) sectors
          (turn_behind (targets_to (first_targets c.args.pool.now.0 x.sectors starts c.args.text.now) n) (targets_to (header_target starts c.args.text.now) n) n looks c.put_new.ensures.puts.only.stays c.put_new.ensures.stops);
      single = single_then a x b n c.put_new.result looks.stays c.put_new.ensures.single;
    }

pub returns-in-Err-clause-several : goal.returns-in-Err-clause-several
returns-in-Err-clause-several g c =
    several_fewer g.R.Rack.once c.args.arrays (518 * c.args.arrays) _ _ (omega arith) c.in-Err.ensures.several

pub returns-clause-several : goal.returns-clause-several
returns-clause-several g c =
    several_join g.R.Rack.once c.args.arrays (517 * c.args.arrays) (518 * c.args.arrays) _ _ _ (omega arith) c.in-Ok.ensures.several c.put_new.ensures.several
