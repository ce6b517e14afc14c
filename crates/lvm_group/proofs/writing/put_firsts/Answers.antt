use Rattle.std.proofs.Common.{◌≡◌, ℕ, ◌+◌, ◌*◌, ◌<◌, List, Ok, refl, subst, inl, inr, arith}
use Rattle.std.proofs.lemmas.Bool.{cases_lt}
use Rattle.lvm_label.specs.Label.{IsLabel}
use Rattle.rack.specs.Seen.{RackView}
use Rattle.rack.specs.Targets.{Target}
use Rattle.lvm_group.specs.declared.starts.TextStart.{TextStart}
use Rattle.lvm_group.specs.Writing.{Puts, first_targets, own_label, targets_to}
use Rattle.lvm_group.proofs.Calls.{several_join, several_same}
use Rattle.lvm_group.proofs.Putting.{puts_start, puts_more, puts_refused, puts_all}
use Rattle.lvm_group.proofs.writing.put_firsts.Goals as goal

-- the arrays' sectors stay
same_targets : {a b : RackView} (pool : List ℕ) (starts : List TextStart) (text : List ℕ) (n array : ℕ) → Puts a b (targets_to (first_targets pool a.sectors starts text) n) {X = Unit {0}} (Ok tt)
    → first_targets pool b.sectors starts text array ≡ first_targets pool a.sectors starts text array
same_targets {a} {b} pool starts text n array puts = rw (puts.only.stays.sectors array) refl

one_label : {a b : RackView} (pool : List ℕ) (n array : ℕ) (xs : List Target) → Puts a b xs {X = Unit {0}} (Ok tt) → ((k : ℕ) → k < n → IsLabel (own_label pool k (a.sectors k))) → IsLabel (own_label pool n (b.sectors n)) → array < n + 1
    → IsLabel (own_label pool array (a.sectors array))
one_label {a} {b} pool n array xs puts before here below = elim (cases_lt array n) [
  | inl less ↦ before array less
  | inr last ↦
      let same : n ≡ array = omega arith in
      subst (λ k. IsLabel (own_label pool k (a.sectors k))) same (subst (λ size. IsLabel (own_label pool n size)) (puts.only.stays.sectors n) here)
]

pub loop-array-init : goal.loop-array-init
loop-array-init g c = record {
  puts = puts_start (g.R.Rack.seen c.args.rack.now) (first_targets c.args.pool.now.0 (g.R.Rack.seen c.args.rack.now).sectors c.args.starts.now c.args.text.now) c.requires.fit;
  labels = λ array below. absurd (omega arith);
  several = several_same g.R.Rack.once 0 c.args.rack.now;
  runs = g.met.R.Rack.runs_same c.args.rack.now;
}

pub returns-in-Err-clause-puts : goal.returns-in-Err-clause-puts
returns-in-Err-clause-puts g c =
    puts_refused (first_targets c.args.pool.now.0 (g.R.Rack.seen c.args.rack.now).sectors c.args.starts.now c.args.text.now) (first_targets c.args.pool.now.0 (g.R.Rack.seen c.loop-array.rack).sectors c.args.starts.now c.args.text.now c.loop-array.array)
    c.loop-array.array c.args.arrays c.in-Err.gone c.loop-array-test.true (same_targets c.args.pool.now.0 c.args.starts.now c.args.text.now c.loop-array.array c.loop-array.array c.loop-array.invariant.puts) c.loop-array.invariant.puts
    c.in-Err.ensures.puts

pub loop-array-preserved : goal.loop-array-preserved
loop-array-preserved g c = record {
  puts = puts_more (first_targets c.args.pool.now.0 (g.R.Rack.seen c.args.rack.now).sectors c.args.starts.now c.args.text.now) (first_targets c.args.pool.now.0 (g.R.Rack.seen c.loop-array.rack).sectors c.args.starts.now c.args.text.now c.loop-array.array)
      c.loop-array.array (c.loop-array.array + 1) (omega arith) (same_targets c.args.pool.now.0 c.args.starts.now c.args.text.now c.loop-array.array c.loop-array.array c.loop-array.invariant.puts) c.loop-array.invariant.puts
      c.in_default.ensures.puts;
  labels = λ array below. one_label c.args.pool.now.0 c.loop-array.array array (targets_to (first_targets c.args.pool.now.0 (g.R.Rack.seen c.args.rack.now).sectors c.args.starts.now c.args.text.now) c.loop-array.array) c.loop-array.invariant.puts
      c.loop-array.invariant.labels c.in_default.ensures.is_label below;
  several = several_join g.R.Rack.once (514 * c.loop-array.array) 514 (514 * (c.loop-array.array + 1)) _ _ _ (omega arith) c.loop-array.invariant.several c.in_default.ensures.several;
  runs = g.met.R.Rack.runs_then _ _ _ c.loop-array.invariant.runs c.in_default.ensures.runs;
}

pub returns-clause-puts : goal.returns-clause-puts
returns-clause-puts g c =
    puts_all (first_targets c.args.pool.now.0 (g.R.Rack.seen c.args.rack.now).sectors c.args.starts.now c.args.text.now) c.loop-array.array c.args.arrays (let b = c.loop-array-test.false in omega arith) c.loop-array.invariant.puts

pub returns-in-Err-clause-several : goal.returns-in-Err-clause-several
returns-in-Err-clause-several g c =
    let test = c.loop-array-test.true in
    several_join g.R.Rack.once (514 * c.loop-array.array) 514 (514 * c.args.arrays) _ _ _ (omega arith) c.loop-array.invariant.several c.in-Err.ensures.several
