use Rattle.std.proofs.Common.{◌≡◌, ℕ, ◌+◌, ◌/◌, List, [], ◌∷◌, refl, arith, length}
use Rattle.rack.proofs.Calling.{several_fewer}
use Rattle.lvm_group.proofs.Calls.{several_join, several_same}
use Rattle.rack.specs.Targets.{Target, target}
use Rattle.lvm_group.specs.Writing.{piece, place_at}
use Rattle.lvm_group.proofs.Putting.{puts_start, puts_more, puts_all, puts_refused}
use Rattle.lvm_group.proofs.writing.put_text.Goals as goal

abbrev text_target : ℕ → ℕ → List ℕ → ℕ → List Target
text_target array first text k = target array (place_at first k) (piece text k) ∷ []

is_target : (array first k place : ℕ) (text bytes : List ℕ) → place ≡ place_at first k → bytes ≡ piece text k → (target array place bytes ∷ []) ≡ text_target array first text k
is_target array first k place text bytes place_is bytes_is = rw (place_is, bytes_is) refl

pub loop-k-init : goal.loop-k-init
loop-k-init g c = record {
  puts = puts_start (g.R.Rack.seen c.args.rack.now) (text_target c.args.array c.args.first c.args.text.now) c.requires.fit;
  several = several_same g.R.Rack.once 0 c.args.rack.now;
  runs = g.met.R.Rack.runs_same c.args.rack.now;
}

pub returns-in-Err-clause-puts : goal.returns-in-Err-clause-puts
returns-in-Err-clause-puts g c =
    puts_refused (text_target c.args.array c.args.first c.args.text.now) (target c.args.array c.place_at.result c.piece.result ∷ []) c.loop-k.k ((length c.args.text.now + 511) / 512) c.in-Err.gone c.loop-k-test.true
    (is_target c.args.array c.args.first c.loop-k.k c.place_at.result c.args.text.now c.piece.result c.place_at.ensures c.piece.ensures) c.loop-k.invariant.puts c.in-Err.ensures.puts

pub returns-in-Err-clause-several : goal.returns-in-Err-clause-several
returns-in-Err-clause-several g c =
    let short = c.requires.short in
    let test = c.loop-k-test.true in
    several_join g.R.Rack.once c.loop-k.k 1 512 _ _ _ (omega arith) c.loop-k.invariant.several c.in-Err.ensures.several

pub loop-k-preserved : goal.loop-k-preserved
loop-k-preserved g c = record {
  puts = puts_more (text_target c.args.array c.args.first c.args.text.now) (target c.args.array c.place_at.result c.piece.result ∷ []) c.loop-k.k (c.loop-k.k + 1) (omega arith)
      (is_target c.args.array c.args.first c.loop-k.k c.place_at.result c.args.text.now c.piece.result c.place_at.ensures c.piece.ensures) c.loop-k.invariant.puts c.in_default.ensures.puts;
  several = several_join g.R.Rack.once c.loop-k.k 1 (c.loop-k.k + 1) _ _ _ (omega arith) c.loop-k.invariant.several c.in_default.ensures.several;
  runs = g.met.R.Rack.runs_then _ _ _ c.loop-k.invariant.runs c.in_default.ensures.runs;
}

pub returns-clause-puts : goal.returns-clause-puts
returns-clause-puts g c = puts_all (text_target c.args.array c.args.first c.args.text.now) c.loop-k.k ((length c.args.text.now + 511) / 512) (let b = c.loop-k-test.false in omega arith) c.loop-k.invariant.puts

pub returns-clause-several : goal.returns-clause-several
returns-clause-several g c =
    let short = c.requires.short in
    let end = c.loop-k-test.false in
    several_fewer g.R.Rack.once c.loop-k.k 512 _ _ (omega arith) c.loop-k.invariant.several
