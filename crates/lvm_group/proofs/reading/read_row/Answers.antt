use Rattle.std.proofs.Common.{◌≡◌, ◌+◌, ◌-◌, ◌/◌, ◌%◌, ◌++◌, ℕ, List, length, take, drop, length-append, ◌∙◌, ap, arith, sym}
use Rattle.lvm_group.specs.Parts.{behind, row_at}
use Rattle.lvm_group.specs.Reading.{held_on}
use Rattle.rack.proofs.Calling.{several_fewer}
use Rattle.lvm_group.proofs.Calls.{several_join}
use Rattle.lvm_group.proofs.Looking.{looks_then, now_later}
use Rattle.lvm_group.proofs.RowRead.{row_past, row_refused, row_on, piece_long}
use Rattle.lvm_group.proofs.reading.read_row.Goals as goal

pub returns-then-from-clause-none : goal.returns-then-from-clause-none
returns-then-from-clause-none g c none now is =
    row_past (g.R.Rack.seen c.args.rack.now) c.args.array now c.args.from c.args.count (omega arith) (omega arith)

pub returns-in_default-clause-none : goal.returns-in_default-clause-none
returns-in_default-clause-none g c none now is =
    let before = c.loop-left.invariant.looks in
    row_refused c.args.array now c.args.from c.args.count c.loop-left.at before c.in_default.ensures.looks c.loop-left.invariant.starts (omega arith)
    (c.in_default.ensures.value now (now_later c.args.array now c.requires.array before is))

pub returns-in_default-clause-several : goal.returns-in_default-clause-several
returns-in_default-clause-several g c =
    let some = c.loop-left-test.true in
    let ends = c.loop-left.invariant.ends in
    let starts = c.loop-left.invariant.starts in
    several_join g.R.Rack.once (c.loop-left.at / 512 - c.args.from / 512) 1 (c.args.count / 512 + 2) _ _ _ (omega arith) (c.loop-left.invariant.passed some) c.in_default.ensures.several

pub returns-clause-several : goal.returns-clause-several
returns-clause-several g c =
    let ends = c.loop-left.invariant.ends in
    let starts = c.loop-left.invariant.starts in
    several_fewer g.R.Rack.once (c.loop-left.at / 512 - c.args.from / 512 + 1) (c.args.count / 512 + 2) _ _ (omega arith) c.loop-left.invariant.several

pub loop-left-preserved : goal.loop-left-preserved
loop-left-preserved g c =
    let piece = c.min-piece.result in
    let at = c.loop-left.at in
    let left = c.loop-left.left in
    let front = c.loop-left.into.bytes in
    let least = c.min-piece.ensures in
    let starts = c.loop-left.invariant.starts in
    let ends = c.loop-left.invariant.ends in
    let inside = c.loop-left.invariant.inside in
    let some = c.loop-left-test.true in
    let cut : at % 512 + piece - at % 512 ≡ piece = omega arith in
    let appended : c.append.new.self.bytes ≡ front ++ take piece (drop (at % 512) c.in-Some.bytes) =
    c.append.ensures.bytes ∙ ap (λ n. front ++ take n (drop (at % 512) c.in-Some.bytes)) cut in
    let long : length c.append.new.self.bytes ≡ length front + piece =
    ap length appended ∙ length-append front (take piece (drop (at % 512) c.in-Some.bytes))
    ∙ ap (λ n. length front + n) (piece_long (at % 512) piece c.in-Some.bytes (omega (arith, c.in-Some.ensures.whole))) in
    let room = c.loop-left.invariant.room in
    let kept = c.loop-left.invariant.kept in
    let short = c.loop-left.invariant.short in
    let more = c.append.ensures.room in
    record {
      looks = looks_then c.loop-left.invariant.looks c.in-Some.ensures.looks;
      runs = g.met.R.Rack.runs_then _ _ _ c.loop-left.invariant.runs c.in-Some.ensures.runs;
      unwritten = g.met.R.Rack.unwritten_then _ _ _ c.loop-left.invariant.unwritten c.in-Some.ensures.unwritten;
      several = several_fewer g.R.Rack.once (at / 512 - c.args.from / 512 + 1) _ _ _ (omega arith)
          (several_join g.R.Rack.once (at / 512 - c.args.from / 512) 1 (at / 512 - c.args.from / 512 + 1) _ _ _ (omega arith) (c.loop-left.invariant.passed some) c.in-Some.ensures.several);
      passed = λ more.
          several_join g.R.Rack.once (at / 512 - c.args.from / 512) 1 _ _ _ _ (omega (arith, more)) (c.loop-left.invariant.passed some) c.in-Some.ensures.several;
      starts = omega arith;
      ends = omega arith;
      inside = inside;
      bounded = c.loop-left.invariant.bounded;
      room = omega (arith, long);
      short = omega (arith, long);
      kept = omega arith;
      bytes = λ now is.
          c.loop-left.invariant.bytes now is
          ∙ row_on c.args.array now at left piece c.in-Some.bytes front c.loop-left.invariant.looks (omega arith) (omega arith) c.in-Some.ensures.whole (omega arith) (omega arith)
          (c.in-Some.ensures.value now (now_later c.args.array now c.requires.array c.loop-left.invariant.looks is))
          ∙ ap (λ (bytes : List ℕ). behind bytes (row_at (held_on (g.R.Rack.seen c.args.rack.now) c.args.array now) (at + piece) (left - piece))) (sym appended);
    }
