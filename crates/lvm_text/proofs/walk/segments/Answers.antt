use Rattle.std.proofs.lemmas.Result.{err_from_is_err_and}
use Rattle.lvm_text.specs.Group.{segments_at}
use Rattle.lvm_text.proofs.Faults.{segments_go_on, segments_fail, segments_done}
use Rattle.lvm_text.proofs.walk.segments.Goals as goal

pub returns-in_err-numbered_segment : goal.returns-in_err-numbered_segment
returns-in_err-numbered_segment c =
    let p = err_from_is_err_and c.from_residual-in_err-numbered_segment.result c.from_residual-in_err-numbered_segment.ensures.1 in
    rw (p.1, p.2) (segments_fail c.in_err-numbered_segment.field-0.0 c.loop-before.segments c.args.count c.loop-before.before c.args.words.now (segments_at c.args.count 1 c.args.words.now)
    c.loop-before-test.true c.in_err-numbered_segment.ensures c.loop-before.invariant)

pub loop-before-preserved : goal.loop-before-preserved
loop-before-preserved c =
    segments_go_on c.loop-before.segments c.push.new.self c.in_ok-numbered_segment.field-0 c.args.count c.loop-before.before c.args.words.now (segments_at c.args.count 1 c.args.words.now)
    c.loop-before-test.true c.in_ok-numbered_segment.ensures c.in_ok-push.ensures.ok c.loop-before.invariant

pub returns : goal.returns
returns c =
    segments_done c.loop-before.segments c.args.count c.loop-before.before c.args.words.now (segments_at c.args.count 1 c.args.words.now)
    c.loop-before-test.false c.loop-before.invariant
