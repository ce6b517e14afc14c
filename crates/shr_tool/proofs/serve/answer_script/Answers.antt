-- Each line adds its event to those answered.
use Rattle.std.proofs.Common.{◌≡◌, ◌++◌, ◌^◌, refl, ◌∙◌, ap, arith}
use Rattle.shr_script.specs.Line.{line_of}
use Rattle.shr_script.specs.Script.{without_return}
use Rattle.shr_script.specs.LongLines.{line_of-kept}
use Rattle.raid_rack.specs.RaidRack.{slices_in}
use Rattle.pool.proofs.Continuing.{proceeds_same, proceeds_then}
use Rattle.pool.specs.View.{arrays_of, bay_in, view}
use Rattle.shr_tool.proofs.History.{history_none}
use Rattle.shr_tool.proofs.Limits.{passed_none, passed_line, part_within, line_within, most_over}
use Rattle.shr_tool.proofs.Stopping.{line_answered, line_stopped, last_answered, line_script, last_script, last_length, limit_stopped, no_limit, serves_as, source_stopped}
use Rattle.shr_tool.proofs.serve.answer_script.Goals as goal

pub lines-init : goal.lines-init
lines-init g c =
    let left = g.I.Source.left c.args.input.now in
    record {
      frame = g.met.R.Bay.frame_same _;
      proceeds = proceeds_same _ c.requires;
      source = omega arith;
      sink = omega arith;
      source_told = λ told. told;
      sink_told = λ told. told;
      within = let none = c.new-reader.ensures.taken in omega arith;
      passed =
          λ source.
          passed_none _ _ _ (ap (λ xs. xs ++ left) c.new-reader.ensures.pending) c.new-reader.ensures.consumed;
      history =
          λ source sink.
          history_none _ _ _ _ _ c.requires (g.met.R.Bay.unspent (bay_in c.args.pool.now), g.met.R.Rack.sound (bay_in c.args.pool.now), (slices_in (arrays_of c.args.pool.now)).orderly) (ap (λ xs. xs ++ left) c.new-reader.ensures.pending) c.new-reader.ensures.consumed;
    }

pub returns-in-Fault-clause-serves : goal.returns-in-Fault-clause-serves
returns-in-Fault-clause-serves g c =
    λ source sink.
    serves_as _ _ _ _ _ _ _ _ _ _ c.stop_at.ensures.cause c.stop_at.ensures.worst
    (source_stopped _ _ _ _ _ _ _ _ _ _ _ _
    (c.lines.invariant.history source sink)
    (c.in-Fault.ensures.read (c.lines.invariant.source_told source))
    (ap (λ xs. xs ++ g.I.Source.left c.next.new.input) (c.next.ensures.emptied c.in-Fault.is)))

pub returns-in-Limit-clause-serves : goal.returns-in-Limit-clause-serves
returns-in-Limit-clause-serves g c =
    λ source sink.
    serves_as _ _ _ _ _ _ _ _ _ _ c.stop_at-in-Limit.ensures.cause c.stop_at-in-Limit.ensures.worst
    (limit_stopped _ _ _ _ _ _ _ _ _ _ _ _
    (c.lines.invariant.history source sink)
    (c.in-Limit.ensures.read (c.lines.invariant.source_told source)))

pub returns-in-Input-clause-serves : goal.returns-in-Input-clause-serves
returns-in-Input-clause-serves g c =
    λ source sink.
    let h = c.lines.invariant.history source sink in
    let r = c.in-Input.ensures.read (c.lines.invariant.source_told source) in
    let is : line_of (without_return c.line.result.now) ≡ line_of (without_return r.part.bytes) =
    ap (λ xs. line_of (without_return xs)) (c.line.ensures ∙ r.part.kept) ∙ line_of-kept r.part.bytes in
    last_answered (view g.R.Rack.seen g.R.Bay.shelf) (λ r. (g.met.R.Bay.unspent (bay_in r), g.met.R.Rack.sound (bay_in r), (slices_in (arrays_of r)).orderly)) _ _ _ _ _ _ _ _ _ _ h.lines _ _ h.so_far
    (last_script _ _ _ _ _ _ _ _ _ _ _ h r _ is)
    (last_length _ _ _ _ _ _ _ _ _ _ _ h r (let within = c.next.ensures.within (λ same. cc) in omega arith))
    (c.answer_last.ensures.answers (c.lines.invariant.sink_told sink))

pub lines-preserved : goal.lines-preserved
lines-preserved g c =
    let before = c.lines.invariant in
    record {
      frame = g.met.R.Bay.frame_then _ _ _ before.frame c.answer_line.ensures.frame;
      proceeds = proceeds_then _ _ _ before.proceeds c.answer_line.ensures.proceeds;
      source = let old = before.source in let now = c.next.ensures.faults in omega arith;
      sink = let old = before.sink in let now = c.answer_line.ensures.sink in omega arith;
      source_told = λ told. c.next.ensures.told (before.source_told told);
      sink_told = λ told. c.answer_line.ensures.told (before.sink_told told);
      within = c.next.ensures.within (λ same. cc);
      passed =
          λ source.
          let r = c.in-LineFeed.ensures.read (before.source_told source) in
          let is : line_of (without_return c.line-in-lines.result.now) ≡ line_of (without_return r.part.bytes) =
          ap (λ xs. line_of (without_return xs)) (c.line-in-lines.ensures ∙ r.part.kept)
          ∙ line_of-kept r.part.bytes in
          passed_line _ _ _ _ _ _ (before.passed source) r (λ same. c.in-Ok.ensures.goes_on refl (is ∙ same));
      history =
          λ source sink.
          let h = before.history source sink in
          let r = c.in-LineFeed.ensures.read (before.source_told source) in
          let is : line_of (without_return c.line-in-lines.result.now) ≡ line_of (without_return r.part.bytes) =
          ap (λ xs. line_of (without_return xs)) (c.line-in-lines.ensures ∙ r.part.kept)
          ∙ line_of-kept r.part.bytes in
          line_answered (view g.R.Rack.seen g.R.Bay.shelf) (λ r. (g.met.R.Bay.unspent (bay_in r), g.met.R.Rack.sound (bay_in r), (slices_in (arrays_of r)).orderly)) _ _ _ _ _ _ _ _ _ _ _ _ _ _ _ _ h r is
          c.worse-worst.ensures
          (c.in-Ok.ensures.answers (before.sink_told sink));
    }

pub returns-in-Err-clause-serves : goal.returns-in-Err-clause-serves
returns-in-Err-clause-serves g c =
    λ source sink.
    let h = c.lines.invariant.history source sink in
    let r = c.in-LineFeed.ensures.read (c.lines.invariant.source_told source) in
    let is : line_of (without_return c.line-in-lines.result.now) ≡ line_of (without_return r.part.bytes) =
    ap (λ xs. line_of (without_return xs)) (c.line-in-lines.ensures ∙ r.part.kept)
    ∙ line_of-kept r.part.bytes in
    serves_as _ _ _ _ _ _ _ _ _ _ c.stop_at-in-Err.ensures.cause c.stop_at-in-Err.ensures.worst
    (line_stopped (view g.R.Rack.seen g.R.Bay.shelf) (λ r. (g.met.R.Bay.unspent (bay_in r), g.met.R.Rack.sound (bay_in r), (slices_in (arrays_of r)).orderly)) _ _ _ _ _ _ _ _ _ h.lines _ _ c.in-Err.cause h.so_far
    (line_script _ _ _ _ _ _ _ _ _ _ _ h r _ is)
    (c.in-Err.ensures.answers (c.lines.invariant.sink_told sink)))

pub returns-in-Input-clause-proceeds : goal.returns-in-Input-clause-proceeds
returns-in-Input-clause-proceeds g c = proceeds_then _ _ _ c.lines.invariant.proceeds c.answer_last.ensures.proceeds

pub returns-in-Err-clause-proceeds : goal.returns-in-Err-clause-proceeds
returns-in-Err-clause-proceeds g c = proceeds_then _ _ _ c.lines.invariant.proceeds c.answer_line.ensures.proceeds

pub returns-in-Fault-clause-limit : goal.returns-in-Fault-clause-limit
returns-in-Fault-clause-limit g c =
    λ source.
    let reader = c.next.new.self in
    part_within _ (2 ^ 32) _ _ (g.I.Source.left c.next.new.input) _ reader.piece reader.start reader.end _ _
    (c.lines.invariant.passed source)
    (c.in-Fault.ensures.read (c.lines.invariant.source_told source))
    reader.size reader.in_piece
    (c.next.ensures.within (λ same. cc))
    (no_limit _ _ c.stop_at.ensures.cause (λ same. cc))

pub returns-in-Limit-clause-limit : goal.returns-in-Limit-clause-limit
returns-in-Limit-clause-limit g c =
    λ source.
    let reader = c.next.new.self in
    most_over _ (2 ^ 32) _ _ (g.I.Source.left c.next.new.input) _ reader.piece reader.start reader.end _ _
    (c.lines.invariant.passed source)
    (c.in-Limit.ensures.read (c.lines.invariant.source_told source))
    reader.size reader.in_piece
    (c.next.ensures.past c.in-Limit.is)
    c.stop_at-in-Limit.ensures.cause

pub returns-in-Input-clause-limit : goal.returns-in-Input-clause-limit
returns-in-Input-clause-limit g c =
    λ source.
    let reader = c.next.new.self in
    part_within _ (2 ^ 32) _ _ (g.I.Source.left c.next.new.input) _ reader.piece reader.start reader.end _ _
    (c.lines.invariant.passed source)
    (c.in-Input.ensures.read (c.lines.invariant.source_told source)).part
    reader.size reader.in_piece
    (c.next.ensures.within (λ same. cc))
    c.answer_last.ensures.other

pub returns-in-Err-clause-limit : goal.returns-in-Err-clause-limit
returns-in-Err-clause-limit g c =
    λ source.
    let reader = c.next.new.self in
    line_within _ (2 ^ 32) _ _ (g.I.Source.left c.next.new.input) _ reader.piece reader.start reader.end _ _
    (c.lines.invariant.passed source)
    (c.in-LineFeed.ensures.read (c.lines.invariant.source_told source))
    reader.size reader.in_piece
    (c.next.ensures.within (λ same. cc))
    (no_limit _ _ c.stop_at-in-Err.ensures.cause c.in-Err.ensures.other)
