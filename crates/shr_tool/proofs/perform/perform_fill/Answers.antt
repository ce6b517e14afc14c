-- The sectors are inside, or the fill is refused.
use Rattle.std.proofs.Common.{◌+◌, ◌<◌, ◌≤◌, refl, sym, Ok, arith}
use Rattle.shr_script.specs.declared.Command.TheVariants.{Fill}
use Rattle.pool.specs.View.{view}
use Rattle.pool.specs.Volume.{size_of}
use Rattle.shr_tool.specs.Events.Event.{answered, spent}
use Rattle.pool.proofs.Serving.{sound_in}
use Rattle.shr_tool.proofs.Performing.{fill_done, fill_outside, fill_spent}
use Rattle.shr_tool.proofs.perform.perform_fill.Goals as goal
use Rattle.shr_tool.proofs.perform.perform_fill.Goals.{then-count-size-via-then-count-size, then-count-size-via-else-count-size+then-sector-size}

pub returns-then-count-size-clause-answers : goal.returns-then-count-size-clause-answers
returns-then-count-size-clause-answers g c =
    let pool = c.args.pool.now in
    let size = c.size-size.ensures.size in
    let past : size_of (view g.R.Rack.seen g.R.Bay.shelf pool) < c.args.sector + c.args.count =
    elim c.then-count-size.branch [
      | then-count-size-via-then-count-size w ↦ let many = w.if-count-size.true in omega arith
      | then-count-size-via-else-count-size+then-sector-size w ↦
          let few = w.if-count-size.false in let late = w.if-sector-size.true in omega arith
    ] in
    record {
      event = answered (Ok (Fill c.args.sector c.args.count c.args.byte));
      line_is = refl;
      answer_is = refl;
      performs =
          fill_outside _ c.args.sector c.args.count c.args.byte _ c.requires
          (sound_in g.R.Rack.seen g.R.Bay.shelf g.met.R.Rack.sound pool c.requires)
          past c.refused_reply.ensures;
    }

pub returns-in-Ok-clause-answers : goal.returns-in-Ok-clause-answers
returns-in-Ok-clause-answers g c =
    let size = c.size-size.ensures.size in
    let few = c.if-count-size.false in
    let early = c.if-sector-size.false in
    let inside : c.args.sector + c.args.count ≤ size_of (view g.R.Rack.seen g.R.Bay.shelf c.args.pool.now) = omega arith in
    record {
      event = answered (Ok (Fill c.args.sector c.args.count c.args.byte));
      line_is = refl;
      answer_is = refl;
      performs =
          fill_done _ _ c.args.sector c.args.count c.args.byte _ _ inside c.in-Ok.is c.line_reply.ensures
          c.fill_sectors.ensures.fills;
    }

pub returns-in-Err-clause-answers : goal.returns-in-Err-clause-answers
returns-in-Err-clause-answers g c =
    let size = c.size-size.ensures.size in
    let few = c.if-count-size.false in
    let early = c.if-sector-size.false in
    let inside : c.args.sector + c.args.count ≤ size_of (view g.R.Rack.seen g.R.Bay.shelf c.args.pool.now) = omega arith in
    record {
      event = spent (Ok (Fill c.args.sector c.args.count c.args.byte)) c.in-Err.at.sector;
      line_is = refl;
      answer_is = sym c.spent_reply.ensures.answer;
      performs =
          fill_spent _ _ c.args.sector c.args.count c.args.byte _ _ _ inside c.in-Err.is c.spent_reply.ensures.text
          c.fill_sectors.ensures.fills;
    }
