-- The script is one line, without a line feed.
use Rattle.std.proofs.Common.{[], codes, Ok, refl, lit≤}
use Rattle.raid_rack.specs.RaidRack.{slices_in}
use Rattle.shr_script.specs.declared.Command.TheVariants.{Status}
use Rattle.pool.specs.View.{arrays_of, bay_in, view}
use Rattle.shr_tool.proofs.History.{answered_none}
use Rattle.shr_tool.proofs.Stopping.{last_answered, one_answered}
use Rattle.shr_tool.proofs.serve.once.answer_status.Goals as goal

pub returns-clause-serves : goal.returns-clause-serves
returns-clause-serves g c =
    λ sink.
    let shown = view g.R.Rack.seen g.R.Bay.shelf in
    let p = c.args.pool.now in
    let out = g.O.Sink.taken c.args.out.now in
    let before = answered_none (shown p) out c.requires (g.met.R.Bay.unspent (bay_in p), g.met.R.Rack.sound (bay_in p), (slices_in (arrays_of p)).orderly) in
    let answers = c.answer_last.ensures.answers sink in
    one_answered shown p c.answer_last.new.pool (shown p) (codes "status") [] out (g.O.Sink.taken c.answer_last.new.out) _ _ (Ok Status) _ _ refl (λ m n grows. grows) answers
    (last_answered shown (λ r. (g.met.R.Bay.unspent (bay_in r), g.met.R.Rack.sound (bay_in r), (slices_in (arrays_of r)).orderly)) p c.answer_last.new.pool (shown p) (codes "status") [] out out (g.O.Sink.taken c.answer_last.new.out) _ _ [] _ _
    before refl (lit≤ tt) answers)
