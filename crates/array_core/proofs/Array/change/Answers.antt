use Rattle.std.proofs.Common.{true, arith}
use Rattle.array_model.specs.Rows.{refused}
use Rattle.array_model.proofs.Views.{notes_then}
use Rattle.array_model.proofs.RowWrites.{kept_then, whole_seat}
use Rattle.array_core.proofs.Gathering.{spent_after}
use Rattle.array_core.proofs.Rewriting.{change_wrote}
use Rattle.array_core.proofs.Array.change.Goals as goal

pub returns-then-not-next_parity-clause-wrote : goal.returns-then-not-next_parity-clause-wrote
returns-then-not-next_parity-clause-wrote g c =
    refused c.next_parity.ensures.reads c.next_parity.ensures.notes
    (spent_after c.args.self.now c.next_parity.new.self c.args.x c.stand-at.result true c.next_parity.ensures.notes.same
    c.stand-at.ensures.spread c.stand-at.ensures.position c.stand-at.ensures.sector (c.next_parity.ensures.refused c.if-not-next_parity.true))

pub put-requires-clause-kept : goal.put-requires-clause-kept
put-requires-clause-kept g c =
    let low = c.stand-at.ensures.stand.position in
    let most = c.stand-at.ensures.stand.members in
    kept_then c.args.self.now c.next_parity.new.self (g.R.Rack.seen c.args.rack.now) (g.R.Rack.seen c.next_parity.new.rack) c.stand-at.result.position c.next_parity.ensures.notes
    c.requires.fresh (whole_seat c.args.self.now c.stand-at.result.position c.rules.ensures c.requires.whole (omega (arith, low, most)))

pub put-requires-2-clause-kept : goal.put-requires-2-clause-kept
put-requires-2-clause-kept g c =
    let low = c.parity_stand-side.ensures.stand.position in
    let most = c.parity_stand-side.ensures.stand.members in
    kept_then c.args.self.now c.put.new.self (g.R.Rack.seen c.args.rack.now) (g.R.Rack.seen c.put.new.rack) c.parity_stand-side.result.position
    (notes_then c.args.self.now c.next_parity.new.self c.put.new.self (g.R.Rack.seen c.args.rack.now) (g.R.Rack.seen c.next_parity.new.rack) (g.R.Rack.seen c.put.new.rack)
    c.next_parity.ensures.reads.stays c.put.ensures.works.puts.only.stays c.next_parity.ensures.notes c.put.ensures.works.notes)
    c.requires.fresh (whole_seat c.args.self.now c.parity_stand-side.result.position c.rules.ensures c.requires.whole (omega (arith, low, most)))

pub returns-clause-wrote : goal.returns-clause-wrote
returns-clause-wrote g c =
    let low_p = c.stand-at.ensures.stand.position in
    let most_p = c.stand-at.ensures.stand.members in
    let low_q = c.parity_stand-side.ensures.stand.position in
    let most_q = c.parity_stand-side.ensures.stand.members in
    change_wrote c.args.self.now c.next_parity.new.self c.put.new.self c.put-2.new.self
    (g.R.Rack.seen c.args.rack.now) (g.R.Rack.seen c.next_parity.new.rack) (g.R.Rack.seen c.put.new.rack) (g.R.Rack.seen c.put-2.new.rack)
    c.args.x c.stand-at.result c.parity_stand-side.result c.args.from.now c.next_parity.new.into c.requires.slices.lasting c.rules.ensures c.requires.whole c.requires.fresh
    c.requires.layout c.requires.sector c.stand-at.ensures.stand c.stand-at.ensures.spread c.stand-at.ensures.position c.stand-at.ensures.sector
    c.parity_stand-side.ensures.stand c.parity_stand-side.ensures.position c.parity_stand-side.ensures.sector c.told-from c.next_parity.array_long
    c.next_parity.ensures.reads c.next_parity.ensures.notes (c.next_parity.ensures.found c.if-not-next_parity.false)
    c.put.ensures.works c.put-2.ensures.works c.put-2.ensures.idle (omega (arith, low_q, most_q)) (omega (arith, low_p, most_p))
