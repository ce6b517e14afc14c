use Rattle.std.proofs.Common.{◌∙◌, ap}
use Rattle.parity.specs.Xor.{xor}
use Rattle.array_model.proofs.Views.{notes_then}
use Rattle.array_model.proofs.Reading.{open_calls, given_kept}
use Rattle.array_core.specs.Stands.{layout_of}
use Rattle.array_core.proofs.Array.row_parity.Goals as goal

pub returns-then-not-find-2-clause-notes : goal.returns-then-not-find-2-clause-notes
returns-then-not-find-2-clause-notes g c =
    notes_then c.args.self.now c.find.new.self c.find-2.new.self (g.R.Rack.seen c.args.rack.now) (g.R.Rack.seen c.find.new.rack) (g.R.Rack.seen c.find-2.new.rack)
    c.find.ensures.reads.stays c.find-2.ensures.reads.stays c.find.ensures.notes c.find-2.ensures.notes

pub returns-clause-notes : goal.returns-clause-notes
returns-clause-notes g c =
    notes_then c.args.self.now c.find.new.self c.find-2.new.self (g.R.Rack.seen c.args.rack.now) (g.R.Rack.seen c.find.new.rack) (g.R.Rack.seen c.find-2.new.rack)
    c.find.ensures.reads.stays c.find-2.ensures.reads.stays c.find.ensures.notes c.find-2.ensures.notes

pub returns-clause-found : goal.returns-clause-found
returns-clause-found g c = λ ok.
    let v = c.args.self.now in
    let a = g.R.Rack.seen c.args.rack.now in
    let b = g.R.Rack.seen c.find.new.rack in
    let one = c.find.ensures.notes in
    let side = c.args.side.now in
    let served = c.find.ensures.served c.if-not-find.false in
    let last = c.find-2.ensures.served c.if-not-find-2.false in
    let all = notes_then v c.find.new.self c.find-2.new.self a b (g.R.Rack.seen c.find-2.new.rack) c.find.ensures.reads.stays c.find-2.ensures.reads.stays one c.find-2.ensures.notes in
    record {
      found = c.find.new.self;
      same = one.same;
      lost = one.lost;
      loses = one.loses;
      unspent = served.0;
      still = last.0;
      old = c.find.new.into;
      side_old = c.find-2.new.into;
      old_is = served.1;
      side_is = λ opened.
          last.1 (open_calls v c.find.new.self a b c.requires.slices.lasting c.find.ensures.reads one opened)
          ∙ given_kept v c.find-2.new.self a b (layout_of side.spread) side.sector side.position c.requires.slices.lasting c.find.ensures.reads all.same all.lost all.loses opened;
      new_is = c.xor_into-2.ensures ∙ ap (λ x. xor x c.args.from.now) c.xor_into.ensures;
    }
