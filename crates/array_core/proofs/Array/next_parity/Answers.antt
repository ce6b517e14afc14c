use Rattle.std.proofs.Common.{◌∙◌, ap, inl, inr, arith}
use Rattle.std.proofs.lemmas.Bool.{cases_Bool}
use Rattle.parity.specs.Xor.{xor}
use Rattle.array_model.proofs.Views.{notes_then}
use Rattle.array_model.proofs.Reading.{open_calls, column_before}
use Rattle.array_core.proofs.Array.next_parity.Goals as goal

pub returns-clause-notes : goal.returns-clause-notes
returns-clause-notes g c =
    notes_then c.args.self.now c.find.new.self c.own.new.self (g.R.Rack.seen c.args.rack.now) (g.R.Rack.seen c.find.new.rack) (g.R.Rack.seen c.own.new.rack)
    c.find.ensures.reads.stays c.own.ensures.reads.stays c.find.ensures.notes c.own.ensures.notes

pub returns-clause-found : goal.returns-clause-found
returns-clause-found g c = λ ok.
    let v = c.args.self.now in
    let u = c.find.new.self in
    let a = g.R.Rack.seen c.args.rack.now in
    let b = g.R.Rack.seen c.find.new.rack in
    let served = c.find.ensures.served c.if-not-find.false in
    let notes = c.find.ensures.notes in
    let side = c.args.side.now in
    let low = c.requires.side.position in
    let most = c.requires.side.members in
    record {
      found = u;
      same = notes.same;
      lost = notes.lost;
      loses = notes.loses;
      unspent = served.0;
      value =
          elim (cases_Bool c.own.result) [
            | inr none ↦ inl (c.own.ensures.lost none)
            | inl has ↦
                inr
                (λ opened. record {
                  old = c.find.new.into;
                  side_old = c.own.new.into;
                  old_is = served.1 opened;
                  side_is =
                      column_before v u a b side.position side.sector c.own.new.into c.requires.slices.lasting c.find.ensures.reads notes.same notes.lost notes.loses
                      (omega (arith, low, most)) opened
                      ((c.own.ensures.served has).2 (open_calls v u a b c.requires.slices.lasting c.find.ensures.reads notes opened));
                  new_is = c.xor_into-2.ensures ∙ ap (λ x. xor x c.args.from.now) c.xor_into.ensures;
                })
          ];
    }
