use Rattle.std.proofs.Common.{◌≡◌, false, sym, subst, nat_lt}
use Rattle.raid_map.specs.LeftSymmetric.{row_at}
use Rattle.array_image.specs.Spent.{wanting, spent_with}
use Rattle.array_model.specs.View.{View}
use Rattle.array_model.specs.Members.{members_of}
use Rattle.array_model.proofs.Views.{notes_none, notes_then}
use Rattle.array_core.proofs.Gathering.{second_value}
use Rattle.array_core.proofs.Array.find.Goals as goal

pub returns-then-is_spent_at-clause-notes : goal.returns-then-is_spent_at-clause-notes
returns-then-is_spent_at-clause-notes g c = notes_none c.args.self.now _ _

pub returns-clause-notes : goal.returns-clause-notes
returns-clause-notes g c =
    notes_then c.args.self.now c.attempt.new.self c.attempt-2.new.self (g.R.Rack.seen c.args.rack.now) (g.R.Rack.seen c.attempt.new.rack) (g.R.Rack.seen c.attempt-2.new.rack)
    c.attempt.ensures.reads.stays c.attempt-2.ensures.reads.stays c.attempt.ensures.notes c.attempt-2.ensures.notes

pub returns-clause-served : goal.returns-clause-served
returns-clause-served g c = λ ok.
    let served = c.attempt-2.ensures.served ok in (
      subst (λ (v : View). spent_with (wanting c.args.at.now.sector (members_of v)) (nat_lt (row_at c.args.at.now.sector) v.resync) ≡ false) (sym served.0)
          (sym c.if-is_spent_at-2.ensures),
      second_value c.args.self.now c.attempt.new.self c.attempt-2.new.self (g.R.Rack.seen c.args.rack.now) (g.R.Rack.seen c.attempt.new.rack) c.args.at.now c.attempt-2.new.into
          c.requires.slices.lasting c.attempt.ensures.reads c.attempt.ensures.notes served.0 served.1,
    )
