-- A turn is done as its line is.
use Rattle.std.proofs.Common.{◌∙◌, Ok, Err, ap, refl, subst, sym, codes}
use Rattle.shr_script.specs.Reply.{as_line}
use Rattle.flat_array.specs.Reply.{spent_line, uniform_sector}
use Rattle.pool.specs.View.{view}
use Rattle.shr_tool.specs.Trial.{Takes}
use Rattle.shr_tool.proofs.Performing.{flush_done, write_done, write_spent}
use Rattle.shr_tool.proofs.trial.take_turn.Goals as goal

pub returns-in-Ok-clause-takes : goal.returns-in-Ok-clause-takes
returns-in-Ok-clause-takes g c =
    let shown = view g.R.Rack.seen g.R.Bay.shelf in
    let said = as_line (codes "ok") in
    subst (λ turn. Takes (shown c.args.pool.now) (shown c.write.new.self) turn (Ok 0)) (sym c.in-Write.is)
    ((said, write_done _ _ c.in-Write.sector (uniform_sector c.in-Write.byte) said _ c.in-Ok.is refl c.write.ensures.written), λ a holds. refl)

pub returns-in-Err-Spent-clause-takes : goal.returns-in-Err-Spent-clause-takes
returns-in-Err-Spent-clause-takes g c =
    let shown = view g.R.Rack.seen g.R.Bay.shelf in
    let said = spent_line c.in-Write.sector in
    subst (λ turn. Takes (shown c.args.pool.now) (shown c.write.new.self) turn (Err (record { sector = c.in-Write.sector }))) (sym c.in-Write.is)
    (said, write_spent _ _ c.in-Write.sector (uniform_sector c.in-Write.byte) said _ (c.in-Err-Spent.is ∙ ap Err c.in-Err-Spent.field-0-is) refl c.write.ensures.written)

pub returns-in-Flush-clause-takes : goal.returns-in-Flush-clause-takes
returns-in-Flush-clause-takes g c =
    let shown = view g.R.Rack.seen g.R.Bay.shelf in
    let said = as_line (codes "ok") in
    subst (λ turn. Takes (shown c.args.pool.now) (shown c.flush.new.self) turn (Ok 0)) (sym c.in-Flush.is)
    ((said, flush_done _ _ said refl c.flush.ensures.flushes), λ a holds. refl)
