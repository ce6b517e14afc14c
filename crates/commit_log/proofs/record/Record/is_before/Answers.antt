use Rattle.std.proofs.Common.{◌==◌, ◌&&◌, ◌||◌, sym, ap₂, ◌∙◌}
use Rattle.log_laws.specs.Bytes.{target_in}
use Rattle.log_laws.proofs.Checked.{any_more, any_none, any_at}
use Rattle.commit_log.proofs.record.Record.is_before.Goals as goal

pub loop-before-init : goal.loop-before-init
loop-before-init c = any_none c.args.self.now.bytes.items _ _

pub returns-then-eq : goal.returns-then-eq
returns-then-eq c =
    let bytes = c.args.self.now.bytes.items in
    let t = target_in bytes c.args.at in
    sym (any_at bytes c.args.at c.loop-before.before t.disk t.sector c.loop-before-test.true
    ((λ i. (sym c.target.ensures.disk i == sym c.target-target.ensures.disk i) && (sym c.target.ensures.sector i == sym c.target-target.ensures.sector i)) ∙ sym c.eq.ensures ∙ c.if-eq.true))

pub loop-before-preserved : goal.loop-before-preserved
loop-before-preserved c =
    let bytes = c.args.self.now.bytes.items in
    let t = target_in bytes c.args.at in
    any_more bytes c.loop-before.before t.disk t.sector ∙ ap₂ (λ a b. a || b) c.loop-before.invariant
    ((λ i. (sym c.target.ensures.disk i == sym c.target-target.ensures.disk i) && (sym c.target.ensures.sector i == sym c.target-target.ensures.sector i)) ∙ sym c.eq.ensures ∙ c.if-eq.false)
