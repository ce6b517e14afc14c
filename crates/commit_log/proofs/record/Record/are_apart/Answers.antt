use Rattle.std.proofs.Common.{◌&&◌, ◌+◌, not, sym, ap₂, ◌∙◌, arith}
use Rattle.std.specs.List.{list_any}
use Rattle.rack.specs.Targets.{is_at}
use Rattle.array_image.specs.Record.{are_apart}
use Rattle.log_laws.specs.Bytes.{target_in, targets_in}
use Rattle.log_laws.proofs.Checked.{failed, apart_more, apart_none}
use Rattle.commit_log.proofs.record.Record.are_apart.Goals as goal

pub loop-at-init : goal.loop-at-init
loop-at-init c = apart_none c.args.self.now.bytes.items

pub returns-then-is_before : goal.returns-then-is_before
returns-then-is_before c =
    let bytes = c.args.self.now.bytes.items in
    sym
    (failed (λ k. are_apart (targets_in bytes k)) (λ k. not (list_any (is_at (target_in bytes k).disk (target_in bytes k).sector) (targets_in bytes k)))
    (c.loop-at.at + 1) c.args.self.now.count (apart_more bytes) (omega (arith, c.loop-at-test.true))
    (apart_more bytes c.loop-at.at ∙ ap₂ (λ a b. a && not b) c.loop-at.invariant (sym c.is_before.ensures ∙ c.if-is_before.true)))

pub loop-at-preserved : goal.loop-at-preserved
loop-at-preserved c =
    apart_more c.args.self.now.bytes.items c.loop-at.at
    ∙ ap₂ (λ a b. a && not b) c.loop-at.invariant (sym c.is_before.ensures ∙ c.if-is_before.false)
