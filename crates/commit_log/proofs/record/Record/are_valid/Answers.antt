use Rattle.std.proofs.Common.{◌≡◌, ◌&&◌, ◌+◌, true, false, not, ◌==◌, ◌||◌, nat_lt, sym, ap₂, ◌∙◌, arith}
use Rattle.std.specs.List.{list_all}
use Rattle.array_image.specs.Record.{is_target}
use Rattle.array_image.specs.Places.{slice_of}
use Rattle.log_laws.specs.Bytes.{target_in, targets_in}
use Rattle.log_laws.proofs.Checked.{failed, all_more, all_none}
use Rattle.commit_log.proofs.record.Record.are_valid.Goals as goal

pub loop-at-init : goal.loop-at-init
loop-at-init c = all_none c.args.self.now.bytes.items

pub returns-then-not-is_valid : goal.returns-then-not-is_valid
returns-then-not-is_valid c =
    let bytes = c.args.self.now.bytes.items in
    let here : is_target (target_in bytes c.loop-at.at) ≡ false =
    ap₂ (λ d s. nat_lt d 272 && (not (slice_of d == 0) || (s == 0))) (sym c.target-disk.ensures.disk) (sym c.target-disk.ensures.sector)
    ∙ sym c.is_valid.ensures ∙ c.if-not-is_valid.true in
    sym
    (failed (λ k. list_all is_target (targets_in bytes k)) (λ k. is_target (target_in bytes k)) (c.loop-at.at + 1) c.args.self.now.count (all_more bytes)
    (omega (arith, c.loop-at-test.true))
    (all_more bytes c.loop-at.at ∙ ap₂ (λ a b. a && b) c.loop-at.invariant here))

pub loop-at-preserved : goal.loop-at-preserved
loop-at-preserved c =
    let bytes = c.args.self.now.bytes.items in
    let here : is_target (target_in bytes c.loop-at.at) ≡ true =
    ap₂ (λ d s. nat_lt d 272 && (not (slice_of d == 0) || (s == 0))) (sym c.target-disk.ensures.disk) (sym c.target-disk.ensures.sector)
    ∙ sym c.is_valid.ensures ∙ c.if-not-is_valid.false in
    all_more bytes c.loop-at.at ∙ ap₂ (λ a b. a && b) c.loop-at.invariant here
