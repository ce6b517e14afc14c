use Rattle.std.proofs.Common.{◌≡◌, ◌-◌, ◌==◌, ◌&&◌, true, List, ℕ, Some, sym, ap, ap₂, ◌∙◌, arith}
use Rattle.rack.specs.Targets.{is_at}
use Rattle.log_laws.specs.Bytes.{target_in}
use Rattle.log_laws.proofs.Targets.{payload_none_at, payload_some_at}
use Rattle.commit_log.proofs.record.Record.payload.Goals as goal

pub returns-then-eq : goal.returns-then-eq
returns-then-eq c =
    let bytes : List ℕ = c.args.self.now.bytes.items in
    let at : ℕ = c.loop-at.at - 1 in
    let here : is_at c.args.disk c.args.sector (target_in bytes at) ≡ true =
    ap₂ (λ d s. (d == c.args.disk) && (s == c.args.sector)) (sym c.target.ensures.disk) (sym c.target.ensures.sector) ∙ sym c.eq.ensures ∙ c.if-eq.true in
    payload_some_at bytes c.args.self.now.count at c.args.disk c.args.sector (omega (arith, c.loop-at.invariant.few, c.loop-at-test.true)) here
    (λ j above below. c.loop-at.invariant.none j (omega (arith, above)) below)
    ∙ ap Some (sym c.sector.ensures)

pub returns : goal.returns
returns c =
    payload_none_at c.args.self.now.bytes.items c.args.self.now.count c.args.disk c.args.sector
    (λ k below. c.loop-at.invariant.none k (omega (arith, c.loop-at-test.false)) below)
