use Rattle.std.proofs.Common.{◌==◌, Some, sym, ◌∙◌}
use Rattle.log_laws.proofs.GateRead.{gate_there, no_gate}
use Rattle.commit_log.proofs.gates.Gate.decode.Goals as goal

pub returns-then-is_well_formed : goal.returns-then-is_well_formed
returns-then-is_well_formed c =
    gate_there c.args.block.now (sym c.is_well_formed.ensures ∙ c.if-is_well_formed.true)
    ∙ (λ i. Some (record { is_open = sym c.u32_at.ensures i == 1; number = sym c.u64_at.ensures i }))

pub returns-else-is_well_formed : goal.returns-else-is_well_formed
returns-else-is_well_formed c = no_gate c.args.block.now (sym c.is_well_formed.ensures ∙ c.if-is_well_formed.false)
