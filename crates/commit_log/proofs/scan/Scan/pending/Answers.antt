use Rattle.std.proofs.Common.{Bool, Option, Some, None, if◌then◌else◌, option_map, sym, ap, ◌∙◌}
use Rattle.std.specs.Option.{option_and_then}
use Rattle.std.specs.List.{list_all}
use Rattle.array_image.specs.Record.{GateAt, is_open_if_of}
use Rattle.commit_log.specs.Scans.{at_is, all_seen, pending_seen}
use Rattle.commit_log.proofs.scan.Scan.pending.Goals as goal

pub returns-in_err-at-clause-gate : goal.returns-in_err-at-clause-gate
unfolding pending_seen
returns-in_err-at-clause-gate c =
    let gates = c.args.self.now.gates in
    ap (λ o. option_map at_is o) c.from_residual.ensures
    ∙ ap (λ (o : Option GateAt). option_and_then (λ a. if list_all (is_open_if_of a.gate.number) (all_seen gates) then Some a else None) o) c.in_err-at.ensures.gate

pub returns-then-all_open-clause-gate : goal.returns-then-all_open-clause-gate
unfolding pending_seen
returns-then-all_open-clause-gate c =
    let gates = c.args.self.now.gates in
    ap (λ (b : Bool). if b then Some (at_is c.in_ok-at.at) else None) (sym c.if-all_open.true ∙ c.all_open.ensures)
    ∙ ap (λ (o : Option GateAt). option_and_then (λ a. if list_all (is_open_if_of a.gate.number) (all_seen gates) then Some a else None) o) c.in_ok-at.ensures.gate

pub returns-else-all_open-clause-gate : goal.returns-else-all_open-clause-gate
unfolding pending_seen
returns-else-all_open-clause-gate c =
    let gates = c.args.self.now.gates in
    ap (λ (b : Bool). if b then Some (at_is c.in_ok-at.at) else None) (sym c.if-all_open.false ∙ c.all_open.ensures)
    ∙ ap (λ (o : Option GateAt). option_and_then (λ a. if list_all (is_open_if_of a.gate.number) (all_seen gates) then Some a else None) o) c.in_ok-at.ensures.gate
