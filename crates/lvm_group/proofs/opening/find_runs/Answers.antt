use Rattle.std.proofs.Common.{◌*◌, ◌∙◌, List, sym, ap, subst, length}
use Rattle.std.specs.List.{range_with_len}
use Rattle.lvm_group.specs.declared.parts.Part.{Part}
use Rattle.lvm_group.specs.Opening.{WereRead, group_by}
use Rattle.lvm_group.specs.Reading.{IsTextOf}
use Rattle.std.specs.Prelude.{IfSome}
use Rattle.lvm_group.proofs.Calls.{several_same}
use Rattle.lvm_group.proofs.Answered.{finds_result, refused_result}
use Rattle.lvm_group.proofs.OwnText.{length_map}
use Rattle.lvm_group.proofs.Written.{range_long}
use Rattle.lvm_group.proofs.opening.find_runs.Goals as goal

pub runs_by-requires-clause-same : goal.runs_by-requires-clause-same
runs_by-requires-clause-same g c =
    ap length (c.as_slice.ensures.value ∙ c.in-Ok.ensures) ∙ length_map (g.R.Rack.seen c.args.rack.now).sectors (range_with_len 0 c.args.joined) ∙ range_long 0 c.args.joined
    ∙ sym (ap length c.as_slice-2.ensures.value ∙ c.in-Ok-read_parts.ensures.count)

pub returns-clause-opens : goal.returns-clause-opens
returns-clause-opens g c =
    finds_result c.args.pool.now.0 c.args.extent c.args.joined c.as_slice.result.now c.as_slice-2.result.now (λ opened. opened.runs.items) (λ opened. opened.seqno) (λ opened. opened.even) c.read_parts.new.kept.bytes c.runs_by.result (c.as_slice.ensures.value ∙ c.in-Ok.ensures)
    (subst (λ (parts : List Part). WereRead (g.R.Rack.seen c.args.rack.now) (g.R.Rack.seen c.read_parts.new.rack) c.args.joined parts) (sym c.as_slice-2.ensures.value)
    (record { count = c.in-Ok-read_parts.ensures.count; are = c.in-Ok-read_parts.ensures.parts }))
    (subst (λ (parts : List Part). IfSome (group_by parts) (IsTextOf c.read_parts.new.kept.bytes)) (sym c.as_slice-2.ensures.value) c.in-Ok-read_parts.ensures.said)
    c.runs_by.ensures.runs c.runs_by.ensures.even

pub returns-clause-refused : goal.returns-clause-refused
returns-clause-refused g c =
    refused_result c.args.pool.now.0 c.args.extent c.args.joined c.as_slice.result.now c.as_slice-2.result.now c.runs_by.result (c.as_slice.ensures.value ∙ c.in-Ok.ensures)
    (subst (λ (parts : List Part). WereRead (g.R.Rack.seen c.args.rack.now) (g.R.Rack.seen c.read_parts.new.rack) c.args.joined parts) (sym c.as_slice-2.ensures.value)
    (record { count = c.in-Ok-read_parts.ensures.count; are = c.in-Ok-read_parts.ensures.parts }))
    c.runs_by.ensures.fault

pub returns-in_default-clause-several : goal.returns-in_default-clause-several
returns-in_default-clause-several g c =
    several_same g.R.Rack.once (521 * c.args.joined) _
