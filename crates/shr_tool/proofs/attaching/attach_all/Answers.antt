-- A name more is attached, or the attaching stops at it.
use Rattle.std.proofs.Common.{◌++◌, [], ◌∷◌, map, take, string_bytes, sym, ◌∙◌, ap, subst}
use Rattle.shr_tool.specs.Attaching.{AreAttached, IsUnattached}
use Rattle.shr_tool.proofs.Attached.{attached_more, unattached, words_more, words_split}
use Rattle.shr_tool.proofs.attaching.attach_all.Goals as goal

pub returns-in-Err-clause-unattached : goal.returns-in-Err-clause-unattached
returns-in-Err-clause-unattached g c =
    let names = c.args.names.now in
    let index = c.loop-name.name-index in
    let so_far = map string_bytes (take index names) in
    let split = words_split string_bytes names index c.name-item.result c.loop-name-test.true c.name-item.is in
    let named = ap (λ n. (so_far ++ n ∷ []) ++ split.0) (sym c.as_str.ensures.value) in
    subst
    (λ all. IsUnattached (g.B.Rack.seen c.args.bay.now) (g.B.Rack.seen c.attach.new.self) (g.B.Bay.shelf c.args.bay.now) (g.B.Bay.shelf c.attach.new.self) all c.disks-number.result c.in-Err.fault)
    (sym (split.1 ∙ named))
    (unattached _ _ _ _ _ _ so_far split.0 c.as_str.result.now c.attach.result c.in-Err.fault c.disks-number.result c.in-Err.is
    c.disks-number.ensures c.loop-name.invariant c.attach.ensures.attaches)

pub loop-name-preserved : goal.loop-name-preserved
loop-name-preserved g c =
    let names = c.args.names.now in
    let index = c.loop-name.name-index in
    let so_far = map string_bytes (take index names) in
    let more = words_more string_bytes names index c.name-item.result c.loop-name-test.true c.name-item.is in
    let named = ap (λ n. so_far ++ n ∷ []) (sym c.as_str.ensures.value) in
    subst
    (λ all. AreAttached (g.B.Rack.seen c.args.bay.now) (g.B.Rack.seen c.attach.new.self) (g.B.Bay.shelf c.args.bay.now) (g.B.Bay.shelf c.attach.new.self) all)
    (sym (more ∙ named))
    (attached_more _ _ _ _ _ _ so_far c.as_str.result.now c.attach.result c.in-Ok.field-0 c.in-Ok.is c.loop-name.invariant c.attach.ensures.attaches)
