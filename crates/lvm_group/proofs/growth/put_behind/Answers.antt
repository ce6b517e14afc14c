use Rattle.std.proofs.Common.{◌≡◌, ◌+◌, ◌++◌, List, length, arith, ap, sym, ◌∙◌, length-append}
use Rattle.lvm_group.specs.declared.runs.Run.{Run}
use Rattle.lvm_group.specs.Growth.{started}
use Rattle.lvm_group.proofs.Grown.{apart_parts, started_count}
use Rattle.lvm_group.proofs.growth.put_behind.Goals as goal

pub copy-requires : goal.copy-requires
copy-requires c =
    let parts = ap length (apart_parts c.args.start c.args.runs.now c.args.pieces.now (sym c.are_joined.ensures ∙ c.if-are_joined.false)) in
    let sum : length (c.args.runs.now ++ started c.args.start c.args.pieces.now) ≡ length c.args.runs.now + length (started c.args.start c.args.pieces.now) = simp length-append in
    record { room = let room = c.requires.room in omega arith }

pub append-requires-clause-room : goal.append-requires-clause-room
append-requires-clause-room c =
    let parts = ap length (apart_parts c.args.start c.args.runs.now c.args.pieces.now (sym c.are_joined.ensures ∙ c.if-are_joined.false)) in
    let sum : length (c.args.runs.now ++ started c.args.start c.args.pieces.now) ≡ length c.args.runs.now + length (started c.args.start c.args.pieces.now) = simp length-append in
    let count = started_count c.args.start c.args.pieces.now in
    let same = ap length c.copy.ensures.items in
    let room = c.requires.room in
    let more = c.copy.ensures.room in
    omega arith

pub returns-else-are_joined-clause-items : goal.returns-else-are_joined-clause-items
returns-else-are_joined-clause-items c =
    c.append.ensures.items ∙ ap (λ (runs : List Run). runs ++ started c.args.start c.args.pieces.now) c.copy.ensures.items
    ∙ sym (apart_parts c.args.start c.args.runs.now c.args.pieces.now (sym c.are_joined.ensures ∙ c.if-are_joined.false))
