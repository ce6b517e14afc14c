use Rattle.std.proofs.Common.{◌≡◌, ◌+◌, ◌-◌, ◌*◌, ◌%◌, ℕ, List, map, sym, ap, ◌∙◌, arith}
use Rattle.std.specs.List.{range_with_len}
use Rattle.parity.specs.Xor.{xor, xor_all}
use Rattle.raid_map.specs.LeftSymmetric.{row_at}
use Rattle.sync_laws.proofs.Agreeing.{total_more, total_none}
use Rattle.pool_format.specs.Data.{group_sector}
use Rattle.pool_format.proofs.Written.{map_twice}
use Rattle.pool_format.proofs.members.parity_sector.Goals as goal

pub loop-column-init : goal.loop-column-init
loop-column-init c =
    let f : ℕ → List ℕ = λ column. group_sector c.args.group.now c.args.member.now.number ((row_at c.args.sector * (c.args.member.now.members - 1) + column) * 128 + c.args.sector % 128) in
    sym (total_none f)

pub loop-column-preserved : goal.loop-column-preserved
loop-column-preserved c =
    let f : ℕ → List ℕ = λ column. group_sector c.args.group.now c.args.member.now.number ((row_at c.args.sector * (c.args.member.now.members - 1) + column) * 128 + c.args.sector % 128) in
    let now = c.loop-column.column in
    let before : List ℕ = xor_all 512 (map f (range_with_len 0 now)) in
    c.xor_into.ensures
    ∙ ap (λ (s : List ℕ). xor s c.sector.result) c.loop-column.invariant
    ∙ ap (xor before) (c.sector.ensures ∙ ap (group_sector c.args.group.now c.args.member.now.number) c.row_sector-own.ensures)
    ∙ sym (total_more f now)

pub returns : goal.returns
returns c =
    let f : ℕ → List ℕ = λ column. group_sector c.args.group.now c.args.member.now.number ((row_at c.args.sector * (c.args.member.now.members - 1) + column) * 128 + c.args.sector % 128) in
    let all : c.loop-column.column ≡ c.args.member.now.members - 1 = omega (arith, c.loop-column-test.false, c.from-column-end.ensures, c.loop-column.auto.column-end) in
    let n = c.args.member.now.members - 1 in
    c.loop-column.invariant ∙ ap (λ k. xor_all 512 (map f (range_with_len 0 k))) all
    ∙ ap (xor_all 512) (sym (map_twice (group_sector c.args.group.now c.args.member.now.number) (λ column. (row_at c.args.sector * n + column) * 128 + c.args.sector % 128) (range_with_len 0 n)))
