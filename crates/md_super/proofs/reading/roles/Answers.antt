use Rattle.std.proofs.Common.{◌≡◌, ℕ, ◌≤◌, List, length, take, drop, ap, ◌∙◌, arith, length-drop}
use Rattle.std.proofs.lemmas.List.{take_all}
use Rattle.md_super.proofs.Roles.{take-IsRead}
use Rattle.md_super.proofs.reading.roles.Goals as goal

pub returns : goal.returns
returns c =
    let block = c.args.bytes.now in
    let all : List ℕ = c.read_u16_into.new.dst in
    let many : c.args.count ≤ length all = omega arith in
    let tail : take 768 (drop 256 block) ≡ drop 256 block = take_all 768 (drop 256 block) (omega (arith, length-drop 256 block)) in
    c.truncate.ensures.items ∙ ap (take c.args.count) c.from-roles.ensures.0
    ∙ take-IsRead 256 c.args.count block _ all many tail c.read_u16_into.ensures
