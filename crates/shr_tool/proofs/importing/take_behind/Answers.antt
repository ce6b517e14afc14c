-- The bytes that were taken stand behind those before them.
use Rattle.std.proofs.Common.{◌-◌, arith}
use Rattle.shr_tool.proofs.Pieces.{takes_behind}
use Rattle.shr_tool.proofs.importing.take_behind.Goals as goal

pub returns-clause-taken : goal.returns-clause-taken
returns-clause-taken g c =
    λ told.
    takes_behind c.take.result c.args.into.now c.take.new.into _ _ c.args.filled (512 - c.args.filled)
    (let inside = c.requires in let long = c.told-into in omega arith)
    c.take.ensures.bounded
    (c.take.ensures.taken told)
