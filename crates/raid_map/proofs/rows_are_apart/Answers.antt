use Rattle.raid_map.proofs.Rows.{rows_are_apart}
use Rattle.raid_map.proofs.rows_are_apart.Goals as goal

pub returns : goal.returns
returns c = rows_are_apart
