use Rattle.raid_map.proofs.Rows.{row_members_differ}
use Rattle.raid_map.proofs.row_members_differ.Goals as goal

pub returns : goal.returns
returns c = row_members_differ
