use Rattle.raid_map.proofs.Rows.{each_place_once}
use Rattle.raid_map.proofs.each_place_once.Goals as goal

pub returns : goal.returns
returns c = each_place_once
