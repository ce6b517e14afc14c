-- The bay below, and which of its disks are offline.
use Rattle.std.specs.Prelude.{Bool, List}
use Rattle.online_bay.specs.declared.OnlineBay.{OnlineBay}

abbrev pub bay_in : {B : Type 0} → OnlineBay B → B
bay_in online = online.bay

abbrev pub offline_in : {B : Type 0} → OnlineBay B → List Bool
offline_in online = online.offline.items
