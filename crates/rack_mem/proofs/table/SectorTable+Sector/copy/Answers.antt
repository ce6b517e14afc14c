use Rattle.std.proofs.Common.{◌≡◌, ◌∙◌, ◌==◌, ◌&&◌, ap}
use Rattle.std.specs.Map.{lookup}
use Rattle.std.proofs.lemmas.Map.Entries.{entries_from_clone}
use Rattle.rack_mem.proofs.table.SectorTable+Sector.copy.Goals as goal

pub returns-clause-same : goal.returns-clause-same
returns-clause-same c d s =
    let copied : c.in-Ok.entries.entries ≡ c.args.self.now.entries.entries =
    entries_from_clone _ _ (λ x y same. same) (λ v w same. same) c.args.self.now.entries.entries c.in-Ok.entries.entries c.in-Ok.ensures.cases in
    c.reserve.ensures.entries.2 (record { disk = d; sector = s }) ∙ ap (lookup (λ place. (d == place.disk) && (s == place.sector))) copied
