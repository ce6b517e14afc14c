use Rattle.std.proofs.Common.{◌∙◌, ap}
use Rattle.std.specs.List.{list_any}
use Rattle.pool_scan.specs.Choosing.{is_of_other}
use Rattle.pool_scan.proofs.Chosen.{other_is}
use Rattle.pool_scan.proofs.Scan.has_other_pool.Goals as goal

pub returns : goal.returns
returns c = λ disks identities are.
    c.has_other.ensures ∙ ap (list_any (is_of_other c.args.pool.now.0)) c.as_slice.ensures.value
    ∙ other_is c.args.pool.now.0 disks identities c.args.self.now.disks.items are
