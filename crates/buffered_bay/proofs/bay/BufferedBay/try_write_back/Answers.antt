use Rattle.std.proofs.Common.{◌<◌, sym, subst, inl}
use Rattle.buffered_bay.proofs.Written.{written_clean}
use Rattle.buffered_bay.proofs.bay.BufferedBay.try_write_back.Goals as goal

pub returns-in-Ok-clause-written : goal.returns-in-Ok-clause-written
returns-in-Ok-clause-written g c =
    let after = c.write_back.new.self in
    inl
    (written_clean (g.F.FileStore.view after.files) after.windows.items c.args.disk after.buffered
    (subst (λ n. c.args.disk < n) (sym c.in-Ok.ensures.quiet.reads.stays.disks) c.requires) c.in-Ok.ensures.clean)
