use Rattle.std.proofs.Common.{◌+◌, arith}
use Rattle.rack.proofs.Calling.{several_fewer, several_then}
use Rattle.lvm_group.proofs.AllSynced.{next_synced}
use Rattle.lvm_group.proofs.syncing.sync_first.Goals as goal

pub returns-in-Err-clause-several : goal.returns-in-Err-clause-several
returns-in-Err-clause-several g c =
    let test = c.loop-disk-test.true in
    several_fewer g.R.Rack.once (c.loop-disk.disk + 1) c.args.count _ _ (omega (arith, test))
    (several_then g.R.Rack.once c.loop-disk.disk _ _ _ c.loop-disk.invariant.several c.in-Err.ensures.once)

pub loop-disk-preserved : goal.loop-disk-preserved
loop-disk-preserved g c = record {
  synced = next_synced c.loop-disk.disk c.loop-disk.invariant.synced c.in_default.ensures.syncs;
  runs = g.met.R.Rack.runs_then _ _ _ c.loop-disk.invariant.runs c.in_default.ensures.runs;
  several = several_then g.R.Rack.once c.loop-disk.disk _ _ _ c.loop-disk.invariant.several c.in_default.ensures.once;
}
