-- The first slices are synced, where they have a target.
use Rattle.log_laws.specs.Bytes.{targets_in}
use Rattle.log_laws.specs.Phases.{SyncsAll, IsTargeted, IsTargetedBelow, went}
use Rattle.commit_log.proofs.writing.sync_targets.Given as goal

abbrev pub invariant-loop-disk : goal.invariant-loop-disk
invariant-loop-disk g l = record {
  syncs : SyncsAll (g.R.Rack.seen l.initial.rack) (g.R.Rack.seen l.rack) (IsTargeted (targets_in l.record.bytes.items l.record.count))
      (IsTargetedBelow (targets_in l.record.bytes.items l.record.count) l.disk) (went l.initial.lost.places) (went l.lost.places);
  runs : g.R.Rack.runs l.initial.rack l.rack;
}
