use Rattle.std.proofs.Common.{arith}
use Rattle.rack.proofs.Reading.{only_reads_start, only_reads_join}
use Rattle.array_model.proofs.Views.{notes_none, notes_then}
use Rattle.array_model.proofs.Reading.{slices_then}
use Rattle.array_model.proofs.Syncing.{singles_next, syncs_array}
use Rattle.array_core.proofs.Array.sync.Goals as goal

pub loop-position-init : goal.loop-position-init
loop-position-init g c = (
  only_reads_start (g.R.Rack.seen c.args.rack.now) c.requires.fit,
  notes_none c.args.self.now _ _,
  g.met.R.Rack.runs_same c.args.rack.now,
  λ opened j low. absurd (omega (arith, low)),
)

pub sync_member-requires-clause-slices : goal.sync_member-requires-clause-slices
sync_member-requires-clause-slices g c =
    slices_then c.args.self.now c.loop-position.self (g.R.Rack.seen c.args.rack.now) (g.R.Rack.seen c.loop-position.rack) c.loop-position.invariant.0.stays
    c.loop-position.invariant.1 c.requires

pub loop-position-preserved : goal.loop-position-preserved
loop-position-preserved g c =
    let a = g.R.Rack.seen c.args.rack.now in
    let b = g.R.Rack.seen c.loop-position.rack in
    let d = g.R.Rack.seen c.sync_member.new.rack in
    let inv = c.loop-position.invariant in
    let low = c.loop-position-test.true in
    let end = c.members-position-end.ensures in (
      only_reads_join inv.0 c.sync_member.ensures.reads,
      notes_then c.args.self.now c.loop-position.self c.sync_member.new.self a b d inv.0.stays c.sync_member.ensures.reads.stays inv.1 c.sync_member.ensures.notes,
      g.met.R.Rack.runs_then _ _ _ inv.2 c.sync_member.ensures.runs,
      singles_next c.args.self.now c.loop-position.self c.sync_member.new.self a b d c.loop-position.position c.requires.lasting (omega (arith, low, end))
          inv.0 inv.1 c.sync_member.ensures.reads c.sync_member.ensures.notes inv.3 c.sync_member.ensures.single,
    )

pub returns-clause-syncs : goal.returns-clause-syncs
returns-clause-syncs g c =
    let past = c.loop-position-test.false in
    let end = c.members-position-end.ensures in
    syncs_array (g.R.Rack.seen c.args.rack.now) (g.R.Rack.seen c.loop-position.rack) c.args.self.now c.loop-position.self c.requires.lasting c.loop-position.invariant.0
    c.rules.ensures c.loop-position.invariant.1 (λ opened j low. c.loop-position.invariant.3 opened j (omega (arith, past, end, low)))
