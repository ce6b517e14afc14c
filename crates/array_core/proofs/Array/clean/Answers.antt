use Rattle.std.proofs.Common.{false, ◌≤◌, ◌∙◌, sym, subst}
use Rattle.array_image.specs.SoundArray.{first_unsynced}
use Rattle.array_model.specs.View.{View, IsArray}
use Rattle.array_core.specs.Settling.{WritesSupers}
use Rattle.array_core.proofs.LogFrames.{kept_logs}
use Rattle.array_core.proofs.Cleaning.{clean_acts, clean_logs, clean_others, clean_settled, cleans_view, noted_restated}
use Rattle.array_core.proofs.Elsewhere.{clean_elsewhere, reads_elsewhere}
use Rattle.array_core.specs.Superblocks.{left_offset, raised, settled}
use Rattle.array_core.specs.TruthHeld.{HasFewBits}
use Rattle.array_core.proofs.TruthHeld.{few_bits, hold_noted, hold_tells, hold_written, reads_supers}
use Rattle.array_core.proofs.SupersLeft.{supers_reads, supers_truth}
use Rattle.array_core.proofs.TruthLeft.{clean_truth}
use Rattle.array_core.proofs.Array.clean.Goals as goal

pub returns-then-has_lost-clause-cleans : goal.returns-then-has_lost-clause-cleans
returns-then-has_lost-clause-cleans g c = λ s vals spent covers may. (c.sync.ensures.syncs s _ vals spent covers).acts

pub returns-then-has_lost-clause-kept : goal.returns-then-has_lost-clause-kept
returns-then-has_lost-clause-kept g c = λ s number kept.
    kept_logs s number (g.R.Rack.seen c.args.rack.now) (g.R.Rack.seen c.sync.new.rack) c.requires.slices.lasting c.sync.ensures.reads.stays
    (λ place t live. c.sync.ensures.reads.keeps.held _ t live) kept

pub returns-clause-cleans : goal.returns-clause-cleans
returns-clause-cleans g c =
    let b = g.R.Rack.seen c.sync.new.rack in
    let d = g.R.Rack.seen c.renew_supers.new.rack in
    let at = c.settle_truth.ensures in
    clean_acts c.args.self.now c.sync.new.self c.renew_supers.new.self (g.R.Rack.seen c.args.rack.now) b d c.requires.slices.lasting
    c.rules.ensures c.rules-2.ensures (subst IsArray at c.rules-3.ensures) c.sync.ensures.reads c.sync.ensures.notes c.sync.ensures.syncs
    (c.has_lost.ensures.none c.if-has_lost.false) (sym c.is_settled.ensures ∙ c.if-is_settled.false)
    (subst (λ (w : View). first_unsynced w.truth ≤ w.resync) at c.unsynced_rows.ensures) c.settle_truth.new.self.truth.raid_disks
    (subst (λ (w : View). WritesSupers w c.renew_supers.new.self b d c.settle_truth.new.self.truth.raid_disks) at c.renew_supers.ensures.writes)

pub returns-clause-view : goal.returns-clause-view
returns-clause-view g c =
    let b = g.R.Rack.seen c.sync.new.rack in
    let d = g.R.Rack.seen c.renew_supers.new.rack in
    cleans_view c.args.self.now c.sync.new.self c.renew_supers.new.self (g.R.Rack.seen c.args.rack.now) b d c.requires.slices.fit c.sync.ensures.reads c.sync.ensures.notes
    (c.has_lost.ensures.none c.if-has_lost.false) (sym c.is_settled.ensures ∙ c.if-is_settled.false)
    (subst (λ (w : View). WritesSupers w c.renew_supers.new.self b d w.truth.raid_disks) c.settle_truth.ensures c.renew_supers.ensures.writes)

pub returns-clause-kept : goal.returns-clause-kept
returns-clause-kept g c =
    let b = g.R.Rack.seen c.sync.new.rack in
    let d = g.R.Rack.seen c.renew_supers.new.rack in
    λ s number kept.
    clean_logs s number c.sync.new.self c.renew_supers.new.self (g.R.Rack.seen c.args.rack.now) b d c.settle_truth.new.self.truth.raid_disks c.requires.slices.lasting
    c.rules-2.ensures.few c.sync.ensures.reads
    (subst (λ (w : View). WritesSupers w c.renew_supers.new.self b d c.settle_truth.new.self.truth.raid_disks) c.settle_truth.ensures c.renew_supers.ensures.writes) kept

pub returns-then-has_lost-clause-elsewhere : goal.returns-then-has_lost-clause-elsewhere
returns-then-has_lost-clause-elsewhere g c = λ on. reads_elsewhere false c.args.self.now on (g.R.Rack.seen c.args.rack.now) (g.R.Rack.seen c.sync.new.rack) c.sync.ensures.reads

pub returns-clause-elsewhere : goal.returns-clause-elsewhere
returns-clause-elsewhere g c = λ on.
    let b = g.R.Rack.seen c.sync.new.rack in
    let d = g.R.Rack.seen c.renew_supers.new.rack in
    clean_elsewhere c.args.self.now c.sync.new.self c.renew_supers.new.self on (g.R.Rack.seen c.args.rack.now) b d c.settle_truth.new.self.truth.raid_disks c.rules.ensures.few
    c.sync.ensures.reads c.sync.ensures.notes
    (subst (λ (w : View). WritesSupers w c.renew_supers.new.self b d c.settle_truth.new.self.truth.raid_disks) c.settle_truth.ensures c.renew_supers.ensures.writes)

pub returns-then-has_lost-clause-others : goal.returns-then-has_lost-clause-others
returns-then-has_lost-clause-others g c = λ d t live other. c.sync.ensures.reads.keeps.held d t live

pub returns-clause-others : goal.returns-clause-others
returns-clause-others g c =
    let b = g.R.Rack.seen c.sync.new.rack in
    let d = g.R.Rack.seen c.renew_supers.new.rack in
    clean_others c.sync.new.self c.renew_supers.new.self (g.R.Rack.seen c.args.rack.now) b d c.settle_truth.new.self.truth.raid_disks c.sync.ensures.reads
    (subst (λ (w : View). WritesSupers w c.renew_supers.new.self b d c.settle_truth.new.self.truth.raid_disks) c.settle_truth.ensures c.renew_supers.ensures.writes)

pub returns-then-has_lost-clause-settled : goal.returns-then-has_lost-clause-settled
returns-then-has_lost-clause-settled g c = λ s durable vals spent covers holds. (c.sync.ensures.syncs s durable vals spent covers).settled holds

pub returns-clause-settled : goal.returns-clause-settled
returns-clause-settled g c =
    let b = g.R.Rack.seen c.sync.new.rack in
    let d = g.R.Rack.seen c.renew_supers.new.rack in
    clean_settled c.args.self.now c.sync.new.self c.renew_supers.new.self (g.R.Rack.seen c.args.rack.now) b d c.settle_truth.new.self.truth.raid_disks c.requires.slices.lasting
    c.sync.ensures.reads c.sync.ensures.syncs
    (subst (λ (w : View). WritesSupers w c.renew_supers.new.self b d c.settle_truth.new.self.truth.raid_disks) c.settle_truth.ensures c.renew_supers.ensures.writes)

pub returns-then-has_lost-clause-truth : goal.returns-then-has_lost-clause-truth
returns-then-has_lost-clause-truth g c =
    hold_noted c.args.self.now c.sync.new.self (g.R.Rack.seen c.args.rack.now) (g.R.Rack.seen c.sync.new.rack) c.requires.slices.lasting c.rules.ensures.few
    c.sync.ensures.reads.stays c.sync.ensures.notes (reads_supers (g.R.Rack.seen c.args.rack.now) (g.R.Rack.seen c.sync.new.rack) c.sync.ensures.reads)

pub returns-clause-truth : goal.returns-clause-truth
returns-clause-truth g c =
    let v = c.args.self.now in
    let u = c.sync.new.self in
    let a = g.R.Rack.seen c.args.rack.now in
    let b = g.R.Rack.seen c.sync.new.rack in
    let d = g.R.Rack.seen c.renew_supers.new.rack in
    let writes = subst (λ (w : View). WritesSupers w c.renew_supers.new.self b d w.truth.raid_disks) c.settle_truth.ensures c.renew_supers.ensures.writes in
    let notes = c.sync.ensures.notes in
    λ held.
    hold_written (settled u) c.renew_supers.new.self b d (c.sync.ensures.reads.stays.lasting c.requires.slices.lasting) c.rules-2.ensures.few
    (subst HasFewBits (sym notes.same.truth) (few_bits v.truth c.truth_rules.ensures)) writes
    (hold_tells u b (hold_noted v u a b c.requires.slices.lasting c.rules.ensures.few c.sync.ensures.reads.stays notes (reads_supers a b c.sync.ensures.reads) held))

pub returns-clause-noted : goal.returns-clause-noted
returns-clause-noted g c =
    let u = c.sync.new.self in
    let b = g.R.Rack.seen c.sync.new.rack in
    let d = g.R.Rack.seen c.renew_supers.new.rack in
    let writes = subst (λ (w : View). WritesSupers w c.renew_supers.new.self b d w.truth.raid_disks) c.settle_truth.ensures c.renew_supers.ensures.writes in
    noted_restated c.args.self.now u c.renew_supers.new.self (raised u.truth.events) (left_offset u) false (g.R.Rack.seen c.args.rack.now) b d
    c.sync.ensures.reads.stays writes.only.stays c.sync.ensures.notes writes.notes

pub returns-then-has_lost-clause-leaves : goal.returns-then-has_lost-clause-leaves
returns-then-has_lost-clause-leaves g c = λ s vals spent covers may.
    let n = c.args.self.now.number in
    let a = g.R.Rack.seen c.args.rack.now in
    let b = g.R.Rack.seen c.sync.new.rack in
    supers_truth s n _ _ a b (supers_reads n a b c.requires.slices.lasting c.sync.ensures.reads)

pub returns-clause-leaves : goal.returns-clause-leaves
returns-clause-leaves g c =
    let b = g.R.Rack.seen c.sync.new.rack in
    let d = g.R.Rack.seen c.renew_supers.new.rack in
    let at = c.settle_truth.ensures in
    clean_truth c.args.self.now c.sync.new.self c.renew_supers.new.self (g.R.Rack.seen c.args.rack.now) b d c.requires.slices.lasting
    c.rules.ensures c.rules-2.ensures c.sync.ensures.reads c.sync.ensures.notes c.sync.ensures.syncs
    (c.has_lost.ensures.none c.if-has_lost.false) (sym c.is_settled.ensures ∙ c.if-is_settled.false)
    (subst (λ (w : View). first_unsynced w.truth ≤ w.resync) at c.unsynced_rows.ensures) c.settle_truth.new.self.truth.raid_disks
    (subst (λ (w : View). WritesSupers w c.renew_supers.new.self b d c.settle_truth.new.self.truth.raid_disks) at c.renew_supers.ensures.writes)
