use Rattle.std.proofs.Common.{◌∙◌, List, refl, sym, ap, subst, inl, inr}
use Rattle.rack.specs.Targets.{Target}
use Rattle.log_laws.specs.View.{LogView, committed}
use Rattle.log_laws.specs.Kept.{LogInvariant}
use Rattle.array_model.specs.View.{has_gone}
use Rattle.array_model.proofs.Views.{notes_then}
use Rattle.array_core.specs.Pool.{MayLog}
use Rattle.array_core.proofs.LogWrites.{few_in_order, staged_list, staged_row, staged_spent, row_had, reads_goes, goes_then, commit_notes, commit_moves, commit_kept, commit_left, refused_moves, refused_kept}
use Rattle.array_core.proofs.Elsewhere.{commit_elsewhere, elsewhere_then, reads_elsewhere}
use Rattle.array_core.proofs.SupersLeft.{supers_reads}
use Rattle.array_core.proofs.TruthHeld.{commit_supers, reads_supers, supers_then}
use Rattle.array_core.proofs.Array.write_logged.Goals as goal

pub commit-lost-requires-clause-some : goal.commit-lost-requires-clause-some
commit-lost-requires-clause-some g c = (staged_list _ _ _ _ _ _ _ _ _ c.rules.ensures c.requires.sector c.told-from c.stage_unspent.ensures.unspent c.stage_unspent.ensures.staged c.if-not-stage_unspent.false).some

pub commit-lost-requires-clause-valid : goal.commit-lost-requires-clause-valid
commit-lost-requires-clause-valid g c = (staged_list _ _ _ _ _ _ _ _ _ c.rules.ensures c.requires.sector c.told-from c.stage_unspent.ensures.unspent c.stage_unspent.ensures.staged c.if-not-stage_unspent.false).valid

pub commit-lost-requires-clause-apart : goal.commit-lost-requires-clause-apart
commit-lost-requires-clause-apart g c = (staged_list _ _ _ _ _ _ _ _ _ c.rules.ensures c.requires.sector c.told-from c.stage_unspent.ensures.unspent c.stage_unspent.ensures.staged c.if-not-stage_unspent.false).apart

pub commit-lost-requires-clause-had : goal.commit-lost-requires-clause-had
commit-lost-requires-clause-had g c =
    row_had c.args.all c.args.self.now (g.R.Rack.seen c.args.rack.now) (g.R.Rack.seen c.stage_unspent.new.rack) c.stage_unspent.new.log.added c.requires.slices c.requires.all
    c.stage_unspent.ensures.staged.reads.stays
    (staged_list _ _ _ _ _ _ _ _ _ c.rules.ensures c.requires.sector c.told-from c.stage_unspent.ensures.unspent c.stage_unspent.ensures.staged c.if-not-stage_unspent.false)

pub note_all-requires : goal.note_all-requires
note_all-requires g c = few_in_order c.commit-lost.result.items c.commit-lost.ensures.commits.gone.ordered

pub returns-then-not-stage_unspent-clause-logged : goal.returns-then-not-stage_unspent-clause-logged
returns-then-not-stage_unspent-clause-logged g c = λ s v vals spent covers base may.
    refused_moves s c.args.all v c.args.self.now c.stage_unspent.new.self (g.R.Rack.seen c.args.rack.now) (g.R.Rack.seen c.stage_unspent.new.rack) c.args.x c.args.from.now c.requires.slices.lasting
    c.stage_unspent.ensures.staged.reads c.stage_unspent.ensures.staged.notes (staged_spent _ _ _ _ _ _ _ _ _ c.stage_unspent.ensures.staged c.if-not-stage_unspent.true).0 vals spent covers base

pub returns-then-not-stage_unspent-clause-kept : goal.returns-then-not-stage_unspent-clause-kept
returns-then-not-stage_unspent-clause-kept g c = λ s v base may.
    subst (λ (l : LogView). LogInvariant s l.number (has_gone c.stage_unspent.new.self) (g.R.Rack.seen c.stage_unspent.new.rack)) (sym c.stage_unspent.ensures.log)
    (refused_kept s c.args.log.now.number c.stage_unspent.new.self (g.R.Rack.seen c.args.rack.now) (g.R.Rack.seen c.stage_unspent.new.rack) c.requires.slices.lasting
    c.stage_unspent.ensures.staged.reads may.log)

pub returns-then-not-stage_unspent-clause-goes : goal.returns-then-not-stage_unspent-clause-goes
returns-then-not-stage_unspent-clause-goes g c = reads_goes (g.R.Rack.seen c.args.rack.now) (g.R.Rack.seen c.stage_unspent.new.rack) c.stage_unspent.ensures.staged.reads

pub returns-then-not-stage_unspent-clause-log : goal.returns-then-not-stage_unspent-clause-log
returns-then-not-stage_unspent-clause-log g c =
    inl (c.stage_unspent.ensures.log ∙ ap (λ (xs : List Target). record c.args.log.now { added = xs })
    ((staged_spent _ _ _ _ _ _ _ _ _ c.stage_unspent.ensures.staged c.if-not-stage_unspent.true).1 ∙ sym c.requires.empty))

pub returns-then-not-stage_unspent-clause-refused : goal.returns-then-not-stage_unspent-clause-refused
returns-then-not-stage_unspent-clause-refused g c = (refl, (staged_spent _ _ _ _ _ _ _ _ _ c.stage_unspent.ensures.staged c.if-not-stage_unspent.true).0)

pub returns-clause-logged : goal.returns-clause-logged
returns-clause-logged g c = λ s v vals spent covers base may.
    commit_moves s c.args.all v c.args.self.now c.stage_unspent.new.self c.note_all.new.self (g.R.Rack.seen c.args.rack.now) (g.R.Rack.seen c.stage_unspent.new.rack) (g.R.Rack.seen c.commit-lost.new.rack)
    c.stage_unspent.new.log c.args.on.now.items c.commit-lost.result.items c.args.x c.args.from.now c.rules.ensures c.requires.slices.lasting c.requires.sector c.told-from
    (c.stage_unspent.ensures.unspent c.if-not-stage_unspent.false) c.stage_unspent.ensures.staged.reads c.stage_unspent.ensures.staged.notes
    (staged_row _ _ _ _ _ _ _ _ _ c.stage_unspent.ensures.staged c.if-not-stage_unspent.false) c.commit-lost.ensures.commits c.note_all.ensures.same c.note_all.ensures.loses base
    (subst (λ (l : LogView). MayLog s v c.note_all.new.self l.number c.args.on.now.items (g.R.Rack.seen c.args.rack.now)) (sym c.stage_unspent.ensures.log) may)
    vals spent covers

pub returns-clause-kept : goal.returns-clause-kept
returns-clause-kept g c = λ s v base may.
    subst (λ (l : LogView). LogInvariant s l.number (has_gone c.note_all.new.self) (g.R.Rack.seen c.commit-lost.new.rack)) (sym c.commit-lost.ensures.log)
    (commit_kept s c.args.all v c.args.self.now c.stage_unspent.new.self c.note_all.new.self (g.R.Rack.seen c.args.rack.now) (g.R.Rack.seen c.stage_unspent.new.rack) (g.R.Rack.seen c.commit-lost.new.rack)
    c.stage_unspent.new.log c.args.on.now.items c.commit-lost.result.items c.args.x c.args.from.now c.rules.ensures c.requires.slices.lasting c.requires.sector c.told-from
    (c.stage_unspent.ensures.unspent c.if-not-stage_unspent.false) c.stage_unspent.ensures.staged.reads c.stage_unspent.ensures.staged.notes
    (staged_row _ _ _ _ _ _ _ _ _ c.stage_unspent.ensures.staged c.if-not-stage_unspent.false) c.commit-lost.ensures.commits c.note_all.ensures.same c.note_all.ensures.loses base
    (subst (λ (l : LogView). MayLog s v c.note_all.new.self l.number c.args.on.now.items (g.R.Rack.seen c.args.rack.now)) (sym c.stage_unspent.ensures.log) may))

pub returns-clause-notes : goal.returns-clause-notes
returns-clause-notes g c =
    notes_then c.args.self.now c.stage_unspent.new.self c.note_all.new.self (g.R.Rack.seen c.args.rack.now) (g.R.Rack.seen c.stage_unspent.new.rack) (g.R.Rack.seen c.commit-lost.new.rack)
    c.stage_unspent.ensures.staged.reads.stays c.commit-lost.ensures.commits.stays c.stage_unspent.ensures.staged.notes
    (commit_notes c.stage_unspent.new.log c.args.on.now.items c.commit-lost.result.items c.stage_unspent.new.self c.note_all.new.self (g.R.Rack.seen c.stage_unspent.new.rack) (g.R.Rack.seen c.commit-lost.new.rack)
    c.commit-lost.ensures.commits c.note_all.ensures.same c.note_all.ensures.loses)

pub returns-clause-goes : goal.returns-clause-goes
returns-clause-goes g c =
    goes_then (g.R.Rack.seen c.args.rack.now) (g.R.Rack.seen c.stage_unspent.new.rack) (g.R.Rack.seen c.commit-lost.new.rack)
    (reads_goes (g.R.Rack.seen c.args.rack.now) (g.R.Rack.seen c.stage_unspent.new.rack) c.stage_unspent.ensures.staged.reads)
    (record { stays = c.commit-lost.ensures.commits.stays; leaves = c.commit-lost.ensures.commits.leaves })

pub returns-clause-log : goal.returns-clause-log
returns-clause-log g c = inr (c.commit-lost.ensures.log ∙ ap committed c.stage_unspent.ensures.log)

pub returns-then-not-stage_unspent-clause-elsewhere : goal.returns-then-not-stage_unspent-clause-elsewhere
returns-then-not-stage_unspent-clause-elsewhere g c =
    reads_elsewhere c.args.all c.args.self.now c.args.on.now.items (g.R.Rack.seen c.args.rack.now) (g.R.Rack.seen c.stage_unspent.new.rack) c.stage_unspent.ensures.staged.reads

pub returns-clause-elsewhere : goal.returns-clause-elsewhere
returns-clause-elsewhere g c =
    let v = c.args.self.now in
    let on = c.args.on.now.items in
    let a = g.R.Rack.seen c.args.rack.now in
    let b = g.R.Rack.seen c.stage_unspent.new.rack in
    let d = g.R.Rack.seen c.commit-lost.new.rack in
    elsewhere_then c.args.all v on a b d c.stage_unspent.ensures.staged.reads.stays c.commit-lost.ensures.commits.stays
    (reads_elsewhere c.args.all v on a b c.stage_unspent.ensures.staged.reads)
    (commit_elsewhere c.args.all v c.stage_unspent.new.log on c.commit-lost.result.items b d c.rules.ensures.few
    (staged_list _ _ _ _ _ _ _ _ _ c.rules.ensures c.requires.sector c.told-from c.stage_unspent.ensures.unspent c.stage_unspent.ensures.staged c.if-not-stage_unspent.false)
    c.commit-lost.ensures.commits)

pub returns-then-not-stage_unspent-clause-supers : goal.returns-then-not-stage_unspent-clause-supers
returns-then-not-stage_unspent-clause-supers g c = reads_supers (g.R.Rack.seen c.args.rack.now) (g.R.Rack.seen c.stage_unspent.new.rack) c.stage_unspent.ensures.staged.reads

pub returns-clause-supers : goal.returns-clause-supers
returns-clause-supers g c =
    let a = g.R.Rack.seen c.args.rack.now in
    let b = g.R.Rack.seen c.stage_unspent.new.rack in
    let d = g.R.Rack.seen c.commit-lost.new.rack in
    supers_then a b d c.stage_unspent.ensures.staged.reads.stays c.commit-lost.ensures.commits.stays (reads_supers a b c.stage_unspent.ensures.staged.reads)
    (commit_supers c.args.all c.args.self.now c.stage_unspent.new.log c.args.on.now.items c.commit-lost.result.items b d
    (staged_list _ _ _ _ _ _ _ _ _ c.rules.ensures c.requires.sector c.told-from c.stage_unspent.ensures.unspent c.stage_unspent.ensures.staged c.if-not-stage_unspent.false)
    c.commit-lost.ensures.commits)

pub returns-then-not-stage_unspent-clause-leaves : goal.returns-then-not-stage_unspent-clause-leaves
returns-then-not-stage_unspent-clause-leaves g c = λ s v base may.
    supers_reads v.number (g.R.Rack.seen c.args.rack.now) (g.R.Rack.seen c.stage_unspent.new.rack) c.requires.slices.lasting c.stage_unspent.ensures.staged.reads

pub returns-clause-leaves : goal.returns-clause-leaves
returns-clause-leaves g c = λ s v base may.
    commit_left s c.args.all v c.args.self.now c.stage_unspent.new.self c.note_all.new.self (g.R.Rack.seen c.args.rack.now) (g.R.Rack.seen c.stage_unspent.new.rack) (g.R.Rack.seen c.commit-lost.new.rack)
    c.stage_unspent.new.log c.args.on.now.items c.commit-lost.result.items c.args.x c.args.from.now c.rules.ensures c.requires.slices.lasting c.requires.sector c.told-from
    (c.stage_unspent.ensures.unspent c.if-not-stage_unspent.false) c.stage_unspent.ensures.staged.reads c.stage_unspent.ensures.staged.notes
    (staged_row _ _ _ _ _ _ _ _ _ c.stage_unspent.ensures.staged c.if-not-stage_unspent.false) c.commit-lost.ensures.commits c.note_all.ensures.same c.note_all.ensures.loses base
    (subst (λ (l : LogView). MayLog s v c.note_all.new.self l.number c.args.on.now.items (g.R.Rack.seen c.args.rack.now)) (sym c.stage_unspent.ensures.log) may)
