use Rattle.std.proofs.Common.{false, refl, ℕ, ◌<◌, ◌∙◌, Bool, sym, subst, inl}
use Rattle.std.proofs.lemmas.Bool.{both_ways}
use Rattle.log_laws.specs.Phases.{AreLogs}
use Rattle.array_model.specs.View.{is_whole_array}
use Rattle.array_model.proofs.Alone.{alone_lacks}
use Rattle.array_core.specs.Settling.{Readies}
use Rattle.array_core.specs.Writing.{Base, as_it_was}
use Rattle.array_core.proofs.Elsewhere.{write_elsewhere}
use Rattle.array_core.proofs.LogWrites.{goes_then}
use Rattle.array_core.proofs.Marking.{ready_writes}
use Rattle.array_core.proofs.SupersLeft.{supers_truth}
use Rattle.array_core.proofs.TruthHeld.{few_bits, hold_noted, hold_write}
use Rattle.array_core.proofs.WriteCalls.{logged_acts, logged_left, past_kept, ready_all, ready_based, ready_goes, ready_kept, ready_now, ready_sectors, ready_slices, ready_whole, view_noted, view_then}
use Rattle.array_core.proofs.Array.write.Goals as goal

pub returns-then-is_alone-clause-writes : goal.returns-then-is_alone-clause-writes
returns-then-is_alone-clause-writes g c = λ s vals spent covers may. c.write_alone.ensures.writes s vals spent covers may.renew.fresh

pub returns-then-is_alone-clause-kept : goal.returns-then-is_alone-clause-kept
returns-then-is_alone-clause-kept g c = λ s may.
    past_kept s c.args.log.now.number c.args.self.now c.write_alone.new.self (g.R.Rack.seen c.args.rack.now) (g.R.Rack.seen c.write_alone.new.rack) c.requires.slices.lasting
    c.write_alone.ensures.goes.stays c.write_alone.ensures.others may.log

pub returns-then-is_alone-clause-view : goal.returns-then-is_alone-clause-view
returns-then-is_alone-clause-view g c = as_it_was (inl (alone_lacks c.args.self.now c.rules.ensures (sym c.is_alone.ensures ∙ c.if-is_alone.true))) c.write_alone.ensures.notes

pub returns-then-is_alone-clause-elsewhere : goal.returns-then-is_alone-clause-elsewhere
returns-then-is_alone-clause-elsewhere g c = c.write_alone.ensures.elsewhere c.args.on.now.items

pub write_marked-requires-clause-slices : goal.write_marked-requires-clause-slices
write_marked-requires-clause-slices g c =
    ready_slices c.args.self.now c.is_ready-ready.new.self (g.R.Rack.seen c.args.rack.now) (g.R.Rack.seen c.is_ready-ready.new.rack) c.is_ready-ready.result c.is_ready-ready.ensures.ready c.requires.slices

pub write_marked-requires-clause-whole : goal.write_marked-requires-clause-whole
write_marked-requires-clause-whole g c =
    (ready_now c.args.self.now c.is_ready-ready.new.self (g.R.Rack.seen c.args.rack.now) (g.R.Rack.seen c.is_ready-ready.new.rack)
    (subst (λ (r : Bool). Readies c.args.self.now c.is_ready-ready.new.self (g.R.Rack.seen c.args.rack.now) (g.R.Rack.seen c.is_ready-ready.new.rack) r) c.if-ready.true c.is_ready-ready.ensures.ready)).0

pub write_marked-requires-clause-marked : goal.write_marked-requires-clause-marked
write_marked-requires-clause-marked g c =
    (ready_now c.args.self.now c.is_ready-ready.new.self (g.R.Rack.seen c.args.rack.now) (g.R.Rack.seen c.is_ready-ready.new.rack)
    (subst (λ (r : Bool). Readies c.args.self.now c.is_ready-ready.new.self (g.R.Rack.seen c.args.rack.now) (g.R.Rack.seen c.is_ready-ready.new.rack) r) c.if-ready.true c.is_ready-ready.ensures.ready)).1

pub write_marked-requires-clause-fresh : goal.write_marked-requires-clause-fresh
write_marked-requires-clause-fresh g c =
    (ready_now c.args.self.now c.is_ready-ready.new.self (g.R.Rack.seen c.args.rack.now) (g.R.Rack.seen c.is_ready-ready.new.rack)
    (subst (λ (r : Bool). Readies c.args.self.now c.is_ready-ready.new.self (g.R.Rack.seen c.args.rack.now) (g.R.Rack.seen c.is_ready-ready.new.rack) r) c.if-ready.true c.is_ready-ready.ensures.ready)).2

pub write_marked-requires-clause-sector : goal.write_marked-requires-clause-sector
write_marked-requires-clause-sector g c =
    subst (λ n. c.args.sector < n)
    (sym (ready_sectors c.args.self.now c.is_ready-ready.new.self (g.R.Rack.seen c.args.rack.now) (g.R.Rack.seen c.is_ready-ready.new.rack) c.is_ready-ready.result c.is_ready-ready.ensures.ready))
    c.requires.sector

pub returns-then-ready-clause-writes : goal.returns-then-ready-clause-writes
returns-then-ready-clause-writes g c = λ s vals spent covers may.
    let v = c.args.self.now in
    let u = c.is_ready-ready.new.self in
    let w = c.write_marked.new.self in
    let a = g.R.Rack.seen c.args.rack.now in
    let b = g.R.Rack.seen c.is_ready-ready.new.rack in
    let d = g.R.Rack.seen c.write_marked.new.rack in
    let goes = c.write_marked.ensures.goes in
    ready_writes s v u w a b d c.rules.ensures c.rules-2.ensures c.requires.slices
    (subst (λ (r : Bool). Readies v u a b r) c.if-ready.true c.is_ready-ready.ensures.ready) may.renew vals spent c.args.sector c.args.from.now covers c.write_marked.ensures.notes
    (c.write_marked.ensures.writes s vals spent covers)
    (view_noted v w a d c.requires.slices.fit (goes_then a b d (ready_goes v u a b c.is_ready-ready.result c.is_ready-ready.ensures.ready) goes).stays
    (view_then v u w a b d c.is_ready-ready.result goes.stays c.is_ready-ready.ensures.ready c.write_marked.ensures.notes))

pub returns-then-ready-clause-kept : goal.returns-then-ready-clause-kept
returns-then-ready-clause-kept g c = λ s may.
    ready_kept s c.args.log.now.number c.args.self.now c.is_ready-ready.new.self c.write_marked.new.self (g.R.Rack.seen c.args.rack.now) (g.R.Rack.seen c.is_ready-ready.new.rack)
    (g.R.Rack.seen c.write_marked.new.rack) c.is_ready-ready.result c.rules.ensures.few c.requires.slices.lasting c.is_ready-ready.ensures.ready c.write_marked.ensures.goes.stays
    c.write_marked.ensures.others may.log

pub returns-then-ready-clause-view : goal.returns-then-ready-clause-view
returns-then-ready-clause-view g c =
    view_then c.args.self.now c.is_ready-ready.new.self c.write_marked.new.self (g.R.Rack.seen c.args.rack.now) (g.R.Rack.seen c.is_ready-ready.new.rack) (g.R.Rack.seen c.write_marked.new.rack)
    c.is_ready-ready.result c.write_marked.ensures.goes.stays c.is_ready-ready.ensures.ready c.write_marked.ensures.notes

pub returns-then-ready-clause-goes : goal.returns-then-ready-clause-goes
returns-then-ready-clause-goes g c =
    goes_then (g.R.Rack.seen c.args.rack.now) (g.R.Rack.seen c.is_ready-ready.new.rack) (g.R.Rack.seen c.write_marked.new.rack)
    (ready_goes c.args.self.now c.is_ready-ready.new.self (g.R.Rack.seen c.args.rack.now) (g.R.Rack.seen c.is_ready-ready.new.rack) c.is_ready-ready.result c.is_ready-ready.ensures.ready)
    c.write_marked.ensures.goes

pub write_logged-requires-clause-slices : goal.write_logged-requires-clause-slices
write_logged-requires-clause-slices g c =
    ready_slices c.args.self.now c.is_ready-ready.new.self (g.R.Rack.seen c.args.rack.now) (g.R.Rack.seen c.is_ready-ready.new.rack) c.is_ready-ready.result c.is_ready-ready.ensures.ready c.requires.slices

pub write_logged-requires-clause-disks : goal.write_logged-requires-clause-disks
write_logged-requires-clause-disks g c =
    (ready_goes c.args.self.now c.is_ready-ready.new.self (g.R.Rack.seen c.args.rack.now) (g.R.Rack.seen c.is_ready-ready.new.rack) c.is_ready-ready.result c.is_ready-ready.ensures.ready).stays.disks
    ∙ c.requires.disks

pub write_logged-requires-clause-logs : goal.write_logged-requires-clause-logs
write_logged-requires-clause-logs g c =
    subst (λ (sectors : ℕ → ℕ). AreLogs sectors c.args.on.now.items)
    (λ i d. sym ((ready_goes c.args.self.now c.is_ready-ready.new.self (g.R.Rack.seen c.args.rack.now) (g.R.Rack.seen c.is_ready-ready.new.rack) c.is_ready-ready.result c.is_ready-ready.ensures.ready).stays.sectors d) i)
    c.requires.logs

pub write_logged-requires-clause-sector : goal.write_logged-requires-clause-sector
write_logged-requires-clause-sector g c =
    subst (λ n. c.args.sector < n)
    (sym (ready_sectors c.args.self.now c.is_ready-ready.new.self (g.R.Rack.seen c.args.rack.now) (g.R.Rack.seen c.is_ready-ready.new.rack) c.is_ready-ready.result c.is_ready-ready.ensures.ready))
    c.requires.sector

pub write_logged-requires-clause-all : goal.write_logged-requires-clause-all
write_logged-requires-clause-all g c = λ is.
    ready_all c.args.self.now c.is_ready-ready.new.self (g.R.Rack.seen c.args.rack.now) (g.R.Rack.seen c.is_ready-ready.new.rack) c.is_ready-ready.result c.rules.ensures c.is_ready-ready.ensures.ready
    c.requires.slices (sym c.is_whole-whole.ensures ∙ is)

pub returns-clause-writes : goal.returns-clause-writes
returns-clause-writes g c = λ s vals spent covers may.
    let v = c.args.self.now in
    let u = c.is_ready-ready.new.self in
    let w = c.write_logged.new.self in
    let a = g.R.Rack.seen c.args.rack.now in
    let b = g.R.Rack.seen c.is_ready-ready.new.rack in
    let d = g.R.Rack.seen c.write_logged.new.rack in
    let goes = c.write_logged.ensures.goes in
    logged_acts s v u w c.args.log.now.number c.args.on.now.items a b d c.args.sector c.args.from.now c.rules.ensures c.requires.slices (sym c.is_alone.ensures ∙ c.if-is_alone.false)
    (subst (λ (r : Bool). Readies v u a b r) c.if-ready.false c.is_ready-ready.ensures.ready) may
    (view_noted v w a d c.requires.slices.fit (goes_then a b d (ready_goes v u a b c.is_ready-ready.result c.is_ready-ready.ensures.ready) goes).stays
    (view_then v u w a b d c.is_ready-ready.result goes.stays c.is_ready-ready.ensures.ready c.write_logged.ensures.notes))
    vals spent
    (λ base is log. c.write_logged.ensures.logged s base vals spent covers (subst (λ (all : Bool). Base all base u) (sym c.is_whole-whole.ensures) is) log)

pub returns-clause-kept : goal.returns-clause-kept
returns-clause-kept g c = λ s may.
    let v = c.args.self.now in
    let u = c.is_ready-ready.new.self in
    let a = g.R.Rack.seen c.args.rack.now in
    let b = g.R.Rack.seen c.is_ready-ready.new.rack in
    let based = ready_based s v u c.write_logged.new.self c.args.log.now.number c.args.on.now.items a b c.rules.ensures c.requires.slices (sym c.is_alone.ensures ∙ c.if-is_alone.false)
    (subst (λ (r : Bool). Readies v u a b r) c.if-ready.false c.is_ready-ready.ensures.ready) may in
    c.write_logged.ensures.kept s based.base (subst (λ (all : Bool). Base all based.base u) (sym c.is_whole-whole.ensures) based.is_base) based.may

pub returns-clause-view : goal.returns-clause-view
returns-clause-view g c =
    view_then c.args.self.now c.is_ready-ready.new.self c.write_logged.new.self (g.R.Rack.seen c.args.rack.now) (g.R.Rack.seen c.is_ready-ready.new.rack) (g.R.Rack.seen c.write_logged.new.rack)
    c.is_ready-ready.result c.write_logged.ensures.goes.stays c.is_ready-ready.ensures.ready c.write_logged.ensures.notes

pub returns-clause-goes : goal.returns-clause-goes
returns-clause-goes g c =
    goes_then (g.R.Rack.seen c.args.rack.now) (g.R.Rack.seen c.is_ready-ready.new.rack) (g.R.Rack.seen c.write_logged.new.rack)
    (ready_goes c.args.self.now c.is_ready-ready.new.self (g.R.Rack.seen c.args.rack.now) (g.R.Rack.seen c.is_ready-ready.new.rack) c.is_ready-ready.result c.is_ready-ready.ensures.ready)
    c.write_logged.ensures.goes

pub returns-then-ready-clause-elsewhere : goal.returns-then-ready-clause-elsewhere
returns-then-ready-clause-elsewhere g c =
    let v = c.args.self.now in
    let u = c.is_ready-ready.new.self in
    let on = c.args.on.now.items in
    let a = g.R.Rack.seen c.args.rack.now in
    let b = g.R.Rack.seen c.is_ready-ready.new.rack in
    let d = g.R.Rack.seen c.write_marked.new.rack in
    write_elsewhere v u on a b d c.is_ready-ready.result false c.rules.ensures c.is_ready-ready.ensures.ready
    (ready_goes v u a b c.is_ready-ready.result c.is_ready-ready.ensures.ready).stays c.write_marked.ensures.goes.stays (λ is. absurd (both_ways false refl is)) (c.write_marked.ensures.elsewhere on)

pub returns-clause-elsewhere : goal.returns-clause-elsewhere
returns-clause-elsewhere g c =
    let v = c.args.self.now in
    let u = c.is_ready-ready.new.self in
    let on = c.args.on.now.items in
    let a = g.R.Rack.seen c.args.rack.now in
    let b = g.R.Rack.seen c.is_ready-ready.new.rack in
    let d = g.R.Rack.seen c.write_logged.new.rack in
    write_elsewhere v u on a b d c.is_ready-ready.result c.is_whole-whole.result c.rules.ensures c.is_ready-ready.ensures.ready
    (ready_goes v u a b c.is_ready-ready.result c.is_ready-ready.ensures.ready).stays c.write_logged.ensures.goes.stays (λ is. sym c.is_whole-whole.ensures ∙ is) c.write_logged.ensures.elsewhere

pub returns-then-is_alone-clause-truth : goal.returns-then-is_alone-clause-truth
returns-then-is_alone-clause-truth g c =
    hold_noted c.args.self.now c.write_alone.new.self (g.R.Rack.seen c.args.rack.now) (g.R.Rack.seen c.write_alone.new.rack) c.requires.slices.lasting c.rules.ensures.few
    c.write_alone.ensures.goes.stays c.write_alone.ensures.notes c.write_alone.ensures.supers

pub returns-then-ready-clause-truth : goal.returns-then-ready-clause-truth
returns-then-ready-clause-truth g c =
    let v = c.args.self.now in
    let u = c.is_ready-ready.new.self in
    let a = g.R.Rack.seen c.args.rack.now in
    let b = g.R.Rack.seen c.is_ready-ready.new.rack in
    hold_write v u c.write_marked.new.self a b (g.R.Rack.seen c.write_marked.new.rack) c.is_ready-ready.result c.requires.slices.lasting c.rules.ensures.few c.rules-2.ensures.few
    (few_bits v.truth c.truth_rules.ensures) (ready_goes v u a b c.is_ready-ready.result c.is_ready-ready.ensures.ready).stays c.write_marked.ensures.goes.stays
    c.is_ready-ready.ensures.ready c.write_marked.ensures.notes c.write_marked.ensures.supers

pub returns-clause-truth : goal.returns-clause-truth
returns-clause-truth g c =
    let v = c.args.self.now in
    let u = c.is_ready-ready.new.self in
    let a = g.R.Rack.seen c.args.rack.now in
    let b = g.R.Rack.seen c.is_ready-ready.new.rack in
    hold_write v u c.write_logged.new.self a b (g.R.Rack.seen c.write_logged.new.rack) c.is_ready-ready.result c.requires.slices.lasting c.rules.ensures.few c.rules-2.ensures.few
    (few_bits v.truth c.truth_rules.ensures) (ready_goes v u a b c.is_ready-ready.result c.is_ready-ready.ensures.ready).stays c.write_logged.ensures.goes.stays
    c.is_ready-ready.ensures.ready c.write_logged.ensures.notes c.write_logged.ensures.supers

pub returns-then-is_alone-clause-leaves : goal.returns-then-is_alone-clause-leaves
returns-then-is_alone-clause-leaves g c = λ s vals spent covers may lacks.
    supers_truth s c.args.self.now.number _ _ (g.R.Rack.seen c.args.rack.now) (g.R.Rack.seen c.write_alone.new.rack) c.write_alone.ensures.leaves

pub returns-then-ready-clause-leaves : goal.returns-then-ready-clause-leaves
returns-then-ready-clause-leaves g c = λ s vals spent covers may lacks.
    let v = c.args.self.now in
    let u = c.is_ready-ready.new.self in
    let a = g.R.Rack.seen c.args.rack.now in
    let b = g.R.Rack.seen c.is_ready-ready.new.rack in
    absurd (both_ways (is_whole_array v) lacks (ready_whole v u a b (subst (λ (r : Bool). Readies v u a b r) c.if-ready.true c.is_ready-ready.ensures.ready)))

pub returns-clause-leaves : goal.returns-clause-leaves
returns-clause-leaves g c = λ s vals spent covers may lacks.
    let v = c.args.self.now in
    let u = c.is_ready-ready.new.self in
    let a = g.R.Rack.seen c.args.rack.now in
    let b = g.R.Rack.seen c.is_ready-ready.new.rack in
    let d = g.R.Rack.seen c.write_logged.new.rack in
    supers_truth s v.number _ _ a d
    (logged_left s v u c.write_logged.new.self c.args.log.now.number c.args.on.now.items a b d c.rules.ensures c.requires.slices (sym c.is_alone.ensures ∙ c.if-is_alone.false) lacks
    (subst (λ (r : Bool). Readies v u a b r) c.if-ready.false c.is_ready-ready.ensures.ready) may
    (λ base is. c.write_logged.ensures.leaves s base (subst (λ (all : Bool). Base all base u) (sym c.is_whole-whole.ensures) is)))
