use Rattle.std.proofs.Common.{◌<◌, ◌⊎◌, length, sym, ap, subst, ◌∙◌, inl, inr, arith}
use Rattle.std.specs.Prelude.{Ok, Err}
use Rattle.pool.specs.Enlarging.{Enlarges}
use Rattle.pool.specs.Naming.{ReplacesDrive}
use Rattle.pool.specs.Taking.{AttachesDisk, ReplacesBy}
use Rattle.pool.specs.View.{arrays_of, bay_in, book, view, with_bay}
use Rattle.raid_rack.specs.RaidRack.{slices_in}
use Rattle.pool.proofs.Composed.{replaced_by, replaced_unattached, replaced_unlisted}
use Rattle.pool.proofs.EnlargedDrives.{enlarged_by, listed_then}
use Rattle.pool.proofs.Serving.{sound_in}
use Rattle.pool.proofs.Pool.replace.Goals as goal

pub returns-then-place-len-clause-replaced : goal.returns-then-place-len-clause-replaced
returns-then-place-len-clause-replaced g c =
    let p = c.args.self.now in
    let x = view g.R.Rack.seen g.R.Bay.shelf p in
    let past = c.if-place-len.true in
    inl
    (replaced_unlisted x c.args.place c.args.name.now c.requires (sound_in g.R.Rack.seen g.R.Bay.shelf g.met.R.Rack.sound p c.requires)
    (let many = c.len.ensures.value in let state = ap (λ s. length s.drives.items) c.state.ensures in omega (arith, past, many, state)))

pub returns-in-Err-clause-replaced : goal.returns-in-Err-clause-replaced
returns-in-Err-clause-replaced g c =
    let seen = g.R.Rack.seen in
    let shelf = g.R.Bay.shelf in
    let p = c.args.self.now in
    let q = c.disk_of.new.self in
    let x = view seen shelf p in
    let fault = c.in-Err.fault in
    let low = c.if-place-len.false in
    let listed : c.args.place < length (book x).state.drives.items =
    (let many = c.len.ensures.value in let state = ap (λ s. length s.drives.items) c.state.ensures in omega (arith, low, many, state)) in
    let at = subst (λ r. AttachesDisk x (view seen shelf r) c.args.name.now (Err fault)) c.disk_of.ensures.rest c.in-Err.ensures.attaches in
    inl
    (subst (λ r. ReplacesDrive x (view seen shelf r) c.args.place c.args.name.now (Err fault)) (sym c.disk_of.ensures.rest)
    (replaced_unattached x (bay_in q) c.args.place c.args.name.now listed c.requires (slices_in (arrays_of p)).orderly fault at
    (sound_in seen shelf g.met.R.Rack.sound (with_bay p (bay_in q)) at.continues.proceeds.fit)))

pub returns-in-Ok-clause-replaced : goal.returns-in-Ok-clause-replaced
returns-in-Ok-clause-replaced g c =
    let seen = g.R.Rack.seen in
    let shelf = g.R.Bay.shelf in
    let p = c.args.self.now in
    let q = c.disk_of.new.self in
    let r = c.replace_by.new.self in
    let x = view seen shelf p in
    let y = view seen shelf r in
    let disk = c.in-Ok.disk in
    let low = c.if-place-len.false in
    let listed : c.args.place < length (book x).state.drives.items =
    (let many = c.len.ensures.value in let state = ap (λ s. length s.drives.items) c.state.ensures in omega (arith, low, many, state)) in
    let at = subst (λ k. AttachesDisk x (view seen shelf k) c.args.name.now (Ok disk)) c.disk_of.ensures.rest c.in-Ok.ensures.attaches in
    let by = subst (λ k. ReplacesBy (view seen shelf k) y c.args.place disk c.replace_by.result ⊎ Enlarges (view seen shelf k) y c.args.place disk c.replace_by.result)
    c.disk_of.ensures.rest c.replace_by.ensures.replaces in
    let names = (g.met.R.Bay.runs_shelf (bay_in q) (bay_in r) c.replace_by.ensures.runs).names in
    elim by [
      | inl same ↦
          inl
          (replaced_by x (bay_in q) c.args.place c.args.name.now listed c.requires (slices_in (arrays_of p)).orderly disk at y c.replace_by.result same
          (sound_in seen shelf g.met.R.Rack.sound r same.takes.continues.proceeds.fit))
      | inr other ↦
          inr
          (enlarged_by x (bay_in q) c.args.place c.args.name.now listed c.requires (slices_in (arrays_of p)).orderly disk at y c.replace_by.result names
          (sym (g.met.R.Bay.numbered (bay_in r)) ∙ ap length names ∙ g.met.R.Bay.numbered (bay_in q)) other)
    ]

pub returns-in-Ok-clause-unlisted : goal.returns-in-Ok-clause-unlisted
returns-in-Ok-clause-unlisted g c is =
    let low = c.if-place-len.false in
    let many = c.len.ensures.value in
    let state = ap (λ s. length s.drives.items) c.state.ensures in
    elim (returns-in-Ok-clause-replaced g c) [
      | inl by ↦ let past = by.cause.missing.0 is in absurd (omega (arith, low, many, state, past))
      | inr by ↦ absurd (listed_then c.replace_by.result (by.enlarges.takes by.enlarging.disk by.enlarging.named).answer is)
    ]
