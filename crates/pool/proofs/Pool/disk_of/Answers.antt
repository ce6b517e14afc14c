use Rattle.std.proofs.Common.{◌≡◌, ℕ, ◌<◌, Some, refl, sym, ap, subst, ◌∙◌, inl, inr}
use Rattle.std.specs.Prelude.{Result, Ok, Err, slice_get}
use Rattle.std.proofs.lemmas.Option.{slice_get_within}
use Rattle.rack.specs.Shelf.{Attaches}
use Rattle.rack.specs.declared.AttachFault.{AttachFault}
use Rattle.rack.specs.declared.AttachFault.TheVariants.{Failed, Twice as TwiceAt, Memory as NoMemory}
use Rattle.pool.specs.declared.replacing.GrowFault.{GrowFault}
use Rattle.pool.specs.declared.replacing.GrowFault.TheVariants.{Attach, Twice, Memory}
use Rattle.pool.specs.Moment.{moment_of}
use Rattle.pool.specs.Taking.{AttachesDisk, IsOfPlace}
use Rattle.pool.specs.View.{arrays_of, bay_in, view}
use Rattle.raid_rack.specs.RaidRack.{slices_in}
use Rattle.slice_rack.specs.Slices.{seat_of}
use Rattle.slice_rack.specs.SliceRack.{tables}
use Rattle.pool.proofs.Attaching.{attached, unattached}
use Rattle.pool.proofs.Pool.disk_of.Goals as goal

differ : (e f : GrowFault) → (e ≡ f → ⊥) → ◌≡◌ {A = Result ℕ GrowFault} (Err e) (Err f) → ⊥
differ e f other same = other (fault_of same)
  where
    fault_of : ◌≡◌ {A = Result ℕ GrowFault} (Err e) (Err f) → e ≡ f
    fault_of same = cc

never : (d : ℕ) (e : GrowFault) → ◌≡◌ {A = Result ℕ GrowFault} (Ok d) (Err e) → ⊥
never d e same = cc

pub returns-in-Ok-clause-attaches : goal.returns-in-Ok-clause-attaches
returns-in-Ok-clause-attaches g c =
    let seen = g.R.Rack.seen in
    let shelf = g.R.Bay.shelf in
    let p = c.args.self.now in
    let q = c.attach.new.self in
    let attaches = c.in-Ok.ensures.attaches in
    subst (λ r. AttachesDisk (view seen shelf p) (view seen shelf r) c.args.name.now (Ok c.in-Ok.disk)) (sym c.attach.ensures.rest)
    (attached (view seen shelf p) (seen (bay_in q)) (shelf (bay_in q)) c.args.name.now (Ok c.in-Ok.disk) (record { fit = g.met.R.Bay.always_fit (bay_in p); lasting = g.met.R.Bay.lasting (bay_in p); unspent = g.met.R.Bay.unspent (bay_in p); small = g.met.R.Bay.bounded (bay_in p); numbered = g.met.R.Bay.numbered (bay_in p) }) (record { fit = g.met.R.Bay.always_fit (bay_in q); lasting = g.met.R.Bay.lasting (bay_in q); unspent = g.met.R.Bay.unspent (bay_in q); small = g.met.R.Bay.bounded (bay_in q); numbered = g.met.R.Bay.numbered (bay_in q) })
    (slices_in (arrays_of p)).orderly p.volume.orderly c.requires attaches c.in-Ok.disk refl attaches.ok)

pub returns-in-Err-Failed-clause-attaches : goal.returns-in-Err-Failed-clause-attaches
returns-in-Err-Failed-clause-attaches g c =
    let seen = g.R.Rack.seen in
    let shelf = g.R.Bay.shelf in
    let p = c.args.self.now in
    let q = c.attach.new.self in
    let attaches =
    subst (λ (e : AttachFault). Attaches (seen (bay_in p)) (seen (bay_in q)) (shelf (bay_in p)) (shelf (bay_in q)) c.args.name.now (Err e)) c.in-Err-Failed.field-0-is
    c.in-Err-Failed.ensures.attaches in
    subst (λ r. AttachesDisk (view seen shelf p) (view seen shelf r) c.args.name.now (Err Attach)) (sym c.attach.ensures.rest)
    (unattached (view seen shelf p) (seen (bay_in q)) (shelf (bay_in q)) c.args.name.now (Err Failed) (record { fit = g.met.R.Bay.always_fit (bay_in p); lasting = g.met.R.Bay.lasting (bay_in p); unspent = g.met.R.Bay.unspent (bay_in p); small = g.met.R.Bay.bounded (bay_in p); numbered = g.met.R.Bay.numbered (bay_in p) }) (record { fit = g.met.R.Bay.always_fit (bay_in q); lasting = g.met.R.Bay.lasting (bay_in q); unspent = g.met.R.Bay.unspent (bay_in q); small = g.met.R.Bay.bounded (bay_in q); numbered = g.met.R.Bay.numbered (bay_in q) })
    (slices_in (arrays_of p)).orderly p.volume.orderly c.requires attaches attaches.refused (Err Attach) tt (inl refl) (λ is. refl)
    (λ is. absurd (differ Attach Memory (λ same. cc) is))
    (λ is. absurd (differ Attach Twice (λ same. cc) is), λ of. absurd (not_twice of.0 ((attaches.twice of.0).1 of.2))))
  where
    not_twice : (d : ℕ) → ◌≡◌ {A = Result ℕ AttachFault} (Err Failed) (Err (TwiceAt d)) → ⊥
    not_twice d same = cc

pub returns-in-Err-Memory-clause-attaches : goal.returns-in-Err-Memory-clause-attaches
returns-in-Err-Memory-clause-attaches g c =
    let seen = g.R.Rack.seen in
    let shelf = g.R.Bay.shelf in
    let p = c.args.self.now in
    let q = c.attach.new.self in
    let attaches =
    subst (λ (e : AttachFault). Attaches (seen (bay_in p)) (seen (bay_in q)) (shelf (bay_in p)) (shelf (bay_in q)) c.args.name.now (Err e)) c.in-Err-Memory.field-0-is
    c.in-Err-Memory.ensures.attaches in
    subst (λ r. AttachesDisk (view seen shelf p) (view seen shelf r) c.args.name.now (Err Memory)) (sym c.attach.ensures.rest)
    (unattached (view seen shelf p) (seen (bay_in q)) (shelf (bay_in q)) c.args.name.now (Err NoMemory) (record { fit = g.met.R.Bay.always_fit (bay_in p); lasting = g.met.R.Bay.lasting (bay_in p); unspent = g.met.R.Bay.unspent (bay_in p); small = g.met.R.Bay.bounded (bay_in p); numbered = g.met.R.Bay.numbered (bay_in p) }) (record { fit = g.met.R.Bay.always_fit (bay_in q); lasting = g.met.R.Bay.lasting (bay_in q); unspent = g.met.R.Bay.unspent (bay_in q); small = g.met.R.Bay.bounded (bay_in q); numbered = g.met.R.Bay.numbered (bay_in q) })
    (slices_in (arrays_of p)).orderly p.volume.orderly c.requires attaches attaches.refused (Err Memory) tt (inr (inl refl))
    (λ is. absurd (differ Memory Attach (λ same. cc) is)) (λ is. refl)
    (λ is. absurd (differ Memory Twice (λ same. cc) is), λ of. absurd (not_twice of.0 ((attaches.twice of.0).1 of.2))))
  where
    not_twice : (d : ℕ) → ◌≡◌ {A = Result ℕ AttachFault} (Err NoMemory) (Err (TwiceAt d)) → ⊥
    not_twice d same = cc

pub returns-then-is_of_drive-clause-attaches : goal.returns-then-is_of_drive-clause-attaches
returns-then-is_of_drive-clause-attaches g c =
    let seen = g.R.Rack.seen in
    let shelf = g.R.Bay.shelf in
    let p = c.args.self.now in
    let q = c.attach.new.self in
    let attaches =
    subst (λ (e : AttachFault). Attaches (seen (bay_in p)) (seen (bay_in q)) (shelf (bay_in p)) (shelf (bay_in q)) c.args.name.now (Err e)) c.in-Err-Twice.field-0-is
    c.in-Err-Twice.ensures.attaches in
    let d = c.in-Err-Twice.disk in
    let of_place : IsOfPlace (moment_of (view seen shelf p)) d =
    subst (λ r. IsOfPlace (moment_of (view seen shelf r)) d) c.attach.ensures.rest (c.is_of_drive.ensures.found c.if-is_of_drive.true) in
    subst (λ r. AttachesDisk (view seen shelf p) (view seen shelf r) c.args.name.now (Err Twice)) (sym c.attach.ensures.rest)
    (unattached (view seen shelf p) (seen (bay_in q)) (shelf (bay_in q)) c.args.name.now (Err (TwiceAt d)) (record { fit = g.met.R.Bay.always_fit (bay_in p); lasting = g.met.R.Bay.lasting (bay_in p); unspent = g.met.R.Bay.unspent (bay_in p); small = g.met.R.Bay.bounded (bay_in p); numbered = g.met.R.Bay.numbered (bay_in p) }) (record { fit = g.met.R.Bay.always_fit (bay_in q); lasting = g.met.R.Bay.lasting (bay_in q); unspent = g.met.R.Bay.unspent (bay_in q); small = g.met.R.Bay.bounded (bay_in q); numbered = g.met.R.Bay.numbered (bay_in q) })
    (slices_in (arrays_of p)).orderly p.volume.orderly c.requires attaches attaches.refused (Err Twice) tt (inr (inr refl))
    (λ is. absurd (differ Twice Attach (λ same. cc) is)) (λ is. absurd (differ Twice Memory (λ same. cc) is))
    (λ is. (d, of_place.0, (attaches.twice d).0 refl, of_place.1, of_place.2), λ of. refl))

pub returns-else-is_of_drive-clause-attaches : goal.returns-else-is_of_drive-clause-attaches
returns-else-is_of_drive-clause-attaches g c =
    let seen = g.R.Rack.seen in
    let shelf = g.R.Bay.shelf in
    let p = c.args.self.now in
    let q = c.attach.new.self in
    let attaches =
    subst (λ (e : AttachFault). Attaches (seen (bay_in p)) (seen (bay_in q)) (shelf (bay_in p)) (shelf (bay_in q)) c.args.name.now (Err e)) c.in-Err-Twice.field-0-is
    c.in-Err-Twice.ensures.attaches in
    let d = c.in-Err-Twice.disk in
    let named : slice_get (shelf (bay_in p)).names d ≡ Some c.args.name.now = (attaches.twice d).0 refl in
    let named_now : slice_get (shelf (bay_in q)).names d ≡ Some c.args.name.now = ap (λ names. slice_get names d) attaches.refused.names ∙ named in
    let free : IsOfPlace (moment_of (view seen shelf p)) d → ⊥ =
    subst (λ r. IsOfPlace (moment_of (view seen shelf r)) d → ⊥) c.attach.ensures.rest (c.is_of_drive.ensures.none c.if-is_of_drive.false) in
    subst (λ r. AttachesDisk (view seen shelf p) (view seen shelf r) c.args.name.now (Ok d)) (sym c.attach.ensures.rest)
    (unattached (view seen shelf p) (seen (bay_in q)) (shelf (bay_in q)) c.args.name.now (Err (TwiceAt d)) (record { fit = g.met.R.Bay.always_fit (bay_in p); lasting = g.met.R.Bay.lasting (bay_in p); unspent = g.met.R.Bay.unspent (bay_in p); small = g.met.R.Bay.bounded (bay_in p); numbered = g.met.R.Bay.numbered (bay_in p) }) (record { fit = g.met.R.Bay.always_fit (bay_in q); lasting = g.met.R.Bay.lasting (bay_in q); unspent = g.met.R.Bay.unspent (bay_in q); small = g.met.R.Bay.bounded (bay_in q); numbered = g.met.R.Bay.numbered (bay_in q) })
    (slices_in (arrays_of p)).orderly p.volume.orderly c.requires attaches attaches.refused (Ok d)
    (named_now, subst (λ n. d < n) (g.met.R.Bay.numbered (bay_in q)) (slice_get_within (shelf (bay_in q)).names d c.args.name.now named_now), free) tt
    (λ is. absurd (never d Attach is)) (λ is. absurd (never d Memory is))
    (λ is. absurd (never d Twice is), λ of. absurd (free (of.1, subst (λ e. seat_of (tables (slices_in (arrays_of p))) of.1 ≡ Some e) (same_at of.0 d ((attaches.twice of.0).1 of.2)) of.3, of.4))))
  where
    same_at : (e d : ℕ) → ◌≡◌ {A = Result ℕ AttachFault} (Err (TwiceAt d)) (Err (TwiceAt e)) → e ≡ d
    same_at e d same = cc
