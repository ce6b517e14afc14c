-- The first disk of a name is found, and where none is found there is none.
use Rattle.std.proofs.Common.{◌≡◌, ◌∙◌, ap, sym, subst, refl, Some, true, slice_get, length, below_more, arith}
use Rattle.std.proofs.lemmas.Bool.Decides.{Decides-eqb}
use Rattle.std.proofs.lemmas.Option.{slice_get_read}
use Rattle.std.proofs.lemmas.Slice.Eq.{slice_eq-Decides}
use Rattle.pool_lab.proofs.DisksLemmas.{name_at, name_is, none_named}
use Rattle.pool_lab.proofs.bay.LabBay.position.Goals as goal

pub returns-then-eq-clause-found : goal.returns-then-eq-clause-found
returns-then-eq-clause-found c =
    let disks = c.args.self.now.disks.items in
    let here = slice_get_read c.deref-disk-items.result.now _ c.loop-at.at _ refl c.loop-at-test.true c.disk-item.is in
    let at = subst (λ xs. slice_get xs c.loop-at.at ≡ Some c.disk-item.result) c.deref-disk-items.ensures.value here in
    let same = (slice_eq-Decides Decides-eqb _ _ _ c.eq.ensures).0 c.if-eq.true in
    name_at disks _ _ at ∙ ap Some (sym c.bytes.ensures ∙ (same ∙ c.as_bytes.ensures.value))

pub loop-at-preserved : goal.loop-at-preserved
loop-at-preserved c =
    let disks = c.args.self.now.disks.items in
    let here = slice_get_read c.deref-disk-items.result.now _ c.loop-at.at _ refl c.loop-at-test.true c.disk-item.is in
    let at = subst (λ xs. slice_get xs c.loop-at.at ≡ Some c.disk-item.result) c.deref-disk-items.ensures.value here in
    below_more _ _ c.loop-at.invariant
    (λ named.
    let same = name_is disks _ _ c.args.name.now at named in
    let equal : c.eq.result ≡ true =
    (slice_eq-Decides Decides-eqb _ _ _ c.eq.ensures).1
    (c.bytes.ensures ∙ (same ∙ sym c.as_bytes.ensures.value)) in
    cc (c.if-eq.false))

pub returns-clause-none : goal.returns-clause-none
returns-clause-none c =
    let disks = c.args.self.now.disks.items in
    let same = ap length c.deref-disk-items.ensures.value in
    let past = c.loop-at-test.false in
    none_named disks c.loop-at.at c.args.name.now (omega arith) c.loop-at.invariant
