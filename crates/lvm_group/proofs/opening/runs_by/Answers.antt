use Rattle.std.proofs.Common.{◌≡◌, ◌∙◌, List, Option, Some, true, false, sym, ap, subst, refl, length, Vec, Global}
use Rattle.std.specs.Prelude.{slice_index, is_some, IfSome}
use Rattle.lvm_text.specs.declared.group.Pv.{Pv}
use Rattle.lvm_group.specs.declared.runs.Run.{Run}
use Rattle.lvm_group.specs.Group.{is_own_group, runs_in}
use Rattle.lvm_group.specs.Opening.{first_bad_with}
use Rattle.lvm_group.proofs.Answered.{bad_with_group, first_is_bad}
use Rattle.lvm_group.proofs.OwnGroup.{own_sized}
use Rattle.lvm_group.proofs.opening.runs_by.Goals as goal

pub returns-in_default-runs-clause-fault : goal.returns-in_default-runs-clause-fault
returns-in_default-runs-clause-fault c =
    first_is_bad c.args.pool.now.0 c.args.extent (slice_index c.args.sectors.now) c.args.parts.now (Some c.in-Some.group.now) c.requires.some (sym c.in-Some.ensures)
    (subst (λ n. is_own_group c.args.pool.now.0 c.args.extent (slice_index c.args.sectors.now) n c.in-Some.group.now ≡ false) c.requires.same
    (sym c.in-Ok.ensures.own ∙ ap is_some c.in_default-runs.is))

pub returns-in-Some-first_bad-clause-fault : goal.returns-in-Some-first_bad-clause-fault
returns-in-Some-first_bad-clause-fault c =
    bad_with_group c.args.pool.now.0 c.args.extent (slice_index c.args.sectors.now) c.args.parts.now c.in-Some.group.now (sym c.in-Some.ensures)
    (subst (λ n. is_own_group c.args.pool.now.0 c.args.extent (slice_index c.args.sectors.now) n c.in-Some.group.now ≡ true) c.requires.same
    (sym c.in-Ok.ensures.own ∙ ap is_some c.in-Some-runs.is))
    ∙ ap (λ (pvs : List Pv). first_bad_with c.args.pool.now.0 pvs c.args.parts.now) (sym c.as_slice.ensures) ∙ sym c.in-Some-first_bad.ensures

pub returns-in-None-clause-runs : goal.returns-in-None-clause-runs
returns-in-None-clause-runs c =
    let own = subst (λ n. is_own_group c.args.pool.now.0 c.args.extent (slice_index c.args.sectors.now) n c.in-Some.group.now ≡ true) c.requires.same
    (sym c.in-Ok.ensures.own ∙ ap is_some c.in-Some-runs.is) in
    let runs_are : c.in-Some-runs.runs.items ≡ runs_in c.in-Some.group.now.lvs =
    subst (λ (o : Option (Vec Run Global)). IfSome o (λ runs. runs.items ≡ runs_in c.in-Some.group.now.lvs)) c.in-Some-runs.is c.in-Ok.ensures.runs in
    record {
      group = c.in-Some.group.now;
      found = sym c.in-Some.ensures;
      own = own;
      sound = bad_with_group c.args.pool.now.0 c.args.extent (slice_index c.args.sectors.now) c.args.parts.now c.in-Some.group.now (sym c.in-Some.ensures) own
          ∙ ap (λ (pvs : List Pv). first_bad_with c.args.pool.now.0 pvs c.args.parts.now) (sym c.as_slice.ensures) ∙ sym c.in-None.ensures;
      volume = (λ i. record {
        extent = sym (own_sized c.args.pool.now.0 c.args.extent (length c.args.parts.now) (slice_index c.args.sectors.now) c.in-Some.group.now own) i;
        arrays = length c.args.parts.now;
        runs = runs_are i;
      });
      numbered = refl;
    }
