use Rattle.std.proofs.Common.{List, ℕ, refl, ap, subst, ◌∙◌, arith}
use Rattle.std.proofs.lemmas.List.{take_all}
use Rattle.log_laws.specs.View.{LogView}
use Rattle.raid_laws.specs.Losses.{AddsCopies}
use Rattle.raid_laws.proofs.Copies.{copies_none, copies_more}
use Rattle.raid_rack.proofs.losses.add_copies.Goals as goal

pub loop-place-init : goal.loop-place-init
loop-place-init c = record { added = copies_none c.args.state.now c.args.log.now.added; few = omega arith; log = refl }

pub loop-place-preserved : goal.loop-place-preserved
loop-place-preserved c = record {
  added =
      copies_more c.args.state.now c.as_slice-place-items.result.now c.loop-place.place-index _ c.args.log.now.added c.loop-place.log.added c.add_copy.new.log.added
      c.loop-place-test.true c.loop-place.invariant.added c.add_copy.ensures.added;
  few = (let more = c.add_copy.ensures.few in let before = c.loop-place.invariant.few in omega (arith, more, before));
  log = c.add_copy.ensures.log ∙ ap (λ (l : LogView). record l { added = c.add_copy.new.log.added }) c.loop-place.invariant.log;
}

pub returns-clause-added : goal.returns-clause-added
returns-clause-added c =
    subst (λ (ps : List ℕ). AddsCopies c.args.state.now ps c.args.log.now.added c.loop-place.log.added)
    (take_all c.loop-place.place-index c.as_slice-place-items.result.now (omega arith) ∙ c.as_slice-place-items.ensures.value) c.loop-place.invariant.added

pub returns-clause-log : goal.returns-clause-log
returns-clause-log c = c.loop-place.invariant.log
