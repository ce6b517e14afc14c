use Rattle.std.proofs.Common.{◌≡◌, ◌+◌, ◌*◌, inl, inr, subst, arith}
use Rattle.std.proofs.lemmas.Bool.{cases_lt}
use Rattle.slice_rack.specs.Changes.{Shares}
use Rattle.slice_rack.specs.SliceRack.{tables}
use Rattle.slice_rack.proofs.SliceRack.overlaps.Goals.{else-other-slice-via-then-other-slice+else-shares, else-other-slice-via-else-other-slice}
use Rattle.slice_rack.proofs.SliceRack.overlaps.Goals as goal

pub loop-other-preserved : goal.loop-other-preserved
loop-other-preserved g c d here below apart =
    elim (cases_lt d (17 * c.args.place + c.loop-other.other)) [
      | inl old ↦ c.loop-other.invariant d here old apart
      | inr new ↦
          let is : 17 * c.args.place + c.loop-other.other ≡ d = omega arith in
          elim c.else-other-slice.branch [
            | else-other-slice-via-then-other-slice+else-shares w ↦
                subst (λ n. Shares (tables c.args.self.now) n c.args.first c.args.sectors → ⊥) is
                (λ shared. w.shares.ensures.apart w.if-shares.false shared.0 shared.1.0 shared.1.1 (rw w.slice.ensures.sectors shared.1.2) (rw w.slice.ensures.first shared.1.3))
            | else-other-slice-via-else-other-slice w ↦ absurd (apart (omega (arith, is)))
          ]
    ]
