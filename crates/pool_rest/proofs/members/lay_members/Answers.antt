use Rattle.std.proofs.Common.{◌≡◌, ◌+◌, refl, sym, subst, ◌∙◌, arith}
use Rattle.slice_rack.specs.SliceRack.{tables, below_of}
use Rattle.pool_rest.specs.Members.{IsCutTo}
use Rattle.pool_rest.proofs.Cut.{keeps_none, keeps_then}
use Rattle.pool_rest.proofs.members.lay_members.Goals as goal

pub loop-array-init : goal.loop-array-init
loop-array-init g c = record { below = refl; fit = c.requires.fit; others = keeps_none _ c.args.place; cut = c.requires.cut }

pub lay_member-requires-clause-cut : goal.lay_member-requires-clause-cut
lay_member-requires-clause-cut g c =
    subst (λ r. IsCutTo (g.R.Rack.seen r) (tables c.loop-array.slices) c.args.table.now c.args.place c.loop-array.array) (sym c.loop-array.invariant.below) c.loop-array.invariant.cut

pub loop-array-preserved : goal.loop-array-preserved
loop-array-preserved g c = record {
  below = c.lay_member.ensures.below ∙ c.loop-array.invariant.below;
  fit = c.lay_member.ensures.fit;
  others = keeps_then _ _ _ c.args.place c.loop-array.invariant.others c.lay_member.ensures.others;
  cut = subst (λ r. IsCutTo (g.R.Rack.seen r) (tables c.lay_member.new.slices) c.args.table.now c.args.place (c.loop-array.array + 1)) c.loop-array.invariant.below c.lay_member.ensures.cut;
}

pub returns-clause-cut : goal.returns-clause-cut
returns-clause-cut g c =
    let all : c.loop-array.array ≡ 16 = omega (arith, c.loop-array-test.false) in
    subst (λ n. IsCutTo (g.R.Rack.seen (below_of c.args.slices.now)) (tables c.loop-array.slices) c.args.table.now c.args.place n) all c.loop-array.invariant.cut
