use Rattle.std.proofs.Common.{◌≡◌, ℕ, ◌+◌, ◌≤◌, Bool, List, length, not, true, false, refl, sym, ap, subst, ◌∙◌, arith, inl, inr}
use Rattle.std.proofs.lemmas.Bool.{both_ways}
use Rattle.log_laws.specs.View.{names}
use Rattle.pool_scan.specs.Choosing.{seat_by}
use Rattle.pool_rest.proofs.Listed.{few_pushed, of_pushed}
use Rattle.pool_rest.proofs.resting.refused_of.Goals as goal

not_false : (b : Bool) → not b ≡ false → b ≡ true
not_false true is = refl
not_false false is = cc

pub loop-place-init : goal.loop-place-init
loop-place-init c = record {
  few = subst (λ (ps : List ℕ). length ps ≤ 0) (sym c.new-places.ensures) (omega arith);
  each = λ p d named. absurd (both_ways (names c.new-places.result.items p) (ap (λ ps. names ps p) c.new-places.ensures) named);
}

pub push_unless-requires : goal.push_unless-requires
push_unless-requires c = let few = c.loop-place.invariant.few in omega (arith, few, c.loop-place-test.true)

pub loop-place-preserved : goal.loop-place-preserved
loop-place-preserved c =
    let inv = c.loop-place.invariant in
    let n : ℕ = c.loop-place.place in
    let out : Bool = not c.has_refused-has.result in
    let items = c.push_unless.ensures in
    record {
      few = subst (λ (ps : List ℕ). length ps ≤ n + 1) (sym items) (few_pushed out n c.loop-place.places.items inv.few);
      each = λ p d named seat. elim (of_pushed out n p c.loop-place.places.items (sym (ap (λ ps. names ps p) items) ∙ named)) [
        | inl earlier ↦ inv.each p d earlier seat
        | inr here ↦
            (c.has_refused-has.ensures (not_false c.has_refused-has.result here.0) d (ap (seat_by c.args.state.now c.args.scan.now.disks.items) (sym here.1) ∙ seat))
      ];
    }
