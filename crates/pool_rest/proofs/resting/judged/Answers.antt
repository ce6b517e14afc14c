use Rattle.std.proofs.Common.{◌≡◌, ℕ, ◌+◌, ◌≤◌, Bool, List, length, not, true, false, refl, sym, ap, subst, ◌∙◌, arith, inl, inr}
use Rattle.std.proofs.lemmas.Bool.{both_ways, cases_eq}
use Rattle.log_laws.specs.View.{names}
use Rattle.pool_scan.specs.Choosing.{seat_by}
use Rattle.pool_rest.proofs.Listed.{pushed, few_pushed, of_pushed, pushed_other, pushed_in}
use Rattle.pool_rest.proofs.resting.judged.Goals as goal

not_false : (b : Bool) → not b ≡ false → b ≡ true
not_false true is = refl
not_false false is = cc

pub loop-place-init : goal.loop-place-init
loop-place-init c = record {
  few = subst (λ (ps : List ℕ). length ps ≤ 0) (sym c.new-places.ensures) (omega arith);
  each = λ p named. absurd (both_ways (names c.new-places.result.items p) (ap (λ ps. names ps p) c.new-places.ensures) named);
  all = λ p low. absurd (omega (arith, low));
}

pub push_unless-requires : goal.push_unless-requires
push_unless-requires c = let few = c.loop-place.invariant.few in omega (arith, few, c.loop-place-test.true)

pub loop-place-preserved : goal.loop-place-preserved
loop-place-preserved c =
    let inv = c.loop-place.invariant in
    let n : ℕ = c.loop-place.place in
    let out : Bool = not c.is_kept-kept.result in
    let items = c.push_unless.ensures in
    record {
      few = subst (λ (ps : List ℕ). length ps ≤ n + 1) (sym items) (few_pushed out n c.loop-place.places.items inv.few);
      each = λ p named. elim (of_pushed out n p c.loop-place.places.items (sym (ap (λ ps. names ps p) items) ∙ named)) [
        | inl earlier ↦ inv.each p earlier
        | inr here ↦
            subst (λ q. (names c.args.on.now.items q ≡ true) × (seat_by c.args.before.now c.args.scan.now.disks.items q ≡ seat_by c.args.state.now c.args.scan.now.disks.items q))
            (sym here.1) (c.is_kept-kept.ensures.kept (not_false c.is_kept-kept.result here.0))
      ];
      all = λ p low named same. elim (cases_eq p n) [
        | inr other ↦
            ap (λ ps. names ps p) items ∙ pushed_other out n p c.loop-place.places.items other
            ∙ inv.all p (omega (arith, low, other)) named same
        | inl here ↦
            ap (λ ps. names ps p) items
            ∙ subst (λ q. names (pushed out n c.loop-place.places.items) q ≡ true) (sym here)
            (pushed_in out n c.loop-place.places.items
            (ap not
            (c.is_kept-kept.ensures.all (ap (names c.args.on.now.items) (sym here) ∙ named)
            (subst (λ q. seat_by c.args.before.now c.args.scan.now.disks.items q ≡ seat_by c.args.state.now c.args.scan.now.disks.items q) here same))))
      ];
    }

pub returns-clause-all : goal.returns-clause-all
returns-clause-all c p low named same = c.loop-place.invariant.all p (omega (arith, low, c.loop-place-test.false)) named same
