use Rattle.std.proofs.Common.{◌≡◌, ℕ, ◌+◌, ◌≤◌, ◌||◌, Bool, List, length, not, true, false, refl, sym, ap, subst, ◌∙◌, arith, inl, inr}
use Rattle.std.proofs.lemmas.Bool.{both_ways, cases_Bool, cases_eq}
use Rattle.log_laws.specs.View.{names}
use Rattle.pool_rest.proofs.Listed.{pushed, few_pushed, of_pushed, pushed_here, pushed_other}
use Rattle.pool_rest.proofs.resting.both.Goals as goal

not_not : (b : Bool) → not (not b) ≡ b
not_not true = refl
not_not false = refl

pub loop-place-init : goal.loop-place-init
loop-place-init c = record {
  count = subst (λ (ps : List ℕ). length ps ≤ 0) (sym c.new-places.ensures) (omega arith);
  each = λ p low. absurd (omega (arith, low));
  few = λ p named. absurd (both_ways (names c.new-places.result.items p) (ap (λ ps. names ps p) c.new-places.ensures) named);
}

pub push_unless-requires : goal.push_unless-requires
push_unless-requires c = let few = c.loop-place.invariant.count in omega (arith, few, c.loop-place-test.true)

pub loop-place-preserved : goal.loop-place-preserved
loop-place-preserved c =
    let inv = c.loop-place.invariant in
    let n : ℕ = c.loop-place.place in
    let out : Bool = not c.is_in_either-either.result in
    let items = c.push_unless.ensures in
    let places : List ℕ = c.loop-place.places.items in
    let new : names places n ≡ false =
    elim (cases_Bool (names places n)) [ inr none ↦ none | inl named ↦ (let low = inv.few n named in absurd (omega (arith, low))) ] in
    record {
      count = subst (λ (ps : List ℕ). length ps ≤ n + 1) (sym items) (few_pushed out n places inv.count);
      each = λ p low. ap (λ ps. names ps p) items ∙ elim (cases_eq p n) [
        | inr other ↦ pushed_other out n p places other ∙ inv.each p (omega (arith, low, other))
        | inl here ↦
            ap (names (pushed out n places)) here ∙ pushed_here out n places new ∙ not_not c.is_in_either-either.result ∙ c.is_in_either-either.ensures
            ∙ ap (λ q. names c.args.first.now.items q || names c.args.second.now.items q) (sym here)
      ];
      few = λ p named. elim (of_pushed out n p places (sym (ap (λ ps. names ps p) items) ∙ named)) [
        | inl earlier ↦ (let low = inv.few p earlier in omega (arith, low))
        | inr here ↦ (let is = here.1 in omega (arith, is))
      ];
    }
