-- Works that a tally takes in, one list behind the other.
use Rattle.std.proofs.Common.{◌≡◌, ℕ, ◌+◌, ◌<◌, List, [], ◌++◌, length, get_or, take, sym, subst, append_assoc, append-nil}
use Rattle.std.specs.List.{flat_map}
use Rattle.pool_state.specs.declared.contents.Work.{Work}
use Rattle.growth_plan.specs.declared.ArrayNow.{ArrayNow}
use Rattle.growth_plan.specs.declared.tally.Tally.{Tally}
use Rattle.growth_plan.specs.Book.{Standing, standing, height_of}
use Rattle.growth_plan.specs.Tally.{IsTally, Appends}
use Rattle.growth_plan.proofs.Standings.{flat-more}

pub appends_none : (a : Tally) → Appends a a []
appends_none a = record { all = λ works t. subst (λ (ws : List Work). IsTally a ws) (sym (append-nil works)) t }

pub appends_both : (a b c : Tally) (xs ys : List Work) → Appends a b xs → Appends b c ys → Appends a c (xs ++ ys)
appends_both a b c xs ys first second = record {
  all = λ works t. subst (λ (ws : List Work). IsTally c ws) (append_assoc works xs ys) (second.all (works ++ xs) (first.all works t));
}

pub appends_same : (a b : Tally) (xs ys : List Work) → Appends a b xs → xs ≡ ys → Appends a b ys
appends_same a b xs ys h e = subst (λ (ws : List Work). Appends a b ws) e h

-- the works of one array more
pub appends_more : (f : Standing → List Work) (arrays : List ArrayNow) (i : ℕ) (x : ArrayNow) (a b c : Tally) → i < length arrays →
    x ≡ get_or arrays i x → Appends a b (flat_map f (standing (take i arrays))) →
    Appends b c (f (record { number = i; top = height_of (take i arrays) + x.height; now = x })) →
    Appends a c (flat_map f (standing (take (i + 1) arrays)))
appends_more f arrays i x a b c within is before here =
    appends_same a c _ _ (appends_both a b c _ _ before here) (sym (flat-more f arrays i x within is))
