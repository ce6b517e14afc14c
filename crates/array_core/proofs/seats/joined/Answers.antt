use Rattle.std.proofs.Common.{◌≡◌, ◌++◌, ◌∷◌, [], ℕ, Bool, List, if◌then◌else◌, ◌||◌, filter, ap, ap₂, sym, ◌∙◌, arith}
use Rattle.std.specs.List.{range_with_len}
use Rattle.array_core.specs.Seats.{names}
use Rattle.array_core.proofs.Lists.{filter_more}
use Rattle.array_core.proofs.seats.joined.Goals as goal

pub loop-place-preserved : goal.loop-place-preserved
loop-place-preserved c =
    let n = c.loop-place.place in
    record {
      made =
          c.push_if.ensures.items
          ∙ ap₂ (λ (ns : List ℕ) (b : Bool). ns ++ (if b then n ∷ [] else [])) c.loop-place.invariant.made c.has_either.ensures
          ∙ sym (filter_more (λ p. names c.args.first.now.items p || names c.args.second.now.items p) n);
      few = omega arith;
    }

pub returns : goal.returns
returns c =
    let all : c.loop-place.place ≡ 16 = omega arith in
    c.loop-place.invariant.made
    ∙ ap (λ (n : ℕ). filter (λ p. names c.args.first.now.items p || names c.args.second.now.items p) (range_with_len 0 n)) all
