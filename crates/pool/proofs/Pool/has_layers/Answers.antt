use Rattle.std.specs.List.{list_all, range_with_len}
use Rattle.std.proofs.Common.{◌≡◌, ◌<◌, ◌≤◌, ◌+◌, ℕ, length, get_or, take, sym, ap, subst, ◌∙◌, arith}
use Rattle.std.proofs.lemmas.Bool.{and_from}
use Rattle.std.proofs.lemmas.List.{take_all}
use Rattle.std.proofs.lemmas.List.Folds.{list_all_at, list_all_more}
use Rattle.std.proofs.lemmas.List.FromFn.{get_or-range_with_len, length-range_with_len}
use Rattle.pool.specs.Replacing.{has_layer}
use Rattle.pool.specs.View.{book, view}
use Rattle.pool.proofs.Pool.has_layers.Goals as goal

-- a number of a range
at_range : (n k : ℕ) → k < n → get_or (range_with_len 0 n) k 0 ≡ k
at_range n k low = let zero : 0 + k ≡ k = omega arith in get_or-range_with_len 0 n k 0 low ∙ zero

in_range : (n k : ℕ) → k < n → k < length (range_with_len 0 n)
in_range n k low = subst (λ m. k < m) (sym (length-range_with_len 0 n)) low

pub returns-then-not-has_layer : goal.returns-then-not-has_layer
returns-then-not-has_layer g c =
    let v = book (view g.R.Rack.seen g.R.Bay.shelf c.args.self.now) in
    let k = c.loop-number.number in
    let test = has_layer v c.args.place c.args.units in
    let low : k < v.state.made = subst (λ s. k < s.made) c.state.ensures c.loop-number-test.true in
    sym (list_all_at test (range_with_len 0 v.state.made) k 0 (in_range v.state.made k low) (ap test (at_range v.state.made k low) ∙ sym c.has_layer.ensures ∙ c.if-not-has_layer.true))

pub loop-number-preserved : goal.loop-number-preserved
loop-number-preserved g c =
    let v = book (view g.R.Rack.seen g.R.Bay.shelf c.args.self.now) in
    let k = c.loop-number.number in
    let test = has_layer v c.args.place c.args.units in
    let low : k < v.state.made = subst (λ s. k < s.made) c.state.ensures c.loop-number-test.true in
    list_all_more test (range_with_len 0 v.state.made) k 0 (in_range v.state.made k low)
    ∙ and_from (list_all test (take k (range_with_len 0 v.state.made))) (test (get_or (range_with_len 0 v.state.made) k 0)) c.loop-number.invariant
    (ap test (at_range v.state.made k low) ∙ sym c.has_layer.ensures ∙ c.if-not-has_layer.false)

pub returns : goal.returns
returns g c =
    let v = book (view g.R.Rack.seen g.R.Bay.shelf c.args.self.now) in
    let test = has_layer v c.args.place c.args.units in
    let past : v.state.made ≤ c.loop-number.number = subst (λ s. s.made ≤ c.loop-number.number) c.state.ensures c.loop-number-test.false in
    let all : take c.loop-number.number (range_with_len 0 v.state.made) ≡ range_with_len 0 v.state.made =
    take_all c.loop-number.number (range_with_len 0 v.state.made) (let long = length-range_with_len 0 v.state.made in omega (arith, past, long)) in
    sym (ap (list_all test) (sym all) ∙ c.loop-number.invariant)
