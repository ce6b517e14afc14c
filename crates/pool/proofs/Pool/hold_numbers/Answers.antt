use Rattle.std.specs.List.{list_all, range_with_len}
use Rattle.std.proofs.Common.{◌≡◌, ◌<◌, ◌+◌, ◌&&◌, ℕ, Bool, true, length, get_or, take, sym, ap, subst, ◌∙◌, arith}
use Rattle.std.proofs.lemmas.List.{take_all}
use Rattle.std.proofs.lemmas.List.Folds.{list_all_at, list_all_more}
use Rattle.std.proofs.lemmas.List.FromFn.{get_or-range_with_len, length-range_with_len}
use Rattle.pool.specs.Growing.{holds_number}
use Rattle.pool.specs.View.{book, view}
use Rattle.pool.proofs.Pool.hold_numbers.Goals as goal

both_true : (b c : Bool) → b ≡ true → c ≡ true → (b && c) ≡ true
both_true b c one two = rw (one, two) refl
  where
    refl : {x : Bool} → x ≡ x
    refl = cc

-- a number of a range
at_range : (n k : ℕ) → k < n → get_or (range_with_len 0 n) k 0 ≡ k
at_range n k low = let zero : 0 + k ≡ k = omega arith in get_or-range_with_len 0 n k 0 low ∙ zero

in_range : (n k : ℕ) → k < n → k < length (range_with_len 0 n)
in_range n k low = subst (λ m. k < m) (sym (length-range_with_len 0 n)) low

pub returns-then-not-holds_number : goal.returns-then-not-holds_number
returns-then-not-holds_number g c =
    let n = length c.args.numbers.now in
    let k = c.loop-array.array in
    let test = holds_number (book (view g.R.Rack.seen g.R.Bay.shelf c.args.self.now)) c.args.numbers.now c.args.extent in
    let low = c.loop-array-test.true in
    sym (list_all_at test (range_with_len 0 n) k 0 (in_range n k low) (ap test (at_range n k low) ∙ sym c.holds_number.ensures ∙ c.if-not-holds_number.true))

pub loop-array-preserved : goal.loop-array-preserved
loop-array-preserved g c =
    let n = length c.args.numbers.now in
    let k = c.loop-array.array in
    let test = holds_number (book (view g.R.Rack.seen g.R.Bay.shelf c.args.self.now)) c.args.numbers.now c.args.extent in
    let low = c.loop-array-test.true in
    list_all_more test (range_with_len 0 n) k 0 (in_range n k low)
    ∙ both_true (list_all test (take k (range_with_len 0 n))) (test (get_or (range_with_len 0 n) k 0)) c.loop-array.invariant
    (ap test (at_range n k low) ∙ sym c.holds_number.ensures ∙ c.if-not-holds_number.false)

pub returns : goal.returns
returns g c =
    let n = length c.args.numbers.now in
    let test = holds_number (book (view g.R.Rack.seen g.R.Bay.shelf c.args.self.now)) c.args.numbers.now c.args.extent in
    let past = c.loop-array-test.false in
    let all : take c.loop-array.array (range_with_len 0 n) ≡ range_with_len 0 n =
    take_all c.loop-array.array (range_with_len 0 n) (let long = length-range_with_len 0 n in omega (arith, past, long)) in
    sym (ap (list_all test) (sym all) ∙ c.loop-array.invariant)
