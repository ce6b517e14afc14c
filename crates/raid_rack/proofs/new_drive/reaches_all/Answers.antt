use Rattle.std.specs.List.{list_all, range_with_len}
use Rattle.std.proofs.Common.{◌≡◌, ◌<◌, ◌+◌, ◌&&◌, nat_le, ℕ, Bool, true, false, length, get_or, take, refl, sym, ap, subst, ◌∙◌, arith}
use Rattle.std.proofs.lemmas.Bool.{le-leb}
use Rattle.std.proofs.lemmas.List.{take_all}
use Rattle.std.proofs.lemmas.List.Folds.{list_all_at, list_all_more}
use Rattle.std.proofs.lemmas.List.FromFn.{get_or-range_with_len, length-range_with_len}
use Rattle.raid_laws.specs.NewDrive.{is_reached}
use Rattle.raid_rack.proofs.new_drive.reaches_all.Goals as goal

and_false : (b c : Bool) → c ≡ false → (b && c) ≡ false
and_false true c is = is
and_false false c is = refl

both_true : (b c : Bool) → b ≡ true → c ≡ true → (b && c) ≡ true
both_true b c one two = rw (one, two) refl

-- a number of a range
at_range : (n k : ℕ) → k < n → get_or (range_with_len 0 n) k 0 ≡ k
at_range n k low = let zero : 0 + k ≡ k = omega arith in get_or-range_with_len 0 n k 0 low ∙ zero

in_range : (n k : ℕ) → k < n → k < length (range_with_len 0 n)
in_range n k low = subst (λ m. k < m) (sym (length-range_with_len 0 n)) low

pub returns-then-not-is_reached : goal.returns-then-not-is_reached
returns-then-not-is_reached c =
    let n = length c.args.arrays.now in
    let k = c.loop-number.number in
    let test = is_reached c.args.arrays.now c.args.place c.args.sectors in
    let low = c.loop-number-test.true in
    sym (and_false (nat_le 10273 c.args.sectors) (list_all test (range_with_len 0 n))
    (list_all_at test (range_with_len 0 n) k 0 (in_range n k low) (ap test (at_range n k low) ∙ sym c.is_reached.ensures ∙ c.if-not-is_reached.true)))

pub loop-number-preserved : goal.loop-number-preserved
loop-number-preserved c =
    let n = length c.args.arrays.now in
    let k = c.loop-number.number in
    let test = is_reached c.args.arrays.now c.args.place c.args.sectors in
    let low = c.loop-number-test.true in
    list_all_more test (range_with_len 0 n) k 0 (in_range n k low)
    ∙ both_true (list_all test (take k (range_with_len 0 n))) (test (get_or (range_with_len 0 n) k 0)) c.loop-number.invariant
    (ap test (at_range n k low) ∙ sym c.is_reached.ensures ∙ c.if-not-is_reached.false)

pub returns : goal.returns
returns c =
    let n = length c.args.arrays.now in
    let test = is_reached c.args.arrays.now c.args.place c.args.sectors in
    let room = c.if-sectors.false in
    let past = c.loop-number-test.false in
    let all : take c.loop-number.number (range_with_len 0 n) ≡ range_with_len 0 n =
    take_all c.loop-number.number (range_with_len 0 n) (let long = length-range_with_len 0 n in omega (arith, past, long)) in
    sym (both_true (nat_le 10273 c.args.sectors) (list_all test (range_with_len 0 n)) (le-leb 10273 c.args.sectors (omega (arith, room)))
    (ap (list_all test) (sym all) ∙ c.loop-number.invariant))
