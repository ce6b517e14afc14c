-- Losses alone: in a row they are one, each mending is such, and no array gets longer by them.
use Rattle.std.proofs.Common.{◌≡◌, ℕ, zero, suc, ◌+◌, ◌<◌, ◌^◌, refl, sym, ap₂, subst, ◌∙◌, arith}
use Rattle.std.specs.List.{range_with_len, sum_by}
use Rattle.std.proofs.lemmas.List.Sums.{sum_by-cons}
use Rattle.rack.specs.Seen.{RackView}
use Rattle.array_image.specs.Arrays.{first_layout}
use Rattle.array_image.specs.Stripes.{capacity}
use Rattle.array_model.specs.View.{View, sectors_of}
use Rattle.raid_laws.specs.Book.{after_same, after_then}
use Rattle.raid_laws.specs.Losing.{arrays_same, arrays_then}
use Rattle.raid_laws.specs.Moves.{AreCaused, OnlyFailures, Mends, ChangesNoData}
use Rattle.raid_laws.specs.Raid.{Raid}
use Rattle.growth_laws.specs.Losses.{LosesBook}
use Rattle.growth_laws.specs.Growing.{GetsLonger, total}

-- ---- the book

pub loses_nothing : (v : Raid) → LosesBook v v
loses_nothing v = record { marks = after_same v.state; plan = refl; arrays = arrays_same v; number = omega arith; events = λ n low. omega arith }

pub loses_book_then : (v w z : Raid) → LosesBook v w → LosesBook w z → LosesBook v z
loses_book_then v w z one two = record {
  marks = after_then v.state w.state z.state one.marks two.marks;
  plan = two.plan ∙ one.plan;
  arrays = arrays_then v w z one.marks.same.made one.arrays two.arrays;
  number = let a = one.number in let b = two.number in omega (arith, a, b);
  events = λ n low.
      let a = one.events n low in
      let b = two.events n (subst (λ k. n < k) (sym one.marks.same.made) low) in
      omega (arith, a, b);
}

-- a part of a call that moves no value
pub moves_lose : (v w : Raid) (a b : RackView) → ChangesNoData v w a b → LosesBook v w
moves_lose v w a b moves = record { marks = moves.book; plan = moves.plan; arrays = moves.arrays; number = moves.number; events = moves.events }

pub moves_caused : (v w : Raid) (a b : RackView) → ChangesNoData v w a b → AreCaused v w a b
moves_caused v w a b moves = record { left = moves.left; cause = moves.cause }

pub mends_lose : (v w : Raid) (a b : RackView) → Mends v w a b → LosesBook v w
mends_lose v w a b mends = moves_lose v w a b mends.moves

-- ---- how long the arrays are

pub only_sectors : (u w : View) → OnlyFailures u w → sectors_of w ≡ sectors_of u
only_sectors u w only =
    let g = only.same.geometry in
    let features = g.features in
    let level = g.level in
    let disks = g.disks in
    let size = g.size in
    λ i. capacity (first_layout (record u.truth { feature_map = features i; level = level i; raid_disks = disks i })) (size i)

pub sum_same : (f g : ℕ → ℕ) (a n : ℕ) → ((k : ℕ) → k < a + n → f k ≡ g k) → sum_by f (range_with_len a n) ≡ sum_by g (range_with_len a n)
sum_same f g a zero same = refl
sum_same f g a (suc n) same =
    sum_by-cons f a (range_with_len (a + 1) n)
    ∙ ap₂ (λ x y. x + y) (same a (omega arith)) (sum_same f g (a + 1) n (λ k low. same k (omega (arith, low))))
    ∙ sym (sum_by-cons g a (range_with_len (a + 1) n))

pub same_total : (f g : ℕ → View) (n : ℕ) → ((k : ℕ) → k < n → sectors_of (f k) ≡ sectors_of (g k)) → total f n ≡ total g n
same_total f g n same = sum_same (λ k. sectors_of (f k)) (λ k. sectors_of (g k)) 0 n (λ k low. same k (omega (arith, low)))

-- as long as they were
pub as_long : (v w : Raid) → w.state.made ≡ v.state.made → ((n : ℕ) → n < v.state.made → sectors_of (w.arrays n) ≡ sectors_of (v.arrays n)) → GetsLonger v w
as_long v w made same = record {
  made = omega (arith, made);
  sectors = λ n low. let e = same n low in omega (arith, e);
  small = λ small. subst (λ k. total w.arrays k < 2 ^ 52) (sym made) (subst (λ k. k < 2 ^ 52) (sym (same_total w.arrays v.arrays v.state.made same)) small);
}

pub loses_as_long : (v w : Raid) → LosesBook v w → GetsLonger v w
loses_as_long v w loses = as_long v w loses.marks.same.made (λ n low. only_sectors (v.arrays n) (w.arrays n) (loses.arrays n low))

pub longer_then : (v w z : Raid) → GetsLonger v w → GetsLonger w z → GetsLonger v z
longer_then v w z one two = record {
  made = let a = one.made in let b = two.made in omega (arith, a, b);
  sectors = λ n low.
      let a = one.sectors n low in
      let more = one.made in
      let b = two.sectors n (omega (arith, low, more)) in
      omega (arith, a, b);
  small = λ small. two.small (one.small small);
}
