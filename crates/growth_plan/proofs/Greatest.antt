-- On a book whose parts agree, what all arrays offer at the plan's end is the greatest capacity of the drives.
use Rattle.std.proofs.Common.{zero, suc, Contains, ◌≡◌, ◌⊎◌, ℕ, ◌+◌, ◌-◌, ◌*◌, ◌<◌, ◌≤◌, ◌||◌, ◌&&◌, ◌++◌, List, [], ◌∷◌, length, map, min, sum, sum_by, count_by, cond, Option, Some, None, All, true, false, nat_lt, nat_le, if◌then◌else◌, inl, inr, refl, sym, ap, subst, ◌∙◌, arith, ⊎_elim, add-zero, append-nil}
use Rattle.std.specs.Option.{option_map_or, option_and_then}
use Rattle.std.proofs.lemmas.Bool.{cases_Bool, cond_both, cases_lt, lt-ltb, le-ltb, le-leb, lt-leb, cond-true, cond-false, and_parts, leb-true}
use Rattle.std.proofs.lemmas.List.Elements.{All-nil, All-cons, All-head, All-tail}
use Rattle.std.proofs.lemmas.List.Sums.{sum_by-cons, sum_by-append}
use Rattle.layer_plan.specs.declared.Layer.{Layer}
use Rattle.layer_plan.specs.Layering.{places_reaching, layer_between, is_redundant}
use Rattle.pool_state.specs.declared.contents.State.{State}
use Rattle.pool_state.specs.Valid.{is_extent, has_places, has_arrays, is_valid}
use Rattle.growth_plan.specs.declared.ArrayNow.{ArrayNow}
use Rattle.growth_plan.specs.declared.Progress.{Progress}
use Rattle.growth_plan.specs.Book.{IsBook, Standing, standing_from, standing, units_of, height_of}
use Rattle.growth_plan.specs.Target.{members_at_end, extents_at_end, least_above, layer_above, new_layer, targets}
use Rattle.growth_plan.specs.Doing.{HasOneLayer}
use Rattle.growth_plan.specs.Sound.{IsSoundBook}
use Rattle.growth_plan.proofs.Cuts.{least_is}
use Rattle.growth_plan.proofs.Above.{greatest, count_above, excess, Few, none, one, two, few_above, parted_at, yes_least, no_least}
use Rattle.growth_plan.proofs.Counts.{all_standing}
use Rattle.growth_plan.proofs.Sums.{reaching_count, members_count, ends_sum}

first_least : (level cut x : ℕ) (xs : List ℕ) (o : Option ℕ) → level < x → least_above level xs ≡ o →
    ((least : ℕ) → least_above level (x ∷ xs) ≡ Some least → cut ≤ least) → cut ≤ x
first_least level cut x xs None above is h = h x (yes_least level x xs None above is)
first_least level cut x xs (Some least) above is h = omega (arith, h (min x least) (yes_least level x xs (Some least) above is))

-- a level that no least unit above another is below
pub least_from : (level cut : ℕ) (xs : List ℕ) → ((least : ℕ) → least_above level xs ≡ Some least → cut ≤ least) → All (λ x. (x ≤ level) ⊎ (cut ≤ x)) xs
least_from level cut [] h = All-nil (λ x. (x ≤ level) ⊎ (cut ≤ x))
least_from level cut (x ∷ xs) h =
    ⊎_elim
    (λ (above : level < x).
    let head = first_least level cut x xs (least_above level xs) above refl h in
    All-cons (λ y. (y ≤ level) ⊎ (cut ≤ y)) x xs (inr head)
    (least_from level cut xs (λ least e. omega (arith, h (min x least) (yes_least level x xs (Some least) above e)))))
    (λ (below : x ≤ level).
    All-cons (λ y. (y ≤ level) ⊎ (cut ≤ y)) x xs (inl below) (least_from level cut xs (λ least e. h least (no_least level x xs below ∙ e))))
    (cases_lt level x)

-- the drives that reach the least units above a level are those above it
same_count : (level cut : ℕ) (xs : List ℕ) → level < cut → All (λ x. (x ≤ level) ⊎ (cut ≤ x)) xs → count_by (λ x. nat_le cut x) xs ≡ count_above level xs
same_count level cut [] rises all = refl
same_count level cut (x ∷ xs) rises all =
    let rest = same_count level cut xs rises (All-tail (λ y. (y ≤ level) ⊎ (cut ≤ y)) x xs all) in
    let reach = sum_by-cons (λ y. cond (nat_le cut y) 1 0) x xs in
    let over = sum_by-cons (λ y. cond (nat_lt level y) 1 0) x xs in
    let same : nat_le cut x ≡ nat_lt level x =
    ⊎_elim
    (λ (below : x ≤ level). lt-leb cut x (omega arith) ∙ sym (le-ltb level x below))
    (λ (above : cut ≤ x). le-leb cut x above ∙ sym (lt-ltb level x (omega arith)))
    (All-head (λ y. (y ≤ level) ⊎ (cut ≤ y)) x xs all) in
    let here = ap {B = ℕ} (λ b. cond b 1 0) same in
    omega (arith, rest, reach, over, here)

pub cut_count : (level cut : ℕ) (xs : List ℕ) → level < cut → least_above level xs ≡ Some cut → length (places_reaching xs cut) ≡ count_above level xs
cut_count level cut xs rises e =
    reaching_count xs cut ∙ same_count level cut xs rises (least_from level cut xs (λ least is. let same : cut ≡ least = cc (e, is) in omega arith))

-- the highest array
top_of : (P : Standing → Type 0) (number level : ℕ) (a : ArrayNow) (arrays : List ArrayNow) → All P (standing_from number level (a ∷ arrays)) →
    (x : Standing) × (P x) × (x.top ≡ level + height_of (a ∷ arrays))
top_of P number level a [] all =
    (record { number = number; top = level + a.height; now = a }, All-head P _ [] all, omega (arith, sum_by-cons (λ (x : ArrayNow). x.height) a []))
top_of P number level a (b ∷ arrays) all =
    let rest = top_of P (number + 1) (level + a.height) b arrays (All-tail P _ (standing_from (number + 1) (level + a.height) (b ∷ arrays)) all) in
    (rest.0, rest.1, omega (arith, rest.2, sum_by-cons (λ (x : ArrayNow). x.height) a (b ∷ arrays)))

greatest_high : (level : ℕ) (xs : List ℕ) → 1 ≤ count_by (λ x. nat_le level x) xs → level ≤ greatest xs
greatest_high level [] some = absurd (omega arith)
greatest_high level (x ∷ xs) some =
    ⊎_elim
    (λ (short : x < level).
    let no = ap {B = ℕ} (λ b. cond b 1 0) (lt-leb level x short) in
    let rest = greatest_high level xs (omega (arith, some, sum_by-cons (λ y. cond (nat_le level y) 1 0) x xs, no)) in omega arith)
    (λ (long : level ≤ x). omega arith)
    (cases_lt x level)

pub top_reached : (s : State) (p : Progress) (arrays : List ArrayNow) → arrays ≡ p.arrays.items → IsBook s p → IsSoundBook s p → 1 ≤ length arrays →
    height_of arrays ≤ greatest (units_of s)
top_reached s p [] are book sound some = absurd (omega arith)
top_reached s p (a ∷ arrays) are book sound some =
    let units = units_of s in
    let P : Standing → Type 0 = λ x. (2 ≤ length x.now.members.items) × (members_at_end s x ≡ count_by (λ own. nat_le x.top own) units) in
    let pairs = all_standing (λ (x : ArrayNow). 2 ≤ length x.members.items) 0 0 p.arrays.items book.pairs in
    let counts = members_count s p sound in
    let both : All P (standing p.arrays.items) = λ k d h. (pairs k d h, counts k d h) in
    let moved : All P (standing (a ∷ arrays)) = subst (λ (xs : List ArrayNow). All P (standing xs)) (sym are) both in
    let found = top_of P 0 0 a arrays moved in
    let high = greatest_high found.0.top units (omega (arith, found.1.0, found.1.1)) in
    omega (arith, found.2, high)

pub one_made : (s : State) → is_valid s 0 ≡ true → 1 ≤ s.made
one_made s valid =
    let places = (and_parts (is_extent s.extent) _ valid).1 in
    let rest = (and_parts (has_places s 0) _ places).1 in
    let arrays = (and_parts (has_arrays s) _ rest).0 in
    let made = (and_parts (nat_le 1 s.made && nat_le s.made 16) _ arrays).0 in
    leb-true 1 s.made (and_parts (nat_le 1 s.made) _ made).0

-- without a layer above them, none is made
no_layer : (s : State) (arrays : List ArrayNow) → layer_above (units_of s) (height_of arrays) ≡ None → new_layer s arrays ≡ None
no_layer s arrays e =
    cond_both (nat_lt s.joined s.made || nat_le 16 s.made) None (layer_above (units_of s) (height_of arrays)) (λ (o : Option Layer). o ≡ None) (λ h. refl) (λ h. e)

plain_sum : (s : State) (arrays : List ArrayNow) → new_layer s arrays ≡ None → sum (targets s arrays) ≡ sum (map (extents_at_end s) (standing arrays))
plain_sum s arrays e =
    let ends = map (extents_at_end s) (standing arrays) in
    ap (λ (o : Option Layer). sum (ends ++ option_map_or (λ layer. layer.extents ∷ []) o [])) e ∙ ap (λ (es : List ℕ). sum es) (append-nil ends)

layer_sum_of : (s : State) (arrays : List ArrayNow) (layer : Layer) → new_layer s arrays ≡ Some layer →
    sum (targets s arrays) ≡ sum (map (extents_at_end s) (standing arrays)) + layer.extents
layer_sum_of s arrays layer e =
    let ends = map (extents_at_end s) (standing arrays) in
    ap (λ (o : Option Layer). sum (ends ++ option_map_or (λ l. l.extents ∷ []) o [])) e
    ∙ sum_by-append (λ (n : ℕ). n) ends (layer.extents ∷ [])
    ∙ ap (λ (n : ℕ). sum ends + n) (sum_by-cons (λ (n : ℕ). n) layer.extents [] ∙ add-zero layer.extents)

-- a cut point that one drive alone reaches makes no layer, and one that two reach does
above_of : (units : List ℕ) (level cut : ℕ) → least_above level units ≡ Some cut →
    layer_above units level ≡ (if is_redundant (layer_between units (level, cut)) then Some (layer_between units (level, cut)) else None)
above_of units level cut e =
    ap (λ (o : Option ℕ). option_and_then (λ c. if is_redundant (layer_between units (level, c)) then Some (layer_between units (level, c)) else None) o) e

none_above : (units : List ℕ) (level : ℕ) → least_above level units ≡ None → layer_above units level ≡ None
none_above units level e =
    ap (λ (o : Option ℕ). option_and_then (λ c. if is_redundant (layer_between units (level, c)) then Some (layer_between units (level, c)) else None) o) e

one_above : (units : List ℕ) (level cut : ℕ) → level < cut → least_above level units ≡ Some cut → count_above level units ≡ 1 → layer_above units level ≡ None
one_above units level cut rises e count =
    let alone : is_redundant (layer_between units (level, cut)) ≡ false =
    lt-leb 2 (length (places_reaching units cut)) (omega (arith, cut_count level cut units rises e, count)) in
    above_of units level cut e
    ∙ cond-false (is_redundant (layer_between units (level, cut))) (Some (layer_between units (level, cut))) None alone

pub two_above : (units : List ℕ) (level cut : ℕ) → level < cut → least_above level units ≡ Some cut → count_above level units ≡ 2 →
    layer_above units level ≡ Some (layer_between units (level, cut))
two_above units level cut rises e count =
    let pair : is_redundant (layer_between units (level, cut)) ≡ true =
    le-leb 2 (length (places_reaching units cut)) (omega (arith, cut_count level cut units rises e, count)) in
    above_of units level cut e
    ∙ cond-true (is_redundant (layer_between units (level, cut))) (Some (layer_between units (level, cut))) None pair

pub new_is_above : (s : State) (p : Progress) → IsSoundBook s p → count_above (height_of p.arrays.items) (units_of s) ≡ 2 →
    new_layer s p.arrays.items ≡ layer_above (units_of s) (height_of p.arrays.items)
new_is_above s p sound count =
    let closed = nat_lt s.joined s.made || nat_le 16 s.made in
    ⊎_elim
    (λ (yes : closed ≡ true).
    let limit = cond-true {A = ℕ} closed 1 2 yes in absurd (omega (arith, sound.above, count, limit)))
    (λ (no : closed ≡ false). cond-false closed None (layer_above (units_of s) (height_of p.arrays.items)) no)
    (cases_Bool closed)

one_times : (n : ℕ) → (2 - 1) * n ≡ n
one_times n = omega arith

-- all but the drive of most units is offered
targets_by_few : (s : State) (p : Progress) → IsBook s p → IsSoundBook s p → Few (height_of p.arrays.items) (units_of s) →
    sum (targets s p.arrays.items) + greatest (units_of s) ≡ sum (units_of s)
targets_by_few s p book sound (none f) =
    let high = height_of p.arrays.items in
    let plain = plain_sum s p.arrays.items (no_layer s p.arrays.items (none_above (units_of s) high f.least)) in
    let reached = top_reached s p p.arrays.items refl book sound (omega (arith, book.made, one_made s book.valid)) in
    let whole : sum_by (λ own. min own high) (units_of s) + excess high (units_of s) ≡ sum (units_of s) = parted_at high (units_of s) in
    omega (arith, plain, reached, whole, ends_sum s p book sound, f.most, f.sum)
targets_by_few s p book sound (one f) =
    let high = height_of p.arrays.items in
    let plain = plain_sum s p.arrays.items (no_layer s p.arrays.items (one_above (units_of s) high (greatest (units_of s)) f.most f.least f.count)) in
    let whole : sum_by (λ own. min own high) (units_of s) + excess high (units_of s) ≡ sum (units_of s) = parted_at high (units_of s) in
    omega (arith, plain, whole, ends_sum s p book sound, f.most, f.sum)
targets_by_few s p book sound (two f) =
    let high = height_of p.arrays.items in
    let layer : Layer = layer_between (units_of s) (high, f.cut) in
    let made = new_is_above s p sound f.count ∙ two_above (units_of s) high f.cut f.above f.least f.count in
    let more = layer_sum_of s p.arrays.items layer made in
    let members : length (places_reaching (units_of s) f.cut) ≡ 2 = cut_count high f.cut (units_of s) f.above f.least ∙ f.count in
    let extents : layer.extents ≡ f.cut - high =
    ap (λ (n : ℕ). (n - 1) * (f.cut - high)) members ∙ one_times (f.cut - high) in
    let whole : sum_by (λ own. min own high) (units_of s) + excess high (units_of s) ≡ sum (units_of s) = parted_at high (units_of s) in
    omega (arith, more, extents, whole, ends_sum s p book sound, f.above, f.most, f.sum)

pub count_few : (s : State) (p : Progress) → IsSoundBook s p → count_above (height_of p.arrays.items) (units_of s) ≤ 2
count_few s p sound =
    let closed = nat_lt s.joined s.made || nat_le 16 s.made in
    let limit = cond_both {A = ℕ} closed 1 2 (λ n. n ≤ 2) (λ h. omega arith) (λ h. omega arith) in
    omega (arith, sound.above, limit)

pub targets_sum : (s : State) (p : Progress) → IsBook s p → IsSoundBook s p → sum (targets s p.arrays.items) + greatest (units_of s) ≡ sum (units_of s)
targets_sum s p book sound = targets_by_few s p book sound (few_above (height_of p.arrays.items) (units_of s) (count_few s p sound))

-- fewer drives go on above a drive's end than above a level below it
fewer_above : (level cut : ℕ) (xs : List ℕ) → level < cut → count_above cut xs ≤ count_above level xs
fewer_above level cut [] rises = omega arith
fewer_above level cut (x ∷ xs) rises =
    let rest = fewer_above level cut xs rises in
    let low = sum_by-cons (λ y. cond (nat_lt level y) 1 0) x xs in
    let high = sum_by-cons (λ y. cond (nat_lt cut y) 1 0) x xs in
    ⊎_elim
    (λ (over : cut < x).
    let a = ap {B = ℕ} (λ b. cond b 1 0) (lt-ltb cut x over) in
    let b = ap {B = ℕ} (λ b. cond b 1 0) (lt-ltb level x (omega arith)) in omega (arith, rest, low, high, a, b))
    (λ (under : x ≤ cut). let a = ap {B = ℕ} (λ b. cond b 1 0) (le-ltb cut x under) in omega (arith, rest, low, high, a))
    (cases_lt cut x)

pub one_fewer : (level cut : ℕ) (xs : List ℕ) → level < cut → Contains xs cut → count_above cut xs + 1 ≤ count_above level xs
one_fewer level cut [] rises (k, inside, is) = absurd (omega arith)
one_fewer level cut (x ∷ xs) rises (zero, inside, is) =
    let rest = fewer_above level cut xs rises in
    let a = ap {B = ℕ} (λ b. cond b 1 0) (le-ltb cut x (omega (arith, is))) in
    let b = ap {B = ℕ} (λ b. cond b 1 0) (lt-ltb level x (omega (arith, is))) in
    omega (arith, rest, sum_by-cons (λ y. cond (nat_lt level y) 1 0) x xs, sum_by-cons (λ y. cond (nat_lt cut y) 1 0) x xs, a, b)
one_fewer level cut (x ∷ xs) rises (suc k, inside, is) =
    let rest = one_fewer level cut xs rises (k, omega arith, is) in
    let low = sum_by-cons (λ y. cond (nat_lt level y) 1 0) x xs in
    let high = sum_by-cons (λ y. cond (nat_lt cut y) 1 0) x xs in
    ⊎_elim
    (λ (over : cut < x).
    let a = ap {B = ℕ} (λ b. cond b 1 0) (lt-ltb cut x over) in
    let b = ap {B = ℕ} (λ b. cond b 1 0) (lt-ltb level x (omega arith)) in omega (arith, rest, low, high, a, b))
    (λ (under : x ≤ cut). let a = ap {B = ℕ} (λ b. cond b 1 0) (le-ltb cut x under) in omega (arith, rest, low, high, a))
    (cases_lt cut x)

-- above a level that at most one drive passes there is no layer
pub alone_above : (units : List ℕ) (level : ℕ) → count_above level units ≤ 1 → Few level units → layer_above units level ≡ None
alone_above units level alone (none f) = none_above units level f.least
alone_above units level alone (one f) = one_above units level (greatest units) f.most f.least f.count
alone_above units level alone (two f) = absurd (omega (arith, alone, f.count))

-- a new layer ends where at most one drive goes on
one_layer_by : (s : State) (p : Progress) → IsSoundBook s p → Few (height_of p.arrays.items) (units_of s) → HasOneLayer s p.arrays.items
one_layer_by s p sound (none f) =
    let arrays = p.arrays.items in
    let units = units_of s in
    let no = none_above units (height_of arrays) f.least in
    let none_made = no_layer s arrays no in
    record {
      no_other =
          ap (λ (o : Option Layer). layer_above units (height_of arrays + option_map_or (λ layer. layer.height) o 0)) none_made
          ∙ ap (λ (level : ℕ). layer_above units level) (add-zero (height_of arrays)) ∙ no;
    }
one_layer_by s p sound (one f) =
    let arrays = p.arrays.items in
    let units = units_of s in
    let no = one_above units (height_of arrays) (greatest units) f.most f.least f.count in
    let none_made = no_layer s arrays no in
    record {
      no_other =
          ap (λ (o : Option Layer). layer_above units (height_of arrays + option_map_or (λ layer. layer.height) o 0)) none_made
          ∙ ap (λ (level : ℕ). layer_above units level) (add-zero (height_of arrays)) ∙ no;
    }
one_layer_by s p sound (two f) =
    let arrays = p.arrays.items in
    let units = units_of s in
    let high = height_of arrays in
    let made = new_is_above s p sound f.count ∙ two_above units high f.cut f.above f.least f.count in
    let found = least_is high f.cut units f.least in
    let end : high + (f.cut - high) ≡ f.cut = omega (arith, f.above) in
    let alone : count_above f.cut units ≤ 1 = omega (arith, one_fewer high f.cut units f.above found.1, f.count) in
    record {
      no_other =
          ap (λ (o : Option Layer). layer_above units (high + option_map_or (λ layer. layer.height) o 0)) made
          ∙ ap (λ (level : ℕ). layer_above units level) end
          ∙ alone_above units f.cut alone (few_above f.cut units (omega arith));
    }

pub one_layer : (s : State) (p : Progress) → IsSoundBook s p → HasOneLayer s p.arrays.items
one_layer s p sound = one_layer_by s p sound (few_above (height_of p.arrays.items) (units_of s) (count_few s p sound))
