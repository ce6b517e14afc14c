-- At most one drive that isn't the plan's goes on above all arrays: works and new drives keep it so.
use Rattle.std.proofs.Common.{◌≡◌, ℕ, zero, suc, ◌+◌, ◌<◌, ◌≤◌, ◌&&◌, ◌==◌, not, Bool, true, false, cond, nat_lt, List, [], ◌∷◌, ◌++◌, length, count_by, sum_by, slice_index, slice_set, refl, sym, ap, subst, ◌∙◌, arith, ⊎_elim}
use Rattle.std.specs.List.{range_with_len}
use Rattle.std.specs.Option.{option_map_or}
use Rattle.std.proofs.lemmas.Bool.{cases_Bool, cond_both, eq-eqb, lt-ltb, ltb-true}
use Rattle.std.proofs.lemmas.List.{length-append, length-map, length-set, get_or_append_left, get_or-set_other}
use Rattle.std.proofs.lemmas.List.Sums.{sum_by-append, sum_by-cons}
use Rattle.layer_plan.proofs.Sums.{sum_by_below, sum_by_place}
use Rattle.pool_state.specs.declared.contents.Drive.{Drive}
use Rattle.pool_state.specs.declared.contents.Plan.{Plan}
use Rattle.pool_state.specs.declared.contents.Plan.TheVariants.{Nothing, Add, Replace}
use Rattle.pool_state.specs.declared.contents.State.{State}
use Rattle.pool_state.specs.declared.contents.Work.{Work}
use Rattle.growth_plan.specs.declared.ArrayNow.{ArrayNow}
use Rattle.growth_plan.specs.declared.Progress.{Progress}
use Rattle.growth_plan.specs.Book.{units_of, height_of}
use Rattle.growth_plan.specs.Target.{planned}
use Rattle.growth_plan.specs.Works.{makes, works_left}
use Rattle.growth_plan.specs.Doing.{Book, after, new_array}
use Rattle.growth_plan.specs.Sound.{IsSoundBook}
use Rattle.growth_plan.proofs.Above.{count_above}
use Rattle.growth_plan.proofs.Admitted.{TakesIn, one_goes_on}
use Rattle.growth_plan.proofs.FirstWork.{First, one_array, make, ready, extend, close, first_is}
use Rattle.growth_plan.proofs.Parts.{height-swapped}

-- whether a place is that of the plan's drive
abbrev pub is_planned : Plan → ℕ → Bool
is_planned plan place = option_map_or (λ p. p == place) (planned plan) false

abbrev goes_on : Plan → List ℕ → ℕ → ℕ → Bool
goes_on plan units high place = not (is_planned plan place) && nat_lt high (slice_index units place)

abbrev others_with : Plan → List ℕ → ℕ → ℕ
others_with plan units high = count_by (goes_on plan units high) (range_with_len 0 (length units))

-- How many drives that aren't the plan's have units above a level.
abbrev pub others_above : State → ℕ → ℕ
others_above s high = others_with s.plan (units_of s) high

-- one of them is a drive above the level
one_of : (b : Bool) (high own : ℕ) → cond {A = ℕ} (b && nat_lt high own) 1 0 ≤ cond {A = ℕ} (nat_lt high own) 1 0
one_of true high own = omega arith
one_of false high own = omega arith

others_few : (plan : Plan) (units : List ℕ) (high : ℕ) → others_with plan units high ≤ count_above high units
others_few plan units high =
    omega (
      arith,
      sum_by_below (λ place. cond (goes_on plan units high place) 1 0) (λ place. cond (nat_lt high (slice_index units place)) 1 0) 0 (length units)
          (λ place low inside. one_of (not (is_planned plan place)) high (slice_index units place)),
      sum_by_place (λ own. cond (nat_lt high own) 1 0) units,
    )

-- there are no more above a higher level
fewer_over : (b : Bool) (low high own : ℕ) → low ≤ high → cond {A = ℕ} (b && nat_lt high own) 1 0 ≤ cond {A = ℕ} (b && nat_lt low own) 1 0
fewer_over false low high own rises = omega arith
fewer_over true low high own rises =
    cond_both {A = ℕ} (nat_lt high own) 1 0 (λ n. n ≤ cond {A = ℕ} (nat_lt low own) 1 0)
    (λ over.
    let also : nat_lt low own ≡ true = lt-ltb low own (omega (arith, rises, ltb-true high own over)) in
    omega (arith, ap {B = ℕ} (λ (b : Bool). cond b 1 0) also))
    (λ under. omega arith)

others_higher : (plan : Plan) (units : List ℕ) (low high : ℕ) → low ≤ high → others_with plan units high ≤ others_with plan units low
others_higher plan units low high rises =
    sum_by_below (λ place. cond (goes_on plan units high place) 1 0) (λ place. cond (goes_on plan units low place) 1 0) 0 (length units)
    (λ place from inside. fewer_over (not (is_planned plan place)) low high (slice_index units place) rises)

-- ---- works

by_first : (s : State) (p : Progress) (w : Work) → IsSoundBook s p → others_above s (height_of p.arrays.items) ≤ 1 → First s p w →
    others_above (after w s p).state (height_of (after w s p).progress.arrays.items) ≤ 1
by_first s p w sound few (one_array it) =
    let height : height_of p.arrays.items ≡ height_of (it.below ++ it.new ∷ it.above) =
    ap (λ (xs : List ArrayNow). height_of xs) it.arrays_are ∙ sym (height-swapped it.below it.above it.old it.new it.level) in
    subst (λ (b : Book). others_above b.state (height_of b.progress.arrays.items) ≤ 1) (sym it.does)
    (subst (λ (high : ℕ). others_above s high ≤ 1) height few)
by_first s p w sound few (make layer is found) =
    let arrays = p.arrays.items in
    let news = arrays ++ new_array s arrays layer.height ∷ [] in
    let higher : height_of arrays ≤ height_of news = omega (arith, sum_by-append (λ (a : ArrayNow). a.height) arrays (new_array s arrays layer.height ∷ [])) in
    subst (λ (v : Work). others_above (after v s p).state (height_of (after v s p).progress.arrays.items) ≤ 1) (sym is)
    (omega (arith, few, others_higher s.plan (units_of s) (height_of arrays) (height_of news) higher))
by_first s p w sound few (ready is young) =
    subst (λ (v : Work). others_above (after v s p).state (height_of (after v s p).progress.arrays.items) ≤ 1) (sym is) few
by_first s p w sound few (extend is) =
    subst (λ (v : Work). others_above (after v s p).state (height_of (after v s p).progress.arrays.items) ≤ 1) (sym is) few
by_first s p w sound few (close is grown made) =
    subst (λ (v : Work). others_above (after v s p).state (height_of (after v s p).progress.arrays.items) ≤ 1) (sym is)
    (omega (arith, others_few Nothing (units_of s) (height_of p.arrays.items), one_goes_on s p sound made))

-- After the first of the works that are left it is so still.
pub others_after : (s : State) (p : Progress) (w : Work) (rest : List Work) → IsSoundBook s p → works_left s p ≡ w ∷ rest →
    others_above s (height_of p.arrays.items) ≤ 1 → others_above (after w s p).state (height_of (after w s p).progress.arrays.items) ≤ 1
others_after s p w rest sound e few = by_first s p w sound few (first_is s p w rest e)

-- ---- new drives

-- a range of one place more, which counts nothing
last_nothing : (f g : ℕ → ℕ) (a n last : ℕ) → a + n ≡ last → ((k : ℕ) → k < last → f k ≤ g k) → f last ≡ 0 →
    sum_by f (range_with_len a (suc n)) ≤ sum_by g (range_with_len a n)
last_nothing f g a zero last end below none =
    let here : f a ≡ 0 = ap f (omega (arith, end)) ∙ none in omega (arith, here, sum_by-cons f a [])
last_nothing f g a (suc n) last end below none =
    omega (
      arith,
      sum_by-cons f a (range_with_len (a + 1) (suc n)),
      sum_by-cons g a (range_with_len (a + 1) n),
      below a (omega (arith, end)),
      last_nothing f g (a + 1) n last (omega (arith, end)) below none,
    )

enlisted_with : (s t : State) (plan : Plan) (units : List ℕ) (high : ℕ) → TakesIn s t plan units → others_above t high ≡ others_with plan units high
enlisted_with s t plan units high is =
    ap (λ (pl : Plan). others_with pl (units_of t) high) is.plan ∙ ap (λ (us : List ℕ). others_with plan us high) is.units

-- With a drive that is added it is so.
pub others_added : (s t : State) (p : Progress) (own : ℕ) → IsSoundBook s p → makes s p.arrays.items ≡ [] →
    TakesIn s t (Add (length s.drives.items)) (units_of s ++ own ∷ []) → others_above t (height_of p.arrays.items) ≤ 1
others_added s t p own sound done is =
    let units = units_of s in
    let n = length units in
    let more = units ++ own ∷ [] in
    let high = height_of p.arrays.items in
    let same : n ≡ length s.drives.items = length-map {A = Drive} s.drives.items (λ drive. drive.units) in
    let count : length more ≡ suc n = omega (arith, length-append units (own ∷ [])) in
    let f : ℕ → ℕ = λ place. cond (goes_on (Add n) more high place) 1 0 in
    let g : ℕ → ℕ = λ place. cond (nat_lt high (slice_index units place)) 1 0 in
    let fewer : sum_by f (range_with_len 0 (suc n)) ≤ sum_by g (range_with_len 0 n) =
    last_nothing f g 0 n n (omega arith)
    (λ k inside. subst (λ (u : ℕ). f k ≤ cond {A = ℕ} (nat_lt high u) 1 0) (get_or_append_left units (own ∷ []) 0 k inside)
    (one_of (not (n == k)) high (slice_index more k)))
    (ap {B = ℕ} (λ (b : Bool). cond (not b && nat_lt high (slice_index more n)) 1 0) (eq-eqb n n refl)) in
    let whole : others_above t high ≡ sum_by f (range_with_len 0 (suc n)) =
    enlisted_with s t (Add (length s.drives.items)) more high is
    ∙ ap (λ (k : ℕ). others_with (Add k) more high) (sym same)
    ∙ ap (λ (k : ℕ). sum_by f (range_with_len 0 k)) count in
    omega (arith, whole, fewer, sum_by_place (λ u. cond (nat_lt high u) 1 0) units, one_goes_on s p sound done)

-- And with one that takes the part of another.
pub others_replaced : (s t : State) (p : Progress) (place own : ℕ) → IsSoundBook s p → makes s p.arrays.items ≡ [] →
    TakesIn s t (Replace place) (slice_set (units_of s) place own) → others_above t (height_of p.arrays.items) ≤ 1
others_replaced s t p place own sound done is =
    let units = units_of s in
    let more = slice_set units place own in
    let high = height_of p.arrays.items in
    let f : ℕ → ℕ = λ k. cond (goes_on (Replace place) more high k) 1 0 in
    let g : ℕ → ℕ = λ k. cond (nat_lt high (slice_index units k)) 1 0 in
    let each : (k : ℕ) → f k ≤ g k =
    λ k. ⊎_elim
    (λ (here : (place == k) ≡ true). omega (arith, ap {B = ℕ} (λ (b : Bool). cond (not b && nat_lt high (slice_index more k)) 1 0) here))
    (λ (other : (place == k) ≡ false).
    subst (λ (u : ℕ). f k ≤ cond {A = ℕ} (nat_lt high u) 1 0)
    (get_or-set_other units place k own 0 (λ e. cc (eq-eqb place k (sym e), other)))
    (one_of (not (place == k)) high (slice_index more k)))
    (cases_Bool (place == k)) in
    let whole : others_above t high ≡ sum_by f (range_with_len 0 (length units)) =
    enlisted_with s t (Replace place) more high is ∙ ap (λ (k : ℕ). sum_by f (range_with_len 0 k)) (length-set units place own) in
    omega (
      arith,
      whole,
      sum_by_below f g 0 (length units) (λ k from inside. each k),
      sum_by_place (λ u. cond (nat_lt high u) 1 0) units,
      one_goes_on s p sound done,
    )
