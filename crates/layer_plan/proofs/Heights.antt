-- A search over the heights of one set after the other.
use Rattle.std.proofs.Common.{◌≡◌, ℕ, suc, ◌+◌, ◌-◌, ◌*◌, ◌<◌, ◌≤◌, List, [], ◌∷◌, All, sum_by, count_by, slice_index, Bool, true, cond, if◌then◌else◌, refl, sym, ap, subst, ◌∙◌, arith, map, max, mul-zero, ⊎_elim, nat_lt, false, ◌==◌, nat_cmp, Ordering, Equal, Greater, is_lt}
use Rattle.std.specs.Ordering.{ord_max}
use Rattle.std.specs.List.{zip}
use Rattle.std.proofs.lemmas.Bool.{cond_both, cases_lt, lt-ltb, le-ltb}
use Rattle.std.proofs.lemmas.List.{length-map}
use Rattle.std.proofs.lemmas.List.Sums.{sum_by-cons}
use Rattle.std.proofs.lemmas.List.Elements.{All-nil, All-cons, All-head, All-tail}
use Rattle.layer_plan.specs.Search.{Fits, IsBestOver, is_member, takes, offers, offered}

-- some heights that fit offer this much
abbrev pub IsReached : List (List Bool) → List ℕ → ℕ → Type 0
IsReached sets units best = (heights : List ℕ) × Fits sets units heights × (offered sets heights ≡ best)

-- with no set there is one choice
pub best_of_none : (units : List ℕ) → IsBestOver [] units 0
best_of_none units = record {
  heights = [];
  fits = record { each = refl; low = All-nil (λ h. h ≤ 6); fits = λ p inside. omega arith };
  reached = refl;
  greatest = λ others fits. omega arith;
}

-- a first height that each of its members has, beside heights that fit what they keep
pub fits_first : (set : List Bool) (others : List (List Bool)) (units left : List ℕ) (h : ℕ) (hs : List ℕ) →
    ((p : ℕ) → p < 4 → slice_index left p + (if is_member set p then h else 0) ≡ slice_index units p) → h ≤ 6 →
    Fits others left hs → Fits (set ∷ others) units (h ∷ hs)
fits_first set others units left h hs kept low rest = record {
  each = ap suc rest.each;
  low = All-cons (λ h. h ≤ 6) h hs low rest.low;
  fits = λ p inside. rw (sum_by-cons (takes p) (set, h) (zip others hs)) (omega (arith, kept p inside, rest.fits p inside));
}

-- the other way round
pub fits_rest : (set : List Bool) (others : List (List Bool)) (units left : List ℕ) (h : ℕ) (hs : List ℕ) →
    ((p : ℕ) → p < 4 → slice_index left p + (if is_member set p then h else 0) ≡ slice_index units p) →
    Fits (set ∷ others) units (h ∷ hs) → Fits others left hs
fits_rest set others units left h hs kept whole = record {
  each = omega (arith, whole.each);
  low = All-tail (λ h. h ≤ 6) h hs whole.low;
  fits = λ p inside.
      omega (arith, kept p inside, rw (sum_by-cons (takes p) (set, h) (zip others hs)) at (whole.fits p inside));
}

-- a height that a member doesn't have fits with no others
pub lacks : (set : List Bool) (others : List (List Bool)) (units : List ℕ) (h : ℕ) (hs : List ℕ) (p : ℕ) → p < 4 →
    is_member set p ≡ true → slice_index units p < h → Fits (set ∷ others) units (h ∷ hs) → ⊥
lacks set others units h hs p inside member short whole =
    let much : (if is_member set p then h else 0) ≡ h = rw member in
    omega (arith, rw (sum_by-cons (takes p) (set, h) (zip others hs)) at (whole.fits p inside))

-- what a first height and others offer together
pub offered_first : (set : List Bool) (others : List (List Bool)) (h : ℕ) (hs : List ℕ) →
    offered (set ∷ others) (h ∷ hs) ≡ (count_by (λ m. m) set - 1) * h + offered others hs
offered_first set others h hs = sum_by-cons offers (set, h) (zip others hs)

-- heights of 0 fit, and offer nothing
nothing_taken : (sets : List (List Bool)) (p : ℕ) → sum_by (takes p) (zip sets (map (λ (s : List Bool). 0) sets)) ≡ 0
nothing_taken [] p = refl
nothing_taken (set ∷ sets) p =
    let here : ◌≡◌ {A = ℕ} (if is_member set p then 0 else 0) 0 = cond_both (is_member set p) 0 0 (λ (n : ℕ). n ≡ 0) (λ e. refl) (λ e. refl) in
    rw (sum_by-cons (takes p) (set, 0) (zip sets (map (λ (s : List Bool). 0) sets)), here, nothing_taken sets p)

nothing_offered : (sets : List (List Bool)) → offered sets (map (λ (s : List Bool). 0) sets) ≡ 0
nothing_offered [] = refl
nothing_offered (set ∷ sets) =
    rw (offered_first set sets 0 (map (λ (s : List Bool). 0) sets), nothing_offered sets, mul-zero)

none_high : (sets : List (List Bool)) → All (λ h. h ≤ 6) (map (λ (s : List Bool). 0) sets)
none_high [] = All-nil (λ h. h ≤ 6)
none_high (set ∷ sets) = All-cons (λ h. h ≤ 6) 0 (map (λ (s : List Bool). 0) sets) (omega arith) (none_high sets)

pub nothing_reached : (sets : List (List Bool)) (units : List ℕ) → IsReached sets units 0
nothing_reached sets units = (
  map (λ (s : List Bool). 0) sets,
  record { each = length-map sets (λ (s : List Bool). 0); low = none_high sets; fits = λ p inside. rw (nothing_taken sets p) (omega arith) },
  nothing_offered sets,
)

-- one more height is tried, and fits
pub tried_fitting : (set : List Bool) (others : List (List Bool)) (units left : List ℕ) (height best rest kept_members now : ℕ) →
    ((p : ℕ) → p < 4 → slice_index left p + (if is_member set p then height else 0) ≡ slice_index units p) → height ≤ 6 →
    IsBestOver others left rest → kept_members ≡ count_by (λ m. m) set - 1 → now ≡ max best (kept_members * height + rest) →
    IsReached (set ∷ others) units best →
    ((h : ℕ) (hs : List ℕ) → h < height → Fits (set ∷ others) units (h ∷ hs) → offered (set ∷ others) (h ∷ hs) ≤ best) →
    IsReached (set ∷ others) units now
    × ((h : ℕ) (hs : List ℕ) → h < height + 1 → Fits (set ∷ others) units (h ∷ hs) → offered (set ∷ others) (h ∷ hs) ≤ now)
tried_fitting set others units left height best rest kept_members now kept low deeper size is reached tried = (
  ⊎_elim
      (λ (l : best < kept_members * height + rest).
      let taken : now ≡ kept_members * height + rest = omega arith in (
        height ∷ deeper.heights,
        fits_first set others units left height deeper.heights kept low deeper.fits,
        offered_first set others height deeper.heights ∙ ap (λ n. n * height + offered others deeper.heights) (sym size)
            ∙ ap (λ n. kept_members * height + n) deeper.reached ∙ sym taken,
      ))
      (λ (l : kept_members * height + rest ≤ best).
      let stays : now ≡ best = omega arith in
      (reached.0, reached.1, reached.2 ∙ sym stays))
      (cases_lt best (kept_members * height + rest)),
  λ h hs inside fits.
      ⊎_elim
      (λ (earlier : h < height). omega (arith, tried h hs earlier fits))
      (λ (here : height ≤ h).
      let same : h ≡ height = omega arith in
      let below = deeper.greatest hs (fits_rest set others units left height hs kept (subst (λ (n : ℕ). Fits (set ∷ others) units (n ∷ hs)) same fits)) in
      rw (same, offered_first set others height hs, ← size) (omega arith))
      (cases_lt h height),
)

-- one more height is tried, and is too much for a member
pub tried_lacking : (set : List Bool) (others : List (List Bool)) (units : List ℕ) (height best : ℕ) →
    ((p : ℕ) × (p < 4) × (is_member set p ≡ true) × (slice_index units p < height)) →
    ((h : ℕ) (hs : List ℕ) → h < height → Fits (set ∷ others) units (h ∷ hs) → offered (set ∷ others) (h ∷ hs) ≤ best) →
    (h : ℕ) (hs : List ℕ) → h < height + 1 → Fits (set ∷ others) units (h ∷ hs) → offered (set ∷ others) (h ∷ hs) ≤ best
tried_lacking set others units height best short tried h hs inside fits =
    ⊎_elim
    (λ (earlier : h < height). tried h hs earlier fits)
    (λ (here : height ≤ h).
    let much : slice_index units short.0 < h = omega (arith, short.3) in
    absurd (lacks set others units h hs short.0 short.1 short.2 much fits))
    (cases_lt h height)

-- all heights are tried
pub tried_all : (set : List Bool) (others : List (List Bool)) (units : List ℕ) (best : ℕ) → IsReached (set ∷ others) units best →
    ((h : ℕ) (hs : List ℕ) → h < 7 → Fits (set ∷ others) units (h ∷ hs) → offered (set ∷ others) (h ∷ hs) ≤ best) →
    IsBestOver (set ∷ others) units best
tried_all set others units best reached tried = record {
  heights = reached.0;
  fits = reached.1;
  reached = reached.2;
  greatest = by_first;
} where
  by_first : (heights : List ℕ) → Fits (set ∷ others) units heights → offered (set ∷ others) heights ≤ best
  by_first [] fits = absurd (omega (arith, fits.each))
  by_first (h ∷ hs) fits = tried h hs (omega (arith, All-head (λ n. n ≤ 6) h hs fits.low)) fits

-- `a.max(b)`
pub larger : (a b : ℕ) → ord_max nat_cmp a b ≡ max a b
larger a b =
    ⊎_elim
    (λ (l : b < a). let less : nat_lt b a ≡ true = lt-ltb b a l in rw less (omega arith))
    (λ (l : a ≤ b).
    let not_less : nat_lt b a ≡ false = le-ltb b a l in
    rw not_less
    (cond_both (b == a) Equal Greater (λ (o : Ordering). cond (is_lt o) a b ≡ max a b) (λ e. omega arith) (λ e. omega arith)))
    (cases_lt b a)

pub small_product : (d h : ℕ) → d ≤ 3 → h ≤ 6 → d * h ≤ 18
small_product d h few low = grind arith
