-- Extents of slices by a disk's table: which are there, and which share a sector.
use Rattle.std.proofs.Common.{◌≡◌, ◌⊎◌, ℕ, zero, suc, ◌+◌, ◌<◌, ◌||◌, Bool, true, false, if◌then◌else◌, List, [], ◌∷◌, ◌++◌, length, slice_get, Option, Some, None, refl, sym, ap, ◌∙◌, inl, inr, arith, add-one}
use Rattle.std.specs.Option.{option_map_or, option_and_then}
use Rattle.std.proofs.lemmas.Bool.{both_ways, cases_lt}
use Rattle.std.proofs.lemmas.List.{length-append}
use Rattle.std.proofs.lemmas.List.Folds.{list_any-append}
use Rattle.std.proofs.lemmas.Option.{none-some}
use Rattle.gpt_table.specs.declared.Table.{Table}
use Rattle.pool_image.specs.Replay.{Extent, share, shares_any, free_of, entry_extent, extents_below, extent_by}

-- that of an array
abbrev pub extent_at : ℕ → Table → ℕ → Option Extent
extent_at sectors table n = free_of (extents_below sectors table n) (entry_extent sectors table n)

last_of : {X : Type 0} (xs : List X) (y : X) → slice_get (xs ++ y ∷ []) (length xs) ≡ Some y
last_of [] y = refl
last_of (x ∷ xs) y = last_of xs y

length_below : (sectors : ℕ) (table : Table) (n : ℕ) → length (extents_below sectors table n) ≡ n
unfolding extents_below
length_below sectors table zero = refl
length_below sectors table (suc n) =
    length-append (extents_below sectors table n) (extent_at sectors table n ∷ []) ∙ ap (λ m. m + 1) (length_below sectors table n) ∙ add-one n

pub extent_by_is : (sectors : ℕ) (table : Table) (n : ℕ) → extent_by sectors (Some table) (n + 1) ≡ extent_at sectors table n
unfolding extent_by extents_below
extent_by_is sectors table n =
    ap (extent_by sectors (Some table)) (add-one n)
    ∙ ap (λ m. option_and_then (λ (e : Option Extent). e) (slice_get (extents_below sectors table m) n)) (add-one n)
    ∙ ap (λ k. option_and_then (λ (e : Option Extent). e) (slice_get (extents_below sectors table n ++ extent_at sectors table n ∷ []) k)) (sym (length_below sectors table n))
    ∙ ap (option_and_then (λ (e : Option Extent). e)) (last_of (extents_below sectors table n) (extent_at sectors table n))

-- an extent shares a sector with that of an array
abbrev pub shares_at : ℕ → Table → Extent → ℕ → Bool
shares_at sectors table e n = option_map_or (share e) (extent_at sectors table n) false

or_off : (b : Bool) → (b || false) ≡ b
or_off true = refl
or_off false = refl

shares_more : (sectors : ℕ) (table : Table) (e : Extent) (n : ℕ) → shares_any (extents_below sectors table (suc n)) e ≡ (shares_any (extents_below sectors table n) e || shares_at sectors table e n)
unfolding extents_below
shares_more sectors table e n =
    list_any-append (λ (o : Option Extent). option_map_or (share e) o false) (extents_below sectors table n) (extent_at sectors table n ∷ [])
    ∙ ap (λ b. shares_any (extents_below sectors table n) e || b) (or_off (shares_at sectors table e n))

or_true : (a b : Bool) → (a || b) ≡ true → (a ≡ true) ⊎ (b ≡ true)
or_true true b is = inl refl
or_true false b is = inr is

or_second : (a b : Bool) → b ≡ true → (a || b) ≡ true
or_second true b is = refl
or_second false b is = is

or_first : (a b : Bool) → a ≡ true → (a || b) ≡ true
or_first true b is = refl
or_first false b is = cc

pub shares_below : (sectors : ℕ) (table : Table) (e : Extent) (many : ℕ) → shares_any (extents_below sectors table many) e ≡ true
    → (n : ℕ) × (n < many) × (shares_at sectors table e n ≡ true)
unfolding extents_below
shares_below sectors table e zero is = absurd (both_ways false refl is)
shares_below sectors table e (suc n) is =
    elim (or_true (shares_any (extents_below sectors table n) e) (shares_at sectors table e n) (sym (shares_more sectors table e n) ∙ is)) [
      | inl lower ↦ let found = shares_below sectors table e n lower in (found.0, omega (arith, found.1), found.2)
      | inr last ↦ (n, omega arith, last)
    ]

pub below_shares : (sectors : ℕ) (table : Table) (e : Extent) (many n : ℕ) → n < many → shares_at sectors table e n ≡ true → shares_any (extents_below sectors table many) e ≡ true
below_shares sectors table e zero n low is = absurd (omega (arith, low))
below_shares sectors table e (suc m) n low is =
    shares_more sectors table e m
    ∙ elim (cases_lt n m) [
      | inl lower ↦ or_first (shares_any (extents_below sectors table m) e) (shares_at sectors table e m) (below_shares sectors table e m n lower is)
      | inr last ↦
          or_second (shares_any (extents_below sectors table m) e) (shares_at sectors table e m)
          (ap (shares_at sectors table e) (let same : m ≡ n = omega (arith, last, low) in same) ∙ is)
    ]

-- an extent that is there is its entry's
pub free_entry : (lower : List (Option Extent)) (o : Option Extent) (e : Extent) → free_of lower o ≡ Some e → o ≡ Some e
free_entry lower None e is = absurd (none-some e is)
free_entry lower (Some f) e is = of_test (shares_any lower f) is
  where
    of_test : (b : Bool) → (if b then None else Some f) ≡ Some e → Some f ≡ Some e
    of_test true at = absurd (none-some e at)
    of_test false at = at

-- so the slices that a disk's table has share no sector
pub extents_apart : (sectors : ℕ) (table : Option Table) (m n : ℕ) (a b : Extent) → m < n → extent_by sectors table (suc m) ≡ Some a → extent_by sectors table (suc n) ≡ Some b
    → share b a ≡ false
unfolding extent_by
extents_apart sectors None m n a b low one two = absurd (none-some a one)
extents_apart sectors (Some table) m n a b low one two = of (share b a) refl
  where
    by : (k : ℕ) (e : Extent) → extent_by sectors (Some table) (suc k) ≡ Some e → extent_at sectors table k ≡ Some e
    by k e is = sym (extent_by_is sectors table k) ∙ ap (extent_by sectors (Some table)) (add-one k) ∙ is

    of : (c : Bool) → share b a ≡ c → c ≡ false
    of false is = refl
    of true is =
        let entry = free_entry (extents_below sectors table n) (entry_extent sectors table n) b (by n b two) in
        let shares = below_shares sectors table b n m low (ap (λ (o : Option Extent). option_map_or (share b) o false) (by m a one) ∙ is) in
        absurd (none-some b
        (sym (ap (λ (c : Bool). if c then None else Some b) shares)
        ∙ sym (ap (free_of (extents_below sectors table n)) entry) ∙ by n b two))
