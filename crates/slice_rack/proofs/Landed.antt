-- Targets of slices are looked up below as they are in the slices.
use Rattle.std.proofs.Common.{◌≡◌, ℕ, ◌+◌, ◌<◌, ◌==◌, ◌&&◌, nat_lt, Bool, true, false, if◌then◌else◌, List, [], ◌∷◌, Option, Some, None, refl, sym, ap, ap₂, ◌∙◌, arith, lt-ltb, ltb-true, eq-eqb, eqb-true}
use Rattle.std.specs.Option.{option_or}
use Rattle.std.specs.List.{filter_map, cons_option}
use Rattle.std.proofs.lemmas.Bool.{cases_Bool, both_ways, and_parts, and_from}
use Rattle.rack.specs.Targets.{Target, is_at, look}
use Rattle.slice_rack.specs.Slices.{Slices, IsOrderly, disk_of, first_of, sectors_of}
use Rattle.slice_rack.specs.Landing.{landing}
use Rattle.slice_rack.proofs.Below.{one_sector, same_test}

or_none : (o : Option (List ℕ)) → option_or o None ≡ o
or_none None = refl
or_none (Some v) = refl

-- the target below
abbrev below : Slices → Target → Target
below t x = record { disk = disk_of t x.disk; sector = first_of t x.disk + x.sector; bytes = x.bytes }

-- one more target, which lies below or doesn't
look_more : (t : Slices) (x : Target) (ys : List Target) (d s : ℕ) (b : Bool) → nat_lt x.sector (sectors_of t x.disk) ≡ b
    → look (cons_option (landing t x) ys) d s ≡ option_or (look ys d s) (if b && is_at d s (below t x) then Some x.bytes else None)
unfolding look
look_more t x ys d s true is = ap (λ (c : Bool). look (cons_option (if c then Some (below t x) else None) ys) d s) is
look_more t x ys d s false is = ap (λ (c : Bool). look (cons_option (if c then Some (below t x) else None) ys) d s) is ∙ sym (or_none (look ys d s))

-- a sector of a slice has its targets alone
pub look_landed : (t : Slices) → IsOrderly t → (xs : List Target) (k u : ℕ) → u < sectors_of t k
    → look (filter_map (landing t) xs) (disk_of t k) (first_of t k + u) ≡ look xs k u
unfolding look
look_landed t orderly [] k u inside = refl
look_landed t orderly (x ∷ xs) k u inside =
    look_more t x (filter_map (landing t) xs) (disk_of t k) (first_of t k + u) (nat_lt x.sector (sectors_of t x.disk)) refl
    ∙ ap₂ (λ o (b : Bool). option_or o (if b then Some x.bytes else None)) (look_landed t orderly xs k u inside) (same_test _ _ there back)
  where
    there : (nat_lt x.sector (sectors_of t x.disk) && is_at (disk_of t k) (first_of t k + u) (below t x)) ≡ true → is_at k u x ≡ true
    there is =
        let parts = and_parts (nat_lt x.sector (sectors_of t x.disk)) _ is in
        let at = and_parts (disk_of t x.disk == disk_of t k) (first_of t x.disk + x.sector == first_of t k + u) parts.1 in
        let one = one_sector t x.disk x.sector k u orderly (ltb-true x.sector (sectors_of t x.disk) parts.0) inside (eqb-true (disk_of t x.disk) (disk_of t k) at.0)
        (eqb-true (first_of t x.disk + x.sector) (first_of t k + u) at.1) in
        and_from (x.disk == k) (x.sector == u) (eq-eqb x.disk k one.0) (eq-eqb x.sector u one.1)

    back : is_at k u x ≡ true → (nat_lt x.sector (sectors_of t x.disk) && is_at (disk_of t k) (first_of t k + u) (below t x)) ≡ true
    back is =
        let at = and_parts (x.disk == k) (x.sector == u) is in
        let disk : x.disk ≡ k = eqb-true x.disk k at.0 in
        let sector : x.sector ≡ u = eqb-true x.sector u at.1 in
        and_from (nat_lt x.sector (sectors_of t x.disk)) _
        (lt-ltb x.sector (sectors_of t x.disk) (let same : sectors_of t x.disk ≡ sectors_of t k = ap (sectors_of t) disk in omega (arith, same, sector, inside)))
        (and_from (disk_of t x.disk == disk_of t k) (first_of t x.disk + x.sector == first_of t k + u)
        (eq-eqb (disk_of t x.disk) (disk_of t k) (ap (disk_of t) disk))
        (eq-eqb (first_of t x.disk + x.sector) (first_of t k + u) (ap₂ (λ d s. first_of t d + s) disk sector)))

-- a sector of no slice has none
pub look_nowhere : (t : Slices) (xs : List Target) (d s : ℕ)
    → ((k u : ℕ) → u < sectors_of t k → d ≡ disk_of t k → s ≡ first_of t k + u → ⊥) → look (filter_map (landing t) xs) d s ≡ None
unfolding look
look_nowhere t [] d s none = refl
look_nowhere t (x ∷ xs) d s none =
    look_more t x (filter_map (landing t) xs) d s (nat_lt x.sector (sectors_of t x.disk)) refl
    ∙ ap₂ (λ o (b : Bool). option_or o (if b then Some x.bytes else None)) (look_nowhere t xs d s none) (is_false _ away)
  where
    is_false : (b : Bool) → (b ≡ true → ⊥) → b ≡ false
    is_false true other = absurd (other refl)
    is_false false other = refl

    away : (nat_lt x.sector (sectors_of t x.disk) && is_at d s (below t x)) ≡ true → ⊥
    away is =
        let parts = and_parts (nat_lt x.sector (sectors_of t x.disk)) _ is in
        let at = and_parts (disk_of t x.disk == d) (first_of t x.disk + x.sector == s) parts.1 in
        none x.disk x.sector (ltb-true x.sector (sectors_of t x.disk) parts.0) (sym (eqb-true (disk_of t x.disk) d at.0)) (sym (eqb-true (first_of t x.disk + x.sector) s at.1))
