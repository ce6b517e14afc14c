-- The values that a disk keeps, sector by sector.
use Rattle.std.proofs.Common.{◌≡◌, ◌≢◌, List, [], ◌∷◌, ◌++◌, ℕ, zero, suc, ◌-◌, ◌<◌, if◌then◌else◌, length, take, set, get_or, Vec, Global, refl, sym, ◌∙◌, ap, subst, inl, inr, arith}
use Rattle.std.specs.Prelude.{slice_get}
use Rattle.std.specs.Option.{option_map_or}
use Rattle.std.specs.Vec.{with_items}
use Rattle.std.proofs.lemmas.List.{with_items_is}
use Rattle.std.proofs.lemmas.Grind.{common_steps}
use Rattle.flat_array.specs.declared.disk.FlatDisk.{FlatDisk}
use Rattle.std.proofs.lemmas.Bool.{cases_eq, eq-eqb, ne_eqb}
use Rattle.rack.specs.Values.{Values, all_of, append}
use Rattle.flat_array.specs.Array.{FlatArray, written, flushed}
use Rattle.flat_array.specs.Disk.{size_of, kept_at, last_alone, DiskIs}

-- the values of one sector
abbrev pub items_at : List (Vec (List ℕ) Global) → ℕ → List (List ℕ)
items_at sectors s = option_map_or (λ kept. kept.items) (slice_get sectors s) []

pub items_at-set_same :
    (sectors : List (Vec (List ℕ) Global)) (s : ℕ) (kept : Vec (List ℕ) Global)
    → s < length sectors
    → items_at (set sectors s kept) s ≡ kept.items
items_at-set_same [] s kept within = absurd (omega arith)
items_at-set_same (x ∷ sectors) zero kept within = refl
items_at-set_same (x ∷ sectors) (suc s) kept within = items_at-set_same sectors s kept (omega arith)

pub items_at-set_other :
    (sectors : List (Vec (List ℕ) Global)) (s t : ℕ) (kept : Vec (List ℕ) Global)
    → t ≢ s
    → items_at (set sectors s kept) t ≡ items_at sectors t
items_at-set_other [] s t kept other = refl
items_at-set_other (x ∷ sectors) zero zero kept other = absurd (other refl)
items_at-set_other (x ∷ sectors) zero (suc t) kept other = refl
items_at-set_other (x ∷ sectors) (suc s) zero kept other = refl
items_at-set_other (x ∷ sectors) (suc s) (suc t) kept other =
    items_at-set_other sectors s t kept (λ same. other (ap suc same))

pub items_at-get_or :
    (sectors : List (Vec (List ℕ) Global)) (s : ℕ) (kept : Vec (List ℕ) Global)
    → s < length sectors
    → (get_or sectors s kept).items ≡ items_at sectors s
items_at-get_or [] s kept within = absurd (omega arith)
items_at-get_or (x ∷ sectors) zero kept within = refl
items_at-get_or (x ∷ sectors) (suc s) kept within = items_at-get_or sectors s kept (omega arith)

-- the last one of values
pub last_alone-append : (older : List (List ℕ)) (current : List ℕ) → last_alone (older ++ current ∷ []) ≡ current ∷ []
last_alone-append older current = grind (arith, common_steps)

-- the disk whose sectors have their last values alone
pub Holds-flushed :
    (old : FlatDisk) (sectors : List (Vec (List ℕ) Global)) (a : FlatArray)
    → length sectors ≡ size_of old
    → ((s : ℕ) → s < size_of old → items_at sectors s ≡ last_alone (kept_at old s))
    → DiskIs old a
    → DiskIs record { sectors = with_items old.sectors sectors } (flushed a)
Holds-flushed old sectors a size last holds =
    let same = with_items_is old.sectors sectors (size ∙ sym old.sectors.ok.0) in
    record {
      size = ap length same ∙ (size ∙ holds.size);
      values =
          λ s within.
          let inside : s < size_of old = omega (arith, holds.size) in
          ap (λ kept. items_at kept s) same
          ∙ (last s inside
          ∙ (ap last_alone (holds.values s within)
          ∙ last_alone-append (a.values s).older (a.values s).current));
    }

-- all values but the last one, which was appended
before_last : (h : Values) (v : List ℕ) → take (length (all_of (append h v)) - 1) (all_of (append h v)) ≡ all_of h
before_last h v = grind (arith, common_steps)

-- the disk without the last value of a sector
pub Holds-unwritten :
    (old new : FlatDisk) (sector : ℕ) (kept : Vec (List ℕ) Global) (a : FlatArray) (v : List ℕ)
    → new.sectors.items ≡ set old.sectors.items sector kept
    → kept.items ≡ take (length (kept_at old sector) - 1) (kept_at old sector)
    → sector < size_of old
    → DiskIs old (written a sector v)
    → DiskIs new a
Holds-unwritten old new sector kept a v is all_but_last inside holds =
    record {
      size = ap length is ∙ (grind (arith, common_steps) ∙ holds.size);
      values =
          λ s within.
          ap (λ sectors. items_at sectors s) is
          ∙ elim (cases_eq s sector) [
            | inl here ↦
                let test = eq-eqb s sector here in
                let held : kept_at old s ≡ all_of (append (a.values s) v) =
                holds.values s within ∙ ap (λ b. all_of (if b then append (a.values s) v else a.values s)) test in
                let known : kept.items ≡ take (length (kept_at old s) - 1) (kept_at old s) =
                subst (λ t. kept.items ≡ take (length (kept_at old t) - 1) (kept_at old t)) (sym here) all_but_last in
                subst (λ t. items_at (set old.sectors.items t kept) s ≡ all_of (a.values s)) here
                (items_at-set_same old.sectors.items s kept (subst (λ t. t < size_of old) (sym here) inside)
                ∙ (known
                ∙ (ap (λ values. take (length values - 1) values) held ∙ before_last (a.values s) v)))
            | inr other ↦
                items_at-set_other old.sectors.items sector s kept other
                ∙ (holds.values s within
                ∙ ap (λ b. all_of (if b then append (a.values s) v else a.values s)) (ne_eqb s sector other))
          ];
    }
