-- Names of segments' sections, and the table of them.
use Rattle.std.proofs.Common.{◌≡◌, ℕ, ◌+◌, ◌<◌, ◌^◌, Bool, true, false, List, length, drop, decimal, get_or, set, get_or-set_other, get_or-set_same, inl, inr, Option, Some, None, refl, sym, ap, subst, ◌∙◌, arith}
use Rattle.std.proofs.lemmas.Bool.{cases_eq, false_from_ne_true}
use Rattle.std.proofs.lemmas.Fmt.{decimal_injective, digits_value-decimal}
use Rattle.std.proofs.lemmas.Slice.Eq.{bytes_eq-Decides}
use Rattle.std.specs.Option.{is_some}
use Rattle.std.specs.Prelude.{bytes_eq}
use Rattle.lvm_text.specs.Group.{segment_name}
use Rattle.lvm_text.specs.Table.{first_place}
use Rattle.lvm_text.specs.Words.{below_64, digits_value}
use Rattle.lvm_text.proofs.Lexing.{counted, numerals}

-- the digits of a number say it
pub value_of_decimal : (digits : List ℕ) (n : ℕ) → n < 2 ^ 64 → digits ≡ decimal n → below_64 (digits_value digits) ≡ Some n
value_of_decimal digits n fits are =
    ap (λ (ds : List ℕ). below_64 (digits_value ds)) are ∙ ap below_64 (digits_value-decimal numerals n fits) ∙ counted n fits

pub segment_name_injective : (m n : ℕ) → m < 2 ^ 64 → n < 2 ^ 64 → segment_name m ≡ segment_name n → m ≡ n
segment_name_injective m n m_fits n_fits e = decimal_injective m n m_fits n_fits (ap (drop 7) e)

pub same_bytes : (xs ys : List ℕ) → xs ≡ ys → bytes_eq xs ys ≡ true
same_bytes xs ys e = (bytes_eq-Decides xs ys).1 e

pub other_bytes : (xs ys : List ℕ) → (xs ≡ ys → ⊥) → bytes_eq xs ys ≡ false
other_bytes xs ys differ = false_from_ne_true (bytes_eq xs ys) (λ (t : bytes_eq xs ys ≡ true). differ ((bytes_eq-Decides xs ys).0 t))

-- where nothing is noted
not_here : (place : Option ℕ) (at : ℕ) → first_place place false at ≡ place
not_here (Some before) at = refl
not_here None at = refl

already : (place : Option ℕ) (here : Bool) (at : ℕ) → is_some place ≡ true → first_place place here at ≡ place
already (Some before) here at there = refl
already None here at there = cc

first : (place : Option ℕ) (at : ℕ) → is_some place ≡ false → first_place place true at ≡ Some at
first (Some before) at there = cc
first None at there = refl

-- a name that is no segment's of the table
pub unnoted : (place : Option ℕ) (name : List ℕ) (at k : ℕ) → (name ≡ segment_name (k + 1) → ⊥) → first_place place (bytes_eq name (segment_name (k + 1))) at ≡ place
unnoted place name at k differ = ap (λ (here : Bool). first_place place here at) (other_bytes name (segment_name (k + 1)) differ) ∙ not_here place at

other_entry : (name : List ℕ) (i k : ℕ) → i + 1 < 2 ^ 64 → k + 1 < 2 ^ 64 → name ≡ segment_name (i + 1) → (k ≡ i → ⊥) → name ≡ segment_name (k + 1) → ⊥
other_entry name i k i_fits k_fits is differ same =
    let e : i + 1 ≡ k + 1 = segment_name_injective (i + 1) (k + 1) i_fits k_fits (sym is ∙ same) in differ (omega arith)

-- the name of an entry that isn't taken
pub noted : (table : List (Option ℕ)) (name : List ℕ) (i at k : ℕ) → length table < 2 ^ 64 → i < length table → name ≡ segment_name (i + 1) → is_some (get_or table i None) ≡ false → k < length table
    → get_or (set table i (Some at)) k None ≡ first_place (get_or table k None) (bytes_eq name (segment_name (k + 1))) at
noted table name i at k few in_table is free below =
    elim (cases_eq k i) [
      | inl e ↦
          subst (λ (j : ℕ). get_or (set table i (Some at)) j None ≡ first_place (get_or table j None) (bytes_eq name (segment_name (j + 1))) at) (sym e)
          (rw get_or-set_same (sym (ap (λ (here : Bool). first_place (get_or table i None) here at) (same_bytes name (segment_name (i + 1)) is) ∙ first (get_or table i None) at free)))
      | inr differ ↦
          rw get_or-set_other (sym (unnoted (get_or table k None) name at k (other_entry name i k (omega arith) (omega arith) is differ)))
    ]

-- the name of one that is
pub noted_before : (table : List (Option ℕ)) (name : List ℕ) (i at k : ℕ) → length table < 2 ^ 64 → i < length table → name ≡ segment_name (i + 1) → is_some (get_or table i None) ≡ true → k < length table
    → get_or table k None ≡ first_place (get_or table k None) (bytes_eq name (segment_name (k + 1))) at
noted_before table name i at k few in_table is taken below =
    elim (cases_eq k i) [
      | inl e ↦
          subst (λ (j : ℕ). get_or table j None ≡ first_place (get_or table j None) (bytes_eq name (segment_name (j + 1))) at) (sym e)
          (sym (already (get_or table i None) (bytes_eq name (segment_name (i + 1))) at taken))
      | inr differ ↦ sym (unnoted (get_or table k None) name at k (other_entry name i k (omega arith) (omega arith) is differ))
    ]
