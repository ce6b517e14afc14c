-- The targets of a record's bytes.
use Rattle.std.proofs.Common.{◌==◌, sym, eqb-true, ◌≡◌, ℕ, zero, suc, ◌+◌, ◌<◌, true, false, List, [], ◌∷◌, ◌++◌, length, map, slice_get, Some, None, refl, ap, ap₂, ◌∙◌, inl, inr, arith}
use Rattle.std.specs.Option.{option_or}
use Rattle.std.proofs.lemmas.Bool.{cases_lt, cases_Bool, and_parts, cond-true, cond-false}
use Rattle.std.specs.List.{range_with_len}
use Rattle.std.proofs.lemmas.Option.{none-some, slice_get-get_or}
use Rattle.rack.specs.Targets.{is_at, look}
use Rattle.rack.proofs.Phases.{look-append}
use Rattle.std.proofs.lemmas.List.FromFn.{map-range_with_len_more, length-map-range_with_len, get_or-map-range_with_len}
use Rattle.log_laws.specs.Bytes.{target_in, targets_in}

pub no_targets : (bytes : List ℕ) → targets_in bytes 0 ≡ []
unfolding targets_in
no_targets bytes = refl

pub targets_more : (bytes : List ℕ) (k : ℕ) → targets_in bytes (k + 1) ≡ targets_in bytes k ++ target_in bytes k ∷ []
unfolding targets_in
targets_more bytes k = map-range_with_len_more (target_in bytes) 0 k k (omega arith)

pub length_targets : (bytes : List ℕ) (count : ℕ) → length (targets_in bytes count) ≡ count
unfolding targets_in
length_targets bytes count = length-map-range_with_len (target_in bytes) 0 count

-- the last target for a sector is the one that counts
pub payload_none_at : (bytes : List ℕ) (count d s : ℕ) → ((k : ℕ) → k < count → is_at d s (target_in bytes k) ≡ false) → look (targets_in bytes count) d s ≡ None
unfolding look
payload_none_at bytes zero d s none = ap (λ xs. look xs d s) (no_targets bytes)
payload_none_at bytes (suc n) d s none =
    let one : suc n ≡ n + 1 = omega arith in
    ap (λ m. look (targets_in bytes m) d s) one ∙ ap (λ xs. look xs d s) (targets_more bytes n)
    ∙ look-append (targets_in bytes n) (target_in bytes n ∷ []) d s
    ∙ ap₂ (λ o p. option_or o p) (cond-false (is_at d s (target_in bytes n)) (Some (target_in bytes n).bytes) None (none n (omega arith)))
    (payload_none_at bytes n d s (λ k below. none k (omega arith)))

pub payload_some_at : (bytes : List ℕ) (count k d s : ℕ) → k < count → is_at d s (target_in bytes k) ≡ true
    → ((j : ℕ) → k < j → j < count → is_at d s (target_in bytes j) ≡ false) → look (targets_in bytes count) d s ≡ Some (target_in bytes k).bytes
unfolding look
payload_some_at bytes zero k d s below here none = absurd (omega arith)
payload_some_at bytes (suc n) k d s below here none =
    let one : suc n ≡ n + 1 = omega arith in
    let parts : look (targets_in bytes (suc n)) d s ≡ option_or (look (target_in bytes n ∷ []) d s) (look (targets_in bytes n) d s) =
    ap (λ m. look (targets_in bytes m) d s) one ∙ ap (λ xs. look xs d s) (targets_more bytes n) ∙ look-append (targets_in bytes n) (target_in bytes n ∷ []) d s in
    elim (cases_lt k n) [
      | inl earlier ↦
          parts
          ∙ ap₂ (λ o p. option_or o p) (cond-false (is_at d s (target_in bytes n)) (Some (target_in bytes n).bytes) None (none n earlier (omega arith)))
          (payload_some_at bytes n k d s earlier here (λ j above below. none j above (omega arith)))
      | inr last ↦
          let same : n ≡ k = omega (arith, last, below) in
          parts
          ∙ ap (λ o. option_or o (look (targets_in bytes n) d s))
          (cond-true (is_at d s (target_in bytes n)) (Some (target_in bytes n).bytes) None (ap (λ m. is_at d s (target_in bytes m)) same ∙ here))
          ∙ ap (λ m. Some (target_in bytes m).bytes) same
    ]

-- a payload is that of a target of the record
pub look_at : (bytes : List ℕ) (count d s : ℕ) (v : List ℕ) → look (targets_in bytes count) d s ≡ Some v
    → (k : ℕ) × (k < count) × ((target_in bytes k).disk ≡ d) × ((target_in bytes k).sector ≡ s)
unfolding look
look_at bytes zero d s v is = absurd (none-some v (sym (ap (λ xs. look xs d s) (no_targets bytes)) ∙ is))
look_at bytes (suc n) d s v is =
    let one : suc n ≡ n + 1 = omega arith in
    elim (cases_Bool (is_at d s (target_in bytes n))) [
      | inl here ↦
          let parts = and_parts ((target_in bytes n).disk == d) ((target_in bytes n).sector == s) here in
          (n, omega arith, eqb-true (target_in bytes n).disk d parts.0, eqb-true (target_in bytes n).sector s parts.1)
      | inr other ↦
          let rest : look (targets_in bytes n) d s ≡ Some v =
          ap (λ o. option_or o (look (targets_in bytes n) d s)) (sym (cond-false (is_at d s (target_in bytes n)) (Some (target_in bytes n).bytes) None other))
          ∙ sym (look-append (targets_in bytes n) (target_in bytes n ∷ []) d s)
          ∙ sym (ap (λ m. look (targets_in bytes m) d s) one ∙ ap (λ xs. look xs d s) (targets_more bytes n)) ∙ is in
          let found = look_at bytes n d s v rest in
          (found.0, omega (arith, found.1), found.2, found.3)
    ]

-- the target of a number
pub target_of : (bytes : List ℕ) (count k : ℕ) → k < count → slice_get (targets_in bytes count) k ≡ Some (target_in bytes k)
unfolding targets_in
target_of bytes count k below =
    slice_get-get_or (map (target_in bytes) (range_with_len 0 count)) k (target_in bytes k) (omega (arith, below, length-map-range_with_len (target_in bytes) 0 count))
    ∙ ap Some (get_or-map-range_with_len (target_in bytes) 0 count k k (target_in bytes k) below (omega arith))
