-- What is written of an entry reads back.
use Rattle.std.proofs.Common.{◌≡◌, ℕ, zero, suc, ◌^◌, ◌<◌, ◌==◌, true, false, List, [], ◌∷◌, length, replicate, refl, sym, ap, ◌∙◌, arith, eqb-true}
use Rattle.std.specs.List.{list_all}
use Rattle.std.proofs.lemmas.Bool.{and_parts, both_ways, false_from_ne_true}
use Rattle.shr_base.specs.Blocks.{bytes_at, number_at, put_all}
use Rattle.shr_base.specs.Ids.{guid_order}
use Rattle.shr_base.proofs.Blocks.{bytes_at-field, number_at-field, AreWide}
use Rattle.gpt_table.specs.Format.{slot_fields, stored_slice, slice_of, is_unused}

-- bytes that are all zeros
all_zeros : (xs : List ℕ) (n : ℕ) → length xs ≡ n → list_all (λ b. b == 0) xs ≡ true → xs ≡ replicate n 0
all_zeros [] zero long zero_each = refl
all_zeros [] (suc n) long zero_each = absurd (omega arith)
all_zeros (x ∷ xs) zero long zero_each = absurd (omega arith)
all_zeros (x ∷ xs) (suc n) long zero_each =
    let parts = and_parts (x == 0) (list_all (λ b. b == 0) xs) zero_each in
    let here : x ≡ 0 = eqb-true x 0 parts.0 in
    ap (λ (y : ℕ). y ∷ xs) here ∙ ap (λ (ys : List ℕ). 0 ∷ ys) (all_zeros xs n (omega arith) parts.1)

-- what is written reads back
pub slot_reads : (kind id : List ℕ) (first last : ℕ) → length kind ≡ 16 → length id ≡ 16 → first < 2 ^ 64 → last < 2 ^ 64
    → slice_of (put_all (slot_fields kind id first last) (replicate 128 0)) ≡ stored_slice kind id first last
unfolding slice_of
slot_reads kind id first last long_kind long_id small_first small_last =
    let fields = slot_fields kind id first last in
    let wide : AreWide fields = (long_kind, (long_id, (refl, (refl, tt)))) in
    let kind_is : bytes_at 0 16 (put_all fields (replicate 128 0)) ≡ kind = bytes_at-field 0 128 fields (replicate 128 0) refl refl wide in
    let id_is : bytes_at 16 16 (put_all fields (replicate 128 0)) ≡ id = bytes_at-field 1 128 fields (replicate 128 0) refl refl wide in
    let first_is : number_at 32 8 (put_all fields (replicate 128 0)) ≡ first = number_at-field 2 128 first fields (replicate 128 0) refl refl wide refl (omega arith) in
    let last_is : number_at 40 8 (put_all fields (replicate 128 0)) ≡ last = number_at-field 3 128 last fields (replicate 128 0) refl refl wide refl (omega arith) in
    rw (kind_is, id_is, first_is, last_is)

-- an entry with a type is in use
pub slot_used : (kind id : List ℕ) (first last : ℕ) → length kind ≡ 16 → length id ≡ 16
    → list_all (λ b. b == 0) (guid_order kind) ≡ false
    → is_unused (put_all (slot_fields kind id first last) (replicate 128 0)) ≡ false
slot_used kind id first last long_kind long_id used =
    let fields = slot_fields kind id first last in
    let wide : AreWide fields = (long_kind, (long_id, (refl, (refl, tt)))) in
    let kind_is : bytes_at 0 16 (put_all fields (replicate 128 0)) ≡ kind = bytes_at-field 0 128 fields (replicate 128 0) refl refl wide in
    false_from_ne_true _
    (λ all.
    let blank : kind ≡ replicate 16 0 = all_zeros kind 16 long_kind (ap (list_all (λ b. b == 0)) (sym kind_is) ∙ all) in
    let none : guid_order kind ≡ replicate 16 0 = ap guid_order blank in
    both_ways (list_all (λ b. b == 0) (guid_order kind)) used (ap (list_all (λ b. b == 0)) none))
