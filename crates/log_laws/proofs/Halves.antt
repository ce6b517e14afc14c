-- A record as its half of a log slice says it.
use Rattle.std.proofs.Common.{◌≡◌, ℕ, zero, suc, ◌+◌, ◌*◌, ◌<◌, ◌≤◌, Bool, true, false, ◌==◌, ◌&&◌, nat_le, bytes_eq, if◌then◌else◌, List, ◌++◌, map, take, drop, replicate, codes, Option, Some, None, refl, sym, ap, ap₂, ◌∙◌, inl, inr, arith, eq-eqb, lit≤}
use Rattle.std.proofs.lemmas.Bool.{cases_Bool, both_ways, cond-true, leb-true, le-leb, and_from}
use Rattle.std.proofs.lemmas.List.{drop-drop}
use Rattle.std.proofs.Math.Seq.{take-add}
use Rattle.std.specs.List.{flat_map, range_with_len, list_all}
use Rattle.shr_base.specs.Blocks.{bytes_at, number_at, put_at}
use Rattle.shr_base.specs.Crc.{crc32_of}
use Rattle.rack.specs.Targets.{Target, target}
use Rattle.array_image.specs.Record.{half_of, log_bytes, target_at, is_target, are_apart, record_of}
use Rattle.log_laws.specs.Bytes.{sector_in, target_in, targets_in, IsSealed}
use Rattle.log_laws.proofs.Records.{map_range_same, bytes_at-take, number_same}

-- sectors in a row are the bytes that they hold
sectors_joined : (slice : ℕ → List ℕ) (first : ℕ) (bytes : List ℕ) (i n : ℕ)
    → ((k : ℕ) → i ≤ k → k < i + n → slice (first + k) ≡ sector_in bytes k)
    → flat_map (λ s. slice (first + s)) (range_with_len i n) ≡ take (512 * n) (drop (512 * i) bytes)
unfolding bytes_at
sectors_joined slice first bytes i zero same = refl
sectors_joined slice first bytes i (suc n) same =
    let rest : List ℕ = drop (512 * i) bytes in
    let next : 512 * i + 512 ≡ 512 * (i + 1) = omega arith in
    let both : 512 + 512 * n ≡ 512 * suc n = omega arith in
    ap₂ (λ (xs ys : List ℕ). xs ++ ys) (same i (omega arith) (omega arith))
    (sectors_joined slice first bytes (i + 1) n (λ k from below. same k (omega arith) (omega arith))
    ∙ ap (λ m. take (512 * n) (drop m bytes)) (sym next) ∙ ap (take (512 * n)) (sym (drop-drop 512 (512 * i) bytes)))
    ∙ sym (take-add 512 (512 * n) rest) ∙ ap (λ m. take m rest) both

-- what the bytes say themselves
abbrev pub record_says : ℕ → List ℕ → Option (List Target)
record_says number bytes =
    let count = number_at 12 4 bytes in
    if bytes_eq (bytes_at 0 8 bytes) (codes "SHRBODY1")
    && ((number_at 16 8 bytes == number)
    && (nat_le 1 count && (nat_le count 3996
    && ((number_at 8 4 bytes == crc32_of (put_at 8 4 (replicate 4 0) (take (512 * (96 + count)) bytes)))
    && (list_all is_target (targets_in bytes count) && are_apart (targets_in bytes count))))))
    then Some (targets_in bytes count)
    else None

-- the record by the tests of its fields
abbrev pub record_if : (word numbered : Bool) (sum count : ℕ) (used : List ℕ) (targets : List Target) → Option (List Target)
record_if word numbered sum count used targets =
    if word
    && (numbered
    && (nat_le 1 count && (nat_le count 3996
    && ((sum == crc32_of (put_at 8 4 (replicate 4 0) used))
    && (list_all is_target targets && are_apart targets)))))
    then Some targets
    else None

no_record : (a b c d e : Bool) (o : Option (List Target)) → d ≡ false → (if a && (b && (c && (d && e))) then o else None) ≡ None
no_record false b c d e o is = refl
no_record true false c d e o is = refl
no_record true true false d e o is = refl
no_record true true true false e o is = refl
no_record true true true true e o is = absurd (both_ways true is refl)

-- a count that is too great is none
pub none_beyond : (word numbered : Bool) (sum count : ℕ) (used : List ℕ) (targets : List Target) → nat_le count 3996 ≡ false
    → record_if word numbered sum count used targets ≡ None
none_beyond word numbered sum count used targets beyond =
    no_record word numbered (nat_le 1 count) (nat_le count 3996) ((sum == crc32_of (put_at 8 4 (replicate 4 0) used)) && (list_all is_target targets && are_apart targets))
    (Some targets) beyond

-- the record that a head and what is used give
abbrev pub record_with : ℕ → List ℕ → ℕ → List ℕ → List Target → Option (List Target)
record_with number head count used targets =
    record_if (bytes_eq (bytes_at 0 8 head) (codes "SHRBODY1")) (number_at 16 8 head == number) (number_at 8 4 head) count used targets

-- a half of a log slice that holds these sectors says what the bytes say
pub record_by_bytes : (number : ℕ) (slice : ℕ → List ℕ) (bytes : List ℕ)
    → ((k : ℕ) → k < 96 → slice (half_of number + k) ≡ sector_in bytes k)
    → (number_at 12 4 bytes ≤ 3996 → (k : ℕ) → k < 96 + number_at 12 4 bytes → slice (half_of number + k) ≡ sector_in bytes k)
    → record_of number slice ≡ record_says number bytes
unfolding record_of targets_in
record_by_bytes number slice bytes heads all =
    let first : ℕ = half_of number in
    let count : ℕ = number_at 12 4 bytes in
    let head : List ℕ = take (512 * 96) bytes in
    let head_is : log_bytes slice first 96 ≡ head = sectors_joined slice first bytes 0 96 (λ k from below. heads k (omega arith)) in
    let field : (at size : ℕ) → at + size ≤ 512 * 96 → bytes_at at size head ≡ bytes_at at size bytes = λ at size within. bytes_at-take at size (512 * 96) bytes within in
    let count_is : number_at 12 4 head ≡ count = number_same 12 4 head bytes (field 12 4 (lit≤ tt)) in
    let by_head : record_of number slice
    ≡ record_with number head (number_at 12 4 head) (log_bytes slice first (96 + number_at 12 4 head)) (map (target_at slice first head) (range_with_len 0 (number_at 12 4 head))) =
    ap (λ (xs : List ℕ). record_with number xs (number_at 12 4 xs) (log_bytes slice first (96 + number_at 12 4 xs)) (map (target_at slice first xs) (range_with_len 0 (number_at 12 4 xs)))) head_is in
    let by_count : record_with number head (number_at 12 4 head) (log_bytes slice first (96 + number_at 12 4 head)) (map (target_at slice first head) (range_with_len 0 (number_at 12 4 head)))
    ≡ record_with number head count (log_bytes slice first (96 + count)) (map (target_at slice first head) (range_with_len 0 count)) =
    ap (λ (n : ℕ). record_with number head n (log_bytes slice first (96 + n)) (map (target_at slice first head) (range_with_len 0 n))) count_is in
    let few : count ≤ 3996 → record_with number head count (log_bytes slice first (96 + count)) (map (target_at slice first head) (range_with_len 0 count)) ≡ record_says number bytes =
    λ few.
    let used_is : log_bytes slice first (96 + count) ≡ take (512 * (96 + count)) bytes = sectors_joined slice first bytes 0 (96 + count) (λ k from below. all few k (omega arith)) in
    let targets_are : map (target_at slice first head) (range_with_len 0 count) ≡ targets_in bytes count =
    map_range_same (target_at slice first head) (target_in bytes) 0 count
    (λ k from below.
    let there : first + 96 + k ≡ first + (96 + k) = omega arith in
    λ i. target
    (number_same (64 + 12 * k) 4 head bytes (field (64 + 12 * k) 4 (omega arith)) i)
    (number_same (68 + 12 * k) 8 head bytes (field (68 + 12 * k) 8 (omega arith)) i)
    ((ap slice there ∙ all few (96 + k) (omega arith)) i)) in
    λ i. record_if
    (bytes_eq (field 0 8 (lit≤ tt) i) (codes "SHRBODY1"))
    (number_same 16 8 head bytes (field 16 8 (lit≤ tt)) i == number)
    (number_same 8 4 head bytes (field 8 4 (lit≤ tt)) i)
    count (used_is i) (targets_are i) in
    by_head ∙ by_count
    ∙ elim (cases_Bool (nat_le count 3996)) [
      | inl is ↦ few (leb-true count 3996 is)
      | inr beyond ↦
          none_beyond (bytes_eq (bytes_at 0 8 head) (codes "SHRBODY1")) (number_at 16 8 head == number) (number_at 8 4 head) count (log_bytes slice first (96 + count)) (map (target_at slice first head) (range_with_len 0 count)) beyond
          ∙ sym (none_beyond (bytes_eq (bytes_at 0 8 bytes) (codes "SHRBODY1")) (number_at 16 8 bytes == number) (number_at 8 4 bytes) count (take (512 * (96 + count)) bytes) (targets_in bytes count) beyond)
    ]

-- a sealed record in its half is there
pub sealed_record : (number count : ℕ) (slice : ℕ → List ℕ) (bytes : List ℕ) → IsSealed number count bytes
    → ((k : ℕ) → k < 96 + count → slice (half_of number + k) ≡ sector_in bytes k)
    → list_all is_target (targets_in bytes count) ≡ true → are_apart (targets_in bytes count) ≡ true
    → record_of number slice ≡ Some (targets_in bytes count)
sealed_record number count slice bytes sealed sectors valid apart =
    let n : number_at 12 4 bytes ≡ count = sealed.counted in
    record_by_bytes number slice bytes (λ k below. sectors k (omega arith)) (λ few k below. sectors k (omega (arith, n)))
    ∙ ap (λ (m : ℕ). record_with number bytes m (take (512 * (96 + m)) bytes) (targets_in bytes m)) n
    ∙ cond-true _ (Some (targets_in bytes count)) None
    (and_from _ _ (ap (λ (xs : List ℕ). bytes_eq xs (codes "SHRBODY1")) sealed.word)
    (and_from _ _ (eq-eqb _ _ sealed.numbered)
    (and_from _ _ (le-leb 1 count sealed.some)
    (and_from _ _ (le-leb count 3996 sealed.few)
    (and_from _ _ (eq-eqb _ _ sealed.summed) (and_from _ _ valid apart))))))

-- a record goes by its half
sectors_same : (slice other : ℕ → List ℕ) (first i n : ℕ) → ((k : ℕ) → i ≤ k → k < i + n → slice (first + k) ≡ other (first + k))
    → flat_map (λ s. slice (first + s)) (range_with_len i n) ≡ flat_map (λ s. other (first + s)) (range_with_len i n)
sectors_same slice other first i zero same = refl
sectors_same slice other first i (suc n) same =
    ap₂ (λ (xs ys : List ℕ). xs ++ ys) (same i (omega arith) (omega arith))
    (sectors_same slice other first (i + 1) n (λ k from below. same k (omega arith) (omega arith)))

abbrev record_at : ℕ → (ℕ → List ℕ) → List ℕ → Option (List Target)
record_at number slice head =
    record_with number head (number_at 12 4 head) (log_bytes slice (half_of number) (96 + number_at 12 4 head))
    (map (target_at slice (half_of number) head) (range_with_len 0 (number_at 12 4 head)))

pub record_same : (number : ℕ) (slice other : ℕ → List ℕ) → ((k : ℕ) → k < 4092 → slice (half_of number + k) ≡ other (half_of number + k))
    → record_of number slice ≡ record_of number other
unfolding record_of
record_same number slice other same =
    let first : ℕ = half_of number in
    let head : List ℕ = log_bytes other first 96 in
    let count : ℕ = number_at 12 4 head in
    let head_is : log_bytes slice first 96 ≡ head = sectors_same slice other first 0 96 (λ k from below. same k (omega arith)) in
    let few : count ≤ 3996 → record_at number slice head ≡ record_at number other head =
    λ few.
    let used_is : log_bytes slice first (96 + count) ≡ log_bytes other first (96 + count) = sectors_same slice other first 0 (96 + count) (λ k from below. same k (omega arith)) in
    let targets_are : map (target_at slice first head) (range_with_len 0 count) ≡ map (target_at other first head) (range_with_len 0 count) =
    map_range_same (target_at slice first head) (target_at other first head) 0 count
    (λ k from below.
    let there : first + 96 + k ≡ first + (96 + k) = omega arith in
    λ i. target (number_at (64 + 12 * k) 4 head) (number_at (68 + 12 * k) 8 head) ((ap slice there ∙ same (96 + k) (omega arith) ∙ ap other (sym there)) i)) in
    λ i. record_with number head count (used_is i) (targets_are i) in
    ap (record_at number slice) head_is
    ∙ elim (cases_Bool (nat_le count 3996)) [
      | inl is ↦ few (leb-true count 3996 is)
      | inr beyond ↦
          none_beyond (bytes_eq (bytes_at 0 8 head) (codes "SHRBODY1")) (number_at 16 8 head == number) (number_at 8 4 head) count (log_bytes slice first (96 + count)) (map (target_at slice first head) (range_with_len 0 count)) beyond
          ∙ sym (none_beyond (bytes_eq (bytes_at 0 8 head) (codes "SHRBODY1")) (number_at 16 8 head == number) (number_at 8 4 head) count (log_bytes other first (96 + count)) (map (target_at other first head) (range_with_len 0 count)) beyond)
    ]
