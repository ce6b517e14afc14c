-- What was read of a valid copy can be written.
use Rattle.std.proofs.Common.{◌≡◌, ℕ, zero, suc, ◌+◌, ◌<◌, ◌≤◌, ◌==◌, ◌&&◌, Bool, true, false, List, [], ◌∷◌, ◌++◌, take, drop, reverse, nat_le, filter_map, Option, Some, None, All, refl, sym, ap, subst, ◌∙◌, arith, ⊎_elim, IfSome}
use Rattle.std.specs.List.{range_with_len, list_all}
use Rattle.std.proofs.lemmas.Bool.{and_parts, and_from, cases_Bool, cond-true, cond-false, leb-true, both_ways, false_from_ne_true}
use Rattle.std.proofs.lemmas.Option.{none-some, same_Some, cond_some}
use Rattle.std.proofs.lemmas.List.{take-append-drop, reverse-append, drop-drop}
use Rattle.std.proofs.lemmas.List.Folds.{list_all-append}
use Rattle.std.proofs.lemmas.List.Elements.{All-nil, All-cons}
use Rattle.shr_base.specs.Blocks.{bytes_at}
use Rattle.shr_base.specs.Ids.{guid_order}
use Rattle.gpt_table.specs.declared.Entry.{Entry}
use Rattle.gpt_table.specs.declared.Table.{Table}
use Rattle.gpt_table.specs.declared.TableCopy.{TableCopy}
use Rattle.gpt_table.specs.Format.{slot_of, is_unused, slice_of, entry_of, entries_of, is_inside, is_valid, table_of, Ascends, IsWritable, IsWritableOn}
use Rattle.gpt_table.proofs.Decoded.{said}

-- entries found one number after the other ascend
lower : (a b : ℕ) (entries : List Entry) → a ≤ b → Ascends b entries → Ascends a entries
lower a b [] below ascends = tt
lower a b (e ∷ es) below ascends = (omega (arith, ascends.0), ascends.1)

ascends_next : (f : ℕ → Option Entry) (a n : ℕ) (o : Option Entry) → ((e : Entry) → o ≡ Some e → e.number ≡ a + 1) →
    Ascends (a + 1) (filter_map f (range_with_len (a + 1) n)) → f a ≡ o → Ascends a (filter_map f (a ∷ range_with_len (a + 1) n))
ascends_next f a n None numbers rest is = rw is (lower a (a + 1) (filter_map f (range_with_len (a + 1) n)) (omega arith) rest)
ascends_next f a n (Some e) numbers rest is =
    let number : e.number ≡ a + 1 = numbers e refl in
    let above : a < e.number = omega arith in
    rw is (above, subst (λ (m : ℕ). Ascends m (filter_map f (range_with_len (a + 1) n))) (sym number) rest)

ascending : (f : ℕ → Option Entry) → ((k : ℕ) (e : Entry) → f k ≡ Some e → e.number ≡ k + 1) → (a n : ℕ) →
    Ascends a (filter_map f (range_with_len a n))
ascending f numbers a zero = tt
ascending f numbers a (suc n) = ascends_next f a n (f a) (numbers a) (ascending f numbers (a + 1) n) refl

-- what holds of each entry that may be found holds of those found
found_next : (f : ℕ → Option Entry) (P : Entry → Type 0) (a n : ℕ) (o : Option Entry) → ((e : Entry) → o ≡ Some e → P e) →
    All P (filter_map f (range_with_len (a + 1) n)) → f a ≡ o → All P (filter_map f (a ∷ range_with_len (a + 1) n))
found_next f P a n None each rest is = rw is rest
found_next f P a n (Some e) each rest is = rw is (All-cons P e (filter_map f (range_with_len (a + 1) n)) (each e refl) rest)

all_found : (f : ℕ → Option Entry) (P : Entry → Type 0) (a n : ℕ) → ((k : ℕ) (e : Entry) → k < a + n → f k ≡ Some e → P e) →
    All P (filter_map f (range_with_len a n))
all_found f P a zero each = All-nil P
all_found f P a (suc n) each =
    found_next f P a n (f a) (λ e found. each a e (omega arith) found)
    (all_found f P (a + 1) n (λ k e below found. each k e (omega arith) found)) refl

-- an entry is in use, and has its number
found_number : (bytes : List ℕ) (k : ℕ) (e : Entry) → entry_of bytes k ≡ Some e → e.number ≡ k + 1
found_number bytes k e found =
    ⊎_elim
    (λ (t : is_unused (slot_of k bytes) ≡ true). absurd (none-some e (sym (cond-true _ None _ t) ∙ found)))
    (λ (t : is_unused (slot_of k bytes) ≡ false).
    sym (ap (λ (x : Entry). x.number) (same_Some _ e (sym (cond-false _ None _ t) ∙ found))))
    (cases_Bool (is_unused (slot_of k bytes)))

-- zeros in another order are zeros
zeros_reversed : (xs : List ℕ) → list_all (λ b. b == 0) (reverse xs) ≡ true → list_all (λ b. b == 0) xs ≡ true
zeros_reversed [] zeros = refl
zeros_reversed (x ∷ xs) zeros =
    let split : (list_all (λ b. b == 0) (reverse xs) && list_all (λ b. b == 0) (x ∷ [])) ≡ true =
    sym (list_all-append (λ b. b == 0) (reverse xs) (x ∷ [])) ∙ ap (list_all (λ b. b == 0)) (sym (reverse-append (x ∷ []) xs)) ∙ zeros in
    let parts = and_parts (list_all (λ b. b == 0) (reverse xs)) (list_all (λ b. b == 0) (x ∷ [])) split in
    let here = and_parts (x == 0) true parts.1 in
    and_from (x == 0) (list_all (λ b. b == 0) xs) here.0 (zeros_reversed xs parts.0)

zeros_split : (xs ys : List ℕ) → list_all (λ b. b == 0) (xs ++ ys) ≡ true → (list_all (λ b. b == 0) xs ≡ true) × (list_all (λ b. b == 0) ys ≡ true)
zeros_split xs ys zeros = and_parts _ _ (sym (list_all-append (λ b. b == 0) xs ys) ∙ zeros)

zeros_joined : (n : ℕ) (xs : List ℕ) → list_all (λ b. b == 0) (take n xs) ≡ true → list_all (λ b. b == 0) (drop n xs) ≡ true →
    list_all (λ b. b == 0) xs ≡ true
zeros_joined n xs front back =
    ap (list_all (λ b. b == 0)) (sym (take-append-drop n xs)) ∙ list_all-append (λ b. b == 0) (take n xs) (drop n xs) ∙ and_from _ _ front back

zeros_ordered : (bytes : List ℕ) → list_all (λ b. b == 0) (guid_order bytes) ≡ true → list_all (λ b. b == 0) bytes ≡ true
zeros_ordered bytes zeros =
    let first = reverse (take 4 bytes) in
    let second = reverse (take 2 (drop 4 bytes)) in
    let third = reverse (take 2 (drop 6 bytes)) in
    let one = zeros_split ((first ++ second) ++ third) (drop 8 bytes) zeros in
    let two = zeros_split (first ++ second) third one.0 in
    let three = zeros_split first second two.0 in
    let from_six : list_all (λ b. b == 0) (drop 6 bytes) ≡ true =
    zeros_joined 2 (drop 6 bytes) (zeros_reversed (take 2 (drop 6 bytes)) two.1)
    (ap (list_all (λ b. b == 0)) (drop-drop 2 6 bytes) ∙ one.1) in
    let from_four : list_all (λ b. b == 0) (drop 4 bytes) ≡ true =
    zeros_joined 2 (drop 4 bytes) (zeros_reversed (take 2 (drop 4 bytes)) three.1)
    (ap (list_all (λ b. b == 0)) (drop-drop 2 4 bytes) ∙ from_six) in
    zeros_joined 4 bytes (zeros_reversed (take 4 bytes) three.0) from_four

-- an entry in use has a type
found_used : (bytes : List ℕ) (k : ℕ) (e : Entry) → entry_of bytes k ≡ Some e → list_all (λ b. b == 0) e.slice.kind.0 ≡ false
unfolding slice_of
found_used bytes k e found =
    ⊎_elim
    (λ (t : is_unused (slot_of k bytes) ≡ true). absurd (none-some e (sym (cond-true _ None _ t) ∙ found)))
    (λ (t : is_unused (slot_of k bytes) ≡ false).
    let is : guid_order (bytes_at 0 16 (slot_of k bytes)) ≡ e.slice.kind.0 =
    ap (λ (x : Entry). x.slice.kind.0) (same_Some _ e (sym (cond-false _ None _ t) ∙ found)) in
    false_from_ne_true _
    (λ zeros. both_ways (is_unused (slot_of k bytes)) t
    (zeros_ordered (bytes_at 0 16 (slot_of k bytes)) (ap (list_all (λ b. b == 0)) is ∙ zeros))))
    (cases_Bool (is_unused (slot_of k bytes)))

-- a test of a whole list is one of each element
each_passes : (test : Entry → Bool) (es : List Entry) → list_all test es ≡ true → All (λ e. test e ≡ true) es
each_passes test [] all = All-nil (λ e. test e ≡ true)
each_passes test (e ∷ es) all =
    let parts = and_parts (test e) (list_all test es) all in
    All-cons (λ x. test x ≡ true) e es parts.0 (each_passes test es parts.1)

-- what a valid copy says can be written
said_writable : (copy : TableCopy) (sectors : ℕ) (header bytes : List ℕ) → is_valid copy sectors header bytes ≡ true → IsWritable (said sectors header bytes)
unfolding entries_of
said_writable copy sectors header bytes valid =
    let inside = and_parts _ _ valid in
    let sum = and_parts _ _ inside.0 in
    let room = and_parts (nat_le 67 sectors) _ sum.0 in
    record {
      room = leb-true 67 sectors room.0;
      ascending = ascending (entry_of bytes) (found_number bytes) 0 128;
      numbered = all_found (entry_of bytes) (λ e. e.number ≤ 128) 0 128 (λ k e below found. let is = found_number bytes k e found in omega (arith, is, below));
      used = all_found (entry_of bytes) (λ e. list_all (λ b. b == 0) e.slice.kind.0 ≡ false) 0 128 (λ k e below found. found_used bytes k e found);
      inside = each_passes (λ e. is_inside sectors e.slice) (filter_map (entry_of bytes) (range_with_len 0 128)) inside.1;
    }

pub if_writable : (copy : TableCopy) (sectors : ℕ) (header bytes : List ℕ) (table : Option Table) → table ≡ table_of copy sectors header bytes →
    IfSome table (λ t. IsWritableOn sectors t)
if_writable copy sectors header bytes None is = tt
if_writable copy sectors header bytes (Some t) is =
    let both = cond_some (is_valid copy sectors header bytes) (said sectors header bytes) t (sym is) in
    subst (λ (x : Table). IsWritableOn sectors x) both.1
    (record { size = refl; writable = said_writable copy sectors header bytes both.0 })
