-- Entries written one after the other, each in the place of its number.
use Rattle.std.proofs.Common.{◌≡◌, ℕ, zero, suc, ◌+◌, ◌-◌, ◌*◌, ◌<◌, ◌≤◌, Bool, true, false, cond, List, [], ◌∷◌, ◌++◌, length, take, get_or, replicate, filter_map, find, Option, Some, None, All, refl, sym, ap, ◌∙◌, arith, ⊎_elim, subst, if◌then◌else◌}
use Rattle.std.specs.List.{range_with_len}
use Rattle.std.proofs.lemmas.Bool.{le-leb, or_left, or_right, and_from, cases_eq, eq-eqb, ne_eqb, cases_lt, cases_Bool, cond-true, cond-false}
use Rattle.std.proofs.lemmas.Option.{none-some}
use Rattle.std.proofs.lemmas.List.{take_more, take_all}
use Rattle.std.proofs.lemmas.List.Elements.{All-nil, All-head, All-tail, All-weaker}
use Rattle.shr_base.specs.Blocks.{bytes_at, put_at, Write}
use Rattle.shr_base.proofs.Blocks.{bytes_at-field, bytes_at-put_all, bytes_at-zeros, is_apart, are_laid_out}
use Rattle.gpt_table.specs.declared.Entry.{Entry}
use Rattle.gpt_table.specs.declared.Slice.{Slice}
use Rattle.gpt_table.specs.Format.{slot_of, slot_bytes, slice_of, numbered, written_slot, is_unused, entry_of, entries_of, Ascends}

-- the slot that was written
pub slot_here : (k : ℕ) (slot block : List ℕ) → length block ≡ 16384 → k < 128 → length slot ≡ 128 →
    slot_of k (put_at (128 * k) 128 slot block) ≡ slot
slot_here k slot block long inside wide =
    let fields : List Write = record { offset = 128 * k; width = 128; bytes = slot } ∷ [] in
    let laid_out : are_laid_out 16384 fields ≡ true =
    and_from _ _ (le-leb (128 * k + 128) 16384 (omega arith)) refl in
    bytes_at-field 0 16384 fields block long laid_out (wide, tt)

-- another one
pub slot_elsewhere : (j k : ℕ) (slot block : List ℕ) → length block ≡ 16384 → k < 128 → length slot ≡ 128 → (j ≡ k → ⊥) →
    slot_of j (put_at (128 * k) 128 slot block) ≡ slot_of j block
slot_elsewhere j k slot block long inside wide other =
    let fields : List Write = record { offset = 128 * k; width = 128; bytes = slot } ∷ [] in
    let laid_out : are_laid_out 16384 fields ≡ true =
    and_from _ _ (le-leb (128 * k + 128) 16384 (omega arith)) refl in
    let apart : is_apart (128 * j) 128 fields ≡ true =
    and_from _ _
    (⊎_elim (λ (l : j < k). or_left _ _ (le-leb (128 * j + 128) (128 * k) (omega arith)))
    (λ (l : k ≤ j). let above : k < j = omega arith in or_right _ _ (le-leb (128 * k + 128) (128 * j) (omega arith)))
    (cases_lt j k))
    refl in
    bytes_at-put_all 16384 (128 * j) 128 fields block long apart laid_out (wide, tt)

-- each slot of zeros is zeros
pub blank_slot : (k : ℕ) → k < 128 → slot_of k (replicate 16384 0) ≡ replicate 128 0
blank_slot k inside = bytes_at-zeros 16384 (128 * k) 128 [] (omega arith) refl refl tt

-- an entry of zeros isn't in use
pub blank_entry : (k : ℕ) → k < 128 → entry_of (replicate 16384 0) k ≡ None
blank_entry k inside =
    let slot : slot_of k (replicate 16384 0) ≡ replicate 128 0 = blank_slot k inside in
    let kind : bytes_at 0 16 (replicate 128 0) ≡ replicate 16 0 = bytes_at-zeros 128 0 16 [] (omega arith) refl refl tt in
    rw (slot, kind)

-- an entry in use
pub entry_here : (k : ℕ) (bytes slot : List ℕ) (entry : Entry) → slot_of k bytes ≡ slot → is_unused slot ≡ false →
    slice_of slot ≡ entry.slice → entry.number ≡ k + 1 → entry_of bytes k ≡ Some entry
entry_here k bytes slot entry is used said number =
    rw (is, used) (ap (λ (s : Slice). let e : Entry = record { number = k + 1; slice = s } in Some e) said
    ∙ ap (λ (n : ℕ). let e : Entry = record { number = n; slice = entry.slice } in Some e) (sym number))

some_is_not_none : (x : Entry) → Some x ≡ None → ⊥
some_is_not_none x same = none-some x (sym same)

-- a search one element further
find_push : (p : Entry → Bool) (xs : List Entry) (e : Entry) → find p xs ≡ None → p e ≡ true → find p (xs ++ e ∷ []) ≡ Some e
find_push p [] e none here = rw here
find_push p (x ∷ xs) e none here =
    ⊎_elim (λ (t : p x ≡ true). absurd (some_is_not_none x (sym (cond-true (p x) (Some x) (find p xs) t) ∙ none)))
    (λ (t : p x ≡ false). rw t (find_push p xs e (sym (cond-false (p x) (Some x) (find p xs) t) ∙ none) here))
    (cases_Bool (p x))

find_push_other : (p : Entry → Bool) (xs : List Entry) (e : Entry) → p e ≡ false → find p (xs ++ e ∷ []) ≡ find p xs
find_push_other p [] e other = rw other
find_push_other p (x ∷ xs) e other =
    ap (λ (o : Option Entry). cond (p x) (Some x) o) (find_push_other p xs e other)

-- entries behind one have higher numbers
pub above_all : (a j : ℕ) (es : List Entry) (d : Entry) → Ascends a es → j < length es → a < (get_or es j d).number
above_all a j [] d ascends inside = absurd (omega arith)
above_all a zero (e ∷ es) d ascends inside = ascends.0
above_all a (suc j) (e ∷ es) d ascends inside =
    let later = above_all e.number j es d ascends.1 (omega arith) in omega (arith, ascends.0)

-- no entry before one has its number
none_before : (a i : ℕ) (es : List Entry) (d : Entry) → Ascends a es → i < length es →
    find (numbered (get_or es i d).number) (take i es) ≡ None
none_before a i [] d ascends inside = absurd (omega arith)
none_before a zero (e ∷ es) d ascends inside = refl
none_before a (suc j) (e ∷ es) d ascends inside =
    let higher = above_all e.number j es d ascends.1 (omega arith) in
    let other : numbered (get_or es j d).number e ≡ false = ne_eqb e.number (get_or es j d).number (λ same. absurd (omega arith)) in
    rw other (none_before e.number j es d ascends.1 (omega arith))

none_low_from : (n a : ℕ) (es : List Entry) → n ≤ a → Ascends a es → find (numbered n) es ≡ None
none_low_from n a [] low ascends = refl
none_low_from n a (e ∷ es) low ascends =
    let other : numbered n e ≡ false = ne_eqb e.number n (λ same. absurd (omega (arith, ascends.0))) in
    rw other (none_low_from n e.number es (omega (arith, ascends.0)) ascends.1)

-- no entry has a number that all are above
none_low : (a : ℕ) (es : List Entry) → Ascends a es → find (numbered a) es ≡ None
none_low a [] ascends = refl
none_low a (e ∷ es) ascends =
    let other : numbered a e ≡ false = ne_eqb e.number a (λ same. absurd (omega (arith, ascends.0))) in
    rw other (none_low_from a e.number es (omega (arith, ascends.0)) ascends.1)

-- what an entry says, by its slot
abbrev pub entry_in : List ℕ → ℕ → Option Entry
entry_in slot k = if is_unused slot then None else Some (record { number = k + 1; slice = slice_of slot })

-- the step of a loop that writes one entry after the other
pub entry_written : (entries : List Entry) (i k : ℕ) (d : Entry) (slot old new : List ℕ) → Ascends 0 entries → i < length entries →
    (get_or entries i d).number ≤ 128 → length slot ≡ 128 → length old ≡ 16384 →
    new ≡ put_at (128 * ((get_or entries i d).number - 1)) 128 slot old →
    is_unused slot ≡ false → slice_of slot ≡ (get_or entries i d).slice →
    k < 128 → entry_of old k ≡ find (numbered (k + 1)) (take i entries) →
    entry_of new k ≡ find (numbered (k + 1)) (take (i + 1) entries)
entry_written entries i k d slot old new ascends inside low wide long is used said below before =
    let e : Entry = get_or entries i d in
    let high : 0 < e.number = above_all 0 i entries d ascends inside in
    let more : take (i + 1) entries ≡ take i entries ++ e ∷ [] = take_more entries i d inside in
    ⊎_elim
    (λ (here : k ≡ e.number - 1).
    let number : e.number ≡ k + 1 = omega arith in
    let slot_is : slot_of k new ≡ slot =
    ap (slot_of k) is ∙ ap (λ (n : ℕ). slot_of n (put_at (128 * (e.number - 1)) 128 slot old)) here
    ∙ slot_here (e.number - 1) slot old long (omega arith) wide in
    let none : find (numbered (k + 1)) (take i entries) ≡ None =
    ap (λ (n : ℕ). find (numbered n) (take i entries)) (sym number) ∙ none_before 0 i entries d ascends inside in
    entry_here k new slot e slot_is used said number
    ∙ sym (ap (find (numbered (k + 1))) more ∙ find_push (numbered (k + 1)) (take i entries) e none (eq-eqb e.number (k + 1) number)))
    (λ (there : k ≡ e.number - 1 → ⊥).
    let same : slot_of k new ≡ slot_of k old =
    ap (slot_of k) is ∙ slot_elsewhere k (e.number - 1) slot old long (omega arith) wide there in
    let other : numbered (k + 1) e ≡ false = ne_eqb e.number (k + 1) (λ eq. there (omega arith)) in
    ap (λ (s : List ℕ). entry_in s k) same ∙ before
    ∙ sym (ap (find (numbered (k + 1))) more ∙ find_push_other (numbered (k + 1)) (take i entries) e other))
    (cases_eq k (e.number - 1))

-- and of the slots that it writes
pub slot_written : (entries : List Entry) (i k : ℕ) (d : Entry) (slot old new : List ℕ) → Ascends 0 entries → i < length entries →
    (get_or entries i d).number ≤ 128 → length slot ≡ 128 → length old ≡ 16384 →
    new ≡ put_at (128 * ((get_or entries i d).number - 1)) 128 slot old → slot ≡ slot_bytes (get_or entries i d).slice →
    k < 128 → slot_of k old ≡ written_slot (find (numbered (k + 1)) (take i entries)) →
    slot_of k new ≡ written_slot (find (numbered (k + 1)) (take (i + 1) entries))
slot_written entries i k d slot old new ascends inside low wide long is said below before =
    let e : Entry = get_or entries i d in
    let high : 0 < e.number = above_all 0 i entries d ascends inside in
    let more : take (i + 1) entries ≡ take i entries ++ e ∷ [] = take_more entries i d inside in
    ⊎_elim
    (λ (here : k ≡ e.number - 1).
    let number : e.number ≡ k + 1 = omega arith in
    let none : find (numbered (k + 1)) (take i entries) ≡ None =
    ap (λ (n : ℕ). find (numbered n) (take i entries)) (sym number) ∙ none_before 0 i entries d ascends inside in
    ap (slot_of k) is ∙ ap (λ (n : ℕ). slot_of n (put_at (128 * (e.number - 1)) 128 slot old)) here
    ∙ slot_here (e.number - 1) slot old long (omega arith) wide ∙ said
    ∙ sym (ap written_slot (ap (find (numbered (k + 1))) more
    ∙ find_push (numbered (k + 1)) (take i entries) e none (eq-eqb e.number (k + 1) number))))
    (λ (there : k ≡ e.number - 1 → ⊥).
    let other : numbered (k + 1) e ≡ false = ne_eqb e.number (k + 1) (λ eq. there (omega arith)) in
    ap (slot_of k) is ∙ slot_elsewhere k (e.number - 1) slot old long (omega arith) wide there ∙ before
    ∙ sym (ap written_slot (ap (find (numbered (k + 1))) more ∙ find_push_other (numbered (k + 1)) (take i entries) e other)))
    (cases_eq k (e.number - 1))

-- the entries by their numbers are the entries
pub by_number : (a n : ℕ) (es : List Entry) (f : ℕ → Option Entry) → Ascends a es → All (λ e. e.number ≤ a + n) es →
    ((k : ℕ) → a ≤ k → k < a + n → f k ≡ find (numbered (k + 1)) es) → filter_map f (range_with_len a n) ≡ es
by_number a zero [] f ascends low reads = refl
by_number a zero (e ∷ es) f ascends low reads = absurd (omega (arith, ascends.0, All-head (λ e. e.number ≤ a + 0) e es low))
by_number a (suc n) [] f ascends low reads =
    let none : f a ≡ None = reads a (omega arith) (omega arith) in
    let rest : filter_map f (range_with_len (a + 1) n) ≡ [] =
    by_number (a + 1) n [] f tt (All-nil (λ e. e.number ≤ a + 1 + n)) (λ k l h. reads k (omega arith) (omega arith)) in
    rw none rest
by_number a (suc n) (e ∷ es) f ascends low reads =
    ⊎_elim
    (λ (here : e.number ≡ a + 1).
    let first : f a ≡ Some e =
    reads a (omega arith) (omega arith) ∙ cond-true (numbered (a + 1) e) (Some e) (find (numbered (a + 1)) es) (eq-eqb e.number (a + 1) here) in
    let rest : filter_map f (range_with_len (a + 1) n) ≡ es =
    by_number (a + 1) n es f (subst (λ (m : ℕ). Ascends m es) here ascends.1)
    (All-weaker (λ x. x.number ≤ a + suc n) (λ x. x.number ≤ a + 1 + n) (λ x h. omega arith) es (All-tail (λ x. x.number ≤ a + suc n) e es low))
    (λ k l h. reads k (omega arith) (omega arith)
    ∙ cond-false (numbered (k + 1) e) (Some e) (find (numbered (k + 1)) es) (ne_eqb e.number (k + 1) (λ same. absurd (omega arith)))) in
    rw (first, rest))
    (λ (there : e.number ≡ a + 1 → ⊥).
    let further : a + 1 < e.number = omega (arith, ascends.0) in
    let next : Ascends (a + 1) (e ∷ es) = (further, ascends.1) in
    let first : f a ≡ None = reads a (omega arith) (omega arith) ∙ none_low (a + 1) (e ∷ es) next in
    let rest : filter_map f (range_with_len (a + 1) n) ≡ e ∷ es =
    by_number (a + 1) n (e ∷ es) f next
    (All-weaker (λ x. x.number ≤ a + suc n) (λ x. x.number ≤ a + 1 + n) (λ x h. omega arith) (e ∷ es) low)
    (λ k l h. reads k (omega arith) (omega arith)) in
    rw (first, rest))
    (cases_eq e.number (a + 1))

-- once all are written, the entries that are read are they
pub all_read : (bytes : List ℕ) (items : List Entry) (i : ℕ) → Ascends 0 items → All (λ e. e.number ≤ 128) items → length items ≤ i →
    ((k : ℕ) → k < 128 → entry_of bytes k ≡ find (numbered (k + 1)) (take i items)) → entries_of bytes ≡ items
unfolding entries_of
all_read bytes items i ascends low ended reads =
    by_number 0 128 items (entry_of bytes) ascends low
    (λ k l h. reads k h ∙ ap (find (numbered (k + 1))) (take_all i items ended))
