-- Entries chosen from a list, one after the other.
use Rattle.std.proofs.Common.{◌≡◌, ℕ, ◌+◌, ◌<◌, ◌≤◌, ◌==◌, Bool, true, false, cond, List, [], ◌∷◌, length, take, drop, get_or, filter, All, refl, sym, ap, ◌∙◌, arith, length-append, ⊎_elim}
use Rattle.std.specs.List.{list_all}
use Rattle.std.proofs.lemmas.Bool.{cases_Bool, cases_lt, cond-false, lt-ltb, le-ltb, ltb-true}
use Rattle.std.proofs.lemmas.List.{take-append-drop}
use Rattle.std.proofs.lemmas.List.Elements.{filter-append, filter_passes, All-head, All-tail, All-cons, All-append, All-filter}
use Rattle.std.proofs.lemmas.List.Filters.{length-filter_more}
use Rattle.gpt_table.specs.declared.Entry.{Entry}
use Rattle.gpt_table.specs.declared.Table.{Table}
use Rattle.gpt_table.specs.Format.{Ascends, IsWritable, is_inside}
use Rattle.gpt_table.specs.Changes.{is_below, is_above, with_entry, changed}

-- before one that is chosen, fewer were than in all
pub fewer_chosen : (test : Entry → Bool) (xs : List Entry) (i : ℕ) (d : Entry) → i < length xs → test (get_or xs i d) ≡ true →
    length (filter test (take i xs)) < length (filter test xs)
fewer_chosen test xs i d inside here =
    let whole : length (filter test xs) ≡ length (filter test (take (i + 1) xs)) + length (filter test (drop (i + 1) xs)) =
    ap (λ (ys : List Entry). length (filter test ys)) (sym (take-append-drop (i + 1) xs))
    ∙ ap length (filter-append test (take (i + 1) xs) (drop (i + 1) xs))
    ∙ length-append (filter test (take (i + 1) xs)) (filter test (drop (i + 1) xs)) in
    let more : length (filter test (take (i + 1) xs)) ≡ length (filter test (take i xs)) + 1 =
    length-filter_more test xs i d inside ∙ ap (λ (b : Bool). length (filter test (take i xs)) + cond b 1 0) here in
    omega (arith, whole, more)

-- numbers that ascend up to a last one are no more than that
few_ascending : (a last : ℕ) (es : List Entry) → a ≤ last → Ascends a es → All (λ e. e.number ≤ last) es → a + length es ≤ last
few_ascending a last [] low ascends all = omega arith
few_ascending a last (e ∷ es) low ascends all =
    let rest = few_ascending e.number last es (All-head (λ x. x.number ≤ last) e es all) ascends.1 (All-tail (λ x. x.number ≤ last) e es all) in
    omega (arith, rest, ascends.0)

-- a table that can be written has at most 128 entries
pub few_entries : (table : Table) → IsWritable table → length table.entries.items ≤ 128
few_entries table writable =
    let few = few_ascending 0 128 table.entries.items (omega arith) writable.ascending writable.numbered in omega (arith, few)

-- entries that ascend still do without some
lower : (a b : ℕ) (es : List Entry) → a ≤ b → Ascends b es → Ascends a es
lower a b [] low ascends = tt
lower a b (e ∷ es) low ascends = (omega (arith, ascends.0), ascends.1)

ascends_filter : (test : Entry → Bool) (a : ℕ) (es : List Entry) → Ascends a es → Ascends a (filter test es)
ascends_filter test a [] ascends = tt
ascends_filter test a (e ∷ es) ascends =
    let rest = ascends_filter test e.number es ascends.1 in
    ⊎_elim
    (λ (t : test e ≡ true). rw t (ascends.0, rest))
    (λ (t : test e ≡ false). rw t (lower a e.number (filter test es) (omega (arith, ascends.0)) rest))
    (cases_Bool (test e))

-- entries that are all above a number ascend from it
ascends_from : (n a : ℕ) (es : List Entry) → Ascends a es → All (λ e. is_above n e ≡ true) es → Ascends n es
ascends_from n a [] ascends above = tt
ascends_from n a (e ∷ es) ascends above = (ltb-true n e.number (All-head (λ x. is_above n x ≡ true) e es above), ascends.1)

-- none is below what all are above
none_below : (n b : ℕ) (es : List Entry) → n ≤ b → Ascends b es → filter (is_below n) es ≡ []
none_below n b [] low ascends = refl
none_below n b (e ∷ es) low ascends =
    let high : is_below n e ≡ false = le-ltb e.number n (omega (arith, ascends.0)) in
    rw high (none_below n e.number es (omega (arith, ascends.0)) ascends.1)

-- an entry in its place keeps the entries ascending
ascends_with : (a : ℕ) (e : Entry) (es : List Entry) → a < e.number → Ascends a es → Ascends a (with_entry e es)
ascends_with a e [] above ascends = (above, tt)
ascends_with a e (x ∷ xs) above ascends =
    ⊎_elim
    (λ (l : x.number < e.number).
    let below : is_below e.number x ≡ true = lt-ltb x.number e.number l in
    let low : is_above e.number x ≡ false = le-ltb e.number x.number (omega arith) in
    rw (below, low) (ascends.0, ascends_with x.number e xs l ascends.1))
    (λ (l : e.number ≤ x.number).
    let none : filter (is_below e.number) (x ∷ xs) ≡ [] =
    cond-false (is_below e.number x) (x ∷ filter (is_below e.number) xs) (filter (is_below e.number) xs) (le-ltb x.number e.number l)
    ∙ none_below e.number x.number xs l ascends.1 in
    rw none (
      above,
      ascends_from e.number a (filter (is_above e.number) (x ∷ xs)) (ascends_filter (is_above e.number) a (x ∷ xs) ascends)
          (filter_passes (is_above e.number) (x ∷ xs)),
    ))
    (cases_lt x.number e.number)

-- what holds of an entry and of all others holds of all with it
all_with : (P : Entry → Type 0) (e : Entry) (es : List Entry) → P e → All P es → All P (with_entry e es)
all_with P e es here all =
    All-append P (filter (is_below e.number) es) (e ∷ filter (is_above e.number) es) (All-filter (is_below e.number) P es all)
    (All-cons P e (filter (is_above e.number) es) here (All-filter (is_above e.number) P es all))

-- a table that can be written still can be with an entry that can be
pub changed_writable : (e : Entry) (table : Table) → IsWritable table → 0 < e.number → e.number ≤ 128 →
    list_all (λ byte. byte == 0) e.slice.kind.0 ≡ false → is_inside table.sectors e.slice ≡ true → IsWritable (changed e table)
changed_writable e table writable low high used inside = record {
  room = writable.room;
  ascending = ascends_with 0 e table.entries.items low writable.ascending;
  numbered = all_with (λ x. x.number ≤ 128) e table.entries.items high writable.numbered;
  used = all_with (λ x. list_all (λ byte. byte == 0) x.slice.kind.0 ≡ false) e table.entries.items used writable.used;
  inside = all_with (λ x. is_inside table.sectors x.slice ≡ true) e table.entries.items inside writable.inside;
}
