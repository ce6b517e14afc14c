-- Tables that are equal field by field are the same.
use Rattle.std.proofs.Common.{◌≡◌, ℕ, ◌==◌, ◌&&◌, ◌↔◌, Bool, true, List, [], ◌∷◌, refl, sym, ap, subst, ◌∙◌, eqb-true}
use Rattle.std.proofs.lemmas.Bool.{and_parts, and_from, eq-eqb, both_ways}
use Rattle.std.specs.Cmp.Lexicographic.{pointwise}
use Rattle.gpt_table.specs.declared.Slice.{Slice}
use Rattle.gpt_table.specs.declared.Entry.{Entry}
use Rattle.gpt_table.specs.declared.Table.{Table}

-- lists whose elements are equal in pairs, where equal elements are the same
same_lists : {X : Type 0} (E : X → X → Bool) → ((x y : X) → E x y ≡ true → x ≡ y) → (xs ys : List X) → pointwise E xs ys ≡ true → xs ≡ ys
same_lists E same [] [] equal = refl
same_lists E same [] (y ∷ ys) equal = absurd (both_ways _ refl equal)
same_lists E same (x ∷ xs) [] equal = absurd (both_ways _ refl equal)
same_lists {X} E same (x ∷ xs) (y ∷ ys) equal =
    let parts = and_parts (E x y) (pointwise E xs ys) equal in
    ap (λ (z : X). z ∷ xs) (same x y parts.0) ∙ ap (λ (zs : List X). y ∷ zs) (same_lists E same xs ys parts.1)

lists_equal : {X : Type 0} (E : X → X → Bool) → ((x : X) → E x x ≡ true) → (xs : List X) → pointwise E xs xs ≡ true
lists_equal E equal [] = refl
lists_equal E equal (x ∷ xs) = and_from (E x x) (pointwise E xs xs) (equal x) (lists_equal E equal xs)

same_bytes : (xs ys : List ℕ) → pointwise (λ (m n : ℕ). m == n) xs ys ≡ true → xs ≡ ys
same_bytes = same_lists (λ (m n : ℕ). m == n) (λ m n equal. eqb-true m n equal)

bytes_equal : (xs : List ℕ) → pointwise (λ (m n : ℕ). m == n) xs xs ≡ true
bytes_equal = lists_equal (λ (m n : ℕ). m == n) (λ n. eq-eqb n n refl)

abbrev equal_slices : Slice → Slice → Bool
equal_slices x y =
    pointwise (λ (m n : ℕ). m == n) x.kind.0 y.kind.0
    && (pointwise (λ (m n : ℕ). m == n) x.id.0 y.id.0 && ((x.first == y.first) && (x.last == y.last)))

abbrev equal_entries : Entry → Entry → Bool
equal_entries x y = (x.number == y.number) && equal_slices x.slice y.slice

abbrev equal_tables : Table → Table → Bool
equal_tables t u =
    pointwise (λ (m n : ℕ). m == n) t.disk_id.0 u.disk_id.0
    && ((t.sectors == u.sectors) && pointwise equal_entries t.entries.items u.entries.items)

-- slices and entries
same_slices : (x y : Slice) → equal_slices x y ≡ true → x ≡ y
same_slices x y equal =
    let one = and_parts _ _ equal in
    let two = and_parts _ _ one.1 in
    let three = and_parts (x.first == y.first) (x.last == y.last) two.1 in
    ap (λ (k : List ℕ). let s : Slice = record { kind = record { 0 = k }; id = x.id; first = x.first; last = x.last } in s) (same_bytes x.kind.0 y.kind.0 one.0)
    ∙ ap (λ (i : List ℕ). let s : Slice = record { kind = y.kind; id = record { 0 = i }; first = x.first; last = x.last } in s) (same_bytes x.id.0 y.id.0 two.0)
    ∙ ap (λ (n : ℕ). let s : Slice = record { kind = y.kind; id = y.id; first = n; last = x.last } in s) (eqb-true x.first y.first three.0)
    ∙ ap (λ (n : ℕ). let s : Slice = record { kind = y.kind; id = y.id; first = y.first; last = n } in s) (eqb-true x.last y.last three.1)

same_entries : (x y : Entry) → equal_entries x y ≡ true → x ≡ y
same_entries x y equal =
    let parts = and_parts (x.number == y.number) (equal_slices x.slice y.slice) equal in
    ap (λ (n : ℕ). let e : Entry = record { number = n; slice = x.slice } in e) (eqb-true x.number y.number parts.0)
    ∙ ap (λ (s : Slice). let e : Entry = record { number = y.number; slice = s } in e) (same_slices x.slice y.slice parts.1)

entry_equal : (x : Entry) → equal_entries x x ≡ true
entry_equal x =
    and_from _ _ (eq-eqb x.number x.number refl)
    (and_from _ _ (bytes_equal x.slice.kind.0)
    (and_from _ _ (bytes_equal x.slice.id.0) (and_from _ _ (eq-eqb x.slice.first x.slice.first refl) (eq-eqb x.slice.last x.slice.last refl))))

same_tables : (t u : Table) → equal_tables t u ≡ true → t ≡ u
same_tables t u equal =
    let one = and_parts _ _ equal in
    let two = and_parts (t.sectors == u.sectors) (pointwise equal_entries t.entries.items u.entries.items) one.1 in
    ap (λ (i : List ℕ). let w : Table = record { disk_id = record { 0 = i }; sectors = t.sectors; entries = t.entries } in w) (same_bytes t.disk_id.0 u.disk_id.0 one.0)
    ∙ ap (λ (n : ℕ). let w : Table = record { disk_id = u.disk_id; sectors = n; entries = t.entries } in w) (eqb-true t.sectors u.sectors two.0)
    ∙ ap (λ (es : List Entry). let w : Table = record { disk_id = u.disk_id; sectors = u.sectors; entries = record { items = es } } in w)
    (same_lists equal_entries same_entries t.entries.items u.entries.items two.1)

table_equal : (t : Table) → equal_tables t t ≡ true
table_equal t =
    and_from _ _ (bytes_equal t.disk_id.0)
    (and_from _ _ (eq-eqb t.sectors t.sectors refl) (lists_equal equal_entries entry_equal t.entries.items))

pub tables_same : (t u : Table) (equal : Bool) → equal ≡ equal_tables t u → (equal ≡ true) ↔ (t ≡ u)
tables_same t u equal is = (
  λ here. same_tables t u (sym is ∙ here),
  λ same. is ∙ subst (λ (w : Table). equal_tables t w ≡ true) same (table_equal t),
)
