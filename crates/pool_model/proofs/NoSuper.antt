-- No sector of a partition table, as it is written, has a superblock of a pool's array.
use Rattle.std.proofs.Common.{◌≡◌, ◌≢◌, ◌⊎◌, ℕ, zero, suc, ◌+◌, ◌-◌, ◌*◌, ◌<◌, ◌≤◌, Bool, true, false, ◌==◌, ◌&&◌, not, nat_lt, bytes_eq, bit_and, codes, ◌||◌, nat_le, pos, int_eq, List, [], ◌∷◌, ◌++◌, length, take, drop, reverse, replicate, find, filter_map, Option, Some, None, Result, Ok, Err, is_ok, refl, sym, ap, subst, ◌∙◌, inl, inr, arith, length-append, length-drop, take_at, if◌then◌else◌}
use Rattle.std.specs.List.{range_with_len}
use Rattle.std.specs.Result.{result_ok}
use Rattle.std.specs.Int.{cast_signed, w32}
use Rattle.std.proofs.lemmas.Bool.{and_parts, both_ways, cases_Bool, cond-true, cond-false}
use Rattle.std.proofs.lemmas.Option.{cond_some, none-some, same_Some}
use Rattle.std.proofs.lemmas.List.{length-replicate, length-reverse, length-take-le, drop_at, drop-append-le, drop-drop, take-append-le, drop-take, take-take}
use Rattle.std.proofs.lemmas.Slice.Eq.{bytes_eq-Decides}
use Rattle.shr_base.specs.Blocks.{bytes_at, number_at}
use Rattle.shr_base.specs.Ids.{guid_order}
use Rattle.shr_base.proofs.Blocks.{bytes_at-zeros}
use Rattle.gpt_table.specs.declared.Entry.{Entry}
use Rattle.gpt_table.specs.declared.Table.{Table}
use Rattle.gpt_table.specs.declared.TableCopy.{TableCopy}
use Rattle.gpt_table.specs.declared.TableCopy.TheVariants.{Backup, Primary}
use Rattle.gpt_table.specs.Changes.{IsInReplaced}
use Rattle.gpt_table.specs.Disk.{Contents, entries_bytes, joined}
use Rattle.gpt_table.specs.Format.{AreWritten, entries_of, entries_sector, entry_of, header_sector, is_unused, is_valid, numbered, slice_of, slot_fields, slot_of, table_of, written_slot}
use Rattle.gpt_table.specs.Plans.{IsInCopy, IsInTable}
use Rattle.gpt_table.proofs.Decoded.{said}
use Rattle.md_super.specs.declared.superblock.Super.{Super}
use Rattle.md_super.specs.declared.superblock.SuperFault.TheVariants.{NotMd, TooLong, BadSum}
use Rattle.md_super.specs.Layout.{decoded, fields_of, has_right_sum, is_md, max_dev}
use Rattle.md_super.specs.Profile.{is_mirror, is_raid5, profiled}
use Rattle.pool_state.specs.declared.contents.State.{State}
use Rattle.array_image.specs.Places.{array_id, member_slice, super_sector}
use Rattle.array_image.specs.Supers.{is_super_of, only_if, super_in, super_of}
use Rattle.rack.specs.Seen.{Image}
use Rattle.pool_model.specs.Left.{HasNoSuper}

-- ---- blocks that decode to no superblock of an array

pub no_super_bare : (pool : List ℕ) (n : ℕ) (v : List ℕ) → super_of v ≡ None → HasNoSuper pool n v
no_super_bare pool n v none t is = absurd (none-some t (sym none ∙ is))

pub no_super_in : (s : State) (c : Image) (n p : ℕ) → HasNoSuper s.pool.0 n (c (member_slice p n) super_sector) → super_in s c n p ≡ None
no_super_in s c n p lacks = by (super_of (c (member_slice p n) super_sector)) refl
  where
    passes : Super → Bool
    passes t = is_super_of s.pool.0 s.extent (length s.drives.items) n p t

    of_set : (a b : Bool) → a ≡ false → (a && b) ≡ false
    of_set false b is = refl
    of_set true b is = absurd (both_ways true is refl)

    of_rest : (a b c : Bool) → b ≡ false → (a && (b && c)) ≡ false
    of_rest false b c is = refl
    of_rest true false c is = refl
    of_rest true true c is = absurd (both_ways true is refl)

    fails : (t : Super) → (t.set_id.0 ≢ array_id s.pool.0 n) ⊎ ((extent : ℕ) → is_ok (profiled t extent) ≡ false) → passes t ≡ false
    fails t (inl other) = elim (cases_Bool (bytes_eq t.set_id.0 (array_id s.pool.0 n))) [
      | inl same ↦ absurd (other ((bytes_eq-Decides t.set_id.0 (array_id s.pool.0 n)).0 same))
      | inr differs ↦ of_rest (is_ok (profiled t s.extent)) (bytes_eq t.set_id.0 (array_id s.pool.0 n)) _ differs
    ]
    fails t (inr broken) = of_set (is_ok (profiled t s.extent)) _ (broken s.extent)

    by : (o : Option Super) → super_of (c (member_slice p n) super_sector) ≡ o → only_if passes o ≡ None
    by None is = refl
    by (Some t) is = cond-false (passes t) (Some t) None (fails t (lacks t is))

-- a block that decodes has the magic number, and says its fields
decoded_fields : (block : List ℕ) (t : Super) → result_ok (decoded block) ≡ Some t → (is_md block ≡ true) × (t ≡ fields_of block)
decoded_fields block t is = by (is_md block) (nat_lt 384 (max_dev block)) (has_right_sum block) (fields_of block) is
  where
    by : (m l r : Bool) (x : Super) → result_ok (if not m then Err NotMd else if l then Err TooLong else if not r then Err BadSum else Ok x) ≡ Some t → (m ≡ true) × (t ≡ x)
    by false l r x is = absurd (none-some t is)
    by true true r x is = absurd (none-some t is)
    by true false false x is = absurd (none-some t is)
    by true false true x is = (refl, sym (same_Some x t is))

-- ---- sectors of a copy

-- bytes of a block that stand in a part of it
bytes_in : (at size offset width : ℕ) (block : List ℕ) → at + size ≤ width → bytes_at at size (bytes_at offset width block) ≡ bytes_at (offset + at) size block
unfolding bytes_at
bytes_in at size offset width block within =
    sym (drop-take at size (take width (drop offset block))) ∙ ap (drop at) (take-take (at + size) width (drop offset block) within) ∙ drop-take at size (drop offset block)
    ∙ ap (take size) (drop-drop at offset block)

-- a sector among others in a row, of 512 bytes each
piece : (disk : Contents) → ((s : ℕ) → length (disk s) ≡ 512) → (first n j : ℕ) → j < n → bytes_at (512 * j) 512 (joined disk first n) ≡ disk (first + j)
unfolding bytes_at
piece disk sized first zero j less = absurd (omega (arith, less))
piece disk sized first (suc n) zero less =
    let same : first + 0 ≡ first = omega arith in
    take_at (disk first) (joined disk (first + 1) n) 512 (sized first) ∙ ap disk (sym same)
piece disk sized first (suc n) (suc j) less =
    let at : 512 * suc j ≡ 512 + 512 * j = omega arith in
    let same : first + 1 + j ≡ first + suc j = omega arith in
    let all = disk first ++ joined disk (first + 1) n in
    ap (λ k. take 512 (drop k all)) at
    ∙ ap (take 512) (sym (drop-drop (512 * j) 512 all) ∙ ap (drop (512 * j)) (drop_at (disk first) (joined disk (first + 1) n) 512 (sized first)))
    ∙ piece disk sized (first + 1) n j (omega (arith, less)) ∙ ap disk same

-- as many bytes in a row as its sectors have
joined_long : (disk : Contents) → ((s : ℕ) → length (disk s) ≡ 512) → (first n : ℕ) → length (joined disk first n) ≡ 512 * n
joined_long disk sized first zero = refl
joined_long disk sized first (suc n) =
    let here = sized first in
    let rest = joined_long disk sized (first + 1) n in
    omega (arith, length-append (disk first) (joined disk (first + 1) n), here, rest)

bytes_long : (at size : ℕ) (block : List ℕ) → at + size ≤ length block → length (bytes_at at size block) ≡ size
unfolding bytes_at
bytes_long at size block within = length-take-le size (drop at block) (omega (arith, length-drop at block, within))

order_long : (bytes : List ℕ) → length bytes ≡ 16 → length (guid_order bytes) ≡ 16
order_long bytes long =
    let a = take 4 bytes in
    let b = take 2 (drop 4 bytes) in
    let c = take 2 (drop 6 bytes) in
    let one : length a ≡ 4 = length-take-le 4 bytes (omega (arith, long)) in
    let two : length b ≡ 2 = length-take-le 2 (drop 4 bytes) (omega (arith, length-drop 4 bytes, long)) in
    let three : length c ≡ 2 = length-take-le 2 (drop 6 bytes) (omega (arith, length-drop 6 bytes, long)) in
    omega (
      arith,
      length-append (reverse a) (reverse b ++ reverse c ++ drop 8 bytes),
      length-append (reverse b) (reverse c ++ drop 8 bytes),
      length-append (reverse c) (drop 8 bytes),
      length-append (reverse a ++ reverse b ++ reverse c) (drop 8 bytes),
      length-append (reverse a ++ reverse b) (reverse c),
      length-append (reverse a) (reverse b),
      length-reverse a,
      length-reverse b,
      length-reverse c,
      length-drop 8 bytes,
      long,
      one,
      two,
      three,
    )

-- an entry whose GUIDs have 16 bytes each
abbrev IsWide : Entry → Type 0
IsWide e = (length e.slice.kind.0 ≡ 16) × (length e.slice.id.0 ≡ 16)

read_wide : (entries : List ℕ) (k : ℕ) (e : Entry) → length entries ≡ 16384 → k < 128 → entry_of entries k ≡ Some e → IsWide e
unfolding slice_of
read_wide entries k e long low is = elim (cases_Bool (is_unused (slot_of k entries))) [
  | inl free ↦ absurd (none-some e (sym (cond-true (is_unused (slot_of k entries)) None _ free) ∙ is))
  | inr used ↦
      (let same = same_Some _ e (sym (cond-false (is_unused (slot_of k entries)) None _ used) ∙ is) in
      let slot : length (slot_of k entries) ≡ 128 = bytes_long (128 * k) 128 entries (omega (arith, long, low)) in
      subst IsWide same (
        order_long (bytes_at 0 16 (slot_of k entries)) (bytes_long 0 16 (slot_of k entries) (omega (arith, slot))),
        order_long (bytes_at 16 16 (slot_of k entries)) (bytes_long 16 16 (slot_of k entries) (omega (arith, slot))),
      ))
]

-- one that is found is one of them
abbrev kept : Option Entry → List Entry → List Entry
kept None es = es
kept (Some e) es = e ∷ es

wide_next : (o : Option Entry) (es : List Entry) (test : Entry → Bool) (e : Entry) → ((x : Entry) → o ≡ Some x → IsWide x) → (find test es ≡ Some e → IsWide e)
    → find test (kept o es) ≡ Some e → IsWide e
wide_next None es test e here rest is = rest is
wide_next (Some x) es test e here rest is = elim (cases_Bool (test x)) [
  | inl is_first ↦ subst IsWide (same_Some x e (sym (cond-true (test x) (Some x) (find test es) is_first) ∙ is)) (here x refl)
  | inr is_later ↦ rest (sym (cond-false (test x) (Some x) (find test es) is_later) ∙ is)
]

kept_next : (f : ℕ → Option Entry) (a : ℕ) (ks : List ℕ) (o : Option Entry) → f a ≡ o → filter_map f (a ∷ ks) ≡ kept o (filter_map f ks)
kept_next f a ks None is = rw is refl
kept_next f a ks (Some e) is = rw is refl

wide_found : (f : ℕ → Option Entry) (a n : ℕ) → ((k : ℕ) (e : Entry) → k < a + n → f k ≡ Some e → IsWide e) → (test : Entry → Bool) (e : Entry)
    → find test (filter_map f (range_with_len a n)) ≡ Some e → IsWide e
wide_found f a zero each test e is = absurd (none-some e is)
wide_found f a (suc n) each test e is =
    wide_next (f a) (filter_map f (range_with_len (a + 1) n)) test e (λ x has. each a x (omega arith) has)
    (wide_found f (a + 1) n (λ k x below. each k x (omega (arith, below))) test e)
    (sym (ap (find test) (kept_next f a (range_with_len (a + 1) n) (f a) refl)) ∙ is)

-- ---- sectors as they are written

-- what stands in an entry past its fields
written_zeros : (o : Option Entry) → ((e : Entry) → o ≡ Some e → IsWide e) → bytes_at 72 4 (written_slot o) ≡ replicate 4 0
written_zeros None wide = bytes_at-zeros 128 72 4 [] (omega arith) refl refl tt
written_zeros (Some e) wide =
    let is = wide e refl in
    bytes_at-zeros 128 72 4 (slot_fields (guid_order e.slice.kind.0) (guid_order e.slice.id.0) e.slice.first e.slice.last) (omega arith) refl refl
    (order_long e.slice.kind.0 is.0, (order_long e.slice.id.0 is.1, (refl, (refl, tt))))

-- fields of the same bytes have the same number
same_number : (at bt : ℕ) (v w : List ℕ) → bytes_at at 4 v ≡ bytes_at bt 4 w → number_at at 4 v ≡ number_at bt 4 w
unfolding number_at
same_number at bt v w same = rw same refl

-- a field of a sector, with zeros behind it
number_before : (at : ℕ) (v zeros : List ℕ) → at + 4 ≤ length v → number_at at 4 (v ++ zeros) ≡ number_at at 4 v
unfolding bytes_at
number_before at v zeros within =
    same_number at at (v ++ zeros) v
    (ap (take 4) (drop-append-le at v zeros (omega (arith, within))) ∙ take-append-le 4 (drop at v) zeros (omega (arith, length-drop at v, within)))

no_magic : (pool : List ℕ) (n : ℕ) (v w : List ℕ) → length v ≡ 512 → bytes_at 0 4 v ≡ bytes_at 0 4 w → (number_at 0 4 w == 0xa92b4efc) ≡ false → HasNoSuper pool n v
no_magic pool n v w long starts differs t is =
    let read = number_before 0 v (replicate 512 0) (omega (arith, long)) ∙ same_number 0 0 v w starts in
    let found = (and_parts _ _ (decoded_fields (v ++ replicate 512 0) t is).0).0 in
    absurd (both_ways (number_at 0 4 w == 0xa92b4efc) differs (ap (λ k. k == 0xa92b4efc) (sym read) ∙ found))

no_level : (pool : List ℕ) (n : ℕ) (v : List ℕ) → length v ≡ 512 → bytes_at 72 4 v ≡ replicate 4 0 → HasNoSuper pool n v
unfolding fields_of number_at bytes_at
no_level pool n v long zeros t is =
    let level : t.level ≡ pos 0 =
    ap (λ (x : Super). x.level) (decoded_fields (v ++ replicate 512 0) t is).1
    ∙ ap (cast_signed w32) (number_before 72 v (replicate 512 0) (omega (arith, long)) ∙ same_number 72 0 v (replicate 4 0) zeros) in
    inr (λ extent. broken (bit_and t.feature_map 0xfffffff9 == 0) (is_mirror t || is_raid5 t) _ _ _ (ap (λ l. int_eq l (pos 1) || int_eq l (pos 5)) level))
  where
    broken : {X Y : Type 0} (a b : Bool) (rest : Result X Y) (f g : Y) → b ≡ false → is_ok (if a then (if b then rest else Err f) else Err g) ≡ false
    broken false b rest f g is = refl
    broken true false rest f g is = refl
    broken true true rest f g is = absurd (both_ways true is refl)

no_super_zeros : (pool : List ℕ) (n : ℕ) → HasNoSuper pool n (replicate 512 0)
unfolding number_at bytes_at
no_super_zeros pool n =
    no_magic pool n (replicate 512 0) (replicate 4 0) (length-replicate {A = ℕ} 512 0) (bytes_at-zeros 512 0 4 [] (omega arith) refl refl tt) refl

no_super_header : (pool : List ℕ) (n : ℕ) (copy : TableCopy) (sectors : ℕ) (header entries : List ℕ) (t : Table) → length header ≡ 512
    → table_of copy sectors header entries ≡ Some t → HasNoSuper pool n header
unfolding number_at bytes_at
no_super_header pool n copy sectors header entries t long says =
    let valid = (cond_some (is_valid copy sectors header entries) (said sectors header entries) t says).0 in
    let whole = (and_parts (nat_le 67 sectors) _ (and_parts _ _ (and_parts _ _ valid).0).0).1 in
    let word = (and_parts _ _ (and_parts _ _ (and_parts _ _ (and_parts _ _ (and_parts _ _ (and_parts _ _ (and_parts _ _ whole).0).0).0).0).0).0).0 in
    let is : bytes_at 0 8 header ≡ codes "EFI PART" = (bytes_eq-Decides (bytes_at 0 8 header) (codes "EFI PART")).0 word in
    no_magic pool n header (codes "EFI PART") long (sym (bytes_in 0 4 0 8 header (omega arith)) ∙ ap (bytes_at 0 4) is) refl

no_super_entries : (pool : List ℕ) (n : ℕ) (t : Table) (disk : Contents) (first j : ℕ) → ((s : ℕ) → length (disk s) ≡ 512) → j < 32
    → AreWritten t.entries.items (joined disk first 32) → t.entries.items ≡ entries_of (joined disk first 32) → HasNoSuper pool n (disk (first + j))
unfolding entries_of
no_super_entries pool n t disk first j sized low written are =
    let all = joined disk first 32 in
    let long = joined_long disk sized first 32 in
    let found = λ (e : Entry) (is : find (numbered (4 * j + 1)) t.entries.items ≡ Some e).
    wide_found (entry_of all) 0 128 (λ k x below has. read_wide all k x long (omega (arith, below)) has) (numbered (4 * j + 1)) e (sym (ap (find (numbered (4 * j + 1))) are) ∙ is) in
    let here : bytes_at 72 4 (disk (first + j)) ≡ replicate 4 0 =
    ap (bytes_at 72 4) (sym (piece disk sized first 32 j low))
    ∙ bytes_in 72 4 (512 * j) 512 all (omega arith)
    ∙ ap (λ k. bytes_at k 4 all) (same_place j)
    ∙ sym (bytes_in 72 4 (128 * (4 * j)) 128 all (omega arith))
    ∙ ap (bytes_at 72 4) (written (4 * j) (omega (arith, low)))
    ∙ written_zeros (find (numbered (4 * j + 1)) t.entries.items) found in
    no_level pool n (disk (first + j)) (sized (first + j)) here
  where
    same_place : (j : ℕ) → 512 * j + 72 ≡ 128 * (4 * j) + 72
    same_place j = omega arith

-- what stands in a sector of a copy that is written of a table
pub no_super_copy : (pool : List ℕ) (n : ℕ) (copy : TableCopy) (t : Table) (s : ℕ) (v : List ℕ) → IsInCopy copy t s v → HasNoSuper pool n v
unfolding entries_bytes
no_super_copy pool n copy t s v is = elim is.within [
  | inl own ↦
      subst (HasNoSuper pool n) (sym (ap is.disk own) ∙ is.here)
      (no_super_header pool n copy t.sectors (is.disk (header_sector copy t.sectors)) (joined is.disk (entries_sector copy t.sectors) 32) t (is.sized (header_sector copy t.sectors)) is.holds.says)
  | inr among ↦
      (let first = entries_sector copy t.sectors in
      let low = among.0 in
      let high = among.1 in
      let same : first + (s - first) ≡ s = omega (arith, low) in
      let all = joined is.disk first 32 in
      let read = (cond_some (is_valid copy t.sectors (is.disk (header_sector copy t.sectors)) all) (said t.sectors (is.disk (header_sector copy t.sectors)) all) t is.holds.says).1 in
      subst (HasNoSuper pool n) (ap is.disk same ∙ is.here)
      (no_super_entries pool n t is.disk first (s - first) is.sized (omega (arith, low, high)) is.holds.slots (sym (ap (λ (x : Table). x.entries.items) read))))
]

-- and while the copy is replaced
pub no_super_replaced : (pool : List ℕ) (n : ℕ) (copy : TableCopy) (t : Table) (s : ℕ) (v : List ℕ) → IsInReplaced copy t s v → HasNoSuper pool n v
no_super_replaced pool n copy t s v (inl blank) = subst (HasNoSuper pool n) (sym blank.1) (no_super_zeros pool n)
no_super_replaced pool n copy t s v (inr inside) = no_super_copy pool n copy t s v inside

-- but for the protective MBR so it is of a whole table that is written
pub no_super_table : (pool : List ℕ) (n : ℕ) (t : Table) (s : ℕ) (v : List ℕ) → 0 < s → IsInTable t s v → HasNoSuper pool n v
no_super_table pool n t s v behind (inl first) = absurd (let at = first.0 in omega (arith, at, behind))
no_super_table pool n t s v behind (inr (inl primary)) = no_super_copy pool n Primary t s v primary
no_super_table pool n t s v behind (inr (inr backup)) = no_super_copy pool n Backup t s v backup
