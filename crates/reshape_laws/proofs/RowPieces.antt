-- The sectors of a new row: one position after the other, and one sector of the members' data after the other.
use Rattle.std.proofs.Common.{◌≡◌, ℕ, zero, suc, ◌+◌, ◌-◌, ◌*◌, ◌<◌, ◌≤◌, Bool, true, false, ◌==◌, nat_lt, if◌then◌else◌, List, [], ◌∷◌, map, Option, refl, sym, ap, ap₂, subst, ◌∙◌, inl, inr, eq-eqb, eqb-true, lt-ltb, ltb-false, ltb-true, arith}
use Rattle.std.proofs.Math.Nat.{mul-le-mul_right}
use Rattle.std.proofs.lemmas.Bool.{both_ways, cases_eq, cases_lt, ne_eqb}
use Rattle.std.specs.List.{range_with_len}
use Rattle.rack.specs.Seen.{RackView}
use Rattle.rack.specs.Targets.{Target}
use Rattle.rack.specs.Sequences.{OnlyReads}
use Rattle.md_super.specs.declared.superblock.Super.{Super}
use Rattle.raid_map.specs.LeftSymmetric.{parity_at}
use Rattle.parity.specs.Xor.{xor, xor_all, zeros}
use Rattle.array_model.specs.View.{View, IsArray}
use Rattle.array_model.specs.Members.{Notes}
use Rattle.array_model.proofs.Views.{same_view}
use Rattle.reshape_laws.specs.Ahead.{sector_on}
use Rattle.reshape_laws.specs.Rows.{AddsData, AddsPiece, AddsPieces, HasPieces, IsNewBytes, IsOld, OfData, OfOne, OfOneData, OfSector, OfSectors, data_count, data_sum}
use Rattle.reshape_laws.proofs.Old.{old_before}
use Rattle.reshape_laws.proofs.Pieces.{no_pieces, pieces_by, pieces_then}
use Rattle.reshape_laws.proofs.Sums.{total_more, total_none}

-- ---- sums

sum_empty : (members t : ℕ) (bytes : ℕ → List ℕ) → data_sum members t 0 bytes ≡ zeros 512
unfolding data_sum
sum_empty members t bytes = total_none (λ j. if j == parity_at members t then zeros 512 else bytes j)

sum_more : (members t many : ℕ) (bytes : ℕ → List ℕ)
    → data_sum members t (many + 1) bytes ≡ xor (data_sum members t many bytes) (if many == parity_at members t then zeros 512 else bytes many)
unfolding data_sum
sum_more members t many bytes = total_more (λ j. if j == parity_at members t then zeros 512 else bytes j) many

map_first : (f g : ℕ → List ℕ) (a m k : ℕ) → a + m ≤ k → ((j : ℕ) → j < k → f j ≡ g j) → map f (range_with_len a m) ≡ map g (range_with_len a m)
map_first f g a zero k fits same = refl
map_first f g a (suc m) k fits same = ap₂ (λ x xs. x ∷ xs) (same a (omega (arith, fits))) (map_first f g (a + 1) m k (omega (arith, fits)) same)

sum_same : (members t many : ℕ) (bytes other : ℕ → List ℕ) → ((j : ℕ) → j < many → (j ≡ parity_at members t → ⊥) → bytes j ≡ other j)
    → data_sum members t many bytes ≡ data_sum members t many other
unfolding data_sum
sum_same members t many bytes other same =
    ap (xor_all 512)
    (map_first (λ j. if j == parity_at members t then zeros 512 else bytes j) (λ j. if j == parity_at members t then zeros 512 else other j) 0 many many (omega arith)
    (λ j low. elim (cases_eq j (parity_at members t)) [
      | inl at ↦
          ap (λ (b : Bool). if b then zeros 512 else bytes j) (eq-eqb j (parity_at members t) at)
          ∙ sym (ap (λ (b : Bool). if b then zeros 512 else other j) (eq-eqb j (parity_at members t) at))
      | inr apart ↦ ap (λ x. if j == parity_at members t then zeros 512 else x) (same j low apart)
    ]))

-- ---- how many have data

count_more : (members t many : ℕ) → data_count members t many + (if many == parity_at members t then 0 else 1) ≡ data_count members t (many + 1)
count_more members t many = by (nat_lt (parity_at members t) many) (many == parity_at members t) (nat_lt (parity_at members t) (many + 1)) refl refl refl
  where
    by : (b c d : Bool) → nat_lt (parity_at members t) many ≡ b → (many == parity_at members t) ≡ c → nat_lt (parity_at members t) (many + 1) ≡ d
        → (if b then many - 1 else many) + (if c then 0 else 1) ≡ (if d then many + 1 - 1 else many + 1)
    by true true d low same next = (let low_is = ltb-true (parity_at members t) many low in let same_is = eqb-true many (parity_at members t) same in absurd (omega (arith, low_is, same_is)))
    by true false true low apart next = (let low_is = ltb-true (parity_at members t) many low in omega (arith, low_is))
    by true false false low apart past = (let low_is = ltb-true (parity_at members t) many low in let past_is = ltb-false (parity_at members t) (many + 1) past in absurd (omega (arith, low_is, past_is)))
    by false true true high same next = omega arith
    by false true false high same past = (let same_is = eqb-true many (parity_at members t) same in let past_is = ltb-false (parity_at members t) (many + 1) past in absurd (omega (arith, same_is, past_is)))
    by false false true high apart next =
        let high_is = ltb-false (parity_at members t) many high in
        let next_is = ltb-true (parity_at members t) (many + 1) next in
        let at : many ≡ parity_at members t = omega (arith, high_is, next_is) in
        absurd (both_ways (many == parity_at members t) apart (eq-eqb many (parity_at members t) at))
    by false false false high apart past = refl

-- all but the parity
count_all : (members t : ℕ) → parity_at members t < members → data_count members t members + 1 ≡ members
count_all members t low = ap (λ (b : Bool). (if b then members - 1 else members) + 1) (lt-ltb (parity_at members t) members low) ∙ (let e : members - 1 + 1 ≡ members = omega (arith, low) in e)

pub count_few : (members t many : ℕ) → data_count members t many ≤ many
count_few members t many = by (nat_lt (parity_at members t) many)
  where
    by : (b : Bool) → (if b then many - 1 else many) ≤ many
    by true = omega arith
    by false = omega arith

-- ---- bytes by position, with one more

abbrev put_at : (ℕ → List ℕ) → ℕ → List ℕ → ℕ → List ℕ
put_at bytes many new j = if j == many then new else bytes j

put_here : (bytes : ℕ → List ℕ) (many j : ℕ) (new : List ℕ) → j ≡ many → put_at bytes many new j ≡ new
put_here bytes many j new at = ap (λ (b : Bool). if b then new else bytes j) (eq-eqb j many at)

put_other : (bytes : ℕ → List ℕ) (many j : ℕ) (new : List ℕ) → (j ≡ many → ⊥) → put_at bytes many new j ≡ bytes j
put_other bytes many j new apart = ap (λ (b : Bool). if b then new else bytes j) (ne_eqb j many apart)

-- ---- one position after the other

pub data_none : (v : View) (a : RackView) (sector : ℕ) (absent : Option ℕ) (sum : List ℕ) (xs : List Target) → sum ≡ zeros 512 → AddsData v a sector 0 absent sum xs xs
data_none v a sector absent sum xs blank = record {
  bytes = λ j. [];
  old = λ j low apart. absurd (omega (arith, low));
  sum_is = blank ∙ sym (sum_empty v.truth.raid_disks sector (λ j. []));
  adds = no_pieces v (OfData v.truth.raid_disks sector 0 absent) (λ t j u. u ≡ []) (data_count v.truth.raid_disks sector 0) xs (λ t j is. let low = is.1 in omega (arith, low));
}

disks_then : (v u : View) (a b : RackView) → Notes v u a b → u.truth.raid_disks ≡ v.truth.raid_disks
disks_then v u a b notes = ap (λ (t : Super). t.raid_disks) notes.same.truth

-- a position that was read after losses, by the array before them
piece_before : (v u : View) (a b : RackView) (sector position : ℕ) (absent : Option ℕ) (sum next : List ℕ) (xs ys : List Target) → IsArray v → a.lasting → OnlyReads a b → Notes v u a b
    → AddsPiece u b sector position absent sum next xs ys → AddsPiece v a sector position absent sum next xs ys
piece_before v u a b sector position absent sum next xs ys is_array lasting reads notes piece =
    let disks = disks_then v u a b notes in
    record {
      bytes = piece.bytes;
      old = λ apart.
          old_before v u a b (sector_on v.truth.raid_disks position sector) piece.bytes is_array lasting reads notes
          (subst (λ n. IsOld u b (sector_on n position sector) piece.bytes) disks
          (piece.old (λ at. apart (subst (λ n. position ≡ parity_at n sector) disks at))));
      sum_is = subst (λ n. next ≡ xor sum (if position == parity_at n sector then zeros 512 else piece.bytes)) disks piece.sum_is;
      adds =
          pieces_by v u (OfOneData u.truth.raid_disks sector position absent) (OfOneData v.truth.raid_disks sector position absent) (λ t j w. w ≡ piece.bytes) (λ t j w. w ≡ piece.bytes)
          (if position == parity_at u.truth.raid_disks sector then 0 else 1) (if position == parity_at v.truth.raid_disks sector then 0 else 1) xs ys
          notes.same (subst (λ n. (if position == parity_at u.truth.raid_disks sector then 0 else 1) ≤ (if position == parity_at n sector then 0 else 1)) disks (omega arith))
          (λ t j is. subst (λ n. OfOneData n sector position absent t j) disks is)
          (λ t j is. subst (λ n. OfOneData n sector position absent t j) (sym disks) is)
          (λ t j w is same. same) piece.adds;
    }

data_more : (v : View) (a : RackView) (sector many : ℕ) (absent : Option ℕ) (sum next : List ℕ) (xs ys zs : List Target) → IsArray v
    → AddsData v a sector many absent sum xs ys → AddsPiece v a sector many absent sum next ys zs → AddsData v a sector (many + 1) absent next xs zs
data_more v a sector many absent sum next xs ys zs is_array so_far piece =
    let k = v.truth.raid_disks in
    let q = parity_at v.truth.raid_disks sector in
    let before = so_far.bytes in
    let bytes = put_at so_far.bytes many piece.bytes in
    record {
      bytes = put_at so_far.bytes many piece.bytes;
      old = λ j low apart. elim (cases_eq j many) [
        | inl at ↦
            subst (λ x. IsOld v a (sector_on v.truth.raid_disks j sector) x) (sym (put_here so_far.bytes many j piece.bytes at))
            (subst (λ i. IsOld v a (sector_on v.truth.raid_disks i sector) piece.bytes) (sym at) (piece.old (λ same. apart (at ∙ same))))
        | inr other ↦
            subst (λ x. IsOld v a (sector_on v.truth.raid_disks j sector) x) (sym (put_other so_far.bytes many j piece.bytes other))
            (so_far.old j (omega (arith, low, other)) apart)
      ];
      sum_is =
          piece.sum_is
          ∙ ap₂ (λ x y. xor x (if many == parity_at v.truth.raid_disks sector then zeros 512 else y))
          (so_far.sum_is
          ∙ sum_same v.truth.raid_disks sector many so_far.bytes (put_at so_far.bytes many piece.bytes)
          (λ j low apart. sym (put_other so_far.bytes many j piece.bytes (λ at. omega (arith, at, low)))))
          (sym (put_here so_far.bytes many many piece.bytes refl))
          ∙ sym (sum_more v.truth.raid_disks sector many (put_at so_far.bytes many piece.bytes));
      adds =
          subst (λ n. AddsPieces v (OfData v.truth.raid_disks sector (many + 1) absent) (λ t j u. u ≡ put_at so_far.bytes many piece.bytes j) n xs zs) (count_more v.truth.raid_disks sector many)
          (pieces_then v (OfData v.truth.raid_disks sector many absent) (OfOneData v.truth.raid_disks sector many absent) (OfData v.truth.raid_disks sector (many + 1) absent)
          (λ t j u. u ≡ put_at so_far.bytes many piece.bytes j) (data_count v.truth.raid_disks sector many) (if many == parity_at v.truth.raid_disks sector then 0 else 1) xs ys zs is_array
          (λ t j is. let low = is.1 in (is.0, omega (arith, low), is.2, is.3))
          (λ t j is. let at = is.1 in (is.0, omega (arith, at), is.2, is.3))
          (λ t j is. elim (cases_eq j many) [
            | inl at ↦ inr (is.0, at, is.2, is.3)
            | inr other ↦ (let low = is.1 in inl (is.0, omega (arith, low, other), is.2, is.3))
          ])
          (λ t j one two. let low = one.1 in let at = two.1 in omega (arith, low, at))
          (pieces_by v v (OfData v.truth.raid_disks sector many absent) (OfData v.truth.raid_disks sector many absent) (λ t j u. u ≡ so_far.bytes j) (λ t j u. u ≡ put_at so_far.bytes many piece.bytes j)
          (data_count v.truth.raid_disks sector many) (data_count v.truth.raid_disks sector many) xs ys (same_view v) (omega arith) (λ t j is. is) (λ t j is. is)
          (λ t j u is same. same ∙ sym (put_other so_far.bytes many j piece.bytes (λ at. let low = is.1 in omega (arith, low, at)))) so_far.adds)
          (pieces_by v v (OfOneData v.truth.raid_disks sector many absent) (OfOneData v.truth.raid_disks sector many absent) (λ t j u. u ≡ piece.bytes) (λ t j u. u ≡ put_at so_far.bytes many piece.bytes j)
          (if many == parity_at v.truth.raid_disks sector then 0 else 1) (if many == parity_at v.truth.raid_disks sector then 0 else 1) ys zs (same_view v) (omega arith) (λ t j is. is) (λ t j is. is)
          (λ t j u is same. same ∙ sym (put_here so_far.bytes many j piece.bytes is.1)) piece.adds));
    }

pub data_next : (v u : View) (a b : RackView) (sector many : ℕ) (absent : Option ℕ) (sum next : List ℕ) (xs ys zs : List Target) → IsArray v → a.lasting → OnlyReads a b → Notes v u a b
    → AddsData v a sector many absent sum xs ys → AddsPiece u b sector many absent sum next ys zs → AddsData v a sector (many + 1) absent next xs zs
data_next v u a b sector many absent sum next xs ys zs is_array lasting reads notes so_far piece =
    data_more v a sector many absent sum next xs ys zs is_array so_far (piece_before v u a b sector many absent sum next ys zs is_array lasting reads notes piece)

-- ---- with the parity

pub sector_pieces : (v : View) (a : RackView) (sector q : ℕ) (absent : Option ℕ) (sum : List ℕ) (xs ys zs : List Target) → IsArray v
    → q ≡ parity_at v.truth.raid_disks sector → q < v.truth.raid_disks
    → AddsData v a sector v.truth.raid_disks absent sum xs ys → AddsPieces v (OfOne sector q absent) (λ t j u. u ≡ sum) 1 ys zs
    → AddsPieces v (OfSector sector v.truth.raid_disks absent) (IsNewBytes v a) v.truth.raid_disks xs zs
sector_pieces v a sector q absent sum xs ys zs is_array at_parity low found parity =
    let whole : HasPieces v a sector (put_at found.bytes q sum) =
    record {
      data_is = λ j below apart.
          subst (λ x. IsOld v a (sector_on v.truth.raid_disks j sector) x) (sym (put_other found.bytes q j sum (λ at. apart (at ∙ at_parity)))) (found.old j below apart);
      parity_is =
          put_here found.bytes q (parity_at v.truth.raid_disks sector) sum (sym at_parity)
          ∙ found.sum_is
          ∙ sum_same v.truth.raid_disks sector v.truth.raid_disks found.bytes (put_at found.bytes q sum) (λ j below apart. sym (put_other found.bytes q j sum (λ at. apart (at ∙ at_parity))));
    } in
    subst (λ n. AddsPieces v (OfSector sector v.truth.raid_disks absent) (IsNewBytes v a) n xs zs) (count_all v.truth.raid_disks sector (subst (λ p. p < v.truth.raid_disks) at_parity low))
    (pieces_then v (OfData v.truth.raid_disks sector v.truth.raid_disks absent) (OfOne sector q absent) (OfSector sector v.truth.raid_disks absent) (IsNewBytes v a) (data_count v.truth.raid_disks sector v.truth.raid_disks) 1 xs ys zs is_array
    (λ t j is. (is.0, is.1, is.2))
    (λ t j is. (is.0, subst (λ i. i < v.truth.raid_disks) (sym is.1) low, is.2))
    (λ t j is. elim (cases_eq j (parity_at v.truth.raid_disks t)) [
      | inl at ↦ inr (is.0, at ∙ ap (parity_at v.truth.raid_disks) is.0 ∙ sym at_parity, is.2)
      | inr apart ↦ inl (is.0, is.1, is.2, apart)
    ])
    (λ t j one two. one.3 (two.1 ∙ at_parity ∙ sym (ap (parity_at v.truth.raid_disks) one.0)))
    (pieces_by v v (OfData v.truth.raid_disks sector v.truth.raid_disks absent) (OfData v.truth.raid_disks sector v.truth.raid_disks absent) (λ t j u. u ≡ found.bytes j) (IsNewBytes v a)
    (data_count v.truth.raid_disks sector v.truth.raid_disks) (data_count v.truth.raid_disks sector v.truth.raid_disks) xs ys (same_view v) (omega arith) (λ t j is. is) (λ t j is. is)
    (λ t j u is same. record {
      bytes = put_at found.bytes q sum;
      pieces = subst (λ s. HasPieces v a s (put_at found.bytes q sum)) (sym is.0) whole;
      own = same ∙ sym (put_other found.bytes q j sum (λ at. is.3 (at ∙ at_parity ∙ sym (ap (parity_at v.truth.raid_disks) is.0))));
    }) found.adds)
    (pieces_by v v (OfOne sector q absent) (OfOne sector q absent) (λ t j u. u ≡ sum) (IsNewBytes v a) 1 1 ys zs (same_view v) (omega arith) (λ t j is. is) (λ t j is. is)
    (λ t j u is same. record {
      bytes = put_at found.bytes q sum;
      pieces = subst (λ s. HasPieces v a s (put_at found.bytes q sum)) (sym is.0) whole;
      own = same ∙ sym (put_here found.bytes q j sum is.1);
    }) parity))

-- ---- one sector after the other

pub no_sectors : (v : View) (a : RackView) (first : ℕ) (absent : Option ℕ) (xs : List Target)
    → AddsPieces v (OfSectors v.truth.raid_disks first (first - first) absent) (IsNewBytes v a) ((first - first) * v.truth.raid_disks) xs xs
no_sectors v a first absent xs =
    no_pieces v (OfSectors v.truth.raid_disks first (first - first) absent) (IsNewBytes v a) ((first - first) * v.truth.raid_disks) xs
    (λ t j is. let least = is.0 in let low = is.1 in omega (arith, least, low))

pieces_before : (v u : View) (a b : RackView) (t : ℕ) (bytes : ℕ → List ℕ) → IsArray v → a.lasting → OnlyReads a b → Notes v u a b → HasPieces u b t bytes → HasPieces v a t bytes
pieces_before v u a b t bytes is_array lasting reads notes has =
    let disks = disks_then v u a b notes in
    record {
      data_is = λ j low apart.
          old_before v u a b (sector_on v.truth.raid_disks j t) (bytes j) is_array lasting reads notes
          (subst (λ n. IsOld u b (sector_on n j t) (bytes j)) disks
          (has.data_is j (subst (λ n. j < n) (sym disks) low) (λ at. apart (subst (λ n. j ≡ parity_at n t) disks at))));
      parity_is = subst (λ n. bytes (parity_at n t) ≡ data_sum n t n bytes) disks has.parity_is;
    }

-- one sector more fits where all of them do
pub sectors_room : (some all members : ℕ) → some < all → some * members + members ≤ all * members
sectors_room some all members less =
    let more : (some + 1) * members ≤ all * members = mul-le-mul_right members (omega (arith, less)) in
    let sum : some * members + members ≡ (some + 1) * members = grind arith in
    omega (arith, more, sum)

-- one sector more, by a view after losses
pub sectors_next : (v u : View) (a b : RackView) (first sector : ℕ) (absent : Option ℕ) (xs ys zs : List Target) → IsArray v → a.lasting → OnlyReads a b → Notes v u a b → first ≤ sector
    → AddsPieces v (OfSectors v.truth.raid_disks first (sector - first) absent) (IsNewBytes v a) ((sector - first) * v.truth.raid_disks) xs ys
    → AddsPieces u (OfSector sector u.truth.raid_disks absent) (IsNewBytes u b) u.truth.raid_disks ys zs
    → AddsPieces v (OfSectors v.truth.raid_disks first (sector + 1 - first) absent) (IsNewBytes v a) ((sector + 1 - first) * v.truth.raid_disks) xs zs
sectors_next v u a b first sector absent xs ys zs is_array lasting reads notes least so_far one =
    let disks = disks_then v u a b notes in
    let count : (sector - first) * v.truth.raid_disks + v.truth.raid_disks ≡ (sector + 1 - first) * v.truth.raid_disks =
    one_more (sector - first) v.truth.raid_disks ∙ ap (λ n. n * v.truth.raid_disks) (let e : sector - first + 1 ≡ sector + 1 - first = omega (arith, least) in e) in
    subst (λ n. AddsPieces v (OfSectors v.truth.raid_disks first (sector + 1 - first) absent) (IsNewBytes v a) n xs zs) count
    (pieces_then v (OfSectors v.truth.raid_disks first (sector - first) absent) (OfSector sector v.truth.raid_disks absent) (OfSectors v.truth.raid_disks first (sector + 1 - first) absent)
    (IsNewBytes v a) ((sector - first) * v.truth.raid_disks) v.truth.raid_disks xs ys zs is_array
    (λ t j is. let low = is.1 in (is.0, omega (arith, low, least), is.2, is.3))
    (λ t j is. let at = is.0 in (omega (arith, at, least), omega (arith, at, least), is.1, is.2))
    (λ t j is. elim (cases_lt t sector) [
      | inl less ↦ (let low = is.0 in inl (is.0, omega (arith, less, low, least), is.2, is.3))
      | inr more ↦ (let low = is.1 in inr (omega (arith, low, more, least), is.2, is.3))
    ])
    (λ t j before now. let low = before.1 in let at = now.0 in omega (arith, low, at, least))
    so_far
    (pieces_by v u (OfSector sector u.truth.raid_disks absent) (OfSector sector v.truth.raid_disks absent) (IsNewBytes u b) (IsNewBytes v a) u.truth.raid_disks v.truth.raid_disks ys zs notes.same (omega (arith, disks))
    (λ t j is. subst (λ n. OfSector sector n absent t j) disks is)
    (λ t j is. subst (λ n. OfSector sector n absent t j) (sym disks) is)
    (λ t j w is has. record { bytes = has.bytes; pieces = pieces_before v u a b t has.bytes is_array lasting reads notes has.pieces; own = has.own })
    one))
  where
    one_more : (m n : ℕ) → m * n + n ≡ (m + 1) * n
    one_more m n = grind arith
