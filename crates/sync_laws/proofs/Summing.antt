-- What the members that make the others of a row give together, one after the other.
use Rattle.std.proofs.Common.{◌≡◌, ℕ, zero, suc, ◌+◌, ◌*◌, ◌/◌, ◌<◌, ◌≤◌, Bool, true, false, ◌&&◌, not, nat_lt, if◌then◌else◌, List, [], ◌∷◌, ◌++◌, map, length, refl, sym, ap, ap₂, subst, ◌∙◌, inl, inr, ltb-true, lt-ltb, le-ltb, append-nil, arith}
use Rattle.std.proofs.lemmas.Bool.{both_ways, cases_lt}
use Rattle.std.specs.List.{range_with_len}
use Rattle.rack.specs.Seen.{Image, RackView}
use Rattle.rack.specs.Sequences.{OnlyReads}
use Rattle.md_super.specs.declared.superblock.Super.{Super}
use Rattle.raid_map.specs.LeftSymmetric.{row_at}
use Rattle.parity.specs.Xor.{xor, xor_all, zeros}
use Rattle.parity.proofs.Laws.{xor_is_a_group, parity_restores}
use Rattle.array_image.specs.Places.{data_sector}
use Rattle.array_image.specs.Stripes.{Layout, width}
use Rattle.array_image.specs.Arrays.{Member}
use Rattle.array_image.specs.Held.{Among, current_in}
use Rattle.array_image.specs.Spent.{wanting, spent_with}
use Rattle.array_image.proofs.Losing.{column_there, map_join}
use Rattle.array_model.specs.View.{View, IsArray, member_on, shape_of}
use Rattle.array_model.specs.Says.{IsOpen}
use Rattle.array_model.specs.Members.{Notes, IsSameButSeats, members_of, row_layout, row_of, restored, member_spent, slice_on}
use Rattle.array_model.proofs.Filled.{one_wants, xor_zeros}
use Rattle.array_model.proofs.Firsts.{member_among}
use Rattle.array_model.proofs.Keeping.{live_on}
use Rattle.array_model.proofs.Layouts.{row_layout_is}
use Rattle.array_model.proofs.Noting.{length_members}
use Rattle.array_model.proofs.Reading.{slice_same, wanting_stays, restored_own, row_layout_then, open_calls}
use Rattle.array_model.proofs.RowWrites.{part_on}
use Rattle.array_model.proofs.Spared.{synced_row}
use Rattle.array_model.proofs.Views.{shape_members}
use Rattle.sync_laws.specs.Rows.{SourcesCount, is_source, lacks_row, makes_others, row_sum, source_sector}

-- ---- members that count

pub count_same : (v w : View) → IsSameButSeats v w → w.truth.raid_disks ≡ v.truth.raid_disks
count_same v w same = ap (λ (t : Super). t.raid_disks) same.truth

-- a member that counts after losses counted before them
pub counted_before : (v w : View) (a b : RackView) (k sector : ℕ) → Notes v w a b → sector < (member_on w k).reach → sector < (member_on v k).reach
counted_before v w a b k sector notes counts =
    let Goal : Bool → Type 0 = λ test. nat_lt sector (member_on v k).reach ≡ test → sector < (member_on v k).reach in
    let goal : Goal (nat_lt sector (member_on v k).reach) = elim (nat_lt sector (member_on v k).reach) as Goal [
      | true ↦ λ is. ltb-true sector (member_on v k).reach is
      | false ↦ λ none.
          absurd (both_ways (nat_lt sector (member_on w k).reach) (wanting_stays v w a b k sector notes none) (lt-ltb sector (member_on w k).reach counts))
    ] in
    goal refl

-- a member that doesn't count is one that is wanting
pub lacks_one : (v : View) (k sector : ℕ) → k < v.truth.raid_disks → nat_lt sector (member_on v k).reach ≡ false → 0 < wanting sector (members_of v)
lacks_one v k sector low none =
    let count : length (shape_of v).members ≡ v.truth.raid_disks = ap length (shape_members v) ∙ length_members v in
    subst (λ (ms : List Member). 0 < wanting sector ms) (shape_members v)
    (one_wants sector k (shape_of v).members (omega (arith, low, count)) (ap (λ (m : Member). nat_lt sector m.reach) (part_on v k low) ∙ none))

-- where a row is left to resync, a member that isn't spent counts
pub counts_unspent : (w : View) (k sector : ℕ) → k < w.truth.raid_disks → w.resync ≤ row_at sector → member_spent w k sector ≡ false → sector < (member_on w k).reach
counts_unspent w k sector low left unspent = by (nat_lt sector (member_on w k).reach) refl unspent
  where
    synced : nat_lt (row_at sector) w.resync ≡ false
    synced = le-ltb (row_at sector) w.resync left

    by : (b : Bool) → nat_lt sector (member_on w k).reach ≡ b → (not b && spent_with (wanting sector (members_of w)) (nat_lt (row_at sector) w.resync)) ≡ false → sector < (member_on w k).reach
    by true is free = ltb-true sector (member_on w k).reach is
    by false is free =
        absurd (lacking (wanting sector (members_of w)) (lacks_one w k sector low is) (subst (λ (b : Bool). spent_with (wanting sector (members_of w)) b ≡ false) synced free))
      where
        lacking : (n : ℕ) → 0 < n → spent_with n false ≡ false → ⊥
        lacking n some free = both_ways false refl (synced_row n false some free)

-- a row that lacks a member at a sector lacks one at its last
pub wanting_later : (s t : ℕ) (members : List Member) → s ≤ t → wanting s members ≤ wanting t members
wanting_later s t [] low = omega arith
wanting_later s t (m ∷ others) low =
    let rest = wanting_later s t others low in
    by (nat_lt s m.reach) (nat_lt t m.reach) (λ none. le-ltb t m.reach (let out = left none in omega (arith, low, out))) rest
  where
    left : nat_lt s m.reach ≡ false → m.reach ≤ s
    left none = elim (cases_lt s m.reach) [ inl less ↦ absurd (both_ways (nat_lt s m.reach) none (lt-ltb s m.reach less)) | inr more ↦ more ]

    by : (p q : Bool) → (p ≡ false → q ≡ false) → wanting s others ≤ wanting t others
        → (if p then wanting s others else suc (wanting s others)) ≤ (if q then wanting t others else suc (wanting t others))
    by true true more rest = rest
    by true false more rest = omega (arith, rest)
    by false true more rest = absurd (both_ways true (more refl) refl)
    by false false more rest = omega (arith, rest)

-- ---- one member's sector

-- its own sector is what was read
pub piece_is : (v w : View) (a b : RackView) (k sector : ℕ) (x : List ℕ) → IsArray v → Notes v w a b → k < width (row_layout v sector) → v.resync ≤ row_at sector
    → member_spent w k sector ≡ false
    → (IsOpen (shape_of v) v.number a → x ≡ restored (row_layout w sector) (row_of w (current_in a.held) sector) k)
    → IsOpen (shape_of v) v.number a → x ≡ current_in a.held (slice_on v k) (data_sector + sector)
piece_is v w a b k sector x is_array notes low left unspent value opened =
    let c = current_in a.held in
    let same = notes.same in
    let layout : row_layout w sector ≡ row_layout v sector = row_layout_then v w sector same.truth in
    let most = (row_layout_is v sector is_array).most in
    let count = count_same v w same in
    let low_w : k < width (row_layout w sector) = subst (λ (l : Layout). k < width l) (sym layout) low in
    let most_w : width (row_layout w sector) ≤ w.truth.raid_disks = subst (λ (l : Layout). width l ≤ w.truth.raid_disks) (sym layout) (omega (arith, most, count)) in
    let counts = counts_unspent w k sector (omega (arith, low_w, most_w)) (subst (λ r. r ≤ row_at sector) (sym same.resync) left) unspent in
    let own = restored_own w c (row_layout w sector) sector k (c (slice_on w k) (data_sector + sector)) most_w low_w (column_there c w.number sector (member_on w k) counts) in
    value opened ∙ sym own ∙ ap (λ d. c d (data_sector + sector)) (slice_same v w k same)

pub piece_counts : (v w : View) (a b : RackView) (k sector : ℕ) → IsArray v → Notes v w a b → k < width (row_layout v sector) → v.resync ≤ row_at sector
    → member_spent w k sector ≡ false → sector < (member_on v k).reach
piece_counts v w a b k sector is_array notes low left unspent =
    let most = (row_layout_is v sector is_array).most in
    let count = count_same v w notes.same in
    counted_before v w a b k sector notes
    (counts_unspent w k sector (omega (arith, low, most, count)) (subst (λ r. r ≤ row_at sector) (sym notes.same.resync) left) unspent)

-- one that is refused lacks
pub spent_lacks : (w : View) (k sector : ℕ) → member_spent w k sector ≡ true → 0 < wanting sector (members_of w)
spent_lacks w k sector spent = by (nat_lt sector (member_on w k).reach) (wanting sector (members_of w)) (nat_lt (row_at sector) w.resync) spent
  where
    by : (b : Bool) (n : ℕ) (synced : Bool) → (not b && spent_with n synced) ≡ true → 0 < n
    by true n synced is = absurd (both_ways false refl is)
    by false zero synced is = absurd (both_ways false refl is)
    by false (suc n) synced is = omega arith

-- ---- sums

pub added_none : (v : View) (c : Image) (sector k : ℕ) (sum : List ℕ) → is_source v sector k ≡ false → length sum ≡ 512 → sum ≡ xor sum (source_sector v c sector k)
added_none v c sector k sum none long = sym (ap (λ (b : Bool). xor sum (if b then c (slice_on v k) (data_sector + sector) else zeros 512)) none ∙ xor_zeros sum long)

pub added_one : (v : View) (c : Image) (sector k : ℕ) (sum next : List ℕ) → is_source v sector k ≡ true → next ≡ xor sum (c (slice_on v k) (data_sector + sector)) → next ≡ xor sum (source_sector v c sector k)
added_one v c sector k sum next is value = value ∙ sym (ap (λ (b : Bool). xor sum (if b then c (slice_on v k) (data_sector + sector) else zeros 512)) is)

pub no_sum : (v : View) (c : Image) (sector : ℕ) → row_sum v c sector 0 ≡ zeros 512
unfolding row_sum xor_all
no_sum v c sector = refl

pub range_more : (k : ℕ) → range_with_len 0 (k + 1) ≡ range_with_len 0 k ++ k ∷ []
range_more k = more 0 k ∙ ap (λ (j : ℕ). range_with_len 0 k ++ j ∷ []) (zero_more k)
  where
    zero_more : (k : ℕ) → 0 + k ≡ k
    zero_more k = omega arith

    one_more : (k : ℕ) → k + 1 ≡ suc k
    one_more k = omega arith

    more : (a k : ℕ) → range_with_len a (k + 1) ≡ range_with_len a k ++ (a + k) ∷ []
    more a zero = ap (λ (j : ℕ). j ∷ []) (omega arith)
    more a (suc k) =
        ap (range_with_len a) (one_more (suc k)) ∙ ap (λ xs. a ∷ xs) (ap (range_with_len (a + 1)) (sym (one_more k)) ∙ more (a + 1) k ∙ ap (λ (j : ℕ). range_with_len (a + 1) k ++ j ∷ []) (omega arith))

pub sum_more : (v : View) (c : Image) (sector k : ℕ) → row_sum v c sector (k + 1) ≡ xor (row_sum v c sector k) (source_sector v c sector k)
unfolding row_sum
sum_more v c sector k =
    let f = source_sector v c sector in
    let vs : List (List ℕ) = map f (range_with_len 0 k) in
    ap (λ js. xor_all 512 (map f js)) (range_more k)
    ∙ ap (xor_all 512) (map_join f (range_with_len 0 k) (k ∷ []))
    ∙ parity_restores.any_order 512 vs (f k) []
    ∙ ap (λ ws. xor (f k) (xor_all 512 ws)) (append-nil vs)
    ∙ xor_is_a_group.commutes (f k) (xor_all 512 vs)

-- by a view without the members that went, and by what reads kept
pub source_kept : (v u : View) (a b : RackView) (sector k : ℕ) → a.lasting → OnlyReads a b → Notes v u a b → k < v.truth.raid_disks
    → (is_source v sector k ≡ true → sector < (member_on v k).reach) → IsOpen (shape_of v) v.number a
    → source_sector u (current_in b.held) sector k ≡ source_sector v (current_in a.held) sector k
source_kept v u a b sector k lasting reads notes low counts opened =
    let layout = row_layout_then v u sector notes.same.truth in
    let source : is_source u sector k ≡ is_source v sector k = ap (λ (l : Layout). makes_others l sector k) layout in
    let slice = slice_same v u k notes.same in
    let Goal : Bool → Type 0 = λ t. is_source v sector k ≡ t
    → (if t then current_in b.held (slice_on u k) (data_sector + sector) else zeros 512) ≡ (if t then current_in a.held (slice_on v k) (data_sector + sector) else zeros 512) in
    let goal : Goal (is_source v sector k) = elim (is_source v sector k) as Goal [
      | false ↦ λ none. refl
      | true ↦ λ is.
          let among : Among (member_on v k) (shape_of v).members =
          subst (λ (ms : List Member). Among (member_on v k) ms) (sym (shape_members v)) (member_among v k v.truth.raid_disks low) in
          ap (λ d. current_in b.held d (data_sector + sector)) slice
          ∙ (reads.keeps.held (slice_on v k) (data_sector + sector) (live_on lasting reads.stays (opened (member_on v k) sector among (counts is)))).current
    ] in
    ap (λ (t : Bool). if t then current_in b.held (slice_on u k) (data_sector + sector) else zeros 512) source ∙ goal refl

-- one member more
pub sum_next : (v u : View) (a b : RackView) (sector k : ℕ) (sum next : List ℕ) → a.lasting → OnlyReads a b → Notes v u a b → k < v.truth.raid_disks
    → (is_source u sector k ≡ true → sector < (member_on u k).reach)
    → (IsOpen (shape_of v) v.number a → sum ≡ row_sum v (current_in a.held) sector k)
    → (IsOpen (shape_of u) u.number b → next ≡ xor sum (source_sector u (current_in b.held) sector k))
    → IsOpen (shape_of v) v.number a → next ≡ row_sum v (current_in a.held) sector (k + 1)
sum_next v u a b sector k sum next lasting reads notes low counts so_far here opened =
    let layout = row_layout_then v u sector notes.same.truth in
    let counted : is_source v sector k ≡ true → sector < (member_on v k).reach =
    λ is. counted_before v u a b k sector notes (counts (ap (λ (l : Layout). makes_others l sector k) layout ∙ is)) in
    here (open_calls v u a b lasting reads notes opened)
    ∙ ap₂ xor (so_far opened) (source_kept v u a b sector k lasting reads notes low counted opened)
    ∙ sym (sum_more v (current_in a.held) sector k)

pub counts_next : (v u : View) (a b : RackView) (sector k : ℕ) → Notes v u a b
    → (is_source u sector k ≡ true → sector < (member_on u k).reach) → SourcesCount v sector k → SourcesCount v sector (k + 1)
counts_next v u a b sector k notes counts so_far j low is =
    elim (cases_lt j k) [
      | inl less ↦ so_far j less is
      | inr more ↦
          let same : k ≡ j = omega (arith, more, low) in
          let layout = row_layout_then v u sector notes.same.truth in
          counted_before v u a b j sector notes
          (subst (λ i. sector < (member_on u i).reach) same (counts (ap (λ (l : Layout). makes_others l sector k) layout ∙ ap (is_source v sector) same ∙ is)))
    ]

-- the whole sum
pub sum_kept : (v u : View) (a b : RackView) (sector many : ℕ) → a.lasting → OnlyReads a b → Notes v u a b → many ≤ v.truth.raid_disks
    → SourcesCount v sector many → IsOpen (shape_of v) v.number a
    → row_sum u (current_in b.held) sector many ≡ row_sum v (current_in a.held) sector many
sum_kept v u a b sector zero lasting reads notes low counts opened = no_sum u (current_in b.held) sector ∙ sym (no_sum v (current_in a.held) sector)
sum_kept v u a b sector (suc k) lasting reads notes low counts opened =
    let more : (z : View) (c : Image) → row_sum z c sector (suc k) ≡ xor (row_sum z c sector k) (source_sector z c sector k) =
    λ z c. ap (row_sum z c sector) (let e : suc k ≡ k + 1 = omega arith in e) ∙ sum_more z c sector k in
    more u (current_in b.held)
    ∙ ap₂ xor
    (sum_kept v u a b sector k lasting reads notes (omega (arith, low)) (λ j less. counts j (omega (arith, less))) opened)
    (source_kept v u a b sector k lasting reads notes (omega (arith, low)) (λ is. counts k (omega arith) is) opened)
    ∙ sym (more v (current_in a.held))

-- ---- a view without the members that went

pub sector_then : (v u : View) (sector : ℕ) → IsSameButSeats v u → sector < v.truth.size → sector < u.truth.size
sector_then v u sector same low = subst (λ (t : Super). sector < t.size) (sym same.truth) low

pub row_left : (v u : View) (sector : ℕ) → IsSameButSeats v u → v.resync ≤ row_at sector → u.resync ≤ row_at sector
row_left v u sector same left = subst (λ r. r ≤ row_at sector) (sym same.resync) left

pub members_then : (v u : View) (sector members : ℕ) → IsSameButSeats v u → members ≡ width (row_layout v sector) → members ≡ width (row_layout u sector)
members_then v u sector members same is = is ∙ ap (λ (l : Layout). width l) (sym (row_layout_then v u sector same.truth))

pub is_not : (v : View) (t sector j k : ℕ) → t ≡ sector → j ≡ k → is_source v sector k ≡ true → is_source v t j ≡ false → ⊥
is_not v t sector j k at on is none = both_ways (is_source v t j) none (ap (λ s. is_source v s j) at ∙ ap (is_source v sector) on ∙ is)

-- ---- the sectors of a row

pub sector_in_row : (v : View) (row sector : ℕ) → IsArray v → row < v.truth.size / 128 → sector < row * 128 + 128 → sector < v.truth.size
sector_in_row v row sector is_array low inside = let whole = is_array.whole_rows in omega (arith, whole, low, inside)

pub lacks_at_last : (w : View) (row sector : ℕ) → sector < row * 128 + 128 → 0 < wanting sector (members_of w) → lacks_row w row ≡ true
lacks_at_last w row sector inside some =
    let more = wanting_later sector (row * 128 + 127) (members_of w) (omega (arith, inside)) in
    lt-ltb 0 (wanting (row * 128 + 127) (members_of w)) (omega (arith, some, more))
