-- The call that moves rows: which sectors of the array it reads, who gets a sector, and its commit.
use Rattle.std.proofs.Common.{◌≡◌, ℕ, ◌+◌, ◌-◌, ◌*◌, ◌/◌, ◌<◌, ◌≤◌, Bool, true, false, ◌==◌, nat_lt, if◌then◌else◌, List, [], length, Option, Some, None, refl, sym, ap, subst, ◌∙◌, inl, inr, eq-eqb, eqb-true, lt-ltb, le-ltb, ltb-false, arith}
use Rattle.std.proofs.lemmas.Bool.{both_ways, cases_lt}
use Rattle.rack.specs.Seen.{RackView}
use Rattle.rack.specs.Targets.{Target}
use Rattle.rack.specs.Sequences.{OnlyReads}
use Rattle.raid_map.specs.LeftSymmetric.{IsMemberCount, StandsAt, parity_at, parity_of, row_at, row_of, sector_of}
use Rattle.raid_map.proofs.Rows.{row_at-sector_of}
use Rattle.parity.specs.Xor.{xor, zeros}
use Rattle.md_super.specs.Profile.{is_mirror}
use Rattle.array_image.specs.Supers.{is_reshaping}
use Rattle.array_image.specs.SoundArray.{first_unsynced}
use Rattle.array_image.specs.Spent.{wanting}
use Rattle.array_image.specs.Arrays.{Member}
use Rattle.array_model.specs.View.{View, IsArray, member_on, rows_of, sectors_of, shape_of, spent_in}
use Rattle.md_super.specs.declared.superblock.Super.{Super}
use Rattle.array_model.specs.Members.{IsSameButSeats, members_of}
use Rattle.array_model.proofs.Filled.{two_want, xor_zeros}
use Rattle.array_model.proofs.Noting.{length_members}
use Rattle.array_model.proofs.RowWrites.{part_on}
use Rattle.array_model.proofs.Views.{shape_members}
use Rattle.array_core.specs.Stands.{blank}
use Rattle.array_core.specs.Superblocks.{raised}
use Rattle.reshape_laws.specs.Ahead.{ahead_by, next_row, row_sectors, sector_on}
use Rattle.reshape_laws.specs.Reshapes.{lacks_two}
use Rattle.reshape_laws.specs.Rows.{AddsPiece, ArePieces, IsAbsent, IsNewBytes, OfOneData, OfSectors, counts_in}
use Rattle.reshape_laws.proofs.Addresses.{below_row, in_row, position_rows}
use Rattle.reshape_laws.proofs.Ahead.{sector_on_own}
use Rattle.reshape_laws.proofs.Committing.{Step}
use Rattle.reshape_laws.proofs.Finishing.{no_mirror}
use Rattle.reshape_laws.proofs.NewRow.{AreRowsOf, new_rows_are, row_targets}
use Rattle.reshape_laws.proofs.Pieces.{no_pieces}
use Rattle.reshape_laws.proofs.StepsOf.{rows_step}
use Rattle.reshape_laws.proofs.Truths.{unspent_before}

pub blank_zeros : blank ≡ zeros 512
unfolding blank
blank_zeros = refl

-- what can't be had of an array without rows to resync lacks two members
pub spent_two : (v : View) (x : ℕ) → IsArray v → v.resync ≡ rows_of v → x < sectors_of v → spent_in v x ≡ true → lacks_two v ≡ true
spent_two v x is_array synced low spent = by (lacks_two v) refl
  where
    by : (b : Bool) → lacks_two v ≡ b → b ≡ true
    by true is = refl
    by false is = absurd (both_ways (spent_in v x) (unspent_before v is_array is synced x low) spent)

-- ---- which sector of the array stands at a sector of a new row

pub few_disks : (v : View) → IsArray v → v.truth.raid_disks ≤ 16
few_disks v is_array = by (is_mirror v.truth) is_array.most
  where
    by : (b : Bool) → v.truth.raid_disks ≤ (if b then 2 else 16) → v.truth.raid_disks ≤ 16
    by true few = omega (arith, few)
    by false few = few

pub member_count : (v : View) → IsArray v → IsMemberCount v.truth.raid_disks
member_count v is_array = record { least = is_array.least; most = few_disks v is_array }

pub stands_on : (k x position sector : ℕ) → 2 ≤ k → position < k → StandsAt k x position sector → x ≡ sector_on k position sector
stands_on k x position sector least low stands =
    sym (subst (λ s. sector_on k position s ≡ x) stands.at_sector
    (subst (λ p. sector_on k p (sector_of k x) ≡ x) stands.on_member (sector_on_own k x least (subst (λ p. p < k) (sym stands.on_member) low))))

-- it isn't moved yet
pub stands_left : (v : View) (x position sector : ℕ) → IsArray v → is_reshaping v.truth ≡ true → next_row v * 128 ≤ sector → StandsAt v.truth.raid_disks x position sector
    → v.truth.reshape_position ≤ x
stands_left v x position sector is_array reshaping least stands =
    let reshape = is_array.reshape reshaping in
    let cut = position_rows v.truth.raid_disks v.truth.reshape_position reshape.2 in
    elim (cases_lt x v.truth.reshape_position) [
      | inr more ↦ more
      | inl less ↦
          let row = row_at-sector_of v.truth.raid_disks x in
          let at : row_at sector ≡ row_of v.truth.raid_disks x = subst (λ s. row_at s ≡ row_of v.truth.raid_disks x) stands.at_sector row in
          let below : row_of v.truth.raid_disks x < next_row v =
          below_row v.truth.raid_disks (next_row v) x (member_count v is_array) (subst (λ p. x < p) cut less) in
          absurd (omega (arith, at, below, least))
    ]

-- the position of a row's parity, by the row's first sector
pub parity_first : (n sector first : ℕ) → IsMemberCount n → first ≡ sector / 128 * row_sectors n → parity_at n (sector_of n first) ≡ parity_at n sector
unfolding parity_at
parity_first n sector first count at =
    let least = count.least in
    ap (parity_of n)
    (row_at-sector_of n first
    ∙ in_row n (sector / 128) first count (omega (arith, at))
    (subst (λ f. f < (sector / 128 + 1) * row_sectors n) (sym at) (more (n - 1) (sector / 128) (omega (arith, least)))))
  where
    more : (m a : ℕ) → 1 ≤ m → a * (128 * m) < (a + 1) * (128 * m)
    more m a some =
        let sum = next m a in
        omega (arith, sum, some)
      where
        next : (m a : ℕ) → (a + 1) * (128 * m) ≡ a * (128 * m) + 128 * m
        next m a = grind arith

-- ---- the parity's position adds nothing

pub no_piece : (v : View) (a : RackView) (sector position : ℕ) (absent : Option ℕ) (sum : List ℕ) (xs : List Target) → length sum ≡ 512 → position ≡ parity_at v.truth.raid_disks sector
    → AddsPiece v a sector position absent sum sum xs xs
no_piece v a sector position absent sum xs long parity = record {
  bytes = [];
  old = λ apart. absurd (apart parity);
  sum_is =
      sym (xor_zeros sum long)
      ∙ sym (ap (λ (b : Bool). xor sum (if b then zeros 512 else [])) (eq-eqb position (parity_at v.truth.raid_disks sector) parity));
  adds =
      no_pieces v (OfOneData v.truth.raid_disks sector position absent) (λ t j u. u ≡ []) (if position == parity_at v.truth.raid_disks sector then 0 else 1) xs
      (λ t j is. is.3 (is.1 ∙ parity ∙ sym (ap (parity_at v.truth.raid_disks) is.0)));
}

-- ---- who gets a sector

pub absent_none : (v : View) (row : ℕ) → ((j : ℕ) → j < v.truth.raid_disks → counts_in v row j ≡ true) → IsAbsent v row row None
absent_none v row all = record { lacks = λ j low none. absurd (both_ways false refl none); others = λ j low other. all j low }

pub absent_one : (v : View) (row k : ℕ) → IsArray v → row < rows_of v → lacks_two v ≡ false → k < v.truth.raid_disks → counts_in v row k ≡ false → IsAbsent v row row (Some k)
absent_one v row k is_array inside few low lacks = record {
  lacks = λ j below same. subst (λ i. counts_in v row i ≡ false) (eqb-true k j same) lacks;
  others = λ j below other. by j below (λ at. both_ways (k == j) other (eq-eqb k j at)) (counts_in v row j) refl;
}
  where
    ends : row * 128 + 127 ≤ v.truth.size - 1
    ends = let whole = is_array.whole_rows in let last = inside in omega (arith, whole, last)

    wants : (j : ℕ) → counts_in v row j ≡ false → nat_lt (v.truth.size - 1) (member_on v j).reach ≡ false
    wants j none =
        let short = ltb-false (row * 128 + 127) (member_on v j).reach none in
        let end = ends in
        le-ltb (v.truth.size - 1) (member_on v j).reach (omega (arith, short, end))

    by : (j : ℕ) → j < v.truth.raid_disks → (k ≡ j → ⊥) → (b : Bool) → counts_in v row j ≡ b → b ≡ true
    by j below apart true is = refl
    by j below apart false is =
        let count : length (shape_of v).members ≡ v.truth.raid_disks = ap length (shape_members v) ∙ length_members v in
        let first = low in
        absurd (both_ways (lacks_two v) few
        (lt-ltb 1 (wanting (v.truth.size - 1) (members_of v))
        (subst (λ (ms : List Member). 1 < wanting (v.truth.size - 1) ms) (shape_members v)
        (two_want (v.truth.size - 1) k j (shape_of v).members (omega (arith, first, count)) (omega (arith, below, count)) apart
        (ap (λ (m : Member). nat_lt (v.truth.size - 1) m.reach) (part_on v k low) ∙ wants k lacks)
        (ap (λ (m : Member). nat_lt (v.truth.size - 1) m.reach) (part_on v j below) ∙ wants j is)))))

-- ---- its commit

-- what the call needs of an array, and what it has added for so many rows
pub record IsMoving (v : View) (many : ℕ) (absent : Option ℕ) (a : RackView) (own_data : List Target) : Type 0 where
  pub is_array : IsArray v
  pub reshaping : is_reshaping v.truth ≡ true
  pub left : next_row v + many ≤ rows_of v
  pub few : lacks_two v ≡ false
  pub synced : v.resync ≡ rows_of v
  pub unsynced : first_unsynced v.truth ≤ v.resync
  pub absent_is : IsAbsent v (next_row v) (next_row v + many - 1) absent
  pub rows : AreRowsOf v a many absent own_data

pub moving_step : (v : View) (many : ℕ) (absent : Option ℕ) (a b : RackView) (own_data : List Target) → a.lasting → OnlyReads a b → IsMoving v many absent a own_data
    → Step v (ahead_by v many (raised v.truth.events)).truth v.seats v.devices v.resync (λ m. ⊥) own_data a b
moving_step v many absent a b own_data lasting reads is =
    rows_step v many (raised v.truth.events) is.is_array is.reshaping (no_mirror v is.is_array is.reshaping) is.left is.few is.unsynced a b own_data is.rows.apart
    (row_targets v a many absent own_data is.absent_is is.rows)
    (λ rows s vals spent holds steady. new_rows_are v a b many absent own_data is.is_array is.reshaping lasting reads is.absent_is is.rows rows s vals spent holds steady)

pub moving_is : (v : View) (many : ℕ) (absent : Option ℕ) (a : RackView) (first : ℕ) (own_data : List Target) → IsArray v → is_reshaping v.truth ≡ true → first + many ≤ rows_of v
    → lacks_two v ≡ false → v.resync ≡ rows_of v → first_unsynced v.truth ≤ v.resync → first ≡ next_row v → IsAbsent v first (first + many - 1) absent
    → ArePieces v (OfSectors v.truth.raid_disks (first * 128) (many * 128) absent) (IsNewBytes v a) own_data
    → IsMoving v many absent a own_data
moving_is v many absent a first own_data is_array reshaping left few synced unsynced first_is absent_is pieces = record {
  is_array = is_array;
  reshaping = reshaping;
  left = subst (λ r. r + many ≤ rows_of v) first_is left;
  few = few;
  synced = synced;
  unsynced = unsynced;
  absent_is = subst (λ r. IsAbsent v r (r + many - 1) absent) first_is absent_is;
  rows = subst (λ r. ArePieces v (OfSectors v.truth.raid_disks (r * 128) (many * 128) absent) (IsNewBytes v a) own_data) first_is pieces;
}

-- an array that has lost members has no row to resync yet
pub rows_same : (v u : View) → IsSameButSeats v u → v.resync ≡ rows_of v → u.resync ≡ rows_of u
rows_same v u same synced = same.resync ∙ synced ∙ sym (ap (λ (t : Super). t.size / 128) same.truth)
