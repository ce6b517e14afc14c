-- A new row of a reshape against the old rows on the same sectors of the members.
use Rattle.std.proofs.Common.{◌≡◌, ℕ, ◌+◌, ◌-◌, ◌*◌, ◌/◌, ◌%◌, ◌<◌, ◌≤◌, sym, ap, subst, ◌∙◌, inl, inr, arith}
use Rattle.std.proofs.Math.Nat.{div-add-mod, mul-le-mul_left, mul-le-mul_right}
use Rattle.std.proofs.lemmas.Bool.{cases_lt}
use Rattle.raid_map.specs.LeftSymmetric.{IsMemberCount, row_of}
use Rattle.raid_map.proofs.Rows.{rows_are_apart}
use Rattle.reshape_laws.specs.Ahead.{row_sectors, IsDirect}

-- positions, as the addresses count them
position_is : (k a : ℕ) → a * row_sectors k ≡ a * (k - 1) * 128
position_is k a = by (k - 1) a
  where
    by : (n a : ℕ) → a * (128 * n) ≡ a * n * 128
    by n a = grind arith

pub new_count : (k : ℕ) → 3 ≤ k → k ≤ 16 → IsMemberCount k
new_count k three most = record { least = omega (arith, three); most = most }

pub old_count : (k : ℕ) → 3 ≤ k → k ≤ 16 → IsMemberCount (k - 1)
old_count k three most = record { least = omega (arith, three); most = omega (arith, most) }

-- ---- new rows

-- the sectors below row a's are those of the new rows below it
pub below_row : (k a y : ℕ) → IsMemberCount k → y < a * row_sectors k → row_of k y < a
below_row k a y count low = ((rows_are_apart k count).array_end y a).1 (subst (λ p. y < p) (position_is k a) low)

pub past_row : (k a y : ℕ) → IsMemberCount k → a * row_sectors k ≤ y → a ≤ row_of k y
past_row k a y count high = elim (cases_lt (row_of k y) a) [
  | inr more ↦ more
  | inl less ↦
      let end = ((rows_are_apart k count).array_end y a).0 less in
      let at = position_is k a in
      absurd (omega (arith, end, at, high))
]

-- row a has just the sectors from its position on, as far as the next row's
pub in_row : (k a y : ℕ) → IsMemberCount k → a * row_sectors k ≤ y → y < (a + 1) * row_sectors k → row_of k y ≡ a
in_row k a y count high low =
    let least = past_row k a y count high in
    let most = below_row k (a + 1) y count low in
    omega (arith, least, most)

-- ---- old rows

old_past : (k b y : ℕ) → IsMemberCount (k - 1) → b * (k - 1 - 1) * 128 ≤ y → b ≤ row_of (k - 1) y
old_past k b y count high = elim (cases_lt (row_of (k - 1) y) b) [
  | inr more ↦ more
  | inl less ↦ (let end = ((rows_are_apart (k - 1) count).array_end y b).0 less in absurd (omega (arith, end, high)))
]

fewer : (k b : ℕ) → b * (k - 1 - 1) * 128 ≤ b * (k - 1) * 128
fewer k b = mul-le-mul_right 128 (mul-le-mul_left b (omega arith))

-- THE LOGGED ROWS. What the new rows from a on are made of stands in the old rows from a on: a row that is moved never goes up the members.
-- So once those below a are moved, their write has left each sector that isn't.
pub made_of : (k a y : ℕ) → 3 ≤ k → k ≤ 16 → a * row_sectors k ≤ y → a ≤ row_of (k - 1) y
made_of k a y three most high =
    let at = position_is k a in
    let less = fewer k a in
    old_past k a y (old_count k three most) (omega (arith, at, less, high))

-- THE DIRECT ROW. Where it is direct, so does each sector that isn't moved before it: a row that is torn anywhere is used by none.
pub left_direct : (k a y : ℕ) → 3 ≤ k → k ≤ 16 → IsDirect k a → a * row_sectors k ≤ y → a < row_of (k - 1) y
left_direct k a y three most direct high =
    let at = position_is k a in
    let two : k - 1 - 1 ≡ k - 2 = omega arith in
    let less : (a + 1) * (k - 2) * 128 ≤ a * (k - 1) * 128 = mul-le-mul_right 128 direct in
    let same : (a + 1) * (k - 1 - 1) * 128 ≡ (a + 1) * (k - 2) * 128 = ap (λ (n : ℕ). (a + 1) * n * 128) two in
    let past = old_past k (a + 1) y (old_count k three most) (omega (arith, at, same, less, high)) in
    omega (arith, past)

-- and a row below it stands on other sectors
pub other_row : (k a y : ℕ) → IsMemberCount k → y < a * row_sectors k → row_of k y ≡ a → ⊥
other_row k a y count low same = let below = below_row k a y count low in omega (arith, below, same)

-- Rows are direct from the one on whose number is that of the old data members: with m of them the rows 0 to m - 1 are critical.
pub direct_from : (k a : ℕ) → 3 ≤ k → k - 2 ≤ a → IsDirect k a
direct_from k a three high = by (k - 2) (omega (arith, three)) high
  where
    by : (m : ℕ) → k - 1 ≡ m + 1 → m ≤ a → (a + 1) * m ≤ a * (k - 1)
    by m is low = subst (λ n. (a + 1) * m ≤ a * n) (sym is) (let e : (a + 1) * m ≡ a * m + m = grind arith in let f : a * (m + 1) ≡ a * m + a = grind arith in omega (arith, e, f, low))

pub direct_only : (k a : ℕ) → 3 ≤ k → IsDirect k a → k - 2 ≤ a
direct_only k a three direct = by (k - 2) (omega (arith, three)) direct
  where
    by : (m : ℕ) → k - 1 ≡ m + 1 → (a + 1) * m ≤ a * (k - 1) → m ≤ a
    by m is low =
        let low_is : (a + 1) * m ≤ a * (m + 1) = subst (λ n. (a + 1) * m ≤ a * n) is low in
        let e : (a + 1) * m ≡ a * m + m = grind arith in
        let f : a * (m + 1) ≡ a * m + a = grind arith in
        omega (arith, e, f, low_is)

-- ---- the whole

-- the position once all rows are moved is the end of the new array
pub whole_position : (k size : ℕ) → size % 128 ≡ 0 → size / 128 * row_sectors k ≡ (k - 1) * size
whole_position k size whole = by (size / 128) (k - 1) (omega (arith, whole))
  where
    by : (r n : ℕ) → size ≡ r * 128 → r * (128 * n) ≡ n * size
    by r n is = subst (λ s. r * (128 * n) ≡ n * s) (sym is) (let e : r * (128 * n) ≡ n * (r * 128) = grind arith in e)

-- a position between two rows is a whole number of them
pub position_rows : (k position : ℕ) → position % row_sectors k ≡ 0 → position ≡ position / row_sectors k * row_sectors k
position_rows k position whole = sym (div-add-mod position (row_sectors k)) ∙ ap (λ r. row_sectors k * (position / row_sectors k) + r) whole ∙ by (row_sectors k) (position / row_sectors k)
  where
    by : (n a : ℕ) → n * a + 0 ≡ a * n
    by n a = grind arith

-- and so is the one past the next rows
pub next_position : (k a many position : ℕ) → position ≡ a * row_sectors k → position + 128 * many * (k - 1) ≡ (a + many) * row_sectors k
next_position k a many position is = ap (λ p. p + 128 * many * (k - 1)) is ∙ by (k - 1) a many
  where
    by : (n a m : ℕ) → a * (128 * n) + 128 * m * n ≡ (a + m) * (128 * n)
    by n a m = grind arith
