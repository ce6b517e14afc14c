use Rattle.std.proofs.Common.{◌≡◌, ◌≢◌, ℕ, ◌+◌, ◌-◌, ◌*◌, ◌/◌, ◌%◌, ◌<◌, ◌≤◌, ◌↔◌, ◌⊎◌, inl, inr, sym, ◌∙◌, ap, subst, refl, arith, Option, Some, None}
use Rattle.std.proofs.Math.Nat.{mod-eq_of_lt, add-mod_left, div-lt_iff_lt-mul}
use Rattle.std.proofs.lemmas.Bool.{cases_lt, cases_eq}
use Rattle.std.proofs.lemmas.Nat.{div-mul-add, mod-mul-add, div-add-mod', mod_below}
use Rattle.raid_map.specs.LeftSymmetric.{IsMemberCount, StandsAt, HasParity, HasOne, RowMembersDiffer, RowsApart, chunk_of, row_of, column_of, row_at, parity_of, parity_at, member_of, sector_of}

-- A column's member in a row whose parity stands q members before the last one: the columns go on
-- behind the parity, and wrap at the last member.
member_in_column : (n q d m : ℕ) → q < n → d + 1 < n → m ≡ (n - 1 - q + 1 + d) % n → ((d < q) × (m + q ≡ n + d)) ⊎ ((q ≤ d) × (m + q ≡ d))
member_in_column n q d m hq hd e =
    elim (cases_lt d q) [
      | inl h ↦
          let low : n - 1 - q + 1 + d < n = omega arith in
          let same : (n - 1 - q + 1 + d) % n ≡ n - 1 - q + 1 + d = mod-eq_of_lt low in
          inl (h, omega arith)
      | inr h ↦
          let split : n - 1 - q + 1 + d ≡ n + (d - q) = omega arith in
          let low : d - q < n = omega arith in
          let same : (n - 1 - q + 1 + d) % n ≡ d - q = ap (λ (v : ℕ). v % n) split ∙ add-mod_left n (d - q) ∙ mod-eq_of_lt low in
          inr (h, omega arith)
    ]

-- The member is none but the parity's.
pub member_is_apart : (n q d m : ℕ) → q < n → d + 1 < n → m ≡ (n - 1 - q + 1 + d) % n → m ≡ n - 1 - q → ⊥
member_is_apart n q d m hq hd e same =
    elim (member_in_column n q d m hq hd e) [ inl h ↦ omega (arith, h.0, h.1) | inr h ↦ omega (arith, h.0, h.1) ]

-- A row's member has one column.
pub same_column : (n q d e m : ℕ) → q < n → d + 1 < n → e + 1 < n → m ≡ (n - 1 - q + 1 + d) % n → m ≡ (n - 1 - q + 1 + e) % n → d ≡ e
same_column n q d e m hq hd he left right =
    elim (member_in_column n q d m hq hd left) [
      | inl h ↦ elim (member_in_column n q e m hq he right) [ inl k ↦ omega (arith, h.1, k.1) | inr k ↦ omega (arith, h.0, h.1, k.0, k.1) ]
      | inr h ↦ elim (member_in_column n q e m hq he right) [ inl k ↦ omega (arith, h.0, h.1, k.0, k.1) | inr k ↦ omega (arith, h.1, k.1) ]
    ]

-- a member other than the parity's has a column, the way back from the formula
pub record HasColumn (n q m d : ℕ) : Type 0 where
  pub below : d + 1 < n
  pub member : (n - 1 - q + 1 + d) % n ≡ m

pub column_of_member : (n q m : ℕ) → q < n → m < n → (m ≡ n - 1 - q → ⊥) → HasColumn n q m ((m + n - (n - 1 - q) - 1) % n)
column_of_member n q m hq hm ne =
    elim (cases_lt (m + q) n) [
      | inl h ↦
          let sum : m + n - (n - 1 - q) - 1 ≡ m + q = omega arith in
          let column : (m + n - (n - 1 - q) - 1) % n ≡ m + q = ap (λ (v : ℕ). v % n) sum ∙ mod-eq_of_lt h in
          let other : m ≢ n - 1 - q = ne in
          let split : n - 1 - q + 1 + (m + q) ≡ n + m = omega arith in
          record {
            below = omega arith;
            member = ap (λ (v : ℕ). (n - 1 - q + 1 + v) % n) column ∙ ap (λ (v : ℕ). v % n) split ∙ add-mod_left n m ∙ mod-eq_of_lt hm;
          }
      | inr h ↦
          let sum : m + n - (n - 1 - q) - 1 ≡ n + (m + q - n) = omega arith in
          let low : m + q - n < n = omega arith in
          let column : (m + n - (n - 1 - q) - 1) % n ≡ m + q - n = ap (λ (v : ℕ). v % n) sum ∙ add-mod_left n (m + q - n) ∙ mod-eq_of_lt low in
          let split : n - 1 - q + 1 + (m + q - n) ≡ m = omega arith in
          record {
            below = omega arith;
            member = ap (λ (v : ℕ). (n - 1 - q + 1 + v) % n) column ∙ ap (λ (v : ℕ). v % n) split ∙ mod-eq_of_lt hm;
          }
    ]

-- a place's sector of the array, put together from its row, column and offset
unfoldable pub sector_from : ℕ → ℕ → ℕ → ℕ → ℕ
sector_from n r d o = (r * (n - 1) + d) * 128 + o

pub row_of-sector_from : (n r d o : ℕ) → d < n - 1 → o < 128 → row_of n (sector_from n r d o) ≡ r
unfolding row_of sector_from
row_of-sector_from n r d o hd ho = ap (λ (c : ℕ). c / (n - 1)) (div-mul-add (r * (n - 1) + d) 128 o ho) ∙ div-mul-add r (n - 1) d hd

pub column_of-sector_from : (n r d o : ℕ) → d < n - 1 → o < 128 → column_of n (sector_from n r d o) ≡ d
unfolding column_of sector_from
column_of-sector_from n r d o hd ho = ap (λ (c : ℕ). c % (n - 1)) (div-mul-add (r * (n - 1) + d) 128 o ho) ∙ mod-mul-add r (n - 1) d hd

pub offset-sector_from : (n r d o : ℕ) → o < 128 → sector_from n r d o % 128 ≡ o
unfolding sector_from
offset-sector_from n r d o ho = mod-mul-add (r * (n - 1) + d) 128 o ho

-- the row of a sector's place is the sector's row
pub row_at-sector_of : (n x : ℕ) → row_at (sector_of n x) ≡ row_of n x
unfolding sector_of
row_at-sector_of n x = div-mul-add (row_of n x) 128 (x % 128) (omega arith)

pub offset-sector_of : (n x : ℕ) → sector_of n x % 128 ≡ x % 128
unfolding sector_of
offset-sector_of n x = mod-mul-add (row_of n x) 128 (x % 128) (omega arith)

-- a sector is its row, its column and its offset
pub sector_from-parts : (n x : ℕ) → x ≡ sector_from n (row_of n x) (column_of n x) (x % 128)
unfolding row_of column_of sector_from
sector_from-parts n x =
    let chunk : x / 128 / (n - 1) * (n - 1) + x / 128 % (n - 1) ≡ x / 128 = div-add-mod' (x / 128) (n - 1) in
    omega (arith, chunk, div-add-mod' x 128)

column_below : (n x : ℕ) → 2 ≤ n → column_of n x + 1 < n
unfolding column_of
column_below n x h =
    let some : 0 < n - 1 = omega arith in
    omega (arith, mod_below (x / 128) (n - 1) some)

row_phase : (n r : ℕ) → 2 ≤ n → r % n < n
row_phase n r h = mod_below r n (omega arith)

-- Two sectors of one row on one member are of one column.
column_of_same : (n x y : ℕ) → 2 ≤ n → row_of n x ≡ row_of n y → member_of n x ≡ member_of n y → column_of n x ≡ column_of n y
unfolding member_of parity_of
column_of_same n x y h rows members =
    same_column n (row_of n y % n) (column_of n x) (column_of n y) (member_of n y) (row_phase n (row_of n y) h) (column_below n x h) (column_below n y h)
    (sym members ∙ ap (λ (r : ℕ). (n - 1 - r % n + 1 + column_of n x) % n) rows) refl

-- Two sectors at one place are one.
pub stands_once : (n x y member sector : ℕ) → 2 ≤ n → StandsAt n x member sector → StandsAt n y member sector → x ≡ y
stands_once n x y member sector h left right =
    let sectors : sector_of n x ≡ sector_of n y = left.at_sector ∙ sym right.at_sector in
    let rows : row_of n x ≡ row_of n y = sym (row_at-sector_of n x) ∙ ap row_at sectors ∙ row_at-sector_of n y in
    let columns : column_of n x ≡ column_of n y = column_of_same n x y h rows (left.on_member ∙ sym right.on_member) in
    let offsets : x % 128 ≡ y % 128 = sym (offset-sector_of n x) ∙ ap (λ (s : ℕ). s % 128) sectors ∙ offset-sector_of n y in
    let same : sector_from n (row_of n x) (column_of n x) (x % 128) ≡ sector_from n (row_of n y) (column_of n y) (y % 128) = cc in
    sector_from-parts n x ∙ same ∙ sym (sector_from-parts n y)

-- Data stands where no parity does.
pub apart_from_parity : (n x : ℕ) → 2 ≤ n → member_of n x ≡ parity_at n (sector_of n x) → ⊥
unfolding member_of parity_of parity_at
apart_from_parity n x h same =
    member_is_apart n (row_of n x % n) (column_of n x) (member_of n x) (row_phase n (row_of n x) h) (column_below n x h) refl
    (same ∙ ap (λ (r : ℕ). n - 1 - r % n) (row_at-sector_of n x))

-- what `unplace` answers
unfoldable pub answer_of : ℕ → ℕ → ℕ → ℕ
answer_of n member sector = sector_from n (sector / 128) ((member + n - (n - 1 - sector / 128 % n) - 1) % n) (sector % 128)

pub stands_at_answer : (n member sector : ℕ) → 2 ≤ n → member < n → (member ≡ parity_at n sector → ⊥) → StandsAt n (answer_of n member sector) member sector
unfolding answer_of parity_at parity_of member_of sector_of
stands_at_answer n member sector h hm ne =
    let r : ℕ = sector / 128 in
    let found : HasColumn n (r % n) member ((member + n - (n - 1 - r % n) - 1) % n) = column_of_member n (r % n) member (row_phase n r h) hm ne in
    let d : ℕ = (member + n - (n - 1 - r % n) - 1) % n in
    let o : ℕ = sector % 128 in
    let low : d < n - 1 = omega (arith, found.below) in
    let small : o < 128 = omega arith in
    let row : row_of n (sector_from n r d o) ≡ r = row_of-sector_from n r d o low small in
    let column : column_of n (sector_from n r d o) ≡ d = column_of-sector_from n r d o low small in
    let offset : sector_from n r d o % 128 ≡ o = offset-sector_from n r d o small in
    record {
      on_member = ap (λ (v : ℕ). (n - 1 - v % n + 1 + column_of n (sector_from n r d o)) % n) row ∙ ap (λ (v : ℕ). (n - 1 - r % n + 1 + v) % n) column ∙ found.member;
      at_sector = omega (arith, row, offset);
    }

-- A chunk is its row and its column.
chunk_from : (n x y : ℕ) → row_of n x ≡ row_of n y → column_of n x ≡ column_of n y → chunk_of x ≡ chunk_of y
unfolding row_of column_of
chunk_from n x y rows columns =
    sym (div-add-mod' (x / 128) (n - 1)) ∙ ap (λ (r : ℕ). r * (n - 1) + x / 128 % (n - 1)) rows ∙ ap (λ (d : ℕ). y / 128 / (n - 1) * (n - 1) + d) columns ∙ div-add-mod' (y / 128) (n - 1)

pub row_members_differ : (n : ℕ) → IsMemberCount n → RowMembersDiffer n
unfolding member_of parity_at parity_of
row_members_differ n count =
    let h : 2 ≤ n = count.least in
    record {
      is_member = λ x. mod_below _ n (omega arith);
      parity_is_member = λ sector. omega arith;
      apart_from_parity = λ x same. apart_from_parity n x h same;
      apart = λ x y rows chunks members. chunks (
          let columns : column_of n x ≡ column_of n y = column_of_same n x y h rows members in
          chunk_from n x y rows columns);
    }

pub each_place_once : (n : ℕ) → IsMemberCount n → (member sector : ℕ) → member < n → HasParity n member sector ⊎ HasOne n member sector
each_place_once n count member sector hm =
    let h : 2 ≤ n = count.least in
    elim (cases_eq member (parity_at n sector)) [
      | inl same ↦ inl (record {
        parity = same;
        no_data = λ x stands. apart_from_parity n x h (stands.on_member ∙ same ∙ ap (parity_at n) (sym stands.at_sector));
      })
      | inr ne ↦
          let stands : StandsAt n (answer_of n member sector) member sector = stands_at_answer n member sector h hm ne in
          inr (record { no_parity = ne; x = answer_of n member sector; stands = stands; alone = λ y other. stands_once n y (answer_of n member sector) member sector h other stands })
    ]

pub rows_are_apart : (n : ℕ) → IsMemberCount n → RowsApart n
unfolding row_of
rows_are_apart n count =
    let some : 0 < n - 1 = omega (arith, count.least) in
    let wide : 0 < 128 = omega arith in
    record {
      row = row_at-sector_of n;
      offset = offset-sector_of n;
      members_end = λ sector r. div-lt_iff_lt-mul wide;
      array_end = λ x r. (
        (λ low. (div-lt_iff_lt-mul wide).0 ((div-lt_iff_lt-mul some).0 low)),
        (λ low. (div-lt_iff_lt-mul some).1 ((div-lt_iff_lt-mul wide).1 low)),
      );
    }

-- Nothing is answered where the parity stands.
pub none_is_data : (n member sector : ℕ) → 2 ≤ n → member ≡ parity_at n sector → (x : ℕ) → ◌≡◌ {A = Option ℕ} None (Some x) ↔ StandsAt n x member sector
none_is_data n member sector h same x = (
  (λ e. let no : ⊥ = cc in absurd no),
  (λ stands. absurd (apart_from_parity n x h (stands.on_member ∙ same ∙ ap (parity_at n) (sym stands.at_sector)))),
)

-- Elsewhere the answer is the one sector that stands there.
pub some_is_data : (n member sector : ℕ) → 2 ≤ n → member < n → (member ≡ parity_at n sector → ⊥) → (x : ℕ) → (Some (answer_of n member sector) ≡ Some x) ↔ StandsAt n x member sector
some_is_data n member sector h hm ne x =
    let stands : StandsAt n (answer_of n member sector) member sector = stands_at_answer n member sector h hm ne in (
      (λ e. let same : answer_of n member sector ≡ x = cc in subst (λ (v : ℕ). StandsAt n v member sector) same stands),
      (λ other. ap Some (stands_once n (answer_of n member sector) x member sector h stands other)),
    )

pub some_is_no_parity : (n member sector answer : ℕ) → (member ≡ parity_at n sector → ⊥) → ◌≡◌ {A = Option ℕ} (Some answer) None ↔ (member ≡ parity_at n sector)
some_is_no_parity n member sector answer ne = ((λ e. let no : ⊥ = cc in absurd no), (λ same. absurd (ne same)))
