-- Rows of a young array that one commit has zeroed, as works in a row.
use Rattle.std.specs.Option.{option_map_or}
use Rattle.std.proofs.Common.{◌≡◌, ℕ, suc, ◌+◌, ◌-◌, ◌*◌, ◌/◌, ◌<◌, ◌≤◌, ◌^◌, ◌||◌, nat_lt, Bool, true, false, if◌then◌else◌, List, length, slice_get, Option, Some, refl, sym, ap, ap₂, subst, ◌∙◌, inl, inr, lt-ltb, le-ltb, ltb-true, arith}
use Rattle.std.proofs.lemmas.Bool.{cases_lt}
use Rattle.array_image.specs.SoundArray.{first_unsynced}
use Rattle.array_image.specs.Spent.{wanting}
use Rattle.array_model.specs.Members.{members_of}
use Rattle.array_model.specs.View.{View as ArrayView, IsArray, rows_of}
use Rattle.sync_laws.specs.Rows.{lacks_two}
use Rattle.sync_laws.specs.Steps.{offset_after, zeroed}
use Rattle.sync_laws.proofs.Summing.{wanting_later}
use Rattle.growth_laws.specs.Growing.{Lacks, Turns, is_ended, zeroes}
use Rattle.growth_plan.specs.declared.ArrayNow.{ArrayNow}
use Rattle.growth_plan.specs.Doing.{rows_zeroed}
use Rattle.growth_plan.proofs.FirstZeros.{zero_stays}
use Rattle.lvm_group.specs.Runs.{Linear}
use Rattle.pool_state.specs.declared.contents.Work.{Work}
use Rattle.pool_state.specs.declared.contents.Work.TheVariants.{Zero}
use Rattle.raid_laws.specs.Moves.{OnlyFailures}
use Rattle.raid_laws.specs.Raid.{Raid}
use Rattle.pool.specs.Works.{array_now, progress_by, rows_to_zero, works_by}
use Rattle.pool.proofs.Counted.{first_by, now_at_number}
use Rattle.pool.proofs.InRow.{works_after}
use Rattle.pool.proofs.LastRow.{AreRows, LastRow, after_rows, last_row, own_after}

-- ---- one array

-- so many rows are zeroed, with the events that the array had
abbrev still : ℕ → ArrayView → ArrayView
still rows u = record (zeroed u rows) { truth = record (zeroed u rows).truth { events = u.truth.events } }

-- its events are no part of the works
only_events : (u : ArrayView) (rows : ℕ) → OnlyFailures (zeroed u rows) (still rows u)
only_events u rows = record {
  same = record {
    number = refl;
    geometry = record { set = refl; level = refl; size = refl; disks = refl; roles = refl; features = refl; position = refl };
    devices = refl;
    resync = refl;
    young = refl;
  };
  seats = λ k. inl refl;
}

-- one row more
only_more : (u : ArrayView) (rows : ℕ) → OnlyFailures (zeroed (still rows u) 1) (zeroed u (suc rows))
only_more u rows = record {
  same = record {
    number = refl;
    geometry = record { set = refl; level = refl; size = refl; disks = refl; roles = refl; features = refl; position = refl };
    devices = refl;
    resync = refl;
    young = refl;
  };
  seats = λ k. inl refl;
}

-- the same rows of two
only_both : (u w : ArrayView) (rows : ℕ) → OnlyFailures u w → OnlyFailures (still rows u) (still rows w)
only_both u w rows only =
    let g = only.same.geometry in
    record {
      same = record {
        number = only.same.number;
        geometry = record {
          set = g.set;
          level = g.level;
          size = g.size;
          disks = g.disks;
          roles = g.roles;
          features = g.features;
          position = g.position;
        };
        devices = only.same.devices;
        resync = ap (λ k. k / 128) g.size;
        young = only.same.young;
      };
      seats = only.seats;
    }

-- the first row that is left then
row_after : (u : ArrayView) (rows : ℕ) → first_unsynced u.truth + rows < rows_of u → first_unsynced (still rows u).truth ≡ first_unsynced u.truth + rows
row_after u rows inside =
    let size = u.truth.size in
    let row = first_unsynced u.truth + rows in
    let offset : offset_after u row ≡ row * 128 = ap (λ (b : Bool). if b then row * 128 else 2 ^ 64 - 1) (lt-ltb row (rows_of u) inside) in
    ap (λ k. if nat_lt k size then k / 128 else size / 128) offset
    ∙ ap (λ (b : Bool). if b then row * 128 / 128 else size / 128) (lt-ltb (row * 128) size (omega (arith, inside)))
    ∙ (let e : row * 128 / 128 ≡ row = omega arith in e)

-- the rows that it has still to zero
zero_now : (extent rows : ℕ) (u : ArrayView) → u.young ≡ true → rows_of u ≤ u.resync → rows < rows_of u - first_unsynced u.truth
    → array_now extent (still rows u) ≡ rows_zeroed rows (array_now extent u)
zero_now extent rows u young synced few =
    let none : rows_of u - rows_of u ≡ rows_of u - u.resync = omega (arith, synced) in
    let less : rows_to_zero (still rows u) ≡ rows_to_zero u - rows =
    ap (λ (b : Bool). if b then rows_of u - first_unsynced (still rows u).truth else 0) young
    ∙ ap (λ k. rows_of u - k) (row_after u rows (omega (arith, few)))
    ∙ (let e : rows_of u - (first_unsynced u.truth + rows) ≡ rows_of u - first_unsynced u.truth - rows = omega arith in e)
    ∙ ap (λ (b : Bool). (if b then rows_of u - first_unsynced u.truth else 0) - rows) (sym young) in
    ap₂ (λ (r z : ℕ). record (array_now extent u) { resync = r; zero = z }) none less

-- ---- rows that two members lack

-- it has no row before that
row_later : (u : ArrayView) (rows : ℕ) → u.truth.size < 2 ^ 64 → first_unsynced u.truth ≤ first_unsynced (still rows u).truth
row_later u rows small =
    let size = u.truth.size in
    let row = first_unsynced u.truth + rows in
    let most : first_unsynced u.truth ≤ size / 128 = low u.truth.resync_offset size in
    elim (cases_lt row (rows_of u)) [
      | inl inside ↦ let is = row_after u rows inside in omega (arith, is)
      | inr past ↦
          let offset : offset_after u row ≡ 2 ^ 64 - 1 = ap (λ (b : Bool). if b then row * 128 else 2 ^ 64 - 1) (le-ltb row (rows_of u) past) in
          let all : first_unsynced (still rows u).truth ≡ size / 128 =
          ap (λ k. if nat_lt k size then k / 128 else size / 128) offset
          ∙ ap (λ (b : Bool). if b then (2 ^ 64 - 1) / 128 else size / 128) (le-ltb (2 ^ 64 - 1) size (omega (arith, small))) in
          omega (arith, all, most)
    ]
  where
    low : (offset size : ℕ) → (if nat_lt offset size then offset / 128 else size / 128) ≤ size / 128
    low offset size = elim (cases_lt offset size) [
      | inl below ↦ subst (λ (b : Bool). (if b then offset / 128 else size / 128) ≤ size / 128) (sym (lt-ltb offset size below)) (omega (arith, below))
      | inr above ↦ subst (λ (b : Bool). (if b then offset / 128 else size / 128) ≤ size / 128) (sym (le-ltb offset size above)) (omega arith)
    ]

-- two members that lack a row lack those behind it
lacks_later : (w : ArrayView) (j k : ℕ) → j ≤ k → lacks_two w j ≡ true → lacks_two w k ≡ true
lacks_later w j k later lacks =
    let two = ltb-true 1 (wanting (j * 128 + 127) (members_of w)) lacks in
    let more = wanting_later (j * 128 + 127) (k * 128 + 127) (members_of w) (omega (arith, later)) in
    lt-ltb 1 (wanting (k * 128 + 127) (members_of w)) (omega (arith, two, more))

still_lacking : (m rows : ℕ) (mid w : Raid) → (mid.arrays m).truth.size < 2 ^ 64 → Lacks (Zero m) mid w → Lacks (Zero m) (after_rows still m rows mid) w
still_lacking m rows mid w small lacks =
    subst (λ (u : ArrayView). (is_ended w || lacks_two (w.arrays m) (first_unsynced u.truth)) ≡ true) (sym (own_after still m rows mid))
    (by (is_ended w) (first_unsynced (mid.arrays m).truth) (first_unsynced (still rows (mid.arrays m)).truth) (row_later (mid.arrays m) rows small) lacks)
  where
    by : (ended : Bool) (j k : ℕ) → j ≤ k → (ended || lacks_two (w.arrays m) j) ≡ true → (ended || lacks_two (w.arrays m) k) ≡ true
    by true j k later is = refl
    by false j k later is = lacks_later (w.arrays m) j k later is

-- ---- the book

are_zeroes : (m : ℕ) → AreRows m (Zero m) (zeroes m) (λ rows u. zeroed u rows) still
are_zeroes m = record {
  changes = λ rows v. refl;
  own = λ v. refl;
  linear = λ l v. refl;
  raises = λ rows u. refl;
  stays = λ rows u. refl;
  alike = λ rows u. only_events u rows;
  further = λ rows u. only_more u rows;
  both = λ rows u w only. only_both u w rows only;
}

-- Rows of array m by the book v, the first of which is the first work that is left.
module _ (l : Linear) (v : Raid) (m : ℕ) (some : 0 < length v.state.drives.items) (low : m < v.state.made) (is_array : IsArray (v.arrays m)) (young : (v.arrays m).young ≡ true)
    (synced : rows_of (v.arrays m) ≤ (v.arrays m).resync) (first : slice_get (works_by l v) 0 ≡ Some (Zero m)) where
  -- a row is the first work until the last one is zeroed
  zero_first_at : (rows : ℕ) → rows < rows_of (v.arrays m) - first_unsynced (v.arrays m).truth → slice_get (works_by l (after_rows still m rows v)) 0 ≡ Some (Zero m)
  zero_first_at rows few =
      let left : rows_to_zero (v.arrays m) ≡ rows_of (v.arrays m) - first_unsynced (v.arrays m).truth =
      ap (λ (b : Bool). if b then rows_of (v.arrays m) - first_unsynced (v.arrays m).truth else 0) young in
      ap (λ (ws : List Work). slice_get ws 0)
      (works_after l (still rows) m 1 v (rows_zeroed rows) some (zero_now v.state.extent rows (v.arrays m) young synced few))
      ∙ zero_stays v.state (progress_by l v) m rows (first_by l v (Zero m) some first)
      (subst (λ (o : Option ArrayNow). rows < option_map_or (λ (x : ArrayNow). x.zero) o 0) (sym (now_at_number v m low)) (subst (λ k. rows < k) (sym left) few))

  pub last_zeroed : (rows : ℕ) (w : Raid) (answered : Bool) → rows < rows_of (v.arrays m) - first_unsynced (v.arrays m).truth
      → (turns : Turns (zeroes m (suc rows)) (Lacks (Zero m)) v w answered) → turns.is_done ≡ true → LastRow l v (Zero m) rows w answered
  last_zeroed =
      last_row m (Zero m) (zeroes m) (λ rows u. zeroed u rows) still (are_zeroes m) l v (rows_of (v.arrays m) - first_unsynced (v.arrays m).truth) low first
      zero_first_at
      (λ rows mid w loses lacks.
      let size = (loses.arrays m low).same.geometry.size in
      let small = is_array.small in
      still_lacking m rows mid w (omega (arith, size, small)) lacks)
