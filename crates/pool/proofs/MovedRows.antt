-- Rows of a reshape that one commit has moved, as works in a row.
use Rattle.std.specs.Option.{option_map_or}
use Rattle.std.proofs.Common.{◌≡◌, ℕ, suc, ◌+◌, ◌-◌, ◌*◌, ◌/◌, ◌<◌, Bool, true, if◌then◌else◌, List, length, slice_get, Option, Some, refl, sym, ap, ap₂, subst, ◌∙◌, inl, arith}
use Rattle.std.proofs.lemmas.Nat.{div-mul-add}
use Rattle.array_image.specs.Supers.{is_reshaping, new_row}
use Rattle.array_model.specs.View.{View as ArrayView, IsArray, rows_of}
use Rattle.array_core.specs.Superblocks.{raised}
use Rattle.reshape_laws.specs.Ahead.{ahead_by, next_row, row_sectors}
use Rattle.reshape_laws.proofs.Addresses.{next_position, position_rows}
use Rattle.growth_laws.specs.Growing.{Lacks, Turns, moves}
use Rattle.growth_plan.specs.declared.ArrayNow.{ArrayNow}
use Rattle.growth_plan.specs.Doing.{rows_reshaped}
use Rattle.growth_plan.proofs.FirstRows.{reshape_stays}
use Rattle.lvm_group.specs.Runs.{Linear}
use Rattle.pool_state.specs.declared.contents.Work.{Work}
use Rattle.pool_state.specs.declared.contents.Work.TheVariants.{Reshape}
use Rattle.raid_laws.specs.Moves.{OnlyFailures}
use Rattle.raid_laws.specs.Raid.{Raid}
use Rattle.pool.specs.Works.{array_now, progress_by, rows_to_reshape, works_by}
use Rattle.pool.proofs.Counted.{first_by, now_at_number}
use Rattle.pool.proofs.InRow.{works_after}
use Rattle.pool.proofs.LastRow.{AreRows, LastRow, after_rows, last_row}

-- ---- one array

-- its events are no part of the works
only_events : (u : ArrayView) (rows e f : ℕ) → OnlyFailures (ahead_by u rows e) (ahead_by u rows f)
only_events u rows e f = record {
  same = record {
    number = refl;
    geometry = record { set = refl; level = refl; size = refl; disks = refl; roles = refl; features = refl; position = refl };
    devices = refl;
    resync = refl;
    young = refl;
  };
  seats = λ k. inl refl;
}

-- one row more
only_more : (u : ArrayView) (rows e f g : ℕ) → OnlyFailures (ahead_by (ahead_by u rows e) 1 f) (ahead_by u (suc rows) g)
only_more u rows e f g = record {
  same = record {
    number = refl;
    geometry = record { set = refl; level = refl; size = refl; disks = refl; roles = refl; features = refl; position = by u.truth.reshape_position rows (u.truth.raid_disks - 1) };
    devices = refl;
    resync = refl;
    young = refl;
  };
  seats = λ k. inl refl;
}
  where
    by : (p n x : ℕ) → p + 128 * suc n * x ≡ p + 128 * n * x + 128 * 1 * x
    by p n x = grind arith

-- the same rows of two
only_both : (u w : ArrayView) (rows e f : ℕ) → OnlyFailures u w → OnlyFailures (ahead_by u rows e) (ahead_by w rows f)
only_both u w rows e f only =
    let g = only.same.geometry in
    record {
      same = record {
        number = only.same.number;
        geometry = record {
          set = g.set;
          level = g.level;
          size = g.size;
          disks = g.disks;
          roles = g.roles;
          features = g.features;
          position = ap₂ (λ (p d : ℕ). p + 128 * rows * (d - 1)) g.position g.disks;
        };
        devices = only.same.devices;
        resync = only.same.resync;
        young = only.same.young;
      };
      seats = only.seats;
    }

-- the rows that it has still to move
reshape_now : (extent rows : ℕ) (u : ArrayView) → IsArray u → is_reshaping u.truth ≡ true
    → array_now extent (ahead_by u rows u.truth.events) ≡ rows_reshaped rows (array_now extent u)
reshape_now extent rows u is_array reshaping =
    let k = u.truth.raid_disks in
    let parts = is_array.reshape reshaping in
    let three = parts.1 in
    let at : u.truth.reshape_position + 128 * rows * (k - 1) ≡ (next_row u + rows) * row_sectors k + 0 =
    next_position k (next_row u) rows u.truth.reshape_position (position_rows k u.truth.reshape_position parts.2)
    ∙ (let e : (next_row u + rows) * row_sectors k ≡ (next_row u + rows) * row_sectors k + 0 = omega arith in e) in
    let next : (u.truth.reshape_position + 128 * rows * (k - 1)) / row_sectors k ≡ next_row u + rows =
    ap (λ p. p / row_sectors k) at ∙ div-mul-add (next_row u + rows) (row_sectors k) 0 (omega (arith, three)) in
    let less : rows_to_reshape (ahead_by u rows u.truth.events) ≡ rows_to_reshape u - rows =
    ap (λ (b : Bool). if b then rows_of u - (u.truth.reshape_position + 128 * rows * (k - 1)) / new_row u.truth else 0) reshaping
    ∙ ap (λ n. rows_of u - n) next ∙ (let e : rows_of u - (next_row u + rows) ≡ rows_of u - next_row u - rows = omega arith in e)
    ∙ ap (λ (b : Bool). (if b then rows_of u - u.truth.reshape_position / new_row u.truth else 0) - rows) (sym reshaping) in
    ap (λ (n : ℕ). record (array_now extent u) { reshape = n }) less

-- ---- the book

-- so many rows are moved, with the events that the array had
abbrev still : ℕ → ArrayView → ArrayView
still rows u = ahead_by u rows u.truth.events

are_moves : (m : ℕ) → AreRows m (Reshape m) (moves m) (λ rows u. ahead_by u rows (raised u.truth.events)) still
are_moves m = record {
  changes = λ rows v. refl;
  own = λ v. refl;
  linear = λ l v. refl;
  raises = λ rows u. refl;
  stays = λ rows u. refl;
  alike = λ rows u. only_events u rows (raised u.truth.events) u.truth.events;
  further = λ rows u. only_more u rows u.truth.events (raised u.truth.events) (raised u.truth.events);
  both = λ rows u w only. only_both u w rows u.truth.events w.truth.events only;
}

-- Rows of array m by the book v, the first of which is the first work that is left.
module _ (l : Linear) (v : Raid) (m : ℕ) (some : 0 < length v.state.drives.items) (low : m < v.state.made) (is_array : IsArray (v.arrays m))
    (reshaping : is_reshaping (v.arrays m).truth ≡ true) (first : slice_get (works_by l v) 0 ≡ Some (Reshape m)) where
  -- a row is the first work until the last one is moved
  move_first_at : (rows : ℕ) → rows < rows_of (v.arrays m) - next_row (v.arrays m) → slice_get (works_by l (after_rows still m rows v)) 0 ≡ Some (Reshape m)
  move_first_at rows few =
      let left : rows_to_reshape (v.arrays m) ≡ rows_of (v.arrays m) - next_row (v.arrays m) =
      ap (λ (b : Bool). if b then rows_of (v.arrays m) - (v.arrays m).truth.reshape_position / new_row (v.arrays m).truth else 0) reshaping in
      ap (λ (ws : List Work). slice_get ws 0)
      (works_after l (still rows) m 1 v (rows_reshaped rows) some (reshape_now v.state.extent rows (v.arrays m) is_array reshaping))
      ∙ reshape_stays v.state (progress_by l v) m rows (first_by l v (Reshape m) some first)
      (subst (λ (o : Option ArrayNow). rows < option_map_or (λ (x : ArrayNow). x.reshape) o 0) (sym (now_at_number v m low)) (subst (λ k. rows < k) (sym left) few))

  pub last_moved : (rows : ℕ) (w : Raid) (answered : Bool) → rows < rows_of (v.arrays m) - next_row (v.arrays m)
      → (turns : Turns (moves m (suc rows)) (Lacks (Reshape m)) v w answered) → turns.is_done ≡ true → LastRow l v (Reshape m) rows w answered
  last_moved =
      last_row m (Reshape m) (moves m) (λ rows u. ahead_by u rows (raised u.truth.events)) still (are_moves m) l v (rows_of (v.arrays m) - next_row (v.arrays m)) low first
      move_first_at (λ rows mid w loses lacks. lacks)
