-- The array after each step: what holds of each array holds of it, and its truth has the fields that a pool writes.
use Rattle.std.proofs.Common.{◌≡◌, ℕ, ◌+◌, ◌-◌, ◌*◌, ◌/◌, ◌%◌, ◌<◌, ◌≤◌, Bool, true, false, if◌then◌else◌, refl, ap, ◌∙◌, inl, inr, arith}
use Rattle.std.proofs.Math.Nat.{mul-le-mul_right}
use Rattle.std.proofs.lemmas.Bool.{both_ways, cases_lt}
use Rattle.std.proofs.lemmas.Nat.{mod-mul-add}
use Rattle.md_super.specs.Profile.{is_mirror}
use Rattle.array_image.specs.Supers.{is_reshaping, new_row}
use Rattle.array_image.specs.SoundArray.{IsWrittenSuper}
use Rattle.array_model.specs.View.{View, IsArray, rows_of}
use Rattle.reshape_laws.specs.Ahead.{ahead_by, finished, next_row, row_sectors, taken_over}
use Rattle.reshape_laws.proofs.Addresses.{next_position, position_rows, whole_position}

-- ---- the next row

module _ (v : View) (is_array : IsArray v) (reshaping : is_reshaping v.truth ≡ true) where
  cut : v.truth.reshape_position ≡ next_row v * row_sectors v.truth.raid_disks
  cut = position_rows v.truth.raid_disks v.truth.reshape_position (is_array.reshape reshaping).2

  -- the next row is one of the members' data
  pub row_left : v.truth.reshape_position < (v.truth.raid_disks - 1) * v.truth.size → next_row v < rows_of v
  row_left left = elim (cases_lt (next_row v) (v.truth.size / 128)) [
    | inl low ↦ low
    | inr past ↦
        let more : v.truth.size / 128 * row_sectors v.truth.raid_disks ≤ next_row v * row_sectors v.truth.raid_disks = mul-le-mul_right (row_sectors v.truth.raid_disks) past in
        let whole = whole_position v.truth.raid_disks v.truth.size is_array.whole_rows in
        let at = cut in
        absurd (omega (arith, more, whole, at, left))
  ]

-- ---- the next rows

module _ (v : View) (many events : ℕ) (is_array : IsArray v) (reshaping : is_reshaping v.truth ≡ true) (left : next_row v + many ≤ rows_of v) where
  next_cut : v.truth.reshape_position + 128 * many * (v.truth.raid_disks - 1) ≡ (next_row v + many) * row_sectors v.truth.raid_disks
  next_cut = next_position v.truth.raid_disks (next_row v) many v.truth.reshape_position (cut v is_array reshaping)

  next_whole : (v.truth.reshape_position + 128 * many * (v.truth.raid_disks - 1)) % new_row v.truth ≡ 0
  next_whole =
      let three = (is_array.reshape reshaping).1 in
      ap (λ p. p % row_sectors v.truth.raid_disks)
      (next_cut ∙ (let e : (next_row v + many) * row_sectors v.truth.raid_disks ≡ (next_row v + many) * row_sectors v.truth.raid_disks + 0 = omega arith in e))
      ∙ mod-mul-add (next_row v + many) (row_sectors v.truth.raid_disks) 0 (omega (arith, three))

  pub next_inside : v.truth.reshape_position + 128 * many * (v.truth.raid_disks - 1) ≤ (v.truth.raid_disks - 1) * v.truth.size
  next_inside =
      let more : (next_row v + many) * row_sectors v.truth.raid_disks ≤ v.truth.size / 128 * row_sectors v.truth.raid_disks = mul-le-mul_right (row_sectors v.truth.raid_disks) left in
      let whole = whole_position v.truth.raid_disks v.truth.size is_array.whole_rows in
      let at = next_cut in
      omega (arith, more, whole, at)

  pub ahead_by_array : IsArray (ahead_by v many events)
  ahead_by_array = record {
    few = is_array.few;
    level = is_array.level;
    least = is_array.least;
    most = is_array.most;
    seats = is_array.seats;
    devices = is_array.devices;
    small = is_array.small;
    whole_rows = is_array.whole_rows;
    placed = is_array.placed;
    synced = is_array.synced;
    reshape = λ is. let was = is_array.reshape reshaping in (was.0, was.1, next_whole);
  }

  pub ahead_written : (n : ℕ) → IsWrittenSuper n v.truth → IsWrittenSuper n (ahead_by v many events).truth
  ahead_written n written = record {
    name = written.name;
    times = written.times;
    roles = written.roles;
    step = written.step;
    next_level = written.next_level;
    next_layout = written.next_layout;
    next_chunk = written.next_chunk;
    position = next_whole;
    last_position = next_inside;
    no_position = λ is. absurd (both_ways (is_reshaping v.truth) is reshaping);
    resync = written.resync;
  }

-- ---- takeover

module _ (v : View) (events : ℕ) (is_array : IsArray v) (still : is_reshaping v.truth ≡ false) where
  few_disks : v.truth.raid_disks ≤ 16
  few_disks = by (is_mirror v.truth) is_array.most
    where
      by : (b : Bool) → v.truth.raid_disks ≤ (if b then 2 else 16) → v.truth.raid_disks ≤ 16
      by true few = omega (arith, few)
      by false few = few

  pub taken_array : IsArray (taken_over v events)
  taken_array = record {
    few = is_array.few;
    level = refl;
    least = is_array.least;
    most = few_disks;
    seats = is_array.seats;
    devices = is_array.devices;
    small = is_array.small;
    whole_rows = is_array.whole_rows;
    placed = is_array.placed;
    synced = is_array.synced;
    reshape = λ is. absurd (both_ways (is_reshaping v.truth) still is);
  }

  pub taken_written : (n : ℕ) → IsWrittenSuper n v.truth → IsWrittenSuper n (taken_over v events).truth
  taken_written n written = record {
    name = written.name;
    times = written.times;
    roles = written.roles;
    step = written.step;
    next_level = written.next_level;
    next_layout = written.next_layout;
    next_chunk = written.next_chunk;
    position = written.position;
    last_position = written.last_position;
    no_position = written.no_position;
    resync = written.resync;
  }

-- ---- finish

module _ (v : View) (events : ℕ) (is_array : IsArray v) where
  pub finished_array : IsArray (finished v events)
  finished_array = record {
    few = is_array.few;
    level = is_array.level;
    least = is_array.least;
    most = is_array.most;
    seats = is_array.seats;
    devices = is_array.devices;
    small = is_array.small;
    whole_rows = is_array.whole_rows;
    placed = is_array.placed;
    synced = is_array.synced;
    reshape = λ is. absurd (both_ways false refl is);
  }

  pub finished_written : (n : ℕ) → IsWrittenSuper n v.truth → IsWrittenSuper n (finished v events).truth
  finished_written n written = record {
    name = written.name;
    times = written.times;
    roles = written.roles;
    step = refl;
    next_level = refl;
    next_layout = refl;
    next_chunk = refl;
    position = zero_mod (new_row v.truth);
    last_position = omega arith;
    no_position = λ is. refl;
    resync = written.resync;
  }
    where
      zero_mod : (n : ℕ) → 0 % n ≡ 0
      zero_mod n = omega arith
