-- What is written for a valid state, and that it reads back.
use Rattle.std.proofs.Common.{◌≡◌, ℕ, zero, suc, ◌+◌, ◌-◌, ◌*◌, ◌%◌, ◌^◌, ◌<◌, ◌≤◌, true, ◌&&◌, List, [], ◌∷◌, ◌++◌, length, map, codes, replicate, get_or, lit<, lit≤, refl, sym, ap, ◌∙◌, Ok, arith, length-append}
use Rattle.std.specs.List.{flat_map, list_all, range_with_len}
use Rattle.std.proofs.lemmas.Bool.{and_from, and_parts, eq-eqb, le-leb, leb-true, ltb-true}
use Rattle.std.proofs.lemmas.List.{length-replicate}
use Rattle.std.proofs.Math.Nat.{mod-eq_of_lt}
use Rattle.byteorder.specs.Endian.{little_bytes, little_number}
use Rattle.shr_base.specs.Blocks.{bytes_at, number_at, put_at, put_all, Write}
use Rattle.shr_base.specs.Crc.{crc32_of}
use Rattle.shr_base.proofs.Blocks.{AreWide, is_apart, none, bytes_at-field, bytes_at-zeros, number_at-field, length-put_all, put_at-put_at}
use Rattle.pool_state.specs.declared.contents.Copied.{Copied}
use Rattle.pool_state.specs.declared.contents.Drive.{Drive}
use Rattle.pool_state.specs.declared.contents.Plan.{Plan}
use Rattle.pool_state.specs.declared.contents.Plan.TheVariants.{Nothing, Add, Replace}
use Rattle.pool_state.specs.declared.contents.State.{State}
use Rattle.pool_state.specs.Sector.{copied_of, count_of, decoded, drive_at, drive_offset, has_flags, has_right_sum, has_zeros, is_canonical, is_plan, is_state, is_well_formed, is_zero, plan_of, sum_of}
use Rattle.pool_state.specs.Valid.{has_arrays, has_epoch, has_places, is_drive, is_extent, is_valid, place_of}
use Rattle.pool_state.specs.Written.{drive_bytes, kind_of, table_of, HaveIds}
use Rattle.pool_state.proofs.DriveTable.{drives_read, has_flags-read, is_zero-replicate, length-drives, zeros_read}

-- each number of a state fits its field
pub record Fits (s : State) : Type 0 where
  pub pool : length s.pool.0 ≡ 16
  pub epoch : s.epoch < 2 ^ 64
  pub extent : s.extent < 2 ^ 32
  pub serial : s.serial < 2 ^ 32
  pub ids : HaveIds s.drives.items
  pub few : length s.drives.items ≤ 16

abbrev number : ℕ → ℕ → ℕ → Write
number offset width n = record { offset = offset; width = width; bytes = little_bytes width n }

abbrev bytes : ℕ → ℕ → List ℕ → Write
bytes offset width xs = record { offset = offset; width = width; bytes = xs }

-- the parts in the order in which they are written, the sum's but
abbrev pub fields : State → ℕ → List Write
fields s own =
    bytes 0 8 (codes "SHRPOOL1")
    ∷ number 8 4 1
    ∷ bytes 16 16 s.pool.0
    ∷ number 32 8 s.epoch
    ∷ number 40 4 s.extent
    ∷ number 44 1 (length s.drives.items)
    ∷ number 45 1 (own % 256)
    ∷ number 46 1 (kind_of s.plan)
    ∷ number 47 1 (place_of s.plan % 256)
    ∷ number 48 1 (s.made % 256)
    ∷ number 49 1 (s.joined % 256)
    ∷ number 56 4 s.serial
    ∷ bytes 64 448 (table_of s.drives.items)
    ∷ []

-- the sector before its sum is written
abbrev pub unsummed : State → ℕ → List ℕ
unsummed s own = put_all (fields s own) (replicate 512 0)

-- the sector with its sum
abbrev pub summed : State → ℕ → ℕ → List ℕ
summed s own sum = put_at 12 4 (little_bytes 4 sum) (unsummed s own)

plan_of-written : (plan : Plan) → plan_of (kind_of plan) (place_of plan) ≡ plan
plan_of-written Nothing = refl
plan_of-written (Add place) = refl
plan_of-written (Replace place) = refl

is_plan-written : (plan : Plan) → is_plan (kind_of plan) (place_of plan) ≡ true
is_plan-written Nothing = refl
is_plan-written (Add place) = refl
is_plan-written (Replace place) = refl

kind_of-small : (plan : Plan) → kind_of plan < 256 ^ 1
kind_of-small Nothing = lit< tt
kind_of-small (Add place) = lit< tt
kind_of-small (Replace place) = lit< tt

-- a sector with no fault says what its parts say
decoded-ok : (block : List ℕ) → is_state block ≡ true → has_right_sum block ≡ true → is_well_formed block ≡ true → decoded block ≡ Ok (copied_of block)
decoded-ok block named right formed = rw (named, right, formed) refl

length-table_of : (drives : List Drive) → HaveIds drives → length drives ≤ 16 → length (table_of drives) ≡ 448
length-table_of drives ids few =
    omega (arith, length-append (flat_map drive_bytes drives) (replicate (28 * (16 - length drives)) 0), length-drives drives ids, length-replicate {A = ℕ} (28 * (16 - length drives)) 0)

units_below : (drives : List Drive) → list_all is_drive drives ≡ true → (k : ℕ) (d : Drive) → k < length drives → (get_or drives k d).units < 2 ^ 64
units_below [] all k d below = absurd (omega arith)
units_below (e ∷ drives) all zero d below =
    let bounds = and_parts _ _ (and_parts _ _ all).0 in omega (arith, ltb-true e.units (2 ^ 41) bounds.1)
units_below (e ∷ drives) all (suc k) d below = units_below drives (and_parts _ _ all).1 k d (omega arith)

-- what a valid state bounds
record Bounds (s : State) (own : ℕ) : Type 0 where
  pub own_below : own < length s.drives.items
  pub place_below : place_of s.plan < length s.drives.items
  pub made : s.made ≤ 16
  pub joined : s.joined ≤ s.made
  pub units : (k : ℕ) (d : Drive) → k < length s.drives.items → (get_or s.drives.items k d).units < 2 ^ 64

bounds : (s : State) (own : ℕ) → is_valid s own ≡ true → Bounds s own
bounds s own valid =
    let rest = (and_parts (is_extent s.extent) (has_places s own && (has_arrays s && (list_all is_drive s.drives.items && has_epoch s))) valid).1 in
    let places = and_parts _ _ (and_parts _ _ rest).0 in
    let below = and_parts _ _ places.1 in
    let others = and_parts (has_arrays s) (list_all is_drive s.drives.items && has_epoch s) (and_parts _ _ rest).1 in
    let arrays = and_parts _ _ others.0 in
    let drives = (and_parts (list_all is_drive s.drives.items) (has_epoch s) others.1).0 in
    record {
      own_below = ltb-true own (length s.drives.items) below.0;
      place_below = ltb-true (place_of s.plan) (length s.drives.items) below.1;
      made = leb-true s.made 16 (and_parts _ _ arrays.0).1;
      joined = leb-true s.joined s.made (and_parts _ _ (and_parts _ _ arrays.1).1).0;
      units = units_below s.drives.items drives;
    }

module _ (s : State) (own sum : ℕ) (fits : Fits s) (valid : is_valid s own ≡ true) (sum_fits : sum < 2 ^ 32) where
  abbrev drives : List Drive
  drives = s.drives.items

  bound : Bounds s own
  bound = bounds s own valid

  abbrev all : List Write
  all = fields s own ++ number 12 4 sum ∷ []

  table_long : length (table_of drives) ≡ 448
  table_long = length-table_of drives fits.ids fits.few

  fields_wide : AreWide (fields s own)
  fields_wide = (refl, (refl, (fits.pool, (refl, (refl, (refl, (refl, (refl, (refl, (refl, (refl, (refl, (table_long, tt)))))))))))))

  all_wide : AreWide all
  all_wide = (refl, (refl, (fits.pool, (refl, (refl, (refl, (refl, (refl, (refl, (refl, (refl, (refl, (table_long, (refl, tt))))))))))))))

  abbrev whole : List ℕ
  whole = summed s own sum

  abbrev field : ℕ → Write
  field k = get_or all k none

  number_read : (k n : ℕ) → (field k).bytes ≡ little_bytes (field k).width n → n < 256 ^ (field k).width
      → number_at (field k).offset (field k).width whole ≡ n
  number_read k n spelled below = number_at-field k 512 n all (replicate 512 0) (length-replicate {A = ℕ} 512 0) refl all_wide spelled below

  bytes_read : (k : ℕ) → bytes_at (field k).offset (field k).width whole ≡ (field k).bytes
  bytes_read k = bytes_at-field k 512 all (replicate 512 0) (length-replicate {A = ℕ} 512 0) refl all_wide

  zero_read : (at size : ℕ) → at + size ≤ 512 → is_apart at size all ≡ true → is_zero (bytes_at at size whole) ≡ true
  zero_read at size within apart = ap is_zero (bytes_at-zeros 512 at size all within apart refl all_wide) ∙ is_zero-replicate size

  count_read : count_of whole ≡ length drives
  count_read = number_read 5 (length drives) refl (omega (arith, fits.few))

  own_read : number_at 45 1 whole ≡ own
  own_read = number_read 6 (own % 256) refl (omega arith) ∙ mod-eq_of_lt (omega (arith, bound.own_below, fits.few))

  kind_read : number_at 46 1 whole ≡ kind_of s.plan
  kind_read = number_read 7 (kind_of s.plan) refl (kind_of-small s.plan)

  place_read : number_at 47 1 whole ≡ place_of s.plan
  place_read = number_read 8 (place_of s.plan % 256) refl (omega arith) ∙ mod-eq_of_lt (omega (arith, bound.place_below, fits.few))

  made_read : number_at 48 1 whole ≡ s.made
  made_read = number_read 9 (s.made % 256) refl (omega arith) ∙ mod-eq_of_lt (omega (arith, bound.made))

  joined_read : number_at 49 1 whole ≡ s.joined
  joined_read = number_read 10 (s.joined % 256) refl (omega arith) ∙ mod-eq_of_lt (omega (arith, bound.made, bound.joined))

  list_read : map (λ place. drive_at place whole) (range_with_len 0 (count_of whole)) ≡ drives
  list_read =
      ap (λ (n : ℕ). map (λ place. drive_at place whole) (range_with_len 0 n)) count_read
      ∙ drives_read whole drives fits.ids fits.few (bytes_read 12) bound.units

  copied_read : copied_of whole ≡ record { state = s; own = own }
  unfolding copied_of
  copied_read = λ i. record {
    state = record {
      pool = record { 0 = bytes_read 2 i };
      epoch = number_read 3 s.epoch refl fits.epoch i;
      extent = number_read 4 s.extent refl fits.extent i;
      drives = record { items = list_read i };
      plan = ((λ j. plan_of (kind_read j) (place_read j)) ∙ plan_of-written s.plan) i;
      made = made_read i;
      joined = joined_read i;
      serial = number_read 11 s.serial refl fits.serial i;
    };
    own = own_read i;
  }

  named : is_state whole ≡ true
  named = and_from _ _ (eq-eqb _ _ (number_read 0 (little_number 8 (codes "SHRPOOL1")) refl (lit< tt))) (eq-eqb _ _ (number_read 1 1 refl (lit< tt)))

  zeros : has_zeros whole ≡ true
  unfolding has_zeros
  zeros =
      and_from _ _ (zero_read 50 6 (lit≤ tt) refl)
      (and_from _ _ (zero_read 60 4 (lit≤ tt) refl)
      (ap (λ (n : ℕ). is_zero (bytes_at (drive_offset n) (28 * (16 - n)) whole)) count_read
      ∙ ap is_zero (zeros_read whole drives fits.ids fits.few (bytes_read 12)) ∙ is_zero-replicate (28 * (16 - length drives))))

  canonical : is_canonical whole ≡ true
  unfolding is_canonical
  canonical =
      and_from _ _ (le-leb (count_of whole) 16 (omega (arith, count_read, fits.few)))
      (and_from _ _ zeros
      (and_from _ _ ((λ i. is_plan (kind_read i) (place_read i)) ∙ is_plan-written s.plan)
      (ap (λ (n : ℕ). has_flags n whole) count_read ∙ has_flags-read whole drives fits.ids fits.few (bytes_read 12) (length drives) (omega arith))))

  formed : is_well_formed whole ≡ true
  formed = and_from _ _ canonical (ap (λ (c : Copied). is_valid c.state c.own) copied_read ∙ valid)

  sum_read : sum ≡ crc32_of (unsummed s own) → sum_of whole ≡ sum
  unfolding sum_of
  sum_read is_sum =
      let long : length (unsummed s own) ≡ 512 = length-put_all 512 (fields s own) (replicate 512 0) (length-replicate {A = ℕ} 512 0) refl fields_wide in
      let restored : put_at 12 4 (replicate 4 0) whole ≡ unsummed s own
      = put_at-put_at 12 4 (little_bytes 4 sum) (replicate 4 0) (unsummed s own) (omega arith) refl
      (bytes_at-zeros 512 12 4 (fields s own) (lit≤ tt) refl refl fields_wide) in
      ap crc32_of restored ∙ sym is_sum

  -- a valid state reads back
  pub decoded-summed : sum ≡ crc32_of (unsummed s own) → decoded (summed s own sum) ≡ Ok (record { state = s; own = own })
  decoded-summed is_sum =
      let right : has_right_sum whole ≡ true = eq-eqb _ _ (number_read 13 sum refl sum_fits ∙ sym (sum_read is_sum)) in
      decoded-ok whole named right formed ∙ ap Ok copied_read
