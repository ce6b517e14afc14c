-- What is written for a superblock of 128 roles, and that it reads back.
use Rattle.std.proofs.Common.{◌≡◌, ℕ, ℤ, ◌+◌, ◌*◌, ◌^◌, ◌<◌, ◌≤◌, true, false, nat_lt, List, [], ◌∷◌, ◌++◌, length, take, replicate, get_or, FitsSigned, lit<, lit≤, refl, sym, ap, ◌∙◌, Ok, arith}
use Rattle.std.specs.Int.{w32, cast_unsigned, cast_signed}
use Rattle.std.specs.List.{flat_map}
use Rattle.std.proofs.lemmas.Bool.{and_from, eq-eqb, le-ltb}
use Rattle.std.proofs.lemmas.Int.{to_z-of_z}
use Rattle.std.proofs.Math.Facts.{Fits-of_z}
use Rattle.std.proofs.lemmas.List.{length-replicate, replicate-append-replicate, take_at}
use Rattle.byteorder.specs.Endian.{little_bytes}
use Rattle.shr_base.specs.Blocks.{bytes_at, number_at, signed_at, numbers_at, put_at, put_all, Write}
use Rattle.shr_base.specs.Sum.{md_sum_of}
use Rattle.shr_base.proofs.Blocks.{AreWide, is_apart, none, bytes_at-field, bytes_at-zeros, number_at-field, numbers_at-spelled, length-spelled, length-put_all, put_all-append, put_at-put_at}
use Rattle.md_super.specs.declared.superblock.Super.{Super}
use Rattle.md_super.specs.Layout.{decoded, fields_of, has_right_sum, is_md, max_dev, sum_of, LeavesZeros}

-- each number of a superblock fits its field
pub record Fits (s : Super) : Type 0 where
  pub feature_map : s.feature_map < 2 ^ 32
  pub set_id : length s.set_id.0 ≡ 16
  pub set_name : length s.set_name ≡ 32
  pub ctime : s.ctime < 2 ^ 64
  pub level : FitsSigned w32 s.level
  pub layout : s.layout < 2 ^ 32
  pub size : s.size < 2 ^ 64
  pub chunk : s.chunk < 2 ^ 32
  pub raid_disks : s.raid_disks < 2 ^ 32
  pub new_level : FitsSigned w32 s.new_level
  pub reshape_position : s.reshape_position < 2 ^ 64
  pub delta_disks : FitsSigned w32 s.delta_disks
  pub new_layout : s.new_layout < 2 ^ 32
  pub new_chunk : s.new_chunk < 2 ^ 32
  pub data_offset : s.data_offset < 2 ^ 64
  pub data_size : s.data_size < 2 ^ 64
  pub super_offset : s.super_offset < 2 ^ 64
  pub recovery_offset : s.recovery_offset < 2 ^ 64
  pub dev_number : s.dev_number < 2 ^ 32
  pub device_id : length s.device_id.0 ≡ 16
  pub utime : s.utime < 2 ^ 64
  pub events : s.events < 2 ^ 64
  pub resync_offset : s.resync_offset < 2 ^ 64
  pub roles : (k : ℕ) → get_or s.roles.items k 0 < 2 ^ 16
  pub count : length s.roles.items ≡ 128

-- a number in a field
abbrev number : ℕ → ℕ → ℕ → Write
number offset width n = record { offset = offset; width = width; bytes = little_bytes width n }

abbrev bytes : ℕ → ℕ → List ℕ → Write
bytes offset width xs = record { offset = offset; width = width; bytes = xs }

-- the fields in the order in which they are written, the sum's but
abbrev pub fields : Super → List Write
fields s =
    number 0 4 0xa92b4efc
    ∷ number 4 4 1
    ∷ number 8 4 s.feature_map
    ∷ bytes 16 16 s.set_id.0
    ∷ bytes 32 32 s.set_name
    ∷ number 64 8 s.ctime
    ∷ number 76 4 s.layout
    ∷ number 80 8 s.size
    ∷ number 88 4 s.chunk
    ∷ number 92 4 s.raid_disks
    ∷ number 104 8 s.reshape_position
    ∷ number 72 4 (cast_unsigned w32 s.level)
    ∷ number 100 4 (cast_unsigned w32 s.new_level)
    ∷ number 112 4 (cast_unsigned w32 s.delta_disks)
    ∷ number 116 4 s.new_layout
    ∷ number 120 4 s.new_chunk
    ∷ number 128 8 s.data_offset
    ∷ number 136 8 s.data_size
    ∷ number 144 8 s.super_offset
    ∷ number 152 8 s.recovery_offset
    ∷ number 160 4 s.dev_number
    ∷ bytes 168 16 s.device_id.0
    ∷ number 192 8 s.utime
    ∷ number 200 8 s.events
    ∷ number 208 8 s.resync_offset
    ∷ number 220 4 128
    ∷ bytes 256 256 (flat_map (little_bytes 2) s.roles.items)
    ∷ []

-- the block before its sum is written
abbrev pub unsummed : Super → List ℕ
unsummed s = put_all (fields s) (replicate 512 0)

-- the block with its sum
abbrev pub summed : Super → ℕ → List ℕ
summed s sum = put_at 216 4 (little_bytes 4 sum) (unsummed s)

-- a block with no fault says what its fields say
decoded-ok : (block : List ℕ) → is_md block ≡ true → max_dev block ≤ 384 → has_right_sum block ≡ true → decoded block ≡ Ok (fields_of block)
decoded-ok block md short right =
    let fits : nat_lt 384 (max_dev block) ≡ false = le-ltb 384 (max_dev block) short in
    rw (md, fits, right) refl

small : (z : ℤ) → FitsSigned w32 z → cast_unsigned w32 z < 2 ^ 32
small z fits = omega (arith, Fits-of_z fits)

module _ (s : Super) (sum : ℕ) (fits : Fits s) (sum_fits : sum < 2 ^ 32) where
  abbrev all : List Write
  all = fields s ++ number 216 4 sum ∷ []

  roles_long : length (flat_map (little_bytes 2) s.roles.items) ≡ 256
  roles_long = length-spelled s.roles.items ∙ ap (λ (n : ℕ). 2 * n) fits.count

  fields_wide : AreWide (fields s)
  fields_wide = (refl, (refl, (refl, (fits.set_id, (fits.set_name, (refl, (refl, (refl, (refl, (refl, (refl, (refl, (refl, (refl, (refl, (refl, (refl, (refl, (refl, (refl, (refl, (fits.device_id, (refl, (refl, (refl, (refl, (roles_long, tt)))))))))))))))))))))))))))

  all_wide : AreWide all
  all_wide = (refl, (refl, (refl, (fits.set_id, (fits.set_name, (refl, (refl, (refl, (refl, (refl, (refl, (refl, (refl, (refl, (refl, (refl, (refl, (refl, (refl, (refl, (refl, (fits.device_id, (refl, (refl, (refl, (refl, (roles_long, (refl, tt))))))))))))))))))))))))))))

  -- the block and the zeros behind it
  abbrev whole : List ℕ
  whole = put_all all (replicate 1024 0)

  abbrev field : ℕ → Write
  field k = get_or all k none

  number_read : (k n : ℕ) → (field k).bytes ≡ little_bytes (field k).width n → n < 256 ^ (field k).width
      → number_at (field k).offset (field k).width whole ≡ n
  number_read k n spelled below = number_at-field k 1024 n all (replicate 1024 0) (length-replicate {A = ℕ} 1024 0) refl all_wide spelled below

  bytes_read : (k : ℕ) → bytes_at (field k).offset (field k).width whole ≡ (field k).bytes
  bytes_read k = bytes_at-field k 1024 all (replicate 1024 0) (length-replicate {A = ℕ} 1024 0) refl all_wide

  counted : max_dev whole ≡ 128
  counted = number_read 25 128 refl (lit< tt)

  roles_read : numbers_at 256 2 (max_dev whole) whole ≡ s.roles.items
  roles_read = ap (λ (n : ℕ). numbers_at 256 2 n whole) counted ∙ numbers_at-spelled 256 128 s.roles.items whole fits.count fits.roles (bytes_read 26)

  level_read : signed_at 72 whole ≡ s.level
  level_read = ap (cast_signed w32) (number_read 11 (cast_unsigned w32 s.level) refl (small s.level fits.level)) ∙ to_z-of_z w32 s.level fits.level

  new_level_read : signed_at 100 whole ≡ s.new_level
  new_level_read = ap (cast_signed w32) (number_read 12 (cast_unsigned w32 s.new_level) refl (small s.new_level fits.new_level)) ∙ to_z-of_z w32 s.new_level fits.new_level

  delta_disks_read : signed_at 112 whole ≡ s.delta_disks
  delta_disks_read = ap (cast_signed w32) (number_read 13 (cast_unsigned w32 s.delta_disks) refl (small s.delta_disks fits.delta_disks)) ∙ to_z-of_z w32 s.delta_disks fits.delta_disks

  fields_read : fields_of whole ≡ s
  unfolding fields_of
  fields_read = λ i. record {
    feature_map = number_read 2 s.feature_map refl fits.feature_map i;
    set_id = record { 0 = bytes_read 3 i };
    set_name = bytes_read 4 i;
    ctime = number_read 5 s.ctime refl fits.ctime i;
    level = level_read i;
    layout = number_read 6 s.layout refl fits.layout i;
    size = number_read 7 s.size refl fits.size i;
    chunk = number_read 8 s.chunk refl fits.chunk i;
    raid_disks = number_read 9 s.raid_disks refl fits.raid_disks i;
    new_level = new_level_read i;
    reshape_position = number_read 10 s.reshape_position refl fits.reshape_position i;
    delta_disks = delta_disks_read i;
    new_layout = number_read 14 s.new_layout refl fits.new_layout i;
    new_chunk = number_read 15 s.new_chunk refl fits.new_chunk i;
    data_offset = number_read 16 s.data_offset refl fits.data_offset i;
    data_size = number_read 17 s.data_size refl fits.data_size i;
    super_offset = number_read 18 s.super_offset refl fits.super_offset i;
    recovery_offset = number_read 19 s.recovery_offset refl fits.recovery_offset i;
    dev_number = number_read 20 s.dev_number refl fits.dev_number i;
    device_id = record { 0 = bytes_read 21 i };
    utime = number_read 22 s.utime refl fits.utime i;
    events = number_read 23 s.events refl fits.events i;
    resync_offset = number_read 24 s.resync_offset refl fits.resync_offset i;
    roles = record { items = roles_read i };
  }

  magic_read : is_md whole ≡ true
  magic_read =
      and_from _ _ (eq-eqb _ _ (number_read 0 0xa92b4efc refl (lit< tt))) (eq-eqb _ _ (number_read 1 1 refl (lit< tt)))

  whole-summed : summed s sum ++ replicate 512 0 ≡ whole
  whole-summed =
      sym (put_all-append 512 all (replicate 512 0) (replicate 512 0) (length-replicate {A = ℕ} 512 0) refl all_wide)
      ∙ ap (put_all all) (replicate-append-replicate 512 512 0)

  abbrev unsummed_whole : List ℕ
  unsummed_whole = put_all (fields s) (replicate 1024 0)

  sum_read : sum ≡ md_sum_of (unsummed s) → sum_of whole ≡ sum
  unfolding sum_of
  sum_read is_sum =
      let long : length unsummed_whole ≡ 1024 = length-put_all 1024 (fields s) (replicate 1024 0) (length-replicate {A = ℕ} 1024 0) refl fields_wide in
      let restored : put_at 216 4 (replicate 4 0) whole ≡ unsummed_whole
      = put_at-put_at 216 4 (little_bytes 4 sum) (replicate 4 0) unsummed_whole (omega arith) refl
      (bytes_at-zeros 1024 216 4 (fields s) (lit≤ tt) refl refl fields_wide) in
      let parted : unsummed_whole ≡ unsummed s ++ replicate 512 0
      = ap (put_all (fields s)) (sym (replicate-append-replicate 512 512 0))
      ∙ put_all-append 512 (fields s) (replicate 512 0) (replicate 512 0) (length-replicate {A = ℕ} 512 0) refl fields_wide in
      ap (λ (n : ℕ). md_sum_of (take (256 + 2 * n) (put_at 216 4 (replicate 4 0) whole))) counted
      ∙ ap (λ (xs : List ℕ). md_sum_of (take 512 xs)) (restored ∙ parted)
      ∙ ap md_sum_of (take_at (unsummed s) (replicate 512 0) 512 (length-put_all 512 (fields s) (replicate 512 0) (length-replicate {A = ℕ} 512 0) refl fields_wide))
      ∙ sym is_sum

  -- a block with its sum, and zeros behind it, reads back
  pub decoded-summed : sum ≡ md_sum_of (unsummed s) → decoded (summed s sum ++ replicate 512 0) ≡ Ok s
  decoded-summed is_sum =
      let right : has_right_sum whole ≡ true = eq-eqb _ _ (number_read 27 sum refl sum_fits ∙ sym (sum_read is_sum)) in
      ap decoded whole-summed ∙ decoded-ok whole magic_read (omega (arith, counted)) right ∙ ap Ok fields_read

  pub LeavesZeros-summed : LeavesZeros (summed s sum)
  LeavesZeros-summed = record {
    behind_feature_map = zeros 12 4 (lit≤ tt) refl;
    behind_raid_disks = zeros 96 4 (lit≤ tt) refl;
    behind_new_chunk = zeros 124 4 (lit≤ tt) refl;
    behind_dev_number = zeros 164 4 (lit≤ tt) refl;
    behind_device_id = zeros 184 8 (lit≤ tt) refl;
    behind_max_dev = zeros 224 32 (lit≤ tt) refl;
  }
    where
      zeros : (at size : ℕ) → at + size ≤ 512 → is_apart at size all ≡ true → bytes_at at size (summed s sum) ≡ replicate size 0
      zeros at size within apart = bytes_at-zeros 512 at size all within apart refl all_wide
