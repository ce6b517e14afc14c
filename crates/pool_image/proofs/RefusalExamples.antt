-- The refusals at the pool that is written out, with one or a few sectors changed.
use Rattle.std.specs.Prelude.{◌≡◌, ℕ, ◌==◌, if◌then◌else◌, List, ◌++◌, replicate, codes, Some, None, refl}
use Rattle.rack.specs.Seen.{Image}
use Rattle.std.specs.Fmt.{digits}
use Rattle.sha1.specs.Sha1.{sha1, first_words, schedule, rounds, compress, hash_after, digest_bytes}
use Rattle.shr_base.specs.Blocks.{bytes_at, number_at, put_at}
use Rattle.shr_base.specs.Crc.{times_x, times_x_to}
use Rattle.gpt_table.specs.Disk.{entries_bytes}
use Rattle.gpt_table.specs.Format.{slice_of, entries_of}
use Rattle.md_super.specs.Layout.{fields_of, sum_of as super_sum}
use Rattle.pool_state.specs.Sector.{drive_at, copied_of, has_zeros, is_canonical, sum_of}
use Rattle.raid_map.specs.LeftSymmetric.{member_of, parity_of, row_of, column_of, sector_of}
use Rattle.parity.specs.Xor.{xor, xor_all}
use Rattle.lvm_label.specs.Label.{label_of, label_in, areas_at, fields_at}
use Rattle.lvm_label.specs.Header.{header_of, locations_at}
use Rattle.lvm_text.specs.Words.{past_blanks, string_at, integer_at, item_at, body_at, value_at, first_value_at, separator_at, words_at}
use Rattle.lvm_text.specs.Group.{found_at, name_of, number_in, number_at as text_number_at, text_in, text_at, section_in, section_at, logical_volumes, each_at, pv_at, stripe_in, kind_at, segment_at, numbered, segment_numbered, segments_at, lv_at, group_at, group_in}
use Rattle.array_image.specs.Foremost.{foremost}
use Rattle.rack.specs.Targets.{look}
use Rattle.array_image.specs.Record.{gate_of, record_of, pending_at, pending}
use Rattle.array_image.specs.States.{current_places}
use Rattle.array_image.specs.Supers.{truth_in}
use Rattle.array_image.specs.Stripes.{there, at_position, given}
use Rattle.array_image.specs.Arrays.{shape_by, value_by}
use Rattle.pool_image.specs.Disks.{seat_of}
use Rattle.pool_image.specs.Replay.{extents_below, extent_by, standing}
use Rattle.pool_image.specs.Drives.{found, first_of, extent_of, slices_of}
use Rattle.pool_image.specs.Volumes.{group_on, group_in as the_group_in, is_bad}
use Rattle.lvm_group.specs.Group.{highest, runs_from, differ, follow, all_apart}
use Rattle.lvm_group.specs.Ids.{parted}
use Rattle.hex.specs.Hex.{encode_with}
use Rattle.pool_image.specs.Meaning.{in_table, in_state, in_log, in_superblock, no_pool, two_pools, absent, damaged, too_few, dirty_degraded, bad_volume, damage_of, refused_by, refusal_of, meaning}
use Rattle.pool_image.specs.Sound.{disks_without, image_without}
use Rattle.pool_image.proofs.WrittenPool.{digit, from_hex, sector, the_text, chunk, drive, pool, disks, but, header_0, entries_0, state_0, super_0, header_1, entries_1, state_1, super_1, header_2, entries_2, state_2, super_2, gate, label, text_header}

-- nothing refuses the pool as it is made
opens : refusal_of disks pool ≡ None
unfolding digits sha1 first_words schedule rounds compress hash_after digest_bytes bytes_at number_at put_at times_x times_x_to entries_bytes slice_of entries_of fields_of super_sum drive_at copied_of has_zeros is_canonical sum_of member_of parity_of row_of column_of sector_of xor xor_all label_of label_in areas_at fields_at header_of locations_at past_blanks string_at integer_at item_at body_at value_at first_value_at separator_at words_at found_at name_of number_in text_number_at text_in text_at section_in section_at logical_volumes each_at pv_at stripe_in kind_at segment_at numbered segment_numbered segments_at lv_at group_at group_in foremost look gate_of record_of pending_at pending current_places truth_in there at_position given shape_by value_by seat_of extents_below extent_by standing found first_of extent_of slices_of group_on the_group_in highest runs_from differ follow all_apart parted encode_with is_bad damage_of refused_by refusal_of meaning lib.Count.ones digit from_hex sector the_text chunk drive pool disks but header_0 entries_0 state_0 super_0 header_1 entries_1 state_1 super_1 header_2 entries_2 state_2 super_2 gate label text_header
opens = refl

-- no disk has a state
no_state : refusal_of disks (but 0 2048 (replicate 512 0) (but 1 2048 (replicate 512 0) (but 2 2048 (replicate 512 0) pool))) ≡ Some no_pool
unfolding digits sha1 first_words schedule rounds compress hash_after digest_bytes bytes_at number_at put_at times_x times_x_to entries_bytes slice_of entries_of fields_of super_sum drive_at copied_of has_zeros is_canonical sum_of member_of parity_of row_of column_of sector_of xor xor_all label_of label_in areas_at fields_at header_of locations_at past_blanks string_at integer_at item_at body_at value_at first_value_at separator_at words_at found_at name_of number_in text_number_at text_in text_at section_in section_at logical_volumes each_at pv_at stripe_in kind_at segment_at numbered segment_numbered segments_at lv_at group_at group_in foremost look gate_of record_of pending_at pending current_places truth_in there at_position given shape_by value_by seat_of extents_below extent_by standing found first_of extent_of slices_of group_on the_group_in highest runs_from differ follow all_apart parted encode_with is_bad damage_of refused_by refusal_of meaning lib.Count.ones digit from_hex sector the_text chunk drive pool disks but header_0 entries_0 state_0 super_0 header_1 entries_1 state_1 super_1 header_2 entries_2 state_2 super_2 gate label text_header
no_state = refl

-- the state of another pool, on drive 1
other_state : List ℕ
other_state = sector (from_hex (codes "534852504f4f4c310100000043cd4dc5000000000000000000000000000000000100000000000000800000000301000001010000000000000300000000000000397e0c7938a65b93816a91a2f8dc04680a00000000000000000000008ca2f55ff57459e2859af362377c2b5a0a0000000000000000000000715cd857cc9451279f27ddc76d824b7e14"))

-- two pools
other_pool : refusal_of disks (but 1 2048 other_state pool) ≡ Some two_pools
unfolding digits sha1 first_words schedule rounds compress hash_after digest_bytes bytes_at number_at put_at times_x times_x_to entries_bytes slice_of entries_of fields_of super_sum drive_at copied_of has_zeros is_canonical sum_of member_of parity_of row_of column_of sector_of xor xor_all label_of label_in areas_at fields_at header_of locations_at past_blanks string_at integer_at item_at body_at value_at first_value_at separator_at words_at found_at name_of number_in text_number_at text_in text_at section_in section_at logical_volumes each_at pv_at stripe_in kind_at segment_at numbered segment_numbered segments_at lv_at group_at group_in foremost look gate_of record_of pending_at pending current_places truth_in there at_position given shape_by value_by seat_of extents_below extent_by standing found first_of extent_of slices_of group_on the_group_in highest runs_from differ follow all_apart parted encode_with is_bad damage_of refused_by refusal_of meaning lib.Count.ones digit from_hex sector the_text chunk drive pool disks but header_0 entries_0 state_0 super_0 header_1 entries_1 state_1 super_1 header_2 entries_2 state_2 super_2 gate label text_header other_state
other_pool = refl

-- drive 1 alone
two_absent : refusal_of (record { count = 1; sectors = λ d. 79104 }) (λ d. pool 1) ≡ Some (absent 2)
unfolding digits sha1 first_words schedule rounds compress hash_after digest_bytes bytes_at number_at put_at times_x times_x_to entries_bytes slice_of entries_of fields_of super_sum drive_at copied_of has_zeros is_canonical sum_of member_of parity_of row_of column_of sector_of xor xor_all label_of label_in areas_at fields_at header_of locations_at past_blanks string_at integer_at item_at body_at value_at first_value_at separator_at words_at found_at name_of number_in text_number_at text_in text_at section_in section_at logical_volumes each_at pv_at stripe_in kind_at segment_at numbered segment_numbered segments_at lv_at group_at group_in foremost look gate_of record_of pending_at pending current_places truth_in there at_position given shape_by value_by seat_of extents_below extent_by standing found first_of extent_of slices_of group_on the_group_in highest runs_from differ follow all_apart parted encode_with is_bad damage_of refused_by refusal_of meaning lib.Count.ones digit from_hex sector the_text chunk drive pool disks but header_0 entries_0 state_0 super_0 header_1 entries_1 state_1 super_1 header_2 entries_2 state_2 super_2 gate label text_header other_state
two_absent = refl

-- a table of drive 1 whose second entry has another type
other_header : List ℕ
other_header = sector (from_hex (codes "4546492050415254000001005c00000006514cc8000000000100000000000000ff340100000000002200000000000000de340100000000005ff5a28c74f5e259859af362377c2b5a0200000000000000800000008000000081d180b7"))

other_entries : List ℕ
other_entries = sector (from_hex (codes "523c1f6b849d0a4ea7c152e8d03f9b76303272593bf2b151b15386a1639b1d380008000000000000ff270000000000000000000000000000000000000000000000000000000000000000000000000000000000000000000000000000000000000000000000000000000000000000000000000000000000000000000000000000523c1f6b849d0a4ea7c152e8d03f9b76cfb98edf30f4e05ea565d32e48bdb2b90028000000000000ff3c"))

-- the table comes before the state of one drive, and the lower drive before both of a higher one
other_type : refusal_of disks (but 1 1 other_header (but 1 2 other_entries (but 1 2048 (replicate 512 0) (but 2 1 (replicate 512 0) pool)))) ≡ Some (damaged 1 in_table)
unfolding digits sha1 first_words schedule rounds compress hash_after digest_bytes bytes_at number_at put_at times_x times_x_to entries_bytes slice_of entries_of fields_of super_sum drive_at copied_of has_zeros is_canonical sum_of member_of parity_of row_of column_of sector_of xor xor_all label_of label_in areas_at fields_at header_of locations_at past_blanks string_at integer_at item_at body_at value_at first_value_at separator_at words_at found_at name_of number_in text_number_at text_in text_at section_in section_at logical_volumes each_at pv_at stripe_in kind_at segment_at numbered segment_numbered segments_at lv_at group_at group_in foremost look gate_of record_of pending_at pending current_places truth_in there at_position given shape_by value_by seat_of extents_below extent_by standing found first_of extent_of slices_of group_on the_group_in highest runs_from differ follow all_apart parted encode_with is_bad damage_of refused_by refusal_of meaning lib.Count.ones digit from_hex sector the_text chunk drive pool disks but header_0 entries_0 state_0 super_0 header_1 entries_1 state_1 super_1 header_2 entries_2 state_2 super_2 gate label text_header other_state other_header other_entries
other_type = refl

-- the state comes before the log
bad_state : refusal_of disks (but 1 2048 (replicate 512 0) (but 1 2049 (replicate 512 0) pool)) ≡ Some (damaged 1 in_state)
unfolding digits sha1 first_words schedule rounds compress hash_after digest_bytes bytes_at number_at put_at times_x times_x_to entries_bytes slice_of entries_of fields_of super_sum drive_at copied_of has_zeros is_canonical sum_of member_of parity_of row_of column_of sector_of xor xor_all label_of label_in areas_at fields_at header_of locations_at past_blanks string_at integer_at item_at body_at value_at first_value_at separator_at words_at found_at name_of number_in text_number_at text_in text_at section_in section_at logical_volumes each_at pv_at stripe_in kind_at segment_at numbered segment_numbered segments_at lv_at group_at group_in foremost look gate_of record_of pending_at pending current_places truth_in there at_position given shape_by value_by seat_of extents_below extent_by standing found first_of extent_of slices_of group_on the_group_in highest runs_from differ follow all_apart parted encode_with is_bad damage_of refused_by refusal_of meaning lib.Count.ones digit from_hex sector the_text chunk drive pool disks but header_0 entries_0 state_0 super_0 header_1 entries_1 state_1 super_1 header_2 entries_2 state_2 super_2 gate label text_header other_state other_header other_entries
bad_state = refl

-- the log comes before the superblock
bad_log : refusal_of disks (but 1 2049 (replicate 512 0) (but 1 10248 (replicate 512 0) pool)) ≡ Some (damaged 1 in_log)
unfolding digits sha1 first_words schedule rounds compress hash_after digest_bytes bytes_at number_at put_at times_x times_x_to entries_bytes slice_of entries_of fields_of super_sum drive_at copied_of has_zeros is_canonical sum_of member_of parity_of row_of column_of sector_of xor xor_all label_of label_in areas_at fields_at header_of locations_at past_blanks string_at integer_at item_at body_at value_at first_value_at separator_at words_at found_at name_of number_in text_number_at text_in text_at section_in section_at logical_volumes each_at pv_at stripe_in kind_at segment_at numbered segment_numbered segments_at lv_at group_at group_in foremost look gate_of record_of pending_at pending current_places truth_in there at_position given shape_by value_by seat_of extents_below extent_by standing found first_of extent_of slices_of group_on the_group_in highest runs_from differ follow all_apart parted encode_with is_bad damage_of refused_by refusal_of meaning lib.Count.ones digit from_hex sector the_text chunk drive pool disks but header_0 entries_0 state_0 super_0 header_1 entries_1 state_1 super_1 header_2 entries_2 state_2 super_2 gate label text_header other_state other_header other_entries
bad_log = refl

-- a superblock of another set, of most events, with no roles
foreign_super : List ℕ
foreign_super = from_hex (codes "fc4e2ba9010000000000000000000000000000000000000000000000000000007368723a3000000000000000000000000000000000000000000000000000000000000000000000000500000002000000000d000000000000800000000300000000000000000000000000000000000000000000000000000000000000000000000008000000000000000d00000000000008000000000000000000000000000000010000000000000068f5e08fa1d0504ca821712d252ec087000000000000000000000000000000000900000000000000ffffffffffffffff94f00075800000000000000000000000000000000000000000000000000000000000000000000000ffffffffffff") ++ replicate 250 0xff

-- it says nothing of the array
foreign : refusal_of disks (but 1 10248 foreign_super pool) ≡ Some (damaged 1 in_superblock)
unfolding digits sha1 first_words schedule rounds compress hash_after digest_bytes bytes_at number_at put_at times_x times_x_to entries_bytes slice_of entries_of fields_of super_sum drive_at copied_of has_zeros is_canonical sum_of member_of parity_of row_of column_of sector_of xor xor_all label_of label_in areas_at fields_at header_of locations_at past_blanks string_at integer_at item_at body_at value_at first_value_at separator_at words_at found_at name_of number_in text_number_at text_in text_at section_in section_at logical_volumes each_at pv_at stripe_in kind_at segment_at numbered segment_numbered segments_at lv_at group_at group_in foremost look gate_of record_of pending_at pending current_places truth_in there at_position given shape_by value_by seat_of extents_below extent_by standing found first_of extent_of slices_of group_on the_group_in highest runs_from differ follow all_apart parted encode_with is_bad damage_of refused_by refusal_of meaning lib.Count.ones digit from_hex sector the_text chunk drive pool disks but header_0 entries_0 state_0 super_0 header_1 entries_1 state_1 super_1 header_2 entries_2 state_2 super_2 gate label text_header other_state other_header other_entries foreign_super
foreign = refl

-- an array without a valid superblock
no_truth : refusal_of disks (but 0 10248 foreign_super (but 1 10248 foreign_super (but 2 10248 foreign_super pool))) ≡ Some (too_few 0)
unfolding digits sha1 first_words schedule rounds compress hash_after digest_bytes bytes_at number_at put_at times_x times_x_to entries_bytes slice_of entries_of fields_of super_sum drive_at copied_of has_zeros is_canonical sum_of member_of parity_of row_of column_of sector_of xor xor_all label_of label_in areas_at fields_at header_of locations_at past_blanks string_at integer_at item_at body_at value_at first_value_at separator_at words_at found_at name_of number_in text_number_at text_in text_at section_in section_at logical_volumes each_at pv_at stripe_in kind_at segment_at numbered segment_numbered segments_at lv_at group_at group_in foremost look gate_of record_of pending_at pending current_places truth_in there at_position given shape_by value_by seat_of extents_below extent_by standing found first_of extent_of slices_of group_on the_group_in highest runs_from differ follow all_apart parted encode_with is_bad damage_of refused_by refusal_of meaning lib.Count.ones digit from_hex sector the_text chunk drive pool disks but header_0 entries_0 state_0 super_0 header_1 entries_1 state_1 super_1 header_2 entries_2 state_2 super_2 gate label text_header other_state other_header other_entries foreign_super
no_truth = refl

-- the superblock of drive 1 while it is being rebuilt, as far as its whole size
rebuilding_super : List ℕ
rebuilding_super = from_hex (codes "fc4e2ba9010000000200000000000000f96c74b3065e5150a516bc9095d350c97368723a3000000000000000000000000000000000000000000000000000000000000000000000000500000002000000000d000000000000800000000300000000000000000000000000000000000000000000000000000000000000000000000008000000000000000d0000000000000800000000000000000d000000000000010000000000000068f5e08fa1d0504ca821712d252ec087000000000000000000000000000000000100000000000000ffffffffffffffffccb2d3d2800000000000000000000000000000000000000000000000000000000000000000000000000001000200") ++ replicate 250 0xff

-- a member is rebuilding until its superblock says that it isn't: one more is too few
rebuilding : refusal_of (disks_without 0 disks) (image_without 0 (but 1 10248 rebuilding_super pool)) ≡ Some (too_few 0)
unfolding digits sha1 first_words schedule rounds compress hash_after digest_bytes bytes_at number_at put_at times_x times_x_to entries_bytes slice_of entries_of fields_of super_sum drive_at copied_of has_zeros is_canonical sum_of member_of parity_of row_of column_of sector_of xor xor_all label_of label_in areas_at fields_at header_of locations_at past_blanks string_at integer_at item_at body_at value_at first_value_at separator_at words_at found_at name_of number_in text_number_at text_in text_at section_in section_at logical_volumes each_at pv_at stripe_in kind_at segment_at numbered segment_numbered segments_at lv_at group_at group_in foremost look gate_of record_of pending_at pending current_places truth_in there at_position given shape_by value_by seat_of extents_below extent_by standing found first_of extent_of slices_of group_on the_group_in highest runs_from differ follow all_apart parted encode_with is_bad damage_of refused_by refusal_of meaning lib.Count.ones digit from_hex sector the_text chunk drive pool disks but header_0 entries_0 state_0 super_0 header_1 entries_1 state_1 super_1 header_2 entries_2 state_2 super_2 gate label text_header other_state other_header other_entries foreign_super rebuilding_super
rebuilding = refl

-- the superblock of drive 1 with all rows left to resync, of more events
dirty_super : List ℕ
dirty_super = from_hex (codes "fc4e2ba9010000000000000000000000f96c74b3065e5150a516bc9095d350c97368723a3000000000000000000000000000000000000000000000000000000000000000000000000500000002000000000d000000000000800000000300000000000000000000000000000000000000000000000000000000000000000000000008000000000000000d00000000000008000000000000000000000000000000010000000000000068f5e08fa1d0504ca821712d252ec0870000000000000000000000000000000002000000000000000000000000000000cba5d3d2800000000000000000000000000000000000000000000000000000000000000000000000000001000200") ++ replicate 250 0xff

-- one member is wanting, and rows are left to resync
dirty : refusal_of (disks_without 0 disks) (image_without 0 (but 1 10248 dirty_super pool)) ≡ Some (dirty_degraded 0)
unfolding digits sha1 first_words schedule rounds compress hash_after digest_bytes bytes_at number_at put_at times_x times_x_to entries_bytes slice_of entries_of fields_of super_sum drive_at copied_of has_zeros is_canonical sum_of member_of parity_of row_of column_of sector_of xor xor_all label_of label_in areas_at fields_at header_of locations_at past_blanks string_at integer_at item_at body_at value_at first_value_at separator_at words_at found_at name_of number_in text_number_at text_in text_at section_in section_at logical_volumes each_at pv_at stripe_in kind_at segment_at numbered segment_numbered segments_at lv_at group_at group_in foremost look gate_of record_of pending_at pending current_places truth_in there at_position given shape_by value_by seat_of extents_below extent_by standing found first_of extent_of slices_of group_on the_group_in highest runs_from differ follow all_apart parted encode_with is_bad damage_of refused_by refusal_of meaning lib.Count.ones digit from_hex sector the_text chunk drive pool disks but header_0 entries_0 state_0 super_0 header_1 entries_1 state_1 super_1 header_2 entries_2 state_2 super_2 gate label text_header other_state other_header other_entries foreign_super rebuilding_super dirty_super
dirty = refl

-- the text on member 0, and its parity on member 2, are lost
no_group : refusal_of disks (but 0 12297 (replicate 512 0) (but 2 12297 (replicate 512 0) pool)) ≡ Some (bad_volume 0)
unfolding digits sha1 first_words schedule rounds compress hash_after digest_bytes bytes_at number_at put_at times_x times_x_to entries_bytes slice_of entries_of fields_of super_sum drive_at copied_of has_zeros is_canonical sum_of member_of parity_of row_of column_of sector_of xor xor_all label_of label_in areas_at fields_at header_of locations_at past_blanks string_at integer_at item_at body_at value_at first_value_at separator_at words_at found_at name_of number_in text_number_at text_in text_at section_in section_at logical_volumes each_at pv_at stripe_in kind_at segment_at numbered segment_numbered segments_at lv_at group_at group_in foremost look gate_of record_of pending_at pending current_places truth_in there at_position given shape_by value_by seat_of extents_below extent_by standing found first_of extent_of slices_of group_on the_group_in highest runs_from differ follow all_apart parted encode_with is_bad damage_of refused_by refusal_of meaning lib.Count.ones digit from_hex sector the_text chunk drive pool disks but header_0 entries_0 state_0 super_0 header_1 entries_1 state_1 super_1 header_2 entries_2 state_2 super_2 gate label text_header other_state other_header other_entries foreign_super rebuilding_super dirty_super
no_group = refl

-- tables whose second entry has another type, on all drives
unfoldable typed_header_0 : List ℕ
typed_header_0 = sector (from_hex (codes "4546492050415254000001005c000000320f1f0e000000000100000000000000ff340100000000002200000000000000de34010000000000790c7e39a638935b816a91a2f8dc0468020000000000000080000000800000001afaebf2"))

unfoldable typed_entries_0 : List ℕ
typed_entries_0 = sector (from_hex (codes "523c1f6b849d0a4ea7c152e8d03f9b7621809e9119835758bd30fa79d3da87aa0008000000000000ff270000000000000000000000000000000000000000000000000000000000000000000000000000000000000000000000000000000000000000000000000000000000000000000000000000000000000000000000000000523c1f6b849d0a4ea7c152e8d03f9b76877658c39e7cf45dbae7a3746d9d59280028000000000000ff3c"))

unfoldable typed_header_1 : List ℕ
typed_header_1 = sector (from_hex (codes "4546492050415254000001005c00000006514cc8000000000100000000000000ff340100000000002200000000000000de340100000000005ff5a28c74f5e259859af362377c2b5a0200000000000000800000008000000081d180b7"))

unfoldable typed_entries_1 : List ℕ
typed_entries_1 = sector (from_hex (codes "523c1f6b849d0a4ea7c152e8d03f9b76303272593bf2b151b15386a1639b1d380008000000000000ff270000000000000000000000000000000000000000000000000000000000000000000000000000000000000000000000000000000000000000000000000000000000000000000000000000000000000000000000000000523c1f6b849d0a4ea7c152e8d03f9b76cfb98edf30f4e05ea565d32e48bdb2b90028000000000000ff3c"))

unfoldable typed_header_2 : List ℕ
typed_header_2 = sector (from_hex (codes "4546492050415254000001005c000000db86d93d000000000100000000000000ff390100000000002200000000000000de3901000000000057d85c7194cc27519f27ddc76d824b7e020000000000000080000000800000007395a099"))

unfoldable typed_entries_2 : List ℕ
typed_entries_2 = sector (from_hex (codes "523c1f6b849d0a4ea7c152e8d03f9b767c1fa7f50358ff5bb5147fc7be5bb3040008000000000000ff270000000000000000000000000000000000000000000000000000000000000000000000000000000000000000000000000000000000000000000000000000000000000000000000000000000000000000000000000000523c1f6b849d0a4ea7c152e8d03f9b76857ae2783c8dfb56915e1cb90e8aed990028000000000000ff3c"))

-- superblocks stand where the heights of the arrays put them, whatever the tables say
other_types : refusal_of disks (but 2 1 typed_header_2 (but 2 2 typed_entries_2 (but 1 1 typed_header_1 (but 1 2 typed_entries_1 (but 0 1 typed_header_0 (but 0 2 typed_entries_0 pool)))))) ≡ Some (damaged 0 in_table)
unfolding digits sha1 first_words schedule rounds compress hash_after digest_bytes bytes_at number_at put_at times_x times_x_to entries_bytes slice_of entries_of fields_of super_sum drive_at copied_of has_zeros is_canonical sum_of member_of parity_of row_of column_of sector_of xor xor_all label_of label_in areas_at fields_at header_of locations_at past_blanks string_at integer_at item_at body_at value_at first_value_at separator_at words_at found_at name_of number_in text_number_at text_in text_at section_in section_at logical_volumes each_at pv_at stripe_in kind_at segment_at numbered segment_numbered segments_at lv_at group_at group_in foremost look gate_of record_of pending_at pending current_places truth_in there at_position given shape_by value_by seat_of extents_below extent_by standing found first_of extent_of slices_of group_on the_group_in highest runs_from differ follow all_apart parted encode_with is_bad damage_of refused_by refusal_of meaning lib.Count.ones digit from_hex sector the_text chunk drive pool disks but header_0 entries_0 state_0 super_0 header_1 entries_1 state_1 super_1 header_2 entries_2 state_2 super_2 gate label text_header typed_header_0 typed_entries_0 typed_header_1 typed_entries_1 typed_header_2 typed_entries_2
other_types = refl

-- drives of 79104, 80384 and 80384 sectors with two arrays, and no superblock of the lower one
unfoldable two_layers_header_0 : List ℕ
two_layers_header_0 = sector (from_hex (codes "4546492050415254000001005c00000007172a4f000000000100000000000000ff340100000000002200000000000000de34010000000000790c7e39a638935b816a91a2f8dc0468020000000000000080000000800000000fda9970"))

unfoldable two_layers_entries_0 : List ℕ
two_layers_entries_0 = sector (from_hex (codes "523c1f6b849d0a4ea7c152e8d03f9b7621809e9119835758bd30fa79d3da87aa0008000000000000ff2700000000000000000000000000000000000000000000000000000000000000000000000000000000000000000000000000000000000000000000000000000000000000000000000000000000000000000000000000000f889da1fc053b4da006743f0f84911e877658c39e7cf45dbae7a3746d9d59280028000000000000ff3c"))

unfoldable two_layers_state_0 : List ℕ
two_layers_state_0 = sector (from_hex (codes "534852504f4f4c310100000003403e020102030405060708090a0b0c0d0e0f100100000000000000800000000300000002020000000000000300000000000000397e0c7938a65b93816a91a2f8dc04680a00000000000000000000008ca2f55ff57459e2859af362377c2b5a140000000000000000000000715cd857cc9451279f27ddc76d824b7e14"))

unfoldable two_layers_header_1 : List ℕ
two_layers_header_1 = sector (from_hex (codes "4546492050415254000001005c0000001889cd87000000000100000000000000ff390100000000002200000000000000de390100000000005ff5a28c74f5e259859af362377c2b5a0200000000000000800000008000000009813013"))

unfoldable two_layers_entries_1 : List ℕ
two_layers_entries_1 = sector (from_hex (codes "523c1f6b849d0a4ea7c152e8d03f9b76303272593bf2b151b15386a1639b1d380008000000000000ff2700000000000000000000000000000000000000000000000000000000000000000000000000000000000000000000000000000000000000000000000000000000000000000000000000000000000000000000000000000f889da1fc053b4da006743f0f84911ecfb98edf30f4e05ea565d32e48bdb2b90028000000000000ff3c00000000000000000000000000000000000000000000000000000000000000000000000000000000000000000000000000000000000000000000000000000000000000000000000000000000000000000000000000000f889da1fc053b4da006743f0f84911ec33d8239621d625999f30a16fcd92503003d000000000000ff51"))

unfoldable two_layers_state_1 : List ℕ
two_layers_state_1 = sector (from_hex (codes "534852504f4f4c3101000000206ffa290102030405060708090a0b0c0d0e0f100100000000000000800000000301000002020000000000000300000000000000397e0c7938a65b93816a91a2f8dc04680a00000000000000000000008ca2f55ff57459e2859af362377c2b5a140000000000000000000000715cd857cc9451279f27ddc76d824b7e14"))

unfoldable two_layers_header_2 : List ℕ
two_layers_header_2 = sector (from_hex (codes "4546492050415254000001005c000000d72641e3000000000100000000000000ff390100000000002200000000000000de3901000000000057d85c7194cc27519f27ddc76d824b7e02000000000000008000000080000000acde9f8a"))

unfoldable two_layers_entries_2 : List ℕ
two_layers_entries_2 = sector (from_hex (codes "523c1f6b849d0a4ea7c152e8d03f9b767c1fa7f50358ff5bb5147fc7be5bb3040008000000000000ff2700000000000000000000000000000000000000000000000000000000000000000000000000000000000000000000000000000000000000000000000000000000000000000000000000000000000000000000000000000f889da1fc053b4da006743f0f84911e857ae2783c8dfb56915e1cb90e8aed990028000000000000ff3c00000000000000000000000000000000000000000000000000000000000000000000000000000000000000000000000000000000000000000000000000000000000000000000000000000000000000000000000000000f889da1fc053b4da006743f0f84911e28ac2877314a69508b1a892826d579ff003d000000000000ff51"))

unfoldable two_layers_state_2 : List ℕ
two_layers_state_2 = sector (from_hex (codes "534852504f4f4c3101000000451eb6550102030405060708090a0b0c0d0e0f100100000000000000800000000302000002020000000000000300000000000000397e0c7938a65b93816a91a2f8dc04680a00000000000000000000008ca2f55ff57459e2859af362377c2b5a140000000000000000000000715cd857cc9451279f27ddc76d824b7e14"))

unfoldable wiped : Image
wiped d =
    if d == 0 then drive two_layers_header_0 two_layers_entries_0 two_layers_state_0 (replicate 512 0) (λ x. replicate 512 0)
    else if d == 1 then drive two_layers_header_1 two_layers_entries_1 two_layers_state_1 (replicate 512 0) (λ x. replicate 512 0)
    else drive two_layers_header_2 two_layers_entries_2 two_layers_state_2 (replicate 512 0) (λ x. replicate 512 0)

-- where the slices of the upper array lie is not known then, so no table lacks it
wiped_below : refusal_of (record { count = 3; sectors = λ d. if d == 0 then 79104 else 80384 }) wiped ≡ Some (too_few 0)
unfolding digits sha1 first_words schedule rounds compress hash_after digest_bytes bytes_at number_at put_at times_x times_x_to entries_bytes slice_of entries_of fields_of super_sum drive_at copied_of has_zeros is_canonical sum_of member_of parity_of row_of column_of sector_of xor xor_all label_of label_in areas_at fields_at header_of locations_at past_blanks string_at integer_at item_at body_at value_at first_value_at separator_at words_at found_at name_of number_in text_number_at text_in text_at section_in section_at logical_volumes each_at pv_at stripe_in kind_at segment_at numbered segment_numbered segments_at lv_at group_at group_in foremost look gate_of record_of pending_at pending current_places truth_in there at_position given shape_by value_by seat_of extents_below extent_by standing found first_of extent_of slices_of group_on the_group_in highest runs_from differ follow all_apart parted encode_with is_bad damage_of refused_by refusal_of meaning lib.Count.ones digit from_hex sector the_text chunk drive pool disks but header_0 entries_0 state_0 super_0 header_1 entries_1 state_1 super_1 header_2 entries_2 state_2 super_2 gate label text_header two_layers_header_0 two_layers_entries_0 two_layers_state_0 two_layers_header_1 two_layers_entries_1 two_layers_state_1 two_layers_header_2 two_layers_entries_2 two_layers_state_2 wiped
wiped_below = refl

-- the superblock of drive 1 while it is being rebuilt, as far as its whole size, with all rows left to resync
unfoldable dirty_rebuilding_super : List ℕ
dirty_rebuilding_super = from_hex (codes "fc4e2ba9010000000200000000000000f96c74b3065e5150a516bc9095d350c97368723a3000000000000000000000000000000000000000000000000000000000000000000000000500000002000000000d000000000000800000000300000000000000000000000000000000000000000000000000000000000000000000000008000000000000000d0000000000000800000000000000000d000000000000010000000000000068f5e08fa1d0504ca821712d252ec0870000000000000000000000000000000002000000000000000000000000000000cdb2d3d2800000000000000000000000000000000000000000000000000000000000000000000000000001000200") ++ replicate 250 0xff

-- a rebuilding member is wanting where rows are left to resync
dirty_rebuilding : refusal_of disks (but 1 10248 dirty_rebuilding_super pool) ≡ Some (dirty_degraded 0)
unfolding digits sha1 first_words schedule rounds compress hash_after digest_bytes bytes_at number_at put_at times_x times_x_to entries_bytes slice_of entries_of fields_of super_sum drive_at copied_of has_zeros is_canonical sum_of member_of parity_of row_of column_of sector_of xor xor_all label_of label_in areas_at fields_at header_of locations_at past_blanks string_at integer_at item_at body_at value_at first_value_at separator_at words_at found_at name_of number_in text_number_at text_in text_at section_in section_at logical_volumes each_at pv_at stripe_in kind_at segment_at numbered segment_numbered segments_at lv_at group_at group_in foremost look gate_of record_of pending_at pending current_places truth_in there at_position given shape_by value_by seat_of extents_below extent_by standing found first_of extent_of slices_of group_on the_group_in highest runs_from differ follow all_apart parted encode_with is_bad damage_of refused_by refusal_of meaning lib.Count.ones digit from_hex sector the_text chunk drive pool disks but header_0 entries_0 state_0 super_0 header_1 entries_1 state_1 super_1 header_2 entries_2 state_2 super_2 gate label text_header dirty_rebuilding_super
dirty_rebuilding = refl
