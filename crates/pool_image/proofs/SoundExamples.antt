-- Soundness at the pool that is written out: what excuses it, which drives may stand out, and whether numbers have room.
use Rattle.std.specs.Prelude.{◌≡◌, ℕ, ◌^◌, not, List, ◌++◌, replicate, codes, Some, option_map, refl}
use Rattle.std.specs.Fmt.{digits}
use Rattle.sha1.specs.Sha1.{sha1, first_words, schedule, rounds, compress, hash_after, digest_bytes}
use Rattle.shr_base.specs.Blocks.{bytes_at, number_at, put_at}
use Rattle.shr_base.specs.Crc.{times_x, times_x_to}
use Rattle.gpt_table.specs.Disk.{entries_bytes}
use Rattle.gpt_table.specs.Format.{slice_of, entries_of}
use Rattle.md_super.specs.Layout.{fields_of, sum_of as super_sum}
use Rattle.pool_state.specs.Sector.{drive_at, copied_of, has_zeros, is_canonical, sum_of}
use Rattle.raid_map.specs.LeftSymmetric.{member_of, parity_of, row_of, column_of, sector_of}
use Rattle.parity.specs.Xor.{xor, xor_all}
use Rattle.lvm_label.specs.Label.{label_of, label_in, areas_at, fields_at}
use Rattle.lvm_label.specs.Header.{header_of, locations_at}
use Rattle.lvm_text.specs.Words.{past_blanks, string_at, integer_at, item_at, body_at, value_at, first_value_at, separator_at, words_at}
use Rattle.lvm_text.specs.Group.{found_at, name_of, number_in, number_at as text_number_at, text_in, text_at, section_in, section_at, logical_volumes, each_at, pv_at, stripe_in, kind_at, segment_at, numbered, segment_numbered, segments_at, lv_at, group_at, group_in}
use Rattle.array_image.specs.Foremost.{foremost}
use Rattle.rack.specs.Targets.{look}
use Rattle.array_image.specs.Record.{gate_of, record_of, pending_at, pending}
use Rattle.array_image.specs.States.{current_places}
use Rattle.array_image.specs.Supers.{truth_in}
use Rattle.array_image.specs.Stripes.{there, at_position, given}
use Rattle.array_image.specs.Arrays.{shape_by, value_by}
use Rattle.pool_image.specs.Disks.{seat_of}
use Rattle.pool_image.specs.Replay.{extents_below, extent_by, standing}
use Rattle.pool_image.specs.Drives.{found, first_of, extent_of, slices_of}
use Rattle.pool_image.specs.Volumes.{group_on, group_in as the_group_in, is_bad}
use Rattle.lvm_group.specs.Group.{highest, runs_from, differ, follow, all_apart}
use Rattle.lvm_group.specs.Ids.{parted}
use Rattle.hex.specs.Hex.{encode_with}
use Rattle.pool_image.specs.Meaning.{damage_of, refused_by, refusal_of, meaning}
use Rattle.pool_image.proofs.WrittenPool.{digit, from_hex, sector, the_text, chunk, drive, pool, disks, but, header_0, entries_0, state_0, super_0, header_1, entries_1, state_1, super_1, header_2, entries_2, state_2, super_2, gate, label, text_header}
use Rattle.array_image.specs.Record.{gate_in}
use Rattle.pool_image.specs.Book.{is_planned, top_of}
use Rattle.pool_image.specs.Sound.{lost_in, above_top}

-- ---- excused contents

-- superblocks that are damaged, with nobody marked, are no loss: one who wipes them isn't excused
damage_is_no_loss : option_map (λ f. lost_in f 0) (found disks (but 1 10248 (replicate 512 0) (but 2 10248 (replicate 512 0) pool))) ≡ Some 0
unfolding digits sha1 first_words schedule rounds compress hash_after digest_bytes bytes_at number_at put_at times_x times_x_to entries_bytes slice_of entries_of fields_of super_sum drive_at copied_of has_zeros is_canonical sum_of member_of parity_of row_of column_of sector_of xor xor_all label_of label_in areas_at fields_at header_of locations_at past_blanks string_at integer_at item_at body_at value_at first_value_at separator_at words_at found_at name_of number_in text_number_at text_in text_at section_in section_at logical_volumes each_at pv_at stripe_in kind_at segment_at numbered segment_numbered segments_at lv_at group_at group_in foremost look gate_of record_of pending_at pending current_places truth_in there at_position given shape_by value_by seat_of extents_below extent_by standing found first_of extent_of slices_of group_on the_group_in highest runs_from differ follow all_apart parted encode_with is_bad damage_of refused_by refusal_of meaning lib.Count.ones digit from_hex sector the_text chunk drive pool disks but header_0 entries_0 state_0 super_0 header_1 entries_1 state_1 super_1 header_2 entries_2 state_2 super_2 gate label text_header
damage_is_no_loss = refl

-- the states of drives 0 and 2 with drive 1 marked missing, and the superblock of drive 2 while it is being rebuilt
unfoldable lost_state_0 : List ℕ
lost_state_0 = sector (from_hex (codes "534852504f4f4c31010000004c0fa3bc0102030405060708090a0b0c0d0e0f100200000000000000800000000300000001010000000000000300000000000000397e0c7938a65b93816a91a2f8dc04680a00000000000000000000008ca2f55ff57459e2859af362377c2b5a0a0000000000000001000000715cd857cc9451279f27ddc76d824b7e14"))

unfoldable lost_state_2 : List ℕ
lost_state_2 = sector (from_hex (codes "534852504f4f4c31010000000a512beb0102030405060708090a0b0c0d0e0f100200000000000000800000000302000001010000000000000300000000000000397e0c7938a65b93816a91a2f8dc04680a00000000000000000000008ca2f55ff57459e2859af362377c2b5a0a0000000000000001000000715cd857cc9451279f27ddc76d824b7e14"))

unfoldable rebuilt_super : List ℕ
rebuilt_super = from_hex (codes "fc4e2ba9010000000200000000000000f96c74b3065e5150a516bc9095d350c97368723a3000000000000000000000000000000000000000000000000000000000000000000000000500000002000000000d000000000000800000000300000000000000000000000000000000000000000000000000000000000000000000000008000000000000000d0000000000000800000000000000800000000000000002000000000000000b44d5ae143b53a1b53665691d70ee7c000000000000000000000000000000000100000000000000ffffffffffffffff69b6ec77800000000000000000000000000000000000000000000000000000000000000000000000000001000200") ++ replicate 250 0xff

-- a mark is one, and so is a rebuild that a superblock says
mark_and_rebuild : option_map (λ f. lost_in f 0) (found disks (but 0 2048 lost_state_0 (but 2 2048 lost_state_2 (but 2 10248 rebuilt_super pool)))) ≡ Some 2
unfolding digits sha1 first_words schedule rounds compress hash_after digest_bytes bytes_at number_at put_at times_x times_x_to entries_bytes slice_of entries_of fields_of super_sum drive_at copied_of has_zeros is_canonical sum_of member_of parity_of row_of column_of sector_of xor xor_all label_of label_in areas_at fields_at header_of locations_at past_blanks string_at integer_at item_at body_at value_at first_value_at separator_at words_at found_at name_of number_in text_number_at text_in text_at section_in section_at logical_volumes each_at pv_at stripe_in kind_at segment_at numbered segment_numbered segments_at lv_at group_at group_in foremost look gate_of record_of pending_at pending current_places truth_in there at_position given shape_by value_by seat_of extents_below extent_by standing found first_of extent_of slices_of group_on the_group_in highest runs_from differ follow all_apart parted encode_with is_bad damage_of refused_by refusal_of meaning lib.Count.ones digit from_hex sector the_text chunk drive pool disks but header_0 entries_0 state_0 super_0 header_1 entries_1 state_1 super_1 header_2 entries_2 state_2 super_2 gate label text_header lost_state_0 lost_state_2 rebuilt_super
mark_and_rebuild = refl

-- ---- drives above the highest top

-- the states of a pool whose drives 1 and 2 stand out, with a plan that adds drive 3
unfoldable joining_0 : List ℕ
joining_0 = sector (from_hex (codes "534852504f4f4c310100000035b73f870102030405060708090a0b0c0d0e0f100100000000000000800000000400010301010000000000000400000000000000397e0c7938a65b93816a91a2f8dc04680a00000000000000000000008ca2f55ff57459e2859af362377c2b5a140000000000000000000000715cd857cc9451279f27ddc76d824b7e14000000000000000000000070e426e8404352f28ad2bb59091b1f5e14"))

unfoldable joining_1 : List ℕ
joining_1 = sector (from_hex (codes "534852504f4f4c31010000001698fbac0102030405060708090a0b0c0d0e0f100100000000000000800000000401010301010000000000000400000000000000397e0c7938a65b93816a91a2f8dc04680a00000000000000000000008ca2f55ff57459e2859af362377c2b5a140000000000000000000000715cd857cc9451279f27ddc76d824b7e14000000000000000000000070e426e8404352f28ad2bb59091b1f5e14"))

unfoldable joining_2 : List ℕ
joining_2 = sector (from_hex (codes "534852504f4f4c310100000073e9b7d00102030405060708090a0b0c0d0e0f100100000000000000800000000402010301010000000000000400000000000000397e0c7938a65b93816a91a2f8dc04680a00000000000000000000008ca2f55ff57459e2859af362377c2b5a140000000000000000000000715cd857cc9451279f27ddc76d824b7e14000000000000000000000070e426e8404352f28ad2bb59091b1f5e14"))

-- the plan's drive isn't counted, and two others are too many
two_above : option_map (λ f. above_top f (λ place. not (is_planned f.state place))) (found disks (but 2 2048 joining_2 (but 1 2048 joining_1 (but 0 2048 joining_0 pool)))) ≡ Some 2
unfolding digits sha1 first_words schedule rounds compress hash_after digest_bytes bytes_at number_at put_at times_x times_x_to entries_bytes slice_of entries_of fields_of super_sum drive_at copied_of has_zeros is_canonical sum_of member_of parity_of row_of column_of sector_of xor xor_all label_of label_in areas_at fields_at header_of locations_at past_blanks string_at integer_at item_at body_at value_at first_value_at separator_at words_at found_at name_of number_in text_number_at text_in text_at section_in section_at logical_volumes each_at pv_at stripe_in kind_at segment_at numbered segment_numbered segments_at lv_at group_at group_in foremost look gate_of record_of pending_at pending current_places truth_in there at_position given shape_by value_by seat_of extents_below extent_by standing found first_of extent_of slices_of group_on the_group_in highest runs_from differ follow all_apart parted encode_with is_bad damage_of refused_by refusal_of meaning lib.Count.ones digit from_hex sector the_text chunk drive pool disks but header_0 entries_0 state_0 super_0 header_1 entries_1 state_1 super_1 header_2 entries_2 state_2 super_2 gate label text_header joining_0 joining_1 joining_2 top_of
two_above = refl

-- ---- numbers without room

-- a closed gate of number 2^62
unfoldable late_gate : List ℕ
late_gate = sector (from_hex (codes "53485247415445319c5cec34000000000000000000000040"))

-- a gate's number is read, so the rule on room has what to judge
late_number : option_map (λ f. option_map (λ g. g.number) (gate_in (slices_of f) 1)) (found disks (but 1 2049 late_gate pool)) ≡ Some (Some (2 ^ 62))
unfolding digits sha1 first_words schedule rounds compress hash_after digest_bytes bytes_at number_at put_at times_x times_x_to entries_bytes slice_of entries_of fields_of super_sum drive_at copied_of has_zeros is_canonical sum_of member_of parity_of row_of column_of sector_of xor xor_all label_of label_in areas_at fields_at header_of locations_at past_blanks string_at integer_at item_at body_at value_at first_value_at separator_at words_at found_at name_of number_in text_number_at text_in text_at section_in section_at logical_volumes each_at pv_at stripe_in kind_at segment_at numbered segment_numbered segments_at lv_at group_at group_in foremost look gate_of record_of pending_at pending current_places truth_in there at_position given shape_by value_by seat_of extents_below extent_by standing found first_of extent_of slices_of group_on the_group_in highest runs_from differ follow all_apart parted encode_with is_bad damage_of refused_by refusal_of meaning lib.Count.ones digit from_hex sector the_text chunk drive pool disks but header_0 entries_0 state_0 super_0 header_1 entries_1 state_1 super_1 header_2 entries_2 state_2 super_2 gate label text_header late_gate
late_number = refl
