-- The replay of a pending record at the pool that is written out, and its meaning.
use Rattle.std.specs.Prelude.{◌≡◌, ℕ, ◌==◌, nat_lt, if◌then◌else◌, List, [], ◌∷◌, map, replicate, codes, Some, None, option_map, refl}
use Rattle.std.specs.Fmt.{digits}
use Rattle.rack.specs.Seen.{Image}
use Rattle.sha1.specs.Sha1.{sha1, first_words, schedule, rounds, compress, hash_after, digest_bytes}
use Rattle.shr_base.specs.Blocks.{bytes_at, number_at, put_at}
use Rattle.shr_base.specs.Crc.{times_x, times_x_to}
use Rattle.gpt_table.specs.Disk.{entries_bytes}
use Rattle.gpt_table.specs.Format.{slice_of, entries_of}
use Rattle.md_super.specs.Layout.{fields_of, sum_of as super_sum}
use Rattle.pool_state.specs.Sector.{drive_at, copied_of, has_zeros, is_canonical, sum_of}
use Rattle.raid_map.specs.LeftSymmetric.{member_of, parity_of, row_of, column_of, sector_of}
use Rattle.parity.specs.Xor.{xor, xor_all}
use Rattle.lvm_label.specs.Label.{label_of, label_in, areas_at, fields_at}
use Rattle.lvm_label.specs.Header.{header_of, locations_at}
use Rattle.lvm_text.specs.Words.{past_blanks, string_at, integer_at, item_at, body_at, value_at, first_value_at, separator_at, words_at}
use Rattle.lvm_text.specs.Group.{found_at, name_of, number_in, number_at as text_number_at, text_in, text_at, section_in, section_at, logical_volumes, each_at, pv_at, stripe_in, kind_at, segment_at, numbered, segment_numbered, segments_at, lv_at, group_at, group_in}
use Rattle.array_image.specs.Foremost.{foremost}
use Rattle.rack.specs.Targets.{look}
use Rattle.array_image.specs.Record.{gate_of, record_of, pending_at, pending}
use Rattle.array_image.specs.States.{current_places}
use Rattle.array_image.specs.Supers.{truth_in}
use Rattle.array_image.specs.Stripes.{there, at_position, given}
use Rattle.array_image.specs.Arrays.{shape_by, value_by}
use Rattle.pool_image.specs.Disks.{seat_of}
use Rattle.pool_image.specs.Replay.{extents_below, extent_by, standing}
use Rattle.pool_image.specs.Drives.{found, first_of, extent_of, slices_of}
use Rattle.pool_image.specs.Volumes.{group_on, group_in as the_group_in, is_bad}
use Rattle.lvm_group.specs.Group.{highest, runs_from, differ, follow, all_apart}
use Rattle.lvm_group.specs.Ids.{parted}
use Rattle.hex.specs.Hex.{encode_with}
use Rattle.pool_image.specs.Meaning.{in_state, in_log, damaged, Volume, arrays_held, damage_of, refused_by, refusal_of, meaning}
use Rattle.pool_image.specs.Sound.{disks_without, image_without}
use Rattle.pool_image.proofs.WrittenPool.{digit, from_hex, sector, the_text, chunk, drive, pool, disks, but, header_0, entries_0, state_0, super_0, header_1, entries_1, state_1, super_1, header_2, entries_2, state_2, super_2, gate, label, text_header}

-- an open gate of number 1
open_gate : List ℕ
open_gate = sector (from_hex (codes "5348524741544531b78dd09b0100000001"))

-- record 1: the states of drives 0 and 2, which mark drive 1 missing
loss_head : List ℕ
loss_head = sector (from_hex (codes "534852424f44593132a259320200000001000000000000000000000000000000000000000000000000000000000000000000000000000000000000000000000000000000000000000000000022"))

marked_0 : List ℕ
marked_0 = sector (from_hex (codes "534852504f4f4c31010000004c0fa3bc0102030405060708090a0b0c0d0e0f100200000000000000800000000300000001010000000000000300000000000000397e0c7938a65b93816a91a2f8dc04680a00000000000000000000008ca2f55ff57459e2859af362377c2b5a0a0000000000000001000000715cd857cc9451279f27ddc76d824b7e14"))

marked_2 : List ℕ
marked_2 = sector (from_hex (codes "534852504f4f4c31010000000a512beb0102030405060708090a0b0c0d0e0f100200000000000000800000000302000001010000000000000300000000000000397e0c7938a65b93816a91a2f8dc04680a00000000000000000000008ca2f55ff57459e2859af362377c2b5a0a0000000000000001000000715cd857cc9451279f27ddc76d824b7e14"))

-- it is pending: its head and its payloads stand on drive 0, and all gates are open
loss : Image
loss = but 0 2049 open_gate (but 1 2049 open_gate (but 2 2049 open_gate (but 0 6148 loss_head (but 0 6244 marked_0 (but 0 6245 marked_2 pool)))))

-- drive 1 is missing once it is replayed
loss_opens : option_map (λ f. current_places f.state) (found disks loss) ≡ Some (0 ∷ 2 ∷ [])
unfolding digits sha1 first_words schedule rounds compress hash_after digest_bytes bytes_at number_at put_at times_x times_x_to entries_bytes slice_of entries_of fields_of super_sum drive_at copied_of has_zeros is_canonical sum_of member_of parity_of row_of column_of sector_of xor xor_all label_of label_in areas_at fields_at header_of locations_at past_blanks string_at integer_at item_at body_at value_at first_value_at separator_at words_at found_at name_of number_in text_number_at text_in text_at section_in section_at logical_volumes each_at pv_at stripe_in kind_at segment_at numbered segment_numbered segments_at lv_at group_at group_in foremost look gate_of record_of pending_at pending current_places truth_in there at_position given shape_by value_by seat_of extents_below extent_by standing found first_of extent_of slices_of group_on the_group_in highest runs_from differ follow all_apart parted encode_with is_bad damage_of refused_by refusal_of meaning lib.Count.ones digit from_hex sector the_text chunk drive pool disks but header_0 entries_0 state_0 super_0 header_1 entries_1 state_1 super_1 header_2 entries_2 state_2 super_2 gate label text_header open_gate loss_head marked_0 marked_2 loss
loss_opens = refl

-- and nothing is replayed where its gate is damaged
bad_gate : refusal_of disks (but 1 2049 (replicate 512 0) loss) ≡ Some (damaged 1 in_log)
unfolding digits sha1 first_words schedule rounds compress hash_after digest_bytes bytes_at number_at put_at times_x times_x_to entries_bytes slice_of entries_of fields_of super_sum drive_at copied_of has_zeros is_canonical sum_of member_of parity_of row_of column_of sector_of xor xor_all label_of label_in areas_at fields_at header_of locations_at past_blanks string_at integer_at item_at body_at value_at first_value_at separator_at words_at found_at name_of number_in text_number_at text_in text_at section_in section_at logical_volumes each_at pv_at stripe_in kind_at segment_at numbered segment_numbered segments_at lv_at group_at group_in foremost look gate_of record_of pending_at pending current_places truth_in there at_position given shape_by value_by seat_of extents_below extent_by standing found first_of extent_of slices_of group_on the_group_in highest runs_from differ follow all_apart parted encode_with is_bad damage_of refused_by refusal_of meaning lib.Count.ones digit from_hex sector the_text chunk drive pool disks but header_0 entries_0 state_0 super_0 header_1 entries_1 state_1 super_1 header_2 entries_2 state_2 super_2 gate label text_header open_gate loss_head marked_0 marked_2 loss
bad_gate = refl

-- record 1: sector 5 of the volume, which stands on member 1, and its parity on member 0
write_head : List ℕ
write_head = sector (from_hex (codes "534852424f445931b361867f0200000001000000000000000000000000000000000000000000000000000000000000000000000000000000000000000000000012000000050c00000000000001000000050c"))

written : Image
written = but 0 2049 open_gate (but 1 2049 open_gate (but 2 2049 open_gate (but 0 6148 write_head (but 0 6244 (replicate 512 7) (but 0 6245 (replicate 512 7) pool)))))

-- a volume's sectors, and what some of them hold
show : List Volume → List (ℕ × List (List ℕ))
show vs = map (λ v. (v.sectors, map v.contents (5 ∷ 2559 ∷ []))) vs

-- the pool as it is made means 2560 sectors of zeros
means_zeros : option_map show (meaning disks pool) ≡ Some ((2560, (replicate 512 0) ∷ (replicate 512 0) ∷ []) ∷ [])
unfolding digits sha1 first_words schedule rounds compress hash_after digest_bytes bytes_at number_at put_at times_x times_x_to entries_bytes slice_of entries_of fields_of super_sum drive_at copied_of has_zeros is_canonical sum_of member_of parity_of row_of column_of sector_of xor xor_all label_of label_in areas_at fields_at header_of locations_at past_blanks string_at integer_at item_at body_at value_at first_value_at separator_at words_at found_at name_of number_in text_number_at text_in text_at section_in section_at logical_volumes each_at pv_at stripe_in kind_at segment_at numbered segment_numbered segments_at lv_at group_at group_in foremost look gate_of record_of pending_at pending current_places truth_in there at_position given shape_by value_by seat_of extents_below extent_by standing found first_of extent_of slices_of group_on the_group_in highest runs_from differ follow all_apart parted encode_with is_bad damage_of refused_by refusal_of meaning lib.Count.ones digit from_hex sector the_text chunk drive pool disks but header_0 entries_0 state_0 super_0 header_1 entries_1 state_1 super_1 header_2 entries_2 state_2 super_2 gate label text_header open_gate loss_head marked_0 marked_2 loss write_head written show
means_zeros = refl

-- while the record is pending, sector 5 of the volume is its payload
payload : option_map (λ f. arrays_held f 0 2053) (found disks written) ≡ Some (replicate 512 7)
unfolding digits sha1 first_words schedule rounds compress hash_after digest_bytes bytes_at number_at put_at times_x times_x_to entries_bytes slice_of entries_of fields_of super_sum drive_at copied_of has_zeros is_canonical sum_of member_of parity_of row_of column_of sector_of xor xor_all label_of label_in areas_at fields_at header_of locations_at past_blanks string_at integer_at item_at body_at value_at first_value_at separator_at words_at found_at name_of number_in text_number_at text_in text_at section_in section_at logical_volumes each_at pv_at stripe_in kind_at segment_at numbered segment_numbered segments_at lv_at group_at group_in foremost look gate_of record_of pending_at pending current_places truth_in there at_position given shape_by value_by seat_of extents_below extent_by standing found first_of extent_of slices_of group_on the_group_in highest runs_from differ follow all_apart parted encode_with is_bad damage_of refused_by refusal_of meaning lib.Count.ones digit from_hex sector the_text chunk drive pool disks but header_0 entries_0 state_0 super_0 header_1 entries_1 state_1 super_1 header_2 entries_2 state_2 super_2 gate label text_header open_gate loss_head marked_0 marked_2 loss write_head written show
payload = refl

-- without drive 0 the pool is refused by nothing
absent_opens : refusal_of (disks_without 0 disks) (image_without 0 pool) ≡ None
unfolding digits sha1 first_words schedule rounds compress hash_after digest_bytes bytes_at number_at put_at times_x times_x_to entries_bytes slice_of entries_of fields_of super_sum drive_at copied_of has_zeros is_canonical sum_of member_of parity_of row_of column_of sector_of xor xor_all label_of label_in areas_at fields_at header_of locations_at past_blanks string_at integer_at item_at body_at value_at first_value_at separator_at words_at found_at name_of number_in text_number_at text_in text_at section_in section_at logical_volumes each_at pv_at stripe_in kind_at segment_at numbered segment_numbered segments_at lv_at group_at group_in foremost look gate_of record_of pending_at pending current_places truth_in there at_position given shape_by value_by seat_of extents_below extent_by standing found first_of extent_of slices_of group_on the_group_in highest runs_from differ follow all_apart parted encode_with is_bad damage_of refused_by refusal_of meaning lib.Count.ones digit from_hex sector the_text chunk drive pool disks but header_0 entries_0 state_0 super_0 header_1 entries_1 state_1 super_1 header_2 entries_2 state_2 super_2 gate label text_header open_gate loss_head marked_0 marked_2 loss write_head written show
absent_opens = refl

-- and has the same: the label that stands on drive 0 comes from drives 1 and 2
absent_value : option_map (λ f. arrays_held f 0 1) (found (disks_without 0 disks) (image_without 0 pool)) ≡ Some label
unfolding digits sha1 first_words schedule rounds compress hash_after digest_bytes bytes_at number_at put_at times_x times_x_to entries_bytes slice_of entries_of fields_of super_sum drive_at copied_of has_zeros is_canonical sum_of member_of parity_of row_of column_of sector_of xor xor_all label_of label_in areas_at fields_at header_of locations_at past_blanks string_at integer_at item_at body_at value_at first_value_at separator_at words_at found_at name_of number_in text_number_at text_in text_at section_in section_at logical_volumes each_at pv_at stripe_in kind_at segment_at numbered segment_numbered segments_at lv_at group_at group_in foremost look gate_of record_of pending_at pending current_places truth_in there at_position given shape_by value_by seat_of extents_below extent_by standing found first_of extent_of slices_of group_on the_group_in highest runs_from differ follow all_apart parted encode_with is_bad damage_of refused_by refusal_of meaning lib.Count.ones digit from_hex sector the_text chunk drive pool disks but header_0 entries_0 state_0 super_0 header_1 entries_1 state_1 super_1 header_2 entries_2 state_2 super_2 gate label text_header open_gate loss_head marked_0 marked_2 loss write_head written show
absent_value = refl

-- record 1: a state sector of drive 1 that is none
state_head : List ℕ
state_head = sector (from_hex (codes "534852424f445931000e37940100000001000000000000000000000000000000000000000000000000000000000000000000000000000000000000000000000011"))

-- the drive's state is damaged then
no_state : refusal_of disks (but 0 2049 open_gate (but 1 2049 open_gate (but 2 2049 open_gate (but 0 6148 state_head (but 0 6244 (replicate 512 9) pool))))) ≡ Some (damaged 1 in_state)
unfolding digits sha1 first_words schedule rounds compress hash_after digest_bytes bytes_at number_at put_at times_x times_x_to entries_bytes slice_of entries_of fields_of super_sum drive_at copied_of has_zeros is_canonical sum_of member_of parity_of row_of column_of sector_of xor xor_all label_of label_in areas_at fields_at header_of locations_at past_blanks string_at integer_at item_at body_at value_at first_value_at separator_at words_at found_at name_of number_in text_number_at text_in text_at section_in section_at logical_volumes each_at pv_at stripe_in kind_at segment_at numbered segment_numbered segments_at lv_at group_at group_in foremost look gate_of record_of pending_at pending current_places truth_in there at_position given shape_by value_by seat_of extents_below extent_by standing found first_of extent_of slices_of group_on the_group_in highest runs_from differ follow all_apart parted encode_with is_bad damage_of refused_by refusal_of meaning lib.Count.ones digit from_hex sector the_text chunk drive pool disks but header_0 entries_0 state_0 super_0 header_1 entries_1 state_1 super_1 header_2 entries_2 state_2 super_2 gate label text_header open_gate loss_head marked_0 marked_2 loss write_head written show state_head
no_state = refl

-- record 1: a state whose first two drives are two disks of 5000 sectors, which have no whole log slice
unfoldable short_head : List ℕ
short_head = sector (from_hex (codes "534852424f445931e662f9e80200000001000000000000000000000000000000000000000000000000000000000000000000000000000000000000000000000000000000000000000000000011"))

unfoldable short_state_0 : List ℕ
short_state_0 = sector (from_hex (codes "534852504f4f4c31010000008586af260102030405060708090a0b0c0d0e0f10020000000000000080000000030000000101000000000000050000000000000070e426e8404352f28ad2bb59091b1f5e0a00000000000000000000006c06498fa16e555db7d864c7965e0c880a0000000000000000000000715cd857cc9451279f27ddc76d824b7e14"))

unfoldable short_state_1 : List ℕ
short_state_1 = sector (from_hex (codes "534852504f4f4c3101000000a6a96b0d0102030405060708090a0b0c0d0e0f10020000000000000080000000030100000101000000000000050000000000000070e426e8404352f28ad2bb59091b1f5e0a00000000000000000000006c06498fa16e555db7d864c7965e0c880a0000000000000000000000715cd857cc9451279f27ddc76d824b7e14"))

unfoldable short_header_3 : List ℕ
short_header_3 = sector (from_hex (codes "4546492050415254000001005c000000a21dd776000000000100000000000000871300000000000022000000000000006613000000000000e826e4704340f2528ad2bb59091b1f5e0200000000000000800000008000000030a4b0d0"))

unfoldable short_entries_3 : List ℕ
short_entries_3 = sector (from_hex (codes "523c1f6b849d0a4ea7c152e8d03f9b76db554e8559179d5c9a76b3799a9faa3600080000000000002413"))

unfoldable short_header_4 : List ℕ
short_header_4 = sector (from_hex (codes "4546492050415254000001005c0000006b9173e30000000001000000000000008713000000000000220000000000000066130000000000008f49066c6ea15d55b7d864c7965e0c8802000000000000008000000080000000b4a7fff0"))

unfoldable short_entries_4 : List ℕ
short_entries_4 = sector (from_hex (codes "523c1f6b849d0a4ea7c152e8d03f9b76d2a5336753cfb251a3719f45e95369ea00080000000000002413"))

unfoldable shorts : Image
shorts d =
    if d == 3 then drive short_header_3 short_entries_3 (replicate 512 0) (replicate 512 0) (λ x. replicate 512 0)
    else if d == 4 then drive short_header_4 short_entries_4 (replicate 512 0) (replicate 512 0) (λ x. replicate 512 0)
    else but 0 2049 open_gate (but 1 2049 open_gate (but 2 2049 open_gate (but 0 6148 short_head (but 0 6244 short_state_0 (but 0 6245 short_state_1 pool))))) d

-- its targets are passed over, so the state before it stands
short_disks : option_map {U = ℕ × List (List ℕ)} (λ f. (f.state.epoch, map (λ d. f.contents d 2048) (3 ∷ 4 ∷ []))) (found (record { count = 5; sectors = λ d. if nat_lt 2 d then 5000 else if d == 2 then 80384 else 79104 }) shorts) ≡ Some (1, (replicate 512 0) ∷ (replicate 512 0) ∷ [])
unfolding digits sha1 first_words schedule rounds compress hash_after digest_bytes bytes_at number_at put_at times_x times_x_to entries_bytes slice_of entries_of fields_of super_sum drive_at copied_of has_zeros is_canonical sum_of member_of parity_of row_of column_of sector_of xor xor_all label_of label_in areas_at fields_at header_of locations_at past_blanks string_at integer_at item_at body_at value_at first_value_at separator_at words_at found_at name_of number_in text_number_at text_in text_at section_in section_at logical_volumes each_at pv_at stripe_in kind_at segment_at numbered segment_numbered segments_at lv_at group_at group_in foremost look gate_of record_of pending_at pending current_places truth_in there at_position given shape_by value_by seat_of extents_below extent_by standing found first_of extent_of slices_of group_on the_group_in highest runs_from differ follow all_apart parted encode_with is_bad damage_of refused_by refusal_of meaning lib.Count.ones digit from_hex sector the_text chunk drive pool disks but header_0 entries_0 state_0 super_0 header_1 entries_1 state_1 super_1 header_2 entries_2 state_2 super_2 gate label text_header open_gate loss_head marked_0 marked_2 loss short_header_3 short_entries_3 short_header_4 short_entries_4 short_head short_state_0 short_state_1 shorts
short_disks = refl
