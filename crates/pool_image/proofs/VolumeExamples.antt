-- The definitions of the volumes at arrays that are written out: the pool of three drives of 79104, 80384 and 80384 sectors, whose
-- array 0 has three members and whose array 1 has two.
use Rattle.std.specs.Prelude.{◌≡◌, ℕ, ◌+◌, ◌-◌, ◌*◌, ◌==◌, ◌&&◌, nat_lt, if◌then◌else◌, List, [], ◌∷◌, ◌++◌, length, map, take, drop, replicate, codes, Some, None, option_map, refl}
use Rattle.std.specs.List.{range_with_len}
use Rattle.std.specs.Fmt.{digits}
use Rattle.rack.specs.Seen.{Image}
use Rattle.sha1.specs.Sha1.{sha1, first_words, schedule, rounds, compress, hash_after, digest_bytes}
use Rattle.shr_base.specs.Crc.{times_x, times_x_to}
use Rattle.lvm_label.specs.Label.{label_of, label_in, areas_at, fields_at}
use Rattle.lvm_label.specs.Header.{header_of, locations_at}
use Rattle.lvm_text.specs.Words.{past_blanks, string_at, integer_at, item_at, body_at, value_at, first_value_at, separator_at, words_at}
use Rattle.lvm_text.specs.Group.{found_at, name_of, number_in, number_at, text_in, text_at, section_in, section_at, logical_volumes, each_at, pv_at, stripe_in, kind_at, segment_at, numbered, segment_numbered, segments_at, lv_at, group_at, group_in}
use Rattle.array_image.specs.Foremost.{foremost}
use Rattle.pool_image.specs.Volumes.{Arrays, group_on, group_in as the_group_in, is_bad, first_bad, linear_of, spot_in}
use Rattle.lvm_group.specs.Group.{highest, runs_from, differ, follow, all_apart}
use Rattle.lvm_group.specs.Ids.{parted}
use Rattle.hex.specs.Hex.{encode_with}

digit : ℕ → ℕ
digit code = if nat_lt code 58 then code - 48 else code - 87

-- bytes by their hexadecimal digits
from_hex : List ℕ → List ℕ
from_hex (high ∷ low ∷ others) = (16 * digit high + digit low) ∷ from_hex others
from_hex _ = []

-- a sector that begins so, and has zeros behind it
sector : List ℕ → List ℕ
sector bytes = bytes ++ replicate (512 - length bytes) 0

-- the labels of both arrays
first_label : List ℕ
first_label = sector (from_hex (codes "4c4142454c4f4e45010000000000000052fa6b02200000004c564d3220303031633763663036373766353461356238383865663966306437313866343736396100003400000000000000100000000000000000000000000000000000000000000000000000000000001000000000000000f00f"))

second_label : List ℕ
second_label = sector (from_hex (codes "4c4142454c4f4e45010000000000000038d0fcf4200000004c564d3220303031643766303534356532663237356365666161363763313334643336323565363500001a00000000000000100000000000000000000000000000000000000000000000000000000000001000000000000000f00f"))

-- the text of the group, with seqno 1, and a header that has it behind itself
the_text : List ℕ
the_text = codes "vg1000 {\nid = \"c42726-7ab1-215b-a4be-29f4-57e8-536064\"\nseqno = 1\nformat = \"lvm2\"\nstatus = [\"RESIZEABLE\", \"READ\", \"WRITE\"]\nflags = []\nextent_size = 128\nmax_lv = 0\nmax_pv = 0\nmetadata_copies = 0\nphysical_volumes {\npv0 {\nid = \"c7cf06-77f5-4a5b-888e-f9f0-d718-f4769a\"\ndevice = \"unknown\"\nstatus = [\"ALLOCATABLE\"]\nflags = []\ndev_size = 6656\npe_start = 2048\npe_count = 20\n}\npv1 {\nid = \"d7f054-5e2f-275c-efaa-67c1-34d3-625e65\"\ndevice = \"unknown\"\nstatus = [\"ALLOCATABLE\"]\nflags = []\ndev_size = 3328\npe_start = 2048\npe_count = 10\n}\n}\nlogical_volumes {\nlv {\nid = \"907187-2c27-d250-b49a-1e49-4a56-bd80c5\"\nstatus = [\"READ\", \"WRITE\", \"VISIBLE\"]\nflags = []\nsegment_count = 2\nsegment1 {\nstart_extent = 0\nextent_count = 20\ntype = \"striped\"\nstripe_count = 1\nstripes = [\"pv0\", 0]\n}\nsegment2 {\nstart_extent = 20\nextent_count = 10\ntype = \"striped\"\nstripe_count = 1\nstripes = [\"pv1\", 0]\n}\n}\n}\n}\ncontents = \"Text Format Volume Group\"\nversion = 1\n" ++ 0 ∷ []

the_header : List ℕ
the_header = sector (from_hex (codes "dac56dc1204c564d3220785b35412572304e2a3e01000000001000000000000000f00f000000000000020000000000009c0300000000000011d9ec49"))

-- a header whose location has another sum, and one of a text of 262145 bytes
bad_header : List ℕ
bad_header = sector (from_hex (codes "58a9650e204c564d3220785b35412572304e2a3e01000000001000000000000000f00f000000000000020000000000009c0300000000000001"))

long_header : List ℕ
long_header = sector (from_hex (codes "ff2f9913204c564d3220785b35412572304e2a3e01000000001000000000000000f00f00000000000002000000000000010004000000000001"))

-- arrays that hold these labels, headers and texts
held : List ℕ → List ℕ → List ℕ → Image
held label header text n x =
    if x == 1 then (if n == 0 then label else second_label)
    else if x == 8 then header
    else if nat_lt 8 x then sector (take 512 (drop (512 * (x - 9)) text))
    else replicate 512 0

arrays : Image → Arrays
arrays c = record {
  pool = map (λ k. k + 1) (range_with_len 0 16);
  extent = 128;
  joined = 2;
  sectors = λ n. if n == 0 then 6656 else 3328;
  contents = c;
}

whole : Image
whole = held first_label the_header the_text

-- a text of array 0 alone, whose volume has a segment of no extents at its end
alone_text : List ℕ
alone_text = codes "vg1000 {\nid = \"c42726-7ab1-215b-a4be-29f4-57e8-536064\"\nseqno = 3\nformat = \"lvm2\"\nstatus = [\"RESIZEABLE\", \"READ\", \"WRITE\"]\nflags = []\nextent_size = 128\nmax_lv = 0\nmax_pv = 0\nmetadata_copies = 0\nphysical_volumes {\npv0 {\nid = \"c7cf06-77f5-4a5b-888e-f9f0-d718-f4769a\"\ndevice = \"unknown\"\nstatus = [\"ALLOCATABLE\"]\nflags = []\ndev_size = 6656\npe_start = 2048\npe_count = 20\n}\n}\nlogical_volumes {\nlv {\nid = \"907187-2c27-d250-b49a-1e49-4a56-bd80c5\"\nstatus = [\"READ\", \"WRITE\", \"VISIBLE\"]\nflags = []\nsegment_count = 2\nsegment1 {\nstart_extent = 0\nextent_count = 20\ntype = \"striped\"\nstripe_count = 1\nstripes = [\"pv0\", 0]\n}\nsegment2 {\nstart_extent = 20\nextent_count = 0\ntype = \"striped\"\nstripe_count = 1\nstripes = [\"pv0\", 3]\n}\n}\n}\n}\ncontents = \"Text Format Volume Group\"\nversion = 1\n" ++ 0 ∷ []

alone_header : List ℕ
alone_header = sector (from_hex (codes "d3a20844204c564d3220785b35412572304e2a3e01000000001000000000000000f00f00000000000002000000000000000300000000000072ef0d54"))

alone : Image
alone = held first_label alone_header alone_text

-- the volume has 20 extents of array 0, and behind them 10 of array 1
spots : map (λ v. option_map (λ g. spot_in (linear_of (arrays whole) g) v) (the_group_in (arrays whole))) (0 ∷ 2559 ∷ 2560 ∷ 3839 ∷ 3840 ∷ []) ≡ map (λ s. Some s) (Some (record { array = 0; sector = 2048 }) ∷ Some (record { array = 0; sector = 4607 }) ∷ Some (record { array = 1; sector = 2048 }) ∷ Some (record { array = 1; sector = 3327 }) ∷ None ∷ [])
unfolding is_bad the_group_in highest runs_from differ follow all_apart parted encode_with group_on label_in label_of areas_at fields_at header_of locations_at past_blanks string_at integer_at item_at body_at value_at first_value_at separator_at words_at found_at name_of number_in number_at text_in text_at section_in section_at logical_volumes each_at pv_at stripe_in kind_at segment_at numbered segment_numbered segments_at lv_at group_at group_in digits foremost times_x times_x_to arrays whole held sector from_hex digit first_label second_label the_text the_header
spots = refl

-- nothing is bad
none_bad : first_bad (arrays whole) ≡ None
unfolding is_bad the_group_in highest runs_from differ follow all_apart parted encode_with group_on label_in label_of areas_at fields_at header_of locations_at past_blanks string_at integer_at item_at body_at value_at first_value_at separator_at words_at found_at name_of number_in number_at text_in text_at section_in section_at logical_volumes each_at pv_at stripe_in kind_at segment_at numbered segment_numbered segments_at lv_at group_at group_in digits foremost times_x times_x_to arrays whole held sector from_hex digit first_label second_label the_text the_header sha1 first_words schedule rounds compress hash_after digest_bytes
none_bad = refl

-- array 0 without a text
no_text : first_bad (arrays (held first_label the_header [])) ≡ Some 0
unfolding is_bad the_group_in highest runs_from differ follow all_apart parted encode_with group_on label_in label_of areas_at fields_at header_of locations_at past_blanks string_at integer_at item_at body_at value_at first_value_at separator_at words_at found_at name_of number_in number_at text_in text_at section_in section_at logical_volumes each_at pv_at stripe_in kind_at segment_at numbered segment_numbered segments_at lv_at group_at group_in digits foremost times_x times_x_to arrays whole held sector from_hex digit first_label second_label the_text the_header sha1 first_words schedule rounds compress hash_after digest_bytes
no_text = refl

-- array 0 without a header: the text of array 1 is read, and names it
no_header : first_bad (arrays (λ n x. if (n == 0) && (x == 8) then replicate 512 0 else whole n x)) ≡ Some 0
unfolding is_bad the_group_in highest runs_from differ follow all_apart parted encode_with group_on label_in label_of areas_at fields_at header_of locations_at past_blanks string_at integer_at item_at body_at value_at first_value_at separator_at words_at found_at name_of number_in number_at text_in text_at section_in section_at logical_volumes each_at pv_at stripe_in kind_at segment_at numbered segment_numbered segments_at lv_at group_at group_in digits foremost times_x times_x_to arrays whole held sector from_hex digit first_label second_label the_text the_header sha1 first_words schedule rounds compress hash_after digest_bytes
no_header = refl

-- array 1 without a label, named by the text
no_second_label : first_bad (arrays (λ n x. if (n == 1) && (x == 1) then replicate 512 0 else whole n x)) ≡ Some 1
unfolding is_bad the_group_in highest runs_from differ follow all_apart parted encode_with group_on label_in label_of areas_at fields_at header_of locations_at past_blanks string_at integer_at item_at body_at value_at first_value_at separator_at words_at found_at name_of number_in number_at text_in text_at section_in section_at logical_volumes each_at pv_at stripe_in kind_at segment_at numbered segment_numbered segments_at lv_at group_at group_in digits foremost times_x times_x_to arrays whole held sector from_hex digit first_label second_label the_text the_header sha1 first_words schedule rounds compress hash_after digest_bytes
no_second_label = refl

-- array 1 without a header
no_second_header : first_bad (arrays (λ n x. if (n == 1) && (x == 8) then replicate 512 0 else whole n x)) ≡ Some 1
unfolding is_bad the_group_in highest runs_from differ follow all_apart parted encode_with group_on label_in label_of areas_at fields_at header_of locations_at past_blanks string_at integer_at item_at body_at value_at first_value_at separator_at words_at found_at name_of number_in number_at text_in text_at section_in section_at logical_volumes each_at pv_at stripe_in kind_at segment_at numbered segment_numbered segments_at lv_at group_at group_in digits foremost times_x times_x_to arrays whole held sector from_hex digit first_label second_label the_text the_header sha1 first_words schedule rounds compress hash_after digest_bytes
no_second_header = refl

-- a location of another sum
bad_sum : first_bad (arrays (λ n x. if (n == 1) && (x == 8) then bad_header else whole n x)) ≡ Some 1
unfolding is_bad the_group_in highest runs_from differ follow all_apart parted encode_with group_on label_in label_of areas_at fields_at header_of locations_at past_blanks string_at integer_at item_at body_at value_at first_value_at separator_at words_at found_at name_of number_in number_at text_in text_at section_in section_at logical_volumes each_at pv_at stripe_in kind_at segment_at numbered segment_numbered segments_at lv_at group_at group_in digits foremost times_x times_x_to arrays whole held sector from_hex digit first_label second_label the_text the_header sha1 first_words schedule rounds compress hash_after digest_bytes bad_header
bad_sum = refl

-- and one of a text of 262145 bytes
long_text : first_bad (arrays (λ n x. if (n == 1) && (x == 8) then long_header else whole n x)) ≡ Some 1
unfolding is_bad the_group_in highest runs_from differ follow all_apart parted encode_with group_on label_in label_of areas_at fields_at header_of locations_at past_blanks string_at integer_at item_at body_at value_at first_value_at separator_at words_at found_at name_of number_in number_at text_in text_at section_in section_at logical_volumes each_at pv_at stripe_in kind_at segment_at numbered segment_numbered segments_at lv_at group_at group_in digits foremost times_x times_x_to arrays whole held sector from_hex digit first_label second_label the_text the_header sha1 first_words schedule rounds compress hash_after digest_bytes long_header
long_text = refl

-- a location that gives no text is bad in an array without a label too, which no text names
bad_beside : first_bad (arrays (λ n x. if n == 0 then alone n x else if x == 8 then bad_header else replicate 512 0)) ≡ Some 1
unfolding is_bad the_group_in highest runs_from differ follow all_apart parted encode_with group_on label_in label_of areas_at fields_at header_of locations_at past_blanks string_at integer_at item_at body_at value_at first_value_at separator_at words_at found_at name_of number_in number_at text_in text_at section_in section_at logical_volumes each_at pv_at stripe_in kind_at segment_at numbered segment_numbered segments_at lv_at group_at group_in digits foremost times_x times_x_to arrays whole held sector from_hex digit first_label second_label the_text the_header sha1 first_words schedule rounds compress hash_after digest_bytes alone alone_header alone_text bad_header
bad_beside = refl

-- without a header it is left out
not_in_group : first_bad (arrays (λ n x. if n == 0 then alone n x else replicate 512 0)) ≡ None
unfolding is_bad the_group_in highest runs_from differ follow all_apart parted encode_with group_on label_in label_of areas_at fields_at header_of locations_at past_blanks string_at integer_at item_at body_at value_at first_value_at separator_at words_at found_at name_of number_in number_at text_in text_at section_in section_at logical_volumes each_at pv_at stripe_in kind_at segment_at numbered segment_numbered segments_at lv_at group_at group_in digits foremost times_x times_x_to arrays whole held sector from_hex digit first_label second_label the_text the_header sha1 first_words schedule rounds compress hash_after digest_bytes alone alone_header alone_text
not_in_group = refl
