-- The definitions at small examples.
use Rattle.std.specs.Prelude.{◌≡◌, ℕ, ◌+◌, ◌-◌, ◌*◌, ◌/◌, ◌%◌, ◌==◌, true, false, [], ◌∷◌, Some, None, refl}
use Rattle.rack.specs.Seen.{Image}
use Rattle.raid_map.specs.LeftSymmetric.{member_of, parity_of, row_of, column_of, sector_of}
use Rattle.parity.specs.Xor.{xor, xor_all}
use Rattle.array_image.specs.Foremost.{foremost}
use Rattle.rack.specs.Targets.{look}
use Rattle.array_image.specs.Stripes.{Layout, mirror, parity, there, at_position, given}
use Rattle.array_image.specs.Arrays.{Member, Shape, value_by, sectors_by}
use Rattle.array_image.specs.Spent.{spent_by}

-- sectors of one byte: 16 * place + the row
contents : Image
contents d t = (16 * (d / 17) + (t - 2048) / 128) ∷ []

member : ℕ → ℕ → Member
member place reach = record { place = place; reach = reach; is_there = true; is_whole = reach == 384 }

-- three members of three rows, the second one rebuilt in the first row alone
array : ℕ → Layout → Layout → ℕ → Shape
array reach moved layout reached = record {
  members = member 0 384 ∷ member 1 reach ∷ member 2 384 ∷ [];
  size = 384;
  moved = moved;
  layout = layout;
  reached = reached;
}

whole_array : Shape
whole_array = array 384 (parity 3) (parity 3) 0

-- row 0 has parity on member 2 and data on 0 and 1; row 1 has parity on 1 and data on 2 and 0
first_row : value_by whole_array contents 0 128 ≡ 16 ∷ []
unfolding value_by whole_array array member contents given at_position there member_of parity_of row_of column_of sector_of xor_all xor
first_row = refl

second_row : value_by whole_array contents 0 256 ≡ 33 ∷ []
unfolding value_by whole_array array member contents given at_position there member_of parity_of row_of column_of sector_of xor_all xor
second_row = refl

-- without member 1 its sector is the XOR of the others, 0 and 32
lost_member : value_by (array 0 (parity 3) (parity 3) 0) contents 0 128 ≡ 32 ∷ []
unfolding value_by array member contents given at_position there member_of parity_of row_of column_of sector_of xor_all xor
lost_member = refl

-- rebuilt in row 0 and not in row 2, where it has the first data chunk: 2 ^ 34
rebuilt_row : value_by (array 128 (parity 3) (parity 3) 0) contents 0 128 ≡ 16 ∷ []
unfolding value_by array member contents given at_position there member_of parity_of row_of column_of sector_of xor_all xor
rebuilt_row = refl

row_to_rebuild : value_by (array 128 (parity 3) (parity 3) 0) contents 0 512 ≡ 32 ∷ []
unfolding value_by array member contents given at_position there member_of parity_of row_of column_of sector_of xor_all xor
row_to_rebuild = refl

-- a reshape from two members to three that has moved one new row: chunk 1 is in the new row 0, chunk 2 in the old row 2
moved_chunk : value_by (array 384 (parity 3) (parity 2) 256) contents 0 128 ≡ 16 ∷ []
unfolding value_by array member contents given at_position there member_of parity_of row_of column_of sector_of xor_all xor
moved_chunk = refl

old_chunk : value_by (array 384 (parity 3) (parity 2) 256) contents 0 256 ≡ 2 ∷ []
unfolding value_by array member contents given at_position there member_of parity_of row_of column_of sector_of xor_all xor
old_chunk = refl

-- a mirror gives the lowest member that counts
mirror_copy : value_by (array 0 (mirror 3) (mirror 3) 0) contents 0 5 ≡ 0 ∷ []
unfolding value_by array member contents given at_position there member_of parity_of row_of column_of sector_of xor_all xor
mirror_copy = refl

-- and the next one where a rebuild of that hasn't come so far: member 0 is rebuilt up to sector 128
rebuilding_mirror : Shape
rebuilding_mirror = record {
  members = member 0 128 ∷ member 1 384 ∷ [];
  size = 384;
  moved = mirror 2;
  layout = mirror 2;
  reached = 0;
}

rebuilt_copy : value_by rebuilding_mirror contents 0 127 ≡ 0 ∷ []
unfolding value_by rebuilding_mirror member contents given there
rebuilt_copy = refl

copy_to_rebuild : value_by rebuilding_mirror contents 0 128 ≡ 17 ∷ []
unfolding value_by rebuilding_mirror member contents given there
copy_to_rebuild = refl

-- Four members: sector 1000 stands on member 3, sector 360 of its data, with the parity on member 1. Contents are the place and
-- the sector of the data.
row_contents : Image
row_contents d t = (d / 17) ∷ ((t - 2048) / 256) ∷ ((t - 2048) % 256) ∷ []

four : ℕ → Shape
four lost = record {
  members = member 0 384 ∷ member 1 384 ∷ member 2 384 ∷ member 3 lost ∷ [];
  size = 384;
  moved = parity 4;
  layout = parity 4;
  reached = 0;
}

sector_of_four : value_by (four 384) row_contents 0 1000 ≡ 3 ∷ 1 ∷ 104 ∷ []
unfolding value_by four member row_contents given at_position there member_of parity_of row_of column_of sector_of xor_all xor
sector_of_four = refl

parity_of_four : parity_of 4 (row_of 4 1000) ≡ 1
unfolding parity_of row_of
parity_of_four = refl

-- without member 3 it is the XOR of places 0, 1 and 2 there, which agree with it
lost_of_four : value_by (four 0) row_contents 0 1000 ≡ 3 ∷ 1 ∷ 104 ∷ []
unfolding value_by four member row_contents given at_position there member_of parity_of row_of column_of sector_of xor_all xor
lost_of_four = refl

-- without member 3 it is spent where its row, the third one, is left to resync
spent_of_four : spent_by (four 0) 3 1000 ≡ false
unfolding four member sector_of row_of
spent_of_four = refl

unsynced_of_four : spent_by (four 0) 2 1000 ≡ true
unfolding four member sector_of row_of
unsynced_of_four = refl

-- a reshape whose border is inside a row: chunk 0 is in the new row 0, chunk 1 still in the old row 1
inside_below : value_by (array 384 (parity 3) (parity 2) 128) contents 0 127 ≡ 0 ∷ []
unfolding value_by array member contents given at_position there member_of parity_of row_of column_of sector_of xor_all xor
inside_below = refl

inside_above : value_by (array 384 (parity 3) (parity 2) 128) contents 0 128 ≡ 17 ∷ []
unfolding value_by array member contents given at_position there member_of parity_of row_of column_of sector_of xor_all xor
inside_above = refl

reshaping_size : sectors_by (array 384 (parity 3) (parity 2) 256) ≡ 384
unfolding array
reshaping_size = refl

-- the greatest, and of equal ones the first
pub most : foremost (λ (p : ℕ × ℕ). p.0) (Some (3, 0) ∷ None ∷ Some (5, 1) ∷ Some (5, 2) ∷ []) ≡ Some (5, 1)
unfolding foremost
most = refl

-- of two targets for a sector the last
pub last_target :
    look (record { disk = 1; sector = 2; bytes = 7 ∷ [] } ∷ record { disk = 1; sector = 2; bytes = 8 ∷ [] } ∷ record { disk = 1; sector = 3; bytes = 9 ∷ [] } ∷ []) 1 2 ≡ Some (8 ∷ [])
unfolding look
last_target = refl
