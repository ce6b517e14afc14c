-- The definitions of the commit log at contents that are written out.
use Rattle.std.specs.Prelude.{◌≡◌, ℕ, ◌+◌, ◌-◌, ◌*◌, ◌==◌, nat_lt, if◌then◌else◌, true, false, List, [], ◌∷◌, ◌++◌, length, map, replicate, codes, Some, None, option_map, refl}
use Rattle.rack.specs.Seen.{Image}
use Rattle.shr_base.specs.Blocks.{bytes_at, number_at, put_at}
use Rattle.shr_base.specs.Crc.{times_x, times_x_to}
use Rattle.pool_state.specs.Sector.{drive_at, copied_of, has_zeros, is_canonical, sum_of}
use Rattle.array_image.specs.Foremost.{foremost}
use Rattle.rack.specs.Targets.{Target, look}
use Rattle.array_image.specs.Record.{gate_of, record_of, pending_at, pending, damaged_log}
use Rattle.array_image.specs.States.{state_in, current_places}
use Rattle.array_image.specs.Arrays.{replayed}

digit : ℕ → ℕ
digit code = if nat_lt code 58 then code - 48 else code - 87

-- bytes by their hexadecimal digits
from_hex : List ℕ → List ℕ
from_hex (high ∷ low ∷ others) = (16 * digit high + digit low) ∷ from_hex others
from_hex _ = []

-- a sector that begins so, and has zeros behind it
sector : List ℕ → List ℕ
sector digits = let bytes = from_hex digits in bytes ++ replicate (512 - length bytes) 0

-- ---- gates of number 7, open and closed, and of number 6

open_gate : List ℕ
open_gate = sector (codes "53485247415445319b6df40e0100000007")

closed_gate : List ℕ
closed_gate = sector (codes "5348524741544531a78f8feb0000000007")

earlier_gate : List ℕ
earlier_gate = sector (codes "534852474154453169427a370100000006")

-- the first sector of record 7, which has two targets: sector 2053 of slice 18 with sevens, and sector 3 of slice 35 with ones
record_head : List ℕ
record_head = sector (codes "534852424f4459311e532704020000000700000000000000000000000000000000000000000000000000000000000000000000000000000000000000000000001200000005080000000000002300000003")

-- the copies of a new pool of two drives, on places 0 and 1
first_state : List ℕ
first_state = sector (codes "534852504f4f4c310100000018ce6bd10102030405060708090a0b0c0d0e0f100100000000000000800000000200000001010000000000000200000000000000397e0c7938a65b93816a91a2f8dc04680a00000000000000000000008ca2f55ff57459e2859af362377c2b5a0a")

second_state : List ℕ
second_state = sector (codes "534852504f4f4c31010000003be1affa0102030405060708090a0b0c0d0e0f100100000000000000800000000201000001010000000000000200000000000000397e0c7938a65b93816a91a2f8dc04680a00000000000000000000008ca2f55ff57459e2859af362377c2b5a0a")

-- ---- what they say

open_says : gate_of open_gate ≡ Some (record { is_open = true; number = 7 })
unfolding gate_of open_gate sector from_hex digit bytes_at number_at put_at times_x times_x_to
open_says = refl

closed_says : gate_of closed_gate ≡ Some (record { is_open = false; number = 7 })
unfolding gate_of closed_gate sector from_hex digit bytes_at number_at put_at times_x times_x_to
closed_says = refl

-- one bit more isn't a gate
bad_gate_says : gate_of (put_at 20 1 (1 ∷ []) open_gate) ≡ None
unfolding gate_of open_gate sector from_hex digit bytes_at number_at put_at times_x times_x_to
bad_gate_says = refl

-- the log slices of two places with these gates, and record 7 on the first
logs : List ℕ → List ℕ → Image
logs first second k s =
    if k == 0 then (
    if s == 0 then first_state
    else if s == 1 then first
    else if s == 4100 then record_head
    else if s == 4196 then replicate 512 7
    else if s == 4197 then replicate 512 1
    else replicate 512 0
    )
    else if k == 17 then (if s == 0 then second_state else if s == 1 then second else replicate 512 0)
    else []

-- the disk and the sector of each pending target
targets_in : Image → List (ℕ × ℕ)
targets_in c = map (λ (t : Target). (t.disk, t.sector)) (pending (0 ∷ 1 ∷ []) c)

-- pending: both gates of the greatest number are open, or the other one has a lower number
both_open : targets_in (logs open_gate open_gate) ≡ (18, 2053) ∷ (35, 3) ∷ []
unfolding targets_in logs pending pending_at record_of gate_of foremost open_gate closed_gate earlier_gate record_head first_state second_state sector from_hex digit bytes_at number_at put_at times_x times_x_to
both_open = refl

other_earlier : targets_in (logs open_gate earlier_gate) ≡ (18, 2053) ∷ (35, 3) ∷ []
unfolding targets_in logs pending pending_at record_of gate_of foremost open_gate closed_gate earlier_gate record_head first_state second_state sector from_hex digit bytes_at number_at put_at times_x times_x_to
other_earlier = refl

-- not pending: one of that number is closed
one_closed : targets_in (logs open_gate closed_gate) ≡ []
unfolding targets_in logs pending pending_at record_of gate_of foremost open_gate closed_gate earlier_gate record_head first_state second_state sector from_hex digit bytes_at number_at put_at times_x times_x_to
one_closed = refl

-- nothing is replayed beside a gate that isn't well formed, whose place is named
bad_beside : targets_in (logs open_gate (replicate 512 0)) ≡ []
unfolding targets_in logs pending pending_at record_of gate_of foremost open_gate closed_gate earlier_gate record_head first_state second_state sector from_hex digit bytes_at number_at put_at times_x times_x_to
bad_beside = refl

bad_named : damaged_log (0 ∷ 1 ∷ []) (logs open_gate (replicate 512 0)) ≡ Some 1
unfolding targets_in logs pending pending_at record_of gate_of foremost open_gate closed_gate earlier_gate record_head first_state second_state sector from_hex digit bytes_at number_at put_at times_x times_x_to
bad_named = refl

-- an absent place's gate neither decides nor hinders
absent_beside : targets_in (λ k s. if k == 17 then [] else logs open_gate open_gate k s) ≡ (18, 2053) ∷ (35, 3) ∷ []
unfolding targets_in logs pending pending_at record_of gate_of foremost open_gate closed_gate earlier_gate record_head first_state second_state sector from_hex digit bytes_at number_at put_at times_x times_x_to
absent_beside = refl

-- a record in the other half isn't there
no_record : damaged_log (0 ∷ 1 ∷ []) (logs earlier_gate earlier_gate) ≡ Some 0
unfolding targets_in logs pending pending_at record_of gate_of foremost open_gate closed_gate earlier_gate record_head first_state second_state sector from_hex digit bytes_at number_at put_at times_x times_x_to
no_record = refl

-- the state is that of both copies
state_says : option_map current_places (state_in (logs open_gate open_gate)) ≡ Some (0 ∷ 1 ∷ [])
unfolding state_in current_places foremost drive_at copied_of has_zeros is_canonical sum_of lib.Count.ones logs first_state second_state sector from_hex digit bytes_at number_at put_at times_x times_x_to
state_says = refl

-- slices of 4000 sectors: the payload stands in its target, once both states have been read
payload : replayed (λ k. 4000) (logs open_gate open_gate) 18 2053 ≡ replicate 512 7
unfolding replayed state_in current_places foremost drive_at copied_of has_zeros is_canonical sum_of lib.Count.ones look logs pending pending_at record_of gate_of open_gate record_head first_state second_state sector from_hex digit bytes_at number_at put_at times_x times_x_to
payload = refl

-- and is passed over where the slice ends before it
passed_over : replayed (λ k. 2053) (logs open_gate open_gate) 18 2053 ≡ []
unfolding replayed state_in current_places foremost drive_at copied_of has_zeros is_canonical sum_of lib.Count.ones look logs pending pending_at record_of gate_of open_gate record_head first_state second_state sector from_hex digit bytes_at number_at put_at times_x times_x_to
passed_over = refl
