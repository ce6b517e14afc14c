-- Numbers, zeros and checks, as they are written and read again.
use Rattle.std.proofs.Common.{◌≡◌, ℕ, zero, suc, ◌*◌, ◌/◌, ◌%◌, ◌^◌, ◌<◌, List, [], ◌∷◌, ◌++◌, get_or, replicate, bit_xor, refl, arith}
use Rattle.std.proofs.lemmas.Nat.{xor_of_32, from_le_bytes-to_le_bytes_8, from_le_bytes-to_le_bytes_4}
use Rattle.byteorder.specs.Endian.{little_bytes, little_number}
use Rattle.shr_base.specs.Crc.{times_x, times_x_to, remainder_from, lvm_crc_of, generator}
use Rattle.lvm_label.specs.Fields.{AreBytes, padded}

pub little_8 : (x : ℕ) → x < 2 ^ 64 → little_number 8 (little_bytes 8 x) ≡ x
little_8 x h = omega (arith, from_le_bytes-to_le_bytes_8 x h)

pub little_4 : (x : ℕ) → x < 2 ^ 32 → little_number 4 (little_bytes 4 x) ≡ x
little_4 x h = omega (arith, from_le_bytes-to_le_bytes_4 x h)

zero_in : (k i : ℕ) → ◌≡◌ {A = ℕ} (get_or (replicate {A = ℕ} k 0) i 0) 0
zero_in zero i = refl
zero_in (suc k) zero = refl
zero_in (suc k) (suc i) = zero_in k i

pub little_zeros : (k : ℕ) → little_number 8 (replicate k 0) ≡ 0
little_zeros k = omega (arith, zero_in k 0, zero_in k 1, zero_in k 2, zero_in k 3, zero_in k 4, zero_in k 5, zero_in k 6, zero_in k 7)

-- ---- bytes

pub AreBytes-append : (a b : List ℕ) → AreBytes a → AreBytes b → AreBytes (a ++ b)
AreBytes-append [] b ha hb = hb
AreBytes-append (x ∷ a) b ha hb = (ha.0, AreBytes-append a b ha.1 hb)

pub AreBytes-zeros : (k : ℕ) → AreBytes (replicate k 0)
AreBytes-zeros zero = tt
AreBytes-zeros (suc k) = (omega arith, AreBytes-zeros k)

pub AreBytes-little_8 : (x : ℕ) → AreBytes (little_bytes 8 x)
AreBytes-little_8 x = (omega arith, (omega arith, (omega arith, (omega arith, (omega arith, (omega arith, (omega arith, (omega arith, tt))))))))

pub AreBytes-little_4 : (x : ℕ) → AreBytes (little_bytes 4 x)
AreBytes-little_4 x = (omega arith, (omega arith, (omega arith, (omega arith, tt))))

pub AreBytes-padded : (size : ℕ) (text : List ℕ) → AreBytes text → AreBytes (padded size text)
unfolding padded
AreBytes-padded size text h = AreBytes-append text _ h (AreBytes-zeros _)

-- ---- the check fits 32 bits

times_x-below : (r : ℕ) → r < 2 ^ 32 → times_x r < 2 ^ 32
unfolding times_x
times_x-below r h = xor_of_32 (r / 2) (generator * (r % 2)) (omega arith) (omega arith)

times_x_to-below : (n r : ℕ) → r < 2 ^ 32 → times_x_to n r < 2 ^ 32
unfolding times_x_to
times_x_to-below zero r h = h
times_x_to-below (suc n) r h = times_x_to-below n (times_x r) (times_x-below r h)

remainder-below : (r : ℕ) (bytes : List ℕ) → r < 2 ^ 32 → AreBytes bytes → remainder_from r bytes < 2 ^ 32
remainder-below r [] h bs = h
remainder-below r (b ∷ bytes) h bs = remainder-below (times_x_to 8 (bit_xor r b)) bytes (times_x_to-below 8 (bit_xor r b) (xor_of_32 r b h (omega (arith, bs.0)))) bs.1

pub lvm_crc-below : (bytes : List ℕ) → AreBytes bytes → lvm_crc_of bytes < 2 ^ 32
lvm_crc-below bytes h = remainder-below 0xf597a6cf bytes (omega arith) h
