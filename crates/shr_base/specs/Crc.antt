-- The cyclic redundancy check of 32 bits by the polynomial of IEEE 802.3, bit by bit.
--
-- A register of 32 bits is a polynomial of degree below 32 over the field of two elements, reflected:
-- bit 31 - k is the coefficient of x^k. Adding two polynomials is `bit_xor`.
use Rattle.std.specs.Prelude.{ℕ, zero, suc, ◌/◌, ◌%◌, ◌*◌, bit_xor, List, fold}

-- the generator x^32 + x^26 + x^23 + x^22 + x^16 + x^12 + x^11 + x^10 + x^8 + x^7 + x^5 + x^4 + x^2 + x + 1,
-- without its highest power
abbrev pub generator : ℕ
generator = 0xedb88320

-- the remainder of x * r by the generator: where r has the power x^31, the generator is subtracted
unfoldable pub times_x : ℕ → ℕ
times_x r = bit_xor (r / 2) (generator * (r % 2))

-- the remainder of x^n * r by the generator
unfoldable pub times_x_to : ℕ → ℕ → ℕ
times_x_to zero r = r
times_x_to (suc n) r = times_x_to n (times_x r)

-- the register once a byte has gone through it, its lowest bit first
abbrev pub after_byte : ℕ → ℕ → ℕ
after_byte register byte = times_x_to 8 (bit_xor register byte)

-- the register once some bytes have gone through it, from a start value
abbrev pub remainder_from : ℕ → List ℕ → ℕ
remainder_from start bytes = fold after_byte start bytes

-- CRC-32 as GPT and zlib take it (UEFI, ISO 3309): it starts with all ones and inverts the register at the end
abbrev pub crc32_of : List ℕ → ℕ
crc32_of bytes = bit_xor (remainder_from 0xffffffff bytes) 0xffffffff

-- the check of LVM2's labels, headers and texts: another start value, and no inversion
abbrev pub lvm_crc_of : List ℕ → ℕ
lvm_crc_of bytes = remainder_from 0xf597a6cf bytes
