-- Remainders by the generator: they are linear, and whole bytes go through the register at once.
use Rattle.std.proofs.Common.{◌≡◌, ℕ, zero, suc, ◌+◌, ◌*◌, ◌/◌, ◌%◌, ◌^◌, ◌<◌, bit_xor, List, [], ◌∷◌, ◌++◌, length, get_or, refl, sym, ap, ◌∙◌, arith, take, drop, zero-add, suc-add, take-append-drop}
use Rattle.std.proofs.lemmas.Nat.{xor_shr, xor_mod, xor_comm, shr_split}
use Rattle.std.proofs.lemmas.List.Sums.{fold-append}
use Rattle.std.proofs.Math.Nat.{div-div-eq-div-mul, div-eq_of_lt, mod-eq_of_lt, pow-suc}
use lib.Bits.{xor_assoc, xor_zero_r, xor_shifted, shifted_half, shifted_even}
use Rattle.std.specs.Int.{byte_at}
use Rattle.byteorder.specs.Endian.{little_number}
use Rattle.byteorder.specs.Numbers.{little_from-cons}
use Rattle.shr_base.specs.Crc.{generator, times_x, times_x_to, after_byte, remainder_from}

-- the two inner of four terms change places
swap_inner : (a b c d : ℕ) → bit_xor (bit_xor a b) (bit_xor c d) ≡ bit_xor (bit_xor a c) (bit_xor b d)
swap_inner a b c d =
    xor_assoc a b (bit_xor c d)
    ∙ ap (bit_xor a) (sym (xor_assoc b c d) ∙ ap (λ (x : ℕ). bit_xor x d) (xor_comm b c) ∙ xor_assoc c b d)
    ∙ sym (xor_assoc a c (bit_xor b d))

-- a multiple of the generator by a bit
multiple : (a b : ℕ) → a < 2 → b < 2 → generator * bit_xor a b ≡ bit_xor (generator * a) (generator * b)
multiple zero b p q = refl
multiple (suc zero) zero p q = refl
multiple (suc zero) (suc zero) p q = refl
multiple (suc zero) (suc (suc b)) p q = absurd (omega arith)
multiple (suc (suc a)) b p q = absurd (omega arith)

times_x-xor : (a b : ℕ) → times_x (bit_xor a b) ≡ bit_xor (times_x a) (times_x b)
unfolding times_x
times_x-xor a b =
    ap (λ (x : ℕ). bit_xor x (generator * (bit_xor a b % 2))) (xor_shr a b 1)
    ∙ ap (λ (x : ℕ). bit_xor (bit_xor (a / 2) (b / 2)) (generator * x)) (xor_mod a b 1)
    ∙ ap (bit_xor (bit_xor (a / 2) (b / 2))) (multiple (a % 2) (b % 2) (omega arith) (omega arith))
    ∙ swap_inner (a / 2) (b / 2) (generator * (a % 2)) (generator * (b % 2))

pub times_x_to-xor : (n a b : ℕ) → times_x_to n (bit_xor a b) ≡ bit_xor (times_x_to n a) (times_x_to n b)
unfolding times_x_to
times_x_to-xor zero a b = refl
times_x_to-xor (suc n) a b = ap (times_x_to n) (times_x-xor a b) ∙ times_x_to-xor n (times_x a) (times_x b)

pub times_x_to-add : (m n r : ℕ) → times_x_to (m + n) r ≡ times_x_to n (times_x_to m r)
unfolding times_x_to
times_x_to-add zero n r = rw zero-add refl
times_x_to-add (suc m) n r = rw suc-add (times_x_to-add m n (times_x r))

-- what stands n bits up comes down in n steps
times_x_to-shifted : (n r : ℕ) → times_x_to n (r * 2 ^ n) ≡ r
unfolding times_x_to times_x
times_x_to-shifted zero r = omega arith
times_x_to-shifted (suc n) r =
    ap (times_x_to n) (ap (λ (x : ℕ). bit_xor x (generator * (r * 2 ^ suc n % 2))) (shifted_half r n)
    ∙ ap (λ (x : ℕ). bit_xor (r * 2 ^ n) (generator * x)) (shifted_even r n) ∙ xor_zero_r (r * 2 ^ n))
    ∙ times_x_to-shifted n r

-- the lowest byte goes through the register, and the others come down
pub low_byte : (n r : ℕ) → times_x_to (8 + n) r ≡ bit_xor (times_x_to (8 + n) (r % 256)) (times_x_to n (r / 256))
low_byte n r =
    let low : ℕ = r % 256 in
    let high : ℕ = r / 256 in
    let parts : r ≡ bit_xor low (high * 2 ^ 8) = sym (xor_comm low (high * 2 ^ 8) ∙ xor_shifted high 8 low (omega arith) ∙ shr_split r 8) in
    ap (times_x_to (8 + n)) parts ∙ times_x_to-xor (8 + n) low (high * 2 ^ 8)
    ∙ ap (bit_xor (times_x_to (8 + n) low)) (times_x_to-add 8 n (high * 2 ^ 8) ∙ ap (times_x_to n) (times_x_to-shifted 8 high))

-- the bytes of a list: each is below 256
abbrev pub AreBytes : List ℕ → Type 0
AreBytes bytes = (i : ℕ) → get_or bytes i 0 < 256

-- bytes that go through the register one by one go through it as one number
pub remainder_from-number : (register : ℕ) (bytes : List ℕ) → AreBytes bytes
    → remainder_from register bytes ≡ times_x_to (8 * length bytes) (bit_xor register (little_number (length bytes) bytes))
unfolding times_x_to
remainder_from-number register [] fits = sym (xor_zero_r register)
remainder_from-number register (b ∷ bytes) fits =
    let n : ℕ = 8 * length bytes in
    let others : ℕ = little_number (length bytes) bytes in
    let number : little_number (suc (length bytes)) (b ∷ bytes) ≡ bit_xor b (others * 2 ^ 8)
    = ap (λ (x : ℕ). b + 256 * x) (little_from-cons 0 (length bytes) b bytes)
    ∙ omega arith ∙ sym (xor_shifted others 8 b (fits 0)) ∙ xor_comm (others * 2 ^ 8) b in
    let longer : 8 + n ≡ 8 * suc (length bytes) = omega arith in
    remainder_from-number (after_byte register b) bytes (λ i. fits (suc i))
    ∙ ap (λ (x : ℕ). times_x_to n (bit_xor (after_byte register b) x)) (sym (times_x_to-shifted 8 others))
    ∙ ap (times_x_to n) (sym (times_x_to-xor 8 (bit_xor register b) (others * 2 ^ 8)))
    ∙ sym (times_x_to-add 8 n (bit_xor (bit_xor register b) (others * 2 ^ 8)))
    ∙ ap (times_x_to (8 + n)) (xor_assoc register b (others * 2 ^ 8) ∙ ap (bit_xor register) (sym number))
    ∙ ap (λ (k : ℕ). times_x_to k (bit_xor register (little_number (suc (length bytes)) (b ∷ bytes)))) longer

-- the same for a count of bytes that is known
pub remainder_from-count : (register n : ℕ) (bytes : List ℕ) → length bytes ≡ n → AreBytes bytes
    → times_x_to (8 * n) (bit_xor register (little_number n bytes)) ≡ remainder_from register bytes
remainder_from-count register n bytes long fits =
    sym (remainder_from-number register bytes fits ∙ ap (λ (k : ℕ). times_x_to (8 * k) (bit_xor register (little_number k bytes))) long)

-- a chunk of n bytes at the front goes through the register first
pub remainder_from-chunk : (register n : ℕ) (chunk bytes : List ℕ) → chunk ≡ take n bytes
    → remainder_from register bytes ≡ remainder_from (remainder_from register chunk) (drop n bytes)
remainder_from-chunk register n chunk bytes is_front =
    ap (remainder_from register) (sym (take-append-drop n bytes) ∙ ap (λ (xs : List ℕ). xs ++ drop n bytes) (sym is_front))
    ∙ fold-append after_byte register chunk (drop n bytes)

-- one byte goes through the register by the table of one byte
pub after_byte-low : (register byte : ℕ) → byte < 256
    → after_byte register byte ≡ bit_xor (register / 256) (times_x_to 8 (bit_xor (register % 256) byte))
unfolding times_x_to
after_byte-low register byte is_byte =
    let mixed : ℕ = bit_xor register byte in
    let high : mixed / 256 ≡ register / 256 = xor_shr register byte 8 ∙ ap (bit_xor (register / 256)) (div-eq_of_lt is_byte) ∙ xor_zero_r (register / 256) in
    let low : mixed % 256 ≡ bit_xor (register % 256) byte = xor_mod register byte 8 ∙ ap (bit_xor (register % 256)) (mod-eq_of_lt is_byte) in
    low_byte 0 mixed ∙ xor_comm (times_x_to 8 (mixed % 256)) (mixed / 256)
    ∙ ap (λ (x : ℕ). bit_xor x (times_x_to 8 (mixed % 256))) high
    ∙ ap (λ (x : ℕ). bit_xor (register / 256) (times_x_to 8 x)) low

-- the same for the bytes above byte i
next_byte : (sum n i word : ℕ)
    → bit_xor sum (times_x_to (8 + n) (word / 256 ^ suc i)) ≡ bit_xor (bit_xor sum (times_x_to (8 + n) (byte_at (suc i) word))) (times_x_to n (word / 256 ^ suc (suc i)))
next_byte sum n i word =
    let above : ℕ = word / 256 ^ suc i in
    let one_up : above / 256 ≡ word / 256 ^ suc (suc i) = div-div-eq-div-mul word (256 ^ suc i) 256 ∙ ap (λ (x : ℕ). word / x) (sym (pow-suc 256 (suc i))) in
    ap (bit_xor sum) (low_byte n above ∙ ap (λ (x : ℕ). bit_xor (times_x_to (8 + n) (byte_at (suc i) word)) (times_x_to n x)) one_up)
    ∙ sym (xor_assoc sum (times_x_to (8 + n) (byte_at (suc i) word)) (times_x_to n (word / 256 ^ suc (suc i))))

times_x_to-zero : (r : ℕ) → times_x_to 0 r ≡ r
unfolding times_x_to
times_x_to-zero r = refl

-- 64 bits go through the register by eight tables, a byte each
pub times_x_to-word : (word : ℕ) → word < 2 ^ 64
    → times_x_to 64 word
    ≡ bit_xor (bit_xor (bit_xor (bit_xor (bit_xor (bit_xor (bit_xor (times_x_to 64 (byte_at 0 word)) (times_x_to 56 (byte_at 1 word)))
    (times_x_to 48 (byte_at 2 word))) (times_x_to 40 (byte_at 3 word))) (times_x_to 32 (byte_at 4 word)))
    (times_x_to 24 (byte_at 5 word))) (times_x_to 16 (byte_at 6 word))) (times_x_to 8 (byte_at 7 word))
times_x_to-word word fits =
    low_byte 56 word
    ∙ next_byte _ 48 0 word ∙ next_byte _ 40 1 word ∙ next_byte _ 32 2 word ∙ next_byte _ 24 3 word ∙ next_byte _ 16 4 word ∙ next_byte _ 8 5 word
    ∙ next_byte _ 0 6 word
    ∙ ap (bit_xor _) (times_x_to-zero (word / 2 ^ 64) ∙ div-eq_of_lt fits)
    ∙ xor_zero_r _
