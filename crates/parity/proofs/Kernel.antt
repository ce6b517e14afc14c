use Rattle.std.proofs.Common.{◌≡◌, ℕ, ◌+◌, ◌-◌, ◌<◌, ◌≤◌, List, length, get_or, bit_xor, sym, ◌∙◌, arith, take, drop}
use Rattle.std.proofs.lemmas.List.{ext_get_or}
use Rattle.std.proofs.lemmas.Simd.{length-chunk, get_or-chunk, get_or-zip2, length-zip2, get_or-put_chunk_below, get_or-put_chunk_at, get_or-put_chunk_above}
use Rattle.std.specs.Simd.Lanes.{zip2, put_chunk}
use Rattle.parity.specs.Xor.{xor}

-- the vector of a block
abbrev pub block_of : List ℕ → List ℕ → ℕ → List ℕ
block_of a b at = zip2 bit_xor (take 64 (drop at a)) (take 64 (drop at b))

pub length-block_of : (a b : List ℕ) (at : ℕ) → at + 64 ≤ length a → length a ≡ length b → length (block_of a b at) ≡ 64
length-block_of a b at within lengths =
    let here : length (take 64 (drop at a)) ≡ 64 = length-chunk at 64 a within in
    let there : length (take 64 (drop at b)) ≡ 64 = length-chunk at 64 b (omega arith) in
    length-zip2 bit_xor (take 64 (drop at a)) (take 64 (drop at b)) (here ∙ sym there) ∙ here

pub below_block : (a b : List ℕ) (at : ℕ) → (k : ℕ) → k < at → get_or (put_chunk at a (block_of a b at)) k 0 ≡ get_or a k 0
below_block a b at k low = get_or-put_chunk_below at a (block_of a b at) k 0 low

pub in_block : (a b : List ℕ) (at : ℕ) → at + 64 ≤ length a → length a ≡ length b → (k : ℕ) → at ≤ k → k < at + 64 → get_or (put_chunk at a (block_of a b at)) k 0 ≡ bit_xor (get_or a k 0) (get_or b k 0)
in_block a b at within lengths k low high =
    let wide : length (block_of a b at) ≡ 64 = length-block_of a b at within lengths in
    let here : length (take 64 (drop at a)) ≡ 64 = length-chunk at 64 a within in
    let there : length (take 64 (drop at b)) ≡ 64 = length-chunk at 64 b (omega arith) in
    let j : ℕ = k - at in
    let back : at + j ≡ k = omega arith in
    let small : j < 64 = omega arith in
    let stored : get_or (put_chunk at a (block_of a b at)) (at + j) 0 ≡ get_or (block_of a b at) j 0 = get_or-put_chunk_at at a (block_of a b at) j 0 (omega arith) (omega arith) in
    let lane : get_or (block_of a b at) j 0 ≡ bit_xor (get_or (take 64 (drop at a)) j 0) (get_or (take 64 (drop at b)) j 0) = get_or-zip2 bit_xor (take 64 (drop at a)) (take 64 (drop at b)) j 0 0 0 (omega arith) (omega arith) in
    let left : get_or (take 64 (drop at a)) j 0 ≡ get_or a (at + j) 0 = get_or-chunk at 64 a j 0 small in
    let right : get_or (take 64 (drop at b)) j 0 ≡ get_or b (at + j) 0 = get_or-chunk at 64 b j 0 small in
    cc

pub above_block : (a b : List ℕ) (at : ℕ) → at + 64 ≤ length a → length a ≡ length b → (k : ℕ) → at + 64 ≤ k → get_or (put_chunk at a (block_of a b at)) k 0 ≡ get_or a k 0
above_block a b at within lengths k high =
    get_or-put_chunk_above at a (block_of a b at) k 0 (let wide : length (block_of a b at) ≡ 64 = length-block_of a b at within lengths in omega arith)

-- The first bytes of now are XORed, the others are those of old.
pub record XoredBelow (at : ℕ) (old b now : List ℕ) : Type 0 where
  pub xored : (k : ℕ) → k < at → get_or now k 0 ≡ bit_xor (get_or old k 0) (get_or b k 0)
  pub left : (k : ℕ) → at ≤ k → get_or now k 0 ≡ get_or old k 0

-- Where all bytes are XORed, the list is the XOR.
pub xored_whole : (old b now : List ℕ) → length now ≡ length old → length old ≡ length b → ((k : ℕ) → k < length old → get_or now k 0 ≡ bit_xor (get_or old k 0) (get_or b k 0)) → now ≡ xor old b
unfolding xor
xored_whole old b now len lengths bytes =
    let wide : length (zip2 bit_xor old b) ≡ length old = length-zip2 bit_xor old b lengths in
    ext_get_or 0 now (zip2 bit_xor old b) (len ∙ sym wide)
    (λ k low. bytes k (omega arith) ∙ sym (get_or-zip2 bit_xor old b k 0 0 0 (omega arith) (omega arith)))
