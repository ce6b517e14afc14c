-- XOR of lists of bytes, and the parity of a row.
use Rattle.std.specs.Prelude.{◌≡◌, ℕ, ◌<◌, List, [], ◌∷◌, ◌++◌, length, replicate, bit_xor, slice_index}
use Rattle.std.specs.List.{AllByRecursion}
use Rattle.std.specs.Simd.Lanes.{zip2}

-- the XOR of two lists, byte by byte
unfoldable pub xor : List ℕ → List ℕ → List ℕ
xor a b = zip2 bit_xor a b

-- n bytes of zero
abbrev pub zeros : ℕ → List ℕ
zeros n = replicate n 0

-- the XOR of a list of chunks of n bytes each: the parity of these chunks
unfoldable pub xor_all : ℕ → List (List ℕ) → List ℕ
xor_all n [] = zeros n
xor_all n (chunk ∷ chunks) = xor chunk (xor_all n chunks)

-- each chunk has n bytes
abbrev pub HasLength : ℕ → List (List ℕ) → Type 0
HasLength n chunks = AllByRecursion (λ chunk. length chunk ≡ n) chunks

-- XOR over lists of one length is a commutative group, in which each list is its own inverse.
pub record IsXorGroup : Type 0 where
  pub same_length : (a b : List ℕ) → length a ≡ length b → length (xor a b) ≡ length a
  pub byte : (a b : List ℕ) (k : ℕ) → k < length a → k < length b → slice_index (xor a b) k ≡ bit_xor (slice_index a k) (slice_index b k)
  pub commutes : (a b : List ℕ) → xor a b ≡ xor b a
  pub associates : (a b c : List ℕ) → xor (xor a b) c ≡ xor a (xor b c)
  pub neutral : (a : List ℕ) → xor a (zeros (length a)) ≡ a
  pub own_inverse : (a : List ℕ) → xor a a ≡ zeros (length a)
  pub undone : (a b : List ℕ) → length a ≡ length b → xor (xor a b) b ≡ a

-- The parity of a row, whatever the order of its chunks.
pub record IsParityOfRows : Type 0 where
  -- it has the length of the chunks
  pub same_length : (n : ℕ) (row : List (List ℕ)) → HasLength n row → length (xor_all n row) ≡ n
  -- a chunk may be taken first from any place
  pub any_order : (n : ℕ) (before : List (List ℕ)) (chunk : List ℕ) (after : List (List ℕ)) → xor_all n (before ++ chunk ∷ after) ≡ xor chunk (xor_all n (before ++ after))
  -- a row with its parity, wherever that stands, has the XOR zeros
  pub with_parity : (n : ℕ) (before after : List (List ℕ)) → HasLength n (before ++ after) → xor_all n (before ++ xor_all n (before ++ after) ∷ after) ≡ zeros n
  -- where a row has the XOR zeros, each chunk is the XOR of the others
  pub one_of_others : (n : ℕ) (before : List (List ℕ)) (chunk : List ℕ) (after : List (List ℕ)) → HasLength n (before ++ after) → length chunk ≡ n → xor_all n (before ++ chunk ∷ after) ≡ zeros n → chunk ≡ xor_all n (before ++ after)
  -- the parity after one chunk's change, from the parity before it
  pub one_changed : (n : ℕ) (before : List (List ℕ)) (old new : List ℕ) (after : List (List ℕ)) → HasLength n (before ++ after) → length old ≡ n → length new ≡ n → xor_all n (before ++ new ∷ after) ≡ xor (xor (xor_all n (before ++ old ∷ after)) old) new
