-- Lemmas on a line that is read by spans of bytes.
use Rattle.std.proofs.Common.{◌≡◌, ℕ, Bool, true, refl, get_or, ◌+◌, ◌-◌, ◌<◌, ◌≤◌, List, ◌∷◌, [], ◌++◌, length, take, false, min, append_assoc, length-append, length-take, length-drop, drop, ◌≢◌, inl, inr, sym, subst, ◌∙◌, ap, arith}
use Rattle.std.proofs.Math.Seq.{take-append-add, take-append_seam}
use Rattle.std.proofs.lemmas.List.{take_all, take-append-le, take-take, drop-take, drop-drop, drop_more, get_or-take, take-append-drop}
use Rattle.std.proofs.lemmas.Bool.{cases_lt}
use Rattle.std.proofs.lemmas.List.Elements.{All-append, All-from_get_or}
use Rattle.std.specs.List.{All}
use Rattle.shr_script.specs.Script.{is_line_feed}
use Rattle.shr_script.specs.Reading.{kept_of, ReadsPart}

-- the first of so many bytes, as far as there is room
fitting :
    (bytes : List ℕ) (count room : ℕ) → take room (take count bytes) ≡ take (min count room) bytes
fitting bytes count room =
    elim (cases_lt room count) [
      | inl less ↦
          let least : min count room ≡ room = omega arith in
          take-take room count bytes (omega arith) ∙ ap (λ n. take n bytes) (sym least)
      | inr all ↦
          let least : min count room ≡ count = omega arith in
          take_all room (take count bytes) (rw length-take (omega arith)) ∙ ap (λ n. take n bytes) (sym least)
    ]

-- bytes are kept as far as there is room
pub kept-span :
    (line bytes : List ℕ) (kept count many : ℕ)
    → length line ≡ 1102
    → kept ≤ 1102
    → count ≤ length bytes
    → many ≡ min count (1102 - kept)
    → take (kept + many) (take kept line ++ take many bytes ++ drop (kept + many) line) ≡ kept_of (take kept line ++ take count bytes)
kept-span line bytes kept count many room most inside as_many =
    let held : length (take kept line) ≡ kept = rw length-take (omega arith) in
    let long : length (take kept line ++ take many bytes) ≡ kept + many = simp (length-append, length-take) (omega arith) in
    let full : take (length (take kept line) + (1102 - kept)) (take kept line ++ take count bytes)
    ≡ take kept line ++ take (1102 - kept) (take count bytes) = take-append-add (take kept line) (take count bytes) (1102 - kept) in
    let most_of : kept + (1102 - kept) ≡ 1102 = omega arith in
    ap (λ n. take n (take kept line ++ take many bytes ++ drop (kept + many) line)) (sym long)
    ∙ (take-append_seam (take kept line ++ take many bytes) (drop (kept + many) line)
    ∙ (ap (λ xs. take kept line ++ xs) (ap (λ n. take n bytes) as_many ∙ sym (fitting bytes count (1102 - kept)))
    ∙ (sym full ∙ ap (λ n. take n (take kept line ++ take count bytes)) (ap (λ n. n + (1102 - kept)) held ∙ most_of))))

-- what is dropped past the room doesn't matter to what is kept
pub kept_of-kept_of :
    (bytes more : List ℕ) → kept_of (kept_of bytes ++ more) ≡ kept_of (bytes ++ more)
kept_of-kept_of bytes more =
    elim (cases_lt 1102 (length bytes)) [
      | inl long ↦
          let cut : length (take 1102 bytes) ≡ 1102 = rw length-take (omega arith) in
          take-append-le 1102 (take 1102 bytes) more (omega arith)
          ∙ (take_all 1102 (take 1102 bytes) (omega arith)
          ∙ sym (take-append-le 1102 bytes more (omega arith)))
      | inr short ↦ ap (λ xs. take 1102 (xs ++ more)) (take_all 1102 bytes short)
    ]

-- the same reading, told in other words
pub part_same :
    {before after line after' line' : List ℕ} {from to to' : ℕ}
    → ReadsPart before after line from to
    → after' ≡ after
    → line' ≡ line
    → to' ≡ to
    → ReadsPart before after' line' from to'
part_same {before} {after} {line} {after'} {line'} {from} {to} {to'} part same_after same_line same_count =
    record {
      bytes = part.bytes;
      no_feed = part.no_feed;
      text = part.text ∙ ap (λ xs. part.bytes ++ xs) (sym same_after);
      kept = same_line ∙ part.kept;
      count = same_count ∙ part.count;
    }

-- some of the bytes at hand more
pub part_taken :
    {before line line' : List ℕ} {from to to' : ℕ} (rest at_hand left : List ℕ) (count : ℕ)
    → ReadsPart before rest line from to
    → at_hand ++ left ≡ rest
    → count ≤ length at_hand
    → All (λ b. is_line_feed b ≡ false) (take count at_hand)
    → line' ≡ kept_of (line ++ take count at_hand)
    → to' ≡ to + count
    → ReadsPart before (drop count at_hand ++ left) line' from to'
part_taken {before} {line} {line'} {from} {to} {to'} rest at_hand left count part filled inside no_feed same_line same_count =
    let span : List ℕ = take count at_hand in
    let long : length span ≡ count = rw length-take (omega arith) in
    record {
      bytes = part.bytes ++ span;
      no_feed = All-append (λ c. is_line_feed c ≡ false) part.bytes span part.no_feed no_feed;
      text = part.text
          ∙ ap (λ xs. part.bytes ++ xs) (sym filled ∙ (ap (λ xs. xs ++ left) (sym (take-append-drop count at_hand)) ∙ append_assoc span (drop count at_hand) left))
          ∙ sym (append_assoc part.bytes span (drop count at_hand ++ left));
      kept =
          same_line
          ∙ (ap (λ xs. kept_of (xs ++ span)) part.kept ∙ kept_of-kept_of part.bytes span);
      count = let count = part.count in simp length-append (omega arith);
    }

-- the line feed behind bytes at hand
pub feed_next :
    (bytes : List ℕ) (count : ℕ) → count < length bytes → get_or bytes count 0 ≡ 10
    → 10 ∷ drop 1 (drop count bytes) ≡ drop count bytes
feed_next bytes count inside feed =
    ap (λ xs. 10 ∷ xs) (drop-drop 1 count bytes) ∙ (ap (λ b. b ∷ drop (count + 1) bytes) (sym feed) ∙ sym (drop_more bytes count 0 inside))

-- bytes at hand are bytes
pub pending-some :
    (piece : List ℕ) (start end : ℕ)
    → length piece ≡ 4096
    → start < end
    → end ≤ 4096
    → (rest : List ℕ)
    → drop start (take end piece) ++ rest ≢ []
pending-some piece start end size order inside rest none =
    let long : length (drop start (take end piece) ++ rest) ≡ 0 = ap length none in
    let some : 0 < length (drop start (take end piece) ++ rest) =
    simp (length-append, length-drop, length-take) (omega arith) in
    absurd (omega arith)

-- the bytes of a piece that are at hand
pub at_hand :
    (piece : List ℕ) (start end : ℕ) → start ≤ end → take (end - start) (drop start piece) ≡ drop start (take end piece)
at_hand piece start end order =
    let all : start + (end - start) ≡ end = omega arith in
    sym (drop-take start (end - start) piece) ∙ ap (λ n. drop start (take n piece)) all

-- the first of them
pub from_start :
    (piece : List ℕ) (start end count : ℕ) → start ≤ end → count ≤ end - start
    → take count (drop start piece) ≡ take count (drop start (take end piece))
from_start piece start end count order inside =
    sym (take-take count (end - start) (drop start piece) inside) ∙ ap (take count) (at_hand piece start end order)

-- what isn't true is false
pub not_true : (b : Bool) → (b ≡ true → ⊥) → b ≡ false
not_true true none = absurd (none refl)
not_true false none = refl

-- bytes of which none before a place is a line feed
pub no_feed_before :
    (bytes searched : List ℕ) (count : ℕ)
    → searched ≡ bytes
    → ((k : ℕ) → k < count → k < length searched → ¬ (is_line_feed (get_or searched k 0) ≡ true))
    → All (λ b. is_line_feed b ≡ false) (take count bytes)
no_feed_before bytes searched count same none =
    let at = subst (λ xs. (k : ℕ) → k < count → k < length xs → ¬ (is_line_feed (get_or xs k 0) ≡ true)) same none in
    All-from_get_or (λ b. is_line_feed b ≡ false) (take count bytes) 0 (λ k below.
    let inside : k < min count (length bytes) = rw length-take at below in
    ap is_line_feed (get_or-take count bytes k 0 (omega arith)) ∙ not_true (is_line_feed (get_or bytes k 0)) (at k (omega arith) (omega arith)))
