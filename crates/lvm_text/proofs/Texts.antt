-- Reading a text word by word, as a loop does.
use Rattle.std.proofs.Common.{◌≡◌, ℕ, zero, suc, ◌≤◌, ◌<◌, false, eqb, List, [], ◌∷◌, ◌++◌, length, Result, Ok, Err, refl, sym, ap, ◌∙◌, append_assoc, add-one, arith}
use Rattle.std.proofs.lemmas.Bool.{ne_eqb}
use Rattle.lvm_text.specs.declared.words.Word.{Word}
use Rattle.lvm_text.specs.declared.words.Place.{Place}
use Rattle.lvm_text.specs.Words.{◌>>=◌, Found, by_turn, past_blanks, start, with_word, words_at, words_by, words_of}

-- what was read before, and what is still read
abbrev pub with_front : List Word → Result (List Word) ℕ → Result (List Word) ℕ
with_front front read = read >>= λ (words : List Word). Ok (front ++ words)

-- some bound serves for the bytes that are left, and gives the words of the text
pub record SoFar (front : List Word) (place : Place) (rest text : List ℕ) : Type 0 where
  pub bound : ℕ
  pub enough : length rest ≤ bound
  pub total : with_front front (words_by (words_at bound) place rest) ≡ words_of text

regroup : (front : List Word) (word : Word) (read : Result (List Word) ℕ) → with_front front (with_word word read) ≡ with_front (front ++ word ∷ []) read
regroup front word (Ok words) = ap Ok (simp append_assoc)
regroup front word (Err left) = refl

front-nothing : (read : Result (List Word) ℕ) → with_front [] read ≡ read
front-nothing (Ok words) = refl
front-nothing (Err left) = refl

pub words_at-suc : (n : ℕ) (place : Place) (bytes : List ℕ) → words_at (suc n) place bytes ≡ words_by (words_at n) place (past_blanks false bytes)
unfolding words_at
words_at-suc n place bytes = refl

pub begins : (rest text : List ℕ) → rest ≡ past_blanks false text → length rest ≤ length text → SoFar [] start rest text
begins rest text is short = record {
  bound = length text;
  enough = short;
  total = front-nothing (words_by (words_at (length text)) start rest) ∙ ap (words_by (words_at (length text)) start) is
      ∙ sym (words_at-suc (length text) start text) ∙ ap (λ (n : ℕ). words_at n start text) (sym (add-one (length text)));
}

pub word_read : (n : ℕ) (place : Place) (byte : ℕ) (after : List ℕ) (found : Found) → eqb byte 0 ≡ false → by_turn place.turn place byte after ≡ Ok found
    → words_by (words_at n) place (byte ∷ after) ≡ with_word found.0 (words_at n found.1 found.2)
word_read n place byte after found more read = rw (more, read) refl

goes_on_by : (n : ℕ) (front now : List Word) (place next : Place) (byte : ℕ) (rest after behind left text : List ℕ) (word : Word) → length rest ≤ n → with_front front (words_by (words_at n) place rest) ≡ words_of text
    → rest ≡ byte ∷ after → eqb byte 0 ≡ false → by_turn place.turn place byte after ≡ Ok (word, next, behind) → now ≡ front ++ word ∷ [] → left ≡ past_blanks false behind → length left ≤ length behind → length behind < length rest
    → SoFar now next left text
goes_on_by zero front now place next byte rest after behind left text word enough total is more read pushed blanks short shorter = absurd (omega arith)
goes_on_by (suc m) front now place next byte rest after behind left text word enough total is more read pushed blanks short shorter = record {
  bound = m;
  enough = omega arith;
  total =
      ap (λ (words : List Word). with_front words (words_by (words_at m) next left)) pushed
      ∙ sym (regroup front word (words_by (words_at m) next left))
      ∙ ap (λ (b : List ℕ). with_front front (with_word word (words_by (words_at m) next b))) blanks
      ∙ ap (λ (r : Result (List Word) ℕ). with_front front (with_word word r)) (sym (words_at-suc m next behind))
      ∙ ap (with_front front) (sym (word_read (suc m) place byte after (word, next, behind) more read))
      ∙ ap (λ (r : List ℕ). with_front front (words_by (words_at (suc m)) place r)) (sym is)
      ∙ total;
}

pub goes_on : (front now : List Word) (place next : Place) (byte : ℕ) (rest after behind left text : List ℕ) (word : Word) → SoFar front place rest text → rest ≡ byte ∷ after → (byte ≡ 0 → ⊥)
    → by_turn place.turn place byte after ≡ Ok (word, next, behind) → now ≡ front ++ word ∷ [] → left ≡ past_blanks false behind → length left ≤ length behind → length behind < length rest
    → SoFar now next left text
goes_on front now place next byte rest after behind left text word so_far is more read pushed blanks short shorter =
    goes_on_by so_far.bound front now place next byte rest after behind left text word so_far.enough so_far.total is (ne_eqb byte 0 more) read pushed blanks short shorter
