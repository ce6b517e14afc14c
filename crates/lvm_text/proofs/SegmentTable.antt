-- The table of segments' items, as a walk over the words fills it.
use Rattle.std.proofs.Common.{◌≡◌, ℕ, zero, suc, ◌+◌, ◌-◌, ◌≤◌, ◌<◌, Bool, true, false, List, [], ◌∷◌, ◌++◌, length, drop, get_or, Option, Some, None, refl, sym, ap, subst, ◌∙◌, arith, add-one, append_assoc}
use Rattle.std.proofs.Math.Seq.{drop-append_seam}
use Rattle.std.proofs.lemmas.List.{length-append}
use Rattle.std.specs.Prelude.{bytes_eq, if◌then◌else◌}
use Rattle.lvm_text.specs.declared.words.Word.{Word}
use Rattle.lvm_text.specs.declared.words.Word.TheVariants as word
use Rattle.lvm_text.specs.Group.{found, found_at, segment_name}
use Rattle.lvm_text.specs.Table.{IsTable, behind, first_place}

-- what the table has, or what is still found
abbrev pub or_found : List Word → Option ℕ → Option (List Word) → Option (List Word)
or_found words (Some at) others = Some (drop at words)
or_found words None others = others

-- what the table has so far, and what is found in the words that are left, are the items of all words
pub record SoFar (table : List (Option ℕ)) (depth : ℕ) (rest words : List Word) : Type 0 where
  pub front : List Word
  pub whole : words ≡ front ++ rest
  pub within : (k at : ℕ) → k < length table → get_or table k None ≡ Some at → at ≤ length words
  pub items : (k : ℕ) → k < length table → or_found words (get_or table k None) (found_at (segment_name (k + 1)) depth rest) ≡ found (segment_name (k + 1)) words

begin_entry : (place : Option ℕ) (words : List Word) (others : Option (List Word)) → place ≡ None → or_found words place others ≡ others
begin_entry (Some at) words others none = cc
begin_entry None words others none = refl

pub begins : (table : List (Option ℕ)) (words : List Word) → ((k : ℕ) → k < length table → get_or table k None ≡ None) → SoFar table 0 words words
begins table words nothing = record {
  front = [];
  whole = refl;
  within = λ k at below is. let no : Some at ≡ None = sym is ∙ nothing k below in cc;
  items = λ k below. begin_entry (get_or table k None) words (found_at (segment_name (k + 1)) 0 words) (nothing k below);
}

end_entry : (place : Option ℕ) (words : List Word) (others : Option (List Word)) → others ≡ None → or_found words place others ≡ behind words place
end_entry (Some at) words others none = refl
end_entry None words others none = none

-- nothing is left
pub done : (table : List (Option ℕ)) (depth : ℕ) (rest words : List Word) → SoFar table depth rest words → ((name : List ℕ) → found_at name depth rest ≡ None) → IsTable table words
done table depth rest words so_far nothing = record {
  within = so_far.within;
  items = λ k below. sym (end_entry (get_or table k None) words (found_at (segment_name (k + 1)) depth rest) (nothing (segment_name (k + 1)))) ∙ so_far.items k below;
}

from_end : (front rest words : List Word) → words ≡ front ++ rest → rest ≡ drop (length words - length rest) words
from_end front rest words whole =
    let at : length words - length rest ≡ length front = omega (arith, ap length whole, length-append front rest) in
    sym (ap (λ (n : ℕ). drop n words) at ∙ ap (drop (length front)) whole ∙ drop-append_seam front rest)

one_more : (front rest after words : List Word) (word : Word) → rest ≡ word ∷ after → words ≡ front ++ rest → words ≡ (front ++ word ∷ []) ++ after
one_more front rest after words word is whole = whole ∙ ap (λ (r : List Word). front ++ r) is ∙ sym (append_assoc front (word ∷ []) after)

-- a word that changes nothing that is found
pub passes : (table : List (Option ℕ)) (depth next : ℕ) (word : Word) (rest after words : List Word) → rest ≡ word ∷ after → ((name : List ℕ) → found_at name depth (word ∷ after) ≡ found_at name next after)
    → SoFar table depth rest words → SoFar table next after words
passes table depth next word rest after words is same so_far = record {
  front = so_far.front ++ word ∷ [];
  whole = one_more so_far.front rest after words word is so_far.whole;
  within = so_far.within;
  items = λ k below.
      sym (ap (or_found words (get_or table k None)) (ap (found_at (segment_name (k + 1)) depth) is ∙ same (segment_name (k + 1)))) ∙ so_far.items k below;
}

noted_entry : (place : Option ℕ) (here : Bool) (at : ℕ) (words after : List Word) (others : Option (List Word)) → after ≡ drop at words
    → or_found words (first_place place here at) others ≡ or_found words place (if here then Some after else others)
noted_entry (Some before) here at words after others is = refl
noted_entry None true at words after others is = ap Some (sym is)
noted_entry None false at words after others is = refl

within_first : (place : Option ℕ) (here : Bool) (at found_place bound : ℕ) → ((before : ℕ) → place ≡ Some before → before ≤ bound) → at ≤ bound → first_place place here at ≡ Some found_place → found_place ≤ bound
within_first (Some before) here at found_place bound within short is =
    let e : before ≡ found_place = cc in subst (λ (n : ℕ). n ≤ bound) e (within before refl)
within_first None true at found_place bound within short is =
    let e : at ≡ found_place = cc in subst (λ (n : ℕ). n ≤ bound) e short
within_first None false at found_place bound within short is = cc

-- an item's name
pub names : (table now : List (Option ℕ)) (name : List ℕ) (rest after words : List Word) (at : ℕ) → rest ≡ word.Name name ∷ after → at ≡ length words - length after → length now ≡ length table
    → ((k : ℕ) → k < length table → get_or now k None ≡ first_place (get_or table k None) (bytes_eq name (segment_name (k + 1))) at)
    → SoFar table 0 rest words → SoFar now 0 after words
unfolding found_at
names table now name rest after words at is place same_length noted so_far =
    let whole : words ≡ (so_far.front ++ word.Name name ∷ []) ++ after = one_more so_far.front rest after words (word.Name name) is so_far.whole in
    let from : after ≡ drop at words = from_end (so_far.front ++ word.Name name ∷ []) after words whole ∙ ap (λ (n : ℕ). drop n words) (sym place) in
    record {
      front = so_far.front ++ word.Name name ∷ [];
      whole = whole;
      within = λ k found_place below is_there.
          within_first (get_or table k None) (bytes_eq name (segment_name (k + 1))) at found_place (length words)
          (λ before was. so_far.within k before (omega arith) was) (omega arith) (sym (noted k (omega arith)) ∙ is_there);
      items = λ k below.
          ap (λ (p : Option ℕ). or_found words p (found_at (segment_name (k + 1)) 0 after)) (noted k (omega arith))
          ∙ noted_entry (get_or table k None) (bytes_eq name (segment_name (k + 1))) at words after (found_at (segment_name (k + 1)) 0 after) from
          ∙ sym (ap (λ (r : List Word). or_found words (get_or table k None) (found_at (segment_name (k + 1)) 0 r)) is)
          ∙ so_far.items k (omega arith);
    }

-- a name inside another section
pub inner_name : (table : List (Option ℕ)) (depth : ℕ) (name : List ℕ) (rest after words : List Word) → (depth ≡ 0 → ⊥) → rest ≡ word.Name name ∷ after → SoFar table depth rest words → SoFar table depth after words
unfolding found_at
inner_name table zero name rest after words inner is so_far = absurd (inner refl)
inner_name table (suc depth) name rest after words inner is so_far = passes table (suc depth) (suc depth) (word.Name name) rest after words is (λ other. refl) so_far

opens_at : (name : List ℕ) (depth : ℕ) (after : List Word) → found_at name depth (word.Open ∷ after) ≡ found_at name (suc depth) after
unfolding found_at
opens_at name zero after = refl
opens_at name (suc depth) after = refl

pub opens : (table : List (Option ℕ)) (depth : ℕ) (rest after words : List Word) → rest ≡ word.Open ∷ after → SoFar table depth rest words → SoFar table (depth + 1) after words
unfolding found_at
opens table depth rest after words is so_far = rw add-one (passes table depth (suc depth) word.Open rest after words is (λ name. opens_at name depth after) so_far)

pub closes : (table : List (Option ℕ)) (depth : ℕ) (rest after words : List Word) → (depth ≡ 0 → ⊥) → rest ≡ word.Close ∷ after → SoFar table depth rest words → SoFar table (depth - 1) after words
unfolding found_at
closes table zero rest after words inner is so_far = absurd (inner refl)
closes table (suc depth) rest after words inner is so_far =
    let e : suc depth - 1 ≡ depth = omega arith in
    rw e (passes table (suc depth) depth word.Close rest after words is (λ other. refl) so_far)

-- no name, and neither end of a section
abbrev pub is_plain_word : Word → Bool
is_plain_word (word.Name name) = false
is_plain_word word.Open = false
is_plain_word word.Close = false
is_plain_word _ = true

plain_passes : (word : Word) (depth : ℕ) (after : List Word) (name : List ℕ) → is_plain_word word ≡ true → found_at name depth (word ∷ after) ≡ found_at name depth after
unfolding found_at
plain_passes (word.Name other) depth after name plain = cc
plain_passes word.Open depth after name plain = cc
plain_passes word.Close depth after name plain = cc
plain_passes (word.Number n) zero after name plain = refl
plain_passes (word.Number n) (suc depth) after name plain = refl
plain_passes (word.Text text) zero after name plain = refl
plain_passes (word.Text text) (suc depth) after name plain = refl
plain_passes word.Equals zero after name plain = refl
plain_passes word.Equals (suc depth) after name plain = refl
plain_passes word.ListOpen zero after name plain = refl
plain_passes word.ListOpen (suc depth) after name plain = refl
plain_passes word.ListClose zero after name plain = refl
plain_passes word.ListClose (suc depth) after name plain = refl
plain_passes word.Comma zero after name plain = refl
plain_passes word.Comma (suc depth) after name plain = refl

pub plain_from : (w : Word) → ((name : List ℕ) → w ≡ word.Name name → ⊥) → (w ≡ word.Open → ⊥) → (w ≡ word.Close → ⊥) → is_plain_word w ≡ true
plain_from (word.Name name) no_name no_open no_close = absurd (no_name name refl)
plain_from word.Open no_name no_open no_close = absurd (no_open refl)
plain_from word.Close no_name no_open no_close = absurd (no_close refl)
plain_from (word.Number n) no_name no_open no_close = refl
plain_from (word.Text text) no_name no_open no_close = refl
plain_from word.Equals no_name no_open no_close = refl
plain_from word.ListOpen no_name no_open no_close = refl
plain_from word.ListClose no_name no_open no_close = refl
plain_from word.Comma no_name no_open no_close = refl

pub others : (table : List (Option ℕ)) (depth : ℕ) (word : Word) (rest after words : List Word) → is_plain_word word ≡ true → rest ≡ word ∷ after → SoFar table depth rest words → SoFar table depth after words
others table depth word rest after words plain is so_far = passes table depth depth word rest after words is (λ name. plain_passes word depth after name plain) so_far

-- the section ends
pub closed : (table : List (Option ℕ)) (depth : ℕ) (rest after words : List Word) → depth ≡ 0 → rest ≡ word.Close ∷ after → SoFar table depth rest words → IsTable table words
unfolding found_at
closed table zero rest after words outer is so_far = done table 0 rest words so_far (λ name. ap (found_at name 0) is)
closed table (suc depth) rest after words outer is so_far = absurd (omega arith)

-- the words end
pub ended : (table : List (Option ℕ)) (depth : ℕ) (rest words : List Word) → length rest ≡ 0 → SoFar table depth rest words → IsTable table words
unfolding found_at
ended table depth [] words over so_far = done table depth [] words so_far (λ name. refl)
ended table depth (word ∷ rest) words over so_far = absurd (omega arith)

-- an item's name outside any inner section
pub outer_name : (table now : List (Option ℕ)) (depth : ℕ) (name : List ℕ) (rest after words : List Word) (at : ℕ) → depth ≡ 0 → rest ≡ word.Name name ∷ after → at ≡ length words - length after → length now ≡ length table
    → ((k : ℕ) → k < length table → get_or now k None ≡ first_place (get_or table k None) (bytes_eq name (segment_name (k + 1))) at)
    → SoFar table depth rest words → SoFar now depth after words
outer_name table now zero name rest after words at outer is place same_length noted so_far = names table now name rest after words at is place same_length noted so_far
outer_name table now (suc depth) name rest after words at outer is place same_length noted so_far = absurd (omega arith)
