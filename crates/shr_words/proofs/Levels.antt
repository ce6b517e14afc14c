-- The arguments of each form, as clap counts them.
use Rattle.std.proofs.Common.{◌≡◌, ◌∙◌, ℕ, ◌==◌, ◌≤◌, ◌<◌, Bool, true, false, List, [], ◌∷◌, length, Some, None, codes, refl, ap, arith, nat_lt, fold}
use Rattle.std.proofs.lemmas.Bool.Decides.{nat_tests}
use Rattle.std.specs.List.{list_all}
use Rattle.clap.specs.Kinds.{Kinds, range_kinds, values_kinds}
use Rattle.clap.specs.Lexer.{usize_max}
use Rattle.clap.specs.Simple.{App, Shape, built, built_leaf, filled, inherited, with_index}
use Rattle.clap.specs.Faults.{level_fault, defaults_fault, walk_fault, turn_fault}
use Rattle.clap.specs.Walk.{idle, used, Row, Rule, Text, Walk, nothing_held, walk, walk_from, walked}
use Rattle.clap.specs.declared.builder.value_parser.ValueParser.TheVariants as vp
use Rattle.shr_words.specs.Forms.{is_word}
use Rattle.shr_words.specs.Parser as parser
use Rattle.shr_words.proofs.Walks.{TakesMany, collect_all, collect_all_well, collecting, met, no_fault}

-- no fault
abbrev pub is_nil : Kinds → Bool
is_nil [] = true
is_nil (k ∷ ks) = false

-- the program's own part, once built
abbrev pub top : Shape
top = (built parser.program).top

-- a form, once built
abbrev pub sub : App → Shape
sub form = built_leaf (inherited top form.top)

-- any text passes
strings : (values : List Text) → values_kinds false vp.String values ≡ []
strings [] = refl
strings (v ∷ values) = strings values

in_range : (n : ℕ) → 0 < n → n ≤ usize_max → range_kinds 1 usize_max n ≡ []
in_range n some few =
    let not_none : (n == 0) ≡ false = grind (arith, nat_tests) in
    let least : nat_lt n 1 ≡ false = grind (arith, nat_tests) in
    let most : nat_lt usize_max n ≡ false = grind (arith, nat_tests) in
    rw (not_none, least, most) refl

pub named_none : (form : Text) → is_nil (level_fault (sub (parser.named form)) [] nothing_held [] false []) ≡ false
unfolding walk_fault defaults_fault
named_none form = refl

-- an argument of a form, once built
abbrev pub at : ℕ → Rule → Rule
at position a = with_index position (filled a)

many_taken : (form : Text) → TakesMany (sub (parser.named form)).rules 1 (at 1 (parser.many (codes "names")))
many_taken form = record { at = refl; same = refl; multiple = refl; several = refl; leading = refl }

module _ (form : Text) (b : ℕ) (bytes : List ℕ) (plain : (b == 45) ≡ false) where
  named_first :
      walked (sub (parser.named form)).rules [] (walk_from nothing_held) (b ∷ bytes)
      ≡ collecting [] (codes "names") ((b ∷ bytes) ∷ []) 1
  unfolding walked
  named_first = rw (met b bytes plain (sub (parser.named form)).rules idle refl 1 nothing_held refl) refl

  named_first_well : turn_fault (sub (parser.named form)) [] (walk_from nothing_held) (b ∷ bytes) ≡ []
  named_first_well =
      rw (no_fault b bytes plain (sub (parser.named form)).rules idle refl (sub (parser.named form)) nothing_held, met b bytes plain (sub (parser.named form)).rules idle refl 1 nothing_held refl) refl

  named_walk :
      (words : List Text) → list_all is_word words ≡ true
      → walk (sub (parser.named form)).rules [] nothing_held ((b ∷ bytes) ∷ words) ≡ collecting [] (codes "names") ((b ∷ bytes) ∷ words) 1
  named_walk words others =
      ap (λ w. fold (walked (sub (parser.named form)).rules []) w words) named_first
      ∙ collect_all (sub (parser.named form)) 1 (at 1 (parser.many (codes "names"))) (many_taken form) [] words ((b ∷ bytes) ∷ []) others

  pub named_some :
      (words : List Text) → list_all is_word words ≡ true → length words < usize_max
      → level_fault (sub (parser.named form)) [] nothing_held ((b ∷ bytes) ∷ words) false [] ≡ []
  unfolding walk_fault defaults_fault
  named_some words others few =
      let range = in_range (length ((b ∷ bytes) ∷ words)) (omega arith) (omega arith) in
      let rest = collect_all_well (sub (parser.named form)) 1 (at 1 (parser.many (codes "names"))) (many_taken form) [] words ((b ∷ bytes) ∷ []) others in
      rw (named_walk words others, named_first_well, named_first, rest, range, strings words) refl

-- ---- a number and more

abbrev pub number : Text
number = codes "number"

abbrev pub others : Text
others = codes "others"

abbrev pub counted : Text → Shape
counted form = sub (parser.numbered form)

-- the walk once the number has been met
abbrev pub numbering : Text → Text → Walk
numbering id word = record {
  held = record { rows = []; pending = Some (id, word ∷ []); skip = 0 };
  waiting = idle;
  position = 2;
  is_trailing = false;
  stopped = None;
}

-- what the first argument has once its use is over
abbrev pub number_row : Text → List Row
number_row word = used (at 1 (parser.one number)) (word ∷ []) []

module _ (form : Text) where
  pub counted_none : is_nil (level_fault (counted form) [] nothing_held [] false []) ≡ false
  unfolding walk_fault defaults_fault
  counted_none = refl

  rest_taken : TakesMany (counted form).rules 2 (at 2 (parser.many others))
  rest_taken = record { at = refl; same = refl; multiple = refl; several = refl; leading = refl }

  module _ (b : ℕ) (bytes : List ℕ) (plain : (b == 45) ≡ false) where
    number_first : walked (counted form).rules [] (walk_from nothing_held) (b ∷ bytes) ≡ numbering number (b ∷ bytes)
    unfolding walked
    number_first = rw (met b bytes plain (counted form).rules idle refl 1 nothing_held refl) refl

    number_first_well : turn_fault (counted form) [] (walk_from nothing_held) (b ∷ bytes) ≡ []
    number_first_well =
        rw (no_fault b bytes plain (counted form).rules idle refl (counted form) nothing_held, met b bytes plain (counted form).rules idle refl 1 nothing_held refl) refl

    pub counted_one : is_nil (level_fault (counted form) [] nothing_held ((b ∷ bytes) ∷ []) false []) ≡ false
    unfolding walk_fault defaults_fault
    counted_one = rw (number_first_well, number_first) refl

    module _ (d : ℕ) (more : List ℕ) (plain_too : (d == 45) ≡ false) where
      number_then :
          walked (counted form).rules [] (numbering number (b ∷ bytes)) (d ∷ more)
          ≡ collecting (number_row (b ∷ bytes)) others ((d ∷ more) ∷ []) 2
      unfolding walked
      number_then = rw (met d more plain_too (counted form).rules idle refl 2 (numbering number (b ∷ bytes)).held refl) refl

      number_then_well : turn_fault (counted form) [] (numbering number (b ∷ bytes)) (d ∷ more) ≡ []
      number_then_well =
          rw (no_fault d more plain_too (counted form).rules idle refl (counted form) (numbering number (b ∷ bytes)).held, met d more plain_too (counted form).rules idle refl 2 (numbering number (b ∷ bytes)).held refl) refl

      counted_walk :
          (words : List Text) → list_all is_word words ≡ true
          → walk (counted form).rules [] nothing_held ((b ∷ bytes) ∷ (d ∷ more) ∷ words)
          ≡ collecting (number_row (b ∷ bytes)) others ((d ∷ more) ∷ words) 2
      counted_walk words others_plain =
          ap (λ w. fold (walked (counted form).rules []) w ((d ∷ more) ∷ words)) number_first
          ∙ ap (λ w. fold (walked (counted form).rules []) w words) number_then
          ∙ collect_all (counted form) 2 (at 2 (parser.many others)) rest_taken (number_row (b ∷ bytes)) words ((d ∷ more) ∷ []) others_plain

      pub counted_some :
          (words : List Text) → list_all is_word words ≡ true → length words < usize_max
          → level_fault (counted form) [] nothing_held ((b ∷ bytes) ∷ (d ∷ more) ∷ words) false [] ≡ []
      unfolding walk_fault defaults_fault
      counted_some words others_plain few =
          let range = in_range (length ((d ∷ more) ∷ words)) (omega arith) (omega arith) in
          let rest = collect_all_well (counted form) 2 (at 2 (parser.many others)) rest_taken (number_row (b ∷ bytes)) words ((d ∷ more) ∷ []) others_plain in
          rw (counted_walk words others_plain, number_first_well, number_first, number_then_well, number_then, rest, range, strings words) refl

-- ---- one name

pub examined_none : is_nil (level_fault (sub parser.examine) [] nothing_held [] false []) ≡ false
unfolding walk_fault defaults_fault
examined_none = refl

module _ (b : ℕ) (bytes : List ℕ) (plain : (b == 45) ≡ false) where
  name_first : walked (sub parser.examine).rules [] (walk_from nothing_held) (b ∷ bytes) ≡ numbering (codes "name") (b ∷ bytes)
  unfolding walked
  name_first = rw (met b bytes plain (sub parser.examine).rules idle refl 1 nothing_held refl) refl

  name_first_well : turn_fault (sub parser.examine) [] (walk_from nothing_held) (b ∷ bytes) ≡ []
  name_first_well =
      rw (no_fault b bytes plain (sub parser.examine).rules idle refl (sub parser.examine) nothing_held, met b bytes plain (sub parser.examine).rules idle refl 1 nothing_held refl) refl

  pub examined_one : level_fault (sub parser.examine) [] nothing_held ((b ∷ bytes) ∷ []) false [] ≡ []
  unfolding walk_fault defaults_fault
  examined_one = rw (name_first_well, name_first) refl

  pub examined_more :
      (d : ℕ) (more : List ℕ) (words : List Text) → (d == 45) ≡ false
      → is_nil (level_fault (sub parser.examine) [] nothing_held ((b ∷ bytes) ∷ (d ∷ more) ∷ words) false []) ≡ false
  unfolding walk_fault
  examined_more d more words plain_too =
      let h = (numbering (codes "name") (b ∷ bytes)).held in
      rw (name_first_well, name_first, no_fault d more plain_too (sub parser.examine).rules idle refl (sub parser.examine) h, met d more plain_too (sub parser.examine).rules idle refl 2 h refl) refl
