-- What clap makes of words that are no flags.
use Rattle.std.proofs.Common.{◌≡◌, ◌∙◌, ℕ, ◌==◌, true, false, not, List, [], ◌∷◌, ◌++◌, Some, None, refl, ap, sym, fold}
use Rattle.std.proofs.Common.{append-nil, append_assoc}
use Rattle.std.proofs.lemmas.Bool.{and_parts, not-true, false≢true}
use Rattle.std.specs.List.{list_all}
use Rattle.std.specs.Str.{bytes_eq}
use Rattle.clap.specs.Lexer.{long_of, short_of, strip_byte}
use Rattle.clap.specs.Faults.{word_fault, turn_fault, walk_fault}
use Rattle.clap.specs.Simple.{Shape}
use Rattle.clap.specs.Walk.{subcommand_met, is_multiple, takes_several, Held, Row, Rule, Text, Waiting, Walk, arg_by_index, positional, value, walked, word_met, plain_word}
use Rattle.shr_words.specs.Forms.{is_word}

module _ (b : ℕ) (bytes : List ℕ) (plain : (b == 45) ≡ false) where
  no_dash : strip_byte 45 (b ∷ bytes) ≡ None
  no_dash = rw plain refl

  no_long : long_of (b ∷ bytes) ≡ None
  no_long = rw no_dash refl

  no_short : short_of (b ∷ bytes) ≡ None
  no_short = rw no_dash refl

  no_dashes : bytes_eq (b ∷ bytes) (45 ∷ 45 ∷ []) ≡ false
  no_dashes = rw plain refl

  -- such a word is a value of a positional, whatever waits
  module _ (c : List Rule) (waiting : Waiting) (idle_enough : subcommand_met [] waiting (b ∷ bytes) ≡ None) where
    pub met :
        (position : ℕ) (h : Held) → plain_word c waiting (b ∷ bytes) h ≡ (h, value)
        → word_met c [] false waiting position (b ∷ bytes) h ≡ (h, value)
    met position h q = rw (idle_enough, no_dashes, no_long, no_short) q

    pub no_fault :
        (s : Shape) (h : Held) → word_fault s [] false waiting (b ∷ bytes) h ≡ []
    no_fault s h = rw (idle_enough, no_dashes, no_long, no_short) refl

-- ---- the last positional, which takes each word that is left

-- the walk while this argument has these values
abbrev pub collecting : List Row → Text → List Text → ℕ → Walk
collecting rows id values position = record {
  held = record { rows = rows; pending = Some (id, values); skip = 0 };
  waiting = positional;
  position = position;
  is_trailing = false;
  stopped = None;
}

-- an argument at a position takes any number of values
pub record TakesMany (rules : List Rule) (position : ℕ) (a : Rule) : Type 0 where
  pub at : arg_by_index rules position ≡ Some a
  pub same : bytes_eq a.id a.id ≡ true
  pub multiple : is_multiple a ≡ true
  pub several : takes_several a ≡ true
  pub leading : a.trailing_var_arg ≡ false

module _ (s : Shape) (position : ℕ) (a : Rule) (takes : TakesMany s.rules position a) (rows : List Row) where
  collect :
      (b : ℕ) (bytes : List ℕ) (values : List Text) → (b == 45) ≡ false
      → walked s.rules [] (collecting rows a.id values position) (b ∷ bytes) ≡ collecting rows a.id (values ++ (b ∷ bytes) ∷ []) position
  unfolding walked
  collect b bytes values plain =
      rw (met b bytes plain s.rules positional refl position (collecting rows a.id values position).held refl, takes.at, takes.same, takes.multiple, takes.several, takes.leading) refl

  collects_well :
      (b : ℕ) (bytes : List ℕ) (values : List Text) → (b == 45) ≡ false
      → turn_fault s [] (collecting rows a.id values position) (b ∷ bytes) ≡ []
  collects_well b bytes values plain =
      rw (no_fault b bytes plain s.rules positional refl s (collecting rows a.id values position).held, met b bytes plain s.rules positional refl position (collecting rows a.id values position).held refl, takes.at, takes.same, takes.several) refl

  pub collect_all :
      (words values : List Text) → list_all is_word words ≡ true
      → fold (walked s.rules []) (collecting rows a.id values position) words ≡ collecting rows a.id (values ++ words) position
  collect_all [] values plain = ap (λ vs. collecting rows a.id vs position) (sym (append-nil values))
  collect_all ([] ∷ words) values plain = absurd (false≢true plain)
  collect_all ((b ∷ bytes) ∷ words) values plain =
      let parts = and_parts (not (b == 45)) (list_all is_word words) plain in
      ap (λ w. fold (walked s.rules []) w words) (collect b bytes values (not-true _ parts.0))
      ∙ collect_all words (values ++ (b ∷ bytes) ∷ []) parts.1
      ∙ ap (λ vs. collecting rows a.id vs position) (append_assoc values ((b ∷ bytes) ∷ []) words)

  pub collect_all_well :
      (words values : List Text) → list_all is_word words ≡ true → walk_fault s [] (collecting rows a.id values position) words ≡ []
  unfolding walk_fault
  collect_all_well [] values plain = refl
  collect_all_well ([] ∷ words) values plain = absurd (false≢true plain)
  collect_all_well ((b ∷ bytes) ∷ words) values plain =
      let parts = and_parts (not (b == 45)) (list_all is_word words) plain in
      let here = not-true _ parts.0 in
      rw (collects_well b bytes values here, collect b bytes values here) (collect_all_well words (values ++ (b ∷ bytes) ∷ []) parts.1)
