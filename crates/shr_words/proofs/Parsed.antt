-- Which words clap takes.
use Rattle.std.proofs.Common.{◌≡◌, ◌≢◌, ◌^◌, ◌∙◌, ℕ, suc, ◌==◌, ◌<◌, ◌||◌, Bool, true, false, List, [], ◌∷◌, length, Some, codes, refl, ap, subst, sym, arith, nat_lt, fold, not, inl, inr}
use Rattle.std.proofs.lemmas.Slice.Eq.{bytes_eq-Decides}
use Rattle.std.proofs.lemmas.Bool.{cases_Bool, or_cases, and_parts, not-true, false≢true}
use Rattle.std.proofs.lemmas.Bool.Decides.{nat_tests}
use Rattle.std.specs.Prelude.{find}
use Rattle.std.specs.List.{list_all}
use Rattle.std.specs.Str.{bytes_eq}
use Rattle.clap.specs.Words.{HasKind, IsAmong, is_simple_and_free, kind_of}
use Rattle.clap.specs.declared.error.Error.{Error}
use Rattle.clap.specs.declared.error.kind.ErrorKind.{ErrorKind}
use Rattle.clap.specs.declared.error.kind.ErrorKind.TheVariants.{OutOfMemory}
use Rattle.clap.proofs.OnLiterals.{clap_on_literals}
use Rattle.clap.specs.Kinds.{Kinds, or_else}
use Rattle.clap.specs.Lexer.{usize_max}
use Rattle.clap.specs.Simple.{App, Shape, built, label_of, names_of}
use Rattle.clap.specs.Faults.{fault_of, level_fault, walk_fault, turn_fault, defaults_fault}
use Rattle.clap.specs.Walk.{Names, Text, Walk, answers_to, nothing_held, walk, walk_from, walked}
use Rattle.clap.proofs.FaultLemmas.{stopped_fault}
use Rattle.clap.proofs.WalkLemmas.{walk_stopped}
use Rattle.shr_words.specs.Forms.{has_arguments, is_call, is_form, is_named, is_numbered, is_word, takes_call}
use Rattle.shr_words.specs.Parser as parser
use Rattle.shr_words.proofs.Levels.{counted, counted_none, counted_one, counted_some, examined_more, examined_none, examined_one, is_nil, named_none, named_some, sub, top}

abbrev forms : Names
forms = names_of (built parser.program)

-- the walk that met a form
abbrev stopped_at : Text → List Text → Walk
stopped_at name seen = record (walk_from nothing_held) { stopped = Some (name, seen) }

-- What clap makes of a form's arguments, it makes of all words.
module _ (name : Text) (s : Shape)
    (found : find (λ x. answers_to name (label_of x)) (built parser.program).subs ≡ Some s)
    (step : walked top.rules forms (walk_from nothing_held) name ≡ stopped_at name [])
    (well : turn_fault top forms (walk_from nothing_held) name ≡ []) where
  walk_is : (words : List Text) → walk top.rules forms nothing_held (name ∷ words) ≡ stopped_at name words
  walk_is words =
      ap (λ w. fold (walked top.rules forms) w words) step ∙ sym (walk_stopped top.rules forms (walk_from nothing_held) name [] words)

  enters : (words : List Text) → fault_of parser.program (name ∷ words) ≡ or_else (level_fault s [] nothing_held words false []) []
  unfolding walk_fault defaults_fault
  enters words = rw (walk_is words, found, well, step, stopped_fault top forms (walk_from nothing_held) (name, []) words) refl

-- ---- how many arguments each form has

last_nil : (a : Kinds) → is_nil (or_else a []) ≡ is_nil a
last_nil [] = refl
last_nil (k ∷ ks) = refl

-- words that are no flags, of which a list has so many
pub record AreArguments (words : List Text) : Type 0 where
  pub plain : list_all is_word words ≡ true
  pub few : length words < usize_max

first_plain : (b : ℕ) (bytes : List ℕ) (words : List Text) → list_all is_word ((b ∷ bytes) ∷ words) ≡ true → (b == 45) ≡ false
first_plain b bytes words plain = not-true _ (and_parts (not (b == 45)) (list_all is_word words) plain).0

others_plain : (b : ℕ) (bytes : List ℕ) (words : List Text) → list_all is_word ((b ∷ bytes) ∷ words) ≡ true → list_all is_word words ≡ true
others_plain b bytes words plain = (and_parts (not (b == 45)) (list_all is_word words) plain).1

some : (n : ℕ) → nat_lt 0 (suc n) ≡ true
some n = grind (arith, nat_tests)

two : (n : ℕ) → nat_lt 1 (suc (suc n)) ≡ true
two n = grind (arith, nat_tests)

not_one : (n : ℕ) → (suc (suc n) == 1) ≡ false
not_one n = grind (arith, nat_tests)

abbrev leaf : Shape → List Text → Bool
leaf s words = is_nil (level_fault s [] nothing_held words false [])

named_counts : (form : Text) (words : List Text) → AreArguments words → leaf (sub (parser.named form)) words ≡ nat_lt 0 (length words)
named_counts form [] are = named_none form
named_counts form ([] ∷ words) are = absurd (false≢true are.plain)
named_counts form ((b ∷ bytes) ∷ words) are =
    ap is_nil (named_some form b bytes (first_plain b bytes words are.plain) words (others_plain b bytes words are.plain) (omega (arith, are.few)))
    ∙ sym (some (length words))

numbered_counts : (form : Text) (words : List Text) → AreArguments words → leaf (counted form) words ≡ nat_lt 1 (length words)
numbered_counts form [] are = counted_none form
numbered_counts form ([] ∷ words) are = absurd (false≢true are.plain)
numbered_counts form ((b ∷ bytes) ∷ []) are = counted_one form b bytes (first_plain b bytes [] are.plain)
numbered_counts form ((b ∷ bytes) ∷ [] ∷ words) are = absurd (false≢true (others_plain b bytes ([] ∷ words) are.plain))
numbered_counts form ((b ∷ bytes) ∷ (d ∷ more) ∷ words) are =
    let rest = others_plain b bytes ((d ∷ more) ∷ words) are.plain in
    ap is_nil (counted_some form b bytes (first_plain b bytes ((d ∷ more) ∷ words) are.plain) d more (first_plain d more words rest) words (others_plain d more words rest) (omega (arith, are.few)))
    ∙ sym (two (length words))

examine_counts : (words : List Text) → AreArguments words → leaf (sub parser.examine) words ≡ (length words == 1)
examine_counts [] are = examined_none
examine_counts ([] ∷ words) are = absurd (false≢true are.plain)
examine_counts ((b ∷ bytes) ∷ []) are = ap is_nil (examined_one b bytes (first_plain b bytes [] are.plain))
examine_counts ((b ∷ bytes) ∷ [] ∷ words) are = absurd (false≢true (others_plain b bytes ([] ∷ words) are.plain))
examine_counts ((b ∷ bytes) ∷ (d ∷ more) ∷ words) are =
    let rest = others_plain b bytes ((d ∷ more) ∷ words) are.plain in
    examined_more b bytes (first_plain b bytes ((d ∷ more) ∷ words) are.plain) d more words (first_plain d more words rest)
    ∙ sym (not_one (length words))

-- ---- all forms

-- clap refuses a form's words exactly where their number is another
abbrev CountsOf : Text → Type 0
CountsOf name = (words : List Text) → AreArguments words → is_nil (fault_of parser.program (name ∷ words)) ≡ has_arguments name (length words)

of_named : (name : Text) → ((words : List Text) → fault_of parser.program (name ∷ words) ≡ or_else (level_fault (sub (parser.named name)) [] nothing_held words false []) [])
    → ((n : ℕ) → has_arguments name n ≡ nat_lt 0 n) → CountsOf name
of_named name enters is words are =
    ap is_nil (enters words) ∙ last_nil (level_fault (sub (parser.named name)) [] nothing_held words false []) ∙ named_counts name words are ∙ sym (is (length words))

of_numbered : (name : Text) → ((words : List Text) → fault_of parser.program (name ∷ words) ≡ or_else (level_fault (counted name) [] nothing_held words false []) [])
    → ((n : ℕ) → has_arguments name n ≡ nat_lt 1 n) → CountsOf name
of_numbered name enters is words are =
    ap is_nil (enters words) ∙ last_nil (level_fault (counted name) [] nothing_held words false []) ∙ numbered_counts name words are ∙ sym (is (length words))

layout_counts : CountsOf (codes "layout")
unfolding walked
layout_counts = of_numbered (codes "layout") (enters (codes "layout") (counted (codes "layout")) refl refl refl) (λ n. refl)

create_counts : CountsOf (codes "create")
unfolding walked
create_counts = of_numbered (codes "create") (enters (codes "create") (counted (codes "create")) refl refl refl) (λ n. refl)

trial_counts : CountsOf (codes "trial")
unfolding walked
trial_counts = of_numbered (codes "trial") (enters (codes "trial") (counted (codes "trial")) refl refl refl) (λ n. refl)

serve_counts : CountsOf (codes "serve")
unfolding walked
serve_counts = of_named (codes "serve") (enters (codes "serve") (sub (parser.named (codes "serve"))) refl refl refl) (λ n. refl)

import_counts : CountsOf (codes "import")
unfolding walked
import_counts = of_named (codes "import") (enters (codes "import") (sub (parser.named (codes "import"))) refl refl refl) (λ n. refl)

export_counts : CountsOf (codes "export")
unfolding walked
export_counts = of_named (codes "export") (enters (codes "export") (sub (parser.named (codes "export"))) refl refl refl) (λ n. refl)

status_counts : CountsOf (codes "status")
unfolding walked
status_counts = of_named (codes "status") (enters (codes "status") (sub (parser.named (codes "status"))) refl refl refl) (λ n. refl)

one_counts : CountsOf (codes "examine")
unfolding walked
one_counts words are =
    ap is_nil (enters (codes "examine") (sub parser.examine) refl refl refl words)
    ∙ last_nil (level_fault (sub parser.examine) [] nothing_held words false []) ∙ examine_counts words are

-- one of two names
either : (name first : Text) (rest : Bool) (P : Text → Type 0) → P first → (rest ≡ true → P name) → (bytes_eq name first || rest) ≡ true → P name
either name first rest P here there e =
    elim (cases_Bool (bytes_eq name first)) [
      | inl same ↦ subst P (sym ((bytes_eq-Decides name first).0 same)) here
      | inr other ↦ there (sym (ap (λ b. b || rest) other) ∙ e)
    ]

last_one : (name last : Text) (P : Text → Type 0) → P last → bytes_eq name last ≡ true → P name
last_one name last P here e = subst P (sym ((bytes_eq-Decides name last).0 e)) here

of_form : (name : Text) → is_form name ≡ true → CountsOf name
of_form name form =
    elim (or_cases (is_numbered name) (is_named name || bytes_eq name (codes "examine")) form) [
      | inl numbered ↦ either name (codes "layout") _ CountsOf layout_counts
          (either name (codes "create") _ CountsOf create_counts (last_one name (codes "trial") CountsOf trial_counts)) numbered
      | inr others ↦ elim (or_cases (is_named name) (bytes_eq name (codes "examine")) others) [
        | inl named ↦ either name (codes "serve") _ CountsOf serve_counts
            (either name (codes "import") _ CountsOf import_counts
            (either name (codes "export") _ CountsOf export_counts (last_one name (codes "status") CountsOf status_counts))) named
        | inr examined ↦ last_one name (codes "examine") CountsOf one_counts examined
      ]
    ]

-- clap refuses the words of a form exactly where it has another number of arguments
pub counts : (name : Text) (words : List Text) → is_form name ≡ true → AreArguments words
    → is_nil (fault_of parser.program (name ∷ words)) ≡ has_arguments name (length words)
counts name words form = of_form name form words

-- ---- what a parse tells

nil_is : (kinds : Kinds) → kinds ≡ [] → is_nil kinds ≡ true
nil_is kinds e = ap is_nil e

none_in : (k : ErrorKind) (kinds : Kinds) → IsAmong k kinds → is_nil kinds ≡ false
none_in k [] among = absurd among
none_in k (first ∷ rest) among = refl

counted_call : (words : List Text) → is_call words ≡ true → length words < 2 ^ 64 → is_nil (fault_of parser.program words) ≡ takes_call words
counted_call [] call few = absurd (false≢true call)
counted_call (name ∷ words) call few =
    let parts = and_parts (is_form name) (list_all is_word words) call in
    counts name words parts.0 (record { plain = parts.1; few = omega (arith, few) })

-- words that are parsed are as many as the form has
pub parsed : (a : App) (words : List Text) → a ≡ parser.program → is_call words ≡ true → length words < 2 ^ 64
    → (is_simple_and_free a ≡ true → fault_of a words ≡ []) → takes_call words ≡ true
unfolding clap_on_literals
parsed a words is call few well =
    let simple : is_simple_and_free a ≡ true = ap is_simple_and_free is in
    sym (counted_call words call few) ∙ ap (λ (b : App). is_nil (fault_of b words)) (sym is) ∙ nil_is (fault_of a words) (well simple)

-- words that are refused, but for want of memory, are not
pub unparsed : (a : App) (words : List Text) (e : Error) → a ≡ parser.program → is_call words ≡ true → length words < 2 ^ 64
    → (is_simple_and_free a ≡ true → HasKind (fault_of a words) e) → kind_of e ≢ OutOfMemory → takes_call words ≡ false
unfolding clap_on_literals
unparsed a words e is call few fails other =
    let simple : is_simple_and_free a ≡ true = ap is_simple_and_free is in
    sym (counted_call words call few) ∙ ap (λ (b : App). is_nil (fault_of b words)) (sym is)
    ∙ (elim (fails simple) [
      | inl memory ↦ absurd (other memory)
      | inr among ↦ none_in (kind_of e) (fault_of a words) among
    ])
