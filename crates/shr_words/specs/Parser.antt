-- The command that the words are parsed by: a subcommand a form.
use Rattle.std.specs.Prelude.{[], Some, true, codes}
use Rattle.clap.specs.Lexer.{usize_max}
use Rattle.clap.specs.Words.{App, Rule, Text, new_app, new_rule, with_rule, with_subcommand}

-- a positional argument of one value
abbrev pub one : Text → Rule
one id = record (new_rule id) { required = true }

-- a positional argument of one value or more
abbrev pub many : Text → Rule
many id = record (new_rule id) { required = true; range = Some (record { start_inclusive = 1; end_inclusive = usize_max }) }

-- a form whose arguments are names
abbrev pub named : Text → App
named form = with_rule (new_app form) (many (codes "names"))

-- a form with a number before its other arguments
abbrev pub numbered : Text → App
numbered form = with_rule (with_rule (new_app form) (one (codes "number"))) (many (codes "others"))

-- the form whose argument is one name
abbrev pub examine : App
examine = with_rule (new_app (codes "examine")) (one (codes "name"))

-- the program, with neither help nor flags
abbrev pub bare : App
bare = record {
  top = record (new_app (codes "shr_tool")).top {
    no_binary_name = true;
    disable_help_flag = true;
    disable_help_subcommand = true;
    disable_version_flag = true;
  };
  subs = [];
}

-- the program with its forms
abbrev pub program : App
program =
    with_subcommand
    (with_subcommand
    (with_subcommand
    (with_subcommand
    (with_subcommand
    (with_subcommand
    (with_subcommand (with_subcommand bare (numbered (codes "layout")).top)
    (numbered (codes "create")).top)
    (named (codes "serve")).top)
    (named (codes "import")).top)
    (named (codes "export")).top)
    (named (codes "status")).top)
    examine.top)
    (numbered (codes "trial")).top
