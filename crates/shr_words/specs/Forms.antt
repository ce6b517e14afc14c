-- The words of the program: a form's name and its arguments.
use Rattle.std.specs.Prelude.{◌≡◌, ℕ, ◌==◌, ◌&&◌, ◌||◌, nat_lt, not, Bool, true, false, if◌then◌else◌, List, [], ◌∷◌, length, codes, Option, Some, None, option_map}
use Rattle.std.specs.List.{list_all}
use Rattle.std.specs.Str.{bytes_eq}
use Rattle.shr_script.specs.Line.{number_of}
use Rattle.shr_words.specs.declared.forms.Form.{Form}
use Rattle.shr_words.specs.declared.forms.Form.TheVariants.{Layout, Create, Serve, Import, Export, Status, Examine, Trial}
use Rattle.shr_words.specs.LayoutWords.{IsSound, extent_of, is_extent, layout_request}

-- a word isn't empty and doesn't begin with a dash
abbrev pub is_word : List ℕ → Bool
is_word [] = false
is_word (b ∷ bytes) = not (b == 45)

-- the names of forms with a number before one argument or more
abbrev pub is_numbered : List ℕ → Bool
is_numbered name = bytes_eq name (codes "layout") || (bytes_eq name (codes "create") || bytes_eq name (codes "trial"))

-- those of forms with one name or more
abbrev pub is_named : List ℕ → Bool
is_named name =
    bytes_eq name (codes "serve")
    || (bytes_eq name (codes "import") || (bytes_eq name (codes "export") || bytes_eq name (codes "status")))

abbrev pub is_form : List ℕ → Bool
is_form name = is_numbered name || (is_named name || bytes_eq name (codes "examine"))

-- whether a form has so many arguments
abbrev pub has_arguments : List ℕ → ℕ → Bool
has_arguments name count =
    if is_numbered name then nat_lt 1 count else if is_named name then nat_lt 0 count else count == 1

-- a form's name, and words that may be its arguments
abbrev pub is_call : List (List ℕ) → Bool
is_call [] = false
is_call (name ∷ arguments) = is_form name && list_all is_word arguments

-- they are as many as the form has
abbrev pub takes_call : List (List ℕ) → Bool
takes_call [] = false
takes_call (name ∷ arguments) = has_arguments name (length arguments)

-- ---- what they ask for

-- forms without a number
abbrev pub unnumbered : List ℕ → Form
unnumbered name =
    if bytes_eq name (codes "serve") then Serve
    else if bytes_eq name (codes "import") then Import
    else if bytes_eq name (codes "export") then Export
    else if bytes_eq name (codes "status") then Status
    else Examine

-- the number that comes first is read by the program's own rules
abbrev pub form_with : List ℕ → List (List ℕ) → Option Form
form_with name [] = None
form_with name (first ∷ others) =
    if bytes_eq name (codes "layout") then option_map Layout (layout_request (first ∷ others))
    else if bytes_eq name (codes "create") then option_map Create (extent_of first)
    else if bytes_eq name (codes "trial") then option_map Trial (number_of first)
    else Some (unnumbered name)

-- the form of a name and its arguments
abbrev pub call_form : List (List ℕ) → Option Form
call_form [] = None
call_form (name ∷ arguments) = form_with name arguments

-- The form of all words: none is empty or begins with a dash, the first is the name of a form, and it has as many arguments as the
-- others are.
abbrev pub form_of : List (List ℕ) → Option Form
form_of words = if is_call words && takes_call words then call_form words else None

-- how many words stand before the names
abbrev pub before_names : Form → ℕ
before_names (Layout request) = 2
before_names (Create extent) = 2
before_names Serve = 1
before_names Import = 1
before_names Export = 1
before_names Status = 1
before_names Examine = 1
before_names (Trial seed) = 2

-- what was tested of the numbers
abbrev pub HasBounds : Form → Type 0
HasBounds (Layout request) = IsSound request
HasBounds (Create extent) = is_extent extent ≡ true
HasBounds Serve = Unit {0}
HasBounds Import = Unit {0}
HasBounds Export = Unit {0}
HasBounds Status = Unit {0}
HasBounds Examine = Unit {0}
HasBounds (Trial seed) = Unit {0}
