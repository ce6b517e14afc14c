-- The words after `layout`: the sectors of an extent, and those of each drive.
use Rattle.std.specs.Prelude.{ℕ, ◌^◌, ◌<◌, ◌≤◌, nat_le, nat_lt, ◌&&◌, Bool, if◌then◌else◌, List, [], ◌∷◌, length, take, map, filter_map, All, Option, Some, None, is_some}
use Rattle.std.specs.List.{list_all}
use Rattle.std.specs.Int.{is_power_of_two}
use Rattle.shr_script.specs.Line.{number_of}
use Rattle.shr_base.specs.Units.{units_of}
use Rattle.shr_words.specs.declared.layout.LayoutRequest.{LayoutRequest}

-- a number that passes a test
abbrev pub if_passes : (ℕ → Bool) → Option ℕ → Option ℕ
if_passes test None = None
if_passes test (Some number) = if test number then Some number else None

-- the sectors of an extent: a power of two from 128 to 65536
abbrev pub is_extent : ℕ → Bool
is_extent number = nat_le 128 number && nat_le number 65536 && is_power_of_two number

abbrev pub extent_of : List ℕ → Option ℕ
extent_of word = if_passes is_extent (number_of word)

-- the sectors of a drive: a number below 2^48
abbrev pub is_size : ℕ → Bool
is_size number = nat_lt number (2 ^ 48)

abbrev pub size_of : List ℕ → Option ℕ
size_of word = if_passes is_size (number_of word)

-- of more than 17 sizes the others don't matter, since more than 16 drives are refused
abbrev pub asked : Option ℕ → List (List ℕ) → Option LayoutRequest
asked None words = None
asked (Some extent) words =
    if nat_lt 0 (length words) && list_all (λ word. is_some (size_of word)) words
    then Some (record { extent = extent; sizes = record { items = filter_map size_of (take 17 words) } })
    else None

-- `E S..`: what the words ask for
abbrev pub layout_request : List (List ℕ) → Option LayoutRequest
layout_request [] = None
layout_request (extent ∷ words) = asked (extent_of extent) words

-- the bounds that were tested
pub record IsSound (request : LayoutRequest) : Type 0 where
  pub extent : 128 ≤ request.extent
  pub sizes : All (λ size. size < 2 ^ 48) request.sizes.items

-- the units of the drives that were asked for
abbrev pub units_asked : LayoutRequest → List ℕ
units_asked request = map (λ size. units_of size request.extent) request.sizes.items
