-- Where the items of a logical volume's segments stand among its words.
use Rattle.std.specs.Prelude.{◌≡◌, ℕ, ◌+◌, ◌<◌, ◌≤◌, Bool, if◌then◌else◌, List, length, drop, slice_index_or, Option, Some, None, option_map}
use Rattle.lvm_text.specs.declared.words.Word.{Word}
use Rattle.lvm_text.specs.Group.{found, segment_name}

-- the words from a place on
abbrev pub behind : List Word → Option ℕ → Option (List Word)
behind words place = option_map (λ at. drop at words) place

-- the first segments' items, from number 1 on, stand where the table has them
pub record IsTable (table : List (Option ℕ)) (words : List Word) : Type 0 where
  pub within : (k at : ℕ) → k < length table → slice_index_or table k None ≡ Some at → at ≤ length words
  pub items : (k : ℕ) → k < length table → behind words (slice_index_or table k None) ≡ found (segment_name (k + 1)) words

-- the first place counts
abbrev pub first_place : Option ℕ → Bool → ℕ → Option ℕ
first_place (Some before) here at = Some before
first_place None here at = if here then Some at else None
