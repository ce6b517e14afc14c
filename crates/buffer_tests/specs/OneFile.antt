-- One file in memory, as contracts see it.
use Rattle.std.specs.Prelude.{◌≡◌, ◌⊎◌, ℕ, zero, suc, ◌+◌, ◌<◌, ◌≤◌, List, [], ◌∷◌, length, get_or, Option, Some, None, false}
use Rattle.rack.specs.Values.{Values}
use Rattle.rack.specs.Seen.{RackView}
use Rattle.rack.specs.Shelf.{Shelf}
use Rattle.buffered_bay.specs.View.{View}

-- the three contents of a file
pub record Contents : Type 0 where
  -- what it had at its last sync
  pub durable : List (List ℕ)
  -- what it has
  pub stored : List (List ℕ)
  -- what was put last for each sector
  pub current : List (List ℕ)

-- a sector of contents, or a place of a buffer
abbrev pub at : List (List ℕ) → ℕ → List ℕ
at sectors s = get_or sectors s []

-- a stop leaves what was durable, what the file has, or what it may take at any time
abbrev pub held_of : Contents → ℕ → Values
held_of c s = record { older = at c.durable s ∷ at c.stored s ∷ []; current = at c.current s }

-- the names of at most one file
abbrev pub names_of : Option (List ℕ) → List (List ℕ)
names_of None = []
names_of (Some name) = name ∷ []

-- the file as a rack, which tells contents and no stops
abbrev pub seen_of : Option (List ℕ) → ℕ → Contents → ℕ → RackView
seen_of name sectors c faults =
    record {
      disks = length (names_of name);
      sectors = λ d. sectors;
      held = λ d s. held_of c s;
      clock = 0;
      stops = λ k image. ⊥;
      faults = λ d. faults;
      spent = λ d s. false;
      lasting = Unit {0};
      steady = ⊥;
      fit = Unit {0};
      told = λ d. Unit {0};
      traced = ⊥;
    }

-- a place of its buffer
abbrev pub place_of : List (List ℕ) → ℕ → ℕ → List ℕ
place_of buffer zero p = at buffer p
place_of buffer (suc d) p = []

-- the file with its buffer
abbrev pub view_of : Option (List ℕ) → ℕ → Contents → List (List ℕ) → ℕ → View
view_of name sectors c buffer faults =
    record { seen = seen_of name sectors c faults; buffer = place_of buffer; stored = λ d s. at c.stored s }

-- the names
abbrev pub shelf_of : Option (List ℕ) → Shelf
shelf_of name = record { names = names_of name; ready = λ n. None; told = ⊥; faults = 0 }

-- sectors in a row were copied
pub record Copies (from : List (List ℕ)) (first : ℕ) (old new : List (List ℕ)) (place count : ℕ) : Type 0 where
  pub size : length new ≡ length old
  pub copied : (p : ℕ) → p < count → at new (place + p) ≡ at from (first + p)
  pub others : (p : ℕ) → (p < place) ⊎ (place + count ≤ p) → at new p ≡ at old p
