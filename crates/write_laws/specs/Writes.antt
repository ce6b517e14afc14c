-- What a write of one array makes of the book of a pool.
use Rattle.std.specs.Prelude.{◌≡◌, ℕ, Bool, false, ◌&&◌, not, if◌then◌else◌, List, [], ◌∷◌, ◌++◌}
use Rattle.rack.specs.Values.{Values}
use Rattle.rack.specs.Seen.{RackView}
use Rattle.array_model.specs.View.{is_whole_array, View}
use Rattle.array_core.specs.Settling.{unsynced}
use Rattle.raid_laws.specs.Moves.{written_at}
use Rattle.raid_laws.specs.Raid.{Raid}
use Rattle.transition_laws.specs.Changes.{Change, steps, wrote}
use Rattle.transition_laws.specs.Losses.{AreLosses}
use Rattle.transition_laws.specs.Makes.{Makes}

-- a whole array is marked before it is written, once in a run
abbrev pub marks_first : View → Bool
marks_first u = is_whole_array u && not u.marked

-- the array with superblocks that leave all rows to resync, of one more event; it is marked where each member has its own durably
abbrev pub with_mark : View → Bool → View
with_mark u is_marked = record (unsynced u) { marked = is_marked }

-- What a write of array n changes, which was u. That it is written changes nothing of the book, so this holds where a call writes nothing as well.
abbrev pub writing : ℕ → View → Bool → List Change
writing n u is_marked = if marks_first u then steps n (with_mark u is_marked) ∷ wrote n ∷ [] else wrote n ∷ []

-- the values of all arrays once a sector of array n is written
abbrev pub values_with : (n sector : ℕ) → List ℕ → (ℕ → ℕ → Values) → ℕ → ℕ → Values
values_with n sector from vals k = written_at n sector from k (vals k)

-- A sector of array n is written, and losses come after it: this is all that calls make of the book. Of contents it is said where the array isn't
-- young: at each moment a stop leaves the sector its value from before or the new one. Where it is refused it is spent after the call, and a promise
-- that can be kept until w says nothing of it.
pub record MakesWrite (n sector : ℕ) (from : List ℕ) (v w : Raid) (a b : RackView) : Type 0 where
  pub is_marked : Bool
  pub after : List Change
  pub losses : AreLosses after
  pub makes :
      (vals : ℕ → ℕ → Values) → (v.arrays n).young ≡ false → Makes (writing n (v.arrays n) is_marked ++ after) v v w vals (values_with n sector from vals) a b
