-- Rows of a young array that are zeroed, by the book and by contents together; and when contents fit.
use Rattle.std.proofs.Common.{◌≡◌, ℕ, ◌<◌, Bool, true, false, Result, refl}
use Rattle.std.proofs.lemmas.Bool.{and_from}
use Rattle.rack.specs.Seen.{RackView, SameRack}
use Rattle.rack.specs.Values.{Values}
use Rattle.parity.specs.Xor.{zeros}
use Rattle.pool_state.specs.declared.contents.Work.TheVariants.{Zero}
use Rattle.array_image.specs.Supers.{is_reshaping}
use Rattle.array_model.specs.View.{sectors_of}
use Rattle.sync_laws.specs.Steps.{if_done, zeroed}
use Rattle.raid_laws.specs.Moves.{Mends}
use Rattle.raid_laws.specs.Raid.{Raid}
use Rattle.transition_laws.specs.Holds.{has_sector, Promise, Stands}
use Rattle.growth_laws.specs.Growing.{GetsLonger, Lacks, MakesTurn, zeroes, ZeroesNext}
use Rattle.growth_laws.proofs.Steps.{CallsTo, step_as_long}
use Rattle.growth_laws.proofs.Losing.{as_long, loses_as_long, loses_book_then, loses_nothing, longer_then, mends_lose, moves_caused}
use Rattle.raid_laws.proofs.Moving.{caused_then}
use Rattle.transition_laws.specs.Changes.{changed, steps}
use Rattle.zero_laws.specs.Zeroing.{FitsZero, MakesZeroes, MakesZeroesNext}

-- the call, with the mending after it
pub makes_zeroes : (n rows : ℕ) (v u w : Raid) (a b c : RackView) (is_done answered : Bool) → SameRack a b → CallsTo v u n (zeroed (v.arrays n) rows) a b is_done
    → (answered ≡ true → is_done ≡ true) → Mends u w b c → (answered ≡ false → Lacks (Zero n) v w) → MakesTurn (zeroes n rows v) is_done (FitsZero v n a) v w a c
    → MakesZeroes n rows v w a c answered
makes_zeroes n rows v u w a b c is_done answered stays call answer mends refused turn =
    let next = zeroed (v.arrays n) rows in
    let book : Raid = if_done is_done v (changed (steps n next) v) in
    let after = loses_book_then book u w call.book (mends_lose u w b c mends) in
    record {
      grows = record {
        turns = record { mid = v; before = loses_nothing v; is_done = is_done; answer = answer; after = after; refused = refused };
        caused = caused_then v u w a b c stays mends.moves.stays call.caused (moves_caused u w b c mends.moves);
        heeded = mends.heeded;
        longer = longer_then v book w (longer is_done) (loses_as_long book w after);
      };
      contents = turn;
    }
  where
    longer : (d : Bool) → GetsLonger v (if_done d v (changed (steps n (zeroed (v.arrays n) rows)) v))
    longer true = step_as_long v n (zeroed (v.arrays n) rows) refl
    longer false = as_long v v refl (λ k low. refl)

-- of it what is known whatever disks tell
pub zeroes_next : (n most : ℕ) (v w : Raid) (a b : RackView) {E : Type 0} (result : Result ℕ E) → MakesZeroesNext n most v w a b result → ZeroesNext n most v w a b result
zeroes_next n most v w a b result makes =
    record { rows = makes.rows; some = makes.some; few = makes.few; left = makes.left; steps = makes.steps.grows; answer = makes.answer }

-- A run that stands, by a promise of the sectors alone that arrays have, holds a young array's members so; the values are to be zeros.
pub stands_fits : (v : Raid) (p : Promise) (vals : ℕ → ℕ → Values) (x : RackView) (n : ℕ) → Stands v v p vals x → p.growing ≡ true → p.live n ≡ true → n < v.state.made
    → (v.arrays n).young ≡ true → is_reshaping (v.arrays n).truth ≡ false
    → ((y : ℕ) → y < sectors_of (v.arrays n) → has_sector (v.arrays n) y ≡ false → (vals n y).current ≡ zeros 512) → FitsZero v n x vals
stands_fits v p vals x n stands growing live low young steady zeros = record {
  steady = steady;
  single = (stands.arrays n live low).single (and_from p.growing (v.arrays n).young growing young);
  zeros = zeros;
}
