-- Works of maintenance, with what contents hold in their calls.
use Rattle.std.specs.Prelude.{◌≡◌, ℕ, ◌-◌, Bool, Result, false, true}
use Rattle.rack.specs.Seen.{RackView}
use Rattle.pool_state.specs.declared.contents.Work.{Work}
use Rattle.pool_state.specs.declared.contents.Work.TheVariants.{Resync, Rebuild, TakeOver, Begin, Reshape, Finish, Make, Zero, Ready, Extend, Close}
use Rattle.array_model.specs.View.{View, rows_of}
use Rattle.sync_laws.specs.Steps.{DoesRows, rebuilt, resynced, rows_left}
use Rattle.raid_laws.specs.Raid.{Raid}
use Rattle.raid_laws.specs.Works.{StepsOne}
use Rattle.transition_laws.specs.Changes.{closed, steps}
use Rattle.growth_laws.specs.Growing.{AnyValues, MakesTurn}

-- A step of maintenance of array n, with what contents hold in its call where the array isn't young: the change is made, by the book before it.
pub record MakesStep (n : ℕ) (next : View) (v w : Raid) (a b : RackView) (answered : Bool) : Type 0 where
  pub step : StepsOne v w a b n next answered
  pub contents : MakesTurn (steps n next) step.is_done (λ vals. (v.arrays n).young ≡ false) v w a b

-- The first rows left to resync of array n are resynced: some of them, at least one and at most so many.
abbrev pub ResyncsNext : (n most : ℕ) → Raid → Raid → RackView → RackView → {E : Type 0} → Result ℕ E → Type 0
ResyncsNext n most v w a b result = DoesRows (λ rows. MakesStep n (resynced (v.arrays n) rows) v w a b) (rows_of (v.arrays n) - (v.arrays n).resync) most result

-- So are the next rows rebuilt of a place's member.
abbrev pub RebuildsNext : (n place most : ℕ) → Raid → Raid → RackView → RackView → {E : Type 0} → Result ℕ E → Type 0
RebuildsNext n place most v w a b result = DoesRows (λ rows. MakesStep n (rebuilt (v.arrays n) place rows) v w a b) (rows_left (v.arrays n) place) most result

-- what contents hold in a work of maintenance that is due, with those after it of its kind
abbrev pub MakesWorks : Work → (most : ℕ) → Raid → Raid → RackView → RackView → {E : Type 0} → Result ℕ E → Type 0
MakesWorks (Resync n) most v w a b result = ResyncsNext n most v w a b result
MakesWorks (Rebuild n place) most v w a b result = RebuildsNext n place most v w a b result
MakesWorks (TakeOver n) most v w a b result = ⊥
MakesWorks (Begin n place) most v w a b result = ⊥
MakesWorks (Reshape n) most v w a b result = ⊥
MakesWorks (Finish n) most v w a b result = ⊥
MakesWorks (Make n height) most v w a b result = ⊥
MakesWorks (Zero n) most v w a b result = ⊥
MakesWorks (Ready n) most v w a b result = ⊥
MakesWorks Extend most v w a b result = ⊥
MakesWorks Close most v w a b result = MakesTurn closed true AnyValues v w a b
