-- Sectors of a pool that are filled one after the other, as one event.
use Rattle.std.specs.Prelude.{◌≡◌, ℕ, ◌+◌, ◌-◌, ◌<◌, ◌≤◌, true, false, List, Result, OnOk, IfErr}
use Rattle.flat_array.specs.Array.{filled}
use Rattle.pool.specs.Calls.{Marks, CallFrame}
use Rattle.pool.specs.Keeping.{KeepsWorks, Raises}
use Rattle.pool.specs.View.{View, book}
use Rattle.pool.specs.Volume.{Refines, is_spent}
use Rattle.shr_tool.specs.declared.perform.SpentAt.{SpentAt}

-- So many sectors from one on have these bytes appended; none of them was spent before. A stop inside counts as after all of them.
pub record FillsSome (x y : View) (sector count : ℕ) (bytes : List ℕ) : Type 0 where
  pub does : Refines x y (λ a. filled a sector count bytes) (λ a. filled a sector count bytes)
  pub unspent : (s : ℕ) → sector ≤ s → s < sector + count → is_spent x s ≡ false

-- All of them have, and the last one isn't spent; or those before the first that is refused, which is spent.
pub record Fills (x y : View) (sector count : ℕ) (bytes : List ℕ) (result : Result (Unit {0}) SpentAt) : Type 0 where
  pub passes : CallFrame x y
  pub raises : Raises count x y
  pub works : KeepsWorks (book x) (book y)
  pub marks : Marks x y
  pub done : OnOk result (FillsSome x y sector count bytes × ((s : ℕ) → s + 1 ≡ sector + count → sector ≤ s → is_spent y s ≡ false))
  pub refused :
      IfErr result
      (λ at. (sector ≤ at.sector) × (at.sector < sector + count) × (is_spent y at.sector ≡ true) × FillsSome x y sector (at.sector - sector) bytes)
