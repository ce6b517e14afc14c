-- What the arrays of a pool keep over a run before the volume's first extents: there its group stands.
use Rattle.std.specs.Prelude.{◌≡◌, ℕ, ◌<◌}
use Rattle.rack.specs.Values.{Keeps}
use Rattle.rack.specs.Seen.{RackView}
use Rattle.array_model.specs.View.{sectors_of}
use Rattle.lvm_group.specs.Runs.{data_start}
use Rattle.raid_laws.specs.Raid.{IsTracked, Raid, held_in, live_of}
use Rattle.raid_laws.specs.Truths.{KeepsTruths}

-- The pool is the same, and its arrays are of as many sectors as before. Each of these that can be had afterwards could be had before; where the array was
-- told it is told still, and a sector before the first extent keeps its values. Superblocks that said an array's truth do so.
pub record KeepsHeads (v w : Raid) (a b : RackView) : Type 0 where
  pub made : w.state.made ≡ v.state.made
  pub joined : w.state.joined ≡ v.state.joined
  pub pool : w.state.pool ≡ v.state.pool
  pub extent : w.state.extent ≡ v.state.extent
  pub sectors : (n : ℕ) → sectors_of (w.arrays n) ≡ sectors_of (v.arrays n)
  pub live : (n s : ℕ) → n < v.state.made → live_of w n s → live_of v n s
  pub told : (n s : ℕ) → n < v.state.made → live_of w n s → IsTracked v a n → IsTracked w b n
  pub keeps :
      (n s : ℕ) → n < v.state.made → s < sectors_of (v.arrays n) → s < data_start → live_of w n s → IsTracked v a n
      → Keeps (held_in v a n s) (held_in w b n s)
  pub truths : KeepsTruths v w a b
