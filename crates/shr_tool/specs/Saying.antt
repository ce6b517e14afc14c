-- Lines that end a run, and its status.
use Rattle.std.specs.Prelude.{◌≡◌, ◌⊎◌, ℕ, List, ◌++◌}
use Rattle.io_ends.specs.Sink.{AddsPrefix}
use Rattle.shr_tool.specs.declared.status.Status.{Status}
use Rattle.shr_tool.specs.declared.status.Status.TheVariants.{Done, Words, Limit, Source, Sink, Refused, Memory, Spent}
use Rattle.shr_tool.specs.StatusCode.{code_of}

-- the program ended with the number of a status of which this holds
abbrev pub Ended : ℕ → (Status → Type 0) → Type 0
Ended code P = (status : Status) × (code ≡ code_of status) × P status

-- a line was put and the run ended with its status, or the sink refused it after a prefix
pub record Says (wanted : Status) (line : List ℕ) (out out' : List ℕ) (status : Status) : Type 0 where
  pub said : ((status ≡ wanted) × (out' ≡ out ++ line)) ⊎ ((status ≡ Sink) × AddsPrefix out out' line)

-- a status that ends a run with a line of its own, but for words that are refused
abbrev pub IsSaid : Status → Type 0
IsSaid Done = Unit {0}
IsSaid Words = ⊥
IsSaid Limit = ⊥
IsSaid Source = ⊥
IsSaid Sink = ⊥
IsSaid Refused = Unit {0}
IsSaid Memory = Unit {0}
IsSaid Spent = Unit {0}
