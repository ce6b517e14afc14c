-- Calls of the rack below in a row, counted.
use Rattle.std.proofs.Common.{ℕ, ◌+◌, ◌≤◌, List, [], ◌∷◌, length, sym, subst, arith}
use Rattle.rack.specs.Several.{Several, Through}
use Rattle.rack.proofs.Calling.{several_fewer, several_none, several_then}

-- none are no more than any number
pub several_same : {R : Type 0} (once : R → R → Type 0) (most : ℕ) (x : R) → Several once most x x
several_same once most x = several_fewer once 0 most x x (omega arith) (several_none once x)

several_each : {R : Type 0} (once : R → R → Type 0) (least : ℕ) (x y : R) (calls : List R) (z : R) → Several once least x y → Through once y calls z → Several once (least + length calls) x z
several_each once least x y [] z before same = several_fewer once least (least + 0) x z (omega arith) (subst (λ r. Several once least x r) (sym same) before)
several_each once least x y (w ∷ calls) z before through =
    several_fewer once (least + 1 + length calls) (least + length (w ∷ calls)) x z (omega arith)
    (several_each once (least + 1) x w calls z (several_then once least x y w before through.0) through.1)

-- some calls, and others after them
pub several_join : {R : Type 0} (once : R → R → Type 0) (least more most : ℕ) (x y z : R) → least + more ≤ most → Several once least x y → Several once more y z → Several once most x z
several_join once least more most x y z enough one two =
    let few = two.few in
    several_fewer once (least + length two.calls) most x z (omega (arith, few, enough)) (several_each once least x y two.calls z one two.through)
