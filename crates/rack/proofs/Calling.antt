-- Single calls in a row, counted.
use Rattle.std.proofs.Common.{ℕ, ◌+◌, ◌≤◌, List, [], ◌∷◌, ◌++◌, refl, subst, arith}
use Rattle.std.proofs.lemmas.List.{length-append}
use Rattle.rack.specs.Several.{Several, Through}

-- none
pub several_none : {R : Type 0} (once : R → R → Type 0) (x : R) → Several once 0 x x
several_none once x = record { calls = []; few = omega arith; through = refl }

through_then : {R : Type 0} (once : R → R → Type 0) (x : R) (calls : List R) (y z : R) → Through once x calls y → once y z → Through once x (calls ++ z ∷ []) z
through_then once x [] y z same call = (subst (λ r. once r z) same call, refl)
through_then once x (w ∷ calls) y z through call = (through.0, through_then once w calls y z through.1 call)

-- one more
pub several_then : {R : Type 0} (once : R → R → Type 0) (most : ℕ) (x y z : R) → Several once most x y → once y z → Several once (most + 1) x z
several_then once most x y z several call = record {
  calls = several.calls ++ z ∷ [];
  few = let few = several.few in rw (length-append several.calls (z ∷ [])) (omega arith);
  through = through_then once x several.calls y z several.through call;
}

-- one
pub several_one : {R : Type 0} (once : R → R → Type 0) (x y : R) → once x y → Several once 1 x y
several_one once x y call = record { calls = y ∷ []; few = omega arith; through = (call, refl) }

-- fewer than that
pub several_fewer : {R : Type 0} (once : R → R → Type 0) (least most : ℕ) (x y : R) → least ≤ most → Several once least x y → Several once most x y
several_fewer once least most x y fewer several = record {
  calls = several.calls;
  few = let few = several.few in omega (arith, fewer);
  through = several.through;
}
