-- What racks whose disks may get longer keep over calls in a row.
use Rattle.std.proofs.Common.{ℕ, ◌<◌, ◌≤◌, arith}
use Rattle.rack.specs.Joins.{keeps_then, leaves_then, leaves_weaker}
use Rattle.rack.specs.Seen.{RackView}
use Rattle.rack.specs.Values.{MayLeave}
use Rattle.transition_laws.specs.Growth.{KeepsOldSectors}

-- Of the second calls there may be more disks; by the first ones no disk gets shorter, and moments stay traced.
pub old_then : (count more : ℕ) (a b c : RackView) → count ≤ more → ((d : ℕ) → d < count → a.sectors d ≤ b.sectors d) → (a.traced → b.traced) → KeepsOldSectors count a b → KeepsOldSectors more b c
    → KeepsOldSectors count a c
old_then count more a b c few longer traced one two =
    let up : (d : ℕ) → d < count → d < more = λ d low. omega (arith, few, low) in
    let has : (d t : ℕ) → d < count → t < a.sectors d → t < b.sectors d = λ d t low inside. let most = longer d low in omega (arith, most, inside) in
    record {
      told = λ d low told. two.told d (up d low) (one.told d low told);
      spent = λ d t low inside alive. one.spent d t low inside (two.spent d t (up d low) (has d t low inside) alive);
      held = λ d t low told inside alive.
          keeps_then (a.held d t) (b.held d t) (c.held d t) (one.held d t low told inside (two.spent d t (up d low) (has d t low inside) alive))
          (two.held d t (up d low) (one.told d low told) (has d t low inside) alive);
      stops = λ is_traced d t low told inside alive.
          let there = has d t low inside in
          let amid = two.spent d t (up d low) there alive in
          leaves_then (λ e. MayLeave (a.held d t) (e d t)) (one.stops is_traced d t low told inside amid)
          (leaves_weaker (λ e. MayLeave (b.held d t) (e d t)) (λ e. MayLeave (a.held d t) (e d t)) (λ e may. (one.held d t low told inside amid).within (e d t) may)
          (two.stops (traced is_traced) d t (up d low) (one.told d low told) there alive));
    }
