-- A volume keeps the sectors that it has where its arrays keep theirs.
use Rattle.std.proofs.Common.{ℕ, ◌<◌, ◌≤◌, sym, subst, ◌∙◌, arith}
use Rattle.rack.specs.Moments.{Leaves}
use Rattle.rack.specs.Seen.{RackView}
use Rattle.rack.specs.Values.{MayLeave, Values}
use Rattle.lvm_group.specs.Laws.{array_below, sector_below, shows}
use Rattle.lvm_group.specs.Runs.{array_of, IsOrderly, Linear, sector_of, sectors_in}
use Rattle.lvm_group.specs.Shown.{IsInside, volume_of}
use Rattle.transition_laws.specs.Growth.{KeepsOldSectors}

-- what stops leave in a sector of an array they leave in the volume's sector on it
pub leaves_sector : (l : Linear) (a b : RackView) (d s : ℕ) (vals : Values) → s < sectors_in l → Leaves a b (λ c. MayLeave vals (c (array_of l s) (sector_of l s)))
    → Leaves (volume_of l a) (volume_of l b) (λ c. MayLeave vals (c d s))
leaves_sector l a b d s vals within leaves = record {
  later = leaves.later;
  kept = λ k c until left. (left.0, leaves.kept k left.0 until left.1, left.2);
  past = λ k c until left. (left.0, leaves.past k left.0 until left.1, left.2);
  new = λ k c after until left. subst (MayLeave vals) (sym (left.2 d s ∙ shows l left.0 d s within)) (leaves.new k left.0 after until left.1);
}

-- The map stays. All its arrays are among the first ones, so many, and inside them before the calls.
pub keeps_old_volume : (l : Linear) (a b : RackView) (count : ℕ) → IsOrderly l → IsInside l a → l.arrays ≤ count → KeepsOldSectors count a b
    → KeepsOldSectors 1 (volume_of l a) (volume_of l b)
keeps_old_volume l a b count orderly inside few keeps =
    let array : (s : ℕ) → s < sectors_in l → array_of l s < l.arrays = λ s within. array_below l a s orderly inside within in
    let low : (s : ℕ) → s < sectors_in l → array_of l s < count = λ s within. let one = array s within in omega arith in
    let has : (s : ℕ) → s < sectors_in l → sector_of l s < a.sectors (array_of l s) = λ s within. sector_below l a s orderly inside within in
    record {
      told = λ d one told n below. keeps.told n (omega arith) (told n below);
      spent = λ d s one within alive. keeps.spent (array_of l s) (sector_of l s) (low s within) (has s within) alive;
      held = λ d s one told within alive.
          keeps.held (array_of l s) (sector_of l s) (low s within) (told (array_of l s) (array s within)) (has s within) alive;
      stops = λ traced d s one told within alive.
          leaves_sector l a b d s (a.held (array_of l s) (sector_of l s)) within
          (keeps.stops traced (array_of l s) (sector_of l s) (low s within) (told (array_of l s) (array s within)) (has s within) alive);
    }
