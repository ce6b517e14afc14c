-- What calls of a volume leave alone.
use Rattle.std.specs.Prelude.{◌≡◌, ℕ, ◌<◌, List, refl}
use Rattle.std.proofs.Common.{◌∙◌, subst}
use Rattle.rack.specs.Seen.{RackView}
use Rattle.rack.specs.Sequences.{WritesOnly}
use Rattle.rack.proofs.Writing.{only_none, only_then}
use Rattle.lvm_group.specs.declared.volume.Volume.{Volume}
use Rattle.lvm_group.specs.Runs.{Linear, array_of, sector_of, sectors_in}
use Rattle.lvm_group.specs.Volume.{below_of, linear, pool_of, seqno_of}

-- a sector of an array that is one of the volume's
abbrev pub IsShown : Linear → ℕ → ℕ → List ℕ → Type 0
IsShown l d s v = (sector : ℕ) × (sector < sectors_in l) × (d ≡ array_of l sector) × (s ≡ sector_of l sector)

-- The volume stays over its arrays, and its group what it is; below, only sectors of the volume were written.
pub record Frames {R : Type 0} (seen : R → RackView) (x y : Volume R) : Type 0 where
  pub volume : linear y ≡ linear x
  pub pool : pool_of y ≡ pool_of x
  pub seqno : seqno_of y ≡ seqno_of x
  pub writes : (seen (below_of x)).fit → WritesOnly (seen (below_of x)) (seen (below_of y)) (IsShown (linear x))

-- no call
pub frames_same : {R : Type 0} (seen : R → RackView) (x : Volume R) → Frames seen x x
frames_same seen x = record { volume = refl; pool = refl; seqno = refl; writes = λ fit. only_none (seen (below_of x)) (IsShown (linear x)) fit }

-- calls in a row
pub frames_then : {R : Type 0} (seen : R → RackView) (x y z : Volume R) → Frames seen x y → Frames seen y z → Frames seen x z
frames_then seen x y z one two = record {
  volume = two.volume ∙ one.volume;
  pool = two.pool ∙ one.pool;
  seqno = two.seqno ∙ one.seqno;
  writes = λ fit.
      let first = one.writes fit in
      only_then (IsShown (linear x)) first (subst (λ (l : Linear). WritesOnly (seen (below_of y)) (seen (below_of z)) (IsShown l)) one.volume (two.writes first.stays.fit));
}
