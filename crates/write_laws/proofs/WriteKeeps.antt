-- The changes of a write leave the pool's drives and arrays as they are, and soil no other array.
use Rattle.std.proofs.Common.{◌≡◌, ℕ, ◌^◌, ◌<◌, Bool, true, false, ◌==◌, ◌&&◌, ◌||◌, List, [], ◌∷◌, ◌++◌, refl, sym, ap, ap₂, subst, ◌∙◌, ne_eqb, arith}
use Rattle.array_image.specs.Arrays.{Shape}
use Rattle.array_image.specs.States.{is_current}
use Rattle.array_model.specs.View.{shape_of}
use Rattle.raid_laws.specs.Raid.{Raid}
use Rattle.raid_laws.specs.Reach.{KeepsReachOn, reach_same}
use Rattle.transition_laws.specs.Changes.{AreKeeping, by, Change, closed, enlists, failed, Maintains, makes, readied, soil, soil_joined, steps, wrote}
use Rattle.transition_laws.specs.Holds.{has_sector}
use Rattle.transition_laws.specs.Losses.{AreLosses}
use Rattle.transition_laws.proofs.LongerBooks.{AllKeepOld, losses_keep, old_joined, step_keeps}
use Rattle.transition_laws.proofs.SteppedMakes.{framed_sectors}
use Rattle.write_laws.specs.Writes.{marks_first, with_mark, writing}
use Rattle.write_laws.proofs.WriteMakes.{mark_shape, writing_if}

-- ---- losses

losses_keeping : (xs : List Change) (v : Raid) → AreLosses xs → AreKeeping xs v
losses_keeping [] v are = tt
losses_keeping (steps m next ∷ xs) v are = absurd are.0
losses_keeping (makes next ∷ xs) v are = absurd are.0
losses_keeping (readied ∷ xs) v are = absurd are.0
losses_keeping (closed ∷ xs) v are = absurd are.0
losses_keeping (enlists place units plan joining ∷ xs) v are = absurd are.0
losses_keeping (failed lost events ∷ xs) v are = (tt, losses_keeping xs _ are.1)
losses_keeping (wrote m ∷ xs) v are = absurd are.0

losses_soil : (xs : List Change) (k : ℕ) → AreLosses xs → soil xs k ≡ false
losses_soil [] k are = refl
losses_soil (steps m next ∷ xs) k are = absurd are.0
losses_soil (makes next ∷ xs) k are = absurd are.0
losses_soil (readied ∷ xs) k are = absurd are.0
losses_soil (closed ∷ xs) k are = absurd are.0
losses_soil (enlists place units plan joining ∷ xs) k are = absurd are.0
losses_soil (failed lost events ∷ xs) k are = losses_soil xs k are.1
losses_soil (wrote m ∷ xs) k are = absurd are.0

-- ---- the mark and the write

mark_maintains : (v : Raid) (n : ℕ) (is_marked : Bool) → (v.arrays n).young ≡ false → Maintains v.state (v.arrays n) (with_mark (v.arrays n) is_marked)
mark_maintains v n is_marked old = record {
  follows = record {
    frame = refl;
    reach = subst (λ (shape : Shape). KeepsReachOn (is_current v.state) (shape_of (v.arrays n)) shape) (sym (mark_shape (v.arrays n) is_marked))
        (reach_same (is_current v.state) (shape_of (v.arrays n)));
    resync = omega arith;
    young = refl;
  };
  geometry = record { set = refl; level = refl; size = refl; disks = refl; roles = refl; features = refl; position = refl };
  ready = old;
}

keeping_joined : (xs ys : List Change) (v : Raid) → AreKeeping xs v → AreKeeping ys (by xs v) → AreKeeping (xs ++ ys) v
keeping_joined [] ys v one two = two
keeping_joined (x ∷ xs) ys v one two = (one.0, keeping_joined xs ys _ one.1 two)

module _ (v : Raid) (n : ℕ) (is_marked : Bool) (after : List Change) (losses : AreLosses after) where
  pub write_keeping : (v.arrays n).young ≡ false → AreKeeping (writing n (v.arrays n) is_marked ++ after) v
  write_keeping old = keeping_joined (writing n (v.arrays n) is_marked) after v (of (marks_first (v.arrays n))) (losses_keeping after _ losses)
    where
      of : (t : Bool) → AreKeeping (writing_if t n (v.arrays n) is_marked) v
      of true = (mark_maintains v n is_marked old, (tt, tt))
      of false = (tt, tt)

  -- each array has the sectors that it had
  pub write_keeps_old : (v.arrays n).young ≡ false → (v.arrays n).truth.size < 2 ^ 48 → (k : ℕ) → AllKeepOld v k (writing n (v.arrays n) is_marked ++ after)
  write_keeps_old old small k = old_joined v k (writing n (v.arrays n) is_marked) after (of (marks_first (v.arrays n))) (losses_keep v k after losses)
    where
      of : (t : Bool) → AllKeepOld v k (writing_if t n (v.arrays n) is_marked)
      of true = (
        step_keeps v k n (with_mark (v.arrays n) is_marked) (λ same. small) (λ same. old)
            (λ same y has.
            sym (framed_sectors (v.arrays n) (with_mark (v.arrays n) is_marked) refl refl old old y) ∙ subst (λ j. has_sector (v.arrays j) y ≡ true) same has),
        (λ u kept. kept, tt),
      )
      of false = (λ u kept. kept, tt)

  -- no other array is soiled
  pub write_soils : (k : ℕ) → (k ≡ n → ⊥) → soil (writing n (v.arrays n) is_marked ++ after) k ≡ false
  write_soils k other =
      soil_joined (writing n (v.arrays n) is_marked) after k ∙ ap₂ (λ s t. s || t) (of (marks_first (v.arrays n))) (losses_soil after k losses)
    where
      apart : (n == k) ≡ false
      apart = ne_eqb n k (λ same. other (sym same))

      none : (b : Bool) → (b && false) ≡ false
      none true = refl
      none false = refl

      of : (t : Bool) → soil (writing_if t n (v.arrays n) is_marked) k ≡ false
      of true = ap (λ t. (is_marked && t) || (t || false)) apart ∙ ap (λ t. t || false) (none is_marked)
      of false = ap (λ t. t || false) apart
