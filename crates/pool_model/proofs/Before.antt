-- Outside slices disks may be left with what they might have been left with before, but for one disk.
use Rattle.std.proofs.Common.{◌≡◌, ◌≢◌, ℕ, ◌==◌, if◌then◌else◌, Bool, List, refl, sym, ap, subst, inl, inr, eq-eqb}
use Rattle.std.proofs.lemmas.Bool.{cases_eq, ne_eqb}
use Rattle.rack.specs.Values.{MayLeave}
use Rattle.rack.specs.Seen.{Image, RackView}
use Rattle.slice_rack.specs.Runs.{IsSliced}
use Rattle.slice_rack.specs.Slices.{Slices}
use Rattle.pool_model.specs.Left.{IsPickOutsideSlices}
use Rattle.pool_model.specs.Taken.{KeepsOutsideSlices}

module _ (t u : Slices) (disk : ℕ) (x z : RackView) (keeps : KeepsOutsideSlices t disk x z)
    (fewer : (d s : ℕ) (w : List ℕ) → d ≢ disk → IsSliced u d s w → IsSliced t d s w) (i : Image) (off : IsPickOutsideSlices u z i) where
  -- contents before, the same ones but for that disk
  abbrev pub was : Image
  was = λ d s. if d == disk then (x.held d s).current else i d s

  pub was_other : (d : ℕ) → d ≢ disk → was d ≡ i d
  was_other d other = let read : Bool → ℕ → List ℕ = λ b s. if b then (x.held d s).current else i d s in ap read (ne_eqb d disk other)

  pub off_before : IsPickOutsideSlices t x was
  off_before d s live never = elim (cases_eq d disk) [
    | inl same ↦ subst (λ c. MayLeave (x.held d s) c) (sym (ap (λ (b : Bool). if b then (x.held d s).current else i d s) (eq-eqb d disk same))) (inl refl)
    | inr other ↦
        (let kept = keeps d s other live never in
        subst (λ c. MayLeave (x.held d s) c) (sym (ap (λ (b : Bool). if b then (x.held d s).current else i d s) (ne_eqb d disk other)))
        (kept.1.within (i d s) (off d s kept.0 (λ w is. never w (fewer d s w other is)))))
  ]
