-- Places count as gone by the faults of their disks.
use Rattle.std.proofs.Common.{◌≡◌, ◌⊎◌, ℕ, ◌<◌, Bool, true, nat_lt, List, Option, Some, unwrap_or, sym, ap, subst, ◌∙◌, inl, inr, arith, ltb-true}
use Rattle.std.proofs.lemmas.Bool.{cases_lt, and_parts}
use Rattle.rack.specs.Seen.{RackView, SameRack, Rose}
use Rattle.rack.specs.Joins.{rose_early, rose_later}
use Rattle.pool_state.specs.declared.contents.State.{State}
use Rattle.rack.specs.Sequences.{OnlyReads}
use Rattle.slice_rack.specs.Slices.{IsOrderly, Slices, seat_of, sectors_of, disk_of}
use Rattle.slice_rack.specs.Sliced.{slices_of}
use Rattle.array_image.specs.Places.{place_of, log_slice}
use Rattle.array_image.specs.States.{is_current}
use Rattle.log_laws.specs.View.{LogView, left_of, names}
use Rattle.log_laws.specs.Opening.{Finds}
use Rattle.pool_scan.specs.declared.Known.{Known}
use Rattle.pool_scan.specs.Scanning.{IsScan}
use Rattle.pool_scan.specs.Choosing.{seat_by}
use Rattle.pool_rest.specs.Standing.{FindsLeft, IsLaid, HasLooked}
use Rattle.pool_rest.specs.Resting.{HaveCause, IsFlagged, HasDisk, HasRefused}
use Rattle.pool_rest.proofs.Agreeing.{told_later, lasting_later}
use Rattle.pool_rest.proofs.Stood.{same_reading}

-- by the scan
pub flagged_rose : (a b : RackView) (known : List Known) (d : ℕ) → IsScan a b known → IsFlagged known d → Rose (a.faults d) (b.faults d)
flagged_rose a b known d scan flagged = (scan.each d flagged.0 flagged.1).gone flagged.2

-- when the pending record was looked for
pub looked_rose : (a b : RackView) (known : List Known) (s : State) (t : Slices) (on gone : List ℕ) (m : LogView) (is_pending : Bool) (damaged : Option ℕ)
    → IsLaid a known s t on → HasLooked a b t on gone m is_pending damaged
    → (p d : ℕ) → names gone p ≡ true → seat_by s known p ≡ Some d → Rose (a.faults d) (b.faults d)
looked_rose a b known s t on gone m is_pending damaged laid looked p d named seat =
    subst (λ e. Rose (a.faults e) (b.faults e)) disk (looked.cause p named).1
  where
    some : 0 < sectors_of t (log_slice p)
    some =
        ltb-true 0 (sectors_of t (log_slice p))
        (and_parts (is_current s p) (nat_lt 0 (sectors_of t (log_slice p))) (sym (laid.places p) ∙ (looked.cause p named).0)).1

    few : p < 16
    few = elim (cases_lt p 16) [ inl low ↦ low | inr past ↦ absurd (omega (arith, some, laid.none (log_slice p) (omega (arith, past)))) ]

    place : place_of (log_slice p) ≡ p
    place = omega arith

    disk : disk_of t (log_slice p) ≡ d
    disk = ap (λ q. unwrap_or (seat_of t q) 0) place ∙ ap (λ o. unwrap_or o 0) (laid.seats p few ∙ seat)

-- by the scan, or then
pub stands_rose : (a b : RackView) (known : List Known) (s : State) (t : Slices) (on gone : List ℕ) (m : LogView) (is_pending : Bool) (damaged : Option ℕ)
    → IsScan a b known → IsLaid a known s t on → HasLooked a b t on gone m is_pending damaged
    → (d : ℕ) → IsFlagged known d ⊎ HasDisk known s gone d → Rose (a.faults d) (b.faults d)
stands_rose a b known s t on gone m is_pending damaged scan laid looked d (inl flagged) = flagged_rose a b known d scan flagged
stands_rose a b known s t on gone m is_pending damaged scan laid looked d (inr has) =
    looked_rose a b known s t on gone m is_pending damaged laid looked has.0 d has.1 has.2

-- after a replay, or in it, or by what was known before it
pub again_rose : {R : Type 0} (seen : R → RackView) (r0 ri rd rb : R) → ri ≡ r0 → SameRack (seen ri) (seen rd) → SameRack (seen rd) (seen rb)
    → (early : List Known) (before seated : State) (gone lost : List ℕ) → HaveCause (seen ri) (seen rd) early seated lost
    → (d : ℕ) → Rose ((seen rd).faults d) ((seen rb).faults d) ⊎ HasRefused early before gone seated lost d
    → Rose ((seen r0).faults d) ((seen rb).faults d) ⊎ (IsFlagged early d ⊎ HasDisk early before gone d)
again_rose seen r0 ri rd rb same first second early before seated gone lost cause d is =
    subst (λ r. Rose ((seen r).faults d) ((seen rb).faults d) ⊎ (IsFlagged early d ⊎ HasDisk early before gone d)) same (of is)
  where
    of : Rose ((seen rd).faults d) ((seen rb).faults d) ⊎ HasRefused early before gone seated lost d
        → Rose ((seen ri).faults d) ((seen rb).faults d) ⊎ (IsFlagged early d ⊎ HasDisk early before gone d)
    of (inl rose) = inl (rose_later (seen ri) (seen rd) (seen rb) d first rose)
    of (inr (inl flagged)) = inr (inl flagged)
    of (inr (inr (inl has))) = inr (inr has)
    of (inr (inr (inr has))) = inl (rose_early (seen ri) (seen rd) (seen rb) d second (cause has.0 d has.1 has.2))

-- What was found of the pending record is what the slices hold still, but for places that were passed over by their disks' faults.
pub found_left : (a b : RackView) (known : List Known) (s : State) (t : Slices) (on gone : List ℕ) (m : LogView) (is_pending : Bool) (damaged : Option ℕ)
    → IsOrderly t → (slices_of t b).fit → OnlyReads a b → IsLaid a known s t on → HasLooked a b t on gone m is_pending damaged
    → FindsLeft a b known s t on m is_pending damaged
found_left a b known s t on gone m is_pending damaged orderly fit reads laid looked = record {
  passed = gone;
  cause = looked_rose a b known s t on gone m is_pending damaged laid looked;
  finds = λ told lasts.
      subst (λ c. Finds m on (left_of on gone) is_pending damaged c) (sym (same_reading t a b orderly fit.1 told lasts reads)) (looked.finds told lasts);
}

-- over calls that were made before too
pub left_since : (a x b : RackView) (known : List Known) (s : State) (t : Slices) (on : List ℕ) (m : LogView) (is_pending : Bool) (damaged : Option ℕ)
    → SameRack a x → FindsLeft x b known s t on m is_pending damaged → FindsLeft a b known s t on m is_pending damaged
left_since a x b known s t on m is_pending damaged stays left = record {
  passed = left.passed;
  cause = λ p d named seat. rose_later a x b d stays (left.cause p d named seat);
  finds = λ told lasts. left.finds (told_later a x stays told) (lasting_later a x stays lasts);
}
