-- Refusals by their causes.
use Rattle.std.proofs.Common.{◌≡◌, ◌≢◌, ℕ, ◌<◌, ◌≤◌, ◌&&◌, Bool, true, false, not, if◌then◌else◌, List, Option, Some, None, option_map, inl, inr, refl, sym, ap, subst, ◌∙◌, lt-ltb, le-ltb}
use Rattle.std.specs.Option.{option_or}
use Rattle.std.proofs.lemmas.Bool.{both_ways, cases_lt}
use Rattle.std.proofs.lemmas.Option.{none-some}
use Rattle.rack.specs.Seen.{RackView}
use Rattle.pool_state.specs.declared.contents.State.{State}
use Rattle.log_laws.specs.View.{names}
use Rattle.pool_image.specs.Disks.{disks_of}
use Rattle.pool_image.specs.Meaning as meaning
use Rattle.pool_image.specs.Meaning.{refusal_of}
use Rattle.pool_scan.specs.Scanning.{now_in}
use Rattle.pool_rest.specs.Standing.{IsMeant}
use Rattle.pool_rest.specs.declared.standing.FindFault.{FindFault}
use Rattle.pool_rest.specs.declared.standing.FindFault.TheVariants as finding
use Rattle.pool_scan.specs.declared.Known.{Known}
use Rattle.pool_scan.specs.Choosing.{seat_by}
use Rattle.pool_check.specs.declared.CheckFault.{CheckFault}
use Rattle.pool_check.specs.declared.CheckFault.TheVariants.{Absent, Damaged, TooFew, DirtyDegraded}
use Rattle.pool_check.specs.declared.Part.TheVariants.{Log}
use Rattle.pool_check.specs.Drives.{AreCopied, AreDrivesOf, Drives, Loses, found_with, seats_by}
use Rattle.pool_check.specs.Refusing.{CountsAbsent, absent_among, is_well, refusal_by, refused_with}
use Rattle.assembler.specs.declared.refusal.Refusal.{Refusal}
use Rattle.assembler.specs.declared.refusal.Refusal.TheVariants as refusal
use Rattle.assembler.specs.Refusing.{FailsCheck, by_check, by_finding, is_early, meant_by, seats_left}

-- a check's fault says the meaning's refusal
pub meant_check : (fault : CheckFault) → Some (refusal_by fault) ≡ meant_by (by_check fault)
meant_check (Absent count) = refl
meant_check (Damaged place part) = refl
meant_check (TooFew array) = refl
meant_check (DirtyDegraded array) = refl

-- and so does that of a search for the pool
pub meant_finding : (x : RackView) (fault : FindFault) (why : Refusal) → why ≡ by_finding fault → why ≢ refusal.Memory → IsMeant x fault
    → refusal_of (disks_of x) (now_in x) ≡ meant_by why
meant_finding x finding.NoPool why is some meant = meant ∙ sym (ap meant_by is)
meant_finding x finding.TwoPools why is some meant = meant ∙ sym (ap meant_by is)
meant_finding x finding.Memory why is some meant = absurd (some is)

-- neither says that an array is bad
pub check_early : (fault : CheckFault) → is_early (by_check fault) ≡ true
check_early (Absent count) = refl
check_early (Damaged place part) = refl
check_early (TooFew array) = refl
check_early (DirtyDegraded array) = refl

pub finding_sound : (fault : FindFault) (array : ℕ) → by_finding fault ≡ refusal.BadVolume array → ⊥
finding_sound finding.NoPool array is = both_ways true (ap is_early is) refl
finding_sound finding.TwoPools array is = both_ways true (ap is_early is) refl
finding_sound finding.Memory array is = none-some (meaning.bad_volume array) (ap meant_by is)

pub memory_sound : (array : ℕ) → refusal.Memory ≡ refusal.BadVolume array → ⊥
memory_sound array is = none-some (meaning.bad_volume array) (ap meant_by is)

-- ---- the check of the drives, of which some places had gone before

module _ (x y : RackView) (known : List Known) (s : State) (gone : List ℕ) (seats now : List (Option ℕ))
    (each : (p : ℕ) → p < 16 → seats_by seats p ≡ (if names gone p then None else seat_by s known p))
    (beyond : (p : ℕ) → 16 ≤ p → seats_by seats p ≡ None) (loses : Loses x y (seats_by seats) (seats_by now)) where
  seats_are : (p : ℕ) → seats_by seats p ≡ seats_left known s gone p
  seats_are p = elim (cases_lt p 16) [
    | inl low ↦ each p low ∙ of (names gone p) ∙ sym (ap (λ (b : Bool). if b && not (names gone p) then seat_by s known p else None) (lt-ltb p 16 low))
    | inr past ↦ beyond p past ∙ sym (ap (λ (b : Bool). if b && not (names gone p) then seat_by s known p else None) (le-ltb p 16 past))
  ]
    where
      of : (b : Bool) → (if b then None else seat_by s known p) ≡ (if not b then seat_by s known p else None)
      of true = refl
      of false = refl

  pub loses_left : Loses x y (seats_left known s gone) (seats_by now)
  loses_left = subst (λ before. Loses x y before (seats_by now)) (λ i p. seats_are p i) loses

  -- a fault of it
  pub fails_check : (bad : Option ℕ) (fault : CheckFault)
      → ((o : Drives) → AreDrivesOf x (seats_by now) o → AreCopied known (seats_by now) o
      → refused_with (is_well bad) None (found_with s (seats_by now) o) ≡ Some (refusal_by fault))
      → CountsAbsent (absent_among s (seats_by now)) fault → FailsCheck x y known s gone bad (by_check fault)
  fails_check bad fault exact counts =
      record {
        fault = fault;
        said = refl;
        seats = seats_by now;
        loses = loses_left;
        counts = counts;
        exact = λ o are copied. ap (λ r. option_or r (option_map (λ place. meaning.damaged place meaning.in_log) bad)) (exact o are copied);
      }

  -- a log that isn't well formed on a drive that went in it
  pub fails_log : (bad : Option ℕ) (place : ℕ) → bad ≡ Some place
      → ((o : Drives) → AreDrivesOf x (seats_by now) o → AreCopied known (seats_by now) o
      → refused_with (is_well bad) None (found_with s (seats_by now) o) ≡ None)
      → absent_among s (seats_by now) ≤ 1 → FailsCheck x y known s gone bad (refusal.Damaged place Log)
  fails_log bad place is exact few =
      record {
        fault = Damaged place Log;
        said = refl;
        seats = seats_by now;
        loses = loses_left;
        counts = few;
        exact = λ o are copied.
            ap (λ r. option_or r (option_map (λ p. meaning.damaged p meaning.in_log) bad)) (exact o are copied)
            ∙ ap (option_map (λ p. meaning.damaged p meaning.in_log)) is;
      }
