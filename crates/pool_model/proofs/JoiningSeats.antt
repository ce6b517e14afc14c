-- At a stop in which a new drive joins each current place has its drive, where disks stand for places as they are to.
use Rattle.std.proofs.Common.{◌≡◌, ◌≢◌, ◌⊎◌, ℕ, true, Some, sym, ap, ◌∙◌, inl, inr, arith}
use Rattle.std.proofs.lemmas.Bool.{cases_eq}
use Rattle.rack.specs.Seen.{Image}
use Rattle.pool_state.specs.declared.contents.State.{State}
use Rattle.array_image.specs.States.{is_current}
use Rattle.array_core.proofs.Stripped.{some_same}
use Rattle.raid_laws.proofs.Noted.{current_few}
use Rattle.pool_image.specs.Disks.{Identities, identities_of, seat_of, stands_for}
use Rattle.pool_image.specs.Drives.{Found}
use Rattle.pool_model.specs.InService.{IsOutset}
use Rattle.pool_model.specs.Laid.{GoesBy, NamesJoining}
use Rattle.pool_model.proofs.Found.{seated_below}
use Rattle.pool_model.proofs.Seats.{seat_leads}

module _ (h : Found) (v next : State) (place : ℕ) (i : Image) (outset : IsOutset h) (says : NamesJoining h v next place i) where
  abbrev ids : Identities
  ids = identities_of h.disks i

  seated_or : (d : ℕ) → ((p : ℕ) × (h.seats p ≡ Some d)) ⊎ ((p : ℕ) → h.seats p ≡ Some d → ⊥)
  seated_or d = elim (seated_below h.seats d 16) [
    | inl one ↦ inl one
    | inr none ↦ inr (λ p seat. none p (current_few h.state p outset.places (outset.seated p d seat).current) seat)
  ]

  -- another disk that stands for a drive's place is no drive
  none_other : (r : State) (p d x : ℕ) → GoesBy v next place r p → is_current r p ≡ true → h.seats p ≡ Some d → x ≢ d → stands_for r (ids x) ≡ Some p
      → (k : ℕ) → h.seats k ≡ Some x → ⊥
  none_other r p d x after now seat other stands k there = elim (cases_eq k p) [
    | inl same ↦ other (some_same x d (sym there ∙ ap h.seats same ∙ seat))
    | inr apart ↦ says.apart r p k x after now there apart stands
  ]

  pub joining_seats : (r : State) (p d : ℕ) → GoesBy v next place r p → is_current r p ≡ true → h.seats p ≡ Some d → seat_of r h.disks ids p ≡ Some d
  joining_seats r p d after now seat =
      seat_leads r h.disks ids p d now (outset.seated p d seat).low (says.own r p d after now seat)
      (λ x less stands. says.before r p d x after now seat (none_other r p d x after now seat (λ same. omega (arith, less, same)) stands) less stands)
      (λ x late low stands. says.behind r p d x after now seat (none_other r p d x after now seat (λ same. omega (arith, late, same)) stands) late low stands)
