use Rattle.std.proofs.Common.{◌≡◌, ℕ, ◌<◌, None, Some}
use Rattle.rack.specs.Sequences.{OnlyReads}
use Rattle.pool_check.specs.Drives.{AreCopied, AreDrivesOf, Drives, flag_by, found_with, seats_by}
use Rattle.pool_check.specs.Layers.{AreRead}
use Rattle.pool_check.specs.Settling.{IsAgreement}
use Rattle.pool_check.specs.Slots.{IsSoundDrive}
use Rattle.pool_check.specs.Refusing.{damage_with, is_well}
use Rattle.pool_check.proofs.drives.check_places.Given as goal

abbrev pub invariant-loop-place : goal.invariant-loop-place
invariant-loop-place g l = record {
  only : OnlyReads (g.R.Rack.seen l.initial.rack) (g.R.Rack.seen l.rack);
  sound :
      (o : Drives) → AreDrivesOf (g.R.Rack.seen l.initial.rack) (seats_by l.seats) o → AreCopied l.scan.disks.items (seats_by l.seats) o
      → AreRead (found_with l.state (seats_by l.seats) o) l.layers
      → (p : ℕ) → p < l.place → damage_with (is_well l.bad) (found_with l.state (seats_by l.seats) o) p ≡ None;
  drives :
      (p d : ℕ) → p < l.place → seats_by l.seats p ≡ Some d → IsSoundDrive l.layers p ((g.R.Rack.seen l.initial.rack).sectors d);
  agreed : (p d : ℕ) → p < l.place → seats_by l.seats p ≡ Some d → IsAgreement (g.R.Rack.seen l.initial.rack) d (flag_by l.agreed p);
  runs : g.R.Rack.runs l.initial.rack l.rack;
}
