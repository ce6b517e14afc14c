-- What holds of seats and drives after reads, and what went since.
use Rattle.std.proofs.Common.{◌≡◌, ℕ, ◌<◌, ◌^◌, sym, subst, ◌∙◌}
use Rattle.rack.specs.Seen.{RackView, SameRack}
use Rattle.rack.specs.Sequences.{OnlyReads}
use Rattle.rack.specs.Joins.{rose_early, rose_later}
use Rattle.gpt_table.specs.Changes.{the_table}
use Rattle.pool_state.specs.declared.contents.State.{State}
use Rattle.pool_image.specs.Disks.{Seats}
use Rattle.pool_scan.proofs.Sights.{agrees_then}
use Rattle.pool_check.specs.declared.CheckFault.{CheckFault}
use Rattle.pool_check.specs.declared.Halt.{Halt}
use Rattle.pool_check.specs.declared.Halt.TheVariants.{Fault, Went}
use Rattle.pool_check.specs.Drives.{AreDrivesOf, Drives, Goes, IsSeating}
use Rattle.pool_check.specs.Refusing.{Halts}

pub seating_then : {x y : RackView} (s : State) (seats : Seats) → OnlyReads x y → IsSeating x s seats → IsSeating y s seats
seating_then {x} {y} s seats reads is = record {
  inside = λ place d at. subst (λ n. d < n) (sym reads.stays.disks) (is.inside place d at);
  current = is.current;
  small = λ d inside.
      subst (λ n. n < 2 ^ 48) (sym (reads.stays.sectors d)) (is.small d (subst (λ n. d < n) reads.stays.disks inside));
}

pub drives_then : {x y : RackView} (s : State) (seats : Seats) (o : Drives) → OnlyReads x y → IsSeating x s seats → AreDrivesOf x seats o
    → AreDrivesOf y seats o
drives_then {x} {y} s seats o reads seating is = record {
  told = λ place d at. reads.stays.told d (is.told place d at);
  sectors = λ place d at. is.sectors place d at ∙ sym (reads.stays.sectors d);
  contents = λ place d at.
      agrees_then {x = x} {y = y} d (o.contents d) reads (seating.inside place d at) (is.told place d at) (is.contents place d at);
  tables = λ place d at.
      subst (λ n. (o.identities d).table ≡ the_table n (o.contents d)) (sym (reads.stays.sectors d)) (is.tables place d at);
}

-- a disk that went in later calls went since, and one that went in earlier calls has gone
pub goes_later : (x y z : RackView) (seats : Seats) (place : ℕ) → SameRack x y → Goes y z seats place → Goes x z seats place
goes_later x y z seats place stays goes = (goes.0, goes.1, rose_later x y z goes.0 stays goes.2)

pub goes_early : (x y z : RackView) (seats : Seats) (place : ℕ) → SameRack y z → Goes x y seats place → Goes x z seats place
goes_early x y z seats place stays goes = (goes.0, goes.1, rose_early x y z goes.0 stays goes.2)

-- the same of a check's end, whose fault says what it has to
pub halts_later : (x y z : RackView) (seats : Seats) {P Q : CheckFault → Type 0} (halt : Halt) → SameRack x y
    → ((fault : CheckFault) → P fault → Q fault) → Halts y z seats P halt → Halts x z seats Q halt
halts_later x y z seats (Fault fault) stays says holds = says fault holds
halts_later x y z seats (Went place) stays says goes = goes_later x y z seats place stays goes
