-- The drive of a place is replaced by a disk of other units, so that the pool's plan is to grow by it.
use Rattle.std.specs.Prelude.{◌≡◌, ℕ, ◌<◌, List, length, None, Result, Ok, Err, IfErr, OnOk}
use Rattle.rack.specs.Seen.{Rose}
use Rattle.pool_state.specs.declared.contents.Plan.TheVariants.{Replace}
use Rattle.pool.specs.declared.replacing.GrowFault.{GrowFault}
use Rattle.pool.specs.declared.replacing.GrowFault.TheVariants.{Gone, NotWhole}
use Rattle.pool.specs.Adding.{IsTakenIn}
use Rattle.pool.specs.Continuing.{Continues}
use Rattle.pool.specs.Keeping.{Raises}
use Rattle.pool.specs.Moment.{IsNamed, MarksBut, Moment, moment_of}
use Rattle.pool.specs.Replaced.{HasMarkedOther, IsAnswer, IsDeclined, IsOfDrive, NamesDisk, faults_before}
use Rattle.pool.specs.Replacing.{IsLarger}
use Rattle.pool.specs.View.{View, book}

-- A disk, which isn't a current drive's, is taken in at a place by a plan to grow. Or it isn't: it refused a call, or another drive was found gone.
pub record TakesLarger (p q : Moment) (place disk : ℕ) (result : Result (Unit {0}) GrowFault) : Type 0 where
  pub answer : IsAnswer None result
  pub gone : result ≡ Err Gone → Rose (faults_before p disk) (q.faults disk)
  pub declined : IfErr result (IsDeclined p q place)
  pub taken : OnOk result (IsTakenIn p q place (Replace place) disk)

-- So a call does. Drives are marked only where they refused a call; where the new one is, in the place of the one that gave way, `taken` says it of its disk.
pub record EnlargesBy (x y : View) (place disk : ℕ) (result : Result (Unit {0}) GrowFault) : Type 0 where
  pub continues : Continues x y
  pub marks : MarksBut (λ k. (result ≡ Ok tt) × (k ≡ place)) (moment_of x) (moment_of y)
  pub takes : TakesLarger (moment_of x) (moment_of y) place disk result

-- Nothing was against it by the book before, and its units are others than those of the place's drive. Where another drive was found gone, it is marked.
pub record Enlarges (x y : View) (place disk : ℕ) (result : Result (Unit {0}) GrowFault) : Type 0 where
  pub larger : IsLarger x.linear (book x) place (y.bay.sectors disk)
  pub raises : Raises 1 x y
  pub not_whole : result ≡ Err NotWhole → HasMarkedOther (moment_of x) (moment_of y) place
  pub by : EnlargesBy x y place disk result

-- ---- by the name of a disk

-- The name's disk is to be the drive of a place, which the list has: it is no current drive's, its units are others, and nothing is against it.
pub record IsEnlarging (p q : Moment) (place : ℕ) (name : List ℕ) : Type 0 where
  pub listed : place < length p.book.state.drives.items
  pub other : IsOfDrive p name → ⊥
  pub disk : ℕ
  pub named : IsNamed q name disk
  pub larger : IsLarger p.linear p.book place (q.sectors disk)

-- It is taken in, or it isn't.
pub record EnlargesNamed (p q : Moment) (place : ℕ) (name : List ℕ) (result : Result (Unit {0}) GrowFault) : Type 0 where
  pub names : NamesDisk p q name
  pub not_whole : result ≡ Err NotWhole → HasMarkedOther p q place
  pub takes : (d : ℕ) → IsNamed q name d → TakesLarger p q place d result

-- So a call does, which attaches the disk where it isn't yet. Of contents nothing is said.
pub record EnlargesDrive (x y : View) (place : ℕ) (name : List ℕ) (result : Result (Unit {0}) GrowFault) : Type 0 where
  pub continues : Continues x y
  pub raises : Raises 1 x y
  pub marks : MarksBut (λ k. (result ≡ Ok tt) × (k ≡ place)) (moment_of x) (moment_of y)
  pub enlarging : IsEnlarging (moment_of x) (moment_of y) place name
  pub enlarges : EnlargesNamed (moment_of x) (moment_of y) place name result
