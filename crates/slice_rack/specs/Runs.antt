-- What calls of a rack of slices do to the rack below.
use Rattle.std.specs.Prelude.{◌≡◌, ℕ, ◌+◌, ◌<◌, ◌≤◌, ◌^◌, List, refl}
use Rattle.std.proofs.Common.{sym, ◌∙◌, subst}
use Rattle.rack.specs.Seen.{RackView, SameRack}
use Rattle.rack.specs.Sequences.{WritesOnly}
use Rattle.rack.proofs.Writing.{only_none, only_then}
use Rattle.slice_rack.specs.Slices.{Slices, disk_of, first_of, sectors_of}
use Rattle.slice_rack.specs.Sliced.{IsInside}

-- a sector of a disk that is one of a slice
pub record IsSliced (t : Slices) (disk sector : ℕ) (v : List ℕ) : Type 0 where
  pub slice : ℕ
  pub at : ℕ
  pub within : at < sectors_of t slice
  pub disk_is : disk ≡ disk_of t slice
  pub sector_is : sector ≡ first_of t slice + at

-- The tables stay, the rack below did its own, and of its disks the slices' sectors alone were written.
pub record Runs (t u : Slices) (a b : RackView) (own : Type 0) : Type 0 where
  pub tables : u ≡ t
  pub below : own
  pub apart : a.fit → IsInside t a → WritesOnly a b (IsSliced t)

-- slices that lay inside the disks do so after a call
pub inside_still : {t : Slices} {a b : RackView} → SameRack a b → IsInside t a → IsInside t b
inside_still {t} stays inside = record {
  small = λ disk below. subst (λ n. n < 2 ^ 48) (sym (stays.sectors disk)) (inside.small disk (subst (λ n. disk < n) stays.disks below));
  seats = λ place disk seat. subst (λ n. disk < n) (sym stays.disks) (inside.seats place disk seat);
  slices = λ d some. subst (λ n. first_of t d + sectors_of t d ≤ n) (sym (stays.sectors (disk_of t d))) (inside.slices d some);
}

-- no call
pub runs_none : (t : Slices) (a : RackView) (own : Type 0) → own → Runs t t a a own
runs_none t a own is = record { tables = refl; below = is; apart = λ fit inside. only_none a (IsSliced t) fit }

-- calls in a row
pub runs_join : (t u w : Slices) (a b c : RackView) (one two both : Type 0) → Runs t u a b one → Runs u w b c two → both → Runs t w a c both
runs_join t u w a b c one two both first second own = record {
  tables = second.tables ∙ first.tables;
  below = own;
  apart = λ fit inside.
      let early : WritesOnly a b (IsSliced t) = first.apart fit inside in
      let still : IsInside u b = subst (λ k. IsInside k b) (sym first.tables) (inside_still early.stays inside) in
      only_then (IsSliced t) early (subst (λ k. WritesOnly b c (IsSliced k)) first.tables (second.apart early.stays.fit still));
}
