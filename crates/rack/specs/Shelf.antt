-- What a bay can attach, and what attaching does.
use Rattle.std.specs.Prelude.{◌≡◌, ◌≢◌, ◌↔◌, ℕ, ◌+◌, ◌<◌, ◌≤◌, List, [], ◌∷◌, ◌++◌, slice_get, Option, Some, None, Result, Err, IfOk, OnErr, refl}
use Rattle.std.proofs.Common.{◌∙◌}
use Rattle.rack.specs.declared.AttachFault.{AttachFault}
use Rattle.rack.specs.declared.AttachFault.TheVariants.{Failed, Twice}
use Rattle.rack.specs.Values.{only}
use Rattle.rack.specs.Seen.{Image, RackView, Rose}

-- a disk that waits to be attached: its sectors and their contents
pub record Waiting : Type 0 where
  pub sectors : ℕ
  pub contents : ℕ → List ℕ

-- a bay's names
pub record Shelf : Type 1 where
  -- the attached names, in the order of their disks
  pub names : List (List ℕ)
  -- the names that aren't attached and can be
  pub ready : List ℕ → Option Waiting
  -- `ready` is told
  pub told : Type 0
  -- the bay's own count of faults, which never falls
  pub faults : ℕ

-- no name stands twice
abbrev pub Differ : List (List ℕ) → Type 0
Differ names = (i j : ℕ) (name : List ℕ) → slice_get names i ≡ Some name → slice_get names j ≡ Some name → i ≡ j

-- the names, and what waits, are as before
pub record KeepsShelf (s t : Shelf) : Type 0 where
  pub names : t.names ≡ s.names
  pub ready : (n : List ℕ) → t.ready n ≡ s.ready n
  pub told : s.told → t.told
  pub faults : t.faults ≡ s.faults

-- nothing was called
pub keeps_shelf_same : (s : Shelf) → KeepsShelf s s
keeps_shelf_same s = record { names = refl; ready = λ n. refl; told = λ told. told; faults = refl }

-- what no call changes, calls in a row don't
pub keeps_shelf_then : (s t u : Shelf) → KeepsShelf s t → KeepsShelf t u → KeepsShelf s u
keeps_shelf_then s t u first second =
    record {
      names = second.names ∙ first.names;
      ready = λ n. second.ready n ∙ first.ready n;
      told = λ told. second.told (first.told told);
      faults = second.faults ∙ first.faults;
    }

-- what is known of an old disk stays
pub record SameDisk (a b : RackView) (d : ℕ) : Type 0 where
  pub sectors : b.sectors d ≡ a.sectors d
  pub held : (s : ℕ) → b.held d s ≡ a.held d s
  pub faults : b.faults d ≡ a.faults d
  pub told : a.told d → b.told d

-- the contents of a disk are these
abbrev pub Shows : ℕ → Waiting → Image → Type 0
Shows d w c = (s : ℕ) → s < w.sectors → c d s ≡ w.contents s

-- the new disk has the contents that waited, with one value in each sector, now and at all moments before
pub record IsFrom (a b : RackView) (d : ℕ) (w : Waiting) : Type 0 where
  pub sectors : b.sectors d ≡ w.sectors
  pub held : (s : ℕ) → s < w.sectors → b.held d s ≡ only (w.contents s)
  pub told : b.told d
  pub shown : a.traced → (k : ℕ) (c : Image) → k ≤ a.clock → b.stops k c → Shows d w c
  pub stops : a.traced → (k : ℕ) (c : Image) → k ≤ a.clock → a.stops k c → Shows d w c → b.stops k c

-- a disk is added after the old ones, which stay as they were; it has refused no call yet
pub record Adds (a b : RackView) (s t : Shelf) (name : List ℕ) (d : ℕ) : Type 0 where
  pub number : d ≡ a.disks
  pub disks : b.disks ≡ a.disks + 1
  pub clock : b.clock ≡ a.clock
  pub others : (e : ℕ) → e < a.disks → SameDisk a b e
  pub unfaulted : b.faults d ≡ 0
  pub traced : a.traced → s.told → b.traced
  pub past : a.traced → (k : ℕ) (c : Image) → k ≤ a.clock → b.stops k c → a.stops k c
  -- what a stop leaves on the old disks it still may leave, with contents of the new one beside it
  pub kept :
      a.traced → s.told → (k : ℕ) (c : Image) → k ≤ a.clock → a.stops k c
      → (e : Image) × b.stops k e × ((d s : ℕ) → d < a.disks → e d s ≡ c d s)
  pub steady : a.steady → b.steady
  pub waited : s.told → (w : Waiting) × (s.ready name ≡ Some w) × IsFrom a b d w
  pub names : t.names ≡ s.names ++ name ∷ []
  pub gone : t.ready name ≡ None
  pub ready : (n : List ℕ) → n ≢ name → t.ready n ≡ s.ready n
  pub told : s.told → t.told

-- all is as before
pub record IsSame (a b : RackView) (s t : Shelf) : Type 0 where
  pub disks : b.disks ≡ a.disks
  pub clock : b.clock ≡ a.clock
  pub others : (e : ℕ) → SameDisk a b e
  pub traced : a.traced → b.traced
  pub steady : a.steady → b.steady
  pub past : (k : ℕ) (c : Image) → b.stops k c → a.stops k c
  pub kept : (k : ℕ) (c : Image) → a.stops k c → b.stops k c
  pub names : t.names ≡ s.names
  pub ready : (n : List ℕ) → t.ready n ≡ s.ready n
  pub told : s.told → t.told

-- attaching a name: one disk more, or a refusal by its cause that changes nothing but the count
pub record Attaches (a b : RackView) (s t : Shelf) (name : List ℕ) (result : Result ℕ AttachFault)
    : Type 0 where
  pub faults : s.faults ≤ t.faults
  pub ok : IfOk result (Adds a b s t name)
  pub failed : result ≡ Err Failed → Rose s.faults t.faults
  pub twice : (d : ℕ) → (result ≡ Err (Twice d)) ↔ (slice_get s.names d ≡ Some name)
  pub refused : OnErr result (IsSame a b s t)
