-- What each call on files with buffers does, between what they show before it and after it.
use Rattle.std.specs.Prelude.{◌≡◌, ◌≢◌, ◌⊎◌, ℕ, ◌+◌, ◌<◌, ◌≤◌, List, Result, OnOk, OnErr, IfOk, IfErr, IsOk}
use Rattle.rack.specs.declared.Gone.{Gone}
use Rattle.rack.specs.declared.AttachFault.{AttachFault}
use Rattle.rack.specs.Values.{IsSingle}
use Rattle.rack.specs.Seen.{RackView, IsLive, Rose}
use Rattle.rack.specs.Calls.{KeepsAll, Writes}
use Rattle.rack.specs.Sequences.{OnlyReads}
use Rattle.rack.specs.Shelf.{Attaches, Shelf}
use Rattle.buffered_bay.specs.View.{View}

-- a refusal comes only where that disk's faults rose, and never from files that are steady
pub record HasFault (a b : RackView) (disk : ℕ) {X : Type 0} (result : Result X Gone) : Type 0 where
  pub gone : IfErr result (λ e. (e.disk ≡ disk) × Rose (a.faults disk) (b.faults disk))
  pub steady : a.steady → IsOk result

-- no file changes
abbrev pub KeepsStored : View → View → Type 0
KeepsStored a b = (d s : ℕ) → IsLive a.seen b.seen d s → b.stored d s ≡ a.stored d s

-- no buffer changes
abbrev pub KeepsBuffers : View → View → Type 0
KeepsBuffers a b = (d p : ℕ) → b.buffer d p ≡ a.buffer d p

-- A value is put into a place of a disk's buffer, for a sector. The file may take it at once or later. Refused, nothing changes.
pub record Puts (a b : View) (disk sector place : ℕ) (from : List ℕ) {X : Type 0} (result : Result X Gone) : Type 0 where
  pub writes : Writes a.seen b.seen disk sector from result
  pub failed : OnErr result (KeepsAll a.seen b.seen)
  pub stored : (d s : ℕ) → IsLive a.seen b.seen d s → (d ≢ disk) ⊎ (s ≢ sector) → b.stored d s ≡ a.stored d s
  pub others : (d p : ℕ) → (d ≢ disk) ⊎ (p ≢ place) → b.buffer d p ≡ a.buffer d p
  pub put : OnOk result (a.seen.told disk → b.buffer disk place ≡ from)
  pub unput : OnErr result ((b.buffer disk place ≡ a.buffer disk place) × KeepsStored a b)

-- a sector is read from its file
pub record ReadsFile (a b : View) (disk sector : ℕ) (into : List ℕ) {X : Type 0} (result : Result X Gone) : Type 0 where
  pub reads : OnlyReads a.seen b.seen
  pub fault : HasFault a.seen b.seen disk result
  pub stored : KeepsStored a b
  pub buffers : KeepsBuffers a b
  pub value : OnOk result (a.seen.told disk → into ≡ a.stored disk sector)

-- Sectors in a row are read into the first places of a disk's buffer. Refused, that buffer may have anything.
pub record Loads (a b : View) (disk sector count : ℕ) {X : Type 0} (result : Result X Gone) : Type 0 where
  pub reads : OnlyReads a.seen b.seen
  pub fault : HasFault a.seen b.seen disk result
  pub stored : KeepsStored a b
  pub others : (d p : ℕ) → d ≢ disk → b.buffer d p ≡ a.buffer d p
  pub loaded : OnOk result (a.seen.told disk → (p : ℕ) → p < count → b.buffer disk p ≡ a.stored disk (sector + p))

-- Places in a row of a disk's buffer are written to sectors in a row, whose current values they have. Refused, each of these
-- sectors may have any value that it holds.
pub record Stores (a b : View) (disk sector place count : ℕ) {X : Type 0} (result : Result X Gone) : Type 0 where
  pub reads : OnlyReads a.seen b.seen
  pub fault : HasFault a.seen b.seen disk result
  pub buffers : KeepsBuffers a b
  pub others :
      (d s : ℕ) → IsLive a.seen b.seen d s → (d ≢ disk) ⊎ (s < sector) ⊎ (sector + count ≤ s)
      → b.stored d s ≡ a.stored d s
  pub stored : OnOk result (a.seen.told disk → (p : ℕ) → p < count → b.stored disk (sector + p) ≡ a.buffer disk (place + p))

-- a disk is synced: each sector whose file has its current value holds that one alone
pub record SyncsFile (a b : View) (disk : ℕ) {X : Type 0} (result : Result X Gone) : Type 0 where
  pub reads : OnlyReads a.seen b.seen
  pub fault : HasFault a.seen b.seen disk result
  pub stored : KeepsStored a b
  pub buffers : KeepsBuffers a b
  pub done :
      OnOk
      result
      ((s : ℕ) → IsLive a.seen b.seen disk s → a.stored disk s ≡ (a.seen.held disk s).current
      → IsSingle (b.seen.held disk s))

-- a file is attached: it has the current values of its sectors, and those of before stay as they are
pub record AttachesFile (a b : View) (s t : Shelf) (name : List ℕ) (result : Result ℕ AttachFault) : Type 0 where
  pub attaches : Attaches a.seen b.seen s t name result
  pub buffers : (d p : ℕ) → d < a.seen.disks → b.buffer d p ≡ a.buffer d p
  pub stored : (d s : ℕ) → d < a.seen.disks → b.stored d s ≡ a.stored d s
  pub whole :
      IfOk result (λ d. b.seen.told d → (s : ℕ) → s < b.seen.sectors d → b.stored d s ≡ (b.seen.held d s).current)
