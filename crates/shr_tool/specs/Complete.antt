-- How a run comes out where nothing is against it: what the words ask for is done, unless memory was wanting or a sector or a work of the pool is spent.
use Rattle.std.specs.Prelude.{◌≡◌, ◌⊎◌, ℕ, ◌*◌, ◌<◌, ◌≤◌, ◌^◌, Bool, true, false, List, [], ◌∷◌, length, slice_get, Option, Some, Ok}
use Rattle.std.specs.List.{list_any}
use Rattle.std.proofs.Common.{inl, inr}
use Rattle.rack.specs.Seen.{Image, RackView, Rose}
use Rattle.rack.specs.Shelf.{Differ, Shelf, Waiting}
use Rattle.flat_array.specs.Array.{FlatArray}
use Rattle.pool_format.specs.Plan.{units_on}
use Rattle.pool_image.specs.Disks.{Disks}
use Rattle.pool_image.specs.Drives.{Found, found}
use Rattle.pool_image.specs.Meaning.{Volume, meaning}
use Rattle.pool_model.specs.Pools.{IsSoundPool}
use Rattle.pool_rest.specs.SoundLogs.{HasSoundLogs}
use Rattle.shr_script.specs.declared.Command.TheVariants.{Replace, Add}
use Rattle.shr_script.specs.Line.{Line}
use Rattle.shr_script.specs.Script.{script_of}
use Rattle.shr_words.specs.declared.forms.Form.{Form}
use Rattle.shr_words.specs.declared.forms.Form.TheVariants.{Layout, Create, Serve, Import, Export, Status as StatusOf, Examine, Trial}
use Rattle.shr_words.specs.LayoutWords.{units_asked}
use Rattle.shr_tool.specs.declared.opening.Task.{Task}
use Rattle.shr_tool.specs.declared.opening.Task.TheVariants as tasks
use Rattle.shr_tool.specs.declared.status.Status.{Status}
use Rattle.shr_tool.specs.declared.status.Status.TheVariants.{Done, Memory, Spent}
use Rattle.shr_tool.specs.Entry.{IsEntryImage, contents_in, sectors_in, waiting_at}
use Rattle.shr_tool.specs.Forms.{uses_disks}
use Rattle.shr_tool.specs.Online.{Online, OnlineOutcome, online_runs, online_seen, online_shelf}
use Rattle.shr_tool.specs.Opened.{IsMeant, OpenOutcome}
use Rattle.shr_tool.specs.Run.{OnDisks}

-- Nothing outside the disks is against a run: the names of disks differ, the bay attached each, and neither the source nor the sink failed.
pub record NothingFails (form : Form) (names : List (List ℕ)) (s t : Shelf) (source source' sink sink' : ℕ) : Type 0 where
  pub differ : uses_disks (Some form) ≡ true → Differ names
  pub attaching : Rose s.faults t.faults → ⊥
  pub taking : Rose source source' → ⊥
  pub putting : Rose sink sink' → ⊥

-- no disk refused a call since it was attached
abbrev pub NoneRefused : RackView → Type 0
NoneRefused y = (d : ℕ) → Rose 0 (y.faults d) → ⊥

-- ---- layouts, new pools and images

-- drives that have a plan: 2 to 16, of a unit or more each
pub record HavePlan (units : List ℕ) : Type 0 where
  pub least : 2 ≤ length units
  pub most : length units ≤ 16
  pub some : (drive own : ℕ) → slice_get units drive ≡ Some own → 0 < own

-- it was done, unless memory was wanting
abbrev pub IsDone : Status → Type 0
IsDone status = (status ≡ Done) ⊎ (status ≡ Memory)

-- ---- what waits

-- disks of these sizes and contents are those that wait under some names
pub record AreEntry (ready : List ℕ → Option Waiting) (names : List (List ℕ)) (disks : Disks) (c : Image) : Type 0 where
  pub count : disks.count ≡ length names
  pub sectors : (d : ℕ) → d < length names → disks.sectors d ≡ sectors_in (waiting_at ready names d)
  pub contents : IsEntryImage ready names c

-- disks hold a sound pool, with sound logs, which means one volume of so many sectors
pub record HoldPool (disks : Disks) (c : Image) (size : ℕ) : Type 0 where
  pub pool : Found
  pub found_is : found disks c ≡ Some pool
  pub sound : IsSoundPool pool
  pub logs : HasSoundLogs disks c
  pub volume : Volume
  pub meant : meaning disks c ≡ Some (volume ∷ [])
  pub size_is : volume.sectors ≡ size

-- What waits under some names is a sound pool, of whole sectors, which isn't refused: it means a volume of so many sectors.
pub record IsSoundEntry (ready : List ℕ → Option Waiting) (names : List (List ℕ)) (size : ℕ) : Type 0 where
  pub whole : (d s : ℕ) → d < length names → s < sectors_in (waiting_at ready names d) → length (contents_in (waiting_at ready names d) s) ≡ 512
  pub holds : (disks : Disks) (c : Image) → AreEntry ready names disks c → HoldPool disks c size

-- ---- what is done on a pool

-- the bay when the pool was opened, or refused
abbrev pub opening_of :
    {R : Type 0} (seen : R → RackView) (shelf : R → Shelf) (runs : R → R → Type 0) (bay after : R) (task : Task) (text rest out out' : List ℕ) (status : Status)
    → OpenOutcome seen shelf runs bay after task text rest out out' status → R
opening_of seen shelf runs bay after task text rest out out' status (inl refused) = after
opening_of seen shelf runs bay after task text rest out out' status (inr opened) = opened.opened

-- it was opened
abbrev pub IsOpened :
    {R : Type 0} (seen : R → RackView) (shelf : R → Shelf) (runs : R → R → Type 0) (bay after : R) (task : Task) (text rest out out' : List ℕ) (status : Status)
    → OpenOutcome seen shelf runs bay after task text rest out out' status → Type 0
IsOpened seen shelf runs bay after task text rest out out' status (inl refused) = ⊥
IsOpened seen shelf runs bay after task text rest out out' status (inr opened) = Unit {0}

-- the input is one that the task takes whole: a script up to its limit, at most the bytes of a volume of so many sectors
abbrev pub IsTakenWhole : Task → List ℕ → ℕ → Type 0
IsTakenWhole tasks.Serve text size = length text ≤ 2 ^ 32
IsTakenWhole tasks.Import text size = length text ≤ 512 * size
IsTakenWhole tasks.Export text size = Unit {0}
IsTakenWhole tasks.Show text size = Unit {0}
IsTakenWhole (tasks.Trial seed) text size = Unit {0}

-- a line names an image, to add it or to replace a drive by it
abbrev pub names_image : Line → Bool
names_image (Ok (Replace place name)) = true
names_image (Ok (Add name)) = true
names_image line = false

-- the task is a script with such a line
abbrev pub NamesImage : Task → List ℕ → Type 0
NamesImage tasks.Serve text = list_any names_image (script_of text) ≡ true
NamesImage tasks.Import text = ⊥
NamesImage tasks.Export text = ⊥
NamesImage tasks.Show text = ⊥
NamesImage (tasks.Trial seed) text = ⊥

-- What waited under some names is told, and is a sound pool of a volume of so many sectors; and no disk refused a call until now.
pub record IsUndisturbed (s : Shelf) (names : List (List ℕ)) (now : RackView) (size : ℕ) : Type 0 where
  pub told : s.told
  pub entry : IsSoundEntry s.ready names size
  pub calm : NoneRefused now

-- the bay when a pool was opened on those disks of it that answer, or refused
abbrev pub online_opening :
    {B : Type 0} (seen : B → RackView) (shelf : B → Shelf) (runs : B → B → Type 0) (attached after : B) (task : Task) (text rest out out' : List ℕ) (status : Status)
    → OnlineOutcome seen shelf runs attached after task text rest out out' status → Online B
online_opening seen shelf runs attached after task text rest out out' status online =
    opening_of (online_seen seen) (online_shelf shelf) (online_runs runs) online.asked (record { bay = after; offline = online.offline }) task text rest out out' status online.outcome

-- it was opened
abbrev pub IsOnlineOpened :
    {B : Type 0} (seen : B → RackView) (shelf : B → Shelf) (runs : B → B → Type 0) (attached after : B) (task : Task) (text rest out out' : List ℕ) (status : Status)
    → OnlineOutcome seen shelf runs attached after task text rest out out' status → Type 0
IsOnlineOpened seen shelf runs attached after task text rest out out' status online =
    IsOpened (online_seen seen) (online_shelf shelf) (online_runs runs) online.asked (record { bay = after; offline = online.offline }) task text rest out out' status online.outcome

-- How a task on the disks of some names came out. Where what waited is a sound pool and no disk refused a call until it was opened, what it was opened on is told and meant an
-- array of the volume's size. And where the task takes its input whole it was opened, and all was done, or a sector or a work was refused as spent; or memory was wanting, before it was
-- open or for a line that names an image.
pub record IsCarriedOut {B : Type 0} (seen : B → RackView) (shelf : B → Shelf) (runs : B → B → Type 0) (bay attached after : B) (task : Task) (names : List (List ℕ)) (text rest out out' : List ℕ)
    (status : Status) : Type 0 where
  pub online : OnlineOutcome seen shelf runs attached after task text rest out out' status
  pub meant :
      (size : ℕ) → IsUndisturbed (shelf bay) names (seen (online_opening seen shelf runs attached after task text rest out out' status online).bay) size
      → (online_shelf shelf online.asked).told × (a : FlatArray) × (a.size ≡ size) × IsMeant (online_seen seen online.asked) (online_seen seen (online_opening seen shelf runs attached after task text rest out out' status online)) a
  pub complete :
      (size : ℕ) → IsUndisturbed (shelf bay) names (seen (online_opening seen shelf runs attached after task text rest out out' status online).bay) size → IsTakenWhole task text size
      → ((status ≡ Memory) × (IsOnlineOpened seen shelf runs attached after task text rest out out' status online → NamesImage task text))
      ⊎ (IsOnlineOpened seen shelf runs attached after task text rest out out' status online × ((status ≡ Done) ⊎ (status ≡ Spent)))

-- all disks were attached and the task carried out on them, unless memory was wanting
abbrev pub CarriesOut : {B : Type 0} → (B → RackView) → (B → Shelf) → (B → B → Type 0) → B → B → Task → List (List ℕ) → List ℕ → List ℕ → List ℕ → List ℕ → Status → Type 0
CarriesOut seen shelf runs bay after task names text rest out out' status =
    (status ≡ Memory) ⊎ OnDisks seen shelf bay names (λ attached. IsCarriedOut seen shelf runs bay attached after task names text rest out out' status)

-- ---- what the words ask for

-- It is done: a layout of drives that have a plan; a pool made on disks that have one, of which none refused a call; an image shown that refused none; a task on
-- a pool carried out.
abbrev pub Completes : {B : Type 0} → (B → RackView) → (B → Shelf) → (B → B → Type 0) → B → B → Form → List (List ℕ) → List ℕ → List ℕ → List ℕ → List ℕ → Status → Type 0
Completes seen shelf runs bay after (Layout request) names text rest out out' status = HavePlan (units_asked request) → IsDone status
Completes seen shelf runs bay after (Create extent) names text rest out out' status = HavePlan (units_on (seen after) extent) → NoneRefused (seen after) → IsDone status
Completes seen shelf runs bay after Serve names text rest out out' status = CarriesOut seen shelf runs bay after tasks.Serve names text rest out out' status
Completes seen shelf runs bay after Import names text rest out out' status = CarriesOut seen shelf runs bay after tasks.Import names text rest out out' status
Completes seen shelf runs bay after Export names text rest out out' status = CarriesOut seen shelf runs bay after tasks.Export names text rest out out' status
Completes seen shelf runs bay after StatusOf names text rest out out' status = CarriesOut seen shelf runs bay after tasks.Show names text rest out out' status
Completes seen shelf runs bay after Examine names text rest out out' status = NoneRefused (seen after) → IsDone status
Completes seen shelf runs bay after (Trial seed) names text rest out out' status = CarriesOut seen shelf runs bay after (tasks.Trial seed) names text rest out out' status
