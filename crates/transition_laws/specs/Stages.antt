-- What a commit owes that makes one change of the book.
use Rattle.std.proofs.Common.{◌≡◌, ◌⊎◌, ℕ, ◌-◌, ◌^◌, ◌<◌, ◌≤◌, true, false, List, ◌∷◌, Some, []}
use Rattle.rack.specs.Values.{Values}
use Rattle.rack.specs.Seen.{Image, IsLive, RackView}
use Rattle.rack.specs.Targets.{Target, look, put}
use Rattle.array_image.specs.Arrays.{replayed}
use Rattle.array_image.specs.Held.{IsSynced}
use Rattle.array_image.specs.Left.{Picks}
use Rattle.array_image.specs.Places.{log_slice}
use Rattle.array_image.specs.States.{is_current}
use Rattle.log_laws.specs.Commits.{CommitCall}
use Rattle.log_laws.specs.Kept.{AreLeft, BringsTo, gone_but}
use Rattle.log_laws.specs.Saying.{AreOwnCopies, KeepsDrives}
use Rattle.log_laws.specs.View.{LogView, names, next_number}
use Rattle.array_model.specs.Says.{IsEarlier}
use Rattle.array_model.specs.View.{IsArray, shape_of, View}
use Rattle.pool_state.specs.declared.contents.State.{State}
use Rattle.array_model.proofs.Losses.{IsLosing}
use Rattle.transition_laws.specs.Changes.{Change, changed, is_due}
use Rattle.transition_laws.specs.Holds.{AreLeftBy, has_sector, IsPromised, IsSameArrayAs, Promise, RestsArray, Stands, StandsArray}
use Rattle.transition_laws.specs.Makes.{Suits}
use Rattle.raid_laws.specs.Marking.{NoData}
use Rattle.raid_laws.specs.Moves.{AreMarked}
use Rattle.raid_laws.specs.Raid.{AreLive, gone_in, is_failed, Raid}

-- The targets of a commit, of contents of one array: with them written, what shows the array u of a book with the state s shows the array next of one
-- with the state t. `v` is the run before it. Members' data stays: the array has the shape that it had in images, or its members are settled and it
-- has the run's.
pub record StagesArray (s t : State) (u next : View) (v : Raid) (p : Promise) (n : ℕ) (vals : ℕ → Values) (xs : List Target) (a : RackView) : Type 0 where
  pub shows : (c : Image) → Picks a c → RestsArray s u p n vals (replayed a.sectors c) → RestsArray t next p n vals (put a.sectors xs c)
  pub number : next.number ≡ n
  pub shape : (shape_of next ≡ shape_of u) ⊎ ((shape_of next ≡ shape_of (v.arrays n)) × IsSynced (shape_of (v.arrays n)) n a.held)
  -- the run has it already
  pub truth : IsEarlier next.truth (v.arrays n).truth
  pub mark : (v.arrays n).marked ≡ true → next.marked ≡ true
  pub same : AreLeftBy t v → IsSameArrayAs next (v.arrays n)
  pub roles : (v.arrays n).truth.roles.items ≡ next.truth.roles.items
  pub disks : (v.arrays n).truth.raid_disks ≡ next.truth.raid_disks
  pub sectors : (y : ℕ) → has_sector (v.arrays n) y ≡ has_sector next y

-- An array that comes to be by the change: the targets make it whole.
pub record StagesNew (x : Change) (d w : Raid) (p : Promise) (n : ℕ) (vals : ℕ → Values) (xs : List Target) (a b : RackView) : Type 0 where
  pub few : n < 16
  pub number : ((changed x d).arrays n).number ≡ n
  pub shows : (c : Image) → Picks a c → RestsArray (changed x d).state ((changed x d).arrays n) p n vals (put a.sectors xs c)
  pub stands : StandsArray ((changed x d).arrays n) (w.arrays n) n vals p b
  pub same : AreMarked w → IsSameArrayAs ((changed x d).arrays n) (w.arrays n)

-- What a commit owes for a promise.
pub record Stages (x : Change) (d v w : Raid) (p : Promise) (vals : ℕ → ℕ → Values) (xs : List Target) (a b : RackView) : Type 0 where
  pub old : IsPromised p w → Stands d v p vals a → (n : ℕ) → p.live n ≡ true → n < d.state.made
      → StagesArray d.state (changed x d).state (d.arrays n) ((changed x d).arrays n) v p n (vals n) xs a
  pub new :
      IsPromised p w → Stands d v p vals a → (n : ℕ) → p.live n ≡ true → d.state.made ≤ n → n < (changed x d).state.made
      → StagesNew x d w p n (vals n) xs a b

-- The commit, where the log brings the changed state, and whoever went in it is noted.
pub record Commits (x : Change) (d v w : Raid) (l : LogView) (on lost : List ℕ) (a b : RackView) : Type 0 where
  pub due : is_due x d
  pub call : CommitCall l on lost a b
  pub lasting : a.lasting
  pub number : l.number ≡ v.number
  pub number_after : w.number ≡ next_number l.number
  -- what it brings
  pub takes : List ℕ
  pub brings : d.state.epoch < 2 ^ 63 - 1 → BringsTo d.state (changed x d).state l.number a l.added on takes
  pub later : d.state.epoch < 2 ^ 63 - 1 → d.state.epoch < (changed x d).state.epoch
  -- arrays that come to be made have slices that are told
  pub slices : AreLive d.state.made a → AreLive (changed x d).state.made a
  pub few : d.state.joined < 17 → (changed x d).state.joined < 17
  pub more : d.state.made ≤ (changed x d).state.made
  pub are_left : AreLeft d.state (gone_in v) on
  pub drives : KeepsDrives d.state (changed x d).state on
  pub own : AreOwnCopies (changed x d).state l.added
  pub none : NoData l.added
  pub live :
      AreLive d.state.made a → ((q u : ℕ) → q < 16 → u < a.sectors (log_slice q) → IsLive a a (log_slice q) u)
      → (e u : ℕ) (y : List ℕ) → look l.added e u ≡ Some y → IsLive a a e u
  -- whom it lost
  pub is_array : (n : ℕ) → n < d.state.made → IsArray (v.arrays n)
  pub losing : (n : ℕ) → n < d.state.made → IsLosing (v.arrays n) (w.arrays n) (names lost)
  pub fresh : (n : ℕ) → n < d.state.made → (w.arrays n).went ≡ [] → lost ≡ []
  pub gone : (n : ℕ) → n < d.state.made → (q : ℕ) → gone_in w q ≡ gone_but (gone_in v) takes lost q
  pub back : (p : Promise) → Suits p (x ∷ []) d → IsPromised p w → IsPromised p v
  pub state : w.state ≡ (changed x d).state
  pub young : (n : ℕ) → n < d.state.made → (w.arrays n).young ≡ (v.arrays n).young
  pub marked : (n : ℕ) → n < d.state.made → AreMarked w → AreLeftBy (changed x d).state v × ((q : ℕ) → names lost q ≡ false)
  pub room : (n : ℕ) → is_failed w n ≡ false → (l.number < 2 ^ 63 - 1) × (d.state.epoch < 2 ^ 63 - 1)
  pub someone :
      (n : ℕ) → n < d.state.made → is_failed w n ≡ false
      → (q : ℕ) × (is_current d.state q ≡ true) × (gone_in v q ≡ false) × (is_current (changed x d).state q ≡ true) × (names lost q ≡ false)
