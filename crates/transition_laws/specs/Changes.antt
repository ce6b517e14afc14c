-- How the book of a pool changes durably: by one commit at a time.
use Rattle.std.proofs.Common.{◌≡◌, ◌⊎◌, ℕ, ◌+◌, ◌<◌, ◌≤◌, Bool, true, false, ◌==◌, ◌&&◌, ◌||◌, if◌then◌else◌, List, [], ◌∷◌, ◌++◌, length, slice_set, refl, inl, inr}
use Rattle.pool_state.specs.declared.contents.Drive.{Drive}
use Rattle.pool_state.specs.declared.contents.Plan.{Plan}
use Rattle.pool_state.specs.declared.contents.Plan.TheVariants.{Nothing}
use Rattle.pool_state.specs.declared.contents.State.{State}
use Rattle.array_image.specs.States.{is_current}
use Rattle.array_model.specs.declared.Seat.{Seat}
use Rattle.array_model.specs.View.{HasGeometry, View, place_at, seat_unless, shape_of}
use Rattle.array_core.specs.Seats.{ready, renewed}
use Rattle.array_core.specs.Superblocks.{left_offset}
use Rattle.log_laws.specs.View.{names}
use Rattle.raid_laws.specs.Enlisting.{next_drive}
use Rattle.raid_laws.specs.Frames.{frame_of}
use Rattle.raid_laws.specs.Missing.{marked, raised}
use Rattle.raid_laws.specs.Raid.{Raid}
use Rattle.raid_laws.specs.Reach.{KeepsReachOn}
use Rattle.raid_laws.specs.Works.{closed as closed_state}

-- One durable change: one commit, or the first of an array's superblocks that are written one after the other.
pub data Change : Type 0 where
  -- array n becomes this one: a row that is resynced, rebuilt, zeroed or moved, superblocks with its mark or without, a takeover, the begin or the end
  -- of a reshape
  steps : ℕ → View → Change
  -- there is one array more, which is young
  makes : View → Change
  -- the young array is the volume's
  readied : Change
  -- the plan ends
  closed : Change
  -- a place, which may be the next one, has a new drive of so many units by this plan; its members of these arrays are rebuilt from their start
  enlists : (place units : ℕ) → Plan → (ℕ → Bool) → Change
  -- places are marked, and all superblocks written anew, each array's with so many events; with no place it is the rewriting alone
  failed : List ℕ → (events : ℕ → ℕ) → Change
  -- array n is written: nothing of the book changes, but what it promises of rows
  wrote : ℕ → Change

-- ---- on the book

-- the book with another array n
abbrev pub with_view : Raid → ℕ → View → Raid
with_view v n next = record v { arrays = λ k. if k == n then next else v.arrays k }

-- the seats from a position on, without some places
unfoldable pub seats_without : List ℕ → (ℕ → ℕ) → ℕ → List Seat → List Seat
seats_without lost place k [] = []
seats_without lost place k (seat ∷ others) = seat_unless (names lost) (place k) seat ∷ seats_without lost place (k + 1) others

abbrev pub lacking : List ℕ → View → View
lacking lost u = record u { seats = seats_without lost (place_at u) 0 u.seats }

-- the array with its superblocks written anew: they have so many events, and leave just the rows that are left in it
abbrev pub rewritten : ℕ → View → View
rewritten events u = record u { truth = record u.truth { events = events; resync_offset = left_offset u }; marked = false }

-- the list with a drive on a place, which may be the next one
abbrev pub put_drive : ℕ → Drive → List Drive → List Drive
put_drive place drive drives = if place == length drives then drives ++ drive ∷ [] else slice_set drives place drive

-- the state with the pool's next drive on a place
abbrev pub enlisted : (place units : ℕ) → Plan → State → State
enlisted place units plan s = record s {
  epoch = raised s.epoch;
  drives = record { items = put_drive place (record { id = next_drive s; units = units; missing = false }) s.drives.items };
  plan = plan;
  serial = s.serial + 1;
}

abbrev pub with_ready : State → State
with_ready s = record s { epoch = raised s.epoch; joined = s.joined + 1 }

abbrev pub changed : Change → Raid → Raid
changed (steps n next) v = with_view v n next
changed (makes next) v = record v {
  state = record v.state { epoch = raised v.state.epoch; made = v.state.made + 1 };
  arrays = λ k. if k == v.state.made then next else v.arrays k;
}
changed readied v = record v {
  state = with_ready v.state;
  arrays = λ k. if k == v.state.joined then ready (v.arrays k) else v.arrays k;
}
changed closed v = record v { state = closed_state v.state }
changed (enlists place units plan joining) v = record v {
  state = enlisted place units plan v.state;
  arrays = λ k. if joining k then renewed place (next_drive v.state) (v.arrays k) else v.arrays k;
}
changed (failed lost events) v = record v { state = marked lost v.state; arrays = λ k. rewritten (events k) (lacking lost (v.arrays k)) }
changed (wrote n) v = v

abbrev pub by : List Change → Raid → Raid
by [] v = v
by (x ∷ xs) v = by xs (changed x v)

-- ---- when a change is due

abbrev pub is_due : Change → Raid → Type 0
is_due (steps n next) v = n < v.state.made
is_due (makes next) v = next.young ≡ true
is_due readied v = v.state.joined < v.state.made
is_due closed v = v.state.plan ≡ Nothing → ⊥
is_due (enlists place units plan joining) v = place ≤ length v.state.drives.items
is_due (failed lost events) v = Unit {0}
is_due (wrote n) v = Unit {0}

abbrev pub AreDue : List Change → Raid → Type 0
AreDue [] v = Unit {0}
AreDue (x ∷ xs) v = is_due x v × AreDue xs (changed x v)

-- whether it leaves rows of an array to resync that weren't left before: its superblocks get its mark, or it is written
abbrev pub soils : Change → ℕ → Bool
soils (steps m next) n = next.marked && (m == n)
soils (makes next) n = false
soils readied n = false
soils closed n = false
soils (enlists place units plan joining) n = false
soils (failed lost events) n = false
soils (wrote m) n = m == n

abbrev pub soil : List Change → ℕ → Bool
soil [] n = false
soil (x ∷ xs) n = soils x n || soil xs n

-- An array w follows u: its frame stays, its members on some places count as far at least, and no row is left to resync again.
pub record FollowsView (on : ℕ → Bool) (u w : View) : Type 0 where
  pub frame : frame_of w.truth ≡ frame_of u.truth
  pub reach : KeepsReachOn on (shape_of u) (shape_of w)
  pub resync : u.resync ≤ w.resync
  pub young : w.young ≡ u.young

-- a step of maintenance of an array that isn't young
pub record Maintains (s : State) (u next : View) : Type 0 where
  pub follows : FollowsView (is_current s) u next
  pub geometry : HasGeometry u.truth next.truth
  pub ready : u.young ≡ false

-- changes that leave the pool's drives and arrays as they are, but for marks, rows and the plan's end
abbrev pub is_keeping : Change → Raid → Type 0
is_keeping (steps n next) v = Maintains v.state (v.arrays n) next
is_keeping (makes next) v = ⊥
is_keeping readied v = ⊥
is_keeping closed v = Unit {0}
is_keeping (enlists place units plan joining) v = ⊥
is_keeping (failed lost events) v = Unit {0}
is_keeping (wrote n) v = Unit {0}

abbrev pub AreKeeping : List Change → Raid → Type 0
AreKeeping [] v = Unit {0}
AreKeeping (x ∷ xs) v = is_keeping x v × AreKeeping xs (changed x v)

-- ---- lists of changes

-- one of the books that changes lead over has a property
abbrev pub Along : List Change → Raid → (Raid → Type 0) → Type 0
Along [] v P = P v
Along (x ∷ xs) v P = P v ⊎ Along xs (changed x v) P

pub by_joined : (xs ys : List Change) (v : Raid) → by (xs ++ ys) v ≡ by ys (by xs v)
by_joined [] ys v = refl
by_joined (x ∷ xs) ys v = by_joined xs ys (changed x v)

pub due_joined : (xs ys : List Change) (v : Raid) → AreDue xs v → AreDue ys (by xs v) → AreDue (xs ++ ys) v
due_joined [] ys v one two = two
due_joined (x ∷ xs) ys v one two = (one.0, due_joined xs ys (changed x v) one.1 two)

pub along_weaker : (xs : List Change) (v : Raid) (P Q : Raid → Type 0) → ((u : Raid) → P u → Q u) → Along xs v P → Along xs v Q
along_weaker [] v P Q weaker at = weaker v at
along_weaker (x ∷ xs) v P Q weaker (inl here) = inl (weaker v here)
along_weaker (x ∷ xs) v P Q weaker (inr later) = inr (along_weaker xs (changed x v) P Q weaker later)

pub along_first : (xs ys : List Change) (v : Raid) (P : Raid → Type 0) → Along xs v P → Along (xs ++ ys) v P
along_first [] [] v P at = at
along_first [] (y ∷ ys) v P at = inl at
along_first (x ∷ xs) ys v P (inl here) = inl here
along_first (x ∷ xs) ys v P (inr later) = inr (along_first xs ys (changed x v) P later)

pub along_last : (xs ys : List Change) (v : Raid) (P : Raid → Type 0) → Along ys (by xs v) P → Along (xs ++ ys) v P
along_last [] ys v P at = at
along_last (x ∷ xs) ys v P at = inr (along_last xs ys (changed x v) P at)

pub soil_joined : (xs ys : List Change) (n : ℕ) → soil (xs ++ ys) n ≡ (soil xs n || soil ys n)
soil_joined [] ys n = refl
soil_joined (x ∷ xs) ys n = joined (soils x n) (soil xs n) (soil ys n) (soil (xs ++ ys) n) (soil_joined xs ys n)
  where
    joined : (a b c d : Bool) → d ≡ (b || c) → (a || d) ≡ ((a || b) || c)
    joined true b c d is = refl
    joined false b c d is = is
