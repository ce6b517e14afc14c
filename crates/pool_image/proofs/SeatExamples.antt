-- Which disk is taken for a place, and which slices a table has, at small lists.
use Rattle.std.specs.Prelude.{◌≡◌, ℕ, ◌-◌, ◌==◌, if◌then◌else◌, Bool, true, false, List, [], ◌∷◌, map, Option, Some, None, option_map, refl}
use Rattle.gpt_table.specs.declared.Entry.{Entry}
use Rattle.gpt_table.specs.declared.Table.{Table}
use Rattle.pool_state.specs.declared.contents.Drive.{Drive}
use Rattle.pool_state.specs.declared.contents.Plan.TheVariants.{Nothing}
use Rattle.pool_state.specs.declared.contents.State.{State}
use Rattle.array_image.specs.Foremost.{foremost}
use Rattle.array_image.specs.Places.{raid_kind, log_kind}
use Rattle.pool_image.specs.Disks.{Disks, Identity, Identities, newest, seat_of}
use Rattle.pool_image.specs.Replay.{Extent, extents_below}

-- ids of one byte: drives 7, 8 and 9, the last one missing
drive : ℕ → Bool → Drive
drive id missing = record { id = record { 0 = id ∷ [] }; units = 10; missing = missing }

state : ℕ → State
state epoch = record {
  pool = record { 0 = 1 ∷ [] };
  epoch = epoch;
  extent = 128;
  drives = record { items = drive 7 false ∷ drive 8 false ∷ drive 9 true ∷ [] };
  plan = Nothing;
  made = 1;
  joined = 1;
  serial = 3;
}

table : ℕ → List Entry → Table
table id entries = record { disk_id = record { 0 = id ∷ [] }; sectors = 100000; entries = record { items = entries } }

-- a disk with the copy of a place and of this epoch, one with another drive's table beside it, and one with a table alone
copied : ℕ → ℕ → Identity
copied place epoch = record { copied = Some (record { state = state epoch; own = place }); table = None }

both : ℕ → ℕ → ℕ → Identity
both place epoch id = record { copied = Some (record { state = state epoch; own = place }); table = Some (table id []) }

only_table : ℕ → Identity
only_table id = record { copied = None; table = Some (table id []) }

-- the disks that stand there, in order
row : List Identity → Identities
row [] d = record { copied = None; table = None }
row (first ∷ others) d = if d == 0 then first else row others (d - 1)

four : Disks
four = record { count = 4; sectors = λ d. 100000 }

seats : List Identity → List (Option ℕ)
seats ids = map (seat_of (state 5) four (row ids)) (0 ∷ 1 ∷ 2 ∷ [])

-- each where it is, and the missing place has none
in_turn : seats (copied 1 5 ∷ copied 2 5 ∷ copied 0 5 ∷ []) ≡ Some 2 ∷ Some 0 ∷ None ∷ []
unfolding seats four row copied both only_table table state drive seat_of foremost
in_turn = refl

-- of two disks for one place the one of higher epoch, of equal ones the lower disk; one with a table alone comes last
higher_epoch : seats (only_table 7 ∷ copied 0 4 ∷ copied 0 5 ∷ copied 0 5 ∷ []) ≡ Some 2 ∷ None ∷ None ∷ []
unfolding seats four row copied both only_table table state drive seat_of foremost
higher_epoch = refl

alone : seats (only_table 8 ∷ only_table 8 ∷ []) ≡ None ∷ Some 0 ∷ None ∷ []
unfolding seats four row copied both only_table table state drive seat_of foremost
alone = refl

-- a state's sector decides where a table has another id
state_decides : seats (both 1 1 7 ∷ only_table 7 ∷ []) ≡ Some 1 ∷ Some 0 ∷ None ∷ []
unfolding seats four row copied both only_table table state drive seat_of foremost
state_decides = refl

-- the state of highest epoch, of equal ones that of the lowest disk
epoch_in : List Identity → Option ℕ
epoch_in ids = option_map (λ s. s.epoch) (newest four (row ids))

highest : epoch_in (only_table 7 ∷ copied 0 3 ∷ copied 1 6 ∷ copied 0 5 ∷ []) ≡ Some 6
unfolding epoch_in four row copied both only_table table state drive foremost
highest = refl

-- ---- slices by a table

entry : ℕ → List ℕ → ℕ → ℕ → Entry
entry number kind first last =
    record { number = number; slice = record { kind = record { 0 = kind }; id = record { 0 = [] }; first = first; last = last } }

slices : List Entry → List (Option Extent)
slices entries = extents_below 100000 (table 7 entries) 3

-- A slice is there where it has the type and lies between sector 10240 and the last 33. One that shares a sector with a lower one isn't,
-- and doesn't hinder the next.
overlapping :
    slices (entry 2 raid_kind 10240 10249 ∷ entry 3 raid_kind 10249 10300 ∷ entry 4 raid_kind 10300 10309 ∷ [])
    ≡ Some (record { first = 10240; sectors = 10 }) ∷ None ∷ Some (record { first = 10300; sectors = 10 }) ∷ []
unfolding slices table entry extents_below
overlapping = refl

outside :
    slices (entry 2 raid_kind 10239 10249 ∷ entry 3 log_kind 20000 20009 ∷ entry 4 raid_kind 99000 99967 ∷ []) ≡ None ∷ None ∷ None ∷ []
unfolding slices table entry extents_below
outside = refl

last_sector : slices (entry 2 raid_kind 99000 99966 ∷ []) ≡ Some (record { first = 99000; sectors = 967 }) ∷ None ∷ None ∷ []
unfolding slices table entry extents_below
last_sector = refl
