-- A state that marks places missing.
use Rattle.std.specs.Prelude.{ℕ, ◌+◌, ◌-◌, ◌^◌, Bool, ◌||◌, nat_lt, if◌then◌else◌, List, [], ◌∷◌}
use Rattle.pool_state.specs.declared.contents.Drive.{Drive}
use Rattle.pool_state.specs.declared.contents.State.{State}
use Rattle.log_laws.specs.View.{names}

-- a drive that is missing where it is lost, or was before
abbrev pub missing_if : Bool → Drive → Drive
missing_if lost drive = record drive { missing = drive.missing || lost }

-- drives from a place on
unfoldable pub marked_from : List ℕ → ℕ → List Drive → List Drive
marked_from places n [] = []
marked_from places n (drive ∷ others) = missing_if (names places n) drive ∷ marked_from places (n + 1) others

-- one more, up to the last epoch
abbrev pub raised : ℕ → ℕ
raised epoch = if nat_lt epoch (2 ^ 63 - 1) then epoch + 1 else epoch

-- the state with these places marked, of the next epoch
abbrev pub marked : List ℕ → State → State
marked places s = record s { epoch = raised s.epoch; drives = record { items = marked_from places 0 s.drives.items } }
