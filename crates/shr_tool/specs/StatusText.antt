-- The lines of `status`: how a pool stands by its book, and where its volume lies.
use Rattle.std.specs.Prelude.{ℕ, ◌+◌, Bool, true, false, List, [], ◌∷◌, ◌++◌, flat_map, codes, decimal}
use Rattle.std.specs.Fmt.{signed_decimal}
use Rattle.std.specs.List.{range_with_len}
use Rattle.hex.specs.Hex.{encode_lower}
use Rattle.array_model.specs.View.{View as ArrayView, rows_of}
use Rattle.lvm_group.specs.Runs.{Linear, sectors_in}
use Rattle.raid_laws.specs.Raid.{Raid}
use Rattle.pool.specs.Works.{left_by}
use Rattle.pool_state.specs.declared.contents.Drive.{Drive}
use Rattle.pool_state.specs.declared.contents.Plan.{Plan}
use Rattle.pool_state.specs.declared.contents.Plan.TheVariants.{Nothing, Add, Replace}
use Rattle.pool_state.specs.declared.contents.State.{State}
use Rattle.shr_script.specs.Reply.{as_line, left_line}

-- `pool ID epoch E extent X`
abbrev pub pool_line : State → List ℕ
pool_line s =
    as_line
    (codes "pool " ++ encode_lower s.pool.0
    ++ codes " epoch " ++ decimal s.epoch
    ++ codes " extent " ++ decimal s.extent)

-- whether a drive is lost
abbrev pub drive_word : Bool → List ℕ
drive_word true = codes "missing"
drive_word false = codes "whole"

-- `drive P units U whole` or `drive P units U missing`
abbrev pub drive_line : ℕ → Drive → List ℕ
drive_line place drive =
    as_line
    (codes "drive " ++ decimal place
    ++ codes " units " ++ decimal drive.units
    ++ codes " " ++ drive_word drive.missing)

-- a line for each drive, their places from here on
abbrev pub drive_lines : ℕ → List Drive → List ℕ
drive_lines place [] = []
drive_lines place (drive ∷ drives) = drive_line place drive ++ drive_lines (place + 1) drives

-- `array A level L members N rows R`
abbrev pub array_line : ℕ → ArrayView → List ℕ
array_line number v =
    as_line
    (codes "array " ++ decimal number
    ++ codes " level " ++ signed_decimal v.truth.level
    ++ codes " members " ++ decimal v.truth.raid_disks
    ++ codes " rows " ++ decimal (rows_of v))

-- a line for each array, young ones too
abbrev pub array_lines : Raid → List ℕ
array_lines b = flat_map (λ n. array_line n (b.arrays n)) (range_with_len 0 b.state.made)

-- `plan nothing`, `plan add P` or `plan replace P`
abbrev pub plan_words : Plan → List ℕ
plan_words Nothing = codes "plan nothing"
plan_words (Add place) = codes "plan add " ++ decimal place
plan_words (Replace place) = codes "plan replace " ++ decimal place

-- `size N`, `left L` and `end`
abbrev pub count_lines : ℕ → ℕ → List ℕ
count_lines sectors works = as_line (codes "size " ++ decimal sectors) ++ left_line works ++ as_line (codes "end")

-- all lines
abbrev pub status_text : Linear → Raid → List ℕ
status_text l b =
    pool_line b.state
    ++ drive_lines 0 b.state.drives.items
    ++ array_lines b
    ++ as_line (plan_words b.state.plan)
    ++ count_lines (sectors_in l) (left_by l b)
