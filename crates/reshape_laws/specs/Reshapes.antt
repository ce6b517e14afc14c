-- What takeover, begin, a row and finish do to an array.
use Rattle.std.specs.Prelude.{◌⊎◌, ◌%◌, ◌^◌, ◌≡◌, ℕ, ◌+◌, ◌-◌, ◌<◌, Bool, true, false, not, nat_lt, if◌then◌else◌, List, length, None, Result}
use Rattle.rack.specs.Values.{Values, IsSingle}
use Rattle.rack.specs.Seen.{RackView, Image}
use Rattle.pool_state.specs.declared.contents.State.{State}
use Rattle.array_image.specs.Places.{member_id, member_slice, data_sector}
use Rattle.array_image.specs.Arrays.{Member, layout_at}
use Rattle.array_image.specs.Held.{Among}
use Rattle.array_image.specs.Left.{IsLeft}
use Rattle.array_image.specs.Spent.{wanting}
use Rattle.array_image.specs.Stripes.{sector_in}
use Rattle.shr_base.specs.declared.Id.{Id}
use Rattle.log_laws.specs.Kept.{LogInvariant}
use Rattle.array_model.specs.declared.Seat.{Seat}
use Rattle.array_model.specs.declared.Seat.TheVariants.{Whole, Missing}
use Rattle.array_model.specs.View.{View, has_gone, rows_of, sectors_of, shape_of, spent_in}
use Rattle.array_model.specs.Says.{ArrayInvariant, IsOpen}
use Rattle.array_model.specs.Stages.{IsStateOf}
use Rattle.array_model.specs.Members.{members_of}
use Rattle.array_model.specs.ArrayCalls.{IncludesSpent, HasFields, Keeping, StepRefines}
use Rattle.array_core.specs.declared.Change.{Change}
use Rattle.array_core.specs.declared.Spent.{Spent}
use Rattle.array_core.specs.Pool.{MayCommit}
use Rattle.array_core.specs.Seats.{names}
use Rattle.array_core.specs.Staging.{HasRowRebuilds}
use Rattle.array_core.specs.Superblocks.{raised}
use Rattle.array_core.specs.TruthHeld.{HasFewBits, HoldTruth, TellSupers}
use Rattle.array_core.specs.TruthLeft.{LeavesSupers}
use Rattle.sync_laws.specs.Steps.{DoesRows, Stepped, if_done}
use Rattle.reshape_laws.specs.Ahead.{ahead_by, begun, next_row}

-- two members are missing, or not rebuilt to the end
abbrev pub lacks_two : View → Bool
lacks_two v = nat_lt 1 (wanting (v.truth.size - 1) (members_of v))

-- the same, with a joining place that isn't among these as a missing member
abbrev pub lacks_joined : View → List ℕ → ℕ → Bool
lacks_joined v on place = nat_lt 1 ((if names on place then 0 else 1) + wanting (v.truth.size - 1) (members_of v))

-- the seat of a joining place
abbrev pub joining_seat : List ℕ → ℕ → Seat
joining_seat on place = if names on place then Whole else Missing

-- the array once a member has joined on a place, with its id on this drive
abbrev pub joined : View → List ℕ → ℕ → Id → View
joined v on place drive = begun v (raised v.truth.events) place (joining_seat on place) (record { 0 = member_id drive.0 v.number })

-- What a step of a reshape needs of the pool, where `next` is the array once it is done: what a commit needs, the marks of next's seats,
-- each sector that counts after it is told, and a joining member's have one value each.
pub record MayReshape (s : State) (v next w : View) (number : ℕ) (on : List ℕ) (a : RackView) : Type 0 where
  pub commit : MayCommit s v w number on a
  pub state : IsStateOf next s
  pub opened : IsOpen (shape_of next) v.number a
  pub joining :
      (m : Member) (t : ℕ) → Among m (shape_of next).members → (Among m (shape_of v).members → ⊥) → t < m.reach
      → IsSingle (a.held (member_slice m.place v.number) (data_sector + t)) × (length (a.held (member_slice m.place v.number) (data_sector + t)).current ≡ 512)
  pub unmarked : v.marked ≡ false
  pub whole : (v.truth.resync_offset ≡ 2 ^ 64 - 1) ⊎ (v.truth.resync_offset % 128 ≡ 0)

-- What a step makes of an array and of its view: the array is as it was or `next`, with the losses of the call, and it is `next` where the
-- answer is Ok.
pub record StepsTo (v next w : View) (a b : RackView) (answered : Bool) : Type 0 where
  pub is_done : Bool
  pub answer : answered ≡ true → is_done ≡ true
  pub view : Stepped v next w a b is_done
  -- what was spent of the array as it was stays so
  pub spent : HasRowRebuilds v → (y : ℕ) → y < sectors_of v → spent_in w y ≡ false → spent_in v y ≡ false

-- A step of an array, and what contents say of it: the value of each sector stays, also past the end of its data, where there are zeros.
pub record Reshapes (v next w : View) (number next_number : ℕ) (on : List ℕ) (a b : RackView) (answered : Bool) : Type 0 where
  pub steps : StepsTo v next w a b answered
  -- where it isn't done the array keeps what it held, and images its superblocks
  pub kept_supers : steps.is_done ≡ false → LeavesSupers v.number a b
  pub undone :
      steps.is_done ≡ false → (s : State) (vals : ℕ → Values) (spent : ℕ → Bool) → IncludesSpent w spent → MayReshape s v next w number on a
      → Keeping s v w spent a b (shape_of v) vals
  -- images go by the array before it or after it, and then the array holds what it held
  pub moving :
      (s : State) (vals : ℕ → Values) (spent : ℕ → Bool) → IncludesSpent w spent → MayReshape s v next w number on a
      → StepRefines s v next w spent a b vals (if_done steps.is_done (shape_of v) (shape_of next)) vals
  -- once it is done it is durable
  pub durable :
      steps.is_done ≡ true → (s : State) (vals : ℕ → Values) (spent : ℕ → Bool) → IncludesSpent w spent → MayReshape s v next w number on a
      → ArrayInvariant s (shape_of v) v vals spent a → (r : Image) → IsLeft b r → HasFields s v.number next.truth r
  -- the log is kept for the next commit
  pub kept : (s : State) → MayReshape s v next w number on a → LogInvariant s next_number (has_gone w) b
  -- superblocks that said the array's truth do so after it, where those of the next array are told
  pub truth : HasFewBits v.truth → TellSupers next a → HoldTruth v a → HoldTruth w b

-- A step that moves some of the next rows, at least one, at most so many and at most those that are left, and answers how many they are.
abbrev pub ReshapesRows : View → View → ℕ → ℕ → ℕ → List ℕ → RackView → RackView → Result ℕ Spent → Type 0
ReshapesRows v w most number next_number on a b result =
    DoesRows (λ rows. Reshapes v (ahead_by v rows (raised v.truth.events)) w number next_number on a b) (rows_of v - next_row v) most result

-- a sector of an array stands past the end of its members' data, where there are zeros
abbrev pub past_end : View → ℕ → Bool
past_end v y = not (nat_lt (sector_in (layout_at (shape_of v) y) y) v.truth.size)

-- the change of each step
abbrev pub step_to : View → View → Change
step_to v next = record { truth = next.truth; place = None; to = 0 }
