-- How a task on a pool and `create` come out, over the bay at entry.
use Rattle.std.specs.Prelude.{◌≡◌, ℕ, List, ◌++◌, codes, decimal}
use Rattle.rack.specs.declared.AttachFault.{AttachFault}
use Rattle.rack.specs.declared.AttachFault.TheVariants.{Failed, Twice, Memory as NoRoom}
use Rattle.rack.specs.Seen.{RackView}
use Rattle.rack.specs.Sequences.{OnlyReads}
use Rattle.rack.specs.Shelf.{Shelf}
use Rattle.shr_script.specs.Reply.{refused_line}
use Rattle.pool_format.specs.declared.Birth.{Birth}
use Rattle.shr_tool.specs.declared.opening.Task.{Task}
use Rattle.shr_tool.specs.declared.status.Status.{Status}
use Rattle.shr_tool.specs.declared.status.Status.TheVariants.{Refused, Memory}
use Rattle.shr_tool.specs.Attaching.{AreAttached, IsUnattached}
use Rattle.shr_tool.specs.Made.{MakeOutcome}
use Rattle.shr_tool.specs.Online.{OnlineOutcome}
use Rattle.shr_tool.specs.Saying.{Says}

-- the line of a name that can't be attached
abbrev pub attach_line : ℕ → List ℕ
attach_line number = refused_line (codes "attach " ++ decimal number)

-- what is said of a name that wasn't attached
abbrev pub SaysFault : AttachFault → ℕ → List ℕ → List ℕ → Status → Type 0
SaysFault Failed number out out' status = Says Refused (attach_line number) out out' status
SaysFault (Twice disk) number out out' status = Says Refused (refused_line (codes "twice")) out out' status
SaysFault NoRoom number out out' status = Says Memory (refused_line (codes "memory")) out out' status

-- A name wasn't attached, by its cause: the disks of those before it hold what waited, and nothing was called.
pub record NameRefused (x y : RackView) (s t : Shelf) (names : List (List ℕ)) (out out' : List ℕ) (status : Status) : Type 0 where
  pub number : ℕ
  pub fault : AttachFault
  pub cause : IsUnattached x y s t names number fault
  pub says : SaysFault fault number out out' status

-- All names were attached, and this came out on their disks. `attached` is the bay then.
pub record OnDisks {B : Type 0} (seen : B → RackView) (shelf : B → Shelf) (bay : B) (names : List (List ℕ)) (P : B → Type 0) : Type 0 where
  pub attached : B
  pub are : AreAttached (seen bay) (seen attached) (shelf bay) (shelf attached) names
  pub outcome : P attached

-- how `serve`, `import`, `export`, `status` or `trial` came out
pub data PoolOutcome {B : Type 0} (seen : B → RackView) (shelf : B → Shelf) (runs : B → B → Type 0) (bay after : B) (task : Task) (names : List (List ℕ)) (text rest out out' : List ℕ) (status : Status)
    : Type 0 where
  name_refused : NameRefused (seen bay) (seen after) (shelf bay) (shelf after) names out out' status → PoolOutcome seen shelf runs bay after task names text rest out out' status
  -- to read the words, before anything was called
  no_memory : after ≡ bay → Says Memory (refused_line (codes "memory")) out out' status → PoolOutcome seen shelf runs bay after task names text rest out out' status
  -- to ask the disks, of which some may have been read
  not_asked :
      OnDisks seen shelf bay names (λ attached. OnlyReads (seen attached) (seen after) × runs attached after × Says Memory (refused_line (codes "memory")) out out' status)
      → PoolOutcome seen shelf runs bay after task names text rest out out' status
  on_disks :
      OnDisks seen shelf bay names (λ attached. OnlineOutcome seen shelf runs attached after task text rest out out' status)
      → PoolOutcome seen shelf runs bay after task names text rest out out' status

-- how `create` came out
pub data CreateOutcome {B : Type 0} (seen : B → RackView) (shelf : B → Shelf) (runs : B → B → Type 0) (bay after : B) (names : List (List ℕ)) (extent : ℕ) (birth : Birth) (out out' : List ℕ) (status : Status)
    : Type 0 where
  name_refused : NameRefused (seen bay) (seen after) (shelf bay) (shelf after) names out out' status → CreateOutcome seen shelf runs bay after names extent birth out out' status
  no_memory : after ≡ bay → Says Memory (refused_line (codes "memory")) out out' status → CreateOutcome seen shelf runs bay after names extent birth out out' status
  on_disks :
      OnDisks seen shelf bay names (λ attached. MakeOutcome seen runs attached after extent birth out out' status)
      → CreateOutcome seen shelf runs bay after names extent birth out out' status
