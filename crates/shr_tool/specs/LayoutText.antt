-- The lines of `layout`.
use Rattle.std.specs.Prelude.{◌≡◌, ◌⊎◌, ℕ, ◌+◌, ◌-◌, ◌<◌, ◌≤◌, ◌↔◌, ◌==◌, nat_lt, if◌then◌else◌, List, [], ◌∷◌, ◌++◌, length, map, sum, remove, position, flat_map, slice_index, codes, decimal, Some, Result, Ok, Err, IfOk}
use Rattle.std.specs.List.{range_with_len, IsFirstMaxByKey}
use Rattle.io_ends.specs.Sink.{AddsPrefix}
use Rattle.shr_script.specs.Reply.{as_line, refused_line}
use Rattle.layer_plan.specs.declared.Layer.{Layer}
use Rattle.layer_plan.specs.declared.Layers.{Layers}
use Rattle.layer_plan.specs.declared.PlanError.{PlanError}
use Rattle.layer_plan.specs.declared.PlanError.TheVariants.{TooFew, TooMany, NoRoom}
use Rattle.layer_plan.specs.Slicing.{IsSlicing, IsBest, load, slicing_capacity}
use Rattle.layer_plan.specs.Layering.{IsLayering, array_of}
use Rattle.shr_tool.specs.declared.status.Status.{Status}
use Rattle.shr_tool.specs.declared.status.Status.TheVariants.{Done, Words, Limit, Source, Sink, Refused, Memory, Spent}

-- each place after a space
abbrev pub spaced : List ℕ → List ℕ
spaced places = flat_map (λ place. codes " " ++ decimal place) places

-- `layer I members M.. height H extents X`
abbrev pub layer_line : ℕ → Layer → List ℕ
layer_line number layer =
    as_line
    (codes "layer " ++ decimal number
    ++ codes " members" ++ spaced layer.members.items
    ++ codes " height " ++ decimal layer.height
    ++ codes " extents " ++ decimal layer.extents)

-- a line for each layer, numbered from here on
abbrev pub layer_lines : ℕ → List Layer → List ℕ
layer_lines number [] = []
layer_lines number (layer ∷ layers) = layer_line number layer ++ layer_lines (number + 1) layers

-- the units of a drive outside every layer
abbrev pub unused_on : List ℕ → List Layer → ℕ → ℕ
unused_on units layers place = slice_index units place - load (map array_of layers) place

-- `unused D U`, where there are any
abbrev pub unused_line : ℕ → ℕ → List ℕ
unused_line place count =
    if nat_lt 0 count then as_line (codes "unused " ++ decimal place ++ codes " " ++ decimal count) else []

-- the lines of the drives at these places
abbrev pub unused_lines : List ℕ → List Layer → List ℕ → List ℕ
unused_lines units layers places = flat_map (λ place. unused_line place (unused_on units layers place)) places

-- `capacity C`
abbrev pub capacity_line : ℕ → List ℕ
capacity_line capacity = as_line (codes "capacity " ++ decimal capacity)

-- `bound B spared D`
abbrev pub bound_line : ℕ → ℕ → List ℕ
bound_line bound spared = as_line (codes "bound " ++ decimal bound ++ codes " spared " ++ decimal spared)

-- all lines of a plan
abbrev pub plan_text : List ℕ → Layers → List ℕ
plan_text units plan =
    layer_lines 0 plan.layers.items
    ++ (unused_lines units plan.layers.items (range_with_len 0 (length units))
    ++ (capacity_line plan.capacity ++ bound_line plan.bound plan.spared))

-- why there is no plan
abbrev pub refusal_line : PlanError → List ℕ
refusal_line TooFew = refused_line (codes "too-few")
refusal_line TooMany = refused_line (codes "too-many")
refusal_line (NoRoom drive) = refused_line (codes "no-room" ++ codes " " ++ decimal drive)

-- what is said of drives of these units
abbrev pub answer_text : List ℕ → Result Layers PlanError → List ℕ
answer_text units (Ok plan) = plan_text units plan
answer_text units (Err error) = refusal_line error

abbrev pub answer_status : Result Layers PlanError → Status
answer_status (Ok plan) = Done
answer_status (Err error) = Refused

-- the plan of drives of these units: the layers between their cut points, which no slicing exceeds
pub record IsPlan (units : List ℕ) (plan : Layers) : Type 0 where
  pub layers : IsLayering units plan.layers.items
  pub slicing : IsSlicing units (map array_of plan.layers.items)
  pub capacity : plan.capacity ≡ slicing_capacity (map array_of plan.layers.items)
  pub best : IsBest units plan.capacity
  pub spared : IsFirstMaxByKey (λ own. own) units (length units) plan.spared
  pub bound : plan.bound ≡ sum (remove units plan.spared)
  pub tight : plan.bound ≡ plan.capacity

-- the plan, or why there is none
pub record IsAnswer (units : List ℕ) (answer : Result Layers PlanError) : Type 0 where
  pub plan : IfOk answer (IsPlan units)
  pub too_few : (answer ≡ Err TooFew) ↔ (length units < 2)
  pub too_many : (answer ≡ Err TooMany) ↔ (16 < length units)
  -- the lowest drive without a unit
  pub no_room :
      (drive : ℕ)
      → (answer ≡ Err (NoRoom drive))
      ↔ ((2 ≤ length units) × (length units ≤ 16) × (position (λ own. own == 0) units ≡ Some drive))

-- a text was put, or a prefix of it where the sink failed
abbrev pub Puts : {E : Type 0} → Result (Unit {0}) E → List ℕ → List ℕ → List ℕ → Type 0
Puts (Ok done) before after text = after ≡ before ++ text
Puts (Err failed) before after text = AddsPrefix before after text

-- the same, by the status
abbrev pub PutsBy : Status → List ℕ → List ℕ → List ℕ → Type 0
PutsBy Done before after text = after ≡ before ++ text
PutsBy Words before after text = ⊥
PutsBy Limit before after text = ⊥
PutsBy Source before after text = ⊥
PutsBy Sink before after text = AddsPrefix before after text
PutsBy Refused before after text = after ≡ before ++ text
PutsBy Memory before after text = ⊥
PutsBy Spent before after text = ⊥

-- the status after all was put, or that of the sink where it failed
abbrev pub ended : {E : Type 0} → Result (Unit {0}) E → Status → Status
ended (Ok done) status = status
ended (Err failed) status = Sink

-- the text for drives of these units was put; Told: whether the sink's bytes are told
pub record Prints (Told : Type 0) (status : Status) (units before after : List ℕ) : Type 0 where
  pub answer : Result Layers PlanError
  pub is_answer : IsAnswer units answer
  pub status_is : (status ≡ answer_status answer) ⊎ (status ≡ Sink)
  pub puts : Told → PutsBy status before after (answer_text units answer)
