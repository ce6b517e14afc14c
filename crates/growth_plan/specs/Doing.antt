-- A book after a work. The epoch of the state, which each change of it raises, has no part in the works and stays here.
use Rattle.std.specs.Prelude.{◌≡◌, ℕ, pos, ◌+◌, ◌-◌, Bool, true, false, ◌==◌, nat_lt, if◌then◌else◌, List, [], ◌∷◌, ◌++◌, length, map, sum, None}
use Rattle.std.specs.List.{enumerate_from}
use Rattle.std.specs.Option.{option_map_or}
use Rattle.pool_state.specs.declared.contents.Plan.TheVariants.{Nothing}
use Rattle.pool_state.specs.declared.contents.State.{State}
use Rattle.pool_state.specs.declared.contents.Work.{Work}
use Rattle.pool_state.specs.declared.contents.Work.TheVariants.{Resync, Rebuild, TakeOver, Begin, Reshape, Finish, Make, Zero, Ready, Extend, Close}
use Rattle.layer_plan.specs.Layering.{places_reaching}
use Rattle.growth_plan.specs.declared.ArrayNow.{ArrayNow}
use Rattle.growth_plan.specs.declared.Progress.{Progress}
use Rattle.growth_plan.specs.Book.{units_of, height_of}
use Rattle.growth_plan.specs.Target.{layer_above, new_layer, targets}
use Rattle.growth_plan.specs.Works.{rows_of}

pub record Book : Type 0 where
  pub state : State
  pub progress : Progress

-- the array of this number is changed, and all others stay
abbrev pub change : ℕ → (ArrayNow → ArrayNow) → List ArrayNow → List ArrayNow
change number to arrays = map (λ x. if x.0 == number then to x.1 else x.1) (enumerate_from 0 arrays)

abbrev pub with_arrays : State → Progress → List ArrayNow → Book
with_arrays s p arrays = record { state = s; progress = record p { arrays = record { items = arrays } } }

-- so many rows are resynced
abbrev pub rows_resynced : ℕ → ArrayNow → ArrayNow
rows_resynced rows a = record a { resync = a.resync - rows }

-- so many rows are rebuilt: the last one ends the rebuild
abbrev pub rows_rebuilt : ℕ → ArrayNow → ArrayNow
rows_rebuilt rows a = record a { rebuild = a.rebuild - rows; rebuilding = if a.rebuild == rows then 0 else a.rebuilding }

-- so many rows are moved
abbrev pub rows_reshaped : ℕ → ArrayNow → ArrayNow
rows_reshaped rows a = record a { reshape = a.reshape - rows }

-- so many rows of a young array are zeroed
abbrev pub rows_zeroed : ℕ → ArrayNow → ArrayNow
rows_zeroed rows a = record a { zero = a.zero - rows }

-- a place among others, which are in ascending order
abbrev pub inserted : ℕ → List ℕ → List ℕ
inserted place [] = place ∷ []
inserted place (other ∷ places) = if nat_lt place other then place ∷ other ∷ places else other ∷ inserted place places

abbrev pub begun : ℕ → ArrayNow → ArrayNow
begun place a = record a { members = record { items = inserted place a.members.items }; reshaping = true; reshape = a.rows }

-- a new array between all others and a level so far above them, with no row written yet
abbrev pub new_array : State → List ArrayNow → ℕ → ArrayNow
new_array s arrays height =
    let members = places_reaching (units_of s) (height_of arrays + height) in
    record {
      level = if length members == 2 then pos 1 else pos 5;
      members = record { items = members };
      height = height;
      rows = rows_of s height;
      resync = 0;
      rebuild = 0;
      rebuilding = 0;
      reshaping = false;
      reshape = 0;
      zero = rows_of s height;
    }

-- the book after a work is done
abbrev pub after : Work → State → Progress → Book
after (Resync n) s p = with_arrays s p (change n (rows_resynced 1) p.arrays.items)
after (Rebuild n place) s p = with_arrays s p (change n (rows_rebuilt 1) p.arrays.items)
after (TakeOver n) s p = with_arrays s p (change n (λ a. record a { level = pos 5 }) p.arrays.items)
after (Begin n place) s p = with_arrays s p (change n (begun place) p.arrays.items)
after (Reshape n) s p = with_arrays s p (change n (rows_reshaped 1) p.arrays.items)
after (Finish n) s p = with_arrays s p (change n (λ a. record a { reshaping = false }) p.arrays.items)
after (Make n height) s p =
    with_arrays (record s { made = s.made + 1 }) p (p.arrays.items ++ new_array s p.arrays.items height ∷ [])
after (Zero n) s p = with_arrays s p (change n (rows_zeroed 1) p.arrays.items)
after (Ready n) s p = record { state = record s { joined = s.made }; progress = p }
after Extend s p = record { state = s; progress = record p { extents = sum (targets s p.arrays.items) } }
after Close s p = record { state = record s { plan = Nothing }; progress = p }

-- how high the layers stand at the plan's end
abbrev pub top_at_end : State → List ArrayNow → ℕ
top_at_end s arrays = height_of arrays + option_map_or (λ layer. layer.height) (new_layer s arrays) 0

-- a change gives one new layer at most: the drives have room for none above it
pub record HasOneLayer (s : State) (arrays : List ArrayNow) : Type 0 where
  pub no_other : layer_above (units_of s) (top_at_end s arrays) ≡ None

-- a work on a new layer
abbrev pub is_of_layer : Work → Bool
is_of_layer (Resync n) = false
is_of_layer (Rebuild n place) = false
is_of_layer (TakeOver n) = false
is_of_layer (Begin n place) = false
is_of_layer (Reshape n) = false
is_of_layer (Finish n) = false
is_of_layer (Make n height) = true
is_of_layer (Zero n) = true
is_of_layer (Ready n) = true
is_of_layer Extend = false
is_of_layer Close = false
