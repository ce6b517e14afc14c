-- An array that stands with some values stands with what it holds.
use Rattle.std.proofs.Common.{◌≡◌, ℕ, Bool, false, None, sym, ◌∙◌}
use Rattle.rack.specs.Values.{Values, Keeps}
use Rattle.rack.specs.Seen.{RackView}
use Rattle.pool_state.specs.declared.contents.State.{State}
use Rattle.array_image.specs.Arrays.{Shape}
use Rattle.array_image.specs.Held.{held_by, IsSynced}
use Rattle.array_image.proofs.Sources.{source_of, picked_value, held_current, source_counts}
use Rattle.array_model.specs.View.{View, shape_of, may_vary}
use Rattle.array_model.specs.Says.{ShapeInvariant, ArrayInvariant}
use Rattle.array_model.proofs.Losses.{left_picks}
use Rattle.raid_laws.specs.Raid.{Raid, InvariantInCall}

-- where a sector has no source, its array's members have one value a sector
abbrev pub IsSourced : View → (ℕ → Bool) → RackView → Type 0
IsSourced v spent x = (y : ℕ) → spent y ≡ false → source_of (shape_of v) y ≡ None → IsSynced (shape_of v) v.number x.held

own_shape : (s : State) (v : View) (vals : ℕ → Values) (spent : ℕ → Bool) (x : RackView) → IsSourced v spent x
    → ShapeInvariant s v.number (shape_of v) (shape_of v) v.resync (may_vary v) vals spent x
    → ShapeInvariant s v.number (shape_of v) (shape_of v) v.resync (may_vary v) (held_by (shape_of v) x.held v.number) spent x
own_shape s v vals spent x sourced holds =
    let n = v.number in
    let shape = shape_of v in
    record {
      open_slices = holds.open_slices;
      open_left = holds.open_left;
      says = λ r left.
          let says = holds.says r left in
          record {
            shape_is = says.shape_is;
            value = λ y alive. picked_value shape n x.held r y (left_picks n shape x holds.open_left holds.still r left) (sourced y alive);
            is_sound = says.is_sound;
          };
      still = holds.still;
      within = λ y alive u left keeps. left;
      current = λ y alive. sym (held_current shape n x.held y);
      sized = holds.sized;
      even = holds.even;
      settled = holds.settled;
    }

-- the values that it holds are among those
pub own_keeps : (s : State) (v : View) (vals : ℕ → Values) (spent : ℕ → Bool) (x : RackView) (y : ℕ)
    → ShapeInvariant s v.number (shape_of v) (shape_of v) v.resync (may_vary v) vals spent x
    → spent y ≡ false → Keeps (vals y) (held_by (shape_of v) x.held v.number y)
own_keeps s v vals spent x y holds alive =
    record {
      current = held_current (shape_of v) v.number x.held y ∙ holds.current y alive;
      within = λ u left. holds.within y alive u left (λ m is. (source_counts (shape_of v) y m is).among);
    }

pub own_holds : (s : State) (v : View) (vals : ℕ → Values) (spent : ℕ → Bool) (x : RackView) → IsSourced v spent x
    → ArrayInvariant s (shape_of v) v vals spent x → ArrayInvariant s (shape_of v) v (held_by (shape_of v) x.held v.number) spent x
own_holds s v vals spent x sourced holds =
    record {
      shape = own_shape s v vals spent x sourced holds.shape;
      mark = holds.mark;
      truth = holds.truth;
      alone = holds.alone;
      closed = holds.closed;
    }

-- ---- fewer sectors

-- what holds of some sectors holds of fewer
pub fewer_holds : (s : State) (durable : Shape) (v : View) (vals : ℕ → Values) (spent now : ℕ → Bool) (x : RackView)
    → ((y : ℕ) → now y ≡ false → spent y ≡ false) → ArrayInvariant s durable v vals spent x → ArrayInvariant s durable v vals now x
fewer_holds s durable v vals spent now x fewer holds =
    let shape = holds.shape in
    record {
      shape = record {
        open_slices = shape.open_slices;
        open_left = shape.open_left;
        says = λ r left.
            let says = shape.says r left in
            record { shape_is = says.shape_is; value = λ y alive. says.value y (fewer y alive); is_sound = says.is_sound };
        still = shape.still;
        within = λ y alive. shape.within y (fewer y alive);
        current = λ y alive. shape.current y (fewer y alive);
        sized = shape.sized;
        even = shape.even;
        settled = shape.settled;
      };
      mark = holds.mark;
      truth = holds.truth;
      alone = holds.alone;
      closed = holds.closed;
    }

pub fewer_stood : (s : State) (durable : Shape) (vals : ℕ → Values) (spent now gone : ℕ → Bool) (v : Raid) (x : RackView) (n : ℕ)
    → ((y : ℕ) → now y ≡ false → spent y ≡ false) → InvariantInCall s durable vals spent gone v x n → InvariantInCall s durable vals now gone v x n
fewer_stood s durable vals spent now gone v x n fewer stood =
    record {
      joined = stood.joined;
      few = stood.few;
      number = stood.number;
      log = stood.log;
      someone = stood.someone;
      written = stood.written;
      holds = fewer_holds s durable (v.arrays n) vals spent now x fewer stood.holds;
    }
