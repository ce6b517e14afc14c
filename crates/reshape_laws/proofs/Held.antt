-- What an array holds, of fewer sectors and of all.
use Rattle.std.proofs.Common.{◌≡◌, ℕ, ◌+◌, Bool, false, sym, subst, ◌∙◌}
use Rattle.rack.specs.Values.{Values, MayLeave}
use Rattle.rack.specs.Seen.{RackView}
use Rattle.pool_state.specs.declared.contents.State.{State}
use Rattle.array_image.specs.Places.{member_slice, data_sector}
use Rattle.array_image.specs.Arrays.{Shape}
use Rattle.array_image.specs.Held.{held_by, held_of}
use Rattle.array_image.proofs.Sources.{held_current, picked_value}
use Rattle.array_model.specs.View.{View, may_vary, shape_of}
use Rattle.array_model.specs.Says.{ArrayInvariant}

-- where more sectors are spent
pub holds_fewer : (s : State) (durable : Shape) (v : View) (vals : ℕ → Values) (spent more : ℕ → Bool) (x : RackView)
    → ((y : ℕ) → more y ≡ false → spent y ≡ false) → ArrayInvariant s durable v vals spent x → ArrayInvariant s durable v vals more x
holds_fewer s durable v vals spent more x fewer holds =
    let shape = holds.shape in
    record {
      shape = record {
        open_slices = shape.open_slices;
        open_left = shape.open_left;
        says = λ r left.
            let says = shape.says r left in
            record { shape_is = says.shape_is; value = λ y alive. says.value y (fewer y alive); is_sound = says.is_sound };
        still = shape.still;
        within = λ y alive. shape.within y (fewer y alive);
        current = λ y alive. shape.current y (fewer y alive);
        sized = shape.sized;
        even = shape.even;
        settled = shape.settled;
      };
      mark = holds.mark;
      alone = holds.alone;
      closed = holds.closed;
      truth = holds.truth;
    }

-- Where each sector of a member has one value, whatever a stop leaves gives each sector of the array the value that the members give now.
pub holds_all : (s : State) (v : View) (vals : ℕ → Values) (spent : ℕ → Bool) (x : RackView) → may_vary v ≡ false → ArrayInvariant s (shape_of v) v vals spent x
    → ArrayInvariant s (shape_of v) v (held_by (shape_of v) x.held v.number) (λ y. false) x
holds_all s v vals spent x steady holds =
    let shape = holds.shape in
    record {
      shape = record {
        open_slices = shape.open_slices;
        open_left = shape.open_left;
        says = λ r left.
            let says = shape.says r left in
            record {
              shape_is = says.shape_is;
              value = λ y alive.
                  picked_value (shape_of v) v.number x.held r y
                  (λ m t among counts.
                  subst (MayLeave (held_of x.held v.number t m))
                  (sym (left.2 (member_slice m.place v.number) (data_sector + t) ∙ shape.still left.0 left.1 m t among counts))
                  (left.1.picks (member_slice m.place v.number) (data_sector + t) (shape.open_left m t among counts)))
                  (λ none. shape.settled steady);
              is_sound = says.is_sound;
            };
        still = shape.still;
        within = λ y alive u leaves source. leaves;
        current = λ y alive. sym (held_current (shape_of v) v.number x.held y);
        sized = shape.sized;
        even = shape.even;
        settled = shape.settled;
      };
      mark = holds.mark;
      alone = holds.alone;
      closed = holds.closed;
      truth = holds.truth;
    }
