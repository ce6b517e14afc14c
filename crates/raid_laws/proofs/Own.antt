-- What contents say of the arrays.
use Rattle.std.proofs.Common.{◌≡◌, ℕ, Bool, false, [], Some, None, refl, sym, subst, ◌∙◌}
use Rattle.rack.specs.Values.{Values, MayLeave}
use Rattle.rack.specs.Seen.{Image}
use Rattle.rack.specs.Targets.{look}
use Rattle.pool_state.specs.declared.contents.State.{State}
use Rattle.array_image.specs.States.{state_in}
use Rattle.array_image.specs.Arrays.{Shape, arrays_in}
use Rattle.array_model.specs.Says.{ImageShowsArray}
use Rattle.array_image.proofs.Frames.{Agree, supers_same, truth_by_supers, shape_same, value_same}
use Rattle.array_image.proofs.SoundFrames.{sound_same}
use Rattle.raid_laws.specs.Book.{after_same}
use Rattle.raid_laws.specs.Laws.{says_value}
use Rattle.raid_laws.specs.Marking.{SaysBetween, TiedBetween}
use Rattle.raid_laws.specs.Reach.{KeepsReach}

-- no target
pub look_nothing : (d t : ℕ) → look [] d t ≡ None
unfolding look
look_nothing d t = refl

-- what is said of an array goes by its own slices
pub says_same : (s : State) (array : ℕ) (shape : Shape) (vals : ℕ → Values) (spent : ℕ → Bool) (c e : Image) → Agree array c e
    → ImageShowsArray s array shape vals spent e → ImageShowsArray s array shape vals spent c
says_same s array shape vals spent c e agree says =
    record {
      shape_is = shape_same s c e array agree ∙ says.shape_is;
      value = λ y alive. subst (MayLeave (vals y)) (sym (value_same shape c e array y agree)) (says.value y alive);
      is_sound = λ t is. sound_same s c e array t agree (says.is_sound t (sym (truth_by_supers s c e array (supers_same s c e array agree)) ∙ is));
    }

-- contents of a state that say something by it
pub tied_at : (s : State) (first last : Shape) (array : ℕ) (shape : Shape) (vals : ℕ → Values) (spent : ℕ → Bool) (r : Image) → state_in r ≡ Some s
    → KeepsReach s first shape → KeepsReach s shape last → ImageShowsArray s array shape vals spent r → TiedBetween s s first last array vals spent r
tied_at s first last array shape vals spent r state from to says = record {
  says = record { state = s; is_state = state; later = after_same s; sooner = after_same s; shape = shape; says = says };
  from = from;
  to = to;
}

-- they give its values
pub between_value : (s t : State) (array : ℕ) (vals : ℕ → Values) (spent : ℕ → Bool) (r : Image) (y : ℕ) → SaysBetween s t array vals spent r → spent y ≡ false
    → MayLeave (vals y) (arrays_in r array y)
between_value s t array vals spent r y at alive = says_value at.state array at.shape vals spent r y at.is_state at.says alive
