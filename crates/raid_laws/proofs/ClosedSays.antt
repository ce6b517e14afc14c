-- What contents say goes by the plan nowhere.
use Rattle.std.proofs.Common.{◌≡◌, ℕ, Bool, refl, sym, ◌∙◌}
use Rattle.rack.specs.Values.{Values}
use Rattle.rack.specs.Seen.{Image}
use Rattle.md_super.specs.declared.superblock.Super.{Super}
use Rattle.pool_state.specs.declared.contents.State.{State}
use Rattle.array_image.specs.States.{current_places}
use Rattle.array_image.specs.Supers.{truth_in}
use Rattle.array_image.specs.SoundArray.{IsSoundArray}
use Rattle.array_image.specs.Arrays.{Shape, shape_by, shape_in}
use Rattle.array_model.specs.Says.{ImageShowsArray}
use Rattle.raid_laws.specs.Works.{closed}

pub truth_closed : (s : State) (r : Image) (n : ℕ) → truth_in (closed s) r n ≡ truth_in s r n
unfolding truth_in current_places
truth_closed s r n = refl

pub shape_closed : (s : State) (r : Image) (n : ℕ) → shape_in (closed s) r n ≡ shape_in s r n
unfolding truth_in current_places shape_by
shape_closed s r n = refl

sound_closed : (s : State) (r : Image) (n : ℕ) (u : Super) → IsSoundArray s r n u → IsSoundArray (closed s) r n u
sound_closed s r n u sound = record {
  two = sound.two;
  written = sound.written;
  same = sound.same;
  rebuilt = sound.rebuilt;
  even = λ joined shape is. sound.even joined shape (sym (shape_closed s r n) ∙ is);
}

pub says_closed : (s : State) (n : ℕ) (shape : Shape) (vals : ℕ → Values) (spent : ℕ → Bool) (r : Image) → ImageShowsArray s n shape vals spent r → ImageShowsArray (closed s) n shape vals spent r
says_closed s n shape vals spent r says = record {
  shape_is = shape_closed s r n ∙ says.shape_is;
  value = says.value;
  is_sound = λ u is. sound_closed s r n u (says.is_sound u (sym (truth_closed s r n) ∙ is));
}
