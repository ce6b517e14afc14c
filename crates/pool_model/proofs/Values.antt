-- Where the arrays of a book hold what the pool's do, the pool that is found again has the same volumes, and the same bad arrays.
use Rattle.std.proofs.Common.{◌≡◌, ℕ, ◌<◌, ◌≤◌, List, [], length, Option, Some, sym, ap, subst, ◌∙◌, arith}
use Rattle.std.specs.Option.{option_map_or}
use Rattle.rack.specs.Values.{MayLeave}
use Rattle.rack.specs.Seen.{Image, RackView}
use Rattle.shr_base.specs.declared.Id.{Id}
use Rattle.slice_rack.specs.Slices.{Slices}
use Rattle.pool_state.specs.declared.contents.State.{State}
use Rattle.array_image.specs.Arrays.{Shape, sectors_by, value_by}
use Rattle.array_model.specs.View.{sectors_of as sectors_in, shape_of}
use Rattle.raid_laws.specs.Raid.{Raid, held_in, live_of}
use Rattle.pool_image.specs.Drives.{Found, slices_of}
use Rattle.pool_image.specs.Meaning.{array_sectors, arrays_held, joined_arrays, shape_of as shape_found}
use Rattle.pool_image.specs.Volumes.{Arrays, first_bad}
use Rattle.pool_image.proofs.Groups.{AreWholeArrays}
use Rattle.pool_image.proofs.Joined.{AreAlike, bad_kept, group_kept, volumes_kept}
use Rattle.pool_image.specs.Replay.{Standing}
use Rattle.pool_model.specs.Left.{RecoversSameVolume}
use Rattle.pool_model.proofs.Again.{known_again}
use Rattle.pool_model.proofs.Copies.{c, IsKnown, s}
use Rattle.pool_model.proofs.Still.{members, same}
use Rattle.pool_model.proofs.Current.{array_current, shape_current}
use Rattle.pool_model.proofs.Known.{says, says_pool}
use Rattle.pool_model.proofs.Rested.{now, stood}
use Rattle.pool_model.proofs.Said.{SaysPool}
use Rattle.pool_model.proofs.Undamaged.{present_now, sound_parts}

-- No sector of the arrays that are ready for the volume is spent, and they have the sectors and the contents of the pool's, whole sectors with
-- room for a label. They have the shapes of the pool's.
pub record HoldValues (f : Found) (v : Raid) (y : RackView) : Type 0 where
  pub live : (n x : ℕ) → n < f.state.joined → x < sectors_in (v.arrays n) → live_of v n x
  pub sectors : (n : ℕ) → n < f.state.joined → sectors_in (v.arrays n) ≡ array_sectors f n
  pub values : (n x : ℕ) (u : List ℕ) → n < f.state.joined → x < array_sectors f n → live_of v n x → MayLeave (held_in v y n x) u → u ≡ arrays_held f n x
  pub whole : (n x : ℕ) → n < f.state.joined → length (arrays_held f n x) ≡ 512
  pub room : (n : ℕ) → n < f.state.joined → 4 ≤ array_sectors f n
  pub shapes : (n : ℕ) → n < f.state.joined → shape_found f n ≡ Some (shape_of (v.arrays n))

module _ (f : Found) (t : Slices) (v : Raid) (y : RackView) (i : Image) (known : IsKnown f t v y i) (holds : HoldValues f v y) where
  abbrev book : State
  book = s f t v y i known

  abbrev held : Image
  held = c f t v y i known

  abbrev g : Found
  g = now f t v y i known

  abbrev rest : Standing
  rest = stood f t v y i known

  abbrev said : SaysPool f t v.state i
  said = says_pool f t v y i known

  all_valid : (1 ≤ f.state.joined) × (f.state.joined ≤ f.state.made)
  all_valid = known.is.joined

  made_low : (n : ℕ) → n < f.state.joined → n < f.state.made
  made_low n low = (let most = all_valid.1 in omega (arith, low, most))

  module _ (n : ℕ) (low : n < f.state.joined) where
    shape_now : shape_found g n ≡ Some (shape_of (v.arrays n))
    shape_now =
        shape_current book (slices_of g) held n (same f t v.state i rest said n (made_low n low))
        ∙ (says f t v y i known n (made_low n low)).shape_is

    sectors_now : array_sectors g n ≡ array_sectors f n
    unfolding shape_of
    sectors_now = ap (λ (o : Option Shape). option_map_or sectors_by o 0) shape_now ∙ holds.sectors n low

    values_now : (x : ℕ) → x < array_sectors f n → arrays_held g n x ≡ arrays_held f n x
    values_now x inside =
        let less = made_low n low in
        let alive : live_of v n x = holds.live n x low (subst (λ k. x < k) (sym (holds.sectors n low)) inside) in
        array_current book (slices_of g) held n (same f t v.state i rest said n less) (members f t v.state i rest said n less) x
        ∙ ap (λ (o : Option Shape). option_map_or (λ shape. value_by shape held n x) o []) (says f t v y i known n less).shape_is
        ∙ holds.values n x (value_by (shape_of (v.arrays n)) held n x) low inside alive ((says f t v y i known n less).value x alive)

  whole : AreWholeArrays (joined_arrays f)
  whole = record { whole = λ n low x inside. holds.whole n x low; room = λ n low. holds.room n low }

  alike : AreAlike (joined_arrays g) (joined_arrays f)
  alike = record {
    pool = ap (λ (k : Id). k.0) known.served.after.same.pool;
    extent = known.served.after.same.extent;
    joined = known.served.after.same.joined;
    sectors = sectors_now;
    contents = λ n x low inside. values_now n low x inside;
  }

  abbrev before : Arrays
  before = joined_arrays f

  abbrev after : Arrays
  after = joined_arrays g

  pub shape_same : (n : ℕ) → n < f.state.joined → shape_found g n ≡ shape_found f n
  shape_same n low = shape_now n low ∙ sym (holds.shapes n low)

  pub bad_same : first_bad after ≡ first_bad before
  bad_same = bad_kept after before alike whole

  pub same_again : RecoversSameVolume f t book i
  unfolding known_again
  same_again = record {
    again = known_again f t v y i known;
    sectors = sectors_now;
    values = λ n x low inside. values_now n low x inside;
    group = group_kept after before alike whole;
    bad = bad_same;
    present = present_now f t v y i known;
    parts = λ p d here seat. sound_parts f t v y i known p d here seat;
    shapes = shape_same;
    volumes = λ sound. volumes_kept after before alike whole all_valid.0 sound;
  }
