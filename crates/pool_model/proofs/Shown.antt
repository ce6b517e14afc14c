-- Contents that show of a stop inside a call what the call tells of it hold the pool still.
use Rattle.std.proofs.Common.{◌≡◌, ℕ, ◌-◌, ◌<◌, ◌≤◌, ◌^◌, true, length, Some, sym, ap, subst, ◌∙◌, arith}
use Rattle.rack.specs.Seen.{Image}
use Rattle.slice_rack.specs.Slices.{Slices, sectors_of}
use Rattle.slice_rack.specs.Sliced.{sliced}
use Rattle.md_super.specs.declared.superblock.Super.{Super}
use Rattle.pool_state.specs.declared.contents.State.{State}
use Rattle.array_image.specs.Arrays.{replayed}
use Rattle.array_image.specs.SoundArray.{IsSoundArray}
use Rattle.array_image.specs.States.{is_current}
use Rattle.array_image.specs.Supers.{truth_in}
use Rattle.array_core.proofs.Stripped.{some_same}
use Rattle.raid_laws.specs.Book.{OnlyMarksSince, after_then}
use Rattle.raid_laws.specs.Frames.{Frame, frame_of}
use Rattle.raid_laws.specs.Raid.{Raid}
use Rattle.raid_laws.proofs.Frames.{geometry_frame}
use Rattle.pool_image.specs.Disks.{Identities}
use Rattle.pool_image.specs.Drives.{Found, slices_of as found_slices}
use Rattle.pool_image.specs.Meaning.{truth_of}
use Rattle.pool_model.specs.Laid.{IsCalledBy, ShowsParts, ShowsStop}
use Rattle.pool_model.specs.Stopped.{RecoversBetween, SaysArray, SaysStopped, StandFor}
use Rattle.pool_model.proofs.Alike.{alone_said, has_truths, truth_same}
use Rattle.pool_model.proofs.Current.{shape_truth}
use Rattle.pool_model.proofs.Framed.{named_same, truth_placed}
use Rattle.pool_model.proofs.InService.{still_said}
use Rattle.pool_model.proofs.Inside.{stopped_still}
use Rattle.pool_model.proofs.Named.{same_length}
use Rattle.pool_model.proofs.Pending.{apart_now, lower_now, stood_in_log}
use Rattle.pool_model.proofs.Stopped.{stopped_stands}

module _ (f : Found) (t : Slices) (v w : Raid) (i : Image) (is : IsCalledBy f t v) (shows : ShowsParts f t v w i)
    (someone : (s : State) → OnlyMarksSince v.state s → OnlyMarksSince s w.state → (p d : ℕ) × (is_current s p ≡ true) × (f.seats p ≡ Some d)) where
  few : f.state.made ≤ 16
  few = is.arranged.made.1

  abbrev r : Image
  r = replayed (sectors_of t) (sliced t i)

  abbrev s : State
  s = shows.logs.state

  -- ---- the disks outside the slices

  abbrev e : Identities
  e = shows.said.identities

  abbrev said : Found
  said = record f { identities = e }

  has : (n : ℕ) → n < f.state.made → (u : Super) × (truth_of f n ≡ Some u)
  has = is.arranged.truths

  truth_said : (n : ℕ) → n < f.state.made → truth_of said n ≡ truth_of f n
  truth_said n low = truth_same f said few has (has_truths f e few has) n low

  -- ---- arrays

  places : length s.drives.items ≤ 16
  places =
      let same = same_length s.drives.items f.state.drives.items (after_then f.state v.state s is.after shows.logs.later).same.drives in
      let most = is.arranged.places in
      omega (arith, same, most)

  array_said : (n : ℕ) → n < f.state.made → SaysArray said s r n
  array_said n low =
      let between = shows.arrays n low in
      let state : between.state ≡ s = some_same between.state s (sym between.is_state ∙ shows.logs.says.is_state) in
      let one = shape_truth between.state r n (truth_in between.state r n) between.shape between.shape_is in
      let truth : truth_in s r n ≡ Some one.0 = subst (λ (z : State). truth_in z r n ≡ Some one.0) state one.1 in
      let framed : (u : Super) → truth_of said n ≡ Some u → frame_of one.0 ≡ frame_of u =
      λ u at.
      shows.frames n low s one.0 shows.logs.says.is_state truth
      ∙ geometry_frame u (v.arrays n).truth (is.geometry n u low (sym (truth_said n low) ∙ at)) in
      record {
        truth = one.0;
        is_truth = truth;
        sound = subst (λ (z : State). IsSoundArray z r n one.0) state (between.is_sound one.0 one.1);
        size = λ u at. ap (λ (g : Frame). g.size) (framed u at);
        layout = λ u at. ap (λ (g : Frame). g.layout) (framed u at);
        named = λ u p at.
            named_same one.0 u (truth_placed s r n one.0 places truth) (truth_placed f.state (found_slices said) n u is.arranged.places at) (framed u at) p;
      }

  pub says_stopped : SaysStopped said t v.state s i
  says_stopped = record {
    is = shows.said.outset;
    begun = is.after;
    after = shows.logs.later;
    joined = is.joined;
    slices = is.slices e;
    orderly = is.orderly;
    inside = is.inside;
    absent = shows.absent;
    someone = someone s shows.logs.later shows.logs.sooner;
    tables = λ p d now. shows.tables p d (shows.logs.later.current p now);
    says = shows.logs.says;
    arrays = array_said;
    elsewhere = shows.said.elsewhere;
    alone = alone_said f e few has s i (λ n p d begins low now. shows.alone n p d begins low (shows.logs.later.current p now));
  }

  -- So it is where they stand for the state.
  pub stood_between : StandFor said t s i → RecoversBetween f t v.state w.state i
  unfolding stopped_still still_said
  stood_between st = record {
    state = s;
    later = shows.logs.later;
    sooner = shows.logs.sooner;
    still = still_said f e t s i (stopped_still said t v.state s i says_stopped st);
    apart = apart_now said t v.state s i says_stopped st;
    stood = stood_in_log said t v.state s i says_stopped st;
    lower = lower_now said t v.state s i says_stopped st;
  }

-- With copies since the book they do.
pub shown_between : (f : Found) (t : Slices) (v w : Raid) (i : Image) → IsCalledBy f t v → ShowsStop f t v w i → w.state.epoch < 2 ^ 63 - 1
    → ((s : State) → OnlyMarksSince v.state s → OnlyMarksSince s w.state → (p d : ℕ) × (is_current s p ≡ true) × (f.seats p ≡ Some d)) → RecoversBetween f t v.state w.state i
shown_between f t v w i is shows enough someone =
    let parts = shows.parts in
    let said : Found = record f { identities = parts.said.identities } in
    let s = parts.logs.state in
    stood_between f t v w i is parts someone
    (stopped_stands said t v.state s i
    (record {
      stop = says_stopped f t v w i is parts someone;
      room = (let up = parts.logs.sooner.epoch in omega (arith, enough, up));
      former = shows.former;
      since = shows.since;
    }))
