-- What a stop between two calls of a pool leaves on its disks holds a sound pool again.
use Rattle.std.proofs.Common.{◌≡◌, ℕ, ◌+◌, ◌<◌, Bool, if◌then◌else◌, [], Option, Some, None, unwrap_or, refl, sym, ap, subst, ◌∙◌, le-ltb, lt-ltb, arith}
use Rattle.std.specs.Option.{option_map_or}
use Rattle.rack.specs.Values.{MayLeave}
use Rattle.rack.specs.Seen.{Image, IsLive, IsPick, RackView}
use Rattle.rack.specs.Sequences.{WritesOnly}
use Rattle.slice_rack.specs.Laws.{sector_below}
use Rattle.slice_rack.specs.Runs.{IsSliced}
use Rattle.slice_rack.specs.Slices.{Slices, disk_of, first_of as slice_first, place_of as slice_place, seat_of as slice_seat, sectors_of}
use Rattle.slice_rack.specs.Sliced.{IsInside, sliced, slices_of as slices_shown}
use Rattle.pool_state.specs.declared.contents.State.{State}
use Rattle.array_image.specs.Arrays.{array_in, arrays_in, replayed, shape_in}
use Rattle.array_image.specs.Left.{Picks}
use Rattle.array_image.specs.States.{state_in}
use Rattle.array_image.specs.Supers.{truth_in}
use Rattle.log_laws.proofs.Kept.{live_after, live_on}
use Rattle.raid_laws.specs.Raid.{Raid}
use Rattle.pool_image.specs.Disks.{Disks, disks_of}
use Rattle.pool_image.specs.Drives.{Found, found, slices_of}
use Rattle.pool_image.specs.Meaning.{arrays_held, shape_of, truth_of}
use Rattle.pool_model.specs.InService.{IsOutset}
use Rattle.pool_model.specs.Pools.{IsSoundPool}
use Rattle.pool_model.specs.Left.{NoStraySuperblock, NoStraySuperblockBy, RecoversIdle, HoldRest, IsLeftBy, IsPickOutsideSlices, IsServed, AreElsewhere}
use Rattle.pool_model.proofs.Copies.{IsKnown, known_of, c, quiet, seat_there, seats_now, state_is}
use Rattle.pool_model.proofs.Current.{shape_current, truth_current}
use Rattle.pool_model.proofs.Extents.{sectors_now}
use Rattle.pool_model.proofs.Found.{found_is}
use Rattle.pool_model.proofs.Outset.{outset_of}
use Rattle.pool_model.proofs.Known.{says_pool}
use Rattle.pool_model.proofs.Rested.{found_now, idle_now, now, sound_logs, stood}
use Rattle.pool_model.proofs.Still.{alone_now, same, slices_now, sound_now, value_now}

module _ (f : Found) (t : Slices) (v : Raid) (y : RackView) (i : Image) (known : IsKnown f t v y i) where
  -- what is pending changes nothing
  still_quiet : replayed (sectors_of t) (c f t v y i known) ≡ c f t v y i known
  still_quiet = λ j k u. quiet f t v y i known k u j

  pub state_known : state_in (replayed (sectors_of t) (c f t v y i known)) ≡ Some v.state
  state_known = ap state_in still_quiet ∙ state_is f t v y i known

  pub truth_known : (n : ℕ) → n < f.state.made → truth_of (now f t v y i known) n ≡ truth_in v.state (replayed (sectors_of t) (c f t v y i known)) n
  truth_known n low =
      truth_current v.state (slices_of (now f t v y i known)) (c f t v y i known) n (same f t v.state i (stood f t v y i known) (says_pool f t v y i known) n low)
      ∙ sym (ap (λ (r : Image). truth_in v.state r n) still_quiet)

  pub shape_known : (n : ℕ) → n < f.state.made → shape_of (now f t v y i known) n ≡ shape_in v.state (replayed (sectors_of t) (c f t v y i known)) n
  shape_known n low =
      shape_current v.state (slices_of (now f t v y i known)) (c f t v y i known) n (same f t v.state i (stood f t v y i known) (says_pool f t v y i known) n low)
      ∙ sym (ap (λ (r : Image). shape_in v.state r n) still_quiet)

  pub value_known : (n x : ℕ) → n < f.state.made → arrays_held (now f t v y i known) n x ≡ arrays_in (replayed (sectors_of t) (c f t v y i known)) n x
  unfolding arrays_in
  value_known n x low =
      value_now f t v.state i (stood f t v y i known) (says_pool f t v y i known) n low x
      ∙ sym (ap (λ (r : Image). option_map_or (λ (z : State). array_in z r n x) (state_in r) []) still_quiet
      ∙ ap (λ (o : Option State). option_map_or (λ z. array_in z (c f t v y i known) n x) o []) (state_is f t v y i known))

  unfoldable pub known_again : RecoversIdle f t v.state i
  known_again = record {
    still = record {
      now = now f t v y i known;
      found_is = found_now f t v y i known;
      sound = sound_now f t v.state i (stood f t v y i known) (says_pool f t v y i known);
      logs = sound_logs f t v y i known;
      state = refl;
      seats = λ p counts. seats_now f t v y i known p counts;
      slices = slices_now f t v.state i (stood f t v y i known) (says_pool f t v y i known);
      joined = known.served.after.same.joined ∙ known.served.joined ∙ sym known.served.after.same.made;
      alone = alone_now f t v.state i (stood f t v y i known) (says_pool f t v y i known) i known.left.alone;
      sectors = sectors_now f t v.state i (stood f t v y i known) (says_pool f t v y i known);
      is_state = state_known;
      truths = truth_known;
      shapes = shape_known;
      values = value_known;
    };
    present = λ p counts. let one = seat_there f t v y i known p counts in (one.0, seats_now f t v y i known p counts ∙ one.1);
    idle = idle_now f t v y i known;
  }

-- Where a pool that was found on disks, a sound one, is served, contents that it leaves hold a sound pool again.
pub opens_again : (disks : Disks) (before : Image) (f : Found) (t : Slices) (v : Raid) (y : RackView) (i : Image)
    → found disks before ≡ Some f → IsSoundPool f → IsServed f t v y → IsLeftBy f t v.state y i → RecoversIdle f t v.state i
opens_again disks before f t v y i found_before sound served left =
    known_again f t v y i (known_of f t v y i (outset_of f (found_is disks before f found_before).0 sound) served left)

-- ---- by the disks

-- contents that the disks of places may be left with
abbrev pub IsPickIn : Slices → RackView → Image → Type 0
IsPickIn t x i = (p d s : ℕ) → slice_seat t p ≡ Some d → IsLive x x d s → MayLeave (x.held d s) (i d s)

pub pick_in : (t : Slices) (x : RackView) (i : Image) → IsPick x x x.held i → IsPickIn t x i
pick_in t x i pick p d s seat live = pick d s live

-- each slice that is there is on a disk
abbrev pub AreOnDisks : Slices → Type 0
AreOnDisks t = (k u : ℕ) → u < sectors_of t k → (d : ℕ) × (slice_seat t (slice_place k) ≡ Some d)

module _ (t : Slices) (x : RackView) (inside : IsInside t x) (slice_on : AreOnDisks t) where
  live_on_disk : (k u : ℕ) → IsLive (slices_shown t x) (slices_shown t x) k u → IsLive x x (disk_of t k) (slice_first t k + u)
  live_on_disk k u live =
      let one = slice_on k u live.sector in
      record {
        disk = subst (λ e. e < x.disks) (sym (ap (λ o. unwrap_or o 0) one.1)) (inside.seats (slice_place k) one.0 one.1);
        sector = sector_below t x k u inside live.sector;
        is_told = live.is_told;
        unspent = live.unspent;
      }

  -- what the disks of slices may be left with is so for these
  picks_sliced : (i : Image) → IsPickIn t x i → Picks (slices_shown t x) (sliced t i)
  picks_sliced i pick = record {
    picks = λ k u live.
        subst (λ w. MayLeave (x.held (disk_of t k) (slice_first t k + u)) w)
        (sym (ap (λ (b : Bool). if b then i (disk_of t k) (slice_first t k + u) else []) (lt-ltb u (sectors_of t k) live.sector)))
        (let one = slice_on k u live.sector in pick (slice_place k) (disk_of t k) (slice_first t k + u) (one.1 ∙ ap Some (sym (ap (λ o. unwrap_or o 0) one.1))) (live_on_disk k u live));
    inside = λ k u past. ap (λ (b : Bool). if b then i (disk_of t k) (slice_first t k + u) else []) (le-ltb u (sectors_of t k) past);
  }

  -- contents that the disks may be left with, which outside the slices are as the pool goes by
  pub left_by : (f : Found) (s : State) (i : Image) → f.disks ≡ disks_of x → AreElsewhere f i → NoStraySuperblockBy s f i → IsPickIn t x i
      → IsLeftBy f t s (slices_shown t x) i
  left_by f s i same elsewhere alone pick = record {
    sectors = λ k. refl;
    picks = picks_sliced i pick;
    inside = λ k d seat some.
        let disk : disk_of t k ≡ d = ap (λ o. unwrap_or o 0) seat in
        let sectors : x.sectors d ≡ f.disks.sectors d = ap (λ (z : Disks). z.sectors d) (sym same) in
        let within = inside.slices k some in
        let here : x.sectors (disk_of t k) ≡ x.sectors d = ap x.sectors disk in
        omega (arith, within, sectors, here);
    elsewhere = elsewhere;
    alone = alone;
  }

module _ (f : Found) (t : Slices) (x : RackView) (v : Raid) (served : IsServed f t v (slices_shown t x)) (inside : IsInside t x) where
  -- a slice that is there is on a disk
  slice_on : (k u : ℕ) → u < sectors_of t k → (d : ℕ) × (slice_seat t (slice_place k) ≡ Some d)
  slice_on k u within = by (f.seats (slice_place k)) refl
    where
      by : (o : Option ℕ) → f.seats (slice_place k) ≡ o → (d : ℕ) × (slice_seat t (slice_place k) ≡ Some d)
      by (Some d) seat = (d, served.slices.seats (slice_place k) ∙ seat)
      by None none = let nothing = served.slices.unseated k none in absurd (omega (arith, within, nothing))

  pub left_known_by : (i : Image) → IsOutset f → f.disks ≡ disks_of x → AreElsewhere f i → NoStraySuperblockBy v.state f i → IsPickIn t x i
      → IsKnown f t v (slices_shown t x) i
  left_known_by i outset same elsewhere alone pick =
      known_of f t v (slices_shown t x) i outset served (left_by t x inside slice_on f v.state i same elsewhere alone pick)

  -- contents that the disks may be left with, which outside the slices are as they were
  pub left_known : (disks : Disks) (before i : Image) → found disks before ≡ Some f → disks ≡ disks_of x → IsSoundPool f → AreElsewhere f i → NoStraySuperblock f i
      → IsPick x x x.held i → IsKnown f t v (slices_shown t x) i
  left_known disks before i found_before same sound elsewhere alone pick =
      let at = found_is disks before f found_before in
      left_known_by i (outset_of f at.0 sound) (at.1 ∙ same) elsewhere (λ n p d first low counts seat. alone n p d first low seat) (pick_in t x i pick)

  -- Disks of a served pool, which outside its slices are as they were: what they may be left with holds a sound pool again.
  pub left_again : (disks : Disks) (before i : Image)
      → found disks before ≡ Some f → disks ≡ disks_of x → IsSoundPool f → HoldRest f t x → IsPick x x x.held i → RecoversIdle f t v.state i
  left_again disks before i found_before same sound rest pick =
      known_again f t v (slices_shown t x) i
      (left_known disks before i found_before same sound (rest.elsewhere i (λ d u live never. pick d u live)) (rest.alone i (λ d u live never. pick d u live)) pick)

-- Calls that write slices alone leave the rest of the disks as it was.
pub off_later : (t : Slices) (x y : RackView) (i : Image) → x.lasting → WritesOnly x y (IsSliced t) → IsPickOutsideSlices t y i → IsPickOutsideSlices t x i
off_later t x y i lasting only off d u live never =
    let over = live_on lasting only.stays live in
    (only.others d u over never).within (i d u) (off d u (live_after only.stays over) never)

pub rest_later : (f : Found) (t : Slices) (x y : RackView) → x.lasting → WritesOnly x y (IsSliced t) → HoldRest f t x → HoldRest f t y
rest_later f t x y lasting only rest = record {
  elsewhere = λ i off. rest.elsewhere i (off_later t x y i lasting only off);
  alone = λ i off. rest.alone i (off_later t x y i lasting only off);
}
