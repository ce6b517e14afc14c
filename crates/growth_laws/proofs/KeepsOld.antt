-- A work of a growth keeps the sectors that arrays have, and what they hold, where it makes its change of the book between losses.
use Rattle.std.proofs.Common.{◌≡◌, ℕ, ◌+◌, ◌^◌, ◌<◌, ◌≤◌, ◌&&◌, Bool, true, false, not, nat_le, if◌then◌else◌, List, ◌∷◌, ◌++◌, length, refl, eqb-true, sym, ap, subst, ◌∙◌, inl, inr, le-ltb, leb-true, ap₂, bit_and, ◌==◌, int_eq, pos, ◌-◌, ◌*◌, arith}
use Rattle.std.proofs.lemmas.Bool.{and_from, and_parts, both_ways, cases_lt}
use Rattle.std.proofs.lemmas.Option.{slice_get_past}
use Rattle.std.specs.List.{list_all}
use Rattle.std.specs.Option.{option_map_or}
use Rattle.rack.specs.Values.{only, Values}
use Rattle.rack.specs.Seen.{RackView}
use Rattle.shr_base.specs.declared.Id.{Id}
use Rattle.md_super.specs.Profile.{is_mirror}
use Rattle.parity.specs.Xor.{zeros}
use Rattle.pool_state.specs.declared.contents.State.{State}
use Rattle.pool_state.specs.Valid.{has_arrays, has_epoch, has_places, is_drive, is_extent, is_valid}
use Rattle.array_image.specs.Places.{member_id}
use Rattle.array_image.specs.States.{is_current}
use Rattle.array_image.specs.Supers.{is_reshaping}
use Rattle.array_model.specs.View.{IsArray, IsSameArray, sectors_of, View}
use Rattle.array_core.specs.Superblocks.{raised, settled}
use Rattle.sync_laws.specs.Steps.{if_done}
use Rattle.reshape_laws.specs.Ahead.{ahead_by, finished, taken_over}
use Rattle.reshape_laws.specs.Reshapes.{joined, joining_seat}
use Rattle.raid_laws.specs.Moves.{AreCaused, IsHeeded, IsSet}
use Rattle.raid_laws.specs.Raid.{gone_in, held_in, is_failed, Raid, spent_of, StopsInside}
use Rattle.raid_laws.proofs.Frames.{geometry_frame}
use Rattle.raid_laws.proofs.Others.{place_listed}
use Rattle.raid_laws.proofs.Over.{someone_left}
use Rattle.transition_laws.specs.Changes.{Change, steps}
use Rattle.transition_laws.specs.Growth.{AreReady, GrowsByZeros, HasZerosFrom}
use Rattle.transition_laws.specs.Holds.{has_sector}
use Rattle.transition_laws.specs.Reshaping.{FitsReshape, LeavesWholeRows}
use Rattle.transition_laws.proofs.LongerBooks.{AllKeepOld, KeepsOld, losses_keep, old_joined, step_keeps}
use Rattle.transition_laws.proofs.OldSectors.{IsGrowing, old_values}
use Rattle.transition_laws.proofs.ZeroSectors.{grows_zeros, own_values}
use Rattle.transition_laws.proofs.ReshapeSectors.{ahead_sectors, begun_sectors, finished_sectors, mirror_two, taken_sectors}
use Rattle.transition_laws.proofs.SettledMakes.{settled_sectors}
use Rattle.transition_laws.proofs.SteppedMakes.{framed_sectors}
use Rattle.reshape_laws.proofs.Finishing.{no_mirror}
use Rattle.growth_laws.specs.Growing.{MakesTurn, whole_position}

-- ---- a state that lists a drive has no more arrays of the volume than arrays

arrays_joined : (s : State) (place : ℕ) → is_valid s place ≡ true → s.joined ≤ s.made
arrays_joined s place is =
    let one = and_parts (is_extent s.extent) (has_places s place && (has_arrays s && (list_all is_drive s.drives.items && has_epoch s))) is in
    let two = and_parts (has_places s place) (has_arrays s && (list_all is_drive s.drives.items && has_epoch s)) one.1 in
    let three = and_parts (has_arrays s) (list_all is_drive s.drives.items && has_epoch s) two.1 in
    let four = and_parts (nat_le 1 s.made && nat_le s.made 16) (nat_le 1 s.joined && (nat_le s.joined s.made && nat_le s.made (s.joined + 1))) three.0 in
    let five = and_parts (nat_le 1 s.joined) (nat_le s.joined s.made && nat_le s.made (s.joined + 1)) four.1 in
    leb-true s.joined s.made (and_parts (nat_le s.joined s.made) (nat_le s.made (s.joined + 1)) five.1).0

current_listed : (s : State) (p : ℕ) → is_current s p ≡ true → p < length s.drives.items
current_listed s p current = elim (cases_lt p (length s.drives.items)) [
  | inl below ↦ below
  | inr past ↦ absurd (both_ways (is_current s p) (ap (λ o. option_map_or (λ drive. not drive.missing) o false) (slice_get_past s.drives.items p past)) current)
]

pub joined_most : (v : Raid) (x : RackView) (p : ℕ) → IsSet v x → is_current v.state p ≡ true → v.state.joined ≤ v.state.made
joined_most v x p set current = arrays_joined v.state p (set.valid p (current_listed v.state p current))

joined_low : (v w : Raid) (a b : RackView) → IsSet v a → AreCaused v w a b → (n : ℕ) → is_failed w n ≡ false → v.state.joined ≤ v.state.made
joined_low v w a b set caused n goes =
    let some = someone_left w n goes in
    let left = caused.left some.0 (and_from (is_current w.state some.0) (not (gone_in w some.0)) some.1 (ap not some.2)) in
    joined_most v a some.0 set (and_parts (is_current v.state some.0) (not (gone_in v some.0)) left).0

-- a pool with an array has a drive
pub joined_few : (v : Raid) (x : RackView) (n : ℕ) → IsSet v x → n < v.state.made → v.state.joined ≤ v.state.made
joined_few v x n set low =
    let seated = set.arrays n low in
    let at = seated.is_array.placed 0 (let two = seated.is_array.least in omega (arith, two)) in
    arrays_joined v.state at.0
    (set.valid at.0 (place_listed (length v.state.drives.items) (v.arrays n).truth 0 at.0 seated.is_of_pool.roles (omega arith) at.1))

-- ---- changes of one array, by the book behind losses

-- an array that has lost members alone has the sectors that it had
lost_sectors : (u w : View) → IsSameArray u w → u.young ≡ false → (y : ℕ) → has_sector u y ≡ has_sector w y
lost_sectors u w same young y =
    let geometry = same.geometry in
    framed_sectors u w (geometry_frame u.truth w.truth geometry)
    (ap₂ (λ features position. if bit_and features 4 == 4 then position else 0) geometry.features geometry.position) young (same.young ∙ young) y

-- Array n of v has become `mid` by losses, and a step makes `next` of that.
module _ (v : Raid) (n k : ℕ) (mid : View) (is_array : IsArray (v.arrays n)) (young : (v.arrays n).young ≡ false) (same : IsSameArray (v.arrays n) mid) where
  small : mid.truth.size < 2 ^ 48
  small = subst (λ size. size < 2 ^ 48) (sym same.geometry.size) is_array.small

  behind : (next : View) → next.truth.size < 2 ^ 48 → next.young ≡ mid.young → ((y : ℕ) → has_sector mid y ≡ true → has_sector next y ≡ true) → KeepsOld v k (steps n next)
  behind next low grown longer =
      step_keeps v k n next (λ other. low) (λ other. grown ∙ same.young ∙ young)
      (λ other y has. longer y (sym (lost_sectors (v.arrays n) mid same young y) ∙ subst (λ j. has_sector (v.arrays j) y ≡ true) other has))

  reshaping_same : is_reshaping mid.truth ≡ is_reshaping (v.arrays n).truth
  reshaping_same = ap (λ features. bit_and features 4 == 4) same.geometry.features

  mirror_same : is_mirror mid.truth ≡ is_mirror (v.arrays n).truth
  mirror_same = ap (λ level. int_eq level (pos 1)) same.geometry.level

  -- rows are moved
  pub moves_keep : (rows events : ℕ) → KeepsOld v k (steps n (ahead_by mid rows events))
  moves_keep rows events = behind (ahead_by mid rows events) small refl (ahead_sectors mid rows events (same.young ∙ young))

  -- a reshape ends that has moved all
  pub finish_keeps : (events : ℕ) → is_reshaping (v.arrays n).truth ≡ true → (v.arrays n).truth.reshape_position ≡ whole_position (v.arrays n) → KeepsOld v k (steps n (finished mid events))
  finish_keeps events reshaping whole =
      behind (finished mid events) small refl
      (λ y has.
      sym (finished_sectors mid events (mirror_same ∙ no_mirror (v.arrays n) is_array reshaping) (same.young ∙ young) (reshaping_same ∙ reshaping)
      (same.geometry.position ∙ whole ∙ ap₂ (λ disks size. (disks - 1) * size) (sym same.geometry.disks) (sym same.geometry.size)) y)
      ∙ has)

  -- a mirror becomes RAID-5
  pub takeover_keeps : (events : ℕ) → is_reshaping (v.arrays n).truth ≡ false → is_mirror (v.arrays n).truth ≡ true → KeepsOld v k (steps n (taken_over mid events))
  takeover_keeps events not_reshaping mirrored =
      behind (taken_over mid events) small refl
      (λ y has.
      sym (taken_sectors mid events (same.geometry.disks ∙ mirror_two (v.arrays n) is_array mirrored) (same.young ∙ young) (reshaping_same ∙ not_reshaping) (mirror_same ∙ mirrored) y)
      ∙ has)

  -- a drive joins an array that is no mirror
  pub begin_keeps : (on : List ℕ) (place : ℕ) (drive : Id) → is_reshaping (v.arrays n).truth ≡ false → is_mirror (v.arrays n).truth ≡ false → KeepsOld v k (steps n (joined mid on place drive))
  begin_keeps on place drive not_reshaping striped =
      behind (joined mid on place drive) small refl
      (λ y has.
      sym (begun_sectors mid (raised mid.truth.events) place (joining_seat on place) (record { 0 = member_id drive.0 mid.number }) (same.young ∙ young) (reshaping_same ∙ not_reshaping)
      (mirror_same ∙ striped) y)
      ∙ has)

  -- an array is cleaned
  pub clean_keeps : KeepsOld v k (steps n (settled mid))
  clean_keeps = behind (settled mid) small refl (λ y has. settled_sectors mid small y ∙ has)

-- ---- values that fit

-- those that arrays hold fit a step of a reshape
pub old_fit : (v : Raid) (x : RackView) (n : ℕ) → LeavesWholeRows (v.arrays n) → FitsReshape v n (old_values v x)
old_fit v x n whole = record {
  whole = whole;
  zeros_past = λ y past. ap (λ (t : Bool). (if t then held_in v x n y else only (zeros 512)).current) (le-ltb y (sectors_of (v.arrays n)) past);
}

-- and those of one array, which holds zeros past its end
pub own_fit : (v : Raid) (x : RackView) (n m : ℕ) → LeavesWholeRows (v.arrays m) → HasZerosFrom v x n (sectors_of (v.arrays n)) → FitsReshape v m (own_values v x n)
own_fit v x n m whole before = record { whole = whole; zeros_past = λ y past. of y past (m == n) refl }
  where
    has : (y : ℕ) → sectors_of (v.arrays n) ≤ y → (has own : Bool) → has_sector (v.arrays n) y ≡ has → spent_of v n y ≡ not own → (if has && own then held_in v x n y else only (zeros 512)).current ≡ zeros 512
    has y past true true is alive = (before y past is alive).current
    has y past true false is alive = refl
    has y past false own is alive = refl

    twice : (b : Bool) → b ≡ not (not b)
    twice true = refl
    twice false = refl

    of : (y : ℕ) → sectors_of (v.arrays m) ≤ y → (b : Bool) → (m == n) ≡ b
        → (if b && (has_sector (v.arrays n) y && not (spent_of v n y)) then held_in v x n y else only (zeros 512)).current ≡ zeros 512
    of y past true is =
        has y (subst (λ k. sectors_of (v.arrays k) ≤ y) (eqb-true m n is) past) (has_sector (v.arrays n) y) (not (spent_of v n y)) refl (twice (spent_of v n y))
    of y past false is = refl

-- ---- calls

-- the lists of a call's changes
abbrev pub made_changes : List Change → Change → Bool → List Change → List Change
made_changes before change is_done after = before ++ if_done is_done after (change ∷ after)

-- what a call has that changes the book between losses
pub record IsTurning (v w : Raid) (a b : RackView) : Type 0 where
  pub before : IsHeeded v
  pub after : IsHeeded w
  pub began : IsSet v a
  pub set : IsSet w b
  pub inside : StopsInside b
  pub caused : AreCaused v w a b
  pub made : v.state.made ≤ w.state.made
  pub joined : v.state.joined ≤ w.state.joined

pub turn_grows : (change : Change) (is_done : Bool) (Fits : (ℕ → ℕ → Values) → Type 0) (v w : Raid) (a b : RackView) → (turn : MakesTurn change is_done Fits v w a b)
    → Fits (old_values v a) → ((n : ℕ) → n < v.state.joined → KeepsOld v n change) → IsTurning v w a b → AreReady v
    → IsGrowing (made_changes turn.before change is_done turn.after) v w a b
turn_grows change is_done Fits v w a b turn fits keeps call ready = record {
  makes = turn.makes (old_values v a) fits;
  old = λ n low. old_joined v n turn.before (if_done is_done turn.after (change ∷ turn.after)) (losses_keep v n turn.before turn.losses_before) (rest n low is_done);
  before = call.before;
  after = call.after;
  began = call.began;
  set = call.set;
  inside = call.inside;
  made = call.made;
  joined = call.joined;
  joined_made = joined_low v w a b call.began call.caused;
  ready = ready;
}
  where
    rest : (n : ℕ) → n < v.state.joined → (d : Bool) → AllKeepOld v n (if_done d turn.after (change ∷ turn.after))
    rest n low true = (keeps n low, losses_keep v n turn.after turn.losses_after)
    rest n low false = losses_keep v n turn.after turn.losses_after

-- the sectors that arrays get by it hold zeros
pub turn_zeros : (change : Change) (is_done : Bool) (Fits : (ℕ → ℕ → Values) → Type 0) (v w : Raid) (a b : RackView) → (turn : MakesTurn change is_done Fits v w a b)
    → Fits (old_values v a) → ((n : ℕ) → HasZerosFrom v a n (sectors_of (v.arrays n)) → Fits (own_values v a n)) → ((n : ℕ) → n < v.state.joined → KeepsOld v n change) → IsTurning v w a b
    → AreReady v → GrowsByZeros v.state.joined v w a b
turn_zeros change is_done Fits v w a b turn fits own keeps call ready =
    grows_zeros (made_changes turn.before change is_done turn.after) v w a b (turn_grows change is_done Fits v w a b turn fits keeps call ready)
    (λ n before. turn.makes (own_values v a n) (own n before))
