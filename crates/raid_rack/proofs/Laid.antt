-- A slice that is laid for a drive that joins an array, or taken away again: the arrays stand over the other tables as they did.
use Rattle.std.proofs.Common.{◌≡◌, ℕ, ◌+◌, ◌/◌, ◌<◌, ◌≤◌, Bool, true, false, if◌then◌else◌, Some, None, Result, Ok, Err, is_ok, OnOk, OnErr, unwrap_or, refl, sym, ap, subst, ◌∙◌, inl, inr, eq-eqb, ne_eqb, arith}
use Rattle.std.proofs.lemmas.Bool.{both_ways}
use Rattle.rack.specs.Seen.{RackView, SameRack}
use Rattle.rack.specs.Sequences.{IsMix}
use Rattle.rack.specs.Joins.{leaves_same, leaves_weaker, stays_same}
use Rattle.slice_rack.specs.declared.SliceRack.{SliceRack}
use Rattle.slice_rack.specs.declared.SliceFault.{SliceFault}
use Rattle.slice_rack.specs.declared.SliceFault.TheVariants.{Outside, Overlap, Unseated}
use Rattle.slice_rack.specs.Changes.{Adds, IsPast, IsWithin, Overlaps}
use Rattle.slice_rack.specs.Runs.{IsSliced, Runs}
use Rattle.slice_rack.specs.SliceRack.{below_of, tables}
use Rattle.slice_rack.specs.Sliced.{slices_of}
use Rattle.slice_rack.specs.Slices.{Slices, disk_of, sectors_of, seat_of as disk_at}
use Rattle.array_image.specs.Places.{log_slice, member_slice}
use Rattle.array_model.specs.View.{place_at}
use Rattle.array_core.specs.Pool.{Goes}
use Rattle.array_core.specs.Seats.{seat_of}
use Rattle.reshape_laws.proofs.Joining.{no_member}
use Rattle.raid_laws.specs.Moves.{IsSet}
use Rattle.raid_laws.specs.NewDrive.{first_in, slice_length}
use Rattle.raid_laws.specs.Raid.{Raid}
use Rattle.transition_laws.specs.Changes.{Change}
use Rattle.growth_laws.specs.Growing.{HasJoiningSlice, views_of}
use Rattle.growth_laws.proofs.Steps.{FaultsRise, reshapes_more}
use Rattle.raid_rack.specs.declared.arrays.Arrays.{Arrays}
use Rattle.raid_rack.specs.Growing.{CannotAdd, CannotLay, LaysSlice, ReshapesWith}
use Rattle.raid_rack.specs.RaidRack.{IsFit, raid_by}

-- another slice than the one that is added
other_sectors : (t u : Slices) (at first sectors d : ℕ) → Adds t u at first sectors → (d ≡ at → ⊥) → sectors_of u d ≡ sectors_of t d
other_sectors t u at first sectors d adds other = adds.sectors_are d ∙ ap (λ (b : Bool). if b then sectors else sectors_of t d) (ne_eqb d at other)

-- the arrays over tables of which a slice differs that none of them has
pub added_set : (t u : Slices) (x : RackView) (v : Raid) (place n first sectors : ℕ) → Adds t u (member_slice place n) first sectors → (slices_of u x).fit
    → n < v.state.made → seat_of (v.arrays n) place ≡ None → IsSet v (slices_of t x) → IsSet v (slices_of u x)
added_set t u x v place n first sectors adds fit low joins set = record {
  fit = fit;
  lasting = set.lasting;
  disks = refl;
  few = set.few;
  most = set.most;
  valid = set.valid;
  logs = λ p left.
      let most = set.most in
      other_sectors t u (member_slice place n) first sectors (log_slice p) adds (λ same. omega (arith, same, low, most)) ∙ set.logs p left;
  arrays = λ m below.
      let at = set.arrays m below in
      record {
        is_array = at.is_array;
        number = at.number;
        slices = record {
          fit = fit;
          lasting = at.slices.lasting;
          disks = at.slices.disks;
          sectors = λ k inside there.
              subst (λ size. 2048 + (v.arrays m).truth.size ≤ size)
              (sym (other_sectors t u (member_slice place n) first sectors (member_slice (place_at (v.arrays m) k) (v.arrays m).number) adds (apart m k below inside)))
              (at.slices.sectors k inside there);
        };
        marks = at.marks;
        is_of_pool = at.is_of_pool;
      };
  marked = set.marked;
}
  where
    apart : (m k : ℕ) → m < v.state.made → k < (v.arrays m).truth.raid_disks → member_slice (place_at (v.arrays m) k) (v.arrays m).number ≡ member_slice place n → ⊥
    apart m k below inside same =
        let at = set.arrays m below in
        let most = set.most in
        let number = at.number in
        let place_is : place_at (v.arrays m) k ≡ place = omega (arith, same, number, below, low, most) in
        let number_is : m ≡ n = omega (arith, same, number, below, low, most) in
        no_member (v.arrays m) place k at.is_array (subst (λ j. seat_of (v.arrays j) place ≡ None) (sym number_is) joins) inside place_is

-- what an addition of a slice leaves, also where it is refused
pub fit_laid : {R E : Type 0} (seen : R → RackView) (a : Arrays) (s r : SliceRack R) (place n at first sectors : ℕ) (result : Result (Unit {0}) E) → at ≡ member_slice place n
    → OnOk result (Adds (tables s) (tables r) at first sectors) → OnErr result (tables r ≡ tables s) → below_of r ≡ below_of s
    → (slices_of (tables r) (seen (below_of r))).fit → n < a.state.made → seat_of ((raid_by a).arrays n) place ≡ None
    → IsFit a (slices_of (tables s) (seen (below_of s))) → IsFit a (slices_of (tables r) (seen (below_of r)))
fit_laid seen a s r place n at first sectors result at_is adds err below fit low joins was =
    let still = subst (λ q. IsSet (raid_by a) (slices_of (tables s) (seen q))) (sym below) was.running.set in
    record { running = record { count = was.running.count; set = by result adds err still }; heeded = was.heeded }
  where
    by : {E : Type 0} (result : Result (Unit {0}) E) → OnOk result (Adds (tables s) (tables r) at first sectors) → OnErr result (tables r ≡ tables s)
        → IsSet (raid_by a) (slices_of (tables s) (seen (below_of r))) → IsSet (raid_by a) (slices_of (tables r) (seen (below_of r)))
    by (Ok is) adds err set =
        added_set (tables s) (tables r) (seen (below_of r)) (raid_by a) place n first sectors (subst (λ d. Adds (tables s) (tables r) d first sectors) at_is adds) fit low joins set
    by (Err e) adds err set = subst (λ t. IsSet (raid_by a) (slices_of t (seen (below_of r)))) (sym err) set

-- the slice is there once it is laid
pub laid_slice : {E : Type 0} (t u : Slices) (x : RackView) (v : Raid) (place n at first sectors : ℕ) (result : Result (Unit {0}) E) → at ≡ member_slice place n
    → OnOk result (Adds t u at first sectors) → is_ok result ≡ true → sectors ≡ slice_length (v.arrays n) → place < 16 → n < 16 → HasJoiningSlice v n place (slices_of u x)
laid_slice t u x v place n at first sectors (Err e) at_is adds ok long few low = absurd (both_ways false refl ok)
laid_slice t u x v place n at first sectors (Ok is) at_is adds ok long few low = record {
  disk = λ current. omega (arith, few, low);
  sectors = λ current.
      let own : sectors_of u at ≡ sectors = adds.sectors_are at ∙ ap (λ (b : Bool). if b then sectors else sectors_of t at) (eq-eqb at at refl) in
      let here = ap (sectors_of u) at_is in
      omega (arith, own, here, long);
}

pub lays_slice : {R E : Type 0} (s r : SliceRack R) (place n at first sectors start length : ℕ) (result : Result (Unit {0}) E) → at ≡ member_slice place n → first ≡ start → sectors ≡ length
    → OnOk result (Adds (tables s) (tables r) at first sectors) → OnErr result (tables r ≡ tables s) → below_of r ≡ below_of s → LaysSlice place n start length s r
lays_slice s r place n at first sectors start length (Err e) at_is first_is long adds err below = (below, inl err)
lays_slice s r place n at first sectors start length (Ok is) at_is first_is long adds err below = (
  below,
  inr (subst (λ d. Adds (tables s) (tables r) d start length) at_is
      (subst (λ k. Adds (tables s) (tables r) at k length) first_is (subst (Adds (tables s) (tables r) at first) long adds))),
)

-- and where it is refused it can't be laid
pub cannot_lay : (t : Slices) (x : RackView) (v : Raid) (place n at first sectors : ℕ) (result : Result (Unit {0}) SliceFault) → at ≡ member_slice place n
    → first ≡ first_in (views_of v) n → sectors ≡ slice_length (v.arrays n)
    → (result ≡ Err Unseated → disk_at t place ≡ None) → (result ≡ Err Outside → IsPast t x place first sectors)
    → (result ≡ Err Overlap → IsWithin t x place first sectors × Overlaps t at first sectors) → is_ok result ≡ false → CannotLay t x v place n
cannot_lay t x v place n at first sectors (Ok is) at_is first_is long unseated outside overlap refused = absurd (both_ways true refused refl)
cannot_lay t x v place n at first sectors (Err Unseated) at_is first_is long unseated outside overlap refused = inl (unseated refl)
cannot_lay t x v place n at first sectors (Err Outside) at_is first_is long unseated outside overlap refused =
    inr (inl (subst (λ k. IsPast t x place k (slice_length (v.arrays n))) first_is (subst (IsPast t x place first) long (outside refl))))
cannot_lay t x v place n at first sectors (Err Overlap) at_is first_is long unseated outside overlap refused =
    inr (inr (subst (λ d. Overlaps t d (first_in (views_of v) n) (slice_length (v.arrays n))) at_is
    (subst (λ k. Overlaps t at k (slice_length (v.arrays n))) first_is (subst (Overlaps t at first) long (overlap refl).1))))

-- ---- what goes by the places' disks alone

-- faults are those of the disks
pub same_faults : (t u : Slices) (x : RackView) → ((p : ℕ) → disk_at u p ≡ disk_at t p) → (d : ℕ) → (slices_of u x).faults d ≡ (slices_of t x).faults d
same_faults t u x seats d = ap (λ o. x.faults (unwrap_or o 0)) (seats (d / 17))

-- calls of the slices leave the rack below what it is
pub runs_stay : (t u : Slices) (a b : RackView) (own : Type 0) → Runs t u a b own → (slices_of t a).fit → SameRack a b
runs_stay t u a b own runs fit = (runs.apart fit.0 fit.1).stays

-- and its past
pub runs_goes : (t u : Slices) (a b : RackView) (own : Type 0) → Runs t u a b own → (slices_of t a).fit → Goes a b
runs_goes t u a b own runs fit =
    let writes = runs.apart fit.0 fit.1 in
    record { stays = writes.stays; leaves = λ traced. leaves_weaker (IsMix a b (IsSliced t)) (λ c. Unit {0}) (λ c mix. tt) (writes.stops traced) }

pub goes_same : (a : RackView) → a.fit → Goes a a
goes_same a fit = record { stays = stays_same a fit; leaves = λ traced. leaves_same a (λ c. Unit {0}) }

-- what can't be laid after such calls couldn't be before them
pub cannot_before : (t u : Slices) (x y : RackView) (place n first sectors : ℕ) → u ≡ t → SameRack x y → CannotAdd u y place n first sectors → CannotAdd t x place n first sectors
cannot_before t u x y place n first sectors same stays (inl none) = inl (subst (λ k. disk_at k place ≡ None) same none)
cannot_before t u x y place n first sectors same stays (inr (inl past)) =
    inr (inl (past.0, subst (λ k. disk_at k place ≡ Some past.0) same past.1, subst (λ k. k < first + sectors) (stays.sectors past.0) past.2))
cannot_before t u x y place n first sectors same stays (inr (inr overlaps)) = inr (inr (subst (λ k. Overlaps k (member_slice place n) first sectors) same overlaps))

-- no disk's faults fall where none of the rack below falls
pub faults_rise : (t u : Slices) (x y : RackView) → SameRack x y → ((p : ℕ) → disk_at u p ≡ disk_at t p) → FaultsRise (slices_of t x) (slices_of u y)
faults_rise t u x y stays seats d = subst (λ k. x.faults (disk_of t d) ≤ k) (sym (same_faults t u y seats d)) (stays.faults (disk_of t d))

-- ---- a step that a joining member takes part in

-- it is refused for less
pub with_more : {R : Type 0} (seen : R → RackView) (change : Raid → Change) (Lacks More : Raid → Raid → Type 0) (n place : ℕ) (v w : Raid) (s r : SliceRack R) (answered : Bool) (Keeps Kept : Type 0)
    → ((mid z : Raid) → Lacks mid z → More mid z) → (Keeps → Kept) → ReshapesWith seen change Lacks n place v w s r answered Keeps → ReshapesWith seen change More n place v w s r answered Kept
with_more seen change Lacks More n place v w s r answered Keeps Kept more kept makes = record {
  laid = makes.laid;
  last = makes.last;
  lays = makes.lays;
  step = λ settled.
      reshapes_more change Lacks More n v w (slices_of (tables makes.laid) (seen (below_of makes.laid))) (slices_of (tables makes.last) (seen (below_of makes.last))) answered more
      (makes.step settled);
  drops = makes.drops;
  old = λ settled was laid last. kept (makes.old settled was laid last);
}
