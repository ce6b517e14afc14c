-- A disk is taken in as the drive of a place by a plan to grow; or it is to be added, and refuses a call.
use Rattle.std.specs.Prelude.{Result, Ok, Err, unwrap_or}
use Rattle.std.specs.Bool.{then_some}
use Rattle.std.specs.Option.{option_map_or, option_or}
use Rattle.std.specs.List.{list_any}
use Rattle.std.proofs.Common.{◌≡◌, ◌≢◌, ℕ, ◌<◌, ◌==◌, ◌||◌, not, if◌then◌else◌, Bool, true, false, List, [], ◌∷◌, length, option_map, slice_get, Option, Some, None, refl, sym, ap, subst, ◌∙◌, inl, inr, arith, lt-ltb}
use Rattle.std.proofs.lemmas.Bool.{both_ways, eq-eqb, ne_eqb}
use Rattle.std.proofs.lemmas.Option.{slice_get_within}
use Rattle.rack.specs.Seen.{Rose, RackView}
use Rattle.rack.specs.Sequences.{WritesOnly}
use Rattle.rack.specs.Shelf.{KeepsShelf, Shelf}
use Rattle.slice_rack.specs.Slices.{IsOrderly, Slices, disk_of, place_of, seat_of}
use Rattle.slice_rack.specs.Sliced.{slices_of}
use Rattle.array_image.specs.Places.{log_slice}
use Rattle.array_image.specs.States.{is_current}
use Rattle.array_model.specs.View.{sectors_of}
use Rattle.array_core.specs.Seats.{renewed}
use Rattle.growth_laws.specs.Growing.{GetsLonger, Turns}
use Rattle.growth_laws.specs.Losses.{LosesBook}
use Rattle.growth_laws.specs.NewDrives.{TakesIn}
use Rattle.growth_laws.proofs.Listing.{current_next}
use Rattle.growth_laws.proofs.Losing.{as_long, loses_as_long, longer_then}
use Rattle.log_laws.proofs.Kept.{place_of_log}
use Rattle.pool_state.specs.declared.contents.Drive.{Drive}
use Rattle.pool_state.specs.declared.contents.Plan.{Plan}
use Rattle.pool_state.specs.declared.contents.Plan.TheVariants.{Add}
use Rattle.pool_state.specs.declared.contents.State.{State}
use Rattle.raid_laws.proofs.Whole.{heeded_left}
use Rattle.raid_laws.specs.Enlisting.{next_drive}
use Rattle.raid_laws.specs.Moves.{IsHeeded, RaisesBy}
use Rattle.raid_laws.specs.NewDrive.{SeatsDrive, joins}
use Rattle.raid_laws.specs.Raid.{Raid}
use Rattle.raid_rack.specs.declared.arrays.Arrays.{Arrays}
use Rattle.raid_rack.specs.declared.arrays.RaidRack.{RaidRack}
use Rattle.raid_rack.specs.RaidRack.{IsFit, raid_by, slices_in}
use Rattle.slice_rack.specs.SliceRack.{below_of}
use Rattle.raid_rack.proofs.Raises.{raises_more, raises_none}
use Rattle.shr_base.specs.Units.{units_of}
use Rattle.transition_laws.specs.Changes.{changed, enlisted, enlists}
use Rattle.pool.specs.Adding.{AddsBy, IsTakenIn, adding, adding_refusals, lacks_drive, refusal_of_add}
use Rattle.pool.specs.Replacing.{fault_of, first_cause, has_resync, is_planned, lacks_room}
use Rattle.pool.specs.Works.{arrays_now}
use Rattle.growth_plan.specs.Admission.{add_refusals, first_refusal}
use Rattle.lvm_group.specs.Runs.{Linear}
use Rattle.pool.specs.Calls.{DriveWent}
use Rattle.pool.specs.Continuing.{Continues}
use Rattle.pool.specs.Moment.{moment_of, views_of}
use Rattle.pool.specs.Replaced.{IsAnswer, is_vacant}
use Rattle.pool.specs.Taking.{IsOfPlace}
use Rattle.pool.specs.View.{View, book, slices_shown, volume}
use Rattle.pool.specs.declared.replacing.GrowFault.{GrowFault}
use Rattle.pool.specs.declared.replacing.GrowFault.TheVariants.{Gone, NotResynced, NotWhole, PlanPending, TooManySegments}
use Rattle.pool.proofs.Admitted.{any_at}
use Rattle.pool.proofs.Adds.{listed}
use Rattle.pool.proofs.Continuing.{continues_same}
use Rattle.pool.proofs.Extends.{inside_longer}
use Rattle.pool.proofs.Keeping.{marks_same, not_left}
use Rattle.pool.proofs.Late.{AreLate, late_cause, late_if, late_map, late_none, late_or, late_planned, late_resynced, late_whole, never_fault, same_fault}
use Rattle.pool.proofs.Later.{later}
use Rattle.pool.proofs.Vacating.{bay_continues}

-- calls on the bay, reached through the arrays
pub only_at : {R : Type 0} (seen : R → RackView) {old new : RaidRack R} {b : RackView} {may : ℕ → ℕ → List ℕ → Type 0} → old ≡ new → WritesOnly (seen (below_of (slices_in old))) b may
    → WritesOnly (seen (below_of (slices_in new))) b may
only_at seen {old} {new} {b} {may} same only = subst (λ k. WritesOnly (seen (below_of (slices_in k))) b may) same only

-- no place of a list of which no drive is missing is vacant
none_vacant : (s : State) (p : ℕ) → list_any (λ (d : Drive). d.missing) s.drives.items ≡ false → is_vacant s p ≡ false
none_vacant s p none = of (slice_get s.drives.items p) refl
  where
    of : (o : Option Drive) → slice_get s.drives.items p ≡ o → is_vacant s p ≡ false
    of None at = ap (λ o. option_map_or (λ (d : Drive). d.missing) o false) at
    of (Some d) at = ap (λ o. option_map_or (λ (e : Drive). e.missing) o false) at ∙ any_at (λ (e : Drive). e.missing) s.drives.items p d none at

-- the disk is none of a place's
pub disk_free : (x : View) (disk : ℕ) → lacks_drive (book x).state ≡ false → (IsOfPlace (moment_of x) disk → ⊥) → (p : ℕ) → seat_of x.slices p ≢ Some disk
disk_free x disk whole other p seated = other (p, seated, none_vacant (book x).state p (listed (book x).state whole).1)

-- a current place is in the list
current_listed : (s : State) (k : ℕ) → is_current s k ≡ true → k < length s.drives.items
current_listed s k is = of (slice_get s.drives.items k) refl
  where
    of : (o : Option Drive) → slice_get s.drives.items k ≡ o → k < length s.drives.items
    of None at = absurd (both_ways (is_current s k) (ap (λ o. option_map_or (λ (d : Drive). not d.missing) o false) at) is)
    of (Some d) at = slice_get_within s.drives.items k d at

module _ (x : View) (b : RackView) (s : Shelf) (u : Slices) (z : Arrays) (disk : ℕ) (may : ℕ → ℕ → List ℕ → Type 0) (fit : (volume x).fit)
    (only : WritesOnly x.bay b may) (names : KeepsShelf x.shelf s) (ordered : IsOrderly u) (after : IsFit z (slices_of u b)) where
  abbrev pub y : View
  y = later x b s u z

  -- the volume lies inside the arrays
  pub goes_on : GetsLonger (book x) (raid_by z) → Continues x y
  goes_on longer =
      bay_continues x y may only names (
        after,
        inside_longer x.linear _ _ x.refused x.refused (book x) (raid_by z) (slices_shown x) (slices_of u b) longer fit.1
            (λ e below. let own = fit.1.placed e below in let most = fit.1.arrays in omega (arith, own, most)),
      )
      ordered refl

  -- ---- it is the drive of a place

  module _ (units : ℕ) (units_is : units ≡ units_of (x.bay.sectors disk) (book x).state.extent) (place : ℕ) (plan : Plan)
      (there : (k : ℕ) → is_current (enlisted place units plan (book x).state) k ≡ ((k == place) || is_current (book x).state k))
      (takes : TakesIn place units plan (joins (views_of (book x)) place (x.bay.sectors disk)) (book x) (raid_by z) (slices_of u x.bay) (slices_of u b))
      (seats : SeatsDrive (views_of (book x)) place disk (x.bay.sectors disk) x.slices u) where
    abbrev joining : ℕ → Bool
    joining = joins (views_of (book x)) place (x.bay.sectors disk)

    -- with it the arrays are as long
    listed_long : (v : Raid) → GetsLonger v (changed (enlists place units plan joining) v)
    listed_long v = as_long v (changed (enlists place units plan joining) v) refl (λ n low. same (joining n) n)
      where
        same : (t : Bool) (n : ℕ) → sectors_of (if t then renewed place (next_drive v.state) (v.arrays n) else v.arrays n) ≡ sectors_of (v.arrays n)
        same true n = refl
        same false n = refl

    pub longer : GetsLonger (book x) (raid_by z)
    longer =
        let turns = takes.turns in
        let mid = turns.mid in
        let last = changed (enlists place units plan joining) mid in
        let rest = subst (λ t. LosesBook (if t then last else mid) (raid_by z)) (turns.answer refl) turns.after in
        longer_then (book x) last (raid_by z) (longer_then (book x) mid last (loses_as_long (book x) mid turns.before) (listed_long mid)) (loses_as_long last (raid_by z) rest)

    -- whoever is marked refused a call
    heeded : IsHeeded (changed (enlists place units plan joining) (book x))
    heeded n low = same (joining n) ∙ fit.0.heeded n low
      where
        same : (t : Bool) → (if t then renewed place (next_drive (book x).state) ((book x).arrays n) else (book x).arrays n).went ≡ ((book x).arrays n).went
        same true = refl
        same false = refl

    went_now : (k : ℕ) → is_current (enlisted place units plan (book x).state) k ≡ true → is_current (raid_by z).state k ≡ false
        → Rose (x.bay.faults (disk_of u (log_slice k))) (b.faults (disk_of u (log_slice k)))
    went_now k was now =
        let fault = takes.caused.cause k (heeded_left (changed (enlists place units plan joining) (book x)) k heeded was) (not_left (raid_by z) k now) in
        subst (λ (d : ℕ). Rose (x.bay.faults d) (b.faults d)) (ap (λ p. unwrap_or (seat_of u p) 0) (fault.1 ∙ sym (place_of_log k))) fault.2

    -- a drive of another place
    pub went_other : (k : ℕ) → is_current (book x).state k ≡ true → k ≢ place → is_current (raid_by z).state k ≡ false → DriveWent x y k
    went_other k was other now =
        let still = there k ∙ ap (λ t. (k == place) || t) was ∙ or_true (k == place) in
        let seat : seat_of u (place_of (log_slice k)) ≡ seat_of x.slices (place_of (log_slice k)) =
        seats.seats (place_of (log_slice k))
        ∙ ap (λ t. if t then Some disk else seat_of x.slices (place_of (log_slice k))) (ne_eqb (place_of (log_slice k)) place (λ same. other (sym (place_of_log k) ∙ same))) in
        subst (λ (d : ℕ). Rose (x.bay.faults d) (b.faults d)) (ap (λ o. unwrap_or o 0) seat) (went_now k still now)
      where
        or_true : (t : Bool) → (t || true) ≡ true
        or_true true = refl
        or_true false = refl

    -- the new one
    went_new : is_current (raid_by z).state place ≡ false → Rose (x.bay.faults disk) (b.faults disk)
    went_new now =
        let here = there place ∙ ap (λ t. t || is_current (book x).state place) (eq-eqb place place refl) in
        let seat : seat_of u (place_of (log_slice place)) ≡ Some disk =
        seats.seats (place_of (log_slice place))
        ∙ ap (λ t. if t then Some disk else seat_of x.slices (place_of (log_slice place))) (eq-eqb (place_of (log_slice place)) place (place_of_log place)) in
        subst (λ (d : ℕ). Rose (x.bay.faults d) (b.faults d)) (ap (λ o. unwrap_or o 0) seat) (went_now place here now)

    -- by the units and the sectors that it has
    record Parts (own sectors : ℕ) : Type 0 where
      pub turns : Turns (λ v. enlists place own plan (joins (views_of (book x)) place sectors)) (λ v w. ⊥) (book x) (raid_by z) true
      pub seated : SeatsDrive (views_of (book x)) place disk sectors x.slices u

    pub taken : disk < x.bay.disks → IsTakenIn (moment_of x) (moment_of y) place plan disk
    taken low =
        let first : Parts units (x.bay.sectors disk) = record { turns = takes.turns; seated = seats } in
        let sized : x.bay.sectors disk ≡ b.sectors disk = sym (only.stays.sectors disk) in
        let second = subst (λ k. Parts units k) sized first in
        let last = subst (λ k. Parts k (b.sectors disk)) (units_is ∙ ap (λ k. units_of k (book x).state.extent) sized) second in
        record {
          turns = last.turns;
          cause = λ now. subst (λ n. Rose n (b.faults disk)) (sym (ap (λ t. if t then x.bay.faults disk else 0) (lt-ltb disk x.bay.disks low))) (went_new now);
          seats = last.seated;
        }

  -- ---- it is the drive of the next place

  module _ (units : ℕ) (units_is : units ≡ units_of (x.bay.sectors disk) (book x).state.extent) (next : ℕ) (next_is : next ≡ length (book x).state.drives.items)
      (none : refusal_of_add x.linear (book x) (x.bay.sectors disk) ≡ None) (raises : RaisesBy 36 (book x) (raid_by z))
      (takes : TakesIn next units (Add next) (joins (views_of (book x)) next (x.bay.sectors disk)) (book x) (raid_by z) (slices_of u x.bay) (slices_of u b))
      (seats : SeatsDrive (views_of (book x)) next disk (x.bay.sectors disk) x.slices u) where
    there_next : (k : ℕ) → is_current (enlisted next units (Add next) (book x).state) k ≡ ((k == next) || is_current (book x).state k)
    there_next k = current_next next units (Add next) (book x).state k next_is

    pub adds_ok : disk < x.bay.disks → AddsBy x y disk (Ok tt)
    adds_ok low = record {
      continues = goes_on (longer units units_is next (Add next) there_next takes seats);
      raises = raises;
      names = names.names;
      disks = only.stays.disks;
      answer = subst (λ o. IsAnswer o (Ok tt)) (sym none) (inl refl);
      not_whole = λ same. absurd (never_fault NotWhole same);
      gone = λ same. absurd (let bad : ◌≡◌ {A = Result (Unit {0}) GrowFault} (Ok tt) (Err Gone) = same in cc bad);
      marks = λ k was now.
          inl
          (went_other units units_is next (Add next) there_next takes seats k was
          (λ same. let inside = current_listed (book x).state k was in let far = next_is in omega (arith, same, far, inside))
          now);
      declined = tt;
      added = subst (λ k. IsTakenIn (moment_of x) (moment_of y) k (Add k) disk) next_is (taken units units_is next (Add next) there_next takes seats low);
    }

  -- ---- it refused a call

  pub adds_gone : refusal_of_add x.linear (book x) (x.bay.sectors disk) ≡ None → z ≡ x.arrays → u ≡ x.slices → Rose (x.bay.faults disk) (b.faults disk) → RaisesBy 36 (book x) (raid_by z)
      → AddsBy x y disk (Err Gone)
  adds_gone none same tables rose raises = record {
    continues = goes_on (subst (λ (k : Arrays). GetsLonger (book x) (raid_by k)) (sym same) (as_long (book x) (book x) refl (λ n low. refl)));
    raises = raises;
    names = names.names;
    disks = only.stays.disks;
    answer = subst (λ o. IsAnswer o (Err Gone)) (sym none) (inr (inl refl));
    not_whole = λ same. absurd (let bad : Gone ≡ NotWhole = same_fault Gone NotWhole same in cc bad);
    gone = λ is. rose;
    marks = λ k was now. absurd (both_ways (is_current (book x).state k) (subst (λ (a : Arrays). is_current a.state k ≡ false) same now) was);
    declined = (ap raid_by same, tables);
    added = tt;
  }

-- ---- a refusal by how the pool stands

pub adds_none : (x : View) (disk : ℕ) (e : GrowFault) → (volume x).fit → e ≢ Gone → refusal_of_add x.linear (book x) (x.bay.sectors disk) ≡ Some e → AddsBy x x disk (Err e)
adds_none x disk e fit other is = record {
  continues = continues_same x fit;
  raises = raises_more 0 36 (book x) (book x) (omega arith) (raises_none (book x));
  names = refl;
  disks = refl;
  answer = subst (λ o. IsAnswer o (Err e)) (sym is) refl;
  not_whole = λ same. is ∙ ap Some (same_fault e NotWhole same);
  gone = λ same. absurd (other (same_fault e Gone same));
  marks = marks_same x (λ k. ⊥);
  declined = (refl, refl);
  added = tt;
}

-- each refusal of an adding is one that is looked for once a disk is there
pub late_add : (l : Linear) (v : Raid) (sectors : ℕ) → AreLate (refusal_of_add l v sectors)
late_add l v sectors =
    let plan = first_refusal (add_refusals v.state (arrays_now v) (units_of sectors v.state.extent)) in
    let lacks = lacks_room l v (adding (units_of sectors v.state.extent) v.state) in
    let room = then_some lacks TooManySegments in
    let resynced = has_resync (arrays_now v) in
    late_or (first_cause (adding_refusals v)) (option_or (option_map fault_of plan) room)
    (late_cause PlanPending (is_planned v.state.plan) ((NotWhole, lacks_drive v.state) ∷ (NotResynced, resynced) ∷ []) late_planned
    (late_cause NotWhole (lacks_drive v.state) ((NotResynced, resynced) ∷ []) late_whole (late_cause NotResynced resynced [] late_resynced late_none)))
    (late_or (option_map fault_of plan) room (late_map plan) (late_if lacks))
