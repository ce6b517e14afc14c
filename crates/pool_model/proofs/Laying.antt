-- What a stop leaves while a new drive is laid, and until the commit by which it is one of the pool, holds the pool that it had still: the disk that is written is
-- none of its drives, and says no state that it may not have said before.
use Rattle.std.proofs.Common.{◌≡◌, ◌≢◌, ◌⊎◌, ℕ, ◌<◌, ◌≤◌, ◌-◌, ◌^◌, ◌==◌, ◌&&◌, if◌then◌else◌, Bool, true, false, nat_lt, List, Some, None, refl, sym, ap, ap₂, subst, ◌∙◌, inl, inr, eq-eqb, eqb-true, le-ltb, arith}
use Rattle.std.specs.Result.{result_ok}
use Rattle.std.proofs.lemmas.Bool.{both_ways, cases_eq, cases_lt, ne_eqb}
use Rattle.std.proofs.lemmas.Option.{none-some}
use Rattle.rack.specs.Joins.{keeps_same}
use Rattle.rack.specs.Values.{Keeps, MayLeave, only}
use Rattle.rack.specs.Seen.{Image, IsLive, RackView}
use Rattle.slice_rack.specs.Runs.{IsSliced}
use Rattle.slice_rack.specs.Slices.{IsOrderly, Slices, seat_of as slice_seat}
use Rattle.slice_rack.specs.Sliced.{IsInside, sliced}
use Rattle.pool_state.specs.declared.contents.Copied.{Copied}
use Rattle.pool_state.specs.declared.contents.State.{State}
use Rattle.pool_state.specs.Sector.{decoded}
use Rattle.array_image.specs.Places.{log_slice, state_sector}
use Rattle.array_image.specs.States.{is_current}
use Rattle.raid_laws.specs.Raid.{Raid}
use Rattle.raid_laws.proofs.Noted.{current_few}
use Rattle.pool_image.specs.Disks.{Disks, disks_of, identities_of}
use Rattle.pool_image.specs.Drives.{Found}
use Rattle.pool_model.specs.InService.{HoldSaid, RunInvariant, IsArranged, IsSaid}
use Rattle.pool_model.specs.Laid.{IsCalledBy, IsLaidOutsideSlices, SaysBooks, ShowsStop}
use Rattle.pool_model.specs.Left.{NoStraySuperblockBy, HavePlaces, IsPickOutsideSlices}
use Rattle.pool_model.specs.Stopped.{RecoversInCall, HoldTables, LieByTables, LieOn}
use Rattle.pool_model.specs.Taken.{KeepsOutsideSlices, KeepsOthers, LacksDrive}
use Rattle.pool_model.proofs.Alike.{slices_said}
use Rattle.pool_model.proofs.Amid.{inside_of, off_more}
use Rattle.pool_model.proofs.Before.{off_before, was as image_before, was_other as image_other}
use Rattle.pool_model.proofs.Declined.{held_attached}
use Rattle.pool_model.proofs.Found.{ok_of, seated_below}
use Rattle.pool_model.proofs.Logs.{copied_in, there_in}
use Rattle.pool_model.proofs.Said.{AreInside, slices_by}
use Rattle.pool_model.proofs.Shown.{shown_between}
use Rattle.pool_model.proofs.Tables.{tables_vacant}
use Rattle.pool_model.proofs.Vacant.{logs_other, seat_other, slices_now, sliced_before}

-- ---- the disks outside the slices

module _ (f : Found) (t : Slices) (s : State) (disk : ℕ) (x : RackView) (i : Image) (laid : IsLaidOutsideSlices f t s disk x i) where
  -- the disks as they were, but that this one has the contents
  abbrev z : RackView
  z = record x { held = λ d k. if d == disk then only (i disk k) else x.held d k }

  held_other : (d k : ℕ) → d ≢ disk → z.held d k ≡ x.held d k
  held_other d k other = ap (λ (b : Bool). if b then only (i disk k) else x.held d k) (ne_eqb d disk other)

  held_here : (k : ℕ) → z.held disk k ≡ only (i disk k)
  held_here k = ap (λ (b : Bool). if b then only (i disk k) else x.held disk k) (eq-eqb disk disk refl)

  live_was : (d k : ℕ) → IsLive z z d k → IsLive x x d k
  live_was d k live = record { disk = live.disk; sector = live.sector; is_told = live.is_told; unspent = live.unspent }

  live_now : (d k : ℕ) → IsLive x x d k → IsLive z z d k
  live_now d k live = record { disk = live.disk; sector = live.sector; is_told = live.is_told; unspent = live.unspent }

  off_now : IsPickOutsideSlices t z i
  off_now d k live never = elim (cases_eq d disk) [
    | inl same ↦ subst (λ e. MayLeave (z.held e k) (i e k)) (sym same) (subst (λ h. MayLeave h (i disk k)) (sym (held_here k)) (inl refl))
    | inr other ↦ subst (λ h. MayLeave h (i d k)) (sym (held_other d k other)) (laid.others d k other (live_was d k live) never)
  ]

  keeps_off : KeepsOutsideSlices t disk x z
  keeps_off d k other live never = (live_now d k live, subst (λ h. Keeps (x.held d k) h) (sym (held_other d k other)) (keeps_same (x.held d k)))

  -- whatever it may be left with then, that disk says what it says in the contents
  on_disk : (j : Image) → IsPickOutsideSlices t z j → (k : ℕ) → k < x.sectors disk → j disk k ≡ i disk k
  on_disk j off k low = of (subst (λ h. MayLeave h (j disk k)) (held_here k) (off disk k (live_now disk k (laid.opened k low)) (laid.free k)))
    where
      of : MayLeave (only (i disk k)) (j disk k) → j disk k ≡ i disk k
      of (inl same) = same
      of (inr never) = absurd never

  stranger : (j : Image) → IsPickOutsideSlices t z j → (copy : Copied) → (identities_of (disks_of z) j disk).copied ≡ Some copy → MayLeave (x.held disk state_sector) (j disk state_sector)
  stranger j off copy here = elim (cases_lt state_sector (x.sectors disk)) [
    | inl low ↦
        let same = on_disk j off state_sector low in
        subst (λ w. MayLeave (x.held disk state_sector) w) (sym same)
        (laid.says copy (sym (ap (λ w. if nat_lt state_sector (x.sectors disk) then result_ok (decoded w) else None) same) ∙ here))
    | inr past ↦
        absurd (none-some copy (sym (ap (λ (b : Bool). if b then result_ok (decoded (j disk state_sector)) else None) (le-ltb state_sector (x.sectors disk) past)) ∙ here))
  ]

  module _ (arranged : IsArranged f) (disks : f.disks ≡ disks_of x) where
    count : f.disks.count ≡ x.disks
    count = ap (λ (q : Disks). q.count) disks

    drive : ((p : ℕ) → f.seats p ≢ Some disk) ⊎ ((p : ℕ) × (f.seats p ≡ Some disk))
    drive = elim (seated_below f.seats disk 16) [
      | inl one ↦ inr one
      | inr none ↦ inl (λ p seat. none p (current_few f.state p arranged.places (arranged.seated p disk seat).0) seat)
    ]

    keeps : KeepsOthers f t s disk x z
    keeps = record {
      disks = (let same = count in omega (arith, same));
      sectors = λ d low. ap (λ (q : Disks). q.sectors d) (sym disks);
      drive = drive;
      outside = keeps_off;
      alone = λ j off n p first low counts seat none begins within. absurd (both_ways (is_current s p) (laid.vacant p seat) counts);
      earlier = λ j off d low past copy here. (let same = count in absurd (omega (arith, low, past, same)));
      stranger = λ j off none old copy here. stranger j off copy here;
    }

    module _ (held : HoldSaid f t s x) where
      said_on : IsSaid (record f { disks = disks_of x }) i
      said_on = (held_attached f t s disk x z arranged keeps held).said i off_now

      pub laid_said : IsSaid f i
      laid_said =
          let is : IsSaid (record f { disks = f.disks }) i = subst (λ (q : Disks). IsSaid (record f { disks = q }) i) (sym disks) said_on in
          record { identities = is.identities; outset = is.outset; elsewhere = is.elsewhere }

      pub laid_alone : NoStraySuperblockBy s f i
      laid_alone =
          subst (λ (q : Disks). NoStraySuperblockBy s (record f { disks = q }) i) (sym disks) ((held_attached f t s disk x z arranged keeps held).alone i off_now)

  -- ---- what they had, where the disk isn't asked

  fewer : (d k : ℕ) (w : List ℕ) → d ≢ disk → IsSliced t d k w → IsSliced t d k w
  fewer d k w other is = is

  abbrev was : Image
  was = image_before t t disk x z keeps_off fewer i off_now

  -- the drives' tables have the slices where they had them
  pub laid_tables : ((p d : ℕ) → is_current s p ≡ true → slice_seat t p ≡ Some d → d ≢ disk) → HoldTables f t s x → LieByTables f t s i
  laid_tables apart tables p d now seat =
      subst (LieOn t p (f.disks.sectors d)) (image_other t t disk x z keeps_off fewer i off_now d (apart p d now seat))
      (tables was (off_before t t disk x z keeps_off fewer i off_now) p d now seat)

  -- a copy that a disk says there it may have said before
  module _ (d : ℕ) (copy : Copied) (here : (identities_of (disks_of x) i d).copied ≡ Some copy) where
    abbrev read : Bool → (e k : ℕ) → List ℕ
    read b e k = if b then i disk state_sector else was e k

    abbrev former : Image
    former = λ e k. read ((e == disk) && (k == state_sector)) e k

    off_by : d ≡ disk → (e k : ℕ) (a b : Bool) → (e == disk) ≡ a → (k == state_sector) ≡ b → MayLeave (x.held e k) (was e k) → MayLeave (x.held e k) (read (a && b) e k)
    off_by same e k true true one two left =
        subst (λ q. MayLeave (x.held q k) (i disk state_sector)) (sym (eqb-true e disk one))
        (subst (λ q. MayLeave (x.held disk q) (i disk state_sector)) (sym (eqb-true k state_sector two))
        (laid.says copy (subst (λ q. (identities_of (disks_of x) i q).copied ≡ Some copy) same here)))
    off_by same e k true false one two left = left
    off_by same e k false b one two left = left

    off_was : IsPickOutsideSlices t x was
    off_was = off_before t t disk x z keeps_off fewer i off_now

    pub said_before : (j : Image) × IsPickOutsideSlices t x j × ((identities_of (disks_of x) j d).copied ≡ Some copy)
    said_before = elim (cases_eq d disk) [
      | inl same ↦ (
        former,
        λ e k live never. off_by same e k (e == disk) (k == state_sector) refl refl (off_was e k live never),
        subst (λ q. (identities_of (disks_of x) former q).copied ≡ Some copy) (sym same)
            (ap (λ w. if nat_lt state_sector (x.sectors disk) then result_ok (decoded w) else None)
            (ap₂ (λ a b. read (a && b) disk state_sector) (eq-eqb disk disk refl) (eq-eqb state_sector state_sector refl))
            ∙ subst (λ q. (identities_of (disks_of x) i q).copied ≡ Some copy) same here),
      )
      | inr other ↦ (
        was,
        off_was,
        ap (λ (c : ℕ → List ℕ). (identities_of (disks_of x) (λ q. c) d).copied) (image_other t t disk x z keeps_off fewer i off_now d other) ∙ here,
      )
    ]

-- ---- the pool

-- Contents that show of a stop inside a call what the call tells of it hold the pool that the disks have outside the slices, where each current place has a drive.
pub shown_amid : (f : Found) (t : Slices) (v w : Raid) (i : Image) → IsCalledBy f t v → IsSaid f i → NoStraySuperblockBy v.state f i → LieByTables f t v.state i → HavePlaces v.state f
    → ((p d : ℕ) (copy : Copied) → f.seats p ≡ Some d → is_current v.state p ≡ false → (identities_of f.disks i d).copied ≡ Some copy → copy.state.epoch < v.state.epoch)
    → SaysBooks f.state.made t v w i → w.state.epoch < 2 ^ 63 - 1 → (p : ℕ) → is_current w.state p ≡ true → RecoversInCall f t v.state w.state i
shown_amid f t v w i is said alone tables present former says room someone now =
    let shows : ShowsStop f t v w i =
    record {
      parts = record {
        said = said;
        tables = tables;
        alone = alone;
        absent = λ p d now free low stands. let one = present p now in none-some one.0 (sym free ∙ one.1);
        logs = says.logs;
        arrays = says.arrays;
        frames = says.frames;
      };
      former = former;
      since = says.since;
    } in
    let between =
    shown_between f t v w i is shows room
    (λ s later sooner. let counts = sooner.current someone now in let one = present someone (later.current someone counts) in (someone, one.0, counts, one.1)) in
    record {
      between = between;
      present = λ p counts. let one = present p (between.later.current p counts) in (one.0, between.still.seats p counts ∙ one.1);
    }

-- ---- a place gave its disk up

-- A disk is written outside the slices that is none of a current place, and calls go by the slices that are left.
module _ (f : Found) (t u : Slices) (v : Raid) (place : ℕ) (x : RackView) (is : RunInvariant f t v x) (lacks : LacksDrive f t u v place x) (orderly : IsOrderly u)
    (inside : IsInside u x) where
  few : f.state.made ≤ 16
  few = is.arranged.made.1

  within : AreInside f u
  within = inside_of f u x is.disks inside

  pub vacant_called : IsCalledBy f u v
  vacant_called = record {
    arranged = is.arranged;
    after = is.after;
    joined = is.joined;
    geometry = is.geometry;
    slices = λ e. slices_now t u place lacks.vacated (record f { identities = e }) (slices_said f e few is.arranged.truths t is.slices) v.state lacks.missing few;
    orderly = orderly;
    inside = within;
  }

  pub vacant_said : HoldSaid f u v.state x
  vacant_said =
      let more = off_more t u x (sliced_before t u place lacks.vacated) in
      record { said = λ j off. is.held.said j (more j off); alone = λ j off. is.held.alone j (more j off) }

  module _ (disk : ℕ) (i : Image) (laid : IsLaidOutsideSlices f u v.state disk x i) where
    -- a current place has another disk
    pub vacant_apart : (p d : ℕ) → is_current v.state p ≡ true → slice_seat u p ≡ Some d → d ≢ disk
    vacant_apart p d now seat same =
        let other : p ≢ place = λ here. both_ways (is_current v.state p) (subst (λ q. is_current v.state q ≡ false) (sym here) lacks.missing) now in
        both_ways (is_current v.state p)
        (laid.vacant p (sym (is.slices.seats p) ∙ sym (seat_other t u place lacks.vacated p other) ∙ seat ∙ ap Some same)) now

    -- So stops inside calls leave what holds the pool still.
    pub laid_amid : (w : Raid) → HoldTables f t v.state x → HavePlaces v.state f → SaysBooks f.state.made u v w i → w.state.epoch < 2 ^ 63 - 1
        → (p : ℕ) → is_current w.state p ≡ true → RecoversInCall f u v.state w.state i
    laid_amid w tables present says room someone now =
        shown_amid f u v w i vacant_called (laid_said f u v.state disk x i laid is.arranged is.disks vacant_said)
        (laid_alone f u v.state disk x i laid is.arranged is.disks vacant_said)
        (laid_tables f u v.state disk x i laid vacant_apart (tables_vacant f t u place v.state x lacks.vacated lacks.missing tables)) present
        (λ p d copy seat past here. elim (cases_eq p place) [
          | inl same ↦
              let on_disks : (identities_of (disks_of x) i d).copied ≡ Some copy = subst (λ (q : Disks). (identities_of q i d).copied ≡ Some copy) is.disks here in
              let before = said_before f u v.state disk x i laid d copy on_disks in
              lacks.earlier d (subst (λ q. f.seats q ≡ Some d) same seat) before.0 before.1 copy before.2
          | inr other ↦
              let on : slice_seat u p ≡ Some d = seat_other t u place lacks.vacated p other ∙ is.slices.seats p ∙ seat in
              let lies = logs_other t u place lacks.vacated f is.slices v.state lacks.missing p d other seat in
              (says.since p (current_few f.state p is.arranged.places (is.arranged.seated p d seat).0) (there_in f u i within p d on lies)).former copy past
              (ok_of (decoded (sliced u i (log_slice p) 0)) copy (sym (copied_in f u i within p d on lies) ∙ here))
        ])
        says room someone now

-- ---- all places have theirs

-- A disk is written outside the slices that is none of a place.
module _ (f : Found) (t : Slices) (v : Raid) (x : RackView) (is : RunInvariant f t v x) (orderly : IsOrderly t) (inside : IsInside t x) (disk : ℕ) (apart : (p : ℕ) → f.seats p ≡ Some disk → ⊥)
    (i : Image) (laid : IsLaidOutsideSlices f t v.state disk x i) where
  all_within : AreInside f t
  all_within = inside_of f t x is.disks inside

  all_called : IsCalledBy f t v
  all_called = record {
    arranged = is.arranged;
    after = is.after;
    joined = is.joined;
    geometry = is.geometry;
    slices = λ e. slices_by (record f { identities = e }) t v.state (slices_said f e is.arranged.made.1 is.arranged.truths t is.slices);
    orderly = orderly;
    inside = all_within;
  }

  pub service_laid : (w : Raid) → HoldTables f t v.state x → HavePlaces v.state f → SaysBooks f.state.made t v w i → w.state.epoch < 2 ^ 63 - 1
      → (p : ℕ) → is_current w.state p ≡ true → RecoversInCall f t v.state w.state i
  service_laid w tables present says room someone now =
      shown_amid f t v w i all_called (laid_said f t v.state disk x i laid is.arranged is.disks is.held)
      (laid_alone f t v.state disk x i laid is.arranged is.disks is.held)
      (laid_tables f t v.state disk x i laid (λ p d counts seat same. apart p (sym (is.slices.seats p) ∙ seat ∙ ap Some same)) tables) present
      (λ p d copy seat past here.
      let on : slice_seat t p ≡ Some d = is.slices.seats p ∙ seat in
      let lies = is.slices.logs p d seat in
      (says.since p (current_few f.state p is.arranged.places (is.arranged.seated p d seat).0) (there_in f t i all_within p d on lies)).former copy past
      (ok_of (decoded (sliced t i (log_slice p) 0)) copy (sym (copied_in f t i all_within p d on lies) ∙ here)))
      says room someone now
