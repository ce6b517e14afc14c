-- A stop while a pool takes a new drive in, from the moment on when the record counts that brings the state with it: what it leaves holds the pool with the drive.
use Rattle.std.proofs.Common.{◌≡◌, ◌≢◌, ◌⊎◌, ℕ, ◌+◌, ◌-◌, ◌<◌, ◌≤◌, ◌^◌, ◌==◌, if◌then◌else◌, Bool, true, false, List, Option, Some, None, refl, sym, ap, subst, ◌∙◌, inl, inr, eqb-true, lt-ltb, arith}
use Rattle.std.proofs.lemmas.Bool.{both_ways}
use Rattle.rack.specs.Seen.{Image, RackView}
use Rattle.rack.specs.Sequences.{IsMix, WritesOnly}
use Rattle.rack.specs.Joins.{keeps_same}
use Rattle.rack.specs.Values.{MayLeave, Values}
use Rattle.slice_rack.specs.Runs.{IsSliced}
use Rattle.slice_rack.specs.Slices.{IsOrderly, Slices, place_of, sectors_of}
use Rattle.slice_rack.specs.Sliced.{IsInside, sliced, slices_of}
use Rattle.gpt_table.specs.declared.Table.{Table}
use Rattle.gpt_table.specs.declared.TableCopy.TheVariants.{Primary}
use Rattle.gpt_table.specs.Changes.{the_table}
use Rattle.gpt_table.specs.Disk.{Contents}
use Rattle.gpt_table.proofs.Tables.{first_says}
use Rattle.pool_state.specs.declared.contents.Copied.{Copied}
use Rattle.pool_state.specs.declared.contents.Plan.{Plan}
use Rattle.pool_state.specs.declared.contents.State.{State}
use Rattle.array_image.specs.Arrays.{replayed}
use Rattle.array_image.specs.Places.{log_slice, super_sector}
use Rattle.array_image.specs.States.{is_current, state_in}
use Rattle.array_core.proofs.Stripped.{some_same}
use Rattle.array_model.specs.View.{View}
use Rattle.log_laws.proofs.Kept.{live_on}
use Rattle.raid_laws.specs.Book.{OnlyMarksSince, after_then}
use Rattle.raid_laws.specs.Enlisting.{HoldsTable, IsOpenDisk, IsWrittenBy, KeepsTold, SaysBy, enlisted, new_table}
use Rattle.raid_laws.specs.Frames.{HasFrame, frame_of}
use Rattle.raid_laws.specs.Logs.{LogsBetween}
use Rattle.raid_laws.specs.Losses.{has_other}
use Rattle.raid_laws.specs.Marking.{SaysBetween}
use Rattle.raid_laws.specs.Missing.{raised}
use Rattle.raid_laws.specs.Raid.{IsTracked, Raid, held_in, is_failed, spent_of}
use Rattle.raid_laws.specs.Runs.{IsBetween}
use Rattle.raid_laws.specs.Since.{AreJoinSince, AreTakenSince}
use Rattle.raid_laws.proofs.Others.{some_other}
use Rattle.raid_laws.proofs.Over.{number_room}
use Rattle.pool_image.specs.Disks.{disks_of, identities_of}
use Rattle.pool_image.specs.Drives.{Found, first_of as first_in_pool}
use Rattle.pool_image.specs.Meaning.{is_member}
use Rattle.pool_model.specs.InService.{RunInvariant}
use Rattle.pool_model.specs.Laid.{HaveOtherIds, IsFormerYet, IsJoinedOutsideSlices, SaysFormerly}
use Rattle.pool_model.specs.Left.{HasNoSuper, IsPickOutsideSlices}
use Rattle.pool_model.specs.Stopped.{RecoversInCall, HoldTables, LieOn}
use Rattle.pool_model.specs.Taken.{KeepsOutsideSlices, LacksDrive, SeatsNew, taken, views_of}
use Rattle.pool_model.proofs.Joined.{current_other}
use Rattle.pool_model.proofs.JoiningSaid.{keeps_off, off_now, z}
use Rattle.pool_model.proofs.JoiningShown.{joining_amid}
use Rattle.pool_model.proofs.Staying.{sliced_seated}
use Rattle.pool_model.proofs.Taken.{IsKnownBefore}
use Rattle.pool_model.proofs.Unsliced.{free_super, laid_super, past_log}
use Rattle.pool_model.proofs.Vacant.{lacks_still, seats_from}

-- What is known of a pool and of the disk when it is taken in at a place: s are the tables by which the pool goes, t those in which the place has no disk, and u those with the new one,
-- whose table of these arrays has its slices there. Each place that is current has its drive. No superblock of an array stands on the disk where the slice of one would begin that the
-- place is no member of.
pub record IsTaking (f : Found) (s t u : Slices) (arrays : List View) (v : Raid) (place disk : ℕ) (x : RackView) : Type 0 where
  pub service : RunInvariant f s v x
  pub new : SeatsNew f s u v place disk (x.sectors disk)
  pub lacks : LacksDrive f s t v place x
  pub present : (p : ℕ) → is_current v.state p ≡ true → (d : ℕ) × (f.seats p ≡ Some d)
  pub low : disk < x.disks
  pub opened : IsOpenDisk x disk
  pub lasting : x.lasting
  pub orderly : IsOrderly u
  pub inside : IsInside u x
  pub tables : HoldTables f s v.state x
  pub lies : (c : Contents) → the_table (x.sectors disk) c ≡ Some (new_table v.state arrays place (x.sectors disk)) → LieOn u place (x.sectors disk) c
  pub alone :
      (n first : ℕ) → n < f.state.made → is_member f n place ≡ false → first_in_pool f n ≡ Some first → first + super_sector < x.sectors disk
      → (w : List ℕ) → MayLeave (x.held disk (first + super_sector)) w → HasNoSuper f.state.pool.0 n w

-- So it is of any place that gets another disk, u being the tables with it.
pub record IsEntering (f : Found) (s u : Slices) (arrays : List View) (v : Raid) (place disk : ℕ) (x : RackView) : Type 0 where
  pub service : RunInvariant f s v x
  pub new : SeatsNew f s u v place disk (x.sectors disk)
  pub present : (p : ℕ) → is_current v.state p ≡ true → (d : ℕ) × (f.seats p ≡ Some d)
  pub low : disk < x.disks
  pub opened : IsOpenDisk x disk
  pub lasting : x.lasting
  pub orderly : IsOrderly u
  pub inside : IsInside u x
  pub tables : HoldTables f s v.state x
  pub lies : (c : Contents) → the_table (x.sectors disk) c ≡ Some (new_table v.state arrays place (x.sectors disk)) → LieOn u place (x.sectors disk) c
  pub alone :
      (n first : ℕ) → n < f.state.made → is_member f n place ≡ false → first_in_pool f n ≡ Some first → first + super_sector < x.sectors disk
      → (w : List ℕ) → MayLeave (x.held disk (first + super_sector)) w → HasNoSuper f.state.pool.0 n w

taking_enters : (f : Found) (s t u : Slices) (arrays : List View) (v : Raid) (place disk : ℕ) (x : RackView) → IsTaking f s t u arrays v place disk x → IsEntering f s u arrays v place disk x
taking_enters f s t u arrays v place disk x is = record {
  service = is.service;
  new = is.new;
  present = is.present;
  low = is.low;
  opened = is.opened;
  lasting = is.lasting;
  orderly = is.orderly;
  inside = is.inside;
  tables = is.tables;
  lies = is.lies;
  alone = is.alone;
}

-- Each place that is current has its drive, where an array is told by the tables without the place's disk: it has its log slice then.
pub present_of : (f : Found) (s t : Slices) (v : Raid) (place : ℕ) (x : RackView) → RunInvariant f s v x → LacksDrive f s t v place x → IsTracked v (slices_of t x) 0 → is_failed v 0 ≡ false
    → (p : ℕ) → is_current v.state p ≡ true → (d : ℕ) × (f.seats p ≡ Some d)
present_of f s t v place x is lacks told lasts p now = by (f.seats p) refl
  where
    by : (o : Option ℕ) → f.seats p ≡ o → (d : ℕ) × (f.seats p ≡ Some d)
    by (Some d) seat = (d, seat)
    by None free =
        let at : place_of (log_slice p) ≡ p = omega arith in
        let nothing = is.slices.unseated (log_slice p) (ap f.seats at ∙ free) in
        let apart : place_of (log_slice p) ≢ place =
        λ same. both_ways (is_current v.state p) (subst (λ q. is_current v.state q ≡ false) (sym same ∙ at) lacks.missing) now in
        let many = lacks.vacated.sectors (log_slice p) apart in
        let some = (told.stood lasts).log.there p now refl in
        absurd (omega (arith, nothing, many, some))

module _ (f : Found) (s u : Slices) (arrays : List View) (v : Raid) (place disk : ℕ) (x y : RackView) (is : IsEntering f s u arrays v place disk x)
    (only : WritesOnly x y (IsWrittenBy u disk (new_table v.state arrays place (x.sectors disk)))) where
  known : IsKnownBefore f v
  known = record { outset = is.service.arranged; after = is.service.after; geometry = is.service.geometry }

  abbrev table : Table
  table = new_table v.state arrays place (x.sectors disk)

  -- What contents have outside the slices in which the live sectors have what they had, or what the call may write. The drive that the place had says no later state.
  pub entering_off : ((d : ℕ) → d ≢ disk → f.seats place ≡ Some d → (j : Image) → IsPickOutsideSlices u x j → (copy : Copied)
      → (identities_of (disks_of x) j d).copied ≡ Some copy → copy.state.epoch < raised v.state.epoch)
      → (i : Image) → IsMix x y (IsWrittenBy u disk table) i → IsJoinedOutsideSlices f u v place disk x i
  entering_off earlier i mix = record {
    low = is.low;
    opened = is.opened;
    others = λ d k other live never. elim (mix d k (live_on is.lasting only.stays live)) [
      | inl may ↦ may
      | inr written ↦ elim written [ inl own ↦ absurd (other own.0) | inr slice ↦ absurd (never (i d k) slice) ]
    ];
    alone = λ n first low none begins within.
        let past = past_log f s u v place disk (x.sectors disk) is.new is.service.slices known n first low begins none in
        elim (mix disk (first + super_sector) (live_on is.lasting only.stays (is.opened (first + super_sector) within))) [
          | inl may ↦ is.alone n first low none begins within (i disk (first + super_sector)) may
          | inr written ↦ elim written [
            | inl own ↦ laid_super f.state.pool.0 n disk table (first + super_sector) (i disk (first + super_sector)) (omega (arith, past)) own
            | inr slice ↦
                absurd (free_super f s u v place disk (x.sectors disk) is.new is.service.slices known n first low begins none (i disk (first + super_sector)) slice)
          ]
        ];
    earlier = earlier;
  }

  abbrev coming : (units : ℕ) → Plan → State
  coming units plan = enlisted place units plan v.state

  -- A stop whose log slices say a state that has the drive, where no other disk has the id of the next one, leaves contents that hold the pool with it.
  pub entering_late : (units : ℕ) (plan : Plan) (w : Raid) (i : Image) (joined : IsJoinedOutsideSlices f u v place disk x i)
      → ((d : ℕ) (copy : Copied) → f.seats place ≡ Some d → d ≢ disk → (identities_of (disks_of x) i d).copied ≡ Some copy → SaysFormerly v.state place copy)
      → has_other w.state place ≡ true → w.state.epoch < 2 ^ 63 - 1 → HoldsTable disk table i → HaveOtherIds f v.state place disk i
      → AreTakenSince (λ p. p == place) v.state (coming units plan) (sectors_of u) (sliced u i) → (logs : LogsBetween (coming units plan) w.state (sectors_of u) (sliced u i))
      → ((q : State) → state_in (sliced u i) ≡ Some q → OnlyMarksSince v.state q → is_current q place ≡ true
      → OnlyMarksSince (coming units plan) q ⊎ IsFormerYet (disks_of x) u q logs.state place i)
      → ((n : ℕ) → n < f.state.made → IsBetween (coming units plan) w.state n (replayed (sectors_of u) (sliced u i)))
      → ((n : ℕ) → n < f.state.made → HasFrame (frame_of (v.arrays n).truth) n (replayed (sectors_of u) (sliced u i)))
      → RecoversInCall (taken f (disks_of x) place disk (coming units plan)) u (coming units plan) w.state i
  entering_late units plan w i joined formerly other enough holds ids since logs former arrays frames =
      let tabled : the_table (x.sectors disk) (i disk) ≡ Some table = first_says (x.sectors disk) (i disk) table (holds Primary).says in
      let marks : OnlyMarksSince (coming units plan) w.state = after_then (coming units plan) logs.state w.state logs.later logs.sooner in
      let left = some_other w.state place other in
      joining_amid f s u v place disk units plan x i is.service is.new joined formerly w is.orderly is.inside is.tables is.present
      (left.0, left.2, sym (current_other place units plan v.state is.new.listed left.0 left.2) ∙ marks.current left.0 left.1, left.1)
      enough table refl tabled (is.lies (i disk) tabled) ids since logs former arrays frames

-- contents that say an array by a state between
pub between_says : (s : State) (w : Raid) (n : ℕ) (vals : ℕ → Values) (spent : ℕ → Bool) (r : Image) → SaysBetween s w.state n vals spent r → IsBetween s w.state n r
between_says s w n vals spent r at = record {
  state = at.state;
  is_state = at.is_state;
  later = at.later;
  sooner = at.sooner;
  shape = at.shape;
  shape_is = at.says.shape_is;
  is_sound = at.says.is_sound;
}

-- ---- a place that gave its disk up

module _ (f : Found) (s t u : Slices) (arrays : List View) (v : Raid) (place disk : ℕ) (x y : RackView) (is : IsTaking f s t u arrays v place disk x)
    (only : WritesOnly x y (IsWrittenBy u disk (new_table v.state arrays place (x.sectors disk)))) where
  abbrev enters : IsEntering f s u arrays v place disk x
  enters = taking_enters f s t u arrays v place disk x is

  -- slices of other disks were there before
  fewer : (d k : ℕ) (w : List ℕ) → d ≢ disk → IsSliced u d k w → IsSliced t d k w
  fewer d k w other at =
      let from = seats_from s t place is.lacks.vacated (views_of v) disk (x.sectors disk) u is.new.seats in
      sliced_seated (views_of v) place disk (x.sectors disk) t u from d k w other at

  keeps_same_off : KeepsOutsideSlices t disk x x
  keeps_same_off d k other live never = (live, keeps_same (x.held d k))

  pub taking_off : (i : Image) → IsMix x y (IsWrittenBy u disk (new_table v.state arrays place (x.sectors disk))) i → IsJoinedOutsideSlices f u v place disk x i
  taking_off =
      entering_off f s u arrays v place disk x y enters only
      (λ d other seat j off copy here.
      let less = lacks_still f s t u v place disk x x is.lacks keeps_same_off fewer d seat other refl j off copy here in
      let up : raised v.state.epoch ≡ v.state.epoch + 1 = ap (λ (b : Bool). if b then v.state.epoch + 1 else v.state.epoch) (lt-ltb v.state.epoch (2 ^ 63 - 1) is.new.room) in
      omega (arith, less, up))

  -- the drive that the place had says a state from before
  formerly : (i : Image) → IsJoinedOutsideSlices f u v place disk x i → (d : ℕ) (copy : Copied) → f.seats place ≡ Some d → d ≢ disk
      → (identities_of (disks_of x) i d).copied ≡ Some copy → SaysFormerly v.state place copy
  formerly i joined d copy seat other here =
      inl (lacks_still f s t u v place disk x (z f s u v place disk 0 v.state.plan x i is.service is.new joined) is.lacks
      (keeps_off f s u v place disk 0 v.state.plan x i is.service is.new joined t) fewer d seat other refl i
      (off_now f s u v place disk 0 v.state.plan x i is.service is.new joined) copy here)

  module _ (w : Raid) (units mid : ℕ) (plan : Plan) (traced : x.traced) (other : has_other w.state place ≡ true) (lasts : (n : ℕ) → n < f.state.made → is_failed w n ≡ false)
      (tells : (n : ℕ) → n < f.state.made → KeepsTold t u place disk units plan (new_table v.state arrays place (x.sectors disk)) v w x y mid n) (begun : x.clock ≤ mid) where
    abbrev next : State
    next = enlisted place units plan v.state

    -- as where places that were current keep their drives
    since_taken : (c : Image) → AreJoinSince v.state next (sectors_of u) c → AreTakenSince (λ p. p == place) v.state next (sectors_of u) c
    since_taken c since p few there =
        let one = since p few there in
        record {
          own = λ old was. one.own was;
          joins = λ copy how now here. one.joins copy (elim how [
            | inl same ↦ subst (λ q. is_current v.state q ≡ false) (sym (eqb-true p place same)) is.lacks.missing
            | inr past ↦ past
          ]) now here;
          former = one.former;
        }

    -- A stop from then on whose log slices say a state that has the drive, where no other disk has the id of the next one, leaves contents that hold the pool with it.
    pub taking_late : (k : ℕ) (i : Image) → mid < k → k ≤ y.clock → y.stops k i → HaveOtherIds f v.state place disk i
        → LogsBetween next w.state (sectors_of u) (sliced u i) → RecoversInCall (taken f (disks_of x) place disk next) u next w.state i
    taking_late k i late early stop ids logs =
        let mix = (only.stops traced).new k i (omega (arith, begun, late)) early stop in
        let joined = taking_off i mix in
        let first : 0 < f.state.made = (let made = is.service.arranged.made.0 in omega (arith, made)) in
        let one = (tells 0 first).after is.lacks.missing traced (lasts 0 first) k i late early stop in
        entering_late f s u arrays v place disk x y enters only units plan w i joined (formerly i joined) other
        (let most = (number_room w 0 (lasts 0 first)).1 in omega (arith, most)) one.holds ids (since_taken (sliced u i) one.since) logs
        (λ q at after now. absurd (both_ways (is_current v.state place) is.lacks.missing (after.current place now)))
        (λ n low. by n ((tells n low).after is.lacks.missing traced (lasts n low) k i late early stop).says)
        (λ n low. ((tells n low).after is.lacks.missing traced (lasts n low) k i late early stop).frame)
      where
        -- the state before is no later one
        by : (n : ℕ)
            → SaysBy v.state n (held_in v (slices_of t x) n) (spent_of w n) (replayed (sectors_of u) (sliced u i))
            ⊎ SaysBetween next w.state n (held_in v (slices_of t x) n) (spent_of w n) (replayed (sectors_of u) (sliced u i))
            → IsBetween next w.state n (replayed (sectors_of u) (sliced u i))
        by n (inr at) = between_says next w n (held_in v (slices_of t x) n) (spent_of w n) (replayed (sectors_of u) (sliced u i)) at
        by n (inl at) =
            let same : v.state ≡ logs.state = some_same v.state logs.state (sym at.is_state ∙ logs.says.is_state) in
            let epoch : v.state.epoch ≡ logs.state.epoch = ap (λ (z : State). z.epoch) same in
            let up : next.epoch ≡ v.state.epoch + 1 = ap (λ (b : Bool). if b then v.state.epoch + 1 else v.state.epoch) (lt-ltb v.state.epoch (2 ^ 63 - 1) is.new.room) in
            let from = logs.later.epoch in
            absurd (omega (arith, epoch, up, from))
