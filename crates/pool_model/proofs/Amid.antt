-- What a stop inside a call of a pool in service leaves holds the pool still.
--
-- `service_amid` says it of a call that writes slices alone, from what the call tells of its moments (`CrashInvariant`); `vacant_amid` says it where a place
-- whose drive is missing gave its disk up before. Beside `RunInvariant` they ask that the drives' tables in these contents have the members' slices
-- (`LieByTables`): they have where the pool was found with such tables (`tables_begin`), and calls that write slices alone leave them so (`tables_calls`,
-- `tables_amid`; for drives that were declined or taken in see proofs/Tables.antt).
use Rattle.std.proofs.Common.{◌≡◌, ◌⊎◌, ℕ, ◌+◌, ◌-◌, ◌<◌, ◌≤◌, ◌^◌, ◌&&◌, Bool, true, false, nat_lt, if◌then◌else◌, List, [], Option, Some, None, unwrap_or, refl, sym, ap, ap₂, subst, ◌∙◌, inl, inr, add-one, le-ltb, ltb-true, arith}
use Rattle.std.proofs.lemmas.Bool.{and_parts, cases_Bool, cases_eq}
use Rattle.std.proofs.lemmas.Option.{none-some}
use Rattle.rack.specs.Joins.{leaves_weaker}
use Rattle.rack.specs.Moments.{Leaves}
use Rattle.rack.specs.Seen.{Image, RackView}
use Rattle.rack.specs.Sequences.{WritesOnly}
use Rattle.slice_rack.specs.Runs.{IsSliced}
use Rattle.slice_rack.specs.Slices.{IsOrderly, Slices, disk_of, first_of as slice_first, seat_of as slice_seat, sectors_of}
use Rattle.slice_rack.specs.Sliced.{IsInside, sliced, slices_of}
use Rattle.gpt_table.specs.declared.Table.{Table}
use Rattle.md_super.specs.declared.superblock.Super.{Super}
use Rattle.pool_state.specs.declared.contents.Copied.{Copied}
use Rattle.pool_state.specs.declared.contents.State.{State}
use Rattle.pool_state.specs.Sector.{decoded}
use Rattle.array_image.specs.Arrays.{replayed}
use Rattle.array_image.specs.Left.{IsInside as HasNothing}
use Rattle.array_image.specs.Places.{log_slice, place_of}
use Rattle.array_image.specs.States.{is_current}
use Rattle.array_model.specs.View.{HasGeometry}
use Rattle.log_laws.proofs.Kept.{live_on}
use Rattle.raid_laws.specs.Book.{OnlyMarksSince, after_same}
use Rattle.raid_laws.specs.Frames.{HasFrame, frame_of}
use Rattle.raid_laws.specs.Logs.{LogsBetween}
use Rattle.raid_laws.specs.Raid.{IsTracked, Raid, is_failed}
use Rattle.raid_laws.specs.Runs.{IsBetween, CrashInvariant}
use Rattle.raid_laws.specs.Since.{AreSince, KeepsSince}
use Rattle.raid_laws.proofs.Noted.{current_few}
use Rattle.raid_laws.proofs.Over.{number_room, someone_left}
use Rattle.raid_laws.proofs.Since.{kept_since}
use Rattle.pool_image.specs.Disks.{Disks, Identities, disks_of, identities_of, stands_for}
use Rattle.pool_image.specs.Drives.{Found, extent_of}
use Rattle.pool_image.specs.Meaning.{is_member, truth_of}
use Rattle.pool_image.specs.Replay.{extent_by}
use Rattle.pool_model.specs.InService.{RunInvariant, IsArranged, IsOutset, IsSaid}
use Rattle.pool_model.specs.Left.{NoStraySuperblockBy, AreElsewhere, HoldRest, IsPickOutsideSlices}
use Rattle.pool_model.specs.Pools.{AreSlicesOf, extent_in}
use Rattle.pool_model.specs.Laid.{IsCalledBy, ShowsStop}
use Rattle.pool_model.specs.Stopped.{AreSlicesNow, HaveTables, RecoversInCall, RecoversBetween, HoldTables, LieByTables, TellsStops}
use Rattle.pool_model.specs.Taken.{LacksDrive}
use Rattle.pool_model.proofs.Again.{off_later}
use Rattle.pool_model.proofs.Alike.{slices_said}
use Rattle.pool_model.proofs.Found.{ok_of}
use Rattle.pool_model.proofs.Logs.{copied_in, there_in}
use Rattle.pool_model.proofs.Outset.{arranged_of}
use Rattle.pool_model.proofs.Said.{AreInside, slices_by}
use Rattle.pool_model.proofs.Shown.{shown_between}
use Rattle.pool_model.proofs.Vacant.{logs_other, seat_other, sliced_before, slices_now}

-- ---- tables

-- the drives' tables have the members' slices where they had them, and outside the slices they are as they were
pub tables_lie : (f : Found) (t : Slices) (s : State) (x : RackView) → HaveTables f → AreSlicesOf f t → ((i : Image) → IsPickOutsideSlices t x i → AreElsewhere f i) → HoldTables f t s x
tables_lie f t s x have slices elsewhere i off p d now seat n few some =
    let at : f.seats p ≡ Some d = sym (slices.seats p) ∙ seat in
    elim (cases_Bool (nat_lt n f.state.made && is_member f n p)) [
      | inr other ↦ (let none = slices.others n p few other in absurd (omega (arith, some, none)))
      | inl both ↦
          let parts = and_parts (nat_lt n f.state.made) (is_member f n p) both in
          let low = ltb-true n f.state.made parts.0 in
          ap₂ (λ (o : Option Table) (k : ℕ). extent_by (f.disks.sectors d) o k) ((elsewhere i off).tables p d at) (add-one n)
          ∙ have n p d low at parts.1 ∙ slices.members n p d low at parts.1
    ]

-- a pool that was found with the members' slices by its drives' tables
pub tables_begin : (f : Found) (t : Slices) (s : State) (x : RackView) → HaveTables f → AreSlicesOf f t → HoldRest f t x → HoldTables f t s x
tables_begin f t s x have slices rest = tables_lie f t s x have slices rest.elsewhere

-- calls that write slices alone
pub tables_calls : (f : Found) (t : Slices) (s r : State) (x y : RackView) → x.lasting → WritesOnly x y (IsSliced t) → OnlyMarksSince s r → HoldTables f t s x → HoldTables f t r y
tables_calls f t s r x y lasting only after tables i off p d now = tables i (off_later t x y i lasting only off) p d (after.current p now)

-- outside the slices a stop inside calls that write these alone leaves what the disks held
pub off_amid : (t : Slices) (x y : RackView) → x.lasting → WritesOnly x y (IsSliced t) → x.traced → (k : ℕ) (i : Image) → x.clock < k → k ≤ y.clock → y.stops k i → IsPickOutsideSlices t x i
off_amid t x y lasting only traced k i late early stop d u live never =
    elim ((only.stops traced).new k i late early stop d u (live_on lasting only.stays live)) [ inl may ↦ may | inr slice ↦ absurd (never (i d u) slice) ]

-- so the tables have them at each stop inside such calls
pub tables_amid : (f : Found) (t : Slices) (s : State) (x y : RackView) → x.lasting → WritesOnly x y (IsSliced t) → HoldTables f t s x → x.traced → Leaves x y (LieByTables f t s)
tables_amid f t s x y lasting only tables traced =
    let stops = only.stops traced in
    record { later = stops.later; kept = stops.kept; past = stops.past; new = λ k i late early stop. tables i (off_amid t x y lasting only traced k i late early stop) }

-- slices have nothing past their ends
pub nothing_past : (t : Slices) (i : Image) → HasNothing (sectors_of t) (sliced t i)
nothing_past t i d u past = ap (λ (b : Bool). if b then i (disk_of t d) (slice_first t d + u) else []) (le-ltb u (sectors_of t d) past)

-- outside the slices of fewer places
pub off_more : (t u : Slices) (x : RackView) → ((d s : ℕ) (w : List ℕ) → IsSliced u d s w → IsSliced t d s w) → (i : Image) → IsPickOutsideSlices u x i → IsPickOutsideSlices t x i
off_more t u x before i off d s live never = off d s live (λ w is. never w (before d s w is))

-- ---- a call

-- slices lie inside the pool's disks
pub inside_of : (f : Found) (t : Slices) (x : RackView) → f.disks ≡ disks_of x → IsInside t x → AreInside f t
inside_of f t x disks inside j d seat some =
    let disk : disk_of t j ≡ d = ap (λ o. unwrap_or o 0) seat in
    let sectors : x.sectors d ≡ f.disks.sectors d = ap (λ (z : Disks). z.sectors d) (sym disks) in
    let low = inside.slices j some in
    let here : x.sectors (disk_of t j) ≡ x.sectors d = ap x.sectors disk in
    omega (arith, low, sectors, here)

-- What a call finds of a pool in service, by slices t that lie as those of its current places: no other drive says the book's state or a later one.
record IsCalled (f : Found) (t : Slices) (v : Raid) (x : RackView) : Type 0 where
  disks : f.disks ≡ disks_of x
  arranged : IsArranged f
  after : OnlyMarksSince f.state v.state
  joined : f.state.joined ≡ f.state.made
  geometry : (n : ℕ) (u : Super) → n < f.state.made → truth_of f n ≡ Some u → HasGeometry u (v.arrays n).truth
  said : (i : Image) → IsPickOutsideSlices t x i → IsSaid f i
  slices : (e : Identities) → AreSlicesNow (record f { identities = e }) t v.state
  former :
      (p d : ℕ) → f.seats p ≡ Some d → is_current v.state p ≡ false
      → ((slice_seat t p ≡ Some d) × (extent_of f 0 ≡ Some (extent_in t (log_slice p))))
      ⊎ ((i : Image) → IsPickOutsideSlices t x i → (copy : Copied) → (identities_of (disks_of x) i d).copied ≡ Some copy → copy.state.epoch < v.state.epoch)

module _ (f : Found) (t : Slices) (v w : Raid) (x y : RackView) (is : IsCalled f t v x) (orderly : IsOrderly t) (inside : IsInside t x)
    (lasting : x.lasting) (only : WritesOnly x y (IsSliced t)) (tells : x.traced → TellsStops f.state.made v w (slices_of t x) (slices_of t y))
    (absent : (i : Image) → IsPickOutsideSlices t x i → AreSince v.state (sectors_of t) (sliced t i) → (p d : ℕ) → is_current v.state p ≡ true → f.seats p ≡ None → d < f.disks.count
    → stands_for v.state (identities_of f.disks i d) ≡ Some p → ⊥)
    (enough : w.state.epoch < 2 ^ 63 - 1) (someone : (s : State) → OnlyMarksSince v.state s → OnlyMarksSince s w.state → (p d : ℕ) × (is_current s p ≡ true) × (f.seats p ≡ Some d)) where
  within : AreInside f t
  within = inside_of f t x is.disks inside

  by : IsCalledBy f t v
  by = record { arranged = is.arranged; after = is.after; joined = is.joined; geometry = is.geometry; slices = is.slices; orderly = orderly; inside = within }

  module _ (traced : x.traced) (k : ℕ) (i : Image) (late : x.clock < k) (early : k ≤ y.clock) (stop : y.stops k i)
      (tables : LieByTables f t v.state i) (alone : NoStraySuperblockBy v.state f i) where
    abbrev c : Image
    c = sliced t i

    shown : (slices_of t y).stops k c
    shown = (i, stop, λ d s. refl)

    nothing : HasNothing (sectors_of t) c
    nothing = nothing_past t i

    since : AreSince v.state (sectors_of t) c
    since = (tells traced).since.new k c late early shown nothing

    off : IsPickOutsideSlices t x i
    off = off_amid t x y lasting only traced k i late early stop

    -- a drive whose place wasn't current
    former : (p d : ℕ) (copy : Copied) → f.seats p ≡ Some d → is_current v.state p ≡ false → (identities_of f.disks i d).copied ≡ Some copy → copy.state.epoch < v.state.epoch
    former p d copy seat past here = elim (is.former p d seat past) [
      | inr low ↦ low i off copy (subst (λ disks. (identities_of disks i d).copied ≡ Some copy) is.disks here)
      | inl has ↦
          (since p (current_few f.state p is.arranged.places (is.arranged.seated p d seat).0) (there_in f t i within p d has.0 has.1)).former copy past
          (ok_of (decoded (c (log_slice p) 0)) copy (sym (copied_in f t i within p d has.0 has.1) ∙ here))
    ]

    shows : ShowsStop f t v w i
    shows = record {
      parts = record {
        said = is.said i off;
        tables = tables;
        alone = alone;
        absent = absent i off since;
        logs = (tells traced).logs.new k c late early shown nothing;
        arrays = λ n low. ((tells traced).arrays n low).new k c late early shown nothing;
        frames = λ n low. ((tells traced).frames n low).new k c late early shown nothing;
      };
      former = former;
      since = since;
    }

    amid : RecoversBetween f t v.state w.state i
    amid = shown_between f t v w i by shows enough someone

  called_amid : x.traced → Leaves x y (λ i. LieByTables f t v.state i → NoStraySuperblockBy v.state f i → RecoversBetween f t v.state w.state i)
  called_amid traced =
      let stops = only.stops traced in
      record { later = stops.later; kept = stops.kept; past = stops.past; new = amid traced }

-- ---- calls of a rack of arrays

-- copies stay such as calls leave that began with the book
pub moments_since : (v w : Raid) (a b : RackView) → CrashInvariant v w a b → IsTracked v a 0 → is_failed w 0 ≡ false → KeepsSince v.state a b
moments_since v w a b keeps told lasts =
    keeps.since 0 v.state told lasts (after_same v.state) (kept_since v.state v.number a (told.stood (keeps.still 0 lasts)).log)

-- Where the arrays are told when calls begin, and none is over when they end, the calls tell of their stops; each place that is current has its log slice, so it
-- has a drive.
module _ (f : Found) (t : Slices) (v w : Raid) (x y : RackView) (is : IsCalled f t v x) (keeps : CrashInvariant v w (slices_of t x) (slices_of t y))
    (told : (n : ℕ) → n < f.state.made → IsTracked v (slices_of t x) n) (lasts : (n : ℕ) → n < f.state.made → is_failed w n ≡ false) where
  first : 0 < f.state.made
  first = (let made = is.arranged.made.0 in omega (arith, made))

  calls_tell : x.traced → TellsStops f.state.made v w (slices_of t x) (slices_of t y)
  calls_tell traced =
      record {
        logs =
            leaves_weaker (LogsBetween v.state w.state (sectors_of t)) (λ c. HasNothing (sectors_of t) c → LogsBetween v.state w.state (sectors_of t) c)
            (λ c says none. says) (keeps.logs 0 (told 0 first) (lasts 0 first) traced);
        since = (moments_since v w (slices_of t x) (slices_of t y) keeps (told 0 first) (lasts 0 first)).leaves traced;
        arrays = λ n low.
            leaves_weaker (λ c. IsBetween v.state w.state n (replayed (sectors_of t) c)) (λ c. HasNothing (sectors_of t) c → IsBetween v.state w.state n (replayed (sectors_of t) c))
            (λ c says none. says) (keeps.images n (told n low) (lasts n low) traced);
        frames = λ n low.
            leaves_weaker (λ c. HasFrame (frame_of (v.arrays n).truth) n (replayed (sectors_of t) c))
            (λ c. HasNothing (sectors_of t) c → HasFrame (frame_of (v.arrays n).truth) n (replayed (sectors_of t) c))
            (λ c says none. says) (keeps.frames n (told n low) (lasts n low) traced);
      }

  has_drive : (p : ℕ) → is_current v.state p ≡ true → (d : ℕ) × (f.seats p ≡ Some d)
  has_drive p now = by (f.seats p) refl
    where
      by : (o : Option ℕ) → f.seats p ≡ o → (d : ℕ) × (f.seats p ≡ Some d)
      by (Some d) seat = (d, seat)
      by None free =
          let at : place_of (log_slice p) ≡ p = omega arith in
          let nothing = (is.slices f.identities).unseated (log_slice p) (ap (is_current v.state) at ∙ now) (ap f.seats at ∙ free) in
          let some = ((told 0 first).stood (keeps.still 0 (lasts 0 first))).log.there p now refl in
          absurd (omega (arith, nothing, some))

  told_amid : IsOrderly t → IsInside t x → x.lasting → WritesOnly x y (IsSliced t) → x.traced
      → Leaves x y (λ i. LieByTables f t v.state i → NoStraySuperblockBy v.state f i → RecoversInCall f t v.state w.state i)
  told_amid orderly inside lasting only traced =
      leaves_weaker (λ i. LieByTables f t v.state i → NoStraySuperblockBy v.state f i → RecoversBetween f t v.state w.state i)
      (λ i. LieByTables f t v.state i → NoStraySuperblockBy v.state f i → RecoversInCall f t v.state w.state i)
      (λ i holds lie alone.
      let between = holds lie alone in
      record {
        between = between;
        present = λ p counts. let one = has_drive p (between.later.current p counts) in (one.0, between.still.seats p counts ∙ one.1);
      })
      (called_amid f t v w x y is orderly inside lasting only calls_tell
      (λ i off since p d now free low stands. let one = has_drive p now in none-some one.0 (sym free ∙ one.1))
      (let most = (number_room w 0 (lasts 0 first)).1 in omega (arith, most))
      (λ s later sooner.
      let one = someone_left w 0 (lasts 0 first) in
      let now = sooner.current one.0 one.1 in
      let drive = has_drive one.0 (later.current one.0 now) in (one.0, drive.0, now, drive.1))
      traced)

-- where outside the slices no superblock stands where none is to be, stops inside calls that write these alone leave none there
alone_amid : (f : Found) (t : Slices) (s r : State) (x y : RackView) → x.lasting → WritesOnly x y (IsSliced t) → x.traced → ((i : Image) → IsPickOutsideSlices t x i → NoStraySuperblockBy s f i)
    → Leaves x y (λ i. LieByTables f t s i → NoStraySuperblockBy s f i → RecoversInCall f t s r i) → Leaves x y (λ i. LieByTables f t s i → RecoversInCall f t s r i)
alone_amid f t s r x y lasting only traced alone stops = record {
  later = stops.later;
  kept = stops.kept;
  past = stops.past;
  new = λ k i late early stop lie. stops.new k i late early stop lie (alone i (off_amid t x y lasting only traced k i late early stop));
}

-- ---- a pool before it is in service

-- A pool that was found on the disks: its arrays stand by the book over slices that lie as it has them, with the members and the sizes that they had, and outside
-- the slices its disks say what they said.
pub record IsReady (f : Found) (t : Slices) (v : Raid) (x : RackView) : Type 0 where
  pub disks : f.disks ≡ disks_of x
  pub outset : IsOutset f
  pub slices : AreSlicesOf f t
  pub after : OnlyMarksSince f.state v.state
  pub joined : f.state.joined ≡ f.state.made
  pub geometry : (n : ℕ) (u : Super) → n < f.state.made → truth_of f n ≡ Some u → HasGeometry u (v.arrays n).truth
  pub elsewhere : (i : Image) → IsPickOutsideSlices t x i → AreElsewhere f i

-- what a call finds of it
ready_called : (f : Found) (t : Slices) (v : Raid) (x : RackView) → IsReady f t v x → IsCalled f t v x
ready_called f t v x is =
    let arranged = arranged_of f is.outset in
    record {
      disks = is.disks;
      arranged = arranged;
      after = is.after;
      joined = is.joined;
      geometry = is.geometry;
      said = λ i off. record { identities = f.identities; outset = is.outset; elsewhere = is.elsewhere i off };
      slices = λ e. slices_by (record f { identities = e }) t v.state (slices_said f e arranged.made.1 arranged.truths t is.slices);
      former = λ p d seat past. inl (is.slices.seats p ∙ seat, is.slices.logs p d seat);
    }

-- Where calls tell of their stops, and no disk stands for a current place without a drive, each stop inside them that leaves no superblock where none is to
-- be leaves contents that hold the pool still.
pub found_tells : (f : Found) (t : Slices) (v w : Raid) (x y : RackView) → IsReady f t v x → IsOrderly t → IsInside t x → x.lasting → WritesOnly x y (IsSliced t)
    → (x.traced → TellsStops f.state.made v w (slices_of t x) (slices_of t y))
    → (AreInside f t → (i : Image) → IsPickOutsideSlices t x i → AreSince v.state (sectors_of t) (sliced t i) → (p d : ℕ) → is_current v.state p ≡ true → f.seats p ≡ None
    → d < f.disks.count → stands_for v.state (identities_of f.disks i d) ≡ Some p → ⊥)
    → w.state.epoch < 2 ^ 63 - 1 → ((s : State) → OnlyMarksSince v.state s → OnlyMarksSince s w.state → (p d : ℕ) × (is_current s p ≡ true) × (f.seats p ≡ Some d))
    → x.traced → Leaves x y (λ i. LieByTables f t v.state i → NoStraySuperblockBy v.state f i → RecoversBetween f t v.state w.state i)
found_tells f t v w x y is orderly inside lasting only tells absent enough someone =
    called_amid f t v w x y (ready_called f t v x is) orderly inside lasting only tells (absent (inside_of f t x is.disks inside)) enough someone

-- So it is where the arrays are told when calls begin, and none is over when they end.
pub ready_amid : (f : Found) (t : Slices) (v w : Raid) (x y : RackView) → IsReady f t v x → IsOrderly t → IsInside t x
    → x.lasting → WritesOnly x y (IsSliced t) → CrashInvariant v w (slices_of t x) (slices_of t y)
    → ((n : ℕ) → n < f.state.made → IsTracked v (slices_of t x) n) → ((n : ℕ) → n < f.state.made → is_failed w n ≡ false)
    → x.traced → Leaves x y (λ i. LieByTables f t v.state i → NoStraySuperblockBy v.state f i → RecoversInCall f t v.state w.state i)
ready_amid f t v w x y is orderly inside lasting only keeps told lasts =
    told_amid f t v w x y (ready_called f t v x is) keeps told lasts orderly inside lasting only

-- ---- a pool in service

-- what a call finds of it
service_called : (f : Found) (t : Slices) (v : Raid) (x : RackView) → RunInvariant f t v x → IsCalled f t v x
service_called f t v x is = record {
  disks = is.disks;
  arranged = is.arranged;
  after = is.after;
  joined = is.joined;
  geometry = is.geometry;
  said = is.held.said;
  slices = λ e. slices_by (record f { identities = e }) t v.state (slices_said f e is.arranged.made.1 is.arranged.truths t is.slices);
  former = λ p d seat past. inl (is.slices.seats p ∙ seat, is.slices.logs p d seat);
}

-- Where the arrays are told when a call begins, and none is over when it ends, each stop inside it leaves contents that hold the pool still.
pub service_amid : (f : Found) (t : Slices) (v w : Raid) (x y : RackView) → RunInvariant f t v x → IsOrderly t → IsInside t x
    → x.lasting → WritesOnly x y (IsSliced t) → CrashInvariant v w (slices_of t x) (slices_of t y)
    → ((n : ℕ) → n < f.state.made → IsTracked v (slices_of t x) n) → ((n : ℕ) → n < f.state.made → is_failed w n ≡ false)
    → x.traced → Leaves x y (λ i. LieByTables f t v.state i → RecoversInCall f t v.state w.state i)
service_amid f t v w x y is orderly inside lasting only keeps told lasts traced =
    alone_amid f t v.state w.state x y lasting only traced is.held.alone
    (told_amid f t v w x y (service_called f t v x is) keeps told lasts orderly inside lasting only traced)

-- So it is where a place whose drive is missing has no disk any more.
pub vacant_amid : (f : Found) (t u : Slices) (v w : Raid) (x y : RackView) (place : ℕ) → RunInvariant f t v x → LacksDrive f t u v place x
    → IsOrderly u → IsInside u x
    → x.lasting → WritesOnly x y (IsSliced u) → CrashInvariant v w (slices_of u x) (slices_of u y)
    → ((n : ℕ) → n < f.state.made → IsTracked v (slices_of u x) n) → ((n : ℕ) → n < f.state.made → is_failed w n ≡ false)
    → x.traced → Leaves x y (λ i. LieByTables f u v.state i → RecoversInCall f u v.state w.state i)
vacant_amid f t u v w x y place is lacks orderly inside lasting only keeps told lasts traced =
    let few = is.arranged.made.1 in
    let more = off_more t u x (sliced_before t u place lacks.vacated) in
    alone_amid f u v.state w.state x y lasting only traced (λ i off. is.held.alone i (more i off))
    (told_amid f u v w x y (record {
      disks = is.disks;
      arranged = is.arranged;
      after = is.after;
      joined = is.joined;
      geometry = is.geometry;
      said = λ i off. is.held.said i (more i off);
      slices = λ e. slices_now t u place lacks.vacated (record f { identities = e }) (slices_said f e few is.arranged.truths t is.slices) v.state lacks.missing few;
      former = λ p d seat past. elim (cases_eq p place) [
        | inl at ↦ inr (λ i off copy here. lacks.earlier d (subst (λ q. f.seats q ≡ Some d) at seat) i off copy here)
        | inr other ↦
            inl (
              seat_other t u place lacks.vacated p other ∙ is.slices.seats p ∙ seat,
              logs_other t u place lacks.vacated f is.slices v.state lacks.missing p d other seat,
            )
      ];
    }) keeps told lasts orderly inside lasting only traced)
