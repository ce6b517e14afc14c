-- A pool in service opens again, also once it took new drives in.
--
-- `RunInvariant f t v x` holds from the opening of the pool f to its end: `in_service` at the opening, `service_calls` after calls that write slices
-- alone, `service_attached` after a drive was declined, `service_taken` after one was taken in. From then on f is `taken f ..`: its disks are those
-- of the bay, the place has the new disk, its state is the one that has the drive, and all else is as it was. At the end `service_again` says that
-- whatever the disks may be left with holds that pool again, `vacant_again` says it where a place whose drive is missing gave its disk up. They go by what
-- is known then of the pool with what its disks say (`service_known`, `vacant_known`).
--
-- What a run has to tell of a drive that was taken in, from the book v, the tables t and the disks x before to w, u and z after it:
-- - `SeatsNew`, of the place: it is in the list, no other place's drive is missing that had a disk, and the disk is none of theirs; `seats`
--   are those of the tables (`seats_through` of proofs/Vacant.antt, where the place gave its disk up before). `fresh`: ids of serials differ
--   (proofs/Serials.antt). `room`: numbers aren't used up at the end (`epoch_room` of proofs/Lost.antt). `members`: the disk reaches the arrays of
--   which the place is a member (`joins_member` of proofs/NewMembers.antt).
-- - `KeepsRest`, of the disks: `outside`, that sectors which are told, unspent and in no slice keep what they held, and stay unspent, on all disks
--   but the new one. `alone`, that no superblock stands on it where slices would begin of arrays that the place is no member of. `earlier`, that a
--   disk which came says no state or an earlier one, and so does the drive that the place had when f was opened: by `lost_earlier` of proofs/Lost.antt,
--   where its sector of the state has stayed since the arrays were told with it (`former_earlier`, where the place's drive was there until the new one came), or by
--   `lacks_still` of proofs/Vacant.antt, where it gave the disk up.
-- - `JoinsBook`, of the book: marks alone come to `enlisted place units plan v.state`, and but for the renewed members the arrays stay.
-- For a drive that was declined `KeepsOthers` says so of the disks: what came says an earlier state, and the disk that may have been written one that
-- it may have said before, or none. `LacksDrive` (kept by `lacks_calls`, `lacks_still`) says of the place, where it has no disk any more, that t are still
-- the tables from before that. What is laid on a new drive says no state and is no superblock: proofs/Unsliced.antt.
use Rattle.std.proofs.Common.{◌≡◌, ℕ, ◌<◌, Bool, false, Some, refl, sym, ap₂, ◌∙◌, inl, arith}
use Rattle.array_core.proofs.Stripped.{some_same}
use Rattle.rack.specs.Seen.{Image, IsPick, RackView}
use Rattle.rack.specs.Sequences.{WritesOnly}
use Rattle.slice_rack.specs.Runs.{IsSliced}
use Rattle.slice_rack.specs.Slices.{Slices}
use Rattle.slice_rack.specs.Sliced.{IsInside, slices_of}
use Rattle.md_super.specs.declared.superblock.Super.{Super}
use Rattle.pool_state.specs.declared.contents.Plan.{Plan}
use Rattle.pool_state.specs.declared.contents.State.{State}
use Rattle.array_model.specs.View.{HasGeometry}
use Rattle.pool_image.specs.Disks.{Identities, disks_of}
use Rattle.pool_image.specs.Drives.{Found, found}
use Rattle.pool_image.specs.Meaning.{truth_of}
use Rattle.raid_laws.specs.Book.{OnlyMarksSince, after_then}
use Rattle.raid_laws.specs.Enlisting.{enlisted}
use Rattle.raid_laws.specs.Moves.{KeepsArrays}
use Rattle.raid_laws.specs.Raid.{Raid, IsTracked, is_failed}
use Rattle.pool_model.specs.InService.{HoldSaid, RunInvariant}
use Rattle.pool_model.specs.Left.{RecoversIdle, HoldRest, Recovers, IsServed}
use Rattle.pool_model.specs.Pools.{AreSlicesOf, IsSoundPool}
use Rattle.pool_model.specs.Stopped.{RecoversLanding, HoldTables}
use Rattle.pool_model.specs.Taken.{JoinsBook, KeepsOthers, KeepsRest, LacksDrive, SeatsNew, attached, taken}
use Rattle.pool_model.proofs.Again.{known_again, left_by, left_known_by, off_later, pick_in}
use Rattle.pool_model.proofs.Alike.{alone_said, has_truths, sectors_said, served_said, slices_like, slices_said, truth_same}
use Rattle.pool_model.proofs.Copies.{IsKnown, IsServedNow}
use Rattle.pool_model.proofs.Declined.{arranged_attached, held_attached, truths_attached}
use Rattle.pool_model.proofs.Found.{found_is}
use Rattle.pool_model.proofs.Landing.{landing_again}
use Rattle.pool_model.proofs.Outset.{arranged_of, outset_of}
use Rattle.pool_model.proofs.Staying.{held_taken}
use Rattle.pool_model.proofs.Taken.{IsKnownBefore, arranged_taken}
use Rattle.pool_model.proofs.TakenSlices.{geometry_taken, geometry_then, slices_taken}
use Rattle.pool_model.proofs.Vacant.{known_vacant, on_disks, slices_now}

-- a sound pool that was found on the disks
pub in_service : (before : Image) (f : Found) (t : Slices) (v : Raid) (x : RackView)
    → found (disks_of x) before ≡ Some f → IsSoundPool f → AreSlicesOf f t → OnlyMarksSince f.state v.state → f.state.joined ≡ f.state.made
    → ((n : ℕ) (u : Super) → n < f.state.made → truth_of f n ≡ Some u → HasGeometry u (v.arrays n).truth)
    → HoldRest f t x → RunInvariant f t v x
in_service before f t v x found_before sound slices after joined geometry rest =
    let at = found_is (disks_of x) before f found_before in
    let outset = outset_of f at.0 sound in
    record {
      disks = at.1;
      arranged = arranged_of f outset;
      slices = slices;
      after = after;
      joined = joined;
      geometry = geometry;
      held = record {
        said = λ i off. record { identities = f.identities; outset = outset; elsewhere = rest.elsewhere i off };
        alone = λ i off n p d first low counts seat. rest.alone i off n p d first low seat;
      };
    }

-- each disk is one place's
pub one_seat : (f : Found) (t : Slices) (v : Raid) (x : RackView) → RunInvariant f t v x → (p q d : ℕ) → f.seats p ≡ Some d → f.seats q ≡ Some d → p ≡ q
one_seat f t v x is p q d one two =
    let said = is.held.said (λ e s. (x.held e s).current) (λ e s live never. inl refl) in
    some_same p q (sym (said.outset.seated p d one).stands ∙ (said.outset.seated q d two).stands)

-- calls that write slices alone, and by which marks alone come to the book
pub service_calls : (f : Found) (t : Slices) (v w : Raid) (x y : RackView) → RunInvariant f t v x → x.lasting → WritesOnly x y (IsSliced t)
    → OnlyMarksSince v.state w.state → ((n : ℕ) → n < v.state.made → HasGeometry (v.arrays n).truth (w.arrays n).truth) → RunInvariant f t w y
service_calls f t v w x y is lasting only after arrays = record {
  disks = is.disks ∙ ap₂ (λ n (m : ℕ → ℕ). record { count = n; sectors = m }) (sym only.stays.disks) (λ j d. sym (only.stays.sectors d) j);
  arranged = is.arranged;
  slices = is.slices;
  after = after_then f.state v.state w.state is.after after;
  joined = is.joined;
  geometry = λ n u low truth.
      geometry_then u (v.arrays n).truth (w.arrays n).truth (is.geometry n u low truth)
      (arrays n (let made = is.after.same.made in omega (arith, low, made)));
  held = record {
    said = λ i off. is.held.said i (off_later t x y i lasting only off);
    alone = λ i off n p d first low counts. is.held.alone i (off_later t x y i lasting only off) n p d first low (after.current p counts);
  };
}

-- marks make no place current
said_after : (f : Found) (t : Slices) (s r : State) (x : RackView) → OnlyMarksSince s r → HoldSaid f t s x → HoldSaid f t r x
said_after f t s r x after held = record {
  said = held.said;
  alone = λ i off n p d first low counts. held.alone i off n p d first low (after.current p counts);
}

-- a place got a new drive
pub service_taken : (f : Found) (t u : Slices) (v w : Raid) (x z : RackView) (place disk units : ℕ) (plan : Plan) (joining : ℕ → Bool)
    → RunInvariant f t v x → SeatsNew f t u v place disk (z.sectors disk) → KeepsRest f t u v place disk x z → JoinsBook v w place units plan joining
    → RunInvariant (taken f (disks_of z) place disk (enlisted place units plan v.state)) u w z
service_taken f t u v w x z place disk units plan joining is new keeps joins =
    let known : IsKnownBefore f v = record { outset = is.arranged; after = is.after; geometry = is.geometry } in
    record {
      disks = refl;
      arranged = arranged_taken f t u v (disks_of z) place disk units plan new known keeps.sectors keeps.disks keeps.low;
      slices = slices_taken f t u v (disks_of z) place disk units plan new known keeps.sectors is.slices;
      after = joins.marks;
      joined = is.after.same.joined ∙ is.joined ∙ sym is.after.same.made;
      geometry = geometry_taken f t u v (disks_of z) place disk units plan new known keeps.sectors w joining joins;
      held =
          said_after (taken f (disks_of z) place disk (enlisted place units plan v.state)) u (enlisted place units plan v.state) w.state z joins.marks
          (held_taken f t u v x z place disk units plan new known keeps is.held);
    }

-- disks were attached, or one that is no drive of the pool was written
pub service_attached : (f : Found) (t : Slices) (v w : Raid) (disk : ℕ) (x z : RackView) → RunInvariant f t v x → KeepsOthers f t v.state disk x z
    → OnlyMarksSince v.state w.state → KeepsArrays v w → RunInvariant (attached f (disks_of z)) t w z
service_attached f t v w disk x z is keeps after arrays =
    let truths = truths_attached f (disks_of z) is.arranged keeps.disks keeps.sectors in
    let few = is.arranged.made.1 in
    let has = is.arranged.truths in
    record {
      disks = refl;
      arranged = arranged_attached f (disks_of z) is.arranged keeps.disks keeps.sectors;
      slices = slices_like f (attached f (disks_of z)) few has truths t (λ p. refl) refl is.slices;
      after = after_then f.state v.state w.state is.after after;
      joined = is.joined;
      geometry = λ n u low truth.
          geometry_then u (v.arrays n).truth (w.arrays n).truth
          (is.geometry n u low (sym (truth_same f (attached f (disks_of z)) few has truths n low) ∙ truth))
          (arrays n (let made = is.after.same.made in omega (arith, low, made))).same.geometry;
      held = said_after (attached f (disks_of z)) t v.state w.state z after (held_attached f t v.state disk x z is.arranged keeps is.held);
    }

-- ---- what it is left as

-- what disks say is no part of what it is to hold a pool
unfoldable pub still_said : (f : Found) (e : Identities) (t : Slices) (s : State) (i : Image) → Recovers (record f { identities = e }) t s i → Recovers f t s i
still_said f e t s i is = record {
  now = is.now;
  found_is = is.found_is;
  sound = is.sound;
  logs = is.logs;
  state = is.state;
  seats = is.seats;
  slices = is.slices;
  joined = is.joined;
  alone = is.alone;
  sectors = λ n low. is.sectors n low ∙ sectors_said f e n;
  is_state = is.is_state;
  truths = is.truths;
  shapes = is.shapes;
  values = is.values;
}

unfoldable pub again_said : (f : Found) (e : Identities) (t : Slices) (s : State) (i : Image) → RecoversIdle (record f { identities = e }) t s i → RecoversIdle f t s i
unfolding still_said
again_said f e t s i is = record { still = still_said f e t s i is.still; present = is.present; idle = is.idle }

-- Where its arrays are told and none is over, all is known of it and of what the disks may be left with, by what these say of it.
pub service_known : (f : Found) (t : Slices) (v : Raid) (x : RackView) → RunInvariant f t v x → IsInside t x
    → ((n : ℕ) → n < f.state.made → IsTracked v (slices_of t x) n) → ((n : ℕ) → n < f.state.made → is_failed v n ≡ false)
    → (i : Image) → IsPick x x x.held i → (e : Identities) × IsKnown (record f { identities = e }) t v (slices_of t x) i
service_known f t v x is inside told lasts i pick =
    let said = is.held.said i (λ d s live never. pick d s live) in
    let e = said.identities in
    let served : IsServed f t v (slices_of t x) =
    record { slices = is.slices; after = is.after; joined = is.joined; told = told; lasts = lasts; geometry = is.geometry } in
    let here = served_said f e is.arranged.made.1 is.arranged.truths t v (slices_of t x) served in (
      e,
      left_known_by (record f { identities = e }) t x v here inside i said.outset is.disks said.elsewhere
          (alone_said f e is.arranged.made.1 is.arranged.truths v.state i (is.held.alone i (λ d s live never. pick d s live))) (pick_in t x i pick),
    )

-- So it is where a place whose drive is missing has no disk any more.
pub vacant_known : (f : Found) (t u : Slices) (v : Raid) (x : RackView) (place : ℕ) → RunInvariant f t v x → LacksDrive f t u v place x → IsInside u x
    → ((n : ℕ) → n < f.state.made → IsTracked v (slices_of u x) n) → ((n : ℕ) → n < f.state.made → is_failed v n ≡ false)
    → (i : Image) → IsPick x x x.held i → (e : Identities) × IsKnown (record f { identities = e }) u v (slices_of u x) i
vacant_known f t u v x place is lacks inside told lasts i pick =
    let said = is.held.said i (λ d s live never. pick d s live) in
    let e = said.identities in
    let few = is.arranged.made.1 in
    let has = is.arranged.truths in
    let g : Found = record f { identities = e } in
    let slices = slices_said f e few has t is.slices in
    let served : IsServedNow g u v (slices_of u x) =
    record {
      slices = slices_now t u place lacks.vacated g slices v.state lacks.missing few;
      after = is.after;
      joined = is.joined;
      told = told;
      lasts = lasts;
      geometry = λ n q low truth. is.geometry n q low (sym (truth_same f g few has (has_truths f e few has) n low) ∙ truth);
    } in
    let still : LacksDrive g t u v place x = record { vacated = lacks.vacated; missing = lacks.missing; earlier = lacks.earlier } in
    let left =
    left_by u x inside (on_disks t u place lacks.vacated g slices) g v.state i is.disks said.elsewhere (alone_said f e few has v.state i (is.held.alone i (λ d s live never. pick d s live)))
    (pick_in u x i pick) in
    (e, known_vacant g t u v x place i said.outset is.disks slices still served left (λ d s live never. pick d s live))

-- what is known of it by what disks say holds it again
known_said : (f : Found) (t : Slices) (v : Raid) (y : RackView) (i : Image) → (e : Identities) × IsKnown (record f { identities = e }) t v y i → RecoversIdle f t v.state i
known_said f t v y i one = again_said f one.0 t v.state i (known_again (record f { identities = one.0 }) t v y i one.1)

-- So whatever the disks may be left with holds it again.
pub service_again : (f : Found) (t : Slices) (v : Raid) (x : RackView) → RunInvariant f t v x → IsInside t x
    → ((n : ℕ) → n < f.state.made → IsTracked v (slices_of t x) n) → ((n : ℕ) → n < f.state.made → is_failed v n ≡ false)
    → (i : Image) → IsPick x x x.held i → RecoversIdle f t v.state i
service_again f t v x is inside told lasts i pick = known_said f t v (slices_of t x) i (service_known f t v x is inside told lasts i pick)

pub vacant_again : (f : Found) (t u : Slices) (v : Raid) (x : RackView) (place : ℕ) → RunInvariant f t v x → LacksDrive f t u v place x → IsInside u x
    → ((n : ℕ) → n < f.state.made → IsTracked v (slices_of u x) n) → ((n : ℕ) → n < f.state.made → is_failed v n ≡ false)
    → (i : Image) → IsPick x x x.held i → RecoversIdle f u v.state i
vacant_again f t u v x place is lacks inside told lasts i pick =
    known_said f u v (slices_of u x) i (vacant_known f t u v x place is lacks inside told lasts i pick)

-- ---- where the drives' tables have the members' slices

-- Then targets land in the pool that it is left with.
pub service_landing : (f : Found) (t : Slices) (v : Raid) (x : RackView) → RunInvariant f t v x → HoldTables f t v.state x → IsInside t x
    → ((n : ℕ) → n < f.state.made → IsTracked v (slices_of t x) n) → ((n : ℕ) → n < f.state.made → is_failed v n ≡ false)
    → (i : Image) → IsPick x x x.held i → RecoversLanding f t v.state i
service_landing f t v x is tables inside told lasts i pick =
    landing_again f t v.state x tables i pick (service_again f t v x is inside told lasts i pick)

pub vacant_landing : (f : Found) (t u : Slices) (v : Raid) (x : RackView) (place : ℕ) → RunInvariant f t v x → HoldTables f u v.state x → LacksDrive f t u v place x → IsInside u x
    → ((n : ℕ) → n < f.state.made → IsTracked v (slices_of u x) n) → ((n : ℕ) → n < f.state.made → is_failed v n ≡ false)
    → (i : Image) → IsPick x x x.held i → RecoversLanding f u v.state i
vacant_landing f t u v x place is tables lacks inside told lasts i pick =
    landing_again f u v.state x tables i pick (vacant_again f t u v x place is lacks inside told lasts i pick)
