-- The code that makes a drive of the next place one of the pool.
use Rattle.std.proofs.Common.{◌≡◌, ℕ, ◌+◌, ◌<◌, ◌^◌, ◌&&◌, nat_le, Bool, true, false, inl, inr, List, [], get_or, is_some, length, slice_get, option_map, refl, sym, ap, subst, ◌∙◌, arith}
use Rattle.std.proofs.lemmas.Bool.{and_parts, both_ways, cases_Bool}
use Rattle.std.proofs.lemmas.Option.{slice_get-get_or}
use Rattle.std.specs.Option.{option_map_or}
use Rattle.arrayvec.specs.ArrayVec.{ArrayVec}
use Rattle.rack.specs.Seen.{RackView, SameRack}
use Rattle.rack.specs.Joins.{rose_since}
use Rattle.slice_rack.specs.Slices.{Slices, disk_of}
use Rattle.slice_rack.specs.Sliced.{slices_of}
use Rattle.pool_state.specs.declared.contents.Plan.{Plan}
use Rattle.pool_state.specs.declared.contents.Plan.TheVariants.{Add}
use Rattle.pool_state.specs.declared.contents.State.{State}
use Rattle.array_image.specs.Places.{log_sectors, log_slice}
use Rattle.array_image.specs.States.{current_places, is_current}
use Rattle.log_laws.specs.View.{LogView, names, next_number}
use Rattle.log_laws.specs.Commits.{CommitCall}
use Rattle.array_model.specs.View.{View}
use Rattle.array_core.specs.Seats.{gone as without, seat_of}
use Rattle.raid_laws.specs.Enlisting.{HasLost}
use Rattle.raid_laws.specs.Losses.{AddsCopies}
use Rattle.raid_laws.specs.Moves.{AreCaused, IsHeeded, IsSet, Mends, RaisesBy}
use Rattle.raid_laws.specs.NewDrive.{SeatsDrive, first_in, joins, slice_length}
use Rattle.raid_laws.specs.Raid.{Raid}
use Rattle.raid_laws.proofs.Added.{names_current}
use Rattle.raid_laws.proofs.Moving.{caused_then}
use Rattle.growth_laws.specs.Losses.{LosesBook}
use Rattle.transition_laws.specs.Changes.{enlisted}
use Rattle.growth_laws.specs.NewDrives.{IsLost, TakesIn}
use Rattle.growth_laws.proofs.Listing.{MayBeNext, apart_next, next_current, next_heeded, next_raid, next_raises, next_set, next_vacant}
use Rattle.growth_laws.proofs.Stating.{AreStated, IsStating, after_stating, loses_mended, loses_same, loses_then, stating_caused, stating_loses, stating_raises, stating_set}
use Rattle.raid_rack.specs.declared.arrays.Arrays.{Arrays}
use Rattle.raid_rack.specs.RaidRack.{IsRunning, no_array, raid_by}
use Rattle.raid_rack.proofs.LayingDrive.{joins_fits}
use Rattle.raid_rack.proofs.Mended.{each_get}
use Rattle.raid_rack.proofs.Raises.{raises_then}
use Rattle.raid_rack.proofs.Renewed.{found_member}
use Rattle.raid_rack.proofs.Seating.{seats_set}

-- what the code has made before its commit: the state with the drive, and its copies in the log
pub record IsAdding (a : Arrays) (units : ℕ) (t : State) (on takes : List ℕ) (l : LogView) (x : RackView) : Type 0 where
  pub running : IsRunning a x
  pub heeded : IsHeeded (raid_by a)
  pub some : 0 < length a.state.drives.items
  pub few : length a.state.drives.items < 16
  pub units_some : 0 < units
  pub units_most : units < 2 ^ 41
  pub log : x.sectors (log_slice (length a.state.drives.items)) ≡ log_sectors
  pub t_is : t ≡ enlisted (length a.state.drives.items) units (Add (length a.state.drives.items)) a.state
  pub on_is : on ≡ current_places a.state
  pub takes_are : takes ≡ current_places t
  pub copies : AddsCopies t takes [] l.added
  pub number : l.number ≡ a.log.number

-- what the commit makes of the arrays, before losses are mended
pub record HasAdded (a b : Arrays) (units : ℕ) (x y : RackView) : Type 0 where
  pub running : IsRunning b y
  pub loses : LosesBook (next_raid (length a.state.drives.items) units (raid_by a)) (raid_by b)
  pub caused : AreCaused (next_raid (length a.state.drives.items) units (raid_by a)) (raid_by b) x y
  pub raises : RaisesBy 2 (raid_by a) (raid_by b)

module _ (a : Arrays) (units : ℕ) (x : RackView) (may : MayBeNext (length a.state.drives.items) units (raid_by a) x) where
  -- the places from before are current by the new state
  pub before_current : (on : List ℕ) (p : ℕ) → on ≡ current_places a.state → names on p ≡ true
      → is_current (next_raid (length a.state.drives.items) units (raid_by a)).state p ≡ true
  before_current on p on_is named =
      next_current (length a.state.drives.items) units (raid_by a) x may p (sym (names_current a.state p) ∙ ap (λ ps. names ps p) (sym on_is) ∙ named)

module _ (a : Arrays) (units : ℕ) (t : State) (on takes : List ℕ) (l : LogView) (x : RackView) (adding : IsAdding a units t on takes l x) where
  pub adding_may : MayBeNext (length a.state.drives.items) units (raid_by a) x
  adding_may = record {
    set = adding.running.set;
    heeded = adding.heeded;
    next = refl;
    some = adding.some;
    few = adding.few;
    units_some = adding.units_some;
    units_most = adding.units_most;
    log = adding.log;
  }

  pub adding_stated : AreStated (next_raid (length a.state.drives.items) units (raid_by a)) takes [] l.added x
  adding_stated = record {
    set = next_set (length a.state.drives.items) units (raid_by a) x adding_may;
    heeded = next_heeded (length a.state.drives.items) units (raid_by a) x adding_may;
    takes_are = adding.takes_are ∙ ap current_places adding.t_is;
    only = λ y among. absurd among;
    apart = refl;
    copies = subst (λ (s : State). AddsCopies s takes [] l.added) adding.t_is adding.copies;
  }

  pub has_added : (all : ArrayVec View) (log : LogView) (gone : List ℕ) (y : RackView) → CommitCall l on gone x y
      → ((n : ℕ) → slice_get all.items n ≡ option_map (without gone) (slice_get a.all.items n)) → length all.items ≡ length a.all.items
      → log.number ≡ next_number l.number → HasAdded a (record a { state = t; all = all; log = log }) units x y
  has_added all log gone y call each count number =
      let place = length a.state.drives.items in
      let v = raid_by a in
      let u = next_raid place units v in
      let f : ℕ → View = λ n. get_or all.items n no_array in
      let commit : IsStating u on takes gone [] l f x y = record {
        stated = adding_stated;
        number = adding.number;
        fewer = λ p named. before_current a units x adding_may on p adding.on_is named;
        call = call;
        arrays = λ n low. each_get (without gone) a.all.items all.items n each (let same = adding.running.count in omega (arith, low, same));
      } in
      let back = sym adding.t_is in
      let number_back = sym number in
      let whole : after_stating u (next_number l.number) f ≡ raid_by (record a { state = t; all = all; log = log }) =
      λ i. record { state = back i; arrays = f; number = number_back i } in
      record {
        running = record {
          count = count ∙ adding.running.count ∙ sym (ap (λ (s : State). s.made) adding.t_is);
          set = subst (λ (w : Raid). IsSet w y) whole (stating_set u on takes gone [] l f x y commit);
        };
        loses = subst (λ (w : Raid). LosesBook u w) whole (stating_loses u on takes gone [] l f x y commit);
        caused = subst (λ (w : Raid). AreCaused u w x y) whole (stating_caused u on takes gone [] l f x y commit);
        raises =
            subst (λ (w : Raid). RaisesBy 2 v w) whole
            (raises_then 1 1 v u (after_stating u (next_number l.number) f) refl (next_raises place units v x adding_may) (stating_raises u on takes gone [] l f x y commit));
      }

  -- and then losses are mended
  pub takes_in : (b c : Arrays) (gone : List ℕ) (y z : RackView) → HasAdded a b units x y → CommitCall l on gone x y → Mends (raid_by b) (raid_by c) y z
      → TakesIn (length a.state.drives.items) units (Add (length a.state.drives.items)) (λ n. false) (raid_by a) (raid_by c) x z
  takes_in b c gone y z one call mends =
      let place = length a.state.drives.items in
      let v = raid_by a in
      let u = next_raid place units v in
      record {
        turns = record {
          mid = v;
          before = loses_same v;
          is_done = true;
          answer = λ is. refl;
          after = loses_then u (raid_by b) (raid_by c) one.loses (loses_mended (raid_by b) (raid_by c) y z mends);
          refused = λ is. both_ways true is refl;
        };
        caused =
            caused_then u (raid_by b) (raid_by c) x y z call.stays mends.moves.stays one.caused (record { left = mends.moves.left; cause = mends.moves.cause });
        heeded = mends.heeded;
      }

-- by the new tables from before its disk was laid
pub takes_early : (place units : ℕ) (plan : Plan) (joining : ℕ → Bool) (v w : Raid) (u : Slices) (a m b : RackView) → SameRack a m
    → TakesIn place units plan joining v w (slices_of u m) (slices_of u b) → TakesIn place units plan joining v w (slices_of u a) (slices_of u b)
takes_early place units plan joining v w u a m b stays takes = record {
  turns = takes.turns;
  caused = record {
    left = takes.caused.left;
    cause = λ p was now.
        let fault = takes.caused.cause p was now in
        (fault.0, fault.1, rose_since (stays.faults (disk_of u fault.0)) fault.2);
  };
  heeded = takes.heeded;
}

-- the arrays over the tables that have the new place's disk
pub running_next : (r : Arrays) (arrays : List View) (place disk sectors : ℕ) (t u : Slices) (x : RackView) → place ≡ length r.state.drives.items → SeatsDrive arrays place disk sectors t u
    → (slices_of u x).fit → IsRunning r (slices_of t x) → IsRunning r (slices_of u x)
running_next r arrays place disk sectors t u x next seats fit running = record {
  count = running.count;
  set = seats_set arrays place disk sectors t u x seats (raid_by r) fit (next_vacant place r.state next) running.set;
}

-- the next place is a member of no array
pub joins_none : (r : Arrays) (place sectors : ℕ) (x : RackView) → place ≡ length r.state.drives.items → IsRunning r x → (n : ℕ) → joins r.all.items place sectors n ≡ false
joins_none r place sectors x next running n =
    elim (cases_Bool (joins r.all.items place sectors n)) [
      | inr none ↦ none
      | inl is ↦
          let low = (joins_fits r.all.items place sectors n is).0 in
          let inside = let count = running.count in let e : n < r.state.made = omega (arith, low, count) in e in
          let u = get_or r.all.items n no_array in
          let both = sym (ap (λ o. option_map_or (λ (w : View). is_some (seat_of w place) && nat_le (first_in r.all.items n + slice_length w + 33) sectors) o false) (slice_get-get_or r.all.items n no_array low)) ∙ is in
          let seated = running.set.arrays n inside in
          let at = found_member u place seated.is_array (and_parts (is_some (seat_of u place)) _ both).0 in
          absurd (apart_next place r.state n u x at.0 next seated at.1 at.2)
    ]

-- it was so before its disk was laid, too
pub lost_early : (v w : Raid) (t : Slices) (a m b : RackView) → SameRack a m → Mends v w (slices_of t m) (slices_of t b) → HasLost v w (slices_of t m) (slices_of t b) → IsLost v w (slices_of t a) (slices_of t b)
lost_early v w t a m b stays mends lost = record {
  loses = loses_mended v w (slices_of t m) (slices_of t b) mends;
  caused = record {
    left = mends.moves.left;
    cause = λ p was now.
        let fault = mends.moves.cause p was now in
        (fault.0, fault.1, rose_since (stays.faults (disk_of t fault.0)) fault.2);
  };
  lost =
      let fault = lost.3 in
      (lost.0, lost.1, lost.2, (fault.0, fault.1, rose_since (stays.faults (disk_of t fault.0)) fault.2));
}
