-- The code of the commit that makes a new drive one of the pool, step by step.
use Rattle.std.proofs.Common.{◌≡◌, ◌≢◌, ℕ, ◌+◌, ◌<◌, ◌^◌, ◌&&◌, nat_le, Bool, true, false, if◌then◌else◌, List, [], get_or, is_some, length, slice_get, Some, option_map, refl, sym, ap, subst, ◌∙◌, inl, inr, arith}
use Rattle.std.specs.Option.{option_map_or}
use Rattle.std.proofs.lemmas.Bool.{cases_Bool, cases_lt}
use Rattle.std.proofs.lemmas.Option.{slice_get-get_or, slice_get_past}
use Rattle.arrayvec.specs.ArrayVec.{ArrayVec}
use Rattle.rack.specs.Seen.{RackView}
use Rattle.rack.specs.Targets.{Target}
use Rattle.pool_state.specs.declared.contents.Plan.{Plan}
use Rattle.pool_state.specs.declared.contents.Plan.TheVariants.{Replace}
use Rattle.pool_state.specs.declared.contents.State.{State}
use Rattle.array_image.specs.States.{current_places, is_current}
use Rattle.log_laws.specs.View.{LogView, next_number}
use Rattle.log_laws.specs.Commits.{CommitCall}
use Rattle.array_model.specs.View.{View, sectors_of}
use Rattle.array_core.specs.Seats.{gone as without, renewed, seat_of}
use Rattle.raid_rack.specs.declared.arrays.Arrays.{Arrays}
use Rattle.raid_laws.specs.Enlisting.{FindsEach, HasNewSlices, IsEnlisted, JoinsEach, enlisted, next_drive, renewed_at, with_drive}
use Rattle.raid_laws.specs.Losses.{AddsCopies}
use Rattle.raid_laws.specs.Moves.{IsHeeded, IsSet, IsUnmarked, Mends, RaisesBy}
use Rattle.raid_laws.specs.NewDrive.{ReachesAll, first_in, joins, slice_length}
use Rattle.raid_laws.specs.Raid.{Raid}
use Rattle.raid_rack.specs.RaidRack.{IsRunning, no_array, raid_by}
use Rattle.raid_laws.specs.Settling.{HasStaged, IsMarking}
use Rattle.raid_laws.proofs.Committed.{IsCommitBy, after_set, raid_after}
use Rattle.raid_rack.proofs.Enlisted.{enlisted_marked}
use Rattle.raid_rack.proofs.JoinedFound.{found_part}
use Rattle.raid_rack.proofs.JoinedMissing.{joins_part}
use Rattle.raid_rack.proofs.Joining.{MayJoinPool, enlisting_raises, is_enlisted, joining_fewer, joining_marks, listed_raid, staged_like}
use Rattle.raid_rack.proofs.Mended.{each_get, each_sectors, get_past}
use Rattle.raid_rack.proofs.Renewed.{renewed_count, renewed_get}
use Rattle.raid_laws.specs.Truths.{JoinsTruths, KeepsTruths}
use Rattle.raid_rack.proofs.Truths.{makes_commit, makes_kept}

-- a new drive may join, over slices that it has
pub record HasSeats (a : Arrays) (place units sectors : ℕ) (plan : Plan) (x : RackView) : Type 0 where
  pub running : IsRunning a x
  pub heeded : IsHeeded (raid_by a)
  pub unmarked : (n : ℕ) → n < a.state.made → IsUnmarked ((raid_by a).arrays n)
  pub listed : place < length a.state.drives.items
  pub missing : is_current a.state place ≡ false
  pub others : (p : ℕ) → p < length a.state.drives.items → p ≢ place → is_current a.state p ≡ true
  pub units_some : 0 < units
  pub units_most : units < 2 ^ 41
  pub plan_is : plan ≡ Replace place
  pub slices : HasNewSlices a.all.items place sectors x
  pub reaches : ReachesAll a.all.items place sectors

pub may_join : (a : Arrays) (place units sectors : ℕ) (plan : Plan) (x : RackView) → HasSeats a place units sectors plan x
    → MayJoinPool place units plan (joins a.all.items place sectors) (raid_by a) x
may_join a place units sectors plan x has = record {
  set = has.running.set;
  heeded = has.heeded;
  unmarked = has.unmarked;
  listed = has.listed;
  missing = has.missing;
  others = has.others;
  units_some = has.units_some;
  units_most = has.units_most;
  plan_is = has.plan_is;
  log = has.slices.log;
  joins = member_joins;
  members = λ n low.
      has.slices.members n (let most = has.running.set.most in omega (arith, low, most))
      ∙ ap (λ k. if joins a.all.items place sectors n then k else 0) (ap (λ o. option_map_or slice_length o 0) (here n low));
}
  where
    here : (n : ℕ) → n < a.state.made → slice_get a.all.items n ≡ Some (get_or a.all.items n no_array)
    here n low = slice_get-get_or a.all.items n no_array (let count = has.running.count in omega (arith, low, count))

    member_joins : (n : ℕ) → n < a.state.made → is_some (seat_of (get_or a.all.items n no_array) place) ≡ joins a.all.items place sectors n
    member_joins n low =
        let u = get_or a.all.items n no_array in
        elim (cases_Bool (is_some (seat_of u place))) [
          | inl is ↦ is ∙ sym (has.reaches n u (here n low) is)
          | inr none ↦
              none
              ∙ sym (ap (λ o. option_map_or (λ (r : View). is_some (seat_of r place) && nat_le (first_in a.all.items n + slice_length r + 33) sectors) o false) (here n low)
              ∙ ap (λ b. b && nat_le (first_in a.all.items n + slice_length u + 33) sectors) none)
        ]

-- what the code has made before its commit: `d` are the arrays with the new members, `t` is the state, `l` the log with `xs` staged first
pub record IsJoining (a d : Arrays) (place units sectors : ℕ) (plan : Plan) (joining : ℕ → Bool) (t : State) (on takes : List ℕ) (l : LogView) (xs : List Target) (x : RackView)
    : Type 0 where
  pub has : HasSeats a place units sectors plan x
  pub joining_are : (n : ℕ) → joining n ≡ joins a.all.items place sectors n
  pub renewed_are : (n : ℕ) → slice_get d.all.items n ≡ renewed_at place (next_drive a.state) joining n (slice_get a.all.items n)
  pub staged : HasStaged (raid_by d) (length d.all.items) xs
  pub state : t ≡ enlisted place units plan a.state
  pub on_are : on ≡ current_places a.state
  pub takes_are : takes ≡ current_places t
  pub copies : AddsCopies t takes xs l.added
  pub number : l.number ≡ a.log.number

module _ (a d : Arrays) (place units sectors : ℕ) (plan : Plan) (joining : ℕ → Bool) (t : State) (on takes : List ℕ) (l : LogView) (xs : List Target) (x : RackView)
    (is : IsJoining a d place units sectors plan joining t on takes l xs x) where
  abbrev v : Raid
  v = raid_by a

  abbrev takes_in : ℕ → Bool
  takes_in = joins a.all.items place sectors

  abbrev u : Raid
  u = listed_raid place units plan (joins a.all.items place sectors) (raid_by a)

  may : MayJoinPool place units plan (joins a.all.items place sectors) (raid_by a) x
  may = may_join a place units sectors plan x is.has

  count : length d.all.items ≡ a.state.made
  count = renewed_count a.all.items d.all.items place (next_drive a.state) joining is.renewed_are ∙ is.has.running.count

  arrays_are : (n : ℕ) → get_or d.all.items n no_array ≡ u.arrays n
  arrays_are n =
      let xs = a.all.items in
      let drive = next_drive a.state in
      let Renewed : Bool → View = λ b. if b then renewed place drive (get_or xs n no_array) else get_or xs n no_array in
      elim (cases_lt n (length xs)) [
        | inl low ↦ renewed_get xs d.all.items place drive joining n (is.renewed_are n) low ∙ ap Renewed (is.joining_are n)
        | inr past ↦
            get_past d.all.items n (let same = count in let own = is.has.running.count in omega (arith, past, same, own))
            ∙ sym (ap Renewed (ap (λ o. option_map_or (λ (r : View). is_some (seat_of r place) && nat_le (first_in xs n + slice_length r + 33) sectors) o false) (slice_get_past xs n past))
            ∙ get_past xs n past)
      ]

  pub joins_marking : IsMarking (listed_raid place units plan (joins a.all.items place sectors) (raid_by a)) [] takes l xs x
  joins_marking =
      joining_marks place units plan takes_in v x may takes l xs
      (subst (λ k. HasStaged u k xs) count (staged_like (raid_by d) u (length d.all.items) xs (λ n low. sym (arrays_are n)) is.staged))
      (subst (λ (k : State). AddsCopies k takes xs l.added) is.state is.copies) (is.takes_are ∙ ap current_places is.state) is.number

  -- ---- the commit, and who went in it noted

  module _ (gone : List ℕ) (y : RackView) (call : CommitCall l on gone x y) (all : ArrayVec View)
      (each : (n : ℕ) → slice_get all.items n ≡ option_map (without gone) (slice_get d.all.items n)) (same_count : length all.items ≡ length d.all.items)
      (log : LogView) (number : log.number ≡ next_number l.number) where
    abbrev f : ℕ → View
    f = λ n. get_or all.items n no_array

    abbrev e : Arrays
    e = record d { state = t; all = all; log = log }

    abbrev m : Raid
    m = raid_after u [] (next_number l.number) f

    commit : IsCommitBy u [] takes on gone l xs f x y
    commit = record {
      marking = joins_marking;
      call = call;
      fewer = joining_fewer place units plan takes_in v x may on takes is.on_are (is.takes_are ∙ ap current_places is.state);
      arrays = λ n low.
          each_get (without gone) d.all.items all.items n each (let same = count in omega (arith, low, same)) ∙ ap (without gone) (arrays_are n);
      sectors = λ n. each_sectors (without gone) d.all.items all.items n (λ k. refl) each ∙ ap sectors_of (arrays_are n);
    }

    whole : m ≡ raid_by e
    whole =
        let state = sym (is.state ∙ enlisted_marked place units plan a.state) in
        let back = sym number in
        λ i. record { state = state i; arrays = f; number = back i }

    pub joins_running : IsRunning (record d { state = t; all = all; log = log }) y
    joins_running = record {
      count = same_count ∙ count ∙ sym (ap (λ (k : State). k.made) is.state);
      set = subst (λ (r : Raid). IsSet r y) whole (after_set u [] takes gone l xs f x y commit);
    }

    -- ---- and then whoever went is marked

    module _ (b : Arrays) (z : RackView) (mends : Mends (raid_by (record d { state = t; all = all; log = log })) (raid_by b) y z) where
      mends_m : Mends m (raid_by b) y z
      mends_m = subst (λ (r : Raid). Mends r (raid_by b) y z) (sym whole) mends

      pub joins_enlisted : IsEnlisted place units plan (joins a.all.items place sectors) (raid_by a) (raid_by b) x z
      joins_enlisted = is_enlisted place units plan takes_in v on takes gone l xs f x y may commit (raid_by b) z mends_m

      pub joins_raises : RaisesBy 17 (raid_by (record d { state = t; all = all; log = log })) (raid_by b) → RaisesBy 18 (raid_by a) (raid_by b)
      joins_raises raises =
          enlisting_raises place units plan takes_in v on takes gone l xs f x y may commit (raid_by b) z mends_m
          (subst (λ (r : Raid). RaisesBy 17 r (raid_by b)) (sym whole) raises)

      pub joins_each : JoinsEach place units plan (raid_by a) (raid_by b) x z
      joins_each new_log other n vals spent joined low goes covers amid settled =
          joins_part place units plan takes_in v on takes gone l xs f x y may commit (raid_by b) z mends_m is.on_are new_log other n vals spent joined low goes covers amid settled

      pub joins_finds : FindsEach place units plan (raid_by a) (raid_by b) x z
      joins_finds new_log other s before n vals spent joined low goes covers finds =
          found_part place units plan takes_in v on takes gone l xs f x y may commit (raid_by b) z mends_m is.on_are new_log other n vals spent joined low goes covers s before finds

      -- the commit has the superblocks of all arrays
      pub joins_truths : KeepsTruths (raid_by (record d { state = t; all = all; log = log })) (raid_by b) y z
          → JoinsTruths (with_drive place units plan (joins a.all.items place sectors) (raid_by a)) (raid_by b) x z
      joins_truths kept n low tells =
          makes_kept u m (raid_by b) x y z refl (makes_commit u [] takes gone l xs f x y commit)
          (subst (λ (r : Raid). KeepsTruths r (raid_by b) y z) (sym whole) kept) n low
          (λ k inside there. tells k inside there (let long = (joins_marking.set.arrays n low).slices.sectors k inside there in omega (arith, long)))
