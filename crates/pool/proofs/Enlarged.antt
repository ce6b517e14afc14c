-- A disk of other units takes the place of a drive, or it doesn't.
use Rattle.std.specs.Prelude.{Ok, Err, IfErr, OnOk}
use Rattle.std.proofs.Common.{◌≡◌, ◌≢◌, ℕ, ◌<◌, ◌≤◌, ◌==◌, ◌||◌, if◌then◌else◌, true, false, List, length, None, refl, sym, ap, subst, ◌∙◌, inl, inr, arith, lt-ltb}
use Rattle.std.proofs.lemmas.Bool.{both_ways, cases_Bool, cases_eq}
use Rattle.rack.specs.Joins.{rose_before, rose_since}
use Rattle.rack.specs.Seen.{Rose, RackView}
use Rattle.rack.specs.Sequences.{WritesOnly}
use Rattle.rack.specs.Shelf.{KeepsShelf, Shelf}
use Rattle.slice_rack.specs.Changes.{Seats}
use Rattle.slice_rack.specs.Slices.{IsOrderly, Slices, disk_of}
use Rattle.slice_rack.specs.Sliced.{slices_of}
use Rattle.array_image.specs.Places.{log_slice}
use Rattle.array_image.specs.States.{is_current}
use Rattle.growth_laws.proofs.Listing.{changed_listed}
use Rattle.growth_laws.proofs.Losing.{as_long, loses_as_long, loses_book_then}
use Rattle.growth_laws.specs.Growing.{Turns}
use Rattle.growth_laws.specs.Losses.{LosesBook}
use Rattle.growth_laws.specs.NewDrives.{IsLost, TakesIn}
use Rattle.lvm_group.specs.Runs.{IsOrderly as IsOrderlyVolume}
use Rattle.pool_state.specs.declared.contents.Plan.TheVariants.{Replace}
use Rattle.raid_laws.proofs.Whole.{heeded_left}
use Rattle.raid_laws.specs.Book.{after_then}
use Rattle.raid_laws.specs.Losing.{arrays_then}
use Rattle.raid_laws.specs.NewDrive.{SeatsDrive, joins}
use Rattle.raid_laws.specs.Raid.{Raid}
use Rattle.raid_rack.proofs.Enlisted.{current_enlisted}
use Rattle.raid_rack.proofs.Renewing.{AreSameMembers, joins_same, seats_same}
use Rattle.raid_rack.specs.declared.arrays.Arrays.{Arrays}
use Rattle.raid_rack.specs.RaidRack.{IsFit, raid_by}
use Rattle.shr_base.specs.Units.{units_of}
use Rattle.transition_laws.specs.Changes.{Change, enlisted, enlists}
use Rattle.pool.specs.Adding.{IsTakenIn, next_change}
use Rattle.pool.specs.Calls.{DriveWent}
use Rattle.pool.specs.Enlarging.{EnlargesBy}
use Rattle.pool.specs.Entering.{IsVacating}
use Rattle.pool.specs.Moment.{moment_of, views_of}
use Rattle.pool.specs.Replaced.{IsDeclined, faults_before}
use Rattle.pool.specs.Replacing.{has_other_missing}
use Rattle.pool.specs.View.{View, book, slices_shown, volume}
use Rattle.pool.specs.declared.replacing.GrowFault.{GrowFault}
use Rattle.pool.specs.declared.replacing.GrowFault.TheVariants.{Gone, NotWhole}
use Rattle.pool.proofs.Added.{goes_on, longer, taken, went_other}
use Rattle.pool.proofs.Admitted.{others_current}
use Rattle.pool.proofs.Attaching.{IsBay}
use Rattle.pool.proofs.Continuing.{continues_then}
use Rattle.pool.proofs.Late.{Answer, never_fault, same_fault}
use Rattle.pool.proofs.Later.{later}
use Rattle.pool.proofs.Losing.{listed as current_listed}
use Rattle.pool.proofs.Readying.{many_same, same_views}
use Rattle.pool.proofs.Taken.{declined_gone, declined_lost, low_disk}
use Rattle.pool.proofs.Vacating.{seats_from}

-- ---- one try

module _ (x : View) (b : RackView) (s : Shelf) (place disk : ℕ) (t : Slices) (linear : IsOrderlyVolume x.linear) (fit : (volume x).fit)
    (kind : IsVacating x place t) (empty : IsFit x.arrays (slices_of t x.bay)) (now : IsBay b s) (names : KeepsShelf x.shelf s) (ordered : IsOrderly x.slices) (orderly : IsOrderly t)
    (low : disk < x.bay.disks) (may : ℕ → ℕ → List ℕ → Type 0) (only : WritesOnly x.bay b may) where
  -- it refused a call
  pub grown_gone : IsFit x.arrays (slices_of t b) → Rose (x.bay.faults disk) (b.faults disk) → EnlargesBy x (later x b s t x.arrays) place disk (Err Gone)
  grown_gone after rose = record {
    continues = goes_on x b s t x.arrays disk may fit only names orderly after (as_long (book x) (book x) refl (λ n inside. refl));
    marks = λ k was gone. absurd (both_ways (is_current (book x).state k) gone was);
    takes = record {
      answer = inr (inl refl);
      gone = λ same. subst (λ n. Rose n (b.faults disk)) (sym (ap (λ c. if c then x.bay.faults disk else 0) (lt-ltb disk x.bay.disks low))) rose;
      declined = declined_gone x b s place disk t linear fit kind empty now names ordered orderly;
      taken = tt;
    };
  }

  -- another drive was found gone, it may be the place's own
  pub grown_lost : (z : Arrays) → IsFit z (slices_of t b) → IsLost (book x) (raid_by z) (slices_of t x.bay) (slices_of t b) → EnlargesBy x (later x b s t z) place disk (Err NotWhole)
  grown_lost z after lost =
      let loses = lost.loses in
      let declined = declined_lost x b s place disk t linear fit kind empty now names ordered orderly z loses.marks loses.plan loses.arrays lost.caused.cause (lost.lost.0, lost.lost.1, lost.lost.2) in
      record {
        continues = goes_on x b s t z disk may fit only names orderly after (loses_as_long (book x) (raid_by z) loses);
        marks = λ k was gone. inl (declined.cause k was gone);
        takes = record {
          answer = inr (inr refl);
          gone = λ same. absurd (let e : NotWhole ≡ Gone = same_fault NotWhole Gone same in cc e);
          declined = declined;
          taken = tt;
        };
      }

  -- it is taken in
  pub grown_in : (units : ℕ) (u : Slices) (z : Arrays) → units ≡ units_of (x.bay.sectors disk) (book x).state.extent → place < length (book x).state.drives.items
      → IsOrderly u → IsFit z (slices_of u b)
      → TakesIn place units (Replace place) (joins (views_of (book x)) place (x.bay.sectors disk)) (book x) (raid_by z) (slices_of u x.bay) (slices_of u b)
      → SeatsDrive (views_of (book x)) place disk (x.bay.sectors disk) t u → EnlargesBy x (later x b s u z) place disk (Ok tt)
  grown_in units u z units_is listed ordered_now after takes seats =
      let all = seats_from x place disk t u (views_of (book x)) (x.bay.sectors disk) kind seats in
      let there : (k : ℕ) → is_current (enlisted place units (Replace place) (book x).state) k ≡ ((k == place) || is_current (book x).state k) =
      λ k. ap (λ (v : Raid). is_current v.state k) (sym (changed_listed place units (Replace place) (λ n. false) (book x) listed))
      ∙ current_enlisted place units (Replace place) (book x).state k listed in
      record {
        continues = goes_on x b s u z disk may fit only names ordered_now after (longer x b s u z disk may fit only names ordered_now after units units_is place (Replace place) there takes all);
        marks = λ k was gone.
            elim (cases_eq k place) [
              | inl same ↦ inr (refl, same)
              | inr other ↦ inl (went_other x b s u z disk may fit only names ordered_now after units units_is place (Replace place) there takes all k was other gone)
            ];
        takes = record {
          answer = inl refl;
          gone = λ same. absurd (never_fault Gone same);
          declined = tt;
          taken = taken x b s u z disk may fit only names ordered_now after units units_is place (Replace place) there takes all low;
        };
      }

-- ---- the place's own drive was found gone, and another try follows

module _ (x m y : View) (place disk : ℕ) (fit : (volume x).fit) (ordered : IsOrderly x.slices) (low : disk < x.bay.disks) (was : is_current (book x).state place ≡ true)
    (e : GrowFault) (first : EnlargesBy x m place disk (Err e)) (loses : LosesBook (book x) (book m)) (same : m.slices ≡ x.slices)
    (gone_then : is_current (book m).state place ≡ false) (alone : has_other_missing (book m).state place ≡ false) (r : Answer) (by : EnlargesBy m y place disk r) where
  low_of : (k : ℕ) → is_current (book x).state k ≡ true → disk_of x.slices (log_slice k) < x.bay.disks
  low_of k current = low_disk (book x) x.slices x.bay k ordered fit.0.running.set (heeded_left (book x) k fit.0.heeded current)

  went_since : (k : ℕ) → is_current (book x).state k ≡ true → DriveWent m y k → DriveWent x y k
  went_since k current rose =
      rose_since (first.continues.proceeds.disks.faults (disk_of x.slices (log_slice k)) (low_of k current))
      (subst (λ t. Rose (m.bay.faults (disk_of t (log_slice k))) (y.bay.faults (disk_of t (log_slice k)))) same rose)

  went_before : (k : ℕ) → is_current (book x).state k ≡ true → DriveWent x m k → DriveWent x y k
  went_before k current rose =
      rose_before (by.continues.proceeds.disks.faults (disk_of x.slices (log_slice k)) (let inside = low_of k current in let more = first.continues.proceeds.disks.disks in omega (arith, inside, more))) rose

  -- whoever was marked by the first try
  went_early : (k : ℕ) → is_current (book x).state k ≡ true → is_current (book m).state k ≡ false → DriveWent x y k
  went_early k current early = elim (first.marks k current early) [
    | inl rose ↦ went_before k current rose
    | inr own ↦ absurd (never_fault e (sym own.0))
  ]

  others_now : (k : ℕ) → k ≢ place → is_current (book x).state k ≡ true → is_current (book m).state k ≡ true
  others_now k away current =
      others_current (book m).state place alone k
      (let inside = current_listed (book x).state k current in let count = many_same (book x).state (book m).state loses.marks in omega (arith, inside, count)) away

  faults_more : faults_before (moment_of x) disk ≤ faults_before (moment_of m) disk
  faults_more =
      let more = first.continues.proceeds.disks.faults disk low in
      let disks = first.continues.proceeds.disks.disks in
      let before = ap (λ c. if c then x.bay.faults disk else 0) (lt-ltb disk x.bay.disks low) in
      let after = ap (λ c. if c then m.bay.faults disk else 0) (lt-ltb disk m.bay.disks (omega (arith, low, disks))) in
      omega (arith, more, before, after)

  alike : AreSameMembers (views_of (book x)) (views_of (book m))
  alike = same_views x.arrays m.arrays (slices_shown x) (slices_shown m) fit.0.running first.continues.proceeds.fit.0.running loses.marks loses.arrays place

  change_same : next_change (moment_of m) (moment_of y) place (Replace place) disk ≡ next_change (moment_of x) (moment_of y) place (Replace place) disk
  change_same =
      ap (λ (f : ℕ → _). enlists place (units_of (y.bay.sectors disk) (book m).state.extent) (Replace place) f)
      (λ i n. joins_same (views_of (book x)) (views_of (book m)) alike place (y.bay.sectors disk) n i)
      ∙ ap (λ extent. enlists place (units_of (y.bay.sectors disk) extent) (Replace place) (joins (views_of (book x)) place (y.bay.sectors disk))) loses.marks.same.extent

  taken_then : IsTakenIn (moment_of m) (moment_of y) place (Replace place) disk → IsTakenIn (moment_of x) (moment_of y) place (Replace place) disk
  taken_then is =
      let turns = subst (λ (c : Change). Turns (λ v. c) (λ v w. ⊥) (book m) (book y) true) change_same is.turns in
      record {
        turns = record {
          mid = turns.mid;
          before = loses_book_then (book x) (book m) turns.mid loses turns.before;
          is_done = turns.is_done;
          answer = turns.answer;
          after = turns.after;
          refused = turns.refused;
        };
        cause = λ gone. rose_since faults_more (is.cause gone);
        seats =
            seats_same (views_of (book x)) (views_of (book m)) alike place disk (y.bay.sectors disk) x.slices y.slices
            (subst (λ t. SeatsDrive (views_of (book m)) place disk (y.bay.sectors disk) t y.slices) same is.seats);
      }

  declined_then : (f : GrowFault) → IsDeclined (moment_of m) (moment_of y) place f → IsDeclined (moment_of x) (moment_of y) place f
  declined_then f is = record {
    marks = after_then (book x).state (book m).state (book y).state loses.marks is.marks;
    plan = is.plan ∙ loses.plan;
    arrays = arrays_then (book x) (book m) (book y) loses.marks.same.made loses.arrays is.arrays;
    cause = λ k current gone.
        elim (cases_Bool (is_current (book m).state k)) [
          | inl still ↦ went_since k current (is.cause k still gone)
          | inr early ↦ went_early k current early
        ];
    slices = elim is.slices [ inl lie ↦ inl (lie ∙ same) | inr gave ↦ inr (gave.0, gave.1, subst (λ t. Seats t y.slices place None) same gave.2) ];
    unmarked = λ gone missing. absurd (both_ways (is_current (book x).state place) missing was);
    others = λ gone k away current. is.others gone k away (others_now k away current);
    quiet = λ other none. absurd (none (place, was, missing));
  }
    where
      missing : is_current (book y).state place ≡ false
      missing =
          elim (cases_Bool (is_current (book y).state place)) [
            | inl current ↦ absurd (both_ways (is_current (book m).state place) gone_then (is.marks.current place current))
            | inr none ↦ none
          ]

  pub grown_then : EnlargesBy x y place disk r
  grown_then = record {
    continues = continues_then x m y first.continues by.continues;
    marks = λ k current gone.
        elim (cases_Bool (is_current (book m).state k)) [
          | inl still ↦ elim (by.marks k still gone) [ inl rose ↦ inl (went_since k current rose) | inr own ↦ inr own ]
          | inr early ↦ inl (went_early k current early)
        ];
    takes = record {
      answer = by.takes.answer;
      gone = λ is. rose_since faults_more (by.takes.gone is);
      declined = declined_at r by.takes.declined;
      taken = taken_at r by.takes.taken;
    };
  }
    where
      declined_at : (r : Answer) → IfErr r (IsDeclined (moment_of m) (moment_of y) place) → IfErr r (IsDeclined (moment_of x) (moment_of y) place)
      declined_at (Ok u) is = tt
      declined_at (Err f) is = declined_then f is

      taken_at : (r : Answer) → OnOk r (IsTakenIn (moment_of m) (moment_of y) place (Replace place) disk) → OnOk r (IsTakenIn (moment_of x) (moment_of y) place (Replace place) disk)
      taken_at (Ok u) is = taken_then is
      taken_at (Err f) is = tt
