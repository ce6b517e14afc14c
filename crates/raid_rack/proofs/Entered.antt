-- A member's slice that is entered into the table of its place's disk, and a drive that goes meanwhile: it is lost.
use Rattle.std.proofs.Common.{◌≡◌, ◌<◌, ◌≤◌, ◌+◌, ◌-◌, ◌*◌, ◌/◌, ◌==◌, ◌&&◌, ◌||◌, Bool, true, false, ℕ, zero, suc, length, Result, Ok, Err, Some, List, [], ◌∷◌, not, unwrap_or, if◌then◌else◌, refl, sym, ap, ap₂, subst, ◌∙◌, inl, inr, le-leb, lt-ltb, eqb-true, arith}
use Rattle.std.specs.List.{slice_index_or}
use Rattle.std.proofs.lemmas.Bool.{and_parts, both_ways, cases_Bool}
use Rattle.rack.specs.Seen.{RackView, Rose}
use Rattle.rack.specs.Joins.{leaves_same, leaves_weaker, rose_before, rose_since, stays_same}
use Rattle.rack.specs.Sequences.{IsMix}
use Rattle.commit_log.proofs.Deciding.{names_first}
use Rattle.gpt_table.specs.declared.Table.{Table}
use Rattle.gpt_table.specs.Changes.{changed}
use Rattle.gpt_table.specs.Format.{IsWritable}
use Rattle.gpt_table.proofs.Chosen.{changed_writable}
use Rattle.slice_rack.specs.Slices.{Slices, disk_of, seat_of as disk_at}
use Rattle.slice_rack.specs.Sliced.{slices_of}
use Rattle.slice_rack.specs.SliceRack.{below_of, tables}
use Rattle.slice_rack.specs.declared.SliceRack.{SliceRack}
use Rattle.slice_rack.specs.Runs.{IsSliced, inside_still}
use Rattle.array_image.specs.Places.{raid_kind}
use Rattle.array_image.specs.States.{is_current}
use Rattle.array_model.specs.View.{HasFault, View}
use Rattle.array_core.specs.Pool.{Goes}
use Rattle.array_core.specs.Seats.{gone, names}
use Rattle.array_core.proofs.LogWrites.{goes_then}
use Rattle.raid_laws.specs.Book.{after_same}
use Rattle.raid_laws.specs.Moves.{AreCaused, IsSet, Mends, RaisesBy, noted_at}
use Rattle.raid_laws.specs.Raid.{Raid, gone_in, is_left}
use Rattle.raid_laws.proofs.Losing.{only_gone}
use Rattle.raid_laws.proofs.Noted.{IsNoting, current_few, gone_not, gone_some, noted_before, noted_went}
use Rattle.raid_laws.proofs.Over.{not_true}
use Rattle.growth_laws.specs.Losses.{LosesBook}
use Rattle.growth_laws.proofs.Losing.{loses_book_then, loses_nothing, mends_lose}
use Rattle.growth_laws.proofs.Steps.{FaultsRise, caused_nothing}
use Rattle.raid_rack.specs.declared.arrays.Arrays.{Arrays}
use Rattle.raid_rack.specs.declared.arrays.RaidRack.{RaidRack}
use Rattle.raid_rack.specs.Growing.{CannotEnter}
use Rattle.raid_rack.specs.RaidRack.{IsFit, IsRunning, SliceRuns, arrays_in, raid_by, raid_in, refused_in, slices_in, slices_seen, written_in}
use Rattle.raid_rack.proofs.Laid.{faults_rise}
use Rattle.raid_rack.proofs.Raises.{raises_more, raises_then}
use Rattle.raid_laws.specs.NewDrive.{entry_of}

-- a place has a fault where its disk has one
pub fault_at : (t : Slices) (x y : RackView) (place disk : ℕ) → disk_at t place ≡ Some disk → Rose (x.faults disk) (y.faults disk) → HasFault (slices_of t x) (slices_of t y) place
fault_at t x y place disk seat rose =
    let on : (17 * place) / 17 ≡ place = omega arith in
    let is : disk_of t (17 * place) ≡ disk = ap (λ o. unwrap_or o 0) (ap (disk_at t) on ∙ seat) in
    (17 * place, on, subst (λ d. Rose (x.faults d) (y.faults d)) (sym is) rose)

-- a table that can be written still can be once a member's slice is entered, for which it has room
pub entered_writable : (table : Table) (drive : List ℕ) (number first sectors total : ℕ) → IsWritable table → table.sectors ≡ total → number < 16 → 0 < sectors
    → first + sectors + 33 ≤ total → IsWritable (changed (entry_of drive (number + 1) raid_kind first sectors) table)
entered_writable table drive number first sectors total writable size low some room =
    changed_writable (entry_of drive (number + 1) raid_kind first sectors) table writable (omega arith) (omega (arith, low)) refl
    (ap₂ (λ (p q : Bool). p && q) (le-leb first (first + sectors - 1) (omega (arith, some))) (lt-ltb (first + sectors - 1) table.sectors (omega (arith, some, size, room))))

-- an error that is handed on
pub same_error : {T U E : Type 0} (one : Result T E) (two : Result U E) (e f g : E) → one ≡ Err e → two ≡ Err g → g ≡ e → two ≡ Err f → one ≡ Err f
same_error {T} {U} {E} one two e f g is was same now = is ∙ ap to (ap Err (sym same) ∙ sym was ∙ now)
  where
    to : Result U E → Result T E
    to (Ok x) = one
    to (Err k) = Err k

-- a place of a list, by its number
pub named_at : (ps : List ℕ) (k : ℕ) → k < length ps → names ps (slice_index_or ps k 0) ≡ true
named_at [] k low = absurd (omega (arith, low))
named_at (p ∷ ps) zero low = names_first p ps
named_at (p ∷ ps) (suc k) low = ap (λ (b : Bool). (p == slice_index_or ps k 0) || b) (named_at ps k (omega (arith, low))) ∙ or_true (p == slice_index_or ps k 0)
  where
    or_true : (b : Bool) → (b || true) ≡ true
    or_true true = refl
    or_true false = refl

-- ---- arrays over tables that stay, and a rack below that went on

pub gone_on_set : (t : Slices) (x y : RackView) (v : Raid) → Goes x y → IsSet v (slices_of t x) → IsSet v (slices_of t y)
gone_on_set t x y v goes set =
    let fit : (slices_of t y).fit = (goes.stays.fit, inside_still goes.stays set.fit.1) in
    record {
      fit = fit;
      lasting = goes.stays.lasting set.lasting;
      disks = refl;
      few = set.few;
      most = set.most;
      valid = set.valid;
      logs = set.logs;
      arrays = λ m below.
          let at = set.arrays m below in
          record {
            is_array = at.is_array;
            number = at.number;
            slices = record { fit = fit; lasting = goes.stays.lasting at.slices.lasting; disks = at.slices.disks; sectors = at.slices.sectors };
            marks = at.marks;
            is_of_pool = at.is_of_pool;
          };
      marked = set.marked;
    }

-- ---- a drive that goes is lost

module _ (a b : Arrays) (place : ℕ) (x y : RackView) (running : IsRunning a x) (current : is_current a.state place ≡ true)
    (mends : Mends (noted_at (place ∷ []) (raid_by a)) (raid_by b) x y) where
  abbrev v : Raid
  v = raid_by a

  abbrev noted : Raid
  noted = noted_at (place ∷ []) v

  noting : IsNoting (place ∷ []) v noted.arrays
  noting = record {
    arrays = λ n low. ap (λ (t : Bool). if t then gone (place ∷ []) (v.arrays n) else v.arrays n) (lt-ltb n v.state.made low);
    one = place;
    named = names_first place [];
    current = current;
    few = current_few a.state place running.set.few current;
  }

  pub lost_loses : LosesBook v (raid_by b)
  lost_loses =
      loses_book_then v noted (raid_by b)
      (record {
        marks = after_same v.state;
        plan = refl;
        arrays = λ n low. only_gone (v.arrays n) (noted.arrays n) (place ∷ []) (running.set.arrays n low).is_array (noting.arrays n low);
        number = omega arith;
        events = λ n low. let e = ap (λ (u : View). u.truth.events) (noting.arrays n low) in omega (arith, e);
      })
      (mends_lose noted (raid_by b) x y mends)

  -- whoever isn't left once the loss is noted is the place
  lost_one : (p : ℕ) → is_left v p ≡ true → is_left noted p ≡ false → p ≡ place
  lost_one p was now =
      let both = and_parts (is_current v.state p) (not (gone_in v p)) was in
      let some : gone_in noted p ≡ true =
      elim (cases_Bool (gone_in noted p)) [
        | inl is ↦ is
        | inr none ↦ absurd (both_ways (is_left noted p) now (ap₂ (λ (c d : Bool). c && not d) both.0 none))
      ] in
      let at = gone_some noted p some in
      let before = gone_not v p at.1.0 at.0 at.1.1 (not_true (gone_in v p) both.1) in
      let named = sym (ap (λ (c : Bool). c || names (place ∷ []) p) (sym before) ∙ sym (noted_went (place ∷ []) v noted.arrays noting at.1.0 p at.1.1 at.0) ∙ at.1.2) in
      same (place == p) refl (sym named)
    where
      same : (c : Bool) → (place == p) ≡ c → (c || false) ≡ true → p ≡ place
      same true is named = sym (eqb-true place p is)
      same false is named = absurd (both_ways false refl named)

  pub lost_caused : (z : RackView) → FaultsRise z x → FaultsRise x y → HasFault z x place → AreCaused v (raid_by b) z y
  lost_caused z first second fault = record {
    left = λ p is. noted_before (place ∷ []) v noted.arrays noting p (mends.moves.left p is);
    cause = λ p was now.
        elim (cases_Bool (is_left noted p)) [
          | inl mid ↦ let later = mends.moves.cause p mid now in (later.0, later.1, rose_since (first later.0) later.2)
          | inr early ↦ (fault.0, fault.1 ∙ sym (lost_one p was early), rose_before (second fault.0) fault.2)
        ];
  }

-- ---- entries of so many members

-- A rack of arrays after k members' entries: drives that went are lost, and all else is as before.
pub record HasEntered {R : Type 0} (seen : R → RackView) (runs : R → R → Type 0) (k : ℕ) (p q : RaidRack R) : Type 0 where
  pub fit : IsFit (arrays_in q) (slices_seen seen q)
  pub loses : LosesBook (raid_in p) (raid_in q)
  pub caused : AreCaused (raid_in p) (raid_in q) (slices_seen seen p) (slices_seen seen q)
  pub raises : RaisesBy (17 * k) (raid_in p) (raid_in q)
  pub refused : (n : ℕ) → refused_in q n ≡ refused_in p n
  pub written : (n : ℕ) → written_in q n ≡ written_in p n
  pub seconds : q.seconds ≡ p.seconds
  pub tables_are : tables (slices_in q) ≡ tables (slices_in p)
  pub goes : Goes (seen (below_of (slices_in p))) (seen (below_of (slices_in q)))
  pub below : runs (below_of (slices_in p)) (below_of (slices_in q))

module _ {R : Type 0} (seen : R → RackView) (runs : R → R → Type 0) (join : (r s u : R) → runs r s → runs s u → runs r u) where
  -- one more member's entry, in calls that lose nobody yet
  pub entered_more : (k : ℕ) (p q s : RaidRack R) → HasEntered seen runs k p q → arrays_in s ≡ arrays_in q → ((n : ℕ) → refused_in s n ≡ refused_in q n)
      → ((n : ℕ) → written_in s n ≡ written_in q n) → s.seconds ≡ q.seconds → tables (slices_in s) ≡ tables (slices_in q)
      → Goes (seen (below_of (slices_in q))) (seen (below_of (slices_in s))) → runs (below_of (slices_in q)) (below_of (slices_in s)) → HasEntered seen runs k p s
  entered_more k p q s was arrays refused written seconds same goes below =
      let x = seen (below_of (slices_in q)) in
      let y = seen (below_of (slices_in s)) in
      let set = gone_on_set (tables (slices_in q)) x y (raid_in q) goes was.fit.running.set in
      record {
        fit = subst (λ a. IsFit a (slices_seen seen s)) (sym arrays)
            (record {
              running = record { count = was.fit.running.count; set = subst (λ t. IsSet (raid_in q) (slices_of t y)) (sym same) set };
              heeded = was.fit.heeded;
            });
        loses = subst (λ a. LosesBook (raid_in p) (raid_by a)) (sym arrays) was.loses;
        caused = subst (λ a. AreCaused (raid_in p) (raid_by a) (slices_seen seen p) (slices_seen seen s)) (sym arrays)
            (record {
              left = was.caused.left;
              cause = λ place left now.
                  let fault = was.caused.cause place left now in
                  let d = fault.0 in (
                    d,
                    fault.1,
                    subst (λ (t : Slices). Rose ((slices_seen seen p).faults d) ((slices_of t y).faults d)) (sym same)
                        (rose_before (goes.stays.faults (disk_of (tables (slices_in q)) d)) fault.2),
                  );
            });
        raises = subst (λ a. RaisesBy (17 * k) (raid_in p) (raid_by a)) (sym arrays) was.raises;
        refused = λ n. refused n ∙ was.refused n;
        written = λ n. written n ∙ was.written n;
        seconds = seconds ∙ was.seconds;
        tables_are = same ∙ was.tables_are;
        goes = goes_then _ _ _ was.goes goes;
        below = join _ _ _ was.below below;
      }

  -- one more member whose drive went and is lost
  pub entered_lost : (k place : ℕ) (p q s : RaidRack R) (b : Arrays) (r : SliceRack R) → HasEntered seen runs k p q → HasEntered seen runs k p s
      → is_current (arrays_in s).state place ≡ true → HasFault (slices_seen seen q) (slices_seen seen s) place
      → Mends (noted_at (place ∷ []) (raid_in s)) (raid_by b) (slices_seen seen s) (slices_of (tables r) (seen (below_of r)))
      → RaisesBy 17 (raid_in s) (raid_by b) → IsRunning b (slices_of (tables r) (seen (below_of r))) → SliceRuns seen runs (slices_in s) r
      → HasEntered seen runs (k + 1) p (record s { slices = r; arrays = b })
  entered_lost k place p q s b r was more current fault mends raises running all =
      let y = slices_of (tables r) (seen (below_of r)) in
      let x = slices_seen seen s in
      let z = slices_seen seen p in
      let early : FaultsRise z (slices_seen seen q) =
      faults_rise (tables (slices_in p)) (tables (slices_in q)) _ _ was.goes.stays (λ n. ap (λ t. disk_at t n) was.tables_are) in
      let first : FaultsRise z x = faults_rise (tables (slices_in p)) (tables (slices_in s)) _ _ more.goes.stays (λ n. ap (λ t. disk_at t n) more.tables_are) in
      let second : FaultsRise x y = mends.moves.stays.faults in
      let since : HasFault z x place = (fault.0, fault.1, rose_since (early fault.0) fault.2) in
      let loses = lost_loses (arrays_in s) b place x y more.fit.running current mends in
      let caused = lost_caused (arrays_in s) b place x y more.fit.running current mends z first second since in
      let fit : (slices_of (tables (slices_in s)) (seen (below_of (slices_in s)))).fit = more.fit.running.set.fit in
      let only = all.apart fit.0 fit.1 in
      let goes : Goes (seen (below_of (slices_in s))) (seen (below_of r)) = record {
        stays = only.stays;
        leaves = λ traced. leaves_weaker (IsMix _ _ (IsSliced (tables (slices_in s)))) (λ c. Unit {0}) (λ c mix. tt) (only.stops traced);
      } in
      record {
        fit = record { running = running; heeded = mends.heeded };
        loses = loses_book_then (raid_in p) (raid_in s) (raid_by b) more.loses loses;
        caused = record {
          left = λ n is. more.caused.left n (caused.left n is);
          cause = λ n left now.
              elim (cases_Bool (is_left (raid_in s) n)) [
                | inl mid ↦ caused.cause n mid now
                | inr gone ↦ let at = more.caused.cause n left gone in (at.0, at.1, rose_before (second at.0) at.2)
              ];
        };
        raises = raises_more (17 * k + 17) (17 * (k + 1)) (raid_in p) (raid_by b) (omega arith)
            (raises_then (17 * k) 17 (raid_in p) (raid_in s) (raid_by b) more.loses.marks.same.made more.raises raises);
        refused = more.refused;
        written = more.written;
        seconds = more.seconds;
        tables_are = all.tables ∙ more.tables_are;
        goes = goes_then _ _ _ more.goes goes;
        below = join _ _ _ more.below all.below;
      }

  -- where the next entry can't be made
  pub entered_cannot : (k place first sectors : ℕ) (p q : RaidRack R) → HasEntered seen runs k p q
      → CannotEnter seen runs (tables (slices_in q)) (below_of (slices_in q)) place first sectors
      → CannotEnter seen runs (tables (slices_in p)) (below_of (slices_in p)) place first sectors
  entered_cannot k place first sectors p q was cannot =
      elim (subst (λ t. CannotEnter seen runs t (below_of (slices_in q)) place first sectors) was.tables_are cannot) [
        | inl none ↦ inl none
        | inr (inl at) ↦ inr (inl (at.0, at.1, (at.2.0, join _ _ _ was.below at.2.1, at.2.2)))
        | inr (inr past) ↦ inr (inr (past.0, past.1, subst (λ n. n < first + (sectors + 33)) (was.goes.stays.sectors past.0) past.2))
      ]

  -- no entry yet
  pub entered_none : (p : RaidRack R) → IsFit (arrays_in p) (slices_seen seen p) → runs (below_of (slices_in p)) (below_of (slices_in p)) → HasEntered seen runs 0 p p
  entered_none p fit same = record {
    fit = fit;
    loses = loses_nothing (raid_in p);
    caused = caused_nothing (raid_in p) (slices_seen seen p) (slices_seen seen p);
    raises = record { number = omega arith; epoch = omega arith; events = λ n low. omega arith };
    refused = λ n. refl;
    written = λ n. refl;
    seconds = refl;
    tables_are = refl;
    goes = record { stays = stays_same (seen (below_of (slices_in p))) fit.running.set.fit.0; leaves = λ traced. leaves_same _ (λ c. Unit {0}) };
    below = same;
  }

-- one member more
pub more_entered : {R : Type 0} (seen : R → RackView) (runs : R → R → Type 0) (k : ℕ) (p q : RaidRack R) → HasEntered seen runs k p q → HasEntered seen runs (k + 1) p q
more_entered seen runs k p q was = record {
  fit = was.fit;
  loses = was.loses;
  caused = was.caused;
  raises = raises_more (17 * k) (17 * (k + 1)) (raid_in p) (raid_in q) (omega arith) was.raises;
  refused = was.refused;
  written = was.written;
  seconds = was.seconds;
  tables_are = was.tables_are;
  goes = was.goes;
  below = was.below;
}
