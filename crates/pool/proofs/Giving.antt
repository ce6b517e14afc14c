-- A drive that isn't missing gives way: what came before the new one is taken in, and the whole.
use Rattle.std.specs.Prelude.{Ok, Err, IfErr, OnOk, Result}
use Rattle.std.proofs.Common.{◌≡◌, ◌≢◌, ◌⊎◌, ℕ, ◌+◌, ◌<◌, ◌≤◌, ◌||◌, true, false, List, Some, None, if◌then◌else◌, length, refl, sym, ap, subst, ◌∙◌, inl, inr, arith, lt-ltb, le-ltb}
use Rattle.std.proofs.lemmas.Bool.{both_ways, cases_Bool, cases_eq, cases_lt, eq-eqb, ne_eqb}
use Rattle.rack.specs.Joins.{rose_before, rose_since}
use Rattle.rack.specs.Seen.{Image, Rose}
use Rattle.rack.specs.Values.{MayLeave}
use Rattle.flat_array.specs.Array.{FlatArray}
use Rattle.array_image.specs.Places.{log_slice}
use Rattle.array_image.specs.States.{is_current}
use Rattle.gpt_table.specs.declared.Table.{Table}
use Rattle.gpt_table.specs.Disk.{HoldsCopy, now_on}
use Rattle.pool_state.specs.declared.contents.Plan.TheVariants.{Replace}
use Rattle.slice_rack.specs.Changes.{Seats}
use Rattle.slice_rack.specs.Runs.{IsSliced}
use Rattle.slice_rack.specs.Slices.{IsOrderly, disk_of, seat_of}
use Rattle.shr_base.specs.declared.Id.{Id}
use Rattle.shr_base.specs.Units.{units_of}
use Rattle.raid_laws.specs.Book.{OnlyMarksSince, after_then}
use Rattle.raid_laws.specs.Enlisting.{HoldsTable, enlisted, new_table, next_drive, with_drive}
use Rattle.raid_laws.specs.Losing.{arrays_then}
use Rattle.raid_laws.specs.Moves.{KeepsArrays, RaisesBy}
use Rattle.raid_laws.specs.NewDrive.{IsOfDrive as IsLaid, SeatsDrive, drive_table, joins}
use Rattle.raid_laws.proofs.Apart.{seat_is}
use Rattle.raid_rack.proofs.Enlisted.{current_enlisted}
use Rattle.raid_rack.proofs.Raises.{raises_more, raises_then}
use Rattle.raid_rack.proofs.Renewing.{seats_same}
use Rattle.raid_laws.proofs.Whole.{heeded_left}
use Rattle.pool.specs.declared.replacing.GrowFault.{GrowFault}
use Rattle.pool.specs.declared.replacing.GrowFault.TheVariants.{Gone, NotWhole}
use Rattle.pool.specs.Calls.{DriveWent}
use Rattle.pool.specs.Continuing.{Continues, KeepsOutside}
use Rattle.pool.specs.Entering.{Cleaned, Declines, Enters, EntersBy, LeavesBy, LeavesOut, StaysStill, table_on}
use Rattle.pool.specs.Keeping.{KeepsBook, most_raised}
use Rattle.pool.specs.Moment.{DriveWentFrom, moment_of, views_of}
use Rattle.pool.specs.Replaced.{HasMarked, HasMarkedOther, HasTable, IsAnswer, IsDeclined, IsReplaced, LeavesNew, MeansBy, MeansFormer, MeansWith, faults_before, table_for}
use Rattle.pool.specs.Replacing.{IsAdmissible, IsAdmitted, has_other_missing}
use Rattle.pool.specs.Taking.{AreTold, Carries, ReplacesBy, TakesBy}
use Rattle.pool.specs.View.{View, book, slices_shown, volume}
use Rattle.pool.specs.Volume.{VolumeIs}
use Rattle.pool.proofs.Admitted.{admitted, others_current}
use Rattle.pool.proofs.Attaching.{IsBay}
use Rattle.pool.proofs.Booked.{book_then}
use Rattle.pool.proofs.Carrying.{carries_then, holds_of}
use Rattle.pool.proofs.Continuing.{continues_of, continues_then, outside_fewer, outside_of, outside_then}
use Rattle.pool.proofs.Enlisted.{book_but, book_then_but}
use Rattle.pool.proofs.Former.{IsUnread, fewer_spent, former_from}
use Rattle.pool.proofs.Late.{never_fault, same_fault}
use Rattle.pool.proofs.Losing.{listed as current_listed}
use Rattle.raid_rack.specs.RaidRack.{IsRunning}
use Rattle.pool.proofs.Readying.{after_enlisted, many_same, next_same, other_missing, same_views, table_same, units_same, with_same}
use Rattle.pool.proofs.Taken.{low_disk}

-- A pool meanwhile: its slices lie where they lay, and nothing has come to its book but marks. It was raised by so many at most.
pub record IsReady (x m : View) (place disk many : ℕ) : Type 0 where
  pub continues : Continues x m
  pub carries : Carries x m
  pub raises : RaisesBy many (book x) (book m)
  pub keeps : KeepsBook (book x) (book m)
  pub outside : KeepsOutside x.slices m.slices (λ d. d ≡ disk) x.shelf.told x.bay m.bay
  pub slices : m.slices ≡ x.slices
  pub laid :
      disk < x.bay.disks → AreTold x → (s : ℕ) (v : List ℕ) → s < x.bay.sectors disk → ((u : List ℕ) → IsSliced x.slices disk s u → ⊥)
      → MayLeave (m.bay.held disk s) v
      → MayLeave (x.bay.held disk s) v ⊎ IsLaid disk (table_on x place disk) disk s v
  pub names : m.shelf.names ≡ x.shelf.names
  pub disks : m.bay.disks ≡ x.bay.disks
  pub marks : OnlyMarksSince (book x).state (book m).state
  pub plan : (book m).state.plan ≡ (book x).state.plan
  pub arrays : KeepsArrays (book x) (book m)
  pub cause : (k : ℕ) → is_current (book x).state k ≡ true → is_current (book m).state k ≡ false → DriveWentFrom (moment_of x) (moment_of m) k
  pub leaves : x.bay.traced → (a : FlatArray) → VolumeIs x a → LeavesNew x m (λ i. MeansFormer (moment_of x) (moment_of m) place a i)

-- A disk that is taken in at once, where the place's drive is missing.
pub at_once : (x y : View) (place disk : ℕ) (r : Result (Unit {0}) GrowFault) → is_current (book x).state place ≡ false → IsAdmissible x.linear (book x) place (x.bay.sectors disk)
    → TakesBy x y place disk r → ReplacesBy x y place disk r
at_once x y place disk r missing admits by = record {
  takes = by.takes;
  raises = raises_more 19 most_raised (book x) (book y) (omega arith) by.raises;
  retired = λ k d low gone seat other.
      elim (cases_eq k place) [
        | inl same ↦ by.retired (inl missing) d (subst (λ p. seat_of x.slices p ≡ Some d) same seat) other
        | inr away ↦
            absurd (both_ways (is_current (book x).state k) gone
            (others_current (book x).state place (admitted x.linear (book x) place (x.bay.sectors disk) admits).whole k low away))
      ];
  laid = λ low all s v within unsliced left. elim (by.laid low all s v within unsliced left) [ inl before ↦ inl before | inr new ↦ inr (admits, new) ];
  answer = subst (λ o. IsAnswer o r) (sym admits.0) by.answer;
  admitted = inr admits;
  not_whole = λ same.
      let one = by.not_whole same in
      inr (one.0, (λ is. both_ways (is_current (book x).state place) missing (subst (λ k. is_current (book x).state k ≡ true) is one.1)), one.1, one.2);
  left = left_of r by.left;
  enters = enters_of r by.enters;
}
  where
    left_of : (r : Result (Unit {0}) GrowFault) → IfErr r (λ e. LeavesBy x y place disk) → IfErr r (λ e. StaysStill x y ⊎ Declines x y place disk)
    left_of (Ok u) left = tt
    left_of (Err e) left = inr (inl (missing, left))

    enters_of : (r : Result (Unit {0}) GrowFault) → OnOk r (EntersBy x y place disk) → OnOk r (Enters x y place disk)
    enters_of (Ok u) enters = inl (missing, enters)
    enters_of (Err e) enters = tt

-- a cleaned pool
pub ready_clean : (x m : View) (place disk : ℕ) → IsBay m.bay m.shelf → is_current (book x).state place ≡ true → Cleaned x m → Carries x m → IsReady x m place disk 288
ready_clean x m place disk now was cleaned carries =
    let passes = cleaned.ends.passes in
    record {
      continues = continues_of x m passes;
      carries = carries;
      raises = cleaned.raises;
      keeps = passes.book;
      outside = outside_of x m (λ d. d ≡ disk) passes now.unspent;
      slices = passes.slices;
      laid = λ low all s v within unsliced left.
          elim (passes.apart.within disk s v
          (record {
            disk = subst (λ n. disk < n) (sym passes.apart.stays.disks) low;
            sector = subst (λ n. s < n) (sym (passes.apart.stays.sectors disk)) within;
            is_told = all disk low;
            unspent = now.unspent disk s;
          }) left) [
            | inl before ↦ inl before
            | inr sliced ↦ absurd (unsliced v sliced)
          ];
      names = passes.shelf.names;
      disks = passes.apart.stays.disks;
      marks = passes.marks;
      plan = cleaned.plan;
      arrays = cleaned.arrays;
      cause = λ k current gone. elim (cleaned.ends.marks k current gone) [ inl rose ↦ rose | inr none ↦ absurd none ];
      leaves = λ traced a holds k i since until stopped.
          inl (was, subst (λ t. MeansBy t (moment_of m) a i) passes.slices ((cleaned.ends.does.leaves traced a holds).new k i since until stopped));
    }

module _ (x m : View) (place disk many : ℕ) (fit : (volume x).fit) (ordered : IsOrderly x.slices) (was : is_current (book x).state place ≡ true)
    (listed : place < length (book x).state.drives.items) (low : disk < x.bay.disks) (free : (p : ℕ) → seat_of x.slices p ≢ Some disk)
    (admits : IsAdmissible x.linear (book x) place (x.bay.sectors disk)) (ready : IsReady x m place disk many) where
  here : IsAdmitted (book x) place (x.bay.sectors disk)
  here = admitted x.linear (book x) place (x.bay.sectors disk) admits

  made : (book m).state.made ≡ (book x).state.made
  made = ready.marks.same.made

  -- each place of the list is current before
  all_current : (k : ℕ) → k < length (book x).state.drives.items → is_current (book x).state k ≡ true
  all_current k inside = elim (cases_eq k place) [
    | inl same ↦ subst (λ p. is_current (book x).state p ≡ true) (sym same) was
    | inr away ↦ others_current (book x).state place here.whole k inside away
  ]

  -- the table that the disk is to have is the same
  same_table : table_on m place disk ≡ table_on x place disk
  same_table =
      let before = fit.0.running in
      let after = ready.continues.proceeds.fit.0.running in
      let alike = same_views x.arrays m.arrays (slices_shown x) (slices_shown m) before after ready.marks ready.arrays place in
      ap (λ n. new_table (book m).state (views_of (book m)) place n) (ready.continues.proceeds.disks.sectors disk low)
      ∙ ap (λ (e : Id). drive_table e.0 (views_of (book m)) place (x.bay.sectors disk) (length (views_of (book m)))) (next_same (book x).state (book m).state ready.marks)
      ∙ ap (λ n. drive_table (next_drive (book x).state).0 (views_of (book m)) place (x.bay.sectors disk) n) alike.count
      ∙ table_same x.arrays m.arrays (slices_shown x) (slices_shown m) before after ready.marks ready.arrays place (next_drive (book x).state).0 (x.bay.sectors disk) (length (views_of (book x)))

  unsliced : (s : ℕ) (v : List ℕ) → IsSliced x.slices disk s v → ⊥
  unsliced s v is = free _ (seat_is x.slices is.slice is.at ordered is.within ∙ ap Some (sym is.disk_is))

  -- the disk of a drive that was current
  low_of : (k : ℕ) → is_current (book x).state k ≡ true → disk_of x.slices (log_slice k) < x.bay.disks
  low_of k current = low_disk (book x) x.slices x.bay k ordered fit.0.running.set (heeded_left (book x) k fit.0.heeded current)

  past_of : (k : ℕ) → is_current (book x).state k ≡ true → k < length (book x).state.drives.items
  past_of k current = current_listed (book x).state k current

  known : AreTold x → AreTold m
  known all d inside = let equal = ready.disks in let first : d < x.bay.disks = omega (arith, inside, equal) in ready.continues.tells d first (all d first)

  -- another place is current before
  other_was : (k : ℕ) → k ≢ place → k < length (book m).state.drives.items → is_current (book x).state k ≡ true
  other_was k away inside =
      others_current (book x).state place here.whole k (let same = many_same (book x).state (book m).state ready.marks in omega (arith, inside, same)) away

  rose_from : (y : View) (k : ℕ) → is_current (book x).state k ≡ true → Continues m y → DriveWentFrom (moment_of m) (moment_of y) k → DriveWentFrom (moment_of x) (moment_of y) k
  rose_from y k current go rose =
      let d = disk_of x.slices (log_slice k) in
      rose_since (ready.continues.proceeds.disks.faults d (low_of k current)) (subst (λ t. Rose (m.bay.faults (disk_of t (log_slice k))) (y.bay.faults (disk_of t (log_slice k)))) ready.slices rose)

  -- a fault from before
  rose_then : (y : View) (k : ℕ) → is_current (book x).state k ≡ true → Continues m y → DriveWentFrom (moment_of x) (moment_of m) k → DriveWentFrom (moment_of x) (moment_of y) k
  rose_then y k current go rose =
      rose_before (go.proceeds.disks.faults (disk_of x.slices (log_slice k)) (let inside = low_of k current in let equal = ready.disks in omega (arith, inside, equal))) rose

  -- the place's drive was found gone: meanwhile, or after that
  unread_then : (y : View) → Continues m y → IsUnread x m place → IsUnread x y place
  unread_then y go (inl missing) = inl missing
  unread_then y go (inr rose) = inr (rose_then y place was go rose)

  unread_from : (y : View) → Continues m y → IsUnread m y place → DriveWent x y place
  unread_from y go (inl gone) = rose_then y place was go (ready.cause place was gone)
  unread_from y go (inr rose) = rose_from y place was go rose

  -- ---- another drive is missing, and it ends there

  pub short : has_other_missing (book m).state place ≡ true → many ≤ 306 → Declines x m place disk → ReplacesBy x m place disk (Err NotWhole)
  short lacks few left =
      let one = other_missing (book m).state place lacks in
      let marked : HasMarkedOther (moment_of x) (moment_of m) place = (one.0, one.1, other_was one.0 one.1 one.2, one.3) in
      record {
        takes = record {
          continues = ready.continues;
          carries = ready.carries;
          keeps = book_but place (book x) (book m) ready.keeps;
          kept = ready.keeps;
          outside = ready.outside;
          bare = λ d seat other. inl ready.slices;
          names = ready.names;
          disks = ready.disks;
          gone = λ same. absurd (let e : NotWhole ≡ Gone = cc same in cc e);
          declined = record {
            marks = ready.marks;
            plan = ready.plan;
            arrays = ready.arrays;
            cause = ready.cause;
            slices = inl ready.slices;
            unmarked = λ is. absurd (let e : NotWhole ≡ Gone = is in cc e);
            others = λ is. absurd (let e : NotWhole ≡ Gone = is in cc e);
            quiet = λ other none. absurd (none (marked.0, marked.2, marked.3));
          };
          replaced = tt;
          table = tt;
          moments = tt;
          leaves = λ traced a holds k i since until stopped. inl (ready.leaves traced a holds k i since until stopped);
        };
        raises = raises_more many most_raised (book x) (book m) (omega (arith, few)) ready.raises;
        retired = λ k d inside missing. absurd (both_ways (is_current (book x).state k) missing (all_current k inside));
        laid = λ inside all s v within out may. elim (ready.laid inside all s v within (unsliced s) may) [ inl before ↦ inl before | inr new ↦ inr (admits, new) ];
        answer = subst (λ o. IsAnswer o (Err NotWhole)) (sym admits.0) (inr (inr refl));
        admitted = inr admits;
        not_whole = λ same. inr marked;
        left = inr left;
        enters = tt;
      }

  -- ---- the new drive is taken in, or isn't, from that pool on

  module _ (y : View) (few : many ≤ 306) (alone : has_other_missing (book m).state place ≡ false) (x_run : IsRunning x.arrays (slices_shown x)) where
    m_run : IsRunning m.arrays (slices_shown m)
    m_run = ready.continues.proceeds.fit.0.running

    others_now : (k : ℕ) → k ≢ place → is_current (book x).state k ≡ true → is_current (book m).state k ≡ true
    others_now k away current =
        others_current (book m).state place alone k
        (let inside = past_of k current in let same = many_same (book x).state (book m).state ready.marks in omega (arith, inside, same)) away

    listed_now : place < length (book m).state.drives.items
    listed_now = let same = many_same (book x).state (book m).state ready.marks in omega (arith, listed, same)

    faults_more : (d : ℕ) → faults_before (moment_of x) d ≤ faults_before (moment_of m) d
    faults_more d =
        elim (cases_lt d x.bay.disks) [
          | inl inside ↦
              let more = ready.continues.proceeds.disks.faults d inside in
              let equal = ready.disks in
              let first = ap (λ t. if t then x.bay.faults d else 0) (lt-ltb d x.bay.disks inside) in
              let second = ap (λ t. if t then m.bay.faults d else 0) (lt-ltb d m.bay.disks (omega (arith, inside, equal))) in
              omega (arith, more, first, second)
          | inr past ↦ let none = ap (λ t. if t then x.bay.faults d else 0) (le-ltb d x.bay.disks past) in omega (arith, none)
        ]

    -- the table, by the book before
    table_is : table_for x y place disk ≡ table_for m y place disk
    table_is =
        sym
        (ap (λ (e : Id). drive_table e.0 (views_of (book m)) place (y.bay.sectors disk) (book m).state.made) (next_same (book x).state (book m).state ready.marks)
        ∙ ap (λ n. drive_table (next_drive (book x).state).0 (views_of (book m)) place (y.bay.sectors disk) n) made
        ∙ table_same x.arrays m.arrays (slices_shown x) (slices_shown m) x_run m_run ready.marks ready.arrays place (next_drive (book x).state).0 (y.bay.sectors disk) (book x).state.made)

    -- which places of the new list are current
    enlisted_now : (units k : ℕ) → is_current (enlisted place units (Replace place) (book x).state) k ≡ true → is_current (enlisted place units (Replace place) (book m).state) k ≡ true
    enlisted_now units k is =
        current_enlisted place units (Replace place) (book m).state k listed_now
        ∙ elim (cases_eq k place) [
          | inl same ↦ ap (λ b. b || is_current (book m).state k) (eq-eqb k place same)
          | inr away ↦
              ap (λ b. b || is_current (book m).state k) (ne_eqb k place away)
              ∙ others_now k away (sym (current_enlisted place units (Replace place) (book x).state k listed ∙ ap (λ b. b || is_current (book x).state k) (ne_eqb k place away)) ∙ is)
        ]

    replaced_from : IsReplaced (moment_of m) (moment_of y) place disk → IsReplaced (moment_of x) (moment_of y) place disk
    replaced_from is = record {
      units = is.units;
      units_is = sym (units_same (book x).state (book m).state ready.marks place) ∙ is.units_is;
      enough = ap (λ n. units_of (y.bay.sectors disk) n) (sym ready.marks.same.extent) ∙ is.enough;
      marks =
          after_then (enlisted place is.units (Replace place) (book x).state) (enlisted place is.units (Replace place) (book m).state) (book y).state
          (after_enlisted place is.units (Replace place) (book x).state (book m).state listed ready.marks) is.marks;
      plan = is.plan;
      cause = λ k current gone. rose_since (faults_more (disk_of y.slices (log_slice k))) (is.cause k (enlisted_now is.units k current) gone);
      seats =
          seats_same (views_of (book x)) (views_of (book m)) (same_views x.arrays m.arrays (slices_shown x) (slices_shown m) x_run m_run ready.marks ready.arrays place)
          place disk (y.bay.sectors disk) x.slices y.slices
          (subst (λ t. SeatsDrive (views_of (book m)) place disk (y.bay.sectors disk) t y.slices) ready.slices is.seats);
      arrays =
          arrays_then (with_drive place is.units (Replace place) (joins (views_of (book x)) place (y.bay.sectors disk)) (book x))
          (with_drive place is.units (Replace place) (joins (views_of (book m)) place (y.bay.sectors disk)) (book m)) (book y) made
          (with_same x.arrays m.arrays (slices_shown x) (slices_shown m) x_run m_run ready.marks ready.arrays place is.units (y.bay.sectors disk) (Replace place)) is.arrays;
    }

    current_m : (r : Result (Unit {0}) GrowFault) → OnOk r (IsReplaced (moment_of m) (moment_of y) place disk) → IfErr r (IsDeclined (moment_of m) (moment_of y) place)
        → (k : ℕ) → is_current (book y).state k ≡ true → k ≢ place → is_current (book m).state k ≡ true
    current_m (Ok u) is none k current away =
        sym (current_enlisted place is.units (Replace place) (book m).state k listed_now ∙ ap (λ b. b || is_current (book m).state k) (ne_eqb k place away)) ∙ is.marks.current k current
    current_m (Err e) none is k current away = is.marks.current k current

    kept_from : (r : Result (Unit {0}) GrowFault) → IfErr r (IsDeclined (moment_of m) (moment_of y) place) → IfErr r (λ e. KeepsBook (book m) (book y)) → IfErr r (λ e. KeepsBook (book x) (book y))
    kept_from (Ok u) is keeps = tt
    kept_from (Err e) is keeps = book_then (book x) (book m) (book y) made is.marks ready.keeps keeps

    declined_from : (r : Result (Unit {0}) GrowFault) → Continues m y → (r ≡ Ok tt) ⊎ ((r ≡ Err Gone) ⊎ (r ≡ Err NotWhole)) → (r ≡ Err NotWhole → HasMarked (moment_of m) (moment_of y))
        → IfErr r (IsDeclined (moment_of m) (moment_of y) place) → IfErr r (IsDeclined (moment_of x) (moment_of y) place)
    declined_from (Ok u) go answer lost is = tt
    declined_from (Err e) go answer lost is = record {
      marks = after_then (book x).state (book m).state (book y).state ready.marks is.marks;
      plan = is.plan ∙ ready.plan;
      arrays = arrays_then (book x) (book m) (book y) made ready.arrays is.arrays;
      cause = λ k current gone.
          elim (cases_Bool (is_current (book m).state k)) [
            | inl still ↦ rose_from y k current go (is.cause k still gone)
            | inr early ↦ rose_then y k current go (ready.cause k current early)
          ];
      slices = elim is.slices [ inl same ↦ inl (same ∙ ready.slices) | inr gave ↦ inr (gave.0, gave.1, subst (λ t. Seats t y.slices place None) ready.slices gave.2) ];
      unmarked = λ gone missing. absurd (both_ways (is_current (book x).state place) missing was);
      others = λ gone k away current. is.others gone k away (others_now k away current);
      quiet = λ other none. absurd (why answer other none);
    }
      where
        why : (◌≡◌ {A = Result (Unit {0}) GrowFault} (Err e) (Ok tt))
            ⊎ ((◌≡◌ {A = Result (Unit {0}) GrowFault} (Err e) (Err Gone)) ⊎ (◌≡◌ {A = Result (Unit {0}) GrowFault} (Err e) (Err NotWhole))) → e ≢ Gone → (HasMarked (moment_of x) (moment_of y) → ⊥) → ⊥
        why (inl never) other none = never_fault e (sym never)
        why (inr (inl gone)) other none = other (same_fault e Gone gone)
        why (inr (inr whole)) other none = let one = lost whole in none (one.0, ready.marks.current one.0 one.1, one.2)

    pub whole : (r : Result (Unit {0}) GrowFault) → (r ≡ Err NotWhole → HasMarkedOther (moment_of m) (moment_of y) place) → OnOk r (Enters x y place disk) → IfErr r (λ e. Declines x y place disk)
        → TakesBy m y place disk r → ReplacesBy x y place disk r
    whole r apart enters left by =
        let go = continues_then x m y ready.continues by.takes.continues in
        let carries = carries_then x m y ready.continues ready.carries by.takes.carries in
        let inside : disk < m.bay.disks = (let equal = ready.disks in omega (arith, low, equal)) in
        let size : m.bay.sectors disk ≡ x.bay.sectors disk = ready.continues.proceeds.disks.sectors disk low in
        record {
          takes = record {
            continues = go;
            carries = carries;
            keeps = book_then_but place (book x) (book m) (book y) made (current_m r by.takes.replaced by.takes.declined) ready.keeps by.takes.keeps;
            kept = kept_from r by.takes.declined by.takes.kept;
            outside = outside_fewer x.slices y.slices (λ d. (d ≡ disk) ⊎ (d ≡ disk)) (λ d. d ≡ disk) x.shelf.told x.bay y.bay (λ d is. elim is [ inl one ↦ one | inr one ↦ one ])
                (outside_then x m y (λ d. d ≡ disk) (λ d. d ≡ disk) ready.continues by.takes.continues ready.outside by.takes.outside);
            bare = λ d seat other.
                elim (by.takes.bare d (subst (λ t. seat_of t place ≡ Some d) (sym ready.slices) seat) other) [ inl same ↦ inl (same ∙ ready.slices) | inr bare ↦ inr bare ];
            names = by.takes.names ∙ ready.names;
            disks = by.takes.disks ∙ ready.disks;
            gone = λ same. rose_since (ready.continues.proceeds.disks.faults disk low) (by.takes.gone same);
            declined = declined_from r by.takes.continues by.answer by.not_whole by.takes.declined;
            replaced = replaced_at r by.takes.replaced;
            table = table_at r by.takes.table;
            leaves = λ traced a holds k i since until stopped.
                elim (cases_lt m.bay.clock k) [
                  | inl now ↦
                      elim (by.takes.leaves (ready.continues.proceeds.traced holds.shelf traced) a (holds_of x m ready.continues ready.carries a holds) k i now until stopped) [
                        | inl former ↦ inl (former_from x m y place a i ready.slices was (unread_from y by.takes.continues) former)
                        | inr means ↦ inr means
                      ]
                  | inr past ↦ inl (early by traced a holds k i since past stopped)
                ];
            moments = moments_at r by by.takes.moments;
          };
          raises = raises_more (many + 19) most_raised (book x) (book y) (omega (arith, few)) (raises_then many 19 (book x) (book m) (book y) made ready.raises by.raises);
          retired = λ k d inside missing. absurd (both_ways (is_current (book x).state k) missing (all_current k inside));
          laid = λ first all s v within out may.
              elim (by.laid inside (known all) s v (subst (λ n. s < n) (sym size) within) out may) [
                | inl before ↦ elim (ready.laid first all s v within (unsliced s) before) [ inl old ↦ inl old | inr new ↦ inr (admits, new) ]
                | inr new ↦ inr (admits, subst (λ e. IsLaid disk e disk s v) same_table new)
              ];
          answer = subst (λ o. IsAnswer o r) (sym admits.0) by.answer;
          admitted = inr admits;
          not_whole = λ same.
              let one = apart same in
              inr (one.0, one.1, ready.marks.current one.0 one.2, one.3);
          left = left_from r left;
          enters = enters;
        }
      where
        early : TakesBy m y place disk r → x.bay.traced → (a : FlatArray) → VolumeIs x a → (k : ℕ) (i : Image) → x.bay.clock < k → k ≤ m.bay.clock → y.bay.stops k i → MeansFormer (moment_of x) (moment_of y) place a i
        early by traced a holds k i since past stopped =
            fewer_spent x m y place a i by.takes.continues.linear by.takes.carries.spent (unread_then y by.takes.continues)
            (ready.leaves traced a holds k i since past (by.takes.continues.proceeds.past (ready.continues.proceeds.told holds.shelf) (ready.continues.proceeds.traced holds.shelf traced) k i past stopped))

        left_from : (r : Result (Unit {0}) GrowFault) → IfErr r (λ e. Declines x y place disk) → IfErr r (λ e. StaysStill x y ⊎ Declines x y place disk)
        left_from (Ok u) left = tt
        left_from (Err e) left = inr left

        replaced_at : (r : Result (Unit {0}) GrowFault) → OnOk r (IsReplaced (moment_of m) (moment_of y) place disk) → OnOk r (IsReplaced (moment_of x) (moment_of y) place disk)
        replaced_at (Ok u) is = replaced_from is
        replaced_at (Err e) is = tt

        table_at : (r : Result (Unit {0}) GrowFault) → OnOk r (HasTable m y place disk) → OnOk r (HasTable x y place disk)
        table_at (Err e) is = tt
        table_at (Ok u) is = record {
          copies = λ names all copy.
              subst (λ (e : Table). HoldsCopy copy e (now_on y.bay disk)) (sym table_is) (is.copies (ready.continues.proceeds.told names) (ready.continues.known names all) copy);
          durable = λ names all. is.durable (ready.continues.proceeds.told names) (ready.continues.known names all);
        }

        moments_at : (r : Result (Unit {0}) GrowFault) → TakesBy m y place disk r
            → OnOk r (m.bay.traced → (a : FlatArray) → VolumeIs m a → LeavesNew m y (λ i. MeansFormer (moment_of m) (moment_of y) place a i ⊎ MeansWith m y place disk a i))
            → OnOk r (x.bay.traced → (a : FlatArray) → VolumeIs x a → LeavesNew x y (λ i. MeansFormer (moment_of x) (moment_of y) place a i ⊎ MeansWith x y place disk a i))
        moments_at (Err e) by moments = tt
        moments_at (Ok u) by moments =
            λ traced a holds k i since until stopped.
            elim (cases_lt m.bay.clock k) [
              | inl now ↦
                  elim (moments (ready.continues.proceeds.traced holds.shelf traced) a (holds_of x m ready.continues ready.carries a holds) k i now until stopped) [
                    | inl former ↦ inl (former_from x m y place a i ready.slices was (unread_from y by.takes.continues) former)
                    | inr means ↦ inr (means.0, λ s inside alive. subst (λ (e : Table). HoldsTable disk e i) (sym table_is) (means.1 s inside alive))
                  ]
              | inr past ↦
                  inl
                  (fewer_spent x m y place a i by.takes.continues.linear by.takes.carries.spent (unread_then y by.takes.continues)
                  (ready.leaves traced a holds k i since past (by.takes.continues.proceeds.past (ready.continues.proceeds.told holds.shelf) (ready.continues.proceeds.traced holds.shelf traced) k i past stopped)))
            ]

  -- ---- the place's own drive was found gone while the disk was being laid

  pub ready_lost : (y : View) (e : GrowFault) → is_current (book m).state place ≡ true → TakesBy m y place disk (Err e) → LeavesOut m y place disk → IsReady x y place disk (many + 18)
  ready_lost y e current by left =
      let stayed : left.vacates.tables ≡ m.slices = elim left.vacates.seats [
        | inl gave ↦ absurd (both_ways (is_current (book m).state place) gave.0 current)
        | inr stays ↦ stays.1
      ] in
      let same : y.slices ≡ m.slices = left.slices ∙ stayed in
      let inside : disk < m.bay.disks = (let equal = ready.disks in omega (arith, low, equal)) in
      let size : m.bay.sectors disk ≡ x.bay.sectors disk = ready.continues.proceeds.disks.sectors disk low in
      record {
        continues = continues_then x m y ready.continues by.takes.continues;
        carries = carries_then x m y ready.continues ready.carries by.takes.carries;
        raises = raises_then many 18 (book x) (book m) (book y) made ready.raises left.not_whole.raises;
        keeps = book_then (book x) (book m) (book y) made by.takes.declined.marks ready.keeps by.takes.kept;
        outside = outside_fewer x.slices y.slices (λ d. (d ≡ disk) ⊎ (d ≡ disk)) (λ d. d ≡ disk) x.shelf.told x.bay y.bay (λ d is. elim is [ inl one ↦ one | inr one ↦ one ])
            (outside_then x m y (λ d. d ≡ disk) (λ d. d ≡ disk) ready.continues by.takes.continues ready.outside by.takes.outside);
        slices = same ∙ ready.slices;
        laid = λ first all s v within out may.
            elim (by.laid inside (known all) s v (subst (λ n. s < n) (sym size) within) (λ w is. out w (subst (λ t. IsSliced t disk s w) (same ∙ ready.slices) is)) may) [
              | inl before ↦ ready.laid first all s v within out before
              | inr new ↦ inr (subst (λ e. IsLaid disk e disk s v) same_table new)
            ];
        names = by.takes.names ∙ ready.names;
        disks = by.takes.disks ∙ ready.disks;
        marks = after_then (book x).state (book m).state (book y).state ready.marks by.takes.declined.marks;
        plan = by.takes.declined.plan ∙ ready.plan;
        arrays = arrays_then (book x) (book m) (book y) made ready.arrays by.takes.declined.arrays;
        cause = λ k before gone.
            elim (cases_Bool (is_current (book m).state k)) [
              | inl still ↦ rose_from y k before by.takes.continues (by.takes.declined.cause k still gone)
              | inr early ↦ rose_then y k before by.takes.continues (ready.cause k before early)
            ];
        leaves = λ traced a holds k i since until stopped.
            elim (cases_lt m.bay.clock k) [
              | inl now ↦
                  elim (by.takes.leaves (ready.continues.proceeds.traced holds.shelf traced) a (holds_of x m ready.continues ready.carries a holds) k i now until stopped) [
                    | inl former ↦ former_from x m y place a i ready.slices was (unread_from y by.takes.continues) former
                    | inr means ↦ inl (was, subst (λ t. MeansBy t (moment_of y) a i) (same ∙ ready.slices) means)
                  ]
              | inr past ↦
                  fewer_spent x m y place a i by.takes.continues.linear by.takes.carries.spent (unread_then y by.takes.continues)
                  (ready.leaves traced a holds k i since past (by.takes.continues.proceeds.past (ready.continues.proceeds.told holds.shelf) (ready.continues.proceeds.traced holds.shelf traced) k i past stopped))
            ];
      }
