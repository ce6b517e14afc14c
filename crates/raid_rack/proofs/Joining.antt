-- The commit that makes a new drive one of the pool: one that marks nobody, of a state that has the drive in its list already, by the logs of
-- the drives that the pool had before.
use Rattle.std.proofs.Common.{◌≡◌, ◌≢◌, ◌⊎◌, ℕ, ◌+◌, ◌<◌, ◌^◌, ◌==◌, ◌&&◌, ◌||◌, not, Bool, true, false, if◌then◌else◌, List, [], is_some, length, refl, sym, ap, subst, ◌∙◌, inl, inr, arith}
use Rattle.std.proofs.lemmas.Bool.{and_parts, both_ways, cases_Bool, cases_eq, ne_eqb}
use Rattle.rack.specs.Seen.{RackView}
use Rattle.rack.specs.Joins.{rose_early, rose_later}
use Rattle.rack.specs.Targets.{Target}
use Rattle.pool_state.specs.Valid.{is_valid}
use Rattle.pool_state.specs.declared.contents.Plan.{Plan}
use Rattle.pool_state.specs.declared.contents.Plan.TheVariants.{Replace}
use Rattle.pool_state.specs.declared.contents.State.{State}
use Rattle.md_super.specs.declared.superblock.Super.{Super}
use Rattle.array_image.specs.Arrays.{first_layout}
use Rattle.array_image.specs.Spent.{spent_by}
use Rattle.array_image.specs.Stripes.{capacity}
use Rattle.array_image.specs.Places.{data_sector, log_sectors, log_slice, member_slice}
use Rattle.array_image.specs.States.{current_places, is_current}
use Rattle.log_laws.specs.View.{LogView, names, next_number}
use Rattle.array_model.specs.View.{View, HasFault, place_at, present, shape_of, spent_in}
use Rattle.array_core.specs.Seats.{renewed, seat_of}
use Rattle.raid_laws.specs.Book.{OnlyMarksSince}
use Rattle.raid_laws.specs.Enlisting.{IsEnlisted, enlisted, next_drive, with_drive}
use Rattle.raid_laws.specs.Losing.{only_then}
use Rattle.raid_laws.specs.Losses.{AddsCopies, has_other}
use Rattle.raid_laws.specs.Moves.{IsHeeded, IsSeated, IsSet, IsUnmarked, Mends, RaisesBy}
use Rattle.raid_laws.specs.Raid.{Raid, gone_in, is_empty, is_left, is_failed, is_used_up}
use Rattle.raid_laws.specs.Settling.{HasStaged, IsMarking}
use Rattle.raid_laws.proofs.Added.{names_current}
use Rattle.raid_laws.proofs.Alike.{CountAlike, alike_same, spent_alike}
use Rattle.raid_laws.proofs.Committed.{IsCommitBy, after_cause, after_further, after_left, commit_losing, raid_after}
use Rattle.raid_rack.proofs.Enlisted.{current_enlisted, enlisted_marked, listed, valid_listed}
use Rattle.raid_laws.proofs.Losing.{only_gone}
use Rattle.raid_laws.proofs.Noted.{current_few, losing_spent}
use Rattle.raid_laws.proofs.Others.{other_left, some_other}
use Rattle.raid_laws.proofs.Over.{not_empty, or_from, or_parts, over_still, used_still}
use Rattle.raid_rack.proofs.Raises.{raised_up}
use Rattle.raid_rack.proofs.Renewed.{Lists, member_found, renewed_alike, renewed_resync, renewed_truth, renewed_unmarked, renewed_went, seated_listed, seated_renewed}
use Rattle.raid_rack.proofs.Restating.{and_none}
use Rattle.raid_laws.proofs.Settling.{more_super, more_supers}
use Rattle.raid_rack.proofs.Steps.{length_set}
use Rattle.raid_laws.proofs.Whole.{heeded_gone, heeded_left}

-- ---- the arrays with the new drive

-- the pool with the new drive, by a state of the same epoch
abbrev pub listed_raid : (place units : ℕ) → Plan → (ℕ → Bool) → Raid → Raid
listed_raid place units plan joining v = record (with_drive place units plan joining v) { state = listed place units plan v.state }

pub lists_listed : (place units : ℕ) (plan : Plan) (s : State) → place < length s.drives.items → Lists s place (listed place units plan s)
lists_listed place units plan s low = record {
  current = λ p. current_enlisted place units plan s p low;
  pool = refl;
  extent = refl;
  drives = length_set s.drives.items place (record { id = next_drive s; units = units; missing = false });
}

-- The arrays of a pool of which one drive is missing, over slices that its new disk has already: those of the arrays that it is a member of.
pub record MayJoinPool (place units : ℕ) (plan : Plan) (joining : ℕ → Bool) (v : Raid) (x : RackView) : Type 0 where
  pub set : IsSet v x
  pub heeded : IsHeeded v
  pub unmarked : (n : ℕ) → n < v.state.made → IsUnmarked (v.arrays n)
  pub listed : place < length v.state.drives.items
  pub missing : is_current v.state place ≡ false
  pub others : (p : ℕ) → p < length v.state.drives.items → p ≢ place → is_current v.state p ≡ true
  pub units_some : 0 < units
  pub units_most : units < 2 ^ 41
  pub plan_is : plan ≡ Replace place
  pub log : x.sectors (log_slice place) ≡ log_sectors
  pub joins : (n : ℕ) → n < v.state.made → is_some (seat_of (v.arrays n) place) ≡ joining n
  pub members : (n : ℕ) → n < v.state.made → x.sectors (member_slice place n) ≡ (if joining n then (v.arrays n).truth.size + data_sector else 0)

module _ (place units : ℕ) (plan : Plan) (joining : ℕ → Bool) (v : Raid) (x : RackView) (may : MayJoinPool place units plan joining v x) where
  drive_lists : Lists v.state place (listed place units plan v.state)
  drive_lists = lists_listed place units plan v.state may.listed

  -- an array of which the place is no member
  pub apart_from : (n : ℕ) → n < v.state.made → joining n ≡ false → (k : ℕ) → k < (v.arrays n).truth.raid_disks → place_at (v.arrays n) k ≢ place
  apart_from n low none k inside here =
      both_ways (joining n) none (sym (may.joins n low) ∙ member_found (v.arrays n) place k (may.set.arrays n low).is_array inside here)

  pub listed_heeded : IsHeeded (listed_raid place units plan joining v)
  listed_heeded n low = renewed_went (joining n) place (next_drive v.state) (v.arrays n) ∙ may.heeded n low

  listed_seated : (n : ℕ) → n < v.state.made → IsSeated (listed place units plan v.state) n ((listed_raid place units plan joining v).arrays n) x
  listed_seated n low =
      let u = v.arrays n in
      let drive = next_drive v.state in
      let s = v.state in
      let t = listed place units plan v.state in
      let seated = may.set.arrays n low in
      let listed_few = may.listed in
      let few = may.set.few in
      let most = may.set.most in
      let disks = may.set.disks in
      elim (cases_Bool (joining n)) [
        | inl is ↦
            let size = may.members n low ∙ ap (λ (b : Bool). if b then u.truth.size + data_sector else 0) is in
            subst (λ (b : Bool). IsSeated t n (if b then renewed place drive u else u) x) (sym is)
            (seated_renewed s t n u x place drive drive_lists may.missing seated (may.heeded n low) (may.unmarked n low) (omega (arith, listed_few, few, low, most, disks)) (omega (arith, size)))
        | inr none ↦
            subst (λ (b : Bool). IsSeated t n (if b then renewed place drive u else u) x) (sym none)
            (seated_listed s t n u x place drive drive_lists may.missing seated (may.heeded n low) (may.unmarked n low) (apart_from n low none))
      ]

  -- one more place is left
  pub listed_left : (p : ℕ) → is_left (listed_raid place units plan joining v) p ≡ true → (p ≡ place) ⊎ (is_left v p ≡ true)
  listed_left p left =
      let current = (and_parts (is_current (listed place units plan v.state) p) (not (gone_in (listed_raid place units plan joining v) p)) left).0 in
      elim (cases_eq p place) [
        | inl same ↦ inl same
        | inr other ↦
            inr (heeded_left v p may.heeded
            (sym (drive_lists.current p ∙ ap (λ b. b || is_current v.state p) (ne_eqb p place other)) ∙ current))
      ]

  pub listed_set : IsSet (listed_raid place units plan joining v) x
  listed_set = record {
    fit = may.set.fit;
    lasting = may.set.lasting;
    disks = may.set.disks;
    few = let same = drive_lists.drives in let few = may.set.few in omega (arith, same, few);
    most = may.set.most;
    valid = λ p low.
        subst (λ (k : Plan). is_valid (listed place units k v.state) p ≡ true) (sym may.plan_is)
        (valid_listed place units v.state p may.listed may.units_some may.units_most (may.set.valid p (let same = drive_lists.drives in omega (arith, same, low))));
    logs = λ p left.
        elim (listed_left p left) [
          | inl same ↦ ap (λ q. x.sectors (log_slice q)) same ∙ may.log
          | inr was ↦ may.set.logs p was
        ];
    arrays = listed_seated;
    marked = λ n low is.
        absurd (both_ways ((listed_raid place units plan joining v).arrays n).marked
        (renewed_unmarked (joining n) place (next_drive v.state) (v.arrays n) (may.unmarked n low)).mark is);
  }

  -- its members count as they did
  pub listed_alike : (n : ℕ) → n < v.state.made → CountAlike (shape_of (v.arrays n)) (shape_of ((listed_raid place units plan joining v).arrays n))
  listed_alike n low = of (joining n)
    where
      of : (b : Bool) → CountAlike (shape_of (v.arrays n)) (shape_of (if b then renewed place (next_drive v.state) (v.arrays n) else v.arrays n))
      of true = renewed_alike v.state (listed place units plan v.state) n (v.arrays n) x place (next_drive v.state) drive_lists may.missing (may.set.arrays n low) (may.heeded n low)
      of false = alike_same (shape_of (v.arrays n))

  pub listed_spent : (n k : ℕ) → n < v.state.made → spent_in ((listed_raid place units plan joining v).arrays n) k ≡ spent_in (v.arrays n) k
  listed_spent n k low =
      let u = (listed_raid place units plan joining v).arrays n in
      spent_alike (shape_of (v.arrays n)) (shape_of u) (listed_alike n low) u.resync k
      ∙ ap (λ (rows : ℕ). spent_by (shape_of (v.arrays n)) rows k) (renewed_resync (joining n) place (next_drive v.state) (v.arrays n))

  -- ---- what is added to the log

  pub joining_marks : (takes : List ℕ) (l : LogView) (xs : List Target) → HasStaged (listed_raid place units plan joining v) v.state.made xs
      → AddsCopies (enlisted place units plan v.state) takes xs l.added → takes ≡ current_places (enlisted place units plan v.state) → l.number ≡ v.number
      → IsMarking (listed_raid place units plan joining v) [] takes l xs x
  joining_marks takes l xs staged copies takes_are number = record {
    set = listed_set;
    staged = staged;
    copies = subst (λ (t : State). AddsCopies t takes xs l.added) (enlisted_marked place units plan v.state) copies;
    number = number;
    lost_is = λ p.
        sym (ap (λ b. is_current (listed place units plan v.state) p && b) (heeded_gone (listed_raid place units plan joining v) listed_heeded p)
        ∙ and_none (is_current (listed place units plan v.state) p));
    noted = λ n p low is. absurd (both_ways false refl is);
    fresh = λ n gone low none. listed_heeded n low;
    on_is = takes_are ∙ ap current_places (enlisted_marked place units plan v.state);
  }

  -- its places are some of those that the new state has
  pub joining_fewer : (on takes : List ℕ) → on ≡ current_places v.state → takes ≡ current_places (enlisted place units plan v.state)
      → (p : ℕ) → names on p ≡ true → names takes p ≡ true
  joining_fewer on takes on_are takes_are p named =
      let was = sym (ap (λ ps. names ps p) on_are ∙ names_current v.state p) ∙ named in
      ap (λ ps. names ps p) takes_are ∙ names_current (enlisted place units plan v.state) p ∙ drive_lists.current p ∙ or_last (p == place) (is_current v.state p) was
    where
      or_last : (b c : Bool) → c ≡ true → (b || c) ≡ true
      or_last true c is = refl
      or_last false c is = is

-- targets that are staged are so in arrays that are the same
pub staged_like : (v w : Raid) (k : ℕ) (xs : List Target) → ((n : ℕ) → n < k → w.arrays n ≡ v.arrays n) → HasStaged v k xs → HasStaged w k xs
staged_like v w k xs same staged = record {
  only = λ z among. more_super v w k k z (omega arith) same (staged.only z among);
  apart = staged.apart;
  each = λ n low. more_supers (v.arrays n) (w.arrays n) xs xs (same n low) (λ z among. among) (staged.each n low);
  few = staged.few;
}

-- ---- the whole call

module _ (place units : ℕ) (plan : Plan) (joining : ℕ → Bool) (v : Raid) (on takes gone : List ℕ) (l : LogView) (xs : List Target) (f : ℕ → View) (x y : RackView)
    (may : MayJoinPool place units plan joining v x) (commit : IsCommitBy (listed_raid place units plan joining v) [] takes on gone l xs f x y)
    (w : Raid) (z : RackView) (mends : Mends (raid_after (listed_raid place units plan joining v) [] (next_number l.number) f) w y z) where
  abbrev u : Raid
  u = listed_raid place units plan joining v

  abbrev m : Raid
  m = raid_after (listed_raid place units plan joining v) [] (next_number l.number) f

  -- whatever was left and isn't any more has a fault
  caused : (p : ℕ) → is_left u p ≡ true → is_left w p ≡ false → HasFault x z p
  caused p was now =
      elim (cases_Bool (is_left m p)) [
        | inl mid ↦
            let fault = mends.moves.cause p mid now in
            (fault.0, fault.1, rose_later x y z fault.0 commit.call.stays fault.2)
        | inr lost_now ↦
            let fault = after_cause u [] takes gone l xs f x y commit p was lost_now in
            (fault.0, fault.1, rose_early x y z fault.0 mends.moves.stays fault.2)
      ]

  -- so is what was current by the state before, but for the place
  pub was_current : (q : ℕ) → is_current w.state q ≡ true → q ≢ place → is_current v.state q ≡ true
  was_current q is away =
      let now : is_current m.state q ≡ true = mends.moves.book.current q is in
      sym ((lists_listed place units plan v.state may.listed).current q ∙ ap (λ b. b || is_current v.state q) (ne_eqb q place away))
      ∙ ap (λ (t : State). is_current t q) (enlisted_marked place units plan v.state) ∙ now

  -- what is spent stays so
  pub spent_before : (n k : ℕ) → n < v.state.made → spent_in (w.arrays n) k ≡ false → spent_in (v.arrays n) k ≡ false
  spent_before n k low alive =
      sym (listed_spent place units plan joining v x may n k low)
      ∙ losing_spent (u.arrays n) (f n) (names gone) (commit.marking.set.arrays n low).is_array (commit_losing u [] takes gone l xs f x y commit n low) k
      (mends.moves.spent n k low alive)

  still_over : (n : ℕ) → n < v.state.made → has_other w.state place ≡ true → is_failed w n ≡ false → is_failed v n ≡ false
  still_over n low other goes =
      let further = after_further u [] takes gone l xs f x y commit in
      let used = (or_parts (is_used_up u) (present (u.arrays n).seats == 0)
      (or_parts (is_empty u) (is_used_up u || (present (u.arrays n).seats == 0)) (over_still u m further n low (mends.moves.still n low goes))).1).0 in
      let at = some_other w.state place other in
      let was = was_current at.0 at.1 at.2 in
      let some = other_left v.state n (v.arrays n) x place (may.set.arrays n low) (may.heeded n low) may.others in
      or_from (is_empty v) (is_used_up v || (present (v.arrays n).seats == 0))
      (not_empty v at.0 (current_few v.state at.0 may.set.few was) (heeded_left v at.0 may.heeded was))
      (or_from (is_used_up v) (present (v.arrays n).seats == 0)
      (used_still v u (omega arith) (omega arith) refl (λ k below. (let e = events_same k in omega (arith, e))) used)
      (ne_eqb (present (v.arrays n).seats) 0 (λ none. omega (arith, none, some))))
    where
      events_same : (k : ℕ) → (u.arrays k).truth.events ≡ (v.arrays k).truth.events
      events_same k = ap (λ (t : Super). t.events) (renewed_truth (joining k) place (next_drive v.state) (v.arrays k))

  pub is_enlisted : IsEnlisted place units plan joining v w x z
  is_enlisted =
      let further = after_further u [] takes gone l xs f x y commit in
      record {
        book = subst (λ (t : State). OnlyMarksSince t w.state) (sym (enlisted_marked place units plan v.state)) mends.moves.book;
        plan_is = mends.moves.plan;
        arrays = λ n low.
            only_then (u.arrays n) (f n) (w.arrays n) (only_gone (u.arrays n) (f n) gone (commit.marking.set.arrays n low).is_array (commit.arrays n low))
            (mends.moves.arrays n low);
        sectors = λ n. mends.moves.sectors n ∙ commit.sectors n ∙ ap (λ (t : Super). capacity (first_layout t) t.size) (renewed_truth (joining n) place (next_drive v.state) (v.arrays n));
        caused = record { left = λ p is. after_left u [] takes gone l xs f x y commit p (mends.moves.left p is); cause = caused };
        heeded = mends.heeded;
        number = let first = further.number in let second = mends.moves.number in omega (arith, first, second);
        events = λ n low. (
            let first = further.events n low in
            let second = mends.moves.events n low in
            let e = ap (λ (t : Super). t.events) (renewed_truth (joining n) place (next_drive v.state) (v.arrays n)) in
            omega (arith, first, second, e));
        spent = spent_before;
        still = still_over;
      }

  pub enlisting_raises : RaisesBy 17 m w → RaisesBy 18 v w
  enlisting_raises raises = record {
    number =
        let up = raised_up l.number in
        let same = commit.marking.number in
        let more = raises.number in
        omega (arith, up, same, more);
    epoch = let up = raised_up v.state.epoch in let more = raises.epoch in omega (arith, up, more);
    events = λ n low. (
        let more = raises.events n low in
        let noted = ap (λ (k : View). k.truth.events) (commit.arrays n low) in
        let e = ap (λ (t : Super). t.events) (renewed_truth (joining n) place (next_drive v.state) (v.arrays n)) in
        omega (arith, more, noted, e));
  }
