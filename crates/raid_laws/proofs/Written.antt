-- A call that may write to one array, as a part of a call of all.
use Rattle.std.proofs.Common.{◌≡◌, ◌≢◌, ℕ, ◌+◌, ◌<◌, ◌≤◌, Bool, true, false, ◌==◌, ◌&&◌, not, if◌then◌else◌, List, [], ◌∷◌, ◌++◌, length, length-append, slice_get, Option, Some, None, refl, sym, ap, subst, ◌∙◌, inl, inr, eq-eqb, ne_eqb, arith}
use Rattle.std.proofs.lemmas.Bool.{both_ways, cases_Bool, cases_eq}
use Rattle.std.specs.Option.{option_map_or}
use Rattle.rack.specs.Values.{Values, append}
use Rattle.rack.specs.Seen.{Image, RackView, IsLive}
use Rattle.pool_state.specs.declared.contents.State.{State}
use Rattle.array_image.specs.Places.{member_slice, data_sector, place_of, slice_of, super_sector}
use Rattle.array_image.specs.States.{is_current, current_places}
use Rattle.array_image.specs.Arrays.{Member, Shape}
use Rattle.log_laws.specs.Kept.{LogInvariant}
use Rattle.log_laws.specs.View.{names}
use Rattle.log_laws.proofs.KeptAfter.{kept_more}
use Rattle.array_model.specs.declared.Seat.{Seat}
use Rattle.array_model.specs.declared.Seat.TheVariants.{Whole, Missing, Rebuilding}
use Rattle.array_model.specs.View.{View, has_gone, is_missing_seat, is_whole_array, member_on, place_at, seat_reach, shape_of, spent_in}
use Rattle.array_model.specs.Says.{ArrayInvariant, IsOpen}
use Rattle.array_model.specs.Stages.{IsStateOf}
use Rattle.array_model.specs.ArrayCalls.{IncludesSpent, WritesArray, appended_at}
use Rattle.array_model.proofs.Firsts.{position_of}
use Rattle.array_model.proofs.Moves.{CallRefines as CallMoves}
use Rattle.array_core.specs.Pool.{Goes, MayCommit, MayRenew}
use Rattle.array_core.specs.TruthLeft.{LeavesTruth}
use Rattle.array_core.specs.Writing.{IsElsewhere, KeepsElsewhere}
use Rattle.raid_laws.specs.Book.{after_same}
use Rattle.raid_laws.specs.Marking.{Part}
use Rattle.raid_laws.specs.Raid.{Raid, AreLive, gone_in, is_left, is_failed, held_in}
use Rattle.raid_laws.specs.Reach.{KeepsReach, KeepsReachOn, reach_fewer, reach_same}
use Rattle.raid_laws.specs.Moves.{AreMarked, ChangesData, IsTrackedInCall, IsHeeded, IsSeated, IsSet, KeepsMarked, SubCall, written_at}
use Rattle.raid_laws.proofs.Added.{names_current}
use Rattle.raid_laws.proofs.Staged.{seat_marks}
use Rattle.raid_laws.proofs.Changed.{LosesOne, ViewsOne, called, left_before, part_if, marked_before, further, views_set, views_sectors, views_spent}
use Rattle.raid_laws.proofs.Noted.{current_few, gone_from, gone_not, left_reach}
use Rattle.raid_laws.proofs.Over.{event_room, number_room, over_still, someone_left}
use Rattle.raid_laws.specs.Frames.{frame_of}
use Rattle.raid_laws.proofs.Frames.{geometry_frame, view_frame}
use Rattle.raid_laws.proofs.Logs.{kept_calm, logs_call}
use Rattle.raid_laws.proofs.Parts.{SaysSome, acts_some, frame_by, part_by, part_other}
use Rattle.raid_laws.specs.Rows.{KeepsLacking, KeepsRows, LeavesLacking, LeavesRows}
use Rattle.raid_laws.proofs.LackingRows.{lacking_other}
use Rattle.raid_laws.proofs.LackingCalls.{left_lacking, whole_lacking}
use Rattle.raid_laws.proofs.Rows.{rows_other}
use Rattle.raid_laws.proofs.Seated.{missing_of, place_few}
use Rattle.raid_laws.proofs.Whole.{heeded_gone, heeded_whole}

-- ---- what it needs

-- the sectors of members that count are told
pub opened : (s : State) (made n : ℕ) (u : View) (x : RackView) → IsSeated s n u x → AreLive made x → n < made → IsOpen (shape_of u) u.number x
unfolding shape_of
opened s made n u x seated live low m sector among counts =
    let at = position_of u u.truth.raid_disks m among in
    let reach : sector < (member_on u at.0).reach = subst (λ (o : Member). sector < o.reach) at.2 counts in
    let inside = fits (slice_get u.seats at.0) refl reach in
    let sectors = seated.slices.sectors at.0 at.1 inside.0 in
    let below = inside.1 in
    subst (λ (o : Member). IsLive x x (member_slice o.place u.number) (data_sector + sector)) (sym at.2)
    (subst (λ j. IsLive x x (member_slice (place_at u at.0) j) (data_sector + sector)) (sym seated.number)
    (live n (place_at u at.0) (data_sector + sector) low (place_few u at.0 seated.is_array at.1)
    (subst (λ j. data_sector + sector < x.sectors (member_slice (place_at u at.0) j)) seated.number (omega (arith, sectors, below)))))
  where
    fits : (o : Option Seat) → slice_get u.seats (position_of u u.truth.raid_disks m among).0 ≡ o
        → sector < option_map_or (seat_reach u.truth.size) o 0
        → (slice_get u.seats (position_of u u.truth.raid_disks m among).0 ≢ Some Missing) × (sector < u.truth.size)
    fits None is reach = absurd (omega (arith, reach))
    fits (Some Whole) is reach = (λ missing. absurd (let bad : Some Whole ≡ Some Missing = sym is ∙ missing in cc), reach)
    fits (Some Missing) is reach = absurd (omega (arith, reach))
    fits (Some (Rebuilding to)) is reach =
        let low_to = (seated.is_of_pool.rows (position_of u u.truth.raid_disks m among).0 to is).1 in
        (λ missing. absurd (let bad : Some (Rebuilding to) ≡ Some Missing = sym is ∙ missing in cc), omega (arith, reach, low_to))

-- its members that are missing are those whose places are marked
pub state_of : (v : Raid) (x : RackView) (n : ℕ) → IsSet v x → IsHeeded v → n < v.state.made → IsStateOf (v.arrays n) v.state
state_of v x n set heeded low =
    let seated = set.arrays n low in
    let pool = seated.is_of_pool in
    record {
      set = pool.set;
      profile = pool.profile;
      events = pool.events;
      events_end = pool.events_end;
      row = pool.row;
      roles = pool.roles;
      marks = λ k below.
          let inside : k < (v.arrays n).truth.raid_disks = let count = seated.is_array.seats in omega (arith, below, count) in
          let p = place_at (v.arrays n) k in
          seat_marks (slice_get (v.arrays n).seats k) (is_current v.state p) (has_gone (v.arrays n) p) (seated.marks k inside)
          (λ current. ap (λ ps. names ps p) (heeded n low));
    }

-- what superblocks that are written directly need
pub may_renew : (v : Raid) (a : RackView) (m n : ℕ) → IsSet v a → IsHeeded v → m < v.state.made → AreLive v.state.made a → is_failed v n ≡ false
    → MayRenew v.state (v.arrays m) a
may_renew v a m n set heeded low live goes =
    let seated = set.arrays m low in
    record {
      state = state_of v a m set heeded low;
      fresh = heeded m low;
      supers = λ place few there.
          subst (λ j. IsLive a a (member_slice place j) super_sector) (sym seated.number)
          (live m place super_sector low few (subst (λ j. super_sector < a.sectors (member_slice place j)) seated.number there));
      rows = seated.is_of_pool.rows;
      events = let room = event_room v n m goes low in omega (arith, room);
    }

-- the slices of a drive that is marked are none that a call of an array writes
marked_elsewhere : (s : State) (n : ℕ) (u : View) (x : RackView) (on : List ℕ) (d : ℕ) → IsSeated s n u x → ((p : ℕ) → is_current s p ≡ false → names on p ≡ false)
    → is_current s (place_of d) ≡ false → IsElsewhere false u on d
marked_elsewhere s n u x on d seated unnamed gone =
    elim (cases_eq (slice_of d) 0) [
      | inl log ↦ inl (log, unnamed (place_of d) gone)
      | inr some ↦
          inr (
            some,
            λ k low there is.
                let few = seated.is_array.few in
                let here : place_of d ≡ place_at u k = omega (arith, is, few) in
                let missing = missing_of (slice_get u.seats k) (is_current s (place_at u k)) (has_gone u (place_at u k))
                (subst (λ p. is_current s p ≡ false) here gone) (seated.marks k low) in
                both_ways true (sym there ∙ ap (λ (o : Option Seat). option_map_or (λ seat. not (is_missing_seat seat)) o true) missing) refl,
          )
    ]

-- ---- a call of array m that may write it, where whoever went is marked

-- `now` are its values after the call, by those before, `after` is its shape by the marks that images go by, and `Able` is what the
-- call needs of the pool.
pub record ActsOne (v : Raid) (f : ℕ → View) (number m : ℕ) (a b : RackView) (now : (ℕ → Values) → ℕ → Values) (after : Shape) (Able : Type 0) : Type 0 where
  pub heeded : IsHeeded v
  pub views : ViewsOne v f m a b
  pub shape : AreMarked (called v f number) → after ≡ shape_of (f m)
  pub grows : KeepsReach v.state (shape_of (v.arrays m)) after
  pub noted : KeepsReachOn (is_left (called v f number)) after (shape_of (f m))
  pub frame : frame_of (f m).truth ≡ frame_of (v.arrays m).truth
  pub goes : Goes a b
  pub later : v.number ≤ number
  pub able : (n : ℕ) (vals : ℕ → Values) (spent : ℕ → Bool) → n < v.state.made → is_failed (called v f number) n ≡ false → IsTrackedInCall v a n vals spent → Able
  pub acts :
      (vals : ℕ → Values) (spent : ℕ → Bool) → IncludesSpent (f m) spent → Able
      → CallMoves (v.arrays m).number a b (ArrayInvariant v.state (shape_of (v.arrays m)) (v.arrays m) vals spent a) (SaysSome v.state (v.arrays m).number (shape_of (v.arrays m)) after (now vals) spent)
      (ArrayInvariant v.state after (f m) (now vals) spent b)
  pub kept : Able → LogInvariant v.state v.number (λ place. false) a → LogInvariant v.state number (gone_in (called v f number)) b
  pub elsewhere : (on : List ℕ) × ((p : ℕ) → is_current v.state p ≡ false → names on p ≡ false) × KeepsElsewhere false (v.arrays m) on a b

module _ (v : Raid) (f : ℕ → View) (number m : ℕ) (a b : RackView) (now : (ℕ → Values) → ℕ → Values) (after : Shape) (Able : Type 0) (set : IsSet v a)
    (call : ActsOne v f number m a b now after Able) where
  log_after : Able → LogInvariant v.state v.number (gone_in v) a → LogInvariant v.state number (gone_in (called v f number)) b
  log_after able log = call.kept able (subst (λ g. LogInvariant v.state v.number g a) (λ i p. heeded_gone v call.heeded p i) log)

  -- whoever went is marked before it
  marked : (p : ℕ) → is_current v.state p ≡ true → gone_in v p ≡ false
  marked p current = heeded_gone v call.heeded p

  small : (n : ℕ) → n < v.state.made → n < 16
  small n low = let most = set.most in omega (arith, low, most)

  -- what the array holds before the call and after it, and what contents say meanwhile
  abbrev OwnBefore : (ℕ → Values) → Type 0
  OwnBefore own = ArrayInvariant v.state (shape_of (v.arrays m)) (v.arrays m) own (spent_in (f m)) a

  abbrev OwnDuring : (ℕ → Values) → Image → Type 0
  OwnDuring own = SaysSome v.state (v.arrays m).number (shape_of (v.arrays m)) after (now own) (spent_in (f m))

  abbrev OwnAfter : (ℕ → Values) → Type 0
  OwnAfter own = ArrayInvariant v.state after (f m) (now own) (spent_in (f m)) b

  pub own_part : (vals : ℕ → Values) (spent : ℕ → Bool) → is_failed (called v f number) m ≡ false → IncludesSpent (f m) spent
      → SubCall v (called v f number) a b m vals (now vals) spent
  own_part vals spent goes covers =
      part_if v (called v f number) a b m vals (now vals) spent call.goes.stays set.lasting call.goes.leaves
      (λ amid.
      let able = call.able m vals spent call.views.low goes amid in
      let shape = shape_of (v.arrays m) in
      record {
        after = after;
        part = subst (λ (first : Shape). Part v.state v.state first after vals (now vals) spent (gone_in v) (gone_in (called v f number)) v (called v f number) a b m)
            (sym (amid.marked marked))
            (part_by v.state shape after vals (now vals) spent (gone_in v) (gone_in (called v f number)) v (called v f number) a b m
            call.grows (call.acts vals spent covers able) (call.views.seated.number ∙ sym (set.arrays m call.views.low).number) (λ log. log_after able log)
            (someone_left (called v f number) m goes) call.views.written
            (λ copies stood.
            logs_call v.state v.number (gone_in v) (v.arrays m).number a b (ArrayInvariant v.state shape (v.arrays m) vals spent a) (ArrayInvariant v.state after (f m) (now vals) spent b)
            (SaysSome v.state (v.arrays m).number shape after (now vals) spent) set.lasting marked (call.acts vals spent covers able) stood.log stood.someone copies)
            (λ g framed stood.
            frame_by v.state shape after g shape vals (now vals) spent (gone_in v) v (f m) a b m (ArrayInvariant v.state after (f m) (now vals) spent b)
            (call.acts vals spent covers able) (view_frame (v.arrays m) ∙ framed) (call.frame ∙ framed) stood));
        marked = call.shape;
        noted = call.noted;
      })

  pub other_part : (n : ℕ) (vals : ℕ → Values) (spent : ℕ → Bool) → (n ≡ m → ⊥) → n < v.state.made → is_failed (called v f number) n ≡ false
      → SubCall v (called v f number) a b n vals vals spent
  other_part n vals spent apart below goes =
      part_if v (called v f number) a b n vals vals spent call.goes.stays set.lasting call.goes.leaves
      (λ amid.
      let able = call.able n vals spent below goes amid in
      let own = held_in v a m in
      record {
        after = amid.durable;
        noted =
            subst (λ (u : View). KeepsReachOn (is_left (called v f number)) amid.durable (shape_of u)) (sym (call.views.others n apart))
            (reach_fewer (is_left v) (is_left (called v f number)) amid.durable (shape_of (v.arrays n)) (left_before v f m a b set call.views) amid.noted);
        part = part_other v.state amid.durable vals spent (gone_in v) (gone_in (called v f number)) v (called v f number) a b n m
            (OwnBefore own) (OwnAfter own) (OwnDuring own)
            (small m call.views.low) (small n below) apart (set.arrays m call.views.low).number (call.views.others n apart) set.lasting marked
            (call.acts own (spent_in (f m)) (λ y alive. alive) able) (λ log. log_after able log) (someone_left (called v f number) n goes);
        marked = λ are. amid.marked (marked_before v f m a b set call.views are) ∙ sym (ap shape_of (call.views.others n apart));
      })

  pub one_still : (n : ℕ) → n < v.state.made → is_failed (called v f number) n ≡ false → is_failed v n ≡ false
  one_still n low goes = over_still v (called v f number) (further v f m a b set call.views number call.later) n low goes

  pub one_unwritten : KeepsMarked v a b
  one_unwritten d t live gone =
      call.elsewhere.2 d t live (marked_elsewhere v.state m (v.arrays m) a call.elsewhere.0 d (set.arrays m call.views.low) call.elsewhere.1 gone)

  -- an array that isn't called leaves the rows that it left
  pub other_rows : (n : ℕ) (vals : ℕ → Values) (spent : ℕ → Bool) → (n ≡ m → ⊥) → n < v.state.made → is_failed (called v f number) n ≡ false
      → IsTrackedInCall v a n vals spent → LeavesRows v a n → KeepsRows v (called v f number) a b n
  other_rows n vals spent apart low goes amid rows =
      let able = call.able n vals spent low goes amid in
      let own = held_in v a m in
      rows_other v (called v f number) a b n m (OwnBefore own) (OwnAfter own) (OwnDuring own)
      (small m call.views.low) (small n low) apart (set.arrays m call.views.low).number (call.views.others n apart) set.lasting
      (call.acts own (spent_in (f m)) (λ y alive. alive) able)
      (kept_calm v.state v.number (gone_in v) a (v.arrays m).number amid.stood.log marked) rows

  -- where its values stay, what images leave of its own rows is to be shown
  abbrev pub OwnRows : Type 0
  OwnRows =
      ((was : ℕ → Values) → now was ≡ was) → (vals : ℕ → Values) (spent : ℕ → Bool) → is_failed (called v f number) m ≡ false → IncludesSpent (f m) spent
      → IsTrackedInCall v a m vals spent → LeavesRows v a m → KeepsRows v (called v f number) a b m

  -- and of an array that isn't called whatever it left where a member is lacking
  pub other_lacking : (n : ℕ) (vals : ℕ → Values) (spent : ℕ → Bool) → (n ≡ m → ⊥) → n < v.state.made → is_failed (called v f number) n ≡ false
      → IsTrackedInCall v a n vals spent → LeavesLacking v a n → KeepsLacking v (called v f number) a b n
  other_lacking n vals spent apart low goes amid leaves =
      let able = call.able n vals spent low goes amid in
      let own = held_in v a m in
      lacking_other v (called v f number) a b n m (OwnBefore own) (OwnAfter own) (OwnDuring own)
      (small m call.views.low) (small n low) apart (set.arrays m call.views.low).number (call.views.others n apart) set.lasting
      (call.acts own (spent_in (f m)) (λ y alive. alive) able)
      (kept_calm v.state v.number (gone_in v) a (v.arrays m).number amid.stood.log marked) leaves

  -- what they leave of its own is to be shown too
  abbrev pub OwnLacking : Type 0
  OwnLacking =
      (vals : ℕ → Values) (spent : ℕ → Bool) → is_failed (called v f number) m ≡ false → IncludesSpent (f m) spent
      → IsTrackedInCall v a m vals spent → LeavesLacking v a m → KeepsLacking v (called v f number) a b m

  pub one_brings : OwnRows → OwnLacking → ChangesData v (called v f number) a b (λ n vals. if n == m then now vals else vals)
  one_brings own_rows own_lacking =
      record {
        stays = call.goes.stays;
        set = views_set v f m a b set call.views number;
        book = after_same v.state;
        leaves = call.goes.leaves;
        number = call.later;
        events = (further v f m a b set call.views number call.later).events;
        sectors = views_sectors v f m a b set call.views;
        unwritten = one_unwritten;
        still = one_still;
        spent = λ n y low alive. views_spent v f m a b set call.views n y alive;
        parts = λ n vals spent joined low goes covers.
            let Goal : Bool → Type 0 = λ t. SubCall v (called v f number) a b n vals (if t then now vals else vals) spent in
            elim (cases_eq n m) [
              | inl same ↦
                  subst Goal (sym (eq-eqb n m same))
                  (subst (λ k. SubCall v (called v f number) a b k vals (now vals) spent) (sym same)
                  (own_part vals spent (subst (λ k. is_failed (called v f number) k ≡ false) same goes) (subst (λ k. IncludesSpent (f k) spent) same covers)))
              | inr apart ↦ subst Goal (sym (ne_eqb n m apart)) (other_part n vals spent apart low goes)
            ];
        rows = λ n vals spent unwritten joined low goes covers amid rows.
            elim (cases_eq n m) [
              | inl same ↦
                  subst (λ k. is_failed (called v f number) k ≡ false → IncludesSpent (f k) spent → IsTrackedInCall v a k vals spent → LeavesRows v a k → KeepsRows v (called v f number) a b k)
                  (sym same)
                  (own_rows (λ was. sym (ap (λ (t : Bool). if t then now was else was) (eq-eqb n m same)) ∙ unwritten was) vals spent) goes covers amid rows
              | inr apart ↦ other_rows n vals spent apart low goes amid rows
            ];
        lacking = λ n vals spent joined low goes covers amid leaves.
            elim (cases_eq n m) [
              | inl same ↦
                  subst (λ k. is_failed (called v f number) k ≡ false → IncludesSpent (f k) spent → IsTrackedInCall v a k vals spent → LeavesLacking v a k → KeepsLacking v (called v f number) a b k)
                  (sym same) (own_lacking vals spent) goes covers amid leaves
              | inr apart ↦ other_lacking n vals spent apart low goes amid leaves
            ];
      }

-- ---- what a commit needs

and_true : (c : Bool) → (c && true) ≡ c
and_true true = refl
and_true false = refl

pub may_commit : (v : Raid) (f : ℕ → View) (number m n : ℕ) (a b : RackView) (on : List ℕ) → IsSet v a → IsHeeded v → ViewsOne v f m a b → v.number ≤ number
    → on ≡ current_places v.state → n < v.state.made → is_failed (called v f number) n ≡ false → AreLive v.state.made a → LogInvariant v.state v.number (λ place. false) a
    → MayCommit v.state (v.arrays m) (f m) v.number on a
may_commit v f number m n a b on set heeded views later on_is below goes live log =
    let low = views.low in
    let before = over_still v (called v f number) (further v f m a b set views number later) n below goes in
    let some = someone_left (called v f number) n goes in
    record {
      renew = may_renew v a m n set heeded low live before;
      opened = opened v.state v.state.made m (v.arrays m) a (set.arrays m low) live low;
      steady = heeded_whole v m heeded (set.marked m low);
      log = log;
      room = let room = (number_room v n before).0 in omega (arith, room);
      places = λ p. ap (λ ps. names ps p) on_is ∙ names_current v.state p ∙ sym (and_true (is_current v.state p));
      someone = (some.0, some.1, gone_not (called v f number) some.0 m (current_few v.state some.0 set.few some.1) low some.2);
    }

-- ---- a write

pub record WriteCall (v : Raid) (f : ℕ → View) (number m : ℕ) (a b : RackView) (on : List ℕ) (sector : ℕ) (from : List ℕ) : Type 0 where
  pub heeded : IsHeeded v
  pub views : ViewsOne v f m a b
  pub loses : LosesOne v f m
  pub goes : Goes a b
  pub later : v.number ≤ number
  pub on_is : on ≡ current_places v.state
  pub few : (p : ℕ) → has_gone (f m) p ≡ true → p < 16
  pub writes :
      (vals : ℕ → Values) (spent : ℕ → Bool) → IncludesSpent (f m) spent → MayCommit v.state (v.arrays m) (f m) v.number on a
      → WritesArray v.state (v.arrays m) (f m) spent a b (shape_of (v.arrays m)) vals sector from
  -- where the array isn't whole, its truth stays
  pub truths :
      (vals : ℕ → Values) (spent : ℕ → Bool) → IncludesSpent (f m) spent → MayCommit v.state (v.arrays m) (f m) v.number on a → is_whole_array (v.arrays m) ≡ false
      → LeavesTruth v.state (v.arrays m).number (λ t. ⊥) (ArrayInvariant v.state (shape_of (v.arrays m)) (v.arrays m) vals spent a) a b
  pub kept : MayCommit v.state (v.arrays m) (f m) v.number on a → LogInvariant v.state number (has_gone (f m)) b
  pub elsewhere : KeepsElsewhere false (v.arrays m) on a b

module _ (v : Raid) (f : ℕ → View) (number m : ℕ) (a b : RackView) (on : List ℕ) (sector : ℕ) (from : List ℕ) (set : IsSet v a) (call : WriteCall v f number m a b on sector from) where
  write_acts : ActsOne v f number m a b (appended_at sector from) (shape_of (v.arrays m)) (MayCommit v.state (v.arrays m) (f m) v.number on a)
  write_acts = record {
    heeded = call.heeded;
    views = call.views;
    shape = call.loses.shape;
    grows = reach_same (is_current v.state) (shape_of (v.arrays m));
    noted = left_reach (called v f number) m (v.arrays m) b call.views.low call.views.seated call.loses.only;
    frame = geometry_frame (v.arrays m).truth (f m).truth call.loses.only.same.geometry;
    goes = call.goes;
    later = call.later;
    able = λ n vals spent below goes amid.
        may_commit v f number m n a b on set call.heeded call.views call.later call.on_is below goes amid.slices
        (subst (λ g. LogInvariant v.state v.number g a) (λ i p. heeded_gone v call.heeded p i) amid.stood.log);
    acts = λ vals spent covers given.
        acts_some v.state (v.arrays m) (f m) spent a b (shape_of (v.arrays m)) vals (appended_at sector from vals) (call.writes vals spent covers given);
    kept = λ given log.
        kept_more v.state number (has_gone (f m)) (gone_in (called v f number)) b
        (λ p is. gone_from (called v f number) p m (call.few p is) call.views.low is) (call.kept given);
    elsewhere = (on, λ p gone. ap (λ ps. names ps p) call.on_is ∙ names_current v.state p ∙ gone, call.elsewhere);
  }

  -- a value more isn't as before
  length_more : (xs ys : List (List ℕ)) → xs ≡ xs ++ ys → length ys ≡ 0
  length_more xs ys same = let sum = ap length same ∙ length-append xs ys in omega (arith, sum)

  longer : (h : Values) → append h from ≡ h → ⊥
  longer h same =
      let none = length_more h.older (h.current ∷ []) (sym (ap (λ (k : Values). k.older) same)) in
      absurd (omega (arith, none))

  -- no member of a whole array is lacking, and the truth of others stays
  write_lacking : (vals : ℕ → Values) (spent : ℕ → Bool) → is_failed (called v f number) m ≡ false → IncludesSpent (f m) spent
      → IsTrackedInCall v a m vals spent → LeavesLacking v a m → KeepsLacking v (called v f number) a b m
  write_lacking vals spent goes covers amid leaves =
      let now = appended_at sector from vals in
      let able = write_acts.able m vals spent call.views.low goes amid in
      let standing = (own_part v f number m a b (appended_at sector from) (shape_of (v.arrays m)) (MayCommit v.state (v.arrays m) (f m) v.number on a) set write_acts vals spent goes covers).holds amid in
      let writes = call.writes vals spent covers able in
      elim (cases_Bool (is_whole_array (v.arrays m))) [
        | inl whole ↦ whole_lacking v f number m a b vals now spent set call.heeded call.views.low amid standing writes whole leaves
        | inr part ↦
            left_lacking v f number m a b vals now spent set call.heeded call.views.low amid standing writes (λ t. ⊥)
            (call.truths vals spent covers able part) (λ t none. absurd none) leaves
      ]

  pub write_brings : ChangesData v (called v f number) a b (written_at m sector from)
  write_brings =
      one_brings v f number m a b (appended_at sector from) (shape_of (v.arrays m)) (MayCommit v.state (v.arrays m) (f m) v.number on a) set write_acts
      (λ same vals spent goes covers amid rows.
      absurd (longer (vals sector) (sym (ap (λ (t : Bool). if t then append (vals sector) from else vals sector) (eq-eqb sector sector refl)) ∙ ap (λ (h : ℕ → Values). h sector) (same vals))))
      write_lacking
