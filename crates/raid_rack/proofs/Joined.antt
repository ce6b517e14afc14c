-- The commit that makes a new drive one of the pool, seen from an array that stands: it gives its values at each moment, by the state before or
-- by one that has the drive, and stands after it.
use Rattle.std.proofs.Common.{◌≡◌, ◌≢◌, ℕ, ◌+◌, ◌-◌, ◌^◌, ◌<◌, ◌==◌, ◌&&◌, ◌||◌, not, Bool, true, false, if◌then◌else◌, List, [], length, None, unwrap_or, refl, sym, ap, subst, ◌∙◌, inl, inr, eq-eqb, arith}
use Rattle.std.specs.Option.{option_map_or}
use Rattle.std.proofs.lemmas.Bool.{and_from, both_ways, cases_Bool, cases_eq, ne_eqb}
use Rattle.rack.specs.Values.{Values}
use Rattle.rack.specs.Seen.{Image, RackView}
use Rattle.rack.specs.Targets.{Target, put}
use Rattle.md_super.specs.declared.superblock.Super.{Super}
use Rattle.pool_state.specs.declared.contents.Plan.{Plan}
use Rattle.pool_state.specs.declared.contents.State.{State}
use Rattle.shr_base.specs.Blocks.{bytes_at, number_at}
use Rattle.array_image.specs.Places.{data_sector, member_slice, super_sector}
use Rattle.array_image.specs.Record.{Gate, gate_of}
use Rattle.array_image.specs.States.{current_places, is_current}
use Rattle.array_image.specs.Supers.{is_super_of, only_if, super_in, super_of}
use Rattle.array_image.specs.Arrays.{place_with, replayed}
use Rattle.array_image.specs.Spent.{spent_by}
use Rattle.array_image.specs.Even.{AreEven}
use Rattle.array_image.specs.Held.{IsSynced, current_in}
use Rattle.array_image.specs.Left.{Picks}
use Rattle.array_image.specs.Marks.{lowered}
use Rattle.array_image.proofs.Frames.{super_of_sector}
use Rattle.array_image.proofs.Marked.{marked_super}
use Rattle.log_laws.specs.View.{LogView, names, next_number}
use Rattle.log_laws.specs.Standing.{IsAlike}
use Rattle.log_laws.specs.Kept.{AreLeft, CarriesState, BringsTo, LogInvariant, MayJoin, gone_but}
use Rattle.log_laws.proofs.Kept.{joined_decides, joined_ready, put_none}
use Rattle.array_model.specs.View.{View, may_vary, place_at, shape_of}
use Rattle.array_model.specs.ArrayCalls.{IncludesSpent}
use Rattle.array_model.specs.Says.{HasNoOthers, HoldsData}
use Rattle.array_model.proofs.Losses.{IsLosing}
use Rattle.array_model.proofs.Noting.{laid_out, unspent_then}
use Rattle.array_model.proofs.Spared.{IsLaidOut, lost_value}
use Rattle.raid_laws.specs.Enlisting.{IsNewLog, SaysBy, next_drive}
use Rattle.raid_laws.specs.Losses.{AddsCopies, has_other}
use Rattle.array_core.specs.Seats.{renewed}
use Rattle.raid_laws.specs.Marking.{Restates}
use Rattle.raid_laws.specs.Moves.{IsTrackedInCall, Mends}
use Rattle.log_laws.proofs.FirstGate.{closed_gate}
use Rattle.raid_laws.specs.Raid.{Raid, IsWritten, InvariantInCall, gone_in, is_failed}
use Rattle.raid_laws.specs.Settling.{state_after}
use Rattle.raid_laws.specs.Vacated.{FindsArray}
use Rattle.raid_laws.proofs.Added.{marks_bring, names_current}
use Rattle.raid_laws.proofs.Alike.{CountAlike, data_alike, settled_alike}
use Rattle.raid_laws.proofs.Brought.{copies_own}
use Rattle.raid_laws.proofs.Adding.{all_live, no_data, supers_calm, supers_inside}
use Rattle.raid_laws.proofs.Changed.{lowered_none}
use Rattle.raid_laws.proofs.Committed.{IsCommitBy, after_further, after_gone, after_set, commit_losing, next_later, raid_after, raised_more}
use Rattle.raid_rack.proofs.Enlisted.{enlisted_marked, listed}
use Rattle.raid_rack.proofs.Joining.{MayJoinPool, listed_alike, listed_heeded, listed_raid, lists_listed, was_current}
use Rattle.raid_laws.proofs.Marking.{MarksCall, NotesLost, commit_new, marks_stood, shape_after}
use Rattle.raid_laws.proofs.Losing.{only_gone}
use Rattle.raid_laws.proofs.Noted.{left_reach, live_later}
use Rattle.raid_laws.proofs.Others.{some_other}
use Rattle.raid_laws.proofs.Over.{member_left, number_room}
use Rattle.raid_rack.proofs.Renewed.{found_member, renewed_resync, renewed_truth}
use Rattle.raid_laws.proofs.Restated.{IsStaged, restates_by}
use Rattle.raid_laws.proofs.Staged.{none_gone, notes_lost, staged_array}
use Rattle.raid_laws.proofs.Whole.{heeded_gone}

-- there is no superblock where there is no sector
none_there : super_of [] ≡ None
unfolding bytes_at number_at
none_there = refl

module _ (place units : ℕ) (plan : Plan) (joining : ℕ → Bool) (v : Raid) (on takes gone : List ℕ) (l : LogView) (xs : List Target) (f : ℕ → View) (x y : RackView)
    (may : MayJoinPool place units plan joining v x) (commit : IsCommitBy (listed_raid place units plan joining v) [] takes on gone l xs f x y)
    (w : Raid) (z : RackView) (mends : Mends (raid_after (listed_raid place units plan joining v) [] (next_number l.number) f) w y z)
    (on_are : on ≡ current_places v.state) (new_log : IsNewLog place x) (other : has_other w.state place ≡ true)
    (n : ℕ) (vals : ℕ → Values) (spent : ℕ → Bool) (joined : n < v.state.joined) (low : n < v.state.made)
    (goes : is_failed w n ≡ false) (covers : IncludesSpent (w.arrays n) spent)
    (s : State) (before : ℕ → Bool) (finds : FindsArray s before place v x n vals spent) where
  abbrev u : Raid
  u = listed_raid place units plan joining v

  abbrev t : State
  t = state_after (listed_raid place units plan joining v) []

  abbrev m : Raid
  m = raid_after (listed_raid place units plan joining v) [] (next_number l.number) f

  small : n < 16
  small = let most = may.set.most in omega (arith, low, most)

  lists : (p : ℕ) → is_current (listed place units plan v.state) p ≡ ((p == place) || is_current v.state p)
  lists = (lists_listed place units plan v.state may.listed).current

  -- what it has as current, but for the place
  pub current_then : (p : ℕ) → is_current t p ≡ ((p == place) || is_current v.state p)
  current_then p = sym (ap (λ (q : State). is_current q p) (enlisted_marked place units plan v.state)) ∙ lists p

  number_same : (u.arrays n).number ≡ n
  number_same = (commit.marking.set.arrays n low).number

  -- ---- the drive that is left

  q : ℕ
  q = (some_other w.state place other).0

  now_q : is_current w.state q ≡ true
  unfolding q
  now_q = (some_other w.state place other).1

  away_q : q ≢ place
  unfolding q
  away_q = (some_other w.state place other).2

  listed_q : is_current v.state q ≡ true
  unfolding q
  listed_q =
      let at = some_other w.state place other in
      was_current place units plan joining v on takes gone l xs f x y may commit w z mends at.0 at.1 at.2

  was_q : is_current s q ≡ true
  was_q = finds.current q away_q ∙ listed_q

  then_q : is_current t q ≡ true
  then_q = mends.moves.book.current q now_q

  stays_q : names gone q ≡ false
  stays_q =
      elim (cases_Bool (names gone q)) [
        | inl is ↦
            absurd (both_ways (is_current w.state q)
            (mends.marked q (after_gone u [] takes gone l xs f x y commit n q low ∙ ap (λ b. gone_in u q || b) is ∙ or_true (gone_in u q))) now_q)
        | inr none ↦ none
      ]
    where
      or_true : (b : Bool) → (b || true) ≡ true
      or_true true = refl
      or_true false = refl

  -- ---- the commit

  m_goes : is_failed m n ≡ false
  m_goes = mends.moves.still n low goes

  room : (l.number < 2 ^ 63 - 1) × (v.state.epoch < 2 ^ 63 - 1)
  room =
      let ends = number_room w n goes in
      let number = ends.0 in
      let epoch = ends.1 in
      let first = (after_further u [] takes gone l xs f x y commit).epoch in
      let up = next_later l.number in
      let later = mends.moves.number in
      let after = mends.moves.book.epoch in
      (omega (arith, number, up, later), omega (arith, epoch, first, after))

  pub kept : LogInvariant s l.number before x
  kept = subst (λ k. LogInvariant s k before x) (sym commit.marking.number) finds.log

  pub on_current : (p : ℕ) → names on p ≡ is_current v.state p
  on_current p = ap (λ ps. names ps p) on_are ∙ names_current v.state p

  are_left : AreLeft s before on
  are_left p =
      on_current p
      ∙ elim (cases_eq p place) [
        | inl same ↦ ap (is_current v.state) same ∙ may.missing ∙ sym finds.out ∙ ap (λ k. is_current s k && not (before k)) (sym same)
        | inr away ↦
            sym (finds.current p away) ∙ sym (ap (λ b. is_current s p && not b) (finds.nobody p away) ∙ and_true (is_current s p))
      ]
    where
      and_true : (b : Bool) → (b && true) ≡ b
      and_true true = refl
      and_true false = refl

  pub joins_log : MayJoin l.number x place
  joins_log = record {
    few = let few = may.set.few in let listed_low = may.listed in omega (arith, few, listed_low);
    there = let size = may.log in omega (arith, size);
    numbered = λ block left. (record { is_open = false; number = 0 }, ap gate_of (new_log.gate block left) ∙ closed_gate, omega arith);
    closed = λ block gate left is.
        ap (λ o. option_map_or (λ (g : Gate). g.is_open) o false) (sym is ∙ ap gate_of (new_log.gate block left) ∙ closed_gate);
  }

  later_epoch : v.state.epoch < t.epoch
  later_epoch = raised_more v.state.epoch room.1

  pub epoch_up : s.epoch < t.epoch
  epoch_up = let up = later_epoch in let same = finds.epoch in omega (arith, up, same)

  -- a place of the new state is the new one, or was current
  was_then : (p : ℕ) → is_current t p ≡ true → p ≢ place → is_current v.state p ≡ true
  was_then p is away = sym (current_then p ∙ ap (λ b. b || is_current v.state p) (ne_eqb p place away)) ∙ is

  new_state : CarriesState (listed place units plan v.state) t l.added takes
  new_state =
      subst (CarriesState (listed place units plan v.state) t l.added) (sym commit.marking.on_is)
      (marks_bring (listed place units plan v.state) [] xs l.added room.1
      (subst (λ ps. AddsCopies t ps xs l.added) commit.marking.on_is commit.marking.copies)
      (supers_inside u [] takes l xs x commit.marking) (supers_calm u [] takes l xs x commit.marking))

  pub brings : BringsTo s t l.number x l.added on takes
  brings = record {
    current = λ p is.
        elim (cases_eq p place) [
          | inl same ↦ inr (subst (MayJoin l.number x) (sym same) joins_log)
          | inr away ↦ inl (finds.current p away ∙ was_then p is away)
        ];
    joins = λ p took out.
        elim (cases_eq p place) [
          | inl same ↦ subst (MayJoin l.number x) (sym same) joins_log
          | inr away ↦ absurd (both_ways (names on p) out (on_current p ∙ was_then p (new_state.left p took) away))
        ];
    left = new_state.left;
    more = commit.fewer;
    inside = new_state.inside;
    either = elim new_state.either [
      | inl same ↦ absurd (let e = ap (λ (k : State). k.epoch) same.0 in let up = later_epoch in omega (arith, e, up))
      | inr later ↦ inr (epoch_up, later.1, later.2, later.3)
    ];
  }

  pub marks_call : MarksCall s t before l on gone x y
  marks_call = record {
    commit = commit.call;
    takes = takes;
    brings = brings;
    are_left = are_left;
    none = no_data u [] takes l xs x commit.marking;
    ready = joined_ready s t before l on takes x q kept brings room.0 may.set.lasting (all_live u [] takes l xs x commit.marking finds.slices kept.logs) was_q (finds.nobody q away_q);
    decides = joined_decides s t l.number before l.added on takes gone x q kept brings are_left
        (and_from (names on q) (not (names gone q)) (on_current q ∙ listed_q) (ap not stays_q))
        then_q;
    place = q;
    was = was_q;
    left = finds.nobody q away_q;
    now = then_q;
    stays = stays_q;
    later = epoch_up;
    own = copies_own t takes xs l.added commit.marking.copies (supers_calm u [] takes l xs x commit.marking);
  }

  -- the drive that decides is another one
  pub call_away : marks_call.place ≢ place
  unfolding marks_call
  call_away = away_q

  -- ---- its superblocks

  -- its members count as they did before
  shape_alike : CountAlike (shape_of (v.arrays n)) (shape_of (u.arrays n))
  shape_alike = listed_alike place units plan joining v x may n low

  truth_same : (u.arrays n).truth ≡ (v.arrays n).truth
  truth_same = renewed_truth (joining n) place (next_drive v.state) (v.arrays n)

  resync_same : (u.arrays n).resync ≡ (v.arrays n).resync
  resync_same = renewed_resync (joining n) place (next_drive v.state) (v.arrays n)

  written : IsWritten (u.arrays n)
  written = of (joining n)
    where
      of : (b : Bool) → IsWritten (if b then renewed place (next_drive v.state) (v.arrays n) else v.arrays n)
      of true = finds.written
      of false = finds.written

  staged : IsStaged (listed place units plan v.state) t (gone_in u) (u.arrays n) l.added x n
  staged =
      staged_array u [] takes l xs x commit.marking n low
      (let some = member_left m n m_goes in
      let fewer = (after_further u [] takes gone l xs f x y commit).seats n low in omega (arith, some, fewer))
      written (settled_alike (shape_of (v.arrays n)) (shape_of (u.arrays n)) shape_alike n x.held finds.settled)

  -- the drive's slice has a superblock of the array only where it is a member of it
  alone : (c : Image) → Picks x c → HasNoOthers (u.arrays n) t (put x.sectors l.added c)
  alone c picks p current away =
      subst (λ k. super_in t (put x.sectors l.added c) k p ≡ None) (sym number_same)
      (elim (cases_eq p place) [
        | inl same ↦ subst (λ k. super_in t (put x.sectors l.added c) n k ≡ None) (sym same) (none_own (λ k inside here. away k inside (here ∙ sym same)))
        | inr apart ↦
            super_of_sector t (put x.sectors l.added c) c n p (put_none x.sectors l.added c (member_slice p n) super_sector (staged.no_other p away))
            ∙ marked_super (listed place units plan v.state) t (gone_in u) c n p staged.marks
            ∙ ap (λ k. only_if (is_super_of v.state.pool.0 v.state.extent k n p) (super_of (c (member_slice p n) super_sector))) (lists_listed place units plan v.state may.listed).drives
            ∙ finds.alone c p picks apart (was_then p current apart)
            (λ k inside here.
            away k (subst (λ (r : Super). k < r.raid_disks) (sym truth_same) inside) (ap (λ (r : Super). unwrap_or (place_with r.roles.items k) 16) truth_same ∙ here))
      ])
    where
      none_own : ((k : ℕ) → k < (u.arrays n).truth.raid_disks → place_at (u.arrays n) k ≡ place → ⊥) → super_in t (put x.sectors l.added c) n place ≡ None
      none_own not_member =
          elim (cases_Bool (joining n)) [
            | inl is ↦
                let at = found_member (v.arrays n) place (may.set.arrays n low).is_array (may.joins n low ∙ is) in
                absurd (not_member at.0 (subst (λ (r : Super). at.0 < r.raid_disks) (sym truth_same) at.1)
                (ap (λ (r : Super). unwrap_or (place_with r.roles.items at.0) 16) truth_same ∙ at.2))
            | inr none ↦
                let size : x.sectors (member_slice place n) ≡ 0 = may.members n low ∙ ap (λ (b : Bool). if b then (v.arrays n).truth.size + data_sector else 0) none in
                ap (λ block. only_if (is_super_of t.pool.0 t.extent (length t.drives.items) n place) (super_of block))
                (put_none x.sectors l.added c (member_slice place n) super_sector (staged.no_other place not_member) ∙ picks.inside (member_slice place n) super_sector (omega (arith, size)))
                ∙ ap (only_if (is_super_of t.pool.0 t.extent (length t.drives.items) n place)) none_there
          ]

  holds : HoldsData n (shape_of (u.arrays n)) (v.arrays n).resync vals spent x
  holds = data_alike (shape_of (v.arrays n)) (shape_of (u.arrays n)) shape_alike n (v.arrays n).resync vals spent x finds.members

  pub restates : Restates t (shape_of (u.arrays n)) false (u.arrays n) l.added x n
  restates =
      restates_by (listed place units plan v.state) t (gone_in u) (u.arrays n) l.added x n staged alone holds.open_left
      (subst (λ k. AreEven (shape_of (u.arrays n)) n k (current_in x.held)) (sym resync_same) holds.even)

  settled_now : IsSynced (shape_of (u.arrays n)) n x.held
  settled_now = staged.settled

  -- ---- after it

  pub notes : NotesLost (f n) (shape_of (u.arrays n)) (v.arrays n).resync false (u.arrays n) gone n
  notes = subst (λ k. NotesLost (f n) (shape_of (u.arrays n)) k false (u.arrays n) gone n) resync_same (notes_lost u [] takes gone l xs f x y commit n low written)

  losing : IsLosing (u.arrays n) (f n) (names gone)
  losing = commit_losing u [] takes gone l xs f x y commit n low

  pub stood_after : InvariantInCall t (shape_of (u.arrays n)) vals spent (gone_but before takes gone) m y n
  unfolding marks_call
  stood_after =
      let noted = shape_of (u.arrays n) in
      let vary = may_vary (v.arrays n) in
      let now = shape_after s t noted (v.arrays n).resync false vary (u.arrays n) vals spent before l on gone x y n small marks_call restates settled_now holds in
      marks_stood s t noted false (u.arrays n) vals spent before (v.arrays n).resync m l on gone x y n small refl joined finds.few restates settled_now holds notes
      (λ k alive.
      lost_value (names gone) noted n (v.arrays n).resync (current_in y.held) k
      (subst (λ j. IsLaidOut noted j) resync_same (laid_out (u.arrays n) (commit.marking.set.arrays n low).is_array)) now.even now.sized
      (subst (λ j. spent_by (lowered (names gone) noted) j k ≡ false) resync_same
      (unspent_then (u.arrays n) (f n) (names gone) losing k (mends.moves.spent n k low (covers k alive)))))
      kept marks_call

  pub amid_after : IsTrackedInCall m y n vals spent
  amid_after = record {
    durable = shape_of (u.arrays n);
    stood = subst (λ g. InvariantInCall t (shape_of (u.arrays n)) vals spent g m y n) (λ i p. gone_same p i) stood_after;
    slices = live_later v.state.made x y commit.call.stays may.set.lasting finds.slices;
    marked = λ are.
        let none : names gone ≡ (λ p. false) = λ i p. none_gone u [] takes gone l xs f x y commit n low are p i in
        sym (losing.shape ∙ ap (λ g. lowered g (shape_of (u.arrays n))) none ∙ lowered_none (shape_of (u.arrays n)));
    noted =
        left_reach m n (u.arrays n) y low ((after_set u [] takes gone l xs f x y commit).arrays n low)
        (only_gone (u.arrays n) (f n) gone (commit.marking.set.arrays n low).is_array (commit.arrays n low));
  }
    where
      took_none : (p : ℕ) → (before p && not (names takes p)) ≡ false
      took_none p = elim (cases_eq p place) [
        | inr away ↦ ap (λ b. b && not (names takes p)) (finds.nobody p away)
        | inl same ↦
            ap (λ b. before p && not b)
            (ap (λ ps. names ps p) commit.marking.on_is ∙ names_current t p ∙ current_then p ∙ ap (λ b. b || is_current v.state p) (eq-eqb p place same))
            ∙ and_false (before p)
      ]
        where
          and_false : (b : Bool) → (b && false) ≡ false
          and_false true = refl
          and_false false = refl

      gone_same : (p : ℕ) → gone_but before takes gone p ≡ gone_in m p
      gone_same p =
          ap (λ b. b || names gone p) (took_none p)
          ∙ sym (after_gone u [] takes gone l xs f x y commit n p low
          ∙ ap (λ b. b || names gone p) (heeded_gone u (listed_heeded place units plan joining v x may) p))

  -- contents with all targets say the array by the new state
  pub joined_new : (c before_c : Image) → Picks x before_c → IsAlike (replayed x.sectors c) (put x.sectors l.added before_c) → SaysBy t n vals spent (replayed x.sectors c)
  joined_new c before_c picks new =
      let now = commit_new s t (shape_of (u.arrays n)) false (u.arrays n) vals spent before (v.arrays n).resync l on gone x y n c before_c small marks_call restates settled_now holds kept picks new in
      record { is_state = now.0; shape = shape_of (u.arrays n); says = now.1 }
