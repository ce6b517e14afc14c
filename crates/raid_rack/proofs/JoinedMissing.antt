-- The commit that makes a new drive one of the pool at a place whose drive is missing, seen from an array that stands: it gives its values at each moment, by
-- the state before or by one that has the drive, and stands after it.
use Rattle.std.proofs.Common.{◌≡◌, ◌⊎◌, ℕ, ◌≤◌, ◌<◌, ◌&&◌, ◌||◌, not, Bool, true, false, List, [], None, refl, sym, ap, subst, ◌∙◌, inl, inr, arith}
use Rattle.std.proofs.lemmas.Bool.{both_ways, cases_eq, ne_eqb}
use Rattle.rack.specs.Values.{MayLeave, Values}
use Rattle.rack.specs.Seen.{Image, RackView}
use Rattle.rack.specs.Joins.{leaves_then, leaves_weaker}
use Rattle.rack.specs.Moments.{Leaves}
use Rattle.rack.specs.Targets.{Target}
use Rattle.pool_state.specs.declared.contents.Plan.{Plan}
use Rattle.pool_state.specs.declared.contents.State.{State}
use Rattle.array_image.specs.Places.{log_slice, member_slice, place_of, super_sector}
use Rattle.array_image.specs.States.{current_places, is_current}
use Rattle.array_image.specs.Supers.{super_in}
use Rattle.array_image.specs.Arrays.{replayed}
use Rattle.array_image.specs.Held.{IsSynced}
use Rattle.array_image.specs.Left.{IsInside, LogsInside, Picks}
use Rattle.array_image.proofs.Frames.{super_of_sector}
use Rattle.log_laws.specs.View.{LogView, names, next_number}
use Rattle.log_laws.specs.Commits.{ImageInCommit}
use Rattle.log_laws.specs.Standing.{IsAlike}
use Rattle.log_laws.specs.Kept.{LogInvariant, gone_but}
use Rattle.log_laws.specs.Saying.{HoldsCopies, KeepsDrives, RecoversTo}
use Rattle.log_laws.proofs.Kept.{before_inside, stands_of}
use Rattle.array_model.specs.View.{View, shape_of}
use Rattle.array_model.specs.ArrayCalls.{IncludesSpent}
use Rattle.array_model.specs.Says.{HoldsData}
use Rattle.array_model.proofs.Losses.{data_of}
use Rattle.raid_laws.specs.Book.{after_same}
use Rattle.raid_laws.specs.Enlisting.{IsNewLog, JoinsPart, SaysBy, enlisted, next_drive}
use Rattle.raid_laws.specs.Frames.{Frame, HasFrame, KeepsFrame, frame_of}
use Rattle.raid_laws.specs.Laws.{stood_left}
use Rattle.raid_laws.specs.Logs.{LogsBetween}
use Rattle.raid_laws.specs.Losses.{has_other}
use Rattle.raid_laws.specs.Marking.{SaysBetween}
use Rattle.raid_laws.specs.Moves.{IsTrackedInCall, Mends}
use Rattle.raid_laws.specs.Raid.{Raid, gone_in, is_failed}
use Rattle.raid_laws.specs.Rows.{KeepsRows, LeavesRows, rows_then}
use Rattle.raid_laws.specs.Settling.{state_after}
use Rattle.raid_laws.specs.Since.{HoldsSince, HoldsTakenSince, IsJoinSince, IsTakenSince, KeepsJoinSince, KeepsTakenSince, each_then, each_weaker, taken_join}
use Rattle.raid_laws.specs.Vacated.{FindsArray}
use Rattle.raid_laws.proofs.Moving.{part_says}
use Rattle.raid_laws.proofs.Added.{names_current}
use Rattle.raid_laws.proofs.Committed.{IsCommitBy, raid_after}
use Rattle.raid_rack.proofs.Enlisted.{enlisted_marked}
use Rattle.raid_laws.proofs.Frames.{frame_then}
use Rattle.raid_rack.proofs.Joined.{amid_after, current_then, joined_new, marks_call, notes, restates, stood_after}
use Rattle.raid_rack.proofs.Joining.{MayJoinPool, listed_raid}
use Rattle.raid_laws.proofs.KeptDrives.{enlisted_drives}
use Rattle.raid_laws.proofs.MarkedRows.{marks_rows}
use Rattle.raid_laws.proofs.Marking.{MarksCall, alike_agree, alike_state, brings_joining, commit_each, frame_moment, logs_made, says_first}
use Rattle.raid_laws.proofs.Noted.{noted_clear}
use Rattle.raid_laws.proofs.Own.{says_same}
use Rattle.raid_laws.proofs.ReseatedLogs.{no_copy}
use Rattle.raid_rack.proofs.Renewed.{renewed_clear, renewed_truth}
use Rattle.raid_laws.proofs.Whole.{heeded_gone}

module _ (place units : ℕ) (plan : Plan) (joining : ℕ → Bool) (v : Raid) (on takes gone : List ℕ) (l : LogView) (xs : List Target) (f : ℕ → View) (x y : RackView)
    (may : MayJoinPool place units plan joining v x) (commit : IsCommitBy (listed_raid place units plan joining v) [] takes on gone l xs f x y)
    (w : Raid) (z : RackView) (mends : Mends (raid_after (listed_raid place units plan joining v) [] (next_number l.number) f) w y z)
    (on_are : on ≡ current_places v.state) (new_log : IsNewLog place x) (other : has_other w.state place ≡ true)
    (n : ℕ) (vals : ℕ → Values) (spent : ℕ → Bool) (joined : n < v.state.joined) (low : n < v.state.made)
    (goes : is_failed w n ≡ false) (covers : IncludesSpent (w.arrays n) spent)
    (amid : IsTrackedInCall v x n vals spent) (settled : IsSynced (shape_of (v.arrays n)) n x.held) where
  abbrev u : Raid
  u = listed_raid place units plan joining v

  abbrev t : State
  t = state_after (listed_raid place units plan joining v) []

  abbrev m : Raid
  m = raid_after (listed_raid place units plan joining v) [] (next_number l.number) f

  small : n < 16
  small = let most = may.set.most in omega (arith, low, most)

  nobody : (p : ℕ) → gone_in v p ≡ false
  nobody p = heeded_gone v may.heeded p

  finds : FindsArray v.state (gone_in v) place v x n vals spent
  finds = record {
    epoch = refl;
    pool = refl;
    ids = λ p away. refl;
    current = λ p away. refl;
    nobody = λ p away. nobody p;
    out = ap (λ b. b && not (gone_in v place)) may.missing;
    log = amid.stood.log;
    few = amid.stood.few;
    written = amid.stood.written;
    slices = amid.slices;
    members = subst (λ k. HoldsData k (shape_of (v.arrays n)) (v.arrays n).resync vals spent x) amid.stood.number (data_of amid.stood.holds.shape);
    settled = settled;
    alone = λ c p picks away current foreign.
        super_of_sector v.state c (replayed x.sectors c) n p (sym (amid.stood.log.quiet c (stands_of c picks) (member_slice p n) super_sector (nobody (place_of (member_slice p n)))))
        ∙ subst (λ k. super_in v.state (replayed x.sectors c) k p ≡ None) amid.stood.number
        (amid.stood.holds.alone (replayed x.sectors c) (c, picks, λ e i. refl) p current foreign);
  }

  after : IsTrackedInCall m y n vals spent
  after = amid_after place units plan joining v on takes gone l xs f x y may commit w z mends on_are new_log other n vals spent joined low goes covers v.state (gone_in v) finds

  -- by the state before it says what it said
  says_old : (c before : Image) → Picks x before → IsAlike (replayed x.sectors c) (replayed x.sectors before) → SaysBy v.state n vals spent (replayed x.sectors c)
  says_old c before picks old =
      let r : Image = replayed x.sectors c in
      let e : Image = replayed x.sectors before in
      let left = stood_left v.state amid.durable vals spent (gone_in v) v x n before amid.stood picks in
      record {
        is_state = alike_state r e old ∙ left.0;
        shape = amid.durable;
        says = says_same v.state n amid.durable vals spent r e (alike_agree n r e small old) left.1;
      }

  call : MarksCall v.state t (gone_in v) l on gone x y
  call = marks_call place units plan joining v on takes gone l xs f x y may commit w z mends on_are new_log other n vals spent joined low goes covers v.state (gone_in v) finds

  -- and the rows that are left are
  rows_after : LeavesRows v x n → KeepsRows v m x y n
  rows_after rows =
      let first = renewed_clear (joining n) place (next_drive v.state) (v.arrays n) in
      let second = noted_clear gone (u.arrays n) (f n) (commit.arrays n low) in
      marks_rows v.state t amid.durable (shape_of (u.arrays n)) (u.arrays n) vals spent (gone_in v) v m l on gone x y n small
      call
      (restates place units plan joining v on takes gone l xs f x y may commit w z mends on_are new_log other n vals spent joined low goes covers v.state (gone_in v) finds)
      amid.stood (gone_but (gone_in v) takes gone)
      (stood_after place units plan joining v on takes gone l xs f x y may commit w z mends on_are new_log other n vals spent joined low goes covers v.state (gone_in v) finds)
      (commit.marking.set.arrays n low).is_array first
      (record {
        resync = second.resync ∙ first.resync;
        young = second.young ∙ first.young;
        settled = λ young is. second.settled (first.young ∙ young) (first.settled young is);
      })
      rows

  -- ---- the copies of states

  kept : LogInvariant v.state l.number (gone_in v) x
  kept = subst (λ k. LogInvariant v.state k (gone_in v) x) (sym commit.marking.number) amid.stood.log

  drives : KeepsDrives v.state t on
  drives =
      subst (λ k. KeepsDrives v.state k on) (enlisted_marked place units plan v.state)
      (enlisted_drives place units plan v.state on (ap (λ ps. names ps place) on_are ∙ names_current v.state place ∙ may.missing))

  made : HoldsCopies v.state x
      → (x.traced → Leaves x y (λ c. IsInside x.sectors c → RecoversTo v.state x.sectors c ⊎ RecoversTo t x.sectors c)) × HoldsCopies t y
  made copies = logs_made v.state t (gone_in v) l on gone x y call drives kept copies

  -- the new drive has none
  joining_before : HoldsSince v.state x → HoldsTakenSince (λ p. false) v.state t x
  joining_before since p block few there left = record {
    own = λ old now. inl ((since p block few there left).own now);
    joins = λ copy how now is. elim (cases_eq p place) [
      | inl same ↦ absurd (no_copy block copy (new_log.state block (subst (λ q. MayLeave (x.held (log_slice q) 0) block) same left)) is)
      | inr away ↦
          absurd (both_ways (is_current v.state p) (elim how [ inl new ↦ absurd (both_ways false refl new) | inr past ↦ past ])
          (sym (current_then place units plan joining v on takes gone l xs f x y may commit w z mends on_are new_log other n vals spent joined low goes covers v.state (gone_in v) finds p
          ∙ ap (λ b. b || is_current v.state p) (ne_eqb p place away)) ∙ now))
    ];
    former = λ copy past was is. (since p block few there left).former copy past is;
  }

  -- and places are current by the state with it, and those after it, that get a copy
  joining_then : HoldsCopies v.state x → HoldsSince v.state x → KeepsJoinSince v.state (enlisted place units plan v.state) x z
  joining_then copies since =
      let none : ℕ → Bool = λ p. false in
      let first : KeepsTakenSince none v.state t x y =
      commit_each (IsTakenSince none v.state t) v.state t (gone_in v) l on gone x y call (brings_joining none v.state t t (after_same t)) kept.logs (joining_before since) in
      let later = (mends.moves.parts n vals spent joined low goes covers).logs (made copies).1 after in
      subst (λ (q : State). KeepsJoinSince v.state q x z) (sym (enlisted_marked place units plan v.state))
      (each_weaker (IsTakenSince none v.state t) (IsJoinSince v.state t) x z (taken_join v.state t)
      (each_then (IsTakenSince none v.state t) x y z commit.call.stays.sectors commit.call.stays.traced first (later.joining none v.state t (after_same t) first.holds)))

  abbrev Logs : Image → Type 0
  Logs c = IsInside x.sectors c → RecoversTo v.state x.sectors c ⊎ LogsBetween (enlisted place units plan v.state) w.state x.sectors c

  logs_then : HoldsCopies v.state x → x.traced → Leaves x z (λ c. Logs c)
  logs_then copies traced =
      let later = (mends.moves.parts n vals spent joined low goes covers).logs (made copies).1 after in
      let now : (c : Image) → LogsBetween t w.state x.sectors c → LogsBetween (enlisted place units plan v.state) w.state x.sectors c =
      λ c says. subst (λ (k : State). LogsBetween k w.state x.sectors c) (sym (enlisted_marked place units plan v.state)) says in
      leaves_then (λ c. Logs c)
      (leaves_weaker (λ c. IsInside x.sectors c → RecoversTo v.state x.sectors c ⊎ RecoversTo t x.sectors c) (λ c. Logs c)
      (λ c says inside. elim (says inside) [
        | inl old ↦ inl old
        | inr new ↦ inr (now c (record { state = t; later = after_same t; sooner = mends.moves.book; says = new }))
      ])
      ((made copies).0 traced))
      (leaves_weaker (λ c. IsInside y.sectors c → LogsBetween t w.state y.sectors c) (λ c. Logs c)
      (λ c says inside.
      inr (now c
      (subst (λ (sectors : ℕ → ℕ). LogsBetween t w.state sectors c) (λ k d. commit.call.stays.sectors d k)
      (says (λ d i out. inside d i (subst (λ k. k ≤ i) (commit.call.stays.sectors d) out))))))
      (later.leaves (commit.call.stays.traced traced)))

  -- ---- its frame

  truth_same : (u.arrays n).truth ≡ (v.arrays n).truth
  truth_same = renewed_truth (joining n) place (next_drive v.state) (v.arrays n)

  frame_part : (g : Frame) → frame_of (v.arrays n).truth ≡ g → KeepsFrame g n (w.arrays n) x z
  frame_part g before =
      let later = mends.moves.parts n vals spent joined low goes covers in
      let now : frame_of (u.arrays n).truth ≡ g = ap frame_of truth_same ∙ before in
      let truth : (f n).truth ≡ (u.arrays n).truth =
      (notes place units plan joining v on takes gone l xs f x y may commit w z mends on_are new_log other n vals spent joined low goes covers v.state (gone_in v) finds).truth in
      frame_then g n (m.arrays n) (w.arrays n) x y z commit.call.stays
      (record {
        leaves = λ traced.
            leaves_weaker (λ c. LogsInside x.sectors c → ImageInCommit l.added x c)
            (λ c. IsInside x.sectors c → HasFrame g n (replayed x.sectors c))
            (λ c commits inside.
            frame_moment g v.state t amid.durable (shape_of (u.arrays n)) false (u.arrays n) vals spent (gone_in v) v l on gone x y n c small call
            (restates place units plan joining v on takes gone l xs f x y may commit w z mends on_are new_log other n vals spent joined low goes covers v.state (gone_in v) finds)
            now before amid.stood inside (commits (λ p i out. inside (log_slice p) i out)))
            (commit.call.stops traced call.ready call.decides);
        after = ap frame_of truth ∙ now;
      })
      (later.frame g (ap frame_of truth ∙ now) after)

  pub joins_part : JoinsPart place units plan v w x z n vals spent
  joins_part =
      let later = mends.moves.parts n vals spent joined low goes covers in
      let Says : Image → Type 0 = λ c. IsInside x.sectors c
      → SaysBy v.state n vals spent (replayed x.sectors c) ⊎ SaysBetween (enlisted place units plan v.state) w.state n vals spent (replayed x.sectors c) in
      let as_enlisted : (r : Image) → SaysBetween t w.state n vals spent r → SaysBetween (enlisted place units plan v.state) w.state n vals spent r =
      λ r says. subst (λ (k : State). SaysBetween k w.state n vals spent r) (sym (enlisted_marked place units plan v.state)) says in
      record {
        leaves = λ traced.
            leaves_then Says
            (leaves_weaker (λ c. LogsInside x.sectors c → ImageInCommit l.added x c) Says
            (λ c commits inside.
            let found = commits (λ p i out. inside (log_slice p) i out) in
            let picks = before_inside l.added x c found.before inside found.stands found.either in
            elim found.either [
              | inl old ↦ inl (says_old c found.before picks old)
              | inr new ↦
                  inr (as_enlisted (replayed x.sectors c) (says_first t w.state n vals spent (replayed x.sectors c) mends.moves.book
                  (joined_new place units plan joining v on takes gone l xs f x y may commit w z mends on_are new_log other n vals spent joined low goes covers v.state (gone_in v) finds
                  c found.before picks new)))
            ])
            (commit.call.stops traced call.ready call.decides))
            (leaves_weaker (λ c. IsInside y.sectors c → IsTrackedInCall m y n vals spent → SaysBetween t w.state n vals spent (replayed y.sectors c)) Says
            (λ c says inside.
            inr (as_enlisted (replayed x.sectors c)
            (subst (λ (sectors : ℕ → ℕ). SaysBetween t w.state n vals spent (replayed sectors c)) (λ k d. commit.call.stays.sectors d k)
            (says (λ d i out. inside d i (subst (λ k. k ≤ i) (commit.call.stays.sectors d) out)) after))))
            (part_says m w y z n vals vals spent later (commit.call.stays.traced traced)));
        holds = later.holds after;
        rows = λ rows.
            let first = rows_after rows in
            rows_then v m w x y z n commit.call.stays.sectors commit.call.stays.traced first (mends.moves.rows n vals spent joined low goes covers after first.after);
        logs = logs_then;
        since = joining_then;
        frame = frame_part;
      }
