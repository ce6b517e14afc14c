-- Calls of a rack of arrays that move no value, as calls of a rack.
use Rattle.std.specs.Prelude.{Result, OnOk, IfErr}
use Rattle.std.proofs.lemmas.Bool.{cases_eq, cases_lt, both_ways}
use Rattle.std.proofs.Common.{◌≡◌, ℕ, ◌<◌, ◌≤◌, Bool, true, false, ◌==◌, ◌&&◌, nat_lt, List, [], ◌∷◌, length, Ok, Err, refl, sym, ap, subst, ◌∙◌, inl, inr, lt-ltb, ne_eqb, if◌then◌else◌, arith}
use Rattle.rack.specs.declared.Gone.{Gone}
use Rattle.rack.specs.Values.{Values, Keeps, append}
use Rattle.rack.specs.Seen.{Held, RackView, Rose, appended}
use Rattle.rack.specs.Calls.{Reads, Syncs, Writes}
use Rattle.rack.proofs.Writing.{appended_elsewhere}
use Rattle.array_image.proofs.Sources.{held_single}
use Rattle.commit_log.proofs.Deciding.{names_first}
use Rattle.log_laws.proofs.HeldCopies.{kept_holds}
use Rattle.array_image.specs.States.{is_current}
use Rattle.array_image.specs.Arrays.{replayed}
use Rattle.array_core.specs.Seats.{gone}
use Rattle.array_model.specs.View.{View, shape_of, sectors_of as array_sectors}
use Rattle.array_model.specs.ArrayCalls.{appended_at}
use Rattle.raid_rack.specs.declared.arrays.Arrays.{Arrays}
use Rattle.raid_laws.specs.Raid.{Raid, is_failed, live_of, spent_of, held_in, StopsInside, raid_of}
use Rattle.raid_laws.specs.Acts.{RaidActs}
use Rattle.raid_laws.specs.Marking.{TiedBetween}
use Rattle.raid_laws.specs.Reach.{KeepsReach}
use Rattle.raid_laws.specs.Moves.{AreCaused, ChangesData, KeepsArrays, Mends, ChangesNoData, ReadsValue, SyncsOne, WritesOne, noted_at, written_at}
use Rattle.raid_laws.specs.Frames.{frame_of}
use Rattle.raid_laws.specs.Runs.{CrashInvariant, RaidRuns}
use Rattle.raid_laws.specs.Truths.{KeepsTruths}
use Rattle.raid_rack.specs.RaidRack.{IsFit, IsRunning, KeepsRack, raid_by}
use Rattle.raid_rack.specs.AllRuns.{Serves}
use Rattle.raid_rack.proofs.Ended.{none_past}
use Rattle.raid_laws.specs.Laws.{live_parts}
use Rattle.raid_laws.proofs.Moving.{brings_then, moves_bring}
use Rattle.raid_laws.proofs.Noted.{IsNoting, current_few, noted_brings}
use Rattle.raid_laws.proofs.Raid.{keeps_raid, reads_raid, refused_raid, stays_raid, syncs_raid, writes_raid}
use Rattle.raid_laws.proofs.Whole.{IsWholeCall, before_amid, brings_whole, ends_by, raid_acts, tied_reach}

pub whole_call : (a b : Arrays) (x y : RackView) (now : ℕ → (ℕ → Values) → ℕ → Values) → IsFit a x → IsFit b y → ChangesData (raid_by a) (raid_by b) x y now → StopsInside y
    → IsWholeCall (raid_by a) (raid_by b) x y (λ n. now n (held_in (raid_by a) x n))
whole_call a b x y now fit after brings inside =
    brings_whole (raid_by a) (raid_by b) x y now brings fit.heeded after.heeded inside (λ n past. none_past b n after.running.count past)

keeps_call : (a b : Arrays) (x y : RackView) → IsFit a x → IsFit b y → ChangesNoData (raid_by a) (raid_by b) x y → StopsInside y
    → IsWholeCall (raid_by a) (raid_by b) x y (held_in (raid_by a) x)
keeps_call a b x y fit after moves inside = whole_call a b x y (λ n vals. vals) fit after (moves_bring (raid_by a) (raid_by b) x y moves) inside

pub read_call : {r q : ℕ → ℕ} (a b : Arrays) (x y : RackView) (n s : ℕ) (into : List ℕ) (result : Result (Unit {0}) Gone)
    → IsFit a x → IsFit b y → StopsInside y → ReadsValue (raid_by a) (raid_by b) x y n s into
    → OnOk result (spent_of (raid_by b) n s ≡ false)
    → IfErr result (λ e. (e.disk ≡ n) × (spent_of (raid_by b) n s ≡ true) × Rose (r n) (q n))
    → ((m : ℕ) → r m ≤ q m)
    → Reads (raid_of (IsFit a x) r (raid_by a) x) (raid_of (IsFit b y) q (raid_by b) y) n s into result
read_call a b x y n s into result fit after inside reads served refused more =
    let v = raid_by a in
    let w = raid_by b in
    let call = keeps_call a b x y fit after reads.moves inside in
    reads_raid v w x y n s into result after more (raid_acts v w x y (held_in v x) call)
    (λ told alive.
    let goes = (live_parts w n s alive).0 in
    reads.value (held_in v x n) (spent_of w n) told.joined goes (λ z unspent. (live_parts w n z unspent).1) alive
    (before_amid v w x y (held_in v x) call n told goes))
    served refused

pub sync_call : {r : ℕ → ℕ} (a b : Arrays) (x y : RackView) (n : ℕ) → IsFit a x → IsFit b y → StopsInside y → SyncsOne (raid_by a) (raid_by b) x y n
    → Syncs (raid_of (IsFit a x) r (raid_by a) x) (raid_of (IsFit b y) r (raid_by b) y) n {X = Unit {0}} (Ok tt)
sync_call {r} a b x y n fit after inside syncs =
    let v = raid_by a in
    let w = raid_by b in
    let call = keeps_call a b x y fit after syncs.moves inside in
    syncs_raid v w x y n after (λ m. omega arith) (raid_acts v w x y (held_in v x) call)
    (λ z told alive.
    let goes = (live_parts w n z alive).0 in
    held_single (shape_of (w.arrays n)) n y.held z
    (syncs.settled (held_in v x n) (spent_of w n) told.joined goes (λ k unspent. (live_parts w n k unspent).1)
    (before_amid v w x y (held_in v x) call n told goes)))

-- the values after a write, as those of a rack
written_appended : (held : Held) (n s : ℕ) (from : List ℕ) (k z : ℕ) → written_at n s from k (held k) z ≡ appended held n s from k z
written_appended held n s from k z = of (k == n)
  where
    of : (b : Bool) → (if b then appended_at s from (held k) else held k) z ≡ (if b && (z == s) then append (held k z) from else held k z)
    of true = refl
    of false = refl

pub write_call : {r q : ℕ → ℕ} (a b : Arrays) (x y : RackView) (n s : ℕ) (from : List ℕ) (result : Result (Unit {0}) Gone)
    → IsFit a x → IsFit b y → StopsInside y → WritesOne (raid_by a) (raid_by b) x y n s from
    → OnOk result (spent_of (raid_by b) n s ≡ false)
    → IfErr result (λ e. (e.disk ≡ n) × (spent_of (raid_by b) n s ≡ true) × Rose (r n) (q n))
    → ((m : ℕ) → r m ≤ q m)
    → Writes (raid_of (IsFit a x) r (raid_by a) x) (raid_of (IsFit b y) q (raid_by b) y) n s from result
write_call {r} {q} a b x y n s from result fit after inside writes =
    by result
  where
    v : Raid
    v = raid_by a

    w : Raid
    w = raid_by b

    acts : RaidActs v w x y (appended (held_in v x) n s from)
    acts =
        subst (RaidActs v w x y) (λ i k z. written_appended (held_in v x) n s from k z i)
        (raid_acts v w x y (λ k. written_at n s from k (held_in v x k)) (whole_call a b x y (written_at n s from) fit after writes.brings inside))

    other : (m z : ℕ) → spent_of w n s ≡ true → live_of w m z → appended (held_in v x) n s from m z ≡ held_in v x m z
    other m z spent alive =
        appended_elsewhere (held_in v x) n s from m z
        (elim (cases_eq m n) [
          | inl disk ↦ inr (λ sector. both_ways (spent_of w m z) alive (ap (λ k. spent_of w k z) disk ∙ ap (spent_of w n) sector ∙ spent))
          | inr apart ↦ inl apart
        ])

    by : (result : Result (Unit {0}) Gone) → OnOk result (spent_of w n s ≡ false)
        → IfErr result (λ e. (e.disk ≡ n) × (spent_of w n s ≡ true) × Rose (r n) (q n)) → ((m : ℕ) → r m ≤ q m)
        → Writes (raid_of (IsFit a x) r v x) (raid_of (IsFit b y) q w y) n s from result
    by (Ok u) served refused more = writes_raid v w x y n s from u after more acts served
    by (Err e) served refused more =
        refused_raid v w x y n s from e refused.0 after more acts
        (λ m z told alive. subst (λ (h : Values). Keeps h (held_in w y m z)) (other m z refused.1 alive) (acts.held m z told alive))
        refused.1 refused.2

-- ---- a drive that its owner loses

pub lose_brings : (a b : Arrays) (place : ℕ) (x y : RackView) → IsRunning a x → is_current a.state place ≡ true
    → Mends (noted_at (place ∷ []) (raid_by a)) (raid_by b) x y → ChangesData (raid_by a) (raid_by b) x y (λ n vals. vals)
lose_brings a b place x y running current mends =
    let v = raid_by a in
    let lost = place ∷ [] in
    let noted = noted_at lost v in
    let f : ℕ → View = noted.arrays in
    let is : (n : ℕ) → n < v.state.made → f n ≡ gone lost (v.arrays n) =
    λ n low. ap (λ (t : Bool). if t then gone lost (v.arrays n) else v.arrays n) (lt-ltb n v.state.made low) in
    let noting : IsNoting lost v f = record {
      arrays = is;
      one = place;
      named = names_first place [];
      current = current;
      few = current_few a.state place running.set.few current;
    } in
    brings_then v noted (raid_by b) x x y (λ n vals. vals)
    (noted_brings lost v f x running.set noting (λ n. same_sectors (nat_lt n v.state.made) (v.arrays n))) mends.moves
  where
    same_sectors : (t : Bool) (u : View) → array_sectors (if t then gone (place ∷ []) u else u) ≡ array_sectors u
    same_sectors true u = refl
    same_sectors false u = refl

-- ---- a call that moves no value

pub brings_keep : {r : ℕ → ℕ} (a b : Arrays) (x y : RackView) → IsFit a x → IsFit b y → StopsInside y → ChangesData (raid_by a) (raid_by b) x y (λ n vals. vals)
    → KeepsRack (raid_of (IsFit a x) r (raid_by a) x) (raid_of (IsFit b y) r (raid_by b) y)
brings_keep a b x y fit after inside brings =
    let v = raid_by a in
    let w = raid_by b in
    let acts = raid_acts v w x y (held_in v x) (whole_call a b x y (λ n vals. vals) fit after brings inside) in
    record {
      stays = stays_raid v w x y (held_in v x) after (λ m. omega arith) acts;
      keeps = keeps_raid v w x y acts;
    }

pub moves_keep : {r : ℕ → ℕ} (a b : Arrays) (x y : RackView) → IsFit a x → IsFit b y → StopsInside y → ChangesNoData (raid_by a) (raid_by b) x y
    → KeepsRack (raid_of (IsFit a x) r (raid_by a) x) (raid_of (IsFit b y) r (raid_by b) y)
moves_keep a b x y fit after inside moves = brings_keep a b x y fit after inside (moves_bring (raid_by a) (raid_by b) x y moves)

pub lose_stays : {r : ℕ → ℕ} (a b : Arrays) (place : ℕ) (x y : RackView) → IsFit a x → IsFit b y → StopsInside y → is_current a.state place ≡ true
    → Mends (noted_at (place ∷ []) (raid_by a)) (raid_by b) x y → KeepsRack (raid_of (IsFit a x) r (raid_by a) x) (raid_of (IsFit b y) r (raid_by b) y)
lose_stays a b place x y fit after inside current mends = brings_keep a b x y fit after inside (lose_brings a b place x y fit.running current mends)

-- ---- what calls do to the book and to images

-- an array that isn't over is one of those that are made
made_by : (a b : Arrays) (n : ℕ) → length b.all.items ≡ b.state.made → b.state.made ≡ a.state.made → is_failed (raid_by b) n ≡ false → n < a.state.made
made_by a b n count same goes =
    elim (cases_lt n a.state.made) [
      | inl low ↦ low
      | inr past ↦ absurd (both_ways (is_failed (raid_by b) n) goes (none_past b n count (omega (arith, past, same))))
    ]

-- what stops in a call leave
pub moments_call : (a b : Arrays) (x y : RackView) (now : ℕ → (ℕ → Values) → ℕ → Values) → IsFit a x → IsFit b y → StopsInside y
    → ChangesData (raid_by a) (raid_by b) x y now → CrashInvariant (raid_by a) (raid_by b) x y
moments_call a b x y now fit after inside brings =
    let v = raid_by a in
    let w = raid_by b in
    let vals : Held = λ n. now n (held_in v x n) in
    let call = whole_call a b x y now fit after brings inside in
    record {
      still = call.still;
      told = (raid_acts v w x y vals call).told;
      images = λ n told goes traced.
          let all = brings.leaves traced in
          record {
            later = all.later;
            kept = all.kept;
            past = all.past;
            new = λ k c after until stopped.
                let at = (((call.parts n told.joined goes).leaves traced).new k c after until stopped
                (λ d t out. inside k c stopped d t (subst (λ i. i ≤ t) (sym (brings.stays.sectors d)) out))
                (before_amid v w x y vals call n told goes)).says in
                record {
                  state = at.state;
                  is_state = at.is_state;
                  later = at.later;
                  sooner = at.sooner;
                  shape = at.shape;
                  shape_is = at.says.shape_is;
                  is_sound = at.says.is_sound;
                };
          };
      logs = λ n told goes traced.
          let all = brings.leaves traced in
          let amid = before_amid v w x y vals call n told goes in
          let holds = kept_holds v.state v.number x (told.stood (call.still n goes)).log in
          record {
            later = all.later;
            kept = all.kept;
            past = all.past;
            new = λ k c after until stopped.
                (((call.parts n told.joined goes).logs holds amid).leaves traced).new k c after until stopped
                (λ d t out. inside k c stopped d t (subst (λ i. i ≤ t) (sym (brings.stays.sectors d)) out));
          };
      since = λ n base told goes after since.
          let holds = kept_holds v.state v.number x (told.stood (call.still n goes)).log in
          ((call.parts n told.joined goes).logs holds (before_amid v w x y vals call n told goes)).since base after since;
      framed = λ n told goes. ((call.parts n told.joined goes).frame (frame_of (v.arrays n).truth) refl (before_amid v w x y vals call n told goes)).after;
      frames = λ n told goes traced.
          let all = brings.leaves traced in
          let amid = before_amid v w x y vals call n told goes in
          record {
            later = all.later;
            kept = all.kept;
            past = all.past;
            new = λ k c after until stopped.
                (((call.parts n told.joined goes).frame (frame_of (v.arrays n).truth) refl amid).leaves traced).new k c after until stopped
                (λ d t out. inside k c stopped d t (subst (λ i. i ≤ t) (sym (brings.stays.sectors d)) out));
          };
      reach = λ n told goes traced.
          let all = brings.leaves traced in
          record {
            later = all.later;
            kept = all.kept;
            past = all.past;
            new = λ k c after until stopped s shape state is.
                tied_reach v w n (vals n) (spent_of w n) (replayed x.sectors c)
                (ends_by v w x y vals call (λ first last. TiedBetween v.state w.state first last n (vals n) (spent_of w n) (replayed x.sectors c)) n told goes
                (((call.parts n told.joined goes).leaves traced).new k c after until stopped
                (λ d t out. inside k c stopped d t (subst (λ i. i ≤ t) (sym (brings.stays.sectors d)) out))
                (before_amid v w x y vals call n told goes)))
                s shape state is;
          };
      reached = λ n told goes.
          ends_by v w x y vals call (KeepsReach w.state) n told goes ((call.parts n told.joined goes).reach (before_amid v w x y vals call n told goes));
      lacking = λ n told goes.
          brings.lacking n (held_in v x n) (spent_of w n) told.joined (made_by a b n after.running.count brings.book.same.made goes) goes
          (λ z unspent. (live_parts w n z unspent).1) (before_amid v w x y vals call n told goes);
    }

pub lose_moments : (a b : Arrays) (place : ℕ) (x y : RackView) → IsFit a x → IsFit b y → StopsInside y → is_current a.state place ≡ true
    → Mends (noted_at (place ∷ []) (raid_by a)) (raid_by b) x y → CrashInvariant (raid_by a) (raid_by b) x y
lose_moments a b place x y fit after inside current mends =
    moments_call a b x y (λ n vals. vals) fit after inside (lose_brings a b place x y fit.running current mends)

pub runs_call : (p q : ℕ → Bool) (a b : Arrays) (x y : RackView) (now : ℕ → (ℕ → Values) → ℕ → Values)
    → ((n : ℕ) → q n ≡ false → (p n ≡ false) × ((was : ℕ → Values) → now n was ≡ was)) → IsFit a x → IsFit b y → StopsInside y
    → ChangesData (raid_by a) (raid_by b) x y now → AreCaused (raid_by a) (raid_by b) x y → KeepsTruths (raid_by a) (raid_by b) x y
    → RaidRuns p q (raid_by a) (raid_by b) x y
runs_call p q a b x y now unwritten fit after inside brings cause truths =
    let v = raid_by a in
    let w = raid_by b in
    let vals : Held = λ n. now n (held_in v x n) in
    let call = whole_call a b x y now fit after brings inside in
    record {
      book = brings.book;
      number = brings.number;
      events = brings.events;
      sectors = brings.stays.sectors;
      faults = brings.stays.faults;
      traced = brings.stays.traced;
      disks = brings.stays.disks;
      told_below = brings.stays.told;
      unspent = brings.stays.spent;
      unwritten = brings.unwritten;
      caused = cause;
      truths = truths;
      written = λ n not. (unwritten n not).0;
      rows = λ n not told goes rows.
          brings.rows n (held_in v x n) (spent_of w n) (unwritten n not).1 told.joined (made_by a b n after.running.count brings.book.same.made goes) goes
          (λ z unspent. (live_parts w n z unspent).1) (before_amid v w x y vals call n told goes) rows;
      moments = moments_call a b x y now fit after inside brings;
    }

-- only the array that is written is noted so
pub flags_kept : (p q : ℕ → Bool) (m sector : ℕ) (from : List ℕ) → q m ≡ true → ((n : ℕ) → (n ≡ m → ⊥) → q n ≡ p n)
    → (n : ℕ) → q n ≡ false → (p n ≡ false) × ((was : ℕ → Values) → written_at m sector from n was ≡ was)
flags_kept p q m sector from noted others n not =
    let apart : n ≡ m → ⊥ = λ same. both_ways (q n) not (ap q same ∙ noted) in (
      sym (others n apart) ∙ not,
      λ was. ap (λ (t : Bool). if t then appended_at sector from was else was) (ne_eqb n m apart),
    )

pub runs_moves : (p : ℕ → Bool) (a b : Arrays) (x y : RackView) → IsFit a x → IsFit b y → StopsInside y → ChangesNoData (raid_by a) (raid_by b) x y → KeepsTruths (raid_by a) (raid_by b) x y
    → RaidRuns p p (raid_by a) (raid_by b) x y
runs_moves p a b x y fit after inside moves truths =
    runs_call p p a b x y (λ n vals. vals) (λ n not. (not, λ was. refl)) fit after inside (moves_bring (raid_by a) (raid_by b) x y moves) (record { left = moves.left; cause = moves.cause })
    truths

-- a call counts a refusal of its own array alone, and only of a spent sector
pub served_call : (v w : Raid) (f g : ℕ → ℕ) (disk sector : ℕ) → sector < array_sectors (v.arrays disk)
    → ((n : ℕ) → array_sectors (w.arrays n) ≡ array_sectors (v.arrays n)) → ((n y : ℕ) → live_of w n y → live_of v n y) → KeepsArrays v w → w.state.plan ≡ v.state.plan
    → ((n : ℕ) → (n ≡ disk → spent_of w disk sector ≡ false) → g n ≡ f n) → Serves v w f g
served_call v w f g disk sector inside sectors spent arrays plan uncounted =
    record {
      sectors = sectors;
      spent = spent;
      arrays = arrays;
      plan = plan;
      refused = λ n alive.
          uncounted n (λ same.
          subst (λ k. live_of w k sector) same
          (alive sector (subst (λ k. sector < k) (sym (sectors n)) (subst (λ m. sector < array_sectors (v.arrays m)) (sym same) inside))));
    }
