-- Parts of a call, as the log slices show them.
use Rattle.std.proofs.Common.{◌≡◌, ℕ, ◌≤◌, ◌<◌, Bool, true, false, List, [], Some, refl, sym, ap, subst, ◌∙◌, inl, arith}
use Rattle.std.proofs.lemmas.Option.{none-some}
use Rattle.rack.specs.Calls.{KeepsAll}
use Rattle.rack.specs.Seen.{Image, RackView, IsPick, SameRack}
use Rattle.rack.specs.Joins.{leaves_same, leaves_then, leaves_weaker}
use Rattle.rack.specs.Targets.{Target, look}
use Rattle.pool_state.specs.declared.contents.State.{State}
use Rattle.pool_state.specs.Sector.{decoded}
use Rattle.array_image.specs.Places.{log_slice}
use Rattle.array_image.specs.Record.{pending}
use Rattle.array_image.specs.States.{is_current, state_in}
use Rattle.array_image.specs.Arrays.{replayed}
use Rattle.array_image.specs.Left.{PendingOnlyFor, IsPendingOnlyFor, IsInside, Picks, deciding}
use Rattle.array_image.proofs.Frames.{state_same}
use Rattle.array_image.proofs.Replays.{replayed_as_is}
use Rattle.array_model.specs.ArrayCalls.{ImageInCall}
use Rattle.array_model.proofs.Keeping.{logs_of, pick_before}
use Rattle.array_model.proofs.Moves.{CallRefines as CallMoves}
use Rattle.array_model.proofs.Others.{state_apart}
use Rattle.log_laws.specs.Commits.{Stands}
use Rattle.log_laws.specs.Kept.{LogInvariant}
use Rattle.log_laws.specs.Saying.{CopiesIn, HoldsCopies, RecoversTo}
use Rattle.log_laws.specs.Standing.{LogsStand, StatesStand}
use Rattle.log_laws.proofs.Kept.{kept_idle, kept_state, live_after, live_on, stands_of}
use Rattle.log_laws.proofs.HeldCopies.{copies_same, held_copies, holds_keeps, kept_latest, kept_says, says_by}
use Rattle.raid_laws.specs.Book.{OnlyMarksSince, after_same, after_then}
use Rattle.raid_laws.specs.Logs.{KeepsLogs, LogsBetween, StandsSince}
use Rattle.raid_laws.specs.Since.{AreEach, HoldsEach, IsSince, IsTakenSince, KeepsEach, each_still, each_then}
use Rattle.raid_laws.proofs.Own.{look_nothing}
use Rattle.raid_laws.proofs.Since.{each_read}

-- a place that is left
abbrev pub HasSomeone : State → (ℕ → Bool) → Type 0
HasSomeone s gone = (place : ℕ) × (is_current s place ≡ true) × (gone place ≡ false)

-- contents that say a state say it between the same
pub between_same : (s : State) (sectors : ℕ → ℕ) (c : Image) → RecoversTo s sectors c → LogsBetween s s sectors c
between_same s sectors c says = record { state = s; later = after_same s; sooner = after_same s; says = says }

pub stands_same : (s : State) (c : Image) → state_in c ≡ Some s → StandsSince s c
stands_same s c here stood is = subst (OnlyMarksSince s) (some_state s stood (sym here ∙ is)) (after_same s)
  where
    some_state : (a b : State) → Some a ≡ Some b → a ≡ b
    some_state a b same = cc

-- where nothing is called
pub logs_still : (s : State) (x : RackView) → HoldsCopies s x → KeepsLogs s s x x
logs_still s x holds = record {
  leaves = λ traced. leaves_same x (λ c. IsInside x.sectors c → LogsBetween s s x.sectors c);
  stands = λ traced. leaves_same x (λ c. IsInside x.sectors c → StandsSince s c);
  holds = holds;
  since = λ base after held. each_still (IsSince base) x held;
  joining = λ new early next after held. each_still (IsTakenSince new early next) x held;
}

-- parts in a row
pub logs_then : (s t u : State) (a b c : RackView) → OnlyMarksSince s t → OnlyMarksSince t u → SameRack a b → KeepsLogs s t a b → KeepsLogs t u b c → KeepsLogs s u a c
logs_then s t u a b c first second stays one two = record {
  leaves = λ traced.
      leaves_then
      (λ i. IsInside a.sectors i → LogsBetween s u a.sectors i)
      (leaves_weaker
      (λ i. IsInside a.sectors i → LogsBetween s t a.sectors i)
      (λ i. IsInside a.sectors i → LogsBetween s u a.sectors i)
      (λ i says inside. let at = says inside in record { state = at.state; later = at.later; sooner = after_then at.state t u at.sooner second; says = at.says })
      (one.leaves traced))
      (leaves_weaker
      (λ i. IsInside b.sectors i → LogsBetween t u b.sectors i)
      (λ i. IsInside a.sectors i → LogsBetween s u a.sectors i)
      (λ i says inside.
      subst (λ (sectors : ℕ → ℕ). LogsBetween s u sectors i) (λ k d. stays.sectors d k)
      (let at = says (λ d t out. inside d t (subst (λ k. k ≤ t) (stays.sectors d) out)) in
      record { state = at.state; later = after_then s t at.state first at.later; sooner = at.sooner; says = at.says }))
      (two.leaves (stays.traced traced)));
  stands = λ traced.
      leaves_then (λ i. IsInside a.sectors i → StandsSince s i) (one.stands traced)
      (leaves_weaker (λ i. IsInside b.sectors i → StandsSince t i) (λ i. IsInside a.sectors i → StandsSince s i)
      (λ i says inside stood is. after_then s t stood first (says (λ d t out. inside d t (subst (λ k. k ≤ t) (stays.sectors d) out)) stood is))
      (two.stands (stays.traced traced)));
  holds = two.holds;
  since = λ base after held.
      let early = one.since base after held in
      each_then (IsSince base) a b c stays.sectors stays.traced early (two.since base (after_then base s t after first) early.holds);
  joining = λ new early next after held.
      let before = one.joining new early next after held in
      each_then (IsTakenSince new early next) a b c stays.sectors stays.traced before (two.joining new early next (after_then next s t after first) before.holds);
}

-- calls that bring no value
pub logs_read : (s : State) (number : ℕ) (gone : ℕ → Bool) (a b : RackView) → a.lasting → SameRack a b → KeepsAll a b
    → LogInvariant s number gone a → HasSomeone s gone → HoldsCopies s a → KeepsLogs s s a b
logs_read s number gone a b lasting stays keeps kept someone holds = record {
  leaves = λ traced.
      leaves_weaker (IsPick a b a.held) (λ c. IsInside a.sectors c → LogsBetween s s a.sectors c)
      (λ c pick inside.
      between_same s a.sectors c
      (kept_says s number gone a c someone.0 kept holds someone.1 someone.2 (stands_of c (pick_before lasting stays c inside pick))))
      (keeps.stops traced);
  stands = λ traced.
      leaves_weaker (IsPick a b a.held) (λ c. IsInside a.sectors c → StandsSince s c)
      (λ c pick inside. stands_same s c (kept_state s number gone a c someone.0 kept (logs_of c (pick_before lasting stays c inside pick)) someone.1 someone.2))
      (keeps.stops traced);
  holds = holds_keeps s a b lasting stays keeps holds;
  since = λ base after held. each_read (IsSince base) a b lasting stays keeps kept.logs held;
  joining = λ new early next after held. each_read (IsTakenSince new early next) a b lasting stays keeps kept.logs held;
}

-- where all current places are left, nothing is pending for other arrays
pub kept_calm : (s : State) (number : ℕ) (gone : ℕ → Bool) (x : RackView) (m : ℕ) → LogInvariant s number gone x
    → ((p : ℕ) → is_current s p ≡ true → gone p ≡ false) → PendingOnlyFor m x
kept_calm s number gone x m kept all c picks d t apart =
    ap (λ (xs : List Target). look xs d t) (kept_idle s number gone x c kept picks all) ∙ look_nothing d t

-- ---- a call of one array

module _ (s : State) (number : ℕ) (gone : ℕ → Bool) (n : ℕ) (a b : RackView) (H Q : Type 0) (P : Image → Type 0) (lasting : a.lasting)
    (all : (p : ℕ) → is_current s p ≡ true → gone p ≡ false) (moves : CallMoves n a b H P Q) (kept : LogInvariant s number gone a)
    (someone : HasSomeone s gone) (holds : HoldsCopies s a) where
  calm : PendingOnlyFor n a
  calm = kept_calm s number gone a n kept all

  -- no copy of a state is pending where an array's slices alone are
  none : (x : Image) (p : ℕ) (u : List ℕ) → IsPendingOnlyFor n x → look (pending (deciding x) x) (log_slice p) 0 ≡ Some u → ⊥
  none x p u calm is = none-some u (sym (calm (log_slice p) 0 (state_apart n p)) ∙ is)

  -- so copies stand as they are replayed
  as_is : (sectors : ℕ → ℕ) (x : Image) (p : ℕ) → IsPendingOnlyFor n x → replayed sectors x (log_slice p) 0 ≡ x (log_slice p) 0
  as_is sectors x p calm = replayed_as_is sectors x (log_slice p) 0 (calm (log_slice p) 0 (state_apart n p))

  replays_same : (c : Image) (turns : ImageInCall n a b (λ r. H → P r) c) (p : ℕ)
      → replayed a.sectors c (log_slice p) 0 ≡ replayed a.sectors turns.left.0 (log_slice p) 0
  replays_same c turns p = turns.others (log_slice p) 0 (state_apart n p) ∙ turns.left.2 (log_slice p) 0

  -- copies stand as a stop before the call might leave them
  copies_stand : (c : Image) (turns : ImageInCall n a b (λ r. H → P r) c) (p : ℕ) → c (log_slice p) 0 ≡ turns.left.0 (log_slice p) 0
  copies_stand c turns p =
      sym (as_is a.sectors c p (turns.calm calm)) ∙ replays_same c turns p ∙ as_is a.sectors turns.left.0 p (calm turns.left.0 (logs_of turns.left.0 turns.left.1))

  turned_stands : (c : Image) → ImageInCall n a b (λ r. H → P r) c → state_in c ≡ Some s
  turned_stands c turns =
      state_same c turns.left.0 (copies_stand c turns) ∙ kept_state s number gone a turns.left.0 someone.0 kept (logs_of turns.left.0 turns.left.1) someone.1 someone.2

  pub turned : (c : Image) → ImageInCall n a b (λ r. H → P r) c → RecoversTo s a.sectors c
  turned c turns =
      let e = turns.left.0 in
      let picks : Picks a e = turns.left.1 in
      let stand : Stands a e = stands_of e picks in
      let calm_now : IsPendingOnlyFor n c = turns.calm calm in
      let same : (p : ℕ) → replayed a.sectors c (log_slice p) 0 ≡ replayed a.sectors e (log_slice p) 0 = replays_same c turns in
      let stands : (p : ℕ) → c (log_slice p) 0 ≡ e (log_slice p) 0 = copies_stand c turns in
      let logs : LogsStand a e = record { picks = λ p t live. picks.picks (log_slice p) t live; inside = λ p t out. picks.inside (log_slice p) t out } in
      let copies = copies_same s a.sectors (replayed a.sectors c) (replayed a.sectors e) same (holds.copies e stand) in
      record {
        whole = turns.whole (kept.whole e stand);
        is_state = says_by s a.sectors (replayed a.sectors c) someone.0 copies (kept.few someone.0 someone.1) someone.1 (kept.there someone.0 someone.1 someone.2);
        copies = copies;
        stood = s;
        stood_is = turned_stands c turns;
        latest = λ p copy small is. kept_latest s number gone a e kept logs p copy small (ap decoded (sym (stands p)) ∙ is);
        next = inl refl;
        brings = λ p u is. absurd (none c p u calm_now is);
        inside = turns.bounded holds.inside;
      }

  -- copies stay such as they are
  pub each_call : (R : ℕ → List ℕ → Type 0) → HoldsEach R a → KeepsEach R a b
  each_call R held = record {
    leaves = λ traced.
        leaves_weaker (λ c. IsInside a.sectors c → ImageInCall n a b (λ r. H → P r) c) (λ c. IsInside a.sectors c → AreEach R a.sectors c)
        (λ c found inside p few there.
        let turns = found inside in
        subst (R p) (sym (copies_stand c turns p))
        (held p (turns.left.0 (log_slice p) 0) few there (turns.left.1.picks (log_slice p) 0 (kept.logs p 0 few there))))
        (moves.leaves traced);
    holds = λ p u few there may.
        let has : 0 < a.sectors (log_slice p) = subst (λ k. 0 < k) (moves.stays.sectors (log_slice p)) there in
        held p u few has ((moves.apart (log_slice p) 0 (live_on lasting moves.stays (kept.logs p 0 few has)) (state_apart n p)).within u may);
  }

  pub logs_call : KeepsLogs s s a b
  logs_call = record {
    leaves = λ traced.
        leaves_weaker (λ c. IsInside a.sectors c → ImageInCall n a b (λ r. H → P r) c) (λ c. IsInside a.sectors c → LogsBetween s s a.sectors c)
        (λ c turns inside. between_same s a.sectors c (turned c (turns inside)))
        (moves.leaves traced);
    stands = λ traced.
        leaves_weaker (λ c. IsInside a.sectors c → ImageInCall n a b (λ r. H → P r) c) (λ c. IsInside a.sectors c → StandsSince s c)
        (λ c turns inside. stands_same s c (turned_stands c (turns inside)))
        (moves.leaves traced);
    holds = record {
      copies = λ c stand.
          let stays = moves.stays in
          let sectors : b.sectors ≡ a.sectors = λ i d. stays.sectors d i in
          let held : StatesStand [] a c = record {
            picks = λ p live.
                let over = live_on lasting stays live in
                inl ((moves.apart (log_slice p) 0 over (state_apart n p)).within (c (log_slice p) 0) (stand.picks (log_slice p) 0 (live_after stays over)));
            inside = λ p empty. stand.inside p 0 (let size = stays.sectors (log_slice p) in omega (arith, empty, size));
          } in
          copies_same s b.sectors (replayed b.sectors c) c (λ p. as_is b.sectors c p (moves.calm calm c (logs_now c stand)))
          (subst (λ (k : ℕ → ℕ). CopiesIn s k c) (sym sectors) (held_copies s number gone a c kept all held));
      brings = λ c stand p u is. absurd (none c p u (moves.calm calm c stand) is);
      inside = moves.bounded holds.inside;
    };
    since = λ base after since. each_call (IsSince base) since;
    joining = λ new early next after since. each_call (IsTakenSince new early next) since;
  }
    where
      logs_now : (c : Image) → Stands b c → LogsStand b c
      logs_now c stand = record { picks = λ p t live. stand.picks (log_slice p) t live; inside = stand.inside }
