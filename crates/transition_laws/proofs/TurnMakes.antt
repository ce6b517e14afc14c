-- A call of one array that changes it makes that change of the book.
use Rattle.array_model.proofs.Keeping.{settled_kept}
use Rattle.transition_laws.proofs.ArraysFor.{members_for}
use Rattle.std.proofs.Common.{◌≡◌, ◌⊎◌, ℕ, ◌<◌, Bool, true, false, ◌==◌, if◌then◌else◌, List, ◌∷◌, refl, sym, ap, subst, ◌∙◌, inl, inr, eq-eqb, eqb-true, ne_eqb, ◌+◌, []}
use Rattle.std.proofs.lemmas.Bool.{both_ways, cases_Bool, cases_eq}
use Rattle.rack.specs.Values.{Values}
use Rattle.rack.specs.Seen.{Image, RackView, SameRack}
use Rattle.rack.specs.Moments.{Leaves}
use Rattle.rack.specs.Joins.{leaves_weaker}
use Rattle.pool_state.specs.declared.contents.State.{State}
use Rattle.array_image.specs.Arrays.{replayed}
use Rattle.array_image.specs.Left.{PendingOnlyFor, NothingPending, IsInside, IsLeft, Picks}
use Rattle.array_image.specs.Places.{member_slice, data_sector}
use Rattle.array_image.specs.States.{is_current}
use Rattle.array_image.proofs.Frames.{Agree}
use Rattle.log_laws.specs.Kept.{LogInvariant}
use Rattle.array_model.specs.ArrayCalls.{ImageInCall}
use Rattle.array_model.specs.View.{shape_of, View}
use Rattle.array_model.proofs.Moves.{CallRefines as CallMoves}
use Rattle.array_model.proofs.Others.{apart_left, other_apart, other_holds_all}
use Rattle.transition_laws.specs.Changes.{Change, changed, is_due, with_view}
use Rattle.transition_laws.specs.Holds.{HoldsBook, IsFrom, IsPromised, IsSameArrayAs, Promise, RestsArray, ShowsArray, spent_at, Stands, StandsArray, view_for}
use Rattle.transition_laws.specs.Makes.{Grows, Makes, Suits}
use Rattle.raid_laws.specs.Moves.{AreMarked}
use Rattle.raid_laws.specs.Raid.{gone_in, is_failed, Raid}
use Rattle.raid_laws.specs.Since.{AreEach, KeepsEach}
use Rattle.raid_laws.proofs.Logs.{each_call, kept_calm, logs_call, turned}
use Rattle.raid_laws.proofs.Noted.{live_later}
use Rattle.transition_laws.proofs.Shown.{leaves_both, rests_same}
use Rattle.transition_laws.proofs.Standing.{holds_of}
use Rattle.log_laws.proofs.Kept.{live_on}

-- What a call of array m, which makes `next` of it, owes: at each moment its slices show the array before it or after it, and then the run stands so.
pub record Turning (m : ℕ) (next : View) (v w : Raid) (p : Promise) (now : ℕ → ℕ → Values) (a b : RackView) : Type 1 where
  pub H : Type 0
  pub Q : Type 0
  pub P : Image → Type 0
  pub moves : CallMoves m a b H P Q
  pub kept : LogInvariant v.state w.number (gone_in w) b
  pub own : p.live m ≡ true → H × ((r : Image) → P r → ShowsArray v.state (v.arrays m) p m (now m) r ⊎ ShowsArray v.state next p m (now m) r)
  pub images : p.live m ≡ true → (r : Image) → IsLeft b r → RestsArray v.state next p m (now m) r
  pub array : p.live m ≡ true → StandsArray next (w.arrays m) m (now m) p b
  pub alike : p.live m ≡ true → AreMarked w → IsSameArrayAs next (w.arrays m)

pub record TurnsOne (xs : List Change) (m : ℕ) (next : View) (v w : Raid) (vals now : ℕ → ℕ → Values) (a b : RackView) : Type 1 where
  pub grows : Grows vals now
  pub values : (n : ℕ) → (n ≡ m → ⊥) → now n ≡ vals n
  pub few : m < 16
  pub low : m < v.state.made
  pub lasting : a.lasting
  pub stays : SameRack a b
  pub marked : AreMarked v
  pub others : (n : ℕ) → (n ≡ m → ⊥) → w.arrays n ≡ v.arrays n
  pub same : w.state ≡ v.state
  pub back : (p : Promise) → Suits p xs v → IsPromised p w → IsPromised p v
  pub someone : (n : ℕ) → is_failed w n ≡ false → (place : ℕ) × (is_current v.state place ≡ true) × (gone_in w place ≡ false)
  pub turning : (p : Promise) → Suits p xs v → IsPromised p w → Stands v v p vals a → Turning m next v w p now a b

module _ (xs : List Change) (m : ℕ) (next : View) (v w : Raid) (vals now : ℕ → ℕ → Values) (a b : RackView) (call : TurnsOne xs m next v w vals now a b)
    (p : Promise) (suits : Suits p xs v) (promised : IsPromised p w) (stands : Stands v v p vals a) where
  turn : Turning m next v w p now a b
  turn = call.turning p suits promised stands

  other_view : (n : ℕ) → (n ≡ m → ⊥) → (with_view v m next).arrays n ≡ v.arrays n
  other_view n apart = ap (λ (t : Bool). if t then next else v.arrays n) (ne_eqb n m apart)

  own_view : (with_view v m next).arrays m ≡ next
  own_view = ap (λ (t : Bool). if t then next else v.arrays m) (eq-eqb m m refl)

  other_rests : (n : ℕ) → (n ≡ m → ⊥) → p.live n ≡ true → n < v.state.made → (r e : Image) → IsLeft a e → Agree n r e → RestsArray v.state (v.arrays n) p n (now n) r
  other_rests n apart live low r e left agree =
      subst (λ z. RestsArray v.state (v.arrays n) p n z r) (sym (call.values n apart))
      (rests_same v.state (v.arrays n) p n (vals n) r (replayed a.sectors left.0) (λ place t. agree place t ∙ left.2 (member_slice place n) t) (stands.arrays n live low).book_number
      (stands.images left.0 left.1 n live low))

  -- by cases on the array
  each_array : (X : ℕ → Type 0) → (p.live m ≡ true → X m) → ((n : ℕ) → (n ≡ m → ⊥) → p.live n ≡ true → n < v.state.made → X n) → (n : ℕ) → p.live n ≡ true → n < v.state.made → X n
  each_array X own other n live low = elim (cases_eq n m) [
    | inl same ↦ subst X (sym same) (own (subst (λ k. p.live k ≡ true) same live))
    | inr apart ↦ other n apart live low
  ]

  moment : (c : Image) → ImageInCall m a b (λ r. turn.H → turn.P r) c → AreEach (IsFrom p.origin) a.sectors c
      → HoldsBook v p now a.sectors c ⊎ HoldsBook (with_view v m next) p now a.sectors c
  moment c turns since =
      let r : Image = replayed a.sectors c in
      let log = turned v.state v.number (gone_in v) m a b turn.H turn.Q turn.P call.lasting call.marked turn.moves stands.log stands.someone stands.copies c turns in
      let agree : (n : ℕ) → (n ≡ m → ⊥) → p.live n ≡ true → n < v.state.made → Agree n r turns.before =
      λ n apart live low place t. turns.others (member_slice place n) t (other_apart m n place t call.few (stands.arrays n live low).few apart) in
      let other : (n : ℕ) → (n ≡ m → ⊥) → p.live n ≡ true → n < v.state.made → ShowsArray v.state (v.arrays n) p n (now n) r =
      λ n apart live low. (other_rests n apart live low r turns.before turns.left (agree n apart live low)).shows in
      let new : (p.live m ≡ true → ShowsArray v.state next p m (now m) r) → HoldsBook (with_view v m next) p now a.sectors c =
      λ own. record {
        log = log;
        since = since;
        arrays = each_array (λ n. ShowsArray v.state ((with_view v m next).arrays n) p n (now n) r)
            (λ live. subst (λ z. ShowsArray v.state z p m (now m) r) (sym own_view) (own live))
            (λ n apart live low. subst (λ z. ShowsArray v.state z p n (now n) r) (sym (other_view n apart)) (other n apart live low));
      } in
      elim (cases_Bool (p.live m)) [
        | inr none ↦ inr (new (λ live. absurd (both_ways (p.live m) none live)))
        | inl live ↦
            let own = turn.own live in
            elim (own.1 r (turns.own own.0)) [
              | inl old ↦ inl (record { log = log; since = since; arrays = each_array (λ n. ShowsArray v.state (v.arrays n) p n (now n) r) (λ is. old) other })
              | inr made ↦ inr (new (λ is. made))
            ]
      ]

  since : KeepsEach (IsFrom p.origin) a b
  since = each_call v.state v.number (gone_in v) m a b turn.H turn.Q turn.P call.lasting call.marked turn.moves stands.log stands.someone stands.copies (IsFrom p.origin) stands.since

  pub turn_stops : a.traced → Leaves a b (λ c. IsInside a.sectors c → HoldsBook v p now a.sectors c ⊎ HoldsBook (with_view v m next) p now a.sectors c)
  turn_stops traced =
      let First : Image → Type 0 = λ c. IsInside a.sectors c → ImageInCall m a b (λ r. turn.H → turn.P r) c in
      let Second : Image → Type 0 = λ c. IsInside a.sectors c → AreEach (IsFrom p.origin) a.sectors c in
      leaves_weaker (λ c. First c × Second c) (λ c. IsInside a.sectors c → HoldsBook v p now a.sectors c ⊎ HoldsBook (with_view v m next) p now a.sectors c)
      (λ c both inside. moment c (both.0 inside) (both.1 inside)) (leaves_both First Second (turn.moves.leaves traced) (since.leaves traced))

  -- ---- after it

  calm : PendingOnlyFor m a
  calm = kept_calm v.state v.number (gone_in v) a m stands.log call.marked

  images_after : (c : Image) → Picks b c → (n : ℕ) → p.live n ≡ true → n < v.state.made → RestsArray v.state ((with_view v m next).arrays n) p n (now n) (replayed b.sectors c)
  images_after c picks =
      let left : IsLeft b (replayed b.sectors c) = (c, picks, λ d t. refl) in
      let at = apart_left m call.lasting call.stays turn.moves.apart calm (turn.moves.calm calm) (replayed b.sectors c) left in
      each_array (λ n. RestsArray v.state ((with_view v m next).arrays n) p n (now n) (replayed b.sectors c))
      (λ live. subst (λ z. RestsArray v.state z p m (now m) (replayed b.sectors c)) (sym own_view) (turn.images live (replayed b.sectors c) left))
      (λ n apart live low.
      subst (λ z. RestsArray v.state z p n (now n) (replayed b.sectors c)) (sym (other_view n apart))
      (other_rests n apart live low (replayed b.sectors c) at.0 at.1
      (λ place t. at.2 (member_slice place n) t (other_apart m n place t call.few (stands.arrays n live low).few apart))))

  -- an array of the run is that of the book where each of it is
  each_stands : (X : ℕ → View → View → Type 0) → (p.live m ≡ true → X m next (w.arrays m)) → ((n : ℕ) → p.live n ≡ true → n < v.state.made → (n ≡ m → ⊥) → X n (v.arrays n) (v.arrays n))
      → (n : ℕ) → p.live n ≡ true → n < v.state.made → X n ((with_view v m next).arrays n) (w.arrays n)
  each_stands X own other =
      each_array (λ n. X n ((with_view v m next).arrays n) (w.arrays n)) (λ live. subst (λ z. X m z (w.arrays m)) (sym own_view) (own live))
      (λ n apart live low.
      subst (λ z. X n z (w.arrays n)) (sym (other_view n apart)) (subst (X n (v.arrays n)) (sym (call.others n apart)) (other n live low apart)))

  other_stands : (n : ℕ) → p.live n ≡ true → n < v.state.made → (n ≡ m → ⊥) → StandsArray (v.arrays n) (v.arrays n) n (now n) p b
  other_stands n live low apart =
      let was = stands.arrays n live low in
      let holds =
      other_holds_all m (view_for p (v.arrays n)) call.few (subst (λ k. k < 16) (sym was.number) was.few) (λ is. apart (sym was.number ∙ is)) call.lasting call.stays turn.moves.apart calm
      (turn.moves.calm calm) v.state (shape_of (v.arrays n)) (vals n) (spent_at p n (v.arrays n)) (holds_of v v p vals a stands n live low) in
      subst (λ z. StandsArray (v.arrays n) (v.arrays n) n z p b) (sym (call.values n apart))
      (record {
        number = was.number;
        book_number = was.number;
        few = was.few;
        written = was.written;
        members = members_for v.state (shape_of (v.arrays n)) p (v.arrays n) n (vals n) (spent_at p n (v.arrays n)) b was.number holds;
        single = λ young.
            settled_kept a.held b.held (shape_of (v.arrays n)) n
            (λ k sector among counts.
            turn.moves.apart (member_slice k.place n) (data_sector + sector) (live_on call.lasting call.stays (was.members.open_left k sector among counts))
            (other_apart m n k.place (data_sector + sector) call.few was.few apart))
            (was.single young);
        closed = λ none. subst (λ k. NothingPending k b) was.number (holds.closed none);
        truth = was.truth;
        mark = was.mark;
        roles = was.roles;
        disks = was.disks;
        sectors = was.sectors;
      })

  pub turn_after : Stands (with_view v m next) w p now b
  turn_after = record {
    few = stands.few;
    one = stands.one;
    log = turn.kept;
    someone = call.someone p.one (promised.goes p.one promised.is_one (subst (λ (s : State). p.one < s.made) (sym call.same) stands.one));
    copies = (logs_call v.state v.number (gone_in v) m a b turn.H turn.Q turn.P call.lasting call.marked turn.moves stands.log stands.someone stands.copies).holds;
    since = since.holds;
    same = call.same;
    images = images_after;
    arrays = each_stands (λ n u z. StandsArray u z n (now n) p b) turn.array other_stands;
    alike = λ marked.
        each_stands (λ n u z. IsSameArrayAs u z) (λ live. turn.alike live marked) (λ n live low apart. record { shape = refl; frame = refl; resync = refl; young = refl });
    slices = live_later v.state.made a b call.stays call.lasting stands.slices;
  }

pub turn_makes : (x : Change) (m : ℕ) (next : View) (v w : Raid) (vals now : ℕ → ℕ → Values) (a b : RackView) → is_due x v → changed x v ≡ with_view v m next
    → TurnsOne (x ∷ []) m next v w vals now a b → Makes (x ∷ []) v v w vals now a b
turn_makes x m next v w vals now a b due book call = record {
  due = (due, tt);
  stays = call.stays;
  back = call.back;
  grows = call.grows;
  stops = λ p suits promised stands traced.
      subst (λ e. Leaves a b (λ c. IsInside a.sectors c → HoldsBook v p now a.sectors c ⊎ HoldsBook e p now a.sectors c)) (sym book)
      (turn_stops (x ∷ []) m next v w vals now a b call p suits promised stands traced);
  after = λ p suits promised stands. subst (λ e. Stands e w p now b) (sym book) (turn_after (x ∷ []) m next v w vals now a b call p suits promised stands);
}

pub same_view : (v : Raid) (m : ℕ) → v ≡ with_view v m (v.arrays m)
same_view v m = λ i. record { state = v.state; arrays = λ k. of k (k == m) refl i; number = v.number }
  where
    of : (k : ℕ) (t : Bool) → (k == m) ≡ t → v.arrays k ≡ (if t then v.arrays m else v.arrays k)
    of k true is = ap v.arrays (eqb-true k m is)
    of k false is = refl

-- and one that leaves it as it is, whatever it writes, none
pub act_makes : (m : ℕ) (v w : Raid) (vals now : ℕ → ℕ → Values) (a b : RackView) → TurnsOne [] m (v.arrays m) v w vals now a b → Makes [] v v w vals now a b
act_makes m v w vals now a b call = record {
  due = tt;
  stays = call.stays;
  back = call.back;
  grows = call.grows;
  stops = λ p suits promised stands traced.
      leaves_weaker (λ c. IsInside a.sectors c → HoldsBook v p now a.sectors c ⊎ HoldsBook v p now a.sectors c) (λ c. IsInside a.sectors c → HoldsBook v p now a.sectors c)
      (λ c either inside. elim (either inside) [ inl one ↦ one | inr other ↦ other ])
      (subst (λ e. Leaves a b (λ c. IsInside a.sectors c → HoldsBook v p now a.sectors c ⊎ HoldsBook e p now a.sectors c)) (sym (same_view v m))
      (turn_stops [] m (v.arrays m) v w vals now a b call p suits promised stands traced));
  after = λ p suits promised stands.
      subst (λ e. Stands e w p now b) (sym (same_view v m)) (turn_after [] m (v.arrays m) v w vals now a b call p suits promised stands);
}
