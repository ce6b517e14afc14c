-- What log slices say at each moment of a commit and after it: the state from before it, or the new one.
use Rattle.std.proofs.Common.{◌≡◌, ◌≢◌, ◌⊎◌, ℕ, ◌+◌, ◌-◌, ◌<◌, ◌^◌, ◌&&◌, Bool, true, false, not, nat_lt, List, [], Some, None, refl, sym, ap, subst, ◌∙◌, inl, inr, lt-ltb, arith}
use Rattle.std.specs.Option.{option_map_or}
use Rattle.std.proofs.lemmas.Bool.{and_from, and_parts, both_ways, cases_Bool, cond-true}
use Rattle.rack.specs.Joins.{leaves_weaker}
use Rattle.rack.specs.Moments.{Leaves}
use Rattle.rack.specs.Seen.{Image, RackView}
use Rattle.rack.specs.Targets.{Target, look, put}
use Rattle.pool_state.specs.declared.contents.State.{State}
use Rattle.pool_state.specs.Sector.{decoded}
use Rattle.array_image.specs.Left.{TargetsInside}
use Rattle.array_image.specs.Places.{log_slice}
use Rattle.array_image.specs.Record.{Gate, GateAt, gate_in, gate_sector, pending_at, pending}
use Rattle.array_image.specs.States.{state_in, is_current, current_places, id_of}
use Rattle.array_image.specs.Arrays.{replayed}
use Rattle.array_image.proofs.Frames.{state_same}
use Rattle.log_laws.specs.View.{LogView, names, next_number}
use Rattle.log_laws.specs.Standing.{IsInside, LogsStand, deciding, IsWhole, IsReady, SomeoneDecides}
use Rattle.log_laws.specs.Commits.{ImageInCommit, CommitCall, IsPendingNow, IsPendingYet, IsWritten, StandsMidway}
use Rattle.log_laws.specs.Kept.{IsCopyOf, IsNoLater, LogInvariant, AreLeft, BringsTo, MayJoin}
use Rattle.log_laws.specs.Saying.{AreOwnCopies, CopiesIn, HoldsCopies, PendingInstalls, KeepsDrives, PlaceJoins, PlaceStays, SaysReplaced, RecoversTo}
use Rattle.commit_log.proofs.Amid.{not_state, replayed_as, same_replayed}
use Rattle.log_laws.proofs.Copies.{state_by_copies}
use Rattle.log_laws.proofs.HeldCopies.{copies_same, kept_latest, logs_of, no_look, put_copies, says_by, states_of}
use Rattle.log_laws.proofs.Kept.{NoneLater, kept_replayed, kept_state, put_none, stands_latest}
use Rattle.log_laws.proofs.Places.{stays_apart}
use Rattle.commit_log.proofs.Restored.{put_there}

-- at each moment it is all or nothing, and the log slices are as they are midway
pub commit_moments : (l : LogView) (on lost : List ℕ) (a b : RackView) → CommitCall l on lost a b → a.traced → IsReady l on a → SomeoneDecides l.added on lost a
    → Leaves a b (λ c. IsInside a.sectors c → ImageInCommit l.added a c × StandsMidway l on a c)
commit_moments l on lost a b commit traced ready someone =
    let stops = commit.stops traced ready someone in
    let midway = commit.midway traced ready someone in
    record {
      later = stops.later;
      kept = stops.kept;
      past = stops.past;
      new = λ k c after until stopped inside. (stops.new k c after until stopped inside, midway.new k c after until stopped inside);
    }

-- for a sector that no target is for, nothing comes to be pending
pub midway_none : (l : LogView) (on : List ℕ) (a : RackView) (c : Image) (d t : ℕ) → StandsMidway l on a c → look l.added d t ≡ None
    → ((e : Image) → LogsStand a e → look (pending (deciding e) e) d t ≡ None) → look (pending (deciding c) c) d t ≡ None
unfolding look
midway_none l on a c d t mid none before = elim mid.pends [
  | inl yet ↦ ap (λ (xs : List Target). look xs d t) yet.same ∙ before yet.before (logs_of yet.before yet.stands)
  | inr (inl pends) ↦ ap (λ (xs : List Target). look xs d t) pends.all ∙ none
  | inr (inr done) ↦ ap (λ (xs : List Target). look xs d t) done.0
]

module _ (s t : State) (gone : ℕ → Bool) (l : LogView) (on takes : List ℕ) (a : RackView) (kept : LogInvariant s l.number gone a)
    (brings : BringsTo s t l.number a l.added on takes) (own : AreOwnCopies t l.added) (all : t ≡ s → (p : ℕ) → is_current s p ≡ true → gone p ≡ false)
    (are_left : AreLeft s gone on) (room : l.number < 2 ^ 63 - 1)
    (place : ℕ) (was : is_current s place ≡ true) (left : gone place ≡ false) (now : is_current t place ≡ true) where
  -- places of the commit that stay current do so with their drives
  on_stays : KeepsDrives s t on → (p : ℕ) → names on p ≡ true → is_current t p ≡ true → PlaceStays s t p
  on_stays drives p named current =
      record { was = (and_parts (is_current s p) (not (gone p)) (sym (are_left p) ∙ named)).0; now = current; drive = drives.ids p named }

  here_on : names on place ≡ true
  here_on = are_left place ∙ and_from (is_current s place) (not (gone place)) was (ap not left)

  few : place < 16
  few = kept.few place was

  there : 0 < a.sectors (log_slice place)
  there = kept.there place was left

  -- targets are for sectors that slices have
  abbrev AreInside : List Target → Type 0
  AreInside xs = (d u : ℕ) (v : List ℕ) → look xs d u ≡ Some v → u < a.sectors d

  next_is : next_number l.number ≡ l.number + 1
  next_is = cond-true (nat_lt l.number (2 ^ 63 - 1)) (l.number + 1) l.number (lt-ltb l.number (2 ^ 63 - 1) room)

  -- what was pending is so yet
  says_old : HoldsCopies s a → (c : Image) → IsPendingYet a c → IsWhole c → RecoversTo s a.sectors c
  says_old holds c yet whole =
      let logs = logs_of yet.before yet.stands in
      let copies =
      copies_same s a.sectors (replayed a.sectors c) (replayed a.sectors yet.before) (λ p. same_replayed a c yet.before (log_slice p) 0 yet.same (yet.copies p))
      (holds.copies yet.before yet.stands) in
      record {
        whole = whole;
        is_state = says_by s a.sectors (replayed a.sectors c) place copies few was there;
        copies = copies;
        stood = s;
        stood_is = state_same c yet.before yet.copies ∙ kept_state s l.number gone a yet.before place kept logs was left;
        latest = λ p copy small is. kept_latest s l.number gone a yet.before kept logs p copy small (ap decoded (sym (yet.copies p)) ∙ is);
        next = inl refl;
        brings = λ p u is. holds.brings yet.before logs p u (ap (λ (xs : List Target). look xs (log_slice p) 0) (sym yet.same) ∙ is);
        inside = λ d u v is. holds.inside yet.before logs d u v (ap (λ (xs : List Target). look xs d u) (sym yet.same) ∙ is);
      }

  module _ (c : Image) (mid : StandsMidway l on a c) where
    copies_put : CopiesIn t a.sectors (put a.sectors l.added c)
    copies_put = put_copies s t l.number gone on takes l.added a kept brings all c mid.states

    -- a place that joins had a gate of a lower number
    gate_lower : (p : ℕ) → names on p ≡ false → MayJoin l.number a p → (h : Gate) × (gate_in c p ≡ Some h) × (h.number < next_number l.number)
    gate_lower p other joins =
        let gate = joins.numbered (c (log_slice p) gate_sector) (mid.gates p other (kept.logs p gate_sector joins.few joins.there)) in
        let most = gate.2 in
        let next = next_is in (gate.0, gate.1, omega (arith, most, next))

    joins_lower : (p : ℕ) → is_current s p ≡ false → is_current t p ≡ true → (h : Gate) × (gate_in c p ≡ Some h) × (h.number < next_number l.number)
    joins_lower p former current = elim (brings.current p current) [
      | inl before ↦ absurd (both_ways (is_current s p) former before)
      | inr joins ↦ gate_lower p (are_left p ∙ ap (λ b. b && not (gone p)) former) joins
    ]

    joining_lower : KeepsDrives s t on → s.epoch < t.epoch → (p : ℕ) → PlaceJoins s t p
        → (h : Gate) × (gate_in c p ≡ Some h) × (h.number < next_number l.number)
    joining_lower drives up p joins = elim (cases_Bool (names on p)) [
      | inl named ↦ absurd (stays_apart s t p (on_stays drives p named joins.now) joins)
      | inr other ↦ gate_lower p other (brings.joins p taken other)
    ]
      where
        taken : names takes p ≡ true
        taken = elim brings.either [
          | inl same ↦ absurd (let e = ap (λ (u : State). u.epoch) same.0 in omega (arith, e, up))
          | inr later ↦ later.1 p joins.now
        ]

    -- where no place has a later copy, the place has the one that it had
    stood_copy : s.epoch < t.epoch → NoneLater s c → IsCopyOf s place (c (log_slice place) 0)
    stood_copy later latest = elim (mid.states.picks place (kept.logs place 0 few there)) [
      | inl held ↦ kept.copies.own place (c (log_slice place) 0) was left held
      | inr new ↦ absurd (not_new (latest place (record { state = t; own = place }) few (own place (c (log_slice place) 0) new)))
    ]
      where
        not_new : IsNoLater s (record { state = t; own = place }) → ⊥
        not_new (inl less) = omega (arith, later, less)
        not_new (inr same) = let epoch = ap (λ (u : State). u.epoch) same in omega (arith, later, epoch)

    -- the record that is pending
    module _ (pends : IsPendingNow l on c) where
      source_at : state_in c ≡ Some s → (g : GateAt) → pending_at (current_places s) c ≡ Some g → (names on g.place ≡ true) × (g.gate.number ≡ next_number l.number)
      source_at state g is = pends.source g (ap (λ o. pending_at (option_map_or current_places o []) c) state ∙ is)

      source_has : state_in c ≡ Some s → s.epoch < t.epoch → (g : GateAt) → pending_at (current_places s) c ≡ Some g
          → (is_current t g.place ≡ true) × ((u : List ℕ) × (look (pending (current_places s) c) (log_slice g.place) 0 ≡ Some u))
      source_has state up g is =
          let named = brings.more g.place (source_at state g is).0 in
          elim brings.either [
            | inl same ↦ absurd (let e = ap (λ (u : State). u.epoch) same.0 in omega (arith, e, up))
            | inr later ↦
                let new = later.2 g.place named in (
                  brings.left g.place named,
                  (
                    new.0,
                    ap (λ o. look (pending (option_map_or current_places o []) c) (log_slice g.place) 0) (sym state)
                        ∙ ap (λ (xs : List Target). look xs (log_slice g.place) 0) pends.all
                        ∙ new.1,
                  ),
                )
          ]

      source_lower : state_in c ≡ Some s → (g : GateAt) → pending_at (current_places s) c ≡ Some g → (p : ℕ)
          → (h : Gate) × (gate_in c p ≡ Some h) × (h.number < next_number l.number) → (h : Gate) × (gate_in c p ≡ Some h) × (h.number < g.gate.number)
      source_lower state g is p lower = (lower.0, lower.1, subst (λ n. lower.0.number < n) (sym (source_at state g is).1) lower.2)

      copies_new : CopiesIn t a.sectors (replayed a.sectors c)
      copies_new = copies_same t a.sectors (replayed a.sectors c) (put a.sectors l.added c) (λ p. replayed_as a c l.added (log_slice p) 0 pends.all) copies_put

      state_new : state_in (replayed a.sectors c) ≡ Some t
      state_new = says_by t a.sectors (replayed a.sectors c) place copies_new few now there

      own_new : AreOwnCopies t (pending (deciding c) c)
      own_new p u is = own p u (ap (λ (xs : List Target). look xs (log_slice p) 0) (sym pends.all) ∙ is)

      inside_new : AreInside l.added → TargetsInside a.sectors c
      inside_new fits d u v is = fits d u v (ap (λ (xs : List Target). look xs d u) (sym pends.all) ∙ is)

      -- it stands as it was yet, or says the new state already
      stood_new : ((state_in c ≡ Some s) × NoneLater s c) ⊎ ((state_in c ≡ Some t) × NoneLater t c)
      stood_new = stands_latest s t l.number gone on takes l.added a c place kept.logs kept.copies brings mid.states few there was left

      says_stood : IsWhole c → AreInside l.added → state_in c ≡ Some t → NoneLater t c → RecoversTo t a.sectors c
      says_stood whole fits stood latest =
          record {
            whole = whole;
            is_state = state_new;
            copies = copies_new;
            stood = t;
            stood_is = stood;
            latest = latest;
            next = inl refl;
            brings = own_new;
            inside = inside_new fits;
          }

      -- the record brings the new state
      brought : KeepsDrives s t on → state_in c ≡ Some s → NoneLater s c → (t ≡ s) ⊎ PendingInstalls s t c
      brought drives state latest =
          elim brings.either [
            | inl same ↦ inl same.0
            | inr later ↦ inr (record {
              later = later.0;
              pool = drives.pool;
              source = λ g is.
                  let has = source_has state later.0 g is in
                  (on_stays drives g.place (source_at state g is).0 has.0, has.1);
              joining = λ g p is joins. source_lower state g is p (joining_lower drives later.0 p joins);
              copy = (place, on_stays drives place here_on now, stood_copy later.0 latest);
            })
          ]

      says_new : KeepsDrives s t on → IsWhole c → AreInside l.added → RecoversTo t a.sectors c
      says_new drives whole fits =
          elim stood_new [
            | inr new ↦ says_stood whole fits new.0 new.1
            | inl old ↦
                record {
                  whole = whole;
                  is_state = state_new;
                  copies = copies_new;
                  stood = s;
                  stood_is = old.0;
                  latest = old.1;
                  next = brought drives old.0 old.1;
                  brings = own_new;
                  inside = inside_new fits;
                }
          ]

      -- and it gives a place another drive, which joins
      says_replaced : (q : ℕ) → place ≢ q → names on q ≡ false → MayJoin l.number a q → s.epoch < t.epoch → t.pool ≡ s.pool
          → ((p : ℕ) → p ≢ q → is_current s p ≡ true → is_current t p ≡ true → id_of t p ≡ id_of s p)
          → IsWhole c → AreInside l.added → RecoversTo t a.sectors c ⊎ SaysReplaced q s t a.sectors c
      says_replaced q away other joins up pool ids whole fits =
          elim stood_new [
            | inr new ↦ inl (says_stood whole fits new.0 new.1)
            | inl old ↦
                inr (record {
                  whole = whole;
                  is_state = state_new;
                  copies = copies_new;
                  stood_is = old.0;
                  latest = old.1;
                  next = record {
                    later = up;
                    pool = pool;
                    ids = ids;
                    source = λ g is.
                        let has = source_has old.0 up g is in
                        (λ same. both_ways (names on q) other (subst (λ p. names on p ≡ true) same (source_at old.0 g is).0), has.0, has.1);
                    gate = λ g is. source_lower old.0 g is q (gate_lower q other joins);
                    joining = λ g p is former current. source_lower old.0 g is p (joins_lower p former current);
                    copy = (place, away, was, now, stood_copy up old.1);
                  };
                  brings = own_new;
                  inside = inside_new fits;
                })
          ]

    -- nothing is pending, and all is written
    says_done : pending (deciding c) c ≡ [] → IsWritten l.added c → IsWhole c → RecoversTo t a.sectors c
    unfolding look
    says_done none writes whole =
        let same : (p : ℕ) → c (log_slice p) 0 ≡ put a.sectors l.added c (log_slice p) 0 =
        λ p. sym (put_there a.sectors l.added c (log_slice p) 0 (λ w is. writes (log_slice p) 0 w is)) in
        let here : CopiesIn t a.sectors c = copies_same t a.sectors c (put a.sectors l.added c) same copies_put in
        let copies : CopiesIn t a.sectors (replayed a.sectors c) =
        copies_same t a.sectors (replayed a.sectors c) c (λ p. replayed_as a c [] (log_slice p) 0 none ∙ put_none a.sectors [] c (log_slice p) 0 refl) here in
        record {
          whole = whole;
          is_state = says_by t a.sectors (replayed a.sectors c) place copies few now there;
          copies = copies;
          stood = t;
          stood_is = state_by_copies t c place here.others few (here.own place now there);
          latest = here.others;
          next = inl refl;
          brings = λ p u is. absurd (no_look (log_slice p) 0 u (ap (λ (xs : List Target). look xs (log_slice p) 0) (sym none) ∙ is));
          inside = λ d u v is. absurd (no_look d u v (ap (λ (xs : List Target). look xs d u) (sym none) ∙ is));
        }

    pub midway_says : HoldsCopies s a → KeepsDrives s t on → ImageInCommit l.added a c → AreInside l.added → RecoversTo s a.sectors c ⊎ RecoversTo t a.sectors c
    midway_says holds drives commits fits =
        let whole = commits.whole (kept.whole commits.before commits.stands) in
        elim mid.pends [
          | inl yet ↦ inl (says_old holds c yet whole)
          | inr (inl pends) ↦ inr (says_new pends drives whole fits)
          | inr (inr done) ↦ inr (says_done done.0 done.1 whole)
        ]

    -- Where they have the state from before it once replayed, what was pending is so yet.
    pub midway_yet : s.epoch < t.epoch → IsWhole c → state_in (replayed a.sectors c) ≡ Some s → IsPendingYet a c
    midway_yet up whole old = elim mid.pends [
      | inl yet ↦ yet
      | inr (inl pends) ↦ absurd (not_new (state_new pends))
      | inr (inr done) ↦ absurd (not_new (says_done done.0 done.1 whole).is_state)
    ]
      where
        not_new : state_in (replayed a.sectors c) ≡ Some t → ⊥
        not_new new = let same : s.epoch ≡ t.epoch = ap (λ o. option_map_or (λ (u : State). u.epoch) o 0) (sym old ∙ new) in omega (arith, same, up)

    -- Where the commit gives a place another drive: replayed, they have the state from before it, or they say the new one.
    pub midway_replaced : (q : ℕ) → place ≢ q → names on q ≡ false → MayJoin l.number a q → s.epoch < t.epoch → t.pool ≡ s.pool
        → ((p : ℕ) → p ≢ q → is_current s p ≡ true → is_current t p ≡ true → id_of t p ≡ id_of s p) → ImageInCommit l.added a c → AreInside l.added
        → (state_in (replayed a.sectors c) ≡ Some s) ⊎ (RecoversTo t a.sectors c ⊎ SaysReplaced q s t a.sectors c)
    midway_replaced q away other joins up pool ids commits fits =
        let whole = commits.whole (kept.whole commits.before commits.stands) in
        elim mid.pends [
          | inl yet ↦
              inl (state_same (replayed a.sectors c) (replayed a.sectors yet.before) (λ p. same_replayed a c yet.before (log_slice p) 0 yet.same (yet.copies p))
              ∙ kept_replayed s l.number gone a yet.before place kept yet.stands was left)
          | inr (inl pends) ↦ inr (says_replaced pends q away other joins up pool ids whole fits)
          | inr (inr done) ↦ inr (inl (says_done done.0 done.1 whole))
        ]

  -- At each moment of a commit the log slices say the state from before it or the new one.
  pub commit_says : HoldsCopies s a → KeepsDrives s t on → (lost : List ℕ) (b : RackView) → CommitCall l on lost a b → IsReady l on a → SomeoneDecides l.added on lost a → a.traced
      → Leaves a b (λ c. IsInside a.sectors c → RecoversTo s a.sectors c ⊎ RecoversTo t a.sectors c)
  commit_says holds drives lost b commit ready someone traced =
      leaves_weaker (λ c. IsInside a.sectors c → ImageInCommit l.added a c × StandsMidway l on a c)
      (λ c. IsInside a.sectors c → RecoversTo s a.sectors c ⊎ RecoversTo t a.sectors c)
      (λ c found inside. let both = found inside in midway_says c both.1 holds drives both.0 (λ d u v is. (ready.targets d u v is).sector))
      (commit_moments l on lost a b commit traced ready someone)

  -- And after it they hold the copies of the new one.
  pub commit_holds : (lost : List ℕ) (b : RackView) → CommitCall l on lost a b → IsReady l on a → SomeoneDecides l.added on lost a → HoldsCopies t b
  commit_holds lost b commit ready someone = record {
    copies = λ c stand.
        let done = commit.after ready someone c stand in
        subst (λ (n : ℕ → ℕ). CopiesIn t n (replayed n c)) (sym (λ i d. commit.stays.sectors d i))
        (copies_same t a.sectors (replayed a.sectors c) (put a.sectors l.added done.before) (λ p. done.all (log_slice p) 0 (not_state p))
        (put_copies s t l.number gone on takes l.added a kept brings all done.before (states_of l.added done.before (logs_of done.before done.stands))));
    brings = λ c stand p u is.
        elim (commit.rests ready someone c stand).targets [
          | inl none ↦ absurd (no_look (log_slice p) 0 u (ap (λ (xs : List Target). look xs (log_slice p) 0) (sym none) ∙ is))
          | inr rest ↦ own p u (ap (λ (xs : List Target). look xs (log_slice p) 0) (sym rest.1) ∙ is)
        ];
    inside = λ c stand d u v is.
        elim (commit.rests ready someone c stand).targets [
          | inl none ↦ absurd (no_look d u v (ap (λ (xs : List Target). look xs d u) (sym none) ∙ is))
          | inr rest ↦
              subst (λ k. u < k) (sym (commit.stays.sectors d)) (ready.targets d u v (ap (λ (xs : List Target). look xs d u) (sym rest.1) ∙ is)).sector
        ];
  }
