-- A commit that stages one change of the book makes it.
use Rattle.array_image.specs.Even.{AreEven}
use Rattle.transition_laws.proofs.ArraysFor.{shape_for, same_rows, single_lowered, array_for, losing_for, covers_for, IsLaid, laid_of}
use Rattle.std.proofs.Common.{◌≡◌, ◌⊎◌, ℕ, ◌+◌, ◌-◌, ◌^◌, ◌<◌, Bool, true, false, ◌&&◌, not, List, ◌∷◌, map, length, Some, refl, sym, ap, ap₂, subst, ◌∙◌, inl, inr, arith, ◌||◌, []}
use Rattle.std.proofs.lemmas.Bool.{and_from, cases_lt}
use Rattle.rack.specs.Values.{Values}
use Rattle.rack.specs.Seen.{Image, IsLive, RackView}
use Rattle.rack.specs.Moments.{Leaves}
use Rattle.rack.specs.Joins.{leaves_weaker}
use Rattle.rack.specs.Targets.{look, put}
use Rattle.md_super.specs.declared.superblock.Super.{Super}
use Rattle.pool_state.specs.declared.contents.State.{State}
use Rattle.array_image.specs.Arrays.{Member, replayed, Shape, value_by}
use Rattle.array_image.specs.Held.{current_in, IsSynced, Among}
use Rattle.array_image.specs.Left.{IsInside, IsLeft, LogsInside, Picks}
use Rattle.array_image.specs.Marks.{lower, lowered}
use Rattle.array_image.specs.Places.{data_sector, log_slice, member_slice}
use Rattle.array_image.specs.SoundArray.{first_unsynced, IsWrittenSuper}
use Rattle.array_image.specs.States.{is_current}
use Rattle.array_image.proofs.Frames.{Agree}
use Rattle.log_laws.specs.Commits.{ImageInCommit as AllOrNothing}
use Rattle.log_laws.specs.Kept.{LogInvariant}
use Rattle.log_laws.specs.Saying.{RecoversTo}
use Rattle.log_laws.specs.View.{LogView, names, next_number}
use Rattle.log_laws.proofs.Kept.{before_inside, joined_decides, joined_ready, joined_state, stands_of}
use Rattle.log_laws.proofs.KeptAfter.{joined_after}
use Rattle.array_model.specs.Says.{ShapeInvariant, IsEarlier, IsOpen, ImageShowsArray}
use Rattle.array_model.specs.View.{may_vary, shape_of}
use Rattle.array_model.proofs.Keeping.{even_kept, held_kept, inside_before, KeepsData, live_after, live_on, open_after, same_value, settled_kept}
use Rattle.array_model.proofs.Losses.{data_of, IsLosing, marked_holds, noted_holds}
use Rattle.array_model.proofs.Noting.{laid_out, unspent_then}
use Rattle.array_model.proofs.Spared.{lost_value}
use Rattle.transition_laws.specs.Changes.{Change, changed}
use Rattle.raid_laws.specs.Frames.{frame_of}
use Rattle.raid_laws.specs.Since.{AreEach, KeepsEach}
use Rattle.transition_laws.specs.Holds.{HoldsBook, HoldsMembers, IsFrom, IsPromised, IsSameArrayAs, is_sector, moved_to, has_sector, Promise, RestsArrays, spent_at, Stands, StandsArray, rows_for, view_for}
use Rattle.transition_laws.specs.Makes.{Makes, OwnsCopies, Suits}
use Rattle.raid_laws.specs.Moves.{AreMarked}
use Rattle.raid_laws.specs.Raid.{gone_in, is_failed, Raid}
use Rattle.transition_laws.specs.Stages.{Commits, Stages, StagesArray}
use Rattle.array_core.proofs.Stripped.{some_same}
use Rattle.raid_laws.proofs.Marking.{alike_agree, alike_state, closed_after, commit_each, copies_made, data_kept, logs_made, MarksCall, still_after}
use Rattle.raid_laws.proofs.Own.{says_same}
use Rattle.transition_laws.proofs.Shown.{spent_other, spent_same, leaves_both, members_of, rests_same, shape_with, shows_same, stands_shape, stands_state}

pub lowered_none : (shape : Shape) → lowered (λ p. false) shape ≡ shape
lowered_none shape = ap (λ (ms : List Member). record shape { members = ms }) (none shape.members)
  where
    none : (ms : List Member) → map (lower (λ p. false)) ms ≡ ms
    none [] = refl
    none (m ∷ ms) = ap (λ (rest : List Member). m ∷ rest) (none ms)

is_left_on : (named lost : Bool) → named ≡ true → lost ≡ false → (named && not lost) ≡ true
is_left_on named lost is none = and_from named (not lost) is (ap not none)

-- ---- the call of the commit

module _ (x : Change) (d v w : Raid) (vals : ℕ → ℕ → Values) (l : LogView) (on lost : List ℕ) (a b : RackView)
    (commit : Commits x d v w l on lost a b) (p : Promise) (promised : IsPromised p w) (stands : Stands d v p vals a) where
  made_later : (n : ℕ) → n < d.state.made → n < w.state.made
  made_later n low = subst (λ (s : State). n < s.made) (sym commit.state) (let more = commit.more in omega (arith, low, more))

  over : is_failed w p.one ≡ false
  over = promised.goes p.one promised.is_one (made_later p.one stands.one)

  rooms : (l.number < 2 ^ 63 - 1) × (d.state.epoch < 2 ^ 63 - 1)
  rooms = commit.room p.one over

  kept : LogInvariant d.state l.number (gone_in v) a
  kept = subst (λ k. LogInvariant d.state k (gone_in v) a) (sym commit.number) stands.log

  one : (q : ℕ) × (is_current d.state q ≡ true) × (gone_in v q ≡ false) × (is_current (changed x d).state q ≡ true) × (names lost q ≡ false)
  one = commit.someone p.one stands.one over

  live : (e u : ℕ) (y : List ℕ) → look l.added e u ≡ Some y → IsLive a a e u
  live = commit.live stands.slices kept.logs

  pub commit_called : MarksCall d.state (changed x d).state (gone_in v) l on lost a b
  commit_called = record {
    commit = commit.call;
    takes = commit.takes;
    brings = commit.brings rooms.1;
    are_left = commit.are_left;
    none = commit.none;
    ready = joined_ready d.state (changed x d).state (gone_in v) l on commit.takes a one.0 kept (commit.brings rooms.1) rooms.0 commit.lasting live one.1 one.2;
    decides = joined_decides d.state (changed x d).state l.number (gone_in v) l.added on commit.takes lost a one.0 kept (commit.brings rooms.1) commit.are_left
        (is_left_on (names on one.0) (names lost one.0) (commit.are_left one.0 ∙ ap₂ (λ c g. c && not g) one.1 one.2) one.4) one.3;
    place = one.0;
    was = one.1;
    left = one.2;
    now = one.3;
    stays = one.4;
    later = commit.later rooms.1;
    own = commit.own;
  }

-- ---- what it makes

module _ (x : Change) (d v w : Raid) (vals : ℕ → ℕ → Values) (l : LogView) (on lost : List ℕ) (a b : RackView)
    (commit : Commits x d v w l on lost a b) (p : Promise) (stages : Stages x d v w p vals l.added a b) (promised : IsPromised p w) (owned : OwnsCopies p (changed x d).state) (stands : Stands d v p vals a) where
  abbrev t : State
  t = (changed x d).state

  later : (n : ℕ) → n < d.state.made → n < w.state.made
  later n low = made_later x d v w vals l on lost a b commit p promised stands n low

  room : d.state.epoch < 2 ^ 63 - 1
  room = (rooms x d v w vals l on lost a b commit p promised stands).1

  log : LogInvariant d.state l.number (gone_in v) a
  log = kept x d v w vals l on lost a b commit p promised stands

  call : MarksCall d.state (changed x d).state (gone_in v) l on lost a b
  call = commit_called x d v w vals l on lost a b commit p promised stands

  stage : (n : ℕ) → p.live n ≡ true → n < d.state.made → StagesArray d.state (changed x d).state (d.arrays n) ((changed x d).arrays n) v p n (vals n) l.added a
  stage n is low = stages.old promised stands n is low

  small : (n : ℕ) → p.live n ≡ true → n < d.state.made → n < 16
  small n is low = (stands.arrays n is low).few

  -- contents from before it with its targets written show the changed book
  shows_new : (r before : Image) → Picks a before → ((n : ℕ) → n < 16 → Agree n r (put a.sectors l.added before)) → RestsArrays (changed x d) p vals r
  shows_new r before picks agree n is made = elim (cases_lt n d.state.made) [
    | inl low ↦
        rests_same (changed x d).state ((changed x d).arrays n) p n (vals n) r (put a.sectors l.added before) (agree n (small n is low)) (stage n is low).number
        ((stage n is low).shows before picks (stands.images before picks n is low))
    | inr high ↦
        let new = stages.new promised stands n is high made in
        rests_same (changed x d).state ((changed x d).arrays n) p n (vals n) r (put a.sectors l.added before) (agree n new.few) new.number (new.shows before picks)
  ]

  moment : (c : Image) → AreEach (IsFrom p.origin) a.sectors c → (RecoversTo d.state a.sectors c ⊎ RecoversTo (changed x d).state a.sectors c) → IsInside a.sectors c → AllOrNothing l.added a c
      → HoldsBook d p vals a.sectors c ⊎ HoldsBook (changed x d) p vals a.sectors c
  moment c since says inside commits =
      let before = commits.before in
      let picks = before_inside l.added a c before inside commits.stands commits.either in
      let r : Image = replayed a.sectors c in
      elim commits.either [
        | inl old ↦
            let state = alike_state r (replayed a.sectors before) old ∙ stands_state d v p vals a stands before picks in
            elim says [
              | inl log ↦ inl (record {
                log = log;
                since = since;
                arrays = λ n is low.
                    shows_same d.state (d.arrays n) p n (vals n) r (replayed a.sectors before) (alike_agree n r (replayed a.sectors before) (small n is low) old)
                    (stands.images before picks n is low).shows;
              })
              | inr log ↦ absurd (apart (some_same d.state t (sym state ∙ log.is_state)))
            ]
        | inr new ↦
            let state =
            alike_state r (put a.sectors l.added before) new
            ∙ joined_state d.state (changed x d).state l.number (gone_in v) on commit.takes l.added a before call.place log.logs log.copies (commit.brings room) (stands_of before picks)
            (log.few call.place call.was) (log.there call.place call.was call.left) call.was call.left call.now in
            elim says [
              | inl log ↦ absurd (apart (some_same d.state t (sym log.is_state ∙ state)))
              | inr log ↦ inr (record {
                log = log;
                since = since;
                arrays = λ n is low. (shows_new r before picks (λ n few. alike_agree n r (put a.sectors l.added before) few new) n is low).shows;
              })
            ]
      ]
    where
      apart : d.state ≡ t → ⊥
      apart same = let up = commit.later room in let e = ap (λ (s : State). s.epoch) same in omega (arith, up, e)

  since : KeepsEach (IsFrom p.origin) a b
  since = commit_each (IsFrom p.origin) d.state (changed x d).state (gone_in v) l on lost a b call owned log.logs stands.since

  pub stops : a.traced → Leaves a b (λ c. IsInside a.sectors c → HoldsBook d p vals a.sectors c ⊎ HoldsBook (changed x d) p vals a.sectors c)
  stops traced =
      let First : Image → Type 0 = λ c. LogsInside a.sectors c → AllOrNothing l.added a c in
      let Second : Image → Type 0 = λ c. IsInside a.sectors c → RecoversTo d.state a.sectors c ⊎ RecoversTo (changed x d).state a.sectors c in
      let Third : Image → Type 0 = λ c. IsInside a.sectors c → AreEach (IsFrom p.origin) a.sectors c in
      leaves_weaker (λ c. (First c × Second c) × Third c) (λ c. IsInside a.sectors c → HoldsBook d p vals a.sectors c ⊎ HoldsBook (changed x d) p vals a.sectors c)
      (λ c both inside. moment c (both.1 inside) (both.0.1 inside) inside (both.0.0 (λ place u out. inside (log_slice place) u out)))
      (leaves_both (λ c. First c × Second c) Third
      (leaves_both First Second (commit.call.stops traced call.ready call.decides)
      ((logs_made d.state (changed x d).state (gone_in v) l on lost a b call commit.drives log stands.copies).0 traced))
      (since.leaves traced))

  -- ---- after it

  images : (c : Image) → Picks b c → RestsArrays (changed x d) p vals (replayed b.sectors c)
  images c picks =
      let done = commit.call.after call.ready call.decides c (stands_of c picks) in
      let inside : IsInside a.sectors c = inside_before commit.call.stays c picks.inside in
      subst (λ (sectors : ℕ → ℕ). RestsArrays (changed x d) p vals (replayed sectors c)) (λ i e. sym (commit.call.stays.sectors e) i)
      (shows_new (replayed a.sectors c) done.before (before_inside l.added a c done.before inside done.stands (inr done.all))
      (λ n few. alike_agree n (replayed a.sectors c) (put a.sectors l.added done.before) few done.all))

  module _ (n : ℕ) (is : p.live n ≡ true) (low : n < d.state.made) where
    durable : Shape
    durable = shape_of (d.arrays n)

    held : ShapeInvariant d.state n (shape_of (d.arrays n)) (shape_of (v.arrays n)) (rows_for p (v.arrays n)) (may_vary (v.arrays n)) (vals n) (spent_at p n ((changed x d).arrays n)) a
    held =
        subst (λ (spent : ℕ → Bool). ShapeInvariant d.state n (shape_of (d.arrays n)) (shape_of (v.arrays n)) (rows_for p (v.arrays n)) (may_vary (v.arrays n)) (vals n) spent a)
        (spent_same p n (d.arrays n) ((changed x d).arrays n) (λ y. sym ((stands.arrays n is low).sectors y) ∙ (stage n is low).sectors y)) (stands_shape d v p vals a stands n is low)

    -- no member's data is written
    keeps : (shape : Shape) → IsOpen shape n a → KeepsData shape n a.held b.held
    keeps shape is_open = data_kept d.state (changed x d).state shape (gone_in v) l on lost a b n (small n is low) call is_open

    still : (c : Image) → Picks b c → (place sector : ℕ)
        → replayed b.sectors c (member_slice place n) (data_sector + sector) ≡ c (member_slice place n) (data_sector + sector)
    still c picks place sector = still_after d.state (changed x d).state (gone_in v) l on lost a b n place sector c (small n is low) call picks

    says : (r : Image) → IsLeft b r → ImageShowsArray (changed x d).state n (shape_of ((changed x d).arrays n)) (vals n) (spent_at p n ((changed x d).arrays n)) r
    says r left =
        says_same (changed x d).state n (shape_of ((changed x d).arrays n)) (vals n) (spent_at p n ((changed x d).arrays n)) r (replayed b.sectors left.0) (λ place u. left.2 _ u)
        (images left.0 left.1 n is (let more = commit.more in omega (arith, low, more))).shows.says

    -- the array as it holds before whoever went is noted
    whole : ShapeInvariant (changed x d).state n (shape_of ((changed x d).arrays n)) (shape_of (v.arrays n)) (rows_for p (v.arrays n)) (may_vary (v.arrays n)) (vals n) (spent_at p n ((changed x d).arrays n)) b
    whole = elim (stage n is low).shape [
      | inl same ↦
          let left = keeps (shape_of (v.arrays n)) held.open_left in
          let all = keeps (shape_of (d.arrays n)) held.open_slices in
          shape_with (changed x d).state n (shape_of ((changed x d).arrays n)) (shape_of (v.arrays n)) (rows_for p (v.arrays n)) (may_vary (v.arrays n)) (vals n) (spent_at p n ((changed x d).arrays n)) b
          (subst (λ (shape : Shape). HoldsMembers n shape (shape_of (v.arrays n)) (rows_for p (v.arrays n)) (may_vary (v.arrays n)) (vals n) (spent_at p n ((changed x d).arrays n)) b) (sym same)
          (record {
            open_slices = open_after commit.lasting commit.call.stays (shape_of (d.arrays n)) n held.open_slices;
            open_left = open_after commit.lasting commit.call.stays (shape_of (v.arrays n)) n held.open_left;
            still = λ c picks m sector among counts. still c picks m.place sector;
            within = λ y alive u now source. held.within y alive u (held_kept a.held b.held (shape_of (d.arrays n)) n y all u now) source;
            current = λ y alive. same_value a.held b.held (shape_of (v.arrays n)) n y left ∙ held.current y alive;
            sized = λ m sector among counts. ap length (left m sector among counts).current ∙ held.sized m sector among counts;
            even = even_kept a.held b.held (shape_of (v.arrays n)) n (rows_for p (v.arrays n)) left held.even;
            settled = λ steady. settled_kept a.held b.held (shape_of (v.arrays n)) n left (held.settled steady);
          }))
          says
      | inr settled ↦
          let noted = shape_of (v.arrays n) in
          let say : (r : Image) → IsLeft b r → ImageShowsArray (changed x d).state n (shape_of (v.arrays n)) (vals n) (spent_at p n ((changed x d).arrays n)) r =
          λ r left. subst (λ (shape : Shape). ImageShowsArray (changed x d).state n shape (vals n) (spent_at p n ((changed x d).arrays n)) r) settled.0 (says r left) in
          subst (λ (shape : Shape). ShapeInvariant (changed x d).state n shape (shape_of (v.arrays n)) (rows_for p (v.arrays n)) (may_vary (v.arrays n)) (vals n) (spent_at p n ((changed x d).arrays n)) b) (sym settled.0)
          (marked_holds (changed x d).state n (shape_of (v.arrays n)) (rows_for p (v.arrays n)) (may_vary (v.arrays n)) (vals n) (spent_at p n ((changed x d).arrays n)) a b (data_of held) settled.1 commit.lasting commit.call.stays
          (keeps (shape_of (v.arrays n)) held.open_left) (λ c picks m sector among counts. still c picks m.place sector)
          (λ r left. ((say r left).shape_is, (say r left).is_sound)))
    ]

    losing : IsLosing (v.arrays n) (w.arrays n) (names lost)
    losing = commit.losing n low

    -- no sector of the array is another one after it
    sectors : (y : ℕ) → has_sector (w.arrays n) y ≡ has_sector ((changed x d).arrays n) y
    sectors y = (λ i. is_sector (frame_of (losing.truth i)) (moved_to (losing.truth i)) (commit.young n low i) (first_unsynced (losing.truth i)) y) ∙ (stage n is low).sectors y

    value : (y : ℕ) → spent_at p n ((changed x d).arrays n) y ≡ false
        → value_by (lowered (names lost) (shape_of (v.arrays n))) (current_in b.held) n y ≡ value_by (shape_of (v.arrays n)) (current_in b.held) n y
    value y alive =
        let u = view_for p (v.arrays n) in
        let shape = shape_for p (v.arrays n) in
        subst (λ (sh : Shape). value_by (lowered (names lost) sh) (current_in b.held) n y ≡ value_by sh (current_in b.held) n y) shape
        (lost_value (names lost) (shape_of u) n (rows_for p (v.arrays n)) (current_in b.held) y (laid_out u (array_for p (v.arrays n) (commit.is_array n low)))
        (subst (λ (sh : Shape). AreEven sh n (rows_for p (v.arrays n)) (current_in b.held)) (sym shape) whole.even)
        (λ m sector among. whole.sized m sector (subst (λ (sh : Shape). Among m sh.members) shape among))
        (unspent_then u (view_for p (w.arrays n)) (names lost) (losing_for p (v.arrays n) (w.arrays n) (names lost) losing (commit.young n low)) y
        (covers_for p n (w.arrays n) (spent_at p n ((changed x d).arrays n)) (subst IsLaid (sym losing.truth) (laid_of (v.arrays n) (commit.is_array n low)))
        (λ z now. spent_other p n (w.arrays n) ((changed x d).arrays n) sectors z ∙ now)
        (λ z now. promised.covers n is (later n low) z (spent_other p n (w.arrays n) ((changed x d).arrays n) sectors z ∙ now)) y alive)))

    members : HoldsMembers n (shape_of ((changed x d).arrays n)) (shape_of (w.arrays n)) (rows_for p (w.arrays n)) (may_vary (w.arrays n)) (vals n) (spent_at p n ((changed x d).arrays n)) b
    members =
        let next = shape_of ((changed x d).arrays n) in
        let u = v.arrays n in
        let noted =
        members_of (changed x d).state n next (lowered (names lost) (shape_of u)) (rows_for p u) (may_vary u) (vals n) (spent_at p n ((changed x d).arrays n)) b
        (noted_holds (changed x d).state n next (shape_of u) (rows_for p u) (may_vary u) (vals n) (spent_at p n ((changed x d).arrays n)) (spent_at p n ((changed x d).arrays n)) b (names lost) whole (λ y alive. alive) value) in
        subst (λ k. HoldsMembers n (shape_of ((changed x d).arrays n)) (shape_of (w.arrays n)) k (may_vary (w.arrays n)) (vals n) (spent_at p n ((changed x d).arrays n)) b) (sym (same_rows p (v.arrays n) (w.arrays n) (ap first_unsynced losing.truth) losing.resync (commit.young n low)))
        (subst (λ (shape : Shape). HoldsMembers n (shape_of ((changed x d).arrays n)) shape (rows_for p (v.arrays n)) (may_vary (w.arrays n)) (vals n) (spent_at p n ((changed x d).arrays n)) b) (sym losing.shape)
        (record {
          open_slices = noted.open_slices;
          open_left = noted.open_left;
          still = noted.still;
          within = noted.within;
          current = noted.current;
          sized = noted.sized;
          even = noted.even;
          settled = λ steady. noted.settled (losing.vary steady);
        }))

    array_after : StandsArray ((changed x d).arrays n) (w.arrays n) n (vals n) p b
    array_after =
        let at = stands.arrays n is low in
        let now = stage n is low in
        record {
          number = losing.number ∙ at.number;
          book_number = now.number;
          few = at.few;
          written = subst (λ k. IsWrittenSuper k (w.arrays n).truth) (sym losing.number) (subst (IsWrittenSuper (v.arrays n).number) (sym losing.truth) at.written);
          members = members;
          single = λ young.
              let left = (stands_shape d v p vals a stands n is low).open_left in
              subst (λ (sh : Shape). IsSynced sh n b.held) (sym losing.shape)
              (single_lowered (names lost) (shape_of (v.arrays n)) n b.held
              (settled_kept a.held b.held (shape_of (v.arrays n)) n (keeps (shape_of (v.arrays n)) left) (at.single (ap (λ y. p.growing && y) (sym (commit.young n low)) ∙ young))));
          closed = λ none. closed_after d.state (changed x d).state (gone_in v) l on lost a b n call (commit.fresh n low none);
          truth = subst (IsEarlier ((changed x d).arrays n).truth) (sym losing.truth) now.truth;
          mark = λ marked. now.mark (losing.marked marked);
          roles = ap (λ (u : Super). u.roles.items) losing.truth ∙ now.roles;
          disks = ap (λ (u : Super). u.raid_disks) losing.truth ∙ now.disks;
          sectors = sectors;
        }

    alike_after : AreMarked w → IsSameArrayAs ((changed x d).arrays n) (w.arrays n)
    alike_after marked =
        let both = commit.marked n low marked in
        let one = (stage n is low).same both.0 in
        let nobody : names lost ≡ (λ q. false) = λ i q. both.1 q i in
        record {
          shape = losing.shape ∙ ap (λ g. lowered g (shape_of (v.arrays n))) nobody ∙ lowered_none (shape_of (v.arrays n)) ∙ one.shape;
          frame = ap frame_of losing.truth ∙ one.frame;
          resync = losing.resync ∙ one.resync;
          young = commit.young n low ∙ one.young;
        }

  pub after : Stands (changed x d) w p vals b
  after = record {
    few = commit.few stands.few;
    one = let low = stands.one in let more = commit.more in omega (arith, low, more);
    log = subst (λ k. LogInvariant (changed x d).state k (gone_in w) b) (sym commit.number_after)
        (subst (λ g. LogInvariant (changed x d).state (next_number l.number) g b) (λ i q. sym (commit.gone p.one stands.one q) i)
        (joined_after d.state (changed x d).state (gone_in v) l on commit.takes lost a b commit.call log (commit.brings room) commit.are_left call.ready call.decides));
    someone = (call.place, call.now, commit.gone p.one stands.one call.place ∙ ap₂ (λ (g : Bool) (k : Bool). (g && not (names commit.takes call.place)) || k) call.left call.stays);
    copies = copies_made d.state (changed x d).state (gone_in v) l on lost a b call log;
    since = since.holds;
    same = commit.state;
    images = images;
    arrays = λ n is made. elim (cases_lt n d.state.made) [
      | inl low ↦ array_after n is low
      | inr high ↦ (stages.new promised stands n is high made).stands
    ];
    alike = λ marked n is made. elim (cases_lt n d.state.made) [
      | inl low ↦ alike_after n is low marked
      | inr high ↦ (stages.new promised stands n is high made).same marked
    ];
    slices = λ n place u made few there.
        live_after commit.call.stays (live_on commit.lasting commit.call.stays
        (commit.slices stands.slices n place u made few (subst (λ k. u < k) (commit.call.stays.sectors (member_slice place n)) there)));
  }

pub commit_makes : (x : Change) (d v w : Raid) (vals : ℕ → ℕ → Values) (l : LogView) (on lost : List ℕ) (a b : RackView)
    → Commits x d v w l on lost a b → ((p : Promise) → Suits p (x ∷ []) d → Stages x d v w p vals l.added a b) → Makes (x ∷ []) d v w vals vals a b
commit_makes x d v w vals l on lost a b commit stages = record {
  due = (commit.due, tt);
  stays = commit.call.stays;
  back = commit.back;
  grows = λ n y u may. may;
  stops = λ p suits promised stands traced. stops x d v w vals l on lost a b commit p (stages p suits) promised suits.owned.0 stands traced;
  after = λ p suits promised stands. after x d v w vals l on lost a b commit p (stages p suits) promised suits.owned.0 stands;
}
