-- A commit that marks losses: each array that stands gives its values at each moment of it, and stands after it by the new state.
use Rattle.std.proofs.Common.{◌≡◌, ◌⊎◌, ℕ, ◌+◌, ◌<◌, Bool, true, false, ◌&&◌, ◌||◌, not, List, [], Option, Some, None, Ok, unwrap_or, refl, sym, ap, ap₂, subst, ◌∙◌, inl, inr, arith}
use Rattle.std.proofs.lemmas.Bool.{both_ways, cases_Bool}
use Rattle.std.proofs.lemmas.Option.{none-some}
use Rattle.rack.specs.Values.{Values, MayLeave}
use Rattle.rack.specs.Seen.{Image, RackView, IsLive}
use Rattle.rack.specs.Moments.{Leaves}
use Rattle.rack.specs.Joins.{leaves_weaker}
use Rattle.rack.specs.Targets.{Target, look, put}
use Rattle.md_super.specs.declared.superblock.Super.{Super}
use Rattle.pool_state.specs.declared.contents.State.{State}
use Rattle.pool_state.specs.Sector.{decoded}
use Rattle.array_image.specs.Places.{log_slice, member_slice, data_sector}
use Rattle.array_image.specs.States.{state_in, is_current}
use Rattle.array_image.specs.Supers.{super_in, truth_in}
use Rattle.array_image.specs.SoundArray.{array_fields}
use Rattle.array_image.specs.Arrays.{Member, Shape, place_with, value_by, replayed}
use Rattle.array_image.specs.Held.{Among, current_in, IsSynced}
use Rattle.array_image.specs.Left.{IsInside, LogsInside, Picks, IsLeft, NothingPending}
use Rattle.array_image.proofs.Frames.{Agree, supers_same, truth_by_supers, state_same, shape_same}
use Rattle.array_image.proofs.SoundFrames.{sound_same}
use Rattle.array_image.proofs.Replays.{replayed_as_is}
use Rattle.array_image.specs.Marks.{lowered}
use Rattle.array_image.proofs.Settled.{settled_value}
use Rattle.log_laws.specs.View.{LogView, names, next_number}
use Rattle.log_laws.specs.Standing.{IsReady, SomeoneDecides, IsLogPart, IsAlike}
use Rattle.log_laws.specs.Commits.{ImageInCommit, CommitCall, StandsMidway}
use Rattle.log_laws.specs.Kept.{LogInvariant, AreLeft, gone_but, gone_with, BringsTo}
use Rattle.log_laws.specs.Saying.{AreOwnCopies, HoldsCopies, KeepsDrives, RecoversTo}
use Rattle.log_laws.proofs.Kept.{stands_latest, stands_of, before_inside, joined_state, put_none}
use Rattle.log_laws.proofs.KeptAfter.{gone_none, joined_after}
use Rattle.commit_log.proofs.Saying.{commit_holds, commit_moments, commit_says}
use Rattle.array_model.specs.View.{View, shape_of, may_vary}
use Rattle.array_model.specs.Says.{ImageShowsArray, IsOpen, HoldsData, ShapeInvariant, IsEarlier}
use Rattle.array_model.proofs.Keeping.{live_on, inside_before, logs_of, KeepsData}
use Rattle.array_model.proofs.Losses.{data_of, noted_holds, marked_holds}
use Rattle.raid_laws.specs.Raid.{Raid, InvariantInCall, IsWritten}
use Rattle.raid_laws.specs.Enlisting.{SaysBy}
use Rattle.raid_laws.specs.Marking.{NoData, Restates, SaysBetween, TiedBetween, Part}
use Rattle.raid_laws.specs.Reach.{KeepsReach, reach_same}
use Rattle.raid_laws.specs.Book.{OnlyMarksSince, after_same, after_then}
use Rattle.raid_laws.specs.Frames.{Frame, HasFrame, frame_of}
use Rattle.raid_laws.specs.Logs.{KeepsLogs, LogsBetween, StandsSince}
use Rattle.raid_laws.specs.Since.{AreEach, HasOwnSince, HoldsEach, IsSince, IsTakenSince, KeepsEach}
use Rattle.raid_laws.specs.Laws.{stood_left}
use Rattle.raid_laws.proofs.Frames.{fields_frame, frame_same, known_frame, left_frame}
use Rattle.raid_laws.proofs.KeptDrives.{after_drives, after_id}
use Rattle.raid_laws.proofs.Logs.{stands_same}
use Rattle.raid_laws.proofs.Own.{look_nothing, says_same}
use Rattle.raid_laws.proofs.Since.{AreLive}

-- ---- slices of an array, and the states' sectors, aren't the log's

member_no_log : (n place t : ℕ) → n < 16 → IsLogPart (member_slice place n) t → ⊥
member_no_log n place t few part = absurd (omega (arith, few, part.0))

state_no_log : (place : ℕ) → IsLogPart (log_slice place) 0 → ⊥
state_no_log place part = absurd (omega (arith, part.1))

pub alike_agree : (n : ℕ) (c e : Image) → n < 16 → IsAlike c e → Agree n c e
alike_agree n c e few alike place t = alike (member_slice place n) t (member_no_log n place t few)

pub alike_state : (c e : Image) → IsAlike c e → state_in c ≡ state_in e
alike_state c e alike = state_same c e (λ place. alike (log_slice place) 0 (state_no_log place))

-- no target is for a member's data
pub no_data : (xs : List Target) (n place sector : ℕ) → NoData xs → n < 16 → look xs (member_slice place n) (data_sector + sector) ≡ None
no_data xs n place sector none few = of (look xs (member_slice place n) (data_sector + sector)) refl
  where
    of : (o : Option (List ℕ)) → look xs (member_slice place n) (data_sector + sector) ≡ o → o ≡ None
    of None is = refl
    of (Some w) is =
        elim (none (member_slice place n) (data_sector + sector) w is) [
          | inl log ↦ absurd (omega (arith, few, log))
          | inr head ↦ absurd (omega (arith, head))
        ]

-- ---- with all targets written

-- contents from before the commit with its targets say the array by the new state
pub put_says : (t : State) (noted : Shape) (marked : Bool) (view : View) (vals : ℕ → Values) (spent : ℕ → Bool) (xs : List Target) (a : RackView) (n : ℕ) (c : Image)
    → n < 16 → Restates t noted marked view xs a n → NoData xs
    → Picks a c
    → IsSynced noted n a.held
    → ((m : Member) (sector : ℕ) → Among m noted.members → sector < m.reach → IsLive a a (member_slice m.place n) (data_sector + sector))
    → ((y : ℕ) → spent y ≡ false → value_by noted (current_in a.held) n y ≡ (vals y).current)
    → ImageShowsArray t n noted vals spent (put a.sectors xs c)
put_says t noted marked view vals spent xs a n c few restates none picks settled live current =
    record {
      shape_is = restates.shape_is c picks;
      value = λ y alive.
          inl (settled_value noted n a.held (put a.sectors xs c) settled
          (λ m sector among counts.
          subst (MayLeave (a.held (member_slice m.place n) (data_sector + sector)))
          (sym (put_none a.sectors xs c (member_slice m.place n) (data_sector + sector) (no_data xs n m.place sector none few)))
          (picks.picks (member_slice m.place n) (data_sector + sector) (live m sector among counts)))
          y
          ∙ current y alive);
      is_sound = restates.sound c picks;
    }

-- ---- at each moment

-- what the commit needs of the pool, and what it is
pub record MarksCall (s t : State) (gone : ℕ → Bool) (l : LogView) (on lost : List ℕ) (a b : RackView) : Type 0 where
  pub commit : CommitCall l on lost a b
  -- the places that get a copy: those of the commit, and those that join
  pub takes : List ℕ
  pub brings : BringsTo s t l.number a l.added on takes
  pub are_left : AreLeft s gone on
  pub none : NoData l.added
  pub ready : IsReady l on a
  pub decides : SomeoneDecides l.added on lost a
  -- one of the places that are left, as the new state has it
  pub place : ℕ
  pub was : is_current s place ≡ true
  pub left : gone place ≡ false
  pub now : is_current t place ≡ true
  pub stays : names lost place ≡ false
  -- of a later state, each copy its place's own
  pub later : s.epoch < t.epoch
  pub own : AreOwnCopies t l.added

pub never_same : (s t : State) (gone : ℕ → Bool) → s.epoch < t.epoch → t ≡ s → (p : ℕ) → is_current s p ≡ true → gone p ≡ false
never_same s t gone later same = let epoch = ap (λ (u : State). u.epoch) same in absurd (omega (arith, epoch, later))

-- So after it the log slices hold the new state's copies.
pub copies_made : (s t : State) (gone : ℕ → Bool) (l : LogView) (on lost : List ℕ) (a b : RackView) → MarksCall s t gone l on lost a b → LogInvariant s l.number gone a → HoldsCopies t b
copies_made s t gone l on lost a b call kept =
    commit_holds s t gone l on call.takes a kept call.brings call.own (never_same s t gone call.later) call.are_left call.ready.room call.place call.was call.left call.now
    lost b call.commit call.ready call.decides

-- And the log slices say the old state or the new one, where places keep their drives, and after it they hold the new one's copies.
pub logs_made : (s t : State) (gone : ℕ → Bool) (l : LogView) (on lost : List ℕ) (a b : RackView) → MarksCall s t gone l on lost a b → KeepsDrives s t on
    → LogInvariant s l.number gone a → HoldsCopies s a
    → (a.traced → Leaves a b (λ c. IsInside a.sectors c → RecoversTo s a.sectors c ⊎ RecoversTo t a.sectors c)) × HoldsCopies t b
logs_made s t gone l on lost a b call drives kept copies =
    let never = never_same s t gone call.later in (
      λ traced.
          leaves_weaker (λ c. LogsInside a.sectors c → RecoversTo s a.sectors c ⊎ RecoversTo t a.sectors c)
          (λ c. IsInside a.sectors c → RecoversTo s a.sectors c ⊎ RecoversTo t a.sectors c)
          (λ c says inside. says (λ place i out. inside (log_slice place) i out))
          (commit_says s t gone l on call.takes a kept call.brings call.own never call.are_left call.ready.room call.place call.was call.left call.now copies drives
          lost b call.commit call.ready call.decides traced),
      copies_made s t gone l on lost a b call kept,
    )

-- And copies that stand stay such as they are, where its place's own copy of the new state is such.
module _ (P : ℕ → List ℕ → Type 0) (s t : State) (gone : ℕ → Bool) (l : LogView) (on lost : List ℕ) (a b : RackView) (call : MarksCall s t gone l on lost a b)
    (brings : (p : ℕ) (u : List ℕ) → is_current t p ≡ true → decoded u ≡ Ok (record { state = t; own = p }) → P p u) (live : AreLive a) (holds : HoldsEach P a) where
  target_each : (p : ℕ) (u : List ℕ) → look l.added (log_slice p) 0 ≡ Some u → P p u
  target_each p u is = brings p u current (call.own p u is)
    where
      current : is_current t p ≡ true
      current = elim call.brings.either [
        | inl same ↦ absurd (none-some u (sym (same.1 p) ∙ is))
        | inr later ↦ elim (cases_Bool (names call.takes p)) [
          | inl named ↦ call.brings.left p named
          | inr other ↦ absurd (none-some u (sym (later.3 p other) ∙ is))
        ]
      ]

  midway_each : (c : Image) → StandsMidway l on a c → AreEach P a.sectors c
  midway_each c mid p few there = elim (mid.states.picks p (live p 0 few there)) [
    | inl held ↦ holds p (c (log_slice p) 0) few there held
    | inr new ↦ target_each p (c (log_slice p) 0) new
  ]

  pub commit_each : KeepsEach P a b
  commit_each = record {
    leaves = λ traced.
        leaves_weaker (λ c. LogsInside a.sectors c → ImageInCommit l.added a c × StandsMidway l on a c) (λ c. IsInside a.sectors c → AreEach P a.sectors c)
        (λ c found inside. midway_each c (found (λ place k out. inside (log_slice place) k out)).1)
        (commit_moments l on lost a b call.commit traced call.ready call.decides);
    holds = λ p u few there may.
        let stays = call.commit.stays in
        let has : 0 < a.sectors (log_slice p) = subst (λ k. 0 < k) (stays.sectors (log_slice p)) there in
        elim (call.commit.within (log_slice p) 0 u (live_on call.ready.lasting stays (live p 0 few has)) (state_no_log p) may) [
          | inl held ↦ holds p u few has held
          | inr new ↦ target_each p u new
        ];
  }

-- A copy that the targets have is its place's own, of the new state, which is the one that calls began with or came of it.
own_since : (base t : State) → OnlyMarksSince base t → (p : ℕ) (u : List ℕ) → is_current t p ≡ true → decoded u ≡ Ok (record { state = t; own = p }) → HasOwnSince base p u
own_since base t after p u current is =
    record { copy = record { state = t; own = p }; is = is; after = after; drive = after_id base t p after }

pub brings_since : (base t : State) → OnlyMarksSince base t → (p : ℕ) (u : List ℕ) → is_current t p ≡ true → decoded u ≡ Ok (record { state = t; own = p }) → IsSince base p u
brings_since base t after p u current is = record {
  own = λ now. own_since base t after p u current is;
  former = λ k past at. absurd (both_ways (is_current base p) past (after.current p current));
}

pub brings_joining : (new : ℕ → Bool) (early next t : State) → OnlyMarksSince next t → (p : ℕ) (u : List ℕ) → is_current t p ≡ true → decoded u ≡ Ok (record { state = t; own = p })
    → IsTakenSince new early next p u
brings_joining new early next t after p u current is = record {
  own = λ old now. inr (own_since next t after p u current is);
  joins = λ k how now at. own_since next t after p u current is;
  former = λ k past was at. absurd (both_ways (is_current next p) was (after.current p current));
}

-- As they stand contents say the old state or the new one.
pub midway_stands : (s t : State) (gone : ℕ → Bool) (l : LogView) (on lost : List ℕ) (a b : RackView) → MarksCall s t gone l on lost a b → LogInvariant s l.number gone a
    → (c : Image) → StandsMidway l on a c → (state_in c ≡ Some s) ⊎ (state_in c ≡ Some t)
midway_stands s t gone l on lost a b call kept c mid =
    elim (stands_latest s t l.number gone on call.takes l.added a c call.place kept.logs kept.copies call.brings mid.states (kept.few call.place call.was)
    (kept.there call.place call.was call.left) call.was call.left) [
      | inl old ↦ inl old.0
      | inr new ↦ inr new.0
    ]

some_state : (a b : State) → Some a ≡ Some b → a ≡ b
some_state a b same = cc

pub logs_commit : (s t : State) (gone : ℕ → Bool) (l : LogView) (on lost : List ℕ) (a b : RackView) → MarksCall s t gone l on lost a b → OnlyMarksSince s t
    → LogInvariant s l.number gone a → HoldsCopies s a → KeepsLogs s t a b
logs_commit s t gone l on lost a b call book kept copies =
    let made = logs_made s t gone l on lost a b call (after_drives s t on book) kept copies in
    record {
      leaves = λ traced.
          leaves_weaker (λ c. IsInside a.sectors c → RecoversTo s a.sectors c ⊎ RecoversTo t a.sectors c)
          (λ c. IsInside a.sectors c → LogsBetween s t a.sectors c)
          (λ c says inside. elim (says inside) [
            | inl old ↦ record { state = s; later = after_same s; sooner = book; says = old }
            | inr new ↦ record { state = t; later = book; sooner = after_same t; says = new }
          ])
          (made.0 traced);
      stands = λ traced.
          leaves_weaker (λ c. LogsInside a.sectors c → ImageInCommit l.added a c × StandsMidway l on a c) (λ c. IsInside a.sectors c → StandsSince s c)
          (λ c found inside. elim (midway_stands s t gone l on lost a b call kept c (found (λ place k out. inside (log_slice place) k out)).1) [
            | inl old ↦ stands_same s c old
            | inr new ↦ λ stood at. subst (OnlyMarksSince s) (some_state t stood (sym new ∙ at)) book
          ])
          (commit_moments l on lost a b call.commit traced call.ready call.decides);
      holds = made.1;
      since = λ base after held. commit_each (IsSince base) s t gone l on lost a b call (brings_since base t (after_then base s t after book)) kept.logs held;
      joining = λ new early next after held.
          commit_each (IsTakenSince new early next) s t gone l on lost a b call (brings_joining new early next t (after_then next s t after book)) kept.logs held;
    }

-- Contents with all targets are as these restate the array.
pub commit_new : (s t : State) (noted : Shape) (marked : Bool) (view : View) (vals : ℕ → Values) (spent gone : ℕ → Bool) (resync : ℕ) (l : LogView) (on lost : List ℕ) (a b : RackView) (n : ℕ) (c before : Image)
    → n < 16
    → MarksCall s t gone l on lost a b → Restates t noted marked view l.added a n → IsSynced noted n a.held
    → HoldsData n noted resync vals spent a → LogInvariant s l.number gone a
    → Picks a before → IsAlike (replayed a.sectors c) (put a.sectors l.added before)
    → (state_in (replayed a.sectors c) ≡ Some t) × ImageShowsArray t n noted vals spent (replayed a.sectors c)
commit_new s t noted marked view vals spent gone resync l on lost a b n c before few call restates settled holds kept picks new =
    let r : Image = replayed a.sectors c in
    let e : Image = put a.sectors l.added before in (
      alike_state r e new
          ∙ joined_state s t l.number gone on call.takes l.added a before call.place kept.logs kept.copies call.brings (stands_of before picks)
          (kept.few call.place call.was) (kept.there call.place call.was call.left) call.was call.left call.now,
      says_same t n noted vals spent r e (alike_agree n r e few new)
          (put_says t noted marked view vals spent l.added a n before few restates call.none picks settled holds.open_left holds.current),
    )

-- By the old state it is as it was, by the new one as the targets restate it.
pub commit_moment : (s t : State) (durable noted : Shape) (vary marked : Bool) (view : View) (vals : ℕ → Values) (spent gone : ℕ → Bool) (v : Raid) (l : LogView) (on lost : List ℕ) (a b : RackView) (n : ℕ) (c : Image)
    → n < 16
    → MarksCall s t gone l on lost a b → Restates t noted marked view l.added a n → IsSynced noted n a.held
    → ShapeInvariant s n durable noted (v.arrays n).resync vary vals spent a
    → l.number ≡ v.number → OnlyMarksSince s t → KeepsReach t durable noted → InvariantInCall s durable vals spent gone v a n
    → IsInside a.sectors c → ImageInCommit l.added a c
    → TiedBetween s t durable noted n vals spent (replayed a.sectors c)
commit_moment s t durable noted vary marked view vals spent gone v l on lost a b n c few call restates settled holds number book reach stood inside commits =
    let before = commits.before in
    let picks = before_inside l.added a c before inside commits.stands commits.either in
    let r : Image = replayed a.sectors c in
    elim commits.either [
      | inl old ↦
          let e : Image = replayed a.sectors before in
          let left = stood_left s durable vals spent gone v a n before stood picks in
          record {
            says = record {
              state = s;
              is_state = alike_state r e old ∙ left.0;
              later = after_same s;
              sooner = book;
              shape = durable;
              says = says_same s n durable vals spent r e (alike_agree n r e few old) left.1;
            };
            from = reach_same (is_current s) durable;
            to = reach;
          }
      | inr new ↦
          let now = commit_new s t noted marked view vals spent gone (v.arrays n).resync l on lost a b n c before few call restates settled (data_of holds)
          (subst (λ k. LogInvariant s k gone a) (sym number) stood.log) picks new in
          record {
            says = record { state = t; is_state = now.0; later = book; sooner = after_same t; shape = noted; says = now.1 };
            from = reach;
            to = reach_same (is_current t) noted;
          }
    ]

-- what is said by a state, is said by one between two that it is
pub says_first : (s t : State) (n : ℕ) (vals : ℕ → Values) (spent : ℕ → Bool) (r : Image) → OnlyMarksSince s t → SaysBy s n vals spent r → SaysBetween s t n vals spent r
says_first s t n vals spent r book by = record { state = s; is_state = by.is_state; later = after_same s; sooner = book; shape = by.shape; says = by.says }

-- ---- after it

-- what the commit leaves pending has no data
pub still_after : (s t : State) (gone : ℕ → Bool) (l : LogView) (on lost : List ℕ) (a b : RackView) (n place sector : ℕ) (c : Image)
    → n < 16 → MarksCall s t gone l on lost a b → Picks b c
    → replayed b.sectors c (member_slice place n) (data_sector + sector) ≡ c (member_slice place n) (data_sector + sector)
still_after s t gone l on lost a b n place sector c few call picks =
    let rests = call.commit.rests call.ready call.decides c (logs_of c picks) in
    replayed_as_is b.sectors c (member_slice place n) (data_sector + sector)
    (elim rests.targets [
      | inl none ↦ ap (λ (xs : List Target). look xs (member_slice place n) (data_sector + sector)) none ∙ look_nothing (member_slice place n) (data_sector + sector)
      | inr all ↦
          ap (λ (xs : List Target). look xs (member_slice place n) (data_sector + sector)) all.1
          ∙ no_data l.added n place sector call.none few
    ])

-- and replayed contents restate the array
pub restated_after : (s t : State) (noted : Shape) (marked : Bool) (view : View) (gone : ℕ → Bool) (l : LogView) (on lost : List ℕ) (a b : RackView) (n : ℕ) (r : Image)
    → n < 16 → MarksCall s t gone l on lost a b → Restates t noted marked view l.added a n → IsLeft b r
    → (before : Image) × Picks a before × Agree n r (put a.sectors l.added before)
restated_after s t noted marked view gone l on lost a b n r few call restates left =
    let c = left.0 in
    let done = call.commit.after call.ready call.decides c (stands_of c left.1) in
    let inside : IsInside a.sectors c = inside_before call.commit.stays c left.1.inside in
    let same : (d u : ℕ) → r d u ≡ replayed a.sectors c d u =
    λ d u. left.2 d u ∙ ap (λ (sectors : ℕ → ℕ). replayed sectors c d u) (λ i e. call.commit.stays.sectors e i) in (
      done.before,
      before_inside l.added a c done.before inside done.stands (inr done.all),
      λ place u. same (member_slice place n) u ∙ alike_agree n (replayed a.sectors c) (put a.sectors l.added done.before) few done.all place u,
    )

-- no data was written
pub data_kept : (s t : State) (noted : Shape) (gone : ℕ → Bool) (l : LogView) (on lost : List ℕ) (a b : RackView) (n : ℕ)
    → n < 16 → MarksCall s t gone l on lost a b → IsOpen noted n a → KeepsData noted n a.held b.held
data_kept s t noted gone l on lost a b n few call is_open m sector among counts =
    call.commit.apart (member_slice m.place n) (data_sector + sector)
    (live_on call.ready.lasting call.commit.stays (is_open m sector among counts))
    (member_no_log n m.place (data_sector + sector) few)
    (no_data l.added n m.place sector call.none few)

-- An array whose members are settled holds for the new state what it held for the old one.
pub shape_after : (s t : State) (noted : Shape) (resync : ℕ) (marked vary_now : Bool) (view : View) (vals : ℕ → Values) (spent gone : ℕ → Bool) (l : LogView) (on lost : List ℕ) (a b : RackView) (n : ℕ)
    → n < 16 → MarksCall s t gone l on lost a b → Restates t noted marked view l.added a n → IsSynced noted n a.held
    → HoldsData n noted resync vals spent a
    → ShapeInvariant t n noted noted resync vary_now vals spent b
shape_after s t noted resync marked vary_now view vals spent gone l on lost a b n few call restates settled holds =
    marked_holds t n noted resync vary_now vals spent a b holds settled call.ready.lasting call.commit.stays
    (data_kept s t noted gone l on lost a b n few call holds.open_left)
    (λ c picks m sector among counts. still_after s t gone l on lost a b n m.place sector c few call picks)
    (λ r left.
    let at = restated_after s t noted marked view gone l on lost a b n r few call restates left in
    let e : Image = put a.sectors l.added at.0 in (
      shape_same t r e n at.2 ∙ restates.shape_is at.0 at.1,
      λ u is. sound_same t r e n u at.2 (restates.sound at.0 at.1 u (sym (truth_by_supers t r e n (supers_same t r e n at.2)) ∙ is)),
    ))

-- what contracts see of an array once those that went in the commit are noted
pub record NotesLost (u : View) (noted : Shape) (resync : ℕ) (marked : Bool) (view : View) (lost : List ℕ) (n : ℕ) : Type 0 where
  pub number : u.number ≡ n
  pub shape : shape_of u ≡ lowered (names lost) noted
  pub resync_is : u.resync ≡ resync
  pub marked_is : u.marked ≡ true → marked ≡ true
  pub view_number : view.number ≡ n
  pub truth : u.truth ≡ view.truth
  pub went : u.went ≡ [] → lost ≡ []
  pub written : IsWritten u

-- what the commit leaves pending is nothing, where nobody went
pub closed_after : (s t : State) (gone : ℕ → Bool) (l : LogView) (on lost : List ℕ) (a b : RackView) (n : ℕ)
    → MarksCall s t gone l on lost a b → lost ≡ [] → NothingPending n b
closed_after s t gone l on lost a b n call nobody c picks place u =
    let rests = call.commit.rests call.ready call.decides c picks in
    replayed_as_is b.sectors c (member_slice place n) u
    (elim rests.targets [
      | inl none ↦ ap (λ (xs : List Target). look xs (member_slice place n) u) none ∙ look_nothing (member_slice place n) u
      | inr all ↦ absurd (all.0 nobody)
    ])

-- a superblock with the same fields isn't later
pub earlier_same : (t u : Super) → array_fields t ≡ array_fields u → IsEarlier t u
earlier_same t u same =
    record {
      fields = ap (λ (f : Super). record f { events = 0; resync_offset = 0 }) same;
      events = let e = ap (λ (f : Super). f.events) same in omega arith;
    }

-- An array whose members are settled before such a commit stands after it by the new state, without those that went in it. Whoever had gone and takes
-- a copy hasn't gone after it.
pub marks_stood : (s t : State) (noted : Shape) (marked : Bool) (view : View) (vals : ℕ → Values) (spent gone : ℕ → Bool) (resync : ℕ) (w : Raid) (l : LogView) (on lost : List ℕ) (a b : RackView) (n : ℕ)
    → n < 16 → w.number ≡ next_number l.number → n < t.joined → t.joined < 17
    → Restates t noted marked view l.added a n → IsSynced noted n a.held
    → HoldsData n noted resync vals spent a
    → NotesLost (w.arrays n) noted resync marked view lost n
    → ((y : ℕ) → spent y ≡ false → value_by (lowered (names lost) noted) (current_in b.held) n y ≡ value_by noted (current_in b.held) n y)
    → LogInvariant s l.number gone a → (call : MarksCall s t gone l on lost a b) → InvariantInCall t noted vals spent (gone_but gone call.takes lost) w b n
marks_stood s t noted marked view vals spent gone resync w l on lost a b n few number_now joined arrays restates settled holds notes same kept call =
    let u = w.arrays n in
    record {
      joined = joined;
      few = arrays;
      number = notes.number;
      log = subst (λ k. LogInvariant t k (gone_but gone call.takes lost) b) (sym number_now)
          (joined_after s t gone l on call.takes lost a b call.commit kept call.brings call.are_left call.ready call.decides);
      written = notes.written;
      someone = (call.place, call.now, ap₂ (λ (x : Bool) (y : Bool). (x && not (names call.takes call.place)) || y) call.left call.stays);
      holds = record {
        shape =
            subst (λ k. ShapeInvariant t k noted (shape_of u) u.resync (may_vary u) vals spent b) (sym notes.number)
            (subst (λ k. ShapeInvariant t n noted (shape_of u) k (may_vary u) vals spent b) (sym notes.resync_is)
            (subst (λ (shape : Shape). ShapeInvariant t n noted shape resync (may_vary u) vals spent b) (sym notes.shape)
            (noted_holds t n noted noted resync (may_vary u) vals spent spent b (names lost)
            (shape_after s t noted resync marked (may_vary u) view vals spent gone l on lost a b n few call restates settled holds)
            (λ y alive. alive) same)));
        mark = λ is r left tr truth.
            let at = restated_after s t noted marked view gone l on lost a b n r few call restates left in
            let e : Image = put a.sectors l.added at.0 in
            restates.dirty (notes.marked_is is) at.0 at.1 tr
            (sym (truth_by_supers t r e n (supers_same t r e n at.2)) ∙ subst (λ k. truth_in t r k ≡ Some tr) notes.number truth);
        truth = λ r left tr truth.
            let at = restated_after s t noted marked view gone l on lost a b n r few call restates left in
            let e : Image = put a.sectors l.added at.0 in
            earlier_same tr u.truth
            (restates.truth at.0 at.1 tr
            (sym (truth_by_supers t r e n (supers_same t r e n at.2)) ∙ subst (λ k. truth_in t r k ≡ Some tr) notes.number truth)
            ∙ sym (ap array_fields notes.truth));
        alone = λ r left place current other.
            let at = restated_after s t noted marked view gone l on lost a b n r few call restates left in
            let e : Image = put a.sectors l.added at.0 in
            subst (λ k. super_in t r k place ≡ None) (sym notes.number)
            (supers_same t r e n at.2 place
            ∙ subst (λ k. super_in t e k place ≡ None) notes.view_number
            (restates.alone at.0 at.1 place current
            (λ k small here. other k (subst (λ (q : Super). k < q.raid_disks) (sym notes.truth) small)
            (ap (λ (q : Super). unwrap_or (place_with q.roles.items k) 16) notes.truth ∙ here))));
        closed = λ none. subst (λ k. NothingPending k b) (sym notes.number) (closed_after s t gone l on lost a b n call (notes.went none));
      };
    }

-- At each moment the array has its frame.
pub frame_moment : (g : Frame) (s t : State) (durable noted : Shape) (marked : Bool) (view : View) (vals : ℕ → Values) (spent gone : ℕ → Bool) (v : Raid) (l : LogView) (on lost : List ℕ) (a b : RackView) (n : ℕ) (c : Image)
    → n < 16 → MarksCall s t gone l on lost a b → Restates t noted marked view l.added a n
    → frame_of view.truth ≡ g → frame_of (v.arrays n).truth ≡ g
    → InvariantInCall s durable vals spent gone v a n → IsInside a.sectors c → ImageInCommit l.added a c → HasFrame g n (replayed a.sectors c)
frame_moment g s t durable noted marked view vals spent gone v l on lost a b n c few call restates now was stood inside commits =
    let before = commits.before in
    let picks = before_inside l.added a c before inside commits.stands commits.either in
    let r : Image = replayed a.sectors c in
    elim commits.either [
      | inl old ↦
          let e : Image = replayed a.sectors before in
          frame_same g n r e (alike_state r e old) (alike_agree n r e few old) (left_frame g s durable vals spent gone v a n before was stood picks)
      | inr new ↦
          let e : Image = put a.sectors l.added before in
          known_frame g n t r e
          (alike_state r e new
          ∙ joined_state s t l.number gone on call.takes l.added a before call.place stood.log.logs stood.log.copies call.brings (stands_of before picks)
          (stood.log.few call.place call.was) (stood.log.there call.place call.was call.left) call.was call.left call.now)
          (alike_agree n r e few new)
          (λ u truth. fields_frame u view.truth (restates.truth before picks u truth) ∙ now)
    ]

-- The whole of it: it gives its values at each moment too.
pub marks_part : (s t : State) (durable noted : Shape) (vary marked : Bool) (view : View) (vals : ℕ → Values) (spent gone : ℕ → Bool) (v w : Raid) (l : LogView) (on lost : List ℕ) (a b : RackView) (n : ℕ)
    → n < 16 → OnlyMarksSince s t → l.number ≡ v.number → w.number ≡ next_number l.number → n < t.joined → t.joined < 17
    → (call : MarksCall s t gone l on lost a b) → Restates t noted marked view l.added a n → IsSynced noted n a.held
    → ShapeInvariant s n durable noted (v.arrays n).resync vary vals spent a
    → NotesLost (w.arrays n) noted (v.arrays n).resync marked view lost n → frame_of view.truth ≡ frame_of (v.arrays n).truth
    → ((p : ℕ) → names call.takes p ≡ true → gone p ≡ false) → KeepsReach t durable noted
    → ((y : ℕ) → spent y ≡ false → value_by (lowered (names lost) noted) (current_in b.held) n y ≡ value_by noted (current_in b.held) n y)
    → Part s t durable noted vals vals spent gone (gone_with gone lost) v w a b n
marks_part s t durable noted vary marked view vals spent gone v w l on lost a b n few book number number_now joined arrays call restates settled holds notes framed fresh reach same =
    record {
      stays = call.commit.stays;
      book = book;
      leaves = λ traced.
          leaves_weaker (λ c. LogsInside a.sectors c → ImageInCommit l.added a c)
          (λ c. IsInside a.sectors c → InvariantInCall s durable vals spent gone v a n → TiedBetween s t durable noted n vals spent (replayed a.sectors c))
          (λ c commits inside stood.
          commit_moment s t durable noted vary marked view vals spent gone v l on lost a b n c few call restates settled holds number book reach stood inside
          (commits (λ place i out. inside (log_slice place) i out)))
          (call.commit.stops traced call.ready call.decides);
      reach = reach;
      holds = λ stood.
          subst (λ g. InvariantInCall t noted vals spent g w b n) (gone_none gone call.takes lost fresh)
          (marks_stood s t noted marked view vals spent gone (v.arrays n).resync w l on lost a b n few number_now joined arrays restates settled (data_of holds) notes same
          (subst (λ k. LogInvariant s k gone a) (sym number) stood.log) call);
      logs = λ copies stood. logs_commit s t gone l on lost a b call book (subst (λ k. LogInvariant s k gone a) (sym number) stood.log) copies;
      frame = λ g before stood. record {
        leaves = λ traced.
            leaves_weaker (λ c. LogsInside a.sectors c → ImageInCommit l.added a c)
            (λ c. IsInside a.sectors c → HasFrame g n (replayed a.sectors c))
            (λ c commits inside.
            frame_moment g s t durable noted marked view vals spent gone v l on lost a b n c few call restates (framed ∙ before) before stood inside
            (commits (λ place i out. inside (log_slice place) i out)))
            (call.commit.stops traced call.ready call.decides);
        after = ap frame_of notes.truth ∙ framed ∙ before;
      };
    }
