-- A row that is changed by one commit: at each moment and after it each sector holds what it held, and the written one the value too.
use Rattle.std.proofs.Common.{◌≡◌, ℕ, zero, suc, ◌+◌, ◌<◌, ◌≤◌, Bool, true, false, ◌==◌, ◌||◌, nat_lt, if◌then◌else◌, List, [], ◌∷◌, map, take, length, Option, Some, None, unwrap_or, refl, sym, ap, subst, ◌∙◌, inl, inr, eq-eqb, lt-ltb, arith}
use Rattle.std.proofs.lemmas.Bool.{both_ways}
use Rattle.std.specs.Option.{option_map_or}
use Rattle.rack.specs.Values.{Values, MayLeave, append, only}
use Rattle.rack.specs.Seen.{Image, RackView}
use Rattle.rack.specs.Joins.{leaves_weaker, may_leave-append}
use Rattle.rack.specs.Targets.{Target, look, put}
use Rattle.md_super.specs.declared.superblock.Super.{Super}
use Rattle.pool_state.specs.declared.contents.State.{State}
use Rattle.array_image.specs.Places.{slice_of, place_of, log_slice, member_slice, super_sector, data_sector}
use Rattle.array_image.specs.Stripes.{Layout, mirror, parity, width, position_in, sector_in}
use Rattle.array_image.specs.Supers.{super_in, truth_in}
use Rattle.array_image.specs.SoundArray.{first_unsynced}
use Rattle.array_image.specs.Arrays.{Member, Shape, layout_at, value_by, place_with, replayed}
use Rattle.array_image.specs.Even.{AreEven}
use Rattle.array_image.specs.Held.{Among, IsSynced, current_in, held_of, held_by, first_counting, member_at, source_in}
use Rattle.array_image.specs.Marks.{lower, lowered}
use Rattle.array_image.specs.Spent.{wanting}
use Rattle.array_image.specs.Left.{LogsInside, IsInside, Picks, PicksLogs, IsLeft, IsApart, NothingPending}
use Rattle.array_image.proofs.Frames.{value_by_data}
use Rattle.array_image.proofs.Marked.{among_lowered}
use Rattle.array_image.proofs.Replays.{replayed_as_is}
use Rattle.array_image.proofs.Sources.{source_counts}
use Rattle.log_laws.specs.View.{LogView, names, next_number}
use Rattle.log_laws.specs.Standing.{IsLogPart, IsAlike, IsReady, SomeoneDecides}
use Rattle.log_laws.specs.Commits.{ImageInCommit, CommitCall, StandsMidway}
use Rattle.commit_log.proofs.Saying.{commit_moments, midway_none}
use Rattle.log_laws.specs.Kept.{LogInvariant, gone_with}
use Rattle.log_laws.proofs.Kept.{stands_of, before_inside}
use Rattle.array_model.specs.View.{View, IsArray, shape_of, spent_in, may_vary, is_alone}
use Rattle.array_model.specs.Says.{ImageShowsArray, ShapeInvariant, ArrayInvariant, IsEarlier, HasNoOthers}
use Rattle.array_model.specs.ArrayCalls.{ImageInCall, IncludesSpent, appended_at}
use Rattle.array_model.specs.Rows.{RowChange, written, source_at, sector_at}
use Rattle.array_model.proofs.DataFrames.{SameSectors, super_at, truth_at, shape_at}
use Rattle.array_model.proofs.Keeping.{live_on, open_after, inside_before, logs_of}
use Rattle.array_model.proofs.Losses.{IsLosing, even_noted}
use Rattle.array_model.proofs.Moves.{CallRefines}
use Rattle.array_model.proofs.Noting.{laid_out, unspent_then, covers_before}
use Rattle.array_model.proofs.Spared.{lost_value, at_most_one, wanting_lost, wanting_take}
use Rattle.array_model.proofs.Opening.{even_counted}
use Rattle.array_model.proofs.Parts.{change_even}
use Rattle.array_model.proofs.Whole.{among_kept}
use Rattle.array_model.proofs.WholeWrites.{own_held}
use Rattle.array_image.proofs.SoundFrames.{sound_same}
use Rattle.array_core.proofs.LogFrames.{look_nothing}
use Rattle.array_core.proofs.Pending.{midway_inside, rests_inside, rests_none}

-- targets are whole sectors of the array's own data
pub record IsOwnData (n : ℕ) (xs : List Target) : Type 0 where
  pub own : (d t : ℕ) (u : List ℕ) → look xs d t ≡ Some u → (slice_of d ≡ n + 1) × (data_sector ≤ t)
  pub sized : (d t : ℕ) (u : List ℕ) → look xs d t ≡ Some u → length u ≡ 512

-- ---- a sector without a source

first_wants : (t : ℕ) (members : List Member) → 0 < length members → first_counting t members ≡ None → 0 < wanting t members
unfolding first_counting
first_wants t [] some none = absurd (omega (arith, some))
first_wants t (m ∷ others) some none =
    let Goal : Bool → Type 0 = λ b. (if b then Some m else first_counting t others) ≡ None → 0 < (if b then wanting t others else suc (wanting t others)) in
    let goal : Goal (nat_lt t m.reach) = elim (nat_lt t m.reach) as Goal [ true ↦ λ is. cc | false ↦ λ is. omega arith ] in
    goal none

at_wants : (t position : ℕ) (members : List Member) → position < length members → member_at t position members ≡ None → 0 < wanting t members
unfolding member_at
at_wants t position [] inside none = absurd (omega (arith, inside))
at_wants t zero (m ∷ others) inside none =
    let Goal : Bool → Type 0 = λ b. (if b then Some m else None) ≡ None → 0 < (if b then wanting t others else suc (wanting t others)) in
    let goal : Goal (nat_lt t m.reach) = elim (nat_lt t m.reach) as Goal [ true ↦ λ is. cc | false ↦ λ is. omega arith ] in
    goal none
at_wants t (suc position) (m ∷ others) inside none = more (nat_lt t m.reach) (at_wants t position others (omega (arith, inside)) none)
  where
    more : (b : Bool) → 0 < wanting t others → 0 < (if b then wanting t others else suc (wanting t others))
    more true some = some
    more false some = omega arith

source_wants : (layout : Layout) (t position : ℕ) (members : List Member) → position < length (take (width layout) members) → source_in layout t position members ≡ None
    → 0 < wanting t (take (width layout) members)
source_wants (mirror n) t position members inside none = first_wants t (take n members) (omega (arith, inside)) none
source_wants (parity n) t position members inside none = at_wants t position (take n members) inside none

-- ---- no target elsewhere

pub no_look : (xs : List Target) (d t : ℕ) → ((u : List ℕ) → look xs d t ≡ Some u → ⊥) → look xs d t ≡ None
no_look xs d t none =
    let Goal : Option (List ℕ) → Type 0 = λ o. look xs d t ≡ o → o ≡ None in
    let goal : Goal (look xs d t) = elim (look xs d t) as Goal [ None ↦ λ is. refl | Some u ↦ λ is. absurd (none u is) ] in
    goal refl

put_is : (sectors : ℕ → ℕ) (xs : List Target) (c : Image) (d t : ℕ) (o : Option (List ℕ)) → t < sectors d → look xs d t ≡ o → put sectors xs c d t ≡ unwrap_or o (c d t)
put_is sectors xs c d t o inside is =
    ap (λ (b : Bool). if b then unwrap_or (look xs d t) (c d t) else c d t) (lt-ltb t (sectors d) inside) ∙ ap (λ (p : Option (List ℕ)). unwrap_or p (c d t)) is

pub put_none : (sectors : ℕ → ℕ) (xs : List Target) (c : Image) (d t : ℕ) → look xs d t ≡ None → put sectors xs c d t ≡ c d t
put_none sectors xs c d t is =
    ap (λ (p : Option (List ℕ)). if nat_lt t (sectors d) then unwrap_or p (c d t) else c d t) is ∙ same (nat_lt t (sectors d))
  where
    same : (b : Bool) → (if b then c d t else c d t) ≡ c d t
    same true = refl
    same false = refl

-- ---- the commit

module _ (s : State) (v w : View) (a b : RackView) (l : LogView) (on lost : List ℕ) (gone : ℕ → Bool)
    (is_array : IsArray v) (fresh : v.went ≡ []) (steady : may_vary v ≡ false)
    (commit : CommitCall l on lost a b) (ready : IsReady l on a) (decides : SomeoneDecides l.added on lost a)
    (kept : LogInvariant s (next_number l.number) (gone_with (λ place. false) lost) b)
    (quiet : (c : Image) → PicksLogs a c → (d t : ℕ) → replayed a.sectors c d t ≡ c d t)
    (own : IsOwnData v.number l.added)
    (losing : IsLosing v w gone) (left_too : (place : ℕ) → gone place ≡ false → names lost place ≡ false) (nobody : w.went ≡ [] → lost ≡ [])
    (vals : ℕ → Values) (spent : ℕ → Bool) (covers : IncludesSpent w spent) (x : ℕ) (from : List ℕ)
    (H : Type 0) (begins : H → ArrayInvariant s (shape_of v) v vals spent a) (change : H → RowChange (shape_of v) v.number v.resync x from (current_in a.held) l.added) where
  abbrev n : ℕ
  n = v.number

  abbrev shape : Shape
  shape = shape_of v

  abbrev xs : List Target
  xs = l.added

  abbrev vals_now : ℕ → Values
  vals_now = appended_at x from vals

  few : v.number < 16
  few = is_array.few

  lasting : a.lasting
  lasting = ready.lasting

  unspent : (y : ℕ) → spent y ≡ false → spent_in v y ≡ false
  unspent = covers_before v w gone losing spent covers

  apart_none : (d t : ℕ) → IsApart v.number d t → look l.added d t ≡ None
  apart_none d t apart = no_look xs d t (λ u is. apart.0 (own.own d t u is).0)

  not_log : (place t : ℕ) → IsLogPart (member_slice place v.number) t → ⊥
  not_log place t part = let slice = part.0 in let low = few in absurd (omega (arith, slice, low))

  super_none : (d : ℕ) → look l.added d super_sector ≡ None
  super_none d = no_look xs d super_sector (λ u is. let at = (own.own d super_sector u is).1 in absurd (omega (arith, at)))

  place_is : (place : ℕ) → place_of (member_slice place v.number) ≡ place
  place_is place = let low = few in omega (arith, low)

  -- contents with all targets written, by what the members hold
  abbrev now : Image
  now = written l.added (current_in a.held)

  written_is : (d t : ℕ) (o : Option (List ℕ)) → look l.added d t ≡ o → written l.added (current_in a.held) d t ≡ unwrap_or o (current_in a.held d t)
  written_is d t o is = ap (λ (p : Option (List ℕ)). unwrap_or p (current_in a.held d t)) is

  module _ (h : H) where
    holds : ArrayInvariant s (shape_of v) v vals spent a
    holds = begins h

    data_put : (before : Image) → Picks a before → (m : Member) (t : ℕ) → Among m (shape_of v).members → t < m.reach
        → put a.sectors l.added before (member_slice m.place v.number) (data_sector + t) ≡ written l.added (current_in a.held) (member_slice m.place v.number) (data_sector + t)
    data_put before picks m t among counts =
        let d = member_slice m.place n in
        let i = data_sector + t in
        let live = holds.shape.open_slices m t among counts in
        let old : before d i ≡ current_in a.held d i = holds.shape.settled steady m t among counts (before d i) (picks.picks d i live) in
        put_is a.sectors xs before d i (look xs d i) live.sector refl
        ∙ ap (λ (u : List ℕ). unwrap_or (look xs d i) u) old

    value_now : (y : ℕ) → spent y ≡ false → value_by (shape_of v) (written l.added (current_in a.held)) v.number y ≡ (appended_at x from vals y).current
    value_now y alive =
        (change h).value y (unspent y alive)
        ∙ ap (λ (u : List ℕ). if y == x then from else u) (holds.shape.current y alive)
        ∙ by (y == x) (vals y)
      where
        by : (t : Bool) (h : Values) → (if t then from else h.current) ≡ (if t then append h from else h).current
        by true h = refl
        by false h = refl

    -- contents that are those before it with all targets say the new value
    record AllIn (r : Image) : Type 0 where
      before : Image
      picks : Picks a before
      alike : (place t : ℕ) → r (member_slice place v.number) t ≡ put a.sectors l.added before (member_slice place v.number) t

    module _ (r : Image) (all : AllIn r) where
      q : Image
      q = replayed a.sectors all.before

      left : IsLeft a (replayed a.sectors all.before)
      left = (all.before, all.picks, λ d t. refl)

      supers : SameSectors v.number r (replayed a.sectors all.before)
      supers place =
          all.alike place super_sector
          ∙ put_none a.sectors xs all.before (member_slice place n) super_sector (super_none (member_slice place n))
          ∙ sym (quiet all.before (logs_of all.before all.picks) (member_slice place n) super_sector)

      counted : (m : Member) (t : ℕ) → Among m (shape_of v).members → t < m.reach → r (member_slice m.place v.number) (data_sector + t) ≡ written l.added (current_in a.held) (member_slice m.place v.number) (data_sector + t)
      counted m t among counts = all.alike m.place (data_sector + t) ∙ data_put all.before all.picks m t among counts

      old_counted : (m : Member) (t : ℕ) → Among m (shape_of v).members → t < m.reach → current_in a.held (member_slice m.place v.number) (data_sector + t) ≡ replayed a.sectors all.before (member_slice m.place v.number) (data_sector + t)
      old_counted m t among counts =
          let d = member_slice m.place n in
          let i = data_sector + t in
          sym (quiet all.before (logs_of all.before all.picks) d i
          ∙ holds.shape.settled steady m t among counts (all.before d i) (all.picks.picks d i (holds.shape.open_slices m t among counts)))

      all_says : ImageShowsArray s v.number (shape_of v) (appended_at x from vals) spent r
      all_says =
          let old = holds.shape.says (replayed a.sectors all.before) left in
          let e = replayed a.sectors all.before in
          record {
            shape_is = shape_at s r e n supers ∙ old.shape_is;
            value = λ y alive.
                inl (value_by_data shape r now n y (λ m among counts. counted m (sector_in (layout_at shape y) y) among counts) ∙ value_now y alive);
            is_sound = λ t is.
                let sound = old.is_sound t (sym (truth_at s r e n supers) ∙ is) in
                record {
                  two = sound.two;
                  written = sound.written;
                  same = λ p k u z at_p at_k is_u is_z events. sound.same p k u z at_p at_k (sym (super_at s r e n p supers) ∙ is_u) (sym (super_at s r e n k supers) ∙ is_z) events;
                  rebuilt = λ p u at_p is_u rebuilding. sound.rebuilt p u at_p (sym (super_at s r e n p supers) ∙ is_u) rebuilding;
                  even = λ joined f at.
                      let f_is : shape ≡ f = ap (λ o. unwrap_or o f) (sym (shape_at s r e n supers ∙ old.shape_is) ∙ at) in
                      subst (λ (g : Shape). AreEven g n (first_unsynced t) r) f_is
                      (even_counted shape n (first_unsynced t) r now counted
                      (change_even shape n v.resync x from (current_in a.held) l.added (change h) (first_unsynced t)
                      (even_counted shape n (first_unsynced t) (current_in a.held) e old_counted (sound.even joined shape old.shape_is))));
                };
          }

      all_alone : HasNoOthers v s r
      all_alone place current other = super_at s r (replayed a.sectors all.before) n place supers ∙ holds.alone (replayed a.sectors all.before) left place current other

      all_truth : (t : Super) → truth_in s r v.number ≡ Some t → IsEarlier t v.truth
      all_truth t is = holds.truth (replayed a.sectors all.before) left t (sym (truth_at s r (replayed a.sectors all.before) n supers) ∙ is)

    -- ---- moments

    old_says : (c before : Image) → Picks a before → IsAlike (replayed a.sectors c) (replayed a.sectors before) → ImageShowsArray s v.number (shape_of v) (appended_at x from vals) spent (replayed a.sectors c)
    old_says c before picks alike =
        let r = replayed a.sectors c in
        let e = replayed a.sectors before in
        let old = holds.shape.says e (before, picks, λ d t. refl) in
        let same : (place t : ℕ) → r (member_slice place n) t ≡ e (member_slice place n) t = λ place t. alike (member_slice place n) t (not_log place t) in
        let supers : SameSectors n r e = λ place. same place super_sector in
        record {
          shape_is = shape_at s r e n supers ∙ old.shape_is;
          value = λ y alive.
              more (y == x) (vals y) (value_by shape r n y)
              (subst (MayLeave (vals y)) (sym (value_by_data shape r e n y (λ m among counts. same m.place _))) (old.value y alive));
          is_sound = λ t is. sound_same s r e n t same (old.is_sound t (sym (truth_at s r e n supers) ∙ is));
        }
      where
        more : (t : Bool) (h : Values) (u : List ℕ) → MayLeave h u → MayLeave (if t then append h from else h) u
        more true h u may = may_leave-append h from u may
        more false h u may = may

    -- ---- after it

    all_after : (r : Image) → IsLeft b r → AllIn r
    all_after r left =
        let c = left.0 in
        let done = commit.after ready decides c (stands_of c left.1) in
        record {
          before = done.before;
          picks = before_inside xs a c done.before (inside_before commit.stays c left.1.inside) done.stands (inr done.all);
          alike = λ place t.
              left.2 (member_slice place n) t
              ∙ ap (λ (sectors : ℕ → ℕ). replayed sectors c (member_slice place n) t) (λ i e. commit.stays.sectors e i)
              ∙ done.all (member_slice place n) t (not_log place t);
        }

    -- whoever is left has what was written, or what it had
    kept_now : (m : Member) (t : ℕ) → Among m (shape_of v).members → t < m.reach → gone m.place ≡ false
        → current_in b.held (member_slice m.place v.number) (data_sector + t) ≡ written l.added (current_in a.held) (member_slice m.place v.number) (data_sector + t)
    kept_now m t among counts here =
        let d = member_slice m.place n in
        let i = data_sector + t in
        let live = live_on lasting commit.stays (holds.shape.open_slices m t among counts) in
        let Goal : Option (List ℕ) → Type 0 = λ o. look xs d i ≡ o → current_in b.held d i ≡ unwrap_or o (current_in a.held d i) in
        let goal : Goal (look xs d i) = elim (look xs d i) as Goal [
          | Some u ↦ λ is. commit.written d i u (current_in b.held d i) live (ap (names lost) (place_is m.place) ∙ left_too m.place here) is (inl refl)
          | None ↦ λ is. (commit.apart d i live (not_log m.place i) is).current
        ] in
        goal refl

    sized_now : (m : Member) (t : ℕ) → Among m (shape_of v).members → t < m.reach → length (written l.added (current_in a.held) (member_slice m.place v.number) (data_sector + t)) ≡ 512
    sized_now m t among counts =
        let d = member_slice m.place n in
        let i = data_sector + t in
        let Goal : Option (List ℕ) → Type 0 = λ o. look xs d i ≡ o → length (unwrap_or o (current_in a.held d i)) ≡ 512 in
        let goal : Goal (look xs d i) = elim (look xs d i) as Goal [ Some u ↦ λ is. own.sized d i u is | None ↦ λ is. holds.shape.sized m t among counts ] in
        goal refl

    -- a sector without a source has its value of members that are all left
    unsourced : (y : ℕ) → spent y ≡ false → source_at (shape_of v) y ≡ None → value_by (shape_of v) (current_in b.held) v.number y ≡ (appended_at x from vals y).current
    unsourced y alive none =
        let t = sector_at shape y in
        let layout = layout_at shape y in
        let some = source_wants layout t (position_in layout y) shape.members ((laid_out v is_array).fits y) none in
        let more = wanting_take (width layout) t shape.members in
        let least = at_most_one (wanting t (map (lower gone) shape.members)) _ (unspent_then v w gone losing y (covers y alive)) in
        value_by_data shape (current_in b.held) now n y
        (λ m among counts.
        kept_now m t among counts
        (let Goal : Bool → Type 0 = λ g. gone m.place ≡ g → g ≡ false in
        let goal : Goal (gone m.place) = elim (gone m.place) as Goal [
          | false ↦ λ is. refl
          | true ↦ λ is. let lost_more = wanting_lost gone t shape.members m among counts is in absurd (omega (arith, some, more, least, lost_more))
        ] in
        (λ (z : gone m.place ≡ false). z) (goal refl)))
        ∙ value_now y alive

    within_now : (y : ℕ) → spent y ≡ false → (u : List ℕ) → MayLeave (held_by (shape_of v) b.held v.number y) u → MayLeave (appended_at x from vals y) u
    unfolding held_by
    within_now y alive u may =
        let Goal : Option Member → Type 0 = λ o. source_at shape y ≡ o
        → MayLeave (option_map_or (held_of b.held n (sector_at shape y)) o (only (value_by shape (current_in b.held) n y))) u
        → MayLeave (vals_now y) u in
        let goal : Goal (source_at shape y) = elim (source_at shape y) as Goal [
          | None ↦ λ none now. elim now [ inl is ↦ inl (is ∙ unsourced y alive none) | inr older ↦ absurd older ]
          | Some m ↦ λ is now.
              let found = source_counts shape y m is in
              let d = member_slice m.place n in
              let i = data_sector + sector_at shape y in
              elim (commit.within d i u (live_on lasting commit.stays (holds.shape.open_slices m (sector_at shape y) found.among found.counts)) (not_log m.place i) now) [
                | inl old ↦ old_may (y == x) (vals y) u (holds.shape.within y alive u (subst (λ h. MayLeave h u) (sym (own_held shape n y a.held m is)) old) (λ o at. (source_counts shape y o at).among))
                | inr new ↦ let alone = (change h).alone y m u is new in new_may (y == x) (eq-eqb y x alone.0) (vals y) u alone.1
              ]
        ] in
        goal refl may
      where
        old_may : (t : Bool) (h : Values) (u : List ℕ) → MayLeave h u → MayLeave (if t then append h from else h) u
        old_may true h u may = may_leave-append h from u may
        old_may false h u may = may

        new_may : (t : Bool) → t ≡ true → (h : Values) (u : List ℕ) → u ≡ from → MayLeave (if t then append h from else h) u
        new_may true is h u same = inl same
        new_may false is h u same = absurd (both_ways false refl is)

    settled_now : IsSynced (lowered gone (shape_of v)) v.number b.held
    settled_now m t among counts u may =
        let of = among_lowered gone t shape.members m among counts in
        let here = among_kept gone t shape.members m among counts in
        let d = member_slice m.place n in
        let i = data_sector + t in
        let live = live_on lasting commit.stays (holds.shape.open_slices m t of counts) in
        let Goal : Option (List ℕ) → Type 0 = λ o. look xs d i ≡ o → u ≡ current_in b.held d i in
        let goal : Goal (look xs d i) = elim (look xs d i) as Goal [
          | Some z ↦ λ is.
              let at = commit.written d i z in
              let left = ap (names lost) (place_is m.place) ∙ left_too m.place here in
              at u live left is may ∙ sym (at (current_in b.held d i) live left is (inl refl))
          | None ↦ λ is.
              let keeps = commit.apart d i live (not_log m.place i) is in
              holds.shape.settled steady m t of counts u (keeps.within u may) ∙ sym keeps.current
        ] in
        goal refl

    shape_now : ShapeInvariant s v.number (shape_of v) (lowered gone (shape_of v)) v.resync (may_vary w) (appended_at x from vals) spent b
    shape_now =
        let even_now = change_even shape n v.resync x from (current_in a.held) l.added (change h) v.resync holds.shape.even in
        let left_now : (m : Member) (t : ℕ) → Among m (lowered gone shape).members → t < m.reach → current_in b.held (member_slice m.place n) (data_sector + t) ≡ now (member_slice m.place n) (data_sector + t) =
        λ m t among counts. kept_now m t (among_lowered gone t shape.members m among counts) counts (among_kept gone t shape.members m among counts) in
        record {
          open_slices = open_after lasting commit.stays shape n holds.shape.open_slices;
          open_left = λ m t among counts. open_after lasting commit.stays shape n holds.shape.open_slices m t (among_lowered gone t shape.members m among counts) counts;
          says = λ r left. all_says r (all_after r left);
          still = λ c picks m t among counts.
              kept.quiet c (stands_of c picks) (member_slice m.place n) (data_sector + t)
              (ap (names lost) (place_is m.place) ∙ left_too m.place (among_kept gone t shape.members m among counts));
          within = λ y alive u may keeps. within_now y alive u may;
          current = λ y alive.
              value_by_data (lowered gone shape) (current_in b.held) now n y (λ m among counts. left_now m (sector_in (layout_at shape y) y) among counts)
              ∙ lost_value gone shape n v.resync now y (laid_out v is_array) even_now sized_now (unspent_then v w gone losing y (covers y alive))
              ∙ value_now y alive;
          sized = λ m t among counts. ap length (left_now m t among counts) ∙ sized_now m t (among_lowered gone t shape.members m among counts) counts;
          even = even_counted (lowered gone shape) n v.resync (current_in b.held) now left_now (even_noted gone shape n v.resync now even_now);
          settled = λ same. settled_now;
        }

    unmarked : v.marked ≡ true → ⊥
    unmarked marked = both_ways (may_vary v) steady (ap (λ (m : Bool). m || is_alone v) marked)

    holds_now : ArrayInvariant s (shape_of v) w (appended_at x from vals) spent b
    holds_now = record {
      shape =
          subst (λ k. ShapeInvariant s k (shape_of v) (shape_of w) w.resync (may_vary w) vals_now spent b) (sym losing.number)
          (subst (λ k. ShapeInvariant s n (shape_of v) (shape_of w) k (may_vary w) vals_now spent b) (sym losing.resync)
          (subst (λ (g : Shape). ShapeInvariant s n (shape_of v) g v.resync (may_vary w) vals_now spent b) (sym losing.shape) shape_now));
      mark = λ marked. absurd (unmarked (losing.marked marked));
      alone = λ r left place current other.
          subst (λ k. super_in s r k place ≡ None) (sym losing.number)
          (all_alone r (all_after r left) place current
          (λ k small at. other k (subst (λ (u : Super). k < u.raid_disks) (sym losing.truth) small)
          (ap (λ (u : Super). unwrap_or (place_with u.roles.items k) 16) losing.truth ∙ at)));
      closed = λ none.
          subst (λ k. NothingPending k b) (sym losing.number)
          (λ c picks place t.
          replayed_as_is b.sectors c (member_slice place n) t
          (ap (λ (ys : List Target). look ys (member_slice place n) t)
          (elim (kept.idle c picks) [
            | inl nothing ↦ nothing
            | inr one ↦ absurd (both_ways (names [] one.0) refl (ap (λ (ps : List ℕ). names ps one.0) (sym (nobody none)) ∙ one.2))
          ])
          ∙ look_nothing (member_slice place n) t));
      truth = λ r left t is. subst (IsEarlier t) (sym losing.truth) (all_truth r (all_after r left) t (subst (λ k. truth_in s r k ≡ Some t) losing.number is));
    }

  no_log : (d t : ℕ) → IsApart v.number d t → IsLogPart d t → ⊥
  no_log d t apart part = elim apart.1 [ inl other ↦ other part.0 | inr first ↦ (let later = part.1 in absurd (omega (arith, first, later))) ]

  pub logged_moves : CallRefines v.number a b H (ImageShowsArray s v.number (shape_of v) (appended_at x from vals) spent) (ArrayInvariant s (shape_of v) w (appended_at x from vals) spent b)
  logged_moves = record {
    stays = commit.stays;
    leaves = λ traced.
        leaves_weaker (λ c. LogsInside a.sectors c → ImageInCommit l.added a c × StandsMidway l on a c)
        (λ c. IsInside a.sectors c → ImageInCall v.number a b (λ r. H → ImageShowsArray s v.number (shape_of v) (appended_at x from vals) spent r) c)
        (λ c found inside.
        let both = found (λ place i out. inside (log_slice place) i out) in
        let commits = both.0 in
        let before = commits.before in
        let picks = before_inside xs a c before inside commits.stands commits.either in
        record {
          before = replayed a.sectors before;
          left = (before, picks, λ d t. refl);
          others = λ d t apart. elim commits.either [
            | inl old ↦ old d t (no_log d t apart)
            | inr new ↦ new d t (no_log d t apart) ∙ put_none a.sectors xs before d t (apart_none d t apart) ∙ sym (quiet before (logs_of before picks) d t)
          ];
          own = λ holds. elim commits.either [
            | inl old ↦ old_says holds c before picks old
            | inr new ↦ all_says holds (replayed a.sectors c) (record { before = before; picks = picks; alike = λ place t. new (member_slice place n) t (not_log place t) })
          ];
          whole = commits.whole;
          calm = λ calm d t apart. midway_none l on a c d t both.1 (apart_none d t apart) (λ e stand. calm e stand d t apart);
          bounded = midway_inside l on a c both.1 ready;
        })
        (commit_moments l on lost a b commit traced ready decides);
    holds = holds_now;
    apart = λ d t live apart. commit.apart d t live (no_log d t apart) (apart_none d t apart);
    calm = λ calm c picks d t apart. rests_none (next_number l.number) l.added lost c d t (commit.rests ready decides c picks) (apart_none d t apart);
    bounded = λ bounded. rests_inside l on lost a b commit ready decides;
  }
