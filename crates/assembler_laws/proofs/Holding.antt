-- The rack of a pool's arrays holds what the pool's contents give.
use Rattle.std.proofs.Common.{◌≡◌, ◌⊎◌, ℕ, ◌+◌, ◌^◌, ◌<◌, ◌≤◌, Bool, true, false, ◌&&◌, ◌||◌, not, nat_lt, is_none, List, [], ◌∷◌, filter, slice_get, Some, None, inl, inr, refl, sym, ap, subst, ◌∙◌, eq-eqb, lt-ltb, arith}
use Rattle.std.specs.List.{list_any, range_with_len}
use Rattle.std.proofs.lemmas.Bool.{and_parts, both_ways, cases_Bool}
use Rattle.rack.specs.Values.{MayLeave}
use Rattle.rack.specs.Seen.{Image, RackView, IsLive, Rose, SameRack}
use Rattle.rack.specs.Joins.{leaves_same, leaves_then, leaves_weaker, stays_same}
use Rattle.rack.specs.Moments.{Leaves}
use Rattle.rack.specs.Sequences.{OnlyReads}
use Rattle.rack.specs.Targets.{look}
use Rattle.slice_rack.specs.Slices.{Slices, IsOrderly, seat_of, sectors_of}
use Rattle.slice_rack.specs.Sliced.{slices_of as slices_seen}
use Rattle.md_super.specs.declared.superblock.Super.{Super}
use Rattle.pool_state.specs.declared.contents.State.{State}
use Rattle.array_image.specs.Places.{data_sector, log_slice, member_slice}
use Rattle.array_image.specs.States.{current_places, is_current}
use Rattle.array_image.specs.Held.{IsSynced, held_by}
use Rattle.array_image.specs.Left.{NothingPending, IsInside, IsLeft, reading}
use Rattle.array_image.specs.SoundArray.{array_fields}
use Rattle.array_image.specs.Supers.{is_unclean, truth_in}
use Rattle.array_image.proofs.Frames.{Agree, supers_same, truth_by_supers}
use Rattle.array_image.proofs.Sources.{held_single}
use Rattle.log_laws.specs.View.{LogView, left_of}
use Rattle.log_laws.specs.Opening.{Finds, ReplayCall}
use Rattle.array_model.specs.View.{View, IsArray, has_gone, shape_of, sectors_of as array_sectors_of}
use Rattle.array_model.specs.Opened.{OpensOn}
use Rattle.array_model.proofs.Keeping.{live_on}
use Rattle.std.specs.Option.{option_map_or}
use Rattle.array_model.specs.declared.Seat.TheVariants.{Missing}
use Rattle.array_core.specs.Opening.{seat_by}
use Rattle.array_core.specs.Seats.{gone, names, restarted}
use Rattle.array_core.specs.TruthHeld.{HoldTruth}
use Rattle.array_core.specs.Slots.{place_by}
use Rattle.array_core.proofs.Stripped.{some_same}
use Rattle.pool_scan.proofs.Valid.{valid_arrays}
use Rattle.array_image.specs.Arrays.{array_in, replayed, value_by}
use Rattle.pool_image.specs.Drives.{Found, slices_of}
use Rattle.pool_image.specs.Meaning.{super_at, truth_of}
use Rattle.pool_check.specs.declared.Checked.{Checked}
use Rattle.pool_check.specs.Checking.{IsChecked}
use Rattle.pool_check.specs.Refusing.{is_well}
use Rattle.raid_laws.specs.Agreeing.{AgreeLeaving, MakesAgree, SupersAgree}
use Rattle.raid_laws.specs.Cleaning.{NoneFails}
use Rattle.raid_laws.proofs.Agreed.{agree_by}
use Rattle.raid_laws.specs.Losing.{arrays_same}
use Rattle.raid_laws.specs.Truths.{KeepsTruths, MakesTruths}
use Rattle.raid_laws.specs.Raid.{AreLive, IsTracked, Raid, gone_in, held_in, is_failed, spent_of}
use Rattle.raid_laws.specs.Book.{OnlyMarksSince}
use Rattle.raid_laws.specs.Marking.{SaysBetween}
use Rattle.raid_laws.specs.Moves.{IsHeeded, IsSet, KeepsArrays, Mends}
use Rattle.raid_laws.specs.Opening.{OpenedRaid, OpensRaid}
use Rattle.raid_laws.proofs.Added.{names_current}
use Rattle.raid_laws.proofs.Noted.{gone_from, gone_not, gone_some}
use Rattle.raid_laws.proofs.Opening.{IsAtRest, opened_raid, opens_raid}
use Rattle.raid_laws.proofs.Seated.{names_joined}
use Rattle.assembler_laws.specs.Members.{AreMembers}
use Rattle.pool_model.specs.Left.{LeavesClean}
use Rattle.pool_model.specs.Pools.{IsSoundPool}
use Rattle.assembler_laws.specs.Holding.{AreSteady, HoldPool, HoldsArrays, IsArrayOf, IsIdle, IsPoolOn, pool_values}
use Rattle.assembler_laws.proofs.Amid.{closing_leaves, says_only}
use Rattle.assembler_laws.proofs.Clean.{clean_left}
use Rattle.assembler_laws.proofs.Founded.{array_founded}
use Rattle.assembler_laws.proofs.Arrays.{array_room, array_whole, array_read, array_values, opens_array, seats_read, sectors_are}
use Rattle.assembler_laws.proofs.Rest.{copies_agree, log_there, opened_now}
use Rattle.assembler_laws.proofs.Agreeing.{fresh_agrees, left_reads}
use Rattle.assembler_laws.proofs.Shows.{few_made, few_place, got, live as live_at, none_past}
use Rattle.assembler_laws.proofs.Still.{opens_still, rest_closed}
use Rattle.assembler_laws.proofs.TruthFound.{hold_agreed, live_tells}
use Rattle.assembler_laws.proofs.Truthful.{truth_now}
use Rattle.assembler_laws.proofs.Whole.{whole_member}

-- what a log finds goes by which places were asked, and not by their order
finds_named : (l : LogView) (on other : List ℕ) (is_pending : Bool) (c : Image) → ((p : ℕ) → names on p ≡ names other p)
    → Finds l on (left_of on []) is_pending None c → Finds l other (left_of other []) is_pending None c
finds_named l on other is_pending c same finds =
    let all : names on ≡ names other = λ i p. same p i in
    let left : left_of on [] ≡ left_of other [] = ap (λ (g : ℕ → Bool). filter (λ p. g p && not (names [] p)) (range_with_len 0 16)) all in
    subst (λ (ps : List ℕ). Finds l other ps is_pending None c) left (record {
      damaged_is = finds.damaged_is;
      is_pending_is = finds.is_pending_is;
      targets = finds.targets;
      each = finds.each;
      above = finds.above;
      number = elim finds.number [
        | inl none ↦ inl none
        | inr some ↦ inr (some.0, some.1, sym (same some.0) ∙ some.2, some.3, some.4)
      ];
      open_is = finds.open_is;
      opened = λ is. let some = finds.opened is in (some.0, some.1, sym (same some.0) ∙ some.2, some.3, some.4);
    })

module _ (f : Found) (t : Slices) (x : RackView) (checked : Checked) (absent : List ℕ) (orderly : IsOrderly t)
    (m : AreMembers f.state t x checked absent) (steady : AreSteady x) (pool : IsPoolOn f.state t x f)
    (found : IsChecked (is_well None) f checked) (sound : IsSoundPool f)
    (rules : (n : ℕ) (v : View) → slice_get checked.arrays.items n ≡ Some v → IsArray v)
    (arrays : ℕ → View) (number : ℕ)
    (are : (n : ℕ) (u : View) → slice_get checked.arrays.items n ≡ Some u → arrays n ≡ gone absent (restarted u)) where
  abbrev pub v : Raid
  v = record { state = f.state; arrays = arrays; number = number }

  made_some : 0 < f.state.made
  made_some = let least = (valid_arrays f.state 0 m.valid).0 in omega (arith, least)

  array_at : (n : ℕ) → n < f.state.made → (u : View) × (slice_get checked.arrays.items n ≡ Some u)
  array_at n made = got checked.arrays.items n (let count = m.founded.count in omega (arith, made, count))

  -- the absent places alone went in the arrays
  went_is : (n p : ℕ) → n < f.state.made → p < 16 → has_gone (arrays n) p ≡ names absent p
  went_is n p made low =
      let at = array_at n made in
      ap (λ (u : View). has_gone u p) (are n at.0 at.1) ∙ names_joined at.0.went absent p low
      ∙ ap (λ (ps : List ℕ). names ps p || names absent p) (ap (λ (u : View). u.went) (found.opened.each n at.0 at.1).view)

  left_here : (p : ℕ) → is_current f.state p ≡ true → gone_in v p ≡ false → names absent p ≡ false
  left_here p current left =
      let low = few_place f t x checked absent orderly m steady pool found.opened p current in
      sym (went_is 0 p made_some low) ∙ gone_not v p 0 low made_some left

  pub not_gone : (p : ℕ) → names absent p ≡ false → gone_in v p ≡ false
  not_gone p here = elim (cases_Bool (gone_in v p)) [
    | inr left ↦ left
    | inl is ↦
        let at = gone_some v p is in
        absurd (both_ways (names absent p) here (sym (went_is at.1.0 p at.1.1 at.0) ∙ at.1.2))
  ]

  -- a place that has a disk
  someone : (p d : ℕ) × (seat_of t p ≡ Some d)
  someone =
      let at = array_at 0 made_some in
      let whole = whole_member f.state (seat_of t) 0 at.0 (m.founded.each 0 at.0 at.1) (rules 0 at.0 at.1) in
      (whole.0, whole.1, whole.3)

  pub seated_here : (p d : ℕ) → seat_of t p ≡ Some d → names absent p ≡ false
  seated_here p d seat = m.absent_is p ∙ ap (λ o. is_none o && is_current f.state p) seat

  low_joined : (n : ℕ) → n < f.state.joined → n < f.state.made
  low_joined n less = let ready = (valid_arrays f.state 0 m.valid).3 in omega (arith, less, ready)

  -- ---- before the marks

  module _ (l : LogView) (number_is : number ≡ l.number) (log : IsIdle f.state t x l) where
    pub rests : IsAtRest v l log.on (slices_seen t x)
    rests =
        let rest = opened_now f t x checked absent orderly m steady pool found sound l log someone.0 someone.1 someone.2 in
        let few = valid_arrays f.state 0 m.valid in
        record {
          opened = rest;
          idle = log.none;
          none = none_past f t x checked absent orderly m steady pool found.opened;
          number = number_is;
          there = λ p current left. log_there f t x checked absent orderly m steady pool found sound p current (left_here p current left);
          copies = copies_agree f t x checked absent orderly m steady pool found sound (gone_in v) left_here;
          someone = (someone.0, m.current someone.0 someone.1 someone.2, not_gone someone.0 (seated_here someone.0 someone.1 someone.2));
          few = (let made = few.1 in let ready = few.3 in omega (arith, made, ready));
          made = few.1;
          ready = few.3;
          numbers = λ n less.
              let at = array_at n (low_joined n less) in
              ap (λ (u : View). u.number) (are n at.0 at.1) ∙ ap (λ (u : View). u.number) (found.opened.each n at.0 at.1).view;
          arrays = λ n less.
              let at = array_at n (low_joined n less) in
              subst (λ (u : View). OpensOn f.state u (slices_seen t x)) (sym (are n at.0 at.1))
              (opens_array f t x checked absent orderly m steady pool found.opened rules sound n less (low_joined n less) at.0 at.1
              (rest_closed f.state l log.on (slices_seen t x) rest log.none n));
        }

  -- nothing is done where a place is absent
  pub holds_still : (l : LogView) → number ≡ l.number → IsIdle f.state t x l → (absent ≡ [] → ⊥) → OpensRaid v (slices_seen t x)
  holds_still l number_is log some = opens_still v l log.on (slices_seen t x) (rests l number_is log) (away absent refl)
    where
      away : (ps : List ℕ) → absent ≡ ps → (p : ℕ) × (is_current f.state p ≡ true) × (gone_in v p ≡ true)
      away [] none = absurd (some none)
      away (p ∷ ps) is =
          let named : names absent p ≡ true = ap (λ qs. names qs p) is ∙ ap (λ b. b || names ps p) (eq-eqb p p refl) in
          let current = (and_parts (is_none (seat_of t p)) (is_current f.state p) (sym (m.absent_is p) ∙ named)).1 in
          let low = few_place f t x checked absent orderly m steady pool found.opened p current in
          (p, current, gone_from v p 0 low made_some (went_is 0 p made_some low ∙ named))

  -- where no place is absent the log is that of all current places
  module _ (l : LogView) (log : IsIdle f.state t x l) (none : absent ≡ []) where
    here : (p : ℕ) → is_current f.state p ≡ (is_current f.state p && nat_lt 0 (sectors_of t (log_slice p)))
    here p = elim (cases_Bool (is_current f.state p)) [
      | inr other ↦ other ∙ sym (ap (λ (b : Bool). b && nat_lt 0 (sectors_of t (log_slice p))) other)
      | inl current ↦
          current
          ∙ sym (ap (λ (b : Bool). b && nat_lt 0 (sectors_of t (log_slice p))) current
          ∙ lt-ltb 0 (sectors_of t (log_slice p))
          (log_there f t x checked absent orderly m steady pool found sound p current (ap (λ (ps : List ℕ). names ps p) none)))
    ]

    abbrev idle_all : IsIdle f.state t x l
    idle_all = record {
      on = current_places f.state;
      places = λ p. names_current f.state p ∙ here p;
      is_pending = log.is_pending;
      finds = finds_named l log.on (current_places f.state) log.is_pending (reading (slices_seen t x))
          (λ p. log.places p ∙ sym (here p) ∙ sym (names_current f.state p)) log.finds;
      none = log.none;
    }

    -- then gates are closed
    module _ (number_is : number ≡ l.number) (b : RackView) (replay : ReplayCall l (current_places f.state) [] (slices_seen t x) b) where
      pub holds_closed : OpensRaid v b
      holds_closed = opens_raid v l (current_places f.state) (slices_seen t x) b (rests l number_is idle_all) replay

      pub says_closing : (n : ℕ) → n < f.state.joined → (w : State) (spent : ℕ → Bool) → OnlyMarksSince f.state w → x.traced
          → Leaves (slices_seen t x) b (λ c. IsInside (sectors_of t) c → SaysBetween f.state w n (pool_values f n) spent (replayed (sectors_of t) c))
      says_closing n less w spent after =
          let made = low_joined n less in
          let at = array_at n made in
          closing_leaves v l (current_places f.state) (slices_seen t x) (rests l number_is idle_all) n less b replay w (pool_values f n) spent after
          (λ y. inl (ap (λ (z : View). value_by (shape_of z) (reading (slices_seen t x)) n y) (are n at.0 at.1)
          ∙ array_read f t x checked absent orderly m steady pool found.opened rules sound n less made at.0 at.1 y))

  -- closing gates moves no sector of an array
  pub data_kept : (l : LogView) → l.pending ≡ [] → (b : RackView) → ReplayCall l (current_places f.state) [] (slices_seen t x) b
      → (n place s : ℕ) → n < 16 → IsLive (slices_seen t x) (slices_seen t x) (member_slice place n) s
      → (b.held (member_slice place n) s).current ≡ ((slices_seen t x).held (member_slice place n) s).current
  unfolding look
  data_kept l idle b replay n place s low live =
      (replay.apart (member_slice place n) s (live_on m.lasting replay.stays live)
      (λ shutting. let slice = shutting.slice in absurd (omega (arith, slice, low)))
      (ap (λ xs. look xs (member_slice place n) s) idle)).current

  -- where no superblock was stale and none is absent, they agree in whatever calls leave that only read, and their truth is the pool's
  pub agree_still : (l : LogView) → number ≡ l.number → IsIdle f.state t x l → absent ≡ [] → list_any (λ flag. flag) checked.stale.items ≡ false
      → (b : RackView) → OpensRaid v b → SameRack (slices_seen t x) b
      → ((n place s : ℕ) → n < 16 → IsLive (slices_seen t x) (slices_seen t x) (member_slice place n) s
      → (b.held (member_slice place n) s).current ≡ ((slices_seen t x).held (member_slice place n) s).current)
      → (w : Raid) (c : RackView) → OnlyReads b c → w.state ≡ f.state → IsHeeded w → OpenedRaid v w b c
      → (n : ℕ) → n < f.state.joined → is_failed w n ≡ false → (r : Image) → IsLeft c r
      → SupersAgree w.state r n × LeavesClean f w.state n r × (truth_in w.state r n ≡ truth_of f n)
  agree_still l number_is log none fresh b opens stays kept w c reads same heeded marks n less goes r left =
      let a = slices_seen t x in
      let made = low_joined n less in
      let at = array_at n made in
      let few = few_made f t x checked absent orderly m steady pool found.opened n made in
      let told = marks.told n less in
      let stood = told.stood goes in
      let made_now : n < w.state.made = subst (λ (s : State). n < s.made) (sym same) made in
      let sectors : (d : ℕ) → c.sectors d ≡ a.sectors d = λ d. reads.stays.sectors d ∙ stays.sectors d in
      let live : (place u : ℕ) → place < 16 → u < c.sectors (member_slice place n) → IsLive c c (member_slice place n) u =
      λ place u low inside. told.slices goes n place u made_now low inside in
      let agree : Agree n r (reading a) =
      left_reads n a c (λ d high. sectors d ∙ none_past f t x checked absent orderly m steady pool found.opened d high) sectors
      (subst (λ k. NothingPending k c) stood.number (stood.holds.closed (heeded n made_now))) live
      (λ place u value low inside may.
      let d = member_slice place n in
      let early : u < b.sectors d = subst (λ k. u < k) (reads.stays.sectors d) inside in
      let before = opens.slices n place u made low early in
      let first : IsLive a a d u = live_at f t x checked absent orderly m steady pool found.opened d u (subst (λ k. u < k) (sectors d) inside) in
      let both : IsLive b c d u = live_on (opens_lasting stays) reads.stays before in
      subst (λ j. IsLive b b (member_slice place j) u → value ≡ (b.held (member_slice place j) u).current) (opens.numbers n less)
      (λ there. (opens.arrays n less).single place u there value
      (subst (λ j. MayLeave (b.held (member_slice place j) u) value) (sym (opens.numbers n less)) ((reads.keeps.held d u both).within value may))) before
      ∙ kept n place u few first)
      r left in
      let of = found.opened.each n at.0 at.1 in
      let here : truth_in f.state r n ≡ Some of.truth =
      truth_by_supers f.state r (reading a) n (supers_same f.state r (reading a) n agree)
      ∙ truth_now f t x checked absent orderly m steady pool found.opened n made of.truth of.truth_is (sound.own n of.truth made of.truth_is) in
      subst (λ (s : State). SupersAgree s r n × LeavesClean f s n r × (truth_in s r n ≡ truth_of f n)) (sym same) (
        agree_by f.state r (reading a) n agree (fresh_agrees f t x checked absent orderly m steady pool found.opened sound none fresh n made at.0 at.1),
        λ before now truth clean is. ap is_unclean (some_same now before (sym is ∙ here ∙ sym of.truth_is ∙ truth)) ∙ clean,
        here ∙ sym of.truth_is,
      )
    where
      opens_lasting : {b : RackView} → SameRack (slices_seen t x) b → b.lasting
      opens_lasting stays = stays.lasting m.lasting

  -- ---- after the marks

  -- an array's sectors have one value, which is that of the pool
  pub value_held : (b : RackView) → OpensRaid v b
      → ((n place s : ℕ) → n < 16 → IsLive (slices_seen t x) (slices_seen t x) (member_slice place n) s
      → (b.held (member_slice place n) s).current ≡ ((slices_seen t x).held (member_slice place n) s).current)
      → (n y : ℕ) (u : List ℕ) → n < f.state.joined → MayLeave (held_in v b n y) u → u ≡ array_in f.state (slices_of f) n y
  value_held b opens kept n y u less may =
      let made = low_joined n less in
      let at = array_at n made in
      let few = few_made f t x checked absent orderly m steady pool found.opened n made in
      let array = opens.arrays n less in
      let settled : IsSynced (shape_of (arrays n)) n b.held =
      subst (λ k. IsSynced (shape_of (arrays n)) k b.held) (opens.numbers n less)
      (λ k s among counts. array.single k.place (data_sector + s) (array.open_slices k s among counts)) in
      held_single (shape_of (arrays n)) n b.held y settled u may
      ∙ ap (λ (z : View). (held_by (shape_of z) b.held n y).current) (are n at.0 at.1)
      ∙ array_values f t x checked absent orderly m steady pool found.opened rules sound n less made at.0 at.1 b.held (λ place s. kept n place s few) y

  pub holds_marked : (b : RackView) → OpensRaid v b → SameRack (slices_seen t x) b
      → ((n place s : ℕ) → n < 16 → IsLive (slices_seen t x) (slices_seen t x) (member_slice place n) s
      → (b.held (member_slice place n) s).current ≡ ((slices_seen t x).held (member_slice place n) s).current)
      → ((n : ℕ) → n < f.state.joined → (w : State) (spent : ℕ → Bool) → OnlyMarksSince f.state w → x.traced
      → Leaves (slices_seen t x) b (λ c. IsInside (sectors_of t) c → SaysBetween f.state w n (pool_values f n) spent (replayed (sectors_of t) c)))
      → (w : Raid) (c : RackView) → OnlyMarksSince f.state w.state → w.state.plan ≡ f.state.plan → ((n : ℕ) → array_sectors_of (w.arrays n) ≡ array_sectors_of (arrays n))
      → OpenedRaid v w b c
      → ((n : ℕ) → n < f.state.joined → is_failed w n ≡ false → (r : Image) → IsLeft c r → SupersAgree w.state r n × LeavesClean f w.state n r)
      → ((n : ℕ) → n < f.state.joined → is_failed w n ≡ false → HoldTruth (w.arrays n) c)
      → ((n : ℕ) (z : Super) → n < f.state.joined → truth_of f n ≡ Some z → IsArrayOf f n z (w.arrays n))
      → HoldsArrays f w (slices_seen t x) c
  holds_marked b opens stays kept closing w c after plan sizes marks agree truths founds = record {
    after = after;
    plan = plan;
    arrays = founds;
    agree = λ n less goes r left. (agree n less goes r left).0;
    clean = λ n less goes r left. (agree n less goes r left).1;
    truths = truths;
    told = marks.told;
    sectors = λ n less.
        let made = low_joined n less in
        let at = array_at n made in
        sizes n ∙ ap array_sectors_of (are n at.0 at.1)
        ∙ sectors_are f t x checked absent orderly m steady pool found.opened rules sound n less made at.0 at.1;
    whole = λ n y less.
        let made = low_joined n less in
        let at = array_at n made in
        array_whole f t x checked absent orderly m steady pool found.opened rules sound n less made at.0 at.1 y;
    room = λ n less.
        let made = low_joined n less in
        let at = array_at n made in
        array_room f t x checked absent orderly m steady pool found.opened rules sound n less made at.0 at.1;
    values = λ n y u less alive may. value_held b opens kept n y u less ((marks.keeps n y less alive).within u may);
    leaves = λ n less goes traced.
        let says : (ℕ → ℕ) → Image → Type 0 = λ sectors i. IsInside sectors i → SaysBetween f.state w.state n (pool_values f n) (spent_of w n) (replayed sectors i) in
        let marking : Leaves b c (says b.sectors) =
        leaves_weaker (λ i. IsInside b.sectors i → SaysBetween f.state w.state n (held_in v b n) (spent_of w n) (replayed b.sectors i)) (says b.sectors)
        (λ i said inside. says_only f.state w.state n (held_in v b n) (pool_values f n) (spent_of w n) (replayed b.sectors i)
        (λ y u may. inl (value_held b opens kept n y u less may)) (said inside))
        (marks.leaves n less goes (stays.traced traced)) in
        leaves_then (says (sectors_of t)) (closing n less w.state (spent_of w n) after traced)
        (subst (λ sectors. Leaves b c (says sectors)) (λ i d. stays.sectors d i) marking);
  }

-- ---- as the rack is made

-- nobody went in calls in which no disk refused one
pub nobody_went : (l : LogView) (on lost : List ℕ) (a b : RackView) → ReplayCall l on lost a b → ((d : ℕ) → Rose (a.faults d) (b.faults d) → ⊥) → lost ≡ []
nobody_went l on [] a b replay quiet = refl
nobody_went l on (p ∷ lost) a b replay quiet =
    absurd (let cause = replay.gone.cause p (ap (λ (k : Bool). k || names lost p) (eq-eqb p p refl)) in quiet cause.0 cause.2)

module _ (f : Found) (s : State) (t : Slices) (x : RackView) (checked : Checked) (absent gone_now : List ℕ) (orderly : IsOrderly t) (l : LogView)
    (holds : HoldPool s t x l f) (found : IsChecked (is_well None) f checked) (members : AreMembers s t x checked absent)
    (rules : (n : ℕ) (v : View) → slice_get checked.arrays.items n ≡ Some v → IsArray v)
    (v : Raid) (state : v.state ≡ s) (number : v.number ≡ l.number)
    (are : (n : ℕ) (u : View) → slice_get checked.arrays.items n ≡ Some u → v.arrays n ≡ gone gone_now (restarted u)) where
  same : s ≡ f.state
  same = sym holds.pool.state

  pub m : AreMembers f.state t x checked absent
  m = subst (λ k. AreMembers k t x checked absent) same members

  pub pool : IsPoolOn f.state t x f
  pool = subst (λ k. IsPoolOn k t x f) same holds.pool

  pub log : IsIdle f.state t x l
  log = subst (λ k. IsIdle k t x l) same holds.log

  abbrev pub before : Raid
  before = record { state = f.state; arrays = v.arrays; number = v.number }

  pub before_is : v ≡ before
  before_is = ap (λ k. record { state = k; arrays = v.arrays; number = v.number }) (state ∙ same)

  ready : before.state.joined ≤ before.state.made
  ready = (valid_arrays f.state 0 m.valid).3

  pub founds : gone_now ≡ absent → (w : Raid) → KeepsArrays v w → (n : ℕ) (z : Super) → n < f.state.joined → truth_of f n ≡ Some z → IsArrayOf f n z (w.arrays n)
  founds nobody w keeps n z less truth =
      let made : n < f.state.made = (let least = ready in omega (arith, least, less)) in
      let at = got checked.arrays.items n (let count = m.founded.count in omega (arith, made, count)) in
      array_founded f n z at.0 (v.arrays n) (w.arrays n) gone_now (found.opened.each n at.0 at.1) less truth (are n at.0 at.1)
      (keeps n (subst (λ (k : State). n < k.made) (sym (state ∙ same)) made))
      (subst (λ (tr : Super). (k : ℕ) → k < tr.raid_disks → slice_get (v.arrays n).seats k ≡ Some (option_map_or seat_by (super_at f n (place_by tr k)) Missing))
      (some_truth (found.opened.each n at.0 at.1).truth z (sym (found.opened.each n at.0 at.1).truth_is ∙ truth))
      (λ k low. ap (λ (w : View). slice_get w.seats k) (are n at.0 at.1 ∙ ap (λ ps. gone ps (restarted at.0)) nobody)
      ∙ seats_read f t x checked absent orderly m holds.steady pool found.opened rules holds.sound n less made at.0 at.1 k low))
    where
      some_truth : (a b : Super) → Some a ≡ Some b → a ≡ b
      some_truth a b same = cc

  -- after a commit of superblocks they leave no row to resync where the pool's leave none
  marked_clean : gone_now ≡ absent → (w : Raid) → KeepsArrays v w → (c : RackView) → (n : ℕ) → n < f.state.joined → IsTracked w c n → is_failed w n ≡ false → (r : Image) → IsLeft c r
      → AgreeLeaving (before.arrays n) w.state r n → SupersAgree w.state r n × LeavesClean f w.state n r
  marked_clean nobody w keeps c n less told goes r left at = (
    at.agree,
    clean_left f n before w c (λ z truth. founds nobody before (arrays_same v) n z less truth) (λ z truth. founds nobody w keeps n z less truth) small told goes r left at,
  )
    where
      small : (z : Super) → truth_of f n ≡ Some z → z.size < 2 ^ 48
      small z truth =
          let one = got checked.arrays.items n (let count = m.founded.count in let most = ready in omega (arith, less, most, count)) in
          let of = found.opened.each n one.0 one.1 in
          subst (λ (k : Super). k.size < 2 ^ 48) (ap (λ (k : View). k.truth) of.view ∙ some_same of.truth z (sym of.truth_is ∙ truth)) (rules n one.0 one.1).small

  low_made : (n : ℕ) → n < f.state.joined → n < v.state.made
  low_made n less =
      let is = ap (λ (k : State). k.made) (state ∙ same) in
      let least = ready in
      omega (arith, least, less, is)

  -- superblocks that were all written say their arrays' truths
  made_truths : (w : Raid) (b c : RackView) → IsSet v b → OpensRaid before b → MakesTruths v w b c → (n : ℕ) → n < f.state.joined → HoldTruth (w.arrays n) c
  made_truths w b c set opens makes n less =
      makes n (low_made n less)
      (live_tells v b n set (subst (λ k. AreLive k b) (sym (ap (λ (k : State). k.made) (state ∙ same))) opens.slices) (low_made n less))

  -- where a place is absent
  pub rack_still : (absent ≡ [] → ⊥) → gone_now ≡ absent → (w : Raid) (c : RackView) → Mends v w (slices_seen t x) c → MakesAgree v w (slices_seen t x) c → NoneFails (slices_seen t x) c
      → IsSet v (slices_seen t x) → MakesTruths v w (slices_seen t x) c → HoldsArrays f w (slices_seen t x) c
  rack_still away none w c mends agree quiet set makes =
      let now : (n : ℕ) (u : View) → slice_get checked.arrays.items n ≡ Some u → before.arrays n ≡ gone absent (restarted u) =
      λ n u is. are n u is ∙ ap (λ ps. gone ps (restarted u)) none in
      let opens = holds_still f t x checked absent orderly m holds.steady pool found holds.sound rules v.arrays v.number now l number log away in
      let marks = opened_raid before w (slices_seen t x) c opens ready (subst (λ k. Mends k w (slices_seen t x) c) before_is mends) in
      holds_marked f t x checked absent orderly m holds.steady pool found holds.sound rules v.arrays v.number now
      (slices_seen t x) opens (stays_same (slices_seen t x) m.fit) (λ n place k low live. refl)
      (λ n less k spent after traced. leaves_same (slices_seen t x) (λ i. IsInside (sectors_of t) i → SaysBetween f.state k n (pool_values f n) spent (replayed (sectors_of t) i)))
      w c (subst (λ k. OnlyMarksSince k w.state) (state ∙ same) mends.moves.book) (mends.moves.plan ∙ ap (λ (k : State). k.plan) (state ∙ same)) mends.moves.sectors marks
      (λ n less goes r left.
      marked_clean none w mends.moves.arrays c n less (marks.told n less) goes r left
      (marks.agree (subst (λ k. MakesAgree k w (slices_seen t x) c) before_is agree) quiet n less goes r left))
      (λ n less goes. made_truths w (slices_seen t x) c set opens makes n less)
      (founds none w mends.moves.arrays)

  -- where none is, and none goes
  pub rack_closed : absent ≡ [] → gone_now ≡ [] → (b : RackView) → ReplayCall l (current_places s) gone_now (slices_seen t x) b
      → (w : Raid) (c : RackView) → Mends v w b c
      → IsSet v b
      → (MakesAgree v w b c × NoneFails b c × MakesTruths v w b c)
      ⊎ (OnlyReads b c × (w.state ≡ v.state) × (list_any (λ flag. flag) checked.stale.items ≡ false) × IsSet v c × KeepsTruths v w c c)
      → HoldsArrays f w (slices_seen t x) c
  rack_closed none nobody b replay w c mends set either =
      let now : (n : ℕ) (u : View) → slice_get checked.arrays.items n ≡ Some u → before.arrays n ≡ gone absent (restarted u) =
      λ n u is. are n u is ∙ ap (λ ps. gone ps (restarted u)) (nobody ∙ sym none) in
      let call : ReplayCall l (current_places f.state) [] (slices_seen t x) b =
      subst (λ k. ReplayCall l (current_places k) [] (slices_seen t x) b) same
      (subst (λ lost. ReplayCall l (current_places s) lost (slices_seen t x) b) nobody replay) in
      let opens = holds_closed f t x checked absent orderly m holds.steady pool found holds.sound rules v.arrays v.number now l log none number b call in
      let kept = data_kept f t x checked absent orderly m holds.steady pool found holds.sound rules v.arrays v.number now l log.none b call in
      let marks = opened_raid before w b c opens ready (subst (λ k. Mends k w b c) before_is mends) in
      holds_marked f t x checked absent orderly m holds.steady pool found holds.sound rules v.arrays v.number now
      b opens replay.stays kept
      (says_closing f t x checked absent orderly m holds.steady pool found holds.sound rules v.arrays v.number now l log none number b call)
      w c (subst (λ k. OnlyMarksSince k w.state) (state ∙ same) mends.moves.book) (mends.moves.plan ∙ ap (λ (k : State). k.plan) (state ∙ same)) mends.moves.sectors marks
      (elim either [
        | inl made ↦ λ n less goes r left.
            marked_clean (nobody ∙ sym none) w mends.moves.arrays c n less (marks.told n less) goes r left
            (marks.agree (subst (λ k. MakesAgree k w b c) before_is made.0) made.1 n less goes r left)
        | inr still ↦ λ n less goes r left.
            let at = agree_still f t x checked absent orderly m holds.steady pool found holds.sound rules v.arrays v.number now l number log none still.2 b opens replay.stays kept w c
            still.0 (still.1 ∙ state ∙ same) mends.heeded marks n less goes r left in
            (at.0, at.1)
      ])
      (elim either [
        | inl made ↦ λ n less goes. made_truths w b c set opens made.2 n less
        | inr still ↦ λ n less goes.
            let made = low_made n less in
            let one = got checked.arrays.items n (let count = m.founded.count in let least = ready in omega (arith, least, less, count)) in
            let of = found.opened.each n one.0 one.1 in
            let truth : (v.arrays n).truth ≡ of.truth = ap (λ (u : View). u.truth) (are n one.0 one.1) ∙ ap (λ (u : View). u.truth) of.view in
            let told = marks.told n less in
            still.4 n made
            (hold_agreed v c n still.3 made (λ i stands d u. (told.stood goes).log.quiet i stands d u refl) of.truth (ap array_fields (sym truth))
            (λ r left.
            let at = agree_still f t x checked absent orderly m holds.steady pool found holds.sound rules v.arrays v.number now l number log none still.2 b opens replay.stays kept w c
            still.0 (still.1 ∙ state ∙ same) mends.heeded marks n less goes r left in
            subst (λ (k : State). SupersAgree k r n × (truth_in k r n ≡ Some of.truth)) still.1 (at.0, at.2 ∙ of.truth_is))
            (subst (λ (k : State). AreLive k.made c) still.1 (told.slices goes)))
      ])
      (founds (nobody ∙ sym none) w mends.moves.arrays)
