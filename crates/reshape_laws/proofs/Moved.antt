-- A commit of sectors of an array's members and of superblocks of any next truth of it, with members that join (array_sync's Moved, for any next truth): at each moment contents say the array before it with
-- the superblocks from before, or the array after it with the new ones, and its values stay.
use Rattle.std.proofs.Common.{◌≡◌, ℕ, ◌+◌, ◌<◌, ◌≤◌, Bool, true, false, List, [], ◌++◌, map, length, Option, Some, None, unwrap_or, refl, sym, ap, subst, ◌∙◌, inl, inr, arith}
use Rattle.std.proofs.lemmas.Bool.{both_ways}
use Rattle.std.specs.Option.{option_map_or}
use Rattle.rack.specs.Values.{Values, MayLeave, IsSingle, only}
use Rattle.rack.specs.Seen.{Image, RackView}
use Rattle.rack.specs.Joins.{leaves_weaker}
use Rattle.rack.specs.Targets.{Target, look, put}
use Rattle.rack.specs.Sequences.{IsPayload}
use Rattle.md_super.specs.declared.superblock.Super.{Super}
use Rattle.pool_state.specs.declared.contents.State.{State}
use Rattle.array_image.specs.Places.{slice_of, place_of, log_slice, member_slice, super_sector, data_sector}
use Rattle.array_image.specs.Record.{are_apart}
use Rattle.array_image.specs.Stripes.{width, position_in, sector_in}
use Rattle.array_image.specs.Supers.{super_in, truth_in}
use Rattle.array_image.specs.SoundArray.{IsWrittenSuper, first_unsynced}
use Rattle.array_image.specs.Arrays.{Member, Shape, layout_at, value_by, place_with, replayed, shape_in}
use Rattle.array_image.specs.Even.{AreEven}
use Rattle.array_image.specs.Held.{Among, IsSynced, current_in, held_of, held_by}
use Rattle.array_image.specs.Marks.{lower, lowered}
use Rattle.array_image.specs.Spent.{wanting}
use Rattle.array_image.specs.Left.{LogsInside, IsInside, Picks, PicksLogs, IsLeft, IsApart, NothingPending}
use Rattle.array_image.proofs.Frames.{super_of_sector, value_by_data}
use Rattle.array_image.proofs.Marked.{among_lowered}
use Rattle.array_image.proofs.Replays.{replayed_as_is}
use Rattle.array_image.proofs.SoundFrames.{sound_same}
use Rattle.array_image.proofs.Sources.{source_counts}
use Rattle.log_laws.specs.View.{LogView, names, next_number}
use Rattle.log_laws.specs.Standing.{IsLogPart, IsAlike, IsReady, SomeoneDecides}
use Rattle.log_laws.specs.Commits.{ImageInCommit, CommitCall, StandsMidway}
use Rattle.commit_log.proofs.Saying.{commit_moments, midway_none}
use Rattle.log_laws.specs.Kept.{LogInvariant, gone_with}
use Rattle.log_laws.proofs.Kept.{stands_of, before_inside, put_none, put_some}
use Rattle.commit_log.proofs.Story.{payload_is}
use Rattle.array_model.specs.declared.Seat.{Seat}
use Rattle.array_model.specs.View.{View, IsArray, shape_of, may_vary, is_missing_seat, place_at}
use Rattle.array_model.specs.Says.{ImageShowsArray, IsOpen, KeepsSource, ShapeInvariant, ArrayInvariant, IsEarlier, HasNoOthers}
use Rattle.array_model.specs.Stages.{IsStateOf, NoOthers, HasTargets}
use Rattle.array_model.specs.ArrayCalls.{ImageInCall, IncludesSpent, HasFields}
use Rattle.array_model.specs.Rows.{written, source_at, sector_at}
use Rattle.array_model.proofs.DataFrames.{SameSectors, shape_at, truth_at}
use Rattle.array_model.proofs.Keeping.{live_on, open_after, inside_before, logs_of}
use Rattle.array_model.proofs.Losses.{IsLosing, even_noted}
use Rattle.array_model.proofs.Moves.{CallRefines}
use Rattle.array_model.proofs.Noting.{laid_out, unspent_then}
use Rattle.array_model.proofs.Opening.{even_counted}
use Rattle.array_model.proofs.Spared.{lost_value, at_most_one, wanting_lost, wanting_take}
use Rattle.array_model.proofs.Whole.{among_kept}
use Rattle.array_core.specs.Staging.{AddsSupersOf, HasRowRebuilds}
use Rattle.array_core.proofs.LogFrames.{look_nothing}
use Rattle.array_core.proofs.Pending.{midway_inside, rests_inside, rests_none}
use Rattle.array_core.proofs.RowLists.{payload_left}
use Rattle.array_core.proofs.RowCommits.{IsOwnData}
use Rattle.array_core.proofs.Staged.{slot_on, alone_others, staged_shape, staged_truth, staged_sound}
use Rattle.array_core.proofs.Stripped.{strip_written}
use Rattle.sync_laws.proofs.Owed.{none_some, SaysEither, among_payload, look_first, look_last, none_or, shaped_truth, source_wants}
use Rattle.array_core.proofs.Stripped.{strip}
use Rattle.array_model.proofs.WholeWrites.{own_value}
use Rattle.shr_base.specs.declared.Id.{Id}
use Rattle.reshape_laws.specs.Ahead.{ShapeMoves, changed}

module _ (s : State) (v w : View) (next_truth : Super) (seats : List Seat) (devices : List Id) (resync : ℕ) (marked : Bool) (joins : Member → Type 0) (a b c : RackView) (l : LogView) (on lost : List ℕ) (gone : ℕ → Bool) (supers own_data : List Target)
    (is_array : IsArray v) (later_array : IsArray (changed v next_truth seats devices resync marked)) (fresh : v.went ≡ [])
    (unmarked : marked ≡ false) (commit : CommitCall l on lost b c) (ready : IsReady l on b) (decides : SomeoneDecides l.added on lost b)
    (kept : LogInvariant s (next_number l.number) (gone_with (λ place. false) lost) c)
    (quiet : (i : Image) → PicksLogs b i → (d t : ℕ) → replayed b.sectors i d t ≡ i d t)
    (early : (r : Image) → IsLeft b r → IsLeft a r)
    (added : l.added ≡ supers ++ own_data) (apart : are_apart l.added ≡ true)
    (adds : AddsSupersOf (changed v next_truth seats devices resync marked) [] supers)
    (apart_supers : are_apart supers ≡ true)
    (of_supers : (d i : ℕ) (u : List ℕ) → look supers d i ≡ Some u → (k : ℕ) × (k < next_truth.raid_disks) × (d ≡ member_slice (place_at (changed v next_truth seats devices resync marked) k) v.number) × (i ≡ super_sector))
    (keeps : (k : ℕ) → k < v.truth.raid_disks → (k < next_truth.raid_disks) × (place_at (changed v next_truth seats devices resync marked) k ≡ place_at v k))
    (own : IsOwnData v.number own_data)
    (state : IsStateOf (changed v next_truth seats devices resync marked) s) (rows : HasRowRebuilds (changed v next_truth seats devices resync marked))
    (written_later : IsWrittenSuper v.number (strip v.truth) → IsWrittenSuper v.number next_truth)
    (unsynced : first_unsynced next_truth ≤ resync)
    (some : ℕ) (some_low : some < next_truth.raid_disks) (some_there : is_missing_seat (slot_on (changed v next_truth seats devices resync marked) some).seat ≡ false)
    (losing : IsLosing (changed v next_truth seats devices resync marked) w gone) (left_too : (place : ℕ) → gone place ≡ false → names lost place ≡ false) (nobody : w.went ≡ [] → lost ≡ [])
    (vals : ℕ → Values) (spent : ℕ → Bool) (covers : IncludesSpent w spent)
    (H : Type 0) (begins : H → ArrayInvariant s (shape_of v) v vals spent b) (single : H → IsSynced (shape_of v) v.number b.held)
    (opened : H → IsOpen (shape_of (changed v next_truth seats devices resync marked)) v.number b)
    (joined : H → (m : Member) → joins m → (i : ℕ) → i < m.reach
    → IsSingle (b.held (member_slice m.place v.number) (data_sector + i)) × (length (current_in b.held (member_slice m.place v.number) (data_sector + i)) ≡ 512))
    (moves : H → ShapeMoves v.number (shape_of v) (shape_of (changed v next_truth seats devices resync marked)) v.resync resync spent joins (current_in b.held) own_data) where
  abbrev n : ℕ
  n = v.number

  abbrev g : View
  g = changed v next_truth seats devices resync marked

  few : v.number < 16
  few = is_array.few

  lasting : b.lasting
  lasting = ready.lasting

  not_log : (place t : ℕ) → IsLogPart (member_slice place v.number) t → ⊥
  not_log place t part = let slice = part.0 in let low = few in absurd (omega (arith, slice, low))

  place_is : (place : ℕ) → place_of (member_slice place v.number) ≡ place
  place_is place = let low = few in omega (arith, low)

  -- what is looked up where
  super_slice : (d t : ℕ) (u : List ℕ) → look supers d t ≡ Some u → (slice_of d ≡ v.number + 1) × (t ≡ super_sector)
  super_slice d t u is = let at = of_supers d t u is in let disk = at.2 in let low = few in (omega (arith, disk, low), at.3)

  no_super : (d t : ℕ) → look supers d (data_sector + t) ≡ None
  no_super d t = none_or (look supers d (data_sector + t)) (λ u is. let at = (super_slice d (data_sector + t) u is).1 in omega (arith, at))

  no_data : (d : ℕ) → look own_data d super_sector ≡ None
  no_data d = none_or (look own_data d super_sector) (λ u is. let low = (own.own d super_sector u is).1 in omega (arith, low))

  look_data : (d t : ℕ) → look l.added d (data_sector + t) ≡ look own_data d (data_sector + t)
  look_data d t = ap (λ xs. look xs d (data_sector + t)) added ∙ look_last supers own_data d (data_sector + t) (no_super d t)

  look_super : (d : ℕ) → look l.added d super_sector ≡ look supers d super_sector
  look_super d = ap (λ xs. look xs d super_sector) added ∙ look_first supers own_data d super_sector (no_data d)

  none_apart : (d t : ℕ) → IsApart v.number d t → look l.added d t ≡ None
  none_apart d t other =
      ap (λ xs. look xs d t) added
      ∙ look_last supers own_data d t (none_or (look supers d t) (λ u is. other.0 (super_slice d t u is).0))
      ∙ none_or (look own_data d t) (λ u is. other.0 (own.own d t u is).0)

  adds_is : supers ≡ adds.targets
  adds_is = adds.appended

  module _ (h : H) where
    holds : ArrayInvariant s (shape_of v) v vals spent b
    holds = begins h

    move : ShapeMoves v.number (shape_of v) (shape_of (changed v next_truth seats devices resync marked)) v.resync resync spent joins (current_in b.held) own_data
    move = moves h

    -- contents with all data written, by what the members hold
    abbrev now : Image
    now = written own_data (current_in b.held)

    -- a sector that counts after it, in a pick with all targets
    data_put : (before : Image) → Picks b before → (m : Member) (t : ℕ) → Among m (shape_of (changed v next_truth seats devices resync marked)).members → t < m.reach
        → put b.sectors l.added before (member_slice m.place v.number) (data_sector + t) ≡ written own_data (current_in b.held) (member_slice m.place v.number) (data_sector + t)
    data_put before picks m t among counts =
        let d = member_slice m.place n in
        let i = data_sector + t in
        let live = opened h m t among counts in
        let Goal : Option (List ℕ) → Type 0 = λ o. look own_data d i ≡ o → put b.sectors l.added before d i ≡ unwrap_or o (current_in b.held d i) in
        let goal : Goal (look own_data d i) = elim (look own_data d i) as Goal [
          | Some u ↦ λ is. put_some b.sectors l.added before d i u live.sector (look_data d t ∙ is)
          | None ↦ λ is.
              put_none b.sectors l.added before d i (look_data d t ∙ is)
              ∙ elim (move.counted m t among counts) [
                | inl was ↦
                    subst (λ p. before (member_slice p n) i ≡ current_in b.held (member_slice p n) i) was.2
                    (single h was.0 t was.1 was.3 (before (member_slice was.0.place n) i)
                    (picks.picks (member_slice was.0.place n) i (holds.shape.open_slices was.0 t was.1 was.3)))
                | inr other ↦ elim other [
                  | inl new ↦ absurd (none_some (sym is ∙ new.1))
                  | inr joining ↦ (joined h m joining t counts).0 (before d i) (picks.picks d i live)
                ]
              ]
        ] in
        goal refl

    value_now : (y : ℕ) → spent y ≡ false → value_by (shape_of (changed v next_truth seats devices resync marked)) (written own_data (current_in b.held)) v.number y ≡ (vals y).current
    value_now y alive = move.value y alive ∙ holds.shape.current y alive

    even_now : AreEven (shape_of (changed v next_truth seats devices resync marked)) v.number resync (written own_data (current_in b.held))
    even_now = move.even holds.shape.even

    -- ---- contents that are those before it with all targets

    record AllIn (r : Image) : Type 0 where
      before : Image
      picks : Picks b before
      alike : (place t : ℕ) → r (member_slice place v.number) t ≡ put b.sectors l.added before (member_slice place v.number) t

    module _ (r : Image) (all : AllIn r) where
      abbrev q : Image
      q = replayed b.sectors all.before

      left : IsLeft b (replayed b.sectors all.before)
      left = (all.before, all.picks, λ d t. refl)

      old : ImageShowsArray s v.number (shape_of v) vals spent (replayed b.sectors all.before)
      old = holds.shape.says (replayed b.sectors all.before) left

      counted : (m : Member) (t : ℕ) → Among m (shape_of (changed v next_truth seats devices resync marked)).members → t < m.reach
          → r (member_slice m.place v.number) (data_sector + t) ≡ written own_data (current_in b.held) (member_slice m.place v.number) (data_sector + t)
      counted m t among counts = all.alike m.place (data_sector + t) ∙ data_put all.before all.picks m t among counts

      -- they have each superblock
      has : HasTargets adds.targets r
      has x among =
          let pay : IsPayload supers x.disk x.sector x.bytes = subst (λ xs. IsPayload xs x.disk x.sector x.bytes) (sym adds_is) (among_payload adds.targets x among) in
          let found : look supers x.disk x.sector ≡ Some x.bytes = payload_is supers x.disk x.sector x.bytes apart_supers pay in
          let all_found : look l.added x.disk x.sector ≡ Some x.bytes =
          payload_is l.added x.disk x.sector x.bytes apart
          (subst (λ xs. IsPayload xs x.disk x.sector x.bytes) (sym added) (payload_left supers own_data x.disk x.sector x.bytes pay)) in
          let live = ready.targets x.disk x.sector x.bytes all_found in
          let at = super_slice x.disk x.sector x.bytes found in
          let disk : member_slice (place_of x.disk) n ≡ x.disk = (let slice = at.0 in omega (arith, slice)) in
          subst (λ d. r d x.sector ≡ x.bytes) disk
          (all.alike (place_of x.disk) x.sector
          ∙ subst (λ d. put b.sectors l.added all.before d x.sector ≡ x.bytes) (sym disk)
          (put_some b.sectors l.added all.before x.disk x.sector x.bytes live.sector all_found))

      -- on the places of members alone
      alone : HasNoOthers (changed v next_truth seats devices resync marked) s r
      alone place current other =
          super_of_sector s r (replayed b.sectors all.before) n place
          (all.alike place super_sector
          ∙ put_none b.sectors l.added all.before (member_slice place n) super_sector
          (look_super (member_slice place n)
          ∙ none_or (look supers (member_slice place n) super_sector)
          (λ u is. let at = of_supers (member_slice place n) super_sector u is in other at.0 at.1 (same_place (place_at g at.0) place at.2)))
          ∙ sym (quiet all.before (logs_of all.before all.picks) (member_slice place n) super_sector))
          ∙ holds.alone (replayed b.sectors all.before) left place current
          (λ k low at. let still = keeps k low in other k still.0 (still.1 ∙ at))
        where
          same_place : (p q : ℕ) → member_slice q v.number ≡ member_slice p v.number → p ≡ q
          same_place p q same = omega (arith, same)

      -- ---- what they say

      placed : (k : ℕ) → k < next_truth.raid_disks → place_at (changed v next_truth seats devices resync marked) k < 16
      placed k low = let there = later_array.placed k low in subst (λ (p : ℕ). p < 16) (sym (ap (λ o. unwrap_or o 16) there.1)) there.2

      others : NoOthers (changed v next_truth seats devices resync marked) s r
      others = alone_others g s r later_array.seats alone

      shape_now : shape_in s r v.number ≡ Some (shape_of (changed v next_truth seats devices resync marked))
      shape_now = staged_shape g s r later_array.seats later_array.devices placed state [] supers adds has some some_low some_there others

      fields_now : HasFields s v.number next_truth r
      fields_now u is = staged_truth g s r later_array.seats later_array.devices placed state [] supers adds has some some_low some_there others u is

      -- the truth before it
      truth_there : (t : Super) × (truth_in s (replayed b.sectors all.before) v.number ≡ Some t)
      truth_there = shaped_truth s (replayed b.sectors all.before) n (shape_of v) old.shape_is

      written_now : IsWrittenSuper v.number next_truth
      written_now =
          let t = truth_there.0 in
          let before = (old.is_sound t truth_there.1).written in
          let earlier = holds.truth (replayed b.sectors all.before) left t truth_there.1 in
          written_later (subst (IsWrittenSuper n) earlier.fields (strip_written n t before))

      even_r : AreEven (shape_of (changed v next_truth seats devices resync marked)) v.number resync r
      even_r = even_counted (shape_of g) n resync r now counted even_now

      all_says : ImageShowsArray s v.number (shape_of (changed v next_truth seats devices resync marked)) vals spent r
      all_says = record {
        shape_is = shape_now;
        value = λ y alive.
            inl (value_by_data (shape_of g) r now n y (λ m among counts. counted m (sector_in (layout_at (shape_of g) y) y) among counts) ∙ value_now y alive);
        is_sound = λ t is.
            staged_sound g s r later_array.seats later_array.devices placed state [] supers adds has some some_low some_there others alone rows written_now even_r unsynced t is;
      }

      all_truth : (t : Super) → truth_in s r v.number ≡ Some t → IsEarlier t next_truth
      all_truth t is =
          let fields = fields_now t is in
          record {
            fields = ap (λ (u : Super). record u { events = 0; resync_offset = 0 }) fields;
            events = let same = ap (λ (u : Super). u.events) fields in omega (arith, same);
          }

    old_says : (i before : Image) → Picks b before → IsAlike (replayed b.sectors i) (replayed b.sectors before)
        → SaysEither s v (changed v next_truth seats devices resync marked) a vals spent (replayed b.sectors i)
    old_says i before picks alike =
        let r = replayed b.sectors i in
        let e = replayed b.sectors before in
        let left : IsLeft b e = (before, picks, λ d t. refl) in
        let old = holds.shape.says e left in
        let same : (place t : ℕ) → r (member_slice place n) t ≡ e (member_slice place n) t = λ place t. alike (member_slice place n) t (not_log place t) in
        let sectors : SameSectors n r e = λ place. same place super_sector in
        inl (
          record {
            shape_is = shape_at s r e n sectors ∙ old.shape_is;
            value = λ y alive. subst (MayLeave (vals y)) (sym (value_by_data (shape_of v) r e n y (λ m among counts. same m.place _))) (old.value y alive);
            is_sound = λ t is. sound_same s r e n t same (old.is_sound t (sym (truth_at s r e n sectors) ∙ is));
          },
          (e, early e left, λ place. same place super_sector),
        )

    all_after : (r : Image) → IsLeft c r → AllIn r
    all_after r left =
        let i = left.0 in
        let done = commit.after ready decides i (stands_of i left.1) in
        record {
          before = done.before;
          picks = before_inside l.added b i done.before (inside_before commit.stays i left.1.inside) done.stands (inr done.all);
          alike = λ place t.
              left.2 (member_slice place n) t
              ∙ ap (λ (sectors : ℕ → ℕ). replayed sectors i (member_slice place n) t) (λ i e. commit.stays.sectors e i)
              ∙ done.all (member_slice place n) t (not_log place t);
        }

    -- whoever is left has what was written, or what it had
    pub kept_now : (m : Member) (t : ℕ) → Among m (shape_of (changed v next_truth seats devices resync marked)).members → t < m.reach → gone m.place ≡ false
        → current_in c.held (member_slice m.place v.number) (data_sector + t) ≡ written own_data (current_in b.held) (member_slice m.place v.number) (data_sector + t)
    kept_now m t among counts here =
        let d = member_slice m.place n in
        let i = data_sector + t in
        let live = live_on lasting commit.stays (opened h m t among counts) in
        let Goal : Option (List ℕ) → Type 0 = λ o. look own_data d i ≡ o → current_in c.held d i ≡ unwrap_or o (current_in b.held d i) in
        let goal : Goal (look own_data d i) = elim (look own_data d i) as Goal [
          | Some u ↦ λ is. commit.written d i u (current_in c.held d i) live (ap (names lost) (place_is m.place) ∙ left_too m.place here) (look_data d t ∙ is) (inl refl)
          | None ↦ λ is. (commit.apart d i live (not_log m.place i) (look_data d t ∙ is)).current
        ] in
        goal refl

    sized_now : (m : Member) (t : ℕ) → Among m (shape_of (changed v next_truth seats devices resync marked)).members → t < m.reach
        → length (written own_data (current_in b.held) (member_slice m.place v.number) (data_sector + t)) ≡ 512
    sized_now m t among counts =
        let d = member_slice m.place n in
        let i = data_sector + t in
        let Goal : Option (List ℕ) → Type 0 = λ o. look own_data d i ≡ o → length (unwrap_or o (current_in b.held d i)) ≡ 512 in
        let goal : Goal (look own_data d i) = elim (look own_data d i) as Goal [
          | Some u ↦ λ is. own.sized d i u is
          | None ↦ λ is. elim (move.counted m t among counts) [
            | inl was ↦ subst (λ p. length (current_in b.held (member_slice p n) i) ≡ 512) was.2 (holds.shape.sized was.0 t was.1 was.3)
            | inr other ↦ elim other [
              | inl new ↦ absurd (let bad : None ≡ Some new.0 = sym is ∙ new.1 in cc)
              | inr joining ↦ (joined h m joining t counts).1
            ]
          ]
        ] in
        goal refl

    -- a sector without a source has its value of members that are all left
    unsourced : (y : ℕ) → spent y ≡ false → source_at (shape_of (changed v next_truth seats devices resync marked)) y ≡ None
        → value_by (shape_of (changed v next_truth seats devices resync marked)) (current_in c.held) v.number y ≡ (vals y).current
    unsourced y alive none =
        let shape = shape_of g in
        let t = sector_at shape y in
        let layout = layout_at shape y in
        let wants = source_wants layout t (position_in layout y) shape.members ((laid_out g later_array).fits y) none in
        let more = wanting_take (width layout) t shape.members in
        let least = at_most_one (wanting t (map (lower gone) shape.members)) _ (unspent_then g w gone losing y (covers y alive)) in
        value_by_data shape (current_in c.held) now n y
        (λ m among counts.
        kept_now m t among counts
        (let Goal : Bool → Type 0 = λ is_gone. gone m.place ≡ is_gone → is_gone ≡ false in
        let goal : Goal (gone m.place) = elim (gone m.place) as Goal [
          | false ↦ λ is. refl
          | true ↦ λ is. let lost_more = wanting_lost gone t shape.members m among counts is in absurd (omega (arith, wants, more, least, lost_more))
        ] in
        (λ (z : gone m.place ≡ false). z) (goal refl)))
        ∙ value_now y alive

    -- whoever is left has one value in each sector that counts
    single_now : (m : Member) (t : ℕ) → Among m (shape_of (changed v next_truth seats devices resync marked)).members → t < m.reach → gone m.place ≡ false
        → IsSingle (c.held (member_slice m.place v.number) (data_sector + t))
    single_now m t of counts here u may =
        let d = member_slice m.place n in
        let i = data_sector + t in
        let live = live_on lasting commit.stays (opened h m t of counts) in
        let left = ap (names lost) (place_is m.place) ∙ left_too m.place here in
        let Goal : Option (List ℕ) → Type 0 = λ o. look own_data d i ≡ o → u ≡ current_in c.held d i in
        let goal : Goal (look own_data d i) = elim (look own_data d i) as Goal [
          | Some z ↦ λ is.
              commit.written d i z u live left (look_data d t ∙ is) may
              ∙ sym (commit.written d i z (current_in c.held d i) live left (look_data d t ∙ is) (inl refl))
          | None ↦ λ is.
              let keeps_it = commit.apart d i live (not_log m.place i) (look_data d t ∙ is) in
              elim (move.counted m t of counts) [
                | inl was ↦
                    let old = subst (λ p. MayLeave (b.held (member_slice p n) i) u) (sym was.2) (keeps_it.within u may) in
                    let single : u ≡ current_in b.held (member_slice was.0.place n) i = single h was.0 t was.1 was.3 u old in
                    single ∙ ap (λ p. current_in b.held (member_slice p n) i) was.2 ∙ sym keeps_it.current
                | inr other ↦ elim other [
                  | inl new ↦ absurd (let bad : None ≡ Some new.0 = sym is ∙ new.1 in cc)
                  | inr joining ↦ (joined h m joining t counts).0 u (keeps_it.within u may) ∙ sym keeps_it.current
                ]
              ]
        ] in
        goal refl

    within_now : (y : ℕ) → spent y ≡ false → (u : List ℕ) → MayLeave (held_by (shape_of (changed v next_truth seats devices resync marked)) c.held v.number y) u
        → KeepsSource (shape_of (changed v next_truth seats devices resync marked)) (lowered gone (shape_of (changed v next_truth seats devices resync marked))) y → MayLeave (vals y) u
    unfolding held_by
    within_now y alive u may keeps_source =
        let shape = shape_of g in
        let Goal : Option Member → Type 0 = λ o. source_at shape y ≡ o
        → MayLeave (option_map_or (held_of c.held n (sector_at shape y)) o (only (value_by shape (current_in c.held) n y))) u
        → MayLeave (vals y) u in
        let goal : Goal (source_at shape y) = elim (source_at shape y) as Goal [
          | None ↦ λ none may_be. elim may_be [ inl is ↦ inl (is ∙ unsourced y alive none) | inr older ↦ absurd older ]
          | Some m ↦ λ is may_be.
              let found = source_counts shape y m is in
              let t = sector_at shape y in
              let here = among_kept gone t shape.members m (keeps_source m is) found.counts in
              inl (single_now m t found.among found.counts here u may_be ∙ kept_now m t found.among found.counts here
              ∙ sym (own_value shape n y now m is) ∙ value_now y alive)
        ] in
        goal refl may

    pub settled_now : IsSynced (lowered gone (shape_of (changed v next_truth seats devices resync marked))) v.number c.held
    settled_now m t among counts u may =
        let shape = shape_of g in
        single_now m t (among_lowered gone t shape.members m among counts) counts (among_kept gone t shape.members m among counts) u may

    shape_held : ShapeInvariant s v.number (shape_of (changed v next_truth seats devices resync marked)) (lowered gone (shape_of (changed v next_truth seats devices resync marked))) resync (may_vary w) vals spent c
    shape_held =
        let shape = shape_of g in
        let left_now : (m : Member) (t : ℕ) → Among m (lowered gone shape).members → t < m.reach → current_in c.held (member_slice m.place n) (data_sector + t) ≡ now (member_slice m.place n) (data_sector + t) =
        λ m t among counts. kept_now m t (among_lowered gone t shape.members m among counts) counts (among_kept gone t shape.members m among counts) in
        record {
          open_slices = open_after lasting commit.stays shape n (opened h);
          open_left = λ m t among counts. open_after lasting commit.stays shape n (opened h) m t (among_lowered gone t shape.members m among counts) counts;
          says = λ r left. all_says r (all_after r left);
          still = λ i picks m t among counts.
              kept.quiet i (stands_of i picks) (member_slice m.place n) (data_sector + t)
              (ap (names lost) (place_is m.place) ∙ left_too m.place (among_kept gone t shape.members m among counts));
          within = within_now;
          current = λ y alive.
              value_by_data (lowered gone shape) (current_in c.held) now n y (λ m among counts. left_now m (sector_in (layout_at shape y) y) among counts)
              ∙ lost_value gone shape n resync now y (laid_out g later_array) even_now sized_now (unspent_then g w gone losing y (covers y alive))
              ∙ value_now y alive;
          sized = λ m t among counts. ap length (left_now m t among counts) ∙ sized_now m t (among_lowered gone t shape.members m among counts) counts;
          even = even_counted (lowered gone shape) n resync (current_in c.held) now left_now (even_noted gone shape n resync now even_now);
          settled = λ same. settled_now;
        }

    holds_now : ArrayInvariant s (shape_of (changed v next_truth seats devices resync marked)) w vals spent c
    holds_now = record {
      shape =
          subst (λ k. ShapeInvariant s k (shape_of g) (shape_of w) w.resync (may_vary w) vals spent c) (sym losing.number)
          (subst (λ k. ShapeInvariant s n (shape_of g) (shape_of w) k (may_vary w) vals spent c) (sym losing.resync)
          (subst (λ (f : Shape). ShapeInvariant s n (shape_of g) f resync (may_vary w) vals spent c) (sym losing.shape) shape_held));
      mark = λ is_marked. absurd (both_ways marked unmarked (losing.marked is_marked));
      alone = λ r left place current other.
          subst (λ k. super_in s r k place ≡ None) (sym losing.number)
          (alone r (all_after r left) place current
          (λ k small at. other k (subst (λ (u : Super). k < u.raid_disks) (sym losing.truth) small)
          (ap (λ (u : Super). unwrap_or (place_with u.roles.items k) 16) losing.truth ∙ at)));
      closed = λ none.
          subst (λ k. NothingPending k c) (sym losing.number)
          (λ i picks place t.
          replayed_as_is c.sectors i (member_slice place n) t
          (ap (λ (ys : List Target). look ys (member_slice place n) t)
          (elim (kept.idle i picks) [
            | inl nothing ↦ nothing
            | inr one ↦ absurd (both_ways (names [] one.0) refl (ap (λ (ps : List ℕ). names ps one.0) (sym (nobody none)) ∙ one.2))
          ])
          ∙ look_nothing (member_slice place n) t));
      truth = λ r left t is. subst (IsEarlier t) (sym losing.truth) (all_truth r (all_after r left) t (subst (λ k. truth_in s r k ≡ Some t) losing.number is));
    }

    -- whatever a stop leaves after it has what was written, and the new superblocks
    pub data_after : (r : Image) → IsLeft c r → (m : Member) (t : ℕ) → Among m (shape_of (changed v next_truth seats devices resync marked)).members → t < m.reach
        → r (member_slice m.place v.number) (data_sector + t) ≡ written own_data (current_in b.held) (member_slice m.place v.number) (data_sector + t)
    data_after r left = counted r (all_after r left)

    pub durable_now : (r : Image) → IsLeft c r → HasFields s v.number next_truth r
    durable_now r left = fields_now r (all_after r left)

  no_log : (d t : ℕ) → IsApart v.number d t → IsLogPart d t → ⊥
  no_log d t apart_from part = elim apart_from.1 [ inl other ↦ other part.0 | inr first ↦ (let later = part.1 in absurd (omega (arith, first, later))) ]

  pub moved : CallRefines v.number b c H (SaysEither s v (changed v next_truth seats devices resync marked) a vals spent) (ArrayInvariant s (shape_of (changed v next_truth seats devices resync marked)) w vals spent c)
  moved = record {
    stays = commit.stays;
    leaves = λ traced.
        leaves_weaker (λ i. LogsInside b.sectors i → ImageInCommit l.added b i × StandsMidway l on b i)
        (λ i. IsInside b.sectors i → ImageInCall v.number b c (λ r. H → SaysEither s v g a vals spent r) i)
        (λ i found inside.
        let both = found (λ place j out. inside (log_slice place) j out) in
        let commits = both.0 in
        let before = commits.before in
        let picks = before_inside l.added b i before inside commits.stands commits.either in
        record {
          before = replayed b.sectors before;
          left = (before, picks, λ d t. refl);
          others = λ d t apart_from. elim commits.either [
            | inl old ↦ old d t (no_log d t apart_from)
            | inr new ↦ new d t (no_log d t apart_from) ∙ put_none b.sectors l.added before d t (none_apart d t apart_from) ∙ sym (quiet before (logs_of before picks) d t)
          ];
          own = λ held. elim commits.either [
            | inl old ↦ old_says held i before picks old
            | inr new ↦
                let all : AllIn held (replayed b.sectors i) = record { before = before; picks = picks; alike = λ place t. new (member_slice place n) t (not_log place t) } in
                inr (all_says held (replayed b.sectors i) all, fields_now held (replayed b.sectors i) all)
          ];
          whole = commits.whole;
          calm = λ calm d t apart_from. midway_none l on b i d t both.1 (none_apart d t apart_from) (λ e stand. calm e stand d t apart_from);
          bounded = midway_inside l on b i both.1 ready;
        })
        (commit_moments l on lost b c commit traced ready decides);
    holds = holds_now;
    apart = λ d t live apart_from. commit.apart d t live (no_log d t apart_from) (none_apart d t apart_from);
    calm = λ calm i picks d t apart_from. rests_none (next_number l.number) l.added lost i d t (commit.rests ready decides i picks) (none_apart d t apart_from);
    bounded = λ bounded. rests_inside l on lost b c commit ready decides;
  }
