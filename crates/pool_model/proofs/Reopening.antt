-- A later opening of what a stop leaves finds the arrays of the run's book and means its volume, or refuses it for what the book says of an array or another pool's disk says.
use Rattle.std.proofs.Common.{◌≡◌, ℕ, ◌<◌, ◌≤◌, ◌^◌, Bool, true, false, ◌||◌, not, is_some, nat_lt, if◌then◌else◌, [], length, Option, Some, None, refl, sym, ap, subst, ◌∙◌, inl, inr, le-ltb, lt-ltb, ltb-true, arith}
use Rattle.std.specs.Option.{option_map_or}
use Rattle.std.proofs.lemmas.Bool.{and_parts, cases_Bool}
use Rattle.std.proofs.lemmas.Option.{none-some}
use Rattle.rack.specs.Seen.{Image, IsPick, RackView}
use Rattle.rack.specs.Values.{MayLeave}
use Rattle.shr_base.specs.declared.Id.{Id}
use Rattle.slice_rack.specs.Slices.{Slices, sectors_of}
use Rattle.slice_rack.specs.Sliced.{IsInside, sliced, slices_of as slices_shown}
use Rattle.md_super.specs.declared.superblock.Super.{Super}
use Rattle.pool_state.specs.declared.contents.State.{State}
use Rattle.array_image.specs.Arrays.{Shape, arrays_in, place_with, replayed, value_by}
use Rattle.array_image.specs.Left.{IsLeft}
use Rattle.array_image.specs.SoundArray.{array_fields, first_unsynced}
use Rattle.array_image.specs.States.{is_current}
use Rattle.array_image.specs.Supers.{is_named, is_unclean, super_in}
use Rattle.array_core.proofs.Stripped.{some_same}
use Rattle.array_model.specs.View.{rows_of, sectors_of as sectors_in, shape_of as shape_by_book}
use Rattle.lvm_group.specs.Images.{IsVolume}
use Rattle.lvm_group.specs.Runs.{Linear, data_start}
use Rattle.pool_image.specs.Disks.{Disks, Identities}
use Rattle.pool_image.specs.Drives.{Found, slices_of}
use Rattle.pool_image.specs.Meaning.{Refusal, array_sectors, damage_of, has_table, is_dirty_degraded, is_member, is_too_few, joined_arrays, lacking_of, refusal_of, shape_of, super_at, truth_of}
use Rattle.pool_image.specs.Replay.{Standing}
use Rattle.pool_image.specs.Volumes.{Arrays, first_bad}
use Rattle.pool_image.proofs.Groups.{AreWholeArrays}
use Rattle.pool_image.proofs.Joined.{AreAlike}
use Rattle.raid_laws.specs.Agreeing.{HasOwnRows, SayTruth, SupersAgree}
use Rattle.raid_laws.specs.Book.{OnlyMarksSince, after_same}
use Rattle.raid_laws.specs.Raid.{IsTracked, Raid, held_in as raid_held, is_failed, spent_of}
use Rattle.pool_model.specs.Absent.{volume_arrays}
use Rattle.pool_model.specs.Alone.{AreTabled, HoldTabled}
use Rattle.pool_model.specs.Grouped.{AreHeadsLive, HoldGroup}
use Rattle.pool_model.specs.InService.{RunInvariant, IsArranged}
use Rattle.pool_model.specs.Left.{Recovers}
use Rattle.pool_model.specs.Reopening.{AreWholeSectors, HoldVolume, MayRefuseBy, NextOpen}
use Rattle.pool_model.specs.Taken.{LacksDrive}
use Rattle.pool_model.proofs.ArraysMeant.{arrays_volume}
use Rattle.pool_model.proofs.Again.{known_again, value_known}
use Rattle.pool_model.proofs.Alone.{tabled_says}
use Rattle.pool_model.proofs.Copies.{c, copy_pool, IsKnown, s, seat_there, seats_now}
use Rattle.pool_model.proofs.Current.{array_current, shape_current, truth_current}
use Rattle.pool_model.proofs.Extents.{is, is_is, made_same, truth_is}
use Rattle.pool_model.proofs.InService.{service_known, vacant_known}
use Rattle.pool_model.proofs.Known.{left, says, says_pool}
use Rattle.pool_model.proofs.LackingRows.{lacks_rows}
use Rattle.pool_model.proofs.Refused.{all_range}
use Rattle.pool_model.proofs.Rested.{found_now, now, stands_so, stood}
use Rattle.pool_model.proofs.Roles.{placed_position}
use Rattle.pool_model.proofs.Said.{AreInside, SaysPool}
use Rattle.pool_model.proofs.Sectors.{still_sized}
use Rattle.pool_model.proofs.Sizes.{facts_known, reaches, sectors_known}
use Rattle.pool_model.proofs.Still.{members, same}
use Rattle.pool_model.proofs.Undamaged.{present_now, sound_parts}
use Rattle.pool_model.proofs.Unrefused.{no_damage, no_damages, refused_so}

-- ---- the volume

-- Contents that hold a pool whose slices hold the group of a volume mean it, where they aren't refused.
module _ (f : Found) (t : Slices) (s : State) (i : Image) (still : Recovers f t s i) (inside : AreInside f t)
    (small : (d : ℕ) → d < f.disks.count → f.disks.sectors d < 2 ^ 48) (whole : AreWholeSectors f.disks i) (few : s.joined ≤ f.state.made)
    (l : Linear) (extent : l.extent ≡ s.extent) (arrays : l.arrays ≡ s.joined) (sectors : ℕ → ℕ) (sized : (n : ℕ) → n < s.joined → sectors n ≡ array_sectors f n)
    (lies : (seqno : ℕ) × IsVolume s.pool.0 s.joined l seqno sectors (λ n x. if nat_lt x (sectors n) then arrays_in (replayed (sectors_of t) (sliced t i)) n x else [])) where
  abbrev h : Found
  h = still.now

  -- the arrays as the slices hold them
  abbrev b : Arrays
  b = record { pool = s.pool.0; extent = s.extent; joined = s.joined; sectors = sectors; contents = arrays_in (replayed (sectors_of t) (sliced t i)) }

  made : (n : ℕ) → n < s.joined → n < f.state.made
  made n low = omega (arith, low, few)

  made_now : (n : ℕ) → n < s.joined → n < h.state.made
  made_now n low = (let all = still.joined in let same = ap (λ (z : State). z.joined) still.state in omega (arith, low, all, same))

  sectors_same : (n : ℕ) → n < s.joined → array_sectors h n ≡ sectors n
  sectors_same n low = still.sectors n (made n low) ∙ sym (sized n low)

  room : (n : ℕ) → n < s.joined → data_start ≤ sectors n
  room n low =
      let less = made_now n low in
      let one = still.sound.rules.arrays n less in
      let reach = reaches f i h t still.found_is still.sound still.slices inside small n less one.0 one.1 in
      let same = sectors_same n low in
      omega (arith, reach, same)

  are : AreWholeArrays b
  are = record {
    whole = λ n low x within. ap length (sym (still.values n x (made n low))) ∙ still_sized f t s i still inside whole n (made_now n low) x;
    room = λ n low. let enough = room n low in omega (arith, enough);
  }

  alike : AreAlike (joined_arrays h) b
  alike = record {
    pool = ap (λ (z : State). z.pool.0) still.state;
    extent = ap (λ (z : State). z.extent) still.state;
    joined = ap (λ (z : State). z.joined) still.state;
    sectors = sectors_same;
    contents = λ n x low within. still.values n x (made n low);
  }

  pub still_volume : HoldVolume f t l i
  still_volume = arrays_volume f i h still.found_is b alike are room l extent arrays lies

-- So they do where a run's book from before their state holds the group, and what they have before the first extents may be left by it.
pub amid_volume : (f : Found) (t : Slices) (s : State) (i : Image) → Recovers f t s i → AreInside f t
    → ((d : ℕ) → d < f.disks.count → f.disks.sectors d < 2 ^ 48) → AreWholeSectors f.disks i
    → (v : Raid) (y : RackView) (l : Linear) → OnlyMarksSince v.state s → v.state.joined ≤ f.state.made → HoldGroup v l y
    → ((n : ℕ) → n < v.state.joined → sectors_in (v.arrays n) ≡ array_sectors f n)
    → ((n x : ℕ) → n < v.state.joined → x < sectors_in (v.arrays n) → x < data_start → MayLeave (raid_held v y n x) (arrays_in (replayed (sectors_of t) (sliced t i)) n x))
    → HoldVolume f t l i
amid_volume f t s i still inside small whole v y l after few group sized may =
    let same = after.same in
    let joined = same.joined in
    still_volume f t s i still inside small whole (omega (arith, joined, few)) l (group.extent ∙ sym same.extent) (group.arrays ∙ sym joined) (λ n. sectors_in (v.arrays n))
    (λ n low. sized n (omega (arith, joined, low)))
    (subst (λ k. (seqno : ℕ) × IsVolume s.pool.0 k l seqno (λ n. sectors_in (v.arrays n)) (volume_arrays t v i)) (sym joined)
    (subst (λ (k : Id). (seqno : ℕ) × IsVolume k.0 v.state.joined l seqno (λ n. sectors_in (v.arrays n)) (volume_arrays t v i)) (sym same.pool)
    (group.says (volume_arrays t v i)
    (λ n x low within first.
    subst (MayLeave (raid_held v y n x))
    (sym (ap (λ (b : Bool). if b then arrays_in (replayed (sectors_of t) (sliced t i)) n x else []) (lt-ltb x (sectors_in (v.arrays n)) within)))
    (may n x low within first))
    (λ n x low past. ap (λ (b : Bool). if b then arrays_in (replayed (sectors_of t) (sliced t i)) n x else []) (le-ltb x (sectors_in (v.arrays n)) past)))))

-- ---- why it is refused

module _ (f : Found) (t : Slices) (v : Raid) (y : RackView) (i : Image) (known : IsKnown f t v y i) (small : (d : ℕ) → d < f.disks.count → f.disks.sectors d < 2 ^ 48) where
  abbrev book : State
  book = s f t v y i known

  abbrev held : Image
  held = c f t v y i known

  abbrev g : Found
  g = now f t v y i known

  abbrev rest : Standing
  rest = stood f t v y i known

  abbrev said : SaysPool f t v.state i
  said = says_pool f t v y i known

  -- ---- its arrays

  -- a sector that isn't spent has a value that may be left
  value_left : (n : ℕ) → n < f.state.made → (x : ℕ) → spent_of v n x ≡ false → MayLeave (raid_held v y n x) (arrays_in (replayed (sectors_of t) held) n x)
  value_left n low x live =
      subst (MayLeave (raid_held v y n x))
      (sym (sym (value_known f t v y i known n x low)
      ∙ array_current book (slices_of g) held n (same f t v.state i rest said n low) (members f t v.state i rest said n low) x
      ∙ ap (λ (o : Option Shape). option_map_or (λ shape. value_by shape held n x) o []) (says f t v y i known n low).shape_is))
      ((says f t v y i known n low).value x live)

  low_before : (n : ℕ) → n < book.made → n < f.state.made
  low_before n low = (let made = made_same f t v.state i rest said in omega (arith, low, made))

  before_made : (n : ℕ) → n < book.joined → n < f.state.made
  before_made n low = (let joined = known.served.after.same.joined in let all = known.served.joined in omega (arith, low, joined, all))

  -- they mean the volume whose group they hold
  pub volume_known : (l : Linear) → HoldGroup v l y → AreHeadsLive v → AreWholeSectors f.disks i → HoldVolume f t l i
  volume_known l holds heads whole =
      amid_volume f t v.state i (known_again f t v y i known).still known.left.inside small whole v y l (after_same v.state)
      (let joined = known.served.after.same.joined in let all = known.served.joined in omega (arith, joined, all)) holds
      (λ n low. sectors_known f t v y i known small n (before_made n low)) (λ n x low within first. value_left n (before_made n low) x (heads n x low within first))

  -- none of its arrays is bad
  pub sound_known : (l : Linear) → HoldGroup v l y → AreHeadsLive v → AreWholeSectors f.disks i → first_bad (joined_arrays g) ≡ None
  unfolding known_again volume_known amid_volume still_volume arrays_volume
  sound_known l holds heads whole = (volume_known l holds heads whole).lies.sound

  -- ---- its drives

  module _ (agree : (n : ℕ) (r : Image) → n < f.state.made → IsLeft y r → SupersAgree v.state r n)
      (tables : (p d : ℕ) → is_current v.state p ≡ true → f.seats p ≡ Some d → has_table f p d ≡ true) where
    super_there : (p n : ℕ) → is_current book p ≡ true → n < f.state.made → (not (is_member g n p) || is_some (super_at g n p)) ≡ true
    super_there p n counts low = elim (cases_Bool (is_named truth p)) [
      | inl named ↦
          let fact = facts_known f t v y i known small n low in
          let one = placed_position truth p fact.positions fact.few named in
          or_true (not (is_member g n p)) (is_some (super_at g n p))
          (ap is_some (same f t v.state i rest said n low p counts) ∙ there one.0 p one.1 one.2 counts)
      | inr none ↦
          ap (λ b. not b || is_some (super_at g n p))
          (ap (λ (o : Option Super). option_map_or (λ z. is_named z p) o false) (truth_is f t v.state i rest said n low) ∙ none)
    ]
      where
        truth : Super
        truth = is f t v.state i rest said n low

        or_true : (a b : Bool) → b ≡ true → (a || b) ≡ true
        or_true true b there = refl
        or_true false b there = there

        there : (k q : ℕ) → k < truth.raid_disks → place_with truth.roles.items k ≡ Some q → is_current book q ≡ true → is_some (super_in book held n q) ≡ true
        there =
            let all = agree n held low (left f t v y i known) in
            subst (λ (z : Super). (k q : ℕ) → k < z.raid_disks → place_with z.roles.items k ≡ Some q → is_current book q ≡ true → is_some (super_in book held n q) ≡ true)
            (some_same all.truth truth (sym all.leads ∙ is_is f t v.state i rest said n low)) all.there

    pub undamaged_known : (p : ℕ) → is_current book p ≡ true → damage_of g p ≡ None
    undamaged_known p counts =
        let one = seat_there f t v y i known p counts in
        let parts = sound_parts f t v y i known p one.0 counts one.1 in
        no_damage g p one.0 (seats_now f t v y i known p counts ∙ one.1)
        (record {
          table = parts.table ∙ tables p one.0 counts one.1;
          copy = parts.copy;
          log = parts.log;
          supers =
              all_range (λ n. not (is_member g n p) || is_some (super_at g n p)) 0 book.made
              (λ n low. super_there p n counts (low_before n (omega (arith, low))));
        })

  -- ---- by the book

  -- each array has its members as they are by the book
  shape_known : (n : ℕ) → n < book.made → shape_of g n ≡ Some (shape_by_book (v.arrays n))
  shape_known n low =
      let less = low_before n low in
      shape_current book (slices_of g) held n (same f t v.state i rest said n less) ∙ (says f t v y i known n less).shape_is

  module _ (truths : (n : ℕ) (r : Image) → n < f.state.made → IsLeft y r → SayTruth (v.arrays n) v.state r n)
      (own : (n : ℕ) → n < f.state.made → HasOwnRows (v.arrays n))
      (tables : (p d : ℕ) → is_current v.state p ≡ true → f.seats p ≡ Some d → has_table f p d ≡ true) where
    -- and its truth has the fields of the book's
    fields_known : (n : ℕ) (u : Super) → n < book.made → truth_of g n ≡ Some u → array_fields u ≡ array_fields (v.arrays n).truth
    fields_known n u low at =
        let less = low_before n low in
        (truths n held less (left f t v y i known)).fields u (sym (truth_current book (slices_of g) held n (same f t v.state i rest said n less)) ∙ at)

    few_known : (n : ℕ) → n < book.made → is_too_few g n ≡ true → (n < book.made) × (1 < lacking_of (shape_by_book (v.arrays n)))
    few_known n low few = (
      low,
      ltb-true 1 (lacking_of (shape_by_book (v.arrays n)))
          (sym (ap (λ (o : Option Shape). option_map_or (λ shape. nat_lt 1 (lacking_of shape)) o true) (shape_known n low)) ∙ few),
    )

    dirty_known : (n : ℕ) → n < book.made → is_dirty_degraded g n ≡ true
        → (n < book.made) × (0 < lacking_of (shape_by_book (v.arrays n))) × ((v.arrays n).young ≡ false → (v.arrays n).resync < rows_of (v.arrays n))
    dirty_known n low dirty =
        let less = low_before n low in
        let truth = is f t v.state i rest said n less in
        let truth_there = truth_is f t v.state i rest said n less in
        let both = (and_parts (nat_lt n book.joined) _ dirty).1 in
        let parts = and_parts (option_map_or (λ shape. nat_lt 0 (lacking_of shape)) (shape_of g n) false) (option_map_or is_unclean (truth_of g n) false) both in
        let lacks = ltb-true 0 (lacking_of (shape_by_book (v.arrays n)))
        (sym (ap (λ (o : Option Shape). option_map_or (λ shape. nat_lt 0 (lacking_of shape)) o false) (shape_known n low)) ∙ parts.0) in (
          low,
          lacks,
          lacks_rows (v.arrays n) truth (own n less) (fields_known n truth low truth_there)
              (sym (ap (λ (o : Option Super). option_map_or is_unclean o false) truth_there) ∙ parts.1) lacks,
        )

    excused_known : first_bad (joined_arrays g) ≡ None → (why : Refusal) → refusal_of f.disks i ≡ Some why → MayRefuseBy v g why
    excused_known good why is =
        elim (refused_so g (MayRefuseBy v g) (λ other. other) few_known dirty_known (present_now f t v y i known) good why i (stands_so f t v y i known) (found_now f t v y i known) refl
        (copy_pool f t v y i known) is) [
          | inl excused ↦ excused
          | inr wants ↦ absurd (none-some why (sym (no_damages g (undamaged_known (λ n r low left. (truths n r low left).agree) tables)) ∙ wants))
        ]

    pub known_reopens : (l : Linear) → HoldGroup v l y → AreHeadsLive v → AreWholeSectors f.disks i → NextOpen f t l v i
    unfolding known_again volume_known amid_volume still_volume arrays_volume
    known_reopens l holds heads whole = record {
      volume = volume_known l holds heads whole;
      state = refl;
      shapes = shape_known;
      truths = fields_known;
      rows = λ n u low at young not_whole. ap (λ (z : Super). first_unsynced z) (fields_known n u low at) ∙ (own n (low_before n low)).rows young not_whole;
      excused = λ why is. excused_known (sound_known l holds heads whole) why is;
    }

-- ---- a pool in service

-- what disks say is no part of it
reopens_said : (f : Found) (e : Identities) (t : Slices) (l : Linear) (v : Raid) (i : Image) → NextOpen (record f { identities = e }) t l v i → NextOpen f t l v i
reopens_said f e t l v i is = record {
  volume = record { now = is.volume.now; found_is = is.volume.found_is; lies = is.volume.lies; areas = is.volume.areas; means = is.volume.means };
  state = is.state;
  shapes = is.shapes;
  truths = is.truths;
  rows = is.rows;
  excused = is.excused;
}

said_reopens : (f : Found) (t : Slices) (v : Raid) (l : Linear) (y : RackView) (i : Image) → IsArranged f → ((e : Identities) × IsKnown (record f { identities = e }) t v y i)
    → ((d : ℕ) → d < f.disks.count → f.disks.sectors d < 2 ^ 48) → AreTabled f (λ d. Unit {0}) v.state i
    → ((n : ℕ) (r : Image) → n < f.state.made → IsLeft y r → SayTruth (v.arrays n) v.state r n) → ((n : ℕ) → n < f.state.made → HasOwnRows (v.arrays n))
    → HoldGroup v l y → AreHeadsLive v → AreWholeSectors f.disks i → NextOpen f t l v i
said_reopens f t v l y i arranged one small tabled truths own group heads whole =
    let e = one.0 in
    reopens_said f e t l v i
    (known_reopens (record f { identities = e }) t v y i one.1 small truths own (tabled_says f v.state e i arranged tabled one.1.left.elsewhere.tables) l group heads whole)

-- Where its arrays are told and none is over, its drives have their tables, its superblocks say the book's truths, whose rows are the arrays' own, and its arrays hold a volume's group, so
-- it is with whatever the disks may be left with.
pub service_reopens : (f : Found) (t : Slices) (v : Raid) (l : Linear) (x : RackView) → RunInvariant f t v x → IsInside t x
    → ((n : ℕ) → n < f.state.made → IsTracked v (slices_shown t x) n) → ((n : ℕ) → n < f.state.made → is_failed v n ≡ false) → HoldTabled f v.state t x
    → ((n : ℕ) (r : Image) → n < f.state.made → IsLeft (slices_shown t x) r → SayTruth (v.arrays n) v.state r n) → ((n : ℕ) → n < f.state.made → HasOwnRows (v.arrays n))
    → HoldGroup v l (slices_shown t x) → AreHeadsLive v → (i : Image) → IsPick x x x.held i → AreWholeSectors f.disks i → NextOpen f t l v i
service_reopens f t v l x is inside told lasts tabled truths own group heads i pick whole =
    said_reopens f t v l (slices_shown t x) i is.arranged (service_known f t v x is inside told lasts i pick)
    (subst (λ (k : Disks). (d : ℕ) → d < k.count → k.sectors d < 2 ^ 48) (sym is.disks) inside.small) (tabled i (λ d s live never. pick d s live)) truths own group heads whole

-- also where a place whose drive is missing has no disk any more
pub vacant_reopens : (f : Found) (t u : Slices) (v : Raid) (l : Linear) (x : RackView) (place : ℕ) → RunInvariant f t v x → LacksDrive f t u v place x → IsInside u x
    → ((n : ℕ) → n < f.state.made → IsTracked v (slices_shown u x) n) → ((n : ℕ) → n < f.state.made → is_failed v n ≡ false) → HoldTabled f v.state t x
    → ((n : ℕ) (r : Image) → n < f.state.made → IsLeft (slices_shown u x) r → SayTruth (v.arrays n) v.state r n) → ((n : ℕ) → n < f.state.made → HasOwnRows (v.arrays n))
    → HoldGroup v l (slices_shown u x) → AreHeadsLive v → (i : Image) → IsPick x x x.held i → AreWholeSectors f.disks i → NextOpen f u l v i
vacant_reopens f t u v l x place is lacks inside told lasts tabled truths own group heads i pick whole =
    said_reopens f u v l (slices_shown u x) i is.arranged (vacant_known f t u v x place is lacks inside told lasts i pick)
    (subst (λ (k : Disks). (d : ℕ) → d < k.count → k.sectors d < 2 ^ 48) (sym is.disks) inside.small) (tabled i (λ d s live never. pick d s live)) truths own group heads whole
