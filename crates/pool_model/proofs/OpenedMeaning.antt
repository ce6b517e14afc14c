-- What contents mean that a stop inside an opening leaves: they aren't refused.
use Rattle.std.proofs.Common.{◌≡◌, ℕ, suc, ◌+◌, ◌<◌, ◌≤◌, ◌&&◌, not, Bool, true, false, nat_lt, if◌then◌else◌, is_none, List, [], ◌∷◌, filter, length, slice_get, Option, Some, None, option_map, unwrap_or, refl, sym, ap, ◌∙◌, inl, inr, le-ltb, lt-ltb, ltb-true, arith}
use Rattle.std.specs.Option.{option_map_or}
use Rattle.std.proofs.lemmas.Bool.{and_parts, both_ways, cases_Bool, cases_lt}
use Rattle.std.proofs.lemmas.List.{length-map}
use Rattle.std.proofs.lemmas.List.Sums.{length-filter}
use Rattle.std.specs.List.{range_with_len}
use Rattle.std.proofs.lemmas.Option.{none-some}
use Rattle.rack.specs.Seen.{Image}
use Rattle.shr_base.specs.declared.Id.{Id}
use Rattle.md_super.specs.declared.superblock.Super.{Super}
use Rattle.array_image.specs.Arrays.{Member, Shape, member_in, place_with, shape_by}
use Rattle.array_image.specs.Places.{member_slice, place_of, slice_of, super_sector}
use Rattle.array_image.specs.States.{current_places, is_current}
use Rattle.array_image.specs.Supers.{is_rebuilding}
use Rattle.array_core.proofs.Rules.{get_map}
use Rattle.array_core.proofs.Stripped.{some_same}
use Rattle.lvm_group.specs.Images.{IsVolume}
use Rattle.lvm_group.specs.Laws.{shows}
use Rattle.lvm_group.specs.Runs.{Linear, array_of, data_start, sector_of}
use Rattle.lvm_group.proofs.SameParts.{area_below}
use Rattle.pool_image.specs.Drives.{Found, drive_sector, extent_of, found, slices_from, slices_of}
use Rattle.pool_image.specs.Meaning.{Refusal, absent_count, array_sectors, arrays_held, bad_volume, is_dirty_degraded, is_too_few, joined_arrays, lacking_of, no_pool, refusal_of, refused_at, refused_by, shape_of, super_at, truth_of, two_pools}
use Rattle.pool_image.specs.Replay.{Extent}
use Rattle.pool_image.specs.Volumes.{Arrays, first_bad}
use Rattle.pool_image.proofs.Groups.{AreWholeArrays}
use Rattle.pool_image.proofs.Joined.{AreAlike}
use Rattle.pool_image.proofs.Parts.{held_in}
use Rattle.raid_laws.specs.Book.{OnlyMarksSince, drive_of}
use Rattle.pool_model.specs.Openings.{HadOnePool, RecoversInOpening}
use Rattle.pool_model.specs.Reopening.{HoldMeaning, HoldVolumeBy}
use Rattle.pool_model.proofs.ArraysMeant.{arrays_volume}
use Rattle.pool_model.proofs.Current.{shape_truth}
use Rattle.pool_model.proofs.Found.{found_is, found_stands, some_made}
use Rattle.pool_model.proofs.Grouped.{means_below}
use Rattle.pool_model.proofs.Layers.{nothing_super}
use Rattle.pool_model.proofs.OnePool.{none_stood}
use Rattle.pool_model.proofs.Refused.{enough, not_dirty}
use Rattle.pool_model.proofs.Unrefused.{no_damages, none_damaged, refused_or, unrefused, unrefused_few}

-- ---- why they aren't refused

-- of numbers that pass two tests there are no more than of those that pass two others, where each of them does
fewer : (p c q d : ℕ → Bool) → ((k : ℕ) → c k ≡ true → p k ≡ true → (d k ≡ true) × (q k ≡ true)) → (xs : List ℕ) → length (filter p (filter c xs)) ≤ length (filter q (filter d xs))
fewer p c q d each [] = omega arith
fewer p c q d each (x ∷ xs) = of (c x) (p x) refl refl (fewer p c q d each xs)
  where
    fore : List ℕ
    fore = filter c xs

    rear : List ℕ
    rear = filter d xs

    more : (b : Bool) → length (filter q rear) ≤ length (if b then x ∷ filter q rear else filter q rear)
    more true = omega arith
    more false = omega arith

    grows : (b : Bool) → length (filter q rear) ≤ length (filter q (if b then x ∷ rear else rear))
    grows true = more (q x)
    grows false = omega arith

    of : (a b : Bool) → c x ≡ a → p x ≡ b → length (filter p fore) ≤ length (filter q rear)
        → length (filter p (if a then x ∷ fore else fore)) ≤ length (filter q (if d x then x ∷ rear else rear))
    of false b current passes rest = (let most = grows (d x) in omega (arith, rest, most))
    of true false current passes rest =
        let same = ap (λ (b : Bool). length (if b then x ∷ filter p fore else filter p fore)) passes in
        let most = grows (d x) in
        omega (arith, same, rest, most)
    of true true current passes rest =
        let both = each x current passes in
        let left = ap (λ (b : Bool). length (if b then x ∷ filter p fore else filter p fore)) passes in
        let right =
        ap (λ (b : Bool). length (filter q (if b then x ∷ rear else rear))) both.0 ∙ ap (λ (b : Bool). length (if b then x ∷ filter q rear else filter q rear)) both.1 in
        omega (arith, left, right, rest)

-- no more drives are absent than were
absent_fewer : (f g : Found) → OnlyMarksSince f.state g.state → ((p : ℕ) → is_current g.state p ≡ true → g.seats p ≡ f.seats p) → absent_count g ≤ absent_count f
unfolding current_places
absent_fewer f g after seats =
    let drives = sym (length-map g.state.drives.items drive_of) ∙ ap length after.same.drives ∙ length-map f.state.drives.items drive_of in
    let left = length-filter (λ p. is_none (g.seats p)) (current_places g.state) in
    let right = length-filter (λ p. is_none (f.seats p)) (current_places f.state) in
    let few =
    fewer (λ p. is_none (g.seats p)) (is_current g.state) (λ p. is_none (f.seats p)) (is_current f.state)
    (λ p now lacks. (after.current p now, ap is_none (sym (seats p now)) ∙ lacks)) (range_with_len 0 (length g.state.drives.items)) in
    let same = ap (λ n. length (filter (λ p. is_none (f.seats p)) (filter (is_current f.state) (range_with_len 0 n)))) drives in
    omega (arith, left, right, few, same)

-- ---- members

-- a place without a disk has no superblock
none_seated : (f : Found) (n p : ℕ) → n < 16 → f.seats p ≡ None → super_at f n p ≡ None
unfolding slices_of
none_seated f n p few free = nothing_super f.state (slices_of f) n p (of (extent_of f (slice_of (member_slice p n))))
  where
    nothing : (u : ℕ) → drive_sector f (place_of (member_slice p n)) u ≡ []
    nothing u =
        let same : place_of (member_slice p n) ≡ p = omega (arith, few) in
        ap (λ o. option_map_or (λ d. if nat_lt u (f.disks.sectors d) then f.contents d u else []) o []) (ap f.seats same ∙ free)

    of_test : (e : Extent) (b : Bool) → (if b then slices_from f e.first (member_slice p n) super_sector else []) ≡ []
    of_test e true = nothing (e.first + super_sector)
    of_test e false = refl

    of : (o : Option Extent) → option_map_or (λ (e : Extent). if nat_lt super_sector e.sectors then slices_from f e.first (member_slice p n) super_sector else []) o [] ≡ []
    of None = refl
    of (Some e) = of_test e (nat_lt super_sector e.sectors)

-- one of the members by superblocks
one_mapped : (member : ℕ → Member) (o : Option ℕ) (m : Member) → option_map member o ≡ Some m → (k : ℕ) × (m ≡ member k)
one_mapped member None m is = absurd (let bad : None ≡ Some m = is in cc)
one_mapped member (Some k) m is = (k, some_same m (member k) (sym is))

-- no more lack of a list than of one as long, where each that is whole in that one is so in it
fewer_lack : (xs ys : List Member) → length ys ≡ length xs
    → ((k : ℕ) (m o : Member) → slice_get xs k ≡ Some m → slice_get ys k ≡ Some o → m.is_whole ≡ true → o.is_whole ≡ true)
    → length (filter (λ (m : Member). not m.is_whole) ys) ≤ length (filter (λ (m : Member). not m.is_whole) xs)
fewer_lack [] [] long whole = omega arith
fewer_lack [] (o ∷ ys) long whole = absurd (omega (arith, long))
fewer_lack (m ∷ xs) [] long whole = absurd (omega (arith, long))
fewer_lack (m ∷ xs) (o ∷ ys) long whole =
    of m.is_whole o.is_whole (whole 0 m o refl refl) (fewer_lack xs ys (omega (arith, long)) (λ k a b at there. whole (suc k) a b at there))
  where
    were : List Member
    were = filter (λ (k : Member). not k.is_whole) xs

    are : List Member
    are = filter (λ (k : Member). not k.is_whole) ys

    of : (a b : Bool) → (a ≡ true → b ≡ true) → length are ≤ length were → length (if not b then o ∷ are else are) ≤ length (if not a then m ∷ were else were)
    of true true keeps rest = rest
    of true false keeps rest = absurd (both_ways false refl (keeps refl))
    of false true keeps rest = omega (arith, rest)
    of false false keeps rest = omega (arith, rest)

module _ (f : Found) (from : ℕ) (i : Image) (holds : RecoversInOpening f from i) (none : refused_by f ≡ None) (good : first_bad (joined_arrays holds.now) ≡ None) where
  abbrev g : Found
  g = holds.now

  module _ (n : ℕ) (low : n < g.state.made) where
    small : n < 16
    small = (let most = (some_made g (found_is f.disks i g holds.found_is).0).1 in omega (arith, low, most))

    before : n < f.state.made
    before = (let made = holds.after.same.made in omega (arith, low, made))

    -- a place with a whole member isn't marked meanwhile
    stays : (p : ℕ) → (is_current f.state p && option_map_or (λ (t : Super). not (is_rebuilding t)) (super_at f n p) false) ≡ true → is_current g.state p ≡ true
    stays p whole = elim (cases_Bool (is_current g.state p)) [
      | inl now ↦ now
      | inr past ↦
          let parts = and_parts (is_current f.state p) _ whole in
          absurd (both_ways (option_map_or (λ (t : Super). not (is_rebuilding t)) (super_at f n p) false)
          (ap (λ (o : Option Super). option_map_or (λ (t : Super). not (is_rebuilding t)) o false) (none_seated f n p small (holds.marks p parts.0 past))) parts.1)
    ]

    whole_stays : (had : Shape) (k : ℕ) (m : Member) → shape_of f n ≡ Some had → slice_get had.members k ≡ Some m → m.is_whole ≡ true → is_current g.state m.place ≡ true
    unfolding shape_by
    whole_stays had k m was at whole =
        let by = shape_truth f.state (slices_of f) n (truth_of f n) had was in
        let member : ℕ → Member = member_in f.state (slices_of f) n by.0 in
        let ks = range_with_len 0 by.0.raid_disks in
        let one = one_mapped member (slice_get ks k) m (sym (get_map member ks k) ∙ ap (λ (z : Shape). slice_get z.members k) (sym by.2) ∙ at) in
        ap (λ (z : Member). is_current g.state z.place) one.1
        ∙ stays (unwrap_or (place_with by.0.roles.items one.0) 16) (ap (λ (z : Member). z.is_whole) (sym one.1) ∙ whole)

    -- it lacks no more members than it did
    lacking_still : (had left : Shape) → shape_of f n ≡ Some had → shape_of g n ≡ Some left → lacking_of left ≤ lacking_of had
    lacking_still had left was is =
        let keeps = holds.reach n had left before was is in
        let long = sym (length-map left.members (λ m. m.place)) ∙ ap length keeps.places ∙ length-map had.members (λ m. m.place) in
        let fewer = fewer_lack had.members left.members long (λ k m o at there whole. (keeps.reach k m o at there (whole_stays had k m was at whole)).whole whole) in
        let late = length-filter (λ (m : Member). not m.is_whole) left.members in
        let early = length-filter (λ (m : Member). not m.is_whole) had.members in
        omega (arith, fewer, late, early)

    held : is_too_few f n ≡ false
    held = enough f (none ∙ sym (ap (option_map bad_volume) (unrefused f none).1)) n before

    enough_now : is_too_few g n ≡ false
    enough_now = of (shape_of f n) (shape_of g n) refl refl
      where
        of : (a b : Option Shape) → shape_of f n ≡ a → shape_of g n ≡ b → option_map_or (λ shape. nat_lt 1 (lacking_of shape)) b true ≡ false
        of a None was is =
            let truth = holds.sound.rules.arrays n low in absurd (none-some _ (sym is ∙ ap (option_map (shape_by g.state (slices_of g) n)) truth.1))
        of None (Some left) was is =
            absurd (both_ways (is_too_few f n) held (ap (λ (o : Option Shape). option_map_or (λ shape. nat_lt 1 (lacking_of shape)) o true) was))
        of (Some had) (Some left) was is =
            let most : lacking_of had ≤ 1 = elim (cases_lt 1 (lacking_of had)) [
              | inl more ↦
                  absurd (both_ways (is_too_few f n) held
                  (ap (λ (o : Option Shape). option_map_or (λ shape. nat_lt 1 (lacking_of shape)) o true) was ∙ lt-ltb 1 (lacking_of had) more))
              | inr least ↦ least
            ] in
            let fewer = lacking_still had left was is in
            le-ltb 1 (lacking_of left) (omega (arith, most, fewer))

    -- where it lacks a member it did before
    lacked : (a b : Option Shape) → shape_of f n ≡ a → shape_of g n ≡ b → option_map_or (λ shape. nat_lt 0 (lacking_of shape)) b false ≡ true
        → option_map_or (λ shape. nat_lt 0 (lacking_of shape)) a false ≡ true
    lacked a None was is lacks = absurd (both_ways false refl lacks)
    lacked None (Some left) was is lacks =
        absurd (both_ways (is_too_few f n) held (ap (λ (o : Option Shape). option_map_or (λ shape. nat_lt 1 (lacking_of shape)) o true) was))
    lacked (Some had) (Some left) was is lacks =
        let fewer = lacking_still had left was is in
        let some = ltb-true 0 (lacking_of left) lacks in
        lt-ltb 0 (lacking_of had) (omega (arith, fewer, some))

    -- so it has no rows left to resync where it lacks one, as it had none: the pool wasn't refused
    synced_now : is_dirty_degraded g n ≡ true → ⊥
    synced_now dirty =
        let parts = and_parts (nat_lt n g.state.joined) _ dirty in
        let joined : nat_lt n f.state.joined ≡ true = sym (ap (nat_lt n) holds.after.same.joined) ∙ parts.0 in
        let lacks = lacked (shape_of f n) (shape_of g n) refl refl (and_parts (option_map_or (λ shape. nat_lt 0 (lacking_of shape)) (shape_of g n) false) _ parts.1).0 in
        let unsynced = holds.unsynced n before dirty in
        both_ways (is_dirty_degraded f n) (not_dirty f (none ∙ sym (ap (option_map bad_volume) (unrefused f none).1)) n before) (λ i. joined i && (lacks i && unsynced i))

  -- nor are its drives a reason: they keep their parts, and no more of them are absent
  by_drives : (why : Refusal) → refused_by g ≡ Some why → ⊥
  by_drives why is =
      elim (refused_or g (λ reason. ⊥) (λ n low lacks. both_ways (is_too_few g n) (enough_now n low) lacks) (λ n low dirty. synced_now n low dirty)
      (let most = absent_fewer f g holds.after holds.seats in let few = unrefused_few f none in omega (arith, most, few)) good why is) [
        | inl never ↦ never
        | inr lacks ↦
            none-some why
            (sym (no_damages g (λ p now. holds.parts p now (none_damaged f p (unrefused f none).0 (holds.after.current p now)))) ∙ lacks)
      ]

  -- nor is another pool's disk
  pub opened_unrefused : HadOnePool f → refusal_of f.disks i ≡ None
  unfolding refusal_of
  opened_unrefused had =
      ap (λ o. option_map_or (refused_at f.disks i) o (Some no_pool)) (found_stands f.disks i g holds.found_is)
      ∙ ap (λ (b : Bool). if b then Some two_pools else option_map_or refused_by (found f.disks i) (Some no_pool)) (none_stood f.disks i g holds.found_is holds.logs (holds.one_pool had))
      ∙ ap (λ o. option_map_or refused_by o (Some no_pool)) holds.found_is
      ∙ of (refused_by g) refl
    where
      of : (o : Option Refusal) → refused_by g ≡ o → refused_by g ≡ None
      of None unrefused = unrefused
      of (Some why) refused = absurd (by_drives why refused)

-- ---- the volume

-- They mean the volume whose group their arrays have before the first extents, with what the pool's arrays hold.
module _ (f : Found) (l : Linear) (i : Image) (holds : RecoversInOpening f data_start i) (all : f.state.joined ≡ f.state.made)
    (sectors : ℕ → ℕ) (sized : (n : ℕ) → n < f.state.joined → sectors n ≡ array_sectors f n) (room : (n : ℕ) → n < f.state.joined → data_start ≤ sectors n)
    (whole : (n x : ℕ) → n < f.state.joined → length (arrays_held f n x) ≡ 512) (extent : l.extent ≡ f.state.extent) (arrays : l.arrays ≡ f.state.joined)
    (heads : Image) (lies : (seqno : ℕ) × IsVolume f.state.pool.0 f.state.joined l seqno sectors heads)
    (same : (n x : ℕ) → n < f.state.joined → x < data_start → arrays_held holds.now n x ≡ heads n x)
    (heads_whole : (n x : ℕ) → n < f.state.joined → x < data_start → length (heads n x) ≡ 512) where
  abbrev h : Found
  h = holds.now

  abbrev mixed : Image
  mixed n x = if nat_lt x data_start then heads n x else arrays_held f n x

  abbrev b : Arrays
  b = record { pool = f.state.pool.0; extent = f.state.extent; joined = f.state.joined; sectors = sectors; contents = mixed }

  made : (n : ℕ) → n < f.state.joined → n < f.state.made
  made n low = omega (arith, low, all)

  by_heads : (n x : ℕ) → x < data_start → mixed n x ≡ heads n x
  by_heads n x first = ap (λ (k : Bool). if k then heads n x else arrays_held f n x) (lt-ltb x data_start first)

  by_data : (n x : ℕ) → data_start ≤ x → mixed n x ≡ arrays_held f n x
  by_data n x behind = ap (λ (k : Bool). if k then heads n x else arrays_held f n x) (le-ltb x data_start behind)

  are : AreWholeArrays b
  are = record {
    whole = λ n low x within. elim (cases_lt x data_start) [
      | inl first ↦ ap length (by_heads n x first) ∙ heads_whole n x low first
      | inr behind ↦ ap length (by_data n x behind) ∙ whole n x low
    ];
    room = λ n low. let enough = room n low in omega (arith, enough);
  }

  alike : AreAlike (joined_arrays h) b
  alike = record {
    pool = ap (λ (z : Id). z.0) holds.after.same.pool;
    extent = holds.after.same.extent;
    joined = holds.after.same.joined;
    sectors = λ n low. holds.sectors n (made n low) ∙ sym (sized n low);
    contents = λ n x low within. elim (cases_lt x data_start) [
      | inl first ↦ same n x low first ∙ sym (by_heads n x first)
      | inr behind ↦ holds.values n x (made n low) behind (let size = sized n low in omega (arith, within, size)) ∙ sym (by_data n x behind)
    ];
  }

  below : (n x : ℕ) → n < f.state.joined → x < data_start → held_in b n x ≡ heads n x
  below n x low first =
      ap (λ (k : Bool). if k then mixed n x else []) (lt-ltb x (sectors n) (let enough = room n low in omega (arith, first, enough))) ∙ by_heads n x first

  lies_held : (seqno : ℕ) × IsVolume f.state.pool.0 f.state.joined l seqno sectors (held_in b)
  lies_held = (
    lies.0,
    record {
      areas = λ n low. area_below (heads n) (held_in b n) (sectors n) (lies.1.areas n low) (λ x first. below n x low first);
      means = means_below f.state.pool.0 f.state.joined sectors l lies.0 heads (held_in b) lies.1.areas lies.1.means below;
    },
  )

  by_mixed : HoldVolumeBy f mixed l i
  by_mixed = arrays_volume f i h holds.found_is b alike are room l extent arrays lies_held

  -- none of its sectors is before the first extents
  opened_volume : HoldVolumeBy f (arrays_held f) l i
  unfolding arrays_volume by_mixed
  opened_volume = record {
    now = h;
    found_is = holds.found_is;
    lies = by_mixed.lies;
    areas = by_mixed.areas;
    means = λ none.
        let one = by_mixed.means none in (
          one.0,
          one.1,
          one.2,
          λ s within.
              one.3 s within ∙ shows l mixed 0 s within ∙ by_data (array_of l s) (sector_of l s) (omega arith) ∙ sym (shows l (arrays_held f) 0 s within),
        );
  }

  -- and where the pool wasn't refused, and no disk had another pool's state, they aren't
  pub opened_meaning : refused_by f ≡ None → HadOnePool f → HoldMeaning f l i
  unfolding opened_volume
  opened_meaning none had = record { volume = opened_volume; unrefused = opened_unrefused f data_start i holds none opened_volume.lies.sound had }
