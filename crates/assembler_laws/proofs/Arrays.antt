-- The arrays of a pool's drives, with the absent places noted, are those that its slices hold.
use Rattle.std.proofs.Common.{◌≡◌, ◌≢◌, ℕ, zero, suc, ◌+◌, ◌*◌, ◌%◌, ◌/◌, ◌-◌, ◌<◌, ◌≤◌, Bool, true, false, ◌==◌, not, nat_lt, is_none, if◌then◌else◌, List, [], map, length, slice_get, Option, Some, None, option_map, unwrap_or, inl, inr, refl, sym, ap, subst, ◌∙◌, eq-eqb, lt-ltb, arith}
use Rattle.std.specs.Option.{option_map_or}
use Rattle.std.proofs.Math.Nat.{mul-le-mul_right}
use Rattle.std.specs.List.{range_with_len}
use Rattle.std.proofs.lemmas.Bool.{and_parts, and_from, both_ways, cases_Bool}
use Rattle.std.proofs.lemmas.List.{length-map}
use Rattle.rack.specs.Seen.{Image, Held, RackView, IsLive}
use Rattle.slice_rack.specs.Slices.{Slices, IsOrderly, disk_of, first_of, seat_of, sectors_of as slice_sectors}
use Rattle.slice_rack.specs.Sliced.{slices_of as slices_seen}
use Rattle.slice_rack.specs.Laws.{disk_below, sector_below}
use Rattle.md_super.specs.declared.superblock.Super.{Super}
use Rattle.array_image.specs.Places.{data_sector, member_slice}
use Rattle.array_image.specs.States.{is_current}
use Rattle.array_image.specs.Supers.{is_named, is_rebuilding, is_reshaping}
use Rattle.md_super.specs.Profile.{is_mirror}
use Rattle.array_image.specs.Arrays.{Member, Shape, array_in, first_layout, layout_at, sectors_by, shape_by, shape_in, value_by}
use Rattle.array_image.specs.Stripes.{Layout, capacity, mirror, parity, sector_in, width}
use Rattle.array_image.specs.Held.{Among, current_in, held_by}
use Rattle.array_image.proofs.Frames.{value_by_data}
use Rattle.array_image.proofs.Sources.{held_current}
use Rattle.array_model.proofs.Keeping.{reading_live}
use Rattle.array_image.specs.Left.{NothingPending}
use Rattle.array_image.specs.SoundArray.{IsSoundArray, first_unsynced}
use Rattle.array_model.specs.declared.Seat.{Seat}
use Rattle.array_model.specs.declared.Seat.TheVariants.{Whole, Missing, Rebuilding}
use Rattle.array_model.specs.View.{View, IsArray, member_by_seat, member_on, place_at, seat_reach, seat_unless, sectors_of, shape_of}
use Rattle.array_model.specs.Opened.{OpensOn}
use Rattle.array_core.specs.Model.{is_truth}
use Rattle.array_core.specs.declared.Found.{Found as FoundSuper}
use Rattle.array_core.specs.Opening.{seat_by, slot_by, slots_found, super_at as super_found, view_found}
use Rattle.array_core.specs.Seats.{gone, names, restart, restarted}
use Rattle.array_core.specs.Slots.{place_by, places_by}
use Rattle.array_core.proofs.Opened.{map_ranged}
use Rattle.array_core.proofs.Rules.{get_map, get_range, zero_more}
use Rattle.array_core.proofs.Truths.{truth_facts}
use Rattle.pool_image.specs.Drives.{Found, slices_of}
use Rattle.pool_image.proofs.Wholes.{value_sized}
use Rattle.pool_image.specs.Meaning.{array_sectors, is_member, super_at}
use Rattle.pool_check.specs.declared.Checked.{Checked}
use Rattle.pool_check.specs.Layers.{AreOpened, IsOpened}
use Rattle.raid_laws.specs.Moves.{IsSeated}
use Rattle.raid_laws.proofs.Founding.{position_named}
use Rattle.raid_laws.proofs.Seated.{array_with, gone_lost, place_few}
use Rattle.pool_model.proofs.Grouped.{truth_long}
use Rattle.pool_model.proofs.Roles.{placed_position}
use Rattle.assembler_laws.specs.Members.{AreMembers}
use Rattle.pool_model.specs.Pools.{IsSoundPool}
use Rattle.assembler_laws.specs.Holding.{AreSteady, IsPoolOn}
use Rattle.assembler_laws.proofs.Seating.{array_seated}
use Rattle.assembler_laws.proofs.Shows.{few_place, live, now, reads_member}
use Rattle.assembler_laws.proofs.Truthful.{shape_now, shape_said, sound_now, super_gone, super_other, super_unseated, truth_now}

-- ---- seats

-- the seat of a position, as it was found
pub seat_found : (n : ℕ) (young : Bool) (found : List FoundSuper) (u : Super) (k : ℕ) → k < u.raid_disks
    → slice_get (view_found n young found u).seats k ≡ Some (option_map_or seat_by (super_found found (place_by u k)) Missing)
seat_found n young found u k low =
    get_map (λ s. s.seat) (slots_found found u) k
    ∙ ap (option_map (λ s. s.seat))
    (get_map (λ place. slot_by place (super_found found place)) (places_by u) k
    ∙ ap (option_map (λ place. slot_by place (super_found found place)))
    (get_map (place_by u) (range_with_len 0 u.raid_disks) k ∙ ap (option_map (place_by u)) (get_range 0 u.raid_disks k low)
    ∙ ap (λ (j : ℕ). Some (place_by u j)) (zero_more k)))

-- a seat that stands between rows is as it was, and one that is lost was missing
seat_same : (size : ℕ) (lost : Bool) (o : Option Super) → (lost ≡ true → o ≡ None)
    → ((u : Super) → o ≡ Some u → is_rebuilding u ≡ true → (u.recovery_offset % 128 ≡ 0) × (u.recovery_offset < size))
    → (if lost then Missing else restart size (option_map_or seat_by o Missing)) ≡ option_map_or seat_by o Missing
seat_same size true o none rows = sym (ap (λ (p : Option Super). option_map_or seat_by p Missing) (none refl))
seat_same size false None none rows = refl
seat_same size false (Some u) none rows = by (is_rebuilding u) refl
  where
    by : (b : Bool) → is_rebuilding u ≡ b → restart size (if b then Rebuilding u.recovery_offset else Whole) ≡ (if b then Rebuilding u.recovery_offset else Whole)
    by false whole = refl
    by true is =
        let at = rows u refl is in
        ap (λ (b : Bool). if b then Rebuilding u.recovery_offset else Rebuilding 0)
        (and_from (u.recovery_offset % 128 == 0) (nat_lt u.recovery_offset size) (eq-eqb (u.recovery_offset % 128) 0 at.0) (lt-ltb u.recovery_offset size at.1))

-- a member of a shape is that of a position
pub among_made : (g : ℕ → Member) (a n : ℕ) (m : Member) → Among m (map g (range_with_len a n)) → (k : ℕ) × (a ≤ k) × (k < a + n) × (m ≡ g k)
among_made g a zero m among = absurd among
among_made g a (suc n) m (inl here) = (a, omega arith, omega arith, here)
among_made g a (suc n) m (inr later) = let rest = among_made g (a + 1) n m later in (rest.0, (let from = rest.1 in omega (arith, from)), (let low = rest.2 in omega (arith, low)), rest.3)

-- an array whose members have the same seats has the same shape
seats_shape : (v w : View) → w.truth ≡ v.truth → ((k : ℕ) → k < v.truth.raid_disks → slice_get w.seats k ≡ slice_get v.seats k) → shape_of w ≡ shape_of v
unfolding shape_of
seats_shape v w truth seats =
    ap (λ (u : Super). shape_of (record w { truth = u })) truth
    ∙ (let members : map (member_on (record w { truth = v.truth })) (range_with_len 0 v.truth.raid_disks) ≡ map (member_on v) (range_with_len 0 v.truth.raid_disks) =
    map_ranged (member_on (record w { truth = v.truth })) (member_on v) 0 v.truth.raid_disks
    (λ k from low. ap (member_by_seat v.truth.size (place_at v k)) (seats k (omega (arith, low)))) in
    λ i. record (shape_of v) { members = members i })

-- an array has at least the sectors of a member
sectors_least : (v : View) → IsArray v → v.truth.size ≤ sectors_of v
sectors_least v array = by (first_layout v.truth) wide
  where
    wide : 2 ≤ width (first_layout v.truth)
    wide = of (is_reshaping v.truth) refl (is_mirror v.truth) array.least
      where
        of : (r : Bool) → is_reshaping v.truth ≡ r → (m : Bool) → 2 ≤ v.truth.raid_disks
            → 2 ≤ width (if r then parity (v.truth.raid_disks - 1) else if m then mirror v.truth.raid_disks else parity v.truth.raid_disks)
        of true is m least = let many = (array.reshape is).1 in omega (arith, many)
        of false is true least = least
        of false is false least = least

    by : (l : Layout) → 2 ≤ width l → v.truth.size ≤ capacity l v.truth.size
    by (mirror n) many = omega arith
    by (parity n) many = let more : 1 * v.truth.size ≤ (n - 1) * v.truth.size = mul-le-mul_right v.truth.size (omega (arith, many)) in omega (arith, more)

module _ (f : Found) (t : Slices) (x : RackView) (checked : Checked) (absent : List ℕ) (orderly : IsOrderly t)
    (m : AreMembers f.state t x checked absent) (steady : AreSteady x) (pool : IsPoolOn f.state t x f)
    (opened : AreOpened f f.state.made checked.arrays.items checked.extents.items checked.stale.items)
    (rules : (n : ℕ) (v : View) → slice_get checked.arrays.items n ≡ Some v → IsArray v)
    (sound : IsSoundPool f)
    (n : ℕ) (joined : n < f.state.joined) (made : n < f.state.made) (v : View) (is : slice_get checked.arrays.items n ≡ Some v) where
  abbrev e : Image
  e = now f t x checked absent orderly m steady pool opened

  abbrev of : IsOpened f n v
  of = opened.each n v is

  abbrev tr : Super
  tr = of.truth

  -- the array as it was opened
  abbrev u : View
  u = view_found n (not (nat_lt n f.state.joined)) of.found tr

  abbrev w : View
  w = gone absent (restarted u)

  u_array : IsArray u
  u_array = subst IsArray of.view (rules n v is)

  restarted_array : IsArray (restarted u)
  restarted_array = array_with u (map (restart tr.size) u.seats) u.went (length-map u.seats (restart tr.size)) u_array

  usable : is_truth tr ≡ true
  usable =
      let founded = m.founded.each n v is in
      ap is_truth (sym (ap (λ (z : View). z.truth) of.view) ∙ ap (λ (z : View). z.truth) founded.view) ∙ founded.usable

  seated : IsSeated f.state n w (slices_seen t x)
  seated =
      subst (λ (z : View). IsSeated f.state n (gone absent (restarted z)) (slices_seen t x)) of.view
      (array_seated f.state t x checked absent m rules absent (λ p named. named) n v is)

  own : is_named tr tr.dev_number ≡ true
  own = sound.own n tr made of.truth_is

  array_sound : IsSoundArray f.state (slices_of f) n tr
  array_sound =
      let at = sound.rules.arrays n made in
      subst (IsSoundArray f.state (slices_of f) n) (of_some at.0 tr (sym at.1 ∙ of.truth_is)) at.2
    where
      of_some : (a b : Super) → Some a ≡ Some b → a ≡ b
      of_some a b same = cc

  -- ---- its shape

  absent_none : (p : ℕ) → names absent p ≡ true → super_at f n p ≡ None
  absent_none p named =
      super_unseated f t x checked absent orderly m steady pool opened n made p
      (pool.seats p ∙ empty (seat_of t p) (and_parts (is_none (seat_of t p)) (is_current f.state p) (sym (m.absent_is p) ∙ named)).0)
    where
      empty : (o : Option ℕ) → is_none o ≡ true → o ≡ None
      empty None none = refl
      empty (Some d) none = absurd (both_ways false refl none)

  rows : (p : ℕ) (z : Super) → super_at f n p ≡ Some z → is_rebuilding z ≡ true → (z.recovery_offset % 128 ≡ 0) × (z.recovery_offset < tr.size)
  rows p z at rebuilding = elim (cases_Bool (is_current f.state p)) [
    | inl current ↦ array_sound.rebuilt p z current at rebuilding
    | inr other ↦ absurd (differs z (sym (super_gone f t x checked absent orderly m steady pool opened n made p other) ∙ at))
  ]
    where
      differs : (y : Super) → None ≡ Some y → ⊥
      differs y bad = cc

  seats_now : (k : ℕ) → k < tr.raid_disks → slice_get w.seats k ≡ slice_get u.seats k
  seats_now k low =
      let p = place_by tr k in
      let found = seat_found n (not (nat_lt n f.state.joined)) of.found tr k low in
      gone_lost (restarted u) absent restarted_array k
      ∙ ap (option_map (seat_unless (names absent) p))
      (get_map (restart tr.size) u.seats k ∙ ap (option_map (restart tr.size)) (found ∙ ap (λ (o : Option Super). Some (option_map_or seat_by o Missing)) (of.are_found p)))
      ∙ ap Some (seat_same tr.size (names absent p) (super_at f n p) (absent_none p) (rows p))
      ∙ sym (found ∙ ap (λ (o : Option Super). Some (option_map_or seat_by o Missing)) (of.are_found p))

  -- a member is as its own superblock says
  pub seats_read : (k : ℕ) → k < tr.raid_disks
      → slice_get (gone absent (restarted v)).seats k ≡ Some (option_map_or seat_by (super_at f n (place_by tr k)) Missing)
  seats_read k low =
      ap (λ (z : View). slice_get (gone absent (restarted z)).seats k) of.view
      ∙ seats_now k low
      ∙ seat_found n (not (nat_lt n f.state.joined)) of.found tr k low
      ∙ ap (λ (o : Option Super). Some (option_map_or seat_by o Missing)) (of.are_found (place_by tr k))

  pub shape_is : shape_of w ≡ shape_by f.state e n tr
  shape_is =
      seats_shape u w refl seats_now
      ∙ sym (ap shape_of of.view)
      ∙ shape_now f t x checked absent orderly m steady pool opened n made tr of.truth_is own v of refl usable

  -- ---- its members

  -- a member's sectors that count are its slice's
  record Counting (k : Member) (s : ℕ) : Type 0 where
    inside : data_sector + s < slice_sectors t (member_slice k.place n)
    low : k.place < 16
    member : is_member f n k.place ≡ true

  counting : (k : Member) (s : ℕ) → Among k (shape_of w).members → s < k.reach → Counting k s
  unfolding shape_of
  counting k s among counts =
      let at = among_made (member_on w) 0 tr.raid_disks k among in
      let low : at.0 < tr.raid_disks = (let below = at.2 in omega (arith, below)) in
      subst (λ (z : Member). Counting z s) (sym at.3)
      (on at.0 low (subst (λ (z : Member). s < z.reach) at.3 counts))
    where
      reaches : (j : ℕ) → (o : Option Seat) → slice_get w.seats j ≡ o → s < option_map_or (seat_reach tr.size) o 0 → (slice_get w.seats j ≢ Some Missing) × (s < tr.size)
      reaches j None seat less = absurd (omega (arith, less))
      reaches j (Some Missing) seat less = absurd (omega (arith, less))
      reaches j (Some Whole) seat less = (λ missing. absurd (let bad : Some Whole ≡ Some Missing = sym seat ∙ missing in cc), less)
      reaches j (Some (Rebuilding to)) seat less =
          let stands = seated.is_of_pool.rows j to seat in
          (λ missing. absurd (let bad : Some (Rebuilding to) ≡ Some Missing = sym seat ∙ missing in cc), (let below = stands.1 in omega (arith, less, below)))

      on : (j : ℕ) → j < tr.raid_disks → s < (member_on w j).reach → Counting (member_on w j) s
      on j low less =
          let there = reaches j (slice_get w.seats j) refl less in
          let room = seated.slices.sectors j low there.0 in
          record {
            inside = (let below = there.1 in omega (arith, room, below));
            low = place_few w j seated.is_array low;
            member = ap (λ (o : Option Super). option_map_or (λ z. is_named z (place_at w j)) o false) of.truth_is ∙ position_named tr j usable low;
          }

  live_at : (place s : ℕ) → s < slice_sectors t (member_slice place n) → IsLive (slices_seen t x) (slices_seen t x) (member_slice place n) s
  live_at place s = live f t x checked absent orderly m steady pool opened (member_slice place n) s

  -- ---- what its slices hold

  opens_now : NothingPending n (slices_seen t x) → OpensOn f.state w (slices_seen t x)
  opens_now closed =
      let truth = truth_now f t x checked absent orderly m steady pool opened n made tr of.truth_is own in
      record {
        few = few_place f t x checked absent orderly m steady pool opened;
        joined = joined;
        shape_is = ap (option_map (shape_by f.state e n)) truth ∙ ap Some (sym shape_is);
        truth_is = truth;
        sound = sound_now f t x checked absent orderly m steady pool opened n made tr of.truth_is own (shape_of w) (sym shape_is)
            (sym (shape_said f t x checked absent orderly m steady pool opened n made tr of.truth_is own v of refl usable) ∙ sym shape_is)
            (λ k among s counts.
            let at = counting k s among counts in
            reads_member f t x checked absent orderly m steady pool opened n k.place (data_sector + s) made at.low at.member)
            array_sound;
        alone = λ place current other. elim (cases_Bool (is_member f n place)) [
          | inr stranger ↦ super_other f t x checked absent orderly m steady pool opened n made place (few_place f t x checked absent orderly m steady pool opened place current) stranger
          | inl member ↦
              let facts = truth_facts tr usable in
              let named = placed_position tr place facts.positions facts.few (sym (ap (λ (o : Option Super). option_map_or (λ z. is_named z place) o false) of.truth_is) ∙ member) in
              absurd (other named.0 named.1 (ap (λ o. unwrap_or o 16) named.2))
        ];
        resync = young (nat_lt n f.state.joined) (lt-ltb n f.state.joined joined);
        unmarked = refl;
        closed = closed;
        single = λ place s at. steady.single (disk_of t (member_slice place n)) (first_of t (member_slice place n) + s)
            (disk_below t x (member_slice place n) s orderly m.fit.1 at.sector) (sector_below t x (member_slice place n) s m.fit.1 at.sector);
        open_slices = λ k s among counts. live_at k.place (data_sector + s) (counting k s among counts).inside;
        supers = λ place low inside. live_at place 8 inside;
        sized = λ k s among counts.
            let inside = (counting k s among counts).inside in
            steady.sized (disk_of t (member_slice k.place n)) (first_of t (member_slice k.place n) + (data_sector + s))
            (disk_below t x (member_slice k.place n) (data_sector + s) orderly m.fit.1 inside) (sector_below t x (member_slice k.place n) (data_sector + s) m.fit.1 inside);
      }
    where
      young : (b : Bool) → b ≡ true → (if not b then tr.size / 128 else first_unsynced tr) ≤ first_unsynced tr
      young b is = subst (λ (c : Bool). (if not c then tr.size / 128 else first_unsynced tr) ≤ first_unsynced tr) (sym is) (omega arith)

  pub opens_array : NothingPending n (slices_seen t x) → OpensOn f.state (gone absent (restarted v)) (slices_seen t x)
  opens_array closed = subst (λ (z : View). OpensOn f.state (gone absent (restarted z)) (slices_seen t x)) (sym of.view) (opens_now closed)

  -- ---- their values

  shape_found : shape_in f.state (slices_of f) n ≡ Some (shape_of w)
  shape_found =
      ap (option_map (shape_by f.state (slices_of f) n)) of.truth_is
      ∙ ap Some (sym (shape_said f t x checked absent orderly m steady pool opened n made tr of.truth_is own v of refl usable) ∙ sym shape_is)

  values_now : (held : Held) → ((place s : ℕ) → IsLive (slices_seen t x) (slices_seen t x) (member_slice place n) s
      → (held (member_slice place n) s).current ≡ ((slices_seen t x).held (member_slice place n) s).current)
      → (y : ℕ) → (held_by (shape_of w) held n y).current ≡ array_in f.state (slices_of f) n y
  values_now held same y =
      held_current (shape_of w) n held y
      ∙ value_by_data (shape_of w) (current_in held) (slices_of f) n y
      (λ k among counts.
      let s = sector_in (layout_at (shape_of w) y) y in
      let at = counting k s among counts in
      let here = live_at k.place (data_sector + s) at.inside in
      same k.place (data_sector + s) here
      ∙ sym (reading_live (slices_seen t x) (member_slice k.place n) (data_sector + s) here)
      ∙ reads_member f t x checked absent orderly m steady pool opened n k.place (data_sector + s) made at.low at.member)
      ∙ sym (ap (λ (o : Option Shape). option_map_or (λ shape. value_by shape (slices_of f) n y) o []) shape_found)

  -- where calls have kept the members' data, each sector is that of the pool
  pub array_values : (held : Held) → ((place s : ℕ) → IsLive (slices_seen t x) (slices_seen t x) (member_slice place n) s
      → (held (member_slice place n) s).current ≡ ((slices_seen t x).held (member_slice place n) s).current)
      → (y : ℕ) → (held_by (shape_of (gone absent (restarted v))) held n y).current ≡ array_in f.state (slices_of f) n y
  array_values held same y =
      ap (λ (z : View). (held_by (shape_of (gone absent (restarted z))) held n y).current) of.view ∙ values_now held same y

  read_now : (y : ℕ) → value_by (shape_of w) e n y ≡ array_in f.state (slices_of f) n y
  read_now y =
      value_by_data (shape_of w) e (slices_of f) n y
      (λ k among counts.
      let s = sector_in (layout_at (shape_of w) y) y in
      let at = counting k s among counts in
      reads_member f t x checked absent orderly m steady pool opened n k.place (data_sector + s) made at.low at.member)
      ∙ sym (ap (λ (o : Option Shape). option_map_or (λ shape. value_by shape (slices_of f) n y) o []) shape_found)

  -- and so do the slices give it as they read
  pub array_read : (y : ℕ) → value_by (shape_of (gone absent (restarted v))) e n y ≡ array_in f.state (slices_of f) n y
  array_read y = ap (λ (z : View). value_by (shape_of (gone absent (restarted z))) e n y) of.view ∙ read_now y

  sectors_now : sectors_of w ≡ array_sectors f n
  unfolding shape_of
  sectors_now = sym (ap (λ (o : Option Shape). option_map_or sectors_by o 0) shape_found)

  -- it has the pool's sectors
  pub sectors_are : sectors_of (gone absent (restarted v)) ≡ array_sectors f n
  sectors_are = ap (λ (z : View). sectors_of (gone absent (restarted z))) of.view ∙ sectors_now

  -- each of its sectors has 512 bytes
  pub array_whole : (y : ℕ) → length (array_in f.state (slices_of f) n y) ≡ 512
  array_whole y =
      ap (λ (o : Option Shape). length (option_map_or (λ shape. value_by shape (slices_of f) n y) o [])) shape_found
      ∙ value_sized (shape_of w) (slices_of f) n y
      (λ k s among counts.
      let at = counting k s among counts in
      let slice = member_slice k.place n in
      ap length
      (sym (reads_member f t x checked absent orderly m steady pool opened n k.place (data_sector + s) made at.low at.member)
      ∙ reading_live (slices_seen t x) slice (data_sector + s) (live_at k.place (data_sector + s) at.inside))
      ∙ steady.sized (disk_of t slice) (first_of t slice + (data_sector + s))
      (disk_below t x slice (data_sector + s) orderly m.fit.1 at.inside) (sector_below t x slice (data_sector + s) m.fit.1 at.inside))

  -- it has room for a volume's metadata
  pub array_room : 2048 ≤ array_sectors f n
  array_room =
      let truth : v.truth ≡ tr = ap (λ (z : View). z.truth) of.view in
      let least : 2048 < v.truth.size = subst (λ (z : Super). 2048 < z.size) (sym truth) (truth_long f.state (slices_of f) n tr of.truth_is) in
      let array = rules n v is in
      let most : v.truth.size ≤ sectors_of (gone absent (restarted v)) = sectors_least v array in
      let same = sectors_are in
      omega (arith, least, most, same)
