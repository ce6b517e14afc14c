-- What contents of a pool's drives give of its arrays and its volume, at each moment of an opening.
use Rattle.std.proofs.Common.{◌≡◌, ℕ, ◌+◌, ◌<◌, ◌≤◌, Bool, true, false, nat_lt, if◌then◌else◌, List, [], slice_get, Option, Some, None, option_map, inl, inr, refl, sym, ap, subst, ◌∙◌, ◌||◌, ltb-true, le-ltb, arith}
use Rattle.std.specs.Option.{option_map_or}
use Rattle.std.proofs.lemmas.Bool.{both_ways}
use Rattle.std.proofs.lemmas.Option.{none-some}
use Rattle.rack.specs.Seen.{Image, RackView, IsLive, IsPick}
use Rattle.rack.specs.Moments.{Leaves}
use Rattle.rack.specs.Sequences.{OnlyReads, WritesOnly}
use Rattle.slice_rack.specs.Slices.{Slices, IsOrderly, disk_of, first_of, seat_of, sectors_of}
use Rattle.slice_rack.specs.Sliced.{IsInside as IsWithin, sliced, slices_of as slices_seen}
use Rattle.slice_rack.specs.SliceRack.{below_of, tables}
use Rattle.slice_rack.specs.Laws.{disk_below, sector_below}
use Rattle.md_super.specs.declared.superblock.Super.{Super}
use Rattle.pool_state.specs.declared.contents.State.{State}
use Rattle.array_image.specs.Places.{data_sector, log_slice, member_slice}
use Rattle.array_image.specs.States.{is_current, state_in}
use Rattle.array_image.specs.Supers.{is_named, super_in}
use Rattle.array_image.specs.Arrays.{Member, Shape, array_in, arrays_in, layout_at, member_in, reach_of, replayed, shape_by, shape_in, value_by}
use Rattle.array_image.specs.Stripes.{sector_in}
use Rattle.array_image.specs.Held.{Among}
use Rattle.array_image.specs.Left.{reading}
use Rattle.array_image.proofs.Frames.{Agree, shape_same, state_same, value_by_data, value_same}
use Rattle.log_laws.specs.View.{LogView}
use Rattle.log_laws.specs.Standing.{IsAlike, LogsStand}
use Rattle.lvm_group.specs.Brought.{IsBefore}
use Rattle.lvm_group.specs.Laws.{array_below, sector_below as array_sector_below, shows}
use Rattle.lvm_group.specs.Runs.{IsOrderly as AreOrderly, Linear, array_of, sector_of, sectors_in}
use Rattle.lvm_group.specs.Shown.{IsInside, contents_of}
use Rattle.array_model.specs.View.{View, sectors_of as sectors_in_array}
use Rattle.array_model.proofs.Keeping.{reading_live}
use Rattle.array_core.specs.Model.{is_truth}
use Rattle.array_core.specs.Slots.{place_by}
use Rattle.array_core.proofs.Opened.{current_is, truth_leads}
use Rattle.pool_scan.proofs.Valid.{valid_arrays}
use Rattle.pool_image.specs.Drives.{Found, slices_of}
use Rattle.pool_image.specs.Meaning.{arrays_held, is_member, joined_arrays, volume_by}
use Rattle.pool_image.specs.Volumes.{linear_of}
use Rattle.pool_check.specs.declared.Checked.{Checked}
use Rattle.pool_check.specs.Checking.{IsChecked}
use Rattle.pool_check.specs.Layers.{IsOpened}
use Rattle.pool_check.specs.Refusing.{is_well}
use Rattle.raid_laws.specs.Marking.{SaysBetween}
use Rattle.raid_rack.specs.declared.arrays.RaidRack.{RaidRack}
use Rattle.raid_laws.specs.Raid.{Raid, is_failed, spent_of}
use Rattle.raid_rack.specs.RaidRack.{raid_in, raid_seen, slices_in, slices_seen as slices_shown}
use Rattle.raid_laws.proofs.Founding.{position_named}
use Rattle.pool_model.specs.Grouped.{IsVolumeOf}
use Rattle.assembler_laws.specs.Members.{AreMembers}
use Rattle.pool_model.specs.Pools.{IsSoundPool}
use Rattle.assembler_laws.specs.Holding.{AreSteady, HoldsArrays, IsIdle, IsPoolOn, pool_values}
use Rattle.assembler_laws.specs.Moments.{HoldsAt}
use Rattle.assembler.specs.Volume.{AllLive}
use Rattle.assembler_laws.proofs.Arrays.{among_made}
use Rattle.assembler_laws.proofs.Rest.{opened_now}
use Rattle.assembler_laws.proofs.Shows.{few_made, few_place, got, now, reads_member}
use Rattle.assembler_laws.proofs.Still.{replays_nothing}
use Rattle.assembler_laws.proofs.Truthful.{shape_said, super_unseated, truth_now}

-- ---- contents that are as the slices read

module _ (f : Found) (t : Slices) (x : RackView) (checked : Checked) (absent : List ℕ) (orderly : IsOrderly t)
    (m : AreMembers f.state t x checked absent) (steady : AreSteady x) (pool : IsPoolOn f.state t x f)
    (found : IsChecked (is_well None) f checked) (sound : IsSoundPool f) where
  abbrev pub e : Image
  e = now f t x checked absent orderly m steady pool found.opened

  module _ (n : ℕ) (joined : n < f.state.joined) where
    made : n < f.state.made
    made = let ready = (valid_arrays f.state 0 m.valid).3 in omega (arith, joined, ready)

    few : n < 16
    few = few_made f t x checked absent orderly m steady pool found.opened n made

    at : (v : View) × (slice_get checked.arrays.items n ≡ Some v)
    at = got checked.arrays.items n (let count = m.founded.count in omega (arith, made, count))

    abbrev of : IsOpened f n at.0
    of = found.opened.each n at.0 at.1

    abbrev tr : Super
    tr = of.truth

    usable : is_truth tr ≡ true
    usable =
        let founded = m.founded.each n at.0 at.1 in
        ap is_truth (sym (ap (λ (z : View). z.truth) of.view) ∙ ap (λ (z : View). z.truth) founded.view) ∙ founded.usable

    own : is_named tr tr.dev_number ≡ true
    own = sound.own n tr made of.truth_is

    -- a place that has a disk
    seated : (p d : ℕ) × (seat_of t p ≡ Some d)
    seated =
        let leads = truth_leads f.state (slices_of f) n tr of.truth_is in
        let here = current_is f.state (slices_of f) n leads.at tr leads.here in
        by leads.at here.1 (f.seats leads.at) refl
      where
        by : (p : ℕ) → super_in f.state (slices_of f) n p ≡ Some tr → (o : Option ℕ) → f.seats p ≡ o → (q d : ℕ) × (seat_of t q ≡ Some d)
        by p is (Some d) seat = (p, d, sym (pool.seats p) ∙ seat)
        by p is None none = absurd (none-some tr (sym (super_unseated f t x checked absent orderly m steady pool found.opened n made p none) ∙ is))

    -- ---- the array by what the slices read as

    abbrev shape : Shape
    shape = shape_by f.state e n tr

    shape_is : shape_in f.state e n ≡ Some shape
    shape_is = ap (option_map (shape_by f.state e n)) (truth_now f t x checked absent orderly m steady pool found.opened n made tr of.truth_is own)

    -- a member that counts is one of the pool
    counted : (k : Member) (s : ℕ) → Among k shape.members → s < k.reach → (k.place < 16) × (is_member f n k.place ≡ true)
    unfolding shape_by
    counted k s among counts =
        let made_at = among_made (member_in f.state e n tr) 0 tr.raid_disks k among in
        subst (λ (z : Member). (z.place < 16) × (is_member f n z.place ≡ true)) (sym made_at.3)
        (on made_at.0 (let below = made_at.2 in omega (arith, below)) (subst (λ (z : Member). s < z.reach) made_at.3 counts))
      where
        reaches : (b : Bool) (o : Option Super) → s < (if b then option_map_or (reach_of tr.size) o 0 else 0) → b ≡ true
        reaches true o less = refl
        reaches false o less = absurd (omega (arith, less))

        on : (j : ℕ) → j < tr.raid_disks → s < (member_in f.state e n tr j).reach
            → (place_by tr j < 16) × (is_member f n (place_by tr j) ≡ true)
        on j low less = (
          few_place f t x checked absent orderly m steady pool found.opened (place_by tr j)
              (reaches (is_current f.state (place_by tr j)) (super_in f.state e n (place_by tr j)) less),
          ap (λ (o : Option Super). option_map_or (λ z. is_named z (place_by tr j)) o false) of.truth_is ∙ position_named tr j usable low,
        )

    read_value : (y : ℕ) → value_by shape e n y ≡ arrays_held f n y
    read_value y =
        value_by_data shape e (slices_of f) n y
        (λ k among counts.
        let s = sector_in (layout_at shape y) y in
        let member = counted k s among counts in
        reads_member f t x checked absent orderly m steady pool found.opened n k.place (data_sector + s) made member.0 member.1)
        ∙ ap (λ (g : Shape). value_by g (slices_of f) n y)
        (shape_said f t x checked absent orderly m steady pool found.opened n made tr of.truth_is own at.0 of refl usable)
        ∙ sym (ap (λ (o : Option Shape). option_map_or (λ (g : Shape). value_by g (slices_of f) n y) o []) (ap (option_map (shape_by f.state (slices_of f) n)) of.truth_is))

    -- contents that are so, but for gates and halves of logs, give the pool's array
    pub alike_values : (l : LogView) → IsIdle f.state t x l → (r : Image) → IsAlike r e → (y : ℕ) → arrays_in r n y ≡ arrays_held f n y
    unfolding arrays_in
    alike_values l log r alike y =
        let place = seated in
        let rest = (opened_now f t x checked absent orderly m steady pool found sound l log place.0 place.1 place.2).rest in
        let state : state_in r ≡ Some f.state =
        state_same r e (λ p. alike (log_slice p) 0 (λ part. let some = part.1 in omega (arith, some))) ∙ rest.state in
        let same : Agree n r e = λ p k. alike (member_slice p n) k (λ part. let slice = part.0 in omega (arith, slice, few)) in
        ap (λ (o : Option State). option_map_or (λ s. array_in s r n y) o []) state
        ∙ ap (λ (o : Option Shape). option_map_or (λ (g : Shape). value_by g r n y) o []) (shape_same f.state r e n same ∙ shape_is)
        ∙ value_same shape r e n y same
        ∙ read_value y

    -- contents that have the state's sectors as they read have the pool's state
    pub read_state : (l : LogView) → IsIdle f.state t x l → (c : Image) → ((j k : ℕ) → c j k ≡ e j k) → state_in c ≡ Some f.state
    read_state l log c same =
        let place = seated in
        state_same c e (λ p. same (log_slice p) 0) ∙ (opened_now f t x checked absent orderly m steady pool found sound l log place.0 place.1 place.2).rest.state

    -- and nothing is pending there
    pub read_replays : (l : LogView) → IsIdle f.state t x l → (c : Image) → ((j k : ℕ) → c j k ≡ e j k) → IsAlike (replayed (sectors_of t) c) e
    read_replays l log c same j k part =
        let place = seated in
        let opened = opened_now f t x checked absent orderly m steady pool found sound l log place.0 place.1 place.2 in
        replays_nothing f.state l log.on (slices_seen t x) opened log.none c j k stand ∙ same j k
      where
        stand : LogsStand (slices_seen t x) c
        stand = record {
          picks = λ p u live. inl (same (log_slice p) u ∙ reading_live (slices_seen t x) (log_slice p) u live);
          inside = λ p u past.
              same (log_slice p) u
              ∙ ap (λ (b : Bool). if b then (x.held (disk_of t (log_slice p)) (first_of t (log_slice p) + u)).current else []) (le-ltb u (sectors_of t (log_slice p)) past);
        }

-- ---- by what stops leave

-- what a stop in calls that only read leaves is what the slices read as
pub reads_leave : (t : Slices) (a x : RackView) → IsOrderly t → IsWithin t x → OnlyReads a x → AreSteady a → (i : Image) → IsPick a x a.held i
    → (j k : ℕ) → sliced t i j k ≡ reading (slices_seen t x) j k
reads_leave t a x orderly inside reads steady i pick j k = by (nat_lt k (sectors_of t j)) refl
  where
    by : (b : Bool) → nat_lt k (sectors_of t j) ≡ b
        → (if b then i (disk_of t j) (first_of t j + k) else []) ≡ (if b then (x.held (disk_of t j) (first_of t j + k)).current else [])
    by false out = refl
    by true is =
        let low = ltb-true k (sectors_of t j) is in
        let live : IsLive a x (disk_of t j) (first_of t j + k) = record {
          disk = disk_below t x j k orderly inside low;
          sector = sector_below t x j k inside low;
          is_told = steady.told (disk_of t j) (subst (λ n. disk_of t j < n) reads.stays.disks (disk_below t x j k orderly inside low));
          unspent = reads.stays.lasts steady.lasts.lasting (disk_of t j) (first_of t j + k) (steady.lasts.unspent (disk_of t j) (first_of t j + k));
        } in
        steady.single (disk_of t j) (first_of t j + k)
        (subst (λ n. disk_of t j < n) reads.stays.disks live.disk)
        (subst (λ n. first_of t j + k < n) (reads.stays.sectors (disk_of t j)) live.sector)
        (i (disk_of t j) (first_of t j + k)) (pick (disk_of t j) (first_of t j + k) live)
        ∙ sym (reads.keeps.held (disk_of t j) (first_of t j + k) live).current

-- what contents say of an array by a state between two gives its values
pub says_values : (f : Found) (s : State) (n : ℕ) (spent : ℕ → Bool) (r : Image) (y : ℕ) → SaysBetween f.state s n (pool_values f n) spent r
    → spent y ≡ false → arrays_in r n y ≡ arrays_held f n y
unfolding arrays_in
says_values f s n spent r y says alive =
    ap (λ (o : Option State). option_map_or (λ k. array_in k r n y) o []) says.is_state
    ∙ ap (λ (o : Option Shape). option_map_or (λ (g : Shape). value_by g r n y) o []) says.says.shape_is
    ∙ elim (says.says.value y alive) [ inl is ↦ is | inr none ↦ absurd none ]

-- the arrays of the volume, so many, hold the pool's in these contents of the disks
abbrev pub GivesArrays : Found → Raid → Slices → Image → Type 0
GivesArrays f v t i =
    (n y : ℕ) → n < f.state.joined → y < sectors_in_array (v.arrays n) → arrays_in (replayed (sectors_of t) (sliced t i)) n y ≡ arrays_held f n y

-- at each moment in which arrays are made, contents give them
pub made_leave : (f : Found) (v : Raid) (t : Slices) (x z : RackView) (may : ℕ → ℕ → List ℕ → Type 0)
    → HoldsArrays f v (slices_seen t x) (slices_seen t z) → AllLive v → WritesOnly x z may → x.traced → Leaves x z (GivesArrays f v t)
made_leave f v t x z may holds alive writes traced =
    let stops = writes.stops traced in
    record {
      later = stops.later;
      kept = stops.kept;
      past = stops.past;
      new = λ k i since until stop n y joined inside.
          let live : spent_of v n y ≡ false = alive n y (subst (λ j. n < j) (sym holds.after.same.joined) joined) inside in
          says_values f v.state n (spent_of v n) (replayed (sectors_of t) (sliced t i)) y
          ((holds.leaves n joined (or_left (is_failed v n) _ live) traced).new k (sliced t i) since until (i, stop, λ j u. refl)
          (λ j u past. ap (λ (b : Bool). if b then i (disk_of t j) (first_of t j + u) else []) (le-ltb u (sectors_of t j) past)))
          live;
    }
  where
    or_left : (a b : Bool) → (a || b) ≡ false → a ≡ false
    or_left true b is = absurd (both_ways true is refl)
    or_left false b is = refl

-- ---- the volume

-- contents that give the arrays give the volume that lies on them
pub gives_volume : (f : Found) (l : Linear) (of : IsVolumeOf f l) (b : RackView) (v : Raid) (t : Slices) (i : Image) → AreOrderly l → IsInside l b
    → ((n : ℕ) → b.sectors n ≡ sectors_in_array (v.arrays n)) → GivesArrays f v t i → HoldsAt t l (volume_by (linear_of (joined_arrays f) of.group) (arrays_held f)) i
gives_volume f l of b v t i orderly inside sizes gives s within =
    let low : s < sectors_in l = subst (λ (m : Linear). s < sectors_in m) (sym of.linear) within in
    let array = array_below l b s orderly inside low in
    shows l (arrays_in (replayed (sectors_of t) (sliced t i))) 0 s low
    ∙ gives (array_of l s) (sector_of l s) (subst (λ (m : Linear). array_of l s < m.arrays) of.linear array)
    (subst (λ k. sector_of l s < k) (sizes (array_of l s)) (array_sector_below l b s orderly inside low))
    ∙ sym (shows l (arrays_held f) 0 s low)
    ∙ ap (λ (m : Linear). contents_of m (arrays_held f) 0 s) of.linear

-- texts are brought up before the first extents: at each moment of it contents give the volume
pub brought_leave : {R : Type 0} (seen : R → RackView) (f : Found) (a : RackView) (x y : RaidRack R) (may : ℕ → ℕ → List ℕ → Type 0) (l : Linear) (of : IsVolumeOf f l)
    → HoldsArrays f (raid_in x) a (slices_shown seen x) → AllLive (raid_in y) → (raid_in y).state.joined ≡ f.state.joined
    → AreOrderly l → IsInside l (raid_seen seen y) → WritesOnly (raid_seen seen x) (raid_seen seen y) (IsBefore f.state.joined)
    → WritesOnly (seen (below_of (slices_in x))) (seen (below_of (slices_in y))) may → (seen (below_of (slices_in x))).traced
    → Leaves (seen (below_of (slices_in x))) (seen (below_of (slices_in y)))
    (HoldsAt (tables (slices_in y)) l (volume_by (linear_of (joined_arrays f) of.group) (arrays_held f)))
brought_leave seen f a x y may l of holds alive ready orderly inside writes bay traced =
    let stops = bay.stops traced in
    let p = raid_seen seen x in
    let q = raid_seen seen y in
    let t = tables (slices_in y) in
    record {
      later = stops.later;
      kept = stops.kept;
      past = stops.past;
      new = λ k i since until stop s within.
          let low : s < sectors_in l = subst (λ (m : Linear). s < sectors_in m) (sym of.linear) within in
          let n = array_of l s in
          let u = sector_of l s in
          let below = array_below l q s orderly inside low in
          let array : n < f.state.joined = subst (λ (m : Linear). n < m.arrays) of.linear below in
          let there = array_sector_below l q s orderly inside low in
          let unspent = alive n u (subst (λ k. n < k) (sym ready) array) there in
          let live : IsLive p q n u = record {
            disk = let most = inside.arrays in omega (arith, most, below);
            sector = there;
            is_told = holds.told n array;
            unspent = unspent;
          } in
          shows l (arrays_in (replayed (sectors_of t) (sliced t i))) 0 s low
          ∙ elim ((writes.stops traced).new k (arrays_in (replayed (sectors_of t) (sliced t i))) since until (sliced t i, (i, stop, λ j v. refl), λ j v. refl) n u live) [
            | inl left ↦ holds.values n u (arrays_in (replayed (sectors_of t) (sliced t i)) n u) array (writes.stays.spent n u unspent) left
            | inr before ↦ absurd (let early = before.1 in omega (arith, early))
          ]
          ∙ sym (shows l (arrays_held f) 0 s low)
          ∙ ap (λ (m : Linear). contents_of m (arrays_held f) 0 s) of.linear;
    }

-- and while the arrays are only read, contents give them
pub read_leave : {R : Type 0} (seen : R → RackView) (f : Found) (a : RackView) (x y : RaidRack R) (may : ℕ → ℕ → List ℕ → Type 0)
    → HoldsArrays f (raid_in x) a (slices_shown seen x) → AllLive (raid_in y) → (raid_in y).state.joined ≡ f.state.joined → f.state.joined ≤ (raid_in y).state.made
    → ((n : ℕ) → sectors_in_array ((raid_in y).arrays n) ≡ sectors_in_array ((raid_in x).arrays n))
    → OnlyReads (raid_seen seen x) (raid_seen seen y)
    → WritesOnly (seen (below_of (slices_in x))) (seen (below_of (slices_in y))) may → (seen (below_of (slices_in x))).traced
    → Leaves (seen (below_of (slices_in x))) (seen (below_of (slices_in y))) (GivesArrays f (raid_in x) (tables (slices_in y)))
read_leave seen f a x y may holds alive ready few sizes reads bay traced =
    let stops = bay.stops traced in
    let p = raid_seen seen x in
    let q = raid_seen seen y in
    let t = tables (slices_in y) in
    record {
      later = stops.later;
      kept = stops.kept;
      past = stops.past;
      new = λ k i since until stop n u joined inside.
          let there : u < sectors_in_array ((raid_in y).arrays n) = subst (λ j. u < j) (sym (sizes n)) inside in
          let unspent = alive n u (subst (λ j. n < j) (sym ready) joined) there in
          let live : IsLive p q n u = record {
            disk = omega (arith, joined, few);
            sector = there;
            is_told = holds.told n joined;
            unspent = unspent;
          } in
          holds.values n u (arrays_in (replayed (sectors_of t) (sliced t i)) n u) joined (reads.stays.spent n u unspent)
          ((reads.keeps.stops traced).new k (arrays_in (replayed (sectors_of t) (sliced t i))) since until (sliced t i, (i, stop, λ j v. refl), λ j v. refl) n u live);
    }
