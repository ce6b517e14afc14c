-- What the slices of a pool's drives read as is what the pool's slices hold.
use Rattle.std.proofs.Common.{◌≡◌, ℕ, zero, suc, ◌∷◌, ◌+◌, ◌<◌, ◌≤◌, Bool, true, false, ◌&&◌, nat_lt, if◌then◌else◌, List, [], length, slice_get, Option, Some, None, is_some, inl, inr, refl, sym, ap, subst, ◌∙◌, ltb-true, le-ltb, arith}
use Rattle.std.specs.Prelude.{unwrap_or}
use Rattle.std.specs.Option.{option_and_then, option_map_or}
use Rattle.std.proofs.lemmas.Bool.{cases_lt}
use Rattle.rack.specs.Seen.{Image, RackView, IsLive}
use Rattle.slice_rack.specs.Slices.{Slices, IsOrderly, disk_of, first_of, sectors_of, seat_of}
use Rattle.slice_rack.specs.Sliced.{sliced, slices_of as slices_seen}
use Rattle.slice_rack.specs.Laws.{disk_below, sector_below}
use Rattle.md_super.specs.declared.superblock.Super.{Super}
use Rattle.array_image.specs.Places.{member_slice, place_of}
use Rattle.array_image.specs.States.{is_current}
use Rattle.array_image.specs.Supers.{is_named}
use Rattle.array_image.specs.Left.{reading}
use Rattle.array_model.specs.View.{View}
use Rattle.pool_scan.proofs.Valid.{valid_places, valid_arrays}
use Rattle.pool_image.specs.Disks.{Disks, Seats}
use Rattle.pool_image.specs.Drives.{Found, slices_of}
use Rattle.pool_image.specs.Meaning.{is_member}
use Rattle.pool_image.proofs.Composed.{empty, same_slices}
use Rattle.pool_check.specs.declared.Checked.{Checked}
use Rattle.pool_check.specs.declared.Extent.{Extent}
use Rattle.pool_check.specs.Layers.{AreOpened, IsOpened}
use Rattle.pool_check.specs.Laying.{HasMembers}
use Rattle.pool_check.specs.Slots.{AreSlots}
use Rattle.pool_check.proofs.Shown.{member_shows}
use Rattle.raid_laws.proofs.Noted.{current_few}
use Rattle.assembler_laws.specs.Members.{AreMembers}
use Rattle.assembler_laws.specs.Holding.{AreSteady, IsPoolOn}

pub got : {X : Type 0} (xs : List X) (n : ℕ) → n < length xs → (x : X) × (slice_get xs n ≡ Some x)
got [] n below = absurd (omega (arith, below))
got (x ∷ xs) zero below = (x, refl)
got (x ∷ xs) (suc n) below = got xs n (omega (arith, below))

-- an opened array names the members of the pool's truth
pub names_members : (f : Found) (n p : ℕ) (v : View) → IsOpened f n v → is_named v.truth p ≡ is_member f n p
names_members f n p v opened =
    ap (λ (w : View). is_named w.truth p) opened.view
    ∙ sym (ap (λ (o : Option Super). option_map_or (λ t. is_named t p) o false) opened.truth_is)

module _ (f : Found) (t : Slices) (x : RackView) (checked : Checked) (absent : List ℕ) (orderly : IsOrderly t)
    (m : AreMembers f.state t x checked absent) (steady : AreSteady x) (pool : IsPoolOn f.state t x f)
    (opened : AreOpened f f.state.made checked.arrays.items checked.extents.items checked.stale.items) where
  -- the contents as they read now
  abbrev pub now : Image
  now = reading (slices_seen t x)

  pub few_made : (n : ℕ) → n < f.state.made → n < 16
  few_made n made = let most = (valid_arrays f.state 0 m.valid).1 in omega (arith, made, most)

  pub few_place : (p : ℕ) → is_current f.state p ≡ true → p < 16
  few_place p current = current_few f.state p (valid_places f.state 0 m.valid).1 current

  -- ---- slices

  -- a slice that is there has its disk
  pub slice_seat : (k u : ℕ) → u < sectors_of t k → (d : ℕ) × (seat_of t (place_of k) ≡ Some d)
  slice_seat k u inside = by (seat_of t (place_of k)) refl
    where
      by : (o : Option ℕ) → seat_of t (place_of k) ≡ o → (d : ℕ) × (seat_of t (place_of k) ≡ Some d)
      by (Some d) seat = (d, seat)
      by None seat = let none = orderly.seated k seat in absurd (omega (arith, inside, none))

  -- and no slice is past those of the places
  pub none_past : (k : ℕ) → 272 ≤ k → sectors_of t k ≡ 0
  none_past k past = elim (cases_lt 0 (sectors_of t k)) [
    | inr none ↦ omega (arith, none)
    | inl some ↦
        let seat = slice_seat k 0 some in
        let few = few_place (place_of k) (m.current (place_of k) seat.0 seat.1) in
        absurd (omega (arith, past, few))
  ]

  pub live : (k u : ℕ) → u < sectors_of t k → IsLive (slices_seen t x) (slices_seen t x) k u
  live k u inside =
      let disk = disk_below t x k u orderly m.fit.1 inside in
      record {
        disk = elim (cases_lt k 272) [ inl low ↦ low | inr past ↦ (let none = none_past k past in absurd (omega (arith, inside, none))) ];
        sector = inside;
        is_told = steady.told (disk_of t k) disk;
        unspent = steady.lasts.unspent (disk_of t k) (first_of t k + u);
      }

  pub reads_outside : (k u : ℕ) → sectors_of t k ≤ u → now k u ≡ []
  reads_outside k u past = ap (λ (b : Bool). if b then (x.held (disk_of t k) (first_of t k + u)).current else []) (le-ltb u (sectors_of t k) past)

  -- the run's tables show of the disks what the slices read as
  pub shows : (k u : ℕ) → sliced t f.contents k u ≡ now k u
  shows k u = by (nat_lt u (sectors_of t k)) refl
    where
      by : (b : Bool) → nat_lt u (sectors_of t k) ≡ b
          → (if b then f.contents (disk_of t k) (first_of t k + u) else []) ≡ (if b then (x.held (disk_of t k) (first_of t k + u)).current else [])
      by false out = refl
      by true is =
          let inside = ltb-true u (sectors_of t k) is in
          let seat = slice_seat k u inside in
          let disk : disk_of t k ≡ seat.0 = ap (λ o. unwrap_or o 0) seat.1 in
          pool.contents (place_of k) (disk_of t k) (first_of t k + u) (pool.seats (place_of k) ∙ seat.1 ∙ ap Some (sym disk)) (sector_below t x k u m.fit.1 inside)

  -- a place without a disk has nothing
  pub unseated : (k u : ℕ) → f.seats (place_of k) ≡ None → slices_of f k u ≡ []
  unseated k u none =
      let nothing : sectors_of t k ≡ 0 = orderly.seated k (sym (pool.seats (place_of k)) ∙ none) in
      same_slices f t k u (empty nothing none) ∙ shows k u ∙ reads_outside k u (omega (arith, nothing))

  -- ---- members

  seats_same : seat_of t ≡ f.seats
  seats_same = λ i p. sym (pool.seats p) i

  pub slots : AreSlots x.sectors f.seats checked.arrays.items checked.extents.items
  slots = subst (λ (g : Seats). AreSlots x.sectors g checked.arrays.items checked.extents.items) seats_same m.slots

  pub members : HasMembers f.seats checked.arrays.items checked.extents.items t
  members = subst (λ (g : Seats). HasMembers g checked.arrays.items checked.extents.items t) seats_same m.members

  -- a member's slice reads as the pool's
  pub reads_member : (n p u : ℕ) → n < f.state.made → p < 16 → is_member f n p ≡ true → now (member_slice p n) u ≡ slices_of f (member_slice p n) u
  reads_member n p u made low member = by (f.seats p) refl
    where
      by : (o : Option ℕ) → f.seats p ≡ o → now (member_slice p n) u ≡ slices_of f (member_slice p n) u
      by (Some d) seat =
          sym (shows (member_slice p n) u)
          ∙ member_shows f x.sectors checked.arrays.items checked.extents.items t opened slots members (λ q. sym (pool.seats q))
          (λ q e at. ap (λ (disks : Disks). disks.sectors e) pool.disks) n p d u made (few_made n made) low seat member
      by None seat =
          let place : place_of (member_slice p n) ≡ p = (let few = few_made n made in omega (arith, few)) in
          let nothing : sectors_of t (member_slice p n) ≡ 0 = orderly.seated (member_slice p n) (ap (seat_of t) place ∙ sym (pool.seats p) ∙ seat) in
          reads_outside (member_slice p n) u (omega (arith, nothing)) ∙ sym (unseated (member_slice p n) u (ap f.seats place ∙ seat))

  -- and nobody else has a slice
  pub no_slice : (n p : ℕ) → n < f.state.made → p < 16 → is_member f n p ≡ false → sectors_of t (member_slice p n) ≡ 0
  no_slice n p made low other =
      let v = got checked.arrays.items n (let count = opened.count in omega (arith, made, count)) in
      let named : is_named v.0.truth p ≡ false = names_members f n p v.0 (opened.each n v.0 v.1) ∙ other in
      members.sectors n p (few_made n made) low
      ∙ ap (λ (o : Option View). option_map_or (λ (e : Extent). e.sectors)
      (option_and_then (λ (w : View). if is_named w.truth p && is_some (f.seats p) then slice_get checked.extents.items n else None) o) 0) v.1
      ∙ ap (λ (b : Bool). option_map_or (λ (e : Extent). e.sectors) (if b && is_some (f.seats p) then slice_get checked.extents.items n else None) 0) named

  pub reads_other : (n p u : ℕ) → n < f.state.made → p < 16 → is_member f n p ≡ false → now (member_slice p n) u ≡ []
  reads_other n p u made low other = reads_outside (member_slice p n) u (let none = no_slice n p made low other in omega (arith, none))
