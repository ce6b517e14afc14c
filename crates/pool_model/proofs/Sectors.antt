-- The arrays of a pool that contents of disks in whole sectors hold have whole sectors.
use Rattle.std.proofs.Common.{◌≡◌, ℕ, suc, ◌+◌, ◌<◌, ◌≤◌, Bool, true, false, nat_lt, if◌then◌else◌, List, [], length, Option, Some, None, option_map, unwrap_or, refl, sym, ap, subst, ◌∙◌, inl, inr, lt-ltb, ltb-true, arith}
use Rattle.std.specs.Option.{option_map_or}
use Rattle.std.proofs.lemmas.Bool.{cases_Bool}
use Rattle.std.proofs.lemmas.Option.{none-some, option_and_then_some}
use Rattle.rack.specs.Seen.{Image}
use Rattle.slice_rack.specs.Slices.{Slices, first_of as slice_first, place_of as slice_place, seat_of as slice_seat, sectors_of}
use Rattle.md_super.specs.declared.superblock.Super.{Super}
use Rattle.pool_state.specs.declared.contents.State.{State}
use Rattle.array_image.specs.Arrays.{Member, member_in, place_with, reach_of, shape_by, value_by}
use Rattle.array_image.specs.Held.{Among}
use Rattle.array_image.specs.Places.{data_sector, member_slice, place_of, super_sector}
use Rattle.array_image.specs.SoundArray.{IsSoundArray}
use Rattle.array_image.specs.States.{is_current}
use Rattle.array_image.specs.Supers.{is_rebuilding}
use Rattle.pool_image.specs.Disks.{Disks, identities_of, newest}
use Rattle.pool_image.specs.Drives.{Found, drive_sector, extent_of, found, slices_of}
use Rattle.pool_image.specs.Meaning.{arrays_held, is_member, super_at, truth_of}
use Rattle.pool_image.specs.Replay.{Extent, standing, written}
use Rattle.pool_image.proofs.Identities.{seat_inside}
use Rattle.pool_image.proofs.Truths.{extent_found, slice_of_member, slice_sector}
use Rattle.pool_image.proofs.Wholes.{value_sized}
use Rattle.pool_rest.proofs.Payloads.{written_sized}
use Rattle.pool_model.specs.Left.{HasNoSuper, Recovers}
use Rattle.pool_model.specs.Reopening.{AreWholeSectors}
use Rattle.pool_model.proofs.Found.{IsFound, found_is, some_made}
use Rattle.pool_model.proofs.Layers.{IsLaid, laid, none_there, nothing_super}
use Rattle.pool_model.proofs.Members.{among_range}
use Rattle.pool_model.proofs.NoSuper.{no_super_bare, no_super_in}

-- the contents of the pool that is found are in whole sectors too
found_sized : (disks : Disks) (c : Image) (g : Found) → found disks c ≡ Some g → AreWholeSectors disks c → AreWholeSectors disks g.contents
unfolding found
found_sized disks c g is sized =
    option_and_then_some _ (standing disks c) g is
    (λ x stands at.
    subst (AreWholeSectors disks) (of _ (written disks x c) (newest disks (identities_of disks (written disks x c))) at (λ s. refl)) (written_sized disks c x stands sized))
  where
    of : (h : State → Found) (e : Image) (o : Option State) → option_map h o ≡ Some g → ((s : State) → (h s).contents ≡ e) → e ≡ g.contents
    of h e None at same = absurd (none-some g at)
    of h e (Some s) at same = sym (same s) ∙ ap (λ (o : Option Found). option_map_or (λ k. k.contents) o e) at

-- ---- one array

module _ (f : Found) (t : Slices) (s : State) (i : Image) (still : Recovers f t s i)
    (inside : (k d : ℕ) → slice_seat t (slice_place k) ≡ Some d → 0 < sectors_of t k → slice_first t k + sectors_of t k ≤ f.disks.sectors d)
    (sized : AreWholeSectors f.disks i) (n : ℕ) (low : n < still.now.state.made) where
  abbrev g : Found
  g = still.now

  is : IsFound g × (g.disks ≡ f.disks)
  is = found_is f.disks i g still.found_is

  few : n < 16
  few = let most = (some_made g is.0).1 in omega (arith, low, most)

  abbrev truth : Super
  truth = (still.sound.rules.arrays n low).0

  truth_is : truth_of g n ≡ Some truth
  truth_is = (still.sound.rules.arrays n low).1

  agrees : IsSoundArray g.state (slices_of g) n truth
  agrees = (still.sound.rules.arrays n low).2

  lie : IsLaid g n truth
  lie = laid g n truth few truth_is

  extent : extent_of g (suc n) ≡ Some (record { first = lie.first; sectors = data_sector + truth.size })
  extent = extent_found g n lie.first truth lie.begins lie.is

  -- a sector of its slice on a drive
  abbrev shown : ℕ → Option ℕ → List ℕ
  shown u o = option_map_or (λ d. if nat_lt (lie.first + u) (g.disks.sectors d) then g.contents d (lie.first + u) else []) o []

  place_is : (p : ℕ) → place_of (member_slice p n) ≡ p
  place_is p = let small = few in omega (arith, small)

  sector_is : (p u : ℕ) (o : Option ℕ) → u < data_sector + truth.size → g.seats p ≡ o → slices_of g (member_slice p n) u ≡ shown u o
  sector_is p u o within seat =
      slice_sector g (member_slice p n) u lie.first (data_sector + truth.size) (ap (extent_of g) (slice_of_member p n few) ∙ extent) within
      ∙ ap (λ q. drive_sector g q (lie.first + u)) (place_is p) ∙ ap (shown u) seat

  -- a drive with a superblock of it is a member
  member_there : (p d : ℕ) (u : Super) → g.seats p ≡ Some d → super_at g n p ≡ Some u → is_member g n p ≡ true
  member_there p d u seat has = elim (cases_Bool (is_member g n p)) [
    | inl member ↦ member
    | inr none ↦
        absurd (none-some u
        (sym (no_super_in g.state (slices_of g) n p
        (subst (HasNoSuper g.state.pool.0 n) (sym (sector_is p super_sector (Some d) (omega arith) seat)) (alone none (nat_lt (lie.first + super_sector) (g.disks.sectors d)) refl))) ∙ has))
  ]
    where
      alone : is_member g n p ≡ false → (b : Bool) → nat_lt (lie.first + super_sector) (g.disks.sectors d) ≡ b → HasNoSuper g.state.pool.0 n (if b then g.contents d (lie.first + super_sector) else [])
      alone none true within = still.alone n p d lie.first low seat none lie.begins (ltb-true (lie.first + super_sector) (g.disks.sectors d) within)
      alone none false past = no_super_bare g.state.pool.0 n [] none_there

  -- its data lie inside the drive
  data_sized : (p k : ℕ) (u : Super) → super_at g n p ≡ Some u → k < truth.size → length (slices_of g (member_slice p n) (data_sector + k)) ≡ 512
  data_sized p k u has low_k = of (g.seats p) refl
    where
      of : (o : Option ℕ) → g.seats p ≡ o → length (slices_of g (member_slice p n) (data_sector + k)) ≡ 512
      of None free = absurd (none-some u (sym (nothing_super g.state (slices_of g) n p (sector_is p super_sector None (omega arith) free)) ∙ has))
      of (Some d) seat =
          let lies = sym (still.slices.members n p d low seat (member_there p d u seat has)) ∙ extent in
          let first : slice_first t (member_slice p n) ≡ lie.first = ap (λ (o : Option Extent). option_map_or (λ e. e.first) o 0) lies in
          let many : sectors_of t (member_slice p n) ≡ data_sector + truth.size = ap (λ (o : Option Extent). option_map_or (λ e. e.sectors) o 0) lies in
          let room = inside (member_slice p n) d (ap (slice_seat t) (place_is p) ∙ still.slices.seats p d seat) (omega (arith, many)) in
          let at = lie.first + (data_sector + k) in
          let there : at < f.disks.sectors d = omega (arith, first, many, room, low_k) in
          let there_now : at < g.disks.sectors d = subst (λ (z : Disks). at < z.sectors d) (sym is.1) there in
          let disk : d < f.disks.count = subst (λ (z : Disks). d < z.count) is.1 (seat_inside g.state g.disks g.identities p d (sym (is.0.seats p) ∙ seat)) in
          ap length
          (sector_is p (data_sector + k) (Some d) (omega (arith, low_k)) seat ∙ ap (λ (b : Bool). if b then g.contents d at else []) (lt-ltb at (g.disks.sectors d) there_now))
          ∙ found_sized f.disks i g still.found_is sized d at disk there

  -- a member counts on a current place alone, no further than its data
  reach_sized : (p k : ℕ) (b : Bool) (o : Option Super) → is_current g.state p ≡ b → super_at g n p ≡ o → k < (if b then option_map_or (reach_of truth.size) o 0 else 0)
      → length (slices_of g (member_slice p n) (data_sector + k)) ≡ 512
  reach_sized p k false o current has counts = absurd (omega (arith, counts))
  reach_sized p k true None current has counts = absurd (omega (arith, counts))
  reach_sized p k true (Some u) current has counts = data_sized p k u has (below (is_rebuilding u) refl counts)
    where
      below : (b : Bool) → is_rebuilding u ≡ b → k < (if b then u.recovery_offset else truth.size) → k < truth.size
      below true rebuilds less = let most = (agrees.rebuilt p u current has rebuilds).1 in omega (arith, less, most)
      below false whole less = less

  member_sized : (m : Member) (k : ℕ) → Among m (shape_by g.state (slices_of g) n truth).members → k < m.reach → length (slices_of g (member_slice m.place n) (data_sector + k)) ≡ 512
  unfolding shape_by
  member_sized m k among counts =
      let one = among_range (member_in g.state (slices_of g) n truth) m 0 truth.raid_disks among in
      let place = unwrap_or (place_with truth.roles.items one.0) 16 in
      ap (λ (z : Member). length (slices_of g (member_slice z.place n) (data_sector + k))) one.3
      ∙ reach_sized place k (is_current g.state place) (super_at g n place) refl refl (subst (λ (z : Member). k < z.reach) one.3 counts)

  -- Where the slices lie inside the disks, each sector of it has 512 bytes.
  pub still_sized : (x : ℕ) → length (arrays_held g n x) ≡ 512
  still_sized x =
      ap (λ (o : Option Super). length (option_map_or (λ shape. value_by shape (slices_of g) n x) (option_map (shape_by g.state (slices_of g) n) o) [])) truth_is
      ∙ value_sized (shape_by g.state (slices_of g) n truth) (slices_of g) n x member_sized
