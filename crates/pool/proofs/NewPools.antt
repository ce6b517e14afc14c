-- The disks on which a pool was made hold a sound pool, and mean its volume.
use Rattle.std.proofs.Common.{◌≡◌, ℕ, zero, suc, ◌+◌, ◌*◌, ◌<◌, ◌≤◌, false, List, Some, refl, sym, ap, subst, ◌∙◌, inl, inr, arith}
use Rattle.std.proofs.lemmas.Bool.{cases_lt}
use Rattle.std.proofs.lemmas.Option.{none-some}
use Rattle.rack.specs.Seen.{Image, IsLive, RackView, SameRack}
use Rattle.rack.specs.Joins.{leaves_weaker}
use Rattle.rack.specs.Sequences.{IsMix}
use Rattle.array_image.specs.Places.{state_sector, super_sector}
use Rattle.array_image.specs.Supers.{super_of}
use Rattle.array_core.proofs.Stripped.{some_same}
use Rattle.lvm_group.specs.Made.{new_volume}
use Rattle.lvm_group.specs.Runs.{Linear, sectors_in}
use Rattle.lvm_group.proofs.NewMeaning.{new_extents_are}
use Rattle.raid_rack.specs.declared.arrays.Arrays.{Arrays}
use Rattle.pool_image.specs.Disks.{Disks, disks_of}
use Rattle.pool_image.specs.Drives.{Found}
use Rattle.pool_image.specs.Meaning.{is_member}
use Rattle.pool_scan.specs.Scanning.{now_in}
use Rattle.pool_rest.specs.Resting.{AreSectors}
use Rattle.pool_format.specs.declared.Birth.{Birth}
use Rattle.pool_format.specs.declared.planning.NewPool.{NewPool}
use Rattle.pool_format.specs.Data.{IsGroupRead, extents_of}
use Rattle.pool_format.specs.Drives.{HasParts, IsCopyOf, IsWhole, no_state}
use Rattle.pool_format.specs.Format.{IsGivenBack, IsMade}
use Rattle.pool_format.specs.Plan.{HasRoom, IsPlan, IsPlanOf, capacity_of, has, units_on}
use Rattle.pool_format.specs.Writing.{InCleared}
use Rattle.pool_format.specs.Stops.{HaveCopiesTo, IsStop, StopsAmid, clearing, filling, saying}
use Rattle.pool_format.proofs.Lists.{got}
use Rattle.assembler_laws.specs.Holding.{AreSteady}
use Rattle.assembler.specs.Sound.{NoStraySuperblock}
use Rattle.new_pool.specs.Contents.{IsNewPool, MeanNoneOrZeros, MeanZeros, SaysNone, unsaid}
use Rattle.new_pool.proofs.Founds.{found_is, shown, sound_logs}
use Rattle.new_pool.proofs.Identities.{no_seat, seat_at, zeros_say_none}
use Rattle.new_pool.proofs.Meaning.{new_meant, none_meant, zeros_meant}
use Rattle.new_pool.proofs.Sound.{own_truth, sound_state}
use Rattle.new_pool.proofs.Truths.{first_at}
use Rattle.new_pool.proofs.Undamaged.{member_is}
use Rattle.new_pool.proofs.Unlisted.{no_slice}
use Rattle.new_pool.proofs.Values.{sectors_now, value_now}
use Rattle.pool.proofs.OwnAreas.{areas_now}
use Rattle.pool.specs.Made.{AreFair, HaveNoOthers, HaveOwnIds, HaveWholeSectors, HeldNone, IsPoolOf, IsSafelyRefused, IsSoundlyMade, MeansStop, StopsMean}

-- ---- contents of disks on which a plan was written

-- the sectors of the volume of a plan
pub plan_size : (plan : NewPool) (extent : ℕ) → plan.extent ≡ extent → sectors_in (new_volume plan.extent (extents_of plan)) ≡ capacity_of plan * extent
plan_size plan extent same = ap (λ n. n * plan.extent) (new_extents_are (extents_of plan)) ∙ ap (λ e. capacity_of plan * e) same

-- a cleared sector says no copy
none_says : (v : List ℕ) → v ≡ no_state → SaysNone v
none_says v cleared = subst SaysNone (sym cleared) zeros_say_none

module _ (x y : RackView) (extent : ℕ) (birth : Birth) (plan : NewPool) (planned : IsPlanOf (units_on x extent) extent plan) (is : IsPlan plan) (room : HasRoom plan x) (stays : SameRack x y)
    (steady : AreSteady x) (ids : HaveOwnIds birth x.disks) where
  pub low_before : (d : ℕ) → d < y.disks → d < x.disks
  low_before d low = subst (λ n. d < n) stays.disks low

  -- a disk is whole, and its sectors are live
  pub whole_disk : (d : ℕ) → d < y.disks → IsWhole x d
  whole_disk d low = record { disk = low_before d low; is_told = steady.told d (low_before d low); unspent = λ s inside. steady.lasts.unspent d s }

  pub live_sector : (d s : ℕ) → d < y.disks → s < y.sectors d → IsLive x y d s
  live_sector d s low inside = record {
    disk = low;
    sector = inside;
    is_told = steady.told d (low_before d low);
    unspent = stays.lasts steady.lasts.lasting d s (steady.lasts.unspent d s);
  }

  live_state : (d : ℕ) → d < y.disks → IsLive x y d state_sector
  live_state d low = live_sector d state_sector low (let logs = room.logs d (low_before d low) in let same = stays.sectors d in omega (arith, logs, same))

  -- contents in which the first drives have their copies
  module _ (c : Image) (sized : HaveWholeSectors y c) (others : HaveNoOthers plan birth y c) (parts : (d : ℕ) → IsWhole x d → HasParts plan birth d (x.sectors d) (c d)) where
    pub new_contents : (said : ℕ) → 0 < said → ((d : ℕ) → d < said → d < y.disks → IsCopyOf plan birth d (c d state_sector))
        → ((d : ℕ) → said ≤ d → d < y.disks → c d state_sector ≡ no_state) → IsNewPool plan birth (disks_of y) c
    new_contents said some copies silent = record {
      is_plan = is;
      units = _;
      extent = _;
      planned = planned;
      count = stays.disks ∙ room.disks;
      logs = λ d low. let logs = room.logs d (low_before d low) in let sectors = stays.sectors d in omega (arith, logs, sectors);
      members = λ n d e at among low. let fits = room.members n d e at among in let sectors = stays.sectors d in omega (arith, fits, sectors);
      sized = sized;
      drives = λ d low. subst (λ sectors. HasParts plan birth d sectors (c d)) (sym (stays.sectors d)) (parts d (whole_disk d low));
      said = said;
      some = some;
      copies = copies;
      silent = silent;
      ids = λ p q same low_p low_q. ids p q same (low_before p low_p) (low_before q low_q);
      others = others;
    }

    module _ (read : IsGroupRead plan birth) where
      meant_by : (said : ℕ) → ((d : ℕ) → d < said → d < y.disks → IsCopyOf plan birth d (c d state_sector))
          → ((d : ℕ) → said ≤ d → d < y.disks → c d state_sector ≡ no_state) → MeanNoneOrZeros (disks_of y) c (capacity_of plan * extent)
      meant_by zero copies silent = unsaid (none_meant (disks_of y) c (λ d low. none_says (c d state_sector) (silent d (omega arith) low)))
      meant_by (suc said) copies silent =
          subst (MeanNoneOrZeros (disks_of y) c) (plan_size plan extent planned.extent_is)
          (new_meant plan birth (disks_of y) c (new_contents (suc said) (omega arith) copies silent) read)

      -- copies that come drive by drive
      pub meant_amid : (k : ℕ) → HaveCopiesTo plan birth x y (λ d v. v ≡ no_state) k c → MeanNoneOrZeros (disks_of y) c (capacity_of plan * extent)
      meant_amid k have = elim (cases_lt k y.disks) [
        | inl low ↦
            elim (have.here (live_state k low)) [
              | inl copy ↦
                  meant_by (suc k)
                  (λ d least inside.
                  elim (cases_lt d k) [
                    | inl less ↦ have.before d less (live_state d inside)
                    | inr more ↦ let same : k ≡ d = omega (arith, least, more) in subst (λ p. IsCopyOf plan birth p (c p state_sector)) same copy
                  ])
                  (λ d above inside. have.behind d (omega (arith, above)) (live_state d inside))
              | inr none ↦
                  meant_by k (λ d less inside. have.before d less (live_state d inside))
                  (λ d above inside.
                  elim (cases_lt k d) [
                    | inl more ↦ have.behind d more (live_state d inside)
                    | inr less ↦ let same : k ≡ d = omega (arith, above, less) in subst (λ p. c p state_sector ≡ no_state) same none
                  ])
            ]
        | inr all ↦
            meant_by k (λ d less inside. have.before d less (live_state d inside)) (λ d above inside. absurd (omega (arith, all, above, inside)))
      ]

  -- contents of which no drive says a state
  pub meant_cleared : (c : Image) → ((d : ℕ) → IsLive x y d state_sector → SaysNone (c d state_sector)) → MeanNoneOrZeros (disks_of y) c (capacity_of plan * extent)
  meant_cleared c none = unsaid (none_meant (disks_of y) c (λ d low. none d (live_state d low)))

  -- nor do those of disks that held no copy, while copies are cleared
  pub meant_blank : HeldNone x → (c : Image) → IsMix x y (InCleared plan) c → MeanNoneOrZeros (disks_of y) c (capacity_of plan * extent)
  meant_blank blank c mix =
      meant_cleared c
      (λ d live.
      elim (mix d state_sector live) [
        | inl old ↦ blank d (c d state_sector) (low_before d live.disk) old
        | inr zeros ↦ none_says (c d state_sector) zeros.1
      ])

-- what stops inside leave
stops_meant : (x y : RackView) (extent : ℕ) (birth : Birth) (plan : NewPool) → IsPlanOf (units_on x extent) extent plan → IsPlan plan → HasRoom plan x → SameRack x y → StopsAmid plan birth x y
    → StopsMean plan birth x y (capacity_of plan * extent)
stops_meant x y extent birth plan planned is room stays stops traced =
    leaves_weaker (IsStop plan birth x y) (MeansStop plan birth x y (capacity_of plan * extent)) of (stops traced)
  where
    later : (c : Image) → (AreFair plan birth x y c → MeanNoneOrZeros (disks_of y) c (capacity_of plan * extent)) → MeansStop plan birth x y (capacity_of plan * extent) c
    later c means = record { moment = inr means; blank = λ blank fair. means fair }

    of : (c : Image) → IsStop plan birth x y c → MeansStop plan birth x y (capacity_of plan * extent) c
    of c (clearing mix) = record { moment = inl mix; blank = λ blank fair. meant_blank x y extent birth plan planned is room stays fair.steady fair.ids blank c mix }
    of c (filling cleared) =
        later c (λ fair. meant_cleared x y extent birth plan planned is room stays fair.steady fair.ids c (λ d live. none_says (c d state_sector) (cleared d live)))
    of c (saying k parts have read) =
        later c (λ fair. meant_amid x y extent birth plan planned is room stays fair.steady fair.ids c fair.sized fair.others parts read k have)

-- ---- on a drive that is no member of an array

module _ (plan : NewPool) (birth : Birth) (disks : Disks) (c : Image) (is : IsNewPool plan birth disks c) where
  abbrev f : Found
  f = shown plan birth disks c is

  -- a place's disk is the one of its number
  seat_is : (p d : ℕ) → f.seats p ≡ Some d → (d < disks.count) × (p ≡ d)
  seat_is p d seat = elim (cases_lt p disks.count) [
    | inl low ↦
        let same : p ≡ d = some_same p d (sym (seat_at plan birth disks c is p low) ∙ seat) in
        (subst (λ n. n < disks.count) same low, same)
    | inr past ↦ absurd (none-some d (sym (no_seat plan birth disks c is p past) ∙ seat))
  ]

  -- what stands where its slice would begin is none of the array's
  pub alone_now : NoStraySuperblock f c
  alone_now n p d first made seat none begins inside t here =
      let at = seat_is p d seat in
      let a = got plan.arrays.items n made in
      let apart : has a.0.members.items d ≡ false =
      sym (member_is plan birth disks c is n a.0 a.1 d at.0) ∙ subst (λ q. is_member f n q ≡ false) at.1 none in
      let same : first ≡ a.0.first = some_same first a.0.first (sym begins ∙ first_at plan birth disks c is n a.0 a.1) in
      inl (is.others n d a.0 t a.1 apart at.0 (subst (λ s. super_of (c d (s + super_sector)) ≡ Some t) same here))

-- ---- a pool that was made

module _ (x y : RackView) (extent : ℕ) (birth : Birth) (a : Arrays) (l : Linear) (made : IsMade x y extent birth a l) where
  abbrev stays : SameRack x y
  stays = made.only.stays

  module _ (steady : AreSteady x) (sized : AreSectors y) (ids : HaveOwnIds birth x.disks) (others : HaveNoOthers made.plan birth y (now_in y)) where
    whole : AreSteady y
    whole = record {
      told = λ d low. stays.told d (steady.told d (subst (λ n. d < n) stays.disks low));
      lasts = record {
        lasting = stays.lasting steady.lasts.lasting;
        unspent = λ d s. stays.lasts steady.lasts.lasting d s (steady.lasts.unspent d s);
      };
      single = λ d s low inside. made.single d s (live_sector x y extent birth made.plan made.planned made.well_planned made.room stays steady ids d s low inside);
      sized = sized;
    }

    is_new : IsNewPool made.plan birth (disks_of y) (now_in y)
    is_new =
        new_contents x y extent birth made.plan made.planned made.well_planned made.room stays steady ids (now_in y) sized others (λ d disk. (made.drives d disk).parts) (y.disks + 1)
        (omega arith) (λ d below low. (made.drives d (whole_disk x y extent birth made.plan made.planned made.well_planned made.room stays steady ids d low)).state)
        (λ d above low. absurd (omega (arith, above, low)))

    all_said : y.disks ≤ is_new.said
    unfolding is_new new_contents
    all_said = least
      where
        least : y.disks ≤ y.disks + 1
        least = omega arith

    holds : (f : Found) × IsPoolOf made.plan birth y f (sectors_in l)
    holds = (
      shown made.plan birth (disks_of y) (now_in y) is_new,
      record {
        holds = record {
          steady = whole;
          found_is = found_is made.plan birth (disks_of y) (now_in y) is_new;
          sound = record {
            rules = sound_state made.plan birth (disks_of y) (now_in y) is_new;
            own = own_truth made.plan birth (disks_of y) (now_in y) is_new;
          };
          logs = sound_logs made.plan birth (disks_of y) (now_in y) is_new;
        };
        state = refl;
        sectors = λ n e at. sectors_now made.plan birth (disks_of y) (now_in y) is_new n e at;
        values = λ n t e at inside. value_now made.plan birth (disks_of y) (now_in y) is_new n e at t inside;
        apart = λ m n p d e b low least seat none member lies there.
            absurd (no_slice made.plan birth (disks_of y) (now_in y) is_new m p d e (omega (arith, low, least)) seat none lies);
        alone = alone_now made.plan birth (disks_of y) (now_in y) is_new;
        joined = refl;
        areas = areas_now made.plan birth (disks_of y) (now_in y) is_new;
        means =
            subst (MeanZeros (disks_of y) (now_in y)) (ap (λ e. sectors_in (new_volume e (extents_of made.plan))) made.planned.extent_is ∙ ap sectors_in (sym made.volume))
            (zeros_meant made.plan birth (disks_of y) (now_in y) is_new made.group all_said);
      },
    )

  size : sectors_in l ≡ capacity_of made.plan * extent
  size = ap sectors_in made.volume ∙ ap (λ n. n * extent) (new_extents_are (extents_of made.plan))

  pub soundly : IsSoundlyMade x y extent birth a l
  soundly = record {
    made = made;
    size = size;
    sound = holds;
    stops = stops_meant x y extent birth made.plan made.planned made.well_planned made.room stays made.stops;
  }

-- ---- and one that wasn't

pub safely : (x y : RackView) (extent : ℕ) (birth : Birth) → IsGivenBack x y extent birth → IsSafelyRefused x y extent birth
safely x y extent birth back = record {
  back = back;
  stops = stops_meant x y extent birth back.plan back.planned back.well_planned back.room back.only.stays back.stops;
}
