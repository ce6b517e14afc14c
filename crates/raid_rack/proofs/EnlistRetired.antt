-- What the commit of a new drive says of arrays that were vacated at its place in memory, as it is of the arrays before that.
use Rattle.std.proofs.Common.{◌≡◌, ◌≢◌, ℕ, suc, ◌+◌, ◌<◌, Bool, false, List, [], ◌∷◌, get_or, is_some, length, slice_get, Option, Some, None, option_map, refl, sym, ap, subst, ◌∙◌, inl, inr, arith}
use Rattle.std.proofs.lemmas.Bool.{both_ways, cases_lt}
use Rattle.std.proofs.lemmas.Option.{slice_get-get_or}
use Rattle.rack.specs.Seen.{RackView}
use Rattle.pool_state.specs.declared.contents.Plan.{Plan}
use Rattle.pool_state.specs.declared.contents.State.{State}
use Rattle.array_image.specs.States.{is_current}
use Rattle.array_core.specs.Seats.{gone, heeded, losing, seat_of}
use Rattle.array_model.specs.View.{View, place_at, spent_in}
use Rattle.raid_rack.specs.declared.arrays.Arrays.{Arrays}
use Rattle.raid_laws.specs.Enlisting.{FindsEach, IsEnlisted, JoinsEach, with_drive}
use Rattle.raid_laws.specs.Moves.{IsHeeded, IsSet, IsUnmarked, RaisesBy}
use Rattle.raid_laws.specs.NewDrive.{ReachesAll, joins}
use Rattle.raid_laws.specs.Raid.{Raid}
use Rattle.raid_rack.specs.RaidRack.{IsRunning, no_array, raid_by}
use Rattle.raid_laws.specs.Truths.{JoinsTruths}
use Rattle.raid_laws.specs.Vacated.{vacated, vacated_state}
use Rattle.raid_rack.proofs.Mended.{each_get, get_past}
use Rattle.raid_rack.proofs.Renewed.{member_found}
use Rattle.raid_rack.proofs.Renewing.{AreSameMembers, joins_same, seat_same}
use Rattle.raid_rack.proofs.Retiring.{enlisted_back, heeded_losing, losing_array, losing_only, raises_back, truths_back, vacated_already, vacated_heeded, vacated_missing, vacated_same, vacated_set}

-- arrays that are changed one by one are as many
count_each : (xs ys : List View) (f : View → View) → ((n : ℕ) → slice_get ys n ≡ option_map f (slice_get xs n)) → length ys ≡ length xs
count_each [] [] f each = refl
count_each [] (y ∷ ys) f each = absurd (let bad : Some y ≡ None = each 0 in cc)
count_each (x ∷ xs) [] f each = absurd (let bad : None ≡ Some (f x) = each 0 in cc)
count_each (x ∷ xs) (y ∷ ys) f each = ap suc (count_each xs ys f (λ n. each (suc n)))

module _ (q d : Arrays) (place : ℕ) (x : RackView) (running : IsRunning q x) (heeded_now : IsHeeded (raid_by q))
    (each : (n : ℕ) → slice_get d.all.items n ≡ option_map heeded (option_map (gone (place ∷ [])) (slice_get q.all.items n)))
    (state : d.state ≡ vacated_state place q.state) (number : d.log.number ≡ q.log.number) where
  both : (n : ℕ) → slice_get d.all.items n ≡ option_map (λ u. heeded (gone (place ∷ []) u)) (slice_get q.all.items n)
  both n = each n ∙ same (slice_get q.all.items n)
    where
      same : (o : Option View) → option_map heeded (option_map (gone (place ∷ [])) o) ≡ option_map (λ u. heeded (gone (place ∷ []) u)) o
      same None = refl
      same (Some u) = refl

  pub retired_count : length d.all.items ≡ length q.all.items
  retired_count = count_each q.all.items d.all.items (λ u. heeded (gone (place ∷ []) u)) both

  retired_at : (n : ℕ) → get_or d.all.items n no_array ≡ losing (place ∷ []) (get_or q.all.items n no_array)
  retired_at n = elim (cases_lt n (length q.all.items)) [
    | inl low ↦
        each_get (λ u. heeded (gone (place ∷ []) u)) q.all.items d.all.items n both low
        ∙ heeded_losing place (get_or q.all.items n no_array) (heeded_now n (let count = running.count in omega (arith, low, count)))
    | inr past ↦
        get_past d.all.items n (let count = retired_count in omega (arith, past, count)) ∙ sym (ap (losing (place ∷ [])) (get_past q.all.items n past))
  ]

  pub retired_raid : raid_by d ≡ vacated place (raid_by q)
  retired_raid = λ i. record { state = state i; arrays = λ n. retired_at n i; number = number i }

  -- their members are on the same places
  pub retired_members : AreSameMembers q.all.items d.all.items
  retired_members = record {
    count = retired_count;
    size = λ n low. ap (λ (u : View). u.truth.size + 2048) (retired_at n);
    seat = λ n p low.
        let u = get_or q.all.items n no_array in
        let array = (running.set.arrays n (let count = running.count in omega (arith, low, count))).is_array in
        ap (λ (w : View). is_some (seat_of w p)) (retired_at n) ∙ seat_same u (losing (place ∷ []) u) array (losing_array place u array) (losing_only place u array) p;
  }

  -- where the drive was missing nothing has changed
  vacated_whole : (few : place < 16) → (unmarked : (n : ℕ) → n < q.state.made → IsUnmarked ((raid_by q).arrays n)) → is_current q.state place ≡ false
      → vacated place (raid_by q) ≡ raid_by q
  vacated_whole few unmarked missing = λ i. record { state = vacated_already place q.state missing i; arrays = λ n. at n i; number = q.log.number }
    where
      at : (n : ℕ) → losing (place ∷ []) (get_or q.all.items n no_array) ≡ get_or q.all.items n no_array
      at n = elim (cases_lt n (length q.all.items)) [
        | inl low ↦ vacated_same place (raid_by q) x few running.set heeded_now unmarked missing n (let count = running.count in omega (arith, low, count))
        | inr past ↦ ap (losing (place ∷ [])) (get_past q.all.items n past) ∙ sym (get_past q.all.items n past)
      ]

  module _ (few : place < 16) (unmarked : (n : ℕ) → n < q.state.made → IsUnmarked ((raid_by q).arrays n)) where
    pub retired_set : IsSet (raid_by d) x
    retired_set = subst (λ (r : Raid). IsSet r x) (sym retired_raid) (vacated_set place (raid_by q) x few running.set heeded_now unmarked)

    pub retired_heeded : IsHeeded (raid_by d)
    retired_heeded = subst (λ (r : Raid). IsHeeded r) (sym retired_raid) (vacated_heeded place (raid_by q) x few running.set heeded_now unmarked)

    pub retired_missing : is_current d.state place ≡ false
    retired_missing = ap (λ (s : State). is_current s place) state ∙ vacated_missing place (raid_by q) x few running.set heeded_now unmarked

    -- ---- the commit

    module _ (z : Arrays) (units sectors : ℕ) (plan : Plan) (a b : RackView) (reaches : ReachesAll q.all.items place sectors) where
      abbrev joining : ℕ → Bool
      joining = joins q.all.items place sectors

      joining_same : joins d.all.items place sectors ≡ joining
      joining_same = λ i n. joins_same q.all.items d.all.items retired_members place sectors n i

      apart : (n : ℕ) → n < q.state.made → joining n ≡ false → (k : ℕ) → k < ((raid_by q).arrays n).truth.raid_disks → place_at ((raid_by q).arrays n) k ≢ place
      apart n low none k inside here =
          let u = get_or q.all.items n no_array in
          both_ways (joining n) none
          (reaches n u (slice_get-get_or q.all.items n no_array (let count = running.count in omega (arith, low, count)))
          (member_found u place k (running.set.arrays n low).is_array inside here))

      vacated_joined : IsEnlisted place units plan (joins d.all.items place sectors) (raid_by d) (raid_by z) a b → IsEnlisted place units plan joining (vacated place (raid_by q)) (raid_by z) a b
      vacated_joined joined =
          subst (λ (f : ℕ → Bool). IsEnlisted place units plan f (vacated place (raid_by q)) (raid_by z) a b) joining_same
          (subst (λ (r : Raid). IsEnlisted place units plan (joins d.all.items place sectors) r (raid_by z) a b) retired_raid joined)

      pub back_joined : IsEnlisted place units plan (joins d.all.items place sectors) (raid_by d) (raid_by z) a b → IsEnlisted place units plan joining (raid_by q) (raid_by z) a b
      back_joined joined =
          enlisted_back place (raid_by q) x few running.set heeded_now unmarked units plan joining apart (raid_by z) a b (vacated_joined joined)

      pub back_less : IsEnlisted place units plan (joins d.all.items place sectors) (raid_by d) (raid_by z) a b
          → (n k : ℕ) → n < q.state.made → spent_in ((raid_by z).arrays n) k ≡ false → spent_in (losing (place ∷ []) ((raid_by q).arrays n)) k ≡ false
      back_less joined n k low alive = (vacated_joined joined).spent n k low alive

      pub back_raises : RaisesBy 18 (raid_by d) (raid_by z) → RaisesBy 18 (raid_by q) (raid_by z)
      back_raises raises = raises_back 18 place (raid_by q) (raid_by z) (subst (λ (r : Raid). RaisesBy 18 r (raid_by z)) retired_raid raises)

      pub back_each : JoinsEach place units plan (raid_by d) (raid_by z) a b → is_current q.state place ≡ false → JoinsEach place units plan (raid_by q) (raid_by z) a b
      back_each joins_all missing =
          subst (λ (r : Raid). JoinsEach place units plan r (raid_by z) a b) (retired_raid ∙ vacated_whole few unmarked missing) joins_all

      pub back_finds : FindsEach place units plan (raid_by d) (raid_by z) a b → FindsEach place units plan (vacated place (raid_by q)) (raid_by z) a b
      back_finds finds = subst (λ (r : Raid). FindsEach place units plan r (raid_by z) a b) retired_raid finds

      pub back_truths : JoinsTruths (with_drive place units plan (joins d.all.items place sectors) (raid_by d)) (raid_by z) a b
          → JoinsTruths (with_drive place units plan joining (raid_by q)) (raid_by z) a b
      back_truths truths =
          truths_back place (raid_by q) x few running.set heeded_now unmarked units plan joining apart (raid_by z) a b
          (subst (λ (f : ℕ → Bool). JoinsTruths (with_drive place units plan f (vacated place (raid_by q))) (raid_by z) a b) joining_same
          (subst (λ (r : Raid). JoinsTruths (with_drive place units plan (joins d.all.items place sectors) r) (raid_by z) a b) retired_raid truths))
