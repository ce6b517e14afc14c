-- Superblocks that say the truth of an array that is told agree in whatever a stop leaves.
use Rattle.std.proofs.Common.{◌≡◌, ◌≢◌, ℕ, ◌-◌, ◌*◌, ◌^◌, ◌<◌, nat_lt, if◌then◌else◌, Bool, true, false, ◌==◌, not, is_some, length, slice_get, Option, Some, None, option_map, unwrap_or, refl, sym, ap, subst, ◌∙◌, inl, inr, eqb-true, eq-eqb, arith}
use Rattle.std.proofs.lemmas.Bool.{both_ways, cases_Bool}
use Rattle.std.specs.List.{list_any, range_with_len}
use Rattle.arrayvec.specs.ArrayVec.{ArrayVec}
use Rattle.rack.specs.Seen.{Image, RackView}
use Rattle.md_super.specs.declared.superblock.Super.{Super}
use Rattle.array_image.specs.Arrays.{place_with, shape_by}
use Rattle.array_image.specs.Left.{IsLeft}
use Rattle.array_image.specs.Places.{super_sector}
use Rattle.array_image.specs.SoundArray.{array_fields}
use Rattle.array_image.specs.States.{current_places, is_current}
use Rattle.array_image.specs.Supers.{is_super_of, super_in, super_of, truth_in}
use Rattle.log_laws.proofs.Kept.{stands_of}
use Rattle.array_model.specs.declared.Seat.TheVariants.{Missing}
use Rattle.array_model.specs.Members.{slice_on}
use Rattle.array_model.specs.Stages.{IsStateOf}
use Rattle.array_model.specs.View.{View, is_missing_seat, place_at, rows_of, shape_of}
use Rattle.array_model.proofs.Renewed.{current_of, leads}
use Rattle.array_core.specs.Superblocks.{is_settled, left_offset, settled}
use Rattle.array_core.specs.TruthHeld.{HoldTruth, SaysTruth}
use Rattle.array_core.proofs.OwnSupers.{passes_only}
use Rattle.array_core.proofs.TruthHeld.{slice_place}
use Rattle.array_core.proofs.TruthValid.{says_valid}
use Rattle.raid_laws.specs.Agreeing.{AgreeLeaving, SayTruth, SupersAgree}
use Rattle.raid_laws.specs.Cleaning.{Cleans, IsEnded, NoneFails, as_it_was, restated}
use Rattle.raid_laws.specs.Moves.{IsHeeded, IsSeated, IsSet}
use Rattle.raid_laws.specs.Raid.{IsTracked, Raid, InvariantInCall, held_in, is_failed, spent_of}
use Rattle.raid_laws.proofs.Ranges.{any_none, any_some}
use Rattle.raid_laws.proofs.Seated.{place_few, view_with}
use Rattle.raid_rack.proofs.Truths.{pool_bits}
use Rattle.raid_laws.proofs.Written.{state_of}

module _ (v : Raid) (x : RackView) (n : ℕ) (set : IsSet v x) (heeded : IsHeeded v) (low : n < v.state.made) (told : IsTracked v x n) (goes : is_failed v n ≡ false)
    (held : HoldTruth (v.arrays n) x) (r : Image) (left : IsLeft x r) where
  abbrev u : View
  u = v.arrays n

  seated : IsSeated v.state n (v.arrays n) x
  seated = set.arrays n low

  state : IsStateOf (v.arrays n) v.state
  state = state_of v x n set heeded low

  stood : InvariantInCall v.state (shape_of (v.arrays n)) (held_in v x n) (spent_of v n) (λ place. false) v x n
  stood = told.stood goes

  -- the superblock of a current member
  record HasOwn (k : ℕ) : Type 0 where
    own : Super
    is : super_in v.state r n (place_at (v.arrays n) k) ≡ Some own
    same : array_fields own ≡ array_fields (v.arrays n).truth

  seat_there : (k : ℕ) → k < (v.arrays n).truth.raid_disks → is_current v.state (place_at (v.arrays n) k) ≡ true → slice_get (v.arrays n).seats k ≢ Some Missing
  seat_there k inside current gone =
      let count = seated.is_array.seats in
      let marks : Some false ≡ Some true = sym (ap (option_map (λ seat. not (is_missing_seat seat))) gone) ∙ state.marks k (omega (arith, inside, count)) ∙ ap Some current in
      both_ways false refl (ap (λ (o : Option Bool). unwrap_or o false) marks)

  own_of : (k : ℕ) → k < (v.arrays n).truth.raid_disks → is_current v.state (place_at (v.arrays n) k) ≡ true → HasOwn k
  own_of k inside current =
      let d = slice_on u k in
      let p = place_at u k in
      let has = held k inside (seat_there k inside current) in
      let c = left.0 in
      let read : r d super_sector ≡ c d super_sector = left.2 d super_sector ∙ stood.log.quiet c (stands_of c left.1) d super_sector refl in
      let says : SaysTruth u.truth p (c d super_sector) =
      subst (λ q. SaysTruth u.truth q (c d super_sector)) (slice_place u k seated.is_array.few) (has.says (c d super_sector) (left.1.picks d super_sector has.live)) in
      record {
        own = says.own;
        is = subst (λ m. super_in v.state r m p ≡ Some says.own) seated.number
            (passes_only (is_super_of v.state.pool.0 v.state.extent (length v.state.drives.items) u.number p) (super_of (r d super_sector)) says.own
            (ap super_of read ∙ says.reads)
            (says_valid v.state u p (c d super_sector) state (pool_bits v.state u seated.is_of_pool) (place_few u k seated.is_array inside) says));
        same = says.same;
      }

  -- each valid superblock of the array on a current place is a member's
  on_place : (p : ℕ) (w : Super) → is_current v.state p ≡ true → super_in v.state r n p ≡ Some w → array_fields w ≡ array_fields (v.arrays n).truth
  on_place p w current is =
      let test : ℕ → Bool = λ k. place_at u k == p in
      elim (cases_Bool (list_any test (range_with_len 0 u.truth.raid_disks))) [
        | inl some ↦
            let at = any_some test 0 u.truth.raid_disks some in
            let high = at.2 in
            let here : place_at u at.0 ≡ p = eqb-true (place_at u at.0) p at.3 in
            let own = own_of at.0 (omega (arith, high)) (ap (is_current v.state) here ∙ current) in
            ap array_fields (same_super (sym is ∙ ap (super_in v.state r n) (sym here) ∙ own.is)) ∙ own.same
        | inr none ↦
            absurd (none_some (sym (subst (λ m. super_in v.state r m p ≡ None) seated.number
            (stood.holds.alone r left p current
            (λ k inside here. both_ways (test k) (any_none test 0 u.truth.raid_disks k none (omega arith) (omega (arith, inside))) (eq-eqb (place_at u k) p here))))
            ∙ is))
      ]
    where
      same_super : {y z : Super} → Some y ≡ Some z → y ≡ z
      same_super e = cc

      none_some : {y : Super} → None ≡ Some y → ⊥
      none_some e = cc

  truth_fields : (t : Super) → truth_in v.state r n ≡ Some t → array_fields t ≡ array_fields (v.arrays n).truth
  unfolding truth_in
  truth_fields t is =
      let lead = leads (super_in v.state r n) (current_places v.state) t is in
      on_place lead.place t (current_of v.state lead.place lead.among) lead.is

  truth_there : (t : Super) × (truth_in v.state r n ≡ Some t)
  truth_there =
      of_shape (truth_in v.state r n) refl (subst (λ m. option_map (shape_by v.state r m) (truth_in v.state r m) ≡ Some (shape_of u)) seated.number (stood.holds.shape.says r left).shape_is)
    where
      of_shape : (o : Option Super) → truth_in v.state r n ≡ o → option_map (shape_by v.state r n) (truth_in v.state r n) ≡ Some (shape_of (v.arrays n)) → (t : Super) × (truth_in v.state r n ≡ Some t)
      of_shape None none is = absurd (let bad : None ≡ Some (shape_of (v.arrays n)) = sym (ap (option_map (shape_by v.state r n)) none) ∙ is in cc)
      of_shape (Some t) some is = (t, some)

  -- they agree
  pub supers_agree : SupersAgree v.state r n
  supers_agree =
      let t = truth_there.0 in
      let same = truth_fields t truth_there.1 in
      record {
        truth = t;
        leads = truth_there.1;
        same = λ p w current is. on_place p w current is ∙ sym same;
        there = λ k p inside role current.
            let small : k < u.truth.raid_disks = subst (λ (m : ℕ). k < m) (ap (λ (y : Super). y.raid_disks) same) inside in
            let here : place_at u k ≡ p =
            ap (λ (roles : ArrayVec ℕ). unwrap_or (place_with roles.items k) 16) (sym (ap (λ (y : Super). y.roles) same)) ∙ ap (λ (o : Option ℕ). unwrap_or o 16) role in
            let own = own_of k small (ap (is_current v.state) here ∙ current) in
            ap is_some (ap (super_in v.state r n) (sym here) ∙ own.is);
      }

  -- they agree, and say the array's truth
  pub truth_said : SayTruth (v.arrays n) v.state r n
  truth_said = record { agree = supers_agree; fields = truth_fields }

  -- they agree, and where the array is settled they leave the rows to resync that are left in it
  pub truth_agrees : is_settled (v.arrays n) ≡ true → AgreeLeaving (v.arrays n) v.state r n
  truth_agrees settled = record {
    agree = supers_agree;
    left = λ t is young. ap (λ (y : Super). y.resync_offset) (truth_fields t is) ∙ eqb-true u.truth.resync_offset (left_offset u) settled;
  }

-- ---- a clean end

-- superblocks that leave what is left of an array do so still
settled_is : (u : View) → is_settled (settled u) ≡ true
settled_is u = eq-eqb (left_offset u) (left_offset (settled u)) (of_young u.young)
  where
    rows : ℕ
    rows = if nat_lt u.resync (rows_of u) then u.resync * 128 else 2 ^ 64 - 1

    cut : ℕ → ℕ
    cut k = if nat_lt k u.truth.size then k else 2 ^ 64 - 1

    cut_twice : (b : Bool) → nat_lt u.truth.resync_offset u.truth.size ≡ b → (if b then u.truth.resync_offset else 2 ^ 64 - 1) ≡ cut (if b then u.truth.resync_offset else 2 ^ 64 - 1)
    cut_twice true is = sym (ap (λ (b : Bool). if b then u.truth.resync_offset else 2 ^ 64 - 1) is)
    cut_twice false is = same (nat_lt (2 ^ 64 - 1) u.truth.size)
      where
        same : (b : Bool) → 2 ^ 64 - 1 ≡ (if b then 2 ^ 64 - 1 else 2 ^ 64 - 1)
        same true = refl
        same false = refl

    of_young : (y : Bool) → (if y then cut u.truth.resync_offset else rows) ≡ (if y then cut (if y then cut u.truth.resync_offset else rows) else rows)
    of_young true = cut_twice (nat_lt u.truth.resync_offset u.truth.size) refl
    of_young false = refl

ended_settled : (u w : View) (a b : RackView) → IsEnded u w a b → is_settled w ≡ true
ended_settled u w a b (as_it_was settled same) = ap is_settled (view_with u w same) ∙ settled
ended_settled u w a b (restated unsettled same supers) = ap is_settled (view_with (settled u) w same) ∙ settled_is u

-- where no drive refused a call, each array that was ended is settled
pub cleans_settled : (on : ℕ → Bool) (v w : Raid) (a b : RackView) (n : ℕ) → Cleans on v w a b → NoneFails a b → n < v.state.made → on n ≡ true → is_settled (w.arrays n) ≡ true
cleans_settled on v w a b n cleans none low is = ended_settled (v.arrays n) (w.arrays n) a b ((cleans.ends none).ended n low is)
