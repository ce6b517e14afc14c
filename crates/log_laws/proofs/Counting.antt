-- The places that decide are those of the state's list, of which none is 16 or more.
use Rattle.std.proofs.Common.{◌≡◌, ℕ, ◌<◌, ◌≤◌, ◌==◌, ◌&&◌, not, Bool, true, false, nat_lt, nat_le, if◌then◌else◌, List, [], ◌∷◌, length, map, Option, Some, None, option_map, Ok, Err, refl, sym, ap, subst, ◌∙◌, inl, inr, arith, eqb-true}
use Rattle.std.specs.Option.{option_map_or}
use Rattle.std.specs.Result.{result_ok}
use Rattle.std.specs.List.{range_with_len}
use Rattle.std.proofs.lemmas.Bool.{cases_Bool, cases_lt, both_ways, and_parts, and_from, leb-true, cond-true, cond-false}
use Rattle.std.proofs.lemmas.Option.{none-some, slice_get_past}
use Rattle.std.proofs.lemmas.Map.Views.{any-filter_same}
use Rattle.rack.specs.Seen.{Image}
use Rattle.pool_state.specs.declared.contents.Copied.{Copied}
use Rattle.pool_state.specs.declared.contents.State.{State}
use Rattle.pool_state.specs.declared.contents.StateFault.TheVariants.{NotState, BadSum, BadField}
use Rattle.pool_state.specs.Sector.{is_state, has_right_sum, is_canonical, is_well_formed, copied_of, decoded}
use Rattle.pool_state.specs.Valid.{is_extent, has_places, is_valid}
use Rattle.array_image.specs.Foremost.{ahead, foremost}
use Rattle.array_image.specs.Places.{log_slice}
use Rattle.array_image.specs.States.{copy_in, epoch_of, state_in, is_current, current_places}
use Rattle.log_laws.specs.View.{names}
use Rattle.log_laws.specs.Standing.{deciding, Decides}
use Rattle.log_laws.proofs.Naming.{names_range}

some_same : {X : Type 0} (x z : X) → Some x ≡ Some z → x ≡ z
some_same x z is = (cc)

-- the foremost has what each has
keeps_two : {X : Type 0} (measure : X → ℕ) (P : X → Type 0) (x z : X) (o : Option X) → P x → ((y : X) → o ≡ Some y → P y) → ahead measure x o ≡ Some z → P z
keeps_two measure P x z None here later is = subst P (some_same x z is) here
keeps_two measure P x z (Some y) here later is =
    elim (cases_Bool (nat_lt (measure x) (measure y))) [
      | inl less ↦ later z (sym (cond-true (nat_lt (measure x) (measure y)) (Some y) (Some x) less) ∙ is)
      | inr not_less ↦ subst P (some_same x z (sym (cond-false (nat_lt (measure x) (measure y)) (Some y) (Some x) not_less) ∙ is)) here
    ]

keeps_one : {X : Type 0} (measure : X → ℕ) (P : X → Type 0) (h : ℕ → Option X) (q : ℕ) (ps : List ℕ) (z : X) (o : Option X)
    → ((p : ℕ) (x : X) → h p ≡ Some x → P x) → ((y : X) → foremost measure (map h ps) ≡ Some y → P y)
    → h q ≡ o → foremost measure (o ∷ map h ps) ≡ Some z → P z
unfolding foremost
keeps_one measure P h q ps z None each later here is = later z is
keeps_one measure P h q ps z (Some x) each later here is = keeps_two measure P x z (foremost measure (map h ps)) (each q x here) later is

foremost_keeps : {X : Type 0} (measure : X → ℕ) (P : X → Type 0) (h : ℕ → Option X) (ps : List ℕ) (z : X)
    → ((p : ℕ) (x : X) → h p ≡ Some x → P x) → foremost measure (map h ps) ≡ Some z → P z
unfolding foremost
foremost_keeps measure P h [] z each is = absurd (none-some z is)
foremost_keeps measure P h (q ∷ ps) z each is = keeps_one measure P h q ps z (h q) each (λ y is. foremost_keeps measure P h ps y each is) refl is

-- a copy has at most 16 drives
pub few_drives : (block : List ℕ) (copy : Copied) → result_ok (decoded block) ≡ Some copy → length copy.state.drives.items ≤ 16
few_drives block copy is = by_state (is_state block) (has_right_sum block) (is_well_formed block) refl is
  where
    few : is_well_formed block ≡ true → length (copied_of block).state.drives.items ≤ 16
    few well =
        let s : State = (copied_of block).state in
        let valid : is_valid s (copied_of block).own ≡ true = (and_parts (is_canonical block) (is_valid s (copied_of block).own) well).1 in
        let places : has_places s (copied_of block).own ≡ true = (and_parts (has_places s (copied_of block).own) _ (and_parts (is_extent s.extent) _ valid).1).0 in
        let lists = (and_parts (nat_le 2 (length s.drives.items) && nat_le (length s.drives.items) 16) _ places).0 in
        leb-true (length s.drives.items) 16 (and_parts (nat_le 2 (length s.drives.items)) _ lists).1

    by_state : (a b d : Bool) → is_well_formed block ≡ d
        → result_ok (if not a then Err NotState else if not b then Err BadSum else if not d then Err BadField else Ok (copied_of block)) ≡ Some copy
        → length copy.state.drives.items ≤ 16
    by_state false b d well is = absurd (none-some copy is)
    by_state true false d well is = absurd (none-some copy is)
    by_state true true false well is = absurd (none-some copy is)
    by_state true true true well is = subst (λ (k : Copied). length k.state.drives.items ≤ 16) (some_same (copied_of block) copy is) (few well)

pub few_in : (c : Image) (s : State) → state_in c ≡ Some s → length s.drives.items ≤ 16
unfolding state_in
few_in c s is = of_copy (foremost epoch_of (map (copy_in c) (range_with_len 0 16))) refl is
  where
    of_copy : (o : Option Copied) → foremost epoch_of (map (copy_in c) (range_with_len 0 16)) ≡ o → option_map (λ copy. copy.state) o ≡ Some s → length s.drives.items ≤ 16
    of_copy None front is = absurd (none-some s is)
    of_copy (Some copy) front is =
        let few : length copy.state.drives.items ≤ 16 =
        foremost_keeps epoch_of (λ (x : Copied). length x.state.drives.items ≤ 16) (copy_in c) (range_with_len 0 16) copy
        (λ p x here. few_drives (c (log_slice p) 0) x here) front in
        subst (λ (t : State). length t.drives.items ≤ 16) (some_same copy.state s is) few

-- ---- the places that decide

pub is_listed : (s : State) (p : ℕ) → is_current s p ≡ true → p < length s.drives.items
is_listed s p is =
    elim (cases_lt p (length s.drives.items)) [
      | inl below ↦ below
      | inr past ↦ absurd (both_ways (is_current s p) (ap (λ o. option_map_or (λ drive. not drive.missing) o false) (slice_get_past s.drives.items p past)) is)
    ]

pub decides_small : (c : Image) (p : ℕ) → Decides c p → p < 16
decides_small c p decides = omega (arith, few_in c decides.0 decides.1, is_listed decides.0 p decides.2)

pub named_decides : (c : Image) (p : ℕ) → names (deciding c) p ≡ true → Decides c p
unfolding current_places
named_decides c p named = of_state (state_in c) refl named
  where
    of_state : (o : Option State) → state_in c ≡ o → names (option_map_or current_places o []) p ≡ true → Decides c p
    of_state None is named = absurd (both_ways false refl named)
    of_state (Some s) is named = (
      s,
      is,
      (and_parts (is_current s p) (names (range_with_len 0 (length s.drives.items)) p)
          (sym (any-filter_same (λ q. q == p) (is_current s) (is_current s p) (λ q same. ap (is_current s) (eqb-true q p same)) (range_with_len 0 (length s.drives.items))) ∙ named)).0,
    )

pub decides_named : (c : Image) (p : ℕ) → Decides c p → names (deciding c) p ≡ true
unfolding current_places
decides_named c p decides =
    let s : State = decides.0 in
    let places : List ℕ = range_with_len 0 (length s.drives.items) in
    ap (λ (o : Option State). names (option_map_or current_places o []) p) decides.1
    ∙ any-filter_same (λ q. q == p) (is_current s) (is_current s p) (λ q same. ap (is_current s) (eqb-true q p same)) places
    ∙ and_from (is_current s p) (names places p) decides.2 (names_range 0 (length s.drives.items) p (omega arith) (omega (arith, is_listed s p decides.2)))
