-- What holds where no refusal of an adding applies.
use Rattle.std.specs.Bool.{then_some}
use Rattle.std.specs.List.{list_all, list_any}
use Rattle.std.specs.Option.{option_or}
use Rattle.std.proofs.Common.{◌≡◌, ◌⊎◌, ℕ, ◌^◌, ◌<◌, ◌==◌, ◌&&◌, ◌||◌, ◌++◌, not, nat_le, nat_lt, Bool, true, false, List, [], ◌∷◌, length, map, None, option_map, refl, inl, inr, arith, leb-true}
use Rattle.std.proofs.lemmas.Bool.{and_parts, both_ways, cases_eq, eqb-true, eq-eqb, leb-false}
use Rattle.growth_plan.specs.Admission.{add_refusals, first_refusal, is_fitting, is_serial_end, makes_17th}
use Rattle.growth_plan.specs.Book.{units_of as units_in}
use Rattle.growth_plan.specs.declared.AdmitFault.TheVariants.{Size as OfSize, TooManyDrives as OfDrives, TooManyLayers as OfLayers}
use Rattle.lvm_group.specs.Runs.{Linear}
use Rattle.pool_state.specs.Valid.{has_arrays, has_epoch, has_places, is_drive, is_extent, is_valid}
use Rattle.pool_state.specs.declared.contents.Drive.{Drive}
use Rattle.pool_state.specs.declared.contents.State.{State}
use Rattle.raid_laws.specs.Raid.{Raid}
use Rattle.shr_base.specs.Units.{units_of}
use Rattle.pool.specs.Adding.{adding, adding_refusals, lacks_drive, refusal_of_add}
use Rattle.pool.specs.Replacing.{fault_of, first_cause, has_resync, is_planned, lacks_room}
use Rattle.pool.specs.Works.{arrays_now}
use Rattle.pool.specs.declared.replacing.GrowFault.TheVariants.{PlanPending, NotWhole, NotResynced, TooManySegments}
use Rattle.pool.proofs.Admitted.{cause_none, map_none, not_false, or_none, plan_none}

-- ---- a drive's units

or_cases : (b c : Bool) → (b || c) ≡ true → (b ≡ true) ⊎ (c ≡ true)
or_cases true c is = inl refl
or_cases false c is = inr is

or_false : (b c : Bool) → (b || c) ≡ false → (b ≡ false) × (c ≡ false)
or_false true c is = absurd (both_ways true is refl)
or_false false c is = (refl, is)

some_units : (d : Drive) → is_drive d ≡ true → 0 < d.units
some_units d is = let least = leb-true 1 d.units (and_parts (nat_le 1 d.units) (nat_lt d.units (2 ^ 41)) is).0 in omega (arith, least)

-- those of a drive of the list
units_listed : (ds : List Drive) (units : ℕ) → list_all is_drive ds ≡ true → list_any (λ own. own == units) (map (λ (d : Drive). d.units) ds) ≡ true → 0 < units
units_listed [] units all any = absurd (both_ways false refl any)
units_listed (d ∷ ds) units all any =
    let parts = and_parts (is_drive d) (list_all is_drive ds) all in
    elim (or_cases (d.units == units) (list_any (λ own. own == units) (map (λ (d : Drive). d.units) ds)) any) [
      | inl same ↦ let is = eqb-true d.units units same in let some = some_units d parts.0 in omega (arith, is, some)
      | inr later ↦ units_listed ds units parts.1 later
    ]

-- or as many as all of them
units_most : (ds : List Drive) (units : ℕ) → 0 < length ds → list_all is_drive ds ≡ true → list_all (λ own. nat_le own units) (map (λ (d : Drive). d.units) ds) ≡ true → 0 < units
units_most [] units some all most = absurd (omega (arith, some))
units_most (d ∷ ds) units some all most =
    let own = some_units d (and_parts (is_drive d) (list_all is_drive ds) all).0 in
    let more = leb-true d.units units (and_parts (nat_le d.units units) (list_all (λ own. nat_le own units) (map (λ (d : Drive). d.units) ds)) most).0 in
    omega (arith, own, more)

-- ---- no refusal by the plan

pub record IsFitting (s : State) (units : ℕ) : Type 0 where
  pub few : length s.drives.items < 16
  pub serial : is_serial_end s ≡ false
  pub fitting : is_fitting (units_in s) (units_in s) units ≡ true

plans_none : (a b c : Bool) → first_refusal ((OfSize, a) ∷ (OfDrives, b) ∷ (OfLayers, c) ∷ []) ≡ None → (a ≡ false) × (b ≡ false)
plans_none a b c is =
    let one = plan_none OfSize a ((OfDrives, b) ∷ (OfLayers, c) ∷ []) is in
    (one.0, (plan_none OfDrives b ((OfLayers, c) ∷ []) one.1).0)

pub fits_plan : (v : Raid) (units : ℕ) → first_refusal (add_refusals v.state (arrays_now v) units) ≡ None → IsFitting v.state units
fits_plan v units is =
    let s = v.state in
    let both = plans_none (not (is_fitting (units_in s) (units_in s) units)) (nat_le 16 (length s.drives.items) || is_serial_end s)
    (makes_17th s (arrays_now v) (units_in s ++ units ∷ [])) is in
    let count = or_false (nat_le 16 (length s.drives.items)) (is_serial_end s) both.1 in
    record {
      few = let past = leb-false 16 (length s.drives.items) count.0 in omega (arith, past);
      serial = count.1;
      fitting = not_false (is_fitting (units_in s) (units_in s) units) both.0;
    }

-- its units aren't none, since no listed drive's are
pub has_units : (s : State) (units : ℕ) → is_valid s 0 ≡ true → 0 < length s.drives.items → IsFitting s units → 0 < units
has_units s units valid some fits =
    let rest = and_parts (is_extent s.extent) (has_places s 0 && (has_arrays s && (list_all is_drive s.drives.items && has_epoch s))) valid in
    let places = and_parts (has_places s 0) (has_arrays s && (list_all is_drive s.drives.items && has_epoch s)) rest.1 in
    let arrays = and_parts (has_arrays s) (list_all is_drive s.drives.items && has_epoch s) places.1 in
    let drives = (and_parts (list_all is_drive s.drives.items) (has_epoch s) arrays.1).0 in
    elim (or_cases (list_any (λ own. own == units) (units_in s)) (list_all (λ own. nat_le own units) (units_in s)) fits.fitting) [
      | inl same ↦ units_listed s.drives.items units drives same
      | inr most ↦ units_most s.drives.items units some drives most
    ]

-- ---- no refusal at all

pub record MayAdd (v : Raid) (units : ℕ) : Type 0 where
  pub whole : lacks_drive v.state ≡ false
  pub plan : IsFitting v.state units

pub may_add : (l : Linear) (v : Raid) (sectors : ℕ) → refusal_of_add l v sectors ≡ None → MayAdd v (units_of sectors v.state.extent)
may_add l v sectors is =
    let units = units_of sectors v.state.extent in
    let plan = option_map fault_of (first_refusal (add_refusals v.state (arrays_now v) units)) in
    let room = then_some (lacks_room l v (adding units v.state)) TooManySegments in
    let first = or_none (first_cause (adding_refusals v)) (option_or plan room) is in
    let second = or_none plan room first.1 in
    let planned = cause_none PlanPending (is_planned v.state.plan) ((NotWhole, lacks_drive v.state) ∷ (NotResynced, has_resync (arrays_now v)) ∷ []) first.0 in
    let whole = cause_none NotWhole (lacks_drive v.state) ((NotResynced, has_resync (arrays_now v)) ∷ []) planned.1 in
    record {
      whole = whole.0;
      plan = fits_plan v units (map_none (first_refusal (add_refusals v.state (arrays_now v) units)) second.0);
    }

-- the list has a drive, and none is missing
pub listed : (s : State) → lacks_drive s ≡ false → (0 < length s.drives.items) × (list_any (λ (d : Drive). d.missing) s.drives.items ≡ false)
listed s whole =
    let both = or_false (length s.drives.items == 0) (list_any (λ (d : Drive). d.missing) s.drives.items) whole in (
      elim (cases_eq (length s.drives.items) 0) [
        | inl none ↦ absurd (both_ways (length s.drives.items == 0) both.0 (eq-eqb (length s.drives.items) 0 none))
        | inr some ↦ omega (arith, some)
      ],
      both.1,
    )
