-- What holds where no refusal of a replacing applies, and which refusals there are.
use Rattle.std.specs.Prelude.{remove, slice_index, slice_set}
use Rattle.std.specs.Bool.{then_some}
use Rattle.std.specs.List.{list_all, list_any, range_with_len}
use Rattle.std.specs.Option.{option_map_or, option_or}
use Rattle.std.proofs.Common.{◌≡◌, ◌≢◌, ℕ, zero, suc, ◌+◌, ◌-◌, ◌<◌, ◌≤◌, ◌==◌, ◌||◌, not, nat_le, nat_lt, Bool, true, false, List, [], ◌∷◌, drop, is_some, length, slice_get, take, Option, Some, None, option_map, refl, sym, ap, subst, ◌∙◌, inl, inr, arith, leb-true}
use Rattle.std.proofs.lemmas.Bool.{and_parts, both_ways, cases_Bool, cases_lt, cases_eq, ne_eqb}
use Rattle.std.proofs.lemmas.List.FromFn.{get_or-range_with_len, length-range_with_len}
use Rattle.std.proofs.lemmas.List.Folds.{list_all_at}
use Rattle.std.proofs.lemmas.Option.{slice_get_within}
use Rattle.array_image.specs.States.{is_current}
use Rattle.array_model.specs.View.{View as ArrayView}
use Rattle.array_core.specs.Seats.{seat_of}
use Rattle.growth_plan.specs.Book.{units_of as units_in}
use Rattle.growth_plan.specs.Admission.{first_refusal, is_fitting, is_serial_end, makes_17th, replace_refusals}
use Rattle.growth_plan.specs.declared.AdmitFault.{AdmitFault}
use Rattle.growth_plan.specs.declared.AdmitFault.TheVariants.{Size as OfSize, Smaller as OfSmaller, TooManyDrives as OfDrives, TooManyLayers as OfLayers}
use Rattle.lvm_group.specs.Runs.{Linear}
use Rattle.pool_state.specs.declared.contents.Drive.{Drive}
use Rattle.pool_state.specs.declared.contents.State.{State}
use Rattle.raid_laws.specs.NewDrive.{ReachesAll, is_reached, joins, reaches_all}
use Rattle.raid_laws.specs.Raid.{Raid}
use Rattle.shr_base.specs.Units.{units_of}
use Rattle.pool.specs.declared.replacing.GrowFault.{GrowFault}
use Rattle.pool.specs.declared.replacing.GrowFault.TheVariants.{PlanPending, NotWhole, NotResynced, Smaller, TooManySegments}
use Rattle.pool.specs.Moment.{views_of}
use Rattle.pool.specs.Replaced.{is_vacant}
use Rattle.pool.specs.Replacing.{IsAdmissible, IsAdmitted, fault_of, first_cause, has_layers, has_other_missing, has_resync, has_units, is_planned, lacks_segments, reaches_own, refusal_of, standing_refusals}
use Rattle.pool.specs.Works.{arrays_now}

-- ---- where none applies

pub cause_none : (fault : GrowFault) (cause : Bool) (rest : List (GrowFault × Bool)) → first_cause ((fault, cause) ∷ rest) ≡ None → (cause ≡ false) × (first_cause rest ≡ None)
cause_none fault true rest is = absurd (let bad : Some fault ≡ None = is in cc bad)
cause_none fault false rest is = (refl, is)

standing_none : (a b d : Bool) → first_cause ((PlanPending, a) ∷ (NotWhole, b) ∷ (NotResynced, d) ∷ []) ≡ None → b ≡ false
standing_none a b d is =
    let one = cause_none PlanPending a ((NotWhole, b) ∷ (NotResynced, d) ∷ []) is in
    (cause_none NotWhole b ((NotResynced, d) ∷ []) one.1).0

pub plan_none : (fault : AdmitFault) (cause : Bool) (rest : List (AdmitFault × Bool)) → first_refusal ((fault, cause) ∷ rest) ≡ None → (cause ≡ false) × (first_refusal rest ≡ None)
plan_none fault true rest is = absurd (let bad : Some fault ≡ None = is in cc bad)
plan_none fault false rest is = (refl, is)

plans_none : (a b c d : Bool) → first_refusal ((OfSize, a) ∷ (OfSmaller, b) ∷ (OfDrives, c) ∷ (OfLayers, d) ∷ []) ≡ None → (b ≡ false) × (c ≡ false)
plans_none a b c d is =
    let one = plan_none OfSize a ((OfSmaller, b) ∷ (OfDrives, c) ∷ (OfLayers, d) ∷ []) is in
    let two = plan_none OfSmaller b ((OfDrives, c) ∷ (OfLayers, d) ∷ []) one.1 in
    (two.0, (plan_none OfDrives c ((OfLayers, d) ∷ []) two.1).0)

pub or_none : {X : Type 0} (a b : Option X) → option_or a b ≡ None → (a ≡ None) × (b ≡ None)
or_none None b is = (refl, is)
or_none (Some x) b is = absurd (let bad : Some x ≡ None = is in cc bad)

pub map_none : (o : Option AdmitFault) → option_map fault_of o ≡ None → o ≡ None
map_none None is = refl
map_none (Some fault) is = absurd (let bad : Some (fault_of fault) ≡ None = is in cc bad)

pub not_false : (b : Bool) → not b ≡ false → b ≡ true
not_false true is = refl
not_false false is = sym is

if_none : (b : Bool) (fault : GrowFault) → then_some b fault ≡ None → b ≡ false
if_none true fault is = absurd (let bad : Some fault ≡ None = is in cc bad)
if_none false fault is = refl

-- Nothing is against a disk of so many sectors at a place: no other drive is missing, it has at least the units of the place's drive, a serial number is left, and it
-- reaches the arrays of the place.
pub record IsUnrefused (v : Raid) (place sectors : ℕ) : Type 0 where
  pub whole : has_other_missing v.state place ≡ false
  pub units : nat_lt (units_of sectors v.state.extent) (slice_index (units_in v.state) place) ≡ false
  pub serial : is_serial_end v.state ≡ false
  pub reaches : reaches_own v place sectors ≡ true

pub no_smaller : (v : Raid) (place units : ℕ) → first_refusal (replace_refusals v.state (arrays_now v) place units) ≡ None
    → (nat_lt units (slice_index (units_in v.state) place) ≡ false) × (is_serial_end v.state ≡ false)
no_smaller v place units is =
    plans_none (not (is_fitting (units_in v.state) (remove (units_in v.state) place) units)) (nat_lt units (slice_index (units_in v.state) place)) (is_serial_end v.state)
    (makes_17th v.state (arrays_now v) (slice_set (units_in v.state) place units)) is

pub unrefused : (l : Linear) (v : Raid) (place sectors : ℕ) → refusal_of l v place sectors ≡ None → IsUnrefused v place sectors
unrefused l v place sectors is =
    let units = units_of sectors v.state.extent in
    let plan = option_map fault_of (first_refusal (replace_refusals v.state (arrays_now v) place units)) in
    let room = then_some (lacks_segments l v place units) TooManySegments in
    let last = or_none (option_or (first_cause (standing_refusals v place)) (option_or plan room)) (then_some (not (reaches_own v place sectors)) Smaller) is in
    let first = or_none (first_cause (standing_refusals v place)) (option_or plan room) last.0 in
    let second = or_none plan room first.1 in
    let own = no_smaller v place units (map_none (first_refusal (replace_refusals v.state (arrays_now v) place units)) second.0) in
    record {
      whole = standing_none (is_planned v.state.plan) (has_other_missing v.state place) (has_resync (arrays_now v)) first.0;
      units = own.0;
      serial = own.1;
      reaches = not_false (reaches_own v place sectors) (if_none (not (reaches_own v place sectors)) Smaller last.1);
    }

pub admitted : (l : Linear) (v : Raid) (place sectors : ℕ) → IsAdmissible l v place sectors → IsAdmitted v place sectors
admitted l v place sectors is =
    let free = unrefused l v place sectors is.0 in
    record {
      whole = free.whole;
      units = is.1;
      reaches = (and_parts (reaches_all (views_of v) place sectors) (has_layers v place (units_of sectors v.state.extent)) free.reaches).0;
      serial = free.serial;
    }

-- ---- what follows

pub any_at : (p : Drive → Bool) (xs : List Drive) (k : ℕ) (d : Drive) → list_any p xs ≡ false → slice_get xs k ≡ Some d → p d ≡ false
any_at p [] k d none at = absurd (let bad : None ≡ Some d = at in cc bad)
any_at p (x ∷ xs) zero d none at =
    let same : x ≡ d = cc at in
    subst (λ (e : Drive). p e ≡ false) same (or_false (p x) (list_any p xs) none).0
  where
    or_false : (b c : Bool) → (b || c) ≡ false → (b ≡ false) × (c ≡ false)
    or_false true c is = absurd (both_ways true is refl)
    or_false false c is = (refl, is)
any_at p (x ∷ xs) (suc k) d none at = any_at p xs k d (or_false (p x) (list_any p xs) none).1 at
  where
    or_false : (b c : Bool) → (b || c) ≡ false → (b ≡ false) × (c ≡ false)
    or_false true c is = absurd (both_ways true is refl)
    or_false false c is = (refl, is)

take_nil : (n : ℕ) → take {A = Drive} n [] ≡ []
take_nil zero = refl
take_nil (suc n) = refl

pub taken_at : (xs : List Drive) (n k : ℕ) → k < n → slice_get (take n xs) k ≡ slice_get xs k
taken_at [] n k low = ap (λ (ys : List Drive). slice_get ys k) (take_nil n)
taken_at (x ∷ xs) zero k low = absurd (omega (arith, low))
taken_at (x ∷ xs) (suc n) zero low = refl
taken_at (x ∷ xs) (suc n) (suc k) low = taken_at xs n k (omega (arith, low))

pub dropped_at : (xs : List Drive) (n k : ℕ) → slice_get (drop n xs) k ≡ slice_get xs (n + k)
dropped_at xs zero k = let same : zero + k ≡ k = omega arith in ap (slice_get xs) (sym same)
dropped_at [] (suc n) k = refl
dropped_at (x ∷ xs) (suc n) k =
    let same : suc n + k ≡ suc (n + k) = omega arith in
    dropped_at xs n k ∙ ap (slice_get (x ∷ xs)) (sym same)

-- all other places are current
pub others_current : (s : State) (place : ℕ) → has_other_missing s place ≡ false → (p : ℕ) → p < length s.drives.items → p ≢ place → is_current s p ≡ true
others_current s place whole p low other = of (slice_get s.drives.items p) refl
  where
    or_false : (b c : Bool) → (b || c) ≡ false → (b ≡ false) × (c ≡ false)
    or_false true c is = absurd (both_ways true is refl)
    or_false false c is = (refl, is)

    both : (list_any (λ (d : Drive). d.missing) (take place s.drives.items) ≡ false) × (list_any (λ (d : Drive). d.missing) (drop (place + 1) s.drives.items) ≡ false)
    both = or_false (list_any (λ (d : Drive). d.missing) (take place s.drives.items)) (list_any (λ (d : Drive). d.missing) (drop (place + 1) s.drives.items)) whole

    there : (d : Drive) → slice_get s.drives.items p ≡ Some d → d.missing ≡ false
    there d at =
        elim (cases_lt p place) [
          | inl before ↦ any_at (λ (e : Drive). e.missing) (take place s.drives.items) p d both.0 (taken_at s.drives.items place p before ∙ at)
          | inr after ↦
              let more : place < p = omega (arith, after, other) in
              let k : ℕ = p - (place + 1) in
              let same : place + 1 + k ≡ p = omega (arith, more) in
              any_at (λ (e : Drive). e.missing) (drop (place + 1) s.drives.items) k d both.1
              (dropped_at s.drives.items (place + 1) k ∙ ap (slice_get s.drives.items) same ∙ at)
        ]

    of : (o : Option Drive) → slice_get s.drives.items p ≡ o → is_current s p ≡ true
    of None none = absurd (let bad = slice_get_past s p none in omega (arith, low, bad))
      where
        slice_get_past : (s : State) (p : ℕ) → slice_get s.drives.items p ≡ None → length s.drives.items ≤ p
        slice_get_past s p none = past s.drives.items p none
          where
            past : (xs : List Drive) (k : ℕ) → slice_get xs k ≡ None → length xs ≤ k
            past [] k none = omega arith
            past (x ∷ xs) zero none = absurd (let bad : Some x ≡ None = none in cc bad)
            past (x ∷ xs) (suc k) none = let rest = past xs k none in omega (arith, rest)
    of (Some d) at = ap (λ o. option_map_or (λ (e : Drive). not e.missing) o false) at ∙ ap not (there d at)

-- each number below one
pub all_below : (f : ℕ → Bool) (many n : ℕ) → list_all f (range_with_len 0 many) ≡ true → n < many → f n ≡ true
all_below f many n all low =
    elim (cases_Bool (f n)) [
      | inl so ↦ so
      | inr not_so ↦
          let zero : 0 + n ≡ n = omega arith in
          absurd
          (both_ways (list_all f (range_with_len 0 many))
          (list_all_at f (range_with_len 0 many) n 0 (subst (λ m. n < m) (sym (length-range_with_len 0 many)) low)
          (ap f (get_or-range_with_len 0 many n 0 low ∙ zero) ∙ not_so))
          all)
    ]

-- the disk reaches each array of the place
pub reaches_each : (arrays : List ArrayView) (place sectors : ℕ) → reaches_all arrays place sectors ≡ true → (10273 ≤ sectors) × ReachesAll arrays place sectors
reaches_each arrays place sectors is = (leb-true 10273 sectors both.0, each)
  where
    both : (nat_le 10273 sectors ≡ true) × (list_all (is_reached arrays place sectors) (range_with_len 0 (length arrays)) ≡ true)
    both = and_parts (nat_le 10273 sectors) _ is

    or_right : (b c : Bool) → (b || c) ≡ true → b ≡ false → c ≡ true
    or_right true c is none = absurd (both_ways true none refl)
    or_right false c is none = is

    each : ReachesAll arrays place sectors
    each n u is_u member =
        or_right (option_map_or (λ w. not (is_some (seat_of w place))) (slice_get arrays n) true) (joins arrays place sectors n)
        (all_below (is_reached arrays place sectors) (length arrays) n both.1 (slice_get_within arrays n u is_u))
        (ap (λ o. option_map_or (λ w. not (is_some (seat_of w place))) o true) is_u ∙ ap not member)

-- the units of the place's drive
pub same_units : (s : State) (place units n : ℕ) → has_units s place units ≡ true → option_map (λ (d : Drive). d.units) (slice_get s.drives.items place) ≡ Some n → units ≡ n
same_units s place units n is at = of (slice_get s.drives.items place) is at
  where
    of : (o : Option Drive) → option_map_or (λ d. d.units == units) o false ≡ true → option_map (λ (d : Drive). d.units) o ≡ Some n → units ≡ n
    of None is at = absurd (both_ways false refl is)
    of (Some d) is at =
        let e : d.units ≡ n = cc at in
        elim (cases_eq d.units units) [
          | inl same ↦ sym same ∙ e
          | inr other ↦ absurd (both_ways (d.units == units) (ne d.units units other) is)
        ]
      where
        ne : (a b : ℕ) → a ≢ b → (a == b) ≡ false
        ne a b other = ne_eqb a b other

-- a place of the list that is marked missing
pub vacant_listed : (s : State) (p : ℕ) → is_vacant s p ≡ true → (p < length s.drives.items) × (is_current s p ≡ false)
vacant_listed s p vacant = of (slice_get s.drives.items p) refl
  where
    of : (o : Option Drive) → slice_get s.drives.items p ≡ o → (p < length s.drives.items) × (is_current s p ≡ false)
    of None none = absurd (both_ways false refl (sym (ap (λ o. option_map_or (λ (d : Drive). d.missing) o false) none) ∙ vacant))
    of (Some d) at = (
      slice_get_within s.drives.items p d at,
      ap (λ o. option_map_or (λ (e : Drive). not e.missing) o false) at
          ∙ ap not (sym (ap (λ o. option_map_or (λ (e : Drive). e.missing) o false) at) ∙ vacant),
    )
