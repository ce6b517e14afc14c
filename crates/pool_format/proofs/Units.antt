-- The units of a drive, and what a plan says of them.
use Rattle.std.proofs.Common.{◌≡◌, ◌↔◌, ℕ, ◌+◌, ◌-◌, ◌*◌, ◌/◌, ◌<◌, ◌≤◌, ◌^◌, ◌==◌, nat_le, nat_lt, List, position, length, get_or, true, false, Some, Result, Ok, Err, refl, sym, ap, ◌∙◌, subst, inl, inr, leb-true, ltb-true, lt-ltb, arith}
use Rattle.std.proofs.Math.Nat.{div-mul-le_self, mul-le-mul_left}
use Rattle.std.proofs.lemmas.Bool.{and_parts, cases_Bool, cases_lt, cond-true, cond-false}
use Rattle.std.proofs.lemmas.List.FromFn.{length-map-range_with_len, get_or-map-range_with_len}
use Rattle.rack.specs.Seen.{RackView}
use Rattle.layer_plan.specs.declared.Layers.{Layers}
use Rattle.layer_plan.specs.declared.PlanError.{PlanError}
use Rattle.layer_plan.specs.declared.PlanError.TheVariants.{TooFew, TooMany, NoRoom}
use Rattle.shr_base.specs.Units.{units_of}
use Rattle.pool_state.specs.Valid.{is_extent}
use Rattle.pool_format.specs.declared.planning.NewPool.{NewPool}
use Rattle.pool_format.specs.Plan.{IsUnplanned, units_on}

-- an extent's size
pub extent_bounds : (extent : ℕ) → is_extent extent ≡ true → (128 ≤ extent) × (extent ≤ 65536)
extent_bounds extent is =
    let both = and_parts (nat_le 128 extent) (nat_le extent 65536) (and_parts _ _ is).1 in
    (leb-true 128 extent both.0, leb-true extent 65536 both.1)

-- a drive's units lie before its end
pub units_room : (sectors extent : ℕ) → 0 < units_of sectors extent → units_of sectors extent * extent + 77824 ≤ sectors
units_room sectors extent some =
    let n = (sectors - 77824) / extent in
    elim (cases_lt sectors 77824) [
      | inl below ↦
          let none : units_of sectors extent ≡ 0 = cond-true (nat_lt sectors 77824) 0 n (lt-ltb sectors 77824 below) in
          absurd (omega (arith, none, some))
      | inr above ↦
          let is : units_of sectors extent ≡ n = cond-false (nat_lt sectors 77824) 0 n (not_below sectors above) in
          let fits = div-mul-le_self (sectors - 77824) extent in
          subst (λ k. k * extent + 77824 ≤ sectors) (sym is) (omega (arith, fits))
    ]
  where
    not_below : (sectors : ℕ) → 77824 ≤ sectors → nat_lt sectors 77824 ≡ false
    not_below sectors above =
        elim (cases_Bool (nat_lt sectors 77824)) [
          | inl low ↦ let below = ltb-true sectors 77824 low in absurd (omega arith)
          | inr high ↦ high
        ]

-- and are fewer than 2^41
pub units_small : (sectors extent : ℕ) → is_extent extent ≡ true → sectors < 2 ^ 48 → units_of sectors extent < 2 ^ 41
units_small sectors extent is bounded =
    elim (cases_lt 0 (units_of sectors extent)) [
      | inl some ↦
          let room = units_room sectors extent some in
          let wide = mul-le-mul_left (units_of sectors extent) (extent_bounds extent is).0 in
          omega (arith, room, wide, bounded)
      | inr none ↦ omega (arith, none)
    ]

module _ (x : RackView) (extent : ℕ) (is : is_extent extent ≡ true) (bounded : (d : ℕ) → d < x.disks → x.sectors d < 2 ^ 48) where
  pub units_count : length (units_on x extent) ≡ x.disks
  units_count = length-map-range_with_len (λ disk. units_of (x.sectors disk) extent) 0 x.disks

  pub unit_at : (k d : ℕ) → k < x.disks → get_or (units_on x extent) k d ≡ units_of (x.sectors k) extent
  unit_at k d below =
      let zero_k : 0 + k ≡ k = omega arith in
      get_or-map-range_with_len (λ disk. units_of (x.sectors disk) extent) 0 x.disks k k d below zero_k

  pub all_small : (units : List ℕ) → units ≡ units_on x extent → (k d : ℕ) → k < length units → get_or units k d < 2 ^ 41
  all_small units all k d inside =
      let count = ap (λ (xs : List ℕ). length xs) all ∙ units_count in
      let below : k < x.disks = omega (arith, count, inside) in
      let value : get_or units k d ≡ units_of (x.sectors k) extent = ap (λ (xs : List ℕ). get_or xs k d) all ∙ unit_at k d below in
      let small = units_small (x.sectors k) extent is (bounded k below) in
      subst (λ n. n < 2 ^ 41) (sym value) small

-- ---- what a plan of these units says

pub record SaysPlan (units : List ℕ) (r : Result Layers PlanError) : Type 0 where
  pub too_few : (r ≡ Err TooFew) ↔ (length units < 2)
  pub too_many : (r ≡ Err TooMany) ↔ (16 < length units)
  pub no_room :
      (drive : ℕ)
      → (r ≡ Err (NoRoom drive)) ↔ ((2 ≤ length units) × (length units ≤ 16) × (position (λ own. own == 0) units ≡ Some drive))

fault_planned : (units : List ℕ) (r : Result Layers PlanError) → SaysPlan units r → (fault : PlanError) → (r ≡ Err fault) ↔ IsUnplanned units fault
fault_planned units r says TooFew = says.too_few
fault_planned units r says TooMany = says.too_many
fault_planned units r says (NoRoom drive) = says.no_room drive

same_fault : {A : Type 0} (e f : PlanError) → ◌≡◌ {A = Result A PlanError} (Err e) (Err f) → e ≡ f
same_fault e f same = cc

pub never_refused : {A : Type 0} (a : A) (e : PlanError) → ◌≡◌ {A = Result A PlanError} (Ok a) (Err e) → ⊥
never_refused a e same = cc

-- a refusal is the plan's
pub refused_planned :
    (units : List ℕ) (e : PlanError)
    → SaysPlan units (Err e)
    → (fault : PlanError)
    → (◌≡◌ {A = Result NewPool PlanError} (Err e) (Err fault)) ↔ IsUnplanned units fault
refused_planned units e says fault =
    let planned = fault_planned units (Err e) says fault in
    let of_plan : PlanError → Result Layers PlanError = λ f. Err f in
    let of_pool : PlanError → Result NewPool PlanError = λ f. Err f in
    (λ same. planned.0 (ap of_plan (same_fault e fault same)), λ un. ap of_pool (same_fault e fault (planned.1 un)))

-- and so is none
pub made_planned :
    (units : List ℕ) (layers : Layers) (plan : NewPool)
    → SaysPlan units (Ok layers)
    → (fault : PlanError)
    → (◌≡◌ {A = Result NewPool PlanError} (Ok plan) (Err fault)) ↔ IsUnplanned units fault
made_planned units layers plan says fault =
    let planned = fault_planned units (Ok layers) says fault in
    (λ same. absurd (never_refused plan fault same), λ un. absurd (never_refused layers fault (planned.1 un)))

-- more than sixteen drives have no plan, for no other reason
pub many_planned : (units : List ℕ) → 16 < length units → (fault : PlanError) → (◌≡◌ {A = Result NewPool PlanError} (Err TooMany) (Err fault)) ↔ IsUnplanned units fault
many_planned units many TooFew = (λ same. absurd (let bad : TooMany ≡ TooFew = same_fault TooMany TooFew same in cc), λ few. absurd (omega (arith, few, many)))
many_planned units many TooMany = (λ same. many, λ un. refl)
many_planned units many (NoRoom drive) =
    (λ same. absurd (let bad : TooMany ≡ NoRoom drive = same_fault TooMany (NoRoom drive) same in cc), λ un. absurd (let most = un.1 in omega (arith, most, many)))
