-- A drive that is marked missing isn't written again, unless a line names its disk.
use Rattle.std.proofs.Common.{◌≡◌, ◌⊎◌, ℕ, zero, suc, ◌+◌, ◌-◌, ◌*◌, ◌<◌, ◌≤◌, unwrap_or, true, false, List, Option, Some, None, refl, sym, ap, subst, ◌∙◌, inl, inr, arith}
use Rattle.std.proofs.lemmas.Bool.{both_ways, cases_Bool, cases_lt}
use Rattle.rack.specs.Values.{Keeps}
use Rattle.slice_rack.specs.Runs.{IsSliced}
use Rattle.slice_rack.specs.Slices.{IsOrderly, Slices, disk_of, first_of, place_of, seat_of, sectors_of}
use Rattle.array_image.specs.States.{is_current}
use Rattle.pool.specs.Calls.{CallFrame}
use Rattle.rack.specs.Untouched.{KeepsDisk}
use Rattle.pool.specs.Moment.{moment_of}
use Rattle.pool.specs.Replaced.{is_vacant}
use Rattle.pool.specs.View.{View, book, volume}
use Rattle.pool.proofs.Admitted.{vacant_listed}
use Rattle.shr_tool.specs.Events.{Event, Takes, takes_disk}
use Rattle.shr_tool.specs.Events.Event.{answered, spent, lost, last, replaced, declined, stepped, stuck, shown}
use Rattle.shr_tool.specs.Timeline.{Changes, KeepsMissing, LineContract}

-- ---- the slice of a sector

-- a sector is one of the first slices of a place
record IsAmong (t : Slices) (place s many : ℕ) : Type 0 where
  pub slice : ℕ
  pub low : slice < many
  pub first : first_of t (17 * place + slice) ≤ s
  pub before : s < first_of t (17 * place + slice) + sectors_of t (17 * place + slice)

among_or : (t : Slices) (place s many : ℕ) → IsAmong t place s many ⊎ (IsAmong t place s many → ⊥)
among_or t place s zero = inr (λ is. let low = is.low in absurd (omega (arith, low)))
among_or t place s (suc n) =
    elim (among_or t place s n) [
      | inl is ↦ inl (record { slice = is.slice; low = (let low = is.low in omega (arith, low)); first = is.first; before = is.before })
      | inr none ↦ elim (cases_lt s (first_of t (17 * place + n))) [
        | inl low ↦ inr (λ is. last none (λ first before. absurd (omega (arith, low, first))) is)
        | inr from ↦ elim (cases_lt s (first_of t (17 * place + n) + sectors_of t (17 * place + n))) [
          | inl within ↦ inl (record { slice = n; low = omega arith; first = from; before = within })
          | inr past ↦ inr (λ is. last none (λ first before. absurd (omega (arith, past, before))) is)
        ]
      ]
    ]
  where
    last : (IsAmong t place s n → ⊥)
        → (first_of t (17 * place + n) ≤ s → s < first_of t (17 * place + n) + sectors_of t (17 * place + n) → ⊥)
        → IsAmong t place s (suc n) → ⊥
    last none other is =
        elim (cases_lt is.slice n) [
          | inl low ↦ none (record { slice = is.slice; low = low; first = is.first; before = is.before })
          | inr past ↦
              let low = is.low in
              let same : is.slice ≡ n = omega (arith, low, past) in
              other (subst (λ j. first_of t (17 * place + j) ≤ s) same is.first)
              (subst (λ j. s < first_of t (17 * place + j) + sectors_of t (17 * place + j)) same is.before)
        ]

-- on the disk of a place it is one of the place's slices, or of none
sliced_or : (t : Slices) (place d s : ℕ) → IsOrderly t → seat_of t place ≡ Some d → IsAmong t place s 17 ⊎ ((v : List ℕ) → IsSliced t d s v → ⊥)
sliced_or t place d s orderly seat = elim (among_or t place s 17) [ inl is ↦ inl is | inr none ↦ inr (λ v is. none (among v is)) ]
  where
    owned : (v : List ℕ) (is : IsSliced t d s v) → place_of is.slice ≡ place
    owned v is = by (seat_of t (place_of is.slice)) refl
      where
        by : (o : Option ℕ) → seat_of t (place_of is.slice) ≡ o → place_of is.slice ≡ place
        by None none = absurd (let nothing = orderly.seated is.slice none in let within = is.within in omega (arith, within, nothing))
        by (Some e) at = orderly.one_place (place_of is.slice) place d (at ∙ ap Some (sym (is.disk_is ∙ ap (λ o. unwrap_or o 0) at))) seat

    among : (v : List ℕ) → IsSliced t d s v → IsAmong t place s 17
    among v is =
        let own = owned v is in
        let within = is.within in
        let here = is.sector_is in
        let number : 17 * place + (is.slice - 17 * place) ≡ is.slice = omega (arith, own) in
        record {
          slice = is.slice - 17 * place;
          low = omega (arith, own);
          first = subst (λ k. first_of t k ≤ s) (sym number) (omega (arith, here));
          before = subst (λ k. s < first_of t k + sectors_of t k) (sym number) (omega (arith, here, within));
        }

-- ---- calls that attach no disk

pub vacant_kept :
    (x y : View) → (volume x).fit → CallFrame x y → IsOrderly y.slices → ((d s : ℕ) → y.bay.spent d s ≡ false) → ((d : ℕ) → d < x.bay.disks → x.bay.told d)
    → KeepsMissing (moment_of x) (moment_of y) (λ d. ⊥)
vacant_kept x y fit passes orderly unspent all place d s vacant seat unnamed within =
    elim (sliced_or x.slices place d s (subst IsOrderly passes.slices orderly) seat) [
      | inr none ↦
          passes.apart.others d s
          (record {
            disk = subst (λ n. d < n) (sym passes.apart.stays.disks) there;
            sector = subst (λ n. s < n) (sym (passes.apart.stays.sectors d)) within;
            is_told = all d there;
            unspent = unspent d s;
          })
          none
      | inl is ↦ sliced is
    ]
  where
    there : d < x.bay.disks
    there = fit.0.running.set.fit.1.seats place d seat

    listed : (place < 16) × (is_current (book x).state place ≡ false)
    listed =
        let missing = vacant_listed (book x).state place vacant in
        let low = missing.0 in
        let few = fit.0.running.set.few in (omega (arith, low, few), missing.1)

    sliced : IsAmong x.slices place s 17 → Keeps (x.bay.held d s) (y.bay.held d s)
    sliced is =
        let k = 17 * place + is.slice in
        let at = s - first_of x.slices k in
        let few = listed.0 in
        let low = is.low in
        let first = is.first in
        let before = is.before in
        let own : place_of k ≡ place = omega (arith, low) in
        let disk_is : disk_of x.slices k ≡ d = ap (λ p. unwrap_or (seat_of x.slices p) 0) own ∙ ap (λ o. unwrap_or o 0) seat in
        let sector_is : first_of x.slices k + at ≡ s = omega (arith, first) in
        let inside : at < sectors_of x.slices k = omega (arith, first, before) in
        let kept =
        passes.unwritten k at
        (record {
          disk = omega (arith, low, few);
          sector = subst (λ (t : Slices). at < sectors_of t k) (sym passes.slices) inside;
          is_told = subst (λ e. x.bay.told e) (sym disk_is) (all d there);
          unspent = unspent (disk_of y.slices k) (first_of y.slices k + at);
        })
        (ap (is_current (book x).state) own ∙ listed.1) in
        subst (λ u. Keeps (x.bay.held d u) (y.bay.held d u)) sector_is
        (subst (λ e. Keeps (x.bay.held e (first_of x.slices k + at)) (y.bay.held e (first_of x.slices k + at))) disk_is
        (subst (λ (t : Slices). Keeps (x.bay.held (disk_of x.slices k) (first_of x.slices k + at)) (y.bay.held (disk_of t k) (first_of t k + at))) passes.slices kept))

-- ---- a line

-- one that names a disk
retired :
    (x y : View) (event : Event) → takes_disk event ≡ true → Changes x y event → (place d : ℕ) → is_vacant (book x).state place ≡ true → seat_of x.slices place ≡ Some d
    → (Takes y.shelf.names event d → ⊥) → KeepsDisk x.shelf.told x.bay y.bay d
retired x y (answered line) takes changes place d vacant seat unnamed = absurd (both_ways false refl takes)
retired x y (spent line sector) takes changes place d vacant seat unnamed = absurd (both_ways false refl takes)
retired x y (lost at) takes changes place d vacant seat unnamed = absurd (both_ways false refl takes)
retired x y (last at) takes changes place d vacant seat unnamed = absurd (both_ways false refl takes)
retired x y (replaced at name) takes changes place d vacant seat unnamed =
    let missing = vacant_listed (book x).state place vacant in changes.0.retired place d missing.0 missing.1 seat unnamed
retired x y (declined at name fault) takes changes place d vacant seat unnamed =
    let missing = vacant_listed (book x).state place vacant in changes.0.retired place d missing.0 missing.1 seat unnamed
retired x y (stepped count left) takes changes place d vacant seat unnamed = absurd (both_ways false refl takes)
retired x y (stuck count array) takes changes place d vacant seat unnamed = absurd (both_ways false refl takes)
retired x y (shown text) takes changes place d vacant seat unnamed = absurd (both_ways false refl takes)

pub missing_performed :
    (x y : View) (event : Event) (text : List ℕ) → (volume x).fit → LineContract x y event text → IsOrderly y.slices → ((d s : ℕ) → y.bay.spent d s ≡ false)
    → ((d : ℕ) → d < x.bay.disks → x.bay.told d) → KeepsMissing (moment_of x) (moment_of y) (Takes y.shelf.names event)
missing_performed x y event text fit performs orderly unspent all place d s vacant seat unnamed within =
    elim (cases_Bool (takes_disk event)) [
      | inl takes ↦
          (retired x y event takes (performs.changes takes) place d vacant seat unnamed).held s within (all d (fit.0.running.set.fit.1.seats place d seat))
      | inr none ↦ vacant_kept x y fit (performs.passes none) orderly unspent all place d s vacant seat (λ never. never) within
    ]
