-- The copy of the state that a place's drive has: it is its own, and where the drive has no slices any more it is of an earlier state than the book's.
use Rattle.std.proofs.Common.{◌≡◌, ℕ, zero, suc, ◌+◌, ◌-◌, ◌*◌, ◌/◌, ◌<◌, ◌^◌, nat_lt, if◌then◌else◌, Bool, true, false, List, length, None, Option, Some, Result, Ok, unwrap_or, refl, sym, ◌∙◌, ap, ap₂, subst, ltb-true, arith, ◌≢◌, ◌⊎◌, inl, inr, eq-eqb}
use Rattle.std.specs.Result.{result_ok}
use Rattle.std.proofs.lemmas.Bool.{both_ways, cases_eq}
use Rattle.std.proofs.lemmas.Nat.{div_below}
use Rattle.std.proofs.lemmas.Option.{none-some}
use Rattle.rack.specs.Seen.{Image, IsLive, RackView}
use Rattle.rack.specs.Values.{Keeps, MayLeave}
use Rattle.slice_rack.specs.Changes.{Seats}
use Rattle.slice_rack.specs.Runs.{IsSliced}
use Rattle.slice_rack.specs.Slices.{Slices, disk_of, first_of, place_of, seat_of, sectors_of}
use Rattle.slice_rack.specs.Sliced.{slices_of}
use Rattle.flat_array.specs.Array.{FlatArray}
use Rattle.lvm_group.specs.Runs.{Linear, array_of, extents_of, sector_of}
use Rattle.pool_state.specs.declared.contents.Copied.{Copied}
use Rattle.pool_state.specs.declared.contents.State.{State}
use Rattle.pool_state.specs.Sector.{decoded}
use Rattle.array_core.proofs.Opened.{current_below}
use Rattle.array_image.specs.Places.{log_sectors, log_slice, state_sector}
use Rattle.array_image.specs.States.{is_current}
use Rattle.array_model.specs.View.{spent_in}
use Rattle.raid_laws.specs.Book.{OnlyMarksSince}
use Rattle.raid_laws.specs.Missing.{raised}
use Rattle.raid_laws.specs.Raid.{IsTracked, Raid, is_failed}
use Rattle.raid_laws.specs.Since.{HasOwnSince, HoldsSince}
use Rattle.raid_laws.proofs.Noted.{current_few}
use Rattle.raid_laws.proofs.Over.{or_parts}
use Rattle.raid_laws.proofs.Since.{kept_since}
use Rattle.pool_image.specs.Disks.{disks_of, identities_of}
use Rattle.pool_image.specs.Drives.{Found}
use Rattle.pool_model.specs.InService.{RunInvariant}
use Rattle.pool_model.specs.Left.{IsPickOutsideSlices}
use Rattle.pool_model.specs.Taken.{LacksDrive}
use Rattle.pool_model.proofs.Found.{ok_of}
use Rattle.pool_model.proofs.InService.{one_seat}
use Rattle.pool_model.proofs.Lost.{former_earlier, log_lies, lost_before}
use Rattle.pool_model.proofs.Named.{id_same, same_length}
use Rattle.pool_model.proofs.Vacant.{seat_other, vacant_free}
use Rattle.pool.specs.Continuing.{Continues}
use Rattle.pool.specs.View.{View, book, slices_shown, spent_by, volume}
use Rattle.pool.specs.Volume.{VolumeIs, is_spent, size_of}
use Rattle.shr_tool.specs.Service.{GoesBy, IsOwnCopy, Lone}

-- ---- an array that is told, of a sector that can be had

sized : (s n e : ℕ) → s < n * e → 0 < e
sized s n zero within = (let none : n * zero ≡ 0 = omega arith in absurd (omega (arith, within, none)))
sized s n (suc e) within = omega arith

pub array_low : (x : View) (s : ℕ) → (volume x).fit → s < size_of x → array_of x.linear s < x.linear.arrays
array_low x s fit within =
    fit.1.placed (s / x.linear.extent)
    (div_below s x.linear.extent (extents_of x.linear.runs) (sized s (extents_of x.linear.runs) x.linear.extent within) within)

pub not_over : (l : Linear) (v : Raid) (s : ℕ) → spent_by l v s ≡ false → is_failed v (array_of l s) ≡ false
not_over l v s alive = (or_parts (is_failed v (array_of l s)) (spent_in (v.arrays (array_of l s)) (sector_of l s)) alive).0

pub told_by : (x : View) (b : FlatArray) (s : ℕ) → (volume x).fit → VolumeIs x b → s < size_of x → is_spent x s ≡ false
    → IsTracked (book x) (slices_of x.slices x.bay) (array_of x.linear s)
told_by x b s fit holds within alive = holds.told s (let same = holds.size in omega (arith, within, same)) alive (array_of x.linear s) (array_low x s fit within)

-- ---- copies

-- a copy in a disk's sector of the state
pub copy_parts : (sectors : ℕ) (w : List ℕ) (copy : Copied) → (if nat_lt state_sector sectors then result_ok (decoded w) else None) ≡ Some copy
    → (state_sector < sectors) × (decoded w ≡ Ok copy)
copy_parts sectors w copy here = by (nat_lt state_sector sectors) refl here
  where
    by : (c : Bool) → nat_lt state_sector sectors ≡ c → (if c then result_ok (decoded w) else None) ≡ Some copy → (state_sector < sectors) × (decoded w ≡ Ok copy)
    by true within is = (ltb-true state_sector sectors within, ok_of (decoded w) copy is)
    by false past is = absurd (none-some copy is)

ok_same : {Y : Type 0} (a b : Copied) → ◌≡◌ {A = Result Copied Y} (Ok a) (Ok b) → a ≡ b
ok_same a b same = cc

-- A copy is a drive's own that names its place, by a state that came of one of the pool's.
pub own_since : (s r : State) (p : ℕ) (u : List ℕ) (copy : Copied) → OnlyMarksSince s r → HasOwnSince r p u → decoded u ≡ Ok copy → IsOwnCopy s p copy
own_since s r p u copy after own is =
    subst (IsOwnCopy s p) (ok_same own.copy copy (sym own.is ∙ is)) (record { pool = own.after.same.pool ∙ after.same.pool; drive = own.drive ∙ id_same s r after.same p })

-- the place of a pool's drive is in the list
pub seat_listed : (f : Found) (t : Slices) (v : Raid) (x : RackView) → RunInvariant f t v x → (p d : ℕ) → f.seats p ≡ Some d → p < length v.state.drives.items
seat_listed f t v x service p d seat =
    let low = current_below f.state p (service.arranged.seated p d seat).0 in
    let many = same_length v.state.drives.items f.state.drives.items service.after.same.drives in
    omega (arith, low, many)

-- ---- copies since a moment

-- each place that is current has its own copy
pub since_now : (x : View) (b : FlatArray) (s : ℕ) → (volume x).fit → VolumeIs x b → s < size_of x → is_spent x s ≡ false → HoldsSince (book x).state (slices_shown x)
since_now x b s fit holds within alive =
    kept_since (book x).state (book x).number (slices_shown x) ((told_by x b s fit holds within alive).stood (not_over x.linear (book x) s alive)).log

-- ---- the drive of a place of the pool by which a run goes

-- a log slice that a place has on its disk begins with the sector of the state
pub held_log : (u : Slices) (a : RackView) (place d : ℕ) → seat_of u place ≡ Some d → first_of u (log_slice place) ≡ state_sector
    → (slices_of u a).held (log_slice place) 0 ≡ a.held d state_sector
held_log u a place d on first =
    let on_place : place_of (log_slice place) ≡ place = omega arith in
    ap₂ (λ e k. a.held e k) (ap (λ k. unwrap_or k 0) (ap (seat_of u) on_place ∙ on)) (let e : first_of u (log_slice place) + 0 ≡ state_sector = omega (arith, first) in e)

module _ {L : Type 0} {o : Option Lone} (x : View) (f : Found) (goes : GoesBy L o f x) where
  -- a seat of the pool is a seat of the run's, where the place is current
  pub going_seat : (k d : ℕ) → f.seats k ≡ Some d → is_current (book x).state k ≡ true → seat_of x.slices k ≡ Some d
  going_seat k d seat current = elim goes.vacant [
    | inl same ↦ ap (λ (t : Slices). seat_of t k) same ∙ goes.service.slices.seats k ∙ seat
    | inr one ↦
        seat_other goes.tables x.slices one.0 one.2.vacated k
        (λ same. both_ways (is_current (book x).state k) (subst (λ q. is_current (book x).state q ≡ false) (sym same) one.2.missing) current)
        ∙ goes.service.slices.seats k ∙ seat
  ]

  -- or where no place gave its disk up
  pub on_same : (k d : ℕ) → f.seats k ≡ Some d → x.slices ≡ goes.tables → seat_of x.slices k ≡ Some d
  on_same k d seat same = ap (λ (u : Slices). seat_of u k) same ∙ goes.service.slices.seats k ∙ seat

  -- and else this place may have given it up
  pub seat_or : (k d : ℕ) → f.seats k ≡ Some d → (seat_of x.slices k ≡ Some d) ⊎ LacksDrive f goes.tables x.slices (book x) k x.bay
  seat_or k d seat = elim goes.vacant [
    | inl same ↦ inl (on_same k d seat same)
    | inr one ↦ elim (cases_eq k one.0) [
      | inl same ↦ inr (subst (λ q. LacksDrive f goes.tables x.slices (book x) q x.bay) (sym same) one.2)
      | inr other ↦ inl (seat_other goes.tables x.slices one.0 one.2.vacated k other ∙ goes.service.slices.seats k ∙ seat)
    ]
  ]

  -- so that the disk has no slice
  pub lacks_bare : (k d : ℕ) → f.seats k ≡ Some d → Seats goes.tables x.slices k None → (s : ℕ) (w : List ℕ) → IsSliced x.slices d s w → ⊥
  lacks_bare k d seat vacated s w at =
      vacant_free goes.tables x.slices k vacated f goes.service.slices d s w (λ q other. one_seat f goes.tables (book x) x.bay goes.service q k d other seat) at

-- where the place has it by the run's slices
module _ {L : Type 0} {o : Option Lone} (x : View) (place : ℕ) (fit : (volume x).fit) (f : Found) (goes : GoesBy L o f x) (d : ℕ) (seat : f.seats place ≡ Some d)
    (on : seat_of x.slices place ≡ Some d) where
  pub there : d < x.bay.disks
  there = fit.0.running.set.fit.1.seats place d on

  pub small : place < 16
  small = current_few f.state place goes.service.arranged.places (goes.service.arranged.seated place d seat).0

  lies : (first_of goes.tables (log_slice place) ≡ state_sector) × (sectors_of goes.tables (log_slice place) ≡ log_sectors)
  lies = log_lies f goes.tables x.bay place d goes.service.slices seat

  -- its log slice, of which the first sector is that of the state, lies where it lay
  log_same : (first_of x.slices (log_slice place) ≡ first_of goes.tables (log_slice place)) × (sectors_of x.slices (log_slice place) ≡ sectors_of goes.tables (log_slice place))
  log_same = elim goes.vacant [
    | inl same ↦ (ap (λ (u : Slices). first_of u (log_slice place)) same, ap (λ (u : Slices). sectors_of u (log_slice place)) same)
    | inr one ↦
        (let other : place_of (log_slice place) ≢ one.0 =
        λ is.
        (let same : place ≡ one.0 = omega (arith, is) in
        none-some d
        (sym (one.2.vacated.seats place ∙ ap (λ (c : Bool). if c then None else seat_of goes.tables place) (eq-eqb place one.0 same)) ∙ on)) in
        (one.2.vacated.firsts (log_slice place) other, one.2.vacated.sectors (log_slice place) other))
  ]

  pub log_many : sectors_of x.slices (log_slice place) ≡ log_sectors
  log_many = log_same.1 ∙ lies.1

  pub log_first : first_of x.slices (log_slice place) + 0 ≡ state_sector
  log_first = let first = log_same.0 ∙ lies.0 in omega (arith, first)

  pub log_on : disk_of x.slices (log_slice place) ≡ d
  log_on = let on_place : place_of (log_slice place) ≡ place = omega arith in ap (λ k. unwrap_or k 0) (ap (seat_of x.slices) on_place ∙ on)

  pub held_there : (a : RackView) → (slices_of x.slices a).held (log_slice place) 0 ≡ a.held d state_sector
  held_there a = held_log x.slices a place d on (log_same.0 ∙ lies.0)

  pub sector : state_sector < x.bay.sectors d
  sector =
      let many = log_many in
      let first = log_first in
      let room = fit.0.running.set.fit.1.slices (log_slice place) (omega (arith, many)) in
      let here : x.bay.sectors (disk_of x.slices (log_slice place)) ≡ x.bay.sectors d = ap x.bay.sectors log_on in
      omega (arith, room, first, many, here)

  -- where it is current and a sector of the volume can be had, whatever copy it may be left with is its own
  pub own_current : {b : FlatArray} → VolumeIs x b → (s : ℕ) → s < size_of x → is_spent x s ≡ false → is_current (book x).state place ≡ true → (u : List ℕ) (copy : Copied)
      → MayLeave (x.bay.held d state_sector) u → decoded u ≡ Ok copy → IsOwnCopy f.state place copy
  own_current {b} holds s within alive current u copy may is =
      own_since f.state (book x).state place u copy goes.service.after
      ((since_now x b s fit holds within alive place u small (let many = log_many in omega (arith, many)) (subst (λ h. MayLeave h u) (sym (held_there x.bay)) may)).own current) is

-- where no place gave its disk up
module _ {L : Type 0} {o : Option Lone} (x : View) (place : ℕ) (fit : (volume x).fit) (f : Found) (goes : GoesBy L o f x) (d : ℕ) (seat : f.seats place ≡ Some d)
    (same : x.slices ≡ goes.tables) where
  on_then : seat_of x.slices place ≡ Some d
  on_then = on_same x f goes place d seat same

  there_then : d < x.bay.disks
  there_then = there x place fit f goes d seat on_then

  small_then : place < 16
  small_then = small x place fit f goes d seat on_then

  -- Where a sector of the volume can be had: what the drive says at a later moment, where its sector of the state has kept its values until then and is in no
  -- slice any more.
  module _ {b : FlatArray} (holds : VolumeIs x b) (s : ℕ) (within : s < size_of x) (alive : is_spent x s ≡ false) (y : View) (continues : Continues x y)
      (told : (d : ℕ) → d < y.bay.disks → y.bay.told d) (unspent : (d s : ℕ) → y.bay.spent d s ≡ false) (kept : Keeps (x.bay.held d state_sector) (y.bay.held d state_sector))
      (bare : (w : List ℕ) → IsSliced y.slices d state_sector w → ⊥) where
    live : IsLive y.bay y.bay d state_sector
    live =
        let low : d < y.bay.disks = (let at = there_then in let more = continues.proceeds.disks.disks in omega (arith, at, more)) in
        record { disk = low; sector = subst (λ n. state_sector < n) (sym (continues.proceeds.disks.sectors d there_then)) (sector x place fit f goes d seat on_then); is_told = told d low; unspent = unspent d state_sector }

    told_here : IsTracked (book x) (slices_of goes.tables x.bay) (array_of x.linear s)
    told_here = subst (λ (u : Slices). IsTracked (book x) (slices_of u x.bay) (array_of x.linear s)) same (told_by x b s fit holds within alive)

    -- an earlier state than the book's, where the place's drive was missing
    pub lost_below : is_current (book x).state place ≡ false → (i : Image) → IsPickOutsideSlices y.slices y.bay i
        → (copy : Copied) → (identities_of (disks_of y.bay) i d).copied ≡ Some copy → copy.state.epoch < (book x).state.epoch
    lost_below missing =
        lost_before f goes.tables y.slices (book x) x.bay y.bay place d d goes.service.slices seat small_then missing (array_of x.linear s) told_here
        (not_over x.linear (book x) s alive) live kept bare

    -- and else an earlier one than the next
    pub gave_below : (book x).state.epoch < 2 ^ 63 - 1 → (i : Image) → IsPickOutsideSlices y.slices y.bay i
        → (copy : Copied) → (identities_of (disks_of y.bay) i d).copied ≡ Some copy → copy.state.epoch < raised (book x).state.epoch
    gave_below room =
        former_earlier f goes.tables y.slices (book x) x.bay y.bay place d goes.service.slices seat small_then (array_of x.linear s) told_here
        (not_over x.linear (book x) s alive) room live kept bare
