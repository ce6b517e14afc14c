-- Once a line has taken a disk in, whatever copy of a state a drive of the pool may be left with is its own, also that of one that was found gone in the line.
use Rattle.std.proofs.Common.{◌≡◌, ◌≢◌, ◌⊎◌, ℕ, ◌<◌, true, false, List, length, slice_get, Some, Ok, option_map, refl, sym, ◌∙◌, subst, inl, inr, eq-eqb, arith}
use Rattle.std.proofs.lemmas.Bool.{both_ways, cases_Bool, cases_eq, ne_eqb}
use Rattle.rack.specs.Joins.{stays_then}
use Rattle.rack.specs.Seen.{SameRack}
use Rattle.rack.specs.Values.{MayLeave}
use Rattle.slice_rack.specs.Slices.{Slices, sectors_of}
use Rattle.slice_rack.specs.Sliced.{slices_of}
use Rattle.flat_array.specs.Array.{FlatArray}
use Rattle.lvm_group.specs.Runs.{array_of, sector_of}
use Rattle.pool_state.specs.declared.contents.Copied.{Copied}
use Rattle.pool_state.specs.declared.contents.Drive.{Drive}
use Rattle.pool_state.specs.declared.contents.Plan.TheVariants.{Replace as Replacing}
use Rattle.pool_state.specs.declared.contents.State.{State}
use Rattle.pool_state.specs.Sector.{decoded}
use Rattle.array_image.specs.Places.{log_slice}
use Rattle.array_image.specs.States.{is_current}
use Rattle.array_core.proofs.Stripped.{some_same}
use Rattle.array_model.specs.View.{spent_in}
use Rattle.raid_laws.specs.Book.{OnlyMarksSince, after_same}
use Rattle.raid_rack.specs.declared.arrays.Arrays.{Arrays}
use Rattle.raid_laws.specs.Enlisting.{IsNotWhole, IsOpenDisk, KeepsTold, enlisted}
use Rattle.raid_laws.specs.Laws.{live_parts}
use Rattle.raid_laws.specs.Moves.{IsHeeded, IsSet}
use Rattle.raid_laws.specs.Raid.{IsTracked, is_failed}
use Rattle.raid_laws.specs.Since.{HasOwnSince, HoldsSince, KeepsSince, since_then}
use Rattle.raid_rack.proofs.Vacated.{vacated_told}
use Rattle.pool_model.proofs.Joined.{current_here, id_other}
use Rattle.pool.specs.Entering.{EntersBy, LosesOwn, Readies, Vacates, meanwhile, table_on}
use Rattle.pool.specs.Naming.{EntersNamed}
use Rattle.pool.specs.Taking.{AttachesDisk}
use Rattle.pool.specs.View.{View, book, over, slices_shown, spent_by, volume}
use Rattle.pool.specs.Volume.{VolumeIs, is_spent, size_of}
use Rattle.pool.proofs.Admitted.{others_current}
use Rattle.pool.proofs.Readying.{after_enlisted, many_same, units_same}
use Rattle.shr_tool.specs.Service.{IsOwnCopy}
use Rattle.shr_tool.proofs.Former.{array_low, own_since}
use Rattle.shr_tool.proofs.GivesWay.{after, others_then}
use Rattle.shr_tool.proofs.TakingFrom.{other_left}

-- ---- arrays are told yet

-- once a disk was attached
pub told_attached : (x : View) (bay : x.bays.one) (name : List ℕ) (disk : ℕ) → AttachesDisk x (over x bay) name (Ok disk) → {b : FlatArray} → VolumeIs x b → (s : ℕ) → s < size_of x
    → is_spent x s ≡ false → (n : ℕ) → n < x.linear.arrays → IsTracked (book x) (slices_of x.slices (over x bay).bay) n
told_attached x bay name disk at holds s low left = at.carries.told holds.shelf holds.disks s low left (holds.told s (let same = holds.size in omega (arith, low, same)) left)

-- over the slices from which it is taken in
pub told_vacated : (c : View) (place disk : ℕ) (vacates : Vacates c place disk) → IsSet (book c) (slices_shown c) → IsHeeded (book c) → (n : ℕ) → n < (book c).state.made
    → IsTracked (book c) (slices_shown c) n → IsTracked (book c) (slices_of vacates.tables c.bay) n
told_vacated c place disk vacates set heeded n low told = elim vacates.seats [
  | inl gave ↦ vacated_told place c.slices vacates.tables c.bay gave.1 (book c) heeded gave.0 set vacates.fit.running.set.fit n low told
  | inr kept ↦ subst (λ (u : Slices). IsTracked (book c) (slices_of u c.bay) n) (sym kept.1) told
]

-- and by a pool that was made ready for it
module _ (m : View) (later : m.bays.one) (arrays : Arrays) (refused : ℕ → ℕ) (place disk : ℕ) (readies : Readies m (meanwhile m later arrays refused) place disk) where
  abbrev c : View
  c = meanwhile m later arrays refused

  -- the place's own drive was found gone after the cleaning
  module _ (lose : LosesOwn m c place disk) where
    abbrev w : View
    w = meanwhile m lose.bay lose.arrays lose.refused

    own_tables : lose.left.vacates.tables ≡ m.slices
    own_tables = elim lose.left.vacates.seats [ inl given ↦ absurd (both_ways (is_current (book w).state place) given.0 lose.current) | inr kept ↦ kept.1 ]

    pub out : IsNotWhole m.slices disk (table_on w place disk) (book w) (book c) w.bay c.bay
    out = subst (λ (u : Slices). IsNotWhole u disk (table_on w place disk) (book w) (book c) w.bay c.bay) own_tables lose.left.not_whole

  pub stays_ready : SameRack m.bay c.bay
  stays_ready = elim readies [ inl cleaned ↦ cleaned.ends.passes.apart.stays | inr lose ↦ stays_then lose.cleaned.ends.passes.apart.stays (out lose).only.stays ]

  pub told_ready : (n : ℕ) → IsTracked (book m) (slices_shown m) n → IsTracked (book c) (slices_shown c) n
  told_ready n told = elim readies [
    | inl cleaned ↦ cleaned.ends.passes.moments.told n told
    | inr lose ↦ (out lose).moments.told n (lose.cleaned.ends.passes.moments.told n told)
  ]

  pub set_ready : IsSet (book c) (slices_shown c)
  set_ready = elim readies [ inl cleaned ↦ (cleaned.ends.passes.stays.fit).0.running.set | inr lose ↦ (out lose).mends.moves.set ]

  pub heeded_ready : IsHeeded (book c)
  heeded_ready = elim readies [ inl cleaned ↦ (cleaned.ends.passes.stays.fit).0.heeded | inr lose ↦ (out lose).mends.heeded ]

  -- places that were current have their own copies yet
  pub since_ready : (n : ℕ) → IsTracked (book m) (slices_shown m) n → is_failed (book c) n ≡ false → HoldsSince (book m).state (slices_shown m)
      → KeepsSince (book m).state (slices_shown m) (slices_shown c)
  since_ready n told lasts holds = elim readies [
    | inl cleaned ↦ cleaned.ends.passes.moments.since n (book m).state told lasts (after_same (book m).state) holds
    | inr lose ↦
        (let passes = lose.cleaned.ends.passes in
        let one = passes.moments.since n (book m).state told ((out lose).moments.still n lasts) (after_same (book m).state) holds in
        since_then (book m).state (slices_shown m) (slices_shown (w lose)) (slices_shown c) (λ d. refl) passes.apart.stays.traced one
        ((out lose).moments.since n (book m).state (passes.moments.told n told) lasts passes.marks one.holds))
  ]

-- ---- copies

-- The disk was taken in from a pool of which an array was told: a place's copy is of a state that has the new drive, or it is another place's of one from before.
module _ (c y : View) (place disk : ℕ) (enters : EntersBy c y place disk) (listed : place < length (book c).state.drives.items) (set : IsSet (book c) (slices_shown c))
    (heeded : IsHeeded (book c)) (opened : IsOpenDisk c.bay disk) (fit : (volume y).fit) (n k : ℕ) (low : n < (book c).state.made) (told : IsTracked (book c) (slices_shown c) n)
    (lasts : is_failed (book y) n ≡ false) (alive : spent_in ((book y).arrays n) k ≡ false) where
  abbrev coming : State
  coming = enlisted place enters.units (Replacing place) (book c).state

  keeps : KeepsTold enters.vacates.tables y.slices place disk enters.units (Replacing place) (table_on c place disk) (book c) (book y) c.bay y.bay enters.enlists.mid n
  keeps =
      enters.enlists.told n low (told_vacated c place disk enters.vacates set heeded n low told) opened (other_left c y place disk enters fit.0 n k low alive)

  module _ (p : ℕ) (u : List ℕ) (copy : Copied) (few : p < 16) (there : 0 < sectors_of y.slices (log_slice p)) (may : MayLeave ((slices_shown y).held (log_slice p) 0) u)
      (is : decoded u ≡ Ok copy) (current : p ≢ place → is_current (book c).state p ≡ true) where
    abbrev Own : Type 0
    Own = HasOwnSince coming p u ⊎ ((p ≢ place) × HasOwnSince (book c).state p u)

    now : p ≡ place → is_current coming p ≡ true
    now same = subst (λ q. is_current coming q ≡ true) (sym same) (current_here place enters.units (Replacing place) (book c).state listed)

    either : p ≢ place → HasOwnSince (book c).state p u ⊎ HasOwnSince coming p u → Own
    either other own = elim own [ inl before ↦ inr (other, before) | inr joined ↦ inl joined ]

    pub since_entered : Own
    since_entered = elim (cases_Bool (is_current (book c).state place)) [
      | inl was ↦ elim (cases_eq p place) [
        | inl same ↦ inl ((keeps.copied was lasts p u few there may).joins copy (inl (eq-eqb p place same)) (now same) is)
        | inr other ↦ either other ((keeps.copied was lasts p u few there may).own (ne_eqb p place other) (current other))
      ]
      | inr missing ↦ elim (cases_eq p place) [
        | inl same ↦
            inl
            ((keeps.since missing lasts p u few there may).joins copy (subst (λ q. is_current (book c).state q ≡ false) (sym same) missing) (now same) is)
        | inr other ↦ either other ((keeps.since missing lasts p u few there may).own (current other))
      ]
    ]

-- ---- the whole line

module _ (x y : View) (place : ℕ) (name : List ℕ) (disk : ℕ) (entered : EntersNamed x y place name disk) (unspent : (d s : ℕ) → y.bay.spent d s ≡ false) (fit : (volume x).fit)
    (fit_then : (volume y).fit) {b : FlatArray} (holds : VolumeIs x b) (some : (s : ℕ) × (s < size_of x) × (spent_by x.linear (book y) s ≡ false)) (alive : is_spent x some.0 ≡ false)
    (listed : place < length (book x).state.drives.items) (units : ℕ)
    (units_is : option_map (λ (d : Drive). d.units) (slice_get (book x).state.drives.items place) ≡ Some units) where
  abbrev before : View
  before = over x entered.bay

  abbrev next : State
  next = enlisted place units (Replacing place) (book x).state

  abbrev n : ℕ
  n = array_of x.linear some.0

  abbrev k : ℕ
  k = sector_of x.linear some.0

  told : IsTracked (book x) (slices_of x.slices before.bay) n
  told = told_attached x entered.bay name disk entered.attaches holds some.0 some.1 alive n (array_low x some.0 fit some.1)

  left : (is_failed (book y) n ≡ false) × (spent_in ((book y).arrays n) k ≡ false)
  left = live_parts (book y) n k some.2

  -- each copy at a place of the pool names the drive that the place has then
  abbrev AreOwn : Type 0
  AreOwn =
      (p : ℕ) (u : List ℕ) (copy : Copied) → p < length (book x).state.drives.items → 0 < sectors_of y.slices (log_slice p) → MayLeave ((slices_shown y).held (log_slice p) 0) u
      → decoded u ≡ Ok copy → IsOwnCopy next p copy

  -- from the pool from which the disk was taken in
  own_from : (e : View) (enters : EntersBy e y place disk) → OnlyMarksSince (book x).state (book e).state → IsSet (book e) (slices_shown e) → IsHeeded (book e)
      → IsOpenDisk e.bay disk → IsTracked (book e) (slices_shown e) n
      → ((p : ℕ) → p < length (book x).state.drives.items → p ≢ place → is_current (book e).state p ≡ true) → AreOwn
  own_from e enters marks set heeded opened told others p u copy low there may is =
      elim (since_entered e y place disk enters (let same = many_same (book x).state (book e).state marks in omega (arith, listed, same)) set heeded opened fit_then n k
      (let inside = array_low x some.0 fit some.1 in let arrays = fit.1.arrays in let made = marks.same.made in omega (arith, inside, arrays, made)) told left.0 left.1 p u copy
      (let many = fit.0.running.set.few in omega (arith, low, many)) there may is (others p low)) [
        | inl joined ↦ own_since next (enlisted place enters.units (Replacing place) (book e).state) p u copy come joined is
        | inr was ↦
            (let own = own_since (book x).state (book e).state p u copy marks was.1 is in
            record { pool = own.pool; drive = own.drive ∙ sym (id_other place units (Replacing place) (book x).state listed p was.0) })
      ]
    where
      same_units : enters.units ≡ units
      same_units = some_same enters.units units (sym enters.units_is ∙ units_same (book x).state (book e).state marks place ∙ units_is)

      come : OnlyMarksSince next (enlisted place enters.units (Replacing place) (book e).state)
      come =
          subst (λ count. OnlyMarksSince (enlisted place count (Replacing place) (book x).state) (enlisted place enters.units (Replacing place) (book e).state)) same_units
          (after_enlisted place enters.units (Replacing place) (book x).state (book e).state listed marks)

  pub own_entered : AreOwn
  own_entered = elim entered.enters [
    | inl at_once ↦
        (let enters = at_once.1 in
        let fit_before = entered.attaches.continues.proceeds.fit in
        own_from before enters (after_same (book x).state) fit_before.0.running.set fit_before.0.heeded
        (λ s within. record {
          disk = entered.attaches.ok.1;
          sector = within;
          is_told = entered.attaches.continues.known holds.shelf holds.disks disk entered.attaches.ok.1;
          unspent = enters.enlists.only.stays.spent disk s (unspent disk s);
        })
        told (others_current (book x).state place enters.vacates.admits.whole))
    | inr gives ↦
        (let ready = gives.1 in
        let enters = ready.enters in
        let stays = stays_ready before ready.bay ready.arrays ready.refused place disk ready.readies in
        own_from (meanwhile before ready.bay ready.arrays ready.refused) enters
        (after x entered.bay place name disk entered.attaches ready.bay ready.arrays ready.refused ready.readies)
        (set_ready before ready.bay ready.arrays ready.refused place disk ready.readies) (heeded_ready before ready.bay ready.arrays ready.refused place disk ready.readies)
        (λ s within. record {
          disk = (let low = entered.attaches.ok.1 in let same = stays.disks in omega (arith, low, same));
          sector = within;
          is_told = stays.told disk (entered.attaches.continues.known holds.shelf holds.disks disk entered.attaches.ok.1);
          unspent = enters.enlists.only.stays.spent disk s (unspent disk s);
        })
        (told_ready before ready.bay ready.arrays ready.refused place disk ready.readies n told)
        (others_then x entered.bay place name disk entered.attaches ready.bay ready.arrays ready.refused ready.readies enters.vacates.admits.whole))
  ]
