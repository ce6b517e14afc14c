-- A drive that isn't missing gives way: the steps of the call in a row, on pools.
use Rattle.std.specs.Prelude.{Ok, Err, IfErr, OnOk, Result}
use Rattle.std.proofs.Common.{◌≡◌, ◌≢◌, ◌⊎◌, ℕ, ◌<◌, true, false, Some, length, sym, subst, inl, inr, arith}
use Rattle.std.proofs.lemmas.Bool.{both_ways, cases_Bool, cases_eq}
use Rattle.array_image.specs.States.{is_current}
use Rattle.lvm_group.specs.Runs.{Linear}
use Rattle.slice_rack.specs.Slices.{IsOrderly, Slices, seat_of}
use Rattle.raid_rack.specs.declared.arrays.Arrays.{Arrays}
use Rattle.pool.specs.declared.replacing.GrowFault.{GrowFault}
use Rattle.pool.specs.declared.replacing.GrowFault.TheVariants.{NotWhole}
use Rattle.raid_laws.specs.Raid.{Raid}
use Rattle.pool.specs.Entering.{Cleaned, Declines, Enters, EntersBy, LeavesBy, LeavesOut, Readies, meanwhile}
use Rattle.pool.specs.Moment.{moment_of}
use Rattle.pool.specs.Replaced.{HasMarked, HasMarkedOther, is_vacant}
use Rattle.pool.specs.Replacing.{IsAdmissible, IsAdmitted, has_other_missing}
use Rattle.pool.specs.Taking.{Carries, IsOfPlace, ReplacesBy, TakesBy}
use Rattle.rack.specs.Seen.{RackView}
use Rattle.rack.specs.Shelf.{Shelf}
use Rattle.raid_rack.specs.RaidRack.{arrays_in, refused_in}
use Rattle.pool.specs.declared.Pool.{Pool}
use Rattle.pool.specs.View.{Bays, View, arrays_of, bay_in, book, slices_shown, view, volume}
use Rattle.pool.proofs.Admitted.{admitted, others_current, vacant_listed}
use Rattle.pool.proofs.Attaching.{IsBay}
use Rattle.pool.proofs.Giving.{IsReady, ready_clean, ready_lost, short, whole}
use Rattle.pool.proofs.Readying.{many_same, still_admitted}

abbrev Answer : Type 0
Answer = Result (Unit {0}) GrowFault

-- where no other place is missing, a disk that isn't a current drive's is no place's
pub free_of : (x : View) (place disk : ℕ) → is_current (book x).state place ≡ true → has_other_missing (book x).state place ≡ false → (IsOfPlace (moment_of x) disk → ⊥)
    → (p : ℕ) → seat_of x.slices p ≢ Some disk
free_of x place disk was alone other p seat =
    elim (cases_Bool (is_vacant (book x).state p)) [
      | inl vacant ↦
          let at = vacant_listed (book x).state p vacant in
          elim (cases_eq p place) [
            | inl same ↦ both_ways (is_current (book x).state p) at.1 (subst (λ k. is_current (book x).state k ≡ true) (sym same) was)
            | inr away ↦ both_ways (is_current (book x).state p) at.1 (others_current (book x).state place alone p at.0 away)
          ]
      | inr taken ↦ other (p, seat, taken)
    ]

-- the disk is no current drive's later either, where slices lie where they lay and places that are missing stay so
pub other_later : (x m : View) (place disk : ℕ) → m.slices ≡ x.slices → ((p : ℕ) → seat_of x.slices p ≢ Some disk) → IsOfPlace (moment_of m) disk → ⊥
other_later x m place disk same free of = free of.0 (subst (λ t. seat_of t of.0 ≡ Some disk) same of.1)

-- a drive that went is another one than the place's, where that was missing before, or isn't missing afterwards
pub other_marked : (m y : View) (place : ℕ) → (is_current (book m).state place ≡ false) ⊎ (is_current (book y).state place ≡ true) → HasMarked (moment_of m) (moment_of y)
    → HasMarkedOther (moment_of m) (moment_of y) place
other_marked m y place how marked = (marked.0, apart how, marked.1, marked.2)
  where
    apart : (is_current (book m).state place ≡ false) ⊎ (is_current (book y).state place ≡ true) → marked.0 ≢ place
    apart (inl missing) same = both_ways (is_current (book m).state place) missing (subst (λ k. is_current (book m).state k ≡ true) same marked.1)
    apart (inr current) same = both_ways (is_current (book y).state place) (subst (λ k. is_current (book y).state k ≡ false) same marked.2) current

-- the place's own went
pub lost_out : (m y : View) (place disk : ℕ) (e : GrowFault) → is_current (book m).state place ≡ true → TakesBy m y place disk (Err e) → is_current (book y).state place ≡ false
    → LeavesOut m y place disk
lost_out m y place disk e current by gone = elim by.left [
  | inl alone ↦ absurd (both_ways (is_current (book m).state place) (subst (λ (v : Raid). is_current v.state place ≡ false) alone.same gone) current)
  | inr out ↦ out
]

module _ (x : View) (place disk : ℕ) (fit : (volume x).fit) (ordered : IsOrderly x.slices) (was : is_current (book x).state place ≡ true)
    (listed : place < length (book x).state.drives.items) (low : disk < x.bay.disks) (other : IsOfPlace (moment_of x) disk → ⊥)
    (admits : IsAdmissible x.linear (book x) place (x.bay.sectors disk)) where
  here : IsAdmitted (book x) place (x.bay.sectors disk)
  here = admitted x.linear (book x) place (x.bay.sectors disk) admits

  pub free : (p : ℕ) → seat_of x.slices p ≢ Some disk
  free = free_of x place disk was here.whole other

  module _ (m : View) (many : ℕ) (ready : IsReady x m place disk many) where
    -- what the next step asks for
    pub next_admitted : has_other_missing (book m).state place ≡ false → IsAdmitted (book m) place (m.bay.sectors disk)
    next_admitted alone =
        subst (λ n. IsAdmitted (book m) place n) (sym (ready.continues.proceeds.disks.sectors disk low))
        (still_admitted x.arrays m.arrays (slices_shown x) (slices_shown m) fit.0.running ready.continues.proceeds.fit.0.running ready.marks ready.arrays place (x.bay.sectors disk) alone here)

    pub next_listed : place < length (book m).state.drives.items
    next_listed = let same = many_same (book x).state (book m).state ready.marks in omega (arith, listed, same)

    pub next_disk : disk < m.bay.disks
    next_disk = let same = ready.disks in omega (arith, low, same)

    pub next_other : IsOfPlace (moment_of m) disk → ⊥
    next_other = other_later x m place disk ready.slices free

  -- another drive was found gone
  pub cleaned_short : (m : View) → IsBay m.bay m.shelf → Cleaned x m → Carries x m → has_other_missing (book m).state place ≡ true → ReplacesBy x m place disk (Err NotWhole)
  cleaned_short m now cleaned carries lacks =
      short x m place disk 288 fit ordered was listed low free admits (ready_clean x m place disk now was cleaned carries) lacks (omega arith) (inr (was, inl cleaned))

  -- ---- after the cleaning

  module _ (bay : x.bays.one) (arrays : Arrays) (refused : ℕ → ℕ) (now : IsBay (x.bays.seen bay) (x.bays.shelf bay)) (cleaned : Cleaned x (meanwhile x bay arrays refused))
      (carries : Carries x (meanwhile x bay arrays refused)) where
    abbrev m : View
    m = meanwhile x bay arrays refused

    pub ready : IsReady x m place disk 288
    ready = ready_clean x m place disk now was cleaned carries

    left_by : (y : View) (r : Answer) → IfErr r (λ e. LeavesBy m y place disk) → IfErr r (λ e. Declines x y place disk)
    left_by y (Ok u) left = tt
    left_by y (Err e) left = inr (was, inr (record { bay = bay; arrays = arrays; refused = refused; readies = inl cleaned; leaves = left }))

    enters_by : (y : View) (r : Answer) → OnOk r (EntersBy m y place disk) → OnOk r (Enters x y place disk)
    enters_by y (Ok u) enters = inr (was, record { bay = bay; arrays = arrays; refused = refused; readies = inl cleaned; enters = enters })
    enters_by y (Err e) enters = tt

    -- the disk was taken in, or wasn't
    pub cleaned_whole : (y : View) (r : Answer) → has_other_missing (book m).state place ≡ false
        → (r ≡ Err NotWhole → (is_current (book m).state place ≡ false) ⊎ (is_current (book y).state place ≡ true)) → TakesBy m y place disk r → ReplacesBy x y place disk r
    cleaned_whole y r alone how by =
        whole x m place disk 288 fit ordered was listed low free admits ready y (omega arith) alone fit.0.running r (λ same. other_marked m y place (how same) (by.not_whole same)) (enters_by y r by.enters) (left_by y r by.left) by

    -- ---- a drive went while the disk was being laid

    module _ (current : is_current (book m).state place ≡ true) (alone : has_other_missing (book m).state place ≡ false) where
      -- another one
      pub lost_ready : (y : View) (e : GrowFault) → TakesBy m y place disk (Err e) → is_current (book y).state place ≡ false → IsReady x y place disk 306
      lost_ready y e by gone = ready_lost x m place disk 288 fit ordered was listed low free admits ready y e current by (lost_out m y place disk e current by gone)

      pub lost_short : (y : View) (e : GrowFault) → TakesBy m y place disk (Err e) → is_current (book y).state place ≡ false → has_other_missing (book y).state place ≡ true
          → ReplacesBy x y place disk (Err NotWhole)
      lost_short y e by gone lacks =
          short x y place disk 306 fit ordered was listed low free admits (lost_ready y e by gone) lacks (omega arith)
          (inr (was, inr (record { bay = bay; arrays = arrays; refused = refused; readies = inl cleaned; leaves = inr (lost_out m y place disk e current by gone) })))

      -- the place's own
      module _ (bay_then : x.bays.one) (arrays_then : Arrays) (refused_then : ℕ → ℕ) (e : GrowFault) (by : TakesBy m (meanwhile x bay_then arrays_then refused_then) place disk (Err e))
          (gone : is_current arrays_then.state place ≡ false) (alone_then : has_other_missing arrays_then.state place ≡ false) where
        abbrev n : View
        n = meanwhile x bay_then arrays_then refused_then

        readies : Readies x n place disk
        readies = inr (record { bay = bay; arrays = arrays; refused = refused; cleaned = cleaned; current = current; left = lost_out m n place disk e current by gone; lost = gone })

        left_then : (y : View) (r : Answer) → IfErr r (λ e. LeavesBy n y place disk) → IfErr r (λ e. Declines x y place disk)
        left_then y (Ok u) left = tt
        left_then y (Err e) left = inr (was, inr (record { bay = bay_then; arrays = arrays_then; refused = refused_then; readies = readies; leaves = left }))

        enters_then : (y : View) (r : Answer) → OnOk r (EntersBy n y place disk) → OnOk r (Enters x y place disk)
        enters_then y (Ok u) enters = inr (was, record { bay = bay_then; arrays = arrays_then; refused = refused_then; readies = readies; enters = enters })
        enters_then y (Err e) enters = tt

        pub lost_whole : (y : View) (r : Answer) → TakesBy n y place disk r → ReplacesBy x y place disk r
        lost_whole y r then =
            whole x n place disk 306 fit ordered was listed low free admits (lost_ready n e by gone) y (omega arith) alone_then fit.0.running r
            (λ same. other_marked n y place (inl gone) (then.not_whole same)) (enters_then y r then.enters)
            (left_then y r then.left) then

-- a pool whose slices lie where they lay, and its volume too
pub meanwhile_is : (P : View → Type 0) (bays : Bays) (one : bays.one) (s t : Slices) (arrays : Arrays) (refused : ℕ → ℕ) (k l : Linear) → s ≡ t → k ≡ l
    → P (record { bays = bays; bay = bays.seen one; shelf = bays.shelf one; slices = s; arrays = arrays; refused = refused; linear = k })
    → P (record { bays = bays; bay = bays.seen one; shelf = bays.shelf one; slices = t; arrays = arrays; refused = refused; linear = l })
meanwhile_is P bays one s t arrays refused k l tables volumes here =
    subst (λ q. P (record { bays = bays; bay = bays.seen one; shelf = bays.shelf one; slices = t; arrays = arrays; refused = refused; linear = q })) volumes
    (subst (λ q. P (record { bays = bays; bay = bays.seen one; shelf = bays.shelf one; slices = q; arrays = arrays; refused = refused; linear = k })) tables here)

-- a pool whose slices and volume are as those of an earlier one, as that one meanwhile
pub to_mean : {R : Type 0} (seen : R → RackView) (shelf : R → Shelf) (p q : Pool R) (P : View → Type 0) → (view seen shelf q).slices ≡ (view seen shelf p).slices
    → (view seen shelf q).linear ≡ (view seen shelf p).linear → P (view seen shelf q)
    → P (meanwhile (view seen shelf p) (bay_in q) (arrays_in (arrays_of q)) (refused_in (arrays_of q)))
to_mean seen shelf p q P slices volumes =
    meanwhile_is P (view seen shelf p).bays (bay_in q) (view seen shelf q).slices (view seen shelf p).slices (arrays_in (arrays_of q)) (refused_in (arrays_of q)) (view seen shelf q).linear
    (view seen shelf p).linear slices volumes
