-- A line in which a drive that isn't missing is to give way to a new one: no other drive is lost before the pool is ready for it, so the drive's copy of the state keeps its
-- values until then. Marks are written on the drives that are left.
use Rattle.std.proofs.Common.{◌≡◌, ◌≢◌, ℕ, ◌<◌, true, false, length, List, Option, Some, Ok, sym, ap₂, subst, inl, inr, arith, ◌∙◌}
use Rattle.std.proofs.lemmas.Bool.{both_ways}
use Rattle.rack.specs.Joins.{keeps_then}
use Rattle.rack.specs.Seen.{IsLive, RackView}
use Rattle.rack.specs.Sequences.{WritesOnly}
use Rattle.rack.specs.Values.{Keeps}
use Rattle.rack.proofs.Writing.{only_weaker}
use Rattle.slice_rack.specs.Runs.{IsSliced}
use Rattle.slice_rack.specs.Slices.{Slices, seat_of}
use Rattle.slice_rack.specs.Sliced.{slices_of}
use Rattle.flat_array.specs.Array.{FlatArray}
use Rattle.pool_state.specs.declared.contents.State.{State}
use Rattle.array_core.proofs.Opened.{current_below}
use Rattle.array_image.specs.Places.{log_slice, state_sector}
use Rattle.array_image.specs.States.{is_current}
use Rattle.raid_laws.specs.Book.{OnlyMarksSince, after_then}
use Rattle.raid_rack.specs.declared.arrays.Arrays.{Arrays}
use Rattle.raid_laws.specs.Enlisting.{IsWrittenBy}
use Rattle.raid_laws.specs.NewDrive.{IsOfDrive}
use Rattle.raid_laws.specs.Unlost.{KeepsPlace, KeepsUnlost}
use Rattle.pool_image.specs.Drives.{Found}
use Rattle.pool_model.proofs.Named.{same_length}
use Rattle.pool.specs.Entering.{Cleaned, LeavesReady, LosesOwn, Readies, meanwhile, table_on}
use Rattle.pool.specs.Moment.{IsNamed, moment_of}
use Rattle.pool.specs.Naming.{EntersNamed, LeavesNamed}
use Rattle.pool.specs.Replaced.{ChangesDrive}
use Rattle.pool.specs.Replacing.{has_other_missing}
use Rattle.pool.specs.Taking.{AttachesDisk}
use Rattle.pool.specs.View.{View, book, over, volume}
use Rattle.pool.specs.Volume.{VolumeIs}
use Rattle.pool.proofs.Admitted.{others_current}
use Rattle.shr_tool.specs.Service.{GoesBy, Lone}
use Rattle.shr_tool.proofs.Former as old

module _ (x : View) (bay : x.bays.one) (place : ℕ) (name : List ℕ) (disk : ℕ) (at : AttachesDisk x (over x bay) name (Ok disk))
    (bay_then : x.bays.one) (arrays : Arrays) (refused : ℕ → ℕ) where
  abbrev pub m : View
  m = over x bay

  -- the pool when it is ready
  abbrev pub c : View
  c = meanwhile m bay_then arrays refused

  module _ (readies : Readies m c place disk) where
    pub after : OnlyMarksSince (book x).state (book c).state
    after = elim readies [
      | inl cleaned ↦ cleaned.ends.passes.marks
      | inr lose ↦ after_then (book x).state lose.arrays.state (book c).state lose.cleaned.ends.passes.marks lose.left.not_whole.mends.moves.book
    ]

    module _ (whole : has_other_missing (book c).state place ≡ false) where
      -- all other places are current
      pub others_then : (k : ℕ) → k < length (book x).state.drives.items → k ≢ place → is_current (book c).state k ≡ true
      others_then k low other =
          let many = same_length (book c).state.drives.items (book x).state.drives.items after.same.drives in
          others_current (book c).state place whole k (omega (arith, low, many)) other

      unlost : (k : ℕ) → k ≢ place → KeepsPlace (book x).state (book c).state k
      unlost k other current = others_then k (current_below (book x).state k current) other

      module _ {L : Type 0} {o : Option Lone} (clear : (d s : ℕ) → c.bay.spent d s ≡ false) (fit : (volume x).fit) (f : Found) (goes : GoesBy L o f x) (d : ℕ) (seat : f.seats place ≡ Some d)
          (on : seat_of x.slices place ≡ Some d) {b : FlatArray} (holds : VolumeIs x b) where
        low_named : d < m.bay.disks
        low_named =
            let first = old.there x place fit f goes d seat on in
            let more = at.continues.proceeds.disks.disks in
            omega (arith, first, more)

        told_named : m.bay.told d
        told_named = at.continues.known holds.shelf holds.disks d low_named

        sector_named : state_sector < m.bay.sectors d
        sector_named = subst (λ n. state_sector < n) (sym (at.continues.proceeds.disks.sectors d (old.there x place fit f goes d seat on))) (old.sector x place fit f goes d seat on)

        -- over a part in which no other drive is lost
        part : (s u : State) (a e : RackView) → KeepsUnlost s u (slices_of x.slices a) (slices_of x.slices e) → ((k : ℕ) → k ≢ place → KeepsPlace s u k)
            → a.told d → e.spent d state_sector ≡ false → Keeps (a.held d state_sector) (e.held d state_sector)
        part s u a e is unlost told clear =
            let many = old.log_many x place fit f goes d seat on in
            let few = old.small x place fit f goes d seat on in
            let lies = old.log_on x place fit f goes d seat on in
            let first = old.log_first x place fit f goes d seat on in
            let live : IsLive (slices_of x.slices a) (slices_of x.slices e) (log_slice place) 0 =
            record {
              disk = omega (arith, few);
              sector = omega (arith, many);
              is_told = subst a.told (sym lies) told;
              unspent = ap₂ e.spent lies first ∙ clear;
            } in
            subst (λ h. Keeps h (e.held d state_sector)) (old.held_there x place fit f goes d seat on a)
            (subst (λ h. Keeps ((slices_of x.slices a).held (log_slice place) 0) h) (old.held_there x place fit f goes d seat on e) (is.copies place unlost live))

        -- what is then of its disk
        pub low_then : d < c.bay.disks
        low_then = elim readies [
          | inl cleaned ↦ subst (λ n. d < n) (sym cleaned.ends.passes.apart.stays.disks) low_named
          | inr lose ↦ subst (λ n. d < n) (sym (lose.left.not_whole.only.stays.disks ∙ lose.cleaned.ends.passes.apart.stays.disks)) low_named
        ]

        pub told_then : c.bay.told d
        told_then = elim readies [
          | inl cleaned ↦ cleaned.ends.passes.apart.stays.told d told_named
          | inr lose ↦ lose.left.not_whole.only.stays.told d (lose.cleaned.ends.passes.apart.stays.told d told_named)
        ]

        pub sector_then : state_sector < c.bay.sectors d
        sector_then = elim readies [
          | inl cleaned ↦ subst (λ n. state_sector < n) (sym (cleaned.ends.passes.apart.stays.sectors d)) sector_named
          | inr lose ↦
              subst (λ n. state_sector < n) (sym (lose.left.not_whole.only.stays.sectors d ∙ lose.cleaned.ends.passes.apart.stays.sectors d)) sector_named
        ]

        cleaned_copy : Cleaned m c → Keeps (m.bay.held d state_sector) (c.bay.held d state_sector)
        cleaned_copy cleaned = part (book x).state (book c).state m.bay c.bay cleaned.unlost unlost told_named (clear d state_sector)

        lost_copy : LosesOwn m c place disk → Keeps (m.bay.held d state_sector) (c.bay.held d state_sector)
        lost_copy lose =
            let e : View = meanwhile m lose.bay lose.arrays lose.refused in
            let out = lose.left.not_whole in
            let marks = out.mends.moves.book in
            let stayed : lose.left.vacates.tables ≡ x.slices =
            elim lose.left.vacates.seats [ inl given ↦ absurd (both_ways (is_current lose.arrays.state place) given.0 lose.current) | inr stays ↦ stays.1 ] in
            let first : Keeps (m.bay.held d state_sector) (e.bay.held d state_sector) =
            part (book x).state (book e).state m.bay e.bay lose.cleaned.unlost (λ k other current. marks.current k (unlost k other current)) told_named
            (out.only.stays.spent d state_sector (clear d state_sector)) in
            let second : Keeps (e.bay.held d state_sector) (c.bay.held d state_sector) =
            part (book e).state (book c).state e.bay c.bay
            (subst (λ (u : Slices). KeepsUnlost (book e).state (book c).state (slices_of u e.bay) (slices_of u c.bay)) stayed
            out.unlost)
            (λ k other current. unlost k other (lose.cleaned.ends.passes.marks.current k current)) (lose.cleaned.ends.passes.apart.stays.told d told_named) (clear d state_sector) in
            keeps_then (m.bay.held d state_sector) (e.bay.held d state_sector) (c.bay.held d state_sector) first second

        -- its copy of the state
        pub copy_then : Keeps (x.bay.held d state_sector) (c.bay.held d state_sector)
        copy_then =
            subst (λ h. Keeps h (c.bay.held d state_sector)) (at.held d (old.there x place fit f goes d seat on) state_sector)
            (elim readies [ inl cleaned ↦ cleaned_copy cleaned | inr lose ↦ lost_copy lose ])

-- ---- the whole line, where the place hadn't given its disk up

module _ {L : Type 0} {o : Option Lone} (x y : View) (place : ℕ) (name : List ℕ) (unspent : (d s : ℕ) → y.bay.spent d s ≡ false) (fit : (volume x).fit) (f : Found)
    (goes : GoesBy L o f x) (d : ℕ) (seat : f.seats place ≡ Some d) (on : seat_of x.slices place ≡ Some d) {b : FlatArray} (holds : VolumeIs x b) where
  -- where a new drive was taken in
  pub entered_copy : (disk : ℕ) → EntersNamed x y place name disk → ChangesDrive x y place name → d ≢ disk → (IsNamed (moment_of y) name d → ⊥)
      → Keeps (x.bay.held d state_sector) (y.bay.held d state_sector)
  entered_copy disk entered changes other unnamed = elim entered.enters [
    | inl at_once ↦
        (changes.retired place d (old.seat_listed f goes.tables (book x) x.bay goes.service place d seat) at_once.0 on unnamed).held state_sector
        (old.sector x place fit f goes d seat on) (holds.disks d (old.there x place fit f goes d seat on))
    | inr gives ↦
        (let ready = gives.1 in
        let e : View = c x entered.bay place name disk entered.attaches ready.bay ready.arrays ready.refused in
        let whole = ready.enters.vacates.admits.whole in
        let clear : (k s : ℕ) → e.bay.spent k s ≡ false = λ k s. ready.enters.enlists.only.stays.spent k s (unspent k s) in
        keeps_then (x.bay.held d state_sector) (e.bay.held d state_sector) (y.bay.held d state_sector)
        (copy_then x entered.bay place name disk entered.attaches ready.bay ready.arrays ready.refused ready.readies whole clear fit f goes d seat on holds)
        ((ready.enters.former d on other).held state_sector
        (sector_then x entered.bay place name disk entered.attaches ready.bay ready.arrays ready.refused ready.readies whole clear fit f goes d seat on holds)
        (told_then x entered.bay place name disk entered.attaches ready.bay ready.arrays ready.refused ready.readies whole clear fit f goes d seat on holds)))
  ]

-- where none was, though the pool was made ready for it
module _ (x y : View) (place : ℕ) (name : List ℕ) (named : LeavesNamed x y place name) (ready : LeavesReady (over x named.bay) y place named.disk) where
  abbrev e : View
  e = c x named.bay place name named.disk named.attaches ready.bay ready.arrays ready.refused

  whole : has_other_missing (book e).state place ≡ false
  whole = elim ready.leaves [ inl gone ↦ gone.vacates.admits.whole | inr out ↦ out.vacates.admits.whole ]

  only : WritesOnly e.bay y.bay (IsWrittenBy y.slices named.disk (table_on e place named.disk))
  only = elim ready.leaves [
    | inl gone ↦
        only_weaker (IsOfDrive named.disk (table_on e place named.disk)) (IsWrittenBy y.slices named.disk (table_on e place named.disk)) (λ k s v own. inl own) gone.refused.only
    | inr out ↦
        subst (λ (u : Slices). WritesOnly e.bay y.bay (IsWrittenBy u named.disk (table_on e place named.disk))) (sym out.slices) out.not_whole.only
  ]

  -- all other places were current
  pub others_left : (k : ℕ) → k < length (book x).state.drives.items → k ≢ place → is_current (book x).state k ≡ true
  others_left k low other =
      (after x named.bay place name named.disk named.attaches ready.bay ready.arrays ready.refused ready.readies).current k
      (others_then x named.bay place name named.disk named.attaches ready.bay ready.arrays ready.refused ready.readies whole k low other)

  module _ {L : Type 0} {o : Option Lone} (unspent : (d s : ℕ) → y.bay.spent d s ≡ false) (fit : (volume x).fit) (f : Found) (goes : GoesBy L o f x) (d : ℕ)
      (seat : f.seats place ≡ Some d) (on : seat_of x.slices place ≡ Some d) {b : FlatArray} (holds : VolumeIs x b) where
    clear : (k s : ℕ) → e.bay.spent k s ≡ false
    clear k s = only.stays.spent k s (unspent k s)

    pub left_copy : d ≢ named.disk → ((w : List ℕ) → IsSliced y.slices d state_sector w → ⊥) → Keeps (x.bay.held d state_sector) (y.bay.held d state_sector)
    left_copy other bare =
        keeps_then (x.bay.held d state_sector) (e.bay.held d state_sector) (y.bay.held d state_sector)
        (copy_then x named.bay place name named.disk named.attaches ready.bay ready.arrays ready.refused ready.readies whole clear fit f goes d seat on holds)
        (only.others d state_sector
        (record {
          disk = subst (λ n. d < n) (sym only.stays.disks) (low_then x named.bay place name named.disk named.attaches ready.bay ready.arrays ready.refused ready.readies whole clear fit f goes d seat on holds);
          sector = subst (λ n. state_sector < n) (sym (only.stays.sectors d)) (sector_then x named.bay place name named.disk named.attaches ready.bay ready.arrays ready.refused ready.readies whole clear fit f goes d seat on holds);
          is_told = told_then x named.bay place name named.disk named.attaches ready.bay ready.arrays ready.refused ready.readies whole clear fit f goes d seat on holds;
          unspent = unspent d state_sector;
        })
        (λ w may. elim may [ inl own ↦ other own.0 | inr sliced ↦ bare w sliced ]))
