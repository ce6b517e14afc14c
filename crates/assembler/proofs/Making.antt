-- What is known once the rack of a pool's arrays is made: gates were closed, tables were made to agree, and losses were marked.
use Rattle.std.proofs.Common.{◌≡◌, ◌⊎◌, ℕ, Bool, true, false, not, is_none, unwrap_or, List, [], ◌∷◌, Option, Some, None, inl, inr, refl, sym, ap, subst, ◌∙◌}
use Rattle.std.proofs.lemmas.Bool.{and_parts, both_ways, cases_Bool}
use Rattle.rack.specs.Seen.{Rose, RackView, SameRack}
use Rattle.rack.specs.Joins.{rose_early, rose_later, stays_then}
use Rattle.rack.specs.Sequences.{WritesOnly}
use Rattle.slice_rack.specs.Runs.{IsSliced, Runs}
use Rattle.slice_rack.specs.Sliced.{slices_of}
use Rattle.slice_rack.specs.Slices.{Slices, IsOrderly, disk_of, seat_of}
use Rattle.pool_state.specs.declared.contents.State.{State}
use Rattle.array_image.specs.Places.{place_of}
use Rattle.array_image.specs.States.{current_places, is_current}
use Rattle.array_model.specs.View.{HasFault}
use Rattle.log_laws.specs.Opening.{ReplayCall}
use Rattle.log_laws.specs.View.{LogView, names}
use Rattle.pool_image.specs.Disks.{Seats}
use Rattle.pool_scan.specs.Scanning.{IsUnfaulted}
use Rattle.pool_scan.proofs.Valid.{valid_places}
use Rattle.pool_check.specs.declared.Checked.{Checked}
use Rattle.pool_check.specs.Drives.{Goes, flag_by}
use Rattle.pool_check.specs.Settling.{IsSettled, IsTrueOf, KeepsTable}
use Rattle.raid_laws.specs.Moves.{IsHeeded}
use Rattle.raid_laws.specs.Raid.{Raid, gone_in}
use Rattle.raid_laws.specs.Runs.{RaidRuns}
use Rattle.raid_laws.proofs.Noted.{current_few}
use Rattle.raid_laws.proofs.Whole.{heeded_left}
use Rattle.assembler_laws.specs.Marking.{AreMarkedFor}
use Rattle.assembler_laws.specs.Members.{AreMembers}
use Rattle.assembler_laws.specs.Mending.{MendsTables}
use Rattle.assembler.proofs.Entry.{quiet_first, quiet_last}
use Rattle.assembler_laws.proofs.Holding.{nobody_went}
use Rattle.assembler_laws.proofs.Marks.{lost_so}
use Rattle.assembler.proofs.Mended.{IsMended, absent_same, left_named, left_same, marking_so, mended_so, rack_keeps, rack_settled}

pub by_list : {P : Type 0} (ps : List ℕ) → (ps ≡ [] → P) → ((ps ≡ [] → ⊥) → P) → P
by_list [] none some = none refl
by_list (p ∷ ps) none some = some (λ is. cc)

-- a fault of a slice is one of its place's disk, if that has one
pub fault_seat : (t : Slices) (a b : RackView) (p slice : ℕ) → place_of slice ≡ p → Rose (a.faults (disk_of t slice)) (b.faults (disk_of t slice))
    → (seat_of t p ≡ None) ⊎ Goes a b (seat_of t) p
fault_seat t a b p slice place rose = by (seat_of t p) refl
  where
    by : (o : Option ℕ) → seat_of t p ≡ o → (seat_of t p ≡ None) ⊎ Goes a b (seat_of t) p
    by None none = inl none
    by (Some disk) seat =
        inr (disk, seat, subst (λ k. Rose (a.faults k) (b.faults k)) (ap (λ q. unwrap_or (seat_of t q) 0) place ∙ ap (λ o. unwrap_or o 0) seat) rose)

-- whoever is marked in calls has refused one
pub marked_calls : (p q : ℕ → Bool) (v w : Raid) (t u : Slices) (a b : RackView) → u ≡ t → RaidRuns p q v w (slices_of t a) (slices_of u b) → IsHeeded v
    → AreMarkedFor a b (seat_of t) v.state w.state
marked_calls p q v w t u a b same runs heeded place current off =
    let fault = runs.caused.cause place (heeded_left v place heeded current) (lost_so (is_current w.state place) (not (gone_in w place)) off) in
    fault_seat t a b place fault.0 fault.1 (subst (λ j. Rose (a.faults (disk_of t fault.0)) (b.faults (disk_of j fault.0))) same fault.2)

-- marks in a row
pub marked_then : (a b c : RackView) (seats : Seats) (s t u : State) → SameRack a b → SameRack b c → AreMarkedFor a b seats s t → AreMarkedFor b c seats t u → AreMarkedFor a c seats s u
marked_then a b c seats s t u first second one two place current off = elim (cases_Bool (is_current t place)) [
  | inl on ↦ elim (two place on off) [
    | inl none ↦ inl none
    | inr goes ↦ inr (goes.0, goes.1, rose_later a b c goes.0 first goes.2)
  ]
  | inr gone ↦ elim (one place current gone) [
    | inl none ↦ inl none
    | inr goes ↦ inr (goes.0, goes.1, rose_early a b c goes.0 second goes.2)
  ]
]

-- no disk refused a call in any part of it
pub record IsQuiet (y b d z : RackView) : Type 0 where
  pub closing : IsUnfaulted y b
  pub mending : IsUnfaulted b d
  pub marking : IsUnfaulted d z

quiet_parts : (y b d z : RackView) → SameRack y b → SameRack b d → SameRack d z → IsUnfaulted y z → IsQuiet y b d z
quiet_parts y b d z yb bd dz quiet =
    let yd : IsUnfaulted y d = quiet_first y d z dz quiet in
    let bz : IsUnfaulted b z = quiet_last y b z yb quiet in
    record { closing = quiet_first y b d bd yd; mending = quiet_first b d z dz bz; marking = quiet_last b d z bd bz }

-- nobody but the absent places went while gates were closed
gone_absent : (went absent : List ℕ) → (absent ≡ [] → went ≡ []) → ((absent ≡ [] → ⊥) → went ≡ absent) → (p : ℕ) → names went p ≡ true → names absent p ≡ true
gone_absent went absent nobody same p is = by_list absent
    (λ none. absurd (both_ways (names went p) (ap (λ ps. names ps p) (nobody none)) is))
    (λ some. sym (ap (λ ps. names ps p) (same some)) ∙ is)

module _ (s : State) (t u w k : Slices) (y b d z : RackView) (went places : List ℕ) (checked : Checked) (absent : List ℕ) (orderly : IsOrderly t)
    (m : AreMembers s t y checked absent) (l : LogView) (one two : Type 0) (closing : Runs t u y b one)
    (replay : absent ≡ [] → ReplayCall l (current_places s) went (slices_of t y) (slices_of u b))
    (still : (absent ≡ [] → ⊥) → went ≡ absent) (mends : MendsTables b d s (seat_of u) checked.agreed went places) (tables : w ≡ u) (marking : Runs w k d z two) where
  pub mended : IsMended s t y b d checked.agreed went places
  mended = mended_so s t u y b d checked.agreed went places one m.fit closing mends

  pub marked : WritesOnly d z (IsSliced t)
  marked = marking_so s t y b d went places checked absent orderly m mended w k z two (tables ∙ closing.tables) marking

  -- a place that was left out had no disk, or that refused a call
  pub left_for : (p : ℕ) → names places p ≡ true → (seat_of t p ≡ None) ⊎ Goes y d (seat_of t) p
  left_for p out =
      let none = and_parts (is_none (mended.mends.left p)) (is_current s p) (sym (left_named s t y checked absent orderly m b d went places mended.mends p) ∙ out) in
      elim (mended.mends.loses p) [
        | inl same ↦ inl (sym same ∙ is_none_of (mended.mends.left p) none.0)
        | inr lost ↦ elim lost.1 [
          | inl gone ↦ elim (gone_for p gone) [
            | inl absent ↦ inl absent
            | inr goes ↦ inr (goes.0, goes.1, rose_early y b d goes.0 mended.mends.only.stays goes.2)
          ]
          | inr goes ↦ inr (goes.0, goes.1, rose_later y b d goes.0 mended.closing.stays goes.2)
        ]
      ]
    where
      is_none_of : (o : Option ℕ) → is_none o ≡ true → o ≡ None
      is_none_of None is = refl
      is_none_of (Some disk) is = absurd (both_ways false refl is)

      -- nobody else went while gates were closed
      gone_for : (p : ℕ) → names went p ≡ true → (seat_of t p ≡ None) ⊎ Goes y b (seat_of t) p
      gone_for p gone = by_list absent
          (λ none.
          let cause = (replay none).gone.cause p gone in
          fault_seat t y b p cause.0 cause.1
          (subst (λ j. Rose (y.faults (disk_of t cause.0)) (b.faults (disk_of j cause.0))) closing.tables cause.2))
          (λ some. inl (is_none_of (seat_of t p) (and_parts (is_none (seat_of t p)) (is_current s p) (sym (m.absent_is p) ∙ sym (ap (λ ps. names ps p) (still some)) ∙ gone)).0))

  -- so had whoever is marked
  pub marked_so : (v : State) → ((p : ℕ) → is_current s p ≡ true → is_current v p ≡ false → (names places p ≡ true) ⊎ HasFault (slices_of w d) (slices_of k z) p)
      → AreMarkedFor y z (seat_of t) s v
  marked_so v cause p current off = elim (cause p current off) [
    | inl out ↦ elim (left_for p out) [
      | inl none ↦ inl none
      | inr goes ↦ inr (goes.0, goes.1, rose_early y d z goes.0 marked.stays goes.2)
    ]
    | inr fault ↦
        elim (fault_seat t d z p fault.0 fault.1
        (subst (λ j. Rose (d.faults (disk_of j fault.0)) (z.faults (disk_of j fault.0))) (tables ∙ closing.tables)
        (subst (λ j. Rose (d.faults (disk_of w fault.0)) (z.faults (disk_of j fault.0))) marking.tables fault.2))) [
          | inl none ↦ inl none
          | inr goes ↦ inr (goes.0, goes.1, rose_later y d z goes.0 mended_before goes.2)
        ]
  ]
    where
      mended_before : SameRack y d
      mended_before = stays_then mended.closing.stays mended.mends.only.stays

  -- each drive has its table at every moment
  pub keeps : (p disk : ℕ) → seat_of t p ≡ Some disk → KeepsTable y z disk
  keeps p disk seat =
      rack_keeps s t y b d went places checked absent orderly m mended z marked p disk (current_few s p (valid_places s 0 m.valid).1 (m.current p disk seat)) seat

  module _ (quiet : IsUnfaulted y z) where
    pub parts : IsQuiet y b d z
    parts = quiet_parts y b d z mended.closing.stays mended.mends.only.stays marked.stays quiet

    nobody : absent ≡ [] → went ≡ []
    nobody none = nobody_went l (current_places s) went (slices_of t y) (slices_of u b) (replay none)
        (λ n rose. parts.closing (disk_of t n) (subst (λ j. Rose (y.faults (disk_of t n)) (b.faults (disk_of j n))) closing.tables rose))

    -- the places that are left out are those that were absent
    pub same : places ≡ absent
    same = absent_same s t y checked absent orderly m b d went places mended.mends parts.mending (gone_absent went absent nobody still)

    pub replayed : absent ≡ [] → ReplayCall l (current_places s) places (slices_of t y) (slices_of t b)
    replayed none =
        subst (λ lost. ReplayCall l (current_places s) lost (slices_of t y) (slices_of t b)) (nobody none ∙ sym none ∙ sym same)
        (subst (λ j. ReplayCall l (current_places s) went (slices_of t y) (slices_of j b)) closing.tables (replay none))

    -- and each drive's table is settled, where its flag is true of it
    pub settled : (p disk : ℕ) → seat_of t p ≡ Some disk → IsTrueOf y disk (flag_by checked.agreed p) → IsSettled y z disk
    settled p disk seat says =
        rack_settled s t y b d went places checked absent orderly m mended z marked p disk
        (current_few s p (valid_places s 0 m.valid).1 (m.current p disk seat)) seat
        (left_same s t y checked absent orderly m b d went places mended.mends parts.mending (gone_absent went absent nobody still) p ∙ seat) says
