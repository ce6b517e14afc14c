-- The tables of a pool's drives have the members' slices where they lie: so they stay where drives leave it and come to it.
--
-- They have by the slices of the other places where one gave its disk up (`tables_vacant`), where a drive was declined (`tables_attached`, `tabled_declined`), and where one
-- was taken in whose table has them (`tables_taken`). Calls that write slices alone are in proofs/Amid.antt.
use Rattle.std.proofs.Common.{◌≡◌, ◌≢◌, ℕ, ◌<◌, if◌then◌else◌, Bool, true, false, List, Some, None, refl, sym, ap, ap₂, subst, ◌∙◌, inl, inr, eq-eqb, ne_eqb, arith}
use Rattle.std.proofs.lemmas.Bool.{both_ways, cases_eq}
use Rattle.rack.specs.Seen.{Image, RackView}
use Rattle.slice_rack.specs.Changes.{Seats}
use Rattle.slice_rack.specs.Runs.{IsSliced}
use Rattle.slice_rack.specs.Slices.{Slices, place_of, seat_of, sectors_of}
use Rattle.gpt_table.specs.Disk.{Contents}
use Rattle.pool_state.specs.declared.contents.Plan.{Plan}
use Rattle.pool_state.specs.declared.contents.State.{State}
use Rattle.array_image.specs.Places.{member_slice}
use Rattle.array_image.specs.States.{is_current}
use Rattle.array_core.proofs.Stripped.{some_same}
use Rattle.raid_laws.specs.Book.{OnlyMarksSince}
use Rattle.raid_laws.specs.Enlisting.{enlisted}
use Rattle.raid_laws.specs.Raid.{Raid}
use Rattle.pool_image.specs.Disks.{disks_of}
use Rattle.pool_image.specs.Drives.{Found}
use Rattle.pool_image.specs.Replay.{Extent}
use Rattle.pool_model.specs.Alone.{HoldTabled, IsTabled}
use Rattle.pool_model.specs.InService.{RunInvariant, IsArranged}
use Rattle.pool_model.specs.Left.{IsPickOutsideSlices}
use Rattle.pool_model.specs.Pools.{AreSlicesOf, extent_in}
use Rattle.pool_model.specs.Stopped.{HoldTables, LieOn}
use Rattle.pool_model.specs.Taken.{KeepsOthers, KeepsRest, SeatsNew, attached, taken}
use Rattle.pool_model.proofs.Alone.{tabled_same}
use Rattle.pool_model.proofs.Amid.{off_more}
use Rattle.pool_model.proofs.Before.{off_before, was as image_before, was_other as image_other}
use Rattle.pool_model.proofs.Declined.{truths_attached}
use Rattle.pool_model.proofs.Joined.{current_other}
use Rattle.pool_model.proofs.Staying.{sliced_before as sliced_taken}
use Rattle.pool_model.proofs.Taken.{IsKnownBefore}
use Rattle.pool_model.proofs.Vacant.{seat_other, sliced_before}

-- ---- a place that gave its disk up

-- slices of one place that lie alike by other tables
pub lie_same : (t u : Slices) (p sectors : ℕ) (disk : Contents) → ((n : ℕ) → n < 16 → extent_in u (member_slice p n) ≡ extent_in t (member_slice p n)) → LieOn t p sectors disk
    → LieOn u p sectors disk
lie_same t u p sectors disk same lie n few some =
    let sectors_same : sectors_of u (member_slice p n) ≡ sectors_of t (member_slice p n) = ap (λ (e : Extent). e.sectors) (same n few) in
    lie n few (omega (arith, some, sectors_same)) ∙ ap Some (sym (same n few))

pub slice_apart : (p place n : ℕ) → p ≢ place → n < 16 → place_of (member_slice p n) ≢ place
slice_apart p place n other few same = other (let e : p ≡ place = omega (arith, same, few) in e)

pub tables_vacant : (f : Found) (t u : Slices) (place : ℕ) (s : State) (x : RackView) → Seats t u place None → is_current s place ≡ false → HoldTables f t s x → HoldTables f u s x
tables_vacant f t u place s x vacated missing tables i off p d now seat =
    let other : p ≢ place = λ same. both_ways (is_current s p) (subst (λ q. is_current s q ≡ false) (sym same) missing) now in
    lie_same t u p (f.disks.sectors d) (i d)
    (λ n few.
    let apart = slice_apart p place n other few in
    ap₂ (λ (a b : ℕ). record { first = a; sectors = b }) (vacated.firsts (member_slice p n) apart) (vacated.sectors (member_slice p n) apart))
    (tables i (off_more t u x (sliced_before t u place vacated) i off) p d now (sym (seat_other t u place vacated p other) ∙ seat))

-- ---- a drive that was declined

-- The disk that may have been written has the slices by its table, where it is a current place's.
pub tables_attached : (f : Found) (t : Slices) (s : State) (disk : ℕ) (x z : RackView) → IsArranged f → AreSlicesOf f t → KeepsOthers f t s disk x z
    → ((i : Image) → IsPickOutsideSlices t z i → (p : ℕ) → is_current s p ≡ true → f.seats p ≡ Some disk → LieOn t p (z.sectors disk) (i disk))
    → HoldTables f t s x → HoldTables (attached f (disks_of z)) t s z
tables_attached f t s disk x z arranged slices keeps own tables i off p d now seat =
    let at : f.seats p ≡ Some d = sym (slices.seats p) ∙ seat in
    elim (cases_eq d disk) [
      | inl same ↦ subst (λ k. LieOn t p (z.sectors k) (i k)) (sym same) (own i off p now (at ∙ ap Some same))
      | inr other ↦
          let fewer : (e k : ℕ) (w : List ℕ) → e ≢ disk → IsSliced t e k w → IsSliced t e k w = λ e k w apart is. is in
          let was = image_before t t disk x z keeps.outside fewer i off in
          subst (LieOn t p (z.sectors d)) (image_other t t disk x z keeps.outside fewer i off d other)
          (subst (λ k. LieOn t p k (was d)) (sym (keeps.sectors d (arranged.seated p d at).1))
          (tables was (off_before t t disk x z keeps.outside fewer i off) p d now seat))
    ]

-- So have the drives of current places their tables, where that disk has the one of its place.
pub tabled_declined : (f : Found) (t : Slices) (s : State) (disk : ℕ) (x z : RackView) → IsArranged f → KeepsOthers f t s disk x z
    → ((i : Image) → IsPickOutsideSlices t z i → (p : ℕ) → is_current s p ≡ true → f.seats p ≡ Some disk → IsTabled f p (z.sectors disk) (i disk))
    → HoldTabled f s t x → HoldTabled (attached f (disks_of z)) s t z
tabled_declined f t s disk x z arranged keeps own tabled i off p d seat why =
    tabled_same f (attached f (disks_of z)) arranged.made.1 arranged.truths (truths_attached f (disks_of z) arranged keeps.disks keeps.sectors) refl p refl (z.sectors d) (i d)
    (elim (cases_eq d disk) [
      | inl same ↦ subst (λ k. IsTabled f p (z.sectors k) (i k)) (sym same) (own i off p (elim why [ inl now ↦ now | inr never ↦ absurd (never tt) ]) (seat ∙ ap Some same))
      | inr other ↦
          let fewer : (e k : ℕ) (w : List ℕ) → e ≢ disk → IsSliced t e k w → IsSliced t e k w = λ e k w apart is. is in
          let was = image_before t t disk x z keeps.outside fewer i off in
          subst (IsTabled f p (z.sectors d)) (image_other t t disk x z keeps.outside fewer i off d other)
          (subst (λ k. IsTabled f p k (was d)) (sym (keeps.sectors d (arranged.seated p d seat).1))
          (tabled was (off_before t t disk x z keeps.outside fewer i off) p d seat why))
    ])

-- ---- a drive that was taken in

-- The new drive has the slices by its table.
pub tables_taken : (f : Found) (t u : Slices) (v : Raid) (r : State) (x z : RackView) (place disk units : ℕ) (plan : Plan) → RunInvariant f t v x
    → SeatsNew f t u v place disk (z.sectors disk) → KeepsRest f t u v place disk x z → OnlyMarksSince (enlisted place units plan v.state) r
    → ((i : Image) → IsPickOutsideSlices u z i → LieOn u place (z.sectors disk) (i disk))
    → HoldTables f t v.state x → HoldTables (taken f (disks_of z) place disk (enlisted place units plan v.state)) u r z
tables_taken f t u v r x z place disk units plan is new keeps after own tables i off p d now seat = elim (cases_eq p place) [
  | inl same ↦
      let here : seat_of u p ≡ Some disk = new.seats.seats p ∙ ap (λ (b : Bool). if b then Some disk else seat_of t p) (eq-eqb p place same) in
      let at : d ≡ disk = some_same d disk (sym seat ∙ here) in
      subst (λ k. LieOn u p (z.sectors k) (i k)) (sym at) (subst (λ q. LieOn u q (z.sectors disk) (i disk)) (sym same) (own i off))
  | inr other ↦
      let known : IsKnownBefore f v = record { outset = is.arranged; after = is.after; geometry = is.geometry } in
      let before : seat_of t p ≡ Some d = sym (new.seats.seats p ∙ ap (λ (b : Bool). if b then Some disk else seat_of t p) (ne_eqb p place other)) ∙ seat in
      let at : f.seats p ≡ Some d = sym (is.slices.seats p) ∙ before in
      let fewer : (e k : ℕ) (w : List ℕ) → e ≢ disk → IsSliced u e k w → IsSliced t e k w =
      λ e k w apart in_u. sliced_taken f t u v x z place disk units plan new known keeps is.held e k w apart in_u in
      let was = image_before t u disk x z keeps.outside fewer i off in
      lie_same t u p (z.sectors d) (i d)
      (λ n few.
      let apart = slice_apart p place n other few in
      ap₂ (λ (a b : ℕ). record { first = a; sectors = b }) (new.seats.firsts (member_slice p n) apart) (new.seats.others (member_slice p n) apart))
      (subst (LieOn t p (z.sectors d)) (image_other t u disk x z keeps.outside fewer i off d (new.others p d other at).1)
      (subst (λ k. LieOn t p k (was d)) (sym (keeps.sectors d (is.arranged.seated p d at).1))
      (tables was (off_before t u disk x z keeps.outside fewer i off) p d
      (sym (current_other place units plan v.state new.listed p other) ∙ after.current p now) before)))
]
