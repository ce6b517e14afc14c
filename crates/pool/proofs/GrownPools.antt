-- A disk of other units takes the place of a drive: what the call of the arrays asks for and says, reached through the volume.
use Rattle.std.specs.Prelude.{Ok, Err}
use Rattle.std.proofs.Common.{◌≡◌, ◌≢◌, ℕ, ◌<◌, if◌then◌else◌, true, false, List, length, slice_get, Some, None, refl, sym, ap, subst, ◌∙◌, inl, inr}
use Rattle.std.proofs.lemmas.Bool.{both_ways, cases_Bool, cases_eq, eq-eqb, ne_eqb}
use Rattle.rack.specs.Seen.{Rose, RackView}
use Rattle.rack.specs.Sequences.{WritesOnly}
use Rattle.rack.specs.Shelf.{KeepsShelf, Shelf}
use Rattle.slice_rack.specs.declared.SliceRack.{SliceRack}
use Rattle.slice_rack.specs.Slices.{Slices, seat_of}
use Rattle.slice_rack.specs.Sliced.{slices_of}
use Rattle.slice_rack.specs.SliceRack.{below_of, tables}
use Rattle.array_image.specs.States.{is_current}
use Rattle.growth_laws.proofs.Losing.{loses_nothing}
use Rattle.growth_laws.specs.Losses.{LosesBook}
use Rattle.growth_laws.specs.NewDrives.{IsLost, MayBegin, TakesIn, reaches as reaches_to}
use Rattle.lvm_group.specs.Runs.{Linear}
use Rattle.lvm_group.specs.Volume.{linear as linear_of}
use Rattle.pool_state.specs.declared.contents.Plan.TheVariants.{Replace}
use Rattle.raid_laws.specs.NewDrive.{SeatsDrive, joins}
use Rattle.raid_rack.specs.declared.arrays.Arrays.{Arrays}
use Rattle.raid_rack.specs.declared.arrays.RaidRack.{RaidRack}
use Rattle.raid_rack.specs.RaidRack.{IsFit, arrays_in, arrays_of as arrays_by_number, raid_by, raid_in, refused_in, slices_in, slices_seen}
use Rattle.shr_base.specs.Units.{units_of}
use Rattle.pool.specs.declared.Pool.{Pool}
use Rattle.pool.specs.declared.replacing.GrowFault.TheVariants.{Gone, NotWhole}
use Rattle.pool.specs.Enlarging.{EnlargesBy}
use Rattle.pool.specs.Entering.{IsVacating}
use Rattle.pool.specs.Moment.{moment_of}
use Rattle.pool.specs.Replaced.{is_vacant}
use Rattle.pool.specs.Replacing.{has_other_missing, reaches_own}
use Rattle.pool.specs.Taking.{IsOfPlace}
use Rattle.pool.specs.View.{View, arrays_of, bay_in, book, view, volume}
use Rattle.pool.proofs.Admitted.{others_current, vacant_listed}
use Rattle.pool.proofs.Attaching.{IsBay}
use Rattle.pool.proofs.Enlarged.{grown_gone, grown_in, grown_lost}
use Rattle.pool.proofs.Later.{later}
use Rattle.pool.proofs.ReachedArrays.{member_reaches}
use Rattle.pool.proofs.Shown.{views_are}
use Rattle.pool.proofs.Ways.{free_of}

none_some : {d : ℕ} → None ≡ Some d → ⊥
none_some e = cc

module _ {R : Type 0} (seen : R → RackView) (shelf : R → Shelf) (p q : Pool R) (old : RaidRack R) (place disk : ℕ) (value : old ≡ arrays_of q)
    (rest : arrays_of q ≡ record (arrays_of p) { slices = slices_in (arrays_of q) }) (bay : bay_in q ≡ bay_in p) where
  abbrev x : View
  x = view seen shelf p

  abbrev made : SliceRack R → R → RaidRack R
  made k r = record (arrays_of p) { slices = record k { rack = r } }

  pub reached : old ≡ made (slices_in (arrays_of q)) (bay_in p)
  reached = value ∙ rest ∙ ap (made (slices_in (arrays_of q))) bay

  -- ---- what the call asks for

  pub may_begin : (units : ℕ) → units ≡ units_of (x.bay.sectors disk) (book x).state.extent → (volume x).fit → place < length (book x).state.drives.items
      → has_other_missing (book x).state place ≡ false → reaches_own (book x) place (x.bay.sectors disk) ≡ true
      → MayBegin (raid_in old).state (arrays_by_number old) place units ((seen (below_of (slices_in old))).sectors disk) (Replace place)
  may_begin units units_is fit listed whole reaches =
      let views = views_are x.arrays fit.0.running.count in
      subst (λ r. MayBegin (raid_in r).state (arrays_by_number r) place units ((seen (below_of (slices_in r))).sectors disk) (Replace place)) (sym reached) (
        refl,
        record {
          listed = listed;
          others = λ k low other. others_current (book x).state place whole k low other;
          reaches = λ n u at member.
              subst (λ k. reaches_to (book x).state.extent x.arrays.all.items k (x.bay.sectors disk) n ≡ true) (sym units_is)
              (subst (λ vs. reaches_to (book x).state.extent vs (units_of (x.bay.sectors disk) (book x).state.extent) (x.bay.sectors disk) n ≡ true) views
              (member_reaches (book x) place (x.bay.sectors disk) reaches n u (subst (λ vs. slice_get vs n ≡ Some u) (sym views) at) member));
        },
      )

  pub unseated : IsVacating x place (tables (slices_in (arrays_of q))) → has_other_missing (book x).state place ≡ false → (IsOfPlace (moment_of x) disk → ⊥)
      → (k : ℕ) → seat_of (tables (slices_in old)) k ≢ Some disk
  unseated kind whole other k at =
      let now : seat_of (tables (slices_in (arrays_of q))) k ≡ Some disk = sym (ap (λ r. seat_of (tables (slices_in r)) k) value) ∙ at in
      elim kind [
        | inr stays ↦ free_of x place disk stays.0 whole other k (subst (λ t. seat_of t k ≡ Some disk) stays.1 now)
        | inl gave ↦ elim (cases_eq k place) [
          | inl same ↦ none_some (sym (ap (λ b. if b then None else seat_of x.slices k) (eq-eqb k place same)) ∙ (sym (gave.1.seats k) ∙ now))
          | inr away ↦
              let was : seat_of x.slices k ≡ Some disk = sym (ap (λ b. if b then None else seat_of x.slices k) (ne_eqb k place away)) ∙ (sym (gave.1.seats k) ∙ now) in
              elim (cases_Bool (is_vacant (book x).state k)) [
                | inl vacant ↦
                    let listed = vacant_listed (book x).state k vacant in
                    both_ways (is_current (book x).state k) listed.1 (others_current (book x).state place whole k listed.0 away)
                | inr not_vacant ↦ other (k, was, not_vacant)
              ]
        ]
      ]

  -- ---- what it says

  module _ (new : RaidRack R) (units : ℕ) (units_is : units ≡ units_of (x.bay.sectors disk) (book x).state.extent) (fit : (volume x).fit) (low : disk < x.bay.disks)
      (listed : place < length (book x).state.drives.items) (same_volume : linear_of q.volume ≡ linear_of p.volume) (refused : (n : ℕ) → refused_in new n ≡ refused_in old n)
      (kind : IsVacating x place (tables (slices_in (arrays_of q)))) (empty : IsFit (arrays_in (arrays_of q)) (slices_seen seen (arrays_of q)))
      (now : IsBay (seen (below_of (slices_in new))) (shelf (below_of (slices_in new)))) (names : KeepsShelf (shelf (bay_in p)) (shelf (below_of (slices_in new))))
      (may : ℕ → ℕ → List ℕ → Type 0) (only : WritesOnly (seen (below_of (slices_in old))) (seen (below_of (slices_in new))) may)
      (after : IsFit (arrays_in new) (slices_seen seen new)) where
    abbrev t : Slices
    t = tables (slices_in (arrays_of q))

    abbrev b : RackView
    b = seen (below_of (slices_in new))

    abbrev s : Shelf
    s = shelf (below_of (slices_in new))

    abbrev final : Pool R
    final = record q { volume = record q.volume { rack = new } }

    -- the pool then
    shown : (P : View → Type 0) → P (later x b s (tables (slices_in new)) (arrays_in new)) → P (view seen shelf final)
    shown P here =
        subst (λ (l : Linear). P (record { bays = x.bays; bay = b; shelf = s; slices = tables (slices_in new); arrays = arrays_in new; refused = refused_in new; linear = l })) (sym same_volume)
        (subst (λ (f : ℕ → ℕ). P (record { bays = x.bays; bay = b; shelf = s; slices = tables (slices_in new); arrays = arrays_in new; refused = f; linear = x.linear }))
        (λ i n. sym (refused n ∙ ap (λ r. refused_in r n) reached) i) here)

    only_here : WritesOnly x.bay b may
    only_here = subst (λ r. WritesOnly (seen (below_of (slices_in r))) b may) reached only

    empty_here : IsFit x.arrays (slices_of t x.bay)
    empty_here = subst (λ r. IsFit (arrays_in r) (slices_seen seen r)) (rest ∙ ap (made (slices_in (arrays_of q))) bay) empty

    -- the disk refused a call
    pub says_gone : tables (slices_in new) ≡ tables (slices_in old) → arrays_in new ≡ arrays_in old
        → Rose ((seen (below_of (slices_in old))).faults disk) (b.faults disk) → EnlargesBy x (view seen shelf final) place disk (Err Gone)
    says_gone same kept rose =
        let same_t : tables (slices_in new) ≡ t = same ∙ ap (λ r. tables (slices_in r)) value in
        let same_a : arrays_in new ≡ x.arrays = kept ∙ ap arrays_in reached in
        shown (λ y. EnlargesBy x y place disk (Err Gone))
        (subst (λ u. EnlargesBy x (later x b s u (arrays_in new)) place disk (Err Gone)) (sym same_t)
        (subst (λ (a : Arrays). EnlargesBy x (later x b s t a) place disk (Err Gone)) (sym same_a)
        (grown_gone x b s place disk t p.volume.orderly fit kind empty_here now names (slices_in (arrays_of p)).orderly (slices_in (arrays_of q)).orderly low may only_here
        (subst (λ (a : Arrays). IsFit a (slices_of t b)) same_a (subst (λ u. IsFit (arrays_in new) (slices_of u b)) same_t after))
        (subst (λ r. Rose ((seen (below_of (slices_in r))).faults disk) (b.faults disk)) reached rose))))

    -- another drive was found gone
    lost_here : tables (slices_in new) ≡ tables (slices_in old) → IsLost (raid_in old) (raid_in new) (slices_seen seen old) (slices_seen seen new)
        → IsLost (book x) (raid_in new) (slices_of t x.bay) (slices_of t b)
    lost_here same lost =
        subst (λ u. IsLost (book x) (raid_in new) (slices_of t x.bay) (slices_of u b)) (same ∙ ap (λ r. tables (slices_in r)) value)
        (subst (λ r. IsLost (raid_in r) (raid_in new) (slices_seen seen r) (slices_seen seen new)) reached lost)

    pub says_lost : tables (slices_in new) ≡ tables (slices_in old) → IsLost (raid_in old) (raid_in new) (slices_seen seen old) (slices_seen seen new)
        → EnlargesBy x (view seen shelf final) place disk (Err NotWhole)
    says_lost same lost =
        let same_t : tables (slices_in new) ≡ t = same ∙ ap (λ r. tables (slices_in r)) value in
        shown (λ y. EnlargesBy x y place disk (Err NotWhole))
        (subst (λ u. EnlargesBy x (later x b s u (arrays_in new)) place disk (Err NotWhole)) (sym same_t)
        (grown_lost x b s place disk t p.volume.orderly fit kind empty_here now names (slices_in (arrays_of p)).orderly (slices_in (arrays_of q)).orderly low may only_here
        (arrays_in new) (subst (λ u. IsFit (arrays_in new) (slices_of u b)) same_t after) (lost_here same lost)))

    -- where it isn't taken in losses alone came to the book, and slices lie where they lay unless the place had given its disk up
    pub keeps_gone : arrays_in new ≡ arrays_in old → LosesBook (book x) (raid_in new)
    keeps_gone kept = subst (λ (a : Arrays). LosesBook (book x) (raid_by a)) (sym (kept ∙ ap arrays_in reached)) (loses_nothing (book x))

    pub keeps_lost : tables (slices_in new) ≡ tables (slices_in old) → IsLost (raid_in old) (raid_in new) (slices_seen seen old) (slices_seen seen new) → LosesBook (book x) (raid_in new)
    keeps_lost same lost = (lost_here same lost).loses

    pub keeps_tables : tables (slices_in new) ≡ tables (slices_in old) → is_current (book x).state place ≡ true → tables (slices_in new) ≡ x.slices
    keeps_tables same was =
        same ∙ ap (λ r. tables (slices_in r)) value
        ∙ elim kind [
          | inl gave ↦ absurd (both_ways (is_current (book x).state place) gave.0 was)
          | inr stays ↦ stays.1
        ]

    -- it was taken in
    pub says_taken : TakesIn place units (Replace place) (joins (arrays_by_number old) place ((seen (below_of (slices_in old))).sectors disk)) (raid_in old) (raid_in new)
        (slices_of (tables (slices_in new)) (seen (below_of (slices_in old)))) (slices_seen seen new)
        → SeatsDrive (arrays_by_number old) place disk ((seen (below_of (slices_in old))).sectors disk) (tables (slices_in old)) (tables (slices_in new))
        → EnlargesBy x (view seen shelf final) place disk (Ok tt)
    says_taken takes seats =
        let u = tables (slices_in new) in
        let views = sym (views_are x.arrays fit.0.running.count) in
        shown (λ y. EnlargesBy x y place disk (Ok tt))
        (grown_in x b s place disk t p.volume.orderly fit kind empty_here now names (slices_in (arrays_of p)).orderly (slices_in (arrays_of q)).orderly low may only_here
        units u (arrays_in new) units_is listed (slices_in new).orderly after
        (subst (λ vs. TakesIn place units (Replace place) (joins vs place (x.bay.sectors disk)) (book x) (raid_in new) (slices_of u x.bay) (slices_of u b)) views
        (subst (λ r. TakesIn place units (Replace place) (joins (arrays_by_number r) place ((seen (below_of (slices_in r))).sectors disk)) (raid_in r) (raid_in new)
        (slices_of u (seen (below_of (slices_in r)))) (slices_seen seen new)) reached takes))
        (subst (λ vs. SeatsDrive vs place disk (x.bay.sectors disk) t u) views
        (subst (λ r. SeatsDrive (arrays_by_number r) place disk ((seen (below_of (slices_in r))).sectors disk) (tables (slices_in r)) u) reached seats)))
