-- What the laid slices show is what the drives' slices hold.
use Rattle.std.proofs.Common.{◌≡◌, ℕ, zero, suc, ◌∷◌, ◌+◌, ◌<◌, ◌≤◌, Bool, true, false, ◌&&◌, if◌then◌else◌, List, [], length, slice_get, Option, Some, None, is_some, refl, sym, ap, ap₂, subst, ◌∙◌, arith}
use Rattle.std.specs.Prelude.{unwrap_or}
use Rattle.std.specs.Option.{option_and_then, option_map_or}
use Rattle.slice_rack.specs.Slices.{Slices, disk_of, first_of, sectors_of, seat_of}
use Rattle.slice_rack.specs.Sliced.{sliced}
use Rattle.md_super.specs.declared.superblock.Super.{Super}
use Rattle.array_image.specs.Places.{member_slice, place_of}
use Rattle.array_image.specs.Supers.{is_named}
use Rattle.array_model.specs.View.{View}
use Rattle.pool_image.specs.Drives.{Found, extent_of, slices_of}
use Rattle.pool_image.specs.Meaning.{is_member}
use Rattle.pool_image.proofs.Composed.{IsPlaced, same_slices, seated}
use Rattle.pool_image.proofs.Truths.{slice_of_member}
use Rattle.pool_check.specs.declared.Extent.{Extent}
use Rattle.pool_check.specs.Layers.{AreOpened, IsOpened}
use Rattle.pool_check.specs.Slots.{AreSlots}
use Rattle.pool_check.specs.Laying.{HasMembers, laid_at}

-- an opened array names the members of the pool's truth
opened_member : (f : Found) (array place : ℕ) (v : View) → IsOpened f array v → is_named v.truth place ≡ is_member f array place
opened_member f array place v opened =
    ap (λ (w : View). is_named w.truth place) opened.view
    ∙ sym (ap (λ (o : Option Super). option_map_or (λ t. is_named t place) o false) opened.truth_is)

got : {X : Type 0} (xs : List X) (n : ℕ) → n < length xs → (x : X) × (slice_get xs n ≡ Some x)
got [] n below = absurd (omega (arith, below))
got (x ∷ xs) zero below = (x, refl)
got (x ∷ xs) (suc n) below = got xs n (omega (arith, below))

module _ (f : Found) (sectors : ℕ → ℕ) (arrays : List View) (extents : List Extent) (t : Slices) {stale : List Bool}
    (opened : AreOpened f f.state.made arrays extents stale)
    (slots : AreSlots sectors f.seats arrays extents)
    (members : HasMembers f.seats arrays extents t)
    (seats : (p : ℕ) → seat_of t p ≡ f.seats p)
    (sizes : (p d : ℕ) → f.seats p ≡ Some d → f.disks.sectors d ≡ sectors d) where
  -- A member that has a disk has its slice: it is laid where the drives have it, and ends on the disk.
  record HasSlice (n p d : ℕ) : Type 0 where
    lies : extent_of f (suc n) ≡ Some (record { first = first_of t (member_slice p n); sectors = sectors_of t (member_slice p n) })
    room : first_of t (member_slice p n) + sectors_of t (member_slice p n) ≤ f.disks.sectors d

  has_slice : (n p d : ℕ) → n < f.state.made → n < 16 → p < 16 → f.seats p ≡ Some d → is_member f n p ≡ true → HasSlice n p d
  has_slice n p d made low_n low_p seat member =
      let v = got arrays n (let count = opened.count in omega (arith, made, count)) in
      let e = got extents n (let count = opened.lengths in omega (arith, made, count)) in
      let named = opened_member f n p v.0 (opened.each n v.0 v.1) ∙ member in
      let laid : laid_at f.seats arrays extents n p ≡ Some e.0 =
      ap (option_and_then (λ (w : View). if is_named w.truth p && is_some (f.seats p) then slice_get extents n else None)) v.1
      ∙ ap₂ (λ (x : Bool) (o : Option ℕ). if x && is_some o then slice_get extents n else None) named seat ∙ e.1 in
      let long : sectors_of t (member_slice p n) ≡ e.0.sectors =
      members.sectors n p low_n low_p ∙ ap (λ (o : Option Extent). option_map_or (λ x. x.sectors) o 0) laid in
      let first : first_of t (member_slice p n) ≡ e.0.first = members.firsts n p e.0 low_n low_p laid in
      let fits = slots.fits n v.0 e.0 p d v.1 e.1 named seat in
      let size = sizes p d seat in
      record {
        lies = opened.lies n e.0 e.1 ∙ ap₂ (λ a b. Some (record { first = a; sectors = b })) (sym first) (sym long);
        room = omega (arith, first, long, fits, size);
      }

  pub member_lies : (n p d : ℕ) → n < f.state.made → n < 16 → p < 16 → f.seats p ≡ Some d → is_member f n p ≡ true
      → extent_of f (suc n) ≡ Some (record { first = first_of t (member_slice p n); sectors = sectors_of t (member_slice p n) })
  member_lies n p d made low_n low_p seat member = (has_slice n p d made low_n low_p seat member).lies

  pub member_placed : (n p d : ℕ) → n < f.state.made → n < 16 → p < 16 → f.seats p ≡ Some d → is_member f n p ≡ true → IsPlaced f t (member_slice p n)
  member_placed n p d made low_n low_p seat member =
      let has = has_slice n p d made low_n low_p seat member in
      let place : place_of (member_slice p n) ≡ p = omega (arith, low_n) in
      let disk : disk_of t (member_slice p n) ≡ d = ap (λ o. unwrap_or o 0) (ap (seat_of t) place ∙ seats p ∙ seat) in
      seated (ap f.seats place ∙ seat ∙ ap Some (sym disk)) (ap (extent_of f) (slice_of_member p n low_n) ∙ has.lies)
      (subst (λ m. first_of t (member_slice p n) + sectors_of t (member_slice p n) ≤ f.disks.sectors m) (sym disk) has.room)

  -- so it shows what the drives' slices hold
  pub member_shows : (n p d u : ℕ) → n < f.state.made → n < 16 → p < 16 → f.seats p ≡ Some d → is_member f n p ≡ true
      → sliced t f.contents (member_slice p n) u ≡ slices_of f (member_slice p n) u
  member_shows n p d u made low_n low_p seat member =
      sym (same_slices f t (member_slice p n) u (member_placed n p d made low_n low_p seat member))
