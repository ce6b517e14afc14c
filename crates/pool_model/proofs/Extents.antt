-- The slices of the pool that such contents have lie where they lay.
use Rattle.std.proofs.Common.{◌≡◌, ℕ, zero, suc, ◌+◌, ◌<◌, ◌≤◌, ◌&&◌, Bool, true, false, nat_lt, if◌then◌else◌, [], Option, Some, None, option_map, unwrap_or, refl, sym, ap, ap₂, subst, ◌∙◌, inl, inr, lt-ltb, le-ltb, ltb-true, arith}
use Rattle.std.specs.Option.{option_and_then, option_map_or}
use Rattle.std.proofs.lemmas.Bool.{cases_Bool}
use Rattle.rack.specs.Seen.{Image}
use Rattle.slice_rack.specs.Sliced.{sliced}
use Rattle.slice_rack.specs.Slices.{Slices, disk_of, first_of as slice_first, seat_of as slice_seat, sectors_of}
use Rattle.shr_base.specs.declared.Id.{Id}
use Rattle.md_super.specs.declared.superblock.Super.{Super}
use Rattle.pool_state.specs.declared.contents.State.{State}
use Rattle.array_image.specs.Places.{data_sector, member_slice, place_of, super_sector}
use Rattle.array_image.specs.States.{is_current}
use Rattle.array_image.specs.Stripes.{capacity}
use Rattle.array_image.specs.Supers.{is_named, super_in, truth_in}
use Rattle.array_image.proofs.Frames.{super_of_sector}
use Rattle.pool_image.specs.Drives.{Found, drive_sector, end_of, extent_from, extent_of, first_of, slices_from, truth_from}
use Rattle.pool_image.specs.Meaning.{array_sectors, is_member, truth_of}
use Rattle.pool_image.specs.Replay.{Extent, Standing}
use Rattle.pool_image.proofs.Truths.{extent_found, truth_found}
use Rattle.pool_model.proofs.Alike.{sectors_of_truth}
use Rattle.pool_model.proofs.Current.{truth_current}
use Rattle.pool_model.specs.Left.{HasNoSuper}
use Rattle.pool_model.proofs.Layers.{IsLaid, laid, none_there, nothing_super}
use Rattle.pool_model.proofs.NoSuper.{no_super_bare, no_super_in}
use Rattle.pool_model.proofs.Said.{SaysPool, pool_of}

module _ (f : Found) (t : Slices) (book : State) (i : Image) (before : Standing) (said : SaysPool f t book i) where
  abbrev held : Image
  held = sliced t i

  abbrev g : Found
  g = pool_of f book i before

  pub made_same : book.made ≡ f.state.made
  made_same = said.after.same.made

  module _ (n : ℕ) (low : n < f.state.made) where
    pub few : n < 16
    few = let most = said.is.made.1 in omega (arith, low, most)

    -- its truth before, and by the slices
    abbrev pub was : Super
    was = (said.is.truths n low).0

    abbrev pub was_is : truth_of f n ≡ Some was
    was_is = (said.is.truths n low).1

    abbrev pub is : Super
    is = (said.arrays n low).truth

    pub is_is : truth_in book held n ≡ Some is
    is_is = (said.arrays n low).is_truth

    pub size_same : is.size ≡ was.size
    size_same = (said.arrays n low).size was was_is

    pub named_same : (p : ℕ) → is_named is p ≡ is_named was p
    named_same p = (said.arrays n low).named was p was_is

    pub lies : IsLaid f n was
    lies = laid f n was few was_is

    abbrev first : ℕ
    first = lies.first

    extent_before : extent_of f (suc n) ≡ Some (record { first = first; sectors = data_sector + was.size })
    extent_before = extent_found f n first was lies.begins lies.is

    -- ---- its slice on a place

    module _ (p : ℕ) where
      pub place_is : place_of (member_slice p n) ≡ p
      place_is = let inside = few in omega (arith, inside)

      -- a place that isn't a member has none
      pub no_slice : is_member f n p ≡ false → sectors_of t (member_slice p n) ≡ 0
      no_slice none = said.slices.others n p few (ap₂ (λ a b. a && b) (lt-ltb n f.state.made low) none)

      pub reads_nothing : is_member f n p ≡ false → (u : ℕ) → held (member_slice p n) u ≡ []
      reads_nothing none u =
          ap (λ (b : Bool). if b then i (disk_of t (member_slice p n)) (slice_first t (member_slice p n) + u) else [])
          (le-ltb u (sectors_of t (member_slice p n)) (let nothing = no_slice none in omega (arith, nothing)))

      -- nor has one without a drive
      pub reads_absent : is_current book p ≡ true → f.seats p ≡ None → (u : ℕ) → held (member_slice p n) u ≡ []
      reads_absent counts free u =
          ap (λ (b : Bool). if b then i (disk_of t (member_slice p n)) (slice_first t (member_slice p n) + u) else [])
          (le-ltb u (sectors_of t (member_slice p n)) (let nothing = said.slices.unseated (member_slice p n) (ap (is_current book) place_is ∙ counts) (ap f.seats place_is ∙ free) in omega (arith, nothing)))

      module _ (d : ℕ) (seat : f.seats p ≡ Some d) (counts : is_current book p ≡ true) where
        pub seat_is : slice_seat t (place_of (member_slice p n)) ≡ Some d
        seat_is = ap (slice_seat t) place_is ∙ said.slices.seats p d counts seat

        pub disk_is : disk_of t (member_slice p n) ≡ d
        disk_is = ap (λ o. unwrap_or o 0) seat_is

        module _ (member : is_member f n p ≡ true) where
          pub lies_in : (slice_first t (member_slice p n) ≡ first) × (sectors_of t (member_slice p n) ≡ data_sector + was.size)
          lies_in =
              let at = sym (said.slices.members n p d low counts seat member) ∙ extent_before in (
                ap (λ (o : Option Extent). option_map_or (λ e. e.first) o 0) at,
                ap (λ (o : Option Extent). option_map_or (λ e. e.sectors) o 0) at,
              )

          pub room : slice_first t (member_slice p n) + sectors_of t (member_slice p n) ≤ f.disks.sectors d
          room = said.inside (member_slice p n) d seat_is (let many = lies_in.1 in omega (arith, many))

          super_same : (now_seat : g.seats p ≡ Some d) → slices_from g first (member_slice p n) super_sector ≡ held (member_slice p n) super_sector
          super_same now_seat =
              let many = lies_in.1 in
              let at = lies_in.0 in
              let within = room in
              ap (λ q. drive_sector g q (first + super_sector)) place_is
              ∙ ap (λ o. option_map_or (λ e. if nat_lt (first + super_sector) (f.disks.sectors e) then i e (first + super_sector) else []) o []) now_seat
              ∙ ap (λ (b : Bool). if b then i d (first + super_sector) else []) (lt-ltb (first + super_sector) (f.disks.sectors d) (omega (arith, many, at, within)))
              ∙ ap₂ (λ e a. i e (a + super_sector)) (sym disk_is) (sym at)
              ∙ sym (ap (λ (b : Bool). if b then i (disk_of t (member_slice p n)) (slice_first t (member_slice p n) + super_sector) else [])
              (lt-ltb super_sector (sectors_of t (member_slice p n)) (omega (arith, many))))

        -- one that isn't a member has no superblock of the array
        pub alone : is_member f n p ≡ false → (now_seat : g.seats p ≡ Some d) → HasNoSuper book.pool.0 n (slices_from g first (member_slice p n) super_sector)
        alone none now_seat =
            subst (HasNoSuper book.pool.0 n)
            (sym (ap (λ q. drive_sector g q (first + super_sector)) place_is
            ∙ ap (λ o. option_map_or (λ e. if nat_lt (first + super_sector) (f.disks.sectors e) then i e (first + super_sector) else []) o []) now_seat))
            (of (nat_lt (first + super_sector) (f.disks.sectors d)) refl)
          where
            of : (b : Bool) → nat_lt (first + super_sector) (f.disks.sectors d) ≡ b → HasNoSuper book.pool.0 n (if b then i d (first + super_sector) else [])
            of true within =
                subst (λ (z : Id). HasNoSuper z.0 n (i d (first + super_sector))) (sym said.after.same.pool)
                (said.alone n p d first low counts seat none lies.begins (ltb-true (first + super_sector) (f.disks.sectors d) within))
            of false past = no_super_bare book.pool.0 n [] none_there

      -- its superblock is the one of the slices
      super_now : is_current book p ≡ true → super_in book (slices_from g first) n p ≡ super_in book held n p
      super_now counts =
          by (f.seats p) refl
        where
          by : (o : Option ℕ) → f.seats p ≡ o → super_in book (slices_from g first) n p ≡ super_in book held n p
          by None free =
              nothing_super book (slices_from g first) n p
              (ap (λ q. drive_sector g q (first + super_sector)) place_is
              ∙ ap (λ o. option_map_or (λ e. if nat_lt (first + super_sector) (f.disks.sectors e) then i e (first + super_sector) else []) o []) (said.seats p counts ∙ free))
              ∙ sym (nothing_super book held n p (reads_absent counts free super_sector))
          by (Some d) has =
              let seat = said.seats p counts ∙ has in
              elim (cases_Bool (is_member f n p)) [
                | inl member ↦ super_of_sector book (slices_from g first) held n p (super_same d has counts member seat)
                | inr none ↦
                    no_super_in book (slices_from g first) n p (alone d has counts none seat)
                    ∙ sym (nothing_super book held n p (reads_nothing none super_sector))
              ]

    pub truth_now : truth_from g n first ≡ Some is
    truth_now = truth_current book (slices_from g first) held n super_now ∙ is_is

  -- ---- all arrays

  begins_same : (n : ℕ) → n ≤ f.state.made → first_of g n ≡ first_of f n
  unfolding first_of
  begins_same zero low = refl
  begins_same (suc n) low =
      let less : n < f.state.made = omega (arith, low) in
      let lie = lies n less in
      let after : Super → ℕ = λ u. end_of (record { first = lie.first; sectors = data_sector + u.size }) in
      ap (option_and_then (λ first. option_map end_of (extent_from g n first))) (begins_same n (omega (arith, less)) ∙ lie.begins)
      ∙ ap (λ (o : Option Super). option_map end_of (option_map (λ u. record { first = lie.first; sectors = data_sector + u.size }) o)) (truth_now n less)
      ∙ ap (λ size. Some (lie.first + (data_sector + size))) (size_same n less)
      ∙ sym (ap (option_and_then (λ first. option_map end_of (extent_from f n first))) lie.begins
      ∙ ap (λ (o : Option Super). option_map end_of (option_map (λ u. record { first = lie.first; sectors = data_sector + u.size }) o)) lie.is)

  module _ (n : ℕ) (low : n < f.state.made) where
    pub begins_now : first_of g n ≡ Some (lies n low).first
    begins_now = begins_same n (omega (arith, low)) ∙ (lies n low).begins

    pub lies_now : extent_of g (suc n) ≡ extent_of f (suc n)
    lies_now =
        extent_found g n (lies n low).first (is n low) begins_now (truth_now n low)
        ∙ ap (λ size. Some (record { first = (lies n low).first; sectors = data_sector + size })) (size_same n low)
        ∙ sym (extent_before n low)

    pub truth_is : truth_of g n ≡ Some (is n low)
    truth_is = truth_found g n (lies n low).first (is n low) (few n low) begins_now (truth_now n low)

    pub member_same : (p : ℕ) → is_member g n p ≡ is_member f n p
    member_same p =
        ap (λ (o : Option Super). option_map_or (λ u. is_named u p) o false) truth_is
        ∙ named_same n low p
        ∙ sym (ap (λ (o : Option Super). option_map_or (λ u. is_named u p) o false) (was_is n low))

  -- each array has the sectors that it had
  pub sectors_now : (n : ℕ) → n < f.state.made → array_sectors g n ≡ array_sectors f n
  sectors_now n low =
      sectors_of_truth g n (is n low) (truth_is n low)
      ∙ ap₂ capacity ((said.arrays n low).layout (was n low) (was_is n low)) (size_same n low)
      ∙ sym (sectors_of_truth f n (was n low) (was_is n low))
