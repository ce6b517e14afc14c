-- Contents that say a pool hold it, a sound one.
use Rattle.std.proofs.Common.{◌≡◌, ℕ, ◌+◌, ◌<◌, ◌≤◌, Bool, true, false, nat_lt, if◌then◌else◌, [], Option, Some, None, refl, sym, ap, subst, ◌∙◌, inl, inr, arith}
use Rattle.std.specs.Option.{option_map_or}
use Rattle.std.proofs.lemmas.Bool.{cases_Bool}
use Rattle.std.proofs.lemmas.Option.{none-some}
use Rattle.rack.specs.Seen.{Image}
use Rattle.slice_rack.specs.Slices.{Slices, first_of as slice_first, sectors_of}
use Rattle.slice_rack.specs.Sliced.{sliced}
use Rattle.shr_base.specs.declared.Id.{Id}
use Rattle.md_super.specs.declared.superblock.Super.{Super}
use Rattle.pool_state.specs.declared.contents.Copied.{Copied}
use Rattle.pool_state.specs.declared.contents.State.{State}
use Rattle.array_image.specs.Arrays.{array_in}
use Rattle.array_image.specs.Places.{member_slice, slice_of, super_sector}
use Rattle.array_image.specs.SoundArray.{IsSoundArray}
use Rattle.array_image.specs.States.{current_places, is_current}
use Rattle.array_image.specs.Supers.{is_named, super_in, truth_in}
use Rattle.array_image.proofs.Frames.{super_of_sector}
use Rattle.array_core.proofs.Opened.{super_place}
use Rattle.array_core.proofs.Stripped.{some_same}
use Rattle.array_model.proofs.Renewed.{leads}
use Rattle.pool_image.specs.Drives.{Found, extent_of, slices_from, slices_of}
use Rattle.pool_image.specs.Meaning.{arrays_held, is_member}
use Rattle.pool_image.specs.Replay.{Extent, Standing}
use Rattle.pool_image.specs.Sound.{IsSoundState}
use Rattle.pool_image.proofs.Composed.{same_slices, seated}
use Rattle.pool_image.proofs.Truths.{extent_found, slice_of_member, slice_sector}
use Rattle.pool_model.specs.Pools.{IsSoundPool}
use Rattle.pool_model.specs.Left.{NoStraySuperblock, NoStraySuperblockBy, HasNoSuper, HaveSlices}
use Rattle.pool_model.proofs.Current.{SameCurrent, SameMembers, array_current, sound_current}
use Rattle.pool_model.proofs.Extents.{alone as alone_there, begins_now, disk_is, few, is, is_is, lies, lies_now, made_same, member_same, named_same, no_slice, place_is, reads_absent, reads_nothing, room, truth_is, truth_now, was_is}
use Rattle.pool_model.proofs.Layers.{nothing_super}
use Rattle.pool_model.proofs.NoSuper.{no_super_in}
use Rattle.pool_model.proofs.Said.{SaysPool, pool_of}
use Rattle.pool_model.proofs.Seats.{nowhere}

module _ (f : Found) (t : Slices) (book : State) (e : Image) (before : Standing) (said : SaysPool f t book e) where
  abbrev held : Image
  held = sliced t e

  abbrev g : Found
  g = pool_of f book e before

  -- ---- one array

  module _ (n : ℕ) (low : n < f.state.made) where
    -- a member's slice is that of the tables
    slice_now : (p d u : ℕ) → is_current book p ≡ true → f.seats p ≡ Some d → is_member f n p ≡ true → slices_of g (member_slice p n) u ≡ held (member_slice p n) u
    slice_now p d u counts seat member =
        same_slices g t (member_slice p n) u
        (seated
        (ap g.seats (place_is f t book e before said n low p) ∙ said.seats p counts ∙ seat ∙ ap Some (sym (disk_is f t book e before said n low p d seat counts)))
        (ap (extent_of g) (slice_of_member p n (few f t book e before said n low)) ∙ lies_now f t book e before said n low ∙ said.slices.members n p d low counts seat member)
        (subst (λ e. slice_first t (member_slice p n) + sectors_of t (member_slice p n) ≤ f.disks.sectors e)
        (sym (disk_is f t book e before said n low p d seat counts)) (room f t book e before said n low p d seat counts member)))

    none_now : (p d : ℕ) → is_current book p ≡ true → f.seats p ≡ Some d → is_member f n p ≡ false → super_in book (slices_of g) n p ≡ None
    none_now p d counts seat none =
        super_of_sector book (slices_of g) (slices_from g (lies f t book e before said n low).first) n p
        (slice_sector g (member_slice p n) super_sector (lies f t book e before said n low).first (2048 + (is f t book e before said n low).size)
        (ap (extent_of g) (slice_of_member p n (few f t book e before said n low))
        ∙ extent_found g n (lies f t book e before said n low).first (is f t book e before said n low) (begins_now f t book e before said n low) (truth_now f t book e before said n low))
        (omega arith))
        ∙ no_super_in book (slices_from g (lies f t book e before said n low).first) n p
        (alone_there f t book e before said n low p d seat counts none (said.seats p counts ∙ seat))

    -- a place without a drive has no slice
    absent_now : (p : ℕ) → is_current book p ≡ true → f.seats p ≡ None → (k : ℕ) → slices_of g (member_slice p n) k ≡ []
    unfolding slices_of
    absent_now p counts free k = of (extent_of g (slice_of (member_slice p n)))
      where
        nothing : (first : ℕ) → slices_from g first (member_slice p n) k ≡ []
        nothing first =
            ap (λ o. option_map_or (λ d. if nat_lt (first + k) (f.disks.sectors d) then e d (first + k) else []) o [])
            (ap g.seats (place_is f t book e before said n low p) ∙ said.seats p counts ∙ free)

        of_test : (first : ℕ) (b : Bool) → (if b then slices_from g first (member_slice p n) k else []) ≡ []
        of_test first true = nothing first
        of_test first false = refl

        of : (o : Option Extent) → option_map_or (λ (x : Extent). if nat_lt k x.sectors then slices_from g x.first (member_slice p n) k else []) o [] ≡ []
        of None = refl
        of (Some x) = of_test x.first (nat_lt k x.sectors)

    pub same : SameCurrent book n (slices_of g) held
    same p counts = by (f.seats p) refl
      where
        by : (o : Option ℕ) → f.seats p ≡ o → super_in book (slices_of g) n p ≡ super_in book held n p
        by None free =
            nothing_super book (slices_of g) n p (absent_now p counts free super_sector)
            ∙ sym (nothing_super book held n p (reads_absent f t book e before said n low p counts free super_sector))
        by (Some d) has = elim (cases_Bool (is_member f n p)) [
          | inl member ↦ super_of_sector book (slices_of g) held n p (slice_now p d super_sector counts has member)
          | inr none ↦
              none_now p d counts has none
              ∙ sym (nothing_super book held n p (reads_nothing f t book e before said n low p none super_sector))
        ]

    pub members : SameMembers book n (slices_of g) held
    members p u counts super k = by (f.seats p) refl
      where
        by : (o : Option ℕ) → f.seats p ≡ o → slices_of g (member_slice p n) k ≡ held (member_slice p n) k
        by None free = absent_now p counts free k ∙ sym (reads_absent f t book e before said n low p counts free k)
        by (Some d) has = elim (cases_Bool (is_member f n p)) [
          | inl member ↦ slice_now p d k counts has member
          | inr none ↦ absurd (none-some u (sym (nothing_super book held n p (reads_nothing f t book e before said n low p none super_sector)) ∙ super))
        ]

    array_now : IsSoundArray book (slices_of g) n (is f t book e before said n low)
    array_now =
        sound_current book (slices_of g) held n same members (is f t book e before said n low)
        (said.arrays n low).sound

    pub value_now : (x : ℕ) → arrays_held g n x ≡ array_in book held n x
    value_now x = array_current book (slices_of g) held n same members x

    -- its truth names its own place
    own : is_named (is f t book e before said n low) (is f t book e before said n low).dev_number ≡ true
    unfolding truth_in
    own =
        let one = leads (super_in book held n) (current_places book) (is f t book e before said n low) (is_is f t book e before said n low) in
        let place = super_place book held n one.place (is f t book e before said n low) one.is in
        elim (cases_Bool (is_member f n one.place)) [
          | inl member ↦
              ap (is_named (is f t book e before said n low)) place
              ∙ named_same f t book e before said n low one.place
              ∙ sym (ap (λ (o : Option Super). option_map_or (λ u. is_named u one.place) o false) (was_is f t book e before said n low))
              ∙ member
          | inr none ↦
              absurd (none-some (is f t book e before said n low)
              (sym (nothing_super book held n one.place (reads_nothing f t book e before said n low one.place none super_sector)) ∙ one.is))
        ]

  -- ---- the pool

  low_before : (n : ℕ) → n < g.state.made → n < f.state.made
  low_before n low = let same = made_same f t book e before said in omega (arith, low, same)

  -- who has a seat is current, and had it
  seat_before : (p d : ℕ) → g.seats p ≡ Some d → (is_current book p ≡ true) × (f.seats p ≡ Some d)
  seat_before p d seat = elim (cases_Bool (is_current book p)) [
    | inl counts ↦ (counts, sym (said.seats p counts) ∙ seat)
    | inr former ↦ absurd (none-some d (sym (nowhere book f.disks g.identities p former) ∙ seat))
  ]

  rules : IsSoundState g
  rules = record {
    arrays = λ n low. let less = low_before n low in (is f t book e before said n less, truth_is f t book e before said n less, array_now n less);
    joined = λ none. said.after.same.joined ∙ said.joined ∙ sym said.after.same.made;
    copies = λ d copy low here epoch. elim (said.latest d copy low here) [
      | inl less ↦ absurd (omega (arith, less, epoch))
      | inr same ↦ same
    ];
    epochs = λ p d copy seat here.
        let before = seat_before p d seat in
        ap (λ (k : Copied). k.state.epoch)
        (some_same copy (record { state = book; own = (said.own p d before.0 before.1).0 }) (sym here ∙ (said.own p d before.0 before.1).1));
  }

  pub sound_now : IsSoundPool g
  sound_now = record {
    rules = rules;
    own = λ n u low truth.
        let less = low_before n low in
        subst (λ (z : Super). is_named z z.dev_number ≡ true) (some_same (is f t book e before said n less) u (sym (truth_is f t book e before said n less) ∙ truth)) (own n less);
  }

  pub slices_now : HaveSlices g t
  unfolding extent_of
  slices_now = record {
    seats = λ p d seat. let was = seat_before p d seat in said.slices.seats p d was.0 was.1;
    logs = λ p d seat. let was = seat_before p d seat in said.slices.logs p d was.0 was.1;
    members = λ n p d low seat member.
        let less = low_before n low in
        let was = seat_before p d seat in
        lies_now f t book e before said n less
        ∙ said.slices.members n p d less was.0 was.1 (sym (member_same f t book e before said n less p) ∙ member);
    others = λ n p low none. let less = low_before n low in no_slice f t book e before said n less p (sym (member_same f t book e before said n less p) ∙ none);
  }

  pub alone_now : (i : Image) → NoStraySuperblockBy book f i → NoStraySuperblock g i
  alone_now i alone n p d first low seat none begins within =
      let less = low_before n low in
      let was = seat_before p d seat in
      subst (λ (z : Id). HasNoSuper z.0 n (i d (first + super_sector))) (sym said.after.same.pool)
      (alone n p d first less was.0 was.1 (sym (member_same f t book e before said n less p) ∙ none)
      ((lies f t book e before said n less).begins ∙ sym (begins_now f t book e before said n less) ∙ begins) within)
