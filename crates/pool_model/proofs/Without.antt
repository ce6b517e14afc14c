-- The arrays of a whole pool without the drive of one place: they lie where they lay, each lacks one member at most, and holds what it held.
use Rattle.std.proofs.Common.{◌≡◌, ◌≢◌, ℕ, zero, suc, ◌+◌, ◌*◌, ◌<◌, ◌≤◌, ◌==◌, ◌&&◌, Bool, true, false, nat_lt, if◌then◌else◌, List, [], ◌∷◌, map, Option, Some, option_map, unwrap_or, refl, sym, ap, subst, ◌∙◌, inl, inr, eq-eqb, le-ltb, ltb-true, arith}
use Rattle.std.specs.Option.{option_and_then, option_map_or}
use Rattle.std.proofs.lemmas.Bool.{both_ways, cases_eq}
use Rattle.rack.specs.Seen.{Image}
use Rattle.md_super.specs.declared.superblock.Super.{Super}
use Rattle.pool_state.specs.declared.contents.State.{State}
use Rattle.array_image.specs.Arrays.{Member, Shape, layout_at, place_with, sectors_by, shape_by, value_by}
use Rattle.array_image.specs.Even.{AreEven}
use Rattle.array_image.specs.Held.{Among}
use Rattle.array_image.specs.Marks.{lower, lowered, unless_gone}
use Rattle.array_image.specs.Places.{data_sector, member_slice, place_of, super_sector}
use Rattle.array_image.specs.SoundArray.{array_fields}
use Rattle.array_image.specs.States.{is_current}
use Rattle.array_image.specs.Stripes.{sector_in}
use Rattle.array_image.specs.Supers.{is_named, is_unclean, super_in}
use Rattle.array_image.proofs.Frames.{super_of_sector, value_by_data}
use Rattle.array_core.proofs.Opened.{named_place}
use Rattle.array_core.proofs.Rules.{placed}
use Rattle.array_core.proofs.Truths.{Truth}
use Rattle.pool_image.specs.Disks.{Disks, identities_of, newest}
use Rattle.pool_image.specs.Drives.{Found, drive_sector, end_of, extent_from, extent_of, first_of, slices_from, slices_of, truth_from}
use Rattle.pool_image.specs.Meaning.{array_sectors, arrays_held, is_dirty_degraded, is_member, is_too_few, lacking_of, shape_of, truth_of}
use Rattle.pool_image.specs.Replay.{Extent}
use Rattle.pool_image.specs.Sound.{disks_without, image_without}
use Rattle.pool_image.proofs.Truths.{extent_found, slice_of_member, slice_sector, truth_found}
use Rattle.pool_model.specs.Absent.{IsWholePool}
use Rattle.pool_model.proofs.Lacking.{IsLacking, only_place, shape_left, truth_left}
use Rattle.pool_model.proofs.Layers.{nothing_super}
use Rattle.pool_model.proofs.Members.{agrees, clean, facts, few, has_all, lie, lies, listed, own, sized, synced, t as truth, t_is}
use Rattle.pool_model.proofs.Spare.{apart, spare_lacking, spare_value}
use Rattle.pool_model.proofs.Standing.{pool_at}
use Rattle.pool_model.proofs.Away.{all_current, drive_gone, drive_now}

module _ (disks : Disks) (c : Image) (s : State) (newest_is : newest disks (identities_of disks c) ≡ Some s)
    (w : IsWholePool disks c (pool_at disks c s)) (chunks : ℕ) (extent_is : s.extent ≡ 128 * chunks) where
  abbrev f : Found
  f = pool_at disks c s

  abbrev t_of : (n : ℕ) → n < s.made → Super
  t_of n low = truth disks c s newest_is w chunks extent_is n low

  -- superblocks of one array have the same fields
  alike : (n : ℕ) → n < s.made → (q r : ℕ) (u v : Super) → is_current s q ≡ true → is_current s r ≡ true
      → super_in s (slices_of f) n q ≡ Some u → super_in s (slices_of f) n r ≡ Some v → array_fields u ≡ array_fields v
  alike n low q r u v at_q at_r is_u is_v =
      let t_here = t_is disks c s newest_is w chunks extent_is n low in
      (agrees disks c s newest_is w chunks extent_is n low).same q r u v at_q at_r is_u is_v
      (w.level n q (t_of n low) u low t_here at_q is_u ∙ sym (w.level n r (t_of n low) v low t_here at_r is_v))

  module _ (p d : ℕ) (seat : f.seats p ≡ Some d) where
    abbrev pub g : Found
    g = pool_at (disks_without d disks) (image_without d c) s

    module _ (n : ℕ) (low : n < s.made) where
      abbrev t : Super
      t = t_of n low

      abbrev first : ℕ
      first = (lie disks c s newest_is w chunks extent_is n low).first

      abbrev few_n : n < 16
      few_n = few disks c s newest_is w chunks extent_is n low

      place_is : (q : ℕ) → place_of (member_slice q n) ≡ q
      place_is q = (let small = few_n in omega (arith, small))

      -- a member whose place is another one
      beside : (q : ℕ) × (q ≢ p) × (is_named t q ≡ true)
      beside = elim (cases_eq one.0 p) [
        | inr other ↦ (one.0, other, named_place t 0 one.0 (omega arith) one.1)
        | inl same ↦ (
          two.0,
          λ here.
              let at = apart n t few_n its 0 1 low_0 low_1 (ap (λ o. unwrap_or o 16) one.1 ∙ same ∙ sym here ∙ sym (ap (λ o. unwrap_or o 16) two.1)) in
              omega (arith, at),
          named_place t 1 two.0 (omega arith) two.1,
        )
      ]
        where
          its : Truth t
          its = facts disks c s newest_is w chunks extent_is n low

          low_0 : 0 < t.raid_disks
          low_0 = (let least = its.least in omega (arith, least))

          low_1 : 1 < t.raid_disks
          low_1 = (let least = its.least in omega (arith, least))

          one : (q : ℕ) × (place_with t.roles.items 0 ≡ Some q) × (q < 16)
          one = placed t 0 its.positions low_0

          two : (q : ℕ) × (place_with t.roles.items 1 ≡ Some q) × (q < 16)
          two = placed t 1 its.positions low_1

      -- superblocks where its slices begin
      super_first : (q : ℕ) → super_in s (slices_of f) n q ≡ super_in s (slices_from f first) n q
      super_first q =
          super_of_sector s (slices_of f) (slices_from f first) n q
          (slice_sector f (member_slice q n) super_sector first (data_sector + t.size)
          (ap (extent_of f) (slice_of_member q n few_n) ∙ lies disks c s newest_is w chunks extent_is n low) (omega arith))

      from_now : (q u : ℕ) → q ≢ p → slices_from g first (member_slice q n) u ≡ slices_from f first (member_slice q n) u
      from_now q u other =
          ap (λ k. drive_sector g k (first + u)) (place_is q) ∙ drive_now disks c s newest_is w p d seat q (first + u) other
          ∙ sym (ap (λ k. drive_sector f k (first + u)) (place_is q))

      from_gone : (u : ℕ) → slices_from g first (member_slice p n) u ≡ []
      from_gone u = ap (λ k. drive_sector g k (first + u)) (place_is p) ∙ drive_gone disks c s newest_is w p d seat (first + u)

      near : (u : Super) × (super_in s (slices_of f) n beside.0 ≡ Some u)
      near = own disks c s newest_is w chunks extent_is n low beside.0 beside.2

      near_counts : is_current s beside.0 ≡ true
      near_counts = all_current disks c s newest_is w beside.0 (listed disks c s newest_is w chunks extent_is n low beside.0 beside.2)

      lacks_first : IsLacking s (slices_from f first) (slices_from g first) n p
      lacks_first = record {
        others = λ q other counts. super_of_sector s (slices_from g first) (slices_from f first) n q (from_now q super_sector other);
        gone = nothing_super s (slices_from g first) n p (from_gone super_sector);
        alike = λ q r u v at_q at_r is_u is_v. alike n low q r u v at_q at_r (super_first q ∙ is_u) (super_first r ∙ is_v);
        other = beside.0;
        apart = beside.1;
        current = near_counts;
        has = (near.0, sym (super_first beside.0) ∙ near.1);
      }

      truth_first : (u : Super) × (truth_from g n first ≡ Some u) × (array_fields u ≡ array_fields t)
      truth_first = truth_left s (slices_from f first) (slices_from g first) n p lacks_first t (lie disks c s newest_is w chunks extent_is n low).is

      abbrev now : Super
      now = truth_first.0

      size_now : now.size ≡ t.size
      size_now = ap (λ (z : Super). z.size) truth_first.2

    -- ---- where they lie

    begins_same : (n : ℕ) → n ≤ s.made → first_of g n ≡ first_of f n
    unfolding first_of
    begins_same zero low = refl
    begins_same (suc n) low =
        let less : n < s.made = omega (arith, low) in
        let at = lie disks c s newest_is w chunks extent_is n less in
        let ends : ℕ → Option Super → Option ℕ = λ k o. option_map end_of (option_map (λ (u : Super). record { first = k; sectors = data_sector + u.size }) o) in
        ap (option_and_then (λ k. option_map end_of (extent_from g n k))) (begins_same n (omega (arith, less)) ∙ at.begins)
        ∙ ap (ends at.first) (truth_first n less).1
        ∙ ap (λ size. Some (at.first + (data_sector + size))) (size_now n less)
        ∙ sym (ap (option_and_then (λ k. option_map end_of (extent_from f n k))) at.begins ∙ ap (ends at.first) at.is)

    module _ (n : ℕ) (low : n < s.made) where
      begins_now : first_of g n ≡ Some (first n low)
      begins_now = begins_same n (omega (arith, low)) ∙ (lie disks c s newest_is w chunks extent_is n low).begins

      pub lies_now : extent_of g (suc n) ≡ extent_of f (suc n)
      lies_now =
          extent_found g n (first n low) (now n low) begins_now (truth_first n low).1
          ∙ ap (λ size. Some (record { first = first n low; sectors = data_sector + size })) (size_now n low)
          ∙ sym (lies disks c s newest_is w chunks extent_is n low)

      truth_now : truth_of g n ≡ Some (now n low)
      truth_now = truth_found g n (first n low) (now n low) (few_n n low) begins_now (truth_first n low).1

      pub member_now : (q : ℕ) → is_member g n q ≡ is_member f n q
      member_now q =
          ap (λ (o : Option Super). option_map_or (λ u. is_named u q) o false) truth_now
          ∙ ap (λ (z : Super). is_named z q) (truth_first n low).2
          ∙ sym (ap (λ (o : Option Super). option_map_or (λ u. is_named u q) o false) (t_is disks c s newest_is w chunks extent_is n low))

      -- ---- its slices

      abbrev here : ℕ → Found → ℕ → Option Extent → List ℕ
      here u h k o = option_map_or (λ (e : Extent). if nat_lt u e.sectors then slices_from h e.first k u else []) o []

      at_first : (h : Found) (q u : ℕ) → extent_of h (suc n) ≡ Some (record { first = first n low; sectors = data_sector + (t n low).size })
          → slices_of h (member_slice q n) u ≡ (if nat_lt u (data_sector + (t n low).size) then slices_from h (first n low) (member_slice q n) u else [])
      unfolding slices_of
      at_first h q u is = ap (here u h (member_slice q n)) (ap (extent_of h) (slice_of_member q n (few_n n low)) ∙ is)

      lies_here : extent_of g (suc n) ≡ Some (record { first = first n low; sectors = data_sector + (t n low).size })
      lies_here = lies_now ∙ lies disks c s newest_is w chunks extent_is n low

      pub slice_now : (q u : ℕ) → q ≢ p → slices_of g (member_slice q n) u ≡ slices_of f (member_slice q n) u
      slice_now q u other =
          at_first g q u lies_here
          ∙ ap (λ (v : List ℕ). if nat_lt u (data_sector + (t n low).size) then v else []) (from_now n low q u other)
          ∙ sym (at_first f q u (lies disks c s newest_is w chunks extent_is n low))

      abbrev none : List ℕ
      none = []

      slice_gone : slices_of g (member_slice p n) super_sector ≡ []
      slice_gone =
          at_first g p super_sector lies_here
          ∙ ap (λ (v : List ℕ). if nat_lt super_sector (data_sector + (t n low).size) then v else []) (from_gone n low super_sector)
          ∙ same_if (nat_lt super_sector (data_sector + (t n low).size))
        where
          same_if : (b : Bool) → (if b then none else none) ≡ none
          same_if true = refl
          same_if false = refl

      pub super_now : (q : ℕ) → q ≢ p → super_in s (slices_of g) n q ≡ super_in s (slices_of f) n q
      super_now q other = super_of_sector s (slices_of g) (slices_of f) n q (slice_now q super_sector other)

      lacks : IsLacking s (slices_of f) (slices_of g) n p
      lacks = record {
        others = λ q other counts. super_now q other;
        gone = nothing_super s (slices_of g) n p slice_gone;
        alike = alike n low;
        other = (beside n low).0;
        apart = (beside n low).1;
        current = near_counts n low;
        has = near n low;
      }

      -- ---- its shape

      abbrev was : Shape
      was = shape_by s (slices_of f) n (t n low)

      shape_was : shape_of f n ≡ Some was
      shape_was = ap (option_map (shape_by s (slices_of f) n)) (t_is disks c s newest_is w chunks extent_is n low)

      pub shape_now : shape_of g n ≡ Some (lowered (only_place p) was)
      shape_now = shape_left s (slices_of f) (slices_of g) n p lacks (t n low) (t_is disks c s newest_is w chunks extent_is n low)

      pub sectors_now : array_sectors g n ≡ array_sectors f n
      sectors_now =
          ap (λ (o : Option Shape). option_map_or sectors_by o 0) shape_now ∙ sym (ap (λ (o : Option Shape). option_map_or sectors_by o 0) shape_was)

      pub enough : is_too_few g n ≡ false
      enough =
          ap (λ (o : Option Shape). option_map_or (λ shape. nat_lt 1 (lacking_of shape)) o true) shape_now
          ∙ le-ltb 1 (lacking_of (lowered (only_place p) was))
          (spare_lacking n (t n low) (few_n n low) (facts disks c s newest_is w chunks extent_is n low) s (slices_of f)
          (has_all disks c s newest_is w chunks extent_is n low) p)

      pub in_sync : is_dirty_degraded g n ≡ false
      in_sync = of (nat_lt n s.joined) refl
        where
          lacking : Bool
          lacking = option_map_or (λ shape. nat_lt 0 (lacking_of shape)) (shape_of g n) false

          no_and : (b : Bool) → (b && false) ≡ false
          no_and true = refl
          no_and false = refl

          of : (b : Bool) → nat_lt n s.joined ≡ b → (b && (lacking && option_map_or is_unclean (truth_of g n) false)) ≡ false
          of false young = refl
          of true joined =
              ap (λ o. lacking && option_map_or is_unclean o false) truth_now
              ∙ ap (λ b. lacking && b) (ap (λ (z : Super). is_unclean z) (truth_first n low).2 ∙ clean disks c s newest_is w chunks extent_is n low (ltb-true n s.joined joined))
              ∙ no_and lacking

      -- ---- what it holds

      -- who counts is on another place
      counts_beside : (m : Member) (ms : List Member) (sector : ℕ) → Among m (map (lower (only_place p)) ms) → sector < m.reach → m.place ≢ p
      counts_beside m [] sector among counts = absurd among
      counts_beside m (k ∷ ms) sector (inr later) counts = counts_beside m ms sector later counts
      counts_beside m (k ∷ ms) sector (inl same) counts = λ at. of (k.place == p) refl same (sym (ap (λ (z : Member). z.place) same) ∙ at)
        where
          of : (b : Bool) → (k.place == p) ≡ b → m ≡ unless_gone b k → k.place ≡ p → ⊥
          of true is same at = (let none : m.reach ≡ 0 = ap (λ (z : Member). z.reach) same in omega (arith, none, counts))
          of false is same at = both_ways (k.place == p) is (eq-eqb k.place p at)

      pub value_now : (x : ℕ) → n < s.joined → x < array_sectors f n → arrays_held g n x ≡ arrays_held f n x
      value_now x joined inside =
          let lost : Shape = lowered (only_place p) was in
          ap (λ (o : Option Shape). option_map_or (λ shape. value_by shape (slices_of g) n x) o []) shape_now
          ∙ value_by_data lost (slices_of g) (slices_of f) n x
          (λ m among counts. slice_now m.place (data_sector + sector_in (layout_at lost x) x) (counts_beside m was.members (sector_in (layout_at lost x) x) among counts))
          ∙ spare_value n (t n low) (few_n n low) (facts disks c s newest_is w chunks extent_is n low) s (slices_of f)
          (has_all disks c s newest_is w chunks extent_is n low) p x
          (subst (λ rows. AreEven was n rows (slices_of f)) (synced disks c s newest_is w chunks extent_is n low joined)
          ((agrees disks c s newest_is w chunks extent_is n low).even joined was shape_was))
          (sized disks c s newest_is w chunks extent_is n low)
          (subst (λ k. x < k) (ap (λ (o : Option Shape). option_map_or sectors_by o 0) shape_was) inside)
          ∙ sym (ap (λ (o : Option Shape). option_map_or (λ shape. value_by shape (slices_of f) n x) o []) shape_was)
