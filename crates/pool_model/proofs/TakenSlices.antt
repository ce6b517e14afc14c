-- The slices of a pool that took a new drive in are those of its tables, and its arrays stand on them.
use Rattle.std.proofs.Common.{◌≡◌, ◌≢◌, ℕ, suc, ◌+◌, ◌-◌, ◌<◌, ◌≤◌, ◌==◌, ◌&&◌, nat_le, nat_lt, if◌then◌else◌, Bool, true, false, List, is_some, Some, None, refl, sym, ap, ap₂, subst, ◌∙◌, inl, inr, lt-ltb, le-ltb, arith}
use Rattle.std.specs.Option.{option_map_or}
use Rattle.std.proofs.lemmas.Bool.{cases_eq, cases_lt, ne_eqb}
use Rattle.std.proofs.lemmas.Option.{none-some}
use Rattle.slice_rack.specs.Slices.{Slices, first_of as slice_first, place_of, seat_of, sectors_of}
use Rattle.md_super.specs.declared.superblock.Super.{Super}
use Rattle.pool_state.specs.declared.contents.Plan.{Plan}
use Rattle.array_image.specs.Places.{data_sector, log_sectors, log_slice, member_slice, slice_of, state_sector}
use Rattle.array_core.specs.Seats.{renewed, seat_of as seat_in}
use Rattle.array_core.proofs.Stripped.{some_same}
use Rattle.array_model.specs.View.{HasGeometry, View}
use Rattle.pool_image.specs.Disks.{Disks}
use Rattle.pool_image.specs.Drives.{Found, extent_of}
use Rattle.pool_image.specs.Meaning.{is_member, truth_of}
use Rattle.raid_laws.specs.Enlisting.{next_drive}
use Rattle.raid_laws.specs.NewDrive.{first_in, first_laid, joins, length_in, sectors_laid, slice_length}
use Rattle.raid_laws.specs.Raid.{Raid}
use Rattle.pool_model.specs.Pools.{AreSlicesOf, extent_in}
use Rattle.pool_model.specs.Taken.{JoinsBook, SeatsNew, views_of}
use Rattle.pool_model.proofs.Alike.{HasTruths, extent_is, extent_same, lies, member_same, truth_same}
use Rattle.pool_model.proofs.Beginnings.{first_is, no_view, size_is, view_at}
use Rattle.pool_model.proofs.Taken.{IsKnownBefore, g, has_truths, made_same, seat_here, seat_other}

-- geometries that follow each other
pub geometry_then : (t u w : Super) → HasGeometry t u → HasGeometry u w → HasGeometry t w
geometry_then t u w one two = record {
  set = two.set ∙ one.set;
  level = two.level ∙ one.level;
  size = two.size ∙ one.size;
  disks = two.disks ∙ one.disks;
  roles = two.roles ∙ one.roles;
  features = two.features ∙ one.features;
  position = two.position ∙ one.position;
}

module _ (f : Found) (t u : Slices) (v : Raid) (disks : Disks) (place disk units : ℕ) (plan : Plan)
    (new : SeatsNew f t u v place disk (disks.sectors disk)) (known : IsKnownBefore f v)
    (sectors : (d : ℕ) → d < f.disks.count → disks.sectors d ≡ f.disks.sectors d) where
  abbrev h : Found
  h = g f t u v disks place disk units plan new known sectors

  abbrev few : f.state.made ≤ 16
  few = known.outset.made.1

  abbrev truths : (n : ℕ) → n < f.state.made → (z : Super) × (truth_of f n ≡ Some z)
  truths = known.outset.truths

  abbrev truths_kept : HasTruths f h
  truths_kept = has_truths f t u v disks place disk units plan new known sectors

  member_is : (n : ℕ) → n < f.state.made → (p : ℕ) → is_member h n p ≡ is_member f n p
  member_is n low p = member_same f h few truths truths_kept n low p

  made_is : v.state.made ≡ f.state.made
  made_is = made_same f t u v disks place disk units plan new known sectors

  -- ---- the slices of other places

  module _ (k : ℕ) (other : place_of k ≢ place) where
    slice_other : extent_in u k ≡ extent_in t k
    slice_other = ap₂ (λ first many. record { first = first; sectors = many }) (new.seats.firsts k other) (new.seats.others k other)

  log_apart : (p : ℕ) → p ≢ place → place_of (log_slice p) ≢ place
  log_apart p other same = other (let e : p ≡ place = omega (arith, same) in e)

  member_apart : (n p : ℕ) → n < 16 → p ≢ place → place_of (member_slice p n) ≢ place
  member_apart n p small other same = other (let e : p ≡ place = omega (arith, same, small) in e)

  -- ---- those of the new drive

  abbrev arrays : List View
  arrays = views_of v

  log_here : extent_in u (log_slice place) ≡ record { first = state_sector; sectors = log_sectors }
  log_here =
      let on : place_of (log_slice place) ≡ place = omega arith in
      let of : slice_of (log_slice place) ≡ 0 = omega arith in
      let many : sectors_of u (log_slice place) ≡ log_sectors = new.seats.own (log_slice place) on ∙ ap (sectors_laid arrays place (disks.sectors disk)) of in
      let first : slice_first u (log_slice place) ≡ state_sector = new.seats.own_firsts (log_slice place) on (omega (arith, many)) ∙ ap (first_laid arrays) of in
      ap₂ (λ a b. record { first = a; sectors = b }) first many

  module _ (n : ℕ) (small : n < 16) where
    on_place : place_of (member_slice place n) ≡ place
    on_place = omega (arith, small)

    of_array : slice_of (member_slice place n) ≡ suc n
    of_array = omega (arith, small)

    not_log : (slice_of (member_slice place n) == 0) ≡ false
    not_log = ne_eqb (slice_of (member_slice place n)) 0 (λ none. let at = of_array in omega (arith, none, at))

    member_many : sectors_of u (member_slice place n) ≡ (if joins arrays place (disks.sectors disk) n then length_in arrays n else 0)
    member_many =
        new.seats.own (member_slice place n) on_place
        ∙ ap₂ (λ (b : Bool) k. if b then log_sectors else if joins arrays place (disks.sectors disk) k then length_in arrays k else 0)
        not_log (let e : slice_of (member_slice place n) - 1 ≡ n = omega (arith, of_array) in e)

    member_first : 0 < sectors_of u (member_slice place n) → slice_first u (member_slice place n) ≡ first_in arrays n
    member_first some =
        new.seats.own_firsts (member_slice place n) on_place some
        ∙ ap₂ (λ (b : Bool) k. if b then state_sector else first_in arrays k)
        not_log (let e : slice_of (member_slice place n) - 1 ≡ n = omega (arith, of_array) in e)

  member_here : (n : ℕ) → n < f.state.made → is_member f n place ≡ true → extent_of f (suc n) ≡ Some (extent_in u (member_slice place n))
  member_here n low member =
      let small : n < 16 = omega (arith, low, few) in
      let lie = lies f h few truths truths_kept n low in
      let many : sectors_of u (member_slice place n) ≡ data_sector + (truths n low).0.size =
      member_many n small ∙ ap (λ (b : Bool). if b then length_in arrays n else 0) (new.members n low ∙ member)
      ∙ ap (λ o. option_map_or slice_length o 0) (view_at v n (omega (arith, low, made_is)))
      ∙ (let size = size_is f v few made_is truths known.geometry n low in omega (arith, size)) in
      let first : slice_first u (member_slice place n) ≡ lie.first =
      member_first n small (omega (arith, many))
      ∙ sym (some_same lie.first (first_in arrays n) (sym lie.begins ∙ first_is f v few made_is truths known.geometry n (omega (arith, low)))) in
      extent_is f h few truths truths_kept n low ∙ ap₂ (λ a b. Some (record { first = a; sectors = b })) (sym first) (sym many)

  pub none_here : (n : ℕ) → n < 16 → (nat_lt n f.state.made && is_member f n place) ≡ false → sectors_of u (member_slice place n) ≡ 0
  none_here n small none = member_many n small ∙ ap (λ (b : Bool). if b then length_in arrays n else 0) fails
    where
      fails : joins arrays place (disks.sectors disk) n ≡ false
      fails = elim (cases_lt n f.state.made) [
        | inl low ↦ new.members n low ∙ sym (ap (λ b. b && is_member f n place) (lt-ltb n f.state.made low)) ∙ none
        | inr past ↦
            ap (λ o. option_map_or (λ (z : View). is_some (seat_in z place) && nat_le (first_in arrays n + slice_length z + 33) (disks.sectors disk)) o false)
            (no_view v n (omega (arith, past, made_is)))
      ]

  -- ---- all of them

  module _ (slices : AreSlicesOf f t) where
    seats_now : (p : ℕ) → seat_of u p ≡ h.seats p
    seats_now p = new.seats.seats p ∙ ap (λ o. if p == place then Some disk else o) (slices.seats p)

    was_seat : (p d : ℕ) → p ≢ place → h.seats p ≡ Some d → f.seats p ≡ Some d
    was_seat p d other seat = sym (seat_other f t u v disks place disk units plan new known sectors p 0 other) ∙ seat

    logs_now : (p d : ℕ) → h.seats p ≡ Some d → extent_of h 0 ≡ Some (extent_in u (log_slice p))
    unfolding extent_of
    logs_now p d seat = elim (cases_eq p place) [
      | inl same ↦ subst (λ q. extent_of h 0 ≡ Some (extent_in u (log_slice q))) (sym same) (ap Some (sym log_here))
      | inr other ↦ slices.logs p d (was_seat p d other seat) ∙ ap Some (sym (slice_other (log_slice p) (log_apart p other)))
    ]

    members_now : (n p d : ℕ) → n < f.state.made → h.seats p ≡ Some d → is_member h n p ≡ true → extent_of h (suc n) ≡ Some (extent_in u (member_slice p n))
    members_now n p d low seat member =
        let was : is_member f n p ≡ true = sym (member_is n low p) ∙ member in
        extent_same f h few truths truths_kept n low
        ∙ elim (cases_eq p place) [
          | inl same ↦
              subst (λ q. extent_of f (suc n) ≡ Some (extent_in u (member_slice q n))) (sym same)
              (member_here n low (subst (λ q. is_member f n q ≡ true) same was))
          | inr other ↦
              slices.members n p d low (was_seat p d other seat) was
              ∙ ap Some (sym (slice_other (member_slice p n) (member_apart n p (omega (arith, low, few)) other)))
        ]

    others_now : (n p : ℕ) → n < 16 → (nat_lt n h.state.made && is_member h n p) ≡ false → sectors_of u (member_slice p n) ≡ 0
    others_now n p small none = elim (cases_eq p place) [
      | inl same ↦ subst (λ q. sectors_of u (member_slice q n) ≡ 0) (sym same) (none_here n small (subst (λ q. (nat_lt n f.state.made && is_member f n q) ≡ false) same was))
      | inr other ↦ new.seats.others (member_slice p n) (member_apart n p small other) ∙ slices.others n p small was
    ]
      where
        was : (nat_lt n f.state.made && is_member f n p) ≡ false
        was = elim (cases_lt n f.state.made) [
          | inl low ↦ ap₂ (λ k b. nat_lt n k && b) (sym made_is) (sym (member_is n low p)) ∙ none
          | inr past ↦ ap (λ b. b && is_member f n p) (le-ltb n f.state.made past)
        ]

    unseated_now : (k : ℕ) → h.seats (place_of k) ≡ None → sectors_of u k ≡ 0
    unseated_now k none = elim (cases_eq (place_of k) place) [
      | inl same ↦
          absurd (none-some disk (sym none ∙ ap h.seats same ∙ seat_here f t u v disks place disk units plan new known sectors))
      | inr other ↦
          new.seats.others k other ∙ slices.unseated k (sym (seat_other f t u v disks place disk units plan new known sectors (place_of k) 0 other) ∙ none)
    ]

    pub slices_taken : AreSlicesOf h u
    slices_taken = record {
      seats = seats_now;
      logs = logs_now;
      members = λ n p d low seat member. members_now n p d (omega (arith, low, made_is)) seat member;
      others = others_now;
      unseated = unseated_now;
    }

  -- ---- the arrays on them

  -- a renewed member changes nothing of the truth
  joined_truth : (n : ℕ) (b : Bool) → (if b then renewed place (next_drive v.state) (v.arrays n) else v.arrays n).truth ≡ (v.arrays n).truth
  joined_truth n true = refl
  joined_truth n false = refl

  pub geometry_taken : (w : Raid) (joining : ℕ → Bool) → JoinsBook v w place units plan joining
      → (n : ℕ) (q : Super) → n < h.state.made → truth_of h n ≡ Some q → HasGeometry q (w.arrays n).truth
  geometry_taken w joining joins n q low truth =
      let less : n < f.state.made = omega (arith, low, made_is) in
      let was : truth_of f n ≡ Some q = sym (truth_same f h few truths truths_kept n less) ∙ truth in
      geometry_then q (v.arrays n).truth (w.arrays n).truth (known.geometry n q less was)
      (subst (λ k. HasGeometry k (w.arrays n).truth) (joined_truth n (joining n)) (joins.arrays n low).same.geometry)
