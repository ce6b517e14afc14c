-- Pools whose arrays have the same truths where they begin at the same sectors: their slices lie alike, with the same members.
use Rattle.std.proofs.Common.{◌≡◌, ℕ, zero, suc, ◌+◌, ◌<◌, ◌≤◌, ◌&&◌, false, nat_lt, if◌then◌else◌, [], Option, Some, option_map, refl, sym, ap, ap₂, ◌∙◌, inl, inr, le-ltb, arith}
use Rattle.std.specs.Option.{option_and_then, option_map_or}
use Rattle.std.proofs.lemmas.Bool.{cases_lt}
use Rattle.rack.specs.Seen.{Image, RackView}
use Rattle.slice_rack.specs.Slices.{Slices, place_of}
use Rattle.md_super.specs.declared.superblock.Super.{Super}
use Rattle.pool_state.specs.declared.contents.Copied.{Copied}
use Rattle.pool_state.specs.declared.contents.State.{State}
use Rattle.log_laws.specs.Kept.{IsNoLater}
use Rattle.array_image.specs.Arrays.{first_layout, sectors_by, shape_by, shape_in}
use Rattle.array_image.specs.Places.{data_sector, slice_of}
use Rattle.array_image.specs.Stripes.{capacity}
use Rattle.array_image.specs.Supers.{is_named}
use Rattle.pool_image.specs.Disks.{Identities}
use Rattle.pool_image.specs.Drives.{Found, end_of, extent_from, extent_of, first_of, slices_from, slices_of, truth_from}
use Rattle.pool_image.specs.Meaning.{array_sectors, is_member, truth_of}
use Rattle.pool_image.specs.Replay.{Extent}
use Rattle.pool_image.proofs.Truths.{extent_found, truth_found}
use Rattle.raid_laws.specs.Raid.{Raid}
use Rattle.pool_model.specs.InService.{HasSeat, IsArranged, IsOutset}
use Rattle.pool_model.specs.Left.{NoStraySuperblockBy, IsServed}
use Rattle.pool_model.specs.Pools.{AreSlicesOf}
use Rattle.pool_model.proofs.Layers.{IsLaid, laid}

-- how many sectors an array has goes by its truth alone
pub sectors_of_truth : (f : Found) (n : ℕ) (t : Super) → truth_of f n ≡ Some t → array_sectors f n ≡ capacity (first_layout t) t.size
unfolding shape_by
sectors_of_truth f n t is = ap (λ (o : Option Super). option_map_or sectors_by (option_map (shape_by f.state (slices_of f) n) o) 0) is

-- an array's truth stands where it stood
abbrev pub HasTruths : Found → Found → Type 0
HasTruths f g =
    (n first : ℕ) (u : Super) → n < f.state.made → first_of f n ≡ Some first → truth_from f n first ≡ Some u → truth_from g n first ≡ Some u

module _ (f g : Found) (few : f.state.made ≤ 16) (has : (n : ℕ) → n < f.state.made → (u : Super) × (truth_of f n ≡ Some u)) (same : HasTruths f g) where
  low_few : (n : ℕ) → n < f.state.made → n < 16
  low_few n low = omega (arith, low, few)

  pub lies : (n : ℕ) (low : n < f.state.made) → IsLaid f n (has n low).0
  lies n low = laid f n (has n low).0 (low_few n low) (has n low).1

  stands : (n : ℕ) (low : n < f.state.made) → truth_from g n (lies n low).first ≡ Some (has n low).0
  stands n low = let lie = lies n low in same n lie.first (has n low).0 low lie.begins lie.is

  pub first_same : (n : ℕ) → n ≤ f.state.made → first_of g n ≡ first_of f n
  unfolding first_of
  first_same zero low = refl
  first_same (suc n) low =
      let less : n < f.state.made = omega (arith, low) in
      let lie = lies n less in
      ap (option_and_then (λ first. option_map end_of (extent_from g n first))) (first_same n (omega (arith, less)) ∙ lie.begins)
      ∙ ap (λ (o : Option Super). option_map end_of (option_map (λ u. record { first = lie.first; sectors = data_sector + u.size }) o)) (stands n less)
      ∙ sym (ap (option_and_then (λ first. option_map end_of (extent_from f n first))) lie.begins
      ∙ ap (λ (o : Option Super). option_map end_of (option_map (λ u. record { first = lie.first; sectors = data_sector + u.size }) o)) lie.is)

  module _ (n : ℕ) (low : n < f.state.made) where
    begins : first_of g n ≡ Some (lies n low).first
    begins = first_same n (omega (arith, low)) ∙ (lies n low).begins

    pub extent_is : extent_of f (suc n) ≡ Some (record { first = (lies n low).first; sectors = data_sector + (has n low).0.size })
    extent_is = extent_found f n (lies n low).first (has n low).0 (lies n low).begins (lies n low).is

    pub extent_same : extent_of g (suc n) ≡ extent_of f (suc n)
    extent_same = extent_found g n (lies n low).first (has n low).0 begins (stands n low) ∙ sym extent_is

    pub truth_same : truth_of g n ≡ truth_of f n
    truth_same = truth_found g n (lies n low).first (has n low).0 (low_few n low) begins (stands n low) ∙ sym (has n low).1

    pub member_same : (p : ℕ) → is_member g n p ≡ is_member f n p
    member_same p = ap (λ (o : Option Super). option_map_or (λ u. is_named u p) o false) truth_same

    pub sectors_same : array_sectors g n ≡ array_sectors f n
    sectors_same = let one = has n low in sectors_of_truth g n one.0 (truth_same ∙ one.1) ∙ sym (sectors_of_truth f n one.0 one.1)

  pub slices_like : (t : Slices) → ((p : ℕ) → g.seats p ≡ f.seats p) → g.state.made ≡ f.state.made → AreSlicesOf f t → AreSlicesOf g t
  unfolding extent_of
  slices_like t seats made slices = record {
    seats = λ p. slices.seats p ∙ sym (seats p);
    logs = λ p d seat. slices.logs p d (sym (seats p) ∙ seat);
    members = λ n p d low seat member.
        let less : n < f.state.made = omega (arith, low, made) in
        extent_same n less ∙ slices.members n p d less (sym (seats p) ∙ seat) (sym (member_same n less p) ∙ member);
    others = λ n p small none. elim (cases_lt n f.state.made) [
      | inl low ↦ slices.others n p small (ap₂ (λ k b. nat_lt n k && b) (sym made) (sym (member_same n low p)) ∙ none)
      | inr past ↦ slices.others n p small (ap (λ b. b && is_member f n p) (le-ltb n f.state.made past))
    ];
    unseated = λ k none. slices.unseated k (sym (seats (place_of k)) ∙ none);
  }

-- ---- a pool whose disks say otherwise

first_said : (f : Found) (e : Identities) (n : ℕ) → first_of (record f { identities = e }) n ≡ first_of f n
unfolding first_of
first_said f e zero = refl
first_said f e (suc n) = ap (option_and_then (λ first. option_map end_of (extent_from f n first))) (first_said f e n)

extent_said : (f : Found) (e : Identities) (k : ℕ) → extent_of (record f { identities = e }) k ≡ extent_of f k
unfolding extent_of
extent_said f e zero = refl
extent_said f e (suc n) = ap (option_and_then (extent_from f n)) (first_said f e n)

-- its slices hold the same
held_said : (f : Found) (e : Identities) → slices_of (record f { identities = e }) ≡ slices_of f
unfolding slices_of
held_said f e =
    λ i k s. option_map_or (λ (x : Extent). if nat_lt s x.sectors then slices_from f x.first k s else []) (extent_said f e (slice_of k) i) []

pub sectors_said : (f : Found) (e : Identities) (n : ℕ) → array_sectors (record f { identities = e }) n ≡ array_sectors f n
sectors_said f e n = ap (λ (c : Image). option_map_or sectors_by (shape_in f.state c n) 0) (held_said f e)

module _ (f : Found) (e : Identities) (few : f.state.made ≤ 16) (has : (n : ℕ) → n < f.state.made → (u : Super) × (truth_of f n ≡ Some u)) where
  abbrev pub said : Found
  said = record f { identities = e }

  pub has_truths : HasTruths f said
  has_truths n first u low begins is = is

  pub slices_said : (t : Slices) → AreSlicesOf f t → AreSlicesOf said t
  slices_said t slices = slices_like f said few has has_truths t (λ p. refl) refl slices

  -- with what the disks say
  pub outset_said : IsArranged f
      → ((d : ℕ) (copy : Copied) → d < f.disks.count → (e d).copied ≡ Some copy → IsNoLater f.state copy)
      → ((p d : ℕ) → f.seats p ≡ Some d → HasSeat said p d) → IsOutset said
  outset_said arranged copies seated = record {
    epoch = arranged.epoch;
    places = arranged.places;
    made = arranged.made;
    joined = arranged.joined;
    copies = copies;
    seated = seated;
    truths = λ n low. let one = arranged.truths n low in (one.0, truth_same f said few has has_truths n low ∙ one.1);
    own = λ n u low truth. arranged.own n u low (sym (truth_same f said few has has_truths n low) ∙ truth);
  }

  pub alone_said : (s : State) (i : Image) → NoStraySuperblockBy s f i → NoStraySuperblockBy s said i
  alone_said s i alone n p d first low counts seat none begins within =
      alone n p d first low counts seat (sym (member_same f said few has has_truths n low p) ∙ none)
      (sym (first_same f said few has has_truths n (omega (arith, low))) ∙ begins) within

  pub served_said : (t : Slices) (v : Raid) (y : RackView) → IsServed f t v y → IsServed said t v y
  served_said t v y served = record {
    slices = slices_said t served.slices;
    after = served.after;
    joined = served.joined;
    told = served.told;
    lasts = served.lasts;
    geometry = λ n u low truth. served.geometry n u low (sym (truth_same f said few has has_truths n low) ∙ truth);
  }
