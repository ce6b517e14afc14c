-- The arrays of a sound pool whose slices lie inside small disks: what holds of their truths, and that they reach past their first extents' start.
use Rattle.std.proofs.Common.{◌≡◌, ℕ, ◌+◌, ◌<◌, ◌≤◌, ◌^◌, true, false, nat_lt, if◌then◌else◌, [], Option, Some, None, refl, sym, ap, subst, ◌∙◌, arith}
use Rattle.std.specs.Option.{option_map_or}
use Rattle.std.proofs.lemmas.Option.{none-some}
use Rattle.rack.specs.Seen.{Image, RackView}
use Rattle.slice_rack.specs.Slices.{Slices, seat_of as slice_seat, sectors_of}
use Rattle.md_super.specs.declared.superblock.Super.{Super}
use Rattle.array_image.specs.Arrays.{first_layout}
use Rattle.array_image.specs.Places.{data_sector, member_slice, place_of, super_sector}
use Rattle.array_image.specs.States.{is_current}
use Rattle.array_image.specs.Supers.{is_named, super_in}
use Rattle.array_core.proofs.Opened.{current_is, super_place, super_truth, truth_leads}
use Rattle.array_core.proofs.Truths.{Truth, truth_facts}
use Rattle.array_image.specs.Stripes.{capacity}
use Rattle.array_model.specs.View.{HasGeometry, View, sectors_of as sectors_of_view}
use Rattle.array_model.proofs.Noting.{first_is}
use Rattle.lvm_group.specs.Runs.{data_start}
use Rattle.pool_image.specs.Disks.{Disks}
use Rattle.pool_image.specs.Drives.{Found, found, slices_from, slices_of}
use Rattle.pool_image.specs.Meaning.{array_sectors, is_member, truth_of}
use Rattle.pool_image.specs.Replay.{Extent, Standing}
use Rattle.pool_image.proofs.Identities.{seat_inside}
use Rattle.pool_image.proofs.Truths.{extent_found}
use Rattle.pool_check.proofs.Valid.{valid_fit}
use Rattle.raid_laws.specs.Frames.{Frame}
use Rattle.raid_laws.specs.Raid.{Raid}
use Rattle.raid_laws.proofs.Frames.{geometry_frame}
use Rattle.pool_model.specs.Left.{HaveSlices}
use Rattle.pool_model.specs.Pools.{IsSoundPool}
use Rattle.pool_model.proofs.Absent.{capacity_least}
use Rattle.pool_model.proofs.Alike.{sectors_of_truth}
use Rattle.pool_model.proofs.Copies.{IsKnown}
use Rattle.pool_model.proofs.Extents.{is as truth_now, made_same, truth_is}
use Rattle.pool_model.proofs.Found.{IsFound, found_is, some_made, valid}
use Rattle.pool_model.proofs.Grouped.{truth_long}
use Rattle.pool_model.proofs.Layers.{IsLaid, laid, nothing_super}
use Rattle.pool_model.proofs.Known.{says_pool}
use Rattle.pool_model.proofs.Rested.{found_now, now, stood}
use Rattle.pool_model.proofs.Said.{AreInside, SaysPool}
use Rattle.pool_model.proofs.Spare.{is_array, whole_view}
use Rattle.pool_model.proofs.Still.{slices_now, sound_now}

-- an array's sectors are those that its truth had in the pool
pub sectors_kept : (f : Found) (n : ℕ) (u : Super) (v : View) → truth_of f n ≡ Some u → HasGeometry u v.truth → sectors_of_view v ≡ array_sectors f n
sectors_kept f n u v is same = ap (λ (k : Frame). capacity k.layout k.size) (geometry_frame u v.truth same) ∙ sym (sectors_of_truth f n u is)

module _ (f : Found) (i : Image) (g : Found) (t : Slices) (found_at : found f.disks i ≡ Some g) (sound : IsSoundPool g) (slices : HaveSlices g t)
    (inside : AreInside f t) (small : (d : ℕ) → d < f.disks.count → f.disks.sectors d < 2 ^ 48) where
  is : IsFound g × (g.disks ≡ f.disks)
  is = found_is f.disks i g found_at

  module _ (n : ℕ) (low : n < g.state.made) (w : Super) (truth : truth_of g n ≡ Some w) where
    few : n < 16
    few = (let most = (some_made g is.0).1 in omega (arith, low, most))

    lie : IsLaid g n w
    lie = laid g n w few truth

    -- the truth is the superblock of a current place
    place : (p : ℕ) × (is_current g.state p ≡ true) × (super_in g.state (slices_from g lie.first) n p ≡ Some w)
    place =
        let leads = truth_leads g.state (slices_from g lie.first) n w lie.is in
        let at = current_is g.state (slices_from g lie.first) n leads.at w leads.here in
        (leads.at, at.0, at.1)

    -- which is a member, with a slice of the array's size
    size_small : w.size < 2 ^ 48
    size_small = by (g.seats p) refl
      where
        p : ℕ
        p = place.0

        place_is : place_of (member_slice p n) ≡ p
        place_is = let inside = few in omega (arith, inside)

        member : is_member g n p ≡ true
        member =
            ap (λ (o : Option Super). option_map_or (λ z. is_named z p) o false) truth
            ∙ ap (is_named w) (sym (super_place g.state (slices_from g lie.first) n p w place.2))
            ∙ sound.own n w low truth

        by : (o : Option ℕ) → g.seats p ≡ o → w.size < 2 ^ 48
        by None free =
            absurd (none-some w
            (sym (nothing_super g.state (slices_from g lie.first) n p
            (ap (λ q. option_map_or (λ d. if nat_lt (lie.first + super_sector) (g.disks.sectors d) then g.contents d (lie.first + super_sector) else []) (g.seats q) []) place_is
            ∙ ap (λ o. option_map_or (λ d. if nat_lt (lie.first + super_sector) (g.disks.sectors d) then g.contents d (lie.first + super_sector) else []) o []) free))
            ∙ place.2))
        by (Some d) seat =
            let lies : sectors_of t (member_slice p n) ≡ data_sector + w.size =
            ap (λ (o : Option Extent). option_map_or (λ e. e.sectors) o 0)
            (sym (slices.members n p d low seat member) ∙ extent_found g n lie.first w lie.begins lie.is) in
            let fits = inside (member_slice p n) d (ap (slice_seat t) place_is ∙ slices.seats p d seat) (omega (arith, lies)) in
            let most = small d (subst (λ (k : Disks). d < k.count) is.1 (seat_inside g.state g.disks g.identities p d (sym (is.0.seats p) ∙ seat))) in
            omega (arith, lies, fits, most)

    pub facts : Truth w
    facts =
        let good = valid g is.0 in
        let fit = valid_fit g.state good.0 good.1 in
        truth_facts w (super_truth g.state (slices_from g lie.first) n place.0 fit.chunks w place.2 fit.extent fit.few size_small)

    -- it has the sectors before its first extent
    pub reaches : data_start ≤ array_sectors g n
    reaches =
        let sectors = sectors_of_truth g n w truth in
        let layout = first_is (whole_view n w) (is_array n w few facts) in
        let least = capacity_least (first_layout w) w.size layout.least in
        let long = truth_long g.state (slices_of g) n w truth in
        omega (arith, sectors, least, long)

-- ---- a pool that is served

module _ (f : Found) (t : Slices) (v : Raid) (y : RackView) (i : Image) (known : IsKnown f t v y i) (small : (d : ℕ) → d < f.disks.count → f.disks.sectors d < 2 ^ 48)
    (n : ℕ) (low : n < f.state.made) where
  abbrev rest : Standing
  rest = stood f t v y i known

  abbrev said : SaysPool f t v.state i
  said = says_pool f t v y i known

  made : n < v.state.made
  made = (let same = made_same f t v.state i rest said in omega (arith, low, same))

  pub facts_known : Truth (truth_now f t v.state i rest said n low)
  facts_known =
      facts f i (now f t v y i known) t (found_now f t v y i known) (sound_now f t v.state i rest said) (slices_now f t v.state i rest said) known.left.inside small
      n made (truth_now f t v.state i rest said n low) (truth_is f t v.state i rest said n low)

  pub sectors_known : sectors_of_view (v.arrays n) ≡ array_sectors f n
  sectors_known = let one = known.is.truths n low in sectors_kept f n one.0 (v.arrays n) one.1 (known.served.geometry n one.0 low one.1)
