-- What images leave to resync after a clean end.
use Rattle.std.proofs.Common.{◌≡◌, ◌≢◌, ◌⊎◌, ℕ, ◌<◌, ◌≤◌, Bool, true, false, ◌==◌, ◌&&◌, not, if◌then◌else◌, [], length, slice_get, unwrap_or, Option, Some, None, option_map, refl, sym, ap, subst, ◌∙◌, inl, inr, eq-eqb, eqb-true, lt-ltb, arith}
use Rattle.std.proofs.lemmas.Bool.{cases_Bool, cases_lt, both_ways}
use Rattle.std.specs.List.{list_any, range_with_len}
use Rattle.std.specs.Option.{option_map_or}
use Rattle.rack.specs.Values.{Values}
use Rattle.rack.specs.Seen.{Image, RackView, IsLive, SameRack}
use Rattle.pool_state.specs.declared.contents.State.{State}
use Rattle.md_super.specs.declared.superblock.Super.{Super}
use Rattle.array_image.specs.Left.{IsLeft}
use Rattle.array_image.specs.Places.{member_slice, super_sector}
use Rattle.array_image.specs.Arrays.{Shape}
use Rattle.array_image.specs.States.{is_current}
use Rattle.array_image.specs.Supers.{is_super_of, only_if, super_in, super_of, truth_in}
use Rattle.array_model.specs.declared.Seat.{Seat}
use Rattle.array_model.specs.declared.Seat.TheVariants.{Missing}
use Rattle.array_model.specs.View.{View, has_gone, is_missing_seat, place_at, shape_of}
use Rattle.array_model.specs.Says.{ArrayInvariant}
use Rattle.array_model.specs.Members.{slice_on}
use Rattle.array_model.proofs.Keeping.{live_after, live_on, logs_of}
use Rattle.array_core.specs.Superblocks.{is_settled, left_offset, member_super}
use Rattle.array_core.proofs.Opened.{current_is, truth_leads}
use Rattle.raid_rack.specs.declared.arrays.Arrays.{Arrays}
use Rattle.raid_laws.specs.Raid.{AreLive, is_failed, held_in, spent_of, InvariantInCall}
use Rattle.raid_laws.specs.Moves.{IsSeated}
use Rattle.raid_laws.specs.Cleaning.{CleansAll, HasSupersOn, IsEnded, LeavesItsRows, as_it_was, restated}
use Rattle.raid_rack.specs.RaidRack.{IsFit, raid_by}
use Rattle.raid_laws.specs.Runs.{RaidRuns}
use Rattle.raid_rack.proofs.Ended.{none_past}
use Rattle.raid_laws.proofs.Ranges.{any_some, any_none}
use Rattle.raid_laws.proofs.Seated.{place_few}

-- what passes a test
only_some : {X : Type 0} (passes : X → Bool) (o : Option X) (x : X) → only_if passes o ≡ Some x → o ≡ Some x
only_some passes None x is = is
only_some passes (Some y) x is =
    let Goal : Bool → Type 0 = λ b. (if b then Some y else None) ≡ Some x → Some y ≡ Some x in
    let goal : Goal (passes y) = elim (passes y) as Goal [ true ↦ λ same. same | false ↦ λ none. absurd (let bad : None ≡ Some x = none in cc) ] in
    goal is

-- a current member that hasn't gone isn't missing
there : (o : Option Seat) (current went : Bool) → current ≡ true → went ≡ false → option_map is_missing_seat o ≡ Some (not (current && not went)) → o ≢ Some Missing
there o false went is left marks missing = both_ways false refl is
there o true true is left marks missing = both_ways true left refl
there o true false is left marks missing =
    both_ways true (ap (λ (x : Option Bool). unwrap_or x true) (sym (ap (option_map is_missing_seat) missing) ∙ marks)) refl

module _ (s : State) (n : ℕ) (v : View) (durable : Shape) (vals : ℕ → Values) (spent : ℕ → Bool) (a b : RackView) (seated : IsSeated s n v b) (fresh : v.went ≡ [])
    (holds : ArrayInvariant s durable v vals spent b) (stays : SameRack a b)
    (live : (k : ℕ) → k < v.truth.raid_disks → slice_get v.seats k ≢ Some Missing → IsLive a b (slice_on v k) super_sector)
    (supers : HasSupersOn v a b) (r : Image) (left : IsLeft b r) where
  -- the superblock of a member that is left
  on_member : (k : ℕ) (u : Super) → k < v.truth.raid_disks → is_current s (place_at v k) ≡ true → super_in s r v.number (place_at v k) ≡ Some u
      → u.resync_offset ≡ v.truth.resync_offset
  on_member k u low current is =
      let d = slice_on v k in
      let seat = there (slice_get v.seats k) (is_current s (place_at v k)) (has_gone v (place_at v k)) current
      (ap (λ ps. list_any (λ q. q == place_at v k) ps) fresh) (seated.marks k low) in
      let alive = live k low seat in
      let c = left.0 in
      let picks = left.1 in
      let read : r d super_sector ≡ c d super_sector = left.2 d super_sector ∙ holds.closed fresh c (logs_of c picks) (place_at v k) super_sector in
      let own = supers k low seat alive (c d super_sector) (picks.picks d super_sector (live_after stays alive)) in
      let same : Some u ≡ Some (member_super v.truth own.slot) =
      sym (only_some (is_super_of s.pool.0 s.extent (length s.drives.items) v.number (place_at v k)) (super_of (r d super_sector)) u is)
      ∙ ap super_of read ∙ own.bytes.reads in
      ap (λ (o : Option Super). option_map_or (λ (t : Super). t.resync_offset) o 0) same

  on_place : (p : ℕ) (u : Super) → is_current s p ≡ true → super_in s r v.number p ≡ Some u → u.resync_offset ≡ v.truth.resync_offset
  on_place p u current is =
      let test : ℕ → Bool = λ k. place_at v k == p in
      elim (cases_Bool (list_any test (range_with_len 0 v.truth.raid_disks))) [
        | inl some ↦
            let at = any_some test 0 v.truth.raid_disks some in
            let high = at.2 in
            let here : p ≡ place_at v at.0 = sym (eqb-true (place_at v at.0) p at.3) in
            on_member at.0 u (omega (arith, high)) (subst (λ q. is_current s q ≡ true) here current) (subst (λ q. super_in s r v.number q ≡ Some u) here is)
        | inr none ↦
            let nothing = holds.alone r left p current
            (λ k low here. both_ways (test k) (any_none test 0 v.truth.raid_disks k none (omega arith) (omega (arith, low))) (eq-eqb (place_at v k) p here)) in
            absurd (let bad : None ≡ Some u = sym nothing ∙ is in cc)
      ]

  -- so the truth leaves the rows that the run has left
  pub image_rows : (u : Super) → truth_in s r v.number ≡ Some u → u.resync_offset ≡ v.truth.resync_offset
  image_rows u is =
      let leads = truth_leads s r v.number u is in
      let at = current_is s r v.number leads.at u leads.here in
      on_place leads.at u at.0 at.1

-- ---- after a clean end

pub clean_images : (p q : ℕ → Bool) (a b : Arrays) (x y : RackView) → IsFit a x → IsFit b y → CleansAll (raid_by a) (raid_by b) x y → RaidRuns p q (raid_by a) (raid_by b) x y
    → LeavesItsRows (raid_by a) (raid_by b) x y
clean_images p q a b x y fit after cleans runs none n told goes unsettled r left u truth =
    let v = raid_by a in
    let w = raid_by b in
    let low = by (cases_lt n v.state.made) in
    let made : n < w.state.made = subst (λ k. n < k) (sym cleans.moves.book.same.made) low in
    let seated = after.running.set.arrays n made in
    let stood = (runs.moments.told n told).stood goes in
    let was = told.slices (cleans.moves.still n low goes) in
    rows seated stood was ((cleans.ends none).ended n low (lt-ltb n v.state.made low))
  where
    by : (n < (raid_by a).state.made) ⊎ ((raid_by a).state.made ≤ n) → n < (raid_by a).state.made
    by (inl low) = low
    by (inr past) =
        absurd (both_ways (is_failed (raid_by b) n) goes
        (none_past b n after.running.count (let same = cleans.moves.book.same.made in omega (arith, past, same))))

    rows : IsSeated (raid_by b).state n ((raid_by b).arrays n) y
        → InvariantInCall (raid_by b).state (shape_of ((raid_by b).arrays n)) (held_in (raid_by b) y n) (spent_of (raid_by b) n) (λ place. false) (raid_by b) y n
        → AreLive (raid_by a).state.made x → IsEnded ((raid_by a).arrays n) ((raid_by b).arrays n) x y
        → u.resync_offset ≡ left_offset ((raid_by a).arrays n)
    rows seated stood was (as_it_was is same) = absurd (both_ways (is_settled ((raid_by a).arrays n)) unsettled is)
    rows seated stood was (restated is same supers) =
        let v = raid_by a in
        let z = (raid_by b).arrays n in
        let low = by (cases_lt n v.state.made) in
        let stays = cleans.moves.stays in
        image_rows (raid_by b).state n z (shape_of z) (held_in (raid_by b) y n) (spent_of (raid_by b) n) x y seated
        (after.heeded n (subst (λ k. n < k) (sym cleans.moves.book.same.made) low)) stood.holds stays
        (λ k below seat.
        let sectors = seated.slices.sectors k below seat in
        live_on fit.running.set.lasting stays
        (subst (λ j. IsLive x x (member_slice (place_at z k) j) super_sector) (sym seated.number)
        (was n (place_at z k) super_sector low (place_few z k seated.is_array below)
        (subst (λ j. super_sector < x.sectors (member_slice (place_at z k) j)) seated.number
        (subst (λ i. super_sector < i) (stays.sectors (slice_on z k)) (omega (arith, sectors)))))))
        supers r left u (subst (λ j. truth_in (raid_by b).state r j ≡ Some u) (sym seated.number) truth)
        ∙ ap (λ (t : Super). t.resync_offset) same.truth
