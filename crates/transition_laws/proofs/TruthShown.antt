-- Where an array's superblocks say its truth, contents that a stop leaves say it.
use Rattle.std.proofs.Common.{◌≡◌, ◌≢◌, ℕ, ◌<◌, Bool, true, false, ◌==◌, ◌&&◌, not, if◌then◌else◌, slice_get, Option, Some, None, option_map, unwrap_or, sym, ap, subst, ◌∙◌, inl, inr, eqb-true, eq-eqb, arith}
use Rattle.std.proofs.lemmas.Bool.{both_ways, cases_Bool}
use Rattle.std.specs.List.{list_any, range_with_len}
use Rattle.rack.specs.Values.{Values}
use Rattle.rack.specs.Seen.{Image, RackView}
use Rattle.md_super.specs.declared.superblock.Super.{Super}
use Rattle.array_image.specs.Arrays.{replayed}
use Rattle.array_image.specs.Left.{Picks}
use Rattle.array_image.specs.Places.{place_of, super_sector}
use Rattle.array_image.specs.SoundArray.{array_fields}
use Rattle.array_image.specs.States.{current_places, is_current}
use Rattle.array_image.specs.Supers.{is_super_of, only_if, super_in, super_of, truth_in}
use Rattle.log_laws.specs.View.{names}
use Rattle.log_laws.proofs.Kept.{stands_of}
use Rattle.array_model.specs.declared.Seat.TheVariants.{Missing}
use Rattle.array_model.specs.Members.{slice_on}
use Rattle.array_model.specs.View.{is_missing_seat, place_at, View}
use Rattle.array_model.proofs.Renewed.{current_of, leads}
use Rattle.array_core.specs.TruthHeld.{HoldTruth, SaysTruth}
use Rattle.raid_laws.specs.Moves.{IsHeeded, IsSet}
use Rattle.raid_laws.specs.Raid.{Raid}
use Rattle.raid_laws.proofs.Ranges.{any_none, any_some}
use Rattle.raid_laws.proofs.Whole.{heeded_gone}
use Rattle.transition_laws.specs.Holds.{Promise, Stands}

-- what passes was there
passed : (passes : Super → Bool) (o : Option Super) (w : Super) → only_if passes o ≡ Some w → o ≡ Some w
passed passes None w is = cc
passed passes (Some y) w is = of (passes y) is
  where
    of : (b : Bool) → (if b then Some y else None) ≡ Some w → Some y ≡ Some w
    of true same = same
    of false none = cc

module _ (v : Raid) (x : RackView) (n : ℕ) (set : IsSet v x) (heeded : IsHeeded v) (low : n < v.state.made) (held : HoldTruth (v.arrays n) x) (p : Promise) (vals : ℕ → ℕ → Values)
    (stands : Stands v v p vals x) (live : p.live n ≡ true) (c : Image) (picks : Picks x c) where
  abbrev u : View
  u = v.arrays n

  there : (k : ℕ) → k < (v.arrays n).truth.raid_disks → is_current v.state (place_at (v.arrays n) k) ≡ true → slice_get (v.arrays n).seats k ≢ Some Missing
  there k inside current gone =
      let marks : Some true ≡ Some false =
      sym (ap (option_map is_missing_seat) gone) ∙ (set.arrays n low).marks k inside
      ∙ ap (λ b. Some (not (b && not (names (v.arrays n).went (place_at (v.arrays n) k))))) current
      ∙ ap (λ ps. Some (not (not (names ps (place_at (v.arrays n) k))))) (heeded n low) in
      both_ways true (ap (λ o. unwrap_or o true) marks) (λ i. true)

  -- a member's
  own : (k : ℕ) (w : Super) → k < (v.arrays n).truth.raid_disks → is_current v.state (place_at (v.arrays n) k) ≡ true
      → super_in v.state (replayed x.sectors c) (v.arrays n).number (place_at (v.arrays n) k) ≡ Some w → array_fields w ≡ array_fields (v.arrays n).truth
  own k w inside current is =
      let d = slice_on u k in
      let has = held k inside (there k inside current) in
      let read : replayed x.sectors c d super_sector ≡ c d super_sector = stands.log.quiet c (stands_of c picks) d super_sector (heeded_gone v heeded (place_of d)) in
      let says : SaysTruth u.truth (place_of d) (c d super_sector) = has.says (c d super_sector) (picks.picks d super_sector has.live) in
      let same : Some says.own ≡ Some w = sym says.reads ∙ sym (ap super_of read) ∙ passed (is_super_of v.state.pool.0 v.state.extent _ u.number (place_at u k)) (super_of (replayed x.sectors c d super_sector)) w is in
      ap array_fields (sym (ap (λ o. unwrap_or o w) same)) ∙ says.same

  on_place : (q : ℕ) (w : Super) → is_current v.state q ≡ true → super_in v.state (replayed x.sectors c) n q ≡ Some w → array_fields w ≡ array_fields (v.arrays n).truth
  on_place q w current is =
      let number = (set.arrays n low).number in
      let test : ℕ → Bool = λ k. place_at u k == q in
      elim (cases_Bool (list_any test (range_with_len 0 u.truth.raid_disks))) [
        | inl some ↦
            let at = any_some test 0 u.truth.raid_disks some in
            let high = at.2 in
            let here : place_at u at.0 ≡ q = eqb-true (place_at u at.0) q at.3 in
            own at.0 w (omega (arith, high)) (ap (is_current v.state) here ∙ current)
            (ap (super_in v.state (replayed x.sectors c) (v.arrays n).number) here ∙ ap (λ m. super_in v.state (replayed x.sectors c) m q) number ∙ is)
        | inr none ↦
            absurd (none_some (sym (subst (λ m. super_in v.state (replayed x.sectors c) m q ≡ None) number
            ((stands.images c picks n live low).alone q current
            (λ k inside here. both_ways (test k) (any_none test 0 u.truth.raid_disks k none (omega arith) (omega (arith, inside))) (eq-eqb (place_at u k) q here))))
            ∙ is))
      ]
    where
      none_some : {y : Super} → None ≡ Some y → ⊥
      none_some e = cc

  pub truth_shown : (t : Super) → truth_in v.state (replayed x.sectors c) n ≡ Some t → array_fields t ≡ array_fields (v.arrays n).truth
  unfolding truth_in
  truth_shown t is =
      let lead = leads (super_in v.state (replayed x.sectors c) n) (current_places v.state) t is in
      on_place lead.place t (current_of v.state lead.place lead.among) lead.is
