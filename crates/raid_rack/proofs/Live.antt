-- Calls in which no disk refuses one spend no sector, as long as numbers aren't used up.
use Rattle.std.proofs.Common.{◌≡◌, ℕ, ◌<◌, Bool, true, false, ◌==◌, ◌&&◌, ◌||◌, not, List, slice_get, Option, Some, None, option_map, unwrap_or, refl, sym, ap, ap₂, subst, ◌∙◌, inl, inr, arith}
use Rattle.std.specs.List.{list_any, range_with_len}
use Rattle.std.proofs.lemmas.Bool.{and_from, and_parts, both_ways, cases_Bool}
use Rattle.std.proofs.lemmas.Option.{slice_get_within}
use Rattle.arrayvec.specs.ArrayVec.{ArrayVec}
use Rattle.rack.specs.Seen.{RackView}
use Rattle.array_image.specs.Arrays.{Shape, place_with}
use Rattle.array_image.specs.Spent.{spent_by}
use Rattle.array_image.specs.States.{is_current}
use Rattle.array_model.specs.declared.Seat.{Seat}
use Rattle.array_model.specs.declared.Seat.TheVariants.{Whole, Missing, Rebuilding}
use Rattle.array_model.specs.View.{View, HasFault, HasGeometry, has_gone, is_missing_seat, place_at, present, shape_of, spent_in}
use Rattle.array_core.specs.Seats.{names}
use Rattle.sync_laws.proofs.Adopted.{same_lists}
use Rattle.raid_rack.specs.declared.arrays.RaidRack.{RaidRack}
use Rattle.raid_rack.specs.AllRuns.{AreCalls}
use Rattle.raid_laws.specs.Laws.{live_parts}
use Rattle.raid_laws.specs.Moves.{AreCaused, IsHeeded, IsSet, KeepsArrays}
use Rattle.raid_laws.specs.Raid.{Raid, gone_in, is_empty, is_left, is_failed, is_used_up, live_of}
use Rattle.raid_rack.specs.RaidRack.{IsFit, arrays_in, raid_in, slices_seen}
use Rattle.raid_laws.proofs.Over.{not_false, or_from, or_parts, used_still}
use Rattle.raid_laws.proofs.Ranges.{any_wider}
use Rattle.raid_laws.proofs.Whole.{heeded_gone}

-- an array's shape goes by its geometry and its seats
shape_same : (u w : View) → HasGeometry u.truth w.truth → w.seats ≡ u.seats → shape_of w ≡ shape_of u
unfolding shape_of
shape_same u w g seats =
    λ i. shape_of (record u {
      truth = record u.truth { feature_map = g.features i; level = g.level i; size = g.size i; raid_disks = g.disks i; roles = g.roles i; reshape_position = g.position i };
      seats = seats i;
    })

missing_seat : (o : Option Seat) → option_map is_missing_seat o ≡ Some true → o ≡ Some Missing
missing_seat None is = absurd (let bad : None ≡ Some true = is in cc)
missing_seat (Some Missing) is = refl
missing_seat (Some Whole) is = absurd (let bad : Some false ≡ Some true = is in cc)
missing_seat (Some (Rebuilding to)) is = absurd (let bad : Some false ≡ Some true = is in cc)

not_current : (current gone : Bool) → gone ≡ false → Some true ≡ Some (not (current && not gone)) → current ≡ false
not_current false gone none is = refl
not_current true true none is = absurd (both_ways true none refl)
not_current true false none is = absurd (let bad : Some true ≡ Some false = is in cc)

module _ (v w : Raid) (a b : RackView) (before : IsSet v a) (after : IsSet w b) (heeded : IsHeeded w) (keeps : KeepsArrays v w)
    (caused : AreCaused v w a b) (made : w.state.made ≡ v.state.made)
    -- whoever went in an array went in each
    (each : (n p : ℕ) → n < v.state.made → gone_in v p ≡ true → has_gone (v.arrays n) p ≡ true)
    (quiet : (place : ℕ) → HasFault a b place → ⊥) where
  left_still : (p : ℕ) → is_left v p ≡ true → is_left w p ≡ true
  left_still p was = elim (cases_Bool (is_left w p)) [ inl still ↦ still | inr lost ↦ absurd (quiet p (caused.cause p was lost)) ]

  -- a place that isn't current after the calls was lost before them
  lost_before : (n p : ℕ) → n < v.state.made → is_current w.state p ≡ false → (is_current v.state p && not (has_gone (v.arrays n) p)) ≡ false
  lost_before n p low off = elim (cases_Bool (is_current v.state p)) [
    | inr none ↦ ap (λ c. c && not (has_gone (v.arrays n) p)) none
    | inl current ↦ elim (cases_Bool (gone_in v p)) [
      | inl gone ↦ ap₂ (λ c g. c && not g) current (each n p low gone)
      | inr here ↦
          let still = left_still p (and_from (is_current v.state p) (not (gone_in v p)) current (ap not here)) in
          absurd (both_ways (is_current w.state p) off (and_parts (is_current w.state p) (not (gone_in w p)) still).0)
    ]
  ]

  seat_still : (n k : ℕ) → n < v.state.made → slice_get (w.arrays n).seats k ≡ slice_get (v.arrays n).seats k
  seat_still n k low = elim ((keeps n low).seats k) [
    | inl same ↦ same
    | inr lost ↦
        let there : n < w.state.made = subst (λ m. n < m) (sym made) low in
        let now = after.arrays n there in
        let was = before.arrays n low in
        let geometry = (keeps n low).same.geometry in
        let inside = slice_get_within (w.arrays n).seats k Missing lost in
        let seats = now.is_array.seats in
        let disks = geometry.disks in
        let roles : place_at (w.arrays n) k ≡ place_at (v.arrays n) k = ap (λ (r : ArrayVec ℕ). unwrap_or (place_with r.items k) 16) geometry.roles in
        let off = not_current (is_current w.state (place_at (w.arrays n) k)) (has_gone (w.arrays n) (place_at (w.arrays n) k))
        (ap (λ ps. names ps (place_at (w.arrays n) k)) (heeded n there))
        (sym (ap (option_map is_missing_seat) lost) ∙ now.marks k (omega (arith, inside, seats))) in
        lost
        ∙ sym (missing_seat (slice_get (v.arrays n).seats k)
        (was.marks k (omega (arith, inside, seats, disks))
        ∙ ap (λ c. Some (not c)) (lost_before n (place_at (v.arrays n) k) low (subst (λ p. is_current w.state p ≡ false) roles off))))
  ]

  pub live_still : is_used_up w ≡ false → (n y : ℕ) → n < v.state.made → live_of v n y → live_of w n y
  live_still fresh n y low live =
      let parts = live_parts v n y live in
      let goes = or_parts (is_empty v) (is_used_up v || (present (v.arrays n).seats == 0)) parts.0 in
      let rest = or_parts (is_used_up v) (present (v.arrays n).seats == 0) goes.1 in
      let seats = same_lists (w.arrays n).seats (v.arrays n).seats (λ k. seat_still n k low) in
      let some = any_wider (is_left v) (is_left w) 0 16 (λ p from below is. left_still p is) (not_false (list_any (is_left v) (range_with_len 0 16)) goes.0) in
      let same = (keeps n low).same in
      or_from (is_failed w n) (spent_in (w.arrays n) y)
      (or_from (is_empty w) (is_used_up w || (present (w.arrays n).seats == 0)) (ap not some)
      (or_from (is_used_up w) (present (w.arrays n).seats == 0) fresh (ap (λ (s : List Seat). present s == 0) seats ∙ rest.1)))
      (ap₂ (λ (shape : Shape) (resync : ℕ). spent_by shape resync y) (shape_same (v.arrays n) (w.arrays n) same.geometry seats) same.resync ∙ parts.1)

-- ---- calls of a rack in a row

module _ {R : Type 0} (seen : R → RackView) (runs : R → R → Type 0) (x y : RaidRack R) (kept : AreCalls seen runs x y) where
  pub runs_unused : is_used_up (raid_in y) ≡ false → is_used_up (raid_in x) ≡ false
  runs_unused fresh =
      let book = kept.1.book in
      used_still (raid_in x) (raid_in y) kept.1.number book.epoch book.same.made kept.1.events fresh

  pub runs_live : IsFit (arrays_in x) (slices_seen seen x) → IsFit (arrays_in y) (slices_seen seen y)
      → ((place : ℕ) → HasFault (slices_seen seen x) (slices_seen seen y) place → ⊥) → is_used_up (raid_in y) ≡ false
      → (n z : ℕ) → n < (raid_in x).state.made → live_of (raid_in x) n z → live_of (raid_in y) n z
  runs_live before after quiet fresh =
      live_still (raid_in x) (raid_in y) (slices_seen seen x) (slices_seen seen y) before.running.set after.running.set after.heeded kept.2.arrays kept.1.caused
      kept.1.book.same.made
      (λ n p low gone. absurd (both_ways (gone_in (raid_in x) p) (heeded_gone (raid_in x) before.heeded p) gone))
      quiet fresh
