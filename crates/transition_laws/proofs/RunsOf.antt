-- A run of a book, over losses: they are noted and settled in the run, and marked in the book.
use Rattle.std.proofs.Common.{◌≡◌, ◌⊎◌, ℕ, ◌+◌, ◌<◌, Bool, true, false, ◌&&◌, not, if◌then◌else◌, List, length, get_or, slice_get, Option, Some, None, option_map, unwrap_or, refl, sym, ap, subst, ◌∙◌, inl, inr, arith}
use Rattle.std.proofs.lemmas.Bool.{both_ways, cases_Bool, cases_lt}
use Rattle.std.proofs.lemmas.Option.{slice_get-get_or, slice_get_past}
use Rattle.rack.specs.Seen.{RackView}
use Rattle.pool_state.specs.declared.contents.State.{State}
use Rattle.array_image.specs.Arrays.{place_with}
use Rattle.array_image.specs.States.{is_current}
use Rattle.log_laws.specs.View.{names}
use Rattle.array_model.specs.declared.Seat.{Seat}
use Rattle.array_model.specs.declared.Seat.TheVariants.{Missing}
use Rattle.array_model.specs.View.{HasGeometry, has_gone, is_missing_seat, place_at, shape_of, View}
use Rattle.array_core.specs.Superblocks.{left_offset}
use Rattle.sync_laws.proofs.Adopted.{same_lists}
use Rattle.raid_laws.specs.Losing.{only_same, only_then}
use Rattle.raid_laws.specs.Missing.{marked}
use Rattle.raid_laws.specs.Moves.{IsSeated, IsSet, OnlyFailures}
use Rattle.raid_laws.specs.Raid.{gone_in, Raid}
use Rattle.raid_laws.proofs.Missing.{current_marked}
use Rattle.raid_laws.proofs.Noted.{gone_not}
use Rattle.raid_laws.proofs.Seated.{missing_of, missing_seat, place_few}
use Rattle.transition_laws.specs.Changes.{changed, failed, lacking, rewritten, seats_without}
use Rattle.transition_laws.specs.Losses.{IsRunArray, IsRunOf}
use Rattle.transition_laws.proofs.Follows.{get_without}
use Rattle.transition_laws.proofs.SettledMakes.{left_again}

-- ---- losses that are noted

-- the arrays of a pool are a run of the book that has just them
pub run_of_itself : (v : Raid) (x : RackView) → IsSet v x → IsRunOf v v
run_of_itself v x set = record {
  same = refl;
  arrays = λ n low.
      let seated = set.arrays n low in
      record {
        only = only_same (v.arrays n) (v.arrays n) refl;
        count = seated.is_array.seats;
        missing = λ k inside other.
            missing_of (slice_get (v.arrays n).seats k) (is_current v.state (place_at (v.arrays n) k)) (has_gone (v.arrays n) (place_at (v.arrays n) k)) other (seated.marks k inside);
        left = refl;
      };
}

-- so they are after more losses
pub run_loses : (d v w : Raid) → w.state ≡ v.state → ((n : ℕ) → n < v.state.made → OnlyFailures (v.arrays n) (w.arrays n))
    → ((n : ℕ) → n < v.state.made → left_offset (w.arrays n) ≡ left_offset (v.arrays n)) → IsRunOf d v → IsRunOf d w
run_loses d v w state loses left run = record {
  same = state ∙ run.same;
  arrays = λ n low.
      let at = run.arrays n low in
      let there : n < v.state.made = subst (λ (s : State). n < s.made) (sym run.same) low in
      record {
        only = only_then (d.arrays n) (v.arrays n) (w.arrays n) at.only (loses n there);
        count = at.count;
        missing = at.missing;
        left = left n there ∙ at.left;
      };
}

-- ---- the book's array with the losses marked

missing_is : (o : Option Seat) → option_map is_missing_seat o ≡ Some true → o ≡ Some Missing
missing_is None is = absurd (let bad : None ≡ Some true = is in cc)
missing_is (Some seat) is = ap Some (missing_seat seat (ap (λ o. unwrap_or o true) is))

nobody_there : (current went : Bool) → (current && not went) ≡ false → Some (not (current && not went)) ≡ Some true
nobody_there current went is = ap (λ b. Some (not b)) is

-- a seat of the book, and that of the run
seat_by : (lost current went : Bool) (o q : Option Seat) → (q ≡ o) ⊎ (q ≡ Some Missing) → option_map is_missing_seat q ≡ Some (not (current && not went))
    → (lost ≡ true → went ≡ true) → (lost ≡ false → current ≡ true → went ≡ false) → (current ≡ false → o ≡ Some Missing) → (o ≡ None → ⊥)
    → option_map (λ (seat : Seat). if lost then Missing else seat) o ≡ q
seat_by lost current went None q either marks named other past some = absurd (some refl)
seat_by true current went (Some seat) q either marks named other past some =
    sym (missing_is q (marks ∙ nobody_there current went (of current went (named refl))))
  where
    of : (c w : Bool) → w ≡ true → (c && not w) ≡ false
    of true w is = ap not is
    of false w is = refl
seat_by false false went (Some seat) q either marks named other past some = past refl ∙ sym (missing_is q marks)
seat_by false true went (Some seat) q either marks named other past some = elim either [
  | inl same ↦ sym same
  | inr lost ↦ absurd (both_ways true (let e : Some true ≡ Some false = sym (ap (option_map is_missing_seat) lost) ∙ marks ∙ ap (λ w. Some (not (not w))) (other refl refl) in ap (λ o. unwrap_or o true) e) refl)
]

module _ (d v : Raid) (lost : List ℕ) (x : RackView) (set : IsSet v x) (run : IsRunOf d v)
    (lost_is : (p : ℕ) → names lost p ≡ (is_current v.state p && gone_in v p))
    (noted : (n p : ℕ) → n < v.state.made → names lost p ≡ true → has_gone (v.arrays n) p ≡ true) (n : ℕ) (low : n < v.state.made) where
  seated : IsSeated v.state n (v.arrays n) x
  seated = set.arrays n low

  at : IsRunArray d.state (d.arrays n) (v.arrays n)
  at = run.arrays n (subst (λ (s : State). n < s.made) run.same low)

  disks : (v.arrays n).truth.raid_disks ≡ (d.arrays n).truth.raid_disks
  disks = at.only.same.geometry.disks

  same_place : (k : ℕ) → place_at (v.arrays n) k ≡ place_at (d.arrays n) k
  same_place k = ap (λ roles. unwrap_or (place_with roles.items k) 16) at.only.same.geometry.roles

  not_none : (k : ℕ) → k < (d.arrays n).truth.raid_disks → slice_get (d.arrays n).seats k ≡ None → ⊥
  not_none k inside none = beyond (d.arrays n).seats k (let count = at.count in omega (arith, inside, count)) none
    where
      beyond : (xs : List Seat) (j : ℕ) → j < length xs → slice_get xs j ≡ None → ⊥
      beyond xs j less is = let there = slice_get-get_or xs j Missing less in let bad : None ≡ Some (get_or xs j Missing) = sym is ∙ there in cc

  pub seat_same : (k : ℕ) → slice_get (seats_without lost (place_at (d.arrays n)) 0 (d.arrays n).seats) k ≡ slice_get (v.arrays n).seats k
  seat_same k =
      get_without lost (place_at (d.arrays n)) 0 k (d.arrays n).seats
      ∙ ap (λ j. option_map (λ (seat : Seat). if names lost (place_at (d.arrays n) j) then Missing else seat) (slice_get (d.arrays n).seats k)) (let e : 0 + k ≡ k = omega arith in e)
      ∙ elim (cases_lt k (d.arrays n).truth.raid_disks) [
        | inr past ↦
            ap (option_map (λ (seat : Seat). if names lost (place_at (d.arrays n) k) then Missing else seat)) (slice_get_past (d.arrays n).seats k (let count = at.count in omega (arith, count, past)))
            ∙ sym (slice_get_past (v.arrays n).seats k (let count = seated.is_array.seats in let same = disks in omega (arith, count, same, past)))
        | inl inside ↦
            let here : k < (v.arrays n).truth.raid_disks = let same = disks in omega (arith, inside, same) in
            let place = place_at (d.arrays n) k in
            let few : place_at (d.arrays n) k < 16 = subst (λ p. p < 16) (same_place k) (place_few (v.arrays n) k seated.is_array here) in
            seat_by (names lost (place_at (d.arrays n) k)) (is_current v.state (place_at (d.arrays n) k)) (has_gone (v.arrays n) (place_at (d.arrays n) k)) (slice_get (d.arrays n).seats k) (slice_get (v.arrays n).seats k)
            (at.only.seats k)
            (subst (λ p. option_map is_missing_seat (slice_get (v.arrays n).seats k) ≡ Some (not (is_current v.state p && not (has_gone (v.arrays n) p)))) (same_place k) (seated.marks k here))
            (noted n (place_at (d.arrays n) k) low)
            (λ unnamed current.
            gone_not v (place_at (d.arrays n) k) n few low
            (of (is_current v.state (place_at (d.arrays n) k)) (gone_in v (place_at (d.arrays n) k)) current (sym (lost_is (place_at (d.arrays n) k)) ∙ unnamed)))
            (λ other. at.missing k inside (subst (λ (s : State). is_current s (place_at (d.arrays n) k) ≡ false) run.same other))
            (not_none k inside)
      ]
    where
      of : (c g : Bool) → c ≡ true → (c && g) ≡ false → g ≡ false
      of true g is none = none
      of false g is none = absurd (both_ways false refl is)

  pub seats_same : seats_without lost (place_at (d.arrays n)) 0 (d.arrays n).seats ≡ (v.arrays n).seats
  seats_same = same_lists (seats_without lost (place_at (d.arrays n)) 0 (d.arrays n).seats) (v.arrays n).seats seat_same

  -- the run has the shape of the book's array so marked
  pub marked_shape : (events : ℕ) → shape_of (rewritten events (lacking lost (d.arrays n))) ≡ shape_of (v.arrays n)
  unfolding shape_of
  marked_shape events =
      let g : HasGeometry (d.arrays n).truth (v.arrays n).truth = at.only.same.geometry in
      sym (λ i. shape_of (record (rewritten events (lacking lost (d.arrays n))) {
        truth = record (d.arrays n).truth { level = g.level i; size = g.size i; raid_disks = g.disks i; roles = g.roles i; feature_map = g.features i; reshape_position = g.position i };
        seats = sym seats_same i;
      }))

  -- and after more losses it is a run of it
  pub run_array : (events : ℕ) (w : View) → OnlyFailures (v.arrays n) w → left_offset w ≡ left_offset (v.arrays n)
      → IsRunArray (marked lost d.state) (rewritten events (lacking lost (d.arrays n))) w
  run_array events w loses left =
      let one = only_then (d.arrays n) (v.arrays n) w at.only loses in
      let g = one.same.geometry in
      record {
        only = record {
          same = record {
            number = one.same.number;
            geometry = record { set = g.set; level = g.level; size = g.size; disks = g.disks; roles = g.roles; features = g.features; position = g.position };
            devices = one.same.devices;
            resync = one.same.resync;
            young = one.same.young;
          };
          seats = λ k. elim (loses.seats k) [ inl same ↦ inl (same ∙ sym (seat_same k)) | inr gone ↦ inr gone ];
        };
        count = ap length seats_same ∙ seated.is_array.seats ∙ disks;
        missing = λ k inside other.
            let here : k < (v.arrays n).truth.raid_disks = let same = disks in omega (arith, inside, same) in
            let place = place_at (d.arrays n) k in
            seat_same k
            ∙ missing_is (slice_get (v.arrays n).seats k)
            (subst (λ p. option_map is_missing_seat (slice_get (v.arrays n).seats k) ≡ Some (not (is_current v.state p && not (has_gone (v.arrays n) p)))) (same_place k) (seated.marks k here)
            ∙ nobody_there (is_current v.state place) (has_gone (v.arrays n) place)
            (elim (cases_Bool (names lost place)) [
              | inl named ↦ after_gone (is_current v.state place) (has_gone (v.arrays n) place) (noted n place low named)
              | inr unnamed ↦
                  not_current (is_current v.state place) (has_gone (v.arrays n) place)
                  (subst (λ (s : State). is_current s place ≡ false) (sym run.same) (unmarked (is_current d.state place) (names lost place) unnamed (sym (current_marked lost d.state place) ∙ other)))
            ]));
        left = left ∙ at.left ∙ sym (left_again (lacking lost (d.arrays n)) events false);
      }
    where
      after_gone : (c w : Bool) → w ≡ true → (c && not w) ≡ false
      after_gone true w is = ap not is
      after_gone false w is = refl

      not_current : (c w : Bool) → c ≡ false → (c && not w) ≡ false
      not_current true w is = absurd (both_ways true is refl)
      not_current false w is = refl

      unmarked : (c named : Bool) → named ≡ false → (c && not named) ≡ false → c ≡ false
      unmarked true named none is = absurd (both_ways (not named) is (ap not none))
      unmarked false named none is = refl

pub run_marked : (d v w : Raid) (lost : List ℕ) (events : ℕ → ℕ) (x : RackView) → IsSet v x → IsRunOf d v → ((p : ℕ) → names lost p ≡ (is_current v.state p && gone_in v p))
    → ((n p : ℕ) → n < v.state.made → names lost p ≡ true → has_gone (v.arrays n) p ≡ true) → w.state ≡ marked lost v.state
    → ((n : ℕ) → n < v.state.made → OnlyFailures (v.arrays n) (w.arrays n)) → ((n : ℕ) → n < v.state.made → left_offset (w.arrays n) ≡ left_offset (v.arrays n))
    → IsRunOf (changed (failed lost events) d) w
run_marked d v w lost events x set run lost_is noted state loses left = record {
  same = state ∙ ap (marked lost) run.same;
  arrays = λ n low.
      let there : n < v.state.made = subst (λ (s : State). n < s.made) (sym run.same) low in
      run_array d v lost x set run lost_is noted n there (events n) (w.arrays n) (loses n there) (left n there);
}
