-- The pool that disks' contents have is that of a run that brought them to rest.
use Rattle.std.proofs.Common.{◌≡◌, ℕ, ◌≤◌, Bool, true, false, is_some, List, [], Option, Some, None, inl, inr, refl, sym, ap, subst, ◌∙◌, arith}
use Rattle.std.proofs.lemmas.Bool.{both_ways, cases_lt}
use Rattle.rack.specs.Seen.{RackView}
use Rattle.slice_rack.specs.Slices.{Slices, seat_of}
use Rattle.slice_rack.specs.Sliced.{slices_of as slices_seen}
use Rattle.pool_state.specs.declared.contents.State.{State}
use Rattle.pool_state.specs.Valid.{is_valid}
use Rattle.array_image.specs.Left.{reading}
use Rattle.array_image.specs.Record.{GateAt, pending_at}
use Rattle.array_image.specs.States.{current_places}
use Rattle.array_core.proofs.Stripped.{some_same}
use Rattle.log_laws.specs.View.{LogView, left_of}
use Rattle.log_laws.specs.Opening.{Finds}
use Rattle.pool_image.specs.Disks.{Disks, Identities, Seats, disks_of, identities_of, newest, seat_of as pool_seat}
use Rattle.pool_image.specs.Drives.{Found}
use Rattle.pool_image.specs.Replay.{Standing, standing_by}
use Rattle.pool_image.proofs.Identities.{seat_inside}
use Rattle.pool_image.proofs.Rested.{none_pending, stood_by}
use Rattle.pool_scan.specs.declared.Known.{Known}
use Rattle.pool_scan.specs.Choosing.{seat_by}
use Rattle.pool_scan.specs.Scanning.{now_in}
use Rattle.pool_scan.proofs.Seated.{seat_by_is, seat_by_stands}
use Rattle.pool_scan.proofs.Valid.{valid_places}
use Rattle.pool_rest.specs.Standing.{IsLaid}
use Rattle.pool_check.specs.Drives.{AreCopied, AreDrivesOf, found_with}
use Rattle.pool_check.proofs.Meant.{drives_now, found_is}
use Rattle.raid_laws.proofs.Noted.{current_few}
use Rattle.assembler_laws.specs.Holding.{HoldPool, IsFoundOn, IsPoolOn, drives_of}

module _ (x : RackView) (known : List Known) (s : State) (t : Slices) (on : List ℕ) (l : LogView) (is_pending : Bool) (damaged : Option ℕ) where
  abbrev pub disks : Disks
  disks = disks_of x

  abbrev pub identities : Identities
  identities = identities_of disks (now_in x)

  abbrev pub seats : Seats
  seats = pool_seat s disks identities

  -- the pool of these contents
  abbrev pub g : Found
  g = found_with s seats (drives_now x s)

  module _ (f : Found) (is : IsFoundOn x known s t on l is_pending damaged f) where
    pub newest_is : newest disks identities ≡ Some s
    newest_is =
        let by = stood_by disks (now_in x) (standing_by disks (now_in x) s) is.stands.stands in
        by.1 ∙ ap Some (sym (ap (λ (z : Standing). z.state) by.2))

    -- nothing is pending
    pub idle : (standing_by disks (now_in x) s).targets ≡ []
    idle = none_pending (current_places s) (standing_by disks (now_in x) s).logs
        (none_of (pending_at (current_places s) (standing_by disks (now_in x) s).logs) (sym is.stands.pending ∙ is.rested))
      where
        none_of : (o : Option GateAt) → is_some o ≡ false → o ≡ None
        none_of None none = refl
        none_of (Some a) none = absurd (both_ways true none refl)

    pub same : g ≡ f
    same = some_same g f (sym (found_is x s seats newest_is idle (λ p. refl)) ∙ is.found_is)

    pub found_drives : AreDrivesOf x f.seats (drives_of f)
    found_drives = subst (λ (k : Found). AreDrivesOf x k.seats (drives_of k)) same (record {
      told = λ p d seat. is.steady.told d (seat_inside s disks identities p d seat);
      sectors = λ p d seat. refl;
      contents = λ p d seat u inside unspent. refl;
      tables = λ p d seat. refl;
    })

    pub found_copied : AreCopied known f.seats (drives_of f)
    found_copied = subst (λ (k : Found). AreCopied known k.seats (drives_of k)) same
        (record { copied = λ p d seat. is.scan.copied d (seat_inside s disks identities p d seat) })

  module _ (f : Found) (laid : IsLaid x known s t on) (valid : is_valid s 0 ≡ true) (whole : damaged ≡ None)
      (is : IsFoundOn x known s t on l is_pending damaged f) where
    seats_same : (p : ℕ) → seats p ≡ seat_of t p
    seats_same p = sym (seat_by_is disks identities known is.scan s p) ∙ elim (cases_lt p 16) [
      | inl few ↦ sym (laid.seats p few)
      | inr past ↦ none (seat_by s known p) refl past ∙ sym (laid.beyond p past)
    ]
      where
        none : (o : Option ℕ) → seat_by s known p ≡ o → 16 ≤ p → o ≡ None
        none None seat past = refl
        none (Some d) seat past =
            let few = current_few s p (valid_places s 0 valid).1 (seat_by_stands s known p d seat).2 in
            absurd (omega (arith, few, past))

    pub found_holds : HoldPool s t x l f
    found_holds = record {
      steady = is.steady;
      pool = subst (λ (k : Found). IsPoolOn s t x k) (same f is) (record {
        state = refl;
        seats = seats_same;
        chosen = λ p. refl;
        disks = refl;
        contents = λ p d u seat inside. refl;
        identities = λ p d seat. refl;
      });
      log = record {
        on = on;
        places = laid.places;
        is_pending = is_pending;
        finds = subst (λ o. Finds l on (left_of on []) is_pending o (reading (slices_seen t x))) whole is.finds;
        none = is.stands.targets ∙ idle f is;
      };
      sound = is.sound;
    }
