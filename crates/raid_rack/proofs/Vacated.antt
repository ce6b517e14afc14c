-- A place whose drive is missing has given its disk up: arrays stand over the slices that are left as they did.
use Rattle.std.proofs.Common.{◌≡◌, ◌≢◌, ℕ, ◌+◌, ◌<◌, Bool, false, ◌&&◌, not, if◌then◌else◌, List, slice_get, Option, Some, None, sym, ap, ap₂, subst, ◌∙◌, arith, unwrap_or}
use Rattle.std.proofs.lemmas.Bool.{ne_eqb}
use Rattle.rack.specs.Values.{Keeps, MayLeave}
use Rattle.rack.specs.Seen.{RackView}
use Rattle.slice_rack.specs.Changes.{Seats}
use Rattle.slice_rack.specs.Slices.{Slices, disk_of, place_of, seat_of}
use Rattle.slice_rack.specs.Sliced.{slices_of}
use Rattle.array_image.specs.Places.{log_slice, super_sector}
use Rattle.array_image.specs.States.{is_current}
use Rattle.log_laws.proofs.Kept.{place_of_log}
use Rattle.array_model.specs.declared.Seat.TheVariants.{Missing}
use Rattle.array_model.specs.Members.{slice_on}
use Rattle.array_model.specs.View.{has_gone, place_at}
use Rattle.array_core.proofs.TruthHeld.{slice_place}
use Rattle.raid_laws.specs.Vacated.{DiffersAt}
use Rattle.raid_laws.specs.Laws.{live_parts}
use Rattle.raid_laws.specs.Moves.{IsTrackedInCall, IsHeeded, IsSet}
use Rattle.raid_laws.specs.NewDrive.{no_state}
use Rattle.raid_laws.specs.Raid.{IsTracked, Raid, held_in, is_failed, live_of, spent_of}
use Rattle.raid_laws.specs.Rows.{LeavesRows}
use Rattle.raid_rack.proofs.Reseated.{reseated_amid, reseated_rows}
use Rattle.raid_laws.specs.Truths.{KeepsTruths}
use Rattle.raid_rack.proofs.Truths.{missing_none}
use Rattle.raid_rack.proofs.Seating.{others_set}
use Rattle.raid_laws.proofs.Whole.{amid_stood, stood_keeps, stood_own, told_amid}

module _ (place : ℕ) (t u : Slices) (x : RackView) (seats : Seats t u place None) where
  -- the disk of another place is the one that it was
  pub disk_left : (d : ℕ) → place_of d ≢ place → disk_of u d ≡ disk_of t d
  disk_left d other = ap (λ (o : Option ℕ). unwrap_or o 0) (seats.seats (place_of d) ∙ ap (λ (b : Bool). if b then None else seat_of t (place_of d)) (ne_eqb (place_of d) place other))

  differs : DiffersAt place (slices_of t x) (slices_of u x)
  differs = record {
    sectors = seats.sectors;
    held = λ d z other. ap₂ (λ e f. x.held e (f + z)) (disk_left d other) (seats.firsts d other);
    live = λ d z other live. record {
      disk = live.disk;
      sector = subst (λ k. z < k) (sym (seats.sectors d other)) live.sector;
      is_told = subst (λ e. x.told e) (sym (disk_left d other)) live.is_told;
      unspent = ap₂ (λ e f. x.spent e (f + z)) (disk_left d other) (seats.firsts d other) ∙ live.unspent;
    };
    own = λ d z same within. let none = seats.cleared d same in absurd (omega (arith, within, none));
  }

  module _ (v : Raid) (heeded : IsHeeded v) (missing : is_current v.state place ≡ false) (set : IsSet v (slices_of t x)) where
    -- the arrays over the slices that are left
    pub vacated_set : (slices_of u x).fit → IsSet v (slices_of u x)
    vacated_set fit = others_set place t u x v seats.sectors fit missing set

    -- a member that isn't missing is on another place
    on_other : (n k : ℕ) → n < v.state.made → k < (v.arrays n).truth.raid_disks → slice_get (v.arrays n).seats k ≢ Some Missing → place_of (slice_on (v.arrays n) k) ≢ place
    on_other n k low inside there same =
        let seated = set.arrays n low in
        let p = place_at (v.arrays n) k in
        let here : p ≡ place = sym (slice_place (v.arrays n) k seated.is_array.few) ∙ same in
        there (missing_none (slice_get (v.arrays n).seats k)
        (seated.marks k inside ∙ ap (λ c. Some (not (c && not (has_gone (v.arrays n) p)))) (ap (is_current v.state) here ∙ missing)))

    -- superblocks that said an array's truth do so
    pub vacated_truths : KeepsTruths v v (slices_of t x) (slices_of u x)
    vacated_truths n low held k inside there =
        let d = slice_on (v.arrays n) k in
        let other = on_other n k low inside there in
        let has = held k inside there in
        record {
          live = differs.live d super_sector other has.live;
          says = λ sector leaves. has.says sector (subst (λ h. MayLeave h sector) (differs.held d super_sector other) leaves);
        }

    module _ (fit : (slices_of u x).fit) (n : ℕ) (low : n < v.state.made) (told : IsTracked v (slices_of t x) n) where
      stood : is_failed v n ≡ false → IsTrackedInCall v (slices_of t x) n (held_in v (slices_of t x) n) (spent_of v n)
      stood goes = told_amid v (slices_of t x) n (spent_of v n) heeded told goes (λ k alive. alive)

      -- the place has no log slice
      cleared : 0 < (slices_of u x).sectors (log_slice place) → (k : List ℕ) → MayLeave ((slices_of u x).held (log_slice place) 0) k → k ≡ no_state
      cleared there k left = let none = seats.cleared (log_slice place) (place_of_log place) in absurd (omega (arith, there, none))

      stands : is_failed v n ≡ false → IsTrackedInCall v (slices_of u x) n (held_in v (slices_of t x) n) (spent_of v n)
      stands goes =
          reseated_amid v (slices_of t x) (slices_of u x) place n (held_in v (slices_of t x) n) (spent_of v n) differs set heeded missing cleared low (stood goes)

      -- what is told stays so
      pub vacated_told : IsTracked v (slices_of u x) n
      vacated_told = record {
        joined = told.joined;
        stood = λ goes.
            stood_own v (slices_of u x) n (held_in v (slices_of t x) n) heeded (vacated_set fit) low
            (amid_stood v (slices_of u x) n (held_in v (slices_of t x) n) (spent_of v n) heeded (stands goes));
        slices = λ goes. (stands goes).slices;
      }

      -- with its values
      pub vacated_keeps : (k : ℕ) → live_of v n k → Keeps (held_in v (slices_of t x) n k) (held_in v (slices_of u x) n k)
      vacated_keeps k alive =
          stood_keeps v (slices_of u x) n k (held_in v (slices_of t x) n)
          (amid_stood v (slices_of u x) n (held_in v (slices_of t x) n) (spent_of v n) heeded (stands (live_parts v n k alive).0)) alive

      -- and images leave it no other rows to resync
      pub vacated_rows : is_failed v n ≡ false → LeavesRows v (slices_of t x) n → LeavesRows v (slices_of u x) n
      vacated_rows goes =
          reseated_rows v (slices_of t x) (slices_of u x) place n (held_in v (slices_of t x) n) (spent_of v n) differs set heeded missing cleared low (stood goes)
