-- What the check of a pool at rest refuses is what the meaning of its disks refuses.
use Rattle.std.proofs.Common.{◌≡◌, ℕ, ◌+◌, ◌<◌, ◌≤◌, Bool, true, false, ◌==◌, ◌&&◌, ◌||◌, not, bytes_eq, nat_lt, is_none, if◌then◌else◌, List, [], Option, Some, None, option_map, inl, inr, refl, sym, ap, ap₂, subst, ◌∙◌, lt-ltb, le-ltb, le-leb, ltb-true, arith}
use Rattle.std.specs.List.{list_all}
use Rattle.std.specs.Option.{option_map_or, option_or}
use Rattle.std.proofs.lemmas.Bool.{and_parts, both_ways, cases_lt}
use Rattle.std.proofs.lemmas.Option.{none-some}
use Rattle.rack.specs.Seen.{Image, RackView}
use Rattle.gpt_table.specs.declared.Table.{Table}
use Rattle.slice_rack.specs.Slices.{Slices}
use Rattle.pool_state.specs.declared.contents.State.{State}
use Rattle.pool_state.specs.Valid.{is_valid}
use Rattle.array_image.specs.Places.{arrays_first, log_kind, log_sectors, log_slice, place_of, slice_of, state_sector}
use Rattle.array_image.specs.Record.{gate_of, gate_sector, is_bad_gate, is_bad_log, is_there}
use Rattle.array_image.specs.States.{current_places, is_current, id_of}
use Rattle.log_laws.specs.View.{LogView, names}
use Rattle.pool_image.specs.Alike.{drive_gate}
use Rattle.pool_image.specs.Disks.{disks_of, identities_of}
use Rattle.pool_image.specs.Drives.{Found, end_of, extent_of, found, slices_of}
use Rattle.pool_image.specs.Meaning as meaning
use Rattle.pool_image.specs.Meaning.{arrays_of, is_member, has_entry, has_log, has_other_pool, has_slice_of, has_table, is_table, joined_arrays, refusal_of, refused_at, refused_by}
use Rattle.pool_image.specs.Replay.{Extent, log_extent, standing_by}
use Rattle.pool_image.specs.Volumes.{first_bad}
use Rattle.pool_image.proofs.Rested.{gate_block}
use Rattle.pool_scan.specs.declared.Known.{Known}
use Rattle.pool_scan.specs.Choosing.{seat_by}
use Rattle.pool_scan.specs.Scanning.{IsUnfaulted, now_in}
use Rattle.pool_scan.proofs.Seated.{seat_by_is, seat_by_stands}
use Rattle.pool_scan.proofs.Valid.{valid_places}
use Rattle.pool_check.specs.declared.Checked.{Checked}
use Rattle.pool_check.specs.Checking.{IsChecked}
use Rattle.pool_check.specs.Drives.{AreCopied, AreDrivesOf, found_with}
use Rattle.pool_check.specs.Refusing.{is_well, refusal_by, refused_with}
use Rattle.pool_check.proofs.Wells.{well_passes, well_refuses}
use Rattle.pool_model.proofs.Undamaged.{find_false, or_left}
use Rattle.raid_laws.proofs.Added.{names_current}
use Rattle.raid_laws.proofs.Noted.{current_few}
use Rattle.assembler.specs.declared.refusal.Refusal.{Refusal}
use Rattle.assembler_laws.specs.Holding.{IsFoundOn, drives_of}
use Rattle.assembler.specs.Refusing.{FailsCheck, meant_by, seats_left}
use Rattle.assembler_laws.proofs.Finding.{found_copied, found_drives, g, same}
use Rattle.assembler.proofs.Refusals.{meant_check}

-- a drive whose table says its log slice has all of it
table_room : (f : Found) (place d : ℕ) → has_table f place d ≡ true → arrays_first ≤ f.disks.sectors d
unfolding extent_of
table_room f place d is = of (f.identities d).table is
  where
    log : Extent
    log = record { first = state_sector; sectors = log_sectors }

    of : (o : Option Table) → option_map_or (is_table f place (f.disks.sectors d)) o false ≡ true → arrays_first ≤ f.disks.sectors d
    of None is = absurd (both_ways false refl is)
    of (Some table) is =
        let head : Bool = option_map_or (bytes_eq table.disk_id.0) (id_of f.state place) false in
        let tail : Bool = list_all (λ n. not (is_member f n place) || has_slice_of f (f.disks.sectors d) table (n + 1)) (arrays_of f) in
        let one = and_parts head (has_slice_of f (f.disks.sectors d) table 0 && tail) is in
        let two = and_parts (has_slice_of f (f.disks.sectors d) table 0) tail one.1 in
        let three = and_parts (has_entry table 1 log_kind log) (nat_lt (end_of log + 32) (f.disks.sectors d)) two.0 in
        let low : end_of log + 32 < f.disks.sectors d = ltb-true (end_of log + 32) (f.disks.sectors d) three.1 in
        omega (arith, low)

module _ (x : RackView) (known : List Known) (s : State) (t : Slices) (on : List ℕ) (l : LogView) (is_pending : Bool) (damaged : Option ℕ) (f : Found)
    (is : IsFoundOn x known s t on l is_pending damaged f) (whole : damaged ≡ None) where
  abbrev h : Found
  h = g x known s t on l is_pending damaged

  abbrev logs : Image
  logs = (standing_by (disks_of x) (now_in x) s).logs

  -- a gate on a drive that has all of its log slice
  log_gate : (p d : ℕ) → h.seats p ≡ Some d → arrays_first ≤ x.sectors d → logs (log_slice p) gate_sector ≡ now_in x d drive_gate
  log_gate p d seat room =
      let slice : slice_of (log_slice p) ≡ 0 = omega arith in
      let place : place_of (log_slice p) ≡ p = omega arith in
      let read : Option ℕ → List ℕ = λ o. option_map_or (λ e. option_map_or (λ (k : Extent). now_in x e (k.first + gate_sector)) (log_extent (x.sectors e)) []) o [] in
      ap (λ (n : ℕ). if (n == 0) && nat_lt gate_sector log_sectors then read (h.seats (place_of (log_slice p))) else []) slice
      ∙ ap (λ (q : ℕ). read (h.seats q)) place
      ∙ ap read seat
      ∙ ap (λ (b : Bool). option_map_or (λ (k : Extent). now_in x d (k.first + gate_sector)) (if b then Some (record { first = state_sector; sectors = log_sectors }) else None) [])
      (le-leb arrays_first (x.sectors d) room)

  drive_gate_is : (p d : ℕ) → h.seats p ≡ Some d → arrays_first ≤ x.sectors d → slices_of h (log_slice p) gate_sector ≡ now_in x d drive_gate
  drive_gate_is p d seat room =
      gate_block h p
      ∙ ap (λ o. option_map_or (λ e. if nat_lt drive_gate (x.sectors e) then now_in x e drive_gate else []) o []) seat
      ∙ ap (λ (b : Bool). if b then now_in x d drive_gate else []) (lt-ltb drive_gate (x.sectors d) (omega (arith, room)))

  -- the log of a drive that has its table is well formed
  log_well : (p d : ℕ) → h.seats p ≡ Some d → has_table h p d ≡ true → has_log h p ≡ true
  log_well p d seat table =
      let room = table_room h p d table in
      let current : is_current s p ≡ true = (seat_by_stands s known p d (seat_by_is (disks_of x) (identities_of (disks_of x) (now_in x)) known is.scan s p ∙ seat)).2 in
      let good : is_bad_log (current_places s) logs p ≡ false =
      find_false (is_bad_log (current_places s) logs) (current_places s) p (sym is.stands.damaged_is ∙ whole) (names_current s p ∙ current) in
      let gate : is_bad_gate (slices_of h) p ≡ false =
      ap (λ (block : List ℕ). is_there block && is_none (gate_of block)) (drive_gate_is p d seat room ∙ sym (log_gate p d seat room))
      ∙ or_left (is_bad_gate logs p) _ good in
      ap₂ (λ a b. not a && not b) gate good

  log_found : (p d : ℕ) → f.seats p ≡ Some d → has_table f p d ≡ true → has_log f p ≡ true
  log_found = subst (λ (k : Found). (p d : ℕ) → k.seats p ≡ Some d → has_table k p d ≡ true → has_log k p ≡ true)
      (same x known s t on l is_pending damaged f is) log_well

  -- what is refused of the disks
  pub refusal_is : has_other_pool (disks_of x) (standing_by (disks_of x) (now_in x) s) ≡ false → refusal_of (disks_of x) (now_in x) ≡ refused_by f
  unfolding refusal_of
  refusal_is single =
      ap (λ o. option_map_or (refused_at (disks_of x) (now_in x)) o (Some meaning.no_pool)) is.stands.stands
      ∙ ap (λ (b : Bool). if b then Some meaning.two_pools else option_map_or refused_by (found (disks_of x) (now_in x)) (Some meaning.no_pool)) single
      ∙ ap (λ o. option_map_or refused_by o (Some meaning.no_pool)) is.found_is

  -- drives that passed their check are refused for their volume alone
  pub check_passes : (checked : Checked) → IsChecked (is_well None) f checked → refused_by f ≡ option_map meaning.bad_volume (first_bad (joined_arrays f))
  check_passes checked found = well_passes f log_found found.sound

  -- and drives that didn't for what the check says, where no disk has refused a call
  pub check_fails : (y : RackView) (gone : List ℕ) (why : Refusal) → is_valid s 0 ≡ true
      → ((p d : ℕ) → names gone p ≡ true → seat_by s known p ≡ Some d → ⊥) → IsUnfaulted x y
      → FailsCheck x y known s gone damaged why → refused_by f ≡ meant_by why
  check_fails y gone why valid nobody quiet fails =
      let found : refused_with (is_well damaged) None f ≡ refused_with (is_well None) None f = ap (λ o. refused_with (is_well o) None f) whole in
      let said = fails.exact (drives_of f) (subst (λ k. AreDrivesOf x k (drives_of f)) (sym left_is) (found_drives x known s t on l is_pending damaged f is))
      (subst (λ k. AreCopied known k (drives_of f)) (sym left_is) (found_copied x known s t on l is_pending damaged f is)) in
      by (refused_with (is_well None) None f) refl
      (sym (ap₂ option_or (ap (λ (k : Found). refused_with (is_well damaged) None k) whose ∙ found) (ap (option_map (λ place. meaning.damaged place meaning.in_log)) whole)) ∙ said)
      ∙ meant_check fails.fault ∙ sym (ap meant_by fails.said)
    where
      here : f ≡ h
      here = sym (same x known s t on l is_pending damaged f is)

      left_at : (p : ℕ) → fails.seats p ≡ f.seats p
      left_at p =
          elim (fails.loses p) [
            | inr lost ↦ absurd (let goes = lost.1 in quiet goes.0 goes.2)
            | inl kept ↦ kept ∙ before p ∙ sym (ap (λ (k : Found). k.seats p) here)
          ]
        where
          before : (p : ℕ) → seats_left known s gone p ≡ h.seats p
          before p = elim (cases_lt p 16) [
            | inl low ↦
                ap (λ b. if b && not (names gone p) then seat_by s known p else None) (lt-ltb p 16 low)
                ∙ of (names gone p) refl (seat_by s known p) refl
                ∙ seat_by_is (disks_of x) (identities_of (disks_of x) (now_in x)) known is.scan s p
            | inr past ↦
                ap (λ b. if b && not (names gone p) then seat_by s known p else None) (le-ltb p 16 past)
                ∙ sym (none past (seat_by s known p) refl)
                ∙ seat_by_is (disks_of x) (identities_of (disks_of x) (now_in x)) known is.scan s p
          ]
            where
              of : (b : Bool) → names gone p ≡ b → (o : Option ℕ) → seat_by s known p ≡ o → (if not b then o else None) ≡ o
              of false at o seat = refl
              of true at None seat = refl
              of true at (Some d) seat = absurd (nobody p d at seat)

              none : 16 ≤ p → (o : Option ℕ) → seat_by s known p ≡ o → o ≡ None
              none past None seat = refl
              none past (Some d) seat =
                  let few = current_few s p (valid_places s 0 valid).1 (seat_by_stands s known p d seat).2 in
                  absurd (omega (arith, few, past))

      left_is : fails.seats ≡ f.seats
      left_is = λ i p. left_at p i

      whose : found_with s fails.seats (drives_of f) ≡ f
      whose =
          ap (λ k. found_with s k (drives_of f)) left_is
          ∙ ap (λ (z : State). found_with z f.seats (drives_of f)) (sym (ap (λ (k : Found). k.state) here))

      by : (o : Option meaning.Refusal) → refused_with (is_well None) None f ≡ o → option_or o None ≡ Some (refusal_by fails.fault) → refused_by f ≡ Some (refusal_by fails.fault)
      by None none at = absurd (none-some (refusal_by fails.fault) at)
      by (Some r) some at = well_refuses f log_found r some ∙ at
