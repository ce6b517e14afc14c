-- The pool that the disks of a new one show: nothing is pending in it.
use Rattle.std.proofs.Common.{◌≡◌, ℕ, ◌+◌, ◌<◌, ◌==◌, ◌&&◌, ◌||◌, nat_lt, Bool, true, false, is_none, List, [], ◌∷◌, find, map, if◌then◌else◌, Option, Some, None, option_map, unwrap_or, refl, sym, ap, subst, ◌∙◌, inl, inr, le-leb, arith}
use Rattle.std.specs.Option.{option_and_then, option_map_or}
use Rattle.std.specs.List.{list_all}
use Rattle.std.proofs.lemmas.Bool.{both_ways, cases_Bool, cases_lt}
use Rattle.std.proofs.lemmas.Option.{none-some}
use Rattle.rack.specs.Seen.{Image}
use Rattle.rack.specs.Targets.{Target, look}
use Rattle.pool_state.specs.declared.contents.State.{State}
use Rattle.array_image.specs.Foremost.{foremost}
use Rattle.array_image.specs.Places.{arrays_first, log_sectors, log_slice, place_of, state_sector}
use Rattle.array_image.specs.Record.{Gate, GateAt, damaged_log, gate_in, gate_of, gate_sector, is_bad_log, is_open_if_of, is_there, pending_at, record_in}
use Rattle.array_image.specs.States.{current_places, is_current}
use Rattle.log_laws.specs.View.{names}
use Rattle.commit_log.proofs.Amid.{place_of_log, slice_of_log}
use Rattle.commit_log.proofs.Deciding.{all_at, gate_at, gate_at_is, names_first, names_later, none_of_top, nothing_pending, top}
use Rattle.raid_laws.proofs.Added.{names_current}
use Rattle.pool_image.specs.Disks.{Disks, Identities, identities_of, seat_of}
use Rattle.pool_image.specs.Replay.{Extent, Standing, brought_state, log_extent, logs_of, standing, standing_by, written}
use Rattle.pool_image.specs.Drives.{Found, found, found_by}
use Rattle.pool_image.proofs.Rested.{written_none}
use Rattle.pool_rest.specs.SoundLogs.{HasSoundLogs}
use Rattle.pool_format.proofs.Founded.{drive_current}
use Rattle.pool_format.specs.declared.Birth.{Birth}
use Rattle.pool_format.specs.declared.planning.NewPool.{NewPool}
use Rattle.log_laws.specs.Bytes.{first_gate}
use Rattle.log_laws.proofs.FirstGate.{closed_gate}
use Rattle.pool_format.specs.Parts.{new_state}
use Rattle.new_pool.specs.Contents.{IsNewPool}
use Rattle.new_pool.proofs.Identities.{newest_is, no_drive, seat_at}

-- the first place that passes, of those of which none does
pub none_found : (test : ℕ → Bool) (ps : List ℕ) → ((p : ℕ) → names ps p ≡ true → test p ≡ false) → find test ps ≡ None
none_found test [] none = refl
none_found test (p ∷ ps) none =
    ap (λ b. if b then Some p else find test ps) (none p (names_first p ps)) ∙ none_found test ps (λ q among. none q (names_later p ps q among))

module _ (plan : NewPool) (birth : Birth) (disks : Disks) (c : Image) (is : IsNewPool plan birth disks c) where
  abbrev s : State
  s = new_state plan birth

  abbrev ids : Identities
  ids = identities_of disks c

  abbrev pub logs : Image
  logs = logs_of disks (seat_of s disks ids) c

  pub gate_block : (p : ℕ) → p < disks.count → logs (log_slice p) gate_sector ≡ first_gate
  gate_block p low =
      let wide = is.logs p low in
      ap (λ n. if (n == 0) && nat_lt gate_sector log_sectors then option_map_or (λ d. option_map_or (λ (e : Extent). c d (e.first + gate_sector)) (log_extent (disks.sectors d)) []) (seat_of s disks ids (place_of (log_slice p))) [] else []) (slice_of_log p)
      ∙ ap (λ q. option_map_or (λ d. option_map_or (λ (e : Extent). c d (e.first + gate_sector)) (log_extent (disks.sectors d)) []) (seat_of s disks ids q) []) (place_of_log p)
      ∙ ap (λ o. option_map_or (λ d. option_map_or (λ (e : Extent). c d (e.first + gate_sector)) (log_extent (disks.sectors d)) []) o []) (seat_at plan birth disks c is p low)
      ∙ ap (λ b. option_map_or (λ (e : Extent). c p (e.first + gate_sector)) (if b then Some (record { first = state_sector; sectors = log_sectors }) else None) []) (le-leb arrays_first (disks.sectors p) (omega (arith, wide)))
      ∙ (is.drives p low).gate

  pub current_low : (p : ℕ) → names (current_places s) p ≡ true → p < disks.count
  current_low p among = elim (cases_lt p disks.count) [
    | inl low ↦ low
    | inr high ↦ absurd (both_ways (is_current s p) (no_drive plan birth disks c is p high) (sym (names_current s p) ∙ among))
  ]

  gate_is : (p : ℕ) → names (current_places s) p ≡ true → gate_in logs p ≡ Some (record { is_open = false; number = 0 })
  gate_is p among = ap gate_of (gate_block p (current_low p among)) ∙ closed_gate

  -- the first drive is there
  first_low : 0 < disks.count
  first_low = let least = is.is_plan.least in let many = is.count in omega (arith, least, many)

  first_current : names (current_places s) 0 ≡ true
  first_current = names_current s 0 ∙ drive_current plan birth is.is_plan 0 (subst (λ n. 0 < n) is.count first_low)

  pub none_pending : pending_at (current_places s) logs ≡ None
  none_pending =
      let gate : GateAt = record { place = 0; gate = record { is_open = false; number = 0 } } in
      let at : gate_at logs 0 ≡ Some gate = ap (option_map (λ (g : Gate). record { place = 0; gate = g })) (gate_is 0 first_current) in
      let greatest = top (gate_at logs) (current_places s) 0 0 gate
      (λ p a among has. let same = gate_at_is logs p a has in let one = some_gate a.gate (sym same.1 ∙ gate_is p among) in omega (arith, one)) first_current at refl in
      none_of_top logs (current_places s) 0 greatest
      (elim (cases_Bool (list_all (is_open_if_of 0) (map (gate_at logs) (current_places s)))) [
        | inl all ↦ absurd (both_ways (is_open_if_of 0 (gate_at logs 0)) (ap (is_open_if_of 0) at) (all_at (is_open_if_of 0) (gate_at logs) (current_places s) 0 all first_current))
        | inr closed ↦ closed
      ])
    where
      some_gate : (g : Gate) → Some g ≡ Some (record { is_open = false; number = 0 }) → g.number ≡ 0
      some_gate g same = ap (λ (o : Option Gate). option_map_or (λ h. h.number) o 0) same

  abbrev stood : Standing
  stood = standing_by disks c s

  no_targets : stood.targets ≡ []
  no_targets = nothing_pending logs (current_places s) none_pending

  pub stands : standing disks c ≡ Some stood
  unfolding standing
  stands = ap (option_map (standing_by disks c)) (newest_is plan birth disks c is)

  -- the pool that is found
  abbrev pub shown : Found
  shown = record { disks = disks; before = stood; contents = c; identities = ids; state = s; seats = seat_of s disks ids }

  pub found_is : found disks c ≡ Some shown
  unfolding found
  found_is =
      ap (option_and_then (λ before. found_by disks before (written disks before c))) stands
      ∙ ap (found_by disks stood) (written_none disks stood c no_targets)
      ∙ ap (option_map (λ (t : State). record { disks = disks; before = stood; contents = c; identities = ids; state = t; seats = seat_of t disks ids })) (newest_is plan birth disks c is)

  -- ---- its logs

  pub good_log : (p : ℕ) → names (current_places s) p ≡ true → is_bad_log (current_places s) logs p ≡ false
  good_log p among =
      ap (λ o. (is_there (logs (log_slice p) gate_sector) && is_none o) || option_map_or (λ (a : GateAt). (a.place == p) && is_none (record_in logs a.place a.gate.number)) (pending_at (current_places s) logs) false) (gate_is p among)
      ∙ ap (λ o. (is_there (logs (log_slice p) gate_sector) && false) || option_map_or (λ (a : GateAt). (a.place == p) && is_none (record_in logs a.place a.gate.number)) o false) none_pending
      ∙ no_and (is_there (logs (log_slice p) gate_sector))
    where
      no_and : (b : Bool) → ((b && false) || false) ≡ false
      no_and true = refl
      no_and false = refl

  pub logs_whole : damaged_log (current_places s) logs ≡ None
  logs_whole = none_found (is_bad_log (current_places s) logs) (current_places s) good_log

  same_state : unwrap_or (brought_state stood.targets) s ≡ s
  unfolding foremost
  same_state = ap (λ xs. unwrap_or (brought_state xs) s) no_targets

  no_target : (p : ℕ) → look stood.targets (log_slice p) 0 ≡ None
  unfolding look
  no_target p = ap (λ (xs : List Target). look xs (log_slice p) 0) no_targets

  pub sound_logs : HasSoundLogs disks c
  sound_logs = record {
    before = stood;
    stands = stands;
    log = record {
      whole = logs_whole;
      next = inl same_state;
      pool = ap (λ (t : State). t.pool) same_state;
      copies = λ p u at. absurd (none-some u (sym (no_target p) ∙ at));
      seats = λ p stays. ap (λ (t : State). seat_of t disks ids p) same_state;
      joining = λ a p d at. absurd (none-some a (sym none_pending ∙ at));
    };
  }
