-- What disks say as a stop in a replay leaves them, and what they hold once it is replayed again.
use Rattle.std.proofs.Common.{◌≡◌, ◌≢◌, ◌⊎◌, ℕ, ◌+◌, ◌<◌, ◌≤◌, Bool, true, false, nat_lt, if◌then◌else◌, List, length, Option, Some, None, unwrap_or, refl, sym, ap, ◌∙◌, inl, inr, arith, lt-ltb, ltb-true}
use Rattle.std.specs.List.{filter_map}
use Rattle.std.specs.Option.{option_and_then}
use Rattle.std.specs.Result.{result_ok}
use Rattle.std.proofs.lemmas.Bool.{cases_lt}
use Rattle.rack.specs.Seen.{Image}
use Rattle.rack.specs.Targets.{Target, look}
use Rattle.gpt_table.specs.declared.Table.{Table}
use Rattle.gpt_table.specs.Changes.{IsOfCopies}
use Rattle.pool_state.specs.declared.contents.Copied.{Copied}
use Rattle.pool_state.specs.declared.contents.State.{State}
use Rattle.pool_state.specs.Sector.{decoded}
use Rattle.array_image.specs.Places.{arrays_first, place_of, slice_of, state_sector}
use Rattle.array_image.specs.Record.{GateAt, pending_at}
use Rattle.array_image.specs.States.{current_places}
use Rattle.pool_image.specs.Alike.{drive_gate}
use Rattle.pool_image.specs.Disks.{Disks, Identities, identities_of, newest, seat_of}
use Rattle.pool_image.specs.Replay.{Extent, Standing, extent_by, landed, standing_by, written}
use Rattle.pool_image.proofs.Identities.{seat_inside, table_same}
use Rattle.commit_log.proofs.Replaying.{IsSound, pending_sound}
use Rattle.pool_rest.specs.Moments.{AreAllWritten, landed_on}
use Rattle.pool_rest.specs.Resting.{replayed_on, seated_state}
use Rattle.pool_rest.specs.SoundLogs.{IsSoundLog}
use Rattle.pool_rest.proofs.BroughtCopies.{newest_still as written_newest, no_copy, seats_still as written_seats}
use Rattle.pool_rest.proofs.Landings.{where_landed}
use Rattle.pool_rest.proofs.LaterCopies.{IsCopied, newest_latest, seats_still}
use Rattle.pool_rest.proofs.Meant.{few_stood}
use Rattle.pool_rest.proofs.Joined.{some_at}
use Rattle.pool_rest.proofs.Quiet.{none_brought}
use Rattle.pool_rest.proofs.Settled.{newest_now}

-- targets land where they do by tables and seats
landed_tables : (disks : Disks) (i j : Identities) (s : State) → ((d : ℕ) → d < disks.count → (i d).table ≡ (j d).table)
    → ((p : ℕ) → seat_of s disks i p ≡ seat_of s disks j p) → landed disks i (seat_of s disks i) ≡ landed disks j (seat_of s disks j)
landed_tables disks i j s tables seats = λ k z. each z k
  where
    at : Option Table → Target → ℕ → Option Target
    at table z d =
        option_and_then
        (λ (e : Extent). if nat_lt z.sector e.sectors then Some (record { disk = d; sector = e.first + z.sector; bytes = z.bytes }) else None)
        (extent_by (disks.sectors d) table (slice_of z.disk))

    of_seat : (z : Target) (o : Option ℕ) → seat_of s disks j (place_of z.disk) ≡ o → option_and_then (λ d. at (i d).table z d) o ≡ option_and_then (λ d. at (j d).table z d) o
    of_seat z None seat = refl
    of_seat z (Some d) seat = ap (λ table. at table z d) (tables d (seat_inside s disks j (place_of z.disk) d seat))

    each : (z : Target) → landed disks i (seat_of s disks i) z ≡ landed disks j (seat_of s disks j) z
    each z = ap (option_and_then (λ d. at (i d).table z d)) (seats (place_of z.disk)) ∙ of_seat z (seat_of s disks j (place_of z.disk)) refl

-- a sector of a partition table is no gate on a disk that is long enough for a log slice
no_gate : (n t : ℕ) → IsOfCopies n t → arrays_first ≤ n → t ≡ drive_gate → ⊥
no_gate n t (inl (inl header)) long same = omega (arith, header, same)
no_gate n t (inl (inr entries)) long same = omega (arith, entries.0, entries.1, same)
no_gate n t (inr (inl header)) long same = omega (arith, header, long, same)
no_gate n t (inr (inr entries)) long same = omega (arith, entries.0, entries.1, long, same)

-- a sector is no gate of a log slice
abbrev pub IsNoGate : Disks → ℕ → ℕ → Type 0
IsNoGate disks d t = (t ≢ drive_gate) ⊎ (disks.sectors d < arrays_first)

module _ (disks : Disks) (c i : Image) (s0 : State) (newest_before : newest disks (identities_of disks c) ≡ Some s0)
    (log : IsSoundLog disks c (standing_by disks c s0) (seated_state (standing_by disks c s0).targets s0)) where
  abbrev before : Standing
  before = standing_by disks c s0

  abbrev xs : List Target
  xs = (standing_by disks c s0).targets

  abbrev s : State
  s = seated_state (standing_by disks c s0).targets s0

  abbrev ids : Identities
  ids = identities_of disks c

  abbrev now_ids : Identities
  now_ids = identities_of disks i

  abbrev landings : List Target
  landings = landed_on disks (seated_state (standing_by disks c s0).targets s0) (standing_by disks c s0).targets c

  abbrev w : Image
  w = written disks (standing_by disks c s0) c

  sound : IsSound (standing_by disks c s0).targets
  sound = pending_sound (current_places s0) before.logs

  pub few_before : length s0.drives.items ≤ 16
  few_before = few_stood disks c s0 newest_before

  -- where the record brings a later state it has a source
  pub source : s0.epoch < s.epoch → (a : GateAt) × (pending_at (current_places s0) before.logs ≡ Some a)
  source later =
      some_at (current_places s0) before.logs
      (λ none.
      let same : s0.epoch ≡ s.epoch = ap (λ (z : State). z.epoch) (none_brought s0 ∙ ap (λ (ys : List Target). seated_state ys s0) (sym none)) in
      omega (arith, later, same))

  pub low : (d : ℕ) (copy : Copied) → d < disks.count → (ids d).copied ≡ Some copy → copy.state.epoch ≤ s.epoch
  low d copy there is =
      let most = newest_latest disks ids s0 d copy newest_before there is in
      elim log.next [
        | inl same ↦ (let epoch = ap (λ (u : State). u.epoch) same in omega (arith, most, epoch))
        | inr next ↦ (let later = next.later in omega (arith, most, later))
      ]

  -- ---- where targets land

  target_at : (d t : ℕ) (v : List ℕ) → look landings d t ≡ Some v → ((t ≡ state_sector) × (arrays_first ≤ disks.sectors d)) ⊎ ((arrays_first ≤ t) × (t + 33 < disks.sectors d))
  target_at d t v is = elim (where_landed disks ids s xs sound.valid sound.apart d t v is) [ inl copy ↦ inl (copy.sector, copy.room) | inr part ↦ inr part ]

  -- a copy lands on a disk with a log slice
  pub copy_room : (d : ℕ) (v : List ℕ) → look landings d state_sector ≡ Some v → arrays_first ≤ disks.sectors d
  copy_room d v is = elim (target_at d state_sector v is) [ inl copy ↦ copy.1 | inr part ↦ absurd (let behind = part.0 in omega (arith, behind)) ]

  nowhere : (d t : ℕ) → (((t ≡ state_sector) × (arrays_first ≤ disks.sectors d)) ⊎ ((arrays_first ≤ t) × (t + 33 < disks.sectors d)) → ⊥) → look landings d t ≡ None
  nowhere d t never = of (look landings d t) refl
    where
      of : (o : Option (List ℕ)) → look landings d t ≡ o → look landings d t ≡ None
      of None is = is
      of (Some v) is = absurd (never (target_at d t v is))

  pub gate_free : (d : ℕ) → look landings d drive_gate ≡ None
  gate_free d = nowhere d drive_gate (λ at. elim at [ inl copy ↦ (let sector = copy.0 in omega (arith, sector)) | inr part ↦ (let behind = part.0 in omega (arith, behind)) ])

  pub log_free : (d t : ℕ) → state_sector < t → t < arrays_first → look landings d t ≡ None
  log_free d t behind before_it =
      nowhere d t (λ at. elim at [ inl copy ↦ (let sector = copy.0 in omega (arith, sector, behind)) | inr part ↦ (let past = part.0 in omega (arith, past, before_it)) ])

  table_free : (d t : ℕ) → IsOfCopies (disks.sectors d) t → look landings d t ≡ None
  table_free d t of = nowhere d t (λ at. no_copy (disks.sectors d) t of at)

  -- the record written
  written_is : (d t : ℕ) → t < disks.sectors d → w d t ≡ unwrap_or (look landings d t) (c d t)
  written_is d t within = ap (λ b. if b then unwrap_or (look landings d t) (c d t) else c d t) (lt-ltb t (disks.sectors d) within)

  pub written_gate : (d : ℕ) → drive_gate < disks.sectors d → w d drive_gate ≡ c d drive_gate
  written_gate d within = written_is d drive_gate within ∙ ap (λ (o : Option (List ℕ)). unwrap_or o (c d drive_gate)) (gate_free d)

  -- ---- the pool that has it

  pub newest_written : newest disks (identities_of disks w) ≡ Some s
  newest_written = elim log.next [
    | inl same ↦ still same
    | inr next ↦
        let from = source next.later in newest_now disks c w s0 s newest_before log few_before (λ p. refl) refl from.0 from.1
  ]
    where
      still : s ≡ s0 → newest disks (identities_of disks w) ≡ Some s
      still same = written_newest disks c s xs sound.valid sound.apart log.copies low (newest_before ∙ ap Some (sym same))

  pub seats_written : (p : ℕ) → seat_of s disks (identities_of disks w) p ≡ seat_of s disks ids p
  seats_written = written_seats disks c s xs sound.valid sound.apart log.copies low

  -- ---- as a stop leaves them

  module _ (others : (d t : ℕ) → d < disks.count → t < disks.sectors d → IsNoGate disks d t → look landings d t ≡ None → i d t ≡ c d t)
      (copies : (d : ℕ) → d < disks.count → state_sector < disks.sectors d
      → (i d state_sector ≡ c d state_sector) ⊎ (look landings d state_sector ≡ Some (i d state_sector))) where
    pub tables_now : (d : ℕ) → d < disks.count → (now_ids d).table ≡ (ids d).table
    tables_now d there = table_same (disks.sectors d) (i d) (c d) (λ t within of. others d t there within (which t of) (table_free d t of))
      where
        which : (t : ℕ) → IsOfCopies (disks.sectors d) t → IsNoGate disks d t
        which t of = elim (cases_lt (disks.sectors d) arrays_first) [ inl short ↦ inr short | inr long ↦ inl (no_gate (disks.sectors d) t of long) ]

    pub new_copy : (d : ℕ) → look landings d state_sector ≡ Some (i d state_sector) → (q : ℕ) × IsCopied disks s ids now_ids d q
    new_copy d is = elim (where_landed disks ids s xs sound.valid sound.apart d state_sector (i d state_sector) is) [
      | inr part ↦ absurd (let behind = part.0 in omega (arith, behind))
      | inl copy ↦ (
        copy.place,
        (
          copy.seat,
          ap (λ b. if b then result_ok (decoded (i d state_sector)) else None) (lt-ltb state_sector (disks.sectors d) (let long = copy.room in omega (arith, long)))
              ∙ ap result_ok (log.copies copy.place (i d state_sector) copy.target),
        ),
      )
    ]

    pub copied_or : (d : ℕ) → d < disks.count → ((now_ids d).copied ≡ (ids d).copied) ⊎ ((q : ℕ) × IsCopied disks s ids now_ids d q)
    copied_or d there = of (nat_lt state_sector (disks.sectors d)) refl
      where
        of : (b : Bool) → nat_lt state_sector (disks.sectors d) ≡ b → ((now_ids d).copied ≡ (ids d).copied) ⊎ ((q : ℕ) × IsCopied disks s ids now_ids d q)
        of true within = elim (copies d there (ltb-true state_sector (disks.sectors d) within)) [
          | inl same ↦ inl (ap (λ (v : List ℕ). if nat_lt state_sector (disks.sectors d) then result_ok (decoded v) else None) same)
          | inr is ↦ inr (new_copy d is)
        ]
        of false past =
            inl (ap (λ b. if b then result_ok (decoded (i d state_sector)) else None) past
            ∙ sym (ap (λ b. if b then result_ok (decoded (c d state_sector)) else None) past))

    pub seats_now : (p : ℕ) → seat_of s disks now_ids p ≡ seat_of s disks ids p
    seats_now = seats_still disks s ids now_ids tables_now copied_or low

    pub landings_now : landed_on disks s xs i ≡ landings
    landings_now = ap (λ f. filter_map f xs) (landed_tables disks now_ids ids s tables_now seats_now)

    -- replayed again they hold the same, but for gates
    pub again : (d t : ℕ) → d < disks.count → t < disks.sectors d → IsNoGate disks d t → replayed_on disks s xs i d t ≡ w d t
    again d t there within which =
        ap (λ b. if b then unwrap_or (look (landed_on disks s xs i) d t) (i d t) else i d t) (lt-ltb t (disks.sectors d) within)
        ∙ ap (λ ys. unwrap_or (look ys d t) (i d t)) landings_now
        ∙ of (look landings d t) refl
        ∙ sym (written_is d t within)
      where
        of : (o : Option (List ℕ)) → look landings d t ≡ o → unwrap_or (look landings d t) (i d t) ≡ unwrap_or (look landings d t) (c d t)
        of None none = ap (λ (o : Option (List ℕ)). unwrap_or o (i d t)) none ∙ others d t there within which none ∙ sym (ap (λ (o : Option (List ℕ)). unwrap_or o (c d t)) none)
        of (Some v) is = ap (λ (o : Option (List ℕ)). unwrap_or o (i d t)) is ∙ sym (ap (λ (o : Option (List ℕ)). unwrap_or o (c d t)) is)

    -- and the gates that they have
    pub again_gate : (d : ℕ) → drive_gate < disks.sectors d → replayed_on disks s xs i d drive_gate ≡ i d drive_gate
    again_gate d within =
        ap (λ b. if b then unwrap_or (look (landed_on disks s xs i) d drive_gate) (i d drive_gate) else i d drive_gate) (lt-ltb drive_gate (disks.sectors d) within)
        ∙ ap (λ ys. unwrap_or (look ys d drive_gate) (i d drive_gate)) landings_now
        ∙ ap (λ (o : Option (List ℕ)). unwrap_or o (i d drive_gate)) (gate_free d)

    -- with all targets written they hold it as they are
    pub done : AreAllWritten disks landings i → (d t : ℕ) → d < disks.count → t < disks.sectors d → IsNoGate disks d t → i d t ≡ w d t
    done all d t there within which = of (look landings d t) refl ∙ sym (written_is d t within)
      where
        of : (o : Option (List ℕ)) → look landings d t ≡ o → i d t ≡ unwrap_or (look landings d t) (c d t)
        of None none = others d t there within which none ∙ sym (ap (λ (o : Option (List ℕ)). unwrap_or o (c d t)) none)
        of (Some v) is = all d t v there within is ∙ sym (ap (λ (o : Option (List ℕ)). unwrap_or o (c d t)) is)
