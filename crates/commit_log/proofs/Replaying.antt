-- Contents in the midst of a replay: the log's record is still pending, or nothing is and all targets are written.
use Rattle.std.proofs.Common.{◌≡◌, ◌≢◌, ◌⊎◌, ℕ, ◌+◌, ◌<◌, ◌≤◌, ◌==◌, ◌&&◌, ◌||◌, not, Bool, true, false, nat_lt, nat_le, bytes_eq, codes, replicate, if◌then◌else◌, is_some, is_none, List, [], ◌∷◌, map, Option, Some, None, option_map, unwrap_or, refl, sym, ap, subst, ◌∙◌, inl, inr, arith, eq-eqb, lt-ltb, le-ltb}
use Rattle.std.specs.Option.{option_map_or, option_and_then}
use Rattle.std.specs.List.{list_all, list_any, range_with_len}
use Rattle.std.proofs.lemmas.Bool.{cases_Bool, cases_eq, cases_lt, both_ways, and_from, and_parts, or_parts, ne_eqb, cond-true}
use Rattle.std.proofs.lemmas.Option.{none-some, cond_some}
use Rattle.rack.specs.Values.{MayLeave}
use Rattle.rack.specs.Seen.{Image, RackView, IsLive}
use Rattle.rack.specs.Targets.{Target, look, put}
use Rattle.shr_base.specs.Blocks.{bytes_at, number_at, put_at}
use Rattle.shr_base.specs.Crc.{crc32_of}
use Rattle.pool_state.specs.declared.contents.State.{State}
use Rattle.array_image.specs.Places.{slice_of, place_of, log_slice}
use Rattle.array_image.specs.Record.{Gate, GateAt, gate_sector, gate_of, gate_in, half_of, log_bytes, target_at, is_there, is_bad_gate, is_target, are_apart, record_of, record_in, is_open_if_of, pending_at, pending, damaged_log}
use Rattle.array_image.specs.States.{current_places}
use Rattle.array_image.proofs.Frames.{state_same}
use Rattle.log_laws.specs.View.{LogView, names}
use Rattle.log_laws.specs.Standing.{IsLogPart, IsInside, StatesStand, deciding, IsWhole, Decides, SomeoneDecides}
use Rattle.log_laws.specs.Commits.{Stands, Rests}
use Rattle.log_laws.specs.Opening.{AreWritten, StandsAmid, StandsReplaying, CanReplay, Replays, HasWork}
use Rattle.log_laws.proofs.Naming.{names_range, range_below}
use Rattle.commit_log.proofs.Deciding.{IsTop, top, gate_at, gate_at_is, all_at, nothing_pending, none_of_top}
use Rattle.commit_log.proofs.Restored.{restored, restored_there, restored_picks, restored_inside, pending_at_by, pending_by}
use Rattle.commit_log.proofs.Undamaged.{whole_from, whole_by}
use Rattle.log_laws.proofs.Counting.{decides_small, named_decides, decides_named}
use Rattle.log_laws.proofs.Halves.{record_same}
use Rattle.commit_log.proofs.Amid.{slice_of_log, place_of_log, log_of_place, not_state, half_least, replayed_as, no_gate_in_nothing, each_or}

-- ---- the targets of what is pending

-- they are valid, and differ
pub record IsSound (xs : List Target) : Type 0 where
  pub valid : list_all is_target xs ≡ true
  pub apart : are_apart xs ≡ true

none_sound : IsSound []
none_sound = record { valid = refl; apart = refl }

sound_if : (word numbered some few summed : Bool) (targets xs : List Target)
    → (if word && (numbered && (some && (few && (summed && (list_all is_target targets && are_apart targets))))) then Some targets else None) ≡ Some xs
    → IsSound xs
sound_if word numbered some few summed targets xs is =
    let found = cond_some (word && (numbered && (some && (few && (summed && (list_all is_target targets && are_apart targets)))))) targets xs is in
    let counted = (and_parts numbered _ (and_parts word _ found.0).1).1 in
    let both = and_parts (list_all is_target targets) (are_apart targets) (and_parts summed _ (and_parts few _ (and_parts some _ counted).1).1).1 in
    subst IsSound found.1 (record { valid = both.0; apart = both.1 })

record_sound : (number : ℕ) (slice : ℕ → List ℕ) (xs : List Target) → record_of number slice ≡ Some xs → IsSound xs
unfolding record_of
record_sound number slice xs is =
    let head : List ℕ = log_bytes slice (half_of number) 96 in
    let count : ℕ = number_at 12 4 head in
    sound_if (bytes_eq (bytes_at 0 8 head) (codes "SHRBODY1")) (number_at 16 8 head == number) (nat_le 1 count) (nat_le count 3996)
    (number_at 8 4 head == crc32_of (put_at 8 4 (replicate 4 0) (log_bytes slice (half_of number) (96 + count))))
    (map (target_at slice (half_of number) head) (range_with_len 0 count)) xs is

pub pending_sound : (ps : List ℕ) (c : Image) → IsSound (pending ps c)
unfolding pending
pending_sound ps c = of_record (list_any (is_bad_gate c) ps) (option_and_then (λ a. record_in c a.place a.gate.number) (pending_at ps c)) (of_gate (pending_at ps c))
  where
    of_gate : (o : Option GateAt) (xs : List Target) → option_and_then (λ a. record_in c a.place a.gate.number) o ≡ Some xs → IsSound xs
    of_gate None xs is = absurd (none-some xs is)
    of_gate (Some a) xs is = record_sound a.gate.number (c (log_slice a.place)) xs is

    of_record : (bad : Bool) (o : Option (List Target)) → ((xs : List Target) → o ≡ Some xs → IsSound xs) → IsSound (if bad then [] else unwrap_or o [])
    of_record true o each = none_sound
    of_record false None each = none_sound
    of_record false (Some xs) each = each xs refl

-- ---- contents as they stand

pub amid_of : (xs : List Target) (x : RackView) (c : Image) → Stands x c → StandsAmid xs x c
amid_of xs x c stands = record {
  states = record { picks = λ p live. inl (stands.picks (log_slice p) 0 live); inside = λ p none. stands.inside p 0 (omega (arith, none)) };
  parts = λ p t some live. stands.picks (log_slice p) t live;
  inside = stands.inside;
}

abbrev within : RackView → ℕ → ℕ → Bool
within x d t = nat_lt t (x.sectors d)

-- those that read now
stands_now : (x : RackView) → Stands x (restored (within x) x (λ d t. []))
stands_now x = record {
  picks = restored_picks (within x) x (λ d t. []) (λ d t live free. absurd (both_ways (within x d t) free (lt-ltb t (x.sectors d) live.sector)));
  inside = restored_inside (within x) x (λ d t. []) (λ p t past. le-ltb t (x.sectors (log_slice p)) past) (λ p t past. refl);
}

pub can_sound : (l : LogView) (x : RackView) → CanReplay l x → IsSound l.pending
can_sound l x can =
    let now : Image = restored (within x) x (λ d t. []) in
    subst IsSound (can.same now (amid_of l.pending x now (stands_now x))) (pending_sound (deciding now) now)

-- ---- in the midst

-- each target has its payload, where the rack has it
abbrev pub HavePayloads : RackView → List Target → Image → Type 0
HavePayloads x xs c = (d t : ℕ) (w : List ℕ) → look xs d t ≡ Some w → t < x.sectors d → c d t ≡ w

-- a gate that was closed, with all targets written
pub record IsClosed (l : LogView) (closed : List ℕ) (a : RackView) (c : Image) (p : ℕ) : Type 0 where
  pub gate : c (log_slice p) gate_sector ≡ closed
  pub written : HavePayloads a l.pending c

pub record IsAmid (l : LogView) (closed : List ℕ) (a : RackView) (c : Image) : Type 0 where
  pub inside : IsInside a.sectors c
  pub parts : (p t : ℕ) → 0 < t → t ≢ gate_sector → IsLive a a (log_slice p) t → MayLeave (a.held (log_slice p) t) (c (log_slice p) t)
  pub gates :
      (p : ℕ) → IsLive a a (log_slice p) gate_sector
      → MayLeave (a.held (log_slice p) gate_sector) (c (log_slice p) gate_sector) ⊎ IsClosed l closed a c p
  pub others : (d t : ℕ) → IsLive a a d t → (IsLogPart d t → ⊥) → MayLeave (a.held d t) (c d t) ⊎ (look l.pending d t ≡ Some (c d t))

pub amid_states : (l : LogView) (closed : List ℕ) (a : RackView) (c : Image) → IsAmid l closed a c → StatesStand l.pending a c
amid_states l closed a c amid = record {
  picks = λ p live. amid.others (log_slice p) 0 live (not_state p);
  inside = λ p none. amid.inside p 0 (omega (arith, none));
}

-- what is pending
pub record IsStill (l : LogView) (c : Image) : Type 0 where
  pub same : pending (deciding c) c ≡ l.pending
  pub whole : IsWhole c
  pub number : (g : GateAt) → pending_at (deciding c) c ≡ Some g → g.gate.number ≡ l.number

pub record IsDone (l : LogView) (a : RackView) (c : Image) : Type 0 where
  pub none : pending_at (deciding c) c ≡ None
  pub whole : IsWhole c
  pub written : HavePayloads a l.pending c

-- ---- all gates that decide are as they were

-- the gates of others
abbrev of_others : List ℕ → RackView → ℕ → ℕ → Bool
of_others ps x d t = ((t == 1) && not (names ps (place_of d))) && ((slice_of d == 0) && nat_lt t (x.sectors d))

not_chosen : (ps : List ℕ) (x : RackView) (p : ℕ) → names ps p ≡ true → of_others ps x (log_slice p) gate_sector ≡ false
not_chosen ps x p named =
    ap (λ q. ((1 == 1) && not (names ps q)) && ((slice_of (log_slice p) == 0) && nat_lt 1 (x.sectors (log_slice p)))) (place_of_log p)
    ∙ ap (λ b. ((1 == 1) && not b) && ((slice_of (log_slice p) == 0) && nat_lt 1 (x.sectors (log_slice p)))) named

is_chosen : (ps : List ℕ) (x : RackView) (p : ℕ) → names ps p ≡ false → gate_sector < x.sectors (log_slice p) → of_others ps x (log_slice p) gate_sector ≡ true
is_chosen ps x p other there =
    ap (λ q. ((1 == 1) && not (names ps q)) && ((slice_of (log_slice p) == 0) && nat_lt 1 (x.sectors (log_slice p)))) (place_of_log p)
    ∙ ap (λ b. ((1 == 1) && not b) && ((slice_of (log_slice p) == 0) && nat_lt 1 (x.sectors (log_slice p)))) other
    ∙ and_from (slice_of (log_slice p) == 0) (nat_lt 1 (x.sectors (log_slice p))) (eq-eqb (slice_of (log_slice p)) 0 (slice_of_log p)) (lt-ltb 1 (x.sectors (log_slice p)) there)

no_gate : (ps : List ℕ) (x : RackView) (d t : ℕ) → t ≢ 1 → of_others ps x d t ≡ false
no_gate ps x d t other = ap (λ b. (b && not (names ps (place_of d))) && ((slice_of d == 0) && nat_lt t (x.sectors d))) (ne_eqb t 1 other)

and_off : (b c : Bool) → c ≡ false → (b && c) ≡ false
and_off true c is = is
and_off false c is = refl

-- gates of these places are old
abbrev AreOld : RackView → Image → List ℕ → Type 0
AreOld a c ps = (p : ℕ) → names ps p ≡ true → IsLive a a (log_slice p) gate_sector → MayLeave (a.held (log_slice p) gate_sector) (c (log_slice p) gate_sector)

others_amid : (l : LogView) (closed : List ℕ) (a : RackView) (c : Image) (ps : List ℕ) → IsAmid l closed a c → AreOld a c ps
    → StandsAmid l.pending a (restored (of_others ps a) a c)
others_amid l closed a c ps amid olds = record {
  states = record {
    picks = λ p live. amid.others (log_slice p) 0 live (not_state p);
    inside = λ p none. amid.inside p 0 (omega (arith, none));
  };
  parts = λ p t some live. part p t some live;
  inside = restored_inside (of_others ps a) a c
      (λ p t past. and_off ((t == 1) && not (names ps (place_of (log_slice p)))) _ (and_off (slice_of (log_slice p) == 0) _ (le-ltb t (a.sectors (log_slice p)) past)))
      amid.inside;
}
  where
    old : (p : ℕ) → IsLive a a (log_slice p) gate_sector → of_others ps a (log_slice p) gate_sector ≡ false
        → MayLeave (a.held (log_slice p) gate_sector) (c (log_slice p) gate_sector)
    old p live free =
        elim (cases_Bool (names ps p)) [
          | inl named ↦ olds p named live
          | inr other ↦ absurd (both_ways (of_others ps a (log_slice p) gate_sector) free (is_chosen ps a p other live.sector))
        ]

    part : (p t : ℕ) → 0 < t → IsLive a a (log_slice p) t → MayLeave (a.held (log_slice p) t) (restored (of_others ps a) a c (log_slice p) t)
    part p t some live =
        elim (cases_Bool (of_others ps a (log_slice p) t)) [
          | inl here ↦ inl (cond-true (of_others ps a (log_slice p) t) (a.held (log_slice p) t).current (c (log_slice p) t) here)
          | inr free ↦
              subst (λ v. MayLeave (a.held (log_slice p) t) v) (sym (restored_there (of_others ps a) a c (log_slice p) t free))
              (elim (cases_eq t 1) [
                | inr more ↦ amid.parts p t some more live
                | inl one ↦
                    subst (λ k. MayLeave (a.held (log_slice p) k) (c (log_slice p) k)) (sym one)
                    (old p (subst (λ k. IsLive a a (log_slice p) k) one live) (subst (λ k. of_others ps a (log_slice p) k ≡ false) one free))
              ])
        ]

still_pending : (l : LogView) (closed : List ℕ) (a : RackView) (c : Image) → CanReplay l a → IsAmid l closed a c → AreOld a c (deciding c) → IsStill l c
still_pending l closed a c can amid olds =
    let ps : List ℕ = deciding c in
    let e : Image = restored (of_others ps a) a c in
    let stands : StandsAmid l.pending a e = others_amid l closed a c ps amid olds in
    let there : (d t : ℕ) → of_others ps a d t ≡ false → c d t ≡ e d t = λ d t free. sym (restored_there (of_others ps a) a c d t free) in
    let places : ps ≡ deciding e = ap (λ (s : Option State). option_map_or current_places s []) (state_same c e (λ p. refl)) in
    let gates : (p : ℕ) → names ps p ≡ true → c (log_slice p) gate_sector ≡ e (log_slice p) gate_sector =
    λ p named. there (log_slice p) gate_sector (not_chosen ps a p named) in
    let records : (g : GateAt) → pending_at ps e ≡ Some g → record_in c g.place g.gate.number ≡ record_in e g.place g.gate.number =
    λ g is.
    record_same g.gate.number (c (log_slice g.place)) (e (log_slice g.place))
    (λ k below.
    there (log_slice g.place) (half_of g.gate.number + k)
    (no_gate ps a (log_slice g.place) (half_of g.gate.number + k) (λ one. absurd (omega (arith, one, half_least g.gate.number))))) in
    record {
      same = pending_by c e ps gates records ∙ ap (λ qs. pending qs e) places ∙ can.same e stands;
      whole = whole_by c e ps gates records (ap (λ qs. damaged_log qs e) places ∙ can.whole e stands);
      number = λ g is.
          can.number e stands g (sym (ap (λ qs. pending_at qs e) places) ∙ sym (pending_at_by c e ps gates) ∙ is);
    }

-- ---- one that decides is closed

some_gate : (x y : Gate) → Some x ≡ Some y → x ≡ y
some_gate x y is = (cc)

-- none has a greater number
number_low : (l : LogView) (closed : List ℕ) (a : RackView) (c : Image) (p : ℕ) (g : Gate) → CanReplay l a → IsAmid l closed a c
    → gate_of closed ≡ Some (record { is_open = false; number = l.number })
    → Decides c p → gate_in c p ≡ Some g → g.number ≤ l.number
number_low l closed a c p g can amid closed_is decides is =
    elim (cases_lt gate_sector (a.sectors (log_slice p))) [
      | inr none ↦ absurd (none-some g (sym no_gate_in_nothing ∙ sym (ap gate_of (amid.inside p gate_sector none)) ∙ is))
      | inl there ↦
          elim (amid.gates p (can.logs p gate_sector (decides_small c p decides) there)) [
            | inl old ↦
                let low = can.numbers c (amid_states l closed a c amid) p decides there (c (log_slice p) gate_sector) old in
                let same : low.0 ≡ g = some_gate low.0 g (sym low.1 ∙ is) in
                omega (arith, ap (λ (x : Gate). x.number) same, low.2)
            | inr shut ↦
                let same : record { is_open = false; number = l.number } ≡ g = some_gate _ g (sym closed_is ∙ sym (ap gate_of shut.gate) ∙ is) in
                omega (arith, ap (λ (x : Gate). x.number) same)
          ]
    ]

-- each is well formed
not_bad : (l : LogView) (closed : List ℕ) (a : RackView) (c : Image) (p : ℕ) → CanReplay l a → IsAmid l closed a c
    → gate_of closed ≡ Some (record { is_open = false; number = l.number })
    → Decides c p → is_bad_gate c p ≡ false
not_bad l closed a c p can amid closed_is decides =
    elim (cases_lt gate_sector (a.sectors (log_slice p))) [
      | inr none ↦ ap (λ (block : List ℕ). is_there block && is_none (gate_of block)) (amid.inside p gate_sector none)
      | inl there ↦
          elim (amid.gates p (can.logs p gate_sector (decides_small c p decides) there)) [
            | inl old ↦
                let low = can.numbers c (amid_states l closed a c amid) p decides there (c (log_slice p) gate_sector) old in
                and_off (is_there (c (log_slice p) gate_sector)) _ (ap (λ (o : Option Gate). is_none o) low.1)
            | inr shut ↦
                and_off (is_there (c (log_slice p) gate_sector)) _ (ap (λ (o : Option Gate). is_none o) (ap gate_of shut.gate ∙ closed_is))
          ]
    ]

pub done_by : (l : LogView) (closed : List ℕ) (a : RackView) (c : Image) (p : ℕ) → CanReplay l a → IsAmid l closed a c
    → gate_of closed ≡ Some (record { is_open = false; number = l.number })
    → Decides c p → IsClosed l closed a c p → IsDone l a c
done_by l closed a c p can amid closed_is decides shut =
    let ps : List ℕ = deciding c in
    let g : GateAt = record { place = p; gate = record { is_open = false; number = l.number } } in
    let has : gate_at c p ≡ Some g = ap (λ (o : Option Gate). option_map (λ h. record { place = p; gate = h }) o) (ap gate_of shut.gate ∙ closed_is) in
    let t : IsTop (gate_at c) ps l.number =
    top (gate_at c) ps l.number p g
    (λ q h among at. let gate = gate_at_is c q h at in number_low l closed a c q h.gate can amid closed_is (named_decides c q among) gate.1)
    (decides_named c p decides) has refl in
    let is_shut : is_open_if_of l.number (gate_at c p) ≡ false = ap (is_open_if_of l.number) has ∙ ap (λ b. not b || false) (eq-eqb l.number l.number refl) in
    let none : pending_at ps c ≡ None =
    elim (cases_Bool (list_all (is_open_if_of l.number) (map (gate_at c) ps))) [
      | inl all ↦ absurd (both_ways (is_open_if_of l.number (gate_at c p)) is_shut (all_at (is_open_if_of l.number) (gate_at c) ps p all (decides_named c p decides)))
      | inr some ↦ none_of_top c ps l.number t some
    ] in
    record {
      none = none;
      whole =
          whole_from c ps (λ q among. not_bad l closed a c q can amid closed_is (named_decides c q among))
          (λ x is. absurd (none-some x (sym none ∙ is)));
      written = shut.written;
    }

pub still_or_done : (l : LogView) (closed : List ℕ) (a : RackView) (c : Image) → CanReplay l a → IsAmid l closed a c
    → gate_of closed ≡ Some (record { is_open = false; number = l.number })
    → IsStill l c ⊎ IsDone l a c
still_or_done l closed a c can amid closed_is =
    elim (each_or (λ p. IsLive a a (log_slice p) gate_sector → MayLeave (a.held (log_slice p) gate_sector) (c (log_slice p) gate_sector)) (IsDone l a c) (deciding c)
    (λ p among.
    let decides : Decides c p = named_decides c p among in
    elim (cases_lt gate_sector (a.sectors (log_slice p))) [
      | inr none ↦ inl (λ live. absurd (omega (arith, live.sector, none)))
      | inl there ↦
          elim (amid.gates p (can.logs p gate_sector (decides_small c p decides) there)) [
            | inl old ↦ inl (λ live. old)
            | inr shut ↦ inr (done_by l closed a c p can amid closed_is decides shut)
          ]
    ])) [
      | inl olds ↦ inl (still_pending l closed a c can amid olds)
      | inr done ↦ inr done
    ]

-- a place's gate is as it was
abbrev HasOldGate : RackView → Image → ℕ → Type 0
HasOldGate a c p = IsLive a a (log_slice p) gate_sector → MayLeave (a.held (log_slice p) gate_sector) (c (log_slice p) gate_sector)

-- As they stand, all gates are as they were, or all targets are written.
pub replaying_of : (l : LogView) (closed : List ℕ) (a : RackView) (c : Image) → a.disks ≡ 272 → CanReplay l a → IsAmid l closed a c
    → gate_of closed ≡ Some (record { is_open = false; number = l.number })
    → StandsReplaying l.pending a c
replaying_of l closed a c disks can amid closed_is =
    elim (each_or (HasOldGate a c) (HavePayloads a l.pending c) (range_with_len 0 16) (λ p among. gate p (range_below 0 16 p among))) [
      | inr done ↦ inr (record { all = done; halves = λ p t more live. amid.parts p t (omega (arith, more)) (λ same. absurd (omega (arith, more, same))) live; pends = pends })
      | inl olds ↦
          inl (record {
            states = amid_states l closed a c amid;
            parts = λ p t some live. elim (cases_eq t gate_sector) [
              | inr other ↦ amid.parts p t some other live
              | inl is ↦
                  subst (λ k. MayLeave (a.held (log_slice p) k) (c (log_slice p) k)) (sym is)
                  (olds p (names_range 0 16 p (omega arith) (let disk = live.disk in omega (arith, disk, disks)))
                  (subst (λ k. IsLive a a (log_slice p) k) is live))
            ];
            inside = amid.inside;
          })
    ]
  where
    gate : (p : ℕ) → p < 16 → HasOldGate a c p ⊎ HavePayloads a l.pending c
    gate p few = elim (cases_lt gate_sector (a.sectors (log_slice p))) [
      | inr none ↦ inl (λ live. absurd (omega (arith, live.sector, none)))
      | inl there ↦ elim (amid.gates p (can.logs p gate_sector few there)) [ inl old ↦ inl (λ live. old) | inr shut ↦ inr shut.written ]
    ]

    pends : (pending (deciding c) c ≡ l.pending) ⊎ (pending (deciding c) c ≡ [])
    pends = elim (still_or_done l closed a c can amid closed_is) [ inl still ↦ inl still.same | inr done ↦ inr (nothing_pending c (deciding c) done.none) ]

-- ---- contents from before

-- the gates, and the targets that the rack has
abbrev of_replay : LogView → RackView → ℕ → ℕ → Bool
of_replay l a d t = nat_lt t (a.sectors d) && (((slice_of d == 0) && (t == 1)) || is_some (look l.pending d t))

none_of : (o : Option (List ℕ)) → is_some o ≡ false → o ≡ None
none_of None is = refl
none_of (Some v) is = absurd (both_ways true is refl)

before_stands : (l : LogView) (closed : List ℕ) (a : RackView) (c : Image) → IsAmid l closed a c → Stands a (restored (of_replay l a) a c)
before_stands l closed a c amid = record {
  picks = restored_picks (of_replay l a) a c (λ d t live free. pick d t live free);
  inside = restored_inside (of_replay l a) a c
      (λ p t past. ap (λ b. b && (((slice_of (log_slice p) == 0) && (t == 1)) || is_some (look l.pending (log_slice p) t))) (le-ltb t (a.sectors (log_slice p)) past)) amid.inside;
}
  where
    plain : (d t : ℕ) → IsLive a a d t → (IsLogPart d t → ⊥) → look l.pending d t ≡ None → MayLeave (a.held d t) (c d t)
    plain d t live other none =
        elim (amid.others d t live other) [ inl old ↦ old | inr is ↦ absurd (none-some (c d t) (sym none ∙ is)) ]

    pick : (d t : ℕ) → IsLive a a d t → of_replay l a d t ≡ false → MayLeave (a.held d t) (c d t)
    pick d t live free =
        let parts = or_parts ((slice_of d == 0) && (t == 1)) (is_some (look l.pending d t))
        (sym (ap (λ b. b && (((slice_of d == 0) && (t == 1)) || is_some (look l.pending d t))) (lt-ltb t (a.sectors d) live.sector)) ∙ free) in
        let none : look l.pending d t ≡ None = none_of (look l.pending d t) parts.1 in
        elim (cases_eq (slice_of d) 0) [
          | inr slice ↦ plain d t live (λ part. slice part.0) none
          | inl slice ↦
              elim (cases_lt 0 t) [
                | inr first ↦ plain d t live (λ part. absurd (omega (arith, part.1, first))) none
                | inl some ↦
                    let log : log_slice (place_of d) ≡ d = log_of_place d slice in
                    subst (λ k. MayLeave (a.held k t) (c k t)) log
                    (amid.parts (place_of d) t some
                    (λ one. both_ways ((slice_of d == 0) && (t == 1)) parts.0 (and_from (slice_of d == 0) (t == 1) (eq-eqb (slice_of d) 0 slice) (eq-eqb t 1 one)))
                    (subst (λ k. IsLive a a k t) (sym log) live))
              ]
        ]

-- contents that agree but for targets are the same once these are put
put_where : (sectors : ℕ → ℕ) (xs : List Target) (c e : Image) (d t : ℕ)
    → ((nat_lt t (sectors d) && is_some (look xs d t)) ≡ false → c d t ≡ e d t) → put sectors xs c d t ≡ put sectors xs e d t
put_where sectors xs c e d t same = by (nat_lt t (sectors d)) (look xs d t) same
  where
    by : (b : Bool) (o : Option (List ℕ)) → ((b && is_some o) ≡ false → c d t ≡ e d t)
        → (if b then unwrap_or o (c d t) else c d t) ≡ (if b then unwrap_or o (e d t) else e d t)
    by false o same = same refl
    by true None same = same refl
    by true (Some w) same = refl

-- where they are written, putting them changes nothing
pub put_done : (x : RackView) (xs : List Target) (c : Image) (d t : ℕ) → ((w : List ℕ) → look xs d t ≡ Some w → t < x.sectors d → c d t ≡ w) → put x.sectors xs c d t ≡ c d t
put_done x xs c d t done =
    elim (cases_lt t (x.sectors d)) [
      | inr past ↦ ap (λ b. if b then unwrap_or (look xs d t) (c d t) else c d t) (le-ltb t (x.sectors d) past)
      | inl there ↦
          ap (λ b. if b then unwrap_or (look xs d t) (c d t) else c d t) (lt-ltb t (x.sectors d) there)
          ∙ of_look (look xs d t) (λ w is. done w is there)
    ]
  where
    of_look : (o : Option (List ℕ)) → ((w : List ℕ) → o ≡ Some w → c d t ≡ w) → unwrap_or o (c d t) ≡ c d t
    of_look None each = refl
    of_look (Some w) each = sym (each w refl)

-- replayed, they are as contents from before
pub replays_of : (l : LogView) (closed : List ℕ) (a : RackView) (c : Image) → CanReplay l a → IsAmid l closed a c
    → gate_of closed ≡ Some (record { is_open = false; number = l.number })
    → Replays a c
unfolding look
replays_of l closed a c can amid closed_is =
    let before : Image = restored (of_replay l a) a c in
    let stands : Stands a before = before_stands l closed a c amid in
    record {
      before = before;
      stands = stands;
      whole = elim (still_or_done l closed a c can amid closed_is) [ inl still ↦ still.whole | inr done ↦ done.whole ];
      same = λ d t other.
          let gate : ((slice_of d == 0) && (t == 1)) ≡ false =
          elim (cases_Bool ((slice_of d == 0) && (t == 1))) [
            | inr none ↦ none
            | inl both ↦ absurd (other (gate_part d t both))
          ] in
          let puts : put a.sectors l.pending c d t ≡ put a.sectors l.pending before d t =
          put_where a.sectors l.pending c before d t
          (λ free.
          sym (restored_there (of_replay l a) a c d t (ap (λ b. nat_lt t (a.sectors d) && (b || is_some (look l.pending d t))) gate ∙ free))) in
          elim (still_or_done l closed a c can amid closed_is) [
            | inl still ↦ replayed_as a c l.pending d t still.same
            | inr done ↦
                replayed_as a c [] d t (nothing_pending c (deciding c) done.none) ∙ put_done a [] c d t (λ w is there. absurd (none-some w is))
                ∙ sym (put_done a l.pending c d t (λ w is there. done.written d t w is there))
          ]
          ∙ puts ∙ sym (replayed_as a before l.pending d t (can.same before (amid_of l.pending a before stands)));
    }
  where
    gate_part : (d t : ℕ) → ((slice_of d == 0) && (t == 1)) ≡ true → IsLogPart d t
    gate_part d t both =
        let parts = and_parts (slice_of d == 0) (t == 1) both in
        (eqb_zero (slice_of d) parts.0, (let one : t ≡ 1 = eqb_one t parts.1 in omega (arith, one)))
      where
        eqb_zero : (n : ℕ) → (n == 0) ≡ true → n ≡ 0
        eqb_zero n is = elim (cases_eq n 0) [ inl zero ↦ zero | inr other ↦ absurd (both_ways (n == 0) (ne_eqb n 0 other) is) ]

        eqb_one : (n : ℕ) → (n == 1) ≡ true → n ≡ 1
        eqb_one n is = elim (cases_eq n 1) [ inl one ↦ one | inr other ↦ absurd (both_ways (n == 1) (ne_eqb n 1 other) is) ]

-- what the next commit needs
pub rests_amid : (l : LogView) (on lost : List ℕ) (closed : List ℕ) (a : RackView) (c : Image) → CanReplay l a → IsAmid l closed a c
    → gate_of closed ≡ Some (record { is_open = false; number = l.number })
    → SomeoneDecides l.pending on lost a
    → (HasWork l → lost ≡ [] → (p : ℕ) → names on p ≡ true → IsClosed l closed a c p)
    → Rests l.number l.pending lost c
rests_amid l on lost closed a c can amid closed_is someone shut =
    elim (still_or_done l closed a c can amid closed_is) [
      | inr done ↦ of_done done
      | inl still ↦ record { numbers = still.number; targets = by_lost lost refl still }
    ]
  where
    of_done : IsDone l a c → Rests l.number l.pending lost c
    of_done done = record {
      numbers = λ g is. absurd (none-some g (sym done.none ∙ is));
      targets = inl (nothing_pending c (deciding c) done.none);
    }

    some_none : {X : Type 0} (x : X) (xs : List X) → x ∷ xs ≡ [] → ⊥
    some_none x xs is = (cc)

    closes : lost ≡ [] → HasWork l → pending (deciding c) c ≡ []
    closes none work =
        let one = someone c (amid_states l closed a c amid) in
        nothing_pending c (deciding c)
        (done_by l closed a c one.0 can amid closed_is one.2 (shut work none one.0 (and_parts (names on one.0) (not (names lost one.0)) one.1).0)).none

    by_targets : (xs : List Target) → l.pending ≡ xs → lost ≡ [] → IsStill l c → pending (deciding c) c ≡ []
    by_targets [] is none still = still.same ∙ is
    by_targets (x ∷ xs) is none still = closes none (inl (λ empty. some_none x xs (sym is ∙ empty)))

    by_lost : (gone : List ℕ) → lost ≡ gone → IsStill l c → (pending (deciding c) c ≡ []) ⊎ ((lost ≢ []) × (pending (deciding c) c ≡ l.pending))
    by_lost [] none still = inl (by_targets l.pending refl none still)
    by_lost (p ∷ others) some still = inr (λ none. absurd (some_none p others (sym some ∙ none)), still.same)
