-- Before a target is written, contents are replayed as before the commit, or with all targets.
use Rattle.std.proofs.Common.{◌≡◌, ◌⊎◌, ℕ, ◌+◌, ◌<◌, ◌≤◌, ◌==◌, ◌&&◌, ◌||◌, Bool, true, false, List, [], Option, Some, refl, sym, ap, ap₂, subst, ◌∙◌, inl, inr, arith, eq-eqb}
use Rattle.std.specs.Option.{option_map_or}
use Rattle.std.proofs.lemmas.Bool.{cases_Bool, cases_eq, cases_lt, both_ways, or_parts, ne_eqb}
use Rattle.rack.specs.Values.{MayLeave}
use Rattle.rack.specs.Seen.{Image, RackView, IsLive}
use Rattle.array_image.specs.Places.{slice_of, place_of, log_slice, log_sectors}
use Rattle.array_image.specs.Record.{Gate, GateAt, gate_sector, gate_of, half_of, record_in, pending_at, pending, damaged_log}
use Rattle.array_image.proofs.Frames.{state_same}
use Rattle.log_laws.specs.View.{LogView, names}
use Rattle.log_laws.specs.Standing.{IsLogPart, StatesStand, deciding, IsWhole, Decides, IsReady}
use Rattle.log_laws.specs.Commits.{Stands, ImageInCommit, ImageAfterCommit, StandsMidway}
use Rattle.commit_log.proofs.Restored.{restored, restored_there, restored_picks, restored_inside, pending_by}
use Rattle.commit_log.proofs.Undamaged.{whole_by}
use Rattle.log_laws.proofs.Counting.{decides_small, named_decides}
use Rattle.log_laws.proofs.Halves.{record_same}
use Rattle.commit_log.proofs.Late.{is_old, is_new, Deciders, late_pending, late_whole}
use Rattle.commit_log.proofs.Midway.{HasGates, deciders_pends}
use Rattle.commit_log.proofs.Whole.{all_committed}
use Rattle.pool_state.specs.declared.contents.State.{State}
use Rattle.array_image.specs.States.{current_places}
use Rattle.commit_log.proofs.Amid.{in_half, Terms, IsNew, IsEarly, slice_of_log, place_of_log, log_of_place, half_least, half_most, not_in_half, other_half, not_state, same_replayed, IsOld, absent, lower, no_gate_in_nothing, each_or}

-- ---- the log as it was

-- a gate of this number
abbrev pub has_number : ℕ → List ℕ → Bool
has_number number block = option_map_or (λ (g : Gate). g.number == number) (gate_of block) false

-- what the commit has written to the log: its half, and gates of its number
abbrev pub of_log : ℕ → List ℕ → Image → ℕ → ℕ → Bool
of_log number on c d t =
    (slice_of d == 0) && (names on (place_of d) && (in_half number t || ((t == 1) && has_number number (c d t))))

in_log : (number : ℕ) (on : List ℕ) (c : Image) (p t : ℕ)
    → of_log number on c (log_slice p) t ≡ (names on p && (in_half number t || ((t == 1) && has_number number (c (log_slice p) t))))
in_log number on c p t =
    ap₂ (λ b q. b && (names on q && (in_half number t || ((t == 1) && has_number number (c (log_slice p) t)))))
    (eq-eqb (slice_of (log_slice p)) 0 (slice_of_log p)) (place_of_log p)

and_off : (b c : Bool) → c ≡ false → (b && c) ≡ false
and_off true c is = is
and_off false c is = refl

-- a sector of a log slice that the commit hasn't written
pub not_of_log : (number : ℕ) (on : List ℕ) (c : Image) (p t : ℕ)
    → in_half number t ≡ false → ((t == 1) && has_number number (c (log_slice p) t)) ≡ false → of_log number on c (log_slice p) t ≡ false
not_of_log number on c p t half gate =
    in_log number on c p t ∙ and_off (names on p) _ (ap₂ (λ b d. b || d) half gate)

not_on : (number : ℕ) (on : List ℕ) (c : Image) (p t : ℕ) → names on p ≡ false → of_log number on c (log_slice p) t ≡ false
not_on number on c p t is = in_log number on c p t ∙ ap (λ b. b && (in_half number t || ((t == 1) && has_number number (c (log_slice p) t)))) is

-- the state's sector, and any sector that isn't the log's
pub not_of_log-other : (number : ℕ) (on : List ℕ) (c : Image) (d t : ℕ) → (IsLogPart d t → ⊥) → of_log number on c d t ≡ false
not_of_log-other number on c d t other =
    elim (cases_eq (slice_of d) 0) [
      | inr slice ↦ ap (λ b. b && (names on (place_of d) && (in_half number t || ((t == 1) && has_number number (c d t))))) (ne_eqb (slice_of d) 0 slice)
      | inl slice ↦
          elim (cases_lt 0 t) [
            | inl past ↦ absurd (other (slice, past))
            | inr first ↦
                and_off (slice_of d == 0) _ (and_off (names on (place_of d)) _
                (ap₂ (λ b e. b || (e && has_number number (c d t))) (not_in_half number t (inl (omega (arith, half_least number, first)))) (ne_eqb t 1 (λ one. absurd (omega (arith, one, first))))))
          ]
    ]

-- ---- what decides

-- it hasn't the number of the commit
old_number : (l : LogView) (number : ℕ) (a : RackView) (c : Image) (p : ℕ) → number ≡ l.number + 1 → IsOld l a c p
    → has_number number (c (log_slice p) gate_sector) ≡ false
old_number l number a c p is (absent none) = ap (λ block. has_number number block) none ∙ ap (λ (o : Option Gate). option_map_or (λ g. g.number == number) o false) no_gate_in_nothing
old_number l number a c p is (lower g has below) =
    ap (λ (o : Option Gate). option_map_or (λ g. g.number == number) o false) has ∙ ne_eqb g.number number (λ same. absurd (omega (arith, same, below, is)))

pub early_states : (l : LogView) (on : List ℕ) (number : ℕ) (opened : List ℕ) (a : RackView) (c : Image) → IsEarly l on number opened a c → StatesStand l.added a c
early_states l on number opened a c early = record {
  picks = λ p live. inl (early.others (log_slice p) 0 live (not_state p));
  inside = λ p none. early.around.inside p 0 (omega (arith, none));
}

-- each gate that decides is old, or a place has the whole record
early_gate : (l : LogView) (on : List ℕ) (number : ℕ) (opened : List ℕ) (a : RackView) (c : Image) → IsReady l on a → IsEarly l on number opened a c
    → (p : ℕ) → Decides c p → IsOld l a c p ⊎ ((names on p ≡ true) × IsNew number l.added opened c p)
early_gate l on number opened a c ready early p decides =
    elim (cases_lt gate_sector (a.sectors (log_slice p))) [
      | inr none ↦ inl (absent (early.around.inside p gate_sector none))
      | inl there ↦
          elim (early.gates p (ready.logs p gate_sector (decides_small c p decides) there)) [
            | inr new ↦ inr new
            | inl old ↦
                let g = ready.numbers c (early_states l on number opened a c early) p decides there (c (log_slice p) gate_sector) old in
                inl (lower g.0 g.1 g.2)
          ]
    ]

-- ---- contents with the log as it was

log_restored : ℕ → List ℕ → RackView → Image → Image
log_restored number on a c = restored (of_log number on c) a c

log_inside : (l : LogView) (on : List ℕ) (number : ℕ) (opened closed : List ℕ) (a : RackView) (c : Image) (p t : ℕ) → Terms l on number opened closed a
    → a.sectors (log_slice p) ≤ t → of_log number on c (log_slice p) t ≡ false
log_inside l on number opened closed a c p t terms past =
    elim (cases_Bool (names on p)) [
      | inr other ↦ not_on number on c p t other
      | inl here ↦
          let size : a.sectors (log_slice p) ≡ log_sectors = (terms.logs p here).1 in
          not_of_log number on c p t (not_in_half number t (inr (omega (arith, half_most number, size, past))))
          (ap (λ b. b && has_number number (c (log_slice p) t)) (ne_eqb t 1 (λ one. absurd (omega (arith, one, size, past)))))
    ]

has_opened : (l : LogView) (on : List ℕ) (number : ℕ) (opened closed : List ℕ) (a : RackView) (c : Image) (p : ℕ) → Terms l on number opened closed a
    → IsNew number l.added opened c p → has_number number (c (log_slice p) gate_sector) ≡ true
has_opened l on number opened closed a c p terms new =
    ap (has_number number) new.gate ∙ ap (λ (o : Option Gate). option_map_or (λ g. g.number == number) o false) terms.opened_is ∙ eq-eqb number number refl

log_free : (number : ℕ) (on : List ℕ) (c : Image) (p t : ℕ) → of_log number on c (log_slice p) t ≡ false
    → (names on p ≡ false) ⊎ ((in_half number t ≡ false) × (((t == 1) && has_number number (c (log_slice p) t)) ≡ false))
log_free number on c p t free =
    elim (cases_Bool (names on p)) [
      | inr other ↦ inl other
      | inl here ↦
          inr (or_parts (in_half number t) ((t == 1) && has_number number (c (log_slice p) t))
          (sym (ap (λ b. b && (in_half number t || ((t == 1) && has_number number (c (log_slice p) t)))) here) ∙ sym (in_log number on c p t) ∙ free))
    ]

gate_pick : (l : LogView) (on : List ℕ) (number : ℕ) (opened closed : List ℕ) (a : RackView) (c : Image) (p : ℕ) → Terms l on number opened closed a
    → IsEarly l on number opened a c → IsLive a a (log_slice p) gate_sector → of_log number on c (log_slice p) gate_sector ≡ false
    → MayLeave (a.held (log_slice p) gate_sector) (c (log_slice p) gate_sector)
gate_pick l on number opened closed a c p terms early live free =
    elim (early.gates p live) [
      | inl old ↦ old
      | inr new ↦
          elim (log_free number on c p gate_sector free) [
            | inl other ↦ absurd (both_ways (names on p) other new.0)
            | inr both ↦ absurd (both_ways (has_number number (c (log_slice p) gate_sector)) both.1 (has_opened l on number opened closed a c p terms new.1))
          ]
    ]

log_pick : (l : LogView) (on : List ℕ) (number : ℕ) (opened closed : List ℕ) (a : RackView) (c : Image) (p t : ℕ) → Terms l on number opened closed a
    → IsEarly l on number opened a c → IsLive a a (log_slice p) t → 0 < t → of_log number on c (log_slice p) t ≡ false
    → MayLeave (a.held (log_slice p) t) (c (log_slice p) t)
log_pick l on number opened closed a c p t terms early live some free =
    elim (cases_eq t 1) [
      | inl one ↦
          subst (λ k. MayLeave (a.held (log_slice p) k) (c (log_slice p) k)) (sym one)
          (gate_pick l on number opened closed a c p terms early (subst (λ k. IsLive a a (log_slice p) k) one live)
          (subst (λ k. of_log number on c (log_slice p) k ≡ false) one free))
      | inr more ↦
          elim (log_free number on c p t free) [
            | inl other ↦ early.around.parts p t live (omega (arith, more, some)) (inl other)
            | inr both ↦ early.around.parts p t live (omega (arith, more, some)) (inr both.0)
          ]
    ]

log_stands : (l : LogView) (on : List ℕ) (number : ℕ) (opened closed : List ℕ) (a : RackView) (c : Image) → Terms l on number opened closed a
    → IsEarly l on number opened a c → Stands a (log_restored number on a c)
unfolding log_restored
log_stands l on number opened closed a c terms early = record {
  picks = restored_picks (of_log number on c) a c (λ d t live free. pick d t live free);
  inside = restored_inside (of_log number on c) a c (λ p t past. log_inside l on number opened closed a c p t terms past) early.around.inside;
}
  where
    pick : (d t : ℕ) → IsLive a a d t → of_log number on c d t ≡ false → MayLeave (a.held d t) (c d t)
    pick d t live free =
        elim (cases_eq (slice_of d) 0) [
          | inr other ↦ early.others d t live (λ part. other part.0)
          | inl slice ↦
              elim (cases_lt 0 t) [
                | inr first ↦ early.others d t live (λ part. absurd (omega (arith, part.1, first)))
                | inl some ↦
                    let log : log_slice (place_of d) ≡ d = log_of_place d slice in
                    subst (λ k. MayLeave (a.held k t) (c k t)) log
                    (log_pick l on number opened closed a c (place_of d) t terms early (subst (λ k. IsLive a a k t) (sym log) live) some
                    (subst (λ k. of_log number on c k t ≡ false) (sym log) free))
              ]
        ]

-- the same places decide there
log_deciding : (number : ℕ) (on : List ℕ) (a : RackView) (c : Image) → deciding c ≡ deciding (log_restored number on a c)
unfolding log_restored
log_deciding number on a c =
    ap (λ (s : Option State). option_map_or current_places s [])
    (state_same c (restored (of_log number on c) a c)
    (λ p. sym (restored_there (of_log number on c) a c (log_slice p) 0 (not_of_log-other number on c (log_slice p) 0 (not_state p)))))

-- where all gates that decide are old, they stand there, and so does the record that is pending
record SameLog (c e : Image) : Type 0 where
  places : deciding c ≡ deciding e
  gates : (p : ℕ) → names (deciding e) p ≡ true → c (log_slice p) gate_sector ≡ e (log_slice p) gate_sector
  records : (g : GateAt) → pending_at (deciding e) e ≡ Some g → record_in c g.place g.gate.number ≡ record_in e g.place g.gate.number

log_same : (l : LogView) (on : List ℕ) (number : ℕ) (opened closed : List ℕ) (a : RackView) (c : Image) → IsReady l on a → Terms l on number opened closed a
    → IsEarly l on number opened a c → ((p : ℕ) → names (deciding c) p ≡ true → IsOld l a c p)
    → SameLog c (log_restored number on a c)
unfolding log_restored
log_same l on number opened closed a c ready terms early olds =
    let before : Image = restored (of_log number on c) a c in
    let stands : Stands a before = log_stands l on number opened closed a c terms early in
    let same : deciding c ≡ deciding before = log_deciding number on a c in
    record {
      places = same;
      gates = λ p among.
          let old : IsOld l a c p = olds p (subst (λ ps. names ps p ≡ true) (sym same) among) in
          sym (restored_there (of_log number on c) a c (log_slice p) gate_sector
          (not_of_log number on c p gate_sector (not_in_half number 1 (inl (omega (arith, half_least number)))) (old_number l number a c p terms.number_is old)));
      records = λ g is.
          record_same g.gate.number (c (log_slice g.place)) (before (log_slice g.place))
          (λ k below.
          sym (restored_there (of_log number on c) a c (log_slice g.place) (half_of g.gate.number + k)
          (elim (cases_Bool (names on g.place)) [
            | inr other ↦ not_on number on c g.place (half_of g.gate.number + k) other
            | inl here ↦
                let is_last : g.gate.number ≡ l.number =
                ready.halves before (record { picks = λ p t live. stands.picks (log_slice p) t live; inside = stands.inside }) g is here in
                not_of_log number on c g.place (half_of g.gate.number + k)
                (other_half number g.gate.number k (omega (arith, terms.number_is, is_last)) below)
                (ap (λ b. b && has_number number (c (log_slice g.place) (half_of g.gate.number + k))) (ne_eqb (half_of g.gate.number + k) 1 (λ one. absurd (omega (arith, one, half_least g.gate.number)))))
          ])));
    }

-- so the same is pending there, and the log isn't damaged unless it is there
log_pending : (c e : Image) → SameLog c e → pending (deciding c) c ≡ pending (deciding e) e
log_pending c e same = ap (λ ps. pending ps c) same.places ∙ pending_by c e (deciding e) same.gates same.records

log_whole : (c e : Image) → SameLog c e → IsWhole e → IsWhole c
log_whole c e same whole = ap (λ ps. damaged_log ps c) same.places ∙ whole_by c e (deciding e) same.gates same.records whole

-- ---- the two cases

record Someone (l : LogView) (on : List ℕ) (number : ℕ) (opened : List ℕ) (c : Image) : Type 0 where
  place : ℕ
  decides : Decides c place
  new : IsNew number l.added opened c place

-- all gates that decide are old, or one has the whole record
early_either : (l : LogView) (on : List ℕ) (number : ℕ) (opened closed : List ℕ) (a : RackView) (c : Image) → IsReady l on a
    → IsEarly l on number opened a c → ((p : ℕ) → names (deciding c) p ≡ true → IsOld l a c p) ⊎ Deciders l number opened closed a c
early_either l on number opened closed a c ready early =
    elim (each_or (IsOld l a c) (Someone l on number opened c) (deciding c)
    (λ p among.
    let decides : Decides c p = named_decides c p among in
    elim (early_gate l on number opened a c ready early p decides) [
      | inl old ↦ inl old
      | inr new ↦ inr (record { place = p; decides = decides; new = new.1 })
    ])) [
      | inl olds ↦ inl olds
      | inr someone ↦ inr (record {
        each = λ p decides.
            elim (early_gate l on number opened a c ready early p decides) [
              | inl old ↦ is_old old
              | inr new ↦ is_new new.1
            ];
        one = someone.place;
        one_decides = someone.decides;
        has = inl someone.new;
      })
    ]

pub early_commits : (l : LogView) (on : List ℕ) (number : ℕ) (opened closed : List ℕ) (a : RackView) (c : Image) → IsReady l on a → Terms l on number opened closed a
    → IsEarly l on number opened a c → ImageInCommit l.added a c
unfolding log_restored
early_commits l on number opened closed a c ready terms early =
    elim (early_either l on number opened closed a c ready early) [
      | inl olds ↦ record {
        before = log_restored number on a c;
        stands = log_stands l on number opened closed a c terms early;
        either =
            inl (λ d t other.
            same_replayed a c (log_restored number on a c) d t (log_pending c (log_restored number on a c) (log_same l on number opened closed a c ready terms early olds))
            (sym (restored_there (of_log number on c) a c d t (not_of_log-other number on c d t other))));
        whole = log_whole c (log_restored number on a c) (log_same l on number opened closed a c ready terms early olds);
      }
      | inr deciders ↦
          let committed : ImageAfterCommit l.added a c =
          all_committed l on number opened closed a c terms early.around
          (λ p live. elim (early.gates p live) [ inl old ↦ inl old | inr new ↦ inr new.0 ])
          (λ d t live other. inl (early.others d t live other))
          (late_pending l on number opened closed a c terms deciders)
          (late_whole l on number opened closed a c terms deciders) in
          record { before = committed.before; stands = committed.stands; either = inr committed.all; whole = λ before. committed.whole }
    ]

-- and what the log slices say, as they stand
pub early_midway : (l : LogView) (on : List ℕ) (number : ℕ) (opened closed : List ℕ) (a : RackView) (c : Image) → IsReady l on a → Terms l on number opened closed a
    → IsEarly l on number opened a c → StandsMidway l on a c
unfolding log_restored
early_midway l on number opened closed a c ready terms early =
    let states = early_states l on number opened a c early in
    let gates : HasGates on a c = λ p live. elim (early.gates p live) [ inl old ↦ inl old | inr new ↦ inr new.0 ] in
    record {
      states = states;
      gates = λ p other live. elim (gates p live) [ inl old ↦ old | inr named ↦ absurd (both_ways (names on p) other named) ];
      inside = early.around.inside;
      pends = elim (early_either l on number opened closed a c ready early) [
        | inr deciders ↦ inr (deciders_pends l on number opened closed a c ready terms deciders states early.around.inside gates)
        | inl olds ↦ inl (record {
          before = log_restored number on a c;
          stands = log_stands l on number opened closed a c terms early;
          copies = λ p. sym (restored_there (of_log number on c) a c (log_slice p) 0 (not_of_log-other number on c (log_slice p) 0 (not_state p)));
          same = log_pending c (log_restored number on a c) (log_same l on number opened closed a c ready terms early olds);
        })
      ];
    }
