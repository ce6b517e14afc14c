-- The parts of a commit, and what a stop in each of them leaves.
use Rattle.std.proofs.Common.{◌≡◌, ℕ, suc, ◌+◌, ◌<◌, ◌≤◌, ◌==◌, ◌||◌, Bool, true, false, nat_lt, not, if◌then◌else◌, List, [], ◌∷◌, length, slice_index, Option, Some, None, refl, sym, ap, ap₂, subst, ◌∙◌, inl, inr, arith, eq-eqb, eqb-true}
use Rattle.std.specs.List.{list_all, list_any}
use Rattle.std.proofs.lemmas.Bool.{both_ways, and_parts, or_parts, cond-true, cond-false}
use Rattle.std.specs.Option.{option_or}
use Rattle.std.proofs.lemmas.List.Folds.{list_any_at}
use Rattle.std.proofs.lemmas.Option.{none-some, cond_some}
use Rattle.rack.specs.Seen.{RackView}
use Rattle.rack.specs.Targets.{Target, is_at, look}
use Rattle.rack.specs.Sequences.{IsPayload}
use Rattle.rack.proofs.Phases.{payload_none}
use Rattle.array_image.specs.Places.{slice_of, place_of, log_slice, log_sectors}
use Rattle.array_image.specs.Record.{gate_sector, half_of, is_target, are_apart}
use Rattle.log_laws.specs.View.{LogView, names}
use Rattle.log_laws.specs.Standing.{IsLogPart}
use Rattle.log_laws.specs.Bytes.{targets_in, IsSealed}
use Rattle.log_laws.specs.Phases.{Settles, IsLogOf, IsOnEach, IsOfRecord, IsHad, IsWanted, IsTargeted, AreLogs, IsClosing}
use Rattle.commit_log.proofs.Amid.{slice_of_log, place_of_log, half_least}
use Rattle.commit_log.proofs.Deciding.{names_either}
use Rattle.log_laws.proofs.Rounds.{early, late, which_some}

-- what is known of a commit's parts: the targets, and the sectors that are written to the logs
pub record Parts (l : LogView) (on : List ℕ) (number : ℕ) (opened closed bytes : List ℕ) (count : ℕ) (a : RackView) : Type 0 where
  pub added : l.added ≡ targets_in bytes count
  pub sealed : IsSealed number count bytes
  pub valid : list_all is_target (targets_in bytes count) ≡ true
  pub apart : are_apart (targets_in bytes count) ≡ true
  pub targets : (d s : ℕ) (v : List ℕ) → look l.added d s ≡ Some v → IsHad a d s × (IsLogPart d s → ⊥)

-- the four parts in a row: the record, the open gates, the payloads, the closed gates
pub record Story (l : LogView) (on : List ℕ) (number : ℕ) (opened closed bytes : List ℕ) (count : ℕ) (a r g t b : RackView) (w0 w1 w2 w3 w4 : ℕ → Bool) : Type 0 where
  pub writes_record :
      Settles a r (IsLogOf on (length on)) (IsOfRecord on (half_of number) bytes (96 + count)) (IsOfRecord on (half_of number) bytes (96 + count)) w0 w1
  pub opens : Settles r g (IsLogOf on (length on)) (IsOnEach on (length on) gate_sector opened) (IsOnEach on (length on) gate_sector opened) w1 w2
  pub writes_targets : Settles g t (IsTargeted l.added) (IsPayload l.added) (IsWanted g l.added) w2 w3
  pub closes : Settles t b (IsLogOf on (length on)) (IsClosing w3 on closed) (IsClosing w3 on closed) w3 w4

-- ---- which sectors each part writes

not_true : (b : Bool) → not b ≡ true → b ≡ false
not_true true is = absurd (both_ways false refl is)
not_true false is = refl

-- no target is for a sector
no_look : (xs : List Target) (d s : ℕ) → list_any (is_at d s) xs ≡ false → look xs d s ≡ None
unfolding look
no_look [] d s none = refl
no_look (x ∷ xs) d s none =
    let parts = or_parts (is_at d s x) (list_any (is_at d s) xs) none in
    ap₂ (λ o e. option_or o e) (no_look xs d s parts.1) (cond-false (is_at d s x) (Some x.bytes) None parts.0)

pub log_named : (on : List ℕ) (i d : ℕ) → i ≤ length on → IsLogOf on i d → names on (place_of d) ≡ true
log_named on i d within is =
    ap (names on) (ap place_of is.slice ∙ place_of_log (slice_index on is.at))
    ∙ list_any_at (λ q. q == slice_index on is.at) on is.at 0 (omega (arith, is.below, within)) (eq-eqb (slice_index on is.at) (slice_index on is.at) refl)

pub log_is_slice : (on : List ℕ) (i d : ℕ) → IsLogOf on i d → slice_of d ≡ 0
log_is_slice on i d is = ap slice_of is.slice ∙ slice_of_log (slice_index on is.at)

log_next : (q : ℕ) (on : List ℕ) (p : ℕ) → IsLogOf on (length on) (log_slice p) → IsLogOf (q ∷ on) (length (q ∷ on)) (log_slice p)
log_next q on p is = record { at = suc is.at; below = omega (arith, is.below); slice = is.slice }

-- a place of the list has its log slice among them
pub named_log : (on : List ℕ) (p : ℕ) → names on p ≡ true → IsLogOf on (length on) (log_slice p)
named_log [] p named = absurd (both_ways false refl named)
named_log (q ∷ on) p named =
    elim (names_either q on p named) [
      | inl here ↦ record { at = 0; below = omega arith; slice = ap log_slice (sym here) }
      | inr later ↦ log_next q on p (named_log on p later)
    ]

-- a payload is one of a target
pub payload_look : (xs : List Target) (d s : ℕ) (v : List ℕ) → IsPayload xs d s v → (w : List ℕ) × (look xs d s ≡ Some w)
payload_look xs d s v is = of_look (look xs d s) refl
  where
    of_look : (o : Option (List ℕ)) → look xs d s ≡ o → (w : List ℕ) × (look xs d s ≡ Some w)
    of_look None none = absurd (payload_none xs d s none v is)
    of_look (Some w) some = (w, some)

-- of targets that differ it is the last too
pub payload_is : (xs : List Target) (d s : ℕ) (v : List ℕ) → are_apart xs ≡ true → IsPayload xs d s v → look xs d s ≡ Some v
unfolding look
payload_is [] d s v apart is = absurd is
payload_is (x ∷ xs) d s v apart (inl here) =
    let parts = and_parts (not (list_any (is_at x.disk x.sector) xs)) (are_apart xs) apart in
    let at = and_parts (x.disk == d) (x.sector == s) here.0 in
    let none : look xs d s ≡ None =
    no_look xs d s (ap₂ (λ e t. list_any (is_at e t) xs) (sym (eqb-true x.disk d at.0)) (sym (eqb-true x.sector s at.1)) ∙ not_true (list_any (is_at x.disk x.sector) xs) parts.0) in
    ap (λ o. option_or o (if is_at d s x then Some x.bytes else None)) none ∙ cond-true (is_at d s x) (Some x.bytes) None here.0 ∙ ap Some (sym here.1)
payload_is (x ∷ xs) d s v apart (inr later) =
    let parts = and_parts (not (list_any (is_at x.disk x.sector) xs)) (are_apart xs) apart in
    ap (λ o. option_or o (if is_at d s x then Some x.bytes else None)) (payload_is xs d s v parts.1 later)

-- ---- what each part leaves of the others' sectors

pub record_no_gate : (on : List ℕ) (number : ℕ) (bytes : List ℕ) (many d : ℕ) (v : List ℕ) → IsOfRecord on (half_of number) bytes many d gate_sector v → ⊥
record_no_gate on number bytes many d v is = absurd (omega (arith, is.each.there, half_least number))

pub record_no_other : (on : List ℕ) (number : ℕ) (bytes : List ℕ) (many d s : ℕ) (v : List ℕ) → (IsLogPart d s → ⊥) → IsOfRecord on (half_of number) bytes many d s v → ⊥
record_no_other on number bytes many d s v other is =
    other (log_is_slice on (length on) d is.each.disk, omega (arith, is.each.there, half_least number))

pub each_no_other : (on : List ℕ) (block : List ℕ) (d s : ℕ) (v : List ℕ) → (IsLogPart d s → ⊥) → IsOnEach on (length on) gate_sector block d s v → ⊥
each_no_other on block d s v other is = other (log_is_slice on (length on) d is.disk, omega (arith, is.there))

pub target_no_log : (l : LogView) (on : List ℕ) (number : ℕ) (opened closed bytes : List ℕ) (count : ℕ) (a : RackView) (p s : ℕ) (v : List ℕ)
    → Parts l on number opened closed bytes count a → 0 < s → IsPayload l.added (log_slice p) s v → ⊥
target_no_log l on number opened closed bytes count a p s v parts some is =
    let has = payload_look l.added (log_slice p) s v is in
    (parts.targets (log_slice p) s has.0 has.1).1 (slice_of_log p, some)

-- a target that a record may have is no part of the log
valid_here : (x : Target) (d s : ℕ) → is_target x ≡ true → is_at d s x ≡ true → IsLogPart d s → ⊥
valid_here x d s valid at part =
    let same = and_parts (x.disk == d) (x.sector == s) at in
    let log = (and_parts (nat_lt x.disk 272) (not (slice_of x.disk == 0) || (x.sector == 0)) valid).1 in
    let slice : slice_of x.disk ≡ 0 = ap slice_of (eqb-true x.disk d same.0) ∙ part.0 in
    let first : (x.sector == 0) ≡ true = sym (ap (λ b. not b || (x.sector == 0)) (eq-eqb (slice_of x.disk) 0 slice)) ∙ log in
    absurd (omega (arith, eqb-true x.sector 0 first, eqb-true x.sector s same.1, part.1))

pub valid_apart : (xs : List Target) (d s : ℕ) (v : List ℕ) → list_all is_target xs ≡ true → look xs d s ≡ Some v → IsLogPart d s → ⊥
unfolding look
valid_apart [] d s v valid is part = none-some v is
valid_apart (x ∷ xs) d s v valid is part =
    let parts = and_parts (is_target x) (list_all is_target xs) valid in
    elim (which_some (look xs d s) (if is_at d s x then Some x.bytes else None) v is) [
      | early later ↦ valid_apart xs d s v parts.1 later part
      | late none here ↦ valid_here x d s parts.0 (cond_some (is_at d s x) x.bytes v here).0 part
    ]

-- a place of the list has its log slice
pub logs_named : (sectors : ℕ → ℕ) (on : List ℕ) (p : ℕ) → AreLogs sectors on → names on p ≡ true → (p < 16) × (sectors (log_slice p) ≡ log_sectors)
logs_named sectors on p logs named =
    let at = named_log on p named in
    let same : slice_index on at.at ≡ p = omega (arith, at.slice) in
    subst (λ q. (q < 16) × (sectors (log_slice q) ≡ log_sectors)) same (logs at.at at.below)
