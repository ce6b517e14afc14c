-- Loops over the sectors of a record and over its targets.
use Rattle.std.proofs.Common.{◌≡◌, ◌⊎◌, ℕ, zero, suc, ◌+◌, ◌<◌, ◌==◌, ◌||◌, Bool, true, false, if◌then◌else◌, List, [], ◌∷◌, ◌++◌, length, Option, Some, None, refl, sym, ap, subst, ◌∙◌, inl, inr, arith, eq-eqb, eqb-true}
use Rattle.std.specs.Option.{option_or}
use Rattle.std.proofs.lemmas.Bool.{cases_lt, both_ways, and_from, and_parts, cond-true}
use Rattle.std.proofs.lemmas.Option.{none-some, cond_some}
use Rattle.std.proofs.lemmas.List.Folds.{list_any-append}
use Rattle.rack.specs.Seen.{RackView, SameRack}
use Rattle.rack.specs.Targets.{Target, is_at, look}
use Rattle.rack.specs.Sequences.{IsPayload}
use Rattle.rack.proofs.Phases.{look-append, payload_first, payload_second}
use Rattle.log_laws.specs.Bytes.{sector_in, target_in, targets_in}
use Rattle.log_laws.specs.Phases.{Puts, SyncsAll, Settles, IsThere, IsLogOf, IsOnEach, IsOfRecord, IsHad, IsWanted, has_target, IsTargeted, IsTargetedBelow}
use Rattle.log_laws.proofs.Targets.{no_targets, targets_more}
use Rattle.log_laws.proofs.Calling.{calls_weaker, calls_none, puts_then, syncs_then, settles}

-- ---- the sectors of a record

pub record_then : {a b c : RackView} (on : List ℕ) (first : ℕ) (bytes : List ℕ) (i : ℕ) (went between now : ℕ → Bool)
    → Puts a b (IsLogOf on (length on)) (IsOfRecord on first bytes i) (IsOfRecord on first bytes i) went between
    → Puts b c (IsLogOf on (length on)) (IsOnEach on (length on) (first + i) (sector_in bytes i)) (IsOnEach on (length on) (first + i) (sector_in bytes i)) between now
    → Puts a c (IsLogOf on (length on)) (IsOfRecord on first bytes (i + 1)) (IsOfRecord on first bytes (i + 1)) went now
record_then {a} {b} {c} on first bytes i went between now one two =
    let each : ℕ → ℕ → List ℕ → Type 0 = IsOnEach on (length on) (first + i) (sector_in bytes i) in
    puts_then (IsLogOf on (length on)) (IsOfRecord on first bytes i) each (IsOfRecord on first bytes i) each (IsOfRecord on first bytes (i + 1))
    went between now one two.calls
    (λ d s w live here is. two.last d s w live here is)
    (λ d s v is. record { at = is.at; below = omega (arith, is.below); each = is.each })
    (λ d s v is. record { at = i; below = omega arith; each = is })
    (IsOfRecord on first bytes (i + 1))
    (λ d s w is.
    elim (cases_lt is.at i) [
      | inl early ↦ inr (record { at = is.at; below = early; each = is.each }, λ v other. absurd (omega (arith, is.each.there, other.there, early)))
      | inr late ↦
          let last : is.at ≡ i = omega (arith, is.below, late) in
          inl (subst (λ k. IsOnEach on (length on) (first + k) (sector_in bytes k) d s w) last is.each)
    ])

-- ---- targets

pub has_more : (bytes : List ℕ) (k d : ℕ) → has_target (targets_in bytes (k + 1)) d ≡ (has_target (targets_in bytes k) d || ((target_in bytes k).disk == d))
has_more bytes k d =
    ap (λ xs. has_target xs d) (targets_more bytes k)
    ∙ list_any-append (λ (t : Target). t.disk == d) (targets_in bytes k) (target_in bytes k ∷ [])
    ∙ ap (λ b. has_target (targets_in bytes k) d || b) (or_false ((target_in bytes k).disk == d))
  where
    or_false : (b : Bool) → (b || false) ≡ b
    or_false true = refl
    or_false false = refl

pub has_at : (bytes : List ℕ) (count k d : ℕ) → k < count → (target_in bytes k).disk ≡ d → has_target (targets_in bytes count) d ≡ true
has_at bytes zero k d below is = absurd (omega arith)
has_at bytes (suc n) k d below is =
    let one : suc n ≡ n + 1 = omega arith in
    ap (λ m. has_target (targets_in bytes m) d) one ∙ has_more bytes n d
    ∙ elim (cases_lt k n) [
      | inl before ↦ ap (λ b. b || ((target_in bytes n).disk == d)) (has_at bytes n k d before is)
      | inr behind ↦
          let last : n ≡ k = omega (arith, behind, below) in
          or_true (has_target (targets_in bytes n) d) ((target_in bytes n).disk == d) (eq-eqb _ _ (ap (λ m. (target_in bytes m).disk) last ∙ is))
    ]
  where
    or_true : (b c : Bool) → c ≡ true → (b || c) ≡ true
    or_true true c is = refl
    or_true false c is = is

-- which of two answers
pub data Which (a b : Option (List ℕ)) (v : List ℕ) : Type 0 where
  early : a ≡ Some v → Which a b v
  late : a ≡ None → b ≡ Some v → Which a b v

pub which_some : (a b : Option (List ℕ)) (v : List ℕ) → option_or a b ≡ Some v → Which a b v
which_some None b v is = late refl is
which_some (Some w) b v is = early is

here_is : (d s : ℕ) (t : Target) (v : List ℕ) → (if is_at d s t then Some t.bytes else None) ≡ Some v → IsThere t.disk t.sector t.bytes d s v
here_is d s t v is =
    let found = cond_some (is_at d s t) t.bytes v is in
    let parts = and_parts (t.disk == d) (t.sector == s) found.0 in
    record { disk_is = sym (eqb-true t.disk d parts.0); there = sym (eqb-true t.sector s parts.1); value = sym found.1 }

is_here : (d s : ℕ) (t : Target) (v : List ℕ) → IsThere t.disk t.sector t.bytes d s v → is_at d s t ≡ true
is_here d s t v there = and_from _ _ (eq-eqb _ _ (sym there.disk_is)) (eq-eqb _ _ (sym there.there))

-- a payload has a target
pub wanted_target : (xs : List Target) (d s : ℕ) (v : List ℕ) → look xs d s ≡ Some v → has_target xs d ≡ true
unfolding look
wanted_target [] d s v is = absurd (none-some v is)
wanted_target (x ∷ xs) d s v is =
    elim (which_some (look xs d s) (if is_at d s x then Some x.bytes else None) v is) [
      | early at ↦ or_true (x.disk == d) (has_target xs d) (wanted_target xs d s v at)
      | late none at ↦ ap (λ b. b || has_target xs d) (eq-eqb x.disk d (sym (here_is d s x v at).disk_is))
    ]
  where
    or_true : (b c : Bool) → c ≡ true → (b || c) ≡ true
    or_true true c is = refl
    or_true false c is = is

had_after : {a b : RackView} (d s : ℕ) → SameRack a b → IsHad a d s → IsHad b d s
had_after {a} {b} d s stays had = (subst (λ n. d < n) (sym stays.disks) had.0, subst (λ n. s < n) (sym (stays.sectors d)) had.1)

-- a target more is wanted: it is the last, or one before and not the last
last_wanted : (a b : RackView) (xs : List Target) (t : Target) (d s : ℕ) (w : List ℕ) → SameRack a b → IsWanted a (xs ++ t ∷ []) d s w
    → (IsHad b d s × IsThere t.disk t.sector t.bytes d s w)
    ⊎ (IsWanted a xs d s w × ((v : List ℕ) → IsThere t.disk t.sector t.bytes d s v → ⊥))
unfolding look
last_wanted a b xs t d s w stays wanted =
    elim (which_some (look (t ∷ []) d s) (look xs d s) w (sym (look-append xs (t ∷ []) d s) ∙ wanted.1)) [
      | early at ↦ inl (had_after d s stays wanted.0, here_is d s t w at)
      | late none at ↦
          inr (
            (wanted.0, at),
            λ v there.
                none-some t.bytes (sym none ∙ cond-true (is_at d s t) (Some t.bytes) None (is_here d s t v there)),
          )
    ]

pub targets_then : {a b c : RackView} (bytes : List ℕ) (count i : ℕ) (went between now : ℕ → Bool)
    → i < count
    → Puts a b (IsTargeted (targets_in bytes count)) (IsPayload (targets_in bytes i)) (IsWanted a (targets_in bytes i)) went between
    → Puts b c (λ d. d ≡ (target_in bytes i).disk) (IsThere (target_in bytes i).disk (target_in bytes i).sector (target_in bytes i).bytes)
    (λ d s v. IsHad b d s × IsThere (target_in bytes i).disk (target_in bytes i).sector (target_in bytes i).bytes d s v) between now
    → Puts a c (IsTargeted (targets_in bytes count)) (IsPayload (targets_in bytes (i + 1))) (IsWanted a (targets_in bytes (i + 1))) went now
targets_then {a} {b} {c} bytes count i went between now below one two =
    let t : Target = target_in bytes i in
    let xs : List Target = targets_in bytes i in
    let there : ℕ → ℕ → List ℕ → Type 0 = IsThere t.disk t.sector t.bytes in
    let stays : SameRack a b = one.calls.only.stays in
    let longer : targets_in bytes (i + 1) ≡ xs ++ t ∷ [] = targets_more bytes i in
    puts_then (IsTargeted (targets_in bytes count)) (IsPayload xs) (λ d s v. IsHad b d s × there d s v) (IsWanted a xs) there (IsPayload (targets_in bytes (i + 1)))
    went between now one
    (calls_weaker (λ d. d ≡ t.disk) (IsTargeted (targets_in bytes count)) there there between now
    (λ d is. has_at bytes count i d below (sym is)) (λ d s v is. is) two.calls)
    (λ d s w live here is. two.last d s w live here is)
    (λ d s v is. subst (λ ys. IsPayload ys d s v) (sym longer) (payload_first xs (t ∷ []) d s v is))
    (λ d s v is. subst (λ ys. IsPayload ys d s v) (sym longer) (payload_second xs (t ∷ []) d s v (inl (is_here d s t v is, is.value))))
    (IsWanted a (targets_in bytes (i + 1)))
    (λ d s w wanted. last_wanted a b xs t d s w stays (wanted.0, subst (λ ys. look ys d s ≡ Some w) longer wanted.1))

-- ---- syncs of the slices that have targets

-- a slice without one needs no sync
pub untargeted : (a : RackView) (xs : List Target) (disk : ℕ) (went : ℕ → Bool) → a.fit → has_target xs disk ≡ false
    → SyncsAll a a (IsTargeted xs) (λ d. (d ≡ disk) × IsTargeted xs d) went went
untargeted a xs disk went fit none = record {
  calls = calls_none a (IsTargeted xs) (λ d s v. ⊥) went fit;
  done = λ d s on here live. absurd (both_ways (has_target xs disk) none (ap (has_target xs) (sym on.0) ∙ on.1));
}

pub targeted : {a b : RackView} (xs : List Target) (disk : ℕ) (went now : ℕ → Bool) → has_target xs disk ≡ true
    → SyncsAll a b (λ d. d ≡ disk) (λ d. d ≡ disk) went now
    → SyncsAll a b (IsTargeted xs) (λ d. (d ≡ disk) × IsTargeted xs d) went now
targeted {a} {b} xs disk went now has syncs = record {
  calls = calls_weaker (λ d. d ≡ disk) (IsTargeted xs) (λ d s v. ⊥) (λ d s v. ⊥) went now (λ d is. ap (has_target xs) is ∙ has) (λ d s v none. none) syncs.calls;
  done = λ d s on here live. syncs.done d s on.0 here live;
}

pub targeted_then : {a b c : RackView} (xs : List Target) (i : ℕ) (went between now : ℕ → Bool)
    → SyncsAll a b (IsTargeted xs) (IsTargetedBelow xs i) went between
    → SyncsAll b c (IsTargeted xs) (λ d. (d ≡ i) × IsTargeted xs d) between now
    → SyncsAll a c (IsTargeted xs) (IsTargetedBelow xs (i + 1)) went now
targeted_then {a} {b} {c} xs i went between now one two =
    syncs_then (IsTargeted xs) (IsTargetedBelow xs i) (λ d. (d ≡ i) × IsTargeted xs d) (IsTargetedBelow xs (i + 1)) went between now one two
    (λ d on.
    elim (cases_lt d i) [
      | inl before ↦ inl (before, on.1)
      | inr behind ↦ let last : d ≡ i = omega (arith, on.0, behind) in inr (last, on.1)
    ])

-- the payloads of a record, written and synced
pub targets_settled : {a b c : RackView} (xs : List Target) (went between now : ℕ → Bool) → a.disks ≡ 272
    → Puts a b (IsTargeted xs) (IsPayload xs) (IsWanted a xs) went between
    → SyncsAll b c (IsTargeted xs) (IsTargetedBelow xs 272) between now
    → Settles a c (IsTargeted xs) (IsPayload xs) (IsWanted a xs) went now
targets_settled {a} {b} {c} xs went between now many puts syncs =
    settles (IsTargeted xs) (IsPayload xs) (IsWanted a xs) (IsTargetedBelow xs 272) went between now puts syncs
    (λ d s w wanted. (subst (λ n. d < n) many wanted.0.0, wanted_target xs d s w wanted.1))

-- a record, written and synced
pub record_settled : {a b c : RackView} (on : List ℕ) (first : ℕ) (bytes : List ℕ) (many : ℕ) (went between now : ℕ → Bool)
    → Puts a b (IsLogOf on (length on)) (IsOfRecord on first bytes many) (IsOfRecord on first bytes many) went between
    → SyncsAll b c (IsLogOf on (length on)) (IsLogOf on (length on)) between now
    → Settles a c (IsLogOf on (length on)) (IsOfRecord on first bytes many) (IsOfRecord on first bytes many) went now
record_settled {a} {b} {c} on first bytes many went between now puts syncs =
    settles (IsLogOf on (length on)) (IsOfRecord on first bytes many) (IsOfRecord on first bytes many) (IsLogOf on (length on)) went between now puts syncs
    (λ d s w is. is.each.disk)

pub each_settled : {a b c : RackView} (on : List ℕ) (sector : ℕ) (block : List ℕ) (went between now : ℕ → Bool)
    → Puts a b (IsLogOf on (length on)) (IsOnEach on (length on) sector block) (IsOnEach on (length on) sector block) went between
    → SyncsAll b c (IsLogOf on (length on)) (IsLogOf on (length on)) between now
    → Settles a c (IsLogOf on (length on)) (IsOnEach on (length on) sector block) (IsOnEach on (length on) sector block) went now
each_settled {a} {b} {c} on sector block went between now puts syncs =
    settles (IsLogOf on (length on)) (IsOnEach on (length on) sector block) (IsOnEach on (length on) sector block) (IsLogOf on (length on)) went between now puts syncs
    (λ d s w is. is.disk)

pub puts_no_targets : (a : RackView) (bytes : List ℕ) (called : ℕ → Type 0) (went : ℕ → Bool) → a.fit
    → Puts a a called (IsPayload (targets_in bytes 0)) (IsWanted a (targets_in bytes 0)) went went
unfolding look
puts_no_targets a bytes called went fit = record {
  calls = calls_none a called (IsPayload (targets_in bytes 0)) went fit;
  last = λ d s w live here wanted. absurd (none-some w (sym (ap (λ xs. look xs d s) (no_targets bytes)) ∙ wanted.1));
}
