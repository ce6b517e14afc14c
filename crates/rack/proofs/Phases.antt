-- Calls of a rack are phases, and phases in a row are one. These are promises to every layer above: a call's clause is joined
-- from its phases by `phase_then`, one step a call.
use Rattle.std.proofs.Common.{◌≡◌, ℕ, Bool, true, false, ◌==◌, ◌||◌, if◌then◌else◌, List, [], ◌∷◌, ◌++◌, Option, Some, None, Ok, Err, refl, sym, ap, subst, ◌∙◌, inl, inr, eq-eqb, eqb-true}
use Rattle.std.specs.Option.{option_or}
use Rattle.std.proofs.lemmas.Option.{none-some, cond_some}
use Rattle.std.proofs.lemmas.Bool.{both_ways, cases_Bool, and_parts, and_from, or_parts, cond-true}
use Rattle.rack.specs.declared.Gone.{Gone}
use Rattle.rack.specs.Values.{MayLeave}
use Rattle.rack.specs.Seen.{RackView, IsLive, SameRack, Rose, appended}
use Rattle.rack.specs.Calls.{KeepsAll, Reads, Writes, Syncs}
use Rattle.rack.specs.Joins.{live_first, live_second, rose_later, rose_early}
use Rattle.rack.specs.Targets.{Target, is_at, look, target}
use Rattle.rack.specs.Sequences.{IsPayload, Phase, SyncsEach, gone_too}
use Rattle.rack.proofs.Writing.{appended_here, only_none, only_quiet, only_written, only_refused, only_weaker, only_then}

-- ---- lists of targets

pub payload_first : (xs ys : List Target) (d s : ℕ) (v : List ℕ) → IsPayload xs d s v → IsPayload (xs ++ ys) d s v
payload_first [] ys d s v is = absurd is
payload_first (x ∷ xs) ys d s v (inl here) = inl here
payload_first (x ∷ xs) ys d s v (inr later) = inr (payload_first xs ys d s v later)

pub payload_second : (xs ys : List Target) (d s : ℕ) (v : List ℕ) → IsPayload ys d s v → IsPayload (xs ++ ys) d s v
payload_second [] ys d s v is = is
payload_second (x ∷ xs) ys d s v is = inr (payload_second xs ys d s v is)

option_or-assoc : (a b c : Option (List ℕ)) → option_or (option_or a b) c ≡ option_or a (option_or b c)
option_or-assoc None b c = refl
option_or-assoc (Some v) b c = refl

option_or-none : (a : Option (List ℕ)) → option_or a None ≡ a
option_or-none None = refl
option_or-none (Some v) = refl

-- the later list counts
pub look-append : (xs ys : List Target) (d s : ℕ) → look (xs ++ ys) d s ≡ option_or (look ys d s) (look xs d s)
unfolding look
look-append [] ys d s = sym (option_or-none (look ys d s))
look-append (x ∷ xs) ys d s =
    ap (λ o. option_or o (if is_at d s x then Some x.bytes else None)) (look-append xs ys d s)
    ∙ option_or-assoc (look ys d s) (look xs d s) (if is_at d s x then Some x.bytes else None)

none_both : (a b : Option (List ℕ)) → option_or a b ≡ None → (a ≡ None) × (b ≡ None)
none_both None b is = (refl, is)
none_both (Some v) b is = absurd (none-some v (sym is))

-- which of two lists a sector's last payload is of
data FromWhich (a b : Option (List ℕ)) (w : List ℕ) : Type 0 where
  of_second : a ≡ Some w → FromWhich a b w
  of_first : a ≡ None → b ≡ Some w → FromWhich a b w

from_which : (a b : Option (List ℕ)) (w : List ℕ) → option_or a b ≡ Some w → FromWhich a b w
from_which None b w is = of_first refl is
from_which (Some v) b w is = of_second is

-- a sector that no target is for has no payload
pub payload_none : (xs : List Target) (d s : ℕ) → look xs d s ≡ None → (v : List ℕ) → IsPayload xs d s v → ⊥
unfolding look
payload_none [] d s none v is = is
payload_none (x ∷ xs) d s none v (inl here) =
    let both = none_both (look xs d s) (if is_at d s x then Some x.bytes else None) none in
    none-some x.bytes (sym both.1 ∙ cond-true (is_at d s x) (Some x.bytes) None here.0)
payload_none (x ∷ xs) d s none v (inr later) =
    payload_none xs d s (none_both (look xs d s) (if is_at d s x then Some x.bytes else None) none).0 v later

-- ---- one target

eq_same : (m n : ℕ) → (m == n) ≡ true → (n == m) ≡ true
eq_same m n is = eq-eqb n m (sym (eqb-true m n is))

-- it is a payload of its own
pub target_is : (disk sector : ℕ) (v : List ℕ) → IsPayload (target disk sector v ∷ []) disk sector v
target_is disk sector v = inl (and_from _ _ (eq-eqb disk disk refl) (eq-eqb sector sector refl), refl)

-- it is for its own sector alone
pub target_look :
    (disk sector d s : ℕ) (v w : List ℕ)
    → look (target disk sector v ∷ []) d s ≡ Some w
    → (d ≡ disk) × (s ≡ sector) × (v ≡ w)
unfolding look
target_look disk sector d s v w some =
    let found = cond_some (is_at d s (target disk sector v)) v w some in
    let parts = and_parts (disk == d) (sector == s) found.0 in
    (sym (eqb-true disk d parts.0), sym (eqb-true sector s parts.1), found.1)

-- ---- one call

-- of two, the first
pub first_is : (p q : Bool) → q ≡ false → (p || q) ≡ true → p ≡ true
first_is true q left is = refl
first_is false q left is = absurd (both_ways q left is)

-- whoever has gone newly has the cause
gone_cause :
    (a b : RackView) (went : ℕ → Bool) (disk : ℕ)
    → Rose (a.faults disk) (b.faults disk)
    → (d : ℕ)
    → went d ≡ false
    → gone_too disk went d ≡ true
    → Rose (a.faults d) (b.faults d)
gone_cause a b went disk rose d left gone =
    subst (λ k. Rose (a.faults k) (b.faults k)) (sym (eqb-true d disk (first_is (d == disk) (went d) left gone))) rose

-- no call
pub phase_none : (a : RackView) (went : ℕ → Bool) → a.fit → Phase a a [] went went
unfolding look
phase_none a went fit =
    record {
      only = only_none a (IsPayload []) fit;
      still = λ d here. here;
      cause = λ d here gone. absurd (both_ways (went d) here gone);
      last = λ d s w live here some. absurd (none-some w some);
    }

-- calls that bring no value: a read, a sync, or many of them
pub phase_quiet : {a b : RackView} (went : ℕ → Bool) → SameRack a b → KeepsAll a b → Phase a b [] went went
unfolding look
phase_quiet went stays keeps =
    record {
      only = only_quiet (IsPayload []) stays keeps;
      still = λ d here. here;
      cause = λ d here gone. absurd (both_ways (went d) here gone);
      last = λ d s w live here some. absurd (none-some w some);
    }

-- a disk has gone in it, with its cause: a read or a sync was refused
pub phase_gone :
    {a b : RackView} (went : ℕ → Bool) (disk : ℕ)
    → Rose (a.faults disk) (b.faults disk)
    → Phase a b [] went went
    → Phase a b [] went (gone_too disk went)
phase_gone {a} {b} went disk rose phase =
    record {
      only = phase.only;
      still = λ d here. (or_parts (d == disk) (went d) here).1;
      cause = gone_cause a b went disk rose;
      last = λ d s w live here some. phase.last d s w live (or_parts (d == disk) (went d) here).1 some;
    }

-- a read
pub phase_read :
    {a b : RackView} (went : ℕ → Bool) (disk sector : ℕ) (into : List ℕ)
    → Reads a b disk sector into {X = Unit {0}} (Ok tt)
    → Phase a b [] went went
phase_read went disk sector into reads = phase_quiet went reads.stays reads.keeps

-- a read that was refused: its disk has gone
pub phase_unread :
    {a b : RackView} (went : ℕ → Bool) (disk sector : ℕ) (into : List ℕ) (gone : Gone)
    → Reads a b disk sector into {X = Unit {0}} (Err gone)
    → Phase a b [] went (gone_too disk went)
phase_unread went disk sector into gone reads =
    phase_gone went disk reads.cause.gone.1 (phase_quiet went reads.stays reads.keeps)

-- a write that was answered
pub phase_write :
    {a b : RackView} (went : ℕ → Bool) (disk sector : ℕ) (v : List ℕ)
    → Writes a b disk sector v {X = Unit {0}} (Ok tt)
    → Phase a b (target disk sector v ∷ []) went went
phase_write {a} {b} went disk sector v writes =
    record {
      only = only_written (IsPayload (target disk sector v ∷ [])) disk sector v (target_is disk sector v) writes;
      still = λ d here. here;
      cause = λ d here gone. absurd (both_ways (went d) here gone);
      last =
          λ d s w live here some.
          let at = target_look disk sector d s v w some in
          let value : (appended a.held disk sector v d s).current ≡ v =
          rw (at.0, at.1) (appended_here a.held disk sector v) in
          (writes.done d s live).current ∙ value ∙ at.2;
    }

-- a write that was refused: its disk has gone
pub phase_refused :
    {a b : RackView} (went : ℕ → Bool) (disk sector : ℕ) (v : List ℕ) (gone : Gone)
    → Writes a b disk sector v {X = Unit {0}} (Err gone)
    → Phase a b (target disk sector v ∷ []) went (gone_too disk went)
phase_refused {a} {b} went disk sector v gone writes =
    record {
      only = only_refused (IsPayload (target disk sector v ∷ [])) disk sector v gone (target_is disk sector v) writes;
      still = λ d here. (or_parts (d == disk) (went d) here).1;
      cause = gone_cause a b went disk writes.cause.gone.1;
      last =
          λ d s w live here some.
          let at = target_look disk sector d s v w some in
          absurd (both_ways (d == disk) (or_parts (d == disk) (went d) here).0 (eq-eqb d disk at.0));
    }

-- a target on a disk that has gone needs no call
pub phase_skipped :
    {a b : RackView} (went now : ℕ → Bool) (disk sector : ℕ) (v : List ℕ)
    → Phase a b [] went now
    → now disk ≡ true
    → Phase a b (target disk sector v ∷ []) went now
phase_skipped {a} {b} went now disk sector v phase gone =
    record {
      only = only_weaker (IsPayload []) (IsPayload (target disk sector v ∷ [])) (λ d s u none. absurd none) phase.only;
      still = phase.still;
      cause = phase.cause;
      last =
          λ d s w live here some.
          let at = target_look disk sector d s v w some in
          absurd (both_ways (now d) here (ap now at.0 ∙ gone));
    }

-- ---- calls in a row

-- phases in a row
pub phase_then :
    {a b c : RackView} (xs ys : List Target) (went between now : ℕ → Bool)
    → Phase a b xs went between
    → Phase b c ys between now
    → Phase a c (xs ++ ys) went now
phase_then {a} {b} {c} xs ys went between now one two =
    record {
      only =
          only_then
          (IsPayload (xs ++ ys))
          (only_weaker (IsPayload xs) (IsPayload (xs ++ ys)) (λ d s v. payload_first xs ys d s v) one.only)
          (only_weaker (IsPayload ys) (IsPayload (xs ++ ys)) (λ d s v. payload_second xs ys d s v) two.only);
      still = λ d here. one.still d (two.still d here);
      cause =
          λ d here gone.
          elim (cases_Bool (between d)) [
            | inl early ↦ rose_early a b c d two.only.stays (one.cause d here early)
            | inr left ↦ rose_later a b c d one.only.stays (two.cause d left gone)
          ];
      last =
          λ d s w live here some.
          elim (from_which (look ys d s) (look xs d s) w (sym (look-append xs ys d s) ∙ some)) [
            | of_second at ↦ two.last d s w (live_second one.only.stays live) here at
            | of_first none at ↦
                (two.only.others d s (live_second one.only.stays live) (payload_none ys d s none)).current
                ∙ one.last d s w (live_first two.only.stays live) (two.still d here) at
          ];
    }

-- who has gone may be said by another map
pub phase_same :
    {a b : RackView} (xs : List Target) (went now other : ℕ → Bool)
    → ((d : ℕ) → now d ≡ other d)
    → Phase a b xs went now
    → Phase a b xs went other
phase_same {a} {b} xs went now other same phase =
    let path : now ≡ other = λ i d. same d i in
    subst (λ (g : ℕ → Bool). Phase a b xs went g) path phase

-- ---- syncs

-- no disk was to be synced
pub syncs_none : (a : RackView) (went : ℕ → Bool) → a.fit → SyncsEach a a (λ d. false) went went
syncs_none a went fit =
    record { phase = phase_none a went fit; done = λ d s on. absurd (both_ways false refl on) }

-- one was
pub syncs_one :
    {a b : RackView} (went : ℕ → Bool) (disk : ℕ)
    → Syncs a b disk {X = Unit {0}} (Ok tt)
    → SyncsEach a b (λ d. d == disk) went went
syncs_one {a} {b} went disk syncs =
    record {
      phase = phase_quiet went syncs.stays syncs.keeps;
      done =
          λ d s on here live v left.
          subst
          (λ k. IsLive a b k s → MayLeave (b.held k s) v → v ≡ (b.held k s).current)
          (sym (eqb-true d disk on))
          (λ at may. syncs.done s v at may)
          live
          left;
    }

-- one was to be, and refused
pub syncs_lost :
    {a b : RackView} (went : ℕ → Bool) (disk : ℕ) (gone : Gone)
    → Syncs a b disk {X = Unit {0}} (Err gone)
    → SyncsEach a b (λ d. d == disk) went (gone_too disk went)
syncs_lost {a} {b} went disk gone syncs =
    record {
      phase = phase_gone went disk syncs.gone.1 (phase_quiet went syncs.stays syncs.keeps);
      done = λ d s on here. absurd (both_ways (d == disk) (or_parts (d == disk) (went d) here).0 on);
    }

-- some disks, and then others
pub syncs_then :
    {a b c : RackView} (on too : ℕ → Bool) (went between now : ℕ → Bool)
    → SyncsEach a b on went between
    → SyncsEach b c too between now
    → SyncsEach a c (λ d. on d || too d) went now
syncs_then {a} {b} {c} on too went between now one two =
    record {
      phase = phase_then [] [] went between now one.phase two.phase;
      done =
          λ d s either here live.
          elim (cases_Bool (too d)) [
            | inl second ↦ two.done d s second here (live_second one.phase.only.stays live)
            | inr first ↦
                let before = live_first two.phase.only.stays live in
                let kept = two.phase.only.others d s (live_second one.phase.only.stays live) (λ v none. none) in
                λ v left.
                one.done d s (first_is (on d) (too d) first either) (two.phase.still d here) before v (kept.within v left)
                ∙ sym kept.current
          ];
    }
