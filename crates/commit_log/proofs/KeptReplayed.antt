-- A replay in which nobody went leaves what the next commit needs.
use Rattle.std.proofs.Common.{◌≡◌, ◌⊎◌, ℕ, ◌<◌, Bool, true, false, [], ◌∷◌, List, length, Ok, refl, sym, ap, subst, ◌∙◌, inl, inr, arith}
use Rattle.std.proofs.lemmas.Bool.{both_ways, cases_Bool}
use Rattle.std.specs.Option.{option_map_or}
use Rattle.rack.specs.Seen.{Image, RackView, IsLive}
use Rattle.rack.specs.Targets.{Target, look}
use Rattle.pool_state.specs.declared.contents.State.{State}
use Rattle.pool_state.specs.Sector.{decoded}
use Rattle.array_image.specs.Places.{log_slice}
use Rattle.array_image.specs.Record.{Gate, gate_sector, pending}
use Rattle.array_image.specs.States.{is_current}
use Rattle.array_image.specs.Arrays.{replayed}
use Rattle.log_laws.specs.View.{LogView, names}
use Rattle.log_laws.specs.Standing.{LogsStand, deciding, IsNumbered, SomeoneDecides}
use Rattle.log_laws.specs.Commits.{Stands}
use Rattle.log_laws.specs.Opening.{CanReplay, HasWork, ReplayCall}
use Rattle.log_laws.specs.Kept.{CopiesStand, HasClosedGate, LogInvariant}
use Rattle.commit_log.proofs.Amid.{replayed_as}
use Rattle.log_laws.proofs.Kept.{live_on, put_none}
use Rattle.log_laws.proofs.KeptAfter.{logs_after}

-- Where nobody went, nothing is pending, and contents are as they are once they are replayed.
pub replayed_idle : (l : LogView) (on : List ℕ) (a b : RackView) (c : Image) → ReplayCall l on [] a b → CanReplay l a → SomeoneDecides l.pending on [] a
    → LogsStand b c → pending (deciding c) c ≡ []
replayed_idle l on a b c replay can someone stand =
    elim (replay.rests can someone c stand).targets [
      | inl none ↦ none
      | inr both ↦ absurd (both.0 refl)
    ]

pub replayed_same : (l : LogView) (on : List ℕ) (a b : RackView) (c : Image) (d t : ℕ) → ReplayCall l on [] a b → CanReplay l a → SomeoneDecides l.pending on [] a
    → LogsStand b c → replayed b.sectors c d t ≡ c d t
unfolding look
replayed_same l on a b c d t replay can someone stand =
    replayed_as b c [] d t (replayed_idle l on a b c replay can someone stand) ∙ put_none b.sectors [] c d t refl

logs_of : (x : RackView) (c : Image) → Stands x c → LogsStand x c
logs_of x c stand = record { picks = λ p t live. stand.picks (log_slice p) t live; inside = stand.inside }

-- the log has something to write, or not
work_or_not : (l : LogView) → HasWork l ⊎ (HasWork l → ⊥)
work_or_not l = elim (cases_Bool l.is_open) [
  | inl is_open ↦ inl (inr is_open)
  | inr shut ↦ of l.pending refl shut
]
  where
    of : (xs : List Target) → l.pending ≡ xs → l.is_open ≡ false → HasWork l ⊎ (HasWork l → ⊥)
    of [] none shut = inr (λ work. elim work [ inl some ↦ some none | inr is_open ↦ both_ways l.is_open shut is_open ])
    of (x ∷ xs) is shut = inl (inl (λ none. let e = ap length (sym is ∙ none) in absurd (omega (arith, e))))

-- a gate is closed by it, or was and is as it was
closed_replayed : (l : LogView) (on : List ℕ) (a b : RackView) (p : ℕ) → ReplayCall l on [] a b → IsLive a b (log_slice p) gate_sector → names on p ≡ true
    → ((HasWork l → ⊥) → HasClosedGate a p) → HasClosedGate b p
closed_replayed l on a b p replay live named shut v g left is =
    elim (work_or_not l) [
      | inl work ↦ ap (λ o. option_map_or (λ (h : Gate). h.is_open) o false) (sym is ∙ replay.gates work refl p v named live left)
      | inr none ↦ shut none v g (((replay.idle none).held (log_slice p) gate_sector live).within v left) is
    ]

-- With the copies of a state as they stand then, the log is as a commit finds it.
pub kept_opened : (s : State) (gone : ℕ → Bool) (l : LogView) (on : List ℕ) (a b : RackView)
    → ReplayCall l on [] a b → CanReplay l a → SomeoneDecides l.pending on [] a
    → ((p : ℕ) → is_current s p ≡ true → p < 16)
    → ((p : ℕ) → is_current s p ≡ true → gone p ≡ false → 0 < a.sectors (log_slice p))
    → ((p : ℕ) → is_current s p ≡ true → gate_sector < a.sectors (log_slice p) → IsNumbered l.number a p)
    → ((p : ℕ) → is_current s p ≡ true → gate_sector < a.sectors (log_slice p) → names on p ≡ true)
    → ((HasWork l → ⊥) → (p : ℕ) → is_current s p ≡ true → gate_sector < a.sectors (log_slice p) → HasClosedGate a p)
    → CopiesStand s gone b
    → LogInvariant s l.number gone b
kept_opened s gone l on a b replay can someone few there numbers named shut copies =
    let had : (p t : ℕ) → t < b.sectors (log_slice p) → t < a.sectors (log_slice p) = λ p t. subst (λ n. t < n) (replay.stays.sectors (log_slice p)) in
    record {
      logs = logs_after can.lasting replay.stays can.logs;
      few = few;
      there = λ p current left. subst (λ n. 0 < n) (sym (replay.stays.sectors (log_slice p))) (there p current left);
      copies = copies;
      numbers = λ p current within.
          replay.numbers can p (live_on can.lasting replay.stays (can.logs p gate_sector (few p current) (had p gate_sector within)))
          (numbers p current (had p gate_sector within));
      whole = λ c stand. (replay.after can c stand).whole;
      halves = λ c stand g is. (replay.rests can someone c stand).numbers g is;
      idle = λ c stand. inl (replayed_idle l on a b c replay can someone stand);
      closed = λ all p current within.
          closed_replayed l on a b p replay (live_on can.lasting replay.stays (can.logs p gate_sector (few p current) (had p gate_sector within)))
          (named p current (had p gate_sector within)) (λ none. shut none p current (had p gate_sector within));
      quiet = λ c stand d t left. replayed_same l on a b c d t replay can someone (logs_of b c stand);
      brought = λ c p copy stand small within is.
          copies.others p (c (log_slice p) 0) copy small within
          (stand.picks (log_slice p) 0 (logs_after can.lasting replay.stays can.logs p 0 small within))
          (subst (λ u. decoded u ≡ Ok copy) (replayed_same l on a b c (log_slice p) 0 replay can someone (logs_of b c stand)) is);
    }
