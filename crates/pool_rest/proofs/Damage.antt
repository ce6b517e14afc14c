-- Which log is damaged goes by the places that have a log, and by their gates and the pending record.
use Rattle.std.proofs.Common.{◌≡◌, ℕ, ◌==◌, ◌&&◌, ◌||◌, Bool, true, false, if◌then◌else◌, is_none, find, filter, List, [], ◌∷◌, Option, Some, None, refl, sym, ap, ap₂, ◌∙◌, eqb-true}
use Rattle.std.specs.Option.{option_map_or}
use Rattle.std.proofs.lemmas.Option.{none-some}
use Rattle.rack.specs.Seen.{Image}
use Rattle.rack.specs.Targets.{Target}
use Rattle.array_image.specs.Places.{log_slice}
use Rattle.array_image.specs.Record.{GateAt, gate_sector, gate_of, gate_in, is_there, is_bad_gate, record_in, pending_at, is_bad_log, damaged_log}
use Rattle.log_laws.specs.View.{names}
use Rattle.commit_log.proofs.Deciding.{names_first, names_later}
use Rattle.commit_log.proofs.Fewer.{pending_at_left}
use Rattle.commit_log.proofs.LeftPlaces.{find_left}
use Rattle.commit_log.proofs.Replayable.{pending_named}
use Rattle.commit_log.proofs.Restored.{pending_at_by}

-- ---- the first of a list

find_same : (f g : ℕ → Bool) (ps : List ℕ) → ((p : ℕ) → names ps p ≡ true → f p ≡ g p) → find f ps ≡ find g ps
find_same f g [] same = refl
find_same f g (q ∷ ps) same =
    ap₂ (λ b (o : Option ℕ). if b then Some q else o) (same q (names_first q ps)) (find_same f g ps (λ p named. same p (names_later q ps p named)))

-- ---- the lowest damaged log

-- places without a gate count for nothing
pub damaged_left : (f : ℕ → Bool) (c : Image) (ps : List ℕ) → ((p : ℕ) → f p ≡ false → gate_in c p ≡ None) → ((p : ℕ) → f p ≡ false → is_bad_gate c p ≡ false)
    → damaged_log (filter f ps) c ≡ damaged_log ps c
damaged_left f c ps none good =
    ap (λ (o : Option GateAt). find (λ p. is_bad_gate c p || option_map_or (λ a. (a.place == p) && is_none (record_in c a.place a.gate.number)) o false) (filter f ps))
    (pending_at_left f c ps none)
    ∙ find_left f (is_bad_log ps c) (is_bad_log ps c) ps (λ p is. refl, λ p out. ap₂ (λ a b. a || b) (good p out) (of_pending p out (pending_at ps c) refl))
  where
    other : (p : ℕ) (a : GateAt) → gate_in c p ≡ None → gate_in c a.place ≡ Some a.gate → (b : Bool) → (a.place == p) ≡ b
        → (b && is_none (record_in c a.place a.gate.number)) ≡ false
    other p a nothing has false is = refl
    other p a nothing has true is = absurd (none-some a.gate (sym nothing ∙ ap (gate_in c) (sym (eqb-true a.place p is)) ∙ has))

    of_pending : (p : ℕ) → f p ≡ false → (o : Option GateAt) → pending_at ps c ≡ o
        → option_map_or (λ a. (a.place == p) && is_none (record_in c a.place a.gate.number)) o false ≡ false
    of_pending p out None is = refl
    of_pending p out (Some a) is = other p a (none p out) (pending_named ps c a is).1 (a.place == p) refl

-- contents with the same gates, and the same pending record
pub damaged_by : (c e : Image) (ps : List ℕ) → ((p : ℕ) → names ps p ≡ true → c (log_slice p) gate_sector ≡ e (log_slice p) gate_sector)
    → ((a : GateAt) → pending_at ps e ≡ Some a → record_in c a.place a.gate.number ≡ record_in e a.place a.gate.number)
    → damaged_log ps c ≡ damaged_log ps e
damaged_by c e ps gates records =
    find_same (is_bad_log ps c) (is_bad_log ps e) ps
    (λ p named.
    ap₂ (λ a b. a || b)
    (ap (λ (block : List ℕ). is_there block && is_none (gate_of block)) (gates p named))
    (ap (λ (o : Option GateAt). option_map_or (λ a. (a.place == p) && is_none (record_in c a.place a.gate.number)) o false) (pending_at_by c e ps gates)
    ∙ of_pending p (pending_at ps e) refl))
  where
    of_pending : (p : ℕ) (o : Option GateAt) → pending_at ps e ≡ o
        → option_map_or (λ a. (a.place == p) && is_none (record_in c a.place a.gate.number)) o false
        ≡ option_map_or (λ a. (a.place == p) && is_none (record_in e a.place a.gate.number)) o false
    of_pending p None is = refl
    of_pending p (Some a) is = ap (λ (o : Option (List Target)). (a.place == p) && is_none o) (records a is)
