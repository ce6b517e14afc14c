-- Logs of two contents that agree but on places whose gates have lower numbers than the pending record's: the same is pending there.
use Rattle.std.proofs.Common.{◌≡◌, ℕ, ◌<◌, Bool, true, false, filter, List, Some, None, sym, ap, ◌∙◌}
use Rattle.rack.specs.Seen.{Image}
use Rattle.array_image.specs.Places.{log_slice}
use Rattle.array_image.specs.Record.{Gate, GateAt, damaged_log, gate_in, gate_sector, is_bad_gate, pending, pending_at, record_in, record_of}
use Rattle.log_laws.specs.View.{names}
use Rattle.commit_log.proofs.Fewer.{names_filter, pending_kept}
use Rattle.commit_log.proofs.Replayable.{pending_named}
use Rattle.commit_log.proofs.Restored.{pending_at_by, pending_by}
use Rattle.commit_log.proofs.Undamaged.{whole_by, whole_from, whole_gates, whole_record}
use Rattle.pool_rest.specs.Moments.{IsNoneOrBelow}
use Rattle.pool_rest.proofs.Joining.{below_formed, below_number, pending_more, targets_more, whole_more}

module _ (c e : Image) (f : ℕ → Bool) (ps : List ℕ) (a : GateAt) (is : pending_at ps c ≡ Some a) (kept : f a.place ≡ true) (whole : damaged_log ps c ≡ None)
    (agree : (p u : ℕ) → names ps p ≡ true → f p ≡ true → e (log_slice p) u ≡ c (log_slice p) u)
    (lower : (p : ℕ) (g : Gate) → names ps p ≡ true → f p ≡ false → gate_in c p ≡ Some g → g.number < a.gate.number)
    (other : (p : ℕ) → names ps p ≡ true → f p ≡ false → IsNoneOrBelow a.gate.number (e (log_slice p) gate_sector)) where
  fewer_c : pending_at (filter f ps) c ≡ Some a
  fewer_c = pending_kept c f ps a kept is

  gates : (p : ℕ) → names (filter f ps) p ≡ true → e (log_slice p) gate_sector ≡ c (log_slice p) gate_sector
  gates p among = let of = names_filter f ps p among in agree p gate_sector of.1 of.0

  records : (b : GateAt) → pending_at (filter f ps) c ≡ Some b → record_in e b.place b.gate.number ≡ record_in c b.place b.gate.number
  records b at =
      let of = names_filter f ps b.place (pending_named (filter f ps) c b at).0 in
      ap (record_of b.gate.number) (λ j u. agree b.place u of.1 of.0 j)

  fewer_e : pending_at (filter f ps) e ≡ Some a
  fewer_e = pending_at_by e c (filter f ps) gates ∙ fewer_c

  lower_e : (p : ℕ) (g : Gate) → names ps p ≡ true → f p ≡ false → gate_in e p ≡ Some g → g.number < a.gate.number
  lower_e p g named out has = below_number a.gate.number (e (log_slice p) gate_sector) g (other p named out) has

  formed_e : (p : ℕ) → names ps p ≡ true → f p ≡ false → is_bad_gate e p ≡ false
  formed_e p named out = below_formed a.gate.number (e (log_slice p) gate_sector) (other p named out)

  whole_c : damaged_log (filter f ps) c ≡ None
  whole_c =
      whole_from c (filter f ps) (λ p among. whole_gates c ps p whole (names_filter f ps p among).1)
      (λ b at. whole_record c ps whole b (is ∙ sym fewer_c ∙ at))

  whole_e : damaged_log (filter f ps) e ≡ None
  whole_e = whole_by e c (filter f ps) gates records whole_c

  pub pending_lower : pending_at ps e ≡ Some a
  pending_lower = pending_more e f ps a fewer_e lower_e

  pub whole_lower : damaged_log ps e ≡ None
  whole_lower = whole_more e f ps a fewer_e lower_e formed_e whole_e

  pub targets_lower : pending ps e ≡ pending ps c
  targets_lower =
      targets_more e f ps a fewer_e lower_e formed_e whole_e
      ∙ pending_by e c (filter f ps) gates records
      ∙ sym (targets_more c f ps a fewer_c lower (λ p named out. whole_gates c ps p whole named) whole_c)
