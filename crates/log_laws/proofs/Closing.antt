-- Gates are closed where nobody has gone, and else nothing is done.
use Rattle.std.proofs.Common.{◌≡◌, ℕ, Bool, true, List, length}
use Rattle.std.proofs.lemmas.Bool.{both_ways}
use Rattle.rack.specs.Seen.{RackView}
use Rattle.array_image.specs.Record.{gate_sector}
use Rattle.log_laws.specs.Phases.{Settles, IsLogOf, IsOnEach, AllLeft, IsClosing}
use Rattle.log_laws.proofs.Calling.{calls_none, calls_weaker}

pub closes_all : {a b : RackView} (went now : ℕ → Bool) (on : List ℕ) (block : List ℕ)
    → Settles a b (IsLogOf on (length on)) (IsOnEach on (length on) gate_sector block) (IsOnEach on (length on) gate_sector block) went now
    → AllLeft went
    → Settles a b (IsLogOf on (length on)) (IsClosing went on block) (IsClosing went on block) went now
closes_all went now on block settles all = record {
  calls = calls_weaker _ _ _ (IsClosing went on block) went now (λ d is. is) (λ d s v is. (all, is)) settles.calls;
  durable = λ d s w v live here is left. settles.durable d s w v live here is.1 left;
}

pub closes_none : (a : RackView) (went : ℕ → Bool) (on : List ℕ) (block : List ℕ) → a.fit → (p : ℕ) × (went p ≡ true)
    → Settles a a (IsLogOf on (length on)) (IsClosing went on block) (IsClosing went on block) went went
closes_none a went on block fit some = record {
  calls = calls_none a (IsLogOf on (length on)) (IsClosing went on block) went fit;
  durable = λ d s w v live here is left. absurd (both_ways (went some.0) (is.0 some.0) some.1);
}
