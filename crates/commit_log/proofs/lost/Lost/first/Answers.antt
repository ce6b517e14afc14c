use Rattle.std.proofs.Common.{◌≡◌, ◌-◌, ℕ, find, ap, ◌∙◌, arith}
use Rattle.std.specs.List.{range_with_len}
use Rattle.log_laws.specs.Phases.{went}
use Rattle.commit_log.proofs.lost.Lost.first.Goals as goal

pub returns : goal.returns
returns c =
    let last : c.loop-place.place ≡ 0 = omega (arith, c.loop-place-test.false) in
    c.loop-place.invariant ∙ ap (λ (n : ℕ). find (went c.args.self.now.places) (range_with_len n (16 - n))) last
