use Rattle.std.proofs.Common.{◌≡◌, ◌-◌, ℕ, map, ap, ◌∙◌, arith}
use Rattle.std.specs.List.{list_any, range_with_len}
use Rattle.commit_log.specs.Scans.{at_seen, is_open_gate}
use Rattle.commit_log.proofs.scan.Scan.is_open.Goals as goal

pub returns : goal.returns
returns c =
    let last : c.loop-place.place ≡ 0 = omega (arith, c.loop-place-test.false) in
    c.loop-place.invariant ∙ ap (λ (n : ℕ). list_any is_open_gate (map (at_seen c.args.self.now.gates) (range_with_len n (16 - n)))) last
