use Rattle.std.proofs.Common.{◌≡◌, ◌-◌, ℕ, map, ap, ◌∙◌, arith}
use Rattle.std.specs.List.{list_all, range_with_len}
use Rattle.array_image.specs.Record.{is_open_if_of}
use Rattle.commit_log.specs.Scans.{at_seen}
use Rattle.commit_log.proofs.scan.Scan.all_open.Goals as goal

pub returns : goal.returns
returns c =
    let last : c.loop-place.place ≡ 0 = omega (arith, c.loop-place-test.false) in
    c.loop-place.invariant ∙ ap (λ (n : ℕ). list_all (is_open_if_of c.args.number) (map (at_seen c.args.self.now.gates) (range_with_len n (16 - n)))) last
