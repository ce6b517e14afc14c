use Rattle.std.proofs.Common.{◌≡◌, ◌-◌, ℕ, Option, map, refl, sym, ap, ◌∙◌, arith}
use Rattle.std.specs.List.{range_with_len}
use Rattle.array_image.specs.Foremost.{ahead, foremost}
use Rattle.array_image.specs.Record.{GateAt}
use Rattle.commit_log.specs.Scans.{at_seen, gate_is, number_of}
use Rattle.commit_log.proofs.Scanning.{front_some, front_none}
use Rattle.commit_log.proofs.scan.Scan.decisive.Goals as goal

pub loop-place-init : goal.loop-place-init
unfolding foremost
loop-place-init c = record { front = refl; place = tt }

pub loop-place-preserved-in-Some : goal.loop-place-preserved-in-Some
loop-place-preserved-in-Some c =
    let n = c.loop-place.place in
    record {
      front =
          c.ahead.ensures.gate
          ∙ ap (λ (o : Option GateAt). ahead number_of (record { place = n - 1; gate = gate_is c.in-Some.gate }) o) c.loop-place.invariant.front
          ∙ sym (front_some c.args.self.now.gates n (gate_is c.in-Some.gate) (omega (arith, c.loop-place-test.true)) (omega (arith, c.loop-place.auto.place)) (sym c.in-Some.ensures));
      place = c.ahead.ensures.place (omega (arith, c.loop-place.auto.place, c.loop-place-test.true)) c.loop-place.invariant.place;
    }

pub loop-place-preserved : goal.loop-place-preserved
loop-place-preserved c =
    let n = c.loop-place.place in
    record {
      front =
          c.loop-place.invariant.front
          ∙ sym (front_none c.args.self.now.gates n (omega (arith, c.loop-place-test.true)) (omega (arith, c.loop-place.auto.place)) (sym c.in_default.ensures));
      place = c.loop-place.invariant.place;
    }

pub returns-clause-gate : goal.returns-clause-gate
returns-clause-gate c =
    let last : c.loop-place.place ≡ 0 = omega (arith, c.loop-place-test.false) in
    c.loop-place.invariant.front
    ∙ ap (λ (n : ℕ). foremost number_of (map (at_seen c.args.self.now.gates) (range_with_len n (16 - n)))) last
