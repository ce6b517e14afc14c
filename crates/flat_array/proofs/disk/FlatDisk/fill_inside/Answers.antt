-- Each sector is written.
use Rattle.std.proofs.Common.{◌≡◌, ◌-◌, true, nat_lt, if◌then◌else◌, sym, ◌∙◌, ap, subst, arith}
use Rattle.std.proofs.lemmas.Bool.Decides.{nat_tests}
use Rattle.flat_array.specs.Array.{written, filled}
use Rattle.flat_array.specs.Disk.{DiskIs}
use Rattle.flat_array.proofs.Filling.{filled_next, filled_none}
use Rattle.flat_array.proofs.disk.FlatDisk.fill_inside.Goals as goal

pub loop-at-init : goal.loop-at-init
loop-at-init c =
    record {
      from = omega arith;
      until = omega arith;
      filled =
          λ a holds.
          let none : c.args.sector - c.args.sector ≡ 0 = omega arith in
          subst (λ b. DiskIs c.args.self.now b)
          (sym (ap (λ count. filled a c.args.sector count c.args.value.now) none ∙ filled_none a c.args.sector c.args.value.now))
          holds;
    }

pub loop-at-preserved : goal.loop-at-preserved
loop-at-preserved c =
    let from = c.loop-at.invariant.from in
    record {
      from = omega arith;
      until = omega arith;
      filled =
          λ a holds.
          let before = filled a c.args.sector (c.loop-at.at - c.args.sector) c.args.value.now in
          let size = holds.size in
          let within : nat_lt c.loop-at.at a.size ≡ true = grind (arith, nat_tests) in
          subst (λ b. DiskIs c.write.new.self b)
          (ap (λ here. if here then written before c.loop-at.at c.args.value.now else before) within
          ∙ filled_next a c.args.sector c.loop-at.at c.args.value.now from)
          (c.in-Ok.ensures.done before (c.loop-at.invariant.filled a holds));
    }

pub returns-clause-done : goal.returns-clause-done
returns-clause-done c =
    λ a holds.
    let until = c.loop-at.invariant.until in
    let from = c.loop-at.invariant.from in
    let all : c.loop-at.at - c.args.sector ≡ c.args.count = omega arith in
    subst (λ count. DiskIs c.loop-at.self (filled a c.args.sector count c.args.value.now)) all
    (c.loop-at.invariant.filled a holds)

pub returns-in-Err-clause-stays : goal.returns-in-Err-clause-stays
returns-in-Err-clause-stays c =
    λ a holds.
    c.unfill.ensures a c.args.value.now
    (c.in-Err.ensures.stays (filled a c.args.sector (c.loop-at.at - c.args.sector) c.args.value.now)
    (c.loop-at.invariant.filled a holds))
