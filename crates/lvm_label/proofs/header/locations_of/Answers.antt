use Rattle.std.proofs.Common.{◌≡◌, ◌<◌, ◌∙◌, length, sym, arith}
use Rattle.std.proofs.lemmas.Bool.{eqb-true, eq-eqb, ne_eqb, false≢true}
use Rattle.lvm_label.specs.Fields.{number_at}
use Rattle.lvm_label.specs.Header.{locations_at}
use Rattle.lvm_label.proofs.Locations.{goes_on, ends, is_full}
use Rattle.lvm_label.proofs.header.locations_of.Goals as goal

pub returns-then-is_full : goal.returns-then-is_full
returns-then-is_full c =
    is_full c.loop-rest.locations.items c.loop-rest.rest.now (locations_at 4 c.args.bytes.now)
    (ne_eqb (number_at 8 0 c.loop-rest.rest.now) 0 (λ e. c.loop-rest-test.true (c.u64_at.ensures ∙ e)))
    (eqb-true _ _ (sym c.is_full.ensures.value ∙ c.if-is_full.true)) c.loop-rest.invariant.0

pub loop-rest-preserved : goal.loop-rest-preserved
loop-rest-preserved c =
    let room : length c.loop-rest.locations.items ≡ 4 → ⊥ = λ full. false≢true (sym c.if-is_full.false ∙ c.is_full.ensures.value ∙ eq-eqb _ _ full) in
    let low : length c.loop-rest.locations.items < 4 = omega (arith, c.loop-rest.invariant.1) in (
      goes_on c.loop-rest.locations.items c.push.new.self.items c.location_of.result c.loop-rest.rest.now c.from-rest.result.now (locations_at 4 c.args.bytes.now)
          c.location_of.ensures c.from-rest.ensures.rest c.push.ensures.items
          (ne_eqb (number_at 8 0 c.loop-rest.rest.now) 0 (λ e. c.loop-rest-test.true (c.u64_at.ensures ∙ e)))
          low c.loop-rest.invariant.0,
      omega (arith, c.push.ensures.len),
      omega (arith, c.push.ensures.len, c.from-rest.ensures.len, c.loop-rest.invariant.2),
    )

pub returns : goal.returns
returns c =
    ends c.loop-rest.locations.items c.loop-rest.rest.now (locations_at 4 c.args.bytes.now)
    (eq-eqb (number_at 8 0 c.loop-rest.rest.now) 0 (sym c.u64_at.ensures ∙ c.loop-rest-test.false)) c.loop-rest.invariant.0
