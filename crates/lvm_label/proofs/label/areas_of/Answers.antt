use Rattle.std.proofs.Common.{◌≡◌, ℕ, ◌∙◌, List, Bool, length, sym, ap, arith}
use Rattle.std.proofs.lemmas.Bool.{eqb-true, eq-eqb, false≢true}
use Rattle.lvm_label.specs.Label.{areas_at, area_at, ends_list}
use Rattle.lvm_label.specs.declared.label.Area.{Area}
use Rattle.lvm_label.proofs.Areas.{goes_on_with, ends, is_full, is_short}
use Rattle.lvm_label.proofs.label.areas_of.Goals as goal

-- what the test says of the bytes
test_is : (area : Area) (bytes : List ℕ) (b v : Bool) → area ≡ area_at bytes → b ≡ ends_list area → b ≡ v → ends_list (area_at bytes) ≡ v
test_is area bytes b v is tested found = ap ends_list (sym is) ∙ sym tested ∙ found

pub returns-then-is_end : goal.returns-then-is_end
returns-then-is_end c =
    rw c.from.ensures.rest (ends c.loop-rest.areas.items c.loop-rest.rest.now (areas_at 8 c.args.bytes.now) c.loop-rest-test.true
    (test_is c.area_of-area.result c.loop-rest.rest.now c.is_end.result _ c.area_of-area.ensures c.is_end.ensures c.if-is_end.true) c.loop-rest.invariant.0)

pub returns-then-is_full : goal.returns-then-is_full
returns-then-is_full c =
    is_full c.loop-rest.areas.items c.loop-rest.rest.now (areas_at 8 c.args.bytes.now) c.loop-rest-test.true
    (test_is c.area_of-area.result c.loop-rest.rest.now c.is_end.result _ c.area_of-area.ensures c.is_end.ensures c.if-is_end.false)
    (eqb-true _ _ (sym c.is_full.ensures.value ∙ c.if-is_full.true)) c.loop-rest.invariant.0

pub loop-rest-preserved : goal.loop-rest-preserved
loop-rest-preserved c =
    let room : length c.loop-rest.areas.items ≡ 8 → ⊥ = λ full. false≢true (sym c.if-is_full.false ∙ c.is_full.ensures.value ∙ eq-eqb _ _ full) in
    goes_on_with c.loop-rest.areas.items c.push.new.self.items c.area_of-area.result c.loop-rest.rest.now c.from-rest.result.now (areas_at 8 c.args.bytes.now)
    c.area_of-area.ensures c.from-rest.ensures.rest c.push.ensures.items c.loop-rest-test.true
    (test_is c.area_of-area.result c.loop-rest.rest.now c.is_end.result _ c.area_of-area.ensures c.is_end.ensures c.if-is_end.false)
    (omega arith) c.loop-rest.invariant.0

pub returns : goal.returns
returns c = is_short c.loop-rest.areas.items c.loop-rest.rest.now (areas_at 8 c.args.bytes.now) c.loop-rest-test.false c.loop-rest.invariant.0
