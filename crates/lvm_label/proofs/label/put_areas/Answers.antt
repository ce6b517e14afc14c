use Rattle.std.proofs.Common.{◌≡◌, ℕ, ◌++◌, ◌∙◌, List, length, take, replicate, sym, ap, arith, append_assoc}
use Rattle.std.specs.List.{flat_map}
use Rattle.std.proofs.lemmas.List.{take_all}
use Rattle.lvm_label.specs.Fields.{padded}
use Rattle.lvm_label.specs.Label.{area_bytes}
use Rattle.lvm_label.specs.declared.label.Area.{Area}
use Rattle.lvm_label.proofs.Areas.{length-areas_below, areas_more}
use Rattle.lvm_label.proofs.label.put_areas.Goals as goal

pub loop-area-preserved : goal.loop-area-preserved
loop-area-preserved c =
    let width : length c.bytes_of.result ≡ 16 = omega arith in (
      omega (arith, c.loop-area.invariant.0, c.put-end.ensures.end),
      (λ text long was.
          let i : ℕ = c.loop-area.area-index in
          let front : List ℕ = text ++ flat_map area_bytes (take i c.args.areas.now) in
          let known = c.put-end.ensures.appended 492 front (omega arith)
          (length-areas_below c.args.areas.now i c.args.at text (omega arith) long ∙ sym c.loop-area.invariant.0)
          (c.loop-area.invariant.1 text long was) in
          known ∙ ap (padded 492) (append_assoc text (flat_map area_bytes (take i c.args.areas.now)) c.bytes_of.result
          ∙ ap (λ (t : List ℕ). text ++ t) (sym (areas_more c.args.areas.now i _ c.bytes_of.result c.loop-area-test.true c.bytes_of.ensures)))),
    )

pub returns-clause-appended : goal.returns-clause-appended
returns-clause-appended c text long was =
    let i : ℕ = c.loop-area.area-index in
    let areas : List Area = c.args.areas.now in
    let known = c.put.ensures.appended 492 (text ++ flat_map area_bytes (take i areas)) (omega arith)
    (length-areas_below areas i c.args.at text (omega arith) long ∙ sym c.loop-area.invariant.0)
    (c.loop-area.invariant.1 text long was) in
    known ∙ ap (padded 492) (append_assoc text (flat_map area_bytes (take i areas)) (replicate 16 0)
    ∙ ap (λ (xs : List Area). text ++ (flat_map area_bytes xs ++ replicate 16 0)) (take_all i areas (omega arith)))
