use Rattle.std.proofs.Common.{◌≡◌, ◌≤◌, ℕ, List, Some, length, map, take, get_or, ap, ◌∙◌, lit<, arith}
use Rattle.std.proofs.lemmas.List.{length-map, length-take-le}
use Rattle.std.proofs.Math.Seq.{take-length}
use Rattle.array_core.specs.declared.Found.{Found}
use Rattle.array_core.proofs.Lists.{mapped_more}
use Rattle.pool_format.specs.Parts.{new_super}
use Rattle.pool_format.proofs.arrays.found_of.Goals as goal

pub push-requires : goal.push-requires
push-requires c =
    let items = c.args.array.now.members.items in
    let f : ℕ → Found = λ place. record { place = place; seen = Some (new_super c.args.birth.now c.args.array.now c.args.number place) } in
    let whole : c.len-index-end.result ≤ length items = omega (arith, c.len-index-end.ensures.value) in
    let many = ap length c.loop-index.invariant ∙ length-map (take c.loop-index.index items) f ∙ length-take-le c.loop-index.index items (omega (arith, c.loop-index-test.true, whole)) in
    (lit< tt, omega (arith, many, c.loop-index-test.true, c.len-index-end.ensures.fits))

pub loop-index-preserved : goal.loop-index-preserved
loop-index-preserved c =
    let items = c.args.array.now.members.items in
    let f : ℕ → Found = λ place. record { place = place; seen = Some (new_super c.args.birth.now c.args.array.now c.args.number place) } in
    let place : c.deref.result.now ≡ items = c.deref.ensures.0 in
    mapped_more f items c.loop-index.index 0 c.loop-index.found.items c.push.new.self.items _ (omega (arith, c.loop-index-test.true, c.len-index-end.ensures.value))
    c.loop-index.invariant c.push.ensures.items
    (ap (λ t. record { place = get_or c.deref.result.now c.loop-index.index 0; seen = Some t }) c.new_super.ensures ∙ ap (λ (xs : List ℕ). f (get_or xs c.loop-index.index 0)) place)

pub returns : goal.returns
returns c =
    let items = c.args.array.now.members.items in
    let f : ℕ → Found = λ place. record { place = place; seen = Some (new_super c.args.birth.now c.args.array.now c.args.number place) } in
    let all = take-length items in
    let many : c.loop-index.index ≡ length items = omega (arith, c.loop-index-test.false, c.len-index-end.ensures.value, c.loop-index.auto.index-end) in
    c.loop-index.invariant ∙ ap (map f) (ap (λ n. take n items) (many) ∙ all)
