use Rattle.std.proofs.Common.{◌≡◌, ◌≤◌, ℕ, List, [], ◌∷◌, ◌++◌, length, take, get_or, ap, ap₂, sym, ◌∙◌, lit<, arith}
use Rattle.std.proofs.lemmas.List.{take_more, length-take-le}
use Rattle.std.proofs.Math.Seq.{take-length}
use Rattle.pool_format.proofs.planning.copied.Goals as goal

pub push-requires : goal.push-requires
push-requires c =
    let items = c.args.places.now.items in
    let whole : c.len-index-end.result ≤ length items = omega (arith, c.len-index-end.ensures.value) in
    let many = ap length c.loop-index.invariant ∙ length-take-le c.loop-index.index items (omega (arith, c.loop-index-test.true, whole)) in
    (lit< tt, omega (arith, many, c.loop-index-test.true, c.len-index-end.ensures.fits))

pub loop-index-preserved : goal.loop-index-preserved
loop-index-preserved c =
    let items = c.args.places.now.items in
    let n = c.loop-index.index in
    c.push.ensures.items
    ∙ ap₂ (λ (xs : List ℕ) (ys : List ℕ). xs ++ get_or ys n 0 ∷ []) c.loop-index.invariant c.deref.ensures.0
    ∙ sym (take_more items n 0 (omega (arith, c.loop-index-test.true, c.len-index-end.ensures.value)))

pub returns : goal.returns
returns c =
    let items = c.args.places.now.items in
    let all : c.loop-index.index ≡ length items = omega (arith, c.loop-index-test.false, c.len-index-end.ensures.value, c.loop-index.auto.index-end) in
    c.loop-index.invariant ∙ ap (λ n. take n items) all ∙ take-length items
