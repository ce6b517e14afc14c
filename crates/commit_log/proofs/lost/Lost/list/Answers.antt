use Rattle.std.proofs.Common.{◌≡◌, ℕ, List, ◌++◌, ◌∷◌, [], filter, sym, ap, ◌∙◌, refl, arith, append-nil, length-append, length}
use Rattle.std.specs.List.{range_with_len}
use Rattle.std.proofs.lemmas.Bool.{cond-true, cond-false}
use Rattle.log_laws.specs.Phases.{went}
use Rattle.log_laws.proofs.Naming.{filter_more}
use Rattle.commit_log.proofs.lost.Lost.list.Goals.{then-has, else-has}
use Rattle.commit_log.proofs.lost.Lost.list.Goals as goal

pub loop-place-preserved : goal.loop-place-preserved
loop-place-preserved c =
    let f = went c.args.self.now.places in
    let k = c.loop-place.place in
    let before : List ℕ = c.loop-place.list.items in
    elim c.if-has.branch [
      | then-has w ↦
          let items : c.if-has.list.items ≡ before ++ k ∷ [] = rw w.list-is w.push.ensures.items in
          record {
            listed = items ∙ ap (λ (ks : List ℕ). ks ++ k ∷ []) c.loop-place.invariant.listed
                ∙ ap (λ (ks : List ℕ). filter f (range_with_len 0 k) ++ ks) (sym (cond-true (f k) (k ∷ []) [] (sym c.has.ensures ∙ w.if-has.true)))
                ∙ sym (filter_more f k);
            few = omega (arith, ap length items, length-append before (k ∷ []), c.loop-place.invariant.few);
          }
      | else-has w ↦
          let items : c.if-has.list.items ≡ before = rw w.list-is refl in
          record {
            listed = items ∙ c.loop-place.invariant.listed ∙ sym (append-nil _)
                ∙ ap (λ (ks : List ℕ). filter f (range_with_len 0 k) ++ ks) (sym (cond-false (f k) (k ∷ []) [] (sym c.has.ensures ∙ w.if-has.false)))
                ∙ sym (filter_more f k);
            few = omega (arith, ap length items, c.loop-place.invariant.few);
          }
    ]
