use Rattle.std.proofs.Common.{◌≡◌, ℕ, [], ◌∷◌, List, get_or, Some, nat_lt, true, false, slice_get, sym, ap, ◌∙◌, refl, arith}
use Rattle.std.proofs.lemmas.Bool.{lt-ltb, le-ltb}
use Rattle.pool_state.specs.declared.contents.Work.TheVariants.{Make}
use Rattle.growth_plan.specs.declared.ArrayNow.{ArrayNow}
use Rattle.growth_plan.specs.Book.{units_of, height_of}
use Rattle.growth_plan.specs.Target.{new_layer}
use Rattle.growth_plan.specs.Works.{makes, zeros, rows_of}
use Rattle.growth_plan.proofs.Books.{units_small, slice_get_at}
use Rattle.growth_plan.proofs.Appending.{appends_same, appends_both}
use Rattle.growth_plan.proofs.NewLayer.{new_layer_is, layer_height}
use Rattle.growth_plan.proofs.works.append_makes.Goals as goal

pub rows_of-requires-clause-small : goal.rows_of-requires-clause-small
rows_of-requires-clause-small c =
    let s = c.args.state.now in
    let arrays = c.args.progress.now.arrays.items in
    let is = new_layer_is s arrays c.in-Some.layer (sym c.new_layer.ensures ∙ c.in-Some.is) in
    layer_height (units_of s) (height_of arrays) c.in-Some.layer (units_small s c.requires.valid) is.2

pub returns-then-state : goal.returns-then-state
returns-then-state c =
    let s = c.args.state.now in
    let arrays = c.args.progress.now.arrays.items in
    let x = c.index-as_slice-state.result in
    let young : nat_lt s.joined s.made ≡ true = lt-ltb s.joined s.made c.if-state.true in
    let is = c.index-as_slice-state.is ∙ ap (λ (xs : List ArrayNow). get_or xs s.joined x) c.as_slice.ensures.value in
    let found : slice_get arrays s.joined ≡ Some x =
    slice_get_at arrays s.joined x (omega (arith, c.requires.made, c.if-state.true)) is in
    appends_same c.args.tally.now c.append_zeros.new.tally _ (makes s arrays) c.append_zeros.ensures
    (ap (λ (a : ArrayNow). zeros s.joined a.zero) (sym c.index-as_slice-state.is) ∙ rw (young, found) refl)

pub returns-in-Some : goal.returns-in-Some
returns-in-Some c =
    let s = c.args.state.now in
    let arrays = c.args.progress.now.arrays.items in
    let layer = c.in-Some.layer in
    let ready : nat_lt s.joined s.made ≡ false = le-ltb s.joined s.made c.if-state.false in
    let found : new_layer s arrays ≡ Some layer = sym c.new_layer.ensures ∙ c.in-Some.is in
    let rest : Make s.made layer.height ∷ zeros s.made (rows_of s layer.height) ≡ makes s arrays = rw (found, ready) refl in
    let both = appends_both c.args.tally.now c.append.new.self c.append_zeros-in-Some.new.tally (Make s.made layer.height ∷ []) (zeros s.made c.rows_of.result)
    c.append.ensures c.append_zeros-in-Some.ensures in
    appends_same c.args.tally.now c.append_zeros-in-Some.new.tally _ (makes s arrays) both
    (ap (λ (rows : ℕ). Make s.made layer.height ∷ zeros s.made rows) c.rows_of.ensures ∙ rest)
