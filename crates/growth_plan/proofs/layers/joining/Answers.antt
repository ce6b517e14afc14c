use Rattle.std.proofs.Common.{◌≡◌, ℕ, nat_le, Bool, List, true, false, not, ◌&&◌, slice_index, Some, ap, sym, ◌∙◌, arith, refl}
use Rattle.std.specs.Bool.{then_some}
use Rattle.std.proofs.lemmas.Bool.{le-leb, lt-leb}
use Rattle.layer_plan.specs.Slicing.{has}
use Rattle.growth_plan.specs.Book.{units_of}
use Rattle.growth_plan.specs.Target.{planned}
use Rattle.growth_plan.proofs.layers.joining.Goals as goal
use Rattle.growth_plan.proofs.layers.joining.Goals.{then-reaches, else-reaches}

pub returns : goal.returns
returns c =
    let place = c.in_ok-place.place in
    let own = slice_index (units_of c.args.state.now) place in
    let member = has c.args.array.now.members.items place in
    let is_member : c.contains-is_member.result ≡ member =
    c.contains-is_member.ensures.value ∙ ap (λ (places : List ℕ). has places place) c.as_slice.ensures.value in
    let test : c.if-reaches.then_some ≡ (nat_le c.args.top own && not member) =
    elim c.if-reaches.branch [
      | then-reaches w ↦
          let yes : nat_le c.args.top own ≡ true = le-leb c.args.top own (omega (arith, w.if-reaches.true, c.units_at.ensures)) in
          w.then_some-is ∙ rw yes (ap not is_member)
      | else-reaches w ↦
          let no : nat_le c.args.top own ≡ false = lt-leb c.args.top own (omega (arith, w.if-reaches.false, c.units_at.ensures)) in
          w.then_some-is ∙ rw (c.units_at.ensures, no) refl
    ] in
    let planned_is : planned c.args.state.now.plan ≡ Some place = sym c.planned.ensures ∙ c.in_ok-place.was in
    c.then_some.ensures ∙ ap (λ (b : Bool). then_some b place) test ∙ rw planned_is refl
