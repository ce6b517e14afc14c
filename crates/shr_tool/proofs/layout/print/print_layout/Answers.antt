use Rattle.std.proofs.Common.{◌≡◌, ◌∙◌, sym, subst, List, ℕ, Ok, Err}
use Rattle.shr_words.specs.LayoutWords.{units_asked}
use Rattle.shr_tool.specs.LayoutText.{Prints}
use Rattle.shr_tool.proofs.Putting.{printed}
use Rattle.shr_tool.proofs.layout.print.print_layout.Goals as goal

pub returns-in-Ok-clause-prints : goal.returns-in-Ok-clause-prints
returns-in-Ok-clause-prints g c =
    let taken = g.O.Sink.taken in
    let told = g.O.Sink.told c.args.out.now in
    let e = c.in-Ok.ensures in
    let is : c.as_slice.result.now ≡ units_asked c.args.request.now = c.as_slice.ensures.value ∙ c.drive_units-units.ensures.units in
    let same : c.as_slice-in-Ok.result.now ≡ c.as_slice.result.now = c.as_slice-in-Ok.ensures.value ∙ sym c.as_slice.ensures.value in
    subst (λ (units : List ℕ). Prints told c.ended.result units (taken c.args.out.now) (taken c.put_plan-put.new.out)) is
    (printed told c.as_slice.result.now (taken c.args.out.now) (taken c.put_plan-put.new.out) (Ok c.in-Ok.plan) c.put_plan-put.result c.ended.result
    (record {
      plan = record { layers = e.layers; slicing = e.slicing; capacity = e.capacity; best = e.best; spared = e.spared; bound = e.bound; tight = e.tight };
      too_few = e.too_few;
      too_many = e.too_many;
      no_room = e.no_room;
    })
    c.ended.ensures
    (λ t. rw same at (c.put_plan-put.ensures.puts t)))

pub returns-in-Err-clause-prints : goal.returns-in-Err-clause-prints
returns-in-Err-clause-prints g c =
    let taken = g.O.Sink.taken in
    let told = g.O.Sink.told c.args.out.now in
    let e = c.in-Err.ensures in
    let is : c.as_slice.result.now ≡ units_asked c.args.request.now = c.as_slice.ensures.value ∙ c.drive_units-units.ensures.units in
    subst (λ (units : List ℕ). Prints told c.ended-in-Err.result units (taken c.args.out.now) (taken c.put_line-put.new.out)) is
    (printed told c.as_slice.result.now (taken c.args.out.now) (taken c.put_line-put.new.out) (Err c.in-Err.error) c.put_line-put.result c.ended-in-Err.result
    (record { plan = tt; too_few = e.too_few; too_many = e.too_many; no_room = e.no_room })
    c.ended-in-Err.ensures
    (λ t. rw c.refusal_text.ensures at (c.put_line-put.ensures.puts t)))
