use Rattle.std.specs.List.{list_all, range_with_len}
use Rattle.std.proofs.Common.{◌≡◌, ◌&&◌, ◌/◌, Bool, true, false, length, sym, ap, ◌∙◌, arith}
use Rattle.lvm_group.specs.Growth.{fits}
use Rattle.lvm_group.specs.Volume.{linear}
use Rattle.pool_state.specs.declared.contents.State.{State}
use Rattle.pool.specs.Growing.{holds_number}
use Rattle.pool.specs.View.{book, view}
use Rattle.pool.proofs.Extends.{some_of, tested}
use Rattle.pool.proofs.Pool.can_extend.Goals as goal

and_true : (b c : Bool) → b ≡ true → (b && c) ≡ c
and_true b c is = ap (λ t. t && c) is

and_false : (b c : Bool) → b ≡ false → (b && c) ≡ false
and_false b c is = ap (λ t. t && c) is

pub returns-then-hold_numbers : goal.returns-then-hold_numbers
returns-then-hold_numbers g c =
    let l = linear c.args.self.now.volume in
    let v = book (view g.R.Rack.seen g.R.Bay.shelf c.args.self.now) in
    let numbers = c.args.numbers.now in
    let extent = c.size.result / c.extents-extents.result in
    let held = list_all (holds_number v numbers extent) (range_with_len 0 (length numbers)) in
    let past = c.if-numbers-state.false in
    let made = ap (λ (s : State). s.made) c.state.ensures in
    c.fits.ensures
    ∙ sym (and_true held (fits l.runs numbers) (sym c.hold_numbers.ensures ∙ c.if-hold_numbers.true))
    ∙ sym (tested l v numbers c.size.result c.extents-extents.result c.extents-extents.ensures c.size.ensures.size (let some = c.if-extents-eq0.false in omega (arith, some)) (some_of (length numbers) (sym c.is_empty.ensures ∙ c.if-is_empty.false)) (omega (arith, past, made)))

pub returns-else-hold_numbers : goal.returns-else-hold_numbers
returns-else-hold_numbers g c =
    let l = linear c.args.self.now.volume in
    let v = book (view g.R.Rack.seen g.R.Bay.shelf c.args.self.now) in
    let numbers = c.args.numbers.now in
    let extent = c.size.result / c.extents-extents.result in
    let held = list_all (holds_number v numbers extent) (range_with_len 0 (length numbers)) in
    let past = c.if-numbers-state.false in
    let made = ap (λ (s : State). s.made) c.state.ensures in
    c.if-hold_numbers.false
    ∙ sym (and_false held (fits l.runs numbers) (sym c.hold_numbers.ensures ∙ c.if-hold_numbers.false))
    ∙ sym (tested l v numbers c.size.result c.extents-extents.result c.extents-extents.ensures c.size.ensures.size (let some = c.if-extents-eq0.false in omega (arith, some)) (some_of (length numbers) (sym c.is_empty.ensures ∙ c.if-is_empty.false)) (omega (arith, past, made)))
