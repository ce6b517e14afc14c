use Rattle.std.proofs.Common.{◌≡◌, ◌+◌, ◌*◌, true, false, not, is_some, Option, Some, None, refl, ap, sym, ◌∙◌, inr, arith}
use Rattle.std.proofs.lemmas.Bool.{both_ways}
use Rattle.array_image.specs.Places.{member_slice}
use Rattle.array_core.specs.Seats.{seat_of}
use Rattle.array_model.specs.View.{View}
use Rattle.raid_rack.specs.RaidRack.{no_array}
use Rattle.raid_rack.proofs.Laid.{fit_laid, lays_slice}
use Rattle.raid_rack.proofs.Steps.{same_element}
use Rattle.raid_rack.proofs.arrays.RaidRack.drop_member.Goals as goal

none_of : {X : Type 0} (o : Option X) → is_some o ≡ false → o ≡ None
none_of None is = refl
none_of (Some s) is = absurd (both_ways true is refl)

pub returns-then-is_none-clause-fit : goal.returns-then-is_none-clause-fit
returns-then-is_none-clause-fit g c =
    let a = c.args.self.now.arrays in
    let n = c.args.array in
    let place = c.args.place in
    let at : 17 * place + (n + 1) ≡ member_slice place n = omega arith in
    let count = c.requires.fit.running.count in
    let low = c.requires.array in
    let element = c.index-deref-array.is ∙ same_element c.deref.result.now a.all.items n _ no_array c.deref.ensures.0 (omega (arith, count, low)) in
    fit_laid g.R.Rack.seen a c.args.self.now.slices c.add_slice.new.self place n (17 * place + (n + 1)) 0 0 c.add_slice.result at
    c.add_slice.ensures.added c.add_slice.ensures.err c.add_slice.ensures.below c.add_slice.ensures.fit low
    (ap (λ (u : View). seat_of u place) (sym element) ∙ sym c.seat.ensures ∙ none_of c.seat.result (c.is_none.ensures ∙ ap not c.if-is_none.true)) c.requires.fit

pub returns-then-is_none-clause-drops : goal.returns-then-is_none-clause-drops
returns-then-is_none-clause-drops g c =
    let n = c.args.array in
    let place = c.args.place in
    let at : 17 * place + (n + 1) ≡ member_slice place n = omega arith in
    lays_slice c.args.self.now.slices c.add_slice.new.self place n (17 * place + (n + 1)) 0 0 0 0 c.add_slice.result at refl refl c.add_slice.ensures.added c.add_slice.ensures.err c.add_slice.ensures.below

pub returns-then-is_none-clause-apart : goal.returns-then-is_none-clause-apart
returns-then-is_none-clause-apart g c =
    let a = c.args.self.now.arrays in
    let n = c.args.array in
    let count = c.requires.fit.running.count in
    let low = c.requires.array in
    let element = c.index-deref-array.is ∙ same_element c.deref.result.now a.all.items n _ no_array c.deref.ensures.0 (omega (arith, count, low)) in
    inr (ap (λ (u : View). seat_of u c.args.place) (sym element) ∙ sym c.seat.ensures ∙ none_of c.seat.result (c.is_none.ensures ∙ ap not c.if-is_none.true))
