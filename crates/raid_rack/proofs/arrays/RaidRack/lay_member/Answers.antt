use Rattle.std.proofs.Common.{◌≡◌, ◌<◌, ◌+◌, ◌*◌, ◌^◌, All, sym, ap, subst, ◌∙◌, arith}
use Rattle.array_image.specs.Places.{member_slice}
use Rattle.array_model.specs.View.{View}
use Rattle.slice_rack.specs.SliceRack.{below_of, tables}
use Rattle.raid_laws.specs.NewDrive.{first_in, slice_length}
use Rattle.growth_laws.specs.Growing.{views_of}
use Rattle.raid_rack.specs.RaidRack.{no_array, raid_by}
use Rattle.raid_rack.proofs.Grown.{views_items}
use Rattle.raid_rack.proofs.Laid.{cannot_lay, fit_laid, laid_slice, lays_slice}
use Rattle.raid_rack.proofs.Seating.{all_small}
use Rattle.raid_rack.proofs.Steps.{same_element}
use Rattle.raid_rack.proofs.arrays.RaidRack.lay_member.Goals as goal

pub first_in-first-requires-clause-small : goal.first_in-first-requires-clause-small
first_in-first-requires-clause-small g c =
    subst (All (λ (u : View). u.truth.size < 2 ^ 48)) (sym c.as_slice-all.ensures.value) (all_small c.args.self.now.arrays _ c.requires.fit.running)

pub returns-clause-laid : goal.returns-clause-laid
returns-clause-laid g c ok =
    let a = c.args.self.now.arrays in
    let n = c.args.array in
    let place = c.args.place in
    let at : 17 * place + (n + 1) ≡ member_slice place n = omega arith in
    let count = c.requires.fit.running.count in
    let low = c.requires.array in
    let most = c.requires.fit.running.set.most in
    let listed = c.requires.place in
    let few = c.requires.fit.running.set.few in
    let element = c.index-all-array.is ∙ same_element c.as_slice-all.result.now a.all.items n _ no_array c.as_slice-all.ensures.value (omega (arith, count, low)) in
    laid_slice (tables c.args.self.now.slices) (tables c.add_slice.new.self) (g.R.Rack.seen (below_of c.add_slice.new.self)) (raid_by a) place n (17 * place + (n + 1)) c.first_in-first.result
    (c.truth.result.now.size + 2048) c.add_slice.result at c.add_slice.ensures.added (sym c.is_ok.ensures.value ∙ ok)
    (ap (λ t. t.size + 2048) c.truth.ensures ∙ ap (λ (u : View). u.truth.size + 2048) element) (omega (arith, listed, few)) (omega (arith, low, most))

pub returns-clause-cannot : goal.returns-clause-cannot
returns-clause-cannot g c refused =
    let a = c.args.self.now.arrays in
    let n = c.args.array in
    let place = c.args.place in
    let at : 17 * place + (n + 1) ≡ member_slice place n = omega arith in
    let count = c.requires.fit.running.count in
    let low = c.requires.array in
    let element = c.index-all-array.is ∙ same_element c.as_slice-all.result.now a.all.items n _ no_array c.as_slice-all.ensures.value (omega (arith, count, low)) in
    cannot_lay (tables c.args.self.now.slices) (g.R.Rack.seen (below_of c.args.self.now.slices)) (raid_by a) place n (17 * place + (n + 1)) c.first_in-first.result
    (c.truth.result.now.size + 2048) c.add_slice.result at
    (c.first_in-first.ensures.first ∙ ap (λ us. first_in us n) (c.as_slice-all.ensures.value ∙ sym (views_items a count)))
    (ap (λ t. t.size + 2048) c.truth.ensures ∙ ap (λ (u : View). u.truth.size + 2048) element)
    c.add_slice.ensures.unseated c.add_slice.ensures.outside c.add_slice.ensures.overlap (sym c.is_ok.ensures.value ∙ refused)

pub returns-clause-fit : goal.returns-clause-fit
returns-clause-fit g c =
    let at : 17 * c.args.place + (c.args.array + 1) ≡ member_slice c.args.place c.args.array = omega arith in
    fit_laid g.R.Rack.seen c.args.self.now.arrays c.args.self.now.slices c.add_slice.new.self c.args.place c.args.array (17 * c.args.place + (c.args.array + 1)) c.first_in-first.result
    (c.truth.result.now.size + 2048) c.add_slice.result at
    c.add_slice.ensures.added c.add_slice.ensures.err c.add_slice.ensures.below c.add_slice.ensures.fit c.requires.array c.requires.apart c.requires.fit

pub returns-clause-lays : goal.returns-clause-lays
returns-clause-lays g c =
    let a = c.args.self.now.arrays in
    let n = c.args.array in
    let place = c.args.place in
    let at : 17 * place + (n + 1) ≡ member_slice place n = omega arith in
    let count = c.requires.fit.running.count in
    let low = c.requires.array in
    let element = c.index-all-array.is ∙ same_element c.as_slice-all.result.now a.all.items n _ no_array c.as_slice-all.ensures.value (omega (arith, count, low)) in
    lays_slice c.args.self.now.slices c.add_slice.new.self place n (17 * place + (n + 1)) c.first_in-first.result (c.truth.result.now.size + 2048) (first_in (views_of (raid_by a)) n)
    (slice_length ((raid_by a).arrays n)) c.add_slice.result at
    (c.first_in-first.ensures.first ∙ ap (λ us. first_in us n) (c.as_slice-all.ensures.value ∙ sym (views_items a count)))
    (ap (λ t. t.size + 2048) c.truth.ensures ∙ ap (λ (u : View). u.truth.size + 2048) element)
    c.add_slice.ensures.added c.add_slice.ensures.err c.add_slice.ensures.below
