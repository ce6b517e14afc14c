use Rattle.std.proofs.Common.{◌≡◌, ◌∙◌, List, true, not, sym, ap, subst}
use Rattle.std.specs.List.{slice_index_or}
use Rattle.array_core.specs.Seats.{names}
use Rattle.array_image.specs.States.{is_current}
use Rattle.slice_rack.specs.SliceRack.{below_of, tables}
use Rattle.raid_rack.specs.declared.arrays.Arrays.{Arrays}
use Rattle.raid_rack.specs.RaidRack.{slices_in}
use Rattle.raid_rack.proofs.Entered.{named_at}
use Rattle.raid_rack.proofs.LaidMembers.{cannot_add}
use Rattle.raid_rack.proofs.arrays.RaidRack.lay_members.Goals as goal

pub returns-then-is_err-clause-cannot : goal.returns-then-is_err-clause-cannot
returns-then-is_err-clause-cannot g c is =
    let ps = c.as_slice-place-items.result.now in
    let k = c.loop-place.place-index in
    let place = slice_index_or ps k 0 in
    let before = c.loop-place.invariant.lays in
    let seen = g.R.Rack.seen in (
      place,
      subst (λ (qs : List _). names qs place ≡ true) c.as_slice-place-items.ensures.value (named_at ps k c.loop-place-test.true),
      ap (λ (a : Arrays). is_current a.state place) (sym before.arrays) ∙ sym c.is_current-current.ensures ∙ c.if-current.true,
      cannot_add (tables (slices_in c.args.self.now)) (tables (slices_in c.loop-place.self)) (seen (below_of (slices_in c.args.self.now))) (seen (below_of (slices_in c.loop-place.self)))
          place c.args.number c.args.first c.args.sectors c.add_slice.result c.requires.number (λ d. ap (λ r. (seen r).sectors d) before.below) before.others before.seats
          c.add_slice.ensures.unseated c.add_slice.ensures.outside c.add_slice.ensures.overlap
          (c.is_err.ensures.negation ∙ ap not c.if-is_err.true),
    )
