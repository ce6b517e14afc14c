use Rattle.std.proofs.Common.{◌≡◌, ◌+◌, Some, slice_get, ap, sym, ◌∙◌, arith}
use Rattle.std.proofs.lemmas.Option.{slice_get-get_or}
use Rattle.std.specs.Option.{option_map_or}
use Rattle.md_super.specs.declared.superblock.Super.{Super}
use Rattle.slice_rack.specs.SliceRack.{below_of, tables}
use Rattle.raid_laws.specs.NewDrive.{length_in, slice_length}
use Rattle.raid_rack.proofs.LayingDrive.{laid_more}
use Rattle.raid_rack.proofs.new_drive.seat_member.Goals as goal

pub returns-then-joins-clause-laid : goal.returns-then-joins-clause-laid
returns-then-joins-clause-laid g c =
    let arrays = c.args.arrays.now in
    let n = c.args.number in
    let few = c.requires.few in
    let low = c.requires.number in
    let here : slice_get arrays n ≡ Some c.index-arrays-number.result = slice_get-get_or arrays n _ low ∙ ap Some (sym c.index-arrays-number.is) in
    let size : c.truth.result.now.size + 2048 ≡ length_in arrays n =
    ap (λ (t : Super). t.size + 2048) c.truth.ensures ∙ sym (ap (λ o. option_map_or slice_length o 0) here) in
    laid_more arrays c.args.place c.args.sectors (g.R.Rack.seen (below_of c.args.slices.now)) n c.first_in-first.result (c.truth.result.now.size + 2048) (tables c.args.slices.now)
    (tables c.add_slice.new.self) c.add_slice.result (omega (arith, few, low)) (sym c.joins.ensures ∙ c.if-joins.true) c.first_in-first.ensures.first size c.requires.laid
    c.add_slice.ensures.unseated c.add_slice.ensures.outside c.add_slice.ensures.overlap c.add_slice.ensures.added
