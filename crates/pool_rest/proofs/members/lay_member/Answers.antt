use Rattle.std.proofs.Common.{◌≡◌, ◌+◌, ◌*◌, ◌==◌, true, sym, ap, ◌∙◌, arith}
use Rattle.std.specs.Option.{option_and_then}
use Rattle.gpt_table.specs.Format.{is_inside}
use Rattle.pool_image.specs.Replay.{slice_entry}
use Rattle.pool_rest.proofs.Cut.{found_all, cut_none, cut_by}
use Rattle.pool_rest.proofs.members.lay_member.Goals as goal

pub returns-in_default-clause-cut : goal.returns-in_default-clause-cut
returns-in_default-clause-cut g c =
    cut_none _ _ c.args.table.now c.args.place c.args.array c.requires.cut c.requires.array
    (ap (option_and_then (slice_entry c.args.table.now.sectors)) (sym c.in_default.ensures))

pub part_of-requires : goal.part_of-requires
part_of-requires g c =
    found_all (λ entry. is_inside c.args.table.now.sectors entry.slice ≡ true) (λ e. e.number == c.args.array + 2) c.args.table.now.entries.items c.in-Some.entry.now
    c.requires.table.inside (sym c.in-Some.ensures)

pub returns-in_default-part_of-clause-cut : goal.returns-in_default-part_of-clause-cut
returns-in_default-part_of-clause-cut g c =
    cut_none _ _ c.args.table.now c.args.place c.args.array c.requires.cut c.requires.array
    (ap (option_and_then (slice_entry c.args.table.now.sectors)) (sym c.in-Some.ensures) ∙ c.in_default-part_of.ensures)

pub returns-clause-cut : goal.returns-clause-cut
returns-clause-cut g c =
    cut_by _ _ _ c.args.table.now c.args.place c.args.array (17 * c.args.place + (c.args.array + 1)) (record { first = c.in-Some-part_of.part.first; sectors = c.in-Some-part_of.part.sectors })
    c.add_slice.result c.requires.table c.requires.cut c.requires.array (omega arith)
    (ap (option_and_then (slice_entry c.args.table.now.sectors)) (sym c.in-Some.ensures) ∙ c.in-Some-part_of.ensures)
    c.add_slice.ensures.unseated c.add_slice.ensures.outside (λ is. (c.add_slice.ensures.overlap is).1) c.add_slice.ensures.free c.add_slice.ensures.added c.add_slice.ensures.err
