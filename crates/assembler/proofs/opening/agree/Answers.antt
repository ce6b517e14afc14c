use Rattle.std.proofs.Common.{refl, inl, inr, arith}
use Rattle.rack.proofs.Reading.{only_reads_start}
use Rattle.slice_rack.specs.SliceRack.{below_of}
use Rattle.raid_rack.specs.AllRuns.{calls_same}
use Rattle.raid_rack.specs.RaidRack.{raid_in, raid_seen, slices_in}
use Rattle.raid_rack.proofs.Raises.{raises_more, raises_none}
use Rattle.assembler.proofs.opening.agree.Goals as goal

pub returns-then-has_written : goal.returns-then-has_written
returns-then-has_written g c =
    let said = c.restate.ensures in
    record {
      agrees = record {
        kept = (
          said.runs,
          said.book,
          record { sectors = said.keeps.stays.sectors; spent = said.keeps.stays.spent; arrays = said.mends.moves.arrays; plan = said.mends.moves.plan; refused = λ n alive. said.refused n },
        );
        values = said.keeps;
        supers = inr said.supers;
        raises = said.raises;
      };
    }

pub returns-else-has_written : goal.returns-else-has_written
returns-else-has_written g c =
    let seen = g.R.Rack.seen in
    let x = c.args.raid.now in
    let none = only_reads_start (raid_seen seen x) c.requires.fit in
    record {
      agrees = record {
        kept = calls_same seen g.R.Rack.runs x (g.met.R.Rack.runs_same (below_of (slices_in x)));
        values = record { stays = none.stays; keeps = none.keeps };
        supers = inl (refl, c.has_written.ensures.none c.if-has_written.false);
        raises = raises_more 0 18 (raid_in x) (raid_in x) (omega arith) (raises_none (raid_in x));
      };
    }
