use Rattle.std.proofs.Common.{sym, subst}
use Rattle.slice_rack.specs.SliceRack.{below_of, tables}
use Rattle.slice_rack.specs.Sliced.{slices_of}
use Rattle.raid_laws.specs.Moves.{IsSet}
use Rattle.raid_rack.specs.RaidRack.{raid_by, slices_in}
use Rattle.raid_rack.proofs.Seating.{others_set}
use Rattle.raid_rack.proofs.arrays.RaidRack.vacate.Goals as goal

pub returns-clause-fit : goal.returns-clause-fit
returns-clause-fit g c =
    let seen = g.R.Rack.seen in
    let fit = c.requires.fit in
    let v = raid_by c.args.self.now.arrays in
    let u = tables c.unseat.new.self in
    let same = c.unseat.ensures.below in
    record {
      running = record {
        count = fit.running.count;
        set =
            subst (λ r. IsSet v (slices_of u (seen r))) (sym same)
            (others_set c.args.place (tables (slices_in c.args.self.now)) u (seen (below_of (slices_in c.args.self.now))) v c.unseat.ensures.seated.sectors
            (subst (λ r. (slices_of u (seen r)).fit) same (c.unseat.ensures.fit fit.running.set.fit)) c.requires.missing fit.running.set);
      };
      heeded = fit.heeded;
    }
