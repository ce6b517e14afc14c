use Rattle.std.proofs.Common.{◌≡◌, ◌+◌, ◌≤◌, Err, inl, inr, refl, sym, subst, arith}
use Rattle.std.proofs.lemmas.Bool.{cases_lt}
use Rattle.rack.specs.Seen.{IsLive}
use Rattle.rack.specs.Joins.{live_first, live_second}
use Rattle.rack.proofs.Writing.{only_none, only_written}
use Rattle.gpt_table.specs.Disk.{now_on}
use Rattle.pool_format.specs.Data.{IsMemberData, group_sector}
use Rattle.pool_format.specs.Writing.{InRows}
use Rattle.pool_format.proofs.Laying.{lays_after, lays_end, lays_write}
use Rattle.pool_format.proofs.Leaving.{stands, written}
use Rattle.pool_format.proofs.members.write_rows.Goals as goal

pub loop-sector-init : goal.loop-sector-init
loop-sector-init g c = record {
  only = only_none (g.R.Rack.seen c.args.rack.now) (InRows c.args.member.now.place c.args.member.now.first c.args.size) c.requires.fit;
  stand = λ s below. absurd (omega (arith, below));
  runs = g.met.R.Rack.runs_same c.args.rack.now;
}

pub write-requires-clause-fit : goal.write-requires-clause-fit
write-requires-clause-fit g c = c.loop-sector.invariant.only.stays.fit

pub write-requires-clause-disk : goal.write-requires-clause-disk
write-requires-clause-disk g c = let same = c.loop-sector.invariant.only.stays.disks in let disk = c.requires.disk in omega (arith, same, disk)

pub write-requires-clause-sector : goal.write-requires-clause-sector
write-requires-clause-sector g c =
    let same = c.loop-sector.invariant.only.stays.sectors c.args.member.now.place in
    let within = c.requires.within in
    omega (arith, same, within, c.loop-sector-test.true)

pub loop-sector-preserved : goal.loop-sector-preserved
loop-sector-preserved g c =
    let member = c.args.member.now in
    let place = member.place in
    let first = member.first in
    let now = c.loop-sector.sector in
    let may = InRows place first c.args.size in
    let a = g.R.Rack.seen c.args.rack.now in
    let m = g.R.Rack.seen c.loop-sector.rack in
    let b = g.R.Rack.seen c.write.new.self in
    let v = c.member_sector-bytes.result in
    let invariant = c.loop-sector.invariant in
    let stays = invariant.only.stays in
    let writes = c.in_default.ensures.writes in
    let behind : first ≤ first + now = omega arith in
    record {
      only = (lays_after may a m b c.write.result invariant.only
          (lays_write may m b place (first + now) v c.write.result (let same = stays.disks in let disk = c.requires.disk in omega (arith, same, disk))
          (refl, behind, omega (arith, c.loop-sector-test.true)) c.write.ensures.writes)).only;
      stand = λ s below live. elim (cases_lt s now) [
        | inl before ↦
            let single = only_written (λ d k w. (d ≡ place) × (k ≡ first + now)) place (first + now) v (refl, refl) writes in
            subst (IsMemberData member.members (group_sector c.args.group.now member.number) member.position s)
            (sym (stands (λ d k w. (d ≡ place) × (k ≡ first + now)) place (first + s) single (live_second stays live) (λ w at. let same = at.1 in omega (arith, before, same))))
            (invariant.stand s before (live_first single.stays live))
        | inr last ↦
            let same : now ≡ s = omega (arith, below, last) in
            subst (λ k. IsLive a b place (first + k) → IsMemberData member.members (group_sector c.args.group.now member.number) member.position k (now_on b place (first + k))) same
            (λ alive. subst (IsMemberData member.members (group_sector c.args.group.now member.number) member.position now)
            (sym (written place (first + now) v writes (live_second stays alive))) c.member_sector-bytes.ensures) live
      ];
      runs = g.met.R.Rack.runs_then _ _ _ invariant.runs c.write.ensures.runs;
    }

pub returns-in-Err-clause-lays : goal.returns-in-Err-clause-lays
returns-in-Err-clause-lays g c =
    let member = c.args.member.now in
    let may = InRows member.place member.first c.args.size in
    let now = c.loop-sector.sector in
    let m = g.R.Rack.seen c.loop-sector.rack in
    let b = g.R.Rack.seen c.write.new.self in
    let behind : member.first ≤ member.first + now = omega arith in
    lays_after may (g.R.Rack.seen c.args.rack.now) m b (Err c.in-Err.gone) c.loop-sector.invariant.only
    (lays_write may m b member.place (member.first + now) c.member_sector-bytes.result (Err c.in-Err.gone)
    (let same = c.loop-sector.invariant.only.stays.disks in let disk = c.requires.disk in omega (arith, same, disk))
    (refl, behind, omega (arith, c.loop-sector-test.true)) c.in-Err.ensures.writes)

pub returns-clause-lays : goal.returns-clause-lays
returns-clause-lays g c =
    lays_end (InRows c.args.member.now.place c.args.member.now.first c.args.size) (g.R.Rack.seen c.args.rack.now) (g.R.Rack.seen c.loop-sector.rack) c.loop-sector.invariant.only

pub returns-clause-stand : goal.returns-clause-stand
returns-clause-stand g c = λ s below live. c.loop-sector.invariant.stand s (omega (arith, below, c.loop-sector-test.false)) live
