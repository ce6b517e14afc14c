use Rattle.std.proofs.Common.{◌<◌, ◌+◌, sym, subst, ◌∙◌, arith}
use Rattle.rack.proofs.Reading.{only_reads_start, only_reads_join}
use Rattle.array_image.specs.Places.{member_slice}
use Rattle.pool_rest.specs.Members.{IsCutBelow}
use Rattle.pool_rest.proofs.CutDrives.{cut_start, cut_place, logs_kept}
use Rattle.pool_rest.proofs.members.lay_drives.Goals as goal

pub loop-place-init : goal.loop-place-init
loop-place-init g c = record {
  only = only_reads_start _ c.requires.fit.0;
  fit = c.requires.fit;
  cut = subst (IsCutBelow _ _ 0 _ _) (sym c.new-unread.ensures) (cut_start _ _ c.requires.upper);
  runs = g.met.R.Rack.runs_same _;
}

pub lay_drive-read-requires-clause-seats : goal.lay_drive-read-requires-clause-seats
lay_drive-read-requires-clause-seats g c = λ p few. c.loop-place.invariant.cut.seats p ∙ c.requires.seats p few

pub lay_drive-read-requires-clause-logs : goal.lay_drive-read-requires-clause-logs
lay_drive-read-requires-clause-logs g c = logs_kept _ _ _ _ _ _ c.loop-place.invariant.cut c.requires.logs

pub lay_drive-read-requires-clause-upper : goal.lay_drive-read-requires-clause-upper
lay_drive-read-requires-clause-upper g c = λ n low. c.loop-place.invariant.cut.upper (member_slice c.loop-place.place n) (omega (arith, low)) (omega (arith, low))

pub loop-place-preserved : goal.loop-place-preserved
loop-place-preserved g c =
    let inv = c.loop-place.invariant in
    let then = c.lay_drive-read.ensures in
    record {
      only = only_reads_join inv.only then.only;
      fit = then.fit;
      cut = subst (IsCutBelow _ _ (c.loop-place.place + 1) _ _) (sym c.push_unless.ensures)
          (cut_place _ _ _ _ _ _ c.loop-place.place c.lay_drive-read.result c.loop-place.unread.items c.loop-place-test.true inv.only then.only.stays
          (λ p disk is. subst (λ n. disk < n) inv.only.stays.disks (inv.fit.1.seats p disk is)) inv.cut then.others then.cut);
      runs = g.met.R.Rack.runs_then _ _ _ inv.runs then.runs;
    }
