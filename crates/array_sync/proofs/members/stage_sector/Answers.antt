use Rattle.std.proofs.Common.{ap, ◌∙◌, ◌+◌, ◌++◌, ◌∷◌, [], ℕ, arith}
use Rattle.rack.specs.Targets.{target}
use Rattle.array_image.specs.Places.{data_sector}
use Rattle.log_laws.specs.View.{LogView}
use Rattle.md_super.specs.declared.superblock.Super.{Super}
use Rattle.array_model.proofs.Reading.{slice_same}
use Rattle.sync_laws.proofs.Restoring.{member_sector}
use Rattle.array_sync.proofs.members.stage_sector.Goals as goal

pub slice_at-requires : goal.slice_at-requires
slice_at-requires g c =
    let position = c.requires.position in
    let disks = ap (λ (t : Super). t.raid_disks) c.restore.ensures.notes.same.truth in
    omega (arith, position, disks)

pub returns-clause-added : goal.returns-clause-added
returns-clause-added g c = λ is.
    member_sector c.args.array.now (g.R.Rack.seen c.args.rack.now) c.args.position c.args.sector c.restore.new.into c.args.log.now.added c.add.new.self.added
    c.requires.position c.restore.array_long (c.restore.ensures.given c.if-not-restore.false)
    (ap (λ (l : LogView). l.added) c.add.ensures
    ∙ ap (λ (d : ℕ). c.args.log.now.added ++ target d (data_sector + c.args.sector) c.restore.new.into ∷ []) (c.slice_at.ensures ∙ slice_same c.args.array.now c.restore.new.array c.args.position c.restore.ensures.notes.same))
