use Rattle.std.proofs.Common.{◌≡◌, ◌≤◌, true, List, ap, sym, subst, ◌∙◌, arith, length}
use Rattle.lvm_group.specs.declared.runs.Run.{Run}
use Rattle.lvm_group.specs.Runs.{IsOrderly, Linear, extents_of}
use Rattle.lvm_group.specs.Group.{all_apart}
use Rattle.lvm_group.specs.Own.{in_row}
use Rattle.lvm_group.specs.Shown.{IsInside}
use Rattle.lvm_group.proofs.Below.{inside_still}
use Rattle.lvm_group.proofs.NewVolume.{new_extents, new_inside, new_orderly, new_short, new_writable, volume_is}
use Rattle.lvm_group.proofs.volume.Volume.create.Goals as goal

pub extents_in-count-requires : goal.extents_in-count-requires
extents_in-count-requires g c =
    let few = new_extents c.args.extents.now c.requires.few c.requires.below in
    let same = ap extents_of (c.as_slice.ensures.value ∙ c.make.ensures.runs_are) in
    omega arith

pub invariant_of-result : goal.invariant_of-result
invariant_of-result g c = record {
  orderly = subst IsOrderly (volume_is c.args.extent c.from-sectors.result c.args.extents.now c.make.new.room.runs.items c.from-sectors.ensures c.make.ensures.runs_are)
      (new_orderly c.args.pool.now.0 c.args.extent (g.R.Rack.seen c.args.rack).sectors c.args.extents.now c.requires.sized c.requires.few c.requires.holds);
  counted = c.extents_in-count.ensures ∙ ap extents_of c.as_slice.ensures.value;
  few = subst (λ (runs : List Run). length runs ≤ 1024) (sym c.make.ensures.runs_are) (new_short c.args.extents.now c.requires.few);
  row = subst (λ (runs : List Run). in_row 0 runs ≡ true) (sym c.make.ensures.runs_are) (new_writable c.args.extent (g.R.Rack.seen c.args.rack).sectors c.args.extents.now c.requires.few c.requires.holds).row;
  apart = subst (λ (runs : List Run). all_apart runs ≡ true) (sym c.make.ensures.runs_are) (new_writable c.args.extent (g.R.Rack.seen c.args.rack).sectors c.args.extents.now c.requires.few c.requires.holds).apart;
  numbered = omega arith;
  runs_room = c.make.ensures.runs_room;
  spare_room = let room = c.make.ensures.spare_room in let before = c.in-Ok.ensures.spare in omega arith;
  text_room = c.make.ensures.text_room;
}

pub returns-clause-fit : goal.returns-clause-fit
returns-clause-fit g c = (
  c.make.ensures.puts.only.stays.fit,
  subst (λ (l : Linear). IsInside l (g.R.Rack.seen c.make.new.rack)) (volume_is c.args.extent c.from-sectors.result c.args.extents.now c.make.new.room.runs.items c.from-sectors.ensures c.make.ensures.runs_are)
      (inside_still c.make.ensures.puts.only.stays
      (new_inside c.args.pool.now.0 c.args.extent (g.R.Rack.seen c.args.rack) c.args.extents.now c.requires.few c.requires.holds c.requires.arrays c.requires.small)),
)
