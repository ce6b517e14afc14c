use Rattle.std.proofs.Common.{◌≤◌, true, [], ap, sym, ◌∙◌, arith}
use Rattle.std.specs.Option.{option_map_or}
use Rattle.array_image.specs.Supers.{super_of}
use Rattle.rack.proofs.Reading.{only_reads_start}
use Rattle.pool_check.specs.Layers.{is_usable}
use Rattle.pool_check.proofs.Founded.{empty_block}
use Rattle.pool_check.proofs.Supers.{super_past, usable_super}
use Rattle.pool_check.proofs.superblocks.read_super.Goals as goal

pub returns-then-sector-sectors-clause-found : goal.returns-then-sector-sectors-clause-found
returns-then-sector-sectors-clause-found g c =
    let x = g.R.Rack.seen c.args.rack.now in
    let past : x.sectors c.args.disk ≤ c.args.sector = omega (arith, c.sectors.ensures.number, c.if-sector-sectors.true) in
    record {
      only = only_reads_start x c.requires.fit;
      value = λ told contents agrees. super_past c.args.state.now c.args.array c.args.place (x.sectors c.args.disk) c.args.sector contents past;
      gone = tt;
    }

pub returns-clause-usable : goal.returns-clause-usable
returns-clause-usable g c =
    ap (λ o. option_map_or is_usable o true) c.valid_super.ensures
    ∙ usable_super c.args.state.now c.args.array c.args.place (super_of c.read.new.into) c.requires.state

pub returns-then-sector-sectors-clause-valid : goal.returns-then-sector-sectors-clause-valid
returns-then-sector-sectors-clause-valid g c = ([], sym (empty_block c.args.state.now c.args.array c.args.place))

pub returns-clause-valid : goal.returns-clause-valid
returns-clause-valid g c = (c.read.new.into, c.valid_super.ensures)
