use Rattle.std.proofs.Common.{ℕ, subst, arith}
use Rattle.gpt_table.specs.declared.TableFault.TheVariants.{Gone}
use Rattle.gpt_table.specs.Changes.{SettlesTable}
use Rattle.gpt_table.proofs.Settled.{settled_by, rose_settling, settled_none}
use Rattle.gpt_table.proofs.settling.settle_table.Goals as goal

pub returns-in-Err-clause-settles : goal.returns-in-Err-clause-settles
returns-in-Err-clause-settles g c =
    settled_none (g.R.Rack.seen c.args.rack.now) (g.R.Rack.seen c.read_copies.new.rack) c.args.disk ((g.R.Rack.seen c.args.rack.now).sectors c.args.disk) Gone
    c.in-Err.ensures.looks.only

pub returns-clause-settles : goal.returns-clause-settles
returns-clause-settles g c =
    subst
    (λ (n : ℕ). SettlesTable (g.R.Rack.seen c.args.rack.now) (g.R.Rack.seen c.settle_copies.new.rack) c.args.disk n c.settle_copies.result)
    c.sectors-sectors.ensures.number
    (settled_by (g.R.Rack.seen c.args.rack.now) (g.R.Rack.seen c.read_copies.new.rack) (g.R.Rack.seen c.settle_copies.new.rack) c.args.disk c.sectors-sectors.result
    c.in-Ok.copies.primary c.in-Ok.copies.backup c.settle_copies.result (omega (arith, c.if-sectors-lt-FEWEST_SECTORS.false))
    (record {
      only = c.in-Ok.ensures.looks.only;
      first = λ told. (c.in-Ok.ensures.looks.value told).0;
      second = λ told. (c.in-Ok.ensures.looks.value told).1;
    })
    c.in-Ok.ensures.primary c.in-Ok.ensures.backup c.settle_copies.ensures.settles)

pub returns-clause-gone : goal.returns-clause-gone
returns-clause-gone g c = λ gone.
    rose_settling (g.R.Rack.seen c.args.rack.now) (g.R.Rack.seen c.read_copies.new.rack) (g.R.Rack.seen c.settle_copies.new.rack) c.args.disk c.sectors-sectors.result
    c.in-Ok.copies.primary c.in-Ok.copies.backup c.settle_copies.result
    (record {
      only = c.in-Ok.ensures.looks.only;
      first = λ told. (c.in-Ok.ensures.looks.value told).0;
      second = λ told. (c.in-Ok.ensures.looks.value told).1;
    })
    c.settle_copies.ensures.settles gone
