use Rattle.std.proofs.Common.{◌≡◌, ◌<◌, false, Some, None, ap, subst}
use Rattle.rack.proofs.Reading.{only_reads_start}
use Rattle.array_image.specs.Held.{first_counting}
use Rattle.array_model.specs.View.{View, member_on}
use Rattle.array_model.specs.Rows.{row, refused}
use Rattle.array_model.proofs.Alone.{alone_owes, alone_spent, first_counts}
use Rattle.array_model.proofs.Firsts.{firsts}
use Rattle.array_model.proofs.Views.{notes_none}
use Rattle.array_core.proofs.Elsewhere.{one_elsewhere, reads_elsewhere}
use Rattle.array_core.proofs.Array.write_first.Goals as goal

pub send-requires-clause-counts : goal.send-requires-clause-counts
send-requires-clause-counts g c = first_counts c.args.sector _ _ c.in-Some.ensures.found.1

pub returns-in-Some-clause-wrote : goal.returns-in-Some-clause-wrote
returns-in-Some-clause-wrote g c =
    row _ c.send.ensures.works
    (alone_owes c.args.self.now c.rules.ensures c.requires.alone (g.R.Rack.seen c.args.rack.now) c.args.sector c.in-Some.position c.args.from.now
    (subst (λ n. first_counting c.args.sector (firsts c.args.self.now n) ≡ Some (member_on c.args.self.now c.in-Some.position)) (ap (λ (v : View). v.truth.raid_disks) c.self.view_is) c.in-Some.ensures.found.1)
    c.told-from)

pub returns-in-None-clause-wrote : goal.returns-in-None-clause-wrote
returns-in-None-clause-wrote g c =
    let a = g.R.Rack.seen c.args.rack.now in
    refused (only_reads_start a c.requires.slices.fit) (notes_none c.args.self.now a a)
    (alone_spent c.args.self.now c.rules.ensures c.requires.alone c.args.sector
    (subst (λ n. first_counting c.args.sector (firsts c.args.self.now n) ≡ None) (ap (λ (v : View). v.truth.raid_disks) c.self.view_is) c.in-None.ensures.none))

pub returns-in-Some-clause-elsewhere : goal.returns-in-Some-clause-elsewhere
returns-in-Some-clause-elsewhere g c = λ on.
    one_elsewhere c.args.self.now c.send.new.self on (g.R.Rack.seen c.args.rack.now) (g.R.Rack.seen c.send.new.rack) c.in-Some.position c.args.sector c.args.from.now c.rules.ensures.few
    (subst (λ n. c.in-Some.position < n) (ap (λ (v : View). v.truth.raid_disks) c.self.view_is) c.in-Some.ensures.found.0)
    (first_counts c.args.sector _ _ c.in-Some.ensures.found.1) c.send.ensures.works

pub returns-in-None-clause-elsewhere : goal.returns-in-None-clause-elsewhere
returns-in-None-clause-elsewhere g c = λ on.
    let a = g.R.Rack.seen c.args.rack.now in
    reads_elsewhere false c.args.self.now on a a (only_reads_start a c.requires.slices.fit)
