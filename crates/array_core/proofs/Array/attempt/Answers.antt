use Rattle.std.proofs.Common.{sym, ◌∙◌, ap}
use Rattle.array_image.specs.Held.{current_in}
use Rattle.array_image.specs.Stripes.{width}
use Rattle.array_model.specs.Members.{gathered}
use Rattle.array_model.proofs.Firsts.{firsts, take_firsts, none_given}
use Rattle.array_model.proofs.Reading.{source_counts_on, given_source}
use Rattle.array_core.specs.Stands.{layout_of}
use Rattle.array_core.proofs.Array.attempt.Goals as goal

pub fetch-requires-clause-counts : goal.fetch-requires-clause-counts
fetch-requires-clause-counts g c =
    source_counts_on c.args.self.now (layout_of c.args.at.now.spread) c.args.at.now.sector c.args.at.now.position c.in-Some.position c.in-Some.ensures.found.1

pub returns-in-Some-clause-served : goal.returns-in-Some-clause-served
returns-in-Some-clause-served g c = λ ok.
    let served = c.fetch.ensures.served ok in (
      served.0,
      λ opened.
          given_source c.args.self.now (layout_of c.args.at.now.spread) (current_in (g.R.Rack.seen c.args.rack.now).held) c.args.at.now.sector c.args.at.now.position
          c.in-Some.position c.fetch.new.into c.in-Some.ensures.found.1 (served.1 opened),
    )

pub returns-in-None-clause-served : goal.returns-in-None-clause-served
returns-in-None-clause-served g c = λ ok.
    let served = c.gather.ensures.served ok in
    let v = c.args.self.now in
    let at = c.args.at.now in
    let cur = current_in (g.R.Rack.seen c.args.rack.now).held in (
      served.0,
      λ opened.
          served.1 opened
          ∙ ap (λ n. gathered cur v.number at.sector (firsts v n)) c.width.ensures
          ∙ ap (λ ms. gathered cur v.number at.sector ms) (sym (take_firsts v (width (layout_of at.spread)) v.truth.raid_disks c.requires.stand.members))
          ∙ sym (none_given (layout_of at.spread) cur v.number at.sector at.position _ c.in-None.ensures.none),
    )
