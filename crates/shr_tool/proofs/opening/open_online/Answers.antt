-- The disks are asked, and the pool opened on those that answer, or memory is wanting. The bay comes back as it was left.
use Rattle.std.proofs.Common.{◌≡◌, ◌∙◌, ap, sym, subst, inl, inr, MutBor}
use Rattle.rack.specs.Sequences.{OnlyReads}
use Rattle.array_image.specs.Places.{state_sector}
use Rattle.online_bay.specs.declared.OnlineBay.{OnlineBay}
use Rattle.online_bay.specs.OnlineBay.{bay_in, offline_in}
use Rattle.shr_tool.specs.Online.{OnlineOutcome, online_runs, online_seen, online_shelf}
use Rattle.shr_tool.proofs.Online.{asks_through, outcome_through}
use Rattle.shr_tool.proofs.opening.open_online.Goals as goal

pub returns-in-Ok-clause-outcome : goal.returns-in-Ok-clause-outcome
returns-in-Ok-clause-outcome g c =
    let seen = g.B.Rack.seen in
    let shelf = g.B.Bay.shelf in
    let runs = g.B.Rack.runs in
    let online = c.in-Ok.online in
    let last = c.open_attached-status.new.bay in
    let asks = c.in-Ok.ensures.asks in
    let does = c.open_attached-status.ensures in
    let inner = c.into_inner-bay.ensures in
    let back : c.bay-1.given.0 ≡ (bay_in last).now =
    c.bay-1.given.1 (sym (ap (λ b. b.ghost_name) inner ∙ does.frame.0.0 ∙ asks.kept.0)) ∙ ap (λ b. b.now) inner in
    λ source sink.
    inr
    (subst
    (λ b. OnlineOutcome seen shelf runs c.args.bay.now b c.args.task (g.I.Source.left c.args.input.now) (g.I.Source.left c.open_attached-status.new.input)
    (g.O.Sink.taken c.args.out.now) (g.O.Sink.taken c.open_attached-status.new.out) c.open_attached-status.result)
    (sym back)
    (record {
      asked = record { bay = (bay_in online).now; offline = offline_in online };
      asks = asks_through seen _ runs (λ r. r.now) (λ r s ran. ran.1) _ (bay_in online) state_sector (offline_in online) asks;
      kept = does.frame.1.kept;
      offline = offline_in last;
      outcome =
          outcome_through (online_seen seen) (online_shelf shelf) _ (online_runs runs) (λ (r : OnlineBay (MutBor g.row.B.Denot)). record { bay = (bay_in r).now; offline = offline_in r })
          (λ r s ran. (ran.0, ran.1.1)) online last c.args.task _ _ _ _ _ (does.outcome source sink);
    }))

pub returns-in-Err-clause-outcome : goal.returns-in-Err-clause-outcome
returns-in-Err-clause-outcome g c =
    let seen = g.B.Rack.seen in
    let runs = g.B.Rack.runs in
    let back = c.in-Err.ensures.back in
    let same : c.bay-in-Err-1.given.0 ≡ c.in-Err.back.rack.now = c.bay-in-Err-1.given.1 (sym back.1.0) in
    λ source sink.
    inl (
      subst (λ b. OnlyReads (seen c.args.bay.now) (seen b)) (sym same) back.0,
      subst (λ b. runs c.args.bay.now b) (sym same) back.1.1,
      c.refuse.ensures.says sink,
    )
