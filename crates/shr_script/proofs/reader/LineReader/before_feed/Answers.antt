use Rattle.std.proofs.Common.{arith}
use Rattle.shr_script.specs.Pieces.{pending}
use Rattle.shr_script.proofs.ReadingLemmas.{at_hand, no_feed_before}
use Rattle.shr_script.proofs.reader.LineReader.before_feed.Goals as goal

pub returns-in-Some-clause-no_feed : goal.returns-in-Some-clause-no_feed
returns-in-Some-clause-no_feed c =
    let r = c.args.self.now in
    no_feed_before (pending r) _ c.in-Some.place (at_hand r.piece r.start r.end r.in_order) (λ k below inside. c.in-Some.ensures.0.before k (omega arith) below)

pub returns-in-None-clause-no_feed : goal.returns-in-None-clause-no_feed
returns-in-None-clause-no_feed c =
    let r = c.args.self.now in
    no_feed_before (pending r) _ _ (at_hand r.piece r.start r.end r.in_order) (λ k below inside. c.in-None.ensures k (omega arith) inside)
