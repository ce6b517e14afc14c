-- A span of bytes without a line feed is added to what has been read.
use Rattle.std.proofs.Common.{◌≡◌, ℕ, List, ◌+◌, ◌∷◌, ◌++◌, ◌<◌, take, drop, length, refl, ◌∙◌, ap, arith}
use Rattle.shr_script.specs.Reading.{kept_of}
use Rattle.shr_script.specs.Pieces.{pending}
use Rattle.shr_script.proofs.ReadingLemmas.{part_same, part_taken, feed_next, pending-some}
use Rattle.shr_script.proofs.reader.LineReader.next.Goals as goal

pub returns-then-self-limit-clause-read : goal.returns-then-self-limit-clause-read
returns-then-self-limit-clause-read g c =
    λ told.
    record {
      part =
          part_same (c.spans.invariant.part told)
          (c.fill.ensures.rest (c.spans.invariant.told told))
          c.fill.ensures.line
          c.fill.ensures.consumed;
      full = c.if-self-limit.true;
      more =
          let r = c.fill.new.self in
          pending-some r.piece r.start r.end r.size (c.fill.ensures.ready c.in-Ready.is) r.in_piece
          (g.I.Source.left c.fill.new.input);
    }

pub returns-then-self-clause-read : goal.returns-then-self-clause-read
returns-then-self-clause-read g c =
    λ told.
    let r = c.fill.new.self in
    let left = g.I.Source.left c.fill.new.input in
    let count = c.before_feed-count.result in
    let there : count < length (pending r) = omega (arith, c.if-self.true, c.keep.ensures.left) in
    let behind : pending c.skip.new.self ≡ drop 1 (drop count (pending r)) = c.skip.ensures.pending ∙ ap (drop 1) c.keep.ensures.pending in
    record {
      last = c.keep.new.self.consumed;
      part =
          part_same {after' = 10 ∷ (pending c.skip.new.self ++ left)}
          (part_taken (pending c.spans.self ++ g.I.Source.left c.spans.input) (pending r) left count (c.spans.invariant.part told)
          (c.fill.ensures.rest (c.spans.invariant.told told)) c.before_feed-count.ensures.inside c.before_feed-count.ensures.no_feed
          (c.keep.ensures.line ∙ ap (λ (xs : List ℕ). kept_of (xs ++ take count (pending r))) c.fill.ensures.line)
          (c.keep.ensures.consumed ∙ ap (λ n. n + count) c.fill.ensures.consumed))
          (ap (λ (xs : List ℕ). xs ++ left)
          (ap (λ xs. 10 ∷ xs) behind ∙ feed_next (pending r) count there (c.before_feed-count.ensures.feed there)))
          c.skip.ensures.line
          refl;
      count = c.skip.ensures.consumed;
    }

pub spans-preserved : goal.spans-preserved
spans-preserved g c =
    let r = c.fill.new.self in
    let left = g.I.Source.left c.fill.new.input in
    let count = c.before_feed-count.result in
    record {
      told = λ told. c.fill.ensures.told (c.spans.invariant.told told);
      part =
          λ told.
          part_same
          (part_taken (pending c.spans.self ++ g.I.Source.left c.spans.input) (pending r) left count (c.spans.invariant.part told)
          (c.fill.ensures.rest (c.spans.invariant.told told)) c.before_feed-count.ensures.inside c.before_feed-count.ensures.no_feed
          (c.keep.ensures.line ∙ ap (λ (xs : List ℕ). kept_of (xs ++ take count (pending r))) c.fill.ensures.line)
          (c.keep.ensures.consumed ∙ ap (λ n. n + count) c.fill.ensures.consumed))
          (ap (λ (xs : List ℕ). xs ++ left) c.keep.ensures.pending)
          refl
          refl;
      faults = let before = c.spans.invariant.faults in let now = c.fill.ensures.faults in omega arith;
      within =
          let below : c.fill.new.self.consumed < c.args.limit = let before = c.spans.invariant.within in let other = c.if-self-limit.false in omega arith in
          let filled = c.fill.ensures.within (omega arith) in
          omega arith;
      grows = let before = c.spans.invariant.grows in omega arith;
    }
