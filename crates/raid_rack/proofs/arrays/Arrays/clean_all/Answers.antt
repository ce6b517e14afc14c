use Rattle.std.proofs.Common.{◌==◌, ◌+◌, ◌*◌, nat_lt, le-ltb, arith}
use Rattle.raid_rack.specs.RaidRack.{raid_by}
use Rattle.raid_rack.proofs.Raises.{raises_more, raises_none, raises_then}
use Rattle.raid_rack.proofs.Cleanings.{cleans_all, cleans_none, cleans_then, first_apart, first_more}
use Rattle.raid_rack.proofs.Truths.{truths_same, truths_then}
use Rattle.raid_laws.proofs.Unlost.{unlost_same, unlost_then}
use Rattle.raid_rack.proofs.arrays.Arrays.clean_all.Goals as goal

pub loop-number-init : goal.loop-number-init
loop-number-init g c = record {
  cleans = cleans_none (λ n. nat_lt n 0) (raid_by c.args.self.now) (g.S.Rack.seen c.args.rack.now) (λ n. le-ltb n 0 (omega arith)) c.requires.running.set c.requires.heeded;
  raises = raises_none (raid_by c.args.self.now);
  running = c.requires.running;
  truths = truths_same (raid_by c.args.self.now) (g.S.Rack.seen c.args.rack.now);
  unlost = unlost_same c.args.self.now.state (g.S.Rack.seen c.args.rack.now);
  runs = g.met.S.Rack.runs_same c.args.rack.now;
}

pub clean_array-requires-clause-running : goal.clean_array-requires-clause-running
clean_array-requires-clause-running g c = c.loop-number.invariant.running

pub clean_array-requires-clause-heeded : goal.clean_array-requires-clause-heeded
clean_array-requires-clause-heeded g c = c.loop-number.invariant.cleans.heeded

pub clean_array-requires-clause-number : goal.clean_array-requires-clause-number
clean_array-requires-clause-number g c =
    let low = c.loop-number-test.true in
    let end = c.len-number-end.ensures.value in
    let count = c.requires.running.count in
    let made = c.loop-number.invariant.cleans.moves.book.same.made in
    omega (arith, low, end, count, made)

pub loop-number-preserved : goal.loop-number-preserved
loop-number-preserved g c =
    let inv = c.loop-number.invariant in
    record {
      cleans = cleans_then (λ n. nat_lt n c.loop-number.number) (λ n. n == c.loop-number.number) (λ n. nat_lt n (c.loop-number.number + 1))
          (raid_by c.args.self.now) (raid_by c.loop-number.self) (raid_by c.clean_array.new.self)
          (g.S.Rack.seen c.args.rack.now) (g.S.Rack.seen c.loop-number.rack) (g.S.Rack.seen c.clean_array.new.rack)
          (λ n. first_more n c.loop-number.number) (λ n is. first_apart n c.loop-number.number is) inv.cleans c.clean_array.ensures.cleans;
      raises = raises_more (c.loop-number.number * 18 + 18) ((c.loop-number.number + 1) * 18) (raid_by c.args.self.now) (raid_by c.clean_array.new.self) (omega arith)
          (raises_then (c.loop-number.number * 18) 18 (raid_by c.args.self.now) (raid_by c.loop-number.self) (raid_by c.clean_array.new.self) inv.cleans.moves.book.same.made inv.raises c.clean_array.ensures.raises);
      running = c.clean_array.ensures.running;
      truths = truths_then (raid_by c.args.self.now) (raid_by c.loop-number.self) (raid_by c.clean_array.new.self)
          (g.S.Rack.seen c.args.rack.now) (g.S.Rack.seen c.loop-number.rack) (g.S.Rack.seen c.clean_array.new.rack) inv.cleans.moves.book.same.made inv.truths c.clean_array.ensures.truths;
      unlost = unlost_then c.args.self.now.state c.loop-number.self.state c.clean_array.new.self.state
          (g.S.Rack.seen c.args.rack.now) (g.S.Rack.seen c.loop-number.rack) (g.S.Rack.seen c.clean_array.new.rack)
          inv.cleans.moves.stays c.clean_array.ensures.cleans.moves.stays inv.cleans.moves.book c.clean_array.ensures.cleans.moves.book inv.unlost c.clean_array.ensures.unlost;
      runs = g.met.S.Rack.runs_then _ _ _ inv.runs c.clean_array.ensures.runs;
    }

pub returns-clause-cleans : goal.returns-clause-cleans
returns-clause-cleans g c =
    let past = c.loop-number-test.false in
    let end = c.len-number-end.ensures.value in
    let count = c.requires.running.count in
    cleans_all (raid_by c.args.self.now) (raid_by c.loop-number.self) (g.S.Rack.seen c.args.rack.now) (g.S.Rack.seen c.loop-number.rack) c.loop-number.number
    (omega (arith, past, end, count)) c.loop-number.invariant.cleans

pub returns-clause-raises : goal.returns-clause-raises
returns-clause-raises g c =
    let end = c.len-number-end.ensures.value in
    let count = c.requires.running.count in
    let most = c.requires.running.set.most in
    raises_more (c.loop-number.number * 18) 288 (raid_by c.args.self.now) (raid_by c.loop-number.self) (omega (arith, end, count, most)) c.loop-number.invariant.raises

pub returns-clause-running : goal.returns-clause-running
returns-clause-running g c = c.loop-number.invariant.running

pub returns-clause-runs : goal.returns-clause-runs
returns-clause-runs g c = c.loop-number.invariant.runs

pub returns-clause-truths : goal.returns-clause-truths
returns-clause-truths g c = c.loop-number.invariant.truths

pub returns-clause-unlost : goal.returns-clause-unlost
returns-clause-unlost g c = c.loop-number.invariant.unlost
