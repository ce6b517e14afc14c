use Rattle.std.proofs.Common.{◌≡◌, ◌+◌, ◌++◌, List, [], ◌∷◌, length, length-append, ◌∙◌, sym, ap, subst, arith}
use Rattle.rack.proofs.Reading.{only_reads_join}
use Rattle.lvm_group.specs.declared.starts.TextStart.{TextStart}
use Rattle.lvm_group.specs.Writing.{AreStarts}
use Rattle.lvm_group.specs.Changing.{AreBehind}
use Rattle.lvm_group.proofs.Calls.{several_join}
use Rattle.lvm_group.proofs.TextStarts.{behind_more, inside_more}
use Rattle.lvm_group.proofs.starts.read_starts.Goals as goal

pub loop-array-preserved : goal.loop-array-preserved
loop-array-preserved g c =
    let a = g.R.Rack.seen c.args.rack.now in
    let looks = c.loop-array.invariant.looks in
    let before = c.loop-array.invariant in
    let array = c.loop-array.array in
    let count = before.count in
    let joined = c.requires.arrays in
    let below = c.loop-array-test.true in
    let pushed : c.push.new.self.items ≡ c.loop-array.starts.items ++ c.in-Ok.start ∷ [] = c.push.ensures.items in
    record {
      looks = only_reads_join looks c.in-Ok.ensures.looks;
      several = several_join g.R.Rack.once c.loop-array.array 1 (c.loop-array.array + 1) _ _ _ (omega arith) c.loop-array.invariant.several c.in-Ok.ensures.several;
      runs = g.met.R.Rack.runs_then _ _ _ before.runs c.in-Ok.ensures.runs;
      count = ap length pushed ∙ length-append c.loop-array.starts.items (c.in-Ok.start ∷ []) ∙ ap (λ n. n + 1) count;
      inside = subst AreStarts (sym pushed) (inside_more c.loop-array.starts.items c.in-Ok.start before.inside c.in-Ok.ensures.inside.0 c.in-Ok.ensures.inside.1);
      behind = subst (λ (starts : List TextStart). AreBehind a (array + 1) starts) (sym pushed)
          (behind_more array c.loop-array.starts.items c.in-Ok.start count (omega arith) (c.requires.sectors array below) looks (c.in-Ok.ensures.looks.stays.spent array 8 c.in-Ok.ensures.unspent) before.behind c.in-Ok.ensures.start);
    }

pub returns-in-Err-clause-several : goal.returns-in-Err-clause-several
returns-in-Err-clause-several g c =
    let test = c.loop-array-test.true in
    several_join g.R.Rack.once c.loop-array.array 1 c.args.arrays _ _ _ (omega arith) c.loop-array.invariant.several c.in-Err.ensures.several
