use Rattle.std.proofs.Common.{◌∷◌, [], rules, arith}
use Rattle.rack.specs.Joins.{rose_since}
use Rattle.image_text.proofs.Joining.{prefix_line}
use Rattle.image_text.proofs.putting.put_bytes.Goals as goal

pub returns-in-Err-put : goal.returns-in-Err-put
returns-in-Err-put g c = record {
  grows = let l = c.put.ensures.faults in let r = c.put-2.ensures.faults in omega arith;
  told = λ told. c.put-2.ensures.told (c.put.ensures.told told);
  puts = λ told. prefix_line (g.O.Sink.taken c.args.out.now) (g.O.Sink.taken c.put.new.self) (g.O.Sink.taken c.put-2.new.self) c.args.bytes.now (10 ∷ [])
      (c.in-Ok.ensures.put told) (c.in-Err-put.ensures.prefix (c.put.ensures.told told));
  failed = λ e. rose_since c.put.ensures.faults c.in-Err-put.ensures.failed;
  here = search rules;
}
