use Rattle.std.proofs.Common.{◌≡◌, ◌+◌, ◌*◌, ◌++◌, List, [], ◌∷◌, length, length-append, ◌∙◌, sym, ap, subst, arith}
use Rattle.lvm_group.specs.declared.parts.Part.{Part}
use Rattle.lvm_group.specs.Found.{AreParts}
use Rattle.std.specs.Prelude.{IfSome, Option}
use Rattle.lvm_text.specs.declared.group.Group.{Group}
use Rattle.lvm_group.specs.Group.{highest, seqno_of}
use Rattle.lvm_group.specs.Opening.{group_by}
use Rattle.lvm_group.specs.Reading.{IsTextOf}
use Rattle.lvm_group.proofs.Calls.{several_join, several_same}
use Rattle.lvm_group.proofs.Looking.{looks_same, looks_then}
use Rattle.lvm_group.proofs.Newest.{group_more}
use Rattle.lvm_group.proofs.PartsRead.{parts_more}
use Rattle.lvm_group.proofs.parts.read_parts.Goals as goal

pub loop-array-init : goal.loop-array-init
unfolding highest
loop-array-init g c = record {
  looks = looks_same (g.R.Rack.seen c.args.rack.now) c.requires.fit;
  runs = g.met.R.Rack.runs_same c.args.rack.now;
  unwritten = g.met.R.Rack.unwritten_same c.args.rack.now;
  several = several_same g.R.Rack.once 0 c.args.rack.now;
  room = c.requires.room;
  kept_room = c.requires.kept_room;
  newest = ap (λ (parts : List Part). seqno_of (group_by parts)) (sym c.new-parts.ensures.items);
  said = subst (λ (parts : List Part). IfSome (group_by parts) (IsTextOf c.args.kept.now.bytes)) (sym c.new-parts.ensures.items) tt;
  count = ap length c.new-parts.ensures.items;
  parts = λ array now below. absurd (omega arith);
}

pub loop-array-preserved : goal.loop-array-preserved
loop-array-preserved g c =
    let a = g.R.Rack.seen c.args.rack.now in
    let b = g.R.Rack.seen c.read_part.new.rack in
    let array = c.loop-array.array in
    let looks = c.loop-array.invariant.looks in
    let joined = c.requires.joined in
    let below = c.loop-array-test.true in
    let appended : c.append.new.parts.items ≡ c.loop-array.parts.items ++ c.in_ok-part.part ∷ [] = c.in_ok-append.ensures in
    let count = c.loop-array.invariant.count in
    let newest = c.keep_newer-newest.ensures.keeps (group_by c.loop-array.parts.items) c.loop-array.invariant.newest c.loop-array.invariant.said in
    let more = ap group_by appended ∙ group_more c.loop-array.parts.items c.in_ok-part.part in
    record {
      looks = looks_then looks c.in_ok-part.ensures.looks;
      runs = g.met.R.Rack.runs_then _ _ _ c.loop-array.invariant.runs c.in_ok-part.ensures.runs;
      unwritten = g.met.R.Rack.unwritten_then _ _ _ c.loop-array.invariant.unwritten c.in_ok-part.ensures.unwritten;
      several = several_join g.R.Rack.once (521 * array) 521 (521 * (array + 1)) _ _ _ (omega arith) c.loop-array.invariant.several c.in_ok-part.ensures.several;
      room = c.keep_newer-newest.ensures.room;
      kept_room = c.keep_newer-newest.ensures.kept_room;
      newest = newest.0 ∙ ap seqno_of (sym more);
      said = subst (λ (o : Option Group). IfSome o (IsTextOf c.keep_newer-newest.new.kept.bytes)) (sym more) newest.1;
      count = ap length appended ∙ length-append c.loop-array.parts.items (c.in_ok-part.part ∷ []) ∙ ap (λ n. n + 1) count;
      parts = subst (λ (parts : List Part). AreParts a b (array + 1) parts) (sym appended)
          (parts_more c.loop-array.parts.items c.in_ok-part.part array c.requires.fit count (omega arith) looks c.in_ok-part.ensures.looks c.loop-array.invariant.parts c.in_ok-part.ensures.part);
    }

pub returns-in_err-part-clause-several : goal.returns-in_err-part-clause-several
returns-in_err-part-clause-several g c =
    let below = c.loop-array-test.true in
    several_join g.R.Rack.once (521 * c.loop-array.array) 521 (521 * c.args.joined) _ _ _ (omega arith) c.loop-array.invariant.several c.in_err-part.ensures.several

pub returns-in_err-append-clause-several : goal.returns-in_err-append-clause-several
returns-in_err-append-clause-several g c =
    let below = c.loop-array-test.true in
    several_join g.R.Rack.once (521 * c.loop-array.array) 521 (521 * c.args.joined) _ _ _ (omega arith) c.loop-array.invariant.several c.in_ok-part.ensures.several
