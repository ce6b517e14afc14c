use Rattle.std.proofs.Common.{◌≡◌, ℕ, ◌+◌, ◌-◌, ◌<◌, List, ◌∷◌, None, get_or, length, refl, ap, subst, ◌∙◌, arith}
use Rattle.std.specs.Prelude.{bytes_eq}
use Rattle.lvm_text.specs.Group.{segment_name}
use Rattle.lvm_text.specs.Table.{first_place}
use Rattle.lvm_text.proofs.SegmentTable.{closed, closes, ended, inner_name, opens, others, outer_name, plain_from}
use Rattle.lvm_text.proofs.table.table_of.Goals as goal

pub returns-then-depth-eq0-2-clause-table : goal.returns-then-depth-eq0-2-clause-table
returns-then-depth-eq0-2-clause-table c =
    closed c.loop-word.table.items c.loop-word.depth c.loop-word.rest.now c.in-Some.after.now c.args.words.now c.if-depth-eq0-2.true
    (c.in-Some.ensures.cases.0 ∙ ap (λ w. w ∷ c.in-Some.after.now) c.in-Close.is) c.loop-word.invariant.0

pub loop-word-preserved-then-depth-eq0 : goal.loop-word-preserved-then-depth-eq0
loop-word-preserved-then-depth-eq0 c = (
  outer_name c.loop-word.table.items c.note.new.table.items c.loop-word.depth c.in-Name.name c.loop-word.rest.now c.in-Some.after.now c.args.words.now (length c.args.words.now - length c.in-Some.after.now) c.if-depth-eq0.true
      (c.in-Some.ensures.cases.0 ∙ ap (λ w. w ∷ c.in-Some.after.now) c.in-Name.is) refl c.note.ensures.entries
      (subst (λ (n : List ℕ). (k : ℕ) → k < length c.loop-word.table.items → get_or c.note.new.table.items k None ≡ first_place (get_or c.loop-word.table.items k None) (bytes_eq n (segment_name (k + 1))) (length c.args.words.now - length c.in-Some.after.now)) c.bytes.ensures c.note.ensures.places)
      c.loop-word.invariant.0,
  omega (arith, c.in-Some.ensures.cases.1),
  omega (arith, c.note.ensures.entries, c.loop-word.invariant.2),
)

pub loop-word-preserved-else-depth-eq0 : goal.loop-word-preserved-else-depth-eq0
loop-word-preserved-else-depth-eq0 c = (
  inner_name c.loop-word.table.items c.loop-word.depth c.in-Name.name c.loop-word.rest.now c.in-Some.after.now c.args.words.now c.if-depth-eq0.false
      (c.in-Some.ensures.cases.0 ∙ ap (λ w. w ∷ c.in-Some.after.now) c.in-Name.is) c.loop-word.invariant.0,
  omega (arith, c.in-Some.ensures.cases.1),
  c.loop-word.invariant.2,
)

pub loop-word-preserved-in-Open : goal.loop-word-preserved-in-Open
loop-word-preserved-in-Open c = (
  opens c.loop-word.table.items c.loop-word.depth c.loop-word.rest.now c.in-Some.after.now c.args.words.now
      (c.in-Some.ensures.cases.0 ∙ ap (λ w. w ∷ c.in-Some.after.now) c.in-Open.is) c.loop-word.invariant.0,
  omega (arith, c.in-Some.ensures.cases.1),
  c.loop-word.invariant.2,
)

pub loop-word-preserved-else-depth-eq0-2 : goal.loop-word-preserved-else-depth-eq0-2
loop-word-preserved-else-depth-eq0-2 c = (
  closes c.loop-word.table.items c.loop-word.depth c.loop-word.rest.now c.in-Some.after.now c.args.words.now c.if-depth-eq0-2.false
      (c.in-Some.ensures.cases.0 ∙ ap (λ w. w ∷ c.in-Some.after.now) c.in-Close.is) c.loop-word.invariant.0,
  omega (arith, c.in-Some.ensures.cases.1),
  c.loop-word.invariant.2,
)

pub loop-word-preserved : goal.loop-word-preserved
loop-word-preserved c = (
  others c.loop-word.table.items c.loop-word.depth c.in-Some.word.now c.loop-word.rest.now c.in-Some.after.now c.args.words.now
      (plain_from c.in-Some.word.now c.in_default-word.not-Name c.in_default-word.not-Open c.in_default-word.not-Close)
      c.in-Some.ensures.cases.0 c.loop-word.invariant.0,
  omega (arith, c.in-Some.ensures.cases.1),
  c.loop-word.invariant.2,
)

pub returns-clause-table : goal.returns-clause-table
returns-clause-table c =
    ended c.loop-word.table.items c.loop-word.depth c.loop-word.rest.now c.args.words.now c.in_default.ensures.cases c.loop-word.invariant.0
