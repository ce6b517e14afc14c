use Rattle.std.proofs.Common.{◌≡◌, true, ℕ, ◌*◌, sym, ap, subst, ◌∙◌, arith}
use Rattle.std.proofs.lemmas.Bool.{both_ways}
use Rattle.array_model.proofs.Views.{same_view}
use Rattle.sync_laws.specs.Rows.{AreZeros, OfMember, counts_in}
use Rattle.sync_laws.proofs.Copying.{copies_by, no_copies}
use Rattle.array_sync.proofs.zeros.stage_if_counts.Goals as goal

pub returns-then-counts_in-clause-added : goal.returns-then-counts_in-clause-added
returns-then-counts_in-clause-added c =
    copies_by c.args.array.now c.args.array.now (OfMember c.args.position (c.args.row * 128) 128) _ AreZeros AreZeros 128 128 c.args.log.now.added c.stage_member.new.log.added (same_view c.args.array.now) (omega arith)
    (λ t j is. (is, subst (λ (k : ℕ). counts_in c.args.array.now c.args.row k ≡ true) (sym is.2) (sym c.counts_in.ensures ∙ c.if-counts_in.true)))
    (λ t j is. is.0) (λ t j u is bytes. bytes) c.stage_member.ensures.added

pub returns-else-counts_in-clause-added : goal.returns-else-counts_in-clause-added
returns-else-counts_in-clause-added c =
    no_copies c.args.array.now _ _ 128 c.args.log.now.added
    (λ t j is. both_ways (counts_in c.args.array.now c.args.row j) (ap (counts_in c.args.array.now c.args.row) is.0.2 ∙ sym c.counts_in.ensures ∙ c.if-counts_in.false) is.1)
