use Rattle.std.proofs.Common.{true, false, sym, ◌∙◌, arith}
use Rattle.array_core.proofs.Rules.{source_mirror, source_mirror_none, source_parity}
use Rattle.array_core.proofs.Array.source.Goals as goal

pub returns-in-Mirror-clause-found : goal.returns-in-Mirror-clause-found
returns-in-Mirror-clause-found c = source_mirror c.args.self.now c.args.at.now c.in-Mirror.members c.requires c.in-Mirror.is c.first.result c.first.ensures.found

pub returns-in-Mirror-clause-none : goal.returns-in-Mirror-clause-none
returns-in-Mirror-clause-none c = source_mirror_none c.args.self.now c.args.at.now c.in-Mirror.members c.requires c.in-Mirror.is c.first.result c.first.ensures.none

pub returns-then-counts-clause-found : goal.returns-then-counts-clause-found
returns-then-counts-clause-found c =
    let low = c.requires.position in
    let most = c.requires.members in
    (omega (arith, low, most), source_parity c.args.self.now c.args.at.now c.in-Parity.members true c.requires c.in-Parity.is (sym c.counts.ensures ∙ c.if-counts.true))

pub returns-else-counts-clause-none : goal.returns-else-counts-clause-none
returns-else-counts-clause-none c = source_parity c.args.self.now c.args.at.now c.in-Parity.members false c.requires c.in-Parity.is (sym c.counts.ensures ∙ c.if-counts.false)
