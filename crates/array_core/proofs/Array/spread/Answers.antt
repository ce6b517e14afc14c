use Rattle.std.proofs.Common.{sym, ◌∙◌, lt-ltb, le-ltb}
use Rattle.array_core.proofs.Rules.{spread_moved, spread_kept, spread_mirror, spread_parity}
use Rattle.array_core.proofs.Array.spread.Goals as goal

pub returns-then-x-self : goal.returns-then-x-self
returns-then-x-self c = spread_moved c.self.inside c.args.self.now c.args.x c.self.view_is c.self.invariant (sym c.is_reshaping.ensures ∙ c.if-is_reshaping.true) (lt-ltb _ _ c.if-x-self.true)

pub returns-else-x-self : goal.returns-else-x-self
returns-else-x-self c = spread_kept c.self.inside c.args.self.now c.args.x c.self.view_is c.self.invariant (sym c.is_reshaping.ensures ∙ c.if-is_reshaping.true) (le-ltb _ _ c.if-x-self.false)

pub returns-then-is_mirror : goal.returns-then-is_mirror
returns-then-is_mirror c = spread_mirror c.self.inside c.args.self.now c.args.x c.self.view_is (sym c.is_reshaping.ensures ∙ c.if-is_reshaping.false) (sym c.is_mirror.ensures ∙ c.if-is_mirror.true)

pub returns-else-is_mirror : goal.returns-else-is_mirror
returns-else-is_mirror c = spread_parity c.self.inside c.args.self.now c.args.x c.self.view_is (sym c.is_reshaping.ensures ∙ c.if-is_reshaping.false) (sym c.is_mirror.ensures ∙ c.if-is_mirror.false)
