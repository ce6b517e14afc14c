use Rattle.std.proofs.Common.{◌≡◌, ◌+◌, true, false, sym, ap, ◌∙◌, length}
use Rattle.std.specs.Prelude.{nat_le}
use Rattle.lvm_group.specs.Growth.{are_joined}
use Rattle.lvm_group.proofs.Grown.{fits_by}
use Rattle.lvm_group.proofs.growth.fits.Goals as goal

pub returns-then-are_joined : goal.returns-then-are_joined
returns-then-are_joined c =
    let joins : are_joined c.args.runs.now c.pieces-more.result.items ≡ true = ap (are_joined c.args.runs.now) (sym c.as_slice.ensures.value) ∙ sym c.are_joined.ensures ∙ c.if-are_joined.true in
    ap (λ n. nat_le (length c.args.runs.now + n) 1025) c.len.ensures.value
    ∙ fits_by c.args.runs.now c.args.numbers.now c.pieces-more.result.items true (sym c.are_within.ensures ∙ c.if-not-are_within.false) c.pieces-more.ensures joins

pub returns-else-are_joined : goal.returns-else-are_joined
returns-else-are_joined c =
    let joins : are_joined c.args.runs.now c.pieces-more.result.items ≡ false = ap (are_joined c.args.runs.now) (sym c.as_slice.ensures.value) ∙ sym c.are_joined.ensures ∙ c.if-are_joined.false in
    ap (λ n. nat_le (length c.args.runs.now + n) 1024) c.len-else-are_joined.ensures.value
    ∙ fits_by c.args.runs.now c.args.numbers.now c.pieces-more.result.items false (sym c.are_within.ensures ∙ c.if-not-are_within.false) c.pieces-more.ensures joins
