-- Parts of a call in a row, after which superblocks agree.
use Rattle.std.proofs.Common.{◌≡◌, ◌<◌, ◌∙◌, sym, subst}
use Rattle.rack.specs.Seen.{RackView, SameRack}
use Rattle.rack.specs.Joins.{rose_early, rose_later}
use Rattle.pool_state.specs.declared.contents.State.{State}
use Rattle.array_image.specs.Left.{IsLeft}
use Rattle.array_model.specs.ArrayCalls.{IncludesSpent}
use Rattle.raid_laws.specs.Agreeing.{AgreeLeaving, MakesAgree}
use Rattle.raid_laws.specs.Cleaning.{NoneFails}
use Rattle.raid_laws.specs.Moves.{ChangesNoData}
use Rattle.raid_laws.specs.Raid.{Raid}
use Rattle.raid_laws.proofs.Rows.{left_same}

-- where no drive refuses a call, none does so in a part of it
pub none_later : (a b c : RackView) → SameRack a b → NoneFails a c → NoneFails b c
none_later a b c stays none place fault = none place (fault.0, fault.1, rose_later a b c fault.0 stays fault.2)

pub none_early : (a b c : RackView) → SameRack b c → NoneFails a c → NoneFails a b
none_early a b c stays none place fault = none place (fault.0, fault.1, rose_early a b c fault.0 stays fault.2)

-- the second part makes them agree
pub agree_then : (v w z : Raid) (a b c : RackView) → ChangesNoData v w a b → ChangesNoData w z b c → MakesAgree w z b c → MakesAgree v z a c
agree_then v w z a b c one two second none n vals spent joined made goes covers amid =
    let low : n < w.state.made = subst (λ k. n < k) (sym one.book.same.made) made in
    let covered : IncludesSpent (w.arrays n) spent = λ y alive. two.spent n y low (covers y alive) in
    λ r left.
    let at = second (none_later a b c one.stays none) n vals spent (subst (λ k. n < k) (sym one.book.same.joined) joined) low goes covers
    ((one.parts n vals spent joined made (two.still n low goes) covered).holds amid) r left in
    let same = (one.arrays n made).same in
    record {
      agree = at.agree;
      left = λ u truth young. at.left u truth (same.young ∙ young) ∙ left_same (v.arrays n) (w.arrays n) same young;
    }

-- the first one does, and the second calls nothing
pub agree_still : (v w z : Raid) (a b c : RackView) → ChangesNoData v w a b → ChangesNoData w z b c → (NoneFails a c → (z.state ≡ w.state) × (c ≡ b))
    → MakesAgree v w a b → MakesAgree v z a c
agree_still v w z a b c one two idle first none n vals spent joined made goes covers amid r left =
    let low : n < w.state.made = subst (λ k. n < k) (sym one.book.same.made) made in
    let same = idle none in
    subst (λ (s : State). AgreeLeaving (v.arrays n) s r n) (sym same.0)
    (first (none_early a b c two.stays none) n vals spent joined made (two.still n low goes) (λ y alive. two.spent n y low (covers y alive)) amid r
    (subst (λ (x : RackView). IsLeft x r) same.1 left))
