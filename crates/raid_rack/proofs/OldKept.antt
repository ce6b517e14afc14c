-- Works of a growth keep what the arrays of the volume held in the sectors that they had.
use Rattle.std.proofs.Common.{◌≡◌, ℕ, ◌-◌, ◌^◌, ◌≤◌, ◌<◌, ◌==◌, not, Bool, true, false, is_ok, Result, refl, sym, subst, ◌∙◌, inl, arith, ap, eqb-true}
use Rattle.std.proofs.lemmas.Bool.{and_parts}
use Rattle.rack.specs.Seen.{RackView}
use Rattle.rack.specs.Joins.{keeps_same, leaves_same}
use Rattle.rack.specs.Values.{MayLeave, Values}
use Rattle.array_model.specs.View.{IsSameArray, sectors_of, View}
use Rattle.sync_laws.specs.Steps.{if_done}
use Rattle.raid_laws.specs.Losing.{only_same}
use Rattle.raid_laws.specs.Moves.{AreCaused, ChangesNoData}
use Rattle.raid_laws.specs.Raid.{Raid, raid_of, StopsInside}
use Rattle.transition_laws.specs.Changes.{Change, changed, readied, steps}
use Rattle.transition_laws.specs.Growth.{AreReady, GrowsByZeros, HasZerosFrom, KeepsOldSectors}
use Rattle.transition_laws.specs.Reshaping.{LeavesWholeRows}
use Rattle.transition_laws.proofs.LongerBooks.{KeepsOld, ready_keeps}
use Rattle.transition_laws.proofs.OldSectors.{keeps_old, old_values}
use Rattle.transition_laws.proofs.OldThen.{old_then}
use Rattle.transition_laws.proofs.ZeroSectors.{own_values, zeros_then}
use Rattle.pool_state.specs.declared.contents.Work.TheVariants.{Finish, Ready, Reshape, TakeOver}
use Rattle.array_core.specs.Superblocks.{raised, settled}
use Rattle.reshape_laws.specs.Ahead.{ahead_by, finished, taken_over}
use Rattle.growth_laws.specs.Growing.{AnyValues, Grows, IsFitToGrow, Lacks, MakesClean, MakesReshape, MakesTurn, MovesRows, change_of, is_clean, is_due, is_synced, moves}
use Rattle.growth_laws.proofs.Becoming.{synced_parts}
use Rattle.growth_laws.proofs.FitToGrow.{ready_lost}
use Rattle.growth_laws.proofs.KeepsOld.{IsTurning, clean_keeps, finish_keeps, joined_few, made_changes, moves_keep, old_fit, own_fit, takeover_keeps, turn_grows, turn_zeros}
use Rattle.growth_laws.proofs.Losing.{moves_caused, moves_lose}
use Rattle.growth_laws.proofs.ReshapeBegins.{is_taking}
use Rattle.growth_laws.proofs.ReshapeDue.{is_moved}
use Rattle.raid_rack.specs.declared.arrays.Arrays.{Arrays}
use Rattle.raid_rack.specs.RaidRack.{IsFit, raid_by}

-- nothing is called
pub zeros_same : (count : ℕ) (v : Raid) (x : RackView) → GrowsByZeros count v v x x
zeros_same count v x n low told before = before

pub old_same : (count : ℕ) (x : RackView) → KeepsOldSectors count x x
old_same count x = record {
  told = λ d low told. told;
  spent = λ d t low inside alive. alive;
  held = λ d t low told inside alive. keeps_same (x.held d t);
  stops = λ traced d t low told inside alive. leaves_same x (λ c. MayLeave (x.held d t) (c d t));
}

-- what arrays hold in the sectors that they had, and in those that they get
abbrev KeepsHeld : (r q : ℕ → ℕ) (a b : Arrays) (x y : RackView) → Type 0
KeepsHeld r q a b x y =
    KeepsOldSectors a.state.joined (raid_of (IsFit a x) r (raid_by a) x) (raid_of (IsFit b y) q (raid_by b) y) × GrowsByZeros a.state.joined (raid_by a) (raid_by b) x y

-- a change between losses
pub turned_old : {r q : ℕ → ℕ} (change : Change) (is_done : Bool) (Fits : (ℕ → ℕ → Values) → Type 0) (a b : Arrays) (x y : RackView) → IsFit a x → IsFit b y → StopsInside y
    → AreCaused (raid_by a) (raid_by b) x y → a.state.made ≤ b.state.made → a.state.joined ≤ b.state.joined → MakesTurn change is_done Fits (raid_by a) (raid_by b) x y
    → Fits (old_values (raid_by a) x) → ((n : ℕ) → HasZerosFrom (raid_by a) x n (sectors_of ((raid_by a).arrays n)) → Fits (own_values (raid_by a) x n))
    → ((n : ℕ) → n < a.state.joined → KeepsOld (raid_by a) n change) → AreReady (raid_by a)
    → KeepsHeld r q a b x y
turned_old {r = r} {q = q} change is_done Fits a b x y fit after inside caused made joined turn fits own keeps ready =
    let call : IsTurning (raid_by a) (raid_by b) x y =
    record { before = fit.heeded; after = after.heeded; began = fit.running.set; set = after.running.set; inside = inside; caused = caused; made = made; joined = joined } in (
      keeps_old {F = IsFit a x} {G = IsFit b y} {r = r} {q = q} (made_changes turn.before change is_done turn.after) (raid_by a) (raid_by b) x y
          (turn_grows change is_done Fits (raid_by a) (raid_by b) x y turn fits keeps call ready),
      turn_zeros change is_done Fits (raid_by a) (raid_by b) x y turn fits own keeps call ready,
    )

-- a step of a reshape, by the array before its commit
pub reshaped_old : {r q : ℕ → ℕ} (change : Raid → Change) (Lacking : Raid → Raid → Type 0) (n : ℕ) (step : View → View) (a b : Arrays) (x y : RackView) (answered : Bool) → IsFit a x → IsFit b y
    → StopsInside y → ((v : Raid) → change v ≡ steps n (step (v.arrays n))) → ((mid : View) (k : ℕ) → IsSameArray ((raid_by a).arrays n) mid → KeepsOld (raid_by a) k (steps n (step mid)))
    → n < a.state.made → MakesReshape change Lacking n (raid_by a) (raid_by b) x y answered → LeavesWholeRows ((raid_by a).arrays n) → AreReady (raid_by a)
    → KeepsHeld r q a b x y
reshaped_old {r = r} {q = q} change Lacking n step a b x y answered fit after inside change_is keeps low makes whole ready =
    let turns = makes.grows.turns in
    let mid = turns.mid in
    turned_old {r = r} {q = q} (change mid) turns.is_done (λ vals. _) a b x y fit after inside makes.grows.caused makes.grows.longer.made
    (let same = joined turns.is_done turns.after.marks.same.joined in omega (arith, same)) makes.contents (old_fit (raid_by a) x n whole)
    (λ k before. own_fit (raid_by a) x k n whole before)
    (λ k inside. subst (λ z. KeepsOld (raid_by a) k z) (sym (change_is mid)) (keeps (mid.arrays n) k (turns.before.arrays n low).same)) ready
  where
    joined : (d : Bool) → b.state.joined ≡ (if_done d makes.grows.turns.mid (changed (change makes.grows.turns.mid) makes.grows.turns.mid)).state.joined → b.state.joined ≡ a.state.joined
    joined true is = is ∙ ap (λ z. (changed z makes.grows.turns.mid).state.joined) (change_is makes.grows.turns.mid) ∙ makes.grows.turns.before.marks.same.joined
    joined false is = is ∙ makes.grows.turns.before.marks.same.joined

-- ---- the works of a growth

-- next rows are moved
pub moved_old : {r q : ℕ → ℕ} {E : Type 0} (n most : ℕ) (a b : Arrays) (x y : RackView) (result : Result ℕ E) → IsFit a x → IsFit b y → StopsInside y → is_due (raid_by a) (Reshape n) ≡ true
    → MovesRows n most (raid_by a) (raid_by b) x y result → IsFitToGrow (raid_by a) → KeepsHeld r q a b x y
moved_old {r = r} {q = q} n most a b x y result fit after inside due does ready =
    let is = synced_parts (raid_by a) n (and_parts (is_synced (raid_by a) n) _ due).0 in
    reshaped_old {r = r} {q = q} (moves n does.rows) (Lacks (Reshape n)) n (λ mid. ahead_by mid does.rows (raised mid.truth.events)) a b x y (is_ok result) fit after inside (λ v. refl)
    (λ mid k same. moves_keep (raid_by a) n k mid (fit.running.set.arrays n is.low).is_array is.grown same does.rows (raised mid.truth.events)) is.low does.steps (ready.whole n is.low) ready.ready

-- a reshape ends
pub finished_old : {r q : ℕ → ℕ} (n : ℕ) (a b : Arrays) (x y : RackView) (answered : Bool) → IsFit a x → IsFit b y → StopsInside y → is_due (raid_by a) (Finish n) ≡ true
    → MakesReshape (change_of (Finish n)) (Lacks (Finish n)) n (raid_by a) (raid_by b) x y answered → IsFitToGrow (raid_by a)
    → KeepsHeld r q a b x y
finished_old {r = r} {q = q} n a b x y answered fit after inside due makes ready =
    let is = is_moved (raid_by a) x n fit.running.set fit.heeded due in
    reshaped_old {r = r} {q = q} (change_of (Finish n)) (Lacks (Finish n)) n (λ mid. finished mid (raised mid.truth.events)) a b x y answered fit after inside (λ v. refl)
    (λ mid k same.
    finish_keeps (raid_by a) n k mid (fit.running.set.arrays n is.rest.low).is_array is.rest.grown same (raised mid.truth.events) is.reshaping is.whole) is.rest.low makes (ready.whole n is.rest.low) ready.ready

-- an array is cleaned
pub cleaned_old : {r q : ℕ → ℕ} (n : ℕ) (a b : Arrays) (x y : RackView) → IsFit a x → IsFit b y → StopsInside y → n < a.state.made → ((raid_by a).arrays n).young ≡ false
    → ChangesNoData (raid_by a) (raid_by b) x y → MakesClean n (raid_by a) (raid_by b) x y → AreReady (raid_by a)
    → KeepsHeld r q a b x y
cleaned_old {r = r} {q = q} n a b x y fit after inside low young moves cleans ready =
    let u = (raid_by a).arrays n in
    turned_old {r = r} {q = q} (steps n (settled u)) cleans.0 (λ vals. u.young ≡ false) a b x y fit after inside (moves_caused (raid_by a) (raid_by b) x y moves)
    (let same = moves.book.same.made in omega (arith, same)) (let same = moves.book.same.joined in omega (arith, same)) cleans.1 young (λ k before. young)
    (λ k inside. clean_keeps (raid_by a) n k u (fit.running.set.arrays n low).is_array young (only_same u u refl).same) ready

-- calls that move no value, and then others
pub old_after : {r o q : ℕ → ℕ} (a b c : Arrays) (x y z : RackView) → ChangesNoData (raid_by a) (raid_by b) x y
    → KeepsOldSectors a.state.joined (raid_of (IsFit a x) r (raid_by a) x) (raid_of (IsFit b y) o (raid_by b) y)
    → KeepsOldSectors b.state.joined (raid_of (IsFit b y) o (raid_by b) y) (raid_of (IsFit c z) q (raid_by c) z)
    → KeepsOldSectors a.state.joined (raid_of (IsFit a x) r (raid_by a) x) (raid_of (IsFit c z) q (raid_by c) z)
old_after {r = r} {o = o} {q = q} a b c x y z moves one two =
    old_then a.state.joined b.state.joined (raid_of (IsFit a x) r (raid_by a) x) (raid_of (IsFit b y) o (raid_by b) y) (raid_of (IsFit c z) q (raid_by c) z)
    (let joined = moves.book.same.joined in omega (arith, joined)) (λ d low. let same = moves.sectors d in omega (arith, same)) moves.stays.traced one two

pub held_after : {r o q : ℕ → ℕ} (a b c : Arrays) (x y z : RackView) → ChangesNoData (raid_by a) (raid_by b) x y → KeepsHeld r o a b x y → KeepsHeld o q b c y z → KeepsHeld r q a c x z
held_after {r = r} {o = o} {q = q} a b c x y z moves one two = (
  old_after {r = r} {o = o} {q = q} a b c x y z moves one.0 two.0,
  zeros_then (raid_by a) (raid_by b) (raid_by c) x y z moves.book.same.joined (λ n low. moves.sectors n) (λ n low told. one.0.told n low told) one.1 two.1,
)

-- no array of the volume is young after losses
pub still_ready : (n : ℕ) (a b : Arrays) (x y : RackView) → IsFit a x → n < a.state.made → ChangesNoData (raid_by a) (raid_by b) x y → AreReady (raid_by a) → AreReady (raid_by b)
still_ready n a b x y fit low moves ready =
    (ready_lost (raid_by a) (raid_by b) (moves_lose (raid_by a) (raid_by b) x y moves) (record { joined = joined_few (raid_by a) x n fit.running.set low; ready = ready })).ready

-- a mirror that was cleaned becomes RAID-5
pub taken_old : {r q : ℕ → ℕ} (n : ℕ) (a b : Arrays) (x y : RackView) (answered : Bool) → IsFit a x → IsFit b y → StopsInside y → is_due (raid_by a) (TakeOver n) ≡ true
    → is_clean ((raid_by a).arrays n) ≡ true → MakesReshape (change_of (TakeOver n)) (Lacks (TakeOver n)) n (raid_by a) (raid_by b) x y answered → AreReady (raid_by a)
    → KeepsHeld r q a b x y
taken_old {r = r} {q = q} n a b x y answered fit after inside due clean makes ready =
    let u = (raid_by a).arrays n in
    let is = is_taking (raid_by a) x n fit.running.set due clean in
    reshaped_old {r = r} {q = q} (change_of (TakeOver n)) (Lacks (TakeOver n)) n (λ mid. taken_over mid (raised mid.truth.events)) a b x y answered fit after inside (λ v. refl)
    (λ mid k same. takeover_keeps (raid_by a) n k mid (fit.running.set.arrays n is.rest.low).is_array is.rest.grown same (raised mid.truth.events) is.still is.mirrored) is.rest.low makes
    (inl (eqb-true u.truth.resync_offset (2 ^ 64 - 1) (and_parts (u.truth.resync_offset == 2 ^ 64 - 1) (not u.marked) clean).0)) ready

-- the young array becomes the volume's
pub readied_old : {r q : ℕ → ℕ} (n : ℕ) (a b : Arrays) (x y : RackView) → IsFit a x → IsFit b y → StopsInside y → Grows (Ready n) (Lacks (Ready n)) (raid_by a) (raid_by b) x y true
    → MakesTurn readied true AnyValues (raid_by a) (raid_by b) x y → AreReady (raid_by a) → KeepsHeld r q a b x y
readied_old {r = r} {q = q} n a b x y fit after inside grows turn ready =
    turned_old {r = r} {q = q} readied true AnyValues a b x y fit after inside grows.caused grows.longer.made (more grows.turns.is_done grows.turns.after.marks.same.joined) turn tt (λ k before. tt)
    (λ k low. ready_keeps (raid_by a) k) ready
  where
    more : (d : Bool) → b.state.joined ≡ (if_done d grows.turns.mid (changed readied grows.turns.mid)).state.joined → a.state.joined ≤ b.state.joined
    more true is = let same = grows.turns.before.marks.same.joined in omega (arith, is, same)
    more false is = let same = grows.turns.before.marks.same.joined in omega (arith, is, same)
