-- Works of a growth leave a pool that is fit for the next one: none makes an array of the volume young, and what is told leaves whole rows to resync.
use Rattle.std.proofs.Common.{◌≡◌, ℕ, ◌<◌, ◌≤◌, Bool, true, false, if◌then◌else◌, refl, sym, subst, ◌∙◌, inl, inr, eq-eqb, ne_eqb, arith}
use Rattle.std.proofs.lemmas.Bool.{cases_eq}
use Rattle.rack.specs.Seen.{RackView}
use Rattle.pool_state.specs.declared.contents.Work.TheVariants.{TakeOver, Begin, Finish, Ready}
use Rattle.array_model.specs.View.{View}
use Rattle.sync_laws.specs.Steps.{if_done}
use Rattle.raid_laws.specs.Raid.{is_failed, IsTracked, Raid}
use Rattle.transition_laws.specs.Changes.{Change, changed, closed, enlists, failed, makes, readied, steps, wrote}
use Rattle.transition_laws.specs.Growth.{AreReady}
use Rattle.growth_laws.specs.Growing.{change_of, IsFitToGrow, moves, Turns, zeroes}
use Rattle.growth_laws.specs.Losses.{LosesBook}

-- No array of the volume is young, and these are arrays of the pool.
pub record HasReady (v : Raid) : Type 0 where
  pub joined : v.state.joined ≤ v.state.made
  pub ready : AreReady v

-- losses
pub ready_lost : (v w : Raid) → LosesBook v w → HasReady v → HasReady w
ready_lost v w loses has = record {
  joined = let joined = loses.marks.same.joined in let made = loses.marks.same.made in let most = has.joined in omega (arith, joined, made, most);
  ready = λ n low.
      let joined = loses.marks.same.joined in
      let most = has.joined in
      (loses.arrays n (omega (arith, low, joined, most))).same.young ∙ has.ready n (omega (arith, low, joined));
}

-- changes that a growth makes of the book
abbrev is_growing : Change → Raid → Type 0
is_growing (steps n next) v = next.young ≡ (v.arrays n).young
is_growing (makes next) v = Unit {0}
is_growing readied v = v.state.joined < v.state.made
is_growing closed v = Unit {0}
is_growing (enlists place units plan joining) v = ⊥
is_growing (failed lost events) v = ⊥
is_growing (wrote n) v = ⊥

ready_changed : (x : Change) (v : Raid) → is_growing x v → HasReady v → HasReady (changed x v)
ready_changed (steps m next) v same has = record {
  joined = has.joined;
  ready = λ n low. elim (cases_eq n m) [
    | inl is ↦
        subst (λ (b : Bool). (if b then next else v.arrays n).young ≡ false) (sym (eq-eqb n m is))
        (same ∙ has.ready m (subst (λ k. k < v.state.joined) is low))
    | inr other ↦ subst (λ (b : Bool). (if b then next else v.arrays n).young ≡ false) (sym (ne_eqb n m other)) (has.ready n low)
  ];
}
ready_changed (makes next) v is has = record {
  joined = let most = has.joined in omega (arith, most);
  ready = λ n low.
      let most = has.joined in
      subst (λ (b : Bool). (if b then next else v.arrays n).young ≡ false) (sym (ne_eqb n v.state.made (λ same. omega (arith, low, most, same)))) (has.ready n low);
}
ready_changed readied v more has = record {
  joined = omega (arith, more);
  ready = λ n low. elim (cases_eq n v.state.joined) [
    | inl is ↦ subst (λ (b : Bool). (if b then record (v.arrays n) { young = false } else v.arrays n).young ≡ false) (sym (eq-eqb n v.state.joined is)) refl
    | inr other ↦
        subst (λ (b : Bool). (if b then record (v.arrays n) { young = false } else v.arrays n).young ≡ false) (sym (ne_eqb n v.state.joined other))
        (has.ready n (omega (arith, low, other)))
  ];
}
ready_changed closed v is has = record { joined = has.joined; ready = has.ready }
ready_changed (enlists place units plan joining) v is has = absurd is
ready_changed (failed lost events) v is has = absurd is
ready_changed (wrote n) v is has = absurd is

-- such a change, if it is done, between losses
turned_ready : (change : Raid → Change) (Lacks : Raid → Raid → Type 0) (v w : Raid) (answered : Bool) → Turns change Lacks v w answered
    → ((mid : Raid) → LosesBook v mid → is_growing (change mid) mid) → HasReady v → HasReady w
turned_ready change Lacks v w answered turns growing has =
    let mid = turns.mid in
    let amid = ready_lost v mid turns.before has in
    ready_lost (if_done turns.is_done mid (changed (change mid) mid)) w turns.after (of turns.is_done amid (ready_changed (change mid) mid (growing mid turns.before) amid))
  where
    of : (d : Bool) → HasReady turns.mid → HasReady (changed (change turns.mid) turns.mid) → HasReady (if_done d turns.mid (changed (change turns.mid) turns.mid))
    of true one two = two
    of false one two = one

-- ---- the works of a growth

-- a takeover, the begin of a reshape, its next row, its end, and an array that is made
pub take_over_ready : (n : ℕ) (Lacks : Raid → Raid → Type 0) (v w : Raid) (answered : Bool) → Turns (change_of (TakeOver n)) Lacks v w answered → HasReady v → HasReady w
take_over_ready n Lacks v w answered turns has = turned_ready (change_of (TakeOver n)) Lacks v w answered turns (λ mid loses. refl) has

pub begin_ready : (n place : ℕ) (Lacks : Raid → Raid → Type 0) (v w : Raid) (answered : Bool) → Turns (change_of (Begin n place)) Lacks v w answered → HasReady v → HasReady w
begin_ready n place Lacks v w answered turns has = turned_ready (change_of (Begin n place)) Lacks v w answered turns (λ mid loses. refl) has

pub moved_ready : (n rows : ℕ) (Lacks : Raid → Raid → Type 0) (v w : Raid) (answered : Bool) → Turns (moves n rows) Lacks v w answered → HasReady v → HasReady w
moved_ready n rows Lacks v w answered turns has = turned_ready (moves n rows) Lacks v w answered turns (λ mid loses. refl) has

pub finish_ready : (n : ℕ) (Lacks : Raid → Raid → Type 0) (v w : Raid) (answered : Bool) → Turns (change_of (Finish n)) Lacks v w answered → HasReady v → HasReady w
finish_ready n Lacks v w answered turns has = turned_ready (change_of (Finish n)) Lacks v w answered turns (λ mid loses. refl) has

pub make_ready : (next : Raid → View) (Lacks : Raid → Raid → Type 0) (v w : Raid) (answered : Bool) → Turns (λ mid. makes (next mid)) Lacks v w answered → HasReady v → HasReady w
make_ready next Lacks v w answered turns has = turned_ready (λ mid. makes (next mid)) Lacks v w answered turns (λ mid loses. tt) has

-- rows of a young array that are zeroed, and its readiness
pub zeroed_ready : (n rows : ℕ) (Lacks : Raid → Raid → Type 0) (v w : Raid) (answered : Bool) → Turns (zeroes n rows) Lacks v w answered → HasReady v → HasReady w
zeroed_ready n rows Lacks v w answered turns has = turned_ready (zeroes n rows) Lacks v w answered turns (λ mid loses. refl) has

pub ready_ready : (n : ℕ) (Lacks : Raid → Raid → Type 0) (v w : Raid) (answered : Bool) → v.state.joined < v.state.made → Turns (change_of (Ready n)) Lacks v w answered → HasReady v → HasReady w
ready_ready n Lacks v w answered young turns has =
    turned_ready (change_of (Ready n)) Lacks v w answered turns
    (λ mid loses. let joined = loses.marks.same.joined in let made = loses.marks.same.made in omega (arith, joined, made, young)) has

-- ---- arrays that are told

-- superblocks of arrays that are told, and aren't over, have the fields that a pool writes
pub fit_told : (v : Raid) (x : RackView) → AreReady v → ((n : ℕ) → n < v.state.made → IsTracked v x n × (is_failed v n ≡ false)) → IsFitToGrow v
fit_told v x ready told = record { ready = ready; whole = λ n low. let at = told n low in (at.0.stood at.1).written.resync }
