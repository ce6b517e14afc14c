-- One change of the book, and losses after it.
use Rattle.std.proofs.Common.{◌≡◌, ℕ, true, false, List, [], ◌∷◌, refl, sym, ap, subst}
use Rattle.std.proofs.lemmas.Bool.{both_ways}
use Rattle.rack.specs.Values.{Values}
use Rattle.rack.specs.Joins.{stays_same}
use Rattle.rack.specs.Seen.{RackView}
use Rattle.pool_state.specs.declared.contents.Plan.{Plan}
use Rattle.pool_state.specs.declared.contents.Plan.TheVariants.{Nothing}
use Rattle.array_image.specs.States.{is_current}
use Rattle.array_core.specs.Superblocks.{left_offset}
use Rattle.log_laws.specs.View.{LogView, next_number}
use Rattle.array_model.specs.View.{View}
use Rattle.raid_laws.specs.Moves.{IsSet}
use Rattle.raid_laws.specs.Raid.{Raid}
use Rattle.raid_laws.specs.Works.{is_plan}
use Rattle.raid_laws.proofs.Closing.{closed_raid, IsClosing}
use Rattle.raid_laws.proofs.Losing.{only_gone}
use Rattle.raid_laws.proofs.Over.{someone_left}
use Rattle.transition_laws.specs.Changes.{Change, changed, closed as plan_ends}
use Rattle.transition_laws.specs.Losses.{IsRunOf, MakesLosses}
use Rattle.transition_laws.specs.Makes.{Makes, makes_then}
use Rattle.transition_laws.proofs.ClosedMakes.{close_makes}
use Rattle.transition_laws.proofs.OverMakes.{over_makes}
use Rattle.transition_laws.proofs.RunsOf.{run_loses, run_of_itself}
use Rattle.growth_laws.specs.Growing.{MakesTurn}

pub turn_then : (x : Change) (Fits : (ℕ → ℕ → Values) → Type 0) (v u w : Raid) (a b c : RackView) → ((vals : ℕ → ℕ → Values) → Fits vals → Makes (x ∷ []) v v u vals vals a b)
    → MakesLosses (changed x v) u w b c → MakesTurn x true Fits v w a c
turn_then x Fits v u w a b c one after = record {
  before = [];
  after = after.changes;
  losses_before = tt;
  losses_after = after.losses;
  makes = λ vals fits. makes_then (x ∷ []) after.changes v v u w vals vals vals a b c (one vals fits) (after.makes vals);
}

-- ---- the end of the plan

-- it is made of the book, and the run is one of the book without the plan
pub record ClosesBook (v w : Raid) (a b : RackView) : Type 0 where
  pub makes : is_plan v.state.plan ≡ true → (vals : ℕ → ℕ → Values) → Makes (plan_ends ∷ []) v v w vals vals a b
  pub run : IsRunOf (changed plan_ends v) w

planned : (plan : Plan) → is_plan plan ≡ true → plan ≡ Nothing → ⊥
planned plan is none = both_ways (is_plan plan) (ap is_plan none) is

run_closed : (v : Raid) (x : RackView) → IsSet v x → IsRunOf (changed plan_ends v) (changed plan_ends v)
run_closed v x set = record {
  same = refl;
  arrays = λ n low.
      let at = (run_of_itself v x set).arrays n low in
      record { only = at.only; count = at.count; missing = λ k inside other. at.missing k inside other; left = at.left };
}

pub closing_book : (v : Raid) (on gone : List ℕ) (l : LogView) (f : ℕ → View) (b c : RackView) → IsClosing v on gone l f b c → ClosesBook v (closed_raid v (next_number l.number) f) b c
closing_book v on gone l f b c commit = record {
  makes = λ due vals. close_makes v on gone l f b c commit (planned v.state.plan due) vals;
  run = run_loses (changed plan_ends v) (changed plan_ends v) (closed_raid v (next_number l.number) f) refl
      (λ n low. only_gone (v.arrays n) (f n) gone (commit.set.arrays n low).is_array (commit.arrays n low)) (λ n low. ap left_offset (commit.arrays n low)) (run_closed v b commit.set);
}

-- where nobody is left, it ends in the run alone
pub emptied_book : (v w : Raid) (x : RackView) → IsSet v x → ((place : ℕ) → is_current v.state place ≡ false) → w ≡ changed plan_ends v → ClosesBook v w x x
emptied_book v w x set nobody same = record {
  makes = λ due vals.
      subst (λ (u : Raid). Makes (plan_ends ∷ []) v v u vals vals x x) (sym same)
      (over_makes (plan_ends ∷ []) v v (changed plan_ends v) vals x x (planned v.state.plan due, tt) (stays_same x set.fit) refl refl
      (λ n goes. let left = someone_left (changed plan_ends v) n goes in both_ways (is_current v.state left.0) (nobody left.0) left.1));
  run = subst (λ (u : Raid). IsRunOf (changed plan_ends v) u) (sym same) (run_closed v x set);
}
