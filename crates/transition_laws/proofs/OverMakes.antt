-- Where nothing is promised of the run after calls, they make whatever changes are due.
use Rattle.std.proofs.Common.{◌≡◌, ℕ, ◌<◌, false, List, sym, subst, ◌∙◌}
use Rattle.rack.specs.Values.{Values}
use Rattle.rack.specs.Seen.{RackView, SameRack}
use Rattle.raid_laws.specs.Raid.{is_failed, Raid}
use Rattle.transition_laws.specs.Changes.{AreDue, Change}
use Rattle.transition_laws.specs.Makes.{Makes}

pub over_makes : (xs : List Change) (d v w : Raid) (vals : ℕ → ℕ → Values) (a b : RackView) → AreDue xs d → SameRack a b → v.state.made ≡ d.state.made → w.state.made ≡ v.state.made
    → ((n : ℕ) → is_failed w n ≡ false → ⊥) → Makes xs d v w vals vals a b
over_makes xs d v w vals a b due stays book made over = record {
  due = due;
  stays = stays;
  back = λ p suits promised. record {
    is_one = promised.is_one;
    goes = λ n live low. absurd (over n (promised.goes n live (subst (λ k. n < k) (sym made) low)));
    covers = λ n live low. absurd (over n (promised.goes n live (subst (λ k. n < k) (sym made) low)));
  };
  grows = λ n y u may. may;
  stops = λ p suits promised stands traced. absurd (over p.one (promised.goes p.one promised.is_one (subst (λ k. p.one < k) (sym (made ∙ book)) stands.one)));
  after = λ p suits promised stands. absurd (over p.one (promised.goes p.one promised.is_one (subst (λ k. p.one < k) (sym (made ∙ book)) stands.one)));
}
