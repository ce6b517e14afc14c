-- The commit that ends the plan makes that change of the book.
use Rattle.std.proofs.Common.{◌≡◌, ℕ, Bool, true, false, ◌&&◌, not, List, [], ◌∷◌, refl, sym, ap, subst, ◌∙◌, arith}
use Rattle.rack.specs.Values.{Values}
use Rattle.rack.specs.Seen.{IsLive, RackView}
use Rattle.pool_state.specs.declared.contents.Plan.TheVariants.{Nothing}
use Rattle.array_image.specs.Places.{log_slice, member_slice}
use Rattle.array_image.specs.States.{is_current}
use Rattle.log_laws.specs.View.{LogView, next_number}
use Rattle.array_model.specs.View.{View}
use Rattle.transition_laws.specs.Changes.{closed as plan_ends}
use Rattle.transition_laws.specs.Makes.{Makes}
use Rattle.raid_laws.specs.Raid.{gone_in, Raid}
use Rattle.raid_laws.specs.Works.{closed}
use Rattle.raid_laws.proofs.Brought.{copies_own}
use Rattle.transition_laws.proofs.Closed.{stages_closed}
use Rattle.raid_laws.proofs.Closing.{after_closed, closed_raid, closing_brings, closing_current, closing_data, closing_named, closing_none, closing_target, IsClosing}
use Rattle.raid_laws.proofs.Committed.{raised_more, raised_range}
use Rattle.transition_laws.proofs.Committing.{committing_makes, IsCommitting}
use Rattle.raid_laws.proofs.Elements.{look_among}
use Rattle.raid_laws.proofs.KeptDrives.{after_drives}
use Rattle.raid_laws.proofs.Noted.{current_few}
use Rattle.raid_laws.proofs.Own.{look_nothing}
use Rattle.raid_laws.proofs.Whole.{heeded_gone, heeded_left}

and_true : (b : Bool) → (b && true) ≡ b
and_true true = refl
and_true false = refl

module _ (v : Raid) (on gone : List ℕ) (l : LogView) (f : ℕ → View) (b c : RackView) (commit : IsClosing v on gone l f b c) (due : v.state.plan ≡ Nothing → ⊥) where
  left : (q : ℕ) → is_current v.state q ≡ (is_current v.state q && not (gone_in v q))
  left q = sym (and_true (is_current v.state q)) ∙ ap (λ (g : Bool). is_current v.state q && not g) (sym (heeded_gone v commit.heeded q))

  pub closing_committing : IsCommitting plan_ends v v.number v.arrays on gone l f b c
  closing_committing = record {
    due = due;
    set = commit.set;
    call = commit.call;
    number = commit.number;
    arrays = commit.arrays;
    fresh = λ n low none. commit.heeded n low;
    current = left;
    on_is = closing_named v on gone l f b c commit;
    called = λ q is. closing_current v on gone l f b c commit q is;
    made = omega arith;
    new = λ n high low. absurd (omega (arith, high, low));
    slices = λ live. live;
    few = λ few. few;
    epoch = (raised_range v.state.epoch).0;
    later = λ room. raised_more v.state.epoch room;
    last = λ room. let up = (raised_range v.state.epoch).0 in omega (arith, room, up);
    drives = after_drives v.state (closed v.state) on (after_closed v.state);
    brings = λ room. closing_brings v on gone l f b c commit room;
    own = copies_own (closed v.state) on [] l.added commit.copies (λ p. look_nothing (log_slice p) 0);
    none = closing_data v on gone l f b c commit;
    live = λ slices logs e u y is.
        let at = look_among l.added e u y is in
        let copy = closing_target v on gone l f b c commit at.0 at.1 in
        let p = copy.place in
        let current : is_current v.state p ≡ true = sym (closing_named v on gone l f b c commit p) ∙ copy.named in
        let size = commit.set.logs p (heeded_left v p commit.heeded current) in
        subst (λ k. IsLive b b k u) (sym copy.copy.disk ∙ at.2)
        (subst (λ k. IsLive b b (log_slice p) k) (sym copy.copy.sector ∙ at.3) (logs p 0 (current_few v.state p commit.set.few current) (omega (arith, size))));
  }

  pub close_makes : (vals : ℕ → ℕ → Values) → Makes (plan_ends ∷ []) v v (closed_raid v (next_number l.number) f) vals vals b c
  close_makes vals =
      committing_makes plan_ends v v.number v.arrays on gone l f b c closing_committing vals
      (λ p suits.
      stages_closed v v (closed_raid v (next_number l.number) f) vals l.added b c (λ q current. heeded_gone v commit.heeded q)
      (λ n place u few. closing_none v on gone l f b c commit (member_slice place n) u (λ q named disk first. absurd (omega (arith, few, disk)))) p)
