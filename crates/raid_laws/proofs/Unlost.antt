-- What calls leave of the state and its copies where few drives are lost: calls in a row, reads, and the commit that marks losses.
use Rattle.std.proofs.Common.{◌≡◌, ℕ, Bool, true, false, ◌&&◌, not, List, refl, sym, ap, subst, ◌∙◌, inl, inr, arith}
use Rattle.std.proofs.lemmas.Bool.{and_parts, both_ways, cases_eq}
use Rattle.rack.specs.Values.{Keeps}
use Rattle.rack.specs.Seen.{RackView, IsLive, SameRack}
use Rattle.rack.specs.Sequences.{OnlyReads}
use Rattle.rack.specs.Joins.{keeps_same, keeps_then, live_first, live_second}
use Rattle.rack.specs.Targets.{Target}
use Rattle.pool_state.specs.declared.contents.State.{State}
use Rattle.array_image.specs.Places.{log_slice, place_of}
use Rattle.array_image.specs.States.{is_current}
use Rattle.array_model.specs.View.{View}
use Rattle.log_laws.specs.View.{LogView, names}
use Rattle.raid_laws.specs.Book.{OnlyMarksSince}
use Rattle.raid_laws.specs.Missing.{marked}
use Rattle.raid_laws.specs.Raid.{Raid, gone_in}
use Rattle.raid_laws.specs.Settling.{state_after}
use Rattle.raid_laws.specs.Unlost.{KeepsUnlost}
use Rattle.raid_laws.proofs.Committed.{IsCommit, commit_unmarked}
use Rattle.raid_laws.proofs.Missing.{current_marked}

pub unlost_same : (s : State) (a : RackView) → KeepsUnlost s s a a
unlost_same s a = record { state = λ keeps. refl; copies = λ p others live. keeps_same (a.held (log_slice p) 0) }

-- the state stays, and so do the copies
pub unlost_still : (s t : State) (a b : RackView) → t ≡ s → ((p : ℕ) → IsLive a b (log_slice p) 0 → Keeps (a.held (log_slice p) 0) (b.held (log_slice p) 0))
    → KeepsUnlost s t a b
unlost_still s t a b same kept = record { state = λ keeps. same; copies = λ p others live. kept p live }

pub unlost_reads : (s t : State) (a b : RackView) → t ≡ s → OnlyReads a b → KeepsUnlost s t a b
unlost_reads s t a b same reads = unlost_still s t a b same (λ p live. reads.keeps.held (log_slice p) 0 live)

-- calls in a row: nobody is lost by the first that isn't by both, nor by the second
pub unlost_then : (s t u : State) (a b c : RackView) → SameRack a b → SameRack b c → OnlyMarksSince s t → OnlyMarksSince t u → KeepsUnlost s t a b → KeepsUnlost t u b c
    → KeepsUnlost s u a c
unlost_then s t u a b c first second before after one two = record {
  state = λ keeps.
      two.state (λ p current. keeps p (before.current p current)) ∙ one.state (λ p current. after.current p (keeps p current));
  copies = λ p others live.
      keeps_then (a.held (log_slice p) 0) (b.held (log_slice p) 0) (c.held (log_slice p) 0)
      (one.copies p (λ k other current. after.current k (others k other current)) (live_first second live))
      (two.copies p (λ k other current. others k other (before.current k current)) (live_second first live));
}

-- a place is marked, and copies of places that aren't current any more stay
pub unlost_marked : (s t : State) (lost : List ℕ) (one : ℕ) (a b : RackView) → t ≡ marked lost s → is_current s one ≡ true → names lost one ≡ true
    → ((p : ℕ) → is_current t p ≡ false → IsLive a b (log_slice p) 0 → Keeps (a.held (log_slice p) 0) (b.held (log_slice p) 0))
    → KeepsUnlost s t a b
unlost_marked s t lost one a b is current named kept = record {
  state = λ keeps. absurd (both_ways (is_current t one) now (keeps one current));
  copies = λ p others live.
      elim (cases_eq one p) [
        | inl here ↦ kept p (subst (λ q. is_current t q ≡ false) here now) live
        | inr other ↦ absurd (both_ways (is_current t one) now (others one other current))
      ];
}
  where
    and_none : (b : Bool) → (b && false) ≡ false
    and_none true = refl
    and_none false = refl

    now : is_current t one ≡ false
    now =
        ap (λ (u : State). is_current u one) is ∙ current_marked lost s one ∙ ap (λ b. is_current s one && not b) named
        ∙ and_none (is_current s one)

-- reads, and the commit that marks some place
pub unlost_commit : (s : State) (v : Raid) (lost on gone : List ℕ) (l : LogView) (xs : List Target) (f : ℕ → View) (one : ℕ) (a b c : RackView) → v.state ≡ s → OnlyReads a b
    → IsCommit v lost on gone l xs f b c → names lost one ≡ true → KeepsUnlost s (state_after v lost) a c
unlost_commit s v lost on gone l xs f one a b c same reads commit named =
    subst (λ u. KeepsUnlost u (state_after v lost) a c) same
    (unlost_marked v.state (state_after v lost) lost one a c refl (and_parts (is_current v.state one) (gone_in v one) (sym (commit.marking.lost_is one) ∙ named)).0 named
    (λ p unmarked live.
    let own : place_of (log_slice p) ≡ p = omega arith in
    keeps_then (a.held (log_slice p) 0) (b.held (log_slice p) 0) (c.held (log_slice p) 0) (reads.keeps.held (log_slice p) 0 (live_first commit.call.stays live))
    (commit_unmarked v lost on gone l xs f b c commit (log_slice p) 0 (live_second reads.stays live)
    (subst (λ q. is_current (state_after v lost) q ≡ false) (sym own) unmarked))))
