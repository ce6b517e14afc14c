-- Copies that stand in log slices stay such as calls leave them that began with one state.
use Rattle.std.proofs.Common.{◌≡◌, ℕ, ◌<◌, ◌≤◌, true, false, List, Ok, refl, ap, subst, inl, inr, arith}
use Rattle.std.proofs.lemmas.Bool.{cases_Bool}
use Rattle.rack.specs.Calls.{KeepsAll}
use Rattle.rack.specs.Seen.{Image, RackView, IsLive, IsPick, SameRack}
use Rattle.rack.specs.Joins.{leaves_weaker}
use Rattle.pool_state.specs.declared.contents.Copied.{Copied}
use Rattle.pool_state.specs.declared.contents.State.{State}
use Rattle.pool_state.specs.Sector.{decoded}
use Rattle.array_image.specs.Left.{IsInside}
use Rattle.array_image.specs.Places.{log_slice}
use Rattle.array_image.specs.States.{is_current}
use Rattle.array_model.proofs.Keeping.{pick_before}
use Rattle.log_laws.specs.Commits.{Stands}
use Rattle.log_laws.specs.Kept.{LogInvariant}
use Rattle.log_laws.specs.Saying.{RecoversTo}
use Rattle.log_laws.proofs.Kept.{live_on, stands_of}
use Rattle.raid_laws.specs.Book.{after_same}
use Rattle.raid_laws.specs.Since.{AreEach, AreJoinSince, AreSince, HasOwnSince, HoldsEach, HoldsSince, KeepsEach}

-- the sectors of copies can be read and written
abbrev pub AreLive : RackView → Type 0
AreLive x = (p t : ℕ) → p < 16 → t < x.sectors (log_slice p) → IsLive x x (log_slice p) t

-- between calls, where nobody has gone
pub kept_since : (s : State) (number : ℕ) (x : RackView) → LogInvariant s number (λ p. false) x → HoldsSince s x
kept_since s number x kept p u few there may = record {
  own = λ now.
      let copy = kept.copies.own p u now refl may in
      record { copy = record { state = s; own = copy.own }; is = copy.copy; after = after_same s; drive = copy.drive };
  former = λ copy past is. kept.copies.earlier p u copy few past there may is;
}

-- what a stop leaves then
pub stood_each : (P : ℕ → List ℕ → Type 0) (x : RackView) (c : Image) → AreLive x → HoldsEach P x → Stands x c → AreEach P x.sectors c
stood_each P x c live holds stand p few there = holds p (c (log_slice p) 0) few there (stand.picks (log_slice p) 0 (live p 0 few there))

-- calls that bring no value
pub each_read : (P : ℕ → List ℕ → Type 0) (a b : RackView) → a.lasting → SameRack a b → KeepsAll a b → AreLive a → HoldsEach P a → KeepsEach P a b
each_read P a b lasting stays keeps live holds = record {
  leaves = λ traced.
      leaves_weaker (IsPick a b a.held) (λ c. IsInside a.sectors c → AreEach P a.sectors c)
      (λ c pick inside. stood_each P a c live holds (stands_of c (pick_before lasting stays c inside pick)))
      (keeps.stops traced);
  holds = λ p u few there may.
      let has : 0 < a.sectors (log_slice p) = subst (λ k. 0 < k) (stays.sectors (log_slice p)) there in
      holds p u few has ((keeps.held (log_slice p) 0 (live_on lasting stays (live p 0 few has))).within u may);
}

-- ---- while a drive joins

-- a copy that came of a later state than the one that log slices say isn't there
none_later : (s next : State) (sectors : ℕ → ℕ) (c : Image) → s.epoch < next.epoch → RecoversTo s sectors c → (p : ℕ) → p < 16 → HasOwnSince next p (c (log_slice p) 0) → ⊥
none_later s next sectors c up says p few new =
    let late = new.after.epoch in
    let stood : says.stood.epoch ≤ s.epoch =
    elim says.next [
      | inl same ↦ (let epoch : s.epoch ≡ says.stood.epoch = ap (λ (q : State). q.epoch) same in omega (arith, epoch))
      | inr brought ↦ (let below = brought.later in omega (arith, below))
    ] in
    elim (says.latest p new.copy few new.is) [
      | inl less ↦ omega (arith, up, late, stood, less)
      | inr same ↦ (let epoch : new.copy.state.epoch ≡ says.stood.epoch = ap (λ (q : State). q.epoch) same in omega (arith, up, late, stood, epoch))
    ]

-- So where they say the state before it they are as they were, and the place that joins has none.
pub joining_before : (s next : State) (sectors : ℕ → ℕ) (c : Image) → s.epoch < next.epoch → RecoversTo s sectors c → AreJoinSince s next sectors c → AreSince s sectors c
joining_before s next sectors c up says joining p few there =
    let at = joining p few there in
    record {
      own = λ now. elim (at.own now) [ inl is ↦ is | inr new ↦ absurd (none_later s next sectors c up says p few new) ];
      former = λ copy past is. elim (cases_Bool (is_current next p)) [
        | inl now ↦ absurd (none_later s next sectors c up says p few (at.joins copy past now is))
        | inr was ↦ at.former copy past was is
      ];
    }

pub joining_none : (s next : State) (sectors : ℕ → ℕ) (c : Image) → s.epoch < next.epoch → RecoversTo s sectors c → AreJoinSince s next sectors c
    → (p : ℕ) (copy : Copied) → p < 16 → 0 < sectors (log_slice p) → is_current s p ≡ false → is_current next p ≡ true → decoded (c (log_slice p) 0) ≡ Ok copy → ⊥
joining_none s next sectors c up says joining p copy few there past now is =
    none_later s next sectors c up says p few ((joining p few there).joins copy past now is)
