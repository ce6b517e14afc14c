-- The copies of states that stand in log slices, as calls leave them that began with one state: what stands, and not what replaying gives.
use Rattle.std.proofs.Common.{◌≡◌, ◌⊎◌, ℕ, ◌<◌, ◌≤◌, Bool, true, false, List, Ok, refl, sym, subst, inl, inr}
use Rattle.std.proofs.lemmas.Bool.{both_ways}
use Rattle.rack.specs.Moments.{Leaves}
use Rattle.rack.specs.Joins.{leaves_same, leaves_then, leaves_weaker}
use Rattle.rack.specs.Seen.{Image, RackView}
use Rattle.rack.specs.Values.{MayLeave}
use Rattle.pool_state.specs.declared.contents.Copied.{Copied}
use Rattle.pool_state.specs.declared.contents.State.{State}
use Rattle.pool_state.specs.Sector.{decoded}
use Rattle.array_image.specs.Left.{IsInside}
use Rattle.array_image.specs.Places.{log_slice}
use Rattle.array_image.specs.States.{is_current, id_of}
use Rattle.raid_laws.specs.Book.{OnlyMarksSince}

-- a copy that names a place's drive, of a state that came of s
pub record HasOwnSince (s : State) (p : ℕ) (block : List ℕ) : Type 0 where
  pub copy : Copied
  pub is : decoded block ≡ Ok copy
  pub after : OnlyMarksSince s copy.state
  pub drive : id_of copy.state copy.own ≡ id_of s p

-- the sector of a place's copy: one that was current by s has its own since then, one that wasn't an earlier copy at most
pub record IsSince (s : State) (p : ℕ) (block : List ℕ) : Type 0 where
  pub own : is_current s p ≡ true → HasOwnSince s p block
  pub former : (copy : Copied) → is_current s p ≡ false → decoded block ≡ Ok copy → copy.state.epoch < s.epoch

-- So it is while a drive joins by the state `next`, which is a later one than s: the sector of a place that was current by s has its own copy, of a state that
-- came of s or of `next`. Where a place joins a copy there is its own, of `next` or of a state that came of it.
pub record IsJoinSince (s next : State) (p : ℕ) (block : List ℕ) : Type 0 where
  pub own : is_current s p ≡ true → HasOwnSince s p block ⊎ HasOwnSince next p block
  pub joins : (copy : Copied) → is_current s p ≡ false → is_current next p ≡ true → decoded block ≡ Ok copy → HasOwnSince next p block
  pub former : (copy : Copied) → is_current s p ≡ false → is_current next p ≡ false → decoded block ≡ Ok copy → copy.state.epoch < s.epoch

-- The same, where `new` are places of which the drive is another one by `next`, though they may have been current by s: such a place is as one that joins.
pub record IsTakenSince (new : ℕ → Bool) (s next : State) (p : ℕ) (block : List ℕ) : Type 0 where
  pub own : new p ≡ false → is_current s p ≡ true → HasOwnSince s p block ⊎ HasOwnSince next p block
  pub joins : (copy : Copied) → (new p ≡ true) ⊎ (is_current s p ≡ false) → is_current next p ≡ true → decoded block ≡ Ok copy → HasOwnSince next p block
  pub former : (copy : Copied) → is_current s p ≡ false → is_current next p ≡ false → decoded block ≡ Ok copy → copy.state.epoch < s.epoch

-- where no place has another drive
pub taken_none : (s next : State) (p : ℕ) (block : List ℕ) → IsJoinSince s next p block → IsTakenSince (λ q. false) s next p block
taken_none s next p block at = record {
  own = λ old was. at.own was;
  joins = λ copy how now is. elim how [ inl new ↦ absurd (both_ways false refl new) | inr past ↦ at.joins copy past now is ];
  former = at.former;
}

pub taken_join : (s next : State) (p : ℕ) (block : List ℕ) → IsTakenSince (λ q. false) s next p block → IsJoinSince s next p block
taken_join s next p block at = record {
  own = λ was. at.own refl was;
  joins = λ copy past now is. at.joins copy (inr past) now is;
  former = at.former;
}

-- something holds of the sector of a place's copy, in contents of log slices, on each place that has one
abbrev pub AreEach : (ℕ → List ℕ → Type 0) → (ℕ → ℕ) → Image → Type 0
AreEach P sectors c = (p : ℕ) → p < 16 → 0 < sectors (log_slice p) → P p (c (log_slice p) 0)

-- and in whatever a stop now leaves of them
abbrev pub HoldsEach : (ℕ → List ℕ → Type 0) → RackView → Type 0
HoldsEach P x = (p : ℕ) (u : List ℕ) → p < 16 → 0 < x.sectors (log_slice p) → MayLeave (x.held (log_slice p) 0) u → P p u

-- A part of a call keeps it so, at each moment and after it.
pub record KeepsEach (P : ℕ → List ℕ → Type 0) (a b : RackView) : Type 0 where
  pub leaves : a.traced → Leaves a b (λ c. IsInside a.sectors c → AreEach P a.sectors c)
  pub holds : HoldsEach P b

-- copies since a state
abbrev pub AreSince : State → (ℕ → ℕ) → Image → Type 0
AreSince s sectors c = AreEach (IsSince s) sectors c

abbrev pub HoldsSince : State → RackView → Type 0
HoldsSince s x = HoldsEach (IsSince s) x

abbrev pub KeepsSince : State → RackView → RackView → Type 0
KeepsSince s a b = KeepsEach (IsSince s) a b

-- copies while a drive joins
abbrev pub AreJoinSince : (s next : State) → (ℕ → ℕ) → Image → Type 0
AreJoinSince s next sectors c = AreEach (IsJoinSince s next) sectors c

abbrev pub HoldsJoinSince : (s next : State) → RackView → Type 0
HoldsJoinSince s next x = HoldsEach (IsJoinSince s next) x

abbrev pub KeepsJoinSince : (s next : State) → RackView → RackView → Type 0
KeepsJoinSince s next a b = KeepsEach (IsJoinSince s next) a b

-- copies while places get other drives
abbrev pub AreTakenSince : (ℕ → Bool) → (s next : State) → (ℕ → ℕ) → Image → Type 0
AreTakenSince new s next sectors c = AreEach (IsTakenSince new s next) sectors c

abbrev pub HoldsTakenSince : (ℕ → Bool) → (s next : State) → RackView → Type 0
HoldsTakenSince new s next x = HoldsEach (IsTakenSince new s next) x

abbrev pub KeepsTakenSince : (ℕ → Bool) → (s next : State) → RackView → RackView → Type 0
KeepsTakenSince new s next a b = KeepsEach (IsTakenSince new s next) a b

-- what follows of each
pub each_weaker : (P Q : ℕ → List ℕ → Type 0) (a b : RackView) → ((p : ℕ) (u : List ℕ) → P p u → Q p u) → KeepsEach P a b → KeepsEach Q a b
each_weaker P Q a b follows keeps = record {
  leaves = λ traced.
      leaves_weaker (λ c. IsInside a.sectors c → AreEach P a.sectors c) (λ c. IsInside a.sectors c → AreEach Q a.sectors c)
      (λ c each inside p few there. follows p (c (log_slice p) 0) (each inside p few there)) (keeps.leaves traced);
  holds = λ p u few there may. follows p u (keeps.holds p u few there may);
}

-- where nothing is called
pub each_still : (P : ℕ → List ℕ → Type 0) (x : RackView) → HoldsEach P x → KeepsEach P x x
each_still P x holds = record { leaves = λ traced. leaves_same x (λ c. IsInside x.sectors c → AreEach P x.sectors c); holds = holds }

-- parts in a row
pub each_then : (P : ℕ → List ℕ → Type 0) (a b c : RackView) → ((d : ℕ) → b.sectors d ≡ a.sectors d) → (a.traced → b.traced) → KeepsEach P a b → KeepsEach P b c → KeepsEach P a c
each_then P a b c sectors traced one two = record {
  leaves = λ was.
      leaves_then (λ i. IsInside a.sectors i → AreEach P a.sectors i) (one.leaves was)
      (leaves_weaker (λ i. IsInside b.sectors i → AreEach P b.sectors i) (λ i. IsInside a.sectors i → AreEach P a.sectors i)
      (λ i says inside p few there.
      says (λ d t out. inside d t (subst (λ k. k ≤ t) (sectors d) out)) p few (subst (λ k. 0 < k) (sym (sectors (log_slice p))) there))
      (two.leaves (traced was)));
  holds = two.holds;
}

pub since_still : (s : State) (x : RackView) → HoldsSince s x → KeepsSince s x x
since_still s x holds = each_still (IsSince s) x holds

pub since_then : (s : State) (a b c : RackView) → ((d : ℕ) → b.sectors d ≡ a.sectors d) → (a.traced → b.traced) → KeepsSince s a b → KeepsSince s b c → KeepsSince s a c
since_then s a b c sectors traced one two = each_then (IsSince s) a b c sectors traced one two
