-- What stops leave in two lists of targets, the second behind a sync.
use Rattle.std.proofs.Common.{◌≡◌, ℕ, List, Option, Some, None, Result, Ok, refl, ◌∙◌, inl, inr}
use Rattle.std.specs.Prelude.{unwrap_or}
use Rattle.rack.specs.declared.Gone.{Gone}
use Rattle.rack.specs.Seen.{Image, RackView, IsLive, IsPick, SameRack}
use Rattle.rack.specs.Moments.{Leaves}
use Rattle.rack.specs.Joins.{leaves_then, leaves_weaker, live_first, live_second}
use Rattle.rack.specs.Sequences.{IsMix, IsPayload, OnlyReads}
use Rattle.rack.specs.Targets.{Target, look}
use Rattle.rack.proofs.Phases.{payload_none}
use Rattle.lvm_group.specs.Sequences.{AreSingle}
use Rattle.lvm_group.specs.Changing.{IsInTurn, IsLate}
use Rattle.lvm_group.specs.Writing.{Puts}

mix_longer : {a m b : RackView} (xs : List Target) → SameRack m b → (c : Image) → IsMix a m (IsPayload xs) c → IsMix a b (IsPayload xs) c
mix_longer xs second c mix d s live = mix d s (live_first second live)

-- before the sync
pub turn_first : {a m b : RackView} {X : Type 0} (xs ys : List Target) (n : ℕ) (result : Result X Gone) → Puts a m xs result → SameRack m b → a.traced → Leaves a m (IsInTurn a b xs ys n)
turn_first {a} {m} {b} xs ys n result puts second traced =
    leaves_weaker (IsMix a m (IsPayload xs)) (IsInTurn a b xs ys n) (λ c mix. inl (mix_longer xs second c mix)) (puts.only.stops traced)

-- what stands in a sector after the sync
stood : {a m : RackView} (xs : List Target) (d s : ℕ) (o : Option (List ℕ)) → look xs d s ≡ o → Puts a m xs {X = Unit {0}} (Ok tt) → IsLive a m d s → (m.held d s).current ≡ unwrap_or o (a.held d s).current
stood {a} {m} xs d s None is puts live = (puts.only.others d s live (payload_none xs d s is)).current
stood {a} {m} xs d s (Some w) is puts live = puts.done d s w live is

late : {a m b : RackView} (xs ys : List Target) (n : ℕ) (c : Image) → Puts a m xs {X = Unit {0}} (Ok tt) → AreSingle a m n → SameRack m b → IsMix m b (IsPayload ys) c → IsLate a b xs ys n c
late {a} {m} {b} xs ys n c puts single second mix d s below live = elim (mix d s (live_second puts.only.stays live)) [
  | inl kept ↦ inr (single d s (c d s) below (live_first second live) kept ∙ stood {a = a} {m = m} xs d s (look xs d s) refl puts (live_first second live))
  | inr put ↦ inl put
]

-- and all of it
pub turn_then : {a m b : RackView} {X : Type 0} (xs ys : List Target) (n : ℕ) (result : Result X Gone) → Puts a m xs {X = Unit {0}} (Ok tt) → AreSingle a m n → Puts m b ys result → a.traced → Leaves a b (IsInTurn a b xs ys n)
turn_then {a} {m} {b} xs ys n result puts single last traced =
    leaves_then (IsInTurn a b xs ys n) (turn_first {a = a} {m = m} {b = b} xs ys n (Ok tt) puts last.only.stays traced)
    (leaves_weaker (IsMix m b (IsPayload ys)) (IsInTurn a b xs ys n) (λ c mix. inr (late {a = a} {m = m} {b = b} xs ys n c puts single last.only.stays mix)) (last.only.stops (puts.only.stays.traced traced)))

-- the first ones alone
pub turn_cut : {a b : RackView} {X : Type 0} (xs ys : List Target) (n : ℕ) (result : Result X Gone) → Puts a b xs result → a.traced → Leaves a b (IsInTurn a b xs ys n)
turn_cut {a} {b} xs ys n result puts traced = leaves_weaker (IsMix a b (IsPayload xs)) (IsInTurn a b xs ys n) (λ c mix. inl mix) (puts.only.stops traced)

-- ---- behind reads

same_or : (o : Option (List ℕ)) (v w : List ℕ) → v ≡ w → unwrap_or o v ≡ unwrap_or o w
same_or None v w same = same
same_or (Some x) v w same = refl

turn_since : {a x b : RackView} (xs ys : List Target) (n : ℕ) (c : Image) → OnlyReads a x → SameRack x b → IsInTurn x b xs ys n c → IsInTurn a b xs ys n c
turn_since {a} {x} {b} xs ys n c looks second (inl mix) = inl (λ d s live. elim (mix d s (live_second looks.stays live)) [
  | inl kept ↦ inl ((looks.keeps.held d s (live_first second live)).within (c d s) kept)
  | inr put ↦ inr put
])
turn_since {a} {x} {b} xs ys n c looks second (inr late) = inr (λ d s below live. elim (late d s below (live_second looks.stays live)) [
  | inl put ↦ inl put
  | inr stood ↦ inr (stood ∙ same_or (look xs d s) (x.held d s).current (a.held d s).current (looks.keeps.held d s (live_first second live)).current)
])

pub turn_behind : {a x b : RackView} (xs ys : List Target) (n : ℕ) → OnlyReads a x → SameRack x b → (x.traced → Leaves x b (IsInTurn x b xs ys n)) → a.traced → Leaves a b (IsInTurn a b xs ys n)
turn_behind {a} {x} {b} xs ys n looks second later traced =
    leaves_then (IsInTurn a b xs ys n)
    (leaves_weaker (IsPick a x a.held) (IsInTurn a b xs ys n) (λ c pick. inl (λ d s live. inl (pick d s (live_first second live)))) (looks.keeps.stops traced))
    (leaves_weaker (IsInTurn x b xs ys n) (IsInTurn a b xs ys n) (λ c turn. turn_since xs ys n c looks second turn) (later (looks.stays.traced traced)))
