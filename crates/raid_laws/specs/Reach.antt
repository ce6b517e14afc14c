-- How far the members of an array count by two shapes of it, one after the other.
use Rattle.std.proofs.Common.{◌≡◌, ℕ, ◌≤◌, Bool, true, map, slice_get, Option, Some, None, option_map, unwrap_or, refl, sym, ap, subst, ◌∙◌, arith}
use Rattle.rack.specs.Seen.{Image}
use Rattle.pool_state.specs.declared.contents.State.{State}
use Rattle.array_image.specs.States.{is_current, state_in}
use Rattle.array_image.specs.Arrays.{Member, Shape, shape_in}
use Rattle.array_core.proofs.Rules.{get_map}
use Rattle.array_model.specs.View.{shape_of}
use Rattle.raid_laws.specs.Raid.{Raid}

-- A member counts as far as it did at least, has its superblock on a current place where it had, and is whole where it was.
pub record KeepsMember (m o : Member) : Type 0 where
  pub reach : m.reach ≤ o.reach
  pub there : m.is_there ≡ true → o.is_there ≡ true
  pub whole : m.is_whole ≡ true → o.is_whole ≡ true

-- Each member on one of these places stands by the shape b as well as by the shape a.
pub record KeepsReachOn (on : ℕ → Bool) (a b : Shape) : Type 0 where
  pub places : map (λ (m : Member). m.place) b.members ≡ map (λ (m : Member). m.place) a.members
  pub reach :
      (k : ℕ) (m o : Member) → slice_get a.members k ≡ Some m → slice_get b.members k ≡ Some o → on m.place ≡ true → KeepsMember m o

-- each member on a place that is current by a state
abbrev pub KeepsReach : State → Shape → Shape → Type 0
KeepsReach s = KeepsReachOn (is_current s)

-- Array n by contents: its members on places that are current by their state count at least as far as in v and are there where they were,
-- and those on places that are current by w count no further than in w, and are there only where they are by w.
abbrev pub ReachBetween : Raid → Raid → ℕ → Image → Type 0
ReachBetween v w n r =
    (s : State) (shape : Shape) → state_in r ≡ Some s → shape_in s r n ≡ Some shape
    → KeepsReach s (shape_of (v.arrays n)) shape × KeepsReach w.state shape (shape_of (w.arrays n))

-- ---- shapes in a row

pub reach_same : (on : ℕ → Bool) (a : Shape) → KeepsReachOn on a a
reach_same on a = record {
  places = refl;
  reach = λ k m o at there is.
      let same : m ≡ o = ap (λ (z : Option Member). unwrap_or z m) (sym at ∙ there) in
      subst (KeepsMember m) same (record { reach = omega arith; there = λ is_there. is_there; whole = λ whole. whole });
}

-- on fewer places
pub reach_fewer : (p q : ℕ → Bool) (a b : Shape) → ((place : ℕ) → q place ≡ true → p place ≡ true) → KeepsReachOn p a b → KeepsReachOn q a b
reach_fewer p q a b fewer keeps = record { places = keeps.places; reach = λ k m o at there is. keeps.reach k m o at there (fewer m.place is) }

pub reach_then : (p q : ℕ → Bool) (a b c : Shape) → ((place : ℕ) → q place ≡ true → p place ≡ true) → KeepsReachOn p a b → KeepsReachOn q b c
    → KeepsReachOn q a c
reach_then p q a b c fewer one two = record {
  places = two.places ∙ one.places;
  reach = λ k m o at there is.
      let mid = midway (slice_get b.members k) m
      (sym (get_map (λ (z : Member). z.place) b.members k) ∙ ap (λ ps. slice_get ps k) one.places ∙ get_map (λ (z : Member). z.place) a.members k
      ∙ ap (option_map (λ (z : Member). z.place)) at) in
      let first = one.reach k m mid.0 at mid.1 (fewer m.place is) in
      let second = two.reach k mid.0 o mid.1 there (ap q mid.2 ∙ is) in
      let less = first.reach in
      let more = second.reach in
      record { reach = omega (arith, less, more); there = λ is_there. second.there (first.there is_there); whole = λ whole. second.whole (first.whole whole) };
}
  where
    midway : (z : Option Member) (m : Member) → option_map (λ (e : Member). e.place) z ≡ Some m.place → (e : Member) × (z ≡ Some e) × (e.place ≡ m.place)
    midway None m is = absurd (let bad : None ≡ Some m.place = is in cc)
    midway (Some e) m is = (e, refl, ap (λ o. unwrap_or o m.place) is)
