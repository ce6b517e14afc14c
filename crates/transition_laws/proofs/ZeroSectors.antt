-- The sectors that arrays get by calls hold zeros, where those past their ends did that a reshape had moved.
use Rattle.std.proofs.Common.{◌≡◌, ℕ, ◌<◌, ◌≤◌, ◌==◌, ◌&&◌, ◌||◌, not, Bool, true, false, if◌then◌else◌, List, refl, sym, ap, subst, ◌∙◌, inl, inr, arith, eq-eqb, eqb-true, lt-ltb, nat_lt}
use Rattle.std.proofs.lemmas.Bool.{and_from, and_parts, both_ways, cases_Bool, cases_lt}
use Rattle.rack.specs.Joins.{keeps_same, keeps_then}
use Rattle.rack.specs.Seen.{RackView}
use Rattle.rack.specs.Values.{Keeps, only, Values}
use Rattle.parity.specs.Xor.{zeros}
use Rattle.pool_state.specs.declared.contents.State.{State}
use Rattle.array_image.specs.Arrays.{Shape}
use Rattle.array_image.specs.Held.{held_by}
use Rattle.array_model.specs.ArrayCalls.{IncludesSpent}
use Rattle.array_model.specs.View.{sectors_of, shape_of, spent_in, View}
use Rattle.raid_laws.specs.Laws.{live_parts}
use Rattle.raid_laws.specs.Raid.{held_in, InvariantInCall, is_failed, IsTracked, live_of, Raid, raid_of, spent_of}
use Rattle.raid_laws.proofs.Over.{or_from, or_parts}
use Rattle.raid_laws.proofs.Told.{own_keeps}
use Rattle.raid_laws.proofs.Whole.{heeded_gone}
use Rattle.transition_laws.specs.Changes.{by, Change}
use Rattle.transition_laws.specs.Growth.{AreReady, GrowsByZeros, HasZerosFrom, KeepsOldSectors}
use Rattle.transition_laws.specs.Holds.{has_sector, IsPromised, moved_to, Promise, spent_at, Stands, StandsArray}
use Rattle.transition_laws.specs.Makes.{Makes, Suits}
use Rattle.transition_laws.proofs.AnyOrigin.{any_origin, any_owned, from_any}
use Rattle.transition_laws.proofs.LongerBooks.{HasOldSectors, last_old}
use Rattle.transition_laws.proofs.OldSectors.{IsGrowing}
use Rattle.transition_laws.proofs.ReshapeSectors.{steady}
use Rattle.transition_laws.proofs.Standing.{stood_of}
use Rattle.transition_laws.proofs.Tracked.{IsTrackedFor, tracked_stands}

-- what array n holds in the sectors that it has and that can be had, and zeros elsewhere
abbrev pub own_values : Raid → RackView → (n k y : ℕ) → Values
own_values v x n k y = if (k == n) && (has_sector (v.arrays n) y && not (spent_of v n y)) then held_in v x n y else only (zeros 512)

-- of array n alone, what isn't spent after calls
abbrev zero_promise : (v w : Raid) → ℕ → Promise
zero_promise v w n = record { live = λ k. k == n; one = n; spent = spent_of w; growing = true; kept = λ k. false; lacks = λ k. false; origin = any_origin v.state }

module _ (xs : List Change) (v w : Raid) (a b : RackView) (calls : IsGrowing xs v w a b) (n : ℕ) (ready : n < v.state.joined) (goes : is_failed w n ≡ false)
    (makes : Makes xs v v w (own_values v a n) (own_values v a n) a b) (told : IsTracked v a n) where
  abbrev p : Promise
  p = zero_promise v w n

  abbrev vals : ℕ → ℕ → Values
  vals = own_values v a n

  own : (P : ℕ → Type 0) (k : ℕ) → (k == n) ≡ true → P n → P k
  own P k is at = subst P (sym (eqb-true k n is)) at

  low : n < v.state.made
  low = let most = calls.joined_made n goes in omega (arith, ready, most)

  live : p.live n ≡ true
  live = eq-eqb n n refl

  -- what the promise speaks of
  parts : (u : View) (y : ℕ) → spent_at p n u y ≡ false → (has_sector u y ≡ true) × live_of w n y
  parts u y alive =
      let both = or_parts (not (has_sector u y)) (spent_of w n y) alive in
      (elim (cases_Bool (has_sector u y)) [ inl is ↦ is | inr none ↦ absurd (both_ways (not (has_sector u y)) both.0 (ap not none)) ], both.1)

  promised : IsPromised p w
  promised = record {
    is_one = live;
    goes = λ k is low. own (λ j. is_failed w j ≡ false) k is goes;
    covers = λ k is low. own (λ j. IncludesSpent (w.arrays j) (spent_at (zero_promise v w n) j (w.arrays j))) k is (λ y alive. (live_parts w n y (parts (w.arrays n) y alive).1).1);
  }

  suits : Suits p xs v
  suits = record { free = λ k is. absurd (both_ways false refl is); owned = any_owned v.state p xs v refl; growing = inl refl }

  early : IsPromised p v
  early = makes.back p suits promised

  live_before : (y : ℕ) → spent_at p n (v.arrays n) y ≡ false → live_of v n y
  live_before y alive = or_from (is_failed v n) (spent_in (v.arrays n) y) (early.goes n live low) (early.covers n live low y alive)

  held : (y : ℕ) → spent_at p n (v.arrays n) y ≡ false → vals n y ≡ held_in v a n y
  held y alive =
      ap (λ (t : Bool). if t then held_in v a n y else only (zeros 512))
      (and_from (n == n) (has_sector (v.arrays n) y && not (spent_of v n y)) live
      (and_from (has_sector (v.arrays n) y) (not (spent_of v n y)) (parts (v.arrays n) y alive).0 (ap not (live_before y alive))))

  tracked : IsTrackedFor v p vals a
  tracked = record {
    marked = λ q current. heeded_gone v calls.before q;
    few = λ k is low. let most = calls.began.most in omega (arith, low, most);
    live = live;
    one = low;
    goes = λ k is low. early.goes k is low;
    grown = λ k is low. own (λ j. (v.arrays j).young ≡ false) k is (calls.ready n ready);
    tracked = λ k is low. own (λ j. IsTracked v a j) k is told;
    covers = λ k y is low alive. or_from (is_failed v k) (spent_in (v.arrays k) y) (early.goes k is low) (early.covers k is low y alive);
    values = λ k y is low alive. own (λ j. spent_at p j (v.arrays j) y ≡ false → vals j y ≡ held_in v a j y) k is (held y) alive;
    since = λ q u few there may. from_any v.state q u;
    rows = λ k is low kept. absurd (both_ways false refl kept);
    lacks = λ k is low wanted. absurd (both_ways false refl wanted);
  }

  after : Stands (by xs v) w p vals b
  after = makes.after p suits promised (tracked_stands v p vals a tracked)

  end : HasOldSectors v n (by xs v)
  end = last_old v n xs v (calls.old n ready) (record { made = low; small = (calls.began.arrays n low).is_array.small; young = calls.ready n ready; sectors = λ y has. has })

  there : n < (by xs v).state.made
  there = end.made

  array : StandsArray ((by xs v).arrays n) (w.arrays n) n (vals n) p b
  array = after.arrays n live there

  stood : InvariantInCall w.state (shape_of (w.arrays n)) (vals n) (spent_at p n ((by xs v).arrays n)) (λ place. false) w b n
  stood =
      let e = by xs v in
      let joined : n < e.state.joined = subst (λ (s : State). n < s.joined) after.same (let more = calls.joined in omega (arith, ready, more)) in
      subst (λ (s : State). InvariantInCall s (shape_of (w.arrays n)) (vals n) (spent_at p n (e.arrays n)) (λ place. false) w b n) (sym after.same)
      (subst (λ (s : Shape). InvariantInCall e.state s (vals n) (spent_at p n (e.arrays n)) (λ place. false) w b n) (sym ((after.alike (λ q current. heeded_gone w calls.after q) n live there).shape))
      (subst (λ g. InvariantInCall e.state (shape_of (e.arrays n)) (vals n) (spent_at p n (e.arrays n)) g w b n) (λ i q. heeded_gone w calls.after q i)
      (stood_of e w p vals b after n live there ((after.alike (λ q current. heeded_gone w calls.after q) n live there).young ∙ end.young) joined)))

  keeps : (y : ℕ) → has_sector (w.arrays n) y ≡ true → live_of w n y → Keeps (vals n y) (held_in w b n y)
  keeps y has alive =
      subst (λ k. Keeps (vals n y) (held_by (shape_of (w.arrays n)) b.held k y)) stood.number
      (own_keeps w.state (w.arrays n) (vals n) (spent_at p n ((by xs v).arrays n)) b y stood.holds.shape
      (or_from (not (has_sector ((by xs v).arrays n) y)) (spent_of w n y) (ap not (sym (array.sectors y) ∙ has)) alive))

  -- zeros, where it is past the end that the array had
  zero : HasZerosFrom v a n (sectors_of (v.arrays n)) → (y : ℕ) → sectors_of (v.arrays n) ≤ y → Keeps (only (zeros 512)) (vals n y)
  zero before y past = elim (cases_Bool (has_sector (v.arrays n) y && not (spent_of v n y))) [
    | inl both ↦
        let is = and_parts (has_sector (v.arrays n) y) (not (spent_of v n y)) both in
        subst (Keeps (only (zeros 512)))
        (sym (ap (λ (t : Bool). if t then held_in v a n y else only (zeros 512)) (and_from (n == n) (has_sector (v.arrays n) y && not (spent_of v n y)) live both)))
        (before y past is.0 (alive (spent_of v n y) is.1))
    | inr none ↦
        subst (Keeps (only (zeros 512))) (sym (ap (λ (t : Bool). if t then held_in v a n y else only (zeros 512)) (neither (n == n) (has_sector (v.arrays n) y && not (spent_of v n y)) none)))
        (keeps_same (only (zeros 512)))
  ]
    where
      alive : (s : Bool) → not s ≡ true → s ≡ false
      alive true is = absurd (both_ways false refl is)
      alive false is = refl

      neither : (s t : Bool) → t ≡ false → (s && t) ≡ false
      neither true t is = is
      neither false t is = refl

  pub zeros_after : HasZerosFrom v a n (sectors_of (v.arrays n)) → HasZerosFrom w b n (sectors_of (v.arrays n))
  zeros_after before y past has alive = keeps_then (only (zeros 512)) (vals n y) (held_in w b n y) (zero before y past) (keeps y has alive)

-- THE SECTORS THAT ARRAYS GET HOLD ZEROS
pub grows_zeros : (xs : List Change) (v w : Raid) (a b : RackView) → IsGrowing xs v w a b
    → ((n : ℕ) → HasZerosFrom v a n (sectors_of (v.arrays n)) → Makes xs v v w (own_values v a n) (own_values v a n) a b) → GrowsByZeros v.state.joined v w a b
grows_zeros xs v w a b calls makes n ready told before y past has alive =
    zeros_after xs v w a b calls n ready (live_parts w n y alive).0 (makes n before) told before y past has alive

-- calls that leave the ends where they are, and others after them
pub zeros_then : (v u w : Raid) (a x b : RackView) → u.state.joined ≡ v.state.joined → ((n : ℕ) → n < v.state.joined → sectors_of (u.arrays n) ≡ sectors_of (v.arrays n))
    → ((n : ℕ) → n < v.state.joined → IsTracked v a n → IsTracked u x n) → GrowsByZeros v.state.joined v u a x → GrowsByZeros u.state.joined u w x b → GrowsByZeros v.state.joined v w a b
zeros_then v u w a x b joined same still one two n low told before =
    subst (HasZerosFrom w b n) (same n low)
    (two n (omega (arith, joined, low)) (still n low told) (subst (HasZerosFrom u x n) (sym (same n low)) (one n low told before)))

-- calls of which the first may move the ends, and the others keep what arrays hold in the sectors that they have
pub zeros_longer : {F G : Type 0} {r q : ℕ → ℕ} (v u w : Raid) (a x b : RackView) → v.state.joined ≤ u.state.joined
    → ((n : ℕ) → n < v.state.joined → sectors_of (v.arrays n) ≤ sectors_of (u.arrays n)) → ((n : ℕ) → n < v.state.joined → IsTracked v a n → IsTracked u x n) → AreReady u
    → KeepsOldSectors u.state.joined (raid_of F r u x) (raid_of G q w b) → GrowsByZeros v.state.joined v u a x → GrowsByZeros u.state.joined u w x b → GrowsByZeros v.state.joined v w a b
zeros_longer v u w a x b joined longer still ready keeps one two n low told before y past has alive =
    let there : n < u.state.joined = omega (arith, joined, low) in
    let amid : HasZerosFrom u x n (sectors_of (v.arrays n)) = one n low told before in
    let more = longer n low in
    elim (cases_lt y (sectors_of (u.arrays n))) [
      | inl inside ↦
          let live : live_of u n y = keeps.spent n y there inside alive in
          let has_it : has_sector (u.arrays n) y ≡ true =
          steady (u.arrays n) (sectors_of (u.arrays n)) (moved_to (u.arrays n).truth) (ready n there) refl refl y
          ∙ ap (λ (t : Bool). t || nat_lt y (moved_to (u.arrays n).truth)) (lt-ltb y (sectors_of (u.arrays n)) inside) in
          keeps_then (only (zeros 512)) (held_in u x n y) (held_in w b n y) (amid y past has_it live) (keeps.held n y there (still n low told) inside alive)
      | inr end ↦ two n there (still n low told) (λ z after has_z live_z. amid z (omega (arith, more, after)) has_z live_z) y end has alive
    ]
