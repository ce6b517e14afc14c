-- A row call of a young array: what it needs of a run that stands, and that contents hold the book as it was at each moment of it.
use Rattle.std.proofs.Common.{◌≡◌, ◌⊎◌, ℕ, ◌<◌, ◌≤◌, Bool, true, false, ◌&&◌, ◌||◌, not, nat_lt, List, refl, sym, ap, subst, ◌∙◌, inl, inr, lt-ltb, ltb-true, arith}
use Rattle.std.proofs.lemmas.Bool.{and_from, and_parts, both_ways, cases_eq}
use Rattle.rack.specs.Values.{Values}
use Rattle.rack.specs.Seen.{Image, RackView}
use Rattle.pool_state.specs.declared.contents.State.{State}
use Rattle.raid_map.specs.LeftSymmetric.{row_at}
use Rattle.array_image.specs.Arrays.{layout_at, Shape}
use Rattle.array_image.specs.Held.{IsSynced}
use Rattle.array_image.specs.SoundArray.{first_unsynced}
use Rattle.array_image.specs.Stripes.{capacity, sector_in}
use Rattle.array_model.specs.ArrayCalls.{HasFields, IncludesSpent, KeepsSupers}
use Rattle.array_model.specs.Says.{ArrayInvariant, ImageShowsArray}
use Rattle.array_model.specs.View.{IsArray, shape_of, spent_in, View}
use Rattle.raid_laws.specs.Frames.{frame_of}
use Rattle.raid_laws.specs.Raid.{is_failed, Raid}
use Rattle.sync_laws.specs.Steps.{MayStep, MayZero, resynced, Zeroes, zeroing}
use Rattle.sync_laws.proofs.Views.{next_shape}
use Rattle.transition_laws.specs.Holds.{has_sector, IsPromised, moved_to, Promise, ShowsArray, spent_at, Stands}
use Rattle.transition_laws.proofs.ArraysFor.{covers_for, laid_of, IsLaid, zeroed_row, zeroing_for}
use Rattle.transition_laws.proofs.Standing.{holds_of}
use Rattle.transition_laws.proofs.StepMakes.{unspent_parts}

-- A call by which young array m zeroes its next rows: as many rows at least are zeroed after it.
pub record ZeroesOnce (m rows : ℕ) (v w : Raid) (on : List ℕ) (vals : ℕ → ℕ → Values) (a b : RackView) (answered : Bool) : Type 0 where
  pub low : m < v.state.made
  pub same : w.state ≡ v.state
  pub number : (v.arrays m).number ≡ m
  pub is_array : IsArray (v.arrays m)
  pub young : (v.arrays m).young ≡ true
  pub call : Zeroes (v.arrays m) (w.arrays m) rows v.number w.number on a b answered
  pub step :
      (p : Promise) → IsPromised p w → Stands v v p vals a
      → MayStep v.state (zeroing (v.arrays m)) (resynced (zeroing (v.arrays m)) rows) (zeroing (w.arrays m)) v.number on a
  -- the array after it
  pub frame : frame_of (w.arrays m).truth ≡ frame_of (v.arrays m).truth
  pub moved : moved_to (w.arrays m).truth ≡ moved_to (v.arrays m).truth
  pub young_after : (w.arrays m).young ≡ true
  pub laid : IsLaid (w.arrays m).truth
  pub more : first_unsynced (v.arrays m).truth ≤ first_unsynced (w.arrays m).truth
  pub others : (n : ℕ) → (n ≡ m → ⊥) → w.arrays n ≡ v.arrays n
  pub goes : (n : ℕ) → n < v.state.made → is_failed w n ≡ false → is_failed v n ≡ false
  -- what was spent stays so, of the sectors that it had
  pub spares : (y : ℕ) → has_sector (v.arrays m) y ≡ true → spent_in (w.arrays m) y ≡ false → spent_in (v.arrays m) y ≡ false

module _ (m rows : ℕ) (v w : Raid) (on : List ℕ) (vals : ℕ → ℕ → Values) (a b : RackView) (answered : Bool) (once : ZeroesOnce m rows v w on vals a b answered)
    (p : Promise) (growing : p.growing ≡ true) (promised : IsPromised p w) where
  young_for : (p.growing && (v.arrays m).young) ≡ true
  young_for = and_from p.growing (v.arrays m).young growing once.young

  -- a sector that isn't spent is one that it has
  has : (y : ℕ) → spent_at p m (v.arrays m) y ≡ false → has_sector (v.arrays m) y ≡ true
  has y alive = elim (unspent_parts p.growing (has_sector (v.arrays m) y) (p.spent m y) alive) [
    | inl at ↦ at.1
    | inr none ↦ absurd (both_ways p.growing none.0 growing)
  ]

  -- it has the sectors that it had
  has_after : (y : ℕ) → has_sector (v.arrays m) y ≡ true → has_sector (w.arrays m) y ≡ true
  has_after y has =
      let u = v.arrays m in
      let t = (w.arrays m).truth in
      let inside = nat_lt y (capacity (frame_of u.truth).layout (frame_of u.truth).size) || nat_lt y (moved_to u.truth) in
      let row = row_at (sector_in (frame_of u.truth).layout y) in
      let parts = and_parts inside (not u.young || nat_lt row (first_unsynced u.truth)) has in
      let was : row < first_unsynced u.truth = ltb-true row (first_unsynced u.truth) (sym (ap (λ b. not b || nat_lt row (first_unsynced u.truth)) once.young) ∙ parts.1) in
      let more = once.more in
      let now : (inside && nat_lt row (first_unsynced t)) ≡ true = and_from inside (nat_lt row (first_unsynced t)) parts.0 (lt-ltb row (first_unsynced t) (omega (arith, was, more))) in
      (λ i.
      (nat_lt y (capacity (once.frame i).layout (once.frame i).size) || nat_lt y (once.moved i))
      && (not (once.young_after i) || nat_lt (row_at (sector_in (once.frame i).layout y)) (first_unsynced t)))
      ∙ now

  alive_after : (y : ℕ) → spent_at p m (v.arrays m) y ≡ false → spent_at p m (w.arrays m) y ≡ false
  alive_after y alive = elim (unspent_parts p.growing (has_sector (v.arrays m) y) (p.spent m y) alive) [
    | inl at ↦ ap (λ h. (p.growing && not h) || p.spent m y) (has_after y at.1) ∙ ap (λ g. (g && false) || p.spent m y) growing ∙ at.2
    | inr none ↦ absurd (both_ways p.growing none.0 growing)
  ]

  low_in : (n : ℕ) → n < v.state.made → n < w.state.made
  low_in n low = subst (λ (s : State). n < s.made) (sym once.same) low

  -- a promise that can be kept until the run after it can be kept until the one before it
  pub zero_back : IsPromised p v
  zero_back = record {
    is_one = promised.is_one;
    goes = λ n live low. once.goes n low (promised.goes n live (low_in n low));
    covers = λ n live low. elim (cases_eq n m) [
      | inl same ↦ subst (λ k. IncludesSpent (v.arrays k) (spent_at p k (v.arrays k))) (sym same) (λ y alive.
          once.spares y (has y alive) (promised.covers m (subst (λ k. p.live k ≡ true) same live) (low_in m once.low) y (alive_after y alive)))
      | inr apart ↦ subst (λ (u : View). IncludesSpent u (spent_at p n u)) (once.others n apart) (promised.covers n live (low_in n low))
    ];
  }

  covers : p.live m ≡ true → IncludesSpent (zeroing (w.arrays m)) (spent_at p m (v.arrays m))
  covers live =
      let z = w.arrays m in
      subst (λ u. IncludesSpent u (spent_at p m (v.arrays m))) (zeroing_for p z (and_from p.growing z.young growing once.young_after))
      (covers_for p m z (spent_at p m (v.arrays m)) once.laid alive_after (λ y alive. promised.covers m live (low_in m once.low) y (alive_after y alive)))

  same_shape : shape_of (zeroing (v.arrays m)) ≡ shape_of (v.arrays m)
  unfolding shape_of
  same_shape = refl

  module _ (stands : Stands v v p vals a) (live : p.live m ≡ true) where
    -- what the row call needs
    pub may_zero : MayZero v.state (v.arrays m) (w.arrays m) rows (spent_at p m (v.arrays m)) v.number on a
    may_zero = record {
      step = once.step p promised stands;
      covers = covers live;
      aside = λ y alive.
          subst (λ (sh : Shape). row_at (sector_in (layout_at sh y) y) < first_unsynced (v.arrays m).truth) (sym same_shape)
          (zeroed_row (v.arrays m) y (laid_of (v.arrays m) once.is_array) once.young (has y alive));
      single = subst (λ (sh : Shape). IsSynced sh (v.arrays m).number a.held) (sym same_shape)
          (subst (λ k. IsSynced (shape_of (v.arrays m)) k a.held) (sym once.number) ((stands.arrays m live once.low).single young_for));
    }

    -- and the array has it
    pub zeroing_holds : ArrayInvariant v.state (shape_of (zeroing (v.arrays m))) (zeroing (v.arrays m)) (vals m) (spent_at p m (v.arrays m)) a
    zeroing_holds =
        subst (λ (sh : Shape). ArrayInvariant v.state sh (zeroing (v.arrays m)) (vals m) (spent_at p m (v.arrays m)) a) (sym same_shape)
        (subst (λ u. ArrayInvariant v.state (shape_of (v.arrays m)) u (vals m) (spent_at p m (v.arrays m)) a) (zeroing_for p (v.arrays m) young_for)
        (holds_of v v p vals a stands m live once.low))

    -- Of a young array contents show no rows: at each moment of the call they show it as it was, with the superblocks from before or the new ones.
    pub zero_shows : (r : Image)
        → (ImageShowsArray v.state (v.arrays m).number (shape_of (zeroing (v.arrays m))) (vals m) (spent_at p m (v.arrays m)) r × KeepsSupers (v.arrays m).number a r)
        ⊎ (ImageShowsArray v.state (v.arrays m).number (shape_of (resynced (zeroing (v.arrays m)) rows)) (vals m) (spent_at p m (v.arrays m)) r
        × HasFields v.state (v.arrays m).number (resynced (zeroing (v.arrays m)) rows).truth r)
        → ShowsArray v.state (v.arrays m) p m (vals m) r
    zero_shows r either = record {
      says = subst (λ k. ImageShowsArray v.state k (shape_of (v.arrays m)) (vals m) (spent_at p m (v.arrays m)) r) once.number
          (elim either [
            | inl old ↦ subst (λ (sh : Shape). ImageShowsArray v.state (v.arrays m).number sh (vals m) (spent_at p m (v.arrays m)) r) same_shape old.0
            | inr new ↦ subst (λ (sh : Shape). ImageShowsArray v.state (v.arrays m).number sh (vals m) (spent_at p m (v.arrays m)) r) (next_shape (zeroing (v.arrays m)) rows ∙ same_shape) new.0
          ]);
      rows = λ old. absurd (both_ways (v.arrays m).young old once.young);
      lacks = λ old. absurd (both_ways (v.arrays m).young old once.young);
    }
