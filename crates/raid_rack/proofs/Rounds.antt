-- The turns of the mending of losses end.
use Rattle.std.proofs.Common.{◌≡◌, ◌⊎◌, ℕ, zero, suc, ◌+◌, ◌<◌, ◌≤◌, Bool, true, false, ◌==◌, not, if◌then◌else◌, List, [], ◌∷◌, filter, length, get_or, slice_get, option_map, refl, sym, ap, subst, ◌∙◌, inl, inr, eqb-true, arith}
use Rattle.std.proofs.lemmas.Bool.{cases_Bool, cases_eq, both_ways, and_parts, and_from}
use Rattle.std.specs.List.{range_with_len}
use Rattle.arrayvec.specs.ArrayVec.{ArrayVec}
use Rattle.rack.specs.Seen.{RackView}
use Rattle.array_image.specs.States.{is_current}
use Rattle.log_laws.specs.View.{names}
use Rattle.array_model.specs.View.{View}
use Rattle.array_core.specs.Seats.{heeded}
use Rattle.raid_rack.specs.declared.arrays.Arrays.{Arrays}
use Rattle.raid_laws.specs.Raid.{Raid, gone_in, is_left}
use Rattle.raid_laws.specs.Losses.{newly_gone}
use Rattle.raid_laws.specs.Moves.{AreMarked, ChangesNoData, Mends, RaisesBy}
use Rattle.raid_laws.specs.Cleaning.{IsIdle}
use Rattle.raid_rack.specs.RaidRack.{IsRunning, raid_by, no_array}
use Rattle.raid_laws.specs.Agreeing.{MakesAgree}
use Rattle.raid_laws.proofs.Agreeing.{agree_still}
use Rattle.raid_laws.proofs.Moving.{moves_then}
use Rattle.raid_laws.proofs.Noted.{with_arrays, current_few, moves_heeded}
use Rattle.raid_rack.proofs.Mended.{each_get, each_sectors, first_named}
use Rattle.raid_rack.proofs.Turned.{newly_named}
use Rattle.transition_laws.specs.Losses.{MakesLosses}
use Rattle.transition_laws.proofs.LossesMade.{losses_heeded}

-- how many drives are left
pub count_left : Raid → ℕ
count_left v = length (filter (is_left v) (range_with_len 0 16))

fewer : (f g : ℕ → Bool) (a k : ℕ) → ((p : ℕ) → g p ≡ true → f p ≡ true) → length (filter g (range_with_len a k)) ≤ length (filter f (range_with_len a k))
fewer f g a zero more = omega arith
fewer f g a (suc k) more =
    let rest = fewer f g (a + 1) k more in
    let Goal : Bool → Bool → Type 0 = λ b c. (c ≡ true → b ≡ true)
    → length (if c then a ∷ filter g (range_with_len (a + 1) k) else filter g (range_with_len (a + 1) k))
    ≤ length (if b then a ∷ filter f (range_with_len (a + 1) k) else filter f (range_with_len (a + 1) k)) in
    let goal : Goal (f a) (g a) =
    elim (f a) as (λ b. Goal b (g a)) [
      | true ↦ elim (g a) as (λ c. Goal true c) [ true ↦ λ is. omega (arith, rest) | false ↦ λ is. omega (arith, rest) ]
      | false ↦ elim (g a) as (λ c. Goal false c) [ true ↦ λ is. absurd (both_ways false refl (is refl)) | false ↦ λ is. rest ]
    ] in
    goal (more a)

fewer_yet : (f g : ℕ → Bool) (a k p : ℕ) → ((q : ℕ) → g q ≡ true → f q ≡ true) → a ≤ p → p < a + k → f p ≡ true → g p ≡ false
    → length (filter g (range_with_len a k)) < length (filter f (range_with_len a k))
fewer_yet f g a zero p more low high is not_yet = absurd (omega (arith, low, high))
fewer_yet f g a (suc k) p more low high is not_yet =
    elim (cases_eq a p) [
      | inl here ↦
          let rest = fewer f g (a + 1) k more in
          let fs = filter f (range_with_len (a + 1) k) in
          let gs = filter g (range_with_len (a + 1) k) in
          let one : (if f a then a ∷ fs else fs) ≡ a ∷ fs = ap (λ (b : Bool). if b then a ∷ fs else fs) (ap f here ∙ is) in
          let none : (if g a then a ∷ gs else gs) ≡ gs = ap (λ (b : Bool). if b then a ∷ gs else gs) (ap g here ∙ not_yet) in
          let m = ap length one in
          let n = ap length none in
          omega (arith, rest, m, n)
      | inr other ↦
          let rest = fewer_yet f g (a + 1) k p more (omega (arith, low, other)) (omega (arith, high)) is not_yet in
          let Goal : Bool → Bool → Type 0 = λ b c. (c ≡ true → b ≡ true)
          → length (if c then a ∷ filter g (range_with_len (a + 1) k) else filter g (range_with_len (a + 1) k))
          < length (if b then a ∷ filter f (range_with_len (a + 1) k) else filter f (range_with_len (a + 1) k)) in
          let goal : Goal (f a) (g a) =
          elim (f a) as (λ b. Goal b (g a)) [
            | true ↦ elim (g a) as (λ c. Goal true c) [ true ↦ λ same. omega (arith, rest) | false ↦ λ same. omega (arith, rest) ]
            | false ↦ elim (g a) as (λ c. Goal false c) [ true ↦ λ same. absurd (both_ways false refl (same refl)) | false ↦ λ same. rest ]
          ] in
          goal (more a)
    ]

few_of_range : (f : ℕ → Bool) (a k : ℕ) → length (filter f (range_with_len a k)) ≤ k
few_of_range f a zero = omega arith
few_of_range f a (suc k) =
    let rest = few_of_range f (a + 1) k in
    let Goal : Bool → Type 0 = λ b. length (if b then a ∷ filter f (range_with_len (a + 1) k) else filter f (range_with_len (a + 1) k)) ≤ suc k in
    let goal : Goal (f a) = elim (f a) as Goal [ true ↦ omega (arith, rest) | false ↦ omega (arith, rest) ] in
    goal

-- before turn i: whoever went is marked, or i places at least aren't left any more
pub HasTurns : Raid → ℕ → Type 0
HasTurns v i = AreMarked v ⊎ (count_left v + i ≤ 16)

pub turns_first : (v : Raid) → HasTurns v 0
unfolding HasTurns count_left
turns_first v = inr (let few = few_of_range (is_left v) 0 16 in omega (arith, few))

-- a place that newly went isn't marked
pub newly_unmarked : (a : Arrays) (lost : List ℕ) (x : RackView) → IsRunning a x → lost ≡ newly_gone a.state a.all.items → 0 < length lost → AreMarked (raid_by a) → ⊥
newly_unmarked a lost x running lost_are some are =
    let first = first_named lost some in
    let both = and_parts (is_current a.state first.0) (gone_in (raid_by a) first.0)
    (sym (ap (λ ps. names ps first.0) lost_are ∙ newly_named a first.0 running.count running.set.few) ∙ first.1) in
    both_ways (gone_in (raid_by a) first.0) (are first.0 both.0) both.1

pub turns_next : (a e : Arrays) (lost : List ℕ) (i : ℕ) (x z : RackView) → IsRunning a x → lost ≡ newly_gone a.state a.all.items → 0 < length lost
    → ChangesNoData (raid_by a) (raid_by e) x z
    → AreMarked (raid_by e) ⊎ ((p : ℕ) × (is_left (raid_by a) p ≡ true) × (is_left (raid_by e) p ≡ false))
    → HasTurns (raid_by a) i → HasTurns (raid_by e) (i + 1)
unfolding HasTurns count_left
turns_next a e lost i x z running lost_are some moves (inl are) before = inl are
turns_next a e lost i x z running lost_are some moves (inr one) (inl are) = absurd (newly_unmarked a lost x running lost_are some are)
turns_next a e lost i x z running lost_are some moves (inr one) (inr room) =
    let current = (and_parts (is_current a.state one.0) (not (gone_in (raid_by a) one.0)) one.1).0 in
    let less = fewer_yet (is_left (raid_by a)) (is_left (raid_by e)) 0 16 one.0 moves.left (omega arith) (let few = current_few a.state one.0 running.set.few current in omega (arith, few)) one.1 one.2 in
    inr (omega (arith, room, less))

pub turns_done : (v : Raid) (i : ℕ) → 17 ≤ i → HasTurns v i → AreMarked v
unfolding HasTurns count_left
turns_done v i end (inl are) = are
turns_done v i end (inr room) = absurd (omega (arith, end, room))

-- after them superblocks agree, where somebody wasn't marked before them
pub done_agree : (a b : Arrays) (x y : RackView) → AreMarked (raid_by b) → (b ≡ a) ⊎ MakesAgree (raid_by a) (raid_by b) x y → (AreMarked (raid_by a) → ⊥)
    → MakesAgree (raid_by a) (raid_by b) x y
done_agree a b x y are (inl same) some = absurd (some (subst (λ (c : Arrays). AreMarked (raid_by c)) same are))
done_agree a b x y are (inr agree) some = agree

-- ---- and then they are heeded

pub heeds : (a b : Arrays) (all : ArrayVec View) (x y : RackView) → ChangesNoData (raid_by a) (raid_by b) x y → IsRunning b y → AreMarked (raid_by b)
    → ((n : ℕ) → slice_get all.items n ≡ option_map heeded (slice_get b.all.items n)) → length all.items ≡ length b.all.items
    → Mends (raid_by a) (raid_by (record b { all = all })) x y × IsRunning (record b { all = all }) y
heeds a b all x y moves running are each count =
    let f : ℕ → View = λ n. get_or all.items n no_array in
    let arrays : (n : ℕ) → n < b.state.made → f n ≡ heeded ((raid_by b).arrays n) =
    λ n low. each_get heeded b.all.items all.items n each (let same = running.count in omega (arith, low, same)) in
    let step = moves_heeded (raid_by b) f y running.set arrays (λ n. each_sectors heeded b.all.items all.items n (λ u. refl) each) are in (
      record {
        moves = moves_then (raid_by a) (raid_by b) (with_arrays (raid_by b) f) x y y moves step;
        heeded = λ n low. ap (λ (u : View). u.went) (arrays n low);
        marked = λ p was.
            elim (cases_Bool (is_current b.state p)) [
              | inl current ↦
                  let left = moves.left p (and_from (is_current b.state p) (not (gone_in (raid_by b) p)) current (ap not (are p current))) in
                  absurd (both_ways true (sym (and_parts (is_current a.state p) (not (gone_in (raid_by a) p)) left).1 ∙ ap not was) refl)
              | inr other ↦ other
            ];
      },
      record { count = count ∙ running.count; set = step.set },
    )

pub heeds_agree : (a b : Arrays) (all : ArrayVec View) (x y : RackView) → ChangesNoData (raid_by a) (raid_by b) x y → IsRunning b y → AreMarked (raid_by b)
    → ((n : ℕ) → slice_get all.items n ≡ option_map heeded (slice_get b.all.items n))
    → MakesAgree (raid_by a) (raid_by b) x y → MakesAgree (raid_by a) (raid_by (record b { all = all })) x y
heeds_agree a b all x y moves running are each agree =
    let f : ℕ → View = λ n. get_or all.items n no_array in
    let step = moves_heeded (raid_by b) f y running.set (λ n low. each_get heeded b.all.items all.items n each (let same = running.count in omega (arith, low, same)))
    (λ n. each_sectors heeded b.all.items all.items n (λ u. refl) each) are in
    agree_still (raid_by a) (raid_by b) (with_arrays (raid_by b) f) x y y moves step (λ none. (refl, refl)) agree

pub heeds_raise : (k : ℕ) (a b : Arrays) (all : ArrayVec View) (x y : RackView) → ChangesNoData (raid_by a) (raid_by b) x y → IsRunning b y
    → ((n : ℕ) → slice_get all.items n ≡ option_map heeded (slice_get b.all.items n)) → RaisesBy k (raid_by a) (raid_by b) → RaisesBy k (raid_by a) (raid_by (record b { all = all }))
heeds_raise k a b all x y moves running each one =
    record {
      number = one.number;
      epoch = one.epoch;
      events = λ n low.
          let made = moves.book.same.made in
          let count = running.count in
          let e = ap (λ (u : View). u.truth.events) (each_get heeded b.all.items all.items n each (omega (arith, low, made, count))) in
          let was = one.events n low in
          omega (arith, e, was);
    }

pub heeds_losses : (d : Raid) (a b : Arrays) (all : ArrayVec View) (x y : RackView) → IsRunning b y → AreMarked (raid_by b)
    → ((n : ℕ) → slice_get all.items n ≡ option_map heeded (slice_get b.all.items n)) → MakesLosses d (raid_by a) (raid_by b) x y
    → MakesLosses d (raid_by a) (raid_by (record b { all = all })) x y
heeds_losses d a b all x y running are each made =
    losses_heeded d (raid_by a) (raid_by b) (λ n. get_or all.items n no_array) x y running.set.fit made are
    (λ n low. each_get heeded b.all.items all.items n each (let same = running.count in omega (arith, low, same)))

-- where whoever went is marked, that is all
pub idle_by : (a b : Arrays) (all : ArrayVec View) (y : RackView) → IsRunning b y → ((n : ℕ) → slice_get all.items n ≡ option_map heeded (slice_get b.all.items n))
    → b ≡ a → IsIdle (raid_by a) (raid_by (record b { all = all }))
idle_by a b all y running each same =
    record {
      state = ap (λ (c : Arrays). c.state) same;
      arrays = λ n low.
          each_get heeded b.all.items all.items n each (let count = running.count in let made = ap (λ (c : Arrays). c.state.made) same in omega (arith, low, count, made))
          ∙ ap (λ (c : Arrays). heeded (get_or c.all.items n no_array)) same;
    }

-- ---- tests of lengths

pub no_length : (xs : List ℕ) → (length xs == 0) ≡ true → xs ≡ []
no_length [] is = refl
no_length (x ∷ xs) is = absurd (let zero_is = eqb-true (suc (length xs)) 0 is in omega (arith, zero_is))

pub some_length : (xs : List ℕ) → (length xs == 0) ≡ false → 0 < length xs
some_length [] is = absurd (both_ways false refl (sym is))
some_length (x ∷ xs) is = omega arith
