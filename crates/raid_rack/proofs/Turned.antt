-- One turn of the mending of losses: who went, and what is left.
use Rattle.std.proofs.Common.{◌≡◌, ℕ, zero, suc, ◌+◌, ◌<◌, ◌≤◌, Bool, true, false, ◌==◌, ◌&&◌, ◌||◌, not, if◌then◌else◌, List, [], ◌∷◌, filter, length, get_or, refl, sym, ap, ap₂, subst, ◌∙◌, inl, inr, eqb-true, arith}
use Rattle.std.proofs.lemmas.Bool.{cases_Bool, both_ways, and_parts, and_from}
use Rattle.std.proofs.lemmas.Map.Views.{any-filter_same}
use Rattle.std.specs.List.{list_any, range_with_len}
use Rattle.rack.specs.Seen.{RackView}
use Rattle.rack.specs.Joins.{stays_same, leaves_same, keeps_same}
use Rattle.pool_state.specs.declared.contents.State.{State}
use Rattle.array_image.specs.States.{is_current, current_places}
use Rattle.log_laws.specs.View.{names}
use Rattle.array_model.specs.View.{View, present, has_gone as went_in}
use Rattle.raid_rack.specs.declared.arrays.Arrays.{Arrays}
use Rattle.raid_laws.specs.Raid.{Raid, gone_in, is_left, is_failed, is_used_up}
use Rattle.raid_laws.specs.Losses.{has_gone, newly_gone}
use Rattle.raid_laws.specs.Moves.{IsSet, IsUnmarked, AreMarked, ChangesNoData}
use Rattle.raid_laws.specs.Settling.{state_after}
use Rattle.raid_rack.specs.RaidRack.{raid_by, no_array}
use Rattle.raid_laws.proofs.Missing.{current_marked, length_marked}
use Rattle.raid_laws.proofs.Added.{names_current}
use Rattle.raid_laws.proofs.Ranges.{any_some, any_none}
use Rattle.raid_laws.specs.Losing.{only_same}
use Rattle.raid_laws.proofs.Over.{not_true}
use Rattle.raid_laws.proofs.Noted.{bool_same, current_few, gone_some, gone_from}
use Rattle.raid_laws.proofs.Committed.{valid_marked, after_marked, seated_marked}

-- ---- who went newly

pub any_index : {X : Type 0} (f : X → Bool) (xs : List X) (d : X) → list_any f xs ≡ true → (n : ℕ) × (n < length xs) × (f (get_or xs n d) ≡ true)
any_index f [] d is = absurd (both_ways false refl is)
any_index f (x ∷ xs) d is =
    elim (cases_Bool (f x)) [
      | inl here ↦ (0, omega arith, here)
      | inr none ↦
          let rest = any_index f xs d (sym (ap (λ b. b || list_any f xs) none) ∙ is) in
          let low = rest.1 in
          (suc rest.0, omega (arith, low), rest.2)
    ]

pub index_any : {X : Type 0} (f : X → Bool) (xs : List X) (d : X) (n : ℕ) → n < length xs → f (get_or xs n d) ≡ true → list_any f xs ≡ true
index_any f [] d n low is = absurd (omega (arith, low))
index_any f (x ∷ xs) d zero low is = ap (λ b. b || list_any f xs) is
index_any f (x ∷ xs) d (suc n) low is = or_last (f x) (list_any f xs) (index_any f xs d n (omega (arith, low)) is)
  where
    or_last : (b c : Bool) → c ≡ true → (b || c) ≡ true
    or_last true c is = refl
    or_last false c is = is

listed_gone : (a : Arrays) (p : ℕ) → length a.all.items ≡ a.state.made → p < 16 → has_gone a.all.items p ≡ gone_in (raid_by a) p
listed_gone a p count few =
    bool_same (has_gone a.all.items p) (gone_in (raid_by a) p)
    (λ is.
    let at = any_index (λ (v : View). names v.went p) a.all.items no_array is in
    let low = at.1 in
    gone_from (raid_by a) p at.0 few (omega (arith, low, count)) at.2)
    (λ is.
    let at = gone_some (raid_by a) p is in
    let low = at.1.1 in
    index_any (λ (v : View). names v.went p) a.all.items no_array at.1.0 (omega (arith, low, count)) at.1.2)

and_swap : (b c : Bool) → (b && c) ≡ (c && b)
and_swap true true = refl
and_swap true false = refl
and_swap false true = refl
and_swap false false = refl

-- they are the current places that went
pub newly_named : (a : Arrays) (p : ℕ) → length a.all.items ≡ a.state.made → length a.state.drives.items ≤ 16
    → names (newly_gone a.state a.all.items) p ≡ (is_current a.state p && gone_in (raid_by a) p)
newly_named a p count few =
    any-filter_same (λ q. q == p) (has_gone a.all.items) (has_gone a.all.items p) (λ q is. ap (has_gone a.all.items) (eqb-true q p is)) (current_places a.state)
    ∙ ap (λ b. has_gone a.all.items p && b) (names_current a.state p)
    ∙ and_swap (has_gone a.all.items p) (is_current a.state p)
    ∙ of (is_current a.state p) refl
  where
    of : (c : Bool) → is_current a.state p ≡ c → (is_current a.state p && has_gone a.all.items p) ≡ (is_current a.state p && gone_in (raid_by a) p)
    of true current = ap (λ b. is_current a.state p && b) (listed_gone a p count (current_few a.state p few current))
    of false other = ap (λ b. b && has_gone a.all.items p) other ∙ sym (ap (λ b. b && gone_in (raid_by a) p) other)

-- where none went newly, all that went are marked
pub none_newly : (a : Arrays) → length a.all.items ≡ a.state.made → length a.state.drives.items ≤ 16 → newly_gone a.state a.all.items ≡ [] → AreMarked (raid_by a)
none_newly a count few none p current =
    elim (cases_Bool (gone_in (raid_by a) p)) [
      | inl is ↦
          absurd (both_ways (names (newly_gone a.state a.all.items) p) (ap (λ ps. names ps p) none)
          (newly_named a p count few ∙ and_from (is_current a.state p) (gone_in (raid_by a) p) current is))
      | inr not_yet ↦ not_yet
    ]

filter_twice : (c f g : ℕ → Bool) (a k : ℕ) → ((p : ℕ) → p < a + k → c p ≡ true → f p ≡ g p)
    → filter f (filter c (range_with_len a k)) ≡ filter g (filter c (range_with_len a k))
filter_twice c f g a zero same = refl
filter_twice c f g a (suc k) same =
    let rest = filter_twice c f g (a + 1) k (λ p low is. same p (omega (arith, low)) is) in
    let xs = filter c (range_with_len (a + 1) k) in
    let Goal : Bool → Type 0 = λ b. c a ≡ b → filter f (if b then a ∷ xs else xs) ≡ filter g (if b then a ∷ xs else xs) in
    let goal : Goal (c a) = elim (c a) as Goal [
      | true ↦ λ is. ap₂ (λ (b : Bool) (ys : List ℕ). if b then a ∷ ys else ys) (same a (omega arith) is) rest
      | false ↦ λ is. rest
    ] in
    goal refl

-- where others went newly than before, somebody isn't left any more
pub newly_other : (a b : Arrays) → a.state ≡ b.state → length a.all.items ≡ a.state.made → length b.all.items ≡ b.state.made → length a.state.drives.items ≤ 16
    → ((p : ℕ) → gone_in (raid_by a) p ≡ true → is_current b.state p ≡ true → gone_in (raid_by b) p ≡ true)
    → (newly_gone b.state b.all.items ≡ newly_gone a.state a.all.items → ⊥)
    → (p : ℕ) × (is_left (raid_by a) p ≡ true) × (is_left (raid_by b) p ≡ false)
unfolding current_places
newly_other a b same count_a count_b few more other =
    let test : ℕ → Bool = λ p. is_left (raid_by a) p && not (is_left (raid_by b) p) in
    elim (cases_Bool (list_any test (range_with_len 0 16))) [
      | inl some ↦
          let at = any_some test 0 16 some in
          let both = and_parts (is_left (raid_by a) at.0) (not (is_left (raid_by b) at.0)) at.3 in
          (at.0, both.0, not_true (is_left (raid_by b) at.0) both.1)
      | inr none ↦
          absurd (other
          (ap (λ (s : State). newly_gone s b.all.items) (sym same)
          ∙ filter_twice (is_current a.state) (has_gone b.all.items) (has_gone a.all.items) 0 (length a.state.drives.items)
          (λ p low current.
          let below : p < 16 = omega (arith, low, few) in
          let now : is_current b.state p ≡ true = subst (λ (s : State). is_current s p ≡ true) same current in
          listed_gone b p count_b below
          ∙ bool_same (gone_in (raid_by b) p) (gone_in (raid_by a) p)
          (λ is. elim (cases_Bool (gone_in (raid_by a) p)) [
            | inl was ↦ was
            | inr not_yet ↦
                let left : is_left (raid_by a) p ≡ true = and_from (is_current a.state p) (not (gone_in (raid_by a) p)) current (ap not not_yet) in
                let still : is_left (raid_by b) p ≡ false = ap₂ (λ x y. x && not y) now is in
                absurd (both_ways (test p) (any_none test 0 16 p none (omega arith) (omega (arith, below)))
                (and_from (is_left (raid_by a) p) (not (is_left (raid_by b) p)) left (ap not still)))
          ])
          (λ is. more p is now)
          ∙ sym (listed_gone a p count_a below))))
    ]

-- ---- nobody is left

pub moves_emptied : (v : Raid) (lost : List ℕ) (x : RackView) → IsSet v x
    → ((p : ℕ) → names lost p ≡ (is_current v.state p && gone_in v p))
    → ((n p : ℕ) → n < v.state.made → names lost p ≡ true → went_in (v.arrays n) p ≡ true)
    → ((p : ℕ) → is_current (state_after v lost) p ≡ false)
    → ((n : ℕ) → n < v.state.made → IsUnmarked (v.arrays n))
    → ChangesNoData v (record v { state = state_after v lost }) x x
moves_emptied v lost x set lost_is noted nobody unmarked =
    let w : Raid = record v { state = state_after v lost } in
    let none : (p : ℕ) → is_left w p ≡ false = λ p. ap (λ b. b && not (gone_in w p)) (nobody p) in
    let over : (n : ℕ) → is_failed w n ≡ false → ⊥ = λ n goes.
    both_ways (is_failed w n) goes (ap (λ b. not b || (is_used_up w || (present (w.arrays n).seats == 0)))
    (all_none (is_left w) 0 16 none)) in
    record {
      stays = stays_same x set.fit;
      set = record {
        fit = set.fit;
        lasting = set.lasting;
        disks = set.disks;
        few = subst (λ k. k ≤ 16) (sym (length_marked lost 0 v.state.drives.items)) set.few;
        most = set.most;
        valid = λ p low. valid_marked lost v.state p (set.valid p (subst (λ k. p < k) (length_marked lost 0 v.state.drives.items) low));
        logs = λ p left. absurd (both_ways (is_left w p) (none p) left);
        arrays = λ n low. seated_marked v.state lost n (v.arrays n) x (λ p is. noted n p low is) (unmarked n low) (set.arrays n low);
        marked = λ n low is. absurd (both_ways (v.arrays n).marked (unmarked n low).mark is);
      };
      book = after_marked lost v.state;
      leaves = λ traced. leaves_same x (λ c. Unit {0});
      number = omega arith;
      events = λ n low. omega arith;
      arrays = λ n low. only_same (v.arrays n) (v.arrays n) refl;
      plan = refl;
      sectors = λ n. refl;
      left = λ p is. absurd (both_ways (is_left w p) (none p) is);
      cause = λ p was now.
          let both = and_parts (is_current v.state p) (not (gone_in v p)) was in
          let unlisted : names lost p ≡ false = lost_is p ∙ ap (λ b. is_current v.state p && b) (not_true (gone_in v p) both.1) ∙ and_none (is_current v.state p) in
          absurd (both_ways (is_current (state_after v lost) p) (nobody p)
          (current_marked lost v.state p ∙ and_from (is_current v.state p) (not (names lost p)) both.0 (ap not unlisted)));
      still = λ n low goes. absurd (over n goes);
      spent = λ n y low alive. alive;
      counted = λ n m sector low among counts. among;
      unwritten = λ d t live gone. keeps_same (x.held d t);
      kept = λ d t live apart other. keeps_same (x.held d t);
      parts = λ n vals spent joined low goes covers. absurd (over n goes);
      rows = λ n vals spent joined low goes covers amid rows. absurd (over n goes);
      lacking = λ n vals spent joined low goes covers amid leaves. absurd (over n goes);
    }
  where
    and_none : (b : Bool) → (b && false) ≡ false
    and_none true = refl
    and_none false = refl

    all_none : (f : ℕ → Bool) (a k : ℕ) → ((p : ℕ) → f p ≡ false) → list_any f (range_with_len a k) ≡ false
    all_none f a zero none = refl
    all_none f a (suc k) none = ap₂ (λ b c. b || c) (none a) (all_none f (a + 1) k none)
