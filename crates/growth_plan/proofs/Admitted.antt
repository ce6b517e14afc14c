-- What it means for a book that a drive isn't refused, and that no new layer is left to make.
use Rattle.std.proofs.Common.{◌≡◌, ◌⊎◌, ℕ, zero, suc, ◌+◌, ◌<◌, ◌≤◌, ◌||◌, ◌&&◌, not, Bool, true, false, nat_lt, nat_le, ◌==◌, if◌then◌else◌, List, [], ◌∷◌, ◌++◌, map, remove, replicate, slice_index, Option, Some, None, is_some, All, Contains, IsPermutation, option_to_list, refl, sym, ap, subst, ◌∙◌, arith, ⊎_elim, append-nil}
use Rattle.std.specs.Bool.{then_some}
use Rattle.std.specs.List.{list_any, list_all}
use Rattle.std.specs.Option.{option_map_or, option_and_then}
use Rattle.std.proofs.lemmas.Bool.{cases_Bool, cases_lt, cond_both, cond-true, cond-false, and_parts, or_cases, eqb-true, leb-true, le-ltb, lt-ltb}
use Rattle.std.proofs.lemmas.List.Elements.{All-head, All-tail, All-weaker}
use Rattle.std.proofs.lemmas.List.Sorted.{list_any-IsPermutation}
use Rattle.layer_plan.specs.declared.Layer.{Layer}
use Rattle.layer_plan.specs.Layering.{places_reaching}
use Rattle.layer_plan.specs.Slicing.{has}
use Rattle.pool_state.specs.declared.contents.Plan.{Plan}
use Rattle.pool_state.specs.declared.contents.Plan.TheVariants.{Nothing}
use Rattle.pool_state.specs.declared.contents.State.{State}
use Rattle.pool_state.specs.declared.contents.Work.TheVariants.{Make, Zero, Ready}
use Rattle.growth_plan.specs.declared.ArrayNow.{ArrayNow}
use Rattle.growth_plan.specs.declared.Progress.{Progress}
use Rattle.growth_plan.specs.Book.{Standing, standing, units_of, height_of}
use Rattle.growth_plan.specs.Target.{planned, joining, layer_above, new_layer}
use Rattle.growth_plan.specs.Works.{rows_of, zeros, makes}
use Rattle.growth_plan.specs.Admission.{is_fitting, makes_17th}
use Rattle.growth_plan.specs.Sound.{IsSoundBook}
use Rattle.growth_plan.proofs.Above.{greatest, count_above, Few, none, one, two, few_above}
use Rattle.growth_plan.proofs.Greatest.{count_few, two_above}
use Rattle.growth_plan.proofs.Heads.{both_nil}
use Rattle.growth_plan.proofs.SoundAlike.{HasMembers, carried}
use Rattle.growth_plan.proofs.ZerosDone.{zero_at}

-- A state in which a drive has been taken in: the plan and the units are these, and no array is made.
pub record TakesIn (s t : State) (change : Plan) (drives : List ℕ) : Type 0 where
  pub plan : t.plan ≡ change
  pub units : units_of t ≡ drives
  pub made : t.made ≡ s.made
  pub joined : t.joined ≡ s.joined

-- ---- no new layer is left to make

-- above a level without a layer goes one drive at most
pub alone : (level : ℕ) (units : List ℕ) → layer_above units level ≡ None → Few level units → count_above level units ≤ 1
alone level units without (none f) = omega (arith, f.count)
alone level units without (one f) = omega (arith, f.count)
alone level units without (two f) = cc (without, two_above units level f.cut f.above f.least f.count)

pub no_layer_left : (s : State) (o : Option Layer) → option_map_or (λ layer. Make s.made layer.height ∷ zeros s.made (rows_of s layer.height)) o [] ≡ [] → o ≡ None
no_layer_left s None e = refl
no_layer_left s (Some layer) e = cc e

-- All arrays are ready.
pub all_ready : (s : State) (arrays : List ArrayNow) → makes s arrays ≡ [] → s.made ≤ s.joined
all_ready s arrays e =
    ⊎_elim
    (λ (young : s.joined < s.made).
    let yes : nat_lt s.joined s.made ≡ true = lt-ltb s.joined s.made young in
    let parts = both_nil (replicate (zero_at arrays s.joined) (Zero s.joined)) (Ready s.joined ∷ []) (rw yes at e) in cc (parts.1))
    (λ (ready : s.made ≤ s.joined). ready)
    (cases_lt s.joined s.made)

-- One drive at most goes on above them.
pub one_goes_on : (s : State) (p : Progress) → IsSoundBook s p → makes s p.arrays.items ≡ [] → count_above (height_of p.arrays.items) (units_of s) ≤ 1
one_goes_on s p sound e =
    let arrays = p.arrays.items in
    let high = height_of arrays in
    let closed = nat_lt s.joined s.made || nat_le 16 s.made in
    ⊎_elim
    (λ (yes : closed ≡ true). omega (arith, sound.above, cond-true {A = ℕ} closed 1 2 yes))
    (λ (no : closed ≡ false).
    let ready : nat_lt s.joined s.made ≡ false = le-ltb s.joined s.made (all_ready s arrays e) in
    let left : new_layer s arrays ≡ None =
    no_layer_left s (new_layer s arrays)
    (sym (cond-false (nat_lt s.joined s.made) (zeros s.joined (zero_at arrays s.joined))
    (option_map_or (λ layer. Make s.made layer.height ∷ zeros s.made (rows_of s layer.height)) (new_layer s arrays) []) ready) ∙ e) in
    alone high (units_of s) (sym (cond-false closed None (layer_above (units_of s) high) no) ∙ left) (few_above high (units_of s) (count_few s p sound)))
    (cases_Bool closed)

-- ---- no 17th layer is made

none_of : (o : Option Layer) → is_some o ≡ false → o ≡ None
none_of None e = refl
none_of (Some layer) e = cc e

-- The drives with the new one: at most two go on above all arrays, and one where 16 are made.
pub above_enlisted : (s : State) (p : Progress) (units : List ℕ) → IsSoundBook s p → makes s p.arrays.items ≡ [] →
    count_above (height_of p.arrays.items) units ≤ count_above (height_of p.arrays.items) (units_of s) + 1 →
    makes_17th s p.arrays.items units ≡ false →
    count_above (height_of p.arrays.items) units ≤ (if nat_lt s.joined s.made || nat_le 16 s.made then 1 else 2)
above_enlisted s p units sound e more few =
    let high = height_of p.arrays.items in
    let before = one_goes_on s p sound e in
    cond_both {A = ℕ} (nat_lt s.joined s.made || nat_le 16 s.made) 1 2 (λ most. count_above high units ≤ most)
    (λ closed.
    let ready : nat_lt s.joined s.made ≡ false = le-ltb s.joined s.made (all_ready s p.arrays.items e) in
    let full : nat_le 16 s.made ≡ true = rw ready at closed in
    let no : layer_above units high ≡ None = none_of (layer_above units high) (rw full at few) in
    alone high units no (few_above high units (omega (arith, before, more))))
    (λ free. omega (arith, before, more))

-- ---- its units

known_as : (P : ℕ → Type 0) (units : List ℕ) (own : ℕ) → list_any (λ other. other == own) units ≡ true → All P units → P own
known_as P [] own e all = cc e
known_as P (x ∷ xs) own e all =
    ⊎_elim
    (λ (same : (x == own) ≡ true). subst P (eqb-true x own same) (All-head P x xs all))
    (λ (other : (x == own) ≡ false). known_as P xs own (rw other at e) (All-tail P x xs all))
    (cases_Bool (x == own))

-- units that are at least those of all drives
pub greatest_of_all : (units : List ℕ) (own : ℕ) → list_all (λ other. nat_le other own) units ≡ true → greatest units ≤ own
greatest_of_all [] own e = omega arith
greatest_of_all (x ∷ xs) own e =
    let parts = and_parts (nat_le x own) (list_all (λ other. nat_le other own) xs) e in
    omega (arith, leb-true x own parts.0, greatest_of_all xs own parts.1)

-- or of all but one, and of that one as well
pub greatest_of_others : (units : List ℕ) (place own : ℕ) → list_all (λ other. nat_le other own) (remove units place) ≡ true →
    slice_index units place ≤ own → greatest units ≤ own
greatest_of_others [] place own e reaches = omega arith
greatest_of_others (x ∷ xs) zero own e reaches = omega (arith, greatest_of_all xs own e)
greatest_of_others (x ∷ xs) (suc place) own e reaches =
    let parts = and_parts (nat_le x own) (list_all (λ other. nat_le other own) (remove xs place)) e in
    omega (arith, leb-true x own parts.0, greatest_of_others xs place own parts.1 reaches)

-- Units that fit end at a top, or reach as high as all arrays.
pub fitting_top : (P : ℕ → Type 0) (units others : List ℕ) (own : ℕ) → is_fitting units others own ≡ true → All P units →
    (list_all (λ other. nat_le other own) others ≡ true → P own) → P own
fitting_top P units others own fits all largest =
    ⊎_elim
    (λ (known : list_any (λ other. other == own) units ≡ true). known_as P units own known all)
    (λ (most : list_all (λ other. nat_le other own) others ≡ true). largest most)
    (or_cases (list_any (λ other. other == own) units) (list_all (λ other. nat_le other own) others) fits)

-- ---- its place

-- Without a plan the members of each array are the drives that reach its top.
pub members_now : (s : State) (p : Progress) → s.plan ≡ Nothing → IsSoundBook s p →
    All (λ x. IsPermutation (places_reaching (units_of s) x.top) x.now.members.items) (standing p.arrays.items)
members_now s p quiet sound =
    All-weaker (λ x. IsPermutation (places_reaching (units_of s) x.top) (x.now.members.items ++ option_to_list (joining s x)))
    (λ x. IsPermutation (places_reaching (units_of s) x.top) x.now.members.items)
    (λ x moved.
    let none : joining s x ≡ None =
    ap (λ (plan : Plan). option_and_then (λ place. then_some (nat_le x.top (slice_index (units_of s) place) && not (has x.now.members.items place)) place)
    (planned plan)) quiet in
    subst (λ (ps : List ℕ). IsPermutation (places_reaching (units_of s) x.top) ps)
    (ap (λ (o : Option ℕ). x.now.members.items ++ option_to_list o) none ∙ append-nil x.now.members.items) moved)
    (standing p.arrays.items) sound.members

-- A drive is one of them where it is one of those places.
pub has_alike : (places members : List ℕ) (place : ℕ) → IsPermutation places members → has members place ≡ has places place
has_alike places members place moved = sym (list_any-IsPermutation (λ member. member == place) places members moved)

-- whether the new drive has to join an array
pub joins_where : (reaches member : Bool) (place : ℕ) (b c : Bool) → reaches ≡ b → member ≡ c →
    then_some (reaches && not member) place ≡ then_some (b && not c) place
joins_where reaches member place b c x y = cc

-- ---- the book with it

-- A book is sound where it is by the plan, the units and the arrays.
pub sound_by : (s t : State) (p : Progress) (plan : Plan) (units : List ℕ) → TakesIn s t plan units →
    All (HasMembers plan units) (standing p.arrays.items) →
    All (λ own. Contains (map (λ (x : Standing). x.top) (standing p.arrays.items)) own ⊎ (height_of p.arrays.items ≤ own)) units →
    count_above (height_of p.arrays.items) units ≤ (if nat_lt s.joined s.made || nat_le 16 s.made then 1 else 2) → IsSoundBook t p
sound_by s t p plan units is members tops above = record {
  members =
      carried (λ (pl : Plan) (us : List ℕ) (arrays : List ArrayNow). All (HasMembers pl us) (standing arrays))
      plan t.plan units (units_of t) p.arrays.items p.arrays.items (sym is.plan) (sym is.units) refl members;
  tops =
      subst (λ (us : List ℕ). All (λ own. Contains (map (λ (x : Standing). x.top) (standing p.arrays.items)) own ⊎ (height_of p.arrays.items ≤ own)) us)
      (sym is.units) tops;
  above =
      carried (λ (joined : ℕ) (made : ℕ) (us : List ℕ). count_above (height_of p.arrays.items) us ≤ (if nat_lt joined made || nat_le 16 made then 1 else 2))
      s.joined t.joined s.made t.made units (units_of t) (sym is.joined) (sym is.made) (sym is.units) above;
}
