-- A sound book with a drive that takes the part of another.
use Rattle.std.proofs.Common.{◌≡◌, ◌⊎◌, ℕ, zero, suc, ◌+◌, ◌<◌, ◌≤◌, ◌||◌, ◌&&◌, ◌==◌, not, Bool, true, false, nat_lt, nat_le, if◌then◌else◌, cond, List, [], ◌∷◌, ◌++◌, length, map, filter, remove, slice_set, slice_index, Option, None, option_to_list, All, Contains, IsPermutation, inr, refl, sym, ap, subst, ◌∙◌, arith, ⊎_elim, append-nil}
use Rattle.std.specs.Bool.{then_some}
use Rattle.std.specs.List.{range_with_len, list_all}
use Rattle.std.proofs.lemmas.Bool.{cases_Bool, cond_both, eq-eqb, eqb-true, or_right, le-leb, leb-true, ltb-false}
use Rattle.std.proofs.lemmas.List.{length-map, length-set, get_or-set_same, get_or-set_other}
use Rattle.std.proofs.lemmas.List.Elements.{All-nil, All-cons, All-head, All-tail, All-weaker}
use Rattle.std.proofs.lemmas.List.Sorted.{IsPermutation-append_left, IsPermutation-sym, IsPermutation-trans}
use Rattle.std.proofs.lemmas.List.Sums.{sum_by-cons}
use Rattle.layer_plan.specs.Layering.{places_reaching}
use Rattle.layer_plan.specs.Slicing.{has}
use Rattle.layer_plan.proofs.Reached.{has_range}
use Rattle.pool_state.specs.declared.contents.Drive.{Drive}
use Rattle.pool_state.specs.declared.contents.Plan.TheVariants.{Nothing, Replace}
use Rattle.pool_state.specs.declared.contents.State.{State}
use Rattle.growth_plan.specs.declared.AdmitFault.TheVariants.{Size, Smaller, TooManyDrives, TooManyLayers}
use Rattle.growth_plan.specs.declared.Progress.{Progress}
use Rattle.growth_plan.specs.Admission.{is_fitting, is_serial_end, makes_17th, replace_refusals, first_refusal}
use Rattle.growth_plan.specs.Book.{IsBook, Standing, standing, units_of, height_of}
use Rattle.growth_plan.specs.Doing.{inserted}
use Rattle.growth_plan.specs.Sound.{IsSoundBook}
use Rattle.growth_plan.specs.Works.{makes}
use Rattle.growth_plan.proofs.Above.{count_above}
use Rattle.growth_plan.proofs.Admitted.{TakesIn, above_enlisted, greatest_of_others, fitting_top, members_now, has_alike, joins_where, sound_by}
use Rattle.growth_plan.proofs.Greatest.{top_reached, one_made}
use Rattle.growth_plan.proofs.GrowthLeft.{joining_with}
use Rattle.growth_plan.proofs.Inserted.{permuted, inserted_range}
use Rattle.growth_plan.proofs.SoundAdded.{is_true}
use Rattle.growth_plan.proofs.SoundAlike.{HasMembers}

-- the places of a range that pass one test or another that agrees
same_range : (q r : ℕ → Bool) (a n : ℕ) → ((k : ℕ) → q k ≡ r k) → filter q (range_with_len a n) ≡ filter r (range_with_len a n)
same_range q r a zero same = refl
same_range q r a (suc n) same =
    let rest = same_range q r (a + 1) n same in
    ap (λ (ps : List ℕ). if q a then a ∷ ps else ps) rest
    ∙ ap (λ (b : Bool). if b then a ∷ filter r (range_with_len (a + 1) n) else filter r (range_with_len (a + 1) n)) (same a)

-- whether a place reaches a level with other units of one place
reach_other : (units : List ℕ) (place own level k : ℕ) → (k == place) ≡ false →
    nat_le level (slice_index (slice_set units place own) k) ≡ nat_le level (slice_index units k)
reach_other units place own level k other =
    ap (λ (u : ℕ). nat_le level u) (get_or-set_other units place k own 0 (λ e. cc (eq-eqb k place e, other)))

reach_at : (units : List ℕ) (place own level : ℕ) → place < length units → nat_le level (slice_index (slice_set units place own) place) ≡ nat_le level own
reach_at units place own level inside = ap (λ (u : ℕ). nat_le level u) (get_or-set_same units place own 0 inside)

-- where the place reaches it as before
places_kept : (units : List ℕ) (place own level : ℕ) → place < length units → nat_le level own ≡ nat_le level (slice_index units place) →
    places_reaching (slice_set units place own) level ≡ places_reaching units level
places_kept units place own level inside alike =
    let more = slice_set units place own in
    ap (λ (n : ℕ). filter (λ k. nat_le level (slice_index more k)) (range_with_len 0 n)) (length-set units place own)
    ∙ same_range (λ k. nat_le level (slice_index more k)) (λ k. nat_le level (slice_index units k)) 0 (length units)
    (λ k. ⊎_elim
    (λ (here : (k == place) ≡ true).
    let same : k ≡ place = eqb-true k place here in
    ap (λ (i : ℕ). nat_le level (slice_index more i)) same ∙ reach_at units place own level inside ∙ alike
    ∙ sym (ap (λ (i : ℕ). nat_le level (slice_index units i)) same))
    (λ (other : (k == place) ≡ false). reach_other units place own level k other)
    (cases_Bool (k == place)))

-- and where it comes to reach it
places_gained : (units : List ℕ) (place own level : ℕ) → place < length units → nat_le level own ≡ true → nat_le level (slice_index units place) ≡ false →
    places_reaching (slice_set units place own) level ≡ inserted place (places_reaching units level)
places_gained units place own level inside reaches short =
    let more = slice_set units place own in
    let q : ℕ → Bool = λ k. nat_le level (slice_index units k) in
    ap (λ (n : ℕ). filter (λ k. nat_le level (slice_index more k)) (range_with_len 0 n)) (length-set units place own)
    ∙ same_range (λ k. nat_le level (slice_index more k)) (λ k. q k || (k == place)) 0 (length units)
    (λ k. ⊎_elim
    (λ (here : (k == place) ≡ true).
    ap (λ (i : ℕ). nat_le level (slice_index more i)) (eqb-true k place here) ∙ reach_at units place own level inside ∙ reaches
    ∙ sym (or_right (q k) (k == place) here))
    (λ (other : (k == place) ≡ false). reach_other units place own level k other ∙ sym (or_no (q k) (k == place) other))
    (cases_Bool (k == place)))
    ∙ sym (inserted_range q place 0 (length units) short (omega arith) (omega arith))
  where
    or_no : (a b : Bool) → b ≡ false → (a || b) ≡ a
    or_no true b e = refl
    or_no false b e = e

-- each array has its members, but for the new drive where it reaches higher
joins_new : (units : List ℕ) (place own : ℕ) (x : Standing) → place < length units → slice_index units place ≤ own →
    IsPermutation (places_reaching units x.top) x.now.members.items → HasMembers (Replace place) (slice_set units place own) x
joins_new units place own x inside larger moved =
    let more = slice_set units place own in
    let members = x.now.members.items in
    let top = x.top in
    let old = nat_le top (slice_index units place) in
    let member : has members place ≡ old =
    has_alike (places_reaching units top) members place moved
    ∙ has_range (λ k. nat_le top (slice_index units k)) 0 (length units) place (omega arith) (omega arith) in
    let joins : (b c : Bool) → nat_le top own ≡ b → old ≡ c → joining_with (Replace place) more x ≡ then_some (b && not c) place =
    λ b c reaches before. joins_where (nat_le top (slice_index more place)) (has members place) place b c
    (reach_at units place own top inside ∙ reaches) (member ∙ before) in
    let kept : joining_with (Replace place) more x ≡ None → nat_le top own ≡ old → HasMembers (Replace place) more x =
    λ idle alike.
    subst (λ (o : Option ℕ). IsPermutation (places_reaching more top) (members ++ option_to_list o)) (sym idle)
    (subst (λ (ps : List ℕ). IsPermutation (places_reaching more top) ps) (sym (append-nil members))
    (subst (λ (ps : List ℕ). IsPermutation ps members) (sym (places_kept units place own top inside alike)) moved)) in
    ⊎_elim
    (λ (yes : nat_le top own ≡ true). ⊎_elim
    (λ (was : old ≡ true). kept (joins true true yes was) (yes ∙ sym was))
    (λ (not_yet : old ≡ false).
    let places = places_reaching units top in
    let new : places_reaching more top ≡ inserted place places = places_gained units place own top inside yes not_yet in
    subst (λ (o : Option ℕ). IsPermutation (places_reaching more top) (members ++ option_to_list o)) (sym (joins true false yes not_yet))
    (subst (λ (ps : List ℕ). IsPermutation ps (members ++ place ∷ [])) (sym new)
    (IsPermutation-trans (inserted place places) (places ++ place ∷ []) (members ++ place ∷ [])
    (IsPermutation-sym (places ++ place ∷ []) (inserted place places) (permuted place places))
    (IsPermutation-append_left (place ∷ []) places members moved))))
    (cases_Bool old))
    (λ (short : nat_le top own ≡ false). ⊎_elim
    (λ (was : old ≡ true). cc (short, le-leb top own (omega (arith, leb-true top (slice_index units place) was, larger))))
    (λ (not_yet : old ≡ false). kept (joins false false short not_yet) (short ∙ sym not_yet))
    (cases_Bool old))
    (cases_Bool (nat_le top own))

-- what holds of all units, and of the new ones
all_set : (P : ℕ → Type 0) (units : List ℕ) (place own : ℕ) → All P units → P own → All P (slice_set units place own)
all_set P [] place own all new = All-nil P
all_set P (x ∷ xs) zero own all new = All-cons P own xs new (All-tail P x xs all)
all_set P (x ∷ xs) (suc place) own all new =
    All-cons P x (slice_set xs place own) (All-head P x xs all) (all_set P xs place own (All-tail P x xs all) new)

count_set : (level : ℕ) (units : List ℕ) (place own : ℕ) → count_above level (slice_set units place own) ≤ count_above level units + 1
count_set level [] place own = omega arith
count_set level (x ∷ xs) zero own =
    let here : cond {A = ℕ} (nat_lt level own) 1 0 ≤ 1 = cond_both {A = ℕ} (nat_lt level own) 1 0 (λ k. k ≤ 1) (λ e. omega arith) (λ e. omega arith) in
    omega (arith, here, sum_by-cons (λ y. cond (nat_lt level y) 1 0) own xs, sum_by-cons (λ y. cond (nat_lt level y) 1 0) x xs)
count_set level (x ∷ xs) (suc place) own =
    omega (
      arith,
      count_set level xs place own,
      sum_by-cons (λ y. cond (nat_lt level y) 1 0) x (slice_set xs place own),
      sum_by-cons (λ y. cond (nat_lt level y) 1 0) x xs,
    )

-- none of the causes holds
none_refused : (a b c d : Bool) → first_refusal ((Size, a) ∷ (Smaller, b) ∷ (TooManyDrives, c) ∷ (TooManyLayers, d) ∷ []) ≡ None →
    (a ≡ false) × (b ≡ false) × (d ≡ false)
none_refused true b c d e = cc e
none_refused false true c d e = cc e
none_refused false false true d e = cc e
none_refused false false false true e = cc e
none_refused false false false false e = (refl, refl, refl)

-- Where nothing is refused and no work on a new layer is left, a sound book without a plan stays sound with the drive that takes the part of another.
pub sound_replaced : (s t : State) (p : Progress) (place own : ℕ) → IsBook s p → IsSoundBook s p → s.plan ≡ Nothing → makes s p.arrays.items ≡ [] →
    place < length s.drives.items → first_refusal (replace_refusals s p.arrays.items place own) ≡ None →
    TakesIn s t (Replace place) (slice_set (units_of s) place own) → IsSoundBook t p
sound_replaced s t p place own book sound quiet done listed refused is =
    let units = units_of s in
    let more = slice_set units place own in
    let arrays = p.arrays.items in
    let high = height_of arrays in
    let fits = is_fitting units (remove units place) own in
    let smaller = nat_lt own (slice_index units place) in
    let none = none_refused (not fits) smaller (is_serial_end s) (makes_17th s arrays more) refused in
    let inside : place < length units = omega (arith, listed, length-map {A = Drive} s.drives.items (λ drive. drive.units)) in
    let larger : slice_index units place ≤ own = ltb-false own (slice_index units place) none.1 in
    let P : ℕ → Type 0 = λ own. Contains (map (λ (x : Standing). x.top) (standing arrays)) own ⊎ (high ≤ own) in
    let reached = top_reached s p arrays refl book sound (omega (arith, book.made, one_made s book.valid)) in
    let new : P own =
    fitting_top P units (remove units place) own (is_true fits none.0) sound.tops
    (λ (most : list_all (λ other. nat_le other own) (remove units place) ≡ true).
    inr (omega (arith, reached, greatest_of_others units place own most larger))) in
    sound_by s t p (Replace place) more is
    (All-weaker (λ x. IsPermutation (places_reaching units x.top) x.now.members.items) (HasMembers (Replace place) more)
    (λ x moved. joins_new units place own x inside larger moved) (standing arrays) (members_now s p quiet sound))
    (all_set P units place own sound.tops new)
    (above_enlisted s p more sound done (count_set high units place own) none.2)
