-- A sound book with a drive that is added.
use Rattle.std.proofs.Common.{◌≡◌, ◌⊎◌, ℕ, zero, suc, ◌+◌, ◌<◌, ◌≤◌, ◌||◌, ◌&&◌, ◌==◌, not, Bool, true, false, nat_lt, nat_le, if◌then◌else◌, cond, List, [], ◌∷◌, ◌++◌, length, map, filter, slice_index, Option, None, option_to_list, All, Contains, IsPermutation, inr, refl, sym, ap, subst, ◌∙◌, arith, ⊎_elim}
use Rattle.std.specs.Bool.{then_some}
use Rattle.std.specs.List.{range_with_len, list_all}
use Rattle.std.proofs.Math.Seq.{get_or-append_seam}
use Rattle.std.proofs.lemmas.Bool.{cases_Bool, cond_both, ne_eqb}
use Rattle.std.proofs.lemmas.List.{length-append, length-map, get_or_append_left}
use Rattle.std.proofs.lemmas.List.Elements.{All-push, All-weaker}
use Rattle.std.proofs.lemmas.List.Sorted.{IsPermutation-append_left}
use Rattle.std.proofs.lemmas.List.Sums.{sum_by-append}
use Rattle.layer_plan.specs.Layering.{places_reaching}
use Rattle.layer_plan.specs.Slicing.{has}
use Rattle.pool_state.specs.declared.contents.Drive.{Drive}
use Rattle.pool_state.specs.declared.contents.Plan.TheVariants.{Nothing, Add}
use Rattle.pool_state.specs.declared.contents.State.{State}
use Rattle.growth_plan.specs.declared.AdmitFault.TheVariants.{Size, TooManyDrives, TooManyLayers}
use Rattle.growth_plan.specs.declared.Progress.{Progress}
use Rattle.growth_plan.specs.Admission.{is_fitting, is_serial_end, makes_17th, add_refusals, first_refusal}
use Rattle.growth_plan.specs.Book.{IsBook, Standing, standing, units_of, height_of}
use Rattle.growth_plan.specs.Sound.{IsSoundBook}
use Rattle.growth_plan.specs.Works.{makes}
use Rattle.growth_plan.proofs.Above.{count_above}
use Rattle.growth_plan.proofs.Admitted.{TakesIn, above_enlisted, greatest_of_all, fitting_top, members_now, has_alike, joins_where, sound_by}
use Rattle.growth_plan.proofs.Greatest.{top_reached, one_made}
use Rattle.growth_plan.proofs.GrowthLeft.{joining_with}
use Rattle.growth_plan.proofs.SoundAlike.{HasMembers}

-- no place past a range is among those of it that pass a test
none_past : (q : ℕ → Bool) (a n place : ℕ) → a + n ≤ place → has (filter q (range_with_len a n)) place ≡ false
none_past q a zero place past = refl
none_past q a (suc n) place past =
    let other : (a == place) ≡ false = ne_eqb a place (λ e. absurd (omega arith)) in
    let rest = none_past q (a + 1) n place (omega arith) in
    cond_both (q a) (a ∷ filter q (range_with_len (a + 1) n)) (filter q (range_with_len (a + 1) n)) (λ t. has t place ≡ false)
    (λ e. rw (other, rest)) (λ e. rest)

-- a range of one place more
one_place : (q r : ℕ → Bool) (a n last : ℕ) → a + n ≡ last → ((k : ℕ) → k < last → q k ≡ r k) →
    filter q (range_with_len a (suc n)) ≡ filter r (range_with_len a n) ++ (if q last then last ∷ [] else [])
one_place q r a zero last end same =
    let here : a ≡ last = omega (arith, end) in ap (λ (k : ℕ). if q k then k ∷ [] else []) here
one_place q r a (suc n) last end same =
    let rest = one_place q r (a + 1) n last (omega (arith, end)) same in
    let first : q a ≡ r a = same a (omega (arith, end)) in
    ⊎_elim
    (λ (yes : r a ≡ true). let also : q a ≡ true = first ∙ yes in rw (yes, also) (ap (λ (ps : List ℕ). a ∷ ps) rest))
    (λ (no : r a ≡ false). let also : q a ≡ false = first ∙ no in rw (no, also) rest)
    (cases_Bool (r a))

places_more : (units : List ℕ) (own level : ℕ) →
    places_reaching (units ++ own ∷ []) level ≡ places_reaching units level ++ (if nat_le level own then length units ∷ [] else [])
places_more units own level =
    let more = units ++ own ∷ [] in
    let count : length more ≡ suc (length units) = omega (arith, length-append units (own ∷ [])) in
    let last : slice_index more (length units) ≡ own = get_or-append_seam units own [] 0 in
    ap (λ (n : ℕ). filter (λ place. nat_le level (slice_index more place)) (range_with_len 0 n)) count
    ∙ one_place (λ place. nat_le level (slice_index more place)) (λ place. nat_le level (slice_index units place)) 0 (length units) (length units) (omega arith)
    (λ k inside. ap (λ (u : ℕ). nat_le level u) (get_or_append_left units (own ∷ []) 0 k inside))
    ∙ ap (λ (u : ℕ). places_reaching units level ++ (if nat_le level u then length units ∷ [] else [])) last

-- each array has its members, but for the new drive
joins_new : (units : List ℕ) (own : ℕ) (x : Standing) → IsPermutation (places_reaching units x.top) x.now.members.items →
    HasMembers (Add (length units)) (units ++ own ∷ []) x
joins_new units own x moved =
    let n = length units in
    let members = x.now.members.items in
    let outside : has members n ≡ false =
    has_alike (places_reaching units x.top) members n moved
    ∙ none_past (λ place. nat_le x.top (slice_index units place)) 0 n n (omega arith) in
    let last : slice_index (units ++ own ∷ []) n ≡ own = get_or-append_seam units own [] 0 in
    let joins : (b : Bool) → nat_le x.top own ≡ b → joining_with (Add n) (units ++ own ∷ []) x ≡ then_some (b && not false) n =
    λ b is. joins_where (nat_le x.top (slice_index (units ++ own ∷ []) n)) (has members n) n b false (ap (λ (u : ℕ). nat_le x.top u) last ∙ is) outside in
    let places = places_more units own x.top in
    ⊎_elim
    (λ (yes : nat_le x.top own ≡ true).
    let new : places_reaching (units ++ own ∷ []) x.top ≡ places_reaching units x.top ++ n ∷ [] =
    places ∙ ap (λ (b : Bool). places_reaching units x.top ++ (if b then n ∷ [] else [])) yes in
    subst (λ (o : Option ℕ). IsPermutation (places_reaching (units ++ own ∷ []) x.top) (members ++ option_to_list o)) (sym (joins true yes))
    (subst (λ (ps : List ℕ). IsPermutation ps (members ++ n ∷ [])) (sym new)
    (IsPermutation-append_left (n ∷ []) (places_reaching units x.top) members moved)))
    (λ (no : nat_le x.top own ≡ false).
    let new : places_reaching (units ++ own ∷ []) x.top ≡ places_reaching units x.top ++ [] =
    places ∙ ap (λ (b : Bool). places_reaching units x.top ++ (if b then n ∷ [] else [])) no in
    subst (λ (o : Option ℕ). IsPermutation (places_reaching (units ++ own ∷ []) x.top) (members ++ option_to_list o)) (sym (joins false no))
    (subst (λ (ps : List ℕ). IsPermutation ps (members ++ [])) (sym new)
    (IsPermutation-append_left [] (places_reaching units x.top) members moved)))
    (cases_Bool (nat_le x.top own))

-- none of the causes holds
none_refused : (a b c : Bool) → first_refusal ((Size, a) ∷ (TooManyDrives, b) ∷ (TooManyLayers, c) ∷ []) ≡ None → (a ≡ false) × (b ≡ false) × (c ≡ false)
none_refused true b c e = cc e
none_refused false true c e = cc e
none_refused false false true e = cc e
none_refused false false false e = (refl, refl, refl)

pub is_true : (b : Bool) → not b ≡ false → b ≡ true
is_true true e = refl
is_true false e = cc e

-- Where nothing is refused and no work on a new layer is left, a sound book without a plan stays sound with the drive that is added.
pub sound_added : (s t : State) (p : Progress) (own : ℕ) → IsBook s p → IsSoundBook s p → s.plan ≡ Nothing → makes s p.arrays.items ≡ [] →
    first_refusal (add_refusals s p.arrays.items own) ≡ None →
    TakesIn s t (Add (length s.drives.items)) (units_of s ++ own ∷ []) → IsSoundBook t p
sound_added s t p own book sound quiet done refused is =
    let units = units_of s in
    let more = units ++ own ∷ [] in
    let arrays = p.arrays.items in
    let high = height_of arrays in
    let none = none_refused (not (is_fitting units units own)) (nat_le 16 (length s.drives.items) || is_serial_end s) (makes_17th s arrays more) refused in
    let n : length units ≡ length s.drives.items = length-map {A = Drive} s.drives.items (λ drive. drive.units) in
    let P : ℕ → Type 0 = λ own. Contains (map (λ (x : Standing). x.top) (standing arrays)) own ⊎ (high ≤ own) in
    let reached = top_reached s p arrays refl book sound (omega (arith, book.made, one_made s book.valid)) in
    let new : P own =
    fitting_top P units units own (is_true (is_fitting units units own) none.0) sound.tops
    (λ (most : list_all (λ other. nat_le other own) units ≡ true). inr (omega (arith, reached, greatest_of_all units own most))) in
    let count : count_above high more ≤ count_above high units + 1 =
    let here : count_above high (own ∷ []) ≤ 1 = cond_both {A = ℕ} (nat_lt high own) 1 0 (λ k. 0 + k ≤ 1) (λ e. omega arith) (λ e. omega arith) in
    omega (arith, sum_by-append (λ x. cond (nat_lt high x) 1 0) units (own ∷ []), here) in
    sound_by s t p (Add (length s.drives.items)) more is
    (subst (λ (place : ℕ). All (HasMembers (Add place) more) (standing arrays)) n
    (All-weaker (λ x. IsPermutation (places_reaching units x.top) x.now.members.items) (HasMembers (Add (length units)) more)
    (λ x moved. joins_new units own x moved) (standing arrays) (members_now s p quiet sound)))
    (All-push P units own sound.tops new)
    (above_enlisted s p more sound done count none.2)
