-- A book whose parts agree keeps them so by each work that is the first of those left.
use Rattle.std.proofs.Common.{◌≡◌, ◌⊎◌, ℕ, ◌+◌, ◌≤◌, ◌||◌, true, nat_lt, nat_le, if◌then◌else◌, List, [], ◌∷◌, ◌++◌, length, map, option_to_list, get_or, Option, Some, None, All, Contains, IsPermutation, inl, inr, refl, sym, ap, subst, ◌∙◌, arith, ⊎_elim, append-nil, zero-add}
use Rattle.std.specs.List.{flat_map}
use Rattle.std.specs.Option.{option_map_or}
use Rattle.std.proofs.lemmas.Bool.{cond_both, cond-true, lt-ltb, or_left}
use Rattle.std.proofs.lemmas.List.Concat.{flat_map_single}
use Rattle.std.proofs.lemmas.List.{map-append}
use Rattle.std.proofs.lemmas.List.Elements.{All-nil, All-cons, All-head, All-tail, All-push, Contains-append_left}
use Rattle.std.proofs.lemmas.List.Sorted.{IsPermutation-refl, IsPermutation-trans}
use Rattle.std.proofs.lemmas.List.Sums.{sum_by-append, sum_by-cons}
use Rattle.layer_plan.specs.declared.Layer.{Layer}
use Rattle.layer_plan.specs.Layering.{places_reaching}
use Rattle.layer_plan.proofs.CutPoints.{contains_first, contains_later}
use Rattle.pool_state.specs.declared.contents.Plan.TheVariants.{Nothing}
use Rattle.pool_state.specs.declared.contents.State.{State}
use Rattle.pool_state.specs.declared.contents.Work.{Work}
use Rattle.growth_plan.specs.declared.ArrayNow.{ArrayNow}
use Rattle.growth_plan.specs.declared.Progress.{Progress}
use Rattle.growth_plan.specs.Book.{IsBook, Standing, standing_from, standing, units_of, height_of}
use Rattle.growth_plan.specs.Target.{joining, new_layer}
use Rattle.growth_plan.specs.Works.{reshapes, joins, growths, works_left}
use Rattle.growth_plan.specs.Doing.{Book, after, new_array}
use Rattle.growth_plan.specs.Sound.{IsSoundBook, ends_with}
use Rattle.growth_plan.proofs.Above.{count_above}
use Rattle.growth_plan.proofs.Books.{few_arrays}
use Rattle.growth_plan.proofs.EndDone.{joins_some}
use Rattle.growth_plan.proofs.FirstWork.{ChangesOne, First, one_array, make, ready, extend, close, first_is}
use Rattle.growth_plan.proofs.Greatest.{least_from, one_fewer, count_few, one_made}
use Rattle.growth_plan.proofs.Heads.{both_nil}
use Rattle.growth_plan.proofs.MakeDone.{cut_is, make_idle}
use Rattle.growth_plan.proofs.OneArray.{put}
use Rattle.growth_plan.proofs.Parts.{at, above_it, swapped, height-swapped}
use Rattle.growth_plan.proofs.SoundAlike.{carried}
use Rattle.growth_plan.proofs.Standings.{standing-append}

-- ---- one array is changed

-- what stands below an array, it, and what stands above it
pub standing_at : (below above : List ArrayNow) (x : ArrayNow) → standing (below ++ x ∷ above) ≡ standing below ++ at below x ∷ above_it below x above
standing_at below above x =
    standing-append 0 0 below (x ∷ above)
    ∙ ap (λ (n : ℕ). standing below ++ standing_from n (0 + height_of below) (x ∷ above)) (zero-add (length below))
    ∙ ap (λ (l : ℕ). standing below ++ standing_from (length below) l (x ∷ above)) (zero-add (height_of below))

-- what holds of all holds after a change of one, where it holds of that
all_but_one : (P : Standing → Type 0) (xs ys : List Standing) (a b : Standing) → (P a → P b) → All P (xs ++ a ∷ ys) → All P (xs ++ b ∷ ys)
all_but_one P [] ys a b one all = All-cons P b ys (one (All-head P a ys all)) (All-tail P a ys all)
all_but_one P (x ∷ xs) ys a b one all =
    All-cons P x (xs ++ b ∷ ys) (All-head P x (xs ++ a ∷ ys) all) (all_but_one P xs ys a b one (All-tail P x (xs ++ a ∷ ys) all))

all_changed : (P : Standing → Type 0) (below above : List ArrayNow) (x y : ArrayNow) → y.height ≡ x.height → (P (at below x) → P (at below y)) →
    All P (standing (below ++ x ∷ above)) → All P (standing (below ++ y ∷ above))
all_changed P below above x y level one all =
    let rest : above_it below y above ≡ above_it below x above = ap (λ (h : ℕ). standing_from (length below + 1) (height_of below + h) above) level in
    let before : All P (standing below ++ at below x ∷ above_it below x above) = subst (λ (xs : List Standing). All P xs) (standing_at below above x) all in
    let behind : All P (standing below ++ at below y ∷ above_it below x above) =
    all_but_one P (standing below) (above_it below x above) (at below x) (at below y) one before in
    subst (λ (xs : List Standing). All P xs)
    (ap (λ (ys : List Standing). standing below ++ at below y ∷ ys) (sym rest) ∙ sym (standing_at below above y)) behind

tops_changed : (below above : List ArrayNow) (x y : ArrayNow) → y.height ≡ x.height →
    map (λ (z : Standing). z.top) (standing (below ++ y ∷ above)) ≡ map (λ (z : Standing). z.top) (standing (below ++ x ∷ above))
tops_changed below above x y level =
    sym (flat_map_single (λ (z : Standing). z.top) (standing (below ++ y ∷ above)))
    ∙ swapped (λ (z : Standing). z.top ∷ []) below above x y level (ap (λ (h : ℕ). (height_of below + h) ∷ []) level)
    ∙ flat_map_single (λ (z : Standing). z.top) (standing (below ++ x ∷ above))

sound_one : (s : State) (p : Progress) (w : Work) (it : ChangesOne s p w) → IsSoundBook s p → IsSoundBook s (put p (it.below ++ it.new ∷ it.above))
sound_one s p w it sound =
    let below = it.below in
    let x = it.old in
    let y = it.new in
    let news = below ++ y ∷ it.above in
    let P : Standing → Type 0 = λ z. IsPermutation (places_reaching (units_of s) z.top) (ends_with s z) in
    let height : height_of p.arrays.items ≡ height_of news =
    ap (λ (xs : List ArrayNow). height_of xs) it.arrays_are ∙ sym (height-swapped below it.above x y it.level) in
    let tops : map (λ (z : Standing). z.top) (standing p.arrays.items) ≡ map (λ (z : Standing). z.top) (standing news) =
    ap (λ (xs : List ArrayNow). map (λ (z : Standing). z.top) (standing xs)) it.arrays_are ∙ sym (tops_changed below it.above x y it.level) in
    let here : P (at below x) → P (at below y) = λ old.
    IsPermutation-trans (places_reaching (units_of s) (at below y).top) (ends_with s (at below x)) (ends_with s (at below y))
    (subst (λ (h : ℕ). IsPermutation (places_reaching (units_of s) (height_of below + h)) (ends_with s (at below x))) (sym it.level) old) it.members in
    record {
      members =
          all_changed P below it.above x y it.level here (subst (λ (xs : List ArrayNow). All P (standing xs)) it.arrays_are sound.members);
      tops =
          carried (λ (ts : List ℕ) (high : ℕ) (units : List ℕ). All (λ own. Contains ts own ⊎ (high ≤ own)) units)
          _ _ (height_of p.arrays.items) (height_of news) (units_of s) (units_of s) tops height refl sound.tops;
      above = subst (λ (high : ℕ). count_above high (units_of s) ≤ (if nat_lt s.joined s.made || nat_le 16 s.made then 1 else 2)) height sound.above;
    }

-- ---- a new array

-- the highest top is the height of all
pub highest : (number level : ℕ) (arrays : List ArrayNow) → 1 ≤ length arrays →
    Contains (map (λ (z : Standing). z.top) (standing_from number level arrays)) (level + height_of arrays)
highest number level [] some = absurd (omega arith)
highest number level (a ∷ []) some =
    let same : level + a.height ≡ level + height_of (a ∷ []) = omega (arith, sum_by-cons (λ (x : ArrayNow). x.height) a []) in
    subst (λ (top : ℕ). Contains ((level + a.height) ∷ []) top) same (contains_first (level + a.height) [])
highest number level (a ∷ b ∷ above) some =
    let same : level + a.height + height_of (b ∷ above) ≡ level + height_of (a ∷ b ∷ above) =
    omega (arith, sum_by-cons (λ (x : ArrayNow). x.height) a (b ∷ above)) in
    let tops = map (λ (z : Standing). z.top) (standing_from (number + 1) (level + a.height) (b ∷ above)) in
    subst (λ (top : ℕ). Contains ((level + a.height) ∷ tops) top) same
    (contains_later (level + a.height) (level + a.height + height_of (b ∷ above)) tops (highest (number + 1) (level + a.height) (b ∷ above) (omega arith)))

sound_make : (s : State) (p : Progress) (layer : Layer) → IsBook s p → IsSoundBook s p → new_layer s p.arrays.items ≡ Some layer →
    IsSoundBook (record s { made = s.made + 1 }) (put p (p.arrays.items ++ new_array s p.arrays.items layer.height ∷ []))
sound_make s p layer book sound found =
    let arrays = p.arrays.items in
    let units = units_of s in
    let made : State = record s { made = s.made + 1 } in
    let x = new_array s arrays layer.height in
    let news = arrays ++ x ∷ [] in
    let high = height_of arrays in
    let cut = cut_is s arrays layer found in
    let P : Standing → Type 0 = λ z. IsPermutation (places_reaching units z.top) (ends_with made z) in
    let is : standing news ≡ standing arrays ++ at arrays x ∷ [] = standing_at arrays [] x in
    let height : height_of news ≡ cut.cut =
    omega (arith, cut.top, sum_by-append (λ (a : ArrayNow). a.height) arrays (x ∷ []), sum_by-cons (λ (a : ArrayNow). a.height) x []) in
    let new : P (at arrays x) =
    subst (λ (ps : List ℕ). IsPermutation (places_reaching units (high + layer.height)) ps)
    (sym (ap (λ (o : Option ℕ). places_reaching units (high + layer.height) ++ option_to_list o) (make_idle s arrays layer found)
    ∙ append-nil (places_reaching units (high + layer.height))))
    (IsPermutation-refl (places_reaching units (high + layer.height))) in
    let tops : map (λ (z : Standing). z.top) (standing news) ≡ map (λ (z : Standing). z.top) (standing arrays) ++ (high + layer.height) ∷ [] =
    ap (λ (xs : List Standing). map (λ (z : Standing). z.top) xs) is ∙ map-append (λ (z : Standing). z.top) (standing arrays) (at arrays x ∷ []) in
    let old = map (λ (z : Standing). z.top) (standing arrays) in
    let below : (own : ℕ) → Contains old own → Contains (map (λ (z : Standing). z.top) (standing news)) own =
    λ own there. subst (λ (ts : List ℕ). Contains ts own) (sym tops) (Contains-append_left old ((high + layer.height) ∷ []) own there) in
    let past = least_from high cut.cut units (λ least e. let same : cut.cut ≡ least = cc (e, cut.least) in omega arith) in
    let last : Contains old high =
    subst (λ (top : ℕ). Contains old top) (zero-add high) (highest 0 0 arrays (omega (arith, book.made, one_made s book.valid))) in
    let ends : (own : ℕ) → Contains old own ⊎ (high ≤ own) → (own ≤ high) ⊎ (cut.cut ≤ own) →
    Contains (map (λ (z : Standing). z.top) (standing news)) own ⊎ (height_of news ≤ own) =
    λ own before least. ⊎_elim
    (λ (there : Contains old own). inl (below own there))
    (λ (over : high ≤ own). ⊎_elim
    (λ (low : own ≤ high). let same : high ≡ own = omega arith in inl (below own (subst (λ (k : ℕ). Contains old k) same last)))
    (λ (reaches : cut.cut ≤ own). inr (omega (arith, height)))
    least)
    before in
    let fewer = one_fewer high cut.cut units cut.above cut.among in
    let young : nat_lt s.joined (s.made + 1) ≡ true = lt-ltb s.joined (s.made + 1) (omega (arith, (few_arrays s book.valid).1)) in
    let limit : (if nat_lt s.joined (s.made + 1) || nat_le 16 (s.made + 1) then 1 else 2) ≡ 1 =
    cond-true {A = ℕ} (nat_lt s.joined (s.made + 1) || nat_le 16 (s.made + 1)) 1 2 (or_left (nat_lt s.joined (s.made + 1)) (nat_le 16 (s.made + 1)) young) in
    record {
      members = subst (λ (xs : List Standing). All P xs) (sym is) (All-push P (standing arrays) (at arrays x) sound.members new);
      tops = λ k d h. ends (get_or units k d) (sound.tops k d h) (past k d h);
      above =
          subst (λ (top : ℕ). count_above top units ≤ (if nat_lt s.joined (s.made + 1) || nat_le 16 (s.made + 1) then 1 else 2)) (sym height)
          (omega (arith, limit, fewer, count_few s p sound));
    }

-- ---- a new array is ready, and the end

sound_ready : (s : State) (p : Progress) → nat_lt s.joined s.made ≡ true → IsSoundBook s p → IsSoundBook (record s { joined = s.made }) p
sound_ready s p young sound =
    let before : (if nat_lt s.joined s.made || nat_le 16 s.made then 1 else 2) ≡ 1 =
    cond-true {A = ℕ} (nat_lt s.joined s.made || nat_le 16 s.made) 1 2 (or_left (nat_lt s.joined s.made) (nat_le 16 s.made) young) in
    record {
      members = sound.members;
      tops = sound.tops;
      above =
          cond_both {A = ℕ} (nat_lt s.made s.made || nat_le 16 s.made) 1 2 (λ most. count_above (height_of p.arrays.items) (units_of s) ≤ most)
          (λ e. omega (arith, sound.above, before)) (λ e. omega (arith, sound.above, before));
    }

-- where no array has anything left to take in, no drive has still to join one
none_to_join : (s : State) (xs : List Standing) → flat_map (growths s) xs ≡ [] → All (λ x. joining s x ≡ None) xs
none_to_join s [] e = All-nil (λ x. joining s x ≡ None)
none_to_join s (x ∷ xs) e =
    let parts = both_nil (growths s x) (flat_map (growths s) xs) e in
    let own = both_nil (if x.now.reshaping then reshapes x.number x.now.reshape else []) (option_map_or (joins x) (joining s x) []) parts.0 in
    All-cons (λ y. joining s y ≡ None) x xs (joins_some x (joining s x) own.1) (none_to_join s xs parts.1)

sound_close : (s : State) (p : Progress) → flat_map (growths s) (standing p.arrays.items) ≡ [] → IsSoundBook s p → IsSoundBook (record s { plan = Nothing }) p
sound_close s p grown sound =
    let xs = standing p.arrays.items in
    let none = none_to_join s xs grown in
    record {
      members = λ k d h. subst
          (λ (o : Option ℕ). IsPermutation (places_reaching (units_of s) (get_or xs k d).top) ((get_or xs k d).now.members.items ++ option_to_list o))
          (none k d h) (sound.members k d h);
      tops = sound.tops;
      above = sound.above;
    }

-- ---- all works

by_first : (s : State) (p : Progress) (w : Work) → IsBook s p → IsSoundBook s p → First s p w → IsSoundBook (after w s p).state (after w s p).progress
by_first s p w book sound (one_array it) = subst (λ (b : Book). IsSoundBook b.state b.progress) (sym it.does) (sound_one s p w it sound)
by_first s p w book sound (make layer is found) =
    subst (λ (v : Work). IsSoundBook (after v s p).state (after v s p).progress) (sym is) (sound_make s p layer book sound found)
by_first s p w book sound (ready is young) =
    subst (λ (v : Work). IsSoundBook (after v s p).state (after v s p).progress) (sym is) (sound_ready s p young sound)
by_first s p w book sound (extend is) =
    subst (λ (v : Work). IsSoundBook (after v s p).state (after v s p).progress) (sym is)
    (record { members = sound.members; tops = sound.tops; above = sound.above })
by_first s p w book sound (close is grown made) =
    subst (λ (v : Work). IsSoundBook (after v s p).state (after v s p).progress) (sym is) (sound_close s p grown sound)

-- A sound book stays sound by the first of the works that are left.
pub sound_after : (s : State) (p : Progress) (w : Work) (rest : List Work) → IsBook s p → IsSoundBook s p → works_left s p ≡ w ∷ rest →
    IsSoundBook (after w s p).state (after w s p).progress
sound_after s p w rest book sound e = by_first s p w book sound (first_is s p w rest e)
