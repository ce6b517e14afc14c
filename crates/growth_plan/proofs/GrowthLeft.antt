-- The works of growth that are left: all but those on rows to resync and to rebuild, and the plan's end.
use Rattle.std.proofs.Common.{◌≡◌, ℕ, zero, suc, ◌+◌, ◌-◌, ◌*◌, ◌/◌, ◌&&◌, ◌||◌, not, nat_lt, nat_le, if◌then◌else◌, List, [], ◌∷◌, ◌++◌, length, map, sum, slice_get, slice_index, Option, None, is_some, refl, sym, ap, ◌∙◌, append_assoc}
use Rattle.std.specs.Bool.{then_some}
use Rattle.std.specs.List.{flat_map}
use Rattle.std.specs.Option.{option_map_or, option_and_then}
use Rattle.layer_plan.specs.declared.Layer.{Layer}
use Rattle.layer_plan.specs.Slicing.{has}
use Rattle.layer_plan.proofs.Sums.{sum_by-map}
use Rattle.pool_state.specs.declared.contents.Plan.{Plan}
use Rattle.pool_state.specs.declared.contents.State.{State}
use Rattle.pool_state.specs.declared.contents.Work.{Work}
use Rattle.pool_state.specs.declared.contents.Work.TheVariants.{Make, Extend, Close}
use Rattle.growth_plan.specs.declared.ArrayNow.{ArrayNow}
use Rattle.growth_plan.specs.declared.Progress.{Progress}
use Rattle.growth_plan.specs.Book.{Standing, standing_from, standing, units_of, height_of}
use Rattle.growth_plan.specs.Target.{planned, layer_above, targets}
use Rattle.growth_plan.specs.Works.{resyncs, rebuilds, growths_by, growths, zeros, makes, extends, closes, works_left}

-- what is left to take the plan's drive into the arrays, of a new layer, and of the volume's extension
abbrev pub growth_left : State → Progress → List Work
growth_left s p = flat_map (growths s) (standing p.arrays.items) ++ (makes s p.arrays.items ++ extends s p)

-- the rows that are left to resync and to rebuild
abbrev pub rows_left : State → Progress → List Work
rows_left s p = flat_map resyncs (standing p.arrays.items) ++ flat_map (rebuilds s) (standing p.arrays.items)

-- an array but for its rows to resync and to rebuild
abbrev pub grown_so_far : ArrayNow → ArrayNow
grown_so_far a = record a { resync = 0; rebuild = 0; rebuilding = 0 }

-- Two books that stand alike but for that, whatever is missing in them.
pub record GrowsAlike (s : State) (p : Progress) (t : State) (q : Progress) : Type 0 where
  pub units : units_of s ≡ units_of t
  pub plan : s.plan ≡ t.plan
  pub extent : s.extent ≡ t.extent
  pub made : s.made ≡ t.made
  pub joined : s.joined ≡ t.joined
  pub arrays : map grown_so_far p.arrays.items ≡ map grown_so_far q.arrays.items
  pub extents : p.extents ≡ q.extents

-- ---- they rest on that alone

abbrev pub joining_with : Plan → List ℕ → Standing → Option ℕ
joining_with plan units x =
    option_and_then (λ place. then_some (nat_le x.top (slice_index units place) && not (has x.now.members.items place)) place) (planned plan)

abbrev ends_with_plan : Plan → List ℕ → Standing → ℕ
ends_with_plan plan units x = (length x.now.members.items + (if is_some (joining_with plan units x) then 1 else 0) - 1) * x.now.height

abbrev layer_with : List ℕ → ℕ → ℕ → ℕ → Option Layer
layer_with units made joined height = if nat_lt joined made || nat_le 16 made then None else layer_above units height

abbrev zero_in : List ArrayNow → ℕ → ℕ
zero_in arrays i = option_map_or (λ (a : ArrayNow). a.zero) (slice_get arrays i) 0

abbrev growths_with : Plan → List ℕ → List ArrayNow → List Work
growths_with plan units arrays = flat_map (λ x. growths_by (joining_with plan units x) x) (standing arrays)

abbrev makes_with : List ℕ → ℕ → ℕ → ℕ → ℕ → ℕ → List Work
makes_with units extent made joined rows height =
    if nat_lt joined made then zeros joined rows
    else option_map_or (λ layer. Make made layer.height ∷ zeros made ((layer.height * extent + 2048) / 128)) (layer_with units made joined height) []

abbrev targets_with : List ℕ → List ℕ → ℕ → ℕ → ℕ → List ℕ
targets_with ends units made joined height = ends ++ option_map_or (λ layer. layer.extents ∷ []) (layer_with units made joined height) []

-- what an array brings whatever its rows to resync and to rebuild
pub each_array : {X : Type 0} (f : Standing → X) → ((number top : ℕ) (a : ArrayNow) →
    f (record { number = number; top = top; now = grown_so_far a }) ≡ f (record { number = number; top = top; now = a })) →
    (number level : ℕ) (arrays : List ArrayNow) → map f (standing_from number level (map grown_so_far arrays)) ≡ map f (standing_from number level arrays)
each_array f one number level [] = refl
each_array {X = X} f one number level (a ∷ above) =
    ap (λ (x : X). x ∷ map f (standing_from (number + 1) (level + a.height) (map grown_so_far above))) (one number (level + a.height) a)
    ∙ ap (λ (xs : List X). f (record { number = number; top = level + a.height; now = a }) ∷ xs) (each_array f one (number + 1) (level + a.height) above)

all_arrays : {X : Type 0} (f : Standing → List X) → ((number top : ℕ) (a : ArrayNow) →
    f (record { number = number; top = top; now = grown_so_far a }) ≡ f (record { number = number; top = top; now = a })) →
    (number level : ℕ) (arrays : List ArrayNow) →
    flat_map f (standing_from number level (map grown_so_far arrays)) ≡ flat_map f (standing_from number level arrays)
all_arrays f one number level [] = refl
all_arrays {X = X} f one number level (a ∷ above) =
    ap (λ (xs : List X). xs ++ flat_map f (standing_from (number + 1) (level + a.height) (map grown_so_far above))) (one number (level + a.height) a)
    ∙ ap (λ (xs : List X). f (record { number = number; top = level + a.height; now = a }) ++ xs) (all_arrays f one (number + 1) (level + a.height) above)

zero_same : (arrays : List ArrayNow) (i : ℕ) → zero_in (map grown_so_far arrays) i ≡ zero_in arrays i
zero_same [] i = refl
zero_same (a ∷ above) zero = refl
zero_same (a ∷ above) (suc i) = zero_same above i

height_same : (arrays : List ArrayNow) → height_of (map grown_so_far arrays) ≡ height_of arrays
height_same arrays = sum_by-map (λ (a : ArrayNow). a.height) grown_so_far arrays

three : (f : Plan → List ℕ → List ArrayNow → List Work) (a b : Plan) (c d : List ℕ) (e g : List ArrayNow) →
    a ≡ b → c ≡ d → e ≡ g → f a c e ≡ f b d g
three f a b c d e g x y z = cc

three_ends : (f : Plan → List ℕ → List ArrayNow → List ℕ) (a b : Plan) (c d : List ℕ) (e g : List ArrayNow) →
    a ≡ b → c ≡ d → e ≡ g → f a c e ≡ f b d g
three_ends f a b c d e g x y z = cc

five_of : (f : List ℕ → List ℕ → ℕ → ℕ → ℕ → List ℕ) (a b c d : List ℕ) (e g h i j k : ℕ) →
    a ≡ b → c ≡ d → e ≡ g → h ≡ i → j ≡ k → f a c e h j ≡ f b d g i k
five_of f a b c d e g h i j k v w x y z = cc

six_of : (f : List ℕ → ℕ → ℕ → ℕ → ℕ → ℕ → List Work) (a b : List ℕ) (c d e g h i j k l m : ℕ) →
    a ≡ b → c ≡ d → e ≡ g → h ≡ i → j ≡ k → l ≡ m → f a c e h j l ≡ f b d g i k m
six_of f a b c d e g h i j k l m u v w x y z = cc

-- ---- so they are the same in both books

-- The same is left to take the plan's drive into the arrays.
pub growths_same : (s : State) (p : Progress) (t : State) (q : Progress) → GrowsAlike s p t q →
    flat_map (growths s) (standing p.arrays.items) ≡ flat_map (growths t) (standing q.arrays.items)
growths_same s p t q alike =
    sym (all_arrays (growths s) (λ number top a. refl) 0 0 p.arrays.items)
    ∙ three growths_with s.plan t.plan (units_of s) (units_of t) (map grown_so_far p.arrays.items) (map grown_so_far q.arrays.items) alike.plan alike.units alike.arrays
    ∙ all_arrays (growths t) (λ number top a. refl) 0 0 q.arrays.items

-- All arrays are as high.
pub heights_same : (s : State) (p : Progress) (t : State) (q : Progress) → GrowsAlike s p t q → height_of p.arrays.items ≡ height_of q.arrays.items
heights_same s p t q alike =
    sym (height_same p.arrays.items) ∙ ap (λ (xs : List ArrayNow). height_of xs) alike.arrays ∙ height_same q.arrays.items

zeros_same : (s : State) (p : Progress) (t : State) (q : Progress) → GrowsAlike s p t q → zero_in p.arrays.items s.joined ≡ zero_in q.arrays.items t.joined
zeros_same s p t q alike =
    sym (zero_same p.arrays.items s.joined) ∙ ap (λ (xs : List ArrayNow). zero_in xs s.joined) alike.arrays ∙ zero_same q.arrays.items s.joined
    ∙ ap (λ (i : ℕ). zero_in q.arrays.items i) alike.joined

-- The same is left of a new layer.
pub makes_same : (s : State) (p : Progress) (t : State) (q : Progress) → GrowsAlike s p t q → makes s p.arrays.items ≡ makes t q.arrays.items
makes_same s p t q alike =
    six_of makes_with (units_of s) (units_of t) s.extent t.extent s.made t.made s.joined t.joined
    (zero_in p.arrays.items s.joined) (zero_in q.arrays.items t.joined) (height_of p.arrays.items) (height_of q.arrays.items)
    alike.units alike.extent alike.made alike.joined (zeros_same s p t q alike) (heights_same s p t q alike)

-- The arrays offer the same at the plan's end.
pub targets_alike : (s : State) (p : Progress) (t : State) (q : Progress) → GrowsAlike s p t q → targets s p.arrays.items ≡ targets t q.arrays.items
targets_alike s p t q alike =
    let ends : Plan → List ℕ → List ArrayNow → List ℕ = λ plan units arrays. map (ends_with_plan plan units) (standing arrays) in
    let same : ends s.plan (units_of s) p.arrays.items ≡ ends t.plan (units_of t) q.arrays.items =
    sym (each_array (ends_with_plan s.plan (units_of s)) (λ number top a. refl) 0 0 p.arrays.items)
    ∙ three_ends ends s.plan t.plan (units_of s) (units_of t) (map grown_so_far p.arrays.items) (map grown_so_far q.arrays.items) alike.plan alike.units alike.arrays
    ∙ each_array (ends_with_plan t.plan (units_of t)) (λ number top a. refl) 0 0 q.arrays.items in
    five_of targets_with (ends s.plan (units_of s) p.arrays.items) (ends t.plan (units_of t) q.arrays.items) (units_of s) (units_of t) s.made t.made s.joined t.joined
    (height_of p.arrays.items) (height_of q.arrays.items) same alike.units alike.made alike.joined (heights_same s p t q alike)

-- The volume has as much left to gain.
pub extends_same : (s : State) (p : Progress) (t : State) (q : Progress) → GrowsAlike s p t q → extends s p ≡ extends t q
extends_same s p t q alike =
    ap (λ (n : ℕ). if nat_lt n (sum (targets s p.arrays.items)) then Extend ∷ [] else []) alike.extents
    ∙ ap (λ (ns : List ℕ). if nat_lt q.extents (sum ns) then Extend ∷ [] else []) (targets_alike s p t q alike)

-- The same works of growth are left.
pub growth_same : (s : State) (p : Progress) (t : State) (q : Progress) → GrowsAlike s p t q → growth_left s p ≡ growth_left t q
growth_same s p t q alike =
    ap (λ (ws : List Work). ws ++ (makes s p.arrays.items ++ extends s p)) (growths_same s p t q alike)
    ∙ ap (λ (ws : List Work). flat_map (growths t) (standing q.arrays.items) ++ (ws ++ extends s p)) (makes_same s p t q alike)
    ∙ ap (λ (ws : List Work). flat_map (growths t) (standing q.arrays.items) ++ (makes t q.arrays.items ++ ws)) (extends_same s p t q alike)

-- All works that are left are those on rows, those of growth, and the plan's end.
pub left_parts : (s : State) (p : Progress) → works_left s p ≡ rows_left s p ++ (growth_left s p ++ closes s)
left_parts s p =
    let r = flat_map resyncs (standing p.arrays.items) in
    let b = flat_map (rebuilds s) (standing p.arrays.items) in
    let g = flat_map (growths s) (standing p.arrays.items) in
    let m = makes s p.arrays.items in
    let e = extends s p in
    sym (append_assoc r b ((g ++ (m ++ e)) ++ closes s)
    ∙ ap (λ (ws : List Work). r ++ (b ++ ws)) (append_assoc g (m ++ e) (closes s) ∙ ap (λ (ws : List Work). g ++ ws) (append_assoc m e (closes s))))

-- So of two books that stand alike the works differ in those on rows alone.
pub left_alike : (s : State) (p : Progress) (t : State) (q : Progress) → GrowsAlike s p t q →
    works_left t q ≡ rows_left t q ++ (growth_left s p ++ closes s)
left_alike s p t q alike =
    left_parts t q ∙ ap (λ (ws : List Work). rows_left t q ++ (ws ++ closes t)) (sym (growth_same s p t q alike))
    ∙ ap (λ (plan : Plan). rows_left t q ++ (growth_left s p ++ (if is_some (planned plan) then Close ∷ [] else []))) (sym alike.plan)
