-- Whether the parts of a book agree doesn't go by what is missing, nor by rows to resync and to rebuild.
use Rattle.std.proofs.Common.{◌≡◌, ◌⊎◌, ℕ, ◌+◌, ◌≤◌, ◌||◌, nat_lt, nat_le, if◌then◌else◌, List, [], ◌∷◌, ◌++◌, map, count_by, option_to_list, All, Contains, IsPermutation, refl, sym, ap, subst, ◌∙◌}
use Rattle.std.proofs.lemmas.List.Elements.{All-nil, All-cons, All-head, All-tail}
use Rattle.layer_plan.specs.Layering.{places_reaching}
use Rattle.pool_state.specs.declared.contents.Plan.{Plan}
use Rattle.pool_state.specs.declared.contents.State.{State}
use Rattle.growth_plan.specs.declared.ArrayNow.{ArrayNow}
use Rattle.growth_plan.specs.declared.Progress.{Progress}
use Rattle.growth_plan.specs.Book.{Standing, standing_from, standing, units_of, height_of}
use Rattle.growth_plan.specs.Sound.{IsSoundBook}
use Rattle.growth_plan.proofs.GrowthLeft.{grown_so_far, GrowsAlike, joining_with, each_array, heights_same}

-- the members of an array are the drives that reach its top, but for the plan's drive
abbrev pub HasMembers : Plan → List ℕ → Standing → Type 0
HasMembers plan units x = IsPermutation (places_reaching units x.top) (x.now.members.items ++ option_to_list (joining_with plan units x))

cleared : (plan : Plan) (units : List ℕ) (number level : ℕ) (arrays : List ArrayNow) → All (HasMembers plan units) (standing_from number level arrays) →
    All (HasMembers plan units) (standing_from number level (map grown_so_far arrays))
cleared plan units number level [] all = All-nil (HasMembers plan units)
cleared plan units number level (a ∷ above) all =
    All-cons (HasMembers plan units) _ (standing_from (number + 1) (level + a.height) (map grown_so_far above))
    (All-head (HasMembers plan units) _ (standing_from (number + 1) (level + a.height) above) all)
    (cleared plan units (number + 1) (level + a.height) above
    (All-tail (HasMembers plan units) _ (standing_from (number + 1) (level + a.height) above) all))

filled : (plan : Plan) (units : List ℕ) (number level : ℕ) (arrays : List ArrayNow) →
    All (HasMembers plan units) (standing_from number level (map grown_so_far arrays)) → All (HasMembers plan units) (standing_from number level arrays)
filled plan units number level [] all = All-nil (HasMembers plan units)
filled plan units number level (a ∷ above) all =
    All-cons (HasMembers plan units) _ (standing_from (number + 1) (level + a.height) above)
    (All-head (HasMembers plan units) _ (standing_from (number + 1) (level + a.height) (map grown_so_far above)) all)
    (filled plan units (number + 1) (level + a.height) above
    (All-tail (HasMembers plan units) _ (standing_from (number + 1) (level + a.height) (map grown_so_far above)) all))

pub carried : {A B C : Type 0} (f : A → B → C → Type 0) (a b : A) (c d : B) (e g : C) → a ≡ b → c ≡ d → e ≡ g → f a c e → f b d g
carried f a b c d e g x y z h = subst (λ v. f v d g) x (subst (λ v. f a v g) y (subst (λ v. f a c v) z h))

tops_same : (s : State) (p : Progress) (t : State) (q : Progress) → GrowsAlike s p t q →
    map (λ (x : Standing). x.top) (standing p.arrays.items) ≡ map (λ (x : Standing). x.top) (standing q.arrays.items)
tops_same s p t q alike =
    let tops : List ArrayNow → List ℕ = λ arrays. map (λ (x : Standing). x.top) (standing arrays) in
    sym (each_array (λ (x : Standing). x.top) (λ number top a. refl) 0 0 p.arrays.items)
    ∙ ap tops alike.arrays ∙ each_array (λ (x : Standing). x.top) (λ number top a. refl) 0 0 q.arrays.items

-- A sound book stays sound where drives are marked missing, or rows come to be resynced or rebuilt.
pub sound_marks : (s : State) (p : Progress) (t : State) (q : Progress) → GrowsAlike s p t q → IsSoundBook s p → IsSoundBook t q
sound_marks s p t q alike sound =
    let height = heights_same s p t q alike in
    record {
      members =
          filled t.plan (units_of t) 0 0 q.arrays.items
          (carried (λ (plan : Plan) (units : List ℕ) (arrays : List ArrayNow). All (HasMembers plan units) (standing arrays))
          s.plan t.plan (units_of s) (units_of t) (map grown_so_far p.arrays.items) (map grown_so_far q.arrays.items) alike.plan alike.units alike.arrays
          (cleared s.plan (units_of s) 0 0 p.arrays.items sound.members));
      tops =
          carried (λ (tops : List ℕ) (high : ℕ) (units : List ℕ). All (λ own. Contains tops own ⊎ (high ≤ own)) units)
          (map (λ (x : Standing). x.top) (standing p.arrays.items)) (map (λ (x : Standing). x.top) (standing q.arrays.items))
          (height_of p.arrays.items) (height_of q.arrays.items) (units_of s) (units_of t) (tops_same s p t q alike) height alike.units sound.tops;
      above =
          carried (λ (high : ℕ) (units : List ℕ) (most : ℕ). count_by (λ own. nat_lt high own) units ≤ most)
          (height_of p.arrays.items) (height_of q.arrays.items) (units_of s) (units_of t)
          (if nat_lt s.joined s.made || nat_le 16 s.made then 1 else 2) (if nat_lt t.joined t.made || nat_le 16 t.made then 1 else 2)
          height alike.units
          (ap (λ (j : ℕ). if nat_lt j s.made || nat_le 16 s.made then 1 else 2) alike.joined
          ∙ ap (λ (m : ℕ). if nat_lt t.joined m || nat_le 16 m then 1 else 2) alike.made)
          sound.above;
    }
