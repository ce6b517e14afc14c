-- The volume is extended and the plan closed last: where one of these is the first of the works that are left, no earlier one is left.
use Rattle.std.proofs.Common.{◌≡◌, ℕ, ◌<◌, ◌≤◌, ◌==◌, Bool, true, false, nat_lt, if◌then◌else◌, List, [], ◌∷◌, ◌++◌, length, replicate, is_some, slice_get, sum, Option, Some, refl, sym, ap, ◌∙◌, arith, ⊎_elim, append_assoc}
use Rattle.std.specs.List.{flat_map}
use Rattle.std.proofs.lemmas.Bool.{cases_Bool, cases_lt, cond-true, lt-ltb}
use Rattle.std.proofs.lemmas.List.{length-append, nil_from_length}
use Rattle.pool_state.specs.declared.contents.State.{State}
use Rattle.pool_state.specs.declared.contents.Work.{Work}
use Rattle.pool_state.specs.declared.contents.Work.TheVariants.{Resync, Rebuild, TakeOver, Begin, Reshape, Finish, Make, Zero, Ready, Extend, Close}
use Rattle.growth_plan.specs.declared.Progress.{Progress}
use Rattle.growth_plan.specs.Book.{Standing, standing}
use Rattle.growth_plan.specs.Target.{joining, planned, targets}
use Rattle.growth_plan.specs.Works.{resyncs, rebuilt, rebuilds, rebuilds_on, growths, makes, extends, closes, works_left}
use Rattle.growth_plan.proofs.Beginning.{BeginsNot, copies_early, each_early, either_early, growths_early, is_growing, makes_early, maybe_early, none_early}

-- the last works of all
abbrev is_end : Work → Bool
is_end (Resync n) = false
is_end (Rebuild n place) = false
is_end (TakeOver n) = false
is_end (Begin n place) = false
is_end (Reshape n) = false
is_end (Finish n) = false
is_end (Make n height) = false
is_end (Zero n) = false
is_end (Ready n) = false
is_end Extend = true
is_end Close = true

-- none is one of a growth
growth_early : (w : Work) → is_growing w ≡ true → is_end w ≡ false
growth_early (Resync n) growing = refl
growth_early (Rebuild n place) growing = refl
growth_early (TakeOver n) growing = refl
growth_early (Begin n place) growing = refl
growth_early (Reshape n) growing = refl
growth_early (Finish n) growing = refl
growth_early (Make n height) growing = refl
growth_early (Zero n) growing = refl
growth_early (Ready n) growing = refl
growth_early Extend growing = cc growing
growth_early Close growing = cc growing

rebuilds_early : (place : Option ℕ) (x : Standing) → BeginsNot is_end (rebuilds_on place x)
rebuilds_early place x =
    maybe_early is_end (λ p. if x.now.rebuilding == p then replicate x.now.rebuild (Rebuild x.number p) else []) place
    (λ p. either_early is_end (x.now.rebuilding == p) (replicate x.now.rebuild (Rebuild x.number p)) [] (copies_early is_end x.now.rebuild (Rebuild x.number p) refl) (none_early is_end))

-- ---- all works

-- where they begin with one of the last works, only these are left
abbrev AreEnds : List Work → List Work → Type 0
AreEnds ends works = (w : Work) → slice_get works 0 ≡ Some w → is_end w ≡ true → works ≡ ends

behind : (ends xs ys : List Work) → BeginsNot is_end xs → AreEnds ends ys → AreEnds ends (xs ++ ys)
behind ends [] ys early rest = rest
behind ends (x ∷ xs) ys early rest = λ w first last. cc (early w first, last)

ends_alone : (s : State) (p : Progress) → AreEnds (extends s p ++ closes s) (works_left s p)
ends_alone s p =
    let arrays = standing p.arrays.items in
    let r = flat_map resyncs arrays in
    let b = flat_map (rebuilds s) arrays in
    let g = flat_map (growths s) arrays in
    let m = makes s p.arrays.items in
    let e = extends s p ++ closes s in
    behind e r (b ++ (g ++ (m ++ e))) (each_early is_end resyncs arrays (λ x. copies_early is_end x.now.resync (Resync x.number) refl))
    (behind e b (g ++ (m ++ e)) (each_early is_end (rebuilds s) arrays (rebuilds_early (rebuilt s)))
    (behind e g (m ++ e) (each_early is_end (growths s) arrays (λ x. growths_early is_end growth_early (joining s x) x))
    (behind e m e (makes_early is_end growth_early s p.arrays.items) (λ w first last. refl))))

-- the two of them
close_of : (b c : Bool) → slice_get ((if b then Extend ∷ [] else []) ++ (if c then Close ∷ [] else [])) 0 ≡ Some Close →
    (if b then Extend ∷ [] else []) ++ (if c then Close ∷ [] else []) ≡ Close ∷ []
close_of true c first = cc first
close_of false true first = refl
close_of false false first = cc first

extend_of : (b : Bool) (works : List Work) → (slice_get works 0 ≡ Some Extend → ⊥) → slice_get ((if b then Extend ∷ [] else []) ++ works) 0 ≡ Some Extend →
    (if b then Extend ∷ [] else []) ++ works ≡ Extend ∷ works
extend_of true works other first = refl
extend_of false works other first = absurd (other first)

no_extend : (c : Bool) → slice_get (if c then Close ∷ [] else []) 0 ≡ Some Extend → ⊥
no_extend true first = cc first
no_extend false first = cc first

-- Where the plan's end is the first work that is left, nothing else is left.
pub close_alone : (s : State) (p : Progress) → slice_get (works_left s p) 0 ≡ Some Close → works_left s p ≡ Close ∷ []
close_alone s p first =
    let ends = ends_alone s p Close first refl in
    ends
    ∙ close_of (nat_lt p.extents (sum (targets s p.arrays.items))) (is_some (planned s.plan))
    (ap (λ (ws : List Work). slice_get ws 0) (sym ends) ∙ first)

-- Where the volume's extension is the first, only the plan's end follows.
pub extend_last : (s : State) (p : Progress) → slice_get (works_left s p) 0 ≡ Some Extend → works_left s p ≡ Extend ∷ closes s
extend_last s p first =
    let ends = ends_alone s p Extend first refl in
    ends
    ∙ extend_of (nat_lt p.extents (sum (targets s p.arrays.items))) (closes s) (no_extend (is_some (planned s.plan)))
    (ap (λ (ws : List Work). slice_get ws 0) (sym ends) ∙ first)

-- ---- one work at most

-- Where at most one work is left, the volume has all that the arrays offer. Without a plan it has so beforehand.
pub last_works : (s : State) (p : Progress) → (is_some (planned s.plan) ≡ false → sum (targets s p.arrays.items) ≤ p.extents) →
    length (works_left s p) ≤ 1 → sum (targets s p.arrays.items) ≤ p.extents
last_works s p closed few =
    let arrays = standing p.arrays.items in
    let r = flat_map resyncs arrays in
    let b = flat_map (rebuilds s) arrays in
    let g = flat_map (growths s) arrays in
    let m = makes s p.arrays.items in
    let total = sum (targets s p.arrays.items) in
    ⊎_elim
    (λ (more : p.extents < total).
    let extend = ap (λ (ws : List Work). length ws) (cond-true {A = List Work} (nat_lt p.extents total) (Extend ∷ []) [] (lt-ltb p.extents total more)) in
    let pending = ⊎_elim (λ (yes : is_some (planned s.plan) ≡ true). yes)
    (λ (no : is_some (planned s.plan) ≡ false). absurd (omega (arith, more, closed no))) (cases_Bool (is_some (planned s.plan))) in
    let close = ap (λ (ws : List Work). length ws) (cond-true {A = List Work} (is_some (planned s.plan)) (Close ∷ []) [] pending) in
    absurd (omega (
      arith,
      few,
      extend,
      close,
      length-append r (b ++ (g ++ (m ++ (extends s p ++ closes s)))),
      length-append b (g ++ (m ++ (extends s p ++ closes s))),
      length-append g (m ++ (extends s p ++ closes s)),
      length-append m (extends s p ++ closes s),
      length-append (extends s p) (closes s),
    )))
    (λ (all : total ≤ p.extents). all)
    (cases_lt p.extents total)

-- A plan's last work is its end.
pub last_closes : (s : State) (p : Progress) → is_some (planned s.plan) ≡ true → length (works_left s p) ≤ 1 → works_left s p ≡ Close ∷ []
last_closes s p pending few =
    let all = last_works s p (λ no. cc (pending, no)) few in
    let total = sum (targets s p.arrays.items) in
    let arrays = standing p.arrays.items in
    let front = flat_map resyncs arrays ++ (flat_map (rebuilds s) arrays ++ (flat_map (growths s) arrays ++ (makes s p.arrays.items ++ extends s p))) in
    let are : works_left s p ≡ front ++ (Close ∷ []) =
    ap
    (λ (ws : List Work). flat_map resyncs arrays ++ (flat_map (rebuilds s) arrays ++ (flat_map (growths s) arrays ++ (makes s p.arrays.items ++ (extends s p ++ ws)))))
    (cond-true {A = List Work} (is_some (planned s.plan)) (Close ∷ []) [] pending)
    ∙ ap (λ (ws : List Work). flat_map resyncs arrays ++ (flat_map (rebuilds s) arrays ++ (flat_map (growths s) arrays ++ ws)))
    (sym (append_assoc (makes s p.arrays.items) (extends s p) (Close ∷ [])))
    ∙ ap (λ (ws : List Work). flat_map resyncs arrays ++ (flat_map (rebuilds s) arrays ++ ws))
    (sym (append_assoc (flat_map (growths s) arrays) (makes s p.arrays.items ++ extends s p) (Close ∷ [])))
    ∙ ap (λ (ws : List Work). flat_map resyncs arrays ++ ws)
    (sym (append_assoc (flat_map (rebuilds s) arrays) (flat_map (growths s) arrays ++ (makes s p.arrays.items ++ extends s p)) (Close ∷ [])))
    ∙ sym (append_assoc (flat_map resyncs arrays) (flat_map (rebuilds s) arrays ++ (flat_map (growths s) arrays ++ (makes s p.arrays.items ++ extends s p))) (Close ∷ [])) in
    let none : front ≡ [] =
    nil_from_length front
    (omega (arith, few, length-append front (Close ∷ []), ap (λ (ws : List Work). length ws) are)) in
    are ∙ ap (λ (ws : List Work). ws ++ Close ∷ []) none
