-- A step of taking the plan's drive into an array is done.
use Rattle.std.proofs.Common.{IsPermutation, option_to_list, subst, ◌≡◌, ℕ, pos, ◌+◌, ◌-◌, ◌*◌, ◌&&◌, not, nat_le, List, [], ◌∷◌, ◌++◌, length, replicate, Option, Some, None, is_some, inl, inr, slice_index, Bool, true, false, if◌then◌else◌, refl, sym, ap, ◌∙◌, arith, ⊎_elim, append-nil, append_assoc}
use Rattle.std.specs.Bool.{then_some}
use Rattle.std.specs.List.{flat_map}
use Rattle.std.specs.Option.{option_map_or, option_and_then}
use Rattle.std.proofs.lemmas.Bool.{cases_Bool, and_right, not_from_true}
use Rattle.std.proofs.lemmas.List.Sorted.{IsPermutation-refl}
use Rattle.layer_plan.specs.Slicing.{has}
use Rattle.pool_state.specs.declared.contents.State.{State}
use Rattle.pool_state.specs.declared.contents.Work.{Work}
use Rattle.pool_state.specs.declared.contents.Work.TheVariants.{TakeOver, Begin, Reshape, Finish}
use Rattle.growth_plan.specs.declared.ArrayNow.{ArrayNow}
use Rattle.growth_plan.specs.declared.Progress.{Progress}
use Rattle.growth_plan.specs.Book.{Standing, standing, units_of, height_of}
use Rattle.growth_plan.specs.Target.{planned, joining, extents_at_end}
use Rattle.growth_plan.specs.Works.{resyncs, rebuilds, reshapes, joins, growths, is_mirror, makes, extends, closes, works_left}
use Rattle.growth_plan.specs.Doing.{Book, after, change, with_arrays, inserted, begun}
use Rattle.growth_plan.specs.Sound.{ends_with}
use Rattle.growth_plan.proofs.Heads.{in_order, first_part, first_copy}
use Rattle.growth_plan.proofs.Parts.{at, first_at, head_gone, swapped}
use Rattle.growth_plan.proofs.OneArray.{put, array_done}
use Rattle.growth_plan.proofs.RowsDone.{left_after, change_at}
use Rattle.growth_plan.proofs.Inserted.{has_inserted, count_inserted, permuted}

-- the array after its first step, and what stays of it
pub record IsStep (s : State) (p : Progress) (below : List ArrayNow) (x : ArrayNow) (w : Work) (more : List Work) : Type 0 where
  pub to : ArrayNow → ArrayNow
  pub does : after w s p ≡ with_arrays s p (change (length below) to p.arrays.items)
  pub here : growths s (at below (to x)) ≡ more
  pub level : (to x).height ≡ x.height
  pub young : (to x).zero ≡ x.zero
  pub resync : resyncs (at below (to x)) ≡ resyncs (at below x)
  pub rebuild : rebuilds s (at below (to x)) ≡ rebuilds s (at below x)
  pub ends : extents_at_end s (at below (to x)) ≡ extents_at_end s (at below x)
  pub members : IsPermutation (ends_with s (at below x)) (ends_with s (at below (to x)))

-- the drive that joins is the plan's
passing : (test : ℕ → Bool) (o : Option ℕ) (place : ℕ) → option_and_then (λ q. then_some (test q) q) o ≡ Some place → o ≡ Some place
passing test None place e = cc
passing test (Some q) place e =
    ⊎_elim (λ (yes : test q ≡ true). rw yes at e) (λ (no : test q ≡ false). cc (rw no at e)) (cases_Bool (test q))

pub joining_is : (s : State) (x : Standing) (place : ℕ) → joining s x ≡ Some place → planned s.plan ≡ Some place
joining_is s x place e = passing (λ q. nat_le x.top (slice_index (units_of s) q) && not (has x.now.members.items q)) (planned s.plan) place e

joined_no : (s : State) (below : List ArrayNow) (x : ArrayNow) (place : ℕ) → joining s (at below x) ≡ Some place →
    joining s (at below (begun place x)) ≡ None
joined_no s below x place e =
    let member : has (inserted place x.members.items) place ≡ true = has_inserted place x.members.items in
    let reaches = nat_le (height_of below + x.height) (slice_index (units_of s) place) in
    let fails : (reaches && not (has (inserted place x.members.items) place)) ≡ false =
    and_right reaches (not (has (inserted place x.members.items) place)) (not_from_true (has (inserted place x.members.items) place) member) in
    ap (λ (o : Option ℕ). option_and_then
    (λ q. then_some (nat_le (height_of below + x.height) (slice_index (units_of s) q) && not (has (inserted place x.members.items) q)) q) o)
    (joining_is s (at below x) place e)
    ∙ ap (λ (b : Bool). then_some b place) fails

step_joining : (s : State) (p : Progress) (below : List ArrayNow) (x : ArrayNow) (w : Work) (more : List Work) (place : Option ℕ) →
    joining s (at below x) ≡ place → x.reshaping ≡ false → option_map_or (joins (at below x)) place [] ≡ w ∷ more → IsStep s p below x w more
step_joining s p below x w more None is idle e = cc
step_joining s p below x w more (Some place) is idle e =
    ⊎_elim
    (λ (mirror : is_mirror x ≡ true).
    let e1 = rw mirror at e in
    let first : w ≡ TakeOver (length below) = cc e1 in
    record {
      to = λ a. record a { level = pos 5 };
      does = ap (λ (v : Work). after v s p) first;
      here = rw idle (ap (λ (o : Option ℕ). option_map_or (joins (at below (record x { level = pos 5 }))) o []) is ∙ cc e1);
      level = refl;
      young = refl;
      resync = refl;
      rebuild = refl;
      ends = refl;
      members = IsPermutation-refl (ends_with s (at below x));
    })
    (λ (raid : is_mirror x ≡ false).
    let e1 = rw raid at e in
    let first : w ≡ Begin (length below) place = cc e1 in
    let no = joined_no s below x place is in
    let count : length (inserted place x.members.items) + 0 ≡ length x.members.items + 1 =
    omega (arith, count_inserted place x.members.items) in
    record {
      to = begun place;
      does = ap (λ (v : Work). after v s p) first;
      here =
          ap (λ (o : Option ℕ). reshapes (length below) x.rows ++ option_map_or (joins (at below (begun place x))) o []) no
          ∙ append-nil (reshapes (length below) x.rows) ∙ cc e1;
      level = refl;
      young = refl;
      resync = refl;
      rebuild = refl;
      ends =
          ap (λ (o : Option ℕ). (length (inserted place x.members.items) + (if is_some o then 1 else 0) - 1) * x.height) no
          ∙ ap (λ (n : ℕ). (n - 1) * x.height) count
          ∙ sym (ap (λ (o : Option ℕ). (length x.members.items + (if is_some o then 1 else 0) - 1) * x.height) is);
      members =
          subst (λ (o : Option ℕ). IsPermutation (x.members.items ++ option_to_list o) (ends_with s (at below (begun place x)))) (sym is)
          (subst (λ (ps : List ℕ). IsPermutation (x.members.items ++ place ∷ []) ps)
          (sym (ap (λ (o : Option ℕ). inserted place x.members.items ++ option_to_list o) no ∙ append-nil (inserted place x.members.items)))
          (permuted place x.members.items));
    })
    (cases_Bool (is_mirror x))

step_reshaping : (s : State) (p : Progress) (below : List ArrayNow) (x : ArrayNow) (w : Work) (more others : List Work) →
    option_map_or (joins (at below x)) (joining s (at below x)) [] ≡ others → x.reshaping ≡ true →
    reshapes (length below) x.reshape ++ others ≡ w ∷ more → IsStep s p below x w more
step_reshaping s p below x w more others rest on e =
    let n = length below in
    let row = Reshape n in
    elim (first_part w more (replicate x.reshape row) (Finish n ∷ others) (sym (append_assoc (replicate x.reshape row) (Finish n ∷ []) others) ∙ e)) [
      | inl none ↦
          let first : w ≡ Finish n = cc (none.1) in
          let others_are : others ≡ more = cc (none.1) in
          record {
            to = λ a. record a { reshaping = false };
            does = ap (λ (v : Work). after v s p) first;
            here = rest ∙ others_are;
            level = refl;
            young = refl;
            resync = refl;
            rebuild = refl;
            ends = refl;
            members = IsPermutation-refl (ends_with s (at below x));
          }
      | inr some ↦
          let copy = first_copy x.reshape row w some.more some.here in
          record {
            to = λ a. record a { reshape = a.reshape - 1 };
            does = ap (λ (v : Work). after v s p) copy.0;
            here =
                rw on
                (ap (λ (ws : List Work). reshapes n (x.reshape - 1) ++ ws) rest
                ∙ append_assoc (replicate (x.reshape - 1) row) (Finish n ∷ []) others
                ∙ sym (some.behind ∙ ap (λ (ws : List Work). ws ++ Finish n ∷ others) copy.1));
            level = refl;
            young = refl;
            resync = refl;
            rebuild = refl;
            ends = refl;
            members = IsPermutation-refl (ends_with s (at below x));
          }
    ]

pub step : (s : State) (p : Progress) (below : List ArrayNow) (x : ArrayNow) (w : Work) (more : List Work) →
    growths s (at below x) ≡ w ∷ more → IsStep s p below x w more
step s p below x w more e =
    ⊎_elim
    (λ (on : x.reshaping ≡ true). step_reshaping s p below x w more _ refl on (rw on at e))
    (λ (idle : x.reshaping ≡ false). step_joining s p below x w more (joining s (at below x)) refl idle (rw idle at e))
    (cases_Bool x.reshaping)

pub growth_done : (s : State) (p : Progress) (w : Work) (rest more : List Work) → flat_map (growths s) (standing p.arrays.items) ≡ w ∷ more →
    rest ≡ in_order (flat_map resyncs (standing p.arrays.items)) (flat_map (rebuilds s) (standing p.arrays.items)) more
    (makes s p.arrays.items) (extends s p) (closes s) →
    left_after w s p ≡ rest
growth_done s p w rest more e behind =
    let found = first_at (growths s) p.arrays.items w more e in
    let x = found.now in
    let it = step s p found.below x w found.more found.here in
    let y = it.to x in
    let news = change_at it.to p.arrays.items found.below found.above x found.arrays_are in
    let done = array_done s p found.below found.above x y _ _ more found.arrays_are it.level
    it.young it.ends
    (swapped resyncs found.below found.above x y it.level it.resync
    ∙ sym (ap (λ (xs : List ArrayNow). flat_map resyncs (standing xs)) found.arrays_are))
    (swapped (rebuilds s) found.below found.above x y it.level it.rebuild
    ∙ sym (ap (λ (xs : List ArrayNow). flat_map (rebuilds s) (standing xs)) found.arrays_are))
    (head_gone (growths s) found.below found.above x y found.more it.level found.quiet it.here ∙ sym found.behind) in
    ap (λ (b : Book). works_left b.state b.progress) it.does ∙ ap (λ (xs : List ArrayNow). works_left s (put p xs)) news ∙ done ∙ sym behind
