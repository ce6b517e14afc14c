-- The volume is extended, or the plan is closed.
use Rattle.std.proofs.Common.{◌≡◌, ℕ, ◌+◌, ◌-◌, ◌*◌, List, [], ◌∷◌, ◌++◌, length, map, sum, Option, Some, None, is_some, true, false, nat_lt, if◌then◌else◌, refl, sym, ap, ◌∙◌, arith, ⊎_elim}
use Rattle.std.specs.List.{flat_map}
use Rattle.std.specs.Option.{option_map_or}
use Rattle.std.proofs.lemmas.Bool.{cases_Bool, cond-false, le-ltb}
use Rattle.pool_state.specs.declared.contents.Plan.TheVariants.{Nothing}
use Rattle.pool_state.specs.declared.contents.State.{State}
use Rattle.pool_state.specs.declared.contents.Work.{Work}
use Rattle.pool_state.specs.declared.contents.Work.TheVariants.{TakeOver, Begin, Extend, Close}
use Rattle.growth_plan.specs.declared.ArrayNow.{ArrayNow}
use Rattle.growth_plan.specs.declared.Progress.{Progress}
use Rattle.growth_plan.specs.Book.{Standing, standing, height_of}
use Rattle.growth_plan.specs.Target.{planned, joining, extents_at_end, targets}
use Rattle.growth_plan.specs.Works.{resyncs, rebuilds, reshapes, joins, growths, is_mirror, makes, extends, closes}
use Rattle.growth_plan.proofs.Heads.{in_order, in_order-same, both_nil}
use Rattle.growth_plan.proofs.OneArray.{targets_by}
use Rattle.growth_plan.proofs.RowsDone.{left_after}

-- only the end is left
abbrev pub at_end : State → Progress → List Work → List Work → List Work
at_end s p e c =
    in_order (flat_map resyncs (standing p.arrays.items)) (flat_map (rebuilds s) (standing p.arrays.items)) (flat_map (growths s) (standing p.arrays.items))
    (makes s p.arrays.items) e c

pub extend_done : (s : State) (p : Progress) (w : Work) (more : List Work) → extends s p ≡ w ∷ more → left_after w s p ≡ at_end s p more (closes s)
extend_done s p w more e =
    let total = sum (targets s p.arrays.items) in
    ⊎_elim
    (λ (yes : nat_lt p.extents total ≡ true).
    let only = rw yes at e in
    let first : w ≡ Extend = cc only in
    let last : [] ≡ more = cc only in
    let done = cond-false (nat_lt total total) (Extend ∷ []) [] (le-ltb total total (omega arith)) in
    ap (λ (v : Work). left_after v s p) first ∙ ap (λ (ws : List Work). at_end s p ws (closes s)) (done ∙ last))
    (λ (no : nat_lt p.extents total ≡ false). cc (rw no at e))
    (cases_Bool (nat_lt p.extents total))

-- without a plan no row is rebuilt
none_rebuilt : (s : State) (xs : List Standing) → flat_map (rebuilds (record s { plan = Nothing })) xs ≡ []
none_rebuilt s [] = refl
none_rebuilt s (x ∷ xs) = none_rebuilt s xs

pub joins_some : (x : Standing) (place : Option ℕ) → option_map_or (joins x) place [] ≡ [] → place ≡ None
joins_some x None e = refl
joins_some x (Some place) e =
    let parts = both_nil (if is_mirror x.now then TakeOver x.number ∷ [] else []) (Begin x.number place ∷ reshapes x.number x.now.rows) e in cc (parts.1)

-- where no array has anything left to take in
idle : (s : State) (xs : List Standing) → flat_map (growths s) xs ≡ [] →
    (flat_map (growths (record s { plan = Nothing })) xs ≡ []) × (map (extents_at_end (record s { plan = Nothing })) xs ≡ map (extents_at_end s) xs)
idle s [] e = (refl, refl)
idle s (x ∷ xs) e =
    let parts = both_nil (growths s x) (flat_map (growths s) xs) e in
    let own = both_nil (if x.now.reshaping then reshapes x.number x.now.reshape else []) (option_map_or (joins x) (joining s x) []) parts.0 in
    let none = joins_some x (joining s x) own.1 in
    let rest = idle s xs parts.1 in
    let here : growths (record s { plan = Nothing }) x ≡ [] = ap (λ (ws : List Work). ws ++ []) own.0 in
    let same : extents_at_end (record s { plan = Nothing }) x ≡ extents_at_end s x =
    sym (ap (λ (o : Option ℕ). (length x.now.members.items + (if is_some o then 1 else 0) - 1) * x.now.height) none) in (
      ap (λ (ws : List Work). ws ++ flat_map (growths (record s { plan = Nothing })) xs) here ∙ rest.0,
      ap (λ (n : ℕ). n ∷ map (extents_at_end (record s { plan = Nothing })) xs) same ∙ ap (λ (ns : List ℕ). extents_at_end s x ∷ ns) rest.1,
    )

-- Without the plan the arrays offer what they did, where no array has anything left to take in.
pub close_targets : (s : State) (arrays : List ArrayNow) → flat_map (growths s) (standing arrays) ≡ [] →
    targets (record s { plan = Nothing }) arrays ≡ targets s arrays
close_targets s arrays grown = ap (λ (es : List ℕ). targets_by s es (height_of arrays)) (idle s (standing arrays) grown).1

pub close_done : (s : State) (p : Progress) (w : Work) (more : List Work) → closes s ≡ w ∷ more →
    flat_map (rebuilds s) (standing p.arrays.items) ≡ [] → flat_map (growths s) (standing p.arrays.items) ≡ [] →
    left_after w s p ≡ at_end s p (extends s p) more
close_done s p w more e rebuilt grown =
    let arrays = p.arrays.items in
    let closed : State = record s { plan = Nothing } in
    ⊎_elim
    (λ (yes : is_some (planned s.plan) ≡ true).
    let only = rw yes at e in
    let first : w ≡ Close = cc only in
    let last : [] ≡ more = cc only in
    let quiet = idle s (standing arrays) grown in
    let extended : extends closed p ≡ extends s p =
    ap (λ (ts : List ℕ). if nat_lt p.extents (sum ts) then Extend ∷ [] else []) (close_targets s arrays grown) in
    ap (λ (v : Work). left_after v s p) first
    ∙ in_order-same _ _ _ (makes s arrays) (extends s p) more (flat_map resyncs (standing arrays)) (flat_map (rebuilds closed) (standing arrays))
    (flat_map (growths closed) (standing arrays)) (makes closed arrays) (extends closed p) (closes closed)
    refl (none_rebuilt s (standing arrays) ∙ sym rebuilt) (quiet.0 ∙ sym grown) refl extended last)
    (λ (no : is_some (planned s.plan) ≡ false). cc (rw no at e))
    (cases_Bool (is_some (planned s.plan)))
