use Rattle.std.proofs.Common.{◌≡◌, ℕ, ◌+◌, ◌*◌, ◌<◌, All, List, length, true, Result, Ok, Err, ap, ap₂, subst, sym, ◌∙◌}
use Rattle.array_model.specs.View.{View}
use Rattle.array_core.specs.declared.ArrayFault.{ArrayFault}
use Rattle.array_core.specs.Opening.{opened, truth_of}
use Rattle.growth_laws.specs.NewArrays.{found_for, new_size, reaching}
use Rattle.growth_laws.proofs.Layers.{make_parts, reaching_listed}
use Rattle.growth_laws.proofs.OpenedNew.{CanMake, new_opens, new_usable}
use Rattle.raid_rack.specs.RaidRack.{raid_by}
use Rattle.raid_rack.proofs.arrays.Arrays.young_array.Goals as goal
use Rattle.raid_rack.proofs.arrays.Arrays.young_array.Goals.{After-as_slice}

can : (c : After-as_slice) → CanMake (raid_by c.args.self.now) c.args.height
can c = record {
  due = make_parts (raid_by c.args.self.now) c.args.self.now.state.made c.args.height c.requires.due;
  extent = c.requires.extent;
  drives = c.requires.few;
  some = c.requires.some;
}

-- what is found of the array that is to be made
found_is : (c : After-as_slice) → c.as_slice.result.now ≡ found_for c.args.self.now.state (reaching (raid_by c.args.self.now) c.args.height) (new_size (raid_by c.args.self.now) c.args.height) c.args.seconds
found_is c =
    let s = c.args.self.now.state in
    c.as_slice.ensures.value ∙ c.found_for-found.ensures
    ∙ ap₂ (λ (members : List ℕ) (extent : ℕ). found_for s members (c.args.height * extent + 2048) c.args.seconds) c.requires.places c.from.ensures

pub found_for-found-requires-clause-listed : goal.found_for-found-requires-clause-listed
found_for-found-requires-clause-listed c =
    let s = c.args.self.now.state in
    subst (All (λ (p : ℕ). p < length s.drives.items)) (sym c.requires.places) (reaching_listed (raid_by c.args.self.now) c.args.height)

pub open-requires-clause-truth : goal.open-requires-clause-truth
open-requires-clause-truth c = λ t leads.
    let at = (goal.at.open-requires-clause-truth c).After-as_slice in
    new_usable (raid_by c.args.self.now) c.args.height c.args.seconds (can at) t (sym (ap truth_of (found_is at)) ∙ leads)

pub unreachable-requires : goal.unreachable-requires
unreachable-requires c =
    let at = (goal.at.unreachable-requires c).After-as_slice in
    never (sym (new_opens (raid_by c.args.self.now) c.args.height c.args.seconds (can at)) ∙ sym (ap (opened c.args.self.now.state.made true) (found_is at)) ∙ sym c.open.ensures ∙ c.in-Err.is)
  where
    never : {v : View} {e : ArrayFault} → ◌≡◌ {A = Result View ArrayFault} (Ok v) (Err e) → ⊥
    never same = cc

pub returns-clause-made : goal.returns-clause-made
returns-clause-made c =
    let at = (goal.at.returns-clause-made c).After-as_slice in
    same (sym c.in-Ok.is ∙ c.open.ensures ∙ ap (opened c.args.self.now.state.made true) (found_is at) ∙ new_opens (raid_by c.args.self.now) c.args.height c.args.seconds (can at))
  where
    opened_view : Result View ArrayFault → View → View
    opened_view (Ok v) other = v
    opened_view (Err e) other = other

    same : {u v : View} → ◌≡◌ {A = Result View ArrayFault} (Ok u) (Ok v) → u ≡ v
    same {u} {v} e = ap (λ r. opened_view r u) e
