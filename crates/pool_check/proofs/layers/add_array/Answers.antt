use Rattle.std.proofs.Common.{◌≡◌, Some, ap, sym, ◌∙◌}
use Rattle.std.specs.Option.{option_copied}
use Rattle.array_core.proofs.Opened.{all_pass}
use Rattle.array_core.specs.Opening.{truth_of}
use Rattle.pool_check.specs.Drives.{found_with}
use Rattle.pool_check.specs.Layers.{is_usable}
use Rattle.pool_check.proofs.Adding.{none_from, usable_truth}
use Rattle.pool_check.proofs.layers.add_array.Goals as goal

pub add_near-requires-clause-usable : goal.add_near-requires-clause-usable
add_near-requires-clause-usable c =
    let found : truth_of c.args.found.now ≡ Some c.in-Some.truth.now = sym c.truth_of.ensures ∙ ap option_copied c.in-Some.is in
    usable_truth c.in-Some.truth.now (all_pass is_usable c.args.found.now c.requires.usable c.in-Some.truth.now found) c.if-truth-ge-FAR.false

pub returns-in-Some-clause-layers : goal.returns-in-Some-clause-layers
returns-in-Some-clause-layers c seats o found begins few old =
    c.add_far.ensures.layers (found_with c.args.state.now seats o) c.args.first found begins few old

pub returns-in-None-clause-layers : goal.returns-in-None-clause-layers
returns-in-None-clause-layers c seats o found begins few old =
    let f = found_with c.args.state.now seats o in
    let unknown = none_from f c.args.number c.args.first c.args.found.now c.requires.few few found begins (sym c.in-None.ensures) in
    c.add_unknown.ensures.layers f unknown.truth unknown.extent unknown.next old

pub returns-in-Some-clause-founded : goal.returns-in-Some-clause-founded
returns-in-Some-clause-founded c seats contents old = c.add_far.ensures.founded c.args.state.now seats

pub returns-in-None-clause-founded : goal.returns-in-None-clause-founded
returns-in-None-clause-founded c seats contents old = c.add_unknown.ensures.founded c.args.state.now seats
