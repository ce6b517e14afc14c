use Rattle.std.proofs.Common.{ℕ, ◌+◌, ◌<◌, false, option_map, ap, subst, sym, ◌∙◌}
use Rattle.std.specs.Option.{option_map_or}
use Rattle.array_image.specs.Places.{arrays_first}
use Rattle.pool_check.specs.Layers.{is_table_by}
use Rattle.pool_check.specs.Settling.{IsAgreement}
use Rattle.pool_check.specs.Slots.{FitsOn}
use Rattle.pool_check.proofs.Slotted.{table_fits, table_room}
use Rattle.pool_check.proofs.Parts.{table_found}
use Rattle.pool_check.proofs.drives.read_table.Goals as goal

pub returns-clause-has : goal.returns-clause-has
returns-clause-has g c seats o seat are read =
    let x = g.R.Rack.seen c.args.rack.now in
    let s = c.args.state.now in
    let layers = c.args.layers.now in
    let d = c.args.disk in
    let place = c.args.place in
    let found = option_map (λ t. t.table) c.in-Ok.found in
    let says = c.in-Ok.ensures.found.value (are.told place d seat) (o.contents d) (are.contents place d seat) in
    c.is_found.ensures ∙ ap (λ (n : ℕ). option_map_or (is_table_by s layers place n) found false) c.sectors-sectors.ensures.number
    ∙ table_found x s seats o layers place d c.requires.place c.requires.small seat are read found (sym says)

pub returns-clause-fits : goal.returns-clause-fits
returns-clause-fits g c is =
    let s = c.args.state.now in
    let layers = c.args.layers.now in
    let place = c.args.place in
    let found = option_map (λ t. t.table) c.in-Ok.found in
    subst (FitsOn layers place) c.sectors-sectors.ensures.number
    (table_fits s layers place c.sectors-sectors.result found (sym c.is_found.ensures ∙ is))

pub returns-clause-room : goal.returns-clause-room
returns-clause-room g c is =
    subst (λ (n : ℕ). arrays_first + 32 < n) c.sectors-sectors.ensures.number
    (table_room c.args.state.now c.args.layers.now c.args.place c.sectors-sectors.result (option_map (λ t. t.table) c.in-Ok.found) (sym c.is_found.ensures ∙ is))

pub returns-clause-agree : goal.returns-clause-agree
returns-clause-agree g c =
    subst (IsAgreement (g.R.Rack.seen c.args.rack.now) c.args.disk) (sym c.is_agreed.ensures) c.in-Ok.ensures.agree
