use Rattle.std.proofs.Common.{◌∙◌, ℕ, List, Option, position, bytes_eq, ap, sym, option_map}
use Rattle.std.specs.Option.{option_and_then}
use Rattle.pool_scan.proofs.choosing.place_of.Goals as goal

pub returns-in-Some : goal.returns-in-Some
returns-in-Some c =
    let places : List ℕ → Option ℕ = λ id. position (λ drive. bytes_eq drive.id.0 id) c.args.state.now.drives.items in
    c.place_with.ensures ∙ ap (position (λ drive. bytes_eq drive.id.0 c.in-Some.id.0)) c.as_slice.ensures.value
    ∙ sym (ap (λ o. option_and_then places (option_map (λ id. id.0) o)) c.in-Some.is)
