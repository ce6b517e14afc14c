use Rattle.std.proofs.Common.{◌≡◌, ℕ, ◌++◌, ◌∙◌, List, length, take, sym, ap, arith, append_assoc}
use Rattle.std.specs.List.{flat_map}
use Rattle.std.proofs.lemmas.List.{take_all}
use Rattle.lvm_label.specs.Fields.{padded}
use Rattle.lvm_label.specs.Header.{location_bytes}
use Rattle.lvm_label.specs.declared.header.Location.{Location}
use Rattle.lvm_label.proofs.Locations.{length-locations_below, locations_more}
use Rattle.lvm_label.proofs.header.put_locations.Goals as goal

pub loop-location-preserved : goal.loop-location-preserved
loop-location-preserved c =
    let width : length c.bytes_of.result ≡ 24 = omega arith in (
      omega (arith, c.loop-location.invariant.0, c.put-end.ensures.end),
      (λ text long was.
          let i : ℕ = c.loop-location.location-index in
          let front : List ℕ = text ++ flat_map location_bytes (take i c.args.locations.now) in
          let known = c.put-end.ensures.appended 508 front (omega arith)
          (length-locations_below c.args.locations.now i c.args.at text (omega arith) long ∙ sym c.loop-location.invariant.0)
          (c.loop-location.invariant.1 text long was) in
          known ∙ ap (padded 508) (append_assoc text (flat_map location_bytes (take i c.args.locations.now)) c.bytes_of.result
          ∙ ap (λ (t : List ℕ). text ++ t) (sym (locations_more c.args.locations.now i _ c.bytes_of.result c.loop-location-test.true c.bytes_of.ensures)))),
    )

pub returns : goal.returns
returns c text long was =
    let i : ℕ = c.loop-location.location-index in
    let locations : List Location = c.args.locations.now in
    c.loop-location.invariant.1 text long was
    ∙ ap (λ (xs : List Location). padded 508 (text ++ flat_map location_bytes xs)) (take_all i locations (omega arith))
