use Rattle.std.proofs.Common.{◌∙◌, length, map, ap, refl, sym, option_map}
use Rattle.std.specs.List.{range_with_len}
use Rattle.std.specs.Option.{option_copied}
use Rattle.array_image.specs.Foremost.{foremost}
use Rattle.array_image.specs.States.{epoch_of}
use Rattle.pool_scan.specs.Scanning.{copied_at}
use Rattle.pool_scan.proofs.Chosen.{newest_is}
use Rattle.pool_scan.proofs.Seated.{foremost_from}
use Rattle.pool_scan.proofs.Scan.newest.Goals as goal

pub returns-in-Some-clause-newest : goal.returns-in-Some-clause-newest
returns-in-Some-clause-newest c = λ disks identities are.
    ap (λ o. option_map (λ copy. copy.state) (option_copied o)) (sym c.in-Some.is)
    ∙ ap (option_map (λ copy. copy.state)) c.newest_copy.ensures
    ∙ ap (λ ks. option_map (λ copy. copy.state) (foremost epoch_of (map (copied_at ks) (range_with_len 0 (length ks))))) c.as_slice.ensures.value
    ∙ newest_is disks identities c.args.self.now.disks.items are

pub returns-in-None-clause-newest : goal.returns-in-None-clause-newest
returns-in-None-clause-newest c = λ disks identities are.
    ap (λ o. option_map (λ copy. copy.state) (option_copied o)) (sym c.in-None.is)
    ∙ ap (option_map (λ copy. copy.state)) c.newest_copy.ensures
    ∙ ap (λ ks. option_map (λ copy. copy.state) (foremost epoch_of (map (copied_at ks) (range_with_len 0 (length ks))))) c.as_slice.ensures.value
    ∙ newest_is disks identities c.args.self.now.disks.items are

pub returns-in-Some-clause-copied : goal.returns-in-Some-clause-copied
returns-in-Some-clause-copied c =
    let known = c.args.self.now.disks.items in
    let found = foremost_from epoch_of (copied_at known) 0 (length known) c.in-Some.copied.now
    (ap (λ ks. foremost epoch_of (map (copied_at ks) (range_with_len 0 (length ks)))) (sym c.as_slice.ensures.value) ∙ sym c.newest_copy.ensures ∙ ap option_copied c.in-Some.is) in
    record { disk = found.0; copy = c.in-Some.copied.now; read = found.2; state = refl }
