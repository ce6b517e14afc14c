use Rattle.std.proofs.Common.{◌∷◌, ◌++◌, ℕ, List, [], map, length, sym, ap, ◌∙◌, arith, lit<, zero-add}
use Rattle.std.specs.List.{range_with_len}
use Rattle.std.proofs.lemmas.List.FromFn.{length-map-range_with_len, map-range_with_len_more}
use Rattle.shr_base.specs.Units.{units_of}
use Rattle.pool_format.proofs.planning.drive_units.Goals as goal

pub push-requires : goal.push-requires
push-requires g c =
    let at : ℕ → ℕ = λ disk. units_of ((g.R.Rack.seen c.args.rack.now).sectors disk) c.args.extent in
    (lit< tt, omega (arith, ap length c.loop-disk.invariant, length-map-range_with_len at 0 c.loop-disk.disk, c.requires.few, c.disks-disk-end.ensures))

pub loop-disk-preserved : goal.loop-disk-preserved
loop-disk-preserved g c =
    let disk = c.loop-disk.disk in
    let at : ℕ → ℕ = λ k. units_of ((g.R.Rack.seen c.args.rack.now).sectors k) c.args.extent in
    let before : List ℕ = map at (range_with_len 0 disk) in
    c.push.ensures.items
    ∙ ap (λ (xs : List ℕ). xs ++ c.units.result ∷ []) c.loop-disk.invariant
    ∙ ap (λ (n : ℕ). before ++ n ∷ []) (c.units.ensures ∙ ap (λ (n : ℕ). units_of n c.args.extent) c.sectors.ensures.number)
    ∙ sym (map-range_with_len_more at 0 disk disk (zero-add disk))
