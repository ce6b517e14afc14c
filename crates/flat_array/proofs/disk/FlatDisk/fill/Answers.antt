-- The sectors are on the disk.
use Rattle.std.proofs.Common.{◌≡◌, ◌+◌, nat_le, true, sym, subst}
use Rattle.flat_array.proofs.disk.FlatDisk.fill.Goals as goal

pub returns-in_ok-fill_inside-clause-done : goal.returns-in_ok-fill_inside-clause-done
returns-in_ok-fill_inside-clause-done c =
    λ a holds.
    let inside : nat_le (c.args.sector + c.args.count) a.size ≡ true =
    subst (λ n. nat_le (c.args.sector + c.args.count) n ≡ true) holds.size (sym c.if-has.ensures) in
    rw inside (c.in_ok-fill_inside.ensures.done a holds)
