use Rattle.std.proofs.Common.{◌≡◌, ◌+◌, ◌*◌, ℕ, Some, refl, subst, sym, arith}
use Rattle.slice_rack.specs.Slices.{Slices, seat_of, place_of}
use Rattle.slice_rack.specs.SliceRack.{tables}
use Rattle.slice_rack.proofs.Tables.{adds_orderly, put_adds}
use Rattle.slice_rack.proofs.SliceRack.add_slice.Goals as goal

pub invariant_of-self : goal.invariant_of-self
invariant_of-self g c =
    let a : Slices = tables c.args.self.now in
    let b : Slices = record { seats = c.args.self.now.seats; slices = c.put_slice.new.slices } in
    let at : ℕ = 17 * c.args.place + c.args.slice in
    let place : c.args.place ≡ place_of at = omega arith in
    record {
      orderly =
          adds_orderly a b at c.args.first c.args.sectors c.in-Some.disk
          (put_adds a b at (record { first = c.args.first; sectors = c.args.sectors }) c.put_slice.ensures.here c.put_slice.ensures.others refl)
          (subst (λ p. seat_of a p ≡ Some c.in-Some.disk) place (sym c.in-Some.ensures))
          (c.if-overlaps.ensures.free refl) c.args.self.now.orderly;
    }
