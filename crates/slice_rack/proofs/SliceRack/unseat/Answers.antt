use Rattle.std.proofs.Common.{None, ap}
use Rattle.std.specs.Option.{option_map_or}
use Rattle.slice_rack.specs.declared.Slice.{Slice}
use Rattle.slice_rack.specs.SliceRack.{tables}
use Rattle.slice_rack.specs.Slices.{Slices}
use Rattle.slice_rack.specs.Changes.{Seats}
use Rattle.slice_rack.proofs.Tables.{seats_orderly, seats_inside}
use Rattle.slice_rack.proofs.SliceRack.unseat.Goals as goal

pub invariant_of-self : goal.invariant_of-self
invariant_of-self g c =
    let a : Slices = tables c.args.self.now in
    let b : Slices = record { seats = c.put_seat.new.seats; slices = c.clear_place.new.slices } in
    let change : Seats a b c.args.place None = record {
      seats = c.put_seat.ensures;
      cleared = c.clear_place.ensures.cleared;
      firsts = λ d other. ap (λ o. option_map_or (λ (slice : Slice). slice.first) o 0) (c.clear_place.ensures.others d other);
      sectors = λ d other. ap (λ o. option_map_or (λ (slice : Slice). slice.sectors) o 0) (c.clear_place.ensures.others d other);
    } in
    record { orderly = seats_orderly a b c.args.place None change (λ p disk is at. absurd (cc)) c.args.self.now.orderly }

pub returns-clause-seated : goal.returns-clause-seated
returns-clause-seated g c = record {
  seats = c.put_seat.ensures;
  cleared = c.clear_place.ensures.cleared;
  firsts = λ d other. ap (λ o. option_map_or (λ (slice : Slice). slice.first) o 0) (c.clear_place.ensures.others d other);
  sectors = λ d other. ap (λ o. option_map_or (λ (slice : Slice). slice.sectors) o 0) (c.clear_place.ensures.others d other);
}

pub returns-clause-fit : goal.returns-clause-fit
returns-clause-fit g c fit =
    let a : Slices = tables c.args.self.now in
    let b : Slices = record { seats = c.put_seat.new.seats; slices = c.clear_place.new.slices } in
    let change : Seats a b c.args.place None = record {
      seats = c.put_seat.ensures;
      cleared = c.clear_place.ensures.cleared;
      firsts = λ d other. ap (λ o. option_map_or (λ (slice : Slice). slice.first) o 0) (c.clear_place.ensures.others d other);
      sectors = λ d other. ap (λ o. option_map_or (λ (slice : Slice). slice.sectors) o 0) (c.clear_place.ensures.others d other);
    } in
    (fit.0, seats_inside a b c.args.place None (g.R.Rack.seen c.args.self.now.rack) change (λ disk is. absurd (cc)) fit.1)
