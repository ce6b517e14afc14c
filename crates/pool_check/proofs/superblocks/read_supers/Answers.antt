use Rattle.std.proofs.Common.{◌≡◌, ◌+◌, Bool, true, List, [], ◌∷◌, ◌++◌, length, ap, ap₂, sym, subst, ◌∙◌, refl, arith}
use Rattle.std.specs.Option.{option_map_or}
use Rattle.std.specs.List.{list_all}
use Rattle.std.proofs.lemmas.Bool.{and_from, and_parts}
use Rattle.std.proofs.lemmas.List.FromFn.{map-range_with_len_more}
use Rattle.rack.proofs.Reading.{only_reads_join, only_reads_start}
use Rattle.array_core.specs.declared.Found.{Found}
use Rattle.pool_check.specs.Drives.{found_with, seats_by}
use Rattle.pool_check.specs.Founded.{HasContents}
use Rattle.pool_check.specs.Layers.{found_on, is_usable}
use Rattle.pool_check.proofs.AfterReads.{drives_then, goes_later, seating_then}
use Rattle.pool_check.proofs.Finding.{all_ended}
use Rattle.pool_check.proofs.Founded.{contents_more, no_contents}
use Rattle.pool_check.proofs.superblocks.read_supers.Goals as goal

-- what holds of all elements and of one more
all_more : {X : Type 0} (p : X → Bool) (xs : List X) (x : X) → list_all p xs ≡ true → p x ≡ true → list_all p (xs ++ x ∷ []) ≡ true
all_more p [] x all is = and_from (p x) true is refl
all_more p (y ∷ xs) x all is =
    let parts = and_parts (p y) (list_all p xs) all in and_from (p y) (list_all p (xs ++ x ∷ [])) parts.0 (all_more p xs x parts.1 is)

pub read_place-requires-clause-fit : goal.read_place-requires-clause-fit
read_place-requires-clause-fit g c = c.loop-place.invariant.only.stays.fit

pub read_place-requires-clause-seating : goal.read_place-requires-clause-seating
read_place-requires-clause-seating g c = seating_then c.args.state.now (seats_by c.args.seats.now) c.loop-place.invariant.only c.requires.seating

pub loop-place-init : goal.loop-place-init
loop-place-init g c = record {
  only = only_reads_start (g.R.Rack.seen c.args.rack.now) c.requires.fit;
  count = ap length c.new-found.ensures;
  found = λ o are. c.new-found.ensures;
  contents =
      subst (HasContents c.args.state.now (seats_by c.args.seats.now) c.args.array 0) (sym c.new-found.ensures)
      (no_contents c.args.state.now (seats_by c.args.seats.now) c.args.array);
  usable = ap (list_all (λ (f : Found). option_map_or is_usable f.seen true)) c.new-found.ensures;
  runs = g.met.R.Rack.runs_same _;
}

pub loop-place-preserved : goal.loop-place-preserved
loop-place-preserved g c =
    let s = c.args.state.now in
    let seats = seats_by c.args.seats.now in
    let before = c.loop-place.found.items in
    let one : Found = record { place = c.loop-place.place; seen = c.in-Ok.seen } in
    record {
      only = only_reads_join c.loop-place.invariant.only c.read_place.ensures.only;
      count = omega arith;
      found = λ o are.
          c.push.ensures.items
          ∙ ap₂ (λ xs seen. xs ++ record { place = c.loop-place.place; seen = seen } ∷ []) (c.loop-place.invariant.found o are)
          (c.in-Ok.ensures.found o (drives_then s seats o c.loop-place.invariant.only c.requires.seating are))
          ∙ sym (map-range_with_len_more (found_on (found_with s seats o) c.args.array c.args.first) 0 c.loop-place.place c.loop-place.place (omega arith));
      usable =
          ap (list_all (λ (f : Found). option_map_or is_usable f.seen true)) c.push.ensures.items
          ∙ all_more (λ (f : Found). option_map_or is_usable f.seen true) before one c.loop-place.invariant.usable c.in-Ok.ensures.usable;
      contents =
          subst (HasContents s seats c.args.array (c.loop-place.place + 1)) (sym c.push.ensures.items)
          (contents_more s seats c.args.array c.loop-place.place before c.in-Ok.seen c.requires.array c.loop-place.invariant.contents c.in-Ok.ensures.valid);
      runs = g.met.R.Rack.runs_then _ _ _ c.loop-place.invariant.runs c.read_place.ensures.runs;
    }

pub returns-in-Err-clause-went : goal.returns-in-Err-clause-went
returns-in-Err-clause-went g c =
    goes_later (g.R.Rack.seen c.args.rack.now) (g.R.Rack.seen c.loop-place.rack) (g.R.Rack.seen c.read_place.new.rack) (seats_by c.args.seats.now) c.loop-place.place
    c.loop-place.invariant.only.stays c.in-Err.ensures.went

pub returns-in-Err-clause-only : goal.returns-in-Err-clause-only
returns-in-Err-clause-only g c = only_reads_join c.loop-place.invariant.only c.read_place.ensures.only

pub returns-clause-found : goal.returns-clause-found
returns-clause-found g c o are =
    let end : c.loop-place.place ≡ 16 = omega arith in
    all_ended (found_with c.args.state.now (seats_by c.args.seats.now) o) c.args.array c.args.first c.loop-place.place c.loop-place.found.items end
    (c.loop-place.invariant.found o are)
