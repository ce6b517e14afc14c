use Rattle.std.proofs.Common.{◌≡◌, ℕ, List, [], ◌∷◌, ◌++◌, filter, get_or, length, if◌then◌else◌, ap, ap₂, sym, ◌∙◌, arith}
use Rattle.std.specs.List.{range_with_len}
use Rattle.pool_state.specs.declared.contents.Drive.{Drive}
use Rattle.array_image.specs.States.{is_current, current_places}
use Rattle.log_laws.proofs.Naming.{filter_more}
use Rattle.raid_laws.proofs.Missing.{current_here}
use Rattle.raid_rack.proofs.marks.current_places.Goals as goal

pub loop-place-preserved : goal.loop-place-preserved
loop-place-preserved c =
    let n = c.loop-place.place in
    let read : (d : Drive) → get_or c.deref.result.now n d ≡ get_or c.args.state.now.drives.items n d =
    λ d. ap (λ (ds : List Drive). get_or ds n d) c.deref.ensures.0 in
    record {
      made =
          c.push_unless.ensures.items
          ∙ ap₂ (λ (ns ms : List ℕ). ns ++ ms) c.loop-place.invariant.made
          (ap (λ (d : Drive). if d.missing then [] else n ∷ []) (read _) ∙ current_here c.args.state.now n _ (omega arith))
          ∙ sym (filter_more (is_current c.args.state.now) n);
      few = omega arith;
    }

pub returns : goal.returns
unfolding current_places
returns c =
    let all : c.loop-place.place ≡ length c.args.state.now.drives.items = omega arith in
    c.loop-place.invariant.made ∙ ap (λ (n : ℕ). filter (is_current c.args.state.now) (range_with_len 0 n)) all
