-- A write in a call of all arrays, and the mending after it, make its changes of the book and losses.
use Rattle.std.proofs.Common.{ℕ, Bool, List, refl, sym, ap, subst}
use Rattle.rack.specs.Seen.{RackView}
use Rattle.array_model.specs.Members.{Notes}
use Rattle.array_model.specs.View.{View}
use Rattle.array_core.specs.Superblocks.{left_offset}
use Rattle.array_core.specs.Writing.{WritesView, as_it_was, newly_marked}
use Rattle.raid_laws.specs.Moves.{IsSet}
use Rattle.raid_laws.specs.Raid.{Raid}
use Rattle.raid_laws.proofs.Changed.{called}
use Rattle.raid_laws.proofs.Losing.{only_notes}
use Rattle.raid_laws.proofs.Seated.{view_with}
use Rattle.raid_laws.proofs.Written.{WriteCall}
use Rattle.transition_laws.specs.Changes.{by, with_view}
use Rattle.transition_laws.specs.Losses.{IsRunArray, IsRunOf, MakesLosses}
use Rattle.transition_laws.specs.Makes.{makes_then}
use Rattle.transition_laws.proofs.RunsOf.{run_of_itself}
use Rattle.growth_laws.proofs.RowMakes.{run_noted}
use Rattle.growth_laws.proofs.Steps.{by_array}
use Rattle.write_laws.specs.Writes.{MakesWrite, values_with, with_mark, writing}
use Rattle.write_laws.proofs.WriteMakes.{marked_first, unmarked_first, write_makes, writing_if}

module _ (v : Raid) (f : ℕ → View) (number m : ℕ) (a b : RackView) (on : List ℕ) (sector : ℕ) (from : List ℕ) (set : IsSet v a) (call : WriteCall v f number m a b on sector from) where
  -- the run after it is one of the book in which the array is marked
  run_marked : (is_marked : Bool) → Notes (with_mark (v.arrays m) is_marked) (f m) a b → IsRunOf (with_view v m (with_mark (v.arrays m) is_marked)) (called v f number)
  run_marked is_marked notes = record {
    same = refl;
    arrays = λ n there.
        let at = (run_of_itself v a set).arrays in
        by_array (λ k u. IsRunArray v.state u (f k)) v m (with_mark (v.arrays m) is_marked) n
        (let own = at m call.views.low in
        record {
          only = only_notes (with_mark (v.arrays m) is_marked) (f m) a b notes;
          count = own.count;
          missing = own.missing;
          left = ap left_offset (view_with (with_mark (v.arrays m) is_marked) (f m) notes.same);
        })
        (λ other. subst (IsRunArray v.state (v.arrays n)) (sym (call.views.others n other)) (at n there));
  }

  write_run : WritesView (v.arrays m) (f m) a b → IsRunOf (by (writing m (v.arrays m) (f m).marked) v) (called v f number)
  write_run (as_it_was why notes) =
      subst (λ (t : Bool). IsRunOf (by (writing_if t m (v.arrays m) (f m).marked) v) (called v f number))
      (sym (unmarked_first (v.arrays m) (call.heeded m call.views.low) why)) (run_noted v f m number a b set call.views.low call.goes.stays call.views.others notes)
  write_run (newly_marked whole fresh unmarked notes) =
      subst (λ (t : Bool). IsRunOf (by (writing_if t m (v.arrays m) (f m).marked) v) (called v f number))
      (sym (marked_first (v.arrays m) whole unmarked)) (run_marked (f m).marked notes)

  pub write_turn : WritesView (v.arrays m) (f m) a b → (w : Raid) (c : RackView) → ((d : Raid) → IsRunOf d (called v f number) → MakesLosses d (called v f number) w b c)
      → MakesWrite m sector from v w a c
  write_turn view w c losses =
      let after = losses (by (writing m (v.arrays m) (f m).marked) v) (write_run view) in
      record {
        is_marked = (f m).marked;
        after = after.changes;
        losses = after.losses;
        makes = λ vals grown.
            makes_then (writing m (v.arrays m) (f m).marked) after.changes v v (called v f number) w vals (values_with m sector from vals) (values_with m sector from vals) a b c
            (write_makes v f number m a b on sector from set call view grown vals) (after.makes (values_with m sector from vals));
      }
