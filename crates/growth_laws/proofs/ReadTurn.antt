-- A call of one array that writes nothing, and the mending after it, make losses alone.
use Rattle.std.proofs.Common.{ℕ, [], refl, sym, arith}
use Rattle.rack.specs.Values.{Values}
use Rattle.rack.specs.Seen.{RackView}
use Rattle.array_model.specs.Members.{Notes}
use Rattle.array_model.specs.View.{shape_of, View}
use Rattle.raid_laws.specs.Moves.{IsSet}
use Rattle.raid_laws.specs.Raid.{Raid}
use Rattle.raid_laws.proofs.Calls.{ReadsOne}
use Rattle.raid_laws.proofs.Changed.{called, further, marked_before, more_gone}
use Rattle.raid_laws.proofs.Over.{over_still, someone_left}
use Rattle.transition_laws.specs.Losses.{IsRunOf, MakesLosses}
use Rattle.transition_laws.specs.Makes.{Makes, makes_then}
use Rattle.transition_laws.proofs.ReadMakes.{keeps_noted, read_log, read_one_makes}
use Rattle.growth_laws.specs.Reads.{LosesAlone}
use Rattle.growth_laws.proofs.RowMakes.{run_noted}

module _ (v : Raid) (f : ℕ → View) (m : ℕ) (a b : RackView) (set : IsSet v a) (call : ReadsOne v f m a b) (notes : Notes (v.arrays m) (f m) a b) where
  makes : (vals : ℕ → ℕ → Values) → Makes [] v v (called v f v.number) vals vals a b
  makes vals =
      read_one_makes m v v (called v f v.number) vals a b
      (record {
        lasting = set.lasting;
        reads = call.reads;
        state = refl;
        others = call.views.others;
        noted = keeps_noted (v.arrays m) (f m) notes.same;
        written = call.views.written;
        shape = λ are. (marked_before v f m a b set call.views are, sym (call.loses.shape are));
        kept = λ p promised stands. read_log v v (called v f v.number) a b set.lasting call.reads refl (more_gone v f m a b set call.views) stands.log;
        holds = λ p promised stands spent covers. (call.keeps v.state (shape_of (v.arrays m)) (vals m) spent covers).holds;
        is_array = (set.arrays m call.views.low).is_array;
        synced = f m;
        notes = notes;
        same_shape = refl;
        same_went = refl;
        same_zeroed = λ young. refl;
        goes = λ n low goes. over_still v (called v f v.number) (further v f m a b set call.views v.number (omega arith)) n low goes;
        someone = λ n goes. someone_left (called v f v.number) n goes;
        spares = call.views.spent;
      })

  pub read_turn : (w : Raid) (c : RackView) → ((d : Raid) → IsRunOf d (called v f v.number) → MakesLosses d (called v f v.number) w b c) → LosesAlone v w a c
  read_turn w c losses =
      let after = losses v (run_noted v f m v.number a b set call.views.low call.reads.stays call.views.others notes) in
      record {
        changes = after.changes;
        losses = after.losses;
        makes = λ vals. makes_then [] after.changes v v (called v f v.number) w vals vals vals a b c (makes vals) (after.makes vals);
      }
