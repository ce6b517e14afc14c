-- A read or a sync of one array, and the mending after it: what contents hold in them.
use Rattle.std.proofs.Common.{◌≡◌, ℕ, ◌<◌, Bool, set, get_or, sym, ap, subst, ◌∙◌}
use Rattle.arrayvec.specs.ArrayVec.{ArrayVec}
use Rattle.rack.specs.Values.{Values}
use Rattle.rack.specs.Seen.{RackView}
use Rattle.rack.specs.Sequences.{OnlyReads}
use Rattle.pool_state.specs.declared.contents.State.{State}
use Rattle.array_image.specs.Arrays.{Shape}
use Rattle.array_model.specs.ArrayCalls.{IncludesSpent, Keeping}
use Rattle.array_model.specs.Members.{Notes}
use Rattle.array_model.specs.View.{View}
use Rattle.raid_laws.specs.Raid.{Raid}
use Rattle.raid_laws.proofs.Calls.{reads_notes}
use Rattle.transition_laws.specs.Losses.{IsRunOf, MakesLosses}
use Rattle.growth_laws.specs.Reads.{LosesAlone}
use Rattle.growth_laws.proofs.ReadTurn.{read_turn}
use Rattle.raid_rack.specs.declared.arrays.Arrays.{Arrays}
use Rattle.raid_rack.specs.RaidRack.{IsRunning, no_array, raid_by}
use Rattle.raid_rack.proofs.Grown.{called_own}
use Rattle.raid_rack.proofs.Steps.{set_other}

pub read_contents : (a c : Arrays) (all : ArrayVec View) (x y z : RackView) (n : ℕ) (old u : View) → IsRunning a x → n < a.state.made → old ≡ get_or a.all.items n no_array
    → all.items ≡ set a.all.items n u → OnlyReads x y → Notes old u x y
    → ((s : State) (durable : Shape) (vals : ℕ → Values) (spent : ℕ → Bool) → IncludesSpent u spent → Keeping s old u spent x y durable vals)
    → ((d : Raid) → IsRunOf d (raid_by (record a { all = all })) → MakesLosses d (raid_by (record a { all = all })) (raid_by c) y z)
    → LosesAlone (raid_by a) (raid_by c) x z
read_contents a c all x y z n old u running low old_is all_is reads notes keeps losses =
    let f : ℕ → View = λ k. get_or all.items k no_array in
    let v = raid_by a in
    let own = called_own a all n u running.count low all_is in
    let noted : Notes (v.arrays n) (f n) x y = subst (λ (w : View). Notes w (f n) x y) old_is (subst (λ (w : View). Notes old w x y) (sym own) notes) in
    read_turn v f n x y running.set
    (reads_notes v f n x y running.set low reads (λ k other. ap (λ ys. get_or ys k no_array) all_is ∙ set_other a.all.items n k u no_array other) noted
    (λ s durable vals spent covers.
    subst (λ (w : View). Keeping s w (f n) spent x y durable vals) old_is
    (subst (λ (w : View). Keeping s old w spent x y durable vals) (sym own) (keeps s durable vals spent (subst (λ (w : View). IncludesSpent w spent) own covers)))))
    noted (raid_by c) z losses
