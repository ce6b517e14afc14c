use Rattle.std.proofs.Common.{◌<◌, ℕ, subst, sym, ap, unwrap_or, arith}
use Rattle.array_model.specs.View.{View, IsArray, place_at}
use Rattle.array_model.specs.Members.{slice_on}
use Rattle.array_tests.proofs.runs.has_slices.Goals as goal

-- the slice of a member is one of 272
slice_few : (v : View) (n : ℕ) → IsArray v → n < v.truth.raid_disks → slice_on v n < 272
slice_few v n is_array low =
    let at = is_array.placed n low in
    let few : place_at v n < 16 = subst (λ p. p < 16) (sym (ap (λ o. unwrap_or o 16) at.1)) at.2 in
    omega (arith, few, is_array.few)

pub returns : goal.returns
returns g c is =
    let few = λ (n : ℕ) (low : n < c.args.array.now.truth.raid_disks). slice_few c.args.array.now n c.rules.ensures low in
    record {
      fit = g.met.R.Bay.always_fit c.args.rack.now;
      lasting = g.met.R.Bay.lasting c.args.rack.now;
      disks = λ n low there. subst (λ k. slice_on c.args.array.now n < k) (sym c.requires.disks) (few n low);
      sectors = λ n low there. c.loop-slice.invariant (slice_on c.args.array.now n) (omega (arith, few n low, c.loop-slice-test.false));
    }
