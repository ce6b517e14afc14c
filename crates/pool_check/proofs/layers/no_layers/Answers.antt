use Rattle.std.proofs.Common.{◌≡◌, ap, refl, sym, ◌∙◌, arith, lit<}
use Rattle.std.specs.Prelude.{length}
use Rattle.pool_image.specs.Drives.{first_of}
use Rattle.pool_check.proofs.Adding.{none_in}
use Rattle.pool_check.proofs.Founded.{no_arrays}
use Rattle.pool_check.proofs.layers.no_layers.Goals as goal

pub returns-clause-layers : goal.returns-clause-layers
unfolding first_of
returns-clause-layers c f = record {
  count = ap length c.new.ensures;
  each = λ n layer at. none_in _ n layer c.new.ensures at;
  opened = λ none. record {
    count = ap length c.new-2.ensures;
    lengths = ap length c.new-3.ensures;
    each = λ n v at. none_in _ n v c.new-2.ensures at;
    lies = λ n e at. none_in _ n e c.new-3.ensures at;
    flagged = ap length c.new-4.ensures;
    flags = λ n flag at. none_in _ n flag c.new-4.ensures at;
  };
  next = (refl, lit< tt);
}

pub returns-clause-kept : goal.returns-clause-kept
returns-clause-kept c =
    let arrays = ap length c.new-2.ensures in
    let extents = ap length c.new-3.ensures in
    record {
      count = ap length c.new.ensures;
      lengths = extents ∙ sym arrays;
      flags = ap length c.new-4.ensures ∙ sym arrays;
      fewer = omega (arith, arrays);
      near = λ first at. (let same : 10240 ≡ first = cc in omega (arith, same));
      ordered = record {
        least = λ n e at. none_in _ n e c.new-3.ensures at;
        follow = λ m n e g before at_e at_g. none_in _ m e c.new-3.ensures at_e;
      };
      behind_all = λ first at. (let same : 10240 ≡ first = cc in record {
        least = omega (arith, same);
        past = λ n e got. none_in _ n e c.new-3.ensures got;
      });
      matched = record {
        members = λ n v e place at_v at_e low named. none_in _ n v c.new-2.ensures at_v;
        sizes = λ n v e at_v at_e. none_in _ n v c.new-2.ensures at_v;
      };
    }

pub returns-clause-founded : goal.returns-clause-founded
returns-clause-founded c s seats = no_arrays s seats _ c.new-2.ensures
