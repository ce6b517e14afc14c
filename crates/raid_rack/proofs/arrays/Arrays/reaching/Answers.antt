use Rattle.std.proofs.Common.{◌≡◌, ℕ, ◌+◌, List, [], ◌∷◌, ◌<◌, ◌++◌, Bool, true, false, not, nat_le, cond, get_or, length, if◌then◌else◌, refl, sym, ap, ap₂, ◌∙◌, arith}
use Rattle.std.specs.Option.{option_map_or}
use Rattle.std.proofs.lemmas.Option.{slice_get-get_or}
use Rattle.pool_state.specs.declared.contents.Drive.{Drive}
use Rattle.log_laws.proofs.Naming.{filter_more}
use Rattle.growth_laws.specs.NewArrays.{reaches}
use Rattle.raid_rack.proofs.arrays.Arrays.reaching.Goals as goal

pub loop-place-preserved : goal.loop-place-preserved
loop-place-preserved c =
    let s = c.args.self.now.state in
    let k = c.top-top.result + c.args.height in
    let n = c.loop-place.place in
    let low : n < length s.drives.items = omega arith in
    let reached : c.reaches.result ≡ reaches s k n =
    c.reaches.ensures ∙ ap (λ (ds : List Drive). nat_le k (get_or ds n _).units) c.deref.ensures.0
    ∙ sym (ap (λ o. option_map_or (λ drive. nat_le k drive.units) o false) (slice_get-get_or s.drives.items n _ low)) in
    record {
      places =
          c.push_unless.ensures.items
          ∙ ap₂ (λ (ns ms : List ℕ). ns ++ ms) c.loop-place.invariant.places (ap (λ b. if not b then [] else n ∷ []) reached ∙ by n (reaches s k n))
          ∙ sym (filter_more (reaches s k) n);
      few = omega arith;
    }
  where
    by : (n : ℕ) (b : Bool) → (if not b then [] else n ∷ []) ≡ cond b (n ∷ []) []
    by n true = refl
    by n false = refl
