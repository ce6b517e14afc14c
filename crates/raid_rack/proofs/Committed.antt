-- The code that commits a state, with superblocks or without, on all places that the state has as current.
use Rattle.std.proofs.Common.{◌≡◌, ℕ, ◌<◌, ◌≤◌, true, false, not, List, get_or, length, slice_get, option_map, refl, sym, ap, subst, ◌∙◌, arith}
use Rattle.std.proofs.lemmas.Bool.{and_parts}
use Rattle.std.specs.List.{list_any, range_with_len}
use Rattle.arrayvec.specs.ArrayVec.{ArrayVec}
use Rattle.rack.specs.Seen.{RackView}
use Rattle.pool_state.specs.declared.contents.State.{State}
use Rattle.array_image.specs.States.{is_current}
use Rattle.log_laws.specs.View.{LogView, names, next_number}
use Rattle.log_laws.specs.Commits.{CommitCall}
use Rattle.array_model.specs.View.{View}
use Rattle.array_core.specs.Seats.{gone as without}
use Rattle.raid_laws.specs.Moves.{AreCaused, IsSet, RaisesBy}
use Rattle.raid_laws.specs.Missing.{raised}
use Rattle.raid_laws.specs.Raid.{Raid, gone_in, is_empty, is_left, is_used_up}
use Rattle.raid_laws.proofs.Added.{names_current}
use Rattle.raid_laws.proofs.Over.{not_false, or_parts}
use Rattle.raid_laws.proofs.Ranges.{any_some}
use Rattle.growth_laws.specs.Growing.{is_ended}
use Rattle.growth_laws.specs.Losses.{LosesBook}
use Rattle.growth_laws.specs.Stating.{CommitsState}
use Rattle.growth_laws.proofs.Stating.{AreStated, IsStating, after_stating, stating_caused, stating_loses, stating_raises, stating_set}
use Rattle.raid_rack.specs.declared.arrays.Arrays.{Arrays}
use Rattle.raid_rack.specs.RaidRack.{IsRunning, no_array, raid_by}
use Rattle.raid_rack.proofs.Mended.{each_get}
use Rattle.raid_rack.proofs.Raises.{raised_up}

-- What it makes of the arrays, before losses are mended: losses alone.
pub record HasCommitted (a b : Arrays) (x y : RackView) : Type 0 where
  pub running : IsRunning b y
  pub commits : CommitsState (raid_by a) (raid_by b) a.log.added x y
  pub loses : LosesBook (raid_by a) (raid_by b)
  pub caused : AreCaused (raid_by a) (raid_by b) x y
  pub raises : RaisesBy 1 (raid_by a) (raid_by b)

pub has_committed : (a : Arrays) (all : ArrayVec View) (log l : LogView) (on gone : List ℕ) (x y : RackView) → length a.all.items ≡ a.state.made
    → AreStated (raid_by a) on a.log.added l.added x → l.number ≡ a.log.number → CommitCall l on gone x y
    → ((n : ℕ) → slice_get all.items n ≡ option_map (without gone) (slice_get a.all.items n)) → length all.items ≡ length a.all.items
    → log.number ≡ next_number l.number → HasCommitted a (record a { all = all; log = log }) x y
has_committed a all log l on gone x y count stated number call each same next =
    let v = raid_by a in
    let f : ℕ → View = λ n. get_or all.items n no_array in
    let commit : IsStating v on on gone a.log.added l f x y = record {
      stated = stated;
      number = number;
      fewer = λ p named. sym (names_current v.state p) ∙ ap (λ ps. names ps p) (sym stated.takes_are) ∙ named;
      call = call;
      arrays = λ n low. each_get (without gone) a.all.items all.items n each (omega (arith, low, count));
    } in
    let back = sym next in
    let whole : after_stating v (next_number l.number) f ≡ raid_by (record a { all = all; log = log }) =
    λ i. record { state = a.state; arrays = f; number = back i } in
    record {
      commits = record {
        on = on;
        gone = gone;
        log = l;
        on_is = stated.takes_are;
        copies = stated.copies;
        number = number;
        call = call;
        arrays = commit.arrays;
        state = refl;
        next = next;
      };
      running = record { count = same ∙ count; set = subst (λ (w : Raid). IsSet w y) whole (stating_set v on on gone a.log.added l f x y commit) };
      loses = subst (λ (w : Raid). LosesBook v w) whole (stating_loses v on on gone a.log.added l f x y commit);
      caused = subst (λ (w : Raid). AreCaused v w x y) whole (stating_caused v on on gone a.log.added l f x y commit);
      raises = subst (λ (w : Raid). RaisesBy 1 v w) whole (stating_raises v on on gone a.log.added l f x y commit);
    }

-- ---- a change that it commits

-- a place is current where it isn't ended
pub current_left : (v : Raid) → is_ended v ≡ false → (place : ℕ) × (is_current v.state place ≡ true)
current_left v goes =
    let some = any_some (is_left v) 0 16 (not_false (list_any (is_left v) (range_with_len 0 16)) (or_parts (is_empty v) (is_used_up v) goes).0) in
    (some.0, (and_parts (is_current v.state some.0) (not (gone_in v some.0)) some.3).0)

-- a changed book of the next epoch, the commit and the mending raise the numbers that end by so many at most
pub committed_raises : (v : Raid) (a b c : Arrays) → v.state.made ≤ a.state.made → a.log.number ≡ v.number → a.state.epoch ≡ raised v.state.epoch
    → ((n : ℕ) → n < v.state.made → ((raid_by a).arrays n).truth.events ≡ (v.arrays n).truth.events)
    → b.state ≡ a.state → RaisesBy 1 (raid_by a) (raid_by b) → RaisesBy 17 (raid_by b) (raid_by c) → RaisesBy 18 v (raid_by c)
committed_raises v a b c more number next events same commit mended = record {
  number = let one = commit.number in let two = mended.number in omega (arith, one, two, number);
  epoch =
      let up = raised_up v.state.epoch in
      let mid = ap (λ (s : State). s.epoch) same in
      let two = mended.epoch in
      omega (arith, next, up, mid, two);
  events = λ n low.
      let start = events n low in
      let counts = ap (λ (s : State). s.made) same in
      let one = commit.events n (omega (arith, low, more)) in
      let two = mended.events n (omega (arith, low, more, counts)) in
      omega (arith, start, one, two);
}
