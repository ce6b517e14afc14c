-- A run that stands by a book, as calls of one array find it.
use Rattle.std.proofs.Common.{◌≡◌, ℕ, ◌<◌, true, false, ◌&&◌, None, Some, unwrap_or, sym, ap, subst, ◌∙◌, arith}
use Rattle.rack.specs.Values.{Values}
use Rattle.rack.specs.Seen.{Image, RackView}
use Rattle.md_super.specs.declared.superblock.Super.{Super}
use Rattle.array_image.specs.Arrays.{place_with, replayed, Shape}
use Rattle.array_image.specs.Left.{NothingPending, IsLeft}
use Rattle.array_image.specs.Supers.{super_in, truth_in}
use Rattle.array_model.specs.Says.{ArrayInvariant, ShapeInvariant, IsEarlier}
use Rattle.array_model.specs.View.{may_vary, shape_of}
use Rattle.transition_laws.specs.Holds.{Promise, RestsArray, rows_for, Stands, StandsArray, spent_at, view_for}
use Rattle.raid_laws.specs.Raid.{gone_in, Raid, InvariantInCall}
use Rattle.transition_laws.proofs.ArraysFor.{shape_for, whole_for}
use Rattle.transition_laws.proofs.Shown.{rests_same, stands_shape}

pub earlier_then : (t u w : Super) → IsEarlier t u → IsEarlier u w → IsEarlier t w
earlier_then t u w one two = record { fields = one.fields ∙ two.fields; events = let first = one.events in let second = two.events in omega (arith, first, second) }

module _ (d v : Raid) (p : Promise) (vals : ℕ → ℕ → Values) (x : RackView) (stands : Stands d v p vals x) (n : ℕ) (live : p.live n ≡ true) (low : n < d.state.made) where
  at : StandsArray (d.arrays n) (v.arrays n) n (vals n) p x
  at = stands.arrays n live low

  shown : (r : Image) → IsLeft x r → RestsArray d.state (d.arrays n) p n (vals n) r
  shown r left = rests_same d.state (d.arrays n) p n (vals n) r (replayed x.sectors left.0) (λ place t. left.2 _ t) at.book_number (stands.images left.0 left.1 n live low)

  own : (r : Image) (u : Super) → truth_in d.state r (v.arrays n).number ≡ Some u → truth_in d.state r n ≡ Some u
  own r u is = subst (λ k. truth_in d.state r k ≡ Some u) at.number is

  -- what calls of the array ask for, as the promise has it
  pub holds_of : ArrayInvariant d.state (shape_of (d.arrays n)) (view_for p (v.arrays n)) (vals n) (spent_at p n (d.arrays n)) x
  holds_of = record {
    shape = subst (λ k. ShapeInvariant d.state k (shape_of (d.arrays n)) (shape_of (view_for p (v.arrays n))) (rows_for p (v.arrays n)) (may_vary (v.arrays n)) (vals n) (spent_at p n (d.arrays n)) x) (sym at.number)
        (subst (λ (sh : Shape). ShapeInvariant d.state n (shape_of (d.arrays n)) sh (rows_for p (v.arrays n)) (may_vary (v.arrays n)) (vals n) (spent_at p n (d.arrays n)) x) (sym (shape_for p (v.arrays n)))
        (stands_shape d v p vals x stands n live low));
    mark = λ marked r left u is. (shown r left).mark (at.mark marked) u (own r u is);
    alone = λ r left place current other.
        subst (λ k. super_in d.state r k place ≡ None) (at.book_number ∙ sym at.number)
        ((shown r left).alone place current
        (λ k few here. other k (subst (λ m. k < m) (sym at.disks) few) (ap (λ roles. unwrap_or (place_with roles k) 16) at.roles ∙ here)));
    closed = λ none. subst (λ k. NothingPending k x) (sym at.number) (at.closed none);
    truth = λ r left u is. earlier_then u (d.arrays n).truth (v.arrays n).truth ((shown r left).truth u (own r u is)) at.truth;
  }

  -- and one that isn't young
  pub holds_grown : (p.growing && (v.arrays n).young) ≡ false → ArrayInvariant d.state (shape_of (d.arrays n)) (v.arrays n) (vals n) (spent_at p n (d.arrays n)) x
  holds_grown old = subst (λ u. ArrayInvariant d.state (shape_of (d.arrays n)) u (vals n) (spent_at p n (d.arrays n)) x) (whole_for p (v.arrays n) old) holds_of

  pub stood_of : (p.growing && (v.arrays n).young) ≡ false → n < d.state.joined → InvariantInCall d.state (shape_of (d.arrays n)) (vals n) (spent_at p n (d.arrays n)) (gone_in v) v x n
  stood_of old ready = record {
    joined = ready;
    few = stands.few;
    number = at.number;
    log = stands.log;
    someone = stands.someone;
    written = at.written;
    holds = holds_grown old;
  }
