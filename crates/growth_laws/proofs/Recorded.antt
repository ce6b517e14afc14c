-- A change of the book by a commit, with the losses of that commit and the mending after it.
use Rattle.std.proofs.Common.{◌≡◌, ℕ, Bool, true, false, not, refl, sym, ◌∙◌}
use Rattle.std.proofs.lemmas.Bool.{and_parts}
use Rattle.rack.specs.Seen.{RackView, SameRack}
use Rattle.array_image.specs.States.{is_current}
use Rattle.raid_laws.specs.Raid.{Raid, gone_in, is_left}
use Rattle.raid_laws.specs.Moves.{AreCaused, IsHeeded, Mends}
use Rattle.raid_laws.proofs.Moving.{caused_then}
use Rattle.raid_laws.proofs.Whole.{heeded_left}
use Rattle.transition_laws.specs.Changes.{Change, changed}
use Rattle.growth_laws.specs.Growing.{GetsLonger, GrowsBy}
use Rattle.growth_laws.specs.Losses.{LosesBook}
use Rattle.growth_laws.proofs.Losing.{loses_as_long, loses_book_then, loses_nothing, longer_then, mends_lose}

-- No place comes by it.
pub recorded_grows : (change : Raid → Change) (Lacks : Raid → Raid → Type 0) (v u w : Raid) (a b c : RackView) (answered : Bool) → IsHeeded v → IsHeeded (changed (change v) v)
    → ((p : ℕ) → is_current (changed (change v) v).state p ≡ is_current v.state p)
    → SameRack a b → LosesBook (changed (change v) v) u → AreCaused (changed (change v) v) u a b → Mends u w b c → GetsLonger v (changed (change v) v)
    → (answered ≡ false → Lacks v w) → GrowsBy change Lacks v w a c answered
recorded_grows change Lacks v u w a b c answered heeded next_heeded same stays loses caused mends longer refused =
    let z : Raid = changed (change v) v in
    let after = loses_book_then z u w loses (mends_lose u w b c mends) in
    let current : (y : Raid) (p : ℕ) → is_left y p ≡ true → is_current y.state p ≡ true = λ y p is. (and_parts (is_current y.state p) (not (gone_in y p)) is).0 in
    record {
      turns = record {
        mid = v;
        before = loses_nothing v;
        is_done = true;
        answer = λ ok. refl;
        after = after;
        refused = refused;
      };
      caused = caused_then v u w a b c stays mends.moves.stays
          (record {
            left = λ p is. heeded_left v p heeded (sym (same p) ∙ current z p (caused.left p is));
            cause = λ p was gone_now. caused.cause p (heeded_left z p next_heeded (same p ∙ current v p was)) gone_now;
          })
          (record { left = mends.moves.left; cause = mends.moves.cause });
      heeded = mends.heeded;
      longer = longer_then v z w longer (loses_as_long z w after);
    }
