-- What each image has that a stop leaves, at each moment of a part of a call and after it.
use Rattle.std.proofs.Common.{◌≡◌, ℕ, ◌<◌, refl}
use Rattle.rack.specs.Seen.{Image, RackView, IsPick}
use Rattle.rack.specs.Joins.{leaves_same, leaves_weaker}
use Rattle.rack.specs.Moments.{Leaves}
use Rattle.rack.specs.Sequences.{OnlyReads}
use Rattle.array_image.specs.Arrays.{replayed}
use Rattle.array_image.specs.Left.{PendingOnlyFor, IsInside, IsLeft}
use Rattle.array_image.specs.Places.{log_slice, member_slice}
use Rattle.array_image.specs.States.{state_in}
use Rattle.array_image.proofs.Frames.{Agree, state_same}
use Rattle.array_model.specs.ArrayCalls.{ImageInCall}
use Rattle.array_model.proofs.Keeping.{left_before, pick_before}
use Rattle.array_model.proofs.Moves.{CallRefines as CallMoves}
use Rattle.array_model.proofs.Others.{apart_left, other_apart, state_apart}
use Rattle.raid_laws.proofs.Leaving.{leaves_both}

-- it goes by the states and by the slices of array n
abbrev pub GoesBy : ℕ → (Image → Type 0) → Type 0
GoesBy n P = (r e : Image) → state_in r ≡ state_in e → Agree n r e → P e → P r

-- each image has it before some calls
abbrev pub HasBefore : (Image → Type 0) → RackView → Type 0
HasBefore P a = (r : Image) → IsLeft a r → P r

-- each has it meanwhile, and after them
pub record HasEach (P : Image → Type 0) (a b : RackView) : Type 0 where
  pub leaves : a.traced → Leaves a b (λ c. IsInside a.sectors c → P (replayed a.sectors c))
  pub after : (r : Image) → IsLeft b r → P r

pub each_weaker : (P Q : Image → Type 0) (a b : RackView) → ((r : Image) → P r → Q r) → HasEach P a b → HasEach Q a b
each_weaker P Q a b weaker each = record {
  leaves = λ traced.
      leaves_weaker (λ c. IsInside a.sectors c → P (replayed a.sectors c)) (λ c. IsInside a.sectors c → Q (replayed a.sectors c))
      (λ c has inside. weaker (replayed a.sectors c) (has inside)) (each.leaves traced);
  after = λ r left. weaker r (each.after r left);
}

pub each_both : (P Q : Image → Type 0) (a b : RackView) → HasEach P a b → HasEach Q a b → HasEach (λ r. P r × Q r) a b
each_both P Q a b one two = record {
  leaves = λ traced.
      let First : Image → Type 0 = λ c. IsInside a.sectors c → P (replayed a.sectors c) in
      let Second : Image → Type 0 = λ c. IsInside a.sectors c → Q (replayed a.sectors c) in
      leaves_weaker (λ c. First c × Second c) (λ c. IsInside a.sectors c → P (replayed a.sectors c) × Q (replayed a.sectors c))
      (λ c both inside. (both.0 inside, both.1 inside)) (leaves_both First Second (one.leaves traced) (two.leaves traced));
  after = λ r left. (one.after r left, two.after r left);
}

-- where nothing is called
pub each_still : (P : Image → Type 0) (x : RackView) → HasBefore P x → HasEach P x x
each_still P x images = record {
  leaves = λ traced. leaves_same x (λ c. IsInside x.sectors c → P (replayed x.sectors c));
  after = images;
}

-- calls that write nothing
pub each_read : (P : Image → Type 0) (a b : RackView) → a.lasting → OnlyReads a b → HasBefore P a → HasEach P a b
each_read P a b lasting reads images = record {
  leaves = λ traced.
      leaves_weaker (IsPick a b a.held) (λ c. IsInside a.sectors c → P (replayed a.sectors c))
      (λ c pick inside. images (replayed a.sectors c) (c, pick_before lasting reads.stays c inside pick, λ d t. refl)) (reads.keeps.stops traced);
  after = λ r left. images r (left_before lasting reads.stays (λ d t live. reads.keeps.held d t live) r left);
}

-- a call of another array, k
pub each_other : (P : Image → Type 0) (a b : RackView) (n k : ℕ) (H Q : Type 0) (during : Image → Type 0)
    → GoesBy n P → k < 16 → n < 16 → (n ≡ k → ⊥) → a.lasting → CallMoves k a b H during Q → PendingOnlyFor k a → HasBefore P a → HasEach P a b
each_other P a b n k H Q during by small also apart lasting acts calm images = record {
  leaves = λ traced.
      leaves_weaker
      (λ c. IsInside a.sectors c → ImageInCall k a b (λ r. H → during r) c)
      (λ c. IsInside a.sectors c → P (replayed a.sectors c))
      (λ c turn inside.
      let turns = turn inside in
      by (replayed a.sectors c) turns.before
      (state_same (replayed a.sectors c) turns.before (λ place. turns.others (log_slice place) 0 (state_apart k place)))
      (λ place t. turns.others (member_slice place n) t (other_apart k n place t small also apart))
      (images turns.before turns.left))
      (acts.leaves traced);
  after = λ r left.
      let at = apart_left k lasting acts.stays acts.apart calm (acts.calm calm) r left in
      by r at.0
      (state_same r at.0 (λ place. at.2 (log_slice place) 0 (state_apart k place)))
      (λ place t. at.2 (member_slice place n) t (other_apart k n place t small also apart))
      (images at.0 at.1);
}
