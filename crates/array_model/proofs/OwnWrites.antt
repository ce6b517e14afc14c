-- Writes of an array to its own slices, past the log: images turn in its own sectors alone.
use Rattle.std.proofs.Common.{◌≡◌, ◌≢◌, ℕ, ◌+◌, Bool, true, false, ◌==◌, if◌then◌else◌, List, refl, inl, inr, eq-eqb, eqb-true, arith, []}
use Rattle.std.proofs.lemmas.Bool.{both_ways}
use Rattle.rack.specs.Values.{MayLeave}
use Rattle.rack.specs.Seen.{Image, RackView, SameRack}
use Rattle.array_image.specs.Places.{slice_of, log_slice}
use Rattle.rack.specs.Targets.{Target}
use Rattle.array_image.specs.Arrays.{replayed}
use Rattle.array_image.proofs.Replays.{SameLogs, calm_same, inside_same, replayed_same, whole_same}
use Rattle.array_image.specs.Left.{reading, IsInside, Picks}
use Rattle.array_model.specs.ArrayCalls.{ImageInCall}
use Rattle.rack.specs.Sequences.{IsPayload, IsMix}
use Rattle.array_model.proofs.Keeping.{reading_live, reading_outside, live_on, logs_of}

-- all targets lie in the slices of an array
abbrev pub OnlyOwn : List Target → ℕ → Type 0
OnlyOwn xs array = (d t : ℕ) (v : List ℕ) → IsPayload xs d t v → slice_of d ≡ array + 1

-- contents with an array's slices as they read before
abbrev pub without_own : ℕ → RackView → Image → Image
without_own array a c d t = if slice_of d == array + 1 then reading a d t else c d t

pub kept_other : (array : ℕ) (a : RackView) (c : Image) (d t : ℕ) → slice_of d ≢ array + 1 → c d t ≡ without_own array a c d t
kept_other array a c d t other =
    let Goal : Bool → Type 0 = λ b. (slice_of d == array + 1) ≡ b → c d t ≡ (if b then reading a d t else c d t) in
    let goal : Goal (slice_of d == array + 1) =
    elim (slice_of d == array + 1) as Goal [ true ↦ λ is. absurd (other (eqb-true (slice_of d) (array + 1) is)) | false ↦ λ no. refl ] in
    goal refl

own_picks : (array : ℕ) (a b : RackView) (xs : List Target) (c : Image) → a.lasting → SameRack a b → OnlyOwn xs array → IsInside a.sectors c → IsMix a b (IsPayload xs) c
    → Picks a (without_own array a c)
own_picks array a b xs c lasting stays own inside mix =
    record {
      picks = λ d t live.
          let Goal : Bool → Type 0 = λ test. (slice_of d == array + 1) ≡ test → MayLeave (a.held d t) (if test then reading a d t else c d t) in
          let goal : Goal (slice_of d == array + 1) =
          elim (slice_of d == array + 1) as Goal [
            | true ↦ λ is. inl (reading_live a d t live)
            | false ↦ λ no.
                elim (mix d t (live_on lasting stays live)) [
                  | inl old ↦ old
                  | inr new ↦ absurd (both_ways (slice_of d == array + 1) no (eq-eqb (slice_of d) (array + 1) (own d t (c d t) new)))
                ]
          ] in
          goal refl;
      inside = λ d t out.
          elim (slice_of d == array + 1) as (λ test. (if test then reading a d t else c d t) ≡ []) [
            | true ↦ reading_outside a d t out
            | false ↦ inside d t out
          ];
    }

pub log_other : (place array : ℕ) → slice_of (log_slice place) ≢ array + 1
log_other place array same = absurd (omega (arith, same))

-- whatever has P in its own slices turns there alone
pub own_writes : (array : ℕ) (a b : RackView) (xs : List Target) (P : Image → Type 0) (c : Image)
    → a.lasting → SameRack a b → OnlyOwn xs array → IsInside a.sectors c → IsMix a b (IsPayload xs) c → P (replayed a.sectors c) → ImageInCall array a b P c
own_writes array a b xs P c lasting stays own inside mix has =
    let e = without_own array a c in
    let picks = own_picks array a b xs c lasting stays own inside mix in
    let logs : SameLogs c e = λ place u. kept_other array a c (log_slice place) u (log_other place array) in
    record {
      before = replayed a.sectors e;
      left = (e, picks, λ d t. refl);
      others = λ d t apart. replayed_same a.sectors c e d t logs (kept_other array a c d t apart.0);
      own = has;
      whole = whole_same c e logs;
      calm = λ calm. calm_same array c e logs (calm e (logs_of e picks));
      bounded = λ bounded. inside_same a.sectors c e logs (bounded e (logs_of e picks));
    }
