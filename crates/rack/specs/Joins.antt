-- Calls in a row join: each lemma takes what two calls did to what both did.
use Rattle.std.specs.Prelude.{◌≡◌, ◌⊎◌, ℕ, ◌<◌, ◌≤◌, List, [], ◌∷◌, ◌++◌, refl}
use Rattle.std.proofs.Common.{sym, ◌∙◌, subst, inl, inr, arith}
use Rattle.std.proofs.lemmas.Bool.{cases_lt}
use Rattle.rack.specs.Values.{Values, Has, MayLeave, Keeps, append}
use Rattle.rack.specs.Seen.{Image, Held, RackView, Rose, IsLive, IsPick, SameRack}
use Rattle.rack.specs.Moments.{Leaves}
use Rattle.rack.specs.Calls.{KeepsAll}

-- nothing changed
pub keeps_same : (h : Values) → Keeps h h
keeps_same h = record { current = refl; within = λ v leaves. leaves }

-- older values may be dropped twice
pub keeps_then : (g h i : Values) → Keeps g h → Keeps h i → Keeps g i
keeps_then g h i first second =
    record {
      current = second.current ∙ first.current;
      within = λ v leaves. first.within v (second.within v leaves);
    }

-- the last of a list stands in it
pub has_last : (xs : List (List ℕ)) (v : List ℕ) → Has (xs ++ v ∷ []) v
has_last [] v = inl refl
has_last (x ∷ xs) v = inr (has_last xs v)

-- what stands in a list stands in a longer one
pub has_longer : (xs : List (List ℕ)) (v w : List ℕ) → Has xs w → Has (xs ++ v ∷ []) w
has_longer [] v w has = absurd has
has_longer (x ∷ xs) v w (inl here) = inl here
has_longer (x ∷ xs) v w (inr there) = inr (has_longer xs v w there)

-- what stands in a list and one more stands in the list or is that one
pub has_shorter : (xs : List (List ℕ)) (v w : List ℕ) → Has (xs ++ v ∷ []) w → (w ≡ v) ⊎ Has xs w
has_shorter [] v w (inl last) = inl last
has_shorter [] v w (inr none) = absurd none
has_shorter (x ∷ xs) v w (inl here) = inr (inl here)
has_shorter (x ∷ xs) v w (inr there) =
    elim (has_shorter xs v w there) [ inl last ↦ inl last | inr has ↦ inr (inr has) ]

-- what a stop may leave it may leave after a write
pub may_leave-append : (h : Values) (v w : List ℕ) → MayLeave h w → MayLeave (append h v) w
may_leave-append h v w (inl now) =
    inr (subst (λ u. Has (h.older ++ h.current ∷ []) u) (sym now) (has_last h.older h.current))
may_leave-append h v w (inr before) = inr (has_longer h.older h.current w before)

-- after a write it may leave the value written, or what it might before
pub append-may_leave : (h : Values) (v w : List ℕ) → MayLeave (append h v) w → (w ≡ v) ⊎ MayLeave h w
append-may_leave h v w (inl now) = inl now
append-may_leave h v w (inr before) = inr (has_shorter h.older h.current w before)

-- a write after values were dropped
pub keeps_append : (g h : Values) (v : List ℕ) → Keeps g h → Keeps (append g v) (append h v)
keeps_append g h v keeps =
    record {
      current = refl;
      within =
          λ w leaves.
          elim (append-may_leave h v w leaves) [
            | inl now ↦ inl now
            | inr before ↦ may_leave-append g v w (keeps.within w before)
          ];
    }

-- a count that rose since a later call rose since an earlier one
pub rose_since : {a b c : ℕ} → a ≤ b → Rose b c → Rose a c
rose_since before (inl rose) = inl (omega arith)
rose_since before (inr stands) = inr stands

-- and one that rose before a later call rose until after it
pub rose_before : {a b c : ℕ} → b ≤ c → Rose a b → Rose a c
rose_before after (inl rose) = inl (omega arith)
rose_before after (inr stands) = inr (omega arith)

-- nothing was called
pub stays_same : (x : RackView) → x.fit → SameRack x x
stays_same x fit =
    record {
      fit = fit;
      disks = refl;
      sectors = λ d. refl;
      faults = λ d. omega arith;
      spent = λ d s unspent. unspent;
      lasting = λ lasting. lasting;
      lasts = λ lasting d s unspent. unspent;
      steady = λ steady. steady;
      told = λ d told. told;
      traced = λ traced. traced;
    }

-- what no call changes, two calls don't
pub stays_then : {a b c : RackView} → SameRack a b → SameRack b c → SameRack a c
stays_then first second =
    record {
      fit = second.fit;
      disks = second.disks ∙ first.disks;
      sectors = λ d. second.sectors d ∙ first.sectors d;
      faults = λ d. let one = first.faults d in let two = second.faults d in omega arith;
      spent = λ d s unspent. first.spent d s (second.spent d s unspent);
      lasting = λ lasting. second.lasting (first.lasting lasting);
      lasts =
          λ lasting d s unspent.
          second.lasts (first.lasting lasting) d s (first.lasts lasting d s unspent);
      steady = λ steady. second.steady (first.steady steady);
      told = λ d told. second.told d (first.told d told);
      traced = λ traced. second.traced (first.traced traced);
    }

-- a disk whose faults rose later did so over the whole time
pub rose_later :
    (a b c : RackView) (disk : ℕ) → SameRack a b → Rose (b.faults disk) (c.faults disk) → Rose (a.faults disk) (c.faults disk)
rose_later a b c disk first rose = rose_since (first.faults disk) rose

-- and one whose faults rose early did too
pub rose_early :
    (a b c : RackView) (disk : ℕ) → SameRack b c → Rose (a.faults disk) (b.faults disk) → Rose (a.faults disk) (c.faults disk)
rose_early a b c disk second rose = rose_before (second.faults disk) rose

-- a sector that is live over two calls is live over the first
pub live_first : {a b c : RackView} {d s : ℕ} → SameRack b c → IsLive a c d s → IsLive a b d s
live_first {a} {b} {c} {d} {s} second live =
    record {
      disk = subst (λ n. d < n) second.disks live.disk;
      sector = subst (λ n. s < n) (second.sectors d) live.sector;
      is_told = live.is_told;
      unspent = second.spent d s live.unspent;
    }

-- and over the second
pub live_second : {a b c : RackView} {d s : ℕ} → SameRack a b → IsLive a c d s → IsLive b c d s
live_second {a} {b} {c} {d} {s} first live =
    record {
      disk = live.disk;
      sector = live.sector;
      is_told = first.told d live.is_told;
      unspent = live.unspent;
    }

-- a property of what stops leave may be weakened
pub leaves_weaker :
    {a b : RackView} (P Q : Image → Type 0) → ((c : Image) → P c → Q c) → Leaves a b P → Leaves a b Q
leaves_weaker P Q weaker leaves =
    record {
      later = leaves.later;
      kept = leaves.kept;
      past = leaves.past;
      new = λ k c after until stops. weaker c (leaves.new k c after until stops);
    }

-- no time has passed
pub leaves_same : (a : RackView) (P : Image → Type 0) → Leaves a a P
leaves_same a P =
    record {
      later = omega arith;
      kept = λ k c until stops. stops;
      past = λ k c until stops. stops;
      new = λ k c after until stops. absurd (omega arith);
    }

-- stops in two calls in a row
pub leaves_then :
    {a b c : RackView} (P : Image → Type 0) → Leaves a b P → Leaves b c P → Leaves a c P
leaves_then {a} {b} {c} P first second =
    record {
      later = let one = first.later in let two = second.later in omega arith;
      kept =
          λ k i until stops.
          let one = first.later in
          second.kept k i (omega arith) (first.kept k i until stops);
      past =
          λ k i until stops.
          let one = first.later in
          first.past k i until (second.past k i (omega arith) stops);
      new =
          λ k i after until stops.
          elim (cases_lt b.clock k) [
            | inl late ↦ second.new k i late until stops
            | inr early ↦ first.new k i after early (second.past k i early stops)
          ];
    }

-- a pick of the values that a call kept is a pick of the values before it
pub pick_kept :
    {a b c : RackView} (old new : Held)
    → SameRack a b
    → SameRack b c
    → ((d s : ℕ) → IsLive a b d s → Keeps (old d s) (new d s))
    → (i : Image)
    → IsPick b c new i
    → IsPick a c old i
pick_kept {a} {b} {c} old new first second kept i pick d s live =
    (kept d s (live_first second live)).within (i d s) (pick d s (live_second first live))

-- a pick over a longer time is one over the first part of it
pub pick_longer :
    {a b c : RackView} (held : Held) (i : Image) → SameRack b c → IsPick a b held i → IsPick a c held i
pick_longer held i second pick d s live = pick d s (live_first second live)

-- calls that bring no value, in a row
pub keeps_all_then :
    {a b c : RackView} → SameRack a b → SameRack b c → KeepsAll a b → KeepsAll b c → KeepsAll a c
keeps_all_then {a} {b} {c} first second one two =
    record {
      held =
          λ d s live.
          keeps_then
          _
          _
          _
          (one.held d s (live_first second live))
          (two.held d s (live_second first live));
      stops =
          λ traced.
          leaves_then
          (IsPick a c a.held)
          (leaves_weaker
          (IsPick a b a.held)
          (IsPick a c a.held)
          (λ i pick. pick_longer a.held i second pick)
          (one.stops traced))
          (leaves_weaker
          (IsPick b c b.held)
          (IsPick a c a.held)
          (λ i pick. pick_kept a.held b.held first second one.held i pick)
          (two.stops (first.traced traced)));
    }
