-- Calls that write to some sectors of a disk alone.
use Rattle.std.proofs.Common.{◌≡◌, ◌≢◌, ℕ, ◌<◌, List, Some, subst, inl, inr, ⊎_elim}
use Rattle.rack.specs.Values.{MayLeave}
use Rattle.rack.specs.Seen.{RackView, IsLive, IsPick, SameRack}
use Rattle.rack.specs.Joins.{keeps_then, leaves_weaker, leaves_then, stays_then, live_first, live_second}
use Rattle.rack.specs.Sequences.{OnlyReads}
use Rattle.rack.specs.Sequences.{MayBecome}
use Rattle.gpt_table.specs.Calls.{Plan, IsPlanned, Follows}
use Rattle.gpt_table.specs.Disk.{Contents}
use Rattle.gpt_table.specs.Changes.{IsElsewhere, IsLeftover, Changes}

-- a sector that is live in a later call was live before it
pub live_back : {a b c : RackView} {d s : ℕ} → SameRack a b → SameRack b c → a.told d → IsLive b c d s → IsLive a b d s
live_back {a} {b} {c} {d} {s} first second told live = record {
  disk = subst (λ n. d < n) second.disks live.disk;
  sector = subst (λ n. s < n) (second.sectors d) live.sector;
  is_told = told;
  unspent = second.spent d s live.unspent;
}

-- and is live over both
pub live_both : {a b c : RackView} {d s : ℕ} → a.told d → IsLive b c d s → IsLive a c d s
live_both told live = record { disk = live.disk; sector = live.sector; is_told = told; unspent = live.unspent }

-- what follows a plan for some sectors changes these alone
pub changes_from : (a b : RackView) (disk : ℕ) (of : ℕ → Type 0) (plan : Plan) (P : Contents → Type 0) → Follows a b disk plan →
    ((s : ℕ) (v : List ℕ) → plan s ≡ Some v → of s) →
    (((s : ℕ) → of s → IsLive a b disk s) → (contents : Contents) → ((s : ℕ) → of s → MayBecome a (IsPlanned disk plan) disk s (contents s)) → P contents) →
    Changes a b disk of P
changes_from a b disk of plan P follows within says = record {
  stays = follows.stays;
  others = λ d s live elsewhere.
      follows.others d s live
      (λ v planned. ⊎_elim (λ (differs : d ≢ disk). differs planned.0) (λ (outside : of s → ⊥). outside (within s v planned.1)) elsewhere);
  stops = λ traced.
      leaves_weaker (λ i. (d s : ℕ) → IsLive a b d s → MayBecome a (IsPlanned disk plan) d s (i d s)) (IsLeftover a b disk of P)
      (λ i may. (
        (λ d s live elsewhere. old d s (i d s) elsewhere (may d s live)),
        (λ live. says live (i disk) (λ s among. may disk s (live s among))),
      ))
      (follows.stops traced);
  held = λ live contents pick. says live contents (λ s among. follows.within disk s (contents s) (live s among) (pick s among));
} where
  old : (d s : ℕ) (v : List ℕ) → IsElsewhere disk of d s → MayBecome a (IsPlanned disk plan) d s v → MayLeave (a.held d s) v
  old d s v elsewhere may =
      ⊎_elim (λ (was : MayLeave (a.held d s) v). was)
      (λ (new : (d ≡ disk) × (plan s ≡ Some v)).
      ⊎_elim (λ (differs : d ≢ disk). absurd (differs new.0))
      (λ (outside : of s → ⊥). absurd (outside (within s v new.1))) elsewhere)
      may

-- reads change nothing
pub changes_read : (a b : RackView) (disk : ℕ) (of : ℕ → Type 0) (P : Contents → Type 0) → OnlyReads a b →
    (((s : ℕ) → of s → IsLive a b disk s) → (contents : Contents) → ((s : ℕ) → of s → MayLeave (a.held disk s) (contents s)) → P contents) →
    Changes a b disk of P
changes_read a b disk of P reads says = record {
  stays = reads.stays;
  others = λ d s live elsewhere. reads.keeps.held d s live;
  stops = λ traced.
      leaves_weaker (IsPick a b a.held) (IsLeftover a b disk of P)
      (λ i pick. ((λ d s live elsewhere. pick d s live), (λ live. says live (i disk) (λ s among. pick disk s (live s among)))))
      (reads.keeps.stops traced);
  held = λ live contents pick. says live contents (λ s among. (reads.keeps.held disk s (live s among)).within (contents s) (pick s among));
}

-- changes in a row
pub changes_join : (a b c : RackView) (disk : ℕ) (of : ℕ → Type 0) (P : Contents → Type 0) → Changes a b disk of P → Changes b c disk of P →
    Changes a c disk of P
changes_join a b c disk of P first second = record {
  stays = stays_then first.stays second.stays;
  others = λ d s live elsewhere.
      keeps_then _ _ _ (first.others d s (live_first second.stays live) elsewhere) (second.others d s (live_second first.stays live) elsewhere);
  stops = λ traced.
      leaves_then (IsLeftover a c disk of P)
      (leaves_weaker (IsLeftover a b disk of P) (IsLeftover a c disk of P)
      (λ i left. (
        (λ d s live elsewhere. left.0 d s (live_first second.stays live) elsewhere),
        (λ live. left.1 (λ s among. live_first second.stays (live s among))),
      ))
      (first.stops traced))
      (leaves_weaker (IsLeftover b c disk of P) (IsLeftover a c disk of P)
      (λ i left. (
        (λ d s live elsewhere.
            (first.others d s (live_first second.stays live) elsewhere).within (i d s) (left.0 d s (live_second first.stays live) elsewhere)),
        (λ live. left.1 (λ s among. live_second first.stays (live s among))),
      ))
      (second.stops (first.stays.traced traced)));
  held = λ live contents pick. second.held (λ s among. live_second first.stays (live s among)) contents pick;
}

-- changes of some sectors are changes of more, and say what follows
pub changes_wider : (a b : RackView) (disk : ℕ) (of wide : ℕ → Type 0) (P Q : Contents → Type 0) → Changes a b disk of P → ((s : ℕ) → of s → wide s) →
    (((s : ℕ) → wide s → IsLive a b disk s) → (contents : Contents) →
    ((s : ℕ) → wide s → (of s → ⊥) → MayLeave (a.held disk s) (contents s)) → P contents → Q contents) →
    Changes a b disk wide Q
changes_wider a b disk of wide P Q changes part says = record {
  stays = changes.stays;
  others = λ d s live elsewhere. changes.others d s live (narrow d s elsewhere);
  stops = λ traced.
      leaves_weaker (IsLeftover a b disk of P) (IsLeftover a b disk wide Q)
      (λ i left. (
        (λ d s live elsewhere. left.0 d s live (narrow d s elsewhere)),
        (λ live.
            says live (i disk) (λ s among outside. left.0 disk s (live s among) (inr outside))
            (left.1 (λ s among. live s (part s among)))),
      ))
      (changes.stops traced);
  held = λ live contents pick.
      says live contents (λ s among outside. (changes.others disk s (live s among) (inr outside)).within (contents s) (pick s among))
      (changes.held (λ s among. live s (part s among)) contents (λ s among. pick s (part s among)));
} where
  narrow : (d s : ℕ) → IsElsewhere disk wide d s → IsElsewhere disk of d s
  narrow d s elsewhere =
      ⊎_elim (λ (differs : d ≢ disk). inl differs) (λ (outside : wide s → ⊥). inr (λ among. outside (part s among))) elsewhere
