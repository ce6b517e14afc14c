-- One sector of the log slice of each place: loops over places.
use Rattle.std.proofs.Common.{◌≡◌, ◌⊎◌, ℕ, ◌+◌, ◌<◌, Bool, List, slice_index, ap, ◌∙◌, inl, inr, arith}
use Rattle.std.proofs.lemmas.Bool.{cases_eq, cases_lt}
use Rattle.rack.specs.Seen.{RackView}
use Rattle.array_image.specs.Places.{log_slice}
use Rattle.log_laws.specs.Phases.{Puts, SyncsAll, IsThere, IsLogOf, IsOnEach}
use Rattle.log_laws.proofs.Calling.{calls_weaker, puts_then, syncs_then}

-- one place more
pub log_longer : (on : List ℕ) (i d : ℕ) → IsLogOf on i d → IsLogOf on (i + 1) d
log_longer on i d is = record { at = is.at; below = omega (arith, is.below); slice = is.slice }

pub log_last : (on : List ℕ) (i d : ℕ) → IsLogOf on (i + 1) d → IsLogOf on i d ⊎ (d ≡ log_slice (slice_index on i))
log_last on i d is =
    elim (cases_lt is.at i) [
      | inl early ↦ inl (record { at = is.at; below = early; slice = is.slice })
      | inr late ↦ let last : is.at ≡ i = omega (arith, is.below, late) in inr (is.slice ∙ ap (λ j. log_slice (slice_index on j)) last)
    ]

pub log_among : (on : List ℕ) (many i d : ℕ) → i < many → d ≡ log_slice (slice_index on i) → IsLogOf on many d
log_among on many i d below is = record { at = i; below = below; slice = is }

each_longer : (on : List ℕ) (i sector : ℕ) (block : List ℕ) (d s : ℕ) (v : List ℕ)
    → IsOnEach on i sector block d s v → IsOnEach on (i + 1) sector block d s v
each_longer on i sector block d s v is = record { disk = log_longer on i d is.disk; there = is.there; value = is.value }

each_there : (on : List ℕ) (i sector : ℕ) (block : List ℕ) (d s : ℕ) (v : List ℕ)
    → IsThere (log_slice (slice_index on i)) sector block d s v → IsOnEach on (i + 1) sector block d s v
each_there on i sector block d s v is =
    record { disk = log_among on (i + 1) i d (omega arith) is.disk_is; there = is.there; value = is.value }

each_which : (on : List ℕ) (i sector : ℕ) (block : List ℕ) (d s : ℕ) (w : List ℕ)
    → IsOnEach on (i + 1) sector block d s w
    → IsThere (log_slice (slice_index on i)) sector block d s w
    ⊎ (IsOnEach on i sector block d s w × ((v : List ℕ) → IsThere (log_slice (slice_index on i)) sector block d s v → ⊥))
each_which on i sector block d s w is =
    elim (cases_eq d (log_slice (slice_index on i))) [
      | inl here ↦ inl (record { disk_is = here; there = is.there; value = is.value })
      | inr other ↦
          elim (log_last on i d is.disk) [
            | inl early ↦ inr (record { disk = early; there = is.there; value = is.value }, λ v there. other there.disk_is)
            | inr last ↦ absurd (other last)
          ]
    ]

pub each_then : {a b c : RackView} (on : List ℕ) (many i sector : ℕ) (block : List ℕ) (went between now : ℕ → Bool)
    → i < many
    → Puts a b (IsLogOf on many) (IsOnEach on i sector block) (IsOnEach on i sector block) went between
    → Puts b c (λ d. d ≡ log_slice (slice_index on i)) (IsThere (log_slice (slice_index on i)) sector block)
    (IsThere (log_slice (slice_index on i)) sector block) between now
    → Puts a c (IsLogOf on many) (IsOnEach on (i + 1) sector block) (IsOnEach on (i + 1) sector block) went now
each_then {a} {b} {c} on many i sector block went between now below one two =
    let there : ℕ → ℕ → List ℕ → Type 0 = IsThere (log_slice (slice_index on i)) sector block in
    puts_then (IsLogOf on many) (IsOnEach on i sector block) there (IsOnEach on i sector block) there (IsOnEach on (i + 1) sector block)
    went between now one
    (calls_weaker (λ d. d ≡ log_slice (slice_index on i)) (IsLogOf on many) there there between now (λ d is. log_among on many i d below is) (λ d s v is. is) two.calls)
    (λ d s w live here is. two.last d s w live here is)
    (each_longer on i sector block) (each_there on i sector block) (IsOnEach on (i + 1) sector block) (each_which on i sector block)

pub each_synced : {a b c : RackView} (on : List ℕ) (many i : ℕ) (went between now : ℕ → Bool)
    → i < many
    → SyncsAll a b (IsLogOf on many) (IsLogOf on i) went between
    → SyncsAll b c (λ d. d ≡ log_slice (slice_index on i)) (λ d. d ≡ log_slice (slice_index on i)) between now
    → SyncsAll a c (IsLogOf on many) (IsLogOf on (i + 1)) went now
each_synced {a} {b} {c} on many i went between now below one two =
    syncs_then (IsLogOf on many) (IsLogOf on i) (λ d. d ≡ log_slice (slice_index on i)) (IsLogOf on (i + 1)) went between now one
    (record {
      calls = calls_weaker (λ d. d ≡ log_slice (slice_index on i)) (IsLogOf on many) (λ d s v. ⊥) (λ d s v. ⊥) between now (λ d is. log_among on many i d below is) (λ d s v none. none) two.calls;
      done = two.done;
    })
    (log_last on i)
