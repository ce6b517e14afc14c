-- Calls that leave out whole places, joined.
use Rattle.std.proofs.Common.{◌≡◌, ◌⊎◌, ℕ, ◌==◌, ◌||◌, Bool, true, false, List, Ok, Err, refl, sym, ap, subst, ◌∙◌, inl, inr, eq-eqb, eqb-true}
use Rattle.std.proofs.lemmas.Bool.{both_ways, cases_Bool, or_parts}
use Rattle.rack.specs.declared.Gone.{Gone}
use Rattle.rack.specs.Values.{MayLeave}
use Rattle.rack.specs.Seen.{RackView, IsLive, appended}
use Rattle.rack.specs.Calls.{Writes as WritesOne, Syncs}
use Rattle.rack.specs.Joins.{live_first, live_second, rose_later, rose_early}
use Rattle.rack.proofs.Writing.{appended_here, only_none, only_quiet, only_written, only_refused, only_weaker, only_then}
use Rattle.array_image.specs.Places.{place_of}
use Rattle.log_laws.specs.Phases.{Calls, Puts, SyncsAll, Settles, IsThere}

-- ---- who has gone

-- one place more
pub marked : (went now : ℕ → Bool) (place : ℕ) → ((p : ℕ) → now p ≡ ((p == place) || went p)) → (p : ℕ) → now p ≡ false → went p ≡ false
marked went now place is p left = (or_parts (p == place) (went p) (sym (is p) ∙ left)).1

-- it is this one
pub marked_one : (went now : ℕ → Bool) (place : ℕ) → ((p : ℕ) → now p ≡ ((p == place) || went p)) → (p : ℕ) → went p ≡ false → now p ≡ true → p ≡ place
marked_one went now place is p left gone =
    elim (cases_Bool (p == place)) [
      | inl here ↦ eqb-true p place here
      | inr other ↦ absurd (both_ways (now p) (is p ∙ ap (λ b. b || went p) other ∙ left) gone)
    ]

pub is_marked : (went now : ℕ → Bool) (place : ℕ) → ((p : ℕ) → now p ≡ ((p == place) || went p)) → now place ≡ true
is_marked went now place is = is place ∙ ap (λ b. b || went place) (eq-eqb place place refl)

-- ---- one call

-- no call
pub calls_none : (a : RackView) (called : ℕ → Type 0) (may : ℕ → ℕ → List ℕ → Type 0) (went : ℕ → Bool) → a.fit → Calls a a called may went went
calls_none a called may went fit = record {
  only = only_none a _ fit;
  still = λ p here. here;
  cause = λ p here gone. absurd (both_ways (went p) here gone);
}

pub puts_none : (a : RackView) (called : ℕ → Type 0) (may must : ℕ → ℕ → List ℕ → Type 0) (went : ℕ → Bool) → a.fit
    → ((d s : ℕ) (w : List ℕ) → must d s w → went (place_of d) ≡ true) → Puts a a called may must went went
puts_none a called may must went fit none = record {
  calls = calls_none a called may went fit;
  last = λ d s w live here is. absurd (both_ways (went (place_of d)) here (none d s w is));
}

-- a write that was answered
pub puts_one : {a b : RackView} (went : ℕ → Bool) (disk sector : ℕ) (v : List ℕ) → went (place_of disk) ≡ false
    → WritesOne a b disk sector v {X = Unit {0}} (Ok tt)
    → Puts a b (λ d. d ≡ disk) (IsThere disk sector v) (IsThere disk sector v) went went
puts_one {a} {b} went disk sector v left writes = record {
  calls = record {
    only = only_written _ disk sector v (left, record { disk_is = refl; there = refl; value = refl }) writes;
    still = λ p here. here;
    cause = λ p here gone. absurd (both_ways (went p) here gone);
  };
  last = λ d s w live here at.
      let value : (appended a.held disk sector v d s).current ≡ v = rw (at.disk_is, at.there) (appended_here a.held disk sector v) in
      (writes.done d s live).current ∙ value ∙ sym at.value;
}

-- one that was refused
pub puts_lost : {a b : RackView} (went now : ℕ → Bool) (disk sector : ℕ) (v : List ℕ) (gone : Gone) → went (place_of disk) ≡ false
    → ((p : ℕ) → now p ≡ ((p == place_of disk) || went p))
    → WritesOne a b disk sector v {X = Unit {0}} (Err gone)
    → Puts a b (λ d. d ≡ disk) (IsThere disk sector v) (IsThere disk sector v) went now
puts_lost {a} {b} went now disk sector v gone left is writes = record {
  calls = record {
    only = only_refused _ disk sector v gone (left, record { disk_is = refl; there = refl; value = refl }) writes;
    still = marked went now (place_of disk) is;
    cause = λ p here went_now. record {
      disk = disk;
      of_place = sym (marked_one went now (place_of disk) is p here went_now);
      was_called = refl;
      rose = writes.cause.gone.1;
    };
  };
  last = λ d s w live here at.
      absurd (both_ways (now (place_of disk)) (ap (λ k. now (place_of k)) (sym at.disk_is) ∙ here) (is_marked went now (place_of disk) is));
}

-- a sync that was answered
pub syncs_one : {a b : RackView} (went : ℕ → Bool) (disk : ℕ) → Syncs a b disk {X = Unit {0}} (Ok tt)
    → SyncsAll a b (λ d. d ≡ disk) (λ d. d ≡ disk) went went
syncs_one {a} {b} went disk syncs = record {
  calls = record {
    only = only_quiet _ syncs.stays syncs.keeps;
    still = λ p here. here;
    cause = λ p here gone. absurd (both_ways (went p) here gone);
  };
  done = λ d s on here live v may.
      subst (λ k. IsLive a b k s → MayLeave (b.held k s) v → v ≡ (b.held k s).current) (sym on) (λ l m. syncs.done s v l m) live may;
}

pub syncs_lost : {a b : RackView} (went now : ℕ → Bool) (disk : ℕ) (gone : Gone)
    → ((p : ℕ) → now p ≡ ((p == place_of disk) || went p))
    → Syncs a b disk {X = Unit {0}} (Err gone)
    → SyncsAll a b (λ d. d ≡ disk) (λ d. d ≡ disk) went now
syncs_lost {a} {b} went now disk gone is syncs = record {
  calls = record {
    only = only_quiet _ syncs.stays syncs.keeps;
    still = marked went now (place_of disk) is;
    cause = λ p here went_now. record {
      disk = disk;
      of_place = sym (marked_one went now (place_of disk) is p here went_now);
      was_called = refl;
      rose = syncs.gone.1;
    };
  };
  done = λ d s on here live.
      absurd (both_ways (now (place_of disk)) (ap (λ k. now (place_of k)) (sym on) ∙ here) (is_marked went now (place_of disk) is));
}

-- ---- calls in a row

pub calls_weaker : {a b : RackView} (called more : ℕ → Type 0) (may wide : ℕ → ℕ → List ℕ → Type 0) (went now : ℕ → Bool)
    → ((d : ℕ) → called d → more d) → ((d s : ℕ) (v : List ℕ) → may d s v → wide d s v)
    → Calls a b called may went now → Calls a b more wide went now
calls_weaker called more may wide went now weaker wider calls = record {
  only = only_weaker _ _ (λ d s v both. (both.0, wider d s v both.1)) calls.only;
  still = calls.still;
  cause = λ p here gone.
      let by = calls.cause p here gone in
      record { disk = by.disk; of_place = by.of_place; was_called = weaker by.disk by.was_called; rose = by.rose };
}

pub calls_then : {a b c : RackView} (called : ℕ → Type 0) (may : ℕ → ℕ → List ℕ → Type 0) (went between now : ℕ → Bool)
    → Calls a b called may went between → Calls b c called may between now → Calls a c called may went now
calls_then {a} {b} {c} called may went between now one two = record {
  only = only_then _ one.only (only_weaker _ _ (λ d s v both. (one.still (place_of d) both.0, both.1)) two.only);
  still = λ p here. one.still p (two.still p here);
  cause = λ p here gone.
      elim (cases_Bool (between p)) [
        | inl early ↦
            let by = one.cause p here early in
            record { disk = by.disk; of_place = by.of_place; was_called = by.was_called; rose = rose_early a b c by.disk two.only.stays by.rose }
        | inr left ↦
            let by = two.cause p left gone in
            record { disk = by.disk; of_place = by.of_place; was_called = by.was_called; rose = rose_later a b c by.disk one.only.stays by.rose }
      ];
}

-- Writes and then writes: what has to stand at the end was written by the second, or by the first and not again.
pub puts_then : {a b c : RackView} (called : ℕ → Type 0) (may must first second all : ℕ → ℕ → List ℕ → Type 0) (went between now : ℕ → Bool)
    → Puts a b called may first went between → Calls b c called second between now
    → ((d s : ℕ) (w : List ℕ) → IsLive b c d s → now (place_of d) ≡ false → must d s w → (c.held d s).current ≡ w)
    → ((d s : ℕ) (v : List ℕ) → may d s v → all d s v) → ((d s : ℕ) (v : List ℕ) → second d s v → all d s v)
    → (wanted : ℕ → ℕ → List ℕ → Type 0)
    → ((d s : ℕ) (w : List ℕ) → wanted d s w → must d s w ⊎ (first d s w × ((v : List ℕ) → second d s v → ⊥)))
    → Puts a c called all wanted went now
puts_then {a} {b} {c} called may must first second all went between now one two lasts of_one of_two wanted which = record {
  calls = calls_then called all went between now
      (calls_weaker called called may all went between (λ d is. is) of_one one.calls)
      (calls_weaker called called second all between now (λ d is. is) of_two two);
  last = λ d s w live here is.
      elim (which d s w is) [
        | inl late ↦ lasts d s w (live_second one.calls.only.stays live) here late
        | inr early ↦
            (two.only.others d s (live_second one.calls.only.stays live) (λ v both. early.1 v both.1)).current
            ∙ one.last d s w (live_first two.only.stays live) (two.still (place_of d) here) early.0
      ];
}

-- syncs and then syncs
pub syncs_then : {a b c : RackView} (called on too both : ℕ → Type 0) (went between now : ℕ → Bool)
    → SyncsAll a b called on went between → SyncsAll b c called too between now
    → ((d : ℕ) → both d → on d ⊎ too d)
    → SyncsAll a c called both went now
syncs_then {a} {b} {c} called on too both went between now one two which = record {
  calls = calls_then called _ went between now one.calls two.calls;
  done = λ d s is here live.
      elim (which d is) [
        | inr late ↦ two.done d s late here (live_second one.calls.only.stays live)
        | inl early ↦
            let kept = two.calls.only.others d s (live_second one.calls.only.stays live) (λ v none. none.1) in
            λ v may.
            one.done d s early (two.calls.still (place_of d) here) (live_first two.calls.only.stays live) v (kept.within v may)
            ∙ sym kept.current
      ];
}

-- writes that were synced
pub settles : {a b c : RackView} (called : ℕ → Type 0) (may must : ℕ → ℕ → List ℕ → Type 0) (on : ℕ → Type 0) (went between now : ℕ → Bool)
    → Puts a b called may must went between → SyncsAll b c called on between now
    → ((d s : ℕ) (w : List ℕ) → must d s w → on d)
    → Settles a c called may must went now
settles {a} {b} {c} called may must on went between now puts syncs synced = record {
  calls = calls_then called may went between now puts.calls
      (calls_weaker called called (λ d s v. ⊥) may between now (λ d is. is) (λ d s v none. absurd none) syncs.calls);
  durable = λ d s w v live here is left.
      let kept = syncs.calls.only.others d s (live_second puts.calls.only.stays live) (λ u none. none.1) in
      syncs.done d s (synced d s w is) here (live_second puts.calls.only.stays live) v left
      ∙ kept.current
      ∙ puts.last d s w (live_first syncs.calls.only.stays live) (syncs.calls.still (place_of d) here) is;
}
