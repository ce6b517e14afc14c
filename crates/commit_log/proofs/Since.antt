-- What stands on the slices since the record was written.
use Rattle.std.proofs.Common.{◌≡◌, ◌⊎◌, ℕ, ◌+◌, ◌<◌, ◌≤◌, Bool, true, false, nat_lt, nat_le, List, length, Some, refl, sym, ap, subst, ◌∙◌, inl, inr, arith}
use Rattle.std.proofs.lemmas.Bool.{both_ways, and_from, le-leb, lt-ltb}
use Rattle.rack.specs.Values.{MayLeave}
use Rattle.rack.specs.Seen.{Image, RackView, IsLive, SameRack}
use Rattle.rack.specs.Targets.{look}
use Rattle.rack.specs.Sequences.{IsPayload}
use Rattle.array_image.specs.Places.{place_of, log_slice}
use Rattle.array_image.specs.Record.{gate_sector, half_of, are_apart}
use Rattle.log_laws.specs.View.{LogView, names}
use Rattle.log_laws.specs.Standing.{IsLogPart, IsInside, IsReady}
use Rattle.log_laws.specs.Bytes.{sector_in}
use Rattle.log_laws.specs.Phases.{Settles, IsLogOf, IsOnEach, IsOfRecord}
use Rattle.log_laws.proofs.Halves.{sealed_record}
use Rattle.commit_log.proofs.Amid.{in_half, Terms, IsNew, IsAround, place_of_log, half_least, half_most}
use Rattle.commit_log.proofs.Story.{Parts, log_named, named_log, payload_is, record_no_gate, record_no_other, each_no_other, target_no_log}

-- a sector that is live before lasting calls is so over them
pub live_to : {a x : RackView} (d s : ℕ) → SameRack a x → a.lasting → IsLive a a d s → IsLive a x d s
live_to {a} {x} d s stays lasting live = record {
  disk = subst (λ n. d < n) (sym stays.disks) live.disk;
  sector = subst (λ n. s < n) (sym (stays.sectors d)) live.sector;
  is_told = live.is_told;
  unspent = stays.lasts lasting d s live.unspent;
}

-- and over the later ones
pub live_between : {a x y : RackView} (d s : ℕ) → SameRack a x → SameRack x y → a.lasting → IsLive a a d s → IsLive x y d s
live_between {a} {x} {y} d s first second lasting live = record {
  disk = subst (λ n. d < n) (sym second.disks) (subst (λ n. d < n) (sym first.disks) live.disk);
  sector = subst (λ n. s < n) (sym (second.sectors d)) (subst (λ n. s < n) (sym (first.sectors d)) live.sector);
  is_told = first.told d live.is_told;
  unspent = second.lasts (first.lasting lasting) d s (first.lasts lasting d s live.unspent);
}

-- where a sector's value comes from: from what the record's writing left, or from a later part. `shutting` must hold where gates are closed.
pub data Since (l : LogView) (on : List ℕ) (opened closed : List ℕ) (r : RackView) (w1 : ℕ → Bool) (shutting : Type 0) (d s : ℕ) (v : List ℕ) : Type 0 where
  from_record : MayLeave (r.held d s) v → Since l on opened closed r w1 shutting d s v
  from_opening : w1 (place_of d) ≡ false → IsOnEach on (length on) gate_sector opened d s v → Since l on opened closed r w1 shutting d s v
  from_target : IsPayload l.added d s v → Since l on opened closed r w1 shutting d s v
  from_closing : shutting → IsOnEach on (length on) gate_sector closed d s v → Since l on opened closed r w1 shutting d s v

pub record HasSince (l : LogView) (on : List ℕ) (opened closed : List ℕ) (a r : RackView) (w1 : ℕ → Bool) (shutting : Type 0) (c : Image) : Type 0 where
  pub inside : IsInside a.sectors c
  pub each : (d s : ℕ) → IsLive a a d s → Since l on opened closed r w1 shutting d s (c d s)

-- the writing of the record, and the terms
pub record Begun (l : LogView) (on : List ℕ) (number : ℕ) (opened closed bytes : List ℕ) (count : ℕ) (a r : RackView) (w0 w1 : ℕ → Bool) : Type 0 where
  pub ready : IsReady l on a
  pub terms : Terms l on number opened closed a
  pub parts : Parts l on number opened closed bytes count a
  pub writes : Settles a r (IsLogOf on (length on)) (IsOfRecord on (half_of number) bytes (96 + count)) (IsOfRecord on (half_of number) bytes (96 + count)) w0 w1

in_its_half : (number s at count : ℕ) → s ≡ half_of number + at → at < 96 + count → count ≤ 3996 → in_half number s ≡ true
in_its_half number s at count is below few =
    and_from (nat_le (half_of number) s) (nat_lt s (half_of number + 4092)) (le-leb (half_of number) s (omega (arith, is))) (lt-ltb s (half_of number + 4092) (omega (arith, is, below, few)))

-- a value since the record's writing, outside what the commit writes to the log
since_part : (l : LogView) (on : List ℕ) (number : ℕ) (opened closed bytes : List ℕ) (count : ℕ) (a r : RackView) (w0 w1 : ℕ → Bool) (shutting : Type 0) (p t : ℕ) (v : List ℕ)
    → Begun l on number opened closed bytes count a r w0 w1 → IsLive a a (log_slice p) t → 1 < t → (names on p ≡ false) ⊎ (in_half number t ≡ false)
    → Since l on opened closed r w1 shutting (log_slice p) t v → MayLeave (a.held (log_slice p) t) v
since_part l on number opened closed bytes count a r w0 w1 shutting p t v begun live more out (from_record left) =
    elim (begun.writes.calls.only.within (log_slice p) t v (live_to (log_slice p) t begun.writes.calls.only.stays begun.ready.lasting live) left) [
      | inl old ↦ old
      | inr both ↦
          elim out [
            | inl other ↦ absurd (both_ways (names on p) other (sym (ap (names on) (place_of_log p)) ∙ log_named on (length on) (log_slice p) (omega arith) both.1.each.disk))
            | inr out ↦ absurd (both_ways (in_half number t) out (in_its_half number t both.1.at count both.1.each.there both.1.below begun.parts.sealed.few))
          ]
    ]
since_part l on number opened closed bytes count a r w0 w1 shutting p t v begun live more out (from_opening left is) = absurd (omega (arith, is.there, more))
since_part l on number opened closed bytes count a r w0 w1 shutting p t v begun live more out (from_target is) =
    absurd (target_no_log l on number opened closed bytes count a p t v begun.parts (omega (arith, more)) is)
since_part l on number opened closed bytes count a r w0 w1 shutting p t v begun live more out (from_closing shut is) = absurd (omega (arith, is.there, more))

pub since_around : (l : LogView) (on : List ℕ) (number : ℕ) (opened closed bytes : List ℕ) (count : ℕ) (a r : RackView) (w0 w1 : ℕ → Bool) (shutting : Type 0) (c : Image)
    → Begun l on number opened closed bytes count a r w0 w1 → HasSince l on opened closed a r w1 shutting c → IsAround on number a c
since_around l on number opened closed bytes count a r w0 w1 shutting c begun since = record {
  inside = since.inside;
  parts = λ p t live more out.
      since_part l on number opened closed bytes count a r w0 w1 shutting p t (c (log_slice p) t) begun live more out (since.each (log_slice p) t live);
}

-- sectors that aren't the log's
since_value : (l : LogView) (on : List ℕ) (number : ℕ) (opened closed bytes : List ℕ) (count : ℕ) (a r : RackView) (w0 w1 : ℕ → Bool) (shutting : Type 0) (d t : ℕ) (v : List ℕ)
    → Begun l on number opened closed bytes count a r w0 w1 → IsLive a a d t → (IsLogPart d t → ⊥)
    → Since l on opened closed r w1 shutting d t v → MayLeave (a.held d t) v ⊎ (look l.added d t ≡ Some v)
since_value l on number opened closed bytes count a r w0 w1 shutting d t v begun live other (from_record left) =
    elim (begun.writes.calls.only.within d t v (live_to d t begun.writes.calls.only.stays begun.ready.lasting live) left) [
      | inl old ↦ inl old
      | inr both ↦ absurd (record_no_other on number bytes (96 + count) d t v other both.1)
    ]
since_value l on number opened closed bytes count a r w0 w1 shutting d t v begun live other (from_opening left is) = absurd (each_no_other on opened d t v other is)
since_value l on number opened closed bytes count a r w0 w1 shutting d t v begun live other (from_target is) =
    inr
    (payload_is l.added d t v (ap are_apart begun.parts.added ∙ begun.parts.apart) is)
since_value l on number opened closed bytes count a r w0 w1 shutting d t v begun live other (from_closing shut is) = absurd (each_no_other on closed d t v other is)

pub since_others : (l : LogView) (on : List ℕ) (number : ℕ) (opened closed bytes : List ℕ) (count : ℕ) (a r : RackView) (w0 w1 : ℕ → Bool) (shutting : Type 0) (c : Image)
    → Begun l on number opened closed bytes count a r w0 w1 → HasSince l on opened closed a r w1 shutting c
    → (d t : ℕ) → IsLive a a d t → (IsLogPart d t → ⊥) → MayLeave (a.held d t) (c d t) ⊎ (look l.added d t ≡ Some (c d t))
since_others l on number opened closed bytes count a r w0 w1 shutting c begun since d t live other =
    since_value l on number opened closed bytes count a r w0 w1 shutting d t (c d t) begun live other (since.each d t live)

-- the half of a place that was left when the gates were opened
half_sector : (l : LogView) (on : List ℕ) (number : ℕ) (opened closed bytes : List ℕ) (count : ℕ) (a r : RackView) (w0 w1 : ℕ → Bool) (shutting : Type 0) (p k : ℕ) (v : List ℕ)
    → Begun l on number opened closed bytes count a r w0 w1 → names on p ≡ true → w1 p ≡ false → k < 96 + count → IsLive a a (log_slice p) (half_of number + k)
    → Since l on opened closed r w1 shutting (log_slice p) (half_of number + k) v → v ≡ sector_in bytes k
half_sector l on number opened closed bytes count a r w0 w1 shutting p k v begun here left below live (from_record is) =
    begun.writes.durable (log_slice p) (half_of number + k) (sector_in bytes k) v (live_to (log_slice p) (half_of number + k) begun.writes.calls.only.stays begun.ready.lasting live)
    (ap w1 (place_of_log p) ∙ left)
    (record { at = k; below = below; each = record { disk = named_log on p here; there = refl; value = refl } })
    is
half_sector l on number opened closed bytes count a r w0 w1 shutting p k v begun here left below live (from_opening before is) = absurd (omega (arith, is.there, half_least number))
half_sector l on number opened closed bytes count a r w0 w1 shutting p k v begun here left below live (from_target is) =
    absurd (target_no_log l on number opened closed bytes count a p (half_of number + k) v begun.parts (omega (arith, half_least number)) is)
half_sector l on number opened closed bytes count a r w0 w1 shutting p k v begun here left below live (from_closing shut is) = absurd (omega (arith, is.there, half_least number))

-- so a gate that is open has the whole record behind it
pub since_new : (l : LogView) (on : List ℕ) (number : ℕ) (opened closed bytes : List ℕ) (count : ℕ) (a r : RackView) (w0 w1 : ℕ → Bool) (shutting : Type 0) (c : Image) (p : ℕ)
    → Begun l on number opened closed bytes count a r w0 w1 → HasSince l on opened closed a r w1 shutting c
    → names on p ≡ true → w1 p ≡ false → c (log_slice p) gate_sector ≡ opened → IsNew number l.added opened c p
since_new l on number opened closed bytes count a r w0 w1 shutting c p begun since here left gate =
    let log = begun.terms.logs p here in
    record {
      gate = gate;
      holds =
          sealed_record number count (c (log_slice p)) bytes begun.parts.sealed
          (λ k below.
          let live : IsLive a a (log_slice p) (half_of number + k) =
          begun.ready.logs p (half_of number + k) log.0 (omega (arith, log.1, half_most number, below, begun.parts.sealed.few)) in
          half_sector l on number opened closed bytes count a r w0 w1 shutting p k (c (log_slice p) (half_of number + k)) begun here left below live (since.each (log_slice p) (half_of number + k) live))
          begun.parts.valid begun.parts.apart
          ∙ ap Some (sym begun.parts.added);
    }

-- a gate
since_gate : (l : LogView) (on : List ℕ) (number : ℕ) (opened closed bytes : List ℕ) (count : ℕ) (a r : RackView) (w0 w1 : ℕ → Bool) (shutting : Type 0) (c : Image) (p : ℕ)
    → Begun l on number opened closed bytes count a r w0 w1 → HasSince l on opened closed a r w1 shutting c → IsLive a a (log_slice p) gate_sector
    → Since l on opened closed r w1 shutting (log_slice p) gate_sector (c (log_slice p) gate_sector)
    → MayLeave (a.held (log_slice p) gate_sector) (c (log_slice p) gate_sector)
    ⊎ ((names on p ≡ true) × (IsNew number l.added opened c p ⊎ (shutting × (c (log_slice p) gate_sector ≡ closed))))
since_gate l on number opened closed bytes count a r w0 w1 shutting c p begun since live (from_record left) =
    elim (begun.writes.calls.only.within (log_slice p) gate_sector (c (log_slice p) gate_sector) (live_to (log_slice p) gate_sector begun.writes.calls.only.stays begun.ready.lasting live) left) [
      | inl old ↦ inl old
      | inr both ↦ absurd (record_no_gate on number bytes (96 + count) (log_slice p) (c (log_slice p) gate_sector) both.1)
    ]
since_gate l on number opened closed bytes count a r w0 w1 shutting c p begun since live (from_opening left is) =
    let here : names on p ≡ true = sym (ap (names on) (place_of_log p)) ∙ log_named on (length on) (log_slice p) (omega arith) is.disk in
    inr (here, inl (since_new l on number opened closed bytes count a r w0 w1 shutting c p begun since here (sym (ap w1 (place_of_log p)) ∙ left) is.value))
since_gate l on number opened closed bytes count a r w0 w1 shutting c p begun since live (from_target is) =
    absurd (target_no_log l on number opened closed bytes count a p gate_sector (c (log_slice p) gate_sector) begun.parts (omega arith) is)
since_gate l on number opened closed bytes count a r w0 w1 shutting c p begun since live (from_closing shut is) =
    let here : names on p ≡ true = sym (ap (names on) (place_of_log p)) ∙ log_named on (length on) (log_slice p) (omega arith) is.disk in
    inr (here, inr (shut, is.value))

pub since_gates : (l : LogView) (on : List ℕ) (number : ℕ) (opened closed bytes : List ℕ) (count : ℕ) (a r : RackView) (w0 w1 : ℕ → Bool) (shutting : Type 0) (c : Image)
    → Begun l on number opened closed bytes count a r w0 w1 → HasSince l on opened closed a r w1 shutting c
    → (p : ℕ) → IsLive a a (log_slice p) gate_sector
    → MayLeave (a.held (log_slice p) gate_sector) (c (log_slice p) gate_sector)
    ⊎ ((names on p ≡ true) × (IsNew number l.added opened c p ⊎ (shutting × (c (log_slice p) gate_sector ≡ closed))))
since_gates l on number opened closed bytes count a r w0 w1 shutting c begun since p live =
    since_gate l on number opened closed bytes count a r w0 w1 shutting c p begun since live (since.each (log_slice p) gate_sector live)

-- the record isn't written outside its half
pub record_part : (on : List ℕ) (number : ℕ) (bytes : List ℕ) (count p t : ℕ) (v : List ℕ) → count ≤ 3996 → (names on p ≡ false) ⊎ (in_half number t ≡ false)
    → IsOfRecord on (half_of number) bytes (96 + count) (log_slice p) t v → ⊥
record_part on number bytes count p t v few out is =
    elim out [
      | inl other ↦ both_ways (names on p) other (sym (ap (names on) (place_of_log p)) ∙ log_named on (length on) (log_slice p) (omega arith) is.each.disk)
      | inr outside ↦ both_ways (in_half number t) outside (in_its_half number t is.at count is.each.there is.below few)
    ]
