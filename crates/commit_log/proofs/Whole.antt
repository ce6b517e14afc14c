-- Contents with all targets: they are those of before the commit, with each target written.
use Rattle.std.proofs.Common.{◌≡◌, ◌≢◌, ◌⊎◌, ℕ, ◌<◌, ◌≤◌, ◌==◌, ◌&&◌, ◌||◌, Bool, true, false, is_some, List, [], Option, Some, None, refl, sym, ap, ap₂, subst, ◌∙◌, inl, inr, arith, eq-eqb}
use Rattle.std.proofs.lemmas.Bool.{cases_Bool, cases_eq, cases_lt, both_ways, or_parts, ne_eqb}
use Rattle.std.proofs.lemmas.Option.{none-some}
use Rattle.rack.specs.Values.{MayLeave}
use Rattle.rack.specs.Seen.{Image, RackView, IsLive}
use Rattle.rack.specs.Targets.{Target, look, put}
use Rattle.array_image.specs.Places.{slice_of, place_of, log_slice, log_sectors}
use Rattle.array_image.specs.Record.{gate_sector, pending}
use Rattle.log_laws.specs.View.{LogView, names}
use Rattle.log_laws.specs.Standing.{IsLogPart, deciding, IsWhole}
use Rattle.log_laws.specs.Commits.{ImageAfterCommit, IsWritten}
use Rattle.commit_log.proofs.Restored.{restored, restored_there, restored_picks, restored_inside, put_there, put_same}
use Rattle.commit_log.proofs.Amid.{in_half, Terms, IsAround, slice_of_log, place_of_log, log_of_place, half_least, half_most, not_in_half, replayed_as}

-- what a commit may have written: its half and the gates on the places of `on`, and the targets
abbrev pub of_commit : ℕ → List ℕ → List Target → ℕ → ℕ → Bool
of_commit number on xs d t =
    ((slice_of d == 0) && (names on (place_of d) && (in_half number t || (t == 1)))) || is_some (look xs d t)

-- where it hasn't, there is no target
no_target : (b : Bool) (xs : List Target) (d t : ℕ) → (b || is_some (look xs d t)) ≡ false → look xs d t ≡ None
no_target b xs d t none = of_look (look xs d t) (or_parts b (is_some (look xs d t)) none).1
  where
    of_look : (o : Option (List ℕ)) → is_some o ≡ false → o ≡ None
    of_look None is = refl
    of_look (Some v) is = absurd (both_ways true is refl)

-- and it isn't of the log on a place of `on`
no_log : (number : ℕ) (on : List ℕ) (xs : List Target) (p t : ℕ) → of_commit number on xs (log_slice p) t ≡ false
    → (names on p ≡ false) ⊎ ((in_half number t ≡ false) × (t ≢ 1))
no_log number on xs p t none =
    let part = (or_parts ((slice_of (log_slice p) == 0) && (names on (place_of (log_slice p)) && (in_half number t || (t == 1)))) (is_some (look xs (log_slice p) t)) none).0 in
    let plain : (names on p && (in_half number t || (t == 1))) ≡ false =
    sym (ap₂ (λ b q. b && (names on q && (in_half number t || (t == 1)))) (eq-eqb (slice_of (log_slice p)) 0 (slice_of_log p)) (place_of_log p)) ∙ part in
    elim (cases_Bool (names on p)) [
      | inr other ↦ inl other
      | inl here ↦
          let both = or_parts (in_half number t) (t == 1) (sym (ap (λ b. b && (in_half number t || (t == 1))) here) ∙ plain) in
          inr (both.0, λ one. both_ways (t == 1) both.1 (eq-eqb t 1 one))
    ]

and_off : (b c : Bool) → c ≡ false → (b && c) ≡ false
and_off true c is = is
and_off false c is = refl

or_off : (b c : Bool) → b ≡ false → c ≡ false → (b || c) ≡ false
or_off b c one two = ap₂ (λ x y. x || y) one two

-- a sector that isn't the log's is only a target
others_free : (number : ℕ) (on : List ℕ) (xs : List Target) (d t : ℕ) → (IsLogPart d t → ⊥) → look xs d t ≡ None → of_commit number on xs d t ≡ false
others_free number on xs d t other none =
    or_off ((slice_of d == 0) && (names on (place_of d) && (in_half number t || (t == 1)))) (is_some (look xs d t))
    (elim (cases_eq (slice_of d) 0) [
      | inr slice ↦ ap (λ b. b && (names on (place_of d) && (in_half number t || (t == 1)))) (ne_eqb (slice_of d) 0 slice)
      | inl slice ↦
          elim (cases_lt 0 t) [
            | inl past ↦ absurd (other (slice, past))
            | inr first ↦
                and_off (slice_of d == 0) _ (and_off (names on (place_of d)) _
                (or_off (in_half number t) (t == 1) (not_in_half number t (inl (omega (arith, half_least number, first)))) (ne_eqb t 1 (λ one. absurd (omega (arith, one, first))))))
          ]
    ])
    (ap (λ (o : Option (List ℕ)). is_some o) none)

-- past the end of a log slice nothing was written
past_free : (l : LogView) (on : List ℕ) (number : ℕ) (opened closed : List ℕ) (a : RackView) (p t : ℕ) → Terms l on number opened closed a
    → a.sectors (log_slice p) ≤ t → of_commit number on l.added (log_slice p) t ≡ false
past_free l on number opened closed a p t terms past =
    or_off ((slice_of (log_slice p) == 0) && (names on (place_of (log_slice p)) && (in_half number t || (t == 1)))) (is_some (look l.added (log_slice p) t))
    (ap₂ (λ b q. b && (names on q && (in_half number t || (t == 1)))) (eq-eqb (slice_of (log_slice p)) 0 (slice_of_log p)) (place_of_log p)
    ∙ elim (cases_Bool (names on p)) [
      | inr other ↦ ap (λ b. b && (in_half number t || (t == 1))) other
      | inl here ↦
          let size : a.sectors (log_slice p) ≡ log_sectors = (terms.logs p here).1 in
          and_off (names on p) _
          (or_off (in_half number t) (t == 1) (not_in_half number t (inr (omega (arith, half_most number, size, past)))) (ne_eqb t 1 (λ one. absurd (omega (arith, one, size, past)))))
    ])
    (of_look (look l.added (log_slice p) t) refl)
  where
    of_look : (o : Option (List ℕ)) → look l.added (log_slice p) t ≡ o → is_some o ≡ false
    of_look None is = refl
    of_look (Some v) is = absurd (omega (arith, (terms.targets (log_slice p) t v is).0, past))

-- all targets are there, once the record is replayed
pub all_committed : (l : LogView) (on : List ℕ) (number : ℕ) (opened closed : List ℕ) (a : RackView) (c : Image)
    → Terms l on number opened closed a
    → IsAround on number a c
    → ((p : ℕ) → IsLive a a (log_slice p) gate_sector → MayLeave (a.held (log_slice p) gate_sector) (c (log_slice p) gate_sector) ⊎ (names on p ≡ true))
    → ((d t : ℕ) → IsLive a a d t → (IsLogPart d t → ⊥) → MayLeave (a.held d t) (c d t) ⊎ (look l.added d t ≡ Some (c d t)))
    → (pending (deciding c) c ≡ l.added) ⊎ ((pending (deciding c) c ≡ []) × IsWritten l.added c)
    → IsWhole c
    → ImageAfterCommit l.added a c
unfolding look
all_committed l on number opened closed a c terms around gates others pends whole =
    let chosen : ℕ → ℕ → Bool = of_commit number on l.added in
    let before : Image = restored chosen a c in
    record {
      before = before;
      stands = record {
        picks = restored_picks chosen a c (λ d t live free. pick d t live free);
        inside = restored_inside chosen a c (λ p t past. past_free l on number opened closed a p t terms past) around.inside;
      };
      whole = whole;
      all = λ d t other.
          let puts : put a.sectors l.added c d t ≡ put a.sectors l.added before d t =
          put_same a.sectors l.added c before d t
          (λ none. sym (restored_there chosen a c d t (others_free number on l.added d t other none)))
          (λ w is. (terms.targets d t w is).0) in
          elim pends [
            | inl all ↦ replayed_as a c l.added d t all ∙ puts
            | inr none ↦
                replayed_as a c [] d t none.0 ∙ put_there a.sectors [] c d t (λ w is. absurd (no_look d t w is))
                ∙ sym (put_there a.sectors l.added c d t (λ w is. none.1 d t w is)) ∙ puts
          ];
    }
  where
    no_look : (d t : ℕ) (w : List ℕ) → look [] d t ≡ Some w → ⊥
    no_look d t w is = none-some w is

    pick_log : (p t : ℕ) → IsLive a a (log_slice p) t → of_commit number on l.added (log_slice p) t ≡ false → 0 < t → MayLeave (a.held (log_slice p) t) (c (log_slice p) t)
    pick_log p t live free some =
        elim (no_log number on l.added p t free) [
          | inl other ↦
              elim (cases_eq t 1) [
                | inl one ↦
                    subst (λ k. MayLeave (a.held (log_slice p) k) (c (log_slice p) k)) (sym one)
                    (elim (gates p (subst (λ k. IsLive a a (log_slice p) k) one live)) [
                      | inl old ↦ old
                      | inr here ↦ absurd (both_ways (names on p) other here)
                    ])
                | inr more ↦ around.parts p t live (omega (arith, more, some)) (inl other)
              ]
          | inr both ↦ around.parts p t live (omega (arith, both.1, some)) (inr both.0)
        ]

    pick_other : (d t : ℕ) → IsLive a a d t → (IsLogPart d t → ⊥) → of_commit number on l.added d t ≡ false → MayLeave (a.held d t) (c d t)
    pick_other d t live other free =
        elim (others d t live other) [
          | inl old ↦ old
          | inr is ↦ absurd (none-some (c d t) (sym (no_target _ l.added d t free) ∙ is))
        ]

    pick : (d t : ℕ) → IsLive a a d t → of_commit number on l.added d t ≡ false → MayLeave (a.held d t) (c d t)
    pick d t live free =
        elim (cases_eq (slice_of d) 0) [
          | inl slice ↦
              elim (cases_lt 0 t) [
                | inl some ↦
                    subst (λ k. MayLeave (a.held k t) (c k t)) (log_of_place d slice)
                    (pick_log (place_of d) t (subst (λ k. IsLive a a k t) (sym (log_of_place d slice)) live)
                    (subst (λ k. of_commit number on l.added k t ≡ false) (sym (log_of_place d slice)) free) some)
                | inr first ↦ pick_other d t live (λ part. absurd (omega (arith, part.1, first))) free
              ]
          | inr other ↦ pick_other d t live (λ part. other part.0) free
        ]
