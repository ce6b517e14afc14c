-- Members' sectors that are written one after the other.
use Rattle.std.proofs.Common.{◌≡◌, ℕ, ◌+◌, ◌<◌, Bool, true, false, ◌==◌, ◌&&◌, ◌||◌, List, [], ◌∷◌, ◌++◌, Option, Some, None, Ok, Err, refl, sym, ap, ap₂, subst, ◌∙◌, eq-eqb, arith, unwrap_or}
use Rattle.std.proofs.lemmas.Bool.{both_ways}
use Rattle.std.specs.Option.{option_or}
use Rattle.rack.specs.declared.Gone.{Gone}
use Rattle.rack.specs.Seen.{RackView, IsLive}
use Rattle.rack.specs.Calls.{Writes}
use Rattle.rack.specs.Joins.{live_first, live_second}
use Rattle.rack.specs.Targets.{Target, look, target}
use Rattle.rack.specs.Sequences.{IsPayload, OnlyReads}
use Rattle.rack.proofs.Writing.{only_none, only_quiet, only_written, only_refused, only_weaker, only_then, appended_here}
use Rattle.rack.proofs.Phases.{payload_first, payload_second, payload_none, look-append, target_is, target_look}
use Rattle.array_image.specs.Places.{slice_of, place_of, member_slice}
use Rattle.array_image.specs.Arrays.{place_with}
use Rattle.array_model.specs.View.{View, LosesPlaces, has_gone, place_at}
use Rattle.array_model.specs.Members.{IsSameButSeats, Notes, Works, gone_slices, slice_on}
use Rattle.array_model.proofs.Views.{notes_none, notes_then}
use Rattle.array_model.proofs.Reading.{notes_one}

-- ---- who has gone

-- whoever is left was left before
pub left_before_then : (v w : View) (a b : RackView) (d : ℕ) → Notes v w a b → gone_slices w d ≡ false → gone_slices v d ≡ false
left_before_then v w a b d notes left =
    by (slice_of d == v.number + 1) (notes.lost (place_of d)) (has_gone v (place_of d))
    (ap₂ (λ (n : ℕ) (g : Bool). (slice_of d == n + 1) && g) (sym notes.same.number) (sym (notes.loses.went (place_of d))) ∙ left)
  where
    by : (own lost gone : Bool) → (own && (lost || gone)) ≡ false → (own && gone) ≡ false
    by true true gone is = absurd (both_ways true is refl)
    by true false gone is = is
    by false lost gone is = refl

-- ---- calls in a row

pub works_reads : (v w : View) (a b : RackView) → OnlyReads a b → Notes v w a b → Works v w a b []
unfolding look
works_reads v w a b reads notes = record {
  notes = notes;
  puts = record { only = only_quiet (IsPayload []) reads.stays reads.keeps; last = λ d s x live left some. absurd (none_some some) };
}
  where
    none_some : {x : List ℕ} → None ≡ Some x → ⊥
    none_some is = cc

data Which (o p : Option (List ℕ)) (x : List ℕ) : Type 0 where
  of_second : o ≡ Some x → Which o p x
  of_first : o ≡ None → p ≡ Some x → Which o p x

which : (o p : Option (List ℕ)) (x : List ℕ) → option_or o p ≡ Some x → Which o p x
which None p x is = of_first refl is
which (Some y) p x is = of_second is

pub works_then : (u v w : View) (a b c : RackView) (xs ys : List Target) → Works u v a b xs → Works v w b c ys → Works u w a c (xs ++ ys)
works_then u v w a b c xs ys one two =
    let first = one.puts.only.stays in
    let second = two.puts.only.stays in
    record {
      notes = notes_then u v w a b c first second one.notes two.notes;
      puts = record {
        only =
            only_then (IsPayload (xs ++ ys))
            (only_weaker (IsPayload xs) (IsPayload (xs ++ ys)) (λ d s x. payload_first xs ys d s x) one.puts.only)
            (only_weaker (IsPayload ys) (IsPayload (xs ++ ys)) (λ d s x. payload_second xs ys d s x) two.puts.only);
        last = λ d s x live left some.
            elim (which (look ys d s) (look xs d s) x (sym (look-append xs ys d s) ∙ some)) [
              | of_second at ↦ two.puts.last d s x (live_second first live) left at
              | of_first none at ↦
                  (two.puts.only.others d s (live_second first live) (payload_none ys d s none)).current
                  ∙ one.puts.last d s x (live_first second live) (left_before_then v w b c d two.notes left) at
            ];
      };
    }

-- no call
pub works_none : (v : View) (a : RackView) → a.fit → Works v v a a []
unfolding look
works_none v a fit = record {
  notes = notes_none v a a;
  puts = record { only = only_none a (IsPayload []) fit; last = λ d s x live left some. absurd (none_some some) };
}
  where
    none_some : {x : List ℕ} → None ≡ Some x → ⊥
    none_some is = cc

-- ---- one write

-- a write that was answered
pub works_written : (v : View) (a b : RackView) (disk sector : ℕ) (x : List ℕ) → Writes a b disk sector x {X = Unit {0}} (Ok tt) → Works v v a b (target disk sector x ∷ [])
works_written v a b disk sector x writes = record {
  notes = notes_none v a b;
  puts = record {
    only = only_written (IsPayload (target disk sector x ∷ [])) disk sector x (target_is disk sector x) writes;
    last = λ d s y live left some.
        let at = target_look disk sector d s x y some in
        let Done : ℕ → ℕ → Type 0 = λ e t. IsLive a b e t → (b.held e t).current ≡ x in
        let here : Done disk sector = λ alive. (writes.done disk sector alive).current ∙ appended_here a.held disk sector x in
        subst (λ e. Done e s) (sym at.0) (subst (λ t. Done disk t) (sym at.1) here) live ∙ at.2;
  };
}

-- or refused: its place has gone, so nothing is said of what stands there
pub works_refused : (v w : View) (a b : RackView) (n sector : ℕ) (x : List ℕ) (gone : Gone) → v.number < 16 → Notes v w a b → has_gone w (place_at v n) ≡ true
    → Writes a b (slice_on v n) sector x {X = Unit {0}} (Err gone) → Works v w a b (target (slice_on v n) sector x ∷ [])
works_refused v w a b n sector x gone few notes went writes = record {
  notes = notes;
  puts = record {
    only = only_refused (IsPayload (target (slice_on v n) sector x ∷ [])) (slice_on v n) sector x gone (target_is (slice_on v n) sector x) writes;
    last = λ d s y live left some.
        let at = target_look (slice_on v n) sector d s x y some in
        absurd (both_ways (gone_slices w d) left (gone_own d at.0));
  };
}
  where
    gone_own : (d : ℕ) → d ≡ slice_on v n → gone_slices w d ≡ true
    gone_own d is =
        let own : slice_of d ≡ w.number + 1 = slice_is d (place_at v n) is few ∙ ap (λ k. k + 1) (sym notes.same.number) in
        let place : place_of d ≡ place_at v n = place_is d (place_at v n) is few in
        ap₂ (λ p q. p && q) (eq-eqb (slice_of d) (w.number + 1) own) (ap (has_gone w) place ∙ went)
      where
        slice_is : (d p : ℕ) → d ≡ member_slice p v.number → v.number < 16 → slice_of d ≡ v.number + 1
        slice_is d p is few = omega (arith, is, few)

        place_is : (d p : ℕ) → d ≡ member_slice p v.number → v.number < 16 → place_of d ≡ p
        place_is d p is few = omega (arith, is, few)

-- a target for a member that has gone may be any
pub works_idle : (v : View) (a : RackView) (n sector : ℕ) (x : List ℕ) → v.number < 16 → a.fit → has_gone v (place_at v n) ≡ true → Works v v a a (target (slice_on v n) sector x ∷ [])
works_idle v a n sector x few fit went = record {
  notes = notes_none v a a;
  puts = record {
    only = only_none a (IsPayload (target (slice_on v n) sector x ∷ [])) fit;
    last = λ d s y live left some.
        let at = target_look (slice_on v n) sector d s x y some in
        absurd (both_ways (gone_slices v d) left (gone_own d at.0));
  };
}
  where
    gone_own : (d : ℕ) → d ≡ slice_on v n → gone_slices v d ≡ true
    gone_own d is =
        ap₂ (λ p q. p && q) (eq-eqb (slice_of d) (v.number + 1) (slice_is d (place_at v n) is few)) (ap (has_gone v) (place_is d (place_at v n) is few) ∙ went)
      where
        slice_is : (d p : ℕ) → d ≡ member_slice p v.number → v.number < 16 → slice_of d ≡ v.number + 1
        slice_is d p is few = omega (arith, is, few)

        place_is : (d p : ℕ) → d ≡ member_slice p v.number → v.number < 16 → place_of d ≡ p
        place_is d p is few = omega (arith, is, few)

-- a refused write of a member's sector, whose place is noted
pub works_noted : (v w : View) (a b : RackView) (n sector place slice : ℕ) (x : List ℕ) (gone : Gone) → v.number < 16 → place ≡ place_at v n → slice ≡ slice_on v n
    → IsSameButSeats v w → LosesPlaces v w (λ p. p == place)
    → Writes a b slice sector x {X = Unit {0}} (Err gone) → Works v w a b (target (slice_on v n) sector x ∷ [])
works_noted v w a b n sector place slice x gone few place_is slice_is same loses writes =
    let here : Writes a b (slice_on v n) sector x {X = Unit {0}} (Err gone) = subst (λ d. Writes a b d sector x {X = Unit {0}} (Err gone)) slice_is writes in
    let lost : LosesPlaces v w (λ p. p == place_at v n) = subst (λ (q : ℕ). LosesPlaces v w (λ p. p == q)) place_is loses in
    works_refused v w a b n sector x gone few (notes_one v w a b n few same lost here.cause.gone.1)
    (lost.went (place_at v n) ∙ ap (λ (l : Bool). l || has_gone v (place_at v n)) (eq-eqb (place_at v n) (place_at v n) refl)) here

-- whoever has gone stays so
pub gone_stays : (v w : View) (a b : RackView) (n : ℕ) → Notes v w a b → has_gone v (place_at v n) ≡ true → has_gone w (place_at w n) ≡ true
gone_stays v w a b n notes gone =
    ap (has_gone w) (ap (λ t. unwrap_or (place_with t.roles.items n) 16) notes.same.truth)
    ∙ notes.loses.went (place_at v n) ∙ ap (λ (g : Bool). notes.lost (place_at v n) || g) gone ∙ or_true (notes.lost (place_at v n))
  where
    or_true : (b : Bool) → (b || true) ≡ true
    or_true true = refl
    or_true false = refl
