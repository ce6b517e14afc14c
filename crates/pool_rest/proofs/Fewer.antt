-- What a log finds on fewer places, among which is that from which its record is read.
use Rattle.std.proofs.Common.{◌≡◌, ℕ, ◌+◌, ◌<◌, ◌==◌, ◌&&◌, ◌||◌, not, Bool, true, false, List, [], filter, is_some, is_none, Option, Some, None, option_map, inl, inr, refl, sym, ap, subst, ◌∙◌, eq-eqb, arith}
use Rattle.std.specs.List.{range_with_len}
use Rattle.std.proofs.lemmas.Bool.{both_ways}
use Rattle.rack.specs.Seen.{Image}
use Rattle.rack.specs.Targets.{Target}
use Rattle.array_image.specs.Places.{log_sectors, log_slice}
use Rattle.array_image.specs.Record.{Gate, GateAt, damaged_log, gate_in, gate_of, gate_sector, half_of, is_bad_gate, is_open_if_of, is_there, pending_at, record_in}
use Rattle.log_laws.specs.Opening.{Finds}
use Rattle.log_laws.specs.View.{LogView, is_left, left_of, names}
use Rattle.commit_log.proofs.Amid.{half_least, half_most}
use Rattle.commit_log.proofs.Deciding.{all_at, gate_at, record_pending}
use Rattle.commit_log.proofs.Fewer.{filter_both, filter_names, names_filter, pending_kept, pending_most}
use Rattle.log_laws.proofs.Halves.{record_same}
use Rattle.log_laws.proofs.Naming.{names_range}
use Rattle.commit_log.proofs.Replayable.{pending_named}
use Rattle.commit_log.proofs.Restored.{pending_at_by, pending_by}
use Rattle.commit_log.proofs.Undamaged.{whole_by, whole_from, whole_gates, whole_record}
use Rattle.pool_rest.proofs.Settled.{open_all}

module _ (l : LogView) (on0 on : List ℕ) (c0 c : Image) (is_pending : Bool) (a : GateAt)
    (few : (p : ℕ) → names on0 p ≡ true → p < 16)
    (fewer : (p : ℕ) → names on p ≡ true → names on0 p ≡ true)
    (agree : (p t : ℕ) → names on p ≡ true → 0 < t → t < log_sectors → c (log_slice p) t ≡ c0 (log_slice p) t)
    (source : pending_at (left_of on0 []) c0 ≡ Some a) (kept : names on a.place ≡ true)
    (finds : Finds l on0 (left_of on0 []) is_pending None c0) where
  abbrev all : List ℕ
  all = left_of on0 []

  abbrev places : List ℕ
  places = filter (names on) (left_of on0 [])

  left_is : left_of on [] ≡ places
  left_is = sym (filter_both (names on) (is_left on0 []) (is_left on []) (range_with_len 0 16) (λ p. by (names on p) (names on0 p) (fewer p)))
    where
      by : (b d : Bool) → (b ≡ true → d ≡ true) → (b && not (names [] 0)) ≡ ((d && not (names [] 0)) && b)
      by true true less = refl
      by true false less = absurd (both_ways false refl (less refl))
      by false true less = refl
      by false false less = refl

  of_fewer : (p : ℕ) → names places p ≡ true → (names on p ≡ true) × (names all p ≡ true)
  of_fewer p named = names_filter (names on) all p named

  gates : (p : ℕ) → names places p ≡ true → c (log_slice p) gate_sector ≡ c0 (log_slice p) gate_sector
  gates p named = agree p gate_sector (of_fewer p named).0 (omega arith) (omega arith)

  gate_same : (p : ℕ) → names places p ≡ true → gate_in c p ≡ gate_in c0 p
  gate_same p named = ap gate_of (gates p named)

  records : (b : GateAt) → pending_at places c0 ≡ Some b → record_in c b.place b.gate.number ≡ record_in c0 b.place b.gate.number
  records b is =
      record_same b.gate.number (c (log_slice b.place)) (c0 (log_slice b.place))
      (λ k below.
      agree b.place (half_of b.gate.number + k) (of_fewer b.place (pending_named places c0 b is).0).0
      (omega (arith, half_least b.gate.number)) (omega (arith, below, half_most b.gate.number)))

  whole : damaged_log all c0 ≡ None
  whole = sym finds.damaged_is

  still : pending_at places c0 ≡ Some a
  still = pending_kept c0 (names on) all a kept source

  has : (xs : List Target) × (record_in c0 a.place a.gate.number ≡ Some xs)
  has = whole_record c0 all whole a source

  bad_gates : (p : ℕ) → names places p ≡ true → is_bad_gate c0 p ≡ false
  bad_gates p named = whole_gates c0 all p whole (of_fewer p named).1

  some_gate : (b d : GateAt) → Some b ≡ Some d → b ≡ d
  some_gate b d same = cc

  whole_fewer : damaged_log places c0 ≡ None
  whole_fewer = whole_from c0 places bad_gates (λ b is. whole_record c0 all whole b (source ∙ ap Some (some_gate a b (sym still ∙ is))))

  at_now : pending_at places c ≡ Some a
  at_now = pending_at_by c c0 places gates ∙ still

  pub number_fewer : a.gate.number ≡ l.number
  number_fewer =
      let at = pending_named all c0 a source in
      let low = finds.above a.place a.gate at.0 at.1 in
      elim finds.number [
        | inl none ↦ omega (arith, low, none)
        | inr some ↦
            let listed : names all some.0 ≡ true = names_all some.0 some.2 in
            let most = pending_most c0 all a source some.0 (record { place = some.0; gate = some.1 }) listed
            (ap (λ (o : Option Gate). option_map (λ g. record { place = some.0; gate = g }) o) some.3) in
            let is = some.4 in
            omega (arith, low, most, is)
      ]
    where
      names_all : (p : ℕ) → names on0 p ≡ true → names all p ≡ true
      names_all p named =
          filter_names (is_left on0 []) (range_with_len 0 16) p (ap (λ b. b && true) named) (names_range 0 16 p (omega arith) (let low = few p named in omega (arith, low)))

  pub at_fewer : pending_at (left_of on []) c ≡ Some a
  at_fewer = ap (λ ps. pending_at ps c) left_is ∙ at_now

  pub finds_fewer : Finds l on (left_of on []) is_pending None c
  finds_fewer = subst (λ ps. Finds l on ps is_pending None c) (sym left_is) (record {
    damaged_is = sym (whole_by c c0 places gates records whole_fewer);
    is_pending_is = finds.is_pending_is ∙ ap is_some (source ∙ sym at_now);
    targets =
        finds.targets
        ∙ record_pending c0 all a has.0 (λ p named. whole_gates c0 all p whole named) source has.1
        ∙ sym (record_pending c0 places a has.0 bad_gates still has.1)
        ∙ sym (pending_by c c0 places gates records);
    each = λ p named.
        ap (λ (block : List ℕ). is_there block && is_none (gate_of block)) (gates p named)
        ∙ finds.each p (of_fewer p named).1 ∙ ap is_none (sym (gate_same p named));
    above = λ p g named is. finds.above p g (of_fewer p named).1 (sym (gate_same p named) ∙ is);
    number = inr (a.place, a.gate, kept, (pending_named places c a at_now).1, number_fewer);
    open_is = λ p g named is. finds.open_is p g (of_fewer p named).1 (sym (gate_same p named) ∙ is);
    opened = λ is. (a.place, a.gate, kept, (pending_named places c a at_now).1, is_open);
  })
    where
      of_test : (n : ℕ) (b : Bool) → (not (n == n) || b) ≡ true → b ≡ true
      of_test n b test = subst (λ same. (not same || b) ≡ true → b ≡ true) (sym (eq-eqb n n refl)) (λ is. is) test

      is_open : a.gate.is_open ≡ true
      is_open =
          let at = pending_named places c a at_now in
          of_test a.gate.number a.gate.is_open
          (sym (ap (λ (o : Option Gate). is_open_if_of a.gate.number (option_map (λ g. record { place = a.place; gate = g }) o)) at.1)
          ∙ all_at (is_open_if_of a.gate.number) (gate_at c) places a.place (open_all c places a at_now) at.0)
