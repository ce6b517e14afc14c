-- What is pending amid a commit once its record counts: it is read from a place of the commit.
use Rattle.std.proofs.Common.{◌≡◌, ◌⊎◌, ℕ, ◌+◌, ◌-◌, ◌<◌, ◌^◌, Bool, true, nat_lt, List, [], Some, sym, ap, subst, ◌∙◌, inl, inr, arith, lt-ltb}
use Rattle.std.proofs.lemmas.Bool.{cases_lt, cond-true}
use Rattle.std.proofs.lemmas.Option.{none-some}
use Rattle.rack.specs.Values.{MayLeave}
use Rattle.rack.specs.Seen.{Image, RackView, IsLive}
use Rattle.array_image.specs.Places.{log_slice}
use Rattle.array_image.specs.Record.{Gate, GateAt, gate_of, gate_sector, pending_at, pending}
use Rattle.log_laws.specs.View.{LogView, names, next_number}
use Rattle.log_laws.specs.Standing.{IsInside, StatesStand, deciding, IsReady}
use Rattle.log_laws.specs.Commits.{IsPendingNow, IsWritten}
use Rattle.commit_log.proofs.Amid.{Terms, no_gate_in_nothing}
use Rattle.log_laws.proofs.Counting.{decides_small, named_decides}
use Rattle.commit_log.proofs.Deciding.{foremost_among, gate_at, gate_at_is, pending_is_decisive}
use Rattle.commit_log.proofs.Late.{Deciders, late_pending, pending_number}

some_gate : (x y : Gate) → Some x ≡ Some y → x ≡ y
some_gate x y is = (cc)

-- gates of places are as before the commit, or those of its places
abbrev pub HasGates : List ℕ → RackView → Image → Type 0
HasGates on a c =
    (p : ℕ) → IsLive a a (log_slice p) gate_sector
    → MayLeave (a.held (log_slice p) gate_sector) (c (log_slice p) gate_sector) ⊎ (names on p ≡ true)

module _ (l : LogView) (on : List ℕ) (number : ℕ) (opened closed : List ℕ) (a : RackView) (c : Image) (ready : IsReady l on a)
    (terms : Terms l on number opened closed a) (deciders : Deciders l number opened closed a c) (states : StatesStand l.added a c)
    (inside : IsInside a.sectors c) (gates : HasGates on a c) where
  next_is : number ≡ next_number l.number
  next_is = terms.number_is ∙ sym (cond-true (nat_lt l.number (2 ^ 63 - 1)) (l.number + 1) l.number (lt-ltb l.number (2 ^ 63 - 1) ready.room))

  -- an older gate has a lower number
  pending_place : (g : GateAt) → pending_at (deciding c) c ≡ Some g → names on g.place ≡ true
  pending_place g is =
      let top = pending_number l on number opened closed a c g terms deciders is in
      let of = foremost_among (gate_at c) (deciding c) g (pending_is_decisive c (deciding c) g is) in
      let here = gate_at_is c of.place g of.gives in
      let decides = named_decides c of.place of.is_among in
      subst (λ p. names on p ≡ true) (sym here.0)
      (elim (cases_lt gate_sector (a.sectors (log_slice of.place))) [
        | inr past ↦ absurd (none-some g.gate (sym no_gate_in_nothing ∙ sym (ap gate_of (inside of.place gate_sector past)) ∙ here.1))
        | inl there ↦ elim (gates of.place (ready.logs of.place gate_sector (decides_small c of.place decides) there)) [
          | inr named ↦ named
          | inl old ↦
              let low = ready.numbers c states of.place decides there (c (log_slice of.place) gate_sector) old in
              let same : low.0 ≡ g.gate = some_gate low.0 g.gate (sym low.1 ∙ here.1) in
              let number_same = ap (λ (h : Gate). h.number) same in
              let most = low.2 in
              let next = terms.number_is in
              absurd (omega (arith, number_same, most, next, top))
        ]
      ])

  -- so all targets are pending, or nothing is and all are written
  pub deciders_pends : IsPendingNow l on c ⊎ ((pending (deciding c) c ≡ []) × IsWritten l.added c)
  deciders_pends = elim (late_pending l on number opened closed a c terms deciders) [
    | inr none ↦ inr none
    | inl all ↦ inl (record {
      all = all;
      source = λ g is. (pending_place g is, pending_number l on number opened closed a c g terms deciders is ∙ next_is);
    })
  ]
