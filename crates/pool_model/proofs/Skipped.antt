-- Disks without one: who has a seat keeps it, by another number of its disk.
use Rattle.std.proofs.Common.{◌≡◌, ◌≢◌, ℕ, ◌+◌, ◌-◌, ◌<◌, ◌≤◌, Bool, true, false, nat_lt, if◌then◌else◌, map, Option, Some, None, option_map, refl, sym, ap, subst, ◌∙◌, inl, inr, lt-ltb, le-ltb, arith}
use Rattle.std.specs.Option.{option_map_or}
use Rattle.std.specs.List.{range_with_len}
use Rattle.std.proofs.lemmas.Bool.{cases_lt}
use Rattle.std.proofs.lemmas.Option.{none-some}
use Rattle.pool_state.specs.declared.contents.State.{State}
use Rattle.array_image.specs.Foremost.{foremost}
use Rattle.array_image.specs.States.{epoch_of, is_current}
use Rattle.array_core.proofs.Leading.{Leads, foremost_leads, leads_foremost}
use Rattle.array_core.proofs.Stripped.{some_same}
use Rattle.pool_image.specs.Disks.{Candidate, Disks, Identities, candidate, seat_of, stands_for}
use Rattle.pool_image.specs.Sound.{disks_without, skip}
use Rattle.pool_model.proofs.Named.{IsAhead, candidate_is, is_candidate, seat_ahead}

-- ---- numbers

module _ (d : ℕ) where
  -- the number that a disk has afterwards
  abbrev pub back : ℕ → ℕ
  back e = if nat_lt e d then e else e - 1

  skip_low : (k : ℕ) → k < d → skip d k ≡ k
  skip_low k low = ap (λ (b : Bool). if b then k else k + 1) (lt-ltb k d low)

  skip_high : (k : ℕ) → d ≤ k → skip d k ≡ k + 1
  skip_high k high = ap (λ (b : Bool). if b then k else k + 1) (le-ltb k d high)

  pub skip_other : (k : ℕ) → skip d k ≢ d
  skip_other k same = elim (cases_lt k d) [
    | inl low ↦ (let is = skip_low k low in omega (arith, is, low, same))
    | inr high ↦ (let is = skip_high k high in omega (arith, is, high, same))
  ]

  pub skip_inside : (k count : ℕ) → d < count → k < count - 1 → skip d k < count
  skip_inside k count there low = elim (cases_lt k d) [
    | inl less ↦ (let is = skip_low k less in omega (arith, is, low))
    | inr high ↦ (let is = skip_high k high in omega (arith, is, low))
  ]

  skip_less : (k m : ℕ) → k < m → skip d k < skip d m
  skip_less k m less = elim (cases_lt k d) [
    | inl low ↦ elim (cases_lt m d) [
      | inl small ↦ (let one = skip_low k low in let two = skip_low m small in omega (arith, one, two, less))
      | inr high ↦ (let one = skip_low k low in let two = skip_high m high in omega (arith, one, two, less))
    ]
    | inr past ↦ (let one = skip_high k past in let two = skip_high m (omega (arith, past, less)) in omega (arith, one, two, less))
  ]

  pub skip_back : (e : ℕ) → e ≢ d → skip d (back e) ≡ e
  skip_back e other = elim (cases_lt e d) [
    | inl low ↦ ap (λ (b : Bool). skip d (if b then e else e - 1)) (lt-ltb e d low) ∙ skip_low e low
    | inr high ↦
        let more : d < e = more_of high in
        ap (λ (b : Bool). skip d (if b then e else e - 1)) (le-ltb e d high) ∙ skip_high (e - 1) (omega (arith, more)) ∙ (let same : e - 1 + 1 ≡ e = omega (arith, more) in same)
  ]
    where
      more_of : d ≤ e → d < e
      more_of high = elim (cases_lt d e) [ inl more ↦ more | inr most ↦ absurd (other (omega (arith, high, most))) ]

  pub back_inside : (e count : ℕ) → e ≢ d → d < count → e < count → back e < count - 1
  back_inside e count other there low = elim (cases_lt (back e) (count - 1)) [
    | inl less ↦ less
    | inr high ↦
        let is = skip_back e other in
        elim (cases_lt (back e) d) [
          | inl small ↦ (let same = skip_low (back e) small in absurd (omega (arith, same, is, high, small, there)))
          | inr past ↦ (let same = skip_high (back e) past in absurd (omega (arith, same, is, high, low)))
        ]
  ]

-- ---- seats

module _ (s : State) (disks : Disks) (ids : Identities) (d : ℕ) (there : d < disks.count) where
  abbrev fewer : Disks
  fewer = disks_without d disks

  abbrev left : Identities
  left k = ids (skip d k)

  abbrev epoch_at : ℕ → ℕ
  epoch_at k = option_map_or epoch_of (ids k).copied 0

  -- the candidate that a seat's disk is leads
  pub record IsSeated (p e : ℕ) : Type 0 where
    pub current : is_current s p ≡ true
    pub first : Candidate
    pub disk : first.disk ≡ e
    pub leads : Leads (λ (k : Candidate). k.epoch) (candidate s ids p) 0 disks.count first

  pub seated : (p e : ℕ) → seat_of s disks ids p ≡ Some e → IsSeated p e
  unfolding seat_of
  seated p e is = of (is_current s p) refl is
    where
      by : (o : Option Candidate) → is_current s p ≡ true
          → foremost (λ (k : Candidate). k.epoch) (map (candidate s ids p) (range_with_len 0 disks.count)) ≡ o
          → option_map (λ (k : Candidate). k.disk) o ≡ Some e → IsSeated p e
      by None current leads at = absurd (none-some e at)
      by (Some y) current leads at =
          record { current = current; first = y; disk = some_same y.disk e at; leads = foremost_leads (λ (k : Candidate). k.epoch) (candidate s ids p) 0 disks.count y leads }

      of : (b : Bool) → is_current s p ≡ b
          → (if b then option_map (λ (k : Candidate). k.disk) (foremost (λ (k : Candidate). k.epoch) (map (candidate s ids p) (range_with_len 0 disks.count))) else None) ≡ Some e
          → IsSeated p e
      of false current at = absurd (none-some e at)
      of true current at = by (foremost (λ (k : Candidate). k.epoch) (map (candidate s ids p) (range_with_len 0 disks.count))) current refl at

  -- a place whose disk is another one keeps it
  pub seat_left : (p e : ℕ) → seat_of s disks ids p ≡ Some e → e ≢ d → seat_of s fewer left p ≡ Some (back d e)
  unfolding seat_of
  seat_left p e seat other =
      let one = seated p e seat in
      let y = one.first in
      let leads = one.leads in
      let found = is_candidate s ids p leads.at y leads.here in
      let at : leads.at ≡ e = sym found.disk ∙ one.disk in
      let is : skip d (back d e) ≡ e = skip_back d e other in
      let low : e < disks.count = (let most = leads.most in omega (arith, most, at)) in
      let epoch : y.epoch ≡ epoch_at e = found.epoch ∙ ap epoch_at at in
      let stands : stands_for s (left (back d e)) ≡ Some p = subst (λ k. stands_for s (ids k) ≡ Some p) (at ∙ sym is) found.stands in
      let now : Candidate = record { disk = back d e; epoch = epoch_at (skip d (back d e)) } in
      let now_epoch : now.epoch ≡ y.epoch = ap epoch_at is ∙ sym epoch in
      let ahead : Leads (λ (k : Candidate). k.epoch) (candidate s left p) 0 (disks.count - 1) now = record {
        at = back d e;
        least = omega arith;
        most = (let inside = back_inside d e disks.count other there low in omega (arith, inside));
        here = candidate_is s left p (back d e) stands;
        before = λ q z from less some.
            let its = is_candidate s left p q z some in
            let early : skip d q < e = (let up = skip_less d q (back d e) less in omega (arith, up, is)) in
            let lower = leads.before (skip d q) (record { disk = skip d q; epoch = epoch_at (skip d q) }) (omega arith) (omega (arith, early, at))
            (candidate_is s ids p (skip d q) its.stands) in
            let its_epoch = its.epoch in
            omega (arith, lower, its_epoch, now_epoch);
        after = λ q z late within some.
            let its = is_candidate s left p q z some in
            let more : e < skip d q = (let up = skip_less d (back d e) q late in omega (arith, up, is)) in
            let inside : skip d q < disks.count = skip_inside d q disks.count there (omega (arith, within)) in
            let lower = leads.after (skip d q) (record { disk = skip d q; epoch = epoch_at (skip d q) }) (omega (arith, more, at)) (omega (arith, inside))
            (candidate_is s ids p (skip d q) its.stands) in
            let its_epoch = its.epoch in
            omega (arith, lower, its_epoch, now_epoch);
      } in
      ap (λ b. if b then option_map (λ (k : Candidate). k.disk) (foremost (λ (k : Candidate). k.epoch) (map (candidate s left p) (range_with_len 0 (disks.count - 1)))) else None) one.current
      ∙ ap (option_map (λ (k : Candidate). k.disk)) (leads_foremost (λ (k : Candidate). k.epoch) (candidate s left p) 0 (disks.count - 1) now ahead)

  -- a place for which no other disk stands has none
  pub seat_none : (p : ℕ) → ((e : ℕ) → e < disks.count → stands_for s (ids e) ≡ Some p → e ≡ d) → seat_of s fewer left p ≡ None
  seat_none p only = by (seat_of s fewer left p) refl
    where
      by : (o : Option ℕ) → seat_of s fewer left p ≡ o → o ≡ None
      by None is = refl
      by (Some k) is =
          let ahead : IsAhead s fewer left p k = seat_ahead s fewer left p k is in
          absurd (skip_other d k (only (skip d k) (skip_inside d k disks.count there ahead.low) ahead.stands))
