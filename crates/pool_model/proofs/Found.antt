-- The pool that contents have: its state is the newest one, and its seats are by that.
use Rattle.std.proofs.Common.{◌≡◌, ◌⊎◌, ℕ, zero, suc, ◌<◌, ◌≤◌, ◌^◌, List, Bool, true, false, ◌&&◌, nat_lt, nat_le, not, if◌then◌else◌, map, Option, Some, None, Result, Ok, Err, option_map, refl, sym, ap, subst, ◌∙◌, inl, inr, leb-true, arith}
use Rattle.std.specs.Option.{option_and_then, option_map_or}
use Rattle.std.specs.List.{list_all, range_with_len}
use Rattle.std.specs.Result.{result_ok}
use Rattle.std.proofs.lemmas.Bool.{and_parts, cases_eq, cases_lt}
use Rattle.std.proofs.lemmas.Option.{none-some}
use Rattle.rack.specs.Seen.{Image}
use Rattle.pool_state.specs.declared.contents.Copied.{Copied}
use Rattle.pool_state.specs.declared.contents.State.{State}
use Rattle.pool_state.specs.declared.contents.StateFault.TheVariants.{BadField, BadSum, NotState}
use Rattle.pool_state.specs.Sector.{copied_of, decoded, has_right_sum, is_canonical, is_state}
use Rattle.pool_state.specs.Valid.{has_arrays, has_places, is_drive, is_extent, is_valid}
use Rattle.array_image.specs.Foremost.{foremost}
use Rattle.array_image.specs.Places.{state_sector}
use Rattle.array_image.specs.States.{epoch_of, is_current}
use Rattle.array_core.proofs.Leading.{foremost_leads, none_leads, not_more}
use Rattle.array_core.proofs.Stripped.{some_same}
use Rattle.log_laws.specs.Kept.{IsNoLater}
use Rattle.pool_image.specs.Disks.{Disks, Identity, identities_of, newest, seat_of}
use Rattle.pool_image.specs.Drives.{Found, found, found_by}
use Rattle.pool_image.specs.Replay.{Standing, standing, written}
use Rattle.pool_scan.proofs.Valid.{valid_arrays, valid_places}
use Rattle.raid_laws.proofs.Noted.{current_few}

-- ---- copies

pub ok_of : {X Y : Type 0} (r : Result X Y) (x : X) → result_ok r ≡ Some x → r ≡ Ok x
ok_of (Ok y) x is = cc
ok_of (Err e) x is = absurd (none-some x is)

-- whatever is read is valid
decoded_valid : (u : List ℕ) (copy : Copied) → decoded u ≡ Ok copy → is_valid copy.state copy.own ≡ true
decoded_valid u copy is = of (is_state u) (has_right_sum u) (is_canonical u) (is_valid (copied_of u).state (copied_of u).own) refl is
  where
    of : (a b d e : Bool) → is_valid (copied_of u).state (copied_of u).own ≡ e
        → (if not a then Err NotState else if not b then Err BadSum else if not (d && e) then Err BadField else Ok (copied_of u)) ≡ Ok copy
        → is_valid copy.state copy.own ≡ true
    of true true true true valid at = subst (λ (k : Copied). is_valid k.state k.own ≡ true) (some_same (copied_of u) copy (ap result_ok at)) valid
    of true true true false valid at = absurd (let no : Err BadField ≡ Ok copy = at in cc)
    of true true false e valid at = absurd (let no : Err BadField ≡ Ok copy = at in cc)
    of true false d e valid at = absurd (let no : Err BadSum ≡ Ok copy = at in cc)
    of false b d e valid at = absurd (let no : Err NotState ≡ Ok copy = at in cc)

valid_epoch : (s : State) (own : ℕ) → is_valid s own ≡ true → 1 ≤ s.epoch
valid_epoch s own valid =
    let two = and_parts (has_places s own) _ (and_parts (is_extent s.extent) _ valid).1 in
    let three = and_parts (has_arrays s) _ two.1 in
    let four = and_parts (list_all is_drive s.drives.items) _ three.1 in
    leb-true 1 s.epoch (and_parts (nat_le 1 s.epoch) (nat_lt s.epoch (2 ^ 63)) four.1).0

-- of copies that aren't later than a state, where one is of it, the newest is
pub newest_latest : (g : ℕ → Option Copied) (n d : ℕ) (copy : Copied) (s : State) → d < n → g d ≡ Some copy → copy.state ≡ s
    → ((q : ℕ) (k : Copied) → q < n → g q ≡ Some k → IsNoLater s k) → option_map (λ k. k.state) (foremost epoch_of (map g (range_with_len 0 n))) ≡ Some s
newest_latest g n d copy s low is of_it each = by (foremost epoch_of (map g (range_with_len 0 n))) refl
  where
    by : (o : Option Copied) → foremost epoch_of (map g (range_with_len 0 n)) ≡ o → option_map (λ k. k.state) o ≡ Some s
    by None none = absurd (none-some copy (sym (none_leads epoch_of g 0 n none d (omega arith) (omega (arith, low))) ∙ is))
    by (Some k) some =
        let leads = foremost_leads epoch_of g 0 n k some in
        let most = leads.most in
        elim (each leads.at k (omega (arith, most)) leads.here) [
          | inr same ↦ ap Some same
          | inl lower ↦
              let more : epoch_of copy ≤ epoch_of k = not_more epoch_of g 0 n k leads d copy (omega arith) (omega (arith, low)) is in
              let same : copy.state.epoch ≡ s.epoch = ap (λ (z : State). z.epoch) of_it in
              absurd (omega (arith, lower, more, same))
        ]

-- ---- what is found

-- a pool is by what its contents say
pub record IsFound (f : Found) : Type 0 where
  pub newest_is : newest f.disks f.identities ≡ Some f.state
  pub seats : (p : ℕ) → f.seats p ≡ seat_of f.state f.disks f.identities p
  pub identities : (d : ℕ) → f.identities d ≡ identities_of f.disks f.contents d

pub found_is : (disks : Disks) (c : Image) (f : Found) → found disks c ≡ Some f → IsFound f × (f.disks ≡ disks)
unfolding found
found_is disks c f is = of (standing disks c) is
  where
    by : (before : Standing) (e : Image) (o : Option State) → newest disks (identities_of disks e) ≡ o
        → option_map (λ s. record { disks = disks; before = before; contents = e; identities = identities_of disks e; state = s; seats = seat_of s disks (identities_of disks e) }) o ≡ Some f
        → IsFound f × (f.disks ≡ disks)
    by before e None newest_is at = absurd (none-some f at)
    by before e (Some s) newest_is at =
        subst (λ (k : Found). IsFound k × (k.disks ≡ disks))
        (some_same (record { disks = disks; before = before; contents = e; identities = identities_of disks e; state = s; seats = seat_of s disks (identities_of disks e) }) f at)
        (record { newest_is = newest_is; seats = λ p. refl; identities = λ d. refl }, refl)

    of : (o : Option Standing) → option_and_then (λ before. found_by disks before (written disks before c)) o ≡ Some f → IsFound f × (f.disks ≡ disks)
    of None at = absurd (none-some f at)
    of (Some before) at = by before (written disks before c) (newest disks (identities_of disks (written disks before c))) refl at

-- what stood on the disks before the record was replayed
pub found_stands : (disks : Disks) (c : Image) (f : Found) → found disks c ≡ Some f → standing disks c ≡ Some f.before
unfolding found
found_stands disks c f is = of (standing disks c) refl is
  where
    by : (before : Standing) (e : Image) (o : Option State)
        → option_map (λ s. record { disks = disks; before = before; contents = e; identities = identities_of disks e; state = s; seats = seat_of s disks (identities_of disks e) }) o ≡ Some f
        → before ≡ f.before
    by before e None at = absurd (none-some f at)
    by before e (Some s) at = ap (λ (o : Option Found). option_map_or (λ k. k.before) o before) at

    of : (o : Option Standing) → standing disks c ≡ o → option_and_then (λ before. found_by disks before (written disks before c)) o ≡ Some f → standing disks c ≡ Some f.before
    of None none at = absurd (none-some f at)
    of (Some before) some at = some ∙ ap Some (by before (written disks before c) (newest disks (identities_of disks (written disks before c))) at)

-- a disk is some place's, or none's
pub seated_below : (seats : ℕ → Option ℕ) (d n : ℕ) → ((p : ℕ) × (seats p ≡ Some d)) ⊎ ((p : ℕ) → p < n → seats p ≡ Some d → ⊥)
seated_below seats d zero = inr (λ p low seat. absurd (omega (arith, low)))
seated_below seats d (suc n) =
    elim (seated_below seats d n) [
      | inl one ↦ inl one
      | inr none ↦ elim (of (seats n) refl) [
        | inl here ↦ inl (n, here)
        | inr other ↦ inr (λ p low seat. elim (cases_lt p n) [
          | inl less ↦ none p less seat
          | inr last ↦ (let same : p ≡ n = omega (arith, low, last) in other (ap seats (sym same) ∙ seat))
        ])
      ]
    ]
  where
    of : (o : Option ℕ) → seats n ≡ o → (seats n ≡ Some d) ⊎ (seats n ≡ Some d → ⊥)
    of None none = inr (λ at. none-some d (sym none ∙ at))
    of (Some e) some = elim (cases_eq e d) [
      | inl same ↦ inl (some ∙ ap Some same)
      | inr other ↦ inr (λ at. other (some_same e d (sym some ∙ at)))
    ]

module _ (f : Found) (is : IsFound f) where
  -- no copy is of a later epoch than the state
  pub latest : (d : ℕ) (copy : Copied) → d < f.disks.count → (f.identities d).copied ≡ Some copy → copy.state.epoch ≤ f.state.epoch
  latest d copy low here = by (foremost epoch_of (map (λ q. (f.identities q).copied) (range_with_len 0 f.disks.count))) refl is.newest_is
    where
      by : (o : Option Copied) → foremost epoch_of (map (λ q. (f.identities q).copied) (range_with_len 0 f.disks.count)) ≡ o
          → option_map (λ k. k.state) o ≡ Some f.state → copy.state.epoch ≤ f.state.epoch
      by None some at = absurd (none-some f.state at)
      by (Some k) some at =
          let more : epoch_of copy ≤ epoch_of k =
          not_more epoch_of (λ q. (f.identities q).copied) 0 f.disks.count k (foremost_leads epoch_of (λ q. (f.identities q).copied) 0 f.disks.count k some) d copy (omega arith) (omega (arith, low)) here in
          let same : k.state.epoch ≡ f.state.epoch = ap (λ (z : State). z.epoch) (some_same k.state f.state at) in
          omega (arith, more, same)

  -- its state is valid
  pub valid : (own : ℕ) × (is_valid f.state own ≡ true)
  valid = by (foremost epoch_of (map (λ q. (f.identities q).copied) (range_with_len 0 f.disks.count))) refl is.newest_is
    where
      of_block : (k : Copied) (b : Bool) (u : List ℕ) → (if b then result_ok (decoded u) else None) ≡ Some k → is_valid k.state k.own ≡ true
      of_block k true u at = decoded_valid u k (ok_of (decoded u) k at)
      of_block k false u at = absurd (none-some k at)

      by : (o : Option Copied) → foremost epoch_of (map (λ q. (f.identities q).copied) (range_with_len 0 f.disks.count)) ≡ o
          → option_map (λ k. k.state) o ≡ Some f.state → (own : ℕ) × (is_valid f.state own ≡ true)
      by None some at = absurd (none-some f.state at)
      by (Some k) some at =
          let leads = foremost_leads epoch_of (λ q. (f.identities q).copied) 0 f.disks.count k some in
          let here : (identities_of f.disks f.contents leads.at).copied ≡ Some k = sym (ap (λ (z : Identity). z.copied) (is.identities leads.at)) ∙ leads.here in (
            k.own,
            subst (λ (z : State). is_valid z k.own ≡ true) (some_same k.state f.state at)
                (of_block k (nat_lt state_sector (f.disks.sectors leads.at)) (f.contents leads.at state_sector) here),
          )

  pub first_epoch : 1 ≤ f.state.epoch
  first_epoch = valid_epoch f.state valid.0 valid.1

  pub some_made : (1 ≤ f.state.made) × (f.state.made ≤ 16)
  some_made = let all = valid_arrays f.state valid.0 valid.1 in (all.0, all.1)

  pub few_places : (p : ℕ) → is_current f.state p ≡ true → p < 16
  few_places p current = current_few f.state p (valid_places f.state valid.0 valid.1).1 current
