-- What disks say of which some have got a copy of one state, each for the place whose disk it is by it: the state, and the seats by it.
use Rattle.std.proofs.Common.{◌≡◌, ◌⊎◌, ℕ, ◌<◌, ◌≤◌, ◌==◌, Bool, true, false, nat_lt, bytes_eq, if◌then◌else◌, position, slice_get, List, length, map, Option, Some, None, option_map, refl, sym, ap, ap₂, ◌∙◌, inl, inr, arith, eqb-true, eq-eqb, ltb-true, subst}
use Rattle.std.specs.Option.{option_map_or, option_and_then}
use Rattle.std.specs.List.{position_or_len, range_with_len}
use Rattle.std.proofs.lemmas.Bool.{cases_eq, both_ways, ne_eqb}
use Rattle.std.proofs.lemmas.List.Quantifiers.{position-Some}
use Rattle.std.proofs.lemmas.Option.{none-some, cond_some, slice_get_cases}
use Rattle.std.proofs.lemmas.Slice.Eq.{bytes_eq-Decides}
use Rattle.gpt_table.specs.declared.Table.{Table}
use Rattle.pool_state.specs.declared.contents.Copied.{Copied}
use Rattle.pool_state.specs.declared.contents.Drive.{Drive}
use Rattle.pool_state.specs.declared.contents.State.{State}
use Rattle.array_image.specs.Foremost.{foremost}
use Rattle.array_image.specs.States.{epoch_of, is_current, id_of}
use Rattle.pool_image.specs.Disks.{Disks, Identity, Identities, Candidate, id_by, stands_for, candidate, newest, seat_of}
use Rattle.pool_scan.proofs.Seated.{foremost_from}
use Rattle.pool_rest.proofs.Fronts.{Front, low_all, low_foremost, front_all, front_new}

-- ---- seats

-- a disk that is taken for a place stands for it
pub seat_stands : (z : State) (disks : Disks) (i : Identities) (p d : ℕ) → seat_of z disks i p ≡ Some d → stands_for z (i d) ≡ Some p
unfolding seat_of
seat_stands z disks i p d is = of_current (is_current z p) is
  where
    of_place : (o : Option ℕ) → option_map_or (λ q. q == p) o false ≡ true → o ≡ Some p
    of_place None at = absurd (both_ways false refl at)
    of_place (Some q) at = ap Some (eqb-true q p at)

    of_foremost : (o : Option Candidate) → foremost (λ k. k.epoch) (map (candidate z i p) (range_with_len 0 disks.count)) ≡ o
        → option_map (λ k. k.disk) o ≡ Some d → stands_for z (i d) ≡ Some p
    of_foremost None has at = absurd (none-some d at)
    of_foremost (Some k) has at =
        let from = foremost_from (λ k. k.epoch) (candidate z i p) 0 disks.count k has in
        let test = cond_some (option_map_or (λ q. q == p) (stands_for z (i from.0)) false) (record { disk = from.0; epoch = option_map_or epoch_of (i from.0).copied 0 }) k from.2 in
        let same : from.0 ≡ d = ap (λ (x : Candidate). x.disk) test.1 ∙ ap (λ (o : Option ℕ). option_map_or (λ x. x) o 0) at in
        subst (λ e. stands_for z (i e) ≡ Some p) same (of_place (stands_for z (i from.0)) test.0)

    of_current : (b : Bool) → (if b then option_map (λ k. k.disk) (foremost (λ k. k.epoch) (map (candidate z i p) (range_with_len 0 disks.count))) else None) ≡ Some d
        → stands_for z (i d) ≡ Some p
    of_current true at = of_foremost (foremost (λ k. k.epoch) (map (candidate z i p) (range_with_len 0 disks.count))) refl at
    of_current false at = absurd (none-some d at)

-- the drive at the place of an id has it
at_position : (id : List ℕ) (drives : List Drive) (q : ℕ) → position (λ drive. bytes_eq drive.id.0 id) drives ≡ Some q
    → option_map (λ drive. drive.id.0) (slice_get drives q) ≡ Some id
at_position id drives q is =
    elim ((slice_get_cases drives q).1) [
      | inr past ↦ absurd (omega (arith, past.0, low))
      | inl found ↦
          let test = (position-Some (λ drive. bytes_eq drive.id.0 id) drives q found.0 is).1 in
          ap (option_map (λ drive. drive.id.0)) found.2
          ∙ ap Some ((bytes_eq-Decides found.0.id.0 id).0 (subst (λ (drive : Drive). bytes_eq drive.id.0 id ≡ true) found.3 test))
    ]
  where
    low : q < length drives
    low =
        let test = cond_some (nat_lt (position_or_len (λ drive. bytes_eq drive.id.0 id) drives) (length drives)) (position_or_len (λ drive. bytes_eq drive.id.0 id) drives) q is in
        let below = ltb-true (position_or_len (λ drive. bytes_eq drive.id.0 id) drives) (length drives) test.0 in
        omega (arith, below, test.1)

-- a disk that is given a copy of its own place's stays that place's drive
pub id_stays : (z : State) (identity : Identity) (q : ℕ) → stands_for z identity ≡ Some q
    → option_and_then (λ id. position (λ drive. bytes_eq drive.id.0 id) z.drives.items) (id_of z q) ≡ Some q
id_stays z identity q is = of_id (id_by identity.table identity.copied) is
  where
    of_id : (o : Option (List ℕ)) → option_and_then (λ id. position (λ drive. bytes_eq drive.id.0 id) z.drives.items) o ≡ Some q
        → option_and_then (λ id. position (λ drive. bytes_eq drive.id.0 id) z.drives.items) (id_of z q) ≡ Some q
    of_id None at = absurd (none-some q at)
    of_id (Some id) at = ap (option_and_then (λ id. position (λ drive. bytes_eq drive.id.0 id) z.drives.items)) (at_position id z.drives.items q at) ∙ at

-- ---- copies

-- no copy is of a later epoch than the newest state
pub newest_latest : (disks : Disks) (i : Identities) (s : State) (d : ℕ) (copy : Copied) → newest disks i ≡ Some s → d < disks.count → (i d).copied ≡ Some copy
    → copy.state.epoch ≤ s.epoch
newest_latest disks i s d copy is there at =
    low_all epoch_of s.epoch (λ d. (i d).copied) 0 disks.count d copy
    (λ k front. let same : k.state ≡ s = state_of k.state (ap (option_map (λ copy. copy.state)) (sym front) ∙ is) in omega (arith, ap (λ (u : State). u.epoch) same))
    (omega arith) (omega (arith, there)) at
  where
    state_of : (x : State) → Some x ≡ Some s → x ≡ s
    state_of x same = (cc)

-- a disk has a copy of the state, of the place whose disk it was by it
abbrev pub IsCopied : Disks → State → Identities → Identities → ℕ → ℕ → Type 0
IsCopied disks z early late d q = (seat_of z disks early q ≡ Some d) × ((late d).copied ≡ Some (record { state = z; own = q }))

-- each disk has the table that it had, and its copy or such a one
module _ (disks : Disks) (z : State) (early late : Identities) (tables : (d : ℕ) → d < disks.count → (late d).table ≡ (early d).table)
    (copied_or : (d : ℕ) → d < disks.count → ((late d).copied ≡ (early d).copied) ⊎ ((q : ℕ) × IsCopied disks z early late d q)) where
  -- each disk stands for the place for which it stood
  pub stands_still : (d : ℕ) → d < disks.count → stands_for z (late d) ≡ stands_for z (early d)
  stands_still d there =
      elim (copied_or d there) [
        | inl same ↦ ap₂ (λ (t : Option Table) (k : Option Copied). stands_for z (record { copied = k; table = t })) (tables d there) same
        | inr new ↦
            let stood = seat_stands z disks early new.0 d new.1.0 in
            ap (λ (k : Option Copied). stands_for z (record { copied = k; table = (late d).table })) new.1.1
            ∙ id_stays z (early d) new.0 stood ∙ sym stood
      ]

  -- so each place has the disk that it had, where no copy was of a later epoch
  module _ (low : (d : ℕ) (copy : Copied) → d < disks.count → (early d).copied ≡ Some copy → copy.state.epoch ≤ z.epoch) where
    epoch_low : (d : ℕ) → d < disks.count → (o : Option Copied) → (early d).copied ≡ o → option_map_or epoch_of o 0 ≤ z.epoch
    epoch_low d there None is = omega arith
    epoch_low d there (Some copy) is = low d copy there is

    -- a candidate is as it was, or has the state's epoch and the seat
    abbrev IsRaised : ℕ → Candidate → Type 0
    IsRaised p k = (seat_of z disks early p ≡ Some k.disk) × (k.epoch ≡ z.epoch)

    candidate_front : (p d : ℕ) → d < disks.count → Front (IsRaised p) (candidate z late p d) (candidate z early p d)
    candidate_front p d there =
        elim (copied_or d there) [
          | inl same ↦
              inl (ap₂ (λ (o : Option ℕ) (k : Option Copied). if option_map_or (λ q. q == p) o false then Some (record { disk = d; epoch = option_map_or epoch_of k 0 }) else None)
              (stands_still d there) same)
          | inr new ↦ of_place new (cases_eq new.0 p)
        ]
      where
        stood : (new : (q : ℕ) × IsCopied disks z early late d q) → stands_for z (early d) ≡ Some new.0
        stood new = seat_stands z disks early new.0 d new.1.0

        of_place : (new : (q : ℕ) × IsCopied disks z early late d q) → (new.0 ≡ p) ⊎ (new.0 ≡ p → ⊥) → Front (IsRaised p) (candidate z late p d) (candidate z early p d)
        of_place new (inl here) =
            inr (
              record { disk = d; epoch = z.epoch },
              ap₂ (λ (o : Option ℕ) (k : Option Copied). if option_map_or (λ q. q == p) o false then Some (record { disk = d; epoch = option_map_or epoch_of k 0 }) else None)
                  (stands_still d there ∙ stood new) new.1.1
                  ∙ ap (λ b. if b then Some (record { disk = d; epoch = z.epoch }) else None) (eq-eqb new.0 p here),
              (ap (seat_of z disks early) (sym here) ∙ new.1.0, refl),
            )
        of_place new (inr other) =
            inl (none_at late (stands_still d there ∙ stood new) ∙ sym (none_at early (stood new)))
          where
            none_at : (i : Identities) → stands_for z (i d) ≡ Some new.0 → candidate z i p d ≡ None
            none_at i is =
                ap (λ (o : Option ℕ). if option_map_or (λ q. q == p) o false then Some (record { disk = d; epoch = option_map_or epoch_of (i d).copied 0 }) else None) is
                ∙ ap (λ b. if b then Some (record { disk = d; epoch = option_map_or epoch_of (i d).copied 0 }) else None) (ne_eqb new.0 p other)

    pub seats_still : (p : ℕ) → seat_of z disks late p ≡ seat_of z disks early p
    unfolding seat_of
    seats_still p = of_current (is_current z p) refl
      where
        low_candidate : (d : ℕ) (k : Candidate) → d < disks.count → candidate z early p d ≡ Some k → k.epoch ≤ z.epoch
        low_candidate d k there is =
            let test = cond_some (option_map_or (λ q. q == p) (stands_for z (early d)) false) (record { disk = d; epoch = option_map_or epoch_of (early d).copied 0 }) k is in
            let epoch : option_map_or epoch_of (early d).copied 0 ≡ k.epoch = ap (λ (x : Candidate). x.epoch) test.1 in
            omega (arith, epoch, epoch_low d there (early d).copied refl)

        front : Front (IsRaised p) (foremost (λ k. k.epoch) (map (candidate z late p) (range_with_len 0 disks.count)))
            (foremost (λ k. k.epoch) (map (candidate z early p) (range_with_len 0 disks.count)))
        front =
            front_all (λ k. k.epoch) (IsRaised p) z.epoch (λ k new. new.1) (candidate z late p) (candidate z early p) 0 disks.count
            (λ d from past. candidate_front p d (omega (arith, past)))
            (low_foremost (λ k. k.epoch) z.epoch (candidate z early p) 0 disks.count (λ d k from past is. low_candidate d k (omega (arith, past)) is))

        of_current : (b : Bool) → is_current z p ≡ b
            → (if b then option_map (λ k. k.disk) (foremost (λ k. k.epoch) (map (candidate z late p) (range_with_len 0 disks.count))) else None)
            ≡ (if b then option_map (λ k. k.disk) (foremost (λ k. k.epoch) (map (candidate z early p) (range_with_len 0 disks.count))) else None)
        of_current false is = refl
        of_current true is =
            elim front [
              | inl same ↦ ap (option_map (λ k. k.disk)) same
              | inr new ↦
                  ap (option_map (λ k. k.disk)) new.1 ∙ sym new.2.0
                  ∙ ap (λ (b : Bool). if b then option_map (λ k. k.disk) (foremost (λ k. k.epoch) (map (candidate z early p) (range_with_len 0 disks.count))) else None) is
            ]

    -- ---- the newest state

    copied_front : (d : ℕ) → d < disks.count → Front (λ (copy : Copied). copy.state ≡ z) ((late d).copied) ((early d).copied)
    copied_front d there = elim (copied_or d there) [ inl same ↦ inl same | inr new ↦ inr (record { state = z; own = new.0 }, new.1.1, refl) ]

    epoch_new : (copy : Copied) → copy.state ≡ z → copy.state.epoch ≡ z.epoch
    epoch_new copy is = ap (λ (u : State). u.epoch) is

    -- that which was the newest stays so
    pub newest_still : newest disks early ≡ Some z → newest disks late ≡ Some z
    newest_still is =
        elim (front_all epoch_of (λ (copy : Copied). copy.state ≡ z) z.epoch epoch_new (λ d. (late d).copied) (λ d. (early d).copied) 0 disks.count (λ d from past. copied_front d (omega (arith, past)))
        (low_foremost epoch_of z.epoch (λ d. (early d).copied) 0 disks.count (λ d copy from past at. low d copy (omega (arith, past)) at))) [
          | inl same ↦ ap (option_map (λ copy. copy.state)) same ∙ is
          | inr new ↦ ap (option_map (λ copy. copy.state)) new.1 ∙ ap Some new.2
        ]

    -- a later one of which a copy came becomes it
    pub newest_later : (s : State) → newest disks early ≡ Some s → s.epoch < z.epoch → (d q : ℕ) → d < disks.count → IsCopied disks z early late d q → newest disks late ≡ Some z
    newest_later s is later d q there brought =
        let front = front_new epoch_of (λ (copy : Copied). copy.state ≡ z) z.epoch epoch_new (λ d. (late d).copied) (λ d. (early d).copied) 0 disks.count d (record { state = z; own = q })
        (λ d from past. copied_front d (omega (arith, past)))
        (λ copy front. let same : copy.state ≡ s = state_of copy.state (ap (option_map (λ copy. copy.state)) (sym front) ∙ is) in omega (arith, later, ap (λ (u : State). u.epoch) same))
        (omega arith) (omega (arith, there)) brought.1 refl in
        ap (option_map (λ copy. copy.state)) front.1 ∙ ap Some front.2
      where
        state_of : (x : State) → Some x ≡ Some s → x ≡ s
        state_of x same = (cc)
