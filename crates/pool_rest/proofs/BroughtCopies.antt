-- What disks say once a record is written that brings copies of one state: the state, and the seats by it.
use Rattle.std.proofs.Common.{◌≡◌, ◌⊎◌, ℕ, ◌+◌, ◌<◌, ◌≤◌, ◌||◌, not, Bool, true, false, nat_lt, bytes_eq, if◌then◌else◌, List, [], ◌∷◌, Option, Some, None, Ok, unwrap_or, refl, ap, ap₂, ◌∙◌, inl, inr, arith, lt-ltb, ltb-true}
use Rattle.std.specs.Option.{option_map_or}
use Rattle.std.specs.Result.{result_ok}
use Rattle.std.specs.List.{filter_map, list_all, list_any}
use Rattle.std.proofs.lemmas.Bool.{or_parts}
use Rattle.std.proofs.lemmas.Slice.Eq.{bytes_eq-Decides}
use Rattle.rack.specs.Seen.{Image}
use Rattle.rack.specs.Targets.{Target, look}
use Rattle.gpt_table.specs.Changes.{IsOfCopies}
use Rattle.pool_state.specs.declared.contents.Copied.{Copied}
use Rattle.pool_state.specs.declared.contents.State.{State}
use Rattle.pool_state.specs.Sector.{decoded}
use Rattle.array_image.specs.Places.{log_slice, state_sector, arrays_first}
use Rattle.array_image.specs.Record.{is_target, are_apart}
use Rattle.pool_image.specs.Disks.{Disks, Identities, all_disks, identities_of, newest, seat_of}
use Rattle.pool_image.specs.Replay.{landed}
use Rattle.pool_image.proofs.Identities.{table_same}
use Rattle.pool_scan.specs.Choosing.{has_pool_other_than}
use Rattle.pool_rest.specs.Resting.{replayed_on}
use Rattle.pool_rest.proofs.LaterCopies.{IsCopied, newest_later as later_newest, newest_still as still_newest, seats_still as still_seats}
use Rattle.pool_rest.proofs.Landings.{IsCopyAt, where_landed, copy_lands}

-- a sector of a partition table is none that a target has
pub no_copy : (n t : ℕ) → IsOfCopies n t → ((t ≡ state_sector) × (arrays_first ≤ n)) ⊎ ((arrays_first ≤ t) × (t + 33 < n)) → ⊥
no_copy n t (inl (inl header)) (inl log) = omega (arith, header, log.0)
no_copy n t (inl (inr entries)) (inl log) = omega (arith, entries.0, entries.1, log.0)
no_copy n t (inr (inl header)) (inl log) = omega (arith, header, log.0, log.1)
no_copy n t (inr (inr entries)) (inl log) = omega (arith, entries.0, entries.1, log.0, log.1)
no_copy n t (inl (inl header)) (inr part) = omega (arith, header, part.0)
no_copy n t (inl (inr entries)) (inr part) = omega (arith, entries.0, entries.1, part.0)
no_copy n t (inr (inl header)) (inr part) = omega (arith, header, part.0, part.1)
no_copy n t (inr (inr entries)) (inr part) = omega (arith, entries.0, entries.1, part.0, part.1)

module _ (disks : Disks) (c : Image) (z : State) (xs : List Target) (valid : list_all is_target xs ≡ true) (apart : are_apart xs ≡ true)
    (copies : (p : ℕ) (u : List ℕ) → look xs (log_slice p) 0 ≡ Some u → decoded u ≡ Ok (record { state = z; own = p })) where
  abbrev early : Identities
  early = identities_of disks c

  abbrev late : Identities
  late = identities_of disks (replayed_on disks z xs c)

  abbrev targets : List Target
  targets = filter_map (landed disks early (seat_of z disks early)) xs

  read_is : (d t : ℕ) (o : Option (List ℕ)) → look targets d t ≡ o → t < disks.sectors d → replayed_on disks z xs c d t ≡ unwrap_or o (c d t)
  read_is d t o is there =
      ap (λ b. if b then unwrap_or (look targets d t) (c d t) else c d t) (lt-ltb t (disks.sectors d) there) ∙ ap (λ (o : Option (List ℕ)). unwrap_or o (c d t)) is

  -- tables stay
  pub tables : (d : ℕ) → (late d).table ≡ (early d).table
  tables d = table_same (disks.sectors d) (replayed_on disks z xs c d) (c d) (λ t below of. of_look t below of (look targets d t) refl)
    where
      of_look : (t : ℕ) → t < disks.sectors d → IsOfCopies (disks.sectors d) t → (o : Option (List ℕ)) → look targets d t ≡ o → replayed_on disks z xs c d t ≡ c d t
      of_look t below of None is = read_is d t None is below
      of_look t below of (Some v) is =
          elim (where_landed disks early z xs valid apart d t v is) [
            | inl copy ↦ absurd (no_copy (disks.sectors d) t of (inl (copy.sector, copy.room)))
            | inr part ↦ absurd (no_copy (disks.sectors d) t of (inr part))
          ]

  -- a disk has the copy that it had, or one of the state and of the place whose disk it is by it
  abbrev IsBroughtTo : ℕ → ℕ → Type 0
  IsBroughtTo d q = IsCopied disks z early late d q

  copy_read : (d q : ℕ) (v : List ℕ) → IsCopyAt disks early z xs d state_sector v → look targets d state_sector ≡ Some v → (p : ℕ) × IsBroughtTo d p
  copy_read d q v copy is = (
    copy.place,
    (
      copy.seat,
      ap (λ b. if b then result_ok (decoded (replayed_on disks z xs c d state_sector)) else None) (lt-ltb state_sector (disks.sectors d) (let long = copy.room in omega (arith, long)))
          ∙ ap (λ (u : List ℕ). result_ok (decoded u)) (read_is d state_sector (Some v) is (let long = copy.room in omega (arith, long)))
          ∙ ap result_ok (copies copy.place v copy.target),
    ),
  )

  copied_or : (d : ℕ) → ((late d).copied ≡ (early d).copied) ⊎ ((q : ℕ) × IsBroughtTo d q)
  copied_or d = of_look (look targets d state_sector) refl
    where
      kept : (b : Bool) → nat_lt state_sector (disks.sectors d) ≡ b → look targets d state_sector ≡ None
          → (if b then result_ok (decoded (replayed_on disks z xs c d state_sector)) else None) ≡ (if b then result_ok (decoded (c d state_sector)) else None)
      kept false past none = refl
      kept true there none = ap (λ (u : List ℕ). result_ok (decoded u)) (read_is d state_sector None none (ltb-true state_sector (disks.sectors d) there))

      of_look : (o : Option (List ℕ)) → look targets d state_sector ≡ o → ((late d).copied ≡ (early d).copied) ⊎ ((q : ℕ) × IsBroughtTo d q)
      of_look None none = inl (kept (nat_lt state_sector (disks.sectors d)) refl none)
      of_look (Some v) is =
          elim (where_landed disks early z xs valid apart d state_sector v is) [
            | inl copy ↦ inr (copy_read d 0 v copy is)
            | inr part ↦ absurd (omega (arith, part.0))
          ]

  -- where the record has a copy for a place whose disk has a log slice, that disk has one
  brought_there : (p d : ℕ) (u : List ℕ) → seat_of z disks early p ≡ Some d → arrays_first ≤ disks.sectors d → look xs (log_slice p) 0 ≡ Some u
      → (q : ℕ) × IsBroughtTo d q
  brought_there p d u seat room has = of_look (look targets d state_sector) refl
    where
      of_look : (o : Option (List ℕ)) → look targets d state_sector ≡ o → (q : ℕ) × IsBroughtTo d q
      of_look None none = absurd (copy_lands disks early z xs p d u seat room has none)
      of_look (Some v) is =
          elim (where_landed disks early z xs valid apart d state_sector v is) [
            | inl copy ↦ copy_read d 0 v copy is
            | inr part ↦ absurd (omega (arith, part.0))
          ]

  -- no other pool comes
  pub other_still : has_pool_other_than z.pool.0 disks early ≡ false → has_pool_other_than z.pool.0 disks late ≡ false
  other_still none =
      any_false (λ d. option_map_or (λ copy. not (bytes_eq copy.state.pool.0 z.pool.0)) (early d).copied false)
      (λ d. option_map_or (λ copy. not (bytes_eq copy.state.pool.0 z.pool.0)) (late d).copied false) (all_disks disks) each none
    where
      any_false : (f g : ℕ → Bool) (ds : List ℕ) → ((d : ℕ) → f d ≡ false → g d ≡ false) → list_any f ds ≡ false → list_any g ds ≡ false
      any_false f g [] each none = refl
      any_false f g (d ∷ ds) each none =
          let parts = or_parts (f d) (list_any f ds) none in
          ap₂ (λ a b. a || b) (each d parts.0) (any_false f g ds each parts.1)

      each : (d : ℕ) → option_map_or (λ copy. not (bytes_eq copy.state.pool.0 z.pool.0)) (early d).copied false ≡ false
          → option_map_or (λ copy. not (bytes_eq copy.state.pool.0 z.pool.0)) (late d).copied false ≡ false
      each d own =
          elim (copied_or d) [
            | inl same ↦ ap (λ (o : Option Copied). option_map_or (λ copy. not (bytes_eq copy.state.pool.0 z.pool.0)) o false) same ∙ own
            | inr new ↦
                ap (λ (o : Option Copied). option_map_or (λ copy. not (bytes_eq copy.state.pool.0 z.pool.0)) o false) new.1.1
                ∙ ap not ((bytes_eq-Decides z.pool.0 z.pool.0).1 refl)
          ]

  -- so each place has the disk that it had, where no copy was of a later epoch
  module _ (low : (d : ℕ) (copy : Copied) → d < disks.count → (early d).copied ≡ Some copy → copy.state.epoch ≤ z.epoch) where
    pub seats_still : (p : ℕ) → seat_of z disks late p ≡ seat_of z disks early p
    seats_still = still_seats disks z early late (λ d there. tables d) (λ d there. copied_or d) low

    -- ---- the newest state

    -- that which was the newest stays so
    pub newest_still : newest disks early ≡ Some z → newest disks late ≡ Some z
    newest_still = still_newest disks z early late (λ d there. tables d) (λ d there. copied_or d) low

    -- a later one of which a copy came becomes it
    pub newest_later : (s : State) → newest disks early ≡ Some s → s.epoch < z.epoch
        → (p d : ℕ) (u : List ℕ) → d < disks.count → seat_of z disks early p ≡ Some d → arrays_first ≤ disks.sectors d → look xs (log_slice p) 0 ≡ Some u
        → newest disks late ≡ Some z
    newest_later s is later p d u there seat room has =
        let brought = brought_there p d u seat room has in
        later_newest disks z early late (λ d there. tables d) (λ d there. copied_or d) low s is later d brought.0 there brought.1
