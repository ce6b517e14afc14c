-- Where no disk refused a call, what was found is what the meaning of images says.
use Rattle.std.proofs.Common.{◌≡◌, ◌∙◌, ℕ, ◌<◌, ◌≤◌, ◌&&◌, Bool, true, false, nat_lt, if◌then◌else◌, is_none, is_some, ◌⊎◌, List, [], length, map, filter, Option, Some, None, option_map, refl, sym, ap, subst, inl, inr, arith, lt-ltb, le-ltb, ◌∷◌}
use Rattle.std.specs.Option.{option_map_or}
use Rattle.std.specs.Result.{result_ok}
use Rattle.std.specs.List.{range_with_len}
use Rattle.std.proofs.lemmas.Bool.{and_parts, cases_Bool, cases_lt, both_ways}
use Rattle.std.proofs.lemmas.Option.{none-some}
use Rattle.rack.specs.Seen.{Image, RackView}
use Rattle.slice_rack.specs.Slices.{Slices, disk_of, sectors_of}
use Rattle.slice_rack.specs.Sliced.{slices_of}
use Rattle.pool_state.specs.declared.contents.State.{State}
use Rattle.pool_state.specs.declared.contents.Copied.{Copied}
use Rattle.pool_state.specs.Sector.{decoded}
use Rattle.array_image.specs.Foremost.{foremost}
use Rattle.array_image.specs.Places.{log_slice, state_sector}
use Rattle.array_image.specs.States.{epoch_of, is_current, current_places}
use Rattle.array_image.specs.Left.{reading}
use Rattle.pool_image.specs.Disks.{Disks, disks_of, newest, identities_of, seat_of}
use Rattle.pool_image.specs.Replay.{logs_of, standing, standing_by}
use Rattle.pool_image.specs.Meaning.{no_pool, two_pools, has_other_pool, refused_by, refused_at, refusal_of}
use Rattle.pool_image.specs.Drives.{found}
use Rattle.array_image.specs.Record.{Gate, GateAt, gate_sector, gate_of, gate_in, is_bad_gate, is_there, record_of, record_in, pending_at, pending, damaged_log}
use Rattle.log_laws.specs.View.{LogView, names, is_left, left_of}
use Rattle.commit_log.proofs.Amid.{no_gate_in_nothing}
use Rattle.log_laws.proofs.Counting.{few_drives, is_listed}
use Rattle.commit_log.proofs.LeftPlaces.{filter_out}
use Rattle.commit_log.proofs.Fewer.{names_filter, filter_both, current_of_all, pending_left, pending_at_left, pending_most}
use Rattle.log_laws.proofs.Naming.{names_listed}
use Rattle.log_laws.specs.Opening.{Finds}
use Rattle.commit_log.proofs.Replayable.{pending_named}
use Rattle.commit_log.proofs.Restored.{pending_by, pending_at_by}
use Rattle.pool_scan.specs.declared.Known.{Known}
use Rattle.pool_scan.specs.Scanning.{AllTold, IsUnfaulted, IsScan, as_read, now_in}
use Rattle.pool_scan.specs.Choosing.{seat_by}
use Rattle.pool_scan.proofs.Seated.{seat_by_is, foremost_from}
use Rattle.pool_scan.proofs.Meant.{scan_meant, newest_meant, other_meant}
use Rattle.pool_rest.specs.declared.standing.FindFault.{FindFault}
use Rattle.pool_rest.specs.declared.standing.FindFault.TheVariants.{NoPool, TwoPools, Memory}
use Rattle.pool_rest.specs.Standing.{IsLaid, IsNewest, HasLooked, StandsAs, IsMeant, IsCause}
use Rattle.pool_rest.proofs.Damage.{damaged_left, damaged_by}

stands_so : (a b : RackView) (known : List Known) (s : State) → IsScan a b known → AllTold a → IsUnfaulted a b
    → newest (disks_of a) (as_read a known) ≡ Some s → standing (disks_of a) (now_in a) ≡ Some (standing_by (disks_of a) (now_in a) s)
unfolding standing
stands_so a b known s scan told free is =
    ap (option_map (standing_by (disks_of a) (now_in a))) (sym (newest_meant a b known scan told free) ∙ is)

pub cause_meant : (a b : RackView) (why : FindFault) → IsCause a b why → AllTold a → IsUnfaulted a b → IsMeant a why
unfolding refusal_of standing
cause_meant a b NoPool cause told free =
    let none : standing (disks_of a) (now_in a) ≡ None =
    ap (option_map (standing_by (disks_of a) (now_in a))) (sym (newest_meant a b cause.0 cause.1 told free) ∙ cause.2 told) in
    ap (λ o. option_map_or (refused_at (disks_of a) (now_in a)) o (Some no_pool)) none
cause_meant a b TwoPools cause told free =
    let two = cause.2 told in
    let other : has_other_pool (disks_of a) (standing_by (disks_of a) (now_in a) two.0) ≡ true =
    sym (other_meant a b two.0.pool.0 cause.0 cause.1 told free) ∙ two.2 in
    ap (λ o. option_map_or (refused_at (disks_of a) (now_in a)) o (Some no_pool)) (stands_so a b cause.0 two.0 cause.1 told free two.1)
    ∙ ap (λ b. if b then Some two_pools else option_map_or refused_by (found (disks_of a) (now_in a)) (Some no_pool)) other
cause_meant a b Memory cause told free = tt

-- a state has at most 16 drives
pub few_stood : (disks : Disks) (c : Image) (s : State) → newest disks (identities_of disks c) ≡ Some s → length s.drives.items ≤ 16
few_stood disks c s is = of_front (foremost epoch_of (map (λ d. (identities_of disks c d).copied) (range_with_len 0 disks.count))) refl is
  where
    some_state : (x y : State) → Some x ≡ Some y → x ≡ y
    some_state x y same = (cc)

    of_disk : (d : ℕ) (copy : Copied) (b : Bool) → (if b then result_ok (decoded (c d state_sector)) else None) ≡ Some copy → length copy.state.drives.items ≤ 16
    of_disk d copy true has = few_drives (c d state_sector) copy has
    of_disk d copy false has = absurd (none-some copy has)

    of_front : (o : Option Copied) → foremost epoch_of (map (λ d. (identities_of disks c d).copied) (range_with_len 0 disks.count)) ≡ o
        → option_map (λ copy. copy.state) o ≡ Some s → length s.drives.items ≤ 16
    of_front None front same = absurd (none-some s same)
    of_front (Some copy) front same =
        let at = foremost_from epoch_of (λ d. (identities_of disks c d).copied) 0 disks.count copy front in
        subst (λ (u : State). length u.drives.items ≤ 16) (some_state copy.state s same)
        (of_disk at.0 copy (nat_lt state_sector (disks.sectors at.0)) at.2)

pub few_newest : (a : RackView) (s : State) → newest (disks_of a) (identities_of (disks_of a) (now_in a)) ≡ Some s → length s.drives.items ≤ 16
few_newest a s is = few_stood (disks_of a) (now_in a) s is

-- ---- the places that were asked are the current ones

module _ (a : RackView) (known : List Known) (s : State) (t : Slices) (on : List ℕ) (few : length s.drives.items ≤ 16) (laid : IsLaid a known s t on) where
  abbrev read : Image
  read = reading (slices_of t a)

  abbrev has_log : ℕ → Bool
  has_log p = nat_lt 0 (sectors_of t (log_slice p))

  both_true : (b : Bool) → (b && true) ≡ b
  both_true true = refl
  both_true false = refl

  asked : left_of on [] ≡ filter has_log (filter (is_current s) (range_with_len 0 16))
  asked = sym (filter_both has_log (is_current s) (is_left on []) (range_with_len 0 16) (λ p. both_true (names on p) ∙ laid.places p))

  nothing : (p : ℕ) → has_log p ≡ false → read (log_slice p) gate_sector ≡ []
  nothing p out = elim (cases_lt 0 (sectors_of t (log_slice p))) [
    | inl some ↦ absurd (both_ways (has_log p) out (lt-ltb 0 (sectors_of t (log_slice p)) some))
    | inr none ↦
        ap (λ (b : Bool). if b then ((slices_of t a).held (log_slice p) gate_sector).current else []) (le-ltb gate_sector (sectors_of t (log_slice p)) (omega (arith, none)))
  ]

  no_gate : (p : ℕ) → has_log p ≡ false → gate_in read p ≡ None
  no_gate p out = ap gate_of (nothing p out) ∙ no_gate_in_nothing

  not_bad : (p : ℕ) → has_log p ≡ false → is_bad_gate read p ≡ false
  not_bad p out = ap (λ (block : List ℕ). is_there block && is_none (gate_of block)) (nothing p out)

  small : (p : ℕ) → names (current_places s) p ≡ true → p < 16
  small p named =
      let current = (names_filter (is_current s) (range_with_len 0 16) p (sym (ap (λ ps. names ps p) (current_of_all s few)) ∙ named)).0 in
      let listed = is_listed s p current in
      omega (arith, listed, few)

  -- a record is pending by the places that were looked at as it is by all current ones
  pub pending_asked : (e : Image) → ((k u : ℕ) → k < 272 → read k u ≡ e k u) → pending_at (left_of on []) read ≡ pending_at (current_places s) e
  pending_asked e same =
      ap (λ ps. pending_at ps read) asked ∙ pending_at_left has_log read (filter (is_current s) (range_with_len 0 16)) no_gate
      ∙ ap (λ ps. pending_at ps read) (sym (current_of_all s few))
      ∙ pending_at_by read e (current_places s) (λ p named. same (log_slice p) gate_sector (let low = small p named in omega (arith, low)))

clean_meant : (a b : RackView) (known : List Known) (s : State) (t : Slices) (on : List ℕ) (m : LogView) (is_pending : Bool) (damaged : Option ℕ)
    → IsNewest a b known s → IsLaid a known s t on → HasLooked a b t on [] m is_pending damaged → AllTold a → IsUnfaulted a b → StandsAs a s t m is_pending damaged
clean_meant a b known s t on m is_pending damaged is_new laid looked told free = record {
  stands = stands_so a b known s is_new.scan told free (is_new.newest told);
  logs = same_logs;
  targets = λ lasts. (looked.finds told lasts).targets ∙ same_pending few;
  pending = λ lasts. (looked.finds told lasts).is_pending_is ∙ ap is_some (same_pending_at few);
  number = λ lasts g is. number_is (looked.finds told lasts) g (same_pending_at few ∙ is) (looked.finds told lasts).number;
  damaged_is = λ lasts. (looked.finds told lasts).damaged_is ∙ same_damaged few;
}
  where
    seats : (p : ℕ) → seat_by s known p ≡ seat_of s (disks_of a) (identities_of (disks_of a) (now_in a)) p
    seats p = seat_by_is (disks_of a) (identities_of (disks_of a) (now_in a)) known (scan_meant a b known is_new.scan told free) s p

    same_logs : (k u : ℕ) → k < 272 → reading (slices_of t a) k u ≡ (standing_by (disks_of a) (now_in a) s).logs k u
    same_logs k u few =
        laid.shows (now_in a) k u few ∙ ap (λ (f : ℕ → Option ℕ). logs_of (disks_of a) f (now_in a) k u) (λ i p. seats p i)

    few : length s.drives.items ≤ 16
    few = few_newest a s (sym (newest_meant a b known is_new.scan told free) ∙ is_new.newest told)

    same_pending : length s.drives.items ≤ 16
        → pending (left_of on []) (reading (slices_of t a)) ≡ (standing_by (disks_of a) (now_in a) s).targets
    same_pending few =
        let now : Image = reading (slices_of t a) in
        let logs : Image = (standing_by (disks_of a) (now_in a) s).logs in
        ap (λ ps. pending ps now) (asked a known s t on few laid)
        ∙ pending_left (has_log a known s t on few laid) now (filter (is_current s) (range_with_len 0 16)) (no_gate a known s t on few laid) (not_bad a known s t on few laid)
        ∙ ap (λ ps. pending ps now) (sym (current_of_all s few))
        ∙ pending_by now logs (current_places s)
        (λ p named. same_logs (log_slice p) gate_sector (let low = small a known s t on few laid p named in omega (arith, low)))
        (λ g is.
        let low = small a known s t on few laid g.place (pending_named (current_places s) logs g is).0 in
        ap (record_of g.gate.number) (λ i u. same_logs (log_slice g.place) u (omega (arith, low)) i))

    gates_same : length s.drives.items ≤ 16 → (p : ℕ) → names (current_places s) p ≡ true → (reading (slices_of t a)) (log_slice p) gate_sector ≡ ((standing_by (disks_of a) (now_in a) s).logs) (log_slice p) gate_sector
    gates_same few p named = same_logs (log_slice p) gate_sector (let low = small a known s t on few laid p named in omega (arith, low))

    records_same : length s.drives.items ≤ 16 → (g : GateAt) → pending_at (current_places s) ((standing_by (disks_of a) (now_in a) s).logs) ≡ Some g
        → record_in (reading (slices_of t a)) g.place g.gate.number ≡ record_in ((standing_by (disks_of a) (now_in a) s).logs) g.place g.gate.number
    records_same few g is =
        let low = small a known s t on few laid g.place (pending_named (current_places s) ((standing_by (disks_of a) (now_in a) s).logs) g is).0 in
        ap (record_of g.gate.number) (λ i u. same_logs (log_slice g.place) u (omega (arith, low)) i)

    same_pending_at : length s.drives.items ≤ 16 → pending_at (left_of on []) (reading (slices_of t a)) ≡ pending_at (current_places s) ((standing_by (disks_of a) (now_in a) s).logs)
    same_pending_at few = pending_asked a known s t on few laid ((standing_by (disks_of a) (now_in a) s).logs) same_logs

    same_damaged : length s.drives.items ≤ 16
        → damaged_log (left_of on []) (reading (slices_of t a)) ≡ damaged_log (current_places s) ((standing_by (disks_of a) (now_in a) s).logs)
    same_damaged few =
        ap (λ ps. damaged_log ps (reading (slices_of t a))) (asked a known s t on few laid)
        ∙ damaged_left (λ p. nat_lt 0 (sectors_of t (log_slice p))) (reading (slices_of t a)) (filter (is_current s) (range_with_len 0 16)) (no_gate a known s t on few laid) (not_bad a known s t on few laid)
        ∙ ap (λ ps. damaged_log ps (reading (slices_of t a))) (sym (current_of_all s few))
        ∙ damaged_by (reading (slices_of t a)) ((standing_by (disks_of a) (now_in a) s).logs) (current_places s) (gates_same few) (records_same few)

    -- the record that is pending has the log's number
    named_asked : (p : ℕ) → names (left_of on []) p ≡ names on p
    named_asked p =
        names_listed (is_left on [])
        (λ q past. elim (cases_Bool (is_left on [] q)) [
          | inr other ↦ other
          | inl here ↦
              let current = (and_parts (is_current s q) _ (sym (laid.places q) ∙ sym (both_true (names on q)) ∙ here)).0 in
              let listed = is_listed s q current in
              absurd (omega (arith, past, listed, few))
        ]) p
        ∙ both_true (names on p)
      where
        both_true : (b : Bool) → (b && true) ≡ b
        both_true true = refl
        both_true false = refl

    number_is : Finds m on (left_of on []) is_pending damaged (reading (slices_of t a)) → (g : GateAt) → pending_at (left_of on []) (reading (slices_of t a)) ≡ Some g
        → ((m.number ≡ 0) ⊎ ((p : ℕ) × (h : Gate) × (names on p ≡ true) × (gate_in (reading (slices_of t a)) p ≡ Some h) × (h.number ≡ m.number)))
        → g.gate.number ≡ m.number
    number_is finds g is (inl nothing) =
        let at = pending_named (left_of on []) (reading (slices_of t a)) g is in
        omega (arith, finds.above g.place g.gate at.0 at.1, nothing)
    number_is finds g is (inr some) =
        let at = pending_named (left_of on []) (reading (slices_of t a)) g is in
        let below = finds.above g.place g.gate at.0 at.1 in
        let most = pending_most (reading (slices_of t a)) (left_of on []) g is some.0 (record { place = some.0; gate = some.1 })
        (named_asked some.0 ∙ some.2) (ap (λ (o : Option Gate). option_map (λ h. record { place = some.0; gate = h }) o) some.3) in
        omega (arith, below, most, some.4)

-- ---- nobody is passed over

pub none_listed : (f : ℕ → Bool) (ks : List ℕ) → ((p : ℕ) → f p ≡ false) → filter f ks ≡ []
none_listed f [] none = refl
none_listed f (k ∷ ks) none = filter_out f k ks (none k) ∙ none_listed f ks none

pub gone_none : (a b : RackView) (t : Slices) (on gone : List ℕ) (m : LogView) (is_pending : Bool) (damaged : Option ℕ)
    → HasLooked a b t on gone m is_pending damaged → IsUnfaulted a b → gone ≡ []
gone_none a b t on gone m is_pending damaged looked free =
    looked.ordered
    ∙ none_listed (names gone) (range_with_len 0 16)
    (λ p. elim (cases_Bool (names gone p)) [
      | inl lost ↦ absurd (free (disk_of t (log_slice p)) (looked.cause p lost).1)
      | inr none ↦ none
    ])

pub stand_meant : (a b : RackView) (known : List Known) (s : State) (t : Slices) (on gone : List ℕ) (m : LogView) (is_pending : Bool) (damaged : Option ℕ)
    → IsNewest a b known s → IsLaid a known s t on → HasLooked a b t on gone m is_pending damaged → AllTold a → IsUnfaulted a b → StandsAs a s t m is_pending damaged
stand_meant a b known s t on gone m is_pending damaged is_new laid looked told free =
    clean_meant a b known s t on m is_pending damaged is_new laid
    (subst (λ g. HasLooked a b t on g m is_pending damaged) (gone_none a b t on gone m is_pending damaged looked free) looked) told free
