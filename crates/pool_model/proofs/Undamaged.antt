-- No place of the pool that is found again is absent, and its drives have their tables as before, their copies of the state and sound logs.
use Rattle.std.proofs.Common.{◌≡◌, ℕ, zero, suc, ◌+◌, ◌<◌, Bool, true, false, ◌==◌, ◌&&◌, ◌||◌, not, bytes_eq, nat_lt, is_none, is_some, if◌then◌else◌, List, [], ◌∷◌, filter, find, length, Option, Some, None, inl, inr, refl, sym, ap, ap₂, subst, ◌∙◌, eqb-true, lt-ltb, arith}
use Rattle.std.specs.List.{list_all, range_with_len}
use Rattle.std.specs.Option.{option_map_or}
use Rattle.std.proofs.lemmas.Bool.{both_ways, cases_Bool}
use Rattle.std.proofs.lemmas.List.Sums.{length-filter}
use Rattle.std.proofs.lemmas.Option.{none-some}
use Rattle.rack.specs.Seen.{Image, RackView}
use Rattle.slice_rack.specs.Slices.{Slices}
use Rattle.gpt_table.specs.declared.Table.{Table}
use Rattle.pool_state.specs.declared.contents.State.{State}
use Rattle.array_image.specs.Places.{log_slice}
use Rattle.array_image.specs.Record.{gate_of, gate_sector, is_bad_gate, is_bad_log, is_there}
use Rattle.array_image.specs.States.{current_places, id_of, is_current}
use Rattle.log_laws.specs.View.{names}
use Rattle.raid_laws.proofs.Added.{names_current}
use Rattle.raid_laws.specs.Raid.{Raid}
use Rattle.pool_image.specs.Alike.{drive_gate}
use Rattle.pool_image.specs.Drives.{Found, extent_of, slices_of}
use Rattle.pool_image.specs.Meaning.{absent_count, has_log, has_slice, has_slice_of, has_table, is_member, is_table, kind_of}
use Rattle.pool_image.proofs.Rested.{gate_block}
use Rattle.pool_image.specs.Replay.{Standing}
use Rattle.pool_model.specs.Left.{HasSoundParts, HavePlaces}
use Rattle.pool_model.proofs.Copies.{c, copied_now, IsKnown, log_reads, log_room, s, seat_there, seats_now}
use Rattle.pool_model.proofs.Extents.{lies_now, made_same, member_same}
use Rattle.pool_model.proofs.Known.{says_pool}
use Rattle.pool_model.proofs.Named.{id_same}
use Rattle.pool_model.proofs.Rested.{log_same, logs, logs_whole, now, stood}
use Rattle.pool_model.proofs.Said.{SaysPool}

-- ---- lists

none_kept : (p keep : ℕ → Bool) (xs : List ℕ) → ((x : ℕ) → keep x ≡ true → p x ≡ false) → filter p (filter keep xs) ≡ []
none_kept p keep [] each = refl
none_kept p keep (x ∷ xs) each = of (keep x) refl (none_kept p keep xs each)
  where
    of : (b : Bool) → keep x ≡ b → filter p (filter keep xs) ≡ [] → filter p (if b then x ∷ filter keep xs else filter keep xs) ≡ []
    of true is rest = ap (λ b. if b then x ∷ filter p (filter keep xs) else filter p (filter keep xs)) (each x is) ∙ rest
    of false is rest = rest

pub all_below : (p q : ℕ → Bool) (a m : ℕ) → ((n : ℕ) → n < a + m → p n ≡ q n) → list_all p (range_with_len a m) ≡ list_all q (range_with_len a m)
all_below p q a zero same = refl
all_below p q a (suc m) same = ap₂ (λ b rest. b && rest) (same a (omega arith)) (all_below p q (a + 1) m (λ n low. same n (omega (arith, low))))

-- what no element of a list has
pub find_false : (P : ℕ → Bool) (xs : List ℕ) (p : ℕ) → find P xs ≡ None → names xs p ≡ true → P p ≡ false
find_false P [] p none named = absurd (both_ways false refl named)
find_false P (q ∷ qs) p none named = of (P q) refl none named (λ none named. find_false P qs p none named)
  where
    of : (b : Bool) → P q ≡ b → (if b then Some q else find P qs) ≡ None → ((q == p) || names qs p) ≡ true
        → (find P qs ≡ None → names qs p ≡ true → P p ≡ false) → P p ≡ false
    of true is none named later = absurd (none-some q (sym none))
    of false is none named later = elim (cases_Bool (q == p)) [
      | inl here ↦ subst (λ k. P k ≡ false) (eqb-true q p here) is
      | inr other ↦ later none (sym (ap (λ b. b || names qs p) other) ∙ named)
    ]

pub or_left : (a b : Bool) → (a || b) ≡ false → a ≡ false
or_left true b is = absurd (both_ways true is refl)
or_left false b is = refl

-- ---- a pool

-- where each current place has a drive none is absent
pub none_absent : (g : Found) → HavePlaces g.state g → absent_count g ≡ 0
unfolding current_places
none_absent g present =
    sym (length-filter (λ p. is_none (g.seats p)) (current_places g.state))
    ∙ ap length (none_kept (λ p. is_none (g.seats p)) (is_current g.state) (range_with_len 0 (length g.state.drives.items)) (λ p here. ap is_none (present p here).1))

-- an array whose slices lie alike has the same slice in a table
pub slice_alike : (f g : Found) (table : Table) (k n : ℕ) → extent_of g (suc n) ≡ extent_of f (suc n) → has_slice_of g k table (n + 1) ≡ has_slice_of f k table (n + 1)
slice_alike f g table k n same =
    let next : n + 1 ≡ suc n = omega arith in
    ap (λ o. option_map_or (has_slice k table (n + 1 + 1) (kind_of (n + 1))) o false) (ap (extent_of g) next ∙ same ∙ sym (ap (extent_of f) next))

-- pools that want the same slices in the tables of a place's drive, which has the same id, want the same table
pub table_alike : (f g : Found) (p k : ℕ) → id_of g.state p ≡ id_of f.state p → g.state.made ≡ f.state.made
    → ((table : Table) (n : ℕ) → n < f.state.made → (not (is_member g n p) || has_slice_of g k table (n + 1)) ≡ (not (is_member f n p) || has_slice_of f k table (n + 1)))
    → (o : Option Table) → option_map_or (is_table g p k) o false ≡ option_map_or (is_table f p k) o false
unfolding extent_of
table_alike f g p k id made each None = refl
table_alike f g p k id made each (Some table) =
    ap₂ (λ a b. a && (has_slice_of f k table 0 && b))
    (ap (λ o. option_map_or (bytes_eq table.disk_id.0) o false) id)
    (ap (λ m. list_all (λ n. not (is_member g n p) || has_slice_of g k table (n + 1)) (range_with_len 0 m)) made
    ∙ all_below (λ n. not (is_member g n p) || has_slice_of g k table (n + 1)) (λ n. not (is_member f n p) || has_slice_of f k table (n + 1)) 0 f.state.made
    (λ n low. each table n (omega (arith, low))))

-- so do those with the same members of arrays whose slices lie alike
pub members_alike : (f g : Found) (p k : ℕ) → id_of g.state p ≡ id_of f.state p → g.state.made ≡ f.state.made
    → ((n : ℕ) → n < f.state.made → is_member g n p ≡ is_member f n p) → ((n : ℕ) → n < f.state.made → extent_of g (suc n) ≡ extent_of f (suc n))
    → (o : Option Table) → option_map_or (is_table g p k) o false ≡ option_map_or (is_table f p k) o false
members_alike f g p k id made members lie =
    table_alike f g p k id made (λ table n low. ap₂ (λ a b. not a || b) (members n low) (slice_alike f g table k n (lie n low)))

-- ---- the pool of contents between calls

module _ (f : Found) (t : Slices) (v : Raid) (y : RackView) (i : Image) (known : IsKnown f t v y i) where
  abbrev book : State
  book = s f t v y i known

  abbrev held : Image
  held = c f t v y i known

  abbrev g : Found
  g = now f t v y i known

  abbrev rest : Standing
  rest = stood f t v y i known

  abbrev said : SaysPool f t v.state i
  said = says_pool f t v y i known

  -- each current place has its drive
  pub present_now : absent_count g ≡ 0
  present_now = none_absent g (λ p here. let one = seat_there f t v y i known p here in (one.0, seats_now f t v y i known p here ∙ one.1))

  module _ (p d : ℕ) (here : is_current book p ≡ true) (seat : f.seats p ≡ Some d) where
    -- ---- its table

    table_now : has_table g p d ≡ has_table f p d
    table_now =
        ap (λ o. option_map_or (is_table g p (f.disks.sectors d)) o false) (known.left.elsewhere.tables p d seat)
        ∙ members_alike f g p (f.disks.sectors d) (id_same f.state book known.served.after.same p) (made_same f t v.state i rest said)
        (λ n low. member_same f t v.state i rest said n low p) (lies_now f t v.state i rest said) (f.identities d).table

    -- ---- its log

    gate_same : slices_of g (log_slice p) gate_sector ≡ logs f t v y i known (log_slice p) gate_sector
    gate_same =
        gate_block g p
        ∙ ap (λ o. option_map_or (λ e. if nat_lt drive_gate (f.disks.sectors e) then i e drive_gate else []) o []) (seats_now f t v y i known p here ∙ seat)
        ∙ ap (λ (b : Bool). if b then i d drive_gate else []) (lt-ltb drive_gate (f.disks.sectors d) (let room = log_room f t v y i known p d seat here in omega (arith, room)))
        ∙ sym (log_same f t v y i known p gate_sector here ∙ log_reads f t v y i known p d seat here gate_sector (omega arith))

    log_now : has_log g p ≡ true
    log_now =
        let good : is_bad_log (current_places book) (logs f t v y i known) p ≡ false =
        find_false (is_bad_log (current_places book) (logs f t v y i known)) (current_places book) p (logs_whole f t v y i known) (names_current book p ∙ here) in
        let gate : is_bad_gate (slices_of g) p ≡ false =
        ap (λ (block : List ℕ). is_there block && is_none (gate_of block)) gate_same ∙ or_left (is_bad_gate (logs f t v y i known) p) _ good in
        ap₂ (λ a b. not a && not b) gate good

    -- ---- its copy

    copy_there : is_some (g.identities d).copied ≡ true
    copy_there = ap is_some (copied_now f t v y i known p d seat here)

    pub sound_parts : HasSoundParts f g p d
    sound_parts = record { table = table_now; copy = copy_there; log = log_now }
