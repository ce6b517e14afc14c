-- The arrays that an opening makes have no sector that is spent, where no disk refuses a call and numbers aren't used up.
use Rattle.std.proofs.Common.{◌≡◌, ℕ, zero, suc, ◌+◌, ◌/◌, ◌<◌, ◌≤◌, Bool, true, false, ◌==◌, ◌&&◌, ◌||◌, not, nat_lt, is_some, is_none, if◌then◌else◌, List, [], ◌∷◌, map, slice_get, Option, Some, None, Ok, Err, option_map, inl, inr, refl, sym, ap, ap₂, subst, ◌∙◌, lt-ltb, le-ltb, ne_eqb, arith}
use Rattle.std.specs.Option.{option_map_or}
use Rattle.std.specs.List.{range_with_len}
use Rattle.std.proofs.lemmas.Bool.{and_from, both_ways, cases_Bool, cases_lt}
use Rattle.std.proofs.lemmas.List.{length-map}
use Rattle.std.proofs.lemmas.List.Sums.{sum_by-cons}
use Rattle.std.proofs.lemmas.Option.{none-some}
use Rattle.rack.specs.Seen.{RackView}
use Rattle.slice_rack.specs.Slices.{Slices, seat_of}
use Rattle.md_super.specs.declared.superblock.Super.{Super}
use Rattle.pool_state.specs.declared.contents.State.{State}
use Rattle.array_image.specs.Arrays.{Member, layout_at}
use Rattle.array_image.specs.States.{is_current}
use Rattle.array_image.specs.Spent.{spent_with, wanting}
use Rattle.array_image.specs.SoundArray.{first_unsynced}
use Rattle.array_image.specs.Stripes.{sector_in}
use Rattle.array_image.specs.Supers.{is_named, is_rebuilding, is_unclean, super_in}
use Rattle.array_model.specs.declared.Seat.{Seat}
use Rattle.array_model.specs.declared.Seat.TheVariants.{Whole, Missing, Rebuilding}
use Rattle.array_model.specs.View.{View, HasFault, IsArray, has_gone, is_whole_seat, member_on, present, seat_reach, seat_unless, sectors_of, shape_of, spent_in}
use Rattle.array_model.specs.Members.{members_of}
use Rattle.array_model.proofs.Layouts.{sector_inside}
use Rattle.array_model.proofs.Views.{shape_members}
use Rattle.array_core.specs.declared.slots.Slot.{Slot}
use Rattle.array_core.specs.declared.ArrayFault.TheVariants.{Foreign, TooFew, DirtyDegraded}
use Rattle.array_core.specs.declared.Found.{Found as FoundSuper}
use Rattle.array_core.specs.Opening.{lacking, opened, opened_by, seat_by, share_set, slot_by, slots_found, super_at, truth_of, view_found}
use Rattle.array_core.specs.Seats.{gone, names, restart, restarted}
use Rattle.array_core.specs.Slots.{place_by}
use Rattle.array_core.proofs.Rules.{get_map}
use Rattle.pool_image.specs.Disks.{Seats}
use Rattle.pool_scan.proofs.Valid.{valid_arrays, valid_places}
use Rattle.pool_check.specs.Founded.{IsFounded}
use Rattle.pool_check.specs.declared.Checked.{Checked}
use Rattle.raid_laws.specs.Moves.{IsSet, Mends}
use Rattle.raid_laws.specs.Raid.{Raid, gone_in, is_empty, is_left, is_failed, is_used_up}
use Rattle.raid_laws.proofs.Founding.{position_named}
use Rattle.raid_rack.proofs.Live.{live_still}
use Rattle.raid_laws.proofs.Noted.{current_few, gone_some}
use Rattle.raid_laws.proofs.Over.{not_empty, or_from, used_still}
use Rattle.raid_laws.proofs.Seated.{array_with, gone_lost}
use Rattle.assembler_laws.specs.Members.{AreMembers}
use Rattle.assembler.specs.Volume.{AllLive, MarksAbsent}
use Rattle.assembler_laws.proofs.Arrays.{seat_found}
use Rattle.assembler_laws.proofs.Marks.{gone_is, marks_absent, went_is}
use Rattle.assembler_laws.proofs.Shows.{got}
use Rattle.assembler_laws.proofs.Whole.{few_lacking, whole_member, whole_position}

-- ---- one array

-- an array that isn't young was opened with a member lacking only where no row is left to resync
opened_clean : (number : ℕ) (young : Bool) (found : List FoundSuper) (t : Super) (v : View) → truth_of found ≡ Some t → opened number young found ≡ Ok v
    → young ≡ false → 0 < lacking (slots_found found t) → is_unclean t ≡ false
opened_clean number young found t v is made old some = elim (cases_Bool (is_unclean t)) [
  | inr clean ↦ clean
  | inl dirty ↦
      let short : Bool = nat_lt 1 (lacking (slots_found found t)) in
      let degraded : (nat_lt 0 (lacking (slots_found found t)) && (not young && is_unclean t)) ≡ true =
      and_from (nat_lt 0 (lacking (slots_found found t))) (not young && is_unclean t) (lt-ltb 0 (lacking (slots_found found t)) some)
      (and_from (not young) (is_unclean t) (ap not old) dirty) in
      absurd (bad (share_set found t.set_id) short
      (sym (ap (λ (b : Bool). if not (share_set found t.set_id) then Err Foreign else if short then Err TooFew else if b then Err DirtyDegraded else Ok (view_found number young found t)) degraded)
      ∙ sym (ap (λ (o : Option Super). option_map_or (opened_by number young found) o (Err Foreign)) is) ∙ made))
]
  where
    bad : (share few : Bool) → (if not share then Err Foreign else if few then Err TooFew else Err DirtyDegraded) ≡ Ok v → ⊥
    bad false few is = absurd (let no : Err Foreign ≡ Ok v = is in cc)
    bad true true is = absurd (let no : Err TooFew ≡ Ok v = is in cc)
    bad true false is = absurd (let no : Err DirtyDegraded ≡ Ok v = is in cc)

-- no more members don't count at a sector than aren't whole
few_want : (t : ℕ) (g : ℕ → Member) (h : ℕ → Slot) (q : ℕ → ℕ) (a n : ℕ) → ((k : ℕ) → k < a + n → is_whole_seat (h (q k)).seat ≡ true → t < (g k).reach)
    → wanting t (map g (range_with_len a n)) ≤ lacking (map h (map q (range_with_len a n)))
few_want t g h q a zero counts = omega arith
few_want t g h q a (suc n) counts =
    more (is_whole_seat (h (q a)).seat) refl (few_want t g h q (a + 1) n (λ k low. counts k (omega (arith, low))))
  where
    fewer : ℕ
    fewer = wanting t (map g (range_with_len (a + 1) n))

    others : List Slot
    others = map h (map q (range_with_len (a + 1) n))

    count : lacking (h (q a) ∷ others) ≡ (if not (is_whole_seat (h (q a)).seat) then 1 else 0) + lacking others
    count = sum_by-cons (λ (s : Slot). if not (is_whole_seat s.seat) then 1 else 0) (h (q a)) others

    either : fewer ≤ lacking others → (b : Bool) → (if b then fewer else suc fewer) ≤ 1 + lacking others
    either rest true = omega (arith, rest)
    either rest false = omega (arith, rest)

    more : (b : Bool) → is_whole_seat (h (q a)).seat ≡ b → fewer ≤ lacking others
        → (if nat_lt t (g a).reach then fewer else suc fewer) ≤ lacking (h (q a) ∷ others)
    more true whole rest =
        let here = lt-ltb t (g a).reach (counts a (omega arith) whole) in
        let same : lacking (h (q a) ∷ others) ≡ 0 + lacking others = count ∙ ap (λ b. (if not b then 1 else 0) + lacking others) whole in
        subst (λ b. (if b then fewer else suc fewer) ≤ lacking (h (q a) ∷ others)) (sym here) (omega (arith, rest, same))
    more false lacks rest =
        let one : lacking (h (q a) ∷ others) ≡ 1 + lacking others = count ∙ ap (λ b. (if not b then 1 else 0) + lacking others) lacks in
        subst (λ k. (if nat_lt t (g a).reach then fewer else suc fewer) ≤ k) (sym one) (either rest (nat_lt t (g a).reach))

-- a whole member counts everywhere
whole_reach : (size t : ℕ) (lost : Bool) (o : Option Super) → (lost ≡ true → o ≡ None) → is_whole_seat (option_map_or seat_by o Missing) ≡ true → t < size
    → t < option_map_or (seat_reach size) (Some (if lost then Missing else restart size (option_map_or seat_by o Missing))) 0
whole_reach size t lost None none whole less = absurd (both_ways false refl whole)
whole_reach size t true (Some u) none whole less = absurd (none-some u (sym (none refl)))
whole_reach size t false (Some u) none whole less = by (is_rebuilding u) whole
  where
    by : (b : Bool) → is_whole_seat (if b then Rebuilding u.recovery_offset else Whole) ≡ true
        → t < option_map_or (seat_reach size) (Some (restart size (if b then Rebuilding u.recovery_offset else Whole))) 0
    by true whole = absurd (both_ways false refl whole)
    by false whole = less

-- so a member is left
present_reach : (size : ℕ) (seats : List Seat) (k : ℕ) → 0 < option_map_or (seat_reach size) (slice_get seats k) 0 → 0 < present seats
present_reach size [] k some = absurd (omega (arith, some))
present_reach size (Missing ∷ others) zero some = absurd (omega (arith, some))
present_reach size (Missing ∷ others) (suc k) some = present_reach size others k some
present_reach size (Whole ∷ others) k some = omega arith
present_reach size (Rebuilding to ∷ others) k some = omega arith

module _ (s : State) (seats : Seats) (n : ℕ) (v : View) (f : IsFounded s seats n v) (is_array : IsArray v) (places : List ℕ)
    (absent : (p : ℕ) → names places p ≡ true → is_current s p ≡ true → seats p ≡ None) where
  abbrev tr : Super
  tr = f.truth

  abbrev u : View
  u = view_found n (not (nat_lt n s.joined)) f.found tr

  abbrev w : View
  w = gone places (restarted u)

  restarted_array : IsArray (restarted u)
  restarted_array = array_with u (map (restart tr.size) u.seats) u.went (length-map u.seats (restart tr.size)) (subst IsArray f.view is_array)

  -- a lost place has no superblock
  lost_none : (p : ℕ) → is_named tr p ≡ true → names places p ≡ true → super_at f.found p ≡ None
  lost_none p named lost = f.named p named ∙ by (is_current s p) refl
    where
      empty : (o : Option Super) → is_some o ≡ false → o ≡ None
      empty None none = refl
      empty (Some t) none = absurd (both_ways true none refl)

      by : (b : Bool) → is_current s p ≡ b → (if b then super_in s f.image n p else None) ≡ None
      by false other = refl
      by true current = empty (super_in s f.image n p) (f.there p named current ∙ ap is_some (absent p lost current))

  counts : (k t : ℕ) → k < tr.raid_disks → is_whole_seat (option_map_or seat_by (super_at f.found (place_by tr k)) Missing) ≡ true → t < tr.size
      → t < option_map_or (seat_reach tr.size) (slice_get w.seats k) 0
  counts k t low whole less =
      let p = place_by tr k in
      let seat : slice_get w.seats k ≡ Some (if names places p then Missing else restart tr.size (option_map_or seat_by (super_at f.found p) Missing)) =
      gone_lost (restarted u) places restarted_array k
      ∙ ap (option_map (seat_unless (names places) p))
      (get_map (restart tr.size) u.seats k ∙ ap (option_map (restart tr.size)) (seat_found n (not (nat_lt n s.joined)) f.found tr k low)) in
      subst (λ o. t < option_map_or (seat_reach tr.size) o 0) (sym seat)
      (whole_reach tr.size t (names places p) (super_at f.found p) (lost_none p (position_named tr k f.usable low)) whole less)

  few_lacks : lacking (slots_found f.found tr) ≤ 1
  few_lacks = few_lacking n (not (nat_lt n s.joined)) f.found tr v f.leads f.opened

  unspent_now : n < s.joined → IsArray w → (y : ℕ) → y < sectors_of w → spent_in w y ≡ false
  unspent_now joined array y low =
      let t = sector_in (layout_at (shape_of w) y) y in
      let inside : t < tr.size = sector_inside w y array low in
      let few = few_want t (member_on w) (λ place. slot_by place (super_at f.found place)) (place_by tr) 0 tr.raid_disks (λ k below whole. counts k t (omega (arith, below)) whole inside) in
      let most = few_lacks in
      ap (λ ms. spent_with (wanting t ms) (nat_lt (t / 128) w.resync)) (shape_members w)
      ∙ or_from (nat_lt 1 (wanting t (members_of w))) (nat_lt 0 (wanting t (members_of w)) && not (nat_lt (t / 128) w.resync))
      (le-ltb 1 (wanting t (members_of w)) (omega (arith, few, most)))
      (elim (cases_lt 0 (wanting t (members_of w))) [
        | inr none ↦ ap (λ b. b && not (nat_lt (t / 128) w.resync)) (le-ltb 0 (wanting t (members_of w)) none)
        | inl some ↦
            let old = lt-ltb n s.joined joined in
            let clean = opened_clean n (not (nat_lt n s.joined)) f.found tr v f.leads f.opened (ap not old) (omega (arith, some, few)) in
            let resync : w.resync ≡ tr.size / 128 =
            ap (λ b. if not b then tr.size / 128 else first_unsynced tr) old ∙ ap (λ b. if b then tr.resync_offset / 128 else tr.size / 128) clean in
            let rows = array.whole_rows in
            let row : t / 128 < w.resync = omega (arith, resync, inside, rows) in
            ap₂ (λ a b. a && not b) (lt-ltb 0 (wanting t (members_of w)) some) (lt-ltb (t / 128) w.resync row)
      ])

  present_now : 0 < present w.seats
  present_now =
      let one = whole_position s seats n v f is_array in
      present_reach tr.size w.seats one.0 (counts one.0 0 one.1 one.2 f.some)

  pub array_unspent : n < s.joined → IsArray (gone places (restarted v)) → (y : ℕ) → y < sectors_of (gone places (restarted v)) → spent_in (gone places (restarted v)) y ≡ false
  array_unspent = subst (λ (k : View). n < s.joined → IsArray (gone places (restarted k)) → (y : ℕ) → y < sectors_of (gone places (restarted k)) → spent_in (gone places (restarted k)) y ≡ false)
      (sym f.view) unspent_now

  pub array_present : 0 < present (gone places (restarted v)).seats
  array_present = subst (λ (k : View). 0 < present (gone places (restarted k)).seats) (sym f.view) present_now

-- ---- all of them

module _ (s : State) (t : Slices) (y : RackView) (checked : Checked) (absent places : List ℕ) (m : AreMembers s t y checked absent)
    (v : Raid) (state : v.state ≡ s)
    (are : (n : ℕ) (u : View) → slice_get checked.arrays.items n ≡ Some u → v.arrays n ≡ gone places (restarted u))
    (same : (p : ℕ) → names places p ≡ names absent p)
    (w : Raid) (b c : RackView) (mends : Mends v w b c)
    (rules : (n : ℕ) (u : View) → slice_get checked.arrays.items n ≡ Some u → IsArray u) (set : IsSet v b) (quiet : (place : ℕ) → HasFault b c place → ⊥) where
  unseated : (p : ℕ) → names places p ≡ true → is_current s p ≡ true → seat_of t p ≡ None
  unseated p lost current = empty (seat_of t p) (of (is_none (seat_of t p)) (is_current s p) (sym (m.absent_is p) ∙ sym (same p) ∙ lost))
    where
      empty : (o : Option ℕ) → is_none o ≡ true → o ≡ None
      empty None none = refl
      empty (Some d) none = absurd (both_ways false refl none)

      of : (a b : Bool) → (a && b) ≡ true → a ≡ true
      of true b is = refl
      of false b is = is

  each : (n p : ℕ) → n < v.state.made → gone_in v p ≡ true → has_gone (v.arrays n) p ≡ true
  each n p low gone =
      let at = gone_some v p gone in
      went_is s t y checked absent places m v state are same w b c mends n p low at.0
      ∙ sym (went_is s t y checked absent places m v state are same w b c mends at.1.0 p at.1.1 at.0) ∙ at.1.2

  live_now : is_used_up w ≡ false → AllLive w
  live_now unused n z joined inside =
      let moves = mends.moves in
      let ready = (valid_arrays s 0 m.valid).3 in
      let count = m.founded.count in
      let joined_is : w.state.joined ≡ s.joined = moves.book.same.joined ∙ ap (λ (k : State). k.joined) state in
      let made_is : v.state.made ≡ s.made = ap (λ (k : State). k.made) state in
      let least : n < s.joined = omega (arith, joined, joined_is) in
      let low : n < v.state.made = omega (arith, least, ready, made_is) in
      let at = got checked.arrays.items n (omega (arith, least, ready, count)) in
      let founded = m.founded.each n at.0 at.1 in
      let is = are n at.0 at.1 in
      let size : z < sectors_of (gone places (restarted at.0)) = subst (λ (k : View). z < sectors_of k) is (subst (λ k. z < k) (moves.sectors n) inside) in
      let array : IsArray (gone places (restarted at.0)) = subst IsArray is (set.arrays n low).is_array in
      let whole = whole_member s (seat_of t) n at.0 founded (rules n at.0 at.1) in
      let current = m.current whole.0 whole.1 whole.3 in
      let few = current_few s whole.0 (valid_places s 0 m.valid).1 current in
      let here : names absent whole.0 ≡ false = m.absent_is whole.0 ∙ ap (λ o. is_none o && is_current s whole.0) whole.3 in
      let left : is_left v whole.0 ≡ true =
      and_from (is_current v.state whole.0) (not (gone_in v whole.0)) (ap (λ (k : State). is_current k whole.0) state ∙ current)
      (ap not (gone_is s t y checked absent places m v state are same w b c mends whole.0 few ∙ here)) in
      let some = array_present s (seat_of t) n at.0 founded (rules n at.0 at.1) places unseated in
      let before = used_still v w moves.number moves.book.epoch moves.book.same.made moves.events unused in
      live_still v w b c set moves.set mends.heeded moves.arrays (record { left = moves.left; cause = moves.cause }) moves.book.same.made each quiet unused n z low
      (or_from (is_failed v n) (spent_in (v.arrays n) z)
      (or_from (is_empty v) (is_used_up v || (present (v.arrays n).seats == 0)) (not_empty v whole.0 few left)
      (or_from (is_used_up v) (present (v.arrays n).seats == 0) before
      (ap (λ (k : View). present k.seats == 0) is ∙ ne_eqb (present (gone places (restarted at.0)).seats) 0 (λ none. omega (arith, some, none)))))
      (ap (λ (k : View). spent_in k z) is ∙ array_unspent s (seat_of t) n at.0 founded (rules n at.0 at.1) places unseated least array z size))

  pub opened_live : MarksAbsent s absent w
  opened_live = record {
    marks = marks_absent s t y checked absent places m v state are same w b c mends quiet;
    live = live_now;
  }
