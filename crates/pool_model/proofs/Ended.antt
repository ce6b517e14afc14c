-- Contents that a pool leaves that has ended whole: any one of its drives may be absent.
use Rattle.std.proofs.Common.{◌≡◌, ℕ, zero, suc, ◌+◌, ◌-◌, ◌*◌, ◌/◌, ◌<◌, ◌^◌, Bool, true, false, ◌==◌, ◌&&◌, not, count_by, nat_lt, if◌then◌else◌, map, length, slice_get, Option, Some, None, option_map, unwrap_or, refl, sym, ap, ap₂, ◌∙◌, inl, inr, eqb-true, le-ltb, arith}
use Rattle.std.specs.Option.{option_map_or}
use Rattle.std.specs.List.{range_with_len}
use Rattle.std.proofs.lemmas.Bool.{both_ways, cases_Bool}
use Rattle.std.proofs.lemmas.List.Sums.{sum_by-cons}
use Rattle.std.proofs.lemmas.Map.Views.{any-filter_same}
use Rattle.std.proofs.lemmas.Option.{none-some}
use Rattle.rack.specs.Seen.{Image, RackView}
use Rattle.slice_rack.specs.Slices.{Slices}
use Rattle.md_super.specs.declared.superblock.Super.{Super}
use Rattle.pool_state.specs.declared.contents.State.{State}
use Rattle.array_image.specs.Arrays.{Member, Shape, member_by, member_in, place_with, shape_by}
use Rattle.array_image.specs.Places.{log_slice}
use Rattle.array_image.specs.Record.{gate_of, gate_sector}
use Rattle.array_image.specs.SoundArray.{array_fields, first_unsynced}
use Rattle.array_image.specs.States.{is_current}
use Rattle.array_image.specs.Supers.{is_named, is_rebuilding, is_unclean, named_places, super_in, truth_in}
use Rattle.array_core.proofs.Opened.{current_below}
use Rattle.array_core.proofs.Rules.{get_map, get_range}
use Rattle.array_core.proofs.Truths.{Truth}
use Rattle.array_core.proofs.Stripped.{some_same}
use Rattle.array_model.specs.declared.Seat.{Seat}
use Rattle.array_model.specs.View.{View, is_whole_seat, member_on, rows_of as rows_in, shape_of}
use Rattle.log_laws.specs.View.{names}
use Rattle.raid_laws.specs.Raid.{Raid}
use Rattle.pool_image.specs.Book.{array_now, is_rebuilding_at, rebuilding_in, rows_to_rebuild, unsynced}
use Rattle.pool_image.specs.Disks.{stands_for}
use Rattle.pool_image.specs.Drives.{Found, slices_of}
use Rattle.pool_image.specs.Meaning.{is_dirty_degraded, is_too_few, lacking_of, shape_of as shape_found, super_at}
use Rattle.pool_image.specs.Replay.{Standing}
use Rattle.pool_model.specs.Absent.{AreClosed, AreLevel, AreOnly, EndsWhole}
use Rattle.pool_model.proofs.Copies.{ahead_of, c, IsKnown, kept, log_many, low_place, none_former, other_same, s, seat_there, seated_or, seats_now, stands_now}
use Rattle.pool_model.proofs.Away.{all_there, none_found}
use Rattle.pool_model.proofs.Current.{shape_current}
use Rattle.pool_model.proofs.Extents.{is, is_is, made_same, truth_is}
use Rattle.pool_model.proofs.Known.{earlier, left, says, says_pool}
use Rattle.pool_model.proofs.Named.{same_length, stands_same}
use Rattle.pool_model.proofs.Rested.{log_same, now, stood}
use Rattle.pool_model.proofs.Said.{SaysPool}
use Rattle.pool_model.proofs.Roles.{placed_position}
use Rattle.pool_model.proofs.Sizes.{facts_known}
use Rattle.pool_model.proofs.Still.{same}

abbrev one_unless : Bool → ℕ
one_unless b = if not b then 1 else 0

-- where all are whole none lacks
none_lacks : (h : ℕ → Member) (a m : ℕ) → ((k : ℕ) → k < a + m → (h k).is_whole ≡ true) → count_by (λ (z : Member). not z.is_whole) (map h (range_with_len a m)) ≡ 0
none_lacks h a zero each = refl
none_lacks h a (suc m) each =
    let count = sum_by-cons (λ (z : Member). one_unless z.is_whole) (h a) (map h (range_with_len (a + 1) m)) in
    let first = ap one_unless (each a (omega arith)) in
    let rest = none_lacks h (a + 1) m (λ k less. each k (omega (arith, less))) in
    omega (arith, count, first, rest)

module _ (f : Found) (t : Slices) (v : Raid) (y : RackView) (i : Image) (known : IsKnown f t v y i) (ends : EndsWhole f v y) where
  abbrev pub book : State
  book = s f t v y i known

  abbrev pub held : Image
  held = c f t v y i known

  abbrev pub g : Found
  g = now f t v y i known

  abbrev pub rest : Standing
  rest = stood f t v y i known

  abbrev pub said : SaysPool f t v.state i
  said = says_pool f t v y i known

  pub low_before : (n : ℕ) → n < book.made → n < f.state.made
  low_before n low = let same = made_same f t v.state i rest said in omega (arith, low, same)

  -- ---- its gates and superblocks

  pub closed_now : AreClosed g
  closed_now p gate counts at =
      let one = seat_there f t v y i known p counts in
      let there : gate_sector < y.sectors (log_slice p) = (let many = log_many f t v y i known p one.0 one.1 in omega (arith, many)) in
      (kept f t v y i known).closed (λ q current. refl) p counts there (held (log_slice p) gate_sector) gate
      (known.left.picks.picks (log_slice p) gate_sector ((kept f t v y i known).logs p gate_sector (low_place f t v y i known p one.0 one.1) there))
      (sym (ap gate_of (log_same f t v y i known p gate_sector counts)) ∙ at)

  module _ (n : ℕ) (low : n < f.state.made) where
    abbrev pub u : Super
    u = is f t v.state i rest said n low

    pub agreed : (p : ℕ) (w : Super) → is_current book p ≡ true → super_at g n p ≡ Some w → array_fields w ≡ array_fields u
    agreed p w counts at =
        let all = (ends.agree n held low (left f t v y i known)).agree in
        let leads : all.truth ≡ u = some_same all.truth u (sym all.leads ∙ is_is f t v.state i rest said n low) in
        all.same p w counts (sym (same f t v.state i rest said n low p counts) ∙ at) ∙ ap array_fields leads

  pub level_now : AreLevel g
  level_now n p tr w low truth counts at =
      let less = low_before n low in
      let here : u n less ≡ tr = some_same (u n less) tr (sym (truth_is f t v.state i rest said n less) ∙ truth) in
      ap (λ (z : Super). z.events) (agreed n less p w counts at ∙ ap array_fields here)

  -- ---- its disks

  -- who has a drive is current
  pub none_gone : (q e : ℕ) → f.seats q ≡ Some e → is_current book q ≡ false → ⊥
  none_gone q e seat gone =
      let same = same_length book.drives.items f.state.drives.items known.served.after.same.drives in
      let before = current_below f.state q (ahead_of f t v y i known q e seat).current in
      both_ways (is_current book q) gone (all_there (λ drive. not drive.missing) book.drives.items q ends.book.drives (omega (arith, before, same)))

  -- a drive of the pool stands for no other place, and no other disk for its place
  pub only_now : AreOnly g
  only_now p d e seat low stands = elim (cases_Bool (is_current book p)) [
    | inr former ↦ absurd (none-some d (sym (none_former f t v y i known p former) ∙ seat))
    | inl counts ↦
        let was : f.seats p ≡ Some d = sym (seats_now f t v y i known p counts) ∙ seat in
        elim (seated_or f t v y i known e) [
          | inr none ↦
              let same : g.identities e ≡ f.identities e = other_same f t v y i known e none low in
              absurd ((ends.alone.others e none low).stands p d was (sym (stands_same f.state book known.served.after.same (f.identities e)) ∙ ap (stands_for book) (sym same) ∙ stands))
          | inl one ↦ elim (cases_Bool (is_current book one.0)) [
            | inl now ↦
                let place : one.0 ≡ p = some_same one.0 p (sym (stands_now f t v y i known one.0 e now one.1) ∙ stands) in
                some_same e d (sym one.1 ∙ ap f.seats place ∙ was)
            | inr gone ↦ absurd (none_gone one.0 e one.1 gone)
          ]
        ]
  ]

  -- ---- one array

  module _ (small : (d : ℕ) → d < f.disks.count → f.disks.sectors d < 2 ^ 48) (n : ℕ) (low : n < f.state.made) where
    abbrev its : View
    its = v.arrays n

    abbrev pub w : Super
    w = u n low

    w_is : truth_in book held n ≡ Some w
    w_is = is_is f t v.state i rest said n low

    abbrev fact : Truth w
    fact = facts_known f t v y i known small n low

    -- its members are those of the book's array
    shape_here : shape_by book held n w ≡ shape_of its
    shape_here =
        some_same (shape_by book held n w) (shape_of its)
        (sym (ap (option_map (shape_by book held n)) w_is) ∙ (says f t v y i known n low).shape_is)

    member_at : (h : ℕ → Member) (m k : ℕ) → k < m → slice_get (map h (range_with_len 0 m)) k ≡ Some (h k)
    member_at h m k less = get_map h (range_with_len 0 m) k ∙ ap (option_map h) (get_range 0 m k less) ∙ (let same : 0 + k ≡ k = omega arith in ap (λ j. Some (h j)) same)

    member_here : (k : ℕ) → k < w.raid_disks → member_in book held n w k ≡ member_on its k
    unfolding shape_by shape_of
    member_here k less =
        let disks : w.raid_disks ≡ its.truth.raid_disks = ap (λ (z : Super). z.raid_disks) (earlier f t v y i known n low (is f t v.state i rest said n low) (is_is f t v.state i rest said n low)).fields in
        some_same (member_in book held n w k) (member_on its k)
        (sym (member_at (member_in book held n w) w.raid_disks k less)
        ∙ ap (λ (z : Shape). slice_get z.members k) shape_here
        ∙ member_at (member_on its) its.truth.raid_disks k (omega (arith, less, disks)))

    whole_member : (k : ℕ) → k < its.truth.raid_disks → (member_on its k).is_whole ≡ true
    whole_member k less = ap (λ (o : Option Seat). option_map_or is_whole_seat o false) (ends.book.seats n k low less)

    pub record IsHad (q : ℕ) : Type 0 where
      pub current : is_current book q ≡ true
      pub own : Super
      pub has : super_in book held n q ≡ Some own
      pub whole : is_rebuilding own ≡ false

    had : (k q : ℕ) → k < w.raid_disks → place_with w.roles.items k ≡ Some q → IsHad q
    had k q less at =
        let disks : w.raid_disks ≡ its.truth.raid_disks = ap (λ (z : Super). z.raid_disks) (earlier f t v y i known n low (is f t v.state i rest said n low) (is_is f t v.state i rest said n low)).fields in
        let here : unwrap_or (place_with w.roles.items k) 16 ≡ q = ap (λ o. unwrap_or o 16) at in
        by (is_current book q) refl (super_in book held n q) refl
        (sym (ap (λ p. (member_by w.size p (is_current book p) (super_in book held n p)).is_whole) here)
        ∙ ap (λ (m : Member). m.is_whole) (member_here k less) ∙ whole_member k (omega (arith, less, disks)))
      where
        of : (own : Super) → is_current book q ≡ true → super_in book held n q ≡ Some own → (b : Bool) → is_rebuilding own ≡ b → not b ≡ true → IsHad q
        of own current has true rebuilds is = absurd (both_ways false refl is)
        of own current has false whole is = record { current = current; own = own; has = has; whole = whole }

        by : (b : Bool) → is_current book q ≡ b → (o : Option Super) → super_in book held n q ≡ o
            → (b && option_map_or (λ z. not (is_rebuilding z)) o false) ≡ true → IsHad q
        by false current o has is = absurd (both_ways false refl is)
        by true current None has is = absurd (both_ways false refl is)
        by true current (Some own) has is = of own current has (is_rebuilding own) refl is

    had_named : (q : ℕ) → is_named w q ≡ true → IsHad q
    had_named q named = let one = placed_position w q fact.positions fact.few named in had one.0 q one.1 one.2

    -- ---- nothing is left to do

    clean : is_unclean w ≡ false
    clean =
        let offset : w.resync_offset ≡ 2 ^ 64 - 1 =
        (ends.agree n held low (left f t v y i known)).left w w_is (ends.book.old n low)
        ∙ ap (λ (b : Bool). if b then (if is_unclean its.truth then its.truth.resync_offset else 2 ^ 64 - 1) else if nat_lt its.resync (rows_in its) then its.resync * 128 else 2 ^ 64 - 1) (ends.book.old n low)
        ∙ ap (λ (b : Bool). if b then its.resync * 128 else 2 ^ 64 - 1) (le-ltb its.resync (rows_in its) (let same = ends.book.synced n low in omega (arith, same))) in
        le-ltb w.resync_offset w.size (let less = fact.small in omega (arith, offset, less))

    nothing_unsynced : unsynced w ≡ 0
    nothing_unsynced =
        let at : first_unsynced w ≡ w.size / 128 = ap (λ (b : Bool). if b then w.resync_offset / 128 else w.size / 128) clean in
        omega (arith, at)

    none_rebuilding : rebuilding_in g n w ≡ None
    none_rebuilding =
        none_found (is_rebuilding_at g n) (named_places w) (λ q among. elim (cases_Bool (is_named w q)) [
          | inl named ↦
              let one = had_named q named in
              ap₂ (λ b o. b && option_map_or is_rebuilding o false) one.current (same f t v.state i rest said n low q one.current ∙ one.has) ∙ one.whole
          | inr none ↦
              absurd (both_ways (names (named_places w) q)
              (any-filter_same (λ p. p == q) (is_named w) false (λ p is. ap (is_named w) (eqb-true p q is) ∙ none) (range_with_len 0 (length w.roles.items))) among)
        ])

    pub done : ((array_now g n w).resync ≡ 0) × ((array_now g n w).rebuild ≡ 0) × ((array_now g n w).zero_rows ≡ 0)
    done = (
      either (nat_lt n book.joined) (unsynced w) 0 nothing_unsynced refl,
      ap (λ o. option_map_or (rows_to_rebuild g n w) o 0) none_rebuilding,
      either (nat_lt n book.joined) 0 (unsynced w) refl nothing_unsynced,
    )
      where
        either : (b : Bool) (j k : ℕ) → j ≡ 0 → k ≡ 0 → (if b then j else k) ≡ 0
        either true j k one two = one
        either false j k one two = two

    -- ---- nothing is refused

    pub enough : is_too_few g n ≡ false
    unfolding shape_of
    enough =
        ap (λ (o : Option Shape). option_map_or (λ shape. nat_lt 1 (lacking_of shape)) o true)
        (shape_current book (slices_of g) held n (same f t v.state i rest said n low) ∙ (says f t v y i known n low).shape_is)
        ∙ le-ltb 1 (lacking_of (shape_of its))
        (let none : lacking_of (shape_of its) ≡ 0 = none_lacks (member_on its) 0 its.truth.raid_disks (λ k less. whole_member k (omega (arith, less))) in omega (arith, none))

    pub in_sync : is_dirty_degraded g n ≡ false
    in_sync =
        ap (λ o. nat_lt n book.joined && (option_map_or (λ shape. nat_lt 0 (lacking_of shape)) (shape_found g n) false && option_map_or is_unclean o false)) (truth_is f t v.state i rest said n low)
        ∙ ap (λ b. nat_lt n book.joined && (option_map_or (λ shape. nat_lt 0 (lacking_of shape)) (shape_found g n) false && b)) clean
        ∙ no_and (nat_lt n book.joined) (option_map_or (λ shape. nat_lt 0 (lacking_of shape)) (shape_found g n) false)
      where
        no_and : (a b : Bool) → (a && (b && false)) ≡ false
        no_and true true = refl
        no_and true false = refl
        no_and false b = refl
