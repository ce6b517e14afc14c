-- The superblocks of an array agree where none was found stale and no place is absent.
use Rattle.std.proofs.Common.{◌≡◌, ℕ, zero, suc, ◌+◌, ◌<◌, ◌≤◌, Bool, true, false, ◌==◌, ◌&&◌, ◌||◌, not, nat_lt, is_none, is_some, if◌then◌else◌, List, [], ◌∷◌, slice_get, Option, Some, None, unwrap_or, refl, sym, ap, subst, ◌∙◌, inl, inr, eqb-true, lt-ltb, le-ltb, arith}
use Rattle.std.specs.List.{list_any, range_with_len}
use Rattle.std.specs.Option.{option_map_or}
use Rattle.std.proofs.lemmas.Bool.{both_ways, cases_Bool, cases_lt}
use Rattle.std.proofs.lemmas.Option.{none-some}
use Rattle.rack.specs.Values.{MayLeave}
use Rattle.rack.specs.Seen.{Image, RackView, IsLive}
use Rattle.slice_rack.specs.Slices.{Slices, IsOrderly, seat_of}
use Rattle.md_super.specs.declared.superblock.Super.{Super}
use Rattle.array_image.specs.Arrays.{place_with}
use Rattle.array_image.specs.Left.{NothingPending, IsLeft, reading}
use Rattle.array_image.specs.Places.{member_slice}
use Rattle.array_image.specs.SoundArray.{IsSoundArray, array_fields}
use Rattle.array_image.specs.States.{is_current}
use Rattle.array_image.specs.Supers.{is_named, is_rebuilding, super_in}
use Rattle.array_image.proofs.Frames.{Agree}
use Rattle.array_model.specs.declared.Seat.TheVariants.{Whole, Missing, Rebuilding}
use Rattle.array_model.specs.View.{View}
use Rattle.array_model.proofs.Keeping.{logs_of}
use Rattle.array_core.specs.Opening.{seat_by, super_at as super_found}
use Rattle.array_core.specs.Slots.{place_by}
use Rattle.array_core.proofs.Opened.{current_is, truth_leads}
use Rattle.pool_image.specs.Drives.{Found, slices_of}
use Rattle.pool_image.specs.Meaning.{is_member, super_at}
use Rattle.pool_check.specs.declared.Checked.{Checked}
use Rattle.pool_check.specs.Founded.{is_stale, is_stale_on}
use Rattle.pool_check.specs.Layers.{AreOpened, IsOpened}
use Rattle.raid_laws.specs.Agreeing.{SupersAgree}
use Rattle.raid_laws.proofs.Founding.{position_named}
use Rattle.pool_model.specs.Pools.{IsSoundPool}
use Rattle.assembler_laws.specs.Holding.{AreSteady, IsPoolOn}
use Rattle.assembler_laws.specs.Members.{AreMembers}
use Rattle.assembler_laws.proofs.Arrays.{seat_found}
use Rattle.assembler_laws.proofs.Shows.{few_place, got, now}
use Rattle.assembler_laws.proofs.Truthful.{super_member, super_other, super_there, truth_now}

-- ---- flags

-- where no flag is set, none of them is
unset : (flags : List Bool) (n : ℕ) (flag : Bool) → list_any (λ b. b) flags ≡ false → slice_get flags n ≡ Some flag → flag ≡ false
unset [] n flag none at = absurd (none-some flag at)
unset (true ∷ flags) n flag none at = absurd (both_ways true none refl)
unset (false ∷ flags) zero flag none at = ap (λ o. unwrap_or o false) (sym at)
unset (false ∷ flags) (suc n) flag none at = unset flags n flag none at

-- where no number of a range passes, none of them does
pub none_passes : (f : ℕ → Bool) (a k p : ℕ) → list_any f (range_with_len a k) ≡ false → a ≤ p → p < a + k → f p ≡ false
none_passes f a zero p none least most = absurd (omega (arith, least, most))
none_passes f a (suc k) p none least most = by (f a) refl (λ later rest. none_passes f (a + 1) k p rest (omega (arith, later)) (omega (arith, most)))
  where
    by : (b : Bool) → f a ≡ b → (a < p → list_any f (range_with_len (a + 1) k) ≡ false → f p ≡ false) → f p ≡ false
    by true first rest = absurd (both_ways true (sym (ap (λ b. b || list_any f (range_with_len (a + 1) k)) first) ∙ none) refl)
    by false first rest = elim (cases_lt a p) [
      | inl later ↦ rest later (sym (ap (λ b. b || list_any f (range_with_len (a + 1) k)) first) ∙ none)
      | inr here ↦ (let same : a ≡ p = omega (arith, here, least) in ap f (sym same) ∙ first)
    ]

not_stale : (t : Super) (seen : ℕ → Option Super) (p : ℕ) (u : Super) → is_stale t seen ≡ false → p < 16 → is_named t p ≡ true → seen p ≡ Some u → u.events ≡ t.events
unfolding is_stale
not_stale t seen p u fresh low named at =
    eqb-true u.events t.events
    (not_not (u.events == t.events)
    (sym (ap (λ (b : Bool). b && option_map_or (λ (x : Super). not (x.events == t.events)) (seen p) false) named
    ∙ ap (λ (o : Option Super). option_map_or (λ (x : Super). not (x.events == t.events)) o false) at)
    ∙ none_passes (is_stale_on t seen) 0 16 p fresh (omega arith) (omega (arith, low))))
  where
    not_not : (b : Bool) → not b ≡ false → b ≡ true
    not_not true is = refl
    not_not false is = sym is

-- a seat of a superblock that was found isn't missing
found_seat : (z : Super) (o : Option Super) → seat_by z ≡ option_map_or seat_by o Missing → is_some o ≡ true
found_seat z (Some y) same = refl
found_seat z None same = absurd (of (is_rebuilding z) same)
  where
    of : (b : Bool) → (if b then Rebuilding z.recovery_offset else Whole) ≡ Missing → ⊥
    of true is = cc
    of false is = cc

module _ (f : Found) (t : Slices) (x : RackView) (checked : Checked) (absent : List ℕ) (orderly : IsOrderly t)
    (m : AreMembers f.state t x checked absent) (steady : AreSteady x) (pool : IsPoolOn f.state t x f)
    (opened : AreOpened f f.state.made checked.arrays.items checked.extents.items checked.stale.items)
    (sound : IsSoundPool f) (here : absent ≡ []) (fresh : list_any (λ flag. flag) checked.stale.items ≡ false)
    (n : ℕ) (made : n < f.state.made) (v : View) (is : slice_get checked.arrays.items n ≡ Some v) where
  abbrev of : IsOpened f n v
  of = opened.each n v is

  abbrev tr : Super
  tr = of.truth

  -- the superblocks of the pool's contents have the truth's events
  same_events : (p : ℕ) (u : Super) → p < 16 → is_named tr p ≡ true → super_at f n p ≡ Some u → u.events ≡ tr.events
  same_events p u low named at =
      let flag = got checked.stale.items n (let count = opened.flagged in omega (arith, made, count)) in
      not_stale tr (super_at f n) p u (sym (opened.flags n flag.0 flag.1 tr of.truth_is) ∙ unset checked.stale.items n flag.0 fresh flag.1) low named at

  array_sound : IsSoundArray f.state (slices_of f) n tr
  array_sound =
      let at = sound.rules.arrays n made in
      subst (IsSoundArray f.state (slices_of f) n) (of_some at.0 tr (sym at.1 ∙ of.truth_is)) at.2
    where
      of_some : (a b : Super) → Some a ≡ Some b → a ≡ b
      of_some a b same = cc

  member_is : (p : ℕ) → is_member f n p ≡ is_named tr p
  member_is p = ap (λ (o : Option Super). option_map_or (λ z. is_named z p) o false) of.truth_is

  fields : (p : ℕ) (u : Super) → is_current f.state p ≡ true → super_in f.state (now f t x checked absent orderly m steady pool opened) n p ≡ Some u
      → array_fields u ≡ array_fields tr
  fields p u current at =
      let low = few_place f t x checked absent orderly m steady pool opened p current in
      let there = super_there f t x checked absent orderly m steady pool opened n made p u low at in
      let leads = truth_leads f.state (slices_of f) n tr of.truth_is in
      let lead = current_is f.state (slices_of f) n leads.at tr leads.here in
      elim (cases_Bool (is_named tr p)) [
        | inl named ↦ array_sound.same p leads.at u tr current lead.0 there lead.1 (same_events p u low named there)
        | inr stranger ↦ absurd (none-some u (sym (super_other f t x checked absent orderly m steady pool opened n made p low (member_is p ∙ stranger)) ∙ at))
      ]

  -- each member has one
  has_super : (k p : ℕ) → k < tr.raid_disks → place_with tr.roles.items k ≡ Some p → is_current f.state p ≡ true
      → is_some (super_in f.state (now f t x checked absent orderly m steady pool opened) n p) ≡ true
  has_super k p low role current =
      let founded = m.founded.each n v is in
      let truth : founded.truth ≡ tr = sym (ap (λ (z : View). z.truth) founded.view) ∙ ap (λ (z : View). z.truth) of.view in
      let usable = founded.usable in
      let place : place_by tr k ≡ p = ap (λ o. unwrap_or o 16) role in
      let named : is_named tr p ≡ true =
      subst (λ q. is_named tr q ≡ true) place (subst (λ (z : Super). is_named z (place_by z k) ≡ true) truth (position_named founded.truth k usable (subst (λ (z : Super). k < z.raid_disks) (sym truth) low))) in
      let seat : is_some (seat_of t p) ≡ true = seated (seat_of t p) (sym (ap (λ b. is_none (seat_of t p) && b) current) ∙ sym (m.absent_is p) ∙ ap (λ ps. names_none ps p) here) in
      let some = founded.there p (ap (λ (z : Super). is_named z p) truth ∙ named) current ∙ seat in
      let own = there_is (super_in f.state founded.image n p) some in
      let known : super_found founded.found p ≡ Some own.0 =
      founded.named p (ap (λ (z : Super). is_named z p) truth ∙ named) ∙ ap (λ (b : Bool). if b then super_in f.state founded.image n p else None) current ∙ own.1 in
      let young = not (nat_lt n f.state.joined) in
      let one = seat_found n young founded.found founded.truth k (subst (λ (z : Super). k < z.raid_disks) (sym truth) low) in
      let two = seat_found n young of.found tr k low in
      let same : option_map_or seat_by (super_found founded.found (place_by founded.truth k)) Missing ≡ option_map_or seat_by (super_found of.found (place_by tr k)) Missing =
      ap (λ o. unwrap_or o Missing) (sym one ∙ ap (λ (z : View). slice_get z.seats k) (sym founded.view ∙ of.view) ∙ two) in
      let there : is_some (super_at f n p) ≡ true =
      ap is_some (sym (of.are_found p))
      ∙ found_seat own.0 (super_found of.found p)
      (sym (ap (λ (o : Option Super). option_map_or seat_by o Missing) (ap (super_found founded.found) (ap (λ (z : Super). place_by z k) truth ∙ place) ∙ known))
      ∙ same ∙ ap (λ q. option_map_or seat_by (super_found of.found q) Missing) place) in
      ap is_some (super_member f t x checked absent orderly m steady pool opened n made p (few_place f t x checked absent orderly m steady pool opened p current) (member_is p ∙ named)) ∙ there
    where
      names_none : List ℕ → ℕ → Bool
      names_none ps p = list_any (λ q. q == p) ps

      seated : (o : Option ℕ) → (is_none o && true) ≡ false → is_some o ≡ true
      seated None none = absurd (both_ways true none refl)
      seated (Some d) none = refl

      there_is : (o : Option Super) → is_some o ≡ true → (z : Super) × (o ≡ Some z)
      there_is None some = absurd (both_ways false refl some)
      there_is (Some z) some = (z, refl)

  pub fresh_agrees : SupersAgree f.state (now f t x checked absent orderly m steady pool opened) n
  fresh_agrees = record {
    truth = tr;
    leads = truth_now f t x checked absent orderly m steady pool opened n made tr of.truth_is (sound.own n tr made of.truth_is);
    same = fields;
    there = has_super;
  }

-- ---- after calls that wrote nothing of an array

-- what a stop leaves of its slices is as they read
pub left_reads : (n : ℕ) (a c : RackView) → ((d : ℕ) → 272 ≤ d → c.sectors d ≡ 0) → ((d : ℕ) → c.sectors d ≡ a.sectors d) → NothingPending n c
    → ((place u : ℕ) → place < 16 → u < c.sectors (member_slice place n) → IsLive c c (member_slice place n) u)
    → ((place u : ℕ) (value : List ℕ) → place < 16 → u < c.sectors (member_slice place n) → MayLeave (c.held (member_slice place n) u) value
    → value ≡ (a.held (member_slice place n) u).current)
    → (r : Image) → IsLeft c r → Agree n r (reading a)
left_reads n a c past sectors closed live kept r left place u =
    let d = member_slice place n in
    let i = left.0 in
    left.2 d u ∙ closed i (logs_of i left.1) place u
    ∙ elim (cases_lt u (c.sectors d)) [
      | inl inside ↦
          let low = small inside in
          kept place u (i d u) low inside (left.1.picks d u (live place u low inside))
          ∙ sym (ap (λ (b : Bool). if b then (a.held d u).current else []) (lt-ltb u (a.sectors d) (subst (λ k. u < k) (sectors d) inside)))
      | inr out ↦
          left.1.inside d u out
          ∙ sym (ap (λ (b : Bool). if b then (a.held d u).current else []) (le-ltb u (a.sectors d) (subst (λ k. k ≤ u) (sectors d) out)))
    ]
  where
    small : u < c.sectors (member_slice place n) → place < 16
    small inside = elim (cases_lt place 16) [
      | inl low ↦ low
      | inr high ↦ (let none = past (member_slice place n) (omega (arith, high)) in absurd (omega (arith, inside, none)))
    ]
