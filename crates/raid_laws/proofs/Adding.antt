-- What the log has that is to mark losses: each target is a superblock or a copy of the marked state.
use Rattle.std.proofs.Common.{◌≡◌, ◌⊎◌, ℕ, zero, suc, ◌+◌, ◌<◌, ◌≤◌, Bool, true, false, ◌==◌, ◌&&◌, ◌||◌, not, if◌then◌else◌, List, [], ◌∷◌, ◌++◌, filter, length, slice_get, Option, Some, None, option_map, refl, sym, ap, subst, ◌∙◌, inl, inr, eq-eqb, eqb-true, ne_eqb, lt-ltb, arith}
use Rattle.std.proofs.lemmas.Bool.{cases_Bool, cases_eq, both_ways, and_parts, and_from}
use Rattle.std.specs.List.{list_any, list_all, range_with_len}
use Rattle.rack.specs.Seen.{RackView, IsLive}
use Rattle.rack.specs.Targets.{Target, look}
use Rattle.pool_state.specs.declared.contents.State.{State}
use Rattle.array_image.specs.Places.{log_slice, member_slice, place_of, slice_of, super_sector}
use Rattle.array_image.specs.States.{is_current, current_places}
use Rattle.array_image.specs.Record.{is_target, are_apart}
use Rattle.log_laws.specs.View.{LogView, names}
use Rattle.log_laws.specs.Phases.{IsHad}
use Rattle.commit_log.proofs.Deciding.{names_first, names_later}
use Rattle.array_model.specs.declared.Seat.{Seat}
use Rattle.array_model.specs.declared.Seat.TheVariants.{Missing}
use Rattle.array_model.specs.View.{is_missing_seat, place_at, has_gone}
use Rattle.array_model.specs.Members.{slice_on}
use Rattle.array_model.specs.Stages.{AmongTargets}
use Rattle.raid_laws.specs.Raid.{Raid, AreLive, gone_in}
use Rattle.raid_laws.specs.Moves.{IsSet}
use Rattle.raid_laws.specs.Losses.{IsCopyOn, AreCopiesOn}
use Rattle.raid_laws.specs.Marking.{NoData}
use Rattle.raid_laws.specs.Settling.{IsSuperOf, IsMarking, state_after}
use Rattle.raid_laws.proofs.Missing.{current_marked}
use Rattle.raid_laws.proofs.Added.{names_current}
use Rattle.raid_laws.proofs.Noted.{current_few}
use Rattle.raid_laws.proofs.Seated.{missing_of, place_few}
use Rattle.raid_laws.proofs.Elements.{among_either, all_among, any_among, apart_append, look_among, look_lacks}

-- the superblock's sector of a member that isn't missing is told
super_live : (v : Raid) (x : RackView) (n k : ℕ) → IsSet v x → AreLive v.state.made x → n < v.state.made → k < (v.arrays n).truth.raid_disks
    → (slice_get (v.arrays n).seats k ≡ Some Missing → ⊥) → IsLive x x (slice_on (v.arrays n) k) super_sector
super_live v x n k set live low inside there =
    let u = v.arrays n in
    let seated = set.arrays n low in
    let sectors = seated.slices.sectors k inside there in
    subst (λ j. IsLive x x (member_slice (place_at u k) j) super_sector) (sym seated.number)
    (live n (place_at u k) super_sector low (place_few u k seated.is_array inside)
    (subst (λ j. super_sector < x.sectors (member_slice (place_at u k) j)) seated.number (omega (arith, sectors))))

-- ---- copies

-- a copy for one of the places
pub record IsCopyFor (t : State) (on : List ℕ) (x : Target) : Type 0 where
  pub place : ℕ
  pub named : names on place ≡ true
  pub copy : IsCopyOn t place x

pub copies_from : (t : State) (on : List ℕ) (xs : List Target) (x : Target) → AreCopiesOn t on xs → AmongTargets x xs → IsCopyFor t on x
copies_from t [] [] x are among = absurd among
copies_from t [] (y ∷ ys) x are among = absurd are
copies_from t (p ∷ on) [] x are among = absurd are
copies_from t (p ∷ on) (y ∷ ys) x are (inl here) = record { place = p; named = names_first p on; copy = subst (IsCopyOn t p) (sym here) are.0 }
copies_from t (p ∷ on) (y ∷ ys) x are (inr later) =
    let rest = copies_from t on ys x are.1 later in
    record { place = rest.place; named = names_later p on rest.place rest.named; copy = rest.copy }

-- places of a range are from its first one on
named_from : (f : ℕ → Bool) (a k p : ℕ) → names (filter f (range_with_len a k)) p ≡ true → a ≤ p
named_from f a zero p is = absurd (both_ways false refl is)
named_from f a (suc k) p is =
    let Goal : Bool → Type 0 = λ b. names (if b then a ∷ filter f (range_with_len (a + 1) k) else filter f (range_with_len (a + 1) k)) p ≡ true → a ≤ p in
    let goal : Goal (f a) = elim (f a) as Goal [
      | true ↦ λ named. elim (cases_eq a p) [
        | inl here ↦ omega (arith, here)
        | inr other ↦ let low = named_from f (a + 1) k p (sym (ap (λ b. b || names (filter f (range_with_len (a + 1) k)) p) (ne_eqb a p other)) ∙ named) in omega (arith, low)
      ]
      | false ↦ λ named. let low = named_from f (a + 1) k p named in omega (arith, low)
    ] in
    goal is

pub copies_apart : (t : State) (f : ℕ → Bool) (a k : ℕ) (xs : List Target) → AreCopiesOn t (filter f (range_with_len a k)) xs → are_apart xs ≡ true
copies_apart t f a zero [] are = refl
copies_apart t f a zero (x ∷ xs) are = absurd are
copies_apart t f a (suc k) xs are =
    let others = filter f (range_with_len (a + 1) k) in
    let Goal : Bool → Type 0 = λ b. AreCopiesOn t (if b then a ∷ others else others) xs → are_apart xs ≡ true in
    let goal : Goal (f a) = elim (f a) as Goal [
      | true ↦ λ all. taken xs all (λ ys rest. copies_apart t f (a + 1) k ys rest)
      | false ↦ λ rest. copies_apart t f (a + 1) k xs rest
    ] in
    goal are
  where
    taken : (ys : List Target) → AreCopiesOn t (a ∷ filter f (range_with_len (a + 1) k)) ys
        → ((zs : List Target) → AreCopiesOn t (filter f (range_with_len (a + 1) k)) zs → are_apart zs ≡ true) → are_apart ys ≡ true
    taken [] all others = refl
    taken (y ∷ ys) all others =
        let rest : are_apart ys ≡ true = others ys all.1 in
        let both : are_apart (y ∷ [] ++ ys) ≡ true =
        apart_append (y ∷ []) ys refl rest
        (λ p q one two disk sector.
        let of = copies_from t (filter f (range_with_len (a + 1) k)) ys q all.1 two in
        let low = named_from f (a + 1) k of.place of.named in
        let mine = all.0.disk in
        let theirs = of.copy.disk in
        let first : p.disk ≡ y.disk = elim one [ inl here ↦ ap (λ (z : Target). z.disk) here | inr none ↦ absurd none ] in
        absurd (omega (arith, low, mine, theirs, first, disk))) in
        both

-- ---- all targets

module _ (v : Raid) (lost on : List ℕ) (l : LogView) (xs : List Target) (x : RackView) (marking : IsMarking v lost on l xs x) where
  t : State
  t = state_after v lost

  -- which of both a target is
  pub which : (y : Target) → AmongTargets y l.added → IsSuperOf v v.state.made y ⊎ IsCopyFor (state_after v lost) on y
  which y among =
      elim (among_either y xs marking.copies.targets (subst (AmongTargets y) marking.copies.appended among)) [
        | inl one ↦ inl (marking.staged.only y one)
        | inr two ↦ inr (copies_from (state_after v lost) on marking.copies.targets y marking.copies.copies two)
      ]

  -- a current place by the marked state, and who is one
  pub current_is : (p : ℕ) → is_current (state_after v lost) p ≡ (is_current v.state p && not (gone_in v p))
  current_is p =
      current_marked lost v.state p ∙ ap (λ b. is_current v.state p && not b) (marking.lost_is p) ∙ of (is_current v.state p) (gone_in v p)
    where
      of : (c g : Bool) → (c && not (c && g)) ≡ (c && not g)
      of true g = refl
      of false g = refl

  pub on_current : (p : ℕ) → names on p ≡ is_current (state_after v lost) p
  on_current p = ap (λ ps. names ps p) marking.on_is ∙ names_current (state_after v lost) p

  pub was_current : (p : ℕ) → is_current (state_after v lost) p ≡ true → is_current v.state p ≡ true
  was_current p is = (and_parts (is_current v.state p) (not (gone_in v p)) (sym (current_is p) ∙ is)).0

  -- a member that isn't missing is on such a place
  pub there_current : (y : Target) (super : IsSuperOf v v.state.made y) → is_current (state_after v lost) (place_at (v.arrays super.array) super.position) ≡ true
  there_current y super =
      let n = super.array in
      let k = super.position in
      let p = place_at (v.arrays n) k in
      let seated = marking.set.arrays n super.low in
      let both = and_parts (is_current v.state p) (not (has_gone (v.arrays n) p)) (seat_there (slice_get (v.arrays n).seats k) (is_current v.state p && not (has_gone (v.arrays n) p)) super.there (seated.marks k super.inside)) in
      let kept : names lost p ≡ false = elim (cases_Bool (names lost p)) [
        | inl gone ↦ absurd (both_ways true (sym both.1 ∙ ap not (marking.noted n p super.low gone)) refl)
        | inr none ↦ none
      ] in
      current_marked lost v.state p ∙ and_from (is_current v.state p) (not (names lost p)) both.0 (ap not kept)
    where
      seat_there : (o : Option Seat) (b : Bool) → (o ≡ Some Missing → ⊥) → option_map is_missing_seat o ≡ Some (not b) → b ≡ true
      seat_there None b there is = absurd (let bad : None ≡ Some (not b) = is in cc)
      seat_there (Some seat) true there is = refl
      seat_there (Some seat) false there is = absurd (there (missing_of (Some seat) false false refl is))

  -- targets' slices
  pub super_place : (y : Target) (super : IsSuperOf v v.state.made y) → place_of y.disk ≡ place_at (v.arrays super.array) super.position
  super_place y super =
      let disk = super.disk in
      let number = (marking.set.arrays super.array super.low).number in
      let low = super.low in
      let most = marking.set.most in
      omega (arith, disk, number, low, most)

  pub no_data : NoData l.added
  no_data d s w is =
      let at = look_among l.added d s w is in
      elim (which at.0 at.1) [
        | inl super ↦ inr (sym at.3 ∙ super.sector)
        | inr copy ↦ inl (let disk = copy.copy.disk in let same = at.2 in omega (arith, disk, same))
      ]

  -- what a commit asks
  pub are_valid : list_all is_target l.added ≡ true
  are_valid =
      all_among is_target l.added
      (λ y among. elim (which y among) [
        | inl super ↦
            let place = super_place y super in
            let few = place_few (v.arrays super.array) super.position (marking.set.arrays super.array super.low).is_array super.inside in
            let disk = super.disk in
            let number = (marking.set.arrays super.array super.low).number in
            let low = super.low in
            let most = marking.set.most in
            and_from _ _ (lt-ltb y.disk 272 (omega (arith, disk, number, low, most, few)))
            (ap (λ b. not b || (y.sector == 0)) (ne_eqb (slice_of y.disk) 0 (λ none. omega (arith, none, disk, number, low, most))))
        | inr copy ↦
            let few = current_few v.state copy.place marking.set.few (was_current copy.place (sym (on_current copy.place) ∙ copy.named)) in
            let disk = copy.copy.disk in
            and_from _ _ (lt-ltb y.disk 272 (omega (arith, disk, few)))
            (or_second (not (slice_of y.disk == 0)) (y.sector == 0) (eq-eqb y.sector 0 copy.copy.sector))
      ])
    where
      or_second : (b c : Bool) → c ≡ true → (b || c) ≡ true
      or_second true c is = refl
      or_second false c is = is

  pub all_apart : are_apart l.added ≡ true
  unfolding current_places
  all_apart =
      ap are_apart marking.copies.appended
      ∙ apart_append xs marking.copies.targets marking.staged.apart
      (copies_apart (state_after v lost) (is_current (state_after v lost)) 0 (length (state_after v lost).drives.items) marking.copies.targets
      (subst (λ ps. AreCopiesOn (state_after v lost) ps marking.copies.targets) marking.on_is marking.copies.copies))
      (λ p q one two disk sector.
      let super = marking.staged.only p one in
      let copy = copies_from (state_after v lost) on marking.copies.targets q marking.copies.copies two in
      let high = super.sector in
      let low = copy.copy.sector in
      absurd (omega (arith, high, low, sector)))

  pub all_had : (d s : ℕ) (w : List ℕ) → look l.added d s ≡ Some w → IsHad x d s
  all_had d s w is =
      let at = look_among l.added d s w is in
      elim (which at.0 at.1) [
        | inl super ↦
            let seated = marking.set.arrays super.array super.low in
            let below = seated.slices.disks super.position super.inside super.there in
            let room = seated.slices.sectors super.position super.inside super.there in
            let high = super.sector in
            let here = at.2 in
            let sector = at.3 in (
              subst (λ e. e < x.disks) (sym super.disk ∙ here) below,
              subst (λ e. s < x.sectors e) (sym super.disk ∙ here) (omega (arith, room, high, sector)),
            )
        | inr copy ↦
            let current = was_current copy.place (sym (on_current copy.place) ∙ copy.named) in
            let few = current_few v.state copy.place marking.set.few current in
            let disk = copy.copy.disk in
            let here = at.2 in
            let disks = marking.set.disks in
            let sectors = marking.set.logs copy.place (sym (current_is copy.place) ∙ sym (on_current copy.place) ∙ copy.named) in
            let zero_sector = copy.copy.sector in
            let sector = at.3 in (
              omega (arith, disk, here, few, disks),
              subst (λ e. s < x.sectors e) (sym disk ∙ here) (omega (arith, sectors, zero_sector, sector)),
            )
      ]

  pub all_live : AreLive v.state.made x → ((p u : ℕ) → p < 16 → u < x.sectors (log_slice p) → IsLive x x (log_slice p) u)
      → (d s : ℕ) (w : List ℕ) → look l.added d s ≡ Some w → IsLive x x d s
  all_live live logs d s w is =
      let at = look_among l.added d s w is in
      elim (which at.0 at.1) [
        | inl super ↦
            subst (λ e. IsLive x x e s) (sym super.disk ∙ at.2)
            (subst (λ u. IsLive x x (slice_on (v.arrays super.array) super.position) u) (sym super.sector ∙ at.3)
            (super_live v x super.array super.position marking.set live super.low super.inside super.there))
        | inr copy ↦
            let current = was_current copy.place (sym (on_current copy.place) ∙ copy.named) in
            let sectors = marking.set.logs copy.place (sym (current_is copy.place) ∙ sym (on_current copy.place) ∙ copy.named) in
            subst (λ e. IsLive x x e s) (sym copy.copy.disk ∙ at.2)
            (subst (λ u. IsLive x x (log_slice copy.place) u) (sym copy.copy.sector ∙ at.3)
            (logs copy.place 0 (current_few v.state copy.place marking.set.few current) (omega (arith, sectors))))
      ]

  -- superblocks have no copy of a state, and lie on places that are left
  pub supers_calm : (p : ℕ) → look xs (log_slice p) 0 ≡ None
  supers_calm p = look_lacks xs (log_slice p) 0 (λ y among disk sector. let high = (marking.staged.only y among).sector in omega (arith, high, sector))

  pub supers_inside : (p : ℕ) → list_any (λ y. place_of y.disk == p) xs ≡ true → is_current (state_after v lost) p ≡ true
  supers_inside p is =
      let at = any_among (λ y. place_of y.disk == p) xs is in
      let super = marking.staged.only at.0 at.1 in
      subst (λ q. is_current (state_after v lost) q ≡ true) (sym (super_place at.0 super) ∙ eqb-true (place_of at.0.disk) p at.2) (there_current at.0 super)
