-- Members that were there by an earlier shape of their array have their superblocks still, where the array stands as well as by that.
use Rattle.std.proofs.Common.{◌≡◌, ℕ, zero, suc, ◌<◌, ◌||◌, not, true, false, is_some, List, [], ◌∷◌, slice_get, Option, Some, None, option_map, unwrap_or, refl, sym, ap, ap₂, subst, ◌∙◌, inl, inr, arith}
use Rattle.std.specs.List.{range_with_len}
use Rattle.std.specs.Option.{option_map_or}
use Rattle.std.proofs.lemmas.Bool.{and_parts, both_ways, cases_Bool}
use Rattle.std.proofs.lemmas.Option.{none-some}
use Rattle.md_super.specs.declared.superblock.Super.{Super}
use Rattle.array_image.specs.Arrays.{Member, Shape, member_by, member_in, shape_by}
use Rattle.array_image.specs.Held.{Among}
use Rattle.array_image.specs.States.{is_current}
use Rattle.array_image.specs.Supers.{is_named}
use Rattle.array_core.proofs.Rules.{get_map, get_range, zero_more}
use Rattle.array_core.proofs.Stripped.{some_same}
use Rattle.array_model.specs.declared.Seat.{Seat}
use Rattle.array_model.specs.View.{is_missing_seat, is_seated, member_on, place_at, shape_of as shape_by_book}
use Rattle.array_model.proofs.Views.{shape_members}
use Rattle.pool_check.proofs.Valid.{valid_fit}
use Rattle.pool_image.specs.Drives.{Found, slices_of}
use Rattle.pool_image.specs.Meaning.{has_supers, is_member, shape_of, super_at, truth_of}
use Rattle.raid_laws.specs.Raid.{HasMarkedSeats, Raid}
use Rattle.raid_laws.specs.Reach.{KeepsReach}
use Rattle.pool_model.proofs.Found.{IsFound, valid}
use Rattle.pool_model.proofs.Framed.{truth_placed}
use Rattle.pool_model.proofs.Members.{among_range}
use Rattle.pool_model.proofs.Refused.{all_range}
use Rattle.pool_model.proofs.Roles.{placed_position}

-- a member at a position is one of the list
among_get : (ms : List Member) (k : ℕ) (m : Member) → slice_get ms k ≡ Some m → Among m ms
among_get [] k m at = none-some m at
among_get (x ∷ ms) zero m at = inl (sym (some_same x m at))
among_get (x ∷ ms) (suc k) m at = inr (among_get ms k m at)

-- The members of an array that are on a place were there by an earlier shape, and each on a current place stands as well as by that.
pub record HadThere (g : Found) (p n : ℕ) : Type 0 where
  pub was : Shape
  pub keeps : (shape : Shape) → shape_of g n ≡ Some shape → KeepsReach g.state was shape
  pub there : (m : Member) → Among m was.members → m.place ≡ p → m.is_there ≡ true

-- So where a place is current its drive has its superblocks.
module _ (g : Found) (is : IsFound g) (p : ℕ) (now : is_current g.state p ≡ true) where
  module _ (n : ℕ) (had : HadThere g p n) (t : Super) (truth : truth_of g n ≡ Some t) (named : is_named t p ≡ true) where
    abbrev shape : Shape
    shape = shape_by g.state (slices_of g) n t

    super_there : is_some (super_at g n p) ≡ true
    unfolding shape_by
    super_there =
        let good = valid g is in
        let has = truth_placed g.state (slices_of g) n t (valid_fit g.state good.0 good.1).few truth in
        let at = placed_position t p has.roles has.few named in
        let k = at.0 in
        let member : ℕ → Member = member_in g.state (slices_of g) n t in
        let here : slice_get shape.members k ≡ Some (member k) =
        get_map member (range_with_len 0 t.raid_disks) k ∙ ap (option_map member) (get_range 0 t.raid_disks k at.1) ∙ ap (λ j. Some (member j)) (zero_more k) in
        let place : (member k).place ≡ p = ap (λ o. unwrap_or o 16) at.2 in
        let keeps = had.keeps shape (ap (option_map (shape_by g.state (slices_of g) n)) truth) in
        let one = before (slice_get had.was.members k)
        (sym (get_map (λ (z : Member). z.place) had.was.members k) ∙ ap (λ ps. slice_get ps k) (sym keeps.places)
        ∙ get_map (λ (z : Member). z.place) shape.members k ∙ ap (option_map (λ (z : Member). z.place)) here ∙ ap Some place) in
        let kept = keeps.reach k one.0 (member k) one.1 here (ap (is_current g.state) one.2 ∙ now) in
        (and_parts (is_current g.state p) (is_some (super_at g n p))
        (sym (ap (λ q. (member_by t.size q (is_current g.state q) (super_at g n q)).is_there) place)
        ∙ kept.there (had.there one.0 (among_get had.was.members k one.0 one.1) one.2))).1
      where
        before : (o : Option Member) → option_map (λ (z : Member). z.place) o ≡ Some p → (m : Member) × (o ≡ Some m) × (m.place ≡ p)
        before None at = absurd (none-some p at)
        before (Some m) at = (m, refl, some_same m.place p at)

  pub supers_there : ((n : ℕ) → n < g.state.made → is_member g n p ≡ true → HadThere g p n) → has_supers g p ≡ true
  supers_there had =
      all_range (λ n. not (is_member g n p) || is_some (super_at g n p)) 0 g.state.made
      (λ n low. elim (cases_Bool (is_member g n p)) [
        | inr none ↦ ap (λ b. not b || is_some (super_at g n p)) none
        | inl member ↦ ap₂ (λ a b. not a || b) member (of n (had n (omega (arith, low)) member) (truth_of g n) refl member)
      ])
    where
      of : (n : ℕ) → HadThere g p n → (o : Option Super) → truth_of g n ≡ o → option_map_or (λ t. is_named t p) o false ≡ true → is_some (super_at g n p) ≡ true
      of n had None truth named = absurd (both_ways false refl named)
      of n had (Some t) truth named = super_there n had t truth named

-- By a book whose missing members are those of marked drives, an array's member on a current place is there.
pub book_there : (v : Raid) → HasMarkedSeats v → (n p : ℕ) → n < v.state.made → is_current v.state p ≡ true
    → (m : Member) → Among m (shape_by_book (v.arrays n)).members → m.place ≡ p → m.is_there ≡ true
book_there v marked n p low now m among place =
    let own = v.arrays n in
    let one = among_range (member_on own) m 0 own.truth.raid_disks (subst (λ (ms : List Member). Among m ms) (shape_members own) among) in
    let here : place_at own one.0 ≡ p = ap (λ (z : Member). z.place) (sym one.3) ∙ place in
    ap (λ (z : Member). z.is_there) one.3
    ∙ seated (slice_get own.seats one.0)
    (marked n one.0 low (let most = one.2 in omega (arith, most)) ∙ ap (λ q. Some (not (is_current v.state q))) here ∙ ap (λ b. Some (not b)) now)
  where
    seated : (o : Option Seat) → option_map is_missing_seat o ≡ Some false → option_map_or is_seated o false ≡ true
    seated None is = absurd (none-some false is)
    seated (Some seat) is = ap not (some_same (is_missing_seat seat) false is)
