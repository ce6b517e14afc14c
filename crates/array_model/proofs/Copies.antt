-- A mirror of which a member may be missing: a sector is written on those that count.
use Rattle.std.proofs.Common.{◌≡◌, ℕ, suc, ◌+◌, ◌<◌, ◌≤◌, Bool, true, false, ◌==◌, nat_lt, if◌then◌else◌, List, [], ◌∷◌, map, take, length, Option, Some, None, unwrap_or, refl, sym, ap, subst, ◌∙◌, eqb-true, eq-eqb, arith}
use Rattle.std.proofs.lemmas.Bool.{both_ways}
use Rattle.rack.specs.Seen.{Image}
use Rattle.rack.specs.Targets.{Target, look}
use Rattle.array_image.specs.Places.{member_slice, data_sector}
use Rattle.array_image.specs.Stripes.{Layout, mirror, width, sector_in, there, AgreeIn}
use Rattle.array_image.specs.Arrays.{Member, Shape, layout_at, stripe_in, value_by}
use Rattle.array_image.specs.Held.{Among, first_counting}
use Rattle.array_image.specs.Even.{AllCount}
use Rattle.array_image.specs.Spent.{wanting, spent_by}
use Rattle.array_image.proofs.Losing.{data_of}
use Rattle.array_image.proofs.Lost.{there_all}
use Rattle.array_image.proofs.Noted.{columns_all}
use Rattle.array_image.proofs.Settled.{among_take}
use Rattle.array_image.proofs.Sources.{source_counts}
use Rattle.array_model.specs.Rows.{AgreeAt, RowChange, written, source_at, sector_at, IsPlain}
use Rattle.array_model.proofs.DataFrames.{columns_same}
use Rattle.array_model.proofs.MirrorRow.{agree_one}
use Rattle.array_model.proofs.Parts.{plain_sector, plain_source, plain_take}
use Rattle.array_model.proofs.Spared.{at_most_one}
use Rattle.array_model.proofs.WholeWrites.{own_value}

-- none of the members counts
pub all_want : (t : ℕ) (members : List Member) → first_counting t members ≡ None → wanting t members ≡ length members
unfolding first_counting
all_want t [] none = refl
all_want t (m ∷ others) none =
    let Goal : Bool → Type 0 = λ b. (if b then Some m else first_counting t others) ≡ None → (if b then wanting t others else suc (wanting t others)) ≡ suc (length others) in
    let goal : Goal (nat_lt t m.reach) = elim (nat_lt t m.reach) as Goal [ true ↦ λ is. cc | false ↦ λ is. ap suc (all_want t others is) ] in
    goal none

module _ (shape : Shape) (k n resync x : ℕ) (from : List ℕ) (cur : Image) (xs : List Target)
    (plain : IsPlain shape (mirror k)) (two : 2 ≤ k)
    (hit : (m : Member) → Among m shape.members → x < m.reach → look xs (member_slice m.place n) (data_sector + x) ≡ Some from)
    (only : (d i : ℕ) (u : List ℕ) → look xs d i ≡ Some u → (i ≡ data_sector + x) × (u ≡ from)) where
  hit_at : (m : Member) → Among m shape.members → x < m.reach → written xs cur (member_slice m.place n) (data_sector + x) ≡ from
  hit_at m among counts = ap (λ (o : Option (List ℕ)). unwrap_or o (cur (member_slice m.place n) (data_sector + x))) (hit m among counts)

  kept : (d i : ℕ) → (i ≡ x → ⊥) → written xs cur d (data_sector + i) ≡ cur d (data_sector + i)
  kept d i other =
      let Goal : Option (List ℕ) → Type 0 = λ o. look xs d (data_sector + i) ≡ o → unwrap_or o (cur d (data_sector + i)) ≡ cur d (data_sector + i) in
      let goal : Goal (look xs d (data_sector + i)) = elim (look xs d (data_sector + i)) as Goal [
        | None ↦ λ is. refl
        | Some u ↦ λ is. let at = (only d (data_sector + i) u is).0 in absurd (other (omega (arith, at)))
      ] in
      goal refl

  sourced : (y : ℕ) → spent_by shape resync y ≡ false → source_at shape y ≡ None → ⊥
  sourced y unspent none =
      let counting : first_counting y shape.members ≡ None =
      ap (first_counting y) (sym (plain_take shape (mirror k) plain)) ∙ sym (plain_source shape (mirror k) y plain) ∙ none in
      let all = all_want y shape.members counting in
      let few : wanting y shape.members ≤ 1 = subst (λ s. wanting s shape.members ≤ 1) (plain_sector shape (mirror k) y plain) (at_most_one _ _ unspent) in
      let count = plain.count in
      absurd (omega (arith, all, few, count, two))

  value_now : (y : ℕ) → spent_by shape resync y ≡ false → value_by shape (written xs cur) n y ≡ (if y == x then from else value_by shape cur n y)
  value_now y unspent =
      let Goal : Option Member → Type 0 = λ o. source_at shape y ≡ o → value_by shape (written xs cur) n y ≡ (if y == x then from else value_by shape cur n y) in
      let goal : Goal (source_at shape y) = elim (source_at shape y) as Goal [
        | None ↦ λ is. absurd (sourced y unspent is)
        | Some m ↦ λ is.
            let found = source_counts shape y m is in
            let at : sector_at shape y ≡ y = plain_sector shape (mirror k) y plain in
            let own : (c : Image) → value_by shape c n y ≡ c (member_slice m.place n) (data_sector + y) =
            λ c. own_value shape n y c m is ∙ ap (λ i. c (member_slice m.place n) (data_sector + i)) at in
            let Same : Bool → Type 0 = λ b. (y == x) ≡ b → value_by shape (written xs cur) n y ≡ (if b then from else value_by shape cur n y) in
            let same : Same (y == x) = elim (y == x) as Same [
              | true ↦ λ here.
                  let here_x : x ≡ y = sym (eqb-true y x here) in
                  own (written xs cur) ∙ ap (λ i. written xs cur (member_slice m.place n) (data_sector + i)) (sym here_x)
                  ∙ hit_at m found.among (subst (λ i. i < m.reach) (at ∙ sym here_x) found.counts)
              | false ↦ λ no. own (written xs cur) ∙ kept (member_slice m.place n) y (λ here. both_ways (y == x) no (eq-eqb y x here)) ∙ sym (own cur)
            ] in
            same refl
      ] in
      goal refl

  even_now : (y : ℕ) → AllCount (layout_at shape y) shape (sector_at shape y) → AgreeAt shape n cur y → AgreeAt shape n (written xs cur) y
  even_now y count agree =
      let f : Image = written xs cur in
      let layout = layout_at shape y in
      let sector = sector_in layout y in
      let y_is : sector ≡ y = plain_sector shape (mirror k) y plain in
      let Goal : Bool → Type 0 = λ b. (y == x) ≡ b → AgreeIn layout (there (stripe_in f n shape layout sector)) in
      let goal : Goal (y == x) = elim (y == x) as Goal [
        | true ↦ λ same.
            let x_is : sector ≡ x = y_is ∙ eqb-true y x same in
            subst (λ (l : Layout). AgreeIn l (there (stripe_in f n shape layout sector))) (sym (plain.layout_is y))
            (subst (λ stripe. AgreeIn (mirror k) (there stripe)) (sym (columns_all f n sector (take (width layout) shape.members) (λ m among. count m among)))
            (subst (λ vs. AgreeIn (mirror k) vs) (sym (there_all (map (data_of f n sector) (take (width layout) shape.members))))
            (agree_one from n sector k f (take (width layout) shape.members)
            (λ m among.
            let of : Among m shape.members = among_take (width layout) shape.members m among in
            ap (λ i. f (member_slice m.place n) (data_sector + i)) x_is ∙ hit_at m of (subst (λ i. i < m.reach) x_is (count m among))))))
        | false ↦ λ other.
            subst (λ stripe. AgreeIn layout (there stripe))
            (sym (columns_same f cur n sector (take (width layout) shape.members)
            (λ m among counts. kept (member_slice m.place n) sector (λ here. both_ways (y == x) other (eq-eqb y x (sym y_is ∙ here))))))
            agree
      ] in
      goal refl

  pub copies_change : RowChange shape n resync x from cur xs
  copies_change = record {
    alone = λ y m u source is.
        let at = only (member_slice m.place n) (data_sector + sector_at shape y) u is in
        let y_is = plain_sector shape (mirror k) y plain in
        let place = at.0 in
        (omega (arith, place, y_is), at.1);
    value = value_now;
    even = even_now;
  }
