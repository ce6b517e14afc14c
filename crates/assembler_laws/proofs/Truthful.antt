-- The slices of a pool's drives have its superblocks, so each array's truth and shape.
use Rattle.std.proofs.Common.{◌≡◌, ℕ, ◌+◌, ◌<◌, Bool, true, false, not, nat_lt, if◌then◌else◌, List, length, Option, Some, None, option_map, inl, inr, refl, sym, ap, subst, ◌∙◌, arith}
use Rattle.std.specs.Option.{option_map_or}
use Rattle.std.proofs.lemmas.Bool.{both_ways, cases_Bool}
use Rattle.std.proofs.lemmas.Option.{none-some}
use Rattle.rack.specs.Seen.{Image, RackView}
use Rattle.slice_rack.specs.Slices.{Slices, IsOrderly}
use Rattle.md_super.specs.declared.superblock.Super.{Super}
use Rattle.array_image.specs.Places.{data_sector, member_slice, place_of, super_sector}
use Rattle.array_image.specs.States.{is_current}
use Rattle.array_image.specs.Supers.{is_named, super_in, truth_in}
use Rattle.array_image.specs.Arrays.{Member, Shape, shape_by}
use Rattle.array_image.specs.SoundArray.{IsSoundArray, first_unsynced}
use Rattle.array_image.specs.Even.{AreEven}
use Rattle.array_image.specs.Held.{Among}
use Rattle.array_image.proofs.Frames.{super_of_sector}
use Rattle.array_model.specs.View.{View, shape_of}
use Rattle.array_model.proofs.Opening.{even_counted}
use Rattle.array_core.specs.Contents.{current_super}
use Rattle.array_core.specs.Model.{is_truth}
use Rattle.array_core.specs.Opening.{super_at as super_found, view_found}
use Rattle.array_core.proofs.Leading.{leads_foremost}
use Rattle.array_core.proofs.Opened.{current_is, named_shape, super_place, truth_leads, truth_ranged}
use Rattle.pool_image.specs.Drives.{Found, slices_of}
use Rattle.pool_image.specs.Meaning.{is_member, super_at, truth_of}
use Rattle.pool_check.specs.declared.Checked.{Checked}
use Rattle.pool_check.specs.Layers.{AreOpened, IsOpened}
use Rattle.pool_check.proofs.Begins.{nothing_in}
use Rattle.assembler_laws.specs.Members.{AreMembers}
use Rattle.assembler_laws.specs.Holding.{AreSteady, IsPoolOn}
use Rattle.assembler_laws.proofs.Shows.{few_made, few_place, now, reads_member, reads_other, unseated}

module _ (f : Found) (t : Slices) (x : RackView) (checked : Checked) (absent : List ℕ) (orderly : IsOrderly t)
    (m : AreMembers f.state t x checked absent) (steady : AreSteady x) (pool : IsPoolOn f.state t x f)
    (opened : AreOpened f f.state.made checked.arrays.items checked.extents.items checked.stale.items) where
  abbrev e : Image
  e = now f t x checked absent orderly m steady pool opened

  module _ (n : ℕ) (made : n < f.state.made) where
    -- ---- superblocks

    pub super_member : (p : ℕ) → p < 16 → is_member f n p ≡ true → super_in f.state e n p ≡ super_at f n p
    super_member p low member =
        super_of_sector f.state e (slices_of f) n p (reads_member f t x checked absent orderly m steady pool opened n p super_sector made low member)

    pub super_other : (p : ℕ) → p < 16 → is_member f n p ≡ false → super_in f.state e n p ≡ None
    super_other p low other = nothing_in f.state e n p (reads_other f t x checked absent orderly m steady pool opened n p super_sector made low other)

    -- a place without a disk has none
    pub super_unseated : (p : ℕ) → f.seats p ≡ None → super_at f n p ≡ None
    super_unseated p none =
        nothing_in f.state (slices_of f) n p
        (unseated f t x checked absent orderly m steady pool opened (member_slice p n) super_sector
        (ap f.seats (let few = few_made f t x checked absent orderly m steady pool opened n made in let same : place_of (member_slice p n) ≡ p = omega (arith, few) in same) ∙ none))

    -- nor has one that isn't current
    pub super_gone : (p : ℕ) → is_current f.state p ≡ false → super_at f n p ≡ None
    super_gone p other = by (f.seats p) refl
      where
        by : (o : Option ℕ) → f.seats p ≡ o → super_at f n p ≡ None
        by None seat = super_unseated p seat
        by (Some d) seat = absurd (both_ways (is_current f.state p) other (m.current p d (sym (pool.seats p) ∙ seat)))

    -- what stands on a slice stands in the pool
    pub super_there : (p : ℕ) (u : Super) → p < 16 → super_in f.state e n p ≡ Some u → super_at f n p ≡ Some u
    super_there p u low is = elim (cases_Bool (is_member f n p)) [
      | inl member ↦ sym (super_member p low member) ∙ is
      | inr other ↦ absurd (none-some u (sym (super_other p low other) ∙ is))
    ]

    there_current : (p : ℕ) (u : Super) → current_super f.state e n p ≡ Some u → current_super f.state (slices_of f) n p ≡ Some u
    there_current p u is =
        let at = current_is f.state e n p u is in
        ap (λ (b : Bool). if b then super_at f n p else None) at.0
        ∙ super_there p u (few_place f t x checked absent orderly m steady pool opened p at.0) at.1

    -- ---- the truth

    module _ (tr : Super) (is : truth_of f n ≡ Some tr) (own : is_named tr tr.dev_number ≡ true) where
      member_is : (p : ℕ) → is_named tr p ≡ true → is_member f n p ≡ true
      member_is p named = ap (λ (o : Option Super). option_map_or (λ u. is_named u p) o false) is ∙ named

      other_is : (p : ℕ) → is_named tr p ≡ false → is_member f n p ≡ false
      other_is p named = ap (λ (o : Option Super). option_map_or (λ u. is_named u p) o false) is ∙ named

      pub truth_now : truth_in f.state e n ≡ Some tr
      truth_now =
          let leads = truth_leads f.state (slices_of f) n tr is in
          let at = current_is f.state (slices_of f) n leads.at tr leads.here in
          let low = few_place f t x checked absent orderly m steady pool opened leads.at at.0 in
          let place = super_place f.state (slices_of f) n leads.at tr at.1 in
          truth_ranged f.state e n
          ∙ leads_foremost (λ u. u.events) (current_super f.state e n) 0 (length f.state.drives.items) tr
          (record {
            at = leads.at;
            least = leads.least;
            most = leads.most;
            here =
                ap (λ (b : Bool). if b then super_in f.state e n leads.at else None) at.0
                ∙ super_member leads.at low (member_is leads.at (subst (λ p. is_named tr p ≡ true) place own)) ∙ at.1;
            before = λ q u from less some. leads.before q u from less (there_current q u some);
            after = λ q u more below some. leads.after q u more below (there_current q u some);
          })

      -- ---- the array that was opened

      -- what was found on the places that the truth names
      pub found_named : (v : View) (of : IsOpened f n v) → of.truth ≡ tr → (p : ℕ) → is_named tr p ≡ true → super_found of.found p ≡ current_super f.state e n p
      found_named v of truth p named = of.are_found p ∙ elim (cases_Bool (is_current f.state p)) [
        | inl current ↦
            sym (ap (λ (b : Bool). if b then super_in f.state e n p else None) current
            ∙ super_member p (few_place f t x checked absent orderly m steady pool opened p current) (member_is p named))
        | inr other ↦ super_gone p other ∙ sym (ap (λ (b : Bool). if b then super_in f.state e n p else None) other)
      ]

      pub shape_now : (v : View) (of : IsOpened f n v) → of.truth ≡ tr → is_truth tr ≡ true → shape_of v ≡ shape_by f.state e n tr
      shape_now v of truth usable =
          ap shape_of of.view ∙ ap (λ (u : Super). shape_of (view_found n (not (nat_lt n f.state.joined)) of.found u)) truth
          ∙ named_shape f.state e n tr of.found usable (found_named v of truth) (not (nat_lt n f.state.joined))

      -- the same as that of the pool
      pub shape_said : (v : View) (of : IsOpened f n v) → of.truth ≡ tr → is_truth tr ≡ true → shape_by f.state e n tr ≡ shape_by f.state (slices_of f) n tr
      shape_said v of truth usable = sym (shape_now v of truth usable) ∙ of.shape ∙ ap (shape_by f.state (slices_of f) n) truth

      -- ---- it is sound

      pub sound_now : (shape : Shape) → shape_by f.state e n tr ≡ shape → shape_by f.state (slices_of f) n tr ≡ shape
          → ((w : Member) → Among w shape.members → (s : ℕ) → s < w.reach → e (member_slice w.place n) (data_sector + s) ≡ slices_of f (member_slice w.place n) (data_sector + s))
          → IsSoundArray f.state (slices_of f) n tr → IsSoundArray f.state e n tr
      sound_now shape here there counted sound = record {
        two = sound.two;
        written = sound.written;
        same = λ p q u v current other one two.
            sound.same p q u v current other
            (super_there p u (few_place f t x checked absent orderly m steady pool opened p current) one)
            (super_there q v (few_place f t x checked absent orderly m steady pool opened q other) two);
        rebuilt = λ p u current one. sound.rebuilt p u current (super_there p u (few_place f t x checked absent orderly m steady pool opened p current) one);
        even = λ joined g at.
            let same : shape ≡ g = sym here ∙ of_some (shape_by f.state e n tr) g (sym (ap (option_map (shape_by f.state e n)) truth_now) ∙ at) in
            subst (λ (h : Shape). AreEven h n (first_unsynced tr) e) same
            (even_counted shape n (first_unsynced tr) e (slices_of f) (λ w s among counts. counted w among s counts)
            (sound.even joined shape (ap (option_map (shape_by f.state (slices_of f) n)) is ∙ ap Some there)));
      }
        where
          of_some : (a b : Shape) → Some a ≡ Some b → a ≡ b
          of_some a b same = cc
