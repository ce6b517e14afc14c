-- Which places are marked missing once a rack of arrays is made.
use Rattle.std.proofs.Common.{◌≡◌, ℕ, ◌<◌, ◌⊎◌, ◌&&◌, ◌||◌, Bool, true, false, not, is_none, is_some, List, [], ◌∷◌, slice_get, Option, Some, None, inl, inr, refl, sym, ap, subst, ◌∙◌, arith}
use Rattle.std.proofs.lemmas.Bool.{and_from, and_parts, both_ways, cases_Bool}
use Rattle.rack.specs.Seen.{RackView}
use Rattle.slice_rack.specs.Slices.{Slices, seat_of}
use Rattle.pool_state.specs.declared.contents.State.{State}
use Rattle.array_image.specs.States.{is_current}
use Rattle.array_model.specs.View.{View, HasFault, has_gone}
use Rattle.array_core.specs.Seats.{gone, restarted}
use Rattle.log_laws.specs.View.{names}
use Rattle.pool_scan.proofs.Valid.{valid_arrays, valid_places}
use Rattle.pool_check.specs.declared.Checked.{Checked}
use Rattle.commit_log.proofs.Deciding.{names_first}
use Rattle.raid_laws.specs.Moves.{AreMarked, IsHeeded, Mends}
use Rattle.raid_laws.specs.Runs.{RaidRuns}
use Rattle.raid_laws.proofs.Whole.{heeded_left}
use Rattle.raid_laws.specs.Raid.{Raid, gone_in, is_left}
use Rattle.raid_laws.proofs.Noted.{current_few, gone_not, gone_some}
use Rattle.raid_laws.proofs.Seated.{names_joined}
use Rattle.assembler_laws.specs.Members.{AreMembers}
use Rattle.assembler_laws.proofs.Shows.{got}

-- current places that aren't absent are those that have a disk
pub marks_of : (current none absent : Bool) → absent ≡ (none && current) → (current && not absent) ≡ (current && not none)
marks_of true none absent is = ap not (is ∙ of none)
  where
    of : (b : Bool) → (b && true) ≡ b
    of true = refl
    of false = refl
marks_of false none absent is = refl

pub some_is : (o : Option ℕ) → not (is_none o) ≡ is_some o
some_is None = refl
some_is (Some d) = refl

-- a place that isn't current isn't left
pub lost_so : (current there : Bool) → current ≡ false → (current && there) ≡ false
lost_so true there off = absurd (both_ways true off refl)
lost_so false there off = refl

module _ (s : State) (t : Slices) (y : RackView) (checked : Checked) (absent places : List ℕ) (m : AreMembers s t y checked absent)
    (v : Raid) (state : v.state ≡ s)
    (are : (n : ℕ) (u : View) → slice_get checked.arrays.items n ≡ Some u → v.arrays n ≡ gone places (restarted u)) where
  made : v.state.made ≡ s.made
  made = ap (λ (k : State). k.made) state

  few_place : (p : ℕ) → is_current s p ≡ true → p < 16
  few_place p current = current_few s p (valid_places s 0 m.valid).1 current

  -- the places that were left out, and no others, went in the arrays
  went_names : (n p : ℕ) → n < v.state.made → p < 16 → has_gone (v.arrays n) p ≡ names places p
  went_names n p low few =
      let at = got checked.arrays.items n (let count = m.founded.count in omega (arith, low, made, count)) in
      ap (λ (u : View). has_gone u p) (are n at.0 at.1) ∙ names_joined at.0.went places p few
      ∙ ap (λ (ps : List ℕ). names ps p || names places p) (ap (λ (u : View). u.went) (m.founded.each n at.0 at.1).view)

  gone_names : (p : ℕ) → p < 16 → gone_in v p ≡ names places p
  gone_names p few = elim (cases_Bool (gone_in v p)) [
    | inl is ↦ let at = gone_some v p is in is ∙ sym (sym (went_names at.1.0 p at.1.1 few) ∙ at.1.2)
    | inr none ↦
        let least = (valid_arrays s 0 m.valid).0 in
        let some : 0 < v.state.made = omega (arith, least, made) in
        none ∙ sym (sym (went_names 0 p some few) ∙ gone_not v p 0 few some none)
  ]

  -- whoever is marked was left out, or has refused a call since
  pub marked_for : (w : Raid) (b c : RackView) → Mends v w b c → (p : ℕ) → is_current s p ≡ true → is_current w.state p ≡ false
      → (names places p ≡ true) ⊎ HasFault b c p
  marked_for w b c mends p current off = elim (cases_Bool (names places p)) [
    | inl out ↦ inl out
    | inr kept ↦
        let left : is_left v p ≡ true =
        and_from (is_current v.state p) (not (gone_in v p)) (ap (λ (k : State). is_current k p) state ∙ current) (ap not (gone_names p (few_place p current) ∙ kept)) in
        inr (mends.moves.cause p left (lost_so (is_current w.state p) (not (gone_in w p)) off))
  ]

  module _ (same : (p : ℕ) → names places p ≡ names absent p) (w : Raid) (b c : RackView) (mends : Mends v w b c) where
    -- the absent places alone went in the arrays
    pub went_is : (n p : ℕ) → n < v.state.made → p < 16 → has_gone (v.arrays n) p ≡ names absent p
    went_is n p low few = went_names n p low few ∙ same p

    pub gone_is : (p : ℕ) → p < 16 → gone_in v p ≡ names absent p
    gone_is p few = gone_names p few ∙ same p

    -- where none is absent, whoever went is marked
    pub all_marked : absent ≡ [] → AreMarked v
    all_marked none p current =
        gone_is p (few_place p (subst (λ (k : State). is_current k p ≡ true) state current)) ∙ ap (λ (ps : List ℕ). names ps p) none

    -- and else somebody isn't
    pub some_unmarked : (absent ≡ [] → ⊥) → AreMarked v → ⊥
    some_unmarked some are =
        let one = named absent some in
        let p = one.0 in
        let current = (and_parts (is_none (seat_of t p)) (is_current s p) (sym (m.absent_is p) ∙ one.1)).1 in
        both_ways (gone_in v p) (are p (ap (λ (k : State). is_current k p) state ∙ current)) (gone_is p (few_place p current) ∙ one.1)
      where
        named : (ps : List ℕ) → (ps ≡ [] → ⊥) → (p : ℕ) × (names ps p ≡ true)
        named [] some = absurd (some refl)
        named (p ∷ ps) some = (p, names_first p ps)

    pub marks_absent : ((place : ℕ) → HasFault b c place → ⊥) → (p : ℕ) → is_current w.state p ≡ (is_current s p && not (names absent p))
    marks_absent quiet p = elim (cases_Bool (is_current w.state p)) [
      | inl on ↦
          let current : is_current s p ≡ true = subst (λ (k : State). is_current k p ≡ true) state (mends.moves.book.current p on) in
          let few = few_place p current in
          elim (cases_Bool (names absent p)) [
            | inl missing ↦ absurd (both_ways (is_current w.state p) (mends.marked p (gone_is p few ∙ missing)) on)
            | inr here ↦ on ∙ sym (and_from (is_current s p) (not (names absent p)) current (ap not here))
          ]
      | inr off ↦ elim (cases_Bool (is_current s p && not (names absent p))) [
        | inr neither ↦ off ∙ sym neither
        | inl both ↦
            let parts = and_parts (is_current s p) (not (names absent p)) both in
            elim (marked_for w b c mends p parts.0 off) [
              | inl out ↦ absurd (both_ways (not (names absent p)) (ap not (sym (same p) ∙ out)) parts.1)
              | inr fault ↦ absurd (quiet p fault)
            ]
      ]
    ]

-- calls in which no disk refused one mark nobody
pub marks_still : (p q : ℕ → Bool) (v w : Raid) (b c : RackView) → RaidRuns p q v w b c → IsHeeded v → IsHeeded w → ((place : ℕ) → HasFault b c place → ⊥)
    → (place : ℕ) → is_current w.state place ≡ is_current v.state place
marks_still p q v w b c runs before after quiet place = elim (cases_Bool (is_current w.state place)) [
  | inl on ↦ on ∙ sym (runs.book.current place on)
  | inr off ↦ elim (cases_Bool (is_current v.state place)) [
    | inr none ↦ off ∙ sym none
    | inl was ↦ elim (cases_Bool (is_left w place)) [
      | inl still ↦ absurd (both_ways (is_current w.state place) off (and_parts (is_current w.state place) (not (gone_in w place)) still).0)
      | inr lost ↦ absurd (quiet place (runs.caused.cause place (heeded_left v place before was) lost))
    ]
  ]
]
