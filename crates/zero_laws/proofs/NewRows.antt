-- What the members of a young array hold once rows of it are zeroed: what they held, and zeros in the sectors that the array gets.
use Rattle.std.proofs.Common.{◌≡◌, ◌⊎◌, ℕ, ◌+◌, ◌<◌, ◌≤◌, Bool, false, nat_lt, List, [], ◌∷◌, map, Option, Some, None, refl, sym, ap, subst, ◌∙◌, inl, inr, arith}
use Rattle.std.proofs.lemmas.Bool.{cases_Bool}
use Rattle.std.specs.Option.{option_map_or}
use Rattle.rack.specs.Values.{MayLeave, only, Values}
use Rattle.rack.specs.Seen.{Image, RackView}
use Rattle.pool_state.specs.declared.contents.State.{State}
use Rattle.parity.specs.Xor.{zeros}
use Rattle.raid_map.specs.LeftSymmetric.{row_at}
use Rattle.array_image.specs.Arrays.{layout_at, Member, replayed, Shape, value_by}
use Rattle.array_image.specs.Held.{Among, current_in, held_by, held_of, IsSynced}
use Rattle.array_image.specs.Left.{IsLeft, Picks, reading}
use Rattle.array_image.specs.Marks.{lower, lowered, unless_gone}
use Rattle.array_image.specs.Places.{data_sector, member_slice}
use Rattle.array_image.specs.Spent.{spent_by, wanting}
use Rattle.array_image.specs.Stripes.{position_in, width}
use Rattle.array_image.proofs.Frames.{value_by_data}
use Rattle.array_image.proofs.Sources.{source_counts, source_value}
use Rattle.array_model.specs.ArrayCalls.{IncludesSpent}
use Rattle.array_model.specs.Members.{Notes}
use Rattle.array_model.specs.Rows.{sector_at, source_at}
use Rattle.array_model.specs.Says.{KeepsSource, ShapeInvariant}
use Rattle.array_model.specs.View.{IsArray, shape_of, View}
use Rattle.array_model.proofs.Keeping.{reading_live, reading_outside}
use Rattle.array_model.proofs.Noting.{laid_out, shape_noted}
use Rattle.array_model.proofs.Spared.{at_most_one, wanting_lost, wanting_take}
use Rattle.sync_laws.proofs.Owed.{source_wants}

-- a sector whose source is there has its value
own_value : (shape : Shape) (c : Image) (n y : ℕ) (m : Member) → source_at shape y ≡ Some m
    → value_by shape c n y ≡ c (member_slice m.place n) (data_sector + sector_at shape y)
unfolding value_by
own_value shape c n y m is = (source_value (layout_at shape y) c n (sector_at shape y) (position_in (layout_at shape y) y) shape.members m is).1

-- whoever isn't lost is among those that are left
among_left : (lost : ℕ → Bool) (members : List Member) (m : Member) → Among m members → lost m.place ≡ false → Among m (map (lower lost) members)
among_left lost [] m among left = absurd among
among_left lost (first ∷ others) m (inr later) left = inr (among_left lost others m later left)
among_left lost (first ∷ others) m (inl here) left =
    inl (here ∙ sym (ap (λ b. unless_gone b first) (ap (λ (o : Member). lost o.place) (sym here) ∙ left)))

-- A sector that is zeros by what a stop leaves and by the members that are left, and so by its values.
pub record HoldsZeros (n : ℕ) (durable noted : Shape) (vals : ℕ → Values) (b : RackView) (y : ℕ) : Type 0 where
  pub value : (vals y).current ≡ zeros 512
  pub current : value_by noted (current_in b.held) n y ≡ zeros 512
  pub stops : (r : Image) → IsLeft b r → value_by durable r n y ≡ zeros 512

-- The array z is `next` but for the places that went. Where its members' sectors have one value, it holds more sectors: those that are zeros.
module _ (s : State) (n rows : ℕ) (vary : Bool) (next z : View) (vals : ℕ → Values) (old spent : ℕ → Bool) (a b : RackView) (next_array : IsArray next) (notes : Notes next z a b)
    (holds : ShapeInvariant s n (shape_of next) (shape_of z) rows vary vals old b) (covers : IncludesSpent z spent) (single : IsSynced (shape_of z) n b.held)
    (either : (y : ℕ) → spent y ≡ false → (old y ≡ false) ⊎ HoldsZeros n (shape_of next) (shape_of z) vals b y) where
  noted : shape_of z ≡ lowered notes.lost (shape_of next)
  noted = shape_noted next z a b notes

  -- contents as they read, once replayed
  abbrev r : Image
  r = replayed b.sectors (reading b)

  picks : Picks b (reading b)
  picks = record { picks = λ d t live. inl (reading_live b d t live); inside = λ d t out. reading_outside b d t out }

  left : IsLeft b r
  left = (reading b, picks, λ d t. refl)

  -- whoever is left has there what it holds
  reads : (m : Member) (t : ℕ) → Among m (shape_of z).members → t < m.reach → r (member_slice m.place n) (data_sector + t) ≡ current_in b.held (member_slice m.place n) (data_sector + t)
  reads m t among counts = holds.still (reading b) picks m t among counts ∙ reading_live b (member_slice m.place n) (data_sector + t) (holds.open_left m t among counts)

  -- where a sector's source is wanting, nobody else is
  all_left : (y : ℕ) → spent y ≡ false → source_at (shape_of next) y ≡ None → (m : Member) → Among m (shape_of next).members → sector_at (shape_of next) y < m.reach
      → Among m (shape_of z).members
  all_left y alive none m among counts =
      let shape = shape_of next in
      let t = sector_at shape y in
      let layout = layout_at shape y in
      let wants = source_wants layout t (position_in layout y) shape.members ((laid_out next next_array).fits y) none in
      let more = wanting_take (width layout) t shape.members in
      let fewer : wanting t (map (lower notes.lost) shape.members) ≤ 1 =
      at_most_one (wanting t (map (lower notes.lost) shape.members)) (nat_lt (row_at t) z.resync)
      (subst (λ (sh : Shape). spent_by sh z.resync y ≡ false) noted (covers y alive)) in
      elim (cases_Bool (notes.lost m.place)) [
        | inl gone ↦ let lost_more = wanting_lost notes.lost t shape.members m among counts gone in absurd (omega (arith, wants, more, fewer, lost_more))
        | inr here ↦ subst (λ (sh : Shape). Among m sh.members) (sym noted) (among_left notes.lost shape.members m among here)
      ]

  within : (y : ℕ) → spent y ≡ false → (u : List ℕ) → MayLeave (held_by (shape_of next) b.held n y) u → KeepsSource (shape_of next) (shape_of z) y → MayLeave (vals y) u
  unfolding held_by
  within y alive u may keeps = elim (either y alive) [
    | inl was ↦ holds.within y was u may keeps
    | inr new ↦
        let shape = shape_of next in
        let t = sector_at shape y in
        let Goal : Option Member → Type 0 = λ o. source_at shape y ≡ o
        → MayLeave (option_map_or (held_of b.held n t) o (only (value_by shape (current_in b.held) n y))) u
        → MayLeave (vals y) u in
        let goal : Goal (source_at shape y) = elim (source_at shape y) as Goal [
          | None ↦ λ none may_be. elim may_be [
            | inl is ↦
                inl (is
                ∙ value_by_data shape (current_in b.held) r n y (λ m among counts. sym (reads m t (all_left y alive none m among counts) counts))
                ∙ new.stops r left ∙ sym new.value)
            | inr older ↦ absurd older
          ]
          | Some m ↦ λ is may_be.
              let found = source_counts shape y m is in
              let among = keeps m is in
              inl (single m t among found.counts u may_be ∙ sym (reads m t among found.counts) ∙ sym (own_value shape r n y m is) ∙ new.stops r left ∙ sym new.value)
        ] in
        goal refl may
  ]

  pub wider : ShapeInvariant s n (shape_of next) (shape_of z) rows vary vals spent b
  wider = record {
    open_slices = holds.open_slices;
    open_left = holds.open_left;
    says = λ i stop.
        let says = holds.says i stop in
        record {
          shape_is = says.shape_is;
          value = λ y alive. elim (either y alive) [
            | inl was ↦ says.value y was
            | inr new ↦ inl (new.stops i stop ∙ sym new.value)
          ];
          is_sound = says.is_sound;
        };
    still = holds.still;
    within = within;
    current = λ y alive. elim (either y alive) [
      | inl was ↦ holds.current y was
      | inr new ↦ new.current ∙ sym new.value
    ];
    sized = holds.sized;
    even = holds.even;
    settled = λ steady. single;
  }
