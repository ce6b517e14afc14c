-- What a step of an array owes, by a commit of sectors of its members, and how its targets are looked up.
use Rattle.std.proofs.Common.{◌≡◌, ◌⊎◌, ℕ, zero, suc, ◌+◌, ◌<◌, Bool, true, false, nat_lt, if◌then◌else◌, List, [], ◌∷◌, ◌++◌, take, length, Option, Some, None, option_map, refl, sym, ap, subst, ◌∙◌, inl, inr, arith}
use Rattle.std.specs.Option.{option_or}
use Rattle.rack.specs.Values.{Values}
use Rattle.rack.specs.Seen.{Image, RackView}
use Rattle.rack.specs.Targets.{Target, look}
use Rattle.rack.specs.Sequences.{IsPayload}
use Rattle.rack.proofs.Phases.{look-append}
use Rattle.md_super.specs.declared.superblock.Super.{Super}
use Rattle.pool_state.specs.declared.contents.State.{State}
use Rattle.array_image.specs.Places.{member_slice, data_sector}
use Rattle.array_image.specs.Stripes.{Layout, mirror, parity, width}
use Rattle.array_image.specs.Arrays.{Member, Shape, shape_by, shape_in, value_by}
use Rattle.array_image.specs.Supers.{truth_in}
use Rattle.array_image.specs.Even.{AreEven}
use Rattle.array_image.specs.Held.{Among, first_counting, member_at, source_in}
use Rattle.array_image.specs.Spent.{wanting}
use Rattle.array_model.specs.declared.Seat.{Seat}
use Rattle.array_model.specs.View.{View, shape_of}
use Rattle.array_model.specs.Says.{ImageShowsArray}
use Rattle.array_model.specs.Stages.{AmongTargets}
use Rattle.array_model.specs.ArrayCalls.{KeepsSupers, HasFields}
use Rattle.array_model.specs.Rows.{written, source_at, sector_at}
use Rattle.array_model.proofs.Parts.{is_at_own}

-- an array with another truth of its members, other seats and other rows left to resync
abbrev pub restated : View → (events offset resync : ℕ) → List Seat → Bool → View
restated v events offset resync seats marked = record v {
  truth = record v.truth { events = events; resync_offset = offset };
  seats = seats;
  resync = resync;
  marked = marked;
}

-- contents say the array before a step or after it
abbrev pub SaysEither : State → (v g : View) → RackView → (vals : ℕ → Values) → (spent : ℕ → Bool) → Image → Type 0
SaysEither s v g a vals spent r =
    (ImageShowsArray s v.number (shape_of v) vals spent r × KeepsSupers v.number a r)
    ⊎ (ImageShowsArray s v.number (shape_of g) vals spent r × HasFields s v.number g.truth r)

-- What a step owes, where g is the shape after it and `resync` the first row that it leaves: with its targets written, its members
-- give each sector what they gave, by the sectors that gave it, and rows agree.
pub record RowMoves (v : View) (g : Shape) (resync : ℕ) (spent : ℕ → Bool) (cur : Image) (own_data : List Target) : Type 0 where
  pub counted :
      (m : Member) (t : ℕ) → Among m g.members → t < m.reach
      → ((o : Member) × Among o (shape_of v).members × (o.place ≡ m.place) × (t < o.reach))
      ⊎ ((u : List ℕ) × (look own_data (member_slice m.place v.number) (data_sector + t) ≡ Some u))
  pub value : (y : ℕ) → spent y ≡ false → value_by g (written own_data cur) v.number y ≡ value_by (shape_of v) cur v.number y
  pub source :
      (y : ℕ) (m : Member) → spent y ≡ false → source_at g y ≡ Some m
      → ((o : Member) × (source_at (shape_of v) y ≡ Some o) × (o.place ≡ m.place) × (sector_at g y ≡ sector_at (shape_of v) y)
      × (look own_data (member_slice m.place v.number) (data_sector + sector_at g y) ≡ None))
      ⊎ (look own_data (member_slice m.place v.number) (data_sector + sector_at g y) ≡ Some (value_by (shape_of v) cur v.number y))
  pub even : AreEven (shape_of v) v.number v.resync cur → AreEven g v.number resync (written own_data cur)

-- where contents say a shape of an array, it has a truth
pub shaped_truth : (s : State) (r : Image) (n : ℕ) (shape : Shape) → shape_in s r n ≡ Some shape → (t : Super) × (truth_in s r n ≡ Some t)
shaped_truth s r n shape is =
    let Goal : Option Super → Type 0 = λ o. truth_in s r n ≡ o → option_map (shape_by s r n) o ≡ Some shape → (t : Super) × (truth_in s r n ≡ Some t) in
    let goal : Goal (truth_in s r n) = elim (truth_in s r n) as Goal [ None ↦ λ none some. cc | Some t ↦ λ found some. (t, found) ] in
    goal refl is

-- ---- targets

pub among_payload : (xs : List Target) (x : Target) → AmongTargets x xs → IsPayload xs x.disk x.sector x.bytes
among_payload [] x among = absurd among
among_payload (y ∷ ys) x (inl here) = subst (λ (z : Target). IsPayload (y ∷ ys) z.disk z.sector z.bytes) (sym here) (inl (is_at_own y, refl))
among_payload (y ∷ ys) x (inr later) = inr (among_payload ys x later)

pub look_first : (xs ys : List Target) (d t : ℕ) → look ys d t ≡ None → look (xs ++ ys) d t ≡ look xs d t
look_first xs ys d t none = look-append xs ys d t ∙ ap (λ o. option_or o (look xs d t)) none

pub look_last : (xs ys : List Target) (d t : ℕ) → look xs d t ≡ None → look (xs ++ ys) d t ≡ look ys d t
look_last xs ys d t none = look-append xs ys d t ∙ ap (option_or (look ys d t)) none ∙ same (look ys d t)
  where
    same : (o : Option (List ℕ)) → option_or o None ≡ o
    same None = refl
    same (Some u) = refl

first_wants : (t : ℕ) (members : List Member) → 0 < length members → first_counting t members ≡ None → 0 < wanting t members
unfolding first_counting
first_wants t [] some none = absurd (omega (arith, some))
first_wants t (m ∷ others) some none =
    let Goal : Bool → Type 0 = λ b. (if b then Some m else first_counting t others) ≡ None → 0 < (if b then wanting t others else suc (wanting t others)) in
    let goal : Goal (nat_lt t m.reach) = elim (nat_lt t m.reach) as Goal [ true ↦ λ is. cc | false ↦ λ is. omega arith ] in
    goal none

at_wants : (t position : ℕ) (members : List Member) → position < length members → member_at t position members ≡ None → 0 < wanting t members
unfolding member_at
at_wants t position [] inside none = absurd (omega (arith, inside))
at_wants t zero (m ∷ others) inside none =
    let Goal : Bool → Type 0 = λ b. (if b then Some m else None) ≡ None → 0 < (if b then wanting t others else suc (wanting t others)) in
    let goal : Goal (nat_lt t m.reach) = elim (nat_lt t m.reach) as Goal [ true ↦ λ is. cc | false ↦ λ is. omega arith ] in
    goal none
at_wants t (suc position) (m ∷ others) inside none = more (nat_lt t m.reach) (at_wants t position others (omega (arith, inside)) none)
  where
    more : (b : Bool) → 0 < wanting t others → 0 < (if b then wanting t others else suc (wanting t others))
    more true some = some
    more false some = omega arith

pub source_wants : (layout : Layout) (t position : ℕ) (members : List Member) → position < length (take (width layout) members) → source_in layout t position members ≡ None
    → 0 < wanting t (take (width layout) members)
source_wants (mirror n) t position members inside none = first_wants t (take n members) (omega (arith, inside)) none
source_wants (parity n) t position members inside none = at_wants t position (take n members) inside none

pub none_some : {u : List ℕ} → None ≡ Some u → ⊥
none_some same = cc

pub none_or : (o : Option (List ℕ)) → ((u : List ℕ) → o ≡ Some u → ⊥) → o ≡ None
none_or None lacks = refl
none_or (Some u) lacks = absurd (lacks u refl)
