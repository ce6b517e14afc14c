-- Members by position, and targets on them.
use Rattle.std.proofs.Common.{◌≡◌, ℕ, zero, suc, ◌+◌, ◌<◌, Bool, true, false, ◌==◌, ◌&&◌, List, [], ◌∷◌, map, take, length, Option, Some, None, refl, sym, ap, subst, inl, inr, eq-eqb, eqb-true, take_all, arith}
use Rattle.std.proofs.lemmas.Bool.{both_ways}
use Rattle.rack.specs.Seen.{Image}
use Rattle.array_image.specs.Places.{member_slice, data_sector}
use Rattle.rack.specs.Targets.{Target, is_at, look}
use Rattle.array_image.specs.Stripes.{Layout, width, sector_in, position_in}
use Rattle.array_image.specs.Arrays.{Member, Shape}
use Rattle.array_image.specs.Even.{AreEven}
use Rattle.array_image.specs.Held.{Among, source_in}
use Rattle.rack.specs.Sequences.{IsPayload}
use Rattle.array_model.specs.Rows.{RowChange, written, source_at, sector_at, part_at, IsPlain, target_on}
use Rattle.array_model.proofs.Looking.{look_payload, payload_look}

both_true : (p q : Bool) → (p && q) ≡ true → (p ≡ true) × (q ≡ true)
both_true true q is = (refl, is)
both_true false q is = absurd (both_ways false refl is)

and_true : (p q : Bool) → p ≡ true → q ≡ true → (p && q) ≡ true
and_true true q is also = also
and_true false q is also = is

pub at_is : (d t : ℕ) (x : Target) → is_at d t x ≡ true → (d ≡ x.disk) × (t ≡ x.sector)
at_is d t x is =
    let parts = both_true (x.disk == d) (x.sector == t) is in
    (sym (eqb-true x.disk d parts.0), sym (eqb-true x.sector t parts.1))

pub is_at_own : (x : Target) → is_at x.disk x.sector x ≡ true
is_at_own x = and_true (x.disk == x.disk) (x.sector == x.sector) (eq-eqb x.disk x.disk refl) (eq-eqb x.sector x.sector refl)

-- a payload for members
pub payload_among : (n sector : ℕ) (v : List ℕ) (members : List Member) (d t : ℕ) (u : List ℕ) → IsPayload (map (target_on n sector v) members) d t u
    → (m : Member) × Among m members × (d ≡ member_slice m.place n) × (t ≡ data_sector + sector) × (u ≡ v)
payload_among n sector v [] d t u is = absurd is
payload_among n sector v (m ∷ others) d t u (inl here) = let at = at_is d t (target_on n sector v m) here.0 in (m, inl refl, at.0, at.1, here.1)
payload_among n sector v (m ∷ others) d t u (inr later) = let rest = payload_among n sector v others d t u later in (rest.0, inr rest.1, rest.2, rest.3, rest.4)

pub among_payload : (n sector : ℕ) (v : List ℕ) (members : List Member) (m : Member) → Among m members
    → IsPayload (map (target_on n sector v) members) (member_slice m.place n) (data_sector + sector) v
among_payload n sector v [] m among = absurd among
among_payload n sector v (first ∷ others) m (inl here) =
    inl (subst (λ (o : Member). is_at (member_slice o.place n) (data_sector + sector) (target_on n sector v first) ≡ true) (sym here) (is_at_own (target_on n sector v first)), refl)
among_payload n sector v (first ∷ others) m (inr later) = inr (among_payload n sector v others m later)

-- rows that agree still do once targets are written that owe it
pub change_even : (shape : Shape) (n resync x : ℕ) (from : List ℕ) (cur : Image) (xs : List Target) → RowChange shape n resync x from cur xs
    → (rows : ℕ) → AreEven shape n rows cur → AreEven shape n rows (written xs cur)
change_even shape n resync x from cur xs change rows even y inside synced counts = change.even y counts (even y inside synced counts)

-- where all payloads for a sector are one, it is the last
pub look_one : (xs : List Target) (d t : ℕ) (v : List ℕ) → IsPayload xs d t v → ((u : List ℕ) → IsPayload xs d t u → u ≡ v) → look xs d t ≡ Some v
look_one xs d t v is one =
    let Goal : Option (List ℕ) → Type 0 = λ o. look xs d t ≡ o → o ≡ Some v in
    let goal : Goal (look xs d t) =
    elim (look xs d t) as Goal [
      | None ↦ λ none. absurd (payload_look xs d t v none is)
      | Some u ↦ λ some. ap Some (one u (look_payload xs d t u some))
    ] in
    goal refl

pub part_among : (k : ℕ) (members : List Member) → k < length members → Among (part_at k members) members
part_among k [] inside = absurd (omega (arith, inside))
part_among zero (m ∷ others) inside = inl refl
part_among (suc k) (m ∷ others) inside = inr (part_among k others (omega (arith, inside)))

pub among_part : (members : List Member) (m : Member) → Among m members → (k : ℕ) × (k < length members) × (m ≡ part_at k members)
among_part [] m among = absurd among
among_part (first ∷ others) m (inl here) = (zero, omega arith, here)
among_part (first ∷ others) m (inr later) = let rest = among_part others m later in (suc rest.0, omega (arith, rest.1), rest.2)

-- the layout of an array that doesn't reshape
pub plain_sector : (shape : Shape) (layout : Layout) (y : ℕ) → IsPlain shape layout → sector_at shape y ≡ sector_in layout y
plain_sector shape layout y plain = ap (λ (l : Layout). sector_in l y) (plain.layout_is y)

pub plain_source : (shape : Shape) (layout : Layout) (y : ℕ) → IsPlain shape layout → source_at shape y ≡ source_in layout (sector_in layout y) (position_in layout y) shape.members
plain_source shape layout y plain = ap (λ (l : Layout). source_in l (sector_in l y) (position_in l y) shape.members) (plain.layout_is y)

pub plain_take : (shape : Shape) (layout : Layout) → IsPlain shape layout → take (width layout) shape.members ≡ shape.members
plain_take shape layout plain = take_all (width layout) shape.members (omega (arith, plain.count))
