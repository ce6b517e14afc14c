-- What calls in a row make of the book of a pool.
use Rattle.std.proofs.Common.{◌≡◌, ℕ, ◌≤◌, true, false, List, [], ◌∷◌, ◌++◌, Ok, sym, subst, ◌∙◌, ◌⊎◌, inl, inr}
use Rattle.rack.specs.Values.{Values, MayLeave}
use Rattle.rack.specs.Seen.{Image, RackView, SameRack}
use Rattle.rack.specs.Moments.{Leaves}
use Rattle.rack.specs.Joins.{leaves_then, leaves_weaker, stays_then}
use Rattle.pool_state.specs.Sector.{decoded}
use Rattle.pool_state.specs.declared.contents.State.{State}
use Rattle.array_image.specs.States.{is_current}
use Rattle.array_image.specs.Left.{IsInside}
use Rattle.transition_laws.specs.Changes.{Along, along_first, along_last, along_weaker, AreDue, AreKeeping, by, by_joined, Change, changed, due_joined, soil, soil_joined}
use Rattle.transition_laws.specs.Holds.{HoldsBook, IsFrom, IsPromised, Promise, Stands}
use Rattle.raid_laws.specs.Raid.{Raid}
use Rattle.raid_laws.proofs.Over.{or_parts}

-- arrays of which rows are promised aren't soiled
abbrev pub IsFree : Promise → List Change → Type 0
IsFree p xs = (n : ℕ) → p.kept n ≡ true → soil xs n ≡ false

-- a place's own copy of a state is such as copies are to be
abbrev pub OwnsCopies : Promise → State → Type 0
OwnsCopies p t = (q : ℕ) (u : List ℕ) → is_current t q ≡ true → decoded u ≡ Ok (record { state = t; own = q }) → IsFrom p.origin q u

-- of each state that changes lead to
abbrev pub AreOwned : Promise → List Change → Raid → Type 0
AreOwned p [] d = Unit {0}
AreOwned p (x ∷ xs) d = OwnsCopies p (changed x d).state × AreOwned p xs (changed x d)

owned_parts : (p : Promise) (xs ys : List Change) (d : Raid) → AreOwned p (xs ++ ys) d → AreOwned p xs d × AreOwned p ys (by xs d)
owned_parts p [] ys d owned = (tt, owned)
owned_parts p (x ∷ xs) ys d owned = let rest = owned_parts p xs ys (changed x d) owned.1 in ((owned.0, rest.0), rest.1)

-- A promise can be kept over changes of the book d: it soils no array of which rows are promised, their copies are such as copies are to be, and sectors
-- that arrays don't have yet are promised of none, or the arrays stay as they are.
pub record Suits (p : Promise) (xs : List Change) (d : Raid) : Type 0 where
  pub free : IsFree p xs
  pub owned : AreOwned p xs d
  pub growing : (p.growing ≡ true) ⊎ AreKeeping xs d

-- no value is dropped
abbrev pub Grows : (vals now : ℕ → ℕ → Values) → Type 0
Grows vals now = (n y : ℕ) (u : List ℕ) → MayLeave (vals n y) u → MayLeave (now n y) u

-- contents hold one of the books that the changes lead over
abbrev pub HoldsAlong : List Change → Raid → Promise → (ℕ → ℕ → Values) → (ℕ → ℕ) → Image → Type 0
HoldsAlong xs d p vals sectors c = Along xs d (λ u. HoldsBook u p vals sectors c)

-- Calls make some changes of the book d: a stop inside them leaves one of the books that these lead over, and after them the run
-- stands by the last one.
pub record Makes (xs : List Change) (d v w : Raid) (vals now : ℕ → ℕ → Values) (a b : RackView) : Type 0 where
  pub due : AreDue xs d
  pub stays : SameRack a b
  pub back : (p : Promise) → Suits p xs d → IsPromised p w → IsPromised p v
  pub grows : Grows vals now
  pub stops :
      (p : Promise) → Suits p xs d → IsPromised p w → Stands d v p vals a → a.traced
      → Leaves a b (λ c. IsInside a.sectors c → HoldsAlong xs d p now a.sectors c)
  pub after : (p : Promise) → Suits p xs d → IsPromised p w → Stands d v p vals a → Stands (by xs d) w p now b

-- ---- calls in a row

holds_more : (u : Raid) (p : Promise) (vals now : ℕ → ℕ → Values) (sectors : ℕ → ℕ) (c : Image) → Grows vals now → HoldsBook u p vals sectors c → HoldsBook u p now sectors c
holds_more u p vals now sectors c grows holds = record {
  log = holds.log;
  since = holds.since;
  arrays = λ n live low.
      let at = holds.arrays n live low in
      record {
        says = record { shape_is = at.says.shape_is; value = λ y alive. grows n y _ (at.says.value y alive); is_sound = at.says.is_sound };
        rows = at.rows;
        lacks = at.lacks;
      };
}

free_parts : (p : Promise) (xs ys : List Change) → IsFree p (xs ++ ys) → IsFree p xs × IsFree p ys
free_parts p xs ys free = (
  λ n kept. (or_parts (soil xs n) (soil ys n) (sym (soil_joined xs ys n) ∙ free n kept)).0,
  λ n kept. (or_parts (soil xs n) (soil ys n) (sym (soil_joined xs ys n) ∙ free n kept)).1,
)

keeping_parts : (xs ys : List Change) (d : Raid) → AreKeeping (xs ++ ys) d → AreKeeping xs d × AreKeeping ys (by xs d)
keeping_parts [] ys d keeping = (tt, keeping)
keeping_parts (x ∷ xs) ys d keeping = let rest = keeping_parts xs ys (changed x d) keeping.1 in ((keeping.0, rest.0), rest.1)

suits_parts : (p : Promise) (xs ys : List Change) (d : Raid) → Suits p (xs ++ ys) d → Suits p xs d × Suits p ys (by xs d)
suits_parts p xs ys d suits =
    let free = free_parts p xs ys suits.free in
    let owned = owned_parts p xs ys d suits.owned in
    elim suits.growing [
      | inl growing ↦ (record { free = free.0; owned = owned.0; growing = inl growing }, record { free = free.1; owned = owned.1; growing = inl growing })
      | inr keeping ↦
          let parts = keeping_parts xs ys d keeping in (
            record { free = free.0; owned = owned.0; growing = inr parts.0 },
            record { free = free.1; owned = owned.1; growing = inr parts.1 },
          )
    ]

-- what a stop in two calls in a row leaves, by what one leaves in each
pub stops_then : (xs ys : List Change) (d : Raid) (p : Promise) (now last : ℕ → ℕ → Values) (a b c : RackView) → SameRack a b → Grows now last
    → Leaves a b (λ i. IsInside a.sectors i → HoldsAlong xs d p now a.sectors i) → Leaves b c (λ i. IsInside b.sectors i → HoldsAlong ys (by xs d) p last b.sectors i)
    → Leaves a c (λ i. IsInside a.sectors i → HoldsAlong (xs ++ ys) d p last a.sectors i)
stops_then xs ys d p now last a b c stays grows one two =
    leaves_then (λ i. IsInside a.sectors i → HoldsAlong (xs ++ ys) d p last a.sectors i)
    (leaves_weaker (λ i. IsInside a.sectors i → HoldsAlong xs d p now a.sectors i) (λ i. IsInside a.sectors i → HoldsAlong (xs ++ ys) d p last a.sectors i)
    (λ i at inside.
    along_first xs ys d (λ u. HoldsBook u p last a.sectors i)
    (along_weaker xs d (λ u. HoldsBook u p now a.sectors i) (λ u. HoldsBook u p last a.sectors i) (λ u. holds_more u p now last a.sectors i grows) (at inside)))
    one)
    (leaves_weaker (λ i. IsInside b.sectors i → HoldsAlong ys (by xs d) p last b.sectors i) (λ i. IsInside a.sectors i → HoldsAlong (xs ++ ys) d p last a.sectors i)
    (λ i at inside.
    along_last xs ys d (λ u. HoldsBook u p last a.sectors i)
    (subst (λ (sectors : ℕ → ℕ). HoldsAlong ys (by xs d) p last sectors i) (λ k e. stays.sectors e k) (at (λ e t out. inside e t (subst (λ k. k ≤ t) (stays.sectors e) out)))))
    two)

pub makes_then : (xs ys : List Change) (d v w z : Raid) (vals now last : ℕ → ℕ → Values) (a b c : RackView)
    → Makes xs d v w vals now a b → Makes ys (by xs d) w z now last b c → Makes (xs ++ ys) d v z vals last a c
makes_then xs ys d v w z vals now last a b c one two = record {
  due = due_joined xs ys d one.due two.due;
  stays = stays_then one.stays two.stays;
  back = λ p suits promised.
      let parts = suits_parts p xs ys d suits in
      one.back p parts.0 (two.back p parts.1 promised);
  grows = λ n y u may. two.grows n y u (one.grows n y u may);
  stops = λ p suits promised stands traced.
      let parts = suits_parts p xs ys d suits in
      let early = two.back p parts.1 promised in
      let mid = one.after p parts.0 early stands in
      stops_then xs ys d p now last a b c one.stays two.grows (one.stops p parts.0 early stands traced) (two.stops p parts.1 promised mid (one.stays.traced traced));
  after = λ p suits promised stands.
      let parts = suits_parts p xs ys d suits in
      subst (λ (u : Raid). Stands u z p last c) (sym (by_joined xs ys d))
      (two.after p parts.1 promised (one.after p parts.0 (two.back p parts.1 promised) stands));
}
