-- Views before and after losses.
use Rattle.std.proofs.Common.{◌≡◌, ◌⊎◌, ℕ, suc, ◌<◌, ◌≤◌, Bool, true, false, ◌==◌, eq-eqb, ◌||◌, ◌&&◌, nat_le, if◌then◌else◌, List, [], ◌∷◌, map, slice_get, Option, Some, None, option_map, unwrap_or, refl, sym, ap, ap₂, subst, ◌∙◌, inl, inr, arith}
use Rattle.std.proofs.lemmas.Bool.{both_ways, lt-leb, leb-false}
use Rattle.std.proofs.lemmas.List.Folds.{list_any-from_Any}
use Rattle.std.specs.List.{range_with_len, list_any}
use Rattle.rack.specs.Seen.{RackView, SameRack}
use Rattle.rack.specs.Joins.{rose_later, rose_early}
use Rattle.md_super.specs.declared.superblock.Super.{Super}
use Rattle.md_super.specs.Profile.{is_mirror}
use Rattle.array_image.specs.Arrays.{Member, Shape, place_with}
use Rattle.array_image.specs.Marks.{unless_gone, lower, lowered}
use Rattle.array_image.proofs.Frames.{map_same}
use Rattle.array_model.specs.declared.Seat.{Seat}
use Rattle.array_model.specs.declared.Seat.TheVariants.{Missing}
use Rattle.array_model.specs.View.{View, HasGeometry, IsSameArray, LosesPlaces, HasFault, seat_unless, is_missing_seat, member_by_seat, place_at, member_on, shape_of, present, may_vary, has_gone}
use Rattle.array_model.specs.Members.{members_of, IsSameButSeats, Notes}

-- ---- nothing changed

unless_nobody : (place : ℕ) (o : Option Seat) → o ≡ option_map (seat_unless (λ p. false) place) o
unless_nobody place None = refl
unless_nobody place (Some seat) = refl

pub loses_nobody : (v : View) → LosesPlaces v v (λ place. false)
loses_nobody v = record { seats = λ n. unless_nobody (place_at v n) (slice_get v.seats n); went = λ place. refl }

pub same_geometry : (t : Super) → HasGeometry t t
same_geometry t = record { set = refl; level = refl; size = refl; disks = refl; roles = refl; features = refl; position = refl }

pub same_array : (v : View) → IsSameArray v v
same_array v = record { number = refl; geometry = same_geometry v.truth; devices = refl; resync = refl; young = refl }

pub same_view : (v : View) → IsSameButSeats v v
same_view v = record { number = refl; truth = refl; devices = refl; resync = refl; young = refl; marked = refl }

pub same_view_then : (u v w : View) → IsSameButSeats u v → IsSameButSeats v w → IsSameButSeats u w
same_view_then u v w one two = record {
  number = two.number ∙ one.number;
  truth = two.truth ∙ one.truth;
  devices = two.devices ∙ one.devices;
  resync = two.resync ∙ one.resync;
  young = two.young ∙ one.young;
  marked = two.marked ∙ one.marked;
}

pub notes_none : (v : View) (a b : RackView) → Notes v v a b
notes_none v a b = record {
  same = same_view v;
  lost = λ place. false;
  loses = loses_nobody v;
  cause = λ place none. absurd (both_ways false refl none);
}

-- ---- losses in a row

unless_twice : (f g : ℕ → Bool) (place : ℕ) (o : Option Seat)
    → option_map (seat_unless g place) (option_map (seat_unless f place) o) ≡ option_map (seat_unless (λ p. g p || f p) place) o
unless_twice f g place None = refl
unless_twice f g place (Some seat) = ap Some (both (g place) (f place))
  where
    both : (p q : Bool) → (if p then Missing else if q then Missing else seat) ≡ (if p || q then Missing else seat)
    both true q = refl
    both false q = refl

or_assoc : (p q r : Bool) → (p || (q || r)) ≡ ((p || q) || r)
or_assoc true q r = refl
or_assoc false q r = refl

-- which of two tests passed
pub either_of : (p q : Bool) → (p || q) ≡ true → (p ≡ true) ⊎ (q ≡ true)
either_of true q is = inl refl
either_of false q is = inr is

pub fault_early : (a b c : RackView) (place : ℕ) → SameRack b c → HasFault a b place → HasFault a c place
fault_early a b c place stays fault = (fault.0, fault.1, rose_early a b c fault.0 stays fault.2)

pub fault_later : (a b c : RackView) (place : ℕ) → SameRack a b → HasFault b c place → HasFault a c place
fault_later a b c place stays fault = (fault.0, fault.1, rose_later a b c fault.0 stays fault.2)

pub loses_then : (u v w : View) (f g : ℕ → Bool) → v.truth ≡ u.truth → LosesPlaces u v f → LosesPlaces v w g → LosesPlaces u w (λ place. g place || f place)
loses_then u v w f g truth one two = record {
  seats = λ n.
      two.seats n
      ∙ ap₂ (λ (t : Super) o. option_map (seat_unless g (unwrap_or (place_with t.roles.items n) 16)) o) truth (one.seats n)
      ∙ unless_twice f g (place_at u n) (slice_get u.seats n);
  went = λ place. two.went place ∙ ap (λ b. g place || b) (one.went place) ∙ or_assoc (g place) (f place) (has_gone u place);
}

pub notes_then : (u v w : View) (a b c : RackView) → SameRack a b → SameRack b c → Notes u v a b → Notes v w b c → Notes u w a c
notes_then u v w a b c first second one two = record {
  same = same_view_then u v w one.same two.same;
  lost = λ place. two.lost place || one.lost place;
  loses = loses_then u v w one.lost two.lost one.same.truth one.loses two.loses;
  cause = λ place is.
      elim (either_of (two.lost place) (one.lost place) is) [
        | inl later ↦ fault_later a b c place first (two.cause place later)
        | inr early ↦ fault_early a b c place second (one.cause place early)
      ];
}

-- ---- the shape without those that are lost

member_lost : (size place : ℕ) (lost : Bool) (o p : Option Seat) → p ≡ option_map (λ seat. if lost then Missing else seat) o → member_by_seat size place p ≡ unless_gone lost (member_by_seat size place o)
member_lost size place lost o p is = ap (member_by_seat size place) is ∙ by lost o
  where
    by : (lost : Bool) (o : Option Seat) → member_by_seat size place (option_map (λ seat. if lost then Missing else seat) o) ≡ unless_gone lost (member_by_seat size place o)
    by true None = refl
    by false None = refl
    by true (Some seat) = refl
    by false (Some seat) = refl

pub member_then : (v w : View) (lost : ℕ → Bool) (n : ℕ) → w.truth ≡ v.truth → LosesPlaces v w lost → member_on w n ≡ lower lost (member_on v n)
member_then v w lost n truth loses =
    ap (λ (t : Super). member_by_seat t.size (unwrap_or (place_with t.roles.items n) 16) (slice_get w.seats n)) truth
    ∙ member_lost v.truth.size (place_at v n) (lost (place_at v n)) (slice_get v.seats n) (slice_get w.seats n) (loses.seats n)

map_twice : {X Y Z : Type 0} (f : Y → Z) (g : X → Y) (xs : List X) → map f (map g xs) ≡ map (λ x. f (g x)) xs
map_twice f g [] = refl
map_twice f g (x ∷ xs) = ap (λ ys. f (g x) ∷ ys) (map_twice f g xs)

pub members_then : (v w : View) (lost : ℕ → Bool) → w.truth ≡ v.truth → LosesPlaces v w lost → members_of w ≡ map (lower lost) (members_of v)
members_then v w lost truth loses =
    ap (λ (t : Super). map (member_on w) (range_with_len 0 t.raid_disks)) truth
    ∙ map_same (member_on w) (λ n. lower lost (member_on v n)) (range_with_len 0 v.truth.raid_disks) (λ n. member_then v w lost n truth loses)
    ∙ sym (map_twice (lower lost) (member_on v) (range_with_len 0 v.truth.raid_disks))

-- the shape by its members
abbrev pub shape_with : Super → List Member → Shape
shape_with t members = record (shape_of (record { number = 0; truth = t; seats = []; devices = []; went = []; resync = 0; young = false; marked = false })) { members = members }

pub shape_is : (v : View) → shape_of v ≡ shape_with v.truth (members_of v)
unfolding shape_of
shape_is v = refl

pub shape_members : (v : View) → (shape_of v).members ≡ members_of v
unfolding shape_of
shape_members v = refl

pub shape_then : (v w : View) (lost : ℕ → Bool) → w.truth ≡ v.truth → LosesPlaces v w lost → shape_of w ≡ lowered lost (shape_of v)
unfolding shape_of
shape_then v w lost truth loses =
    ap₂ shape_with truth (members_then v w lost truth loses)

-- ---- who is left

-- no seat is taken, so no more members are left
pub fewer_seats : (ws vs : List Seat) (f : ℕ → Seat → Seat) → ((n : ℕ) (s : Seat) → (f n s ≡ s) ⊎ (f n s ≡ Missing))
    → ((n : ℕ) → slice_get ws n ≡ option_map (f n) (slice_get vs n))
    → present ws ≤ present vs
fewer_seats [] vs f or same = omega arith
fewer_seats (w ∷ ws) [] f or same = let bad : Some w ≡ None = same 0 in absurd (cc)
fewer_seats (w ∷ ws) (v ∷ vs) f or same =
    let rest = fewer_seats ws vs (λ n. f (suc n)) (λ n. or (suc n)) (λ n. same (suc n)) in
    let head : w ≡ f 0 v = ap (λ o. unwrap_or o w) (same 0) in
    elim (or 0 v) [
      | inl kept ↦ subst (λ s. present (s ∷ ws) ≤ present (v ∷ vs)) (sym (head ∙ kept)) (more (is_missing_seat v) (present ws) (present vs) rest)
      | inr missing ↦ subst (λ s. present (s ∷ ws) ≤ present (v ∷ vs)) (sym (head ∙ missing)) (at_least (is_missing_seat v) (present ws) (present vs) rest)
    ]
  where
    more : (b : Bool) (m n : ℕ) → m ≤ n → (if b then m else suc m) ≤ (if b then n else suc n)
    more true m n low = low
    more false m n low = omega (arith, low)

    at_least : (b : Bool) (m n : ℕ) → m ≤ n → m ≤ (if b then n else suc n)
    at_least true m n low = low
    at_least false m n low = omega (arith, low)

unless_or : (lost : ℕ → Bool) (place : ℕ) (s : Seat) → (seat_unless lost place s ≡ s) ⊎ (seat_unless lost place s ≡ Missing)
unless_or lost place s = by (lost place)
  where
    by : (b : Bool) → ((if b then Missing else s) ≡ s) ⊎ ((if b then Missing else s) ≡ Missing)
    by true = inr refl
    by false = inl refl

pub fewer_left : (v w : View) (lost : ℕ → Bool) → LosesPlaces v w lost → present w.seats ≤ present v.seats
fewer_left v w lost loses = fewer_seats w.seats v.seats (λ n. seat_unless lost (place_at v n)) (λ n. unless_or lost (place_at v n)) loses.seats

-- what may vary still may
pub vary_then : (v w : View) (lost : ℕ → Bool) → w.truth ≡ v.truth → w.marked ≡ v.marked → LosesPlaces v w lost → may_vary w ≡ false → may_vary v ≡ false
vary_then v w lost truth marked loses steady =
    by v.marked (is_mirror v.truth) (present v.seats) (present w.seats) (fewer_left v w lost loses)
    (ap₂ (λ m (t : Super). m || (is_mirror t && nat_le (present w.seats) 1)) (sym marked) (sym truth) ∙ steady)
  where
    by : (m mirror : Bool) (p q : ℕ) → q ≤ p → (m || (mirror && nat_le q 1)) ≡ false → (m || (mirror && nat_le p 1)) ≡ false
    by true mirror p q low is = absurd (both_ways true is refl)
    by false true p q low is = high_test p (let high = leb-false q 1 is in omega (arith, high, low))
      where
        high_test : (k : ℕ) → 1 < k → nat_le k 1 ≡ false
        high_test k high = lt-leb k 1 high
    by false false p q low is = refl

-- an empty list of places that went was empty before
pub fresh_then : (v w : View) (lost : ℕ → Bool) → LosesPlaces v w lost → w.went ≡ [] → v.went ≡ []
fresh_then v w lost loses none = empty v.went (λ place. sym (ap (λ ps. list_any (λ p. p == place) ps) none ∙ refl) ∙ loses.went place)
  where
    or_none : (p q : Bool) → (p || q) ≡ false → q ≡ false
    or_none true q is = absurd (both_ways true is refl)
    or_none false q is = is

    empty : (ps : List ℕ) → ((place : ℕ) → false ≡ (lost place || list_any (λ p. p == place) ps)) → ps ≡ []
    empty [] same = refl
    empty (p ∷ ps) same = absurd (has p (or_none (lost p) (list_any (λ q. q == p) (p ∷ ps)) (sym (same p))))
      where
        has : (p : ℕ) → list_any (λ q. q == p) (p ∷ ps) ≡ false → ⊥
        has p is = both_ways (list_any (λ q. q == p) (p ∷ ps)) is (list_any-from_Any (λ q. q == p) (p ∷ ps) (0, p, omega arith, refl, eq-eqb p p refl))
