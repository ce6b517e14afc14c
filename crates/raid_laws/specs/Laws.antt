-- What holds of a rack of arrays at any moment: a stop leaves values that the arrays' sectors hold, and may leave what they read.
use Rattle.std.proofs.Common.{◌≡◌, ℕ, ◌+◌, ◌<◌, Bool, true, false, ◌||◌, nat_lt, if◌then◌else◌, List, [], ◌∷◌, map, take, Some, None, refl, sym, ap, ap₂, subst, ◌∙◌, inl, inr, ltb-true, le-ltb}
use Rattle.std.proofs.lemmas.Bool.{both_ways}
use Rattle.std.specs.Option.{option_map_or}
use Rattle.rack.specs.Values.{Values, MayLeave}
use Rattle.rack.specs.Seen.{Image, RackView, IsLive}
use Rattle.rack.specs.Moments.{IsSound}
use Rattle.slice_rack.specs.Slices.{Slices, disk_of, first_of, sectors_of}
use Rattle.slice_rack.specs.Sliced.{slices_of}
use Rattle.pool_state.specs.declared.contents.State.{State}
use Rattle.array_image.specs.Places.{member_slice, data_sector}
use Rattle.array_image.specs.States.{state_in}
use Rattle.array_image.specs.Stripes.{width, sector_in, position_in, given}
use Rattle.array_image.specs.Arrays.{Member, Shape, column, layout_at, shape_in, value_by, array_in, arrays_in, replayed}
use Rattle.array_image.specs.Held.{Among, current_in}
use Rattle.array_image.proofs.Settled.{among_take}
use Rattle.array_image.proofs.Sources.{held_current}
use Rattle.array_image.specs.Left.{Picks}
use Rattle.log_laws.proofs.Kept.{stands_of, kept_replayed}
use Rattle.array_model.specs.View.{shape_of, spent_in}
use Rattle.array_model.specs.Says.{ImageShowsArray}
use Rattle.raid_laws.specs.Raid.{Raid, is_failed, live_of, spent_of, held_in, IsTracked, InvariantInCall, StopsInside, raid_of}

-- an array's value in contents of a state and a shape
pub array_value : (s : State) (array : ℕ) (shape : Shape) (c : Image) (y : ℕ)
    → state_in c ≡ Some s → shape_in s c array ≡ Some shape → arrays_in c array y ≡ value_by shape c array y
unfolding arrays_in
array_value s array shape c y state is =
    ap (λ o. option_map_or (λ t. array_in t c array y) o []) state ∙ ap (λ o. option_map_or (λ f. value_by f c array y) o []) is

-- contents that say something of an array, and have the state by which they do, give its values
pub says_value : (s : State) (array : ℕ) (shape : Shape) (vals : ℕ → Values) (spent : ℕ → Bool) (c : Image) (y : ℕ)
    → state_in c ≡ Some s → ImageShowsArray s array shape vals spent c → spent y ≡ false → MayLeave (vals y) (arrays_in c array y)
says_value s array shape vals spent c y state says alive =
    subst (MayLeave (vals y)) (sym (array_value s array shape c y state says.shape_is)) (says.value y alive)

-- a sector that isn't spent is of a pool that isn't at its end, and has redundancy
pub live_parts : (v : Raid) (n y : ℕ) → live_of v n y → (is_failed v n ≡ false) × (spent_in (v.arrays n) y ≡ false)
live_parts v n y alive = parts (is_failed v n) (spent_in (v.arrays n) y) alive
  where
    parts : (b c : Bool) → (b || c) ≡ false → (b ≡ false) × (c ≡ false)
    parts true c is = absurd (both_ways true is refl)
    parts false c is = (refl, is)

-- what an array that is told stands for, where it has a sector that isn't spent
pub stood_told : (v : Raid) (x : RackView) (n y : ℕ) → IsTracked v x n → live_of v n y
    → InvariantInCall v.state (shape_of (v.arrays n)) (held_in v x n) (spent_of v n) (λ place. false) v x n
stood_told v x n y is_told alive = is_told.stood (live_parts v n y alive).0

-- what a stop leaves of an array, replayed
pub stood_left : (s : State) (durable : Shape) (vals : ℕ → Values) (spent gone : ℕ → Bool) (v : Raid) (x : RackView) (n : ℕ) (c : Image)
    → InvariantInCall s durable vals spent gone v x n → Picks x c
    → (state_in (replayed x.sectors c) ≡ Some s) × ImageShowsArray s n durable vals spent (replayed x.sectors c)
stood_left s durable vals spent gone v x n c stood picks = (
  kept_replayed s v.number gone x c stood.someone.0 stood.log (stands_of c picks) stood.someone.1 stood.someone.2,
  subst (λ k. ImageShowsArray s k durable vals spent (replayed x.sectors c)) stood.number (stood.holds.shape.says (replayed x.sectors c) (c, picks, λ d t. refl)),
)

-- so it gives a value that the array's sector holds
pub stood_value : (s : State) (durable : Shape) (vals : ℕ → Values) (spent gone : ℕ → Bool) (v : Raid) (x : RackView) (n y : ℕ) (c : Image)
    → InvariantInCall s durable vals spent gone v x n → Picks x c → spent y ≡ false → MayLeave (vals y) (arrays_in (replayed x.sectors c) n y)
stood_value s durable vals spent gone v x n y c stood picks alive =
    let left = stood_left s durable vals spent gone v x n c stood picks in
    says_value s n durable vals spent (replayed x.sectors c) y left.0 left.1 alive

-- contents that agree where members count
abbrev pub AgreeCounted : Shape → ℕ → Image → Image → Type 0
AgreeCounted shape array c e =
    (m : Member) (sector : ℕ) → Among m shape.members → sector < m.reach
    → c (member_slice m.place array) (data_sector + sector) ≡ e (member_slice m.place array) (data_sector + sector)

pub counted_columns : (shape : Shape) (array sector : ℕ) (c e : Image) → AgreeCounted shape array c e
    → (members : List Member) → ((m : Member) → Among m members → Among m shape.members)
    → map (column c array sector) members ≡ map (column e array sector) members
counted_columns shape array sector c e same [] inside = refl
counted_columns shape array sector c e same (m ∷ others) inside =
    let Goal : Bool → Type 0 = λ t. nat_lt sector m.reach ≡ t
    → (if t then Some (c (member_slice m.place array) (data_sector + sector)) else None) ≡ (if t then Some (e (member_slice m.place array) (data_sector + sector)) else None) in
    let goal : Goal (nat_lt sector m.reach) =
    elim (nat_lt sector m.reach) as Goal [
      | true ↦ λ counts. ap Some (same m sector (inside m (inl refl)) (ltb-true sector m.reach counts))
      | false ↦ λ none. refl
    ] in
    ap₂ (λ v vs. v ∷ vs) (goal refl) (counted_columns shape array sector c e same others (λ o among. inside o (inr among)))

-- they give the same values
pub counted_value : (shape : Shape) (array x : ℕ) (c e : Image) → AgreeCounted shape array c e → value_by shape c array x ≡ value_by shape e array x
unfolding value_by
counted_value shape array x c e same =
    let layout = layout_at shape x in
    ap (λ stripe. given layout stripe (position_in layout x))
    (counted_columns shape array (sector_in layout x) c e same (take (width layout) shape.members) (λ m among. among_take (width layout) shape.members m among))

-- contents that read now agree with what members hold now, where they count
now_counted : (v : Raid) (x : RackView) (n : ℕ) (now : Image) → Picks x now
    → InvariantInCall v.state (shape_of (v.arrays n)) (held_in v x n) (spent_of v n) (λ place. false) v x n
    → ((d s : ℕ) → IsLive x x d s → now d s ≡ (x.held d s).current)
    → AgreeCounted (shape_of (v.arrays n)) n (replayed x.sectors now) (current_in x.held)
now_counted v x n now picks stood reads =
    subst (λ k. AgreeCounted (shape_of (v.arrays n)) k (replayed x.sectors now) (current_in x.held)) stood.number
    (λ m sector among counts.
    stood.holds.shape.still now picks m sector among counts
    ∙ reads (member_slice m.place (v.arrays n).number) (data_sector + sector) (stood.holds.shape.open_left m sector among counts))

pub raid_sound : {F : Type 0} {r : ℕ → ℕ} (v : Raid) (x : RackView) → StopsInside x → IsSound x → IsSound (raid_of F r v x)
raid_sound v x inside sound =
    let now = sound.now.0 in
    let picks : Picks x now = record { picks = sound.only_held now sound.now.1; inside = inside x.clock now sound.now.1 } in
    record {
      only_held = λ c stopped n y live.
          let below = stopped.0 in
          subst (MayLeave (held_in v x n y)) (sym (stopped.2 n y))
          (stood_value v.state (shape_of (v.arrays n)) (held_in v x n) (spent_of v n) (λ place. false) v x n y below
          (stood_told v x n y live.is_told live.unspent)
          (record { picks = sound.only_held below stopped.1; inside = inside x.clock below stopped.1 }) live.unspent);
      now = (
        λ n y. arrays_in (replayed x.sectors now) n y,
        (now, sound.now.1, λ n y. refl),
        λ n y live.
            let stood = stood_told v x n y live.is_told live.unspent in
            let shape = shape_of (v.arrays n) in
            let left = stood_left v.state shape (held_in v x n) (spent_of v n) (λ place. false) v x n now stood picks in
            array_value v.state n shape (replayed x.sectors now) y left.0 left.1.shape_is
            ∙ counted_value shape n y (replayed x.sectors now) (current_in x.held) (now_counted v x n now picks stood sound.now.2)
            ∙ sym (held_current shape n x.held y),
      );
    }

-- what stops leave of slices lies inside them
pub stops_inside : (t : Slices) (x : RackView) → StopsInside (slices_of t x)
stops_inside t x k c left d s out =
    left.2 d s ∙ ap (λ b. if b then left.0 (disk_of t d) (first_of t d + s) else []) (le-ltb s (sectors_of t d) out)
