-- What replaying goes by: the log slices alone. So a write to any other sector changes the replayed contents there and nowhere else.
use Rattle.std.proofs.Common.{◌≡◌, ℕ, Bool, true, false, ◌&&◌, ◌||◌, ◌==◌, find, nat_lt, is_none, if◌then◌else◌, List, [], ◌∷◌, Option, Some, None, unwrap_or, refl, sym, ap, ap₂, ◌∙◌, option_map}
use Rattle.std.specs.Option.{option_map_or, option_and_then}
use Rattle.std.specs.List.{list_all, list_any}
use Rattle.rack.specs.Seen.{Image}
use Rattle.pool_state.specs.declared.contents.State.{State}
use Rattle.array_image.specs.Foremost.{foremost}
use Rattle.array_image.specs.Places.{log_slice}
use Rattle.rack.specs.Targets.{Target, look}
use Rattle.array_image.specs.Record.{Gate, GateAt, gate_of, gate_in, is_there, is_bad_gate, record_of, record_in, gates_in, is_open_if_of, is_bad_log, damaged_log, pending_at, pending_record, pending}
use Rattle.array_image.specs.States.{state_in, current_places}
use Rattle.array_image.specs.Arrays.{replayed}
use Rattle.array_image.specs.Left.{IsPendingOnlyFor, IsWhole, TargetsInside, deciding}
use Rattle.array_image.proofs.Frames.{map_same, state_same}

-- contents that agree on the log slices
abbrev pub SameLogs : Image → Image → Type 0
SameLogs c e = (place t : ℕ) → c (log_slice place) t ≡ e (log_slice place) t

slice_same : (c e : Image) → SameLogs c e → (place : ℕ) → c (log_slice place) ≡ e (log_slice place)
slice_same c e same place = λ i t. same place t i

gate_at : ℕ → Option Gate → Option GateAt
gate_at place gate = option_map (λ g. record { place = place; gate = g }) gate

gates_same : (c e : Image) → SameLogs c e → (places : List ℕ) → gates_in places c ≡ gates_in places e
gates_same c e same places =
    map_same (λ place. option_map (λ g. record { place = place; gate = g }) (gate_in c place)) (λ place. option_map (λ g. record { place = place; gate = g }) (gate_in e place)) places
    (λ place. ap (λ (block : List ℕ). option_map (λ g. record { place = place; gate = g }) (gate_of block)) (same place 1))

pending_at_same : (c e : Image) → SameLogs c e → (places : List ℕ) → pending_at places c ≡ pending_at places e
unfolding pending_at
pending_at_same c e same places =
    ap (λ (gates : List (Option GateAt)). option_and_then (λ a. if list_all (is_open_if_of a.gate.number) gates then Some a else None) (foremost (λ a. a.gate.number) gates))
    (gates_same c e same places)

and_then_same : {X Y : Type 0} (f g : X → Option Y) (o : Option X) → ((x : X) → f x ≡ g x) → option_and_then f o ≡ option_and_then g o
and_then_same f g None same = refl
and_then_same f g (Some x) same = same x

-- the pending record
pub pending_record_same : (c e : Image) → SameLogs c e → (places : List ℕ) → pending_record places c ≡ pending_record places e
pending_record_same c e same places =
    and_then_same (λ a. record_in c a.place a.gate.number) (λ a. record_in e a.place a.gate.number) (pending_at places c)
    (λ a. ap (record_of a.gate.number) (slice_same c e same a.place))
    ∙ ap (λ (o : Option GateAt). option_and_then (λ a. record_in e a.place a.gate.number) o) (pending_at_same c e same places)

bad_gates_same : (c e : Image) → SameLogs c e → (places : List ℕ) → list_any (is_bad_gate c) places ≡ list_any (is_bad_gate e) places
bad_gates_same c e same [] = refl
bad_gates_same c e same (place ∷ places) =
    ap₂ (λ b bs. b || bs) (ap (λ (block : List ℕ). is_there block && is_none (gate_of block)) (same place 1)) (bad_gates_same c e same places)

-- what a replay writes
pub pending_same : (c e : Image) → SameLogs c e → (places : List ℕ) → pending places c ≡ pending places e
unfolding pending
pending_same c e same places =
    ap₂ (λ (bad : Bool) (o : Option (List Target)). if bad then [] else unwrap_or o [])
    (bad_gates_same c e same places) (pending_record_same c e same places)

-- contents that agree on the log slices and in a sector are replayed alike there
pub replayed_same : (sectors : ℕ → ℕ) (c e : Image) (d t : ℕ) → SameLogs c e → c d t ≡ e d t → replayed sectors c d t ≡ replayed sectors e d t
unfolding replayed
replayed_same sectors c e d t same at =
    ap (λ (v : List ℕ). if nat_lt t (sectors d) then unwrap_or (look (pending (option_map_or current_places (state_in c) []) c) d t) v else v) at
    ∙ ap (λ (xs : List Target). if nat_lt t (sectors d) then unwrap_or (look xs d t) (e d t) else e d t)
    (ap (λ (s : Option State). pending (option_map_or current_places s []) c) (state_same c e (λ place. same place 0))
    ∙ pending_same c e same (option_map_or current_places (state_in e) []))

-- where no target is pending for it, a sector is replayed as it is
pub replayed_as_is : (sectors : ℕ → ℕ) (c : Image) (d t : ℕ) → look (pending (option_map_or current_places (state_in c) []) c) d t ≡ None → replayed sectors c d t ≡ c d t
unfolding replayed
replayed_as_is sectors c d t none =
    ap (λ (o : Option (List ℕ)). if nat_lt t (sectors d) then unwrap_or o (c d t) else c d t) none ∙ if_same (nat_lt t (sectors d)) (c d t)
  where
    if_same : (b : Bool) (v : List ℕ) → (if b then v else v) ≡ v
    if_same true v = refl
    if_same false v = refl

-- ---- whether a log is damaged, and what is pending

deciding_same : (c e : Image) → SameLogs c e → deciding c ≡ deciding e
deciding_same c e same = ap (λ (s : Option State). option_map_or current_places s []) (state_same c e (λ place. same place 0))

bad_log_same : (c e : Image) → SameLogs c e → (places : List ℕ) (place : ℕ) → is_bad_log places c place ≡ is_bad_log places e place
bad_log_same c e same places place =
    let at : (a : GateAt) → ((a.place == place) && is_none (record_in c a.place a.gate.number)) ≡ ((a.place == place) && is_none (record_in e a.place a.gate.number)) =
    λ a. ap (λ (o : Option (List Target)). (a.place == place) && is_none o) (ap (record_of a.gate.number) (slice_same c e same a.place)) in
    ap₂ (λ a b. a || b)
    (ap (λ (block : List ℕ). is_there block && is_none (gate_of block)) (same place 1))
    (ap₂ (λ (f : GateAt → Bool) o. option_map_or f o false) (λ i a. at a i) (pending_at_same c e same places))

-- contents that agree on the log slices
pub whole_same : (c e : Image) → SameLogs c e → IsWhole e → IsWhole c
whole_same c e same whole =
    ap (λ places. damaged_log places c) (deciding_same c e same)
    ∙ ap (λ (f : ℕ → Bool). find f (deciding e)) (λ i place. bad_log_same c e same (deciding e) place i)
    ∙ whole

pub calm_same : (array : ℕ) (c e : Image) → SameLogs c e → IsPendingOnlyFor array e → IsPendingOnlyFor array c
calm_same array c e same calm d t apart =
    ap (λ (xs : List Target). look xs d t) (pending_same c e same (deciding c) ∙ ap (λ places. pending places e) (deciding_same c e same)) ∙ calm d t apart

pub inside_same : (sectors : ℕ → ℕ) (c e : Image) → SameLogs c e → TargetsInside sectors e → TargetsInside sectors c
inside_same sectors c e same inside d t v is =
    inside d t v
    (ap (λ places. look (pending places e) d t) (sym (deciding_same c e same))
    ∙ ap (λ (xs : List Target). look xs d t) (sym (pending_same c e same (deciding c)))
    ∙ is)
