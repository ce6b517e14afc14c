-- Which state contents have, by the copies on their places.
use Rattle.std.proofs.Common.{◌≡◌, ◌⊎◌, ℕ, zero, suc, ◌+◌, ◌<◌, ◌≤◌, true, false, nat_lt, if◌then◌else◌, List, [], ◌∷◌, map, Option, Some, None, Ok, Err, Result, option_map, unwrap_or, refl, sym, ap, subst, ◌∙◌, inl, inr, arith, le-ltb, lt-ltb}
use Rattle.std.proofs.lemmas.Bool.{cases_lt}
use Rattle.std.proofs.lemmas.Option.{none-some}
use Rattle.std.specs.Result.{result_ok}
use Rattle.std.specs.List.{range_with_len}
use Rattle.rack.specs.Seen.{Image}
use Rattle.shr_base.specs.Blocks.{bytes_at, number_at}
use Rattle.pool_state.specs.declared.contents.Copied.{Copied}
use Rattle.pool_state.specs.declared.contents.State.{State}
use Rattle.pool_state.specs.declared.contents.StateFault.{StateFault}
use Rattle.pool_state.specs.Sector.{decoded}
use Rattle.array_image.specs.Foremost.{ahead, foremost}
use Rattle.array_image.specs.Places.{log_slice}
use Rattle.array_image.specs.States.{copy_in, epoch_of, state_in}
use Rattle.log_laws.specs.Kept.{IsCopyOf, IsNoLater}

-- ---- lists of copies

-- none is later than a state, or one is of it
abbrev pub NoLaterIf : State → Option Copied → Type 0
NoLaterIf s None = Unit {0}
NoLaterIf s (Some copy) = IsNoLater s copy

abbrev pub HasIf : State → Option Copied → Type 0
HasIf s None = ⊥
HasIf s (Some copy) = copy.state ≡ s

abbrev pub NoLater : State → List (Option Copied) → Type 0
NoLater s [] = Unit {0}
NoLater s (o ∷ others) = NoLaterIf s o × NoLater s others

abbrev pub HasState : State → List (Option Copied) → Type 0
HasState s [] = ⊥
HasState s (o ∷ others) = HasIf s o ⊎ HasState s others

-- what a list has foremost isn't later either
ahead_no_later : (s : State) (copy : Copied) (o : Option Copied) → IsNoLater s copy → NoLaterIf s o → NoLaterIf s (ahead epoch_of copy o)
ahead_no_later s copy None one other = one
ahead_no_later s copy (Some next) one other =
    elim (nat_lt (epoch_of copy) (epoch_of next)) as (λ b. NoLaterIf s (if b then Some next else Some copy)) [
      | true ↦ other
      | false ↦ one
    ]

foremost_no_later : (s : State) (copies : List (Option Copied)) → NoLater s copies → NoLaterIf s (foremost epoch_of copies)
unfolding foremost
foremost_no_later s [] none = tt
foremost_no_later s (None ∷ others) all = foremost_no_later s others all.1
foremost_no_later s (Some copy ∷ others) all = ahead_no_later s copy (foremost epoch_of others) all.0 (foremost_no_later s others all.1)

-- one that isn't later has no higher epoch
no_higher : (s : State) (copy : Copied) → IsNoLater s copy → copy.state.epoch ≤ s.epoch
no_higher s copy (inl lower) = omega arith
no_higher s copy (inr same) = let e = ap (λ (t : State). t.epoch) same in omega arith

-- a copy of the state stays ahead of those that aren't later
ahead_first : (s : State) (copy : Copied) (o : Option Copied) → copy.state ≡ s → NoLaterIf s o → option_map (λ c. c.state) (ahead epoch_of copy o) ≡ Some s
ahead_first s copy None is none = ap Some is
ahead_first s copy (Some next) is other =
    let epoch : copy.state.epoch ≡ s.epoch = ap (λ (t : State). t.epoch) is in
    let low : next.state.epoch ≤ copy.state.epoch = let top = no_higher s next other in omega arith in
    ap (λ b. option_map (λ c. c.state) (if b then Some next else Some copy)) (le-ltb copy.state.epoch next.state.epoch low) ∙ ap Some is

-- and one that isn't later leaves the state ahead
ahead_later : (s : State) (copy : Copied) (o : Option Copied) → IsNoLater s copy → option_map (λ c. c.state) o ≡ Some s
    → option_map (λ c. c.state) (ahead epoch_of copy o) ≡ Some s
ahead_later s copy None one is = absurd (none-some s is)
ahead_later s copy (Some next) (inr same) is = ahead_first s copy (Some next) same (inr (ap (λ o. unwrap_or o next.state) is))
ahead_later s copy (Some next) (inl lower) is =
    let epoch : next.state.epoch ≡ s.epoch = ap (λ (o : Option State). epoch_if o) is in
    ap (λ b. option_map (λ c. c.state) (if b then Some next else Some copy)) (lt-ltb copy.state.epoch next.state.epoch (omega arith)) ∙ is
  where
    epoch_if : Option State → ℕ
    epoch_if None = 0
    epoch_if (Some t) = t.epoch

foremost_state : (s : State) (copies : List (Option Copied)) → NoLater s copies → HasState s copies
    → option_map (λ c. c.state) (foremost epoch_of copies) ≡ Some s
unfolding foremost
foremost_state s [] all none = absurd none
foremost_state s (None ∷ others) all (inl none) = absurd none
foremost_state s (None ∷ others) all (inr later) = foremost_state s others all.1 later
foremost_state s (Some copy ∷ others) all (inl here) = ahead_first s copy (foremost epoch_of others) here (foremost_no_later s others all.1)
foremost_state s (Some copy ∷ others) all (inr later) = ahead_later s copy (foremost epoch_of others) all.0 (foremost_state s others all.1 later)

-- ---- the copies of contents

-- whatever decodes isn't later
read_no_later : (s : State) (r : Result Copied StateFault) → ((copy : Copied) → r ≡ Ok copy → IsNoLater s copy) → NoLaterIf s (result_ok r)
read_no_later s (Ok copy) each = each copy refl
read_no_later s (Err fault) each = tt

all_no_later : (s : State) (c : Image) (a n : ℕ)
    → ((p : ℕ) (copy : Copied) → p < a + n → decoded (c (log_slice p) 0) ≡ Ok copy → IsNoLater s copy)
    → NoLater s (map (copy_in c) (range_with_len a n))
all_no_later s c a zero each = tt
all_no_later s c a (suc n) each = (
  read_no_later s (decoded (c (log_slice a) 0)) (λ copy is. each a copy (omega arith) is),
  all_no_later s c (a + 1) n (λ p copy below is. each p copy (omega arith) is),
)

read_has : (s : State) (own : ℕ) (u : List ℕ) → IsCopyOf s own u → HasIf s (result_ok (decoded u))
read_has s own u copy = subst (λ r. HasIf s (result_ok r)) (sym copy.copy) refl

one_has : (s : State) (c : Image) (a n p : ℕ) → a ≤ p → p < a + n → IsCopyOf s p (c (log_slice p) 0) → HasState s (map (copy_in c) (range_with_len a n))
one_has s c a zero p from below copy = absurd (omega arith)
one_has s c a (suc n) p from below copy =
    elim (cases_lt a p) [
      | inl above ↦ inr (one_has s c (a + 1) n p (omega arith) (omega arith) copy)
      | inr here ↦ inl (let same : p ≡ a = omega arith in subst (λ q. HasIf s (copy_in c q)) same (read_has s p (c (log_slice p) 0) copy))
    ]

-- contents with a copy of a state, and no later one, have this state
pub state_by_copies : (s : State) (c : Image) (p : ℕ)
    → ((q : ℕ) (copy : Copied) → q < 16 → decoded (c (log_slice q) 0) ≡ Ok copy → IsNoLater s copy)
    → p < 16 → IsCopyOf s p (c (log_slice p) 0)
    → state_in c ≡ Some s
unfolding state_in
state_by_copies s c p none below copy =
    foremost_state s (map (copy_in c) (range_with_len 0 16)) (all_no_later s c 0 16 (λ q copy few. none q copy few)) (one_has s c 0 16 p (omega arith) (omega (arith, below)) copy)

-- where nothing stands, nothing is decoded
pub nothing_decodes : (copy : Copied) → decoded [] ≡ Ok copy → ⊥
unfolding number_at bytes_at
nothing_decodes copy is = none-some copy (ap result_ok is)
