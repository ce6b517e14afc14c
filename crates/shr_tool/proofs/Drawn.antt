-- The turns that a generator draws, and their tally.
use Rattle.std.proofs.Common.{◌≡◌, ℕ, zero, suc, ◌+◌, ◌*◌, ◌%◌, ◌<◌, ◌≤◌, ◌==◌, nat_le, nat_lt, ◌&&◌, Bool, true, false, cond, if◌then◌else◌, List, [], ◌∷◌, ◌++◌, map, length-append, append_assoc, get_or, Ok, refl, sym, ◌∙◌, ap, subst, mod-lt, add-one, add-zero, zero-add, add_assoc, arith}
use Rattle.std.specs.List.{range_with_len}
use Rattle.std.proofs.lemmas.Bool.{both_ways}
use Rattle.std.proofs.lemmas.Bool.Decides.{nat_tests}
use Rattle.std.proofs.lemmas.Grind.{common_steps}
use Rattle.std.proofs.lemmas.List.Sums.{sum_by_push}
use Rattle.std.proofs.lemmas.List.FromFn.{map-range_with_len_more}
use Rattle.rack.specs.Values.{Values, append}
use Rattle.shr_script.specs.declared.Command.TheVariants.{Fill}
use Rattle.flat_array.specs.Array.{FlatArray, fresh}
use Rattle.flat_array.specs.Reply.{after, array_after, uniform_sector}
use Rattle.shr_tool.specs.declared.trial.Turn.{Turn}
use Rattle.shr_tool.specs.declared.trial.Turn.TheVariants.{Write, Read, Flush}
use Rattle.shr_tool.specs.Trial.{IsWithin, byte_of, counted, drawn, is_flush, is_read, is_write, line_for, next, state_at, sum_of, tally_of, turn_at, turn_from, turn_of, turns}

-- ---- the generator

-- nothing is drawn yet
pub state_start : (seed : ℕ) → seed ≡ state_at seed (3 * 0)
unfolding state_at
state_start seed = refl

-- one draw more
state_next : (seed n m : ℕ) → m ≡ n + 1 → state_at seed m ≡ next (state_at seed n)
unfolding state_at
state_next seed n m is = ap (state_at seed) (is ∙ add-one n)

-- three draws more
state_third : (seed n m : ℕ) → m ≡ n + 3 → state_at seed m ≡ next (next (next (state_at seed n)))
state_third seed n m is =
    state_next seed (n + 2) m (omega arith)
    ∙ ap next (state_next seed (n + 1) (n + 2) (omega arith) ∙ ap next (state_next seed n (n + 1) refl))

pub state_more : (seed n state : ℕ) → state ≡ state_at seed (3 * n) → next (next (next state)) ≡ state_at seed (3 * (n + 1))
state_more seed n state is =
    ap (λ s. next (next (next s))) is ∙ sym (state_third seed (3 * n) (3 * (n + 1)) (omega arith))

-- ---- turns in a row

pub turns_none : (span seed : ℕ) → turns span seed 0 ≡ []
unfolding turns
turns_none span seed = refl

pub turns_more : (span seed n : ℕ) → turns span seed (n + 1) ≡ turns span seed n ++ turn_at span seed n ∷ []
unfolding turns
turns_more span seed n = map-range_with_len_more (turn_at span seed) 0 n n (omega arith)

-- the turns before one, that one, and those behind it
pub turns_split :
    (span seed n behind : ℕ) → (rest : List Turn) × (turns span seed (n + 1 + behind) ≡ turns span seed n ++ turn_at span seed n ∷ rest)
turns_split span seed n zero = ([], ap (turns span seed) (add-zero (n + 1)) ∙ turns_more span seed n)
turns_split span seed n (suc behind) =
    let before = turns_split span seed n behind in
    let last = turn_at span seed (n + 1 + behind) ∷ [] in (
      before.0 ++ last,
      ap (turns span seed) (let same : n + 1 + suc behind ≡ n + 1 + behind + 1 = omega arith in same)
          ∙ (turns_more span seed (n + 1 + behind)
          ∙ (ap (λ ts. ts ++ last) before.1
          ∙ append_assoc (turns span seed n) (turn_at span seed n ∷ before.0) last)),
    )

-- each is on one of the first sectors
turn_within : (span a b c : ℕ) → 0 < span → IsWithin span (turn_of span a b c)
turn_within span a b c some = at (nat_lt (b % 8) 5) (nat_lt (b % 8) 7) where
  inside : a % span < span
  inside = mod-lt a some

  at : (writes reads : Bool) → IsWithin span (if writes then Write (a % span) (c % 256) else if reads then Read (a % span) else Flush)
  at true reads = inside
  at false true = inside
  at false false = tt

from_within : (span state : ℕ) → 0 < span → IsWithin span (turn_from span state)
from_within span state some = turn_within span (drawn (next state)) (drawn (next (next state))) (drawn (next (next (next state)))) some

within_more : (span size : ℕ) (turn : Turn) → span ≤ size → IsWithin span turn → IsWithin size turn
within_more span size (Write sector byte) inside early = omega arith
within_more span size (Read sector) inside early = omega arith
within_more span size Flush inside early = tt

pub turn_at_within : (span seed n size : ℕ) (turn : Turn) → turn ≡ turn_at span seed n → 0 < span → span ≤ size → IsWithin size turn
turn_at_within span seed n size turn is some inside =
    subst (IsWithin size) (sym is)
    (within_more span size (turn_at span seed n) inside (from_within span (state_at seed (3 * n)) some))

abbrev pub AreWithin : ℕ → List Turn → Type 0
AreWithin span [] = Unit {0}
AreWithin span (turn ∷ more) = IsWithin span turn × AreWithin span more

drawn_within : (span seed : ℕ) (ns : List ℕ) → 0 < span → AreWithin span (map (turn_at span seed) ns)
drawn_within span seed [] some = tt
drawn_within span seed (n ∷ ns) some = (from_within span (state_at seed (3 * n)) some, drawn_within span seed ns some)

-- ---- the tally

-- the array after one turn more
after_more : (a : FlatArray) (ts : List Turn) (turn : Turn) → sum_of a (ts ++ turn ∷ []) ≡ sum_of a ts + byte_of (array_after a (map line_for ts)) turn
after_more a [] turn = add-zero (byte_of a turn) ∙ sym (zero-add (byte_of a turn))
after_more a (t ∷ ts) turn = ap (λ n. byte_of a t + n) (after_more (after a (line_for t)) ts turn) ∙ sym (add_assoc (byte_of a t) _ _)

pub tally_more :
    (a : FlatArray) (ts : List Turn) (turn : Turn)
    → counted turn (byte_of (array_after a (map line_for ts)) turn) (tally_of a ts) ≡ tally_of a (ts ++ turn ∷ [])
tally_more a ts turn =
    λ i.
    record {
      turns = sym (length-append ts (turn ∷ [])) i;
      writes = sym (sum_by_push (λ t. cond (is_write t) 1 0) ts turn) i;
      reads = sym (sum_by_push (λ t. cond (is_read t) 1 0) ts turn) i;
      flushes = sym (sum_by_push (λ t. cond (is_flush t) 1 0) ts turn) i;
      sum = sym (after_more a ts turn) i;
    }

-- ---- arrays that are alike in the first sectors

pub record Alike (span : ℕ) (a b : FlatArray) : Type 0 where
  pub left : span ≤ a.size
  pub right : span ≤ b.size
  pub current : (s : ℕ) → s < span → (a.values s).current ≡ (b.values s).current

below : (s n : ℕ) → s < n → nat_lt s n ≡ true
below s n inside = grind (arith, nat_tests)

current_written :
    (here : Bool) (h k : Values) (v : List ℕ) → h.current ≡ k.current
    → (if here then append h v else h).current ≡ (if here then append k v else k).current
current_written true h k v same = refl
current_written false h k v same = same

-- a turn leaves them so
after_alike : (span : ℕ) (a b : FlatArray) (turn : Turn) → IsWithin span turn → Alike span a b → Alike span (after a (line_for turn)) (after b (line_for turn))
after_alike span a b (Write sector byte) inside alike =
    rw (below sector a.size (let left = alike.left in omega arith))
    (rw (below sector b.size (let right = alike.right in omega arith))
    (record {
      left = alike.left;
      right = alike.right;
      current = λ s early. current_written (s == sector) (a.values s) (b.values s) (uniform_sector byte) (alike.current s early);
    }))
after_alike span a b (Read sector) inside alike = alike
after_alike span a b Flush inside alike = record { left = alike.left; right = alike.right; current = alike.current }

byte_alike : (span : ℕ) (a b : FlatArray) (turn : Turn) → IsWithin span turn → Alike span a b → byte_of a turn ≡ byte_of b turn
byte_alike span a b (Write sector byte) inside alike = refl
byte_alike span a b (Read sector) inside alike = ap (λ v. get_or v 0 0) (alike.current sector inside)
byte_alike span a b Flush inside alike = refl

sum_alike : (span : ℕ) (a b : FlatArray) (ts : List Turn) → AreWithin span ts → Alike span a b → sum_of a ts ≡ sum_of b ts
sum_alike span a b [] inside alike = refl
sum_alike span a b (turn ∷ ts) inside alike =
    ap (λ n. n + sum_of (after a (line_for turn)) ts) (byte_alike span a b turn inside.0 alike)
    ∙ ap (λ n. byte_of b turn + n)
    (sum_alike span (after a (line_for turn)) (after b (line_for turn)) ts inside.1 (after_alike span a b turn inside.0 alike))

-- sectors that were filled with zeros are alike
filled_current : (here : Bool) (h : Values) (v : List ℕ) → here ≡ true → (if here then append h v else h).current ≡ v
filled_current true h v is = refl
filled_current false h v is = absurd (both_ways false refl is)

from_first : (span s : ℕ) → s < span → (nat_le 0 s && nat_lt s (0 + span)) ≡ true
from_first span s early = grind (arith, nat_tests, common_steps)

within_size : (n size : ℕ) → n ≤ size → nat_le (0 + n) size ≡ true
within_size n size inside = grind (arith, nat_tests, common_steps)

zeros_alike :
    (span : ℕ) (a : FlatArray) → span ≤ a.size → Alike span (after a (Ok (Fill 0 span 0))) (fresh span (λ s. uniform_sector 0))
zeros_alike span a inside =
    rw (within_size span a.size inside)
    (record {
      left = inside;
      right = omega arith;
      current = λ s early. filled_current (nat_le 0 s && nat_lt s (0 + span)) (a.values s) (uniform_sector 0) (from_first span s early);
    })

-- so turns on them have the tally that they have on an array of zeros
pub tally_filled :
    (span seed count : ℕ) (a : FlatArray)
    → 0 < span
    → span ≤ a.size
    → tally_of (after a (Ok (Fill 0 span 0))) (turns span seed count) ≡ tally_of (fresh span (λ s. uniform_sector 0)) (turns span seed count)
unfolding turns
tally_filled span seed count a some inside =
    let ns = range_with_len 0 count in
    let ts = map (turn_at span seed) ns in
    ap (λ n. record (tally_of a ts) { sum = n })
    (sum_alike span (after a (Ok (Fill 0 span 0))) (fresh span (λ s. uniform_sector 0)) ts (drawn_within span seed ns some) (zeros_alike span a inside))
