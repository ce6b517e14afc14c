-- What contents of disks show by tables of slices, and what they give once a pending record is replayed.
use Rattle.std.proofs.Common.{◌≡◌, ℕ, ◌+◌, ◌<◌, ◌≤◌, Bool, nat_lt, if◌then◌else◌, List, [], Option, unwrap_or, inl, inr, sym, ap, ◌∙◌, lt-ltb, le-ltb, arith}
use Rattle.std.specs.Option.{option_map_or}
use Rattle.std.proofs.lemmas.Bool.{cases_lt}
use Rattle.rack.specs.Seen.{Image, RackView}
use Rattle.rack.specs.Targets.{Target, look}
use Rattle.slice_rack.specs.Slices.{Slices, disk_of, first_of, sectors_of}
use Rattle.slice_rack.specs.Sliced.{sliced}
use Rattle.array_image.specs.Arrays.{replayed}
use Rattle.array_image.specs.Places.{log_slice}
use Rattle.array_image.specs.Record.{pending}
use Rattle.array_image.specs.States.{current_places, state_in}
use Rattle.pool_image.specs.Replay.{Extent}
use Rattle.log_laws.specs.Commits.{Stands}
use Rattle.log_laws.specs.Opening.{StandsAmid}
use Rattle.pool_rest.specs.Members.{Lies}

pub sliced_outside : (t : Slices) (i : Image) (k j : ℕ) → sectors_of t k ≤ j → sliced t i k j ≡ []
sliced_outside t i k j past = ap (λ (b : Bool). if b then i (disk_of t k) (first_of t k + j) else []) (le-ltb j (sectors_of t k) past)

pub sliced_inside : (t : Slices) (i : Image) (k j : ℕ) → j < sectors_of t k → sliced t i k j ≡ i (disk_of t k) (first_of t k + j)
sliced_inside t i k j low = ap (λ (b : Bool). if b then i (disk_of t k) (first_of t k + j) else []) (lt-ltb j (sectors_of t k) low)

pub replayed_outside : (sectors : ℕ → ℕ) (c : Image) (k j : ℕ) → sectors k ≤ j → replayed sectors c k j ≡ c k j
unfolding replayed
replayed_outside sectors c k j past =
    ap (λ (b : Bool). if b then unwrap_or (look (pending (option_map_or current_places (state_in c) []) c) k j) (c k j) else c k j) (le-ltb j (sectors k) past)

pub replayed_sized : (f g : ℕ → ℕ) (c : Image) (k j : ℕ) → f k ≡ g k → replayed f c k j ≡ replayed g c k j
unfolding replayed
replayed_sized f g c k j same =
    ap (λ (n : ℕ). if nat_lt j n then unwrap_or (look (pending (option_map_or current_places (state_in c) []) c) k j) (c k j) else c k j) same

-- a slice that two tables have at the same sectors
pub record SameAt (t u : Slices) (k : ℕ) : Type 0 where
  pub sectors : sectors_of u k ≡ sectors_of t k
  pub first : 0 < sectors_of t k → first_of u k ≡ first_of t k
  pub disk : 0 < sectors_of t k → disk_of u k ≡ disk_of t k

pub same_sliced : (t u : Slices) (i : Image) (k j : ℕ) → SameAt t u k → sliced t i k j ≡ sliced u i k j
same_sliced t u i k j same = elim (cases_lt j (sectors_of t k)) [
  | inr past ↦ sliced_outside t i k j past ∙ sym (sliced_outside u i k j (let size = same.sectors in omega (arith, past, size)))
  | inl low ↦
      sliced_inside t i k j low
      ∙ ap (λ d. i d (first_of t k + j)) (sym (same.disk (omega (arith, low))))
      ∙ ap (λ n. i (disk_of u k) (n + j)) (sym (same.first (omega (arith, low))))
      ∙ sym (sliced_inside u i k j (let size = same.sectors in omega (arith, low, size)))
]

pub same_lies : (t u : Slices) (k : ℕ) (e : Option Extent) → Lies t k e → Lies u k e → disk_of u k ≡ disk_of t k → SameAt t u k
same_lies t u k e one two disk = record {
  sectors = two.sectors ∙ sym one.sectors;
  first = λ some. two.first (let first = one.sectors in let second = two.sectors in omega (arith, some, first, second)) ∙ sym (one.first some);
  disk = λ some. disk;
}

-- what a stop may leave before a replay it may leave amid it
pub stands_amid : (xs : List Target) (x : RackView) (c : Image) → Stands x c → StandsAmid xs x c
stands_amid xs x c stands = record {
  states = record { picks = λ p live. inl (stands.picks (log_slice p) 0 live); inside = λ p none. stands.inside p 0 (omega (arith, none)) };
  parts = λ p j some live. stands.picks (log_slice p) j live;
  inside = stands.inside;
}
