-- The foremost of disks, from the last to the first.
use Rattle.std.proofs.Common.{◌≡◌, ◌∙◌, ℕ, zero, suc, ◌+◌, ◌-◌, ◌<◌, ◌≤◌, Bool, true, false, nat_lt, if◌then◌else◌, List, [], ◌∷◌, map, Option, Some, None, option_map, refl, ap, ap₂, arith}
use Rattle.std.specs.List.{range_with_len}
use Rattle.std.specs.Option.{option_map_or}
use Rattle.array_image.specs.Foremost.{ahead, foremost}
use Rattle.pool_image.specs.Disks.{Candidate}

-- the foremost of a list is its first element, or that of the others where they are ahead
pub foremost_first : {X : Type 0} (measure : X → ℕ) (x : Option X) (others : List (Option X))
    → foremost measure (x ∷ others) ≡ option_map_or (λ t. ahead measure t (foremost measure others)) x (foremost measure others)
unfolding foremost
foremost_first measure None others = refl
foremost_first measure (Some t) others = refl

-- numbers up to an end, from one lower on
pub range_down : (n k : ℕ) → k < n → range_with_len (n - (k + 1)) (k + 1) ≡ (n - 1 - k) ∷ range_with_len (n - k) k
range_down n k inside =
    let first : n - (k + 1) ≡ n - 1 - k = omega arith in
    let next : n - k ≡ n - 1 - k + 1 = omega arith in
    let more : k + 1 ≡ suc k = omega arith in
    rw (first, next, more) refl

-- functions that agree on a range give the same values there
pub map_same : {X : Type 0} (f g : ℕ → X) (a n : ℕ) → ((d : ℕ) → a ≤ d → d < a + n → f d ≡ g d) → map f (range_with_len a n) ≡ map g (range_with_len a n)
map_same f g a zero same = refl
map_same f g a (suc n) same =
    ap₂ (λ x xs. x ∷ xs) (same a (omega arith) (omega arith)) (map_same f g (a + 1) n (λ d least most. same d (omega (arith, least)) (omega (arith, most))))

-- a disk with its epoch
abbrev pub with_epoch : (ℕ → ℕ) → ℕ → Candidate
with_epoch epoch d = record { disk = d; epoch = epoch d }

abbrev pub chosen : (ℕ → Bool) → ℕ → Option ℕ
chosen test d = if test d then Some d else None

abbrev pub of_disk : (ℕ → ℕ) → (ℕ → Bool) → ℕ → Option Candidate
of_disk epoch test d = if test d then Some (with_epoch epoch d) else None

ahead_with : (epoch : ℕ → ℕ) (d : ℕ) (o : Option ℕ) → ahead (λ k. k.epoch) (with_epoch epoch d) (option_map (with_epoch epoch) o) ≡ option_map (with_epoch epoch) (ahead epoch d o)
ahead_with epoch d None = refl
ahead_with epoch d (Some e) = by (nat_lt (epoch d) (epoch e))
  where
    by : (b : Bool) → (if b then Some (with_epoch epoch e) else Some (with_epoch epoch d)) ≡ option_map (with_epoch epoch) (if b then Some e else Some d)
    by true = refl
    by false = refl

with_first : (epoch : ℕ → ℕ) (d : ℕ) (cs : List (Option Candidate)) (ds : List (Option ℕ)) (b : Bool)
    → foremost (λ k. k.epoch) cs ≡ option_map (with_epoch epoch) (foremost epoch ds)
    → foremost (λ k. k.epoch) ((if b then Some (with_epoch epoch d) else None) ∷ cs)
    ≡ option_map (with_epoch epoch) (foremost epoch ((if b then Some d else None) ∷ ds))
unfolding foremost
with_first epoch d cs ds true same = ap (ahead (λ k. k.epoch) (with_epoch epoch d)) same ∙ ahead_with epoch d (foremost epoch ds)
with_first epoch d cs ds false same = same

-- the foremost of disks with their epochs is the foremost disk, with its epoch
pub foremost_with : (epoch : ℕ → ℕ) (test : ℕ → Bool) (ds : List ℕ)
    → foremost (λ k. k.epoch) (map (of_disk epoch test) ds) ≡ option_map (with_epoch epoch) (foremost epoch (map (chosen test) ds))
unfolding foremost
foremost_with epoch test [] = refl
foremost_with epoch test (d ∷ ds) = with_first epoch d (map (of_disk epoch test) ds) (map (chosen test) ds) (test d) (foremost_with epoch test ds)

pub disk_of : (epoch : ℕ → ℕ) (o : Option ℕ) → option_map (λ k. k.disk) (option_map (with_epoch epoch) o) ≡ o
disk_of epoch None = refl
disk_of epoch (Some d) = refl
