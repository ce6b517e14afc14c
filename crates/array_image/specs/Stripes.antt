-- How an array spreads its sectors over its members, and what a stripe of theirs gives.
use Rattle.std.specs.Prelude.{◌≡◌, ℕ, ◌*◌, ◌-◌, suc, zero, List, [], ◌∷◌, ◌++◌, take, drop, Option, Some, None}
use Rattle.std.specs.Option.{option_map_or}
use Rattle.raid_map.specs.LeftSymmetric.{member_of, sector_of}
use Rattle.parity.specs.Xor.{xor_all, zeros}

-- copies on so many members, or chunks with one parity on so many
pub data Layout : Type 0 where
  mirror : ℕ → Layout
  parity : ℕ → Layout

-- how many members it has
abbrev pub width : Layout → ℕ
width (mirror n) = n
width (parity n) = n

-- how many sectors it gives for so many of a member's data
abbrev pub capacity : Layout → ℕ → ℕ
capacity (mirror n) size = size
capacity (parity n) size = (n - 1) * size

-- the position of a sector of the array, and its sector in the members' data
abbrev pub position_in : Layout → ℕ → ℕ
position_in (mirror n) x = 0
position_in (parity n) x = member_of n x

abbrev pub sector_in : Layout → ℕ → ℕ
sector_in (mirror n) x = x
sector_in (parity n) x = sector_of n x

-- one sector of each member's data, by position: none of a member that is missing, not rebuilt so far or can't be read there
abbrev pub Stripe : Type 0
Stripe = List (Option (List ℕ))

-- the sectors that are there
unfoldable pub there : Stripe → List (List ℕ)
there [] = []
there (None ∷ others) = there others
there (Some v ∷ others) = v ∷ there others

-- the sector of a position
unfoldable pub at_position : ℕ → Stripe → Option (List ℕ)
at_position n [] = None
at_position zero (v ∷ others) = v
at_position (suc n) (v ∷ others) = at_position n others

-- the others
abbrev pub without : ℕ → Stripe → Stripe
without n stripe = take n stripe ++ drop (suc n) stripe

-- the first that is there, or zeros
abbrev pub first_there : List (List ℕ) → List ℕ
first_there [] = zeros 512
first_there (v ∷ others) = v

-- what a stripe gives at a position: of a mirror the lowest copy, of parity the sector itself, or else the XOR of the others
unfoldable pub given : Layout → Stripe → ℕ → List ℕ
given (mirror n) stripe position = first_there (there stripe)
given (parity n) stripe position =
    option_map_or (λ v. v) (at_position position stripe) (xor_all 512 (there (without position stripe)))

-- each of a list is this value
abbrev pub AreAll : List ℕ → List (List ℕ) → Type 0
AreAll v [] = Unit {0}
AreAll v (w ∷ others) = (w ≡ v) × AreAll v others

-- the members of a stripe agree
abbrev pub AgreeIn : Layout → List (List ℕ) → Type 0
AgreeIn (mirror n) sectors = AreAll (first_there sectors) sectors
AgreeIn (parity n) sectors = xor_all 512 sectors ≡ zeros 512
