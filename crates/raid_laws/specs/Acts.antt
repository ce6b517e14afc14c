-- What a whole call of a rack of arrays does.
use Rattle.std.specs.Prelude.{◌≡◌, ℕ}
use Rattle.rack.specs.Values.{MayLeave, Keeps}
use Rattle.rack.specs.Seen.{Image, Held, RackView, SameRack}
use Rattle.rack.specs.Moments.{Leaves}
use Rattle.array_image.specs.Arrays.{arrays_in, replayed}
use Rattle.array_model.specs.View.{sectors_of}
use Rattle.raid_laws.specs.Raid.{Raid, live_of, held_in, IsTracked, StopsInside}

-- what no call changes, and what never falls
pub record RaidStays (v w : Raid) (a b : RackView) : Type 0 where
  pub below : SameRack a b
  pub lasting : b.lasting
  pub inside : StopsInside b
  pub made : w.state.made ≡ v.state.made
  pub sectors : (n : ℕ) → sectors_of (w.arrays n) ≡ sectors_of (v.arrays n)
  pub spent : (n y : ℕ) → live_of w n y → live_of v n y

-- each array that was told gives in replayed contents one of these values, in each sector that isn't spent in the end
abbrev pub GiveThese : Raid → Raid → RackView → Held → Image → Type 0
GiveThese v w a vals c =
    (n y : ℕ) → IsTracked v a n → live_of w n y → MayLeave (vals n y) (arrays_in (replayed a.sectors c) n y)

-- A call of such a rack, as its arrays' calls and the commit of losses leave it: vals is what its sectors hold since.
pub record RaidActs (v w : Raid) (a b : RackView) (vals : Held) : Type 0 where
  pub stays : RaidStays v w a b
  pub told : (n : ℕ) → IsTracked v a n → IsTracked w b n
  pub leaves : a.traced → Leaves a b (GiveThese v w a vals)
  pub held : (n y : ℕ) → IsTracked v a n → live_of w n y → Keeps (vals n y) (held_in w b n y)
