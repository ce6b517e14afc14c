-- Contents of the same pool but for gates of its log.
use Rattle.std.specs.Prelude.{◌≡◌, ◌≢◌, ℕ, ◌<◌, ◌&&◌, Bool, false, is_none, List, Some, None}
use Rattle.rack.specs.Seen.{Image}
use Rattle.array_image.specs.Record.{gate_of, is_there, pending_at, is_bad_log}
use Rattle.array_image.specs.States.{current_places}
use Rattle.pool_image.specs.Disks.{Disks, identities_of}
use Rattle.pool_image.specs.Replay.{Standing, standing, written}
use Rattle.pool_image.specs.Drives.{Found, found}
use Rattle.pool_image.specs.Meaning.{has_log, has_other_pool, refusal_of, meaning}

-- where the gate stands on a drive
abbrev pub drive_gate : ℕ
drive_gate = 2049

-- contents that agree inside the disks
abbrev pub Agree : Disks → Image → Image → Type 0
Agree disks c e = (d s : ℕ) → d < disks.count → s < disks.sectors d → c d s ≡ e d s

-- the disks say the same of the pool, and each sector holds the same but for gates
pub record IsSameButGates (disks : Disks) (c e : Image) : Type 0 where
  pub identities : (d : ℕ) → d < disks.count → identities_of disks c d ≡ identities_of disks e d
  pub contents : (d s : ℕ) → d < disks.count → s < disks.sectors d → s ≢ drive_gate → c d s ≡ e d s

-- the same pool: as the state and the seats are, so is what all disks say, what the seated ones hold but for gates, and which logs are well formed
pub record IsSamePool (f g : Found) : Type 0 where
  pub disks : g.disks ≡ f.disks
  pub state : g.state ≡ f.state
  pub seats : (p : ℕ) → g.seats p ≡ f.seats p
  pub all : (d : ℕ) → d < f.disks.count → g.identities d ≡ f.identities d
  pub identities : (p d : ℕ) → f.seats p ≡ Some d → g.identities d ≡ f.identities d
  pub contents : (p d t : ℕ) → f.seats p ≡ Some d → t < f.disks.sectors d → t ≢ drive_gate → g.contents d t ≡ f.contents d t
  pub logs : (p d : ℕ) → f.seats p ≡ Some d → has_log g p ≡ has_log f p

-- a sector is no well-formed gate, though there is one
abbrev pub is_bad_block : List ℕ → Bool
is_bad_block block = is_there block && is_none (gate_of block)

-- Contents are those of a pool whose record is replayed, but for gates: its targets are written, nothing is pending, and no log
-- is damaged that wasn't.
pub record IsRested (disks : Disks) (c e : Image) (before after : Standing) : Type 0 where
  pub stands : standing disks c ≡ Some before
  pub stands_now : standing disks e ≡ Some after
  pub same : IsSameButGates disks e (written disks before c)
  pub idle : pending_at (current_places after.state) after.logs ≡ None
  pub gates : (d : ℕ) → d < disks.count → drive_gate < disks.sectors d → is_bad_block (e d drive_gate) ≡ is_bad_block (written disks before c d drive_gate)
  pub logs : (p : ℕ) → is_bad_log (current_places before.state) before.logs p ≡ false
  pub pools : has_other_pool disks after ≡ has_other_pool disks before

-- the same pool, refused for the same, with the same volumes
pub record MeansTheSame (disks : Disks) (c e : Image) : Type 0 where
  pub before : Found
  pub now : Found
  pub found_before : found disks c ≡ Some before
  pub found_now : found disks e ≡ Some now
  pub pool : IsSamePool before now
  pub refusal : refusal_of disks e ≡ refusal_of disks c
  pub meaning : meaning disks e ≡ meaning disks c
