-- Disks on which a pool left what holds a sound one again are such as an opening asks for.
use Rattle.std.proofs.Common.{◌≡◌, ℕ, inl, inr, subst, sym, ap, ◌∙◌}
use Rattle.rack.specs.Seen.{Image, RackView}
use Rattle.slice_rack.specs.Slices.{Slices}
use Rattle.pool_state.specs.declared.contents.State.{State}
use Rattle.pool_image.specs.Alike.{Agree}
use Rattle.pool_image.specs.Disks.{Disks, disks_of}
use Rattle.pool_image.specs.Drives.{Found, found}
use Rattle.pool_image.specs.Replay.{standing}
use Rattle.pool_rest.specs.Moments.{TakesLowerIn}
use Rattle.pool_rest.specs.SoundLogs.{HasSoundLogs}
use Rattle.pool_scan.specs.Scanning.{now_in}
use Rattle.pool_model.specs.Left.{RecoversIdle, Recovers}
use Rattle.pool_model.specs.Openings.{RecoversInOpening, IsIdleIn, MayReplay}
use Rattle.pool_model.specs.Stopped.{RecoversBetween, RecoversLanding}
use Rattle.pool_model.proofs.Agreeing.{agree_opened}
use Rattle.assembler_laws.specs.Holding.{AreSteady}
use Rattle.assembler.specs.Sound.{HoldSound, MayStop, TargetsLand}

-- they hold a sound pool
pub holds_still : (x : RackView) (f : Found) (t : Slices) (s : State) → AreSteady x → f.disks ≡ disks_of x → (still : Recovers f t s (now_in x))
    → HoldSound x still.now
holds_still x f t s steady same still = record {
  steady = steady;
  found_is = ap (λ (disks : Disks). found disks (now_in x)) (sym same) ∙ still.found_is;
  sound = still.sound;
  logs = subst (λ (disks : Disks). HasSoundLogs disks (now_in x)) same still.logs;
}

-- and where nothing is pending a stop inside an opening leaves what is told
pub holds_again : (x : RackView) (f : Found) (t : Slices) (s : State) → AreSteady x → f.disks ≡ disks_of x → (again : RecoversIdle f t s (now_in x))
    → HoldSound x again.still.now × MayStop x again.still.now × MayReplay (disks_of x) (now_in x) again.still.now
holds_again x f t s steady same again =
    let idle : IsIdleIn (disks_of x) (now_in x) = λ before at. again.idle before (ap (λ (disks : Disks). standing disks (now_in x)) same ∙ at) in
    (holds_still x f t s steady same again.still, inl idle, inl idle)

-- Targets land in it, where its slices lie apart by its drives' tables: then an opening needs nothing else to hold the pool at each moment.
pub holds_landing : (x : RackView) (f : Found) (t : Slices) (s : State) → AreSteady x → f.disks ≡ disks_of x → (landing : RecoversLanding f t s (now_in x))
    → HoldSound x landing.again.still.now × MayStop x landing.again.still.now × MayReplay (disks_of x) (now_in x) landing.again.still.now × TargetsLand landing.again.still.now
holds_landing x f t s steady same landing =
    let holds = holds_again x f t s steady same landing.again in
    (holds.0, holds.1, holds.2, inr landing.apart)

-- So it is where a call was stopped, and a record may be pending.
pub holds_amid : (x : RackView) (f : Found) (t : Slices) (s u : State) → AreSteady x → f.disks ≡ disks_of x → (amid : RecoversBetween f t s u (now_in x))
    → HoldSound x amid.still.now × MayStop x amid.still.now × MayReplay (disks_of x) (now_in x) amid.still.now × TargetsLand amid.still.now
holds_amid x f t s u steady same amid =
    let lower = subst (λ (disks : Disks). TakesLowerIn disks (now_in x)) same amid.lower in
    (holds_still x f t amid.state steady same amid.still, inr (inr amid.apart, inr (amid.stood.stood, lower)), inr (amid.stood, lower), inr amid.apart)

-- And so it is where an opening was stopped.
pub holds_opened : (x : RackView) (f : Found) (from : ℕ) → AreSteady x → f.disks ≡ disks_of x → (opened : RecoversInOpening f from (now_in x))
    → HoldSound x opened.now × MayStop x opened.now × MayReplay (disks_of x) (now_in x) opened.now × TargetsLand opened.now
holds_opened x f from steady same opened = (
  record {
    steady = steady;
    found_is = ap (λ (disks : Disks). found disks (now_in x)) (sym same) ∙ opened.found_is;
    sound = opened.sound;
    logs = subst (λ (disks : Disks). HasSoundLogs disks (now_in x)) same opened.logs;
  },
  elim opened.stops [
    | inl idle ↦ inl (λ before at. idle before (ap (λ (disks : Disks). standing disks (now_in x)) same ∙ at))
    | inr amid ↦ inr (inr opened.apart, inr (amid.0.stood, subst (λ (disks : Disks). TakesLowerIn disks (now_in x)) same amid.1))
  ],
  subst (λ (disks : Disks). MayReplay disks (now_in x) opened.now) same opened.stops,
  inr opened.apart,
)

-- Disks that are attached with what it left, inside them, hold the pool that it left, which is opened again so that stops are told of that opening too.
pub holds_left : (x : RackView) (f : Found) (from : ℕ) (i : Image) → AreSteady x → f.disks ≡ disks_of x → RecoversInOpening f from i → Agree f.disks (now_in x) i
    → (opened : RecoversInOpening f from (now_in x)) × HoldSound x opened.now × MayReplay (disks_of x) (now_in x) opened.now × TargetsLand opened.now
holds_left x f from i steady same holds agree =
    let opened = agree_opened f from i (now_in x) holds agree in
    let asks = holds_opened x f from steady same opened in
    (opened, asks.0, asks.2, asks.3)
