-- A pool that was brought to rest is the one that the disks held before.
use Rattle.std.proofs.Common.{◌≡◌, ◌<◌, Bool, true, false, not, bytes_eq, ◌∷◌, [], Option, Some, None, option_map, refl, sym, ap, ap₂, subst, ◌∙◌, arith}
use Rattle.std.specs.Option.{option_map_or}
use Rattle.array_core.proofs.Stripped.{some_same}
use Rattle.rack.specs.Seen.{RackView, SameRack}
use Rattle.rack.specs.Joins.{rose_before, rose_since}
use Rattle.rack.specs.Sequences.{OnlyReads}
use Rattle.slice_rack.specs.SliceRack.{below_of, tables}
use Rattle.pool_state.specs.declared.contents.Copied.{Copied}
use Rattle.pool_state.specs.declared.contents.State.{State}
use Rattle.lvm_text.specs.declared.group.Group.{Group}
use Rattle.pool_image.specs.Disks.{Disks, Identities, Identity, disks_of, identities_of}
use Rattle.pool_image.specs.Drives.{Found, found}
use Rattle.pool_image.specs.Meaning.{Refusal, arrays_held, has_other_pool, joined_arrays, meaning, refusal_of, refused_by, volume_by, volumes_of}
use Rattle.pool_image.specs.Replay.{standing_by}
use Rattle.pool_image.specs.Volumes.{linear_of}
use Rattle.pool_image.specs.Alike.{IsSamePool, MeansTheSame}
use Rattle.pool_image.proofs.Founds.{truths_same}
use Rattle.pool_image.proofs.SoundSame.{sound_same}
use Rattle.pool_scan.specs.Scanning.{AllTold, IsUnfaulted, now_in}
use Rattle.pool_scan.proofs.Meant.{scan_meant}
use Rattle.pool_rest.proofs.Unwritten.{means_then, reads_mean}
use Rattle.pool_rest.specs.declared.resting.AtRest.{AtRest}
use Rattle.pool_rest.specs.Resting as resting
use Rattle.pool_rest.specs.Resting.{StandsNow}
use Rattle.pool_rest.specs.SoundLogs.{HasSoundLogs, IsSettled}
use Rattle.pool_rest.specs.Standing.{FindsAll, IsLasting, IsNewest, since}
use Rattle.pool_model.specs.Pools.{IsSoundPool}
use Rattle.pool_model.proofs.Found.{found_is}
use Rattle.pool_model.proofs.Refused.{IsOnlyPool}
use Rattle.pool_model.specs.Grouped.{IsVolumeOf}
use Rattle.assembler_laws.specs.Holding.{IsFoundOn}
use Rattle.assembler.specs.Sound.{HoldSound}
use Rattle.assembler_laws.proofs.Agreeing.{none_passes}
use Rattle.assembler_laws.proofs.Finding.{same as found_same}
use Rattle.assembler.proofs.Meaning.{refusal_is}

-- where no disk refused a call in all, none did in a part
pub quiet_first : (a b c : RackView) → SameRack b c → IsUnfaulted a c → IsUnfaulted a b
quiet_first a b c stays quiet d rose = quiet d (rose_before (stays.faults d) rose)

pub quiet_last : (a b c : RackView) → SameRack a b → IsUnfaulted a c → IsUnfaulted b c
quiet_last a b c stays quiet d rose = quiet d (rose_since (stays.faults d) rose)

-- What an opening knows of a pool that was brought to rest, where the disks held a sound one and none refused a call.
pub record IsRested {R : Type 0} (seen : R → RackView) (a : RackView) (rest : AtRest R) : Type 0 where
  pub stays : SameRack a (seen (below_of rest.slices))
  pub quiet : IsUnfaulted a (seen (below_of rest.slices))
  pub newest : IsNewest (since a (seen (below_of rest.slices))) (seen (below_of rest.slices)) rest.scan.disks.items rest.state
  pub stands : StandsNow (seen (below_of rest.slices)) rest.state rest.log rest.pending rest.damaged
  pub settled : IsSettled a (seen (below_of rest.slices)) rest.state rest.pending rest.damaged
  pub steady : resting.AreSteady (seen (below_of rest.slices))
  pub finds : FindsAll (seen (below_of rest.slices)) (tables rest.slices) rest.on.items rest.log rest.pending rest.damaged
  pub single :
      has_other_pool (disks_of (seen (below_of rest.slices)))
      (standing_by (disks_of (seen (below_of rest.slices))) (now_in (seen (below_of rest.slices))) rest.state) ≡ false

pub rested_so : {R : Type 0} (seen : R → RackView) (a : RackView) (rest : AtRest R) (e : Found) (sound : HoldSound a e)
    → SameRack a (seen (below_of rest.slices)) → IsUnfaulted a (seen (below_of rest.slices))
    → (AllTold a → IsLasting a → IsNewest (since a (seen (below_of rest.slices))) (seen (below_of rest.slices)) rest.scan.disks.items rest.state)
    → (AllTold a → IsLasting a → IsUnfaulted a (seen (below_of rest.slices)) → StandsNow (seen (below_of rest.slices)) rest.state rest.log rest.pending rest.damaged)
    → (AllTold a → IsLasting a → IsUnfaulted a (seen (below_of rest.slices)) → HasSoundLogs (disks_of a) (now_in a)
    → IsSettled a (seen (below_of rest.slices)) rest.state rest.pending rest.damaged)
    → (AllTold a → IsLasting a → IsUnfaulted a (seen (below_of rest.slices)) → resting.AreSingle a → resting.AreSectors a → resting.AreSteady (seen (below_of rest.slices)))
    → (AllTold a → IsLasting a → IsUnfaulted a (seen (below_of rest.slices))
    → FindsAll (seen (below_of rest.slices)) (tables rest.slices) rest.on.items rest.log rest.pending rest.damaged)
    → (AllTold a → IsLasting a → IsUnfaulted a (seen (below_of rest.slices))
    → has_other_pool (disks_of (seen (below_of rest.slices)))
    (standing_by (disks_of (seen (below_of rest.slices))) (now_in (seen (below_of rest.slices))) rest.state) ≡ false)
    → IsRested seen a rest
rested_so seen a rest e sound stays quiet newest stands settled steady finds single =
    let told = sound.steady.told in
    let lasts = sound.steady.lasts in
    record {
      stays = stays;
      quiet = quiet;
      newest = newest told lasts;
      stands = stands told lasts quiet;
      settled = settled told lasts quiet sound.logs;
      steady = steady told lasts quiet sound.steady.single sound.steady.sized;
      finds = finds told lasts quiet;
      single = single told lasts quiet;
    }

module _ {R : Type 0} (seen : R → RackView) (a : RackView) (rest : AtRest R) (e : Found) (sound : HoldSound a e) (rested : IsRested seen a rest) where
  abbrev x : RackView
  x = seen (below_of rest.slices)

  abbrev stays : SameRack a x
  stays = rested.stays

  abbrev means : MeansTheSame (disks_of a) (now_in a) (now_in x)
  means = rested.settled.means

  -- the pool now
  abbrev pub f : Found
  f = means.now

  disks_same : disks_of a ≡ disks_of x
  disks_same = ap₂ (λ count sectors. record { count = count; sectors = sectors }) (sym stays.disks) (λ i d. sym (stays.sectors d) i)

  pub pool_same : IsSamePool e f
  pool_same = subst (λ (k : Found). IsSamePool k f) (some_same means.before e (sym means.found_before ∙ sound.found_is)) means.pool

  told : AllTold x
  told d disk = stays.told d (sound.steady.told d (subst (λ n. d < n) stays.disks disk))

  sound_now : IsSoundPool f
  sound_now = record {
    rules = sound_same e f pool_same sound.sound.rules;
    own = λ n u low is. sound.sound.own n u (subst (λ (k : State). n < k.made) pool_same.state low) (sym (truths_same e f pool_same n) ∙ is);
  }

  pub rest_found : IsFoundOn x rest.scan.disks.items rest.state (tables rest.slices) rest.on.items rest.log rest.pending rest.damaged f
  rest_found = record {
    steady = record {
      told = told;
      lasts = record {
        lasting = stays.lasting sound.steady.lasts.lasting;
        unspent = λ d u. stays.lasts sound.steady.lasts.lasting d u (sound.steady.lasts.unspent d u);
      };
      single = rested.steady.single;
      sized = rested.steady.sized;
    };
    found_is = subst (λ (k : Disks). found k (now_in x) ≡ Some f) disks_same means.found_now;
    scan = scan_meant (since a x) x rest.scan.disks.items rested.newest.scan told rested.quiet;
    stands = rested.stands;
    finds = rested.finds;
    rested = rested.settled.idle;
    sound = sound_now;
  }

  -- what is refused of the disks is what they are refused for now
  pub refusal_entry : refusal_of (disks_of a) (now_in a) ≡ refused_by f
  refusal_entry =
      sym means.refusal
      ∙ ap (λ (k : Disks). refusal_of k (now_in x)) disks_same
      ∙ refusal_is x rest.scan.disks.items rest.state (tables rest.slices) rest.on.items rest.log rest.pending rest.damaged f rest_found
      rested.settled.whole rested.single

  -- and where nothing is, they mean the volume of the pool's group
  pub meaning_entry : refused_by f ≡ None → (l : _) (of : IsVolumeOf f l) → meaning (disks_of a) (now_in a) ≡ Some (volume_by (linear_of (joined_arrays f) of.group) (arrays_held f) ∷ [])
  unfolding meaning
  meaning_entry none l of =
      sym means.meaning
      ∙ ap (λ (o : Option Refusal). option_map_or (λ why. None) o (option_map volumes_of (found (disks_of a) (now_in x)))) (means.refusal ∙ refusal_entry ∙ none)
      ∙ ap (option_map volumes_of) means.found_now
      ∙ ap (λ (o : Option Group). Some (option_map_or (λ group. volume_by (linear_of (joined_arrays f) group) (arrays_held f) ∷ []) o [])) of.group_is

  -- disks that were only read since mean what they meant
  pub means_still : (y : RackView) → OnlyReads x y → MeansTheSame (disks_of a) (now_in a) (now_in y)
  means_still y reads =
      means_then (disks_of a) (now_in a) (now_in x) (now_in y) means
      (subst (λ (k : Disks). MeansTheSame k (now_in x) (now_in y)) (sym disks_same)
      (reads_mean x y f reads rest_found.steady.told rest_found.steady.lasts rest_found.found_is))

  -- each disk that says a pool says this one
  pub only_pool : IsOnlyPool e
  only_pool d copy low here =
      let is = found_same x rest.scan.disks.items rest.state (tables rest.slices) rest.on.items rest.log rest.pending rest.damaged f rest_found in
      let ids : Identities = identities_of (disks_of x) (now_in x) in
      let said : (ids d).copied ≡ Some copy = ap (λ (j : Found). (j.identities d).copied) is ∙ ap (λ (k : Identity). k.copied) (pool_same.all d low) ∙ here in
      let disk : d < x.disks = subst (λ (k : Disks). d < k.count) ((found_is (disks_of a) (now_in a) e sound.found_is).1 ∙ disks_same) low in
      let other : State → Option Copied → Bool = λ s o. option_map_or (λ (k : Copied). not (bytes_eq k.state.pool.0 s.pool.0)) o false in
      not_not (bytes_eq copy.state.pool.0 e.state.pool.0)
      (sym (ap₂ other (ap (λ (j : Found). j.state) is ∙ pool_same.state) said)
      ∙ none_passes (λ q. other rest.state (ids q).copied) 0 x.disks d rested.single (omega arith) (omega (arith, disk)))
    where
      not_not : (b : Bool) → not b ≡ false → b ≡ true
      not_not true is = refl
      not_not false is = sym is
