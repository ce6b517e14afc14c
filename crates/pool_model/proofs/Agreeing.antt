-- Contents that agree inside the disks with some that hold a pool as a stop inside an opening leaves it hold it too.
use Rattle.std.proofs.Common.{◌≡◌, ℕ, Option, Some, None, option_map, refl, sym, ap, subst, ◌∙◌}
use Rattle.std.specs.Option.{option_and_then}
use Rattle.std.proofs.lemmas.Option.{none-some}
use Rattle.rack.specs.Seen.{Image}
use Rattle.pool_state.specs.declared.contents.State.{State}
use Rattle.array_image.specs.States.{is_current}
use Rattle.array_core.proofs.Stripped.{some_same}
use Rattle.raid_laws.specs.Book.{OnlyMarksSince}
use Rattle.raid_laws.specs.Reach.{KeepsReach}
use Rattle.pool_image.specs.Alike.{Agree, IsSamePool, MeansTheSame}
use Rattle.pool_image.specs.Disks.{Disks, identities_of, newest, seat_of}
use Rattle.pool_image.specs.Drives.{Found, found, found_by}
use Rattle.pool_image.specs.Replay.{Standing, standing, standing_by, written}
use Rattle.pool_image.specs.Volumes.{Arrays}
use Rattle.pool_image.proofs.Founds.{damage_same, joined_same, shapes_same}
use Rattle.pool_image.proofs.Rested.{stood_by}
use Rattle.pool_rest.specs.SoundLogs.{HasSoundLogs}
use Rattle.pool_rest.proofs.Unwritten.{agreeing_mean}
use Rattle.pool_model.specs.Openings.{RecoversInOpening, MayReplay}
use Rattle.pool_model.proofs.Found.{found_is}
use Rattle.pool_model.proofs.LackingRows.{dirty_same}
use Rattle.pool_model.proofs.Rereading.{agree_holds}

some_newest : (f : Found) (g : State → Found) (o : Option State) → option_map g o ≡ Some f → (z : State) × (o ≡ Some z)
some_newest f g None has = absurd (none-some f has)
some_newest f g (Some z) has = (z, refl)

-- contents that agree with some of a pool have the same one
agree_means : (disks : Disks) (c i : Image) (f : Found) → found disks c ≡ Some f → HasSoundLogs disks c → Agree disks i c → MeansTheSame disks c i
unfolding found
agree_means disks c i f found_before logs agree =
    let by = stood_by disks c logs.before logs.stands in
    let stands : standing disks c ≡ Some (standing_by disks c by.0) = logs.stands ∙ ap Some by.2 in
    let new =
    some_newest f
    (λ s. record {
      disks = disks;
      before = standing_by disks c by.0;
      contents = written disks (standing_by disks c by.0) c;
      identities = identities_of disks (written disks (standing_by disks c by.0) c);
      state = s;
      seats = seat_of s disks (identities_of disks (written disks (standing_by disks c by.0) c));
    })
    (newest disks (identities_of disks (written disks (standing_by disks c by.0) c)))
    (sym (ap (option_and_then (λ (x : Standing). found_by disks x (written disks x c))) stands) ∙ found_before) in
    agreeing_mean disks c i by.0 new.0 stands new.1 agree

pub agree_opened : (f : Found) (from : ℕ) (c i : Image) → RecoversInOpening f from c → Agree f.disks i c → RecoversInOpening f from i
agree_opened f from c i holds agree =
    let h = holds.now in
    let disks : h.disks ≡ f.disks = (found_is f.disks c h holds.found_is).1 in
    let again = agree_holds f.disks c i h holds.found_is holds.sound holds.logs holds.apart holds.alone holds.stops agree in
    let means = agree_means f.disks c i h holds.found_is holds.logs agree in
    let found_now : found f.disks i ≡ Some again.now = ap (λ (k : Disks). found k i) (sym disks) ∙ again.found_is in
    let is : IsSamePool h again.now =
    subst (IsSamePool h) (some_same means.now again.now (sym means.found_now ∙ found_now))
    (subst (λ (k : Found). IsSamePool k means.now) (some_same means.before h (sym means.found_before ∙ holds.found_is)) means.pool) in
    record {
      now = again.now;
      found_is = found_now;
      sound = again.sound;
      logs = subst (λ (k : Disks). HasSoundLogs k i) disks again.logs;
      after = subst (λ (z : State). OnlyMarksSince f.state z) (sym is.state) holds.after;
      plan = ap (λ (z : State). z.plan) is.state ∙ holds.plan;
      marks = λ p counts past. holds.marks p counts (sym (ap (λ (z : State). is_current z p) is.state) ∙ past);
      seats = λ p counts. is.seats p ∙ holds.seats p (sym (ap (λ (z : State). is_current z p) is.state) ∙ counts);
      values = λ n x low behind inside. ap (λ (k : Arrays). k.contents n x) (joined_same h again.now is) ∙ holds.values n x low behind inside;
      apart = again.apart;
      alone = again.alone;
      stops = subst (λ (k : Disks). MayReplay k i again.now) disks again.stops;
      sectors = λ n low. ap (λ (k : Arrays). k.sectors n) (joined_same h again.now is) ∙ holds.sectors n low;
      reach = λ n before left low was now.
          subst (λ (z : State). KeepsReach z before left) (sym is.state) (holds.reach n before left low was (sym (shapes_same h again.now is n) ∙ now));
      unsynced = λ n low dirty. holds.unsynced n low (sym (dirty_same h again.now is n) ∙ dirty);
      parts = λ p now none. damage_same h again.now is p ∙ holds.parts p (sym (ap (λ (z : State). is_current z p) is.state) ∙ now) none;
      one_pool = λ had. again.one_pool (holds.one_pool had);
    }
