-- What contents hold of a pool goes by its disks, its seats, and the number and the sectors of its arrays, and by bounds of the state.
use Rattle.std.proofs.Common.{◌≡◌, ℕ, ◌<◌, Option, sym, ap, subst, ◌∙◌}
use Rattle.rack.specs.Seen.{Image}
use Rattle.slice_rack.specs.Slices.{Slices}
use Rattle.pool_state.specs.declared.contents.State.{State}
use Rattle.raid_laws.specs.Book.{OnlyMarksSince, after_then}
use Rattle.pool_image.specs.Disks.{Disks}
use Rattle.pool_image.specs.Drives.{Found, found}
use Rattle.pool_image.specs.Meaning.{array_sectors}
use Rattle.pool_rest.specs.Moments.{TakesLowerIn}
use Rattle.pool_rest.specs.SoundLogs.{HasSoundLogs}
use Rattle.pool_model.specs.Stopped.{RecoversInCall}

-- They hold another one that has the same ones, by a state between wider bounds.
pub amid_likewise : (f g : Found) (t : Slices) (s u r w : State) (i : Image) → g.disks ≡ f.disks → g.seats ≡ f.seats → g.state.made ≡ f.state.made
    → ((n : ℕ) → n < f.state.made → array_sectors g n ≡ array_sectors f n) → OnlyMarksSince r s → OnlyMarksSince u w → RecoversInCall f t s u i → RecoversInCall g t r w i
amid_likewise f g t s u r w i disks seats made sectors from until amid = record {
  between = record {
    state = amid.between.state;
    later = after_then r s amid.between.state from amid.between.later;
    sooner = after_then amid.between.state u w amid.between.sooner until;
    still = record {
      now = amid.between.still.now;
      found_is = ap (λ (z : Disks). found z i) disks ∙ amid.between.still.found_is;
      sound = amid.between.still.sound;
      logs = subst (λ (z : Disks). HasSoundLogs z i) (sym disks) amid.between.still.logs;
      state = amid.between.still.state;
      seats = λ p now. amid.between.still.seats p now ∙ sym (ap (λ (z : ℕ → Option ℕ). z p) seats);
      slices = amid.between.still.slices;
      joined = amid.between.still.joined;
      alone = amid.between.still.alone;
      sectors = λ n low. let less = subst (λ k. n < k) made low in amid.between.still.sectors n less ∙ sym (sectors n less);
      is_state = amid.between.still.is_state;
      truths = λ n low. amid.between.still.truths n (subst (λ k. n < k) made low);
      shapes = λ n low. amid.between.still.shapes n (subst (λ k. n < k) made low);
      values = λ n x low. amid.between.still.values n x (subst (λ k. n < k) made low);
    };
    apart = amid.between.apart;
    stood = amid.between.stood;
    lower = subst (λ (z : Disks). TakesLowerIn z i) (sym disks) amid.between.lower;
  };
  present = amid.present;
}
