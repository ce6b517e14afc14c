-- Whether a log is damaged goes by the log slices alone.
use Rattle.std.proofs.Common.{◌≡◌, Bool, true, false, not, ◌==◌, refl, sym, ap, subst, ◌∙◌}
use Rattle.std.proofs.lemmas.Bool.{both_ways, eqb-true}
use Rattle.rack.specs.Values.{MayLeave}
use Rattle.rack.specs.Seen.{Image, RackView, IsLive}
use Rattle.array_image.specs.Places.{log_slice, place_of, slice_of}
use Rattle.array_image.proofs.Replays.{SameLogs, whole_same}
use Rattle.log_laws.specs.Standing.{IsWhole, LogsStand}
use Rattle.log_laws.specs.Commits.{Stands}
use Rattle.commit_log.proofs.Amid.{log_of_place}
use Rattle.commit_log.proofs.Committing.{off_log, on_log}
use Rattle.commit_log.proofs.Restored.{restored, restored_inside, restored_picks, restored_there}

-- contents of which the log slices are as a stop may leave them, whatever stands elsewhere
pub whole_logs : (x : RackView) → ((c : Image) → Stands x c → IsWhole c) → (c : Image) → LogsStand x c → IsWhole c
whole_logs x whole c stand =
    let e : Image = restored off_log x c in
    whole_same c e (λ p t. sym (restored_there off_log x c (log_slice p) t (on_log p t)))
    (whole e (record {
      picks = restored_picks off_log x c (λ d t live here.
          let slice : slice_of d ≡ 0 = eqb-true (slice_of d) 0 (not_false (slice_of d == 0) here) in
          subst (λ k. MayLeave (x.held k t) (c k t)) (log_of_place d slice)
          (stand.picks (place_of d) t (subst (λ k. IsLive x x k t) (sym (log_of_place d slice)) live)));
      inside = restored_inside off_log x c (λ p t past. on_log p t) stand.inside;
    }))
  where
    not_false : (b : Bool) → not b ≡ false → b ≡ true
    not_false true is = refl
    not_false false is = absurd (both_ways true is refl)
