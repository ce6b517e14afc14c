-- Whether disks say another pool than theirs: before a pool's record is replayed, once it was, and as other contents have it.
use Rattle.std.proofs.Common.{◌≡◌, ℕ, ◌<◌, Bool, true, false, not, bytes_eq, if◌then◌else◌, List, Option, Some, None, refl, sym, ap, subst, ◌∙◌, inl, inr, arith}
use Rattle.std.specs.Option.{option_map_or}
use Rattle.std.proofs.lemmas.Bool.{both_ways, cases_Bool}
use Rattle.std.proofs.lemmas.Option.{none-some}
use Rattle.std.proofs.lemmas.Slice.Eq.{bytes_eq-Decides}
use Rattle.rack.specs.Seen.{Image}
use Rattle.shr_base.specs.declared.Id.{Id}
use Rattle.pool_state.specs.declared.contents.Copied.{Copied}
use Rattle.pool_state.specs.declared.contents.State.{State}
use Rattle.array_image.specs.States.{current_places}
use Rattle.array_core.proofs.Stripped.{some_same}
use Rattle.commit_log.proofs.Replaying.{IsSound, pending_sound}
use Rattle.pool_image.specs.Alike.{IsSamePool}
use Rattle.pool_image.specs.Disks.{Disks, Identities, Identity, identities_of, newest}
use Rattle.pool_image.specs.Drives.{Found, found}
use Rattle.pool_image.specs.Meaning.{has_other_pool, no_pool, refusal_of, refused_at, refused_by, two_pools}
use Rattle.pool_image.specs.Replay.{Standing, standing, standing_by, written}
use Rattle.pool_image.proofs.Rested.{stood_by}
use Rattle.pool_rest.specs.Moments.{StandsReplaying}
use Rattle.pool_rest.specs.Resting.{seated_state}
use Rattle.pool_rest.specs.SoundLogs.{HasSoundLogs, IsSoundLog}
use Rattle.pool_rest.proofs.BroughtCopies.{other_still}
use Rattle.pool_rest.proofs.Midway.{still_stands}
use Rattle.pool_rest.proofs.MidwayPool.{found_was, was}
use Rattle.pool_scan.specs.Choosing.{has_pool_other_than}
use Rattle.pool_model.specs.Openings.{HadOnePool, HaveOnePool}
use Rattle.pool_model.proofs.Found.{found_stands}
use Rattle.pool_model.proofs.Settled.{IsIdlePool}
use Rattle.pool_model.proofs.Unrefused.{any_none, none_any}

-- ---- copies

-- all copies are of one pool
abbrev AreOfPool : Disks → Identities → Id → Type 0
AreOfPool disks ids pool = (d : ℕ) (copy : Copied) → d < disks.count → (ids d).copied ≡ Some copy → copy.state.pool ≡ pool

none_other : (disks : Disks) (ids : Identities) (pool : Id) → AreOfPool disks ids pool → has_pool_other_than pool.0 disks ids ≡ false
none_other disks ids pool own =
    none_any (λ d. option_map_or (λ copy. not (bytes_eq copy.state.pool.0 pool.0)) (ids d).copied false) 0 disks.count
    (λ d low. by d (omega (arith, low)) (ids d).copied refl)
  where
    by : (d : ℕ) → d < disks.count → (o : Option Copied) → (ids d).copied ≡ o → option_map_or (λ copy. not (bytes_eq copy.state.pool.0 pool.0)) o false ≡ false
    by d low None here = refl
    by d low (Some copy) here = ap not ((bytes_eq-Decides copy.state.pool.0 pool.0).1 (ap (λ (k : Id). k.0) (own d copy low here)))

own_copies : (disks : Disks) (ids : Identities) (pool : Id) → has_pool_other_than pool.0 disks ids ≡ false → AreOfPool disks ids pool
own_copies disks ids pool none d copy low here =
    elim (cases_Bool (bytes_eq copy.state.pool.0 pool.0)) [
      | inl same ↦ ap (λ (bytes : List ℕ). let id : Id = record { 0 = bytes } in id) ((bytes_eq-Decides copy.state.pool.0 pool.0).0 same)
      | inr other ↦ absurd (both_ways (not (bytes_eq copy.state.pool.0 pool.0)) is (ap not other))
    ]
  where
    is : not (bytes_eq copy.state.pool.0 pool.0) ≡ false
    is =
        sym (ap (λ (o : Option Copied). option_map_or (λ copy. not (bytes_eq copy.state.pool.0 pool.0)) o false) here)
        ∙ any_none (λ d. option_map_or (λ copy. not (bytes_eq copy.state.pool.0 pool.0)) (ids d).copied false) 0 disks.count d none (omega arith) (omega (arith, low))

-- ---- a pool with sound logs

-- a disk said before the replay what it says as it stands
pub stood_as : (disks : Disks) (c : Image) (f : Found) → found disks c ≡ Some f → (d : ℕ) → f.before.identities d ≡ identities_of disks c d
stood_as disks c f found_now d = ap (λ (x : Standing). x.identities d) (stood_by disks c f.before (found_stands disks c f found_now)).2

module _ (disks : Disks) (c : Image) (s0 : State) (newest_is : newest disks (identities_of disks c) ≡ Some s0)
    (log : IsSoundLog disks c (standing_by disks c s0) (seated_state (standing_by disks c s0).targets s0)) where
  abbrev s : State
  s = seated_state (standing_by disks c s0).targets s0

  mid : StandsReplaying disks s0 (seated_state (standing_by disks c s0).targets s0) (standing_by disks c s0).targets c c
  mid = still_stands disks s0 s (standing_by disks c s0).targets c c (λ d u low within. refl)

  abbrev g : Found
  g = was disks c c s0 newest_is log mid

  sound : IsSound (standing_by disks c s0).targets
  sound = pending_sound (current_places s0) (standing_by disks c s0).logs

  one_before : has_other_pool disks (standing_by disks c s0) ≡ false → HadOnePool g
  one_before none d copy low here = own_copies disks (identities_of disks c) s0.pool none d copy low here ∙ sym log.pool

  none_before : HadOnePool g → has_other_pool disks (standing_by disks c s0) ≡ false
  none_before had = none_other disks (identities_of disks c) s0.pool (λ d copy low here. had d copy low here ∙ log.pool)

  -- the record brings copies of this pool alone
  one_written : HadOnePool g → HaveOnePool g
  one_written had =
      own_copies disks (identities_of disks (written disks (standing_by disks c s0) c)) s.pool
      (other_still disks c s (standing_by disks c s0).targets sound.valid sound.apart log.copies (none_other disks (identities_of disks c) s.pool had))

-- contents with sound logs have that pool
by_log : (disks : Disks) (c : Image) (f : Found) → found disks c ≡ Some f → HasSoundLogs disks c → (P : Found → Type 0)
    → ((s0 : State) (newest_is : newest disks (identities_of disks c) ≡ Some s0)
    (log : IsSoundLog disks c (standing_by disks c s0) (seated_state (standing_by disks c s0).targets s0)) → P (g disks c s0 newest_is log))
    → P f
by_log disks c f found_now logs P each =
    let by = stood_by disks c logs.before logs.stands in
    let stands : standing disks c ≡ Some (standing_by disks c by.0) = logs.stands ∙ ap Some by.2 in
    let log : IsSoundLog disks c (standing_by disks c by.0) (seated_state (standing_by disks c by.0).targets by.0) =
    subst (λ (x : Standing). IsSoundLog disks c x (seated_state x.targets x.state)) by.2 logs.log in
    subst P
    (some_same (g disks c by.0 by.1 log) f (sym (found_was disks c c by.0 by.1 log (mid disks c by.0 by.1 log) stands) ∙ found_now))
    (each by.0 by.1 log)

-- no disk has another pool's state once the record is replayed, where none had one before
pub one_after : (disks : Disks) (c : Image) (f : Found) → found disks c ≡ Some f → HasSoundLogs disks c → HadOnePool f → HaveOnePool f
one_after disks c f found_now logs =
    by_log disks c f found_now logs (λ h. HadOnePool h → HaveOnePool h) (λ s0 newest_is log. one_written disks c s0 newest_is log)

-- then no other pool is found
pub none_stood : (disks : Disks) (c : Image) (f : Found) → found disks c ≡ Some f → HasSoundLogs disks c → HadOnePool f → has_other_pool disks f.before ≡ false
none_stood disks c f found_now logs =
    by_log disks c f found_now logs (λ h. HadOnePool h → has_other_pool disks h.before ≡ false) (λ s0 newest_is log. none_before disks c s0 newest_is log)

-- So it was of contents that aren't refused.
pub unrefused_one : (disks : Disks) (c : Image) (f : Found) → found disks c ≡ Some f → HasSoundLogs disks c → refusal_of disks c ≡ None → HadOnePool f
unfolding refusal_of
unrefused_one disks c f found_now logs none =
    by_log disks c f found_now logs (λ h. has_other_pool disks h.before ≡ false → HadOnePool h) (λ s0 newest_is log. one_before disks c s0 newest_is log)
    (of (has_other_pool disks f.before) refl (sym (ap (λ o. option_map_or (refused_at disks c) o (Some no_pool)) (found_stands disks c f found_now)) ∙ none))
  where
    of : (b : Bool) → has_other_pool disks f.before ≡ b → (if b then Some two_pools else option_map_or refused_by (found disks c) (Some no_pool)) ≡ None
        → has_other_pool disks f.before ≡ false
    of true other at = absurd (none-some two_pools (sym at))
    of false one at = one

-- The same pool at rest stands so, where what it was had one pool.
pub one_rested : (disks : Disks) (c : Image) (e : Found) → found disks c ≡ Some e → HasSoundLogs disks c → (later : Disks) (i : Image) (f : Found) → IsIdlePool later i f
    → IsSamePool e f → HadOnePool e → HadOnePool f
one_rested disks c e found_now logs later i f idle same had = subst (λ (h : Found). HaveOnePool h → HadOnePool h) idle.same (λ one. one) rests
  where
    rests : HaveOnePool f
    rests d copy low here =
        let there : d < e.disks.count = subst (λ (k : Disks). d < k.count) same.disks low in
        one_after disks c e found_now logs had d copy there (sym (ap (λ (z : Identity). z.copied) (same.all d there)) ∙ here)
        ∙ sym (ap (λ (z : State). z.pool) same.state)
