-- Contents of disks as a stop in the replay of their pending record leaves them hold the same pool; and so do those that agree with them, whatever is pending.
use Rattle.std.proofs.Common.{◌≡◌, ◌⊎◌, ℕ, suc, ◌<◌, ◌≤◌, false, [], Option, Some, refl, sym, ap, ap₂, subst, ◌∙◌, inl, inr, arith}
use Rattle.std.specs.Option.{option_map_or}
use Rattle.std.proofs.lemmas.Bool.{both_ways}
use Rattle.rack.specs.Seen.{Image}
use Rattle.md_super.specs.declared.superblock.Super.{Super}
use Rattle.pool_state.specs.declared.contents.Copied.{Copied}
use Rattle.pool_state.specs.declared.contents.State.{State}
use Rattle.array_image.specs.Places.{arrays_first, state_sector}
use Rattle.array_image.specs.States.{is_current}
use Rattle.array_image.specs.Supers.{is_named, is_unclean}
use Rattle.array_core.proofs.Stripped.{some_same}
use Rattle.log_laws.specs.Kept.{IsNoLater}
use Rattle.raid_laws.specs.Book.{OnlyMarksSince, after_same}
use Rattle.raid_laws.specs.Reach.{KeepsReach, reach_same}
use Rattle.pool_image.specs.Alike.{Agree, IsSamePool}
use Rattle.pool_image.specs.Disks.{Disks, Identities, Identity, identities_of, newest}
use Rattle.pool_image.specs.Drives.{Found, found}
use Rattle.pool_image.specs.Meaning.{is_member}
use Rattle.pool_image.specs.Replay.{Standing, extent_by, standing, standing_by, written}
use Rattle.pool_image.specs.Volumes.{Arrays}
use Rattle.pool_image.proofs.Founds.{damage_same, joined_same, lies_same, shapes_same, truths_same}
use Rattle.pool_image.proofs.Identities.{seat_inside}
use Rattle.pool_image.proofs.Rested.{stood_by}
use Rattle.pool_image.proofs.SoundSame.{sound_same}
use Rattle.pool_rest.specs.Moments.{AreGatesKept, AreStatesKept, StandsBrought, StandsMidway, StandsReplaying}
use Rattle.pool_rest.specs.Resting.{seated_state}
use Rattle.pool_rest.specs.SoundLogs.{HasSoundLogs, IsSoundLog}
use Rattle.pool_rest.proofs.LaterCopies.{IsCopied, newest_latest}
use Rattle.pool_rest.proofs.Midway.{still_stands}
use Rattle.pool_rest.proofs.MidwayDisks.{copy_room, new_copy, seats_written}
use Rattle.pool_rest.proofs.MidwayPool.{copied_or, early, early_found, early_ids, early_logs, early_lower, early_pool, found_was, late, late_found, late_logs, late_lower, late_pool, stands_late, stands_so, targets_late, was}
use Rattle.pool_model.specs.Left.{NoStraySuperblock}
use Rattle.pool_model.specs.Openings.{HadOnePool, RecoversInOpening, IsIdleIn, MayReplay}
use Rattle.pool_model.specs.Pools.{IsSoundPool}
use Rattle.pool_model.specs.Stopped.{LieApart, StoodInLog}
use Rattle.pool_model.proofs.Found.{found_is, some_made}
use Rattle.pool_model.proofs.LackingRows.{dirty_unsynced}
use Rattle.pool_model.proofs.SameAlone.{own_alone}

-- ---- the same pool but for gates

pub same_sound : (f g : Found) → IsSamePool f g → IsSoundPool f → IsSoundPool g
same_sound f g same sound = record {
  rules = sound_same f g same sound.rules;
  own = λ n u low truth. sound.own n u (subst (λ (s : State). n < s.made) same.state low) (sym (truths_same f g same n) ∙ truth);
}

-- where the pool's targets lie apart they do so
pub same_apart : (f g : Found) → IsSamePool f g → LieApart f → LieApart g
same_apart f g same apart m n p d a b less low seat none member lies there =
    let was : f.seats p ≡ Some d = sym (same.seats p) ∙ seat in
    let members : (k : ℕ) → is_member g k p ≡ is_member f k p = λ k. ap (λ (o : Option Super). option_map_or (λ t. is_named t p) o false) (truths_same f g same k) in
    apart m n p d a b less (subst (λ (s : State). n < s.made) same.state low) was (sym (members m) ∙ none) (sym (members n) ∙ member)
    (ap₂ (λ (k : Disks) (z : Identity). extent_by (k.sectors d) z.table (suc m)) (sym same.disks) (sym (same.identities p d was)) ∙ lies)
    (sym (lies_same f g same (suc n)) ∙ there)

-- contents that have it hold the pool, where their logs are sound and what is pending there may be replayed, and no disk has another pool's state
pub same_holds : (disks : Disks) (i : Image) (f g : Found) → f.disks ≡ disks → found disks i ≡ Some g → IsSamePool f g → IsSoundPool f → HasSoundLogs disks i → LieApart f → NoStraySuperblock f f.contents
    → MayReplay disks i g → (HadOnePool f → HadOnePool g)
    → RecoversInOpening f 0 i
same_holds disks i f g on found_now same sound logs apart alone may one = record {
  now = g;
  found_is = ap (λ (d : Disks). found d i) on ∙ found_now;
  sound = same_sound f g same sound;
  logs = subst (λ (d : Disks). HasSoundLogs d i) (sym on) logs;
  after = subst (λ (s : State). OnlyMarksSince f.state s) (sym same.state) (after_same f.state);
  plan = ap (λ (s : State). s.plan) same.state;
  marks = λ p counts past. absurd (both_ways (is_current f.state p) (sym (ap (λ (s : State). is_current s p) same.state) ∙ past) counts);
  seats = λ p counts. same.seats p;
  values = λ n x low from inside. ap (λ (k : Arrays). k.contents n x) (joined_same f g same);
  apart = same_apart f g same apart;
  alone =
      own_alone f g same (subst (λ (s : State). s.made ≤ 16) same.state (some_made g (found_is disks i g found_now).0).1)
      (λ n low. let one = sound.rules.arrays n low in (one.0, one.1)) alone;
  stops = subst (λ (d : Disks). MayReplay d i g) (sym on) may;
  sectors = λ n low. ap (λ (k : Arrays). k.sectors n) (joined_same f g same);
  reach = λ n before left low was is.
      subst (KeepsReach g.state before) (some_same before left (sym was ∙ sym (shapes_same f g same n) ∙ is)) (reach_same (is_current g.state) before);
  unsynced = λ n low dirty. sym (ap (λ (o : Option Super). option_map_or is_unclean o false) (truths_same f g same n)) ∙ dirty_unsynced g n dirty;
  parts = λ p now none. damage_same f g same p ∙ none;
  one_pool = one;
}

-- ---- a replay

module _ (disks : Disks) (c i : Image) (s0 : State) (newest_before : newest disks (identities_of disks c) ≡ Some s0)
    (stands : standing disks c ≡ Some (standing_by disks c s0))
    (log : IsSoundLog disks c (standing_by disks c s0) (seated_state (standing_by disks c s0).targets s0))
    (mid : StandsReplaying disks s0 (seated_state (standing_by disks c s0).targets s0) (standing_by disks c s0).targets c i)
    (sound : IsSoundPool (was disks c i s0 newest_before log mid)) (apart : LieApart (was disks c i s0 newest_before log mid))
    (alone : NoStraySuperblock (was disks c i s0 newest_before log mid) (was disks c i s0 newest_before log mid).contents)
    (may : MayReplay disks c (was disks c i s0 newest_before log mid)) where
  abbrev s : State
  s = seated_state (standing_by disks c s0).targets s0

  abbrev ids : Identities
  ids = identities_of disks c

  abbrev now_ids : Identities
  now_ids = identities_of disks i

  abbrev f : Found
  f = was disks c i s0 newest_before log mid

  there : (p d : ℕ) → f.seats p ≡ Some d → d < disks.count
  there p d seat = seat_inside s disks (identities_of disks (written disks (standing_by disks c s0) c)) p d seat

  -- a disk has the copy that it had, or one of the record's state
  one_now : HadOnePool f → (d : ℕ) (copy : Copied) → d < disks.count → (now_ids d).copied ≡ Some copy → copy.state.pool ≡ f.state.pool
  one_now had d copy low here = elim (copied_or disks c i s0 newest_before log mid d low) [
    | inl kept ↦ had d copy low (sym kept ∙ here)
    | inr new ↦ sym (ap (λ (k : Copied). k.state.pool) (some_same (record { state = s; own = new.0 }) copy (sym new.1.1 ∙ here)))
  ]

  -- no copy and no gate has changed
  module _ (states : AreStatesKept disks c i) (kept : AreGatesKept disks c i) where
    abbrev e : Found
    e = early disks c i s0 newest_before log mid states kept

    same_early : IsSamePool f e
    same_early = early_pool disks c i s0 newest_before log mid states kept

    stood_early : StoodInLog f → StoodInLog e
    stood_early in_log =
        let had = in_log.stood in
        let here : (d : ℕ) → d < disks.count → (now_ids d).copied ≡ (ids d).copied =
        λ d low. ap (λ (z : Identity). z.copied) (early_ids disks c i s0 newest_before log mid states kept d low) in
        record {
          stood = record {
            place = had.place;
            disk = had.disk;
            own = had.own;
            seat = same_early.seats had.place ∙ had.seat;
            copy = here had.disk (there had.place had.disk had.seat) ∙ had.copy;
            latest = λ p d other seat copy.
                let old : f.seats p ≡ Some d = sym (same_early.seats p) ∙ seat in had.latest p d other old (sym (here d (there p d old)) ∙ copy);
          };
          room = in_log.room;
        }

    may_early : MayReplay disks i e
    may_early = elim may [
      | inl idle ↦
          inl (λ before at.
          ap (λ (x : Standing). x.targets) (some_same before _ (sym at ∙ stands_so disks c i s0 newest_before log mid states kept)) ∙ idle (standing_by disks c s0) stands)
      | inr amid ↦ inr (stood_early amid.0, early_lower disks c i s0 newest_before log mid states kept stands amid.1)
    ]

    holds_early : RecoversInOpening f 0 i
    holds_early =
        same_holds disks i f e refl (early_found disks c i s0 newest_before log mid states kept) same_early sound
        (early_logs disks c i s0 newest_before log mid states kept) apart alone may_early one_now

  -- the state stands that the record is for
  module _ (brought : StandsBrought disks s0 s (standing_by disks c s0).targets c i) where
    abbrev g : Found
    g = late disks c i s0 newest_before log mid brought

    same_late : IsSamePool f g
    same_late = late_pool disks c i s0 newest_before log mid brought

    -- a drive with a log slice has its copy
    record HasCopy : Type 0 where
      place : ℕ
      disk : ℕ
      own : ℕ
      seat : f.seats place ≡ Some disk
      copy : (now_ids disk).copied ≡ Some (record { state = s; own = own })
      room : arrays_first ≤ disks.sectors disk

    has_copy : StoodInLog f → HasCopy
    has_copy in_log = elim brought.copied [
      | inl same ↦
          let had = in_log.stood in
          elim (copied_or disks c i s0 newest_before log mid had.disk (there had.place had.disk had.seat)) [
            | inl kept ↦
                record {
                  place = had.place;
                  disk = had.disk;
                  own = had.own;
                  seat = had.seat;
                  copy = kept ∙ had.copy ∙ ap (λ (z : State). Some (record { state = z; own = had.own })) (sym same);
                  room = in_log.room;
                }
            | inr new ↦ record { place = had.place; disk = had.disk; own = new.0; seat = had.seat; copy = new.1.1; room = in_log.room }
          ]
      | inr copy ↦
          let new = new_copy disks c i s0 newest_before log mid.others mid.copies copy.disk copy.copy in
          record {
            place = new.0;
            disk = copy.disk;
            own = new.0;
            seat = seats_written disks c i s0 newest_before log new.0 ∙ new.1.0;
            copy = new.1.1;
            room = copy_room disks c i s0 newest_before log copy.disk (i copy.disk state_sector) copy.copy;
          }
    ]

    stood_late : StoodInLog f → StoodInLog g
    stood_late in_log =
        let one = has_copy in_log in
        record {
          stood = record {
            place = one.place;
            disk = one.disk;
            own = one.own;
            seat = same_late.seats one.place ∙ one.seat;
            copy = one.copy;
            latest = λ p d other seat copy.
                let old : f.seats p ≡ Some d = sym (same_late.seats p) ∙ seat in
                by p d other old copy (copied_or disks c i s0 newest_before log mid d (there p d old));
          };
          room = one.room;
        }
      where
        by : (p d : ℕ) (other : Copied) → f.seats p ≡ Some d → (now_ids d).copied ≡ Some other
            → ((now_ids d).copied ≡ (ids d).copied) ⊎ ((q : ℕ) × IsCopied disks s ids now_ids d q) → IsNoLater s other
        by p d other seat copy (inr new) =
            inr (sym (ap (λ (k : Copied). k.state) (some_same (record { state = s; own = new.0 }) other (sym new.1.1 ∙ copy))))
        by p d other seat copy (inl kept) = elim log.next [
          | inl same ↦ subst (λ (z : State). IsNoLater z other) (sym same) (in_log.stood.latest p d other seat (sym kept ∙ copy))
          | inr next ↦
              let most = newest_latest disks ids s0 d other newest_before (there p d seat) (sym kept ∙ copy) in
              let later = next.later in inl (omega (arith, most, later))
        ]

    idle_late : (standing_by disks i s).targets ≡ [] → IsIdleIn disks i
    idle_late none before at = ap (λ (x : Standing). x.targets) (some_same before (standing_by disks i s) (sym at ∙ stands_late disks c i s0 newest_before log mid brought)) ∙ none

    may_late : MayReplay disks i g
    may_late = elim (targets_late disks c i s0 newest_before log mid brought) [
      | inr done ↦ inl (idle_late done.0)
      | inl yet ↦ elim may [
        | inl idle ↦ inl (idle_late (yet ∙ idle (standing_by disks c s0) stands))
        | inr amid ↦ inr (stood_late amid.0, late_lower disks c i s0 newest_before log mid brought)
      ]
    ]

    holds_late : RecoversInOpening f 0 i
    holds_late =
        same_holds disks i f g refl (late_found disks c i s0 newest_before log mid brought) same_late sound (late_logs disks c i s0 newest_before log mid brought) apart alone may_late
        one_now

  holds_replaying : RecoversInOpening f 0 i
  holds_replaying = elim mid.says [ inl kept ↦ holds_early kept.0 kept.1 | inr brought ↦ holds_late brought ]

-- what a stop in the replay of the pending record leaves
pub midway_holds : (disks : Disks) (c i : Image) (f : Found) → found disks c ≡ Some f → IsSoundPool f → HasSoundLogs disks c → LieApart f → NoStraySuperblock f f.contents
    → MayReplay disks c f → StandsMidway disks c i
    → RecoversInOpening f 0 i
midway_holds disks c i f found_before sound logs apart alone may midway =
    let by = stood_by disks c logs.before logs.stands in
    let stands : standing disks c ≡ Some (standing_by disks c by.0) = logs.stands ∙ ap Some by.2 in
    let log : IsSoundLog disks c (standing_by disks c by.0) (seated_state (standing_by disks c by.0).targets by.0) =
    subst (λ (x : Standing). IsSoundLog disks c x (seated_state x.targets x.state)) by.2 logs.log in
    let mid : StandsReplaying disks by.0 (seated_state (standing_by disks c by.0).targets by.0) (standing_by disks c by.0).targets c i =
    subst (λ (x : Standing). StandsReplaying disks x.state (seated_state x.targets x.state) x.targets c i)
    (some_same midway.before (standing_by disks c by.0) (sym midway.stands ∙ stands)) midway.is in
    let same : was disks c i by.0 by.1 log mid ≡ f = some_same (was disks c i by.0 by.1 log mid) f (sym (found_was disks c i by.0 by.1 log mid stands) ∙ found_before) in
    subst (λ (h : Found). IsSoundPool h → LieApart h → NoStraySuperblock h h.contents → MayReplay disks c h → RecoversInOpening h 0 i) same
    (λ sound apart alone may. holds_replaying disks c i by.0 by.1 stands log mid sound apart alone may) sound apart alone may

-- contents that agree inside the disks
pub agree_holds : (disks : Disks) (c i : Image) (f : Found) → found disks c ≡ Some f → IsSoundPool f → HasSoundLogs disks c → LieApart f → NoStraySuperblock f f.contents
    → MayReplay disks c f → Agree disks i c
    → RecoversInOpening f 0 i
agree_holds disks c i f found_before sound logs apart alone may agree =
    midway_holds disks c i f found_before sound logs apart alone may (record {
      before = logs.before;
      stands = logs.stands;
      is = still_stands disks logs.before.state (seated_state logs.before.targets logs.before.state) logs.before.targets c i agree;
    })
