-- A write and a sync in a row.
use Rattle.std.proofs.Common.{◌≡◌, ◌≢◌, ◌⊎◌, ℕ, ◌==◌, ◌&&◌, List, Bool, true, false, if◌then◌else◌, Result, Ok, Err, OnOk, IfErr, refl, ◌∙◌, subst, inl, inr}
use Rattle.std.proofs.lemmas.Bool.{cases_eq}
use Rattle.rack.specs.declared.Gone.{Gone}
use Rattle.rack.specs.Values.{Values, MayLeave, Keeps, IsSingle, append}
use Rattle.rack.specs.Seen.{Held, RackView, IsLive, IsPick, Rose, SameRack, appended}
use Rattle.rack.specs.Calls.{Writes, Syncs}
use Rattle.rack.specs.Joins.{keeps_then, may_leave-append, stays_then, live_first, live_second, leaves_weaker, leaves_then, pick_kept, pick_longer, rose_since}
use Rattle.rack.specs.Sequences.{IsMix, WritesOnly, WritesDurably}
use Rattle.rack.proofs.Writing.{appended_elsewhere, appended_here, appended_may}

choice_leaves : (b : Bool) (h : Values) (v w : List ℕ) → MayLeave h w → MayLeave (if b then append h v else h) w
choice_leaves true h v w leaves = may_leave-append h v w leaves
choice_leaves false h v w leaves = leaves

-- what might be left before the write
pub appended_more :
    (held : Held) (disk sector : ℕ) (v : List ℕ) (d s : ℕ) (w : List ℕ)
    → MayLeave (held d s) w
    → MayLeave (appended held disk sector v d s) w
appended_more held disk sector v d s w leaves = choice_leaves ((d == disk) && (s == sector)) (held d s) v w leaves

pub refused_within :
    (held : Held) (h : Values) (disk sector : ℕ) (v : List ℕ) (d s : ℕ) (w : List ℕ)
    → Keeps (held d s) h ⊎ Keeps (appended held disk sector v d s) h
    → MayLeave h w
    → MayLeave (appended held disk sector v d s) w
refused_within held h disk sector v d s w (inl old) leaves = appended_more held disk sector v d s w (old.within w leaves)
refused_within held h disk sector v d s w (inr new) leaves = new.within w leaves

pub refused_others :
    (held : Held) (h : Values) (disk sector : ℕ) (v : List ℕ) (d s : ℕ)
    → (d ≢ disk) ⊎ (s ≢ sector)
    → Keeps (held d s) h ⊎ Keeps (appended held disk sector v d s) h
    → Keeps (held d s) h
refused_others held h disk sector v d s other (inl old) = old
refused_others held h disk sector v d s other (inr new) =
    subst (λ g. Keeps g h) (appended_elsewhere held disk sector v d s other) new

-- the write was refused
pub write_refused :
    (a b : RackView) (disk sector : ℕ) (v : List ℕ) (r : Result (Unit {0}) Gone) (e : Gone)
    → r ≡ Err e
    → Writes a b disk sector v r
    → WritesDurably a b disk sector v {X = Unit {0}} (Err e)
write_refused a b disk sector v r e is at_result =
    let writes : Writes a b disk sector v {X = Unit {0}} (Err e) = subst (λ q. Writes a b disk sector v q) is at_result in
    record {
      stays = writes.stays;
      gone = writes.cause.gone;
      stops = writes.stops;
      within = λ d s w live leaves. refused_within a.held (b.held d s) disk sector v d s w (writes.failed d s live) leaves;
      others = λ d s live other. refused_others a.held (b.held d s) disk sector v d s other (writes.failed d s live);
      synced = tt;
      durable = tt;
    }

gone_later :
    (a m b : RackView) (disk : ℕ) (r : Result (Unit {0}) Gone)
    → SameRack a m
    → IfErr r (λ e. (e.disk ≡ disk) × Rose (m.faults disk) (b.faults disk))
    → IfErr r (λ e. (e.disk ≡ disk) × Rose (a.faults disk) (b.faults disk))
gone_later a m b disk (Ok done) stays gone = tt
gone_later a m b disk (Err e) stays gone = (gone.0, rose_since (stays.faults disk) gone.1)

durable_now :
    (a m b : RackView) (disk sector : ℕ) (v : List ℕ) (r : Result (Unit {0}) Gone)
    → Writes a m disk sector v {X = Unit {0}} (Ok tt)
    → Syncs m b disk r
    → OnOk r (IsLive a b disk sector → (w : List ℕ) → MayLeave (b.held disk sector) w → w ≡ v)
durable_now a m b disk sector v (Err e) writes syncs = tt
durable_now a m b disk sector v (Ok done) writes syncs =
    λ live w leaves.
    let first = live_first syncs.stays live in
    let second = live_second writes.stays live in
    syncs.done sector w second leaves
    ∙ (syncs.keeps.held disk sector second).current
    ∙ (writes.done disk sector first).current
    ∙ appended_here a.held disk sector v

synced_now :
    (a m b : RackView) (disk : ℕ) (r : Result (Unit {0}) Gone)
    → SameRack a m
    → Syncs m b disk r
    → OnOk r ((s : ℕ) → IsLive a b disk s → IsSingle (b.held disk s))
synced_now a m b disk (Err e) stays syncs = tt
synced_now a m b disk (Ok done) stays syncs = λ s live w leaves. syncs.done s w (live_second stays live) leaves

-- it was done, and the disk was synced or refused it
pub write_then_sync :
    (a m b : RackView) (disk sector : ℕ) (v : List ℕ) (r q : Result (Unit {0}) Gone) (u : Unit {0})
    → r ≡ Ok u
    → Writes a m disk sector v r
    → Syncs m b disk q
    → WritesDurably a b disk sector v q
write_then_sync a m b disk sector v r q u is at_result syncs =
    let writes : Writes a m disk sector v {X = Unit {0}} (Ok tt) = subst (λ p. Writes a m disk sector v p) is at_result in
    let new = appended a.held disk sector v in
    let kept : (d s : ℕ) → IsLive a m d s → Keeps (new d s) (m.held d s) = writes.done in
    record {
      stays = stays_then writes.stays syncs.stays;
      gone = gone_later a m b disk q writes.stays syncs.gone;
      stops =
          λ traced.
          leaves_then
          (IsPick a b new)
          (leaves_weaker (IsPick a m new) (IsPick a b new) (λ i pick. pick_longer new i syncs.stays pick) (writes.stops traced))
          (leaves_weaker
          (IsPick m b m.held)
          (IsPick a b new)
          (λ i pick. pick_kept new m.held writes.stays syncs.stays kept i pick)
          (syncs.keeps.stops (writes.stays.traced traced)));
      within =
          λ d s w live leaves.
          (kept d s (live_first syncs.stays live)).within w ((syncs.keeps.held d s (live_second writes.stays live)).within w leaves);
      others =
          λ d s live other.
          keeps_then _ _ _
          (subst (λ g. Keeps g (m.held d s)) (appended_elsewhere a.held disk sector v d s other) (kept d s (live_first syncs.stays live)))
          (syncs.keeps.held d s (live_second writes.stays live));
      synced = synced_now a m b disk q writes.stays syncs;
      durable = durable_now a m b disk sector v q writes syncs;
    }

-- nothing else was written
pub durable_only :
    {a b : RackView} {disk sector : ℕ} {value : List ℕ} (r : Result (Unit {0}) Gone)
    → WritesDurably a b disk sector value r
    → WritesOnly a b (λ d s v. (d ≡ disk) × (s ≡ sector) × (v ≡ value))
durable_only {a} {b} {disk} {sector} {value} r writes =
    record {
      stays = writes.stays;
      others =
          λ d s live never.
          elim (cases_eq d disk) [
            | inl here ↦
                elim (cases_eq s sector) [
                  | inl there ↦ absurd (never value (here, there, refl))
                  | inr other ↦ writes.others d s live (inr other)
                ]
            | inr other ↦ writes.others d s live (inl other)
          ];
      within = λ d s v live left. appended_may a.held disk sector value d s v (writes.within d s v live left);
      stops =
          λ traced.
          leaves_weaker
          (IsPick a b (appended a.held disk sector value))
          (IsMix a b (λ d s v. (d ≡ disk) × (s ≡ sector) × (v ≡ value)))
          (λ i pick d s live. appended_may a.held disk sector value d s (i d s) (pick d s live))
          (writes.stops traced);
    }
