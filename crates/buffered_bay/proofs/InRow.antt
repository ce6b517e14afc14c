-- A call after one that brings no value is as if it were the only one.
use Rattle.std.proofs.Common.{◌≡◌, ℕ, ◌<◌, List, Bool, true, false, if◌then◌else◌, Ok, Err, Result, IfErr, OnOk, OnErr, ◌⊎◌, ◌==◌, ◌&&◌, ◌∙◌, inl, inr}
use Rattle.rack.specs.declared.Gone.{Gone}
use Rattle.rack.specs.Values.{Values, MayLeave, Keeps, append}
use Rattle.rack.specs.Seen.{Held, RackView, IsLive, IsPick, Rose, SameRack, appended}
use Rattle.rack.specs.Calls.{HasCause, Reads, Writes, Syncs}
use Rattle.rack.specs.Joins.{keeps_append, keeps_then, leaves_then, leaves_weaker, live_first, live_second, stays_then, keeps_all_then, rose_since}
use Rattle.rack.specs.Sequences.{OnlyReads}
use Rattle.rack.specs.Shelf.{Shelf, keeps_shelf_then}
use Rattle.rack.proofs.Durably.{appended_more}
use Rattle.rack.proofs.Reading.{only_reads_join, same_after}
use Rattle.buffered_bay.specs.View.{View, IsPlain}
use Rattle.buffered_bay.specs.StoreCalls.{HasFault}
use Rattle.buffered_bay.specs.Buffered.{Quiet}

-- ---- faults

-- faults that rose later rose over the whole time
gone_since :
    {a b : RackView} {X : Type 0} (c : RackView) (disk : ℕ) (r : Result X Gone) → SameRack a b
    → IfErr r (λ e. (e.disk ≡ disk) × Rose (b.faults disk) (c.faults disk))
    → IfErr r (λ e. (e.disk ≡ disk) × Rose (a.faults disk) (c.faults disk))
gone_since c disk (Ok x) stays gone = tt
gone_since c disk (Err e) stays gone = (gone.0, rose_since (stays.faults disk) gone.1)

fault_since : {a b c : RackView} {X : Type 0} (disk : ℕ) (r : Result X Gone) → SameRack a b → HasFault b c disk r → HasFault a c disk r
fault_since {c = c} disk r stays fault =
    record { gone = gone_since c disk r stays fault.gone; steady = λ steady. fault.steady (stays.steady steady) }

cause_since :
    {a b c : RackView} {X : Type 0} (disk sector : ℕ) (r : Result X Gone) → SameRack a b → HasCause b c disk sector r → HasCause a c disk sector r
cause_since {c = c} disk sector r stays cause =
    record {
      served = cause.served;
      gone = gone_since c disk r stays cause.gone;
      spent = λ steady. cause.spent (stays.steady steady);
    }

-- a refusal's cause, of files without spent sectors
pub cause_of :
    {tells : Type 0} {a b : RackView} {X : Type 0} (disk sector : ℕ) (r : Result X Gone) → IsPlain tells b → HasFault a b disk r
    → HasCause a b disk sector r
cause_of disk sector (Ok x) plain fault = record { served = plain.unspent disk sector; gone = tt; spent = λ steady. tt }
cause_of disk sector (Err e) plain fault = record { served = tt; gone = fault.gone; spent = λ steady. absurd (cc (fault.steady steady)) }

-- ---- two calls

pub quiet_then :
    {a b c : View} {s t u : Shelf} {disk : ℕ} {X Y : Type 0} {x : X} (r : Result Y Gone)
    → Quiet a b s t disk (Ok x) → Quiet b c t u disk r → Quiet a c s u disk r
quiet_then {s = s} {t} {u} {disk} r first second =
    record {
      reads = only_reads_join first.reads second.reads;
      fault = fault_since disk r first.reads.stays second.fault;
      shelf = keeps_shelf_then s t u first.shelf second.shelf;
    }

read_value :
    {tells : Type 0} {a b c : RackView} {X : Type 0} (disk sector : ℕ) (into : List ℕ) (r : Result X Gone)
    → IsPlain tells b → OnlyReads a b → disk < a.disks → sector < a.sectors disk
    → Reads b c disk sector into r → OnOk r (a.told disk → into ≡ (a.held disk sector).current)
read_value disk sector into (Err e) plain first has inside second = tt
read_value disk sector into (Ok x) plain first has inside second =
    λ told. second.value (first.stays.told disk told) ∙ same_after disk sector first has inside told (plain.unspent disk sector)

pub reads_then :
    {tells : Type 0} {a b c : RackView} {X : Type 0} (disk sector : ℕ) (into : List ℕ) (r : Result X Gone)
    → IsPlain tells b → OnlyReads a b → disk < a.disks → sector < a.sectors disk
    → Reads b c disk sector into r → Reads a c disk sector into r
reads_then disk sector into r plain first has inside second =
    record {
      stays = stays_then first.stays second.stays;
      cause = cause_since disk sector r first.stays second.cause;
      keeps = keeps_all_then first.stays second.stays first.keeps second.keeps;
      value = read_value disk sector into r plain first has inside second;
    }

-- a write after values were dropped
appended_choice : (b : Bool) (g h : Values) (v : List ℕ) → Keeps g h → Keeps (if b then append g v else g) (if b then append h v else h)
appended_choice true g h v keeps = keeps_append g h v keeps
appended_choice false g h v keeps = keeps

keeps_appended :
    (g h : Held) (disk sector : ℕ) (v : List ℕ) (d s : ℕ) → Keeps (g d s) (h d s)
    → Keeps (appended g disk sector v d s) (appended h disk sector v d s)
keeps_appended g h disk sector v d s keeps = appended_choice ((d == disk) && (s == sector)) (g d s) (h d s) v keeps

write_done :
    {a b c : RackView} {X : Type 0} (disk sector : ℕ) (v : List ℕ) (r : Result X Gone) → OnlyReads a b → Writes b c disk sector v r
    → OnOk r ((d s : ℕ) → IsLive a c d s → Keeps (appended a.held disk sector v d s) (c.held d s))
write_done disk sector v (Err e) first second = tt
write_done {a} {b} {c} disk sector v (Ok x) first second =
    λ d s live.
    keeps_then _ _ _
    (keeps_appended a.held b.held disk sector v d s (first.keeps.held d s (live_first second.stays live)))
    (second.done d s (live_second first.stays live))

write_failed :
    {a b c : RackView} {X : Type 0} (disk sector : ℕ) (v : List ℕ) (r : Result X Gone) → OnlyReads a b → Writes b c disk sector v r
    → OnErr r ((d s : ℕ) → IsLive a c d s → Keeps (a.held d s) (c.held d s) ⊎ Keeps (appended a.held disk sector v d s) (c.held d s))
write_failed disk sector v (Ok x) first second = tt
write_failed {a} {b} {c} disk sector v (Err e) first second =
    λ d s live.
    let kept = first.keeps.held d s (live_first second.stays live) in
    elim (second.failed d s (live_second first.stays live)) [
      | inl old ↦ inl (keeps_then _ _ _ kept old)
      | inr new ↦ inr (keeps_then _ _ _ (keeps_appended a.held b.held disk sector v d s kept) new)
    ]

pub writes_then :
    {a b c : RackView} {X : Type 0} (disk sector : ℕ) (v : List ℕ) (r : Result X Gone)
    → OnlyReads a b → Writes b c disk sector v r → Writes a c disk sector v r
writes_then {a} {b} {c} disk sector v r first second =
    record {
      stays = stays_then first.stays second.stays;
      cause = cause_since disk sector r first.stays second.cause;
      stops = λ traced.
          leaves_then
          (IsPick a c (appended a.held disk sector v))
          (leaves_weaker
          (IsPick a b a.held)
          (IsPick a c (appended a.held disk sector v))
          (λ i pick d s live. appended_more a.held disk sector v d s (i d s) (pick d s (live_first second.stays live)))
          (first.keeps.stops traced))
          (leaves_weaker
          (IsPick b c (appended b.held disk sector v))
          (IsPick a c (appended a.held disk sector v))
          (λ i pick d s live.
          (keeps_appended a.held b.held disk sector v d s (first.keeps.held d s (live_first second.stays live))).within
          (i d s) (pick d s (live_second first.stays live)))
          (second.stops (first.stays.traced traced)));
      done = write_done disk sector v r first second;
      failed = write_failed disk sector v r first second;
    }

sync_done :
    {a b c : RackView} {X : Type 0} (disk : ℕ) (r : Result X Gone) → OnlyReads a b → Syncs b c disk r
    → OnOk r ((s : ℕ) (v : List ℕ) → IsLive a c disk s → MayLeave (c.held disk s) v → v ≡ (c.held disk s).current)
sync_done disk (Err e) first second = tt
sync_done disk (Ok x) first second = λ s v live leaves. second.done s v (live_second first.stays live) leaves

pub syncs_then :
    {a b c : RackView} {X : Type 0} (disk : ℕ) (r : Result X Gone) → OnlyReads a b → Syncs b c disk r → Syncs a c disk r
syncs_then {c = c} disk r first second =
    record {
      stays = stays_then first.stays second.stays;
      gone = gone_since c disk r first.stays second.gone;
      steady = λ steady. second.steady (first.stays.steady steady);
      keeps = keeps_all_then first.stays second.stays first.keeps second.keeps;
      done = sync_done disk r first second;
    }
