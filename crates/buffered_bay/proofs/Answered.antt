-- The clauses of a rack, of the answers of a bay with buffers.
use Rattle.std.proofs.Common.{◌≡◌, ◌⊎◌, ℕ, ◌+◌, ◌-◌, ◌<◌, ◌≤◌, List, Ok, Err, Result, OnOk, false, refl, sym, ap, subst, ◌∙◌, inl, inr, arith}
use Rattle.std.proofs.lemmas.Bool.{cases_lt}
use Rattle.rack.specs.declared.Gone.{Gone}
use Rattle.rack.specs.Values.{MayLeave}
use Rattle.rack.specs.Seen.{IsLive, IsPick, appended}
use Rattle.rack.specs.Calls.{Reads, Writes, Syncs}
use Rattle.rack.specs.Joins.{leaves_weaker}
use Rattle.rack.specs.Shelf.{Shelf}
use Rattle.rack.proofs.Durably.{appended_more}
use Rattle.rack.proofs.Reading.{only_reads_start}
use Rattle.buffered_bay.specs.View.{View, IsPlain}
use Rattle.buffered_bay.specs.StoreCalls.{ReadsFile, SyncsFile}
use Rattle.buffered_bay.specs.Buffered.{IsWindow, Quiet}
use Rattle.buffered_bay.specs.declared.windows.Window.{Window}
use Rattle.buffered_bay.proofs.WindowsKept.{live}
use Rattle.buffered_bay.proofs.InRow.{cause_of}

-- ---- refusals of what comes before a call

pub read_refused :
    {tells : Type 0} {a b : View} {s t : Shelf} {disk : ℕ} (sector : ℕ) (into : List ℕ) (e : Gone)
    → IsPlain tells b.seen → Quiet a b s t disk {X = Unit {0}} (Err e) → Reads a.seen b.seen disk sector into {X = Unit {0}} (Err e)
read_refused {disk = disk} sector into e plain quiet =
    record {
      stays = quiet.reads.stays;
      cause = cause_of disk sector (Err e) plain quiet.fault;
      keeps = quiet.reads.keeps;
      value = tt;
    }

pub write_refused :
    {tells : Type 0} {a b : View} {s t : Shelf} {disk : ℕ} (sector : ℕ) (v : List ℕ) (e : Gone)
    → IsPlain tells b.seen → Quiet a b s t disk {X = Unit {0}} (Err e) → Writes a.seen b.seen disk sector v {X = Unit {0}} (Err e)
write_refused {a = a} {b} {disk = disk} sector v e plain quiet =
    record {
      stays = quiet.reads.stays;
      cause = cause_of disk sector (Err e) plain quiet.fault;
      stops = λ traced. leaves_weaker
          (IsPick a.seen b.seen a.seen.held)
          (IsPick a.seen b.seen (appended a.seen.held disk sector v))
          (λ i pick d s live. appended_more a.seen.held disk sector v d s (i d s) (pick d s live))
          (quiet.reads.keeps.stops traced);
      done = tt;
      failed = λ d s live. inl (quiet.reads.keeps.held d s live);
    }

pub sync_refused :
    {a b : View} {s t : Shelf} {disk : ℕ} (e : Gone) → Quiet a b s t disk {X = Unit {0}} (Err e)
    → Syncs a.seen b.seen disk {X = Unit {0}} (Err e)
sync_refused e quiet =
    record {
      stays = quiet.reads.stays;
      gone = quiet.fault.gone;
      steady = quiet.fault.steady;
      keeps = quiet.reads.keeps;
      done = tt;
    }

-- ---- reads

-- from the buffer
pub read_buffer :
    {tells : Type 0} {a : View} {disk sector place : ℕ} {into : List ℕ} (w : Window) → IsPlain tells a.seen
    → IsWindow tells a disk w → w.first ≤ sector → sector < w.first + w.count → place ≡ sector - w.first
    → (a.seen.told disk → into ≡ a.buffer disk place)
    → Reads a.seen a.seen disk sector into {X = Unit {0}} (Ok tt)
read_buffer {tells} {a} {disk} {sector} {place} {into} w plain window above below at got =
    let reads = only_reads_start a.seen plain.fit in
    record {
      stays = reads.stays;
      cause = cause_of disk sector (Ok tt) plain (record { gone = tt; steady = λ steady. refl });
      keeps = reads.keeps;
      value = λ told.
          let there : w.first + place ≡ sector = omega (arith, at, above) in
          got told ∙ subst (λ s. a.buffer disk place ≡ (a.seen.held disk s).current) there
          (window.current (plain.tells_all disk told) place (omega (arith, at, above, below)));
    }

file_value :
    {tells : Type 0} {a b : View} {X : Type 0} (disk sector : ℕ) (into : List ℕ) (r : Result X Gone) (w : Window) → IsPlain tells a.seen
    → IsWindow tells a disk w → sector < a.seen.sectors disk → (sector < w.first) ⊎ (w.first + w.count ≤ sector)
    → ReadsFile a b disk sector into r → OnOk r (a.seen.told disk → into ≡ (a.seen.held disk sector).current)
file_value disk sector into (Err e) w plain window inside out reads = tt
file_value disk sector into (Ok x) w plain window inside out reads =
    λ told. reads.value told ∙ window.clean (plain.tells_all disk told) sector inside (apart out)
  where
    apart : (sector < w.first) ⊎ (w.first + w.count ≤ sector) → (sector < w.first + w.dirty_from) ⊎ (w.first + w.dirty_to ≤ sector)
    apart (inl under) = inl (omega (arith, under))
    apart (inr over) = inr (omega (arith, over, w.within))

-- from the file, where the sector isn't in the buffer
pub read_file :
    {tells : Type 0} {a b : View} {X : Type 0} (disk sector : ℕ) (into : List ℕ) (r : Result X Gone) (w : Window) → IsPlain tells a.seen
    → IsPlain tells b.seen → IsWindow tells a disk w → sector < a.seen.sectors disk → (sector < w.first) ⊎ (w.first + w.count ≤ sector)
    → ReadsFile a b disk sector into r → Reads a.seen b.seen disk sector into r
read_file disk sector into r w plain after window inside out reads =
    record {
      stays = reads.reads.stays;
      cause = cause_of disk sector r after reads.fault;
      keeps = reads.reads.keeps;
      value = file_value disk sector into r w plain window inside out reads;
    }

-- ---- syncs

-- the file has every current value where nothing is dirty
pub all_clean :
    {tells : Type 0} {a : View} {disk : ℕ} (w : Window) → w.dirty_from ≡ w.dirty_to → IsWindow tells a disk w → tells → (s : ℕ)
    → s < a.seen.sectors disk → a.stored disk s ≡ (a.seen.held disk s).current
all_clean w none window t s inside =
    elim (cases_lt s (w.first + w.dirty_from)) [
      | inl under ↦ window.clean t s inside (inl under)
      | inr above ↦ window.clean t s inside (inr (omega (arith, above, none)))
    ]

-- a disk that needs none
pub sync_none :
    {tells : Type 0} {a : View} {disk : ℕ} (w : Window) → IsPlain tells a.seen → IsWindow tells a disk w → w.unsynced ≡ false
    → Syncs a.seen a.seen disk {X = Unit {0}} (Ok tt)
sync_none {disk = disk} w plain window synced =
    let reads = only_reads_start _ plain.fit in
    record {
      stays = reads.stays;
      gone = tt;
      steady = λ steady. refl;
      keeps = reads.keeps;
      done = λ s v live leaves. window.synced (plain.tells_all disk live.is_told) synced s live.sector v leaves;
    }

synced_done :
    {tells : Type 0} {a b : View} {X : Type 0} (disk : ℕ) (r : Result X Gone) (w : Window) → IsPlain tells a.seen → w.dirty_from ≡ w.dirty_to
    → IsWindow tells a disk w → SyncsFile a b disk r
    → OnOk r ((s : ℕ) (v : List ℕ) → IsLive a.seen b.seen disk s → MayLeave (b.seen.held disk s) v → v ≡ (b.seen.held disk s).current)
synced_done disk (Err e) w plain none window syncs = tt
synced_done {b = b} disk (Ok x) w plain none window syncs =
    λ s v live leaves.
    let inside = subst (λ n. s < n) (syncs.reads.stays.sectors disk) live.sector in
    syncs.done s live (all_clean w none window (plain.tells_all disk live.is_told) s inside) v leaves

pub sync_file :
    {tells : Type 0} {a b : View} {X : Type 0} (disk : ℕ) (r : Result X Gone) (w : Window) → IsPlain tells a.seen → w.dirty_from ≡ w.dirty_to
    → IsWindow tells a disk w → SyncsFile a b disk r → Syncs a.seen b.seen disk r
sync_file disk r w plain none window syncs =
    record {
      stays = syncs.reads.stays;
      gone = syncs.fault.gone;
      steady = syncs.fault.steady;
      keeps = syncs.reads.keeps;
      done = synced_done disk r w plain none window syncs;
    }

-- a disk that was synced needs none until it is written
pub sync_window :
    {tells : Type 0} {a b : View} {X : Type 0} {x : X} {disk : ℕ} (w v : Window) → IsPlain tells a.seen → IsPlain tells b.seen → disk < a.seen.disks
    → w.dirty_from ≡ w.dirty_to → v.first ≡ w.first → v.count ≡ w.count → v.dirty_from ≡ w.dirty_from → v.dirty_to ≡ w.dirty_to
    → SyncsFile a b disk (Ok x) → IsWindow tells a disk w → IsWindow tells b disk w → IsWindow tells b disk v
sync_window {tells} {a} {b} {disk = disk} w v before after has none first count from to syncs window kept =
    record {
      inside = omega (arith, first, count, kept.inside);
      current = λ t p below.
          let here : w.first + p ≡ v.first + p = ap (λ n. n + p) (sym first) in
          subst (λ s. b.buffer disk p ≡ (b.seen.held disk s).current) here (kept.current t p (omega (arith, below, count)));
      clean = λ t s below out. all_clean w none kept t s below;
      synced = λ t flag s below.
          let inside = subst (λ n. s < n) (syncs.reads.stays.sectors disk) below in
          syncs.done s (live disk s before after syncs.reads.stays t has inside) (all_clean w none window t s inside);
    }
