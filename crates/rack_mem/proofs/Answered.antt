-- The clauses of a rack, of the answers of a bay in memory.
use Rattle.std.proofs.Common.{◌≡◌, ℕ, if◌then◌else◌, true, false, nat_lt, List, [], ◌∷◌, ◌++◌, length, Ok, Err, refl, sym, subst, inl}
use Rattle.rack.specs.declared.Gone.{Gone}
use Rattle.rack.specs.Values.{MayLeave, Keeps}
use Rattle.rack.specs.Seen.{IsPick, appended}
use Rattle.rack.specs.Calls.{Reads, Writes, Syncs, HasCause, KeepsAll}
use Rattle.rack.specs.Joins.{keeps_same, leaves_weaker}
use Rattle.rack_mem.specs.declared.calls.Call.TheVariants.{Quiet, Write, Sync}
use Rattle.rack_mem.specs.History.{after_call}
use Rattle.rack_mem.specs.Memory.{Memory, Records, Refuses, seen_of, values_of}
use Rattle.rack_mem.proofs.Effects.{appends, stays, leaves, values_now, quiet_keeps, stands_keeps, write_adds, sync_keeps, sync_single}

-- a refused call keeps all values
refused_keeps : {a b : Memory} {disk : ℕ} → Refuses a b disk → KeepsAll (seen_of a) (seen_of b)
refused_keeps {a} {b} r =
    elim (nat_lt (length a.calls) a.room) as
    (λ test. b.calls ≡ (if test then a.calls ++ Quiet ∷ [] else a.calls) → KeepsAll (seen_of a) (seen_of b)) [
      | true ↦ λ e. quiet_keeps (record { follows = r.faulted.follows; calls = e })
      | false ↦ λ e. stands_keeps (record { follows = r.faulted.follows; calls = e })
    ] r.calls

-- and has its cause
refused_cause : {a b : Memory} {disk : ℕ} (sector : ℕ) (gone : Gone) → Refuses a b disk → gone.disk ≡ disk
    → HasCause (seen_of a) (seen_of b) disk sector {X = Unit {0}} (Err gone)
refused_cause sector gone r is = record {
  served = tt;
  gone = (is, r.faulted.rose);
  spent = λ steady. absurd steady;
}

-- an answer has its cause
served : (a b : Memory) (disk sector : ℕ) → HasCause (seen_of a) (seen_of b) disk sector {X = Unit {0}} (Ok tt)
served a b disk sector = record { served = refl; gone = tt; spent = λ steady. tt }

pub refused_read : {a b : Memory} {disk : ℕ} (sector : ℕ) (into : List ℕ) (gone : Gone) → Refuses a b disk → gone.disk ≡ disk
    → Reads (seen_of a) (seen_of b) disk sector into {X = Unit {0}} (Err gone)
refused_read sector into gone r is = record {
  stays = stays r.faulted.follows;
  cause = refused_cause sector gone r is;
  keeps = refused_keeps r;
  value = tt;
}

pub read_done : {a b : Memory} {disk : ℕ} (sector : ℕ) (into : List ℕ) → Records a b Quiet → into ≡ (values_of a disk sector (length a.calls)).current
    → Reads (seen_of a) (seen_of b) disk sector into {X = Unit {0}} (Ok tt)
read_done {a} {b} {disk} sector into r is = record {
  stays = stays r.follows;
  cause = served a b disk sector;
  keeps = quiet_keeps (appends r);
  value = λ told. is;
}

pub refused_write : {a b : Memory} {disk : ℕ} (sector : ℕ) (value : List ℕ) (gone : Gone) → Refuses a b disk → gone.disk ≡ disk
    → Writes (seen_of a) (seen_of b) disk sector value {X = Unit {0}} (Err gone)
refused_write {a} {b} {disk} sector value gone r is =
    let keeps : KeepsAll (seen_of a) (seen_of b) = refused_keeps r in
    record {
      stays = stays r.faulted.follows;
      cause = refused_cause sector gone r is;
      stops = λ traced. leaves_weaker
          (IsPick (seen_of a) (seen_of b) (seen_of a).held)
          (IsPick (seen_of a) (seen_of b) (appended (seen_of a).held disk sector value))
          (λ c pick d s live. write_adds (values_of a d s (length a.calls)) d s disk sector value (c d s) (pick d s live))
          (keeps.stops traced);
      done = tt;
      failed = λ d s live. inl (keeps.held d s live);
    }

pub write_done : {a b : Memory} {disk sector : ℕ} {value : List ℕ} → Records a b (Write disk sector value)
    → Writes (seen_of a) (seen_of b) disk sector value {X = Unit {0}} (Ok tt)
write_done {a} {b} {disk} {sector} {value} r = record {
  stays = stays r.follows;
  cause = served a b disk sector;
  stops = λ traced. leaves (appends r);
  done = λ d s live.
      subst (Keeps (appended (seen_of a).held disk sector value d s)) (sym (values_now (appends r) d s)) (keeps_same _);
  failed = tt;
}

pub refused_sync : {a b : Memory} {disk : ℕ} (gone : Gone) → Refuses a b disk → gone.disk ≡ disk
    → Syncs (seen_of a) (seen_of b) disk {X = Unit {0}} (Err gone)
refused_sync gone r is = record {
  stays = stays r.faulted.follows;
  gone = (is, r.faulted.rose);
  steady = λ steady. absurd steady;
  keeps = refused_keeps r;
  done = tt;
}

pub sync_done : {a b : Memory} {disk : ℕ} → Records a b (Sync disk) → Syncs (seen_of a) (seen_of b) disk {X = Unit {0}} (Ok tt)
sync_done {a} {b} {disk} r =
    let now : (d s : ℕ) → values_of b d s (length b.calls) ≡ after_call (Sync disk) d s (values_of a d s (length a.calls)) = values_now (appends r) in
    record {
      stays = stays r.follows;
      gone = tt;
      steady = λ steady. absurd steady;
      keeps = record {
        held = λ d s live.
            subst (Keeps (values_of a d s (length a.calls))) (sym (now d s)) (sync_keeps (values_of a d s (length a.calls)) d s disk);
        stops = λ traced. leaves_weaker
            (IsPick (seen_of a) (seen_of b) (λ d s. after_call (Sync disk) d s (values_of a d s (length a.calls))))
            (IsPick (seen_of a) (seen_of b) (seen_of a).held)
            (λ c pick d s live. (sync_keeps (values_of a d s (length a.calls)) d s disk).within (c d s) (pick d s live))
            (leaves (appends r));
      };
      done = λ s v live.
          subst (λ held. MayLeave held v → v ≡ held.current) (sym (now disk s)) (sync_single (values_of a disk s (length a.calls)) s disk v);
    }
