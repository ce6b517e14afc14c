-- Syncs of several disks in a row.
use Rattle.std.proofs.Common.{ℕ, ◌+◌, ◌<◌, inl, inr, Ok, Err, refl, sym, ap, subst, ◌∙◌, arith}
use Rattle.std.proofs.lemmas.Bool.{cases_eq}
use Rattle.rack.specs.declared.Gone.{Gone}
use Rattle.rack.specs.Values.{MayLeave, Keeps}
use Rattle.rack.specs.Seen.{RackView, IsLive, SameRack}
use Rattle.rack.specs.Calls.{KeepsAll, Syncs}
use Rattle.rack.specs.Joins.{stays_same, stays_then, keeps_all_then, keeps_same, leaves_same, live_first, live_second, rose_since}
use Rattle.lvm_group.specs.Sequences.{AreSingle, SyncsAll}

-- no disk yet
pub none_synced : (a : RackView) → a.fit → SyncsAll a a 0 {X = Unit {0}} (Ok tt)
none_synced a fit = record {
  stays = stays_same a fit;
  gone = tt;
  steady = λ steady. refl;
  keeps = record { held = λ d s live. keeps_same (a.held d s); stops = λ traced. leaves_same a _ };
  done = λ d s v below. absurd (omega arith);
}

-- sectors with one value keep it
single_kept : {a b c : RackView} (disks : ℕ) → SameRack a b → SameRack b c → KeepsAll b c → AreSingle a b disks → AreSingle a c disks
single_kept {a} {b} {c} disks first second keeps single d s v below live leaves =
    let kept : Keeps (b.held d s) (c.held d s) = keeps.held d s (live_second first live) in
    single d s v below (live_first second live) (kept.within v leaves) ∙ sym kept.current

-- one disk more
pub next_synced : {a b c : RackView} (disk : ℕ) → SyncsAll a b disk {X = Unit {0}} (Ok tt) → Syncs b c disk {X = Unit {0}} (Ok tt)
    → SyncsAll a c (disk + 1) {X = Unit {0}} (Ok tt)
next_synced {a} {b} {c} disk all y = record {
  stays = stays_then all.stays y.stays;
  gone = tt;
  steady = λ steady. refl;
  keeps = keeps_all_then all.stays y.stays all.keeps y.keeps;
  done = λ d s v below live leaves. elim (cases_eq d disk) [
    | inl here ↦ y.done s v (live_second all.stays (subst (λ e. IsLive a c e s) here live)) (subst (λ e. MayLeave (c.held e s) v) here leaves)
        ∙ ap (λ e. (c.held e s).current) (sym here)
    | inr other ↦ single_kept disk all.stays y.stays y.keeps all.done d s v (omega arith) live leaves
  ];
}

-- a disk refused
pub not_synced : {a b c : RackView} (disk disks : ℕ) (gone : Gone) → disk < disks → SyncsAll a b disk {X = Unit {0}} (Ok tt)
    → Syncs b c disk {X = Unit {0}} (Err gone) → SyncsAll a c disks {X = Unit {0}} (Err gone)
not_synced {a} {b} {c} disk disks gone below all y = record {
  stays = stays_then all.stays y.stays;
  gone = (subst (λ e. e < disks) (sym y.gone.0) below, rw y.gone.0 (rose_since (all.stays.faults disk) y.gone.1));
  steady = λ steady. y.steady (all.stays.steady steady);
  keeps = keeps_all_then all.stays y.stays all.keeps y.keeps;
  done = tt;
}
