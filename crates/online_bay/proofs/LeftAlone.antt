-- Offline disks are left alone by each call, and by attaching.
use Rattle.std.specs.Prelude.{◌≡◌, ◌≢◌, ◌==◌, ◌&&◌, ◌<◌, ◌≤◌, ℕ, List, Bool, true, false, if◌then◌else◌, Result, Ok, Err}
use Rattle.std.proofs.Common.{inl, inr, ap, sym, subst, refl, ◌∙◌, arith}
use Rattle.std.proofs.lemmas.Bool.{eqb-true}
use Rattle.rack.specs.declared.AttachFault.{AttachFault}
use Rattle.rack.specs.declared.Gone.{Gone}
use Rattle.rack.specs.Values.{Keeps, MayLeave, Values}
use Rattle.rack.specs.Seen.{Image, IsLive, RackView, SameRack, appended}
use Rattle.rack.specs.Calls.{Reads, Syncs, Writes}
use Rattle.rack.specs.Shelf.{Attaches, KeepsShelf, Shelf}
use Rattle.rack.specs.Joins.{keeps_same}
use Rattle.rack.specs.Untouched.{KeepsDisk}
use Rattle.online_bay.specs.Online.{KeepsOffline, is_offline}
use Rattle.online_bay.proofs.Attached.{other_flag}

-- a disk that has a sector to a bay with offline disks is online
pub has_sector : (offline : Bool) (sectors s : ℕ) → s < (if offline then 0 else sectors) → offline ≡ false
has_sector true sectors s inside = absurd (omega (arith, inside))
has_sector false sectors s inside = refl

-- so it is no offline one
apart : (offline : List Bool) (d disk : ℕ) → is_offline offline d ≡ true → is_offline offline disk ≡ false → d ≢ disk
apart offline d disk off online same = let both = sym off ∙ ap (is_offline offline) same ∙ online in cc

-- the values of other disks after a write to one sector
elsewhere : (a : RackView) (disk sector : ℕ) (from : List ℕ) (d s : ℕ) → d ≢ disk → appended a.held disk sector from d s ≡ a.held d s
elsewhere a disk sector from d s other = by (d == disk) (λ is. other (eqb-true d disk is)) where
  by : (test : Bool) → (test ≡ true → ⊥) → (if test && (s == sector) then Rattle.rack.specs.Values.append (a.held d s) from else a.held d s) ≡ a.held d s
  by true not = absurd (not refl)
  by false not = refl

module _ (offline : List Bool) (a b : RackView) (s t : Shelf) (names : KeepsShelf s t) (unspent : (d n : ℕ) → b.spent d n ≡ false) where
  -- a call that writes none of the offline disks
  left_alone : SameRack a b → (a.traced → (a.clock ≤ b.clock) × ((k : ℕ) (i : Image) → k ≤ a.clock → b.stops k i → a.stops k i))
      → ((d : ℕ) → d < a.disks → is_offline offline d ≡ true → KeepsDisk s.told a b d) → KeepsOffline offline offline a b s t
  left_alone stays moments kept = record {
    disks = omega (arith, stays.disks);
    flags = λ d below. refl;
    sectors = λ d below. stays.sectors d;
    tells = λ d below. stays.told d;
    told = names.told;
    traced = λ told tr. stays.traced tr;
    later = λ told tr. (moments tr).0;
    past = λ told tr. (moments tr).1;
    kept = kept;
  }

  live : SameRack a b → {d n : ℕ} → d < a.disks → n < a.sectors d → a.told d → IsLive a b d n
  live stays {d} {n} below inside told = record {
    disk = omega (arith, below, stays.disks);
    sector = subst (λ m. n < m) (sym (stays.sectors d)) inside;
    is_told = told;
    unspent = unspent d n;
  }

  pub read_leaves : {disk sector : ℕ} {into : List ℕ} {X : Type 0} {result : Result X Gone} → Reads a b disk sector into result → KeepsOffline offline offline a b s t
  read_leaves reads =
      left_alone reads.stays (λ tr. let leaves = reads.keeps.stops tr in (leaves.later, leaves.past))
      (λ d below off. record {
        held = λ n inside told. reads.keeps.held d n (live reads.stays below inside told);
        stops = λ known tr k i after upto left n inside told. (reads.keeps.stops tr).new k i after upto left d n (live reads.stays below inside told);
      })

  pub sync_leaves : {disk : ℕ} {X : Type 0} {result : Result X Gone} → Syncs a b disk result → KeepsOffline offline offline a b s t
  sync_leaves syncs =
      left_alone syncs.stays (λ tr. let leaves = syncs.keeps.stops tr in (leaves.later, leaves.past))
      (λ d below off. record {
        held = λ n inside told. syncs.keeps.held d n (live syncs.stays below inside told);
        stops = λ known tr k i after upto left n inside told. (syncs.keeps.stops tr).new k i after upto left d n (live syncs.stays below inside told);
      })

  -- what a write leaves of another disk
  held_after : {disk sector : ℕ} {from : List ℕ} {X : Type 0} (result : Result X Gone) → Writes a b disk sector from result
      → (d n : ℕ) → d ≢ disk → IsLive a b d n → Keeps (a.held d n) (b.held d n)
  held_after {disk} {sector} {from} (Ok x) writes d n other is = subst (λ h. Keeps h (b.held d n)) (elsewhere a disk sector from d n other) (writes.done d n is)
  held_after {disk} {sector} {from} (Err e) writes d n other is =
      elim (writes.failed d n is) [
        | inl kept ↦ kept
        | inr kept ↦ subst (λ h. Keeps h (b.held d n)) (elsewhere a disk sector from d n other) kept
      ]

  pub write_leaves : {disk sector : ℕ} {from : List ℕ} {X : Type 0} (result : Result X Gone)
      → sector < (if is_offline offline disk then 0 else a.sectors disk) → Writes a b disk sector from result → KeepsOffline offline offline a b s t
  write_leaves {disk} {sector} {from} result inside writes =
      left_alone writes.stays (λ tr. let leaves = writes.stops tr in (leaves.later, leaves.past))
      (λ d below off.
      let other = apart offline d disk off (has_sector (is_offline offline disk) (a.sectors disk) sector inside) in
      record {
        held = λ n within told. held_after result writes d n other (live writes.stays below within told);
        stops = λ known tr k i after upto left n within told.
            subst (λ h. MayLeave h (i d n)) (elsewhere a disk sector from d n other)
            ((writes.stops tr).new k i after upto left d n (live writes.stays below within told));
      })

-- nothing was called
same_values : {a b : RackView} (d : ℕ) → ((n : ℕ) → b.held d n ≡ a.held d n) → b.clock ≡ a.clock → (Told : Type 0) → KeepsDisk Told a b d
same_values {a} {b} d held clock Told = record {
  held = λ n inside told. subst (Keeps (a.held d n)) (sym (held n)) (keeps_same (a.held d n));
  stops = λ known tr k i after upto left. absurd (omega (arith, after, upto, clock));
}

-- a disk is attached
pub attached_leaves : (old new : List Bool) {a b : RackView} {s t : Shelf} (name : List ℕ) (d : ℕ)
    → ((e : ℕ) → is_offline new e ≡ (if e == d then false else is_offline old e))
    → Attaches a b s t name (Ok d) → KeepsOffline old new a b s t
attached_leaves old new {a} {b} {s} name d flags attaches =
    let adds = attaches.ok in
    record {
      disks = omega (arith, adds.disks);
      flags = λ e below. flags e ∙ ap (λ test. if test then false else is_offline old e) (other_flag e d a.disks below adds.number);
      sectors = λ e below. (adds.others e below).sectors;
      tells = λ e below. (adds.others e below).told;
      told = adds.told;
      traced = λ told tr. adds.traced tr told;
      later = λ told tr. omega (arith, adds.clock);
      past = λ told. adds.past;
      kept = λ e below off. same_values e (adds.others e below).held adds.clock s.told;
    }

-- a name is refused
pub refused_leaves : (offline : List Bool) {a b : RackView} {s t : Shelf} (name : List ℕ) (fault : AttachFault)
    → Attaches a b s t name (Err fault) → KeepsOffline offline offline a b s t
refused_leaves offline {a} {b} {s} name fault attaches =
    let same = attaches.refused in
    record {
      disks = omega (arith, same.disks);
      flags = λ e below. refl;
      sectors = λ e below. (same.others e).sectors;
      tells = λ e below. (same.others e).told;
      told = same.told;
      traced = λ told tr. same.traced tr;
      later = λ told tr. omega (arith, same.clock);
      past = λ told tr k i upto left. same.past k i left;
      kept = λ e below off. same_values e (same.others e).held same.clock s.told;
    }
