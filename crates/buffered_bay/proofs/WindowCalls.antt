-- What each call on files does to the window of its disk.
use Rattle.std.proofs.Common.{◌≡◌, ◌≢◌, ◌⊎◌, ℕ, ◌+◌, ◌-◌, ◌<◌, ◌≤◌, List, Ok, Err, Result, refl, sym, ap, subst, ◌∙◌, inl, inr, arith}
use Rattle.std.proofs.lemmas.Bool.{cases_eq, cases_lt}
use Rattle.rack.specs.declared.Gone.{Gone}
use Rattle.rack.specs.Values.{Keeps}
use Rattle.rack.proofs.Writing.{appended_elsewhere, appended_here}
use Rattle.buffered_bay.specs.View.{View, IsPlain}
use Rattle.buffered_bay.specs.StoreCalls.{Puts, Loads, Stores, SyncsFile}
use Rattle.buffered_bay.specs.Buffered.{IsWindow, IsEmptyAt, Marks}
use Rattle.buffered_bay.specs.declared.windows.Window.{Window}
use Rattle.buffered_bay.proofs.WindowsKept.{KeepsDisk, live, keeps_disk, single_kept}

-- ---- store

pub store_others :
    {tells : Type 0} {a b : View} {disk sector place count : ℕ} {X : Type 0} {result : Result X Gone}
    → IsPlain tells a.seen → IsPlain tells b.seen → Stores a b disk sector place count result
    → (d : ℕ) → d < a.seen.disks → d ≢ disk → KeepsDisk tells a b d
store_others before after stores d has other =
    keeps_disk d before after stores.reads has (λ p. stores.buffers d p) (λ s live. stores.others d s live (inl other))

-- refused, what is outside of the dirty places is as it was
pub store_refused :
    {tells : Type 0} {a b : View} {disk sector place count : ℕ} {X : Type 0} {result : Result X Gone} (w : Window)
    → IsPlain tells a.seen → IsPlain tells b.seen → disk < a.seen.disks
    → sector ≡ w.first + w.dirty_from → sector + count ≡ w.first + w.dirty_to
    → Stores a b disk sector place count result
    → IsWindow tells a disk w → IsWindow tells b disk w
store_refused {tells} {a} {b} {disk} {sector} {count = count} w before after has from to stores window =
    record {
      inside = subst (λ n. w.first + w.count ≤ n) (sym (stores.reads.stays.sectors disk)) window.inside;
      current = λ t p below.
          stores.buffers disk p ∙ (window.current t p below ∙ sym (held t (w.first + p) (omega (arith, below, window.inside))).current);
      clean = λ t s below out.
          let inside = within s below in
          stores.others disk s (live disk s before after stores.reads.stays t has inside) (inr (apart s out))
          ∙ (window.clean t s inside out ∙ sym (held t s inside).current);
      synced = λ t flag s below.
          let inside = within s below in
          single_kept (held t s inside) (window.synced t flag s inside);
    }
  where
    within : (s : ℕ) → s < b.seen.sectors disk → s < a.seen.sectors disk
    within s below = subst (λ n. s < n) (stores.reads.stays.sectors disk) below

    held : tells → (s : ℕ) → s < a.seen.sectors disk → Keeps (a.seen.held disk s) (b.seen.held disk s)
    held t s inside = stores.reads.keeps.held disk s (live disk s before after stores.reads.stays t has inside)

    apart : (s : ℕ) → (s < w.first + w.dirty_from) ⊎ (w.first + w.dirty_to ≤ s) → (s < sector) ⊎ (sector + count ≤ s)
    apart s (inl under) = inl (omega (arith, under, from))
    apart s (inr over) = inr (omega (arith, over, to))

-- answered, nothing is dirty
pub store_done :
    {tells : Type 0} {a b : View} {disk sector place count : ℕ} {X : Type 0} {x : X} (w v : Window)
    → IsPlain tells a.seen → IsPlain tells b.seen → disk < a.seen.disks
    → sector ≡ w.first + w.dirty_from → place ≡ w.dirty_from → place + count ≡ w.dirty_to
    → v.first ≡ w.first → v.count ≡ w.count → v.unsynced ≡ w.unsynced
    → Stores a b disk sector place count (Ok x)
    → IsWindow tells a disk w → IsWindow tells b disk v
store_done {tells} {a} {b} {disk} {sector} {place} {count} w v before after has from at to first same unsynced stores window =
    record {
      inside = subst (λ n. v.first + v.count ≤ n) (sym (stores.reads.stays.sectors disk)) (omega (arith, first, same, window.inside));
      current = λ t p below.
          let here : w.first + p ≡ v.first + p = ap (λ n. n + p) (sym first) in
          subst (λ s. b.buffer disk p ≡ (b.seen.held disk s).current) here
          (stores.buffers disk p ∙ (window.current t p (omega (arith, below, same)) ∙ sym (held t (w.first + p) (omega (arith, below, same, window.inside))).current));
      clean = λ t s below out.
          let inside = subst (λ n. s < n) (stores.reads.stays.sectors disk) below in
          now t s inside ∙ sym (held t s inside).current;
      synced = λ t flag s below.
          let inside = subst (λ n. s < n) (stores.reads.stays.sectors disk) below in
          single_kept (held t s inside) (window.synced t (sym unsynced ∙ flag) s inside);
    }
  where
    held : tells → (s : ℕ) → s < a.seen.sectors disk → Keeps (a.seen.held disk s) (b.seen.held disk s)
    held t s inside = stores.reads.keeps.held disk s (live disk s before after stores.reads.stays t has inside)

    outside : tells → (s : ℕ) → s < a.seen.sectors disk → (s < sector) ⊎ (sector + count ≤ s)
        → (s < w.first + w.dirty_from) ⊎ (w.first + w.dirty_to ≤ s) → b.stored disk s ≡ (a.seen.held disk s).current
    outside t s inside out clean =
        stores.others disk s (live disk s before after stores.reads.stays t has inside) (inr out) ∙ window.clean t s inside clean

    -- the place of a dirty sector
    within : tells → (s p : ℕ) → s < a.seen.sectors disk → p < count → sector + p ≡ s → b.stored disk s ≡ (a.seen.held disk s).current
    within t s p inside below is =
        let there : w.first + (place + p) ≡ s = omega (arith, from, at, is) in
        subst (λ k. b.stored disk k ≡ a.buffer disk (place + p)) is (stores.stored (before.told disk t) p below)
        ∙ subst (λ k. a.buffer disk (place + p) ≡ (a.seen.held disk k).current) there
        (window.current t (place + p) (omega (arith, below, to, w.within)))

    now : tells → (s : ℕ) → s < a.seen.sectors disk → b.stored disk s ≡ (a.seen.held disk s).current
    now t s inside =
        elim (cases_lt s sector) [
          | inl under ↦ outside t s inside (inl under) (inl (omega (arith, under, from)))
          | inr above ↦
              elim (cases_lt s (sector + count)) [
                | inl in_row ↦ within t s (s - sector) inside (omega (arith, in_row, above)) (omega (arith, above))
                | inr over ↦ outside t s inside (inr over) (inr (omega (arith, over, from, at, to)))
              ]
        ]

-- ---- put

pub put_others :
    {tells : Type 0} {a b : View} {disk sector place : ℕ} {from : List ℕ} {X : Type 0} {x : X}
    → IsPlain tells a.seen → IsPlain tells b.seen → Puts a b disk sector place from (Ok x)
    → (d : ℕ) → d < a.seen.disks → d ≢ disk → KeepsDisk tells a b d
put_others {tells} {a} {b} {disk} {sector} {from = from} before after puts d has other =
    record {
      sectors = puts.writes.stays.sectors d;
      held = λ t s sector'.
          subst (λ h. Keeps h (b.seen.held d s)) (appended_elsewhere a.seen.held disk sector from d s (inl other))
          (puts.writes.done d s (live d s before after puts.writes.stays t has sector'));
      buffer = λ p. puts.others d p (inl other);
      stored = λ t s sector'. puts.stored d s (live d s before after puts.writes.stays t has sector') (inl other);
    }

-- refused, every disk is as it was
pub put_refused :
    {tells : Type 0} {a b : View} {disk sector place : ℕ} {from : List ℕ} {X : Type 0} {e : Gone}
    → IsPlain tells a.seen → IsPlain tells b.seen → Puts a b disk sector place from {X = X} (Err e)
    → (d : ℕ) → d < a.seen.disks → KeepsDisk tells a b d
put_refused {tells} {a} {b} {disk} {place = place} before after puts d has =
    record {
      sectors = puts.writes.stays.sectors d;
      held = λ t s sector. puts.failed.held d s (live d s before after puts.writes.stays t has sector);
      buffer = λ p. same p;
      stored = λ t s sector. puts.unput.1 d s (live d s before after puts.writes.stays t has sector);
    }
  where
    same : (p : ℕ) → b.buffer d p ≡ a.buffer d p
    same p =
        elim (cases_eq d disk) [
          | inl here ↦
              elim (cases_eq p place) [
                | inl there ↦
                    subst (λ e. b.buffer e p ≡ a.buffer e p) (sym here)
                    (subst (λ q. b.buffer disk q ≡ a.buffer disk q) (sym there) puts.unput.0)
                | inr apart ↦ puts.others d p (inr apart)
              ]
          | inr other ↦ puts.others d p (inl other)
        ]

-- answered, its place is dirty
pub put_done :
    {tells : Type 0} {a b : View} {disk sector place : ℕ} {from : List ℕ} {X : Type 0} {x : X} (w v : Window)
    → IsPlain tells a.seen → IsPlain tells b.seen → disk < a.seen.disks → sector < a.seen.sectors disk
    → w.first + place ≡ sector → Marks w v place
    → Puts a b disk sector place from (Ok x)
    → IsWindow tells a disk w → IsWindow tells b disk v
put_done {tells} {a} {b} {disk} {sector} {place} {from} w v before after has room at marks puts window =
    record {
      inside = subst (λ n. v.first + v.count ≤ n) (sym (puts.writes.stays.sectors disk)) (lies marks.most);
      current = λ t p below.
          elim (cases_eq p place) [
            | inl here ↦
                let there : v.first + p ≡ sector = omega (arith, here, at, marks.first) in
                subst (λ q. b.buffer disk q ≡ from) (sym here) (puts.put (before.told disk t)) ∙ sym (subst (λ s. (b.seen.held disk s).current ≡ from) (sym there) (new t))
            | inr other ↦ old_place t p other (marks.count p below)
          ];
      clean = λ t s below out.
          let inside = within s below in
          let other = aside s out in
          puts.stored disk s (live disk s before after puts.writes.stays t has inside) (inr other)
          ∙ (window.clean t s inside (was s marks.old out) ∙ sym (kept t s inside other).current);
      synced = λ t flag s below. absurd (cc (marks.unsynced, flag));
    }
  where
    lies : (v.count ≤ w.count) ⊎ (v.count ≡ place + 1) → v.first + v.count ≤ a.seen.sectors disk
    lies (inl fewer) = omega (arith, fewer, marks.first, window.inside)
    lies (inr more) = omega (arith, more, marks.first, at, room)

    within : (s : ℕ) → s < b.seen.sectors disk → s < a.seen.sectors disk
    within s below = subst (λ n. s < n) (puts.writes.stays.sectors disk) below

    -- the sector has the new value
    new : tells → (b.seen.held disk sector).current ≡ from
    new t =
        (puts.writes.done disk sector (live disk sector before after puts.writes.stays t has room)).current
        ∙ appended_here a.seen.held disk sector from

    -- any other one keeps its own
    kept : tells → (s : ℕ) → s < a.seen.sectors disk → s ≢ sector → Keeps (a.seen.held disk s) (b.seen.held disk s)
    kept t s inside other =
        subst (λ h. Keeps h (b.seen.held disk s)) (appended_elsewhere a.seen.held disk sector from disk s (inr other))
        (puts.writes.done disk s (live disk s before after puts.writes.stays t has inside))

    old_place : tells → (p : ℕ) → p ≢ place → (p < w.count) ⊎ (p ≡ place) → b.buffer disk p ≡ (b.seen.held disk (v.first + p)).current
    old_place t p other (inr here) = absurd (other here)
    old_place t p other (inl below) =
        let elsewhere : w.first + p ≢ sector = λ same. other (omega (arith, same, at)) in
        let here : w.first + p ≡ v.first + p = ap (λ n. n + p) (sym marks.first) in
        subst (λ s. b.buffer disk p ≡ (b.seen.held disk s).current) here
        (puts.others disk p (inr other)
        ∙ (window.current t p below ∙ sym (kept t (w.first + p) (omega (arith, below, window.inside)) elsewhere).current))

    aside : (s : ℕ) → (s < v.first + v.dirty_from) ⊎ (v.first + v.dirty_to ≤ s) → s ≢ sector
    aside s (inl under) same = absurd (omega (arith, under, same, at, marks.first, marks.new.0))
    aside s (inr over) same = absurd (omega (arith, over, same, at, marks.first, marks.new.1))

    was : (s : ℕ) → (w.dirty_from ≡ w.dirty_to) ⊎ ((v.dirty_from ≤ w.dirty_from) × (w.dirty_to ≤ v.dirty_to))
        → (s < v.first + v.dirty_from) ⊎ (v.first + v.dirty_to ≤ s)
        → (s < w.first + w.dirty_from) ⊎ (w.first + w.dirty_to ≤ s)
    was s (inl none) out =
        elim (cases_lt s (w.first + w.dirty_from)) [
          | inl under ↦ inl under
          | inr above ↦ inr (omega (arith, above, none))
        ]
    was s (inr wider) (inl under) = inl (omega (arith, under, marks.first, wider.0))
    was s (inr wider) (inr over) = inr (omega (arith, over, marks.first, wider.1))

-- ---- load

pub load_others :
    {tells : Type 0} {a b : View} {disk sector count : ℕ} {X : Type 0} {result : Result X Gone}
    → IsPlain tells a.seen → IsPlain tells b.seen → Loads a b disk sector count result
    → (d : ℕ) → d < a.seen.disks → d ≢ disk → KeepsDisk tells a b d
load_others before after loads d has other =
    keeps_disk d before after loads.reads has (λ p. loads.others d p other) (λ s live. loads.stored d s live)

-- the file has every current value where the window has no sectors
empty_clean :
    {tells : Type 0} {a : View} {disk : ℕ} (w : Window) → w.count ≡ 0 → IsWindow tells a disk w → tells → (s : ℕ) → s < a.seen.sectors disk
    → a.stored disk s ≡ (a.seen.held disk s).current
empty_clean w none window t s inside =
    elim (cases_lt s (w.first + w.dirty_from)) [
      | inl under ↦ window.clean t s inside (inl under)
      | inr above ↦ window.clean t s inside (inr (omega (arith, above, none, w.ordered, w.within)))
    ]

-- a window that has other sectors, where the file has every current value
pub load_window :
    {tells : Type 0} {a b : View} {disk sector count : ℕ} {X : Type 0} {result : Result X Gone} (w v : Window)
    → IsPlain tells a.seen → IsPlain tells b.seen → disk < a.seen.disks
    → w.count ≡ 0 → v.unsynced ≡ w.unsynced → v.first + v.count ≤ a.seen.sectors disk
    → (tells → (p : ℕ) → p < v.count → b.buffer disk p ≡ a.stored disk (v.first + p))
    → Loads a b disk sector count result
    → IsWindow tells a disk w → IsWindow tells b disk v
load_window {tells} {a} {b} {disk} w v before after has none unsynced inside loaded loads window =
    record {
      inside = subst (λ n. v.first + v.count ≤ n) (sym (loads.reads.stays.sectors disk)) inside;
      current = λ t p below.
          let there : v.first + p < a.seen.sectors disk = omega (arith, below, inside) in
          loaded t p below ∙ (empty_clean w none window t (v.first + p) there ∙ sym (held t (v.first + p) there).current);
      clean = λ t s below out.
          let there = subst (λ n. s < n) (loads.reads.stays.sectors disk) below in
          loads.stored disk s (live disk s before after loads.reads.stays t has there)
          ∙ (empty_clean w none window t s there ∙ sym (held t s there).current);
      synced = λ t flag s below.
          let there = subst (λ n. s < n) (loads.reads.stays.sectors disk) below in
          single_kept (held t s there) (window.synced t (sym unsynced ∙ flag) s there);
    }
  where
    held : tells → (s : ℕ) → s < a.seen.sectors disk → Keeps (a.seen.held disk s) (b.seen.held disk s)
    held t s there = loads.reads.keeps.held disk s (live disk s before after loads.reads.stays t has there)

pub load_done :
    {tells : Type 0} {a b : View} {disk sector count : ℕ} {X : Type 0} {x : X} (w v : Window)
    → IsPlain tells a.seen → IsPlain tells b.seen → disk < a.seen.disks → sector + count ≤ a.seen.sectors disk
    → IsEmptyAt w sector → v.first ≡ w.first → v.count ≡ count → v.unsynced ≡ w.unsynced
    → Loads a b disk sector count (Ok x)
    → IsWindow tells a disk w → IsWindow tells b disk v
load_done {tells} {a} {b} {disk} {sector} {count} w v before after has room empty first same unsynced loads window =
    load_window w v before after has empty.1 unsynced (omega (arith, room, first, empty.0, same))
    (λ t p below.
    subst (λ s. b.buffer disk p ≡ a.stored disk (s + p)) (sym (first ∙ empty.0))
    (loads.loaded (before.told disk t) p (omega (arith, below, same))))
    loads window

pub load_refused :
    {tells : Type 0} {a b : View} {disk sector count : ℕ} {X : Type 0} {result : Result X Gone} (w : Window)
    → IsPlain tells a.seen → IsPlain tells b.seen → disk < a.seen.disks → IsEmptyAt w sector
    → Loads a b disk sector count result
    → IsWindow tells a disk w → IsWindow tells b disk w
load_refused w before after has empty loads window =
    load_window w w before after has empty.1 refl window.inside (λ t p below. absurd (omega (arith, below, empty.1))) loads window

-- ---- sync

pub sync_kept :
    {tells : Type 0} {a b : View} {disk : ℕ} {X : Type 0} {result : Result X Gone}
    → IsPlain tells a.seen → IsPlain tells b.seen → SyncsFile a b disk result
    → (d : ℕ) → d < a.seen.disks → KeepsDisk tells a b d
sync_kept before after syncs d has =
    keeps_disk d before after syncs.reads has (λ p. syncs.buffers d p) (λ s live. syncs.stored d s live)
