-- A disk is attached, or a name is refused.
use Rattle.std.proofs.Common.{◌≡◌, ◌≢◌, ◌⊎◌, ℕ, zero, suc, ◌+◌, List, [], ◌∷◌, ◌++◌, length, length-append, Some, slice_get, Ok, Err, true, refl, sym, ap, subst, ◌∙◌, inl, inr, arith}
use Rattle.rack.specs.declared.AttachFault.{AttachFault}
use Rattle.rack.specs.declared.AttachFault.TheVariants.{Memory, Twice}
use Rattle.rack.specs.Values.{Keeps}
use Rattle.rack.specs.Seen.{RackView}
use Rattle.rack.specs.Joins.{keeps_same}
use Rattle.rack.specs.Shelf.{Attaches, IsSame, SameDisk, Shelf}
use Rattle.buffered_bay.specs.View.{View, IsPlain}
use Rattle.buffered_bay.specs.StoreCalls.{AttachesFile}
use Rattle.buffered_bay.specs.Buffered.{AreWindows, IsWindow}
use Rattle.buffered_bay.specs.declared.windows.Window.{Window}
use Rattle.buffered_bay.proofs.WindowsKept.{KeepsDisk, window_kept, window_disk}

-- a disk of before stays
same_disk : {tells : Type 0} {a b : View} (d : ℕ) → SameDisk a.seen b.seen d → ((p : ℕ) → b.buffer d p ≡ a.buffer d p)
    → ((s : ℕ) → b.stored d s ≡ a.stored d s) → KeepsDisk tells a b d
same_disk {a = a} d same buffer stored =
    record {
      sectors = same.sectors;
      held = λ t s inside. subst (Keeps (a.seen.held d s)) (sym (same.held s)) (keeps_same (a.seen.held d s));
      buffer = buffer;
      stored = λ t s inside. stored s;
    }

-- a name was refused
pub windows_unattached :
    {tells : Type 0} {a b : View} {s t : Shelf} {name : List ℕ} {e : AttachFault} (ws : List Window) → AreWindows tells a ws
    → AttachesFile a b s t name (Err e) → AreWindows tells b ws
windows_unattached ws windows attaches =
    let same = attaches.attaches.refused in
    record {
      count = windows.count ∙ sym same.disks;
      each = λ d w at.
          let has = window_disk d w windows at in
          window_kept d w (same_disk d (same.others d) (λ p. attaches.buffers d p has) (λ s. attaches.stored d s has)) (windows.each d w at);
    }

-- what stands in a list with one more
get_push : {A : Type 0} (xs : List A) (y v : A) (i : ℕ) → slice_get (xs ++ y ∷ []) i ≡ Some v
    → (slice_get xs i ≡ Some v) ⊎ ((i ≡ length xs) × (v ≡ y))
get_push [] y v zero at = inr (refl, (cc))
get_push [] y v (suc i) at = inl at
get_push (x ∷ xs) y v zero at = inl at
get_push (x ∷ xs) y v (suc i) at =
    elim (get_push xs y v i at) [
      | inl old ↦ inl old
      | inr new ↦ inr (ap suc new.0, new.1)
    ]

-- the window of a new disk
new_window :
    {tells : Type 0} {a b : View} {s t : Shelf} {name : List ℕ} (w : Window) (d : ℕ) → IsPlain tells b.seen
    → w.first ≡ 0 → w.count ≡ 0 → w.unsynced ≡ true → AttachesFile a b s t name (Ok d) → IsWindow tells b d w
new_window w d plain first count unsynced attaches =
    record {
      inside = omega (arith, first, count);
      current = λ t p below. absurd (omega (arith, below, count));
      clean = λ t s below out. attaches.whole (plain.told d t) s below;
      synced = λ t flag s below. absurd (cc (unsynced, flag));
    }

-- a disk was attached
pub windows_push :
    {tells : Type 0} {a b : View} {s t : Shelf} {name : List ℕ} {d : ℕ} (ws : List Window) (w : Window) → IsPlain tells b.seen
    → AreWindows tells a ws → w.first ≡ 0 → w.count ≡ 0 → w.unsynced ≡ true → AttachesFile a b s t name (Ok d)
    → AreWindows tells b (ws ++ w ∷ [])
windows_push {tells} {a} {b} {d = d} ws w plain windows first count unsynced attaches =
    let adds = attaches.attaches.ok in
    record {
      count = length-append ws (w ∷ []) ∙ (ap (λ n. n + 1) windows.count ∙ sym adds.disks);
      each = λ e v at.
          elim (get_push ws w v e at) [
            | inl old ↦
                let has = window_disk e v windows old in
                window_kept e v (same_disk e (adds.others e has) (λ p. attaches.buffers e p has) (λ s. attaches.stored e s has))
                (windows.each e v old)
            | inr new ↦
                let number : d ≡ e = adds.number ∙ (sym windows.count ∙ sym new.0) in
                subst (λ k. IsWindow tells b k v) number (subst (IsWindow tells b d) (sym new.1) (new_window w d plain first count unsynced attaches))
          ];
    }

-- nothing was called
same_still : (a : RackView) (s : Shelf) → IsSame a a s s
same_still a s =
    record {
      disks = refl;
      clock = refl;
      others = λ e. record { sectors = refl; held = λ s. refl; faults = refl; told = λ told. told };
      traced = λ traced. traced;
      steady = λ steady. steady;
      past = λ k c stops. stops;
      kept = λ k c stops. stops;
      names = refl;
      ready = λ n. refl;
      told = λ told. told;
    }

pub is_twice :
    (a : RackView) (s : Shelf) (name : List ℕ) (d : ℕ) → slice_get s.names d ≡ Some name
    → ((e : ℕ) → slice_get s.names e ≡ Some name → e ≡ d)
    → Attaches a a s s name (Err (Twice d))
is_twice a s name d at only =
    record {
      faults = omega arith;
      ok = tt;
      failed = λ same. cc;
      twice = λ e. ((λ same. subst (λ k. slice_get s.names k ≡ Some name) (cc same) at), (λ there. ap (λ k. Err (Twice k)) (sym (only e there))));
      refused = same_still a s;
    }

pub is_full :
    (a : RackView) (s : Shelf) (name : List ℕ) → ((d : ℕ) → slice_get s.names d ≢ Some name) → Attaches a a s s name (Err Memory)
is_full a s name none =
    record {
      faults = omega arith;
      ok = tt;
      failed = λ same. cc;
      twice = λ d. ((λ same. cc), (λ at. absurd (none d at)));
      refused = same_still a s;
    }
