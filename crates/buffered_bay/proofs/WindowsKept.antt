-- Windows through calls that leave their disks as they are.
use Rattle.std.proofs.Common.{◌≡◌, ◌≢◌, ℕ, zero, suc, ◌+◌, ◌<◌, ◌≤◌, List, [], ◌∷◌, Some, slice_get, slice_set, length-set, refl, sym, ap, subst, ◌∙◌, inl, inr, arith}
use Rattle.std.proofs.lemmas.Bool.{cases_eq}
use Rattle.std.proofs.lemmas.Option.{slice_get_within}
use Rattle.rack.specs.Values.{Values, Keeps, IsSingle}
use Rattle.rack.specs.Seen.{RackView, IsLive, SameRack}
use Rattle.rack.specs.Sequences.{OnlyReads}
use Rattle.buffered_bay.specs.View.{View, IsPlain}
use Rattle.buffered_bay.specs.Buffered.{IsWindow, AreWindows}
use Rattle.buffered_bay.specs.declared.windows.Window.{Window}

-- a sector of files that tell is live over a call
pub live :
    {tells : Type 0} {a b : RackView} (d s : ℕ) → IsPlain tells a → IsPlain tells b → SameRack a b → tells
    → d < a.disks → s < a.sectors d → IsLive a b d s
live {tells} {a} {b} d s before after stays t disk sector =
    record {
      disk = subst (λ n. d < n) (sym stays.disks) disk;
      sector = subst (λ n. s < n) (sym (stays.sectors d)) sector;
      is_told = before.told d t;
      unspent = after.unspent d s;
    }

-- a call leaves one disk, its buffer and its file as they are
pub record KeepsDisk (tells : Type 0) (a b : View) (d : ℕ) : Type 0 where
  pub sectors : b.seen.sectors d ≡ a.seen.sectors d
  pub held : tells → (s : ℕ) → s < a.seen.sectors d → Keeps (a.seen.held d s) (b.seen.held d s)
  pub buffer : (p : ℕ) → b.buffer d p ≡ a.buffer d p
  pub stored : tells → (s : ℕ) → s < a.seen.sectors d → b.stored d s ≡ a.stored d s

-- a sector that holds one value holds it alone where no value came
pub single_kept : {g h : Values} → Keeps g h → IsSingle g → IsSingle h
single_kept keeps single = λ v leaves. single v (keeps.within v leaves) ∙ sym keeps.current

-- a call that brings no value keeps a disk whose buffer and file it leaves
pub keeps_disk :
    {tells : Type 0} {a b : View} (d : ℕ) → IsPlain tells a.seen → IsPlain tells b.seen → OnlyReads a.seen b.seen
    → d < a.seen.disks
    → ((p : ℕ) → b.buffer d p ≡ a.buffer d p)
    → ((s : ℕ) → IsLive a.seen b.seen d s → b.stored d s ≡ a.stored d s)
    → KeepsDisk tells a b d
keeps_disk d before after reads disk buffer stored =
    record {
      sectors = reads.stays.sectors d;
      held = λ t s sector. reads.keeps.held d s (live d s before after reads.stays t disk sector);
      buffer = buffer;
      stored = λ t s sector. stored s (live d s before after reads.stays t disk sector);
    }

pub window_kept :
    {tells : Type 0} {a b : View} (d : ℕ) (w : Window) → KeepsDisk tells a b d → IsWindow tells a d w → IsWindow tells b d w
window_kept {tells} {a} {b} d w kept window =
    record {
      inside = subst (λ n. w.first + w.count ≤ n) (sym kept.sectors) window.inside;
      current = λ t p below.
          kept.buffer p ∙ (window.current t p below ∙ sym (kept.held t (w.first + p) (omega (arith, below, window.inside))).current);
      clean = λ t s below out.
          let inside : s < a.seen.sectors d = subst (λ n. s < n) kept.sectors below in
          kept.stored t s inside ∙ (window.clean t s inside out ∙ sym (kept.held t s inside).current);
      synced = λ t flag s below.
          let inside : s < a.seen.sectors d = subst (λ n. s < n) kept.sectors below in
          single_kept (kept.held t s inside) (window.synced t flag s inside);
    }

-- what stands in a list after a change
pub get_set_same : {A : Type 0} (xs : List A) (k : ℕ) (x v : A) → slice_get (slice_set xs k x) k ≡ Some v → v ≡ x
get_set_same [] k x v at = cc
get_set_same (y ∷ xs) zero x v at = cc
get_set_same (y ∷ xs) (suc k) x v at = get_set_same xs k x v at

pub get_set_other : {A : Type 0} (xs : List A) (k d : ℕ) (x : A) → d ≢ k → slice_get (slice_set xs k x) d ≡ slice_get xs d
get_set_other [] k d x other = refl
get_set_other (y ∷ xs) zero zero x other = absurd (other refl)
get_set_other (y ∷ xs) zero (suc d) x other = refl
get_set_other (y ∷ xs) (suc k) zero x other = refl
get_set_other (y ∷ xs) (suc k) (suc d) x other = get_set_other xs k d x (λ same. other (ap suc same))

pub some_same : {A : Type 0} {x y : A} → Some x ≡ Some y → x ≡ y
some_same is = cc

-- a window lies in the list of an attached disk
pub window_disk : {tells : Type 0} {a : View} {ws : List Window} (d : ℕ) (w : Window) → AreWindows tells a ws → slice_get ws d ≡ Some w → d < a.seen.disks
window_disk {ws = ws} d w windows at = subst (λ n. d < n) windows.count (slice_get_within ws d w at)

-- one disk has another window, and the others are as they were
pub windows_set :
    {tells : Type 0} {a b : View} (ws : List Window) (disk : ℕ) (w : Window) → AreWindows tells a ws
    → b.seen.disks ≡ a.seen.disks
    → ((d : ℕ) → d < a.seen.disks → d ≢ disk → KeepsDisk tells a b d)
    → IsWindow tells b disk w
    → AreWindows tells b (slice_set ws disk w)
windows_set {tells} {a} {b} ws disk w windows disks others new =
    record {
      count = length-set ws disk w ∙ (windows.count ∙ sym disks);
      each = λ d v at.
          elim (cases_eq d disk) [
            | inl same ↦
                let is : v ≡ w = get_set_same ws disk w v (subst (λ k. slice_get (slice_set ws disk w) k ≡ Some v) same at) in
                subst (λ k. IsWindow tells b k v) (sym same) (subst (IsWindow tells b disk) (sym is) new)
            | inr other ↦
                let before : slice_get ws d ≡ Some v = sym (get_set_other ws disk d w other) ∙ at in
                window_kept d v (others d (window_disk d v windows before) other) (windows.each d v before)
          ];
    }

-- no disk has another window
pub windows_kept :
    {tells : Type 0} {a b : View} (ws : List Window) (disk : ℕ) (w : Window) → slice_get ws disk ≡ Some w → AreWindows tells a ws
    → b.seen.disks ≡ a.seen.disks
    → ((d : ℕ) → d < a.seen.disks → d ≢ disk → KeepsDisk tells a b d)
    → IsWindow tells b disk w
    → AreWindows tells b ws
windows_kept {tells} {a} {b} ws disk w here windows disks others new =
    record {
      count = windows.count ∙ sym disks;
      each = λ d v at.
          elim (cases_eq d disk) [
            | inl same ↦
                let is : w ≡ v = some_same (sym here ∙ subst (λ k. slice_get ws k ≡ Some v) same at) in
                subst (λ k. IsWindow tells b k v) (sym same) (subst (IsWindow tells b disk) is new)
            | inr other ↦ window_kept d v (others d (window_disk d v windows at) other) (windows.each d v at)
          ];
    }
