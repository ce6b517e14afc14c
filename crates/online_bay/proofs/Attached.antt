-- A disk is asked, a disk is attached, a name is refused.
use Rattle.std.proofs.Common.{◌≡◌, ◌⊎◌, ◌==◌, ◌<◌, ◌++◌, inl, inr, ℕ, zero, suc, List, [], ◌∷◌, Bool, true, false, length, Ok, Err, refl, ap, ◌∙◌, arith}
use Rattle.std.specs.Prelude.{if◌then◌else◌}
use Rattle.std.proofs.lemmas.Bool.{eq-eqb, eqb-true}
use Rattle.rack.specs.declared.AttachFault.{AttachFault}
use Rattle.rack.specs.Seen.{RackView}
use Rattle.rack.specs.Shelf.{Attaches, IsFrom, SameDisk, Shelf, Waiting}
use Rattle.online_bay.specs.Online.{is_offline, online_of}

-- a flag more
pub flag_after : (flags : List Bool) (flag : Bool) (d : ℕ) → is_offline (flags ++ flag ∷ []) d ≡ true
    → (is_offline flags d ≡ true) ⊎ ((d ≡ length flags) × (flag ≡ true))
flag_after [] flag zero is = inr (refl, is)
flag_after [] flag (suc d) is = cc
flag_after (first ∷ flags) flag zero is = inl is
flag_after (first ∷ flags) flag (suc d) is =
    elim (flag_after flags flag d is) [
      | inl before ↦ inl before
      | inr last ↦ inr (ap suc last.0, last.1)
    ]

-- the flags before it stay, and it is the last one
pub flag_before : (flags : List Bool) (flag : Bool) (d : ℕ) → d < length flags → is_offline (flags ++ flag ∷ []) d ≡ is_offline flags d
flag_before [] flag d inside = absurd (omega (arith, inside))
flag_before (first ∷ flags) flag zero inside = refl
flag_before (first ∷ flags) flag (suc d) inside = flag_before flags flag d (omega (arith, inside))

pub flag_last : (flags : List Bool) (flag : Bool) → is_offline (flags ++ flag ∷ []) (length flags) ≡ flag
flag_last [] flag = refl
flag_last (first ∷ flags) flag = flag_last flags flag

-- an old disk, with the flag that it had
same_disk : (old new : List Bool) {a b : RackView} (d : ℕ) → is_offline new d ≡ is_offline old d → SameDisk a b d
    → SameDisk (online_of old a) (online_of new b) d
same_disk old new {a} {b} d flag same = record {
  sectors = ap (λ flag. if flag then 0 else b.sectors d) flag ∙ ap (λ n. if is_offline old d then 0 else n) same.sectors;
  held = same.held;
  faults = same.faults;
  told = same.told;
}

-- a name is refused
pub refused_still : (offline : List Bool) {a b : RackView} {s t : Shelf} (name : List ℕ) (fault : AttachFault)
    → Attaches a b s t name (Err fault) → Attaches (online_of offline a) (online_of offline b) s t name (Err fault)
refused_still offline name fault attaches =
    let same = attaches.refused in
    record {
      faults = attaches.faults;
      ok = tt;
      failed = attaches.failed;
      twice = attaches.twice;
      refused = record {
        disks = same.disks;
        clock = same.clock;
        others = λ e. same_disk offline offline e refl (same.others e);
        traced = same.traced;
        steady = same.steady;
        past = same.past;
        kept = same.kept;
        names = same.names;
        ready = same.ready;
        told = same.told;
      };
    }

-- a test that fails
unequal : (test : Bool) → (test ≡ true → test ≡ false) → test ≡ false
unequal true is = is refl
unequal false is = refl

-- a new disk is none of the old ones
pub other_flag : (e d disks : ℕ) → e < disks → d ≡ disks → (e == d) ≡ false
other_flag e d disks below number = unequal (e == d) (λ is. absurd (omega (arith, eqb-true e d is, below, number)))

-- a disk is attached, and online
pub attached_online : (old new : List Bool) {a b : RackView} {s t : Shelf} (name : List ℕ) (d : ℕ)
    → ((e : ℕ) → is_offline new e ≡ (if e == d then false else is_offline old e))
    → Attaches a b s t name (Ok d) → Attaches (online_of old a) (online_of new b) s t name (Ok d)
attached_online old new {a} {b} name d flags attaches =
    let adds = attaches.ok in
    record {
      faults = attaches.faults;
      ok = record {
        number = adds.number;
        disks = adds.disks;
        clock = adds.clock;
        others = λ e below. same_disk old new e (flags e ∙ ap (λ test. if test then false else is_offline old e) (other_flag e d a.disks below adds.number)) (adds.others e below);
        unfaulted = adds.unfaulted;
        traced = adds.traced;
        past = adds.past;
        kept = adds.kept;
        steady = adds.steady;
        waited = λ told. let waited = adds.waited told in (waited.0, waited.1, from waited.0 waited.2);
        names = adds.names;
        gone = adds.gone;
        ready = adds.ready;
        told = adds.told;
      };
      failed = attaches.failed;
      twice = attaches.twice;
      refused = tt;
    }
  where
    is_new : is_offline new d ≡ false
    is_new = flags d ∙ ap (λ test. if test then false else is_offline old d) (eq-eqb d d refl)

    from : (w : Waiting) → IsFrom a b d w → IsFrom (online_of old a) (online_of new b) d w
    from w is = record {
      sectors = ap (λ flag. if flag then 0 else b.sectors d) is_new ∙ is.sectors;
      held = is.held;
      told = is.told;
      shown = is.shown;
      stops = is.stops;
    }
