-- The disk of a name once it is attached, and why it isn't taken in.
use Rattle.std.specs.Prelude.{Ok, Err}
use Rattle.std.proofs.Common.{◌≡◌, ◌⊎◌, ℕ, ◌<◌, ◌≤◌, if◌then◌else◌, true, List, slice_get, Option, Some, refl, sym, ap, subst, ◌∙◌, inl, inr, arith, lt-ltb, le-ltb}
use Rattle.std.proofs.lemmas.Bool.{cases_lt}
use Rattle.rack.specs.Seen.{Rose, RackView}
use Rattle.array_image.specs.Places.{log_slice}
use Rattle.array_image.specs.States.{is_current}
use Rattle.raid_laws.proofs.Whole.{heeded_left}
use Rattle.slice_rack.specs.Slices.{IsOrderly, disk_of, seat_of}
use Rattle.pool.specs.Moment.{DriveWentFrom, IsNamed, moment_of}
use Rattle.pool.specs.Replaced.{HasTakingCause, IsAnswer, IsLookedAt, IsOfDrive, NamesDisk, faults_before}
use Rattle.pool.specs.Taking.{AttachesDisk}
use Rattle.pool.specs.View.{View, book, volume}
use Rattle.pool.specs.declared.replacing.GrowFault.{GrowFault}
use Rattle.pool.specs.declared.replacing.GrowFault.TheVariants.{NoSuchDrive, Attach, Twice, Memory, Gone, NotWhole}
use Rattle.pool.proofs.Late.{Answer, AreLate, IsLate, answer_late, same_fault, same_of}
use Rattle.pool.proofs.Later.{later}
use Rattle.pool.proofs.Taken.{low_disk}

module _ (x : View) (bay : x.bays.one) (name : List ℕ) where
  abbrev b : RackView
  b = x.bays.seen bay

  abbrev m : View
  m = later x b (x.bays.shelf bay) x.slices x.arrays

  -- no disk is attached
  pub unattached_cause : (places place : ℕ) (refusal : ℕ → Option GrowFault) (Marked : Type 0) → place < places → (e : GrowFault) → AttachesDisk x m name (Err e)
      → HasTakingCause places place refusal Marked (moment_of x) (moment_of m) name (Err e)
  unattached_cause places place refusal Marked inside e at = record {
    missing = (λ same. absurd (not_listed (same_fault e NoSuchDrive same) at.err), λ past. absurd (omega (arith, inside, past)));
    attach = λ same. at.attach (ap Err (same_fault e Attach same));
    none = λ why. at.none (elim why [ inl same ↦ inl (ap Err (same_fault e Attach same)) | inr same ↦ inr (ap Err (same_fault e Memory same)) ]);
    used = λ d named. (
      λ same. (at.used d named).0 (ap Err (same_fault e Attach same)),
      λ same. (at.used d named).1 (ap Err (same_fault e Memory same)),
    );
    twice = (λ same. (inside, at.twice.0 (ap Err (same_fault e Twice same))), λ of. ap Err (same_of e Twice (at.twice.1 of.1)));
    named = λ look. absurd (looked look at.err);
    answer = λ look. absurd (looked look at.err);
    gone = λ same. absurd (not_gone (same_fault e Gone same) at.err);
    not_whole = λ same. absurd (not_whole (same_fault e NotWhole same) at.err);
  }
    where
      Early : Type 0
      Early = (e ≡ Attach) ⊎ ((e ≡ Memory) ⊎ (e ≡ Twice))

      not_listed : e ≡ NoSuchDrive → Early → ⊥
      not_listed is (inl one) = let same : NoSuchDrive ≡ Attach = sym is ∙ one in cc same
      not_listed is (inr (inl one)) = let same : NoSuchDrive ≡ Memory = sym is ∙ one in cc same
      not_listed is (inr (inr one)) = let same : NoSuchDrive ≡ Twice = sym is ∙ one in cc same

      not_gone : e ≡ Gone → Early → ⊥
      not_gone is (inl one) = let same : Gone ≡ Attach = sym is ∙ one in cc same
      not_gone is (inr (inl one)) = let same : Gone ≡ Memory = sym is ∙ one in cc same
      not_gone is (inr (inr one)) = let same : Gone ≡ Twice = sym is ∙ one in cc same

      not_whole : e ≡ NotWhole → Early → ⊥
      not_whole is (inl one) = let same : NotWhole ≡ Attach = sym is ∙ one in cc same
      not_whole is (inr (inl one)) = let same : NotWhole ≡ Memory = sym is ∙ one in cc same
      not_whole is (inr (inr one)) = let same : NotWhole ≡ Twice = sym is ∙ one in cc same

      looked : IsLookedAt places place (Err e) → Early → ⊥
      looked look (inl one) = look.attached (ap Err one)
      looked look (inr (inl one)) = look.had (ap Err one)
      looked look (inr (inr one)) = look.other (ap Err one)

  -- one is
  module _ (disk : ℕ) (at : AttachesDisk x m name (Ok disk)) where
    pub before_same : (d : ℕ) → faults_before (moment_of m) d ≡ faults_before (moment_of x) d
    before_same d =
        elim (cases_lt d b.disks) [
          | inl low ↦ ap (λ t. if t then b.faults d else 0) (lt-ltb d b.disks low) ∙ at.faults d low
          | inr past ↦
              let more = at.continues.proceeds.disks.disks in
              let old : x.bay.disks ≤ d = omega (arith, past, more) in
              ap (λ t. if t then b.faults d else 0) (le-ltb d b.disks past) ∙ sym (ap (λ t. if t then x.bay.faults d else 0) (le-ltb d x.bay.disks old))
        ]

    pub rose_from : (volume x).fit → IsOrderly x.slices → (y : View) (k : ℕ) → is_current (book x).state k ≡ true → DriveWentFrom (moment_of m) (moment_of y) k
        → DriveWentFrom (moment_of x) (moment_of y) k
    rose_from fit ordered y k was rose =
        let d = disk_of x.slices (log_slice k) in
        let low = low_disk (book x) x.slices x.bay k ordered fit.0.running.set (heeded_left (book x) k fit.0.heeded was) in
        subst (λ n. Rose n (y.bay.faults d))
        (at.faults d (let more = at.continues.proceeds.disks.disks in omega (arith, low, more)) ∙ ap (λ t. if t then x.bay.faults d else 0) (lt-ltb d x.bay.disks low)) rose

    -- the name is no current drive's
    pub not_drive : IsOfDrive (moment_of x) name → ⊥
    not_drive of =
        let same : of.0 ≡ disk = at.names.one of.0 disk (at.continues.proceeds.disks.names of.0 name of.2) at.ok.0 in
        at.ok.2 (of.1, subst (λ e. seat_of x.slices of.1 ≡ Some e) same of.3, of.4)

    -- and calls later it is of one disk still
    module _ (y : View) (names : y.shelf.names ≡ m.shelf.names) where
      before : (d : ℕ) → IsNamed (moment_of y) name d → IsNamed (moment_of m) name d
      before d named = ap (λ ns. slice_get ns d) (sym names) ∙ named

      pub here : IsNamed (moment_of y) name disk
      here = ap (λ ns. slice_get ns disk) names ∙ at.ok.0

      pub only : (d : ℕ) → IsNamed (moment_of y) name d → d ≡ disk
      only d named = at.names.one d disk (before d named) at.ok.0

      pub names_since : y.bay.disks ≡ b.disks → NamesDisk (moment_of x) (moment_of y) name
      names_since disks = record {
        there = λ d named. let old = at.names.there d (before d named) in omega (arith, old, disks);
        one = λ d e first second. at.names.one d e (before d first) (before e second);
        came = λ d past inside. ap (λ ns. slice_get ns d) names ∙ at.names.came d past (omega (arith, inside, disks));
        old = λ d low named. at.names.old d low (before d named);
        others = λ d n is. at.names.others d n (ap (λ ns. slice_get ns d) (sym names) ∙ is);
      }

      pub attached_cause : (places place : ℕ) (refusal : ℕ → Option GrowFault) (Marked : Type 0) → place < places → (r : Answer) → y.bay.sectors disk ≡ b.sectors disk
          → AreLate (refusal (b.sectors disk)) → IsAnswer (refusal (b.sectors disk)) r → (r ≡ Err Gone → Rose (b.faults disk) (y.bay.faults disk))
          → (r ≡ Err NotWhole → (refusal (b.sectors disk) ≡ Some NotWhole) ⊎ Marked) → HasTakingCause places place refusal Marked (moment_of x) (moment_of y) name r
      attached_cause places place refusal Marked inside r size late_o answer gone not_whole = record {
        missing = (λ same. absurd ((late NoSuchDrive same).listed refl), λ past. absurd (omega (arith, inside, past)));
        attach = λ same. absurd ((late Attach same).attached refl);
        none = λ why. elim why [ inl same ↦ absurd ((late Attach same).attached refl) | inr same ↦ absurd ((late Memory same).had refl) ];
        used = λ d named. (λ same. (late Attach same).attached refl, λ same. (late Memory same).had refl);
        twice = (λ same. absurd ((late Twice same).other refl), λ of. absurd (not_drive of.1));
        named = λ look. (disk, here);
        answer = λ look d named. subst (λ e. IsAnswer (refusal (y.bay.sectors e)) r) (sym (only d named)) (subst (λ n. IsAnswer (refusal n) r) (sym size) answer);
        gone = λ same d named.
            subst (λ e. Rose (faults_before (moment_of x) e) (y.bay.faults e)) (sym (only d named))
            (subst (λ n. Rose n (y.bay.faults disk)) (at.faults disk at.ok.1) (gone same));
        not_whole = λ same d named.
            subst (λ e. (refusal (y.bay.sectors e) ≡ Some NotWhole) ⊎ Marked) (sym (only d named))
            (subst (λ n. (refusal n ≡ Some NotWhole) ⊎ Marked) (sym size) (not_whole same));
      }
        where
          late : (f : GrowFault) → r ≡ Err f → IsLate f
          late = answer_late (refusal (b.sectors disk)) late_o r answer
