-- The steps of an opening up to a pool at rest, joined.
use Rattle.std.proofs.Common.{◌≡◌, ℕ, ◌+◌, ◌<◌, Bool, true, false, if◌then◌else◌, List, [], ◌∷◌, length, Option, Some, None, unwrap_or, refl, sym, ap, subst, ◌∙◌, inl, inr, arith}
use Rattle.std.specs.Option.{option_and_then}
use Rattle.std.specs.List.{list_any, list_all}
use Rattle.std.proofs.lemmas.Bool.{both_ways, or_parts}
use Rattle.rack.specs.Seen.{Image, RackView, SameRack}
use Rattle.rack.specs.Joins.{rose_early, rose_later, stays_then}
use Rattle.rack.specs.Sequences.{OnlyReads, WritesOnly}
use Rattle.rack.specs.Targets.{Target}
use Rattle.rack.proofs.Writing.{only_then, only_quiet, only_weaker}
use Rattle.pool_state.specs.declared.contents.State.{State}
use Rattle.slice_rack.specs.Slices.{Slices}
use Rattle.array_image.specs.Record.{GateAt, is_bad_gate, is_target, record_in, pending_at, pending_record, pending, damaged_log}
use Rattle.array_image.specs.States.{current_places}
use Rattle.pool_image.specs.Disks.{disks_of, identities_of}
use Rattle.pool_image.specs.Replay.{standing_by}
use Rattle.pool_image.specs.Meaning.{has_other_pool}
use Rattle.pool_image.specs.Alike.{MeansTheSame}
use Rattle.log_laws.specs.View.{LogView, names}
use Rattle.commit_log.proofs.Deciding.{names_either, nothing_pending}
use Rattle.commit_log.proofs.Undamaged.{whole_from}
use Rattle.pool_scan.specs.declared.Known.{Known}
use Rattle.pool_scan.specs.Scanning.{AllTold, IsScan, IsUnfaulted, now_in}
use Rattle.pool_scan.specs.Choosing.{AreOf}
use Rattle.pool_scan.proofs.Seated.{scan_later}
use Rattle.pool_scan.proofs.Meant.{scan_meant}
use Rattle.pool_rest.specs.Standing.{IsLasting, StandsAs}
use Rattle.pool_rest.specs.Resting.{IsOfDrive, IsReplayed, Rests, RestsSo, StandsNow, IsIdle, WritesDrives, seated_state}
use Rattle.pool_rest.proofs.Agreeing.{told_later, lasting_later, stands_now, rests_by, rests_idle}
use Rattle.pool_rest.proofs.SameMeaning.{replayed_means, idle_means, are_later, targets_valid}

-- ---- a record that is there is whole

none_any : (f : ℕ → Bool) (ps : List ℕ) (p : ℕ) → list_any f ps ≡ false → names ps p ≡ true → f p ≡ false
none_any f [] p none named = absurd (both_ways false refl named)
none_any f (q ∷ ps) p none named =
    let parts = or_parts (f q) (list_any f ps) none in
    elim (names_either q ps p named) [
      | inl here ↦ ap f (sym here) ∙ parts.0
      | inr later ↦ none_any f ps p parts.1 later
    ]

pub nonempty_whole : (ps : List ℕ) (c : Image) → (pending ps c ≡ [] → ⊥) → damaged_log ps c ≡ None
unfolding pending
nonempty_whole ps c some =
    whole_from c ps
    (λ p named. none_any (is_bad_gate c) ps p (good (list_any (is_bad_gate c) ps) refl) named)
    (λ x is. has x is (record_in c x.place x.gate.number) refl)
  where
    good : (b : Bool) → list_any (is_bad_gate c) ps ≡ b → list_any (is_bad_gate c) ps ≡ false
    good false is = is
    good true is = absurd (some (ap (λ (b : Bool). if b then [] else unwrap_or (pending_record ps c) []) is))

    has : (x : GateAt) → pending_at ps c ≡ Some x → (o : Option (List Target)) → record_in c x.place x.gate.number ≡ o
        → (xs : List Target) × (record_in c x.place x.gate.number ≡ Some xs)
    has x is (Some xs) at = (xs, at)
    has x is None at =
        absurd (some
        (ap (λ (o : Option (List Target)). if list_any (is_bad_gate c) ps then [] else unwrap_or o [])
        (ap (λ (o : Option GateAt). option_and_then (λ a. record_in c a.place a.gate.number) o) is ∙ at)
        ∙ none_left (list_any (is_bad_gate c) ps) None refl))
      where
        none_left : (b : Bool) (o : Option (List Target)) → o ≡ None → (if b then [] else unwrap_or o []) ≡ []
        none_left true o none = refl
        none_left false o none = ap (λ (z : Option (List Target)). unwrap_or z []) none

-- where a target is, a record is
pub some_at : (ps : List ℕ) (c : Image) → (pending ps c ≡ [] → ⊥) → (a : GateAt) × (pending_at ps c ≡ Some a)
some_at ps c some = of_pending (pending_at ps c) refl
  where
    of_pending : (o : Option GateAt) → pending_at ps c ≡ o → (a : GateAt) × (pending_at ps c ≡ Some a)
    of_pending None is = absurd (some (nothing_pending c ps is))
    of_pending (Some a) is = (a, is)

pub no_elements : (xs : List Target) → length xs ≡ 0 → xs ≡ []
no_elements [] none = refl
no_elements (x ∷ xs) none = absurd (omega (arith, none))

-- ---- which disks were written

pub writes_idle : (a b : RackView) (known : List Known) (s : State) → IsScan a b known → OnlyReads a b → WritesDrives a b
writes_idle a b known s scan reads = record {
  known = known;
  state = s;
  scan = scan;
  only = only_quiet (IsOfDrive a known s) reads.stays reads.keeps;
}

pub writes_since : (a x b : RackView) (known : List Known) (s : State) → OnlyReads a x → IsScan a x known → WritesOnly x b (IsOfDrive x known s) → WritesDrives a b
writes_since a x b known s reads scan only = record {
  known = known;
  state = s;
  scan = scan_later a x b known scan only.stays;
  only =
      only_then (IsOfDrive a known s) (only_quiet (IsOfDrive a known s) reads.stays reads.keeps)
      (only_weaker (IsOfDrive x known s) (IsOfDrive a known s) (λ d t v is. earlier d t v is) only);
}
  where
    earlier : (d t : ℕ) (v : List ℕ) → IsOfDrive x known s d t v → IsOfDrive a known s d t v
    earlier d t v is = record {
      place = is.place;
      seat = is.seat;
      behind = is.behind;
      before = elim is.before [ inl low ↦ inl low | inr within ↦ inr (subst (λ n. t + 33 < n) (reads.stays.sectors d) within) ];
    }

-- ---- a record that was replayed

module _ (a x b : RackView) (known : List Known) (st : State) (t : Slices) (m : LogView) (is_pending : Bool) (damaged : Option ℕ)
    (reads : OnlyReads a x) (stays : SameRack x b) (scan : IsScan a x known)
    (meant : AllTold a → IsUnfaulted a x → StandsAs a st t m is_pending damaged) where
  pub free_before : IsUnfaulted a b → IsUnfaulted a x
  free_before free d rose = free d (rose_early a x b d stays rose)

  pub free_after : IsUnfaulted a b → IsUnfaulted x b
  free_after free d rose = free d (rose_later a x b d reads.stays rose)

  pub since_rests : (m.pending ≡ [] → ⊥) → (AllTold x → IsLasting x → IsUnfaulted x b → AreOf (disks_of x) (identities_of (disks_of x) (now_in x)) known → list_all is_target m.pending ≡ true
      → IsReplayed x b st (seated_state m.pending st) m.pending m.number)
      → AllTold a → IsLasting a → IsUnfaulted a b → Rests a b (standing_by (disks_of a) (now_in a) st)
  since_rests some replayed told lasts free =
      let stands = meant told (free_before free) in
      let source = some_at (current_places st) (standing_by (disks_of a) (now_in a) st).logs (λ none. some (stands.targets lasts ∙ none)) in
      rests_by a x b st m.pending m.number reads told lasts
      (replayed (told_later a x reads.stays told) (lasting_later a x reads.stays lasts) (free_after free)
      (are_later a x known reads told lasts (scan_meant a x known scan told (free_before free))) (targets_valid a st m.pending (stands.targets lasts)))
      (stands.targets lasts) source.0 source.1 (stands.number lasts source.0 source.1)

  pub since_so : (m.pending ≡ [] → ⊥) → (AllTold x → IsLasting x → IsUnfaulted x b → AreOf (disks_of x) (identities_of (disks_of x) (now_in x)) known → list_all is_target m.pending ≡ true
      → IsReplayed x b st (seated_state m.pending st) m.pending m.number)
      → AllTold a → IsLasting a → IsUnfaulted a b → RestsSo a b
  since_so some replayed told lasts free = record {
    before = standing_by (disks_of a) (now_in a) st;
    stands = (meant told (free_before free)).stands;
    rests = since_rests some replayed told lasts free;
  }

  pub since_stands : (s : State) (l : LogView) (p : Bool) (d : Option ℕ) → (AllTold x → IsLasting x → IsUnfaulted x b → StandsNow b s l p d)
      → AllTold a → IsLasting a → IsUnfaulted a b → StandsNow b s l p d
  since_stands s l p d now told lasts free = now (told_later a x reads.stays told) (lasting_later a x reads.stays lasts) (free_after free)

  pub since_means : (s : State) (l : LogView) (p : Bool) (d : Option ℕ) → (m.pending ≡ [] → ⊥)
      → (AllTold x → IsLasting x → IsUnfaulted x b → AreOf (disks_of x) (identities_of (disks_of x) (now_in x)) known → list_all is_target m.pending ≡ true
      → IsReplayed x b st (seated_state m.pending st) m.pending m.number)
      → (AllTold x → IsLasting x → IsUnfaulted x b → StandsNow b s l p d)
      → (AllTold a → IsUnfaulted a x → has_other_pool (disks_of a) (standing_by (disks_of a) (now_in a) st) ≡ false)
      → (AllTold a → IsLasting a → IsUnfaulted a b → has_other_pool (disks_of b) (standing_by (disks_of b) (now_in b) s) ≡ false)
      → AllTold a → IsLasting a → IsUnfaulted a b → p ≡ false → d ≡ None
      → MeansTheSame (disks_of a) (now_in a) (now_in b)
  since_means s l p d some replayed now one still_one told lasts free idle whole =
      let stands = meant told (free_before free) in
      replayed_means a b st s l (stays_then reads.stays stays) stands.stands
      (nonempty_whole (current_places st) (standing_by (disks_of a) (now_in a) st).logs (λ none. some (stands.targets lasts ∙ none)))
      (since_rests some replayed told lasts free)
      (subst (λ e. StandsNow b s l false e) whole (subst (λ q. StandsNow b s l q d) idle (since_stands s l p d now told lasts free)))
      (one told (free_before free)) (still_one told lasts free)

-- what was found is what is pending on the disks: nothing, where nothing is
pub not_idle : (a : RackView) (st : State) (t : Slices) (m : LogView) (is_pending : Bool) (damaged : Option ℕ) → StandsAs a st t m is_pending damaged → IsLasting a → IsIdle a → m.pending ≡ []
not_idle a st t m is_pending damaged stands lasts idle = stands.targets lasts ∙ idle (standing_by (disks_of a) (now_in a) st) stands.stands

-- ---- nothing was to be replayed

module _ (a b : RackView) (st : State) (t : Slices) (m : LogView) (is_pending : Bool) (damaged : Option ℕ) (reads : OnlyReads a b)
    (meant : AllTold a → IsUnfaulted a b → StandsAs a st t m is_pending damaged) (none : m.pending ≡ []) where
  no_targets : (told : AllTold a) → IsLasting a → (free : IsUnfaulted a b) → (standing_by (disks_of a) (now_in a) st).targets ≡ []
  no_targets told lasts free = sym ((meant told free).targets lasts) ∙ none

  pub idle_so : AllTold a → IsLasting a → IsUnfaulted a b → RestsSo a b
  idle_so told lasts free = record {
    before = standing_by (disks_of a) (now_in a) st;
    stands = (meant told free).stands;
    rests = rests_idle a b st reads told lasts (no_targets told lasts free);
  }

  pub idle_stands : AllTold a → IsLasting a → IsUnfaulted a b → StandsNow b st m is_pending damaged
  idle_stands told lasts free = stands_now a b st t m is_pending damaged reads told lasts (meant told free)

  pub idle_same : AllTold a → IsLasting a → IsUnfaulted a b → MeansTheSame (disks_of a) (now_in a) (now_in b)
  idle_same told lasts free =
      idle_means a b st m is_pending damaged reads told lasts (meant told free).stands (no_targets told lasts free) (idle_stands told lasts free)
