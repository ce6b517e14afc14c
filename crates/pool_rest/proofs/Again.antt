-- A replay, and the look at the disks after it.
use Rattle.std.proofs.Common.{◌≡◌, ℕ, ◌<◌, Bool, List, length, slice_get, Option, Some, None, refl, sym, ap, subst, ◌∙◌, inl, inr, true, false, arith}
use Rattle.std.specs.Option.{option_and_then}
use Rattle.std.specs.List.{list_all}
use Rattle.std.proofs.lemmas.Option.{none-some, slice_get_cases}
use Rattle.rack.specs.Seen.{RackView, SameRack}
use Rattle.rack.specs.Joins.{rose_early, rose_later}
use Rattle.rack.specs.Sequences.{OnlyReads, WritesOnly}
use Rattle.rack.specs.Targets.{Target}
use Rattle.rack.proofs.Writing.{only_then, only_quiet}
use Rattle.pool_state.specs.declared.contents.State.{State}
use Rattle.slice_rack.specs.Slices.{Slices, IsOrderly}
use Rattle.slice_rack.specs.Sliced.{slices_of}
use Rattle.array_image.specs.Record.{gate_of, is_target}
use Rattle.gpt_table.specs.declared.Table.{Table}
use Rattle.pool_image.specs.Disks.{Disks, Identity, disks_of, identities_of, id_by, newest}
use Rattle.pool_image.specs.Replay.{logs_of, standing_by}
use Rattle.pool_image.specs.Meaning.{has_other_pool}
use Rattle.pool_image.specs.Alike.{drive_gate, Agree}
use Rattle.pool_image.proofs.Identities.{agree_identities, newest_same, other_same}
use Rattle.pool_scan.specs.declared.Known.{Known}
use Rattle.pool_scan.specs.Scanning.{AllTold, IsReadOr, IsScan, IsUnfaulted, as_read, copied_at, now_in, table_in}
use Rattle.pool_scan.specs.Choosing.{AreOf, has_pool_other_than, seat_by}
use Rattle.pool_scan.proofs.Chosen.{scan_says}
use Rattle.pool_scan.proofs.Meant.{other_meant}
use Rattle.pool_scan.proofs.Seated.{seat_by_stands}
use Rattle.log_laws.specs.View.{LogView}
use Rattle.pool_rest.specs.declared.standing.FindFault.{FindFault}
use Rattle.pool_rest.specs.declared.standing.FindFault.TheVariants.{NoPool, TwoPools, Memory}
use Rattle.pool_rest.specs.Standing.{IsLasting, IsLaid, IsNewest, IsOnePool, HasLooked, FindsAll, StandsAs, IsCause, since}
use Rattle.pool_rest.specs.Resting.{IsOfDrive, IsReplayed, AreShut, StandsNow}
use Rattle.pool_rest.proofs.Agreeing.{disks_same, reads_agree, told_later, lasting_later, stands_now, replayed_later}
use Rattle.pool_rest.proofs.Laid.{sectors_seen}
use Rattle.pool_rest.proofs.Stood.{found_still}

module _ {R : Type 0} (seen : R → RackView) (r0 ri rd rb : R) (same : ri ≡ r0) (known : List Known) (before s s' : State) (seated : s ≡ s')
    (only : WritesOnly (seen ri) (seen rd) (IsOfDrive (seen ri) known s)) (reads : OnlyReads (seen rd) (seen rb)) where
  -- from where the replay began
  pub replay_only : WritesOnly (seen r0) (seen rd) (IsOfDrive (seen r0) known s')
  replay_only =
      subst (λ r. WritesOnly (seen r) (seen rd) (IsOfDrive (seen r) known s')) same
      (subst (λ z. WritesOnly (seen ri) (seen rd) (IsOfDrive (seen ri) known z)) seated only)

  pub again_only : WritesOnly (seen r0) (seen rb) (IsOfDrive (seen r0) known s')
  again_only = only_then (IsOfDrive (seen r0) known s') replay_only (only_quiet (IsOfDrive (seen r0) known s') reads.stays reads.keeps)

  free_first : IsUnfaulted (seen r0) (seen rb) → IsUnfaulted (seen r0) (seen rd)
  free_first free d rose = free d (rose_early (seen r0) (seen rd) (seen rb) d reads.stays rose)

  free_second : IsUnfaulted (seen r0) (seen rb) → IsUnfaulted (seen rd) (seen rb)
  free_second free d rose = free d (rose_later (seen r0) (seen rd) (seen rb) d replay_only.stays rose)

  pub again_replayed : (xs : List Target) (number : ℕ)
      → (AllTold (seen ri) → IsLasting (seen ri) → IsUnfaulted (seen ri) (seen rd) → AreOf (disks_of (seen ri)) (identities_of (disks_of (seen ri)) (now_in (seen ri))) known
      → list_all is_target xs ≡ true → IsReplayed (seen ri) (seen rd) before s xs number)
      → AllTold (seen r0) → IsLasting (seen r0) → IsUnfaulted (seen r0) (seen rb) → AreOf (disks_of (seen r0)) (identities_of (disks_of (seen r0)) (now_in (seen r0))) known
      → list_all is_target xs ≡ true → IsReplayed (seen r0) (seen rb) before s' xs number
  again_replayed xs number replayed told lasts free are valid =
      replayed_later (seen r0) (seen rd) (seen rb) before s' xs number replay_only.stays reads told lasts
      (subst (λ z. IsReplayed (seen r0) (seen rd) before z xs number) seated
      (subst (λ r. AllTold (seen r) → IsLasting (seen r) → IsUnfaulted (seen r) (seen rd) → AreOf (disks_of (seen r)) (identities_of (disks_of (seen r)) (now_in (seen r))) known
      → list_all is_target xs ≡ true → IsReplayed (seen r) (seen rd) before s xs number) same replayed told lasts (free_first free) are valid))

  pub again_stands : (t : Slices) (state : State) (m : LogView) (is_pending : Bool) (damaged : Option ℕ)
      → (AllTold (seen rd) → IsUnfaulted (seen rd) (seen rb) → StandsAs (seen rd) state t m is_pending damaged)
      → AllTold (seen r0) → IsLasting (seen r0) → IsUnfaulted (seen r0) (seen rb) → StandsNow (seen rb) state m is_pending damaged
  again_stands t state m is_pending damaged meant told lasts free =
      let there : AllTold (seen rd) = told_later (seen r0) (seen rd) replay_only.stays told in
      stands_now (seen rd) (seen rb) state t m is_pending damaged reads there (lasting_later (seen r0) (seen rd) replay_only.stays lasts) (meant there (free_second free))

  pub again_finds : (t : Slices) (on gone : List ℕ) (m : LogView) (is_pending : Bool) (damaged : Option ℕ)
      → IsOrderly t → (slices_of t (seen rb)).fit → HasLooked (seen rd) (seen rb) t on gone m is_pending damaged
      → AllTold (seen r0) → IsLasting (seen r0) → IsUnfaulted (seen r0) (seen rb) → FindsAll (seen rb) t on m is_pending damaged
  again_finds t on gone m is_pending damaged orderly fit looked told lasts free =
      found_still (seen rd) (seen rb) t on gone m is_pending damaged orderly fit reads looked
      (told_later (seen r0) (seen rd) replay_only.stays told) (lasting_later (seen r0) (seen rd) replay_only.stays lasts) (free_second free)

  -- gates that were closed stay so
  pub again_shut : (number : ℕ) → length known ≡ (seen r0).disks
      → (AllTold (seen ri) → IsLasting (seen ri) → IsUnfaulted (seen ri) (seen rd) → AreShut (seen ri) (seen rd) known before s number)
      → AllTold (seen r0) → IsLasting (seen r0) → IsUnfaulted (seen r0) (seen rb) → AreShut (seen r0) (seen rb) known before s' number
  again_shut number count shut told lasts free p d few was is room =
      let listed : d < length known = (seat_by_stands before known p d was).0 in
      let there : d < (seen r0).disks = omega (arith, listed, count) in
      ap gate_of
      (reads_agree (seen rd) (seen rb) reads (told_later (seen r0) (seen rd) replay_only.stays told) (lasting_later (seen r0) (seen rd) replay_only.stays lasts) d drive_gate
      (subst (λ n. d < n) (sym replay_only.stays.disks) there) (subst (λ n. drive_gate < n) (sym (replay_only.stays.sectors d)) (omega (arith, room))))
      ∙ shut_first told lasts (free_first free) p d few was is room
    where
      shut_first : AllTold (seen r0) → IsLasting (seen r0) → IsUnfaulted (seen r0) (seen rd) → AreShut (seen r0) (seen rd) known before s' number
      shut_first =
          subst (λ z. AllTold (seen r0) → IsLasting (seen r0) → IsUnfaulted (seen r0) (seen rd) → AreShut (seen r0) (seen rd) known before z number) seated
          (subst (λ r. AllTold (seen r) → IsLasting (seen r) → IsUnfaulted (seen r) (seen rd) → AreShut (seen r) (seen rd) known before s number) same shut)

pub laid_later : (x y : RackView) (known : List Known) (s : State) (t : Slices) (on : List ℕ) → SameRack x y → IsLaid x known s t on → IsLaid y known s t on
laid_later x y known s t on stays laid = record {
  seats = laid.seats;
  shows = λ c k u few. laid.shows c k u few ∙ ap (λ (disks : Disks). logs_of disks (seat_by s known) c k u) (sym (disks_same x y stays));
  none = laid.none;
  beyond = laid.beyond;
  sectors = λ k few. laid.sectors k few ∙ sectors_seen x y known s k (λ d. sym (stays.sectors d));
  firsts = laid.firsts;
  places = laid.places;
  whole = laid.whole;
}

-- ---- what was read of the disks is what they hold still

module _ (a x b : RackView) (known : List Known) (stays : SameRack a x) (reads : OnlyReads x b) (told : AllTold x) (lasts : IsLasting x) where
  agree_later : Agree (disks_of x) (now_in b) (now_in x)
  agree_later = reads_agree x b reads told lasts

  sectors_then : (d : ℕ) → x.sectors d ≡ b.sectors d
  sectors_then d = sym (reads.stays.sectors d)

  identity_then : (d : ℕ) → d < x.disks → identities_of (disks_of x) (now_in x) d ≡ identities_of (disks_of b) (now_in b) d
  identity_then d inside =
      sym (agree_identities (disks_of x) (now_in b) (now_in x) agree_later d inside)
      ∙ ap (λ (disks : Disks). identities_of disks (now_in b) d) (sym (disks_same x b reads.stays))

  -- each part was read, or its disk refused a call since
  read_or : {X : Type 0} {shown said read : Option X} (d : ℕ) → shown ≡ said → IsReadOr x b d shown read → IsReadOr (since a b) b d said read
  read_or d same (inl is) = inl (is ∙ same)
  read_or d same (inr refused) = inr (refused.0, rose_later a x b d stays refused.1)

  pub scan_since : IsScan x b known → IsScan (since a b) b known
  scan_since scan = record {
    count = scan.count ∙ sym reads.stays.disks;
    each = λ d k at.
        let is = scan.each d k at in
        let inside : d < x.disks = listed_below known x.disks scan.count d k at in
        let copied = ap (λ (id : Identity). id.copied) (identity_then d inside) in
        let table = ap (λ (id : Identity). id.table) (identity_then d inside) in
        record {
          sees = λ now.
              let sees = is.sees (told d inside) in record {
                copied = read_or d copied sees.copied;
                read = λ there. sees.read there ∙ copied;
                named = record {
                  table = read_table d table k sees.named.table;
                  read = λ there. ap (λ t. table_in t k) (sym table) ∙ sees.named.read there ∙ table;
                  id = sees.named.id ∙ ap (λ t. id_by (table_in t k) k.copied) table;
                };
              };
          gone = λ gone. rose_later a x b d stays (is.gone gone);
          valid = is.valid;
        };
  }
    where
      listed_below : (known : List Known) (n : ℕ) → length known ≡ n → (d : ℕ) (k : Known) → slice_get known d ≡ Some k → d < n
      listed_below known n count d k at =
          elim ((slice_get_cases known d).1) [
            | inl found ↦ (let low = found.1 in omega (arith, low, count))
            | inr past ↦ absurd (none-some k (sym past.1 ∙ at))
          ]

      read_table : (d : ℕ) {t u : Option Table} → t ≡ u → (k : Known) → IsReadOr x b d t (table_in t k) → IsReadOr (since a b) b d u (table_in u k)
      read_table d same k is = subst (λ u. IsReadOr (since a b) b d u (table_in u k)) same (read_or d refl is)

  as_read_then : (d : ℕ) → d < x.disks → as_read x known d ≡ as_read (since a b) known d
  as_read_then d inside =
      ap (λ (id : Identity). record { copied = copied_at known d; table = option_and_then (table_in id.table) (slice_get known d) }) (identity_then d inside)

  newest_then : newest (disks_of x) (as_read x known) ≡ newest (disks_of b) (as_read (since a b) known)
  newest_then =
      newest_same (disks_of x) (as_read x known) (as_read (since a b) known) as_read_then
      ∙ ap (λ (disks : Disks). newest disks (as_read (since a b) known)) (sym (disks_same x b reads.stays))

  other_then : (pool : List ℕ) → has_pool_other_than pool (disks_of x) (as_read x known) ≡ has_pool_other_than pool (disks_of b) (as_read (since a b) known)
  other_then pool =
      other_same (disks_of x) (as_read x known) (as_read (since a b) known) as_read_then pool
      ∙ ap (λ (disks : Disks). has_pool_other_than pool disks (as_read (since a b) known)) (sym (disks_same x b reads.stays))

  pub newest_since : (s : State) → IsNewest x b known s → IsNewest (since a b) b known s
  newest_since s is = record { scan = scan_since is.scan; newest = λ now. sym newest_then ∙ is.newest told }

  none_since : IsScan x b known → newest (disks_of x) (as_read x known) ≡ None → IsCause (since a b) b NoPool
  none_since scan none = (known, scan_since scan, λ now. sym newest_then ∙ none)

  two_since : IsScan x b known → (s : State) → newest (disks_of x) (as_read x known) ≡ Some s → has_pool_other_than s.pool.0 (disks_of x) (as_read x known) ≡ true
      → IsCause (since a b) b TwoPools
  two_since scan s is other = (known, scan_since scan, λ now. (s, sym newest_then ∙ is, sym (other_then s.pool.0) ∙ other))

pub cause_since : (a x b : RackView) (why : FindFault) → SameRack a x → OnlyReads x b → AllTold x → IsLasting x → IsCause x b why → IsCause (since a b) b why
cause_since a x b NoPool stays reads told lasts cause = none_since a x b cause.0 stays reads told lasts cause.1 (cause.2 told)
cause_since a x b TwoPools stays reads told lasts cause =
    let two = cause.2 told in
    two_since a x b cause.0 stays reads told lasts cause.1 two.0 two.1 two.2
cause_since a x b Memory stays reads told lasts cause = tt

-- the faults of an earlier time are no more
scan_from : (a x b : RackView) (known : List Known) → SameRack a x → IsScan (since x b) b known → IsScan (since a b) b known
scan_from a x b known stays scan = record {
  count = scan.count;
  each = λ d k at.
      let is = scan.each d k at in record {
        sees = λ told.
            let sees = is.sees told in record {
              copied = earlier d sees.copied;
              read = sees.read;
              named = record { table = earlier d sees.named.table; read = sees.named.read; id = sees.named.id };
            };
        gone = λ gone. rose_later a x b d stays (is.gone gone);
        valid = is.valid;
      };
}
  where
    earlier : {X : Type 0} {shown read : Option X} (d : ℕ) → IsReadOr (since x b) b d shown read → IsReadOr (since a b) b d shown read
    earlier d (inl same) = inl same
    earlier d (inr refused) = inr (refused.0, rose_later a x b d stays refused.1)

pub newest_from : (a x b : RackView) (known : List Known) (s : State) → SameRack a x → IsNewest (since x b) b known s → IsNewest (since a b) b known s
newest_from a x b known s stays is = record { scan = scan_from a x b known stays is.scan; newest = is.newest }

pub cause_from : (a x b : RackView) (why : FindFault) → SameRack a x → IsCause (since x b) b why → IsCause (since a b) b why
cause_from a x b NoPool stays cause = (cause.0, scan_from a x b cause.0 stays cause.1, cause.2)
cause_from a x b TwoPools stays cause = (cause.0, scan_from a x b cause.0 stays cause.1, cause.2)
cause_from a x b Memory stays cause = tt

-- nothing was written since
pub newest_still : (a b : RackView) (known : List Known) (s : State) → a.fit → OnlyReads a b → AllTold a → IsLasting a → IsNewest a b known s → IsNewest (since a b) b known s
newest_still a b known s fit reads told lasts is = newest_since a a b known same reads told lasts s is
  where
    same : SameRack a a
    same = record {
      fit = fit;
      disks = refl;
      sectors = λ d. refl;
      faults = λ d. omega arith;
      spent = λ d t none. none;
      lasting = λ is. is;
      lasts = λ is d t none. none;
      steady = λ is. is;
      told = λ d is. is;
      traced = λ is. is;
    }

-- where no disk refused a call, no disk has another pool's state
pub single_now : (a b : RackView) (known : List Known) (s : State) → IsNewest (since a b) b known s → AllTold b → IsUnfaulted a b → IsOnePool known s
    → has_other_pool (disks_of b) (standing_by (disks_of b) (now_in b) s) ≡ false
single_now a b known s is told free one =
    sym (other_meant (since a b) b s.pool.0 known is.scan told free)
    ∙ one (disks_of b) (as_read (since a b) known) (scan_says (since a b) b known is.scan told)
