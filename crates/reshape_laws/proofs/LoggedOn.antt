-- array_sync's Logged, by the smaller premises `MayLog`: with `next` as the array it serves a member that joins.
use Rattle.std.proofs.Common.{◌≡◌, ◌≢◌, ◌⊎◌, ℕ, ◌+◌, ◌<◌, Bool, true, false, ◌==◌, ◌&&◌, ◌||◌, not, List, [], ◌∷◌, slice_get, Option, Some, None, option_map, unwrap_or, refl, sym, ap, subst, ◌∙◌, inl, inr, eqb-true, lt-ltb, arith}
use Rattle.std.proofs.lemmas.Bool.{both_ways, and_from, ne_eqb}
use Rattle.std.specs.List.{list_all, list_any}
use Rattle.rack.specs.Seen.{Image, RackView, IsLive, SameRack}
use Rattle.rack.specs.Targets.{Target, look}
use Rattle.rack.specs.Sequences.{IsPayload, OnlyReads}
use Rattle.pool_state.specs.declared.contents.State.{State}
use Rattle.array_image.specs.Places.{slice_of, place_of, log_slice, super_sector, data_sector}
use Rattle.array_image.specs.Record.{is_target}
use Rattle.array_image.specs.States.{is_current}
use Rattle.array_image.specs.Arrays.{replayed}
use Rattle.array_image.specs.Left.{PicksLogs}
use Rattle.array_image.proofs.Replays.{replayed_as_is}
use Rattle.log_laws.specs.View.{LogView, names, next_number}
use Rattle.log_laws.specs.Standing.{IsReady, SomeoneDecides}
use Rattle.log_laws.specs.Commits.{CommitCall}
use Rattle.log_laws.specs.Kept.{LogInvariant, CarriesState, gone_with}
use Rattle.log_laws.specs.Phases.{IsHad}
use Rattle.log_laws.proofs.Kept.{brings_nothing, kept_ready, kept_decides, kept_idle}
use Rattle.log_laws.proofs.KeptAfter.{kept_after, kept_keeps}
use Rattle.array_model.specs.declared.Seat.{Seat}
use Rattle.array_model.specs.declared.Seat.TheVariants.{Whole, Missing, Rebuilding}
use Rattle.array_model.specs.View.{View, IsArray, has_gone, is_missing_seat, place_at}
use Rattle.array_model.specs.Members.{HasSlices, slice_on}
use Rattle.array_model.proofs.Keeping.{live_on, live_after}
use Rattle.array_model.proofs.Looking.{look_payload}
use Rattle.array_model.proofs.Parts.{is_at_own}
use Rattle.array_core.specs.Pool.{MayLog}
use Rattle.array_core.proofs.LogFrames.{look_nothing}
use Rattle.sync_laws.proofs.Owed.{none_or}

abbrev pub nobody : ℕ → Bool
nobody place = false

-- a target is a sector of a member that isn't missing: its superblock, or one of its data
pub record IsOnMember (v : View) (d s : ℕ) (u : List ℕ) : Type 0 where
  pub position : ℕ
  pub low : position < v.truth.raid_disks
  pub there : slice_get v.seats position ≢ Some Missing
  pub disk : d ≡ slice_on v position
  pub sector : (s ≡ super_sector) ⊎ ((t : ℕ) × (s ≡ data_sector + t) × (t < v.truth.size))

abbrev pub AreOnMembers : View → List Target → Type 0
AreOnMembers v xs = (d s : ℕ) (u : List ℕ) → IsPayload xs d s u → IsOnMember v d s u

-- ---- a commit can have them

pub all_valid : (v : View) (xs : List Target) → IsArray v → AreOnMembers v xs → list_all is_target xs ≡ true
all_valid v [] is_array on = refl
all_valid v (x ∷ xs) is_array on =
    let at = on x.disk x.sector x.bytes (inl (is_at_own x, refl)) in
    let disk = at.disk in
    let few = is_array.few in
    let there = is_array.placed at.position at.low in
    let place : there.0 ≡ place_at v at.position = ap (λ o. unwrap_or o 16) (sym there.1) in
    let low = there.2 in
    and_from _ _
    (and_from _ _ (lt-ltb x.disk 272 (omega (arith, disk, few, place, low)))
    (ap (λ (b : Bool). not b || (x.sector == 0)) (ne_eqb (slice_of x.disk) 0 (λ none. omega (arith, disk, few, none)))))
    (all_valid v xs is_array (λ d s u is. on d s u (inr is)))

inside_slice : (v : View) (a : RackView) (d s : ℕ) (u : List ℕ) → HasSlices v a → IsOnMember v d s u → IsHad a d s
inside_slice v a d s u slices at =
    let disks = slices.disks at.position at.low at.there in
    let sectors = slices.sectors at.position at.low at.there in (
      subst (λ e. e < a.disks) (sym at.disk) disks,
      subst (λ e. s < a.sectors e) (sym at.disk)
          (elim at.sector [
            | inl is ↦ omega (arith, is, sectors)
            | inr own ↦ (let is = own.1 in let low = own.2 in omega (arith, is, low, sectors))
          ]),
    )

pub all_had : (v : View) (a b : RackView) (xs : List Target) → HasSlices v a → SameRack a b → AreOnMembers v xs → (d s : ℕ) (u : List ℕ) → look xs d s ≡ Some u → IsHad b d s
all_had v a b xs slices stays on d s u is =
    let had = inside_slice v a d s u slices (on d s u (look_payload xs d s u is)) in
    (subst (λ k. d < k) (sym stays.disks) had.0, subst (λ k. s < k) (sym (stays.sectors d)) had.1)

-- ---- the log

any_place : (xs : List Target) (p : ℕ) → list_any (λ x. place_of x.disk == p) xs ≡ true → (d s : ℕ) × (u : List ℕ) × IsPayload xs d s u × (place_of d ≡ p)
any_place [] p is = absurd (both_ways false refl is)
any_place (x ∷ xs) p is = by (place_of x.disk == p) (list_any (λ x. place_of x.disk == p) xs) refl is (λ later. any_place xs p later)
  where
    by : (b rest : Bool) → (place_of x.disk == p) ≡ b → (b || rest) ≡ true
        → (rest ≡ true → (d s : ℕ) × (u : List ℕ) × IsPayload xs d s u × (place_of d ≡ p))
        → (d s : ℕ) × (u : List ℕ) × IsPayload (x ∷ xs) d s u × (place_of d ≡ p)
    by true rest at now later = (x.disk, x.sector, x.bytes, inl (is_at_own x, refl), eqb-true (place_of x.disk) p at)
    by false rest at now later = let one = later now in (one.0, one.1, one.2, inr one.3, one.4)

module _ (s : State) (v w : View) (a b c : RackView) (l : LogView) (on lost : List ℕ)
    (is_array : IsArray v) (lasting : a.lasting) (reads : OnlyReads a b) (members : AreOnMembers v l.added)
    (live : (d i : ℕ) (u : List ℕ) → IsPayload l.added d i u → IsLive a a d i)
    (commit : CommitCall l on lost b c) (may : MayLog s v w l.number on a) (left : (place : ℕ) → has_gone w place ≡ false → names lost place ≡ false) where
  kept_b : LogInvariant s l.number nobody b
  kept_b = kept_keeps s l.number nobody a b lasting reads.stays reads.keeps may.log

  -- a member that isn't missing is on a current place
  current_on : (j : ℕ) → j < v.truth.raid_disks → slice_get v.seats j ≢ Some Missing → is_current s (place_at v j) ≡ true
  current_on j low there =
      by (slice_get v.seats j) (may.state.marks j (let seats = is_array.seats in omega (arith, low, seats))) there
    where
      by : (o : Option Seat) → option_map (λ seat. not (is_missing_seat seat)) o ≡ Some (is_current s (place_at v j)) → o ≢ Some Missing → is_current s (place_at v j) ≡ true
      by None is other = cc
      by (Some Whole) is other = sym (ap (λ o. unwrap_or o true) is)
      by (Some (Rebuilding to)) is other = sym (ap (λ o. unwrap_or o true) is)
      by (Some Missing) is other = absurd (other refl)

  inside_on : (p : ℕ) → list_any (λ x. place_of x.disk == p) l.added ≡ true → names on p ≡ true
  inside_on p any =
      let one = any_place l.added p any in
      let at = members one.0 one.1 one.2 one.3 in
      let few = is_array.few in
      let place : place_at v at.position ≡ p = (let disk = at.disk in let is = one.4 in omega (arith, disk, is, few)) in
      may.places p ∙ ap (λ (k : Bool). k && true) (ap (is_current s) (sym place) ∙ current_on at.position at.low at.there)

  no_state : (p : ℕ) → look l.added (log_slice p) 0 ≡ None
  no_state p =
      none_or (look l.added (log_slice p) 0)
      (λ u is.
      let at = members (log_slice p) 0 u (look_payload l.added (log_slice p) 0 u is) in
      let disk = at.disk in
      let few = is_array.few in
      omega (arith, disk, few))

  brings : CarriesState s s l.added on
  brings = brings_nothing s nobody l.added on may.places inside_on no_state

  pub log_ready : IsReady l on b
  log_ready =
      kept_ready s s nobody l on b may.someone.0 kept_b brings may.room (reads.stays.lasting lasting)
      (λ d i u is. live_after reads.stays (live_on lasting reads.stays (live d i u (look_payload l.added d i u is))))
      may.someone.1 refl

  pub log_decides : SomeoneDecides l.added on lost b
  log_decides =
      let p = may.someone.0 in
      kept_decides s s l.number nobody l.added on lost b p kept_b brings may.places
      (and_from (names on p) (not (names lost p)) (may.places p ∙ ap (λ (k : Bool). k && true) may.someone.1) (ap not (left p may.someone.2)))
      may.someone.1

  pub log_kept : LogInvariant s (next_number l.number) (gone_with nobody lost) c
  log_kept = kept_after s s nobody l on lost b c commit kept_b brings may.places log_ready log_decides

  pub log_quiet : (i : Image) → PicksLogs b i → (d t : ℕ) → replayed b.sectors i d t ≡ i d t
  log_quiet i picks d t =
      replayed_as_is b.sectors i d t
      (ap (λ (xs : List Target). look xs d t) (kept_idle s l.number nobody b i kept_b picks (λ p current. refl)) ∙ look_nothing d t)
