-- A drive that the caller loses.
use Rattle.std.specs.Prelude.{Result}
use Rattle.std.specs.List.{list_all}
use Rattle.std.specs.Option.{option_map_or}
use Rattle.std.proofs.Common.{◌≡◌, ℕ, ◌<◌, ◌&&◌, ◌||◌, not, nat_le, Bool, true, false, [], ◌∷◌, Ok, Err, length, if◌then◌else◌, refl, sym, ap, ◌∙◌, inl, inr, lt-ltb, leb-true, ne_eqb, arith}
use Rattle.std.proofs.lemmas.Bool.{both_ways, and_parts, and_from, cases_Bool, cases_eq, cases_lt}
use Rattle.std.proofs.lemmas.Option.{slice_get_past}
use Rattle.rack.proofs.Writing.{only_quiet}
use Rattle.rack.specs.Seen.{RackView}
use Rattle.rack.specs.Shelf.{Shelf}
use Rattle.slice_rack.specs.SliceRack.{below_of}
use Rattle.pool_state.specs.Valid.{has_arrays, has_epoch, has_places, is_drive, is_extent, is_valid}
use Rattle.pool_state.specs.declared.contents.State.{State}
use Rattle.array_image.specs.States.{is_current}
use Rattle.commit_log.proofs.Deciding.{names_first}
use Rattle.array_model.specs.View.{has_gone}
use Rattle.array_core.specs.Seats.{gone, names}
use Rattle.lvm_group.specs.Framed.{IsShown}
use Rattle.raid_laws.specs.Runs.{CrashInvariant}
use Rattle.raid_laws.specs.Truths.{KeepsTruths}
use Rattle.raid_laws.specs.Losses.{has_other}
use Rattle.raid_laws.specs.Moves.{IsHeeded, IsSet, Mends, RaisesBy, noted_at}
use Rattle.raid_laws.specs.Raid.{Raid, gone_in, is_left}
use Rattle.raid_rack.specs.RaidRack.{KeepsRack, SliceRuns, raid_in, raid_seen, slices_in, slices_seen}
use Rattle.raid_rack.specs.declared.arrays.RaidRack.{RaidRack}
use Rattle.raid_laws.proofs.Noted.{IsNoting, current_few, gone_from, gone_some, noted_went}
use Rattle.pool.specs.declared.Pool.{Pool}
use Rattle.pool.specs.declared.calls.LoseFault.{LoseFault}
use Rattle.pool.specs.declared.calls.LoseFault.TheVariants.{LastDrive, NoSuchDrive}
use Rattle.pool.specs.Moment.{MarksBut, moment_of}
use Rattle.pool.specs.View.{View, arrays_of, bay_in, book, slices_shown, view, volume}
use Rattle.pool.specs.Keeping.{most_raised}
use Rattle.pool.specs.Calls.{LosesDrive}
use Rattle.raid_rack.proofs.Raises.{raises_more}
use Rattle.pool.proofs.Booked.{arrays_noted, book_lost}
use Rattle.pool.proofs.Keeping.{marks_same, not_left, passes_of, went}
use Rattle.pool.proofs.Doing.{does_kept, does_none}
use Rattle.pool.proofs.Reached.{reached_keeps, reached_stays, with_arrays}
use Rattle.pool.proofs.Serving.{IsServing, KeepNames, Laws, sound_in}

-- ---- its note in the arrays

-- a current place is in the list
pub listed : (s : State) (p : ℕ) → is_current s p ≡ true → p < length s.drives.items
listed s p current =
    elim (cases_lt p (length s.drives.items)) [
      | inl below ↦ below
      | inr past ↦ absurd (both_ways (is_current s p) (ap (λ o. option_map_or (λ drive. not drive.missing) o false) (slice_get_past s.drives.items p past)) current)
    ]

-- a pool has an array
some_made : (s : State) (own : ℕ) → is_valid s own ≡ true → 0 < s.made
some_made s own valid =
    let one = and_parts (is_extent s.extent) (has_places s own && (has_arrays s && (list_all is_drive s.drives.items && has_epoch s))) valid in
    let two = and_parts (has_places s own) (has_arrays s && (list_all is_drive s.drives.items && has_epoch s)) one.1 in
    let three = and_parts (has_arrays s) (list_all is_drive s.drives.items && has_epoch s) two.1 in
    let made = and_parts (nat_le 1 s.made && nat_le s.made 16) _ three.0 in
    let least = leb-true 1 s.made (and_parts (nat_le 1 s.made) (nat_le s.made 16) made.0).0 in
    omega (arith, least)

module _ (v : Raid) (x : RackView) (place : ℕ) (set : IsSet v x) (heeded : IsHeeded v) (current : is_current v.state place ≡ true) where
  noting : IsNoting (place ∷ []) v (noted_at (place ∷ []) v).arrays
  noting = record {
    arrays = λ n low. ap (λ (t : Bool). if t then gone (place ∷ []) (v.arrays n) else v.arrays n) (lt-ltb n v.state.made low);
    one = place;
    named = names_first place [];
    current = current;
    few = current_few v.state place set.few current;
  }

  -- in an array that place alone went
  noted_is : (n p : ℕ) → n < v.state.made → p < 16 → has_gone ((noted_at (place ∷ []) v).arrays n) p ≡ names (place ∷ []) p
  noted_is n p low few =
      noted_went (place ∷ []) v (noted_at (place ∷ []) v).arrays noting n p low few
      ∙ ap (λ ps. names ps p || names (place ∷ []) p) (heeded n low)

  pub noted_gone : gone_in (noted_at (place ∷ []) v) place ≡ true
  noted_gone =
      let few = current_few v.state place set.few current in
      let some = some_made v.state place (set.valid place (listed v.state place current)) in
      gone_from (noted_at (place ∷ []) v) place 0 few some (noted_is 0 place some few ∙ names_first place [])

  pub noted_left : (p : ℕ) → is_current v.state p ≡ true → (p ≡ place → ⊥) → is_left (noted_at (place ∷ []) v) p ≡ true
  noted_left p was apart =
      let none : gone_in (noted_at (place ∷ []) v) p ≡ false =
      elim (cases_Bool (gone_in (noted_at (place ∷ []) v) p)) [
        | inl is ↦
            let at = gone_some (noted_at (place ∷ []) v) p is in
            let other : names (place ∷ []) p ≡ false = ap (λ b. b || false) (ne_eqb place p (λ same. apart (sym same))) in
            absurd (both_ways (names (place ∷ []) p) other (sym (noted_is at.1.0 p at.1.1 at.0) ∙ at.1.2))
        | inr none ↦ none
      ] in
      and_from (is_current v.state p) (not (gone_in (noted_at (place ∷ []) v) p)) was (ap not none)

-- ---- its loss

-- drives come to be marked lost only by faults, but for it
marks_lost : (x y : View) (place : ℕ) → (volume x).fit → y.slices ≡ x.slices → is_current (book x).state place ≡ true
    → Mends (noted_at (place ∷ []) (book x)) (book y) (slices_shown x) (slices_shown y) → MarksBut (λ p. p ≡ place) (moment_of x) (moment_of y)
marks_lost x y place fit same current mends p was now =
    elim (cases_eq p place) [
      | inl is ↦ inr is
      | inr apart ↦
          inl
          (went x y p same
          (mends.moves.cause p (noted_left (book x) (slices_shown x) place fit.0.running.set fit.0.heeded current p was apart) (not_left (book y) p now)))
    ]

-- what the arrays say of a loss that they served
pub record IsLost {R : Type 0} (seen : R → RackView) (runs : R → R → Type 0) (old new : RaidRack R) (place : ℕ) : Type 0 where
  pub other : has_other (raid_in old).state place ≡ true
  pub mends : Mends (noted_at (place ∷ []) (raid_in old)) (raid_in new) (slices_seen seen old) (slices_seen seen new)
  pub keeps : KeepsRack (raid_seen seen old) (raid_seen seen new)
  pub raises : RaisesBy 17 (raid_in old) (raid_in new)
  pub ran : SliceRuns seen runs (slices_in old) (slices_in new)
  pub truths : KeepsTruths (raid_in old) (raid_in new) (slices_seen seen old) (slices_seen seen new)
  pub moments : CrashInvariant (raid_in old) (raid_in new) (slices_seen seen old) (slices_seen seen new)

never_fault : (e : LoseFault) → ◌≡◌ {A = Result (Unit {0}) LoseFault} (Ok tt) (Err e) → ⊥
never_fault e same = cc

same_fault : (e f : LoseFault) → ◌≡◌ {A = Result (Unit {0}) LoseFault} (Err e) (Err f) → e ≡ f
same_fault e f same = cc

missing_last : NoSuchDrive ≡ LastDrive → ⊥
missing_last same = cc

pub lose_done : {R : Type 0} (seen : R → RackView) (shelf : R → Shelf) (runs : R → R → Type 0) (laws : Laws seen) (names : KeepNames shelf runs) (p : Pool R) (raid : RaidRack R) (place : ℕ)
    → (volume (view seen shelf p)).fit → is_current (book (view seen shelf p)).state place ≡ true → IsLost seen runs (arrays_of p) raid place
    → LosesDrive (view seen shelf p) (view seen shelf (with_arrays p raid)) place {X = Unit {0}} (Ok tt)
lose_done seen shelf runs laws names p raid place fit current lost =
    let x = view seen shelf p in
    let y = view seen shelf (with_arrays p raid) in
    let stays = reached_stays seen shelf p raid fit lost.keeps in
    let arrays = arrays_noted (book x) (book y) (slices_shown x) (place ∷ []) fit.0.running.set lost.mends.moves.arrays in
    let keeps = book_lost (book x) (book y) (slices_shown y) stays.fit.0.running.set stays.fit.0.heeded lost.mends.moves.book.same.made arrays in
    let passes = passes_of x y fit stays refl lost.ran lost.mends.moves.book keeps lost.truths lost.moments lost.mends.moves.unwritten
    (only_quiet (IsShown x.linear) lost.keeps.stays lost.keeps.keeps) (names (bay_in p) (below_of (slices_in raid)) lost.ran.below) in
    record {
      passes = passes;
      raises = raises_more 17 most_raised (book x) (book y) (omega arith) lost.raises;
      works = record { arrays = arrays; plan = lost.mends.moves.plan };
      marks = marks_lost x y place fit lost.ran.tables current lost.mends;
      missing = (λ same. absurd (never_fault NoSuchDrive same), λ none. absurd (both_ways (is_current (book x).state place) none current));
      last = (λ same. absurd (never_fault LastDrive same), λ none. absurd (both_ways (has_other (book x).state place) none.1 lost.other));
      lost = lost.mends.marked place (noted_gone (book x) (slices_shown x) place fit.0.running.set fit.0.heeded current);
      does = does_kept x y passes (sound_in seen shelf laws (with_arrays p raid) stays.fit) (reached_keeps seen shelf p raid fit lost.keeps);
    }

pub lose_missing : (x : View) (place : ℕ) → IsServing x x → is_current (book x).state place ≡ false → LosesDrive x x place {X = Unit {0}} (Err NoSuchDrive)
lose_missing x place serving none = record {
  passes = serving.call.passes;
  raises = serving.call.raises;
  works = serving.works;
  marks = marks_same x (λ p. p ≡ place);
  missing = (λ same. none, λ is. refl);
  last = (λ same. absurd (missing_last (same_fault NoSuchDrive LastDrive same)), λ at. absurd (both_ways (is_current (book x).state place) none at.0));
  lost = tt;
  does = does_none x serving.call.passes serving.call.sound;
}

pub lose_last : (x : View) (place : ℕ) → IsServing x x → is_current (book x).state place ≡ true → has_other (book x).state place ≡ false
    → LosesDrive x x place {X = Unit {0}} (Err LastDrive)
lose_last x place serving current alone = record {
  passes = serving.call.passes;
  raises = serving.call.raises;
  works = serving.works;
  marks = marks_same x (λ p. p ≡ place);
  missing = (
    λ same. absurd (missing_last (sym (same_fault LastDrive NoSuchDrive same))),
    λ none. absurd (both_ways (is_current (book x).state place) none current),
  );
  last = (λ same. (current, alone), λ at. refl);
  lost = tt;
  does = does_none x serving.call.passes serving.call.sound;
}
