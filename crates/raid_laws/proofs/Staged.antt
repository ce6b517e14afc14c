-- The superblocks of an array that are staged for a commit that marks losses, and what is noted of it after the commit.
use Rattle.std.proofs.Common.{◌≡◌, ℕ, suc, ◌<◌, Bool, true, false, ◌&&◌, ◌||◌, not, if◌then◌else◌, List, [], ◌∷◌, length, slice_get, Option, Some, None, option_map, unwrap_or, refl, sym, ap, subst, ◌∙◌, inl, inr, arith}
use Rattle.std.proofs.lemmas.Bool.{cases_Bool, both_ways, and_parts}
use Rattle.rack.specs.Seen.{RackView}
use Rattle.rack.specs.Targets.{Target}
use Rattle.array_image.specs.Places.{member_slice, super_sector}
use Rattle.array_image.specs.Held.{IsSynced}
use Rattle.array_image.specs.States.{is_current}
use Rattle.log_laws.specs.View.{LogView, names, next_number}
use Rattle.array_model.specs.declared.Seat.{Seat}
use Rattle.array_model.specs.declared.Seat.TheVariants.{Missing}
use Rattle.array_model.specs.View.{View, has_gone, is_missing_seat, place_at, present, shape_of}
use Rattle.array_model.specs.Stages.{AmongTargets, IsStateOf}
use Rattle.array_model.proofs.Losses.{IsLosing}
use Rattle.raid_laws.specs.Raid.{Raid, IsWritten, gone_in}
use Rattle.raid_laws.specs.Moves.{AreMarked, IsSeated}
use Rattle.raid_laws.specs.Settling.{HasSupers, IsMarking, state_after}
use Rattle.raid_laws.proofs.Adding.{all_apart, current_is, no_data, which}
use Rattle.raid_laws.proofs.Committed.{IsCommitBy, after_gone, commit_losing, gone_current, gone_few, raid_after, seated_marked}
use Rattle.raid_laws.proofs.Elements.{among_first, apart_found, look_lacks}
use Rattle.raid_laws.proofs.Marking.{NotesLost}
use Rattle.raid_laws.proofs.Missing.{length_marked}
use Rattle.raid_laws.proofs.Noted.{gone_not}
use Rattle.raid_laws.proofs.Over.{not_true}
use Rattle.raid_laws.proofs.Restated.{IsStaged}
use Rattle.raid_laws.proofs.Seated.{names_joined, none_listed, place_few}

-- a seat that isn't missing
seat_left : (seats : List Seat) → 0 < present seats → (k : ℕ) × (k < length seats) × (is_missing_seat (unwrap_or (slice_get seats k) Missing) ≡ false)
seat_left [] some = absurd (omega (arith, some))
seat_left (s ∷ seats) some =
    let Goal : Bool → Type 0 = λ m. is_missing_seat s ≡ m → 0 < (if m then present seats else suc (present seats))
    → (k : ℕ) × (k < length (s ∷ seats)) × (is_missing_seat (unwrap_or (slice_get (s ∷ seats) k) Missing) ≡ false) in
    let goal : Goal (is_missing_seat s) = elim (is_missing_seat s) as Goal [
      | true ↦ λ is more. let rest = seat_left seats more in let low = rest.1 in (suc rest.0, omega (arith, low), rest.2)
      | false ↦ λ is more. (0, omega arith, is)
    ] in
    goal refl some

pub seat_marks : (o : Option Seat) (current went : Bool) → option_map is_missing_seat o ≡ Some (not (current && not went)) → (current ≡ true → went ≡ false)
    → option_map (λ seat. not (is_missing_seat seat)) o ≡ Some current
seat_marks None current went is left = absurd (let bad : None ≡ Some (not (current && not went)) = is in cc)
seat_marks (Some seat) false went is left = ap (λ x. option_map not x) is
seat_marks (Some seat) true went is left = ap (λ x. option_map not x) is ∙ ap (λ g. Some (not (not (not g)))) (left refl)

or_last : (x y : Bool) → y ≡ true → (x || y) ≡ true
or_last true y is = refl
or_last false y is = is

module _ (v : Raid) (lost on : List ℕ) (l : LogView) (xs : List Target) (b : RackView) (marking : IsMarking v lost on l xs b) (n : ℕ) (low : n < v.state.made) where
  small : n < 16
  small = let most = marking.set.most in omega (arith, low, most)

  seated : IsSeated v.state n (v.arrays n) b
  seated = marking.set.arrays n low

  has : HasSupers (v.arrays n) xs
  has = marking.staged.each n low

  state_of : IsStateOf (v.arrays n) (state_after v lost)
  state_of =
      let by = seated_marked v.state lost n (v.arrays n) b (λ q is. marking.noted n q low is) has.unmarked seated in
      record {
        set = by.is_of_pool.set;
        profile = by.is_of_pool.profile;
        events = by.is_of_pool.events;
        events_end = by.is_of_pool.events_end;
        row = by.is_of_pool.row;
        roles = by.is_of_pool.roles;
        marks = λ k below.
            let inside : k < (v.arrays n).truth.raid_disks = let count = seated.is_array.seats in omega (arith, below, count) in
            let q = place_at (v.arrays n) k in
            seat_marks (slice_get (v.arrays n).seats k) (is_current (state_after v lost) q) (has_gone (v.arrays n) q) (by.marks k inside)
            (λ current.
            gone_not v q n (place_few (v.arrays n) k seated.is_array inside) low
            (not_true (gone_in v q) (and_parts (is_current v.state q) (not (gone_in v q)) (sym (current_is v lost on l xs b marking q) ∙ current)).1));
      }

  -- where a member is left, and its members are settled
  pub staged_array : 0 < present (v.arrays n).seats → IsWritten (v.arrays n) → IsSynced (shape_of (v.arrays n)) n b.held
      → IsStaged v.state (state_after v lost) (gone_in v) (v.arrays n) l.added b n
  staged_array some written settled =
      let pool = seated.is_of_pool in
      let member = seat_left (v.arrays n).seats some in
      record {
        few = small;
        number = seated.number;
        seats = seated.is_array.seats;
        devices = seated.is_array.devices;
        placed = λ k inside. place_few (v.arrays n) k seated.is_array inside;
        state = state_of;
        marks = record {
          current = current_is v lost on l xs b marking;
          pool = refl;
          extent = refl;
          drives = length_marked lost 0 v.state.drives.items;
        };
        before = has.before;
        added = has.added;
        adds = has.adds;
        are_targets = λ x among.
            let super = marking.staged.only x (has.among x among) in
            let slices = (marking.set.arrays super.array super.low).slices in
            let sectors = slices.sectors super.position super.inside super.there in
            let sector = super.sector in (
              apart_found l.added x (all_apart v lost on l xs b marking)
                  (subst (AmongTargets x) (sym marking.copies.appended) (among_first x xs marking.copies.targets (has.among x among))),
              subst (λ d. x.sector < b.sectors d) (sym super.disk) (omega (arith, sectors, sector)),
            );
        no_other = λ place other.
            look_lacks l.added (member_slice place n) super_sector
            (λ x among disk sector.
            elim (which v lost on l xs b marking x among) [
              | inl super ↦
                  let m = super.array in
                  let number = (marking.set.arrays m super.low).number in
                  let at = super.disk in
                  let less = super.low in
                  let most = marking.set.most in
                  let same : m ≡ n = omega (arith, number, at, less, most, disk, small) in
                  other super.position (subst (λ k. super.position < (v.arrays k).truth.raid_disks) same super.inside)
                  (subst (λ k. place_at (v.arrays k) super.position ≡ place) same (omega (arith, number, at, less, most, disk, small)))
              | inr copy ↦ let at = copy.copy.disk in absurd (omega (arith, at, disk, small))
            ]);
        none = no_data v lost on l xs b marking;
        member = member.0;
        low = (let below = member.1 in let count = seated.is_array.seats in omega (arith, below, count));
        left = member.2;
        rows = pool.rows;
        written = written;
        unsynced = pool.unsynced;
        settled = settled;
        unmarked = has.unmarked.mark;
      }

module _ (v : Raid) (lost on : List ℕ) {by : List ℕ} (gone : List ℕ) (l : LogView) (xs : List Target) (f : ℕ → View) (b c : RackView)
    (commit : IsCommitBy v lost on by gone l xs f b c) (n : ℕ) (low : n < v.state.made) where
  -- whoever went in the commit is listed
  gone_listed : (f n).went ≡ [] → gone ≡ []
  gone_listed none =
      none_listed gone
      (λ p. elim (cases_Bool (names gone p)) [
        | inl is ↦
            absurd (both_ways (has_gone (f n) p) (ap (λ ps. names ps p) none)
            (ap (λ (u : View). has_gone u p) (commit.arrays n low)
            ∙ names_joined (v.arrays n).went gone p (gone_few v lost on gone l xs f b c commit p is) ∙ or_last (has_gone (v.arrays n) p) (names gone p) is))
        | inr not_there ↦ not_there
      ])

  -- what is noted of it
  pub notes_lost : IsWritten (v.arrays n) → NotesLost (f n) (shape_of (v.arrays n)) (v.arrays n).resync false (v.arrays n) gone n
  notes_lost written =
      let losing : IsLosing (v.arrays n) (f n) (names gone) = commit_losing v lost on gone l xs f b c commit n low in
      let number = (commit.marking.set.arrays n low).number in
      record {
        number = losing.number ∙ number;
        shape = losing.shape;
        resync_is = losing.resync;
        marked_is = λ is. absurd (both_ways (v.arrays n).marked (commit.marking.staged.each n low).unmarked.mark (losing.marked is));
        view_number = number;
        truth = losing.truth;
        written = subst IsWritten (sym (commit.arrays n low)) written;
        went = gone_listed;
      }

  -- where whoever went is marked, nobody went in the commit
  pub none_gone : AreMarked (raid_after v lost (next_number l.number) f) → (q : ℕ) → names gone q ≡ false
  none_gone are q =
      elim (cases_Bool (names gone q)) [
        | inl is ↦
            absurd (both_ways (gone_in (raid_after v lost (next_number l.number) f) q) (are q (gone_current v lost on gone l xs f b c commit q is))
            (after_gone v lost on gone l xs f b c commit n q low ∙ or_last (gone_in v q) (names gone q) is))
        | inr none ↦ none
      ]
