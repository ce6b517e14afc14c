-- A sector that is written by one commit: what is left of the array and of the log, whoever went in it.
use Rattle.std.proofs.Common.{◌≡◌, ◌≢◌, ℕ, zero, suc, ◌+◌, ◌<◌, ◌≤◌, Bool, true, false, ◌||◌, nat_lt, if◌then◌else◌, List, [], ◌∷◌, filter, length, slice_get, Some, refl, sym, ap, subst, ◌∙◌, inl, inr, eq-eqb, lt-ltb, ltb-true, arith}
use Rattle.std.proofs.lemmas.Bool.{both_ways, and_from}
use Rattle.std.specs.Option.{option_map_or}
use Rattle.std.specs.List.{list_all, range_with_len}
use Rattle.rack.specs.Values.{Values}
use Rattle.rack.specs.Seen.{RackView, IsPick, SameRack}
use Rattle.rack.specs.Joins.{leaves_weaker, leaves_then, stays_then}
use Rattle.rack.specs.Sequences.{OnlyReads}
use Rattle.rack.specs.Targets.{Target, look}
use Rattle.pool_state.specs.declared.contents.State.{State}
use Rattle.array_image.specs.Places.{data_sector}
use Rattle.log_laws.specs.View.{LogView, names, in_order, next_number}
use Rattle.log_laws.specs.Commits.{CommitCall}
use Rattle.log_laws.specs.Kept.{LogInvariant, gone_with}
use Rattle.log_laws.specs.Phases.{IsHad}
use Rattle.log_laws.proofs.KeptAfter.{kept_keeps, kept_more}
use Rattle.array_model.specs.declared.Seat.TheVariants.{Missing}
use Rattle.array_model.specs.View.{View, IsArray, LosesPlaces, has_gone, member_on, seat_reach, sectors_of, shape_of, spent_in}
use Rattle.array_model.specs.Says.{ImageShowsArray, ArrayInvariant}
use Rattle.array_model.specs.ArrayCalls.{IncludesSpent, appended_at}
use Rattle.array_model.specs.Members.{HasSlices, IsSameButSeats, Notes, slice_on}
use Rattle.array_model.proofs.Keeping.{keeping_calls}
use Rattle.array_model.proofs.Looking.{look_payload}
use Rattle.array_model.proofs.Moves.{CallRefines, moves_by, moves_of}
use Rattle.array_model.proofs.Noting.{holds_lost, losing_of}
use Rattle.array_model.proofs.RowWrites.{gone_none, holds_values, is_spent, same_values, says_values}
use Rattle.array_model.proofs.Views.{loses_then, same_view_then}
use Rattle.array_core.specs.Logging.{HasAll, StagedRow, Stages, is_due}
use Rattle.array_core.specs.Pool.{Goes, MayLog}
use Rattle.array_core.specs.TruthLeft.{LeavesSupers}
use Rattle.array_core.specs.Writing.{Base}
use Rattle.array_core.proofs.RowLogged.{log_decides, log_kept, log_own, log_quiet, log_ready, logged_row, nobody}
use Rattle.array_core.proofs.RowOwed.{RowList, row_list}
use Rattle.array_core.proofs.SupersLeft.{supers_commit, supers_reads, supers_then}

-- ---- lists of places

all_low : (f : ℕ → Bool) (a k : ℕ) → a + k ≤ 16 → list_all (λ p. nat_lt p 16) (filter f (range_with_len a k)) ≡ true
all_low f a zero low = refl
all_low f a (suc k) low =
    let rest = all_low f (a + 1) k (omega (arith, low)) in
    let Goal : Bool → Type 0 = λ b. list_all (λ p. nat_lt p 16) (if b then a ∷ filter f (range_with_len (a + 1) k) else filter f (range_with_len (a + 1) k)) ≡ true in
    let goal : Goal (f a) = elim (f a) as Goal [
      | true ↦ and_from (nat_lt a 16) (list_all (λ p. nat_lt p 16) (filter f (range_with_len (a + 1) k))) (lt-ltb a 16 (omega (arith, low))) rest
      | false ↦ rest
    ] in
    goal

-- places in order are below 16
pub few_in_order : (places : List ℕ) → places ≡ in_order places → list_all (λ p. nat_lt p 16) places ≡ true
few_in_order places ordered = ap (list_all (λ p. nat_lt p 16)) ordered ∙ all_low (names places) 0 16 (omega arith)

nobody_named : (places : List ℕ) → ((p : ℕ) → names places p ≡ false) → places ≡ []
nobody_named [] none = refl
nobody_named (p ∷ places) none = absurd (both_ways (names (p ∷ places) p) (none p) (ap (λ (b : Bool). b || names places p) (eq-eqb p p refl)))

first_none : (p q : Bool) → (p || q) ≡ false → p ≡ false
first_none true q is = absurd (both_ways true is refl)
first_none false q is = refl

-- ---- what was added

pub staged_row : (all : Bool) (v w : View) (a b : RackView) (x : ℕ) (from : List ℕ) (r : Bool) (added : List Target) → Stages all v w a b x from r added → r ≡ true
    → StagedRow all v w a x from added
staged_row all v w a b x from r added stages is = elim stages.either [ inl refused ↦ absurd (both_ways r refused.0 is) | inr row ↦ row.1 ]

pub staged_spent : (all : Bool) (v w : View) (a b : RackView) (x : ℕ) (from : List ℕ) (r : Bool) (added : List Target) → Stages all v w a b x from r added → r ≡ false
    → (spent_in w x ≡ true) × (added ≡ [])
staged_spent all v w a b x from r added stages is = elim stages.either [ inl refused ↦ (refused.1, refused.2) | inr row ↦ absurd (both_ways r is row.0) ]

pub staged_list : (all : Bool) (u w : View) (a b : RackView) (x : ℕ) (from : List ℕ) (r : Bool) (added : List Target) → IsArray u → x < sectors_of u → length from ≡ 512
    → (r ≡ true → spent_in u x ≡ false) → Stages all u w a b x from r added → r ≡ true → RowList all u added
staged_list all u w a b x from r added is_array low wide unspent stages is =
    row_list all u w a x from added is_array low wide (unspent is) (staged_row all u w a b x from r added stages is)

-- ---- sectors that the rack has

slot_had : (all : Bool) (u : View) (a : RackView) (n t : ℕ) → n < u.truth.raid_disks → is_due all u n t ≡ true → HasSlices u a → (all ≡ true → HasAll u a)
    → (slice_on u n < a.disks) × (data_sector + u.truth.size ≤ a.sectors (slice_on u n))
slot_had true u a n t low due slices whole = whole refl n low
slot_had false u a n t low due slices whole = (slices.disks n low there, slices.sectors n low there)
  where
    there : slice_get u.seats n ≢ Some Missing
    there gone =
        let none : (member_on u n).reach ≡ 0 = ap (λ o. option_map_or (seat_reach u.truth.size) o 0) gone in
        let counts = ltb-true t (member_on u n).reach due in
        absurd (omega (arith, counts, none))

pub row_had : (all : Bool) (u : View) (a b : RackView) (xs : List Target) → HasSlices u a → (all ≡ true → HasAll u a) → SameRack a b → RowList all u xs
    → (d s : ℕ) (v : List ℕ) → look xs d s ≡ Some v → IsHad b d s
row_had all u a b xs slices whole stays list d s v is =
    let at = list.on d s v (look_payload xs d s v is) in
    let one = slot_had all u a at.position list.sector at.low at.own.0 slices whole in
    let inside : s < a.sectors (slice_on u at.position) = (let sector = at.sector in let low = list.low in let end = one.1 in omega (arith, sector, low, end)) in (
      subst (λ k. d < k) (sym stays.disks) (subst (λ e. e < a.disks) (sym at.disk) one.0),
      subst (λ k. s < k) (sym (stays.sectors d)) (subst (λ e. s < a.sectors e) (sym at.disk) inside),
    )

-- ---- the frame

pub reads_goes : (a b : RackView) → OnlyReads a b → Goes a b
reads_goes a b reads = record { stays = reads.stays; leaves = λ traced. leaves_weaker (IsPick a b a.held) (λ c. Unit {0}) (λ c pick. tt) (reads.keeps.stops traced) }

pub goes_then : (a b c : RackView) → Goes a b → Goes b c → Goes a c
goes_then a b c one two = record {
  stays = stays_then one.stays two.stays;
  leaves = λ traced. leaves_then (λ i. Unit {0}) (one.leaves traced) (two.leaves (one.stays.traced traced));
}

pub commit_notes : (l : LogView) (on lost : List ℕ) (z w : View) (b c : RackView) → CommitCall l on lost b c → IsSameButSeats z w → LosesPlaces z w (names lost) → Notes z w b c
commit_notes l on lost z w b c commit same loses = record { same = same; lost = names lost; loses = loses; cause = λ place is. commit.gone.cause place is }

-- ---- what is left

module _ (s : State) (all : Bool) (v u z w : View) (a b c : RackView) (l : LogView) (on lost : List ℕ) (x : ℕ) (from : List ℕ)
    (is_array : IsArray u) (lasting : a.lasting) (low : x < sectors_of u) (wide : length from ≡ 512) (unspent : spent_in u x ≡ false)
    (reads : OnlyReads a b) (notes : Notes u z a b) (row : StagedRow all u z a x from l.added) (commit : CommitCall l on lost b c)
    (same_w : IsSameButSeats z w) (loses_w : LosesPlaces z w (names lost)) (base : Base all v u) (may : MayLog s v w l.number on a) where
  left_w : (place : ℕ) → has_gone w place ≡ false → names lost place ≡ false
  left_w place is = first_none (names lost place) (has_gone z place) (sym (loses_w.went place) ∙ is)

  pub commit_moves : (vals : ℕ → Values) (spent : ℕ → Bool) → IncludesSpent w spent
      → CallRefines v.number a c (ArrayInvariant s (shape_of v) v vals spent a) (ImageShowsArray s v.number (shape_of v) (appended_at x from vals) spent) (ArrayInvariant s (shape_of v) w (appended_at x from vals) spent c)
  commit_moves vals spent covers =
      let now : ℕ → Bool = λ place. names lost place || notes.lost place in
      let gone : ℕ → Bool = λ place. now place || base.lost place in
      let same = same_view_then v u w base.same (same_view_then u z w notes.same same_w) in
      let loses_u = loses_then u z w notes.lost (names lost) notes.same.truth notes.loses loses_w in
      let loses = loses_then v u w base.lost now base.same.truth base.loses loses_u in
      logged_row s all v u z w a b c l on lost x from gone base is_array lasting low wide unspent reads notes row
      (row_list all u z a x from l.added is_array low wide unspent row) commit may (losing_of v w gone same loses)
      (λ place is. first_none (names lost place) (notes.lost place) (first_none (now place) (base.lost place) is))
      (λ none. nobody_named lost (λ place. left_w place (gone_none w none place)))
      left_w vals spent covers

  pub commit_kept : LogInvariant s (next_number l.number) (has_gone w) c
  commit_kept =
      kept_more s (next_number l.number) (gone_with nobody lost) (has_gone w) c (λ place is. loses_w.went place ∙ ap (λ (b : Bool). b || has_gone z place) is)
      (log_kept s all v u w a b c l on lost base is_array lasting reads (row_list all u z a x from l.added is_array low wide unspent row) commit may left_w)

  -- its superblocks stay
  pub commit_left : LeavesSupers v.number a c
  commit_left =
      let list = row_list all u z a x from l.added is_array low wide unspent row in
      supers_then v.number a b c reads.stays (supers_reads v.number a b lasting reads)
      (supers_commit v.number b c l on lost base.is_array.few commit
      (log_ready s all v u w a b c l on lost base is_array lasting reads list commit may left_w)
      (log_decides s all v u w a b c l on lost base is_array lasting reads list commit may left_w)
      (log_quiet s all v u w a b c l on lost base is_array lasting reads list commit may left_w)
      (log_own s all v u w a b c l on lost base is_array lasting reads list commit may left_w))

-- where a sector was found spent nothing was written
pub refused_moves : (s : State) (all : Bool) (v u w : View) (a b : RackView) (x : ℕ) (from : List ℕ) → a.lasting → OnlyReads a b → Notes u w a b → spent_in w x ≡ true
    → (vals : ℕ → Values) (spent : ℕ → Bool) → IncludesSpent w spent → Base all v u
    → CallRefines v.number a b (ArrayInvariant s (shape_of v) v vals spent a) (ImageShowsArray s v.number (shape_of v) (appended_at x from vals) spent) (ArrayInvariant s (shape_of v) w (appended_at x from vals) spent b)
refused_moves s all v u w a b x from lasting reads notes refused vals spent covers base =
    let n = v.number in
    let H : Type 0 = ArrayInvariant s (shape_of v) v vals spent a in
    let lost : ℕ → Bool = λ place. notes.lost place || base.lost place in
    let losing = losing_of v w lost (same_view_then v u w base.same notes.same) (loses_then v u w base.lost notes.lost base.same.truth base.loses notes.loses) in
    let same = same_values x from vals spent (is_spent w spent x covers refused) in
    moves_by n a b H H (ArrayInvariant s (shape_of v) v vals spent b) (ArrayInvariant s (shape_of v) w (appended_at x from vals) spent b)
    (ImageShowsArray s n (shape_of v) vals spent) (ImageShowsArray s n (shape_of v) (appended_at x from vals) spent)
    (λ h. h)
    (λ r. says_values s n (shape_of v) vals (appended_at x from vals) spent r same)
    (λ h. holds_values s (shape_of v) w vals (appended_at x from vals) spent b same (holds_lost v w lost b base.is_array losing s (shape_of v) vals spent covers h))
    (moves_of s v v spent a b (shape_of v) vals (ImageShowsArray s n (shape_of v) vals spent) (shape_of v) vals (keeping_calls a b lasting reads.stays reads.keeps s (shape_of v) v vals spent))

pub refused_kept : (s : State) (number : ℕ) (w : View) (a b : RackView) → a.lasting → OnlyReads a b → LogInvariant s number nobody a → LogInvariant s number (has_gone w) b
refused_kept s number w a b lasting reads kept =
    kept_more s number nobody (has_gone w) b (λ place is. absurd (both_ways false refl is)) (kept_keeps s number nobody a b lasting reads.stays reads.keeps kept)
