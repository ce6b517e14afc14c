-- Superblocks of an array in what stops leave: those that a stop before might leave, and the array's truth by them.
use Rattle.std.proofs.Common.{◌≡◌, ◌≢◌, ℕ, ◌<◌, ◌≤◌, Bool, true, false, ◌==◌, ◌||◌, nat_lt, if◌then◌else◌, List, [], refl, sym, ap, subst, ◌∙◌, inl, inr, eq-eqb, eqb-true, ltb-true, arith}
use Rattle.std.proofs.lemmas.Bool.{both_ways}
use Rattle.rack.specs.Values.{MayLeave}
use Rattle.rack.specs.Seen.{Image, RackView, IsLive, IsPick, SameRack}
use Rattle.rack.specs.Joins.{leaves_then, leaves_weaker}
use Rattle.rack.specs.Sequences.{IsMix, OnlyReads, WritesOnly}
use Rattle.rack.specs.Targets.{put}
use Rattle.md_super.specs.declared.superblock.Super.{Super}
use Rattle.pool_state.specs.declared.contents.State.{State}
use Rattle.array_image.specs.Places.{data_sector, log_slice, member_slice, slice_of, super_sector}
use Rattle.array_image.specs.Arrays.{replayed}
use Rattle.array_image.specs.Left.{IsInside, IsLeft, LogsInside, Picks, PicksLogs, reading}
use Rattle.array_image.proofs.Replays.{SameLogs, replayed_same}
use Rattle.log_laws.specs.View.{LogView}
use Rattle.log_laws.specs.Standing.{IsLogPart, IsReady, SomeoneDecides}
use Rattle.log_laws.specs.Commits.{CommitCall, ImageInCommit}
use Rattle.log_laws.proofs.Kept.{before_inside, stands_of}
use Rattle.array_model.specs.Rows.{Wrote, refused, row}
use Rattle.array_model.specs.ArrayCalls.{KeepsSupers}
use Rattle.array_model.specs.View.{View}
use Rattle.array_model.proofs.DataFrames.{truth_at}
use Rattle.array_model.proofs.Keeping.{inside_before, left_before, live_after, live_on, logs_of, pick_before, reading_live, reading_outside}
use Rattle.array_core.specs.TruthLeft.{HasTruthOf, LeavesSupers, LeavesTruth}
use Rattle.array_core.proofs.RowCommits.{IsOwnData, no_look, put_none}

-- contents over the sectors that a rack had before
same_sectors : (P : Image → Type 0) (a b : RackView) (c : Image) → SameRack a b → P (replayed a.sectors c) → P (replayed b.sectors c)
same_sectors P a b c stays = subst (λ (size : ℕ → ℕ). P (replayed size c)) (λ k d. sym (stays.sectors d) k)

-- what a stop leaves is what it leaves of some contents
pub at_left : (P : Image → Type 0) (a b : RackView) (r : Image) (l : IsLeft b r) → SameRack a b → P (replayed a.sectors l.0) → P r
at_left P a b r l stays from = subst P (λ k d t. sym (l.2 d t) k) (same_sectors P a b l.0 stays from)

-- ---- calls in a row

supers_over : (n : ℕ) (a b : RackView) (r : Image) → LeavesSupers n a b → KeepsSupers n b r → KeepsSupers n a r
supers_over n a b r first found = let early = first.after found.0 found.1 in (early.0, early.1, λ place. found.2 place ∙ early.2 place)

pub supers_then : (n : ℕ) (a b c : RackView) → SameRack a b → LeavesSupers n a b → LeavesSupers n b c → LeavesSupers n a c
supers_then n a b c stays first second = record {
  leaves = λ traced.
      leaves_then (λ i. IsInside a.sectors i → KeepsSupers n a (replayed a.sectors i)) (first.leaves traced)
      (leaves_weaker
      (λ i. IsInside b.sectors i → KeepsSupers n b (replayed b.sectors i))
      (λ i. IsInside a.sectors i → KeepsSupers n a (replayed a.sectors i))
      (λ i from inside.
      supers_over n a b (replayed a.sectors i) first
      (subst (λ (size : ℕ → ℕ). KeepsSupers n b (replayed size i)) (λ k d. stays.sectors d k) (from (λ d t out. inside d t (subst (λ k. k ≤ t) (stays.sectors d) out)))))
      (second.leaves (stays.traced traced)));
  after = λ r left. supers_over n a b r first (second.after r left);
}

-- ---- the truth by them

truth_of : (s : State) (n : ℕ) (a : RackView) (new : Super → Type 0) (r : Image) → KeepsSupers n a r → HasTruthOf s n a new r
truth_of s n a new r found t is = inl (found.0, found.1, sym (truth_at s r found.0 n found.2) ∙ is)

pub supers_truth : (s : State) (n : ℕ) (new : Super → Type 0) (H : Type 0) (a b : RackView) → LeavesSupers n a b → LeavesTruth s n new H a b
supers_truth s n new H a b supers = record {
  leaves = λ traced.
      leaves_weaker
      (λ c. IsInside a.sectors c → KeepsSupers n a (replayed a.sectors c))
      (λ c. IsInside a.sectors c → H → HasTruthOf s n a new (replayed a.sectors c))
      (λ c from inside holds. truth_of s n a new (replayed a.sectors c) (from inside))
      (supers.leaves traced);
  after = λ holds r left. truth_of s n a new r (supers.after r left);
}

truth_over : (s : State) (n : ℕ) (a b : RackView) (new : Super → Type 0) (r : Image) → LeavesSupers n a b → HasTruthOf s n b new r → HasTruthOf s n a new r
truth_over s n a b new r first found t is =
    elim (found t is) [
      | inl early ↦ truth_of s n a new early.0 (first.after early.0 early.1) t early.2
      | inr now ↦ inr now
    ]

-- after calls that leave the superblocks
pub truth_then : (s : State) (n : ℕ) (new : Super → Type 0) (H Middle : Type 0) (a b c : RackView) → SameRack a b → (H → Middle) → LeavesSupers n a b
    → LeavesTruth s n new Middle b c → LeavesTruth s n new H a c
truth_then s n new H Middle a b c stays holds first second = record {
  leaves = λ traced.
      leaves_then (λ i. IsInside a.sectors i → H → HasTruthOf s n a new (replayed a.sectors i)) ((supers_truth s n new H a b first).leaves traced)
      (leaves_weaker
      (λ i. IsInside b.sectors i → Middle → HasTruthOf s n b new (replayed b.sectors i))
      (λ i. IsInside a.sectors i → H → HasTruthOf s n a new (replayed a.sectors i))
      (λ i from inside h.
      truth_over s n a b new (replayed a.sectors i) first
      (subst (λ (size : ℕ → ℕ). HasTruthOf s n b new (replayed size i)) (λ k d. stays.sectors d k)
      (from (λ d t out. inside d t (subst (λ k. k ≤ t) (stays.sectors d) out)) (holds h))))
      (second.leaves (stays.traced traced)));
  after = λ h r left. truth_over s n a b new r first (second.after (holds h) r left);
}

-- ---- reads

pub supers_reads : (n : ℕ) (a b : RackView) → a.lasting → OnlyReads a b → LeavesSupers n a b
supers_reads n a b lasting reads = record {
  leaves = λ traced.
      leaves_weaker (IsPick a b a.held) (λ c. IsInside a.sectors c → KeepsSupers n a (replayed a.sectors c))
      (λ c pick inside. (replayed a.sectors c, (c, pick_before lasting reads.stays c inside pick, λ d t. refl), λ place. refl))
      (reads.keeps.stops traced);
  after = λ r left. (r, left_before lasting reads.stays reads.keeps.held r left, λ place. refl);
}

-- ---- writes of members' data

-- no sector of data
abbrev is_other : ℕ → ℕ → Bool
is_other d t = (slice_of d == 0) || nat_lt t data_sector

-- contents with the data that the rack had
abbrev undone : RackView → Image → Image
undone a c d t = if is_other d t then c d t else reading a d t

-- the others are those of the contents
undone_other : (a : RackView) (c : Image) (d t : ℕ) → is_other d t ≡ true → c d t ≡ undone a c d t
undone_other a c d t is = sym (ap (λ (b : Bool). if b then c d t else reading a d t) is)

log_other : (place t : ℕ) → is_other (log_slice place) t ≡ true
log_other place t = ap (λ (b : Bool). b || nat_lt t data_sector) (eq-eqb (slice_of (log_slice place)) 0 (omega arith))

super_other : (d : ℕ) → is_other d super_sector ≡ true
super_other d = either_true (slice_of d == 0)
  where
    either_true : (b : Bool) → (b || true) ≡ true
    either_true true = refl
    either_true false = refl

module _ (n : ℕ) (a b : RackView) (may : ℕ → ℕ → List ℕ → Type 0) (lasting : a.lasting) (only : WritesOnly a b may)
    (data_only : (d t : ℕ) (x : List ℕ) → may d t x → (slice_of d ≢ 0) × (data_sector ≤ t)) where
  undone_picks : (c : Image) → IsInside a.sectors c → IsMix a b may c → Picks a (undone a c)
  undone_picks c inside mix = record { picks = picks; inside = none }
    where
      not_other : (d t : ℕ) (x : List ℕ) → may d t x → (b : Bool) → is_other d t ≡ b → b ≡ false
      not_other d t x new false is = refl
      not_other d t x new true is = absurd (by (slice_of d == 0) refl is)
        where
          by : (zero : Bool) → (slice_of d == 0) ≡ zero → (zero || nat_lt t data_sector) ≡ true → ⊥
          by true zero is = (data_only d t x new).0 (eqb-true (slice_of d) 0 zero)
          by false zero is = let low = ltb-true t data_sector is in let high = (data_only d t x new).1 in omega (arith, low, high)

      picks : (d t : ℕ) → IsLive a a d t → MayLeave (a.held d t) (undone a c d t)
      picks d t live =
          let Goal : Bool → Type 0 = λ b. is_other d t ≡ b → MayLeave (a.held d t) (if b then c d t else reading a d t) in
          let goal : Goal (is_other d t) = elim (is_other d t) as Goal [
            | true ↦ λ is.
                elim (mix d t (live_on lasting only.stays live)) [
                  | inl held ↦ held
                  | inr new ↦ absurd (both_ways (is_other d t) (not_other d t (c d t) new (is_other d t) refl) is)
                ]
            | false ↦ λ is. inl (reading_live a d t live)
          ] in
          goal refl

      none : IsInside a.sectors (undone a c)
      none d t out = by (is_other d t)
        where
          by : (b : Bool) → (if b then c d t else reading a d t) ≡ []
          by true = inside d t out
          by false = reading_outside a d t out

  supers_mix : (c : Image) → IsInside a.sectors c → IsMix a b may c → KeepsSupers n a (replayed a.sectors c)
  supers_mix c inside mix =
      let logs : SameLogs c (undone a c) = λ place t. undone_other a c (log_slice place) t (log_other place t) in (
        replayed a.sectors (undone a c),
        (undone a c, undone_picks c inside mix, λ d t. refl),
        λ place.
            replayed_same a.sectors c (undone a c) (member_slice place n) super_sector logs
            (undone_other a c (member_slice place n) super_sector (super_other (member_slice place n))),
      )

  pub supers_data : LeavesSupers n a b
  supers_data = record {
    leaves = λ traced.
        leaves_weaker (IsMix a b may) (λ c. IsInside a.sectors c → KeepsSupers n a (replayed a.sectors c)) (λ c mix inside. supers_mix c inside mix) (only.stops traced);
    after = λ r left.
        at_left (KeepsSupers n a) a b r left only.stays
        (supers_mix left.0 (inside_before only.stays left.0 left.1.inside)
        (λ d t live. only.within d t (left.0 d t) live (left.1.picks d t (live_after only.stays live))));
  }

-- a row of members' data
pub supers_row : (v w : View) (a b : RackView) (x : ℕ) (from : List ℕ) → v.number < 16 → a.lasting → Wrote v w a b x from → LeavesSupers v.number a b
supers_row v w a b x from few lasting (refused reads notes lost) = supers_reads v.number a b lasting reads
supers_row v w a b x from few lasting (row xs works owes) =
    supers_data v.number a b _ lasting works.puts.only
    (λ d t u is.
    let at = owes.row.own d t u is in
    let disk = at.2 in
    let sector = at.3 in (λ log. absurd (omega (arith, disk, log, few)), omega (arith, sector)))

-- ---- a commit of members' data

module _ (n : ℕ) (a b : RackView) (l : LogView) (on lost : List ℕ) (few : n < 16) (commit : CommitCall l on lost a b) (ready : IsReady l on a)
    (decides : SomeoneDecides l.added on lost a) (quiet : (c : Image) → PicksLogs a c → (d t : ℕ) → replayed a.sectors c d t ≡ c d t) (own : IsOwnData n l.added) where
  no_log : (place : ℕ) → IsLogPart (member_slice place n) super_sector → ⊥
  no_log place part = let slice = part.0 in omega (arith, slice, few)

  -- contents with all targets have the superblocks of those before
  supers_put : (before : Image) → Picks a before → (place : ℕ)
      → put a.sectors l.added before (member_slice place n) super_sector ≡ replayed a.sectors before (member_slice place n) super_sector
  supers_put before picks place =
      let d = member_slice place n in
      put_none a.sectors l.added before d super_sector (no_look l.added d super_sector (λ u is. let at = (own.own d super_sector u is).1 in absurd (omega (arith, at))))
      ∙ sym (quiet before (logs_of before picks) d super_sector)

  supers_commits : (c : Image) → IsInside a.sectors c → ImageInCommit l.added a c → KeepsSupers n a (replayed a.sectors c)
  supers_commits c inside commits =
      let before = commits.before in
      let picks = before_inside l.added a c before inside commits.stands commits.either in (
        replayed a.sectors before,
        (before, picks, λ d t. refl),
        λ place. elim commits.either [
          | inl old ↦ old (member_slice place n) super_sector (no_log place)
          | inr new ↦ new (member_slice place n) super_sector (no_log place) ∙ supers_put before picks place
        ],
      )

  pub supers_commit : LeavesSupers n a b
  supers_commit = record {
    leaves = λ traced.
        leaves_weaker (λ c. LogsInside a.sectors c → ImageInCommit l.added a c) (λ c. IsInside a.sectors c → KeepsSupers n a (replayed a.sectors c))
        (λ c found inside. supers_commits c inside (found (λ place t out. inside (log_slice place) t out)))
        (commit.stops traced ready decides);
    after = λ r left.
        let done = commit.after ready decides left.0 (stands_of left.0 left.1) in
        at_left (KeepsSupers n a) a b r left commit.stays
        (supers_commits left.0 (inside_before commit.stays left.0 left.1.inside)
        (record { before = done.before; stands = done.stands; either = inr done.all; whole = λ whole. done.whole }));
  }
