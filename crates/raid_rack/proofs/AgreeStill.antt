-- Superblocks that agree do so still in arrays that aren't written, where no drive refuses a call.
use Rattle.std.proofs.Common.{◌≡◌, ℕ, ◌+◌, ◌<◌, ◌≤◌, Bool, true, false, ◌==◌, ◌&&◌, not, if◌then◌else◌, [], map, length, is_some, Option, Some, None, refl, sym, ap, ap₂, subst, ◌∙◌, inl, inr, eqb-true, eq-eqb, lt-ltb, le-ltb, arith}
use Rattle.std.proofs.lemmas.Bool.{cases_Bool, and_parts}
use Rattle.std.proofs.lemmas.List.{length-map}
use Rattle.std.specs.List.{range_with_len}
use Rattle.rack.specs.Values.{MayLeave}
use Rattle.rack.specs.Seen.{Image, RackView, IsLive}
use Rattle.md_super.specs.declared.superblock.Super.{Super}
use Rattle.pool_state.specs.declared.contents.State.{State}
use Rattle.array_image.specs.Arrays.{replayed}
use Rattle.array_image.specs.Foremost.{foremost}
use Rattle.array_image.specs.Left.{NothingPending, IsLeft, Picks, reading}
use Rattle.array_image.specs.Marks.{Marks}
use Rattle.array_image.specs.Places.{member_slice, place_of, slice_of}
use Rattle.array_image.specs.States.{is_current}
use Rattle.array_image.specs.Supers.{truth_in}
use Rattle.array_image.proofs.Frames.{Agree, supers_same, truth_by_supers}
use Rattle.array_image.proofs.Marked.{marked_super}
use Rattle.array_model.proofs.Keeping.{logs_of}
use Rattle.array_core.specs.Contents.{current_super}
use Rattle.array_core.proofs.Opened.{map_ranged, truth_ranged}
use Rattle.raid_laws.specs.Agreeing.{SupersAgree}
use Rattle.raid_rack.specs.AllRuns.{Spares}
use Rattle.raid_laws.specs.Book.{drive_of}
use Rattle.raid_laws.specs.Cleaning.{NoneFails}
use Rattle.raid_laws.specs.Moves.{IsHeeded, IsSet}
use Rattle.raid_laws.specs.Raid.{Raid, gone_in, is_left, is_failed, IsTracked}
use Rattle.raid_laws.specs.Runs.{RaidRuns}
use Rattle.raid_laws.proofs.Agreed.{agree_by}
use Rattle.raid_laws.proofs.Cleaned.{slice_own}
use Rattle.raid_laws.proofs.Noted.{bool_same}
use Rattle.raid_laws.proofs.Whole.{heeded_left}

-- ---- by a state of the same places

and_true : (b : Bool) → (b && true) ≡ b
and_true true = refl
and_true false = refl

truth_still : (s t : State) (r : Image) (n : ℕ) → Marks s (λ p. false) t → truth_in t r n ≡ truth_in s r n
truth_still s t r n marks =
    truth_ranged t r n
    ∙ ap (λ k. foremost (λ u. u.events) (map (current_super t r n) (range_with_len 0 k))) marks.drives
    ∙ ap (foremost (λ u. u.events))
    (map_ranged (current_super t r n) (current_super s r n) 0 (length s.drives.items)
    (λ p least low.
    ap₂ (λ (b : Bool) (o : Option Super). if b then o else None) (marks.current p ∙ and_true (is_current s p)) (marked_super s t (λ q. false) r n p marks)))
    ∙ sym (truth_ranged s r n)

agree_marks : (s t : State) (r : Image) (n : ℕ) → Marks s (λ p. false) t → SupersAgree s r n → SupersAgree t r n
agree_marks s t r n marks at = record {
  truth = at.truth;
  leads = truth_still s t r n marks ∙ at.leads;
  same = λ p u current is. at.same p u (was p current) (sym (marked_super s t (λ q. false) r n p marks) ∙ is);
  there = λ k p low role current. ap is_some (marked_super s t (λ q. false) r n p marks) ∙ at.there k p low role (was p current);
}
  where
    was : (p : ℕ) → is_current t p ≡ true → is_current s p ≡ true
    was p current = sym (marks.current p ∙ and_true (is_current s p)) ∙ current

-- where no drive refuses a call, no place is marked
marks_none : (p q : ℕ → Bool) (v w : Raid) (a b : RackView) → IsHeeded v → RaidRuns p q v w a b → NoneFails a b → Marks v.state (λ place. false) w.state
marks_none p q v w a b heeded runs none = record {
  current = λ place.
      bool_same (is_current w.state place) (is_current v.state place) (runs.book.current place)
      (λ was. elim (cases_Bool (is_left w place)) [
        | inl left ↦ (and_parts (is_current w.state place) (not (gone_in w place)) left).0
        | inr lost ↦ absurd (none place (runs.caused.cause place (heeded_left v place heeded was) lost))
      ])
      ∙ sym (and_true (is_current v.state place));
  pool = runs.book.same.pool;
  extent = runs.book.same.extent;
  drives = sym (length-map w.state.drives.items drive_of) ∙ ap length runs.book.same.drives ∙ length-map v.state.drives.items drive_of;
}

-- ---- in contents

module _ (p q : ℕ → Bool) (v w : Raid) (a b : RackView) (set : IsSet v a) (before : IsHeeded v) (after : IsHeeded w) (runs : RaidRuns p q v w a b) (spares : Spares q a b)
    (none : NoneFails a b) (n : ℕ) (made : n < v.state.made) (unwritten : q n ≡ false) (told : IsTracked v a n) (goes : is_failed w n ≡ false) where
  few : n < 16
  few = let most = set.most in omega (arith, made, most)

  made_now : n < w.state.made
  made_now = subst (λ k. n < k) (sym runs.book.same.made) made

  closed_before : NothingPending n a
  closed_before =
      let stood = told.stood (runs.moments.still n goes) in
      subst (λ k. NothingPending k a) stood.number (stood.holds.closed (before n made))

  closed_after : NothingPending n b
  closed_after =
      let stood = (runs.moments.told n told).stood goes in
      subst (λ k. NothingPending k b) stood.number (stood.holds.closed (after n made_now))

  -- the array's slices as a stop left them after it, and all others as they read before it
  abbrev mixed : Image → Image
  mixed c d t = if slice_of d == n + 1 then c d t else reading a d t

  mixed_own : (c : Image) (d t : ℕ) → (slice_of d == n + 1) ≡ true → mixed c d t ≡ c d t
  mixed_own c d t own = ap (λ (x : Bool). if x then c d t else reading a d t) own

  mixed_other : (c : Image) (d t : ℕ) → (slice_of d == n + 1) ≡ false → mixed c d t ≡ reading a d t
  mixed_other c d t other = ap (λ (x : Bool). if x then c d t else reading a d t) other

  picks_mixed : (c : Image) → Picks b c → Picks a (mixed c)
  picks_mixed c picks = record {
    picks = λ d t live. elim (cases_Bool (slice_of d == n + 1)) [
      | inl own ↦ subst (λ x. MayLeave (a.held d t) x) (sym (mixed_own c d t own)) (kept d t live (eqb-true (slice_of d) (n + 1) own))
      | inr other ↦
          inl (mixed_other c d t other ∙ ap (λ (x : Bool). if x then (a.held d t).current else []) (lt-ltb t (a.sectors d) live.sector))
    ];
    inside = λ d t out. elim (cases_Bool (slice_of d == n + 1)) [
      | inl own ↦ mixed_own c d t own ∙ picks.inside d t (subst (λ k. k ≤ t) (sym (runs.sectors d)) out)
      | inr other ↦ mixed_other c d t other ∙ ap (λ (x : Bool). if x then (a.held d t).current else []) (le-ltb t (a.sectors d) out)
    ];
  }
    where
      kept : (d t : ℕ) → IsLive a a d t → slice_of d ≡ n + 1 → MayLeave (a.held d t) (c d t)
      kept d t live own =
          let disks = set.disks in
          let low = live.disk in
          let here : member_slice (place_of d) n ≡ d = omega (arith, own) in
          let now : IsLive b b d t = subst (λ k. IsLive b b k t) here
          (((runs.moments.told n told).slices goes) n (place_of d) t made_now (omega (arith, low, disks))
          (subst (λ k. t < b.sectors k) (sym here) (subst (λ k. t < k) (sym (runs.sectors d)) live.sector))) in
          (spares none n d t unwritten own (record { disk = subst (λ k. d < k) (sym runs.disks) live.disk; sector = now.sector; is_told = live.is_told; unspent = now.unspent })).within
          (c d t) (picks.picks d t now)

  -- what a stop leaves of its slices one left before it
  left_before : (r : Image) → IsLeft b r → (e : Image) × IsLeft a e × Agree n r e
  left_before r left =
      let c = left.0 in
      let e : Image = mixed c in
      let picks = picks_mixed c left.1 in (
        replayed a.sectors e,
        (e, picks, λ d t. refl),
        λ place u.
            left.2 (member_slice place n) u ∙ closed_after c (logs_of c left.1) place u
            ∙ sym (mixed_own c (member_slice place n) u (eq-eqb (slice_of (member_slice place n)) (n + 1) (slice_own place n few)))
            ∙ sym (closed_before e (logs_of e picks) place u),
      )

  pub agree_spared : ((r : Image) → IsLeft a r → SupersAgree v.state r n) → (r : Image) → IsLeft b r → SupersAgree w.state r n
  agree_spared was r left =
      let at = left_before r left in
      agree_marks v.state w.state r n (marks_none p q v w a b before runs none) (agree_by v.state r at.0 n at.2 (was at.0 at.1))

  -- nor does its truth change
  pub truth_spared : (P : Super → Type 0) → ((r : Image) → IsLeft a r → (u : Super) → truth_in v.state r n ≡ Some u → P u)
      → (r : Image) → IsLeft b r → (u : Super) → truth_in w.state r n ≡ Some u → P u
  truth_spared P was r left u truth =
      let at = left_before r left in
      was at.0 at.1 u
      (sym (truth_by_supers v.state r at.0 n (supers_same v.state r at.0 n at.2))
      ∙ sym (truth_still v.state w.state r n (marks_none p q v w a b before runs none)) ∙ truth)
