-- The arrays are settled, and one commit marks the losses.
use Rattle.std.proofs.Common.{◌≡◌, ◌⊎◌, ℕ, ◌<◌, Bool, true, false, ◌&&◌, ◌||◌, not, List, [], ◌∷◌, refl, sym, ap, subst, ◌∙◌, inl, inr, arith}
use Rattle.std.proofs.lemmas.Bool.{cases_Bool, both_ways, and_parts}
use Rattle.rack.specs.Seen.{RackView}
use Rattle.rack.specs.Joins.{stays_then, leaves_then, keeps_then, live_first, live_second, rose_later, rose_early}
use Rattle.rack.specs.Targets.{Target}
use Rattle.array_image.specs.Places.{place_of}
use Rattle.array_image.specs.States.{is_current}
use Rattle.array_image.specs.Arrays.{Shape}
use Rattle.log_laws.specs.View.{LogView, names, next_number}
use Rattle.commit_log.proofs.Deciding.{names_first}
use Rattle.array_model.specs.View.{View, shape_of}
use Rattle.array_image.specs.Held.{Among}
use Rattle.array_image.proofs.Marked.{among_lowered}
use Rattle.array_model.specs.ArrayCalls.{IncludesSpent}
use Rattle.raid_laws.specs.Raid.{Raid, gone_in, is_left}
use Rattle.raid_laws.specs.Book.{after_then}
use Rattle.raid_laws.specs.Moves.{AreMarked, ChangesNoData}
use Rattle.raid_laws.specs.Agreeing.{MakesAgree}
use Rattle.raid_laws.specs.Cleaning.{NoneFails}
use Rattle.raid_laws.specs.Settling.{SettlesTo, state_after}
use Rattle.raid_laws.specs.Losing.{only_then}
use Rattle.raid_laws.proofs.Losing.{only_gone}
use Rattle.raid_laws.proofs.Over.{over_still, not_true}
use Rattle.raid_laws.proofs.Moving.{marked_later, parts_within}
use Rattle.raid_laws.proofs.Noted.{gone_some, losing_spent}
use Rattle.raid_laws.proofs.Elements.{look_lacks}
use Rattle.raid_laws.proofs.Adding.{which, current_is}
use Rattle.raid_laws.proofs.Committed.{IsCommit, commit_unwritten, raid_after, after_gone, after_new, gone_current, after_set, after_left, after_cause, after_further, after_marked, commit_losing, next_later}
use Rattle.raid_laws.proofs.Carried.{commit_agrees, commit_left, commit_lacking, commit_part, commit_rows}
use Rattle.raid_laws.specs.Rows.{lacking_then, rows_then}

pub moves_commit : (u v : Raid) (lost on gone : List ℕ) (l : LogView) (xs : List Target) (f : ℕ → View) (a b c : RackView)
    → SettlesTo u v a b v.state.made xs → IsCommit v lost on gone l xs f b c
    → ChangesNoData u (raid_after v lost (next_number l.number) f) a c
moves_commit u v lost on gone l xs f a b c settles commit =
    let one = settles.moves in
    let w = raid_after v lost (next_number l.number) f in
    let call = commit.call in
    let second = after_marked lost v.state in
    let made_still : (n : ℕ) → n < u.state.made → n < v.state.made = λ n made. subst (λ k. n < k) (sym one.book.same.made) made in
    record {
      stays = stays_then one.stays call.stays;
      set = after_set v lost on gone l xs f b c commit;
      book = after_then u.state v.state w.state one.book second;
      leaves = λ traced. leaves_then (λ i. Unit {0}) (one.leaves traced) (call.leaves (one.stays.traced traced));
      number = (let more = one.number in let next = next_later l.number in let same = commit.marking.number in omega (arith, more, next, same));
      events = λ n made. (let more = one.events n made in let next = (after_further v lost on gone l xs f b c commit).events n (made_still n made) in omega (arith, more, next));
      arrays = λ n made.
          only_then (u.arrays n) (v.arrays n) (f n) (one.arrays n made)
          (only_gone (v.arrays n) (f n) gone (commit.marking.set.arrays n (made_still n made)).is_array (commit.arrays n (made_still n made)));
      plan = one.plan;
      sectors = λ n. commit.sectors n ∙ one.sectors n;
      left = λ p is. one.left p (after_left v lost on gone l xs f b c commit p is);
      cause = λ p was now.
          elim (cases_Bool (is_left v p)) [
            | inl mid ↦
                let fault = after_cause v lost on gone l xs f b c commit p mid now in
                (fault.0, fault.1, rose_later a b c fault.0 one.stays fault.2)
            | inr lost_now ↦
                let fault = one.cause p was lost_now in
                (fault.0, fault.1, rose_early a b c fault.0 call.stays fault.2)
          ];
      still = λ n made goes. one.still n made (over_still v w (after_further v lost on gone l xs f b c commit) n (made_still n made) goes);
      spent = λ n y made alive.
          one.spent n y made
          (losing_spent (v.arrays n) (f n) (names gone) (commit.marking.set.arrays n (made_still n made)).is_array
          (commit_losing v lost on gone l xs f b c commit n (made_still n made)) y alive);
      counted = λ n m sector made among counts.
          one.counted n m sector made
          (among_lowered (names gone) sector (shape_of (v.arrays n)).members m
          (subst (λ (shape : Shape). Among m shape.members) (commit_losing v lost on gone l xs f b c commit n (made_still n made)).shape among) counts)
          counts;
      unwritten = λ d t live marked.
          keeps_then (a.held d t) (b.held d t) (c.held d t) (one.unwritten d t (live_first call.stays live) marked)
          (commit_unwritten v lost on gone l xs f b c commit d t (live_second one.stays live) (marked_later u.state v.state (place_of d) one.book marked));
      kept = λ d t live apart other.
          keeps_then (a.held d t) (b.held d t) (c.held d t) (one.kept d t (live_first call.stays live) apart other)
          (call.apart d t (live_second one.stays live) (λ part. apart part.0)
          (look_lacks l.added d t
          (λ x among disk sector.
          elim (which v lost on l xs b commit.marking x among) [
            | inl super ↦ other (sym sector ∙ super.sector)
            | inr copy ↦ apart (let at = copy.copy.disk in omega (arith, at, disk))
          ])));
      parts = λ n vals spent joined made goes covers.
          let low = made_still n made in
          let mid_goes = over_still v w (after_further v lost on gone l xs f b c commit) n low goes in
          let covered : IncludesSpent (v.arrays n) spent = λ y alive.
          losing_spent (v.arrays n) (f n) (names gone) (commit.marking.set.arrays n low).is_array (commit_losing v lost on gone l xs f b c commit n low) y (covers y alive) in
          let first = one.parts n vals spent joined made mid_goes covered in
          parts_within u v w a b c n vals vals spent one.stays one.book second call.leaves first
          (λ amid.
          commit_part v lost on gone l xs f b c commit n vals spent (subst (λ k. n < k) (sym one.book.same.joined) joined) low goes covers
          (settles.settled n vals spent low joined mid_goes covered amid));
      rows = λ n vals spent joined made goes covers amid rows.
          let low = made_still n made in
          let mid_goes = over_still v w (after_further v lost on gone l xs f b c commit) n low goes in
          let covered : IncludesSpent (v.arrays n) spent = λ y alive.
          losing_spent (v.arrays n) (f n) (names gone) (commit.marking.set.arrays n low).is_array (commit_losing v lost on gone l xs f b c commit n low) y (covers y alive) in
          let first = one.rows n vals spent joined made mid_goes covered amid rows in
          rows_then u v w a b c n one.stays.sectors one.stays.traced first
          (commit_rows v lost on gone l xs f b c commit n vals spent (subst (λ k. n < k) (sym one.book.same.joined) joined) low goes covers
          ((one.parts n vals spent joined made mid_goes covered).holds amid) (settles.settled n vals spent low joined mid_goes covered amid) first.after);
      lacking = λ n vals spent joined made goes covers amid leaves.
          let low = made_still n made in
          let mid_goes = over_still v w (after_further v lost on gone l xs f b c commit) n low goes in
          let covered : IncludesSpent (v.arrays n) spent = λ y alive.
          losing_spent (v.arrays n) (f n) (names gone) (commit.marking.set.arrays n low).is_array (commit_losing v lost on gone l xs f b c commit n low) y (covers y alive) in
          let first = one.lacking n vals spent joined made mid_goes covered amid leaves in
          lacking_then u v w a b c n one.stays.sectors one.stays.traced first
          (commit_lacking v lost on gone l xs f b c commit n vals spent (subst (λ k. n < k) (sym one.book.same.joined) joined) low goes covers
          ((one.parts n vals spent joined made mid_goes covered).holds amid) (settles.settled n vals spent low joined mid_goes covered amid) first.after);
    }

-- and it makes the superblocks agree
pub agrees_commit : (u v : Raid) (lost on gone : List ℕ) (l : LogView) (xs : List Target) (f : ℕ → View) (a b c : RackView)
    → SettlesTo u v a b v.state.made xs → IsCommit v lost on gone l xs f b c
    → MakesAgree u (raid_after v lost (next_number l.number) f) a c
agrees_commit u v lost on gone l xs f a b c settles commit none n vals spent joined made goes covers amid r left =
    let one = settles.moves in
    let low : n < v.state.made = subst (λ k. n < k) (sym one.book.same.made) made in
    let mid_goes = over_still v (raid_after v lost (next_number l.number) f) (after_further v lost on gone l xs f b c commit) n low goes in
    let covered : IncludesSpent (v.arrays n) spent = λ y alive.
    losing_spent (v.arrays n) (f n) (names gone) (commit.marking.set.arrays n low).is_array (commit_losing v lost on gone l xs f b c commit n low) y (covers y alive) in
    let ready : n < v.state.joined = subst (λ k. n < k) (sym one.book.same.joined) joined in
    let stood = (one.parts n vals spent joined made mid_goes covered).holds amid in
    let single = settles.settled n vals spent low joined mid_goes covered amid in
    record {
      agree = commit_agrees v lost on gone l xs f b c commit n vals spent ready low goes covers stood single r left;
      left = λ t truth young.
          commit_left v lost on gone l xs f b c commit n vals spent ready low goes covers stood single r left t truth ∙ settles.left n made low young;
    }

-- where no drive refused a call in it, whoever went is marked
pub commit_marked : (v : Raid) (lost on gone : List ℕ) (l : LogView) (xs : List Target) (f : ℕ → View) (b c : RackView) → IsCommit v lost on gone l xs f b c
    → NoneFails b c → AreMarked (raid_after v lost (next_number l.number) f)
commit_marked v lost on gone l xs f b c commit none p current =
    elim (cases_Bool (gone_in (raid_after v lost (next_number l.number) f) p)) [
      | inl is ↦
          let still = (and_parts (is_current v.state p) (not (gone_in v p)) (sym (current_is v lost on l xs b commit.marking p) ∙ current)).1 in
          absurd (none p (commit.call.gone.cause p (after_new v lost on gone l xs f b c commit p (not_true (gone_in v p) still) is)))
      | inr not_gone ↦ not_gone
    ]

-- whoever was left and went in the commit
pub commit_progress : (v : Raid) (lost on gone : List ℕ) (l : LogView) (xs : List Target) (f : ℕ → View) (b c : RackView) → IsCommit v lost on gone l xs f b c
    → (one : ℕ) → names lost one ≡ true
    → AreMarked (raid_after v lost (next_number l.number) f)
    ⊎ ((p : ℕ) × (is_left v p ≡ true) × (is_left (raid_after v lost (next_number l.number) f) p ≡ false))
commit_progress v lost on [] l xs f b c commit one listed =
    inl (λ p current.
    elim (cases_Bool (gone_in (raid_after v lost (next_number l.number) f) p)) [
      | inl is ↦
          let still = (and_parts (is_current v.state p) (not (gone_in v p)) (sym (current_is v lost on l xs b commit.marking p) ∙ current)).1 in
          absurd (both_ways false refl (after_new v lost on [] l xs f b c commit p (not_true (gone_in v p) still) is))
      | inr none ↦ none
    ])
commit_progress v lost on (q ∷ gone) l xs f b c commit one listed =
    let named : names (q ∷ gone) q ≡ true = names_first q gone in
    let current = gone_current v lost on (q ∷ gone) l xs f b c commit q named in
    let some = gone_some v one (and_parts (is_current v.state one) (gone_in v one) (sym (commit.marking.lost_is one) ∙ listed)).1 in
    let now : gone_in (raid_after v lost (next_number l.number) f) q ≡ true =
    after_gone v lost on (q ∷ gone) l xs f b c commit some.1.0 q some.1.1 ∙ or_last (gone_in v q) (names (q ∷ gone) q) named in
    inr (q, sym (current_is v lost on l xs b commit.marking q) ∙ current, and_none (is_current (state_after v lost) q) (gone_in (raid_after v lost (next_number l.number) f) q) now)
  where
    or_last : (x y : Bool) → y ≡ true → (x || y) ≡ true
    or_last true y is = refl
    or_last false y is = is

    and_none : (x y : Bool) → y ≡ true → (x && not y) ≡ false
    and_none true y is = ap not is
    and_none false y is = refl
