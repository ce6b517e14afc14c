-- Books that changes lead over: what stays, and what rises.
use Rattle.std.proofs.Common.{◌≡◌, ℕ, zero, suc, ◌+◌, Bool, true, false, ◌==◌, ◌&&◌, not, if◌then◌else◌, List, [], ◌∷◌, slice_get, Option, Some, None, option_map, refl, sym, ap, subst, ◌∙◌, inl, inr, arith, eqb-true}
use Rattle.std.proofs.lemmas.Bool.{both_ways}
use Rattle.std.specs.List.{range_with_len}
use Rattle.pool_state.specs.declared.contents.State.{State}
use Rattle.array_image.specs.Arrays.{Member}
use Rattle.array_image.specs.States.{is_current}
use Rattle.array_model.specs.declared.Seat.{Seat}
use Rattle.array_model.specs.declared.Seat.TheVariants.{Missing}
use Rattle.array_model.specs.View.{member_by_seat, member_on, place_at, seat_unless, shape_of, View}
use Rattle.log_laws.specs.View.{names}
use Rattle.raid_laws.specs.Book.{after_same, after_then, OnlyMarksSince}
use Rattle.transition_laws.specs.Changes.{Along, AreKeeping, by, Change, changed, closed, enlists, failed, FollowsView, is_keeping, lacking, makes, readied, rewritten, seats_without, steps, wrote}
use Rattle.raid_laws.specs.Works.{closed as closed_state}
use Rattle.raid_laws.specs.Frames.{Frame, frame_of}
use Rattle.array_core.proofs.Rules.{get_map}
use Rattle.raid_laws.specs.Missing.{marked}
use Rattle.raid_laws.specs.Raid.{Raid}
use Rattle.raid_laws.specs.Reach.{KeepsMember, KeepsReachOn, reach_same, reach_then}
use Rattle.array_core.proofs.Stripped.{some_same}
use Rattle.raid_laws.proofs.Closing.{after_closed}
use Rattle.raid_laws.proofs.Committed.{after_marked}
use Rattle.raid_laws.proofs.Frames.{view_frame}
use Rattle.raid_laws.proofs.Missing.{current_marked}

-- ---- one array of them

pub record Follows (v w : Raid) : Type 0 where
  pub after : OnlyMarksSince v.state w.state
  pub views : (n : ℕ) → FollowsView (is_current w.state) (v.arrays n) (w.arrays n)

pub view_same : (on : ℕ → Bool) (u : View) → FollowsView on u u
view_same on u = record { frame = refl; reach = reach_same on (shape_of u); resync = omega arith; young = refl }

pub follows_same : (v : Raid) → Follows v v
follows_same v = record { after = after_same v.state; views = λ n. view_same (is_current v.state) (v.arrays n) }

pub follows_then : (v w z : Raid) → Follows v w → Follows w z → Follows v z
follows_then v w z one two = record {
  after = after_then v.state w.state z.state one.after two.after;
  views = λ n.
      let first = one.views n in
      let second = two.views n in
      record {
        frame = second.frame ∙ first.frame;
        reach = reach_then (is_current w.state) (is_current z.state) (shape_of (v.arrays n)) (shape_of (w.arrays n)) (shape_of (z.arrays n)) two.after.current first.reach second.reach;
        resync = let less = first.resync in let more = second.resync in omega (arith, less, more);
        young = second.young ∙ first.young;
      };
}

-- ---- seats

pub get_without : (lost : List ℕ) (place : ℕ → ℕ) (k j : ℕ) (seats : List Seat)
    → slice_get (seats_without lost place k seats) j ≡ option_map (seat_unless (names lost) (place (k + j))) (slice_get seats j)
unfolding seats_without
get_without lost place k j [] = refl
get_without lost place k zero (seat ∷ others) = ap (λ i. Some (seat_unless (names lost) (place i) seat)) (let e : k ≡ k + 0 = omega arith in e)
get_without lost place k (suc j) (seat ∷ others) =
    get_without lost place (k + 1) j others ∙ ap (λ i. option_map (seat_unless (names lost) (place i)) (slice_get others j)) (let e : k + 1 + j ≡ k + suc j = omega arith in e)

unless_none : (gone : Bool) (o : Option Seat) → gone ≡ false → option_map (λ (seat : Seat). if gone then Missing else seat) o ≡ o
unless_none true o is = absurd (both_ways true is refl)
unless_none false None is = refl
unless_none false (Some seat) is = refl

member_kept : (lost : List ℕ) (events : ℕ) (u : View) (j : ℕ) → names lost (place_at u j) ≡ false → member_on (rewritten events (lacking lost u)) j ≡ member_on u j
member_kept lost events u j kept =
    ap (λ (o : Option Seat). member_by_seat u.truth.size (place_at u j) o)
    (get_without lost (place_at u) 0 j u.seats
    ∙ ap (λ i. option_map (seat_unless (names lost) (place_at u i)) (slice_get u.seats j)) (let e : 0 + j ≡ j = omega arith in e)
    ∙ unless_none (names lost (place_at u j)) (slice_get u.seats j) kept)

same_member : (m o : Member) → m ≡ o → KeepsMember m o
same_member m o same = subst (KeepsMember m) same (record { reach = omega arith; there = λ is. is; whole = λ is. is })

-- shapes of views of which each member on such a place is the same
members_reach : (on : ℕ → Bool) (u w : View) → frame_of w.truth ≡ frame_of u.truth → w.truth.raid_disks ≡ u.truth.raid_disks
    → ((j : ℕ) → on (place_at u j) ≡ true → member_on w j ≡ member_on u j) → KeepsReachOn on (shape_of u) (shape_of w)
unfolding shape_of
members_reach on u w framed disks same = record {
  places = ap (λ (g : Frame). g.places) (view_frame w ∙ framed ∙ sym (view_frame u));
  reach = λ k m o at there is.
      of m o (slice_get (range_with_len 0 u.truth.raid_disks) k) is
      (sym (get_map (member_on u) (range_with_len 0 u.truth.raid_disks) k) ∙ at)
      (ap (λ d. option_map (member_on w) (slice_get (range_with_len 0 d) k)) (sym disks) ∙ sym (get_map (member_on w) (range_with_len 0 w.truth.raid_disks) k) ∙ there);
}
  where
    of : (m o : Member) (i : Option ℕ) → on m.place ≡ true → option_map (member_on u) i ≡ Some m → option_map (member_on w) i ≡ Some o → KeepsMember m o
    of m o None is at there = absurd (let bad : None ≡ Some m = at in cc)
    of m o (Some j) is at there =
        let first : member_on u j ≡ m = some_same (member_on u j) m at in
        let last : member_on w j ≡ o = some_same (member_on w j) o there in
        same_member m o (sym first ∙ sym (same j (ap (λ (e : Member). on e.place) first ∙ is)) ∙ last)

not_named : (current named : Bool) → (current && not named) ≡ true → named ≡ false
not_named current true is = absurd (both_ways false refl (sym (off current) ∙ is))
  where
    off : (c : Bool) → (c && false) ≡ false
    off true = refl
    off false = refl
not_named current false is = refl

-- ---- each change

view_failed : (s : State) (lost : List ℕ) (events : ℕ) (u : View) → FollowsView (is_current (marked lost s)) u (rewritten events (lacking lost u))
view_failed s lost events u = record {
  frame = refl;
  reach = members_reach (is_current (marked lost s)) u (rewritten events (lacking lost u)) refl refl
      (λ j is. member_kept lost events u j (not_named (is_current s (place_at u j)) (names lost (place_at u j)) (sym (current_marked lost s (place_at u j)) ∙ is)));
  resync = omega arith;
  young = refl;
}

pub follows_change : (x : Change) (v : Raid) → is_keeping x v → Follows v (changed x v)
follows_change (steps m next) v keeping = record { after = after_same v.state; views = λ n. of n (n == m) refl }
  where
    of : (n : ℕ) (t : Bool) → (n == m) ≡ t → FollowsView (is_current v.state) (v.arrays n) (if t then next else v.arrays n)
    of n true is = subst (λ k. FollowsView (is_current v.state) (v.arrays k) next) (sym (eqb-true n m is)) keeping.follows
    of n false is = view_same (is_current v.state) (v.arrays n)
follows_change (makes next) v keeping = absurd keeping
follows_change readied v keeping = absurd keeping
follows_change closed v keeping = record { after = after_closed v.state; views = λ n. view_same (is_current (closed_state v.state)) (v.arrays n) }
follows_change (enlists place units plan joining) v keeping = absurd keeping
follows_change (failed lost events) v keeping = record { after = after_marked lost v.state; views = λ n. view_failed v.state lost (events n) (v.arrays n) }
follows_change (wrote n) v keeping = follows_same v

pub follows_by : (xs : List Change) (v : Raid) → AreKeeping xs v → Follows v (by xs v)
follows_by [] v keeping = follows_same v
follows_by (x ∷ xs) v keeping = follows_then v (changed x v) (by xs (changed x v)) (follows_change x v keeping.0) (follows_by xs (changed x v) keeping.1)

-- each of the books follows the first one, and the last one follows it
pub along_follows : (xs : List Change) (v : Raid) (P : Raid → Type 0) → AreKeeping xs v → Along xs v P → (u : Raid) × Follows v u × Follows u (by xs v) × P u
along_follows [] v P keeping at = (v, follows_same v, follows_same v, at)
along_follows (x ∷ xs) v P keeping (inl here) = (v, follows_same v, follows_by (x ∷ xs) v keeping, here)
along_follows (x ∷ xs) v P keeping (inr later) =
    let at = along_follows xs (changed x v) P keeping.1 later in
    (at.0, follows_then v (changed x v) at.0 (follows_change x v keeping.0) at.1, at.2, at.3)
