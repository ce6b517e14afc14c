-- The plan's end: what shows a book shows it without its plan.
use Rattle.std.proofs.Common.{◌≡◌, ℕ, ◌<◌, true, false, List, Some, None, refl, sym, ap, subst, ◌∙◌, inl, arith}
use Rattle.rack.specs.Values.{Values}
use Rattle.rack.specs.Seen.{Image, RackView}
use Rattle.rack.specs.Targets.{look, put, Target}
use Rattle.md_super.specs.declared.superblock.Super.{Super}
use Rattle.pool_state.specs.declared.contents.State.{State}
use Rattle.array_image.specs.Arrays.{replayed, shape_by, shape_in}
use Rattle.array_image.specs.Left.{Picks}
use Rattle.array_image.specs.Places.{member_slice}
use Rattle.array_image.specs.SoundArray.{IsSoundArray}
use Rattle.array_image.specs.States.{current_places, is_current}
use Rattle.array_image.specs.Supers.{super_in, truth_in}
use Rattle.array_image.proofs.Frames.{Agree}
use Rattle.array_image.proofs.Replays.{replayed_as_is}
use Rattle.log_laws.proofs.Kept.{kept_idle, put_none}
use Rattle.array_model.proofs.Keeping.{logs_of}
use Rattle.array_model.specs.View.{View}
use Rattle.raid_laws.specs.Works.{closed as closed_state}
use Rattle.transition_laws.specs.Changes.{closed}
use Rattle.transition_laws.specs.Holds.{Promise, RestsArray, Stands}
use Rattle.raid_laws.specs.Raid.{gone_in, Raid}
use Rattle.transition_laws.specs.Stages.{Stages}
use Rattle.raid_laws.proofs.Own.{look_nothing}
use Rattle.transition_laws.proofs.Shown.{rests_same}

-- ---- nothing goes by the plan

truth_closed : (s : State) (r : Image) (n : ℕ) → truth_in (closed_state s) r n ≡ truth_in s r n
unfolding truth_in current_places
truth_closed s r n = refl

shape_closed : (s : State) (r : Image) (n : ℕ) → shape_in (closed_state s) r n ≡ shape_in s r n
unfolding truth_in current_places shape_by
shape_closed s r n = refl

super_closed : (s : State) (r : Image) (n p : ℕ) → super_in (closed_state s) r n p ≡ super_in s r n p
super_closed s r n p = refl

sound_closed : (s : State) (r : Image) (n : ℕ) (u : Super) → IsSoundArray s r n u → IsSoundArray (closed_state s) r n u
sound_closed s r n u sound = record {
  two = sound.two;
  written = sound.written;
  same = sound.same;
  rebuilt = sound.rebuilt;
  even = λ joined shape is. sound.even joined shape (sym (shape_closed s r n) ∙ is);
}

rests_closed : (s : State) (u : View) (p : Promise) (n : ℕ) (vals : ℕ → Values) (r : Image) → RestsArray s u p n vals r → RestsArray (closed_state s) u p n vals r
rests_closed s u p n vals r shows =
    let was : (t : Super) → truth_in (closed_state s) r n ≡ Some t → truth_in s r n ≡ Some t = λ t is. sym (truth_closed s r n) ∙ is in
    record {
      shows = record {
        rows = λ old kept t is. shows.shows.rows old kept t (was t is);
        lacks = λ old wanted some t is. shows.shows.lacks old wanted some t (was t is);
        says = record {
          shape_is = shape_closed s r n ∙ shows.shows.says.shape_is;
          value = shows.shows.says.value;
          is_sound = λ t is. sound_closed s r n t (shows.shows.says.is_sound t (was t is));
        };
      };
      truth = λ t is. shows.truth t (was t is);
      mark = λ marked t is. shows.mark marked t (was t is);
      alone = λ place current other. super_closed s r u.number place ∙ shows.alone place current other;
    }

-- ---- where nobody has gone, and the targets are copies alone

-- contents with targets that have nothing of an array agree with them replayed
pub idle_agrees : (d v : Raid) (p : Promise) (vals : ℕ → ℕ → Values) (xs : List Target) (a : RackView) (n : ℕ) (c : Image) → Stands d v p vals a
    → ((q : ℕ) → is_current d.state q ≡ true → gone_in v q ≡ false) → ((place u : ℕ) → look xs (member_slice place n) u ≡ None) → Picks a c
    → Agree n (put a.sectors xs c) (replayed a.sectors c)
idle_agrees d v p vals xs a n c stands none others picks place u =
    put_none a.sectors xs c (member_slice place n) u (others place u)
    ∙ sym (replayed_as_is a.sectors c (member_slice place n) u
    (ap (λ (ts : List Target). look ts (member_slice place n) u) (kept_idle d.state v.number (gone_in v) a c stands.log (logs_of c picks) none) ∙ look_nothing (member_slice place n) u))

pub stages_closed : (d v w : Raid) (vals : ℕ → ℕ → Values) (xs : List Target) (a b : RackView) → ((q : ℕ) → is_current d.state q ≡ true → gone_in v q ≡ false)
    → ((n place u : ℕ) → n < 16 → look xs (member_slice place n) u ≡ None) → (p : Promise) → Stages closed d v w p vals xs a b
stages_closed d v w vals xs a b none others p = record {
  new = λ promised stands n live high low. absurd (omega (arith, high, low));
  old = λ promised stands n live low.
      let at = stands.arrays n live low in
      record {
        shows = λ c picks shows.
            rests_closed d.state (d.arrays n) p n (vals n) (put a.sectors xs c)
            (rests_same d.state (d.arrays n) p n (vals n) (put a.sectors xs c) (replayed a.sectors c)
            (idle_agrees d v p vals xs a n c stands none (λ place u. others n place u at.few) picks) at.book_number shows);
        number = at.book_number;
        shape = inl refl;
        truth = at.truth;
        mark = at.mark;
        roles = at.roles;
        same = λ marked. stands.alike (λ q current. marked q (subst (λ (s : State). is_current s q ≡ true) stands.same current)) n live low;
        disks = at.disks;
        sectors = at.sectors;
      };
}
