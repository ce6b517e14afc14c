-- Contents that show a book go by their own slices; a run that stands, as calls of an array see it.
use Rattle.std.proofs.Common.{◌≡◌, ℕ, ◌<◌, Bool, true, Some, sym, subst, ap, ◌∙◌, ◌&&◌, not, ◌||◌}
use Rattle.rack.specs.Values.{Values}
use Rattle.rack.specs.Seen.{Image, RackView}
use Rattle.rack.specs.Moments.{Leaves}
use Rattle.md_super.specs.declared.superblock.Super.{Super}
use Rattle.pool_state.specs.declared.contents.State.{State}
use Rattle.array_image.specs.Arrays.{Shape, replayed}
use Rattle.array_image.specs.Left.{IsLeft, Picks}
use Rattle.array_image.specs.Places.{log_slice}
use Rattle.array_image.specs.States.{state_in}
use Rattle.array_image.specs.Supers.{truth_in}
use Rattle.array_image.proofs.Frames.{Agree, supers_same, truth_by_supers}
use Rattle.log_laws.proofs.HeldCopies.{kept_says}
use Rattle.log_laws.proofs.Kept.{kept_replayed, stands_of}
use Rattle.array_model.specs.Says.{ShapeInvariant, ImageShowsArray}
use Rattle.array_model.specs.View.{may_vary, shape_of, View}
use Rattle.transition_laws.specs.Holds.{has_sector, HoldsBook, HoldsMembers, Promise, RestsArray, rows_for, ShowsArray, Stands, spent_at}
use Rattle.raid_laws.specs.Raid.{gone_in, Raid}
use Rattle.raid_laws.proofs.Own.{says_same}

-- by arrays that have the same sectors the same ones are spent
pub spent_other : (p : Promise) (n : ℕ) (u w : View) → ((y : ℕ) → has_sector u y ≡ has_sector w y) → (y : ℕ) → spent_at p n u y ≡ spent_at p n w y
spent_other p n u w sectors y = ap (λ has. (p.growing && not has) || p.spent n y) (sectors y)

pub spent_same : (p : Promise) (n : ℕ) (u w : View) → ((y : ℕ) → has_sector u y ≡ has_sector w y) → spent_at p n u ≡ spent_at p n w
spent_same p n u w sectors = λ i y. spent_other p n u w sectors y i

-- contents with the same slices of the array show it too
pub shows_same : (s : State) (u : View) (p : Promise) (n : ℕ) (vals : ℕ → Values) (c e : Image) → Agree n c e → ShowsArray s u p n vals e → ShowsArray s u p n vals c
shows_same s u p n vals c e agree shows =
    let truth : (t : Super) → truth_in s c n ≡ Some t → truth_in s e n ≡ Some t =
    λ t is. sym (truth_by_supers s c e n (supers_same s c e n agree)) ∙ is in
    record {
      says = says_same s n (shape_of u) vals (spent_at p n u) c e agree shows.says;
      rows = λ old is_kept t is. shows.rows old is_kept t (truth t is);
      lacks = λ old wanted some t is. shows.lacks old wanted some t (truth t is);
    }

pub rests_same : (s : State) (u : View) (p : Promise) (n : ℕ) (vals : ℕ → Values) (c e : Image) → Agree n c e → u.number ≡ n
    → RestsArray s u p n vals e → RestsArray s u p n vals c
rests_same s u p n vals c e agree number rests =
    let truth : (t : Super) → truth_in s c n ≡ Some t → truth_in s e n ≡ Some t =
    λ t is. sym (truth_by_supers s c e n (supers_same s c e n agree)) ∙ is in
    record {
      shows = shows_same s u p n vals c e agree rests.shows;
      truth = λ t is. rests.truth t (truth t is);
      mark = λ marked t is. rests.mark marked t (truth t is);
      alone = λ place current other.
          supers_same s c e u.number (subst (λ k. Agree k c e) (sym number) agree) place ∙ rests.alone place current other;
    }

-- what a stop now leaves has the book's state
pub stands_state : (d v : Raid) (p : Promise) (vals : ℕ → ℕ → Values) (x : RackView) → Stands d v p vals x → (c : Image) → Picks x c
    → state_in (replayed x.sectors c) ≡ Some d.state
stands_state d v p vals x stands c picks =
    kept_replayed d.state v.number (gone_in v) x c stands.someone.0 stands.log (stands_of c picks) stands.someone.1 stands.someone.2

-- and holds the book
pub stands_book : (d v : Raid) (p : Promise) (vals : ℕ → ℕ → Values) (x : RackView) → Stands d v p vals x → (c : Image) → Picks x c → HoldsBook d p vals x.sectors c
stands_book d v p vals x stands c picks = record {
  log = kept_says d.state v.number (gone_in v) x c stands.someone.0 stands.log stands.copies stands.someone.1 stands.someone.2 (stands_of c picks);
  since = λ q few there. stands.since q (c (log_slice q) 0) few there (picks.picks (log_slice q) 0 (stands.log.logs q 0 few there));
  arrays = λ n live low. (stands.images c picks n live low).shows;
}

-- ---- members with what images say

pub shape_with : (s : State) (n : ℕ) (durable noted : Shape) (resync : ℕ) (vary : Bool) (vals : ℕ → Values) (spent : ℕ → Bool) (x : RackView)
    → HoldsMembers n durable noted resync vary vals spent x → ((r : Image) → IsLeft x r → ImageShowsArray s n durable vals spent r) → ShapeInvariant s n durable noted resync vary vals spent x
shape_with s n durable noted resync vary vals spent x members says = record {
  open_slices = members.open_slices;
  open_left = members.open_left;
  says = says;
  still = members.still;
  within = members.within;
  current = members.current;
  sized = members.sized;
  even = members.even;
  settled = members.settled;
}

pub members_of : (s : State) (n : ℕ) (durable noted : Shape) (resync : ℕ) (vary : Bool) (vals : ℕ → Values) (spent : ℕ → Bool) (x : RackView)
    → ShapeInvariant s n durable noted resync vary vals spent x → HoldsMembers n durable noted resync vary vals spent x
members_of s n durable noted resync vary vals spent x holds = record {
  open_slices = holds.open_slices;
  open_left = holds.open_left;
  still = holds.still;
  within = holds.within;
  current = holds.current;
  sized = holds.sized;
  even = holds.even;
  settled = holds.settled;
}

-- what images say of the array of a run
pub stands_says : (d v : Raid) (p : Promise) (vals : ℕ → ℕ → Values) (x : RackView) → Stands d v p vals x → (n : ℕ) → p.live n ≡ true → n < d.state.made → (r : Image) → IsLeft x r
    → ImageShowsArray d.state n (shape_of (d.arrays n)) (vals n) (spent_at p n (d.arrays n)) r
stands_says d v p vals x stands n live low r left =
    says_same d.state n (shape_of (d.arrays n)) (vals n) (spent_at p n (d.arrays n)) r (replayed x.sectors left.0) (λ place t. left.2 _ t) (stands.images left.0 left.1 n live low).shows.says

pub stands_shape : (d v : Raid) (p : Promise) (vals : ℕ → ℕ → Values) (x : RackView) → Stands d v p vals x → (n : ℕ) → p.live n ≡ true → n < d.state.made
    → ShapeInvariant d.state n (shape_of (d.arrays n)) (shape_of (v.arrays n)) (rows_for p (v.arrays n)) (may_vary (v.arrays n)) (vals n) (spent_at p n (d.arrays n)) x
stands_shape d v p vals x stands n live low =
    shape_with d.state n (shape_of (d.arrays n)) (shape_of (v.arrays n)) (rows_for p (v.arrays n)) (may_vary (v.arrays n)) (vals n) (spent_at p n (d.arrays n)) x
    (stands.arrays n live low).members (stands_says d v p vals x stands n live low)

-- ---- moments

-- what is said of each stop is said together
pub leaves_both : {a b : RackView} (P Q : Image → Type 0) → Leaves a b P → Leaves a b Q → Leaves a b (λ c. P c × Q c)
leaves_both P Q one two = record {
  later = one.later;
  kept = one.kept;
  past = one.past;
  new = λ k c after until left. (one.new k c after until left, two.new k c after until left);
}
