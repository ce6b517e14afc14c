-- Arrays that are tracked stand by the book that has just them, with what they hold.
use Rattle.array_image.specs.Held.{current_in}
use Rattle.array_image.specs.Even.{AreEven}
use Rattle.std.proofs.lemmas.Bool.{both_ways}
use Rattle.std.proofs.Common.{◌≡◌, ℕ, ◌<◌, true, false, Some, refl, sym, ap, subst, ◌∙◌, arith, ◌&&◌, Bool, if◌then◌else◌}
use Rattle.rack.specs.Values.{Values, MayLeave}
use Rattle.rack.specs.Seen.{Image, RackView}
use Rattle.md_super.specs.declared.superblock.Super.{Super}
use Rattle.array_image.specs.Arrays.{replayed, value_by}
use Rattle.array_image.specs.Left.{IsLeft, NothingPending, Picks}
use Rattle.array_image.specs.Supers.{truth_in}
use Rattle.array_model.specs.View.{may_vary, shape_of}
use Rattle.log_laws.proofs.HeldCopies.{kept_holds}
use Rattle.raid_laws.proofs.Noted.{kept_marked}
use Rattle.raid_laws.specs.Laws.{stood_left}
use Rattle.raid_laws.specs.Moves.{AreMarked}
use Rattle.raid_laws.specs.Raid.{gone_in, held_in, InvariantInCall, is_failed, IsTracked, Raid, spent_of}
use Rattle.raid_laws.specs.Rows.{LeavesLacking, LeavesRows}
use Rattle.raid_laws.specs.Since.{HoldsEach}
use Rattle.transition_laws.specs.Holds.{HoldsMembers, IsFrom, Promise, RestsArray, spent_at, Stands, StandsArray, rows_for}
use Rattle.array_image.specs.SoundArray.{first_unsynced}

-- What a promise of such arrays asks for.
pub record IsTrackedFor (v : Raid) (p : Promise) (vals : ℕ → ℕ → Values) (x : RackView) : Type 0 where
  pub marked : AreMarked v
  pub few : (n : ℕ) → p.live n ≡ true → n < v.state.made → n < 16
  pub live : p.live p.one ≡ true
  pub one : p.one < v.state.made
  pub goes : (n : ℕ) → p.live n ≡ true → n < v.state.made → is_failed v n ≡ false
  -- none of which sectors alone are promised is young
  pub grown : (n : ℕ) → p.live n ≡ true → n < v.state.made → (p.growing && (v.arrays n).young) ≡ false
  pub tracked : (n : ℕ) → p.live n ≡ true → n < v.state.made → IsTracked v x n
  -- the values are those that are held, in the sectors of which something is promised
  pub covers : (n y : ℕ) → p.live n ≡ true → n < v.state.made → spent_at p n (v.arrays n) y ≡ false → spent_of v n y ≡ false
  pub values : (n y : ℕ) → p.live n ≡ true → n < v.state.made → spent_at p n (v.arrays n) y ≡ false → vals n y ≡ held_in v x n y
  pub since : HoldsEach (IsFrom p.origin) x
  pub rows : (n : ℕ) → p.live n ≡ true → n < v.state.made → p.kept n ≡ true → LeavesRows v x n
  pub lacks : (n : ℕ) → p.live n ≡ true → n < v.state.made → p.lacks n ≡ true → LeavesLacking v x n

module _ (v : Raid) (p : Promise) (vals : ℕ → ℕ → Values) (x : RackView) (for : IsTrackedFor v p vals x) (n : ℕ) (live : p.live n ≡ true) (low : n < v.state.made) where
  stood : InvariantInCall v.state (shape_of (v.arrays n)) (held_in v x n) (spent_of v n) (λ place. false) v x n
  stood = (for.tracked n live low).stood (for.goes n live low)

  covered : (y : ℕ) → spent_at p n (v.arrays n) y ≡ false → spent_of v n y ≡ false
  covered y alive = for.covers n y live low alive

  same : (y : ℕ) → spent_at p n (v.arrays n) y ≡ false → held_in v x n y ≡ vals n y
  same y alive = sym (for.values n y live low alive)

  rests : (c : Image) → Picks x c → RestsArray v.state (v.arrays n) p n (vals n) (replayed x.sectors c)
  rests c picks =
      let r : Image = replayed x.sectors c in
      let left : IsLeft x r = (c, picks, λ d t. refl) in
      let s = v.state in
      let at = stood_left s (shape_of (v.arrays n)) (held_in v x n) (spent_of v n) (λ place. false) v x n c stood picks in
      let own_truth : (u : Super) → truth_in s r n ≡ Some u → truth_in s r (v.arrays n).number ≡ Some u = λ u is. subst (λ k. truth_in s r k ≡ Some u) (sym stood.number) is in
      record {
        shows = record {
          says = record {
            shape_is = at.1.shape_is;
            value = λ y alive. subst (λ (z : Values). MayLeave z (value_by (shape_of (v.arrays n)) r n y)) (same y alive) (at.1.value y (covered y alive));
            is_sound = at.1.is_sound;
          };
          rows = λ old is u truth. (for.rows n live low is).images r left s u at.0 truth;
          lacks = λ old is lacking u truth. (for.lacks n live low is).images r left s (shape_of (v.arrays n)) u at.0 at.1.shape_is lacking truth;
        };
        truth = λ u is. stood.holds.truth r left u (own_truth u is);
        mark = λ marked u is. stood.holds.mark marked r left u (own_truth u is);
        alone = λ place current other. stood.holds.alone r left place current other;
      }

  array : StandsArray (v.arrays n) (v.arrays n) n (vals n) p x
  array = record {
    number = stood.number;
    book_number = stood.number;
    few = for.few n live low;
    written = stood.written;
    single = λ young. absurd (both_ways (p.growing && (v.arrays n).young) (for.grown n live low) young);
    members = subst (λ k. HoldsMembers k (shape_of (v.arrays n)) (shape_of (v.arrays n)) (rows_for p (v.arrays n)) (may_vary (v.arrays n)) (vals n) (spent_at p n (v.arrays n)) x) stood.number (
        let held = stood.holds.shape in record {
          open_slices = held.open_slices;
          open_left = held.open_left;
          still = held.still;
          within = λ y alive u may source. subst (λ (z : Values). MayLeave z u) (same y alive) (held.within y (covered y alive) u may source);
          current = λ y alive. held.current y (covered y alive) ∙ ap (λ (z : Values). z.current) (same y alive);
          sized = held.sized;
          even = subst (λ rows. AreEven (shape_of (v.arrays n)) (v.arrays n).number rows (current_in x.held))
              (sym (ap (λ (b : Bool). if b then first_unsynced (v.arrays n).truth else (v.arrays n).resync) (for.grown n live low))) held.even;
          settled = held.settled;
        });
    closed = λ none. subst (λ k. NothingPending k x) stood.number (stood.holds.closed none);
    truth = record { fields = refl; events = omega arith };
    mark = λ is. is;
    roles = refl;
    disks = refl;
    sectors = λ y. refl;
  }

pub tracked_stands : (v : Raid) (p : Promise) (vals : ℕ → ℕ → Values) (x : RackView) → IsTrackedFor v p vals x → Stands v v p vals x
tracked_stands v p vals x for =
    let first = stood v p vals x for p.one for.live for.one in
    record {
      few = first.few;
      one = for.one;
      log = kept_marked v.state v.number (λ q. false) (gone_in v) x (λ q current. refl) first.log;
      someone = (first.someone.0, first.someone.1, for.marked first.someone.0 first.someone.1);
      copies = kept_holds v.state v.number x first.log;
      since = for.since;
      same = refl;
      images = λ c picks n live low. rests v p vals x for n live low c picks;
      arrays = λ n live low. array v p vals x for n live low;
      alike = λ marked n live low. record { shape = refl; frame = refl; resync = refl; young = refl };
      slices = (for.tracked p.one for.live for.one).slices (for.goes p.one for.live for.one);
    }
