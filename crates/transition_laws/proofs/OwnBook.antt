-- Where whoever went is marked, a run that stands by a book stands by the book that has just its arrays: so calls may follow each other.
use Rattle.std.proofs.Common.{◌≡◌, ℕ, ◌<◌, Bool, true, unwrap_or, None, refl, sym, ap, subst, ◌∙◌, arith}
use Rattle.rack.specs.Values.{Values}
use Rattle.rack.specs.Seen.{Image, RackView}
use Rattle.pool_state.specs.declared.contents.State.{State}
use Rattle.array_image.specs.Arrays.{place_with, replayed, Shape}
use Rattle.array_image.specs.Left.{Picks}
use Rattle.array_image.specs.States.{is_current}
use Rattle.array_image.specs.Supers.{super_in}
use Rattle.log_laws.specs.Kept.{LogInvariant}
use Rattle.log_laws.specs.Saying.{HoldsCopies}
use Rattle.array_model.specs.Says.{ImageShowsArray}
use Rattle.array_model.specs.View.{may_vary, shape_of}
use Rattle.array_core.specs.Contents.{lacking_in}
use Rattle.raid_laws.specs.Moves.{AreMarked}
use Rattle.raid_laws.specs.Raid.{AreLive, gone_in, Raid}
use Rattle.transition_laws.specs.Holds.{HoldsMembers, IsSameArrayAs, Promise, RestsArray, spent_at, Stands, StandsArray, rows_for}
use Rattle.transition_laws.proofs.Shown.{spent_same}
use Rattle.transition_laws.proofs.Standing.{earlier_then}

module _ (d v : Raid) (p : Promise) (vals : ℕ → ℕ → Values) (x : RackView) (stands : Stands d v p vals x) (marked : AreMarked v) (n : ℕ) (live : p.live n ≡ true) (low : n < d.state.made) where
  at : StandsArray (d.arrays n) (v.arrays n) n (vals n) p x
  at = stands.arrays n live low

  alike : IsSameArrayAs (d.arrays n) (v.arrays n)
  alike = stands.alike marked n live low

  spent : spent_at p n (d.arrays n) ≡ spent_at p n (v.arrays n)
  spent = sym (spent_same p n (v.arrays n) (d.arrays n) at.sectors)

  rests : (c : Image) → Picks x c → RestsArray d.state (v.arrays n) p n (vals n) (replayed x.sectors c)
  rests c picks =
      let r : Image = replayed x.sectors c in
      let was = stands.images c picks n live low in
      let same = alike.resync in
      record {
        shows = record {
          says = subst (λ (unspent : ℕ → Bool). ImageShowsArray d.state n (shape_of (v.arrays n)) (vals n) unspent r) spent
              (subst (λ (shape : Shape). ImageShowsArray d.state n shape (vals n) (spent_at p n (d.arrays n)) r) (sym alike.shape) was.shows.says);
          rows = λ old kept t is. let rows = was.shows.rows (sym alike.young ∙ old) kept t is in omega (arith, rows, same);
          lacks = λ old wanted some t is.
              let rows = was.shows.lacks (sym alike.young ∙ old) wanted (subst (λ (shape : Shape). 0 < lacking_in shape) alike.shape some) t is in
              omega (arith, rows, same);
        };
        truth = λ t is. earlier_then t (d.arrays n).truth (v.arrays n).truth (was.truth t is) at.truth;
        mark = λ is t truth. was.mark (at.mark is) t truth;
        alone = λ place current other.
            subst (λ k. super_in d.state r k place ≡ None) (at.book_number ∙ sym at.number)
            (was.alone place current
            (λ k inside here. other k (subst (λ m. k < m) (sym at.disks) inside) (ap (λ roles. unwrap_or (place_with roles k) 16) at.roles ∙ here)));
      }

  array : StandsArray (v.arrays n) (v.arrays n) n (vals n) p x
  array = record {
    number = at.number;
    book_number = at.number;
    few = at.few;
    written = at.written;
    members =
        subst (λ (unspent : ℕ → Bool). HoldsMembers n (shape_of (v.arrays n)) (shape_of (v.arrays n)) (rows_for p (v.arrays n)) (may_vary (v.arrays n)) (vals n) unspent x) spent
        (subst (λ (shape : Shape). HoldsMembers n shape (shape_of (v.arrays n)) (rows_for p (v.arrays n)) (may_vary (v.arrays n)) (vals n) (spent_at p n (d.arrays n)) x) (sym alike.shape) at.members);
    single = at.single;
    closed = at.closed;
    truth = record { fields = refl; events = omega arith };
    mark = λ is. is;
    roles = refl;
    disks = refl;
    sectors = λ y. refl;
  }

pub stands_own : (d v : Raid) (p : Promise) (vals : ℕ → ℕ → Values) (x : RackView) → Stands d v p vals x → AreMarked v → Stands v v p vals x
stands_own d v p vals x stands marked =
    let back = sym stands.same in
    let there : (n : ℕ) → n < v.state.made → n < d.state.made = λ n low. subst (λ (s : State). n < s.made) stands.same low in
    record {
      few = subst (λ (s : State). s.joined < 17) back stands.few;
      one = subst (λ (s : State). p.one < s.made) back stands.one;
      log = subst (λ (s : State). LogInvariant s v.number (gone_in v) x) back stands.log;
      someone = (stands.someone.0, subst (λ (s : State). is_current s stands.someone.0 ≡ true) back stands.someone.1, stands.someone.2);
      copies = subst (λ (s : State). HoldsCopies s x) back stands.copies;
      since = stands.since;
      same = refl;
      images = λ c picks n live low.
          subst (λ (s : State). RestsArray s (v.arrays n) p n (vals n) (replayed x.sectors c)) back (rests d v p vals x stands marked n live (there n low) c picks);
      arrays = λ n live low. array d v p vals x stands marked n live (there n low);
      alike = λ are n live low. record { shape = refl; frame = refl; resync = refl; young = refl };
      slices = subst (λ (s : State). AreLive s.made x) back stands.slices;
    }
