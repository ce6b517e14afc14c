-- A young array that is zeroed gets ready: this is all that its commit makes of the book.
use Rattle.std.proofs.Common.{◌≡◌, ℕ, ◌<◌, Bool, true, false, ◌&&◌, not, [], ◌∷◌, None, refl, sym, ap, subst, ◌∙◌, inl, inr, arith}
use Rattle.std.proofs.lemmas.Bool.{both_ways}
use Rattle.rack.specs.Seen.{IsLive, RackView}
use Rattle.rack.specs.Targets.{look, Target}
use Rattle.array_image.specs.Places.{log_slice, member_slice}
use Rattle.array_image.specs.States.{is_current}
use Rattle.array_model.specs.Stages.{AmongTargets}
use Rattle.array_core.specs.Seats.{gone as without}
use Rattle.array_core.specs.Superblocks.{left_offset}
use Rattle.log_laws.specs.View.{names, next_number}
use Rattle.raid_laws.specs.Losses.{AreCopiesOn}
use Rattle.raid_laws.specs.Moves.{IsHeeded, IsSet}
use Rattle.raid_laws.specs.Raid.{gone_in, Raid}
use Rattle.raid_laws.proofs.Added.{names_current}
use Rattle.raid_laws.proofs.Adding.{copies_from, IsCopyFor}
use Rattle.raid_laws.proofs.Brought.{copies_bring, copies_inside, copies_own}
use Rattle.raid_laws.proofs.Committed.{raised_more, raised_range}
use Rattle.raid_laws.proofs.Elements.{look_among, look_lacks}
use Rattle.raid_laws.proofs.Losing.{only_gone}
use Rattle.raid_laws.proofs.Noted.{current_few}
use Rattle.raid_laws.proofs.Own.{look_nothing}
use Rattle.raid_laws.proofs.Whole.{heeded_gone, heeded_left}
use Rattle.transition_laws.specs.Changes.{changed, readied, with_ready}
use Rattle.transition_laws.specs.Losses.{IsRunOf, MakesLosses}
use Rattle.transition_laws.specs.Makes.{Makes}
use Rattle.transition_laws.specs.Readying.{FitsReady}
use Rattle.transition_laws.proofs.Committing.{IsCommitting, run_after}
use Rattle.transition_laws.proofs.ReadyMakes.{IsReadying, readied_again, readied_same, ready_makes, readying, readying_set}
use Rattle.transition_laws.proofs.RunsOf.{run_loses, run_of_itself}
use Rattle.growth_laws.specs.Growing.{AnyValues, MakesTurn}
use Rattle.growth_laws.specs.Stating.{CommitsState}
use Rattle.growth_laws.proofs.Readied.{MayReady, readied_set}
use Rattle.growth_laws.proofs.Turning.{turn_then}

module _ (v w : Raid) (n : ℕ) (b c : RackView) (set : IsSet v b) (heeded : IsHeeded v) (may : MayReady v n) (commit : CommitsState (changed readied v) w [] b c) where
  is_readying : IsReadying v b
  is_readying = record {
    set = set;
    heeded = heeded;
    due = let last = may.last in omega (arith, last);
    last = let last = may.last in omega (arith, last);
    young = may.zeroed.young;
    rows = may.zeroed.rows;
  }

  named : (p : ℕ) → names commit.on p ≡ is_current v.state p
  named p = ap (λ ps. names ps p) commit.on_is ∙ names_current (with_ready v.state) p

  are_copies : AreCopiesOn (with_ready v.state) commit.on commit.log.added
  are_copies = subst (AreCopiesOn (with_ready v.state) commit.on) (sym commit.copies.appended) commit.copies.copies

  target : (y : Target) → AmongTargets y commit.log.added → IsCopyFor (with_ready v.state) commit.on y
  target y among = copies_from (with_ready v.state) commit.on commit.log.added y are_copies among

  -- nothing of an array is in it
  no_member : (k place u : ℕ) → k < 16 → look commit.log.added (member_slice place k) u ≡ None
  no_member k place u few =
      look_lacks commit.log.added (member_slice place k) u
      (λ y among disk sector.
      let on = (target y among).copy.disk in
      absurd (omega (arith, few, disk, on)))

  left : (q : ℕ) → is_current v.state q ≡ (is_current v.state q && not (gone_in v q))
  left q = sym (and_true (is_current v.state q)) ∙ ap (λ (g : Bool). is_current v.state q && not g) (sym (heeded_gone v heeded q))
    where
      and_true : (b : Bool) → (b && true) ≡ b
      and_true true = refl
      and_true false = refl

  same_arrays : (k : ℕ) → (changed readied v).arrays k ≡ (readying v).arrays k
  same_arrays k = sym (ap (λ (u : Raid). u.arrays k) (readied_same v)) ∙ readied_again v k

  committing : IsCommitting readied (readying v) v.number (readying v).arrays commit.on commit.gone commit.log w.arrays b c
  committing = record {
    due = is_readying.due;
    set = readying_set v b is_readying;
    call = commit.call;
    number = commit.number;
    arrays = λ k low. commit.arrays k low ∙ ap (without commit.gone) (same_arrays k);
    fresh = λ k low none. heeded k low;
    current = left;
    on_is = named;
    called = λ q is. sym (named q) ∙ elim (commit.call.gone.called q is) [
      | inl on ↦ on
      | inr any ↦ copies_inside (with_ready v.state) commit.on commit.log.added q are_copies any
    ];
    made = omega arith;
    new = λ k high low. absurd (omega (arith, high, low));
    slices = λ live. live;
    few = λ few. let last = may.last in let most = set.most in omega (arith, last, most);
    epoch = (raised_range v.state.epoch).0;
    later = λ room. raised_more v.state.epoch room;
    last = λ room. let up = (raised_range v.state.epoch).0 in omega (arith, room, up);
    drives = record { pool = refl; ids = λ p on. refl };
    brings = λ room.
        copies_bring (with_ready v.state) v.state commit.on [] commit.log.added commit.copies (raised_more v.state.epoch room) (λ p is. is) named (λ p is. absurd (both_ways false refl is))
        (λ p. look_nothing (log_slice p) 0);
    own = copies_own (with_ready v.state) commit.on [] commit.log.added commit.copies (λ p. look_nothing (log_slice p) 0);
    none = λ d t y is.
        let at = look_among commit.log.added d t y is in
        let disk = (target at.0 at.1).copy.disk in
        let same = at.2 in
        inl (omega (arith, disk, same));
    live = λ slices logs e u y is.
        let at = look_among commit.log.added e u y is in
        let copy = target at.0 at.1 in
        let p = copy.place in
        let current : is_current v.state p ≡ true = sym (named p) ∙ copy.named in
        let size = set.logs p (heeded_left v p heeded current) in
        subst (λ k. IsLive b b k u) (sym copy.copy.disk ∙ at.2)
        (subst (λ k. IsLive b b (log_slice p) k) (sym copy.copy.sector ∙ at.3) (logs p 0 (current_few v.state p set.few current) (omega (arith, size))));
  }

  whole : run_after v (with_ready v.state) (next_number commit.log.number) w.arrays ≡ w
  whole = let state = sym commit.state in let number = sym commit.next in λ i. record { state = state i; arrays = w.arrays; number = number i }

  run : IsRunOf (changed readied v) w
  run =
      let next = readied_set v n b may heeded set in
      run_loses (changed readied v) (changed readied v) w commit.state
      (λ k low. only_gone ((changed readied v).arrays k) (w.arrays k) commit.gone (next.arrays k low).is_array (commit.arrays k low)) (λ k low. ap left_offset (commit.arrays k low))
      (run_of_itself (changed readied v) b next)

  pub ready_turn : (z : Raid) (d : RackView) → ((u : Raid) → IsRunOf u w → MakesLosses u w z c d) → FitsReady v n b → MakesTurn readied true AnyValues v z b d
  ready_turn z d losses fits =
      turn_then readied AnyValues v w z b c d
      (λ vals any.
      subst (λ (u : Raid). Makes (readied ∷ []) v v u vals vals b c) whole
      (ready_makes v b is_readying (subst (λ k. FitsReady v k b) may.youngest fits) commit.on commit.gone commit.log w.arrays c committing no_member vals))
      (losses (changed readied v) run)
