-- A step of one array as a change of the book, with the losses of its call and the mending after it.
use Rattle.std.proofs.Common.{◌≡◌, ℕ, ◌<◌, ◌≤◌, Bool, true, false, not, if◌then◌else◌, [], refl, sym, ap, subst, ◌∙◌, inl, inr, eq-eqb, ne_eqb, arith}
use Rattle.std.proofs.lemmas.Bool.{and_parts, both_ways, cases_Bool, cases_eq}
use Rattle.rack.specs.Seen.{Rose, RackView, SameRack}
use Rattle.rack.specs.Values.{Values}
use Rattle.array_image.specs.States.{is_current}
use Rattle.array_model.specs.View.{View, is_whole_array, sectors_of}
use Rattle.array_model.specs.Members.{Notes}
use Rattle.sync_laws.specs.Steps.{Stepped, as_it_was, done, if_done}
use Rattle.raid_laws.specs.Book.{after_same}
use Rattle.raid_laws.specs.Moves.{AreCaused, IsHeeded, IsSeated, IsSet, Mends}
use Rattle.raid_laws.specs.Raid.{Raid, gone_in, is_left}
use Rattle.raid_laws.proofs.Changed.{called, caused, further, keeps_arrays, left_before, views_set}
use Rattle.raid_laws.proofs.Moving.{caused_then}
use Rattle.raid_laws.proofs.Views.{MayRestate, NotesOne, views_notes}
use Rattle.raid_laws.proofs.Whole.{heeded_left, heeded_whole}
use Rattle.growth_laws.specs.Losses.{LosesBook}
use Rattle.transition_laws.specs.Changes.{Change, changed, steps}
use Rattle.transition_laws.specs.Reshaping.{FitsReshape}
use Rattle.transition_laws.proofs.LossesMade.{no_losses}
use Rattle.transition_laws.proofs.RunsOf.{run_of_itself}
use Rattle.growth_laws.specs.Growing.{GetsLonger, GrowsBy, MakesReshape, MakesTurn}
use Rattle.growth_laws.proofs.Losing.{as_long, loses_as_long, loses_book_then, loses_nothing, longer_then, mends_lose, moves_caused}

-- ---- the book once a step is done

pub stepped_own : (v : Raid) (m : ℕ) (next : View) → (changed (steps m next) v).arrays m ≡ next
stepped_own v m next = ap (λ (b : Bool). if b then next else v.arrays m) (eq-eqb m m refl)

pub stepped_other : (v : Raid) (m : ℕ) (next : View) (n : ℕ) → (n ≡ m → ⊥) → (changed (steps m next) v).arrays n ≡ v.arrays n
stepped_other v m next n other = ap (λ (b : Bool). if b then next else v.arrays n) (ne_eqb n m other)

-- what holds of the array that the step makes, and of each other one
pub by_array : (X : ℕ → View → Type 0) (v : Raid) (m : ℕ) (next : View) (n : ℕ) → X m next → ((n ≡ m → ⊥) → X n (v.arrays n)) → X n ((changed (steps m next) v).arrays n)
by_array X v m next n own other = elim (cases_eq n m) [
  | inl same ↦ subst (λ k. X k ((changed (steps m next) v).arrays k)) (sym same) (subst (X m) (sym (stepped_own v m next)) own)
  | inr apart ↦ subst (X n) (sym (stepped_other v m next n apart)) (other apart)
]

-- Array m may become this one: it is one of the pool as well, nobody went in it who isn't heeded, and it isn't marked or it is whole.
pub record MayBecome (v : Raid) (m : ℕ) (next : View) (a : RackView) : Type 0 where
  pub low : m < v.state.made
  pub seated : IsSeated v.state m next a
  pub went : next.went ≡ []
  pub whole : next.marked ≡ true → is_whole_array next ≡ true

pub stepped_heeded : (v : Raid) (m : ℕ) (next : View) → IsHeeded v → next.went ≡ [] → IsHeeded (changed (steps m next) v)
stepped_heeded v m next heeded went n low = by_array (λ k u. u.went ≡ []) v m next n went (λ other. heeded n low)

pub stepped_set : (v : Raid) (m : ℕ) (next : View) (a : RackView) → IsSet v a → IsHeeded v → MayBecome v m next a → IsSet (changed (steps m next) v) a
stepped_set v m next a set heeded may =
    let w : Raid = changed (steps m next) v in
    record {
      fit = set.fit;
      lasting = set.lasting;
      disks = set.disks;
      few = set.few;
      most = set.most;
      valid = set.valid;
      logs = λ place left. set.logs place (heeded_left v place heeded (and_parts (is_current v.state place) (not (gone_in w place)) left).0);
      arrays = λ n low. by_array (λ k u. IsSeated v.state k u a) v m next n may.seated (λ other. set.arrays n low);
      marked = λ n low marked.
          inl (by_array (λ k u. u.marked ≡ true → is_whole_array u ≡ true) v m next n may.whole (λ other. heeded_whole v n heeded (set.marked n low)) marked);
    }

-- ---- a call of one array

-- What a call makes of the book that loses whom it met, and nothing else.
pub record LosesIn (v w : Raid) (a b : RackView) : Type 0 where
  pub set : IsSet w b
  pub book : LosesBook v w
  pub caused : AreCaused v w a b

-- whoever went in a call of array m is noted in it
pub notes_views : (v : Raid) (f : ℕ → View) (m : ℕ) (a b : RackView) → IsSet v a → m < v.state.made → SameRack a b
    → ((n : ℕ) → (n ≡ m → ⊥) → f n ≡ v.arrays n) → Notes (v.arrays m) (f m) a b → NotesOne v f m a b
notes_views v f m a b set low stays others notes =
    let u = v.arrays m in
    let pool = (set.arrays m low).is_of_pool in
    let may : MayRestate u u.truth.events u.truth.resync_offset = record {
      later = omega arith;
      some = pool.events;
      few = pool.events_end;
      whole = λ is. is;
      unsynced = pool.unsynced;
      synced = λ young part rows. rows;
    } in
    views_notes v f m a b u.truth.events u.truth.resync_offset u.marked set low stays others may (λ marked. inl marked) notes

pub notes_lose : (v : Raid) (f : ℕ → View) (m number : ℕ) (a b : RackView) → IsSet v a → m < v.state.made → SameRack a b → v.number ≤ number
    → ((n : ℕ) → (n ≡ m → ⊥) → f n ≡ v.arrays n) → Notes (v.arrays m) (f m) a b → LosesIn v (called v f number) a b
notes_lose v f m number a b set low stays later others notes =
    let one = notes_views v f m a b set low stays others notes in
    record {
      set = views_set v f m a b set one.views number;
      book = record {
        marks = after_same v.state;
        plan = refl;
        arrays = keeps_arrays v f m a b set one.views one.loses;
        number = later;
        events = (further v f m a b set one.views number later).events;
      };
      caused = record { left = left_before v f m a b set one.views; cause = caused v f m a b set one.views };
    }

-- A call of array m, which makes `next` of it or leaves it as it was; places that went are noted.
pub record CallsOne (v : Raid) (f : ℕ → View) (m number : ℕ) (next : View) (a b : RackView) (is_done : Bool) : Type 0 where
  pub set : IsSet v a
  pub heeded : IsHeeded v
  pub may : MayBecome v m next a
  pub others : (n : ℕ) → (n ≡ m → ⊥) → f n ≡ v.arrays n
  pub stays : SameRack a b
  pub later : v.number ≤ number
  pub view : Stepped (v.arrays m) next (f m) a b is_done

-- losses are caused by the calls where nobody had gone before them who wasn't heeded, whatever step was done
pub caused_stepped : (v w : Raid) (m : ℕ) (next : View) (a b : RackView) → IsHeeded v → next.went ≡ [] → AreCaused (changed (steps m next) v) w a b → AreCaused v w a b
caused_stepped v w m next a b heeded went are =
    let u : Raid = changed (steps m next) v in
    let current_of : (z : Raid) (p : ℕ) → is_left z p ≡ true → is_current z.state p ≡ true =
    λ z p left. (and_parts (is_current z.state p) (not (gone_in z p)) left).0 in
    record {
      left = λ p is. heeded_left v p heeded (current_of u p (are.left p is));
      cause = λ p was gone. are.cause p (heeded_left u p (stepped_heeded v m next heeded went) (current_of v p was)) gone;
    }

-- A STEP OF AN ARRAY CHANGES THE BOOK, AND THE CALL LOSES WHOM IT MET
pub record CallsTo (v w : Raid) (m : ℕ) (next : View) (a b : RackView) (is_done : Bool) : Type 0 where
  pub set : IsSet w b
  pub book : LosesBook (if_done is_done v (changed (steps m next) v)) w
  pub caused : AreCaused v w a b

pub calls_to : (v : Raid) (f : ℕ → View) (m number : ℕ) (next : View) (a b : RackView) (is_done : Bool) → CallsOne v f m number next a b is_done
    → CallsTo v (called v f number) m next a b is_done
calls_to v f m number next a b is_done call = by is_done call.view
  where
    by : (d : Bool) → Stepped (v.arrays m) next (f m) a b d → CallsTo v (called v f number) m next a b d
    by false (as_it_was notes) =
        let one = notes_lose v f m number a b call.set call.may.low call.stays call.later call.others notes in
        record { set = one.set; book = one.book; caused = one.caused }
    by true (done notes) =
        let u : Raid = changed (steps m next) v in
        let one =
        notes_lose u f m number a b (stepped_set v m next a call.set call.heeded call.may) call.may.low call.stays call.later
        (λ n other. call.others n other ∙ sym (stepped_other v m next n other))
        (subst (λ (z : View). Notes z (f m) a b) (sym (stepped_own v m next)) notes) in
        record { set = one.set; book = one.book; caused = caused_stepped v (called u f number) m next a b call.heeded call.may.went one.caused }

-- ---- a work of a growth

-- an array that is as long as it was
pub step_as_long : (v : Raid) (m : ℕ) (next : View) → sectors_of next ≡ sectors_of (v.arrays m) → GetsLonger v (changed (steps m next) v)
step_as_long v m next same =
    as_long v (changed (steps m next) v) refl (λ n low. by_array (λ k u. sectors_of u ≡ sectors_of (v.arrays k)) v m next n same (λ other. refl))

if_longer : (v w : Raid) (is_done : Bool) → GetsLonger v w → GetsLonger v (if_done is_done v w)
if_longer v w false longer = as_long v v refl (λ n low. refl)
if_longer v w true longer = longer

-- no disk's faults fall
abbrev pub FaultsRise : RackView → RackView → Type 0
FaultsRise a b = (d : ℕ) → a.faults d ≤ b.faults d

-- losses in a row are caused, whatever slices the disks have meanwhile
pub caused_rising : (v w z : Raid) (a b c : RackView) → FaultsRise a b → FaultsRise b c → AreCaused v w a b → AreCaused w z b c → AreCaused v z a c
caused_rising v w z a b c first second one two = record {
  left = λ place is. one.left place (two.left place is);
  cause = λ place was gone. elim (cases_Bool (is_left w place)) [
    | inl mid ↦ let fault = two.cause place mid gone in (fault.0, fault.1, rose_after (a.faults fault.0) (b.faults fault.0) (c.faults fault.0) (first fault.0) fault.2)
    | inr early ↦ let fault = one.cause place was early in (fault.0, fault.1, rose_before (a.faults fault.0) (b.faults fault.0) (c.faults fault.0) (second fault.0) fault.2)
  ];
}
  where
    rose_after : (x y n : ℕ) → x ≤ y → Rose y n → Rose x n
    rose_after x y n up (inl rose) = inl (omega (arith, up, rose))
    rose_after x y n up (inr most) = inr most

    rose_before : (x y n : ℕ) → y ≤ n → Rose x y → Rose x n
    rose_before x y n up (inl rose) = inl (omega (arith, up, rose))
    rose_before x y n up (inr most) = inr (omega (arith, up, most))

-- the call, and the mending after it
pub grows_one : (change : Raid → Change) (Lacks : Raid → Raid → Type 0) (v u w : Raid) (m : ℕ) (next : View) (a b c : RackView) (is_done answered : Bool)
    → change v ≡ steps m next → SameRack a b → CallsTo v u m next a b is_done → (answered ≡ true → is_done ≡ true) → Mends u w b c
    → GetsLonger v (changed (steps m next) v) → (answered ≡ false → Lacks v w) → GrowsBy change Lacks v w a c answered
grows_one change Lacks v u w m next a b c is_done answered change_is stays call answer mends longer refused =
    let after = loses_book_then (if_done is_done v (changed (steps m next) v)) u w call.book (mends_lose u w b c mends) in
    record {
      turns = record {
        mid = v;
        before = loses_nothing v;
        is_done = is_done;
        answer = answer;
        after = subst (λ (k : Change). LosesBook (if_done is_done v (changed k v)) w) (sym change_is) after;
        refused = refused;
      };
      caused = caused_then v u w a b c stays mends.moves.stays call.caused (moves_caused u w b c mends.moves);
      heeded = mends.heeded;
      longer = longer_then v (if_done is_done v (changed (steps m next) v)) w (if_longer v (changed (steps m next) v) is_done longer)
          (loses_as_long (if_done is_done v (changed (steps m next) v)) w after);
    }

-- so it is with what contents hold in it
pub reshapes_one : (change : Raid → Change) (Lacks : Raid → Raid → Type 0) (v u w : Raid) (m : ℕ) (next : View) (a b c : RackView) (is_done answered : Bool)
    → change v ≡ steps m next → SameRack a b → CallsTo v u m next a b is_done → (answered ≡ true → is_done ≡ true) → Mends u w b c
    → GetsLonger v (changed (steps m next) v) → (answered ≡ false → Lacks v w) → MakesTurn (steps m next) is_done (FitsReshape v m) v w a c
    → MakesReshape change Lacks m v w a c answered
unfolding grows_one
reshapes_one change Lacks v u w m next a b c is_done answered change_is stays call answer mends longer refused turn = record {
  grows = grows_one change Lacks v u w m next a b c is_done answered change_is stays call answer mends longer refused;
  contents = subst (λ (k : Change). MakesTurn k is_done (FitsReshape v m) v w a c) (sym change_is) turn;
}

-- losses before it, with whatever it is refused for by the book after them
pub grows_behind : (change : Raid → Change) (Lacks More : Raid → Raid → Type 0) (v u w : Raid) (a b c : RackView) (answered : Bool) → FaultsRise a b → FaultsRise b c → LosesBook v u
    → AreCaused v u a b → ((mid z : Raid) → Lacks mid z → More mid z) → GrowsBy change Lacks u w b c answered → GrowsBy change More v w a c answered
grows_behind change Lacks More v u w a b c answered first second loses caused more grows = record {
  turns = record {
    mid = grows.turns.mid;
    before = loses_book_then v u grows.turns.mid loses grows.turns.before;
    is_done = grows.turns.is_done;
    answer = grows.turns.answer;
    after = grows.turns.after;
    refused = λ no. more grows.turns.mid w (grows.turns.refused no);
  };
  caused = caused_rising v u w a b c first second caused grows.caused;
  heeded = grows.heeded;
  longer = longer_then v u w (loses_as_long v u loses) grows.longer;
}

-- it isn't begun
pub grows_nothing : (change : Raid → Change) (Lacks : Raid → Raid → Type 0) (v w : Raid) (a b : RackView) → LosesBook v w → AreCaused v w a b → IsHeeded w → Lacks w w
    → GrowsBy change Lacks v w a b false
grows_nothing change Lacks v w a b loses caused heeded refused = record {
  turns = record {
    mid = w;
    before = loses;
    is_done = false;
    answer = λ is. is;
    after = loses_nothing w;
    refused = λ no. refused;
  };
  caused = caused;
  heeded = heeded;
  longer = loses_as_long v w loses;
}

-- nothing is lost where nothing is called
pub caused_nothing : (v : Raid) (a b : RackView) → AreCaused v v a b
caused_nothing v a b = record { left = λ p is. is; cause = λ p was now. absurd (both_ways (is_left v p) now was) }

-- what is said of it goes by the faults of disks alone, whatever slices they have
pub grows_over : (change : Raid → Change) (Lacks More : Raid → Raid → Type 0) (v w : Raid) (a b x y : RackView) (answered : Bool) → ((d : ℕ) → x.faults d ≡ a.faults d)
    → ((d : ℕ) → y.faults d ≡ b.faults d) → ((mid z : Raid) → Lacks mid z → More mid z) → GrowsBy change Lacks v w a b answered → GrowsBy change More v w x y answered
grows_over change Lacks More v w a b x y answered before after more grows = record {
  turns = record {
    mid = grows.turns.mid;
    before = grows.turns.before;
    is_done = grows.turns.is_done;
    answer = grows.turns.answer;
    after = grows.turns.after;
    refused = λ no. more grows.turns.mid w (grows.turns.refused no);
  };
  caused = record {
    left = grows.caused.left;
    cause = λ p was now.
        let fault = grows.caused.cause p was now in (
          fault.0,
          fault.1,
          subst (λ k. Rose k (y.faults fault.0)) (sym (before fault.0)) (subst (Rose (a.faults fault.0)) (sym (after fault.0)) fault.2),
        );
  };
  heeded = grows.heeded;
  longer = grows.longer;
}

-- ---- a step of a reshape that isn't begun, and what contents hold meanwhile

-- where nothing is called no change is made
turns_nothing : (change : Change) (Fits : (ℕ → ℕ → Values) → Type 0) (v : Raid) (x : RackView) → IsSet v x → MakesTurn change false Fits v v x x
turns_nothing change Fits v x set =
    let none = no_losses v v x set.fit (run_of_itself v x set) in
    record { before = []; after = none.changes; losses_before = tt; losses_after = none.losses; makes = λ vals fits. none.makes vals }

pub reshapes_nothing : (change : Raid → Change) (Lacks : Raid → Raid → Type 0) (n : ℕ) (v : Raid) (x : RackView) → IsSet v x → IsHeeded v → Lacks v v
    → MakesReshape change Lacks n v v x x false
unfolding grows_nothing
reshapes_nothing change Lacks n v x set heeded refused = record {
  grows = grows_nothing change Lacks v v x x (loses_nothing v) (caused_nothing v x x) heeded refused;
  contents = turns_nothing (change v) (FitsReshape v n) v x set;
}

-- it is refused for less
pub reshapes_more : (change : Raid → Change) (Lacks More : Raid → Raid → Type 0) (n : ℕ) (v w : Raid) (a b : RackView) (answered : Bool) → ((mid z : Raid) → Lacks mid z → More mid z)
    → MakesReshape change Lacks n v w a b answered → MakesReshape change More n v w a b answered
unfolding grows_over
reshapes_more change Lacks More n v w a b answered more makes = record {
  grows = grows_over change Lacks More v w a b a b answered (λ d. refl) (λ d. refl) more makes.grows;
  contents = makes.contents;
}
