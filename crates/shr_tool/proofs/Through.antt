-- A pool holds a reference to its bay: what is done through it is done to the bay.
use Rattle.std.specs.Option.{option_map_or}
use Rattle.std.proofs.Common.{◌≡◌, ◌⊎◌, ◌↔◌, ◌&&◌, is_some, ℕ, ◌<◌, Bool, List, [], ◌∷◌, Option, Some, None, option_map, refl, sym, subst, ◌∙◌, ap, ap₂, inl, inr, arith}
use Rattle.std.proofs.lemmas.Option.{none-some}
use Rattle.rack.specs.Seen.{Image, RackView, Rose, SameRack}
use Rattle.rack.specs.Shelf.{Shelf}
use Rattle.rack.specs.Values.{Values, MayLeave, Keeps, only}
use Rattle.rack.specs.Joins.{leaves_weaker}
use Rattle.rack.specs.Moments.{Leaves}
use Rattle.rack.specs.Sequences.{OnlyReads}
use Rattle.flat_array.specs.Array.{FlatArray, fresh}
use Rattle.array_image.specs.States.{is_current}
use Rattle.lvm_group.specs.Runs.{Linear}
use Rattle.layer_plan.specs.declared.PlanError.{PlanError}
use Rattle.pool_state.specs.declared.contents.State.{State}
use Rattle.pool_image.specs.Drives.{Found, found}
use Rattle.pool_image.specs.Meaning.{Refusal as PoolRefusal, Volume, meaning, refusal_of, volumes_of}
use Rattle.pool_scan.specs.declared.Known.{Known}
use Rattle.pool_scan.specs.Scanning.{IsUnfaulted, now_in}
use Rattle.pool_image.specs.Disks.{Disks, disks_of}
use Rattle.pool_model.specs.Left.{NoStraySuperblock, IsPickOutsideSlices}
use Rattle.pool_model.proofs.Found.{found_is}
use Rattle.pool_model.proofs.Named.{seat_ahead}
use Rattle.pool_model.proofs.Unrefused.{tables_meant}
use Rattle.slice_rack.specs.Slices.{IsOrderly}
use Rattle.slice_rack.specs.Sliced.{slices_of}
use Rattle.pool_rest.specs.Resting.{WritesDrives}
use Rattle.assembler.specs.declared.refusal.Refusal.{Refusal}
use Rattle.assembler.specs.declared.refusal.Refusal.TheVariants as refusal
use Rattle.assembler.specs.Causes.{ArraysOn, HasRefusalCause, RefusesArrays, RefusesPool}
use Rattle.assembler_laws.specs.Marking.{MarksDrives}
use Rattle.assembler_laws.specs.Moments.{HoldsAt}
use Rattle.assembler.specs.Sound.{HaveOnePool, HoldSound, IsMeantBy, MayStop, SayTruths, StopsHold}
use Rattle.assembler.specs.Wanting.{HasUsedUp, LeavesPool}
use Rattle.assembler_laws.specs.Writing.{WritesPool}
use Rattle.pool_format.specs.declared.formatting.CreateFault.{CreateFault}
use Rattle.pool_format.specs.declared.formatting.CreateFault.TheVariants.{Layout, Gone, Memory}
use Rattle.pool_format.specs.declared.Birth.{Birth}
use Rattle.pool_format.specs.Plan.{IsUnplanned, units_on}
use Rattle.pool_format.specs.Volume.{HasLayout}
use Rattle.pool.specs.declared.Pool.{Pool}
use Rattle.pool.specs.Made.{IsSafelyRefused}
use Rattle.pool.specs.View.{arrays_of, book, view, volume}
use Rattle.pool.specs.Volume.{VolumeIs}
use Rattle.shr_tool.specs.Made.{HasFaultCause}
use Rattle.shr_tool.specs.Opened.{IsMeant, IsOpenedAs}
use Rattle.shr_tool.specs.Outcome.{IsRunOn}
use Rattle.pool.specs.Moment.{Moment, moment_of}
use Rattle.shr_tool.specs.Serving.{IsServing}
use Rattle.shr_tool.specs.Timeline.{MeansAt}

-- a bay that is reached through references is written as they are
pub pool_through :
    {R B : Type 0} (shown : B → RackView) (runs : R → R → Type 0) (does : B → B → Type 0) (to : R → B)
    → ((r s : R) → runs r s → does (to r) (to s))
    → (r s : R) → WritesPool (λ q. shown (to q)) runs r s → WritesPool shown does (to r) (to s)
pool_through shown runs does to so r s writes = record {
  mid = to writes.mid;
  kept = (so r writes.mid writes.kept.0, so writes.mid s writes.kept.1);
  early = writes.early;
  known = writes.known;
  state = writes.state;
  newest = writes.newest;
  one = writes.one;
  late = writes.late;
}

pub written_through :
    {R B : Type 0} (shown : B → RackView) (runs : R → R → Type 0) (does : B → B → Type 0) (to : R → B)
    → ((r s : R) → runs r s → does (to r) (to s))
    → (r s : R)
    → OnlyReads (shown (to r)) (shown (to s)) ⊎ (WritesDrives (shown (to r)) (shown (to s)) ⊎ WritesPool (λ q. shown (to q)) runs r s)
    → OnlyReads (shown (to r)) (shown (to s)) ⊎ (WritesDrives (shown (to r)) (shown (to s)) ⊎ WritesPool shown does (to r) (to s))
written_through shown runs does to so r s (inl reads) = inl reads
written_through shown runs does to so r s (inr (inl drives)) = inr (inl drives)
written_through shown runs does to so r s (inr (inr pool)) = inr (inr (pool_through shown runs does to so r s pool))

abbrev arrays_through : {R B : Type 0} → (R → B) → ArraysOn R → ArraysOn B
arrays_through to x = record { arrays = x.arrays; slices = x.slices; below = to x.below; refused = x.refused; written = x.written }

-- and refused by what was read of it
module _ {R B : Type 0} (shown : B → RackView) (runs : R → R → Type 0) (does : B → B → Type 0) (to : R → B) (so : (r s : R) → runs r s → does (to r) (to s)) (r s : R) where
  arrays_refused : (why : Refusal) (mid : R) (known : List Known) (state : State) → RefusesArrays (λ q. shown (to q)) runs r mid s known state why
      → RefusesArrays shown does (to r) (to mid) (to s) known state why
  arrays_refused why mid known state is = record {
    at = to is.at;
    made = arrays_through to is.made;
    last = arrays_through to is.last;
    kept = (so mid is.at is.kept.0, so is.at is.made.below is.kept.1);
    checked = is.checked;
    drives = is.drives;
    book = is.book;
    marks = is.marks;
    arrays = is.arrays;
    fit = is.fit;
    slices = record { tables = is.slices.tables; below = so is.made.below is.last.below is.slices.below; apart = is.slices.apart };
    raid = is.raid;
    serves = is.serves;
    back_is = ap to is.back_is;
    cause = elim is.cause [
      | inl memory ↦ inl memory
      | inr bad ↦ inr (bad.0, bad.1, record { reads = bad.2.reads; bad = bad.2.bad; unused = bad.2.unused })
    ];
  }

  pool_refused : (why : Refusal) → RefusesPool (λ q. shown (to q)) runs r s why → RefusesPool shown does (to r) (to s) why
  pool_refused why pool = record {
    mid = to pool.mid;
    kept = so r pool.mid pool.kept;
    early = pool.early;
    known = pool.known;
    state = pool.state;
    newest = pool.newest;
    one = pool.one;
    bad = pool.bad;
    logs = pool.logs;
    cause = elim pool.cause [ inl drives ↦ inl drives | inr arrays ↦ inr (arrays.0, arrays_refused why pool.mid pool.known pool.state arrays.1) ];
  }

  pub refused_through : (why : Refusal) → HasRefusalCause (λ q. shown (to q)) runs r s why → HasRefusalCause shown does (to r) (to s) why
  refused_through why (inl none) = inl none
  refused_through why (inr pool) = inr (pool_refused why pool)

  -- its numbers are used up
  pub used_through : HasUsedUp (λ q. shown (to q)) runs r s → HasUsedUp shown does (to r) (to s)
  unfolding pool_refused arrays_refused
  used_through used = record {
    pool = pool_refused refusal.Memory used.pool;
    arrays = arrays_refused refusal.Memory used.pool.mid used.pool.known used.pool.state used.arrays;
    used_up = used.used_up;
  }

  -- what want of memory leaves of it
  pub wanting_through : (f : Found) → LeavesPool (λ q. shown (to q)) runs r s f → LeavesPool shown does (to r) (to s) f
  wanting_through f (inl means) = inl means
  wanting_through f (inr (inl kept)) = inr (inl kept)
  wanting_through f (inr (inr used)) = inr (inr (used_through used))

  -- and what a stop inside its opening leaves, where no volume was opened
  pub stops_through : (f : Found) → StopsHold (shown (to r)) (shown (to s)) f 0 ⊎ HasUsedUp (λ q. shown (to q)) runs r s
      → StopsHold (shown (to r)) (shown (to s)) f 0 ⊎ HasUsedUp shown does (to r) (to s)
  stops_through f (inl holds) = inl holds
  stops_through f (inr used) = inr (used_through used)

  -- and who is marked in its opening
  pub marks_through : (now : State) → MarksDrives (λ q. shown (to q)) runs r s now → MarksDrives shown does (to r) (to s) now
  marks_through now marks = record {
    mid = to marks.mid;
    kept = (so r marks.mid marks.kept.0, so marks.mid s marks.kept.1);
    known = marks.known;
    state = marks.state;
    newest = marks.newest;
    one = marks.one;
    after = marks.after;
    marks = marks.marks;
    epoch = marks.epoch;
  }

-- values of which a stop can leave one alone
keeps_only : (v : List ℕ) (h : Values) → ((u : List ℕ) → MayLeave h u → u ≡ v) → Keeps (only v) h
keeps_only v h alone = record { current = alone h.current (inl refl); within = λ u leaves. inl (alone u leaves) }

first_of : Volume → Option (List Volume) → Volume
first_of other None = other
first_of other (Some []) = other
first_of other (Some (v ∷ more)) = v

-- the volume that is opened holds the array that the disks meant
pub held_by_meant :
    {R : Type 0} (pool : Pool R) (shown : R → RackView) (shelf : R → Shelf) (x : RackView) (a : FlatArray)
    → ((f : Found) → HoldSound x f → IsUnfaulted x (view shown shelf pool).bay → IsMeantBy shown x f (arrays_of pool) (view shown shelf pool).linear)
    → SameRack x (view shown shelf pool).bay
    → (view shown shelf pool).shelf.told
    → IsMeant x (view shown shelf pool).bay a
    → IsServing (view shown shelf pool) a
unfolding first_of
held_by_meant pool shown shelf x a opens stays names meant =
    let v = view shown shelf pool in
    let by = opens meant.pool meant.sound meant.unfaulted in
    let same : by.volume ≡ meant.volume = ap (first_of meant.volume) (sym by.meant ∙ meant.meant) in
    let joined : v.linear.arrays ≡ meant.pool.state.joined = ap (λ (l : Linear). l.arrays) by.lies.linear in
    let told : (volume v).told 0 = λ n low. by.told n (subst (λ k. n < k) joined low) in (
      subst (λ b. VolumeIs v b) (ap (λ (w : Volume). fresh w.sectors w.contents) same ∙ sym meant.array)
          (record {
            told = λ s low alive. told;
            shelf = names;
            disks = λ d low. stays.told d (meant.sound.steady.told d (subst (λ k. d < k) stays.disks low));
            size = sym by.holds.sectors;
            values = λ s inside alive. keeps_only (by.volume.contents s) ((volume v).held 0 s) (λ u leaves. by.holds.contents s u inside alive leaves);
          }),
      told,
    )

-- and so does what a stop inside the opening leaves
pub stops_mean :
    {R : Type 0} (pool : Pool R) (shown : R → RackView) (shelf : R → Shelf) (x : RackView) (a : FlatArray)
    → ((f : Found) → HoldSound x f → IsUnfaulted x (view shown shelf pool).bay → IsMeantBy shown x f (arrays_of pool) (view shown shelf pool).linear)
    → (meant : IsMeant x (view shown shelf pool).bay a) → MayStop x meant.pool → x.traced
    → Leaves x (view shown shelf pool).bay (MeansAt (moment_of (view shown shelf pool)) a)
unfolding first_of
stops_mean pool shown shelf x a opens meant calm traced =
    let v = view shown shelf pool in
    let by = opens meant.pool meant.sound meant.unfaulted in
    let same : by.volume ≡ meant.volume = ap (first_of meant.volume) (sym by.meant ∙ meant.meant) in
    subst (λ b. Leaves x v.bay (MeansAt (moment_of v) b)) (ap (λ (w : Volume). fresh w.sectors w.contents) same ∙ sym meant.array)
    (leaves_weaker (HoldsAt v.slices v.linear by.volume) (MeansAt (moment_of v) (fresh by.volume.sectors by.volume.contents))
    (λ i holds s low alive. inl (holds s low))
    (by.moments calm traced))

-- and it is opened as they had it
pub opened_as :
    {R : Type 0} (pool : Pool R) (shown : R → RackView) (shelf : R → Shelf) (x : RackView)
    → ((f : Found) → HoldSound x f → IsUnfaulted x (view shown shelf pool).bay → IsMeantBy shown x f (arrays_of pool) (view shown shelf pool).linear)
    → ((f : Found) → HoldSound x f → IsUnfaulted x (view shown shelf pool).bay → (p : ℕ) → is_current (book (view shown shelf pool)).state p ≡ (is_current f.state p && is_some (f.seats p)))
    → (f : Found) → HoldSound x f → IsUnfaulted x (view shown shelf pool).bay
    → IsOpenedAs f (view shown shelf pool).bay (moment_of (view shown shelf pool))
opened_as pool shown shelf x opens marks f sound unfaulted =
    let by = opens f sound unfaulted in
    record { lies = by.lies; slices = by.slices; after = by.after; plan = by.plan; told = by.told; arrays = by.arrays; live = by.live; group = by.group; elsewhere = by.elsewhere; landing = by.landing; marks = marks f sound unfaulted; epoch = by.epoch; events = by.events }

-- contents that mean volumes aren't refused
meant_unrefused : (disks : Disks) (c : Image) (volumes : List Volume) → meaning disks c ≡ Some volumes → refusal_of disks c ≡ None
unfolding meaning
meant_unrefused disks c volumes meant = of (refusal_of disks c) (option_map volumes_of (found disks c)) meant
  where
    of : (o : Option PoolRefusal) (v : Option (List Volume)) → option_map_or (λ why. None) o v ≡ Some volumes → o ≡ None
    of None v is = refl
    of (Some why) v is = absurd (none-some volumes is)

-- the run is one on that pool
pub runs_on :
    (bay opened : RackView) (from : Moment) (f : Found)
    → HoldSound bay f → IsOpenedAs f opened from → (volumes : List Volume) → meaning (disks_of bay) (now_in bay) ≡ Some volumes → HaveOnePool f
    → SayTruths f from.book (slices_of from.slices opened) → SameRack bay opened → f.state.joined ≡ f.state.made
    → IsOrderly from.slices → ((i : Image) → IsPickOutsideSlices from.slices opened i → NoStraySuperblock f i) → IsRunOn f from opened
runs_on bay opened from f sound meant volumes means one_pool truths stays joined orderly alone = record {
  lasting = stays.lasting sound.steady.lasts.lasting;
  before = now_in bay;
  found_is = ap (λ (disks : Disks). found disks (now_in bay)) same ∙ sound.found_is;
  sound = sound.sound;
  slices = meant.slices;
  orderly = orderly;
  after = meant.after;
  joined = joined;
  arrays = ap (λ (l : Linear). l.arrays) meant.lies.linear;
  geometry = λ n t low truth. (meant.arrays n t (omega (arith, low, joined)) truth).geometry;
  present = λ p d seat.
      let ahead = seat_ahead f.state f.disks f.identities p d (sym ((found_is (disks_of bay) (now_in bay) f sound.found_is).0.seats p) ∙ seat) in
      meant.marks p ∙ ap₂ (λ (a b : Bool). a && b) ahead.current (ap is_some seat);
  tables = tables_meant (disks_of bay) (now_in bay) f sound.found_is (meant_unrefused (disks_of bay) (now_in bay) volumes means);
  landing = meant.landing;
  one_pool = one_pool;
  truths = λ n low. truths n (omega (arith, low, joined));
  group = meant.group joined;
  rest = record { elsewhere = meant.elsewhere; alone = alone };
}
  where
    same : disks_of opened ≡ disks_of bay
    same = λ j. record { count = stays.disks j; sectors = λ d. stays.sectors d j }

-- stops stay told in an opening
pub traced_through : {R : Type 0} (shown : R → RackView) (runs : R → R → Type 0) (r s : R) → WritesPool shown runs r s → (shown r).traced → (shown s).traced
traced_through shown runs r s writes traced = writes.late.stays.traced (writes.early.only.stays.traced traced)

-- the moment when a pool stands so, on a bay that is reached through a reference
abbrev pub moment_in : {R B : Type 0} → (B → RackView) → (B → Shelf) → Pool R → (R → B) → Moment
moment_in shown shelf pool to = moment_of (view (λ r. shown (to r)) (λ r. shelf (to r)) pool)

-- why no pool was made on a bay that is reached through a reference
pub fault_through :
    {R B : Type 0} (shown : B → RackView) (to : R → B) (r s : R) (extent : ℕ) (birth : Birth) (why : CreateFault)
    → ((fault : PlanError) → (why ≡ Layout fault) ↔ IsUnplanned (units_on (shown (to r)) extent) fault)
    → ((fault : PlanError) → why ≡ Layout fault → s ≡ r)
    → ((disk : ℕ) → why ≡ Gone disk → (disk < (shown (to r)).disks) × Rose ((shown (to r)).faults disk) ((shown (to s)).faults disk))
    → (HasLayout why → IsSafelyRefused (shown (to r)) (shown (to s)) extent birth)
    → HasFaultCause shown why (to r) (to s) extent birth
fault_through shown to r s extent birth (Layout error) planned same gone back = ((planned error).0 refl, ap to (same error refl))
fault_through shown to r s extent birth (Gone disk) planned same gone back = ((gone disk refl).0, (gone disk refl).1, back tt)
fault_through shown to r s extent birth Memory planned same gone back = back tt
