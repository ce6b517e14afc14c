-- What a rack of arrays tells of its moments while it takes a new drive in, as the disks show it: before the drive is one of the pool.
use Rattle.std.proofs.Common.{◌≡◌, ◌≢◌, ℕ, ◌+◌, ◌<◌, ◌≤◌, Bool, false, if◌then◌else◌, List, [], None, Ok, Some, unwrap_or, refl, sym, ap, ap₂, ◌∙◌, inl, inr, eq-eqb, le-ltb, lt-ltb, arith}
use Rattle.std.specs.Result.{result_ok}
use Rattle.std.proofs.lemmas.Bool.{cases_lt}
use Rattle.std.proofs.lemmas.Option.{none-some}
use Rattle.rack.specs.Seen.{Image, RackView, SameRack}
use Rattle.rack.specs.Sequences.{IsMix}
use Rattle.rack.specs.Values.{MayLeave, Values}
use Rattle.slice_rack.specs.Runs.{IsSliced}
use Rattle.slice_rack.specs.Slices.{Slices, disk_of, first_of, seat_of, sectors_of}
use Rattle.slice_rack.specs.Sliced.{sliced, slices_of}
use Rattle.gpt_table.specs.declared.Table.{Table}
use Rattle.pool_state.specs.declared.contents.Copied.{Copied}
use Rattle.pool_state.specs.declared.contents.State.{State}
use Rattle.pool_state.specs.Sector.{decoded}
use Rattle.array_image.specs.Arrays.{replayed}
use Rattle.array_image.specs.Left.{IsInside as HasNothing}
use Rattle.array_image.specs.Places.{log_sectors, log_slice, place_of, slice_of, state_sector}
use Rattle.array_image.specs.States.{is_current}
use Rattle.array_core.proofs.Stripped.{some_same}
use Rattle.array_model.specs.View.{View}
use Rattle.log_laws.specs.Saying.{RecoversTo}
use Rattle.log_laws.proofs.Kept.{live_on}
use Rattle.raid_laws.specs.Book.{after_same}
use Rattle.raid_laws.specs.Enlisting.{HoldsLaid, IsOpenDisk, IsWrittenBy, SaysBy, SaysFormer, SaysJoining, SaysLaying}
use Rattle.raid_laws.specs.NewDrive.{SeatsDrive, first_laid, sectors_laid}
use Rattle.raid_laws.specs.Raid.{IsTracked, Raid, is_failed, spent_of}
use Rattle.raid_laws.specs.Runs.{IsBetween, CrashInvariant}
use Rattle.raid_laws.proofs.Since.{joining_before, kept_since}
use Rattle.pool_image.specs.Drives.{Found}
use Rattle.pool_model.specs.Laid.{IsLaidOutsideSlices, SaysBooks}
use Rattle.pool_model.proofs.Found.{ok_of}
use Rattle.pool_model.proofs.Unsliced.{laid_state}

-- contents that say an array by the book's state
says_between : (v : Raid) (n : ℕ) (vals : ℕ → Values) (spent : ℕ → Bool) (r : Image) → SaysBy v.state n vals spent r → IsBetween v.state v.state n r
says_between v n vals spent r one = record {
  state = v.state;
  is_state = one.is_state;
  later = after_same v.state;
  sooner = after_same v.state;
  shape = one.shape;
  shape_is = one.says.shape_is;
  is_sound = one.says.is_sound;
}

-- Contents in which the disk, where they say a state on it, holds one there that it may have held. The others are written in slices alone, which were slices before.
pub laid_off : (f : Found) (t u : Slices) (s : State) (disk : ℕ) (table : Table) (x y : RackView) (i : Image) → ((p : ℕ) → f.seats p ≡ Some disk → is_current s p ≡ false)
    → ((k : ℕ) (w : List ℕ) → IsSliced t disk k w → ⊥) → IsOpenDisk x disk → x.lasting → SameRack x y
    → ((d k : ℕ) (w : List ℕ) → d ≢ disk → IsSliced u d k w → IsSliced t d k w) → IsMix x y (IsWrittenBy u disk table) i
    → ((copy : Copied) → state_sector < x.sectors disk → decoded (i disk state_sector) ≡ Ok copy → MayLeave (x.held disk state_sector) (i disk state_sector))
    → IsLaidOutsideSlices f t s disk x i
laid_off f t u s disk table x y i vacant free opened lasting stays fewer mix says = record {
  vacant = vacant;
  free = free;
  opened = opened;
  others = λ d k other live never. elim (mix d k (live_on lasting stays live)) [
    | inl may ↦ may
    | inr written ↦ elim written [ inl own ↦ absurd (other own.0) | inr slice ↦ absurd (never (i d k) (fewer d k (i d k) other slice)) ]
  ];
  says = λ copy here. elim (cases_lt state_sector (x.sectors disk)) [
    | inl low ↦
        says copy low
        (ok_of (decoded (i disk state_sector)) copy
        (sym (ap (λ (b : Bool). if b then result_ok (decoded (i disk state_sector)) else None) (lt-ltb state_sector (x.sectors disk) low)) ∙ here))
    | inr past ↦
        absurd (none-some copy (sym (ap (λ (b : Bool). if b then result_ok (decoded (i disk state_sector)) else None) (le-ltb state_sector (x.sectors disk) past)) ∙ here))
  ];
}

-- So it is where it holds what it held, or what is laid on it.
pub laid_says : (x : RackView) (disk : ℕ) (table : Table) (i : Image) → 10273 ≤ table.sectors → HoldsLaid x disk table i → (copy : Copied) → state_sector < x.sectors disk
    → decoded (i disk state_sector) ≡ Ok copy → MayLeave (x.held disk state_sector) (i disk state_sector)
laid_says x disk table i room laid copy low says = elim (laid state_sector low) [
  | inl may ↦ may
  | inr of ↦ absurd (laid_state disk table (i disk state_sector) copy room of says)
]

-- They say the book by the slices.
pub laying_book : (made : ℕ) (t : Slices) (disk : ℕ) (table : Table) (v w : Raid) (a : RackView) (vals : (n : ℕ) → ℕ → Values) (i : Image) → 0 < made
    → ((n : ℕ) → n < made → SaysLaying t disk table v w a n (vals n) i) → SaysBooks made t v v i
laying_book made t disk table v w a vals i first each = record {
  logs = record { state = v.state; later = after_same v.state; sooner = after_same v.state; says = (each 0 first).logs };
  since = (each 0 first).since;
  arrays = λ n low. says_between v n (vals n) (spent_of w n) (replayed (sectors_of t) (sliced t i)) (each n low).says;
  frames = λ n low. (each n low).frame;
}

-- So they do once the disk has its slices, while the log slices say the state before: the new drive has no state then.
pub joining_book : (made : ℕ) (t u : Slices) (disk : ℕ) (table : Table) (next : State) (v w : Raid) (a : RackView) (vals : (n : ℕ) → ℕ → Values) (i : Image) → 0 < made
    → v.state.epoch < next.epoch → RecoversTo v.state (sectors_of u) (sliced u i)
    → ((n : ℕ) → n < made → SaysJoining t u disk table next v w a n (vals n) i) → SaysBooks made u v v i
joining_book made t u disk table next v w a vals i first up says each = record {
  logs = record { state = v.state; later = after_same v.state; sooner = after_same v.state; says = says };
  since = joining_before v.state next (sectors_of u) (sliced u i) up says (each 0 first).since;
  arrays = λ n low. elim (each n low).says [
    | inl before ↦ says_between v n (vals n) (spent_of w n) (replayed (sectors_of u) (sliced u i)) before
    | inr brought ↦
        let same : v.state ≡ brought.state = some_same v.state brought.state (sym says.is_state ∙ brought.is_state) in
        let epoch : v.state.epoch ≡ brought.state.epoch = ap (λ (z : State). z.epoch) same in
        let late = brought.later.epoch in
        absurd (omega (arith, up, epoch, late))
  ];
  frames = λ n low. (each n low).frame;
}

-- Where it has them and a current place keeps its drive yet, they say the book by the slices before.
pub former_book : (made : ℕ) (t : Slices) (v w : Raid) (x : RackView) (vals : (n : ℕ) → ℕ → Values) (i : Image) → 0 < made
    → ((n : ℕ) → n < made → SaysFormer v x n (vals n) (spent_of w n) (sectors_of t) (sliced t i)) → SaysBooks made t v v i
former_book made t v w x vals i first each = record {
  logs = record { state = v.state; later = after_same v.state; sooner = after_same v.state; says = (each 0 first).logs };
  since = (each 0 first).since;
  arrays = λ n low. says_between v n (vals n) (spent_of w n) (replayed (sectors_of t) (sliced t i)) (each n low).says;
  frames = λ n low. (each n low).frame;
}

-- the new disk's sector of the state is the first one of its log slice
pub new_sector : (arrays : List View) (place disk sectors : ℕ) (t u : Slices) → SeatsDrive arrays place disk sectors t u → (i : Image)
    → sliced u i (log_slice place) 0 ≡ i disk state_sector
new_sector arrays place disk sectors t u seats i =
    let on : place_of (log_slice place) ≡ place = omega arith in
    let of : slice_of (log_slice place) ≡ 0 = omega arith in
    let many : sectors_of u (log_slice place) ≡ log_sectors = seats.own (log_slice place) on ∙ ap (sectors_laid arrays place sectors) of in
    let begins : first_of u (log_slice place) ≡ state_sector = seats.own_firsts (log_slice place) on (omega (arith, many)) ∙ ap (first_laid arrays) of in
    let disk_is : disk_of u (log_slice place) ≡ disk =
    ap (λ o. unwrap_or o 0)
    (ap (seat_of u) on ∙ seats.seats place ∙ ap (λ (c : Bool). if c then Some disk else seat_of t place) (eq-eqb place place refl)) in
    ap (λ (c : Bool). if c then i (disk_of u (log_slice place)) (first_of u (log_slice place) + 0) else [])
    (lt-ltb 0 (sectors_of u (log_slice place)) (omega (arith, many)))
    ∙ ap₂ (λ d at. i d (at + 0)) disk_is begins

-- ---- a drive that is declined

-- The disk holds what it held, or what is laid on it, and the others are written in slices alone.
pub declined_off : (f : Found) (t : Slices) (v : Raid) (disk : ℕ) (table : Table) (a : RackView) → ((p : ℕ) → f.seats p ≡ Some disk → is_current v.state p ≡ false)
    → ((k : ℕ) (w : List ℕ) → IsSliced t disk k w → ⊥) → IsOpenDisk a disk → 10273 ≤ table.sectors → a.lasting → (b : RackView) → SameRack a b
    → (i : Image) → IsMix a b (IsWrittenBy t disk table) i → IsLaidOutsideSlices f t v.state disk a i
declined_off f t v disk table a vacant free opened room lasting b stays i mix =
    let laid : HoldsLaid a disk table i =
    λ c low. elim (mix disk c (live_on lasting stays (opened c low))) [
      | inl may ↦ inl may
      | inr written ↦ elim written [ inl own ↦ inr own | inr slice ↦ absurd (free c (i disk c) slice) ]
    ] in
    laid_off f t t v.state disk table a b i vacant free opened lasting stays (λ d k w other at. at) mix (laid_says a disk table i room laid)

-- By the slices contents say a state of the call, and the arrays by it.
pub declined_book : (made : ℕ) (t : Slices) (v w : Raid) (a b : RackView) → a.traced → CrashInvariant v w (slices_of t a) (slices_of t b)
    → ((n : ℕ) → n < made → IsTracked v (slices_of t a) n) → ((n : ℕ) → n < made → is_failed w n ≡ false) → 0 < made
    → (k : ℕ) (i : Image) → a.clock < k → k ≤ b.clock → b.stops k i → SaysBooks made t v w i
declined_book made t v w a b traced keeps told lasts first k i since until stopped =
    let shown : (slices_of t b).stops k (sliced t i) = (i, stopped, λ d c. refl) in
    let nothing : HasNothing (sectors_of t) (sliced t i) =
    λ d c past. ap (λ (x : Bool). if x then i (disk_of t d) (first_of t d + c) else []) (le-ltb c (sectors_of t d) past) in
    let log = ((told 0 first).stood (keeps.still 0 (lasts 0 first))).log in
    record {
      logs = (keeps.logs 0 (told 0 first) (lasts 0 first) traced).new k (sliced t i) since until shown;
      since =
          ((keeps.since 0 v.state (told 0 first) (lasts 0 first) (after_same v.state) (kept_since v.state v.number (slices_of t a) log)).leaves traced).new k (sliced t i) since until shown
          nothing;
      arrays = λ n low. (keeps.images n (told n low) (lasts n low) traced).new k (sliced t i) since until shown;
      frames = λ n low. (keeps.frames n (told n low) (lasts n low) traced).new k (sliced t i) since until shown;
    }
