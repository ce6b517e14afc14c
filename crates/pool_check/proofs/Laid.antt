-- One more slice is laid.
use Rattle.std.proofs.Common.{◌≡◌, ◌≢◌, ℕ, ◌+◌, ◌-◌, ◌*◌, ◌<◌, ◌==◌, Bool, true, false, ◌&&◌, ◌||◌, nat_lt, if◌then◌else◌, List, slice_get, Option, Some, None, Result, Ok, Err, is_some, inl, inr, refl, sym, ap, ap₂, subst, ◌∙◌, lt-ltb, le-ltb, arith}
use Rattle.std.specs.Prelude.{OnOk}
use Rattle.std.specs.Option.{option_and_then, option_map_or}
use Rattle.std.proofs.lemmas.Bool.{both_ways, cases_eq, cases_lt, eq-eqb}
use Rattle.std.proofs.lemmas.Option.{none-some}
use Rattle.rack.specs.Seen.{RackView}
use Rattle.slice_rack.specs.declared.SliceFault.{SliceFault}
use Rattle.slice_rack.specs.declared.SliceFault.TheVariants.{Unseated, Outside, Overlap}
use Rattle.slice_rack.specs.Slices.{Slices, seat_of, first_of, sectors_of}
use Rattle.slice_rack.specs.Changes.{Adds, IsPast, IsWithin, Overlaps}
use Rattle.array_image.specs.Places.{member_slice, place_of, slice_of}
use Rattle.array_image.specs.Supers.{is_named}
use Rattle.array_model.specs.View.{View}
use Rattle.pool_image.specs.Disks.{Seats}
use Rattle.pool_check.specs.declared.Extent.{Extent}
use Rattle.pool_check.specs.Slots.{AreSlots}
use Rattle.pool_check.specs.Laying.{HasLogsOnly, HasMembers, HasNoMembers, IsLaidTo, KeepsLogs, is_before, laid_at}
use Rattle.pool_check.proofs.Finding.{differs}

-- ---- the order of slices

lt_more : (p place : ℕ) → (p ≡ place → ⊥) → nat_lt p (place + 1) ≡ nat_lt p place
lt_more p place other =
    elim (cases_lt p place) [
      | inl less ↦ lt-ltb p (place + 1) (omega (arith, less)) ∙ sym (lt-ltb p place less)
      | inr more ↦ le-ltb p (place + 1) (omega (arith, more, other)) ∙ sym (le-ltb p place more)
    ]

false_or : (b : Bool) → (false || b) ≡ b
false_or b = refl

or_false : (b : Bool) → (b || false) ≡ b
or_false true = refl
or_false false = refl

before_other : (number place n p : ℕ) → (n ≡ number → p ≡ place → ⊥) → is_before number (place + 1) n p ≡ is_before number place n p
before_other number place n p other =
    elim (cases_eq n number) [
      | inl same ↦ ap (λ b. nat_lt n number || ((n == number) && b)) (lt_more p place (other same))
      | inr apart ↦
          ap (λ b. nat_lt n number || (b && nat_lt p (place + 1))) (differs n number apart)
          ∙ sym (ap (λ b. nat_lt n number || (b && nat_lt p place)) (differs n number apart))
    ]

before_here : (number place : ℕ) → is_before number (place + 1) number place ≡ true
before_here number place =
    ap₂ (λ a b. a || (b && nat_lt place (place + 1))) (le-ltb number number (omega arith)) (eq-eqb number number refl)
    ∙ lt-ltb place (place + 1) (omega arith)

before_next : (number n p : ℕ) → p < 16 → is_before (number + 1) 0 n p ≡ is_before number 16 n p
before_next number n p low =
    elim (cases_lt n number) [
      | inl less ↦
          ap (λ a. a || ((n == number + 1) && nat_lt p 0)) (lt-ltb n (number + 1) (omega (arith, less)))
          ∙ sym (ap (λ a. a || ((n == number) && nat_lt p 16)) (lt-ltb n number less))
      | inr more ↦ elim (cases_eq n number) [
        | inl same ↦
            ap (λ a. a || ((n == number + 1) && nat_lt p 0)) (lt-ltb n (number + 1) (omega (arith, same)))
            ∙ sym (ap₂ (λ a b. a || (b && nat_lt p 16)) (le-ltb n number more) (eq-eqb n number same) ∙ lt-ltb p 16 low)
        | inr apart ↦
            ap₂ (λ a b. a || ((n == number + 1) && b)) (le-ltb n (number + 1) (omega (arith, more, apart))) (le-ltb p 0 (omega arith))
            ∙ and_none (n == number + 1)
            ∙ sym (ap₂ (λ a b. a || (b && nat_lt p 16)) (le-ltb n number more) (differs n number apart))
      ]
    ]
  where
    and_none : (b : Bool) → (b && false) ≡ false
    and_none true = refl
    and_none false = refl

before_all : (n p : ℕ) → n < 16 → is_before 16 0 n p ≡ true
before_all n p low = ap (λ a. a || ((n == 16) && nat_lt p 0)) (lt-ltb n 16 low)

before_none : (n p : ℕ) → is_before 0 0 n p ≡ false
before_none n p =
    ap₂ (λ a b. a || ((n == 0) && b)) (le-ltb n 0 (omega arith)) (le-ltb p 0 (omega arith)) ∙ and_none (n == 0)
  where
    and_none : (b : Bool) → (b && false) ≡ false
    and_none true = refl
    and_none false = refl

module _ (seats : Seats) (arrays : List View) (extents : List Extent) where
  -- how long the slice is that is laid
  abbrev long : Option Extent → ℕ
  long o = option_map_or (λ e. e.sectors) o 0

  pub none_laid : (t : Slices) → HasNoMembers t → IsLaidTo seats arrays extents 0 0 t
  none_laid t empty = record {
    sectors = λ n p low_n low_p.
        empty (member_slice p n) (λ at. absurd (omega (arith, at, low_n)))
        ∙ sym (ap (λ (b : Bool). if b then long (laid_at seats arrays extents n p) else 0) (before_none n p));
    firsts = λ n p e low_n low_p before is. absurd (both_ways (is_before 0 0 n p) (before_none n p) before);
  }

  pub next_laid : (number : ℕ) (t : Slices) → IsLaidTo seats arrays extents number 16 t → IsLaidTo seats arrays extents (number + 1) 0 t
  next_laid number t laid = record {
    sectors = λ n p low_n low_p.
        laid.sectors n p low_n low_p
        ∙ sym (ap (λ (b : Bool). if b then long (laid_at seats arrays extents n p) else 0) (before_next number n p low_p));
    firsts = λ n p e low_n low_p before is. laid.firsts n p e low_n low_p (sym (before_next number n p low_p) ∙ before) is;
  }

  pub all_laid : (t : Slices) → IsLaidTo seats arrays extents 16 0 t → HasMembers seats arrays extents t
  all_laid t laid = record {
    sectors = λ n p low_n low_p.
        laid.sectors n p low_n low_p ∙ ap (λ (b : Bool). if b then long (laid_at seats arrays extents n p) else 0) (before_all n p low_n);
    firsts = λ n p e low_n low_p is. laid.firsts n p e low_n low_p (before_all n p low_n) is;
  }

  module _ (number place : ℕ) (low_number : number < 16) (low_place : place < 16) where
    -- no slice was to be laid
    pub skip_laid : (t : Slices) → laid_at seats arrays extents number place ≡ None → IsLaidTo seats arrays extents number place t
        → IsLaidTo seats arrays extents number (place + 1) t
    skip_laid t none laid = record {
      sectors = λ n p low_n low_p. elim (cases_eq n number) [
        | inl same_n ↦ elim (cases_eq p place) [
          | inl same_p ↦
              let here : laid_at seats arrays extents n p ≡ None = ap₂ (laid_at seats arrays extents) same_n same_p ∙ none in
              laid.sectors n p low_n low_p
              ∙ ap (λ o. if is_before number place n p then long o else 0) here ∙ zero_if (is_before number place n p) 0
              ∙ sym (ap (λ o. if is_before number (place + 1) n p then long o else 0) here ∙ zero_if (is_before number (place + 1) n p) 0)
          | inr other_p ↦ same_before n p (λ x y. other_p y) low_n low_p
        ]
        | inr other_n ↦ same_before n p (λ x y. other_n x) low_n low_p
      ];
      firsts = λ n p e low_n low_p before is. elim (cases_eq n number) [
        | inl same_n ↦ elim (cases_eq p place) [
          | inl same_p ↦ absurd (none-some e (sym none ∙ sym (ap₂ (laid_at seats arrays extents) same_n same_p) ∙ is))
          | inr other_p ↦ laid.firsts n p e low_n low_p (sym (before_other number place n p (λ x y. other_p y)) ∙ before) is
        ]
        | inr other_n ↦ laid.firsts n p e low_n low_p (sym (before_other number place n p (λ x y. other_n x)) ∙ before) is
      ];
    }
      where
        zero_if : (b : Bool) (z : ℕ) → (if b then z else z) ≡ z
        zero_if true z = refl
        zero_if false z = refl

        same_before : (n p : ℕ) → (n ≡ number → p ≡ place → ⊥) → n < 16 → p < 16
            → sectors_of t (member_slice p n) ≡ (if is_before number (place + 1) n p then long (laid_at seats arrays extents n p) else 0)
        same_before n p other low_n low_p =
            laid.sectors n p low_n low_p
            ∙ sym (ap (λ (b : Bool). if b then long (laid_at seats arrays extents n p) else 0) (before_other number place n p other))

    module _ (t u : Slices) (e : Extent) (adds : Adds t u (member_slice place number) e.first e.sectors) where
      here_sectors : sectors_of u (member_slice place number) ≡ e.sectors
      here_sectors =
          adds.sectors_are (member_slice place number)
          ∙ ap (λ (b : Bool). if b then e.sectors else sectors_of t (member_slice place number)) (eq-eqb (member_slice place number) (member_slice place number) refl)

      here_first : first_of u (member_slice place number) ≡ e.first
      here_first =
          adds.firsts (member_slice place number)
          ∙ ap (λ (b : Bool). if b then e.first else first_of t (member_slice place number)) (eq-eqb (member_slice place number) (member_slice place number) refl)

      other_sectors : (k : ℕ) → (k ≡ member_slice place number → ⊥) → sectors_of u k ≡ sectors_of t k
      other_sectors k other = adds.sectors_are k ∙ ap (λ (b : Bool). if b then e.sectors else sectors_of t k) (differs k (member_slice place number) other)

      other_first : (k : ℕ) → (k ≡ member_slice place number → ⊥) → first_of u k ≡ first_of t k
      other_first k other = adds.firsts k ∙ ap (λ (b : Bool). if b then e.first else first_of t k) (differs k (member_slice place number) other)

      no_log : (k : ℕ) → slice_of k ≡ 0 → k ≡ member_slice place number → ⊥
      no_log k log same = absurd (omega (arith, log, same, low_number))

      pub added_keeps : KeepsLogs t u
      added_keeps = record {
        seats = adds.seats;
        firsts = λ k log. other_first k (no_log k log);
        sectors = λ k log. other_sectors k (no_log k log);
      }

      pub added_logs : HasLogsOnly t seats → HasLogsOnly u seats
      added_logs logs = record {
        seats_are = λ p. adds.seats p ∙ logs.seats_are p;
        logs = λ k log some.
            let sectors = other_sectors k (no_log k log) in
            let first = other_first k (no_log k log) in
            let there = logs.logs k log (subst (λ n. 0 < n) sectors some) in
            omega (arith, sectors, first, there);
      }

      apart_slice : (n p : ℕ) → n < 16 → (n ≡ number → p ≡ place → ⊥) → member_slice p n ≡ member_slice place number → ⊥
      apart_slice n p low_n other same =
          let same_p : p ≡ place = omega (arith, same, low_n, low_number) in
          let same_n : n ≡ number = omega (arith, same, low_n, low_number) in
          other same_n same_p

      pub added_laid : laid_at seats arrays extents number place ≡ Some e → IsLaidTo seats arrays extents number place t
          → IsLaidTo seats arrays extents number (place + 1) u
      added_laid is laid = record {
        sectors = λ n p low_n low_p. elim (cases_eq n number) [
          | inl same_n ↦ elim (cases_eq p place) [
            | inl same_p ↦
                ap₂ (λ m q. sectors_of u (member_slice q m)) same_n same_p ∙ here_sectors
                ∙ sym (ap₂ (λ m q. if is_before number (place + 1) m q then long (laid_at seats arrays extents m q) else 0) same_n same_p
                ∙ ap₂ (λ (b : Bool) o. if b then long o else 0) (before_here number place) is)
            | inr other_p ↦ moved n p (λ x y. other_p y) low_n low_p
          ]
          | inr other_n ↦ moved n p (λ x y. other_n x) low_n low_p
        ];
        firsts = λ n p g low_n low_p before at. elim (cases_eq n number) [
          | inl same_n ↦ elim (cases_eq p place) [
            | inl same_p ↦
                ap₂ (λ m q. first_of u (member_slice q m)) same_n same_p ∙ here_first
                ∙ (let both : Some e ≡ Some g = sym is ∙ sym (ap₂ (laid_at seats arrays extents) same_n same_p) ∙ at in
                let same : e ≡ g = cc in ap (λ (x : Extent). x.first) same)
            | inr other_p ↦ moved_first n p g (λ x y. other_p y) low_n low_p before at
          ]
          | inr other_n ↦ moved_first n p g (λ x y. other_n x) low_n low_p before at
        ];
      }
        where
          moved : (n p : ℕ) → (n ≡ number → p ≡ place → ⊥) → n < 16 → p < 16
              → sectors_of u (member_slice p n) ≡ (if is_before number (place + 1) n p then long (laid_at seats arrays extents n p) else 0)
          moved n p other low_n low_p =
              other_sectors (member_slice p n) (apart_slice n p low_n other) ∙ laid.sectors n p low_n low_p
              ∙ sym (ap (λ (b : Bool). if b then long (laid_at seats arrays extents n p) else 0) (before_other number place n p other))

          moved_first : (n p : ℕ) (g : Extent) → (n ≡ number → p ≡ place → ⊥) → n < 16 → p < 16 → is_before number (place + 1) n p ≡ true
              → laid_at seats arrays extents n p ≡ Some g → first_of u (member_slice p n) ≡ g.first
          moved_first n p g other low_n low_p before at =
              other_first (member_slice p n) (apart_slice n p low_n other)
              ∙ laid.firsts n p g low_n low_p (sym (before_other number place n p other) ∙ before) at

-- a result that is no refusal
not_refused : {P : Type 0} (r : Result (Unit {0}) SliceFault) → (r ≡ Err Unseated → ⊥) → (r ≡ Err Outside → ⊥) → (r ≡ Err Overlap → ⊥) → OnOk r P → P
not_refused (Ok done) unseated outside overlap says = says
not_refused (Err Unseated) unseated outside overlap says = absurd (unseated refl)
not_refused (Err Outside) unseated outside overlap says = absurd (outside refl)
not_refused (Err Overlap) unseated outside overlap says = absurd (overlap refl)

-- ---- none is refused

-- a slice that is laid is that of a member with a disk
record IsSlot (seats : Seats) (arrays : List View) (extents : List Extent) (n p : ℕ) (e : Extent) : Type 0 where
  view : View
  disk : ℕ
  is : slice_get arrays n ≡ Some view
  lies : slice_get extents n ≡ Some e
  named : is_named view.truth p ≡ true
  seat : seats p ≡ Some disk

slot_is : (seats : Seats) (arrays : List View) (extents : List Extent) (n p : ℕ) (e : Extent) → laid_at seats arrays extents n p ≡ Some e
    → IsSlot seats arrays extents n p e
slot_is seats arrays extents n p e is = of_view (slice_get arrays n) refl is
  where
    of_seat : (v : View) → slice_get arrays n ≡ Some v → (named : Bool) → is_named v.truth p ≡ named → (o : Option ℕ) → seats p ≡ o
        → (if named && is_some o then slice_get extents n else None) ≡ Some e → IsSlot seats arrays extents n p e
    of_seat v at true named (Some d) seat lies = record { view = v; disk = d; is = at; lies = lies; named = named; seat = seat }
    of_seat v at true named None seat lies = absurd (none-some e lies)
    of_seat v at false named o seat lies = absurd (none-some e lies)

    of_view : (o : Option View) → slice_get arrays n ≡ o
        → option_and_then (λ v. if is_named v.truth p && is_some (seats p) then slice_get extents n else None) o ≡ Some e → IsSlot seats arrays extents n p e
    of_view None at lies = absurd (none-some e lies)
    of_view (Some v) at lies = of_seat v at (is_named v.truth p) refl (seats p) refl lies

module _ (seats : Seats) (arrays : List View) (extents : List Extent) (a : RackView) (t : Slices) (number place : ℕ) (low_number : number < 16) (low_place : place < 16)
    (logs : HasLogsOnly t seats) (slots : AreSlots a.sectors seats arrays extents) (laid : IsLaidTo seats arrays extents number place t)
    (e : Extent) (is : laid_at seats arrays extents number place ≡ Some e) where
  slot : IsSlot seats arrays extents number place e
  slot = slot_is seats arrays extents number place e is

  is_seated : seat_of t place ≡ None → ⊥
  is_seated none = none-some slot.disk (sym none ∙ logs.seats_are place ∙ slot.seat)

  not_past : IsPast t a place e.first e.sectors → ⊥
  not_past past =
      let fits = slots.fits number slot.view e place slot.disk slot.is slot.lies slot.named slot.seat in
      let both : Some past.0 ≡ Some slot.disk = sym past.1 ∙ logs.seats_are place ∙ slot.seat in
      let same : past.0 ≡ slot.disk = cc in
      let over : a.sectors slot.disk < e.first + e.sectors = subst (λ d. a.sectors d < e.first + e.sectors) same past.2 in
      absurd (omega (arith, over, fits))

  -- the slices of lower arrays end before this one
  not_shared : (m : ℕ) → m < 16 → (m ≡ number → ⊥) → (i j : ℕ) → i < e.sectors → j < sectors_of t (member_slice place m)
      → e.first + i ≡ first_of t (member_slice place m) + j → ⊥
  not_shared m low other i j inside there same = elim (cases_lt m number) [
    | inl less ↦
        let before : is_before number place m place ≡ true = ap (λ b. b || ((m == number) && nat_lt place place)) (lt-ltb m number less) in
        let sectors = laid.sectors m place low low_place ∙ ap (λ (b : Bool). if b then option_map_or (λ g. g.sectors) (laid_at seats arrays extents m place) 0 else 0) before in
        lower less before (laid_at seats arrays extents m place) refl sectors
    | inr more ↦
        let after : is_before number place m place ≡ false =
        ap₂ (λ b d. b || (d && nat_lt place place)) (le-ltb m number more) (differs m number other) in
        let none = laid.sectors m place low low_place ∙ ap (λ (b : Bool). if b then option_map_or (λ g. g.sectors) (laid_at seats arrays extents m place) 0 else 0) after in
        absurd (omega (arith, there, none))
  ]
    where
      lower : m < number → is_before number place m place ≡ true → (o : Option Extent) → laid_at seats arrays extents m place ≡ o
          → sectors_of t (member_slice place m) ≡ option_map_or (λ g. g.sectors) o 0 → ⊥
      lower less before None at sectors = absurd (omega (arith, there, sectors))
      lower less before (Some g) at sectors =
          let other_slot = slot_is seats arrays extents m place g at in
          let follow = slots.ordered.follow m number g e less other_slot.lies slot.lies in
          let first = laid.firsts m place g low low_place before at in
          absurd (omega (arith, there, sectors, follow, first, same))

  not_over : Overlaps t (member_slice place number) e.first e.sectors → ⊥
  not_over over = by over.0 over.1 over.2 over.3.0 over.3.1.0 over.3.1.1 over.3.1.2 over.3.1.3
    where
      by : (k : ℕ) → place_of k ≡ place_of (member_slice place number) → k ≢ member_slice place number
          → (i j : ℕ) → i < e.sectors → j < sectors_of t k → e.first + i ≡ first_of t k + j → ⊥
      by k at other i j inside there same = elim (cases_eq (slice_of k) 0) [
        | inl log ↦
            let ends = logs.logs k log (omega (arith, there)) in
            let least = slots.ordered.least number e slot.lies in
            absurd (omega (arith, ends, least, there, same))
        | inr member ↦
            let m = slice_of k - 1 in
            let slice : k ≡ member_slice place m = omega (arith, at, member, low_number) in
            let low : m < 16 = omega (arith, at, member) in
            not_shared m low (λ equal. other (slice ∙ ap (member_slice place) equal)) i j inside (subst (λ d. j < sectors_of t d) slice there)
            (subst (λ d. e.first + i ≡ first_of t d + j) slice same)
      ]

  -- so the slice is added
  pub slot_adds : (u : Slices) (r : Result (Unit {0}) SliceFault)
      → (r ≡ Err Unseated → seat_of t place ≡ None)
      → (r ≡ Err Outside → IsPast t a place e.first e.sectors)
      → (r ≡ Err Overlap → IsWithin t a place e.first e.sectors × Overlaps t (17 * place + (number + 1)) e.first e.sectors)
      → OnOk r (Adds t u (17 * place + (number + 1)) e.first e.sectors)
      → Adds t u (member_slice place number) e.first e.sectors
  slot_adds u r unseated outside overlap added =
      let same : 17 * place + (number + 1) ≡ member_slice place number = omega arith in
      subst (λ k. Adds t u k e.first e.sectors) same
      (not_refused r (λ at. is_seated (unseated at)) (λ at. not_past (outside at))
      (λ at. not_over (subst (λ k. Overlaps t k e.first e.sectors) same (overlap at).1)) added)

-- ---- what is kept

pub keeps_same : (t : Slices) → KeepsLogs t t
keeps_same t = record { seats = λ p. refl; firsts = λ k log. refl; sectors = λ k log. refl }

pub keeps_then : (t u v : Slices) → KeepsLogs t u → KeepsLogs u v → KeepsLogs t v
keeps_then t u v one two = record {
  seats = λ p. two.seats p ∙ one.seats p;
  firsts = λ k log. two.firsts k log ∙ one.firsts k log;
  sectors = λ k log. two.sectors k log ∙ one.sectors k log;
}
