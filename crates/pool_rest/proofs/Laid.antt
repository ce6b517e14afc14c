-- Log slices of drives, laid place by place.
use Rattle.std.proofs.Common.{◌≡◌, ◌≢◌, ℕ, ◌+◌, ◌<◌, ◌≤◌, ◌==◌, ◌&&◌, ◌||◌, Bool, true, false, nat_lt, nat_le, if◌then◌else◌, List, [], ◌∷◌, ◌++◌, length, Option, Some, None, unwrap_or, refl, sym, ap, subst, ◌∙◌, inl, inr, arith, eq-eqb, lt-ltb, le-ltb, ltb-true}
use Rattle.std.specs.Option.{option_map_or}
use Rattle.std.specs.List.{slice_index}
use Rattle.std.proofs.lemmas.List.Folds.{list_any_at}
use Rattle.std.proofs.lemmas.Option.{none-some}
use Rattle.std.proofs.lemmas.Bool.{cases_eq, cases_lt, and_parts, ne_eqb}
use Rattle.std.proofs.lemmas.List.{length-append}
use Rattle.rack.specs.Seen.{Image, RackView}
use Rattle.pool_state.specs.declared.contents.State.{State}
use Rattle.slice_rack.specs.Slices.{Slices, seat_of, first_of, sectors_of, disk_of}
use Rattle.slice_rack.specs.Sliced.{sliced}
use Rattle.slice_rack.specs.Changes.{IsEmpty}
use Rattle.array_image.specs.Places.{place_of, slice_of, log_slice, state_sector, log_sectors, arrays_first}
use Rattle.array_image.specs.States.{is_current}
use Rattle.pool_image.specs.Disks.{disks_of}
use Rattle.pool_image.specs.Replay.{Extent, log_extent, logs_of}
use Rattle.log_laws.specs.View.{names}
use Rattle.log_laws.specs.Phases.{AreLogs}
use Rattle.pool_scan.specs.declared.Known.{Known}
use Rattle.pool_scan.specs.Choosing.{seat_by}
use Rattle.pool_scan.proofs.Seated.{seat_by_stands}
use Rattle.pool_rest.specs.Laying.{LaysLog, laid_sectors, IsLaidBelow}
use Rattle.pool_rest.specs.Standing.{IsLaid}

and_false : (b : Bool) → (b && false) ≡ false
and_false true = refl
and_false false = refl

if_same : {X : Type 0} (b : Bool) (x : X) → (if b then x else x) ≡ x
if_same true x = refl
if_same false x = refl

-- ---- one place after another

pub laid_start : (x : RackView) (known : List Known) (s : State) (t : Slices) → IsEmpty t → IsLaidBelow x known s 0 t []
laid_start x known s t empty = record {
  seats = λ p below. absurd (omega (arith, below));
  none = λ p from. empty.seats p;
  sectors = λ k below. absurd (omega (arith, below));
  firsts = λ k some. absurd (omega (arith, some, empty.slices k));
  empty = λ k from. empty.slices k;
  places = λ p. sym (ap (λ b. b && nat_lt 0 (sectors_of t (log_slice p))) (le-ltb p 0 (omega arith)));
  few = omega arith;
}

-- a place without a disk
no_sectors : (x : RackView) (known : List Known) (s : State) (k : ℕ) → seat_by s known (place_of k) ≡ None → laid_sectors x known s k ≡ 0
no_sectors x known s k none =
    ap (λ o. if slice_of k == 0 then option_map_or (λ d. if nat_le arrays_first (x.sectors d) then log_sectors else 0) o 0 else 0) none
    ∙ if_same (slice_of k == 0) 0

nat_lt_more : (p many : ℕ) → p ≢ many → nat_lt p (many + 1) ≡ nat_lt p many
nat_lt_more p many other =
    elim (cases_lt p many) [
      | inl below ↦ lt-ltb p (many + 1) (omega (arith, below)) ∙ sym (lt-ltb p many below)
      | inr from ↦ le-ltb p (many + 1) (omega (arith, from, other)) ∙ sym (le-ltb p many from)
    ]

pub laid_over : (x : RackView) (known : List Known) (s : State) (many : ℕ) (t : Slices) (on : List ℕ) → seat_by s known many ≡ None
    → IsLaidBelow x known s many t on → IsLaidBelow x known s (many + 1) t on
laid_over x known s many t on none laid = record {
  seats = λ p below. elim (cases_eq p many) [
    | inl last ↦ laid.none p (omega (arith, last)) ∙ sym (ap (seat_by s known) last ∙ none)
    | inr other ↦ laid.seats p (omega (arith, below, other))
  ];
  none = λ p from. laid.none p (omega (arith, from));
  sectors = λ k below. elim (cases_eq (place_of k) many) [
    | inl last ↦ laid.empty k (omega (arith, last)) ∙ sym (no_sectors x known s k (ap (seat_by s known) last ∙ none))
    | inr other ↦ laid.sectors k (omega (arith, below, other))
  ];
  firsts = laid.firsts;
  empty = λ k from. laid.empty k (omega (arith, from));
  places = λ p. elim (cases_eq p many) [
    | inr other ↦ laid.places p ∙ ap (λ b. b && nat_lt 0 (sectors_of t (log_slice p))) (sym (nat_lt_more p many other))
    | inl last ↦
        let nothing : nat_lt 0 (sectors_of t (log_slice p)) ≡ false = le-ltb 0 (sectors_of t (log_slice p)) (omega (arith, laid.empty (log_slice p) (omega (arith, last)))) in
        laid.places p ∙ ap (λ b. nat_lt p many && b) nothing ∙ and_false (nat_lt p many)
        ∙ sym (ap (λ b. nat_lt p (many + 1) && b) nothing ∙ and_false (nat_lt p (many + 1)))
  ];
  few = let few = laid.few in omega (arith, few);
}

names_more : (on : List ℕ) (m p : ℕ) → names (on ++ m ∷ []) p ≡ (names on p || (m == p))
names_more [] m p = or_false (m == p)
  where
    or_false : (b : Bool) → (b || false) ≡ b
    or_false true = refl
    or_false false = refl
names_more (q ∷ on) m p = ap (λ b. (q == p) || b) (names_more on m p) ∙ or_assoc (q == p) (names on p) (m == p)
  where
    or_assoc : (a b c : Bool) → (a || (b || c)) ≡ ((a || b) || c)
    or_assoc true b c = refl
    or_assoc false b c = refl

-- the places with one more, if it has a log slice
abbrev pub listed : Bool → ℕ → List ℕ → List ℕ
listed done many on = if done then on ++ many ∷ [] else on

names_listed : (done : Bool) (many : ℕ) (on : List ℕ) (p : ℕ) → names (listed done many on) p ≡ (names on p || (done && (many == p)))
names_listed true many on p = names_more on many p
names_listed false many on p = or_false (names on p)
  where
    or_false : (b : Bool) → b ≡ (b || false)
    or_false true = refl
    or_false false = refl

few_listed : (done : Bool) (many : ℕ) (on : List ℕ) → length on ≤ many → length (listed done many on) ≤ many + 1
few_listed true many on few = omega (arith, few, length-append on (many ∷ []))
few_listed false many on few = omega (arith, few)

pub laid_place : (x : RackView) (known : List Known) (s : State) (many d : ℕ) (t u : Slices) (on : List ℕ) (done : Bool) → seat_by s known many ≡ Some d
    → LaysLog x t u many d done → IsLaidBelow x known s many t on → IsLaidBelow x known s (many + 1) u (listed done many on)
laid_place x known s many d t u on done seat lays laid = record {
  seats = λ p below. elim (cases_eq p many) [
    | inl last ↦ here p last ∙ sym (ap (seat_by s known) last ∙ seat)
    | inr other ↦ there p other ∙ laid.seats p (omega (arith, below, other))
  ];
  none = λ p from. there p (λ last. absurd (omega (arith, from, last))) ∙ laid.none p (omega (arith, from));
  sectors = λ k below. elim (cases_eq (place_of k) many) [
    | inr other ↦ lays.sectors k other ∙ laid.sectors k (omega (arith, below, other))
    | inl last ↦ elim (cases_eq (slice_of k) 0) [
      | inl first ↦ log_here k last first ∙ sym (laid_here k last first)
      | inr other ↦
          lays.others k last (λ same. other (omega (arith, same)))
          ∙ sym (ap (λ b. if b then option_map_or (λ d. if nat_le arrays_first (x.sectors d) then log_sectors else 0) (seat_by s known (place_of k)) 0 else 0) (ne_eqb (slice_of k) 0 other))
    ]
  ];
  firsts = λ k some. elim (cases_eq (place_of k) many) [
    | inr other ↦ lays.firsts k other ∙ laid.firsts k (subst (λ n. 0 < n) (lays.sectors k other) some)
    | inl last ↦ elim (cases_eq (slice_of k) 0) [
      | inl first ↦
          let is : k ≡ log_slice many = omega (arith, last, first) in
          ap (first_of u) is ∙ lays.first (by_done done refl (subst (λ n. 0 < n) (log_here k last first) some))
      | inr other ↦ absurd (omega (arith, some, lays.others k last (λ same. other (omega (arith, same)))))
    ]
  ];
  empty = λ k from. lays.sectors k (λ last. absurd (omega (arith, from, last))) ∙ laid.empty k (omega (arith, from));
  places = λ p. names_listed done many on p ∙ elim (cases_eq p many) [
    | inl last ↦ at_last p last
    | inr other ↦
        ap (λ b. names on p || (done && b)) (ne_eqb many p (λ same. other (sym same))) ∙ or_off (names on p) done ∙ laid.places p
        ∙ ap (λ b. b && nat_lt 0 (sectors_of t (log_slice p))) (sym (nat_lt_more p many other))
        ∙ ap (λ n. nat_lt p (many + 1) && nat_lt 0 n) (sym (lays.sectors (log_slice p) (λ same. other (omega (arith, same)))))
  ];
  few = few_listed done many on laid.few;
}
  where
    here : (p : ℕ) → p ≡ many → seat_of u p ≡ Some d
    here p last = lays.seats p ∙ ap (λ b. if b then Some d else seat_of t p) (eq-eqb p many last)

    there : (p : ℕ) → p ≢ many → seat_of u p ≡ seat_of t p
    there p other = lays.seats p ∙ ap (λ b. if b then Some d else seat_of t p) (ne_eqb p many other)

    log_here : (k : ℕ) → place_of k ≡ many → slice_of k ≡ 0 → sectors_of u k ≡ (if done then log_sectors else 0)
    log_here k last first = let is : k ≡ log_slice many = omega (arith, last, first) in ap (sectors_of u) is ∙ lays.log

    laid_here : (k : ℕ) → place_of k ≡ many → slice_of k ≡ 0 → laid_sectors x known s k ≡ (if done then log_sectors else 0)
    laid_here k last first =
        ap (λ b. if b then option_map_or (λ d. if nat_le arrays_first (x.sectors d) then log_sectors else 0) (seat_by s known (place_of k)) 0 else 0) (eq-eqb (slice_of k) 0 first)
        ∙ ap (λ o. option_map_or (λ d. if nat_le arrays_first (x.sectors d) then log_sectors else 0) o 0) (ap (seat_by s known) last ∙ seat)
        ∙ ap (λ b. if b then log_sectors else 0) (sym lays.room)

    by_done : (b : Bool) → done ≡ b → 0 < (if done then log_sectors else 0) → done ≡ true
    by_done true is some = is
    by_done false is some = absurd (omega (arith, subst (λ b. 0 < (if b then log_sectors else 0)) is some))

    or_off : (b c : Bool) → (b || (c && false)) ≡ b
    or_off true c = refl
    or_off false c = and_false c

    has : (b : Bool) → (b && true) ≡ nat_lt 0 (if b then log_sectors else 0)
    has true = refl
    has false = refl

    at_last : (p : ℕ) → p ≡ many → (names on p || (done && (many == p))) ≡ (nat_lt p (many + 1) && nat_lt 0 (sectors_of u (log_slice p)))
    at_last p last =
        ap (λ b. b || (done && (many == p))) (laid.places p ∙ ap (λ b. b && nat_lt 0 (sectors_of t (log_slice p))) (le-ltb p many (omega (arith, last))))
        ∙ ap (λ b. done && b) (eq-eqb many p (sym last)) ∙ has done
        ∙ ap (λ n. nat_lt 0 n) (sym (ap (λ q. sectors_of u (log_slice q)) last ∙ lays.log))
        ∙ ap (λ b. b && nat_lt 0 (sectors_of u (log_slice p))) (sym (lt-ltb p (many + 1) (omega (arith, last))))

-- a disk that is taken for a place is no other place's
pub free_place : (x : RackView) (known : List Known) (s : State) (many d p : ℕ) (t : Slices) (on : List ℕ) → IsLaidBelow x known s many t on
    → seat_by s known many ≡ Some d → seat_of t p ≡ Some d → p ≡ many
free_place x known s many d p t on laid seat at =
    elim (cases_lt p many) [
      | inr from ↦ absurd (none-some d (sym (laid.none p from) ∙ at))
      | inl below ↦
          let other = seat_by_stands s known p d (sym (laid.seats p below) ∙ at) in
          some_same p many (sym other.1 ∙ (seat_by_stands s known many d seat).1)
    ]
  where
    some_same : (m n : ℕ) → Some m ≡ Some n → m ≡ n
    some_same m n is = (cc)

-- ---- all places

disk_is : (t : Slices) (k d : ℕ) → seat_of t (place_of k) ≡ Some d → disk_of t k ≡ d
disk_is t k d is = ap (λ o. unwrap_or o 0) is

-- what a slice of one of the sixteen places shows
laid_shows : (x a : RackView) (known : List Known) (s : State) (t : Slices) (on : List ℕ) → ((d : ℕ) → x.sectors d ≡ a.sectors d)
    → IsLaidBelow x known s 16 t on → (c : Image) (k u : ℕ) → k < 272 → sliced t c k u ≡ logs_of (disks_of a) (seat_by s known) c k u
laid_shows x a known s t on same laid c k u few =
    elim (cases_eq (slice_of k) 0) [
      | inr other ↦
          let none : sectors_of t k ≡ 0 =
          laid.sectors k (omega (arith, few))
          ∙ ap (λ b. if b then option_map_or (λ d. if nat_le arrays_first (x.sectors d) then log_sectors else 0) (seat_by s known (place_of k)) 0 else 0) (ne_eqb (slice_of k) 0 other) in
          nothing none
          ∙ sym (ap (λ b. if b && nat_lt u log_sectors then option_map_or (λ d. option_map_or (λ (e : Extent). c d (e.first + u)) (log_extent (a.sectors d)) []) (seat_by s known (place_of k)) [] else []) (ne_eqb (slice_of k) 0 other))
      | inl first ↦ of_seat first (seat_by s known (place_of k)) refl
    ]
  where
    nothing : sectors_of t k ≡ 0 → sliced t c k u ≡ []
    nothing none = ap (λ b. if b then c (disk_of t k) (first_of t k + u) else []) (le-ltb u (sectors_of t k) (omega (arith, none)))

    laid_is : slice_of k ≡ 0 → (o : Option ℕ) → seat_by s known (place_of k) ≡ o
        → sectors_of t k ≡ option_map_or (λ d. if nat_le arrays_first (x.sectors d) then log_sectors else 0) o 0
    laid_is first o seat =
        laid.sectors k (omega (arith, few))
        ∙ ap (λ b. if b then option_map_or (λ d. if nat_le arrays_first (x.sectors d) then log_sectors else 0) (seat_by s known (place_of k)) 0 else 0) (eq-eqb (slice_of k) 0 first)
        ∙ ap (λ p. option_map_or (λ d. if nat_le arrays_first (x.sectors d) then log_sectors else 0) p 0) seat

    logs_are : slice_of k ≡ 0 → (o : Option ℕ) → seat_by s known (place_of k) ≡ o
        → logs_of (disks_of a) (seat_by s known) c k u
        ≡ (if nat_lt u log_sectors then option_map_or (λ d. option_map_or (λ (e : Extent). c d (e.first + u)) (log_extent (a.sectors d)) []) o [] else [])
    logs_are first o seat =
        ap (λ b. if b && nat_lt u log_sectors then option_map_or (λ d. option_map_or (λ (e : Extent). c d (e.first + u)) (log_extent (a.sectors d)) []) (seat_by s known (place_of k)) [] else []) (eq-eqb (slice_of k) 0 first)
        ∙ ap (λ p. if nat_lt u log_sectors then option_map_or (λ d. option_map_or (λ (e : Extent). c d (e.first + u)) (log_extent (a.sectors d)) []) p [] else []) seat

    of_room : slice_of k ≡ 0 → (d : ℕ) → seat_by s known (place_of k) ≡ Some d → (b : Bool) → nat_le arrays_first (a.sectors d) ≡ b
        → sectors_of t k ≡ (if b then log_sectors else 0)
        → sliced t c k u ≡ (if nat_lt u log_sectors then option_map_or (λ (e : Extent). c d (e.first + u)) (if b then Some (record { first = state_sector; sectors = log_sectors }) else None) [] else [])
    of_room first d seat false room sectors = nothing sectors ∙ sym (if_same (nat_lt u log_sectors) [])
    of_room first d seat true room sectors =
        ap (λ n. if nat_lt u n then c (disk_of t k) (first_of t k + u) else []) sectors
        ∙ ap (λ e. if nat_lt u log_sectors then c e (first_of t k + u) else []) (disk_is t k d (laid.seats (place_of k) (omega (arith, few)) ∙ seat))
        ∙ ap (λ f. if nat_lt u log_sectors then c d (f + u) else []) (laid.firsts k (omega (arith, sectors)))

    of_seat : slice_of k ≡ 0 → (o : Option ℕ) → seat_by s known (place_of k) ≡ o → sliced t c k u ≡ logs_of (disks_of a) (seat_by s known) c k u
    of_seat first None seat = nothing (laid_is first None seat) ∙ sym (logs_are first None seat ∙ if_same (nat_lt u log_sectors) [])
    of_seat first (Some d) seat =
        of_room first d seat (nat_le arrays_first (a.sectors d)) refl
        (laid_is first (Some d) seat ∙ ap (λ n. if nat_le arrays_first n then log_sectors else 0) (same d))
        ∙ sym (logs_are first (Some d) seat)

-- a place with a log slice is current, and its log slice is whole
pub has_log : (x : RackView) (known : List Known) (s : State) (t : Slices) (on : List ℕ) (p : ℕ) → IsLaidBelow x known s 16 t on → 0 < sectors_of t (log_slice p)
    → (p < 16) × (is_current s p ≡ true) × (sectors_of t (log_slice p) ≡ log_sectors)
has_log x known s t on p laid some =
    elim (cases_lt p 16) [
      | inr past ↦ absurd (omega (arith, some, laid.empty (log_slice p) (omega (arith, past))))
      | inl few ↦
          let place : place_of (log_slice p) ≡ p = omega arith in
          let sectors : sectors_of t (log_slice p) ≡ option_map_or (λ d. if nat_le arrays_first (x.sectors d) then log_sectors else 0) (seat_by s known p) 0 =
          laid.sectors (log_slice p) (omega (arith, few))
          ∙ ap (λ b. if b then option_map_or (λ d. if nat_le arrays_first (x.sectors d) then log_sectors else 0) (seat_by s known (place_of (log_slice p))) 0 else 0)
          (eq-eqb (slice_of (log_slice p)) 0 (omega arith))
          ∙ ap (λ q. option_map_or (λ d. if nat_le arrays_first (x.sectors d) then log_sectors else 0) (seat_by s known q) 0) place in
          of_seat few (seat_by s known p) refl sectors
    ]
  where
    whole : (d : ℕ) (b : Bool) → sectors_of t (log_slice p) ≡ (if b then log_sectors else 0) → sectors_of t (log_slice p) ≡ log_sectors
    whole d true is = is
    whole d false is = absurd (omega (arith, some, is))

    of_seat : p < 16 → (o : Option ℕ) → seat_by s known p ≡ o
        → sectors_of t (log_slice p) ≡ option_map_or (λ d. if nat_le arrays_first (x.sectors d) then log_sectors else 0) o 0
        → (p < 16) × (is_current s p ≡ true) × (sectors_of t (log_slice p) ≡ log_sectors)
    of_seat few None seat is = absurd (omega (arith, some, is))
    of_seat few (Some d) seat is = (few, (seat_by_stands s known p d seat).2, whole d (nat_le arrays_first (x.sectors d)) is)

named_log : (x : RackView) (known : List Known) (s : State) (t : Slices) (on : List ℕ) (p : ℕ) → IsLaidBelow x known s 16 t on → names on p ≡ true
    → (p < 16) × (is_current s p ≡ true) × (sectors_of t (log_slice p) ≡ log_sectors)
named_log x known s t on p laid named =
    has_log x known s t on p laid
    (ltb-true 0 (sectors_of t (log_slice p)) (and_parts (nat_lt p 16) (nat_lt 0 (sectors_of t (log_slice p))) (sym (laid.places p) ∙ named)).1)

pub laid_logs : (x : RackView) (known : List Known) (s : State) (t : Slices) (on : List ℕ) → IsLaidBelow x known s 16 t on → AreLogs (sectors_of t) on
laid_logs x known s t on laid j below =
    let is = named_log x known s t on (slice_index on j) laid
    (list_any_at (λ q. q == slice_index on j) on j 0 below (eq-eqb (slice_index on j) (slice_index on j) refl)) in
    (is.0, is.2)

pub laid_none : (x : RackView) (known : List Known) (s : State) (t : Slices) (on : List ℕ) → IsLaidBelow x known s 16 t on → (k : ℕ) → 272 ≤ k → sectors_of t k ≡ 0
laid_none x known s t on laid k past = laid.empty k (omega (arith, past))

-- which sectors are laid goes by the disks' sizes
pub sectors_seen : (x a : RackView) (known : List Known) (s : State) (k : ℕ) → ((d : ℕ) → x.sectors d ≡ a.sectors d)
    → laid_sectors x known s k ≡ laid_sectors a known s k
sectors_seen x a known s k same =
    ap (λ n. if slice_of k == 0 then n else 0) (of (seat_by s known (place_of k)))
  where
    of : (o : Option ℕ)
        → option_map_or (λ d. if nat_le arrays_first (x.sectors d) then log_sectors else 0) o 0
        ≡ option_map_or (λ d. if nat_le arrays_first (a.sectors d) then log_sectors else 0) o 0
    of None = refl
    of (Some d) = ap (λ n. if nat_le arrays_first n then log_sectors else 0) (same d)

pub laid_all : (x a : RackView) (known : List Known) (s : State) (t : Slices) (on : List ℕ) → ((d : ℕ) → x.sectors d ≡ a.sectors d)
    → IsLaidBelow x known s 16 t on → IsLaid a known s t on
laid_all x a known s t on same laid = record {
  seats = λ p few. laid.seats p few;
  shows = laid_shows x a known s t on same laid;
  none = laid_none x known s t on laid;
  beyond = laid.none;
  sectors = λ k few. laid.sectors k (omega (arith, few)) ∙ sectors_seen x a known s k same;
  firsts = laid.firsts;
  places = λ p. laid.places p ∙ elim (cases_lt 0 (sectors_of t (log_slice p))) [
    | inr none ↦
        let off : nat_lt 0 (sectors_of t (log_slice p)) ≡ false = le-ltb 0 (sectors_of t (log_slice p)) none in
        ap (λ b. nat_lt p 16 && b) off ∙ and_false (nat_lt p 16) ∙ sym (ap (λ b. is_current s p && b) off ∙ and_false (is_current s p))
    | inl some ↦
        let is = has_log x known s t on p laid some in
        ap (λ b. b && nat_lt 0 (sectors_of t (log_slice p))) (lt-ltb p 16 is.0 ∙ sym is.1)
  ];
  whole = laid_logs x known s t on laid;
}
