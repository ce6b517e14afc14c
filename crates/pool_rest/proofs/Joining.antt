-- What a replay needs of slices where its record takes drives in too: whichever state stands, the same record is pending.
use Rattle.std.proofs.Common.{◌≡◌, ◌⊎◌, ℕ, ◌<◌, ◌≤◌, ◌&&◌, ◌||◌, not, Bool, true, false, if◌then◌else◌, is_none, List, [], filter, map, Option, Some, None, Ok, option_map, inl, inr, refl, sym, ap, subst, ◌∙◌, lt-ltb, le-ltb, arith}
use Rattle.std.specs.List.{list_all, range_with_len}
use Rattle.std.specs.Option.{option_map_or}
use Rattle.std.proofs.lemmas.Bool.{both_ways, cases_Bool, cases_lt, ne_eqb}
use Rattle.std.proofs.lemmas.Option.{none-some}
use Rattle.rack.specs.Values.{IsSingle}
use Rattle.rack.specs.Seen.{Image, RackView, IsLive}
use Rattle.rack.specs.Targets.{look}
use Rattle.pool_state.specs.declared.contents.State.{State}
use Rattle.pool_state.specs.Sector.{decoded}
use Rattle.array_image.specs.Left.{reading}
use Rattle.array_image.specs.Places.{log_slice}
use Rattle.array_image.specs.Record.{Gate, GateAt, damaged_log, gate_in, gate_of, gate_sector, is_bad_gate, is_open_if_of, is_there, pending, pending_at}
use Rattle.array_image.specs.States.{current_places, is_current, state_in}
use Rattle.log_laws.specs.Opening.{CanReplay, Finds, StandsAmid}
use Rattle.commit_log.specs.Scans.{number_of}
use Rattle.log_laws.specs.Standing.{Decides, IsNumbered, StatesStand, deciding}
use Rattle.log_laws.specs.View.{LogView, is_left, left_of, names}
use Rattle.commit_log.proofs.Amid.{no_gate_in_nothing}
use Rattle.log_laws.proofs.Counting.{few_in}
use Rattle.commit_log.proofs.Deciding.{IsOf, IsTop, NoneAbove, all_at, all_or, foremost_among, gate_at, gate_at_is, pending_is_decisive, pending_of_top, record_pending, top}
use Rattle.log_laws.proofs.Epochs.{state_either}
use Rattle.commit_log.proofs.Fewer.{current_of_all, filter_both, filter_names, names_filter, pending_kept, pending_most}
use Rattle.log_laws.proofs.Naming.{names_range}
use Rattle.commit_log.proofs.Undamaged.{whole_from, whole_gates, whole_record}
use Rattle.pool_rest.specs.Moments.{IsGateBelow, IsNoneOrBelow}
use Rattle.pool_rest.proofs.Fewer.{at_fewer, finds_fewer, number_fewer}
use Rattle.pool_rest.proofs.Settled.{open_all}

-- ---- places whose gates have lower numbers count for nothing

pub below_number : (number : ℕ) (block : List ℕ) (g : Gate) → IsNoneOrBelow number block → gate_of block ≡ Some g → g.number < number
below_number number block g (inl nothing) has = absurd (none-some g (sym (ap gate_of nothing ∙ no_gate_in_nothing) ∙ has))
below_number number block g (inr low) has = subst (λ (h : Gate). h.number < number) (some_gate low.0 g (sym low.1 ∙ has)) low.2
  where
    some_gate : (g h : Gate) → Some g ≡ Some h → g ≡ h
    some_gate g h same = (cc)

pub below_formed : (number : ℕ) (block : List ℕ) → IsNoneOrBelow number block → (is_there block && is_none (gate_of block)) ≡ false
below_formed number block (inl nothing) = ap (λ (b : List ℕ). is_there b && is_none (gate_of b)) nothing
below_formed number block (inr low) = ap (λ (o : Option Gate). is_there block && is_none o) low.1 ∙ and_false (is_there block)
  where
    and_false : (b : Bool) → (b && false) ≡ false
    and_false true = refl
    and_false false = refl

module _ (c : Image) (f : ℕ → Bool) (ps : List ℕ) (a : GateAt) (is : pending_at (filter f ps) c ≡ Some a)
    (lower : (p : ℕ) (g : Gate) → names ps p ≡ true → f p ≡ false → gate_in c p ≡ Some g → g.number < a.gate.number) where
  none_above : NoneAbove (gate_at c) ps (number_of a)
  none_above p b named at = elim (cases_Bool (f p)) [
    | inl kept ↦ pending_most c (filter f ps) a is p b (filter_names f ps p kept named) at
    | inr out ↦ (let low = lower p b.gate named out (gate_at_is c p b at).1 in omega (arith, low))
  ]

  of : IsOf (gate_at c) (filter f ps) a
  of = foremost_among (gate_at c) (filter f ps) a (pending_is_decisive c (filter f ps) a is)

  first : IsTop (gate_at c) ps (number_of a)
  first = top (gate_at c) ps (number_of a) of.place a none_above (names_filter f ps of.place of.is_among).1 of.gives refl

  open_one : (p : ℕ) → names ps p ≡ true → is_open_if_of (number_of a) (gate_at c p) ≡ true
  open_one p named = elim (cases_Bool (f p)) [
    | inl kept ↦ all_at (is_open_if_of (number_of a)) (gate_at c) (filter f ps) p (open_all c (filter f ps) a is) (filter_names f ps p kept named)
    | inr out ↦ of_gate (gate_in c p) (λ g at. lower p g named out at)
  ]
    where
      of_gate : (o : Option Gate) → ((g : Gate) → o ≡ Some g → g.number < a.gate.number) → is_open_if_of (number_of a) (option_map (λ g. record { place = p; gate = g }) o) ≡ true
      of_gate None low = refl
      of_gate (Some g) low = ap (λ b. not b || g.is_open) (ne_eqb g.number a.gate.number (λ same. absurd (let less = low g refl in omega (arith, less, same))))

  all : list_all (is_open_if_of (number_of a)) (map (gate_at c) ps) ≡ true
  all = elim (all_or (is_open_if_of (number_of a)) (gate_at c) ⊥ ps (λ p named. inl (open_one p named))) [ inl opens ↦ opens | inr none ↦ absurd none ]

  top_pending : pending_at ps c ≡ Some first.gate
  top_pending = pending_of_top c ps (number_of a) first all

  kept_first : f first.gate.place ≡ true
  kept_first =
      let at = gate_at_is c first.is_of.place first.gate first.is_of.gives in
      elim (cases_Bool (f first.is_of.place)) [
        | inl kept ↦ ap f at.0 ∙ kept
        | inr out ↦ absurd (let low = lower first.is_of.place first.gate.gate first.is_of.is_among out at.1 in let same = first.number_is in omega (arith, low, same))
      ]

  pub pending_more : pending_at ps c ≡ Some a
  pending_more = top_pending ∙ sym (pending_kept c f ps first.gate kept_first top_pending) ∙ is

  module _ (formed : (p : ℕ) → names ps p ≡ true → f p ≡ false → is_bad_gate c p ≡ false) (whole : damaged_log (filter f ps) c ≡ None) where
    gates : (p : ℕ) → names ps p ≡ true → is_bad_gate c p ≡ false
    gates p named = elim (cases_Bool (f p)) [
      | inl kept ↦ whole_gates c (filter f ps) p whole (filter_names f ps p kept named)
      | inr out ↦ formed p named out
    ]

    pub targets_more : pending ps c ≡ pending (filter f ps) c
    targets_more =
        let has = whole_record c (filter f ps) whole a is in
        record_pending c ps a has.0 gates pending_more has.1
        ∙ sym (record_pending c (filter f ps) a has.0 (λ p named. whole_gates c (filter f ps) p whole named) is has.1)

    pub whole_more : damaged_log ps c ≡ None
    whole_more = whole_from c ps gates (λ b at. whole_record c (filter f ps) whole b (is ∙ sym pending_more ∙ at))

-- ---- a replay

-- On `on` are the places that stay, of those that have a log slice; the record is found on them. Others have lower gates.
module _ (l : LogView) (on : List ℕ) (s0 s : State) (x : RackView) (is_pending : Bool) (a : GateAt)
    (lasting : x.lasting)
    (live : (d k : ℕ) → k < x.sectors d → IsLive x x d k)
    (single : (p k : ℕ) → k < x.sectors (log_slice p) → IsSingle (x.held (log_slice p) k))
    (state : state_in (reading x) ≡ Some s0)
    (few : (p : ℕ) → names on p ≡ true → p < 16)
    (kept : (p : ℕ) → names on p ≡ true → (is_current s0 p ≡ true) × (is_current s p ≡ true))
    (joins : (p : ℕ) → names on p ≡ false → 0 < x.sectors (log_slice p) → IsGateBelow a.gate.number (reading x (log_slice p) gate_sector))
    (finds : Finds l on (left_of on []) is_pending None (reading x))
    (source : pending_at (left_of on []) (reading x) ≡ Some a) (here : names on a.place ≡ true)
    (next : (s ≡ s0) ⊎ (s0.epoch < s.epoch))
    (copies : (p : ℕ) (u : List ℕ) → look l.pending (log_slice p) 0 ≡ Some u → decoded u ≡ Ok (record { state = s; own = p })) where
  abbrev e : Image
  e = reading x

  reads_now : (d k : ℕ) → k < x.sectors d → e d k ≡ (x.held d k).current
  reads_now d k there = ap (λ b. if b then (x.held d k).current else []) (lt-ltb k (x.sectors d) there)

  reads_nothing : (d k : ℕ) → x.sectors d ≤ k → e d k ≡ []
  reads_nothing d k past = ap (λ b. if b then (x.held d k).current else []) (le-ltb k (x.sectors d) past)

  -- the state from before stands, or the one that the record brings
  stands : (c : Image) → StatesStand l.pending x c → (state_in c ≡ Some s0) ⊎ (state_in c ≡ Some s)
  stands c stand =
      state_either s0 s c e state (elim next [ inl same ↦ (let epoch = ap (λ (z : State). z.epoch) same in omega (arith, epoch)) | inr later ↦ omega (arith, later) ])
      (λ p low. elim (cases_lt 0 (x.sectors (log_slice p))) [
        | inr none ↦ inl (stand.inside p (omega (arith, none)) ∙ sym (reads_nothing (log_slice p) 0 none))
        | inl there ↦ elim (stand.picks p (live (log_slice p) 0 there)) [
          | inl old ↦ inl (single p 0 there (c (log_slice p) 0) old ∙ sym (reads_now (log_slice p) 0 there))
          | inr new ↦ inr (record { own = p; copy = copies p (c (log_slice p) 0) new; drive = refl })
        ]
      ])

  -- one of the two is the state of the places that decide
  which : (c : Image) → StatesStand l.pending x c → (z : State) → state_in c ≡ Some z → (z ≡ s0) ⊎ (z ≡ s)
  which c stand z is = elim (stands c stand) [ inl old ↦ inl (some_state z s0 (sym is ∙ old)) | inr new ↦ inr (some_state z s (sym is ∙ new)) ]
    where
      some_state : (y z : State) → Some y ≡ Some z → y ≡ z
      some_state y z same = (cc)

  -- the gate of another place is lower, or there is none
  gate_out : (p : ℕ) → names on p ≡ false → IsNoneOrBelow a.gate.number (e (log_slice p) gate_sector)
  gate_out p out = elim (cases_lt 0 (x.sectors (log_slice p))) [
    | inr none ↦ inl (reads_nothing (log_slice p) gate_sector (omega (arith, none)))
    | inl some ↦ inr (joins p out some)
  ]

  names_left : (p : ℕ) → names on p ≡ true → names (left_of on []) p ≡ true
  names_left p named =
      filter_names (is_left on []) (range_with_len 0 16) p (ap (λ b. b && true) named) (names_range 0 16 p (omega arith) (let low = few p named in omega (arith, low)))

  number : a.gate.number ≡ l.number
  number = number_fewer l on on e e is_pending a few (λ p named. named) (λ p k named some below. refl) source here finds

  -- each gate that decides is well formed, and has a number up to the log's
  numbers : (c : Image) → StatesStand l.pending x c → (p : ℕ) → Decides c p → gate_sector < x.sectors (log_slice p) → IsNumbered l.number x p
  numbers c stand p decides there v may =
      let now : v ≡ e (log_slice p) gate_sector = single p gate_sector there v may ∙ sym (reads_now (log_slice p) gate_sector there) in
      elim (cases_Bool (names on p)) [
        | inl named ↦
            let left = names_left p named in
            let has = some_gate (gate_in e p) (sym (finds.each p left) ∙ whole_gates e (left_of on []) p (sym finds.damaged_is) left) in
            (has.0, ap gate_of now ∙ has.1, finds.above p has.0 left has.1)
        | inr out ↦
            let gate = joins p out (omega (arith, there)) in
            (gate.0, ap gate_of now ∙ gate.1, (let low = gate.2 in let same = number in omega (arith, low, same)))
      ]
    where
      some_gate : (o : Option Gate) → is_none o ≡ false → (g : Gate) × (o ≡ Some g)
      some_gate None some = absurd (both_ways true some refl)
      some_gate (Some g) some = (g, refl)

  -- ---- at each moment

  module _ (c : Image) (amid : StandsAmid l.pending x c) where
    agree : (p k : ℕ) → 0 < k → c (log_slice p) k ≡ e (log_slice p) k
    agree p k some = elim (cases_lt k (x.sectors (log_slice p))) [
      | inr past ↦ amid.inside p k past ∙ sym (reads_nothing (log_slice p) k past)
      | inl there ↦ single p k there (c (log_slice p) k) (amid.parts p k some (live (log_slice p) k there)) ∙ sym (reads_now (log_slice p) k there)
    ]

    found : Finds l on (left_of on []) is_pending None c
    found = finds_fewer l on on e c is_pending a few (λ p named. named) (λ p k named some below. agree p k some) source here finds

    at : pending_at (left_of on []) c ≡ Some a
    at = at_fewer l on on e c is_pending a few (λ p named. named) (λ p k named some below. agree p k some) source here finds

    by_state : (z : State) → state_in c ≡ Some z → filter (names on) (deciding c) ≡ left_of on []
    by_state z is =
        ap (filter (names on)) (ap (λ (o : Option State). option_map_or current_places o []) is ∙ current_of_all z (few_in c z is))
        ∙ filter_both (names on) (is_current z) (is_left on []) (range_with_len 0 16) (λ p. by (names on p) (is_current z p) (current p))
      where
        current : (p : ℕ) → names on p ≡ true → is_current z p ≡ true
        current p named = elim (which c amid.states z is) [
          | inl old ↦ ap (λ (y : State). is_current y p) old ∙ (kept p named).0
          | inr new ↦ ap (λ (y : State). is_current y p) new ∙ (kept p named).1
        ]

        by : (b d : Bool) → (b ≡ true → d ≡ true) → (b && not (names [] 0)) ≡ (d && b)
        by true true less = refl
        by true false less = absurd (both_ways false refl (less refl))
        by false true less = refl
        by false false less = refl

    places : filter (names on) (deciding c) ≡ left_of on []
    places = elim (stands c amid.states) [ inl old ↦ by_state s0 old | inr new ↦ by_state s new ]

    gate_now : (p : ℕ) → names (deciding c) p ≡ true → names on p ≡ false
        → IsNoneOrBelow a.gate.number (c (log_slice p) gate_sector)
    gate_now p named out =
        subst (IsNoneOrBelow a.gate.number) (sym (agree p gate_sector (omega arith)))
        (gate_out p out)

    source_now : pending_at (filter (names on) (deciding c)) c ≡ Some a
    source_now = ap (λ ps. pending_at ps c) places ∙ at

    lower : (p : ℕ) (g : Gate) → names (deciding c) p ≡ true → names on p ≡ false → gate_in c p ≡ Some g → g.number < a.gate.number
    lower p g named out has = below_number a.gate.number (c (log_slice p) gate_sector) g (gate_now p named out) has

    formed : (p : ℕ) → names (deciding c) p ≡ true → names on p ≡ false → is_bad_gate c p ≡ false
    formed p named out = below_formed a.gate.number (c (log_slice p) gate_sector) (gate_now p named out)

    whole_left : damaged_log (filter (names on) (deciding c)) c ≡ None
    whole_left = ap (λ ps. damaged_log ps c) places ∙ sym found.damaged_is

    same : pending (deciding c) c ≡ l.pending
    same =
        targets_more c (names on) (deciding c) a source_now lower formed whole_left
        ∙ ap (λ ps. pending ps c) places ∙ sym found.targets

    whole : damaged_log (deciding c) c ≡ None
    whole = whole_more c (names on) (deciding c) a source_now lower formed whole_left

    numbered : (g : GateAt) → pending_at (deciding c) c ≡ Some g → g.gate.number ≡ l.number
    numbered g is =
        ap (λ (h : GateAt). h.gate.number) (some_gate g a (sym is ∙ pending_more c (names on) (deciding c) a source_now lower)) ∙ number
      where
        some_gate : (g h : GateAt) → Some g ≡ Some h → g ≡ h
        some_gate g h same = (cc)

  pub joining_can_replay : CanReplay l x
  joining_can_replay = record {
    lasting = lasting;
    logs = λ p k low there. live (log_slice p) k there;
    targets = λ d k v is there. live d k there;
    numbers = numbers;
    same = same;
    whole = whole;
    number = numbered;
  }
