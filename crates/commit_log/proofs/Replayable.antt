-- A replay's premise from what an opening finds: slices at rest, and their pending record as it was loaded.
use Rattle.std.proofs.Common.{◌≡◌, ◌⊎◌, ℕ, ◌+◌, ◌<◌, ◌≤◌, Bool, true, false, ◌&&◌, ◌==◌, nat_lt, is_none, if◌then◌else◌, List, [], ◌∷◌, filter, Option, Some, None, option_map, refl, sym, ap, subst, ◌∙◌, inl, inr, arith, lt-ltb, le-ltb, ltb-true, eqb-true}
use Rattle.std.specs.Option.{option_map_or, option_or}
use Rattle.std.specs.List.{list_all, range_with_len}
use Rattle.std.proofs.lemmas.Bool.{cases_Bool, cases_lt, both_ways, and_parts, and_from}
use Rattle.std.proofs.lemmas.Option.{none-some, cond_some}
use Rattle.rack.specs.Values.{MayLeave}
use Rattle.rack.specs.Seen.{Image, RackView, IsLive}
use Rattle.rack.specs.Sequences.{OnlyReads}
use Rattle.rack.specs.Targets.{Target, is_at, look}
use Rattle.pool_state.specs.declared.contents.State.{State}
use Rattle.array_image.specs.Places.{log_slice, log_sectors}
use Rattle.array_image.specs.Record.{Gate, GateAt, gate_sector, gate_of, gate_in, half_of, is_target, is_there, is_bad_gate, record_in, pending_at, pending, damaged_log}
use Rattle.array_image.specs.States.{state_in, is_current, current_places}
use Rattle.array_image.specs.Left.{reading}
use Rattle.log_laws.specs.View.{LogView, names, is_left, left_of}
use Rattle.log_laws.specs.Standing.{StatesStand, deciding, Decides, IsNumbered, SomeoneDecides}
use Rattle.log_laws.specs.Opening.{PendingCall, StandsAmid, CanReplay}
use Rattle.log_laws.specs.Kept.{IsCopyOf, CarriesState}
use Rattle.log_laws.specs.AtRest.{AtRest, IsNext, BringsCopies, Opened}
use Rattle.commit_log.proofs.Deciding.{foremost_among, gate_at, gate_at_is, nothing_pending, record_pending, pending_is_decisive}
use Rattle.commit_log.proofs.Undamaged.{whole_from, whole_by, whole_gates, whole_record}
use Rattle.commit_log.proofs.Restored.{pending_at_by, pending_by}
use Rattle.log_laws.proofs.Counting.{decides_small, named_decides, few_in}
use Rattle.log_laws.proofs.Halves.{record_same}
use Rattle.commit_log.proofs.Amid.{half_least, half_most, no_gate_in_nothing}
use Rattle.commit_log.proofs.Story.{logs_named}
use Rattle.log_laws.proofs.Naming.{names_listed}
use Rattle.commit_log.proofs.Fewer.{filter_names, names_filter, filter_both, current_of_all, pending_at_left, pending_left, pending_most, pending_kept}
use Rattle.log_laws.proofs.Epochs.{state_either}
use Rattle.log_laws.proofs.Kept.{live_on, live_after}
use Rattle.commit_log.proofs.Replaying.{IsSound, pending_sound}

-- ---- a record that was loaded

-- The log's record is pending by the gates of some places, and none of them is damaged.
pub record IsLoaded (l : LogView) (ps : List ℕ) (e : Image) : Type 0 where
  pub same : pending ps e ≡ l.pending
  pub whole : damaged_log ps e ≡ None
  pub number : (a : GateAt) → pending_at ps e ≡ Some a → a.gate.number ≡ l.number

-- the place of a pending record is one of them
pub pending_named : (ps : List ℕ) (e : Image) (a : GateAt) → pending_at ps e ≡ Some a → (names ps a.place ≡ true) × (gate_in e a.place ≡ Some a.gate)
pending_named ps e a is =
    let of = foremost_among (gate_at e) ps a (pending_is_decisive e ps a is) in
    let at = gate_at_is e of.place a of.gives in
    (ap (names ps) at.0 ∙ of.is_among, ap (gate_in e) at.0 ∙ at.1)

-- contents that have the same on the log slices of these places, but for copies of a state
loaded_by : (l : LogView) (ps : List ℕ) (c e : Image)
    → ((p t : ℕ) → names ps p ≡ true → 0 < t → t < log_sectors → c (log_slice p) t ≡ e (log_slice p) t)
    → IsLoaded l ps e → IsLoaded l ps c
loaded_by l ps c e agree loaded =
    let gates : (p : ℕ) → names ps p ≡ true → c (log_slice p) gate_sector ≡ e (log_slice p) gate_sector =
    λ p named. agree p 1 named (omega arith) (omega arith) in
    let records : (a : GateAt) → pending_at ps e ≡ Some a → record_in c a.place a.gate.number ≡ record_in e a.place a.gate.number =
    λ a is.
    record_same a.gate.number (c (log_slice a.place)) (e (log_slice a.place))
    (λ k below.
    agree a.place (half_of a.gate.number + k) (pending_named ps e a is).0
    (omega (arith, half_least a.gate.number)) (omega (arith, below, half_most a.gate.number))) in
    record {
      same = pending_by c e ps gates records ∙ loaded.same;
      whole = whole_by c e ps gates records loaded.whole;
      number = λ a is. loaded.number a (sym (pending_at_by c e ps gates) ∙ is);
    }

-- among fewer places, with its own
loaded_fewer : (l : LogView) (f : ℕ → Bool) (ps : List ℕ) (e : Image) (a : GateAt) → pending_at ps e ≡ Some a → f a.place ≡ true
    → IsLoaded l ps e → IsLoaded l (filter f ps) e
loaded_fewer l f ps e a is kept loaded =
    let still : pending_at (filter f ps) e ≡ Some a = pending_kept e f ps a kept is in
    let has = whole_record e ps loaded.whole a is in
    let gates : (qs : List ℕ) → ((p : ℕ) → names qs p ≡ true → names ps p ≡ true) → (p : ℕ) → names qs p ≡ true → is_bad_gate e p ≡ false =
    λ qs within p named. whole_gates e ps p loaded.whole (within p named) in
    let of_fewer : (p : ℕ) → names (filter f ps) p ≡ true → names ps p ≡ true = λ p named. (names_filter f ps p named).1 in
    let same_gate : (b : GateAt) → pending_at (filter f ps) e ≡ Some b → a ≡ b = λ b at. some_gate a b (sym still ∙ at) in
    record {
      same =
          record_pending e (filter f ps) a has.0 (gates (filter f ps) of_fewer) still has.1
          ∙ sym (record_pending e ps a has.0 (gates ps (λ p named. named)) is has.1) ∙ loaded.same;
      whole =
          whole_from e (filter f ps) (gates (filter f ps) of_fewer)
          (λ b at. whole_record e ps loaded.whole b (is ∙ ap Some (same_gate b at)));
      number = λ b at. loaded.number b (is ∙ ap Some (same_gate b at));
    }
  where
    some_gate : (a b : GateAt) → Some a ≡ Some b → a ≡ b
    some_gate a b same = (cc)

-- among more places, of which the others have nothing
loaded_more : (l : LogView) (f : ℕ → Bool) (ps : List ℕ) (e : Image) → ((p : ℕ) → f p ≡ false → e (log_slice p) gate_sector ≡ [])
    → IsLoaded l (filter f ps) e → IsLoaded l ps e
loaded_more l f ps e nothing loaded =
    let none : (p : ℕ) → f p ≡ false → gate_in e p ≡ None = λ p out. ap gate_of (nothing p out) ∙ no_gate_in_nothing in
    let free : (p : ℕ) → f p ≡ false → is_bad_gate e p ≡ false = λ p out. ap (λ (block : List ℕ). is_there block && is_none (gate_of block)) (nothing p out) in
    let at : pending_at (filter f ps) e ≡ pending_at ps e = pending_at_left f e ps none in
    record {
      same = sym (pending_left f e ps none free) ∙ loaded.same;
      whole =
          whole_from e ps
          (λ p named. elim (cases_Bool (f p)) [
            | inr out ↦ free p out
            | inl is ↦ whole_gates e (filter f ps) p loaded.whole (filter_names f ps p is named)
          ])
          (λ a is. whole_record e (filter f ps) loaded.whole a (at ∙ is));
      number = λ a is. loaded.number a (at ∙ is);
    }

-- ---- slices at rest

reads_now : (x : RackView) (d t : ℕ) → t < x.sectors d → reading x d t ≡ (x.held d t).current
reads_now x d t there = ap (λ b. if b then (x.held d t).current else []) (lt-ltb t (x.sectors d) there)

reads_nothing : (x : RackView) (d t : ℕ) → x.sectors d ≤ t → reading x d t ≡ []
reads_nothing x d t past = ap (λ b. if b then (x.held d t).current else []) (le-ltb t (x.sectors d) past)

only_value : (s : State) (on : List ℕ) (x : RackView) (p t : ℕ) (v : List ℕ) → AtRest s on x → p < 16 → t < x.sectors (log_slice p)
    → MayLeave (x.held (log_slice p) t) v → v ≡ reading x (log_slice p) t
only_value s on x p t v rest few there may = rest.single p t few there v may ∙ sym (reads_now x (log_slice p) t there)

log_live : (s : State) (on : List ℕ) (x : RackView) (p t : ℕ) → AtRest s on x → p < 16 → t < x.sectors (log_slice p) → IsLive x x (log_slice p) t
log_live s on x p t rest few there = rest.live (log_slice p) t (omega (arith, few)) there

and_true : (b : Bool) → (b && true) ≡ b
and_true true = refl
and_true false = refl

-- the places that were asked for
left_is : (on : List ℕ) (p : ℕ) → is_left on [] p ≡ names on p
left_is on p = and_true (names on p)

pub names_left : (s : State) (on : List ℕ) (x : RackView) (p : ℕ) → AtRest s on x → names (left_of on []) p ≡ names on p
names_left s on x p rest =
    names_listed (is_left on [])
    (λ q past. elim (cases_Bool (is_left on [] q)) [
      | inr other ↦ other
      | inl here ↦ absurd (omega (arith, past, (logs_named x.sectors on q rest.slices (sym (left_is on q) ∙ here)).0))
    ]) p
    ∙ left_is on p

-- the log's record is pending by the gates of all current places
loaded_now : (s t : State) (l : LogView) (on : List ℕ) (x : RackView) → Opened s t l on x → IsLoaded l (current_places s) (reading x)
loaded_now s t l on x opened =
    let rest : AtRest s on x = opened.rest in
    let e : Image = reading x in
    let here : ℕ → Bool = λ p. nat_lt 0 (x.sectors (log_slice p)) in
    let all : List ℕ = filter (is_current s) (range_with_len 0 16) in
    let listed : left_of on [] ≡ filter here all =
    sym (filter_both here (is_current s) (is_left on []) (range_with_len 0 16) (λ p. left_is on p ∙ rest.places p)) in
    let read : IsLoaded l (left_of on []) e =
    record {
      same = sym opened.finds.targets;
      whole = sym opened.finds.damaged_is;
      number = λ a is. number_is a is opened.finds.number;
    } in
    let nothing : (p : ℕ) → here p ≡ false → e (log_slice p) gate_sector ≡ [] =
    λ p out. elim (cases_lt 0 (x.sectors (log_slice p))) [
      | inl some ↦ absurd (both_ways (here p) out (lt-ltb 0 (x.sectors (log_slice p)) some))
      | inr none ↦ reads_nothing x (log_slice p) gate_sector (omega (arith, none))
    ] in
    subst (λ ps. IsLoaded l ps e) (sym (current_of_all s (few_in e s rest.state)))
    (loaded_more l here all e nothing (subst (λ ps. IsLoaded l ps e) listed read))
  where
    number_is : (a : GateAt) → pending_at (left_of on []) (reading x) ≡ Some a
        → ((l.number ≡ 0) ⊎ ((p : ℕ) × (g : Gate) × (names on p ≡ true) × (gate_in (reading x) p ≡ Some g) × (g.number ≡ l.number)))
        → a.gate.number ≡ l.number
    number_is a is (inl nothing) =
        let at = pending_named (left_of on []) (reading x) a is in
        omega (arith, opened.finds.above a.place a.gate at.0 at.1, nothing)
    number_is a is (inr some) =
        let at = pending_named (left_of on []) (reading x) a is in
        let below = opened.finds.above a.place a.gate at.0 at.1 in
        let most = pending_most (reading x) (left_of on []) a is some.0 (record { place = some.0; gate = some.1 })
        (names_left s on x some.0 opened.rest ∙ some.2) (ap (λ (o : Option Gate). option_map (λ g. record { place = some.0; gate = g }) o) some.3) in
        omega (arith, below, most, some.4)

-- ---- the states that a stop may leave

-- a copy is as it was, or as a target has it
old_or_brought : (s t : State) (l : LogView) (on : List ℕ) (x : RackView) (c : Image) (p : ℕ) → Opened s t l on x → StatesStand l.pending x c → p < 16
    → (c (log_slice p) 0 ≡ reading x (log_slice p) 0) ⊎ (look l.pending (log_slice p) 0 ≡ Some (c (log_slice p) 0))
old_or_brought s t l on x c p opened stand few =
    elim (cases_lt 0 (x.sectors (log_slice p))) [
      | inr none ↦ inl (stand.inside p (omega (arith, none)) ∙ sym (reads_nothing x (log_slice p) 0 none))
      | inl there ↦ elim (stand.picks p (log_live s on x p 0 opened.rest few there)) [
        | inl old ↦ inl (only_value s on x p 0 (c (log_slice p) 0) opened.rest few there old)
        | inr new ↦ inr new
      ]
    ]

-- the state from before stands, or the one that the record brings
abbrev IsBrought : State → State → RackView → Image → Type 0
IsBrought s t x c = (a : GateAt) × (pending_at (current_places s) (reading x) ≡ Some a) × (state_in c ≡ Some t) × IsNext s t (reading x)

stood : (s t : State) (l : LogView) (on : List ℕ) (x : RackView) (c : Image) → Opened s t l on x → StatesStand l.pending x c
    → (state_in c ≡ Some s) ⊎ IsBrought s t x c
unfolding look
stood s t l on x c opened stand = of_pending (pending_at (current_places s) (reading x)) refl
  where
    by_copies : s.epoch ≤ t.epoch → (state_in c ≡ Some s) ⊎ (state_in c ≡ Some t)
    by_copies up =
        state_either s t c (reading x) opened.rest.state up
        (λ p few. elim (old_or_brought s t l on x c p opened stand few) [
          | inl old ↦ inl old
          | inr new ↦ inr (opened.brings.copies p (c (log_slice p) 0) new)
        ])

    of_pending : (o : Option GateAt) → pending_at (current_places s) (reading x) ≡ o → (state_in c ≡ Some s) ⊎ IsBrought s t x c
    of_pending None is =
        let none : l.pending ≡ [] = sym (loaded_now s t l on x opened).same ∙ nothing_pending (reading x) (current_places s) is in
        elim (state_either s s c (reading x) opened.rest.state (omega arith)
        (λ p few. elim (old_or_brought s t l on x c p opened stand few) [
          | inl old ↦ inl old
          | inr new ↦ absurd (none-some (c (log_slice p) 0) (sym (ap (λ xs. look xs (log_slice p) 0) none) ∙ new))
        ])) [ inl same ↦ inl same | inr same ↦ inl same ]
    of_pending (Some a) is =
        elim opened.brings.either [
          | inl same ↦
              elim (by_copies (let epoch = ap (λ (u : State). u.epoch) same in omega (arith, epoch))) [
                | inl old ↦ inl old
                | inr new ↦ inl (new ∙ ap Some same)
              ]
          | inr next ↦
              elim (by_copies (let up = next.later in omega (arith, up))) [
                | inl old ↦ inl old
                | inr new ↦ inr (a, is, new, next)
              ]
        ]

deciding_of : (c : Image) (u : State) → state_in c ≡ Some u → deciding c ≡ current_places u
deciding_of c u is = ap (λ (o : Option State). option_map_or current_places o []) is

-- the next state's places are some of those of the state
next_places : (s t : State) (x : RackView) (c : Image) → state_in (reading x) ≡ Some s → state_in c ≡ Some t → IsNext s t (reading x)
    → current_places t ≡ filter (is_current t) (current_places s)
next_places s t x c old new next =
    current_of_all t (few_in c t new)
    ∙ sym (filter_both (is_current t) (is_current s) (is_current t) (range_with_len 0 16) both)
    ∙ ap (filter (is_current t)) (sym (current_of_all s (few_in (reading x) s old)))
  where
    both : (p : ℕ) → is_current t p ≡ (is_current s p && is_current t p)
    both p =
        elim (cases_Bool (is_current t p)) [
          | inl is ↦ is ∙ sym (and_from (is_current s p) (is_current t p) (next.current p is) is)
          | inr none ↦ none ∙ sym (and_false (is_current s p)) ∙ ap (λ b. is_current s p && b) (sym none)
        ]
      where
        and_false : (b : Bool) → (b && false) ≡ false
        and_false true = refl
        and_false false = refl

-- whichever state stands, the record is pending by the gates that decide
loaded_then : (s t : State) (l : LogView) (on : List ℕ) (x : RackView) (c : Image) → Opened s t l on x → StatesStand l.pending x c → IsLoaded l (deciding c) (reading x)
loaded_then s t l on x c opened stand =
    let now : IsLoaded l (current_places s) (reading x) = loaded_now s t l on x opened in
    elim (stood s t l on x c opened stand) [
      | inl old ↦ subst (λ ps. IsLoaded l ps (reading x)) (sym (deciding_of c s old)) now
      | inr new ↦
          subst (λ ps. IsLoaded l ps (reading x)) (sym (deciding_of c t new.2 ∙ next_places s t x c opened.rest.state new.2 new.3))
          (loaded_fewer l (is_current t) (current_places s) (reading x) new.0 new.1 (new.3.source new.0 new.1) now)
    ]

loaded_amid : (s t : State) (l : LogView) (on : List ℕ) (x : RackView) (c : Image) → Opened s t l on x → StandsAmid l.pending x c → IsLoaded l (deciding c) c
loaded_amid s t l on x c opened amid =
    loaded_by l (deciding c) c (reading x)
    (λ p k named some below.
    elim (cases_lt k (x.sectors (log_slice p))) [
      | inr past ↦ amid.inside p k past ∙ sym (reads_nothing x (log_slice p) k past)
      | inl there ↦
          let few = decides_small c p (named_decides c p named) in
          only_value s on x p k (c (log_slice p) k) opened.rest few there (amid.parts p k some (log_live s on x p k opened.rest few there))
    ])
    (loaded_then s t l on x c opened amid.states)

-- who decides was current before
current_then : (s t : State) (l : LogView) (on : List ℕ) (x : RackView) (c : Image) (p : ℕ) → Opened s t l on x → StatesStand l.pending x c → Decides c p
    → is_current s p ≡ true
current_then s t l on x c p opened stand decides =
    elim (stood s t l on x c opened stand) [
      | inl old ↦ subst (λ (u : State). is_current u p ≡ true) (some_state decides.0 s (sym decides.1 ∙ old)) decides.2
      | inr new ↦ new.3.current p (subst (λ (u : State). is_current u p ≡ true) (some_state decides.0 t (sym decides.1 ∙ new.2)) decides.2)
    ]
  where
    some_state : (u v : State) → Some u ≡ Some v → u ≡ v
    some_state u v same = (cc)

-- its gate is well formed, and none has a greater number
gate_then : (s t : State) (l : LogView) (on : List ℕ) (x : RackView) (p : ℕ) → Opened s t l on x → is_current s p ≡ true → gate_sector < x.sectors (log_slice p)
    → IsNumbered l.number x p
gate_then s t l on x p opened current there v may =
    let rest : AtRest s on x = opened.rest in
    let now : Image = reading x in
    let named : names on p ≡ true = rest.places p ∙ and_from (is_current s p) (nat_lt 0 (x.sectors (log_slice p))) current (lt-ltb 0 (x.sectors (log_slice p)) (omega (arith, there))) in
    let left : names (left_of on []) p ≡ true = names_left s on x p rest ∙ named in
    let free : is_bad_gate now p ≡ false = whole_gates now (left_of on []) p (sym opened.finds.damaged_is) left in
    let has = some_gate (gate_in now p) (sym (opened.finds.each p left) ∙ free) in
    (has.0, ap gate_of (only_value s on x p gate_sector v rest (logs_named x.sectors on p rest.slices named).0 there may) ∙ has.1, opened.finds.above p has.0 left has.1)
  where
    some_gate : (o : Option Gate) → is_none o ≡ false → (g : Gate) × (o ≡ Some g)
    some_gate None some = absurd (both_ways true some refl)
    some_gate (Some g) some = (g, refl)

-- a target is in a slice
valid_disk : (xs : List Target) (d k : ℕ) (v : List ℕ) → list_all is_target xs ≡ true → look xs d k ≡ Some v → d < 272
unfolding look
valid_disk [] d k v valid is = absurd (none-some v is)
valid_disk (x ∷ xs) d k v valid is =
    of_later (λ w. valid_disk xs d k w (and_parts (is_target x) (list_all is_target xs) valid).1) (look xs d k) refl is
  where
    of_later : ((w : List ℕ) → look xs d k ≡ Some w → d < 272) → (o : Option (List ℕ)) → look xs d k ≡ o
        → option_or o (if is_at d k x then Some x.bytes else None) ≡ Some v → d < 272
    of_later rest (Some w) later is = rest w later
    of_later rest None later is =
        let at = (and_parts (x.disk == d) (x.sector == k) (cond_some (is_at d k x) x.bytes v is).0).0 in
        let low = (and_parts (nat_lt x.disk 272) _ (and_parts (is_target x) (list_all is_target xs) valid).0).0 in
        omega (arith, eqb-true x.disk d at, ltb-true x.disk 272 low)

-- ---- what a replay needs

pub opened_can_replay : (s t : State) (l : LogView) (on : List ℕ) (x : RackView) → Opened s t l on x → CanReplay l x
opened_can_replay s t l on x opened =
    let rest : AtRest s on x = opened.rest in
    let now : IsLoaded l (current_places s) (reading x) = loaded_now s t l on x opened in
    let sound : IsSound l.pending = subst IsSound now.same (pending_sound (current_places s) (reading x)) in
    record {
      lasting = rest.lasting;
      logs = λ p k few there. log_live s on x p k rest few there;
      targets = λ d k v is there. rest.live d k (valid_disk l.pending d k v sound.valid is) there;
      numbers = λ c stand p decides there. gate_then s t l on x p opened (current_then s t l on x c p opened stand decides) there;
      same = λ c amid. (loaded_amid s t l on x c opened amid).same;
      whole = λ c amid. (loaded_amid s t l on x c opened amid).whole;
      number = λ c amid a is. (loaded_amid s t l on x c opened amid).number a is;
    }

-- whichever state stands, a place that was asked for decides
pub opened_someone : (s t : State) (l : LogView) (on : List ℕ) (x : RackView) (p : ℕ) → Opened s t l on x → names on p ≡ true → SomeoneDecides l.pending on [] x
opened_someone s t l on x p opened named c stand =
    let rest : AtRest s on x = opened.rest in
    elim (stood s t l on x c opened stand) [
      | inl old ↦ (p, left_is on p ∙ named, (s, old, (and_parts (is_current s p) _ (sym (rest.places p) ∙ named)).0))
      | inr new ↦
          let at = pending_named (current_places s) (reading x) new.0 new.1 in
          (new.0.place, left_is on new.0.place ∙ asked new.0 at.0 at.1, (t, new.2, new.3.source new.0 new.1))
    ]
  where
    asked : (a : GateAt) → names (current_places s) a.place ≡ true → gate_in (reading x) a.place ≡ Some a.gate → names on a.place ≡ true
    asked a listed has =
        let current : is_current s a.place ≡ true =
        (names_filter (is_current s) (range_with_len 0 16) a.place
        (sym (ap (λ ps. names ps a.place) (current_of_all s (few_in (reading x) s opened.rest.state))) ∙ listed)).0 in
        elim (cases_lt 0 (x.sectors (log_slice a.place))) [
          | inl there ↦ opened.rest.places a.place ∙ and_from (is_current s a.place) _ current (lt-ltb 0 (x.sectors (log_slice a.place)) there)
          | inr none ↦
              absurd (none-some a.gate
              (sym (ap gate_of (reads_nothing x (log_slice a.place) gate_sector (omega (arith, none))) ∙ no_gate_in_nothing) ∙ has))
        ]

-- reads leave it so
pub can_replay_later : (l : LogView) (a b : RackView) → OnlyReads a b → CanReplay l a → CanReplay l b
can_replay_later l a b reads can =
    let stays = reads.stays in
    record {
      lasting = stays.lasting can.lasting;
      logs = λ p k few there. live (log_slice p) k (can.logs p k few (had (log_slice p) k there));
      targets = λ d k v is there. live d k (can.targets d k v is (had d k there));
      numbers = λ c stand p decides there v may.
          let within : gate_sector < a.sectors (log_slice p) = had (log_slice p) gate_sector there in
          can.numbers c (states c stand) p decides within v
          (old (log_slice p) gate_sector v (can.logs p gate_sector (decides_small c p decides) within) may);
      same = λ c amid. can.same c (before c amid);
      whole = λ c amid. can.whole c (before c amid);
      number = λ c amid. can.number c (before c amid);
    }
  where
    had : (d k : ℕ) → k < b.sectors d → k < a.sectors d
    had d k = subst (λ n. k < n) (reads.stays.sectors d)

    live : (d k : ℕ) → IsLive a a d k → IsLive b b d k
    live d k is = live_after reads.stays (live_on can.lasting reads.stays is)

    old : (d k : ℕ) (v : List ℕ) → IsLive a a d k → MayLeave (b.held d k) v → MayLeave (a.held d k) v
    old d k v is may = (reads.keeps.held d k (live_on can.lasting reads.stays is)).within v may

    states : (c : Image) → StatesStand l.pending b c → StatesStand l.pending a c
    states c stand = record {
      picks = λ p is. elim (stand.picks p (live (log_slice p) 0 is)) [
        | inl here ↦ inl (old (log_slice p) 0 (c (log_slice p) 0) is here)
        | inr new ↦ inr new
      ];
      inside = λ p none. stand.inside p (reads.stays.sectors (log_slice p) ∙ none);
    }

    before : (c : Image) → StandsAmid l.pending b c → StandsAmid l.pending a c
    before c amid = record {
      states = states c amid.states;
      parts = λ p k some is. old (log_slice p) k (c (log_slice p) k) is (amid.parts p k some (live (log_slice p) k is));
      inside = λ p k past. amid.inside p k (subst (λ n. n ≤ k) (sym (reads.stays.sectors (log_slice p))) past);
    }

-- ---- by the call

-- Looking for the pending record at rest, where nobody went and no log is damaged.
pub looked_opened : (s t : State) (l m : LogView) (on : List ℕ) (is_pending : Bool) (a b : RackView)
    → PendingCall l m on [] is_pending None a b → AtRest s on a → BringsCopies s t m.pending (reading a) → Opened s t m on a
looked_opened s t l m on is_pending a b call rest brings = record {
  rest = rest;
  is_pending = is_pending;
  finds = call.finds (λ p named.
      let log = logs_named a.sectors on p rest.slices named in
      (log_live s on a p 0 rest log.0 (subst (λ n. 0 < n) (sym log.1) (omega arith))).is_told);
  brings = brings;
}

-- a record without copies of a state
pub brings_no_copy : (s : State) (xs : List Target) (c : Image) → ((p : ℕ) → look xs (log_slice p) 0 ≡ None) → BringsCopies s s xs c
brings_no_copy s xs c none = record { copies = λ p u is. absurd (none-some u (sym (none p) ∙ is)); either = inl refl }

-- that of a commit, where the state from before stands or the one that it brings, and is read from a place of the commit
pub brought_copies : (s t u : State) (xs : List Target) (on : List ℕ) (c : Image) → CarriesState s t xs on → (u ≡ s) ⊎ (u ≡ t)
    → ((a : GateAt) → pending_at (current_places u) c ≡ Some a → names on a.place ≡ true) → BringsCopies u t xs c
brought_copies s t u xs on c brings which source = record { copies = copies; either = either which }
  where
    copies : (p : ℕ) (v : List ℕ) → look xs (log_slice p) 0 ≡ Some v → IsCopyOf t p v
    copies p v is =
        elim brings.either [
          | inl same ↦ absurd (none-some v (sym (same.1 p) ∙ is))
          | inr later ↦ elim (cases_Bool (names on p)) [
            | inr other ↦ absurd (none-some v (sym (later.3 p other) ∙ is))
            | inl named ↦
                let w = later.2 p named in
                subst (λ k. IsCopyOf t p k) (some_bytes w.0 v (sym w.1 ∙ is)) w.2
          ]
        ]
      where
        some_bytes : (k m : List ℕ) → Some k ≡ Some m → k ≡ m
        some_bytes k m same = (cc)

    either : (u ≡ s) ⊎ (u ≡ t) → (t ≡ u) ⊎ IsNext u t c
    either (inr new) = inl (sym new)
    either (inl old) =
        elim brings.either [
          | inl same ↦ inl (same.0 ∙ sym old)
          | inr later ↦
              inr (record {
                later = subst (λ (v : State). v.epoch < t.epoch) (sym old) later.0;
                current = λ p is. subst (λ (v : State). is_current v p ≡ true) (sym old) (brings.current p is);
                source = λ a is. brings.left a.place (source a is);
              })
        ]
