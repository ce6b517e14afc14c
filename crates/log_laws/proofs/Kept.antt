-- What is kept of the log slices from one commit to the next: it has what a commit needs, and a commit leaves it.
use Rattle.std.proofs.Common.{◌≡◌, ◌⊎◌, ℕ, zero, suc, ◌-◌, ◌<◌, ◌≤◌, ◌^◌, Bool, true, false, ◌==◌, not, nat_lt, if◌then◌else◌, List, [], Option, Some, None, Ok, unwrap_or, refl, le-ltb, lt-ltb, sym, ap, subst, ◌∙◌, inl, inr, arith}
use Rattle.std.proofs.lemmas.Bool.{both_ways, cases_Bool, cases_lt, cases_eq, and_parts}
use Rattle.std.proofs.lemmas.Option.{none-some}
use Rattle.std.specs.Option.{option_map_or}
use Rattle.std.specs.List.{list_any}
use Rattle.std.specs.Result.{result_ok}
use Rattle.rack.specs.Values.{MayLeave}
use Rattle.rack.specs.Seen.{Image, RackView, IsLive, SameRack}
use Rattle.rack.specs.Targets.{Target, look, put}
use Rattle.pool_state.specs.declared.contents.Copied.{Copied}
use Rattle.pool_state.specs.declared.contents.State.{State}
use Rattle.pool_state.specs.Sector.{decoded}
use Rattle.array_image.specs.Places.{log_slice, place_of, slice_of}
use Rattle.array_image.specs.Record.{pending}
use Rattle.array_image.specs.States.{state_in, is_current}
use Rattle.array_image.specs.Arrays.{replayed}
use Rattle.array_image.specs.Left.{IsInside, Picks}
use Rattle.log_laws.specs.View.{LogView, names, is_left}
use Rattle.log_laws.specs.Standing.{LogsStand, StatesStand, deciding, IsReady, SomeoneDecides, IsLogPart, IsAlike}
use Rattle.log_laws.specs.Commits.{Stands}
use Rattle.log_laws.specs.Kept.{IsCopyOf, IsNoLater, CopiesStand, LogInvariant, AreLeft, CarriesState, BringsTo, MayJoin}
use Rattle.log_laws.proofs.Copies.{state_by_copies, nothing_decodes}

-- ---- sectors that can be called

pub live_on : {a b : RackView} {d t : ℕ} → a.lasting → SameRack a b → IsLive a a d t → IsLive a b d t
live_on {a} {b} {d} {t} lasting stays live =
    record {
      disk = subst (λ n. d < n) (sym stays.disks) live.disk;
      sector = subst (λ n. t < n) (sym (stays.sectors d)) live.sector;
      is_told = live.is_told;
      unspent = stays.lasts lasting d t live.unspent;
    }

pub live_after : {a b : RackView} {d t : ℕ} → SameRack a b → IsLive a b d t → IsLive b b d t
live_after {a} {b} {d} {t} stays live =
    record { disk = live.disk; sector = live.sector; is_told = stays.told d live.is_told; unspent = live.unspent }

-- the place of a log slice
pub place_of_log : (p : ℕ) → place_of (log_slice p) ≡ p
place_of_log p = omega arith

-- where there is no sector, nothing is replayed
replayed_outside : (sectors : ℕ → ℕ) (c : Image) (d t : ℕ) → sectors d ≤ t → replayed sectors c d t ≡ c d t
unfolding replayed
replayed_outside sectors c d t out =
    ap (λ b. if b then unwrap_or (look (pending (deciding c) c) d t) (c d t) else c d t) (le-ltb t (sectors d) out)

pub put_outside : (sectors : ℕ → ℕ) (xs : List Target) (c : Image) (d t : ℕ) → sectors d ≤ t → put sectors xs c d t ≡ c d t
put_outside sectors xs c d t out = ap (λ b. if b then unwrap_or (look xs d t) (c d t) else c d t) (le-ltb t (sectors d) out)

-- what stands where a target is written, and where none is
pub put_some : (sectors : ℕ → ℕ) (xs : List Target) (c : Image) (d t : ℕ) (w : List ℕ) → t < sectors d → look xs d t ≡ Some w → put sectors xs c d t ≡ w
put_some sectors xs c d t w inside is =
    ap (λ b. if b then unwrap_or (look xs d t) (c d t) else c d t) (lt-ltb t (sectors d) inside) ∙ ap (λ o. unwrap_or o (c d t)) is

pub put_none : (sectors : ℕ → ℕ) (xs : List Target) (c : Image) (d t : ℕ) → look xs d t ≡ None → put sectors xs c d t ≡ c d t
put_none sectors xs c d t none =
    ap (λ (o : Option (List ℕ)). if nat_lt t (sectors d) then unwrap_or o (c d t) else c d t) none ∙ if_same (nat_lt t (sectors d))
  where
    if_same : (b : Bool) → (if b then c d t else c d t) ≡ c d t
    if_same true = refl
    if_same false = refl

-- ---- which state contents have

-- the copies of a place that are old, and one that is new
IsOld : State → Image → ℕ → Type 0
IsOld s c q = (copy : Copied) → decoded (c (log_slice q) 0) ≡ Ok copy → IsNoLater s copy

abbrev pub LogsLive : RackView → Type 0
LogsLive x = (p t : ℕ) → p < 16 → t < x.sectors (log_slice p) → IsLive x x (log_slice p) t

old_or_new : (s t : State) (number : ℕ) (gone : ℕ → Bool) (on takes : List ℕ) (xs : List Target) (x : RackView) (c : Image) (q : ℕ)
    → LogsLive x → CopiesStand s gone x → BringsTo s t number x xs on takes → StatesStand xs x c → q < 16
    → IsOld s c q ⊎ IsCopyOf t q (c (log_slice q) 0)
unfolding IsOld
old_or_new s t number gone on takes xs x c q logs copies brings stand few =
    elim (cases_lt 0 (x.sectors (log_slice q))) [
      | inr nothing ↦ inl (λ copy is. absurd (nothing_decodes copy (subst (λ u. decoded u ≡ Ok copy) (stand.inside q (omega arith)) is)))
      | inl there ↦
          elim (stand.picks q (logs q 0 few there)) [
            | inl old ↦ inl (λ copy is. copies.others q (c (log_slice q) 0) copy few there old is)
            | inr new ↦ elim brings.either [
              | inl same ↦ absurd (none-some (c (log_slice q) 0) (sym (same.1 q) ∙ new))
              | inr later ↦ elim (cases_Bool (names takes q)) [
                | inl named ↦
                    let w = later.2 q named in
                    inr (subst (λ u. IsCopyOf t q u) (ap (λ o. unwrap_or o []) (sym w.1 ∙ new)) w.2)
                | inr other ↦ absurd (none-some (c (log_slice q) 0) (sym (later.3 q other) ∙ new))
              ]
            ]
          ]
    ]

-- one of the first places has a new copy, or all have old ones
search : (s t : State) (c : Image) (n : ℕ) → ((q : ℕ) → q < n → IsOld s c q ⊎ IsCopyOf t q (c (log_slice q) 0))
    → ((q : ℕ) → q < n → IsOld s c q) ⊎ ((q : ℕ) × (q < n) × IsCopyOf t q (c (log_slice q) 0))
search s t c zero each = inl (λ q below. absurd (omega (arith, below)))
search s t c (suc n) each =
    elim (each n (omega arith)) [
      | inr new ↦ inr (n, omega arith, new)
      | inl old ↦ elim (search s t c n (λ q below. each q (omega (arith, below)))) [
        | inr found ↦ inr (found.0, omega (arith, found.1), found.2)
        | inl below ↦ inl (λ q small. elim (cases_lt q n) [
          | inl less ↦ below q less
          | inr last ↦ let same : n ≡ q = omega (arith, small) in subst (λ k. IsOld s c k) same old
        ])
      ]
    ]

-- a copy that isn't later than one state isn't later than a later one
pub later_yet : (s t : State) (copy : Copied) → s.epoch < t.epoch → IsNoLater s copy → IsNoLater t copy
later_yet s t copy later (inl lower) = inl (omega arith)
later_yet s t copy later (inr same) = let e = ap (λ (u : State). u.epoch) same in inl (omega arith)

pub epoch_up : (s t : State) (number : ℕ) (x : RackView) (xs : List Target) (on takes : List ℕ) → BringsTo s t number x xs on takes
    → (t ≡ s) ⊎ (s.epoch < t.epoch)
epoch_up s t number x xs on takes brings = elim brings.either [ inl same ↦ inl same.0 | inr later ↦ inr later.0 ]

-- what a copy of a state says
pub copy_state : (t : State) (copy : Copied) (own : ℕ) (u : List ℕ) → IsCopyOf t own u → decoded u ≡ Ok copy → copy.state ≡ t
copy_state t copy own u new is = ap (λ r. option_map_or (λ d. d.state) (result_ok r) copy.state) (sym is ∙ new.copy)

-- no place has a copy that is later than the new state
none_later : (s t : State) (c : Image) → (t ≡ s) ⊎ (s.epoch < t.epoch)
    → ((q : ℕ) → q < 16 → IsOld s c q ⊎ IsCopyOf t q (c (log_slice q) 0))
    → (q : ℕ) (copy : Copied) → q < 16 → decoded (c (log_slice q) 0) ≡ Ok copy → IsNoLater t copy
unfolding IsOld
none_later s t c up each q copy few is =
    elim (each q few) [
      | inr new ↦ inr (copy_state t copy q (c (log_slice q) 0) new is)
      | inl old ↦ elim up [
        | inl same ↦ subst (λ u. IsNoLater u copy) (sym same) (old copy is)
        | inr later ↦ later_yet s t copy later (old copy is)
      ]
    ]

-- no place has a later copy than one of a state
abbrev pub NoneLater : State → Image → Type 0
NoneLater s c = (q : ℕ) (copy : Copied) → q < 16 → decoded (c (log_slice q) 0) ≡ Ok copy → IsNoLater s copy

-- A stop in a commit leaves the state from before or the new one, where a place that is left has both, and no later copy.
pub stands_latest : (s t : State) (number : ℕ) (gone : ℕ → Bool) (on takes : List ℕ) (xs : List Target) (x : RackView) (c : Image) (p : ℕ)
    → LogsLive x → CopiesStand s gone x → BringsTo s t number x xs on takes → StatesStand xs x c
    → p < 16 → 0 < x.sectors (log_slice p) → is_current s p ≡ true → gone p ≡ false
    → ((state_in c ≡ Some s) × NoneLater s c) ⊎ ((state_in c ≡ Some t) × NoneLater t c)
unfolding IsOld
stands_latest s t number gone on takes xs x c p logs copies brings stand few there current left =
    let each : (q : ℕ) → q < 16 → IsOld s c q ⊎ IsCopyOf t q (c (log_slice q) 0) =
    λ q small. old_or_new s t number gone on takes xs x c q logs copies brings stand small in
    let up = epoch_up s t number x xs on takes brings in
    let later : NoneLater t c = none_later s t c up each in
    elim (search s t c 16 each) [
      | inr found ↦ inr (state_by_copies t c found.0 later found.1 found.2, later)
      | inl old ↦
          elim (stand.picks p (logs p 0 few there)) [
            | inl held ↦
                inl (state_by_copies s c p (λ q copy small is. old q small copy is) few (copies.own p (c (log_slice p) 0) current left held), λ q copy small is. old q small copy is)
            | inr new ↦ elim brings.either [
              | inl same ↦ absurd (none-some (c (log_slice p) 0) (sym (same.1 p) ∙ new))
              | inr next ↦ elim (cases_Bool (names takes p)) [
                | inr other ↦ absurd (none-some (c (log_slice p) 0) (sym (next.3 p other) ∙ new))
                | inl named ↦
                    let w = next.2 p named in
                    inr (state_by_copies t c p later few (subst (λ u. IsCopyOf t p u) (ap (λ o. unwrap_or o []) (sym w.1 ∙ new)) w.2), later)
              ]
            ]
          ]
    ]

stands_as : (s t : State) (number : ℕ) (gone : ℕ → Bool) (on takes : List ℕ) (xs : List Target) (x : RackView) (c : Image) (p : ℕ)
    → LogsLive x → CopiesStand s gone x → BringsTo s t number x xs on takes → StatesStand xs x c
    → p < 16 → 0 < x.sectors (log_slice p) → is_current s p ≡ true → gone p ≡ false
    → (state_in c ≡ Some s) ⊎ (state_in c ≡ Some t)
stands_as s t number gone on takes xs x c p logs copies brings stand few there current left =
    elim (stands_latest s t number gone on takes xs x c p logs copies brings stand few there current left) [ inl old ↦ inl old.0 | inr new ↦ inr new.0 ]

-- nothing to bring
pub brings_nothing : (s : State) (gone : ℕ → Bool) (xs : List Target) (on : List ℕ)
    → AreLeft s gone on → ((p : ℕ) → list_any (λ x. place_of x.disk == p) xs ≡ true → names on p ≡ true)
    → ((p : ℕ) → look xs (log_slice p) 0 ≡ None) → CarriesState s s xs on
brings_nothing s gone xs on are_left inside none =
    record {
      current = λ p is. is;
      left = λ p named. (and_parts (is_current s p) (not (gone p)) (sym (are_left p) ∙ named)).0;
      inside = inside;
      either = inl (refl, none);
    }

-- no target, on no place
pub brings_none : (s : State) → CarriesState s s [] []
unfolding look
brings_none s =
    record {
      current = λ p is. is;
      left = λ p named. absurd (both_ways false refl named);
      inside = λ p none. absurd (both_ways false refl none);
      either = inl (refl, λ p. refl);
    }

-- no place joins
pub brings_to : (s t : State) (number : ℕ) (x : RackView) (xs : List Target) (on : List ℕ) → CarriesState s t xs on → BringsTo s t number x xs on on
brings_to s t number x xs on brings =
    record {
      current = λ p is. inl (brings.current p is);
      left = brings.left;
      joins = λ p named other. absurd (both_ways (names on p) other named);
      more = λ p named. named;
      inside = brings.inside;
      either = elim brings.either [
        | inl same ↦ inl (same.0, same.1, λ p named. named)
        | inr later ↦ inr later
      ];
    }

-- what a stop leaves of the log slices has the state
pub kept_state : (s : State) (number : ℕ) (gone : ℕ → Bool) (x : RackView) (c : Image) (p : ℕ)
    → LogInvariant s number gone x → LogsStand x c → is_current s p ≡ true → gone p ≡ false → state_in c ≡ Some s
unfolding look
kept_state s number gone x c p kept stand current left =
    elim (stands_as s s number gone [] [] [] x c p kept.logs kept.copies (brings_to s s number x [] [] (brings_none s))
    (record { picks = λ q live. inl (stand.picks q 0 live); inside = λ q none. stand.inside q 0 (omega (arith, none)) })
    (kept.few p current) (kept.there p current left) current left) [ inl is ↦ is | inr is ↦ is ]

-- and so do its contents once they are replayed
pub kept_replayed : (s : State) (number : ℕ) (gone : ℕ → Bool) (x : RackView) (c : Image) (p : ℕ)
    → LogInvariant s number gone x → Stands x c → is_current s p ≡ true → gone p ≡ false → state_in (replayed x.sectors c) ≡ Some s
kept_replayed s number gone x c p kept stand current left =
    let few = kept.few p current in
    let quiet : replayed x.sectors c (log_slice p) 0 ≡ c (log_slice p) 0 = kept.quiet c stand (log_slice p) 0 (ap gone (place_of_log p) ∙ left) in
    state_by_copies s (replayed x.sectors c) p
    (λ q copy small is.
    elim (cases_lt 0 (x.sectors (log_slice q))) [
      | inl there ↦ kept.brought c q copy stand small there is
      | inr nothing ↦
          let none : replayed x.sectors c (log_slice q) 0 ≡ [] = replayed_outside x.sectors c (log_slice q) 0 (omega arith) ∙ stand.inside q 0 (omega arith) in
          absurd (nothing_decodes copy (subst (λ u. decoded u ≡ Ok copy) none is))
    ])
    few
    (subst (λ u. IsCopyOf s p u) (sym quiet)
    (kept.copies.own p (c (log_slice p) 0) current left (stand.picks (log_slice p) 0 (kept.logs p 0 few (kept.there p current left)))))

-- with all targets written, contents have the state that these bring
pub joined_state : (s t : State) (number : ℕ) (gone : ℕ → Bool) (on takes : List ℕ) (xs : List Target) (x : RackView) (c : Image) (p : ℕ)
    → LogsLive x → CopiesStand s gone x → BringsTo s t number x xs on takes → Stands x c
    → p < 16 → 0 < x.sectors (log_slice p) → is_current s p ≡ true → gone p ≡ false → is_current t p ≡ true
    → state_in (put x.sectors xs c) ≡ Some t
joined_state s t number gone on takes xs x c p logs copies brings stand few there current left now =
    let stands : StatesStand xs x (put x.sectors xs c) =
    record {
      picks = λ q live. put_picks q live (look xs (log_slice q) 0) refl (nat_lt 0 (x.sectors (log_slice q)));
      inside = λ q none. put_outside x.sectors xs c (log_slice q) 0 (omega (arith, none)) ∙ stand.inside q 0 (omega (arith, none));
    } in
    let up = epoch_up s t number x xs on takes brings in
    let each : (q : ℕ) → q < 16 → IsOld s (put x.sectors xs c) q ⊎ IsCopyOf t q (put x.sectors xs c (log_slice q) 0) =
    λ q small. old_or_new s t number gone on takes xs x (put x.sectors xs c) q logs copies brings stands small in
    state_by_copies t (put x.sectors xs c) p (none_later s t (put x.sectors xs c) up each) few
    (elim brings.either [
      | inl same ↦
          subst (λ u. IsCopyOf u p (put x.sectors xs c (log_slice p) 0)) (sym same.0)
          (copies.own p (put x.sectors xs c (log_slice p) 0) current left
          (subst (λ u. MayLeave (x.held (log_slice p) 0) u) (sym (put_none x.sectors xs c (log_slice p) 0 (same.1 p))) (stand.picks (log_slice p) 0 (logs p 0 few there))))
      | inr later ↦
          let new = later.2 p (later.1 p now) in
          subst (λ u. IsCopyOf t p u) (sym (put_some x.sectors xs c (log_slice p) 0 new.0 there new.1)) new.2
    ])
  where
    put_picks : (q : ℕ) → IsLive x x (log_slice q) 0 → (o : Option (List ℕ)) → look xs (log_slice q) 0 ≡ o → (inside : Bool)
        → MayLeave (x.held (log_slice q) 0) (if inside then unwrap_or o (c (log_slice q) 0) else c (log_slice q) 0)
        ⊎ (look xs (log_slice q) 0 ≡ Some (if inside then unwrap_or o (c (log_slice q) 0) else c (log_slice q) 0))
    put_picks q live o is false = inl (stand.picks (log_slice q) 0 live)
    put_picks q live None is true = inl (stand.picks (log_slice q) 0 live)
    put_picks q live (Some w) is true = inr is

pub brought_state : (s t : State) (gone : ℕ → Bool) (on : List ℕ) (xs : List Target) (x : RackView) (c : Image) (p : ℕ)
    → LogsLive x → CopiesStand s gone x → CarriesState s t xs on → Stands x c
    → p < 16 → 0 < x.sectors (log_slice p) → is_current s p ≡ true → gone p ≡ false → is_current t p ≡ true
    → state_in (put x.sectors xs c) ≡ Some t
brought_state s t gone on xs x c p logs copies brings =
    joined_state s t 0 gone on on xs x c p logs copies (brings_to s t 0 x xs on brings)

-- ---- before a commit

-- a current place of either state was one of the old state, or joins
current_before : (s t : State) (number : ℕ) (x : RackView) (xs : List Target) (on takes : List ℕ) (c : Image) (p : ℕ) (u : State)
    → BringsTo s t number x xs on takes → (state_in c ≡ Some s) ⊎ (state_in c ≡ Some t) → state_in c ≡ Some u → is_current u p ≡ true
    → (is_current s p ≡ true) ⊎ MayJoin number x p
current_before s t number x xs on takes c p u brings (inl is) state current =
    inl (subst (λ (v : State). is_current v p ≡ true) (ap (λ o. unwrap_or o s) (sym state ∙ is)) current)
current_before s t number x xs on takes c p u brings (inr is) state current =
    brings.current p (subst (λ (v : State). is_current v p ≡ true) (ap (λ o. unwrap_or o s) (sym state ∙ is)) current)

-- the log has what a commit needs, where a place is left
pub joined_ready : (s t : State) (gone : ℕ → Bool) (l : LogView) (on takes : List ℕ) (x : RackView) (p : ℕ)
    → LogInvariant s l.number gone x → BringsTo s t l.number x l.added on takes
    → l.number < 2 ^ 63 - 1 → x.lasting
    → ((d u : ℕ) (v : List ℕ) → look l.added d u ≡ Some v → IsLive x x d u)
    → is_current s p ≡ true → gone p ≡ false
    → IsReady l on x
joined_ready s t gone l on takes x p kept brings room lasting targets current left =
    record {
      room = room;
      lasting = lasting;
      logs = kept.logs;
      targets = targets;
      numbers = λ c stand q decides there.
          elim (current_before s t l.number x l.added on takes c q decides.0 brings
          (stands_as s t l.number gone on takes l.added x c p kept.logs kept.copies brings stand (kept.few p current) (kept.there p current left) current left) decides.1 decides.2) [
            | inl was ↦ kept.numbers q was there
            | inr joins ↦ joins.numbered
          ];
      halves = λ c stand a is named. kept.halves c stand a is;
    }

pub kept_ready : (s t : State) (gone : ℕ → Bool) (l : LogView) (on : List ℕ) (x : RackView) (p : ℕ)
    → LogInvariant s l.number gone x → CarriesState s t l.added on
    → l.number < 2 ^ 63 - 1 → x.lasting
    → ((d u : ℕ) (v : List ℕ) → look l.added d u ≡ Some v → IsLive x x d u)
    → is_current s p ≡ true → gone p ≡ false
    → IsReady l on x
kept_ready s t gone l on x p kept brings = joined_ready s t gone l on on x p kept (brings_to s t l.number x l.added on brings)

-- and a place of the commit that is left and current by the new state decides at each stop
pub joined_decides : (s t : State) (number : ℕ) (gone : ℕ → Bool) (xs : List Target) (on takes lost : List ℕ) (x : RackView) (p : ℕ)
    → LogInvariant s number gone x → BringsTo s t number x xs on takes → AreLeft s gone on
    → is_left on lost p ≡ true → is_current t p ≡ true
    → SomeoneDecides xs on lost x
joined_decides s t number gone xs on takes lost x p kept brings are_left is current c stand =
    let named = (and_parts (names on p) (not (names lost p)) is).0 in
    let both = and_parts (is_current s p) (not (gone p)) (sym (are_left p) ∙ named) in
    let stays = not_true (gone p) both.1 in
    elim (stands_as s t number gone on takes xs x c p kept.logs kept.copies brings stand (kept.few p both.0) (kept.there p both.0 stays) both.0 stays) [
      | inl old ↦ (p, is, (s, old, both.0))
      | inr new ↦ (p, is, (t, new, current))
    ]
  where
    not_true : (b : Bool) → not b ≡ true → b ≡ false
    not_true false is = refl
    not_true true is = absurd (both_ways false refl is)

pub kept_decides : (s t : State) (number : ℕ) (gone : ℕ → Bool) (xs : List Target) (on lost : List ℕ) (x : RackView) (p : ℕ)
    → LogInvariant s number gone x → CarriesState s t xs on → AreLeft s gone on
    → is_left on lost p ≡ true → is_current t p ≡ true
    → SomeoneDecides xs on lost x
kept_decides s t number gone xs on lost x p kept brings =
    joined_decides s t number gone xs on on lost x p kept (brings_to s t number x xs on brings)

-- nothing is pending where each current place is left
pub kept_idle : (s : State) (number : ℕ) (gone : ℕ → Bool) (x : RackView) (c : Image)
    → LogInvariant s number gone x → LogsStand x c → ((p : ℕ) → is_current s p ≡ true → gone p ≡ false)
    → pending (deciding c) c ≡ []
kept_idle s number gone x c kept stand all =
    elim (kept.idle c stand) [
      | inl none ↦ none
      | inr one ↦ absurd (both_ways (gone one.0) (all one.0 one.1) one.2)
    ]

-- ---- contents outside the log slices

-- contents that a stop may leave
pub stands_of : {x : RackView} (c : Image) → Picks x c → Stands x c
stands_of c picks = record { picks = picks.picks; inside = λ p t out. picks.inside (log_slice p) t out }

log_of_place : (d : ℕ) → slice_of d ≡ 0 → d ≡ log_slice (place_of d)
log_of_place d is = omega arith

-- where a commit comes to in contents with nothing outside the slices, its contents from before have nothing there either
pub before_inside : (xs : List Target) (a : RackView) (c before : Image)
    → IsInside a.sectors c → Stands a before
    → (IsAlike (replayed a.sectors c) (replayed a.sectors before) ⊎ IsAlike (replayed a.sectors c) (put a.sectors xs before))
    → Picks a before
before_inside xs a c before inside stands either =
    record {
      picks = stands.picks;
      inside = λ d t out.
          elim (cases_eq (slice_of d) 0) [
            | inl log ↦
                let is = log_of_place d log in
                subst (λ e. before e t ≡ []) (sym is) (stands.inside (place_of d) t (subst (λ e. a.sectors e ≤ t) is out))
            | inr other ↦
                let no : IsLogPart d t → ⊥ = λ part. other part.0 in
                let nothing : replayed a.sectors c d t ≡ [] = replayed_outside a.sectors c d t out ∙ inside d t out in
                elim either [
                  | inl old ↦ sym (replayed_outside a.sectors before d t out) ∙ sym (old d t no) ∙ nothing
                  | inr new ↦ sym (put_outside a.sectors xs before d t out) ∙ sym (new d t no) ∙ nothing
                ]
          ];
    }
