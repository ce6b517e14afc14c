-- A commit leaves what the next one needs.
use Rattle.std.proofs.Common.{◌≡◌, ◌⊎◌, ℕ, ◌<◌, ◌≤◌, Bool, true, false, ◌&&◌, ◌||◌, not, nat_lt, if◌then◌else◌, List, [], ◌∷◌, length, Option, Some, None, Ok, unwrap_or, refl, eq-eqb, sym, ap, ap₂, subst, ◌∙◌, inl, inr, arith}
use Rattle.std.proofs.lemmas.Bool.{and_parts, both_ways, cases_Bool}
use Rattle.std.proofs.lemmas.Option.{none-some}
use Rattle.std.specs.Option.{option_map_or}
use Rattle.rack.specs.Values.{MayLeave}
use Rattle.rack.specs.Seen.{Image, RackView, IsLive, SameRack}
use Rattle.rack.specs.Calls.{KeepsAll}
use Rattle.rack.specs.Targets.{Target, look}
use Rattle.pool_state.specs.declared.contents.Copied.{Copied}
use Rattle.pool_state.specs.declared.contents.State.{State}
use Rattle.pool_state.specs.Sector.{decoded}
use Rattle.array_image.specs.Places.{log_slice, place_of}
use Rattle.array_image.specs.Record.{Gate, gate_sector, pending}
use Rattle.array_image.specs.States.{is_current}
use Rattle.array_image.specs.Arrays.{replayed}
use Rattle.log_laws.specs.View.{LogView, names, next_number}
use Rattle.log_laws.specs.Standing.{LogsStand, deciding, IsNumbered, IsReady, SomeoneDecides, IsLogPart}
use Rattle.log_laws.specs.Commits.{Stands, CommitCall}
use Rattle.log_laws.specs.Kept.{IsCopyOf, IsNoLater, CopiesStand, HasClosedGate, LogInvariant, AreLeft, gone_but, gone_with, CarriesState, BringsTo}
use Rattle.log_laws.proofs.Kept.{live_on, live_after, LogsLive, place_of_log, epoch_up, later_yet, copy_state, brings_to}

-- what stood before a call of the log may be called after it
pub logs_after : {a b : RackView} → a.lasting → SameRack a b → LogsLive a → (p t : ℕ) → p < 16 → t < b.sectors (log_slice p) → IsLive b b (log_slice p) t
logs_after {a} {b} lasting stays logs p t few inside =
    live_after stays (live_on lasting stays (logs p t few (subst (λ n. t < n) (stays.sectors (log_slice p)) inside)))

-- whoever hasn't gone after it hadn't before or takes a copy, and didn't go in it
but_none : (g took went : Bool) → ((g && not took) || went) ≡ false → ((g ≡ false) ⊎ (took ≡ true)) × (went ≡ false)
but_none false took went is = (inl refl, is)
but_none true true went is = (inr refl, is)
but_none true false went is = absurd (both_ways true is refl)

-- a place of the commit had not gone
pub on_left : (s : State) (gone : ℕ → Bool) (on : List ℕ) (p : ℕ) → AreLeft s gone on → names on p ≡ true → gone p ≡ false
on_left s gone on p are_left named = not_true (gone p) (and_parts (is_current s p) (not (gone p)) (sym (are_left p) ∙ named)).1
  where
    not_true : (b : Bool) → not b ≡ true → b ≡ false
    not_true false is = refl
    not_true true is = absurd (both_ways false refl is)

-- the copies that a commit leaves on a place
copies_after : (s t : State) (gone : ℕ → Bool) (l : LogView) (on takes lost : List ℕ) (a b : RackView) (p : ℕ) (u : List ℕ)
    → CommitCall l on lost a b → LogsLive a → a.lasting → CopiesStand s gone a → BringsTo s t l.number a l.added on takes
    → p < 16 → 0 < a.sectors (log_slice p) → MayLeave (b.held (log_slice p) 0) u
    → MayLeave (a.held (log_slice p) 0) u ⊎ IsCopyOf t p u
copies_after s t gone l on takes lost a b p u commit logs lasting copies brings few there left =
    let live = live_on lasting commit.stays (logs p 0 few there) in
    let first : IsLogPart (log_slice p) 0 → ⊥ = λ part. absurd (omega (arith, part.1)) in
    elim (commit.within (log_slice p) 0 u live first left) [
      | inl old ↦ inl old
      | inr new ↦ elim brings.either [
        | inl same ↦ absurd (none-some u (sym (same.1 p) ∙ new))
        | inr later ↦ elim (cases_Bool (names takes p)) [
          | inr other ↦ absurd (none-some u (sym (later.3 p other) ∙ new))
          | inl named ↦
              let w = later.2 p named in
              inr (subst (λ v. IsCopyOf t p v) (ap (λ o. unwrap_or o []) (sym w.1 ∙ new)) w.2)
        ]
      ]
    ]

-- a current place that hadn't gone, or takes a copy, has its log slice
log_of : (s t : State) (gone : ℕ → Bool) (l : LogView) (on takes : List ℕ) (a : RackView) (p : ℕ) → LogInvariant s l.number gone a → BringsTo s t l.number a l.added on takes
    → AreLeft s gone on → is_current t p ≡ true → (gone p ≡ false) ⊎ (names takes p ≡ true) → (p < 16) × (0 < a.sectors (log_slice p))
log_of s t gone l on takes a p kept brings are_left current left =
    elim (brings.current p current) [
      | inr joins ↦ (joins.few, let there = joins.there in omega (arith, there))
      | inl was ↦ elim left [
        | inl stays ↦ (kept.few p was, kept.there p was stays)
        | inr took ↦ elim (cases_Bool (names on p)) [
          | inl named ↦ (kept.few p was, kept.there p was (on_left s gone on p are_left named))
          | inr other ↦ let joins = brings.joins p took other in (joins.few, let there = joins.there in omega (arith, there))
        ]
      ]
    ]

-- it is one of the 16
few_of : (s t : State) (gone : ℕ → Bool) (l : LogView) (on takes : List ℕ) (a : RackView) (p : ℕ) → LogInvariant s l.number gone a → BringsTo s t l.number a l.added on takes
    → is_current t p ≡ true → p < 16
few_of s t gone l on takes a p kept brings current = elim (brings.current p current) [ inl was ↦ kept.few p was | inr joins ↦ joins.few ]

-- and its gate has no greater number than the log's
numbered_of : (s t : State) (gone : ℕ → Bool) (l : LogView) (on takes : List ℕ) (a : RackView) (p : ℕ) → LogInvariant s l.number gone a → BringsTo s t l.number a l.added on takes
    → is_current t p ≡ true → gate_sector < a.sectors (log_slice p) → IsNumbered l.number a p
numbered_of s t gone l on takes a p kept brings current there =
    elim (brings.current p current) [ inl was ↦ kept.numbers p was there | inr joins ↦ joins.numbered ]

-- those of a place that is left
own_after : (s t : State) (gone : ℕ → Bool) (l : LogView) (on takes lost : List ℕ) (a b : RackView) (p : ℕ) (u : List ℕ)
    → CommitCall l on lost a b → LogInvariant s l.number gone a → a.lasting → BringsTo s t l.number a l.added on takes
    → AreLeft s gone on → is_current t p ≡ true → (gone p ≡ false) ⊎ (names takes p ≡ true) → names lost p ≡ false → MayLeave (b.held (log_slice p) 0) u
    → IsCopyOf t p u
own_after s t gone l on takes lost a b p u commit kept lasting brings are_left current left stays left_now =
    let at = log_of s t gone l on takes a p kept brings are_left current left in
    let live = live_on lasting commit.stays (kept.logs p 0 at.0 at.1) in
    let first : IsLogPart (log_slice p) 0 → ⊥ = λ part. absurd (omega (arith, part.1)) in
    elim brings.either [
      | inl same ↦
          subst (λ v. IsCopyOf v p u) (sym same.0)
          (kept.copies.own p u (subst (λ (v : State). is_current v p ≡ true) same.0 current)
          (elim left [ inl had ↦ had | inr took ↦ on_left s gone on p are_left (same.2 p took) ])
          ((commit.apart (log_slice p) 0 live first (same.1 p)).within u left_now))
      | inr later ↦
          let w = later.2 p (later.1 p current) in
          subst (λ v. IsCopyOf t p v)
          (sym (commit.written (log_slice p) 0 w.0 u live (ap (names lost) (place_of_log p) ∙ stays) w.1 left_now)) w.2
    ]

-- replaying changes nothing on a place that is left
quiet_after : (s t : State) (gone : ℕ → Bool) (l : LogView) (on lost : List ℕ) (a b : RackView) (c : Image) (d u : ℕ)
    → CommitCall l on lost a b → IsReady l on a → SomeoneDecides l.added on lost a
    → Stands b c → names lost (place_of d) ≡ false → replayed b.sectors c d u ≡ c d u
unfolding replayed look
quiet_after s t gone l on lost a b c d u commit ready someone stand stays =
    let rests = commit.rests ready someone c (record { picks = λ p i live. stand.picks (log_slice p) i live; inside = stand.inside }) in
    let Goal : List Target → Type 0 = λ xs. (if nat_lt u (b.sectors d) then unwrap_or (look xs d u) (c d u) else c d u) ≡ c d u in
    elim rests.targets [
      | inl none ↦ subst Goal (sym none) (same (nat_lt u (b.sectors d)))
      | inr all ↦ subst Goal (sym all.1) (written (look l.added d u) refl (nat_lt u (b.sectors d)))
    ]
  where
    same : (inside : Bool) → (if inside then c d u else c d u) ≡ c d u
    same true = refl
    same false = refl

    written : (o : Option (List ℕ)) → look l.added d u ≡ o → (inside : Bool) → (if inside then unwrap_or o (c d u) else c d u) ≡ c d u
    written o is false = refl
    written None is true = refl
    written (Some w) is true =
        let live = ready.targets d u w is in
        let over = live_on ready.lasting commit.stays live in
        sym (commit.written d u w (c d u) over stays is (stand.picks d u (live_after commit.stays over)))

-- no copy that a commit leaves is later than the state that it brings
others_after : (s t : State) (gone : ℕ → Bool) (l : LogView) (on takes lost : List ℕ) (a b : RackView) (p : ℕ) (u : List ℕ) (copy : Copied)
    → CommitCall l on lost a b → LogInvariant s l.number gone a → BringsTo s t l.number a l.added on takes → a.lasting
    → p < 16 → 0 < b.sectors (log_slice p) → MayLeave (b.held (log_slice p) 0) u → decoded u ≡ Ok copy → IsNoLater t copy
others_after s t gone l on takes lost a b p u copy commit kept brings lasting few there left is =
    let before : 0 < a.sectors (log_slice p) = subst (λ n. 0 < n) (commit.stays.sectors (log_slice p)) there in
    elim (copies_after s t gone l on takes lost a b p u commit kept.logs lasting kept.copies brings few before left) [
      | inr new ↦ inr (copy_state t copy p u new is)
      | inl old ↦
          let at = kept.copies.others p u copy few before old is in
          elim (epoch_up s t l.number a l.added on takes brings) [
            | inl same ↦ subst (λ v. IsNoLater v copy) (sym same) at
            | inr later ↦ later_yet s t copy later at
          ]
    ]

-- and those of a place that isn't current by it are earlier
earlier_after : (s t : State) (gone : ℕ → Bool) (l : LogView) (on takes lost : List ℕ) (a b : RackView) (p : ℕ) (u : List ℕ) (copy : Copied)
    → CommitCall l on lost a b → LogInvariant s l.number gone a → BringsTo s t l.number a l.added on takes → a.lasting
    → p < 16 → is_current t p ≡ false → 0 < b.sectors (log_slice p) → MayLeave (b.held (log_slice p) 0) u → decoded u ≡ Ok copy → copy.state.epoch < t.epoch
earlier_after s t gone l on takes lost a b p u copy commit kept brings lasting few former there left is =
    let before : 0 < a.sectors (log_slice p) = subst (λ n. 0 < n) (commit.stays.sectors (log_slice p)) there in
    let live = live_on lasting commit.stays (kept.logs p 0 few before) in
    let first : IsLogPart (log_slice p) 0 → ⊥ = λ part. absurd (omega (arith, part.1)) in
    let old : look l.added (log_slice p) 0 ≡ None → MayLeave (a.held (log_slice p) 0) u = λ none. (commit.apart (log_slice p) 0 live first none).within u left in
    elim brings.either [
      | inl same ↦
          subst (λ (v : State). copy.state.epoch < v.epoch) (sym same.0)
          (kept.copies.earlier p u copy few (subst (λ (v : State). is_current v p ≡ false) same.0 former) before (old (same.1 p)) is)
      | inr later ↦ elim (cases_Bool (names takes p)) [
        | inl named ↦ absurd (both_ways (is_current t p) former (brings.left p named))
        | inr other ↦ lower s t copy later.0 (kept.copies.others p u copy few before (old (later.3 p other)) is)
      ]
    ]
  where
    lower : (s t : State) (copy : Copied) → s.epoch < t.epoch → IsNoLater s copy → copy.state.epoch < t.epoch
    lower s t copy later (inl less) = omega (arith, later, less)
    lower s t copy later (inr same) = let e = ap (λ (v : State). v.epoch) same in omega (arith, later, e)

-- nor is one that its replay brings
brought_after : (s t : State) (gone : ℕ → Bool) (l : LogView) (on takes lost : List ℕ) (a b : RackView) (c : Image) (p : ℕ) (copy : Copied)
    → CommitCall l on lost a b → LogInvariant s l.number gone a → BringsTo s t l.number a l.added on takes
    → IsReady l on a → SomeoneDecides l.added on lost a
    → Stands b c → p < 16 → 0 < b.sectors (log_slice p) → decoded (replayed b.sectors c (log_slice p) 0) ≡ Ok copy → IsNoLater t copy
unfolding replayed look
brought_after s t gone l on takes lost a b c p copy commit kept brings ready someone stand few there is =
    let live = live_on ready.lasting commit.stays (kept.logs p 0 few (subst (λ n. 0 < n) (commit.stays.sectors (log_slice p)) there)) in
    let own : decoded (c (log_slice p) 0) ≡ Ok copy → IsNoLater t copy =
    λ at. others_after s t gone l on takes lost a b p (c (log_slice p) 0) copy commit kept brings ready.lasting few there
    (stand.picks (log_slice p) 0 (live_after commit.stays live)) at in
    let rests = commit.rests ready someone c (record { picks = λ q i live. stand.picks (log_slice q) i live; inside = stand.inside }) in
    let Goal : List Target → Type 0 = λ xs.
    decoded (if nat_lt 0 (b.sectors (log_slice p)) then unwrap_or (look xs (log_slice p) 0) (c (log_slice p) 0) else c (log_slice p) 0) ≡ Ok copy → IsNoLater t copy in
    let goal : Goal (pending (deciding c) c) =
    elim rests.targets [
      | inl none ↦ subst Goal (sym none) (λ at. own (at_none (nat_lt 0 (b.sectors (log_slice p))) at))
      | inr all ↦ subst Goal (sym all.1) (λ at. at_some (look l.added (log_slice p) 0) refl (nat_lt 0 (b.sectors (log_slice p))) own at)
    ] in
    goal is
  where
    at_none : (inside : Bool) → decoded (if inside then c (log_slice p) 0 else c (log_slice p) 0) ≡ Ok copy → decoded (c (log_slice p) 0) ≡ Ok copy
    at_none true at = at
    at_none false at = at

    at_some : (o : Option (List ℕ)) → look l.added (log_slice p) 0 ≡ o → (inside : Bool)
        → (decoded (c (log_slice p) 0) ≡ Ok copy → IsNoLater t copy)
        → decoded (if inside then unwrap_or o (c (log_slice p) 0) else c (log_slice p) 0) ≡ Ok copy → IsNoLater t copy
    at_some o looked false own at = own at
    at_some None looked true own at = own at
    at_some (Some w) looked true own at =
        elim brings.either [
          | inl same ↦ absurd (none-some w (sym (same.1 p) ∙ looked))
          | inr later ↦ elim (cases_Bool (names takes p)) [
            | inr other ↦ absurd (none-some w (sym (later.3 p other) ∙ looked))
            | inl named ↦
                let new = later.2 p named in
                inr (copy_state t copy p w (subst (λ v. IsCopyOf t p v) (ap (λ r. unwrap_or r []) (sym new.1 ∙ looked)) new.2) at)
          ]
        ]

-- where somebody went, a current place has gone
one_gone : (s t : State) (gone : ℕ → Bool) (l : LogView) (on takes lost : List ℕ) (a b : RackView) → CommitCall l on lost a b → BringsTo s t l.number a l.added on takes
    → (places : List ℕ) → places ≡ lost → (places ≡ [] → ⊥) → (p : ℕ) × (is_current t p ≡ true) × (gone_but gone takes lost p ≡ true)
one_gone s t gone l on takes lost a b commit brings [] is some = absurd (some refl)
one_gone s t gone l on takes lost a b commit brings (p ∷ others) is some =
    let named : names lost p ≡ true = subst (λ ps. names ps p ≡ true) is (ap (λ e. e || names others p) (eq-eqb p p refl)) in (
      p,
      brings.left p (elim (commit.gone.called p named) [ inl on_it ↦ brings.more p on_it | inr target ↦ brings.inside p target ]),
      or_true (gone p && not (names takes p)) (names lost p) named,
    )
  where
    or_true : (b c : Bool) → c ≡ true → (b || c) ≡ true
    or_true true c is = refl
    or_true false c is = is

-- where each place is left the gates of current ones are closed: those of the commit by it, and those of places that join before it
closed_after : (s t : State) (gone : ℕ → Bool) (l : LogView) (on takes lost : List ℕ) (a b : RackView) (p : ℕ)
    → CommitCall l on lost a b → LogInvariant s l.number gone a → BringsTo s t l.number a l.added on takes → AreLeft s gone on → a.lasting
    → ((q : ℕ) → is_current t q ≡ true → gone_but gone takes lost q ≡ false) → is_current t p ≡ true → gate_sector < a.sectors (log_slice p)
    → HasClosedGate b p
closed_after s t gone l on takes lost a b p commit kept brings are_left lasting all current there v g left is =
    let live = live_on lasting commit.stays (kept.logs p gate_sector (few_of s t gone l on takes a p kept brings current) there) in
    elim (cases_Bool (names on p)) [
      | inl named ↦ ap (λ o. option_map_or (λ (h : Gate). h.is_open) o false) (sym is ∙ commit.gates (nobody lost refl) p v named live left)
      | inr other ↦
          let old = (commit.around p gate_sector live (omega arith) (inl other)).within v left in
          elim (brings.current p current) [
            | inr joins ↦ joins.closed v g old is
            | inl was ↦ elim (but_none (gone p) (names takes p) (names lost p) (all p current)).0 [
              | inl stays ↦ absurd (both_ways (names on p) other (are_left p ∙ ap₂ (λ x y. x && not y) was stays))
              | inr took ↦ (brings.joins p took other).closed v g old is
            ]
          ]
    ]
  where
    nobody : (places : List ℕ) → places ≡ lost → lost ≡ []
    nobody [] same = sym same
    nobody (q ∷ others) same =
        let one = one_gone s t gone l on takes lost a b commit brings (q ∷ others) same (λ none. let e = ap length none in absurd (omega (arith, e))) in
        absurd (both_ways (gone_but gone takes lost one.0) (all one.0 one.1) one.2)

-- A commit leaves what the next one needs, for the state that it brings and without the places that went in it.
pub joined_after : (s t : State) (gone : ℕ → Bool) (l : LogView) (on takes lost : List ℕ) (a b : RackView)
    → CommitCall l on lost a b → LogInvariant s l.number gone a → BringsTo s t l.number a l.added on takes → AreLeft s gone on
    → IsReady l on a → SomeoneDecides l.added on lost a
    → LogInvariant t (next_number l.number) (gone_but gone takes lost) b
joined_after s t gone l on takes lost a b commit kept brings are_left ready someone =
    record {
      logs = logs_after ready.lasting commit.stays kept.logs;
      few = λ p current. few_of s t gone l on takes a p kept brings current;
      there = λ p current left.
          subst (λ n. 0 < n) (sym (commit.stays.sectors (log_slice p)))
          (log_of s t gone l on takes a p kept brings are_left current (but_none (gone p) (names takes p) (names lost p) left).0).1;
      copies = record {
        own = λ p u current left left_now.
            let both = but_none (gone p) (names takes p) (names lost p) left in
            own_after s t gone l on takes lost a b p u commit kept ready.lasting brings are_left current both.0 both.1 left_now;
        others = λ p u copy few there left is. others_after s t gone l on takes lost a b p u copy commit kept brings ready.lasting few there left is;
        earlier = λ p u copy few former there left is. earlier_after s t gone l on takes lost a b p u copy commit kept brings ready.lasting few former there left is;
      };
      numbers = λ p current there.
          let before = subst (λ n. 1 < n) (commit.stays.sectors (log_slice p)) there in
          commit.numbers p (live_on ready.lasting commit.stays (kept.logs p 1 (few_of s t gone l on takes a p kept brings current) before))
          (numbered_of s t gone l on takes a p kept brings current before);
      halves = λ c stand a is. (commit.rests ready someone c stand).numbers a is;
      whole = λ c stand. (commit.after ready someone c stand).whole;
      idle = λ c stand.
          elim (commit.rests ready someone c stand).targets [
            | inl none ↦ inl none
            | inr all ↦ inr (one_gone s t gone l on takes lost a b commit brings lost refl all.0)
          ];
      closed = λ all p current there.
          closed_after s t gone l on takes lost a b p commit kept brings are_left ready.lasting all current (subst (λ n. gate_sector < n) (commit.stays.sectors (log_slice p)) there);
      quiet = λ c stand d u left.
          let both = but_none (gone (place_of d)) (names takes (place_of d)) (names lost (place_of d)) left in
          quiet_after s t gone l on lost a b c d u commit ready someone stand both.1;
      brought = λ c p copy stand few there is.
          brought_after s t gone l on takes lost a b c p copy commit kept brings ready someone stand few there is;
    }

-- where nobody who had gone takes a copy, those have gone after it that had, and those that went in it
pub gone_none : (gone : ℕ → Bool) (takes lost : List ℕ) → ((p : ℕ) → names takes p ≡ true → gone p ≡ false) → gone_but gone takes lost ≡ gone_with gone lost
gone_none gone takes lost none = λ i p. same (gone p) (names takes p) (names lost p) (none p) i
  where
    same : (g took went : Bool) → (took ≡ true → g ≡ false) → ((g && not took) || went) ≡ (g || went)
    same false took went none = refl
    same true false went none = refl
    same true true went none = absurd (both_ways true (none refl) refl)

-- so it is where no place joins
pub kept_after : (s t : State) (gone : ℕ → Bool) (l : LogView) (on lost : List ℕ) (a b : RackView)
    → CommitCall l on lost a b → LogInvariant s l.number gone a → CarriesState s t l.added on → AreLeft s gone on
    → IsReady l on a → SomeoneDecides l.added on lost a
    → LogInvariant t (next_number l.number) (gone_with gone lost) b
kept_after s t gone l on lost a b commit kept brings are_left ready someone =
    subst (λ g. LogInvariant t (next_number l.number) g b) (gone_none gone on lost (λ p named. on_left s gone on p are_left named))
    (joined_after s t gone l on on lost a b commit kept (brings_to s t l.number a l.added on brings) are_left ready someone)

-- ---- calls that write nothing, and losses

-- contents that a stop may leave after calls that bring no value, one before them might
pub stands_before : {a b : RackView} → a.lasting → SameRack a b → KeepsAll a b → (c : Image) → Stands b c → Stands a c
stands_before {a} {b} lasting stays keeps c stand =
    record {
      picks = λ d t live.
          let over = live_on lasting stays live in
          (keeps.held d t over).within (c d t) (stand.picks d t (live_after stays over));
      inside = λ p t out. stand.inside p t (subst (λ n. n ≤ t) (sym (stays.sectors (log_slice p))) out);
    }

pub logs_before : {a b : RackView} → a.lasting → SameRack a b → KeepsAll a b → (c : Image) → LogsStand b c → LogsStand a c
logs_before {a} {b} lasting stays keeps c stand =
    record {
      picks = λ p t live.
          let over = live_on lasting stays live in
          (keeps.held (log_slice p) t over).within (c (log_slice p) t) (stand.picks p t (live_after stays over));
      inside = λ p t out. stand.inside p t (subst (λ n. n ≤ t) (sym (stays.sectors (log_slice p))) out);
    }

-- a value that is held after such calls was held before them
held_before : {a b : RackView} → a.lasting → SameRack a b → KeepsAll a b → LogsLive a → (p t : ℕ) (u : List ℕ) → p < 16 → t < a.sectors (log_slice p)
    → MayLeave (b.held (log_slice p) t) u → MayLeave (a.held (log_slice p) t) u
held_before lasting stays keeps logs p t u few inside left =
    (keeps.held (log_slice p) t (live_on lasting stays (logs p t few inside))).within u left

-- such calls keep the log
pub kept_keeps : (s : State) (number : ℕ) (gone : ℕ → Bool) (a b : RackView) → a.lasting → SameRack a b → KeepsAll a b
    → LogInvariant s number gone a → LogInvariant s number gone b
kept_keeps s number gone a b lasting stays keeps kept =
    let sectors : b.sectors ≡ a.sectors = λ i d. stays.sectors d i in
    record {
      logs = logs_after lasting stays kept.logs;
      few = kept.few;
      there = λ p current left. subst (λ n. 0 < n) (sym (stays.sectors (log_slice p))) (kept.there p current left);
      copies = record {
        own = λ p u current left now.
            kept.copies.own p u current left (held_before lasting stays keeps kept.logs p 0 u (kept.few p current) (kept.there p current left) now);
        others = λ p u copy few there now is.
            let before = subst (λ n. 0 < n) (stays.sectors (log_slice p)) there in
            kept.copies.others p u copy few before (held_before lasting stays keeps kept.logs p 0 u few before now) is;
        earlier = λ p u copy few former there now is.
            let before = subst (λ n. 0 < n) (stays.sectors (log_slice p)) there in
            kept.copies.earlier p u copy few former before (held_before lasting stays keeps kept.logs p 0 u few before now) is;
      };
      numbers = λ p current there v now.
          let before = subst (λ n. 1 < n) (stays.sectors (log_slice p)) there in
          kept.numbers p current before v (held_before lasting stays keeps kept.logs p 1 v (kept.few p current) before now);
      halves = λ c stand. kept.halves c (logs_before lasting stays keeps c stand);
      whole = λ c stand. kept.whole c (stands_before lasting stays keeps c stand);
      idle = λ c stand. kept.idle c (logs_before lasting stays keeps c stand);
      closed = λ all p current there v g now.
          let before = subst (λ n. gate_sector < n) (stays.sectors (log_slice p)) there in
          kept.closed all p current before v g (held_before lasting stays keeps kept.logs p gate_sector v (kept.few p current) before now);
      quiet = λ c stand d t left.
          ap (λ (n : ℕ → ℕ). replayed n c d t) sectors ∙ kept.quiet c (stands_before lasting stays keeps c stand) d t left;
      brought = λ c p copy stand few there is.
          kept.brought c p copy (stands_before lasting stays keeps c stand) few (subst (λ n. 0 < n) (stays.sectors (log_slice p)) there)
          (subst (λ (n : ℕ → ℕ). decoded (replayed n c (log_slice p) 0) ≡ Ok copy) sectors is);
    }

-- and so does a loss that is noted
pub kept_more : (s : State) (number : ℕ) (gone now : ℕ → Bool) (x : RackView) → ((p : ℕ) → gone p ≡ true → now p ≡ true)
    → LogInvariant s number gone x → LogInvariant s number now x
kept_more s number gone now x more kept =
    record {
      logs = kept.logs;
      few = kept.few;
      there = λ p current left. kept.there p current (was_left p left);
      copies = record {
        own = λ p u current left. kept.copies.own p u current (was_left p left);
        others = kept.copies.others;
        earlier = kept.copies.earlier;
      };
      numbers = kept.numbers;
      halves = kept.halves;
      whole = kept.whole;
      idle = λ c stand. elim (kept.idle c stand) [ inl none ↦ inl none | inr one ↦ inr (one.0, one.1, more one.0 one.2) ];
      closed = λ all. kept.closed (λ p current. was_left p (all p current));
      quiet = λ c stand d t left. kept.quiet c stand d t (was_left (place_of d) left);
      brought = kept.brought;
    }
  where
    was_left : (p : ℕ) → now p ≡ false → gone p ≡ false
    was_left p left =
        elim (cases_Bool (gone p)) [
          | inl went ↦ absurd (both_ways (now p) left (more p went))
          | inr not ↦ not
        ]
