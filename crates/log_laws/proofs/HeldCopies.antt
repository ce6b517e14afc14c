-- The copies of a state on log slices: with all targets of a commit written, between commits, and over calls that bring no value.
use Rattle.std.proofs.Common.{◌≡◌, ℕ, ◌-◌, ◌<◌, ◌≤◌, Bool, true, false, List, [], Option, Some, None, Ok, refl, sym, ap, subst, ◌∙◌, inl, inr, arith}
use Rattle.std.proofs.lemmas.Bool.{both_ways, cases_Bool, cases_lt}
use Rattle.std.proofs.lemmas.Option.{none-some}
use Rattle.rack.specs.Values.{MayLeave}
use Rattle.rack.specs.Calls.{KeepsAll}
use Rattle.rack.specs.Seen.{Image, RackView, SameRack}
use Rattle.rack.specs.Targets.{Target, look, put}
use Rattle.pool_state.specs.declared.contents.Copied.{Copied}
use Rattle.pool_state.specs.declared.contents.State.{State}
use Rattle.pool_state.specs.Sector.{decoded}
use Rattle.array_image.specs.Left.{TargetsInside}
use Rattle.array_image.specs.Places.{log_slice}
use Rattle.array_image.specs.Record.{pending}
use Rattle.array_image.specs.States.{state_in, is_current}
use Rattle.array_image.specs.Arrays.{replayed}
use Rattle.log_laws.specs.View.{names}
use Rattle.log_laws.specs.Standing.{LogsStand, StatesStand}
use Rattle.log_laws.specs.Commits.{Stands}
use Rattle.log_laws.specs.Kept.{IsCopyOf, IsNoLater, LogInvariant, BringsTo}
use Rattle.log_laws.specs.Saying.{CopiesIn, HoldsCopies, RecoversTo}
use Rattle.log_laws.proofs.Copies.{nothing_decodes, state_by_copies}
use Rattle.log_laws.proofs.Kept.{NoneLater, brings_none, brings_to, copy_state, epoch_up, kept_idle, kept_state, later_yet, put_none, put_outside, put_some}
use Rattle.log_laws.proofs.KeptAfter.{logs_before, stands_before}

pub logs_of : {x : RackView} (c : Image) → Stands x c → LogsStand x c
logs_of c stand = record { picks = λ p t live. stand.picks (log_slice p) t live; inside = stand.inside }

pub states_of : {x : RackView} (xs : List Target) (c : Image) → LogsStand x c → StatesStand xs x c
states_of xs c stand = record { picks = λ p live. inl (stand.picks p 0 live); inside = λ p none. stand.inside p 0 (omega (arith, none)) }

-- no target is for nothing
pub no_look : (d t : ℕ) (u : List ℕ) → look [] d t ≡ Some u → ⊥
unfolding look
no_look d t u is = none-some u is

-- contents with the same copies
pub copies_same : (s : State) (sectors : ℕ → ℕ) (c e : Image) → ((p : ℕ) → c (log_slice p) 0 ≡ e (log_slice p) 0) → CopiesIn s sectors e → CopiesIn s sectors c
copies_same s sectors c e same copies = record {
  own = λ p current there. subst (IsCopyOf s p) (sym (same p)) (copies.own p current there);
  others = λ p copy few is. copies.others p copy few (ap decoded (sym (same p)) ∙ is);
  earlier = λ p copy few former is. copies.earlier p copy few former (ap decoded (sym (same p)) ∙ is);
}

-- ---- targets that are written

module _ (s t : State) (number : ℕ) (gone : ℕ → Bool) (on takes : List ℕ) (xs : List Target) (x : RackView) (kept : LogInvariant s number gone x)
    (brings : BringsTo s t number x xs on takes) (all : t ≡ s → (p : ℕ) → is_current s p ≡ true → gone p ≡ false) (c : Image) (stand : StatesStand xs x c) where
  abbrev e : Image
  e = put x.sectors xs c

  -- a place's copy is a new one, or it has no target and holds what it held
  data Written (p : ℕ) : Type 0 where
    is_new : names takes p ≡ true → IsCopyOf t p (e (log_slice p) 0) → Written p
    is_held : look xs (log_slice p) 0 ≡ None → MayLeave (x.held (log_slice p) 0) (e (log_slice p) 0) → Written p

  written : (p : ℕ) → p < 16 → 0 < x.sectors (log_slice p) → Written p
  written p few there = of (look xs (log_slice p) 0) refl
    where
      of : (o : Option (List ℕ)) → look xs (log_slice p) 0 ≡ o → Written p
      of None none =
          let here : e (log_slice p) 0 ≡ c (log_slice p) 0 = put_none x.sectors xs c (log_slice p) 0 none in
          elim (stand.picks p (kept.logs p 0 few there)) [
            | inl held ↦ is_held none (subst (MayLeave (x.held (log_slice p) 0)) (sym here) held)
            | inr new ↦ absurd (none-some (c (log_slice p) 0) (sym none ∙ new))
          ]
      of (Some w) some = elim brings.either [
        | inl same ↦ absurd (none-some w (sym (same.1 p) ∙ some))
        | inr later ↦ elim (cases_Bool (names takes p)) [
          | inr other ↦ absurd (none-some w (sym (later.3 p other) ∙ some))
          | inl named ↦
              let new = later.2 p named in
              is_new named (subst (IsCopyOf t p) (sym (put_some x.sectors xs c (log_slice p) 0 new.0 there new.1)) new.2)
        ]
      ]

  few_of : (p : ℕ) → is_current t p ≡ true → p < 16
  few_of p current = elim (brings.current p current) [ inl was ↦ kept.few p was | inr joins ↦ joins.few ]

  -- where there is no sector nothing is decoded
  nothing : (p : ℕ) (copy : Copied) → x.sectors (log_slice p) ≤ 0 → decoded (e (log_slice p) 0) ≡ Ok copy → ⊥
  nothing p copy none is =
      nothing_decodes copy (ap decoded (sym (put_outside x.sectors xs c (log_slice p) 0 none ∙ stand.inside p (omega (arith, none)))) ∙ is)

  own_now : (p : ℕ) → is_current t p ≡ true → Written p → IsCopyOf t p (e (log_slice p) 0)
  own_now p current (is_new named copy) = copy
  own_now p current (is_held none held) = elim brings.either [
    | inl same ↦
        let was : is_current s p ≡ true = subst (λ (u : State). is_current u p ≡ true) same.0 current in
        subst (λ (u : State). IsCopyOf u p (e (log_slice p) 0)) (sym same.0) (kept.copies.own p (e (log_slice p) 0) was (all same.0 p was) held)
    | inr later ↦ let new = later.2 p (later.1 p current) in absurd (none-some new.0 (sym none ∙ new.1))
  ]

  others_now : (p : ℕ) (copy : Copied) → p < 16 → 0 < x.sectors (log_slice p) → decoded (e (log_slice p) 0) ≡ Ok copy → Written p → IsNoLater t copy
  others_now p copy few there is (is_new named new) = inr (copy_state t copy p (e (log_slice p) 0) new is)
  others_now p copy few there is (is_held none held) =
      let old = kept.copies.others p (e (log_slice p) 0) copy few there held is in
      elim (epoch_up s t number x xs on takes brings) [
        | inl same ↦ subst (λ (u : State). IsNoLater u copy) (sym same) old
        | inr later ↦ later_yet s t copy later old
      ]

  lower : (copy : Copied) → s.epoch < t.epoch → IsNoLater s copy → copy.state.epoch < t.epoch
  lower copy later (inl less) = omega (arith, later, less)
  lower copy later (inr same) = let epoch = ap (λ (u : State). u.epoch) same in omega (arith, later, epoch)

  earlier_now : (p : ℕ) (copy : Copied) → p < 16 → is_current t p ≡ false → 0 < x.sectors (log_slice p) → decoded (e (log_slice p) 0) ≡ Ok copy → Written p
      → copy.state.epoch < t.epoch
  earlier_now p copy few former there is (is_new named new) = absurd (both_ways (is_current t p) former (brings.left p named))
  earlier_now p copy few former there is (is_held none held) = elim brings.either [
    | inl same ↦
        subst (λ (u : State). copy.state.epoch < u.epoch) (sym same.0)
        (kept.copies.earlier p (e (log_slice p) 0) copy few (subst (λ (u : State). is_current u p ≡ false) same.0 former) there held is)
    | inr later ↦ lower copy later.0 (kept.copies.others p (e (log_slice p) 0) copy few there held is)
  ]

  -- with all targets written the copies are of the new state
  pub put_copies : CopiesIn t x.sectors e
  put_copies = record {
    own = λ p current there. own_now p current (written p (few_of p current) there);
    others = λ p copy few is. elim (cases_lt 0 (x.sectors (log_slice p))) [
      | inl there ↦ others_now p copy few there is (written p few there)
      | inr none ↦ absurd (nothing p copy none is)
    ];
    earlier = λ p copy few former is. elim (cases_lt 0 (x.sectors (log_slice p))) [
      | inl there ↦ earlier_now p copy few former there is (written p few there)
      | inr none ↦ absurd (nothing p copy none is)
    ];
  }

-- ---- between commits

-- Where each current place is left, contents whose copies are held have all of them.
pub held_copies : (s : State) (number : ℕ) (gone : ℕ → Bool) (x : RackView) (c : Image) → LogInvariant s number gone x
    → ((p : ℕ) → is_current s p ≡ true → gone p ≡ false) → StatesStand [] x c → CopiesIn s x.sectors c
unfolding look
held_copies s number gone x c kept all stand =
    copies_same s x.sectors c (put x.sectors [] c) (λ p. sym (put_none x.sectors [] c (log_slice p) 0 refl))
    (put_copies s s number gone [] [] [] x kept (brings_to s s number x [] [] (brings_none s)) (λ same. all) c stand)

-- where nobody has gone all copies are there, and nothing is pending
pub kept_holds : (s : State) (number : ℕ) (x : RackView) → LogInvariant s number (λ p. false) x → HoldsCopies s x
kept_holds s number x kept =
    let gone : ℕ → Bool = λ p. false in
    record {
      copies = λ c stand.
          copies_same s x.sectors (replayed x.sectors c) c (λ p. kept.quiet c stand (log_slice p) 0 refl)
          (held_copies s number gone x c kept (λ p current. refl) (states_of [] c (logs_of c stand)));
      brings = λ c stand p u is.
          absurd (no_look (log_slice p) 0 u (ap (λ (xs : List Target). look xs (log_slice p) 0) (sym (kept_idle s number gone x c kept stand (λ q current. refl))) ∙ is));
      inside = λ c stand d t v is.
          absurd (no_look d t v (ap (λ (xs : List Target). look xs d t) (sym (kept_idle s number gone x c kept stand (λ q current. refl))) ∙ is));
    }

-- no place has a later copy
pub kept_latest : (s : State) (number : ℕ) (gone : ℕ → Bool) (x : RackView) (c : Image) → LogInvariant s number gone x → LogsStand x c → NoneLater s c
kept_latest s number gone x c kept logs q copy few is = elim (cases_lt 0 (x.sectors (log_slice q))) [
  | inl there ↦ kept.copies.others q (c (log_slice q) 0) copy few there (logs.picks q 0 (kept.logs q 0 few there)) is
  | inr none ↦ absurd (nothing_decodes copy (ap decoded (sym (logs.inside q 0 none)) ∙ is))
]

-- copies say their state, where a current place has its log slice
pub says_by : (s : State) (sectors : ℕ → ℕ) (r : Image) (p : ℕ) → CopiesIn s sectors r → p < 16 → is_current s p ≡ true → 0 < sectors (log_slice p) → state_in r ≡ Some s
says_by s sectors r p copies few current there = state_by_copies s r p copies.others few (copies.own p current there)

-- what a stop leaves then
pub kept_says : (s : State) (number : ℕ) (gone : ℕ → Bool) (x : RackView) (c : Image) (p : ℕ) → LogInvariant s number gone x → HoldsCopies s x
    → is_current s p ≡ true → gone p ≡ false → Stands x c → RecoversTo s x.sectors c
kept_says s number gone x c p kept holds current left stand =
    let logs = logs_of c stand in
    record {
      whole = kept.whole c stand;
      is_state = says_by s x.sectors (replayed x.sectors c) p (holds.copies c stand) (kept.few p current) current (kept.there p current left);
      copies = holds.copies c stand;
      stood = s;
      stood_is = kept_state s number gone x c p kept logs current left;
      latest = kept_latest s number gone x c kept logs;
      next = inl refl;
      brings = holds.brings c logs;
      inside = holds.inside c logs;
    }

-- calls that bring no value keep the copies
pub holds_keeps : (s : State) (a b : RackView) → a.lasting → SameRack a b → KeepsAll a b → HoldsCopies s a → HoldsCopies s b
holds_keeps s a b lasting stays keeps holds = record {
  copies = λ c stand.
      subst (λ (n : ℕ → ℕ). CopiesIn s n (replayed n c)) (sym (λ i d. stays.sectors d i)) (holds.copies c (stands_before lasting stays keeps c stand));
  brings = λ c stand. holds.brings c (logs_before lasting stays keeps c stand);
  inside = λ c stand.
      subst (λ (n : ℕ → ℕ). TargetsInside n c) (sym (λ i d. stays.sectors d i)) (holds.inside c (logs_before lasting stays keeps c stand));
}
