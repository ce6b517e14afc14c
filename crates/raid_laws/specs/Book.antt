-- The book of a pool, as calls of a rack of arrays change it: marks are added, a plan ends, and nothing else.
use Rattle.std.specs.Prelude.{◌≡◌, ◌⊎◌, ℕ, ◌-◌, ◌<◌, ◌≤◌, ◌^◌, true, List, map, refl}
use Rattle.std.proofs.Common.{◌∙◌, inl, inr, sym, arith}
use Rattle.pool_state.specs.declared.contents.Drive.{Drive}
use Rattle.pool_state.specs.declared.contents.Plan.TheVariants.{Nothing}
use Rattle.pool_state.specs.declared.contents.State.{State}
use Rattle.array_image.specs.States.{is_current}

-- the id and the units of a drive
abbrev pub drive_of : Drive → List ℕ × ℕ
drive_of d = (d.id.0, d.units)

-- states that differ in epoch and marks alone, and in the plan where it has ended
pub record IsSameBook (p q : State) : Type 0 where
  pub pool : q.pool ≡ p.pool
  pub extent : q.extent ≡ p.extent
  pub drives : map drive_of q.drives.items ≡ map drive_of p.drives.items
  pub plan : (q.plan ≡ p.plan) ⊎ (q.plan ≡ Nothing)
  pub made : q.made ≡ p.made
  pub joined : q.joined ≡ p.joined
  pub serial : q.serial ≡ p.serial

-- marks are only added, and a plan that has ended stays so
pub record OnlyMarksSince (p q : State) : Type 0 where
  pub same : IsSameBook p q
  pub epoch : p.epoch ≤ q.epoch
  -- a change raises the epoch, until epochs are used up
  pub raised : (q ≡ p) ⊎ (p.epoch < q.epoch) ⊎ (2 ^ 63 - 1 ≤ q.epoch)
  pub current : (place : ℕ) → is_current q place ≡ true → is_current p place ≡ true

-- ---- books that follow each other

same_then : (p q r : State) → IsSameBook p q → IsSameBook q r → IsSameBook p r
same_then p q r one two =
    record {
      pool = two.pool ∙ one.pool;
      extent = two.extent ∙ one.extent;
      drives = two.drives ∙ one.drives;
      plan = elim two.plan [
        | inl same ↦ elim one.plan [ inl before ↦ inl (same ∙ before) | inr ended ↦ inr (same ∙ ended) ]
        | inr ended ↦ inr ended
      ];
      made = two.made ∙ one.made;
      joined = two.joined ∙ one.joined;
      serial = two.serial ∙ one.serial;
    }

pub after_same : (p : State) → OnlyMarksSince p p
after_same p =
    record {
      same = record { pool = refl; extent = refl; drives = refl; plan = inl refl; made = refl; joined = refl; serial = refl };
      epoch = omega arith;
      raised = inl refl;
      current = λ place is. is;
    }

raised_then : (p q r : State) → OnlyMarksSince p q → OnlyMarksSince q r → (r ≡ p) ⊎ (p.epoch < r.epoch) ⊎ (2 ^ 63 - 1 ≤ r.epoch)
raised_then p q r one two =
    let up = one.epoch in
    let next = two.epoch in
    elim two.raised [
      | inr (inl later) ↦ inr (inl (omega (arith, up, later)))
      | inr (inr most) ↦ inr (inr most)
      | inl same ↦ elim one.raised [
        | inl before ↦ inl (same ∙ before)
        | inr (inl later) ↦ inr (inl (omega (arith, next, later)))
        | inr (inr most) ↦ inr (inr (omega (arith, next, most)))
      ]
    ]

pub after_then : (p q r : State) → OnlyMarksSince p q → OnlyMarksSince q r → OnlyMarksSince p r
after_then p q r one two =
    record {
      same = same_then p q r one.same two.same;
      epoch = let first = one.epoch in let second = two.epoch in omega arith;
      raised = raised_then p q r one two;
      current = λ place is. one.current place (two.current place is);
    }

-- between books of one plan it is that plan
pub plan_between : (p q r : State) → OnlyMarksSince p q → OnlyMarksSince q r → r.plan ≡ p.plan → q.plan ≡ p.plan
plan_between p q r one two same = elim one.same.plan [
  | inl kept ↦ kept
  | inr ended ↦ elim two.same.plan [ inl kept ↦ sym kept ∙ same | inr gone ↦ ended ∙ sym gone ∙ same ]
]
