-- Writes in a row, of which it is said what they may write and nothing of their order.
use Rattle.std.proofs.Common.{◌≡◌, ◌≢◌, ◌⊎◌, ℕ, ◌==◌, ◌&&◌, List, Ok, Err, refl, sym, ap, subst, inl, inr, eq-eqb, eqb-true}
use Rattle.std.proofs.lemmas.Bool.{cases_Bool, and_parts, and_from, and_left, and_right, cond-true, cond-false, ne_eqb}
use Rattle.rack.specs.declared.Gone.{Gone}
use Rattle.rack.specs.Values.{Values, MayLeave, Keeps, append}
use Rattle.rack.specs.Seen.{RackView, IsLive, IsPick, SameRack, appended}
use Rattle.rack.specs.Calls.{KeepsAll, Writes}
use Rattle.rack.specs.Joins.{keeps_same, keeps_then, leaves_same, leaves_weaker, leaves_then, stays_same, stays_then, live_first, live_second, append-may_leave}
use Rattle.rack.specs.Sequences.{MayBecome, IsMix, WritesOnly}

-- ---- what a list of values is after one write

-- elsewhere it is as it was
pub appended_elsewhere :
    (held : ℕ → ℕ → Values) (disk sector : ℕ) (v : List ℕ) (d s : ℕ)
    → (d ≢ disk) ⊎ (s ≢ sector)
    → appended held disk sector v d s ≡ held d s
appended_elsewhere held disk sector v d s (inl other) =
    cond-false _ (append (held d s) v) (held d s) (and_left (d == disk) (s == sector) (ne_eqb d disk other))
appended_elsewhere held disk sector v d s (inr other) =
    cond-false _ (append (held d s) v) (held d s) (and_right (d == disk) (s == sector) (ne_eqb s sector other))

-- there the value is the current one
pub appended_here : (held : ℕ → ℕ → Values) (disk sector : ℕ) (v : List ℕ) → (appended held disk sector v disk sector).current ≡ v
appended_here held disk sector v =
    ap
    (λ (h : Values). h.current)
    (cond-true _ (append (held disk sector) v) (held disk sector) (and_from _ _ (eq-eqb disk disk refl) (eq-eqb sector sector refl)))

-- what it may leave: a value from before, or the one that was written there
pub appended_may :
    (held : ℕ → ℕ → Values) (disk sector : ℕ) (v : List ℕ) (d s : ℕ) (u : List ℕ)
    → MayLeave (appended held disk sector v d s) u
    → MayLeave (held d s) u ⊎ ((d ≡ disk) × (s ≡ sector) × (u ≡ v))
appended_may held disk sector v d s u left =
    elim (cases_Bool ((d == disk) && (s == sector))) [
      | inl here ↦
          let both = and_parts (d == disk) (s == sector) here in
          elim (append-may_leave (held d s) v u
          (subst (λ (h : Values). MayLeave h u) (cond-true _ (append (held d s) v) (held d s) here) left)) [
            | inl new ↦ inr (eqb-true d disk both.0, eqb-true s sector both.1, new)
            | inr old ↦ inl old
          ]
      | inr other ↦ inl (subst (λ (h : Values). MayLeave h u) (cond-false _ (append (held d s) v) (held d s) other) left)
    ]

-- ---- one call

-- nothing was called
pub only_none : (a : RackView) (may : ℕ → ℕ → List ℕ → Type 0) → a.fit → WritesOnly a a may
only_none a may fit =
    record {
      stays = stays_same a fit;
      others = λ d s live never. keeps_same (a.held d s);
      within = λ d s v live left. inl left;
      stops = λ traced. leaves_same a (IsMix a a may);
    }

-- reads and syncs
pub only_quiet : {a b : RackView} (may : ℕ → ℕ → List ℕ → Type 0) → SameRack a b → KeepsAll a b → WritesOnly a b may
only_quiet {a} {b} may stays keeps =
    record {
      stays = stays;
      others = λ d s live never. keeps.held d s live;
      within = λ d s v live left. inl ((keeps.held d s live).within v left);
      stops =
          λ traced.
          leaves_weaker (IsPick a b a.held) (IsMix a b may) (λ i pick d s live. inl (pick d s live)) (keeps.stops traced);
    }

-- what one write may leave
one_becomes :
    (a : RackView) (may : ℕ → ℕ → List ℕ → Type 0) (disk sector : ℕ) (v : List ℕ)
    → may disk sector v
    → (d s : ℕ) (u : List ℕ)
    → MayLeave (appended a.held disk sector v d s) u
    → MayBecome a may d s u
one_becomes a may disk sector v allowed d s u left =
    elim (appended_may a.held disk sector v d s u left) [
      | inl old ↦ inl old
      | inr new ↦
          inr
          (subst (λ k. may k s u) (sym new.0) (subst (λ k. may disk k u) (sym new.1) (subst (may disk sector) (sym new.2) allowed)))
    ]

-- a write elsewhere keeps a sector
one_kept :
    (a : RackView) (may : ℕ → ℕ → List ℕ → Type 0) (disk sector : ℕ) (v : List ℕ)
    → may disk sector v
    → (d s : ℕ) (h : Values)
    → ((u : List ℕ) → may d s u → ⊥)
    → Keeps (appended a.held disk sector v d s) h
    → Keeps (a.held d s) h
one_kept a may disk sector v allowed d s h never keeps =
    elim (cases_Bool ((d == disk) && (s == sector))) [
      | inl here ↦
          let both = and_parts (d == disk) (s == sector) here in
          absurd
          (never v (subst (λ k. may k s v) (sym (eqb-true d disk both.0)) (subst (λ k. may disk k v) (sym (eqb-true s sector both.1)) allowed)))
      | inr other ↦ subst (λ (g : Values). Keeps g h) (cond-false _ (append (a.held d s) v) (a.held d s) other) keeps
    ]

-- a write, answered
pub only_written :
    {a b : RackView} (may : ℕ → ℕ → List ℕ → Type 0) (disk sector : ℕ) (v : List ℕ)
    → may disk sector v
    → Writes a b disk sector v {X = Unit {0}} (Ok tt)
    → WritesOnly a b may
only_written {a} {b} may disk sector v allowed writes =
    record {
      stays = writes.stays;
      others = λ d s live never. one_kept a may disk sector v allowed d s (b.held d s) never (writes.done d s live);
      within = λ d s u live left. one_becomes a may disk sector v allowed d s u ((writes.done d s live).within u left);
      stops =
          λ traced.
          leaves_weaker
          (IsPick a b (appended a.held disk sector v))
          (IsMix a b may)
          (λ i pick d s live. one_becomes a may disk sector v allowed d s (i d s) (pick d s live))
          (writes.stops traced);
    }

-- or refused
pub only_refused :
    {a b : RackView} (may : ℕ → ℕ → List ℕ → Type 0) (disk sector : ℕ) (v : List ℕ) (gone : Gone)
    → may disk sector v
    → Writes a b disk sector v {X = Unit {0}} (Err gone)
    → WritesOnly a b may
only_refused {a} {b} may disk sector v gone allowed writes =
    record {
      stays = writes.stays;
      others =
          λ d s live never.
          elim (writes.failed d s live) [
            | inl before ↦ before
            | inr after ↦ one_kept a may disk sector v allowed d s (b.held d s) never after
          ];
      within =
          λ d s u live left.
          elim (writes.failed d s live) [
            | inl before ↦ inl (before.within u left)
            | inr after ↦ one_becomes a may disk sector v allowed d s u (after.within u left)
          ];
      stops =
          λ traced.
          leaves_weaker
          (IsPick a b (appended a.held disk sector v))
          (IsMix a b may)
          (λ i pick d s live. one_becomes a may disk sector v allowed d s (i d s) (pick d s live))
          (writes.stops traced);
    }

-- ---- calls in a row

-- more may be written than was
pub only_weaker :
    {a b : RackView} (may more : ℕ → ℕ → List ℕ → Type 0)
    → ((d s : ℕ) (v : List ℕ) → may d s v → more d s v)
    → WritesOnly a b may
    → WritesOnly a b more
only_weaker {a} {b} may more weaker only =
    record {
      stays = only.stays;
      others = λ d s live never. only.others d s live (λ v allowed. never v (weaker d s v allowed));
      within = λ d s v live left. widen d s v (only.within d s v live left);
      stops =
          λ traced.
          leaves_weaker
          (IsMix a b may)
          (IsMix a b more)
          (λ i mix d s live. widen d s (i d s) (mix d s live))
          (only.stops traced);
    }
  where
    widen : (d s : ℕ) (v : List ℕ) → MayBecome a may d s v → MayBecome a more d s v
    widen d s v (inl old) = inl old
    widen d s v (inr new) = inr (weaker d s v new)

-- writes, and then writes
pub only_then :
    {a b c : RackView} (may : ℕ → ℕ → List ℕ → Type 0) → WritesOnly a b may → WritesOnly b c may → WritesOnly a c may
only_then {a} {b} {c} may one two =
    record {
      stays = stays_then one.stays two.stays;
      others =
          λ d s live never.
          keeps_then _ _ _ (one.others d s (live_first two.stays live) never) (two.others d s (live_second one.stays live) never);
      within = λ d s v live left. both d s v live (two.within d s v (live_second one.stays live) left);
      stops =
          λ traced.
          leaves_then
          (IsMix a c may)
          (leaves_weaker
          (IsMix a b may)
          (IsMix a c may)
          (λ i mix d s live. mix d s (live_first two.stays live))
          (one.stops traced))
          (leaves_weaker
          (IsMix b c may)
          (IsMix a c may)
          (λ i mix d s live. both d s (i d s) live (mix d s (live_second one.stays live)))
          (two.stops (one.stays.traced traced)));
    }
  where
    both : (d s : ℕ) (v : List ℕ) → IsLive a c d s → MayBecome b may d s v → MayBecome a may d s v
    both d s v live (inl old) = one.within d s v (live_first two.stays live) old
    both d s v live (inr new) = inr new
