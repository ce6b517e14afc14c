-- Contents in which some sectors are as they were before, and what is pending there.
use Rattle.std.proofs.Common.{◌≡◌, ℕ, ◌<◌, ◌≤◌, ◌&&◌, ◌||◌, Bool, true, false, nat_lt, if◌then◌else◌, is_none, List, [], ◌∷◌, map, Option, Some, None, unwrap_or, option_map, refl, sym, ap, ap₂, subst, ◌∙◌, inl, inr, lt-ltb}
use Rattle.std.specs.Option.{option_and_then}
use Rattle.std.specs.List.{list_all, list_any}
use Rattle.std.proofs.lemmas.Bool.{cases_Bool, cond-true, cond-false}
use Rattle.rack.specs.Values.{MayLeave}
use Rattle.rack.specs.Seen.{Image, RackView, IsLive}
use Rattle.rack.specs.Targets.{Target, look, put}
use Rattle.array_image.specs.Foremost.{foremost}
use Rattle.array_image.specs.Places.{log_slice}
use Rattle.array_image.specs.Record.{GateAt, gate_sector, gate_of, is_there, is_bad_gate, record_in, is_open_if_of, pending_at, pending}
use Rattle.log_laws.specs.View.{names}
use Rattle.log_laws.specs.Standing.{IsInside}
use Rattle.commit_log.proofs.Deciding.{gate_at, names_first as here_first, names_later as later_first}

-- some sectors as they read before
abbrev pub restored : (ℕ → ℕ → Bool) → RackView → Image → Image
restored chosen a c = λ d t. if chosen d t then (a.held d t).current else c d t

pub restored_there : (chosen : ℕ → ℕ → Bool) (a : RackView) (c : Image) (d t : ℕ) → chosen d t ≡ false → restored chosen a c d t ≡ c d t
restored_there chosen a c d t other = cond-false (chosen d t) (a.held d t).current (c d t) other

-- a stop might leave them
pub restored_picks : (chosen : ℕ → ℕ → Bool) (a : RackView) (c : Image)
    → ((d t : ℕ) → IsLive a a d t → chosen d t ≡ false → MayLeave (a.held d t) (c d t))
    → (d t : ℕ) → IsLive a a d t → MayLeave (a.held d t) (restored chosen a c d t)
restored_picks chosen a c picks d t live =
    elim (cases_Bool (chosen d t)) [
      | inl here ↦ inl (cond-true (chosen d t) (a.held d t).current (c d t) here)
      | inr other ↦ subst (λ v. MayLeave (a.held d t) v) (sym (restored_there chosen a c d t other)) (picks d t live other)
    ]

pub restored_inside : (chosen : ℕ → ℕ → Bool) (a : RackView) (c : Image)
    → ((p t : ℕ) → a.sectors (log_slice p) ≤ t → chosen (log_slice p) t ≡ false) → IsInside a.sectors c → IsInside a.sectors (restored chosen a c)
restored_inside chosen a c none inside p t past = restored_there chosen a c (log_slice p) t (none p t past) ∙ inside p t past

-- ---- what is pending goes by the gates of the places and by one record

gates_by : (c e : Image) (ps : List ℕ) → ((p : ℕ) → names ps p ≡ true → c (log_slice p) gate_sector ≡ e (log_slice p) gate_sector)
    → map (gate_at c) ps ≡ map (gate_at e) ps
gates_by c e [] same = refl
gates_by c e (q ∷ ps) same =
    ap₂ (λ (g : Option GateAt) gs. g ∷ gs) (ap (λ (block : List ℕ). option_map (λ g. record { place = q; gate = g }) (gate_of block)) (same q (here_first q ps)))
    (gates_by c e ps (λ p among. same p (later_first q ps p among)))

bad_by : (c e : Image) (ps : List ℕ) → ((p : ℕ) → names ps p ≡ true → c (log_slice p) gate_sector ≡ e (log_slice p) gate_sector)
    → list_any (is_bad_gate c) ps ≡ list_any (is_bad_gate e) ps
bad_by c e [] same = refl
bad_by c e (q ∷ ps) same =
    ap₂ (λ b d. b || d) (ap (λ (block : List ℕ). is_there block && is_none (gate_of block)) (same q (here_first q ps)))
    (bad_by c e ps (λ p among. same p (later_first q ps p among)))

pub pending_at_by : (c e : Image) (ps : List ℕ) → ((p : ℕ) → names ps p ≡ true → c (log_slice p) gate_sector ≡ e (log_slice p) gate_sector)
    → pending_at ps c ≡ pending_at ps e
unfolding pending_at
pending_at_by c e ps same =
    ap (λ (gates : List (Option GateAt)). option_and_then (λ a. if list_all (is_open_if_of a.gate.number) gates then Some a else None) (foremost (λ a. a.gate.number) gates))
    (gates_by c e ps same)

record_by : (c e : Image) (o : Option GateAt) → ((a : GateAt) → o ≡ Some a → record_in c a.place a.gate.number ≡ record_in e a.place a.gate.number)
    → option_and_then (λ a. record_in c a.place a.gate.number) o ≡ option_and_then (λ a. record_in e a.place a.gate.number) o
record_by c e None same = refl
record_by c e (Some a) same = same a refl

pub pending_by : (c e : Image) (ps : List ℕ) → ((p : ℕ) → names ps p ≡ true → c (log_slice p) gate_sector ≡ e (log_slice p) gate_sector)
    → ((a : GateAt) → pending_at ps e ≡ Some a → record_in c a.place a.gate.number ≡ record_in e a.place a.gate.number)
    → pending ps c ≡ pending ps e
unfolding pending
pending_by c e ps gates records =
    ap₂ (λ (bad : Bool) (o : Option (List Target)). if bad then [] else unwrap_or o [])
    (bad_by c e ps gates)
    (ap (λ (o : Option GateAt). option_and_then (λ a. record_in c a.place a.gate.number) o) (pending_at_by c e ps gates)
    ∙ record_by c e (pending_at ps e) records)

-- ---- putting targets

-- the targets that are there already change nothing
pub put_there : (sectors : ℕ → ℕ) (xs : List Target) (c : Image) (d t : ℕ) → ((w : List ℕ) → look xs d t ≡ Some w → c d t ≡ w) → put sectors xs c d t ≡ c d t
put_there sectors xs c d t there = by_look (look xs d t) refl
  where
    if_same : (b : Bool) (v : List ℕ) → (if b then v else v) ≡ v
    if_same true v = refl
    if_same false v = refl

    by_look : (o : Option (List ℕ)) → look xs d t ≡ o → put sectors xs c d t ≡ c d t
    by_look None is = ap (λ (o : Option (List ℕ)). if nat_lt t (sectors d) then unwrap_or o (c d t) else c d t) is ∙ if_same (nat_lt t (sectors d)) (c d t)
    by_look (Some w) is =
        ap (λ (o : Option (List ℕ)). if nat_lt t (sectors d) then unwrap_or o (c d t) else c d t) is
        ∙ ap (λ v. if nat_lt t (sectors d) then v else c d t) (sym (there w is)) ∙ if_same (nat_lt t (sectors d)) (c d t)

-- contents that agree where no target is are the same once the targets are put, where the rack has these
pub put_same : (sectors : ℕ → ℕ) (xs : List Target) (c e : Image) (d t : ℕ)
    → (look xs d t ≡ None → c d t ≡ e d t) → ((w : List ℕ) → look xs d t ≡ Some w → t < sectors d)
    → put sectors xs c d t ≡ put sectors xs e d t
put_same sectors xs c e d t others had = by_look (look xs d t) refl
  where
    by_look : (o : Option (List ℕ)) → look xs d t ≡ o → put sectors xs c d t ≡ put sectors xs e d t
    by_look None is = ap (λ (v : List ℕ). if nat_lt t (sectors d) then unwrap_or (look xs d t) v else v) (others is)
    by_look (Some w) is =
        cond-true (nat_lt t (sectors d)) (unwrap_or (look xs d t) (c d t)) (c d t) (lt-ltb t (sectors d) (had w is))
        ∙ ap (λ (o : Option (List ℕ)). unwrap_or o (c d t)) is
        ∙ ap (λ (o : Option (List ℕ)). unwrap_or o (e d t)) (sym is)
        ∙ sym (cond-true (nat_lt t (sectors d)) (unwrap_or (look xs d t) (e d t)) (e d t) (lt-ltb t (sectors d) (had w is)))
