-- What a kept call does to a bay as a rack.
use Rattle.std.specs.Prelude.{None, ◌||◌}
use Rattle.std.specs.Option.{option_map}
use Rattle.std.specs.List.{list_any}
use Rattle.std.specs.Str.{bytes_eq}
use Rattle.std.proofs.Common.{◌≡◌, ℕ, ◌+◌, ◌<◌, ◌≤◌, ◌==◌, ◌&&◌, if◌then◌else◌, true, false, inl, inr, List, [], ◌∷◌, ◌++◌, length, refl, sym, ap, subst, ◌∙◌, arith, add-one}
use Rattle.std.proofs.lemmas.List.{length_push}
use Rattle.std.proofs.lemmas.Bool.{eq-eqb}
use Rattle.rack.specs.Values.{Values, MayLeave, Keeps, append, only}
use Rattle.rack.specs.Seen.{Image, IsPick, SameRack}
use Rattle.rack.specs.Moments.{Leaves}
use Rattle.rack.specs.Calls.{KeepsAll}
use Rattle.rack.specs.Shelf.{KeepsShelf}
use Rattle.rack.specs.Joins.{keeps_same, may_leave-append}
use Rattle.rack_mem.specs.declared.calls.Call.{Call}
use Rattle.rack_mem.specs.declared.calls.Call.TheVariants.{Quiet, Write, Sync}
use Rattle.rack_mem.specs.declared.DiskSpec.{DiskSpec}
use Rattle.rack_mem.specs.declared.memory.Attached.{Attached}
use Rattle.rack_mem.specs.History.{after_call}
use Rattle.rack_mem.specs.Memory.{Memory, Follows, Records, IsLeft, number_of, sectors_of, name_of, names_of, is_attached, first_named, waiting, values_of, seen_of, shelf_of}
use Rattle.rack_mem.proofs.Histories.{values_at-push, values_at-pushed}

-- a call was kept, whatever else happened
pub record Appends (a b : Memory) (call : Call) : Type 0 where
  pub follows : Follows a b
  pub calls : b.calls ≡ a.calls ++ call ∷ []

pub appends : {a b : Memory} {call : Call} → Records a b call → Appends a b call
appends r = record { follows = r.follows; calls = r.calls }

-- no call was kept
pub record Stands (a b : Memory) : Type 0 where
  pub follows : Follows a b
  pub calls : b.calls ≡ a.calls

-- what a disk's sector held before the first call stays
first_same : {a b : Memory} → Follows a b → (d s : ℕ) → b.contents (number_of b.attached d) s ≡ a.contents (number_of a.attached d) s
first_same {a} {b} f d s = f.contents (number_of b.attached d) s ∙ ap (λ n. a.contents n s) (f.numbers d)

-- the sectors of a disk stay
sectors_same : {a b : Memory} → Follows a b → (d : ℕ) → sectors_of b.shelf (number_of b.attached d) ≡ sectors_of a.shelf (number_of a.attached d)
sectors_same {a} {b} f d = ap (λ shelf. sectors_of shelf (number_of b.attached d)) f.shelf ∙ ap (sectors_of a.shelf) (f.numbers d)

-- what no call changes
pub stays : {a b : Memory} → Follows a b → SameRack (seen_of a) (seen_of b)
stays {a} {b} f = record {
  fit = tt;
  disks = f.disks;
  sectors = λ d. sectors_same f d;
  faults = f.faults;
  spent = λ d s unspent. refl;
  lasting = λ _. tt;
  lasts = λ _ d s unspent. refl;
  steady = λ steady. steady;
  told = λ d _. tt;
  traced = λ _. tt;
}

-- whether a name is attached goes by the names
attached_by_names : (shelf : List DiskSpec) (xs : List Attached) (name : List ℕ)
    → is_attached shelf xs name ≡ list_any (λ n. bytes_eq n name) (names_of shelf xs)
attached_by_names shelf [] name = refl
attached_by_names shelf (x ∷ xs) name = ap (λ b. bytes_eq (name_of shelf x.number) name || b) (attached_by_names shelf xs name)

-- a disk of the shelf waits with what it held
waiting_same : {a b : Memory} → Follows a b → (n : ℕ) → waiting b n ≡ waiting a n
waiting_same {a} {b} f n = λ i. record { sectors = ap (λ shelf. sectors_of shelf n) f.shelf i; contents = λ s. f.contents n s i }

-- no call of a rack changes the names or what waits
pub shelf_stays : {a b : Memory} → Follows a b → KeepsShelf (shelf_of a) (shelf_of b)
shelf_stays {a} {b} f =
    record {
      names = f.names;
      ready =
          λ name.
          let attached : is_attached b.shelf b.attached name ≡ is_attached a.shelf a.attached name =
          attached_by_names b.shelf b.attached name
          ∙ ap (list_any (λ n. bytes_eq n name)) f.names
          ∙ sym (attached_by_names a.shelf a.attached name) in
          let waits : option_map (waiting b) (first_named b.shelf name) ≡ option_map (waiting a) (first_named a.shelf name) =
          ap (λ g. option_map g (first_named b.shelf name)) (λ i n. waiting_same f n i)
          ∙ ap (λ shelf. option_map (waiting a) (first_named shelf name)) f.shelf in
          ap (λ t. if t then None else option_map (waiting b) (first_named b.shelf name)) attached
          ∙ ap (λ o. if is_attached a.shelf a.attached name then None else o) waits;
      told = λ told. told;
      faults = f.bay;
    }

-- the values at earlier moments stay
values_before : {a b : Memory} {call : Call} → Appends a b call → (d s k : ℕ) → k ≤ length a.calls → values_of b d s k ≡ values_of a d s k
values_before {a} {b} {call} f d s k h =
    rw (f.calls, first_same f.follows d s) (values_at-push a.calls call d s (a.contents (number_of a.attached d) s) k h)

-- the values now follow from the call
pub values_now : {a b : Memory} {call : Call} → Appends a b call → (d s : ℕ)
    → values_of b d s (length b.calls) ≡ after_call call d s (values_of a d s (length a.calls))
values_now {a} {b} {call} f d s =
    rw (f.calls, first_same f.follows d s, length_push a.calls call, add-one) (values_at-pushed a.calls call d s (a.contents (number_of a.attached d) s))

-- one call more is kept
longer : {a b : Memory} {call : Call} → Appends a b call → length b.calls ≡ length a.calls + 1
longer {a} {b} {call} f = ap length f.calls ∙ length_push a.calls call

-- a stop at a moment of the past leaves the same, where the values then stay
left_same : {a b : Memory} → Follows a b → (k : ℕ) → ((d s : ℕ) → values_of b d s k ≡ values_of a d s k)
    → (c : Image) → (IsLeft a k c → IsLeft b k c) × (IsLeft b k c → IsLeft a k c)
left_same f k same c = (
  λ left d s disk sector.
      rw (same d s) (left d s (subst (λ n. d < n) f.disks disk) (subst (λ n. s < n) (sectors_same f d) sector)),
  λ left d s disk sector.
      subst (λ v. MayLeave v (c d s)) (same d s)
      (left d s (subst (λ n. d < n) (sym f.disks) disk) (subst (λ n. s < n) (sym (sectors_same f d)) sector)),
)

-- time goes on by one moment, at which a stop leaves a pick of the values that the call made
pub leaves : {a b : Memory} {call : Call} → Appends a b call
    → Leaves (seen_of a) (seen_of b) (IsPick (seen_of a) (seen_of b) (λ d s. after_call call d s (values_of a d s (length a.calls))))
leaves {a} {b} {call} f = record {
  later = omega (arith, longer f);
  kept = λ k c until. (left_same f.follows k (λ d s. values_before f d s k until) c).0;
  past = λ k c until. (left_same f.follows k (λ d s. values_before f d s k until) c).1;
  new = λ k c after until left d s live.
      let now : k ≡ length b.calls = omega (arith, longer f) in
      subst (λ v. MayLeave v (c d s)) (ap (values_of b d s) now ∙ values_now f d s) (left d s live.disk live.sector);
}

-- the values stay where no call was kept
values_stand : {a b : Memory} → Stands a b → (d s k : ℕ) → values_of b d s k ≡ values_of a d s k
values_stand f d s k = rw (f.calls, first_same f.follows d s) refl

-- a call without effect keeps all values
pub quiet_keeps : {a b : Memory} → Appends a b Quiet → KeepsAll (seen_of a) (seen_of b)
quiet_keeps f = record {
  held = λ d s live. subst (Keeps _) (sym (values_now f d s)) (keeps_same _);
  stops = λ _. leaves f;
}

-- so does a call that isn't kept
pub stands_keeps : {a b : Memory} → Stands a b → KeepsAll (seen_of a) (seen_of b)
stands_keeps {a} {b} f = record {
  held = λ d s live. subst (Keeps (values_of a d s (length a.calls))) (sym (values_stand f d s (length b.calls) ∙ ap (values_of a d s) (ap length f.calls))) (keeps_same _);
  stops = λ _. record {
    later = omega (arith, ap length f.calls);
    kept = λ k c until. (left_same f.follows k (λ d s. values_stand f d s k) c).0;
    past = λ k c until. (left_same f.follows k (λ d s. values_stand f d s k) c).1;
    new = λ k c after until. absurd (omega (arith, ap length f.calls));
  };
}

-- a write adds a value alone
pub write_adds : (h : Values) (d s disk sector : ℕ) (x v : List ℕ) → MayLeave h v → MayLeave (after_call (Write disk sector x) d s h) v
write_adds h d s disk sector x v left =
    elim ((d == disk) && (s == sector)) as (λ test. MayLeave (if test then append h x else h) v) [
      | true ↦ may_leave-append h x v left
      | false ↦ left
    ]

-- a sync drops values alone
pub sync_keeps : (h : Values) (d s disk : ℕ) → Keeps h (after_call (Sync disk) d s h)
sync_keeps h d s disk =
    elim (d == disk) as (λ test. Keeps h (if test then only h.current else h)) [
      | true ↦ record { current = refl; within = λ v left. elim left [ inl now ↦ inl now | inr older ↦ absurd older ] }
      | false ↦ keeps_same h
    ]

-- a sync leaves the last value of each sector of its disk alone
pub sync_single : (h : Values) (s disk : ℕ) (v : List ℕ) → MayLeave (after_call (Sync disk) disk s h) v → v ≡ (after_call (Sync disk) disk s h).current
sync_single h s disk v =
    rw (eq-eqb disk disk refl) (λ left. elim left [ inl now ↦ now | inr older ↦ absurd older ])
