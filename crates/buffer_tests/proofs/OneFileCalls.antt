-- What the calls of one file do to what it shows.
use Rattle.std.proofs.Common.{◌≡◌, ◌≢◌, ◌⊎◌, ℕ, ◌+◌, ◌-◌, ◌<◌, ◌≤◌, List, ◌++◌, length, take, drop, Option, None, Some, Ok, Err, refl, sym, subst, ◌∙◌, inl, inr, arith}
use Rattle.std.proofs.lemmas.Bool.{cases_lt}
use Rattle.std.proofs.lemmas.List.{take_all, take-append-le}
use Rattle.rack.specs.declared.Gone.{Gone}
use Rattle.rack.specs.Values.{MayLeave, Keeps}
use Rattle.rack.specs.Seen.{IsLive, Rose, SameRack}
use Rattle.rack.specs.Sequences.{OnlyReads}
use Rattle.buffered_bay.specs.StoreCalls.{HasFault, Stores}
use Rattle.buffer_tests.specs.OneFile.{Contents, at, held_of, names_of, place_of, seen_of, view_of, Copies}

-- there is one disk at most
pub first_disk : (name : Option (List ℕ)) (d : ℕ) → d < length (names_of name) → d ≡ 0
first_disk None d has = absurd (omega (arith, has))
first_disk (Some name) d has = omega (arith, has)

-- what no call changes
stays_of :
    (name : Option (List ℕ)) (sectors : ℕ) (c k : Contents) (before after : ℕ) → before ≤ after
    → SameRack (seen_of name sectors c before) (seen_of name sectors k after)
stays_of name sectors c k before after grows =
    record {
      fit = tt;
      disks = refl;
      sectors = λ d. refl;
      faults = λ d. grows;
      spent = λ d s is. is;
      lasting = λ is. is;
      lasts = λ is d s none. refl;
      steady = λ is. is;
      told = λ d is. is;
      traced = λ is. is;
    }

-- no value came
pub only_reads :
    (name : Option (List ℕ)) (sectors : ℕ) (c k : Contents) (before after : ℕ) → before ≤ after
    → ((s : ℕ) → s < sectors → Keeps (held_of c s) (held_of k s))
    → OnlyReads (seen_of name sectors c before) (seen_of name sectors k after)
only_reads name sectors c k before after grows keeps =
    record {
      stays = stays_of name sectors c k before after grows;
      keeps = record { held = λ d s live. keeps s live.sector; stops = λ traced. absurd traced };
    }

-- an answer is no fault, and a refusal one that was counted
pub answered :
    (name : Option (List ℕ)) (sectors : ℕ) (c k : Contents) (before after disk : ℕ)
    → HasFault (seen_of name sectors c before) (seen_of name sectors k after) disk (Ok (tt {0}))
answered name sectors c k before after disk = record { gone = tt; steady = λ is. absurd is }

pub counted :
    (name : Option (List ℕ)) (sectors : ℕ) (c k : Contents) (before after disk : ℕ) (gone : Gone)
    → gone.disk ≡ disk → Rose before after
    → HasFault (seen_of name sectors c before) (seen_of name sectors k after) disk {X = Unit {0}} (Err gone)
counted name sectors c k before after disk gone here rose = record { gone = (here, rose); steady = λ is. absurd is }

-- the contents after places were written to a file
abbrev pub stored_in : Contents → List (List ℕ) → Contents
stored_in c new = record { durable = c.durable; stored = new; current = c.current }

-- what is written is current
store_keeps :
    (c : Contents) (buffer new : List (List ℕ)) (sector place count many : ℕ)
    → many ≤ count
    → Copies buffer place c.stored new sector many
    → ((p : ℕ) → p < count → at buffer (place + p) ≡ at c.current (sector + p))
    → (s : ℕ) → Keeps (held_of c s) (held_of (stored_in c new) s)
store_keeps c buffer new sector place count many part copies current s = record { current = refl; within = within }
  where
    written : at new s ≡ at c.stored s ⊎ (at new s ≡ at c.current s)
    written =
        elim (cases_lt s sector) [
          | inl before ↦ inl (copies.others s (inl before))
          | inr from ↦
              elim (cases_lt s (sector + many)) [
                | inr behind ↦ inl (copies.others s (inr behind))
                | inl within ↦
                    let p : ℕ = s - sector in
                    let is : sector + p ≡ s = omega (arith, from) in
                    let first : p < many = omega (arith, within, from) in
                    inr (subst (λ n. at new n ≡ at c.current n) is (copies.copied p first ∙ current p (omega (arith, first, part))))
              ]
        ]

    either : (v : List ℕ) → v ≡ at new s → at new s ≡ at c.stored s ⊎ (at new s ≡ at c.current s) → MayLeave (held_of c s) v
    either v is (inl old) = inr (inr (inl (is ∙ old)))
    either v is (inr now) = inl (is ∙ now)

    within : (v : List ℕ) → MayLeave (held_of (stored_in c new) s) v → MayLeave (held_of c s) v
    within v (inl now) = inl now
    within v (inr (inl first)) = inr (inl first)
    within v (inr (inr (inl second))) = either v second written
    within v (inr (inr (inr none))) = absurd none

store_others :
    (name : Option (List ℕ)) (sectors : ℕ) (c : Contents) (buffer new : List (List ℕ)) (before after sector place count many : ℕ)
    → many ≤ count
    → Copies buffer place c.stored new sector many
    → (d s : ℕ) → IsLive (seen_of name sectors c before) (seen_of name sectors (stored_in c new) after) d s
    → (d ≢ 0) ⊎ (s < sector) ⊎ (sector + count ≤ s) → at new s ≡ at c.stored s
store_others name sectors c buffer new before after sector place count many part copies d s live (inl far) = absurd (far (first_disk name d live.disk))
store_others name sectors c buffer new before after sector place count many part copies d s live (inr (inl under)) = copies.others s (inl under)
store_others name sectors c buffer new before after sector place count many part copies d s live (inr (inr over)) = copies.others s (inr (omega (arith, over, part)))

pub store_done :
    (name : Option (List ℕ)) (sectors : ℕ) (c : Contents) (buffer new : List (List ℕ)) (before after disk sector place count : ℕ)
    → before ≤ after → disk < length (names_of name)
    → Copies buffer place c.stored new sector count
    → ((p : ℕ) → p < count → place_of buffer disk (place + p) ≡ at c.current (sector + p))
    → Stores (view_of name sectors c buffer before) (view_of name sectors (stored_in c new) buffer after) disk sector place count (Ok (tt {0}))
store_done name sectors c buffer new before after disk sector place count grows has copies current =
    let zero_disk = first_disk name disk has in
    let here = subst (λ n. (p : ℕ) → p < count → place_of buffer n (place + p) ≡ at c.current (sector + p)) zero_disk current in
    subst (λ n. Stores (view_of name sectors c buffer before) (view_of name sectors (stored_in c new) buffer after) n sector place count (Ok (tt {0})))
    (sym zero_disk)
    (record {
      reads = only_reads name sectors c (stored_in c new) before after grows (λ s inside. store_keeps c buffer new sector place count count (omega arith) copies here s);
      fault = answered name sectors c (stored_in c new) before after 0;
      buffers = λ d p. refl;
      others = store_others name sectors c buffer new before after sector place count count (omega arith) copies;
      stored = λ told p below. copies.copied p below;
    })

pub store_refused :
    (name : Option (List ℕ)) (sectors : ℕ) (c : Contents) (buffer new : List (List ℕ)) (before after disk sector place count many : ℕ) (gone : Gone)
    → before ≤ after → disk < length (names_of name) → many ≤ count
    → Copies buffer place c.stored new sector many
    → ((p : ℕ) → p < count → place_of buffer disk (place + p) ≡ at c.current (sector + p))
    → gone.disk ≡ disk → Rose before after
    → Stores (view_of name sectors c buffer before) (view_of name sectors (stored_in c new) buffer after) disk sector place count {X = Unit {0}} (Err gone)
store_refused name sectors c buffer new before after disk sector place count many gone grows has part copies current is rose =
    let zero_disk = first_disk name disk has in
    let here = subst (λ n. (p : ℕ) → p < count → place_of buffer n (place + p) ≡ at c.current (sector + p)) zero_disk current in
    subst (λ n. Stores (view_of name sectors c buffer before) (view_of name sectors (stored_in c new) buffer after) n sector place count {X = Unit {0}} (Err gone))
    (sym zero_disk)
    (record {
      reads = only_reads name sectors c (stored_in c new) before after grows (λ s inside. store_keeps c buffer new sector place count many part copies here s);
      fault = counted name sectors c (stored_in c new) before after 0 gone (is ∙ zero_disk) rose;
      buffers = λ d p. refl;
      others = store_others name sectors c buffer new before after sector place count many part copies;
      stored = tt;
    })

-- a slice that is written back whole is what the list holds
pub written_back : (xs ys : List (List ℕ)) (n : ℕ) → length xs ≡ length ys → n ≡ length ys → take n (xs ++ drop (length xs) ys) ≡ xs
written_back xs ys n same all = take-append-le n xs (drop (length xs) ys) (omega (arith, same, all)) ∙ take_all n xs (omega (arith, same, all))

-- the same copies, told of equal lists
pub copies_of :
    {from old new : List (List ℕ)} (from' old' new' : List (List ℕ)) {first place count : ℕ}
    → from' ≡ from → old' ≡ old → new ≡ new'
    → Copies from' first old' new' place count → Copies from first old new place count
copies_of {from} {old} {new} from' old' new' {first} {place} {count} same_from same_old same_new copies =
    subst (λ xs. Copies xs first old new place count) same_from
    (subst (λ xs. Copies from' first xs new place count) same_old
    (subst (λ xs. Copies from' first old' xs place count) (sym same_new) copies))
