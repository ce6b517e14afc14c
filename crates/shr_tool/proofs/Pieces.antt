-- A sector that is filled with the bytes of a source.
use Rattle.std.proofs.Common.{◌≡◌, ℕ, ◌+◌, ◌-◌, ◌≤◌, List, [], ◌++◌, length, take, drop, append_assoc, length-append, replicate, Result, Ok, Err, IfOk, sym, ◌∙◌, ap, subst, arith}
use Rattle.std.proofs.lemmas.List.{append-nil, drop_all, nil_from_length, length-take-le, take_all, take-append-le}
use Rattle.std.proofs.Math.Seq.{drop-append_seam, take-append_seam, take-append-add}
use borrow.Rule.Slice.PartMut.{put_mid, post_of}
use Rattle.io_ends.specs.Source.{TakesFirst}
use Rattle.shr_tool.specs.Importing.{filled_up}

-- bytes written behind the first ones of a sector stand behind them
pub taken_behind :
    (into part before after : List ℕ) (filled room count : ℕ)
    → filled ≤ length into
    → count ≤ length part
    → before ≡ take count part ++ after
    → take filled into ++ before ≡ take (filled + count) (put_mid filled room into part) ++ after
taken_behind into part before after filled room count inside within is =
    let front = take filled into in
    let back = part ++ post_of filled room into in
    let more : take (filled + count) (front ++ back) ≡ front ++ take count part =
    subst (λ n. take (n + count) (front ++ back) ≡ front ++ take count back) (length-take-le filled into inside)
    (take-append-add front back count)
    ∙ ap (λ xs. front ++ xs) (take-append-le count part (post_of filled room into) within) in
    ap (λ xs. front ++ xs) is
    ∙ (sym (append_assoc front (take count part) after)
    ∙ ap (λ xs. xs ++ after) (sym more))

pub takes_behind :
    {E : Type 0} (r : Result ℕ E) (into part before after : List ℕ) (filled room : ℕ)
    → filled ≤ length into
    → IfOk r (λ count. count ≤ length part)
    → IfOk r (λ count. TakesFirst count before after part)
    → IfOk r (λ count. take filled into ++ before ≡ take (filled + count) (put_mid filled room into part) ++ after)
takes_behind {E} (Ok count) into part before after filled room inside within takes =
    taken_behind into part before after filled room count inside within takes.bytes
takes_behind {E} (Err fault) into part before after filled room inside within takes = tt

-- as many bytes as a sector has were taken
pub full_sector :
    (before part after : List ℕ)
    → before ≡ part ++ after
    → length part ≡ 512
    → (take 512 before ≡ part) × (after ≡ drop 512 before)
full_sector before part after is full = (
  ap (take 512) is ∙ subst (λ n. take n (part ++ after) ≡ part) full (take-append_seam part after),
  sym (ap (drop 512) is ∙ subst (λ n. drop n (part ++ after) ≡ after) full (drop-append_seam part after)),
)

-- or fewer, and nothing is left
pub last_sector :
    (before part after : List ℕ)
    → before ≡ part ++ after
    → length part ≤ 512
    → after ≡ []
    → (take 512 before ≡ part) × (after ≡ drop 512 before)
last_sector before part after is few none =
    let same : before ≡ part = is ∙ (ap (λ xs. part ++ xs) none ∙ append-nil part) in
    (ap (take 512) same ∙ take_all 512 part few, none ∙ sym (ap (drop 512) same ∙ drop_all 512 part few))

-- a sector that is full has no room for zeros
pub full_up : (part : List ℕ) → length part ≡ 512 → part ≡ filled_up part
full_up part full = sym (ap (λ n. part ++ replicate n 0) (let none : 512 - length part ≡ 0 = omega arith in none) ∙ append-nil part)

-- nothing is left where no byte was taken of nothing
pub none_after :
    (front before back after : List ℕ) → front ++ before ≡ back ++ after → length back ≡ length front → before ≡ [] → after ≡ []
none_after front before back after is same none =
    let lengths = ap length is in
    let empty = ap length none in
    nil_from_length after (omega (arith, length-append front before, length-append back after, lengths, empty))
