use Rattle.std.proofs.Common.{◌≡◌, ℕ, ◌+◌, ◌<◌, ◌^◌, ◌++◌, ◌∷◌, [], Bool, true, false, List, length, arith, ap, sym, ◌∙◌, length-append}
use Rattle.std.specs.List.{AllByRecursion}
use Rattle.lvm_group.specs.declared.runs.Run.{Run}
use Rattle.lvm_group.specs.declared.growth.Piece.{Piece}
use Rattle.lvm_group.specs.Growth.{are_joined, behind_runs, longer, started}
use Rattle.lvm_group.proofs.Grown.{joined_parts, none_joined, not_joined, started_count}
use Rattle.lvm_group.proofs.growth.put_joined.Goals as goal

both_ways : (b : Bool) → b ≡ true → b ≡ false → ⊥
both_ways b first second = cc

-- its length
parts_count : (start : ℕ) (runs front : List Run) (run : Run) (more others : List Piece) (piece : Piece) → runs ≡ front ++ run ∷ [] → more ≡ piece ∷ others → are_joined runs more ≡ true
    → length (behind_runs start runs more) ≡ length front + 1 + length others
parts_count start runs front run more others piece is starts joins =
    let parts = ap length (joined_parts start runs front run more others piece is starts joins).0 in
    let one : length ((front ++ longer run piece.count ∷ []) ++ started (start + piece.count) others) ≡ length (front ++ longer run piece.count ∷ []) + length (started (start + piece.count) others) = simp length-append in
    let two : length (front ++ longer run piece.count ∷ []) ≡ length front + 1 = simp length-append in
    let count = started_count (start + piece.count) others in
    omega arith

small_first : (more others : List Piece) (piece : Piece) → more ≡ piece ∷ others → AllByRecursion (λ (p : Piece). p.first + p.count < 2 ^ 45) more
    → (piece.first + piece.count < 2 ^ 45) × AllByRecursion (λ (p : Piece). p.first + p.count < 2 ^ 45) others
small_first more others piece is small = rw is at small

pub returns-in_default-clause-items : goal.returns-in_default-clause-items
returns-in_default-clause-items c = absurd (both_ways (are_joined c.args.runs.now c.args.pieces.now) c.requires.joined (none_joined c.args.runs.now c.args.pieces.now c.in_default.ensures.cases))

pub returns-in_default-split_first-clause-items : goal.returns-in_default-split_first-clause-items
returns-in_default-split_first-clause-items c =
    absurd (both_ways (are_joined c.args.runs.now c.args.pieces.now) c.requires.joined
    (not_joined c.args.runs.now c.in-Some.front.now c.in-Some.run'.now c.args.pieces.now c.in-Some.ensures.cases.0 c.in_default-split_first.ensures.cases))

pub copy-requires : goal.copy-requires
copy-requires c =
    let count = parts_count c.args.start c.args.runs.now c.in-Some.front.now c.in-Some.run'.now c.args.pieces.now c.in-Some-split_first.others.now c.in-Some-split_first.piece.now
    c.in-Some.ensures.cases.0 c.in-Some-split_first.ensures.cases.0 c.requires.joined in
    record { room = let room = c.requires.room in omega arith }

pub overflow_add-run : goal.overflow_add-run
overflow_add-run c =
    let small = (small_first c.args.pieces.now c.in-Some-split_first.others.now c.in-Some-split_first.piece.now c.in-Some-split_first.ensures.cases.0 c.requires.small).0 in
    let adjoin = (joined_parts c.args.start c.args.runs.now c.in-Some.front.now c.in-Some.run'.now c.args.pieces.now c.in-Some-split_first.others.now c.in-Some-split_first.piece.now
    c.in-Some.ensures.cases.0 c.in-Some-split_first.ensures.cases.0 c.requires.joined).1 in
    omega arith

pub add-requires : goal.add-requires
add-requires c =
    let count = parts_count c.args.start c.args.runs.now c.in-Some.front.now c.in-Some.run'.now c.args.pieces.now c.in-Some-split_first.others.now c.in-Some-split_first.piece.now
    c.in-Some.ensures.cases.0 c.in-Some-split_first.ensures.cases.0 c.requires.joined in
    let same = ap length c.copy.ensures.items in
    let len = c.copy.new.into.ok.0 in
    record { room = let room = c.requires.room in let more = c.copy.ensures.room in omega arith }

pub append-requires-clause-room : goal.append-requires-clause-room
append-requires-clause-room c =
    let count = parts_count c.args.start c.args.runs.now c.in-Some.front.now c.in-Some.run'.now c.args.pieces.now c.in-Some-split_first.others.now c.in-Some-split_first.piece.now
    c.in-Some.ensures.cases.0 c.in-Some-split_first.ensures.cases.0 c.requires.joined in
    let same = ap length c.copy.ensures.items in
    let more = ap length c.add.ensures.items in
    let one : length (c.copy.new.into.items ++ longer c.in-Some.run'.now c.in-Some-split_first.piece.now.count ∷ []) ≡ length c.copy.new.into.items + 1 = simp length-append in
    let room = c.requires.room in
    let first = c.copy.ensures.room in
    let second = c.add.ensures.room in
    omega arith

pub returns-clause-items : goal.returns-clause-items
returns-clause-items c =
    let parts = (joined_parts c.args.start c.args.runs.now c.in-Some.front.now c.in-Some.run'.now c.args.pieces.now c.in-Some-split_first.others.now c.in-Some-split_first.piece.now
    c.in-Some.ensures.cases.0 c.in-Some-split_first.ensures.cases.0 c.requires.joined).0 in
    c.append.ensures.items
    ∙ ap (λ (runs : List Run). runs ++ started (c.args.start + c.in-Some-split_first.piece.now.count) c.in-Some-split_first.others.now)
    (c.add.ensures.items ∙ ap (λ (runs : List Run). runs ++ longer c.in-Some.run'.now c.in-Some-split_first.piece.now.count ∷ []) c.copy.ensures.items)
    ∙ sym parts
