-- How many bytes of a script were taken, and that no line of them was `quit`.
use Rattle.std.proofs.Common.{◌≡◌, ◌≢◌, ℕ, zero, suc, ◌+◌, ◌-◌, ◌≤◌, List, [], ◌∷◌, ◌++◌, length, take, drop, Some, append_assoc, length-append, length-take, length-drop, sym, ◌∙◌, ap, subst, arith, Ok}
use Rattle.std.specs.List.{All}
use Rattle.std.proofs.Math.Seq.{take-append_seam}
use Rattle.shr_script.specs.declared.Command.TheVariants.{Quit}
use Rattle.shr_script.specs.Line.{line_of}
use Rattle.shr_script.specs.Script.{without_return, ended_lines_of}
use Rattle.shr_tool.specs.Limits.{NoQuit, KeepsLimit}
use Rattle.shr_script.specs.Reading.{ReadsPart, ReadsLine, ReadsMost}
use Rattle.shr_script.specs.ScriptLaws.{NoFeed, ended_lines_of-line, ended_lines_of-last}

-- what holds of the first of a list and of all others
All-cons : {A : Type 0} (P : A → Type 0) (x : A) (xs : List A) → P x → All P xs → All P (x ∷ xs)
All-cons P x xs first others zero default inside = first
All-cons P x xs first others (suc k) default inside = others k default (omega arith)

All-nil : {A : Type 0} (P : A → Type 0) → All P []
All-nil P k default inside = absurd (omega arith)

no_quit-line :
    (bytes rest : List ℕ)
    → NoFeed bytes
    → line_of (without_return bytes) ≢ Some (Ok Quit)
    → NoQuit rest
    → NoQuit (bytes ++ 10 ∷ rest)
no_quit-line bytes rest no_feed other none =
    subst
    (All (λ line. line_of line ≢ Some (Ok Quit)))
    (sym (ended_lines_of-line bytes rest no_feed))
    (All-cons (λ line. line_of line ≢ Some (Ok Quit)) (without_return bytes) (ended_lines_of rest) other none)

no_quit-last : (bytes : List ℕ) → NoFeed bytes → NoQuit bytes
no_quit-last bytes no_feed =
    subst
    (All (λ line. line_of line ≢ Some (Ok Quit)))
    (sym (ended_lines_of-last bytes no_feed))
    (All-nil (λ line. line_of line ≢ Some (Ok Quit)))

-- of a text so many bytes have been read in lines that aren't `quit`, and this is left
pub record Passed (text rest : List ℕ) (count : ℕ) : Type 0 where
  pub done : List ℕ
  pub text_is : text ≡ done ++ rest
  pub counted : count ≡ length done
  pub no_quit : (more : List ℕ) → NoQuit more → NoQuit (done ++ more)

-- nothing has been read
pub passed_none : (text rest : List ℕ) (count : ℕ) → rest ≡ text → count ≡ 0 → Passed text rest count
passed_none text rest count same none_read =
    record { done = []; text_is = sym same; counted = none_read; no_quit = λ more none. none }

-- one line more
pub passed_line :
    (text rest rest' line : List ℕ) (count to : ℕ)
    → Passed text rest count
    → (r : ReadsLine rest rest' line count to)
    → line_of (without_return r.part.bytes) ≢ Some (Ok Quit)
    → Passed text rest' to
passed_line text rest rest' line count to p r other =
    let bytes = r.part.bytes in
    let seam : (more : List ℕ) → (p.done ++ (bytes ++ 10 ∷ [])) ++ more ≡ p.done ++ (bytes ++ 10 ∷ more) =
    λ more.
    append_assoc p.done (bytes ++ 10 ∷ []) more
    ∙ ap (λ xs. p.done ++ xs) (append_assoc bytes (10 ∷ []) more) in
    record {
      done = p.done ++ (bytes ++ 10 ∷ []);
      text_is = p.text_is ∙ (ap (λ xs. p.done ++ xs) r.part.text ∙ sym (seam rest'));
      counted =
          let counted = p.counted in
          let count = r.part.count in
          let last = r.count in
          simp length-append (omega arith);
      no_quit =
          λ more none.
          subst NoQuit
          (sym (seam more))
          (p.no_quit (bytes ++ 10 ∷ more) (no_quit-line bytes more r.part.no_feed other none));
    }

-- the bytes that are left, when some have been read
part_length :
    (rest rest' line : List ℕ) (count to : ℕ)
    → ReadsPart rest rest' line count to
    → length rest + count ≡ length rest' + to
part_length rest rest' line count to r =
    let read = r.count in
    let whole : length rest ≡ length r.bytes + length rest' = ap length r.text ∙ length-append r.bytes rest' in
    omega arith

line_length :
    (rest rest' line : List ℕ) (count to : ℕ)
    → ReadsLine rest rest' line count to
    → length rest + count ≡ length rest' + to
line_length rest rest' line count to r =
    let part = part_length rest (10 ∷ rest') line count r.last r.part in
    let count_is = r.count in
    omega arith

passed_length : (text rest : List ℕ) (count : ℕ) → Passed text rest count → length text ≡ count + length rest
passed_length text rest count p =
    let counted = p.counted in
    let whole : length text ≡ length p.done + length rest = ap length p.text_is ∙ length-append p.done rest in
    omega arith

-- the bytes at hand
at_hand :
    (piece : List ℕ) (start end : ℕ)
    → length piece ≡ 4096
    → end ≤ 4096
    → length (drop start (take end piece)) ≡ end - start
at_hand piece start end size inside = simp (length-drop, length-take) (omega arith)

-- no more than the limit was taken
within_limit :
    (A : Type 0) (limit to : ℕ) (text hand left : List ℕ)
    → length text ≡ to + length (hand ++ left)
    → to + length hand ≤ limit
    → (A → ⊥)
    → KeepsLimit A limit text left
within_limit A limit to text hand left size within not_it =
    let parts : length (hand ++ left) ≡ length hand + length left = length-append hand left in
    record {
      exact = ((λ it. absurd (not_it it)), (λ over. let longer = over.longer in absurd (omega arith)));
      most = omega arith;
    }

-- a reading that ended inside the limit
pub part_within :
    (A : Type 0) (limit : ℕ) (text rest left line piece : List ℕ) (start end count to : ℕ)
    → Passed text rest count
    → ReadsPart rest (drop start (take end piece) ++ left) line count to
    → length piece ≡ 4096
    → end ≤ 4096
    → to + (end - start) ≤ limit
    → (A → ⊥)
    → KeepsLimit A limit text left
part_within A limit text rest left line piece start end count to p r size inside within not_it =
    let hand = drop start (take end piece) in
    let long : length hand ≡ end - start = at_hand piece start end size inside in
    let whole = passed_length text rest count p in
    let part = part_length rest (hand ++ left) line count to r in
    within_limit A limit to text hand left (omega arith) (omega arith) not_it

pub line_within :
    (A : Type 0) (limit : ℕ) (text rest left line piece : List ℕ) (start end count to : ℕ)
    → Passed text rest count
    → ReadsLine rest (drop start (take end piece) ++ left) line count to
    → length piece ≡ 4096
    → end ≤ 4096
    → to + (end - start) ≤ limit
    → (A → ⊥)
    → KeepsLimit A limit text left
line_within A limit text rest left line piece start end count to p r size inside within not_it =
    let hand = drop start (take end piece) in
    let long : length hand ≡ end - start = at_hand piece start end size inside in
    let whole = passed_length text rest count p in
    let part = line_length rest (hand ++ left) line count to r in
    within_limit A limit to text hand left (omega arith) (omega arith) not_it

-- a reading that ended past the limit
pub most_over :
    (A : Type 0) (limit : ℕ) (text rest left line piece : List ℕ) (start end count to : ℕ)
    → Passed text rest count
    → ReadsMost limit rest (drop start (take end piece) ++ left) line count to
    → length piece ≡ 4096
    → end ≤ 4096
    → to + (end - start) ≡ limit + 1
    → A
    → KeepsLimit A limit text left
most_over A limit text rest left line piece start end count to p r size inside past it =
    let hand = drop start (take end piece) in
    let bytes = r.part.bytes in
    let full = r.full in
    let long : length hand ≡ end - start = at_hand piece start end size inside in
    let whole = passed_length text rest count p in
    let part = part_length rest (hand ++ left) line count to r.part in
    let parts : length (hand ++ left) ≡ length hand + length left = length-append hand left in
    let text_is : text ≡ (p.done ++ bytes) ++ (hand ++ left) =
    p.text_is ∙ (ap (λ xs. p.done ++ xs) r.part.text ∙ sym (append_assoc p.done bytes (hand ++ left))) in
    let counted = p.counted in
    let read = r.part.count in
    let both : length (p.done ++ bytes) ≡ length p.done + length bytes = length-append p.done bytes in
    let size : length (p.done ++ bytes) ≡ limit = omega arith in
    let first : take limit text ≡ p.done ++ bytes =
    ap (take limit) text_is
    ∙ (ap (λ n. take n ((p.done ++ bytes) ++ (hand ++ left))) (sym size) ∙ take-append_seam (p.done ++ bytes) (hand ++ left)) in
    record {
      exact = (
        (λ _. record {
          longer = omega arith;
          no_quit = subst NoQuit (sym first) (p.no_quit bytes (no_quit-last bytes r.part.no_feed));
        }),
        (λ _. it),
      );
      most = omega arith;
    }

-- a limit that is answered exactly where another answer comes
pub keeps_limit :
    {P Q : Type 0} (limit : ℕ) (text rest : List ℕ)
    → (P → Q)
    → (Q → P)
    → KeepsLimit P limit text rest
    → KeepsLimit Q limit text rest
keeps_limit limit text rest to back keeps =
    record { exact = (λ answered. keeps.exact.0 (back answered), λ over. to (keeps.exact.1 over)); most = keeps.most }
