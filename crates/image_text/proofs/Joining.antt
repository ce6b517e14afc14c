-- Lines that are put one after the other.
use Rattle.std.proofs.Common.{◌≡◌, ◌≢◌, ℕ, ◌+◌, ◌<◌, false, rules, List, [], ◌∷◌, ◌++◌, length, take, Result, Ok, Err, refl, subst, ap, sym, ◌∙◌, arith, append_assoc, length-append}
use Rattle.std.proofs.lemmas.List.{take-append-le, append-nil}
use Rattle.std.proofs.lemmas.List.Folds.{concat-append}
use Rattle.std.proofs.Math.Seq.{take-append-add}
use Rattle.std.specs.List.{concat}
use Rattle.rack.specs.Seen.{RackView}
use Rattle.io_ends.specs.Sink.{AddsPrefix}
use Rattle.gpt_table.specs.Disk.{Contents}
use Rattle.image_text.specs.declared.Stop.{Stop}
use Rattle.image_text.specs.declared.Stop.TheVariants.{Sink, Gone, Memory}
use Rattle.rack.specs.Joins.{rose_since}
use Rattle.image_text.specs.declared.bytes.Unread.{Unread}
use Rattle.image_text.specs.declared.bytes.Unread.TheVariants as unread
use Rattle.image_text.specs.Reading.{Gives}
use Rattle.image_text.specs.Putting.{AddsLines, Puts, Says, Shows}
use Rattle.image_text.proofs.Looking.{only_start, only_join, image_later}

-- a prefix of the first bytes is one of both
pub prefix_first : (before after first second : List ℕ) → AddsPrefix before after first → AddsPrefix before after (first ++ second)
prefix_first before after first second p = record {
  count = p.count;
  within = let l = length-append first second in let w = p.within in omega arith;
  bytes = let w = p.within in rw (take-append-le p.count first second) p.bytes;
}

-- a prefix of the second bytes after the first is one of both
pub prefix_second : (before after first second : List ℕ) → AddsPrefix (before ++ first) after second → AddsPrefix before after (first ++ second)
prefix_second before after first second p = record {
  count = length first + p.count;
  within = let l = length-append first second in let w = p.within in omega arith;
  bytes = p.bytes ∙ append_assoc before first (take p.count second) ∙ ap (λ t. before ++ t) (sym (take-append-add first second p.count));
}

-- the first of some lines are the first of them and others
pub lines_first : (before after : List ℕ) (first second : List (List ℕ)) → AddsLines before after first → AddsLines before after (first ++ second)
lines_first before after first second p = record {
  count = p.count;
  within = let l = length-append first second in let w = p.within in omega arith;
  bytes = let w = p.within in rw (take-append-le p.count first second) p.bytes;
}

pub lines_second : (before after : List ℕ) (first second : List (List ℕ)) → AddsLines (before ++ concat first) after second → AddsLines before after (first ++ second)
lines_second before after first second p = record {
  count = length first + p.count;
  within = let l = length-append first second in let w = p.within in omega arith;
  bytes =
      p.bytes ∙ append_assoc before (concat first) (concat (take p.count second))
      ∙ ap (λ t. before ++ t) (sym (ap concat (take-append-add first second p.count) ∙ concat-append first (take p.count second)));
}

-- lines after lines
pub puts_then :
    (result : Result (Unit {0}) Stop) (before between after : List ℕ) (first second : List (List ℕ))
    → between ≡ before ++ concat first
    → Puts result between after second
    → Puts result before after (first ++ second)
puts_then (Ok done) before between after first second at put =
    rw at at put ∙ append_assoc before (concat first) (concat second) ∙ ap (λ t. before ++ t) (sym (concat-append first second))
puts_then (Err Sink) before between after first second at put =
    rw (concat-append first second) (prefix_second before after (concat first) (concat second) (rw at at put))
puts_then (Err Gone) before between after first second at put = lines_second before after first second (rw at at put)
puts_then (Err Memory) before between after first second at put = lines_second before after first second (rw at at put)

-- lines that ended early
pub puts_failed :
    (stop : Stop) (before after : List ℕ) (first second : List (List ℕ))
    → Puts (Err stop) before after first
    → Puts (Err stop) before after (first ++ second)
puts_failed Sink before after first second put = rw (concat-append first second) (prefix_first before after (concat first) (concat second) put)
puts_failed Gone before after first second put = lines_first before after first second put
puts_failed Memory before after first second put = lines_first before after first second put

-- nothing was put before the cause came
pub none_put : (before : List ℕ) (lines : List (List ℕ)) → AddsLines before before lines
none_put before lines = record { count = 0; within = omega arith; bytes = sym (append-nil before) }

-- ---- calls that put lines

-- lines after lines
pub says_then : {f f' f'' : ℕ} {T T' T'' : Type 0} {before between after : List ℕ} {done : Unit {0}} (first second : List (List ℕ)) (result : Result (Unit {0}) Stop)
    → Says f f' T T' before between first (Ok done) → Says f' f'' T' T'' between after second result
    → Says f f'' T T'' before after (first ++ second) result
says_then {before = before} {between = between} {after = after} first second result one two = record {
  grows = let l = one.grows in let r = two.grows in omega arith;
  told = λ told. two.told (one.told told);
  puts = λ told. puts_then result before between after first second (one.puts told) (two.puts (one.told told));
  failed = λ e. rose_since one.grows (two.failed e);
  here = two.here;
}

-- lines that ended early
pub says_failed : {f f' : ℕ} {T T' : Type 0} {before after : List ℕ} (first second : List (List ℕ)) (stop : Stop)
    → Says f f' T T' before after first (Err stop) → Says f f' T T' before after (first ++ second) (Err stop)
says_failed {before = before} {after = after} first second stop one = record {
  grows = one.grows;
  told = one.told;
  puts = λ told. puts_failed stop before after first second (one.puts told);
  failed = one.failed;
  here = one.here;
}

-- lines that don't hang on the image
pub says_shows : {a : RackView} {f f' : ℕ} {T T' : Type 0} {before after : List ℕ} (disk : ℕ) (lines : List (List ℕ)) (result : Result (Unit {0}) Stop)
    → a.fit → Says f f' T T' before after lines result → Shows a a disk f f' T T' before after (λ image. lines) result
says_shows {a} disk lines result fit one = record {
  only = only_start a fit;
  grows = one.grows;
  told = one.told;
  puts = λ told image is. one.puts told;
  failed = one.failed;
  gone = λ e. absurd (one.here e);
}

-- lines of the image after lines of it
pub shows_then : {a b c : RackView} {disk : ℕ} {f f' f'' : ℕ} {T T' T'' : Type 0} {before between after : List ℕ} {done : Unit {0}}
    (first second : Contents → List (List ℕ)) (result : Result (Unit {0}) Stop) → disk < a.disks → ((d s : ℕ) → b.spent d s ≡ false)
    → Shows a b disk f f' T T' before between first (Ok done) → Shows b c disk f' f'' T' T'' between after second result
    → Shows a c disk f f'' T T'' before after (λ image. first image ++ second image) result
shows_then {disk = disk} {before = before} {between = between} {after = after} first second result has unspent one two = record {
  only = only_join one.only two.only;
  grows = let l = one.grows in let r = two.grows in omega arith;
  told = λ told. two.told (one.told told);
  puts = λ told image is. puts_then result before between after (first image) (second image) (one.puts told image is)
      (two.puts (one.told told) image (image_later disk image one.only has unspent is));
  failed = λ e. rose_since one.grows (two.failed e);
  gone = λ e. rose_since (one.only.stays.faults disk) (two.gone e);
}

-- lines of the image that ended early
pub shows_failed : {a b : RackView} {disk : ℕ} {f f' : ℕ} {T T' : Type 0} {before after : List ℕ}
    (first second : Contents → List (List ℕ)) (stop : Stop) → Shows a b disk f f' T T' before after first (Err stop)
    → Shows a b disk f f' T T' before after (λ image. first image ++ second image) (Err stop)
shows_failed {before = before} {after = after} first second stop one = record {
  only = one.only;
  grows = one.grows;
  told = one.told;
  puts = λ told image is. puts_failed stop before after (first image) (second image) (one.puts told image is);
  failed = one.failed;
  gone = one.gone;
}

-- lines by what was read before
pub gives_shows : {a b c : RackView} {disk : ℕ} {f f' : ℕ} {T T' : Type 0} {before after : List ℕ} {X : Type 0} {x : X} (P : Contents → X → Type 0)
    (lines lines' : Contents → List (List ℕ)) (result : Result (Unit {0}) Stop) → disk < a.disks → ((d s : ℕ) → b.spent d s ≡ false)
    → Gives a b disk P (Ok x) → Shows b c disk f f' T T' before after lines result
    → ((image : Contents) → P image x → lines image ≡ lines' image)
    → Shows a c disk f f' T T' before after lines' result
gives_shows {disk = disk} {before = before} {after = after} P lines lines' result has unspent one two same = record {
  only = only_join one.only two.only;
  grows = two.grows;
  told = two.told;
  puts = λ told image is. subst (Puts result before after) (same image (one.value image is))
      (two.puts told image (image_later disk image one.only has unspent is));
  failed = two.failed;
  gone = λ e. rose_since (one.only.stays.faults disk) (two.gone e);
}

-- nothing was put where nothing was read
pub gives_gone : {a b : RackView} {disk : ℕ} {f : ℕ} {T : Type 0} {before : List ℕ} {X : Type 0} (P : Contents → X → Type 0)
    (lines : Contents → List (List ℕ)) → Gives a b disk P (Err unread.Gone) → Shows a b disk f f T T before before lines (Err Gone)
gives_gone {before = before} P lines one = record {
  only = one.only;
  grows = omega arith;
  told = λ told. told;
  puts = λ told image is. none_put before (lines image);
  failed = search rules;
  gone = λ e. one.gone refl;
}

pub gives_memory : {a b : RackView} {disk : ℕ} {f : ℕ} {T : Type 0} {before : List ℕ} {X : Type 0} (P : Contents → X → Type 0)
    (lines : Contents → List (List ℕ)) → Gives a b disk P (Err unread.Memory) → Shows a b disk f f T T before before lines (Err Memory)
gives_memory {before = before} P lines one = record {
  only = one.only;
  grows = omega arith;
  told = λ told. told;
  puts = λ told image is. none_put before (lines image);
  failed = search rules;
  gone = search rules;
}

-- a prefix of a line of which the first bytes were put
pub prefix_line : (before between after first second : List ℕ) → between ≡ before ++ first → AddsPrefix between after second
    → AddsPrefix before after (concat ((first ++ second) ∷ []))
prefix_line before between after first second at put =
    rw (append-nil (first ++ second)) (prefix_second before after first second (rw at at put))

-- a line whose parts were put
pub put_after : (before between after first second : List ℕ) → between ≡ before ++ first → after ≡ between ++ second
    → after ≡ before ++ (first ++ second)
put_after before between after first second at put = put ∙ ap (λ t. t ++ second) at ∙ append_assoc before first second

-- a fault that can't be want of memory
pub gives_refused : {a b : RackView} {disk : ℕ} {f : ℕ} {T : Type 0} {before : List ℕ} {X : Type 0} (P : Contents → X → Type 0)
    (lines : Contents → List (List ℕ)) (why : Unread) → why ≢ unread.Memory → Gives a b disk P (Err why) → Shows a b disk f f T T before before lines (Err Gone)
gives_refused P lines unread.Gone cause one = gives_gone P lines one
gives_refused P lines unread.Memory cause one = absurd (cause refl)
