-- A disk has its buffer, or there was no memory for one of them.
use Rattle.std.proofs.Common.{◌≡◌, ◌+◌, ◌++◌, ◌∷◌, [], sym, ap, subst, ◌∙◌, length, length-append, ◌≤◌, true}
use Rattle.rack_file.specs.Files.{Differ, names_of}
use Rattle.rack_file.proofs.FilesLemmas.{differ_if, few_if}
use Rattle.rack_file.proofs.files.ImageFiles.add.Goals as goal

pub invariant_of-self-in-Ok : goal.invariant_of-self-in-Ok
invariant_of-self-in-Ok c =
    let disks = c.args.self.now.disks.items in
    let buffers = c.args.self.now.buffers.items in
    let now : c.push.new.self.items ≡ disks ++ c.args.disk ∷ [] = c.in-Ok.ensures.items in
    record {
      counted = c.args.self.now.counted;
      few = subst (λ xs. length xs ≤ 65536) (sym now) (few_if true disks c.args.disk c.requires.room);
      differ = subst (λ xs. Differ (names_of xs)) (sym now) (differ_if true disks c.args.disk c.args.self.now.differ c.requires.new);
      matched =
          ap length c.push_within.ensures ∙ (ap (λ xs. length (xs ++ c.args.buffer ∷ [])) c.reserve.ensures.items
          ∙ (length-append buffers (c.args.buffer ∷ []) ∙ (ap (λ n. n + 1) c.args.self.now.matched
          ∙ (sym (length-append disks (c.args.disk ∷ [])) ∙ sym (ap length now)))));
    }

pub invariant_of-self-in-Err : goal.invariant_of-self-in-Err
invariant_of-self-in-Err c =
    let disks = c.args.self.now.disks.items in
    let now : c.push.new.self.items ≡ disks = c.in-Err.ensures.items in
    record {
      counted = c.args.self.now.counted;
      few = subst (λ xs. length xs ≤ 65536) (sym now) c.args.self.now.few;
      differ = subst (λ xs. Differ (names_of xs)) (sym now) c.args.self.now.differ;
      matched = ap length c.reserve.ensures.items ∙ (c.args.self.now.matched ∙ sym (ap length now));
    }
