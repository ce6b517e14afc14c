use Rattle.std.proofs.Common.{◌≡◌, List, ℕ, Ok, ◌∷◌, [], ◌++◌, ◌∙◌, ap, sym, subst, refl, length, codes, decimal, rules, arith, append_assoc}
use Rattle.std.proofs.lemmas.List.{append-nil}
use Rattle.std.specs.List.{concat}
use Rattle.rack.specs.Joins.{rose_since}
use Rattle.io_ends.specs.Sink.{AddsPrefix}
use Rattle.shr_script.specs.Reply.{as_line}
use Rattle.lvm_text.specs.declared.group.Group.{Group}
use Rattle.image_text.specs.Lines.{group_words}
use Rattle.image_text.proofs.Joining.{prefix_line, prefix_first, prefix_second, put_after}
use Rattle.image_text.proofs.putting.put_found.Goals as goal

-- what stands behind the name
counts_of : Group → List ℕ
counts_of group = codes " seqno " ++ decimal group.seqno ++ codes " extent " ++ decimal group.extent_size ++ codes " pvs " ++ decimal (length group.pvs) ++ codes " lvs " ++ decimal (length group.lvs) ++ 10 ∷ []

-- the line in the parts that are put
in_parts : (group : Group) → codes "group " ++ (group.name ++ counts_of group) ≡ as_line (group_words (Ok group))
unfolding counts_of
in_parts group = simp append_assoc refl

pub returns-in-Err-put : goal.returns-in-Err-put
returns-in-Err-put g c =
    let taken = g.O.Sink.taken in
    let group = c.args.group.now in
    record {
      grows = let l = c.put.ensures.faults in let r = c.put-2.ensures.faults in omega arith;
      told = λ told. c.put-2.ensures.told (c.put.ensures.told told);
      puts = λ told. subst (λ line. AddsPrefix (taken c.args.out.now) (taken c.put-2.new.self) (concat (line ∷ []))) (in_parts group)
          (prefix_line (taken c.args.out.now) (taken c.put.new.self) (taken c.put-2.new.self) (codes "group ") (group.name ++ counts_of group)
          (c.in-Ok.ensures.put told)
          (prefix_first (taken c.put.new.self) (taken c.put-2.new.self) group.name (counts_of group) (subst (AddsPrefix (taken c.put.new.self) (taken c.put-2.new.self)) c.bytes.ensures (c.in-Err-put.ensures.prefix (c.put.ensures.told told)))));
      failed = λ e. rose_since c.put.ensures.faults c.in-Err-put.ensures.failed;
      here = search rules;
    }

pub returns-in-Err-put-2 : goal.returns-in-Err-put-2
unfolding counts_of
returns-in-Err-put-2 g c =
    let taken = g.O.Sink.taken in
    let group = c.args.group.now in
    let start = taken c.args.out.now in
    record {
      grows = let k = c.put.ensures.faults in let l = c.put-2.ensures.faults in let r = c.put-3.ensures.faults in omega arith;
      told = λ told. c.put-3.ensures.told (c.put-2.ensures.told (c.put.ensures.told told));
      puts = λ told. subst (λ line. AddsPrefix start (taken c.put-3.new.self) (concat (line ∷ []))) (in_parts group)
          (prefix_line start (taken c.put.new.self) (taken c.put-3.new.self) (codes "group ") (group.name ++ counts_of group)
          (c.in-Ok.ensures.put told)
          (prefix_second (taken c.put.new.self) (taken c.put-3.new.self) group.name (counts_of group)
          (subst (λ b. AddsPrefix b (taken c.put-3.new.self) (counts_of group))
          (c.in-Ok-put.ensures.put (c.put.ensures.told told) ∙ ap (λ t. taken c.put.new.self ++ t) c.bytes.ensures)
          (subst (AddsPrefix (taken c.put-2.new.self) (taken c.put-3.new.self)) (c.as_slice.ensures.value ∙ c.counts_text.ensures)
          (c.in-Err-put-2.ensures.prefix (c.put-2.ensures.told (c.put.ensures.told told)))))));
      failed = λ e. rose_since c.put.ensures.faults (rose_since c.put-2.ensures.faults c.in-Err-put-2.ensures.failed);
      here = search rules;
    }

pub returns-in-Ok-put-2 : goal.returns-in-Ok-put-2
unfolding counts_of
returns-in-Ok-put-2 g c =
    let taken = g.O.Sink.taken in
    let group = c.args.group.now in
    let start = taken c.args.out.now in
    record {
      grows = let k = c.put.ensures.faults in let l = c.put-2.ensures.faults in let r = c.put-3.ensures.faults in omega arith;
      told = λ told. c.put-3.ensures.told (c.put-2.ensures.told (c.put.ensures.told told));
      puts = λ told.
          put_after start (taken c.put.new.self) (taken c.put-3.new.self) (codes "group ") (group.name ++ counts_of group) (c.in-Ok.ensures.put told)
          (put_after (taken c.put.new.self) (taken c.put-2.new.self) (taken c.put-3.new.self) group.name (counts_of group)
          (c.in-Ok-put.ensures.put (c.put.ensures.told told) ∙ ap (λ t. taken c.put.new.self ++ t) c.bytes.ensures)
          (c.in-Ok-put-2.ensures.put (c.put-2.ensures.told (c.put.ensures.told told))
          ∙ ap (λ t. taken c.put-2.new.self ++ t) (c.as_slice.ensures.value ∙ c.counts_text.ensures)))
          ∙ ap (λ t. start ++ t) (in_parts group ∙ sym (append-nil (as_line (group_words (Ok group)))));
      failed = search rules;
      here = search rules;
    }
