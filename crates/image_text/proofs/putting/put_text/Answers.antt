use Rattle.std.proofs.Common.{[], ◌∷◌, ◌++◌, length, codes, decimal}
use Rattle.shr_script.specs.Reply.{as_line}
use Rattle.lvm_text.specs.Group.{group_of}
use Rattle.image_text.specs.Lines.{group_words}
use Rattle.image_text.proofs.Joining.{says_then, says_failed}
use Rattle.image_text.proofs.putting.put_text.Goals as goal

pub returns-in-Err : goal.returns-in-Err
returns-in-Err g c =
    let text = c.args.text.now in
    says_failed (as_line (codes "text " ++ decimal (length text)) ∷ []) (as_line text ∷ as_line (group_words (group_of text)) ∷ []) c.in-Err.stop c.in-Err.ensures

pub returns-in-Err-put_bytes : goal.returns-in-Err-put_bytes
returns-in-Err-put_bytes g c =
    let text = c.args.text.now in
    says_then (as_line (codes "text " ++ decimal (length text)) ∷ []) (as_line text ∷ as_line (group_words (group_of text)) ∷ []) _ c.in-Ok.ensures
    (says_failed (as_line text ∷ []) (as_line (group_words (group_of text)) ∷ []) c.in-Err-put_bytes.stop c.in-Err-put_bytes.ensures)

pub returns : goal.returns
returns g c =
    let text = c.args.text.now in
    says_then (as_line (codes "text " ++ decimal (length text)) ∷ []) (as_line text ∷ as_line (group_words (group_of text)) ∷ []) _ c.in-Ok.ensures
    (says_then (as_line text ∷ []) (as_line (group_words (group_of text)) ∷ []) _ c.in-Ok-put_bytes.ensures c.put_group.ensures)
