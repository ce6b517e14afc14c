use Rattle.std.proofs.lemmas.List.Folds.{list_all-map}
use Rattle.shr_words.proofs.forms.are_words.Goals as goal

pub returns : goal.returns
returns c = rw list_all-map c.each_is_word.ensures
