use Rattle.std.proofs.Common.{◌≡◌, ◌∙◌, sym, ap, length, string_bytes, filter_map, map, take}
use Rattle.std.proofs.lemmas.List.{take-map, take_min}
use Rattle.shr_words.specs.LayoutWords.{size_of}
use Rattle.shr_words.proofs.Sizes.{asked-other, asked-sizes, not_empty}
use Rattle.shr_words.proofs.layout.asked.Goals as goal

pub returns-then-not-are_sizes-clause-value : goal.returns-then-not-are_sizes-clause-value
returns-then-not-are_sizes-clause-value c =
    let some = not_empty (length c.args.words.now) c.is_empty.result c.is_empty.ensures c.if-is_empty.false in
    rw c.in-Some.is (sym (asked-other string_bytes c.in-Some.extent c.args.words.now some (sym c.are_sizes.ensures ∙ c.if-not-are_sizes.true)))

pub returns-clause-value : goal.returns-clause-value
returns-clause-value c =
    let words = c.args.words.now in
    let some = not_empty (length words) c.is_empty.result c.is_empty.ensures c.if-is_empty.false in
    let first : take c.min.result words ≡ take 17 words = ap (λ n. take n words) c.min.ensures ∙ take_min 17 words in
    let items : c.sizes_of-sizes.result.items ≡ filter_map size_of (take 17 (map string_bytes words)) =
    c.sizes_of-sizes.ensures.items ∙ ap (λ ws. filter_map size_of (map string_bytes ws)) first ∙ ap (filter_map size_of) (sym (take-map string_bytes 17 words)) in
    rw c.in-Some.is
    (sym (asked-sizes string_bytes c.in-Some.extent words c.sizes_of-sizes.result.items some (sym c.are_sizes.ensures ∙ c.if-not-are_sizes.false) items))
