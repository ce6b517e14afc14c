-- The sizes so far are those of the words so far.
use Rattle.std.proofs.Common.{◌≡◌, ◌≤◌, ◌<◌, ◌^◌, take, map, length, filter_map, string_bytes, All}
use Rattle.shr_words.specs.LayoutWords.{size_of}
use Rattle.shr_words.proofs.layout.sizes_of.Given as goal

abbrev pub invariant-loop-word : goal.invariant-loop-word
invariant-loop-word l = record {
  sizes : l.sizes.items ≡ filter_map size_of (map string_bytes (take l.word-index l.words));
  few : length l.sizes.items ≤ l.word-index;
  small : All (λ size. size < 2 ^ 48) l.sizes.items;
}
