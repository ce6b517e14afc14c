use Rattle.std.proofs.Common.{◌≡◌, ◌∙◌, ◌++◌, sym, ap, arith, length, ℕ, [], ◌∷◌, string_bytes, append-nil, filter_map, map, take}
use Rattle.std.specs.List.{cons_option}
use Rattle.arrayvec.specs.ArrayVec.{ArrayVec}
use Rattle.shr_words.specs.LayoutWords.{size_of}
use Rattle.shr_words.proofs.Sizes.{sizes_more, small_more}
use Rattle.shr_words.proofs.layout.sizes_of.Goals as goal
use Rattle.shr_words.proofs.layout.sizes_of.Goals.{in-Some, in-None}

pub loop-word-preserved : goal.loop-word-preserved
loop-word-preserved c =
    let word = c.word-item.result in
    let words = c.args.words.now in
    let i = c.loop-word.word-index in
    let read : c.size_of.result ≡ size_of (string_bytes word) =
    c.size_of.ensures.value ∙ ap size_of (c.as_bytes.ensures.value ∙ c.as_str.ensures.value) in
    let more = sizes_more string_bytes words i word c.loop-word-test.true c.word-item.is in
    let so_far = filter_map size_of (map string_bytes (take i words)) in
    elim c.match-size_of.branch [
      | in-Some w ↦
          let items = ap (λ (v : ArrayVec ℕ). v.items) w.sizes-is ∙ w.push.ensures.items in
          record {
            sizes = items ∙ ap (λ s. s ++ (w.in-Some.size ∷ [])) c.loop-word.invariant.sizes ∙ ap (λ o. so_far ++ cons_option o []) (sym w.in-Some.is ∙ read) ∙ sym more;
            few = omega (arith, ap (λ (v : ArrayVec ℕ). length v.items) w.sizes-is, w.push.ensures.len);
            small = rw items (small_more c.loop-word.sizes.items w.in-Some.size c.loop-word.invariant.small w.in-Some.ensures.small);
          }
      | in-None w ↦
          let items = ap (λ (v : ArrayVec ℕ). v.items) w.sizes-is in
          record {
            sizes = items ∙ c.loop-word.invariant.sizes ∙ sym (append-nil so_far) ∙ ap (λ o. so_far ++ cons_option o []) (sym w.in-None.is ∙ read) ∙ sym more;
            few = omega (arith, ap (λ (v : ArrayVec ℕ). length v.items) w.sizes-is);
            small = rw items c.loop-word.invariant.small;
          }
    ]
