-- Each array below `made` is there, and adds its line.
use Rattle.std.specs.List.{range_with_len}
use Rattle.std.proofs.Common.{ℕ, List, ◌++◌, append_assoc, sym, ap, ap₂, ◌∙◌, arith}
use Rattle.std.specs.Prelude.{flat_map}
use Rattle.std.proofs.lemmas.Option.{get_or_from_slice_get, slice_get-get_or}
use Rattle.arrayvec.specs.ArrayVec.{ArrayVec, array_vec_len}
use Rattle.array_model.specs.View.{View as ArrayView}
use Rattle.raid_rack.specs.RaidRack.{arrays_of as arrays_by_number, no_array}
use Rattle.pool.specs.View.{arrays_of, book, view}
use Rattle.shr_tool.specs.StatusText.{array_line}
use Rattle.shr_tool.proofs.Shown.{lines_more}
use Rattle.shr_tool.proofs.showing.add_arrays.Goals as goal
use Rattle.shr_tool.proofs.showing.add_arrays.Goals.{in-Some, in-None}

pub loop-number-preserved : goal.loop-number-preserved
loop-number-preserved g c =
    let p = c.args.pool.now in
    let b = book (view g.R.Rack.seen g.R.Bay.shelf p) in
    let n = c.loop-number.number in
    let old = c.args.text.now.items in
    let line : ℕ → List ℕ = λ k. array_line k (b.arrays k) in
    let so_far = c.loop-number.invariant.len in
    record {
      items =
          elim c.match-array.branch [
            | in-Some w ↦
                ap (λ (t : ArrayVec ℕ). t.items) w.text-is ∙ w.add_array.ensures.items
                ∙ ap₂ (λ (xs ys : List ℕ). xs ++ ys) c.loop-number.invariant.items
                (ap₂ (λ (k : ℕ) (v : ArrayView). array_line k v) w.from.ensures
                (sym (get_or_from_slice_get (arrays_by_number (arrays_of p)) n w.in-Some.array.now no_array w.in-Some.ensures)))
                ∙ append_assoc old (flat_map line (range_with_len 0 n)) (line n)
                ∙ ap (λ (xs : List ℕ). old ++ xs) (sym (lines_more line n))
            | in-None w ↦
                let made = ap (λ s. s.made) c.state.ensures in
                let test = c.loop-number-test.true in
                let count = c.requires.fit.0.running.count in
                let there = slice_get-get_or (arrays_by_number (arrays_of p)) n no_array (omega (arith, made, test, count)) in
                let none = w.in-None.ensures in
                absurd (cc (there, none))
          ];
      len =
          elim c.match-array.branch [
            | in-Some w ↦ let same = ap array_vec_len w.text-is in let more = w.add_array.ensures.len in omega (arith, same, more, so_far)
            | in-None w ↦ let same = ap array_vec_len w.text-is in omega (arith, same, so_far)
          ];
    }
