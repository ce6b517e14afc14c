use Rattle.std.specs.List.{range_with_len}
use Rattle.std.proofs.Common.{◌≡◌, ℕ, ◌<◌, List, [], ◌∷◌, ◌++◌, length, map, sym, ap, ap₂, subst, ◌∙◌, arith, lit<}
use Rattle.std.proofs.lemmas.List.FromFn.{length-map-range_with_len, map-range_with_len_more}
use Rattle.std.proofs.lemmas.Option.{get_or_from_slice_get, slice_get-get_or}
use Rattle.arrayvec.specs.ArrayVec.{ArrayVec}
use Rattle.array_image.specs.Supers.{named_places}
use Rattle.array_model.specs.View.{View as ArrayView}
use Rattle.growth_plan.specs.Book.{IsBook}
use Rattle.growth_plan.specs.declared.ArrayNow.{ArrayNow}
use Rattle.growth_plan.specs.declared.Progress.{Progress}
use Rattle.lvm_group.proofs.Extended.{small_extents}
use Rattle.lvm_group.specs.Volume.{linear}
use Rattle.raid_rack.specs.RaidRack.{arrays_of as arrays_by_number, no_array, raid_seen, slices_seen}
use Rattle.pool.specs.View.{arrays_of, book, view}
use Rattle.pool.specs.Works.{array_now}
use Rattle.pool.proofs.Books.{is_book, named_few, some_extent}
use Rattle.pool.proofs.Pool.progress.Goals as goal
use Rattle.pool.proofs.Pool.progress.Goals.{in-Some, in-None}

pub array_now-requires-clause-extent : goal.array_now-requires-clause-extent
array_now-requires-clause-extent g c =
    let v = book (view g.R.Rack.seen g.R.Bay.shelf c.args.self.now) in
    subst (λ n. 0 < n) (sym (ap (λ s. s.extent) c.state.ensures)) (some_extent v.state 0 (c.requires.fit.0.running.set.valid 0 c.requires.listed))

pub array_now-requires-clause-members : goal.array_now-requires-clause-members
array_now-requires-clause-members g c =
    let p = c.args.self.now in
    let v = book (view g.R.Rack.seen g.R.Bay.shelf p) in
    let n = c.loop-number.number in
    let made = ap (λ s. s.made) c.state-2.ensures in
    let test = c.loop-number-test.true in
    let low : n < v.state.made = omega (arith, made, test) in
    let here = get_or_from_slice_get (arrays_by_number (arrays_of p)) n c.in-Some.array.now no_array c.in-Some.ensures in
    let few = named_few v.state n (v.arrays n) (slices_seen g.R.Rack.seen (arrays_of p)) (c.requires.fit.0.running.set.arrays n low) in
    let same : length (named_places (v.arrays n).truth) ≡ length (named_places c.in-Some.array.now.truth) =
    ap (λ (u : ArrayView). length (named_places u.truth)) here in
    omega (arith, few, same)

pub push-requires : goal.push-requires
push-requires g c =
    let p = c.args.self.now in
    let v = book (view g.R.Rack.seen g.R.Bay.shelf p) in
    let made = ap (λ s. s.made) c.state-2.ensures in
    let test = c.loop-number-test.true in
    let most = c.requires.fit.0.running.set.most in
    let many = ap length c.loop-number.invariant ∙ length-map-range_with_len (λ n. array_now c.state.result.now.extent (v.arrays n)) 0 c.loop-number.number in
    (lit< tt, omega (arith, made, test, most, many))

pub loop-number-preserved : goal.loop-number-preserved
loop-number-preserved g c =
    let p = c.args.self.now in
    let v = book (view g.R.Rack.seen g.R.Bay.shelf p) in
    let n = c.loop-number.number in
    let now : ℕ → ArrayNow = λ k. array_now c.state.result.now.extent (v.arrays k) in
    elim c.match-array.branch [
      | in-Some w ↦
          ap (λ (xs : ArrayVec ArrayNow). xs.items) w.arrays-is ∙ w.push.ensures.items
          ∙ ap₂ (λ (xs : List ArrayNow) (x : ArrayNow). xs ++ x ∷ []) c.loop-number.invariant
          (w.array_now.ensures ∙ ap (array_now c.state.result.now.extent) (sym (get_or_from_slice_get (arrays_by_number (arrays_of p)) n w.in-Some.array.now no_array w.in-Some.ensures)))
          ∙ sym (map-range_with_len_more now 0 n n (omega arith))
      | in-None w ↦
          let made = ap (λ s. s.made) c.state-2.ensures in
          let test = c.loop-number-test.true in
          let count = c.requires.fit.0.running.count in
          let there = slice_get-get_or (arrays_by_number (arrays_of p)) n no_array (omega (arith, made, test, count)) in
          let none = w.in-None.ensures in
          absurd (cc (there, none))
    ]

pub returns-clause-value : goal.returns-clause-value
returns-clause-value g c =
    let p = c.args.self.now in
    let v = book (view g.R.Rack.seen g.R.Bay.shelf p) in
    let make : List ArrayNow → ℕ → Progress = λ xs n. record { arrays = record { items = xs }; extents = n } in
    let made = ap (λ s. s.made) c.state-2.ensures in
    let test = c.loop-number-test.false in
    let all : c.loop-number.number ≡ v.state.made = omega (arith, made, test) in
    let extent = ap (λ s. s.extent) c.state.ensures in
    ap₂ make
    (c.loop-number.invariant
    ∙ ap₂ (λ (e k : ℕ). map (λ n. array_now e (v.arrays n)) (range_with_len 0 k)) extent all)
    c.extents.ensures

pub returns-clause-book : goal.returns-clause-book
returns-clause-book g c =
    let p = c.args.self.now in
    let v = book (view g.R.Rack.seen g.R.Bay.shelf p) in
    let l = linear p.volume in
    subst (λ (q : Progress). IsBook v.state q) (sym (returns-clause-value g c))
    (is_book l v (slices_seen g.R.Rack.seen (arrays_of p)) c.requires.fit.0.running.set c.requires.listed
    (small_extents l (raid_seen g.R.Rack.seen (arrays_of p)) p.volume.orderly c.requires.fit.1))
