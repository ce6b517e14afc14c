use Rattle.std.proofs.Common.{◌≡◌, ◌+◌, ◌≤◌, List, [], find, refl, ap, ◌∙◌, sym, arith, All, false, ◌==◌, subst}
use Rattle.std.proofs.lemmas.List.{take_all}
use Rattle.std.specs.List.{list_all}
use Rattle.gpt_table.specs.declared.Entry.{Entry}
use Rattle.gpt_table.specs.Format.{entries_of, Ascends, numbered, written_slot}
use Rattle.gpt_table.proofs.Placed.{blank_slot, blank_entry, slot_written, entry_written, above_all, all_read}
use Rattle.gpt_table.proofs.encoding.encode_entries.Goals as goal

-- past the end of a list
abbrev unset : Entry
unset = record { number = 0; slice = record { kind = record { 0 = [] }; id = record { 0 = [] }; first = 0; last = 0 } }

pub loop-entry-init : goal.loop-entry-init
loop-entry-init c = record { long = refl; slots = λ k inside. blank_slot k inside; read = λ k inside. blank_entry k inside }

pub overflow_sub-place : goal.overflow_sub-place
overflow_sub-place c =
    let ascends : Ascends 0 c.as_slice-entry-items.result.now = subst (Ascends 0) (sym c.as_slice-entry-items.ensures.value) c.requires.ascending in
    above_all 0 c.loop-entry.entry-index c.as_slice-entry-items.result.now _ ascends c.loop-entry-test.true

pub put_bytes-requires : goal.put_bytes-requires
put_bytes-requires c =
    let same = c.as_slice-entry-items.ensures.value in
    let low : All (λ (e : Entry). e.number ≤ 128) c.as_slice-entry-items.result.now = subst (All (λ (e : Entry). e.number ≤ 128)) (sym same) c.requires.numbered in
    omega (arith, low c.loop-entry.entry-index unset c.loop-entry-test.true, c.slot_of.ensures.long, c.loop-entry.invariant.long)

pub loop-entry-preserved : goal.loop-entry-preserved
loop-entry-preserved c =
    let items = c.as_slice-entry-items.result.now in
    let same = c.as_slice-entry-items.ensures.value in
    let ascends : Ascends 0 items = subst (Ascends 0) (sym same) c.requires.ascending in
    let low : All (λ (e : Entry). e.number ≤ 128) items = subst (All (λ (e : Entry). e.number ≤ 128)) (sym same) c.requires.numbered in
    let used : All (λ (e : Entry). list_all (λ b. b == 0) e.slice.kind.0 ≡ false) items =
    subst (All (λ (e : Entry). list_all (λ b. b == 0) e.slice.kind.0 ≡ false)) (sym same) c.requires.used in
    record {
      long = omega (arith, c.put_bytes.auto.block, c.loop-entry.invariant.long);
      slots = λ k inside.
          slot_written items c.loop-entry.entry-index k _ c.slot_of.result c.loop-entry.bytes c.put_bytes.new.block ascends c.loop-entry-test.true
          (low c.loop-entry.entry-index _ c.loop-entry-test.true) c.slot_of.ensures.long c.loop-entry.invariant.long
          c.put_bytes.ensures.written c.slot_of.ensures.written inside (c.loop-entry.invariant.slots k inside);
      read = λ k inside.
          entry_written items c.loop-entry.entry-index k _ c.slot_of.result c.loop-entry.bytes c.put_bytes.new.block ascends c.loop-entry-test.true
          (low c.loop-entry.entry-index _ c.loop-entry-test.true) c.slot_of.ensures.long c.loop-entry.invariant.long
          c.put_bytes.ensures.written
          (c.slot_of.ensures.used (used c.loop-entry.entry-index _ c.loop-entry-test.true)) c.slot_of.ensures.reads inside
          (c.loop-entry.invariant.read k inside);
    }

pub returns : goal.returns
unfolding entries_of
returns c =
    let items = c.as_slice-entry-items.result.now in
    let same = c.as_slice-entry-items.ensures.value in
    let ascends : Ascends 0 items = subst (Ascends 0) (sym same) c.requires.ascending in
    let low : All (λ (e : Entry). e.number ≤ 128) items = subst (All (λ (e : Entry). e.number ≤ 128)) (sym same) c.requires.numbered in
    record {
      long = c.loop-entry.invariant.long;
      written = λ k inside.
          c.loop-entry.invariant.slots k inside
          ∙ ap (λ (es : List Entry). written_slot (find (numbered (k + 1)) es))
          (take_all c.loop-entry.entry-index items c.loop-entry-test.false ∙ same);
      reads = all_read c.loop-entry.bytes items c.loop-entry.entry-index ascends low c.loop-entry-test.false c.loop-entry.invariant.read ∙ same;
    }
