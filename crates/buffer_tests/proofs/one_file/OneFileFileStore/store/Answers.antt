-- Places that were written are current; of a refused call the first half was.
use Rattle.std.proofs.Common.{◌≡◌, ◌/◌, ◌++◌, ℕ, List, length, take, drop, ◌∙◌, ap, sym, refl, arith}
use Rattle.buffer_tests.specs.OneFile.{Contents}
use Rattle.buffer_tests.proofs.OneFileCalls.{store_done, store_refused, written_back, copies_of}
use Rattle.buffer_tests.proofs.one_file.OneFileFileStore.store.Goals as goal

pub returns-then-is_refused-clause-stores : goal.returns-then-is_refused-clause-stores
returns-then-is_refused-clause-stores c =
    let f = c.args.self.now in
    let r = c.is_refused.new.self in
    let e = c.is_refused.ensures in
    let k : Contents = record { durable = f.durable.items; stored = f.stored.items; current = f.current.items } in
    let into : List (List ℕ) = c.copy.new.into in
    let new : List (List ℕ) = take r.stored.len (into ++ drop (length into) r.stored.items) in
    let back : new ≡ into = written_back into r.stored.items r.stored.len (c.copy.ensures.size ∙ ap length c.deref_mut.ensures.value) (sym c.deref_mut.ensures.len ∙ ap length c.deref_mut.ensures.value) in
    let copies = copies_of c.deref.result.now c.deref_mut.result.now into (c.deref.ensures.value ∙ e.buffer) (c.deref_mut.ensures.value ∙ e.stored) back c.copy.ensures in
    rw (e.name, e.sectors, e.durable, e.current, e.buffer)
    (store_refused f.name f.sectors k f.buffer.items new f.faults r.faults c.args.disk c.args.sector c.args.place c.args.count (c.args.count / 2) _
    e.grows c.requires.disk (omega arith) copies (c.requires.current tt) refl (e.rose c.if-is_refused.true))

pub returns-clause-stores : goal.returns-clause-stores
returns-clause-stores c =
    let f = c.args.self.now in
    let r = c.is_refused.new.self in
    let e = c.is_refused.ensures in
    let k : Contents = record { durable = f.durable.items; stored = f.stored.items; current = f.current.items } in
    let into : List (List ℕ) = c.copy-2.new.into in
    let new : List (List ℕ) = take r.stored.len (into ++ drop (length into) r.stored.items) in
    let back : new ≡ into = written_back into r.stored.items r.stored.len (c.copy-2.ensures.size ∙ ap length c.deref_mut-2.ensures.value) (sym c.deref_mut-2.ensures.len ∙ ap length c.deref_mut-2.ensures.value) in
    let copies = copies_of c.deref-2.result.now c.deref_mut-2.result.now into (c.deref-2.ensures.value ∙ e.buffer) (c.deref_mut-2.ensures.value ∙ e.stored) back c.copy-2.ensures in
    rw (e.name, e.sectors, e.durable, e.current, e.buffer)
    (store_done f.name f.sectors k f.buffer.items new f.faults r.faults c.args.disk c.args.sector c.args.place c.args.count e.grows c.requires.disk copies
    (c.requires.current tt))
