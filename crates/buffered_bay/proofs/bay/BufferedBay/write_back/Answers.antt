-- What was dirty is stored, or stays dirty.
use Rattle.std.proofs.Common.{◌≡◌, ◌<◌, Some, slice_get, length, refl, sym, subst, arith}
use Rattle.std.proofs.lemmas.Option.{slice_get_read}
use Rattle.buffered_bay.specs.declared.windows.Window.{Window}
use Rattle.buffered_bay.proofs.WindowsKept.{get_set_same, windows_set, windows_kept}
use Rattle.buffered_bay.proofs.WindowCalls.{store_others, store_done, store_refused}
use Rattle.buffered_bay.proofs.bay.BufferedBay.write_back.Goals as goal

pub invariant_of-self : goal.invariant_of-self
invariant_of-self g c =
    let ws = c.args.self.now.windows.items in
    let w : Window = c.index.result.now in
    let before = g.met.F.FileStore.plain c.args.self.now.files in
    let after = g.met.F.FileStore.plain c.store.new.self in
    let windows = c.args.self.now.buffered in
    let inside : c.args.disk < length ws = subst (λ n. c.args.disk < n) (sym windows.count) c.requires in
    let at : slice_get ws c.args.disk ≡ Some w = slice_get_read ws _ c.args.disk w refl inside c.index.ensures in
    record {
      buffered =
          windows_set ws c.args.disk c.clean.new.self windows c.in-Ok.ensures.stores.reads.stays.disks
          (store_others before after c.in-Ok.ensures.stores)
          (store_done w c.clean.new.self before after c.requires refl refl (omega (arith, w.ordered))
          c.clean.ensures.first c.clean.ensures.count c.clean.ensures.unsynced c.in-Ok.ensures.stores (windows.each _ w at));
    }

pub invariant_of-self-in-Err-1 : goal.invariant_of-self-in-Err-1
invariant_of-self-in-Err-1 g c =
    let ws = c.args.self.now.windows.items in
    let w : Window = c.index.result.now in
    let before = g.met.F.FileStore.plain c.args.self.now.files in
    let after = g.met.F.FileStore.plain c.store.new.self in
    let windows = c.args.self.now.buffered in
    let inside : c.args.disk < length ws = subst (λ n. c.args.disk < n) (sym windows.count) c.requires in
    let at : slice_get ws c.args.disk ≡ Some w = slice_get_read ws _ c.args.disk w refl inside c.index.ensures in
    record {
      buffered =
          windows_kept ws c.args.disk w at windows c.in-Err.ensures.stores.reads.stays.disks
          (store_others before after c.in-Err.ensures.stores)
          (store_refused w before after c.requires refl (omega (arith, w.ordered)) c.in-Err.ensures.stores (windows.each _ w at));
    }

pub returns-in-Ok-clause-clean : goal.returns-in-Ok-clause-clean
returns-in-Ok-clause-clean g c =
    λ v at.
    let is = get_set_same c.args.self.now.windows.items c.args.disk c.clean.new.self v at in
    subst (λ (w : Window). w.dirty_from ≡ w.dirty_to) (sym is) c.clean.ensures.clean

pub returns-in-Ok-clause-others : goal.returns-in-Ok-clause-others
returns-in-Ok-clause-others g c d has other =
    (store_others (g.met.F.FileStore.plain c.args.self.now.files) (g.met.F.FileStore.plain c.store.new.self) c.in-Ok.ensures.stores d has other).stored

pub returns-in-Err-clause-others : goal.returns-in-Err-clause-others
returns-in-Err-clause-others g c d has other =
    (store_others (g.met.F.FileStore.plain c.args.self.now.files) (g.met.F.FileStore.plain c.store.new.self) c.in-Err.ensures.stores d has other).stored
