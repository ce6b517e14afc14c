-- A disk of which nothing is dirty is synced, or needs no sync.
use Rattle.std.proofs.Common.{◌≡◌, ◌<◌, Some, slice_get, length, refl, sym, subst}
use Rattle.std.proofs.lemmas.Option.{slice_get_read}
use Rattle.buffered_bay.specs.declared.windows.Window.{Window}
use Rattle.buffered_bay.proofs.WindowsKept.{windows_set, windows_kept, window_kept}
use Rattle.buffered_bay.proofs.WindowCalls.{sync_kept}
use Rattle.buffered_bay.proofs.Answered.{sync_file, sync_window}
use Rattle.buffered_bay.proofs.bay.BufferedBay.sync_clean.Goals as goal

pub invariant_of-self : goal.invariant_of-self
invariant_of-self g c =
    let ws = c.args.self.now.windows.items in
    let w : Window = c.index-window.result.now in
    let before = g.met.F.FileStore.plain c.args.self.now.files in
    let after = g.met.F.FileStore.plain c.sync.new.self in
    let windows = c.args.self.now.buffered in
    let inside : c.args.disk < length ws = subst (λ n. c.args.disk < n) (sym windows.count) c.requires.disk in
    let at : slice_get ws c.args.disk ≡ Some w = slice_get_read ws _ c.args.disk w refl inside c.index-window.ensures in
    let kept = sync_kept before after c.in-Ok.ensures.syncs in
    let here = windows.each _ w at in
    record {
      buffered =
          windows_set ws c.args.disk _ windows c.in-Ok.ensures.syncs.reads.stays.disks (λ d has other. kept d has)
          (sync_window w _ before after c.requires.disk (c.requires.clean w at) refl refl refl refl c.in-Ok.ensures.syncs here
          (window_kept _ w (kept _ c.requires.disk) here));
    }

pub invariant_of-self-in-Err-1 : goal.invariant_of-self-in-Err-1
invariant_of-self-in-Err-1 g c =
    let ws = c.args.self.now.windows.items in
    let w : Window = c.index-window.result.now in
    let before = g.met.F.FileStore.plain c.args.self.now.files in
    let after = g.met.F.FileStore.plain c.sync.new.self in
    let windows = c.args.self.now.buffered in
    let inside : c.args.disk < length ws = subst (λ n. c.args.disk < n) (sym windows.count) c.requires.disk in
    let at : slice_get ws c.args.disk ≡ Some w = slice_get_read ws _ c.args.disk w refl inside c.index-window.ensures in
    let kept = sync_kept before after c.in-Err.ensures.syncs in
    record {
      buffered =
          windows_kept ws c.args.disk w at windows c.in-Err.ensures.syncs.reads.stays.disks (λ d has other. kept d has)
          (window_kept _ w (kept _ c.requires.disk) (windows.each _ w at));
    }

pub returns-in-Ok-clause-syncs : goal.returns-in-Ok-clause-syncs
returns-in-Ok-clause-syncs g c =
    let ws = c.args.self.now.windows.items in
    let w : Window = c.index-window.result.now in
    let windows = c.args.self.now.buffered in
    let inside : c.args.disk < length ws = subst (λ n. c.args.disk < n) (sym windows.count) c.requires.disk in
    let at : slice_get ws c.args.disk ≡ Some w = slice_get_read ws _ c.args.disk w refl inside c.index-window.ensures in
    sync_file c.args.disk _ w (g.met.F.FileStore.plain c.args.self.now.files) (c.requires.clean w at) (windows.each _ w at) c.in-Ok.ensures.syncs
