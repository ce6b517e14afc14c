-- Where the file doesn't give the sectors the window has none.
use Rattle.std.proofs.Common.{◌≡◌, ◌<◌, Some, slice_get, length, refl, sym, subst}
use Rattle.std.proofs.lemmas.Option.{slice_get_read}
use Rattle.buffered_bay.specs.declared.windows.Window.{Window}
use Rattle.buffered_bay.proofs.WindowsKept.{windows_kept}
use Rattle.buffered_bay.proofs.WindowCalls.{load_others, load_refused}
use Rattle.buffered_bay.proofs.bay.BufferedBay.read_ahead.Goals as goal

pub invariant_of-self-in-Err-load : goal.invariant_of-self-in-Err-load
invariant_of-self-in-Err-load g c =
    let ws = c.restart.new.self.windows.items in
    let w : Window = c.index.result.now in
    let before = g.met.F.FileStore.plain c.restart.new.self.files in
    let after = g.met.F.FileStore.plain c.load.new.self in
    let windows = c.restart.new.self.buffered in
    let has = subst (λ n. c.args.disk < n) (sym c.in-Ok.ensures.quiet.reads.stays.disks) c.requires.disk in
    let inside : c.args.disk < length ws = subst (λ n. c.args.disk < n) (sym windows.count) has in
    let at : slice_get ws c.args.disk ≡ Some w = slice_get_read ws _ c.args.disk w refl inside c.index.ensures in
    record {
      buffered =
          windows_kept ws c.args.disk w at windows c.in-Err-load.ensures.loads.reads.stays.disks
          (load_others before after c.in-Err-load.ensures.loads)
          (load_refused w before after has (c.in-Ok.ensures.empty w at) c.in-Err-load.ensures.loads (windows.each _ w at));
    }
