-- Lines keep what the arrays hold before the volume's first extents, and so the pool's group.
use Rattle.std.proofs.Common.{◌≡◌, ℕ, ◌+◌, ◌<◌, ◌≤◌, false, true, List, length, refl, sym, ◌∙◌, subst, inl, inr, arith}
use Rattle.std.proofs.lemmas.Bool.{both_ways, cases_Bool, cases_lt}
use Rattle.rack.specs.Joins.{keeps_same, keeps_then}
use Rattle.rack.specs.Seen.{Image, IsLive, RackView}
use Rattle.rack.specs.Sequences.{IsMix}
use Rattle.rack.specs.Values.{MayLeave}
use Rattle.slice_rack.specs.Slices.{Slices, sectors_of as sectors_in}
use Rattle.slice_rack.specs.Sliced.{sliced}
use Rattle.array_image.specs.Arrays.{arrays_in, replayed}
use Rattle.pool_state.specs.declared.contents.State.{State}
use Rattle.array_model.specs.View.{sectors_of}
use Rattle.lvm_group.specs.Framed.{IsShown}
use Rattle.lvm_group.specs.Runs.{Linear, data_start}
use Rattle.raid_laws.specs.Raid.{IsTracked, Raid, held_in}
use Rattle.raid_rack.proofs.Truths.{truths_then}
use Rattle.pool_model.specs.Grouped.{AreHeadsLive, HoldGroup}
use Rattle.shr_tool.proofs.GroupKept.{group_kept}
use Rattle.pool.specs.declared.replacing.GrowFault.TheVariants.{Attach, Memory, NoSuchDrive, Twice}
use Rattle.pool.specs.Calls.{CallFrame}
use Rattle.pool.specs.Moment.{IsNamed, moment_of}
use Rattle.pool.specs.Replaced.{ChangesDrive}
use Rattle.pool.specs.View.{View, arrays_shown, book, slices_shown}
use Rattle.shr_tool.specs.Events.{Event, takes_disk}
use Rattle.shr_tool.specs.Events.Event.{answered, spent, lost, last, replaced, declined, stepped, stuck, shown}
use Rattle.shr_tool.specs.Heads.{KeepsHeads}
use Rattle.shr_tool.specs.Timeline.{LineContract}
use Rattle.shr_tool.proofs.TakenIn.{ok_err}

pub heads_same : (v : Raid) (a : RackView) → KeepsHeads v v a a
heads_same v a = record {
  made = refl;
  joined = refl;
  pool = refl;
  extent = refl;
  sectors = λ n. refl;
  live = λ n s low alive. alive;
  told = λ n s low alive told. told;
  keeps = λ n s low within first alive told. keeps_same _;
  truths = λ n low held. held;
}

pub heads_then : (u v w : Raid) (a b c : RackView) → KeepsHeads u v a b → KeepsHeads v w b c → KeepsHeads u w a c
heads_then u v w a b c one two = record {
  made = two.made ∙ one.made;
  joined = two.joined ∙ one.joined;
  pool = two.pool ∙ one.pool;
  extent = two.extent ∙ one.extent;
  sectors = λ n. two.sectors n ∙ one.sectors n;
  live = λ n s low alive. one.live n s low (two.live n s (later n low) alive);
  told = λ n s low alive told. two.told n s (later n low) alive (one.told n s low (two.live n s (later n low) alive) told);
  keeps = λ n s low within first alive told.
      let mid = two.live n s (later n low) alive in
      keeps_then _ _ _ (one.keeps n s low within first mid told)
      (two.keeps n s (later n low) (subst (λ k. s < k) (sym (one.sectors n)) within) first alive (one.told n s low mid told));
  truths = truths_then u v w a b c one.made one.truths two.truths;
}
  where
    later : (n : ℕ) → n < u.state.made → n < v.state.made
    later n low = subst (λ k. n < k) (sym one.made) low

not_shown : (s extent rest : ℕ) → s < data_start → s ≡ data_start + extent + rest → ⊥
not_shown s extent rest first is = absurd (omega (arith, first, is))

-- calls that take no disk
pub heads_passes : (x y : View) → CallFrame x y → KeepsHeads (book x) (book y) (slices_shown x) (slices_shown y)
heads_passes x y passes = record {
  made = passes.marks.same.made;
  joined = passes.marks.same.joined;
  pool = passes.marks.same.pool;
  extent = passes.marks.same.extent;
  sectors = λ n. passes.arrays.stays.sectors n;
  live = λ n s low alive. passes.arrays.stays.spent n s alive;
  told = λ n s low alive told. passes.arrays.stays.told n told;
  keeps = λ n s low within first alive told.
      let live : IsLive (arrays_shown x) (arrays_shown y) n s = record {
        disk = subst (λ k. n < k) (sym passes.marks.same.made) low;
        sector = subst (λ k. s < k) (sym (passes.arrays.stays.sectors n)) within;
        is_told = told;
        unspent = alive;
      } in
      passes.arrays.others n s live (λ u shown. not_shown s _ _ first shown.3);
  truths = passes.truths;
}

-- ---- a line that names a disk

-- states of one pool, with the same arrays
record IsSamePool (s t : State) : Type 0 where
  made : t.made ≡ s.made
  joined : t.joined ≡ s.joined
  pool : t.pool ≡ s.pool
  extent : t.extent ≡ s.extent

module _ (x y : View) (place : ℕ) (name text : List ℕ) (performs : LineContract x y (replaced place name) text) where
  listed : place < length (book x).state.drives.items
  listed = elim (cases_lt place (length (book x).state.drives.items)) [
    | inl low ↦ low
    | inr past ↦ absurd (ok_err NoSuchDrive (performs.cause.0.missing.1 past))
  ]

  named : (d : ℕ) × IsNamed (moment_of y) name d
  named =
      performs.cause.0.named
      (record { listed = listed; attached = λ same. ok_err Attach same; had = λ same. ok_err Memory same; other = λ same. ok_err Twice same })

  same_replaced : IsSamePool (book x).state (book y).state
  same_replaced =
      let same = (performs.cause.1 named.0 named.1).marks.same in
      record { made = same.made; joined = same.joined; pool = same.pool; extent = same.extent }

-- what such a line changes
heads_changes : (x y : View) (place : ℕ) (name : List ℕ) → IsSamePool (book x).state (book y).state → ChangesDrive x y place name
    → x.shelf.told → ((d : ℕ) → d < x.bay.disks → x.bay.told d) → KeepsHeads (book x) (book y) (slices_shown x) (slices_shown y)
heads_changes x y place name same changes names all =
    let held = changes.held names all in
    record {
      made = same.made;
      joined = same.joined;
      pool = same.pool;
      extent = same.extent;
      sectors = held.sectors;
      live = held.live;
      told = held.told;
      keeps = λ n s low within first alive told. held.keeps n s low within alive told;
      truths = changes.truths names all;
    }

pub heads_performed : (x y : View) (event : Event) (text : List ℕ) → LineContract x y event text
    → x.shelf.told → ((d : ℕ) → d < x.bay.disks → x.bay.told d) → KeepsHeads (book x) (book y) (slices_shown x) (slices_shown y)
heads_performed x y event text performs names all = elim (cases_Bool (takes_disk event)) [
  | inr none ↦ heads_passes x y (performs.passes none)
  | inl takes ↦ taking event takes performs
]
  where
    taking : (e : Event) → takes_disk e ≡ true → LineContract x y e text → KeepsHeads (book x) (book y) (slices_shown x) (slices_shown y)
    taking (answered line) takes does = absurd (both_ways false refl takes)
    taking (spent line sector) takes does = absurd (both_ways false refl takes)
    taking (lost place) takes does = absurd (both_ways false refl takes)
    taking (last place) takes does = absurd (both_ways false refl takes)
    taking (replaced place name) takes does = heads_changes x y place name (same_replaced x y place name text does) (does.changes takes).0 names all
    taking (declined place name fault) takes does =
        let same = does.cause.1.marks.same in
        heads_changes x y place name (record { made = same.made; joined = same.joined; pool = same.pool; extent = same.extent }) (does.changes takes).0 names all
    taking (stepped count left) takes does = absurd (both_ways false refl takes)
    taking (stuck count array) takes does = absurd (both_ways false refl takes)
    taking (shown text') takes does = absurd (both_ways false refl takes)

-- ---- the group

-- it stays where the arrays were told and before their first extents no sector is spent
pub heads_group : (v w : Raid) (l : Linear) (a b : RackView) → KeepsHeads v w a b → ((n : ℕ) → n < v.state.joined → n < v.state.made)
    → ((n : ℕ) → n < v.state.joined → IsTracked v a n) → AreHeadsLive w → HoldGroup v l a → HoldGroup w l b
heads_group v w l a b heads made told alive =
    group_kept v w l a b heads.pool heads.extent heads.joined heads.sectors
    (λ n s u low inside first left.
    let less : n < v.state.joined = (let joined = heads.joined in omega (arith, low, joined)) in
    (heads.keeps n s (made n less) (subst (λ k. s < k) (heads.sectors n) inside) first (alive n s low inside first) (told n less)).within u left)

-- a stop inside calls that take no disk leaves there what may be left before them
pub heads_amid : (x y : View) → CallFrame x y → x.bay.traced → ((n : ℕ) → n < (book x).state.joined → n < (book x).state.made)
    → ((n : ℕ) → n < (book x).state.joined → IsTracked (book x) (slices_shown x) n) → AreHeadsLive (book y)
    → (k : ℕ) (i : Image) → x.bay.clock < k → k ≤ y.bay.clock → y.bay.stops k i
    → (n s : ℕ) → n < (book x).state.joined → s < sectors_of ((book x).arrays n) → s < data_start
    → MayLeave (held_in (book x) (slices_shown x) n s) (arrays_in (replayed (sectors_in x.slices) (sliced x.slices i)) n s)
heads_amid x y passes traced made told alive k i since until stopped n s low inside first =
    elim (mix n s live) [ inl may ↦ may | inr is ↦ absurd (not_shown s _ _ first is.3) ]
  where
    by : Slices → Image
    by t = arrays_in (replayed (sectors_in t) (sliced t i))

    mix : IsMix (arrays_shown x) (arrays_shown y) (IsShown x.linear) (by x.slices)
    mix =
        subst (λ (t : Slices). IsMix (arrays_shown x) (arrays_shown y) (IsShown x.linear) (by t)) passes.slices
        ((passes.arrays.stops traced).new k (by y.slices) since until (sliced y.slices i, (i, stopped, λ d u. refl), λ m u. refl))

    joined : (book y).state.joined ≡ (book x).state.joined
    joined = passes.marks.same.joined

    within : s < sectors_of ((book y).arrays n)
    within = subst (λ m. s < m) (sym (passes.arrays.stays.sectors n)) inside

    live : IsLive (arrays_shown x) (arrays_shown y) n s
    live = record {
      disk = (let less = made n low in let same = passes.marks.same.made in omega (arith, less, same));
      sector = within;
      is_told = told n low;
      unspent = alive n s (omega (arith, low, joined)) within first;
    }
