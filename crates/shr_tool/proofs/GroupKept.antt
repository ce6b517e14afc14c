-- A volume group stays where the sectors before the volume's first extents keep what they hold.
use Rattle.std.proofs.Common.{◌≡◌, ℕ, ◌<◌, ◌≤◌, List, sym, subst, ◌∙◌, arith}
use Rattle.rack.specs.Seen.{Image, RackView}
use Rattle.rack.specs.Values.{MayLeave}
use Rattle.array_model.specs.View.{sectors_of}
use Rattle.lvm_group.specs.Images.{IsVolume}
use Rattle.lvm_group.specs.Runs.{Linear, data_start}
use Rattle.shr_base.specs.declared.Id.{Id}
use Rattle.pool_model.specs.Grouped.{HoldGroup}
use Rattle.raid_laws.specs.Raid.{Raid, held_in}

-- So it is where the book's pool is the same and these sectors may be left with nothing new.
pub group_kept : (v w : Raid) (l : Linear) (x y : RackView) → w.state.pool ≡ v.state.pool → w.state.extent ≡ v.state.extent → w.state.joined ≡ v.state.joined
    → ((n : ℕ) → sectors_of (w.arrays n) ≡ sectors_of (v.arrays n))
    → ((n s : ℕ) (u : List ℕ) → n < w.state.joined → s < sectors_of (w.arrays n) → s < data_start → MayLeave (held_in w y n s) u → MayLeave (held_in v x n s) u)
    → HoldGroup v l x → HoldGroup w l y
group_kept v w l x y pool extent joined sectors kept group = record {
  extent = group.extent ∙ sym extent;
  arrays = group.arrays ∙ sym joined;
  says = λ c picks past.
      let was = group.says c (before c picks) (λ n s low out. past n s (omega (arith, low, joined)) (subst (λ k. k ≤ s) (sym (sectors n)) out)) in
      (was.0, now c was.0 was.1);
}
  where
    before : (c : Image) → ((n s : ℕ) → n < w.state.joined → s < sectors_of (w.arrays n) → s < data_start → MayLeave (held_in w y n s) (c n s))
        → (n s : ℕ) → n < v.state.joined → s < sectors_of (v.arrays n) → s < data_start → MayLeave (held_in v x n s) (c n s)
    before c picks n s low inside first =
        let less : n < w.state.joined = omega (arith, low, joined) in
        let within : s < sectors_of (w.arrays n) = subst (λ k. s < k) (sym (sectors n)) inside in
        kept n s (c n s) less within first (picks n s less within first)

    now : (c : Image) (seqno : ℕ) → IsVolume v.state.pool.0 v.state.joined l seqno (λ n. sectors_of (v.arrays n)) c
        → IsVolume w.state.pool.0 w.state.joined l seqno (λ n. sectors_of (w.arrays n)) c
    now c seqno is =
        subst (λ (id : Id). IsVolume id.0 w.state.joined l seqno (λ n. sectors_of (w.arrays n)) c) (sym pool)
        (subst (λ k. IsVolume v.state.pool.0 k l seqno (λ n. sectors_of (w.arrays n)) c) (sym joined)
        (subst (λ (k : ℕ → ℕ). IsVolume v.state.pool.0 v.state.joined l seqno k c) (sym (λ j n. sectors n j)) is))
