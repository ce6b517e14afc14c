-- A group's text is made of its parts.
use Rattle.std.proofs.Common.{◌≡◌, ℕ, List, [], ◌∷◌, ◌++◌, append_assoc, length}
use Rattle.std.specs.Prelude.{codes}
use Rattle.std.specs.List.{flat_map}
use Rattle.lvm_text.specs.declared.group.Pv.{Pv}
use Rattle.lvm_text.specs.declared.group.Segment.{Segment}
use Rattle.lvm_text.specs.Printed.{bare_group, group_head, lv_head, lv_text, opening, printed, pv_text, segments_text}

pub assembled : (old a b d e f h k name id : List ℕ) (seqno extent : ℕ) (pvs : List Pv) (lv_name lv_id : List ℕ) (segments : List Segment)
    → a ≡ old ++ group_head (bare_group name id seqno extent) → b ≡ a ++ codes "physical_volumes {\n" → d ≡ b ++ flat_map pv_text pvs → e ≡ d ++ codes "}\nlogical_volumes {\n"
    → f ≡ e ++ lv_head lv_name lv_id (length segments) → h ≡ f ++ segments_text 1 segments → k ≡ h ++ (codes "}\n}\n}\ncontents = \"Text Format Volume Group\"\nversion = 1\n" ++ 0 ∷ [])
    → k ≡ old ++ printed (record { name = name; id = id; seqno = seqno; extent_size = extent; pvs = pvs; lvs = record { name = lv_name; id = lv_id; segments = segments } ∷ [] })
unfolding group_head lv_head lv_text opening printed
assembled old a b d e f h k name id seqno extent pvs lv_name lv_id segments a_is b_is d_is e_is f_is h_is k_is =
    rw (k_is, h_is, f_is, e_is, d_is, b_is, a_is) (simp append_assoc)
