-- One mark on a drive is a mark on each array that has it: before it and after it, images give values that the sectors hold.
use Rattle.std.proofs.Common.{◌≡◌, ◌⊎◌, ℕ, ◌<◌, Bool, true, false, ◌&&◌, not, List, [], ◌∷◌, map, length, Option, Some, unwrap_or, refl, sym, ap, ap₂, subst, ◌∙◌, inl, inr, arith}
use Rattle.std.specs.Option.{option_map_or}
use Rattle.std.specs.List.{range_with_len}
use Rattle.rack.specs.Values.{Values, MayLeave}
use Rattle.rack.specs.Seen.{Image, Held}
use Rattle.md_super.specs.declared.superblock.Super.{Super}
use Rattle.pool_state.specs.declared.contents.State.{State}
use Rattle.array_image.specs.Places.{member_slice, super_sector}
use Rattle.array_image.specs.States.{is_current, state_in}
use Rattle.array_image.specs.Supers.{is_super_of, only_if, super_of, super_in}
use Rattle.array_image.specs.Arrays.{Member, Shape, member_by, member_in, place_with, shape_by, shape_in, array_in, arrays_in, value_by}
use Rattle.array_image.specs.Held.{Among, PicksData, IsSynced}
use Rattle.array_image.specs.Marks.{unless_gone, lower, lowered, Marks, IsCarried}
use Rattle.array_image.proofs.Settled.{settled_value}

-- ---- the shape under a mark

marked_one : (size place : ℕ) (current lost : Bool) (own : Option Super) → member_by size place (current && not lost) own ≡ unless_gone lost (member_by size place current own)
marked_one size place true true own = refl
marked_one size place true false own = refl
marked_one size place false true own = refl
marked_one size place false false own = refl

-- one superblock is valid before and after a mark, or neither time
pub marked_super : (before after : State) (lost : ℕ → Bool) (c : Image) (array place : ℕ)
    → Marks before lost after
    → super_in after c array place ≡ super_in before c array place
marked_super before after lost c array place marks =
    ap (λ (pool : List ℕ). valid pool after.extent (length after.drives.items)) (ap (λ id. id.0) marks.pool)
    ∙ ap (λ (extent : ℕ). valid before.pool.0 extent (length after.drives.items)) marks.extent
    ∙ ap (λ (drives : ℕ). valid before.pool.0 before.extent drives) marks.drives
  where
    valid : List ℕ → ℕ → ℕ → Option Super
    valid pool extent drives = only_if (is_super_of pool extent drives array place) (super_of (c (member_slice place array) super_sector))

marked_member : (before after : State) (lost : ℕ → Bool) (c : Image) (array : ℕ) (t : Super) (n : ℕ)
    → Marks before lost after
    → member_in after c array t n ≡ lower lost (member_in before c array t n)
marked_member before after lost c array t n marks =
    let place = unwrap_or (place_with t.roles.items n) 16 in
    let own = super_in before c array place in
    ap₂ (λ (current : Bool) (o : Option Super). member_by t.size place current o) (marks.current place) (marked_super before after lost c array place marks)
    ∙ marked_one t.size place (is_current before place) (lost place) own

marked_members : (before after : State) (lost : ℕ → Bool) (c : Image) (array : ℕ) (t : Super) (ns : List ℕ)
    → Marks before lost after
    → map (member_in after c array t) ns ≡ map (lower lost) (map (member_in before c array t) ns)
marked_members before after lost c array t [] marks = refl
marked_members before after lost c array t (n ∷ ns) marks =
    ap₂ (λ (m : Member) (ms : List Member). m ∷ ms) (marked_member before after lost c array t n marks) (marked_members before after lost c array t ns marks)

-- a mark takes its places out of an array, whichever array it is
pub marked_shape : (before after : State) (lost : ℕ → Bool) (c : Image) (array : ℕ) (t : Super)
    → Marks before lost after
    → shape_by after c array t ≡ lowered lost (shape_by before c array t)
unfolding shape_by
marked_shape before after lost c array t marks =
    ap (λ (ms : List Member). record (shape_by before c array t) { members = ms }) (marked_members before after lost c array t (range_with_len 0 t.raid_disks) marks)

-- ---- values

pub among_lowered : (lost : ℕ → Bool) (sector : ℕ) (members : List Member) (m : Member)
    → Among m (map (lower lost) members) → sector < m.reach → Among m members
among_lowered lost sector [] m among counts = absurd among
among_lowered lost sector (first ∷ others) m (inr later) counts = inr (among_lowered lost sector others m later counts)
among_lowered lost sector (first ∷ others) m (inl here) counts =
    let Goal : Bool → Type 0 = λ b. m ≡ unless_gone b first → sector < m.reach → m ≡ first in
    let goal : Goal (lost first.place) =
    elim (lost first.place) as Goal [
      | true ↦ λ is counts. absurd (omega (arith, subst (λ (o : Member). sector < o.reach) is counts))
      | false ↦ λ is counts. is
    ] in
    inl (goal here counts)

-- who picks of all members picks of those that are left
pub picks_left : (lost : ℕ → Bool) (shape : Shape) (array : ℕ) (held : Held) (c : Image) → PicksData shape array held c → PicksData (lowered lost shape) array held c
picks_left lost shape array held c picks m sector among counts = picks m sector (among_lowered lost sector shape.members m among counts) counts

-- once those that are left are synced, they give the current value
pub carried_value : (durable noted : Shape) (array : ℕ) (vals : ℕ → Values) (live : ℕ → Type 0) (held : Held) (c : Image)
    → IsCarried durable noted array vals live held
    → IsSynced noted array held
    → PicksData noted array held c
    → (x : ℕ) → live x → value_by noted c array x ≡ (vals x).current
carried_value durable noted array vals live held c carried settled picks x alive =
    settled_value noted array held c settled picks x ∙ carried.current x alive

-- the arrays of an image are all of the shapes that they had, or all without the lost places
abbrev pub AreMarked : State → ℕ → (ℕ → Shape) → (ℕ → Bool) → Image → Type 0
AreMarked s made durable lost c =
    ((n : ℕ) → n < made → shape_in s c n ≡ Some (durable n)) ⊎ ((n : ℕ) → n < made → shape_in s c n ≡ Some (lowered lost (durable n)))

-- whichever it is, each sector of each array gives a value that it holds
pub one_mark : (made : ℕ) (durable : ℕ → Shape) (lost : ℕ → Bool) (vals : ℕ → ℕ → Values) (live : ℕ → ℕ → Type 0) (held : Held) (c : Image) (s : State)
    → ((n : ℕ) → n < made → IsCarried (durable n) (lowered lost (durable n)) n (vals n) (live n) held)
    → ((n : ℕ) → n < made → IsSynced (lowered lost (durable n)) n held)
    → ((n : ℕ) → n < made → PicksData (durable n) n held c)
    → state_in c ≡ Some s
    → AreMarked s made durable lost c
    → (n x : ℕ) → n < made → live n x → MayLeave (vals n x) (arrays_in c n x)
unfolding arrays_in
one_mark made durable lost vals live held c s carried settled picks state (inl same) n x inside alive =
    subst (MayLeave (vals n x))
    (sym (ap (λ o. option_map_or (λ t. array_in t c n x) o []) state ∙ ap (λ o. option_map_or (λ shape. value_by shape c n x) o []) (same n inside)))
    ((carried n inside).picks c (picks n inside) x alive)
one_mark made durable lost vals live held c s carried settled picks state (inr marked) n x inside alive =
    subst (MayLeave (vals n x))
    (sym (ap (λ o. option_map_or (λ t. array_in t c n x) o []) state ∙ ap (λ o. option_map_or (λ shape. value_by shape c n x) o []) (marked n inside)))
    (inl (carried_value (durable n) (lowered lost (durable n)) n (vals n) (live n) held c (carried n inside) (settled n inside) (picks_left lost (durable n) n held c (picks n inside)) x alive))
