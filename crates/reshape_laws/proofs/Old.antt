-- Bytes that were read of an array for a new row, maybe when some members had gone: they are what the array had before.
use Rattle.std.proofs.Common.{◌≡◌, ℕ, ◌≤◌, Bool, true, false, ◌||◌, List, [], refl, sym, subst, ◌∙◌}
use Rattle.std.proofs.lemmas.Bool.{both_ways}
use Rattle.rack.specs.Values.{Values, only}
use Rattle.rack.specs.Seen.{RackView}
use Rattle.rack.specs.Sequences.{OnlyReads}
use Rattle.md_super.specs.declared.superblock.Super.{Super}
use Rattle.pool_state.specs.declared.contents.State.{State}
use Rattle.pool_state.specs.declared.contents.Plan.TheVariants.{Nothing}
use Rattle.array_image.specs.Supers.{is_reshaping}
use Rattle.array_image.specs.Arrays.{Member, Shape, value_by}
use Rattle.array_image.specs.Held.{Among, current_in, held_by}
use Rattle.array_image.proofs.Sources.{held_current}
use Rattle.array_model.specs.View.{View, IsArray, may_vary, sectors_of, shape_of, spent_in}
use Rattle.array_model.specs.Says.{ArrayInvariant}
use Rattle.array_model.specs.Members.{Notes}
use Rattle.array_model.specs.ArrayCalls.{IncludesSpent, ReadsArray}
use Rattle.array_model.proofs.Noting.{covers_before, losing_by, read_acts}
use Rattle.reshape_laws.specs.Rows.{IsOld, past, read}
use Rattle.reshape_laws.proofs.Held.{holds_all, holds_fewer}
use Rattle.reshape_laws.proofs.StepMoves.{tail_zeros}

either_off : (p q : Bool) → (p || q) ≡ false → (p ≡ false) × (q ≡ false)
either_off true q is = absurd (both_ways true is refl)
either_off false q is = (refl, is)

both_off : (p q : Bool) → p ≡ false → q ≡ false → (p || q) ≡ false
both_off true q off other = absurd (both_ways true off refl)
both_off false q off other = other

-- a read of a sector that isn't spent after it
pub read_old : (v w : View) (a b : RackView) (x : ℕ) (bytes : List ℕ) → Notes v w a b → spent_in w x ≡ false
    → ((s : State) (durable : Shape) (vals : ℕ → Values) (spent : ℕ → Bool) → IncludesSpent w spent → ReadsArray s v w spent a b durable vals x bytes)
    → IsOld v a x bytes
read_old v w a b x bytes notes unspent reads =
    read
    (covers_before v w notes.lost (losing_by v w a b notes) (spent_in w) (λ y alive. alive) x unspent)
    (λ s durable vals spent holds alive.
    (reads s durable vals (λ y. spent y || spent_in w y) (λ y both. (either_off (spent y) (spent_in w y) both).1)).value
    (holds_fewer s durable v vals spent (λ y. spent y || spent_in w y) a (λ y both. (either_off (spent y) (spent_in w y) both).0) holds)
    (both_off (spent x) (spent_in w x) alive unspent))

-- some state: what a read does to a rack goes by none
no_state : State
no_state = record { pool = record { 0 = [] }; epoch = 0; extent = 0; drives = record { items = [] }; plan = Nothing; made = 0; joined = 0; serial = 0 }

-- it wrote nothing
pub read_only : (v w : View) (a b : RackView) (x : ℕ) (bytes : List ℕ)
    → ((s : State) (durable : Shape) (vals : ℕ → Values) (spent : ℕ → Bool) → IncludesSpent w spent → ReadsArray s v w spent a b durable vals x bytes)
    → OnlyReads a b
read_only v w a b x bytes reads =
    let call = reads no_state (shape_of v) (λ y. only []) (λ y. true) (λ y none. absurd (both_ways true none refl)) in
    record { stays = call.acts.stays; keeps = call.keeps }

-- what was read after losses was so before them
pub old_before : (v u : View) (a b : RackView) (x : ℕ) (bytes : List ℕ) → IsArray v → a.lasting → OnlyReads a b → Notes v u a b → IsOld u b x bytes → IsOld v a x bytes
old_before v u a b x bytes is_array lasting reads notes (read unspent value) =
    read
    (covers_before v u notes.lost (losing_by v u a b notes) (spent_in u) (λ y alive. alive) x unspent)
    (λ s durable vals spent holds alive.
    value s durable vals (λ y. spent y || spent_in u y)
    ((read_acts a b v u lasting reads is_array notes s durable vals (λ y. spent y || spent_in u y) (λ y both. (either_off (spent y) (spent_in u y) both).1)).holds
    (holds_fewer s durable v vals spent (λ y. spent y || spent_in u y) a (λ y both. (either_off (spent y) (spent_in u y) both).0) holds))
    (both_off (spent x) (spent_in u x) alive unspent))
old_before v u a b x bytes is_array lasting reads notes (past end moved are) =
    past
    (subst (λ (t : Super). sectors_of (record v { truth = t }) ≤ x) notes.same.truth end)
    (subst (λ (t : Super). t.reshape_position ≤ x) notes.same.truth moved)
    are

-- they are the bytes that the members give
pub old_value : (s : State) (v : View) (vals : ℕ → Values) (spent : ℕ → Bool) (a : RackView) (x : ℕ) (bytes : List ℕ) → IsArray v → is_reshaping v.truth ≡ true
    → ((m : Member) → Among m (shape_of v).members → m.reach ≤ v.truth.size)
    → may_vary v ≡ false → ArrayInvariant s (shape_of v) v vals spent a → IsOld v a x bytes → bytes ≡ value_by (shape_of v) (current_in a.held) v.number x
old_value s v vals spent a x bytes is_array reshaping low steady holds (read unspent value) =
    value s (shape_of v) (held_by (shape_of v) a.held v.number) (λ y. false) (holds_all s v vals spent a steady holds) refl
    ∙ held_current (shape_of v) v.number a.held x
old_value s v vals spent a x bytes is_array reshaping low steady holds (past end moved are) =
    are ∙ sym (tail_zeros v 0 is_array reshaping (current_in a.held) x low moved end)
