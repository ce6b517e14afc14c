-- A write past the log, in which places may go: its clause from what its calls did.
use Rattle.std.proofs.Common.{◌≡◌, ◌⊎◌, ℕ, ◌+◌, ◌<◌, Bool, true, false, ◌==◌, if◌then◌else◌, List, [], map, take, length, Option, Some, None, unwrap_or, refl, sym, ap, subst, ◌∙◌, inl, inr, eq-eqb, eqb-true, arith}
use Rattle.std.proofs.lemmas.Bool.{both_ways}
use Rattle.std.specs.Option.{option_map_or}
use Rattle.rack.specs.Values.{Values, MayLeave, Keeps, append}
use Rattle.rack.specs.Seen.{Image, RackView, IsLive, SameRack}
use Rattle.rack.specs.Joins.{leaves_weaker, may_leave-append}
use Rattle.md_super.specs.declared.superblock.Super.{Super}
use Rattle.pool_state.specs.declared.contents.State.{State}
use Rattle.array_image.specs.Places.{log_slice, member_slice, super_sector, data_sector}
use Rattle.rack.specs.Targets.{Target, look}
use Rattle.array_image.specs.Stripes.{width, position_in, there, given, AgreeIn}
use Rattle.array_image.specs.Arrays.{Member, Shape, place_with, layout_at, value_by, replayed}
use Rattle.array_image.specs.Supers.{super_in, truth_in}
use Rattle.array_image.proofs.Frames.{super_of_sector}
use Rattle.rack.proofs.Phases.{payload_none}
use Rattle.array_image.specs.Held.{Among, current_in}
use Rattle.array_image.specs.Even.{AreEven}
use Rattle.array_image.specs.SoundArray.{first_unsynced}
use Rattle.array_image.specs.Marks.{lower, lowered}
use Rattle.array_image.proofs.Settled.{among_take}
use Rattle.array_image.proofs.Marked.{among_lowered}
use Rattle.array_image.proofs.Replays.{SameLogs, calm_same, inside_same, replayed_same, whole_same}
use Rattle.array_image.proofs.Sources.{source_value, source_counts}
use Rattle.array_model.specs.View.{View, shape_of, spent_in, may_vary, IsNoted}
use Rattle.array_image.specs.Left.{reading, IsInside, Picks, PicksLogs, IsLeft, IsApart, NothingPending}
use Rattle.array_model.specs.Says.{ImageShowsArray, ShapeInvariant, ArrayInvariant, IsEarlier}
use Rattle.array_model.specs.ArrayCalls.{ArrayCall, ImageInCall, appended_at}
use Rattle.rack.specs.Sequences.{IsPayload, IsMix}
use Rattle.array_model.proofs.Keeping.{reading_live, reading_outside, inside_before, logs_of, live_on, live_after, open_after, logs_before, closed_after, bounded_after}
use Rattle.array_model.proofs.Losses.{IsLosing, even_noted}
use Rattle.array_model.proofs.WholeWrites.{write_values, own_held}
use Rattle.array_image.specs.Spent.{spent_by}
use Rattle.array_model.specs.Rows.{written, IsRow, source_at, sector_at}
use Rattle.array_model.proofs.Spared.{lost_value, IsLaidOut}
use Rattle.array_model.proofs.Looking.{no_target, look_payload, payload_look, unwritten, unwritten_same}
use Rattle.array_model.proofs.DataFrames.{SameSectors, truth_at, shape_at, sound_with, columns_same}
use Rattle.array_model.proofs.Noting.{unspent_then}
use Rattle.array_model.proofs.Whole.{among_kept}
use Rattle.array_model.specs.Members.{Puts}

-- ---- where there is no target

log_free : (shape : Shape) (n x : ℕ) (from : List ℕ) (xs : List Target) → n < 16 → IsRow shape n x from xs → (place t : ℕ) → look xs (log_slice place) t ≡ None
log_free shape n x from xs few row place t =
    no_target xs (log_slice place) t (λ u is. let at = row.own (log_slice place) t u is in absurd (omega (arith, few, at.2)))

super_free : (shape : Shape) (n x : ℕ) (from : List ℕ) (xs : List Target) → IsRow shape n x from xs → (d : ℕ) → look xs d super_sector ≡ None
super_free shape n x from xs row d =
    no_target xs d super_sector (λ u is. let at = row.own d super_sector u is in absurd (omega (arith, at.3)))

apart_free : (shape : Shape) (n x : ℕ) (from : List ℕ) (xs : List Target) → n < 16 → IsRow shape n x from xs → (d t : ℕ) → IsApart n d t → look xs d t ≡ None
apart_free shape n x from xs few row d t apart =
    no_target xs d t (λ u is. let at = row.own d t u is in absurd (apart.0 (omega (arith, few, at.2))))

-- ---- images

-- contents of a moment of the write, without its targets
before_of : (a b : RackView) (xs : List Target) (c : Image) → a.lasting → SameRack a b → IsInside a.sectors c → IsMix a b (IsPayload xs) c → Picks a (unwritten xs (reading a) c)
before_of a b xs c lasting stays inside mix =
    record {
      picks = λ d t live.
          let Goal : Option (List ℕ) → Type 0 = λ o. look xs d t ≡ o → MayLeave (a.held d t) (option_map_or (λ u. reading a d t) o (c d t)) in
          let goal : Goal (look xs d t) =
          elim (look xs d t) as Goal [
            | Some u ↦ λ is. inl (reading_live a d t live)
            | None ↦ λ is. elim (mix d t (live_on lasting stays live)) [ inl old ↦ old | inr new ↦ absurd (payload_look xs d t (c d t) is new) ]
          ] in
          goal refl;
      inside = λ d t out.
          elim (look xs d t) as (λ o. option_map_or (λ u. reading a d t) o (c d t) ≡ []) [
            | Some u ↦ reading_outside a d t out
            | None ↦ inside d t out
          ];
    }

-- what holds when the write begins
record Begins (s : State) (v : View) (vals : ℕ → Values) (spent : ℕ → Bool) (a : RackView) : Type 0 where
  pub holds : ShapeInvariant s v.number (shape_of v) (shape_of v) v.resync (may_vary v) vals spent a
  -- no row must agree in images
  pub agree : (r : Image) → IsLeft a r → (t : Super) → truth_in s r v.number ≡ Some t → (c : Image) → AreEven (shape_of v) v.number (first_unsynced t) c
  pub mark : v.marked ≡ true → (r : Image) → IsLeft a r → (t : Super) → truth_in s r v.number ≡ Some t → t.resync_offset ≡ 0
  pub closed : NothingPending v.number a

-- and what is known of it as a whole
record Write (s : State) (v : View) (vals : ℕ → Values) (spent : ℕ → Bool) (a b : RackView) (x : ℕ) (from : List ℕ) (xs : List Target) : Type 0 where
  pub few : v.number < 16
  pub row : IsRow (shape_of v) v.number x from xs
  pub sources : (y : ℕ) → spent y ≡ false → (m : Member) × (source_at (shape_of v) y ≡ Some m)

mixed_logs : (a b : RackView) (n : ℕ) (xs : List Target) (c : Image) → a.lasting → SameRack a b → ((place t : ℕ) → look xs (log_slice place) t ≡ None)
    → IsInside a.sectors c → IsMix a b (IsPayload xs) c → PicksLogs a c
mixed_logs a b n xs c lasting stays free inside mix =
    record {
      picks = λ place t live.
          elim (mix (log_slice place) t (live_on lasting stays live)) [
            | inl old ↦ old
            | inr new ↦ absurd (payload_look xs (log_slice place) t (c (log_slice place) t) (free place t) new)
          ];
      inside = λ place t out. inside (log_slice place) t out;
    }

mixed_value : (s : State) (v : View) (vals : ℕ → Values) (spent : ℕ → Bool) (a b : RackView) (x : ℕ) (from : List ℕ) (xs : List Target)
    → a.lasting → SameRack a b → Begins s v vals spent a → Write s v vals spent a b x from xs
    → (c : Image) → IsInside a.sectors c → IsMix a b (IsPayload xs) c → (y : ℕ) → spent y ≡ false
    → MayLeave (appended_at x from vals y) (value_by (shape_of v) (replayed a.sectors c) v.number y)
mixed_value s v vals spent a b x from xs lasting stays begins write c inside mix y alive =
    let n = v.number in
    let shape = shape_of v in
    let at = write.sources y alive in
    write_values shape n x from a.held vals xs (replayed a.sectors c)
    (λ z m is.
    let found = source_counts shape z m is in
    let d = member_slice m.place n in
    let t = data_sector + sector_at shape z in
    subst (λ w. MayLeave (a.held d t) w ⊎ IsPayload xs d t w)
    (sym (begins.closed c (mixed_logs a b n xs c lasting stays (log_free shape n x from xs write.few write.row) inside mix) m.place t))
    (mix d t (live_on lasting stays (begins.holds.open_slices m (sector_at shape z) found.among found.counts))))
    (λ z m u is payload. write.row.alone z m u is payload)
    y at.0 at.1
    (λ u may. begins.holds.within y alive u may (λ m is. (source_counts shape y m is).among))

-- its superblocks are those of contents that a stop before the write might leave
mixed_supers : (a b : RackView) (shape : Shape) (n x : ℕ) (from : List ℕ) (xs : List Target) (c : Image) → a.lasting → SameRack a b → n < 16 → IsRow shape n x from xs
    → IsInside a.sectors c → IsMix a b (IsPayload xs) c → (r : Image) × IsLeft a r × SameSectors n (replayed a.sectors c) r
mixed_supers a b shape n x from xs c lasting stays few row inside mix =
    let e : Image = unwritten xs (reading a) c in
    let logs : SameLogs c e = λ place t. unwritten_same xs (reading a) c (log_slice place) t (log_free shape n x from xs few row place t) in (
      replayed a.sectors e,
      (e, before_of a b xs c lasting stays inside mix, λ d t. refl),
      λ place.
          replayed_same a.sectors c e (member_slice place n) super_sector logs
          (unwritten_same xs (reading a) c (member_slice place n) super_sector (super_free shape n x from xs row (member_slice place n))),
    )

mixed_says : (s : State) (v : View) (vals : ℕ → Values) (spent : ℕ → Bool) (a b : RackView) (x : ℕ) (from : List ℕ) (xs : List Target)
    → a.lasting → SameRack a b → Begins s v vals spent a → Write s v vals spent a b x from xs
    → (c : Image) → IsInside a.sectors c → IsMix a b (IsPayload xs) c
    → ImageShowsArray s v.number (shape_of v) (appended_at x from vals) spent (replayed a.sectors c)
    × (v.marked ≡ true → (t : Super) → truth_in s (replayed a.sectors c) v.number ≡ Some t → t.resync_offset ≡ 0)
mixed_says s v vals spent a b x from xs lasting stays begins write c inside mix =
    let n = v.number in
    let shape = shape_of v in
    let e : Image = unwritten xs (reading a) c in
    let picks : Picks a e = before_of a b xs c lasting stays inside mix in
    let logs : SameLogs c e = λ place t. unwritten_same xs (reading a) c (log_slice place) t (log_free shape n x from xs write.few write.row place t) in
    let same : SameSectors n (replayed a.sectors c) (replayed a.sectors e) = λ place.
    replayed_same a.sectors c e (member_slice place n) super_sector logs
    (unwritten_same xs (reading a) c (member_slice place n) super_sector (super_free shape n x from xs write.row (member_slice place n))) in
    let left : IsLeft a (replayed a.sectors e) = (e, picks, λ d t. refl) in
    let old = begins.holds.says (replayed a.sectors e) left in
    let shape_is = shape_at s (replayed a.sectors c) (replayed a.sectors e) n same ∙ old.shape_is in
    let truth : (t : Super) → truth_in s (replayed a.sectors c) n ≡ Some t → truth_in s (replayed a.sectors e) n ≡ Some t =
    λ t is. sym (truth_at s (replayed a.sectors c) (replayed a.sectors e) n same) ∙ is in (
      record {
        shape_is = shape_is;
        value = mixed_value s v vals spent a b x from xs lasting stays begins write c inside mix;
        is_sound = λ t is.
            sound_with s (replayed a.sectors c) (replayed a.sectors e) n t same
            (λ f at.
            subst (λ (g : Shape). AreEven g n (first_unsynced t) (replayed a.sectors c)) (ap (λ o. unwrap_or o f) (sym shape_is ∙ at))
            (begins.agree (replayed a.sectors e) left t (truth t is) (replayed a.sectors c)))
            (old.is_sound t (truth t is));
      },
      λ marked t is. begins.mark marked (replayed a.sectors e) left t (truth t is),
    )

-- ---- after it

-- contents after the write are a mix too
left_mix : (a b : RackView) (xs : List Target) (went_now : ℕ → Bool) → Puts a b xs went_now → (c : Image) → Picks b c → IsMix a b (IsPayload xs) c
left_mix a b xs went_now puts c picks d t live = puts.only.within d t (c d t) live (picks.picks d t (live_after puts.only.stays live))

-- whoever is left has what was written, or what it had
left_current : (a b : RackView) (xs : List Target) (went_now : ℕ → Bool) → Puts a b xs went_now
    → (d t : ℕ) → IsLive a b d t → went_now d ≡ false → current_in b.held d t ≡ written xs (current_in a.held) d t
left_current a b xs went_now puts d t live here =
    let Goal : Option (List ℕ) → Type 0 = λ o. look xs d t ≡ o → current_in b.held d t ≡ unwrap_or o (current_in a.held d t) in
    let goal : Goal (look xs d t) =
    elim (look xs d t) as Goal [
      | Some u ↦ λ is. puts.last d t u live here is
      | None ↦ λ is. (puts.only.others d t live (payload_none xs d t is)).current
    ] in
    goal refl

written_sized : (a : RackView) (shape : Shape) (n x : ℕ) (from : List ℕ) (xs : List Target) → IsRow shape n x from xs
    → (d t : ℕ) → length (a.held d t).current ≡ 512 → length (written xs (current_in a.held) d t) ≡ 512
written_sized a shape n x from xs row d t sized =
    let Goal : Option (List ℕ) → Type 0 = λ o. look xs d t ≡ o → length (unwrap_or o (current_in a.held d t)) ≡ 512 in
    let goal : Goal (look xs d t) =
    elim (look xs d t) as Goal [ None ↦ λ is. sized | Some u ↦ λ is. row.sized d t u (look_payload xs d t u is) ] in
    goal refl

-- with all targets written, the array's sectors have the values after the write
written_value : (s : State) (v : View) (vals : ℕ → Values) (spent : ℕ → Bool) (a b : RackView) (x : ℕ) (from : List ℕ) (xs : List Target)
    → Begins s v vals spent a → Write s v vals spent a b x from xs
    → (y : ℕ) → spent y ≡ false
    → value_by (shape_of v) (written xs (current_in a.held)) v.number y ≡ (appended_at x from vals y).current
unfolding value_by
written_value s v vals spent a b x from xs begins write y alive =
    let n = v.number in
    let shape = shape_of v in
    let at = write.sources y alive in
    let m = at.0 in
    let d = member_slice m.place n in
    let t = data_sector + sector_at shape y in
    let by : (c : Image) → value_by shape c n y ≡ c d t =
    λ c. (source_value (layout_at shape y) c n (sector_at shape y) (position_in (layout_at shape y) y) shape.members m at.1).1 in
    let Goal : Option (List ℕ) → Type 0 = λ o. look xs d t ≡ o → unwrap_or o (current_in a.held d t) ≡ (appended_at x from vals y).current in
    let goal : Goal (look xs d t) =
    elim (look xs d t) as Goal [
      | Some u ↦ λ is.
          let alone = write.row.alone y m u at.1 (look_payload xs d t u is) in
          new_value (y == x) (eq-eqb y x alone.0) (vals y) u alone.1
      | None ↦ λ is.
          old_value (y == x) (vals y) (current_in a.held d t)
          (λ same. let is_x = eqb-true y x same in none_some (sym is ∙ at_x is_x at.1)) (sym (by (current_in a.held)) ∙ begins.holds.current y alive)
    ] in
    by (written xs (current_in a.held)) ∙ goal refl
  where
    none_some : {u : List ℕ} → None ≡ Some u → ⊥
    none_some is = cc

    at_x : {m : Member} → y ≡ x → source_at (shape_of v) y ≡ Some m → look xs (member_slice m.place v.number) (data_sector + sector_at (shape_of v) y) ≡ Some from
    at_x {m} same is =
        let At : ℕ → Type 0 = λ z. source_at (shape_of v) z ≡ Some m → look xs (member_slice m.place v.number) (data_sector + sector_at (shape_of v) z) ≡ Some from in
        let at : At x = write.row.change m in
        (subst At (sym same) at) is

    new_value : (b : Bool) → b ≡ true → (h : Values) (u : List ℕ) → u ≡ from → u ≡ (if b then append h from else h).current
    new_value true is h u same = same
    new_value false is h u same = absurd (both_ways false refl is)

    old_value : (b : Bool) (h : Values) (u : List ℕ) → (b ≡ true → ⊥) → u ≡ h.current → u ≡ (if b then append h from else h).current
    old_value true h u other same = absurd (other refl)
    old_value false h u other same = same

same_given : (shape : Shape) (n y : ℕ) (lost : ℕ → Bool) (b : RackView) (f : Image)
    → ((m : Member) (sector : ℕ) → Among m (lowered lost shape).members → sector < m.reach → current_in b.held (member_slice m.place n) (data_sector + sector) ≡ f (member_slice m.place n) (data_sector + sector))
    → value_by (lowered lost shape) (current_in b.held) n y ≡ value_by (lowered lost shape) f n y
unfolding value_by
same_given shape n y lost b f kept =
    ap (λ stripe. given (layout_at shape y) stripe (position_in (layout_at shape y) y))
    (columns_same (current_in b.held) f n (sector_at shape y) (take (width (layout_at shape y)) (map (lower lost) shape.members))
    (λ m among counts. kept m (sector_at shape y) (among_take (width (layout_at shape y)) (map (lower lost) shape.members) m among) counts))

-- what the array holds after it
written_holds : (s : State) (v w : View) (vals : ℕ → Values) (spent : ℕ → Bool) (a b : RackView) (x : ℕ) (from : List ℕ) (xs : List Target)
    (went_now lost : ℕ → Bool)
    → a.lasting → Puts a b xs went_now → Begins s v vals spent a → Write s v vals spent a b x from xs
    → IsLaidOut (shape_of v) v.resync
    → ((m : Member) → Among m (shape_of v).members → lost m.place ≡ false → went_now (member_slice m.place v.number) ≡ false)
    → ((y : ℕ) → spent y ≡ false → spent_by (lowered lost (shape_of v)) v.resync y ≡ false)
    → AreEven (shape_of v) v.number v.resync (written xs (current_in a.held))
    → ShapeInvariant s v.number (shape_of v) (lowered lost (shape_of v)) v.resync true (appended_at x from vals) spent b
written_holds s v w vals spent a b x from xs went_now lost lasting puts begins write is_array left unspent even =
    let n = v.number in
    let shape = shape_of v in
    let holds = begins.holds in
    let f : Image = written xs (current_in a.held) in
    let kept : (m : Member) (sector : ℕ) → Among m (lowered lost shape).members → sector < m.reach → current_in b.held (member_slice m.place n) (data_sector + sector) ≡ f (member_slice m.place n) (data_sector + sector) =
    λ m sector among counts.
    let of = among_lowered lost sector shape.members m among counts in
    left_current a b xs went_now puts (member_slice m.place n) (data_sector + sector)
    (live_on lasting puts.only.stays (holds.open_slices m sector of counts)) (left m of (among_kept lost sector shape.members m among counts)) in
    let sized : (m : Member) (sector : ℕ) → Among m shape.members → sector < m.reach → length (f (member_slice m.place n) (data_sector + sector)) ≡ 512 =
    λ m sector among counts. written_sized a shape n x from xs write.row (member_slice m.place n) (data_sector + sector) (holds.sized m sector among counts) in
    record {
      open_slices = open_after lasting puts.only.stays shape n holds.open_slices;
      open_left = λ m sector among counts. open_after lasting puts.only.stays shape n holds.open_slices m sector (among_lowered lost sector shape.members m among counts) counts;
      says = λ r left_b.
          subst (ImageShowsArray s n shape (appended_at x from vals) spent)
          (λ i d t. sym (left_b.2 d t ∙ ap (λ (sectors : ℕ → ℕ). replayed sectors left_b.0 d t) (λ j e. puts.only.stays.sectors e j)) i)
          (mixed_says s v vals spent a b x from xs lasting puts.only.stays begins write left_b.0 (inside_before puts.only.stays left_b.0 left_b.1.inside) (left_mix a b xs went_now puts left_b.0 left_b.1)).0;
      still = λ c picks m sector among counts.
          closed_after n lasting puts.only.stays (λ place t live. puts.only.others (log_slice place) t live (payload_none xs (log_slice place) t (log_free shape n x from xs write.few write.row place t))) begins.closed
          c (logs_of c picks) m.place (data_sector + sector);
      within = λ y alive u now keeps.
          let at = write.sources y alive in
          let m = at.0 in
          let found = source_counts shape y m at.1 in
          let d = member_slice m.place n in
          let t = data_sector + sector_at shape y in
          elim (puts.only.within d t u (live_on lasting puts.only.stays (holds.open_slices m (sector_at shape y) found.among found.counts)) (subst (λ h. MayLeave h u) (own_held shape n y b.held m at.1) now)) [
            | inl old ↦ old_may (y == x) (vals y) u (holds.within y alive u (subst (λ h. MayLeave h u) (sym (own_held shape n y a.held m at.1)) old) (λ o is. (source_counts shape y o is).among))
            | inr new ↦ let alone = write.row.alone y m u at.1 new in new_may (y == x) (eq-eqb y x alone.0) (vals y) u alone.1
          ];
      current = λ y alive.
          same_given shape n y lost b f kept
          ∙ lost_value lost shape n v.resync f y is_array even sized (unspent y alive)
          ∙ written_value s v vals spent a b x from xs begins write y alive;
      sized = λ m sector among counts.
          ap length (kept m sector among counts) ∙ sized m sector (among_lowered lost sector shape.members m among counts) counts;
      even = λ y inside synced count.
          subst (λ stripe. AgreeIn (layout_at shape y) (there stripe))
          (sym (columns_same (current_in b.held) f n (sector_at shape y) (take (width (layout_at shape y)) (map (lower lost) shape.members))
          (λ m among counts. kept m (sector_at shape y) (among_take (width (layout_at shape y)) (map (lower lost) shape.members) m among) counts)))
          (even_noted lost shape n v.resync f even y inside synced count);
      settled = λ unmarked. absurd (both_ways false refl (sym unmarked));
    }
  where
    old_may : (t : Bool) (h : Values) (u : List ℕ) → MayLeave h u → MayLeave (if t then append h from else h) u
    old_may true h u may = may_leave-append h from u may
    old_may false h u may = may

    new_may : (t : Bool) → t ≡ true → (h : Values) (u : List ℕ) → u ≡ from → MayLeave (if t then append h from else h) u
    new_may true is h u same = inl same
    new_may false is h u same = absurd (both_ways false refl is)

-- ---- the clause

-- A write to an array whose sectors may vary, and of which nothing is pending: whoever goes in it, at each moment and after it each
-- sector holds what it held, and the written one the value too. Each sector that isn't spent has a source, and no row must agree in
-- images. All that a layout owes is that the row agrees once all targets are written.
pub write_acts : (a b : RackView) (went_now : ℕ → Bool) (s : State) (v w : View) (vals : ℕ → Values) (spent : ℕ → Bool) (lost : ℕ → Bool)
    (x : ℕ) (from : List ℕ) (xs : List Target)
    → a.lasting
    → Puts a b xs went_now
    → IsNoted v w a b
    → IsLosing v w lost
    → IsLaidOut (shape_of v) v.resync
    → ((y : ℕ) → spent y ≡ false → (m : Member) × (source_at (shape_of v) y ≡ Some m))
    → v.number < 16
    → may_vary w ≡ true → v.went ≡ []
    → (ArrayInvariant s (shape_of v) v vals spent a → (r : Image) → IsLeft a r → (t : Super) → truth_in s r v.number ≡ Some t → (c : Image)
    → AreEven (shape_of v) v.number (first_unsynced t) c)
    → ((y : ℕ) → spent y ≡ false → spent_in w y ≡ false)
    → ((m : Member) → Among m (shape_of v).members → lost m.place ≡ false → went_now (member_slice m.place v.number) ≡ false)
    → IsRow (shape_of v) v.number x from xs
    → (ShapeInvariant s v.number (shape_of v) (shape_of v) v.resync (may_vary v) vals spent a → AreEven (shape_of v) v.number v.resync (written xs (current_in a.held)))
    → ArrayCall s v w spent a b (shape_of v) vals (ImageShowsArray s v.number (shape_of v) (appended_at x from vals) spent) (shape_of v) (appended_at x from vals)
write_acts a b went_now s v w vals spent lost x from xs lasting puts noted losing is_array sources few vary fresh agree unspent left row even =
    let n = v.number in
    let shape = shape_of v in
    let begins_of : ArrayInvariant s shape v vals spent a → Begins s v vals spent a =
    λ holds. record { holds = holds.shape; agree = agree holds; mark = holds.mark; closed = holds.closed fresh } in
    let write : Write s v vals spent a b x from xs =
    record { few = few; row = row; sources = sources } in
    let logs : (place t : ℕ) → IsLive a b (log_slice place) t → Keeps (a.held (log_slice place) t) (b.held (log_slice place) t) =
    λ place t live. puts.only.others (log_slice place) t live (payload_none xs (log_slice place) t (log_free shape n x from xs few row place t)) in
    record {
      stays = puts.only.stays;
      noted = noted;
      leaves = λ traced.
          leaves_weaker (IsMix a b (IsPayload xs)) (λ c. IsInside a.sectors c → ImageInCall n a b (λ r. ArrayInvariant s shape v vals spent a → ImageShowsArray s n shape (appended_at x from vals) spent r) c)
          (λ c mix inside.
          let e : Image = unwritten xs (reading a) c in
          let picks = before_of a b xs c lasting puts.only.stays inside mix in
          let same : SameLogs c e = λ place u. unwritten_same xs (reading a) c (log_slice place) u (log_free shape n x from xs few row place u) in
          record {
            before = replayed a.sectors e;
            left = (e, picks, λ d t. refl);
            others = λ d t apart.
                replayed_same a.sectors c e d t same (unwritten_same xs (reading a) c d t (apart_free shape n x from xs few row d t apart));
            own = λ holds. (mixed_says s v vals spent a b x from xs lasting puts.only.stays (begins_of holds) write c inside mix).0;
            whole = whole_same c e same;
            calm = λ calm. calm_same n c e same (calm e (logs_of e picks));
            bounded = λ bounded. inside_same a.sectors c e same (bounded e (logs_of e picks));
          })
          (puts.only.stops traced);
      holds = λ holds.
          let begins = begins_of holds in
          let now = written_holds s v w vals spent a b x from xs went_now lost lasting puts begins write is_array left
          (λ y alive. unspent_then v w lost losing y (unspent y alive)) (even holds.shape) in
          record {
            shape =
                subst (λ k. ShapeInvariant s k shape (shape_of w) w.resync (may_vary w) (appended_at x from vals) spent b) (sym losing.number)
                (subst (λ r. ShapeInvariant s n shape (shape_of w) r (may_vary w) (appended_at x from vals) spent b) (sym losing.resync)
                (subst (λ (g : Shape). ShapeInvariant s n shape g v.resync (may_vary w) (appended_at x from vals) spent b) (sym losing.shape)
                (subst (λ t. ShapeInvariant s n shape (lowered lost shape) v.resync t (appended_at x from vals) spent b) (sym vary) now)));
            mark = λ is r left_b t truth.
                (mixed_says s v vals spent a b x from xs lasting puts.only.stays begins write left_b.0 (inside_before puts.only.stays left_b.0 left_b.1.inside) (left_mix a b xs went_now puts left_b.0 left_b.1)).1 (losing.marked is) t
                (subst (λ (g : Image). truth_in s g n ≡ Some t)
                (λ i d u. (left_b.2 d u ∙ ap (λ (sectors : ℕ → ℕ). replayed sectors left_b.0 d u) (λ j e. puts.only.stays.sectors e j)) i)
                (subst (λ k. truth_in s r k ≡ Some t) losing.number truth));
            truth = λ r left_b t truth.
                let old = mixed_supers a b shape n x from xs left_b.0 lasting puts.only.stays few row (inside_before puts.only.stays left_b.0 left_b.1.inside) (left_mix a b xs went_now puts left_b.0 left_b.1) in
                subst (IsEarlier t) (sym losing.truth)
                (holds.truth old.0 old.1 t
                (sym (truth_at s (replayed a.sectors left_b.0) old.0 n old.2)
                ∙ subst (λ (g : Image). truth_in s g n ≡ Some t)
                (λ i d u. (left_b.2 d u ∙ ap (λ (sectors : ℕ → ℕ). replayed sectors left_b.0 d u) (λ j e. puts.only.stays.sectors e j)) i)
                (subst (λ k. truth_in s r k ≡ Some t) losing.number truth)));
            alone = λ r left_b place current other.
                let old = mixed_supers a b shape n x from xs left_b.0 lasting puts.only.stays few row (inside_before puts.only.stays left_b.0 left_b.1.inside) (left_mix a b xs went_now puts left_b.0 left_b.1) in
                subst (λ k. super_in s r k place ≡ None) (sym losing.number)
                (super_of_sector s r old.0 n place
                (left_b.2 (member_slice place n) super_sector
                ∙ ap (λ (sectors : ℕ → ℕ). replayed sectors left_b.0 (member_slice place n) super_sector) (λ j e. puts.only.stays.sectors e j)
                ∙ old.2 place)
                ∙ holds.alone old.0 old.1 place current
                (λ k small at. other k (subst (λ (u : Super). k < u.raid_disks) (sym losing.truth) small)
                (ap (λ (u : Super). unwrap_or (place_with u.roles.items k) 16) losing.truth ∙ at)));
            closed = λ none.
                subst (λ k. NothingPending k b) (sym losing.number) (closed_after n lasting puts.only.stays logs begins.closed);
          };
      apart = λ d t live apart. puts.only.others d t live (payload_none xs d t (apart_free shape n x from xs few row d t apart));
      calm = λ calm c picks. calm c (logs_before lasting puts.only.stays logs c picks);
      bounded = bounded_after lasting puts.only.stays logs;
    }
