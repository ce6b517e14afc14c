-- Calls that write nothing make no change of the book, whoever goes in them.
use Rattle.array_image.specs.Places.{member_slice, data_sector}
use Rattle.array_model.proofs.Noting.{shape_noted, read_acts}
use Rattle.array_image.specs.Spent.{spent_by}
use Rattle.array_image.specs.Held.{IsSynced}
use Rattle.std.proofs.Common.{◌≡◌, ℕ, ◌<◌, Bool, true, false, refl, sym, ap, subst, ◌∙◌, inl, inr, arith, ◌&&◌, ◌+◌, []}
use Rattle.rack.specs.Values.{Values}
use Rattle.pool_state.specs.declared.contents.State.{State}
use Rattle.rack.specs.Seen.{IsPick, RackView}
use Rattle.rack.specs.Joins.{leaves_weaker}
use Rattle.rack.specs.Sequences.{OnlyReads}
use Rattle.array_image.specs.Arrays.{replayed, Shape}
use Rattle.array_image.specs.Left.{NothingPending, IsInside}
use Rattle.array_image.specs.SoundArray.{first_unsynced}
use Rattle.array_image.specs.States.{is_current}
use Rattle.log_laws.specs.Kept.{LogInvariant}
use Rattle.log_laws.proofs.HeldCopies.{holds_keeps}
use Rattle.log_laws.proofs.KeptAfter.{kept_keeps, kept_more}
use Rattle.md_super.specs.declared.superblock.Super.{Super}
use Rattle.array_model.specs.ArrayCalls.{IncludesSpent}
use Rattle.array_model.specs.Members.{IsSameButSeats, Notes}
use Rattle.array_model.specs.Says.{ArrayInvariant, IsEarlier, IsOpen}
use Rattle.array_model.specs.View.{may_vary, shape_of, spent_in, View, IsArray}
use Rattle.raid_laws.specs.Frames.{frame_of}
use Rattle.array_model.proofs.Keeping.{keeping_calls, left_before, pick_before, settled_kept}
use Rattle.transition_laws.specs.Holds.{has_sector, HoldsBook, IsFrom, IsPromised, IsSameArrayAs, is_sector, moved_to, Promise, RestsArrays, spent_at, Stands, StandsArray, HoldsMembers, view_for, rows_for}
use Rattle.transition_laws.specs.Makes.{Makes, Suits}
use Rattle.raid_laws.specs.Moves.{AreMarked}
use Rattle.raid_laws.specs.Raid.{gone_in, is_failed, IsWritten, Raid}
use Rattle.raid_laws.proofs.Noted.{live_later}
use Rattle.transition_laws.proofs.Shown.{spent_other, stands_book}
use Rattle.transition_laws.proofs.ArraysFor.{array_for, covers_for, IsLaid, laid_of, members_for, notes_for, same_rows, settled_members, single_lowered, whole_for}
use Rattle.transition_laws.proofs.Standing.{earlier_then, holds_grown, holds_of}
use Rattle.std.proofs.lemmas.Bool.{cases_eq, cases_Bool, and_parts}
use Rattle.raid_laws.proofs.Since.{each_read}
use Rattle.log_laws.proofs.Kept.{live_on}

-- the run afterwards: places may have gone, and arrays are as it has noted them
pub record Reads (d v w : Raid) (vals : ℕ → ℕ → Values) (a b : RackView) : Type 0 where
  pub lasting : a.lasting
  pub reads : OnlyReads a b
  pub state : w.state ≡ v.state
  pub kept : (p : Promise) → IsPromised p w → Stands d v p vals a → LogInvariant d.state w.number (gone_in w) b
  pub back : (p : Promise) → Suits p [] d → IsPromised p w → IsPromised p v
  pub someone : (n : ℕ) → is_failed w n ≡ false → (q : ℕ) × (is_current d.state q ≡ true) × (gone_in w q ≡ false)
  pub arrays : (p : Promise) → IsPromised p w → Stands d v p vals a → (n : ℕ) → p.live n ≡ true → n < d.state.made → StandsArray (d.arrays n) (w.arrays n) n (vals n) p b
  pub alike : (p : Promise) → IsPromised p w → Stands d v p vals a → AreMarked w → (n : ℕ) → p.live n ≡ true → n < d.state.made → IsSameArrayAs (d.arrays n) (w.arrays n)

pub read_makes : (d v w : Raid) (vals : ℕ → ℕ → Values) (a b : RackView) → Reads d v w vals a b → Makes [] d v w vals vals a b
read_makes d v w vals a b call =
    let stays = call.reads.stays in
    let keeps = call.reads.keeps in
    record {
      due = tt;
      stays = stays;
      back = call.back;
      grows = λ n y u may. may;
      stops = λ p suits promised stands traced.
          leaves_weaker (IsPick a b a.held) (λ c. IsInside a.sectors c → HoldsBook d p vals a.sectors c)
          (λ c pick inside. stands_book d v p vals a stands c (pick_before call.lasting stays c inside pick)) (keeps.stops traced);
      after = λ p suits promised stands. record {
        few = stands.few;
        one = stands.one;
        log = call.kept p promised stands;
        someone = call.someone p.one (promised.goes p.one promised.is_one (subst (λ (s : State). p.one < s.made) (sym (call.state ∙ stands.same)) stands.one));
        copies = holds_keeps d.state a b call.lasting stays keeps stands.copies;
        since = (each_read (IsFrom p.origin) a b call.lasting stays keeps stands.log.logs stands.since).holds;
        same = call.state ∙ stands.same;
        images = λ c picks.
            let before = left_before call.lasting stays (λ e t live. keeps.held e t live) (replayed b.sectors c) (c, picks, λ e t. refl) in
            subst (RestsArrays d p vals) (λ i e t. sym (before.2 e t) i) (stands.images before.0 before.1);
        arrays = call.arrays p promised stands;
        alike = call.alike p promised stands;
        slices = live_later d.state.made a b stays call.lasting stands.slices;
      };
    }

-- the log is kept by them where its number stays
pub read_log : (d v w : Raid) (a b : RackView) → a.lasting → OnlyReads a b → w.number ≡ v.number → ((q : ℕ) → gone_in v q ≡ true → gone_in w q ≡ true)
    → LogInvariant d.state v.number (gone_in v) a → LogInvariant d.state w.number (gone_in w) b
read_log d v w a b lasting reads number gone log =
    subst (λ k. LogInvariant d.state k (gone_in w) b) (sym number)
    (kept_more d.state v.number (gone_in v) (gone_in w) b gone (kept_keeps d.state v.number (gone_in v) a b lasting reads.stays reads.keeps log))

-- ---- a call of one array

-- What such a call leaves of an array but for its seats and the places that went: its truth may get events, and other rows that it leaves.
pub record KeepsArray (u w : View) : Type 0 where
  pub number : w.number ≡ u.number
  pub truth : IsEarlier u.truth w.truth
  pub frame : frame_of w.truth ≡ frame_of u.truth
  pub roles : w.truth.roles.items ≡ u.truth.roles.items
  pub disks : w.truth.raid_disks ≡ u.truth.raid_disks
  pub resync : w.resync ≡ u.resync
  pub young : w.young ≡ u.young
  pub mark : w.marked ≡ true → u.marked ≡ true
  pub sectors : (y : ℕ) → has_sector w y ≡ has_sector u y

-- so it does where its truth stays
pub keeps_noted : (u w : View) → IsSameButSeats u w → KeepsArray u w
keeps_noted u w same = record {
  number = same.number;
  truth = subst (IsEarlier u.truth) (sym same.truth) (record { fields = refl; events = omega arith });
  frame = ap frame_of same.truth;
  roles = ap (λ (t : Super). t.roles.items) same.truth;
  disks = ap (λ (t : Super). t.raid_disks) same.truth;
  resync = same.resync;
  young = same.young;
  mark = λ marked. sym same.marked ∙ marked;
  sectors = λ y i. is_sector (frame_of (same.truth i)) (moved_to (same.truth i)) (same.young i) (first_unsynced (same.truth i)) y;
}

-- A call of array m that writes nothing: whoever goes is noted, and what it holds stays.
pub record ReadsOne (m : ℕ) (d v w : Raid) (vals : ℕ → ℕ → Values) (a b : RackView) : Type 0 where
  pub lasting : a.lasting
  pub reads : OnlyReads a b
  pub state : w.state ≡ v.state
  pub others : (n : ℕ) → (n ≡ m → ⊥) → w.arrays n ≡ v.arrays n
  pub noted : KeepsArray (v.arrays m) (w.arrays m)
  pub written : IsWritten (v.arrays m) → IsWritten (w.arrays m)
  pub shape : AreMarked w → AreMarked v × (shape_of (w.arrays m) ≡ shape_of (v.arrays m))
  pub kept : (p : Promise) → IsPromised p w → Stands d v p vals a → LogInvariant d.state w.number (gone_in w) b
  -- an array that isn't young
  pub holds :
      (p : Promise) → IsPromised p w → Stands d v p vals a → (spent : ℕ → Bool) → IncludesSpent (w.arrays m) spent
      → ArrayInvariant d.state (shape_of (d.arrays m)) (v.arrays m) (vals m) spent a → ArrayInvariant d.state (shape_of (d.arrays m)) (w.arrays m) (vals m) spent b
  -- and a young one: whoever went is noted, and its superblocks may be another truth's that leaves the same rows
  pub is_array : IsArray (v.arrays m)
  pub synced : View
  pub notes : Notes (v.arrays m) synced a b
  pub same_shape : shape_of (w.arrays m) ≡ shape_of synced
  pub same_went : (w.arrays m).went ≡ synced.went
  pub same_zeroed : synced.young ≡ true → first_unsynced (w.arrays m).truth ≡ first_unsynced synced.truth
  pub goes : (n : ℕ) → n < v.state.made → is_failed w n ≡ false → is_failed v n ≡ false
  pub someone : (n : ℕ) → is_failed w n ≡ false → (q : ℕ) × (is_current d.state q ≡ true) × (gone_in w q ≡ false)
  -- what was spent stays so
  pub spares : (y : ℕ) → spent_in (w.arrays m) y ≡ false → spent_in (v.arrays m) y ≡ false

module _ (m : ℕ) (d v w : Raid) (vals : ℕ → ℕ → Values) (a b : RackView) (call : ReadsOne m d v w vals a b) where
  -- by cases on the array
  each : (X : ℕ → View → Type 0) → X m (w.arrays m) → (n : ℕ) → ((n ≡ m → ⊥) → X n (v.arrays n)) → X n (w.arrays n)
  each X own n other = elim (cases_eq n m) [
    | inl same ↦ subst (λ k. X k (w.arrays k)) (sym same) own
    | inr apart ↦ subst (X n) (sym (call.others n apart)) (other apart)
  ]

  own_sectors : (y : ℕ) → has_sector (w.arrays m) y ≡ has_sector (v.arrays m) y
  own_sectors y = call.noted.sectors y

  module _ (p : Promise) (promised : IsPromised p w) where
    low_in : (n : ℕ) → n < v.state.made → n < w.state.made
    low_in n low = subst (λ (s : State). n < s.made) (sym call.state) low

    back : IsPromised p v
    back = record {
      is_one = promised.is_one;
      goes = λ n live low. call.goes n low (promised.goes n live (low_in n low));
      covers = λ n live low. elim (cases_eq n m) [
        | inl same ↦ subst (λ k. IncludesSpent (v.arrays k) (spent_at p k (v.arrays k))) (sym same) (λ y alive.
            call.spares y
            (promised.covers m (subst (λ k. p.live k ≡ true) same live) (low_in m (subst (λ k. k < v.state.made) same low)) y
            (spent_other p m (w.arrays m) (v.arrays m) own_sectors y ∙ alive)))
        | inr apart ↦ subst (λ (u : View). IncludesSpent u (spent_at p n u)) (call.others n apart) (promised.covers n live (low_in n low))
      ];
    }

    module _ (stands : Stands d v p vals a) where
      low_after : (n : ℕ) → n < d.state.made → n < w.state.made
      low_after n low = subst (λ (s : State). n < s.made) (sym (call.state ∙ stands.same)) low

      -- no value comes to members' sectors
      single_read : (n : ℕ) (shape : Shape) → IsOpen shape n a → IsSynced shape n a.held → IsSynced shape n b.held
      single_read n shape is_open single =
          settled_kept a.held b.held shape n
          (λ k sector among counts. call.reads.keeps.held (member_slice k.place n) (data_sector + sector) (live_on call.lasting call.reads.stays (is_open k sector among counts))) single

      module _ (live : p.live m ≡ true) (low : m < d.state.made) where
        abbrev durable : Shape
        durable = shape_of (d.arrays m)

        abbrev spent : ℕ → Bool
        spent = spent_at p m (d.arrays m)

        own_number : (w.arrays m).number ≡ m
        own_number = call.noted.number ∙ (stands.arrays m live low).number

        book_sectors : (y : ℕ) → has_sector (w.arrays m) y ≡ has_sector (d.arrays m) y
        book_sectors y = own_sectors y ∙ (stands.arrays m live low).sectors y

        covers : IncludesSpent (w.arrays m) spent
        covers y alive = promised.covers m live (low_after m low) y (spent_other p m (w.arrays m) (d.arrays m) book_sectors y ∙ alive)

        own_single : (p.growing && (v.arrays m).young) ≡ true → IsSynced (shape_of (w.arrays m)) m b.held
        own_single young =
            let at = stands.arrays m live low in
            subst (λ (sh : Shape). IsSynced sh m b.held) (sym (call.same_shape ∙ shape_noted (v.arrays m) call.synced a b call.notes))
            (single_lowered call.notes.lost (shape_of (v.arrays m)) m b.held (single_read m (shape_of (v.arrays m)) at.members.open_left (at.single young)))

        -- of a young array that its sectors alone are promised of
        young_holds : (p.growing && (v.arrays m).young) ≡ true → ArrayInvariant d.state durable (view_for p call.synced) (vals m) spent b
        young_holds young =
            let notes = call.notes in
            let zeroed = call.same_zeroed (notes.same.young ∙ (and_parts p.growing (v.arrays m).young young).1) in
            let alike : (y : ℕ) → spent y ≡ false → spent_at p m call.synced y ≡ false =
            λ y alive.
            spent_other p m call.synced (v.arrays m) (λ z. (keeps_noted (v.arrays m) call.synced notes.same).sectors z) y
            ∙ spent_other p m (v.arrays m) (d.arrays m) (stands.arrays m live low).sectors y ∙ alive in
            let own : IncludesSpent call.synced spent =
            λ y alive.
            ap (λ (r : ℕ). spent_by (shape_of call.synced) r y) (notes.same.resync ∙ sym call.noted.resync)
            ∙ subst (λ (sh : Shape). spent_by sh (w.arrays m).resync y ≡ false) call.same_shape (covers y alive) in
            (read_acts a b (view_for p (v.arrays m)) (view_for p call.synced) call.lasting call.reads (array_for p (v.arrays m) call.is_array) (notes_for p (v.arrays m) call.synced a b notes)
            d.state durable (vals m) spent
            (covers_for p m call.synced spent (subst IsLaid (sym notes.same.truth) (laid_of (v.arrays m) call.is_array)) alike own)).holds
            (holds_of d v p vals a stands m live low)

        own_members : HoldsMembers m durable (shape_of (w.arrays m)) (rows_for p (w.arrays m)) (may_vary (w.arrays m)) (vals m) spent b
        own_members = elim (cases_Bool (p.growing && (v.arrays m).young)) [
          | inr old ↦
              members_for d.state durable p (w.arrays m) m (vals m) spent b own_number
              (subst (λ u. ArrayInvariant d.state durable u (vals m) spent b) (sym (whole_for p (w.arrays m) (ap (λ y. p.growing && y) call.noted.young ∙ old)))
              (call.holds p promised stands spent covers (holds_grown d v p vals a stands m live low old)))
          | inl young ↦
              let z = call.synced in
              let held = members_for d.state durable p z m (vals m) spent b (call.notes.same.number ∙ (stands.arrays m live low).number) (young_holds young) in
              let both = and_parts p.growing (v.arrays m).young young in
              let rows : rows_for p (w.arrays m) ≡ rows_for p z =
              same_rows p z (w.arrays m) (call.same_zeroed (call.notes.same.young ∙ both.1)) (call.noted.resync ∙ sym call.notes.same.resync) (call.noted.young ∙ sym call.notes.same.young) in
              subst (λ (r : ℕ). HoldsMembers m durable (shape_of (w.arrays m)) r (may_vary (w.arrays m)) (vals m) spent b) (sym rows)
              (settled_members m durable (shape_of (w.arrays m)) (rows_for p z) (may_vary z) (may_vary (w.arrays m)) (vals m) spent b (own_single young)
              (subst (λ (sh : Shape). HoldsMembers m durable sh (rows_for p z) (may_vary z) (vals m) spent b) (sym call.same_shape) held))
        ]

        own_closed : (w.arrays m).went ≡ [] → NothingPending m b
        own_closed none = elim (cases_Bool (p.growing && (v.arrays m).young)) [
          | inr old ↦ subst (λ k. NothingPending k b) own_number ((call.holds p promised stands spent covers (holds_grown d v p vals a stands m live low old)).closed none)
          | inl young ↦ subst (λ k. NothingPending k b) (call.notes.same.number ∙ (stands.arrays m live low).number) ((young_holds young).closed (sym call.same_went ∙ none))
        ]

      own_array : p.live m ≡ true → m < d.state.made → StandsArray (d.arrays m) (w.arrays m) m (vals m) p b
      own_array live low =
          let at = stands.arrays m live low in
          record {
            number = own_number live low;
            book_number = at.book_number;
            few = at.few;
            written = call.written at.written;
            members = own_members live low;
            single = λ young. own_single live low (ap (λ y. p.growing && y) (sym call.noted.young) ∙ young);
            closed = own_closed live low;
            truth = earlier_then (d.arrays m).truth (v.arrays m).truth (w.arrays m).truth at.truth call.noted.truth;
            mark = λ marked. at.mark (call.noted.mark marked);
            roles = call.noted.roles ∙ at.roles;
            disks = call.noted.disks ∙ at.disks;
            sectors = book_sectors live low;
          }

      other_array : (n : ℕ) → p.live n ≡ true → n < d.state.made → StandsArray (d.arrays n) (v.arrays n) n (vals n) p b
      other_array n live low =
          let at = stands.arrays n live low in
          let after =
          (keeping_calls a b call.lasting call.reads.stays call.reads.keeps d.state (shape_of (d.arrays n)) (view_for p (v.arrays n)) (vals n) (spent_at p n (d.arrays n))).holds
          (holds_of d v p vals a stands n live low) in
          record {
            number = at.number;
            book_number = at.book_number;
            few = at.few;
            written = at.written;
            members = members_for d.state (shape_of (d.arrays n)) p (v.arrays n) n (vals n) (spent_at p n (d.arrays n)) b at.number after;
            single = λ young. single_read n (shape_of (v.arrays n)) at.members.open_left (at.single young);
            closed = λ none. subst (λ k. NothingPending k b) at.number (after.closed none);
            truth = at.truth;
            mark = at.mark;
            roles = at.roles;
            disks = at.disks;
            sectors = at.sectors;
          }

      arrays : (n : ℕ) → p.live n ≡ true → n < d.state.made → StandsArray (d.arrays n) (w.arrays n) n (vals n) p b
      arrays n live low =
          each (λ k z. p.live k ≡ true → k < d.state.made → StandsArray (d.arrays k) z k (vals k) p b) own_array n
          (λ apart live low. other_array n live low) live low

      alike : AreMarked w → (n : ℕ) → p.live n ≡ true → n < d.state.made → IsSameArrayAs (d.arrays n) (w.arrays n)
      alike marked n live low =
          let both = call.shape marked in
          each (λ k z. p.live k ≡ true → k < d.state.made → IsSameArrayAs (d.arrays k) z)
          (λ live low.
          let one = stands.alike both.0 m live low in
          record {
            shape = both.1 ∙ one.shape;
            frame = call.noted.frame ∙ one.frame;
            resync = call.noted.resync ∙ one.resync;
            young = call.noted.young ∙ one.young;
          })
          n (λ apart live low. stands.alike both.0 n live low) live low

  pub read_one_makes : Makes [] d v w vals vals a b
  read_one_makes =
      read_makes d v w vals a b
      (record {
        lasting = call.lasting;
        reads = call.reads;
        state = call.state;
        kept = call.kept;
        back = λ p suits promised. back p promised;
        someone = call.someone;
        arrays = arrays;
        alike = alike;
      })
