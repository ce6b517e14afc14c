-- A call of one array, and what is known of all of them after it.
use Rattle.std.proofs.Common.{◌≡◌, ℕ, ◌+◌, ◌-◌, ◌<◌, ◌≤◌, Bool, true, false, ◌||◌, not, if◌then◌else◌, List, [], ◌∷◌, map, ◌⊎◌, refl, sym, ap, subst, ◌∙◌, inl, inr, arith}
use Rattle.std.proofs.lemmas.Bool.{cases_Bool, cases_eq, both_ways, and_parts, and_from}
use Rattle.rack.specs.Values.{Values}
use Rattle.rack.specs.Seen.{RackView, SameRack}
use Rattle.rack.specs.Moments.{Leaves}
use Rattle.pool_state.specs.declared.contents.State.{State}
use Rattle.array_image.specs.Places.{log_slice, data_sector}
use Rattle.array_image.specs.States.{is_current}
use Rattle.array_image.specs.Arrays.{Member, Shape}
use Rattle.array_image.specs.Held.{Among}
use Rattle.array_image.specs.Marks.{lower, lowered}
use Rattle.array_model.specs.View.{View, HasFault, has_gone, is_whole_array, present, sectors_of, shape_of, spent_in}
use Rattle.array_model.specs.Members.{slice_on}
use Rattle.raid_laws.specs.Raid.{Raid, AreLive, gone_in, is_left, IsWritten}
use Rattle.raid_laws.specs.Marking.{Part}
use Rattle.raid_laws.specs.Reach.{KeepsReachOn}
use Rattle.raid_laws.specs.Moves.{IsTrackedInCall, IsSet, IsSeated, IsMarkedWhole, AreMarked, KeepsArrays, OnlyFailures, SubCall}
use Rattle.raid_laws.specs.Losing.{only_same}
use Rattle.raid_laws.proofs.Over.{IsFurther, not_true}
use Rattle.raid_laws.proofs.Noted.{with_arrays, live_later, current_few, gone_some, gone_from}

-- ---- one array

-- calls elsewhere leave it one of the pool
pub seated_still : (s : State) (n : ℕ) (u : View) (x y : RackView) → SameRack x y → IsSeated s n u x → IsSeated s n u y
seated_still s n u x y stays seated =
    record {
      is_array = seated.is_array;
      number = seated.number;
      slices = record {
        fit = stays.fit;
        lasting = stays.lasting seated.slices.lasting;
        disks = λ k low there. subst (λ m. slice_on u k < m) (sym stays.disks) (seated.slices.disks k low there);
        sectors = λ k low there. subst (λ m. data_sector + u.truth.size ≤ m) (sym (stays.sectors (slice_on u k))) (seated.slices.sectors k low there);
      };
      marks = seated.marks;
      is_of_pool = seated.is_of_pool;
    }

-- nobody is lost
pub lowered_none : (shape : Shape) → lowered (λ p. false) shape ≡ shape
lowered_none shape = ap (λ (ms : List Member). record shape { members = ms }) (none shape.members)
  where
    none : (ms : List Member) → map (lower (λ p. false)) ms ≡ ms
    none [] = refl
    none (m ∷ ms) = ap (λ (rest : List Member). m ∷ rest) (none ms)

-- ---- a call of array m

-- the arrays after it, with the log's number
abbrev pub called : Raid → (ℕ → View) → ℕ → Raid
called v f number = record v { arrays = f; number = number }

-- what is known of them: no other array has changed, and places went in array m, each with its cause
pub record ViewsOne (v : Raid) (f : ℕ → View) (m : ℕ) (a b : RackView) : Type 0 where
  pub low : m < v.state.made
  pub stays : SameRack a b
  pub others : (n : ℕ) → (n ≡ m → ⊥) → f n ≡ v.arrays n
  pub seated : IsSeated v.state m (f m) b
  pub lost : ℕ → Bool
  pub went : (place : ℕ) → has_gone (f m) place ≡ (lost place || has_gone (v.arrays m) place)
  pub cause : (place : ℕ) → lost place ≡ true → HasFault a b place
  pub spent : (y : ℕ) → spent_in (f m) y ≡ false → spent_in (v.arrays m) y ≡ false
  pub sectors : sectors_of (f m) ≡ sectors_of (v.arrays m)
  pub written : IsWritten (v.arrays m) → IsWritten (f m)
  pub events : (v.arrays m).truth.events ≤ (f m).truth.events
  pub seats : present (f m).seats ≤ present (v.arrays m).seats
  -- it is marked only where it was, or where it was whole
  pub was : (f m).marked ≡ true → ((v.arrays m).marked ≡ true) ⊎ (is_whole_array (v.arrays m) ≡ true)
  pub whole :
      is_whole_array (v.arrays m) ≡ true
      → (is_whole_array (f m) ≡ true) ⊎ ((p : ℕ) × (is_current v.state p ≡ true) × (lost p ≡ true))

-- Of array m nothing has changed but whom it lost: so its shape is that by the marks that images go by, where whoever went is marked.
pub record LosesOne (v : Raid) (f : ℕ → View) (m : ℕ) : Type 0 where
  pub only : OnlyFailures (v.arrays m) (f m)
  pub counted : (k : Member) (sector : ℕ) → Among k (shape_of (f m)).members → sector < k.reach → Among k (shape_of (v.arrays m)).members
  pub shape : AreMarked (with_arrays v f) → shape_of (v.arrays m) ≡ shape_of (f m)

-- A part that an array is owed which stands by this shape.
pub record PartAmid (v w : Raid) (a b : RackView) (n : ℕ) (vals now : ℕ → Values) (spent : ℕ → Bool) (durable : Shape) : Type 0 where
  pub after : Shape
  pub part : Part v.state w.state durable after vals now spent (gone_in v) (gone_in w) v w a b n
  pub marked : AreMarked w → after ≡ shape_of (w.arrays n)
  pub noted : KeepsReachOn (is_left w) after (shape_of (w.arrays n))

-- a part that an array which stands is owed: the array has then the shape by the marks that images go by
pub part_if : (v w : Raid) (a b : RackView) (n : ℕ) (vals now : ℕ → Values) (spent : ℕ → Bool)
    → SameRack a b → a.lasting → (a.traced → Leaves a b (λ c. Unit {0}))
    → ((amid : IsTrackedInCall v a n vals spent) → PartAmid v w a b n vals now spent amid.durable)
    → SubCall v w a b n vals now spent
part_if v w a b n vals now spent stays lasting leaves part =
    record {
      holds = λ amid. record {
        durable = (part amid).after;
        stood = (part amid).part.holds amid.stood;
        slices = subst (λ k. AreLive k b) (sym (part amid).part.book.same.made) (live_later v.state.made a b stays lasting amid.slices);
        marked = (part amid).marked;
        noted = (part amid).noted;
      };
      leaves = λ traced.
          let all = leaves traced in
          record {
            later = all.later;
            kept = all.kept;
            past = all.past;
            new = λ k c after until stopped inside amid. ((part amid).part.leaves traced).new k c after until stopped inside amid.stood;
          };
      reach = λ amid. (part amid).part.reach;
      logs = λ copies amid. (part amid).part.logs copies amid.stood;
      frame = λ g before amid. (part amid).part.frame g before amid.stood;
    }

pub or_left : (b c : Bool) → b ≡ true → (b || c) ≡ true
or_left true c is = refl
or_left false c is = absurd (both_ways false refl is)

or_right : (b c : Bool) → c ≡ true → (b || c) ≡ true
or_right true c is = refl
or_right false c is = is

or_of : (b c : Bool) → (b || c) ≡ true → c ≡ false → b ≡ true
or_of true c e none = refl
or_of false c e none = absurd (both_ways c none e)

by_number : (X : ℕ → Type 0) (m n : ℕ) → X m → ((n ≡ m → ⊥) → X n) → X n
by_number X m n own other = elim (cases_eq n m) [
  | inl same ↦ subst X (sym same) own
  | inr apart ↦ other apart
]

module _ (v : Raid) (f : ℕ → View) (m : ℕ) (a b : RackView) (set : IsSet v a) (call : ViewsOne v f m a b) where
  pub more_gone : (p : ℕ) → gone_in v p ≡ true → gone_in (with_arrays v f) p ≡ true
  more_gone p is =
      let at = gone_some v p is in
      let n = at.1.0 in
      gone_from (with_arrays v f) p n at.0 at.1.1
      (elim (cases_eq n m) [
        | inl same ↦
            ap (λ k. has_gone (f k) p) same ∙ call.went p
            ∙ or_right (call.lost p) (has_gone (v.arrays m) p) (subst (λ k. has_gone (v.arrays k) p ≡ true) same at.1.2)
        | inr apart ↦ ap (λ (u : View). has_gone u p) (call.others n apart) ∙ at.1.2
      ])

  pub new_gone : (p : ℕ) → gone_in v p ≡ false → gone_in (with_arrays v f) p ≡ true → call.lost p ≡ true
  new_gone p not is =
      let at = gone_some (with_arrays v f) p is in
      let n = at.1.0 in
      elim (cases_eq n m) [
        | inl same ↦
            or_of (call.lost p) (has_gone (v.arrays m) p)
            (sym (call.went p) ∙ subst (λ k. has_gone (f k) p ≡ true) same at.1.2)
            (elim (cases_Bool (has_gone (v.arrays m) p)) [
              | inl had ↦ absurd (both_ways (gone_in v p) not (gone_from v p m at.0 call.low had))
              | inr none ↦ none
            ])
        | inr apart ↦
            absurd (both_ways (gone_in v p) not
            (gone_from v p n at.0 at.1.1 (sym (ap (λ (u : View). has_gone u p) (call.others n apart)) ∙ at.1.2)))
      ]

  pub left_before : (p : ℕ) → is_left (with_arrays v f) p ≡ true → is_left v p ≡ true
  left_before p is =
      let both = and_parts (is_current v.state p) (not (gone_in (with_arrays v f) p)) is in
      let now = not_true (gone_in (with_arrays v f) p) both.1 in
      and_from (is_current v.state p) (not (gone_in v p)) both.0
      (elim (cases_Bool (gone_in v p)) [
        | inl was ↦ absurd (both_ways (gone_in (with_arrays v f) p) now (more_gone p was))
        | inr not ↦ ap (λ c. Rattle.std.proofs.Common.not c) not
      ])

  pub caused : (p : ℕ) → is_left v p ≡ true → is_left (with_arrays v f) p ≡ false → HasFault a b p
  caused p was now =
      let both = and_parts (is_current v.state p) (not (gone_in v p)) was in
      call.cause p (new_gone p (not_true (gone_in v p) both.1)
      (elim (cases_Bool (gone_in (with_arrays v f) p)) [
        | inl is ↦ is
        | inr none ↦ absurd (both_ways (is_left (with_arrays v f) p) now (and_from (is_current v.state p) (not (gone_in (with_arrays v f) p)) both.0 (ap not none)))
      ]))

  -- where whoever went is marked, no current place went in this call
  pub marked_before : AreMarked (with_arrays v f) → AreMarked v
  marked_before are p current =
      elim (cases_Bool (gone_in v p)) [
        | inl was ↦ absurd (both_ways (gone_in (with_arrays v f) p) (are p current) (more_gone p was))
        | inr none ↦ none
      ]

  pub same_shape : LosesOne v f m → AreMarked (with_arrays v f) → (n : ℕ) → shape_of (v.arrays n) ≡ shape_of (f n)
  same_shape loses are n =
      by_number (λ k. shape_of (v.arrays k) ≡ shape_of (f k)) m n (loses.shape are) (λ apart. ap shape_of (sym (call.others n apart)))

  pub keeps_arrays : LosesOne v f m → KeepsArrays v (with_arrays v f)
  keeps_arrays loses n low =
      by_number (λ k. OnlyFailures (v.arrays k) (f k)) m n loses.only (λ apart. only_same (v.arrays n) (f n) (call.others n apart))

  pub further : (number : ℕ) → v.number ≤ number → IsFurther v (called v f number)
  further number more = record {
    left = left_before;
    number = more;
    epoch = omega arith;
    made = refl;
    events = λ n low. by_number (λ k. (v.arrays k).truth.events ≤ (f k).truth.events) m n call.events
        (λ apart. subst (λ (u : View). (v.arrays n).truth.events ≤ u.truth.events) (sym (call.others n apart)) (omega arith));
    seats = λ n low. by_number (λ k. present (f k).seats ≤ present (v.arrays k).seats) m n call.seats
        (λ apart. subst (λ (u : View). present u.seats ≤ present (v.arrays n).seats) (sym (call.others n apart)) (omega arith));
  }

  -- a marked array that was whole is so, or a current place went
  pub views_whole : (n : ℕ) → n < v.state.made → IsMarkedWhole (with_arrays v f) n
  views_whole n low = by_number (λ k. IsMarkedWhole (with_arrays v f) k) m n own other
    where
      still : ((p : ℕ) × (is_current v.state p ≡ true) × (gone_in v p ≡ true)) → (p : ℕ) × (is_current v.state p ≡ true) × (gone_in (with_arrays v f) p ≡ true)
      still some = (some.0, some.1, more_gone some.0 some.2)

      own : IsMarkedWhole (with_arrays v f) m
      own marked =
          elim (call.was marked) [
            | inl before ↦ elim (set.marked m call.low before) [ inl all ↦ after all | inr some ↦ inr (still some) ]
            | inr all ↦ after all
          ]
        where
          after : is_whole_array (v.arrays m) ≡ true
              → (is_whole_array (f m) ≡ true) ⊎ ((p : ℕ) × (is_current v.state p ≡ true) × (gone_in (with_arrays v f) p ≡ true))
          after all = elim (call.whole all) [
            | inl yet ↦ inl yet
            | inr lost ↦
                inr (
                  lost.0,
                  lost.1,
                  gone_from (with_arrays v f) lost.0 m (current_few v.state lost.0 set.few lost.1) call.low
                      (call.went lost.0 ∙ or_left (call.lost lost.0) (has_gone (v.arrays m) lost.0) lost.2),
                )
          ]

      other : (n ≡ m → ⊥) → IsMarkedWhole (with_arrays v f) n
      other apart marked =
          elim (set.marked n low (ap (λ (u : View). u.marked) (sym (call.others n apart)) ∙ marked)) [
            | inl all ↦ inl (ap is_whole_array (call.others n apart) ∙ all)
            | inr some ↦ inr (still some)
          ]

  pub views_set : (number : ℕ) → IsSet (called v f number) b
  views_set number = record {
    fit = call.stays.fit;
    lasting = call.stays.lasting set.lasting;
    disks = call.stays.disks ∙ set.disks;
    few = set.few;
    most = set.most;
    valid = set.valid;
    logs = λ p left. call.stays.sectors (log_slice p) ∙ set.logs p (left_before p left);
    arrays = λ n low. by_number (λ k. IsSeated v.state k (f k) b) m n call.seated
        (λ apart. subst (λ (u : View). IsSeated v.state n u b) (sym (call.others n apart)) (seated_still v.state n (v.arrays n) a b call.stays (set.arrays n low)));
    marked = views_whole;
  }

  -- a member counts where it counted
  pub views_counted : LosesOne v f m → (n : ℕ) (k : Member) (sector : ℕ) → Among k (shape_of (f n)).members → sector < k.reach → Among k (shape_of (v.arrays n)).members
  views_counted loses n k sector among counts =
      elim (cases_eq n m) [
        | inl same ↦
            subst (λ j. Among k (shape_of (v.arrays j)).members) (sym same)
            (loses.counted k sector (subst (λ j. Among k (shape_of (f j)).members) same among) counts)
        | inr apart ↦ subst (λ (u : View). Among k (shape_of u).members) (call.others n apart) among
      ]

  pub views_sectors : (n : ℕ) → sectors_of (f n) ≡ sectors_of (v.arrays n)
  views_sectors n = by_number (λ k. sectors_of (f k) ≡ sectors_of (v.arrays k)) m n call.sectors (λ apart. ap sectors_of (call.others n apart))

  pub views_spent : (n y : ℕ) → spent_in (f n) y ≡ false → spent_in (v.arrays n) y ≡ false
  views_spent n y = by_number (λ k. spent_in (f k) y ≡ false → spent_in (v.arrays k) y ≡ false) m n (call.spent y)
      (λ apart alive. sym (ap (λ (u : View). spent_in u y) (call.others n apart)) ∙ alive)
