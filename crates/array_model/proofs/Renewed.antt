-- Superblocks of an array that are renewed one by one: at each moment its truth is the old one or a new one, and its shape stays.
use Rattle.std.proofs.Common.{◌≡◌, ◌⊎◌, ℕ, zero, suc, ◌+◌, ◌-◌, ◌%◌, ◌<◌, ◌≤◌, Bool, true, false, not, nat_lt, if◌then◌else◌, List, [], ◌∷◌, map, filter, length, slice_get, Option, Some, None, option_map, unwrap_or, refl, sym, ap, ap₂, subst, ◌∙◌, inl, inr, ltb-true, ltb-false, arith}
use Rattle.std.proofs.lemmas.Bool.{both_ways, cases_lt}
use Rattle.std.specs.Option.{option_map_or}
use Rattle.std.specs.List.{range_with_len}
use Rattle.rack.specs.Seen.{Image}
use Rattle.md_super.specs.declared.superblock.Super.{Super}
use Rattle.md_super.specs.Profile.{is_mirror}
use Rattle.pool_state.specs.declared.contents.State.{State}
use Rattle.array_image.specs.Foremost.{ahead, foremost}
use Rattle.array_image.specs.Stripes.{Layout, mirror, parity}
use Rattle.array_image.specs.States.{is_current, current_places}
use Rattle.array_image.specs.Supers.{is_rebuilding, is_reshaping, super_in, truth_in}
use Rattle.array_image.specs.SoundArray.{IsWrittenSuper, IsSoundArray, array_fields, first_unsynced}
use Rattle.array_image.specs.Arrays.{Member, Shape, member_by, member_in, place_with, shape_by, shape_in}
use Rattle.array_image.specs.Even.{AreEven}
use Rattle.array_image.proofs.Frames.{map_same}
use Rattle.pool_state.specs.declared.contents.Drive.{Drive}

-- ---- the foremost of a list of places

abbrev pub InList : ℕ → List ℕ → Type 0
InList p [] = ⊥
InList p (q ∷ qs) = (p ≡ q) ⊎ InList p qs

none_all : (f : ℕ → Option Super) (ps : List ℕ) → foremost (λ t. t.events) (map f ps) ≡ None → (q : ℕ) (u : Super) → InList q ps → f q ≡ Some u → ⊥
unfolding foremost
none_all f [] none q u among is = among
none_all f (p ∷ ps) none q u among is =
    let Goal : Option Super → Type 0 = λ o. f p ≡ o → foremost (λ t. t.events) (o ∷ map f ps) ≡ None → ⊥ in
    let goal : Goal (f p) = elim (f p) as Goal [
      | None ↦ λ at now. elim among [
        | inl here ↦ none_some (sym at ∙ ap f (sym here) ∙ is)
        | inr later ↦ none_all f ps now q u later is
      ]
      | Some x ↦ λ at now. some_ahead x (foremost (λ t. t.events) (map f ps)) now
    ] in
    goal refl none
  where
    none_some : {x : Super} → None ≡ Some x → ⊥
    none_some same = cc

    some_ahead : (x : Super) (o : Option Super) → ahead (λ t. t.events) x o ≡ None → ⊥
    some_ahead x None is = cc
    some_ahead x (Some y) is = by (nat_lt x.events y.events) is
      where
        by : (b : Bool) → (if b then Some y else Some x) ≡ None → ⊥
        by true is = cc
        by false is = cc

-- it stands on one of them, and none has more events
pub record Leads (f : ℕ → Option Super) (ps : List ℕ) (t : Super) : Type 0 where
  pub place : ℕ
  pub among : InList place ps
  pub is : f place ≡ Some t
  pub most : (q : ℕ) (u : Super) → InList q ps → f q ≡ Some u → u.events ≤ t.events

pub leads : (f : ℕ → Option Super) (ps : List ℕ) (t : Super) → foremost (λ t. t.events) (map f ps) ≡ Some t → Leads f ps t
unfolding foremost
leads f [] t is = absurd (cc)
leads f (p ∷ ps) t is =
    let Goal : Option Super → Type 0 = λ o. f p ≡ o → foremost (λ t. t.events) (o ∷ map f ps) ≡ Some t → Leads f (p ∷ ps) t in
    let goal : Goal (f p) = elim (f p) as Goal [
      | None ↦ λ at now.
          let rest = leads f ps t now in
          record {
            place = rest.place;
            among = inr rest.among;
            is = rest.is;
            most = λ q u among has. elim among [
              | inl here ↦ absurd (none_some (sym at ∙ ap f (sym here) ∙ has))
              | inr later ↦ rest.most q u later has
            ];
          }
      | Some x ↦ λ at now.
          let Rest : Option Super → Type 0 = λ o. foremost (λ t. t.events) (map f ps) ≡ o → ahead (λ t. t.events) x o ≡ Some t → Leads f (p ∷ ps) t in
          let rest : Rest (foremost (λ t. t.events) (map f ps)) = elim (foremost (λ t. t.events) (map f ps)) as Rest [
            | None ↦ λ none here.
                let same : x ≡ t = some_same x t here in
                record {
                  place = p;
                  among = inl refl;
                  is = at ∙ here;
                  most = λ q u among has. elim among [
                    | inl first ↦ at_most u t (some_same u x (sym has ∙ ap f first ∙ at) ∙ same)
                    | inr later ↦ absurd (none_all f ps none q u later has)
                  ];
                }
            | Some y ↦ λ some here. first_or_rest x y (leads f ps y some) at (nat_lt x.events y.events) refl here
          ] in
          rest refl now
    ] in
    goal refl is
  where
    none_some : {x : Super} → None ≡ Some x → ⊥
    none_some same = cc

    some_same : (x y : Super) → Some x ≡ Some y → x ≡ y
    some_same x y same = ap (λ o. unwrap_or o x) same

    at_most : (u t : Super) → u ≡ t → u.events ≤ t.events
    at_most u t same = subst (λ (w : Super). u.events ≤ w.events) same (omega arith)

    first_or_rest : (x y : Super) → Leads f ps y → f p ≡ Some x → (b : Bool) → nat_lt x.events y.events ≡ b → (if b then Some y else Some x) ≡ Some t → Leads f (p ∷ ps) t
    first_or_rest x y rest at true test here =
        let same : y ≡ t = some_same y t here in
        let less = ltb-true x.events y.events test in
        record {
          place = rest.place;
          among = inr rest.among;
          is = rest.is ∙ here;
          most = λ q u among has. subst (λ (w : Super). u.events ≤ w.events) same
              (elim among [
                | inl first ↦ let low = at_most u x (some_same u x (sym has ∙ ap f first ∙ at)) in omega (arith, low, less)
                | inr later ↦ rest.most q u later has
              ]);
        }
    first_or_rest x y rest at false test here =
        let same : x ≡ t = some_same x t here in
        let more = ltb-false x.events y.events test in
        record {
          place = p;
          among = inl refl;
          is = at ∙ here;
          most = λ q u among has. subst (λ (w : Super). u.events ≤ w.events) same
              (elim among [
                | inl first ↦ at_most u x (some_same u x (sym has ∙ ap f first ∙ at))
                | inr later ↦ let low = rest.most q u later has in omega (arith, low, more)
              ]);
        }

-- ---- current places

in_range : (a n p : ℕ) → a ≤ p → p < a + n → InList p (range_with_len a n)
in_range a zero p least most = absurd (omega (arith, least, most))
in_range a (suc n) p least most =
    elim (same_or a p least) [ inl same ↦ inl (sym same) | inr more ↦ inr (in_range (a + 1) n p (omega (arith, more)) (omega (arith, most))) ]
  where
    same_or : (a p : ℕ) → a ≤ p → (a ≡ p) ⊎ (a < p)
    same_or a p least = elim (cases_lt a p) [ inl less ↦ inr less | inr more ↦ inl (omega (arith, more, least)) ]

in_filter : (test : ℕ → Bool) (ps : List ℕ) (p : ℕ) → InList p ps → test p ≡ true → InList p (filter test ps)
in_filter test [] p among is = absurd among
in_filter test (q ∷ ps) p among is =
    let Goal : Bool → Type 0 = λ b. test q ≡ b → InList p (if b then q ∷ filter test ps else filter test ps) in
    let goal : Goal (test q) = elim (test q) as Goal [
      | true ↦ λ at. elim among [ inl here ↦ inl here | inr later ↦ inr (in_filter test ps p later is) ]
      | false ↦ λ at. elim among [ inl here ↦ absurd (both_ways (test q) at (ap test (sym here) ∙ is)) | inr later ↦ in_filter test ps p later is ]
    ] in
    goal refl

out_filter : (test : ℕ → Bool) (ps : List ℕ) (p : ℕ) → InList p (filter test ps) → test p ≡ true
out_filter test [] p among = absurd among
out_filter test (q ∷ ps) p among =
    let Goal : Bool → Type 0 = λ b. test q ≡ b → InList p (if b then q ∷ filter test ps else filter test ps) → test p ≡ true in
    let goal : Goal (test q) = elim (test q) as Goal [
      | true ↦ λ at now. elim now [ inl here ↦ ap test here ∙ at | inr later ↦ out_filter test ps p later ]
      | false ↦ λ at now. out_filter test ps p now
    ] in
    goal refl among

pub in_current : (s : State) (p : ℕ) → is_current s p ≡ true → InList p (current_places s)
unfolding current_places
in_current s p is = in_filter (is_current s) (range_with_len 0 (length s.drives.items)) p (in_range 0 (length s.drives.items) p (omega arith) (inside s.drives.items p is)) is
  where
    inside : (drives : List Drive) (p : ℕ) → option_map_or (λ drive. not drive.missing) (slice_get drives p) false ≡ true → p < 0 + length drives
    inside [] p is = absurd (both_ways false refl is)
    inside (d ∷ drives) zero is = omega arith
    inside (d ∷ drives) (suc p) is = let low = inside drives p is in omega (arith, low)

pub current_of : (s : State) (p : ℕ) → InList p (current_places s) → is_current s p ≡ true
unfolding current_places
current_of s p among = out_filter (is_current s) (range_with_len 0 (length s.drives.items)) p among

-- ---- renewed superblocks

-- contents e have on each current place the superblock that c has there, or a new one for that place
pub record Renews (s : State) (n : ℕ) (c e : Image) (new : ℕ → Super → Type 0) : Type 0 where
  pub either :
      (p : ℕ) → is_current s p ≡ true
      → (super_in s e n p ≡ super_in s c n p) ⊎ ((t : Super) × new p t × (super_in s e n p ≡ Some t))

-- superblocks of one geometry
pub record SameLayout (t u : Super) : Type 0 where
  pub size : t.size ≡ u.size
  pub disks : t.raid_disks ≡ u.raid_disks
  pub level : is_mirror t ≡ is_mirror u
  pub roles : t.roles ≡ u.roles
  pub reshaping : is_reshaping t ≡ is_reshaping u
  pub position : t.reshape_position ≡ u.reshape_position

-- What holds of new superblocks: they have the array fields of one, f, which has more events than the truth, and each member counts
-- as far as it did.
pub record AreNewer (s : State) (n : ℕ) (c : Image) (truth f : Super) (new : ℕ → Super → Type 0) : Type 0 where
  pub later : truth.events < f.events
  pub fields : (p : ℕ) (t : Super) → new p t → array_fields t ≡ array_fields f
  pub layout : (p : ℕ) (t : Super) → new p t → SameLayout t truth
  pub member :
      (p : ℕ) (t : Super) → is_current s p ≡ true → new p t
      → member_by truth.size p true (Some t) ≡ member_by truth.size p true (super_in s c n p)
  pub rebuilt :
      (p : ℕ) (t : Super) → new p t → is_rebuilding t ≡ true → (t.recovery_offset % 128 ≡ 0) × (t.recovery_offset < truth.size)

-- the truth afterwards is the old one, and nothing is new on a current place, or a new one
pub data NewTruth (s : State) (n : ℕ) (c e : Image) (truth : Super) (new : ℕ → Super → Type 0) : Type 0 where
  old : truth_in s e n ≡ Some truth → ((p : ℕ) → is_current s p ≡ true → super_in s e n p ≡ super_in s c n p) → NewTruth s n c e truth new
  renewed : (t : Super) (p : ℕ) → truth_in s e n ≡ Some t → is_current s p ≡ true → new p t → NewTruth s n c e truth new

map_in : (f g : ℕ → Option Super) (ps : List ℕ) → ((p : ℕ) → InList p ps → f p ≡ g p) → map f ps ≡ map g ps
map_in f g [] same = refl
map_in f g (p ∷ ps) same = ap₂ (λ o os. o ∷ os) (same p (inl refl)) (map_in f g ps (λ q among. same q (inr among)))

some_is : {X : Type 0} (x y : X) → Some x ≡ Some y → x ≡ y
some_is x y same = ap (λ o. unwrap_or o x) same

pub new_truth : (s : State) (n : ℕ) (c e : Image) (truth f : Super) (new : ℕ → Super → Type 0)
    → truth_in s c n ≡ Some truth → AreNewer s n c truth f new → Renews s n c e new → NewTruth s n c e truth new
unfolding truth_in
new_truth s n c e truth f new is newer renews =
    let before = leads (super_in s c n) (current_places s) truth is in
    let Goal : Option Super → Type 0 = λ o. foremost (λ t. t.events) (map (super_in s e n) (current_places s)) ≡ o → NewTruth s n c e truth new in
    let goal : Goal (foremost (λ t. t.events) (map (super_in s e n) (current_places s))) =
    elim (foremost (λ t. t.events) (map (super_in s e n) (current_places s))) as Goal [
      | None ↦ λ none. absurd (gone before none (renews.either before.place (current_of s before.place before.among)))
      | Some t ↦ λ some.
          let now = leads (super_in s e n) (current_places s) t some in
          let here = current_of s now.place now.among in
          elim (renews.either now.place here) [
            | inr fresh ↦ renewed t now.place some here (subst (new now.place) (some_is fresh.0 t (sym fresh.2 ∙ now.is)) fresh.1)
            | inl kept ↦
                let same : (p : ℕ) → is_current s p ≡ true → super_in s e n p ≡ super_in s c n p =
                λ p at. elim (renews.either p at) [
                  | inl still ↦ still
                  | inr fresh ↦
                      let low = now.most p fresh.0 (in_current s p at) fresh.2 in
                      let old_low = before.most now.place t now.among (sym kept ∙ now.is) in
                      let events : fresh.0.events ≡ f.events = ap (λ (u : Super). u.events) (newer.fields p fresh.0 fresh.1) in
                      let later = newer.later in
                      absurd (omega (arith, low, old_low, events, later))
                ] in
                old (ap (foremost (λ t. t.events)) (map_in (super_in s e n) (super_in s c n) (current_places s) (λ p among. same p (current_of s p among))) ∙ is) same
          ]
    ] in
    goal refl
  where
    gone : (before : Leads (super_in s c n) (current_places s) truth) → foremost (λ t. t.events) (map (super_in s e n) (current_places s)) ≡ None
        → (super_in s e n before.place ≡ super_in s c n before.place) ⊎ ((t : Super) × new before.place t × (super_in s e n before.place ≡ Some t)) → ⊥
    gone before none (inl kept) = none_all (super_in s e n) (current_places s) none before.place truth before.among (kept ∙ before.is)
    gone before none (inr fresh) = none_all (super_in s e n) (current_places s) none before.place fresh.0 before.among fresh.2

-- ---- the shape

shape_from : State → Image → ℕ → ℕ → ℕ → Bool → List ℕ → Bool → ℕ → Shape
shape_from s c n size disks mirrors roles reshaping at =
    let last : Layout = if mirrors then mirror disks else parity disks in
    record {
      members = map (λ k. let place = unwrap_or (place_with roles k) 16 in member_by size place (is_current s place) (super_in s c n place)) (range_with_len 0 disks);
      size = size;
      moved = last;
      layout = if reshaping then parity (disks - 1) else last;
      reached = if reshaping then at else 0;
    }

shape_parts : (s : State) (c : Image) (n : ℕ) (t : Super)
    → shape_by s c n t ≡ shape_from s c n t.size t.raid_disks (is_mirror t) t.roles.items (is_reshaping t) t.reshape_position
unfolding shape_by shape_from
shape_parts s c n t = refl

pub shape_layout : (s : State) (c : Image) (n : ℕ) (t u : Super) → SameLayout t u → shape_by s c n t ≡ shape_by s c n u
shape_layout s c n t u same =
    shape_parts s c n t
    ∙ (λ i. shape_from s c n (same.size i) (same.disks i) (same.level i) (ap (λ (r : _). r.items) same.roles i) (same.reshaping i) (same.position i))
    ∙ sym (shape_parts s c n u)

-- a member is the same by its old superblock and its new one
member_renewed : (s : State) (n : ℕ) (c e : Image) (truth f : Super) (new : ℕ → Super → Type 0) (p : ℕ)
    → AreNewer s n c truth f new → Renews s n c e new
    → member_by truth.size p (is_current s p) (super_in s e n p) ≡ member_by truth.size p (is_current s p) (super_in s c n p)
member_renewed s n c e truth f new p newer renews =
    let Goal : Bool → Type 0 = λ b. is_current s p ≡ b → member_by truth.size p b (super_in s e n p) ≡ member_by truth.size p b (super_in s c n p) in
    let goal : Goal (is_current s p) = elim (is_current s p) as Goal [
      | false ↦ λ is. refl
      | true ↦ λ is.
          elim (renews.either p is) [
            | inl kept ↦ ap (member_by truth.size p true) kept
            | inr fresh ↦ ap (member_by truth.size p true) fresh.2 ∙ newer.member p fresh.0 is fresh.1
          ]
    ] in
    goal refl

pub shape_renewed : (s : State) (n : ℕ) (c e : Image) (truth f : Super) (new : ℕ → Super → Type 0)
    → AreNewer s n c truth f new → Renews s n c e new → shape_by s e n truth ≡ shape_by s c n truth
unfolding shape_by
shape_renewed s n c e truth f new newer renews =
    ap (λ (ms : List Member). record (shape_by s c n truth) { members = ms })
    (map_same (member_in s e n truth) (member_in s c n truth) (range_with_len 0 truth.raid_disks)
    (λ k. member_renewed s n c e truth f new (unwrap_or (place_with truth.roles.items k) 16) newer renews))

pub shape_kept : (s : State) (n : ℕ) (c e : Image) (truth f : Super) (new : ℕ → Super → Type 0)
    → truth_in s c n ≡ Some truth → AreNewer s n c truth f new → Renews s n c e new → shape_in s e n ≡ shape_in s c n
shape_kept s n c e truth f new is newer renews =
    elim (new_truth s n c e truth f new is newer renews) [
      | old now same ↦ ap (option_map (shape_by s e n)) now ∙ ap Some (shape_renewed s n c e truth f new newer renews) ∙ sym (ap (option_map (shape_by s c n)) is)
      | renewed t p now at has ↦
          ap (option_map (shape_by s e n)) now
          ∙ ap Some (shape_layout s e n t truth (newer.layout p t has) ∙ shape_renewed s n c e truth f new newer renews)
          ∙ sym (ap (option_map (shape_by s c n)) is)
    ]

-- ---- they agree

-- superblocks that agreed do so still, where the rows do that the truth leaves
pub sound_renewed : (s : State) (n : ℕ) (c e : Image) (truth f : Super) (new : ℕ → Super → Type 0) (t : Super)
    → truth_in s c n ≡ Some truth → AreNewer s n c truth f new → Renews s n c e new
    → IsSoundArray s c n truth
    → truth_in s e n ≡ Some t
    → IsWrittenSuper n t
    → (t.roles ≡ truth.roles) → (t.size ≡ truth.size)
    → (n < s.joined → (shape : Shape) → shape_in s e n ≡ Some shape → AreEven shape n (first_unsynced t) e)
    → IsSoundArray s e n t
unfolding truth_in
sound_renewed s n c e truth f new t is newer renews sound now written roles size even =
    let before = leads (super_in s c n) (current_places s) truth is in
    record {
      two = subst (λ (r : _). 2 ≤ length (filter (λ place. option_map_or (λ role. nat_lt role 0xfffe) (slice_get r.items place) false) (range_with_len 0 (length r.items)))) (sym roles) sound.two;
      written = written;
      same = λ p q u v at_p at_q is_u is_v events.
          elim (renews.either p at_p) [
            | inl kept_p ↦ elim (renews.either q at_q) [
              | inl kept_q ↦ sound.same p q u v at_p at_q (sym kept_p ∙ is_u) (sym kept_q ∙ is_v) events
              | inr fresh_q ↦ absurd (apart p u (before.most p u (in_current s p at_p) (sym kept_p ∙ is_u)) v (new_is q v fresh_q is_v) events)
            ]
            | inr fresh_p ↦ elim (renews.either q at_q) [
              | inl kept_q ↦ absurd (apart q v (before.most q v (in_current s q at_q) (sym kept_q ∙ is_v)) u (new_is p u fresh_p is_u) (sym events))
              | inr fresh_q ↦ new_is p u fresh_p is_u ∙ sym (new_is q v fresh_q is_v)
            ]
          ];
      rebuilt = λ p u at is_u rebuilding.
          elim (renews.either p at) [
            | inl kept ↦ let was = sound.rebuilt p u at (sym kept ∙ is_u) rebuilding in (was.0, subst (λ k. u.recovery_offset < k) (sym size) was.1)
            | inr fresh ↦
                let same : fresh.0 ≡ u = some_is fresh.0 u (sym fresh.2 ∙ is_u) in
                let was = newer.rebuilt p fresh.0 fresh.1 (ap is_rebuilding same ∙ rebuilding) in (
                  ap (λ (w : Super). w.recovery_offset % 128) (sym same) ∙ was.0,
                  subst (λ k. u.recovery_offset < k) (sym size) (subst (λ (w : Super). w.recovery_offset < truth.size) same was.1),
                )
          ];
      even = even;
    }
  where
    new_is : (p : ℕ) (u : Super) → (w : Super) × new p w × (super_in s e n p ≡ Some w) → super_in s e n p ≡ Some u → array_fields u ≡ array_fields f
    new_is p u fresh is_u = subst (λ (x : Super). array_fields x ≡ array_fields f) (some_is fresh.0 u (sym fresh.2 ∙ is_u)) (newer.fields p fresh.0 fresh.1)

    apart : (p : ℕ) (u : Super) → u.events ≤ truth.events → (v : Super) → array_fields v ≡ array_fields f → u.events ≡ v.events → ⊥
    apart p u low v fields events =
        let of : v.events ≡ f.events = ap (λ (x : Super). x.events) fields in
        let later = newer.later in
        omega (arith, low, of, later, events)
