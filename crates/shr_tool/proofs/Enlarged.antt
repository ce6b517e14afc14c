-- A line that replaces a drive: by a disk of its units it is an event, and by one of others it grows the pool.
use Rattle.std.proofs.Common.{◌≡◌, ◌⊎◌, ℕ, List, Result, Ok, Err, codes, refl, sym, ap, subst, inl, inr}
use Rattle.rack.specs.Moments.{IsSound}
use Rattle.shr_script.specs.declared.Command.TheVariants.{Replace}
use Rattle.shr_script.specs.Reply.{as_line, refused_line}
use Rattle.pool.specs.declared.replacing.GrowFault.{GrowFault}
use Rattle.pool.specs.declared.replacing.GrowFault.TheVariants.{NoSuchDrive}
use Rattle.pool.specs.Enlarging.{EnlargesDrive}
use Rattle.pool.specs.Moment.{moment_of}
use Rattle.pool.specs.Naming.{ReplacesDrive}
use Rattle.pool.specs.View.{View, volume}
use Rattle.shr_tool.specs.declared.perform.Answer.{Answer}
use Rattle.shr_tool.specs.declared.perform.Answer.TheVariants.{Given}
use Rattle.shr_tool.specs.Events.{answer_by, grow_word}
use Rattle.shr_tool.specs.Events.Event.{declined, replaced}
use Rattle.shr_tool.specs.Growing.{GrowsOn, IsGrowing, taking_answer, taking_text}
use Rattle.shr_tool.specs.Serving.{Acts}
use Rattle.shr_tool.proofs.LostDrive.{IsCut}
use Rattle.shr_tool.proofs.Replacing.{cut_listed, decline_done, replace_done}

-- a disk of other units
enlarged_by :
    (x y : View) (at place : ℕ) (name text : List ℕ) (answer : Answer) (r : Result (Unit {0}) GrowFault)
    → (volume x).fit
    → IsCut at place
    → answer ≡ taking_answer r
    → text ≡ taking_text r
    → EnlargesDrive x y at name r
    → IsGrowing (moment_of x) (moment_of y) (Ok (Replace place name)) × GrowsOn x y (Ok (Replace place name)) answer text
enlarged_by x y at place name text answer r fit cut answer_is text_is enlarges_at =
    let all : EnlargesDrive x y place name r = subst (λ p. EnlargesDrive x y p name r) (cut_listed x at place fit cut enlarges_at.enlarging.listed) enlarges_at in (
      all.enlarging,
      record {
        proceeds = all.continues.proceeds;
        marks = λ k was now. elim (all.marks k was now) [
          | inl rose ↦ inl rose
          | inr gave ↦ inr (inr (inr (name, ap (λ p. Ok (Replace p name)) (sym gave.1))))
        ];
        raises = all.raises;
        answered = inr (all.enlarging, (r, answer_is, text_is, all.continues.linear, all.enlarges));
      },
    )

-- the line was done, by a drive that was replaced
pub replace_acts :
    (x y : View) (at place : ℕ) (name said text : List ℕ) (r : Result (Unit {0}) GrowFault)
    → (volume x).fit
    → IsCut at place
    → said ≡ name
    → r ≡ Ok tt
    → text ≡ as_line (codes "ok")
    → ReplacesDrive x y at said r ⊎ EnlargesDrive x y at said r
    → Acts x y (Ok (Replace place name)) Given text
replace_acts x y at place name said text r fit cut same is_ok is done = elim done [
  | inl replaces ↦ inl (record {
    event = replaced place name;
    line_is = refl;
    answer_is = refl;
    performs = replace_done x y at place name text r fit cut is_ok is (subst (λ n. ReplacesDrive x y at n r) same replaces);
  })
  | inr enlarges ↦ inr
      (enlarged_by x y at place name text Given (Ok tt) fit cut refl is
      (subst (EnlargesDrive x y at name) is_ok (subst (λ n. EnlargesDrive x y at n r) same enlarges)))
]

-- by one that wasn't
pub decline_acts :
    (x y : View) (at place : ℕ) (name said text : List ℕ) (answer : Answer) (r : Result (Unit {0}) GrowFault) (fault : GrowFault)
    → (volume x).fit
    → (x.bay.traced → IsSound (volume x))
    → IsCut at place
    → said ≡ name
    → r ≡ Err fault
    → answer ≡ answer_by fault
    → text ≡ refused_line (grow_word fault)
    → (fault ≡ NoSuchDrive → y ≡ x)
    → ReplacesDrive x y at said r ⊎ EnlargesDrive x y at said r
    → Acts x y (Ok (Replace place name)) answer text
decline_acts x y at place name said text answer r fault fit sound cut same refused answer_is is still done = elim done [
  | inl replaces ↦ inl (record {
    event = declined place name fault;
    line_is = refl;
    answer_is = sym answer_is;
    performs = decline_done x y at place name text r fault fit sound cut refused is still (subst (λ n. ReplacesDrive x y at n r) same replaces);
  })
  | inr enlarges ↦ inr
      (enlarged_by x y at place name text answer (Err fault) fit cut answer_is is
      (subst (EnlargesDrive x y at name) refused (subst (λ n. EnlargesDrive x y at n r) same enlarges)))
]
