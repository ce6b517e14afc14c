-- Names stand behind a form and its number.
use Rattle.std.proofs.Common.{◌≡◌, ℕ, suc, ◌==◌, ◌<◌, ◌||◌, Bool, true, false, List, [], ◌∷◌, length, Option, Some, None, option_map, if◌then◌else◌, codes, refl, subst, arith, nat_lt}
use Rattle.std.proofs.lemmas.Bool.{ltb-true, eqb-true}
use Rattle.std.specs.Str.{bytes_eq}
use Rattle.shr_script.specs.Line.{number_of}
use Rattle.shr_words.specs.declared.forms.Form.{Form}
use Rattle.shr_words.specs.declared.forms.Form.TheVariants.{Layout, Create, Serve, Import, Export, Status, Examine, Trial}
use Rattle.shr_words.specs.declared.layout.LayoutRequest.{LayoutRequest}
use Rattle.shr_words.specs.Forms.{before_names, call_form, is_named, takes_call, unnumbered}
use Rattle.shr_words.specs.LayoutWords.{extent_of, layout_request}

one_before : (serve import export status : Bool)
    → before_names (if serve then Serve else if import then Import else if export then Export else if status then Status else Examine) ≡ 1
one_before true import export status = refl
one_before false true export status = refl
one_before false false true status = refl
one_before false false false true = refl
one_before false false false false = refl

behind_layout : (o : Option LayoutRequest) (form : Form) (n : ℕ) → option_map Layout o ≡ Some form → 1 < n → before_names form < suc n
behind_layout None form n is more = cc
behind_layout (Some request) (Layout r) n is more = omega (arith, more)
behind_layout (Some request) (Create e) n is more = cc
behind_layout (Some request) Serve n is more = cc
behind_layout (Some request) Import n is more = cc
behind_layout (Some request) Export n is more = cc
behind_layout (Some request) Status n is more = cc
behind_layout (Some request) Examine n is more = cc
behind_layout (Some request) (Trial s) n is more = cc

same : (f g : Form) → Some f ≡ Some g → f ≡ g
same f g e = cc

behind : (layout create trial named : Bool) (request : Option LayoutRequest) (extent seed : Option ℕ) (u form : Form) (n : ℕ) → before_names u ≡ 1
    → (if layout then option_map Layout request else if create then option_map Create extent else if trial then option_map Trial seed else Some u) ≡ Some form
    → (if layout || (create || trial) then nat_lt 1 n else if named then nat_lt 0 n else n == 1) ≡ true
    → before_names form < suc n
behind true create trial named request extent seed u form n one is enough = behind_layout request form n is (ltb-true 1 n enough)
behind false true trial named request None seed u form n one is enough = cc
behind false true trial named request (Some e) seed u form n one is enough = subst (λ f. before_names f < suc n) (same (Create e) form is) (omega (arith, ltb-true 1 n enough))
behind false false true named request extent None u form n one is enough = cc
behind false false true named request extent (Some s) u form n one is enough = subst (λ f. before_names f < suc n) (same (Trial s) form is) (omega (arith, ltb-true 1 n enough))
behind false false false true request extent seed u form n one is enough = subst (λ f. before_names f < suc n) (same u form is) (omega (arith, one, ltb-true 0 n enough))
behind false false false false request extent seed u form n one is enough = subst (λ f. before_names f < suc n) (same u form is) (omega (arith, one, eqb-true n 1 enough))

-- a form that its words give has one word or more behind it and its number
pub names_behind : (words : List (List ℕ)) (form : Form) → call_form words ≡ Some form → takes_call words ≡ true → before_names form < length words
names_behind [] form is takes = cc
names_behind (name ∷ []) form is takes = cc
names_behind (name ∷ first ∷ others) form is takes =
    behind (bytes_eq name (codes "layout")) (bytes_eq name (codes "create")) (bytes_eq name (codes "trial")) (is_named name)
    (layout_request (first ∷ others)) (extent_of first) (number_of first) (unnumbered name) form (length (first ∷ others))
    (one_before (bytes_eq name (codes "serve")) (bytes_eq name (codes "import")) (bytes_eq name (codes "export")) (bytes_eq name (codes "status")))
    is takes
