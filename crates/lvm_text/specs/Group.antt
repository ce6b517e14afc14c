-- What the words of a text say of a volume group. Keys that aren't named here are passed over, and of a key that
-- stands twice in a section the first counts.
use Rattle.std.specs.Prelude.{◌≡◌, ℕ, zero, suc, ◌+◌, ◌-◌, Bool, false, ◌&&◌, ◌==◌, if◌then◌else◌, List, [], ◌∷◌, ◌++◌, length, codes, decimal, bytes_eq, Option, Some, None, Result, Ok, Err}
use Rattle.lvm_text.specs.declared.words.Word.{Word}
use Rattle.lvm_text.specs.declared.words.Word.TheVariants as word
use Rattle.lvm_text.specs.declared.group.Key.{Key}
use Rattle.lvm_text.specs.declared.group.Key.TheVariants as key
use Rattle.lvm_text.specs.declared.group.TextFault.{TextFault}
use Rattle.lvm_text.specs.declared.group.TextFault.TheVariants as fault
use Rattle.lvm_text.specs.declared.group.SegmentKind.{SegmentKind}
use Rattle.lvm_text.specs.declared.group.SegmentKind.TheVariants as kind
use Rattle.lvm_text.specs.declared.group.Segment.{Segment}
use Rattle.lvm_text.specs.declared.group.Pv.{Pv}
use Rattle.lvm_text.specs.declared.group.Lv.{Lv}
use Rattle.lvm_text.specs.declared.group.Group.{Group}
use Rattle.lvm_text.specs.Words.{words_of}

-- ---- what reading gives: a value, or the first fault

infixl 10 ◌>>=◌
abbrev pub ◌>>=◌ : {A B : Type 0} → Result A TextFault → (A → Result B TextFault) → Result B TextFault
(Ok x) >>= f = f x
(Err e) >>= f = Err e

abbrev pub Fails : {Y : Type 0} → TextFault → Result Y TextFault → Type 0
Fails fault.Memory read = Unit {0}
Fails (fault.Syntax at) read = read ≡ Err (fault.Syntax at)
Fails (fault.Missing key) read = read ≡ Err (fault.Missing key)
Fails (fault.Range key) read = read ≡ Err (fault.Range key)

-- what a function of the code answered, seen by view, is what reading gives, unless memory ran out
abbrev pub Tells : {X Y : Type 0} → (X → Y) → Result X TextFault → Result Y TextFault → Type 0
Tells view (Ok x) read = read ≡ Ok (view x)
Tells view (Err e) read = Fails e read

-- ---- the items of a section

-- the words behind the first item of this name, so many sections inside the section that is looked through
unfoldable pub found_at : List ℕ → ℕ → List Word → Option (List Word)
found_at name depth [] = None
found_at name zero (word.Name other ∷ words) = if bytes_eq other name then Some words else found_at name zero words
found_at name zero (word.Close ∷ words) = None
found_at name (suc depth) (word.Close ∷ words) = found_at name depth words
found_at name depth (word.Open ∷ words) = found_at name (suc depth) words
found_at name depth (_ ∷ words) = found_at name depth words

abbrev pub found : List ℕ → List Word → Option (List Word)
found name words = found_at name 0 words

-- what a key is called
unfoldable pub name_of : Key → List ℕ
name_of key.Id = codes "id"
name_of key.Seqno = codes "seqno"
name_of key.ExtentSize = codes "extent_size"
name_of key.PhysicalVolumes = codes "physical_volumes"
name_of key.DevSize = codes "dev_size"
name_of key.PeStart = codes "pe_start"
name_of key.PeCount = codes "pe_count"
name_of key.SegmentCount = codes "segment_count"
name_of key.StartExtent = codes "start_extent"
name_of key.ExtentCount = codes "extent_count"

-- the value of an item that must be a number; a section in its place counts as not there
unfoldable pub number_in : Key → Option (List Word) → Result ℕ TextFault
number_in key (Some (word.Equals ∷ word.Number (Some n) ∷ words)) = Ok n
number_in key (Some (word.Equals ∷ words)) = Err (fault.Range key)
number_in key _ = Err (fault.Missing key)

unfoldable pub number_at : Key → List Word → Result ℕ TextFault
number_at key words = number_in key (found (name_of key) words)

-- the value of an item that must be a string
unfoldable pub text_in : Key → Option (List Word) → Result (List ℕ) TextFault
text_in key (Some (word.Equals ∷ word.Text text ∷ words)) = Ok text
text_in key (Some (word.Equals ∷ words)) = Err (fault.Range key)
text_in key _ = Err (fault.Missing key)

unfoldable pub text_at : Key → List Word → Result (List ℕ) TextFault
text_at key words = text_in key (found (name_of key) words)

-- the words of an item that must be a section; a value in its place counts as not there
unfoldable pub section_in : Option (List Word) → Option (List Word)
section_in (Some (word.Open ∷ words)) = Some words
section_in _ = None

abbrev pub required : Key → Option (List Word) → Result (List Word) TextFault
required key (Some words) = Ok words
required key None = Err (fault.Missing key)

unfoldable pub section_at : Key → List Word → Result (List Word) TextFault
section_at key words = required key (section_in (found (name_of key) words))

-- the words of the logical volumes, which may be absent
unfoldable pub logical_volumes : List Word → Option (List Word)
logical_volumes words = section_in (found (codes "logical_volumes") words)

abbrev pub with_first : {X : Type 0} → X → Result (List X) TextFault → Result (List X) TextFault
with_first x read = read >>= (λ xs. Ok (x ∷ xs))

-- what a named section tells before the others; an item that is no section is passed over
abbrev pub before : {X : Type 0} → (List Word → Result X TextFault) → Option (List Word) → Result (List X) TextFault → Result (List X) TextFault
before read (Some body) others = read body >>= (λ x. with_first x others)
before read None others = others

-- what each section tells in turn, so many sections inside the section that is looked through
unfoldable pub each_at : {X : Type 0} → (List ℕ → List Word → Result X TextFault) → ℕ → List Word → Result (List X) TextFault
each_at read depth [] = Ok []
each_at read zero (word.Name name ∷ words) = before (read name) (section_in (Some words)) (each_at read zero words)
each_at read zero (word.Close ∷ words) = Ok []
each_at read (suc depth) (word.Close ∷ words) = each_at read depth words
each_at read depth (word.Open ∷ words) = each_at read (suc depth) words
each_at read depth (_ ∷ words) = each_at read depth words

-- ---- a physical volume

-- 0 where it isn't there
abbrev pub or_zero : Result ℕ TextFault → Result ℕ TextFault
or_zero (Ok n) = Ok n
or_zero (Err (fault.Missing key)) = Ok 0
or_zero (Err e) = Err e

unfoldable pub pv_at : List ℕ → List Word → Result Pv TextFault
pv_at name words = do
  id ← text_at key.Id words
  dev_size ← or_zero (number_at key.DevSize words)
  pe_start ← number_at key.PeStart words
  pe_count ← number_at key.PeCount words
  Ok (record { name = name; id = id; dev_size = dev_size; pe_start = pe_start; pe_count = pe_count })

-- ---- a segment

-- an item says this string
abbrev pub says : List ℕ → Option (List Word) → Bool
says text (Some (word.Equals ∷ word.Text other ∷ words)) = bytes_eq other text
says text _ = false

-- an item says this number
abbrev pub counts : ℕ → Option (List Word) → Bool
counts n (Some (word.Equals ∷ word.Number (Some m) ∷ words)) = m == n
counts n _ = false

-- a list of a string and an integer: a physical volume's name, and its extent
unfoldable pub stripe_in : Option (List Word) → SegmentKind
stripe_in (Some (word.Equals ∷ word.ListOpen ∷ word.Text pv ∷ word.Comma ∷ word.Number (Some first) ∷ word.ListClose ∷ words)) = kind.Linear pv first
stripe_in _ = kind.Other

-- linear is what is striped over one
unfoldable pub kind_at : List Word → SegmentKind
kind_at words =
    if says (codes "striped") (found (codes "type") words) && counts 1 (found (codes "stripe_count") words)
    then stripe_in (found (codes "stripes") words)
    else kind.Other

unfoldable pub segment_at : List Word → Result Segment TextFault
segment_at words = do
  start ← number_at key.StartExtent words
  count ← number_at key.ExtentCount words
  Ok (record { start = start; count = count; kind = kind_at words })

-- what the section of a segment is called
abbrev pub segment_name : ℕ → List ℕ
segment_name number = codes "segment" ++ decimal number

-- the section of a segment's number
unfoldable pub numbered : ℕ → List Word → Result (List Word) TextFault
numbered number words = required key.SegmentCount (section_in (found (segment_name number) words))

unfoldable pub segment_numbered : ℕ → List Word → Result Segment TextFault
segment_numbered number words = numbered number words >>= segment_at

-- so many segments, from this number on
unfoldable pub segments_at : ℕ → ℕ → List Word → Result (List Segment) TextFault
segments_at zero number words = Ok []
segments_at (suc count) number words = segment_numbered number words >>= (λ s. with_first s (segments_at count (number + 1) words))

-- ---- a logical volume

unfoldable pub lv_at : List ℕ → List Word → Result Lv TextFault
lv_at name words = do
  id ← text_at key.Id words
  count ← number_at key.SegmentCount words
  segments ← segments_at count 1 words
  Ok (record { name = name; id = id; segments = segments })

-- ---- the group

abbrev pub lvs_in : Option (List Word) → Result (List Lv) TextFault
lvs_in (Some words) = each_at lv_at 0 words
lvs_in None = Ok []

unfoldable pub group_at : List ℕ → List Word → Result Group TextFault
group_at name words = do
  id ← text_at key.Id words
  seqno ← number_at key.Seqno words
  extent_size ← number_at key.ExtentSize words
  volumes ← section_at key.PhysicalVolumes words
  pvs ← each_at pv_at 0 volumes
  lvs ← lvs_in (logical_volumes words)
  Ok (record { name = name; id = id; seqno = seqno; extent_size = extent_size; pvs = pvs; lvs = lvs })

-- what a named section tells, or the others where the item is no section
abbrev pub this_or : (List Word → Result Group TextFault) → Option (List Word) → Result Group TextFault → Result Group TextFault
this_or read (Some body) others = read body
this_or read None others = others

-- the group is the first section of the text
unfoldable pub group_in : List Word → Result Group TextFault
group_in [] = Err (fault.Missing key.Id)
group_in (word.Name name ∷ words) = this_or (group_at name) (section_in (Some words)) (group_in words)
group_in (_ ∷ words) = group_in words

-- the group of a text, or the first fault; what the grammar refuses goes before the others
abbrev pub told : ℕ → Result (List Word) ℕ → Result Group TextFault
told size (Ok words) = group_in words
told size (Err left) = Err (fault.Syntax (size - left))

abbrev pub group_of : List ℕ → Result Group TextFault
group_of text = told (length text) (words_of text)
