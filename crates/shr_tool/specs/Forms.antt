-- What the forms of the program's words ask of its ends.
use Rattle.std.specs.Prelude.{Bool, true, false, Option, Some, None}
use Rattle.shr_words.specs.declared.forms.Form.{Form}
use Rattle.shr_words.specs.declared.forms.Form.TheVariants.{Layout, Create, Serve, Import, Export, Status, Examine, Trial}

-- the words that use disks
abbrev pub uses_disks : Option Form → Bool
uses_disks None = false
uses_disks (Some (Layout request)) = false
uses_disks (Some (Create extent)) = true
uses_disks (Some Serve) = true
uses_disks (Some Import) = true
uses_disks (Some Export) = true
uses_disks (Some Status) = true
uses_disks (Some Examine) = true
uses_disks (Some (Trial seed)) = true

-- the words that read the input
abbrev pub reads_input : Option Form → Bool
reads_input None = false
reads_input (Some (Layout request)) = false
reads_input (Some (Create extent)) = false
reads_input (Some Serve) = true
reads_input (Some Import) = true
reads_input (Some Export) = false
reads_input (Some Status) = false
reads_input (Some Examine) = false
reads_input (Some (Trial seed)) = false
