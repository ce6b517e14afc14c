-- What reading an array gives, where sectors may be refused or spent meanwhile.
use Rattle.std.specs.Prelude.{◌≡◌, ◌⊎◌, ℕ, ◌<◌, ◌≤◌, false, nat_lt, if◌then◌else◌, List, [], length, Ok}
use Rattle.rack.specs.Seen.{RackView, Rose}
use Rattle.lvm_text.specs.declared.group.Group.{Group}
use Rattle.lvm_text.specs.Group.{group_of}
use Rattle.lvm_group.specs.Parts.{Array}

-- an array's current contents, told, but for sectors that are spent
pub record IsNow (x : RackView) (array : ℕ) (now : Array) : Type 0 where
  pub told : x.told array
  pub current : (sector : ℕ) → sector < x.sectors array → x.spent array sector ≡ false → (x.held array sector).current ≡ now sector

-- a sector of an array was read as these bytes: they are its contents, or there are none, because it was refused or isn't there
pub record IsRead (a b : RackView) (array : ℕ) (now : Array) (sector : ℕ) (bytes : List ℕ) : Type 0 where
  pub within : sector < a.sectors array → (bytes ≡ now sector) ⊎ ((bytes ≡ []) × Rose (a.faults array) (b.faults array))
  pub past : a.sectors array ≤ sector → bytes ≡ []

-- an array was read as these contents
abbrev pub AreRead : RackView → RackView → ℕ → Array → Array → Type 0
AreRead a b array now c = (sector : ℕ) → IsRead a b array now sector (c sector)

-- the contents where nothing was refused
abbrev pub held_on : RackView → ℕ → Array → Array
held_on a array now = λ sector. if nat_lt sector (a.sectors array) then now sector else []

-- a text of at most 262144 bytes says a group
pub record IsTextOf (text : List ℕ) (group : Group) : Type 0 where
  pub says : group_of text ≡ Ok group
  pub short : length text ≤ 262144
