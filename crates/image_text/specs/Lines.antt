-- The text of an image: what stands on it of partition tables, md superblocks and LVM metadata, line by line.
use Rattle.std.specs.Prelude.{ℕ, ◌+◌, ◌-◌, nat_lt, if◌then◌else◌, List, [], ◌∷◌, ◌++◌, length, slice_get, codes, decimal, pos, Option, Some, None, Result, Ok, Err}
use Rattle.std.specs.Fmt.{signed_decimal}
use Rattle.std.specs.Ordering.{int_eq}
use Rattle.shr_script.specs.Reply.{as_line}
use Rattle.gpt_table.specs.declared.Entry.{Entry}
use Rattle.gpt_table.specs.declared.Seen.{Seen as SeenTable}
use Rattle.gpt_table.specs.declared.TableCopy.{TableCopy}
use Rattle.gpt_table.specs.declared.TableCopy.TheVariants.{Primary, Backup}
use Rattle.gpt_table.specs.Disk.{Contents, first_table}
use Rattle.md_super.specs.declared.superblock.Super.{Super}
use Rattle.md_super.specs.declared.superblock.SuperFault.{SuperFault}
use Rattle.md_super.specs.declared.superblock.SuperFault.TheVariants.{NotMd, TooLong, BadSum}
use Rattle.md_super.specs.Layout.{decoded}
use Rattle.lvm_text.specs.declared.group.Group.{Group}
use Rattle.lvm_text.specs.declared.group.TextFault.{TextFault}
use Rattle.lvm_text.specs.declared.group.TextFault.TheVariants as fault
use Rattle.lvm_text.specs.Group.{group_of}
use Rattle.image_text.specs.declared.volume.Volume.{Volume}
use Rattle.image_text.specs.declared.volume.Volume.TheVariants as volume
use Rattle.image_text.specs.Volume.{before_zero, volume_at}

-- `image N`
abbrev pub image_line : ℕ → List ℕ
image_line sectors = as_line (codes "image " ++ decimal sectors)

-- which copy of a table is the first valid one
abbrev pub copy_words : TableCopy → List ℕ
copy_words Primary = codes "table primary"
copy_words Backup = codes "table backup"

abbrev pub table_words : Option SeenTable → List ℕ
table_words None = codes "table none"
table_words (Some seen) = copy_words seen.copy

abbrev pub entries_in : Option SeenTable → List Entry
entries_in None = []
entries_in (Some seen) = seen.table.entries.items

-- ---- md

-- the superblock that a place of so many sectors holds in its sectors 8 and 9
abbrev pub superblock_at : Contents → ℕ → ℕ → Result Super SuperFault
superblock_at image first count =
    if nat_lt count 10 then Err NotMd else decoded (image (first + 8) ++ image (first + 9))

-- a role, where the member's number has one
abbrev pub role_words : Option ℕ → List ℕ
role_words None = codes "none"
role_words (Some role) = decimal role

-- `md level L members N chunk C size S events V resync T role R features F`
abbrev pub superblock_words : Super → List ℕ
superblock_words seen =
    codes "md level " ++ signed_decimal seen.level
    ++ codes " members " ++ decimal seen.raid_disks
    ++ codes " chunk " ++ decimal seen.chunk
    ++ codes " size " ++ decimal seen.size
    ++ codes " events " ++ decimal seen.events
    ++ codes " resync " ++ decimal seen.resync_offset
    ++ codes " role " ++ role_words (slice_get seen.roles.items seen.dev_number)
    ++ codes " features " ++ decimal seen.feature_map

abbrev pub md_words : Result Super SuperFault → List ℕ
md_words (Ok seen) = superblock_words seen
md_words (Err NotMd) = codes "md none"
md_words (Err TooLong) = codes "md too-long"
md_words (Err BadSum) = codes "md bad-sum"

-- where a place's data start: those of a mirror's member, or of a place without a superblock; LVM isn't looked for
-- in the others
abbrev pub data_start : Result Super SuperFault → Option ℕ
data_start (Ok seen) = if int_eq seen.level (pos 1) then Some seen.data_offset else None
data_start (Err NotMd) = Some 0
data_start (Err TooLong) = None
data_start (Err BadSum) = None

-- ---- LVM

-- what a text tells of its group
abbrev pub group_words : Result Group TextFault → List ℕ
group_words (Ok group) =
    codes "group " ++ group.name
    ++ codes " seqno " ++ decimal group.seqno
    ++ codes " extent " ++ decimal group.extent_size
    ++ codes " pvs " ++ decimal (length group.pvs)
    ++ codes " lvs " ++ decimal (length group.lvs)
group_words (Err (fault.Syntax at)) = codes "group refused syntax " ++ decimal at
group_words (Err (fault.Missing key)) = codes "group refused missing"
group_words (Err (fault.Range key)) = codes "group refused range"
group_words (Err fault.Memory) = []

-- a text: its length, itself, and its group
abbrev pub text_lines : List ℕ → List (List ℕ)
text_lines text =
    as_line (codes "text " ++ decimal (length text)) ∷ as_line text ∷ as_line (group_words (group_of text)) ∷ []

abbrev pub volume_lines : Volume → List (List ℕ)
volume_lines volume.Nothing = as_line (codes "lvm none") ∷ []
volume_lines volume.BadCrc = as_line (codes "lvm bad-crc") ∷ []
volume_lines volume.BadHeader = as_line (codes "lvm bad-header") ∷ []
volume_lines volume.Empty = as_line (codes "lvm empty") ∷ []
volume_lines volume.Outside = as_line (codes "lvm outside") ∷ []
volume_lines volume.BadText = as_line (codes "lvm bad-text") ∷ []
volume_lines (volume.Text bytes) = text_lines (before_zero bytes)

-- the LVM lines of a place whose data start so many sectors behind its first
abbrev pub data_lines : Contents → ℕ → ℕ → Option ℕ → List (List ℕ)
data_lines image first count None = []
data_lines image first count (Some start) = volume_lines (volume_at image (first + start) (count - start))

-- ---- all of it

-- the lines of a place: the image itself, or one of its slices
abbrev pub place_lines : Contents → ℕ → ℕ → List (List ℕ)
place_lines image first count =
    as_line (md_words (superblock_at image first count))
    ∷ data_lines image first count (data_start (superblock_at image first count))

-- the sectors of an entry
abbrev pub count_of : Entry → ℕ
count_of entry = entry.slice.last - entry.slice.first + 1

-- `slice I FIRST COUNT`
abbrev pub slice_line : Entry → List ℕ
slice_line entry =
    as_line (codes "slice " ++ decimal entry.number ++ codes " " ++ decimal entry.slice.first ++ codes " " ++ decimal (count_of entry))

-- the lines of each entry in order
abbrev pub slices_lines : Contents → List Entry → List (List ℕ)
slices_lines image [] = []
slices_lines image (entry ∷ entries) =
    (slice_line entry ∷ place_lines image entry.slice.first (count_of entry)) ++ slices_lines image entries

-- the lines of an image of so many sectors
abbrev pub image_lines : ℕ → Contents → List (List ℕ)
image_lines sectors image =
    (image_line sectors ∷ as_line (table_words (first_table sectors image)) ∷ place_lines image 0 sectors)
    ++ slices_lines image (entries_in (first_table sectors image))
