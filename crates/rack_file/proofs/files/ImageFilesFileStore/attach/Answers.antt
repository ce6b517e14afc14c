use Rattle.rack_file.proofs.FilesAttached.{file_attached}
use Rattle.rack_file.proofs.files.ImageFilesFileStore.attach.Goals as goal

pub returns-in-Ok-open_disk : goal.returns-in-Ok-open_disk
returns-in-Ok-open_disk c =
    file_attached _ _ c.in-Ok-open_disk.disk _ _ _ _ c.in-Ok-open_disk.ensures.opened c.in-Ok-open_disk.ensures.unfaulted c.requires c.add.ensures.faults c.add.ensures.added c.add.ensures.refused
