-- `write_file` writes the header and the records behind it.
-- The law of a trail's file says what they are together.
use Rattle.file_save.proofs.Saves.{file_written}
use Rattle.file_save.proofs.write_file.Goals as goal

pub returns : goal.returns
returns c = search file_written
