-- Why the system did not read a file.
use Rattle.std.specs.declared.io.ErrorKind.{ErrorKind}
use Rattle.std.specs.declared.io.ErrorKind.TheVariants.{OutOfMemory}
use Rattle.outside_io.specs.declared.files.FileFault.{FileFault}
use Rattle.outside_io.specs.declared.files.FileFault.TheVariants.{Failed, NoMemory}

-- the fault of a system's error: want of memory, and every other a failed read
abbrev pub unread_by : ErrorKind → FileFault
unread_by OutOfMemory = NoMemory
unread_by kind = Failed
