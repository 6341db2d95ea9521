-- What clap's errors say of the words.
use Rattle.clap.specs.declared.error.kind.ErrorKind.{ErrorKind}
use Rattle.clap.specs.declared.error.kind.ErrorKind.TheVariants.{OutOfMemory}
use Rattle.command_words.specs.declared.WordsFault.{WordsFault}
use Rattle.command_words.specs.declared.WordsFault.TheVariants.{Refused, NoMemory}

-- why they ask for nothing: want of memory, and every other kind refuses them
abbrev pub refused_by : ErrorKind → WordsFault
refused_by OutOfMemory = NoMemory
refused_by kind = Refused
