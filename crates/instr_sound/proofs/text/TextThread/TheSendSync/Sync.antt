-- It owns nothing, so threads may share it.
use denote.Param.Send.{IsSync, part_keyless}
use Rattle.instr_sound.specs.contracts.text.TextThread.{the_row}
use Rattle.instr_sound.proofs.text.TextThread.TheSendSync.Send.{send}

pub sync : IsSync the_row
sync = record { shared = λ d b o κ q. part_keyless the_row send q d b o }
