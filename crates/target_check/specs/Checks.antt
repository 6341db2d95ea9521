-- The line of a check.
use Rattle.target_code.specs.declared.line.Line.{Line}
use Rattle.target_code.specs.declared.line.Line.TheVariants as line
use Rattle.target_check.specs.declared.lines.Check.{Check}
use Rattle.target_check.specs.declared.lines.Check.TheVariants.{Read, Write, Copy, Free}

abbrev pub check_line : Check → Line
check_line (Read ptr ptr_shadow bytes) = line.CheckRead ptr ptr_shadow bytes
check_line (Write ptr ptr_shadow bytes) = line.CheckWrite ptr ptr_shadow bytes
check_line (Copy to to_shadow from from_shadow len) = line.CheckCopy to to_shadow from from_shadow len
check_line (Free ptr ptr_shadow) = line.CheckFree ptr ptr_shadow
