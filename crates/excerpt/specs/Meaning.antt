-- What a line of the program stands for.
use Rattle.excerpt.specs.Lines as lines
use Rattle.excerpt.specs.declared.shown.Line.{Line}

abbrev pub line_meant : Line → lines.Line
line_meant l = record { number = l.number; before = l.before.now; from = l.from.now }
