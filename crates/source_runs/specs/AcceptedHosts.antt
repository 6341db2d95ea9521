-- A thread of an accepted program asks host functions of the table alone.
use Rattle.std.specs.Prelude.{◌≡◌, ℕ, ◌<◌, length}
use Rattle.history.specs.declared.ask.Ask.TheVariants as ask
use Rattle.ir_ast.specs.Numbers.{host_names}
use Rattle.ir_ast.specs.declared.hosts.HostTable.{HostTable}
use Rattle.ir_rules.specs.Rules.{IsAccepted}
use Rattle.source_sem.specs.Joining.{ThreadStands}
use Rattle.source_sem.specs.Source.{Setting, Source, source_ask}

-- in every state that a thread can reach, by the names of the table for which the program was accepted
abbrev pub AcceptedProgramsAskTheTable : Type 0
AcceptedProgramsAskTheTable =
    (x : Setting) (hosts : HostTable) → IsAccepted x.program hosts → x.hosts ≡ host_names hosts.entries
    → (s : Source) (n first second : ℕ) → ThreadStands x.program s → source_ask x s ≡ ask.Host n first second → n < length hosts.entries
