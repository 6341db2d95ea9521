-- What rules hold.
use Rattle.std.specs.Prelude.{Bool, true, false, ◌&&◌, nat_le, Option, Some, None}
use Rattle.std.specs.List.{list_any}
use Rattle.suppress.specs.declared.case.Cause.{Cause}
use Rattle.suppress.specs.declared.case.Cause.TheVariants.{Denied, StrongFree, Stranger, Freed, OutOfRange}
use Rattle.suppress.specs.declared.case.Case.{Case}
use Rattle.suppress.specs.declared.rules.Rule.{Rule}
use Rattle.suppress.specs.declared.rules.Rules.{Rules}

-- any cause, or this one
abbrev pub is_cause : Option Cause → Cause → Bool
is_cause None other = true
is_cause (Some Denied) Denied = true
is_cause (Some StrongFree) StrongFree = true
is_cause (Some Stranger) Stranger = true
is_cause (Some Freed) Freed = true
is_cause (Some OutOfRange) OutOfRange = true
is_cause (Some cause) other = false

-- the cause is the rule's, and the site one of its sites
abbrev pub rule_holds : Rule → Case → Bool
rule_holds rule case = is_cause rule.cause case.cause && nat_le rule.first case.site && nat_le case.site rule.last

-- one of the rules holds it
abbrev pub holds : Rules → Case → Bool
holds rules case = list_any (λ rule. rule_holds rule case) rules.list
