-- How often names stand in a list.
use Rattle.std.specs.Prelude.{ℕ, zero, suc, Bool, true, false, List, Option, Some, None}
use Rattle.std.specs.BTreeMap as tree
use Rattle.std.specs.BTreeMap.{BTreeMap}
use Rattle.std.specs.Cmp.Lexicographic.{slice_cmp}
use Rattle.std.specs.Ordering.{nat_cmp}
use denote.Ref.{Bor}
use Rattle.ir_ast.specs.declared.program.Named.{Named}
use Rattle.ir_rules.specs.declared.rule.Rule.TheVariants.{Twice}
use Rattle.ir_rules.specs.declared.rule.Fault.{Fault}
use Rattle.ir_rules.specs.Least.{fault}
use Rattle.ir_verify.specs.declared.twice.Times.{Times}
use Rattle.ir_verify.specs.declared.twice.Times.TheVariants.{Once, More}

-- 0, 1, or 2 for more
abbrev pub number_of : Option Times → ℕ
number_of None = 0
number_of (Some Once) = 1
number_of (Some More) = 2

abbrev pub times_in : BTreeMap (Bor (List ℕ)) Times → List ℕ → ℕ
times_in table q = number_of (tree.get_by (λ k. slice_cmp nat_cmp q k.now) table)

-- what is noted of a name, known or not
abbrev pub next_times : Bool → Times
next_times false = Once
next_times true = More

-- a count that doesn't go past 2
abbrev pub up_to_two : ℕ → ℕ
up_to_two zero = 0
up_to_two (suc zero) = 1
up_to_two (suc (suc n)) = 2

abbrev pub one_more : ℕ → Bool → ℕ
one_more n false = n
one_more n true = up_to_two (suc n)

abbrev pub twice_fault : ℕ → Named → Option Fault
twice_fault (suc zero) named = Some (fault Twice named.at)
twice_fault times named = None
