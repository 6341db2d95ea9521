-- What is known of a closure that answers for the functions of a table.
use Rattle.std.specs.Prelude.{ℕ, ◌<◌, ◌^◌, Option, Some, None, length, slice_get}
use Rattle.std.specs.Coded.{le_prop, Π_prop, →_prop, Coded-set, coded_ℕ}
use Rattle.std.specs.List.{IsDistinct}
use Rattle.std.specs.Str.{bytes_eq}
use Rattle.ir_ast.specs.HostAnswers.{Allows, MayAnswer}
use Rattle.ir_ast.specs.Numbers.{host_names}
use Rattle.ir_ast.specs.declared.hosts.HostEntry.{HostEntry}
use Rattle.ir_ast.specs.declared.hosts.HostRule.{HostRule}
use Rattle.ir_ast.specs.declared.hosts.HostRule.TheVariants.{Min, Max, Popcount, ByteSwap, Any}
use Rattle.ir_ast.specs.declared.hosts.HostTable.{HostTable}

abbrev pub HaveOwnNames : HostTable → Type 0
HaveOwnNames table = IsDistinct bytes_eq (host_names table.entries)

-- it may be called for each function, with any two words
abbrev pub MayBeAsked : HostTable → (ℕ → ℕ → ℕ → Type 0) → Type 0
MayBeAsked table may = (number first second : ℕ) → number < length table.entries → first < 2 ^ 64 → second < 2 ^ 64 → may number first second

-- the rule of the function of this number lets it answer this
abbrev pub IsAnswer : HostTable → ℕ → ℕ → ℕ → ℕ → Type 0
IsAnswer table number first second answer = MayAnswer (slice_get table.entries number) first second answer

-- whatever two words it is handed, each answer meets the function's rule
abbrev pub MeetsRules : HostTable → (ℕ → ℕ → ℕ → ℕ → Type 0) → Type 0
MeetsRules table gives =
    (number first second answer : ℕ) → number < length table.entries → first < 2 ^ 64 → second < 2 ^ 64 → answer < 2 ^ 64
    → gives number first second answer → IsAnswer table number first second answer

-- these facts have one proof at most

allows_once : (rule : HostRule) (first second answer : ℕ) → IsProp (Allows rule first second answer)
allows_once Min first second answer = Coded-set coded_ℕ _ _
allows_once Max first second answer = Coded-set coded_ℕ _ _
allows_once Popcount first second answer = Coded-set coded_ℕ _ _
allows_once ByteSwap first second answer = Coded-set coded_ℕ _ _
allows_once Any first second answer = le_prop

may_answer_once : (o : Option HostEntry) (first second answer : ℕ) → IsProp (MayAnswer o first second answer)
may_answer_once None first second answer = λ p q. absurd p
may_answer_once (Some entry) first second answer = allows_once entry.rule first second answer

pub meets_rules_once : (table : HostTable) (gives : ℕ → ℕ → ℕ → ℕ → Type 0) → IsProp (MeetsRules table gives)
meets_rules_once table gives =
    Π_prop (λ number. Π_prop (λ first. Π_prop (λ second. Π_prop (λ answer. →_prop (→_prop (→_prop (→_prop (→_prop (may_answer_once (slice_get table.entries number) first second answer)))))))))
