use Rattle.std.proofs.Common.{◌∙◌, ◌==◌, ◌≡◌, ◌+◌, ℕ, List, ap, sym, subst, arith, rules, length, take}
use borrow.Author.Tests.{tests}
use Rattle.std.specs.Slice.Iter.{split_rest, split_done, split_callee}
use Rattle.std.proofs.lemmas.Iterator.Consumers.{YieldsList-turn, YieldsList-end}
use Rattle.std.proofs.lemmas.Iterator.Splits.{YieldsList-from_slice_split}
use Rattle.std.proofs.lemmas.List.{length_push}
use Rattle.std.proofs.lemmas.List.Splits.{length-slice_split}
use Rattle.std.proofs.lemmas.List.Sums.{count_by-le-length}
use Rattle.ir_ast.specs.declared.program.Function.{Function}
use Rattle.ir_ast.specs.declared.program.Program.{Program}
use Rattle.ir_rules.proofs.Limits.{few_instructions}
use Rattle.suppress.specs.Files.{AreRules, IsFirstRefused, lines_of}
use Rattle.suppress.specs.declared.line.Reading.TheVariants as reading
use Rattle.suppress.specs.declared.rules.Rule.{Rule}
use Rattle.suppress.proofs.Programs.{some_blocks}
use Rattle.suppress.proofs.Reading.{blank_turn, rule_turn, first_refused, whole_file}
use Rattle.suppress.proofs.read.read_rules.Goals as goal

pub read_line-requires-clause-some_blocks : goal.read_line-requires-clause-some_blocks
read_line-requires-clause-some_blocks c =
    some_blocks c.program.result.now c.as_slice-functions.result.now c.program.ensures.is_program c.as_slice-functions.ensures

pub read_line-requires-clause-within : goal.read_line-requires-clause-within
read_line-requires-clause-within c =
    few_instructions c.program.result.now c.as_slice-functions.result.now c.program.ensures.is_program c.as_slice-functions.ensures

pub overflow_add-number : goal.overflow_add-number
overflow_add-number c =
    let t = YieldsList-turn (YieldsList-from_slice_split _ (λ b. b == 10) c.args.bytes.now (ap split_rest c.into_iter-line-iterator.ensures.into_iter_gives ∙ c.split-line-items.ensures.rest) (ap split_done c.into_iter-line-iterator.ensures.into_iter_gives ∙ c.split-line-items.ensures.done) (ap split_callee c.into_iter-line-iterator.ensures.into_iter_gives ∙ c.split-line-items.ensures.closure) (λ x r q k. search (rules, tests))) c.loop-line.yielded _ c.loop-line.yielded_by _ _ c.in-Some.line c.in-Some.is c.next.ensures.steps in
    let n = length-slice_split (λ b. b == 10) c.args.bytes.now in
    let m = count_by-le-length (λ b. b == 10) c.args.bytes.now in
    omega (arith, t.0, n, m, c.loop-line.invariant.counted, c.requires)

pub loop-line-preserved-in-Blank : goal.loop-line-preserved-in-Blank
loop-line-preserved-in-Blank c =
    let t = YieldsList-turn (YieldsList-from_slice_split _ (λ b. b == 10) c.args.bytes.now (ap split_rest c.into_iter-line-iterator.ensures.into_iter_gives ∙ c.split-line-items.ensures.rest) (ap split_done c.into_iter-line-iterator.ensures.into_iter_gives ∙ c.split-line-items.ensures.done) (ap split_callee c.into_iter-line-iterator.ensures.into_iter_gives ∙ c.split-line-items.ensures.closure) (λ x r q k. search (rules, tests))) c.loop-line.yielded _ c.loop-line.yielded_by _ _ c.in-Some.line c.in-Some.is c.next.ensures.steps in
    let fs = c.as_slice-functions.result.now in
    let lines = lines_of c.args.bytes.now in
    let n = length c.loop-line.yielded in
    let line = c.in-Some.line.now in
    record {
      taken = subst (λ (k : ℕ). AreRules fs (take k lines) c.loop-line.list) (sym (length_push c.loop-line.yielded c.in-Some.line))
          (blank_turn fs lines n line c.loop-line.list t.0 t.1 c.loop-line.invariant.taken c.in-Blank.ensures);
      counted = ap (λ (k : ℕ). k + 1) c.loop-line.invariant.counted ∙ sym (length_push c.loop-line.yielded c.in-Some.line);
    }

pub loop-line-preserved : goal.loop-line-preserved
loop-line-preserved c =
    let t = YieldsList-turn (YieldsList-from_slice_split _ (λ b. b == 10) c.args.bytes.now (ap split_rest c.into_iter-line-iterator.ensures.into_iter_gives ∙ c.split-line-items.ensures.rest) (ap split_done c.into_iter-line-iterator.ensures.into_iter_gives ∙ c.split-line-items.ensures.done) (ap split_callee c.into_iter-line-iterator.ensures.into_iter_gives ∙ c.split-line-items.ensures.closure) (λ x r q k. search (rules, tests))) c.loop-line.yielded _ c.loop-line.yielded_by _ _ c.in-Some.line c.in-Some.is c.next.ensures.steps in
    let fs = c.as_slice-functions.result.now in
    let lines = lines_of c.args.bytes.now in
    let n = length c.loop-line.yielded in
    let line = c.in-Some.line.now in
    record {
      taken = subst (λ (k : ℕ). AreRules fs (take k lines) c.push.new.self) (sym (length_push c.loop-line.yielded c.in-Some.line))
          (subst (λ (rs : List Rule). AreRules fs (take (n + 1) lines) rs) (sym c.in_ok-push-in-Rule.ensures.ok) (rule_turn fs lines n line c.loop-line.list c.in-Rule.rule t.0 t.1 c.loop-line.invariant.taken c.in-Rule.ensures));
      counted = ap (λ (k : ℕ). k + 1) c.loop-line.invariant.counted ∙ sym (length_push c.loop-line.yielded c.in-Some.line);
    }

pub returns-in-NoFunction-clause-refused : goal.returns-in-NoFunction-clause-refused
returns-in-NoFunction-clause-refused c =
    let t = YieldsList-turn (YieldsList-from_slice_split _ (λ b. b == 10) c.args.bytes.now (ap split_rest c.into_iter-line-iterator.ensures.into_iter_gives ∙ c.split-line-items.ensures.rest) (ap split_done c.into_iter-line-iterator.ensures.into_iter_gives ∙ c.split-line-items.ensures.done) (ap split_callee c.into_iter-line-iterator.ensures.into_iter_gives ∙ c.split-line-items.ensures.closure) (λ x r q k. search (rules, tests))) c.loop-line.yielded _ c.loop-line.yielded_by _ _ c.in-Some.line c.in-Some.is c.next.ensures.steps in
    let fs = c.as_slice-functions.result.now in
    let lines = lines_of c.args.bytes.now in
    let n = length c.loop-line.yielded in
    let line = c.in-Some.line.now in
    let same : c.as_slice-functions.result.now ≡ c.args.program.now.program.functions = c.as_slice-functions.ensures ∙ ap (λ (p : Program). p.functions) c.program.ensures.value in
    subst (λ (gs : List Function). IsFirstRefused gs lines (c.loop-line.number + 1) reading.NoFunction) same
    (first_refused fs lines n (c.loop-line.number + 1) line c.loop-line.list reading.NoFunction t.0 t.1 c.loop-line.invariant.taken (ap (λ (k : ℕ). k + 1) c.loop-line.invariant.counted) c.in-NoFunction.ensures)

pub returns-in-Bad-clause-refused : goal.returns-in-Bad-clause-refused
returns-in-Bad-clause-refused c =
    let t = YieldsList-turn (YieldsList-from_slice_split _ (λ b. b == 10) c.args.bytes.now (ap split_rest c.into_iter-line-iterator.ensures.into_iter_gives ∙ c.split-line-items.ensures.rest) (ap split_done c.into_iter-line-iterator.ensures.into_iter_gives ∙ c.split-line-items.ensures.done) (ap split_callee c.into_iter-line-iterator.ensures.into_iter_gives ∙ c.split-line-items.ensures.closure) (λ x r q k. search (rules, tests))) c.loop-line.yielded _ c.loop-line.yielded_by _ _ c.in-Some.line c.in-Some.is c.next.ensures.steps in
    let fs = c.as_slice-functions.result.now in
    let lines = lines_of c.args.bytes.now in
    let n = length c.loop-line.yielded in
    let line = c.in-Some.line.now in
    let same : c.as_slice-functions.result.now ≡ c.args.program.now.program.functions = c.as_slice-functions.ensures ∙ ap (λ (p : Program). p.functions) c.program.ensures.value in
    subst (λ (gs : List Function). IsFirstRefused gs lines (c.loop-line.number + 1) reading.Bad) same
    (first_refused fs lines n (c.loop-line.number + 1) line c.loop-line.list reading.Bad t.0 t.1 c.loop-line.invariant.taken (ap (λ (k : ℕ). k + 1) c.loop-line.invariant.counted) c.in-Bad.ensures)

pub returns-clause-rules : goal.returns-clause-rules
returns-clause-rules c =
    let e = YieldsList-end (YieldsList-from_slice_split _ (λ b. b == 10) c.args.bytes.now (ap split_rest c.into_iter-line-iterator.ensures.into_iter_gives ∙ c.split-line-items.ensures.rest) (ap split_done c.into_iter-line-iterator.ensures.into_iter_gives ∙ c.split-line-items.ensures.done) (ap split_callee c.into_iter-line-iterator.ensures.into_iter_gives ∙ c.split-line-items.ensures.closure) (λ x r q k. search (rules, tests))) c.loop-line.yielded _ c.loop-line.yielded_by _ _ c.in-None.is c.next.ensures.steps in
    let same : c.as_slice-functions.result.now ≡ c.args.program.now.program.functions = c.as_slice-functions.ensures ∙ ap (λ (p : Program). p.functions) c.program.ensures.value in
    subst (λ (gs : List Function). AreRules gs (lines_of c.args.bytes.now) c.loop-line.list) same
    (whole_file c.as_slice-functions.result.now (lines_of c.args.bytes.now) (length c.loop-line.yielded) c.loop-line.list e.1 c.loop-line.invariant.taken)
