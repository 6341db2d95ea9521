use Rattle.std.proofs.Common.{◌≡◌, false, ◌+◌, ◌<◌, List, Bool, Option, length, replicate, take, get_or, sym, ap, subst, ◌∙◌, arith}
use Rattle.ir_rules.specs.declared.rule.Fault.{Fault}
use Rattle.ir_rules.specs.Least.{IsLeast, lesser}
use Rattle.ir_assigned.specs.declared.mentions.Mention.{Mention}
use Rattle.std.specs.Prelude.{Contains}
use Rattle.ir_rules.proofs.Least.{least-same}
use Rattle.ir_assigned.proofs.Firsts.{In, contains_in, in_contains}
use Rattle.ir_assigned.specs.Mentions.{define, defined, mention_fault, scan}
use Rattle.ir_rules.proofs.Any.{take_whole}
use Rattle.ir_assigned.proofs.Scan.{length_defined, defined_next, scan_next, length_blank}
use Rattle.ir_assigned.proofs.search.early_use.Goals as goal

abbrev no_mention : Mention
no_mention = record { block = 0; at = 0; defines = false }

pub loop-mention-init : goal.loop-mention-init
loop-mention-init c = record { marks = c.in_ok-marks.ensures.items_if_clones_equal (λ y h. h); first = λ x h. absurd h }

pub mention_fault-requires : goal.mention_fault-requires
mention_fault-requires c =
    let n = length c.args.entered.now in
    let size : length c.loop-mention.marks.items ≡ n = ap length c.loop-mention.invariant.marks ∙ length_defined (replicate n false) (take c.loop-mention.mention-index c.args.mentions.now) ∙ length_blank n in
    let lt : (get_or c.args.mentions.now c.loop-mention.mention-index no_mention).block < n = omega (arith, c.requires c.loop-mention.mention-index no_mention c.loop-mention-test.true) in
    record { entered = lt; marks = omega (arith, lt, size) }

pub mark-requires : goal.mark-requires
mark-requires c =
    let n = length c.args.entered.now in
    let size : length c.loop-mention.marks.items ≡ n = ap length c.loop-mention.invariant.marks ∙ length_defined (replicate n false) (take c.loop-mention.mention-index c.args.mentions.now) ∙ length_blank n in
    omega (arith, size, c.requires c.loop-mention.mention-index no_mention c.loop-mention-test.true)

pub loop-mention-preserved : goal.loop-mention-preserved
loop-mention-preserved c =
    let n = length c.args.entered.now in
    let blank = replicate n false in
    let ms = c.args.mentions.now in
    let i = c.loop-mention.mention-index in
    let m = get_or ms i no_mention in
    let entered = c.args.entered.now in
    let found : c.mention_fault.result ≡ mention_fault entered (defined blank (take i ms)) m =
    c.mention_fault.ensures ∙ ap (λ (z : List Bool). mention_fault entered z m) (c.deref.ensures.value ∙ c.loop-mention.invariant.marks) in
    record {
      marks = c.mark.ensures ∙ ap (λ (z : List Bool). define z m) c.loop-mention.invariant.marks ∙ sym (defined_next blank ms i no_mention c.loop-mention-test.true);
      first = subst (λ (z : Option Fault). IsLeast (In (scan entered blank (take (i + 1) ms))) z) (sym (c.lesser_fault-first.ensures ∙ ap (lesser c.loop-mention.first) found))
          (scan_next entered blank ms i no_mention c.loop-mention.first c.loop-mention-test.true c.loop-mention.invariant.first);
    }

pub returns : goal.returns
returns c =
    let blank = replicate (length c.args.entered.now) false in
    let faults = scan c.args.entered.now blank c.args.mentions.now in
    least-same (In faults) (Contains faults) c.loop-mention.first (in_contains faults) (contains_in faults)
    (subst (λ (z : List Mention). IsLeast (In (scan c.args.entered.now blank z)) c.loop-mention.first) (take_whole c.args.mentions.now c.loop-mention.mention-index c.loop-mention-test.false) c.loop-mention.invariant.first)
