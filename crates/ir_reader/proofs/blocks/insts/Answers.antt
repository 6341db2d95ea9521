use Rattle.std.proofs.Common.{◌≡◌, ℕ, suc, ◌+◌, Bool, cond, List, [], ◌∷◌, ◌++◌, sym, ap, subst, ◌∙◌}
use Rattle.std.proofs.lemmas.Result.{err_from_is_err_and}
use Rattle.ir_ast.specs.Shapes.{IsInst}
use Rattle.ir_ast.specs.declared.program.Inst.{Inst}
use Rattle.ir_reader.specs.View.{lexes, with_front}
use Rattle.ir_reader.specs.Behind.{counts, after_insts}
use Rattle.ir_reader.specs.Wants.{begins_if}
use Rattle.ir_reader.specs.Insts.{inst_at}
use Rattle.ir_reader.specs.Blocks.{is_inst, after_inst, insts_at}
use Rattle.ir_reader.proofs.Singles.{Any}
use Rattle.ir_reader.proofs.InstParts.{inst_phrase}
use Rattle.ir_reader.proofs.BlockParts.{spell_inst_at, inst_begins, NoInst}
use Rattle.ir_reader.proofs.Counts.{inst_below, register_below}
use Rattle.ir_reader.proofs.InstSteps.{no_front, none_after, one_after}
use Rattle.ir_reader.proofs.Loop.{goes_on, is_done, breaks_as, falls}
use Rattle.ir_reader.proofs.blocks.insts.Goals as goal

pub loop-alloc-init : goal.loop-alloc-init
loop-alloc-init c = record {
  so_far = ap (λ (z : List Inst). with_front z (insts_at c.args.version (counts c.args.before) (lexes c.args.text.now c.args.tokens.now))) c.new-insts.ensures ∙ no_front (insts_at c.args.version (counts c.args.before) (lexes c.args.text.now c.args.tokens.now));
  counted = none_after (counts c.args.before) ∙ ap (λ (z : List Inst). after_insts (counts c.args.before) z) (sym c.new-insts.ensures);
}

pub after_inst-behind-requires : goal.after_inst-behind-requires
after_inst-behind-requires c = record {
  instructions = inst_below c.args.version c.loop-alloc.behind.instructions c.loop-alloc.behind.registers (lexes c.args.text.now c.loop-alloc.rest.now) c.in_ok-next.next (lexes c.args.text.now c.in_ok-next.after.now) c.in_ok-next.ensures;
  registers = λ defines. register_below c.args.version c.loop-alloc.behind.instructions c.loop-alloc.behind.registers (lexes c.args.text.now c.loop-alloc.rest.now) c.in_ok-next.next (lexes c.args.text.now c.in_ok-next.after.now) c.in_ok-next.ensures (sym c.is_some.ensures ∙ defines);
}

pub returns-in_err-next-clause-read : goal.returns-in_err-next-clause-read
unfolding insts_at
returns-in_err-next-clause-read c =
    let p = err_from_is_err_and c.from_residual.result c.from_residual.ensures.1 in
    rw (p.1, p.2) (breaks_as (λ _. IsInst c.args.version) spell_inst_at Any (λ (m : ℕ × ℕ). inst_at c.args.version m.0 m.1) (λ m. inst_phrase c.args.version m.0 m.1) after_inst (begins_if is_inst) (inst_begins c.args.version) NoInst (λ rest e. e) (λ _ _ _ _ _ _ _. tt) (counts c.loop-alloc.behind)
    c.args.text.now c.in_err-next.field-0.0 c.loop-alloc.insts (lexes c.args.text.now c.loop-alloc.rest.now) (insts_at c.args.version (counts c.args.before) (lexes c.args.text.now c.args.tokens.now))
    (sym c.begins_inst.ensures ∙ c.loop-alloc-test.true) c.in_err-next.ensures c.loop-alloc.invariant.so_far)

pub loop-alloc-smaller : goal.loop-alloc-smaller
loop-alloc-smaller c = falls (λ _. IsInst c.args.version) spell_inst_at Any (λ (m : ℕ × ℕ). inst_at c.args.version m.0 m.1) (λ m. inst_phrase c.args.version m.0 m.1) after_inst (begins_if is_inst) (inst_begins c.args.version) NoInst (λ rest e. e) (λ _ _ _ _ _ _ _. tt) (counts c.loop-alloc.behind)
    c.args.text.now c.loop-alloc.rest.now c.in_ok-next.next c.in_ok-next.after.now c.in_ok-next.ensures

pub loop-alloc-preserved : goal.loop-alloc-preserved
unfolding insts_at
loop-alloc-preserved c =
    let n = counts c.loop-alloc.behind in
    let total = insts_at c.args.version (counts c.args.before) (lexes c.args.text.now c.args.tokens.now) in
    let defines : counts c.after_inst-behind.result ≡ after_inst n c.in_ok-next.next = c.after_inst-behind.ensures ∙ ap (λ (b : Bool). (suc n.0, n.1 + cond b 1 0)) c.is_some.ensures in
    let more = goes_on (λ _. IsInst c.args.version) spell_inst_at Any (λ (m : ℕ × ℕ). inst_at c.args.version m.0 m.1) (λ m. inst_phrase c.args.version m.0 m.1) after_inst (begins_if is_inst) (inst_begins c.args.version) NoInst (λ rest e. e) (λ _ _ _ _ _ _ _. tt) n
    c.loop-alloc.insts (lexes c.args.text.now c.loop-alloc.rest.now) c.in_ok-next.next (lexes c.args.text.now c.in_ok-next.after.now) total
    (sym c.begins_inst.ensures ∙ c.loop-alloc-test.true) c.in_ok-next.ensures c.loop-alloc.invariant.so_far in
    record {
      so_far = subst (λ (z : List Inst). with_front z (insts_at c.args.version (counts c.after_inst-behind.result) (lexes c.args.text.now c.in_ok-next.after.now)) ≡ total) (sym c.in_ok-push.ensures.ok)
          (subst (λ (z : ℕ × ℕ). with_front (c.loop-alloc.insts ++ c.in_ok-next.next ∷ []) (insts_at c.args.version z (lexes c.args.text.now c.in_ok-next.after.now)) ≡ total) (sym defines) more);
      counted = defines ∙ ap (λ (z : ℕ × ℕ). after_inst z c.in_ok-next.next) c.loop-alloc.invariant.counted ∙ one_after (counts c.args.before) c.loop-alloc.insts c.in_ok-next.next
          ∙ ap (λ (z : List Inst). after_insts (counts c.args.before) z) (sym c.in_ok-push.ensures.ok);
    }

pub returns-clause-read : goal.returns-clause-read
unfolding insts_at
returns-clause-read c = is_done (λ _. IsInst c.args.version) spell_inst_at Any (λ (m : ℕ × ℕ). inst_at c.args.version m.0 m.1) (λ m. inst_phrase c.args.version m.0 m.1) after_inst (begins_if is_inst) (inst_begins c.args.version) NoInst (λ rest e. e) (λ _ _ _ _ _ _ _. tt) (counts c.loop-alloc.behind)
    c.loop-alloc.insts (lexes c.args.text.now c.loop-alloc.rest.now) (insts_at c.args.version (counts c.args.before) (lexes c.args.text.now c.args.tokens.now))
    (sym c.begins_inst.ensures ∙ c.loop-alloc-test.false) c.loop-alloc.invariant.so_far

pub returns-clause-behind : goal.returns-clause-behind
returns-clause-behind c = c.loop-alloc.invariant.counted
