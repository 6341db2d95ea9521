use Rattle.std.proofs.Common.{◌≡◌, true, Option, None, Result, ap, sym, subst, ◌∙◌}
use Rattle.bsan_ids.specs.declared.numbers.Tag.{Tag}
use Rattle.history.specs.declared.trap.Trap.{Trap}
use Rattle.history.specs.declared.entry.Verdict.{Verdict}
use Rattle.history.specs.Memory.{trap_in}
use Rattle.history.specs.Objects.{reborrow}
use Rattle.lazy_tree.specs.Shape.{Shape}
use Rattle.lazy_tree.specs.Eager.{eager_of}
use Rattle.lazy_access.specs.declared.request.TreeRequest.{TreeRequest}
use Rattle.alloc_state.specs.declared.outcome.Outcome.{Outcome}
use Rattle.alloc_state.specs.Outcomes.{seen_in}
use Rattle.alloc_state.specs.PlainValues.{PlainValue, is_data, carried_in, done_by}
use Rattle.alloc_state.specs.Asking.{asked, asked_unless, judged_as, refusal}
use Rattle.alloc_state.specs.Counted.{IsCounted}
use Rattle.alloc_state.specs.MadeValues.{MadeValue, made_of, judged_of}
use Rattle.alloc_state.proofs.Answering.{may-ask, is-data, refusal-data, retag-answers, retag-denied, data-answers, answer_of, not-clean}
use Rattle.alloc_state.proofs.made_state.MadeState.step.Goals as goal

pub judge-requires-in-Ok : goal.judge-requires-in-Ok
judge-requires-in-Ok c =
    let v : MadeValue = c.args.self.now in
    let request = c.args.request.now in
    let plain : c.self.inside.plain ≡ v.plain = ap (λ (u : MadeValue). u.plain) c.self.view_is in
    let tree : c.self.inside.tree ≡ v.tree = ap (λ (u : MadeValue). u.tree) c.self.view_is in
    let it : is_data request ≡ true = is-data request c.requires.make c.in_default.not-Retag c.in_default.not-EndProtector in
    let trap : trap_in v.plain.memory request ≡ None = sym (c.in-Ok.ensures.trap ∙ ap (λ (p : PlainValue). trap_in p.memory request) plain) in
    may-ask c.args.number.0 v c.self.inside.tree request (record { 0 = c.args.stamp.0 }) c.args.asks c.requires.asked tree c.sizes.ensures c.requires.fitting (refusal-data v.plain.memory request it ∙ trap) c.requires.prepared c.requires.newest

pub returns-in-Ok : goal.returns-in-Ok
returns-in-Ok c =
    let v : MadeValue = c.args.self.now in
    let w : MadeValue = c.judge-in-Ok.new.self in
    let request = c.args.request.now in
    let new : Tag = record { 0 = c.args.stamp.0 } in
    let plain : c.self.inside.plain ≡ v.plain = ap (λ (u : MadeValue). u.plain) c.self.view_is in
    let tree : c.self.inside.tree ≡ v.tree = ap (λ (u : MadeValue). u.tree) c.self.view_is in
    let it : is_data request ≡ true = is-data request c.requires.make c.in_default.not-Retag c.in_default.not-EndProtector in
    let trap : trap_in v.plain.memory request ≡ None = sym (c.in-Ok.ensures.trap ∙ ap (λ (p : PlainValue). trap_in p.memory request) plain) in
    let outcome : Outcome = record { seen = c.in-Ok.seen; carried = c.in-Ok.carried; verdict = c.judge-in-Ok.result } in
    let seen : c.in-Ok.seen ≡ seen_in v.plain.memory request = c.in-Ok.ensures.seen ∙ ap (λ (p : PlainValue). seen_in p.memory request) plain in
    let carried : c.in-Ok.carried ≡ carried_in v.plain.shadow request = c.in-Ok.ensures.carried ∙ ap (λ (p : PlainValue). carried_in p.shadow request) plain in
    let done : w.plain ≡ done_by v.plain request c.run.new.self.room = c.judge-in-Ok.ensures.plain ∙ c.in-Ok.ensures.ok ∙ ap (λ (p : PlainValue). done_by p request c.run.new.self.room) plain in
    let judge : judged_of c.judge-in-Ok.result w ≡ judged_as (eager_of v.tree) (asked c.args.number.0 (made_of v) request) new =
    c.judge-in-Ok.ensures.judged ∙ ap (λ (t : Shape). judged_as (eager_of t) c.args.asks new) tree ∙ ap (λ (a : Result TreeRequest Verdict). judged_as (eager_of v.tree) a new) c.requires.asked in
    let counted : IsCounted v.tree w.tree c.args.asks c.judge-in-Ok.result = subst (λ (t : Shape). IsCounted t w.tree c.args.asks c.judge-in-Ok.result) tree c.judge-in-Ok.ensures.counted in
    record {
      answer = λ piece bytes. data-answers c.args.number.0 v w request c.args.stamp new piece outcome c.run.new.self.room it trap seen carried done judge bytes;
      counted = subst (λ (o : Option Trap). IsCounted v.tree w.tree (asked_unless o (asked c.args.number.0 (made_of v) request)) c.judge-in-Ok.result) (sym (refusal-data v.plain.memory request it ∙ trap))
          (subst (λ (a : Result TreeRequest Verdict). IsCounted v.tree w.tree a c.judge-in-Ok.result) c.requires.asked counted);
    }

pub returns-in_default-verdict : goal.returns-in_default-verdict
returns-in_default-verdict c =
    let v : MadeValue = c.args.self.now in
    let w : MadeValue = c.judge-verdict.new.self in
    let request = c.args.request.now in
    let verdict = c.judge-verdict.result in
    let new : Tag = record { 0 = c.args.stamp.0 } in
    let denied = retag-denied c.args.number.0 new c.in-Retag.prov verdict (not-clean verdict c.in_default-verdict.not-Clean) in
    let judge : judged_of verdict w ≡ judged_as (eager_of v.tree) (asked c.args.number.0 (made_of v) request) new =
    c.judge-verdict.ensures.judged ∙ ap (λ (a : Result TreeRequest Verdict). judged_as (eager_of v.tree) a new) c.requires.asked in
    record {
      answer = λ piece bytes.
          ap (λ (o : Outcome). answer_of c.args.number.0 w piece o) denied
          ∙ retag-answers c.args.number.0 v w request (reborrow c.in-Retag.at c.in-Retag.len c.in-Retag.kind c.in-Retag.guard c.in-Retag.prov) c.args.stamp piece verdict c.in-Retag.is c.judge-verdict.ensures.plain judge;
      counted = subst (λ (o : Option Trap). IsCounted v.tree w.tree (asked_unless o (asked c.args.number.0 (made_of v) request)) verdict) (sym (ap (refusal v.plain.memory) c.in-Retag.is))
          (subst (λ (a : Result TreeRequest Verdict). IsCounted v.tree w.tree a verdict) c.requires.asked c.judge-verdict.ensures.counted);
    }
