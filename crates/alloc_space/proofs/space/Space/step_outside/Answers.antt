use Rattle.std.proofs.Common.{◌∙◌, ap, arith}
use Rattle.history.specs.declared.entry.Entry.{Entry}
use Rattle.alloc_state.specs.Log.{Log}
use Rattle.history.specs.Restriction.{number_of}
use Rattle.alloc_space.specs.Steps.{has_slot}
use Rattle.alloc_space.proofs.Stepping.{prepared_keeps, nothing_seen, plain_desk, last_of, entry_of}
use Rattle.alloc_space.proofs.space.Space.step_outside.Goals as goal

pub returns-then-is_err : goal.returns-then-is_err
returns-then-is_err c = nothing_seen c.args.desk.now

pub returns : goal.returns
returns c =
    let kept = prepared_keeps c.prepare.result c.unmade-state.result c.prepare.new.self _ c.prepare.ensures.ok c.prepare.ensures.err in
    let named = ap (λ n. n.0) (kept.1 ∙ ap (λ (l : Log). l.number) c.unmade-state.ensures) in
    let entry = c.commit.ensures.entry in
    let few = c.if-drawn-limit.false in
    record {
      entry = entry_of c.args.thread c.draw_stamp-drawn.result c.args.site c.prepare.new.self.number c.args.alloc c.args.request _ c.commit.result entry named;
      answers = last_of c.args.self.now.limits c.args.alloc.0 c.prepare.new.self c.commit.new.self c.commit.result c.commit.ensures.appended c.commit.ensures.history c.commit.ensures.bytes named (λ out. kept.0 ∙ ap (λ (l : Log). l.entries) c.unmade-state.ensures);
      step = plain_desk c.args.self.now.limits c.args.desk.now c.draw_stamp-drawn.new.desk c.draw_stamp-drawn.result.0 c.commit.result c.requires.idle c.draw_stamp-drawn.ensures.later (let same = ap (λ s. s.limits.steps) c.self.view_is in omega (arith, few)) (ap (λ (e : Entry). e.stamp.0) entry)
          (ap (λ (e : Entry). has_slot c.args.self.now.limits.allocs (number_of e.alloc)) entry ∙ ap (λ n. has_slot c.args.self.now.limits.allocs n) named ∙ c.requires.no_slot) c.draw_stamp-drawn.ensures.desk;
    }
