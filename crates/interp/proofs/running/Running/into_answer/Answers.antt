use Rattle.history.specs.declared.log.ThreadLog.{ThreadLog}
use Rattle.interp.proofs.Closing.{answers}
use Rattle.interp.proofs.running.Running.into_answer.Goals as goal

pub returns : goal.returns
returns g c =
    let r = c.args.self in
    let log : ThreadLog = record { number = r.number; parent = c.args.parent; entry_function = r.function; entries = c.from_vec.result; instructions = c.instructions.result; last = c.site.result; «end» = c.args.why } in
    answers g.T.Thread.setting g.T.Thread.state c.args.space.now r c.args.why c.args.parent log c.new.result c.requires.ended c.requires.none
    (λ i. record { number = r.number; parent = c.args.parent; entry_function = r.function; entries = c.from_vec.ensures i; instructions = c.instructions.ensures i; last = c.site.ensures i; «end» = c.args.why })
    c.new.ensures
