use Rattle.std.proofs.Common.{◌≡◌, ◌↔◌, true, List, subst}
use Rattle.history.specs.declared.log.ThreadLog.{ThreadLog}
use Rattle.source_sem.specs.Source.{source}
use Rattle.record_file.specs.Counts.{AreAllocs, AreStamps, AreThreads}
use Rattle.record_file.proofs.Drawing.{counts_iff}
use Rattle.record_file.proofs.counters.has_counts.Goals as goal

pub returns : goal.returns
returns c = λ x starts made spawned. (
    let logs = c.args.kept.now.threads in
    let words = c.args.kept.now.words in
    let limits = c.args.limits.now in
    let asking = c.args.asking in
    let iff = counts_iff (source x) limits starts logs words asking.makes asking.spawns made spawned in
    let s : (c.in_ok-stamps.stamps ≡ true) ↔ AreStamps limits.steps logs words.stamps =
    subst (λ (ls : List ThreadLog). (c.in_ok-stamps.stamps ≡ true) ↔ AreStamps limits.steps ls words.stamps) c.as_slice-logs.ensures c.in_ok-stamps.ensures in
    let a : (c.in_ok-allocs.allocs ≡ true) ↔ AreAllocs asking.makes logs words.allocs =
    subst (λ (ls : List ThreadLog). (c.in_ok-allocs.allocs ≡ true) ↔ AreAllocs asking.makes ls words.allocs) c.as_slice-logs.ensures c.in_ok-allocs.ensures in
    let r : (c.in_ok-threads.threads ≡ true) ↔ AreThreads asking.spawns logs words.threads =
    subst (λ (ls : List ThreadLog). (c.in_ok-threads.threads ≡ true) ↔ AreThreads asking.spawns ls words.threads) c.as_slice-logs.ensures c.in_ok-threads.ensures in (
      λ t. (let h = c.all_hold.ensures.0 t in iff.0 (s.0 h.0, a.0 h.1, r.0 h.2)),
      λ h. (let k = iff.1 h in c.all_hold.ensures.1 (s.1 k.0, a.1 k.1, r.1 k.2)),
    ))
