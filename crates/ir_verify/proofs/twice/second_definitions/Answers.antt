use Rattle.std.proofs.Common.{◌≡◌, ◌+◌, ◌<◌, ◌≤◌, ℕ, List, Option, map, take, length, get_or, ◌∙◌, ap, sym, subst, Bor, bytes_eq, arith}
use Rattle.std.proofs.lemmas.List.{length-map, get_or-map}
use Rattle.ir_ast.specs.declared.program.Named.{Named}
use Rattle.ir_rules.specs.declared.rule.Fault.{Fault}
use Rattle.ir_rules.specs.Least.{IsLeast, lesser}
use Rattle.ir_verify.specs.Counts.{times_in, one_more, twice_fault}
use Rattle.ir_verify.proofs.Seconds.{Seconds, seconds_next, seconds_all, counts_next}
use Rattle.ir_verify.proofs.twice.second_definitions.Goals as goal

pub loop-named-preserved : goal.loop-named-preserved
loop-named-preserved c =
    let ns = c.args.names.now in
    let i = c.loop-named.named-index in
    let r = c.named-item.result in
    let ds : List Named = map (λ (n : Bor Named). n.now) ns in
    let within : i < length ns = c.loop-named-test.true in
    let long = length-map ns (λ (n : Bor Named). n.now) in
    let lt : i < length ds = omega (arith, within, long) in
    let item : get_or ds i r.now ≡ r.now = get_or-map (λ (n : Bor Named). n.now) ns i r r.now within ∙ sym (ap (λ (n : Bor Named). n.now) c.named-item.is) in
    let table = c.loop-named.table in
    let best = c.loop-named.first in
    let now_found : twice_fault (times_in table (get_or ds i r.now).name) (get_or ds i r.now) ≡ c.twice_fault.result = ap (λ (z : Named). twice_fault (times_in table z.name) z) item ∙ sym c.twice_fault.ensures in (
      counts_next ds i r.now (times_in table) (times_in c.count.new.table) lt c.loop-named.invariant.0
          (λ q. c.in_ok-count.ensures q ∙ ap (λ (z : List ℕ). one_more (times_in table q) (bytes_eq q z)) (c.as_slice.ensures ∙ sym (ap (λ (z : Named). z.name) item))),
      subst (λ (z : Option Fault). IsLeast (Seconds (take (i + 1) ds)) z) (sym (c.lesser_fault-first.ensures ∙ ap (lesser best) (sym now_found)))
          (seconds_next ds i r.now best (times_in table (get_or ds i r.now).name) lt c.loop-named.invariant.1 (c.loop-named.invariant.0 (get_or ds i r.now).name)),
    )

pub returns : goal.returns
returns c =
    let ns = c.args.names.now in
    let past : length ns ≤ c.loop-named.named-index = c.loop-named-test.false in
    let long = length-map ns (λ (n : Bor Named). n.now) in
    seconds_all (map (λ (n : Bor Named). n.now) ns) c.loop-named.named-index c.loop-named.first (omega (arith, past, long)) c.loop-named.invariant.1
