use Rattle.std.proofs.Common.{◌≡◌, ◌+◌, Option, List, get_or, take, ℕ, sym, ap, subst, ◌∙◌, arith}
use Rattle.history.specs.declared.entry.Entry.{Entry}
use Rattle.explain.specs.Replays.{Grown, MayAdvance, advanced, grown_of, perm_of}
use Rattle.explain.specs.Searches.{IsFound, IsLastChange, perm_at}
use Rattle.explain.proofs.Stepping.{IsQuiet, object_at, may_at, grown_more, perm_of_grown, found_changed, found_same}
use Rattle.explain.specs.Explanations.{IsChanger}
use Rattle.explain.proofs.Changing.{changer_is}
use Rattle.explain.proofs.Using.{perms_same, perms_differ}
use Rattle.explain.proofs.last_change.last_change.Goals.{then-ne, else-ne}
use Rattle.explain.proofs.last_change.last_change.Goals as goal

pub advance-requires-clause-may : goal.advance-requires-clause-may
advance-requires-clause-may c =
    let log = c.args.log.now in
    let i = c.loop-index.index in
    let e = c.index-entries-index.result in
    let quiet : IsQuiet log.number.0 log.entries c.args.len = record { history = c.requires.history; inside = c.requires.len; quiet = c.requires.clean } in
    let at : get_or log.entries i e ≡ e = sym (c.index-entries-index.is ∙ ap (λ (es : List Entry). get_or es i e) c.as_slice-entries.ensures) in
    subst (λ (g : Grown). MayAdvance g e) (sym c.loop-index.invariant.replay)
    (subst (λ (x : Entry). MayAdvance (grown_of (object_at log.number.0 log.entries i)) x) at (may_at log.number.0 log.entries c.args.len quiet i e c.loop-index-test.true))

pub loop-index-preserved : goal.loop-index-preserved
loop-index-preserved c =
    let log = c.args.log.now in
    let i = c.loop-index.index in
    let e = c.index-entries-index.result in
    let x = c.args.node in
    let offset = c.args.at in
    let quiet : IsQuiet log.number.0 log.entries c.args.len = record { history = c.requires.history; inside = c.requires.len; quiet = c.requires.clean } in
    let at : get_or log.entries i e ≡ e = sym (c.index-entries-index.is ∙ ap (λ (es : List Entry). get_or es i e) c.as_slice-entries.ensures) in
    let grown : c.advance.new.self ≡ grown_of (object_at log.number.0 log.entries (i + 1)) =
    c.in_ok-advance.ensures
    ∙ ap (λ (g : Grown). advanced g e) c.loop-index.invariant.replay
    ∙ ap (λ (y : Entry). advanced (grown_of (object_at log.number.0 log.entries i)) y) (sym at)
    ∙ grown_more log.number.0 log.entries c.args.len quiet i e c.loop-index-test.true in
    let next : c.perm-next.result ≡ perm_at log x offset (i + 1) =
    c.perm-next.ensures.perm ∙ ap (λ (g : Grown). perm_of g x offset) grown ∙ perm_of_grown (object_at log.number.0 log.entries (i + 1)).made x offset in
    let before : c.loop-index.perm ≡ perm_at log x offset i = c.loop-index.invariant.perm in
    record {
      replay = c.perm-next.ensures.same ∙ grown;
      perm = elim c.if-ne.branch [
        | then-ne w ↦ w.perm-is ∙ next
        | else-ne w ↦ w.perm-is ∙ sym (perms_same c.perm-next.result c.loop-index.perm (sym c.ne.ensures ∙ w.if-ne.false)) ∙ next
      ];
      found = elim c.if-ne.branch [
        | then-ne w ↦
            subst (λ (found : Option ℕ). IsFound log x offset (i + 1) found) (sym w.found-is)
            (found_changed log x offset i (λ same. perms_differ c.perm-next.result c.loop-index.perm (sym c.ne.ensures ∙ w.if-ne.true) (next ∙ same ∙ sym before)))
        | else-ne w ↦
            subst (λ (found : Option ℕ). IsFound log x offset (i + 1) found) (sym w.found-is)
            (found_same log x offset i c.loop-index.found (sym next ∙ perms_same c.perm-next.result c.loop-index.perm (sym c.ne.ensures ∙ w.if-ne.false) ∙ before) c.loop-index.invariant.found)
      ];
    }

pub returns-in-Some : goal.returns-in-Some
returns-in-Some c =
    let log = c.args.log.now in
    let k = c.in-Some.index in
    let e = c.index-entries-index-in-Some.result in
    let at : get_or log.entries k e ≡ e = sym (c.index-entries-index-in-Some.is ∙ ap (λ (es : List Entry). get_or es k e) c.as_slice-entries.ensures) in
    let all : c.loop-index.index ≡ c.args.len = omega (arith, c.loop-index.auto.index-end, c.loop-index-test.false) in
    let found : IsFound log c.args.node c.args.at c.args.len c.loop-index.found = subst (λ (i : ℕ). IsFound log c.args.node c.args.at i c.loop-index.found) all c.loop-index.invariant.found in
    let last : IsLastChange log c.args.node c.args.at c.args.len k = subst (λ (o : Option ℕ). IsFound log c.args.node c.args.at c.args.len o) c.in-Some.is found in
    subst (λ (y : Entry). IsChanger log.number.0 (take c.args.len log.entries) c.args.node c.args.at y) at
    (changer_is log c.args.node c.args.at c.args.len k e c.requires.len last)
