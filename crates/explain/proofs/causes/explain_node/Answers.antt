use Rattle.std.proofs.Common.{◌≡◌, ◌==◌, None, MatchOption, Option, List, take, get_or, sym, ap, subst, ◌∙◌}
use Rattle.std.specs.Prelude.{find}
use Rattle.std.specs.Option.{option_copied}
use Rattle.history.specs.declared.entry.Entry.{Entry}
use Rattle.history.specs.Merge.{stamp_of}
use Rattle.explain.specs.declared.explained.Explained.{Explained}
use Rattle.explain.specs.Explanations.{IsChanger}
use Rattle.explain.specs.Searches.{IsFoundFor, perm_at}
use Rattle.explain.proofs.Causing.{any_default}
use Rattle.explain.proofs.Explaining.{if_ok_map}
use Rattle.explain.proofs.causes.explain_node.Goals as goal

pub returns : goal.returns
returns c =
    let log = c.args.log.now in
    let at = c.args.at in
    let node = c.args.node in
    let v = c.index-entries-at.result in
    let here : v ≡ get_or log.entries at v = c.index-entries-at.is ∙ ap (λ (es : List Entry). get_or es at v) c.as_slice-entries.ensures in
    if_ok_map c.with_causes.result
    (λ (x : Explained). x ≡ record { violation = v; maker = option_copied c.maker.result; changer = option_copied c.in_ok-changer.changer })
    (IsFoundFor log at node c.args.offset)
    (λ x is. record {
      violation = λ d. ap (λ (y : Explained). y.violation) is ∙ here ∙ any_default log.entries at v d c.requires.at;
      maker = ap (λ (y : Explained). y.maker) is ∙ c.maker.ensures ∙ ap (λ (es : List Entry). find (λ (e : Entry). stamp_of e == node.0) (take at es)) c.as_slice-entries.ensures;
      changer = subst (λ (o : Option Entry). MatchOption o (perm_at log node c.args.offset at ≡ None) (IsChanger log.number.0 (take at log.entries) node c.args.offset)) (sym (ap (λ (y : Explained). y.changer) is)) c.in_ok-changer.ensures;
    })
    c.with_causes.ensures
