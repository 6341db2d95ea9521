use Rattle.std.proofs.Common.{◌∙◌, ap, sym}
use Rattle.ir_ast.specs.declared.hosts.HostEntry.{HostEntry}
use Rattle.ir_rules.proofs.Agree.{named_at, at_place}
use Rattle.ir_verify.proofs.names.host_named.Goals as goal

pub returns-in-Some : goal.returns-in-Some
returns-in-Some c =
    let items = c.args.table.now.hosts.now in
    let q = c.args.name.now in
    c.get-in-Some.ensures.value ∙ ap (at_place items) (c.in-Some.ensures.value ∙ c.args.table.now.finds_hosts q) ∙ sym (named_at (λ (h : HostEntry). h.name) items q)

pub returns-in-None : goal.returns-in-None
returns-in-None c =
    let items = c.args.table.now.hosts.now in
    let q = c.args.name.now in
    ap (at_place items) (c.in-None.ensures.value ∙ c.args.table.now.finds_hosts q) ∙ sym (named_at (λ (h : HostEntry). h.name) items q)
