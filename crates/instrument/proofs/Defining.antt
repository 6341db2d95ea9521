-- Definitions that are added one after the other.
use Rattle.std.proofs.Common.{List, [], ◌++◌, ℕ, Option, sym, ap, ◌∙◌, append_assoc}
use Rattle.std.proofs.lemmas.List.{append-nil, map-append}
use Rattle.ir_ast.specs.declared.types.Attr.{Attr}
use Rattle.ir_ast.specs.Attributes.{Definition, registers, attrs}
use Rattle.instrument.specs.Sets.{names_in, Defines}
use Rattle.instrument.specs.declared.scope.Definitions.{Definitions}

pub defines_none : (a : Definitions) → Defines a a []
defines_none a = record { names = sym (append-nil (names_in a.names.items)); attrs = sym (append-nil a.attrs.items) }

pub defines_both : (a b c : Definitions) (ds es : List Definition) → Defines a b ds → Defines b c es → Defines a c (ds ++ es)
defines_both a b c ds es p q = record {
  names = q.names ∙ ap (λ (z : List (List ℕ)). z ++ registers es) p.names ∙ append_assoc (names_in a.names.items) (registers ds) (registers es)
      ∙ ap (λ (z : List (List ℕ)). names_in a.names.items ++ z) (sym (map-append (λ d. d.name) ds es));
  attrs = q.attrs ∙ ap (λ (z : List (Option Attr)). z ++ attrs es) p.attrs ∙ append_assoc a.attrs.items (attrs ds) (attrs es)
      ∙ ap (λ (z : List (Option Attr)). a.attrs.items ++ z) (sym (map-append (λ d. d.attr) ds es));
}

pub ruleset defines_steps = (defines_none, defines_both)
