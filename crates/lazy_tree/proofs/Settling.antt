-- What is settled, whatever the counter and the room.
use Rattle.std.proofs.Common.{◌≡◌, ℕ, List, [], ◌∷◌, ◌++◌, Bool, true, false, MatchBool, All, sym, subst}
use Rattle.std.proofs.lemmas.List.Elements.{All-nil, All-push}
use Rattle.bsan_ids.specs.declared.numbers.Tag.{Tag}
use Rattle.bsan_ids.specs.declared.numbers.Span.{Span}
use Rattle.perm_table.specs.declared.Kind.{Kind}
use Rattle.lazy_tree.specs.declared.tree.Node.{Node}
use Rattle.lazy_tree.specs.declared.tree.Settled.{Settled}
use Rattle.lazy_tree.specs.Shape.{Shape}
use Rattle.lazy_tree.specs.Settled.{IsSettled, AreSettled, bare}

pub settled-bare : (t : Shape) (tag : Tag) (span : Span) (kind : Kind) → IsSettled t tag span kind → IsSettled (bare t.root t.size t.nodes) tag span kind
settled-bare t tag span kind h = record { at = h.at; stored = h.stored; named = h.named; quiet = record { node = h.quiet.node; within = h.quiet.within; still = h.quiet.still }; room = h.room }

pub bare-settled : (t : Shape) (tag : Tag) (span : Span) (kind : Kind) → IsSettled (bare t.root t.size t.nodes) tag span kind → IsSettled t tag span kind
bare-settled t tag span kind h = record { at = h.at; stored = h.stored; named = h.named; quiet = record { node = h.quiet.node; within = h.quiet.within; still = h.quiet.still }; room = h.room }

-- The lists of accesses that are kept in mind.
module _ (root : Tag) (size : ℕ) (nodes : List Node) where
  abbrev pub Is : Settled → Type 0
  Is s = IsSettled (bare root size nodes) s.tag s.span s.kind

  pub none-settled : (known : List Settled) → known ≡ [] → AreSettled root size nodes known
  none-settled known none = record { each = subst (λ (ks : List Settled). All Is ks) (sym none) (All-nil Is) }

  pub kept-settled : (b : Bool) (known after : List Settled) (one : Settled) → MatchBool b (after ≡ known ++ one ∷ []) (after ≡ []) → Is one → AreSettled root size nodes known → AreSettled root size nodes after
  kept-settled true known after one is here all = record { each = subst (λ (ks : List Settled). All Is ks) (sym is) (All-push Is known one all.each here) }
  kept-settled false known after one is here all = none-settled after is
