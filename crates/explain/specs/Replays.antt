-- What is kept of an allocation while the entries before its first violation are replayed.
use Rattle.std.specs.Prelude.{ℕ, ◌<◌, ◌&&◌, Bool, true, false, not, IsTrue, Option, Some, None, MatchOption, is_some, All, if◌then◌else◌}
use Rattle.std.specs.Option.{option_map, option_map_or, option_and_then}
use Rattle.bsan_ids.specs.declared.numbers.Tag.{Tag}
use Rattle.perm_table.specs.declared.Perm.{Perm}
use Rattle.eager_tree.specs.Tree.{Tree, new_tree, is_node}
use Rattle.history.specs.declared.entry.Entry.{Entry}
use Rattle.history.specs.declared.entry.Plain.{Plain}
use Rattle.history.specs.declared.entry.Plain.TheVariants.{Done}
use Rattle.history.specs.declared.entry.Request.{Request}
use Rattle.history.specs.declared.entry.Request.TheVariants.{Make, Retag, EndProtector}
use Rattle.history.specs.Merge.{stamp_of}
use Rattle.history.specs.Memory.{span_of}
use Rattle.history.specs.Objects.{Object, Made, through, kind_of}
use Rattle.history.specs.Replies.{trap_of}
use Rattle.lazy_access.specs.declared.request.TreeRequest.{TreeRequest}
use Rattle.lazy_access.specs.declared.request.TreeRequest.TheVariants.{Retag as AskRetag, EndProtector as AskEnd}
use Rattle.lazy_access.specs.Ready.{Fits}
use Rattle.alloc_state.specs.Asking.{asks_on, asker, told}
use Rattle.explain.specs.Explanations.{is_free, perm_in}

-- an allocation's tree, once it is made, and whether it is live
pub record Grown : Type 0 where
  pub tree : Option Tree
  pub live : Bool

abbrev pub unmade_tree : Grown
unmade_tree = record { tree = None; live = false }

abbrev pub grown_in : Option Made → Grown
grown_in made = record { tree = option_map (λ m. m.tree) made; live = option_map_or (λ m. m.memory.live) made false }

-- what is kept of an allocation
abbrev pub grown_of : Object → Grown
grown_of o = grown_in o.made

abbrev pub perm_of : Grown → Tag → ℕ → Option Perm
perm_of g x offset = option_and_then (λ t. perm_in t x offset) g.tree

abbrev pub traps : Entry → Bool
traps e = is_some (trap_of e.reply.plain)

abbrev pub is_done : Plain → Bool
is_done Done = true
is_done _ = false

-- the step freed the allocation
abbrev pub frees : Entry → Bool
frees e = is_free e.request && is_done e.reply.plain

-- the tag of the node that an entry makes
abbrev pub tag_of : Entry → Tag
tag_of e = record { 0 = stamp_of e }

-- what a step that is Clean and made no allocation asked of the tree, if it asked it
abbrev pub asked_by : Bool → Tree → Request → Option TreeRequest
asked_by live t (Make size place) = None
asked_by live t (EndProtector tag) = if live && is_node t tag then Some (AskEnd tag) else None
asked_by live t (Retag at len kind guard prov) = option_map (λ p. AskRetag p.tag (record { start = at; len = len }) kind guard) prov
asked_by live t request = option_map (λ p. asks_on (span_of request) (kind_of request) p.tag) (through request)

abbrev pub asked : Bool → Tree → Entry → Option TreeRequest
asked live t e = if traps e then None else asked_by live t e.request

abbrev pub tree_told : Tree → Tag → Option TreeRequest → Tree
tree_told t new None = t
tree_told t new (Some request) = (told t request new).1

-- what a Clean step leaves
abbrev pub advanced_by : Grown → Entry → Request → Grown
advanced_by g e (Make size place) = record { tree = Some (new_tree size (tag_of e)); live = true }
advanced_by g e _ = record { tree = option_map (λ t. tree_told t (tag_of e) (asked g.live t e)) g.tree; live = g.live && not (frees e) }

abbrev pub advanced : Grown → Entry → Grown
advanced g e = advanced_by g e e.request

-- the tree can be asked: through one of its nodes, and on bytes of the allocation
pub record IsAskable (t : Tree) (request : TreeRequest) : Type 0 where
  pub node : IsTrue (is_node t (asker request))
  pub fits : Fits t.size request

-- the tree can be asked what a step asks, and the step's tag is new to it
pub record MayAdvance (g : Grown) (e : Entry) : Type 0 where
  pub asks : MatchOption g.tree (Unit {0}) (λ t. MatchOption (asked g.live t e) (Unit {0}) (IsAskable t))
  pub newest : MatchOption g.tree (Unit {0}) (λ t. All (λ n. n.tag.0 < stamp_of e) t.nodes)
