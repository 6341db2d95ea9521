-- The accesses among an allocation's entries, what a repeat of the last one may look at, and the cuts.
use Rattle.std.specs.Prelude.{ℕ, ◌≡◌, ◌+◌, ◌-◌, ◌<◌, ◌==◌, ◌||◌, ◌++◌, ◌∷◌, [], Bool, true, false, IsTrue, List, Option, Some, None, MatchOption, ◌*◌, ◌≤◌}
use Rattle.std.specs.Option.{option_map, option_map_or}
use Rattle.std.specs.List.{list_any}
use Rattle.bsan_ids.specs.declared.numbers.Prov.{Prov}
use Rattle.bsan_ids.specs.declared.numbers.Span.{Span}
use Rattle.perm_table.specs.declared.Kind.{Kind}
use Rattle.history.specs.declared.trap.Trap.{Trap}
use Rattle.history.specs.declared.entry.Entry.{Entry}
use Rattle.history.specs.declared.entry.Request.{Request}
use Rattle.history.specs.declared.entry.Request.TheVariants.{Retag}
use Rattle.history.specs.declared.entry.Plain.TheVariants.{Trapped}
use Rattle.history.specs.declared.entry.Verdict.{Verdict}
use Rattle.history.specs.declared.entry.Verdict.TheVariants.{Clean}
use Rattle.history.specs.Memory.{span_of}
use Rattle.eager_tree.specs.Tree.{links}
use Rattle.history.specs.Objects.{Object, Made, through, kind_of}
use Rattle.history.specs.Histories.{is_make}
use Rattle.lazy_tree.specs.Quiet.{IsQuiet}
use Rattle.lazy_tree.specs.Ring.{is_cut, count, ring_size}
use Rattle.lazy_tree.specs.Shape.{Shape}
use Rattle.alloc_state.specs.Asking.{asked, asked_unless, refusal}
use Rattle.alloc_state.specs.Counted.{IsCounted, IsRoomTaken}

-- an access: through which provenance, to which bytes, and how
pub record Reach : Type 0 where
  pub prov : Option Prov
  pub span : Span
  pub kind : Kind

-- the access that a request makes, if it makes one
abbrev pub reach_of : Request → Option Reach
reach_of request = option_map (λ span. record { prov = through request; span = span; kind = kind_of request }) (span_of request)

-- the entry is an access that was neither refused nor denied
pub record IsCleanAccess (e : Entry) (r : Reach) : Type 0 where
  pub access : reach_of e.request ≡ Some r
  pub done : (trap : Trap) → e.reply.plain ≡ Trapped trap → ⊥
  pub clean : e.reply.verdict ≡ Clean

-- the access changes nothing of the tree
abbrev pub StaysStill : Shape → Reach → Type 0
StaysStill t r = MatchOption r.prov ⊥ (λ p. IsQuiet t p.tag r.span r.kind)

-- an access that was the last entry, and was neither refused nor denied, changes nothing of the tree
abbrev pub IsStillAfter : List Entry → Option Shape → Type 0
IsStillAfter entries tree =
    (before : List Entry) (e : Entry) (r : Reach) → entries ≡ before ++ e ∷ [] → IsCleanAccess e r → MatchOption tree ⊥ (λ t. StaysStill t r)

abbrev pub is_end_of : Option Span → ℕ → Bool
is_end_of None at = false
is_end_of (Some span) at = at == span.start || at == span.start + span.len

-- whether a place is the first or the end offset of the access or the retag that a request makes
abbrev pub is_end : Request → ℕ → Bool
is_end (Retag at len kind guard prov) place = is_end_of (Some (record { start = at; len = len })) place
is_end request place = is_end_of (span_of request) place

-- the cuts of an allocation's entries
abbrev pub is_cut_by : List Entry → ℕ → Bool
is_cut_by entries at = list_any (λ e. is_end e.request at) entries

-- the pieces of a span: 1, and 1 for each cut of the entries strictly inside it
unfoldable pub pieces_by : List Entry → Span → ℕ
pieces_by entries span = 1 + count (is_cut_by entries) (span.start + 1) (span.len - 1)

-- the tree's cuts are cuts of the entries
abbrev pub HasCutsBy : List Entry → Option Shape → Type 0
HasCutsBy entries tree = MatchOption tree (Unit {0}) (λ t. (at : ℕ) → at < t.size → IsTrue (is_cut t.nodes at) → IsTrue (is_cut_by entries at))

-- a Make brings a tree without a node, and another step counts
abbrev pub IsMadeOrCounted : Bool → ℕ → Made → Shape → Shape → Request → Verdict → Type 0
IsMadeOrCounted true number m t u request verdict = u.nodes ≡ []
IsMadeOrCounted false number m t u request verdict = IsCounted t u (asked_unless (refusal m.memory request) (asked number m request)) verdict

-- what a step does to the tree
abbrev pub IsRunCounted : ℕ → Option Made → Option Shape → Option Shape → Request → Verdict → Type 0
IsRunCounted number (Some m) (Some t) (Some u) request verdict = IsMadeOrCounted (is_make request) number m t u request verdict
IsRunCounted number (Some m) before after request verdict = ⊥
IsRunCounted number None before after request verdict = (before ≡ None) × MatchOption after (Unit {0}) (λ u. u.nodes ≡ [])

-- what the room for a request does to the tree
abbrev pub IsPrepareCounted : ℕ → Option Made → Option Shape → Option Shape → Request → Type 0
IsPrepareCounted number (Some m) (Some t) (Some u) request = IsRoomTaken t u (asked number m request)
IsPrepareCounted number made before after request = after ≡ before

-- the counter of a tree, 0 where there is none
abbrev pub visits_of : Option Shape → ℕ
visits_of tree = option_map_or (λ t. t.visits) tree 0

-- the request repeats the last entry, an access that was neither refused nor denied
pub record IsRepeat (entries : List Entry) (request : Request) (r : Reach) : Type 0 where
  pub before : List Entry
  pub last : Entry
  pub ends : entries ≡ before ++ last ∷ []
  pub access : IsCleanAccess last r
  pub again : reach_of request ≡ Some r

-- the ring of the access's node, times the pieces of its span
abbrev pub ring_times_pieces : Made → List Entry → Reach → ℕ
ring_times_pieces m entries r = option_map_or (λ p. ring_size (links m.tree.nodes) p.tag) r.prov 0 * pieces_by entries r.span

-- a repeat raises the counter by no more than ring times pieces
abbrev pub IsWithinRepeat : Object → List Entry → Request → ℕ → ℕ → Type 0
IsWithinRepeat o entries request before after =
    (r : Reach) → IsRepeat entries request r → MatchOption o.made (after ≤ before) (λ m. after ≤ before + ring_times_pieces m entries r)
