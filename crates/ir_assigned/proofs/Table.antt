-- The mentions of a register in the blocks so far.
use Rattle.std.proofs.Common.{◌≡◌, ℕ, zero, suc, ◌+◌, ◌<◌, ◌≤◌, Bool, true, false, cond, List, [], ◌∷◌, ◌++◌, length, map, take, get_or, Option, Some, Vec, Global, refl, sym, ap, ◌∙◌, append_assoc, arith}
use Rattle.std.specs.Prelude.{All}
use Rattle.std.proofs.lemmas.List.{append-nil, map-append, length-take}
use Rattle.std.specs.Str.{bytes_eq}
use Rattle.std.specs.Option.{option_map_or}
use Rattle.std.specs.Cmp.Lexicographic.{bytes_decides, nat_list_eq_equiv}
use Rattle.ir_ast.specs.declared.program.Block.{Block}
use Rattle.ir_rules.specs.Occurrences.{Event, block_events}
use Rattle.ir_rules.specs.Occurrences.Event.{defines, uses}
use Rattle.ir_rules.specs.Seen.{seen, event_of, event_by}
use Rattle.ir_rules.specs.declared.events.Role.{Role}
use Rattle.ir_rules.specs.declared.events.Role.TheVariants.{Defines, Uses}
use Rattle.ir_rules.specs.declared.events.Occurrence.{Occurrence}
use Rattle.ir_assigned.specs.declared.mentions.Mention.{Mention}
use Rattle.ir_assigned.specs.Mentions.{register_of, mention_of, mention_if, mentions, mentions_from}
use Rattle.ir_rules.proofs.Any.{taken-next}
use Rattle.ir_assigned.proofs.Ways.{length_map}

mentions_last : (q : List ℕ) (b : ℕ) (es : List Event) (e : Event) → mentions q b (es ++ e ∷ []) ≡ mentions q b es ++ mention_if (bytes_eq q (register_of e)) (mention_of b e)
mentions_last q b [] e = append-nil (mention_if (bytes_eq q (register_of e)) (mention_of b e))
mentions_last q b (f ∷ es) e = ap (λ (z : List Mention). mention_if (bytes_eq q (register_of f)) (mention_of b f) ++ z) (mentions_last q b es e)
    ∙ sym (append_assoc (mention_if (bytes_eq q (register_of f)) (mention_of b f)) (mentions q b es) (mention_if (bytes_eq q (register_of e)) (mention_of b e)))

-- one occurrence more
pub mentions_next : (q : List ℕ) (b : ℕ) (os : List Occurrence) (i : ℕ) (d : Occurrence) → i < length os
    → mentions q b (seen (take (i + 1) os)) ≡ mentions q b (seen (take i os)) ++ mention_if (bytes_eq q (register_of (event_of (get_or os i d)))) (mention_of b (event_of (get_or os i d)))
mentions_next q b os i d lt =
    ap (λ (z : List Occurrence). mentions q b (seen z)) (taken-next os i d lt)
    ∙ ap (mentions q b) (map-append event_of (take i os) (get_or os i d ∷ []))
    ∙ mentions_last q b (seen (take i os)) (event_of (get_or os i d))

from_last : (q : List ℕ) (b : ℕ) (blocks : List (List Event)) (es : List Event) → mentions_from q b (blocks ++ es ∷ []) ≡ mentions_from q b blocks ++ mentions q (b + length blocks) es
from_last q b [] es = let e : b ≡ b + 0 = omega arith in append-nil (mentions q b es) ∙ ap (λ (n : ℕ). mentions q n es) e
from_last q b (fs ∷ blocks) es =
    let e : suc b + length blocks ≡ b + suc (length blocks) = omega arith in
    ap (λ (z : List Mention). mentions q b fs ++ z) (from_last q (suc b) blocks es ∙ ap (λ (n : ℕ). mentions_from q (suc b) blocks ++ mentions q n es) e)
    ∙ sym (append_assoc (mentions q b fs) (mentions_from q (suc b) blocks) (mentions q (b + suc (length blocks)) es))

-- one block more
pub from_next : (q : List ℕ) (blocks : List Block) (i : ℕ) (d : Block) → i < length blocks
    → mentions_from q 0 (map block_events (take (i + 1) blocks)) ≡ mentions_from q 0 (map block_events (take i blocks)) ++ mentions q i (block_events (get_or blocks i d))
from_next q blocks i d lt =
    let len : length (take i blocks) ≡ i = grind (arith, length-take) in
    let n : 0 + length (map block_events (take i blocks)) ≡ i = omega (arith, length_map block_events (take i blocks), len) in
    ap (λ (z : List Block). mentions_from q 0 (map block_events z)) (taken-next blocks i d lt)
    ∙ ap (mentions_from q 0) (map-append block_events (take i blocks) (get_or blocks i d ∷ []))
    ∙ from_last q 0 (map block_events (take i blocks)) (block_events (get_or blocks i d))
    ∙ ap (λ (k : ℕ). mentions_from q 0 (map block_events (take i blocks)) ++ mentions q k (block_events (get_or blocks i d))) n

-- ---- a mention's block is one of the function's
abbrev Within : ℕ → List Mention → Type 0
Within n [] = Unit {0}
Within n (m ∷ ms) = (m.block < n) × Within n ms

within_append : (n : ℕ) (ms ns : List Mention) → Within n ms → Within n ns → Within n (ms ++ ns)
within_append n [] ns w v = v
within_append n (m ∷ ms) ns w v = (w.0, within_append n ms ns w.1 v)

block_of : (b : ℕ) (e : Event) → (mention_of b e).block ≡ b
block_of b (defines d h) = refl
block_of b (uses u) = refl

within_if : (n : ℕ) (c : Bool) (m : Mention) → m.block < n → Within n (mention_if c m)
within_if n true m lt = (lt, tt)
within_if n false m lt = tt

within_block : (n : ℕ) (q : List ℕ) (b : ℕ) (es : List Event) → b < n → Within n (mentions q b es)
within_block n q b [] lt = tt
within_block n q b (e ∷ es) lt = within_append n (mention_if (bytes_eq q (register_of e)) (mention_of b e)) (mentions q b es)
    (within_if n (bytes_eq q (register_of e)) (mention_of b e) (omega (arith, lt, block_of b e))) (within_block n q b es lt)

within_from : (n : ℕ) (q : List ℕ) (b : ℕ) (blocks : List (List Event)) → b + length blocks ≤ n → Within n (mentions_from q b blocks)
within_from n q b [] le = tt
within_from n q b (es ∷ blocks) le = within_append n (mentions q b es) (mentions_from q (suc b) blocks) (within_block n q b es (omega (arith, le))) (within_from n q (suc b) blocks (omega (arith, le)))

within_at : (n : ℕ) (ms : List Mention) → Within n ms → All (λ m. m.block < n) ms
within_at n [] w k d lt = absurd (omega (arith, lt))
within_at n (m ∷ ms) w zero d lt = w.0
within_at n (m ∷ ms) w (suc k) d lt = within_at n ms w.1 k d (omega (arith, lt))

pub all_within : (n : ℕ) (q : List ℕ) (blocks : List (List Event)) → length blocks ≡ n → All (λ m. m.block < n) (mentions_from q 0 blocks)
all_within n q blocks e = within_at n (mentions_from q 0 blocks) (within_from n q 0 blocks (omega (arith, e)))

pub register_is : (o : Occurrence) → o.register.now.name ≡ register_of (event_of o)
register_is o = by_role o.role
  where
    by_role : (role : Role) → o.register.now.name ≡ register_of (event_by o.register.now role)
    by_role (Defines h) = refl
    by_role (Uses w) = refl

-- ---- a mention put into the table
more_pick : (m : List ℕ → Option (Vec Mention Global)) (name q : List ℕ) (o : Option (Vec Mention Global)) (w : Vec Mention Global) (x : Mention) (b : Bool) → bytes_eq q name ≡ b → m name ≡ o
    → w.items ≡ option_map_or (λ ms. ms.items) o [] ++ x ∷ [] → option_map_or (λ ms. ms.items) (cond b (Some w) (m q)) [] ≡ option_map_or (λ ms. ms.items) (m q) [] ++ mention_if b x
more_pick m name q o w x true e is items =
    let same : q ≡ name = (bytes_decides q name).0 e in
    let found : m q ≡ o = ap m same ∙ is in
    items ∙ ap (λ (z : Option (Vec Mention Global)). option_map_or (λ ms. ms.items) z [] ++ x ∷ []) (sym found)
more_pick m name q o w x false e is items = sym (append-nil (option_map_or (λ ms. ms.items) (m q) []))

pub more_in : (m m' : List ℕ → Option (Vec Mention Global)) (name : List ℕ) (o : Option (Vec Mention Global)) (w : Vec Mention Global) (x : Mention) → m name ≡ o → w.items ≡ option_map_or (λ ms. ms.items) o [] ++ x ∷ []
    → ((q : List ℕ) → m' q ≡ cond (bytes_eq name q) (Some w) (m q)) → (q : List ℕ) → option_map_or (λ ms. ms.items) (m' q) [] ≡ option_map_or (λ ms. ms.items) (m q) [] ++ mention_if (bytes_eq q name) x
more_in m m' name o w x is items new q =
    ap (λ (z : Option (Vec Mention Global)). option_map_or (λ ms. ms.items) z []) (new q ∙ ap (λ (b : Bool). cond b (Some w) (m q)) (nat_list_eq_equiv.symm name q))
    ∙ more_pick m name q o w x (bytes_eq q name) refl is items
