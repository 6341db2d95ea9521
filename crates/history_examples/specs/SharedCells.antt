-- Worked examples of shared references to data with interior mutability.
use Rattle.std.specs.Prelude.{List, [], ◌∷◌, None, true, false}
use Rattle.perm_table.specs.declared.Perm.TheVariants.{Disabled}
use Rattle.perm_table.specs.declared.RetagKind.TheVariants.{Shr, ShrCell}
use Rattle.perm_table.specs.declared.Guard.TheVariants.{Free as Unguarded, Weak}
use Rattle.eager_tree.specs.declared.violation.Violation.TheVariants.{Denied}
use Rattle.ir_ast.specs.declared.types.Place.TheVariants.{Stack, Heap}
use Rattle.ir_ast.specs.declared.types.Width.TheVariants.{W64}
use Rattle.ir_ast.specs.declared.types.Ty.TheVariants.{Int}
use Rattle.history.specs.declared.entry.Request.TheVariants.{Make, Load, Store, Retag, EndProtector, Free}
use Rattle.history.specs.declared.entry.Verdict.TheVariants.{Clean, Closed, Violated}
use Rattle.history.specs.declared.entry.Reply.{Reply}
use Rattle.history.specs.Examples.{Step, via, node, made, retagged, done, value}

-- Two of them beside each other, and the owner, write and read in turn.
abbrev pub sibling_steps : List Step
sibling_steps =
    (1, Make 8 Stack)
    ∷ (2, Retag 0 8 ShrCell Unguarded (via 1 1))
    ∷ (3, Retag 0 8 ShrCell Unguarded (via 1 1))
    ∷ (4, Store 0 (Int W64) 1 None (via 1 2))
    ∷ (5, Load 0 (Int W64) (via 1 3))
    ∷ (6, Store 0 (Int W64) 2 None (via 1 1))
    ∷ (7, Store 0 (Int W64) 3 None (via 1 3))
    ∷ (8, Free 0 true (via 1 1))
    ∷ []

abbrev pub sibling_replies : List Reply
sibling_replies =
    made 1 1
    ∷ retagged 1 2
    ∷ retagged 1 3
    ∷ done Clean
    ∷ value 1 Clean
    ∷ done Clean
    ∷ done Clean
    ∷ done Clean
    ∷ []

-- A shared reference without interior mutability beside it is disabled by its write.
abbrev pub plain_sibling_steps : List Step
plain_sibling_steps =
    (1, Make 8 Stack)
    ∷ (2, Retag 0 8 ShrCell Unguarded (via 1 1))
    ∷ (3, Retag 0 8 Shr Unguarded (via 1 1))
    ∷ (4, Store 0 (Int W64) 1 None (via 1 2))
    ∷ (5, Load 0 (Int W64) (via 1 3))
    ∷ (6, Store 0 (Int W64) 2 None (via 1 1))
    ∷ (7, Store 0 (Int W64) 3 None (via 1 3))
    ∷ (8, Free 0 true (via 1 1))
    ∷ []

abbrev pub plain_sibling_replies : List Reply
plain_sibling_replies =
    made 1 1
    ∷ retagged 1 2
    ∷ retagged 1 3
    ∷ done Clean
    ∷ value 1 (Violated (Denied 0 (node 3) Disabled true))
    ∷ done Closed
    ∷ done Closed
    ∷ done Closed
    ∷ []

-- As a function's argument it lets another pointer write while the function runs.
abbrev pub argument_steps : List Step
argument_steps =
    (1, Make 8 Stack)
    ∷ (2, Retag 0 8 ShrCell Weak (via 1 1))
    ∷ (3, Store 0 (Int W64) 1 None (via 1 1))
    ∷ (4, EndProtector (node 2))
    ∷ (5, Free 0 true (via 1 1))
    ∷ []

abbrev pub argument_replies : List Reply
argument_replies = made 1 1 ∷ retagged 1 2 ∷ done Clean ∷ done Clean ∷ done Clean ∷ []

-- Its allocation may be freed through it while the function runs.
abbrev pub freed_steps : List Step
freed_steps =
    (1, Make 8 Heap)
    ∷ (2, Retag 0 8 ShrCell Weak (via 1 1))
    ∷ (3, Free 0 false (via 1 2))
    ∷ (4, EndProtector (node 2))
    ∷ []

abbrev pub freed_replies : List Reply
freed_replies = made 1 1 ∷ retagged 1 2 ∷ done Clean ∷ done Clean ∷ []
