-- Names behind references, and what is added to a list of definitions.
use Rattle.std.specs.Prelude.{◌≡◌, ℕ, List, ◌++◌, map}
use Rattle.std.specs.Borrow.{Bor}
use Rattle.ir_ast.specs.Attributes.{Definition, registers, attrs}
use Rattle.instrument.specs.declared.scope.Definitions.{Definitions}

abbrev pub names_in : List (Bor (List ℕ)) → List (List ℕ)
names_in names = map (λ n. n.now) names

-- these definitions were added
pub record Defines (old new : Definitions) (ds : List Definition) : Type 0 where
  pub names : names_in new.names.items ≡ names_in old.names.items ++ registers ds
  pub attrs : new.attrs.items ≡ old.attrs.items ++ attrs ds
