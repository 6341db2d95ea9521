use Rattle.std.proofs.Common.{ap, sym, ◌∙◌}
use Rattle.history.specs.Objects.{Object}
use Rattle.alloc_state.specs.Log.{Log, has_make}
use Rattle.alloc_state.specs.Prepared.{is_made_in}
use Rattle.alloc_state.proofs.Makes.{made_where_make}
use Rattle.alloc_state.proofs.alloc_state.AllocState.is_made.Goals as goal

pub returns : goal.returns
returns c =
    c.is_made.ensures
    ∙ sym (ap (λ (o : Object). is_made_in o) c.self.invariant.state)
    ∙ made_where_make c.self.inside.number.0 c.self.inside.entries.items
    ∙ ap (λ (l : Log). has_make l.entries) c.self.view_is
