-- Events that are added one after the other.
use Rattle.std.proofs.Common.{◌≡◌, List, [], ◌∷◌, ◌++◌, map, refl, sym, ap, subst, ◌∙◌, append_assoc}
use Rattle.std.proofs.lemmas.List.{append-nil}
use Rattle.ir_rules.specs.Occurrences.{Use, Event}
use Rattle.ir_rules.specs.Occurrences.Event.{uses}
use Rattle.ir_rules.specs.declared.events.Occurrence.{Occurrence}
use Rattle.ir_rules.specs.Seen.{seen, event_of, Adds}

pub map-join : {A B : Type 0} (f : A → B) (xs ys : List A) → map f (xs ++ ys) ≡ map f xs ++ map f ys
map-join f [] ys = refl
map-join f (x ∷ xs) ys = ap (λ (z : List _). f x ∷ z) (map-join f xs ys)

pub adds_none : (a : List Occurrence) → Adds a a []
adds_none a = record { is = sym (append-nil (seen a)) }

pub adds_one : (a b : List Occurrence) (o : Occurrence) → b ≡ a ++ o ∷ [] → Adds a b (event_of o ∷ [])
adds_one a b o e = record { is = ap seen e ∙ map-join event_of a (o ∷ []) }

pub adds_both : (a b c : List Occurrence) (es fs : List Event) → Adds a b es → Adds b c fs → Adds a c (es ++ fs)
adds_both a b c es fs p q = record { is = q.is ∙ ap (λ (z : List Event). z ++ fs) p.is ∙ append_assoc (seen a) es fs }

pub adds_uses : (a b c : List Occurrence) (us vs : List Use) → Adds a b (map uses us) → Adds b c (map uses vs) → Adds a c (map uses (us ++ vs))
adds_uses a b c us vs p q = subst (Adds a c) (sym (map-join uses us vs)) (adds_both a b c (map uses us) (map uses vs) p q)

pub ruleset adds_steps = (adds_none, adds_uses, adds_both)
