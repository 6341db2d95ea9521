-- The threads that entries start.
use Rattle.std.proofs.Common.{◌≡◌, ℕ, List, [], ◌∷◌, ◌++◌, refl, sym, ◌∙◌, ap, subst}
use Rattle.std.specs.Prelude.{Option, Some, None}
use Rattle.std.proofs.lemmas.Grind.{flat_map-append}
use Rattle.std.proofs.lemmas.List.{append-nil}
use Rattle.history.specs.declared.entry.Entry.{Entry}
use Rattle.runs.specs.Parts.{child_of}
use Rattle.runs.specs.Tree.{started_by}
use Rattle.source_sem.specs.Source.{Setting, Source}
use Rattle.record_file.specs.declared.feed.Child.{Child}
use Rattle.record_file.specs.Starting.{HasStarted}
use Rattle.record_file.specs.Feeding.{AreOf, IsOf, numbers, starts_of}

of_push : (x : Setting) (before : List Child) (child : Child) → AreOf x before → IsOf x child → AreOf x (before ++ child ∷ [])
of_push x [] child h one = (one, tt)
of_push x (c ∷ cs) child h one = (h.0, of_push x cs child h.1 one)

pub of_started : (x : Setting) (o : Option ℕ) (s : Source) (before after : List Child) → HasStarted x o s before after → AreOf x before → AreOf x after
of_started x None s before after is h = subst (AreOf x) (sym is) h
of_started x (Some c) s before after is h =
    subst (AreOf x) (sym is.4) (of_push x before is.0 h is.2)

numbers_push : (before : List Child) (child : Child) → numbers (before ++ child ∷ []) ≡ numbers before ++ child.number.0 ∷ []
numbers_push [] child = refl
numbers_push (c ∷ cs) child = ap (λ ns. c.number.0 ∷ ns) (numbers_push cs child)

pub numbers_started : (x : Setting) (o : Option ℕ) (s : Source) (before after : List Child) → HasStarted x o s before after → numbers after ≡ numbers before ++ started_by o
numbers_started x None s before after is = ap numbers is ∙ sym (append-nil (numbers before))
numbers_started x (Some c) s before after is = ap numbers is.4 ∙ numbers_push before is.0 ∙ ap (λ n. numbers before ++ n ∷ []) is.1

pub starts_push : (es : List Entry) (e : Entry) → starts_of (es ++ e ∷ []) ≡ starts_of es ++ started_by (child_of e)
starts_push es e = flat_map-append (λ (z : Entry). started_by (child_of z)) es (e ∷ []) ∙ ap (λ ns. starts_of es ++ ns) (append-nil (started_by (child_of e)))
