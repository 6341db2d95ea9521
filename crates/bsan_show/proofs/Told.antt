-- The text that is kept of a file is the file's content, where that is known.
use Rattle.std.proofs.Common.{◌≡◌, ℕ, List, Option, Some, None, IfSome, subst, sym}
use Rattle.std.proofs.Math.Logic.{∥∥₁_elim}
use Rattle.std.specs.Coded.{Coded-set, coded_list, coded_ℕ, Unit-prop}
use Rattle.bsan_show.specs.Kept.{IsContent}
use Rattle.bsan_show.specs.declared.file.File.{File}

one_proof : (content : Option (List ℕ)) (text : List ℕ) → IsProp (IfSome content (λ bytes. text ≡ bytes))
one_proof None text = Unit-prop
one_proof (Some bytes) text = Coded-set (coded_list coded_ℕ) text bytes

told_of : (content : List ℕ → Option (List ℕ)) (first : Option File) (file : File) (name text : List ℕ)
    → first ≡ Some file → file.name ≡ name → text ≡ file.text → IfSome first (IsContent content) → IfSome (content name) (λ bytes. text ≡ bytes)
told_of content first file name text is named same told =
    let of : IsContent content file = subst (λ (o : Option File). IfSome o (IsContent content)) is told in
    subst (λ (n : List ℕ). IfSome (content n) (λ bytes. text ≡ bytes)) named
    (subst (λ (t : List ℕ). IfSome (content file.name) (λ bytes. t ≡ bytes)) (sym same) of)

pub told_text : (content : List ℕ → Option (List ℕ)) (first : Option File) (file : File) (name text : List ℕ)
    → first ≡ Some file → file.name ≡ name → text ≡ file.text → ∥ IfSome first (IsContent content) ∥₁ → IfSome (content name) (λ bytes. text ≡ bytes)
told_text content first file name text is named same told =
    ∥∥₁_elim told (one_proof (content name) text) (told_of content first file name text is named same)
