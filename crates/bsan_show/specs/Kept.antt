-- The text that is kept of the first file that was read.
use Rattle.std.specs.Prelude.{◌≡◌, ℕ, List, Option, Some, None, IfSome, if◌then◌else◌}
use Rattle.std.specs.Option.{option_and_then}
use Rattle.std.specs.Str.{bytes_eq}
use Rattle.bsan_show.specs.declared.file.File.{File}

-- the bytes of a file are its content, where that is known
abbrev pub IsContent : (List ℕ → Option (List ℕ)) → File → Type 0
IsContent content file = IfSome (content file.name) (λ bytes. file.text ≡ bytes)

-- the text that is kept of the file of this name
abbrev pub text_of : Option File → List ℕ → Option (List ℕ)
text_of first name = option_and_then (λ file. if bytes_eq file.name name then Some file.text else None) first
