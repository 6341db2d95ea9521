-- A check is known by its line.
use Rattle.std.proofs.Common.{◌≡◌, Option, Some, None, refl, ap}
use Rattle.std.specs.Option.{option_map}
use Rattle.target_check.specs.declared.lines.Check.{Check}
use Rattle.target_check.specs.declared.lines.Check.TheVariants.{Read, Write, Copy, Free}
use Rattle.target_check.specs.Checks.{check_line}

same : (a b : Check) → check_line a ≡ check_line b → a ≡ b
same (Read p h n) (Read q i m) e = cc
same (Read p h n) (Write q i m) e = cc
same (Read p h n) (Copy t th f fh v) e = cc
same (Read p h n) (Free q i) e = cc
same (Write p h n) (Read q i m) e = cc
same (Write p h n) (Write q i m) e = cc
same (Write p h n) (Copy t th f fh v) e = cc
same (Write p h n) (Free q i) e = cc
same (Copy t th f fh v) (Read q i m) e = cc
same (Copy t th f fh v) (Write q i m) e = cc
same (Copy t th f fh v) (Copy u uh g gh w) e = cc
same (Copy t th f fh v) (Free q i) e = cc
same (Free p h) (Read q i m) e = cc
same (Free p h) (Write q i m) e = cc
same (Free p h) (Copy t th f fh v) e = cc
same (Free p h) (Free q i) e = cc

pub same_checks : (a b : Option Check) → option_map check_line a ≡ option_map check_line b → a ≡ b
same_checks None None e = refl
same_checks None (Some b) e = cc
same_checks (Some a) None e = cc
same_checks (Some a) (Some b) e = let lines : check_line a ≡ check_line b = cc in ap Some (same a b lines)
