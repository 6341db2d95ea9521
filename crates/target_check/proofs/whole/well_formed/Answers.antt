use Rattle.std.proofs.Common.{◌≡◌, List, length, sym, subst, ◌∙◌}
use Rattle.std.specs.Prelude.{◌↔◌, IsTrue}
use Rattle.ir_ast.specs.Tokens.{Each}
use Rattle.ir_ast.specs.Shapes.{IsVersion}
use Rattle.target_code.specs.declared.line.TargetFunction.{TargetFunction}
use Rattle.target_check.specs.Stretches.{FunctionFits}
use Rattle.target_check.proofs.Sentences.{fits_formed, formed_fits}
use Rattle.target_check.proofs.whole.well_formed.Goals as goal

pub returns-then-is_version : goal.returns-then-is_version
returns-then-is_version c =
    let same : c.as_slice.result.now ≡ c.args.target.now.functions = c.as_slice.ensures in
    let test : IsTrue c.functions_fit.result ↔ Each (FunctionFits (length c.args.target.now.functions)) c.args.target.now.functions =
    subst (λ (z : List TargetFunction). IsTrue c.functions_fit.result ↔ Each (FunctionFits (length z)) z) same c.functions_fit.ensures in
    let version : IsVersion c.args.target.now.version = c.is_version.ensures.0 c.if-is_version.true in
    (λ h. fits_formed c.args.target.now version (test.0 h), λ w. test.1 (formed_fits c.args.target.now w))

pub returns-else-is_version : goal.returns-else-is_version
returns-else-is_version c =
    let never : IsTrue c.is_version.result → ⊥ = λ h. (let e = sym c.if-is_version.false ∙ h in cc) in
    (λ h. absurd (never h), λ w. c.is_version.ensures.1 w.version)
