-- A verified program's machine stands at the beginning of main.
use Rattle.std.proofs.Common.{◌≡◌, ℕ, suc, ◌<◌, List, [], ◌∷◌, get_or, refl, sym, subst, arith, Fits, w8}
use Rattle.ir_ast.specs.Tokens.{Each}
use Rattle.ir_ast.specs.declared.hosts.HostTable.{HostTable}
use Rattle.ir_rules.specs.declared.verified.Verified.{Verified}
use Rattle.source_sem.specs.Source.{Source}
use Rattle.source_sem.specs.Starting.{main_of}
use Rattle.target_code.specs.declared.line.Target.{Target}
use Rattle.instr_sound.specs.Mains.{IsMain}
use Rattle.instr_sound.specs.Sound.{SoundView, begun, text_of}

each_byte : (xs : List ℕ) → ((i : ℕ) → Fits w8 (get_or xs i 0)) → Each (λ b. b < 256) xs
each_byte [] small = tt
each_byte (x ∷ xs) small = ((let low = small 0 in omega (arith, low)), each_byte xs (λ i. small (suc i)))

abbrev state_of : SoundView → Source
state_of m = m.state

pub stands_at_main : (v : Verified) (target : Target) (input : List ℕ) (hosts : HostTable) (function : ℕ) (m : SoundView)
    → function ≡ main_of v.program → m ≡ begun v target input (main_of v.program) [] → hosts ≡ v.hosts → ((i : ℕ) → Fits w8 (get_or input i 0))
    → IsMain text_of state_of hosts function m
stands_at_main v target input hosts function m function_is is same small =
    subst (λ (x : SoundView). IsMain text_of state_of hosts function x) (sym is)
    (subst (λ (h : HostTable). IsMain text_of state_of h function (begun v target input (main_of v.program) [])) (sym same)
    (record {
      runnable = record { program = v.is_program; accepted = v.accepted; bytes = each_byte input small; setting = refl };
      function_is = function_is;
      state_is = refl;
    }))
