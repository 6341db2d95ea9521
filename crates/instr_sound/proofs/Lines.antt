-- Lines on which a test decides: retags, copies, what is given up; and the retags with which a function begins.
use Rattle.std.proofs.Common.{◌≡◌, ℕ, ◌%◌, ◌^◌, List, [], ◌∷◌, Option, Some, None, Bool, true, false, if◌then◌else◌, refl, sym, ap, ◌∙◌, subst}
use Rattle.std.specs.Option.{option_map_or}
use Rattle.std.proofs.lemmas.List.{set-get_or}
use Rattle.bsan_ids.specs.declared.numbers.Prov.{Prov}
use Rattle.history.specs.declared.ask.Arg.{Arg}
use Rattle.history.specs.declared.ask.Ask.{Ask}
use Rattle.perm_table.specs.declared.Guard.{Guard}
use Rattle.perm_table.specs.declared.RetagKind.{RetagKind}
use Rattle.ir_ast.specs.Tokens.{Each}
use Rattle.ir_ast.specs.declared.types.Attr.{Attr}
use Rattle.ir_ast.specs.declared.types.Ty.{Ty}
use Rattle.ir_ast.specs.declared.types.Ty.TheVariants.{Int, Ptr}
use Rattle.ir_ast.specs.declared.program.Function.{Function}
use Rattle.ir_ast.specs.declared.program.Param.{Param}
use Rattle.ir_ast.specs.declared.program.TypedVal.{TypedVal}
use Rattle.thread_parts.specs.Copies.{untouched, copy_done}
use Rattle.thread_parts.specs.Owned.{release_ask}
use Rattle.thread_parts.specs.Parts.{makes_step}
use Rattle.source_sem.specs.Source.{to_retag, has_step}
use Rattle.source_sem.specs.Typing.{HasType}
use Rattle.target_code.specs.declared.line.Line.{Line}
use Rattle.target_code.specs.declared.line.Line.TheVariants as line
use Rattle.target_code.specs.declared.line.Operand.{Operand}
use Rattle.instrument.specs.Translation.{Scope, slot, for_ptr, operand_of, shadow_of, ret_lines, entry_retag, entry_retags}
use Rattle.ir_ast.specs.Attributes.{guard_of}
use Rattle.instrument.specs.Known.{HasRegister}
use Rattle.thread_machine.specs.Thread.{Thread, TargetFrame, word_of, shadow_at, at_lines, set_shadow, set_result, prov_of, unless_step, passed, silent, run}
use Rattle.thread_parts.specs.Rooms.{has_none}
use Rattle.instr_sound.specs.Fits.{ParamFits, IsPointerAttr}
use Rattle.ir_ast.specs.declared.program.Val.{Val}
use Rattle.std.specs.Prelude.{not}

pub run_stops : (input : List ℕ) (l : Line) (ls : List Line) (t : Thread) → silent input l t ≡ None → run input (l ∷ ls) t ≡ at_lines t (l ∷ ls)
run_stops input l ls t e = ap (λ z. option_map_or (run input ls) z (at_lines t (l ∷ ls))) e

pub run_passes : (input : List ℕ) (l : Line) (ls : List Line) (t u : Thread) → silent input l t ≡ Some u → run input (l ∷ ls) t ≡ run input ls u
run_passes input l ls t u e = ap (λ z. option_map_or (run input ls) z (at_lines t (l ∷ ls))) e

-- a retag of some bytes stops
pub retag_stops : (input : List ℕ) (to : ℕ) (kind : RetagKind) (guard : Guard) (s h n : ℕ) (ls : List Line) (t : Thread) → makes_step true n ≡ true → run input (line.Retag to kind guard s h n ∷ ls) t ≡ at_lines t (line.Retag to kind guard s h n ∷ ls)
retag_stops input to kind guard s h n ls t e = run_stops input (line.Retag to kind guard s h n) ls t (ap (λ b. unless_step b t to h) e)

pub retag_passes : (input : List ℕ) (to : ℕ) (kind : RetagKind) (guard : Guard) (s h n : ℕ) (ls : List Line) (t : Thread) → makes_step true n ≡ false → run input (line.Retag to kind guard s h n ∷ ls) t ≡ run input ls (set_shadow t to (prov_of t.top h))
retag_passes input to kind guard s h n ls t e = run_passes input (line.Retag to kind guard s h n) ls t (set_shadow t to (prov_of t.top h)) (ap (λ b. unless_step b t to h) e)

-- a retag of nothing over a slot's own shadow changes nothing
pub shadow_again : (t : Thread) (s : ℕ) → set_shadow t s (prov_of t.top s) ≡ t
shadow_again t s = ap (λ l. let u : Thread = record t { top = record t.top { shadows = l } } in u) (set-get_or t.top.shadows s None)

pub result_stops : (input : List ℕ) (kind : RetagKind) (n : ℕ) (ls : List Line) (t : Thread) → makes_step true n ≡ true → run input (line.RetagResult kind n ∷ ls) t ≡ at_lines t (line.RetagResult kind n ∷ ls)
result_stops input kind n ls t e = run_stops input (line.RetagResult kind n) ls t (ap (λ b. passed (not b) t) e)

pub result_passes : (input : List ℕ) (kind : RetagKind) (n : ℕ) (ls : List Line) (t : Thread) → makes_step true n ≡ false → run input (line.RetagResult kind n ∷ ls) t ≡ run input ls t
result_passes input kind n ls t e = run_passes input (line.RetagResult kind n) ls t t (ap (λ b. passed (not b) t) e)

-- a copy of some bytes stops
pub copy_stops : (input : List ℕ) (d dh s sh : ℕ) (v : Operand) (ls : List Line) (t : Thread) → copy_done (word_of t.top v % 2 ^ 64) untouched ≡ false → run input (line.CheckCopy d dh s sh v ∷ ls) t ≡ at_lines t (line.CheckCopy d dh s sh v ∷ ls)
copy_stops input d dh s sh v ls t e = run_stops input (line.CheckCopy d dh s sh v) ls t (ap (λ b. passed b t) e)

pub copy_passes : (input : List ℕ) (d dh s sh : ℕ) (v : Operand) (ls : List Line) (t : Thread) → copy_done (word_of t.top v % 2 ^ 64) untouched ≡ true → run input (line.CheckCopy d dh s sh v ∷ ls) t ≡ run input ls t
copy_passes input d dh s sh v ls t e = run_passes input (line.CheckCopy d dh s sh v) ls t t (ap (λ b. passed b t) e)

-- what is left to give up stops
pub pop_stops : (input : List ℕ) (a : Ask) (ls : List Line) (t : Thread) → release_ask t.top.owned ≡ Some a → run input (line.PopFrame ∷ ls) t ≡ at_lines t (line.PopFrame ∷ ls)
pop_stops input a ls t e = run_stops input line.PopFrame ls t (ap (λ z. passed (has_none z) t) e)

pub pop_passes : (input : List ℕ) (ls : List Line) (t : Thread) → release_ask t.top.owned ≡ None → run input (line.PopFrame ∷ ls) t ≡ run input ls t
pop_passes input ls t e = run_passes input line.PopFrame ls t t (ap (λ z. passed (has_none z) t) e)

-- what is given back is in the frame
abbrev pub result_prov : Ty → Option Prov → Option Prov → Option Prov
result_prov (Int w) old p = old
result_prov Ptr old p = p

abbrev pub result_after : Scope → Option TypedVal → TargetFrame → Arg
result_after x None f = f.result
result_after x (Some v) f = record { value = word_of f (operand_of x v.val); prov = result_prov v.ty f.result.prov (shadow_at f (shadow_of x v.val)) }

run_result : (input : List ℕ) (x : Scope) (ty : Ty) (v : Val) (ls : List Line) (t : Thread) → run input (line.Result (operand_of x v) ∷ for_ptr ty (line.ShadowResult (shadow_of x v)) ls) t ≡ run input ls (set_result t (result_after x (Some (record { ty = ty; val = v })) t.top))
run_result input x (Int w) v ls t = refl
run_result input x Ptr v ls t = refl

pub run_ret : (input : List ℕ) (x : Scope) (v : Option TypedVal) (ls : List Line) (t : Thread) → run input (ret_lines x v ls) t ≡ run input ls (set_result t (result_after x v t.top))
run_ret input x None ls t = refl
run_ret input x (Some v) ls t = run_result input x v.ty v.val ls t

-- the first of the retags of a function's parameters that makes a step
pub record FirstRetag (input : List ℕ) (x : Scope) (g : Function) (ps : List Param) (q : Param) (qs : List Param) (ls : List Line) (t : Thread) : Type 0 where
  pub attr : Attr
  pub has : q.attr ≡ Some attr
  pub some : makes_step true attr.size ≡ true
  pub later : List Param
  pub left : to_retag true later ≡ qs
  pub fits : Each (ParamFits x g) later
  pub typed : HasType g q.reg.name Ptr
  pub known : HasRegister x q.reg
  pub stops : run input (entry_retags x ps ls) t ≡ at_lines t (line.Retag (slot x q.reg) attr.kind (guard_of attr.kind) (slot x q.reg) (slot x q.reg) attr.size ∷ entry_retags x later ls)

abbrev pub RetagsLeft : List ℕ → Scope → Function → List Param → List Param → List Line → Thread → Type 0
RetagsLeft input x g ps [] ls t = run input (entry_retags x ps ls) t ≡ run input ls t
RetagsLeft input x g ps (q ∷ qs) ls t = FirstRetag input x g ps q qs ls t

later_retags : (input : List ℕ) (x : Scope) (g : Function) (ps more qs : List Param) (ls : List Line) (t : Thread) → run input (entry_retags x more ls) t ≡ run input (entry_retags x ps ls) t → RetagsLeft input x g ps qs ls t → RetagsLeft input x g more qs ls t
later_retags input x g ps more [] ls t e h = e ∙ h
later_retags input x g ps more (q ∷ qs) ls t e h =
    record { attr = h.attr; has = h.has; some = h.some; later = h.later; left = h.left; fits = h.fits; typed = h.typed; known = h.known; stops = e ∙ h.stops }

module _ (input : List ℕ) (x : Scope) (g : Function) (ls : List Line) (t : Thread) where
  retag_of : (q : Param) (ps : List Param) (a : Attr) (b : Bool) → q.attr ≡ Some a → makes_step true a.size ≡ b → ParamFits x g q → Each (ParamFits x g) ps → RetagsLeft input x g ps (to_retag true ps) ls t → RetagsLeft input x g (q ∷ ps) (if b then q ∷ to_retag true ps else to_retag true ps) ls t
  retag_of q ps a true has e fit fits more = record {
    attr = a;
    has = has;
    some = e;
    later = ps;
    left = refl;
    fits = fits;
    typed = pointer;
    known = fit.0.1;
    stops = ap (λ z. run input (entry_retag (slot x q.reg) z (entry_retags x ps ls)) t) has ∙ retag_stops input (slot x q.reg) a.kind (guard_of a.kind) (slot x q.reg) (slot x q.reg) a.size (entry_retags x ps ls) t e;
  }
    where
      pointer : HasType g q.reg.name Ptr
      pointer = subst (λ (z : Ty). HasType g q.reg.name z) (subst (IsPointerAttr q.ty) has fit.1) fit.0.0
  retag_of q ps a false has e fit fits more =
      later_retags input x g ps (q ∷ ps) (to_retag true ps) ls t
      (ap (λ z. run input (entry_retag (slot x q.reg) z (entry_retags x ps ls)) t) has
      ∙ retag_passes input (slot x q.reg) a.kind (guard_of a.kind) (slot x q.reg) (slot x q.reg) a.size (entry_retags x ps ls) t e
      ∙ ap (run input (entry_retags x ps ls)) (shadow_again t (slot x q.reg)))
      more

  pub retags : (ps : List Param) → Each (ParamFits x g) ps → RetagsLeft input x g ps (to_retag true ps) ls t
  retags [] fits = refl
  retags (q ∷ ps) fits = by_attr q.attr refl (retags ps fits.1)
    where
      by_attr : (a : Option Attr) → q.attr ≡ a → RetagsLeft input x g ps (to_retag true ps) ls t → RetagsLeft input x g (q ∷ ps) (to_retag true (q ∷ ps)) ls t
      by_attr None e more =
          subst (λ z. RetagsLeft input x g (q ∷ ps) (if has_step true z then q ∷ to_retag true ps else to_retag true ps) ls t) (sym e)
          (later_retags input x g ps (q ∷ ps) (to_retag true ps) ls t (ap (λ z. run input (entry_retag (slot x q.reg) z (entry_retags x ps ls)) t) e) more)
      by_attr (Some a) e more =
          subst (λ z. RetagsLeft input x g (q ∷ ps) (if has_step true z then q ∷ to_retag true ps else to_retag true ps) ls t) (sym e)
          (retag_of q ps a (makes_step true a.size) e refl fits.0 fits.1 more)
