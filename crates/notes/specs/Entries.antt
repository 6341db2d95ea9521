-- Borrows at a function's entry: which parameter they are of.
use Rattle.std.specs.Prelude.{ℕ, ◌==◌, ◌&&◌, ◌-◌, ◌%◌, nat_lt, Bool, true, false, Option, Some, None, List, [], ◌∷◌, length, take, drop, count_by, find, slice_get, if◌then◌else◌}
use Rattle.std.specs.List.{prefix_len, suffix_len, flat_map}
use Rattle.std.specs.Option.{option_map}
use Rattle.perm_table.specs.declared.RetagKind.{RetagKind}
use Rattle.perm_table.specs.declared.RetagKind.TheVariants.{Mut, Cell, Shr, Boxed, ShrCell}
use Rattle.perm_table.specs.Table.{is_protected}
use Rattle.ir_ast.specs.declared.types.Attr.{Attr}
use Rattle.ir_ast.specs.declared.program.Param.{Param}
use Rattle.ir_ast.specs.declared.program.Inst.{Inst}
use Rattle.ir_ast.specs.declared.program.Block.{Block}
use Rattle.ir_ast.specs.declared.program.Function.{Function}
use Rattle.history.specs.Merge.{stamp_of}
use Rattle.history.specs.declared.entry.Entry.{Entry}
use Rattle.history.specs.declared.entry.Request.{Request}
use Rattle.history.specs.declared.entry.Request.TheVariants.{Retag}
use Rattle.history.specs.declared.log.ThreadLog.{ThreadLog}

-- only a borrow at a function's entry is protected
abbrev pub is_entry : Request → Bool
is_entry (Retag at len kind guard prov) = is_protected guard
is_entry _ = false

abbrev pub start_or : Option Inst → ℕ → ℕ
start_or None at = at
start_or (Some inst) at = inst.at

abbrev pub block_start : Block → ℕ
block_start b = start_or (slice_get b.insts 0) b.term.at

-- the place of a function's first instruction
abbrev pub function_start : Function → Option ℕ
function_start f = option_map block_start (slice_get f.blocks 0)

abbrev pub place_or : Option ℕ → ℕ → ℕ
place_or None other = other
place_or (Some at) other = at

abbrev pub is_place : Option ℕ → Option ℕ → Bool
is_place (Some a) (Some b) = a == b
is_place _ _ = false

-- the function at whose entry a step is a borrow, if it is one; the step's instruction, the function's first, is at this place
abbrev pub entered : List Function → Option ℕ → Entry → Option Function
entered functions at step = if is_entry step.request then find (λ f. is_place at (function_start f)) functions else None

abbrev pub is_kind : RetagKind → RetagKind → Bool
is_kind Mut Mut = true
is_kind Cell Cell = true
is_kind Shr Shr = true
is_kind Boxed Boxed = true
is_kind ShrCell ShrCell = true
is_kind _ _ = false

abbrev pub is_attr : RetagKind → ℕ → Option Attr → Bool
is_attr kind len None = false
is_attr kind len (Some attr) = is_kind kind attr.kind && len == attr.size

abbrev pub is_borrowed : Request → Param → Bool
is_borrowed (Retag at len kind guard prov) p = is_attr kind len p.attr
is_borrowed _ p = false

abbrev pub is_retag_as : RetagKind → ℕ → Request → Bool
is_retag_as kind len (Retag at bytes other guard prov) = is_kind kind other && len == bytes
is_retag_as kind len _ = false

-- a borrow of the same kind and of as many bytes
abbrev pub is_twin : Request → Entry → Bool
is_twin (Retag at len kind guard prov) step = is_retag_as kind len step.request
is_twin _ step = false

-- a borrow at the entry that this instruction is the first of
abbrev pub is_entry_at : ℕ → Entry → Bool
is_entry_at site step = is_entry step.request && step.site == site

abbrev pub entries_of : Option ThreadLog → List Entry
entries_of None = []
entries_of (Some log) = log.entries

abbrev pub steps_of : List ThreadLog → ℕ → List Entry
steps_of threads number = entries_of (find (λ log. log.number.0 == number) threads)

-- of these steps those with a lower stamp, in front
abbrev pub before : ℕ → List Entry → List Entry
before stamp steps = take (prefix_len (λ e. nat_lt (stamp_of e) stamp) steps) steps

-- the borrows at an entry with which these steps end
abbrev pub last_borrows : ℕ → List Entry → List Entry
last_borrows site steps = drop (length steps - suffix_len (is_entry_at site) steps) steps

-- how many such borrows the step's thread made at this entry just before it
abbrev pub twins_before : List ThreadLog → Entry → ℕ
twins_before threads step =
    count_by (is_twin step.request) (last_borrows step.site (before (stamp_of step) (steps_of threads step.thread.0)))

-- the parameter's place, where it has the attribute by which such a borrow is made
abbrev pub borrowed_place : Request → Param → List ℕ
borrowed_place request p = if is_borrowed request p then p.reg.at ∷ [] else []

-- of these places the one whose turn it is, counted round; or the other one, where there is none
abbrev pub in_turn : List ℕ → ℕ → ℕ → ℕ
in_turn places n other = place_or (slice_get places (n % length places)) other

-- The place of the parameter of which a step is the borrow: of those with the borrow's attribute the one whose turn it is, since they
-- are borrowed in their order. Where there is none it is that of the function's name.
abbrev pub entry_place : List ThreadLog → Function → Entry → ℕ
entry_place threads f step = in_turn (flat_map (borrowed_place step.request) f.params) (twins_before threads step) f.name.at
