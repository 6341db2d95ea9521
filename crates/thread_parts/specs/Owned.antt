-- What a frame owns, and in which order it gives that up.
use Rattle.std.specs.Prelude.{ℕ, List, [], ◌∷◌, Some, None, ◌++◌, true}
use Rattle.std.specs.declared.option.Option.{Option}
use Rattle.bsan_ids.specs.declared.numbers.Prov.{Prov}
use Rattle.bsan_ids.specs.declared.numbers.AllocNo.{AllocNo}
use Rattle.history.specs.declared.ask.Ask.{Ask}
use Rattle.history.specs.declared.ask.Ask.TheVariants as ask
use Rattle.ir_ast.specs.declared.types.Place.{Place}
use Rattle.ir_ast.specs.declared.types.Place.TheVariants.{Stack, Heap}
use Rattle.history.specs.declared.entry.Plain.{Plain}
use Rattle.history.specs.declared.entry.Plain.TheVariants as plain
use Rattle.history.specs.declared.entry.Reply.{Reply}
use Rattle.history.specs.declared.entry.Request.TheVariants as request
use Rattle.thread_parts.specs.Parts.{Spawns, Step, Makes}
use Rattle.thread_parts.specs.Words.{number_in}

-- a stack allocation: its number, and the provenance of its pointer
pub record Made : Type 0 where
  pub number : AllocNo
  pub prov : Option Prov

-- what a frame must give up at its return: children in spawn order, protectors in order, stack allocations with the newest first
pub record Owned : Type 0 where
  pub children : List ℕ
  pub protectors : List Prov
  pub stack : List Made

abbrev pub nothing_owned : Owned
nothing_owned = record { children = []; protectors = []; stack = [] }

abbrev pub release_by : List ℕ → List Prov → List Made → Option Ask
release_by (c ∷ cs) ps ss = Some (ask.Join (record { 0 = c }))
release_by [] (p ∷ ps) ss = Some (ask.At p.alloc (request.EndProtector p.tag))
release_by [] [] (s ∷ ss) = Some (ask.At s.number (request.Free 0 true s.prov))
release_by [] [] [] = None

-- the next thing to give up
abbrev pub release_ask : Owned → Option Ask
release_ask o = release_by o.children o.protectors o.stack

abbrev pub released_by : List ℕ → List Prov → List Made → Owned
released_by (c ∷ cs) ps ss = record { children = cs; protectors = ps; stack = ss }
released_by [] (p ∷ ps) ss = record { children = []; protectors = ps; stack = ss }
released_by [] [] (s ∷ ss) = record { children = []; protectors = []; stack = ss }
released_by [] [] [] = nothing_owned

abbrev pub released : Owned → Owned
released o = released_by o.children o.protectors o.stack

-- a protector is kept where the retag added a node
abbrev pub protect : Plain → Option Prov → Owned → Owned
protect (plain.Retagged true) (Some p) o = record o { protectors = o.protectors ++ p ∷ [] }
protect other carried o = o

abbrev pub with_stack : Place → Made → Owned → Owned
with_stack Heap m o = o
with_stack Stack m o = record o { stack = m ∷ o.stack }

-- what the frame owns after a step
abbrev pub step_owned : Step → Reply → Owned → Owned
step_owned (Makes n place) r o = with_stack place (record { number = record { 0 = number_in r.plain }; prov = r.carried }) o
step_owned (Spawns k xs) r o = record o { children = o.children ++ number_in r.plain ∷ [] }
step_owned other r o = o
