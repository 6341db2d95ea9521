-- Parts as the definitions have them: their arguments are evaluated.
use Rattle.source_sem.specs.Env.{Env, args_of}
use Rattle.thread_parts.specs.Parts as sem
use Rattle.source_machine.specs.declared.part.Access.{Access}
use Rattle.source_machine.specs.declared.part.Access.TheVariants as access
use Rattle.source_machine.specs.declared.part.Step.{Step}
use Rattle.source_machine.specs.declared.part.Step.TheVariants as step
use Rattle.source_machine.specs.declared.part.Part.{Part}
use Rattle.source_machine.specs.declared.part.Part.TheVariants as part

abbrev pub access_in : Access → sem.Access
access_in (access.Loads ty) = sem.Loads ty
access_in (access.Stores ty v) = sem.Stores ty v
access_in (access.Modifies w o v) = sem.Modifies w o v
access_in (access.Compares w e v) = sem.Compares w e v
access_in access.Frees = sem.Frees

abbrev pub step_in : Env → Step → sem.Step
step_in env (step.Makes n place) = sem.Makes n place
step_in env (step.Accesses p a) = sem.Accesses p (access_in a)
step_in env (step.Prints v) = sem.Prints v
step_in env (step.Hosts n a b) = sem.Hosts n a b
step_in env (step.Spawns k args) = sem.Spawns k (args_of env args.now)

abbrev pub part_in : Env → Part → sem.Part
part_in env (part.Gives v) = sem.Gives v
part_in env (part.Fails t) = sem.Fails t
part_in env (part.Steps s) = sem.Steps (step_in env s)
part_in env (part.Retags p kind n) = sem.Retags p kind n
part_in env (part.Copies d s n) = sem.Copies d s n
part_in env (part.Calls k args ty attr) = sem.Calls k (args_of env args.now) ty attr
part_in env (part.Joins c ty attr) = sem.Joins c ty attr
