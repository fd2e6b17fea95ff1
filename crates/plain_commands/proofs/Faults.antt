-- What want of memory in a call says of a command.
use Rattle.std.proofs.Common.{ℕ, List}
use Rattle.wasm_ast.specs.declared.module.Module.{Module}
use Rattle.sources.specs.declared.fault.CommandFault.{CommandFault}
use Rattle.sources.specs.declared.fault.CommandFault.TheVariants as command
use Rattle.sources.specs.Source.{IsWant}
use Rattle.plain_commands.specs.ComputeCall.{IsWantOfCall, RefusesText}

-- want of memory in a call is one of the wants
pub want_of_call : (fault : CommandFault) → IsWantOfCall fault → IsWant fault
want_of_call command.Run is = tt
want_of_call command.OutOfMemory is = tt
want_of_call fault is = absurd is

-- it says nothing of the text
pub text_refused : (m : Module) (text : List ℕ) (fault : CommandFault) → IsWantOfCall fault → RefusesText m text fault
text_refused m text command.Run is = tt
text_refused m text command.OutOfMemory is = tt
text_refused m text fault is = absurd is
