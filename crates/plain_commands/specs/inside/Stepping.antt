-- How a line is added to the steps so far.
use Rattle.std.specs.Prelude.{List, [], ◌∷◌, ◌++◌, Result, Ok, Err}
use Rattle.rollback.specs.declared.simulation.Step.{Step}
use Rattle.plain_commands.specs.declared.step_line.StepLine.{StepLine}
use Rattle.plain_commands.specs.declared.step_line.StepLine.TheVariants.{Skipped, Says, Bad}

-- the steps with the step of the line; a bad line is not added
abbrev pub with_step : List Step → StepLine → Result (List Step) StepLine
with_step steps Skipped = Ok steps
with_step steps (Says step) = Ok (steps ++ step ∷ [])
with_step steps Bad = Err Bad
