use Rattle.std.proofs.Common.{◌≡◌, ◌∙◌, Bool, true, false, cond, refl, sym}
use Rattle.std.specs.Prelude.{codes}
use Rattle.std.specs.Str.{bytes_eq}
use Rattle.plain_commands.specs.declared.step_line.StepLine.TheVariants.{Bad}
use Rattle.plain_commands.proofs.step_line.of_worker.Goals as goal

-- without a number the line is bad, whatever its name
bad_anyway : (take work lose join : Bool) → Bad ≡ cond take Bad (cond work Bad (cond lose Bad (cond join Bad Bad)))
bad_anyway true work lose join = refl
bad_anyway false true lose join = refl
bad_anyway false false true join = refl
bad_anyway false false false true = refl
bad_anyway false false false false = refl

pub returns-in-None : goal.returns-in-None
returns-in-None c =
    let name = c.args.name.now in
    rw (sym c.u32_of.ensures ∙ c.in-None.is)
    (bad_anyway (bytes_eq name (codes "take")) (bytes_eq name (codes "work")) (bytes_eq name (codes "lose")) (bytes_eq name (codes "join")))
