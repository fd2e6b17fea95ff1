-- What an answer says, case by case.
use Rattle.std.proofs.Common.{◌≡◌, Option, Some, None, Result, Ok, Err, sym}
use Rattle.std.specs.Prelude.{IfOk, IfSome, String, is_some, string_bytes}
use Rattle.std.specs.Borrow.{Bor}
use Rattle.sources.specs.declared.file_contents.Source.{Source}
use Rattle.sources.specs.declared.fault.CommandFault.{CommandFault}
use Rattle.explanations.specs.Explanation.{Answers, Explains, is_explained}

pub whether : {Z E : Type 0} (source : Option (Bor Source)) (fault : CommandFault) (r : Result (Option (String Z)) E) → Answers source fault r
    → IfOk r (λ told. is_some told ≡ is_explained fault)
whether source fault (Ok None) is = sym is
whether source fault (Ok (Some told)) is = sym is.0
whether source fault (Err e) is = tt

pub explained : {Z E : Type 0} (source : Option (Bor Source)) (fault : CommandFault) (r : Result (Option (String Z)) E) → Answers source fault r
    → IfOk r (λ told. IfSome told (λ text. Explains source fault (string_bytes text)))
explained source fault (Ok None) is = tt
explained source fault (Ok (Some told)) is = is.1
explained source fault (Err e) is = tt
