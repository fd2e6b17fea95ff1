use Rattle.std.proofs.Common.{Vec, Global, List, subst, sym}
use Rattle.std.proofs.lemmas.Result.{IfOk-weaker}
use Rattle.std.specs.List.{AllZip}
use Rattle.std.specs.Prelude.{IfOk}
use Rattle.inbox.specs.declared.all_parts.Delivered.{Delivered}
use Rattle.inbox.specs.declared.all_parts.Filed.{Filed}
use Rattle.inbox.specs.declared.all_parts.Filed.TheVariants.{ByTarget, InBlocks}
use Rattle.inbox.specs.declared.all_parts.Sorted.{Sorted}
use Rattle.inbox.specs.declared.filing.PartBlocks.{PartBlocks}
use Rattle.inbox.specs.inside.Filing.{IsFiled, IsMadeFrom, IsMadeOf}
use Rattle.inbox.specs.inside.Shares.{ArePutIn}
use Rattle.inbox.proofs.InShares.{parts_made, parts_put}
use Rattle.inbox.proofs.all_parts.made_of_share.Goals as goal

made_of_blocks : (parts : Vec PartBlocks Global) (all : Vec Delivered Global) → AllZip IsMadeFrom parts.items all.items → IsMadeOf (InBlocks parts) all
unfolding IsFiled
made_of_blocks parts all made = record {
  made = λ letters share own. parts_made letters own.some own.target_set own.are share.parts.now parts.items all.items own.within own.each made;
}

made_by_target : (sorted : Sorted) (all : Vec Delivered Global) → AllZip (ArePutIn sorted.letters.items) sorted.parts.now all.items → IsMadeOf (ByTarget sorted) all
unfolding IsFiled
made_by_target sorted all put = record {
  made = λ letters share own.
      parts_put letters own.target_set sorted.letters.items own.by share.parts.now all.items own.within
      (subst (λ (parts : List (Vec _ Global)). AllZip (ArePutIn sorted.letters.items) parts all.items) own.same put);
}

pub returns-in-InBlocks : goal.returns-in-InBlocks
returns-in-InBlocks g c =
    subst (λ (filed : Filed). IfOk c.made_parts.result (IsMadeOf filed)) (sym c.in-InBlocks.is)
    (IfOk-weaker c.made_parts.result _ _ (λ all made. made_of_blocks c.in-InBlocks.parts all (rw c.deref.ensures.value at made)) c.made_parts.ensures)

pub returns-in-ByTarget : goal.returns-in-ByTarget
returns-in-ByTarget g c =
    subst (λ (filed : Filed). IfOk c.put_to_parts.result (IsMadeOf filed)) (sym c.in-ByTarget.is)
    (IfOk-weaker c.put_to_parts.result _ _ (λ all put. made_by_target c.in-ByTarget.sorted all (rw c.deref-in-ByTarget.ensures.value at put)) c.put_to_parts.ensures)
