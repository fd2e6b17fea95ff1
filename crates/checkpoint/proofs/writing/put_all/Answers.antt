use Rattle.std.proofs.Common.{◌≡◌, ◌+◌, ◌∙◌, ◌++◌, ◌∷◌, [], ap, subst, sym, take}
use Rattle.std.proofs.lemmas.List.{take_all, take_more}
use Rattle.std.specs.List.{AllByRecursion, flat_map}
use Rattle.checkpoint.proofs.Appending.{appended_more, each_more}
use Rattle.checkpoint.proofs.writing.put_all.Goals as goal

pub loop-item-preserved : goal.loop-item-preserved
loop-item-preserved g c =
    let item = c.item-item.result in
    let seen = take c.loop-item.item-index c.args.items.now in
    let more : seen ++ item ∷ [] ≡ take (c.loop-item.item-index + 1) c.args.items.now =
    (λ i. seen ++ c.item-item.is i ∷ []) ∙ sym (take_more c.args.items.now c.loop-item.item-index item c.loop-item-test.true) in
    record {
      appended = subst (λ items. c.put.new.out.items ≡ c.args.out.now.items ++ flat_map g.T.Spelled.spelling items) more
          (appended_more g.T.Spelled.spelling c.args.out.now.items [] c.loop-item.out.items c.put.new.out.items seen item c.loop-item.invariant.appended c.in_ok-put.ensures.appended);
      fits = subst (AllByRecursion g.T.Spelled.fits) more (each_more g.T.Spelled.fits seen item c.loop-item.invariant.fits c.in_ok-put.ensures.fits);
    }

pub returns-clause-appended : goal.returns-clause-appended
returns-clause-appended g c =
    let all = take_all c.loop-item.item-index c.args.items.now c.loop-item-test.false in
    c.loop-item.invariant.appended ∙ ap (λ items. c.args.out.now.items ++ flat_map g.T.Spelled.spelling items) all

pub returns-clause-fits : goal.returns-clause-fits
returns-clause-fits g c =
    subst (AllByRecursion g.T.Spelled.fits) (take_all c.loop-item.item-index c.args.items.now c.loop-item-test.false) c.loop-item.invariant.fits
