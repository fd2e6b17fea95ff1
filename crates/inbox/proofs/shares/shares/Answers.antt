use Rattle.std.proofs.Common.{◌≡◌, ◌∙◌, ◌++◌, ◌∷◌, [], ℕ, List, ap, append_assoc, sym}
use Rattle.std.specs.Global.{Vec}
use Rattle.std.proofs.lemmas.List.{flat_map_more}
use Rattle.std.specs.List.{flat_map}
use Rattle.inbox.specs.declared.shares.Share.{Share}
use Rattle.inbox.specs.inside.Shares.{parts_of}
use Rattle.inbox.proofs.shares.shares.Goals as goal

-- the parts at the front of the rest are of one share more
one_more : (before after : List Share) (share : Share) (rest others ids : List (Vec ℕ)) → after ≡ before ++ share ∷ [] → rest ≡ parts_of share ++ others
    → flat_map parts_of before ++ rest ≡ ids → flat_map parts_of after ++ others ≡ ids
one_more before after share rest others ids pushed cut so_far =
    let parts = flat_map parts_of before in
    ap (λ shares. flat_map parts_of shares ++ others) pushed
    ∙ ap (λ all. all ++ others) (sym (flat_map_more parts_of [] before share))
    ∙ append_assoc parts (parts_of share) others
    ∙ ap (λ left. parts ++ left) (sym cut)
    ∙ so_far

pub loop-rest-preserved : goal.loop-rest-preserved
loop-rest-preserved c =
    one_more c.loop-rest.shares.items c.push.new.self.items _ c.loop-rest.rest.now c.split_at.result.1.now c.args.ids.now
    c.in_ok-push.ensures.items c.split_at.ensures.by_index.0 c.loop-rest.invariant
