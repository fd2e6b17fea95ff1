use Rattle.graph.proofs.Spreading.{first_rising, others_rising}
use Rattle.graph.proofs.spread.+stretches.Goals as goal

pub place_stretches-place_both-requires-clause-first_rises : goal.place_stretches-place_both-requires-clause-first_rises
place_stretches-place_both-requires-clause-first_rises g t c κs within = first_rising c.args.vertices.now _ _ c.split_at_mut-first.ensures.value c.requires

pub place_stretches-place_both-requires-clause-others_rise : goal.place_stretches-place_both-requires-clause-others_rise
place_stretches-place_both-requires-clause-others_rise g t c κs within = others_rising c.args.vertices.now _ _ c.split_at_mut-first.ensures.value c.requires
