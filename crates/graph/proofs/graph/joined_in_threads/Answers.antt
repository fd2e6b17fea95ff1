use Rattle.std.proofs.Common.{◌≢◌, rules}
use Rattle.graph.specs.declared.fault.GraphFault.TheVariants.{OutOfMemory}
use Rattle.graph.specs.inside.Read.{ReadsNoGraph}
use Rattle.graph.proofs.Texts.{reads_graph, unknown_none}
use Rattle.graph.proofs.graph.joined_in_threads.Goals as goal

pub returns-in_err-place_in_threads-clause-only : goal.returns-in_err-place_in_threads-clause-only
returns-in_err-place_in_threads-clause-only g c =
    let refused : c.in_err-place_in_threads.field-0.0 ≢ OutOfMemory → ReadsNoGraph c.args.text.now =
    λ told. unknown_none c.args.text.now c.in_ok-sorted.sorted c.in_ok-sorted.ensures.found
    (rw (c.deref.ensures.value, c.deref_mut.ensures.value) at (c.in_err-place_in_threads.ensures.only told)) in
    search (rules, refused)

pub returns-clause-found : goal.returns-clause-found
returns-clause-found g c =
    reads_graph c.args.text.now c.in_ok-sorted.sorted _ c.in_ok-sorted.ensures.found (rw (c.deref.ensures.value, c.deref_mut.ensures.value) at c.in_ok-place_in_threads.ensures.ends)
    (rw (c.deref.ensures.value, c.deref_mut.ensures.value) at c.in_ok-place_in_threads.ensures.placed)
