use Rattle.std.proofs.Common.{inl, inr}
use Rattle.sources.specs.Jobs.{IsGraphIn}
use Rattle.sources.proofs.Disks.{holds_before, no_graph_before, stays_again}
use Rattle.sources.proofs.Faults.{MatchResult-along, is_fault}
use Rattle.plain_commands.proofs.opening.job_of.Goals as goal

pub returns-in_err-verified-clause-found : goal.returns-in_err-verified-clause-found
returns-in_err-verified-clause-found g c = rw (is_fault _ _ c.from_residual.ensures.1) (inl c.in_err-verified.ensures.found)

pub returns-in_err-graph-clause-found : goal.returns-in_err-graph-clause-found
returns-in_err-graph-clause-found g c =
    let disk = g.F.Files.disk c.args.files.now in
    rw (is_fault _ _ c.from_residual-in_err-graph.ensures.1)
    (inr (
      c.in_ok-verified.verified,
      c.in_ok-verified.ensures.found,
      inl (no_graph_before disk (g.F.Files.disk c.load_within.new.files) c.args.asked.graph.now c.in_ok-verified.ensures.kept _ c.in_err-graph.ensures.found),
    ))

pub returns-clause-found : goal.returns-clause-found
returns-clause-found g c =
    let disk = g.F.Files.disk c.args.files.now in
    let middle = g.F.Files.disk c.load_within.new.files in
    let graph = c.in_ok-graph.graph in
    let read = holds_before disk middle c.args.asked.graph.now (λ text. IsGraphIn text graph) c.in_ok-verified.ensures.kept c.in_ok-graph.ensures.found in
    MatchResult-along c.open.result
    (λ job is. record {
      m = c.in_ok-verified.verified;
      loaded = c.in_ok-verified.ensures.found;
      graph = graph;
      read = read;
      is_job = is;
    })
    (λ fault is. inr (c.in_ok-verified.verified, c.in_ok-verified.ensures.found, inr (graph, read, is)))
    c.open.ensures.opened

pub returns-in_err-graph-clause-kept : goal.returns-in_err-graph-clause-kept
returns-in_err-graph-clause-kept g c =
    stays_again (g.F.Files.disk c.args.files.now) (g.F.Files.disk c.load_within.new.files) (g.F.Files.disk c.read_graph.new.files)
    c.in_ok-verified.ensures.kept c.in_err-graph.ensures.kept

pub returns-clause-kept : goal.returns-clause-kept
returns-clause-kept g c =
    stays_again (g.F.Files.disk c.args.files.now) (g.F.Files.disk c.load_within.new.files) (g.F.Files.disk c.read_graph.new.files)
    c.in_ok-verified.ensures.kept c.in_ok-graph.ensures.kept
