use Rattle.std.proofs.Common.{◌∷◌, [], subst}
use Rattle.std.specs.Prelude.{string_bytes}
use Rattle.sources.specs.Disk.{Tries, Writes}
use Rattle.sources.proofs.Faults.{is_fault}
use Rattle.conversions.specs.Importing.{files_of, names_written}
use Rattle.conversions.proofs.Imports.{graph_unwritten}
use Rattle.sources.proofs.Writes.{tries_behind, tries_front, tries_no_file, writes_behind}
use Rattle.conversions.proofs.importing.write_made.Goals as goal

pub returns-in_err-told-clause-tried : goal.returns-in_err-told-clause-tried
returns-in_err-told-clause-tried g c =
    rw (is_fault _ _ c.from_residual.ensures.1) (tries_no_file (files_of c.args.asked c.args.made.now) (g.F.Files.disk c.args.files.now))

pub returns-in_err-write_names-clause-refused : goal.returns-in_err-write_names-clause-refused
returns-in_err-write_names-clause-refused g c =
    rw (is_fault _ _ c.from_residual-in_err-write_names.ensures.1) c.in_err-write_names.ensures.refused

pub returns-in_err-write_names-clause-tried : goal.returns-in_err-write_names-clause-tried
returns-in_err-write_names-clause-tried g c =
    rw (is_fault _ _ c.from_residual-in_err-write_names.ensures.1)
    (tries_front (names_written c.args.asked.names c.args.made.now.names) ((c.args.asked.graph.now, string_bytes c.args.made.now.text) ∷ [])
    (g.F.Files.disk c.args.files.now) (g.F.Files.disk c.write_names.new.files) c.in_err-write_names.ensures.tried)

pub returns-in_err-write-clause-refused : goal.returns-in_err-write-clause-refused
returns-in_err-write-clause-refused g c =
    rw (is_fault _ _ c.from_residual-in_err-write.ensures.1)
    (graph_unwritten (g.F.Files.disk c.write_names.new.files) c.args.asked c.in_err-write.field-0.0 c.in_err-write.ensures.refused)

pub returns-in_err-write-clause-tried : goal.returns-in_err-write-clause-tried
returns-in_err-write-clause-tried g c =
    rw (is_fault _ _ c.from_residual-in_err-write.ensures.1)
    (tries_behind (names_written c.args.asked.names c.args.made.now.names) c.args.asked.graph.now (string_bytes c.args.made.now.text)
    (g.F.Files.disk c.args.files.now) (g.F.Files.disk c.write_names.new.files) (g.F.Files.disk c.write.new.files)
    c.in_ok-write_names.ensures.written
    (subst (λ bytes. Tries c.args.asked.graph.now bytes (g.F.Files.disk c.write_names.new.files) (g.F.Files.disk c.write.new.files))
    c.as_bytes.ensures.value c.in_err-write.ensures.tried))

pub returns-clause-answered : goal.returns-clause-answered
returns-clause-answered g c = record {
  written =
      writes_behind (names_written c.args.asked.names c.args.made.now.names) c.args.asked.graph.now (string_bytes c.args.made.now.text)
      (g.F.Files.disk c.args.files.now) (g.F.Files.disk c.write_names.new.files) (g.F.Files.disk c.write.new.files)
      c.in_ok-write_names.ensures.written
      (subst (λ bytes. Writes c.args.asked.graph.now bytes (g.F.Files.disk c.write_names.new.files) (g.F.Files.disk c.write.new.files))
      c.as_bytes.ensures.value c.in_ok-write.ensures.written);
  line_of_counts = c.in_ok-told.ensures;
}
