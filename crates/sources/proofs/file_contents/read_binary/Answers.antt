use Rattle.std.proofs.Common.{◌+◌, ◌<◌, length, arith}
use Rattle.wasm_ast.specs.Limits.{max_module_bytes}
use Rattle.sources.proofs.Disks.{too_long, whole}
use Rattle.sources.proofs.file_contents.read_binary.Goals as goal

pub returns-then-len-gt-MAX_MODULE_BYTES-clause-found : goal.returns-then-len-gt-MAX_MODULE_BYTES-clause-found
returns-then-len-gt-MAX_MODULE_BYTES-clause-found g c =
    let front = c.in_ok-bytes.bytes.items in
    let long : max_module_bytes < length front = omega arith in
    too_long (g.F.Files.disk c.args.files.now) c.args.path.now front (max_module_bytes + 1) _ long c.in_ok-bytes.ensures.found

pub returns-clause-found : goal.returns-clause-found
returns-clause-found g c =
    let front = c.in_ok-bytes.bytes.items in
    let few : length front < max_module_bytes + 1 = omega arith in
    whole (g.F.Files.disk c.args.files.now) c.args.path.now front (max_module_bytes + 1) few c.in_ok-bytes.ensures.found
